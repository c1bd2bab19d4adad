-- Which of the names of a text is the first with a second binder, and which is the first that is free.
use Rattle.std.proofs.Common.{◌≡◌, ℕ, Bool, true, false, List, [], ◌∷◌, ◌++◌, Option, Some, None, refl, sym, ap, ◌∙◌, cond}
use Rattle.std.specs.Prelude.{◌||◌, not, if◌then◌else◌}
use Rattle.std.specs.Cmp.Lexicographic.{bytes_decides}
use Rattle.std.specs.Str.{bytes_eq}
use Rattle.check_verdict.proofs.Effects.{branch, with_names, second_of, free_of, names_append, second_append, has_names, has_with, has_append}
use Rattle.check_verdict.specs.Judged.{Once, IsSecond, Within, IsFirstOut}
use Rattle.check_verdict.specs.Lines.{first_free}
use Rattle.check_verdict.specs.Names.{with_name}
use Rattle.check_verdict.specs.Survey.{second_by, or_first}
use Rattle.check_grammar.specs.Forms.{has}

abbrev Words : Type 0
Words = List (List ℕ)

same_text : (x y : List ℕ) → bytes_eq x y ≡ true → x ≡ y
same_text x y h = (bytes_decides x y).0 h

eq_self : (x : List ℕ) → bytes_eq x x ≡ true
eq_self x = (bytes_decides x x).1 refl

true_false : (b : Bool) → b ≡ true → b ≡ false → ⊥
true_false b h k = cc

or_both : (b c : Bool) → b ≡ false → c ≡ false → (b || c) ≡ false
or_both true c h k = absurd (cc)
or_both false c h k = k

or_first_false : (b c : Bool) → (b || c) ≡ false → b ≡ false
or_first_false true c h = absurd (cc)
or_first_false false c h = refl

or_second_false : (b c : Bool) → (b || c) ≡ false → c ≡ false
or_second_false true c h = absurd (cc)
or_second_false false c h = h

or_right : (b c : Bool) → c ≡ true → (b || c) ≡ true
or_right true c h = refl
or_right false c h = h

not_true : (b : Bool) → (b ≡ true → ⊥) → b ≡ false
not_true true h = absurd (h refl)
not_true false h = refl

-- none of these names is one of the others
abbrev Clear : Words → Words → Type 0
Clear ns xs = (y : List ℕ) → has xs y ≡ true → has ns y ≡ false

-- names that are apart from those with one more are apart from it, and from the others
apart : (ns xs : Words) (x : List ℕ) → Clear (with_name ns x) xs → has xs x ≡ false
apart ns xs x c = not_true (has xs x) (λ h. true_false (has (with_name ns x) x) (has_with ns x x ∙ or_right (has ns x) (bytes_eq x x) (eq_self x)) (c x h))

clear_on : (ns xs : Words) (x : List ℕ) → has ns x ≡ false → Clear (with_name ns x) xs → Clear ns (x ∷ xs)
clear_on ns xs x n c y h = by (bytes_eq y x) refl h where
  by : (b : Bool) → bytes_eq y x ≡ b → (b || has xs y) ≡ true → has ns y ≡ false
  by true e g = rw (same_text y x e) n
  by false e g = or_first_false (has ns y) (bytes_eq y x) (sym (has_with ns x y) ∙ c y g)

clear_with : (ns xs : Words) (x : List ℕ) → has xs x ≡ false → Clear ns (x ∷ xs) → Clear (with_name ns x) xs
clear_with ns xs x n c y h = has_with ns x y ∙ or_both (has ns y) (bytes_eq y x) (c y (or_right (bytes_eq y x) (has xs y) h)) (not_true (bytes_eq y x) (λ e. true_false (has xs x) (rw (same_text y x e) at h) n))

-- binders

second_stays : (ns : Words) (x : List ℕ) (xs : Words) → second_of ns (Some x) xs ≡ Some x
second_stays ns x [] = refl
second_stays ns x (y ∷ xs) = branch (λ (o : Option (List ℕ)). second_of (with_name ns y) o xs ≡ Some x) (has ns y) (λ _. second_stays (with_name ns y) x xs) (λ _. second_stays (with_name ns y) x xs)

-- a binder of another name, and one of a name that has a binder
second_new : (ns : Words) (x : List ℕ) (xs : Words) → has ns x ≡ false → second_of ns None (x ∷ xs) ≡ second_of (with_name ns x) None xs
second_new ns x xs h = ap (λ (b : Bool). second_of (with_name ns x) (cond b (Some x) None) xs) h

second_old : (ns : Words) (x : List ℕ) (xs : Words) → has ns x ≡ true → second_of ns None (x ∷ xs) ≡ Some x
second_old ns x xs h = ap (λ (b : Bool). second_of (with_name ns x) (cond b (Some x) None) xs) h ∙ second_stays (with_name ns x) x xs

some_is : {A : Type 0} {x y : A} → Some x ≡ Some y → x ≡ y
some_is e = cc

none_some : {A : Type 0} {x : A} {B : Type 0} → None ≡ Some x → B
none_some e = absurd (cc)

record Apart (ns xs : Words) : Type 0 where
  once : Once xs
  clear : Clear ns xs

all_apart : (ns xs : Words) → second_of ns None xs ≡ None → Apart ns xs
all_apart ns [] e = record { once = Once.no_name; clear = λ y h. absurd (cc) }
all_apart ns (x ∷ xs) e = by (has ns x) refl (all_apart (with_name ns x) xs) where
  by : (b : Bool) → has ns x ≡ b → (second_of (with_name ns x) None xs ≡ None → Apart (with_name ns x) xs) → Apart ns (x ∷ xs)
  by true h go = none_some (sym e ∙ second_old ns x xs h)
  by false h go =
      let a = go (sym (second_new ns x xs h) ∙ e) in
      record { once = Once.name (apart ns xs x a.clear) a.once; clear = clear_on ns xs x h a.clear }

no_second : (ns xs : Words) → Once xs → Clear ns xs → second_of ns None xs ≡ None
no_second ns [] o c = refl
no_second ns (x ∷ xs) (Once.name n o) c =
    second_new ns x xs (c x (ap (λ (b : Bool). b || has xs x) (eq_self x))) ∙ no_second (with_name ns x) xs o (clear_with ns xs x n c)

nothing_clear : (xs : Words) → Clear [] xs
nothing_clear xs y h = refl

pub once_none : (xs : Words) → Once xs → second_of [] None xs ≡ None
once_none xs o = no_second [] xs o (nothing_clear xs)

pub none_once : (xs : Words) → second_of [] None xs ≡ None → Once xs
none_once xs e = (all_apart [] xs e).once

pub second_some : (x : List ℕ) (xs : Words) → IsSecond x xs → second_of [] None xs ≡ Some x
second_some x _ (IsSecond.second xs ys o h) =
    second_append [] None xs (x ∷ ys) ∙ ap (λ (p : Option (List ℕ)). second_of (with_names [] xs) p (x ∷ ys)) (once_none xs o) ∙ second_old (with_names [] xs) x ys (has_names [] xs x ∙ h)

record Second (ns : Words) (x : List ℕ) (all : Words) : Type 0 where
  xs : Words
  ys : Words
  is : all ≡ xs ++ x ∷ ys
  apart : Apart ns xs
  again : (has ns x || has xs x) ≡ true

or_moves : (a b c : Bool) → ((a || b) || c) ≡ true → (a || (b || c)) ≡ true
or_moves true b c h = refl
or_moves false b c h = h

or_left : (b c : Bool) → b ≡ true → (b || c) ≡ true
or_left true c h = refl
or_left false c h = absurd (cc)

second_is : (ns all : Words) (x : List ℕ) → second_of ns None all ≡ Some x → Second ns x all
second_is ns [] x e = none_some e
second_is ns (y ∷ all) x e = by (has ns y) refl (second_is (with_name ns y) all x) where
  by : (b : Bool) → has ns y ≡ b → (second_of (with_name ns y) None all ≡ Some x → Second (with_name ns y) x all) → Second ns x (y ∷ all)
  by true h go =
      let same : y ≡ x = some_is (sym (second_old ns y all h) ∙ e) in
      record {
        xs = [];
        ys = all;
        is = ap (λ (z : List ℕ). z ∷ all) same;
        apart = record { once = Once.no_name; clear = λ z g. absurd (cc) };
        again = or_left (has ns x) false (rw same at h);
      }
  by false h go =
      let s = go (sym (second_new ns y all h) ∙ e) in
      record {
        xs = y ∷ s.xs;
        ys = s.ys;
        is = ap (λ (l : Words). y ∷ l) s.is;
        apart = record { once = Once.name (apart ns s.xs y s.apart.clear) s.apart.once; clear = clear_on ns s.xs y h s.apart.clear };
        again = or_moves (has ns x) (bytes_eq x y) (has s.xs x) (ap (λ (b : Bool). b || has s.xs x) (sym (has_with ns y x)) ∙ s.again);
      }

pub is_second : (x : List ℕ) (all : Words) → second_of [] None all ≡ Some x → IsSecond x all
is_second x all e = let s = second_is [] all x e in rw s.is (IsSecond.second s.xs s.ys s.apart.once s.again)

-- free names

-- the first of two
abbrev either : Option (List ℕ) → Option (List ℕ) → Option (List ℕ)
either None o = o
either (Some x) o = Some x

either_assoc : (o p q : Option (List ℕ)) → either (either o p) q ≡ either o (either p q)
either_assoc None p q = refl
either_assoc (Some x) p q = refl

either_none : (o : Option (List ℕ)) → either o None ≡ o
either_none None = refl
either_none (Some x) = refl

either_test : (b : Bool) (o : Option (List ℕ)) (x : List ℕ) → either (cond b None (Some x)) o ≡ cond b o (Some x)
either_test true o x = refl
either_test false o x = refl

free_append : (ds xs ys : Words) → first_free ds (xs ++ ys) ≡ either (first_free ds xs) (first_free ds ys)
unfolding first_free
free_append ds [] ys = refl
free_append ds (x ∷ xs) ys = by (has ds x) (free_append ds xs ys) where
  by : (b : Bool) → first_free ds (xs ++ ys) ≡ either (first_free ds xs) (first_free ds ys) → cond b (first_free ds (xs ++ ys)) (Some x) ≡ either (cond b (first_free ds xs) (Some x)) (first_free ds ys)
  by true go = go
  by false go = refl

-- where none is free, each is defined
all_defined : (ds xs : Words) (y : List ℕ) → first_free ds xs ≡ None → has xs y ≡ true → has ds y ≡ true
unfolding first_free
all_defined ds [] y e h = absurd (cc)
all_defined ds (x ∷ xs) y e h = by (has ds x) refl e (all_defined ds xs y) where
  here : (b : Bool) → bytes_eq y x ≡ b → has ds x ≡ true → (has xs y ≡ true → has ds y ≡ true) → (b || has xs y) ≡ true → has ds y ≡ true
  here true s d go g = rw (same_text y x s) d
  here false s d go g = go g

  by : (b : Bool) → has ds x ≡ b → cond b (first_free ds xs) (Some x) ≡ None → (first_free ds xs ≡ None → has xs y ≡ true → has ds y ≡ true) → has ds y ≡ true
  by true d f go = here (bytes_eq y x) refl d (go f) h
  by false d f go = none_some (sym f)

-- a name that is there already changes nothing
one_more : (ds ns : Words) (x : List ℕ) (o : Option (List ℕ)) → either (first_free ds (with_name ns x)) o ≡ either (first_free ds ns) (cond (has ds x) o (Some x))
unfolding first_free
one_more ds ns x o =
    branch (λ (l : Words). either (first_free ds l) o ≡ either (first_free ds ns) (cond (has ds x) o (Some x))) (has ns x) (λ h. there (first_free ds ns) refl h)
    (λ _. ap (λ (p : Option (List ℕ)). either p o) (free_append ds ns (x ∷ [])) ∙ either_assoc (first_free ds ns) (cond (has ds x) None (Some x)) o
    ∙ ap (either (first_free ds ns)) (either_test (has ds x) o x))
  where
    there : (p : Option (List ℕ)) → first_free ds ns ≡ p → has ns x ≡ true → either p o ≡ either p (cond (has ds x) o (Some x))
    there None e h = sym (ap (λ (b : Bool). cond b o (Some x)) (all_defined ds ns x e h))
    there (Some y) e h = refl

-- each name once is as good as all
free_with_names : (ds ns xs : Words) → first_free ds (with_names ns xs) ≡ either (first_free ds ns) (first_free ds xs)
unfolding first_free
free_with_names ds ns [] = sym (either_none (first_free ds ns))
free_with_names ds ns (x ∷ xs) = free_with_names ds (with_name ns x) xs ∙ one_more ds ns x (first_free ds xs)

-- with nothing in scope all mentions are free
no_scope : (ns xs : Words) → free_of [] ns xs ≡ with_names ns xs
no_scope ns [] = refl
no_scope ns (x ∷ xs) = no_scope (with_name ns x) xs

defined_alike : (ds es xs : Words) → ((y : List ℕ) → has ds y ≡ has es y) → first_free ds xs ≡ first_free es xs
unfolding first_free
defined_alike ds es [] h = refl
defined_alike ds es (x ∷ xs) h = ap (λ (b : Bool). cond b (first_free ds xs) (Some x)) (h x) ∙ ap (λ (o : Option (List ℕ)). cond (has es x) o (Some x)) (defined_alike ds es xs h)

pub first_is : (ds fs : Words) → first_free (with_names [] ds) (free_of [] [] fs) ≡ first_free ds fs
unfolding first_free
first_is ds fs = ap (first_free (with_names [] ds)) (no_scope [] fs) ∙ free_with_names (with_names [] ds) [] fs ∙ start ∙ defined_alike (with_names [] ds) ds fs (λ y. has_names [] ds y) where
  start : either (first_free (with_names [] ds) []) (first_free (with_names [] ds) fs) ≡ first_free (with_names [] ds) fs
  start = refl

pub none_within : (ds fs : Words) → first_free ds fs ≡ None → Within ds fs
unfolding first_free
none_within ds [] e = Within.no_name
none_within ds (f ∷ fs) e = by (has ds f) refl e (none_within ds fs) where
  by : (b : Bool) → has ds f ≡ b → cond b (first_free ds fs) (Some f) ≡ None → (first_free ds fs ≡ None → Within ds fs) → Within ds (f ∷ fs)
  by true h g go = Within.name h (go g)
  by false h g go = none_some (sym g)

pub within_none : (ds fs : Words) → Within ds fs → first_free ds fs ≡ None
unfolding first_free
within_none ds _ Within.no_name = refl
within_none ds _ (Within.name {x = x} {xs = xs} h w) = ap (λ (b : Bool). cond b (first_free ds xs) (Some x)) h ∙ within_none ds xs w

record FirstOut (x : List ℕ) (ds fs : Words) : Type 0 where
  xs : Words
  ys : Words
  is : fs ≡ xs ++ x ∷ ys
  within : Within ds xs
  not_there : has ds x ≡ false

out_is : (x : List ℕ) (ds fs : Words) → first_free ds fs ≡ Some x → FirstOut x ds fs
unfolding first_free
out_is x ds [] e = none_some e
out_is x ds (f ∷ fs) e = by (has ds f) refl e (out_is x ds fs) where
  by : (b : Bool) → has ds f ≡ b → cond b (first_free ds fs) (Some f) ≡ Some x → (first_free ds fs ≡ Some x → FirstOut x ds fs) → FirstOut x ds (f ∷ fs)
  by true h g go = let o = go g in record { xs = f ∷ o.xs; ys = o.ys; is = ap (λ (l : Words). f ∷ l) o.is; within = Within.name h o.within; not_there = o.not_there }
  by false h g go =
      let same : f ≡ x = some_is g in
      record { xs = []; ys = fs; is = ap (λ (z : List ℕ). z ∷ fs) same; within = Within.no_name; not_there = rw same at h }

pub is_out : (x : List ℕ) (ds fs : Words) → first_free ds fs ≡ Some x → IsFirstOut x ds fs
is_out x ds fs e = let o = out_is x ds fs e in rw o.is (IsFirstOut.out o.xs o.ys o.within o.not_there)

pub out_some : (x : List ℕ) (ds fs : Words) → IsFirstOut x ds fs → first_free ds fs ≡ Some x
unfolding first_free
out_some x ds _ (IsFirstOut.out xs ys w h) =
    free_append ds xs (x ∷ ys) ∙ ap (λ (o : Option (List ℕ)). either o (cond (has ds x) (first_free ds ys) (Some x))) (within_none ds xs w) ∙ ap (λ (b : Bool). cond b (first_free ds ys) (Some x)) h
