-- What a walk leaves behind, from the names that are bound and those that are free on its way.
use Rattle.std.proofs.Common.{◌≡◌, ℕ, zero, suc, Bool, true, false, List, [], ◌∷◌, ◌++◌, length, Option, Some, None, refl, sym, ap, ◌∙◌, cond, arith}
use Rattle.std.specs.Prelude.{◌||◌, not, take, filter, nat_eq, if◌then◌else◌}
use Rattle.std.specs.Cmp.Lexicographic.{pointwise, bytes_decides}
use Rattle.std.specs.List.{list_any}
use Rattle.std.specs.Str.{bytes_eq}
use Rattle.check_verdict.specs.declared.survey.Survey.{Survey}
use Rattle.check_verdict.specs.Names.{with_name}
use Rattle.check_verdict.specs.Survey.{bound_by, mentioned, entered, second_by, free_with}
use Rattle.check_grammar.specs.Forms.{has, without}

-- what holds on both ways of a test holds
pub branch : {A : Type 0} (P : A → Type 0) (t : Bool) {x y : A} → (t ≡ true → P x) → (t ≡ false → P y) → P (cond t x y)
branch P true f g = f refl
branch P false f g = g refl

abbrev pub with_names : List (List ℕ) → List (List ℕ) → List (List ℕ)
with_names ns [] = ns
with_names ns (x ∷ xs) = with_names (with_name ns x) xs

abbrev pub second_of : List (List ℕ) → Option (List ℕ) → List (List ℕ) → Option (List ℕ)
second_of ns o [] = o
second_of ns o (x ∷ xs) = second_of (with_name ns x) (second_by ns o x) xs

abbrev pub free_of : List (List ℕ) → List (List ℕ) → List (List ℕ) → List (List ℕ)
free_of scope free [] = free
free_of scope free (x ∷ xs) = free_of scope (free_with scope free x) xs

-- behind these binders and these free names
abbrev pub after : Survey → List (List ℕ) → List (List ℕ) → Survey
after s bs fs = record { scope = s.scope; bound = with_names s.bound bs; second = second_of s.bound s.second bs; defined = s.defined; free = free_of s.scope s.free fs }

-- behind these formals
abbrev pub taken : Survey → List (List ℕ) → Survey
taken s xs = record { scope = with_names s.scope xs; bound = with_names s.bound xs; second = second_of s.bound s.second xs; defined = s.defined; free = s.free }

-- with these names in scope
abbrev pub scoping : Survey → List (List ℕ) → Survey
scoping s xs = record s { scope = with_names s.scope xs }

pub names_append : (ns xs ys : List (List ℕ)) → with_names ns (xs ++ ys) ≡ with_names (with_names ns xs) ys
names_append ns [] ys = refl
names_append ns (x ∷ xs) ys = names_append (with_name ns x) xs ys

pub second_append : (ns : List (List ℕ)) (o : Option (List ℕ)) (xs ys : List (List ℕ)) → second_of ns o (xs ++ ys) ≡ second_of (with_names ns xs) (second_of ns o xs) ys
second_append ns o [] ys = refl
second_append ns o (x ∷ xs) ys = second_append (with_name ns x) (second_by ns o x) xs ys

pub free_append : (scope free xs ys : List (List ℕ)) → free_of scope free (xs ++ ys) ≡ free_of scope (free_of scope free xs) ys
free_append scope free [] ys = refl
free_append scope free (x ∷ xs) ys = free_append scope (free_with scope free x) xs ys

-- one behind another
pub after_append : (s : Survey) (bs cs fs gs : List (List ℕ)) → after (after s bs fs) cs gs ≡ after s (bs ++ cs) (fs ++ gs)
after_append s bs cs fs gs = rw (names_append s.bound bs cs, second_append s.bound s.second bs cs, free_append s.scope s.free fs gs) refl

-- names in scope

same_text : (x y : List ℕ) → bytes_eq x y ≡ true → x ≡ y
same_text x y h = (bytes_decides x y).0 h

pub has_append : (xs ys : List (List ℕ)) (x : List ℕ) → has (xs ++ ys) x ≡ (has xs x || has ys x)
has_append [] ys x = refl
has_append (y ∷ xs) ys x = by (bytes_eq x y) (has_append xs ys x) where
  by : (b : Bool) → has (xs ++ ys) x ≡ (has xs x || has ys x) → (b || has (xs ++ ys) x) ≡ ((b || has xs x) || has ys x)
  by true e = refl
  by false e = e

or_false : (b : Bool) → (b || false) ≡ b
or_false true = refl
or_false false = refl

or_same : (b : Bool) → b ≡ true → (b || true) ≡ b
or_same true h = refl
or_same false h = absurd (cc)

-- a name that is put there is there beside the others
pub has_with : (ns : List (List ℕ)) (x y : List ℕ) → has (with_name ns x) y ≡ (has ns y || bytes_eq y x)
has_with ns x y =
    branch (λ (l : List (List ℕ)). has l y ≡ (has ns y || bytes_eq y x)) (has ns x) (λ h. by (bytes_eq y x) refl h)
    (λ _. has_append ns (x ∷ []) y ∙ ap (λ (b : Bool). has ns y || b) (or_false (bytes_eq y x)))
  where
    by : (b : Bool) → bytes_eq y x ≡ b → has ns x ≡ true → has ns y ≡ (has ns y || b)
    by true e h = let there : has ns y ≡ true = rw (same_text y x e) h in sym (or_same (has ns y) there)
    by false e h = sym (or_false (has ns y))

or_assoc : (a b c : Bool) → ((a || b) || c) ≡ (a || (b || c))
or_assoc true b c = refl
or_assoc false b c = refl

pub has_names : (ns xs : List (List ℕ)) (y : List ℕ) → has (with_names ns xs) y ≡ (has ns y || has xs y)
has_names ns [] y = sym (or_false (has ns y))
has_names ns (x ∷ xs) y = has_names (with_name ns x) xs y ∙ ap (λ (b : Bool). b || has xs y) (has_with ns x y) ∙ or_assoc (has ns y) (bytes_eq y x) (has xs y)

-- where more names are in scope, fewer are free
pub free_without : (scope xs free fs : List (List ℕ)) → free_of (with_names scope xs) free fs ≡ free_of scope free (without xs fs)
free_without scope xs free [] = refl
free_without scope xs free (f ∷ fs) = ap (λ (l : List (List ℕ)). free_of (with_names scope xs) l fs) first ∙ free_without scope xs (cond (has scope f || has xs f) free (with_name free f)) fs ∙ by (has xs f) refl
  where
    first : free_with (with_names scope xs) free f ≡ cond (has scope f || has xs f) free (with_name free f)
    first = ap (λ (b : Bool). cond b free (with_name free f)) (has_names scope xs f)

    by : (b : Bool) → has xs f ≡ b → free_of scope (cond (has scope f || b) free (with_name free f)) (without xs fs) ≡ free_of scope free (cond (not b) (f ∷ without xs fs) (without xs fs))
    by true e = ap (λ (c : Bool). free_of scope (cond c free (with_name free f)) (without xs fs)) (or_true (has scope f)) where
      or_true : (b : Bool) → (b || true) ≡ true
      or_true true = refl
      or_true false = refl
    by false e = ap (λ (c : Bool). free_of scope (cond c free (with_name free f)) (without xs fs)) (or_false (has scope f))

-- names that were put behind others are taken away again

take_all : (xs ys : List (List ℕ)) → take (length xs) (xs ++ ys) ≡ xs
take_all [] ys = refl
take_all (x ∷ xs) ys = ap (λ (l : List (List ℕ)). x ∷ l) (take_all xs ys)

record Longer (ns ms : List (List ℕ)) : Type 0 where
  more : List (List ℕ)
  is : ms ≡ ns ++ more

one_longer : (ns : List (List ℕ)) (x : List ℕ) → Longer ns (with_name ns x)
one_longer ns x = branch (λ (l : List (List ℕ)). Longer ns l) (has ns x) (λ _. record { more = []; is = sym (append_none ns) }) (λ _. record { more = x ∷ []; is = refl })
  where
    append_none : (xs : List (List ℕ)) → xs ++ [] ≡ xs
    append_none [] = refl
    append_none (x ∷ xs) = ap (λ (l : List (List ℕ)). x ∷ l) (append_none xs)

longer : (ns xs : List (List ℕ)) → Longer ns (with_names ns xs)
longer ns [] = record { more = []; is = sym (append_none ns) } where
  append_none : (xs : List (List ℕ)) → xs ++ [] ≡ xs
  append_none [] = refl
  append_none (x ∷ xs) = ap (λ (l : List (List ℕ)). x ∷ l) (append_none xs)
longer ns (x ∷ xs) =
    let first = one_longer ns x in
    let others = longer (with_name ns x) xs in
    record { more = first.more ++ others.more; is = others.is ∙ ap (λ (l : List (List ℕ)). l ++ others.more) first.is ∙ assoc ns first.more others.more }
  where
    assoc : (xs ys zs : List (List ℕ)) → (xs ++ ys) ++ zs ≡ xs ++ (ys ++ zs)
    assoc [] ys zs = refl
    assoc (x ∷ xs) ys zs = ap (λ (l : List (List ℕ)). x ∷ l) (assoc xs ys zs)

pub kept : (ns xs : List (List ℕ)) → take (length ns) (with_names ns xs) ≡ ns
kept ns xs = let r = longer ns xs in ap (λ (l : List (List ℕ)). take (length ns) l) r.is ∙ take_all ns r.more
