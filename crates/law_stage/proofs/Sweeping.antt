-- Which libraries a sweep from the last record reaches, and in which order they are evaluated.
use Rattle.std.proofs.Common.{◌≡◌, Bool, true, false, List, [], ◌∷◌, ◌++◌, refl, sym, ap, ◌∙◌, subst, inl, inr, append_assoc}
use Rattle.std.specs.Prelude.{◌⊎◌, ◌&&◌, ◌||◌, not, Result, Ok, Err, if◌then◌else◌}
use Rattle.std.proofs.lemmas.List.Folds.{list_any-append}
use Rattle.base_data.specs.Act.{after, give}
use Rattle.base_data.specs.Elements.{Among}
use Rattle.base_data.specs.Same.{same_library, same_library_decides}
use Rattle.base_data.specs.declared.fault.Fault.{Fault}
use Rattle.base_data.specs.declared.library.LibName.{LibName}
use Rattle.base_data.specs.declared.span.Span.{Span}
use Rattle.core_language.specs.Core.{PlainCore}
use Rattle.core_language.specs.declared.record.CompiledLibrary.{CompiledLibrary}
use Rattle.eval_code.specs.State.{Outcome, done, faulted, unfit}
use Rattle.eval_stage.specs.Libraries.{has_library, with_library, with_libraries, has_all, libraries_of, with_refs, wanted}
use Rattle.eval_stage.specs.Running.{outcome_of_lines, left_by_library, library_ended, evaluate_library, evaluate_wanted, evaluate_all, need}
use Rattle.eval_stage.specs.Stage.{PlainStage}
use Rattle.law_stage.specs.Reached.{ReachedFrom, mentioned, further, RefersBack, names_of, HaveOwnNames, lacking, evaluated_for, IsClosed}
use Rattle.law_stage.proofs.Growing.{has_more, has_with}

-- Lists of libraries.

same_itself : (k : LibName) → same_library k k ≡ true
same_itself k = (same_library_decides k k).1 refl

or_cases : (a b : Bool) → (a || b) ≡ true → (a ≡ true) ⊎ (b ≡ true)
or_cases true b h = inl refl
or_cases false b h = inr h

or_left : (a b : Bool) → (a || b) ≡ false → a ≡ false
or_left true b h = absurd (cc)
or_left false b h = refl

or_right : (a b : Bool) → (a || b) ≡ false → b ≡ false
or_right true b h = absurd (cc)
or_right false b h = h

or_true : (a b : Bool) → b ≡ true → (a || b) ≡ true
or_true true b h = refl
or_true false b h = h

or_false : (a : Bool) → (a || false) ≡ a
or_false true = refl
or_false false = refl

append_nil : (ks : List LibName) → ks ++ [] ≡ ks
append_nil [] = refl
append_nil (k ∷ ks) = ap (λ x. k ∷ x) (append_nil ks)

has_last : (ks : List LibName) (m : LibName) → has_library (ks ++ m ∷ []) m ≡ true
has_last ks m = list_any-append (same_library m) ks (m ∷ []) ∙ or_true (has_library ks m) (same_library m m || false) (ap (λ b. b || false) (same_itself m))

pub with_has : (ks : List LibName) (m : LibName) → has_library (with_library ks m) m ≡ true
with_has ks m = go (has_library ks m) refl
  where
    go : (b : Bool) → has_library ks m ≡ b → has_library (if b then ks else ks ++ m ∷ []) m ≡ true
    go true h = h
    go false h = has_last ks m

same_then : (k m : LibName) → same_library k m ≡ true → k ≡ m
same_then k m h = (same_library_decides k m).0 h

-- what is in the list with one more was in it, or is that one
with_cases : (ks : List LibName) (m k : LibName) → has_library (with_library ks m) k ≡ true → (has_library ks k ≡ true) ⊎ (same_library k m ≡ true)
with_cases ks m k = go (has_library ks m)
  where
    last : (has_library ks k ≡ true) ⊎ ((same_library k m || false) ≡ true) → (has_library ks k ≡ true) ⊎ (same_library k m ≡ true)
    last (inl p) = inl p
    last (inr p) = inr (elim (or_cases (same_library k m) false p) [ inl q ↦ q | inr q ↦ absurd (cc) ])

    go : (b : Bool) → has_library (if b then ks else ks ++ m ∷ []) k ≡ true → (has_library ks k ≡ true) ⊎ (same_library k m ≡ true)
    go true h = inl h
    go false h = last (or_cases (has_library ks k) (has_library (m ∷ []) k) (sym (list_any-append (same_library k) ks (m ∷ [])) ∙ h))

has_with_all : (ks ms : List LibName) (k : LibName) → has_library ks k ≡ true → has_library (with_libraries ks ms) k ≡ true
has_with_all ks [] k h = h
has_with_all ks (m ∷ ms) k h = has_with_all (with_library ks m) ms k (has_with ks m k h)

all_there : (ks ms : List LibName) (k : LibName) → has_library ms k ≡ true → has_library (with_libraries ks ms) k ≡ true
all_there ks [] k h = absurd (cc)
all_there ks (m ∷ ms) k h = elim (or_cases (same_library k m) (has_library ms k) h) [
  | inl p ↦ has_with_all (with_library ks m) ms k (subst (λ x. has_library (with_library ks m) x ≡ true) (sym (same_then k m p)) (with_has ks m))
  | inr p ↦ all_there (with_library ks m) ms k p
]

all_cases : (ks ms : List LibName) (k : LibName) → has_library (with_libraries ks ms) k ≡ true → (has_library ks k ≡ true) ⊎ (has_library ms k ≡ true)
all_cases ks [] k h = inl h
all_cases ks (m ∷ ms) k h = elim (all_cases (with_library ks m) ms k h) [
  | inl p ↦ elim (with_cases ks m k p) [
    | inl q ↦ inl q
    | inr q ↦ inr (ap (λ b. b || has_library ms k) q)
  ]
  | inr p ↦ inr (or_true (same_library k m) (has_library ms k) p)
]

-- The sweep.

refs_there : (r : CompiledLibrary) (ks : List LibName) → has_library ks r.name ≡ true → with_refs r ks ≡ with_libraries ks r.refs
refs_there r ks h = ap (λ b. if b then with_libraries ks r.refs else ks) h

refs_absent : (r : CompiledLibrary) (ks : List LibName) → has_library ks r.name ≡ false → with_refs r ks ≡ ks
refs_absent r ks h = ap (λ b. if b then with_libraries ks r.refs else ks) h

either : (b : Bool) → (b ≡ true) ⊎ (b ≡ false)
either true = inl refl
either false = inr refl

keeps_refs : (r : CompiledLibrary) (ks : List LibName) (k : LibName) → has_library ks k ≡ true → has_library (with_refs r ks) k ≡ true
keeps_refs r ks k h = elim (either (has_library ks r.name)) [
  | inl p ↦ ap (λ x. has_library x k) (refs_there r ks p) ∙ has_with_all ks r.refs k h
  | inr p ↦ ap (λ x. has_library x k) (refs_absent r ks p) ∙ h
]

keeps_wanted : (rs : List CompiledLibrary) (ks : List LibName) (k : LibName) → has_library ks k ≡ true → has_library (wanted rs ks) k ≡ true
unfolding wanted
keeps_wanted [] ks k h = h
keeps_wanted (r ∷ rs) ks k h = keeps_refs r (wanted rs ks) k (keeps_wanted rs ks k h)

-- a chain stays one where there is a record more
longer : (r : CompiledLibrary) (rs : List CompiledLibrary) (ks : List LibName) (k : LibName) → ReachedFrom rs ks k → ReachedFrom (r ∷ rs) ks k
longer r rs ks _ (mentioned k h) = mentioned k h
longer r rs ks _ (further q k a p h) = further q k (inr a) (longer r rs ks q.name p) h

pub wanted_reached : (rs : List CompiledLibrary) (ks : List LibName) (k : LibName) → has_library (wanted rs ks) k ≡ true → ReachedFrom rs ks k
unfolding wanted
wanted_reached [] ks k h = mentioned k h
wanted_reached (r ∷ rs) ks k h = elim (either (has_library (wanted rs ks) r.name)) [
  | inl p ↦ elim (all_cases (wanted rs ks) r.refs k (sym (ap (λ x. has_library x k) (refs_there r (wanted rs ks) p)) ∙ h)) [
    | inl q ↦ longer r rs ks k (wanted_reached rs ks k q)
    | inr q ↦ further r k (inl refl) (longer r rs ks r.name (wanted_reached rs ks r.name p)) q
  ]
  | inr p ↦ longer r rs ks k (wanted_reached rs ks k (sym (ap (λ x. has_library x k) (refs_absent r (wanted rs ks) p)) ∙ h))
]

-- the references of a wanted record are wanted, if records refer back
refs_wanted : (rs : List CompiledLibrary) (ks : List LibName) (r : CompiledLibrary) (k : LibName) → RefersBack rs → Among rs r → has_library (wanted rs ks) r.name ≡ true
    → has_library r.refs k ≡ true → has_library (wanted rs ks) k ≡ true
unfolding wanted
refs_wanted [] ks r k back a w h = absurd a
refs_wanted (q ∷ qs) ks r k back (inl e) w h = elim (either (has_library (wanted qs ks) q.name)) [
  | inl p ↦ ap (λ x. has_library x k) (refs_there q (wanted qs ks) p) ∙ all_there (wanted qs ks) q.refs k (subst (λ x. has_library x.refs k ≡ true) e h)
  | inr p ↦
      let there : has_library (wanted qs ks) q.name ≡ true = sym (ap (λ x. has_library x q.name) (refs_absent q (wanted qs ks) p)) ∙ subst (λ x. has_library (wanted (q ∷ qs) ks) x.name ≡ true) e w in
      absurd (cc)
]
refs_wanted (q ∷ qs) ks r k back (inr a) w h = elim (either (has_library (wanted qs ks) q.name)) [
  | inl p ↦ elim (all_cases (wanted qs ks) q.refs r.name (sym (ap (λ x. has_library x r.name) (refs_there q (wanted qs ks) p)) ∙ w)) [
    | inl v ↦ keeps_refs q (wanted qs ks) k (refs_wanted qs ks r k back.1 a v h)
    | inr v ↦ let not_there = back.0 r (inr a) in absurd (cc)
  ]
  | inr p ↦ keeps_refs q (wanted qs ks) k (refs_wanted qs ks r k back.1 a (sym (ap (λ x. has_library x r.name) (refs_absent q (wanted qs ks) p)) ∙ w) h)
]

pub reached_wanted : (rs : List CompiledLibrary) (ks : List LibName) (k : LibName) → RefersBack rs → ReachedFrom rs ks k → has_library (wanted rs ks) k ≡ true
reached_wanted rs ks _ back (mentioned k h) = keeps_wanted rs ks k h
reached_wanted rs ks _ back (further r k a p h) = refs_wanted rs ks r k back a (reached_wanted rs ks r.name back p) h

-- The order.

abbrev one_if : Bool → Bool → LibName → List LibName
one_if w d k = if w && not d then k ∷ [] else []

-- what holds of the stage that is left, without its value
left_is : (s t : PlainStage) → give {A = Unit {0}} tt s ≡ Ok (tt, t) → t ≡ s
left_is s t h = sym (ap (λ r. stage_of s r) h)
  where
    stage_of : PlainStage → Result (Unit {0} × PlainStage) Fault → PlainStage
    stage_of u (Ok p) = p.1
    stage_of u (Err f) = u

module _ (place : Span) (ks : List LibName) where
  library_adds : (r : CompiledLibrary) (s t : PlainStage) (o : Outcome) → has_library s.evaluated r.name ≡ false → library_ended place r s o ≡ Ok (tt, t) → t.evaluated ≡ s.evaluated ++ r.name ∷ []
  library_adds r s t (done v u n) h e = ap (λ (x : PlainStage). x.evaluated) (left_is (left_by_library r s u n) t e) ∙ ap (λ b. if b then s.evaluated else s.evaluated ++ r.name ∷ []) h
  library_adds r s t (faulted f u n) h e = absurd (cc)
  library_adds r s t unfit h e = absurd (cc)

  wanted_adds : (r : CompiledLibrary) (s t : PlainStage) → evaluate_wanted place ks r s ≡ Ok (tt, t)
      → t.evaluated ≡ s.evaluated ++ one_if (has_library ks r.name) (has_library s.evaluated r.name) r.name
  unfolding evaluate_wanted evaluate_library
  wanted_adds r s t = go (has_library ks r.name) (has_library s.evaluated r.name) refl
    where
      none : (x : PlainStage) → x ≡ s → x.evaluated ≡ s.evaluated ++ []
      none x e = ap (λ (x : PlainStage). x.evaluated) e ∙ sym (append_nil s.evaluated)

      go : (w d : Bool) → has_library s.evaluated r.name ≡ d
          → (if w then (if d then give tt s else library_ended place r s (outcome_of_lines r.run s)) else give tt s) ≡ Ok (tt, t)
          → t.evaluated ≡ s.evaluated ++ one_if w d r.name
      go true true h e = none t (left_is s t e)
      go true false h e = library_adds r s t (outcome_of_lines r.run s) h e
      go false d h e = none t (left_is s t e)

  -- one that isn't among others makes no difference to which of them are lacking
  lacking_other : (dones : List LibName) (m : LibName) (ms : List LibName) → has_library ms m ≡ false → lacking (dones ++ m ∷ []) ks ms ≡ lacking dones ks ms
  lacking_other dones m [] h = refl
  lacking_other dones m (x ∷ xs) h =
      let apart : same_library m x ≡ false = or_left (same_library m x) (has_library xs m) h in
      let rest = lacking_other dones m xs (or_right (same_library m x) (has_library xs m) h) in
      ap (λ d. if has_library ks x && not d then x ∷ lacking (dones ++ m ∷ []) ks xs else lacking (dones ++ m ∷ []) ks xs) (same_has dones m x apart)
      ∙ ap (λ l. if has_library ks x && not (has_library dones x) then x ∷ l else l) rest
    where
      turned : (m x : LibName) → same_library m x ≡ false → same_library x m ≡ false
      turned m x h = elim (either (same_library x m)) [
        | inl p ↦ let back : same_library m x ≡ true = (same_library_decides m x).1 (sym (same_then x m p)) in absurd (cc)
        | inr p ↦ p
      ]

      same_has : (dones : List LibName) (m x : LibName) → same_library m x ≡ false → has_library (dones ++ m ∷ []) x ≡ has_library dones x
      same_has dones m x apart =
          list_any-append (same_library x) dones (m ∷ []) ∙ ap (λ b. has_library dones x || (b || false)) (turned m x apart) ∙ or_false (has_library dones x)

  all_adds : (rs : List CompiledLibrary) (s t : PlainStage) → HaveOwnNames rs → evaluate_all place ks rs s ≡ Ok (tt, t) → t.evaluated ≡ s.evaluated ++ lacking s.evaluated ks (names_of rs)
  unfolding evaluate_all
  all_adds [] s t own e = ap (λ (x : PlainStage). x.evaluated) (left_is s t e) ∙ sym (append_nil s.evaluated)
  all_adds (r ∷ rs) s t own e = go (evaluate_wanted place ks r s) refl (λ u. all_adds rs u t own.1) e
    where
      joined : (w d : Bool) (ds rest : List LibName) → (ds ++ one_if w d r.name) ++ rest ≡ ds ++ (if w && not d then r.name ∷ rest else rest)
      joined true true ds rest = ap (λ x. x ++ rest) (append_nil ds)
      joined true false ds rest = append_assoc ds (r.name ∷ []) rest
      joined false d ds rest = ap (λ x. x ++ rest) (append_nil ds)

      same_lacking : (w d : Bool) (ds : List LibName) → lacking (ds ++ one_if w d r.name) ks (names_of rs) ≡ lacking ds ks (names_of rs)
      same_lacking true true ds = ap (λ x. lacking x ks (names_of rs)) (append_nil ds)
      same_lacking true false ds = lacking_other ds r.name (names_of rs) own.0
      same_lacking false d ds = ap (λ x. lacking x ks (names_of rs)) (append_nil ds)

      go : (x : Result (Unit {0} × PlainStage) Fault) → evaluate_wanted place ks r s ≡ x
          → ((u : PlainStage) → evaluate_all place ks rs u ≡ Ok (tt, t) → t.evaluated ≡ u.evaluated ++ lacking u.evaluated ks (names_of rs))
          → after x (λ _. evaluate_all place ks rs) ≡ Ok (tt, t) → t.evaluated ≡ s.evaluated ++ lacking s.evaluated ks (r.name ∷ names_of rs)
      go (Ok p) h ih e =
          let w = has_library ks r.name in
          let d = has_library s.evaluated r.name in
          ih p.1 e
          ∙ ap (λ ds. ds ++ lacking ds ks (names_of rs)) (wanted_adds r s p.1 h)
          ∙ ap (λ l. (s.evaluated ++ one_if w d r.name) ++ l) (same_lacking w d s.evaluated)
          ∙ joined w d s.evaluated (lacking s.evaluated ks (names_of rs))
      go (Err f) h ih e = absurd (cc)

pub evaluated_in_order : (place : Span) (rs : List CompiledLibrary) (c : PlainCore) (s t : PlainStage) → HaveOwnNames rs → need place rs c s ≡ Ok (tt, t)
    → t.evaluated ≡ evaluated_for s.evaluated rs (libraries_of c)
unfolding need
evaluated_in_order place rs c s t own = go (has_all s.evaluated (libraries_of c))
  where
    go : (b : Bool) → (if b then give tt s else evaluate_all place (wanted rs (libraries_of c)) rs s) ≡ Ok (tt, t)
        → t.evaluated ≡ (if b then s.evaluated else s.evaluated ++ lacking s.evaluated (wanted rs (libraries_of c)) (names_of rs))
    go true e = ap (λ (x : PlainStage). x.evaluated) (left_is s t e)
    go false e = all_adds place (wanted rs (libraries_of c)) rs s t own e

-- What was evaluated is closed under references.

and_left : (a b : Bool) → (a && b) ≡ true → a ≡ true
and_left true b h = refl
and_left false b h = absurd (cc)

and_not : (a b : Bool) → a ≡ true → b ≡ false → (a && not b) ≡ true
and_not a b p q = ap (λ x. x && not b) p ∙ ap not q

has_behind : (ks ms : List LibName) (k : LibName) → has_library ms k ≡ true → has_library (ks ++ ms) k ≡ true
has_behind ks ms k h = list_any-append (same_library k) ks ms ∙ or_true (has_library ks k) (has_library ms k) h

lacking_wanted : (ds ws ms : List LibName) (k : LibName) → has_library (lacking ds ws ms) k ≡ true → has_library ws k ≡ true
lacking_wanted ds ws [] k h = absurd (cc)
lacking_wanted ds ws (m ∷ ms) k h = go (has_library ws m && not (has_library ds m)) refl (lacking_wanted ds ws ms k) h
  where
    go : (b : Bool) → (has_library ws m && not (has_library ds m)) ≡ b → (has_library (lacking ds ws ms) k ≡ true → has_library ws k ≡ true)
        → has_library (if b then m ∷ lacking ds ws ms else lacking ds ws ms) k ≡ true → has_library ws k ≡ true
    go true p rest q = elim (or_cases (same_library k m) (has_library (lacking ds ws ms) k) q) [
      | inl e ↦ subst (λ x. has_library ws x ≡ true) (sym (same_then k m e)) (and_left (has_library ws m) (not (has_library ds m)) p)
      | inr r ↦ rest r
    ]
    go false p rest q = rest q

lacking_there : (ds ws ms : List LibName) (k : LibName) → has_library ms k ≡ true → has_library ws k ≡ true → has_library ds k ≡ false → has_library (lacking ds ws ms) k ≡ true
lacking_there ds ws [] k h w d = absurd (cc)
lacking_there ds ws (m ∷ ms) k h w d = elim (or_cases (same_library k m) (has_library ms k) h) [
  | inl e ↦
      let both : (has_library ws m && not (has_library ds m)) ≡ true
      = subst (λ x. (has_library ws x && not (has_library ds x)) ≡ true) (same_then k m e) (and_not (has_library ws k) (has_library ds k) w d) in
      ap (λ b. has_library (if b then m ∷ lacking ds ws ms else lacking ds ws ms) k) both ∙ ap (λ b. b || has_library (lacking ds ws ms) k) e
  | inr r ↦ go (has_library ws m && not (has_library ds m)) (lacking_there ds ws ms k r w d)
]
  where
    go : (b : Bool) → has_library (lacking ds ws ms) k ≡ true → has_library (if b then m ∷ lacking ds ws ms else lacking ds ws ms) k ≡ true
    go true r = or_true (same_library k m) (has_library (lacking ds ws ms) k) r
    go false r = r

pub all_has : (ds ks : List LibName) (k : LibName) → has_all ds ks ≡ true → has_library ks k ≡ true → has_library ds k ≡ true
all_has ds [] k a h = absurd (cc)
all_has ds (m ∷ ms) k a h = elim (either (has_library ds m)) [
  | inl p ↦ elim (or_cases (same_library k m) (has_library ms k) h) [
    | inl e ↦ subst (λ x. has_library ds x ≡ true) (sym (same_then k m e)) p
    | inr r ↦ all_has ds ms k (sym (ap (λ b. if b then has_all ds ms else false) p) ∙ a) r
  ]
  | inr p ↦ let never : false ≡ true = sym (ap (λ b. if b then has_all ds ms else false) p) ∙ a in absurd (cc)
]

name_there : (rs : List CompiledLibrary) (r : CompiledLibrary) → Among rs r → has_library (names_of rs) r.name ≡ true
name_there [] r a = absurd a
name_there (q ∷ qs) r (inl e) = ap (λ (x : CompiledLibrary). same_library r.name x.name || has_library (names_of qs) r.name) (sym e) ∙ ap (λ b. b || has_library (names_of qs) r.name) (same_itself r.name)
name_there (q ∷ qs) r (inr a) = or_true (same_library r.name q.name) (has_library (names_of qs) r.name) (name_there qs r a)

reached_all : (ds : List LibName) (rs : List CompiledLibrary) (ks : List LibName) (k : LibName) → IsClosed rs ds → has_all ds ks ≡ true → ReachedFrom rs ks k → has_library (names_of rs) k ≡ true
    → has_library ds k ≡ true
reached_all ds rs ks _ closed a (mentioned k h) n = all_has ds ks k a h
reached_all ds rs ks _ closed a (further r k there p h) n = closed r there (reached_all ds rs ks r.name closed a p (name_there rs r there)) k h n

module _ (ds : List LibName) (rs : List CompiledLibrary) (ks : List LibName) (back : RefersBack rs) (closed : IsClosed rs ds) where
  abbrev more : List LibName
  more = lacking ds (wanted rs ks) (names_of rs)

  wanted_then : (k : LibName) → has_library (wanted rs ks) k ≡ true → has_library (names_of rs) k ≡ true → has_library (ds ++ more) k ≡ true
  wanted_then k w n = elim (either (has_library ds k)) [
    | inl p ↦ has_more ds more k p
    | inr p ↦ has_behind ds more k (lacking_there ds (wanted rs ks) (names_of rs) k n w p)
  ]

  reached_then : (k : LibName) → ReachedFrom rs ks k → has_library (names_of rs) k ≡ true → has_library (evaluated_for ds rs ks) k ≡ true
  reached_then k p n = elim (either (has_all ds ks)) [
    | inl a ↦ ap (λ b. has_library (if b then ds else ds ++ more) k) a ∙ reached_all ds rs ks k closed a p n
    | inr a ↦ ap (λ b. has_library (if b then ds else ds ++ more) k) a ∙ wanted_then k (reached_wanted rs ks k back p) n
  ]

  closed_more : IsClosed rs (ds ++ more)
  closed_more r a h k ref n = elim (or_cases (has_library ds r.name) (has_library more r.name) (sym (list_any-append (same_library r.name) ds more) ∙ h)) [
    | inl p ↦ has_more ds more k (closed r a p k ref n)
    | inr p ↦ wanted_then k (refs_wanted rs ks r k back a (lacking_wanted ds (wanted rs ks) (names_of rs) r.name p) ref) n
  ]

  closed_then : IsClosed rs (evaluated_for ds rs ks)
  closed_then = go (has_all ds ks)
    where
      go : (b : Bool) → IsClosed rs (if b then ds else ds ++ more)
      go true = closed
      go false = closed_more

pub stays_closed : (place : Span) (rs : List CompiledLibrary) (c : PlainCore) (s t : PlainStage) → HaveOwnNames rs → RefersBack rs → IsClosed rs s.evaluated
    → need place rs c s ≡ Ok (tt, t) → IsClosed rs t.evaluated
stays_closed place rs c s t own back closed h =
    subst (IsClosed rs) (sym (evaluated_in_order place rs c s t own h)) (closed_then s.evaluated rs (libraries_of c) back closed)

pub reached_evaluated : (place : Span) (rs : List CompiledLibrary) (c : PlainCore) (s t : PlainStage) (k : LibName) → HaveOwnNames rs → RefersBack rs → IsClosed rs s.evaluated
    → need place rs c s ≡ Ok (tt, t) → ReachedFrom rs (libraries_of c) k → has_library (names_of rs) k ≡ true → has_library t.evaluated k ≡ true
reached_evaluated place rs c s t k own back closed h p n =
    ap (λ x. has_library x k) (evaluated_in_order place rs c s t own h) ∙ reached_then s.evaluated rs (libraries_of c) back closed k p n
