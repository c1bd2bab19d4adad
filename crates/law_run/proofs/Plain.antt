-- Core code that has a text: its binders are variables, and it is closed by names where it is closed.
use Rattle.std.proofs.Common.{◌≡◌, ℕ, List, [], ◌∷◌, ◌++◌, Ok, Err, refl, sym, subst, inl, inr}
use Rattle.std.specs.Prelude.{◌⊎◌}
use Rattle.std.specs.List.{flat_map}
use Rattle.std.proofs.lemmas.Grind.{flat_map-append}
use Rattle.std.proofs.lemmas.List.{map-append}
use Rattle.base_data.proofs.ElementLemmas.{among-first, among-second, among-parts, among-map}
use Rattle.base_data.specs.Elements.{Each, Among}
use Rattle.base_data.specs.Gives.{◌>>=◌}
use Rattle.base_data.specs.declared.name.Label.{Label}
use Rattle.core_language.specs.Core.{PlainCore, quoted, variable, primitive, one_armed, two_armed, assignment, sequence, procedure, letrec, call, instance, matching}
use Rattle.core_language.specs.Core.{PlainCores, none, more, PlainInits, no_init, init, PlainCases, no_case, case}
use Rattle.core_language.specs.References.{formals_labels, binders, all_binders, init_binders, case_binders}
use Rattle.core_language.specs.declared.record.Line.{Line}
use Rattle.core_language.specs.declared.record.Line.TheVariants as line
use Rattle.law_core.specs.Follows.{line_variables}
use Rattle.law_core.specs.Parts.{parts, all_parts, init_parts, case_parts, init_labels, case_labels, own_variables, bound_variables}
use Rattle.law_core.specs.Records.{line_core, line_binders}
use Rattle.law_core.specs.Scope.{Closed, AllClosed, InitsClosed, CasesClosed}
use Rattle.core_output.specs.CoreText.{VariableNames, name_of}
use Rattle.core_output.specs.Syntax.{Checked, written, checked, all_checked, inits_checked, cases_checked, line_checked, lines_checked}
use Rattle.law_run.specs.Names.{names_for, NamesClosed, AllNamesClosed, InitNamesClosed, CaseNamesClosed}

-- where both have a text, each has
pub first-ok : (r k : Checked) → (r >>= λ _. k) ≡ written → (r ≡ written) × (k ≡ written)
first-ok (Ok x) k e = (refl, e)
first-ok (Err f) k e = absurd (cc)

-- Binders are variables.

abbrev Sub : List Label → List Label → Type 0
Sub xs ys = (l : Label) → Among xs l → Among ys l

sub-both : (xs ys zs : List Label) → Sub xs zs → Sub ys zs → Sub (xs ++ ys) zs
sub-both xs ys zs h k l a = by (among-parts xs ys l a)
  where
    by : Among xs l ⊎ Among ys l → Among zs l
    by (inl b) = h l b
    by (inr b) = k l b

abbrev of_parts : List PlainCore → List Label
of_parts ps = flat_map own_variables ps

parts-first : (ps qs : List PlainCore) → Sub (of_parts ps) (of_parts (ps ++ qs))
parts-first ps qs l a = subst (λ (ls : List Label). Among ls l) (sym (flat_map-append own_variables ps qs)) (among-first (of_parts ps) (of_parts qs) l a)

parts-second : (ps qs : List PlainCore) → Sub (of_parts qs) (of_parts (ps ++ qs))
parts-second ps qs l a = subst (λ (ls : List Label). Among ls l) (sym (flat_map-append own_variables ps qs)) (among-second (of_parts ps) (of_parts qs) l a)

sub-parts : (xs ys : List Label) (ps qs : List PlainCore) → Sub xs (of_parts ps) → Sub ys (of_parts qs) → Sub (xs ++ ys) (of_parts (ps ++ qs))
sub-parts xs ys ps qs h k = sub-both xs ys (of_parts (ps ++ qs)) (λ l a. parts-first ps qs l (h l a)) (λ l a. parts-second ps qs l (k l a))

one : (x : Label) (ys : List Label) → Sub (x ∷ []) (x ∷ ys)
one x ys l (inl e) = inl e
one x ys l (inr a) = elim a [ ]

mutual
  pub plain-bound : (c : PlainCore) → checked c ≡ written → Sub (binders c) (bound_variables c)
  plain-bound (quoted d) k = λ l a. elim a [ ]
  plain-bound (variable x) k = λ l a. elim a [ ]
  plain-bound (primitive o) k = λ l a. elim a [ ]
  plain-bound (one_armed c d) k =
      let p = first-ok (checked c) (checked d) k in
      sub-parts (binders c) (binders d) (parts c) (parts d) (plain-bound c p.0) (plain-bound d p.1)
  plain-bound (two_armed c d e) k =
      let p = first-ok (checked c) (checked d >>= λ _. checked e) k in
      let q = first-ok (checked d) (checked e) p.1 in
      sub-parts (binders c) (binders d ++ binders e) (parts c) (parts d ++ parts e) (plain-bound c p.0) (sub-parts (binders d) (binders e) (parts d) (parts e) (plain-bound d q.0) (plain-bound e q.1))
  plain-bound (assignment x c) k = plain-bound c k
  plain-bound (sequence cs) k = all-bound cs k
  plain-bound (procedure n cs p) k = cases-bound cs k
  plain-bound (letrec o is c) k =
      let p = first-ok (inits_checked is) (checked c) k in
      let behind = of_parts (init_parts is ++ parts c) in
      sub-both (init_binders is) (binders c) (init_labels is ++ behind)
      (λ l a. sub-both (init_labels is) (of_parts (init_parts is)) (init_labels is ++ behind) (among-first (init_labels is) behind) (λ m b. among-second (init_labels is) behind m (parts-first (init_parts is) (parts c) m b)) l (inits-bound is p.0 l a))
      (λ l a. among-second (init_labels is) behind l (parts-second (init_parts is) (parts c) l (plain-bound c p.1 l a)))
  plain-bound (call c cs) k =
      let p = first-ok (checked c) (all_checked cs) k in
      sub-parts (binders c) (all_binders cs) (parts c) (all_parts cs) (plain-bound c p.0) (all-bound cs p.1)
  plain-bound (instance t s) k = λ l a. elim a [ ]
  plain-bound (matching c cs s) k = λ l a. absurd (cc)

  all-bound : (cs : PlainCores) → all_checked cs ≡ written → Sub (all_binders cs) (of_parts (all_parts cs))
  all-bound none k = λ l a. elim a [ ]
  all-bound (more c cs) k =
      let p = first-ok (checked c) (all_checked cs) k in
      sub-parts (binders c) (all_binders cs) (parts c) (all_parts cs) (plain-bound c p.0) (all-bound cs p.1)

  inits-bound : (is : PlainInits) → inits_checked is ≡ written → Sub (init_binders is) (init_labels is ++ of_parts (init_parts is))
  inits-bound no_init k = λ l a. elim a [ ]
  inits-bound (init x c is) k =
      let p = first-ok (checked c) (inits_checked is) k in
      let behind = of_parts (parts c ++ init_parts is) in
      let all = (x ∷ init_labels is) ++ behind in
      sub-both (x ∷ []) (binders c ++ init_binders is) all (one x (init_labels is ++ behind))
      (sub-both (binders c) (init_binders is) all
      (λ l a. among-second (x ∷ init_labels is) behind l (parts-first (parts c) (init_parts is) l (plain-bound c p.0 l a)))
      (λ l a. sub-both (init_labels is) (of_parts (init_parts is)) all (λ m b. inr (among-first (init_labels is) behind m b)) (λ m b. among-second (x ∷ init_labels is) behind m (parts-second (parts c) (init_parts is) m b)) l (inits-bound is p.1 l a)))

  cases-bound : (cs : PlainCases) → cases_checked cs ≡ written → Sub (case_binders cs) (case_labels cs ++ of_parts (case_parts cs))
  cases-bound no_case k = λ l a. elim a [ ]
  cases-bound (case f c cs) k =
      let p = first-ok (checked c) (cases_checked cs) k in
      let labels = formals_labels f ++ case_labels cs in
      let behind = of_parts (parts c ++ case_parts cs) in
      sub-both (formals_labels f) (binders c ++ case_binders cs) (labels ++ behind) (λ l a. among-first labels behind l (among-first (formals_labels f) (case_labels cs) l a))
      (sub-both (binders c) (case_binders cs) (labels ++ behind)
      (λ l a. among-second labels behind l (parts-first (parts c) (case_parts cs) l (plain-bound c p.0 l a)))
      (λ l a. sub-both (case_labels cs) (of_parts (case_parts cs)) (labels ++ behind) (λ m b. among-first labels behind m (among-second (formals_labels f) (case_labels cs) m b)) (λ m b. among-second labels behind m (parts-second (parts c) (case_parts cs) m b)) l (cases-bound cs p.1 l a)))

line-plain : (x : Line) → line_checked x ≡ written → Sub (line_binders x) (line_variables x)
line-plain (line.Define l c) k = sub-both (l ∷ []) (binders c) ((l ∷ []) ++ bound_variables c) (one l (bound_variables c)) (λ m a. inr (plain-bound c k m a))
line-plain (line.Expr c) k = plain-bound c k

pub lines-plain : (xs : List Line) → lines_checked xs ≡ written → Sub (flat_map line_binders xs) (flat_map line_variables xs)
lines-plain [] k = λ l a. elim a [ ]
lines-plain (x ∷ xs) k =
    let p = first-ok (line_checked x) (lines_checked xs) k in
    sub-both (line_binders x) (flat_map line_binders xs) (line_variables x ++ flat_map line_variables xs)
    (λ l a. among-first (line_variables x) (flat_map line_variables xs) l (line-plain x p.0 l a)) (λ l a. among-second (line_variables x) (flat_map line_variables xs) l (lines-plain xs p.1 l a))

-- Closed by names.

module _ (names : VariableNames) where
  wider : (ls ms : List Label) → names_for names (ls ++ ms) ≡ names_for names ls ++ names_for names ms
  wider ls ms = map-append (name_of names) ls ms

  mutual
    pub closed-plain : (ls : List Label) (c : PlainCore) → checked c ≡ written → Closed ls c → NamesClosed names (names_for names ls) c
    closed-plain ls (quoted d) k h = tt
    closed-plain ls (variable l) k h = among-map (name_of names) ls l h
    closed-plain ls (primitive o) k h = tt
    closed-plain ls (one_armed c d) k h = let p = first-ok (checked c) (checked d) k in (closed-plain ls c p.0 h.0, closed-plain ls d p.1 h.1)
    closed-plain ls (two_armed c d e) k h =
        let p = first-ok (checked c) (checked d >>= λ _. checked e) k in
        let q = first-ok (checked d) (checked e) p.1 in
        (closed-plain ls c p.0 h.0, (closed-plain ls d q.0 h.1.0, closed-plain ls e q.1 h.1.1))
    closed-plain ls (assignment l c) k h = (among-map (name_of names) ls l h.0, closed-plain ls c k h.1)
    closed-plain ls (sequence cs) k h = all-closed ls cs k h
    closed-plain ls (procedure n cs p) k h = cases-closed ls cs k h
    closed-plain ls (letrec o is c) k h =
        let p = first-ok (inits_checked is) (checked c) k in
        let all = init_labels is ++ ls in (
          subst (λ (ns : List (List ℕ)). InitNamesClosed names ns is) (wider (init_labels is) ls) (inits-closed all is p.0 h.0),
          subst (λ (ns : List (List ℕ)). NamesClosed names ns c) (wider (init_labels is) ls) (closed-plain all c p.1 h.1),
        )
    closed-plain ls (call c cs) k h = let p = first-ok (checked c) (all_checked cs) k in (closed-plain ls c p.0 h.0, all-closed ls cs p.1 h.1)
    closed-plain ls (instance t s) k h = absurd (cc)
    closed-plain ls (matching c cs s) k h = absurd (cc)

    all-closed : (ls : List Label) (cs : PlainCores) → all_checked cs ≡ written → AllClosed ls cs → AllNamesClosed names (names_for names ls) cs
    all-closed ls none k h = tt
    all-closed ls (more c cs) k h = let p = first-ok (checked c) (all_checked cs) k in (closed-plain ls c p.0 h.0, all-closed ls cs p.1 h.1)

    inits-closed : (ls : List Label) (is : PlainInits) → inits_checked is ≡ written → InitsClosed ls is → InitNamesClosed names (names_for names ls) is
    inits-closed ls no_init k h = tt
    inits-closed ls (init l c is) k h = let p = first-ok (checked c) (inits_checked is) k in (closed-plain ls c p.0 h.0, inits-closed ls is p.1 h.1)

    cases-closed : (ls : List Label) (cs : PlainCases) → cases_checked cs ≡ written → CasesClosed ls cs → CaseNamesClosed names (names_for names ls) cs
    cases-closed ls no_case k h = tt
    cases-closed ls (case f c cs) k h =
        let p = first-ok (checked c) (cases_checked cs) k in
        (subst (λ (ns : List (List ℕ)). NamesClosed names ns c) (wider (formals_labels f) ls) (closed-plain (formals_labels f ++ ls) c p.0 h.0), cases-closed ls cs p.1 h.1)

  pub lines-closed : (ls : List Label) (xs : List Line) → lines_checked xs ≡ written → Each (λ x. Closed ls (line_core x)) xs → Each (λ x. NamesClosed names (names_for names ls) (line_core x)) xs
  lines-closed ls [] k h = tt
  lines-closed ls (x ∷ xs) k h = let p = first-ok (line_checked x) (lines_checked xs) k in (one-line x p.0 h.0, lines-closed ls xs p.1 h.1)
    where
      one-line : (y : Line) → line_checked y ≡ written → Closed ls (line_core y) → NamesClosed names (names_for names ls) (line_core y)
      one-line (line.Define l c) e j = closed-plain ls c e j
      one-line (line.Expr c) e j = closed-plain ls c e j
