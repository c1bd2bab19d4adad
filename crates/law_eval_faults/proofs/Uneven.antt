-- A template is at fault only where lengths differ under an ellipsis.
use Rattle.std.proofs.Common.{◌≡◌, ℕ, zero, suc, List, [], ◌∷◌, ◌++◌, Option, Some, None, Bool, true, false, Result, Ok, Err, refl, ◌+◌, arith, if◌then◌else◌}
use Rattle.std.specs.Prelude.{nat_eq, decimal}
use Rattle.std.proofs.lemmas.Bool.Decides.{nat_tests}
use Rattle.base_data.specs.Gives.{◌>>=◌}
use Rattle.base_data.specs.declared.atom.Atom.TheVariants as a
use Rattle.base_data.specs.declared.fault.Bare.{Bare}
use Rattle.base_data.specs.declared.fault.FaultKind.TheVariants as kind
use Rattle.core_language.specs.Template as template
use Rattle.core_language.specs.Template.{PlainTemplate, PlainItems}
use Rattle.eval_value.specs.FromDatum.{pairs_stored, vector_stored}
use Rattle.eval_value.specs.declared.cell.Cell.{Cell}
use Rattle.eval_value.specs.declared.value.Value.{Value}
use Rattle.eval_value.specs.declared.value.Value.TheVariants as value
use Rattle.eval_template.specs.Binds.{Binds, Absent}
use Rattle.eval_template.specs.Instance as instances
use Rattle.eval_template.specs.Lengths.{agree, differing, or_none}
use Rattle.eval_template.specs.Measure as measures

abbrev pub IsUneven : Bare → Type 0
IsUneven f = (one : ℕ) × ((other : ℕ) × ((one ≡ other → ⊥) × (f ≡ record { kind = kind.EllipsisLength; words = decimal one ∷ decimal other ∷ [] })))

abbrev pub MayBeUneven : {A : Type 0} → Result A Bare → Type 0
MayBeUneven (Ok x) = Unit {0}
MayBeUneven (Err f) = IsUneven f

uneven-if : {A : Type 0} (b : Bool) (x y : Result A Bare) → MayBeUneven x → MayBeUneven y → MayBeUneven (if b then x else y)
uneven-if true x y h k = h
uneven-if false x y h k = k

uneven-then : {A B : Type 0} (r : Result A Bare) (go : A → Result B Bare) → MayBeUneven r → ((x : A) → MayBeUneven (go x)) → MayBeUneven (r >>= go)
uneven-then (Ok x) go h k = k x
uneven-then (Err f) go h k = h

-- Templates.

not-equal : (m n : ℕ) → nat_eq m n ≡ false → m ≡ n → ⊥
not-equal m n h e = grind (arith, nat_tests, h, e)

uneven-agree : (m : Option ℕ) (ns : List ℕ) → MayBeUneven (agree m ns)
uneven-agree m [] = tt
uneven-agree None (n ∷ ns) = uneven-agree (Some n) ns
uneven-agree (Some m) (n ∷ ns) = by (uneven-agree (Some m) ns) (nat_eq m n) refl
  where
    by : MayBeUneven (agree (Some m) ns) → (b : Bool) → nat_eq m n ≡ b → MayBeUneven (if b then agree (Some m) ns else Err (differing m n))
    by rest true e = rest
    by rest false e = (m, (n, (λ same. not-equal m n e same, refl)))

abbrev Stands : {A : Type 0} → (List Cell → Result (A × List Cell) Bare) → Type 0
Stands m = (cells : List Cell) → MayBeUneven (m cells)

uneven-add : {A B : Type 0} (r : Result (A × List Cell) Bare) (go : A → List Cell → Result (B × List Cell) Bare)
    → MayBeUneven r → ((x : A) → Stands (go x)) → MayBeUneven (instances.then_add r go)
uneven-add (Ok p) go h k = k p.0 p.1
uneven-add (Err f) go h k = h

uneven-turned : (go : List ℕ → List Value → List Cell → Result (List Value × List Cell) Bare) → ((turns : List ℕ) (vs : List Value) → Stands (go turns vs))
    → (n i : ℕ) (turns : List ℕ) (vs : List Value) → Stands (instances.turned go n i turns vs)
uneven-turned go h zero i turns vs cells = tt
uneven-turned go h (suc n) i turns vs cells =
    uneven-add (go (turns ++ i ∷ []) vs cells) (instances.turned go n (i + 1) turns) (h (turns ++ i ∷ []) vs cells) (uneven-turned go h n (i + 1) turns)

uneven-item : (go : List ℕ → List Cell → Result (Value × List Cell) Bare) (counts : ℕ → List ℕ → List ℕ) → ((turns : List ℕ) → Stands (go turns))
    → (ellipses : ℕ) (turns : List ℕ) (vs : List Value) → Stands (instances.item go counts ellipses turns vs)
uneven-item go counts h zero turns vs cells = uneven-add (go turns cells) (λ v cells. Ok (vs ++ v ∷ [], cells)) (h turns cells) (λ v cells. tt)
uneven-item go counts h (suc ellipses) turns vs cells =
    uneven-then (agree None (counts ellipses turns)) (λ n. instances.turned (instances.item go counts ellipses) (or_none n) 0 turns vs cells)
    (uneven-agree None (counts ellipses turns)) (λ n. uneven-turned (instances.item go counts ellipses) (uneven-item go counts h ellipses) (or_none n) 0 turns vs cells)

mutual
  pub uneven-instance : (absent : Absent) (bs : Binds) (t : PlainTemplate) (turns : List ℕ) → Stands (instances.instance absent bs t turns)
  uneven-instance absent bs (template.variable l depth) turns cells = tt
  uneven-instance absent bs (template.constant t) turns cells = tt
  uneven-instance absent bs (template.list is t) turns cells =
      uneven-add (instances.parts absent bs is turns [] cells)
      (λ xs cells. instances.then_add (instances.ending t (instances.instance absent bs t turns) cells) (λ v cells. Ok (pairs_stored xs (v, cells)))) (uneven-parts absent bs is turns [] cells)
      (λ xs cells. uneven-add (instances.ending t (instances.instance absent bs t turns) cells) (λ v cells. Ok (pairs_stored xs (v, cells)))
      (uneven-if (instances.is_end t) (Ok (value.Atom a.Nil, cells)) (instances.instance absent bs t turns cells) tt (uneven-instance absent bs t turns cells)) (λ v cells. tt))
  uneven-instance absent bs (template.vector is) turns cells =
      uneven-add (instances.parts absent bs is turns [] cells) (λ xs cells. Ok (vector_stored (xs, cells))) (uneven-parts absent bs is turns [] cells) (λ xs cells. tt)

  uneven-parts : (absent : Absent) (bs : Binds) (is : PlainItems) (turns : List ℕ) (vs : List Value) → Stands (instances.parts absent bs is turns vs)
  uneven-parts absent bs template.none turns vs cells = tt
  uneven-parts absent bs (template.more t ellipses is) turns vs cells =
      uneven-add (instances.item (instances.instance absent bs t) (instances.counts absent bs t) ellipses turns vs cells) (instances.parts absent bs is turns)
      (uneven-item (instances.instance absent bs t) (instances.counts absent bs t) (uneven-instance absent bs t) ellipses turns vs cells) (uneven-parts absent bs is turns)

-- Costs of templates.

uneven-plus : (c d : measures.Cost) → MayBeUneven c → MayBeUneven d → MayBeUneven (measures.plus c d)
uneven-plus c d h k = uneven-then c (λ m. d >>= λ n. Ok (m + n)) h (λ m. uneven-then d (λ n. Ok (m + n)) k (λ n. tt))

uneven-turns : (go : List ℕ → measures.Cost) → ((turns : List ℕ) → MayBeUneven (go turns)) → (n i : ℕ) (turns : List ℕ) → MayBeUneven (measures.turns_cost go n i turns)
uneven-turns go h zero i turns = tt
uneven-turns go h (suc n) i turns = uneven-plus (go (turns ++ i ∷ [])) (measures.turns_cost go n (i + 1) turns) (h (turns ++ i ∷ [])) (uneven-turns go h n (i + 1) turns)

uneven-item_cost : (go : List ℕ → measures.Cost) (counts : ℕ → List ℕ → List ℕ) → ((turns : List ℕ) → MayBeUneven (go turns)) → (ellipses : ℕ) (turns : List ℕ) → MayBeUneven (measures.item_cost go counts ellipses turns)
uneven-item_cost go counts h zero turns = uneven-plus (go turns) (Ok 1) (h turns) tt
uneven-item_cost go counts h (suc ellipses) turns =
    uneven-then (agree None (counts ellipses turns)) (λ n. measures.turns_cost (measures.item_cost go counts ellipses) (or_none n) 0 turns)
    (uneven-agree None (counts ellipses turns)) (λ n. uneven-turns (measures.item_cost go counts ellipses) (uneven-item_cost go counts h ellipses) (or_none n) 0 turns)

mutual
  pub uneven-measure : (absent : Absent) (bs : Binds) (t : PlainTemplate) (turns : List ℕ) → MayBeUneven (measures.measure absent bs t turns)
  uneven-measure absent bs (template.variable l depth) turns = tt
  uneven-measure absent bs (template.constant t) turns = tt
  uneven-measure absent bs (template.list is t) turns =
      uneven-plus (measures.items_cost absent bs is turns) (measures.measure absent bs t turns) (uneven-items_cost absent bs is turns) (uneven-measure absent bs t turns)
  uneven-measure absent bs (template.vector is) turns = uneven-items_cost absent bs is turns

  uneven-items_cost : (absent : Absent) (bs : Binds) (is : PlainItems) (turns : List ℕ) → MayBeUneven (measures.items_cost absent bs is turns)
  uneven-items_cost absent bs template.none turns = tt
  uneven-items_cost absent bs (template.more t ellipses is) turns =
      uneven-plus (measures.item_cost (measures.measure absent bs t) (instances.counts absent bs t) ellipses turns) (measures.items_cost absent bs is turns)
      (uneven-item_cost (measures.measure absent bs t) (instances.counts absent bs t) (uneven-measure absent bs t) ellipses turns) (uneven-items_cost absent bs is turns)
