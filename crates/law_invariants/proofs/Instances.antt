-- An instance of a template is made of its constants and of the binds of its variables.
use Rattle.std.proofs.Common.{◌+◌, ℕ, zero, suc, List, [], ◌∷◌, ◌++◌, Option, Some, None, Bool, true, false, Result, Ok, Err, length, slice_get, option_and_then, if◌then◌else◌}
use Rattle.base_data.proofs.ElementLemmas.{each-and}
use Rattle.base_data.specs.Gives.{◌>>=◌}
use Rattle.base_data.specs.Same.{same_name}
use Rattle.base_data.specs.declared.atom.Atom.TheVariants as a
use Rattle.base_data.specs.declared.fault.Bare.{Bare}
use Rattle.base_data.specs.declared.name.Label.{Label}
use Rattle.base_region.specs.declared.region.Place.{Place}
use Rattle.core_language.specs.Template as template
use Rattle.core_language.specs.Template.{PlainTemplate, PlainItems}
use Rattle.eval_value.specs.Bind.{PlainBind, one, many, PlainBinds, none, more}
use Rattle.eval_value.specs.FromDatum.{pairs_stored, vector_stored}
use Rattle.eval_value.specs.declared.value.Value.{Value}
use Rattle.eval_value.specs.declared.value.Value.TheVariants as value
use Rattle.eval_value.specs.declared.cell.Cell.{Cell}
use Rattle.eval_template.specs.Binds.{unbound, looked_up, listed, turn_of, through, innermost, reached, value_of}
use Rattle.eval_template.specs.Instance as instances
use Rattle.eval_template.specs.Lengths.{agree, or_none}
use Rattle.eval_code.specs.Instances.{Binds, with_bind, gathered, gathered_items}
use Rattle.eval_code.specs.Variables.{bind_found}
use Rattle.law_invariants.specs.Holds.{ValueHolds, ValuesHold, BindHolds, BindsHold, CellsHold, TemplateHolds, ItemsHold}
use Rattle.law_invariants.specs.Invariant.{OptionHolds}
use Rattle.law_invariants.proofs.Matches.{AllBound}
use Rattle.law_invariants.proofs.Storing.{pairs_hold, vector_holds}
use Rattle.law_invariants.proofs.Variables as variables
use Rattle.law_invariants.specs.Invariant.{Invariant}
use Rattle.law_invariants.specs.Closed.{IsClosed}

module _ (I : Invariant) where
  -- The binds that a template needs.

  abbrev pub GatheredOr : Option Binds → Type 0
  GatheredOr o = OptionHolds (AllBound I) o

  then_gather : (f : Binds → Option Binds) (o : Option Binds) → GatheredOr o → ((bs : Binds) → AllBound I bs → GatheredOr (f bs)) → GatheredOr (option_and_then f o)
  then_gather f None h k = tt
  then_gather f (Some bs) h k = k bs h

  with_bind_holds : (l : Label) (bs : Binds) (o : Option PlainBind) → AllBound I bs → OptionHolds (BindHolds I) o → GatheredOr (with_bind l bs o)
  with_bind_holds l bs None h k = tt
  with_bind_holds l bs (Some b) h k = each-and (λ (b : Label × PlainBind). BindHolds I b.1) bs (l, b) h k

  module _ (cells : List Cell) (holds : CellsHold I cells) (scope : Place) where
    mutual
      pub gathered_hold : (t : PlainTemplate) (bs : Binds) → AllBound I bs → GatheredOr (gathered cells scope t bs)
      gathered_hold (template.variable l d) bs h = with_bind_holds l bs (bind_found (suc (length cells)) cells l (Some scope)) h (variables.bind_holds I cells holds (suc (length cells)) l (Some scope))
      gathered_hold (template.constant t) bs h = h
      gathered_hold (template.list is t) bs h = then_gather (gathered cells scope t) (gathered_items cells scope is bs) (items_gathered is bs h) (λ cs k. gathered_hold t cs k)
      gathered_hold (template.vector is) bs h = items_gathered is bs h

      items_gathered : (is : PlainItems) (bs : Binds) → AllBound I bs → GatheredOr (gathered_items cells scope is bs)
      items_gathered template.none bs h = h
      items_gathered (template.more t e is) bs h = then_gather (gathered_items cells scope is) (gathered cells scope t bs) (gathered_hold t bs h) (λ cs k. items_gathered is cs k)

  -- What a variable gives.

  looked_up_holds : (bs : Binds) (l : Label) → AllBound I bs → OptionHolds (BindHolds I) (looked_up bs l)
  looked_up_holds [] l r = tt
  looked_up_holds (b ∷ bs) l r = by_own (same_name b.0.0 l.0) (looked_up_holds bs l r.1)
    where
      by_own : (t : Bool) → OptionHolds (BindHolds I) (looked_up bs l) → OptionHolds (BindHolds I) (if t then Some b.1 else looked_up bs l)
      by_own true k = r.0
      by_own false k = k

  turns_hold : (bs : PlainBinds) (i : ℕ) → BindsHold I bs → OptionHolds (BindHolds I) (slice_get (listed bs) i)
  turns_hold none i r = tt
  turns_hold (more b bs) zero r = r.0
  turns_hold (more b bs) (suc i) r = turns_hold bs i r.1

  turn_holds : (b : PlainBind) (i : ℕ) → BindHolds I b → OptionHolds (BindHolds I) (turn_of b i)
  turn_holds (one v) i r = tt
  turn_holds (many bs) i r = turns_hold bs i r

  through_holds : (is : List ℕ) (o : Option PlainBind) → OptionHolds (BindHolds I) o → OptionHolds (BindHolds I) (through o is)
  through_holds is None r = tt
  through_holds [] (Some b) r = r
  through_holds (i ∷ is) (Some b) r = through_holds is (turn_of b i) (turn_holds b i r)

  value_holds : (o : Option PlainBind) → OptionHolds (BindHolds I) o → ValueHolds I (value_of unbound o)
  value_holds None r = tt
  value_holds (Some (one v)) r = r
  value_holds (Some (many bs)) r = tt

  -- Instances.

  abbrev Given : {A : Type 0} → (A → Type 0) → Result (A × List Cell) Bare → Type 0
  Given Q (Ok p) = Q p.0 × CellsHold I p.1
  Given Q (Err f) = Unit {0}

  given_then : {A B : Type 0} (Q : A → Type 0) (R : B → Type 0) (r : Result (A × List Cell) Bare) (go : A → List Cell → Result (B × List Cell) Bare)
      → Given Q r → ((x : A) (cells : List Cell) → Q x → CellsHold I cells → Given R (go x cells)) → Given R (instances.then_add r go)
  given_then Q R (Ok p) go h k = k p.0 p.1 h.0 h.1
  given_then Q R (Err f) go h k = tt

  module _ (closed : IsClosed I) where
    module _ (bs : Binds) (bound : AllBound I bs) where
      abbrev GivesValues : (List ℕ → List Value → List Cell → Result (List Value × List Cell) Bare) → Type 0
      GivesValues go = (turns : List ℕ) (xs : List Value) (cells : List Cell) → CellsHold I cells → ValuesHold I xs → Given (ValuesHold I) (go turns xs cells)

      abbrev GivesValue : (List ℕ → List Cell → Result (Value × List Cell) Bare) → Type 0
      GivesValue go = (turns : List ℕ) (cells : List Cell) → CellsHold I cells → Given (ValueHolds I) (go turns cells)

      turned_given : (go : List ℕ → List Value → List Cell → Result (List Value × List Cell) Bare) → GivesValues go → (n i : ℕ) → GivesValues (instances.turned go n i)
      turned_given go gives zero i turns xs cells h r = (r, h)
      turned_given go gives (suc n) i turns xs cells h r =
          given_then (ValuesHold I) (ValuesHold I) (go (turns ++ i ∷ []) xs cells) (instances.turned go n (i + 1) turns) (gives (turns ++ i ∷ []) xs cells h r) (λ ys after k j. turned_given go gives n (i + 1) turns ys after j k)

      item_given : (go : List ℕ → List Cell → Result (Value × List Cell) Bare) (counts : ℕ → List ℕ → List ℕ) → GivesValue go → (ellipses : ℕ) → GivesValues (instances.item go counts ellipses)
      item_given go counts gives zero turns xs cells h r =
          given_then (ValueHolds I) (ValuesHold I) (go turns cells) (λ v after. Ok (xs ++ v ∷ [], after)) (gives turns cells h) (λ v after k j. (each-and (ValueHolds I) xs v r k, j))
      item_given go counts gives (suc ellipses) turns xs cells h r = by_count (item_given go counts gives ellipses) (agree None (counts ellipses turns))
        where
          by_count : GivesValues (instances.item go counts ellipses) → (c : Result (Option ℕ) Bare) → Given (ValuesHold I) (c >>= λ n. instances.turned (instances.item go counts ellipses) (or_none n) 0 turns xs cells)
          by_count inner (Ok n) = turned_given (instances.item go counts ellipses) inner (or_none n) 0 turns xs cells h r
          by_count inner (Err f) = tt

      ending_given : (t : PlainTemplate) (go : List ℕ → List Cell → Result (Value × List Cell) Bare) → GivesValue go → (turns : List ℕ) (cells : List Cell) → CellsHold I cells → Given (ValueHolds I) (instances.ending t (go turns) cells)
      ending_given t go gives turns cells h = by_test (instances.is_end t)
        where
          by_test : (c : Bool) → Given (ValueHolds I) (if c then Ok (value.Atom a.Nil, cells) else go turns cells)
          by_test true = (closed.nil, h)
          by_test false = gives turns cells h

      mutual
        pub instance_holds : (t : PlainTemplate) → TemplateHolds I t → GivesValue (instances.instance unbound bs t)
        instance_holds (template.variable l depth) c turns cells h = (value_holds (reached bs l depth turns) (through_holds (innermost depth turns) (looked_up bs l) (looked_up_holds bs l bound)), h)
        instance_holds (template.constant t) c turns cells h = (c, h)
        instance_holds (template.list is t) c turns cells h =
            given_then (ValuesHold I) (ValueHolds I) (instances.parts unbound bs is turns [] cells)
            (λ xs after. instances.then_add (instances.ending t (instances.instance unbound bs t turns) after) (λ v later. Ok (pairs_stored xs (v, later)))) (parts_hold is c.0 turns [] cells h tt)
            (λ xs after k j.
            given_then (ValueHolds I) (ValueHolds I) (instances.ending t (instances.instance unbound bs t turns) after) (λ v later. Ok (pairs_stored xs (v, later)))
            (ending_given t (instances.instance unbound bs t) (instance_holds t c.1) turns after j)
            (λ v later i g. pairs_hold I xs (v, later) k (i, g)))
        instance_holds (template.vector is) c turns cells h =
            given_then (ValuesHold I) (ValueHolds I) (instances.parts unbound bs is turns [] cells) (λ xs after. Ok (vector_stored (xs, after))) (parts_hold is c turns [] cells h tt)
            (λ xs after k j. vector_holds I (xs, after) (k, j))

        parts_hold : (is : PlainItems) → ItemsHold I is → GivesValues (instances.parts unbound bs is)
        parts_hold template.none c turns xs cells h r = (r, h)
        parts_hold (template.more t ellipses is) c turns xs cells h r =
            given_then (ValuesHold I) (ValuesHold I) (instances.item (instances.instance unbound bs t) (instances.counts unbound bs t) ellipses turns xs cells) (instances.parts unbound bs is turns)
            (item_given (instances.instance unbound bs t) (instances.counts unbound bs t) (instance_holds t c.0) ellipses turns xs cells h r)
            (λ ys after k j. parts_hold is c.1 turns ys after j k)
