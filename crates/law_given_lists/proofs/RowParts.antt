-- `(map car ls)`, `(map cdr ls)` and `(apply f (map car ls))`, where ls is a list of lists.
use Rattle.std.proofs.Common.{◌≡◌, List, [], ◌∷◌, Option, Some, None, map, refl, ap, ap₂, sym, subst}
use Rattle.base_data.specs.declared.op.names.TheConstants as names
use Rattle.base_region.specs.declared.region.Place.{Place}
use Rattle.core_language.specs.Core.{PlainCore}
use Rattle.eval_value.specs.declared.value.Value.{Value}
use Rattle.eval_value.specs.declared.value.Value.TheVariants as value
use Rattle.eval_value.specs.declared.cell.Cell.{Cell}
use Rattle.eval_prims.specs.Chains.{pair_of}
use Rattle.eval_code.specs.Setting.{PlainSetting}
use Rattle.eval_code.specs.State.{WorldState}
use Rattle.law_eval.specs.Kept.{LaterWorld}
use Rattle.law_lists.specs.Runs.{IsList}
use Rattle.law_lists.proofs.RunLemmas.{pair_still}
use Rattle.law_given.specs.Calls.{CallEnd, call_to, CallEnds, Calls}
use Rattle.law_given.specs.Codes.{prim, cars, cdrs, on_cars}
use Rattle.law_given.specs.Given.{Maps}
use Rattle.law_given.specs.InTurn.{AllGive, AllGiveBy}
use Rattle.law_given.proofs.Giving.{Evaluates, ExpressionEnds, primitive-is, call-two}
use Rattle.law_given.proofs.Knows.{Knows}
use Rattle.law_given.proofs.Later.{calls-later}
use Rattle.law_given.proofs.Looking.{later-stay}
use Rattle.law_given.proofs.MapText.{map-given}
use Rattle.law_given.proofs.Primitives.{car-called, cdr-called}
use Rattle.law_given.proofs.Unique.{by-all, by-answers}
use Rattle.law_given_lists.specs.Rows.{Pairs, no_pair, one_pair}
use Rattle.law_given_lists.proofs.Elements.{elements-of}
use Rattle.law_given_lists.proofs.Splitting.{Iff, iff-then}
use Rattle.law_given_lists.proofs.Steps.{two-iff, apply-iff}

-- a call that gives the list of these values
pub record Listed (w : PlainSetting) (g : Value) (args : List Value) (s : WorldState) (xs : List Value) : Type 0 where
  pub value : Value
  pub state : WorldState
  pub called : Calls w (call_to g args) s value state
  pub list : IsList state.cells xs value

abbrev car_or : Value → Option (Value × Value) → Value
car_or l None = l
car_or l (Some p) = p.0

abbrev cdr_or : Value → Option (Value × Value) → Value
cdr_or l None = l
cdr_or l (Some p) = p.1

abbrev car_in : List Cell → Value → Value
car_in cells l = car_or l (pair_of cells l)

abbrev cdr_in : List Cell → Value → Value
cdr_in cells l = cdr_or l (pair_of cells l)

cars-are : {cells : List Cell} {xs ds ls : List Value} → Pairs cells xs ds ls → map (car_in cells) ls ≡ xs
cars-are no_pair = refl
cars-are (one_pair {l = l} e r) = ap₂ (λ z zs. z ∷ zs) (ap (car_or l) e) (cars-are r)

cdrs-are : {cells : List Cell} {xs ds ls : List Value} → Pairs cells xs ds ls → map (cdr_in cells) ls ≡ ds
cdrs-are no_pair = refl
cdrs-are (one_pair {l = l} e r) = ap₂ (λ z zs. z ∷ zs) (ap (cdr_or l) e) (cdrs-are r)

module _ (w : PlainSetting) (s : WorldState) where
  cars-by : {xs ds ls : List Value} → Pairs s.cells xs ds ls → AllGiveBy w (value.Prim (record { 0 = names.CAR })) (car_in s.cells) ls s
  cars-by no_pair = tt
  cars-by (one_pair {x = x} {d = d} {l = l} e r) =
      (λ t k. (t, subst (λ v. Calls w (call_to (value.Prim (record { 0 = names.CAR })) (l ∷ [])) t v t) (sym (ap (car_or l) e)) (car-called w l x d t (pair_still s.cells t.cells (later-stay s t k) l x d e))), cars-by r)

  cdrs-by : {xs ds ls : List Value} → Pairs s.cells xs ds ls → AllGiveBy w (value.Prim (record { 0 = names.CDR })) (cdr_in s.cells) ls s
  cdrs-by no_pair = tt
  cdrs-by (one_pair {x = x} {d = d} {l = l} e r) =
      (λ t k. (t, subst (λ v. Calls w (call_to (value.Prim (record { 0 = names.CDR })) (l ∷ [])) t v t) (sym (ap (cdr_or l) e)) (cdr-called w l x d t (pair_still s.cells t.cells (later-stay s t k) l x d e))), cdrs-by r)

-- by whatever calls a procedure on each element of a list
module _ (w : PlainSetting) (g : Value) (lv : Value) (ls row rest : List Value) (s : WorldState) (pairs : Pairs s.cells row rest ls) where
  pub cars-listed : (AllGive w (value.Prim (record { 0 = names.CAR })) ls s → Maps w (call_to g (value.Prim (record { 0 = names.CAR }) ∷ lv ∷ [])) (value.Prim (record { 0 = names.CAR })) ls s)
      → Listed w g (value.Prim (record { 0 = names.CAR }) ∷ lv ∷ []) s row
  cars-listed mapping = record {
    value = m.value;
    state = m.state;
    called = m.called;
    list = subst (λ ys. IsList m.state.cells ys m.value) (cars-are pairs)
        (subst (λ ys. IsList m.state.cells ys m.value) (by-answers w (value.Prim (record { 0 = names.CAR })) (car_in s.cells) ls m.answers s m.state (cars-by w s pairs) m.in_turn) m.list);
  }
    where
      m : Maps w (call_to g (value.Prim (record { 0 = names.CAR }) ∷ lv ∷ [])) (value.Prim (record { 0 = names.CAR })) ls s
      m = mapping (by-all w (value.Prim (record { 0 = names.CAR })) (car_in s.cells) ls s (cars-by w s pairs))

  pub cdrs-listed : (AllGive w (value.Prim (record { 0 = names.CDR })) ls s → Maps w (call_to g (value.Prim (record { 0 = names.CDR }) ∷ lv ∷ [])) (value.Prim (record { 0 = names.CDR })) ls s)
      → Listed w g (value.Prim (record { 0 = names.CDR }) ∷ lv ∷ []) s rest
  cdrs-listed mapping = record {
    value = m.value;
    state = m.state;
    called = m.called;
    list = subst (λ ys. IsList m.state.cells ys m.value) (cdrs-are pairs)
        (subst (λ ys. IsList m.state.cells ys m.value) (by-answers w (value.Prim (record { 0 = names.CDR })) (cdr_in s.cells) ls m.answers s m.state (cdrs-by w s pairs) m.in_turn) m.list);
  }
    where
      m : Maps w (call_to g (value.Prim (record { 0 = names.CDR }) ∷ lv ∷ [])) (value.Prim (record { 0 = names.CDR })) ls s
      m = mapping (by-all w (value.Prim (record { 0 = names.CDR })) (cdr_in s.cells) ls s (cdrs-by w s pairs))

module _ (w : PlainSetting) (knows : Knows w.codes) (s : WorldState) (lv : Value) (ls : List Value) (lists : IsList s.cells ls lv) (row rest : List Value) (pairs : Pairs s.cells row rest ls) where
  pub cars-given : Listed w (value.Prim (record { 0 = names.MAP })) (value.Prim (record { 0 = names.CAR }) ∷ lv ∷ []) s row
  cars-given = cars-listed w (value.Prim (record { 0 = names.MAP })) lv ls row rest s pairs (λ give. map-given w s knows (value.Prim (record { 0 = names.CAR })) lv ls lists give)

  pub cdrs-given : Listed w (value.Prim (record { 0 = names.MAP })) (value.Prim (record { 0 = names.CDR }) ∷ lv ∷ []) s rest
  cdrs-given = cdrs-listed w (value.Prim (record { 0 = names.MAP })) lv ls row rest s pairs (λ give. map-given w s knows (value.Prim (record { 0 = names.CDR })) lv ls lists give)

  pub cars-later : LaterWorld s cars-given.state
  cars-later = calls-later w (value.Prim (record { 0 = names.MAP })) (value.Prim (record { 0 = names.CAR }) ∷ lv ∷ []) s cars-given.value cars-given.state cars-given.called

  pub cdrs-later : LaterWorld s cdrs-given.state
  cdrs-later = calls-later w (value.Prim (record { 0 = names.MAP })) (value.Prim (record { 0 = names.CDR }) ∷ lv ∷ []) s cdrs-given.value cdrs-given.state cdrs-given.called

  module _ (c : PlainCore) (scope : Place) (h : Evaluates w c scope s lv s) where
    pub cars-is : Evaluates w (cars c) scope s cars-given.value cars-given.state
    cars-is =
        call-two w (prim names.MAP) (prim names.CAR) c scope s s s s cars-given.state (value.Prim (record { 0 = names.MAP })) (value.Prim (record { 0 = names.CAR })) lv cars-given.value
        (primitive-is w (record { 0 = names.MAP }) scope s) (primitive-is w (record { 0 = names.CAR }) scope s) h cars-given.called

    pub cdrs-is : Evaluates w (cdrs c) scope s cdrs-given.value cdrs-given.state
    cdrs-is =
        call-two w (prim names.MAP) (prim names.CDR) c scope s s s s cdrs-given.state (value.Prim (record { 0 = names.MAP })) (value.Prim (record { 0 = names.CDR })) lv cdrs-given.value
        (primitive-is w (record { 0 = names.MAP }) scope s) (primitive-is w (record { 0 = names.CDR }) scope s) h cdrs-given.called

    -- f is called on the row
    pub on-cars-iff : (e : PlainCore) (f : Value) → Evaluates w e scope s f s → (r : CallEnd) (t : WorldState) → Iff (ExpressionEnds w (on_cars e c) scope s r t) (CallEnds w (call_to f row) cars-given.state r t)
    on-cars-iff e f k r t =
        iff-then
        (two-iff w (prim names.APPLY) e (cars c) scope s s s cars-given.state t (value.Prim (record { 0 = names.APPLY })) f cars-given.value r (primitive-is w (record { 0 = names.APPLY }) scope s) k cars-is)
        (apply-iff w f [] row cars-given.value cars-given.state r t (elements-of cars-given.state.cells row cars-given.value cars-given.list))
