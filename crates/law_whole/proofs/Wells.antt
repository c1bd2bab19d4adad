-- How evaluations end that meet no cells that don't fit.
use Rattle.std.proofs.Common.{◌≡◌, ◌-◌, ◌+◌, ℕ, List, Bool, true, false, refl, nat_lt, if◌then◌else◌, arith, slice_get}
use Rattle.std.specs.Prelude.{IsTrue}
use Rattle.std.proofs.lemmas.Bool.Decides.{nat_tests}
use Rattle.base_region.specs.declared.region.Place.{Place}
use Rattle.eval_value.specs.Cells.{has_variables}
use Rattle.eval_value.specs.ToSyntax.{fuel_spent}
use Rattle.eval_value.specs.declared.value.Value.{Value}
use Rattle.eval_value.specs.declared.cell.Cell.{Cell}
use Rattle.eval_code.specs.Setting.{PlainSetting}
use Rattle.eval_code.specs.State.{WorldState, Outcome, done, faulted, unfit, Go, then_do, charged}
use Rattle.law_whole.specs.Grows.{WorldGrowth}
use Rattle.law_whole.specs.PartsReady.{EndsWell}
use Rattle.law_whole.specs.WholeWorld.{ValueReady, WholeWorld}
use Rattle.law_whole.proofs.Growth.{grows_refl, grows_then}

abbrev pub HasScope : List Cell → Place → Type 0
HasScope cells scope = IsTrue (has_variables (slice_get cells scope.0))

pub well_later : (w : PlainSetting) (x y : List Cell) (o : Outcome) → WorldGrowth x y → EndsWell w y o → EndsWell w x o
well_later w x y (done v s n) k h = (grows_then x y s.cells k h.0, h.1)
well_later w x y (faulted f s n) k h = (grows_then x y s.cells k h.0, h.1)
well_later w x y unfit k h = h

-- what comes of a value ends well, where the world then is whole and the value ready
abbrev pub WellAfter : PlainSetting → List Cell → Go → Type 0
WellAfter w cells g = (v : Value) (s : WorldState) (n : ℕ) → WorldGrowth cells s.cells → WholeWorld w s.cells → ValueReady w s.cells v → EndsWell w s.cells (g v s n)

pub well_then : (w : PlainSetting) (cells : List Cell) (o : Outcome) (g : Go) → EndsWell w cells o → WellAfter w cells g → EndsWell w cells (then_do o g)
well_then w cells (done v s n) g h k = well_later w cells s.cells (g v s n) h.0 (k v s n h.0 h.1.0 h.1.1)
well_then w cells (faulted f s n) g h k = h
well_then w cells unfit g h k = h

pub well_if : (w : PlainSetting) (cells : List Cell) (t : Bool) (o p : Outcome) → EndsWell w cells o → EndsWell w cells p → EndsWell w cells (if t then o else p)
well_if w cells true o p h k = h
well_if w cells false o p h k = k

left_of : (n cost : ℕ) → nat_lt n cost ≡ false → (n - cost) + cost ≡ n
left_of n cost h = grind (arith, nat_tests)

pub well_charged : (w : PlainSetting) (cost : ℕ) (s : WorldState) (n : ℕ) (g : ℕ → Outcome) → WholeWorld w s.cells → ((m : ℕ) → m + cost ≡ n → EndsWell w s.cells (g m))
    → EndsWell w s.cells (charged cost s n g)
well_charged w cost s n g world k = by_test (nat_lt n cost) refl
  where
    by_test : (t : Bool) → nat_lt n cost ≡ t → EndsWell w s.cells (if t then faulted fuel_spent s n else g (n - cost))
    by_test true e = (grows_refl s.cells, world)
    by_test false e = k (n - cost) (left_of n cost e)
