-- What an evaluation leaves as it was.
use Rattle.std.specs.Prelude.{◌≡◌, ◌≤◌, ℕ, List}
use Rattle.base_region.specs.declared.region.Place.{Place}
use Rattle.core_language.specs.Core.{PlainCore}
use Rattle.core_language.specs.declared.record.Line.{Line}
use Rattle.eval_value.specs.FromDatum.{Keeps}
use Rattle.eval_value.specs.declared.value.Value.{Value}
use Rattle.eval_prims.specs.declared.world.World.{World}
use Rattle.eval_code.specs.Evals.{state_of}
use Rattle.eval_code.specs.Lines.{library_evaluated}
use Rattle.eval_code.specs.Meaning.{eval_of, applied}
use Rattle.eval_code.specs.Setting.{PlainSetting}
use Rattle.eval_code.specs.State.{WorldState, Outcome, done, faulted, unfit}

-- A state that comes after another: the cells that were there are there still, each in its place, and no name that was taken is
-- free again.
pub record LaterWorld (s t : WorldState) : Type 0 where
  pub cells : Keeps s.cells t.cells
  pub library : t.names.library ≡ s.names.library
  pub names : s.names.number ≤ t.names.number

abbrev pub EndsLater : WorldState → Outcome → Type 0
EndsLater s (done v t n) = LaterWorld s t
EndsLater s (faulted f t n) = LaterWorld s t
EndsLater s unfit = Unit {0}

-- Whatever an evaluation comes to, it changes no cell that was there.
abbrev pub ExpressionsEndLater : Type 0
ExpressionsEndLater = (w : PlainSetting) (c : PlainCore) (scope : Place) (s : WorldState) (n : ℕ) → EndsLater s (eval_of w c scope s n)

abbrev pub CallsEndLater : Type 0
CallsEndLater = (w : PlainSetting) (vs : List Value) (s : WorldState) (n : ℕ) → EndsLater s (applied w (eval_of w) vs s n)

-- A library adds the cell in which its variables get their values.
abbrev pub LibrariesEndLater : Type 0
LibrariesEndLater = (w : World) (ls : List Line) (n : ℕ) → EndsLater (state_of w) (library_evaluated w ls n)
