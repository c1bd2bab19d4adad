-- What is evaluated, and what comes of it with each amount of fuel.
use Rattle.std.specs.Prelude.{ℕ, List}
use Rattle.base_region.specs.declared.region.Place.{Place}
use Rattle.core_language.specs.Core.{PlainCore}
use Rattle.core_language.specs.declared.record.Line.{Line}
use Rattle.eval_value.specs.declared.value.Value.{Value}
use Rattle.eval_code.specs.Lines.{lines_from}
use Rattle.eval_code.specs.Meaning.{eval_of, applied}
use Rattle.eval_code.specs.Setting.{PlainSetting}
use Rattle.eval_code.specs.State.{WorldState, Outcome}

abbrev pub ByFuel : Type 0
ByFuel = ℕ → Outcome

-- of each expression, each call and the lines of each library
pub record Everywhere (P : ByFuel → Type 0) : Type 0 where
  pub expressions : (w : PlainSetting) (c : PlainCore) (scope : Place) (s : WorldState) → P (eval_of w c scope s)
  pub calls : (w : PlainSetting) (vs : List Value) (s : WorldState) → P (applied w (eval_of w) vs s)
  pub libraries : (w : PlainSetting) (ls : List Line) (scope : Place) (s : WorldState) → P (lines_from (eval_of w) ls scope s)
