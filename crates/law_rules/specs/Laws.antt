-- Rules told on trees are what the evaluation gives.
use Rattle.std.specs.Prelude.{◌≡◌, ◌≤◌, ◌+◌, Some, Ok}
use Rattle.base_data.specs.declared.name.CodeNo.{CodeNo}
use Rattle.base_data.specs.declared.span.Span.{Span}
use Rattle.base_region.specs.declared.region.Place.{Place}
use Rattle.stx_tree.specs.Tree.{Tree}
use Rattle.core_language.specs.Core.{PlainCode}
use Rattle.eval_value.specs.declared.value.Value.TheVariants as value
use Rattle.eval_code.specs.Codes.{code_at}
use Rattle.eval_stage.specs.Fuel.{most_fuel}
use Rattle.eval_stage.specs.Stage.{PlainStage}
use Rattle.eval_stage.specs.Uses.{transform_and_cut}
use Rattle.eval_rules.specs.declared.rules.Ruled.{Ruled}
use Rattle.eval_rules.specs.Rules.{ruled}

-- A use of a transformer whose code is so gives that tree and spends that fuel, where there is as much as evaluating and reading take;
-- and nothing else on the stage changes.
abbrev pub RulesAreEvaluation : Type 0
RulesAreEvaluation = (place : Span) (number : CodeNo) (parent : Place) (code : PlainCode) (t : Tree) (r : Ruled) (s : PlainStage)
    → code_at s.codes number ≡ Some code → ruled s.frames code t ≡ Some r → r.spent + r.reading ≤ most_fuel
    → transform_and_cut place (value.Closure number parent) t s ≡ Ok (r.tree, record s { spent = s.spent + r.spent })
