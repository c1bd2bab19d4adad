use Rattle.std.proofs.Common.{◌∙◌, ap₂, ℕ, List}
use Rattle.base_data.specs.declared.imported_name.ImportedName.{ImportedName}
use Rattle.base_data.specs.declared.name.Label.{Label}
use Rattle.load_builtin.proofs.Runs.{row_turn}
use Rattle.load_builtin.proofs.exports.add_run.Goals as goal

abbrev imported : List ℕ → Label → ImportedName
imported name label = record { name = name; label = label }

pub loop-number-preserved : goal.loop-number-preserved
loop-number-preserved c = row_turn _ _ _ c.loop-number.number c.args.run.to _ c.loop-number-test.true c.in_ok-push.ensures.ok (ap₂ imported (c.in_ok-name.ensures ∙ c.op_text.ensures) c.in_ok-label.ensures) c.loop-number.invariant
