use Rattle.std.proofs.Common.{refl}
use Rattle.std.specs.List.{flat_map}
use Rattle.law_core.specs.Records.{line_labels}
use Rattle.core_language.specs.Labels.{same_label}
use Rattle.law_core.proofs.Decisions.{label_decides}
use Rattle.expand_follows.proofs.Tables.{adds_on}
use Rattle.expand_follows.proofs.earlier.put_defined.Goals as goal

pub loop-line-preserved : goal.loop-line-preserved
loop-line-preserved c =
    adds_on same_label label_decides c.args.place (flat_map line_labels) line_labels (λ x xs. refl) c.args.run.now c.loop-line.line-index c.line-item.result
    c.loop-line.labels.entries c.put_line.new.labels.entries _ c.loop-line-test.true c.line-item.is c.in_ok-put_line.ensures c.loop-line.invariant
