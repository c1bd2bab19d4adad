use Rattle.std.proofs.Common.{◌∷◌, [], map, refl}
use Rattle.core_language.specs.Labels.{same_label}
use Rattle.law_core.proofs.Decisions.{label_decides}
use Rattle.expand_follows.proofs.Tables.{adds_on}
use Rattle.expand_follows.proofs.earlier.put_bound.Goals as goal

pub loop-row-preserved : goal.loop-row-preserved
loop-row-preserved c =
    adds_on same_label label_decides c.args.place (λ bs. map (λ b. b.0) bs) (λ b. b.0 ∷ []) (λ x xs. refl) c.args.bindings.now c.loop-row.row-index c.row-item.result
    c.loop-row.labels.entries c.put_label.new.labels.entries _ c.loop-row-test.true c.row-item.is c.in_ok-put_label.ensures c.loop-row.invariant
