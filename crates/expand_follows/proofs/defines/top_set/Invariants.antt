use Rattle.std.proofs.Common.{◌≡◌, drop, []}
use Rattle.std.specs.List.{flat_map}
use Rattle.core_language.specs.Labels.{with_labels}
use Rattle.law_core.specs.Follows.{top_label}
use Rattle.expand_follows.proofs.defines.top_set.Given as goal

abbrev pub invariant-loop-row : goal.invariant-loop-row
invariant-loop-row l = with_labels l.set (flat_map top_label (drop l.row-index l.one.bindings)) ≡ with_labels [] (flat_map top_label l.one.bindings)
