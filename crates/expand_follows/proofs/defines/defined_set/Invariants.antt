use Rattle.std.proofs.Common.{◌≡◌, drop, []}
use Rattle.std.specs.List.{flat_map}
use Rattle.core_language.specs.Labels.{with_labels}
use Rattle.law_core.specs.Records.{line_labels}
use Rattle.expand_follows.proofs.defines.defined_set.Given as goal

abbrev pub invariant-loop-line : goal.invariant-loop-line
invariant-loop-line l = with_labels l.set (flat_map line_labels (drop l.line-index l.one.run)) ≡ with_labels [] (flat_map line_labels l.one.run)
