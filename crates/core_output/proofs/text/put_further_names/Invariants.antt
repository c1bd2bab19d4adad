use Rattle.std.proofs.Common.{◌≡◌, ◌++◌, drop}
use Rattle.std.specs.String.{string_bytes}
use Rattle.core_output.specs.CoreText.{further_names}
use Rattle.core_output.proofs.text.put_further_names.Given as goal

abbrev pub invariant-loop-label : goal.invariant-loop-label
invariant-loop-label l = string_bytes l.out ++ further_names l.names (drop l.label-index l.labels) ≡ string_bytes l.initial.out ++ further_names l.names l.labels
