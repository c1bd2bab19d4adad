use Rattle.std.proofs.Common.{◌≡◌, ◌++◌, drop}
use Rattle.std.specs.String.{string_bytes}
use Rattle.load_report.specs.Name.{further_parts}
use Rattle.load_report.proofs.name.put_further_parts.Given as goal

abbrev pub invariant-loop-part : goal.invariant-loop-part
invariant-loop-part l = string_bytes l.out ++ further_parts (drop l.part-index l.parts) ≡ string_bytes l.initial.out ++ further_parts l.parts
