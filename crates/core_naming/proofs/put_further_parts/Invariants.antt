use Rattle.std.proofs.Common.{◌≡◌, ◌++◌, drop}
use Rattle.std.specs.String.{string_bytes}
use Rattle.core_naming.specs.Generated.{further_parts}
use Rattle.core_naming.proofs.put_further_parts.Given as goal

abbrev pub invariant-loop-part : goal.invariant-loop-part
invariant-loop-part l = string_bytes l.out ++ further_parts (drop l.part-index l.parts) ≡ string_bytes l.initial.out ++ further_parts l.parts
