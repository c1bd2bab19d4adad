use Rattle.std.proofs.Common.{length}
use Rattle.std.specs.String.{string_bytes}
use Rattle.read_spelling.specs.Identifiers.{name}
use Rattle.read_spelling.proofs.NameTurns.{NameGoesOn}
use Rattle.read_spelling.proofs.identifiers.spelt_name.Given as goal

abbrev pub invariant-loop-rest : goal.invariant-loop-rest
invariant-loop-rest l = NameGoesOn l.class (string_bytes l.name) l.rest (name l.fn.class l.text)

abbrev pub decreases-loop-rest : goal.decreases-loop-rest
decreases-loop-rest l = length l.rest
