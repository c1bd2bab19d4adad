use Rattle.std.proofs.Common.{◌≡◌, drop}
use Rattle.std.specs.Prelude.{is_some}
use Rattle.load_builtin.specs.Exports.{definition_from}
use Rattle.expand_follows.proofs.known.is_among.Given as goal

abbrev pub invariant-loop-definition : goal.invariant-loop-definition
invariant-loop-definition l = is_some (definition_from l.definition-index l.number (drop l.definition-index l.definitions)) ≡ is_some (definition_from 0 l.number l.definitions)
