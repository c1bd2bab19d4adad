use Rattle.std.proofs.Common.{◌≡◌, drop}
use Rattle.load_builtin.specs.Exports.{definition_from}
use Rattle.load_builtin.proofs.exports.definition.Given as goal

abbrev pub invariant-loop-place : goal.invariant-loop-place
invariant-loop-place l = definition_from l.place l.number (drop l.place l.definitions) ≡ definition_from 0 l.number l.definitions
