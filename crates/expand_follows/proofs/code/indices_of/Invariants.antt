use Rattle.std.proofs.Common.{◌≡◌, drop, map}
use Rattle.expand_follows.specs.Pieces.{all_there, behind_all, index_in_table}
use Rattle.expand_follows.proofs.code.indices_of.Given as goal

abbrev pub invariant-loop-label : goal.invariant-loop-label
invariant-loop-label l = behind_all l.indices.items (all_there (map (index_in_table l.own.entries) (drop l.label-index l.variables))) ≡ all_there (map (index_in_table l.own.entries) l.variables)
