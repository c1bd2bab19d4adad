use Rattle.std.proofs.Common.{◌≡◌, ◌++◌, drop}
use Rattle.load_import.specs.Names.{Labelled, join_one}
use Rattle.load_import.specs.Turns.{turns}
use Rattle.load_import.proofs.names.join_each.Given as goal

abbrev pub invariant-loop-row : goal.invariant-loop-row
invariant-loop-row l = record {
  so_far : turns (join_one l.span) l.all (drop l.row-index l.more) ≡ turns (join_one l.span) l.initial.all l.more;
  front : (tail : Labelled) × (l.all ≡ l.initial.all ++ tail);
}
