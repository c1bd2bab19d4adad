use Rattle.std.proofs.Common.{◌≡◌, ◌++◌, drop}
use Rattle.load_import.specs.Names.{sources}
use Rattle.load_import.proofs.names.sources.Given as goal

abbrev pub invariant-loop-renaming : goal.invariant-loop-renaming
invariant-loop-renaming l = l.ids ++ sources (drop l.renaming-index l.renamings) ≡ sources l.renamings
