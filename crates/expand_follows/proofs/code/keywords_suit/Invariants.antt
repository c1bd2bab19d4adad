use Rattle.std.proofs.Common.{◌≡◌, ◌++◌, drop}
use Rattle.std.specs.List.{flat_map}
use Rattle.law_core.specs.Follows.{keyword_of, suits}
use Rattle.law_core.specs.Records.{defined}
use Rattle.law_core.specs.Words.{each}
use Rattle.expand_follows.proofs.code.keywords_suit.Given as goal

abbrev pub invariant-loop-row : goal.invariant-loop-row
invariant-loop-row l = each (suits (flat_map defined l.top.earlier.now ++ l.top.own.now)) (flat_map keyword_of (drop l.row-index l.bindings)) ≡ each (suits (flat_map defined l.top.earlier.now ++ l.top.own.now)) (flat_map keyword_of l.bindings)
