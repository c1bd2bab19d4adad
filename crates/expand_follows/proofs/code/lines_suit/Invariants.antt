use Rattle.std.proofs.Common.{◌≡◌, ◌++◌, drop, map}
use Rattle.std.specs.List.{flat_map}
use Rattle.law_core.specs.Follows.{suits}
use Rattle.law_core.specs.Records.{defined, line_core}
use Rattle.law_core.specs.Words.{each}
use Rattle.expand_follows.proofs.code.lines_suit.Given as goal

abbrev pub invariant-loop-line : goal.invariant-loop-line
invariant-loop-line l = each (suits (flat_map defined l.top.earlier.now ++ l.top.own.now)) (map line_core (drop l.line-index l.lines)) ≡ each (suits (flat_map defined l.top.earlier.now ++ l.top.own.now)) (map line_core l.lines)
