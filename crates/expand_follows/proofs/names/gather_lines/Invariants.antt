use Rattle.std.proofs.Common.{◌≡◌, drop, map}
use Rattle.std.specs.List.{flat_map}
use Rattle.law_core.specs.Parts.{parts}
use Rattle.law_core.specs.Records.{line_core}
use Rattle.core_well_made.specs.Parts.{noted_all}
use Rattle.expand_follows.proofs.names.gather_lines.Given as goal

abbrev pub invariant-loop-line : goal.invariant-loop-line
invariant-loop-line l = noted_all l.all (flat_map parts (map line_core (drop l.line-index l.lines))) ≡ noted_all l.initial.all (flat_map parts (map line_core l.lines))
