use Rattle.std.proofs.Common.{◌≡◌, ◌++◌, drop, map}
use Rattle.std.specs.List.{flat_map}
use Rattle.core_language.specs.References.{mentions}
use Rattle.law_core.specs.Records.{line_binders, line_core}
use Rattle.expand_follows.proofs.names.scan_lines.Given as goal

abbrev pub invariant-loop-line : goal.invariant-loop-line
invariant-loop-line l = record {
  bound : l.bound ++ flat_map line_binders (drop l.line-index l.lines) ≡ l.initial.bound ++ flat_map line_binders l.lines;
  mentioned : l.mentioned ++ flat_map mentions (map line_core (drop l.line-index l.lines)) ≡ l.initial.mentioned ++ flat_map mentions (map line_core l.lines);
}
