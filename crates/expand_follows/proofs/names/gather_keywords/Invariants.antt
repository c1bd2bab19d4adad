use Rattle.std.proofs.Common.{◌≡◌, drop}
use Rattle.std.specs.List.{flat_map}
use Rattle.law_core.specs.Follows.{keyword_of}
use Rattle.law_core.specs.Parts.{parts}
use Rattle.core_well_made.specs.Parts.{noted_all}
use Rattle.expand_follows.proofs.names.gather_keywords.Given as goal

abbrev pub invariant-loop-row : goal.invariant-loop-row
invariant-loop-row l = noted_all l.all (flat_map parts (flat_map keyword_of (drop l.row-index l.bindings))) ≡ noted_all l.initial.all (flat_map parts (flat_map keyword_of l.bindings))
