use Rattle.std.proofs.Common.{◌≡◌, ◌++◌, drop}
use Rattle.std.specs.List.{flat_map}
use Rattle.core_language.specs.References.{binders}
use Rattle.law_core.specs.Follows.{keyword_of}
use Rattle.expand_follows.proofs.names.scan_keywords.Given as goal

abbrev pub invariant-loop-row : goal.invariant-loop-row
invariant-loop-row l = l.bound ++ flat_map binders (flat_map keyword_of (drop l.row-index l.bindings)) ≡ l.initial.bound ++ flat_map binders (flat_map keyword_of l.bindings)
