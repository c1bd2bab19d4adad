use Rattle.std.proofs.Common.{◌≡◌, drop, map}
use Rattle.std.specs.List.{flat_map}
use Rattle.base_data.specs.declared.imported_name.ImportedName.{ImportedName}
use Rattle.law_core.specs.Follows.{bound_labels}
use Rattle.law_core.specs.Words.{each}
use Rattle.expand_follows.specs.Pieces.{known_by}
use Rattle.expand_follows.proofs.known.exports_are_known.Given as goal

abbrev pub invariant-loop-row : goal.invariant-loop-row
invariant-loop-row l = each (known_by l.own.entries (flat_map bound_labels l.earlier)) (map (λ (e : ImportedName). e.label) (drop l.row-index l.exports)) ≡ each (known_by l.own.entries (flat_map bound_labels l.earlier)) (map (λ (e : ImportedName). e.label) l.exports)
