use Rattle.std.proofs.Common.{◌≡◌, ◌++◌, drop, map}
use Rattle.base_data.specs.declared.imported_name.ImportedName.{ImportedName}
use Rattle.expand_follows.proofs.names.names_of_exports.Given as goal

abbrev pub invariant-loop-row : goal.invariant-loop-row
invariant-loop-row l = l.names ++ map (λ (e : ImportedName). e.name) (drop l.row-index l.exports) ≡ map (λ (e : ImportedName). e.name) l.exports
