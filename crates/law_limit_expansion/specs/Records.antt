-- Records of libraries of whose trees such a law holds.
use Rattle.stx_tree.specs.Tree.{Tree}
use Rattle.core_language.specs.declared.record.CompiledLibrary.{CompiledLibrary}
use Rattle.law_invariant_expansion.specs.Records as records
use Rattle.law_limits.specs.Holds.{trees}

module _ (T : Tree → Type 0) where
  -- of the constants of its lines, and of its keywords' expressions
  abbrev pub RecordHolds : CompiledLibrary → Type 0
  RecordHolds = records.RecordHolds (trees T)

  -- Where it holds of the forms of a library, of the trees of the records before and of those in the codes of texts, it holds of those of its record.
  abbrev pub RecordsStay : Type 0
  RecordsStay = records.RecordsStay (trees T)
