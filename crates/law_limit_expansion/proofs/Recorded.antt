-- The law of the records of libraries.
use Rattle.std.proofs.Common.{List}
use Rattle.base_data.specs.Elements.{Each}
use Rattle.base_data.specs.declared.imported_name.ImportedName.{ImportedName}
use Rattle.base_data.specs.declared.library.LibName.{LibName}
use Rattle.stx_tree.specs.Tree.{Tree}
use Rattle.core_language.specs.declared.record.CompiledLibrary.{CompiledLibrary}
use Rattle.eval_code.specs.Codes.{Codes}
use Rattle.expand_standing.specs.Start.{started}
use Rattle.law_invariant_expansion.proofs.Recorded as recorded
use Rattle.law_limits.specs.Holds.{CodesHold, trees}
use Rattle.law_limits.specs.Lawful.{IsLawful}
use Rattle.law_limit_expansion.specs.Records.{RecordHolds, RecordsStay}
use Rattle.law_limit_expansion.specs.States.{HoldsIn}
use Rattle.law_limit_expansion.proofs.Kept.{trees-kept}

module _ (T : Tree → Type 0) (lawful : IsLawful T) where
  pub started-holds : (own : LibName) (records : List CompiledLibrary) (imports : List ImportedName) (codes : Codes) → Each (RecordHolds T) records → CodesHold T codes → HoldsIn T (started own records imports codes)
  started-holds own records imports codes before texts = recorded.started-holds (trees T) (trees-kept T lawful) own records imports codes before texts

  pub records-stay : RecordsStay T
  records-stay = recorded.records-stay (trees T) (trees-kept T lawful)
