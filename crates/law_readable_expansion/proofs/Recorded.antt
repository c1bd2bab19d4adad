-- The law of the records of libraries.
use Rattle.std.proofs.Common.{List}
use Rattle.base_data.specs.Elements.{Each}
use Rattle.base_data.specs.declared.imported_name.ImportedName.{ImportedName}
use Rattle.base_data.specs.declared.library.LibName.{LibName}
use Rattle.core_language.specs.declared.record.CompiledLibrary.{CompiledLibrary}
use Rattle.eval_code.specs.Codes.{Codes}
use Rattle.expand_standing.specs.Start.{started}
use Rattle.law_invariant_expansion.proofs.Recorded as recorded
use Rattle.law_readable.specs.Readable.{ReadableCodes, readable}
use Rattle.law_readable_expansion.specs.Records.{ReadableRecord, RecordsStayReadable}
use Rattle.law_readable_expansion.specs.States.{ReadableIn}
use Rattle.law_readable_expansion.proofs.Kept.{readable-kept}

pub started-holds : (own : LibName) (records : List CompiledLibrary) (imports : List ImportedName) (codes : Codes) → Each ReadableRecord records → ReadableCodes codes → ReadableIn (started own records imports codes)
started-holds own records imports codes before texts = recorded.started-holds readable readable-kept own records imports codes before texts

pub records-stay : RecordsStayReadable
records-stay = recorded.records-stay readable readable-kept
