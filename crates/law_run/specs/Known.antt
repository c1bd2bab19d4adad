-- What records mention.
use Rattle.std.specs.Prelude.{List}
use Rattle.std.specs.List.{flat_map}
use Rattle.base_data.specs.Elements.{Each, Among}
use Rattle.core_language.specs.declared.record.CompiledLibrary.{CompiledLibrary}
use Rattle.law_core.specs.Follows.{names_of, export_labels, row_labels, keywords}
use Rattle.law_core.specs.Records.{defined, LinesClosed}
use Rattle.law_core.specs.Scope.{Closed}
use Rattle.law_expand.specs.Behind.{IsKnownBefore}

-- Each label that it exports or that its frames give is bound in one of these records, or given with the implementation. Its lines, and the
-- expressions of its keywords, are closed under what their lines define. Its references are libraries of these records.
pub record MentionsTheKnown (records : List CompiledLibrary) (r : CompiledLibrary) : Type 0 where
  pub exports : Each (IsKnownBefore records) (export_labels r)
  pub rows : Each (IsKnownBefore records) (row_labels r)
  pub lines : LinesClosed (flat_map defined records) r
  pub keywords : Each (Closed (flat_map defined records)) (keywords r)
  pub references : Each (Among (names_of records)) r.refs
