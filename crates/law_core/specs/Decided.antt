-- The tests tell what they are named for.
use Rattle.std.specs.Prelude.{List}
use Rattle.std.specs.Bool.{Decides}
use Rattle.base_data.specs.declared.name.Label.{Label}
use Rattle.core_language.specs.Core.{PlainCore}
use Rattle.core_language.specs.declared.record.CompiledLibrary.{CompiledLibrary}
use Rattle.law_core.specs.Scope.{Closed, closed}
use Rattle.law_core.specs.Templates.{Depths}
use Rattle.law_core.specs.WellMade.{IsWellMade, is_well_made}
use Rattle.law_core.specs.Records.{AreClosed, are_closed, AreBoundOnce, are_bound_once}
use Rattle.law_core.specs.Follows.{Follows, follows}

abbrev pub ClosedIsDecided : Type 0
ClosedIsDecided = (ls : List Label) (c : PlainCore) → Decides (closed ls c) (Closed ls c)

abbrev pub WellMadeIsDecided : Type 0
WellMadeIsDecided = (given : Depths) (c : PlainCore) → Decides (is_well_made given c) (IsWellMade given c)

abbrev pub RecordsClosedIsDecided : Type 0
RecordsClosedIsDecided = (rs : List CompiledLibrary) → Decides (are_closed rs) (AreClosed rs)

abbrev pub BoundOnceIsDecided : Type 0
BoundOnceIsDecided = (rs : List CompiledLibrary) → Decides (are_bound_once rs) (AreBoundOnce rs)

abbrev pub FollowsIsDecided : Type 0
FollowsIsDecided = (r : CompiledLibrary) (earlier : List CompiledLibrary) → Decides (follows r earlier) (Follows r earlier)
