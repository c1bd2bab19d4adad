-- The history of a leaf by its uses: what it was made as, which uses introduced it since, each once, and the frames that it was stamped with.
use Rattle.std.specs.Prelude.{◌≡◌, ℕ, List, []}
use Rattle.base_data.specs.Elements.{Among, Each}
use Rattle.base_data.specs.declared.imported_name.ImportedName.{ImportedName}
use Rattle.base_data.specs.declared.library.LibName.{LibName}
use Rattle.base_data.specs.declared.library.LibName.TheVariants as library
use Rattle.base_data.specs.declared.name.FrameNo.{FrameNo}
use Rattle.base_data.specs.declared.name.Mark.{Mark}
use Rattle.stx_tree.specs.Context.{LeafContext}
use Rattle.core_language.specs.declared.record.CompiledLibrary.{CompiledLibrary}
use Rattle.eval_code.specs.Codes.{Codes}
use Rattle.law_hygiene.specs.History.{Event, change_of, IsOnce, after}
use Rattle.expand_standing.specs.Start.{started}
use Rattle.expand_forms.specs.Expression.{inside}
use Rattle.expand_forms.specs.Inside.{Inside}
use Rattle.law_fresh.specs.Leaves.{CodesHold}
use Rattle.law_fresh_expansion.specs.History.{IsBeginning}
use Rattle.law_fresh_expansion.specs.Keeping.{KeepsFresh, around}
use Rattle.law_fresh_expansion.specs.Known.{IsKnown, IsKnownFrame, libraries_of, IsNewAmong}
use Rattle.law_fresh_expansion.specs.Living.{IsChangeOf}
use Rattle.law_fresh_expansion.specs.RecordMarks.{HasOnly, RecordHasOnly, RecordsKeep}
use Rattle.law_fresh_expansion.specs.States.{RecordsHold, FreshStateHolds}

-- a use of such a mark, or a stamp of such a frame
abbrev pub IsEventOf : (Mark → Type 0) → (FrameNo → Type 0) → Event → Type 0
IsEventOf K J e = IsChangeOf K J (change_of e)

-- To go into a use and to come out of it leaves nothing behind; what a use introduced has its mark from then on, and no use introduces it twice.
pub record HasEvents (K : Mark → Type 0) (J : FrameNo → Type 0) (c : LeafContext) : Type 0 where
  pub marks : List Mark
  pub begins : IsBeginning K (record { marks = marks; stamps = [] })
  pub events : List Event
  pub are : Each (IsEventOf K J) events
  pub once : IsOnce events marks
  pub gives : after events marks ≡ c

-- with known ones
abbrev pub HasKnownEvents : List LibName → LibName → ℕ → LeafContext → Type 0
HasKnownEvents libs own n c = HasEvents (IsKnown libs own n) (IsKnownFrame libs own n) c

-- Each leaf that the expansion of a new library comes to has such a history: those that it begins with, behind records and codes of texts whose
-- leaves have one, all that it comes to from these, and those that it puts into its record.
pub record EventsStay : Type 0 where
  pub around_keeps : (libs : List LibName) (own : LibName) (go : Inside) → Among libs library.Core → IsNewAmong libs own
      → KeepsFresh own (IsKnown libs own) (IsKnownFrame libs own) (HasKnownEvents libs own) go
      → KeepsFresh own (IsKnown libs own) (IsKnownFrame libs own) (HasKnownEvents libs own) (around go)
  pub inside_keeps : (libs : List LibName) (own : LibName) (records : List CompiledLibrary) (room : ℕ) → Among libs library.Core → IsNewAmong libs own
      → KeepsFresh own (IsKnown libs own) (IsKnownFrame libs own) (HasKnownEvents libs own) (inside records room)
  pub starts : (own : LibName) (records : List CompiledLibrary) (imports : List ImportedName) (codes : Codes) → IsNewAmong (libraries_of records) own
      → Each (RecordHasOnly HasEvents (libraries_of records)) records → CodesHold (HasOnly HasEvents (libraries_of records)) codes
      → FreshStateHolds own (IsKnown (libraries_of records) own) (HasKnownEvents (libraries_of records) own)
      (started own records imports codes).names.number (started own records imports codes)
      × RecordsHold (HasKnownEvents (libraries_of records) own (started own records imports codes).names.number) records
  pub records : RecordsKeep HasEvents
