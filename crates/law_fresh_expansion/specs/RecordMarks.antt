-- The marks in the records that expansion gives, so that the next library begins as this one did.
use Rattle.std.specs.Prelude.{◌≡◌, ℕ, List, ◌∷◌, Ok}
use Rattle.base_data.specs.Elements.{Among, Each}
use Rattle.base_data.specs.declared.imported_name.ImportedName.{ImportedName}
use Rattle.base_data.specs.declared.library.LibName.{LibName}
use Rattle.base_data.specs.declared.name.FrameNo.{FrameNo}
use Rattle.base_data.specs.declared.name.Mark.{Mark}
use Rattle.stx_tree.specs.Context.{LeafContext, blank}
use Rattle.stx_tree.specs.Tree.{Tree}
use Rattle.stx_tree.specs.declared.frame_row.FrameRow.{FrameRow}
use Rattle.core_language.specs.declared.record.CompiledLibrary.{CompiledLibrary}
use Rattle.eval_code.specs.Codes.{Codes}
use Rattle.expand_standing.specs.Start.{started}
use Rattle.expand_forms.specs.Expanding.{ready, library_record}
use Rattle.expand_forms.specs.declared.top.LibraryBody.{LibraryBody}
use Rattle.law_fresh.specs.Leaves.{TreeHolds, CodesHold, LinesHold}
use Rattle.law_fresh_expansion.specs.History.{HasHistory}
use Rattle.law_fresh_expansion.specs.Known.{IsKnown, IsKnownFrame, HasMarks, libraries_of, IsNewAmong}
use Rattle.law_fresh_expansion.specs.States.{BindingsHold, RecordsHold, FreshStateHolds}

-- a mark of one of these libraries
abbrev pub IsOfOne : List LibName → Mark → Type 0
IsOfOne libs m = Among libs m.0.library

abbrev pub IsFrameOfOne : List LibName → FrameNo → Type 0
IsFrameOfOne libs f = Among libs f.0.library

-- Q says of a leaf that all marks and frames are such and such: those that it has, or those of its history.
abbrev pub HasOnly : ((Mark → Type 0) → (FrameNo → Type 0) → LeafContext → Type 0) → List LibName → LeafContext → Type 0
HasOnly Q libs c = Q (IsOfOne libs) (IsFrameOfOne libs) c

-- so it is in a record of the constants of its lines and of its keywords; and of the marks of its rows
pub record RecordHasOnly (Q : (Mark → Type 0) → (FrameNo → Type 0) → LeafContext → Type 0) (libs : List LibName) (r : CompiledLibrary) : Type 0 where
  pub run : LinesHold (HasOnly Q libs) r.run
  pub bindings : BindingsHold (HasOnly Q libs) r.bindings
  pub frames : Each (λ (f : FrameRow). Each (IsOfOne libs) f.marks) r.frames

-- a leaf with known ones
abbrev pub KnownBy : ((Mark → Type 0) → (FrameNo → Type 0) → LeafContext → Type 0) → List LibName → LibName → ℕ → LeafContext → Type 0
KnownBy Q libs own n c = Q (IsKnown libs own n) (IsKnownFrame libs own n) c

abbrev pub StartsKnownBy : ((Mark → Type 0) → (FrameNo → Type 0) → LeafContext → Type 0) → Type 0
StartsKnownBy Q = (own : LibName) (records : List CompiledLibrary) (imports : List ImportedName) (codes : Codes)
    → Each (RecordHasOnly Q (libraries_of records)) records → CodesHold (HasOnly Q (libraries_of records)) codes
    → FreshStateHolds own (IsKnown (libraries_of records) own) (KnownBy Q (libraries_of records) own)
    (started own records imports codes).names.number (started own records imports codes)
    × RecordsHold (KnownBy Q (libraries_of records) own (started own records imports codes).names.number) records

-- Behind records with no other marks and frames than those of their libraries and of the implementation, and codes of texts without others,
-- an expansion begins with known ones alone: those of the records' libraries, and of the names that the new library has taken.
pub record StartsAreKnown : Type 0 where
  pub leaves : StartsKnownBy HasMarks
  pub histories : StartsKnownBy HasHistory

-- a form as it is read: its leaves have no marks and no stamps
abbrev pub WasRead : Tree → Type 0
WasRead t = TreeHolds (λ c. c ≡ blank) t

abbrev pub RecordsKeep : ((Mark → Type 0) → (FrameNo → Type 0) → LeafContext → Type 0) → Type 0
RecordsKeep Q = (own : LibName) (records : List CompiledLibrary) (imports : List ImportedName) (body : LibraryBody) (codes : Codes) (r : CompiledLibrary)
    → IsNewAmong (libraries_of records) own → Each (RecordHasOnly Q (libraries_of records)) records
    → CodesHold (HasOnly Q (libraries_of records)) codes → Each WasRead body.forms
    → library_record (ready own records imports codes) records body ≡ Ok r → RecordHasOnly Q (own ∷ libraries_of records) r

-- Where the marks and frames in the records before are of their libraries or of the implementation, and so are those in the codes of texts, those
-- in the record of a library with a new name are so, too, or its own.
pub record RecordsHaveOwnMarks : Type 0 where
  pub leaves : RecordsKeep HasMarks
  pub histories : RecordsKeep HasHistory
