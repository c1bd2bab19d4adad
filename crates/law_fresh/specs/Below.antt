-- Marks that were taken before a name of a library: all of other libraries, and those of it with a lower number.
use Rattle.std.specs.Prelude.{◌≡◌, ◌<◌, ℕ, List}
use Rattle.base_data.specs.Elements.{Each}
use Rattle.base_data.specs.declared.library.LibName.{LibName}
use Rattle.base_data.specs.declared.name.FrameNo.{FrameNo}
use Rattle.base_data.specs.declared.name.Mark.{Mark}
use Rattle.base_region.specs.declared.region.Place.{Place}
use Rattle.stx_tree.specs.Context.{LeafContext}
use Rattle.stx_tree.specs.Tree.{Tree}
use Rattle.stx_tree.specs.declared.stamp.Stamp.{Stamp}
use Rattle.stx_frames.specs.Rows.{Row}
use Rattle.stx_frames.specs.Scope.{Scope}
use Rattle.core_language.specs.Core.{PlainCore}
use Rattle.core_language.specs.declared.record.Line.{Line}
use Rattle.eval_value.specs.declared.value.Value.{Value}
use Rattle.law_hygiene.specs.Binder.{IsNew}
use Rattle.law_hygiene.specs.Marked.{Untouched}
use Rattle.eval_code.specs.Lines.{lines_from}
use Rattle.eval_code.specs.Meaning.{eval_of, applied}
use Rattle.eval_code.specs.Setting.{PlainSetting}
use Rattle.eval_code.specs.State.{WorldState}
use Rattle.law_fresh.specs.Leaves.{TreeHolds, ValuesHold, CellsHold, CoreHolds, LinesHold}
use Rattle.law_fresh.specs.Names.{SettingHolds, OutcomeHolds}

abbrev pub IsBefore : LibName → ℕ → Mark → Type 0
IsBefore own n m = m.0.library ≡ own → m.0.number < n

abbrev pub AreBefore : LibName → ℕ → List Mark → Type 0
AreBefore own n ms = Each (IsBefore own n) ms

-- so it is of the marks of a leaf, and of those that it had at its stamps
pub record MarkedBefore (own : LibName) (n : ℕ) (c : LeafContext) : Type 0 where
  pub marks : AreBefore own n c.marks
  pub stamps : Each (λ (t : Stamp). AreBefore own n t.marks) c.stamps

-- and of the rows of frames
abbrev pub RowsBefore : LibName → ℕ → Scope → Type 0
RowsBefore own n fs = Each (λ (e : FrameNo × List Row). Each (λ (r : Row). AreBefore own n r.marks) e.1) fs

abbrev pub mark_named : LibName → ℕ → Mark
mark_named own n = record { 0 = record { library = own; number = n } }

-- the code, the cells and what is read have no marks but those that were taken
pub record StartsBefore (own : LibName) (w : PlainSetting) (s : WorldState) : Type 0 where
  pub setting : SettingHolds (MarkedBefore own s.names.number) w
  pub cells : CellsHold (MarkedBefore own s.names.number) s.cells
  pub library : s.names.library ≡ own

-- So there are none others in a value that an evaluation comes to and in the cells then, and no name that was taken is free again.
pub record MarksStayBefore : Type 0 where
  pub expressions : (own : LibName) (w : PlainSetting) (c : PlainCore) (scope : Place) (s : WorldState) (n : ℕ) → StartsBefore own w s
      → CoreHolds (MarkedBefore own s.names.number) c → OutcomeHolds own (MarkedBefore own) s.names.number (eval_of w c scope s n)
  pub calls : (own : LibName) (w : PlainSetting) (vs : List Value) (s : WorldState) (n : ℕ) → StartsBefore own w s
      → ValuesHold (MarkedBefore own s.names.number) vs → OutcomeHolds own (MarkedBefore own) s.names.number (applied w (eval_of w) vs s n)
  pub libraries : (own : LibName) (w : PlainSetting) (ls : List Line) (scope : Place) (s : WorldState) (n : ℕ) → StartsBefore own w s
      → LinesHold (MarkedBefore own s.names.number) ls → OutcomeHolds own (MarkedBefore own) s.names.number (lines_from (eval_of w) ls scope s n)

-- The mark of the next name is new: no tree whose marks were taken before has to do with it, and no row of frames has it.
pub record TheNextIsNew : Type 0 where
  pub trees : (own : LibName) (n : ℕ) (t : Tree) → TreeHolds (MarkedBefore own n) t → Untouched (mark_named own n) t
  pub rows : (own : LibName) (n : ℕ) (fs : Scope) → RowsBefore own n fs → IsNew (mark_named own n) fs
