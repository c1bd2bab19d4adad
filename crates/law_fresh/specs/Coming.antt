-- Where the leaves of what an evaluation gives come from.
use Rattle.std.specs.Prelude.{◌≡◌, ◌≤◌, ◌<◌, ◌⊎◌, ℕ, Bool, List, Ok, IsTrue}
use Rattle.base_data.specs.declared.library.LibName.{LibName}
use Rattle.base_region.specs.declared.region.Place.{Place}
use Rattle.stx_tree.specs.Context.{LeafContext}
use Rattle.stx_tree.specs.Tree.{Tree}
use Rattle.core_language.specs.Core.{PlainCore}
use Rattle.core_language.specs.declared.record.Line.{Line}
use Rattle.eval_value.specs.ToSyntax.{to_syntax}
use Rattle.eval_value.specs.declared.cell.Cell.{Cell}
use Rattle.eval_value.specs.declared.value.Value.{Value}
use Rattle.eval_code.specs.Lines.{lines_from}
use Rattle.eval_code.specs.Meaning.{eval_of, applied}
use Rattle.eval_code.specs.Setting.{PlainSetting}
use Rattle.eval_code.specs.State.{WorldState}
use Rattle.law_fresh.specs.Leaves.{TreeHolds, ValueHolds, ValuesHold, CellsHold, CoreHolds, LinesHold}
use Rattle.law_fresh.specs.Names.{temporary_context, SettingHolds, OutcomeHolds}

-- a leaf that was there, as a test says
abbrev pub WasThere : (LeafContext → Bool) → LeafContext → Type 0
WasThere there c = IsTrue (there c)

-- a temporary of one of the names from the first of these to before the second
abbrev pub IsTemporary : LibName → ℕ → ℕ → LeafContext → Type 0
IsTemporary own first next c = (n : ℕ) × ((first ≤ n) × ((n < next) × (c ≡ temporary_context own n)))

abbrev pub WasThereOrNew : (LeafContext → Bool) → LibName → ℕ → ℕ → LeafContext → Type 0
WasThereOrNew there own first next c = WasThere there c ⊎ IsTemporary own first next c

-- what is read, and the cells, have no leaves but those that were there
pub record HasNoOthers (there : LeafContext → Bool) (own : LibName) (w : PlainSetting) (s : WorldState) : Type 0 where
  pub setting : SettingHolds (WasThere there) w
  pub cells : CellsHold (WasThere there) s.cells
  pub library : s.names.library ≡ own

-- Each leaf of a value that an evaluation comes to, and each leaf in the cells then, was in the code, the arguments, the cells or the
-- variables of libraries, or it is a temporary of a name that the evaluation took.
pub record LeavesWereThere : Type 0 where
  pub expressions : (there : LeafContext → Bool) (own : LibName) (w : PlainSetting) (c : PlainCore) (scope : Place) (s : WorldState)
      (n : ℕ) → HasNoOthers there own w s
      → CoreHolds (WasThere there) c → OutcomeHolds own (WasThereOrNew there own s.names.number) s.names.number (eval_of w c scope s n)
  pub calls : (there : LeafContext → Bool) (own : LibName) (w : PlainSetting) (vs : List Value) (s : WorldState) (n : ℕ) → HasNoOthers there own w s
      → ValuesHold (WasThere there) vs → OutcomeHolds own (WasThereOrNew there own s.names.number) s.names.number (applied w (eval_of w) vs s n)
  pub libraries : (there : LeafContext → Bool) (own : LibName) (w : PlainSetting) (ls : List Line) (scope : Place) (s : WorldState) (n : ℕ)
      → HasNoOthers there own w s
      → LinesHold (WasThere there) ls → OutcomeHolds own (WasThereOrNew there own s.names.number) s.names.number (lines_from (eval_of w) ls scope s n)
  -- and each leaf of a tree that is read of a value was in it or in the cells
  pub trees : (there : LeafContext → Bool) (cells : List Cell) (v : Value) (fuel left : ℕ) (t : Tree) → CellsHold (WasThere there) cells
      → ValueHolds (WasThere there) v
      → to_syntax cells v fuel ≡ Ok (t, left) → TreeHolds (WasThere there) t
