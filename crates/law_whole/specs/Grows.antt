-- Cells have come, and variables of cells have got values.
use Rattle.std.specs.Prelude.{◌≡◌, ◌≤◌, ℕ, Bool, true, false, List, Option, None, Some, length, slice_get, IsTrue}
use Rattle.base_data.specs.declared.name.Label.{Label}
use Rattle.eval_value.specs.Cells.{pair_in, vector_in, string_in, transformer_in, has_variables, is_found}
use Rattle.eval_value.specs.declared.value.Value.{Value}
use Rattle.eval_value.specs.declared.cell.Cell.{Cell}
use Rattle.eval_code.specs.Variables.{entry_in, bind_in, parent_in}

-- whether this is a variable that has a value
abbrev pub has_value : Option (Option Value) → Bool
has_value None = false
has_value (Some None) = false
has_value (Some (Some v)) = true

-- A cell stays: its kind, its parts, the variables round it, and its own variables, which keep that they have a value and may
-- have got one.
pub record Same (c d : Cell) : Type 0 where
  pub pair : pair_in (Some c) ≡ pair_in (Some d)
  pub vector : vector_in (Some c) ≡ vector_in (Some d)
  pub text : string_in (Some c) ≡ string_in (Some d)
  pub transformer : transformer_in (Some c) ≡ transformer_in (Some d)
  pub variables : has_variables (Some c) ≡ has_variables (Some d)
  pub parent : parent_in c ≡ parent_in d
  pub bind : (l : Label) → bind_in l c ≡ bind_in l d
  pub entry : (l : Label) → is_found (entry_in l c) ≡ is_found (entry_in l d)
  pub value : (l : Label) → IsTrue (has_value (entry_in l c)) → IsTrue (has_value (entry_in l d))

pub record StillAt (new : List Cell) (n : ℕ) (c : Cell) : Type 0 where
  pub cell : Cell
  pub there : slice_get new n ≡ Some cell
  pub same : Same c cell

pub record WorldGrowth (old new : List Cell) : Type 0 where
  pub longer : length old ≤ length new
  pub still : (n : ℕ) (c : Cell) → slice_get old n ≡ Some c → StillAt new n c
