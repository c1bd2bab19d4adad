-- Strings in the store by their characters (R6RS 11.12), which lie there in UTF-8.
use Rattle.std.specs.Prelude.{◌≡◌, ℕ, true, List, [], ◌∷◌, ◌++◌, Some, encode_utf8_all}
use Rattle.std.specs.Str.{all_scalars}
use Rattle.eval_value.specs.Cells.{string_at}
use Rattle.eval_value.specs.declared.value.Value.{Value}
use Rattle.eval_value.specs.declared.value.Value.TheVariants as value
use Rattle.eval_value.specs.declared.cell.Cell.{Cell}
use Rattle.base_region.specs.declared.region.Place.{Place}

-- the string of these characters, which are Unicode scalar values
pub data IsString (cells : List Cell) : List ℕ → Value → Type 0 where
  spelt : {cs : List ℕ} {p : Place} → all_scalars cs ≡ true → string_at cells p.0 ≡ Some (encode_utf8_all cs) → IsString cells cs (value.Str p)

-- each of some values is the string of its characters
pub data AreStrings (cells : List Cell) : List (List ℕ) → List Value → Type 0 where
  no_strings : AreStrings cells [] []
  one_string : {cs : List ℕ} {css : List (List ℕ)} {x : Value} {rest : List Value} → IsString cells cs x → AreStrings cells css rest
      → AreStrings cells (cs ∷ css) (x ∷ rest)

-- all characters, those of the first string first
abbrev pub all_chars : List (List ℕ) → List ℕ
all_chars [] = []
all_chars (cs ∷ css) = cs ++ all_chars css
