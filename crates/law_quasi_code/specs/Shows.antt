-- What a value in the store shows: a datum, in which leaves may stand for values that were given (R6RS 11.17).
use Rattle.std.specs.Prelude.{◌≡◌, ℕ, false, List, [], ◌∷◌, Option, Some}
use Rattle.base_data.specs.declared.atom.Atom.{Atom}
use Rattle.base_data.specs.declared.atom.Atom.TheVariants as a
use Rattle.base_data.specs.declared.span.Span.{Span}
use Rattle.base_region.specs.declared.region.Place.{Place}
use Rattle.stx_tree.specs.Context.{LeafContext}
use Rattle.stx_tree.specs.Tree.{Tree, atom, leaf, pair, vector}
use Rattle.eval_value.specs.Cells.{vector_at, string_at}
use Rattle.eval_value.specs.declared.value.Value.{Value}
use Rattle.eval_value.specs.declared.value.Value.TheVariants as value
use Rattle.eval_value.specs.declared.cell.Cell.{Cell}
use Rattle.eval_prims.specs.Chains.{pair_of}
use Rattle.law_lists.specs.Data.{is_text}

-- leaves with the values that they stand for
pub data IsGiven : List (Tree × Value) → Tree → Value → Type 0 where
  first : {t : Tree} {v : Value} {rest : List (Tree × Value)} → IsGiven ((t, v) ∷ rest) t v
  other : {t : Tree} {v : Value} {p : Tree × Value} {rest : List (Tree × Value)} → IsGiven rest t v → IsGiven (p ∷ rest) t v

mutual
  pub data Shows (given : List (Tree × Value)) (cells : List Cell) : Tree → Value → Type 0 where
    of_given : {s : Option Span} {x : List ℕ} {c : LeafContext} {v : Value} → IsGiven given (leaf s x c) v → Shows given cells (leaf s x c) v
    of_atom : {s : Option Span} {b : Atom} → is_text b ≡ false → Shows given cells (atom s b) (value.Atom b)
    of_string : {s : Option Span} {text : List ℕ} {p : Place} → string_at cells p.0 ≡ Some text → Shows given cells (atom s (a.Str text)) (value.Str p)
    of_symbol : {s : Option Span} {x : List ℕ} {c : LeafContext} → Shows given cells (leaf s x c) (value.Symbol x)
    of_pair : {s : Option Span} {d e : Tree} {v x y : Value} → pair_of cells v ≡ Some (x, y) → Shows given cells d x
        → Shows given cells e y → Shows given cells (pair s d e) v
    of_vector : {s : Option Span} {e : Tree} {p : Place} {xs : List Value} → vector_at cells p.0 ≡ Some xs → ShowsEach given cells e xs
        → Shows given cells (vector s e) (value.Vector p)

  -- values that show the elements of a list
  pub data ShowsEach (given : List (Tree × Value)) (cells : List Cell) : Tree → List Value → Type 0 where
    no_more : {s : Option Span} → ShowsEach given cells (atom s a.Nil) []
    one_more : {s : Option Span} {d e : Tree} {x : Value} {xs : List Value} → Shows given cells d x → ShowsEach given cells e xs
        → ShowsEach given cells (pair s d e) (x ∷ xs)
