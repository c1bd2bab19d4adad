-- The datum that a value stands for, in the store (R6RS 4.3, libraries 12.6). Spans are no part of it.
use Rattle.std.specs.Prelude.{◌≡◌, ℕ, Bool, true, false, List, [], ◌∷◌, Option, Some}
use Rattle.base_data.specs.Datum.{PlainDatum}
use Rattle.base_data.specs.Datum as datum
use Rattle.base_data.specs.declared.atom.Atom.{Atom}
use Rattle.base_data.specs.declared.atom.Atom.TheVariants as a
use Rattle.base_data.specs.declared.span.Span.{Span}
use Rattle.base_region.specs.declared.region.Place.{Place}
use Rattle.eval_value.specs.Cells.{pair_at, vector_at, string_at}
use Rattle.eval_value.specs.declared.value.Value.{Value}
use Rattle.eval_value.specs.declared.value.Value.TheVariants as value
use Rattle.eval_value.specs.declared.cell.Cell.{Cell}

abbrev pub is_text : Atom → Bool
is_text (a.Str text) = true
is_text _ = false

mutual
  pub data IsDatumValue (cells : List Cell) : PlainDatum → Value → Type 0 where
    of_atom : {s : Option Span} {b : Atom} → is_text b ≡ false → IsDatumValue cells (datum.atom s b) (value.Atom b)
    of_string : {s : Option Span} {text : List ℕ} {p : Place} → string_at cells p.0 ≡ Some text → IsDatumValue cells (datum.atom s (a.Str text)) (value.Str p)
    of_symbol : {s : Option Span} {name : List ℕ} → IsDatumValue cells (datum.symbol s name) (value.Symbol name)
    of_pair : {s : Option Span} {d e : PlainDatum} {p : Place} {x y : Value} → pair_at cells p.0 ≡ Some (x, y) → IsDatumValue cells d x
        → IsDatumValue cells e y → IsDatumValue cells (datum.pair s d e) (value.Pair p)
    of_vector : {s : Option Span} {e : PlainDatum} {p : Place} {xs : List Value} → vector_at cells p.0 ≡ Some xs → AreData cells e xs
        → IsDatumValue cells (datum.vector s e) (value.Vector p)

  -- values that stand for the elements of a list
  pub data AreData (cells : List Cell) : PlainDatum → List Value → Type 0 where
    no_data : {s : Option Span} → AreData cells (datum.atom s a.Nil) []
    one_datum : {s : Option Span} {d e : PlainDatum} {x : Value} {xs : List Value} → IsDatumValue cells d x → AreData cells e xs
        → AreData cells (datum.pair s d e) (x ∷ xs)
