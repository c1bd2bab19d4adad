-- Generated names stay apart.
use Rattle.std.specs.Prelude.{◌≡◌, ℕ, List, [], ◌∷◌, Option, Ok}
use Rattle.base_data.specs.Datum.{symbol}
use Rattle.base_data.specs.declared.span.Span.{Span}
use Rattle.read_reader.specs.Read.{data_of}
use Rattle.law_names.specs.Variable.{NamedVariable, IsVariable, name_of}

-- the text, as a file where so many forms may be nested, has one datum, which is this symbol
pub record IsReadAsSymbol (file : List ℕ) (nesting : ℕ) (text name : List ℕ) : Type 0 where
  pub span : Option Span
  pub read : data_of file text nesting ≡ Ok (symbol span name ∷ [])

abbrev pub NamesTellVariables : Type 0
NamesTellVariables = (v w : NamedVariable) → IsVariable v → IsVariable w → name_of v ≡ name_of w → v ≡ w

abbrev pub NamesAreReadAsThemselves : Type 0
NamesAreReadAsThemselves = (file : List ℕ) (nesting : ℕ) (v : NamedVariable) → IsVariable v → IsReadAsSymbol file nesting (name_of v) (name_of v)

-- two texts are read as different symbols
pub record AreReadApart (file : List ℕ) (nesting : ℕ) (one other : List ℕ) : Type 0 where
  pub first : List ℕ
  pub second : List ℕ
  pub first_read : IsReadAsSymbol file nesting one first
  pub second_read : IsReadAsSymbol file nesting other second
  pub differ : first ≡ second → ⊥

abbrev pub NamesStayApart : Type 0
NamesStayApart = (file : List ℕ) (nesting : ℕ) (v w : NamedVariable) → IsVariable v → IsVariable w → (v ≡ w → ⊥)
    → AreReadApart file nesting (name_of v) (name_of w)
