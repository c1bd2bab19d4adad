-- Which bytes are lines of core text, and which are a core text, with the names that they define, bind and leave free.
use Rattle.std.specs.Prelude.{◌≡◌, ℕ, suc, List, [], ◌∷◌, ◌++◌, Option, codes}
use Rattle.base_data.specs.Datum.{PlainDatum, symbol, pair}
use Rattle.base_data.specs.declared.span.Span.{Span}
use Rattle.law_grammar.specs.Reads.{Reads}
use Rattle.read_reader.specs.Read.{most_nesting}
use Rattle.check_grammar.specs.Names.{IsName}
use Rattle.check_grammar.specs.Forms.{Is1, IsExpression}
use Rattle.check_grammar.specs.Text.{text_of}

-- (define x e), or an expression
pub data IsLineForm : PlainDatum → List (List ℕ) → List (List ℕ) → List (List ℕ) → Type 0 where
  definition : {s t u v : Option Span} {x : List ℕ} {e d : PlainDatum} {bs fs : List (List ℕ)} → IsName x → Is1 e d → IsExpression d bs fs
      → IsLineForm (pair s (symbol t (codes "define")) (pair u (symbol v x) e)) (x ∷ []) (x ∷ bs) fs
  expression : {d : PlainDatum} {bs fs : List (List ℕ)} → IsExpression d bs fs → IsLineForm d [] bs fs

-- no line ends in these bytes
pub data HasNoEnd : List ℕ → Type 0 where
  no_byte : HasNoEnd []
  byte : {b : ℕ} {bs : List ℕ} → (b ≡ 0x0A → ⊥) → HasNoEnd bs → HasNoEnd (b ∷ bs)

-- the bytes of a line, without its end, spell one datum that is a form of a line, and are its text
pub record IsLine (bytes : List ℕ) (defined bound free : List (List ℕ)) : Type 0 where
  pub datum : PlainDatum
  pub whole : HasNoEnd bytes
  pub spelt : Reads [] bytes most_nesting (datum ∷ [])
  pub form : IsLineForm datum defined bound free
  pub written : bytes ≡ text_of datum

-- so many lines, each with its end
pub data AreLines : ℕ → List ℕ → List (List ℕ) → List (List ℕ) → List (List ℕ) → Type 0 where
  no_line : AreLines 0 [] [] [] []
  line : {n : ℕ} {x y : List ℕ} {ds bs fs es cs gs : List (List ℕ)} → IsLine x ds bs fs → AreLines n y es cs gs
      → AreLines (suc n) (x ++ (codes "\n" ++ y)) (ds ++ es) (bs ++ cs) (fs ++ gs)

abbrev pub first_line : List ℕ
first_line = codes "(import (rnrs))\n"

-- the first line, and then so many others
pub data IsCoreText (n : ℕ) : List ℕ → List (List ℕ) → List (List ℕ) → List (List ℕ) → Type 0 where
  text : {x : List ℕ} {ds bs fs : List (List ℕ)} → AreLines n x ds bs fs → IsCoreText n (first_line ++ x) ds bs fs
