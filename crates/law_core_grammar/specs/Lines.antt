-- Which data spell the lines of a program (R6RS 8.1 and 11.2.1).
use Rattle.std.specs.Prelude.{ℕ, List, [], ◌∷◌, ◌++◌, Option, None, Some, slice_get, codes}
use Rattle.base_data.specs.Datum.{PlainDatum}
use Rattle.base_data.specs.declared.name.Label.{Label}
use Rattle.core_language.specs.Core.{PlainCore}
use Rattle.core_language.specs.declared.record.CompiledLibrary.{CompiledLibrary}
use Rattle.core_language.specs.declared.record.Line.{Line}
use Rattle.core_language.specs.declared.record.Line.TheVariants as line
use Rattle.core_output.specs.CoreText.{VariableNames}
use Rattle.law_core_grammar.specs.Names.{IsCalled}
use Rattle.law_core_grammar.specs.Spells.{word, form, one, two, SpellsCode}

-- (import (rnrs))
abbrev pub import_form : PlainDatum
import_form = form (codes "import") (one (one (word (codes "rnrs"))))

module _ (names : VariableNames) where
  -- (define x e), or an expression
  pub data SpellsLine : Line → PlainDatum → Type 0 where
    definition : {l : Label} {x : List ℕ} {c : PlainCore} {d : PlainDatum} → IsCalled names l x → SpellsCode names c d
        → SpellsLine (line.Define l c) (form (codes "define") (two (word x) d))
    expression : {c : PlainCore} {d : PlainDatum} → SpellsCode names c d → SpellsLine (line.Expr c) d

  -- one datum a line, in order
  pub data SpellLines : List Line → List PlainDatum → Type 0 where
    no_line : SpellLines [] []
    further : {l : Line} {ls : List Line} {d : PlainDatum} {ds : List PlainDatum} → SpellsLine l d → SpellLines ls ds → SpellLines (l ∷ ls) (d ∷ ds)

abbrev pub record_lines : Option CompiledLibrary → List Line
record_lines None = []
record_lines (Some r) = r.run

-- the lines of the planned libraries in their order, and then those of the program
abbrev pub all_lines : List CompiledLibrary → List ℕ → CompiledLibrary → List Line
all_lines records [] program = program.run
all_lines records (p ∷ ps) program = record_lines (slice_get records p) ++ all_lines records ps program
