-- How deep data nest, and those that spell core code.
use Rattle.std.specs.Prelude.{ℕ, ◌+◌, ◌≤◌, max, List}
use Rattle.base_data.specs.Datum.{PlainDatum, atom, symbol, pair, vector}
use Rattle.base_data.specs.Elements.{Each}
use Rattle.base_data.specs.declared.atom.Atom.{Atom}
use Rattle.base_data.specs.declared.atom.Atom.TheVariants as a
use Rattle.core_language.specs.Core.{PlainCore}
use Rattle.core_language.specs.declared.record.Line.{Line}
use Rattle.law_core_grammar.specs.Lines.{SpellsLine}
use Rattle.law_core_grammar.specs.Spellable.{CanBeRead, constants}
use Rattle.law_core_grammar.specs.Spells.{SpellsCode}
use Rattle.law_core.specs.Records.{line_core}
use Rattle.core_output.specs.CoreText.{VariableNames}
use Rattle.law_nesting.specs.Heights.{in_text, height_with}
use Rattle.law_round.specs.Readable.{IsReadable}

-- the empty list is a list too
abbrev pub nested_atom : Atom → ℕ
nested_atom a.Nil = 1
nested_atom x = 0

-- how many lists and vectors stand in one another
abbrev mutual
  pub nested : PlainDatum → ℕ
  nested (atom s x) = nested_atom x
  nested (symbol s x) = 0
  nested (pair s d e) = 1 + max (nested d) (nested_behind e)
  nested (vector s d) = 1 + nested_behind d

  -- in the rest of a list, which is no list of its own
  pub nested_behind : PlainDatum → ℕ
  nested_behind (atom s x) = 0
  nested_behind (symbol s x) = 0
  nested_behind (pair s d e) = max (nested d) (nested_behind e)
  nested_behind (vector s d) = 1 + nested_behind d

-- What can be read where some number of forms may be nested, can be read where as many may be as are nested in it.
abbrev pub ReadWhereNested : Type 0
ReadWhereNested = (d : PlainDatum) (n : ℕ) → CanBeRead d → nested d ≤ n → IsReadable n d

-- What spells core code nests as deep as the code and its constants do, and no deeper.
abbrev pub SpellingsNest : Type 0
SpellingsNest = (names : VariableNames) (c : PlainCore) (d : PlainDatum) (n : ℕ) → Each (λ e. nested e ≤ n) (constants c)
    → SpellsCode names c d → nested d ≤ height_with in_text c + n

-- and what spells a line, one deeper
abbrev pub LineSpellingsNest : Type 0
LineSpellingsNest = (names : VariableNames) (l : Line) (d : PlainDatum) (n : ℕ) → Each (λ e. nested e ≤ n) (constants (line_core l)) → SpellsLine names l d
    → nested d ≤ height_with in_text (line_core l) + n + 1
