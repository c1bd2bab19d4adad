-- What holds of the spelling of core code.
use Rattle.std.specs.Prelude.{◌≡◌, ℕ, List, ◌++◌, map, Ok, codes}
use Rattle.base_data.specs.Datum.{PlainDatum}
use Rattle.base_data.specs.Elements.{Each}
use Rattle.core_language.specs.Core.{PlainCore}
use Rattle.core_language.specs.declared.record.CompiledLibrary.{CompiledLibrary}
use Rattle.core_language.specs.declared.record.Line.{Line}
use Rattle.law_core.specs.Records.{line_core}
use Rattle.core_output.specs.CoreText.{VariableNames, text, line_text}
use Rattle.core_output.specs.Syntax.{checked, line_checked, written}
use Rattle.core_output.specs.Whole.{all_names, core_text}
use Rattle.read_printer.specs.DatumText.{datum_text}
use Rattle.law_core_grammar.specs.Names.{AreGenerated, TellApart}
use Rattle.law_core_grammar.specs.Spells.{SpellsCode}
use Rattle.law_core_grammar.specs.Lines.{SpellsLine, all_lines}
use Rattle.law_core_grammar.specs.SameCode.{by_names, line_by_names, bare, bare_line}
use Rattle.law_core_grammar.specs.Spellable.{IsSpellable, IsLineSpellable, CanBeRead, constants}
use Rattle.law_core_grammar.specs.ReadBack.{IsTextReadBack}

-- the text of core code is that of the datum which spells it
abbrev pub TextsAreSpellings : Type 0
TextsAreSpellings = (names : VariableNames) (c : PlainCore) (d : PlainDatum) → AreGenerated names → SpellsCode names c d → text names c ≡ datum_text d

-- and that of a line, with the end of the line
abbrev pub LineTextsAreSpellings : Type 0
LineTextsAreSpellings = (names : VariableNames) (l : Line) (d : PlainDatum) → AreGenerated names → SpellsLine names l d
    → line_text names l ≡ datum_text d ++ codes "\n"

-- core code without forms of `syntax` and `syntax-case` has a spelling
abbrev pub CodeIsSpelled : Type 0
CodeIsSpelled = (names : VariableNames) (c : PlainCore) → checked c ≡ written → IsSpellable names c → (d : PlainDatum) × SpellsCode names c d

abbrev pub LinesAreSpelled : Type 0
LinesAreSpelled = (names : VariableNames) (l : Line) → line_checked l ≡ written → IsLineSpellable names l → (d : PlainDatum) × SpellsLine names l d

-- and one alone
abbrev pub OneSpelling : Type 0
OneSpelling = (names : VariableNames) (c : PlainCore) (d e : PlainDatum) → SpellsCode names c d → SpellsCode names c e → d ≡ e

-- what one datum spells is one code but for its variables, and these have the same names
abbrev pub OneCodeByNames : Type 0
OneCodeByNames = (names others : VariableNames) (c e : PlainCore) (d : PlainDatum) → AreGenerated names → AreGenerated others
    → SpellsCode names c d → SpellsCode others e d → by_names names c ≡ by_names others e

abbrev pub OneLineByNames : Type 0
OneLineByNames = (names others : VariableNames) (k l : Line) (d : PlainDatum) → AreGenerated names → AreGenerated others
    → SpellsLine names k d → SpellsLine others l d → line_by_names names k ≡ line_by_names others l

-- where names tell variables apart, it is one code
abbrev pub OneCode : Type 0
OneCode = (names : VariableNames) (c e : PlainCore) (d : PlainDatum) → AreGenerated names → TellApart names → SpellsCode names c d
    → SpellsCode names e d → bare c ≡ bare e

abbrev pub OneLine : Type 0
OneLine = (names : VariableNames) (k l : Line) (d : PlainDatum) → AreGenerated names → TellApart names → SpellsLine names k d
    → SpellsLine names l d → bare_line k ≡ bare_line l

-- a spelling can be read where the constants of its code can be
abbrev pub SpellingsCanBeRead : Type 0
SpellingsCanBeRead = (names : VariableNames) (c : PlainCore) (d : PlainDatum) → AreGenerated names → Each CanBeRead (constants c)
    → SpellsCode names c d → CanBeRead d

-- the core text of a program, of lines that have spellings which can be read
pub record IsWrittenCoreText (records : List CompiledLibrary) (plan : List ℕ) (program : CompiledLibrary) (whole : List ℕ) : Type 0 where
  pub given : core_text records plan program ≡ Ok whole
  pub generated : AreGenerated (all_names records plan program)
  pub spellable : Each (IsLineSpellable (all_names records plan program)) (all_lines records plan program)
  pub readable : Each (λ l. Each CanBeRead (constants (line_core l))) (all_lines records plan program)

-- is read as what spells these lines
abbrev pub CoreTextIsReadBack : Type 0
CoreTextIsReadBack = (records : List CompiledLibrary) (plan : List ℕ) (program : CompiledLibrary) (whole : List ℕ)
    → IsWrittenCoreText records plan program whole
    → IsTextReadBack (all_names records plan program) (all_lines records plan program) whole

-- and tells them, but for their variables, of which it tells the names
abbrev pub CoreTextTellsItsLines : Type 0
CoreTextTellsItsLines = (records others : List CompiledLibrary) (plan way : List ℕ) (program other : CompiledLibrary) (whole : List ℕ)
    → IsWrittenCoreText records plan program whole → IsWrittenCoreText others way other whole
    → map (line_by_names (all_names records plan program)) (all_lines records plan program)
    ≡ map (line_by_names (all_names others way other)) (all_lines others way other)
