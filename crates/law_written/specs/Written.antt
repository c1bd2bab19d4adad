-- The names that a text writes for references and for the targets of assignments, in the order of their places.
use Rattle.std.specs.Prelude.{◌≡◌, ℕ, List, [], ◌∷◌, ◌++◌, map}
use Rattle.base_data.specs.Datum.{PlainDatum}
use Rattle.base_data.specs.Elements.{Each}
use Rattle.base_data.specs.declared.library.LibName.{LibName}
use Rattle.stx_tree.specs.Tree.{Tree}
use Rattle.core_language.specs.Core.{PlainCore, PlainCores, PlainInits, PlainCases}
use Rattle.core_language.specs.References.{mentions}
use Rattle.core_language.specs.declared.record.CompiledLibrary.{CompiledLibrary}
use Rattle.core_language.specs.declared.record.Line.{Line}
use Rattle.law_core_grammar.specs.Lines as lines
use Rattle.law_core_grammar.specs.Lines.{SpellsLine}
use Rattle.law_core_grammar.specs.Names.{IsGenerated, AreGenerated}
use Rattle.law_core_grammar.specs.Spells as s
use Rattle.law_core_grammar.specs.Spells.{SpellsCode, SpellsAllCode, SpellsInits, SpellsCases}
use Rattle.base_data.specs.Elements as elements
use Rattle.core_output.specs.CoreText.{VariableNames, name_of}
use Rattle.expand_forms.specs.declared.top.TopAt.{TopAt}
use Rattle.law_references.specs.Noted.{mentioned}
use Rattle.law_references.specs.Records.{RunIsRight}
use Rattle.law_references.specs.Whole.{IsRightReference}
use Rattle.expand_standing.specs.State.{State}

module _ {names : VariableNames} where
  abbrev mutual
    pub written : {c : PlainCore} {d : PlainDatum} → SpellsCode names c d → List (List ℕ)
    written (s.constant d h) = []
    written (s.quotation d h) = []
    written (s.reference {l} {x} h) = x ∷ []
    written (s.primitive o h) = []
    written (s.one_armed p q) = written p ++ written q
    written (s.two_armed p q r) = written p ++ (written q ++ written r)
    written (s.assignment {l} {x} h p) = x ∷ written p
    written (s.sequence p ps) = written p ++ all_written ps
    written (s.lambda n fs p) = written p ++ []
    written (s.case_lambda n ps) = cases_written ps
    written (s.letrec ordered ps p) = inits_written ps ++ written p
    written (s.application p ps) = written p ++ all_written ps

    pub all_written : {cs : PlainCores} {e : PlainDatum} → SpellsAllCode names cs e → List (List ℕ)
    all_written s.no_more = []
    all_written (s.more p ps) = written p ++ all_written ps

    pub inits_written : {is : PlainInits} {e : PlainDatum} → SpellsInits names is e → List (List ℕ)
    inits_written s.no_init = []
    inits_written (s.init h p ps) = written p ++ inits_written ps

    pub cases_written : {cs : PlainCases} {e : PlainDatum} → SpellsCases names cs e → List (List ℕ)
    cases_written s.no_case = []
    cases_written (s.case fs p ps) = written p ++ cases_written ps

  abbrev pub line_written : {l : Line} {d : PlainDatum} → SpellsLine names l d → List (List ℕ)
  line_written (lines.definition h p) = written p
  line_written (lines.expression p) = written p

-- They are the names of the labels that the code mentions, and generated ones.
abbrev pub MentionsAreWritten : Type 0
MentionsAreWritten = (names : VariableNames) (c : PlainCore) (d : PlainDatum) (p : SpellsCode names c d) → written p ≡ map (name_of names) (mentions c)

abbrev pub WrittenAreGenerated : Type 0
WrittenAreGenerated = (names : VariableNames) (c : PlainCore) (d : PlainDatum) (p : SpellsCode names c d) → AreGenerated names
    → elements.Each IsGenerated (written p)

-- In each line of a record that is hygienic, whatever names it is written with, they are the names of the labels that the identifiers stood for which became
-- these references, one for each and in their order.
abbrev pub ReferencesAreWritten : Type 0
ReferencesAreWritten = (names : VariableNames) (libs : List LibName) (own : LibName) (records : List CompiledLibrary) (start : State)
    (at : TopAt) (exports : List (List ℕ × Tree)) (forms : List Tree) (r : CompiledLibrary)
    → (h : RunIsRight libs own records start at exports forms r)
    → Each (λ x. ((d : PlainDatum) (p : SpellsLine names x.line d) → line_written p ≡ map (name_of names) (mentioned x.noted.references))
    × Each (IsRightReference libs own h.last) x.noted.references) h.told
