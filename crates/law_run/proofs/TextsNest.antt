-- What spells the lines of a run's text nests no deeper than its lines and their constants do.
use Rattle.std.proofs.Common.{◌≡◌, ℕ, true, zero, suc, ◌+◌, ◌≤◌, List, [], ◌∷◌, ◌++◌, refl, arith}
use Rattle.std.proofs.lemmas.Bool.{and_parts}
use Rattle.std.proofs.lemmas.Bool.Decides.{nat_tests}
use Rattle.std.proofs.lemmas.Str.{IsUtf8-from_ascii}
use Rattle.std.specs.List.{list_all}
use Rattle.std.specs.Prelude.{nat_lt, codes}
use Rattle.std.specs.Str.{IsAscii}
use Rattle.base_data.proofs.ElementLemmas.{each-at, each-of}
use Rattle.base_data.specs.Datum.{PlainDatum}
use Rattle.base_data.specs.Elements.{Each}
use Rattle.core_language.specs.Core.{assignment}
use Rattle.core_language.specs.declared.record.Line.{Line}
use Rattle.law_core_grammar.specs.Laws.{SpellingsCanBeRead}
use Rattle.law_core_grammar.specs.Lines.{SpellsLine, definition, expression, SpellLines, no_line, further}
use Rattle.law_core_grammar.specs.Names.{AreGenerated}
use Rattle.law_core_grammar.specs.Spells as s
use Rattle.law_core_grammar.specs.Spells.{word, form, two}
use Rattle.law_core_grammar.specs.Spellable.{CanBeRead, constants}
use Rattle.law_core.specs.Records.{line_core}
use Rattle.core_output.specs.CoreText.{VariableNames}
use Rattle.law_nesting.proofs.Texts.{read-where-nested, line-spellings-nest}
use Rattle.law_nesting.specs.Heights.{in_text, height_with}
use Rattle.law_nesting.specs.Nesting.{deepest}
use Rattle.law_nesting.specs.Texts.{nested}
use Rattle.run_prelude.specs.Prelude.{prelude_table}
use Rattle.law_round.specs.Readable.{IsName}
use Rattle.law_run.proofs.ClosedLemmas.{all_standing}
use Rattle.law_run.proofs.ReadableRuns.{constants-read}
use Rattle.law_run.proofs.RunLemmas.{all_records_stand}
use Rattle.law_run.proofs.SpelledLines.{text-lines}
use Rattle.law_run.proofs.SpelledRuns.{runs-spelled}
use Rattle.law_run.specs.Spelled.{run_names, CanAllBeRead}
use Rattle.law_run.proofs.Heights.{ConstantsFit, lines-fit, all-low}
use Rattle.law_run.proofs.Records.{runs-shallow}
use Rattle.law_run.proofs.Texts.{IsShallow}
use Rattle.law_run.specs.Nesting.{deepest_line, IsLow, TextsNest}
use Rattle.law_text.proofs.Closed.{text-known}
use Rattle.law_text.specs.Text.{text_of}
use Rattle.stx_tree.specs.Measures.{max_height}

-- What spells a line can be read: a definition as an assignment, but for its keyword.

all_ascii : (bs : List ℕ) → list_all (λ b. nat_lt b 0x80) bs ≡ true → IsAscii bs
all_ascii [] h i = omega arith
all_ascii (b ∷ bs) h zero = let p = (and_parts (nat_lt b 0x80) (list_all (λ b. nat_lt b 0x80) bs) h).0 in grind (arith, nat_tests)
all_ascii (b ∷ bs) h (suc i) = all_ascii bs (and_parts (nat_lt b 0x80) (list_all (λ b. nat_lt b 0x80) bs) h).1 i

define_name : IsName (codes "define")
define_name = (IsUtf8-from_ascii (codes "define") (all_ascii (codes "define") refl), omega arith)

defined : (e : PlainDatum) → CanBeRead (form (codes "set!") e) → CanBeRead (form (codes "define") e)
defined e (zero, h) = absurd (h)
defined e (suc n, h) = (suc n, (define_name, h.1))

line_read : SpellingsCanBeRead → (names : VariableNames) → AreGenerated names → {l : Line} {d : PlainDatum} → SpellsLine names l d → Each CanBeRead (constants (line_core l)) → CanBeRead d
line_read law names good (definition {l = l} {x = x} {c = c} {d = d} h p) k = defined (two (word x) d) (law names (assignment l c) (form (codes "set!") (two (word x) d)) good k (s.assignment h p))
line_read law names good (expression {c = c} {d = d} p) k = law names c d good k p

lines_read : SpellingsCanBeRead → (names : VariableNames) → AreGenerated names → {ls : List Line} {ds : List PlainDatum} → SpellLines names ls ds → CanAllBeRead ls → Each CanBeRead ds
lines_read law names good no_line h = tt
lines_read law names good (further p ps) h = (line_read law names good p h.0, lines_read law names good ps h.1)

-- a line, and its constants
record LineIsLow (l : Line) : Type 0 where
  nests : height_with in_text (line_core l) ≤ deepest
  constants : ConstantsFit l

lines-low : (ls : List Line) → Each (λ l. height_with in_text (line_core l) ≤ deepest) ls → Each ConstantsFit ls → Each LineIsLow ls
lines-low [] h k = tt
lines-low (l ∷ ls) h k = (record { nests = h.0; constants = k.0 }, lines-low ls h.1 k.1)

low-datum : (d : PlainDatum) → CanBeRead d → nested d ≤ deepest_line → IsLow d
low-datum d can le = record { nests = le; read = λ n more. read-where-nested d n can (omega (arith, le, more)) }

spellings-low : (names : VariableNames) {ls : List Line} {ds : List PlainDatum} → SpellLines names ls ds → Each LineIsLow ls → CanAllBeRead ls → Each CanBeRead ds → Each IsLow ds
spellings-low names no_line h k can = tt
spellings-low names (further {l = l} {ls = ls} {d = d} p ps) h k can =
    let le = line-spellings-nest names l d max_height (all-low (constants (line_core l)) k.0 h.0.constants) p in
    let high = h.0.nests in
    (low-datum d can.0 (omega (arith, le, high)), spellings-low names ps h.1 k.1 can.1)

pub texts-nest : SpellingsCanBeRead → TextsNest
texts-nest law files roots path found s records program text ds h spelled =
    let stand = all_records_stand prelude_table files roots path found s records program h.run in
    let standing = all_standing found s records program stand in
    let shallow = runs-shallow files roots path found s records program h.run in
    let readable = constants-read files roots path found s records program h.run in
    let lines = text-lines LineIsLow records program
    (each-of (λ r. Each LineIsLow r.run) (text_of records program) (λ r a. let x = each-at IsShallow (records ++ program ∷ []) r shallow (text-known records program standing r a) in lines-low r.run x.nests (lines-fit r.run x.within.run))) in
    let generated = (runs-spelled prelude_table files roots path found s records program text h).generated in
    spellings-low (run_names records program) spelled lines readable (lines_read law (run_names records program) generated spelled readable)
