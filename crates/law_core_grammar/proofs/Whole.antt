-- The core text of a program is read as what spells its lines.
use Rattle.std.proofs.Common.{◌≡◌, ℕ, ◌+◌, ◌≤◌, List, [], ◌∷◌, ◌++◌, map, arith, refl, sym, ap, ◌∙◌, append_assoc, subst, Option, Some, None, Result, Ok, Err, All}
use Rattle.std.proofs.lemmas.List.Elements.{All-nil, All-cons}
use Rattle.std.specs.Prelude.{codes, slice_get}
use Rattle.base_data.specs.Elements.{Each}
use Rattle.base_data.specs.Gives.{◌>>=◌}
use Rattle.base_data.specs.Datum.{PlainDatum, unspanned, nil}
use Rattle.base_data.specs.declared.fault.Fault.{Fault}
use Rattle.core_language.specs.declared.record.CompiledLibrary.{CompiledLibrary}
use Rattle.core_language.specs.declared.record.Line.{Line}
use Rattle.core_output.specs.CoreText.{VariableNames, line_text, lines_text}
use Rattle.core_output.specs.Syntax.{Checked, written, line_checked, lines_checked}
use Rattle.core_output.specs.Whole.{record_checked, plan_checked, record_text, plan_text, all_names, all_text, core_text}
use Rattle.law_grammar.specs.Reads.{Reads, SpellingsAre}
use Rattle.read_printer.specs.DatumText.{datum_text}
use Rattle.read_printer.specs.Symbols.{symbol_text}
use Rattle.read_reader.specs.Read.{data_of}
use Rattle.law_round.specs.Lines as printed
use Rattle.law_round.specs.Readable.{IsReadable}
use Rattle.law_round.proofs.Lines.{lines_back}
use Rattle.law_round.proofs.Reading.{more}
use Rattle.law_core_grammar.specs.Names.{AreGenerated}
use Rattle.law_core_grammar.specs.Spells.{word, one}
use Rattle.law_core_grammar.specs.Lines.{import_form, SpellsLine, SpellLines, no_line, further, record_lines, all_lines}
use Rattle.law_core_grammar.specs.Spellable.{CanBeRead, IsLineSpellable}
use Rattle.law_core_grammar.specs.ReadBack.{IsReadAs}
use Rattle.law_core_grammar.specs.SameCode.{line_by_names}
use Rattle.law_core_grammar.specs.Laws.{CoreTextIsReadBack, CoreTextTellsItsLines}
use Rattle.law_core_grammar.proofs.Plain.{plain_text, plain_name}
use Rattle.law_core_grammar.proofs.Spellings.{lines_are_spelled}
use Rattle.law_core_grammar.proofs.Codes.{one_line_by_names}
use Rattle.law_core_grammar.proofs.Texts.{line_texts_are}
use Rattle.law_core_grammar.proofs.Readable.{lines_read, lines_bare, pair_reads, one_ends, word_reads, form_reads}

both_written : (r q : Checked) → r ≡ written → q ≡ written → (r >>= λ _. q) ≡ written
both_written r q h k = ap (λ (p : Checked). p >>= λ _. q) h ∙ k

bind_gives : (r : Checked) (q : Result (List ℕ) Fault) (w : List ℕ) → (r >>= λ _. q) ≡ Ok w → (r ≡ written) × (q ≡ Ok w)
bind_gives (Ok u) q w h = (refl, h)
bind_gives (Err f) q w h = absurd (cc)

checked_both : (r q : Checked) → (r >>= λ _. q) ≡ written → (r ≡ written) × (q ≡ written)
checked_both (Ok u) q h = (refl, h)
checked_both (Err f) q h = absurd (cc)

pub ok_same : (v w : List ℕ) → ◌≡◌ {A = Result (List ℕ) Fault} (Ok v) (Ok w) → v ≡ w
ok_same v w e = cc

-- the lines of the planned records, and those of the program
pub lines_append : (names : VariableNames) (ks ls : List Line) → lines_text names (ks ++ ls) ≡ lines_text names ks ++ lines_text names ls
lines_append names [] ls = refl
lines_append names (k ∷ ks) ls = ap (λ w. line_text names k ++ w) (lines_append names ks ls) ∙ sym (append_assoc (line_text names k) (lines_text names ks) (lines_text names ls))

pub record_text_is : (names : VariableNames) (r : Option CompiledLibrary) → record_text names r ≡ lines_text names (record_lines r)
record_text_is names None = refl
record_text_is names (Some r) = refl

pub plan_text_is : (records : List CompiledLibrary) (names : VariableNames) (plan : List ℕ) (program : CompiledLibrary)
    → plan_text records names plan ++ lines_text names program.run ≡ lines_text names (all_lines records plan program)
plan_text_is records names [] program = refl
plan_text_is records names (p ∷ ps) program =
    append_assoc (record_text names (slice_get records p)) (plan_text records names ps) (lines_text names program.run)
    ∙ (λ i. record_text_is names (slice_get records p) i ++ plan_text_is records names ps program i)
    ∙ sym (lines_append names (record_lines (slice_get records p)) (all_lines records ps program))

checked_append : (ks ls : List Line) → lines_checked ks ≡ written → lines_checked ls ≡ written → lines_checked (ks ++ ls) ≡ written
checked_append [] ls h k = k
checked_append (l ∷ ks) ls h k =
    let p = checked_both (line_checked l) (lines_checked ks) h in
    both_written (line_checked l) (lines_checked (ks ++ ls)) p.0 (checked_append ks ls p.1 k)

record_checked_is : (r : Option CompiledLibrary) → record_checked r ≡ written → lines_checked (record_lines r) ≡ written
record_checked_is None h = refl
record_checked_is (Some r) h = h

plan_checked_is : (records : List CompiledLibrary) (plan : List ℕ) (program : CompiledLibrary) → plan_checked records plan ≡ written → lines_checked program.run ≡ written
    → lines_checked (all_lines records plan program) ≡ written
plan_checked_is records [] program h k = k
plan_checked_is records (p ∷ ps) program h k =
    let q = checked_both (record_checked (slice_get records p)) (plan_checked records ps) h in
    checked_append (record_lines (slice_get records p)) (all_lines records ps program) (record_checked_is (slice_get records p) q.0) (plan_checked_is records ps program q.1 k)

-- where there is a text, each line was found to have one
pub whole_checked : (records : List CompiledLibrary) (plan : List ℕ) (program : CompiledLibrary) (whole : List ℕ) → core_text records plan program ≡ Ok whole → lines_checked (all_lines records plan program) ≡ written
whole_checked records plan program whole h =
    let text = all_text (all_names records plan program) records plan program in
    let p = bind_gives (plan_checked records plan) (lines_checked program.run >>= λ _. Ok text) whole h in
    let q = bind_gives (lines_checked program.run) (Ok text) whole p.1 in
    plan_checked_is records plan program p.0 q.0

-- each line is spelled
pub record Spelled (names : VariableNames) (ls : List Line) : Type 0 where
  pub ds : List PlainDatum
  pub spelled : SpellLines names ls ds

pub spell_lines : (names : VariableNames) (ls : List Line) → lines_checked ls ≡ written → Each (IsLineSpellable names) ls → Spelled names ls
spell_lines names [] k h = record { ds = []; spelled = no_line }
spell_lines names (l ∷ ls) k h =
    let c = checked_both (line_checked l) (lines_checked ls) k in
    let p = lines_are_spelled names l c.0 h.0 in
    let q = spell_lines names ls c.1 h.1 in
    record { ds = p.0 ∷ q.ds; spelled = further p.1 q.spelled }

spelled_text : (names : VariableNames) → AreGenerated names → {ls : List Line} {ds : List PlainDatum} → SpellLines names ls ds → lines_text names ls ≡ printed.lines_text ds
spelled_text names good no_line = refl
spelled_text names good (further {l} {ls} {d} {ds} p ps) = λ i. line_texts_are names l d good p i ++ spelled_text names good ps i

import_is : symbol_text (codes "import") ≡ codes "import"
import_is = plain_text (codes "import") refl

rnrs_is : symbol_text (codes "rnrs") ≡ codes "rnrs"
rnrs_is = plain_text (codes "rnrs") refl

-- (IMPORT (RNRS)) for the texts of two words
abbrev import_of : List ℕ → List ℕ → List ℕ
import_of import rnrs = 0x28 ∷ ((import ++ (0x20 ∷ ((0x28 ∷ ((rnrs ++ []) ++ 0x29 ∷ [])) ++ []))) ++ 0x29 ∷ [])

import_text : datum_text import_form ≡ codes "(import (rnrs))"
import_text = λ i. import_of (import_is i) (rnrs_is i)

import_reads : CanBeRead import_form
import_reads =
    let name : CanBeRead (word (codes "rnrs")) = word_reads (codes "rnrs") (plain_name (codes "rnrs") refl) in
    let inner : CanBeRead (one (word (codes "rnrs"))) = pair_reads (word (codes "rnrs")) nil name (0, tt) in
    form_reads (codes "import") (one (one (word (codes "rnrs")))) (plain_name (codes "import") refl) (one_ends (one (word (codes "rnrs"))) inner)

-- where enough forms may be nested
record IsEnough (ds : List PlainDatum) : Type 0 where
  enough : ℕ
  read : (n : ℕ) → enough ≤ n → All (IsReadable n) ds

enough_for : (ds : List PlainDatum) → Each CanBeRead ds → IsEnough ds
enough_for [] h = record { enough = 0; read = λ n l. All-nil (IsReadable n) }
enough_for (d ∷ ds) h =
    let others = enough_for ds h.1 in
    record {
      enough = h.0.0 + others.enough;
      read = λ n l. All-cons (IsReadable n) d ds (more d h.0.0 n (omega (arith, l)) h.0.1) (others.read n (omega (arith, l)));
    }

-- data that are like an import and others
record IsLike (found : List PlainDatum) (d : PlainDatum) (ds : List PlainDatum) : Type 0 where
  first : PlainDatum
  others : List PlainDatum
  same : found ≡ first ∷ others
  head : unspanned first ≡ d
  tail : map unspanned others ≡ ds

data_parts : (d e : PlainDatum) (ds es : List PlainDatum) → d ∷ ds ≡ e ∷ es → (d ≡ e) × (ds ≡ es)
data_parts d e ds es h = (cc, cc)

like : (found : List PlainDatum) (d : PlainDatum) (ds : List PlainDatum) → map unspanned found ≡ d ∷ ds → IsLike found d ds
like [] d ds h = absurd (cc)
like (f ∷ fs) d ds h =
    let p = data_parts (unspanned f) d (map unspanned fs) ds h in
    record { first = f; others = fs; same = refl; head = p.0; tail = p.1 }

read_as : SpellingsAre → (names : VariableNames) (ls : List Line) (ds : List PlainDatum) (file text : List ℕ) (nesting : ℕ) → AreGenerated names → SpellLines names ls ds
    → text ≡ printed.lines_text (import_form ∷ ds) → All (IsReadable nesting) (import_form ∷ ds) → IsReadAs names ls file text nesting
read_as spellings_are names ls ds file text nesting good spelled is all =
    let back = lines_back file nesting (import_form ∷ ds) all in
    let p = like back.found import_form (map unspanned ds) back.same in
    let bare : map unspanned p.others ≡ ds = p.tail ∙ lines_bare names good spelled in
    record {
      first = p.first;
      others = p.others;
      read = ap (λ w. data_of file w nesting) is ∙ back.read ∙ ap Ok p.same;
      reads = subst (λ es. Reads file text nesting es) p.same (subst (λ w. Reads file w nesting back.found) (sym is) ((spellings_are file (printed.lines_text (import_form ∷ ds)) nesting back.found).0 back.spelt));
      import = p.head;
      spelled = subst (λ es. SpellLines names ls es) (sym bare) spelled;
    }

pub core_text_back : SpellingsAre → CoreTextIsReadBack
core_text_back spellings_are records plan program whole h =
    let names : VariableNames = all_names records plan program in
    let ls : List Line = all_lines records plan program in
    let p = bind_gives (plan_checked records plan) (lines_checked program.run >>= λ _. Ok (all_text names records plan program)) whole h.given in
    let q = bind_gives (lines_checked program.run) (Ok (all_text names records plan program)) whole p.1 in
    let lines = spell_lines names ls (whole_checked records plan program whole h.given) h.spellable in
    let text : whole ≡ printed.lines_text (import_form ∷ lines.ds) =
    sym (ok_same (all_text names records plan program) whole q.1)
    ∙ append_assoc (codes "(import (rnrs))\n") (plan_text records names plan) (lines_text names program.run)
    ∙ ap (λ w. codes "(import (rnrs))\n" ++ w) (plan_text_is records names plan program ∙ spelled_text names h.generated lines.spelled)
    ∙ (λ i. (sym import_text i ++ codes "\n") ++ printed.lines_text lines.ds) in
    let most = enough_for (import_form ∷ lines.ds) (import_reads, lines_read names h.generated lines.spelled h.readable) in
    record { enough = most.enough; read = λ file nesting l. read_as spellings_are names ls lines.ds file whole nesting h.generated lines.spelled text (most.read nesting l) }

-- what the same data spell is the same by names
lines_told : (names others : VariableNames) → AreGenerated names → AreGenerated others → {ks ls : List Line} {ds es : List PlainDatum} → SpellLines names ks ds → SpellLines others ls es → ds ≡ es
    → map (line_by_names names) ks ≡ map (line_by_names others) ls
lines_told names others good fine no_line no_line e = refl
lines_told names others good fine no_line (further q qs) e = absurd (cc)
lines_told names others good fine (further p ps) no_line e = absurd (cc)
lines_told names others good fine (further {l = k} {ls = ks} {d} {ds} p ps) (further {l} {ls} {d = c} {ds = cs} q qs) e =
    let same = data_parts d c ds cs e in
    let first = one_line_by_names names others k l c good fine (subst (λ x. SpellsLine names k x) same.0 p) q in
    let behind = lines_told names others good fine ps qs same.1 in
    λ i. first i ∷ behind i

data_same : (d e : PlainDatum) (ds es : List PlainDatum) → ◌≡◌ {A = Result (List PlainDatum) Fault} (Ok (d ∷ ds)) (Ok (e ∷ es)) → ds ≡ es
data_same d e ds es h = cc

pub lines_by_text : SpellingsAre → CoreTextTellsItsLines
lines_by_text spellings_are records others plan way program other whole h k =
    let a = core_text_back spellings_are records plan program whole h in
    let b = core_text_back spellings_are others way other whole k in
    let n : ℕ = a.enough + b.enough in
    let r = a.read [] n (omega arith) in
    let s = b.read [] n (omega arith) in
    let same : r.others ≡ s.others = data_same r.first s.first r.others s.others (sym r.read ∙ s.read) in
    lines_told (all_names records plan program) (all_names others way other) h.generated k.generated r.spelled s.spelled (ap (λ ds. map unspanned ds) same)
