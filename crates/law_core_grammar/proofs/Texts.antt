-- The text of core code is that of the datum that spells it.
use Rattle.std.proofs.Common.{◌≡◌, ℕ, true, false, List, [], ◌∷◌, ◌++◌, refl, sym, ap, ◌∙◌, append_assoc, Option}
use Rattle.std.proofs.lemmas.List.{append-nil}
use Rattle.std.specs.Prelude.{codes}
use Rattle.base_data.specs.Datum as datum
use Rattle.base_data.specs.Datum.{PlainDatum, nil, unspanned}
use Rattle.base_data.specs.Op.{op_text, name_count}
use Rattle.base_data.specs.declared.atom.Atom.TheVariants as a
use Rattle.base_data.specs.declared.name.Label.{Label}
use Rattle.core_language.specs.Core.{PlainCore, PlainCores, PlainInits, PlainCases}
use Rattle.core_language.specs.declared.record.Line.{Line}
use Rattle.core_output.specs.CoreText.{VariableNames, name_of, report_name, quote_text, quoted_text, further_names, rest_name, formals_of, text, further_text, inits_text, further_inits, cases_text, line_text}
use Rattle.read_printer.specs.DatumText.{datum_text, rest_text, elements_text, dotted_text}
use Rattle.read_printer.specs.Symbols.{symbol_text}
use Rattle.std.proofs.lemmas.Bool.Decides.{nat_tests}
use Rattle.std.proofs.Common.{arith, ◌<◌}
use Rattle.std.specs.Prelude.{nat_lt}
use Rattle.law_core_grammar.specs.Names.{IsCalled, AreGenerated}
use Rattle.law_core_grammar.specs.Spells.{word, before, form, one, two, three, is_itself, SpellsFormals, no_rest, rest, required}
use Rattle.law_core_grammar.specs.Spells as s
use Rattle.law_core_grammar.specs.Spells.{SpellsCode, SpellsAllCode, SpellsInits, SpellsCases}
use Rattle.law_core_grammar.specs.Lines.{SpellsLine, definition, expression}
use Rattle.law_core_grammar.specs.Laws.{TextsAreSpellings, LineTextsAreSpellings}
use Rattle.law_core_grammar.proofs.Plain.{plain_text}
use Rattle.law_core_grammar.proofs.Called.{called_text, primitive_free}

-- spans don't show
mutual
  unspanned_text : (d : PlainDatum) → datum_text (unspanned d) ≡ datum_text d
  unspanned_text (datum.atom s x) = refl
  unspanned_text (datum.symbol s x) = refl
  unspanned_text (datum.pair s d e) = λ i. codes "(" ++ (unspanned_text d i ++ unspanned_rest e i) ++ codes ")"
  unspanned_text (datum.vector s d) = λ i. codes "#(" ++ unspanned_elements d i ++ codes ")"

  unspanned_elements : (d : PlainDatum) → elements_text (unspanned d) ≡ elements_text d
  unspanned_elements (datum.atom s x) = refl
  unspanned_elements (datum.symbol s x) = refl
  unspanned_elements (datum.pair s d e) = λ i. unspanned_text d i ++ unspanned_rest e i
  unspanned_elements (datum.vector s d) = refl

  unspanned_rest : (d : PlainDatum) → rest_text (unspanned d) ≡ rest_text d
  unspanned_rest (datum.atom s x) = refl
  unspanned_rest (datum.symbol s x) = refl
  unspanned_rest (datum.pair s d e) = λ i. codes " " ++ unspanned_text d i ++ unspanned_rest e i
  unspanned_rest (datum.vector s d) = λ i. dotted_text (codes "#(" ++ unspanned_elements d i ++ codes ")")

itself_text : (d : PlainDatum) → is_itself d ≡ true → quoted_text d ≡ datum_text d
itself_text (datum.atom s a.Nil) h = absurd (cc)
itself_text (datum.atom s (a.Bool b)) h = refl
itself_text (datum.atom s (a.Int z)) h = refl
itself_text (datum.atom s (a.Spelt x)) h = refl
itself_text (datum.atom s (a.Char c)) h = refl
itself_text (datum.atom s (a.Str x)) h = refl
itself_text (datum.atom s (a.Bytes ns)) h = refl
itself_text (datum.symbol s x) h = absurd (cc)
itself_text (datum.pair s d e) h = absurd (cc)
itself_text (datum.vector s d) h = absurd (cc)

other_text : (d : PlainDatum) → is_itself d ≡ false → quoted_text d ≡ quote_text (datum_text d)
other_text (datum.atom s a.Nil) h = refl
other_text (datum.atom s (a.Bool b)) h = absurd (cc)
other_text (datum.atom s (a.Int z)) h = absurd (cc)
other_text (datum.atom s (a.Spelt x)) h = absurd (cc)
other_text (datum.atom s (a.Char c)) h = absurd (cc)
other_text (datum.atom s (a.Str x)) h = absurd (cc)
other_text (datum.atom s (a.Bytes ns)) h = absurd (cc)
other_text (datum.symbol s x) h = refl
other_text (datum.pair s d e) h = refl
other_text (datum.vector s d) h = refl

-- a form of a keyword
form_text : (w : List ℕ) (e : PlainDatum) → symbol_text w ≡ w → datum_text (form w e) ≡ 0x28 ∷ ((w ++ rest_text e) ++ 0x29 ∷ [])
form_text w e h = λ i. 0x28 ∷ ((h i ++ rest_text e) ++ 0x29 ∷ [])

quote_is : symbol_text (codes "quote") ≡ codes "quote"
quote_is = plain_text (codes "quote") refl

if_is : symbol_text (codes "if") ≡ codes "if"
if_is = plain_text (codes "if") refl

set_is : symbol_text (codes "set!") ≡ codes "set!"
set_is = plain_text (codes "set!") refl

begin_is : symbol_text (codes "begin") ≡ codes "begin"
begin_is = plain_text (codes "begin") refl

lambda_is : symbol_text (codes "lambda") ≡ codes "lambda"
lambda_is = plain_text (codes "lambda") refl

case_lambda_is : symbol_text (codes "case-lambda") ≡ codes "case-lambda"
case_lambda_is = plain_text (codes "case-lambda") refl

letrec_is : symbol_text (codes "letrec") ≡ codes "letrec"
letrec_is = plain_text (codes "letrec") refl

letrec_star_is : symbol_text (codes "letrec*") ≡ codes "letrec*"
letrec_star_is = plain_text (codes "letrec*") refl

define_is : symbol_text (codes "define") ≡ codes "define"
define_is = plain_text (codes "define") refl

-- one, two and three parts behind a keyword, and the close
one_part : (d : List ℕ) → d ++ 0x29 ∷ [] ≡ (d ++ []) ++ 0x29 ∷ []
one_part d = simp append-nil

two_parts : (d e : List ℕ) → ((d ++ 0x20 ∷ []) ++ e) ++ 0x29 ∷ [] ≡ (d ++ (0x20 ∷ (e ++ []))) ++ 0x29 ∷ []
two_parts d e = simp (append_assoc, append-nil)

three_parts : (d e f : List ℕ) → ((((d ++ 0x20 ∷ []) ++ e) ++ 0x20 ∷ []) ++ f) ++ 0x29 ∷ [] ≡ (d ++ (0x20 ∷ (e ++ (0x20 ∷ (f ++ []))))) ++ 0x29 ∷ []
three_parts d e f = simp (append_assoc, append-nil)

lambda_parts : (d e : List ℕ) → ((((d ++ 0x20 ∷ []) ++ e) ++ []) ++ []) ++ 0x29 ∷ [] ≡ (d ++ (0x20 ∷ (e ++ []))) ++ 0x29 ∷ []
lambda_parts d e = simp (append_assoc, append-nil)

case_parts : (d e g : List ℕ) → (((d ++ 0x20 ∷ []) ++ e) ++ 0x29 ∷ []) ++ g ≡ ((d ++ (0x20 ∷ (e ++ []))) ++ 0x29 ∷ []) ++ g
case_parts d e g = ap (λ w. w ++ g) (two_parts d e)

letrec_parts : (d e : List ℕ) → ((d ++ 0x29 ∷ 0x20 ∷ []) ++ e) ++ 0x29 ∷ [] ≡ ((d ++ 0x29 ∷ []) ++ (0x20 ∷ (e ++ []))) ++ 0x29 ∷ []
letrec_parts d e = simp (append_assoc, append-nil)

define_parts : (d e : List ℕ) → ((d ++ 0x20 ∷ []) ++ e) ++ 0x29 ∷ 0x0A ∷ [] ≡ ((d ++ (0x20 ∷ (e ++ []))) ++ 0x29 ∷ []) ++ 0x0A ∷ []
define_parts d e = simp (append_assoc, append-nil)

named_below : (o : ℕ) → o < name_count → nat_lt o name_count ≡ true
named_below o h = grind (arith, nat_tests)

report_is : (o : ℕ) → o < name_count → report_name o ≡ op_text o
report_is o h = rw (named_below o h) refl

module _ (names : VariableNames) (good : AreGenerated names) where
  called : (l : Label) (x : List ℕ) → IsCalled names l x → name_of names l ≡ symbol_text x
  called l x h = called_text names good l x h

  formals_rest : {ls : List Label} {r : Option Label} {e : PlainDatum} → SpellsFormals names ls r e → further_names names ls ++ rest_name names r ≡ rest_text e
  formals_rest no_rest = refl
  formals_rest (rest {l} {x} h) = ap dotted_text (called l x h)
  formals_rest (required {l} {x} {ls} {r} {e} h others) =
      ap (λ w. 0x20 ∷ w) (append_assoc (name_of names l) (further_names names ls) (rest_name names r) ∙ (λ i. called l x h i ++ formals_rest others i))

  formals_text_is : {ls : List Label} {r : Option Label} {e : PlainDatum} → SpellsFormals names ls r e → formals_of names ls r ≡ datum_text e
  formals_text_is no_rest = refl
  formals_text_is (rest {l} {x} h) = called l x h
  formals_text_is (required {l} {x} {ls} {r} {e} h others) =
      ap (λ w. 0x28 ∷ (w ++ 0x29 ∷ [])) (append_assoc (name_of names l) (further_names names ls) (rest_name names r) ∙ (λ i. called l x h i ++ formals_rest others i))

  mutual
    spelled_text : {c : PlainCore} {d : PlainDatum} → SpellsCode names c d → text names c ≡ datum_text d
    spelled_text (s.constant d h) = itself_text d h ∙ sym (unspanned_text d)
    spelled_text (s.quotation d h) =
        other_text d h ∙ (λ i. quote_text (sym (unspanned_text d) i)) ∙ ap (λ w. codes "(quote " ++ w) (one_part (datum_text (unspanned d)))
        ∙ sym (form_text (codes "quote") (one (unspanned d)) quote_is)
    spelled_text (s.reference {l} {x} h) = called l x h
    spelled_text (s.primitive o h) = report_is o.0 h.0 ∙ sym (plain_text (op_text o.0) ((primitive_free o.0 h).plain))
    spelled_text (s.one_armed {t} {c} {d} {e} p q) =
        (λ i. codes "(if " ++ spelled_text p i ++ codes " " ++ spelled_text q i ++ codes ")") ∙ ap (λ w. codes "(if " ++ w) (two_parts (datum_text d) (datum_text e))
        ∙ sym (form_text (codes "if") (two d e) if_is)
    spelled_text (s.two_armed {t} {c} {d} {e} {f} p q r) =
        (λ i. codes "(if " ++ spelled_text p i ++ codes " " ++ spelled_text q i ++ codes " " ++ spelled_text r i ++ codes ")")
        ∙ ap (λ w. codes "(if " ++ w) (three_parts (datum_text d) (datum_text e) (datum_text f))
        ∙ sym (form_text (codes "if") (three d e f) if_is)
    spelled_text (s.assignment {l} {x} {c} {d} h p) =
        (λ i. codes "(set! " ++ called l x h i ++ codes " " ++ spelled_text p i ++ codes ")") ∙ ap (λ w. codes "(set! " ++ w) (two_parts (symbol_text x) (datum_text d))
        ∙ sym (form_text (codes "set!") (two (word x) d) set_is)
    spelled_text (s.sequence {c} {cs} {d} {e} p ps) =
        (λ i. codes "(begin " ++ (spelled_text p i ++ all_text ps i) ++ codes ")") ∙ sym (form_text (codes "begin") (before d e) begin_is)
    spelled_text (s.lambda {f} {c} {d} {e} n fs p) =
        (λ i. codes "(lambda " ++ ((((formals_text_is fs i ++ codes " ") ++ spelled_text p i) ++ []) ++ []) ++ codes ")")
        ∙ ap (λ w. codes "(lambda " ++ w) (lambda_parts (datum_text d) (datum_text e)) ∙ sym (form_text (codes "lambda") (two d e) lambda_is)
    spelled_text (s.case_lambda {cs} {e} n ps) =
        (λ i. codes "(case-lambda" ++ cases_rest ps i ++ codes ")") ∙ sym (form_text (codes "case-lambda") e case_lambda_is)
    spelled_text (s.letrec {is} {c} {d} {e} true ps p) =
        (λ i. codes "(letrec* (" ++ inits_text names is ++ codes ") " ++ spelled_text p i ++ codes ")")
        ∙ ap (λ w. codes "(letrec* (" ++ w) (letrec_parts (inits_text names is) (datum_text e))
        ∙ (λ i. codes "(letrec* " ++ ((sym (inits_datum ps) i ++ (0x20 ∷ (datum_text e ++ []))) ++ 0x29 ∷ []))
        ∙ sym (form_text (codes "letrec*") (two d e) letrec_star_is)
    spelled_text (s.letrec {is} {c} {d} {e} false ps p) =
        (λ i. codes "(letrec (" ++ inits_text names is ++ codes ") " ++ spelled_text p i ++ codes ")")
        ∙ ap (λ w. codes "(letrec (" ++ w) (letrec_parts (inits_text names is) (datum_text e))
        ∙ (λ i. codes "(letrec " ++ ((sym (inits_datum ps) i ++ (0x20 ∷ (datum_text e ++ []))) ++ 0x29 ∷ []))
        ∙ sym (form_text (codes "letrec") (two d e) letrec_is)
    spelled_text (s.application p ps) = λ i. codes "(" ++ (spelled_text p i ++ all_text ps i) ++ codes ")"

    all_text : {cs : PlainCores} {e : PlainDatum} → SpellsAllCode names cs e → further_text names cs ≡ rest_text e
    all_text s.no_more = refl
    all_text (s.more p ps) = λ i. codes " " ++ spelled_text p i ++ all_text ps i

    cases_rest : {cs : PlainCases} {e : PlainDatum} → SpellsCases names cs e → cases_text names false cs ≡ rest_text e
    cases_rest s.no_case = refl
    cases_rest (s.case {f} {c} {cs} {d} {e} {g} fs p ps) =
        (λ i. codes " (" ++ formals_text_is fs i ++ codes " " ++ spelled_text p i ++ codes ")" ++ cases_rest ps i)
        ∙ ap (λ w. codes " (" ++ w) (case_parts (datum_text d) (datum_text e) (rest_text g))

    inits_rest : {is : PlainInits} {e : PlainDatum} → SpellsInits names is e → further_inits names is ≡ rest_text e
    inits_rest s.no_init = refl
    inits_rest (s.init {l} {x} {c} {is} {d} {e} h p ps) =
        (λ i. codes " (" ++ called l x h i ++ codes " " ++ spelled_text p i ++ codes ")" ++ inits_rest ps i)
        ∙ ap (λ w. codes " (" ++ w) (case_parts (symbol_text x) (datum_text d) (rest_text e))

    inits_datum : {is : PlainInits} {e : PlainDatum} → SpellsInits names is e → datum_text e ≡ 0x28 ∷ (inits_text names is ++ 0x29 ∷ [])
    inits_datum s.no_init = refl
    inits_datum (s.init {l} {x} {c} {is} {d} {e} h p ps) =
        ap (λ w. 0x28 ∷ (w ++ 0x29 ∷ []))
        (sym ((λ i. codes "(" ++ called l x h i ++ codes " " ++ spelled_text p i ++ codes ")" ++ inits_rest ps i)
        ∙ ap (λ w. codes "(" ++ w) (case_parts (symbol_text x) (datum_text d) (rest_text e))))

  spelled_line : {l : Line} {d : PlainDatum} → SpellsLine names l d → line_text names l ≡ datum_text d ++ codes "\n"
  spelled_line (expression p) = λ i. spelled_text p i ++ codes "\n"
  spelled_line (definition {l} {x} {c} {d} h p) =
      (λ i. codes "(define " ++ called l x h i ++ codes " " ++ spelled_text p i ++ codes ")\n")
      ∙ ap (λ w. codes "(define " ++ w) (define_parts (symbol_text x) (datum_text d))
      ∙ (λ i. sym (form_text (codes "define") (two (word x) d) define_is) i ++ codes "\n")

pub texts_are : TextsAreSpellings
texts_are names c d good p = spelled_text names good p

pub line_texts_are : LineTextsAreSpellings
line_texts_are names l d good p = spelled_line names good p
