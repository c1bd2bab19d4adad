-- A spelling can be read where the constants of its code can be, and it has no spans.
use Rattle.std.proofs.Common.{◌≡◌, ℕ, zero, suc, ◌+◌, Bool, true, false, List, [], ◌∷◌, ◌++◌, map, arith, refl, Option, None}
use Rattle.std.specs.Prelude.{codes}
use Rattle.base_data.proofs.ElementLemmas.{each-first, each-last, each-flat}
use Rattle.base_data.specs.Datum as datum
use Rattle.base_data.specs.Datum.{PlainDatum, nil, unspanned}
use Rattle.base_data.specs.Elements.{Each}
use Rattle.base_data.specs.Op.{op_text}
use Rattle.base_data.specs.declared.atom.Atom.TheVariants as a
use Rattle.base_data.specs.declared.name.Label.{Label}
use Rattle.core_language.specs.Core.{PlainCore, PlainCores, PlainInits, PlainCases}
use Rattle.core_language.specs.declared.record.Line.{Line}
use Rattle.law_core.specs.Parts.{parts, all_parts, init_parts, case_parts}
use Rattle.law_core.specs.Records.{line_core}
use Rattle.core_output.specs.CoreText.{VariableNames}
use Rattle.law_round.specs.Readable.{IsReadable, IsRest, AreElements, IsName}
use Rattle.law_round.proofs.Reading.{more, rest_more}
use Rattle.law_core_grammar.specs.Names.{IsCalled, AreGenerated}
use Rattle.law_core_grammar.specs.Spells.{word, before, form, one, two, three, letrec_keyword, SpellsFormals, no_rest, rest, required}
use Rattle.law_core_grammar.specs.Spells as s
use Rattle.law_core_grammar.specs.Spells.{SpellsCode, SpellsAllCode, SpellsInits, SpellsCases}
use Rattle.law_core_grammar.specs.Lines.{SpellsLine, definition, expression, SpellLines, no_line, further}
use Rattle.law_core_grammar.specs.Spellable.{CanBeRead, own_constant, constants}
use Rattle.law_core_grammar.specs.Laws.{SpellingsCanBeRead}
use Rattle.law_core_grammar.proofs.Plain.{plain_name}
use Rattle.law_core_grammar.proofs.Called.{generated_plain, called_percented, primitive_free}

-- spans don't matter
mutual
  bare_reads : (n : ℕ) (d : PlainDatum) → IsReadable n d → IsReadable n (unspanned d)
  bare_reads n (datum.atom s c) h = h
  bare_reads n (datum.symbol s x) h = h
  bare_reads zero (datum.pair s d e) h = elim h [ ]
  bare_reads (suc m) (datum.pair s d e) h = (bare_reads m d h.0, bare_rests m e h.1)
  bare_reads zero (datum.vector s d) h = elim h [ ]
  bare_reads (suc m) (datum.vector s d) h = bare_elements m d h

  bare_rests : (n : ℕ) (d : PlainDatum) → IsRest n d → IsRest n (unspanned d)
  bare_rests n (datum.atom s c) h = h
  bare_rests n (datum.symbol s x) h = h
  bare_rests n (datum.pair s d e) h = (bare_reads n d h.0, bare_rests n e h.1)
  bare_rests zero (datum.vector s d) h = elim h [ ]
  bare_rests (suc m) (datum.vector s d) h = bare_elements m d h

  bare_elements : (n : ℕ) (d : PlainDatum) → AreElements n d → AreElements n (unspanned d)
  bare_elements n (datum.atom s a.Nil) h = h
  bare_elements n (datum.atom s (a.Bool b)) h = h
  bare_elements n (datum.atom s (a.Int z)) h = h
  bare_elements n (datum.atom s (a.Spelt x)) h = h
  bare_elements n (datum.atom s (a.Char c)) h = h
  bare_elements n (datum.atom s (a.Str x)) h = h
  bare_elements n (datum.atom s (a.Bytes ns)) h = h
  bare_elements n (datum.symbol s x) h = h
  bare_elements n (datum.pair s d e) h = (bare_reads n d h.0, bare_elements n e h.1)
  bare_elements n (datum.vector s d) h = h

unspanned_twice : (d : PlainDatum) → unspanned (unspanned d) ≡ unspanned d
unspanned_twice (datum.atom s c) = refl
unspanned_twice (datum.symbol s x) = refl
unspanned_twice (datum.pair s d e) = λ i. datum.pair None (unspanned_twice d i) (unspanned_twice e i)
unspanned_twice (datum.vector s d) = λ i. datum.vector None (unspanned_twice d i)

-- in the place of a rest
abbrev pub CanEnd : PlainDatum → Type 0
CanEnd d = (n : ℕ) × IsRest n d

nil_reads : CanBeRead nil
nil_reads = (1, tt)

nil_ends : CanEnd nil
nil_ends = (0, tt)

pub pair_reads : (d e : PlainDatum) → CanBeRead d → CanEnd e → CanBeRead (before d e)
pair_reads d e p q = (suc (p.0 + q.0), (more d p.0 (p.0 + q.0) (omega arith) p.1, rest_more e q.0 (p.0 + q.0) (omega arith) q.1))

pair_ends : (d e : PlainDatum) → CanBeRead d → CanEnd e → CanEnd (before d e)
pair_ends d e p q = (p.0 + q.0, (more d p.0 (p.0 + q.0) (omega arith) p.1, rest_more e q.0 (p.0 + q.0) (omega arith) q.1))

pub one_ends : (d : PlainDatum) → CanBeRead d → CanEnd (one d)
one_ends d p = pair_ends d nil p nil_ends

two_end : (d e : PlainDatum) → CanBeRead d → CanBeRead e → CanEnd (two d e)
two_end d e p q = pair_ends d (one e) p (one_ends e q)

two_read : (d e : PlainDatum) → CanBeRead d → CanBeRead e → CanBeRead (two d e)
two_read d e p q = pair_reads d (one e) p (one_ends e q)

three_end : (d e f : PlainDatum) → CanBeRead d → CanBeRead e → CanBeRead f → CanEnd (three d e f)
three_end d e f p q r = pair_ends d (two e f) p (two_end e f q r)

pub word_reads : (x : List ℕ) → IsName x → CanBeRead (word x)
word_reads x h = (0, h)

pub form_reads : (w : List ℕ) (e : PlainDatum) → IsName w → CanEnd e → CanBeRead (form w e)
form_reads w e h q = pair_reads (word w) e (word_reads w h) q

quote_name : IsName (codes "quote")
quote_name = plain_name (codes "quote") refl

if_name : IsName (codes "if")
if_name = plain_name (codes "if") refl

set_name : IsName (codes "set!")
set_name = plain_name (codes "set!") refl

begin_name : IsName (codes "begin")
begin_name = plain_name (codes "begin") refl

lambda_name : IsName (codes "lambda")
lambda_name = plain_name (codes "lambda") refl

case_lambda_name : IsName (codes "case-lambda")
case_lambda_name = plain_name (codes "case-lambda") refl

letrec_name : (ordered : Bool) → IsName (letrec_keyword ordered)
letrec_name true = plain_name (codes "letrec*") refl
letrec_name false = plain_name (codes "letrec") refl

define_name : IsName (codes "define")
define_name = plain_name (codes "define") refl

-- each constant in these parts can be read
abbrev Fine : List PlainCore → Type 0
Fine ps = Each (λ p. Each CanBeRead (own_constant p)) ps

abbrev IsFine : PlainCore → Type 0
IsFine p = Each CanBeRead (own_constant p)

module _ (names : VariableNames) (good : AreGenerated names) where
  called_reads : (l : Label) (x : List ℕ) → IsCalled names l x → CanBeRead (word x)
  called_reads l x h = word_reads x (plain_name x (generated_plain x (called_percented names good l x h)))

  called_ends : (l : Label) (x : List ℕ) → IsCalled names l x → CanEnd (word x)
  called_ends l x h = (0, plain_name x (generated_plain x (called_percented names good l x h)))

  formals_end : {ls : List Label} {r : Option Label} {d : PlainDatum} → SpellsFormals names ls r d → CanEnd d
  formals_end no_rest = nil_ends
  formals_end (rest {l} {x} h) = called_ends l x h
  formals_end (required {l} {x} {ls} {r} {e} h others) = pair_ends (word x) e (called_reads l x h) (formals_end others)

  formals_read : {ls : List Label} {r : Option Label} {d : PlainDatum} → SpellsFormals names ls r d → CanBeRead d
  formals_read no_rest = nil_reads
  formals_read (rest {l} {x} h) = called_reads l x h
  formals_read (required {l} {x} {ls} {r} {e} h others) = pair_reads (word x) e (called_reads l x h) (formals_end others)

  mutual
    reads : {c : PlainCore} {d : PlainDatum} → SpellsCode names c d → Fine (parts c) → CanBeRead d
    reads (s.constant d h) f = (f.0.0.0, bare_reads f.0.0.0 d f.0.0.1)
    reads (s.quotation d h) f = form_reads (codes "quote") (one (unspanned d)) quote_name (one_ends (unspanned d) (f.0.0.0, bare_reads f.0.0.0 d f.0.0.1))
    reads (s.reference {l} {x} h) f = called_reads l x h
    reads (s.primitive o h) f = word_reads (op_text o.0) (plain_name (op_text o.0) ((primitive_free o.0 h).plain))
    reads (s.one_armed {t} {c} {d} {e} p q) f =
        form_reads (codes "if") (two d e) if_name (two_end d e (reads p (each-first IsFine (parts t) (parts c) f.1)) (reads q (each-last IsFine (parts t) (parts c) f.1)))
    reads (s.two_armed {t} {c} {a = b} {d} {e} {f = g} p q r) f =
        let k = each-last IsFine (parts t) (parts c ++ parts b) f.1 in
        form_reads (codes "if") (three d e g) if_name
        (three_end d e g (reads p (each-first IsFine (parts t) (parts c ++ parts b) f.1)) (reads q (each-first IsFine (parts c) (parts b) k)) (reads r (each-last IsFine (parts c) (parts b) k)))
    reads (s.assignment {l} {x} {c} {d} h p) f = form_reads (codes "set!") (two (word x) d) set_name (two_end (word x) d (called_reads l x h) (reads p f.1))
    reads (s.sequence {c} {cs} {d} {e} p ps) f =
        form_reads (codes "begin") (before d e) begin_name (pair_ends d e (reads p (each-first IsFine (parts c) (all_parts cs) f.1)) (all_end ps (each-last IsFine (parts c) (all_parts cs) f.1)))
    reads (s.lambda {f = g} {c} {d} {e} n fs p) f =
        form_reads (codes "lambda") (two d e) lambda_name (two_end d e (formals_read fs) (reads p (each-first IsFine (parts c) [] f.1)))
    reads (s.case_lambda {cs} {e} n ps) f = form_reads (codes "case-lambda") e case_lambda_name (cases_end ps f.1)
    reads (s.letrec {is} {c} {d} {e} ordered ps p) f =
        form_reads (letrec_keyword ordered) (two d e) (letrec_name ordered)
        (two_end d e (inits_read ps (each-first IsFine (init_parts is) (parts c) f.1)) (reads p (each-last IsFine (init_parts is) (parts c) f.1)))
    reads (s.application {c} {cs} {d} {e} p ps) f =
        pair_reads d e (reads p (each-first IsFine (parts c) (all_parts cs) f.1)) (all_end ps (each-last IsFine (parts c) (all_parts cs) f.1))

    all_end : {cs : PlainCores} {e : PlainDatum} → SpellsAllCode names cs e → Fine (all_parts cs) → CanEnd e
    all_end s.no_more f = nil_ends
    all_end (s.more {c} {cs} {d} {e} p ps) f = pair_ends d e (reads p (each-first IsFine (parts c) (all_parts cs) f)) (all_end ps (each-last IsFine (parts c) (all_parts cs) f))

    cases_end : {cs : PlainCases} {e : PlainDatum} → SpellsCases names cs e → Fine (case_parts cs) → CanEnd e
    cases_end s.no_case f = nil_ends
    cases_end (s.case {f = k} {c} {cs} {d} {e} {g} fs p ps) f =
        pair_ends (two d e) g (two_read d e (formals_read fs) (reads p (each-first IsFine (parts c) (case_parts cs) f))) (cases_end ps (each-last IsFine (parts c) (case_parts cs) f))

    inits_end : {is : PlainInits} {e : PlainDatum} → SpellsInits names is e → Fine (init_parts is) → CanEnd e
    inits_end s.no_init f = nil_ends
    inits_end (s.init {l} {x} {c} {is} {d} {e} h p ps) f =
        pair_ends (two (word x) d) e (two_read (word x) d (called_reads l x h) (reads p (each-first IsFine (parts c) (init_parts is) f))) (inits_end ps (each-last IsFine (parts c) (init_parts is) f))

    inits_read : {is : PlainInits} {e : PlainDatum} → SpellsInits names is e → Fine (init_parts is) → CanBeRead e
    inits_read s.no_init f = nil_reads
    inits_read (s.init {l} {x} {c} {is} {d} {e} h p ps) f =
        pair_reads (two (word x) d) e (two_read (word x) d (called_reads l x h) (reads p (each-first IsFine (parts c) (init_parts is) f))) (inits_end ps (each-last IsFine (parts c) (init_parts is) f))

  line_reads : {l : Line} {d : PlainDatum} → SpellsLine names l d → Fine (parts (line_core l)) → CanBeRead d
  line_reads (definition {l} {x} {c} {d} h p) f = form_reads (codes "define") (two (word x) d) define_name (two_end (word x) d (called_reads l x h) (reads p f))
  line_reads (expression p) f = reads p f

  pub lines_read : {ls : List Line} {ds : List PlainDatum} → SpellLines names ls ds → Each (λ l. Each CanBeRead (constants (line_core l))) ls → Each CanBeRead ds
  lines_read no_line h = tt
  lines_read (further {l} {ls} p ps) h = (line_reads p (each-flat CanBeRead own_constant (parts (line_core l)) h.0), lines_read ps h.1)

  -- a spelling has no spans
  formals_bare : {ls : List Label} {r : Option Label} {d : PlainDatum} → SpellsFormals names ls r d → unspanned d ≡ d
  formals_bare no_rest = refl
  formals_bare (rest h) = refl
  formals_bare (required {l} {x} h others) = λ i. before (word x) (formals_bare others i)

  mutual
    spelled_bare : {c : PlainCore} {d : PlainDatum} → SpellsCode names c d → unspanned d ≡ d
    spelled_bare (s.constant d h) = unspanned_twice d
    spelled_bare (s.quotation d h) = λ i. form (codes "quote") (one (unspanned_twice d i))
    spelled_bare (s.reference h) = refl
    spelled_bare (s.primitive o h) = refl
    spelled_bare (s.one_armed p q) = λ i. form (codes "if") (two (spelled_bare p i) (spelled_bare q i))
    spelled_bare (s.two_armed p q r) = λ i. form (codes "if") (three (spelled_bare p i) (spelled_bare q i) (spelled_bare r i))
    spelled_bare (s.assignment {l} {x} h p) = λ i. form (codes "set!") (two (word x) (spelled_bare p i))
    spelled_bare (s.sequence p ps) = λ i. form (codes "begin") (before (spelled_bare p i) (all_bare ps i))
    spelled_bare (s.lambda n fs p) = λ i. form (codes "lambda") (two (formals_bare fs i) (spelled_bare p i))
    spelled_bare (s.case_lambda n ps) = λ i. form (codes "case-lambda") (cases_bare ps i)
    spelled_bare (s.letrec ordered ps p) = λ i. form (letrec_keyword ordered) (two (inits_bare ps i) (spelled_bare p i))
    spelled_bare (s.application p ps) = λ i. before (spelled_bare p i) (all_bare ps i)

    all_bare : {cs : PlainCores} {e : PlainDatum} → SpellsAllCode names cs e → unspanned e ≡ e
    all_bare s.no_more = refl
    all_bare (s.more p ps) = λ i. before (spelled_bare p i) (all_bare ps i)

    cases_bare : {cs : PlainCases} {e : PlainDatum} → SpellsCases names cs e → unspanned e ≡ e
    cases_bare s.no_case = refl
    cases_bare (s.case fs p ps) = λ i. before (two (formals_bare fs i) (spelled_bare p i)) (cases_bare ps i)

    inits_bare : {is : PlainInits} {e : PlainDatum} → SpellsInits names is e → unspanned e ≡ e
    inits_bare s.no_init = refl
    inits_bare (s.init {l} {x} h p ps) = λ i. before (two (word x) (spelled_bare p i)) (inits_bare ps i)

  line_bare : {l : Line} {d : PlainDatum} → SpellsLine names l d → unspanned d ≡ d
  line_bare (definition {l} {x} h p) = λ i. form (codes "define") (two (word x) (spelled_bare p i))
  line_bare (expression p) = spelled_bare p

  pub lines_bare : {ls : List Line} {ds : List PlainDatum} → SpellLines names ls ds → map unspanned ds ≡ ds
  lines_bare no_line = refl
  lines_bare (further p ps) = λ i. line_bare p i ∷ lines_bare ps i

pub spellings_can_be_read : SpellingsCanBeRead
spellings_can_be_read names c d good h p = reads names good p (each-flat CanBeRead own_constant (parts c) h)
