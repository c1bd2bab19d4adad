-- Which datum spells which core code, by cases (R6RS 9.1 and 11). Data here have no spans.
use Rattle.std.specs.Prelude.{◌≡◌, ℕ, Bool, true, false, List, [], ◌∷◌, Option, None, Some, codes}
use Rattle.base_data.specs.Datum as datum
use Rattle.base_data.specs.Datum.{PlainDatum, nil, unspanned}
use Rattle.base_data.specs.Op.{op_text}
use Rattle.base_data.specs.declared.atom.Atom.{Atom}
use Rattle.base_data.specs.declared.atom.Atom.TheVariants as a
use Rattle.base_data.specs.declared.name.CodeNo.{CodeNo}
use Rattle.base_data.specs.declared.name.Label.{Label}
use Rattle.base_data.specs.declared.op.Op.{Op}
use Rattle.core_language.specs.declared.formals.Formals.{Formals}
use Rattle.core_language.specs.Core as core
use Rattle.core_language.specs.Core.{PlainCore, PlainCores, PlainInits, PlainCases}
use Rattle.core_output.specs.CoreText.{VariableNames}
use Rattle.law_core_grammar.specs.Names.{IsCalled, IsPrimitive}

abbrev pub word : List ℕ → PlainDatum
word x = datum.symbol None x

-- a datum before the rest of its list
abbrev pub before : PlainDatum → PlainDatum → PlainDatum
before d e = datum.pair None d e

-- the form of a keyword with these parts
abbrev pub form : List ℕ → PlainDatum → PlainDatum
form keyword parts = before (word keyword) parts

abbrev pub one : PlainDatum → PlainDatum
one d = before d nil

abbrev pub two : PlainDatum → PlainDatum → PlainDatum
two d e = before d (one e)

abbrev pub three : PlainDatum → PlainDatum → PlainDatum → PlainDatum
three d e f = before d (two e f)

-- booleans, numbers, characters, strings and bytevectors evaluate to themselves
abbrev pub is_atom_itself : Atom → Bool
is_atom_itself a.Nil = false
is_atom_itself (a.Bool b) = true
is_atom_itself (a.Int z) = true
is_atom_itself (a.Spelt x) = true
is_atom_itself (a.Char c) = true
is_atom_itself (a.Str x) = true
is_atom_itself (a.Bytes ns) = true

abbrev pub is_itself : PlainDatum → Bool
is_itself (datum.atom s x) = is_atom_itself x
is_itself (datum.symbol s x) = false
is_itself (datum.pair s d e) = false
is_itself (datum.vector s d) = false

abbrev pub letrec_keyword : Bool → List ℕ
letrec_keyword true = codes "letrec*"
letrec_keyword false = codes "letrec"

module _ (names : VariableNames) where
  -- (x ...), (x ... . r) or r
  pub data SpellsFormals : List Label → Option Label → PlainDatum → Type 0 where
    no_rest : SpellsFormals [] None nil
    rest : {l : Label} {x : List ℕ} → IsCalled names l x → SpellsFormals [] (Some l) (word x)
    required : {l : Label} {x : List ℕ} {ls : List Label} {r : Option Label} {e : PlainDatum} → IsCalled names l x → SpellsFormals ls r e
        → SpellsFormals (l ∷ ls) r (before (word x) e)

  mutual
    pub data SpellsCode : PlainCore → PlainDatum → Type 0 where
      -- a constant that evaluates to itself, and (quote d) of any other
      constant : (d : PlainDatum) → is_itself d ≡ true → SpellsCode (core.quoted d) (unspanned d)
      quotation : (d : PlainDatum) → is_itself d ≡ false → SpellsCode (core.quoted d) (form (codes "quote") (one (unspanned d)))
      -- the name of a variable, and the report name of a primitive
      reference : {l : Label} {x : List ℕ} → IsCalled names l x → SpellsCode (core.variable l) (word x)
      primitive : (o : Op) → IsPrimitive o.0 → SpellsCode (core.primitive o) (word (op_text o.0))
      -- (if t c) and (if t c a)
      one_armed : {t c : PlainCore} {d e : PlainDatum} → SpellsCode t d → SpellsCode c e → SpellsCode (core.one_armed t c) (form (codes "if") (two d e))
      two_armed : {t c a : PlainCore} {d e f : PlainDatum} → SpellsCode t d → SpellsCode c e → SpellsCode a f
          → SpellsCode (core.two_armed t c a) (form (codes "if") (three d e f))
      -- (set! x e)
      assignment : {l : Label} {x : List ℕ} {c : PlainCore} {d : PlainDatum} → IsCalled names l x → SpellsCode c d
          → SpellsCode (core.assignment l c) (form (codes "set!") (two (word x) d))
      -- (begin e e ...)
      sequence : {c : PlainCore} {cs : PlainCores} {d e : PlainDatum} → SpellsCode c d → SpellsAllCode cs e
          → SpellsCode (core.sequence (core.more c cs)) (form (codes "begin") (before d e))
      -- (lambda formals e), whatever the number of its code
      lambda : {f : Formals} {c : PlainCore} {d e : PlainDatum} (n : CodeNo) → SpellsFormals f.required f.rest d → SpellsCode c e
          → SpellsCode (core.procedure n (core.case f c core.no_case) true) (form (codes "lambda") (two d e))
      -- (case-lambda (formals e) ...)
      case_lambda : {cs : PlainCases} {e : PlainDatum} (n : CodeNo) → SpellsCases cs e → SpellsCode (core.procedure n cs false) (form (codes "case-lambda") e)
      -- (letrec ((x e) ...) e), or letrec* where it is in order
      letrec : {is : PlainInits} {c : PlainCore} {d e : PlainDatum} (ordered : Bool) → SpellsInits is d → SpellsCode c e
          → SpellsCode (core.letrec ordered is c) (form (letrec_keyword ordered) (two d e))
      -- (operator operand ...)
      application : {c : PlainCore} {cs : PlainCores} {d e : PlainDatum} → SpellsCode c d → SpellsAllCode cs e → SpellsCode (core.call c cs) (before d e)

    pub data SpellsAllCode : PlainCores → PlainDatum → Type 0 where
      no_more : SpellsAllCode core.none nil
      more : {c : PlainCore} {cs : PlainCores} {d e : PlainDatum} → SpellsCode c d → SpellsAllCode cs e → SpellsAllCode (core.more c cs) (before d e)

    pub data SpellsInits : PlainInits → PlainDatum → Type 0 where
      no_init : SpellsInits core.no_init nil
      init : {l : Label} {x : List ℕ} {c : PlainCore} {is : PlainInits} {d e : PlainDatum} → IsCalled names l x → SpellsCode c d → SpellsInits is e
          → SpellsInits (core.init l c is) (before (two (word x) d) e)

    pub data SpellsCases : PlainCases → PlainDatum → Type 0 where
      no_case : SpellsCases core.no_case nil
      case : {f : Formals} {c : PlainCore} {cs : PlainCases} {d e g : PlainDatum} → SpellsFormals f.required f.rest d → SpellsCode c e → SpellsCases cs g
          → SpellsCases (core.case f c cs) (before (two d e) g)
