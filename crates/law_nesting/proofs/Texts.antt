-- What spells core code nests as deep as the code and its constants do.
use Rattle.std.proofs.Common.{◌≡◌, ℕ, zero, suc, ◌+◌, ◌-◌, ◌≤◌, max, Bool, true, false, List, [], ◌∷◌, ◌++◌, Option, None, Some, refl, sym, subst, arith}
use Rattle.std.specs.List.{flat_map}
use Rattle.std.specs.Prelude.{codes}
use Rattle.std.proofs.Math.Nat.{max-le, le-max_left, le-max_right}
use Rattle.base_data.specs.Datum as datum
use Rattle.base_data.specs.Datum.{PlainDatum, nil, unspanned}
use Rattle.base_data.specs.Elements.{Each}
use Rattle.base_data.specs.Op.{op_text}
use Rattle.base_data.specs.declared.atom.Atom.{Atom}
use Rattle.base_data.specs.declared.atom.Atom.TheVariants as a
use Rattle.base_data.specs.declared.name.Label.{Label}
use Rattle.core_language.specs.Core.{PlainCore, PlainCores, PlainInits, PlainCases}
use Rattle.core_language.specs.declared.record.Line.{Line}
use Rattle.law_core_grammar.specs.Lines.{SpellsLine, definition, expression}
use Rattle.law_core_grammar.specs.Spellable.{CanBeRead, own_constant, constants}
use Rattle.law_core_grammar.specs.Spells.{word, before, form, one, two, three, letrec_keyword, SpellsFormals, no_rest, rest, required}
use Rattle.law_core_grammar.specs.Spells as s
use Rattle.law_core_grammar.specs.Spells.{SpellsCode, SpellsAllCode, SpellsInits, SpellsCases}
use Rattle.law_core.specs.Parts.{parts, all_parts, init_parts, case_parts}
use Rattle.law_core.specs.Records.{line_core}
use Rattle.core_output.specs.CoreText.{VariableNames}
use Rattle.law_nesting.specs.Heights.{in_text, height_with, highest_with, highest_init_with, highest_case_with}
use Rattle.law_nesting.specs.Texts.{nested_atom, nested, nested_behind, ReadWhereNested, SpellingsNest, LineSpellingsNest}
use Rattle.law_nesting.proofs.Heights.{some-height, text-at-most}
use Rattle.law_round.specs.Readable.{IsReadable, IsReadableAtom, IsRest, AreElements}

-- Reading.

mutual
  reads : (d : PlainDatum) (m n : ℕ) → IsReadable m d → nested d ≤ n → IsReadable n d
  reads (datum.atom s a.Nil) m zero h le = absurd (omega (arith, le))
  reads (datum.atom s a.Nil) m (suc n) h le = tt
  reads (datum.atom s (a.Bool b)) m n h le = h
  reads (datum.atom s (a.Int z)) m n h le = h
  reads (datum.atom s (a.Spelt x)) m n h le = h
  reads (datum.atom s (a.Char c)) m n h le = h
  reads (datum.atom s (a.Str x)) m n h le = h
  reads (datum.atom s (a.Bytes ns)) m n h le = h
  reads (datum.symbol s x) m n h le = h
  reads (datum.pair s d e) zero n h le = elim h [ ]
  reads (datum.pair s d e) (suc m) zero h le = absurd (omega (arith, le))
  reads (datum.pair s d e) (suc m) (suc n) h le =
      let first = le-max_left (nested d) (nested_behind e) in
      let others = le-max_right (nested d) (nested_behind e) in
      (reads d m n h.0 (omega (arith, le, first)), ends e m n h.1 (omega (arith, le, others)))
  reads (datum.vector s d) zero n h le = elim h [ ]
  reads (datum.vector s d) (suc m) zero h le = absurd (omega (arith, le))
  reads (datum.vector s d) (suc m) (suc n) h le = elements d m n h (omega (arith, le))

  ends : (d : PlainDatum) (m n : ℕ) → IsRest m d → nested_behind d ≤ n → IsRest n d
  ends (datum.atom s x) m n h le = h
  ends (datum.symbol s x) m n h le = h
  ends (datum.pair s d e) m n h le =
      let first = le-max_left (nested d) (nested_behind e) in
      let others = le-max_right (nested d) (nested_behind e) in
      (reads d m n h.0 (omega (arith, le, first)), ends e m n h.1 (omega (arith, le, others)))
  ends (datum.vector s d) zero n h le = elim h [ ]
  ends (datum.vector s d) (suc m) zero h le = absurd (omega (arith, le))
  ends (datum.vector s d) (suc m) (suc n) h le = elements d m n h (omega (arith, le))

  elements : (d : PlainDatum) (m n : ℕ) → AreElements m d → nested_behind d ≤ n → AreElements n d
  elements (datum.atom s a.Nil) m n h le = tt
  elements (datum.atom s (a.Bool b)) m n h le = h
  elements (datum.atom s (a.Int z)) m n h le = h
  elements (datum.atom s (a.Spelt x)) m n h le = h
  elements (datum.atom s (a.Char c)) m n h le = h
  elements (datum.atom s (a.Str x)) m n h le = h
  elements (datum.atom s (a.Bytes ns)) m n h le = h
  elements (datum.symbol s x) m n h le = h
  elements (datum.pair s d e) m n h le =
      let first = le-max_left (nested d) (nested_behind e) in
      let others = le-max_right (nested d) (nested_behind e) in
      (reads d m n h.0 (omega (arith, le, first)), elements e m n h.1 (omega (arith, le, others)))
  elements (datum.vector s d) m n h le = h

pub read-where-nested : ReadWhereNested
read-where-nested d n h le = reads d h.0 n h.1 le

-- Spans don't nest.

mutual
  bare : (d : PlainDatum) → nested (unspanned d) ≡ nested d
  bare (datum.atom s x) = refl
  bare (datum.symbol s x) = refl
  bare (datum.pair s d e) = λ i. 1 + max (bare d i) (bare-behind e i)
  bare (datum.vector s d) = λ i. 1 + bare-behind d i

  bare-behind : (d : PlainDatum) → nested_behind (unspanned d) ≡ nested_behind d
  bare-behind (datum.atom s x) = refl
  bare-behind (datum.symbol s x) = refl
  bare-behind (datum.pair s d e) = λ i. max (bare d i) (bare-behind e i)
  bare-behind (datum.vector s d) = λ i. 1 + bare-behind d i

-- Lists.

pair-nested : (d e : PlainDatum) (n k : ℕ) → nested d ≤ n → nested_behind e ≤ n → n + 1 ≤ k → nested (before d e) ≤ k
pair-nested d e n k h j le = let both : max (nested d) (nested_behind e) ≤ n = max-le h j in omega (arith, both, le)

pair-behind : (d e : PlainDatum) (n : ℕ) → nested d ≤ n → nested_behind e ≤ n → nested_behind (before d e) ≤ n
pair-behind d e n h j = max-le h j

one-behind : (d : PlainDatum) (n : ℕ) → nested d ≤ n → nested_behind (one d) ≤ n
one-behind d n h = pair-behind d nil n h (omega arith)

two-behind : (d e : PlainDatum) (n : ℕ) → nested d ≤ n → nested e ≤ n → nested_behind (two d e) ≤ n
two-behind d e n h j = pair-behind d (one e) n h (one-behind e n j)

three-behind : (d e f : PlainDatum) (n : ℕ) → nested d ≤ n → nested e ≤ n → nested f ≤ n → nested_behind (three d e f) ≤ n
three-behind d e f n h j k = pair-behind d (two e f) n h (two-behind e f n j k)

form-nested : (w : List ℕ) (e : PlainDatum) (n k : ℕ) → nested_behind e ≤ n → n + 1 ≤ k → nested (form w e) ≤ k
form-nested w e n k h le = pair-nested (word w) e n k (omega arith) h le

two-nested : (d e : PlainDatum) (n k : ℕ) → nested d ≤ n → nested e ≤ n → n + 1 ≤ k → nested (two d e) ≤ k
two-nested d e n k h j le = pair-nested d (one e) n k h (one-behind e n j) le

-- the greater of two, with more
left-high : (a b n k : ℕ) → max a b + n ≤ k → a + n ≤ k
left-high a b n k h = let le = le-max_left a b in omega (arith, h, le)

right-high : (a b n k : ℕ) → max a b + n ≤ k → b + n ≤ k
right-high a b n k h = let le = le-max_right a b in omega (arith, h, le)

-- Each constant in these parts nests so deep at most.

module _ {A : Type 0} (P : A → Type 0) where
  first-each : (xs ys : List A) → Each P (xs ++ ys) → Each P xs
  first-each [] ys h = tt
  first-each (x ∷ xs) ys h = (h.0, first-each xs ys h.1)

  behind-each : (xs ys : List A) → Each P (xs ++ ys) → Each P ys
  behind-each [] ys h = h
  behind-each (x ∷ xs) ys h = behind-each xs ys h.1

module _ (names : VariableNames) (n : ℕ) where
  abbrev Fine : PlainDatum → Type 0
  Fine e = nested e ≤ n

  abbrev IsFine : PlainCore → Type 0
  IsFine c = Each Fine (own_constant c)

  abbrev AreFine : List PlainCore → Type 0
  AreFine cs = Each IsFine cs

  own-each : (cs : List PlainCore) → Each Fine (flat_map own_constant cs) → AreFine cs
  own-each [] h = tt
  own-each (c ∷ cs) h = (first-each Fine (own_constant c) (flat_map own_constant cs) h, own-each cs (behind-each Fine (own_constant c) (flat_map own_constant cs) h))

  formals-behind : {ls : List Label} {r : Option Label} {d : PlainDatum} → SpellsFormals names ls r d → nested_behind d ≤ 0
  formals-behind no_rest = omega arith
  formals-behind (rest h) = omega arith
  formals-behind (required {l} {x} {ls} {r} {e} h others) = pair-behind (word x) e 0 (omega arith) (formals-behind others)

  formals-nested : (k : ℕ) {ls : List Label} {r : Option Label} {d : PlainDatum} → SpellsFormals names ls r d → 1 ≤ k → nested d ≤ k
  formals-nested k no_rest le = le
  formals-nested k (rest h) le = omega arith
  formals-nested k (required {l} {x} {ls} {r} {e} h others) le = pair-nested (word x) e 0 k (omega arith) (formals-behind others) le

  -- no code is of height 0
  some : (c : PlainCore) → 1 ≤ height_with in_text c
  some c = some-height in_text text-at-most c

  mutual
    -- under any limit that is as high
    spelled : {c : PlainCore} {d : PlainDatum} (k : ℕ) → SpellsCode names c d → AreFine (parts c) → height_with in_text c + n ≤ k → nested d ≤ k
    spelled k (s.constant d h) f le = let fine = f.0.0 in let same = bare d in omega (arith, fine, same, le)
    spelled k (s.quotation d h) f le = let fine = f.0.0 in let same = bare d in form-nested (codes "quote") (one (unspanned d)) n k (one-behind (unspanned d) n (omega (arith, fine, same))) (omega (arith, le))
    spelled k (s.reference h) f le = omega arith
    spelled k (s.primitive o h) f le = omega arith
    spelled zero (s.one_armed p q) f le = absurd (omega (arith, le))
    spelled (suc k) (s.one_armed {t} {c} {d} {e} p q) f le =
        let inner : max (height_with in_text t) (height_with in_text c) + n ≤ k = omega (arith, le) in
        form-nested (codes "if") (two d e) k (suc k)
        (two-behind d e k
        (spelled k p (first-each IsFine (parts t) (parts c) f.1) (left-high (height_with in_text t) (height_with in_text c) n k inner))
        (spelled k q (behind-each IsFine (parts t) (parts c) f.1) (right-high (height_with in_text t) (height_with in_text c) n k inner)))
        (omega arith)
    spelled zero (s.two_armed p q r) f le = absurd (omega (arith, le))
    spelled (suc k) (s.two_armed {t} {c} {a = b} {d} {e} {f = g} p q r) f le =
        let later = max (height_with in_text c) (height_with in_text b) in
        let inner : max (height_with in_text t) later + n ≤ k = omega (arith, le) in
        let next = right-high (height_with in_text t) later n k inner in
        let more = behind-each IsFine (parts t) (parts c ++ parts b) f.1 in
        form-nested (codes "if") (three d e g) k (suc k)
        (three-behind d e g k
        (spelled k p (first-each IsFine (parts t) (parts c ++ parts b) f.1) (left-high (height_with in_text t) later n k inner))
        (spelled k q (first-each IsFine (parts c) (parts b) more) (left-high (height_with in_text c) (height_with in_text b) n k next))
        (spelled k r (behind-each IsFine (parts c) (parts b) more) (right-high (height_with in_text c) (height_with in_text b) n k next)))
        (omega arith)
    spelled zero (s.assignment h p) f le = absurd (omega (arith, le))
    spelled (suc k) (s.assignment {l} {x} {c} {d} h p) f le =
        form-nested (codes "set!") (two (word x) d) k (suc k) (two-behind (word x) d k (omega arith) (spelled k p f.1 (omega (arith, le)))) (omega arith)
    spelled zero (s.sequence p ps) f le = absurd (omega (arith, le))
    spelled (suc k) (s.sequence {c} {cs} {d} {e} p ps) f le =
        let inner : max (height_with in_text c) (highest_with in_text cs) + n ≤ k = omega (arith, le) in
        form-nested (codes "begin") (before d e) k (suc k)
        (pair-behind d e k
        (spelled k p (first-each IsFine (parts c) (all_parts cs) f.1) (left-high (height_with in_text c) (highest_with in_text cs) n k inner))
        (all-spelled k ps (behind-each IsFine (parts c) (all_parts cs) f.1) (right-high (height_with in_text c) (highest_with in_text cs) n k inner)))
        (omega arith)
    spelled zero (s.lambda m fs p) f le = absurd (omega (arith, le))
    spelled (suc k) (s.lambda {f = g} {c} {d} {e} m fs p) f le =
        let inner : max (height_with in_text c) 0 + n ≤ k = omega (arith, le) in
        let body = left-high (height_with in_text c) 0 n k inner in
        let high = some c in
        form-nested (codes "lambda") (two d e) k (suc k)
        (two-behind d e k (formals-nested k fs (omega (arith, body, high))) (spelled k p (first-each IsFine (parts c) [] f.1) body))
        (omega arith)
    spelled zero (s.case_lambda m ps) f le = absurd (omega (arith, le))
    spelled (suc k) (s.case_lambda {cs} {e} m ps) f le =
        form-nested (codes "case-lambda") e k (suc k) (cases-spelled k ps f.1 (omega (arith, le))) (omega arith)
    spelled zero (s.letrec o ps p) f le = absurd (omega (arith, le))
    spelled (suc k) (s.letrec {is} {c} {d} {e} o ps p) f le =
        let inner : max (2 + highest_init_with in_text is) (height_with in_text c) + n ≤ k = omega (arith, le) in
        let values = left-high (2 + highest_init_with in_text is) (height_with in_text c) n k inner in
        form-nested (letrec_keyword o) (two d e) k (suc k)
        (two-behind d e k
        (inits-nested k ps (first-each IsFine (init_parts is) (parts c) f.1) (omega (arith, values)))
        (spelled k p (behind-each IsFine (init_parts is) (parts c) f.1) (right-high (2 + highest_init_with in_text is) (height_with in_text c) n k inner)))
        (omega arith)
    spelled zero (s.application p ps) f le = absurd (omega (arith, le))
    spelled (suc k) (s.application {c} {cs} {d} {e} p ps) f le =
        let inner : max (height_with in_text c) (highest_with in_text cs) + n ≤ k = omega (arith, le) in
        pair-nested d e k (suc k)
        (spelled k p (first-each IsFine (parts c) (all_parts cs) f.1) (left-high (height_with in_text c) (highest_with in_text cs) n k inner))
        (all-spelled k ps (behind-each IsFine (parts c) (all_parts cs) f.1) (right-high (height_with in_text c) (highest_with in_text cs) n k inner))
        (omega arith)

    all-spelled : {cs : PlainCores} {e : PlainDatum} (k : ℕ) → SpellsAllCode names cs e → AreFine (all_parts cs) → highest_with in_text cs + n ≤ k → nested_behind e ≤ k
    all-spelled k s.no_more f le = omega arith
    all-spelled k (s.more {c} {cs} {d} {e} p ps) f le =
        pair-behind d e k
        (spelled k p (first-each IsFine (parts c) (all_parts cs) f) (left-high (height_with in_text c) (highest_with in_text cs) n k le))
        (all-spelled k ps (behind-each IsFine (parts c) (all_parts cs) f) (right-high (height_with in_text c) (highest_with in_text cs) n k le))

    -- the list of a case is one deeper
    cases-spelled : {cs : PlainCases} {e : PlainDatum} (k : ℕ) → SpellsCases names cs e → AreFine (case_parts cs) → 1 + highest_case_with in_text cs + n ≤ k → nested_behind e ≤ k
    cases-spelled k s.no_case f le = omega arith
    cases-spelled zero (s.case fs p ps) f le = absurd (omega (arith, le))
    cases-spelled (suc k) (s.case {f = g} {c} {cs} {d} {e} {g = o} fs p ps) f le =
        let inner : max (height_with in_text c) (highest_case_with in_text cs) + n ≤ k = omega (arith, le) in
        let body = left-high (height_with in_text c) (highest_case_with in_text cs) n k inner in
        let others = right-high (height_with in_text c) (highest_case_with in_text cs) n k inner in
        let high = some c in
        pair-behind (two d e) o (suc k)
        (two-nested d e k (suc k) (formals-nested k fs (omega (arith, body, high))) (spelled k p (first-each IsFine (parts c) (case_parts cs) f) body) (omega arith))
        (cases-spelled (suc k) ps (behind-each IsFine (parts c) (case_parts cs) f) (omega (arith, others)))

    -- and so is the pair of a variable and its value
    inits-behind : {is : PlainInits} {e : PlainDatum} (k : ℕ) → SpellsInits names is e → AreFine (init_parts is) → 1 + highest_init_with in_text is + n ≤ k → nested_behind e ≤ k
    inits-behind k s.no_init f le = omega arith
    inits-behind zero (s.init h p ps) f le = absurd (omega (arith, le))
    inits-behind (suc k) (s.init {l} {x} {c} {is} {d} {e} h p ps) f le =
        let inner : max (height_with in_text c) (highest_init_with in_text is) + n ≤ k = omega (arith, le) in
        let value = left-high (height_with in_text c) (highest_init_with in_text is) n k inner in
        let others = right-high (height_with in_text c) (highest_init_with in_text is) n k inner in
        pair-behind (two (word x) d) e (suc k)
        (two-nested (word x) d k (suc k) (omega arith) (spelled k p (first-each IsFine (parts c) (init_parts is) f) value) (omega arith))
        (inits-behind (suc k) ps (behind-each IsFine (parts c) (init_parts is) f) (omega (arith, others)))

    -- their list is one more
    inits-nested : {is : PlainInits} {e : PlainDatum} (k : ℕ) → SpellsInits names is e → AreFine (init_parts is) → 2 + highest_init_with in_text is + n ≤ k → nested e ≤ k
    inits-nested k s.no_init f le = omega (arith, le)
    inits-nested k (s.init {l} {x} {c} {is} {d} {e} h p ps) f le =
        let inner : max (height_with in_text c) (highest_init_with in_text is) + n ≤ k - 2 = omega (arith, le) in
        let value = left-high (height_with in_text c) (highest_init_with in_text is) n (k - 2) inner in
        let others = right-high (height_with in_text c) (highest_init_with in_text is) n (k - 2) inner in
        pair-nested (two (word x) d) e (k - 1) k
        (two-nested (word x) d (k - 2) (k - 1) (omega arith) (spelled (k - 2) p (first-each IsFine (parts c) (init_parts is) f) value) (omega (arith, le)))
        (inits-behind (k - 1) ps (behind-each IsFine (parts c) (init_parts is) f) (omega (arith, others, le)))
        (omega (arith, le))

  line-spelled : {l : Line} {d : PlainDatum} → SpellsLine names l d → AreFine (parts (line_core l)) → nested d ≤ height_with in_text (line_core l) + n + 1
  line-spelled (definition {l} {x} {c} {d} h p) f =
      let k = height_with in_text c + n in
      form-nested (codes "define") (two (word x) d) k (k + 1) (two-behind (word x) d k (omega arith) (spelled k p f (omega arith))) (omega arith)
  line-spelled (expression {c} {d} p) f = let low = spelled (height_with in_text c + n) p f (omega arith) in omega (arith, low)

pub spellings-nest : SpellingsNest
spellings-nest names c d n h p = spelled names n (height_with in_text c + n) p (own-each names n (parts c) h) (omega arith)

pub line-spellings-nest : LineSpellingsNest
line-spellings-nest names l d n h p = line-spelled names n p (own-each names n (parts (line_core l)) h)
