-- A form of core text is one with any spans.
use Rattle.std.proofs.Common.{◌≡◌, ℕ, List, [], ◌∷◌, Option, None, refl, subst}
use Rattle.std.specs.Prelude.{codes}
use Rattle.base_data.specs.Datum.{PlainDatum, atom, symbol, pair, vector, unspanned}
use Rattle.base_data.specs.declared.atom.Atom.{Atom}
use Rattle.base_data.specs.declared.atom.Atom.TheVariants as a
use Rattle.base_data.specs.declared.span.Span.{Span}
use Rattle.check_grammar.specs.Forms as f
use Rattle.check_grammar.specs.Forms.{IsQuoted, IsFormals, Is1, Is2, IsExpression, AreExpressions, AreInits, AreCases}
use Rattle.check_grammar.specs.Lines as lines
use Rattle.check_grammar.specs.Lines.{IsLineForm}

abbrev Words : Type 0
Words = List (List ℕ)

-- what a datum is that differs in its spans alone

record IsAtom (e : PlainDatum) (c : Atom) : Type 0 where
  s : Option Span
  same : atom s c ≡ e

record IsSymbol (e : PlainDatum) (x : List ℕ) : Type 0 where
  s : Option Span
  same : symbol s x ≡ e

record IsPair (e a b : PlainDatum) : Type 0 where
  s : Option Span
  first : PlainDatum
  rest : PlainDatum
  same : pair s first rest ≡ e
  first_same : unspanned first ≡ a
  rest_same : unspanned rest ≡ b

record IsVector (e : PlainDatum) : Type 0 where
  s : Option Span
  d : PlainDatum
  same : vector s d ≡ e

atom_is : (e : PlainDatum) (c : Atom) → unspanned e ≡ atom None c → IsAtom e c
atom_is (atom t b) c h = let equal : b ≡ c = cc in record { s = t; same = subst (λ (x : Atom). atom t x ≡ atom t b) equal refl }
atom_is (symbol t x) c h = absurd (cc)
atom_is (pair t d e) c h = absurd (cc)
atom_is (vector t d) c h = absurd (cc)

symbol_is : (e : PlainDatum) (x : List ℕ) → unspanned e ≡ symbol None x → IsSymbol e x
symbol_is (atom t b) x h = absurd (cc)
symbol_is (symbol t y) x h = let equal : y ≡ x = cc in record { s = t; same = subst (λ (z : List ℕ). symbol t z ≡ symbol t y) equal refl }
symbol_is (pair t d e) x h = absurd (cc)
symbol_is (vector t d) x h = absurd (cc)

pair_is : (e a b : PlainDatum) → unspanned e ≡ pair None a b → IsPair e a b
pair_is (atom t c) a b h = absurd (cc)
pair_is (symbol t x) a b h = absurd (cc)
pair_is (pair t d e) a b h = record { s = t; first = d; rest = e; same = refl; first_same = cc; rest_same = cc }
pair_is (vector t d) a b h = absurd (cc)

vector_is : (e b : PlainDatum) → unspanned e ≡ vector None b → IsVector e
vector_is (atom t c) b h = absurd (cc)
vector_is (symbol t x) b h = absurd (cc)
vector_is (pair t d e) b h = absurd (cc)
vector_is (vector t d) b h = record { s = t; d = d; same = refl }

-- a form that begins with a word
record IsKeyed (e : PlainDatum) (x : List ℕ) (b : PlainDatum) : Type 0 where
  s : Option Span
  t : Option Span
  rest : PlainDatum
  same : pair s (symbol t x) rest ≡ e
  rest_same : unspanned rest ≡ b

keyed : (e : PlainDatum) (x : List ℕ) (b : PlainDatum) → unspanned e ≡ pair None (symbol None x) b → IsKeyed e x b
keyed e x b h =
    let p = pair_is e (symbol None x) b h in
    let w = symbol_is p.first x p.first_same in
    record { s = p.s; t = w.s; rest = p.rest; same = subst (λ (y : PlainDatum). pair p.s y p.rest ≡ e) (sym-of w.same) p.same; rest_same = p.rest_same }
  where
    sym-of : {y z : PlainDatum} → y ≡ z → z ≡ y
    sym-of {y} {z} g = subst (λ (w : PlainDatum). w ≡ y) g refl

-- lists of one and of two, what is quoted, and formals

record IsOne (e d : PlainDatum) : Type 0 where
  inner : PlainDatum
  is : Is1 e inner
  same : unspanned inner ≡ unspanned d

one_as : {b d : PlainDatum} → Is1 b d → (e : PlainDatum) → unspanned e ≡ unspanned b → IsOne e d
one_as (f.single {d = d}) e h =
    let p = pair_is e (unspanned d) (atom None a.Nil) h in
    let n = atom_is p.rest a.Nil p.rest_same in
    record {
      inner = p.first;
      is = subst (λ (y : PlainDatum). Is1 y p.first) p.same (subst (λ (y : PlainDatum). Is1 (pair p.s p.first y) p.first) n.same f.single);
      same = p.first_same;
    }

record AreTwo (e d c : PlainDatum) : Type 0 where
  first : PlainDatum
  second : PlainDatum
  are : Is2 e first second
  first_same : unspanned first ≡ unspanned d
  second_same : unspanned second ≡ unspanned c

two_as : {b d c : PlainDatum} → Is2 b d c → (e : PlainDatum) → unspanned e ≡ unspanned b → AreTwo e d c
two_as (f.double {d = d} {e = r} one) e h =
    let p = pair_is e (unspanned d) (unspanned r) h in
    let o = one_as one p.rest p.rest_same in
    record { first = p.first; second = o.inner; are = subst (λ (y : PlainDatum). Is2 y p.first o.inner) p.same (f.double o.is); first_same = p.first_same; second_same = o.same }

quoted_as : {d : PlainDatum} → IsQuoted d → (e : PlainDatum) → unspanned e ≡ unspanned d → IsQuoted e
quoted_as f.nothing e h = subst IsQuoted (atom_is e a.Nil h).same f.nothing
quoted_as (f.name {x = x}) e h = subst IsQuoted (symbol_is e x h).same f.name
quoted_as (f.list {d = d} {e = r}) e h = subst IsQuoted (pair_is e (unspanned d) (unspanned r) h).same f.list
quoted_as (f.elements {d = d}) e h = subst IsQuoted (vector_is e (unspanned d) h).same f.elements

formals_as : {d : PlainDatum} {xs : Words} → IsFormals d xs → (e : PlainDatum) → unspanned e ≡ unspanned d → IsFormals e xs
formals_as f.no_rest e h = subst (λ (y : PlainDatum). IsFormals y []) (atom_is e a.Nil h).same f.no_rest
formals_as (f.rest {x = x} n) e h = subst (λ (y : PlainDatum). IsFormals y (x ∷ [])) (symbol_is e x h).same (f.rest n)
formals_as (f.required {x = x} {d = d} {xs = xs} n others) e h =
    let k = keyed e x (unspanned d) h in
    subst (λ (y : PlainDatum). IsFormals y (x ∷ xs)) k.same (f.required n (formals_as others k.rest k.rest_same))

-- expressions

as_expression : {d e : PlainDatum} {bs fs : Words} → d ≡ e → IsExpression d bs fs → IsExpression e bs fs
as_expression {bs = bs} {fs = fs} same i = subst (λ (y : PlainDatum). IsExpression y bs fs) same i

as_assignment : (s t : Option Span) {d e : PlainDatum} {bs fs : Words} → d ≡ e → IsExpression (pair s (symbol t (codes "set!")) d) bs fs → IsExpression (pair s (symbol t (codes "set!")) e) bs fs
as_assignment s t {bs = bs} {fs = fs} same i = subst (λ (y : PlainDatum). IsExpression (pair s (symbol t (codes "set!")) y) bs fs) same i

mutual
  expression_as : {d : PlainDatum} {bs fs : Words} → IsExpression d bs fs → (e : PlainDatum) → unspanned e ≡ unspanned d → IsExpression e bs fs
  expression_as (f.constant {c = c} i) e h = as_expression (atom_is e c h).same (f.constant i)
  expression_as (f.quotation {d = d} {e = r} one q) e h =
      let k = keyed e (codes "quote") (unspanned r) h in
      let o = one_as one k.rest k.rest_same in
      as_expression k.same (f.quotation o.is (quoted_as q o.inner o.same))
  expression_as (f.reference {x = x} n) e h = as_expression (symbol_is e x h).same (f.reference n)
  expression_as (f.primitive {x = x} p) e h = as_expression (symbol_is e x h).same (f.primitive p)
  expression_as (f.one_armed {e = r} all) e h = let k = keyed e (codes "if") (unspanned r) h in as_expression k.same (f.one_armed (expressions_as all k.rest k.rest_same))
  expression_as (f.two_armed {e = r} all) e h = let k = keyed e (codes "if") (unspanned r) h in as_expression k.same (f.two_armed (expressions_as all k.rest k.rest_same))
  expression_as (f.assignment {x = x} {e = r} n one i) e h =
      let k = keyed e (codes "set!") (pair None (symbol None x) (unspanned r)) h in
      let v = keyed k.rest x (unspanned r) k.rest_same in
      let o = one_as one v.rest v.rest_same in
      as_expression k.same (as_assignment k.s k.t v.same (f.assignment n o.is (expression_as i o.inner o.same)))
  expression_as (f.sequence {e = r} all) e h = let k = keyed e (codes "begin") (unspanned r) h in as_expression k.same (f.sequence (expressions_as all k.rest k.rest_same))
  expression_as (f.lambda {e = r} two formals body) e h =
      let k = keyed e (codes "lambda") (unspanned r) h in
      let o = two_as two k.rest k.rest_same in
      as_expression k.same (f.lambda o.are (formals_as formals o.first o.first_same) (expression_as body o.second o.second_same))
  expression_as (f.case_lambda {e = r} cases) e h = let k = keyed e (codes "case-lambda") (unspanned r) h in as_expression k.same (f.case_lambda (cases_as cases k.rest k.rest_same))
  expression_as (f.letrec {k = x} {e = r} word two inits body) e h =
      let k = keyed e x (unspanned r) h in
      let o = two_as two k.rest k.rest_same in
      as_expression k.same (f.letrec word o.are (inits_as inits o.first o.first_same) (expression_as body o.second o.second_same))
  expression_as (f.application {d = d} {e = r} i all) e h =
      let p = pair_is e (unspanned d) (unspanned r) h in
      as_expression p.same (f.application (expression_as i p.first p.first_same) (expressions_as all p.rest p.rest_same))

  expressions_as : {n : ℕ} {d : PlainDatum} {bs fs : Words} → AreExpressions n d bs fs → (e : PlainDatum) → unspanned e ≡ unspanned d → AreExpressions n e bs fs
  expressions_as f.no_more e h = subst (λ (y : PlainDatum). AreExpressions 0 y [] []) (atom_is e a.Nil h).same f.no_more
  expressions_as {n = m} {bs = bs} {fs = fs} (f.more {d = d} {e = r} i all) e h =
      let p = pair_is e (unspanned d) (unspanned r) h in
      subst (λ (y : PlainDatum). AreExpressions m y bs fs) p.same (f.more (expression_as i p.first p.first_same) (expressions_as all p.rest p.rest_same))

  inits_as : {d : PlainDatum} {xs bs fs : Words} → AreInits d xs bs fs → (e : PlainDatum) → unspanned e ≡ unspanned d → AreInits e xs bs fs
  inits_as f.no_init e h = subst (λ (y : PlainDatum). AreInits y [] [] []) (atom_is e a.Nil h).same f.no_init
  inits_as {xs = xs} {bs = bs} {fs = fs} (f.init {x = x} {e = v} {r = r} n one i others) e h =
      let p = pair_is e (pair None (symbol None x) (unspanned v)) (unspanned r) h in
      let k = keyed p.first x (unspanned v) p.first_same in
      let o = one_as one k.rest k.rest_same in
      subst (λ (y : PlainDatum). AreInits y xs bs fs) p.same
      (subst (λ (y : PlainDatum). AreInits (pair p.s y p.rest) xs bs fs) k.same (f.init n o.is (expression_as i o.inner o.same) (inits_as others p.rest p.rest_same)))

  cases_as : {d : PlainDatum} {bs fs : Words} → AreCases d bs fs → (e : PlainDatum) → unspanned e ≡ unspanned d → AreCases e bs fs
  cases_as f.no_case e h = subst (λ (y : PlainDatum). AreCases y [] []) (atom_is e a.Nil h).same f.no_case
  cases_as {bs = bs} {fs = fs} (f.case {c = c} {r = r} two formals body others) e h =
      let p = pair_is e (unspanned c) (unspanned r) h in
      let o = two_as two p.first p.first_same in
      subst (λ (y : PlainDatum). AreCases y bs fs) p.same (f.case o.are (formals_as formals o.first o.first_same) (expression_as body o.second o.second_same) (cases_as others p.rest p.rest_same))

pub line_as : {d : PlainDatum} {ds bs fs : Words} → IsLineForm d ds bs fs → (e : PlainDatum) → unspanned e ≡ unspanned d → IsLineForm e ds bs fs
line_as {ds = ds} {bs = bs} {fs = fs} (lines.definition {x = x} {e = r} n one i) e h =
    let k = keyed e (codes "define") (pair None (symbol None x) (unspanned r)) h in
    let v = keyed k.rest x (unspanned r) k.rest_same in
    let o = one_as one v.rest v.rest_same in
    subst (λ (y : PlainDatum). IsLineForm y ds bs fs) k.same
    (subst (λ (y : PlainDatum). IsLineForm (pair k.s (symbol k.t (codes "define")) y) ds bs fs) v.same (lines.definition n o.is (expression_as i o.inner o.same)))
line_as (lines.expression i) e h = lines.expression (expression_as i e h)
