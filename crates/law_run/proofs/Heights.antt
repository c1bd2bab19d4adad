-- The datum of a tree nests no deeper than the tree is high.
use Rattle.std.proofs.Common.{◌≡◌, ℕ, zero, suc, ◌+◌, ◌≤◌, max, List, [], ◌∷◌, ◌++◌, sym, subst, arith}
use Rattle.std.proofs.Math.Nat.{max-le, le-max_left, le-max_right}
use Rattle.std.specs.List.{flat_map}
use Rattle.base_data.proofs.ElementLemmas.{each-append}
use Rattle.base_data.specs.Datum.{PlainDatum}
use Rattle.base_data.specs.declared.atom.Atom.TheVariants as a
use Rattle.core_language.specs.Core.{PlainCore, quoted, variable, primitive, one_armed, two_armed, assignment, sequence, procedure, letrec, call, instance, matching}
use Rattle.core_language.specs.Core.{PlainCores, none, more, PlainInits, no_init, init, PlainCases, no_case, case, PlainClauses, no_clause, clause, fended}
use Rattle.core_language.specs.declared.record.Line.{Line}
use Rattle.core_language.specs.declared.record.Line.TheVariants as line
use Rattle.law_core_grammar.specs.Spellable.{CanBeRead, own_constant, constants}
use Rattle.law_core.specs.Parts.{parts, all_parts, init_parts, case_parts, clause_parts}
use Rattle.law_core.specs.Records.{line_core}
use Rattle.base_data.specs.Elements as elements
use Rattle.law_limits.specs.Holds.{DatumHolds, CoreHolds, CoresHold, InitsHold, CasesHold, ClausesHold, LinesHold}
use Rattle.law_nesting.specs.Texts.{nested, nested_behind}
use Rattle.law_round.specs.Readable.{IsReadable, IsRest, AreElements}
use Rattle.stx_tree.specs.Leaves.{strip}
use Rattle.stx_tree.specs.Measures.{joint, height, max_height, Fits}
use Rattle.stx_tree.specs.Tree.{Tree, atom, leaf, pair, vector}

-- Of trees whose data can be read: a vector has its elements as a list.

both : (x y m : ℕ) → x + 1 ≤ m → y + 1 ≤ m → 1 + max x y ≤ m
both x y zero h k = absurd (omega (arith, h))
both x y (suc m) h k =
    let x-le : x ≤ m = omega (arith, h) in
    let y-le : y ≤ m = omega (arith, k) in
    let le = max-le x-le y-le in
    omega (arith, le)

in-pair : (t u : Tree) → nested (strip t) ≤ height t → 1 + nested_behind (strip u) ≤ height u + joint u → 1 + max (nested (strip t)) (nested_behind (strip u)) ≤ max (height t + 1) (height u + joint u)
in-pair t u h k =
    let first = le-max_left (height t + 1) (height u + joint u) in
    let rest = le-max_right (height t + 1) (height u + joint u) in
    let most = max (height t + 1) (height u + joint u) in
    let here : nested (strip t) + 1 ≤ most = omega (arith, h, first) in
    let behind : nested_behind (strip u) + 1 ≤ most = omega (arith, k, rest) in
    both (nested (strip t)) (nested_behind (strip u)) most here behind

mutual
  low : (n : ℕ) (t : Tree) → IsReadable n (strip t) → nested (strip t) ≤ height t
  low n (atom s a.Nil) h = omega arith
  low n (atom s (a.Bool b)) h = omega arith
  low n (atom s (a.Int z)) h = omega arith
  low n (atom s (a.Spelt text)) h = omega arith
  low n (atom s (a.Char c)) h = omega arith
  low n (atom s (a.Str text)) h = omega arith
  low n (atom s (a.Bytes bytes)) h = omega arith
  low n (leaf s x c) h = omega arith
  low zero (pair s t u) h = absurd (h)
  low (suc n) (pair s t u) h = in-pair t u (low n t h.0) (low-rest n u h.1)
  low zero (vector s t) h = absurd (h)
  low (suc n) (vector s t) h = low-elements n t h

  -- the rest of a list
  low-rest : (n : ℕ) (t : Tree) → IsRest n (strip t) → 1 + nested_behind (strip t) ≤ height t + joint t
  low-rest n (atom s x) h = omega arith
  low-rest n (leaf s x c) h = omega arith
  low-rest n (pair s t u) h = let le = in-pair t u (low n t h.0) (low-rest n u h.1) in omega (arith, le)
  low-rest zero (vector s t) h = absurd (h)
  low-rest (suc n) (vector s t) h = let le = low-elements n t h in omega (arith, le)

  low-elements : (n : ℕ) (t : Tree) → AreElements n (strip t) → 1 + nested_behind (strip t) ≤ height t
  low-elements n (atom s a.Nil) h = omega arith
  low-elements n (atom s (a.Bool b)) h = absurd (h)
  low-elements n (atom s (a.Int z)) h = absurd (h)
  low-elements n (atom s (a.Spelt text)) h = absurd (h)
  low-elements n (atom s (a.Char c)) h = absurd (h)
  low-elements n (atom s (a.Str text)) h = absurd (h)
  low-elements n (atom s (a.Bytes bytes)) h = absurd (h)
  low-elements n (leaf s x c) h = absurd (h)
  low-elements n (pair s t u) h = let le = low-elements n u h.1 in in-pair t u (low n t h.0) (omega (arith, le))
  low-elements n (vector s t) h = absurd (h)

pub datum-low : (d : PlainDatum) → CanBeRead d → DatumHolds Fits d → nested d ≤ max_height
datum-low d read (t, h) = by d read h.1
  where
    by : (d : PlainDatum) → CanBeRead d → strip t ≡ d → nested d ≤ max_height
    by d read e =
        let can = subst (λ (g : PlainDatum). CanBeRead g) (sym e) read in
        let le = low can.0 t can.1 in
        let high = h.0.0 in
        let small : nested (strip t) ≤ max_height = omega (arith, le, high) in
        subst (λ (g : PlainDatum). nested g ≤ max_height) e small

-- Constants of core code.

abbrev OwnHolds : PlainCore → Type 0
OwnHolds c = elements.Each (DatumHolds Fits) (own_constant c)

abbrev All : List PlainCore → Type 0
All cs = elements.Each OwnHolds cs

each-both : (xs ys : List PlainCore) → All xs → All ys → All (xs ++ ys)
each-both xs ys h k = each-append OwnHolds xs ys h k

mutual
  parts-hold : (c : PlainCore) → CoreHolds Fits c → All (parts c)
  parts-hold (quoted d) h = ((h, tt), tt)
  parts-hold (variable l) h = (tt, tt)
  parts-hold (primitive o) h = (tt, tt)
  parts-hold (one_armed c d) h = (tt, each-both (parts c) (parts d) (parts-hold c h.0) (parts-hold d h.1))
  parts-hold (two_armed c d e) h = (tt, each-both (parts c) (parts d ++ parts e) (parts-hold c h.0) (each-both (parts d) (parts e) (parts-hold d h.1.0) (parts-hold e h.1.1)))
  parts-hold (assignment l c) h = (tt, parts-hold c h)
  parts-hold (sequence cs) h = (tt, all-hold cs h)
  parts-hold (procedure n cs p) h = (tt, cases-hold cs h)
  parts-hold (letrec o is c) h = (tt, each-both (init_parts is) (parts c) (inits-hold is h.0) (parts-hold c h.1))
  parts-hold (call c cs) h = (tt, each-both (parts c) (all_parts cs) (parts-hold c h.0) (all-hold cs h.1))
  parts-hold (instance t s) h = (tt, tt)
  parts-hold (matching c cs s) h = (tt, each-both (parts c) (clause_parts cs) (parts-hold c h.0) (clauses-hold cs h.1))

  all-hold : (cs : PlainCores) → CoresHold Fits cs → All (all_parts cs)
  all-hold none h = tt
  all-hold (more c cs) h = each-both (parts c) (all_parts cs) (parts-hold c h.0) (all-hold cs h.1)

  inits-hold : (is : PlainInits) → InitsHold Fits is → All (init_parts is)
  inits-hold no_init h = tt
  inits-hold (init l c is) h = each-both (parts c) (init_parts is) (parts-hold c h.0) (inits-hold is h.1)

  cases-hold : (cs : PlainCases) → CasesHold Fits cs → All (case_parts cs)
  cases-hold no_case h = tt
  cases-hold (case f c cs) h = each-both (parts c) (case_parts cs) (parts-hold c h.0) (cases-hold cs h.1)

  clauses-hold : (cs : PlainClauses) → ClausesHold Fits cs → All (clause_parts cs)
  clauses-hold no_clause h = tt
  clauses-hold (clause p c cs) h = each-both (parts c) (clause_parts cs) (parts-hold c h.0) (clauses-hold cs h.1)
  clauses-hold (fended p f c cs) h = each-both (parts f) (parts c ++ clause_parts cs) (parts-hold f h.0) (each-both (parts c) (clause_parts cs) (parts-hold c h.1.0) (clauses-hold cs h.1.1))

own-constants : (cs : List PlainCore) → All cs → elements.Each (DatumHolds Fits) (flat_map own_constant cs)
own-constants [] h = tt
own-constants (c ∷ cs) h = each-append (DatumHolds Fits) (own_constant c) (flat_map own_constant cs) h.0 (own-constants cs h.1)

abbrev pub ConstantsFit : Line → Type 0
ConstantsFit l = elements.Each (DatumHolds Fits) (constants (line_core l))

pub lines-fit : (ls : List Line) → LinesHold Fits ls → elements.Each ConstantsFit ls
lines-fit [] h = tt
lines-fit (line.Define l c ∷ ls) h = (own-constants (parts c) (parts-hold c h.0), lines-fit ls h.1)
lines-fit (line.Expr c ∷ ls) h = (own-constants (parts c) (parts-hold c h.0), lines-fit ls h.1)

pub all-low : (ds : List PlainDatum) → elements.Each CanBeRead ds → elements.Each (DatumHolds Fits) ds → elements.Each (λ d. nested d ≤ max_height) ds
all-low [] h k = tt
all-low (d ∷ ds) h k = (datum-low d h.0 k.0, all-low ds h.1 k.1)
