-- How high core code is that is built of parts which are low.
use Rattle.std.proofs.Common.{◌≡◌, ℕ, ◌+◌, ◌*◌, ◌≤◌, max, Bool, true, false, List, [], ◌∷◌, Option, None, Some, refl, sym, ◌∙◌, ap, arith}
use Rattle.base_data.specs.Datum.{PlainDatum}
use Rattle.base_data.specs.Elements.{Each}
use Rattle.base_data.specs.declared.name.CodeNo.{CodeNo}
use Rattle.base_data.specs.declared.name.Label.{Label}
use Rattle.base_data.specs.declared.span.Span.{Span}
use Rattle.core_language.specs.Core.{PlainCore, quoted, variable, primitive, one_armed, two_armed, assignment, sequence, procedure, letrec, call, instance, matching}
use Rattle.core_language.specs.Core.{PlainCores, none, more, PlainInits, no_init, init, PlainCases, no_case, case, PlainClauses, no_clause, clause, fended}
use Rattle.core_language.specs.Core.{cores}
use Rattle.core_language.specs.CoreView.{inits, cases, clause_on, clauses}
use Rattle.core_language.specs.Height.{height, highest, highest_init, highest_case, highest_clause}
use Rattle.core_language.specs.declared.code.Clause.{Clause}
use Rattle.core_language.specs.declared.code.Init.{Init}
use Rattle.core_language.specs.declared.code.Lambda.{Lambda}
use Rattle.expand_forms.specs.Body.{sequence_of}
use Rattle.law_expand.proofs.Nesting.{max-low, IsAlone}
use Rattle.law_nesting.specs.Heights.{Between, in_code, in_text, between_cases, height_with, highest_with, highest_init_with, highest_case_with, highest_clause_with}
use Rattle.law_nesting.specs.Nesting.{CodeHasItsHeight, IsAtMostText}

-- Without anything between.

nothing-more : (n : ℕ) → 0 + n ≡ n
nothing-more n = omega arith

mutual
  same-height : (c : PlainCore) → height_with in_code c ≡ height c
  same-height (quoted d) = refl
  same-height (variable l) = refl
  same-height (primitive o) = refl
  same-height (one_armed c d) = λ i. 1 + max (same-height c i) (same-height d i)
  same-height (two_armed c d e) = λ i. 1 + max (same-height c i) (max (same-height d i) (same-height e i))
  same-height (assignment l c) = λ i. 1 + same-height c i
  same-height (sequence cs) = λ i. 1 + same-highest cs i
  same-height (procedure n cs true) = λ i. 1 + (nothing-more (highest_case_with in_code cs) ∙ same-case cs) i
  same-height (procedure n cs false) = λ i. 1 + (nothing-more (highest_case_with in_code cs) ∙ same-case cs) i
  same-height (letrec o is c) = λ i. 1 + max ((nothing-more (highest_init_with in_code is) ∙ same-init is) i) (same-height c i)
  same-height (call c cs) = λ i. 1 + max (same-height c i) (same-highest cs i)
  same-height (instance t s) = refl
  same-height (matching c cs s) = λ i. 1 + max (same-height c i) (same-clause cs i)

  same-highest : (cs : PlainCores) → highest_with in_code cs ≡ highest cs
  same-highest none = refl
  same-highest (more c cs) = λ i. max (same-height c i) (same-highest cs i)

  same-init : (is : PlainInits) → highest_init_with in_code is ≡ highest_init is
  same-init no_init = refl
  same-init (init l c is) = λ i. max (same-height c i) (same-init is i)

  same-case : (cs : PlainCases) → highest_case_with in_code cs ≡ highest_case cs
  same-case no_case = refl
  same-case (case f c cs) = λ i. max (same-height c i) (same-case cs i)

  same-clause : (cs : PlainClauses) → highest_clause_with in_code cs ≡ highest_clause cs
  same-clause no_clause = refl
  same-clause (clause p c cs) = λ i. max (same-height c i) (same-clause cs i)
  same-clause (fended p f c cs) = λ i. max (same-height f i) (max (same-height c i) (same-clause cs i))

pub code-has-its-height : CodeHasItsHeight
code-has-its-height c = same-height c

pub text-at-most : IsAtMostText in_text
text-at-most = record { init = omega arith; case = omega arith }

-- Core code at a depth: each form may add four.

module _ (between : Between) (few : IsAtMostText between) where
  abbrev pub Low : ℕ → ℕ → PlainCore → Type 0
  Low depth limit c = height_with between c + 4 * depth ≤ limit

  abbrev pub LowCase : ℕ → ℕ → Lambda → Type 0
  LowCase depth limit c = Low depth limit c.body

  abbrev pub LowInit : ℕ → ℕ → Init → Type 0
  LowInit depth limit i = Low depth limit i.value

  abbrev pub LowFender : ℕ → ℕ → Option PlainCore → Type 0
  LowFender depth limit None = Unit {0}
  LowFender depth limit (Some c) = Low depth limit c

  pub record LowClause (depth limit : ℕ) (c : Clause) : Type 0 where
    pub fender : LowFender depth limit c.fender
    pub output : Low depth limit c.output

  -- at another depth, under another limit
  pub low-at : (d n e m : ℕ) (c : PlainCore) → n + 4 * e ≤ m + 4 * d → Low d n c → Low e m c
  low-at d n e m c le h = omega (arith, h, le)

  -- no core code is of height 0
  pub some-height : (c : PlainCore) → 1 ≤ height_with between c
  some-height (quoted d) = omega arith
  some-height (variable l) = omega arith
  some-height (primitive o) = omega arith
  some-height (one_armed c d) = omega arith
  some-height (two_armed c d e) = omega arith
  some-height (assignment l c) = omega arith
  some-height (sequence cs) = omega arith
  some-height (procedure n cs p) = omega arith
  some-height (letrec o is c) = omega arith
  some-height (call c cs) = omega arith
  some-height (instance t s) = omega arith
  some-height (matching c cs s) = omega arith

  pub alone-low : (depth limit : ℕ) (c : PlainCore) → IsAlone c → 1 + 4 * depth ≤ limit → Low depth limit c
  alone-low depth limit (quoted d) h le = le
  alone-low depth limit (variable l) h le = le
  alone-low depth limit (primitive o) h le = le
  alone-low depth limit (one_armed c d) h le = elim h [ ]
  alone-low depth limit (two_armed c d e) h le = elim h [ ]
  alone-low depth limit (assignment l c) h le = elim h [ ]
  alone-low depth limit (sequence cs) h le = elim h [ ]
  alone-low depth limit (procedure n cs p) h le = elim h [ ]
  alone-low depth limit (letrec o is c) h le = elim h [ ]
  alone-low depth limit (call c cs) h le = elim h [ ]
  alone-low depth limit (instance t s) h le = le
  alone-low depth limit (matching c cs s) h le = elim h [ ]

  module _ (depth : ℕ) where
    module _ (n m : ℕ) (up : 1 + n ≤ m) where
      pub one_armed-low : (c d : PlainCore) → Low depth n c → Low depth n d → Low depth m (one_armed c d)
      one_armed-low c d h k = let low = max-low (height_with between c) (height_with between d) (4 * depth) n h k in omega (arith, low, up)

      pub two_armed-low : (c d e : PlainCore) → Low depth n c → Low depth n d → Low depth n e → Low depth m (two_armed c d e)
      two_armed-low c d e h k j =
          let low = max-low (height_with between c) (max (height_with between d) (height_with between e)) (4 * depth) n h (max-low (height_with between d) (height_with between e) (4 * depth) n k j) in
          omega (arith, low, up)

      pub assignment-low : (l : Label) (c : PlainCore) → Low depth n c → Low depth m (assignment l c)
      assignment-low l c h = omega (arith, h, up)

    -- the parts of a chain
    all-low : (n : ℕ) (cs : List PlainCore) → 4 * depth ≤ n → Each (Low depth n) cs → highest_with between (cores cs) + 4 * depth ≤ n
    all-low n [] le h = omega (arith, le)
    all-low n (c ∷ cs) le h = max-low (height_with between c) (highest_with between (cores cs)) (4 * depth) n h.0 (all-low n cs le h.1)

    cases-low : (n : ℕ) (xs : List Lambda) → 4 * depth ≤ n → Each (LowCase depth n) xs → highest_case_with between (cases xs) + 4 * depth ≤ n
    cases-low n [] le h = omega (arith, le)
    cases-low n (x ∷ xs) le h = max-low (height_with between x.body) (highest_case_with between (cases xs)) (4 * depth) n h.0 (cases-low n xs le h.1)

    inits-low : (n : ℕ) (is : List Init) → 4 * depth ≤ n → Each (LowInit depth n) is → highest_init_with between (inits is) + 4 * depth ≤ n
    inits-low n [] le h = omega (arith, le)
    inits-low n (i ∷ is) le h = max-low (height_with between i.value) (highest_init_with between (inits is)) (4 * depth) n h.0 (inits-low n is le h.1)

    clauses-low : (n : ℕ) (xs : List Clause) → 4 * depth ≤ n → Each (LowClause depth n) xs → highest_clause_with between (clauses xs) + 4 * depth ≤ n
    clauses-low n [] le h = omega (arith, le)
    clauses-low n (x ∷ xs) le h = by x.fender h.0.fender (clauses-low n xs le h.1)
      where
        by : (o : Option PlainCore) → LowFender depth n o → highest_clause_with between (clauses xs) + 4 * depth ≤ n → highest_clause_with between (clause_on x.pattern o x.output (clauses xs)) + 4 * depth ≤ n
        by None f k = max-low (height_with between x.output) (highest_clause_with between (clauses xs)) (4 * depth) n h.0.output k
        by (Some c) f k =
            max-low (height_with between c) (max (height_with between x.output) (highest_clause_with between (clauses xs))) (4 * depth) n f
            (max-low (height_with between x.output) (highest_clause_with between (clauses xs)) (4 * depth) n h.0.output k)

    module _ (n m : ℕ) (up : 1 + n ≤ m) (le : 4 * depth ≤ n) where
      pub sequence-low : (cs : List PlainCore) → Each (Low depth n) cs → Low depth m (sequence (cores cs))
      sequence-low cs h = let low = all-low n cs le h in omega (arith, low, up)

      pub in-sequence-low : (cs : List PlainCore) → Each (Low depth n) cs → Low depth m (sequence_of cs)
      in-sequence-low [] h = sequence-low [] h
      in-sequence-low (c ∷ []) h = low-at depth n depth m c (omega (arith, up)) h.0
      in-sequence-low (c ∷ (d ∷ cs)) h = sequence-low (c ∷ (d ∷ cs)) h

      pub call-low : (c : PlainCore) (cs : List PlainCore) → Low depth n c → Each (Low depth n) cs → Low depth m (call c (cores cs))
      call-low c cs h k = let low = max-low (height_with between c) (highest_with between (cores cs)) (4 * depth) n h (all-low n cs le k) in omega (arith, low, up)

      pub lambda-low : (k : CodeNo) (xs : List Lambda) → Each (LowCase depth n) xs → Low depth m (procedure k (cases xs) true)
      lambda-low k xs h = let low = cases-low n xs le h in omega (arith, low, up)

      pub matching-low : (c : PlainCore) (xs : List Clause) (s : Span) → Low depth n c → Each (LowClause depth n) xs → Low depth m (matching c (clauses xs) s)
      matching-low c xs s h k = let low = max-low (height_with between c) (highest_clause_with between (clauses xs)) (4 * depth) n h (clauses-low n xs le k) in omega (arith, low, up)

    -- a list stands round each case
    pub case_lambda-low : (n m : ℕ) → 2 + n ≤ m → 4 * depth ≤ n → (k : CodeNo) (xs : List Lambda) → Each (LowCase depth n) xs → Low depth m (procedure k (cases xs) false)
    case_lambda-low n m up le k xs h = let low = cases-low n xs le h in let one = few.case in omega (arith, low, up, one)

    -- and two lists round each variable's value
    pub letrec-low : (n o m : ℕ) → 3 + n ≤ m → 1 + o ≤ m → 4 * depth ≤ n → (star : Bool) (is : List Init) (c : PlainCore) → Each (LowInit depth n) is → Low depth o c → Low depth m (letrec star (inits is) c)
    letrec-low n o m up next le star is c h k =
        let inner = inits-low n is le h in
        let two = few.init in
        let first : (between.init + highest_init_with between (inits is)) + 4 * depth + 1 ≤ m = omega (arith, inner, two, up) in
        let high = max-low (between.init + highest_init_with between (inits is)) (height_with between c) (4 * depth + 1) m (omega (arith, first)) (omega (arith, k, next)) in
        omega (arith, high)
