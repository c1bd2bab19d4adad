-- How deep core code nests, where what a form writes round its parts may count too.
use Rattle.std.specs.Prelude.{ℕ, ◌+◌, max, Bool, true, false}
use Rattle.core_language.specs.Core.{PlainCore, quoted, variable, primitive, one_armed, two_armed, assignment, sequence, procedure, letrec, call, instance, matching}
use Rattle.core_language.specs.Core.{PlainCores, none, more, PlainInits, no_init, init, PlainCases, no_case, case, PlainClauses, no_clause, clause, fended}

-- how many levels stand between a form and its parts: round the value of a variable of `letrec`, and round a case of `case-lambda`
pub record Between : Type 0 where
  pub init : ℕ
  pub case : ℕ

-- none do where expressions are counted
abbrev pub in_code : Between
in_code = record { init = 0; case = 0 }

-- In text, the value `e` of `(letrec ((x e)) ..)` stands in two further lists, and the case `(x e)` of `(case-lambda (x e))` is one.
abbrev pub in_text : Between
in_text = record { init = 2; case = 1 }

-- the cases of a `lambda` have no list of their own
abbrev pub between_cases : Between → Bool → ℕ
between_cases between true = 0
between_cases between false = between.case

-- 1 and the height of the highest part; of a chain the height of its highest part, and 0 of none
module _ (between : Between) where
  abbrev mutual
    pub height_with : PlainCore → ℕ
    height_with (quoted d) = 1
    height_with (variable l) = 1
    height_with (primitive o) = 1
    height_with (one_armed c d) = 1 + max (height_with c) (height_with d)
    height_with (two_armed c d e) = 1 + max (height_with c) (max (height_with d) (height_with e))
    height_with (assignment l c) = 1 + height_with c
    height_with (sequence cs) = 1 + highest_with cs
    height_with (procedure n cs plain) = 1 + (between_cases between plain + highest_case_with cs)
    height_with (letrec o is c) = 1 + max (between.init + highest_init_with is) (height_with c)
    height_with (call c cs) = 1 + max (height_with c) (highest_with cs)
    height_with (instance t s) = 1
    height_with (matching c cs s) = 1 + max (height_with c) (highest_clause_with cs)

    pub highest_with : PlainCores → ℕ
    highest_with none = 0
    highest_with (more c cs) = max (height_with c) (highest_with cs)

    pub highest_init_with : PlainInits → ℕ
    highest_init_with no_init = 0
    highest_init_with (init l c is) = max (height_with c) (highest_init_with is)

    pub highest_case_with : PlainCases → ℕ
    highest_case_with no_case = 0
    highest_case_with (case f c cs) = max (height_with c) (highest_case_with cs)

    pub highest_clause_with : PlainClauses → ℕ
    highest_clause_with no_clause = 0
    highest_clause_with (clause p c cs) = max (height_with c) (highest_clause_with cs)
    highest_clause_with (fended p f c cs) = max (height_with f) (max (height_with c) (highest_clause_with cs))
