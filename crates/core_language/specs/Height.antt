-- The height of core code: 1 and the greatest number of core expressions round one in it.
use Rattle.std.specs.Prelude.{ℕ, ◌+◌, max}
use Rattle.core_language.specs.Core.{PlainCore, quoted, variable, primitive, one_armed, two_armed, assignment, sequence, procedure, letrec, call, instance, matching}
use Rattle.core_language.specs.Core.{PlainCores, none, more, PlainInits, no_init, init, PlainCases, no_case, case, PlainClauses, no_clause, clause, fended}

-- of a chain the height of its highest part, and 0 of none
abbrev mutual
  pub height : PlainCore → ℕ
  height (quoted d) = 1
  height (variable l) = 1
  height (primitive o) = 1
  height (one_armed c d) = 1 + max (height c) (height d)
  height (two_armed c d e) = 1 + max (height c) (max (height d) (height e))
  height (assignment l c) = 1 + height c
  height (sequence cs) = 1 + highest cs
  height (procedure n cs p) = 1 + highest_case cs
  height (letrec o is c) = 1 + max (highest_init is) (height c)
  height (call c cs) = 1 + max (height c) (highest cs)
  height (instance t s) = 1
  height (matching c cs s) = 1 + max (height c) (highest_clause cs)

  pub highest : PlainCores → ℕ
  highest none = 0
  highest (more c cs) = max (height c) (highest cs)

  pub highest_init : PlainInits → ℕ
  highest_init no_init = 0
  highest_init (init l c is) = max (height c) (highest_init is)

  pub highest_case : PlainCases → ℕ
  highest_case no_case = 0
  highest_case (case f c cs) = max (height c) (highest_case cs)

  pub highest_clause : PlainClauses → ℕ
  highest_clause no_clause = 0
  highest_clause (clause p c cs) = max (height c) (highest_clause cs)
  highest_clause (fended p f c cs) = max (height f) (max (height c) (highest_clause cs))
