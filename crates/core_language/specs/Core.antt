-- Core code as plain data: a program after expansion.
use Rattle.std.specs.Prelude.{ℕ, ◌+◌, suc, Bool, List, [], ◌∷◌}
use Rattle.base_data.specs.Datum.{PlainDatum}
use Rattle.base_data.specs.declared.name.Label.{Label}
use Rattle.base_data.specs.declared.name.CodeNo.{CodeNo}
use Rattle.base_data.specs.declared.op.Op.{Op}
use Rattle.base_data.specs.declared.span.Span.{Span}
use Rattle.core_language.specs.Pattern.{PlainPattern}
use Rattle.core_language.specs.Template.{PlainTemplate}
use Rattle.core_language.specs.declared.formals.Formals.{Formals}

mutual
  pub data PlainCore : Type 0 where
    quoted : PlainDatum → PlainCore
    variable : Label → PlainCore
    primitive : Op → PlainCore
    -- an `if` without and with what stands for the false value
    one_armed : PlainCore → PlainCore → PlainCore
    two_armed : PlainCore → PlainCore → PlainCore → PlainCore
    assignment : Label → PlainCore → PlainCore
    sequence : PlainCores → PlainCore
    -- `lambda` where it is plain, else `case-lambda`
    procedure : CodeNo → PlainCases → Bool → PlainCore
    -- `letrec*` where it is in order, else `letrec`
    letrec : Bool → PlainInits → PlainCore → PlainCore
    call : PlainCore → PlainCores → PlainCore
    instance : PlainTemplate → Span → PlainCore
    matching : PlainCore → PlainClauses → Span → PlainCore

  pub data PlainCores : Type 0 where
    none : PlainCores
    more : PlainCore → PlainCores → PlainCores

  -- each label with the expression of its value
  pub data PlainInits : Type 0 where
    no_init : PlainInits
    init : Label → PlainCore → PlainInits → PlainInits

  pub data PlainCases : Type 0 where
    no_case : PlainCases
    case : Formals → PlainCore → PlainCases → PlainCases

  -- without and with a fender before the output
  pub data PlainClauses : Type 0 where
    no_clause : PlainClauses
    clause : PlainPattern → PlainCore → PlainClauses → PlainClauses
    fended : PlainPattern → PlainCore → PlainCore → PlainClauses → PlainClauses

-- the code of a procedure: its number, its cases, and whether it is a `lambda`
pub record PlainCode : Type 0 where
  pub number : CodeNo
  pub cases : PlainCases
  pub plain : Bool

abbrev pub procedure_of : PlainCode → PlainCore
procedure_of c = procedure c.number c.cases c.plain

abbrev pub cores : List PlainCore → PlainCores
cores [] = none
cores (c ∷ cs) = more c (cores cs)

-- more than any part's
abbrev mutual
  pub core_size : PlainCore → ℕ
  core_size (quoted d) = 1
  core_size (variable l) = 1
  core_size (primitive o) = 1
  core_size (one_armed c d) = suc (core_size c + core_size d)
  core_size (two_armed c d e) = suc (core_size c + (core_size d + core_size e))
  core_size (assignment l c) = suc (core_size c)
  core_size (sequence cs) = suc (cores_size cs)
  core_size (procedure n cs p) = suc (suc (cases_size cs))
  core_size (letrec o is c) = suc (inits_size is + core_size c)
  core_size (call c cs) = suc (core_size c + cores_size cs)
  core_size (instance t s) = 1
  core_size (matching c cs s) = suc (core_size c + clauses_size cs)

  pub cores_size : PlainCores → ℕ
  cores_size none = 1
  cores_size (more c cs) = suc (core_size c + cores_size cs)

  pub inits_size : PlainInits → ℕ
  inits_size no_init = 1
  inits_size (init l c is) = suc (core_size c + inits_size is)

  pub cases_size : PlainCases → ℕ
  cases_size no_case = 1
  cases_size (case f c cs) = suc (core_size c + cases_size cs)

  pub clauses_size : PlainClauses → ℕ
  clauses_size no_clause = 1
  clauses_size (clause p c cs) = suc (core_size c + clauses_size cs)
  clauses_size (fended p f c cs) = suc (core_size f + (core_size c + clauses_size cs))

abbrev pub code_size : PlainCode → ℕ
code_size c = suc (cases_size c.cases)
