-- The core expressions in core code, and what stands in them.
use Rattle.std.specs.Prelude.{ℕ, suc, List, [], ◌∷◌, ◌++◌}
use Rattle.std.specs.List.{flat_map}
use Rattle.base_data.specs.declared.name.Label.{Label}
use Rattle.base_data.specs.declared.name.CodeNo.{CodeNo}
use Rattle.stx_tree.specs.Tree.{Tree}
use Rattle.core_language.specs.Core.{PlainCore, quoted, variable, primitive, one_armed, two_armed, assignment, sequence, procedure, letrec, call, instance, matching}
use Rattle.core_language.specs.Core.{PlainCores, none, more, PlainInits, no_init, init, PlainCases, no_case, case, PlainClauses, no_clause, clause, fended}
use Rattle.core_language.specs.Pattern as pattern
use Rattle.core_language.specs.Pattern.{PlainPattern, PlainPatterns}
use Rattle.core_language.specs.References.{variables, formals_labels}

-- the expression itself, and all that stand in it
abbrev mutual
  pub parts : PlainCore → List PlainCore
  parts (quoted d) = quoted d ∷ []
  parts (variable l) = variable l ∷ []
  parts (primitive o) = primitive o ∷ []
  parts (one_armed c d) = one_armed c d ∷ (parts c ++ parts d)
  parts (two_armed c d e) = two_armed c d e ∷ (parts c ++ (parts d ++ parts e))
  parts (assignment l c) = assignment l c ∷ parts c
  parts (sequence cs) = sequence cs ∷ all_parts cs
  parts (procedure n cs p) = procedure n cs p ∷ case_parts cs
  parts (letrec o is c) = letrec o is c ∷ (init_parts is ++ parts c)
  parts (call c cs) = call c cs ∷ (parts c ++ all_parts cs)
  parts (instance t s) = instance t s ∷ []
  parts (matching c cs s) = matching c cs s ∷ (parts c ++ clause_parts cs)

  pub all_parts : PlainCores → List PlainCore
  all_parts none = []
  all_parts (more c cs) = parts c ++ all_parts cs

  pub init_parts : PlainInits → List PlainCore
  init_parts no_init = []
  init_parts (init l c is) = parts c ++ init_parts is

  pub case_parts : PlainCases → List PlainCore
  case_parts no_case = []
  case_parts (case f c cs) = parts c ++ case_parts cs

  pub clause_parts : PlainClauses → List PlainCore
  clause_parts no_clause = []
  clause_parts (clause p c cs) = parts c ++ clause_parts cs
  clause_parts (fended p f c cs) = parts f ++ (parts c ++ clause_parts cs)

abbrev pub core_count : PlainCores → ℕ
core_count none = 0
core_count (more c cs) = suc (core_count cs)

abbrev pub case_count : PlainCases → ℕ
case_count no_case = 0
case_count (case f c cs) = suc (case_count cs)

abbrev pub init_labels : PlainInits → List Label
init_labels no_init = []
init_labels (init l c is) = l ∷ init_labels is

abbrev pub case_labels : PlainCases → List Label
case_labels no_case = []
case_labels (case f c cs) = formals_labels f ++ case_labels cs

abbrev pub clause_patterns : PlainClauses → List PlainPattern
clause_patterns no_clause = []
clause_patterns (clause p c cs) = p ∷ clause_patterns cs
clause_patterns (fended p f c cs) = p ∷ clause_patterns cs

-- the literals of a pattern, from left to right
abbrev mutual
  pub literals : PlainPattern → List Tree
  literals pattern.any = []
  literals (pattern.variable l) = []
  literals (pattern.literal t) = t ∷ []
  literals (pattern.atom a) = []
  literals (pattern.list ps t) = all_literals ps ++ literals t
  literals (pattern.vector ps) = all_literals ps

  pub all_literals : PlainPatterns → List Tree
  all_literals pattern.none = []
  all_literals (pattern.more p ps) = literals p ++ all_literals ps
  all_literals (pattern.dots p ps) = literals p ++ all_literals ps

-- of an expression alone: its op, the number of its code, the variables and the pattern variables that it binds
abbrev pub own_op : PlainCore → List ℕ
own_op (primitive o) = o.0 ∷ []
own_op _ = []

abbrev pub own_number : PlainCore → List CodeNo
own_number (procedure n cs p) = n ∷ []
own_number _ = []

abbrev pub own_variables : PlainCore → List Label
own_variables (procedure n cs p) = case_labels cs
own_variables (letrec o is c) = init_labels is
own_variables _ = []

abbrev pub own_patterns : PlainCore → List PlainPattern
own_patterns (matching c cs s) = clause_patterns cs
own_patterns _ = []

-- and of all expressions in core code
abbrev pub ops : PlainCore → List ℕ
ops c = flat_map own_op (parts c)

abbrev pub code_numbers : PlainCore → List CodeNo
code_numbers c = flat_map own_number (parts c)

-- the variables that it binds: formals, and those of a letrec
abbrev pub bound_variables : PlainCore → List Label
bound_variables c = flat_map own_variables (parts c)

abbrev pub patterns : PlainCore → List PlainPattern
patterns c = flat_map own_patterns (parts c)

abbrev pub pattern_variables : PlainCore → List Label
pattern_variables c = flat_map variables (patterns c)
