-- The labels that core code mentions, and those that it binds.
use Rattle.std.specs.Prelude.{List, [], ◌∷◌, ◌++◌, Option, None, Some}
use Rattle.base_data.specs.declared.name.Label.{Label}
use Rattle.core_language.specs.declared.formals.Formals.{Formals}
use Rattle.core_language.specs.Labels.{with_labels, without}
use Rattle.core_language.specs.Pattern.{PlainPattern, any, variable, literal, atom, list, vector, PlainPatterns, none, more, dots}
use Rattle.core_language.specs.Core as core
use Rattle.core_language.specs.Core.{PlainCore, PlainCores, PlainInits, PlainCases, PlainClauses}

abbrev pub rest_labels : Option Label → List Label
rest_labels None = []
rest_labels (Some l) = l ∷ []

abbrev pub formals_labels : Formals → List Label
formals_labels f = f.required ++ rest_labels f.rest

-- the pattern variables of a pattern, from left to right
abbrev mutual
  pub variables : PlainPattern → List Label
  variables any = []
  variables (variable l) = l ∷ []
  variables (literal t) = []
  variables (atom a) = []
  variables (list ps t) = all_variables ps ++ variables t
  variables (vector ps) = all_variables ps

  pub all_variables : PlainPatterns → List Label
  all_variables none = []
  all_variables (more p ps) = variables p ++ all_variables ps
  all_variables (dots p ps) = variables p ++ all_variables ps

-- the labels that a binder in it binds: formals, the variables of a letrec, and pattern variables
abbrev mutual
  pub binders : PlainCore → List Label
  binders (core.quoted d) = []
  binders (core.variable l) = []
  binders (core.primitive o) = []
  binders (core.one_armed c d) = binders c ++ binders d
  binders (core.two_armed c d e) = binders c ++ (binders d ++ binders e)
  binders (core.assignment l c) = binders c
  binders (core.sequence cs) = all_binders cs
  binders (core.procedure n cs p) = case_binders cs
  binders (core.letrec o is c) = init_binders is ++ binders c
  binders (core.call c cs) = binders c ++ all_binders cs
  binders (core.instance t s) = []
  binders (core.matching c cs s) = binders c ++ clause_binders cs

  pub all_binders : PlainCores → List Label
  all_binders core.none = []
  all_binders (core.more c cs) = binders c ++ all_binders cs

  pub init_binders : PlainInits → List Label
  init_binders core.no_init = []
  init_binders (core.init l c is) = l ∷ (binders c ++ init_binders is)

  pub case_binders : PlainCases → List Label
  case_binders core.no_case = []
  case_binders (core.case f c cs) = formals_labels f ++ (binders c ++ case_binders cs)

  pub clause_binders : PlainClauses → List Label
  clause_binders core.no_clause = []
  clause_binders (core.clause p c cs) = variables p ++ (binders c ++ clause_binders cs)
  clause_binders (core.fended p f c cs) = variables p ++ (binders f ++ (binders c ++ clause_binders cs))

-- the labels that it references or assigns, in the order of their places
abbrev mutual
  pub mentions : PlainCore → List Label
  mentions (core.quoted d) = []
  mentions (core.variable l) = l ∷ []
  mentions (core.primitive o) = []
  mentions (core.one_armed c d) = mentions c ++ mentions d
  mentions (core.two_armed c d e) = mentions c ++ (mentions d ++ mentions e)
  mentions (core.assignment l c) = l ∷ mentions c
  mentions (core.sequence cs) = all_mentions cs
  mentions (core.procedure n cs p) = case_mentions cs
  mentions (core.letrec o is c) = init_mentions is ++ mentions c
  mentions (core.call c cs) = mentions c ++ all_mentions cs
  mentions (core.instance t s) = []
  mentions (core.matching c cs s) = mentions c ++ clause_mentions cs

  pub all_mentions : PlainCores → List Label
  all_mentions core.none = []
  all_mentions (core.more c cs) = mentions c ++ all_mentions cs

  pub init_mentions : PlainInits → List Label
  init_mentions core.no_init = []
  init_mentions (core.init l c is) = mentions c ++ init_mentions is

  pub case_mentions : PlainCases → List Label
  case_mentions core.no_case = []
  case_mentions (core.case f c cs) = mentions c ++ case_mentions cs

  pub clause_mentions : PlainClauses → List Label
  clause_mentions core.no_clause = []
  clause_mentions (core.clause p c cs) = mentions c ++ clause_mentions cs
  clause_mentions (core.fended p f c cs) = mentions f ++ (mentions c ++ clause_mentions cs)

-- the labels that it references or assigns and that no binder in it binds, each once, in the order of their first places
abbrev pub references : PlainCore → List Label
references c = without (binders c) (with_labels [] (mentions c))
