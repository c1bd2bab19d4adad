-- What core code names, in the order of its places: the variables that it refers to or assigns, and the pattern variables of its templates.
use Rattle.std.specs.Prelude.{List, [], ◌∷◌, ◌++◌}
use Rattle.base_data.specs.declared.name.Label.{Label}
use Rattle.core_language.specs.Core as core
use Rattle.core_language.specs.Core.{PlainCore, PlainCores, PlainInits, PlainCases, PlainClauses}
use Rattle.core_language.specs.Template as template
use Rattle.core_language.specs.Template.{PlainTemplate, PlainItems}

pub data Naming : Type 0 where
  names_variable : Label → Naming
  names_pattern_variable : Label → Naming

abbrev mutual
  pub template_namings : PlainTemplate → List Naming
  template_namings (template.variable l d) = names_pattern_variable l ∷ []
  template_namings (template.constant t) = []
  template_namings (template.list is t) = item_namings is ++ template_namings t
  template_namings (template.vector is) = item_namings is

  pub item_namings : PlainItems → List Naming
  item_namings template.none = []
  item_namings (template.more t e is) = template_namings t ++ item_namings is

abbrev mutual
  pub namings : PlainCore → List Naming
  namings (core.quoted d) = []
  namings (core.variable l) = names_variable l ∷ []
  namings (core.primitive o) = []
  namings (core.one_armed c d) = namings c ++ namings d
  namings (core.two_armed c d e) = namings c ++ (namings d ++ namings e)
  namings (core.assignment l c) = names_variable l ∷ namings c
  namings (core.sequence cs) = all_namings cs
  namings (core.procedure n cs p) = case_namings cs
  namings (core.letrec o is c) = init_namings is ++ namings c
  namings (core.call c cs) = namings c ++ all_namings cs
  namings (core.instance t s) = template_namings t
  namings (core.matching c cs s) = namings c ++ clause_namings cs

  pub all_namings : PlainCores → List Naming
  all_namings core.none = []
  all_namings (core.more c cs) = namings c ++ all_namings cs

  pub init_namings : PlainInits → List Naming
  init_namings core.no_init = []
  init_namings (core.init l c is) = namings c ++ init_namings is

  pub case_namings : PlainCases → List Naming
  case_namings core.no_case = []
  case_namings (core.case f c cs) = namings c ++ case_namings cs

  pub clause_namings : PlainClauses → List Naming
  clause_namings core.no_clause = []
  clause_namings (core.clause p c cs) = namings c ++ clause_namings cs
  clause_namings (core.fended p f c cs) = namings f ++ (namings c ++ clause_namings cs)

-- the variables among them
abbrev pub variables_in : List Naming → List Label
variables_in [] = []
variables_in (names_variable l ∷ ns) = l ∷ variables_in ns
variables_in (names_pattern_variable l ∷ ns) = variables_in ns
