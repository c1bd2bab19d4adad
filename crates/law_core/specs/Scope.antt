-- Closed core code: each label in it lies in the scope of its binder, or is one that is given.
use Rattle.std.specs.Prelude.{Bool, true, ◌&&◌, List, [], ◌∷◌, ◌++◌}
use Rattle.base_data.specs.Elements.{Each, Among}
use Rattle.base_data.specs.declared.name.Label.{Label}
use Rattle.core_language.specs.Core.{PlainCore, quoted, variable, primitive, one_armed, two_armed, assignment, sequence, procedure, letrec, call, instance, matching}
use Rattle.core_language.specs.Core.{PlainCores, none, more, PlainInits, no_init, init, PlainCases, no_case, case, PlainClauses, no_clause, clause, fended}
use Rattle.core_language.specs.Labels.{same_label}
use Rattle.core_language.specs.References.{variables, formals_labels}
use Rattle.core_language.specs.Template as template
use Rattle.core_language.specs.Template.{PlainTemplate, PlainItems}
use Rattle.law_core.specs.Words.{each, among}
use Rattle.law_core.specs.Parts.{init_labels}

-- the variables of a template, from left to right
abbrev mutual
  pub template_labels : PlainTemplate → List Label
  template_labels (template.variable l d) = l ∷ []
  template_labels (template.constant t) = []
  template_labels (template.list is t) = item_labels is ++ template_labels t
  template_labels (template.vector is) = item_labels is

  pub item_labels : PlainItems → List Label
  item_labels template.none = []
  item_labels (template.more t e is) = template_labels t ++ item_labels is

-- the scope of a formal is the body of its case, that of a letrec's variable the whole letrec, and that of a pattern
-- variable the fender and the output of its clause
abbrev mutual
  pub Closed : List Label → PlainCore → Type 0
  Closed ls (quoted d) = Unit {0}
  Closed ls (variable l) = Among ls l
  Closed ls (primitive o) = Unit {0}
  Closed ls (one_armed c d) = Closed ls c × Closed ls d
  Closed ls (two_armed c d e) = Closed ls c × (Closed ls d × Closed ls e)
  Closed ls (assignment l c) = Among ls l × Closed ls c
  Closed ls (sequence cs) = AllClosed ls cs
  Closed ls (procedure n cs p) = CasesClosed ls cs
  Closed ls (letrec o is c) = InitsClosed (init_labels is ++ ls) is × Closed (init_labels is ++ ls) c
  Closed ls (call c cs) = Closed ls c × AllClosed ls cs
  Closed ls (instance t s) = Each (Among ls) (template_labels t)
  Closed ls (matching c cs s) = Closed ls c × ClausesClosed ls cs

  pub AllClosed : List Label → PlainCores → Type 0
  AllClosed ls none = Unit {0}
  AllClosed ls (more c cs) = Closed ls c × AllClosed ls cs

  pub InitsClosed : List Label → PlainInits → Type 0
  InitsClosed ls no_init = Unit {0}
  InitsClosed ls (init l c is) = Closed ls c × InitsClosed ls is

  pub CasesClosed : List Label → PlainCases → Type 0
  CasesClosed ls no_case = Unit {0}
  CasesClosed ls (case f c cs) = Closed (formals_labels f ++ ls) c × CasesClosed ls cs

  pub ClausesClosed : List Label → PlainClauses → Type 0
  ClausesClosed ls no_clause = Unit {0}
  ClausesClosed ls (clause p c cs) = Closed (variables p ++ ls) c × ClausesClosed ls cs
  ClausesClosed ls (fended p f c cs) = Closed (variables p ++ ls) f × (Closed (variables p ++ ls) c × ClausesClosed ls cs)

-- the test
abbrev mutual
  pub closed : List Label → PlainCore → Bool
  closed ls (quoted d) = true
  closed ls (variable l) = among same_label ls l
  closed ls (primitive o) = true
  closed ls (one_armed c d) = closed ls c && closed ls d
  closed ls (two_armed c d e) = closed ls c && (closed ls d && closed ls e)
  closed ls (assignment l c) = among same_label ls l && closed ls c
  closed ls (sequence cs) = all_closed ls cs
  closed ls (procedure n cs p) = cases_closed ls cs
  closed ls (letrec o is c) = inits_closed (init_labels is ++ ls) is && closed (init_labels is ++ ls) c
  closed ls (call c cs) = closed ls c && all_closed ls cs
  closed ls (instance t s) = each (among same_label ls) (template_labels t)
  closed ls (matching c cs s) = closed ls c && clauses_closed ls cs

  pub all_closed : List Label → PlainCores → Bool
  all_closed ls none = true
  all_closed ls (more c cs) = closed ls c && all_closed ls cs

  pub inits_closed : List Label → PlainInits → Bool
  inits_closed ls no_init = true
  inits_closed ls (init l c is) = closed ls c && inits_closed ls is

  pub cases_closed : List Label → PlainCases → Bool
  cases_closed ls no_case = true
  cases_closed ls (case f c cs) = closed (formals_labels f ++ ls) c && cases_closed ls cs

  pub clauses_closed : List Label → PlainClauses → Bool
  clauses_closed ls no_clause = true
  clauses_closed ls (clause p c cs) = closed (variables p ++ ls) c && clauses_closed ls cs
  clauses_closed ls (fended p f c cs) = closed (variables p ++ ls) f && (closed (variables p ++ ls) c && clauses_closed ls cs)
