-- Whether core code is closed is told by a test.
use Rattle.std.proofs.Common.{List, ◌++◌}
use Rattle.std.specs.Prelude.{◌&&◌}
use Rattle.std.specs.Bool.{Decides}
use Rattle.std.proofs.lemmas.Bool.Decides.{Decides-and}
use Rattle.base_data.specs.Elements.{Among}
use Rattle.base_data.specs.declared.name.Label.{Label}
use Rattle.core_language.specs.Core.{quoted, variable, primitive, one_armed, two_armed, assignment, sequence, procedure, letrec, call, instance, matching}
use Rattle.core_language.specs.Core.{PlainCores, none, more, PlainInits, no_init, init, PlainCases, no_case, case, PlainClauses, no_clause, clause, fended}
use Rattle.core_language.specs.Labels.{same_label}
use Rattle.core_language.specs.References.{variables, formals_labels}
use Rattle.law_core.specs.Words.{among}
use Rattle.law_core.specs.Parts.{init_labels}
use Rattle.law_core.specs.Scope.{template_labels, AllClosed, InitsClosed, CasesClosed, ClausesClosed, closed, all_closed, inits_closed, cases_closed, clauses_closed}
use Rattle.law_core.specs.Decided.{ClosedIsDecided}
use Rattle.law_core.proofs.Decisions.{each_decides, among_decides, true_decides, label_decides}

pub given_decides : (ls : List Label) (l : Label) → Decides (among same_label ls l) (Among ls l)
given_decides ls l = among_decides same_label label_decides ls l

mutual
  pub closed_decides : ClosedIsDecided
  closed_decides ls (quoted d) = true_decides
  closed_decides ls (variable l) = given_decides ls l
  closed_decides ls (primitive o) = true_decides
  closed_decides ls (one_armed c d) = Decides-and (closed ls c) (closed ls d) (closed_decides ls c) (closed_decides ls d)
  closed_decides ls (two_armed c d e) =
      Decides-and (closed ls c) (closed ls d && closed ls e) (closed_decides ls c) (Decides-and (closed ls d) (closed ls e) (closed_decides ls d) (closed_decides ls e))
  closed_decides ls (assignment l c) = Decides-and (among same_label ls l) (closed ls c) (given_decides ls l) (closed_decides ls c)
  closed_decides ls (sequence cs) = all_decides ls cs
  closed_decides ls (procedure n cs p) = cases_decides ls cs
  closed_decides ls (letrec o is c) =
      Decides-and (inits_closed (init_labels is ++ ls) is) (closed (init_labels is ++ ls) c) (inits_decides (init_labels is ++ ls) is) (closed_decides (init_labels is ++ ls) c)
  closed_decides ls (call c cs) = Decides-and (closed ls c) (all_closed ls cs) (closed_decides ls c) (all_decides ls cs)
  closed_decides ls (instance t s) = each_decides (among same_label ls) (Among ls) (given_decides ls) (template_labels t)
  closed_decides ls (matching c cs s) = Decides-and (closed ls c) (clauses_closed ls cs) (closed_decides ls c) (clauses_decides ls cs)

  all_decides : (ls : List Label) (cs : PlainCores) → Decides (all_closed ls cs) (AllClosed ls cs)
  all_decides ls none = true_decides
  all_decides ls (more c cs) = Decides-and (closed ls c) (all_closed ls cs) (closed_decides ls c) (all_decides ls cs)

  inits_decides : (ls : List Label) (is : PlainInits) → Decides (inits_closed ls is) (InitsClosed ls is)
  inits_decides ls no_init = true_decides
  inits_decides ls (init l c is) = Decides-and (closed ls c) (inits_closed ls is) (closed_decides ls c) (inits_decides ls is)

  cases_decides : (ls : List Label) (cs : PlainCases) → Decides (cases_closed ls cs) (CasesClosed ls cs)
  cases_decides ls no_case = true_decides
  cases_decides ls (case f c cs) = Decides-and (closed (formals_labels f ++ ls) c) (cases_closed ls cs) (closed_decides (formals_labels f ++ ls) c) (cases_decides ls cs)

  clauses_decides : (ls : List Label) (cs : PlainClauses) → Decides (clauses_closed ls cs) (ClausesClosed ls cs)
  clauses_decides ls no_clause = true_decides
  clauses_decides ls (clause p c cs) = Decides-and (closed (variables p ++ ls) c) (clauses_closed ls cs) (closed_decides (variables p ++ ls) c) (clauses_decides ls cs)
  clauses_decides ls (fended p f c cs) =
      Decides-and (closed (variables p ++ ls) f) (closed (variables p ++ ls) c && clauses_closed ls cs) (closed_decides (variables p ++ ls) f)
      (Decides-and (closed (variables p ++ ls) c) (clauses_closed ls cs) (closed_decides (variables p ++ ls) c) (clauses_decides ls cs))
