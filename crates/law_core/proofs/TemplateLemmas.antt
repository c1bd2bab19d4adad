-- Whether templates suit the pattern variables round them is told by a test.
use Rattle.std.proofs.Common.{ℕ, suc, ◌+◌, ◌<◌, ◌++◌, refl}
use Rattle.std.specs.Prelude.{◌&&◌, nat_le}
use Rattle.std.specs.Bool.{Decides}
use Rattle.std.proofs.lemmas.Bool.Decides.{Decides-and, Decides-or, Decides-below_and}
use Rattle.core_language.specs.Core.{PlainCore, quoted, variable, primitive, one_armed, two_armed, assignment, sequence, procedure, letrec, call, instance, matching}
use Rattle.core_language.specs.Core.{PlainCores, none, more, PlainInits, no_init, init, PlainCases, no_case, case, PlainClauses, no_clause, clause, fended}
use Rattle.core_language.specs.Template as template
use Rattle.core_language.specs.Template.{PlainTemplate, PlainItems}
use Rattle.law_core.specs.Words.{among}
use Rattle.law_core.specs.Templates.{Depths, same_depth, depths, HasDepth, ItemHasDepth, has_depth, item_has_depth, has_depths, Suits, ItemsSuit, suits, items_suit}
use Rattle.law_core.specs.Templates.{TemplatesSuit, AllSuit, InitsSuit, CasesSuit, ClausesSuit, templates_suit, all_suit, inits_suit, cases_suit, clauses_suit}
use Rattle.law_core.proofs.Decisions.{among_decides, true_decides, false_decides, le_decides, depth_decides}

mutual
  depth_there : (n : ℕ) (t : PlainTemplate) → Decides (has_depth n t) (HasDepth n t)
  depth_there n (template.variable l d) = le_decides n d
  depth_there n (template.constant t) = false_decides
  depth_there n (template.list is t) = Decides-or (item_has_depth n is) (has_depth n t) (item_depth_there n is) (depth_there n t)
  depth_there n (template.vector is) = item_depth_there n is

  item_depth_there : (n : ℕ) (is : PlainItems) → Decides (item_has_depth n is) (ItemHasDepth n is)
  item_depth_there n template.none = false_decides
  item_depth_there n (template.more t e is) = Decides-or (has_depth (n + e) t) (item_has_depth n is) (depth_there (n + e) t) (item_depth_there n is)

depths_there : (n : ℕ) (t : PlainTemplate) → Decides (has_depths n t) ((k : ℕ) → k < n → HasDepth (suc k) t)
depths_there n t = Decides-below_and (λ k. has_depth (suc k) t) (λ k. HasDepth (suc k) t) (λ m. has_depths m t) (λ k. depth_there (suc k) t) refl (λ _. refl) n

mutual
  suits_decides : (vs : Depths) (n : ℕ) (t : PlainTemplate) → Decides (suits vs n t) (Suits vs n t)
  suits_decides vs n (template.variable l d) =
      Decides-and (among same_depth vs (l, d)) (nat_le d n) (among_decides same_depth depth_decides vs (l, d)) (le_decides d n)
  suits_decides vs n (template.constant t) = true_decides
  suits_decides vs n (template.list is t) = Decides-and (items_suit vs n is) (suits vs n t) (items_decide vs n is) (suits_decides vs n t)
  suits_decides vs n (template.vector is) = items_decide vs n is

  items_decide : (vs : Depths) (n : ℕ) (is : PlainItems) → Decides (items_suit vs n is) (ItemsSuit vs n is)
  items_decide vs n template.none = true_decides
  items_decide vs n (template.more t e is) =
      Decides-and (has_depths e t) (suits vs (n + e) t && items_suit vs n is) (depths_there e t)
      (Decides-and (suits vs (n + e) t) (items_suit vs n is) (suits_decides vs (n + e) t) (items_decide vs n is))

mutual
  pub templates_decide : (vs : Depths) (c : PlainCore) → Decides (templates_suit vs c) (TemplatesSuit vs c)
  templates_decide vs (quoted d) = true_decides
  templates_decide vs (variable l) = true_decides
  templates_decide vs (primitive o) = true_decides
  templates_decide vs (one_armed c d) = Decides-and (templates_suit vs c) (templates_suit vs d) (templates_decide vs c) (templates_decide vs d)
  templates_decide vs (two_armed c d e) =
      Decides-and (templates_suit vs c) (templates_suit vs d && templates_suit vs e) (templates_decide vs c)
      (Decides-and (templates_suit vs d) (templates_suit vs e) (templates_decide vs d) (templates_decide vs e))
  templates_decide vs (assignment l c) = templates_decide vs c
  templates_decide vs (sequence cs) = all_decide vs cs
  templates_decide vs (procedure n cs p) = cases_decide vs cs
  templates_decide vs (letrec o is c) = Decides-and (inits_suit vs is) (templates_suit vs c) (inits_decide vs is) (templates_decide vs c)
  templates_decide vs (call c cs) = Decides-and (templates_suit vs c) (all_suit vs cs) (templates_decide vs c) (all_decide vs cs)
  templates_decide vs (instance t s) = suits_decides vs 0 t
  templates_decide vs (matching c cs s) = Decides-and (templates_suit vs c) (clauses_suit vs cs) (templates_decide vs c) (clauses_decide vs cs)

  all_decide : (vs : Depths) (cs : PlainCores) → Decides (all_suit vs cs) (AllSuit vs cs)
  all_decide vs none = true_decides
  all_decide vs (more c cs) = Decides-and (templates_suit vs c) (all_suit vs cs) (templates_decide vs c) (all_decide vs cs)

  inits_decide : (vs : Depths) (is : PlainInits) → Decides (inits_suit vs is) (InitsSuit vs is)
  inits_decide vs no_init = true_decides
  inits_decide vs (init l c is) = Decides-and (templates_suit vs c) (inits_suit vs is) (templates_decide vs c) (inits_decide vs is)

  cases_decide : (vs : Depths) (cs : PlainCases) → Decides (cases_suit vs cs) (CasesSuit vs cs)
  cases_decide vs no_case = true_decides
  cases_decide vs (case f c cs) = Decides-and (templates_suit vs c) (cases_suit vs cs) (templates_decide vs c) (cases_decide vs cs)

  clauses_decide : (vs : Depths) (cs : PlainClauses) → Decides (clauses_suit vs cs) (ClausesSuit vs cs)
  clauses_decide vs no_clause = true_decides
  clauses_decide vs (clause p c cs) = Decides-and (templates_suit (depths 0 p ++ vs) c) (clauses_suit vs cs) (templates_decide (depths 0 p ++ vs) c) (clauses_decide vs cs)
  clauses_decide vs (fended p f c cs) =
      Decides-and (templates_suit (depths 0 p ++ vs) f) (templates_suit (depths 0 p ++ vs) c && clauses_suit vs cs) (templates_decide (depths 0 p ++ vs) f)
      (Decides-and (templates_suit (depths 0 p ++ vs) c) (clauses_suit vs cs) (templates_decide (depths 0 p ++ vs) c) (clauses_decide vs cs))
