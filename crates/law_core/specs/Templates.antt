-- Templates that suit the pattern variables round them (libraries report 12.4).
use Rattle.std.specs.Prelude.{ℕ, zero, suc, ◌+◌, ◌≤◌, ◌<◌, nat_le, nat_eq, ◌⊎◌, Bool, true, false, ◌&&◌, ◌||◌, List, [], ◌∷◌, ◌++◌}
use Rattle.base_data.specs.Elements.{Among}
use Rattle.base_data.specs.declared.name.Label.{Label}
use Rattle.core_language.specs.Core.{PlainCore, quoted, variable, primitive, one_armed, two_armed, assignment, sequence, procedure, letrec, call, instance, matching}
use Rattle.core_language.specs.Core.{PlainCores, none, more, PlainInits, no_init, init, PlainCases, no_case, case, PlainClauses, no_clause, clause, fended}
use Rattle.core_language.specs.Labels.{same_label}
use Rattle.core_language.specs.Pattern as pattern
use Rattle.core_language.specs.Pattern.{PlainPattern, PlainPatterns}
use Rattle.core_language.specs.Template as template
use Rattle.core_language.specs.Template.{PlainTemplate, PlainItems}
use Rattle.law_core.specs.Words.{among}

-- pattern variables, each with its depth: under how many ellipses it stands
abbrev pub Depths : Type 0
Depths = List (Label × ℕ)

abbrev pub same_depth : Label × ℕ → Label × ℕ → Bool
same_depth a b = same_label a.0 b.0 && nat_eq a.1 b.1

-- those of a pattern under so many ellipses, from left to right
abbrev mutual
  pub depths : ℕ → PlainPattern → Depths
  depths n pattern.any = []
  depths n (pattern.variable l) = (l, n) ∷ []
  depths n (pattern.literal t) = []
  depths n (pattern.atom a) = []
  depths n (pattern.list ps t) = all_depths n ps ++ depths n t
  depths n (pattern.vector ps) = all_depths n ps

  pub all_depths : ℕ → PlainPatterns → Depths
  all_depths n pattern.none = []
  all_depths n (pattern.more p ps) = depths n p ++ all_depths n ps
  all_depths n (pattern.dots p ps) = depths (suc n) p ++ all_depths n ps

-- Of the ellipses round a variable the innermost ones, as many as its depth, take its elements: there it is a variable of
-- depth. Such a one stands in the template for the ellipsis that is the n-th round it, counted from the innermost.
abbrev mutual
  pub HasDepth : ℕ → PlainTemplate → Type 0
  HasDepth n (template.variable l d) = n ≤ d
  HasDepth n (template.constant t) = ⊥
  HasDepth n (template.list is t) = ItemHasDepth n is ⊎ HasDepth n t
  HasDepth n (template.vector is) = ItemHasDepth n is

  pub ItemHasDepth : ℕ → PlainItems → Type 0
  ItemHasDepth n template.none = ⊥
  ItemHasDepth n (template.more t e is) = HasDepth (n + e) t ⊎ ItemHasDepth n is

-- Under so many ellipses each variable is one of these, with its depth, and stands under at least as many ellipses; and
-- each ellipsis has a variable of depth before it.
abbrev mutual
  pub Suits : Depths → ℕ → PlainTemplate → Type 0
  Suits vs n (template.variable l d) = Among vs (l, d) × (d ≤ n)
  Suits vs n (template.constant t) = Unit {0}
  Suits vs n (template.list is t) = ItemsSuit vs n is × Suits vs n t
  Suits vs n (template.vector is) = ItemsSuit vs n is

  pub ItemsSuit : Depths → ℕ → PlainItems → Type 0
  ItemsSuit vs n template.none = Unit {0}
  ItemsSuit vs n (template.more t e is) = ((k : ℕ) → k < e → HasDepth (suc k) t) × (Suits vs (n + e) t × ItemsSuit vs n is)

-- each template in core code suits the pattern variables round it and those that are given
abbrev mutual
  pub TemplatesSuit : Depths → PlainCore → Type 0
  TemplatesSuit vs (quoted d) = Unit {0}
  TemplatesSuit vs (variable l) = Unit {0}
  TemplatesSuit vs (primitive o) = Unit {0}
  TemplatesSuit vs (one_armed c d) = TemplatesSuit vs c × TemplatesSuit vs d
  TemplatesSuit vs (two_armed c d e) = TemplatesSuit vs c × (TemplatesSuit vs d × TemplatesSuit vs e)
  TemplatesSuit vs (assignment l c) = TemplatesSuit vs c
  TemplatesSuit vs (sequence cs) = AllSuit vs cs
  TemplatesSuit vs (procedure n cs p) = CasesSuit vs cs
  TemplatesSuit vs (letrec o is c) = InitsSuit vs is × TemplatesSuit vs c
  TemplatesSuit vs (call c cs) = TemplatesSuit vs c × AllSuit vs cs
  TemplatesSuit vs (instance t s) = Suits vs 0 t
  TemplatesSuit vs (matching c cs s) = TemplatesSuit vs c × ClausesSuit vs cs

  pub AllSuit : Depths → PlainCores → Type 0
  AllSuit vs none = Unit {0}
  AllSuit vs (more c cs) = TemplatesSuit vs c × AllSuit vs cs

  pub InitsSuit : Depths → PlainInits → Type 0
  InitsSuit vs no_init = Unit {0}
  InitsSuit vs (init l c is) = TemplatesSuit vs c × InitsSuit vs is

  pub CasesSuit : Depths → PlainCases → Type 0
  CasesSuit vs no_case = Unit {0}
  CasesSuit vs (case f c cs) = TemplatesSuit vs c × CasesSuit vs cs

  pub ClausesSuit : Depths → PlainClauses → Type 0
  ClausesSuit vs no_clause = Unit {0}
  ClausesSuit vs (clause p c cs) = TemplatesSuit (depths 0 p ++ vs) c × ClausesSuit vs cs
  ClausesSuit vs (fended p f c cs) = TemplatesSuit (depths 0 p ++ vs) f × (TemplatesSuit (depths 0 p ++ vs) c × ClausesSuit vs cs)

-- the tests
abbrev mutual
  pub has_depth : ℕ → PlainTemplate → Bool
  has_depth n (template.variable l d) = nat_le n d
  has_depth n (template.constant t) = false
  has_depth n (template.list is t) = item_has_depth n is || has_depth n t
  has_depth n (template.vector is) = item_has_depth n is

  pub item_has_depth : ℕ → PlainItems → Bool
  item_has_depth n template.none = false
  item_has_depth n (template.more t e is) = has_depth (n + e) t || item_has_depth n is

-- at each of so many ellipses behind it
abbrev pub has_depths : ℕ → PlainTemplate → Bool
has_depths zero t = true
has_depths (suc n) t = has_depth (suc n) t && has_depths n t

abbrev mutual
  pub suits : Depths → ℕ → PlainTemplate → Bool
  suits vs n (template.variable l d) = among same_depth vs (l, d) && nat_le d n
  suits vs n (template.constant t) = true
  suits vs n (template.list is t) = items_suit vs n is && suits vs n t
  suits vs n (template.vector is) = items_suit vs n is

  pub items_suit : Depths → ℕ → PlainItems → Bool
  items_suit vs n template.none = true
  items_suit vs n (template.more t e is) = has_depths e t && (suits vs (n + e) t && items_suit vs n is)

abbrev mutual
  pub templates_suit : Depths → PlainCore → Bool
  templates_suit vs (quoted d) = true
  templates_suit vs (variable l) = true
  templates_suit vs (primitive o) = true
  templates_suit vs (one_armed c d) = templates_suit vs c && templates_suit vs d
  templates_suit vs (two_armed c d e) = templates_suit vs c && (templates_suit vs d && templates_suit vs e)
  templates_suit vs (assignment l c) = templates_suit vs c
  templates_suit vs (sequence cs) = all_suit vs cs
  templates_suit vs (procedure n cs p) = cases_suit vs cs
  templates_suit vs (letrec o is c) = inits_suit vs is && templates_suit vs c
  templates_suit vs (call c cs) = templates_suit vs c && all_suit vs cs
  templates_suit vs (instance t s) = suits vs 0 t
  templates_suit vs (matching c cs s) = templates_suit vs c && clauses_suit vs cs

  pub all_suit : Depths → PlainCores → Bool
  all_suit vs none = true
  all_suit vs (more c cs) = templates_suit vs c && all_suit vs cs

  pub inits_suit : Depths → PlainInits → Bool
  inits_suit vs no_init = true
  inits_suit vs (init l c is) = templates_suit vs c && inits_suit vs is

  pub cases_suit : Depths → PlainCases → Bool
  cases_suit vs no_case = true
  cases_suit vs (case f c cs) = templates_suit vs c && cases_suit vs cs

  pub clauses_suit : Depths → PlainClauses → Bool
  clauses_suit vs no_clause = true
  clauses_suit vs (clause p c cs) = templates_suit (depths 0 p ++ vs) c && clauses_suit vs cs
  clauses_suit vs (fended p f c cs) = templates_suit (depths 0 p ++ vs) f && (templates_suit (depths 0 p ++ vs) c && clauses_suit vs cs)
