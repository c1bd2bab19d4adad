-- The variables among what core code names are those that it refers to or assigns.
use Rattle.std.proofs.Common.{◌≡◌, List, [], ◌∷◌, ◌++◌, refl, sym, ap, ◌∙◌}
use Rattle.base_data.specs.declared.name.Label.{Label}
use Rattle.core_language.specs.Core as core
use Rattle.core_language.specs.Core.{PlainCore, PlainCores, PlainInits, PlainCases, PlainClauses}
use Rattle.core_language.specs.References.{mentions, all_mentions, init_mentions, case_mentions, clause_mentions}
use Rattle.core_language.specs.Template as template
use Rattle.core_language.specs.Template.{PlainTemplate, PlainItems}
use Rattle.law_references.specs.Namings.{Naming, names_variable, names_pattern_variable, template_namings, item_namings, namings, all_namings, init_namings, case_namings, clause_namings, variables_in}
use Rattle.law_references.specs.Noted.{Reference, mentioned, named}

variables-joined : (xs ys : List Naming) → variables_in (xs ++ ys) ≡ variables_in xs ++ variables_in ys
variables-joined [] ys = refl
variables-joined (names_variable l ∷ xs) ys = ap (λ ls. l ∷ ls) (variables-joined xs ys)
variables-joined (names_pattern_variable l ∷ xs) ys = variables-joined xs ys

two : (xs ys : List Naming) (ls ms : List Label) → ls ≡ variables_in xs → ms ≡ variables_in ys → ls ++ ms ≡ variables_in (xs ++ ys)
two xs ys ls ms e f = (λ i. e i ++ f i) ∙ sym (variables-joined xs ys)

mutual
  no-variables : (t : PlainTemplate) → [] ≡ variables_in (template_namings t)
  no-variables (template.variable l d) = refl
  no-variables (template.constant t) = refl
  no-variables (template.list is t) = two (item_namings is) (template_namings t) [] [] (no-item-variables is) (no-variables t)
  no-variables (template.vector is) = no-item-variables is

  no-item-variables : (is : PlainItems) → [] ≡ variables_in (item_namings is)
  no-item-variables template.none = refl
  no-item-variables (template.more t e is) = two (template_namings t) (item_namings is) [] [] (no-variables t) (no-item-variables is)

mutual
  mentions-so : (c : PlainCore) → mentions c ≡ variables_in (namings c)
  mentions-so (core.quoted d) = refl
  mentions-so (core.variable l) = refl
  mentions-so (core.primitive o) = refl
  mentions-so (core.one_armed c d) = two (namings c) (namings d) (mentions c) (mentions d) (mentions-so c) (mentions-so d)
  mentions-so (core.two_armed c d e) =
      two (namings c) (namings d ++ namings e) (mentions c) (mentions d ++ mentions e) (mentions-so c) (two (namings d) (namings e) (mentions d) (mentions e) (mentions-so d) (mentions-so e))
  mentions-so (core.assignment l c) = ap (λ ls. l ∷ ls) (mentions-so c)
  mentions-so (core.sequence cs) = all-so cs
  mentions-so (core.procedure n cs p) = cases-so cs
  mentions-so (core.letrec o is c) = two (init_namings is) (namings c) (init_mentions is) (mentions c) (inits-so is) (mentions-so c)
  mentions-so (core.call c cs) = two (namings c) (all_namings cs) (mentions c) (all_mentions cs) (mentions-so c) (all-so cs)
  mentions-so (core.instance t s) = no-variables t
  mentions-so (core.matching c cs s) = two (namings c) (clause_namings cs) (mentions c) (clause_mentions cs) (mentions-so c) (clauses-so cs)

  all-so : (cs : PlainCores) → all_mentions cs ≡ variables_in (all_namings cs)
  all-so core.none = refl
  all-so (core.more c cs) = two (namings c) (all_namings cs) (mentions c) (all_mentions cs) (mentions-so c) (all-so cs)

  inits-so : (is : PlainInits) → init_mentions is ≡ variables_in (init_namings is)
  inits-so core.no_init = refl
  inits-so (core.init l c is) = two (namings c) (init_namings is) (mentions c) (init_mentions is) (mentions-so c) (inits-so is)

  cases-so : (cs : PlainCases) → case_mentions cs ≡ variables_in (case_namings cs)
  cases-so core.no_case = refl
  cases-so (core.case f c cs) = two (namings c) (case_namings cs) (mentions c) (case_mentions cs) (mentions-so c) (cases-so cs)

  clauses-so : (cs : PlainClauses) → clause_mentions cs ≡ variables_in (clause_namings cs)
  clauses-so core.no_clause = refl
  clauses-so (core.clause p c cs) = two (namings c) (clause_namings cs) (mentions c) (clause_mentions cs) (mentions-so c) (clauses-so cs)
  clauses-so (core.fended p f c cs) =
      two (namings f) (namings c ++ clause_namings cs) (mentions f) (mentions c ++ clause_mentions cs) (mentions-so f) (two (namings c) (clause_namings cs) (mentions c) (clause_mentions cs) (mentions-so c) (clauses-so cs))

mentioned-so : (refs : List Reference) → mentioned refs ≡ variables_in (named refs)
mentioned-so [] = refl
mentioned-so (r ∷ refs) = two (namings r.code) (named refs) (mentions r.code) (mentioned refs) (mentions-so r.code) (mentioned-so refs)

-- where all that code names is what these name, so are its variables
pub mentions-named : (c : PlainCore) (refs : List Reference) → namings c ≡ named refs → mentions c ≡ mentioned refs
mentions-named c refs e = mentions-so c ∙ ap variables_in e ∙ sym (mentioned-so refs)
