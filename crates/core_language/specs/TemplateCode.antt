-- How the logic tells two templates apart.
use Rattle.std.specs.Prelude.{◌≡◌, ℕ, refl, ◌⊎◌}
use Rattle.std.proofs.Common.{inl, inr}
use Rattle.std.specs.Coded.{Coded, code_by, coded⊎, coded×, coded_ℕ}
use base.Stored.{coded_unit}
use Rattle.base_data.specs.declared.name.Label.{Label}
use Rattle.base_data.specs.contracts.name.Label as labels
use Rattle.stx_tree.specs.Tree.{Tree, nil}
use Rattle.stx_tree.specs.TreeCode.{tree_code}
use Rattle.core_language.specs.Bush.{Bush, tip, fork, twig, bush_code}
use Rattle.core_language.specs.Template.{PlainTemplate, variable, constant, list, vector, PlainItems, none, more}

-- what a template or a chain of items begins with
pub data Head : Type 0 where
  is_variable : Label → ℕ → Head
  is_constant : Tree → Head
  is_list : Head
  is_vector : Head
  is_more : ℕ → Head

abbrev U : Type 0
U = Unit {0}

abbrev Parts : Type 0
Parts = (Label × ℕ) ⊎ (Tree ⊎ (U ⊎ (U ⊎ ℕ)))

abbrev to_parts : Head → Parts
to_parts (is_variable l d) = inl (l, d)
to_parts (is_constant t) = inr (inl t)
to_parts is_list = inr (inr (inl tt))
to_parts is_vector = inr (inr (inr (inl tt)))
to_parts (is_more e) = inr (inr (inr (inr e)))

abbrev of_parts : Parts → Head
of_parts (inl p) = is_variable p.0 p.1
of_parts (inr (inl t)) = is_constant t
of_parts (inr (inr (inl u))) = is_list
of_parts (inr (inr (inr (inl u)))) = is_vector
of_parts (inr (inr (inr (inr e)))) = is_more e

pub of_parts-to_parts : (h : Head) → of_parts (to_parts h) ≡ h
of_parts-to_parts (is_variable l d) = refl
of_parts-to_parts (is_constant t) = refl
of_parts-to_parts is_list = refl
of_parts-to_parts is_vector = refl
of_parts-to_parts (is_more e) = refl

abbrev head_code : Coded Head
head_code =
    code_by Parts
    (coded⊎ (coded× labels.the_row.coded coded_ℕ) (coded⊎ tree_code (coded⊎ coded_unit (coded⊎ coded_unit coded_ℕ))))
    to_parts of_parts of_parts-to_parts

abbrev mutual
  grown : PlainTemplate → Bush Head
  grown (variable l d) = twig (is_variable l d)
  grown (constant t) = twig (is_constant t)
  grown (list is t) = fork is_list (all_grown is) (grown t)
  grown (vector is) = fork is_vector (all_grown is) tip

  all_grown : PlainItems → Bush Head
  all_grown none = tip
  all_grown (more t e is) = fork (is_more e) (grown t) (all_grown is)

abbrev mutual
  read : Bush Head → PlainTemplate
  read (fork (is_variable l d) x y) = variable l d
  read (fork (is_constant t) x y) = constant t
  read (fork is_list x y) = list (all_read x) (read y)
  read (fork is_vector x y) = vector (all_read x)
  read _ = constant nil

  all_read : Bush Head → PlainItems
  all_read (fork (is_more e) x y) = more (read x) e (all_read y)
  all_read _ = none

mutual
  pub read-grown : (t : PlainTemplate) → read (grown t) ≡ t
  read-grown (variable l d) = refl
  read-grown (constant t) = refl
  read-grown (list is t) = λ i. list (all_read-grown is i) (read-grown t i)
  read-grown (vector is) = λ i. vector (all_read-grown is i)

  pub all_read-grown : (is : PlainItems) → all_read (all_grown is) ≡ is
  all_read-grown none = refl
  all_read-grown (more t e is) = λ i. more (read-grown t i) e (all_read-grown is i)

abbrev pub template_code : Coded PlainTemplate
template_code = code_by (Bush Head) (bush_code head_code) grown read read-grown
