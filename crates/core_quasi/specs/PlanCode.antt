-- How the logic tells two plans apart.
use Rattle.std.specs.Prelude.{◌≡◌, refl, ◌⊎◌}
use Rattle.std.proofs.Common.{inl, inr}
use Rattle.std.specs.Coded.{Coded, code_by, coded⊎}
use base.Stored.{coded_unit}
use Rattle.stx_tree.specs.Tree.{Tree, nil}
use Rattle.stx_tree.specs.TreeCode.{tree_code}
use Rattle.core_language.specs.Bush.{Bush, tip, fork, twig, bush_code}
use Rattle.core_quasi.specs.declared.maker.Maker.{Maker}
use Rattle.core_quasi.specs.contracts.maker.Maker as makers
use Rattle.core_quasi.specs.Plan.{PlainQuasi, constant, expression, call, PlainQuasis, none, more}

-- what a plan or a chain of plans begins with
pub data PlanHead : Type 0 where
  is_constant : Tree → PlanHead
  is_expression : Tree → PlanHead
  is_call : Maker → PlanHead
  is_more : PlanHead

abbrev U : Type 0
U = Unit {0}

abbrev Parts : Type 0
Parts = Tree ⊎ (Tree ⊎ (Maker ⊎ U))

abbrev to_parts : PlanHead → Parts
to_parts (is_constant t) = inl t
to_parts (is_expression t) = inr (inl t)
to_parts (is_call m) = inr (inr (inl m))
to_parts is_more = inr (inr (inr tt))

abbrev of_parts : Parts → PlanHead
of_parts (inl t) = is_constant t
of_parts (inr (inl t)) = is_expression t
of_parts (inr (inr (inl m))) = is_call m
of_parts (inr (inr (inr u))) = is_more

pub of_parts-to_parts : (h : PlanHead) → of_parts (to_parts h) ≡ h
of_parts-to_parts (is_constant t) = refl
of_parts-to_parts (is_expression t) = refl
of_parts-to_parts (is_call m) = refl
of_parts-to_parts is_more = refl

abbrev head_code : Coded PlanHead
head_code = code_by Parts (coded⊎ tree_code (coded⊎ tree_code (coded⊎ makers.the_row.coded coded_unit))) to_parts of_parts of_parts-to_parts

abbrev mutual
  grown : PlainQuasi → Bush PlanHead
  grown (constant t) = twig (is_constant t)
  grown (expression t) = twig (is_expression t)
  grown (call m qs) = fork (is_call m) (all_grown qs) tip

  all_grown : PlainQuasis → Bush PlanHead
  all_grown none = tip
  all_grown (more q qs) = fork is_more (grown q) (all_grown qs)

abbrev mutual
  read : Bush PlanHead → PlainQuasi
  read (fork (is_constant t) x y) = constant t
  read (fork (is_expression t) x y) = expression t
  read (fork (is_call m) x y) = call m (all_read x)
  read _ = constant nil

  all_read : Bush PlanHead → PlainQuasis
  all_read (fork is_more x y) = more (read x) (all_read y)
  all_read _ = none

mutual
  pub read-grown : (q : PlainQuasi) → read (grown q) ≡ q
  read-grown (constant t) = refl
  read-grown (expression t) = refl
  read-grown (call m qs) = λ i. call m (all_read-grown qs i)

  pub all_read-grown : (qs : PlainQuasis) → all_read (all_grown qs) ≡ qs
  all_read-grown none = refl
  all_read-grown (more q qs) = λ i. more (read-grown q i) (all_read-grown qs i)

abbrev pub quasi_code : Coded PlainQuasi
quasi_code = code_by (Bush PlanHead) (bush_code head_code) grown read read-grown
