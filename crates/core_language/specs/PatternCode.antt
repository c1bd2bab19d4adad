-- How the logic tells two patterns apart.
use Rattle.std.specs.Prelude.{◌≡◌, refl, ◌⊎◌}
use Rattle.std.proofs.Common.{inl, inr}
use Rattle.std.specs.Coded.{Coded, code_by, coded⊎}
use base.Stored.{coded_unit}
use Rattle.base_data.specs.declared.atom.Atom.{Atom}
use Rattle.base_data.specs.declared.name.Label.{Label}
use Rattle.base_data.specs.contracts.atom.Atom as atoms
use Rattle.base_data.specs.contracts.name.Label as labels
use Rattle.stx_tree.specs.Tree.{Tree}
use Rattle.stx_tree.specs.TreeCode.{tree_code}
use Rattle.core_language.specs.Bush.{Bush, tip, fork, twig, bush_code}
use Rattle.core_language.specs.Pattern.{PlainPattern, any, variable, literal, atom, list, vector, PlainPatterns, none, more, dots}

-- what a pattern or a chain of patterns begins with
pub data Head : Type 0 where
  is_any : Head
  is_variable : Label → Head
  is_literal : Tree → Head
  is_atom : Atom → Head
  is_list : Head
  is_vector : Head
  is_more : Head
  is_dots : Head

abbrev U : Type 0
U = Unit {0}

abbrev Parts : Type 0
Parts = U ⊎ (Label ⊎ (Tree ⊎ (Atom ⊎ (U ⊎ (U ⊎ (U ⊎ U))))))

abbrev to_parts : Head → Parts
to_parts is_any = inl tt
to_parts (is_variable l) = inr (inl l)
to_parts (is_literal t) = inr (inr (inl t))
to_parts (is_atom a) = inr (inr (inr (inl a)))
to_parts is_list = inr (inr (inr (inr (inl tt))))
to_parts is_vector = inr (inr (inr (inr (inr (inl tt)))))
to_parts is_more = inr (inr (inr (inr (inr (inr (inl tt))))))
to_parts is_dots = inr (inr (inr (inr (inr (inr (inr tt))))))

abbrev of_parts : Parts → Head
of_parts (inl u) = is_any
of_parts (inr (inl l)) = is_variable l
of_parts (inr (inr (inl t))) = is_literal t
of_parts (inr (inr (inr (inl a)))) = is_atom a
of_parts (inr (inr (inr (inr (inl u))))) = is_list
of_parts (inr (inr (inr (inr (inr (inl u)))))) = is_vector
of_parts (inr (inr (inr (inr (inr (inr (inl u))))))) = is_more
of_parts (inr (inr (inr (inr (inr (inr (inr u))))))) = is_dots

pub of_parts-to_parts : (h : Head) → of_parts (to_parts h) ≡ h
of_parts-to_parts is_any = refl
of_parts-to_parts (is_variable l) = refl
of_parts-to_parts (is_literal t) = refl
of_parts-to_parts (is_atom a) = refl
of_parts-to_parts is_list = refl
of_parts-to_parts is_vector = refl
of_parts-to_parts is_more = refl
of_parts-to_parts is_dots = refl

abbrev head_code : Coded Head
head_code =
    code_by Parts
    (coded⊎ coded_unit (coded⊎ labels.the_row.coded (coded⊎ tree_code
    (coded⊎ atoms.the_row.coded (coded⊎ coded_unit (coded⊎ coded_unit (coded⊎ coded_unit coded_unit)))))))
    to_parts of_parts of_parts-to_parts

abbrev mutual
  grown : PlainPattern → Bush Head
  grown any = twig is_any
  grown (variable l) = twig (is_variable l)
  grown (literal t) = twig (is_literal t)
  grown (atom a) = twig (is_atom a)
  grown (list ps t) = fork is_list (all_grown ps) (grown t)
  grown (vector ps) = fork is_vector (all_grown ps) tip

  all_grown : PlainPatterns → Bush Head
  all_grown none = tip
  all_grown (more p ps) = fork is_more (grown p) (all_grown ps)
  all_grown (dots p ps) = fork is_dots (grown p) (all_grown ps)

abbrev mutual
  read : Bush Head → PlainPattern
  read (fork (is_variable l) x y) = variable l
  read (fork (is_literal t) x y) = literal t
  read (fork (is_atom a) x y) = atom a
  read (fork is_list x y) = list (all_read x) (read y)
  read (fork is_vector x y) = vector (all_read x)
  read _ = any

  all_read : Bush Head → PlainPatterns
  all_read (fork is_more x y) = more (read x) (all_read y)
  all_read (fork is_dots x y) = dots (read x) (all_read y)
  all_read _ = none

mutual
  pub read-grown : (p : PlainPattern) → read (grown p) ≡ p
  read-grown any = refl
  read-grown (variable l) = refl
  read-grown (literal t) = refl
  read-grown (atom a) = refl
  read-grown (list ps t) = λ i. list (all_read-grown ps i) (read-grown t i)
  read-grown (vector ps) = λ i. vector (all_read-grown ps i)

  pub all_read-grown : (ps : PlainPatterns) → all_read (all_grown ps) ≡ ps
  all_read-grown none = refl
  all_read-grown (more p ps) = λ i. more (read-grown p i) (all_read-grown ps i)
  all_read-grown (dots p ps) = λ i. dots (read-grown p i) (all_read-grown ps i)

abbrev pub pattern_code : Coded PlainPattern
pattern_code = code_by (Bush Head) (bush_code head_code) grown read read-grown
