-- What one level of a form tells of the pattern variables in it that are out of scope.
use Rattle.std.proofs.Common.{◌≡◌, ℕ, zero, suc, ◌<◌, List, [], ◌∷◌, length, get_or, Option, None, Some, refl, Vec, ap, sym, ◌∙◌, arith}
use Rattle.std.specs.declared.alloc.Global.{Global}
use Rattle.base_data.specs.declared.atom.Atom.{Atom}
use Rattle.stx_tree.specs.Tree.{Tree, atom, leaf, pair, vector, chain, nil}
use Rattle.stx_tree.specs.Measures.{size}
use Rattle.stx_tree.proofs.MeasureLaws.{size-some}
use Rattle.stx_object.specs.Opens.{Opens}
use Rattle.stx_object.specs.declared.syn.OpenedTree.TheVariants as opened
use Rattle.stx_scope.specs.Stands.{stands}
use Rattle.core_shapes.specs.Lists.{elements, tail_of}
use Rattle.expand_standing.specs.State.{State}
use Rattle.expand_standing.specs.Patterns.{first_of, is_outside, if_outside, first_outside, all_outside}

first_of_three : (x y z : Option Tree) → first_of x (first_of y z) ≡ first_of (first_of x y) z
first_of_three None y z = refl
first_of_three (Some t) y z = refl

-- a form is smaller than the list of the forms
pub form_smaller : (ts : List Tree) (i : ℕ) (d : Tree) → i < length ts → size (get_or ts i d) < size (chain ts nil)
form_smaller [] i d h = absurd (omega arith)
form_smaller (t ∷ ts) zero d h = omega (arith, size-some (chain ts nil))
form_smaller (t ∷ ts) (suc i) d h = omega (arith, form_smaller ts i d (omega arith))

module _ (s : State) where
  -- first the elements, then what ends the list
  pub outside_list : (t : Tree) → first_outside s t ≡ first_of (all_outside s (elements t)) (first_outside s (tail_of t))
  outside_list (atom p a) = refl
  outside_list (leaf p x c) = refl
  outside_list (pair p a d) = ap (first_of (first_outside s a)) (outside_list d) ∙ first_of_three (first_outside s a) (all_outside s (elements d)) (first_outside s (tail_of d))
  outside_list (vector p d) = refl

  outside_chain : (ts : List Tree) → first_outside s (chain ts nil) ≡ all_outside s ts
  outside_chain [] = refl
  outside_chain (t ∷ ts) = ap (first_of (first_outside s t)) (outside_chain ts)

  pub outside_atom : (e : Atom) (t : Tree) → Opens (opened.Atom e) t → first_outside s t ≡ None
  outside_atom e (atom p a) h = refl
  outside_atom e (leaf p x c) h = absurd h
  outside_atom e (pair p a d) h = absurd h
  outside_atom e (vector p d) h = absurd h

  pub outside_leaf : (x : List ℕ) (t : Tree) → Opens (opened.Symbol x) t → first_outside s t ≡ if_outside (is_outside s (stands s.frames t)) t
  outside_leaf x (atom p a) h = absurd h
  outside_leaf x (leaf p y c) h = refl
  outside_leaf x (pair p a d) h = absurd h
  outside_leaf x (vector p d) h = absurd h

  pub outside_vector : (v : Vec Tree Global) (t : Tree) → Opens (opened.Vector v) t → first_outside s t ≡ all_outside s v.items
  outside_vector v (atom p a) h = absurd h
  outside_vector v (leaf p x c) h = absurd h
  outside_vector v (pair p a d) h = absurd h
  outside_vector v (vector p d) h = ap (first_outside s) (sym h) ∙ outside_chain v.items
