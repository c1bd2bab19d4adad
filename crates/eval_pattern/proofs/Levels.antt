-- What one level of a tree tells of it.
use Rattle.std.proofs.Common.{◌≡◌, ℕ, List, [], ◌∷◌, map, None, Some, Ok, refl, Vec, ap, sym, ◌∙◌}
use Rattle.std.specs.Prelude.{Result, true, false}
use Rattle.std.specs.declared.alloc.Global.{Global}
use Rattle.base_data.specs.declared.atom.Atom.{Atom}
use Rattle.base_data.specs.declared.fault.Fault.{Fault}
use Rattle.stx_tree.specs.Tree.{Tree, atom, leaf, pair, vector, chain, nil, is_pair}
use Rattle.stx_object.specs.Opens.{Opens}
use Rattle.stx_object.specs.declared.syn.OpenedTree.TheVariants as opened
use Rattle.core_language.specs.Pattern.{PlainPattern}
use Rattle.core_language.specs.Pattern as patterns
use Rattle.core_shapes.specs.Lists.{elements, tail_of}
use Rattle.eval_value.specs.declared.value.Value.TheVariants as value
use Rattle.eval_pattern.specs.Values.{tree_atom, tree_vector}
use Rattle.eval_pattern.specs.Compile.{PatternScope, TakenVariables, ElementPattern, pattern, element_patterns, tail_pattern, with_pattern, list_with, vector_with, forms_walked, walked, no_parts, leaf_pattern, list_pattern, vector_pattern}

pub atom_opened : (e : Atom) (t : Tree) → Opens (opened.Atom e) t → tree_atom t ≡ Some e
atom_opened e (atom s b) h = ap Some (sym h)
atom_opened e (leaf s y c) h = absurd h
atom_opened e (pair s a d) h = absurd h
atom_opened e (vector s d) h = absurd h

pub no_atom_leaf : (x : List ℕ) (t : Tree) → Opens (opened.Symbol x) t → tree_atom t ≡ None
no_atom_leaf x (atom s b) h = absurd h
no_atom_leaf x (leaf s y c) h = refl
no_atom_leaf x (pair s a d) h = absurd h
no_atom_leaf x (vector s d) h = absurd h

pub no_atom_pair : (x y : Tree) (t : Tree) → Opens (opened.Pair x y) t → tree_atom t ≡ None
no_atom_pair x y (atom s b) h = absurd h
no_atom_pair x y (leaf s z c) h = absurd h
no_atom_pair x y (pair s a d) h = refl
no_atom_pair x y (vector s d) h = absurd h

pub no_atom_vector : (v : Vec Tree Global) (t : Tree) → Opens (opened.Vector v) t → tree_atom t ≡ None
no_atom_vector v (atom s b) h = absurd h
no_atom_vector v (leaf s y c) h = absurd h
no_atom_vector v (pair s a d) h = absurd h
no_atom_vector v (vector s d) h = refl

pub no_vector_atom : (e : Atom) (t : Tree) → Opens (opened.Atom e) t → tree_vector t ≡ None
no_vector_atom e (atom s b) h = refl
no_vector_atom e (leaf s y c) h = absurd h
no_vector_atom e (pair s a d) h = absurd h
no_vector_atom e (vector s d) h = absurd h

pub no_vector_leaf : (x : List ℕ) (t : Tree) → Opens (opened.Symbol x) t → tree_vector t ≡ None
no_vector_leaf x (atom s b) h = absurd h
no_vector_leaf x (leaf s y c) h = refl
no_vector_leaf x (pair s a d) h = absurd h
no_vector_leaf x (vector s d) h = absurd h

pub no_vector_pair : (x y : Tree) (t : Tree) → Opens (opened.Pair x y) t → tree_vector t ≡ None
no_vector_pair x y (atom s b) h = absurd h
no_vector_pair x y (leaf s z c) h = absurd h
no_vector_pair x y (pair s a d) h = refl
no_vector_pair x y (vector s d) h = absurd h

pub elements_chain : (ts : List Tree) → elements (chain ts nil) ≡ ts
elements_chain [] = refl
elements_chain (t ∷ ts) = ap (λ us. t ∷ us) (elements_chain ts)

pub vector_opened : (v : Vec Tree Global) (t : Tree) → Opens (opened.Vector v) t → tree_vector t ≡ Some (map value.Syn v.items)
vector_opened v (atom s b) h = absurd h
vector_opened v (leaf s y c) h = absurd h
vector_opened v (pair s a d) h = absurd h
vector_opened v (vector s d) h = ap (λ u. Some (map value.Syn (elements u))) (sym h) ∙ ap (λ ts. Some (map value.Syn ts)) (elements_chain v.items)

pub pair_opened : (x y : Tree) (t : Tree) → Opens (opened.Pair x y) t → is_pair t ≡ true
pair_opened x y (atom s b) h = absurd h
pair_opened x y (leaf s z c) h = absurd h
pair_opened x y (pair s a d) h = refl
pair_opened x y (vector s d) h = absurd h

-- The pattern of a tree, by its level.
module _ (c : PatternScope) where
  pub elements_are : (t : Tree) → element_patterns c t ≡ map (with_pattern c) (elements t)
  elements_are (atom s a) = refl
  elements_are (leaf s x k) = refl
  elements_are (pair s a d) = ap (λ (xs : List ElementPattern). (a, pattern c a) ∷ xs) (elements_are d)
  elements_are (vector s d) = refl

  pub tail_is : (t : Tree) → tail_pattern c t ≡ pattern c (tail_of t)
  tail_is (atom s a) = refl
  tail_is (leaf s x k) = refl
  tail_is (pair s a d) = tail_is d
  tail_is (vector s d) = refl

  module _ (depth : ℕ) (s : TakenVariables) where
    pub pattern_atom : (e : Atom) (t : Tree) → Opens (opened.Atom e) t → pattern c t depth s ≡ Ok (patterns.atom e, s)
    pattern_atom e (atom p b) h = ap (λ a. Ok (patterns.atom a, s)) (sym h)
    pattern_atom e (leaf p y k) h = absurd h
    pattern_atom e (pair p a d) h = absurd h
    pattern_atom e (vector p d) h = absurd h

    pub pattern_leaf : (x : List ℕ) (t : Tree) → Opens (opened.Symbol x) t → pattern c t depth s ≡ leaf_pattern c t depth s
    pattern_leaf x (atom p b) h = absurd h
    pattern_leaf x (leaf p y k) h = refl
    pattern_leaf x (pair p a d) h = absurd h
    pattern_leaf x (vector p d) h = absurd h

    pub pattern_pair : (x y : Tree) (t : Tree) → Opens (opened.Pair x y) t → pattern c t depth s ≡ list_pattern c t depth s
    pattern_pair x y (atom p b) h = absurd h
    pattern_pair x y (leaf p z k) h = absurd h
    pattern_pair x y (pair p a d) h =
        ap (λ (xs : List ElementPattern). list_with (walked c depth false no_parts ((a, pattern c a) ∷ xs)) (tail_pattern c d depth) s) (elements_are d)
        ∙ ap (λ (go : ℕ → TakenVariables → Result (PlainPattern × TakenVariables) Fault). list_with (forms_walked c depth (a ∷ elements d)) (go depth) s) (tail_is d)
    pattern_pair x y (vector p d) h = absurd h

    pub pattern_vector : (v : Vec Tree Global) (t : Tree) → Opens (opened.Vector v) t → pattern c t depth s ≡ vector_pattern c v.items depth s
    pattern_vector v (atom p b) h = absurd h
    pattern_vector v (leaf p y k) h = absurd h
    pattern_vector v (pair p a d) h = absurd h
    pattern_vector v (vector p d) h =
        let same : element_patterns c d ≡ map (with_pattern c) v.items = elements_are d ∙ ap (map (with_pattern c)) (ap elements (sym h) ∙ elements_chain v.items) in
        ap (λ (xs : List ElementPattern). vector_with (walked c depth false no_parts xs) s) same
