-- What one level of a form tells of its truth.
use Rattle.std.proofs.Common.{◌≡◌, ℕ, List, None, refl, Vec, ap, sym}
use Rattle.std.specs.declared.alloc.Global.{Global}
use Rattle.base_data.specs.declared.atom.Atom.{Atom}
use Rattle.stx_tree.specs.Tree.{Tree, atom, leaf, pair, vector}
use Rattle.stx_object.specs.Opens.{Opens}
use Rattle.stx_object.specs.declared.syn.OpenedTree.TheVariants as opened
use Rattle.core_records.specs.Clauses.{truth_in, truth_of}

pub truth_by_atom : (e : Atom) (t : Tree) → Opens (opened.Atom e) t → truth_of t ≡ truth_in e
truth_by_atom e (atom s b) h = ap truth_in (sym h)
truth_by_atom e (leaf s y c) h = absurd h
truth_by_atom e (pair s a d) h = absurd h
truth_by_atom e (vector s d) h = absurd h

pub no_truth_leaf : (x : List ℕ) (t : Tree) → Opens (opened.Symbol x) t → truth_of t ≡ None
no_truth_leaf x (atom s b) h = absurd h
no_truth_leaf x (leaf s y c) h = refl
no_truth_leaf x (pair s a d) h = absurd h
no_truth_leaf x (vector s d) h = absurd h

pub no_truth_pair : (x y : Tree) (t : Tree) → Opens (opened.Pair x y) t → truth_of t ≡ None
no_truth_pair x y (atom s b) h = absurd h
no_truth_pair x y (leaf s z c) h = absurd h
no_truth_pair x y (pair s a d) h = refl
no_truth_pair x y (vector s d) h = absurd h

pub no_truth_vector : (v : Vec Tree Global) (t : Tree) → Opens (opened.Vector v) t → truth_of t ≡ None
no_truth_vector v (atom s b) h = absurd h
no_truth_vector v (leaf s y c) h = absurd h
no_truth_vector v (pair s a d) h = absurd h
no_truth_vector v (vector s d) h = refl
