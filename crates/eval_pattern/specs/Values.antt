-- One level of a value, in the store or in a syntax tree.
use Rattle.std.specs.Prelude.{Bool, false, List, map, Option, None, Some, option_map, if◌then◌else◌}
use Rattle.base_data.specs.contracts.atom.AtomPartialEq.TheImpl as atom_eq
use Rattle.base_data.specs.declared.atom.Atom.{Atom}
use Rattle.base_data.specs.declared.atom.Atom.TheVariants.{Str}
use Rattle.stx_tree.specs.Tree.{Tree, atom, leaf, pair, vector}
use Rattle.stx_frames.specs.Scope.{Scope}
use Rattle.stx_scope.specs.Same.{same_binding}
use Rattle.core_shapes.specs.Lists.{is_leaf, elements}
use Rattle.eval_value.specs.Cells.{pair_at, vector_at, string_at}
use Rattle.eval_value.specs.declared.cell.Cell.{Cell}
use Rattle.eval_value.specs.declared.value.Value.{Value}
use Rattle.eval_value.specs.declared.value.Value.TheVariants as value

abbrev pub tree_atom : Tree → Option Atom
tree_atom (atom s a) = Some a
tree_atom (leaf s x c) = None
tree_atom (pair s a d) = None
tree_atom (vector s d) = None

-- the atom that a value is, a string by its characters
abbrev pub atom_of : List Cell → Value → Option Atom
atom_of cells (value.Atom a) = Some a
atom_of cells (value.Str p) = option_map Str (string_at cells p.0)
atom_of cells (value.Syn t) = tree_atom t
atom_of cells _ = None

abbrev pub same_atom : Atom → Atom → Bool
same_atom = atom_eq.eq-value.it

abbrev pub is_atom : Atom → Option Atom → Bool
is_atom a None = false
is_atom a (Some b) = same_atom a b

-- whether a value is a leaf of the same binding
abbrev pub is_alike : Scope → Tree → Value → Bool
is_alike fs t (value.Syn u) = if is_leaf u then same_binding fs t u else false
is_alike fs t _ = false

-- the car and the cdr of a pair of the store
abbrev pub stored_pair : List Cell → Value → Option (Value × Value)
stored_pair cells (value.Pair p) = pair_at cells p.0
stored_pair cells _ = None

abbrev pub tree_vector : Tree → Option (List Value)
tree_vector (atom s a) = None
tree_vector (leaf s x c) = None
tree_vector (pair s a d) = None
tree_vector (vector s d) = Some (map value.Syn (elements d))

-- the elements of a vector
abbrev pub vector_of : List Cell → Value → Option (List Value)
vector_of cells (value.Vector p) = vector_at cells p.0
vector_of cells (value.Syn t) = tree_vector t
vector_of cells _ = None
