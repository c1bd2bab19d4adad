-- The parts of a form as a list.
use Rattle.std.specs.Prelude.{Bool, true, false, List, [], ◌∷◌, ◌++◌, Option, None, Some, if◌then◌else◌}
use Rattle.base_data.specs.declared.atom.Atom.{Atom}
use Rattle.base_data.specs.declared.atom.Atom.TheVariants.{Nil}
use Rattle.stx_tree.specs.Tree.{Tree, atom, leaf, pair, vector}
use Rattle.core_shapes.specs.declared.lists.Split.{Split}

-- an identifier
abbrev pub is_leaf : Tree → Bool
is_leaf (atom s a) = false
is_leaf (leaf s x c) = true
is_leaf (pair s a d) = false
is_leaf (vector s d) = false

abbrev pub is_nil_atom : Atom → Bool
is_nil_atom Nil = true
is_nil_atom a = false

-- the empty list
abbrev pub is_nil : Tree → Bool
is_nil (atom s a) = is_nil_atom a
is_nil (leaf s x c) = false
is_nil (pair s a d) = false
is_nil (vector s d) = false

-- the first element and the rest
abbrev pub split_first : Tree → Option Split
split_first (atom s a) = None
split_first (leaf s x c) = None
split_first (pair s a d) = Some (record { first = a; rest = d })
split_first (vector s d) = None

-- the elements of a list, whatever its tail
abbrev pub elements : Tree → List Tree
elements (atom s a) = []
elements (leaf s x c) = []
elements (pair s a d) = a ∷ elements d
elements (vector s d) = []

-- what stands behind the last element
abbrev pub tail_of : Tree → Tree
tail_of (atom s a) = atom s a
tail_of (leaf s x c) = leaf s x c
tail_of (pair s a d) = tail_of d
tail_of (vector s d) = vector s d

-- the elements of a list that ends in the empty list
abbrev pub proper_elements : Tree → Option (List Tree)
proper_elements t = if is_nil (tail_of t) then Some (elements t) else None

abbrev pub all_ids : List Tree → Bool
all_ids [] = true
all_ids (x ∷ xs) = if is_leaf x then all_ids xs else false

-- what comes of a value that is there
abbrev pub if_some : {A B : Type 0} → Option A → (A → Option B) → Option B
if_some None f = None
if_some (Some x) f = f x

-- what each gives, behind what is done; nothing where one gives nothing
unfoldable pub all_of : {X Y : Type 0} → (X → Option Y) → List Y → List X → Option (List Y)
all_of f done [] = Some done
all_of f done (x ∷ xs) = if_some (f x) (λ y. all_of f (done ++ y ∷ []) xs)
