-- The size and the height of a tree, and the limits that they have.
use Rattle.std.specs.Prelude.{ℕ, ◌+◌, ◌≤◌, max, Bool, ◌&&◌, nat_le, List, [], ◌∷◌, Result, Ok, Err, if◌then◌else◌}
use Rattle.base_data.specs.declared.atom.Atom.TheVariants.{Nil}
use Rattle.base_data.specs.declared.fault.Bare.{Bare}
use Rattle.base_data.specs.declared.fault.FaultKind.TheVariants as kind
use Rattle.stx_tree.specs.Tree.{Tree, atom, leaf, pair, vector, is_list}

-- 1 at a tail that is no list, and 0 at the rest of a list
abbrev pub joint : Tree → ℕ
joint d = if is_list d then 0 else 1

abbrev pub size : Tree → ℕ
size (atom s a) = 1
size (leaf s x c) = 1
size (pair s a d) = size a + (size d + joint d)
size (vector s d) = size d

abbrev pub height : Tree → ℕ
height (atom s a) = 1
height (leaf s x c) = 1
height (pair s a d) = max (height a + 1) (height d + joint d)
height (vector s d) = height d

-- a tail as a part of its list: Nil is none
abbrev pub tail_part : Tree → List Tree
tail_part (atom s Nil) = []
tail_part t = t ∷ []

abbrev pub greatest : List ℕ → ℕ
greatest [] = 0
greatest (n ∷ ns) = max n (greatest ns)

-- how high a tree may be, and how many parts it may have
abbrev pub max_height : ℕ
max_height = 1000

abbrev pub max_size : ℕ
max_size = 16777216

-- within the limits of a tree
abbrev pub Fits : Tree → Type 0
Fits t = (height t ≤ max_height) × (size t ≤ max_size)

abbrev pub fits : Tree → Bool
fits t = nat_le (height t) max_height && nat_le (size t) max_size

abbrev pub too_deep : Bare
too_deep = record { kind = kind.TooDeep; words = [] }

-- the tree, where it is within the limits
unfoldable pub within : Tree → Result Tree Bare
within t = if fits t then Ok t else Err too_deep
