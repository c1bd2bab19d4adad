-- What trees need to be parts of others.
use Rattle.std.specs.Prelude.{◌≡◌, ℕ, suc, ◌+◌, false, Option, None, Some}
use Rattle.stx_tree.specs.Tree.{Tree, atom, leaf, pair, vector, nil, span_of, is_pair, rest_of}

-- more than any part's
abbrev pub weight : Tree → ℕ
weight (atom s a) = 1
weight (leaf s x c) = 1
weight (pair s a d) = suc (weight a + weight d)
weight (vector s d) = suc (weight d)

-- it can stand behind an element: a list and Nil have no span there
abbrev pub IsRest : Tree → Type 0
IsRest t = rest_of t ≡ t

-- a list as that of a vector's elements: no span at any pair, and Nil at its end
abbrev pub IsElements : Tree → Type 0
IsElements (atom s a) = atom s a ≡ nil
IsElements (leaf s x c) = ⊥
IsElements (pair s a d) = (s ≡ None) × IsElements d
IsElements (vector s d) = ⊥

-- the first element and the rest of a list, or none of what has no elements
abbrev pub Parts : Option (Tree × Tree) → Tree → Type 0
Parts None t = is_pair t ≡ false
Parts (Some p) t = (t ≡ pair (span_of t) p.0 p.1) × IsRest p.1
