-- What the parts of a tree are, as the cases of its codec.
use Rattle.std.specs.Prelude.{Bool, true, false, List, [], ◌∷◌, Option, Some, None, if◌then◌else◌}
use Rattle.std.proofs.Common.{◌≡◌, inl, inr}
use Rattle.core_codec.specs.Trees.{TreeNode, tree_to, is_tree, is_rest, is_tail, is_tree_list, elements, tail_of}
use Rattle.stx_tree.specs.Measures.{fits}
use Rattle.stx_tree.specs.Tree.{Tree, pair, span_of}
use Rattle.core_tree_bytes.specs.Contexts.{context_of}
use Rattle.core_tree_bytes.specs.declared.parts.ElementsAndTail.{ElementsAndTail}
use Rattle.core_tree_bytes.specs.declared.parts.TreeParts.{TreeParts}
use Rattle.core_tree_bytes.specs.declared.parts.TreeParts.TheVariants as p
use Rattle.core_tree_bytes.specs.declared.parts.Rest.{Rest}
use Rattle.core_tree_bytes.specs.declared.parts.Rest.TheVariants as r

abbrev pub tree_cases : TreeParts → TreeNode
tree_cases (p.Atom a) = inl a
tree_cases (p.Leaf x c) = inr (inl (x, context_of c))
tree_cases (p.List xs t) = inr (inr (inl (xs.items, t)))
tree_cases (p.Vector xs) = inr (inr (inr xs.items))

-- a list has one element or more, and a tail that is no list
abbrev pub IsProper : TreeParts → Type 0
IsProper (p.Atom a) = Unit {0}
IsProper (p.Leaf x c) = Unit {0}
IsProper (p.List xs t) = is_tree_list (xs.items, t) ≡ true
IsProper (p.Vector xs) = Unit {0}

abbrev pub IsRestOf : Rest → Tree → Type 0
IsRestOf (r.Pair a e) t = t ≡ pair None a e
IsRestOf r.Tail t = is_tail t ≡ true
IsRestOf r.Spanned t = is_rest t ≡ false

-- the elements and the tail of a list with this first element
abbrev pub IsListOf : Option ElementsAndTail → Tree → Tree → Type 0
IsListOf None first rest = is_rest rest ≡ false
IsListOf (Some l) first rest = (l.items.items ≡ first ∷ elements rest) × (l.tail ≡ tail_of rest) × (is_rest rest ≡ true)

-- the parts of a tree that has a spelling, or none
abbrev pub PartsOf : Option TreeParts → Tree → Type 0
PartsOf None t = is_tree t ≡ false
PartsOf (Some q) t = (tree_to t ≡ (span_of t, tree_cases q)) × (is_tree t ≡ true)

abbrev pub within_limits : Tree → Option Tree
within_limits t = if fits t then Some t else None
