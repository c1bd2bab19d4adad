-- What a datum in memory is, as the cases of its codec.
use Rattle.std.specs.Prelude.{ℕ, zero, suc, ◌-◌, ◌<◌, Bool, true, false, IsTrue, List, [], ◌∷◌, ◌++◌, Option, Some, None}
use Rattle.std.proofs.Common.{◌≡◌, refl, sym, ap, ◌∙◌, arith, inl, inr}
use Rattle.base_data.specs.Datum as d
use Rattle.base_data.specs.Datum.{PlainDatum}
use Rattle.base_data.specs.DatumView.{seen}
use Rattle.base_data.specs.declared.datum.Node.{Node}
use Rattle.base_data.specs.declared.datum.Node.TheVariants as node
use Rattle.base_data.specs.declared.span.Span.{Span}
use Rattle.base_bytes.specs.Codec.{never}
use Rattle.core_codec.specs.Trees.{DatumNode, datum, datum_level, datum_node, tree, tree_level}

abbrev pub datum_cases : Node → DatumNode
datum_cases (node.Atom a) = inl a
datum_cases (node.Symbol x) = inr (inl x)
datum_cases (node.List items tail) = inr (inr (inl (items.items, tail.value)))
datum_cases (node.Vector items) = inr (inr (inr items.items))

pub datum_is : (s : Option Span) (n : Node) → seen s n ≡ datum_node s (datum_cases n)
datum_is s (node.Atom a) = refl
datum_is s (node.Symbol x) = refl
datum_is s (node.List items tail) = refl
datum_is s (node.Vector items) = refl

pub datum_none : datum 0 ≡ never
unfolding datum
datum_none = refl

pub datum_more : (room : ℕ) → 0 < room → datum room ≡ datum_level (datum (room - 1))
unfolding datum
datum_more zero h = absurd (omega arith)
datum_more (suc room) h = let same : suc room - 1 ≡ room = omega arith in rw same refl

pub tree_none : tree 0 ≡ never
unfolding tree
tree_none = refl

pub tree_more : (room : ℕ) → 0 < room → tree room ≡ tree_level (tree (room - 1))
unfolding tree
tree_more zero h = absurd (omega arith)
tree_more (suc room) h = let same : suc room - 1 ≡ room = omega arith in rw same refl
