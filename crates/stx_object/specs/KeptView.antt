-- What nodes mean, and the form that they have.
use Rattle.std.specs.Prelude.{◌≡◌, List, Option, None}
use Rattle.base_data.specs.declared.span.Span.{Span}
use Rattle.stx_tree.specs.Tree.{Tree, atom, leaf, pair, vector, spanned}
use Rattle.stx_tree.specs.Measures.{size, height, Fits}
use Rattle.stx_tree.specs.Changes.{changed}
use Rattle.stx_tree.specs.declared.change.Change.{Change}
use Rattle.stx_object.specs.Kept.{IsRest, IsElements}
use Rattle.stx_object.specs.Lengths.{IsCounted}
use Rattle.stx_object.specs.declared.kept.HeightAndSize.{HeightAndSize}
use Rattle.stx_object.specs.declared.kept.TreeShape.{TreeShape}
use Rattle.stx_object.specs.declared.kept.TreeShape.TheVariants as shape
use Rattle.stx_object.specs.declared.kept.SyntaxNode.{SyntaxNode}

abbrev pub shape_tree : TreeShape → Tree
shape_tree (shape.Atom a) = atom None a
shape_tree (shape.Leaf x c) = leaf None x c
shape_tree (shape.Pair e a d) = pair None a d
shape_tree (shape.Vector e d) = vector None d

-- a shape with a span, and then the changes
abbrev pub seen : List Change → Option Span → TreeShape → Tree
seen ws s f = changed ws (spanned s (shape_tree f))

-- a node with the changes that are pending
pub record WholeNode : Type 0 where
  pub wrap : List Change
  pub span : Option Span
  pub shape : TreeShape

abbrev pub whole_of : List Change → SyntaxNode → WholeNode
whole_of ws n = record { wrap = ws; span = n.span; shape = n.shape }

abbrev pub view_of : WholeNode → Tree
view_of n = seen n.wrap n.span n.shape

abbrev pub IsExtent : HeightAndSize → Tree → Type 0
IsExtent e t = (e.height ≡ height t) × (e.size ≡ size t) × IsCounted e.counted t

-- an element and the rest of a list within the limits
pub record IsPair (e : HeightAndSize) (a d : Tree) : Type 0 where
  pub extent : IsExtent e (pair None a d)
  pub fits : Fits (pair None a d)
  pub rest : IsRest d

-- the elements of a vector within the limits
pub record IsVector (e : HeightAndSize) (d : Tree) : Type 0 where
  pub height : e.height ≡ height d
  pub size : e.size ≡ size d
  pub counted : e.counted ≡ 0
  pub fits : Fits d
  pub elements : IsElements d

abbrev pub InShape : TreeShape → Type 0
InShape (shape.Atom a) = Unit {0}
InShape (shape.Leaf x c) = Unit {0}
InShape (shape.Pair e a d) = IsPair e a d
InShape (shape.Vector e d) = IsVector e d
