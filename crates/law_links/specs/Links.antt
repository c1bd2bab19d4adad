-- Where links come from: an identifier that was expanded as a reference, assigned or bound, at the place where it was written.
use Rattle.std.specs.Prelude.{◌≡◌, true, List, Some, Ok}
use Rattle.base_data.specs.Elements.{Among, Each}
use Rattle.base_data.specs.declared.library.LibName.TheVariants as library
use Rattle.base_data.specs.declared.name.FrameNo.{FrameNo}
use Rattle.base_data.specs.declared.name.Label.{Label}
use Rattle.base_data.specs.declared.op.Op.{Op}
use Rattle.base_data.specs.declared.span.Span.{Span}
use Rattle.stx_tree.specs.Tree.{Tree, span_of}
use Rattle.stx_scope.specs.Stands.{stands}
use Rattle.core_language.specs.Core as core
use Rattle.core_language.specs.Core.{PlainCore}
use Rattle.core_language.specs.declared.link.Link.{Link}
use Rattle.core_language.specs.declared.link.LinkKind.{LinkKind}
use Rattle.core_language.specs.declared.link.LinkKind.TheVariants as kinds
use Rattle.core_shapes.specs.Lists.{is_leaf}
use Rattle.expand_standing.specs.Binders.{put_row}
use Rattle.expand_standing.specs.Standing.{label_standing}
use Rattle.expand_standing.specs.State.{State}
use Rattle.expand_standing.specs.declared.standing.Standing.TheVariants as standing
use Rattle.law_references.specs.Noted.{Reference, KeywordExpression, Noted}

abbrev pub link_to : Span → Label → LinkKind → Link
link_to p l k = record { span = p; label = l; kind = k }

-- the label of a primitive is its number among the names of the implementation
abbrev pub primitive_label : Op → Label
primitive_label o = record { 0 = record { library = library.Core; number = o.0 } }

-- Each link is that of an identifier with a span, which stood for the label in some state: a variable, or a primitive; or whose row with the label was put into a
-- frame.
pub data IsLink : Link → Type 0 where
  refers : (t : Tree) (s : State) {p : Span} {l : Label} → is_leaf t ≡ true → span_of t ≡ Some p → stands s.frames t ≡ Some l → IsLink (link_to p l kinds.Refer)
  is_primitive : (t : Tree) (s : State) (l : Label) {p : Span} {o : Op} → is_leaf t ≡ true → span_of t ≡ Some p
      → stands s.frames t ≡ Some l → label_standing s l ≡ standing.Primitive o
      → IsLink (link_to p (primitive_label o) (kinds.Prim o))
  binds : (t : Tree) (s u : State) (place : Span) (f : FrameNo) {p : Span} {l : Label} → is_leaf t ≡ true → span_of t ≡ Some p
      → put_row t place f l s ≡ Ok (tt, u) → IsLink (link_to p l kinds.Bind)

-- the link of a reference with this code; pattern variables of templates have none
abbrev pub CodeLinked : List Link → Span → PlainCore → Type 0
CodeLinked ls p (core.variable l) = Among ls (link_to p l kinds.Refer)
CodeLinked ls p (core.primitive o) = Among ls (link_to p (primitive_label o) (kinds.Prim o))
CodeLinked ls p _ = Unit {0}

-- an identifier with a span that became a reference is linked
abbrev pub IsLinked : List Link → Reference → Type 0
IsLinked ls r = (p : Span) → span_of r.leaf ≡ Some p → CodeLinked ls p r.code

abbrev pub AreLinked : List Link → List Reference → Type 0
AreLinked ls refs = Each (IsLinked ls) refs

abbrev pub ExpressionsLinked : List Link → List KeywordExpression → Type 0
ExpressionsLinked ls es = Each (λ (e : KeywordExpression). AreLinked ls e.references) es

abbrev pub NotedLinked : List Link → Noted → Type 0
NotedLinked ls x = AreLinked ls x.references × ExpressionsLinked ls x.expressions
