-- The binding map as a relation: which identifier leads to which binder.
use Rattle.std.specs.Prelude.{◌≡◌, ◌<◌, ◌↔◌, ℕ, List, ◌∷◌, ◌++◌, Some, slice_get}
use Rattle.std.specs.List.{Contains}
use Rattle.base_data.specs.declared.name.Label.{Label}
use Rattle.base_data.specs.declared.op.Op.{Op}
use Rattle.base_data.specs.declared.span.Span.{Span}
use Rattle.core_language.specs.declared.link.Link.{Link}
use Rattle.core_language.specs.declared.link.LinkKind.{LinkKind}
use Rattle.core_language.specs.declared.link.LinkKind.TheVariants as kinds
use Rattle.core_language.specs.declared.link.Target.{Target}
use Rattle.core_language.specs.declared.link.Target.TheVariants as target
use Rattle.run_xref.specs.Map.{binding_map}
use Rattle.run_xref.specs.declared.pair.Pair.{Pair}

-- an identifier stands for a variable
abbrev pub IsVariable : LinkKind → Type 0
IsVariable kinds.Bind = Unit {0}
IsVariable kinds.Refer = Unit {0}
IsVariable (kinds.Prim o) = ⊥

-- an identifier binds a label
abbrev pub Binds : Label → Link → Type 0
Binds l k = (k.kind ≡ kinds.Bind) × (k.label ≡ l)

-- The first identifier that binds a label.
pub record IsBinder (links : List Link) (l : Label) (b : Link) : Type 0 where
  pub before : List Link
  pub behind : List Link
  pub there : links ≡ before ++ b ∷ behind
  pub binds : Binds l b
  pub first : (k : Link) → Contains before k → ¬ Binds l k

-- An identifier of a variable leads to the identifier that binds what it stands for, or to nothing where no source binds it;
-- that of a primitive leads to the primitive.
pub data LeadsTo (links : List Link) (k : Link) : Target → Type 0 where
  to_binder : (b : Link) → IsVariable k.kind → IsBinder links k.label b → LeadsTo links k (target.Place b.span)
  to_nothing : IsVariable k.kind → ((b : Link) → Contains links b → ¬ Binds k.label b) → LeadsTo links k target.Nowhere
  to_primitive : (o : Op) → k.kind ≡ kinds.Prim o → LeadsTo links k (target.Prim o)

-- A pair of an identifier of a source and what it leads to.
pub record Relates (links : List Link) (p : Pair) : Type 0 where
  pub link : Link
  pub there : Contains links link
  pub span : p.span ≡ link.span
  pub leads : LeadsTo links link p.target

-- the map has exactly the pairs of identifiers with what they lead to
abbrev pub MapIsExact : Type 0
MapIsExact = (links : List Link) (p : Pair) → Contains (binding_map links) p ↔ Relates links p

-- ---- order

-- The first identifier of a file stands before every identifier of another.
pub record ComesFirst (links : List Link) (file other : List ℕ) : Type 0 where
  pub before : List Link
  pub behind : List Link
  pub link : Link
  pub there : links ≡ before ++ link ∷ behind
  pub in_file : link.span.file ≡ file
  pub differ : ¬ (file ≡ other)
  pub first : (k : Link) → Contains before k → ¬ (k.span.file ≡ other)

-- Spans stand by their files, and in a file by their starts, and then by their ends.
pub data Precedes (links : List Link) (a b : Span) : Type 0 where
  by_file : ComesFirst links a.file b.file → Precedes links a b
  by_start : a.file ≡ b.file → a.from < b.from → Precedes links a b
  by_end : a.file ≡ b.file → a.from ≡ b.from → a.to < b.to → Precedes links a b

-- Targets stand by their places; then comes `Nowhere`, and then primitives by their numbers.
pub data ComesBefore (links : List Link) : Target → Target → Type 0 where
  places : (a b : Span) → Precedes links a b → ComesBefore links (target.Place a) (target.Place b)
  place_first : (a : Span) → ComesBefore links (target.Place a) target.Nowhere
  place_too : (a : Span) (o : Op) → ComesBefore links (target.Place a) (target.Prim o)
  nothing_first : (o : Op) → ComesBefore links target.Nowhere (target.Prim o)
  primitives : (o q : Op) → o.0 < q.0 → ComesBefore links (target.Prim o) (target.Prim q)

-- Pairs stand by their identifiers, and then by their targets.
pub data StandsBefore (links : List Link) (p q : Pair) : Type 0 where
  by_place : Precedes links p.span q.span → StandsBefore links p q
  by_target : p.span ≡ q.span → ComesBefore links p.target q.target → StandsBefore links p q

-- of two pairs of the map the earlier one stands before the later
abbrev pub MapIsOrdered : Type 0
MapIsOrdered = (links : List Link) (i j : ℕ) (p q : Pair) → i < j → slice_get (binding_map links) i ≡ Some p → slice_get (binding_map links) j ≡ Some q
    → StandsBefore links p q

-- and no pair stands in it twice
abbrev pub MapIsOnce : Type 0
MapIsOnce = (links : List Link) (i j : ℕ) (p : Pair) → slice_get (binding_map links) i ≡ Some p → slice_get (binding_map links) j ≡ Some p → i ≡ j
