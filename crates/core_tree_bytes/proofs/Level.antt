-- What is put at one level of a datum or of a tree.
use Rattle.std.proofs.Common.{◌≡◌, ℕ, Bool, true, false, cond, ◌&&◌, List, [], ◌∷◌, ◌++◌, Option, Some, None, refl, ap, sym, ◌∙◌, append_assoc, inl, inr}
use Rattle.std.specs.Prelude.{IsTrue}
use Rattle.base_data.specs.Datum as d
use Rattle.base_data.specs.Datum.{PlainDatum}
use Rattle.base_data.specs.DatumView.{seen, is_proper, is_some_list}
use Rattle.base_data.specs.declared.datum.Node.{Node}
use Rattle.base_data.specs.declared.datum.Node.TheVariants as node
use Rattle.base_data.specs.declared.span.Span.{Span}
use Rattle.base_bytes.specs.Codec.{Codec, optional, ◌then◌}
use Rattle.base_bytes.specs.Laws.{both}
use Rattle.base_bytes.specs.Names.{span}
use Rattle.base_bytes.specs.Puts.{Puts, PutsIf}
use Rattle.core_codec.specs.TreeLaws.{chain_parts, vector_parts}
use Rattle.core_codec.specs.Trees.{DatumCases, datum_to, is_datum, datum_node_codec, datum_level, TreeCases, tree_to, is_tree, tree_node_codec, tree_level}
use Rattle.stx_tree.specs.Measures.{fits}
use Rattle.stx_tree.specs.Tree.{Tree, span_of}
use Rattle.core_tree_bytes.specs.Parts.{tree_cases}
use Rattle.core_tree_bytes.specs.Seen.{datum_cases}
use Rattle.core_tree_bytes.specs.declared.parts.TreeParts.{TreeParts}

and_true : (b : Bool) → (b && true) ≡ b
and_true true = refl
and_true false = refl

and_false : (b : Bool) → (b && false) ≡ false
and_false true = refl
and_false false = refl

-- a list of one element or more and a tail that is no list
list_level : (s : Option Span) (xs : List PlainDatum) (t : PlainDatum) → (is_some_list xs && d.is_tail t) ≡ true
    → (datum_to (d.listed s xs t) ≡ (s, inr (inr (inl (xs, t))))) × (is_datum (d.listed s xs t) ≡ true)
list_level s [] t h = absurd cc
list_level s (x ∷ xs) t h = let r = chain_parts xs t h in (λ i. (s, inr (inr (inl (x ∷ r.0 i, r.1 i)))), r.2)

level_of : (s : Option Span) (n : Node) → IsTrue (is_proper n) → (datum_to (seen s n) ≡ (s, datum_cases n)) × (is_datum (seen s n) ≡ true)
level_of s (node.Atom a) h = (refl, refl)
level_of s (node.Symbol x) h = (refl, refl)
level_of s (node.List items tail) h = list_level s items.items tail.value h
level_of s (node.Vector items) h = let r = vector_parts items.items in (λ i. (s, inr (inr (inr (r.0 i)))), r.1)

-- a level is put by its span and what it is
module _ {A B : Type 0} (to : B → Option Span × A) (well : B → Bool) (node : Codec A) where
  abbrev Puts-level : B → List ℕ → List ℕ → Bool → Type 0
  Puts-level y old new b =
      (b ≡ (((optional span).fits (to y).0 && node.fits (to y).1) && well y)) × (new ≡ cond b (old ++ ((optional span).put (to y).0 ++ node.put (to y).1)) new)

  level_puts : (y : B) (s : Option Span) (x : A) (old mid new : List ℕ) (b : Bool) → to y ≡ (s, x) → well y ≡ true → Puts (optional span) s old mid → PutsIf node x mid new b → Puts-level y old new b
  level_puts y s x old mid new b t w p q =
      let tests : (((optional span).fits (to y).0 && node.fits (to y).1) && well y) ≡ node.fits x =
      ap (λ (z : Option Span × A). ((optional span).fits z.0 && node.fits z.1) && well y) t
      ∙ ap (λ (v : Bool). ((optional span).fits s && node.fits x) && v) w ∙ and_true ((optional span).fits s && node.fits x) ∙ ap (λ (v : Bool). v && node.fits x) p.1 in
      let bytes : mid ++ node.put x ≡ old ++ ((optional span).put (to y).0 ++ node.put (to y).1) =
      ap (λ (z : List ℕ). z ++ node.put x) p.0 ∙ append_assoc old ((optional span).put s) (node.put x)
      ∙ sym (ap (λ (z : Option Span × A). old ++ ((optional span).put z.0 ++ node.put z.1)) t) in
      (q.0 ∙ sym tests, q.1 ∙ ap (λ (z : List ℕ). cond b z new) bytes)

pub datum_puts : (part : Codec PlainDatum) (s : Option Span) (n : Node) (x : PlainDatum) (old mid new : List ℕ) (b : Bool) → seen s n ≡ x → IsTrue (is_proper n)
    → Puts (optional span) s old mid → PutsIf (datum_node_codec part) (datum_cases n) mid new b → PutsIf (datum_level part) x old new b
unfolding datum_level
datum_puts part s n x old mid new b is proper p q =
    let r = level_of s n proper in
    level_puts datum_to is_datum (datum_node_codec part) x s (datum_cases n) old mid new b (ap datum_to (sym is) ∙ r.0) (ap is_datum (sym is) ∙ r.1) p q

pub tree_puts : (part : Codec Tree) (t : Tree) (parts : TreeParts) (old mid new : List ℕ) (b : Bool) → true ≡ fits t → tree_to t ≡ (span_of t, tree_cases parts) → is_tree t ≡ true
    → Puts (optional span) (span_of t) old mid → PutsIf (tree_node_codec part) (tree_cases parts) mid new b → PutsIf (tree_level part) t old new b
unfolding tree_level
tree_puts part t parts old mid new b within to well p q =
    let r = level_puts tree_to is_tree (tree_node_codec part) t (span_of t) (tree_cases parts) old mid new b to well p q in
    let tests = (((optional span).fits (tree_to t).0 && (tree_node_codec part).fits (tree_to t).1) && is_tree t) in
    (r.0 ∙ sym (and_true tests) ∙ ap (λ (v : Bool). tests && v) within, r.1)

-- a tree beyond the limits has no spelling
pub too_large : (part : Codec Tree) (t : Tree) → fits t ≡ false → (tree_level part).fits t ≡ false
unfolding tree_level
too_large part t h = ap (λ (v : Bool). (((optional span).fits (tree_to t).0 && (tree_node_codec part).fits (tree_to t).1) && is_tree t) && v) h ∙ and_false _

-- nor has one of which a rest has a span
pub not_tree : (part : Codec Tree) (t : Tree) → is_tree t ≡ false → (tree_level part).fits t ≡ false
unfolding tree_level
not_tree part t h =
    let tests = (optional span).fits (tree_to t).0 && (tree_node_codec part).fits (tree_to t).1 in
    ap (λ (v : Bool). (tests && v) && fits t) h ∙ ap (λ (v : Bool). v && fits t) (and_false tests)
