-- Parts are smaller than what they are part of.
use Rattle.std.proofs.Common.{◌≡◌, ℕ, zero, suc, ◌+◌, ◌<◌, List, [], ◌∷◌, length, get_or, Option, None, Some, arith, Bool, true, false}
use Rattle.stx_tree.specs.Tree.{Tree, chain, nil}
use Rattle.stx_tree.specs.Measures.{size}
use Rattle.stx_tree.proofs.MeasureLaws.{size-some}
use Rattle.base_data.specs.declared.name.Label.{Label}
use Rattle.core_language.specs.declared.core_form.CoreForm.TheVariants as form
use Rattle.core_shapes.specs.Lists.{elements}
use Rattle.eval_pattern.specs.Keywords.{is_form}
use Rattle.eval_pattern.proofs.Sizes.{elements_within}
use Rattle.eval_template.specs.Compile.{escaped_form}
use Rattle.std.specs.Prelude.{if◌then◌else◌}
use Rattle.core_language.specs.Template.{PlainItems, none, more, template_size, items_size}
use Rattle.core_language.specs.TemplateView.{items}
use Rattle.core_language.specs.declared.template.TemplateItem.{TemplateItem}

some_items : (is : PlainItems) → 0 < items_size is
some_items none = omega arith
some_items (more t e is) = omega arith

pub item_smaller : (is : List TemplateItem) (i : ℕ) (d : TemplateItem) → i < length is → template_size (get_or is i d).template + (get_or is i d).ellipses < items_size (items is)
item_smaller [] i d h = absurd (omega arith)
item_smaller (x ∷ is) zero d h = omega (arith, some_items (items is))
item_smaller (x ∷ is) (suc i) d h = omega (arith, item_smaller is i d (omega arith))

first_smaller : (x y : Tree) → size y < size (chain (x ∷ (y ∷ [])) nil)
first_smaller x y = omega (arith, size-some x)

escaped_below : (first : Option Label) (escaped ends : Bool) (ts : List Tree) (u : Tree) → escaped_form first escaped ts ends ≡ Some u → size u < size (chain ts nil)
escaped_below first true ends ts u h = absurd (cc)
escaped_below first false ends [] u h = absurd (cc)
escaped_below first false ends (x ∷ []) u h = absurd (cc)
escaped_below first false false (x ∷ (y ∷ [])) u h = absurd (cc)
escaped_below first false true (x ∷ (y ∷ [])) u h = go (is_form form.Ellipsis first) h
  where
    go : (b : Bool) → (if b then Some y else None) ≡ Some u → size u < size (chain (x ∷ (y ∷ [])) nil)
    go true e = let f : y ≡ u = cc in rw (← f) (first_smaller x y)
    go false e = absurd (cc)
escaped_below first false ends (x ∷ (y ∷ (z ∷ zs))) u h = absurd (cc)

pub escaped_smaller : (first : Option Label) (escaped ends : Bool) (t u : Tree) → escaped_form first escaped (elements t) ends ≡ Some u → size u < size t
escaped_smaller first escaped ends t u h = omega (arith, escaped_below first escaped ends (elements t) u h, elements_within t)
