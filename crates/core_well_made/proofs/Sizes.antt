-- An item is smaller than the list that it is in.
use Rattle.std.proofs.Common.{ℕ, zero, suc, ◌<◌, ◌≤◌, List, [], ◌∷◌, length, get_or, arith}
use Rattle.core_language.specs.Template.{PlainItems, none, more, template_size, items_size}
use Rattle.core_language.specs.TemplateView.{items}
use Rattle.core_language.specs.declared.template.TemplateItem.{TemplateItem}

some_items : (is : PlainItems) → 1 ≤ items_size is
some_items none = omega arith
some_items (more t e is) = omega arith

pub item_smaller : (is : List TemplateItem) (i : ℕ) (d : TemplateItem) → i < length is → template_size (get_or is i d).template < items_size (items is)
item_smaller [] i d h = absurd (omega arith)
item_smaller (x ∷ is) zero d h = omega (arith, some_items (items is))
item_smaller (x ∷ is) (suc i) d h = omega (arith, item_smaller is i d (omega arith))
