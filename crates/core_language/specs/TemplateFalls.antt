-- A part of a template is smaller than it.
use Rattle.std.specs.Prelude.{◌≤◌, max, List, [], ◌∷◌}
use Rattle.std.proofs.Common.{arith}
use denote.Param.Weighed.{most}
use Rattle.core_language.specs.Template.{template_size, items_size}
use Rattle.core_language.specs.TemplateView.{seen, items}
use Rattle.core_language.specs.declared.template.TemplateItem.{TemplateItem}
use Rattle.core_language.specs.declared.template.TemplateNode.{TemplateNode}
use Rattle.core_language.specs.declared.template.TemplateNode.TheVariants as node
use Rattle.core_language.specs.declared.template.Template.TheDeep.{deep-TemplateNode, deep-TemplateItem}

pub items_below : (is : List TemplateItem) → most deep-TemplateItem is ≤ items_size (items is)
items_below [] = omega arith
items_below (i ∷ is) = omega (arith, items_below is)

pub seen_falls : (t : TemplateNode) → max (deep-TemplateNode t) 0 ≤ template_size (seen t)
seen_falls (node.Variable l d) = omega arith
seen_falls (node.Constant s) = omega arith
seen_falls (node.List is tail) = omega (arith, items_below is.items)
seen_falls (node.Vector is) = omega (arith, items_below is.items)
