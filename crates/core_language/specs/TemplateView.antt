-- What a template in memory stands for.
use Rattle.std.specs.Prelude.{List, [], ◌∷◌}
use Rattle.core_language.specs.Template.{PlainTemplate, variable, constant, list, vector, PlainItems, none, more}
use Rattle.core_language.specs.declared.template.TemplateItem.{TemplateItem}
use Rattle.core_language.specs.declared.template.TemplateNode.{TemplateNode}
use Rattle.core_language.specs.declared.template.TemplateNode.TheVariants as node

abbrev pub items : List TemplateItem → PlainItems
items [] = none
items (i ∷ is) = more i.template i.ellipses (items is)

abbrev pub seen : TemplateNode → PlainTemplate
seen (node.Variable l d) = variable l d
seen (node.Constant t) = constant t
seen (node.List is tail) = list (items is.items) tail.value
seen (node.Vector is) = vector (items is.items)
