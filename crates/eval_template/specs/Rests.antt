-- Trees of templates under binds of which one took the rest of a list.
use Rattle.std.specs.Prelude.{◌≡◌, List, [], ◌∷◌, ◌++◌, length, true, None, Some, Ok}
use Rattle.stx_tree.specs.Tree.{Tree}
use Rattle.core_language.specs.Template.{PlainTemplate, variable, PlainItems}
use Rattle.core_language.specs.declared.template.TemplateItem.{TemplateItem}
use Rattle.eval_pattern.specs.Rests.{all_of, IsList}
use Rattle.eval_template.specs.Binds.{Binds, unbound, looked_up}
use Rattle.eval_template.specs.Instance.{counts}
use Rattle.eval_template.specs.Measure.{plus, item_cost, measure, items_cost}
use Rattle.eval_template.specs.Trees.{end_tree, item_trees, tree_of, trees_of, all_bound, all_items_bound}
use Rattle.eval_template.specs.declared.rest.RestContext.{RestContext}
use Rattle.eval_template.specs.declared.rest.RestTree.{RestTree}
use Rattle.eval_template.specs.declared.rest.RestTrees.{RestTrees}

abbrev pub with_rest : RestContext → List Tree → Binds
with_rest c xs = c.binds.now ++ (c.label.now, all_of xs) ∷ []

-- it holds under all of the binds, whatever elements the rest has
abbrev pub Under : RestContext → (Binds → Type 0) → Type 0
Under c holds = (xs : List Tree) → length xs ≡ c.count → IsList c.rest.now xs → holds (with_rest c xs)

-- it is the tree of a template whose variables are all bound, and this is what it costs
pub record IsMade (m : RestTree) (t : PlainTemplate) (bs : Binds) : Type 0 where
  pub bound : all_bound bs t ≡ true
  pub tree : tree_of bs t [] ≡ Some m.tree
  pub cost : measure unbound bs t [] ≡ Ok m.cost

-- the same of what ends a list
pub record IsEndMade (m : RestTree) (t : PlainTemplate) (bs : Binds) : Type 0 where
  pub bound : all_bound bs t ≡ true
  pub tree : end_tree t (tree_of bs t []) ≡ Some m.tree
  pub cost : measure unbound bs t [] ≡ Ok m.cost

-- they are the trees of items, with what all cost
pub record AreMade (m : RestTrees) (is : PlainItems) (bs : Binds) : Type 0 where
  pub bound : all_items_bound bs is ≡ true
  pub trees : trees_of bs is [] [] ≡ Some m.trees.items
  pub cost : items_cost unbound bs is [] ≡ Ok m.cost

-- the trees of an item are added to those before, and its cost to theirs
pub record AreAdded (m before : RestTrees) (item : TemplateItem) (bs : Binds) : Type 0 where
  pub bound : all_bound bs item.template ≡ true
  pub trees : item_trees (tree_of bs item.template) (counts unbound bs item.template) item.ellipses [] before.trees.items ≡ Some m.trees.items
  pub cost : plus (Ok before.cost) (item_cost (measure unbound bs item.template) (counts unbound bs item.template) item.ellipses []) ≡ Ok m.cost

-- an item is the variable that took the rest, under its ellipsis
pub record IsRestItem (c : RestContext) (item : TemplateItem) : Type 0 where
  pub template : item.template ≡ variable c.label.now 1
  pub ellipses : item.ellipses ≡ 1
  pub free : looked_up c.binds.now c.label.now ≡ None

-- the last of these items is that one, and these are before it
abbrev pub EndsInRest : RestContext → (before list : List TemplateItem) → Type 0
EndsInRest c before list = (item : TemplateItem) × (list ≡ before ++ item ∷ []) × IsRestItem c item
