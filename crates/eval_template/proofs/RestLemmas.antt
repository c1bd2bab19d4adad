-- Binds behind others change nothing of a template whose variables are all among the others.
use Rattle.std.proofs.Common.{◌≡◌, ℕ, suc, ◌+◌, ◌-◌, Bool, true, false, List, [], ◌∷◌, ◌++◌, Some, refl, ap, ◌∙◌}
use Rattle.std.specs.Prelude.{nat_lt, if◌then◌else◌}
use Rattle.std.specs.Cmp.{first_so, second_so}
use Rattle.base_data.specs.Same.{same_name}
use Rattle.base_data.specs.declared.name.Label.{Label}
use Rattle.stx_tree.specs.Measures.{within}
use Rattle.stx_tree.specs.Tree.{Tree, vector_of}
use Rattle.core_language.specs.Template.{PlainTemplate, variable, constant, list, vector, PlainItems, none, more}
use Rattle.eval_pattern.specs.Matched.{and_then}
use Rattle.eval_template.specs.Binds.{Binds, unbound, looked_up, through, innermost, count_of}
use Rattle.eval_template.specs.Instance.{counts}
use Rattle.eval_template.specs.Lengths.{lengths, items_lengths}
use Rattle.eval_template.specs.Measure.{plus, item_cost, measure, items_cost}
use Rattle.eval_template.specs.Trees.{ok_of, tree_in, joined, end_tree, item_trees, tree_of, trees_of, is_there, all_bound, all_items_bound}

pub there : (bs others : Binds) (l : Label) → is_there (looked_up bs l) ≡ true → looked_up (bs ++ others) l ≡ looked_up bs l
there [] others l h = absurd (let g : ⊥ = cc in g)
there (b ∷ bs) others l h = by_name (same_name b.0.0 l.0) h (there bs others l)
  where
    by_name : (c : Bool) → is_there (if c then Some b.1 else looked_up bs l) ≡ true → (is_there (looked_up bs l) ≡ true → looked_up (bs ++ others) l ≡ looked_up bs l)
        → (if c then Some b.1 else looked_up (bs ++ others) l) ≡ (if c then Some b.1 else looked_up bs l)
    by_name true g on = refl
    by_name false g on = on g

pub not_there : (bs others : Binds) (l : Label) → is_there (looked_up bs l) ≡ false → looked_up (bs ++ others) l ≡ looked_up others l
not_there [] others l h = refl
not_there (b ∷ bs) others l h = by_name (same_name b.0.0 l.0) h (not_there bs others l)
  where
    by_name : (c : Bool) → is_there (if c then Some b.1 else looked_up bs l) ≡ false → (is_there (looked_up bs l) ≡ false → looked_up (bs ++ others) l ≡ looked_up others l)
        → (if c then Some b.1 else looked_up (bs ++ others) l) ≡ looked_up others l
    by_name true g on = absurd (let f : ⊥ = cc in f)
    by_name false g on = on g

module _ (bs others : Binds) where
  mutual
    pub bound_more : (t : PlainTemplate) → all_bound bs t ≡ true → all_bound (bs ++ others) t ≡ true
    bound_more (variable l depth) h = ap is_there (there bs others l h) ∙ h
    bound_more (constant t) h = refl
    bound_more (list is t) h = rw (items_bound_more is (first_so (all_items_bound bs is) (all_bound bs t) h), bound_more t (second_so (all_items_bound bs is) (all_bound bs t) h)) refl
    bound_more (vector is) h = items_bound_more is h

    pub items_bound_more : (is : PlainItems) → all_items_bound bs is ≡ true → all_items_bound (bs ++ others) is ≡ true
    items_bound_more none h = refl
    items_bound_more (more t ellipses is) h = rw (bound_more t (first_so (all_bound bs t) (all_items_bound bs is) h), items_bound_more is (second_so (all_bound bs t) (all_items_bound bs is) h)) refl

  mutual
    pub lengths_more : (t : PlainTemplate) → all_bound bs t ≡ true → (is : List ℕ) (inside : ℕ) → lengths unbound (bs ++ others) is inside t ≡ lengths unbound bs is inside t
    lengths_more (variable l depth) h is inside =
        ap (λ o. if nat_lt inside depth then count_of unbound (through o (innermost (depth - suc inside) is)) ∷ [] else []) (there bs others l h)
    lengths_more (constant t) h is inside = refl
    lengths_more (list js t) h is inside =
        let first = items_lengths_more js (first_so (all_items_bound bs js) (all_bound bs t) h) is inside in
        let second = lengths_more t (second_so (all_items_bound bs js) (all_bound bs t) h) is inside in
        λ i. first i ++ second i
    lengths_more (vector js) h is inside = items_lengths_more js h is inside

    pub items_lengths_more : (js : PlainItems) → all_items_bound bs js ≡ true → (is : List ℕ) (inside : ℕ) → items_lengths unbound (bs ++ others) is inside js ≡ items_lengths unbound bs is inside js
    items_lengths_more none h is inside = refl
    items_lengths_more (more t ellipses js) h is inside =
        let first = lengths_more t (first_so (all_bound bs t) (all_items_bound bs js) h) is (inside + ellipses) in
        let second = items_lengths_more js (second_so (all_bound bs t) (all_items_bound bs js) h) is inside in
        λ i. first i ++ second i

  mutual
    pub tree_more : (t : PlainTemplate) → all_bound bs t ≡ true → tree_of (bs ++ others) t ≡ tree_of bs t
    tree_more (variable l depth) h = λ i is. tree_in (through (there bs others l h i) (innermost depth is))
    tree_more (constant t) h = refl
    tree_more (list js t) h =
        let first = trees_more js (first_so (all_items_bound bs js) (all_bound bs t) h) in
        let second = tree_more t (second_so (all_items_bound bs js) (all_bound bs t) h) in
        λ i is. and_then (first i is []) (λ xs. and_then (end_tree t (second i is)) (joined xs))
    tree_more (vector js) h =
        let first = trees_more js h in
        λ i is. and_then (first i is []) (λ xs. ok_of (within (vector_of xs)))

    pub trees_more : (js : PlainItems) → all_items_bound bs js ≡ true → trees_of (bs ++ others) js ≡ trees_of bs js
    trees_more none h = refl
    trees_more (more t ellipses js) h =
        let bound = first_so (all_bound bs t) (all_items_bound bs js) h in
        let tree = tree_more t bound in
        let second = trees_more js (second_so (all_bound bs t) (all_items_bound bs js) h) in
        λ i is done. and_then (item_trees (tree i) (λ inside turns. lengths_more t bound turns inside i) ellipses is done) (second i is)

  mutual
    pub cost_more : (t : PlainTemplate) → all_bound bs t ≡ true → measure unbound (bs ++ others) t ≡ measure unbound bs t
    cost_more (variable l depth) h = refl
    cost_more (constant t) h = refl
    cost_more (list js t) h =
        let first = items_cost_more js (first_so (all_items_bound bs js) (all_bound bs t) h) in
        let second = cost_more t (second_so (all_items_bound bs js) (all_bound bs t) h) in
        λ i is. plus (first i is) (second i is)
    cost_more (vector js) h = items_cost_more js h

    pub items_cost_more : (js : PlainItems) → all_items_bound bs js ≡ true → items_cost unbound (bs ++ others) js ≡ items_cost unbound bs js
    items_cost_more none h = refl
    items_cost_more (more t ellipses js) h =
        let bound = first_so (all_bound bs t) (all_items_bound bs js) h in
        let cost = cost_more t bound in
        let second = items_cost_more js (second_so (all_bound bs t) (all_items_bound bs js) h) in
        λ i is. plus (item_cost (cost i) (λ inside turns. lengths_more t bound turns inside i) ellipses is) (second i is)

  -- an item whose variables are all there
  pub item_trees_more : (t : PlainTemplate) → all_bound bs t ≡ true → (ellipses : ℕ) (is : List ℕ) (done : List Tree)
      → item_trees (tree_of (bs ++ others) t) (counts unbound (bs ++ others) t) ellipses is done ≡ item_trees (tree_of bs t) (counts unbound bs t) ellipses is done
  item_trees_more t h ellipses is done =
      let tree = tree_more t h in
      λ i. item_trees (tree i) (λ inside turns. lengths_more t h turns inside i) ellipses is done

  pub item_cost_more : (t : PlainTemplate) → all_bound bs t ≡ true → (ellipses : ℕ) (is : List ℕ)
      → item_cost (measure unbound (bs ++ others) t) (counts unbound (bs ++ others) t) ellipses is ≡ item_cost (measure unbound bs t) (counts unbound bs t) ellipses is
  item_cost_more t h ellipses is =
      let cost = cost_more t h in
      λ i. item_cost (cost i) (λ inside turns. lengths_more t h turns inside i) ellipses is
