-- Lists, vectors and items of templates of which one variable took the rest of a list.
use Rattle.std.proofs.Common.{◌≡◌, ℕ, ◌+◌, ◌<◌, ◌≤◌, ◌&&◌, Bool, true, false, List, [], ◌∷◌, ◌++◌, length, get_or, drop, Option, None, Some, Ok, Err, refl, sym, ap, ◌∙◌, subst, arith}
use Rattle.std.specs.Prelude.{if◌then◌else◌}
use Rattle.std.specs.Cmp.{first_so, second_so}
use Rattle.std.proofs.lemmas.List.{drop_all}
use Rattle.base_data.specs.declared.name.Label.{Label}
use Rattle.stx_tree.specs.Tree.{Tree, pair, chain, nil, list_of, vector_of, rest_of, spanned, is_list}
use Rattle.stx_tree.specs.Measures.{within}
use Rattle.core_language.specs.Template.{PlainTemplate, variable, constant, list, vector, PlainItems, items_size}
use Rattle.core_language.specs.TemplateView.{items}
use Rattle.core_language.specs.declared.template.TemplateItem.{TemplateItem}
use Rattle.eval_pattern.specs.Matched.{and_then}
use Rattle.eval_pattern.specs.Rests.{all_of, IsList}
use Rattle.eval_template.specs.Binds.{Binds, unbound, looked_up, reached}
use Rattle.eval_template.specs.Instance.{counts, is_end}
use Rattle.eval_template.specs.Measure.{Cost, plus, item_cost, measure, items_cost}
use Rattle.eval_template.specs.Rests.{with_rest, Under, IsMade, IsEndMade, AreMade, AreAdded, EndsInRest}
use Rattle.eval_template.specs.Trees.{ok_of, tree_in, joined, end_tree, item_trees, tree_of, trees_of, all_bound, all_items_bound, is_there}
use Rattle.eval_template.specs.declared.rest.RestContext.{RestContext}
use Rattle.eval_template.specs.declared.rest.RestTree.{RestTree}
use Rattle.eval_template.specs.declared.rest.RestTrees.{RestTrees}
use Rattle.eval_template.proofs.Agreed.{items_here}
use Rattle.eval_template.proofs.RestLemmas.{bound_more, tree_more, item_trees_more, item_cost_more}
use Rattle.eval_template.proofs.RestItem.{found, rest_trees, rest_cost}

plus_assoc : (a b c : Cost) → plus a (plus b c) ≡ plus (plus a b) c
plus_assoc (Ok m) (Ok n) (Ok k) = ap Ok (omega arith)
plus_assoc (Ok m) (Ok n) (Err f) = refl
plus_assoc (Ok m) (Err f) c = refl
plus_assoc (Err f) b c = refl

plus_none : (c : Cost) → plus c (Ok 0) ≡ c
plus_none (Ok n) = ap Ok (omega arith)
plus_none (Err f) = refl

none_plus : (c : Cost) → plus (Ok 0) c ≡ c
none_plus (Ok n) = ap Ok (omega arith)
none_plus (Err f) = refl

then_some : {A : Type 0} (o : Option A) → and_then o (λ x. Some x) ≡ o
then_some None = refl
then_some (Some x) = refl

-- One item behind others.

module _ (bs : Binds) (j : TemplateItem) where
  pub bound_last : (is : List TemplateItem) → all_items_bound bs (items is) ≡ true → all_bound bs j.template ≡ true → all_items_bound bs (items (is ++ j ∷ [])) ≡ true
  bound_last [] h k = rw k refl
  bound_last (i ∷ is) h k =
      rw (first_so (all_bound bs i.template) (all_items_bound bs (items is)) h, bound_last is (second_so (all_bound bs i.template) (all_items_bound bs (items is)) h) k) refl

  abbrev last_trees : List Tree → Option (List Tree)
  last_trees = item_trees (tree_of bs j.template) (counts unbound bs j.template) j.ellipses []

  pub trees_last : (is : List TemplateItem) (done : List Tree) → trees_of bs (items (is ++ j ∷ [])) [] done ≡ and_then (trees_of bs (items is) [] done) last_trees
  trees_last [] done = then_some (last_trees done)
  trees_last (i ∷ is) done = go (item_trees (tree_of bs i.template) (counts unbound bs i.template) i.ellipses [] done) (trees_last is)
    where
      go : (o : Option (List Tree)) → ((xs : List Tree) → trees_of bs (items (is ++ j ∷ [])) [] xs ≡ and_then (trees_of bs (items is) [] xs) last_trees)
          → and_then o (trees_of bs (items (is ++ j ∷ [])) []) ≡ and_then (and_then o (trees_of bs (items is) [])) last_trees
      go None h = refl
      go (Some xs) h = h xs

  abbrev last_cost : Cost
  last_cost = item_cost (measure unbound bs j.template) (counts unbound bs j.template) j.ellipses []

  pub cost_last : (is : List TemplateItem) → items_cost unbound bs (items (is ++ j ∷ [])) [] ≡ plus (items_cost unbound bs (items is) []) last_cost
  cost_last [] = plus_none last_cost ∙ sym (none_plus last_cost)
  cost_last (i ∷ is) =
      ap (plus (item_cost (measure unbound bs i.template) (counts unbound bs i.template) i.ellipses [])) (cost_last is)
      ∙ plus_assoc (item_cost (measure unbound bs i.template) (counts unbound bs i.template) i.ellipses []) (items_cost unbound bs (items is) []) last_cost

-- Lists on the rest.

chain_rest : (xs : List Tree) → rest_of (chain xs nil) ≡ chain xs nil
chain_rest [] = refl
chain_rest (x ∷ xs) = refl

chain_list : (xs : List Tree) → is_list (chain xs nil) ≡ true
chain_list [] = refl
chain_list (x ∷ xs) = refl

chain_on : (xs ys : List Tree) → chain xs (chain ys nil) ≡ chain (xs ++ ys) nil
chain_on [] ys = refl
chain_on (x ∷ xs) ys = ap (λ t. pair None x t) (chain_on xs ys)

list_root : (t : Tree) (xs : List Tree) → IsList t xs → spanned None t ≡ chain xs nil
list_root t xs h = go (is_list t) refl h
  where
    go : (b : Bool) → is_list t ≡ b → (if b then spanned None t else t) ≡ chain xs nil → spanned None t ≡ chain xs nil
    go true e h = h
    go false e h = absurd (let g : false ≡ true = sym e ∙ ap is_list h ∙ chain_list xs in let f : ⊥ = cc in f)

no_parts : ok_of (within nil) ≡ Some nil
unfolding within
no_parts = refl

-- the same list, whether its last elements are joined on or are among the others
pub joined_rest : (ts xs : List Tree) (t : Tree) → IsList t xs → joined (ts ++ xs) nil ≡ ok_of (within (list_of ts (Some (spanned None t))))
joined_rest [] [] t h = sym (ap (λ u. ok_of (within u)) (list_root t [] h) ∙ no_parts)
joined_rest [] (x ∷ xs) t h = sym (ap (λ u. ok_of (within u)) (list_root t (x ∷ xs) h))
joined_rest (y ∷ ts) xs t h =
    sym (ap (λ u. ok_of (within (chain (y ∷ ts) (rest_of u)))) (list_root t xs h) ∙ ap (λ u. ok_of (within (chain (y ∷ ts) u))) (chain_rest xs) ∙ ap (λ u. ok_of (within u)) (chain_on (y ∷ ts) xs))

-- what ends a list that ends in the rest
end_bound : (bs : Binds) (t : PlainTemplate) → is_end t ≡ true → all_bound bs t ≡ true
end_bound bs (variable l d) h = absurd (let f : ⊥ = cc in f)
end_bound bs (constant t) h = refl
end_bound bs (list is t) h = absurd (let f : ⊥ = cc in f)
end_bound bs (vector is) h = absurd (let f : ⊥ = cc in f)

end_cost : (bs : Binds) (t : PlainTemplate) → is_end t ≡ true → measure unbound bs t [] ≡ Ok 0
end_cost bs (variable l d) h = refl
end_cost bs (constant t) h = refl
end_cost bs (list is t) h = absurd (let f : ⊥ = cc in f)
end_cost bs (vector is) h = absurd (let f : ⊥ = cc in f)

module _ (c : RestContext) (m : RestTrees) (before whole : List TemplateItem) (tail : PlainTemplate) (v : RestTree) (made : Under c (AreMade m (items before)))
    (is_joined : Some v.tree ≡ ok_of (within (list_of m.trees.items (Some (spanned None c.rest.now))))) (sum : v.cost ≡ m.cost + c.count) (nil_tail : is_end tail ≡ true)
    (ends : EndsInRest c before whole) where
  pub on_rest : Under c (IsMade v (list (items whole) tail))
  on_rest xs size is =
      let bs = with_rest c xs in
      let x = ends.0 in
      let own = c.binds.now in
      let l = c.label.now in
      let given = made xs size is in
      let item_bound : all_bound bs x.template ≡ true = ap (all_bound bs) ends.2.template ∙ ap is_there (found own l xs ends.2.free) in
      let item_given : item_trees (tree_of bs x.template) (counts unbound bs x.template) x.ellipses [] m.trees.items ≡ Some (m.trees.items ++ xs) =
      (λ i. item_trees (tree_of bs (ends.2.template i)) (counts unbound bs (ends.2.template i)) (ends.2.ellipses i) [] m.trees.items) ∙ rest_trees own l xs ends.2.free m.trees.items in
      let item_costs : item_cost (measure unbound bs x.template) (counts unbound bs x.template) x.ellipses [] ≡ Ok (length xs) =
      (λ i. item_cost (measure unbound bs (ends.2.template i)) (counts unbound bs (ends.2.template i)) (ends.2.ellipses i) []) ∙ rest_cost own l xs ends.2.free in
      let all_trees : trees_of bs (items whole) [] [] ≡ Some (m.trees.items ++ xs) =
      ap (λ js. trees_of bs (items js) [] []) ends.1 ∙ trees_last bs x before []
      ∙ ap (λ o. and_then o (item_trees (tree_of bs x.template) (counts unbound bs x.template) x.ellipses [])) given.trees ∙ item_given in
      let all_costs : items_cost unbound bs (items whole) [] ≡ Ok (m.cost + length xs) =
      ap (λ js. items_cost unbound bs (items js) []) ends.1 ∙ cost_last bs x before
      ∙ ap (λ k. plus k (item_cost (measure unbound bs x.template) (counts unbound bs x.template) x.ellipses [])) given.cost ∙ ap (plus (Ok m.cost)) item_costs in
      let whole_sum : m.cost + length xs + 0 ≡ v.cost = omega (arith, size, sum) in
      record {
        bound = rw (ap (λ js. all_items_bound bs (items js)) ends.1 ∙ bound_last bs x before given.bound item_bound, end_bound bs tail nil_tail) refl;
        tree = ap (λ o. and_then o (λ ys. and_then (end_tree tail (tree_of bs tail [])) (joined ys))) all_trees
            ∙ ap (λ b. and_then (if b then Some nil else tree_of bs tail []) (joined (m.trees.items ++ xs))) nil_tail
            ∙ joined_rest m.trees.items xs c.rest.now is ∙ sym is_joined;
        cost = ap (λ k. plus k (measure unbound bs tail [])) all_costs ∙ ap (plus (Ok (m.cost + length xs))) (end_cost bs tail nil_tail) ∙ ap Ok whole_sum;
      }

-- Other templates.

module _ (c : RestContext) where
  pub constant_made : (t u : Tree) → u ≡ t → Under c (IsMade (record { tree = u; cost = 0 }) (constant t))
  constant_made t u same xs size is = record { bound = refl; tree = ap Some (sym same); cost = refl }

  pub variable_made : (l : Label) (d : ℕ) (u : Tree) → is_there (looked_up c.binds.now l) ≡ true → Some u ≡ tree_in (reached c.binds.now l d [])
      → Under c (IsMade (record { tree = u; cost = 0 }) (variable l d))
  variable_made l d u bound given xs size is =
      let more = tree_more c.binds.now ((c.label.now, all_of xs) ∷ []) (variable l d) bound in
      record {
        bound = bound_more c.binds.now ((c.label.now, all_of xs) ∷ []) (variable l d) bound;
        tree = (λ i. more i []) ∙ sym given;
        cost = refl;
      }

  pub nil_made : (t : PlainTemplate) → is_end t ≡ true → Under c (IsEndMade (record { tree = nil; cost = 0 }) t)
  nil_made t h xs size is =
      let bs = with_rest c xs in
      record {
        bound = end_bound bs t h;
        tree = ap (λ b. if b then Some nil else tree_of bs t []) h;
        cost = end_cost bs t h;
      }

  pub end_made : (m : RestTree) (t : PlainTemplate) → is_end t ≡ false → Under c (IsMade m t) → Under c (IsEndMade m t)
  end_made m t h made xs size is =
      let bs = with_rest c xs in
      let given = made xs size is in
      record {
        bound = given.bound;
        tree = ap (λ b. if b then Some nil else tree_of bs t []) h ∙ given.tree;
        cost = given.cost;
      }

  module _ (m : RestTrees) (js : PlainItems) (v : RestTree) (made : Under c (AreMade m js)) where
    pub list_made : (e : RestTree) (t : PlainTemplate) → Under c (IsEndMade e t) → Some v.tree ≡ joined m.trees.items e.tree → v.cost ≡ m.cost + e.cost → Under c (IsMade v (list js t))
    list_made e t end is_joined sum xs size is =
        let bs = with_rest c xs in
        let given = made xs size is in
        let last = end xs size is in
        record {
          bound = rw (given.bound, last.bound) refl;
          tree = ap (λ o. and_then o (λ ys. and_then (end_tree t (tree_of bs t [])) (joined ys))) given.trees ∙ ap (λ o. and_then o (joined m.trees.items)) last.tree ∙ sym is_joined;
          cost = ap (λ k. plus k (measure unbound bs t [])) given.cost ∙ ap (plus (Ok m.cost)) last.cost ∙ ap Ok (sym sum);
        }

    pub vector_made : Some v.tree ≡ ok_of (within (vector_of m.trees.items)) → v.cost ≡ m.cost → Under c (IsMade v (vector js))
    vector_made whole sum xs size is =
        let given = made xs size is in
        record {
          bound = given.bound;
          tree = ap (λ o. and_then o (λ ys. ok_of (within (vector_of ys)))) given.trees ∙ sym whole;
          cost = given.cost ∙ ap Ok (sym sum);
        }

  -- An item behind others.

  module _ (x : TemplateItem) (done k : RestTrees) where
    pub one_added : (one : RestTree) → x.ellipses ≡ 0 → Under c (IsMade one x.template) → k.trees.items ≡ done.trees.items ++ one.tree ∷ [] → k.cost ≡ done.cost + (one.cost + 1)
        → Under c (AreAdded k done x)
    one_added one none made pushed sum xs size is =
        let bs = with_rest c xs in
        let given = made xs size is in
        record {
          bound = given.bound;
          trees = ap (λ e. item_trees (tree_of bs x.template) (counts unbound bs x.template) e [] done.trees.items) none
              ∙ ap (λ o. and_then o (λ t. Some (done.trees.items ++ t ∷ []))) given.tree ∙ ap Some (sym pushed);
          cost = ap (λ e. plus (Ok done.cost) (item_cost (measure unbound bs x.template) (counts unbound bs x.template) e [])) none
              ∙ ap (λ d. plus (Ok done.cost) (plus d (Ok 1))) given.cost ∙ ap Ok (sym sum);
        }

    pub all_added : (own : ℕ) → all_bound c.binds.now x.template ≡ true
        → item_cost (measure unbound c.binds.now x.template) (counts unbound c.binds.now x.template) x.ellipses [] ≡ Ok own
        → Some k.trees.items ≡ item_trees (tree_of c.binds.now x.template) (counts unbound c.binds.now x.template) x.ellipses [] done.trees.items
        → k.cost ≡ done.cost + own → Under c (AreAdded k done x)
    all_added own bound costs given sum xs size is =
        let others = (c.label.now, all_of xs) ∷ [] in
        record {
          bound = bound_more c.binds.now others x.template bound;
          trees = item_trees_more c.binds.now others x.template bound x.ellipses [] done.trees.items ∙ sym given;
          cost = ap (plus (Ok done.cost)) (item_cost_more c.binds.now others x.template bound x.ellipses [] ∙ costs) ∙ ap Ok (sym sum);
        }

-- Items, from left to right: what those from a place on add to those before is what all give.

pub record GoesOn (m : RestTrees) (left all : PlainItems) (bs : Binds) : Type 0 where
  pub bound : all_items_bound bs left ≡ all_items_bound bs all
  pub trees : trees_of bs left [] m.trees.items ≡ trees_of bs all [] []
  pub cost : plus (Ok m.cost) (items_cost unbound bs left []) ≡ items_cost unbound bs all []

pub begins : (m : RestTrees) (is : PlainItems) (bs : Binds) → m.trees.items ≡ [] → m.cost ≡ 0 → GoesOn m is is bs
begins m is bs none free = record {
  bound = refl;
  trees = ap (trees_of bs is []) none;
  cost = ap (λ n. plus (Ok n) (items_cost unbound bs is [])) free ∙ none_plus (items_cost unbound bs is []);
}

module _ (is : List TemplateItem) (i : ℕ) (m : RestTrees) (all : PlainItems) (bs : Binds) (so_far : GoesOn m (items (drop i is)) all bs) where
  pub goes_on : (x : TemplateItem) (k : RestTrees) → i < length is → x ≡ get_or is i x → AreAdded k m x bs → GoesOn k (items (drop (i + 1) is)) all bs
  goes_on x k h e added =
      let here = items_here is i x h e in
      let after = items (drop (i + 1) is) in
      let own = item_cost (measure unbound bs x.template) (counts unbound bs x.template) x.ellipses [] in
      record {
        bound = ap (λ b. b && all_items_bound bs after) (sym added.bound) ∙ sym (ap (all_items_bound bs) here) ∙ so_far.bound;
        trees = ap (λ o. and_then o (trees_of bs after [])) (sym added.trees) ∙ sym (ap (λ js. trees_of bs js [] m.trees.items) here) ∙ so_far.trees;
        cost = ap (λ d. plus d (items_cost unbound bs after [])) (sym added.cost) ∙ sym (plus_assoc (Ok m.cost) own (items_cost unbound bs after []))
            ∙ sym (ap (λ js. plus (Ok m.cost) (items_cost unbound bs js [])) here) ∙ so_far.cost;
      }

  pub all_made : length is ≤ i → AreMade m all bs
  all_made h =
      let none : items (drop i is) ≡ items [] = ap items (drop_all i is h) in
      record {
        bound = sym so_far.bound ∙ ap (all_items_bound bs) none;
        trees = sym so_far.trees ∙ ap (λ js. trees_of bs js [] m.trees.items) none;
        cost = sym so_far.cost ∙ ap (λ js. plus (Ok m.cost) (items_cost unbound bs js [])) none ∙ plus_none (Ok m.cost);
      }

-- Sizes.

before_smaller : (xs : List TemplateItem) (x : TemplateItem) → items_size (items xs) ≤ items_size (items (xs ++ x ∷ []))
before_smaller [] x = omega arith
before_smaller (y ∷ xs) x = omega (arith, before_smaller xs x)

pub rest_smaller : (c : RestContext) (before whole : List TemplateItem) → EndsInRest c before whole → items_size (items before) ≤ items_size (items whole)
rest_smaller c before whole ends = subst (λ js. items_size (items before) ≤ items_size (items js)) (sym ends.1) (before_smaller before ends.0)
