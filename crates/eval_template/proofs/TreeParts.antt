-- The trees of the parts of a template, one after another.
use Rattle.std.proofs.Common.{◌≡◌, ℕ, suc, ◌+◌, ◌-◌, ◌<◌, ◌&&◌, Bool, true, false, List, [], ◌∷◌, ◌++◌, Option, None, Some, length, get_or, drop, refl, sym, ap, ◌∙◌, arith}
use Rattle.std.specs.Prelude.{unwrap_or}
use Rattle.stx_tree.specs.Tree.{Tree}
use Rattle.core_language.specs.TemplateView.{items}
use Rattle.core_language.specs.declared.template.TemplateItem.{TemplateItem}
use Rattle.eval_pattern.specs.Matched.{and_then}
use Rattle.eval_template.specs.Binds.{Binds, unbound}
use Rattle.eval_template.specs.Instance.{counts}
use Rattle.eval_template.specs.Lengths.{agree, or_none}
use Rattle.eval_template.specs.Trees.{ok_of, tree_of, trees_of, item_trees, each_turn, all_bound, all_items_bound}
use Rattle.eval_template.proofs.Agreed.{items_here}

module _ (is : List TemplateItem) (i : ℕ) (x : TemplateItem) (h : i < length is) (e : x ≡ get_or is i x) (binds : Binds) where
  bound_here : all_items_bound binds (items (drop i is)) ≡ all_bound binds x.template && all_items_bound binds (items (drop (i + 1) is))
  bound_here = ap (all_items_bound binds) (items_here is i x h e)

  pub bound_on : (total : Bool) → all_bound binds x.template ≡ true → all_items_bound binds (items (drop i is)) ≡ total → all_items_bound binds (items (drop (i + 1) is)) ≡ total
  bound_on total b so_far = ap (λ c. c && all_items_bound binds (items (drop (i + 1) is))) (sym b) ∙ sym bound_here ∙ so_far

  pub bound_not : (total : Bool) → all_bound binds x.template ≡ false → all_items_bound binds (items (drop i is)) ≡ total → false ≡ total
  bound_not total b so_far = ap (λ c. c && all_items_bound binds (items (drop (i + 1) is))) (sym b) ∙ sym bound_here ∙ so_far

  module _ (turns : List ℕ) (done : List Tree) (total : Option (List Tree)) where
    trees_here : trees_of binds (items (drop i is)) turns done
        ≡ and_then (item_trees (tree_of binds x.template) (counts unbound binds x.template) x.ellipses turns done) (trees_of binds (items (drop (i + 1) is)) turns)
    trees_here = ap (λ js. trees_of binds js turns done) (items_here is i x h e)

    pub trees_on : (xs : List Tree) → Some xs ≡ item_trees (tree_of binds x.template) (counts unbound binds x.template) x.ellipses turns done
        → trees_of binds (items (drop i is)) turns done ≡ total → trees_of binds (items (drop (i + 1) is)) turns xs ≡ total
    trees_on xs given so_far = ap (λ r. and_then r (trees_of binds (items (drop (i + 1) is)) turns)) given ∙ sym trees_here ∙ so_far

module _ (go : List ℕ → List Tree → Option (List Tree)) (count i : ℕ) (turns : List ℕ) (done : List Tree) (total : Option (List Tree)) (h : i < count) where
  turn_here : each_turn go (count - i) i turns done ≡ and_then (go (turns ++ i ∷ []) done) (each_turn go (count - (i + 1)) (i + 1) turns)
  turn_here =
      let k : count - i ≡ suc (count - (i + 1)) = omega arith in
      ap (λ n. each_turn go n i turns done) k

  pub turn_on : (xs : List Tree) → Some xs ≡ go (turns ++ i ∷ []) done → each_turn go (count - i) i turns done ≡ total
      → each_turn go (count - (i + 1)) (i + 1) turns xs ≡ total
  turn_on xs given so_far = ap (λ r. and_then r (each_turn go (count - (i + 1)) (i + 1) turns)) given ∙ sym turn_here ∙ so_far

  pub turn_none : None ≡ go (turns ++ i ∷ []) done → each_turn go (count - i) i turns done ≡ total → None ≡ total
  turn_none given so_far = ap (λ r. and_then r (each_turn go (count - (i + 1)) (i + 1) turns)) given ∙ sym turn_here ∙ so_far

-- the turns of an ellipsis whose lengths agree
item_turned : (go : List ℕ → Option Tree) (cs : ℕ → List ℕ → List ℕ) (ellipses inside : ℕ) (turns : List ℕ) (done : List Tree) (n : Option ℕ)
    → ellipses ≡ suc inside → Some n ≡ ok_of (agree None (cs inside turns)) → each_turn (item_trees go cs inside) (or_none n) 0 turns done ≡ item_trees go cs ellipses turns done
item_turned go cs ellipses inside turns done n e given =
    ap (λ r. and_then r (λ m. each_turn (item_trees go cs inside) (or_none m) 0 turns done)) given ∙ sym (ap (λ k. item_trees go cs k turns done) e)

or_none_is : (n : Option ℕ) → unwrap_or n 0 ≡ or_none n
or_none_is None = refl
or_none_is (Some k) = refl

pub turned_by : (go : List ℕ → Option Tree) (cs : ℕ → List ℕ → List ℕ) (ellipses inside : ℕ) (turns : List ℕ) (done : List Tree) (n : Option ℕ) (count : ℕ)
    → ellipses ≡ suc inside → Some n ≡ ok_of (agree None (cs inside turns)) → count ≡ unwrap_or n 0
    → each_turn (item_trees go cs inside) count 0 turns done ≡ item_trees go cs ellipses turns done
turned_by go cs ellipses inside turns done n count e given is =
    ap (λ k. each_turn (item_trees go cs inside) k 0 turns done) (is ∙ or_none_is n) ∙ item_turned go cs ellipses inside turns done n e given
