-- A variable under an ellipsis that took the rest of a list gives the trees of that list, each at the cost of its place.
use Rattle.std.proofs.Common.{◌≡◌, ℕ, zero, suc, ◌+◌, true, false, List, [], ◌∷◌, ◌++◌, length, map, Option, None, Some, Ok, append_assoc, append-nil, length-append, refl, sym, ap, ◌∙◌, arith}
use Rattle.std.specs.Prelude.{slice_get, if◌then◌else◌}
use Rattle.base_data.specs.Gives.{◌>>=◌}
use Rattle.base_data.specs.Same.{same_name, same_name_cases, same_name_equiv}
use Rattle.base_data.specs.declared.name.Label.{Label}
use Rattle.stx_tree.specs.Tree.{Tree}
use Rattle.core_language.specs.Template.{variable}
use Rattle.core_language.specs.declared.template.TemplateItem.{TemplateItem}
use Rattle.eval_value.specs.Bind.{PlainBind, one}
use Rattle.eval_value.specs.declared.value.Value.TheVariants as value
use Rattle.eval_pattern.specs.Matched.{and_then}
use Rattle.eval_pattern.specs.Rests.{all_of}
use Rattle.eval_template.specs.Binds.{Binds, unbound, looked_up, through, count_of}
use Rattle.eval_template.specs.Instance.{counts}
use Rattle.eval_template.specs.Lengths.{agree, or_none}
use Rattle.eval_template.specs.Measure.{plus, turns_cost, item_cost, measure}
use Rattle.eval_template.specs.Rests.{IsRestItem, EndsInRest}
use Rattle.eval_template.specs.Trees.{ok_of, tree_in, each_turn, item_trees, tree_of, is_there}
use Rattle.eval_template.specs.declared.rest.RestContext.{RestContext}
use Rattle.eval_template.proofs.RestLemmas.{not_there}
use Rattle.eval_template.proofs.Turns.{listed_turns}

pub label_is : (l m : Label) → same_name l.0 m.0 ≡ true → l ≡ m
label_is l m e = let n = (same_name_cases l.0 m.0).0 e in λ i. record { 0 = n i }

pub not_bound : (o : Option PlainBind) → is_there o ≡ false → o ≡ None
not_bound None h = refl
not_bound (Some b) h = absurd (let f : ⊥ = cc in f)

pub rest_item : (c : RestContext) (x : TemplateItem) (l : Label) (d : ℕ) → x.ellipses ≡ 1 → x.template ≡ variable l d → variable l d ≡ variable c.label.now 1 → looked_up c.binds.now c.label.now ≡ None
    → IsRestItem c x
rest_item c x l d single is same none = record { template = is ∙ same; ellipses = single; free = none }

pub ends_so : (c : RestContext) (before list : List TemplateItem) (x : TemplateItem) → list ≡ before ++ x ∷ [] → IsRestItem c x → EndsInRest c before list
ends_so c before list x e h = (x, e, h)

abbrev one_of : Tree → PlainBind
one_of x = one (value.Syn x)

length_ones : (xs : List Tree) → length (map one_of xs) ≡ length xs
length_ones [] = refl
length_ones (x ∷ xs) = ap suc (length_ones xs)

count_all : (xs : List Tree) → count_of unbound (Some (all_of xs)) ≡ length xs
count_all xs = ap length (listed_turns (map one_of xs)) ∙ length_ones xs

-- a tree behind others
at_place : (before : List Tree) (x : Tree) (xs : List Tree) → slice_get (map one_of (before ++ x ∷ xs)) (length before) ≡ Some (one_of x)
at_place [] x xs = refl
at_place (y ∷ before) x xs = at_place before x xs

module _ (own : Binds) (l : Label) (xs : List Tree) (free : looked_up own l ≡ None) where
  abbrev with_all : Binds
  with_all = own ++ (l, all_of xs) ∷ []

  pub found : looked_up with_all l ≡ Some (all_of xs)
  found = not_there own ((l, all_of xs) ∷ []) l (ap is_there free) ∙ ap (λ b. if b then Some (all_of xs) else None) (same_name_equiv.refl l.0)

  abbrev lengths_of : ℕ → List ℕ → List ℕ
  lengths_of = counts unbound with_all (variable l 1)

  agreed : agree None (lengths_of 0 []) ≡ Ok (Some (length xs))
  agreed = ap (λ o. agree None (count_of unbound (through o []) ∷ [])) found ∙ ap (λ n. agree None (n ∷ [])) (count_all xs)

  turn_tree : (before after : List Tree) (x : Tree) → before ++ x ∷ after ≡ xs → tree_of with_all (variable l 1) (length before ∷ []) ≡ Some x
  turn_tree before after x e =
      ap (λ o. tree_in (through o (length before ∷ []))) found
      ∙ ap (λ bs. tree_in (through (slice_get bs (length before)) [])) (listed_turns (map one_of xs))
      ∙ ap (λ ys. tree_in (through (slice_get (map one_of ys) (length before)) [])) (sym e)
      ∙ ap (λ o. tree_in (through o [])) (at_place before x after)

  abbrev one_turn : List ℕ → List Tree → Option (List Tree)
  one_turn = item_trees (tree_of with_all (variable l 1)) lengths_of 0

  turns_on : (before after done : List Tree) → before ++ after ≡ xs → each_turn one_turn (length after) (length before) [] done ≡ Some (done ++ after)
  turns_on before [] done e = ap Some (sym (append-nil done))
  turns_on before (x ∷ after) done e =
      let here : one_turn (length before ∷ []) done ≡ Some (done ++ x ∷ []) = ap (λ o. and_then o (λ t. Some (done ++ t ∷ []))) (turn_tree before after x e) in
      ap (λ o. and_then o (each_turn one_turn (length after) (length before + 1) [])) here
      ∙ ap (λ k. each_turn one_turn (length after) k [] (done ++ x ∷ [])) (sym (length-append before (x ∷ [])))
      ∙ turns_on (before ++ x ∷ []) after (done ++ x ∷ []) (append_assoc before (x ∷ []) after ∙ e)
      ∙ ap Some (append_assoc done (x ∷ []) after)

  pub rest_trees : (done : List Tree) → item_trees (tree_of with_all (variable l 1)) lengths_of 1 [] done ≡ Some (done ++ xs)
  rest_trees done = ap (λ r. and_then (ok_of r) (λ n. each_turn one_turn (or_none n) 0 [] done)) agreed ∙ turns_on [] xs done refl

  each_cost : (n i : ℕ) → turns_cost (item_cost (measure unbound with_all (variable l 1)) lengths_of 0) n i [] ≡ Ok n
  each_cost zero i = refl
  each_cost (suc n) i = let sum : 1 + n ≡ suc n = omega arith in ap (plus (Ok 1)) (each_cost n (i + 1)) ∙ ap Ok sum

  pub rest_cost : item_cost (measure unbound with_all (variable l 1)) lengths_of 1 [] ≡ Ok (length xs)
  rest_cost = ap (λ r. r >>= λ n. turns_cost (item_cost (measure unbound with_all (variable l 1)) lengths_of 0) (or_none n) 0 []) agreed ∙ each_cost (length xs) 0
