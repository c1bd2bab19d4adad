-- Costs, one after another.
use Rattle.std.proofs.Common.{◌≡◌, ℕ, zero, suc, ◌+◌, ◌-◌, ◌*◌, ◌^◌, ◌<◌, ◌≤◌, Bool, true, false, List, [], ◌∷◌, ◌++◌, Option, None, Some, Ok, Err, length, get_or, drop, refl, ap, sym, subst, ◌∙◌, arith}
use Rattle.std.specs.Prelude.{◌||◌}
use Rattle.std.specs.Prelude.{Result}
use Rattle.std.proofs.lemmas.List.{drop_all}
use Rattle.base_data.specs.Gives.{◌>>=◌, BareStops}
use Rattle.base_data.specs.declared.fault.Bare.{Bare}
use Rattle.base_data.specs.declared.fault.BareStop.{BareStop}
use Rattle.base_data.specs.declared.fault.BareStop.TheVariants as stop
use Rattle.core_language.specs.TemplateView.{items}
use Rattle.core_language.specs.declared.template.TemplateItem.{TemplateItem}
use Rattle.eval_template.specs.Binds.{Binds, unbound}
use Rattle.eval_template.specs.Instance.{counts}
use Rattle.eval_template.specs.Measure.{Cost, plus, turns_cost, item_cost, measure, items_cost, sees, items_see, IsCost, Measures}
use Rattle.eval_template.proofs.Agreed.{items_here}

pub still_unpaid : (n count : ℕ) → 2 ^ 64 ≤ n → 0 < count → 2 ^ 64 ≤ count * n
still_unpaid n count h k = grind arith

plus_zero : (c : Cost) → plus (Ok 0) c ≡ c
plus_zero (Ok n) = ap Ok (omega arith)
plus_zero (Err f) = refl

plus_on : (m n : ℕ) (c : Cost) → plus (Ok m) (plus (Ok n) c) ≡ plus (Ok (m + n)) c
plus_on m n (Ok k) = ap Ok (omega arith)
plus_on m n (Err f) = refl

-- what was measured is a cost
pub known_cost : (o : Option ℕ) (c : Cost) → Measures (Ok o) c → (n : ℕ) × ((c ≡ Ok n) × IsCost o n)
known_cost o (Ok n) h = (n, (refl, h))
known_cost o (Err f) h = absurd h

pub both : (o p q : Option ℕ) (c d : Cost) → ((m n : ℕ) → IsCost o m → IsCost p n → IsCost q (m + n)) → Measures (Ok o) c → Measures (Ok p) d → Measures (Ok q) (plus c d)
both o p q (Ok m) (Ok n) s h k = s m n h k
both o p q (Ok m) (Err f) s h k = absurd k
both o p q (Err f) d s h k = absurd h

pub stops_first : (e : BareStop) (c d : Cost) → BareStops e c → BareStops e (plus c d)
stops_first stop.Memory c d h = tt
stops_first (stop.Fault f) c d h = ap (λ x. plus x d) h

pub stops_second : (e : BareStop) (o : Option ℕ) (c d : Cost) → Measures (Ok o) c → BareStops e d → BareStops e (plus c d)
stops_second stop.Memory o c d h k = tt
stops_second (stop.Fault f) o (Ok m) d h k = ap (plus (Ok m)) k
stops_second (stop.Fault f) o (Err g) d h k = absurd h

-- what is counted so far, with the rest, is the whole
abbrev pub SoFar : Option ℕ → Cost → Cost → Type 0
SoFar o rest whole = (spent : ℕ) × (IsCost o spent × (plus (Ok spent) rest ≡ whole))

pub begun : (c : Cost) → SoFar (Some 0) c c
begun c = (0, (refl, plus_zero c))

module _ (o p q : Option ℕ) (c after rest whole : Cost) (is : rest ≡ plus c after) (so_far : SoFar o rest whole) where
  pub goes_on : ((m n : ℕ) → IsCost o m → IsCost p n → IsCost q (m + n)) → Measures (Ok p) c → SoFar q after whole
  goes_on s h =
      let k = known_cost p c h in
      let same : plus (Ok so_far.0) (plus (Ok k.0) after) ≡ whole = ap (λ x. plus (Ok so_far.0) (plus x after)) (sym k.1.0) ∙ ap (plus (Ok so_far.0)) (sym is) ∙ so_far.1.1 in
      (so_far.0 + k.0, (s so_far.0 k.0 so_far.1.0 k.1.1, sym (plus_on so_far.0 k.0 after) ∙ same))

module _ (o : Option ℕ) (c after rest whole : Cost) (is : rest ≡ plus c after) (so_far : SoFar o rest whole) where
  pub breaks_off : (e : BareStop) → BareStops e c → BareStops e whole
  breaks_off stop.Memory h = tt
  breaks_off (stop.Fault f) h = sym so_far.1.1 ∙ ap (plus (Ok so_far.0)) (is ∙ ap (λ x. plus x after) h)

pub comes_to : (o : Option ℕ) (rest whole : Cost) → rest ≡ Ok 0 → SoFar o rest whole → Measures (Ok o) whole
comes_to o rest whole none so_far =
    let all : Ok so_far.0 ≡ whole = ap Ok (omega arith) ∙ ap (plus (Ok so_far.0)) (sym none) ∙ so_far.1.1 in
    subst (Measures (Ok o)) all so_far.1.0

-- the items from a place on
module _ (is : List TemplateItem) (i : ℕ) (binds : Binds) (turns : List ℕ) where
  pub cost_here : (x : TemplateItem) → i < length is → x ≡ get_or is i x
      → items_cost unbound binds (items (drop i is)) turns
      ≡ plus (item_cost (measure unbound binds x.template) (counts unbound binds x.template) x.ellipses turns) (items_cost unbound binds (items (drop (i + 1) is)) turns)
  cost_here x h e = ap (λ js. items_cost unbound binds js turns) (items_here is i x h e)

  pub cost_end : length is ≤ i → items_cost unbound binds (items (drop i is)) turns ≡ Ok 0
  cost_end h = ap (λ js. items_cost unbound binds (items js) turns) (drop_all i is h)

-- the turns from one on
module _ (go : List ℕ → Cost) (count i : ℕ) (turns : List ℕ) where
  pub turn_here : i < count → turns_cost go (count - i) i turns ≡ plus (go (turns ++ i ∷ [])) (turns_cost go (count - (i + 1)) (i + 1) turns)
  turn_here h =
      let k : count - i ≡ suc (count - (i + 1)) = omega arith in
      ap (λ n. turns_cost go n i turns) k

  pub turn_end : count ≤ i → turns_cost go (count - i) i turns ≡ Ok 0
  turn_end h =
      let k : count - i ≡ 0 = omega arith in
      ap (λ n. turns_cost go n i turns) k

-- whether one of the items sees a turn
module _ (is : List TemplateItem) (i inside : ℕ) (x : TemplateItem) (h : i < length is) (e : x ≡ get_or is i x) (total : Bool) (so_far : items_see inside (items (drop i is)) ≡ total) where
  see_here : items_see inside (items (drop i is)) ≡ (sees (inside + x.ellipses) x.template || items_see inside (items (drop (i + 1) is)))
  see_here = ap (items_see inside) (items_here is i x h e)

  pub seen_here : sees (inside + x.ellipses) x.template ≡ true → total ≡ true
  seen_here s = sym so_far ∙ see_here ∙ ap (λ b. b || items_see inside (items (drop (i + 1) is))) s

  pub seen_on : sees (inside + x.ellipses) x.template ≡ false → items_see inside (items (drop (i + 1) is)) ≡ total
  seen_on s = sym (see_here ∙ ap (λ b. b || items_see inside (items (drop (i + 1) is))) s) ∙ so_far

-- the items from a place on, with what is counted so far
module _ (is : List TemplateItem) (i : ℕ) (x : TemplateItem) (h : i < length is) (e : x ≡ get_or is i x) (binds : Binds) (turns : List ℕ) (o : Option ℕ) (whole : Cost)
    (so_far : SoFar o (items_cost unbound binds (items (drop i is)) turns) whole) where
  abbrev of_item : Cost
  of_item = item_cost (measure unbound binds x.template) (counts unbound binds x.template) x.ellipses turns

  abbrev after_item : Cost
  after_item = items_cost unbound binds (items (drop (i + 1) is)) turns

  pub items_on : (p q : Option ℕ) → ((m n : ℕ) → IsCost o m → IsCost p n → IsCost q (m + n)) → Measures (Ok p) of_item → SoFar q after_item whole
  items_on p q s m = goes_on o p q of_item after_item (items_cost unbound binds (items (drop i is)) turns) whole (cost_here is i binds turns x h e) so_far s m

  pub items_stop : (b : BareStop) → BareStops b of_item → BareStops b whole
  items_stop b m = breaks_off o of_item after_item (items_cost unbound binds (items (drop i is)) turns) whole (cost_here is i binds turns x h e) so_far b m

-- the turns from one on, with what is counted so far
module _ (go : List ℕ → Cost) (count i : ℕ) (turns : List ℕ) (h : i < count) (o : Option ℕ) (whole : Cost) (so_far : SoFar o (turns_cost go (count - i) i turns) whole) where
  pub turns_on : (p q : Option ℕ) → ((m n : ℕ) → IsCost o m → IsCost p n → IsCost q (m + n)) → Measures (Ok p) (go (turns ++ i ∷ []))
      → SoFar q (turns_cost go (count - (i + 1)) (i + 1) turns) whole
  turns_on p q s m =
      goes_on o p q (go (turns ++ i ∷ [])) (turns_cost go (count - (i + 1)) (i + 1) turns) (turns_cost go (count - i) i turns) whole (turn_here go count i turns h) so_far s m

  pub turns_stop : (b : BareStop) → BareStops b (go (turns ++ i ∷ [])) → BareStops b whole
  turns_stop b m =
      breaks_off o (go (turns ++ i ∷ [])) (turns_cost go (count - (i + 1)) (i + 1) turns) (turns_cost go (count - i) i turns) whole (turn_here go count i turns h) so_far b m
