-- What an instance costs, told before it is made: 1 for each pair and for each element of a vector. Where lengths at an ellipsis
-- differ there is no cost: the first two that differ, in order of place, are the fault.
use Rattle.std.specs.Prelude.{◌≡◌, ℕ, zero, suc, ◌+◌, ◌≤◌, ◌^◌, Bool, false, nat_eq, nat_lt, ◌||◌, List, [], ◌∷◌, ◌++◌, Option, None, Some, Result, Ok, Err, if◌then◌else◌}
use Rattle.base_data.specs.Gives.{◌>>=◌, BareStops}
use Rattle.base_data.specs.declared.fault.Bare.{Bare}
use Rattle.base_data.specs.declared.fault.BareStop.{BareStop}
use Rattle.core_language.specs.Template.{PlainTemplate, variable, constant, list, vector, PlainItems, none, more}
use Rattle.eval_template.specs.Binds.{Binds, Absent}
use Rattle.eval_template.specs.Instance.{counts}
use Rattle.eval_template.specs.Lengths.{agree, or_none}

abbrev pub Cost : Type 0
Cost = Result ℕ Bare

abbrev pub plus : Cost → Cost → Cost
plus c d = c >>= λ m. d >>= λ n. Ok (m + n)

-- of so many turns from the i-th on
abbrev pub turns_cost : (List ℕ → Cost) → ℕ → ℕ → List ℕ → Cost
turns_cost go zero i turns = Ok 0
turns_cost go (suc n) i turns = plus (go (turns ++ i ∷ [])) (turns_cost go n (i + 1) turns)

-- of an item: each part is 1 for its place beside what it costs itself
abbrev pub item_cost : (List ℕ → Cost) → (ℕ → List ℕ → List ℕ) → ℕ → List ℕ → Cost
item_cost go counts zero turns = plus (go turns) (Ok 1)
item_cost go counts (suc ellipses) turns = agree None (counts ellipses turns) >>= λ n. turns_cost (item_cost go counts ellipses) (or_none n) 0 turns

abbrev mutual
  pub measure : Absent → Binds → PlainTemplate → List ℕ → Cost
  measure absent binds (variable l depth) turns = Ok 0
  measure absent binds (constant t) turns = Ok 0
  measure absent binds (list is t) turns = plus (items_cost absent binds is turns) (measure absent binds t turns)
  measure absent binds (vector is) turns = items_cost absent binds is turns

  pub items_cost : Absent → Binds → PlainItems → List ℕ → Cost
  items_cost absent binds none turns = Ok 0
  items_cost absent binds (more t ellipses is) turns = plus (item_cost (measure absent binds t) (counts absent binds t) ellipses turns)
      (items_cost absent binds is turns)

-- Whether what a part costs depends on the turn of an ellipsis round it, inside which so many others stand that repeat it: whether a
-- variable under further ellipses takes elements there. Else all turns cost the same.
abbrev mutual
  pub sees : ℕ → PlainTemplate → Bool
  sees inside (variable l depth) = if nat_eq inside 0 then false else nat_lt inside depth
  sees inside (constant t) = false
  sees inside (list is t) = items_see inside is || sees inside t
  sees inside (vector is) = items_see inside is

  pub items_see : ℕ → PlainItems → Bool
  items_see inside none = false
  items_see inside (more t ellipses is) = sees (inside + ellipses) t || items_see inside is

-- a cost as it is counted: none is one that no fuel pays
abbrev pub IsCost : Option ℕ → ℕ → Type 0
IsCost (Some m) n = m ≡ n
IsCost None n = 2 ^ 64 ≤ n

abbrev pub Measures : Result (Option ℕ) BareStop → Cost → Type 0
Measures (Ok o) (Ok n) = IsCost o n
Measures (Ok o) (Err f) = ⊥
Measures (Err e) c = BareStops e c
