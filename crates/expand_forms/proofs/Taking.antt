-- A loop that takes the first of a list again and again takes the actions of its definition.
use Rattle.std.proofs.Common.{◌≡◌, refl, List, [], ◌∷◌, ◌++◌, Result, Ok, sym, ap, ◌∙◌}
use Rattle.base_data.specs.declared.fault.Fault.{Fault}
use Rattle.base_data.specs.declared.fault.Stop.{Stop}
use Rattle.base_data.specs.declared.fault.Stop.TheVariants as stops
use Rattle.base_data.specs.Gives.{Stops}
use Rattle.base_data.specs.Act.{Act, after, each, gather}

module _ {S X A : Type 0} (step : X → Act S A) (done : List A) (left others : List X) (item : X) (first : left ≡ item ∷ others) (s : S) (total : Result (List A × S) Fault) (so_far : each step done left s ≡ total) where
  each_here : each step done left s ≡ after (step item s) (λ a. each step (done ++ a ∷ []) others)
  unfolding each
  each_here = rw first refl

  -- its action gave a value: the rest goes on from there
  pub each_taken : (a : A) (new : S) → step item s ≡ Ok (a, new) → each step (done ++ a ∷ []) others new ≡ total
  each_taken a new given = sym (each_here ∙ ap (λ r. after r (λ b. each step (done ++ b ∷ []) others)) given) ∙ so_far

  -- its action stopped: so does the whole
  pub each_stopped : (stop : Stop) → Stops stop (step item s) → Stops stop total
  each_stopped stops.Memory given = tt
  each_stopped (stops.Fault f) given = sym so_far ∙ each_here ∙ ap (λ r. after r (λ b. each step (done ++ b ∷ []) others)) given

module _ {S X D : Type 0} (step : D → X → Act S D) (d : D) (left others : List X) (item : X) (first : left ≡ item ∷ others) (s : S) (total : Result (D × S) Fault) (so_far : gather step d left s ≡ total) where
  gather_here : gather step d left s ≡ after (step d item s) (λ e. gather step e others)
  unfolding gather
  gather_here = rw first refl

  -- its action gave what is kept next: the rest goes on from there
  pub gather_taken : (e : D) (new : S) → step d item s ≡ Ok (e, new) → gather step e others new ≡ total
  gather_taken e new given = sym (gather_here ∙ ap (λ r. after r (λ b. gather step b others)) given) ∙ so_far

  -- its action stopped: so does the whole
  pub gather_stopped : (stop : Stop) → Stops stop (step d item s) → Stops stop total
  gather_stopped stops.Memory given = tt
  gather_stopped (stops.Fault f) given = sym so_far ∙ gather_here ∙ ap (λ r. after r (λ b. gather step b others)) given

-- none is left: what is done is the whole
pub each_none : {S X A : Type 0} (step : X → Act S A) (done : List A) (left : List X) (s : S) (total : Result (List A × S) Fault) → left ≡ [] → each step done left s ≡ total → total ≡ Ok (done, s)
unfolding each
each_none step done left s total none so_far = sym so_far ∙ rw none refl

pub gather_none : {S X D : Type 0} (step : D → X → Act S D) (d : D) (left : List X) (s : S) (total : Result (D × S) Fault) → left ≡ [] → gather step d left s ≡ total → total ≡ Ok (d, s)
unfolding gather
gather_none step d left s total none so_far = sym so_far ∙ rw none refl
