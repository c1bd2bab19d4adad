-- A loop over a list takes the actions of its definition, one after another.
use Rattle.std.proofs.Common.{◌≡◌, ℕ, suc, ◌+◌, ◌<◌, ◌≤◌, List, [], ◌∷◌, ◌++◌, map, length, get_or, drop, Result, Ok, refl, sym, ap, ◌∙◌, add-one, drop-cons}
use Rattle.std.proofs.lemmas.List.{drop_all}
use Rattle.base_data.specs.declared.fault.Fault.{Fault}
use Rattle.base_data.specs.declared.fault.Stop.{Stop}
use Rattle.base_data.specs.declared.fault.Stop.TheVariants as stops
use Rattle.base_data.specs.Gives.{Stops}
use Rattle.base_data.specs.Act.{Act, after, each, gather}

module _ {S T X A : Type 0} (view : T → X) (step : X → Act S A) (done : List A) (items : List T) (i : ℕ) where
  each_here : (item : T) (s : S) → i < length items → item ≡ get_or items i item
      → each step done (map view (drop i items)) s ≡ after (step (view item) s) (λ a. each step (done ++ a ∷ []) (map view (drop (i + 1) items)))
  unfolding each
  each_here item s h e =
      let cons : drop i items ≡ item ∷ drop (i + 1) items = rw add-one (drop-cons items i item h ∙ ap (λ x. x ∷ drop (suc i) items) (sym e)) in
      rw cons refl

  -- an item's action gave a value: the rest goes on from there
  pub each_on : (item : T) (s : S) (total : Result (List A × S) Fault) (a : A) (new : S) → i < length items → item ≡ get_or items i item
      → step (view item) s ≡ Ok (a, new) → each step done (map view (drop i items)) s ≡ total
      → each step (done ++ a ∷ []) (map view (drop (i + 1) items)) new ≡ total
  each_on item s total a new h e given so_far =
      sym (each_here item s h e ∙ ap (λ r. after r (λ a. each step (done ++ a ∷ []) (map view (drop (i + 1) items)))) given) ∙ so_far

  -- an item's action stopped: so does the whole
  pub each_stops : (item : T) (s : S) (total : Result (List A × S) Fault) (stop : Stop) → i < length items → item ≡ get_or items i item
      → Stops stop (step (view item) s) → each step done (map view (drop i items)) s ≡ total
      → Stops stop total
  each_stops item s total stops.Memory h e given so_far = tt
  each_stops item s total (stops.Fault f) h e given so_far =
      sym so_far ∙ each_here item s h e ∙ ap (λ r. after r (λ a. each step (done ++ a ∷ []) (map view (drop (i + 1) items)))) given

  -- no item is left: what is done is the whole
  pub each_done : (s : S) (total : Result (List A × S) Fault) → length items ≤ i
      → each step done (map view (drop i items)) s ≡ total → total ≡ Ok (done, s)
  unfolding each
  each_done s total h so_far =
      let none : drop i items ≡ [] = drop_all i items h in
      sym so_far ∙ rw none refl

module _ {S T X D : Type 0} (view : T → X) (step : D → X → Act S D) (items : List T) (i : ℕ) where
  gather_here : (item : T) (d : D) (s : S) → i < length items → item ≡ get_or items i item
      → gather step d (map view (drop i items)) s ≡ after (step d (view item) s) (λ e. gather step e (map view (drop (i + 1) items)))
  unfolding gather
  gather_here item d s h e =
      let cons : drop i items ≡ item ∷ drop (i + 1) items = rw add-one (drop-cons items i item h ∙ ap (λ x. x ∷ drop (suc i) items) (sym e)) in
      rw cons refl

  pub gather_on : (item : T) (d : D) (s : S) (total : Result (D × S) Fault) (a : D) (new : S) → i < length items → item ≡ get_or items i item
      → step d (view item) s ≡ Ok (a, new) → gather step d (map view (drop i items)) s ≡ total
      → gather step a (map view (drop (i + 1) items)) new ≡ total
  gather_on item d s total a new h e given so_far =
      sym (gather_here item d s h e ∙ ap (λ r. after r (λ e. gather step e (map view (drop (i + 1) items)))) given) ∙ so_far

  pub gather_stops : (item : T) (d : D) (s : S) (total : Result (D × S) Fault) (stop : Stop) → i < length items → item ≡ get_or items i item
      → Stops stop (step d (view item) s) → gather step d (map view (drop i items)) s ≡ total
      → Stops stop total
  gather_stops item d s total stops.Memory h e given so_far = tt
  gather_stops item d s total (stops.Fault f) h e given so_far =
      sym so_far ∙ gather_here item d s h e ∙ ap (λ r. after r (λ e. gather step e (map view (drop (i + 1) items)))) given

  pub gather_done : (d : D) (s : S) (total : Result (D × S) Fault) → length items ≤ i
      → gather step d (map view (drop i items)) s ≡ total → total ≡ Ok (d, s)
  unfolding gather
  gather_done d s total h so_far =
      let none : drop i items ≡ [] = drop_all i items h in
      sym so_far ∙ rw none refl
