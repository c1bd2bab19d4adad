-- A loop over a list takes the steps of its definition, one after another.
use Rattle.std.proofs.Common.{◌≡◌, ℕ, suc, ◌+◌, ◌<◌, ◌≤◌, List, [], ◌∷◌, length, get_or, drop, Result, Ok, Err, refl, sym, ap, ◌∙◌, add-one, drop-cons}
use Rattle.std.specs.Prelude.{Some, slice_get}
use Rattle.std.proofs.lemmas.List.{drop_all}
use Rattle.std.proofs.lemmas.Option.{slice_get_within, get_or_from_slice_get}
use Rattle.base_data.specs.Gives.{Stops, ◌>>=◌}
use Rattle.base_data.specs.declared.fault.Fault.{Fault}
use Rattle.base_data.specs.declared.fault.Stop.{Stop}
use Rattle.base_data.specs.declared.fault.Stop.TheVariants as stops
use Rattle.load_import.specs.Turns.{turns}

pub cons_at : {X : Type 0} (xs : List X) (i : ℕ) (x : X) → i < length xs → x ≡ get_or xs i x → drop i xs ≡ x ∷ drop (i + 1) xs
cons_at xs i x h e = rw add-one (drop-cons xs i x h ∙ ap (λ y. y ∷ drop (suc i) xs) (sym e))

module _ {S X : Type 0} (step : S → X → Result S Fault) (xs : List X) (i : ℕ) (x : X) (s : S) (whole : Result S Fault) where
  pub turns_on : (t : S) → i < length xs → x ≡ get_or xs i x → step s x ≡ Ok t → turns step s (drop i xs) ≡ whole → turns step t (drop (i + 1) xs) ≡ whole
  turns_on t h e given so_far =
      sym (ap (turns step s) (cons_at xs i x h e) ∙ ap (λ r. r >>= (λ u. turns step u (drop (i + 1) xs))) given) ∙ so_far

  pub turns_stop : (stop : Stop) → i < length xs → x ≡ get_or xs i x → Stops stop (step s x) → turns step s (drop i xs) ≡ whole → Stops stop whole
  turns_stop stops.Memory h e given so_far = tt
  turns_stop (stops.Fault f) h e given so_far =
      sym so_far ∙ ap (turns step s) (cons_at xs i x h e) ∙ ap (λ r. r >>= (λ u. turns step u (drop (i + 1) xs))) given

pub turns_end : {S X : Type 0} (step : S → X → Result S Fault) (xs : List X) (i : ℕ) (s : S) (whole : Result S Fault) → length xs ≤ i → turns step s (drop i xs) ≡ whole → whole ≡ Ok s
turns_end step xs i s whole h so_far = sym so_far ∙ ap (turns step s) (drop_all i xs h)

-- what is made of a value, and what stops before it
pub bind_stops : {A B : Type 0} (stop : Stop) (r : Result A Fault) (f : A → Result B Fault) → Stops stop r → Stops stop (r >>= f)
bind_stops stops.Memory r f h = tt
bind_stops (stops.Fault e) r f h = ap (λ x. x >>= f) h

pub bind_ok : {A B : Type 0} (r : Result A Fault) (f : A → Result B Fault) (x : A) → r ≡ Ok x → f x ≡ (r >>= f)
bind_ok r f x h = sym (ap (λ y. y >>= f) h)

-- an element that is there, and the rest
pub got : {X : Type 0} (xs : List X) (i : ℕ) (x : X) → slice_get xs i ≡ Some x → drop i xs ≡ x ∷ drop (i + 1) xs
got xs i x h = cons_at xs i x (slice_get_within xs i x h) (sym (get_or_from_slice_get xs i x x h))
