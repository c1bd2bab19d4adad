-- The places of marks, one mark after another.
use Rattle.std.proofs.Common.{◌≡◌, ℕ, suc, ◌+◌, ◌<◌, ◌≤◌, Bool, true, false, cond, List, [], ◌∷◌, length, get_or, drop, refl, ap, sym, ◌∙◌, add-one, drop-cons}
use Rattle.std.specs.Prelude.{slice_get, if◌then◌else◌}
use Rattle.std.proofs.lemmas.List.{drop_all}
use Rattle.core_language.specs.declared.record.CompiledLibrary.{CompiledLibrary}
use Rattle.load_files.specs.Found.{places_from}
use Rattle.eval_stage.specs.Libraries as stage
use Rattle.expand_standing.specs.Ready as of_marks
use Rattle.expand_standing.specs.Start.{or_skip, records_at}

module _ (ms : List Bool) (i : ℕ) where
  pub places_on : (m : Bool) → i < length ms → get_or ms i false ≡ m → places_from i (drop i ms) ≡ (if m then i ∷ places_from (i + 1) (drop (i + 1) ms) else places_from (i + 1) (drop (i + 1) ms))
  unfolding places_from
  places_on m h e = rw add-one (ap (places_from i) (drop-cons ms i false h) ∙ ap (λ b. if b then i ∷ places_from (suc i) (drop (suc i) ms) else places_from (suc i) (drop (suc i) ms)) e)

  pub no_places : length ms ≤ i → places_from i (drop i ms) ≡ []
  unfolding places_from
  no_places h = ap (places_from i) (drop_all i ms h)

-- ---- the records at the places of marks are those that are marked

pub places_behind : (r : CompiledLibrary) (rs : List CompiledLibrary) (i : ℕ) (ms : List Bool) → records_at (r ∷ rs) (places_from (suc i) ms) ≡ records_at rs (places_from i ms)
unfolding places_from
places_behind r rs i [] = refl
places_behind r rs i (m ∷ ms) = by m (places_behind r rs (suc i) ms)
  where
    by : (b : Bool) → records_at (r ∷ rs) (places_from (suc (suc i)) ms) ≡ records_at rs (places_from (suc i) ms)
        → records_at (r ∷ rs) (cond b (suc i ∷ places_from (suc (suc i)) ms) (places_from (suc (suc i)) ms)) ≡ records_at rs (cond b (i ∷ places_from (suc i) ms) (places_from (suc i) ms))
    by true h = ap (or_skip (slice_get rs i)) h
    by false h = h

none_at : (ps : List ℕ) → records_at [] ps ≡ []
none_at [] = refl
none_at (p ∷ ps) = none_at ps

pub at_marks : (ms : List Bool) (rs : List CompiledLibrary) → records_at rs (places_from 0 ms) ≡ of_marks.needed_records ms rs
unfolding places_from
at_marks [] rs = refl
at_marks (m ∷ ms) [] = none_at (places_from 0 (m ∷ ms))
at_marks (m ∷ ms) (r ∷ rs) = by m (places_behind r rs 0 ms ∙ at_marks ms rs)
  where
    by : (b : Bool) → records_at (r ∷ rs) (places_from 1 ms) ≡ of_marks.needed_records ms rs
        → records_at (r ∷ rs) (cond b (0 ∷ places_from 1 ms) (places_from 1 ms)) ≡ cond b (r ∷ of_marks.needed_records ms rs) (of_marks.needed_records ms rs)
    by true h = ap (λ (x : List CompiledLibrary). r ∷ x) h
    by false h = h

same_marked : (ms : List Bool) (rs : List CompiledLibrary) → stage.needed_records ms rs ≡ of_marks.needed_records ms rs
same_marked [] rs = refl
same_marked (m ∷ ms) [] = refl
same_marked (m ∷ ms) (r ∷ rs) = by m (same_marked ms rs)
  where
    by : (b : Bool) → stage.needed_records ms rs ≡ of_marks.needed_records ms rs
        → cond b (r ∷ stage.needed_records ms rs) (stage.needed_records ms rs) ≡ cond b (r ∷ of_marks.needed_records ms rs) (of_marks.needed_records ms rs)
    by true h = ap (λ (x : List CompiledLibrary). r ∷ x) h
    by false h = h

-- what an evaluation takes for the records before a library
pub at_stage : (ms : List Bool) (rs : List CompiledLibrary) → stage.needed_records ms rs ≡ records_at rs (places_from 0 ms)
at_stage ms rs = same_marked ms rs ∙ sym (at_marks ms rs)
