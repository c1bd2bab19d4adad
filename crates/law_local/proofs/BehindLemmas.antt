-- The record of the derived library stands before those of the others.
use Rattle.std.proofs.Common.{◌≡◌, ℕ, zero, suc, Bool, true, false, List, [], ◌∷◌, ◌++◌, Result, Ok, Err, refl, ap, ◌∙◌}
use Rattle.base_data.specs.Datum.{PlainDatum}
use Rattle.base_data.specs.Gives.{◌>>=◌}
use Rattle.base_data.specs.declared.fault.Fault.{Fault}
use Rattle.core_language.specs.declared.record.CompiledLibrary.{CompiledLibrary}
use Rattle.load_forms.specs.Form.{library_body}
use Rattle.load_import.specs.Turns.{turns}
use Rattle.run_library.specs.Library.{expand_library}
use Rattle.run_library.specs.Loaded.{all_records, expand_found, expand_next}
use Rattle.run_library.specs.Records.{needed_records}
use Rattle.load_files.specs.Found.{places_from}
use Rattle.load_files.specs.declared.found.Found.{Found}
use Rattle.law_load.specs.Laws.{Libraries}
use Rattle.expand_standing.specs.Start.{or_skip, records_at}
use Rattle.std.specs.Prelude.{slice_get}
use Rattle.law_local.specs.Behind.{RunBase, expand_behind, behind_next, records_behind, AreThoseOfRuns}

-- places one further on, with one record more before
one_on : (d : CompiledLibrary) (rs : List CompiledLibrary) (k : ℕ) (ms : List Bool) → records_at (d ∷ rs) (places_from (suc k) ms) ≡ records_at rs (places_from k ms)
unfolding places_from
one_on d rs k [] = refl
one_on d rs k (true ∷ ms) = ap (or_skip (slice_get rs k)) (one_on d rs (suc k) ms)
one_on d rs k (false ∷ ms) = one_on d rs (suc k) ms

pub with_first : (d : CompiledLibrary) (rs : List CompiledLibrary) (ms : List Bool) → needed_records (d ∷ rs) (true ∷ ms) ≡ d ∷ records_at rs (places_from zero ms)
unfolding places_from
with_first d rs ms = ap (λ (ys : List CompiledLibrary). d ∷ ys) (one_on d rs zero ms)

module _ (base : RunBase) where
  each_same : (others : List CompiledLibrary) (f : Found) (body : List PlainDatum) → expand_found base.prelude (base.derived ∷ others) f body ≡ expand_behind base others f body
  each_same others f body = ap (λ (rs : List CompiledLibrary). expand_library base.prelude rs f.opened.path f.opened.form body) (with_first base.derived others f.needs)

  step_same : (others : List CompiledLibrary) (row : List ℕ × Found) → expand_next base.prelude (base.derived ∷ others) row ≡ (behind_next base others row >>= (λ rs. Ok (base.derived ∷ rs)))
  step_same others row =
      ap (λ x. x >>= (λ r. Ok (base.derived ∷ (others ++ r ∷ [])))) (each_same others row.1 (library_body row.1.opened.«data»))
      ∙ by (expand_behind base others row.1 (library_body row.1.opened.«data»))
    where
      by : (x : Result CompiledLibrary Fault) → (x >>= (λ r. Ok (base.derived ∷ (others ++ r ∷ [])))) ≡ ((x >>= (λ r. Ok (others ++ r ∷ []))) >>= (λ rs. Ok (base.derived ∷ rs)))
      by (Ok r) = refl
      by (Err f) = refl

  turns_same : (rows : Libraries) (others : List CompiledLibrary) → turns (expand_next base.prelude) (base.derived ∷ others) rows ≡ (turns (behind_next base) others rows >>= (λ rs. Ok (base.derived ∷ rs)))
  turns_same [] others = refl
  turns_same (row ∷ rows) others =
      ap (λ x. x >>= (λ more. turns (expand_next base.prelude) more rows)) (step_same others row)
      ∙ by (behind_next base others row) (λ more. turns_same rows more)
    where
      by : (x : Result (List CompiledLibrary) Fault)
          → ((more : List CompiledLibrary) → turns (expand_next base.prelude) (base.derived ∷ more) rows ≡ (turns (behind_next base) more rows >>= (λ rs. Ok (base.derived ∷ rs))))
          → ((x >>= (λ rs. Ok (base.derived ∷ rs))) >>= (λ more. turns (expand_next base.prelude) more rows)) ≡ ((x >>= (λ more. turns (behind_next base) more rows)) >>= (λ rs. Ok (base.derived ∷ rs)))
      by (Ok more) rest = rest more
      by (Err f) rest = refl

  pub all_same : (rows : Libraries) → all_records base.prelude rows ≡ (records_behind base rows >>= (λ others. Ok (base.derived ∷ others)))
  all_same rows = ap (λ x. x >>= (λ d. turns (expand_next base.prelude) (d ∷ []) rows)) base.is_derived ∙ turns_same rows []

  pub those_of_runs : AreThoseOfRuns base
  those_of_runs = record { each = each_same; all = all_same }
