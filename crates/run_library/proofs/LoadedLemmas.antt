-- The loop over loaded libraries takes the steps of its definition.
use Rattle.std.proofs.Common.{◌≡◌, ℕ, List, [], ◌∷◌, map, refl, sym, ap, ◌∙◌}
use Rattle.std.specs.Prelude.{Result, Ok}
use Rattle.base_data.specs.Gives.{Stops, ◌>>=◌}
use Rattle.base_data.specs.declared.fault.Fault.{Fault}
use Rattle.base_data.specs.declared.fault.Stop.{Stop}
use Rattle.base_data.specs.declared.fault.Stop.TheVariants as stops
use Rattle.core_language.specs.declared.record.CompiledLibrary.{CompiledLibrary}
use Rattle.eval_code.specs.Codes.{Codes}
use Rattle.load_import.specs.Turns.{turns}
use Rattle.load_files.specs.declared.found.Found.{Found}
use Rattle.run_library.specs.Loaded.{expand_next}

-- the first of what is left is taken
module _ {S X : Type 0} (step : S → X → Result S Fault) (left others : List X) (x : X) (s : S) (whole : Result S Fault) (first : left ≡ x ∷ others) where
  pub taken_on : (t : S) → step s x ≡ Ok t → turns step s left ≡ whole → turns step t others ≡ whole
  taken_on t given so_far = sym (ap (turns step s) first ∙ ap (λ r. r >>= (λ u. turns step u others)) given) ∙ so_far

  pub taken_stop : (stop : Stop) → Stops stop (step s x) → turns step s left ≡ whole → Stops stop whole
  taken_stop stops.Memory given so_far = tt
  taken_stop (stops.Fault f) given so_far = sym so_far ∙ ap (turns step s) first ∙ ap (λ r. r >>= (λ u. turns step u others)) given

-- what a library adds, whose name doesn't matter
abbrev pub next_found : Result Codes Fault → List CompiledLibrary → Found → Result (List CompiledLibrary) Fault
next_found prelude records found = expand_next prelude records ([], found)

values_alone : (prelude : Result Codes Fault) (records : List CompiledLibrary) (rows : List (List ℕ × Found))
    → turns (next_found prelude) records (map (λ (e : List ℕ × Found). e.1) rows) ≡ turns (expand_next prelude) records rows
values_alone prelude records [] = refl
values_alone prelude records (row ∷ rows) = λ i. expand_next prelude records row >>= (λ rs. values_alone prelude rs rows i)

-- the libraries of a table, without their names, give what the table gives
pub by_value : (prelude : Result Codes Fault) (records : List CompiledLibrary) (rows : List (List ℕ × Found)) (found : List Found) → found ≡ map (λ (e : List ℕ × Found). e.1) rows
    → turns (next_found prelude) records found ≡ turns (expand_next prelude) records rows
by_value prelude records rows found is = ap (turns (next_found prelude) records) is ∙ values_alone prelude records rows
