-- Where a run leaves its store as it was.
use Rattle.std.specs.Prelude.{◌≡◌, ℕ, List, [], ◌∷◌, Result}
use Rattle.base_data.specs.declared.fault.Fault.{Fault}
use Rattle.eval_code.specs.Codes.{Codes}
use Rattle.load_files.specs.declared.found.Found.{Found}
use Rattle.base_outside.specs.Contents.{Paths, at_path}
use Rattle.run_reuse.specs.Entries.{CacheInputs, place_of}
use Rattle.run_reuse.specs.Texts.{Text, Writes, Leaves}
use Rattle.run_reuse.specs.Turns.{StoreChange}
use Rattle.run_reuse.specs.declared.texts.Came.{Came}

module _ (k : CacheInputs) where
  -- none of these libraries has its entry there
  abbrev pub IsElsewhere : List ℕ → List Found → Type 0
  IsElsewhere place [] = Unit {0}
  IsElsewhere place (f ∷ fs) = (place_of k f ≡ place → ⊥) × IsElsewhere place fs

  -- every place but those of the libraries holds what it held
  abbrev pub OthersAreKept : List Found → Paths → Paths → Type 0
  OthersAreKept fs before after = (place : List ℕ) → IsElsewhere place fs → at_path after place ≡ at_path before place

-- whatever the run comes to, over whatever store, and whichever of its calls fail
pub record LeavesOthers (k : CacheInputs) (prelude : Result Codes Fault) : Type 0 where
  pub writes : (c : Came) (fs : List Found) (change : StoreChange) (made : Result Text Fault) → Writes k prelude c fs change made
      → OthersAreKept k fs change.before change.after
  pub leaves : (fs : List Found) (change : StoreChange) → Leaves k prelude fs change → OthersAreKept k fs change.before change.after
