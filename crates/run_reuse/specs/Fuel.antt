-- The fuel that the turns of libraries spend: an expansion spends it, and a record that is reused none.
use Rattle.std.specs.Prelude.{◌≡◌, ℕ, ◌+◌, Bool, true, false, List, [], ◌∷◌, ◌++◌, Result}
use Rattle.base_data.specs.declared.fault.Fault.{Fault}
use Rattle.core_language.specs.declared.record.CompiledLibrary.{CompiledLibrary}
use Rattle.run_derived.specs.Derived.{derived_spent}
use Rattle.eval_code.specs.Codes.{Codes}
use Rattle.load_forms.specs.Form.{library_body, program_body}
use Rattle.run_library.specs.Loaded.{found_spent}
use Rattle.load_files.specs.declared.found.Found.{Found}
use Rattle.run_reuse.specs.Entries.{CacheInputs}
use Rattle.run_reuse.specs.Progress.{ReuseProgress, with_record}
use Rattle.run_reuse.specs.Texts.{Text, Writes, took, stopped, unready}
use Rattle.run_reuse.specs.Turns.{StoreChange}
use Rattle.run_reuse.specs.declared.texts.Came.{Came}
use Rattle.run_reuse.specs.declared.texts.Came.TheVariants as came

abbrev pub unless_reused : Bool → ℕ → ℕ
unless_reused true spent = 0
unless_reused false spent = spent

module _ (prelude : Result Codes Fault) where
  -- what the turn of a library spends behind these records
  abbrev pub turn_spent : List CompiledLibrary → Found → Bool → ℕ
  turn_spent records f reused = unless_reused reused (found_spent prelude records f (library_body f.opened.«data»))

  -- What the turns of libraries spend, each behind these records and those of the libraries before it, where they come to
  -- records of which some are reused.
  unfoldable pub turns_spent : List CompiledLibrary → List Found → List CompiledLibrary → List Bool → ℕ
  turns_spent records [] rs bs = 0
  turns_spent records (f ∷ fs) [] bs = 0
  turns_spent records (f ∷ fs) (r ∷ rs) [] = 0
  turns_spent records (f ∷ fs) (r ∷ rs) (b ∷ bs) = turn_spent records f b + turns_spent (records ++ r ∷ []) fs rs bs

  -- the derived library's expansion too, whose record is the first
  abbrev pub behind_first : List Found → List CompiledLibrary → List Bool → ℕ
  behind_first fs [] bs = 0
  behind_first fs (d ∷ rs) bs = derived_spent prelude + turns_spent (d ∷ []) fs rs bs

  abbrev pub progress_spent : List Found → ReuseProgress → ℕ
  progress_spent fs p = behind_first fs p.records p.reused

  -- and the program's behind all records
  abbrev pub came_spent : Came → ReuseProgress → ℕ
  came_spent (came.Program f) p = found_spent prelude p.records f (program_body f.opened.«data»)
  came_spent (came.Fault fault) p = 0

  -- ---- from one progress to another

  pub record TurnSpends (p : ReuseProgress) (f : Found) (q : ReuseProgress) (before after : ℕ) : Type 0 where
    pub library : CompiledLibrary
    pub reused : Bool
    pub is : q ≡ with_record p library reused
    pub rose : after ≡ before + turn_spent p.records f reused

  pub record TurnsSpend (p : ReuseProgress) (fs : List Found) (q : ReuseProgress) (before after : ℕ) : Type 0 where
    pub libraries : List CompiledLibrary
    pub reused : List Bool
    pub records_are : q.records ≡ p.records ++ libraries
    pub reused_are : q.reused ≡ p.reused ++ reused
    pub rose : after ≡ before + turns_spent p.records fs libraries reused

module _ (k : CacheInputs) (prelude : Result Codes Fault) where
  -- what is spent where libraries took their turns and a text was written; nothing is said where there is a fault
  abbrev pub writes_spent : {c : Came} {fs : List Found} {change : StoreChange} {made : Result Text Fault} → Writes k prelude c fs change made → ℕ
  writes_spent {c = c} {fs = fs} (took derived p given turns) = progress_spent prelude fs p + came_spent prelude c p
  writes_spent (stopped derived fault given stops) = 0
  writes_spent (unready fault given same) = 0

module _ (k : CacheInputs) (prelude : Result Codes Fault) (c : Came) (fs : List Found) where
  -- the turns come to a text, and this is spent
  pub record WritesSpending (change : StoreChange) (made : Result Text Fault) (fuel_before fuel_after : ℕ) : Type 0 where
    pub writes : Writes k prelude c fs change made
    pub rose : fuel_after ≡ fuel_before + writes_spent k prelude writes
