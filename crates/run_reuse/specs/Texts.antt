-- The core text of a program behind the turns of its libraries, and what they leave of the store.
use Rattle.std.specs.Prelude.{◌≡◌, ℕ, Bool, List, map, Result, Ok, Err, string_bytes}
use Rattle.base_data.specs.declared.fault.Fault.{Fault}
use Rattle.base_data.specs.declared.fault.Stop.{Stop}
use Rattle.base_data.specs.declared.fault.Stop.TheVariants as stop
use Rattle.core_language.specs.declared.record.CompiledLibrary.{CompiledLibrary}
use Rattle.run_derived.specs.Derived.{derived_record}
use Rattle.eval_code.specs.Codes.{Codes}
use Rattle.load_files.specs.declared.found.Found.{Found}
use Rattle.run_reuse.specs.Entries.{CacheInputs}
use Rattle.run_reuse.specs.Expansion.{text_after}
use Rattle.run_reuse.specs.Progress.{ReuseProgress, begun}
use Rattle.run_reuse.specs.Turns.{StoreChange, state, ReuseTurns, TurnsStop, BreaksOff}
use Rattle.run_reuse.specs.declared.texts.Came.{Came}
use Rattle.run_reuse.specs.declared.texts.Came.TheVariants as came
use Rattle.run_reuse.specs.declared.texts.WrittenProgram.{WrittenProgram}

-- a text, beside which libraries were reused
abbrev pub Text : Type 0
Text = List ℕ × List Bool

abbrev pub with_flags : List Bool → Result (List ℕ) Fault → Result Text Fault
with_flags flags (Ok text) = Ok (text, flags)
with_flags flags (Err f) = Err f

abbrev pub found_in : List (List ℕ × Found) → List Found
found_in rows = map (λ (row : List ℕ × Found). row.1) rows

module _ (prelude : Result Codes Fault) where
  -- the text of the program behind the records of its libraries; or the fault that ended loading
  abbrev pub text_behind : Came → ReuseProgress → Result (List ℕ) Fault
  text_behind (came.Program f) p = text_after prelude p.records f
  text_behind (came.Fault fault) p = Err fault

  -- what a call answers behind the turns
  abbrev pub TextGives : Result WrittenProgram Stop → Came → ReuseProgress → Type 0
  TextGives (Ok w) c p = (text_behind c p ≡ Ok (string_bytes w.text)) × (w.reused ≡ p.reused)
  TextGives (Err (stop.Fault fault)) c p = text_behind c p ≡ Err fault
  TextGives (Err stop.Memory) c p = Unit {0}

module _ (k : CacheInputs) (prelude : Result Codes Fault) where
  -- what the turns of the libraries come to, and what they leave of the store
  pub data Writes (c : Came) (fs : List Found) (change : StoreChange) : Result Text Fault → Type 0 where
    took : (derived : CompiledLibrary) (p : ReuseProgress) → derived_record prelude ≡ Ok derived
        → ReuseTurns k prelude (state (begun derived) change.before change.faults_before) fs (state p change.after change.faults_after)
        → Writes c fs change (with_flags p.reused (text_behind prelude c p))
    stopped : (derived : CompiledLibrary) (fault : Fault) → derived_record prelude ≡ Ok derived
        → TurnsStop k prelude fault change.after change.faults_after (state (begun derived) change.before change.faults_before) fs
        → Writes c fs change (Err fault)
    unready : (fault : Fault) → derived_record prelude ≡ Err fault → change.after ≡ change.before → Writes c fs change (Err fault)

  -- what is left of the store, wherever the turns end
  pub data Leaves (fs : List Found) (change : StoreChange) : Type 0 where
    untouched : change.after ≡ change.before → Leaves fs change
    turned : (derived : CompiledLibrary) → derived_record prelude ≡ Ok derived
        → BreaksOff k prelude change.after change.faults_after (state (begun derived) change.before change.faults_before) fs → Leaves fs change

  -- what a call answers
  abbrev pub Answers : Result WrittenProgram Stop → Came → List Found → StoreChange → Type 0
  Answers (Ok w) c fs change = Writes c fs change (Ok (string_bytes w.text, w.reused))
  Answers (Err (stop.Fault fault)) c fs change = Writes c fs change (Err fault)
  Answers (Err stop.Memory) c fs change = Leaves fs change
