-- From the turns of libraries to what is written, and to what is left of the store.
use Rattle.std.proofs.Common.{◌≡◌, ℕ, List, Result, Ok, Err, Option, refl, sym, subst, ap, ◌∙◌, Bool}
use Rattle.std.specs.Prelude.{string_bytes}
use Rattle.base_data.specs.declared.fault.Fault.{Fault}
use Rattle.base_data.specs.declared.fault.Stop.{Stop}
use Rattle.base_data.specs.declared.fault.Stop.TheVariants as stop
use Rattle.base_data.specs.Gives.{Stops as Stops-of}
use Rattle.core_language.specs.declared.record.CompiledLibrary.{CompiledLibrary}
use Rattle.run_derived.specs.Derived.{derived_record}
use Rattle.eval_code.specs.Codes.{Codes}
use Rattle.load_files.specs.declared.found.Found.{Found}
use Rattle.base_outside.specs.Contents.{Paths}
use Rattle.base_outside.specs.Store.{WhereTold}
use Rattle.run_reuse.specs.Entries.{CacheInputs}
use Rattle.run_reuse.specs.Expansion.{text_after}
use Rattle.run_reuse.specs.Progress.{ReuseProgress, begun}
use Rattle.run_reuse.specs.Texts.{Text, with_flags, TextGives, Writes, took, stopped, unready, Leaves, untouched, turned, Answers}
use Rattle.run_reuse.specs.Turns.{StoreChange, changed, TurnState, state, ReuseTurns, done, next, TurnsStop, here, later, BreaksOff, between, within, behind, nothing_put, TakeFrom}
use Rattle.run_reuse.specs.declared.texts.Came.{Came}
use Rattle.run_reuse.specs.declared.texts.Came.TheVariants as came
use Rattle.run_reuse.specs.declared.texts.WrittenProgram.{WrittenProgram}
use Rattle.run_reuse.proofs.Told.{told_by}
use Rattle.run_reuse.proofs.TurnLemmas.{same_count}

module _ (k : CacheInputs) (prelude : Result Codes Fault) where
  -- all turns were taken, and then memory ran out
  pub taken_off : (s last : TurnState) (fs : List Found) → ReuseTurns k prelude s fs last → BreaksOff k prelude last.store last.faults s fs
  taken_off s last fs done = between refl (same_count s.faults)
  taken_off s last fs (next {t = t} {fs = rest} turn turns) = behind turn (taken_off t last rest turns)

  -- the turns before a fault
  stopped_off : (fault : Fault) (store : Paths) (faults : ℕ) (s : TurnState) (fs : List Found) → TurnsStop k prelude fault store faults s fs → BreaksOff k prelude store faults s fs
  stopped_off fault store faults s fs (here at) = within (nothing_put at.same at.later)
  stopped_off fault store faults s fs (later {t = t} {fs = rest} turn stops) = behind turn (stopped_off fault store faults t rest stops)

  module _ (c : Came) (fs : List Found) (change : StoreChange) where
    -- what is left of the store, whatever is written
    pub writes_leave : (made : Result Text Fault) → Writes k prelude c fs change made → Leaves k prelude fs change
    writes_leave made (took derived p is turns) = turned derived is (taken_off (state (begun derived) change.before change.faults_before) (state p change.after change.faults_after) fs turns)
    writes_leave made (stopped derived fault is stops) = turned derived is (stopped_off fault change.after change.faults_after (state (begun derived) change.before change.faults_before) fs stops)
    writes_leave made (unready fault is same) = untouched same

    text_is : (derived : CompiledLibrary) (p : ReuseProgress) (r : Result WrittenProgram Stop) → derived_record prelude ≡ Ok derived → ReuseTurns k prelude (state (begun derived) change.before change.faults_before) fs (state p change.after change.faults_after) → TextGives prelude r c p
        → Answers k prelude r c fs change
    text_is derived p (Ok w) is turns h =
        subst (λ (x : Result Text Fault). Writes k prelude c fs change x)
        (ap (with_flags p.reused) h.0 ∙ ap (λ (flags : List Bool). Ok (string_bytes w.text, flags)) (sym h.1)) (took derived p is turns)
    text_is derived p (Err (stop.Fault fault)) is turns h = subst (λ (x : Result Text Fault). Writes k prelude c fs change x) (ap (with_flags p.reused) h) (took derived p is turns)
    text_is derived p (Err stop.Memory) is turns h = turned derived is (taken_off (state (begun derived) change.before change.faults_before) (state p change.after change.faults_after) fs turns)

    by_turns : (d : Result CompiledLibrary Fault) (p : ReuseProgress) (r : Result WrittenProgram Stop) → derived_record prelude ≡ d → TakeFrom k prelude d (Ok p) fs change → TextGives prelude r c p → Answers k prelude r c fs change
    by_turns (Ok derived) p r is turns h = text_is derived p r is turns h
    by_turns (Err fault) p r is turns h = absurd turns

    by_stop : (d : Result CompiledLibrary Fault) (x : Stop) → derived_record prelude ≡ d → TakeFrom k prelude d (Err x) fs change → Answers k prelude (Err x) c fs change
    by_stop (Ok derived) (stop.Fault fault) is h = stopped derived fault is h
    by_stop (Ok derived) stop.Memory is h = turned derived is h
    by_stop (Err fault) (stop.Fault f) is h = unready f (is ∙ ap (λ (x : Fault). Err x) (sym h.0)) h.1
    by_stop (Err fault) stop.Memory is h = untouched h

  -- ---- the text of the program

  pub text_stops : (x : Stop) (f : Found) (p : ReuseProgress) (records : List CompiledLibrary) → records ≡ p.records → Stops-of x (text_after prelude records f) → TextGives prelude (Err x) (came.Program f) p
  text_stops (stop.Fault fault) f p records is h = ap (λ (rs : List CompiledLibrary). text_after prelude rs f) (sym is) ∙ h
  text_stops stop.Memory f p records is h = tt

  pub text_done : (w : WrittenProgram) (f : Found) (p : ReuseProgress) (records : List CompiledLibrary) → records ≡ p.records → w.reused ≡ p.reused → text_after prelude records f ≡ Ok (string_bytes w.text)
      → TextGives prelude (Ok w) (came.Program f) p
  text_done w f p records is flags h = (ap (λ (rs : List CompiledLibrary). text_after prelude rs f) (sym is) ∙ h, flags)

  module _ (told after : Option Paths) (c : Came) (fs : List Found) (fa fb : ℕ) where
    pub behind_turns : (p : ReuseProgress) (r : Result WrittenProgram Stop) → WhereTold told after (λ a b. TakeFrom k prelude (derived_record prelude) (Ok p) fs (changed a fa b fb)) → TextGives prelude r c p
        → WhereTold told after (λ a b. Answers k prelude r c fs (changed a fa b fb))
    behind_turns p r h text = told_by told after (λ a b. TakeFrom k prelude (derived_record prelude) (Ok p) fs (changed a fa b fb)) (λ a b. Answers k prelude r c fs (changed a fa b fb))
        (λ a b turns. by_turns c fs (changed a fa b fb) (derived_record prelude) p r refl turns text) h

    pub where_stopped : (x : Stop) → WhereTold told after (λ a b. TakeFrom k prelude (derived_record prelude) (Err x) fs (changed a fa b fb)) → WhereTold told after (λ a b. Answers k prelude (Err x) c fs (changed a fa b fb))
    where_stopped x h = told_by told after (λ a b. TakeFrom k prelude (derived_record prelude) (Err x) fs (changed a fa b fb)) (λ a b. Answers k prelude (Err x) c fs (changed a fa b fb))
        (λ a b turns. by_stop c fs (changed a fa b fb) (derived_record prelude) x refl turns) h
