-- The fuel that is spent for a text.
use Rattle.std.proofs.Common.{◌≡◌, ℕ, ◌+◌, Bool, List, Option, Result, Ok, Err, refl, sym, ap, subst, ◌∙◌, arith}
use Rattle.std.specs.Prelude.{string_bytes, IfOk, OnOk}
use Rattle.base_data.specs.declared.fault.Fault.{Fault}
use Rattle.base_data.specs.declared.fault.Stop.{Stop}
use Rattle.core_language.specs.declared.record.CompiledLibrary.{CompiledLibrary}
use Rattle.run_derived.specs.Derived.{derived_record, derived_spent}
use Rattle.eval_code.specs.Codes.{Codes}
use Rattle.load_forms.specs.Form.{program_body}
use Rattle.run_library.specs.Loaded.{found_spent}
use Rattle.load_files.specs.declared.found.Found.{Found}
use Rattle.base_outside.specs.Contents.{Paths}
use Rattle.base_outside.specs.Store.{WhereTold}
use Rattle.run_reuse.specs.Entries.{CacheInputs}
use Rattle.run_reuse.specs.Fuel.{progress_spent, came_spent, TurnsSpend, WritesSpending}
use Rattle.run_reuse.specs.Progress.{ReuseProgress, begun}
use Rattle.run_reuse.specs.Texts.{Text, with_flags, TextGives, took}
use Rattle.run_reuse.specs.Turns.{StoreChange, changed, TakeFrom}
use Rattle.run_reuse.specs.declared.texts.Came.{Came}
use Rattle.run_reuse.specs.declared.texts.Came.TheVariants as came
use Rattle.run_reuse.specs.declared.texts.WrittenProgram.{WrittenProgram}
use Rattle.run_reuse.proofs.FuelLemmas.{derived_then}
use Rattle.run_reuse.proofs.Told.{told_by}

module _ (prelude : Result Codes Fault) where
  -- behind the derived library, whatever the turns come to
  pub all_turns : (derived : CompiledLibrary) (p : ReuseProgress) (fs : List Found) (r : Result ReuseProgress Stop) (start middle after : ℕ) → p ≡ begun derived → middle ≡ start + derived_spent prelude
      → IfOk r (λ (q : ReuseProgress). TurnsSpend prelude p fs q middle after) → IfOk r (λ (q : ReuseProgress). after ≡ start + progress_spent prelude fs q)
  all_turns derived p fs (Ok q) start middle after is first turns = derived_then prelude derived p q fs start middle after is first turns
  all_turns derived p fs (Err stop) start middle after is first turns = tt

  -- the program, behind the records of a progress
  pub program_spent : (f : Found) (p : ReuseProgress) (records : List CompiledLibrary) (before after : ℕ) → records ≡ p.records → after ≡ before + found_spent prelude records f (program_body f.opened.«data»)
      → after ≡ before + came_spent prelude (came.Program f) p
  program_spent f p records before after is rose = rose ∙ ap (λ (rs : List CompiledLibrary). before + found_spent prelude rs f (program_body f.opened.«data»)) is

module _ (k : CacheInputs) (prelude : Result Codes Fault) (c : Came) (fs : List Found) (change : StoreChange) (start middle last : ℕ) where
  text_spends : (d : Result CompiledLibrary Fault) (p : ReuseProgress) (w : WrittenProgram) → derived_record prelude ≡ d → TakeFrom k prelude d (Ok p) fs change → TextGives prelude (Ok w) c p
      → middle ≡ start + progress_spent prelude fs p → last ≡ middle + came_spent prelude c p → WritesSpending k prelude c fs change (Ok (string_bytes w.text, w.reused)) start last
  text_spends (Ok derived) p w is turns h one two =
      subst (λ (x : Result Text Fault). WritesSpending k prelude c fs change x start last)
      (ap (with_flags p.reused) h.0 ∙ ap (λ (flags : List Bool). Ok (string_bytes w.text, flags)) (sym h.1)) (record { writes = took derived p is turns; rose = omega (arith, one, two) })
  text_spends (Err fault) p w is turns h one two = absurd turns

module _ (k : CacheInputs) (prelude : Result Codes Fault) (told after : Option Paths) (c : Came) (fs : List Found) (fa fb start middle last : ℕ) where
  pub turns_spend : (p : ReuseProgress) (r : Result WrittenProgram Stop) → WhereTold told after (λ a b. TakeFrom k prelude (derived_record prelude) (Ok p) fs (changed a fa b fb)) → TextGives prelude r c p
      → middle ≡ start + progress_spent prelude fs p → OnOk r (last ≡ middle + came_spent prelude c p)
      → IfOk r (λ (w : WrittenProgram). WhereTold told after (λ a b. WritesSpending k prelude c fs (changed a fa b fb) (Ok (string_bytes w.text, w.reused)) start last))
  turns_spend p (Ok w) h text one two =
      told_by told after (λ a b. TakeFrom k prelude (derived_record prelude) (Ok p) fs (changed a fa b fb)) (λ a b. WritesSpending k prelude c fs (changed a fa b fb) (Ok (string_bytes w.text, w.reused)) start last)
      (λ a b turns. text_spends k prelude c fs (changed a fa b fb) start middle last (derived_record prelude) p w refl turns text one two) h
  turns_spend p (Err stop) h text one two = tt
