-- What an action gives, without the state after it.
use Rattle.std.proofs.Common.{◌≡◌, ℕ, ◌+◌, List, [], Result, Ok, Err, refl, ap, subst, sym, arith}
use Rattle.base_data.specs.Act.{GivesAfter, each}
use Rattle.base_data.specs.Gives.{Gives, Stops}
use Rattle.base_data.specs.declared.fault.Fault.{Fault}
use Rattle.base_data.specs.declared.fault.Stop.{Stop}
use Rattle.base_data.specs.declared.fault.Stop.TheVariants as stops
use Rattle.core_language.specs.Core.{PlainCode}
use Rattle.expand_standing.specs.State.{State}
use Rattle.expand_forms.specs.Expanding.{Expanding}
use Rattle.run_prelude.specs.Prelude.{procedures, text_code, without_state}
use Rattle.run_prelude.specs.Spent.{spent_behind, UnlessMemory}

pub gives_without : {X : Type 0} (view : X → List PlainCode) (r : Result X Stop) (s : State) (given : Result (List PlainCode × State) Fault)
    → GivesAfter view r s given → Gives view r (without_state given)
gives_without view (Ok x) s given e = ap without_state e
gives_without view (Err stops.Memory) s given e = tt
gives_without view (Err (stops.Fault f)) s given e = ap without_state e

abbrev value_or : Expanding → Result Expanding Fault → Expanding
value_or e (Ok x) = x
value_or e (Err f) = e

-- what all texts give, by an expander that was made
pub ended : {X : Type 0} (view : X → List PlainCode) (r : Result X Stop) (s : State) (e d : Expanding) → ◌≡◌ {A = Result Expanding Fault} (Ok d) (Ok e)
    → GivesAfter view r s (each text_code [] procedures e.state) → Gives view r (without_state (each text_code [] procedures d.state))
ended view r s e d same given =
    gives_without view r s (each text_code [] procedures d.state)
    (subst (λ (x : Expanding). GivesAfter view r s (each text_code [] procedures x.state)) (sym (ap (value_or e) same)) given)

-- ---- the fuel

abbrev spent_by : Result (List PlainCode × State) Fault → ℕ
spent_by r = spent_behind r (λ p. p.1.spent)

-- an expander that couldn't be made lacked memory
pub memory_alone : (e : Expanding) (stop : Stop) → Stops stop (let r : Result Expanding Fault = Ok e in r) → stop ≡ stops.Memory
memory_alone e stops.Memory h = refl
memory_alone e (stops.Fault f) h = absurd (cc)

-- where a text is at fault nothing is counted
module _ {X : Type 0} (view : X → List PlainCode) (s : State) (e d : Expanding) (same : ◌≡◌ {A = Result Expanding Fault} (Ok d) (Ok e)) (before now : ℕ) (kept : now ≡ before) where
  state_is : spent_by (each text_code [] procedures e.state) ≡ spent_by (each text_code [] procedures d.state)
  state_is = ap (λ (x : Expanding). spent_by (each text_code [] procedures x.state)) (sym (ap (value_or e) same))

  pub stopped_spent : (stop : Stop) → GivesAfter view (Err stop) s (each text_code [] procedures e.state) → UnlessMemory {X = X} (Err stop) (now ≡ before + spent_by (each text_code [] procedures d.state))
  stopped_spent stops.Memory given = tt
  stopped_spent (stops.Fault f) given = let n : spent_by (each text_code [] procedures e.state) ≡ 0 = ap spent_by given in omega (arith, state_is, n, kept)

  pub ended_spent : (x : X) (after : ℕ) → GivesAfter view (Ok x) s (each text_code [] procedures e.state) → after ≡ now + s.spent → after ≡ before + spent_by (each text_code [] procedures d.state)
  ended_spent x after given rose = let n : spent_by (each text_code [] procedures e.state) ≡ s.spent = ap spent_by given in omega (arith, state_is, n, kept, rose)
