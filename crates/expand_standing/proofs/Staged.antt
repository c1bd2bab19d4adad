-- What a call gives on the stage, it gives in the state.
use Rattle.std.proofs.Common.{Result, Ok, Err, ap}
use Rattle.base_data.specs.Act.{GivesAfter}
use Rattle.base_data.specs.Gives.{Gives}
use Rattle.base_data.specs.declared.fault.Fault.{Fault}
use Rattle.base_data.specs.declared.fault.Stop.{Stop}
use Rattle.base_data.specs.declared.fault.Stop.TheVariants as stop
use Rattle.eval_stage.specs.Stage.{PlainStage}
use Rattle.expand_standing.specs.RecordUses.{at_state}
use Rattle.expand_standing.specs.State.{State, staged, with_stage}

pub staged_gives : {X A : Type 0} (view : X → A) (r : Result X Stop) (g : PlainStage) (s : State) (given : Result (A × PlainStage) Fault)
    → GivesAfter view r g given → GivesAfter view r (with_stage g s) (staged s given)
staged_gives view (Ok x) g s given h = ap (staged s) h
staged_gives view (Err (stop.Fault f)) g s given h = ap (staged s) h
staged_gives view (Err stop.Memory) g s given h = tt

-- what a call gives that leaves the state as it is
pub at_state_gives : {X A : Type 0} (view : X → A) (r : Result X Stop) (s : State) (given : Result A Fault) → Gives view r given → GivesAfter view r s (at_state s given)
at_state_gives view (Ok x) s given h = ap (at_state s) h
at_state_gives view (Err (stop.Fault f)) s given h = ap (at_state s) h
at_state_gives view (Err stop.Memory) s given h = tt
