-- What a call on a part of the stage gives is what it gives on the stage.
use Rattle.std.proofs.Common.{◌≡◌, Result, Ok, Err, ap}
use Rattle.base_data.specs.Act.{GivesAfter}
use Rattle.base_data.specs.Gives.{Gives}
use Rattle.base_data.specs.Named.{Named}
use Rattle.base_data.specs.declared.fault.Fault.{Fault}
use Rattle.base_data.specs.declared.fault.Stop.{Stop}
use Rattle.base_data.specs.declared.fault.Stop.TheVariants as stop
use Rattle.eval_stage.specs.Patterns.{named, unchanged}
use Rattle.eval_stage.specs.Stage.{PlainStage}

pub named_gives : {X A : Type 0} (view : X → A) (r : Result X Stop) (n : Named) (s : PlainStage) (given : Result (A × Named) Fault)
    → GivesAfter view r n given → GivesAfter view r (record s { names = n }) (named s given)
named_gives view (Ok x) n s given h = ap (named s) h
named_gives view (Err (stop.Fault f)) n s given h = ap (named s) h
named_gives view (Err stop.Memory) n s given h = tt

pub unchanged_gives : {X A : Type 0} (view : X → A) (r : Result X Stop) (s : PlainStage) (given : Result A Fault)
    → Gives view r given → GivesAfter view r s (unchanged s given)
unchanged_gives view (Ok x) s given h = ap (unchanged s) h
unchanged_gives view (Err (stop.Fault f)) s given h = ap (unchanged s) h
unchanged_gives view (Err stop.Memory) s given h = tt
