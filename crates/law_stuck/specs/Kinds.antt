-- The faults that an evaluation ends with.
use Rattle.std.specs.Prelude.{ℕ}
use Rattle.base_data.specs.declared.fault.FaultKind.{FaultKind}
use Rattle.base_data.specs.declared.fault.FaultKind.TheVariants as kind
use Rattle.eval_code.specs.State.{Outcome, done, faulted, unfit}
use Rattle.law_eval.specs.Runs.{ByFuel, Everywhere}

-- every kind of fault but that of cells that don't fit
abbrev pub NotStuck : FaultKind → Type 0
NotStuck kind.Stuck = ⊥
NotStuck _ = Unit {0}

abbrev pub TellsOther : Outcome → Type 0
TellsOther (done v s n) = Unit {0}
TellsOther (faulted f s n) = NotStuck f.kind
TellsOther unfit = Unit {0}

-- with any fuel
abbrev pub AlwaysTellsOther : ByFuel → Type 0
AlwaysTellsOther run = (n : ℕ) → TellsOther (run n)

-- No fault of an evaluation is that of cells that don't fit, in whatever world.
abbrev pub EvaluationsTellOther : Type 0
EvaluationsTellOther = Everywhere AlwaysTellsOther
