use Rattle.std.proofs.Common.{◌≡◌, length}
use Rattle.read_machine.specs.Step.{deliver}
use Rattle.read_machine.proofs.step.deliver.Given as goal

abbrev pub invariant-loop-form : goal.invariant-loop-form
invariant-loop-form l =
    deliver l.context.file.now l.state.stack l.state.done l.datum l.at ≡ deliver l.context.file.now l.fn.state.stack l.fn.state.done l.fn.datum l.fn.at

abbrev pub decreases-loop-form : goal.decreases-loop-form
decreases-loop-form l = length l.state.stack
