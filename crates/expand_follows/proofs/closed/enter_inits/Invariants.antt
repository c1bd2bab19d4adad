use Rattle.std.proofs.Common.{◌≡◌, drop}
use Rattle.core_language.specs.CoreView.{inits}
use Rattle.core_language.specs.Labels.{with_labels}
use Rattle.law_core.specs.Parts.{init_labels}
use Rattle.expand_follows.proofs.closed.enter_inits.Given as goal

abbrev pub invariant-loop-init : goal.invariant-loop-init
invariant-loop-init l = with_labels l.scope (init_labels (inits (drop l.init-index l.list))) ≡ with_labels l.initial.scope (init_labels (inits l.list))
