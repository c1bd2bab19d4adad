use Rattle.std.proofs.Common.{◌≡◌, drop, map}
use Rattle.base_data.specs.Act.{each}
use Rattle.expand_forms.specs.Top.{export, all_exports}
use Rattle.expand_forms.proofs.top.all_exports.Given as goal

abbrev pub invariant-loop-external : goal.invariant-loop-external
invariant-loop-external g l = each (export l.at) l.done (map (λ e. e) (drop l.external-index l.list)) l.state ≡ all_exports l.at l.list l.fn.state
