use Rattle.std.proofs.Common.{◌≡◌, take}
use Rattle.core_known.specs.Known.{AreOf}
use Rattle.core_known.proofs.given.bindings_of.Given as goal

abbrev pub invariant-loop-label : goal.invariant-loop-label
invariant-loop-label l = record {
  rows : l.bindings ≡ take l.label-index l.rows;
  of : AreOf l.library l.bindings;
}
