use Rattle.std.proofs.Common.{◌≤◌, map}
use Rattle.base_outside.specs.Store.{WhereTold}
use Rattle.run_prelude.specs.Prelude.{kept}
use Rattle.run_reuse.specs.Turns.{state}
use Rattle.run_reuse.proofs.FuelLemmas.{FuelGoesOn}
use Rattle.run_reuse.proofs.Goes.{GoesOn}
use Rattle.run_reuse.proofs.turns.take_each.Given as goal

abbrev pub invariant-loop-found : goal.invariant-loop-found
invariant-loop-found g l = record {
  later : g.S.Store.faults l.fn.store ≤ g.S.Store.faults l.store;
  told : WhereTold (g.S.Store.told l.fn.store) (g.S.Store.told l.store) (λ before now.
      GoesOn l.turning.cache.now (kept l.turning.implementation.now.prelude) (state l.fn.turned before (g.S.Store.faults l.fn.store)) (map (λ row. row.1) l.fn.libraries)
      (state l.turned now (g.S.Store.faults l.store)) l.found-iterator);
  fuel : FuelGoesOn (kept l.turning.implementation.now.prelude) l.fn.turned (map (λ row. row.1) l.fn.libraries) l.fn.tally.fuel l.turned l.found-iterator l.tally.fuel;
}
