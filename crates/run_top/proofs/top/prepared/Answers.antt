use Rattle.std.proofs.Common.{◌≡◌}
use Rattle.run_top.proofs.FuelLemmas.{cached_spends, plain_spends}
use Rattle.run_top.proofs.CachedLemmas.{prepared_keeps, prepared_says}
use Rattle.run_top.proofs.top.prepared.Goals as goal

pub returns-in-Some-clause-gives : goal.returns-in-Some-clause-gives
returns-in-Some-clause-gives g c = prepared_says _ _ c.args.job.now _ c.in-Some.is c.requires c.prepare_cached.result c.prepare_cached.ensures.gives

pub returns-in-Some-clause-store : goal.returns-in-Some-clause-store
returns-in-Some-clause-store g c =
    let was = c.args.inputs.now.store in
    let is = c.prepare_cached.new.inputs.store in
    prepared_keeps (g.F.Files.told c.args.inputs.now.files)
    (record { before = g.S.Store.told was; after = g.S.Store.told is; faults_before = g.S.Store.faults was; faults_after = g.S.Store.faults is })
    c.args.job.now _ c.in-Some.is c.requires (is ≡ was) c.prepare_cached.result c.prepare_cached.ensures.gives

pub returns-in-Some-clause-fuel : goal.returns-in-Some-clause-fuel
returns-in-Some-clause-fuel g c = cached_spends _ _ c.args.job.now _ _ _ c.in-Some.is c.prepare_cached.result c.prepare_cached.ensures.fuel

pub returns-in-None-clause-fuel : goal.returns-in-None-clause-fuel
returns-in-None-clause-fuel g c = plain_spends _ _ c.args.job.now _ _ c.in-None.is c.prepare.result c.prepare.ensures.fuel
