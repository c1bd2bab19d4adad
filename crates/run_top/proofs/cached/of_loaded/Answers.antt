use Rattle.std.proofs.Common.{List, refl, subst, ◌∙◌}
use Rattle.load_files.specs.declared.found.Source.{Source}
use Rattle.run_reuse.specs.Groups.{AreGroups, groups_from}
use Rattle.run_top.proofs.FuelLemmas.{where_spent}
use Rattle.run_top.proofs.CachedLemmas.{kept_is, where_prepared}
use Rattle.run_top.proofs.cached.of_loaded.Goals as goal

pub returns-clause-gives : goal.returns-clause-gives
returns-clause-gives g c =
    let job = c.args.cached.now.job.now in
    let dir = c.args.cached.now.dir.now in
    let s = c.args.loaded.loading in
    let groups = c.in_ok-groups.groups in
    where_prepared (g.S.Store.told c.args.store.now) (g.S.Store.told c.write_program-written.new.store) job dir (g.S.Store.faults c.args.store.now) (g.S.Store.faults c.write_program-written.new.store)
    c.args.loaded _ _ _ groups _ _ c.requires
    (subst (λ (ss : List Source). AreGroups (groups_from 0 0 ss) s.begun s.done groups) c.as_slice.ensures c.in_ok-groups.ensures)
    (kept_is job dir s groups c.as_slice-2.result.now c.as_slice-3.result.now c.as_slice-4.result.now c.as_slice-2.ensures c.as_slice-3.ensures c.as_slice-4.ensures)
    refl (c.as_slice-5.ensures ∙ c.in_ok-libraries.ensures) c.as_slice-6.ensures _ _ c.prepared.ensures.unread c.prepared.ensures.gives c.write_program-written.ensures.answers

pub returns-clause-fuel : goal.returns-clause-fuel
returns-clause-fuel g c =
    let job = c.args.cached.now.job.now in
    let dir = c.args.cached.now.dir.now in
    let s = c.args.loaded.loading in
    let groups = c.in_ok-groups.groups in
    where_spent job dir c.args.loaded groups
    (subst (λ (ss : List Source). AreGroups (groups_from 0 0 ss) s.begun s.done groups) c.as_slice.ensures c.in_ok-groups.ensures)
    (g.S.Store.faults c.args.store.now) (g.S.Store.faults c.write_program-written.new.store) c.args.tally.now.fuel c.write_program-written.new.tally.fuel
    (g.S.Store.told c.args.store.now) (g.S.Store.told c.write_program-written.new.store) _ _ _ _ _ c.requires
    (kept_is job dir s groups c.as_slice-2.result.now c.as_slice-3.result.now c.as_slice-4.result.now c.as_slice-2.ensures c.as_slice-3.ensures c.as_slice-4.ensures)
    refl (c.as_slice-5.ensures ∙ c.in_ok-libraries.ensures) c.as_slice-6.ensures c.prepared.result c.write_program-written.result c.prepared.ensures.gives c.write_program-written.ensures.fuel
