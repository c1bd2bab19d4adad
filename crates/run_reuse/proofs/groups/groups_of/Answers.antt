use Rattle.std.proofs.Common.{arith}
use Rattle.run_reuse.specs.Groups.{groups_from}
use Rattle.run_reuse.proofs.Grouped.{groups_all, groups_more}
use Rattle.run_reuse.proofs.groups.groups_of.Goals as goal

pub loop-place-preserved : goal.loop-place-preserved
loop-place-preserved c =
    rw c.in_ok-push.ensures.ok (groups_more c.in_ok-all.all (groups_from 0 0 c.args.sources.now) c.args.begun.now c.args.done.now c.loop-place.groups c.loop-place.place c.in-Some.group c.in_ok-all.ensures
    (rw c.in-Some.is at c.group_of.ensures) c.loop-place.invariant)

pub returns : goal.returns
returns c = groups_all (groups_from 0 0 c.args.sources.now) c.args.begun.now c.args.done.now c.loop-place.groups c.loop-place.place (omega (arith, c.size-place-end.ensures)) c.loop-place.invariant
