use Rattle.run_reuse.proofs.Grouped.{no_place, place_on}
use Rattle.run_reuse.proofs.groups.add_places.Goals as goal

pub loop-place-preserved : goal.loop-place-preserved
loop-place-preserved c = rw c.in_ok-push.ensures.ok (place_on c.args.end c.loop-place.place c.loop-place.all _ c.loop-place.invariant c.loop-place-test.true)

pub returns : goal.returns
returns c = no_place c.args.end c.loop-place.place c.loop-place.all _ c.loop-place.invariant c.loop-place-test.false
