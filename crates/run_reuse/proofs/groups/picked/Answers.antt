use Rattle.std.proofs.Common.{refl, get_or}
use Rattle.run_reuse.proofs.Grouped.{all_picked, picked_on}
use Rattle.run_reuse.proofs.groups.picked.Goals as goal

pub loop-place-preserved : goal.loop-place-preserved
loop-place-preserved c =
    picked_on c.args.sources.now c.args.places.now c.loop-place.place-index c.loop-place.all _ c.loop-place.invariant (get_or c.args.places.now c.loop-place.place-index 0) _ c.loop-place-test.true refl c.in_ok-add_source_at.ensures

pub returns : goal.returns
returns c = all_picked c.args.sources.now c.args.places.now c.loop-place.place-index c.loop-place.all _ c.loop-place.invariant c.loop-place-test.false
