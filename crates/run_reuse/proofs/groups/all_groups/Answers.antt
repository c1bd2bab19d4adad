use Rattle.run_reuse.proofs.Grouped.{file_on, no_more}
use Rattle.run_reuse.proofs.groups.all_groups.Goals as goal

pub loop-place-preserved : goal.loop-place-preserved
loop-place-preserved c =
    file_on c.args.sources.now c.loop-place.place c.loop-place.first c.loop-place.groups _ c.loop-place.invariant c.index-sources-place.result c.loop-place-test.true c.index-sources-place.is _ _ c.in_ok-add_file.ensures c.first_behind-first.ensures

pub returns : goal.returns
returns c = no_more c.args.sources.now c.loop-place.place c.loop-place.first c.loop-place.groups _ c.loop-place.invariant c.loop-place-test.false
