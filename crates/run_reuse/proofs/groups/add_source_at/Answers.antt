use Rattle.run_reuse.proofs.Grouped.{nothing_at}
use Rattle.run_reuse.proofs.groups.add_source_at.Goals as goal

pub returns : goal.returns
returns c = nothing_at c.args.sources.now c.args.place c.args.all.now c.if-place-sources.false
