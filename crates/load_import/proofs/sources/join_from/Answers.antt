use Rattle.std.proofs.Common.{sym}
use Rattle.load_import.proofs.sources.join_from.Goals as goal

pub join_set-requires : goal.join_set-requires
join_set-requires c = c.requires c.args.set.now.library c.in-Some.source.now (sym c.in-Some.ensures.value)
