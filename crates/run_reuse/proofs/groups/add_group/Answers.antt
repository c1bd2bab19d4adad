use Rattle.std.proofs.Common.{arith}
use Rattle.run_reuse.proofs.Grouped.{no_group, whole_group}
use Rattle.run_reuse.proofs.groups.add_group.Goals as goal

pub returns-then-group : goal.returns-then-group
returns-then-group c = no_group c.args.group.first c.args.group.own c.args.all.now (omega arith)

pub returns : goal.returns
returns c = whole_group c.args.group.first c.args.group.own c.args.all.now _ _ (omega arith) c.in_ok-add_places.ensures c.in_ok-push.ensures.ok
