use Rattle.std.proofs.Common.{◌++◌}
use Rattle.run_make.specs.Made.{each}
use Rattle.run_make.proofs.Counting.{each_on, each_done}
use Rattle.run_make.proofs.made.put_each.Goals as goal

pub loop-number-preserved : goal.loop-number-preserved
loop-number-preserved c = each_on c.args.pattern.now c.loop-number.number c.args.count c.loop-number.out.items c.put_filled.new.out.items (c.args.out.now.items ++ each c.args.pattern.now 0 c.args.count) c.loop-number-test.true c.in_ok-put_filled.ensures c.loop-number.invariant

pub returns : goal.returns
returns c = each_done c.args.pattern.now c.loop-number.number c.args.count c.loop-number.out.items (c.args.out.now.items ++ each c.args.pattern.now 0 c.args.count) c.loop-number-test.false c.loop-number.invariant
