use Rattle.std.proofs.Common.{arith}
use Rattle.run_xref.proofs.Placed.{walks_on, arrives}
use Rattle.run_xref.proofs.marks.walk.Goals as goal

pub loop-mark-preserved : goal.loop-mark-preserved
loop-mark-preserved c =
    let p = c.next_piece-piece in
    let t = walks_on c.args.source.now c.split_at.result.1.now c.args.offset c.loop-mark.mark c.in_ok-mark.mark p.result.size p.result.ends c.split_at.ensures.back c.loop-mark-test.true c.requires.1
    p.ensures.ends p.ensures.size p.ensures.some.1 c.in_ok-mark.ensures c.loop-mark.invariant.leads in
    record { within = t.0; leads = t.1 }

pub returns : goal.returns
returns c = arrives c.args.source.now c.args.offset c.loop-mark.mark (omega arith) c.loop-mark.invariant.leads
