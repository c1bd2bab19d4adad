use Rattle.run_xref.proofs.Placed.{turns_over}
use Rattle.run_xref.proofs.marks.marks_of.Goals as goal

pub loop-rest-preserved : goal.loop-rest-preserved
loop-rest-preserved c =
    let p = c.next_piece-piece in
    let i = c.loop-rest.invariant in
    let t = turns_over c.args.source.now c.loop-rest.rest.now c.split_at.result.1.now c.loop-rest.marks c.keep.new.marks c.loop-rest.mark c.in_ok-next.next p.result.size p.result.ends i.rest i.within i.placed i.all
    p.ensures.ends p.ensures.size p.ensures.some.0 p.ensures.some.1 c.in_ok-next.ensures c.in_ok-keep.ensures c.split_at.ensures.back in
    record { rest = t.0; within = t.1; placed = t.2; all = t.3 }
