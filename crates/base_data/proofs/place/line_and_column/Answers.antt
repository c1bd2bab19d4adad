use Rattle.std.proofs.Common.{◌<◌, ◌≤◌, suc, arith, refl}
use Rattle.base_data.proofs.Places.{turn, stops, moved-line, moved-column, moved-some}
use Rattle.base_data.proofs.place.line_and_column.Goals as goal

pub loop-left-init : goal.loop-left-init
loop-left-init c = record { fits = omega arith; lines = omega arith; columns = omega arith; some = omega arith; same = (c.args.offset, omega arith, refl) }

pub loop-left-preserved : goal.loop-left-preserved
loop-left-preserved c =
    let p = c.next_piece-piece.result in
    let line : c.moved-at.result.0 ≤ suc c.loop-left.at.0 = rw c.moved-at.ensures (moved-line c.loop-left.at p.ends) in
    let column : c.moved-at.result.1 ≤ suc c.loop-left.at.1 = rw c.moved-at.ensures (moved-column c.loop-left.at p.ends c.loop-left.invariant.some) in
    let positive : 0 < c.moved-at.result.1 = rw c.moved-at.ensures (moved-some c.loop-left.at p.ends) in
    record {
      fits = omega arith;
      lines = omega arith;
      columns = omega arith;
      some = positive;
      same = turn _ _ _ _ p.size p.ends _ _ _ c.loop-left-test.true c.next_piece-piece.ensures.some.0 c.next_piece-piece.ensures.ends c.next_piece-piece.ensures.size c.split_at.ensures.back c.saturating_sub-left.ensures c.moved-at.ensures c.loop-left.invariant.same;
    }

pub returns : goal.returns
returns c = stops _ _ _ _ (omega arith) c.loop-left.invariant.same
