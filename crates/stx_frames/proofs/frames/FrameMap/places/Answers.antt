use Rattle.std.proofs.Common.{List, [], arith}
use Rattle.base_data.specs.declared.library.LibName.TheVariants.{Core}
use Rattle.base_data.specs.declared.name.FrameNo.{FrameNo}
use Rattle.stx_frames.specs.Rows.{Row}
use Rattle.stx_frames.proofs.ListedLemmas.{placed_less}
use Rattle.stx_frames.proofs.frames.FrameMap.places.Goals as goal

pub loop-left-preserved : goal.loop-left-preserved
loop-left-preserved c =
    let d : FrameNo × List Row = (record { 0 = record { library = Core; number = 0 } }, []) in
    record {
      within = omega (arith, c.loop-left.invariant.within);
      done = placed_less c.args.library.now c.args.self.now c.loop-left.left d c.loop-left.places.entries c.place.new.places.entries c.loop-left-test.true c.loop-left.invariant.within c.loop-left.invariant.done (c.in_ok-place.ensures d);
    }
