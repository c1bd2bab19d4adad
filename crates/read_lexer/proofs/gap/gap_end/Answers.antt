use Rattle.std.proofs.Common.{◌<◌, suc, length, refl, arith}
use Rattle.std.proofs.lemmas.Result.{err_from_is_err_and}
use Rattle.read_lexer.specs.Gap.{atmosphere_end}
use Rattle.read_lexer.proofs.RepeatTurns.{turn, stays, halts}
use Rattle.read_lexer.proofs.gap.gap_end.Goals as goal

pub loop-to-init : goal.loop-to-init
loop-to-init c = record { forward = omega arith; fits = refl; same = (suc (length c.args.bytes.now), omega arith, refl) }

pub returns-then-to-here-clause-gives : goal.returns-then-to-here-clause-gives
returns-then-to-here-clause-gives c =
    stays (atmosphere_end c.args.file.now) c.loop-to.rest.now c.loop-to.here _ (rw c.if-to-here.true at c.in_ok-to.ensures.gives) c.loop-to.invariant.same

pub returns-in_err-to-clause-gives : goal.returns-in_err-to-clause-gives
returns-in_err-to-clause-gives c =
    let p = err_from_is_err_and c.from_residual.result c.from_residual.ensures.1 in
    rw (p.1, p.2) (halts (atmosphere_end c.args.file.now) c.loop-to.rest.now c.loop-to.here _ _ c.in_err-to.ensures.gives c.loop-to.invariant.same)

pub loop-to-preserved : goal.loop-to-preserved
loop-to-preserved c =
    let at_least = c.in_ok-to.ensures.within.0 in
    let at_most = c.in_ok-to.ensures.within.1 in
    let forward : c.loop-to.here < c.in_ok-to.to = grind (arith, c.if-to-here.false) in
    record {
      forward = omega (arith, at_least);
      fits = omega (arith, c.split_at.ensures.back_len, at_least, at_most);
      same = turn (atmosphere_end c.args.file.now) c.loop-to.rest.now _ c.loop-to.here c.in_ok-to.to _ forward at_most
          c.in_ok-to.ensures.gives c.split_at.ensures.back c.loop-to.invariant.same;
    }
