use Rattle.std.proofs.Common.{subst}
use Rattle.stx_frames.specs.Needed.{AreLibraries, needed_parts}
use Rattle.stx_frames.proofs.NeededLemmas.{libraries-needed, placed-libraries, apart-libraries}
use Rattle.stx_frames.proofs.needed.NeededFrames.new.Goals as goal

pub invariant_of-result : goal.invariant_of-result
invariant_of-result c = subst AreLibraries c.deref.ensures c.are_libraries.ensures

pub returns-clause-placed : goal.returns-clause-placed
returns-clause-placed c =
    let ps = c.args.shared.value in
    let ms = c.args.needs.value in
    placed-libraries (needed_parts ms ps) (libraries-needed ms ps (subst AreLibraries c.deref.ensures c.are_libraries.ensures))

pub returns-clause-apart : goal.returns-clause-apart
returns-clause-apart c =
    let ps = c.args.shared.value in
    let ms = c.args.needs.value in
    apart-libraries (needed_parts ms ps) (libraries-needed ms ps (subst AreLibraries c.deref.ensures c.are_libraries.ensures))
