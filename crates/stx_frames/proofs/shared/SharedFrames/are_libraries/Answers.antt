use Rattle.std.proofs.Common.{subst}
use Rattle.stx_frames.specs.Needed.{AreLibraries}
use Rattle.stx_frames.proofs.shared.SharedFrames.are_libraries.Goals as goal

pub returns : goal.returns
returns c = subst AreLibraries c.self.view_is c.self.invariant
