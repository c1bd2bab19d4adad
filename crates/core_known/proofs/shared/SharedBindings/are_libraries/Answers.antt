use Rattle.std.proofs.Common.{subst}
use Rattle.core_known.specs.Needed.{AreLibraries}
use Rattle.core_known.proofs.shared.SharedBindings.are_libraries.Goals as goal

pub returns : goal.returns
returns c = subst AreLibraries c.self.view_is c.self.invariant
