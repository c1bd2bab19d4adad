use Rattle.std.proofs.Common.{subst}
use Rattle.core_known.specs.Needed.{AreLibraries, needed_parts}
use Rattle.core_known.proofs.NeededLemmas.{libraries-needed, placed-libraries, elsewhere-needed}
use Rattle.core_known.proofs.needed.NeededBindings.new.Goals as goal

pub invariant_of-result : goal.invariant_of-result
invariant_of-result c = subst AreLibraries c.deref.ensures c.are_libraries.ensures

pub returns-clause-placed : goal.returns-clause-placed
returns-clause-placed c =
    let ps = c.args.shared.value in
    let ms = c.args.needs.value in
    placed-libraries (needed_parts ms ps) (libraries-needed ms ps (subst AreLibraries c.deref.ensures c.are_libraries.ensures))

pub returns-clause-elsewhere : goal.returns-clause-elsewhere
returns-clause-elsewhere c = λ l none. elsewhere-needed l c.args.needs.value c.args.shared.value (subst AreLibraries c.deref.ensures c.are_libraries.ensures) none
