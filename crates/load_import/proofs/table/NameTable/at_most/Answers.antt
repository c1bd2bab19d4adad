use Rattle.std.proofs.Common.{subst}
use Rattle.load_import.specs.Shared.{IsOwn}
use Rattle.load_import.proofs.FoundLemmas.{place_own}
use Rattle.load_import.proofs.table.NameTable.at_most.Goals as goal

pub returns-clause-own : goal.returns-clause-own
returns-clause-own g c = subst IsOwn c.self.view_is (place_own c.self.inside.rows.entries c.len.ensures.unique)
