use Rattle.std.proofs.Common.{◌+◌, ◌*◌}
use Rattle.base_data.specs.Datum.{datum_size, chain, nil}
use Rattle.load_forms.proofs.set.+import_set.Given as goal

abbrev pub decreases-import_set : goal.decreases-import_set
decreases-import_set l = 2 * datum_size l.datum.now + 1

abbrev pub decreases-stepped : goal.decreases-stepped
decreases-stepped l = 2 * datum_size (chain l.items.now nil)
