use Rattle.std.proofs.Common.{◌≡◌, ◌+◌, ◌*◌, drop}
use Rattle.std.specs.Prelude.{Some}
use Rattle.base_data.specs.Datum.{datum_size, chain, nil}
use Rattle.load_forms.specs.Version.{both, all_fit}
use Rattle.load_forms.proofs.version.+fits.Given as goal

abbrev pub invariant-all_fit-loop-reference : goal.invariant-all_fit-loop-reference
invariant-all_fit-loop-reference l = both (Some l.all) (all_fit l.wanted l.version (chain (drop l.reference-index l.references) nil)) ≡ all_fit l.wanted l.version (chain l.references nil)

abbrev pub decreases-fits : goal.decreases-fits
decreases-fits l = 2 * datum_size l.reference.now + 1

abbrev pub decreases-all_fit : goal.decreases-all_fit
decreases-all_fit l = 2 * datum_size (chain l.references.now nil)
