use Rattle.std.proofs.Common.{◌≡◌, ◌+◌, ◌*◌, drop}
use Rattle.std.specs.Prelude.{Some}
use Rattle.base_data.specs.Datum.{datum_size, chain, nil}
use Rattle.load_forms.specs.Version.{both, all_numbers}
use Rattle.load_forms.proofs.version.+number.Given as goal

abbrev pub invariant-all_numbers-loop-part : goal.invariant-all_numbers-loop-part
invariant-all_numbers-loop-part l = both (Some l.all) (all_numbers l.wanted l.n (chain (drop l.part-index l.parts) nil)) ≡ all_numbers l.wanted l.n (chain l.parts nil)

abbrev pub decreases-number_fits : goal.decreases-number_fits
decreases-number_fits l = 2 * datum_size l.part.now + 1

abbrev pub decreases-all_numbers : goal.decreases-all_numbers
decreases-all_numbers l = 2 * datum_size (chain l.parts.now nil)
