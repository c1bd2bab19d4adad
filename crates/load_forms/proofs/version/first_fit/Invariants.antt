use Rattle.std.proofs.Common.{◌≡◌, drop}
use Rattle.std.specs.Prelude.{Some}
use Rattle.base_data.specs.Datum.{chain, nil}
use Rattle.load_forms.specs.Version.{both, first_fit}
use Rattle.load_forms.proofs.version.first_fit.Given as goal

abbrev pub invariant-loop-part : goal.invariant-loop-part
invariant-loop-part l = both (Some l.all) (first_fit l.left (chain (drop l.part-index l.parts) nil)) ≡ first_fit l.version (chain l.parts nil)
