use Rattle.law_codec.specs.Layout.{atoms_laid_out}
use Rattle.law_codec.proofs.layout_of_atoms.Goals as goal

pub returns : goal.returns
returns c = atoms_laid_out
