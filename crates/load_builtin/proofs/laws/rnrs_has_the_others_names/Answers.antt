use Rattle.load_builtin.proofs.LibraryLaws.{rnrs_has}
use Rattle.load_builtin.proofs.laws.rnrs_has_the_others_names.Goals as goal

pub returns : goal.returns
returns c = rnrs_has
