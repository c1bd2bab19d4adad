use Rattle.load_builtin.proofs.LibraryLaws.{once_each}
use Rattle.load_builtin.proofs.laws.each_name_stands_once.Goals as goal

pub returns : goal.returns
returns c = once_each
