use Rattle.expand_heads.proofs.KeptLaws.{kept_found}
use Rattle.expand_heads.proofs.laws.a_symbol_has_all_its_heads.Goals as goal

pub returns : goal.returns
returns c = kept_found
