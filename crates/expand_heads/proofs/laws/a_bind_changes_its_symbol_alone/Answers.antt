use Rattle.expand_heads.proofs.KeptLaws.{stands_stays}
use Rattle.expand_heads.proofs.laws.a_bind_changes_its_symbol_alone.Goals as goal

pub returns : goal.returns
returns c = stands_stays
