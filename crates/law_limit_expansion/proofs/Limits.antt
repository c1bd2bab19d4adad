-- The limits of trees are such a law.
use Rattle.stx_tree.specs.Measures.{Fits}
use Rattle.law_limits.proofs.Limits.{fits-lawful}
use Rattle.law_limit_expansion.specs.Limits.{RecordsStayWithin}
use Rattle.law_limit_expansion.proofs.Recorded.{records-stay}

pub stay-within : RecordsStayWithin
stay-within own records imports body codes r = records-stay Fits fits-lawful own records imports body codes r
