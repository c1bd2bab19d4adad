use Rattle.law_expand.proofs.GoodKeywords.{keywords-good}
use Rattle.law_expand.proofs.laws.keywords_are_good.Goals as goal

pub returns : goal.returns
returns c = keywords-good
