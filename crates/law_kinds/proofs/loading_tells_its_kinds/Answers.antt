use Rattle.law_kinds.proofs.Loading.{loading-tells}
use Rattle.law_kinds.proofs.loading_tells_its_kinds.Goals as goal

pub returns : goal.returns
returns c = loading-tells
