use Rattle.law_kinds.proofs.Reading.{reading-tells}
use Rattle.law_kinds.proofs.reading_tells_its_kinds.Goals as goal

pub returns : goal.returns
returns c = reading-tells
