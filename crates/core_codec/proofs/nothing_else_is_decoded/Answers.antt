use Rattle.core_codec.specs.RecordLaws.{only_encoded}
use Rattle.core_codec.proofs.nothing_else_is_decoded.Goals as goal

pub returns : goal.returns
returns c = only_encoded
