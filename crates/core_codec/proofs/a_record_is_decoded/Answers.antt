use Rattle.core_codec.specs.RecordLaws.{decodes}
use Rattle.core_codec.proofs.a_record_is_decoded.Goals as goal

pub returns : goal.returns
returns c = decodes
