use Rattle.core_cache.specs.EntryLaws.{decodes}
use Rattle.core_cache.proofs.entry.an_entry_is_decoded.Goals as goal

pub returns : goal.returns
returns c = decodes
