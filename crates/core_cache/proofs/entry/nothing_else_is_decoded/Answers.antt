use Rattle.core_cache.specs.EntryLaws.{only_encoded}
use Rattle.core_cache.proofs.entry.nothing_else_is_decoded.Goals as goal

pub returns : goal.returns
returns c = only_encoded
