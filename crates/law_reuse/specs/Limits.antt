-- The limit of an entry, written out as a number.
use Rattle.std.specs.Prelude.{◌≡◌}
use Rattle.law_local.specs.Reuse as law
use Rattle.run_reuse.specs.Entries.{entry_limit}

pub record EntryLimitIsWritten : Type 0 where
  -- bytes of an entry with its seal, in runs and in the law of sources and entries
  pub of_runs : entry_limit ≡ 8388608
  pub of_laws : law.entry_limit ≡ 8388608
