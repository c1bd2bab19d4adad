-- Entries that hold what expansion gives, and stores of such entries.
use Rattle.std.specs.Prelude.{◌≡◌, ℕ, List, Some, Result}
use Rattle.base_data.specs.declared.fault.Fault.{Fault}
use Rattle.core_cache.specs.declared.entry.Entry.{Entry}
use Rattle.eval_code.specs.Codes.{Codes}
use Rattle.law_local.specs.Entry as entries
use Rattle.base_outside.specs.Contents.{Paths, at_path}
use Rattle.run_reuse.specs.Entries.{entry_in}

-- an entry, as the law of sources and records has it
abbrev pub as_entry : Entry → entries.ExpandedEntry
as_entry e = record { path = e.path; roots = e.roots; sources = e.sources; stored = e.stored }

abbrev pub IsSound : Result Codes Fault → Entry → Type 0
IsSound prelude e = entries.IsSoundEntry prelude (as_entry e)

-- what lies at a place, where it is a sealed entry, is sound
abbrev pub IsHonestAt : Result Codes Fault → Paths → List ℕ → Type 0
IsHonestAt prelude store place = (held : List ℕ) (e : Entry) → at_path store place ≡ Some held → entry_in held ≡ Some e → IsSound prelude e

-- and so at every place
abbrev pub IsHonest : Result Codes Fault → Paths → Type 0
IsHonest prelude store = (place : List ℕ) → IsHonestAt prelude store place
