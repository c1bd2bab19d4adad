-- Stores that only runs of this program have written, and damage.
use Rattle.std.specs.Prelude.{ℕ, List, []}
use Rattle.base_outside.specs.Contents.{Paths}
use Rattle.base_outside.specs.Store.{KeepsOthers}
use Rattle.run_prelude.specs.Prelude.{prelude_table}
use Rattle.run_reuse.specs.Turns.{StoreChange}
use Rattle.law_reuse.specs.Sound.{IsHonestAt}
use Rattle.run_top.specs.Cached.{LeavesOfHonestly}
use Rattle.run_top.specs.Headline.{LeavesHonest}
use Rattle.run_command.specs.declared.job.Job.{Job}

-- A store that was empty at first. Then runs wrote to it, each over files of its own and with words of its own; and whatever else
-- happened to its places left no unsound entry with a right seal there.
pub data Grown : Paths → Type 0 where
  empty : Grown []
  by_run : (files : Paths) (job : Job) (dir : List ℕ) (change : StoreChange) → Grown change.before
      → (left : LeavesHonest files job dir change) → LeavesOfHonestly left.leaves → Grown change.after
  damaged : {before after : Paths} (place : List ℕ) → Grown before → KeepsOthers place before after → IsHonestAt prelude_table after place → Grown after
