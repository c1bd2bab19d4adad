-- The adapters over the system, as contracts see them: their counts, and what a sink's writer holds.
use Rattle.std.specs.Prelude.{ℕ, ◌≤◌, List, take, Option, Result, Ok, Err}
use Rattle.base_outside.specs.Sink.{Gains}
use Rattle.base_outside.specs.declared.sink.PutFailed.{PutFailed}

-- a writer, how many puts have failed, and how many were asked for
pub record WrittenPuts (W : Type 0) : Type 0 where
  pub writer : W
  pub faults : ℕ
  pub puts : ℕ

-- what a writer that tells its bytes gained: all of a piece, or a part that is no shorter than was said
abbrev pub Writes : Result Unit PutFailed → Option (List ℕ) → Option (List ℕ) → List ℕ → Type 0
Writes (Ok done) before now piece = Gains before now piece
Writes (Err error) before now piece = (gained : ℕ) × (error.taken ≤ gained) × Gains before now (take gained piece)
