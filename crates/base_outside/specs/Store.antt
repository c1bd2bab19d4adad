-- What a store's calls answer, and what a put leaves.
use Rattle.std.specs.Prelude.{◌≡◌, ◌≢◌, ℕ, List, Option, Some, None, Result, Ok, Err}
use Rattle.base_outside.specs.Contents.{Paths, at_path, Reading, bytes, longer, absent}
use Rattle.base_outside.specs.declared.causes.OutsideError.{OutsideError}
use Rattle.base_outside.specs.declared.causes.OutsideError.TheVariants.{Failed, Memory}
use Rattle.base_outside.specs.declared.store.StoreAnswer.{StoreAnswer}
use Rattle.base_outside.specs.declared.store.StoreAnswer.TheVariants as answers

-- an answer, as what reading a place gives
abbrev pub store_reading : StoreAnswer → Reading
store_reading (answers.Found held) = bytes held.items
store_reading answers.Longer = longer
store_reading answers.Absent = absent

-- every other place holds what it held
abbrev pub KeepsOthers : List ℕ → Paths → Paths → Type 0
KeepsOthers place before after = (path : List ℕ) → path ≢ place → at_path after path ≡ at_path before path

-- one place holds the piece, and every other what it held
pub record Sets (place piece : List ℕ) (before after : Paths) : Type 0 where
  pub held : at_path after place ≡ Some piece
  pub others : KeepsOthers place before after

-- a put sets its place; where it failed that place may hold anything or nothing; for want of memory all is as it was
abbrev pub Puts : Result Unit OutsideError → List ℕ → List ℕ → Paths → Paths → Type 0
Puts (Ok done) place piece before after = Sets place piece before after
Puts (Err Failed) place piece before after = KeepsOthers place before after
Puts (Err Memory) place piece before after = after ≡ before

-- contents that are told before a call are told after it, and are so related
abbrev pub WhereTold : Option Paths → Option Paths → (Paths → Paths → Type 0) → Type 0
WhereTold None after R = Unit {0}
WhereTold (Some before) None R = ⊥
WhereTold (Some before) (Some after) R = R before after
