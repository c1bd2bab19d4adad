-- A store of which one put is torn: it writes a part of its piece and fails.
use Rattle.std.specs.Prelude.{◌≡◌, ℕ, ◌-◌, ◌==◌, Bool, if◌then◌else◌, List, Option, Some, None, Result, Ok, Err, OnErr, take}
use Rattle.base_outside.specs.Calls.{KeptMap, CountsCall, faulted}
use Rattle.base_outside.specs.Store.{Sets}
use Rattle.base_outside.specs.declared.causes.OutsideError.{OutsideError}
use Rattle.base_outside.specs.declared.causes.OutsideError.TheVariants.{Failed, Memory}
use Rattle.base_outside.specs.declared.torn.PutTurn.{PutTurn}
use Rattle.base_outside.specs.declared.torn.PutTurn.TheVariants.{Within, Tear, Stopped}

-- the store within, the puts left before the torn one (none once it was), the bytes that the torn put writes at most,
-- and whether every call behind it fails
pub record TornRecord : Type 0 where
  pub inner : KeptMap
  pub left : Option ℕ
  pub keep : ℕ
  pub stop : Bool

-- where the next put goes
abbrev pub turn_at : Option ℕ → Bool → PutTurn
turn_at None stop = if stop then Stopped else Within
turn_at (Some left) stop = if left == 0 then Tear else Within

abbrev pub turn_of : TornRecord → PutTurn
turn_of torn = turn_at torn.left torn.stop

-- a call behind the torn put fails and changes nothing
pub record StopsCalls {T : Type 0} (before : KeptMap) (result : Result T OutsideError) (after : KeptMap) : Type 0 where
  pub fails : result ≡ Err Failed
  pub contents : after.contents ≡ before.contents
  pub calls : after.calls ≡ faulted before.calls

-- a get goes to the store within, until all is stopped
abbrev pub GetsAt : {T : Type 0} → PutTurn → KeptMap → Result T OutsideError → KeptMap → Type 0
GetsAt Within before result after = CountsCall before.calls result after.calls
GetsAt Tear before result after = CountsCall before.calls result after.calls
GetsAt Stopped before result after = StopsCalls before result after

-- the torn put sets its place to a part of its piece and fails, or wants memory
abbrev pub Tears : List ℕ → List ℕ → KeptMap → Result Unit OutsideError → KeptMap → Type 0
Tears place part before (Ok done) after = ⊥
Tears place part before (Err Failed) after = Sets place part before.contents after.contents × (after.calls ≡ faulted before.calls)
Tears place part before (Err Memory) after = after ≡ before

-- a put to the store within
abbrev pub PutsWithin : KeptMap → Result Unit OutsideError → KeptMap → Type 0
PutsWithin before result after = CountsCall before.calls result after.calls × OnErr result (after.contents ≡ before.contents)

-- by the turn of a put
abbrev pub AtTurn : PutTurn → Type 0 → Type 0 → Type 0 → Type 0
AtTurn Within within tear stopped = within
AtTurn Tear within tear stopped = tear
AtTurn Stopped within tear stopped = stopped

-- a put of a piece at a place, by its turn, and the store within after it; the torn one writes a part of its piece
abbrev pub PutsAt : TornRecord → List ℕ → List ℕ → Result Unit OutsideError → KeptMap → Type 0
PutsAt torn place piece result after = AtTurn (turn_of torn)
    (PutsWithin torn.inner result after)
    (Tears place (take torn.keep piece) torn.inner result after)
    (StopsCalls torn.inner result after)

-- the puts left after a put
abbrev pub left_after : Option ℕ → Option ℕ
left_after None = None
left_after (Some left) = if left == 0 then None else Some (left - 1)
