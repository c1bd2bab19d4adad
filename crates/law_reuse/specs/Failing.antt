-- What calls of the store cost that fail.
use Rattle.std.specs.Prelude.{◌≡◌, ◌≤◌, ◌+◌, ◌-◌, ◌^◌, ℕ, zero, suc, min, List, Option, is_some, Result, if◌then◌else◌}
use Rattle.base_data.specs.declared.fault.Fault.{Fault}
use Rattle.eval_code.specs.Codes.{Codes}
use Rattle.load_files.specs.declared.found.Found.{Found}
use Rattle.run_reuse.specs.Entries.{CacheInputs}
use Rattle.run_reuse.specs.Turns.{StoreChange, TurnState, stored, ReuseTurn, reused, expanded, IsPut, put, too_long, unspelled, failed, ReuseTurns, done, next}

-- 1 for a put that failed
abbrev pub unput : {place : List ℕ} {change : StoreChange} {o : Option (List ℕ)} → IsPut place change o → ℕ
unput (put short sets) = 0
unput (too_long long same) = 0
unput (unspelled same) = 0
unput (failed rose others) = 1

-- A count of faults rose by so many at least, but that it ends at the last value that it can hold.
abbrev pub AtMostRisen : ℕ → ℕ → ℕ → Type 0
AtMostRisen before many after = min (before + many) (2 ^ 64 - 1) ≤ after

module _ (k : CacheInputs) (prelude : Result Codes Fault) where
  -- 1 for a library that was expanded although the store had a record for it
  abbrev pub overlooked : {s t : TurnState} {f : Found} → ReuseTurn k prelude s f t → ℕ
  overlooked (reused r faults later found) = 0
  overlooked {s = s} {f = f} (expanded r asked faults left later further misses made kept) = if is_some (stored k prelude s f) then 1 else 0

  abbrev pub unkept : {s t : TurnState} {f : Found} → ReuseTurn k prelude s f t → ℕ
  unkept (reused r faults later found) = 0
  unkept (expanded r asked faults left later further misses made kept) = unput kept

  -- how many libraries were
  abbrev pub all_overlooked : {s last : TurnState} {fs : List Found} → ReuseTurns k prelude s fs last → ℕ
  all_overlooked done = 0
  all_overlooked (next turn turns) = overlooked turn + all_overlooked turns

  abbrev pub all_unkept : {s last : TurnState} {fs : List Found} → ReuseTurns k prelude s fs last → ℕ
  all_unkept done = 0
  all_unkept (next turn turns) = unkept turn + all_unkept turns

  -- the put of the library at a place failed
  abbrev pub FailedAt : {s last : TurnState} {fs : List Found} → ReuseTurns k prelude s fs last → ℕ → Type 0
  FailedAt done place = ⊥
  FailedAt (next turn turns) zero = unkept turn ≡ 1
  FailedAt (next turn turns) (suc place) = FailedAt turns place

  pub record FailuresAreCounted (s last : TurnState) (fs : List Found) (turns : ReuseTurns k prelude s fs last) : Type 0 where
    pub overlooked : AtMostRisen s.faults (all_overlooked turns) last.faults
    pub unkept : AtMostRisen s.faults (all_unkept turns) last.faults
    -- no failure counts for both
    pub together : AtMostRisen s.faults (all_overlooked turns + all_unkept turns) last.faults
