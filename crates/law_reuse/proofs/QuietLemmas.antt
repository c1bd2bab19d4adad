-- Where no call of the store failed, nothing foreign was left by one.
use Rattle.std.proofs.Common.{ℕ, ◌≤◌, List, Option, Some, None, Result, arith}
use Rattle.base_data.specs.declared.fault.Fault.{Fault}
use Rattle.eval_code.specs.Codes.{Codes}
use Rattle.load_files.specs.declared.found.Found.{Found}
use Rattle.base_outside.specs.Causes.{Rose}
use Rattle.base_outside.specs.Contents.{Paths}
use Rattle.run_reuse.specs.Entries.{CacheInputs}
use Rattle.run_reuse.specs.Texts.{Text, Writes, took, stopped, unready, Leaves, untouched, turned}
use Rattle.run_reuse.specs.Turns.{StoreChange, changed, TurnState, Quiet, ReuseTurn, reused, expanded, IsPut, put, too_long, unspelled, failed, Breaks, nothing_put, entry_put, ReuseTurns, done, next, TurnsStop, here, later, BreaksOff, between, within, behind}
use Rattle.run_reuse.specs.declared.texts.Came.{Came}
use Rattle.law_reuse.specs.Seals.{PutIsHonest, TurnIsHonest, BreaksHonestly, TurnsHonestly, StopsHonestly, BreaksOffHonestly, WritesHonestly, LeavesHonestly}

rose_within : (a b c d : ℕ) → a ≤ b → Rose b c → c ≤ d → Rose a d
rose_within a b c d h rose k = omega (arith, h, rose, k)

pub quiet_within : (a b c d : ℕ) → a ≤ b → c ≤ d → Quiet a d → Quiet b c
quiet_within a b c d h k quiet rose = quiet (rose_within a b c d h rose k)

pub same_count : (a : ℕ) → a ≤ a
same_count a = omega arith

up_to : (a b c : ℕ) → a ≤ b → b ≤ c → a ≤ c
up_to a b c h k = omega (arith, h, k)

module _ (k : CacheInputs) (prelude : Result Codes Fault) where
  put_quiet : (place : List ℕ) (change : StoreChange) (o : Option (List ℕ)) → Quiet change.faults_before change.faults_after → (p : IsPut place change o) → PutIsHonest prelude p
  put_quiet place change (Some piece) quiet (put short sets) = tt
  put_quiet place change (Some piece) quiet (too_long long same) = tt
  put_quiet place change None quiet (unspelled same) = tt
  put_quiet place change (Some piece) quiet (failed rose others) = absurd (quiet rose)

  pub turn_later : (s t : TurnState) (f : Found) → ReuseTurn k prelude s f t → s.faults ≤ t.faults
  turn_later s t f (reused r faults more found) = more
  turn_later s t f (expanded r asked faults left more further misses made kept) = up_to s.faults asked faults more further

  pub turn_quiet : (s t : TurnState) (f : Found) (turn : ReuseTurn k prelude s f t) → Quiet s.faults t.faults → TurnIsHonest k prelude turn
  turn_quiet s t f (reused r faults more found) quiet = tt
  turn_quiet s t f (expanded r asked faults left more further misses made kept) quiet = put_quiet _ (changed s.store asked left faults) _ (quiet_within s.faults asked faults faults more (same_count faults) quiet) kept

  pub turns_later : (s last : TurnState) (fs : List Found) → ReuseTurns k prelude s fs last → s.faults ≤ last.faults
  turns_later s last fs done = same_count s.faults
  turns_later s last fs (next {t = t} {f = f} {fs = rest} turn turns) = up_to s.faults t.faults last.faults (turn_later s t f turn) (turns_later t last rest turns)

  pub turns_quiet : (s last : TurnState) (fs : List Found) (turns : ReuseTurns k prelude s fs last) → Quiet s.faults last.faults → TurnsHonestly k prelude turns
  turns_quiet s last fs done quiet = tt
  turns_quiet s last fs (next {t = t} {f = f} {fs = rest} turn turns) quiet = (
    turn_quiet s t f turn (quiet_within s.faults s.faults t.faults last.faults (same_count s.faults) (turns_later t last rest turns) quiet),
    turns_quiet t last rest turns (quiet_within s.faults t.faults last.faults last.faults (turn_later s t f turn) (same_count last.faults) quiet),
  )

  pub stops_later : (fault : Fault) (store : Paths) (faults : ℕ) (s : TurnState) (fs : List Found) → TurnsStop k prelude fault store faults s fs → s.faults ≤ faults
  stops_later fault store faults s fs (here at) = at.later
  stops_later fault store faults s fs (later {t = t} {f = f} {fs = rest} turn stops) = up_to s.faults t.faults faults (turn_later s t f turn) (stops_later fault store faults t rest stops)

  stops_quiet : (fault : Fault) (store : Paths) (faults : ℕ) (s : TurnState) (fs : List Found) (stops : TurnsStop k prelude fault store faults s fs) → Quiet s.faults faults → StopsHonestly k prelude stops
  stops_quiet fault store faults s fs (here at) quiet = tt
  stops_quiet fault store faults s fs (later {t = t} {f = f} {fs = rest} turn stops) quiet = (
    turn_quiet s t f turn (quiet_within s.faults s.faults t.faults faults (same_count s.faults) (stops_later fault store faults t rest stops) quiet),
    stops_quiet fault store faults t rest stops (quiet_within s.faults t.faults faults faults (turn_later s t f turn) (same_count faults) quiet),
  )

  breaks_later : (s : TurnState) (f : Found) (store : Paths) (faults : ℕ) → Breaks k prelude s f store faults → s.faults ≤ faults
  breaks_later s f store faults (nothing_put same more) = more
  breaks_later s f store faults (entry_put r asked more further made kept) = up_to s.faults asked faults more further

  off_later : (store : Paths) (faults : ℕ) (s : TurnState) (fs : List Found) → BreaksOff k prelude store faults s fs → s.faults ≤ faults
  off_later store faults s fs (between same more) = more
  off_later store faults s fs (within {f = f} b) = breaks_later s f store faults b
  off_later store faults s fs (behind {t = t} {f = f} {fs = rest} turn b) = up_to s.faults t.faults faults (turn_later s t f turn) (off_later store faults t rest b)

  breaks_quiet : (s : TurnState) (f : Found) (store : Paths) (faults : ℕ) (b : Breaks k prelude s f store faults) → Quiet s.faults faults → BreaksHonestly k prelude b
  breaks_quiet s f store faults (nothing_put same more) quiet = tt
  breaks_quiet s f store faults (entry_put r asked more further made kept) quiet = put_quiet _ (changed s.store asked store faults) _ (quiet_within s.faults asked faults faults more (same_count faults) quiet) kept

  off_quiet : (store : Paths) (faults : ℕ) (s : TurnState) (fs : List Found) (b : BreaksOff k prelude store faults s fs) → Quiet s.faults faults → BreaksOffHonestly k prelude b
  off_quiet store faults s fs (between same more) quiet = tt
  off_quiet store faults s fs (within {f = f} b) quiet = breaks_quiet s f store faults b quiet
  off_quiet store faults s fs (behind {t = t} {f = f} {fs = rest} turn b) quiet = (
    turn_quiet s t f turn (quiet_within s.faults s.faults t.faults faults (same_count s.faults) (off_later store faults t rest b) quiet),
    off_quiet store faults t rest b (quiet_within s.faults t.faults faults faults (turn_later s t f turn) (same_count faults) quiet),
  )

  pub writes_quiet : (c : Came) (fs : List Found) (change : StoreChange) (made : Result Text Fault) (w : Writes k prelude c fs change made) → Quiet change.faults_before change.faults_after → WritesHonestly k prelude w
  writes_quiet c fs change made (took derived p is turns) quiet = turns_quiet _ _ fs turns quiet
  writes_quiet c fs change made (stopped derived fault is stops) quiet = stops_quiet fault change.after change.faults_after _ fs stops quiet
  writes_quiet c fs change made (unready fault is same) quiet = tt

  pub leaves_quiet : (fs : List Found) (change : StoreChange) (l : Leaves k prelude fs change) → Quiet change.faults_before change.faults_after → LeavesHonestly k prelude l
  leaves_quiet fs change (untouched same) quiet = tt
  leaves_quiet fs change (turned derived is b) quiet = off_quiet change.after change.faults_after _ fs b quiet
