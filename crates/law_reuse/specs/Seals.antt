-- The premise on seals: where a put failed, nothing unsound lies at its place.
use Rattle.std.specs.Prelude.{ℕ, List, Option, Result}
use Rattle.base_data.specs.declared.fault.Fault.{Fault}
use Rattle.eval_code.specs.Codes.{Codes}
use Rattle.load_files.specs.declared.found.Found.{Found}
use Rattle.base_outside.specs.Contents.{Paths}
use Rattle.run_reuse.specs.Entries.{CacheInputs}
use Rattle.run_reuse.specs.Texts.{Text, Writes, took, stopped, unready, Leaves, untouched, turned}
use Rattle.run_reuse.specs.Turns.{StoreChange, TurnState, ReuseTurn, reused, expanded, IsPut, put, too_long, unspelled, failed, Breaks, nothing_put, entry_put, ReuseTurns, done, next, TurnsStop, here, later, BreaksOff, between, within, behind}
use Rattle.run_reuse.specs.declared.texts.Came.{Came}
use Rattle.law_reuse.specs.Sound.{IsHonestAt}

module _ (prelude : Result Codes Fault) where
  abbrev pub PutIsHonest : {place : List ℕ} {change : StoreChange} {o : Option (List ℕ)} → IsPut place change o → Type 0
  PutIsHonest (put short sets) = Unit {0}
  PutIsHonest (too_long long same) = Unit {0}
  PutIsHonest (unspelled same) = Unit {0}
  PutIsHonest {place = place} {change = change} (failed rose others) = IsHonestAt prelude change.after place

module _ (k : CacheInputs) (prelude : Result Codes Fault) where
  abbrev pub TurnIsHonest : {s t : TurnState} {f : Found} → ReuseTurn k prelude s f t → Type 0
  TurnIsHonest (reused r faults more stored) = Unit {0}
  TurnIsHonest (expanded r asked faults left more further misses made kept) = PutIsHonest prelude kept

  abbrev pub BreaksHonestly : {s : TurnState} {f : Found} {store : Paths} {faults : ℕ} → Breaks k prelude s f store faults → Type 0
  BreaksHonestly (nothing_put same more) = Unit {0}
  BreaksHonestly (entry_put r asked more further made kept) = PutIsHonest prelude kept

  abbrev pub TurnsHonestly : {s last : TurnState} {fs : List Found} → ReuseTurns k prelude s fs last → Type 0
  TurnsHonestly done = Unit {0}
  TurnsHonestly (next turn turns) = TurnIsHonest turn × TurnsHonestly turns

  abbrev pub StopsHonestly : {fault : Fault} {store : Paths} {faults : ℕ} {s : TurnState} {fs : List Found}
      → TurnsStop k prelude fault store faults s fs → Type 0
  StopsHonestly (here at) = Unit {0}
  StopsHonestly (later turn stops) = TurnIsHonest turn × StopsHonestly stops

  abbrev pub BreaksOffHonestly : {store : Paths} {faults : ℕ} {s : TurnState} {fs : List Found} → BreaksOff k prelude store faults s fs → Type 0
  BreaksOffHonestly (between same more) = Unit {0}
  BreaksOffHonestly (within breaks) = BreaksHonestly breaks
  BreaksOffHonestly (behind turn breaks) = TurnIsHonest turn × BreaksOffHonestly breaks

  abbrev pub WritesHonestly : {c : Came} {fs : List Found} {change : StoreChange} {made : Result Text Fault} → Writes k prelude c fs change made → Type 0
  WritesHonestly (took derived p is turns) = TurnsHonestly turns
  WritesHonestly (stopped derived fault is stops) = StopsHonestly stops
  WritesHonestly (unready fault is same) = Unit {0}

  abbrev pub LeavesHonestly : {fs : List Found} {change : StoreChange} → Leaves k prelude fs change → Type 0
  LeavesHonestly (untouched same) = Unit {0}
  LeavesHonestly (turned derived is breaks) = BreaksOffHonestly breaks
