-- Libraries in the order of loading, each with its record: reused from a store, or expanded and kept in it.
use Rattle.std.specs.Prelude.{◌≡◌, ℕ, ◌<◌, ◌≤◌, true, false, List, [], ◌∷◌, length, Option, None, Some, Result, Ok, Err}
use Rattle.base_data.specs.declared.fault.Fault.{Fault}
use Rattle.base_data.specs.declared.fault.Stop.{Stop}
use Rattle.base_data.specs.declared.fault.Stop.TheVariants as stop
use Rattle.base_data.specs.declared.memory.Memory.{Memory}
use Rattle.core_language.specs.declared.record.CompiledLibrary.{CompiledLibrary}
use Rattle.eval_code.specs.Codes.{Codes}
use Rattle.load_forms.specs.Form.{library_body}
use Rattle.run_library.specs.Loaded.{expand_found}
use Rattle.load_files.specs.declared.found.Found.{Found}
use Rattle.base_outside.specs.Causes.{Rose}
use Rattle.base_outside.specs.Contents.{Paths, at_path}
use Rattle.base_outside.specs.Store.{KeepsOthers, Sets}
use Rattle.run_reuse.specs.Entries.{CacheInputs, entry_limit, if_short, made, place_of, spelled}
use Rattle.run_reuse.specs.Progress.{ReuseProgress, begun, with_record}
use Rattle.run_reuse.specs.declared.turns.Recorded.{Recorded}

-- the progress, beside what the store holds and how many of its calls have failed
pub record TurnState : Type 0 where
  pub progress : ReuseProgress
  pub store : Paths
  pub faults : ℕ

abbrev pub state : ReuseProgress → Paths → ℕ → TurnState
state p store faults = record { progress = p; store = store; faults = faults }

-- no call failed
abbrev pub Quiet : ℕ → ℕ → Type 0
Quiet before after = Rose before after → ⊥

-- what became of a store: what it held, and how many of its calls had failed, before and after
pub record StoreChange : Type 0 where
  pub before : Paths
  pub faults_before : ℕ
  pub after : Paths
  pub faults_after : ℕ

abbrev pub changed : Paths → ℕ → Paths → ℕ → StoreChange
changed before faults_before after faults_after = record { before = before; faults_before = faults_before; after = after; faults_after = faults_after }

-- ---- one library

-- an entry is put unless it has no spelling or is too long; where the put failed, only its place is touched
pub data IsPut (place : List ℕ) (change : StoreChange) : Option (List ℕ) → Type 0 where
  put : {piece : List ℕ} → length piece ≤ entry_limit → Sets place piece change.before change.after → IsPut place change (Some piece)
  too_long : {piece : List ℕ} → entry_limit < length piece → change.after ≡ change.before → IsPut place change (Some piece)
  unspelled : change.after ≡ change.before → IsPut place change None
  failed : {piece : List ℕ} → Rose change.faults_before change.faults_after → KeepsOthers place change.before change.after
      → IsPut place change (Some piece)

-- for want of memory all is as it was
abbrev pub PutsEntry : Result Unit Memory → List ℕ → Option (List ℕ) → StoreChange → Type 0
PutsEntry (Ok done) place o change = IsPut place change o
PutsEntry (Err memory) place o change = change.after ≡ change.before

module _ (k : CacheInputs) (prelude : Result Codes Fault) where
  -- the record that the store has for a library
  abbrev pub stored : TurnState → Found → Option CompiledLibrary
  stored s f = if_short k s.progress.records f (at_path s.store (place_of k f))

  abbrev pub expanded_record : TurnState → Found → Result CompiledLibrary Fault
  expanded_record s f = expand_found prelude s.progress.records f (library_body f.opened.«data»)

  -- what was asked for isn't there, unless the call failed
  abbrev pub Misses : TurnState → Found → ℕ → Type 0
  Misses s f faults = Quiet s.faults faults → stored s f ≡ None

  pub data ReuseTurn (s : TurnState) (f : Found) : TurnState → Type 0 where
    reused : (r : CompiledLibrary) (faults : ℕ) → s.faults ≤ faults → stored s f ≡ Some r → ReuseTurn s f (state (with_record s.progress r true) s.store faults)
    -- the get is one call and the put another: what the first costs is no excuse for the second
    expanded : (r : CompiledLibrary) (asked faults : ℕ) (left : Paths) → s.faults ≤ asked → asked ≤ faults → Misses s f asked → expanded_record s f ≡ Ok r
        → IsPut (place_of k f) (changed s.store asked left faults) (spelled (made k f r)) → ReuseTurn s f (state (with_record s.progress r false) left faults)

  -- it is at fault: nothing is put
  pub record IsAtFault (s : TurnState) (f : Found) (fault : Fault) (store : Paths) (faults : ℕ) : Type 0 where
    pub later : s.faults ≤ faults
    pub misses : Misses s f faults
    pub expands : expanded_record s f ≡ Err fault
    pub same : store ≡ s.store

  -- where memory ran out in the turn of a library, nothing was put, or its entry was
  pub data Breaks (s : TurnState) (f : Found) (store : Paths) (faults : ℕ) : Type 0 where
    nothing_put : store ≡ s.store → s.faults ≤ faults → Breaks s f store faults
    entry_put : (r : CompiledLibrary) (asked : ℕ) → s.faults ≤ asked → asked ≤ faults → expanded_record s f ≡ Ok r
        → IsPut (place_of k f) (changed s.store asked store faults) (spelled (made k f r)) → Breaks s f store faults

  -- ---- all libraries

  -- the turns of libraries from a state on, to the last state, or to the first fault with what it leaves of the store
  pub data ReuseTurns : TurnState → List Found → TurnState → Type 0 where
    done : {s : TurnState} → ReuseTurns s [] s
    next : {s t last : TurnState} {f : Found} {fs : List Found} → ReuseTurn s f t → ReuseTurns t fs last → ReuseTurns s (f ∷ fs) last

  pub data TurnsStop (fault : Fault) (store : Paths) (faults : ℕ) : TurnState → List Found → Type 0 where
    here : {s : TurnState} {f : Found} {fs : List Found} → IsAtFault s f fault store faults → TurnsStop fault store faults s (f ∷ fs)
    later : {s t : TurnState} {f : Found} {fs : List Found} → ReuseTurn s f t → TurnsStop fault store faults t fs → TurnsStop fault store faults s (f ∷ fs)

  -- the turns of some of the libraries, and what is left where they end
  pub data BreaksOff (store : Paths) (faults : ℕ) : TurnState → List Found → Type 0 where
    between : {s : TurnState} {fs : List Found} → store ≡ s.store → s.faults ≤ faults → BreaksOff store faults s fs
    within : {s : TurnState} {f : Found} {fs : List Found} → Breaks s f store faults → BreaksOff store faults s (f ∷ fs)
    behind : {s t : TurnState} {f : Found} {fs : List Found} → ReuseTurn s f t → BreaksOff store faults t fs → BreaksOff store faults s (f ∷ fs)

  -- ---- what calls answer

  -- of the record that a turn gives
  abbrev pub Records : Result Recorded Stop → TurnState → Found → Paths → ℕ → Type 0
  Records (Ok r) s f store faults = ReuseTurn s f (state (with_record s.progress r.library r.reused) store faults)
  Records (Err (stop.Fault fault)) s f store faults = IsAtFault s f fault store faults
  Records (Err stop.Memory) s f store faults = Breaks s f store faults

  -- of the progress behind it
  abbrev pub TakesTurn : Result ReuseProgress Stop → TurnState → Found → Paths → ℕ → Type 0
  TakesTurn (Ok p) s f store faults = ReuseTurn s f (state p store faults)
  TakesTurn (Err (stop.Fault fault)) s f store faults = IsAtFault s f fault store faults
  TakesTurn (Err stop.Memory) s f store faults = Breaks s f store faults

  abbrev pub TakeTurns : Result ReuseProgress Stop → TurnState → List Found → Paths → ℕ → Type 0
  TakeTurns (Ok p) s fs store faults = ReuseTurns s fs (state p store faults)
  TakeTurns (Err (stop.Fault fault)) s fs store faults = TurnsStop fault store faults s fs
  TakeTurns (Err stop.Memory) s fs store faults = BreaksOff store faults s fs

  -- behind the derived library, or its fault
  abbrev pub TakeFrom : Result CompiledLibrary Fault → Result ReuseProgress Stop → List Found → StoreChange → Type 0
  TakeFrom (Ok derived) result fs change = TakeTurns result (state (begun derived) change.before change.faults_before) fs change.after change.faults_after
  TakeFrom (Err fault) (Ok p) fs change = ⊥
  TakeFrom (Err fault) (Err (stop.Fault f)) fs change = (f ≡ fault) × (change.after ≡ change.before)
  TakeFrom (Err fault) (Err stop.Memory) fs change = change.after ≡ change.before

  -- what comes of an expansion whose entry is put in a place
  abbrev pub Keeps : List CompiledLibrary → Found → List ℕ → Result Recorded Stop → StoreChange → Type 0
  Keeps records f place (Ok r) change =
      (expand_found prelude records f (library_body f.opened.«data») ≡ Ok r.library)
      × (IsPut place change (spelled (made k f r.library))) × (r.reused ≡ false)
  Keeps records f place (Err (stop.Fault fault)) change
      = (expand_found prelude records f (library_body f.opened.«data») ≡ Err fault) × (change.after ≡ change.before)
  Keeps records f place (Err stop.Memory) change = change.after ≡ change.before

-- what was asked for, unless the call failed
abbrev pub Asked : Result (Option CompiledLibrary) Memory → ℕ → ℕ → Option CompiledLibrary → Type 0
Asked (Ok None) before after stored = Quiet before after → stored ≡ None
Asked (Ok (Some r)) before after stored = stored ≡ Some r
Asked (Err memory) before after stored = Unit {0}
