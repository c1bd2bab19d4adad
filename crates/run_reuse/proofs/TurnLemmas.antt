-- From the calls in the turn of a library to its turn.
use Rattle.std.proofs.Common.{◌≡◌, ℕ, ◌≤◌, Bool, true, false, List, Result, Ok, Err, Option, Some, None, refl, sym, subst, ap, ◌∙◌, arith}
use Rattle.std.specs.Prelude.{◌<◌, IfSome, length}
use Rattle.base_data.specs.declared.fault.Fault.{Fault}
use Rattle.base_data.specs.declared.fault.Stop.{Stop}
use Rattle.base_data.specs.declared.fault.Stop.TheVariants as stop
use Rattle.base_data.specs.declared.memory.Memory.{Memory}
use Rattle.base_data.specs.Gives.{Stops}
use Rattle.core_cache.specs.declared.entry.Entry.{Entry}
use Rattle.core_language.specs.declared.record.CompiledLibrary.{CompiledLibrary}
use Rattle.eval_code.specs.Codes.{Codes}
use Rattle.load_forms.specs.Form.{library_body}
use Rattle.run_library.specs.Loaded.{expand_found}
use Rattle.load_files.specs.declared.found.Found.{Found}
use Rattle.base_outside.specs.Causes.{Rose}
use Rattle.base_outside.specs.Contents.{Paths, at_path}
use Rattle.base_outside.specs.Store.{KeepsOthers, Sets, WhereTold}
use Rattle.run_reuse.specs.Entries.{CacheInputs, entry_limit, if_short, made, place_of, spelled}
use Rattle.run_reuse.specs.Progress.{ReuseProgress, begun, with_record}
use Rattle.run_reuse.specs.declared.turns.Recorded.{Recorded}
use Rattle.run_reuse.specs.Turns as turns
use Rattle.run_reuse.specs.Turns.{IsPut, put, too_long, unspelled, failed, PutsEntry, Quiet, changed, TurnState, state, ReuseTurn, reused, expanded, Breaks, nothing_put, entry_put, BreaksOff, between, Keeps, Records, TakesTurn, TakeTurns, TakeFrom}
use Rattle.run_reuse.proofs.Told.{told_same, told_by, told_here, told_where, rose_later}

up_to : (a b c : ℕ) → a ≤ b → b ≤ c → a ≤ c
up_to a b c h k = omega (arith, h, k)

pub same_count : (a : ℕ) → a ≤ a
same_count a = omega arith

abbrev pub anew : CompiledLibrary → Recorded
anew r = record { library = r; reused = false }

abbrev pub again : CompiledLibrary → Recorded
again r = record { library = r; reused = true }

-- what was called left all as it was
still : (told after : Option Paths) (R : Paths → Paths → Type 0) → after ≡ told → ((before : Paths) → R before before) → WhereTold told after R
still told after R same all = subst (λ (t : Option Paths). WhereTold told t R) (sym same) (told_same told R all)

-- ---- what a put answers

module _ (fa fb : ℕ) (place piece : List ℕ) (told after : Option Paths) where
  pub put_done : (u : Unit) → length piece ≤ entry_limit → WhereTold told after (Sets place piece) → WhereTold told after (λ a c. PutsEntry (Ok u) place (Some piece) (changed a fa c fb))
  put_done u short h = told_by told after (Sets place piece) (λ a c. PutsEntry (Ok u) place (Some piece) (changed a fa c fb)) (λ a c sets. put short sets) h

  pub put_failed : (u : Unit) → Rose fa fb → WhereTold told after (KeepsOthers place) → WhereTold told after (λ a c. PutsEntry (Ok u) place (Some piece) (changed a fa c fb))
  put_failed u rose h = told_by told after (KeepsOthers place) (λ a c. PutsEntry (Ok u) place (Some piece) (changed a fa c fb)) (λ a c others. failed rose others) h

pub put_long : (fa : ℕ) (place piece : List ℕ) (told : Option Paths) (u : Unit) → entry_limit < length piece → WhereTold told told (λ a c. PutsEntry (Ok u) place (Some piece) (changed a fa c fa))
put_long fa place piece told u long = told_same told (λ a c. PutsEntry (Ok u) place (Some piece) (changed a fa c fa)) (λ a. too_long long refl)

pub not_spelled : (fa : ℕ) (place : List ℕ) (o : Option (List ℕ)) (told : Option Paths) (u : Unit) → o ≡ None → WhereTold told told (λ a c. PutsEntry (Ok u) place o (changed a fa c fa))
not_spelled fa place o told u is = subst (λ (x : Option (List ℕ)). WhereTold told told (λ a c. PutsEntry (Ok u) place x (changed a fa c fa))) (sym is) (told_same told (λ a c. PutsEntry (Ok u) place None (changed a fa c fa)) (λ a. unspelled refl))

-- memory ran out, and nothing was put
pub put_lost : (fa fb : ℕ) (place : List ℕ) (o : Option (List ℕ)) (told : Option Paths) (memory : Memory) → WhereTold told told (λ a c. PutsEntry (Err memory) place o (changed a fa c fb))
put_lost fa fb place o told memory = told_same told (λ a c. PutsEntry (Err memory) place o (changed a fa c fb)) (λ a. refl)

-- the spelling of an entry was put, whatever the call answered
pub spelling_put : (fa fb : ℕ) (place piece : List ℕ) (o : Option (List ℕ)) (told after : Option Paths) (result : Result Unit Memory) → Some piece ≡ o
    → WhereTold told after (λ a c. PutsEntry result place (Some piece) (changed a fa c fb)) → WhereTold told after (λ a c. PutsEntry result place o (changed a fa c fb))
spelling_put fa fb place piece o told after result is h = subst (λ (x : Option (List ℕ)). WhereTold told after (λ a c. PutsEntry result place x (changed a fa c fb))) is h

module _ (k : CacheInputs) (prelude : Result Codes Fault) where
  -- ---- what was expanded, and its entry

  module _ (records : List CompiledLibrary) (f : Found) (place : List ℕ) (fa : ℕ) where
    -- it stopped before anything was put
    pub keeps_nothing : (told : Option Paths) (fb : ℕ) (x : Stop) → Stops x (expand_found prelude records f (library_body f.opened.«data»))
        → WhereTold told told (λ a c. Keeps k prelude records f place (Err x) (changed a fa c fb))
    keeps_nothing told fb (stop.Fault fault) h = told_same told (λ a c. Keeps k prelude records f place (Err (stop.Fault fault)) (changed a fa c fb)) (λ a. (h, refl))
    keeps_nothing told fb stop.Memory h = told_same told (λ a c. Keeps k prelude records f place (Err stop.Memory) (changed a fa c fb)) (λ a. refl)

    module _ (told after : Option Paths) (fb : ℕ) (e : Entry) where
      pub keep_lost : (memory : Memory) → WhereTold told after (λ a c. PutsEntry (Err memory) place (spelled e) (changed a fa c fb)) → WhereTold told after (λ a c. Keeps k prelude records f place (Err stop.Memory) (changed a fa c fb))
      keep_lost memory h = told_by told after (λ a c. PutsEntry (Err memory) place (spelled e) (changed a fa c fb)) (λ a c. Keeps k prelude records f place (Err stop.Memory) (changed a fa c fb)) (λ a c same. same) h

      pub keep_done : (q : Recorded) (r : CompiledLibrary) (u : Unit) → q ≡ anew e.stored → e ≡ made k f r → expand_found prelude records f (library_body f.opened.«data») ≡ Ok r
          → WhereTold told after (λ a c. PutsEntry (Ok u) place (spelled e) (changed a fa c fb)) → WhereTold told after (λ a c. Keeps k prelude records f place (Ok q) (changed a fa c fb))
      keep_done q r u new is expands h =
          let stored : q.library ≡ r = ap (λ (x : Recorded). x.library) new ∙ ap (λ (x : Entry). x.stored) is in
          let whole : e ≡ made k f q.library = is ∙ ap (made k f) (sym stored) in
          told_by told after (λ a c. PutsEntry (Ok u) place (spelled e) (changed a fa c fb)) (λ a c. Keeps k prelude records f place (Ok q) (changed a fa c fb))
          (λ a c kept. (expands ∙ ap (λ (x : CompiledLibrary). Ok x) (sym stored), subst (λ (x : Entry). IsPut place (changed a fa c fb) (spelled x)) whole kept, ap (λ (x : Recorded). x.reused) new)) h

  -- ---- the turn of one library

  -- what is left where memory runs out behind a turn
  broken_off : (s t : TurnState) (f : Found) → ReuseTurn k prelude s f t → Breaks k prelude s f t.store t.faults
  broken_off s t f (reused r faults more stored) = nothing_put refl more
  broken_off s t f (expanded r asked faults left more further misses expands kept) = entry_put r asked more further expands kept

  module _ (p : ReuseProgress) (f : Found) (fa : ℕ) where
    abbrev Records-as : Result Recorded Stop → Option Paths → Option Paths → ℕ → Type 0
    Records-as result told after fb = WhereTold told after (λ a c. Records k prelude result (state p a fa) f c fb)

    -- nothing was put, and memory ran out
    pub no_turn : (told after : Option Paths) (fb : ℕ) → after ≡ told → fa ≤ fb → Records-as (Err stop.Memory) told after fb
    no_turn told after fb same more = still told after (λ a c. Records k prelude (Err stop.Memory) (state p a fa) f c fb) same (λ a. nothing_put refl more)

    module _ (place : List ℕ) (is : place ≡ place_of k f) (fb : ℕ) (more : fa ≤ fb) where
      abbrev stored_at : Paths → Option CompiledLibrary
      stored_at a = if_short k p.records f (at_path a place)

      stored_is : (a : Paths) → stored_at a ≡ turns.stored k prelude (state p a fa) f
      stored_is a = ap (λ (x : List ℕ). if_short k p.records f (at_path a x)) is

      pub reuse_turn : (told after : Option Paths) (r : CompiledLibrary) → after ≡ told → IfSome told (λ a. stored_at a ≡ Some r) → Records-as (Ok (again r)) told after fb
      reuse_turn told after r same h =
          subst (λ (t : Option Paths). WhereTold told t (λ a c. Records k prelude (Ok (again r)) (state p a fa) f c fb)) (sym same)
          (told_here told (λ a. stored_at a ≡ Some r) (λ a c. Records k prelude (Ok (again r)) (state p a fa) f c fb) (λ a stored. reused r fb more (sym (stored_is a) ∙ stored)) h)

      module _ (fc : ℕ) (further : fb ≤ fc) where
        one : (result : Result Recorded Stop) (a c : Paths) → (Quiet fa fb → stored_at a ≡ None) → Keeps k prelude p.records f place result (changed a fb c fc) → Records k prelude result (state p a fa) f c fc
        one (Ok q) a c misses m =
            let kept : IsPut (place_of k f) (changed a fb c fc) (spelled (made k f q.library)) = subst (λ (x : List ℕ). IsPut x (changed a fb c fc) (spelled (made k f q.library))) is m.1 in
            subst (λ (again : Bool). ReuseTurn k prelude (state p a fa) f (state (with_record p q.library again) c fc)) (sym m.2)
            (expanded q.library fb fc c more further (λ quiet. sym (stored_is a) ∙ misses quiet) m.0 kept)
        one (Err (stop.Fault fault)) a c misses m = record {
          later = up_to fa fb fc more further;
          misses = λ quiet. sym (stored_is a) ∙ misses (λ rose. quiet (rose_later fa fb fc further rose));
          expands = m.0;
          same = m.1;
        }
        one (Err stop.Memory) a c misses m = nothing_put m (up_to fa fb fc more further)

        pub make_turn : (told middle after : Option Paths) (result : Result Recorded Stop) → middle ≡ told → IfSome told (λ a. Quiet fa fb → stored_at a ≡ None)
            → WhereTold middle after (λ b c. Keeps k prelude p.records f place result (changed b fb c fc)) → Records-as result told after fc
        make_turn told middle after result same h m =
            told_where told after (λ a. Quiet fa fb → stored_at a ≡ None) (λ b c. Keeps k prelude p.records f place result (changed b fb c fc)) (λ a c. Records k prelude result (state p a fa) f c fc)
            (one result) h (subst (λ (t : Option Paths). WhereTold t after (λ b c. Keeps k prelude p.records f place result (changed b fb c fc))) same m)

    -- ---- the progress behind the turn

    module _ (told after : Option Paths) (fb : ℕ) where
      abbrev Takes-as : Result ReuseProgress Stop → Type 0
      Takes-as result = WhereTold told after (λ a c. TakesTurn k prelude result (state p a fa) f c fb)

      stops_so : (x : Stop) (a c : Paths) → Records k prelude (Err x) (state p a fa) f c fb → TakesTurn k prelude (Err x) (state p a fa) f c fb
      stops_so (stop.Fault fault) a c h = h
      stops_so stop.Memory a c h = h

      pub turn_stops : (x : Stop) → Records-as (Err x) told after fb → Takes-as (Err x)
      turn_stops x h = told_by told after (λ a c. Records k prelude (Err x) (state p a fa) f c fb) (λ a c. TakesTurn k prelude (Err x) (state p a fa) f c fb) (stops_so x) h

      pub turn_lost : (r : Recorded) → Records-as (Ok r) told after fb → Takes-as (Err stop.Memory)
      turn_lost r h =
          told_by told after (λ a c. Records k prelude (Ok r) (state p a fa) f c fb) (λ a c. TakesTurn k prelude (Err stop.Memory) (state p a fa) f c fb)
          (λ a c turn. broken_off (state p a fa) (state (with_record p r.library r.reused) c fb) f turn) h

      pub turn_taken : (r : Recorded) (q : ReuseProgress) → q ≡ with_record p r.library r.reused → Records-as (Ok r) told after fb → Takes-as (Ok q)
      turn_taken r q is h =
          told_by told after (λ a c. Records k prelude (Ok r) (state p a fa) f c fb) (λ a c. TakesTurn k prelude (Ok q) (state p a fa) f c fb)
          (λ a c turn. subst (λ (x : ReuseProgress). ReuseTurn k prelude (state p a fa) f (state x c fb)) (sym is) turn) h

  -- ---- behind the derived library

  module _ (told : Option Paths) (fa : ℕ) (fs : List Found) where
    pub without_derived : (derived : Result CompiledLibrary Fault) (x : Stop) → Stops x derived → WhereTold told told (λ a c. TakeFrom k prelude derived (Err x) fs (changed a fa c fa))
    without_derived derived (stop.Fault fault) h =
        subst (λ (d : Result CompiledLibrary Fault). WhereTold told told (λ a c. TakeFrom k prelude d (Err (stop.Fault fault)) fs (changed a fa c fa))) (sym h)
        (told_same told (λ a c. (fault ≡ fault) × (c ≡ a)) (λ a. (refl, refl)))
    without_derived (Ok d) stop.Memory h = told_same told (λ a c. BreaksOff k prelude c fa (state (begun d) a fa) fs) (λ a. between refl (same_count fa))
    without_derived (Err fault) stop.Memory h = told_same told (λ a c. c ≡ a) (λ a. refl)

    pub behind_derived : (after : Option Paths) (fb : ℕ) (derived : Result CompiledLibrary Fault) (d : CompiledLibrary) (p : ReuseProgress) (result : Result ReuseProgress Stop) → derived ≡ Ok d → p ≡ begun d
        → WhereTold told after (λ a c. TakeTurns k prelude result (state p a fa) fs c fb) → WhereTold told after (λ a c. TakeFrom k prelude derived result fs (changed a fa c fb))
    behind_derived after fb derived d p result is begin h =
        subst (λ (x : Result CompiledLibrary Fault). WhereTold told after (λ a c. TakeFrom k prelude x result fs (changed a fa c fb))) (sym is)
        (subst (λ (x : ReuseProgress). WhereTold told after (λ a c. TakeTurns k prelude result (state x a fa) fs c fb)) begin h)
