-- A run with a cache, beside one without.
use Rattle.std.proofs.Common.{◌≡◌, ℕ, Bool, List, [], ◌∷◌, length, Some, Result, Ok, Err, refl, sym, ap, subst, ◌∙◌}
use Rattle.std.specs.Prelude.{◌⊎◌, slice_get}
use Rattle.base_data.specs.Gives.{◌>>=◌}
use Rattle.base_data.specs.declared.fault.Fault.{Fault}
use Rattle.core_language.specs.declared.record.CompiledLibrary.{CompiledLibrary}
use Rattle.run_derived.specs.Derived.{derived_record}
use Rattle.eval_code.specs.Codes.{Codes}
use Rattle.run_library.specs.Loaded.{all_records, expand_next, text_behind as text_of_run, fault_behind}
use Rattle.load_import.specs.Turns.{turns}
use Rattle.load_files.specs.Load.{load}
use Rattle.load_files.specs.declared.found.Found.{Found}
use Rattle.load_files.specs.declared.found.Loading.{Loading}
use Rattle.law_load.specs.Laws.{Libraries, AreLoadedOnce}
use Rattle.law_load.proofs.LoadLemmas.{loads_all, loads_until}
use Rattle.law_local.specs.Behind.{RunBase}
use Rattle.law_local.specs.Local.{ReuseIsRight, group_of}
use Rattle.law_local.proofs.Local.{reuse_right, are_loaded}
use Rattle.law_local.proofs.Groups.{groups_all, groups_until, all_as_held}
use Rattle.base_outside.specs.Contents.{Paths}
use Rattle.run_reuse.specs.Expansion.{text_after}
use Rattle.run_reuse.specs.Groups.{AreGroups, groups_from}
use Rattle.run_reuse.specs.Progress.{ReuseProgress, begun}
use Rattle.run_reuse.specs.Texts.{Text, with_flags, text_behind, Writes, took, stopped, unready, Leaves, untouched, turned, found_in}
use Rattle.run_reuse.specs.Turns.{StoreChange, state}
use Rattle.run_reuse.specs.declared.groups.Group.{Group}
use Rattle.run_reuse.specs.declared.texts.Came.{Came}
use Rattle.run_reuse.specs.declared.texts.Came.TheVariants as came
use Rattle.law_reuse.specs.Failing.{FailedAt}
use Rattle.law_reuse.specs.Kept.{HoldsShortEntry, EntriesAreKept, AllButFailedAreKept}
use Rattle.law_reuse.specs.Runs.{SourcesAreThoseOfFiles, kept, without_cache, text_alone, CacheChangesNothing}
use Rattle.law_reuse.specs.Seals.{WritesHonestly, LeavesHonestly}
use Rattle.law_reuse.specs.Sound.{IsHonest}
use Rattle.law_reuse.proofs.Sources.{of_loaded, of_stopped}
use Rattle.law_reuse.proofs.KeptLemmas.{holds_turns, holds_stops, holds_or}
use Rattle.law_reuse.proofs.Turned.{at_length, turns_right, stops_right, stops_left, breaks_right}

alone : (flags : List Bool) (r : Result (List ℕ) Fault) → text_alone (with_flags flags r) ≡ r
alone flags (Ok text) = refl
alone flags (Err fault) = refl

module _ (prelude : Result Codes Fault) (rows : Libraries) where
  behind_records : (c : Came) (p : ReuseProgress) → all_records prelude rows ≡ Ok p.records → text_behind prelude c p ≡ without_cache prelude rows c
  unfolding text_of_run fault_behind
  behind_records (came.Program f) p h = sym (ap (λ x. x >>= (λ (records : List CompiledLibrary). text_after prelude records f)) h)
  behind_records (came.Fault fault) p h = sym (ap (λ x. x >>= (λ (records : List CompiledLibrary). Err fault)) h)

  behind_fault : (c : Came) (fault : Fault) → all_records prelude rows ≡ Err fault → Err fault ≡ without_cache prelude rows c
  unfolding text_of_run fault_behind
  behind_fault (came.Program f) fault h = sym (ap (λ x. x >>= (λ (records : List CompiledLibrary). text_after prelude records f)) h)
  behind_fault (came.Fault first) fault h = sym (ap (λ x. x >>= (λ (records : List CompiledLibrary). Err first)) h)

  no_derived : (fault : Fault) → derived_record prelude ≡ Err fault → all_records prelude rows ≡ Err fault
  no_derived fault h = ap (λ x. x >>= (λ d. turns (expand_next prelude) (d ∷ []) rows)) h

module _ (prelude : Result Codes Fault) (files : Paths) (roots : List (List ℕ)) (s : Loading) (sources : SourcesAreThoseOfFiles files roots s)
    (right : (base : RunBase) → ReuseIsRight base (group_of files roots) roots s.done) where
  module _ (dir : List ℕ) (groups : List Group) (are : AreGroups (groups_from 0 0 s.sources) s.begun s.done groups) where
    abbrev base_of : (d : CompiledLibrary) → derived_record prelude ≡ Ok d → RunBase
    base_of d is = record { prelude = prelude; derived = d; is_derived = is }

    same : (c : Came) (change : StoreChange) (made : Result Text Fault) (writes : Writes (kept dir roots s groups) prelude c (found_in s.done) change made)
        → IsHonest prelude change.before → WritesHonestly (kept dir roots s groups) prelude writes → text_alone made ≡ without_cache prelude s.done c
    same c change made (took derived p is turns) honest h =
        let base = base_of derived is in
        let x = turns_right base (kept dir roots s groups) (group_of files roots) s.done (right base) (sources groups are) [] s.done [] (state (begun derived) change.before change.faults_before) (state p change.after change.faults_after) (found_in s.done) refl refl refl refl honest turns h in
        alone p.reused (text_behind prelude c p) ∙ behind_records prelude s.done c p x.made
    same c change made (stopped derived fault is stops) honest h =
        let base = base_of derived is in
        behind_fault prelude s.done c fault
        (stops_right base (kept dir roots s groups) (group_of files roots) s.done (right base) (sources groups are) fault change.after change.faults_after [] s.done [] (state (begun derived) change.before change.faults_before) (found_in s.done) refl refl refl refl honest stops h)
    same c change made (unready fault is still) honest h = behind_fault prelude s.done c fault (no_derived prelude s.done fault is)

    keeps : (c : Came) (change : StoreChange) (made : Result Text Fault) (writes : Writes (kept dir roots s groups) prelude c (found_in s.done) change made)
        → IsHonest prelude change.before → WritesHonestly (kept dir roots s groups) prelude writes → IsHonest prelude change.after
    keeps c change made (took derived p is turns) honest h =
        let base = base_of derived is in
        let x = turns_right base (kept dir roots s groups) (group_of files roots) s.done (right base) (sources groups are) [] s.done [] (state (begun derived) change.before change.faults_before) (state p change.after change.faults_after) (found_in s.done) refl refl refl refl honest turns h in
        x.honest
    keeps c change made (stopped derived fault is stops) honest h =
        let base = base_of derived is in
        stops_left base (kept dir roots s groups) (group_of files roots) s.done (right base) (sources groups are) fault change.after change.faults_after [] s.done [] (state (begun derived) change.before change.faults_before) (found_in s.done) refl refl refl refl honest stops h
    keeps c change made (unready fault is still) honest h = subst (IsHonest prelude) (sym still) honest

    left : (change : StoreChange) (leaves : Leaves (kept dir roots s groups) prelude (found_in s.done) change)
        → IsHonest prelude change.before → LeavesHonestly (kept dir roots s groups) prelude leaves → IsHonest prelude change.after
    left change (untouched still) honest h = subst (IsHonest prelude) (sym still) honest
    left change (turned derived is breaks) honest h =
        let base = base_of derived is in
        breaks_right base (kept dir roots s groups) (group_of files roots) s.done (right base) (sources groups are) change.after change.faults_after [] s.done [] (state (begun derived) change.before change.faults_before) (found_in s.done) refl refl refl refl honest breaks h

  changes_nothing : CacheChangesNothing prelude roots s
  changes_nothing = record { same = same; keeps = keeps; honest = left }

module _ (base : RunBase) (files : Paths) (roots : List (List ℕ)) (s : Loading) (sources : SourcesAreThoseOfFiles files roots s) (right : ReuseIsRight base (group_of files roots) roots s.done) (once : AreLoadedOnce s.done) where
  entries : EntriesAreKept base files roots s
  entries = record {
    taken = λ dir groups are before faults last turns honest quiet others f r n gives alone can.
        holds_turns base (kept dir roots s groups) (group_of files roots) s.done right (sources groups are) once n.file f n.after r alone can
        n.before s.done [] [] others (state (begun base.derived) before faults) last (found_in s.done) refl n.parts refl refl refl honest turns quiet n.recorded gives;
    stopped = λ dir groups are before after faults_before faults fault stops honest quiet others f r n gives alone can.
        holds_stops base (kept dir roots s groups) (group_of files roots) s.done right (sources groups are) once n.file f n.after r alone can fault after faults
        n.before s.done [] [] others (state (begun base.derived) before faults_before) (found_in s.done) refl n.parts refl refl refl honest stops quiet n.recorded gives;
  }

  all_but_failed : AllButFailedAreKept base files roots s
  all_but_failed dir groups are before faults last turns honest seals others f r n gives alone can =
      let at = subst (λ (ls : Libraries). slice_get ls (length n.before) ≡ Some (n.file, f)) (sym n.parts) (at_length n.before (n.file, f) n.after) in
      let place = sym (once.in_order (length n.before) n.file f at) in
      subst (λ p. HoldsShortEntry (kept dir roots s groups) last.store f r ⊎ FailedAt (kept dir roots s groups) base.prelude turns p) place
      (holds_or base (kept dir roots s groups) (group_of files roots) s.done right (sources groups are) once n.file f n.after r alone can
      n.before s.done [] [] others (state (begun base.derived) before faults) last (found_in s.done) refl n.parts refl refl refl honest turns seals n.recorded gives)

module _ (files : Paths) (roots : List (List ℕ)) (path : List ℕ) (base : RunBase) where
  pub failed_loaded : (program : Found) (s : Loading) → load files roots path ≡ Ok (program, s) → AllButFailedAreKept base files roots s
  failed_loaded program s h =
      let are = are_loaded s (loads_all files roots path program s h).sound in
      all_but_failed base files roots s (of_loaded files roots path program s h) (reuse_right base files roots (group_of files roots) s.done are (groups_all files roots path program s h) (all_as_held files roots s.done)) are.once

  pub entries_loaded : (program : Found) (s : Loading) → load files roots path ≡ Ok (program, s) → EntriesAreKept base files roots s
  entries_loaded program s h =
      let are = are_loaded s (loads_all files roots path program s h).sound in
      entries base files roots s (of_loaded files roots path program s h) (reuse_right base files roots (group_of files roots) s.done are (groups_all files roots path program s h) (all_as_held files roots s.done)) are.once

  pub entries_stopped : (s : Loading) (fault : Fault) → load files roots path ≡ Err (s, fault) → EntriesAreKept base files roots s
  entries_stopped s fault h =
      let are = are_loaded s (loads_until files roots path s fault h) in
      entries base files roots s (of_stopped files roots path s fault h) (reuse_right base files roots (group_of files roots) s.done are (groups_until files roots path s fault h) (all_as_held files roots s.done)) are.once

module _ (prelude : Result Codes Fault) (files : Paths) (roots : List (List ℕ)) (path : List ℕ) where
  pub whole_loaded : (program : Found) (s : Loading) → load files roots path ≡ Ok (program, s) → CacheChangesNothing prelude roots s
  whole_loaded program s h = changes_nothing prelude files roots s (of_loaded files roots path program s h)
      (λ base. reuse_right base files roots (group_of files roots) s.done (are_loaded s (loads_all files roots path program s h).sound) (groups_all files roots path program s h) (all_as_held files roots s.done))

  pub whole_stopped : (s : Loading) (fault : Fault) → load files roots path ≡ Err (s, fault) → CacheChangesNothing prelude roots s
  whole_stopped s fault h = changes_nothing prelude files roots s (of_stopped files roots path s fault h)
      (λ base. reuse_right base files roots (group_of files roots) s.done (are_loaded s (loads_until files roots path s fault h)) (groups_until files roots path s fault h) (all_as_held files roots s.done))
