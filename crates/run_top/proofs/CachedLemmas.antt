-- What a job with a cache comes to, from the turns of its libraries.
use Rattle.std.proofs.Common.{◌≡◌, ℕ, Bool, List, Result, Ok, Err, Option, Some, None, refl, sym, ap, subst, ◌∙◌}
use Rattle.std.specs.Prelude.{◌≢◌, IfSome, string_bytes}
use Rattle.base_data.specs.declared.fault.Fault.{Fault}
use Rattle.base_data.specs.declared.fault.Stop.{Stop}
use Rattle.base_data.specs.declared.fault.Stop.TheVariants as stop
use Rattle.eval_code.specs.Codes.{Codes}
use Rattle.load_files.specs.Load.{Loads, load}
use Rattle.load_files.specs.declared.found.Found.{Found}
use Rattle.load_files.specs.declared.found.Loading.{Loading}
use Rattle.load_files.specs.declared.found.Source.{Source}
use Rattle.base_outside.specs.Contents.{Paths}
use Rattle.base_outside.specs.Store.{WhereTold}
use Rattle.run_prelude.specs.Prelude.{prelude_table}
use Rattle.load_report.specs.declared.report.Told.{Told}
use Rattle.run_reuse.specs.Entries.{CacheInputs}
use Rattle.run_reuse.specs.Groups.{AreGroups, groups_from}
use Rattle.run_reuse.specs.Texts.{Text, Writes, Answers, found_in}
use Rattle.run_reuse.specs.Turns.{StoreChange, changed}
use Rattle.run_reuse.proofs.TextLemmas.{writes_leave}
use Rattle.run_reuse.proofs.Told.{told_by, told_same}
use Rattle.run_reuse.specs.declared.groups.Group.{Group}
use Rattle.run_reuse.specs.declared.texts.WrittenProgram.{WrittenProgram}
use Rattle.law_reuse.specs.Runs.{without_cache, text_alone, CacheChangesNothing}
use Rattle.law_reuse.specs.Sound.{IsHonest}
use Rattle.law_reuse.proofs.Whole.{whole_loaded, whole_stopped}
use Rattle.run_command.specs.declared.job.Job.{Job}
use Rattle.run_command.specs.declared.job.Kind.{Kind}
use Rattle.run_command.specs.declared.job.Kind.TheVariants.{Core}
use Rattle.run_top.specs.declared.cached.LoadedJob.{LoadedJob}
use Rattle.run_top.specs.declared.prepare.Prepared.{Prepared}
use Rattle.run_top.specs.declared.prepare.Unfinished.{Unfinished}
use Rattle.run_top.specs.declared.prepare.Unfinished.TheVariants as unfinished
use Rattle.run_top.specs.Whole.{RunOutcome, done, fault, libraries, loading_of, outcome_of, text_by, of_loaded, of_job}
use Rattle.run_top.specs.Cached.{report_by, outcome_by, came_of, kept_of, loaded_of, Comes, LeavesOf, as_it_was, by_turns, LeavesStore, LeavesOfHonestly, PreparesText, PreparesFrom, PreparesCached, SameText}
use Rattle.run_top.proofs.Sinks.{by_files}
use Rattle.run_top.specs.Headline.{Storage, SaysCached, SaysJob, LeavesHonest, KeepsJob, KeepsAsked, KeepsStore, IsCoreIfCached}
use Rattle.run_top.specs.Prepared.{Prepares, PreparesBy}
use Rattle.run_top.specs.Words.{words_asked}
use Rattle.run_command.specs.declared.words.Words.{Words}
use Rattle.run_command.specs.declared.words.Words.TheVariants.{Expand, Make, Usage}

-- what the entries of a job are made of, by its parts
module _ (job : Job) (dir : List ℕ) (s : Loading) (groups : List Group) where
  abbrev of_parts : List (List ℕ) → List Source → List Group → CacheInputs
  of_parts roots sources chosen = record { dir = dir; roots = roots; sources = sources; groups = chosen }

  pub kept_is : (roots : List (List ℕ)) (sources : List Source) (chosen : List Group) → roots ≡ job.roots → sources ≡ s.sources → chosen ≡ groups → of_parts roots sources chosen ≡ kept_of job dir s groups
  kept_is roots sources chosen by_roots by_sources by_groups =
      ap (λ (rs : List (List ℕ)). of_parts rs sources chosen) by_roots ∙ ap (λ (ss : List Source). of_parts job.roots ss chosen) by_sources ∙ ap (λ (gs : List Group). of_parts job.roots s.sources gs) by_groups

-- ---- from the text to what is prepared

module _ (job : Job) (dir : List ℕ) (loaded : LoadedJob) (groups : List Group) (are : AreGroups (groups_from 0 0 loaded.loading.sources) loaded.loading.begun loaded.loading.done groups) (change : StoreChange) where
  abbrev Answered : Result WrittenProgram Stop → Type 0
  Answered w = Answers (kept_of job dir loaded.loading groups) prelude_table w loaded.came (found_in loaded.loading.done) change

  leaves : (made : Result Text Fault) → Writes (kept_of job dir loaded.loading groups) prelude_table loaded.came (found_in loaded.loading.done) change made → LeavesOf job dir loaded.loading change
  leaves made writes = by_turns groups are (writes_leave (kept_of job dir loaded.loading groups) prelude_table loaded.came (found_in loaded.loading.done) change made writes)

  leaves_any : (w : Result WrittenProgram Stop) → Answered w → LeavesOf job dir loaded.loading change
  leaves_any (Ok w) h = leaves (Ok (string_bytes w.text, w.reused)) h
  leaves_any (Err (stop.Fault f)) h = leaves (Err f) h
  leaves_any (Err stop.Memory) h = by_turns groups are h

  pub prepares : (result : Result Prepared Unfinished) (w : Result WrittenProgram Stop) → result ≢ Err unfinished.Read → PreparesText result job.report (libraries loaded.loading) loaded.loading.sources w → Answered w
      → PreparesFrom result job dir loaded change
  prepares (Ok made) (Ok w) unread h k = record { groups = groups; are = are; made = Ok (string_bytes w.text, w.reused); writes = k; is = λ i. done (h.0 i) (h.1 i) }
  prepares (Ok made) (Err x) unread h k = absurd h
  prepares (Err (unfinished.Line line)) (Ok w) unread h k = absurd h
  prepares (Err (unfinished.Line line)) (Err (stop.Fault f)) unread h k = record { groups = groups; are = are; made = Err f; writes = k; is = ap fault h }
  prepares (Err (unfinished.Line line)) (Err stop.Memory) unread h k = absurd h
  prepares (Err unfinished.Read) w unread h k = absurd (unread refl)
  prepares (Err unfinished.Memory) w unread h k = leaves_any w k

-- ---- over a store whose contents may be told

module _ (held left : Option Paths) (job : Job) (dir : List ℕ) (fa fb : ℕ) where
  abbrev PreparesWhere : Result Prepared Unfinished → LoadedJob → Type 0
  PreparesWhere result loaded = WhereTold held left (λ before after. PreparesFrom result job dir loaded (changed before fa after fb))

  -- from the text behind the turns of the libraries
  pub where_prepared : (loaded : LoadedJob) (k : CacheInputs) (prelude : Result Codes Fault) (fs : List Found) (groups : List Group) (libs : List Told) (sources : List Source)
      → prelude ≡ prelude_table → AreGroups (groups_from 0 0 loaded.loading.sources) loaded.loading.begun loaded.loading.done groups → k ≡ kept_of job dir loaded.loading groups → fs ≡ found_in loaded.loading.done → libs ≡ libraries loaded.loading → sources ≡ loaded.loading.sources
      → (result : Result Prepared Unfinished) (w : Result WrittenProgram Stop) → result ≢ Err unfinished.Read → PreparesText result job.report libs sources w
      → WhereTold held left (λ before after. Answers k prelude w loaded.came fs (changed before fa after fb)) → PreparesWhere result loaded
  where_prepared loaded k prelude fs groups libs sources is are k_is fs_is libs_is sources_is result w unread text h =
      told_by held left (λ before after. Answers (kept_of job dir loaded.loading groups) prelude_table w loaded.came (found_in loaded.loading.done) (changed before fa after fb)) _
      (λ before after answers. prepares job dir loaded groups are (changed before fa after fb) result w unread own answers) all
    where
      own : PreparesText result job.report (libraries loaded.loading) loaded.loading.sources w
      own = subst (λ (ss : List Source). PreparesText result job.report (libraries loaded.loading) ss w) sources_is (subst (λ (ts : List Told). PreparesText result job.report ts sources w) libs_is text)

      over : WhereTold held left (λ before after. Answers k prelude_table w loaded.came fs (changed before fa after fb))
      over = subst (λ (p : Result Codes Fault). WhereTold held left (λ before after. Answers k p w loaded.came fs (changed before fa after fb))) is h

      all : WhereTold held left (λ before after. Answers (kept_of job dir loaded.loading groups) prelude_table w loaded.came (found_in loaded.loading.done) (changed before fa after fb))
      all = subst (λ (gs : List Found). WhereTold held left (λ before after. Answers (kept_of job dir loaded.loading groups) prelude_table w loaded.came gs (changed before fa after fb))) fs_is
          (subst (λ (x : CacheInputs). WhereTold held left (λ before after. Answers x prelude_table w loaded.came fs (changed before fa after fb))) k_is over)

  -- from what was loaded of the files
  pub where_loaded : (files_told : Option Paths) (result : Result Prepared Unfinished) (l : Loads (Found × Loading)) → ((files : Paths) → files_told ≡ Some files → load files job.roots job.program ≡ l)
      → PreparesWhere result (loaded_of l) → IfSome files_told (λ files. WhereTold held left (λ before after. PreparesCached result files job dir (changed before fa after fb)))
  where_loaded None result l loads h = tt
  where_loaded (Some files) result l loads h = subst (λ (r : Loads (Found × Loading)). PreparesWhere result (loaded_of r)) (sym (loads files refl)) h

-- nothing was done to the store
module _ (held : Option Paths) (job : Job) (dir : List ℕ) (faults : ℕ) where
  pub untouched_from : (loaded : LoadedJob) → WhereTold held held (λ before after. PreparesFrom (Err unfinished.Memory) job dir loaded (changed before faults after faults))
  untouched_from loaded = told_same held (λ before after. PreparesFrom (Err unfinished.Memory) job dir loaded (changed before faults after faults)) (λ store. as_it_was refl)

  pub unprepared : (files_told : Option Paths) → IfSome files_told (λ files. WhereTold held held (λ before after. PreparesCached (Err unfinished.Memory) files job dir (changed before faults after faults)))
  unprepared None = tt
  unprepared (Some files) = untouched_from (loaded_of (load files job.roots job.program))

  pub unread_job : (files_told : Option Paths) → IfSome files_told (λ files. WhereTold held held (λ before after. PreparesCached (Err unfinished.Read) files job dir (changed before faults after faults)))
  unread_job None = tt
  unread_job (Some files) = told_same held (λ before after. PreparesCached (Err unfinished.Read) files job dir (changed before faults after faults)) (λ store. refl)

-- ---- beside a run without a cache

module _ (files : Paths) (job : Job) (dir : List ℕ) where
  abbrev loads : Loads (Found × Loading)
  loads = load files job.roots job.program

  nothing : (l : Loads (Found × Loading)) → loads ≡ l → CacheChangesNothing prelude_table job.roots (loading_of l)
  nothing (Ok x) h = whole_loaded prelude_table files job.roots job.program x.0 x.1 h
  nothing (Err e) h = whole_stopped prelude_table files job.roots job.program e.0 e.1 h

  without_is : (l : Loads (Found × Loading)) → without_cache prelude_table (loading_of l).done (came_of l) ≡ text_by Core prelude_table l
  without_is (Ok x) = refl
  without_is (Err e) = refl

  same_text : (report : Bool) (s : Loading) (made : Result Text Fault) (r : Result (List ℕ) Fault) → text_alone made ≡ r → SameText (outcome_by report (libraries s) s.sources made) (outcome_of report s r)
  same_text report s (Ok made) r h = subst (λ (x : Result (List ℕ) Fault). SameText (done made.0 (report_by report (libraries s) made.1)) (outcome_of report s x)) h (_, refl)
  same_text report s (Err f) r h = ap (outcome_of report s) (sym h)

  of_core : job.kind ≡ Core → of_loaded Core job.report loads ≡ of_job files job
  unfolding of_job
  of_core core = ap (λ (kind : Kind). of_loaded kind job.report loads) (sym core)

  module _ (change : StoreChange) where
    pub says : job.kind ≡ Core → (outcome : RunOutcome) → Comes files job dir change outcome → SaysCached files job dir change outcome
    says core outcome comes = record {
      comes = comes;
      same = λ honest seals. subst (λ (o : RunOutcome). SameText outcome o) (of_core core) (subst (λ (o : RunOutcome). SameText o (of_loaded Core job.report loads)) (sym comes.is)
          (same_text job.report (loading_of loads) comes.made (text_by Core prelude_table loads)
          ((nothing loads refl).same dir comes.groups comes.are (came_of loads) change comes.made comes.writes honest seals ∙ without_is loads)));
    }

    keeps_honest : (l : LeavesStore files job dir change) → IsHonest prelude_table change.before → LeavesOfHonestly l → IsHonest prelude_table change.after
    keeps_honest (as_it_was same) honest seals = subst (IsHonest prelude_table) (sym same) honest
    keeps_honest (by_turns groups are leaves) honest seals = (nothing loads refl).honest dir groups are change leaves honest seals

    pub leaves_honest : LeavesStore files job dir change → LeavesHonest files job dir change
    leaves_honest l = record { leaves = l; honest = keeps_honest l }

    comes_leave : (outcome : RunOutcome) → Comes files job dir change outcome → LeavesStore files job dir change
    comes_leave outcome comes =
        by_turns comes.groups comes.are (writes_leave (kept_of job dir (loading_of loads) comes.groups) prelude_table (came_of loads) (found_in (loading_of loads).done) change comes.made comes.writes)

    pub prepared_leaves : (result : Result Prepared Unfinished) → PreparesCached result files job dir change → LeavesStore files job dir change
    prepared_leaves (Ok made) h = comes_leave (done (string_bytes made.text) (string_bytes made.report)) h
    prepared_leaves (Err (unfinished.Line line)) h = comes_leave (fault (string_bytes line)) h
    prepared_leaves (Err unfinished.Read) h = as_it_was h
    prepared_leaves (Err unfinished.Memory) h = h

-- ---- what is prepared of a job

module _ (files_told : Option Paths) (store : Storage) (job : Job) (dir : List ℕ) (core : job.kind ≡ Core) where
  abbrev Gives : Result Prepared Unfinished → Type 0
  Gives result = IfSome files_told (λ files. WhereTold store.before store.after (λ before after. PreparesCached result files job dir (changed before store.faults_before after store.faults_after)))

  on_files : (t : Option Paths) (P Q : Paths → Type 0) → ((files : Paths) → P files → Q files) → IfSome t P → IfSome t Q
  on_files None P Q next h = tt
  on_files (Some files) P Q next h = next files h

  pub cached_says : (result : Result Prepared Unfinished) → Gives result → PreparesBy (SaysJob files_told store job (Some dir)) result
  cached_says (Ok made) h = on_files files_told _ _ (λ files k. told_by store.before store.after _ _ (λ before after x. says files job dir (changed before store.faults_before after store.faults_after) core (done (string_bytes made.text) (string_bytes made.report)) x) k) h
  cached_says (Err (unfinished.Line line)) h = on_files files_told _ _ (λ files k. told_by store.before store.after _ _ (λ before after x. says files job dir (changed before store.faults_before after store.faults_after) core (fault (string_bytes line)) x) k) h
  cached_says (Err unfinished.Read) h = tt
  cached_says (Err unfinished.Memory) h = tt

  pub cached_keeps : (same : Type 0) (result : Result Prepared Unfinished) → Gives result → KeepsJob files_told store job (Some dir) same
  cached_keeps same result h = on_files files_told _ _ (λ files k. told_by store.before store.after _ _
      (λ before after x. leaves_honest files job dir (changed before store.faults_before after store.faults_after) (prepared_leaves files job dir (changed before store.faults_before after store.faults_after) result x)) k) h

-- with its cache
module _ (files_told : Option Paths) (store : Storage) (job : Job) (dir : List ℕ) (cached : job.cache ≡ Some dir) (core : IsCoreIfCached job) where
  pub prepared_says : (result : Result Prepared Unfinished) → Gives files_told store job dir (core dir cached) result → PreparesBy (SaysJob files_told store job job.cache) result
  prepared_says result h = subst (λ (o : Option (List ℕ)). PreparesBy (SaysJob files_told store job o) result) (sym cached) (cached_says files_told store job dir (core dir cached) result h)

  pub prepared_keeps : (same : Type 0) (result : Result Prepared Unfinished) → Gives files_told store job dir (core dir cached) result → KeepsJob files_told store job job.cache same
  prepared_keeps same result h =
      subst (λ (o : Option (List ℕ)). KeepsJob files_told store job o same) (sym cached) (cached_keeps files_told store job dir (core dir cached) same result h)

-- without one
module _ (files_told : Option Paths) (store : Storage) (job : Job) (plain : job.cache ≡ None) where
  pub plain_says : (result : Result Prepared Unfinished) → IfSome files_told (λ files. Prepares result (of_job files job)) → PreparesBy (SaysJob files_told store job job.cache) result
  plain_says result h = subst (λ (o : Option (List ℕ)). PreparesBy (SaysJob files_told store job o) result) (sym plain) (by_files files_told job result h)

  pub plain_keeps : (S : Type 0) (s : S) → KeepsJob files_told store job job.cache (s ≡ s)
  plain_keeps S s = subst (λ (o : Option (List ℕ)). KeepsJob files_told store job o (s ≡ s)) (sym plain) refl

-- ---- a run that does nothing to its store

module _ (files_told held : Option Paths) (faults : ℕ) (S : Type 0) (s : S) where
  abbrev still : Storage
  still = record { before = held; after = held; faults_before = faults; faults_after = faults }

  still_files : (job : Job) (dir : List ℕ) (told : Option Paths) → KeepsJob told still job (Some dir) (s ≡ s)
  still_files job dir None = tt
  still_files job dir (Some files) = told_same held _ (λ store. leaves_honest files job dir (changed store faults store faults) (as_it_was refl))

  still_job : (job : Job) (cache : Option (List ℕ)) → KeepsJob files_told still job cache (s ≡ s)
  still_job job None = refl
  still_job job (Some dir) = still_files job dir files_told

  still_asked : (asked : Words) → KeepsAsked files_told still asked (s ≡ s)
  still_asked (Expand job) = still_job job job.cache
  still_asked (Make count) = refl
  still_asked Usage = refl

  pub still_kept : (words : List (List ℕ)) → KeepsStore files_told still words (s ≡ s)
  still_kept words = still_asked (words_asked words)

-- what is kept for a job is kept for the words that ask for it
pub kept_by_words : (told : Option Paths) (store : Storage) (same : Type 0) (words : List (List ℕ)) (job : Job) → words_asked words ≡ Expand job → KeepsJob told store job job.cache same → KeepsStore told store words same
kept_by_words told store same words job asks kept = subst (λ (w : Words). KeepsAsked told store w same) (sym asks) kept
