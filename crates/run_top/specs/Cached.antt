-- What a run with a cache comes to: the turns of its libraries, the text behind them, and what is left of the store.
use Rattle.std.specs.Prelude.{◌≡◌, ℕ, suc, Bool, true, false, List, [], ◌∷◌, Option, Some, None, slice_get, Result, Ok, Err, if◌then◌else◌, string_bytes}
use Rattle.base_data.specs.FaultLine.{fault_line}
use Rattle.base_data.specs.declared.fault.Fault.{Fault}
use Rattle.base_data.specs.declared.fault.Stop.{Stop}
use Rattle.base_data.specs.declared.fault.Stop.TheVariants as stop
use Rattle.load_files.specs.Load.{Loads, load}
use Rattle.load_files.specs.declared.found.Found.{Found}
use Rattle.load_files.specs.declared.found.Loading.{Loading}
use Rattle.load_files.specs.declared.found.Source.{Source}
use Rattle.base_outside.specs.Contents.{Paths}
use Rattle.run_prelude.specs.Prelude.{prelude_table}
use Rattle.load_report.specs.Report.{report_text}
use Rattle.load_report.specs.declared.report.Fate.{Fate}
use Rattle.load_report.specs.declared.report.Fate.TheVariants.{Expanded, Reused}
use Rattle.load_report.specs.declared.report.Told.{Told}
use Rattle.run_reuse.specs.Entries.{CacheInputs}
use Rattle.run_reuse.specs.Groups.{AreGroups, groups_from}
use Rattle.run_reuse.specs.Texts.{Text, Writes, Leaves, found_in}
use Rattle.run_reuse.specs.Turns.{StoreChange}
use Rattle.run_reuse.specs.declared.groups.Group.{Group}
use Rattle.run_reuse.specs.declared.texts.Came.{Came}
use Rattle.run_reuse.specs.declared.texts.Came.TheVariants as came
use Rattle.run_reuse.specs.declared.texts.WrittenProgram.{WrittenProgram}
use Rattle.law_reuse.specs.Seals.{WritesHonestly, LeavesHonestly}
use Rattle.run_command.specs.declared.job.Job.{Job}
use Rattle.run_top.specs.declared.cached.LoadedJob.{LoadedJob}
use Rattle.run_top.specs.declared.prepare.Prepared.{Prepared}
use Rattle.run_top.specs.declared.prepare.Unfinished.{Unfinished}
use Rattle.run_top.specs.declared.prepare.Unfinished.TheVariants as unfinished
use Rattle.run_top.specs.Whole.{RunOutcome, usage, done, fault, libraries, source_of, loading_of}

-- ---- the report

abbrev pub fate_at : Option Bool → Fate
fate_at None = Expanded
fate_at (Some true) = Reused
fate_at (Some false) = Expanded

-- libraries from a place on, in the order of loading, each as it was come by
abbrev pub told_from : List Bool → ℕ → List Told → List Told
told_from flags place [] = []
told_from flags place (t ∷ ts) = record { fate = fate_at (slice_get flags place); library = t.library } ∷ told_from flags (suc place) ts

-- the report, where it is asked for
abbrev pub report_by : Bool → List Told → List Bool → List ℕ
report_by report libraries flags = if report then report_text (told_from flags 0 libraries) else []

-- a fault is told by its line, whose place is that in the file that it names
abbrev pub outcome_by : Bool → List Told → List Source → Result Text Fault → RunOutcome
outcome_by report libraries sources (Ok made) = done made.0 (report_by report libraries made.1)
outcome_by report libraries sources (Err f) = fault (fault_line f (source_of sources f.span.file))

-- ---- what a job comes to

abbrev pub came_of : Loads (Found × Loading) → Came
came_of (Ok l) = came.Program l.0
came_of (Err e) = came.Fault e.1

abbrev pub loaded_of : Loads (Found × Loading) → LoadedJob
loaded_of l = record { came = came_of l; loading = loading_of l }

-- what loading comes to for a job
abbrev pub load_job : Paths → Job → LoadedJob
load_job files job = loaded_of (load files job.roots job.program)

-- what the entries of a job are made of
abbrev pub kept_of : Job → List ℕ → Loading → List Group → CacheInputs
kept_of job dir s groups = record { dir = dir; roots = job.roots; sources = s.sources; groups = groups }

-- what a job comes to whose program and libraries were loaded
pub record ComesOf (job : Job) (dir : List ℕ) (loaded : LoadedJob) (change : StoreChange) (outcome : RunOutcome) : Type 0 where
  pub groups : List Group
  pub are : AreGroups (groups_from 0 0 loaded.loading.sources) loaded.loading.begun loaded.loading.done groups
  pub made : Result Text Fault
  pub writes : Writes (kept_of job dir loaded.loading groups) prelude_table loaded.came (found_in loaded.loading.done) change made
  pub is : outcome ≡ outcome_by job.report (libraries loaded.loading) loaded.loading.sources made

abbrev pub Comes : Paths → Job → List ℕ → StoreChange → RunOutcome → Type 0
Comes files job dir change outcome = ComesOf job dir (load_job files job) change outcome

-- what is left of the store
pub data LeavesOf (job : Job) (dir : List ℕ) (s : Loading) (change : StoreChange) : Type 0 where
  as_it_was : change.after ≡ change.before → LeavesOf job dir s change
  by_turns : (groups : List Group) → AreGroups (groups_from 0 0 s.sources) s.begun s.done groups
      → Leaves (kept_of job dir s groups) prelude_table (found_in s.done) change → LeavesOf job dir s change

abbrev pub LeavesStore : Paths → Job → List ℕ → StoreChange → Type 0
LeavesStore files job dir change = LeavesOf job dir (loading_of (load files job.roots job.program)) change

-- ---- the premise on seals: where a put failed, nothing unsound lies at its place

abbrev pub ComesHonestly : {job : Job} {dir : List ℕ} {loaded : LoadedJob} {change : StoreChange} {outcome : RunOutcome}
    → ComesOf job dir loaded change outcome → Type 0
ComesHonestly {job = job} {dir = dir} {loaded = loaded} comes = WritesHonestly (kept_of job dir loaded.loading comes.groups) prelude_table comes.writes

abbrev pub LeavesOfHonestly : {job : Job} {dir : List ℕ} {s : Loading} {change : StoreChange} → LeavesOf job dir s change → Type 0
LeavesOfHonestly (as_it_was same) = Unit {0}
LeavesOfHonestly {job = job} {dir = dir} {s = s} (by_turns groups are leaves) = LeavesHonestly (kept_of job dir s groups) prelude_table leaves

-- ---- what calls answer

abbrev pub PreparesText : Result Prepared Unfinished → Bool → List Told → List Source → Result WrittenProgram Stop → Type 0
PreparesText (Ok made) report libraries sources (Ok w) = (string_bytes made.text ≡ string_bytes w.text)
    × (string_bytes made.report ≡ report_by report libraries w.reused)
PreparesText (Ok made) report libraries sources (Err x) = ⊥
PreparesText (Err (unfinished.Line line)) report libraries sources (Err (stop.Fault f)) = string_bytes line ≡ fault_line f (source_of sources f.span.file)
PreparesText (Err (unfinished.Line line)) report libraries sources (Err stop.Memory) = ⊥
PreparesText (Err (unfinished.Line line)) report libraries sources (Ok w) = ⊥
PreparesText (Err unfinished.Read) report libraries sources w = Unit {0}
PreparesText (Err unfinished.Memory) report libraries sources w = Unit {0}

abbrev pub PreparesFrom : Result Prepared Unfinished → Job → List ℕ → LoadedJob → StoreChange → Type 0
PreparesFrom (Ok made) job dir loaded change = ComesOf job dir loaded change (done (string_bytes made.text) (string_bytes made.report))
PreparesFrom (Err (unfinished.Line line)) job dir loaded change = ComesOf job dir loaded change (fault (string_bytes line))
PreparesFrom (Err unfinished.Read) job dir loaded change = change.after ≡ change.before
PreparesFrom (Err unfinished.Memory) job dir loaded change = LeavesOf job dir loaded.loading change

abbrev pub PreparesCached : Result Prepared Unfinished → Paths → Job → List ℕ → StoreChange → Type 0
PreparesCached result files job dir change = PreparesFrom result job dir (load_job files job) change

-- ---- beside a run without a cache

-- the same text, or the same fault
abbrev pub SameText : RunOutcome → RunOutcome → Type 0
SameText (done text report) given = (other : List ℕ) × (given ≡ done text other)
SameText (fault line) given = given ≡ fault line
SameText usage given = given ≡ usage
