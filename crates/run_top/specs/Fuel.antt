-- The fuel that a run spends.
use Rattle.std.specs.Prelude.{◌≡◌, ℕ, ◌+◌, List, Option, None, Some, IfSome, Result, Ok, Err}
use Rattle.base_data.specs.declared.fault.Fault.{Fault}
use Rattle.eval_code.specs.Codes.{Codes}
use Rattle.run_library.specs.Loaded.{program_spent}
use Rattle.load_files.specs.Load.{Loads, load}
use Rattle.load_files.specs.declared.found.Found.{Found}
use Rattle.load_files.specs.declared.found.Loading.{Loading}
use Rattle.run_make.specs.Made.{made_files}
use Rattle.base_outside.specs.Contents.{Paths}
use Rattle.base_outside.specs.Store.{WhereTold}
use Rattle.run_prelude.specs.Prelude.{prelude_table, prelude_spent}
use Rattle.run_reuse.specs.Fuel.{writes_spent}
use Rattle.run_reuse.specs.Turns.{StoreChange, changed}
use Rattle.run_command.specs.declared.job.Job.{Job}
use Rattle.run_command.specs.declared.words.Words.{Words}
use Rattle.run_command.specs.declared.words.Words.TheVariants.{Expand, Make, Usage}
use Rattle.run_top.specs.Cached.{ComesOf, kept_of, load_job}
use Rattle.run_top.specs.Headline.{Finishes, OutsideChange, Storage}
use Rattle.run_top.specs.Whole.{RunOutcome, done, made_job}
use Rattle.run_top.specs.Words.{words_asked}
use Rattle.run_top.specs.declared.cached.LoadedJob.{LoadedJob}
use Rattle.run_top.specs.declared.status.Status.{Status}
use Rattle.run_top.specs.declared.status.Status.TheVariants as status

-- a text with its report, and the fuel before they were made and after
pub record SpentText : Type 0 where
  pub text : List ℕ
  pub report : List ℕ
  pub fuel_before : ℕ
  pub fuel_after : ℕ

-- ---- without a cache

-- what the derived library, the libraries and the program spend, each behind the records before it
abbrev pub loads_spent : Result Codes Fault → Loads (Found × Loading) → ℕ
loads_spent prelude (Ok l) = program_spent prelude l.1.done l.0
loads_spent prelude (Err e) = 0

-- the texts of procedures too, which are expanded first
unfoldable pub job_spent : Paths → Job → ℕ
job_spent files job = prelude_spent + loads_spent prelude_table (load files job.roots job.program)

-- ---- with a cache

-- the same, but for the libraries whose records are reused
abbrev pub comes_spent : {job : Job} {dir : List ℕ} {loaded : LoadedJob} {change : StoreChange} {outcome : RunOutcome}
    → ComesOf job dir loaded change outcome → ℕ
comes_spent {job = job} {dir = dir} {loaded = loaded} comes = writes_spent (kept_of job dir loaded.loading comes.groups) prelude_table comes.writes

-- a job comes to a text, and this is spent behind the texts of procedures
pub record ComesSpending (job : Job) (dir : List ℕ) (loaded : LoadedJob) (change : StoreChange) (spent : SpentText) : Type 0 where
  pub comes : ComesOf job dir loaded change (done spent.text spent.report)
  pub rose : spent.fuel_after ≡ spent.fuel_before + comes_spent comes

abbrev pub SpendsFrom : Paths → Job → List ℕ → StoreChange → SpentText → Type 0
SpendsFrom files job dir change spent = ComesSpending job dir (load_job files job) change spent

-- with the texts of procedures
abbrev pub SpendsCached : Paths → Job → List ℕ → StoreChange → SpentText → Type 0
SpendsCached files job dir change spent = SpendsFrom files job dir change (record spent { fuel_before = spent.fuel_before + prelude_spent })

-- ---- what is spent where a text is prepared

-- where the files are told, and with a cache also the store
abbrev pub SpendsJob : Option Paths → Storage → Job → Option (List ℕ) → SpentText → Type 0
SpendsJob told store job None spent = IfSome told (λ files. spent.fuel_after ≡ spent.fuel_before + job_spent files job)
SpendsJob told store job (Some dir) spent =
    IfSome told (λ files. WhereTold store.before store.after
    (λ before after. SpendsCached files job dir (changed before store.faults_before after store.faults_after) spent))

abbrev pub SpendsAsked : Option Paths → Storage → Words → SpentText → Type 0
SpendsAsked told store (Expand job) spent = SpendsJob told store job job.cache spent
SpendsAsked told store (Make count) spent = spent.fuel_after ≡ spent.fuel_before + job_spent (made_files count) made_job
SpendsAsked told store Usage spent = spent.fuel_after ≡ spent.fuel_before

-- ---- what a run spends

-- a text was written, and behind it a report, and this much is spent for them
pub record Spends (outside : OutsideChange) (words : Words) (fuel_before fuel_after : ℕ) : Type 0 where
  pub text : List ℕ
  pub report : List ℕ
  pub wrote : Finishes outside.out outside.err text report status.Done
  pub spends : SpendsAsked outside.files.told outside.store words (record { text = text; report = report; fuel_before = fuel_before; fuel_after = fuel_after })

abbrev pub SpendsIfDone : OutsideChange → List (List ℕ) → ℕ → ℕ → Status → Type 0
SpendsIfDone outside words fuel_before fuel_after status.Done = Spends outside (words_asked words) fuel_before fuel_after
SpendsIfDone outside words fuel_before fuel_after s = Unit {0}
