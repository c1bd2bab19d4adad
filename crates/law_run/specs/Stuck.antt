-- No run gets stuck.
use Rattle.std.specs.Prelude.{◌≡◌, ℕ, List, Err}
use Rattle.base_data.specs.FaultLine.{fault_line}
use Rattle.base_data.specs.declared.fault.Fault.{Fault}
use Rattle.base_data.specs.declared.fault.FaultKind.{FaultKind}
use Rattle.base_data.specs.declared.fault.FaultKind.TheVariants as kinds
use Rattle.law_given.specs.Texts.{written_table}
use Rattle.law_kinds.specs.Kinds.{Tells}
use Rattle.load_files.specs.Load.{load}
use Rattle.base_outside.specs.Contents.{Paths}
use Rattle.run_prelude.specs.Prelude.{prelude_table}
use Rattle.run_make.specs.Made.{made_files}
use Rattle.run_top.specs.Whole.{RunOutcome, usage, done, fault, text_by, made_job, whole}
use Rattle.run_top.specs.Words.{words_asked}
use Rattle.law_steady.specs.Libraries.{AreTexts}
use Rattle.run_command.specs.declared.job.Job.{Job}
use Rattle.run_command.specs.declared.job.Kind.{Kind}
use Rattle.run_command.specs.declared.words.Words.{Words}
use Rattle.run_command.specs.declared.words.Words.TheVariants.{Expand, Make, Usage}

-- any kind but that of cells that don't fit
abbrev pub IsOther : FaultKind → Type 0
IsOther k = k ≡ kinds.Stuck → ⊥

-- The line of the fault of a job, which is of another kind.
pub record IsLineOfOther (files : Paths) (job : Job) (line : List ℕ) : Type 0 where
  pub told : Fault
  pub gives : text_by job.kind prelude_table (load files job.roots job.program) ≡ Err told
  pub other : IsOther told.kind
  pub source : List ℕ
  pub is : line ≡ fault_line told source

abbrev pub TellsOther : Paths → Job → RunOutcome → Type 0
TellsOther files job usage = Unit {0}
TellsOther files job (done text report) = Unit {0}
TellsOther files job (fault line) = IsLineOfOther files job line

-- The fault, where there is one, is that of the job that the words ask for, or of the program that they ask to be made.
abbrev pub AskedTellsOther : Paths → Words → RunOutcome → Type 0
AskedTellsOther files (Expand job) outcome = TellsOther files job outcome
AskedTellsOther files (Make count) outcome = TellsOther (made_files count) made_job outcome
AskedTellsOther files Usage outcome = outcome ≡ usage

-- The codes of the texts of the prelude, as they are written out, make a whole world.
abbrev pub WrittenTextsAreTexts : Type 0
WrittenTextsAreTexts = AreTexts written_table

-- Whatever the files hold, a program has a core text and a binding map, or is at fault in another way: where loading ends and
-- where it stops.
abbrev pub RunsNeverStuck : Type 0
RunsNeverStuck = (kind : Kind) (files : Paths) (roots : List (List ℕ)) (path : List ℕ) → Tells IsOther (text_by kind prelude_table (load files roots path))

-- so whatever the files and the words
abbrev pub WholeNeverStuck : Type 0
WholeNeverStuck = (files : Paths) (words : List (List ℕ)) → AskedTellsOther files (words_asked words) (whole files words)
