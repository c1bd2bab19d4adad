-- How a check ends, by its definition: what `specs/Headline` says by the cases of the grammar.
use Rattle.std.specs.Prelude.{◌≡◌, ℕ, List, Option, None, Some, IfSome, string_bytes}
use Rattle.check_verdict.specs.declared.run.FileReport.{FileReport}
use Rattle.check_verdict.specs.declared.status.CheckStatus.{CheckStatus}
use Rattle.check_verdict.specs.declared.status.CheckStatus.TheVariants as status
use Rattle.check_verdict.specs.Headline.{Sunk, FilesAsked, Untouched, Puts, Gave}
use Rattle.check_verdict.specs.Whole.{ToldLine, file_named, of_reading, usage_line}
use Rattle.base_outside.specs.Causes.{Rose}
use Rattle.base_outside.specs.Contents.{Paths, Reading}

abbrev pub told : FileReport → ToldLine
told a = record { line = string_bytes a.line; status = a.status }

-- what is told of what a read gave
pub record IsOf (files : Option Paths) (path : List ℕ) (a : FileReport) : Type 0 where
  pub reading : Reading
  pub gave : Gave files path (λ r. r ≡ reading)
  pub same : told a ≡ of_reading reading

pub data Ended (files : FilesAsked) (words : List (List ℕ)) (out err : Sunk) (s : CheckStatus) : Type 0 where
  answered : (path : List ℕ) (reading : Reading) → file_named words ≡ Some path → Gave files.told path (λ r. r ≡ reading) → Untouched err
      → Puts out (of_reading reading).line (of_reading reading).status s → Ended files words out err s
  wrong_words : file_named words ≡ None → Untouched out → Puts err usage_line status.Usage s → Ended files words out err s
  read_fault : s ≡ status.ReadFault → Rose files.faults_before files.faults_after → Untouched out → Untouched err → Ended files words out err s
  no_memory : s ≡ status.Memory → Untouched out → Untouched err → Ended files words out err s
