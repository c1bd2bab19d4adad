-- What is made before anything is written, beside what the definition gives.
use Rattle.std.specs.Prelude.{◌≡◌, Result, Ok, Err, string_bytes}
use Rattle.run_top.specs.declared.prepare.Prepared.{Prepared}
use Rattle.run_top.specs.declared.prepare.Unfinished.{Unfinished}
use Rattle.run_top.specs.declared.prepare.Unfinished.TheVariants as unfinished
use Rattle.run_top.specs.Headline.{Sunk, Untouched, Finishes, Complains}
use Rattle.run_top.specs.Whole.{RunOutcome, done, fault}
use Rattle.run_top.specs.declared.status.Status.{Status}
use Rattle.run_top.specs.declared.status.Status.TheVariants as status

-- the text and the report, or the line of the fault, are the definition's; a failed read and want of memory say nothing of it
abbrev pub Prepares : Result Prepared Unfinished → RunOutcome → Type 0
Prepares (Ok made) outcome = outcome ≡ done (string_bytes made.text) (string_bytes made.report)
Prepares (Err (unfinished.Line line)) outcome = outcome ≡ fault (string_bytes line)
Prepares (Err unfinished.Read) outcome = Unit {0}
Prepares (Err unfinished.Memory) outcome = Unit {0}

-- what holds of the text and the report, or of the line of the fault
abbrev pub PreparesBy : (RunOutcome → Type 0) → Result Prepared Unfinished → Type 0
PreparesBy P (Ok made) = P (done (string_bytes made.text) (string_bytes made.report))
PreparesBy P (Err (unfinished.Line line)) = P (fault (string_bytes line))
PreparesBy P (Err unfinished.Read) = Unit {0}
PreparesBy P (Err unfinished.Memory) = Unit {0}

-- what was prepared is written: its text and behind it its report, or the line of its fault; and else nothing
abbrev pub Writes : Result Prepared Unfinished → Sunk → Sunk → Status → Type 0
Writes (Ok made) out err s = Finishes out err (string_bytes made.text) (string_bytes made.report) s
Writes (Err (unfinished.Line line)) out err s = Complains out err (string_bytes line) status.Fault s
Writes (Err unfinished.Read) out err s = (s ≡ status.ReadFault) × (Untouched out × Untouched err)
Writes (Err unfinished.Memory) out err s = (s ≡ status.Memory) × (Untouched out × Untouched err)
