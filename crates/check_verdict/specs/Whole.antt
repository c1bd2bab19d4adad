-- What a check gives for files and words: its definition.
use Rattle.std.specs.Prelude.{ℕ, Bool, true, false, List, [], ◌∷◌, nat_eq, nat_lt, length, map, take, Option, None, Some, if◌then◌else◌, String, string_bytes, codes}
use Rattle.std.specs.Global.{Global}
use Rattle.std.specs.List.{starts_with}
use Rattle.check_verdict.specs.declared.status.CheckStatus.{CheckStatus}
use Rattle.check_verdict.specs.declared.status.CheckStatus.TheVariants as status
use Rattle.check_verdict.specs.declared.verdict.Verdict.{Verdict}
use Rattle.check_verdict.specs.declared.verdict.Verdict.TheVariants as verdict
use Rattle.check_verdict.specs.Lines.{verdict_of}
use Rattle.check_verdict.specs.Verdicts.{answer_text}
use Rattle.base_outside.specs.Contents.{Paths, Reading, bytes, longer, absent, at_path, read_of}

abbrev pub texts : List (String Global) → List (List ℕ)
texts words = map string_bytes words

-- a file's name doesn't begin with `-`
abbrev pub if_file : List ℕ → Option (List ℕ)
if_file word = if starts_with nat_eq word (codes "-") then None else Some word

-- the file that the words name: they are one FILE
abbrev pub file_named : List (List ℕ) → Option (List ℕ)
file_named [] = None
file_named (w ∷ []) = if_file w
file_named (w ∷ v ∷ ws) = None

-- how many bytes of a file are read at most
abbrev pub most_bytes : ℕ
most_bytes = 268435456

abbrev pub usage_line : List ℕ
usage_line = codes "usage: core-check FILE\n"

-- a line, and the status with it
pub record ToldLine : Type 0 where
  pub line : List ℕ
  pub status : CheckStatus

abbrev pub told_no : List ℕ → ToldLine
told_no line = record { line = line; status = status.No }

abbrev pub status_of : Verdict → CheckStatus
status_of verdict.Yes = status.Yes
status_of (verdict.No w) = status.No

abbrev pub of_verdict : Verdict → ToldLine
of_verdict v = record { line = answer_text v; status = status_of v }

abbrev pub too_long : ToldLine
too_long = told_no (codes "no: longer\n")

-- what is told of a file
abbrev pub of_reading : Reading → ToldLine
of_reading (bytes x) = if nat_lt most_bytes (length x) then too_long else of_verdict (verdict_of x)
of_reading longer = too_long
of_reading absent = told_no (codes "no: absent\n")

abbrev pub of_file : Paths → List ℕ → ToldLine
of_file files path = of_reading (read_of (at_path files path) most_bytes)

abbrev pub status_asked : Paths → Option (List ℕ) → CheckStatus
status_asked files None = status.Usage
status_asked files (Some path) = (of_file files path).status

-- the status of a check
abbrev pub whole_status : Paths → List (List ℕ) → CheckStatus
whole_status files words = status_asked files (file_named words)
