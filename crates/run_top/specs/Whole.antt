-- What the whole program gives for files and words: its eager definition.
use Rattle.base_data.specs.Gives.{◌>>=◌}
use Rattle.std.specs.Prelude.{ℕ, Bool, List, [], ◌∷◌, map, Option, Some, None, Result, Ok, Err, if◌then◌else◌, codes, false}
use Rattle.base_data.specs.FaultLine.{fault_line}
use Rattle.base_data.specs.declared.fault.Fault.{Fault}
use Rattle.load_import.specs.Table.{same_text}
use Rattle.base_outside.specs.Contents.{Paths}
use Rattle.load_files.specs.Load.{Loads, load}
use Rattle.load_files.specs.declared.found.Found.{Found}
use Rattle.load_files.specs.declared.found.Loading.{Loading}
use Rattle.load_files.specs.declared.found.Source.{Source}
use Rattle.eval_code.specs.Codes.{Codes}
use Rattle.run_library.specs.Loaded.{text_behind, links_behind, fault_behind}
use Rattle.run_prelude.specs.Prelude.{prelude_table}
use Rattle.load_report.specs.Report.{report_text}
use Rattle.load_report.specs.declared.report.Fate.TheVariants.{Expanded}
use Rattle.load_report.specs.declared.report.Told.{Told}
use Rattle.run_make.specs.Made.{made_files, program_path}
use Rattle.run_make.specs.Summary.{summary}
use Rattle.run_command.specs.declared.job.Job.{Job}
use Rattle.run_command.specs.declared.job.Kind.{Kind}
use Rattle.run_command.specs.declared.job.Kind.TheVariants.{Core, Xref}
use Rattle.run_command.specs.declared.words.Words.{Words}
use Rattle.run_command.specs.declared.words.Words.TheVariants.{Expand, Make, Usage}
use Rattle.run_xref.specs.Map.{binding_map}
use Rattle.run_xref.specs.Text.{xref_text}
use Rattle.run_top.specs.Words.{words_asked}

-- the words are refused, or the core text or the binding map with the report, or the line of the first fault
pub data RunOutcome : Type 0 where
  usage : RunOutcome
  done : (text report : List ℕ) → RunOutcome
  fault : (line : List ℕ) → RunOutcome

-- a library of a file, which was expanded
abbrev pub told : List ℕ × Found → Told
told row = record { fate = Expanded; library = row.1.opened.form.name }

-- the libraries of files that a program needs, in the order of loading
abbrev pub libraries : Loading → List Told
libraries s = map told s.done

-- the report, where it is asked for
abbrev pub report_if : Bool → Loading → List ℕ
report_if report s = if report then report_text (libraries s) else []

abbrev pub held_or : Option (List ℕ) → List ℕ → List ℕ
held_or None later = later
held_or (Some held) later = held

abbrev pub held_at : List ℕ → Source → Option (List ℕ)
held_at path source = if same_text source.path path then source.held else None

-- the bytes of a file that was read
abbrev pub source_of : List Source → List ℕ → List ℕ
source_of [] path = []
source_of (s ∷ ss) path = held_or (held_at path s) (source_of ss path)

abbrev pub loading_of : Loads (Found × Loading) → Loading
loading_of (Ok l) = l.1
loading_of (Err e) = e.0

-- a fault is told by its line, whose place is that in the file that it names
abbrev pub outcome_of : Bool → Loading → Result (List ℕ) Fault → RunOutcome
outcome_of report s (Ok text) = done text (report_if report s)
outcome_of report s (Err f) = fault (fault_line f (source_of s.sources f.span.file))

-- which identifier of these sources stands for which, in a program and the libraries that were loaded before it
abbrev pub map_behind : Result Codes Fault → List (List ℕ × Found) → Found → List Source → Result (List ℕ) Fault
map_behind prelude rows found sources = links_behind prelude rows found >>= (λ links. Ok (xref_text sources (binding_map links)))

-- what is written of a program
abbrev pub text_behind_by : Kind → Result Codes Fault → List (List ℕ × Found) → Found → List Source → Result (List ℕ) Fault
text_behind_by Core prelude rows found sources = text_behind prelude rows found
text_behind_by Xref prelude rows found sources = map_behind prelude rows found sources

-- of a program that was loaded, or the first fault: each library is expanded before any further file is looked for
abbrev pub text_by : Kind → Result Codes Fault → Loads (Found × Loading) → Result (List ℕ) Fault
text_by kind prelude (Ok l) = text_behind_by kind prelude l.1.done l.0 l.1.sources
text_by kind prelude (Err e) = fault_behind prelude e.0.done e.1

abbrev pub of_loaded : Kind → Bool → Loads (Found × Loading) → RunOutcome
of_loaded kind report loaded = outcome_of report (loading_of loaded) (text_by kind prelude_table loaded)

unfoldable pub of_job : Paths → Job → RunOutcome
of_job files job = of_loaded job.kind job.report (load files job.roots job.program)

-- the job of the program that `--make` makes
abbrev pub made_job : Job
made_job = record { roots = codes "." ∷ []; cache = None; report = false; kind = Core; program = program_path }

-- the summary of a text, or the line of the fault
abbrev pub summed : ℕ → RunOutcome → RunOutcome
summed count usage = usage
summed count (done text report) = done (summary count text) []
summed count (fault line) = fault line

-- so many libraries and a program that are made in memory: no file takes part
unfoldable pub of_made : ℕ → RunOutcome
of_made count = summed count (of_job (made_files count) made_job)

abbrev pub of_words : Paths → Words → RunOutcome
of_words files (Expand job) = of_job files job
of_words files (Make count) = of_made count
of_words files Usage = usage

abbrev pub whole : Paths → List (List ℕ) → RunOutcome
whole files words = of_words files (words_asked words)
