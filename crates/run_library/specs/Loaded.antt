-- The records of loaded libraries, and the core text of a program.
use Rattle.std.specs.Prelude.{ℕ, ◌+◌, List, [], ◌∷◌, ◌++◌, map, true, Result, Ok, Err}
use Rattle.base_data.specs.Datum.{PlainDatum}
use Rattle.base_data.specs.Gives.{◌>>=◌}
use Rattle.base_data.specs.declared.fault.Fault.{Fault}
use Rattle.core_language.specs.declared.link.Link.{Link}
use Rattle.core_language.specs.declared.record.CompiledLibrary.{CompiledLibrary}
use Rattle.core_output.specs.Whole.{core_text}
use Rattle.eval_code.specs.Codes.{Codes}
use Rattle.expand_forms.specs.declared.top.Linked.{Linked}
use Rattle.load_forms.specs.Form.{library_body, program_body}
use Rattle.load_import.specs.Turns.{turns}
use Rattle.run_derived.specs.Derived.{derived_record, derived_spent}
use Rattle.run_library.specs.Records.{needed_records}
use Rattle.load_files.specs.declared.found.Found.{Found}
use Rattle.run_library.specs.Library.{expand_library, link_library, form_spent}
use Rattle.run_library.specs.declared.loaded.Gathered.{Gathered}
use Rattle.core_plan.specs.Planned.{plan_of}
use Rattle.run_prelude.specs.Spent.{spent_behind}

-- the record of a library or program behind the derived library and those that it needs
abbrev pub expand_found : Result Codes Fault → List CompiledLibrary → Found → List PlainDatum → Result CompiledLibrary Fault
expand_found prelude records found body = expand_library prelude (needed_records records (true ∷ found.needs)) found.opened.path found.opened.form body

abbrev pub expand_next : Result Codes Fault → List CompiledLibrary → List ℕ × Found → Result (List CompiledLibrary) Fault
expand_next prelude records row = expand_found prelude records row.1 (library_body row.1.opened.«data») >>= (λ r. Ok (records ++ r ∷ []))

-- the record of the derived library, and those of the others behind it, in the order of loading
abbrev pub all_records : Result Codes Fault → List (List ℕ × Found) → Result (List CompiledLibrary) Fault
all_records prelude rows = derived_record prelude >>= (λ d. turns (expand_next prelude) (d ∷ []) rows)

abbrev pub planned_text : List CompiledLibrary → CompiledLibrary → Result (List ℕ) Fault
planned_text records program = core_text records (plan_of records program) program

-- the core text of a program behind the libraries that were loaded before it, or the first fault
unfoldable pub text_behind : Result Codes Fault → List (List ℕ × Found) → Found → Result (List ℕ) Fault
text_behind prelude rows found = all_records prelude rows
    >>= (λ records. expand_found prelude records found (program_body found.opened.«data») >>= (λ program. planned_text records program))

-- the fault where loading stopped, unless a library that was loaded before has one
unfoldable pub fault_behind : Result Codes Fault → List (List ℕ × Found) → Fault → Result (List ℕ) Fault
fault_behind prelude rows fault = all_records prelude rows >>= (λ records. Err fault)

-- ---- links

-- the record and the links of a library or program behind the derived library and those that it needs
abbrev pub link_found : Result Codes Fault → List CompiledLibrary → Found → List PlainDatum → Result Linked Fault
link_found prelude records found body = link_library prelude (needed_records records (true ∷ found.needs)) found.opened.path found.opened.form body

abbrev pub with_linked : Gathered → Linked → Gathered
with_linked all l = record { records = all.records ++ l.library ∷ []; links = all.links ++ l.links }

abbrev pub link_next : Result Codes Fault → Gathered → List ℕ × Found → Result Gathered Fault
link_next prelude all row = link_found prelude all.records row.1 (library_body row.1.opened.«data») >>= (λ l. Ok (with_linked all l))

-- the derived library, whose text is no file of the program: its links are dropped
abbrev pub derived_linked : Result Codes Fault → Result Gathered Fault
derived_linked prelude = derived_record prelude >>= (λ d. Ok (record { records = d ∷ []; links = [] }))

-- the records of the derived library and of the others behind it, and the links of the others, in the order of loading
abbrev pub all_linked : Result Codes Fault → List (List ℕ × Found) → Result Gathered Fault
all_linked prelude rows = derived_linked prelude >>= (λ all. turns (link_next prelude) all rows)

-- the links of the libraries that were loaded before a program, and then its own, or the first fault
unfoldable pub links_behind : Result Codes Fault → List (List ℕ × Found) → Found → Result (List Link) Fault
links_behind prelude rows found =
    all_linked prelude rows >>= (λ all.
    link_found prelude all.records found (program_body found.opened.«data») >>= (λ l. Ok (all.links ++ l.links)))

-- ---- the fuel

-- what the expansion of a library or program spends behind the derived library and those that it needs
abbrev pub found_spent : Result Codes Fault → List CompiledLibrary → Found → List PlainDatum → ℕ
found_spent prelude records found body = form_spent prelude (needed_records records (true ∷ found.needs)) found.opened.path found.opened.form body

-- what those of libraries spend, each behind these records and those of the libraries before it
unfoldable pub each_spent : Result Codes Fault → List CompiledLibrary → List Found → ℕ
each_spent prelude records [] = 0
each_spent prelude records (f ∷ fs) = found_spent prelude records f (library_body f.opened.«data») + spent_behind
    (expand_next prelude records ([], f)) (λ rs. each_spent prelude rs fs)

-- the derived library's, and those of the libraries behind it
abbrev pub all_spent : Result Codes Fault → List Found → ℕ
all_spent prelude fs = derived_spent prelude + spent_behind (derived_record prelude) (λ d. each_spent prelude (d ∷ []) fs)

-- the program's too, behind the libraries that were loaded before it
unfoldable pub program_spent : Result Codes Fault → List (List ℕ × Found) → Found → ℕ
program_spent prelude rows found =
    all_spent prelude (map (λ (row : List ℕ × Found). row.1) rows) + spent_behind (all_records prelude rows)
    (λ records. found_spent prelude records found (program_body found.opened.«data»))
