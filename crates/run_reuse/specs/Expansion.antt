-- The record of a library or a program, and the core text of a program, behind the records so far.
use Rattle.std.specs.Prelude.{ℕ, List, Result}
use Rattle.base_data.specs.Datum.{PlainDatum}
use Rattle.base_data.specs.Gives.{◌>>=◌}
use Rattle.base_data.specs.declared.fault.Fault.{Fault}
use Rattle.core_language.specs.declared.record.CompiledLibrary.{CompiledLibrary}
use Rattle.eval_code.specs.Codes.{Codes}
use Rattle.load_forms.specs.Form.{library_body, program_body}
use Rattle.run_library.specs.Loaded.{expand_found, planned_text}
use Rattle.load_files.specs.declared.found.Found.{Found}
use Rattle.run_reuse.specs.declared.expansion.File.{File}
use Rattle.run_reuse.specs.declared.expansion.File.TheVariants as file

-- the data of its body
abbrev pub body_in : File → List PlainDatum → List PlainDatum
body_in file.Library ds = library_body ds
body_in file.Program ds = program_body ds

-- the core text of a program behind these records, or its first fault
abbrev pub text_after : Result Codes Fault → List CompiledLibrary → Found → Result (List ℕ) Fault
text_after prelude records f = expand_found prelude records f (program_body f.opened.«data») >>= (λ program. planned_text records program)
