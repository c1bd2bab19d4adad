-- The records of libraries behind that of the derived library, which stands before them all.
use Rattle.std.specs.Prelude.{◌≡◌, ℕ, List, [], ◌∷◌, ◌++◌, Result, Ok}
use Rattle.base_data.specs.Datum.{PlainDatum}
use Rattle.base_data.specs.Gives.{◌>>=◌}
use Rattle.base_data.specs.declared.fault.Fault.{Fault}
use Rattle.core_language.specs.declared.record.CompiledLibrary.{CompiledLibrary}
use Rattle.run_derived.specs.Derived.{derived_record}
use Rattle.eval_code.specs.Codes.{Codes}
use Rattle.load_forms.specs.Form.{library_body}
use Rattle.load_import.specs.Turns.{turns}
use Rattle.run_library.specs.Library.{expand_library}
use Rattle.run_library.specs.Loaded.{all_records, expand_found}
use Rattle.load_files.specs.Found.{needed}
use Rattle.load_files.specs.declared.found.Found.{Found}
use Rattle.law_load.specs.Laws.{Libraries}
use Rattle.expand_standing.specs.Start.{records_at}

-- what each expansion of a run begins with: the codes of procedures that are texts, and the record of the derived library
pub record RunBase : Type 0 where
  pub prelude : Result Codes Fault
  pub derived : CompiledLibrary
  pub is_derived : derived_record prelude ≡ Ok derived

module _ (base : RunBase) where
  -- the records before a library, of those that the run has made
  abbrev pub behind : List CompiledLibrary → Found → List CompiledLibrary
  behind others f = base.derived ∷ records_at others (needed f)

  abbrev pub expand_behind : List CompiledLibrary → Found → List PlainDatum → Result CompiledLibrary Fault
  expand_behind others f body = expand_library base.prelude (behind others f) f.opened.path f.opened.form body

  abbrev pub behind_next : List CompiledLibrary → List ℕ × Found → Result (List CompiledLibrary) Fault
  behind_next others row = expand_behind others row.1 (library_body row.1.opened.«data») >>= (λ r. Ok (others ++ r ∷ []))

  -- the records of libraries, without that of the derived one
  abbrev pub records_behind : Libraries → Result (List CompiledLibrary) Fault
  records_behind rows = turns behind_next [] rows

  -- they are those of a run
  pub record AreThoseOfRuns : Type 0 where
    pub each : (others : List CompiledLibrary) (f : Found) (body : List PlainDatum)
        → expand_found base.prelude (base.derived ∷ others) f body ≡ expand_behind others f body
    pub all : (rows : Libraries) → all_records base.prelude rows ≡ (records_behind rows >>= (λ others. Ok (base.derived ∷ others)))
