-- Import sets (R6RS 7.1).
use Rattle.std.specs.Prelude.{ℕ, Bool, true, false, List, [], ◌∷◌, ◌++◌, Option, Some, None, is_some, option_map, unwrap_or, if◌then◌else◌, codes}
use Rattle.base_data.specs.declared.library.LibName.TheVariants as library
use Rattle.base_data.specs.declared.span.Span.{Span}
use Rattle.base_data.specs.Datum.{PlainDatum, atom, symbol, pair, vector, nil, span_of, symbol_text, proper_elements}
use Rattle.load_import.specs.declared.set.ImportSet.{ImportSet}
use Rattle.load_import.specs.declared.set.NameAt.{NameAt}
use Rattle.load_import.specs.declared.set.Renaming.{Renaming}
use Rattle.load_import.specs.declared.set.ImportStep.{ImportStep}
use Rattle.load_import.specs.declared.set.ImportStep.TheVariants as step
use Rattle.load_forms.specs.All.{given, all_of}
use Rattle.load_forms.specs.Name.{leading, behind, int_of}
use Rattle.load_forms.specs.Version.{is_reference}
use Rattle.load_forms.specs.Words.{is_word, set_word}
use Rattle.load_forms.specs.declared.set.Import.{Import}
use Rattle.load_forms.specs.declared.words.SetWord.{SetWord}
use Rattle.load_forms.specs.declared.words.SetWord.TheVariants as set
use Rattle.load_forms.specs.declared.words.StepWord.{StepWord}
use Rattle.load_forms.specs.declared.words.StepWord.TheVariants as word

-- where nothing else is known, the start of the file
abbrev pub start : List ℕ → Span
start file = record { file = file; from = 0; to = 0 }

abbrev pub datum_place : List ℕ → PlainDatum → Span
datum_place file d = unwrap_or (span_of d) (start file)

-- an identifier with its place
abbrev pub name_at : List ℕ → PlainDatum → Option NameAt
name_at file d = option_map (λ text. record { name = text; span = datum_place file d }) (symbol_text d)

abbrev pub names_at : List ℕ → List PlainDatum → Option (List NameAt)
names_at file ds = all_of (name_at file) [] ds

-- a name and the name that takes its place
abbrev pub pair_of : Option NameAt → Option (List ℕ) → Option Renaming
pair_of None to = None
pair_of (Some from) None = None
pair_of (Some from) (Some to) = Some (record { from = from; to = to })

abbrev pub renaming_in : List ℕ → List PlainDatum → Option Renaming
renaming_in file [] = None
renaming_in file (d ∷ []) = None
renaming_in file (d ∷ e ∷ []) = pair_of (name_at file d) (symbol_text e)
renaming_in file (d ∷ e ∷ f ∷ ds) = None

abbrev pub renaming : List ℕ → PlainDatum → Option Renaming
renaming file d = given (proper_elements d) (renaming_in file)

abbrev pub prefix_in : List PlainDatum → Option ImportStep
prefix_in [] = None
prefix_in (d ∷ []) = option_map step.Prefix (symbol_text d)
prefix_in (d ∷ e ∷ ds) = None

-- what a word with what stands behind its set does
abbrev pub step_of : List ℕ → StepWord → List PlainDatum → Option ImportStep
step_of file word.Only ds = option_map step.Only (names_at file ds)
step_of file word.Except ds = option_map step.Except (names_at file ds)
step_of file word.Prefix ds = prefix_in ds
step_of file word.Rename ds = option_map step.Rename (all_of (renaming file) [] ds)

-- a version reference, or none
abbrev pub version_reference : List PlainDatum → Option PlainDatum
version_reference [] = Some nil
version_reference (d ∷ []) = if is_reference d then Some d else None
version_reference (d ∷ e ∷ ds) = None

abbrev pub referred : Span → List (List ℕ) → Option PlainDatum → Option ImportSet
referred place [] v = None
referred place (p ∷ ps) None = None
referred place (p ∷ ps) (Some v) = Some (record { library = library.User (p ∷ ps); version = v; place = place; steps = [] })

-- a reference to a library: one or more identifiers, and then a version reference or none
abbrev pub reference : List ℕ → PlainDatum → Option ImportSet
reference file d = given (proper_elements d) (λ ds. referred (datum_place file d) (leading ds) (version_reference (behind ds)))

abbrev pub with_step : ImportSet → ImportStep → ImportSet
with_step s e = record { library = s.library; version = s.version; place = s.place; steps = s.steps ++ e ∷ [] }

abbrev pub stepped : List ℕ → StepWord → Option ImportSet → List PlainDatum → Option ImportSet
stepped file w inner [] = None
stepped file w inner (d ∷ ds) = given inner (λ s. option_map (with_step s) (step_of file w ds))

abbrev pub only_reference : List ℕ → List PlainDatum → Option ImportSet
only_reference file [] = None
only_reference file (d ∷ []) = reference file d
only_reference file (d ∷ e ∷ ds) = None

-- by the word that a set begins with: the whole, what stands behind the word, and the set that stands there
abbrev pub worded : List ℕ → PlainDatum → List PlainDatum → Option ImportSet → Option SetWord → Option ImportSet
worded file whole ds inner None = reference file whole
worded file whole ds inner (Some set.For) = None
worded file whole ds inner (Some set.Library) = only_reference file ds
worded file whole ds inner (Some (set.Step w)) = stepped file w inner ds

abbrev mutual
  pub import_set : List ℕ → PlainDatum → Option ImportSet
  import_set file (atom s a) = None
  import_set file (symbol s x) = None
  import_set file (pair s d e) = given (proper_elements e) (λ ds. worded file (pair s d e) ds (inner_set file e) (set_word d))
  import_set file (vector s d) = None

  -- the set that stands first
  pub inner_set : List ℕ → PlainDatum → Option ImportSet
  inner_set file (atom s a) = None
  inner_set file (symbol s x) = None
  inner_set file (pair s d e) = import_set file d
  inner_set file (vector s d) = None

abbrev pub is_int : PlainDatum → Bool
is_int d = is_some (int_of d)

abbrev pub is_meta : List PlainDatum → Bool
is_meta [] = false
is_meta (d ∷ []) = false
is_meta (d ∷ e ∷ []) = if is_word (codes "meta") d then is_int e else false
is_meta (d ∷ e ∷ f ∷ ds) = false

abbrev pub is_meta_list : Option (List PlainDatum) → Bool
is_meta_list None = false
is_meta_list (Some ds) = is_meta ds

-- a level is `run`, `expand` or `(meta N)`
abbrev pub is_level : PlainDatum → Bool
is_level d = if is_word (codes "run") d then true else if is_word (codes "expand") d then true else is_meta_list (proper_elements d)

abbrev pub are_levels : List PlainDatum → Bool
are_levels [] = true
are_levels (d ∷ ds) = if is_level d then are_levels ds else false

abbrev pub import_of : List ℕ → PlainDatum → Option Import
import_of file d = option_map (λ s. record { set = s; span = datum_place file d }) (import_set file d)

-- a set with the levels behind it
abbrev pub import_for : List ℕ → List PlainDatum → Option Import
import_for file [] = None
import_for file (d ∷ ds) = if are_levels ds then import_of file d else None

abbrev pub import_in : List ℕ → PlainDatum → List PlainDatum → Option Import
import_in file whole [] = None
import_in file whole (d ∷ ds) = if is_word (codes "for") d then import_for file ds else import_of file whole

-- an import spec is a set, or `for` with a set and levels
abbrev pub import_spec : List ℕ → PlainDatum → Option Import
import_spec file d = given (proper_elements d) (import_in file d)
