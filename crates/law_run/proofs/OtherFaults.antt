-- No expansion of a library or program gets stuck, from its imports and forms to its record.
use Rattle.std.proofs.Common.{ℕ, Bool, true, false, List, [], ◌∷◌, ◌++◌, Option, Some, None, Result, Ok, Err, subst, inl, inr, if◌then◌else◌}
use Rattle.std.specs.Prelude.{is_some}
use Rattle.base_data.specs.Datum.{PlainDatum}
use Rattle.base_data.specs.Gives.{◌>>=◌}
use Rattle.base_data.specs.declared.fault.Bare.{Bare}
use Rattle.base_data.specs.declared.fault.Fault.{Fault}
use Rattle.base_data.specs.declared.fault.FaultKind.{FaultKind}
use Rattle.base_data.specs.declared.fault.FaultKind.TheVariants as kind
use Rattle.base_data.specs.declared.library.LibName.TheVariants as library
use Rattle.base_data.specs.declared.span.Span.{Span}
use Rattle.load_builtin.specs.Exports.{exports}
use Rattle.load_builtin.specs.declared.derived.TheConstants.{DERIVED_SOURCE}
use Rattle.core_language.specs.declared.record.CompiledLibrary.{CompiledLibrary}
use Rattle.run_derived.specs.Derived as derived_forms
use Rattle.run_derived.specs.Derived.{forms_of, record_of, derived_record, derived_body}
use Rattle.run_derived.specs.Names.{path, start, names}
use Rattle.eval_code.specs.Codes.{Codes}
use Rattle.expand_forms.specs.Expanding.{ready, library_record}
use Rattle.law_expand.specs.Ready.{IsReady}
use Rattle.load_forms.specs.Version.{version_fits}
use Rattle.load_forms.specs.declared.form.LibraryForm.{LibraryForm}
use Rattle.load_forms.specs.declared.set.Import.{Import}
use Rattle.load_import.specs.Names.{Labelled, import_names, joined}
use Rattle.load_import.specs.Turns.{turns}
use Rattle.load_import.specs.declared.set.ImportSet.{ImportSet}
use Rattle.run_library.specs.Imports.{named, record_referred, referred, refer, exported, import_into, form_names}
use Rattle.run_library.specs.Library.{placed, tree_at, trees_at, expander_of, expand_library, body_with}
use Rattle.load_files.specs.Load.{fitting, builtin_version}
use Rattle.run_prelude.specs.Prelude.{at_place}
use Rattle.read_reader.specs.Read.{data_of, file_nesting}
use Rattle.stx_tree.specs.Context.{blank}
use Rattle.stx_tree.specs.Leaves.{tree_of}
use Rattle.stx_tree.specs.Measures.{fits, too_deep, within}
use Rattle.stx_tree.specs.Tree.{Tree}
use Rattle.law_kinds.specs.Kinds.{IsOfReading, IsOfForms, IsOfReferences, IsOfImports, IsOfLoading, Tells}
use Rattle.law_kinds.proofs.Tells.{tells-if, tells-then, tells-less, tells-turns}
use Rattle.law_kinds.proofs.Imports.{imports-tell, joins-tell}
use Rattle.law_kinds.proofs.Reading.{reading-tells}
use Rattle.law_stuck.specs.Behind.{IsOfTexts, AllBehind}
use Rattle.law_stuck.specs.Kinds.{NotStuck}
use Rattle.law_steady.specs.Libraries.{AreTexts, IsNotStuck}
use Rattle.law_steady.proofs.Libraries.{expansions_never_stuck}
use Rattle.law_run.specs.Stuck.{IsOther}

-- the codes of the texts of the prelude make a whole world, or one of the texts is at fault in another way
abbrev pub AreRead : Result Codes Fault → Type 0
AreRead (Ok codes) = AreTexts codes
AreRead (Err f) = IsOther f.kind

-- ---- kinds

pub other-reading : (k : FaultKind) → IsOfReading k → IsOther k
other-reading k h e = subst IsOfReading e h

pub other-imports : (k : FaultKind) → IsOfImports k → IsOther k
other-imports k h e = subst IsOfImports e h

pub other-loading : (k : FaultKind) → IsOfLoading k → IsOther k
other-loading k (inl h) e = subst IsOfReading e h
other-loading k (inr (inl h)) e = subst IsOfForms e h
other-loading k (inr (inr h)) e = subst IsOfReferences e h

not-stuck : {A : Type 0} (r : Result A Fault) → IsNotStuck r → Tells IsOther r
not-stuck (Ok x) h = tt
not-stuck (Err f) h = λ e. subst NotStuck e h

pub o-then : {A B : Type 0} (r : Result A Fault) (go : A → Result B Fault) → Tells IsOther r → ((x : A) → Tells IsOther (go x)) → Tells IsOther (r >>= go)
o-then r go h k = tells-then IsOther r go h k

pub o-if : {A : Type 0} (b : Bool) (x y : Result A Fault) → Tells IsOther x → Tells IsOther y → Tells IsOther (if b then x else y)
o-if b x y h k = tells-if IsOther b x y h k

version-other : IsOther kind.VersionRefused
version-other e = absurd (cc)

library-found-other : IsOther kind.LibraryNotFound
library-found-other e = absurd (cc)

deep-other : IsOther kind.TooDeep
deep-other e = absurd (cc)

pub syntax-other : IsOther kind.SyntaxInRunCode
syntax-other e = absurd (cc)

-- ---- the names that a form imports

fitting-other : {A : Type 0} (version : List ℕ) (set : ImportSet) (x : A) → Tells IsOther (fitting version set x)
fitting-other version set x = o-if (version_fits version set.version) _ _ tt version-other

refer-other : (records : List CompiledLibrary) (set : ImportSet) → Tells IsOther (referred records set)
refer-other records set = o-if (is_some (exports set.library)) _ _ (fitting-other builtin_version set tt) (by (named set.library records))
  where
    by : (o : Option CompiledLibrary) → Tells IsOther (record_referred set o)
    by None = library-found-other
    by (Some r) = fitting-other r.version set tt

import-other : (records : List CompiledLibrary) (names : Labelled) (i : Import) → Tells IsOther (import_into records names i)
import-other records names i =
    let es = exported records i.set.library in
    o-then (import_names i.set i.span es) (λ more. joined i.span names more) (tells-less IsOfImports IsOther other-imports (import_names i.set i.span es) (imports-tell i.set i.span es))
    (λ more. tells-less IsOfImports IsOther other-imports (joined i.span names more) (joins-tell i.span names more))

names-other : (records : List CompiledLibrary) (is : List Import) → Tells IsOther (form_names records is)
unfolding form_names
names-other records is =
    o-then (turns (refer records) tt is) (λ done. turns (import_into records) [] is) (tells-turns IsOther (refer records) (λ s i. refer-other records i.set) tt is)
    (λ done. tells-turns IsOther (import_into records) (import-other records) [] is)

-- ---- the forms of a body

abbrev BareOther : Result Tree Bare → Type 0
BareOther (Ok t) = Unit {0}
BareOther (Err b) = IsOther b.kind

within-other : (t : Tree) → BareOther (within t)
unfolding within
within-other t = by (fits t)
  where
    by : (b : Bool) → BareOther (if b then Ok t else Err too_deep)
    by true = tt
    by false = deep-other

placed-other : (place : Span) (d : PlainDatum) (r : Result Tree Bare) → BareOther r → Tells IsOther (placed place d r)
placed-other place d (Ok t) h = tt
placed-other place d (Err b) h = h

trees-other : (place : Span) (done : List Tree) (ds : List PlainDatum) → Tells IsOther (trees_at place done ds)
trees-other place done [] = tt
trees-other place done (d ∷ ds) =
    o-then (tree_at place d) (λ t. trees_at place (done ++ t ∷ []) ds) (placed-other place d (within (tree_of blank d)) (within-other (tree_of blank d))) (λ t. trees-other place (done ++ t ∷ []) ds)

-- ---- a library or a program

module _ (prelude : Result Codes Fault) (read : AreRead prelude) (records : List CompiledLibrary) (all : AllBehind [] records) (form : LibraryForm) (is_ready : IsReady form.name records)
    (no_text : IsOfTexts form.name → ⊥) (path : List ℕ) where
  pub library-other : (body : List PlainDatum) → Tells IsOther (expand_library prelude records path form body)
  unfolding expand_library
  library-other body =
      o-then (form_names records form.imports) _ (names-other records form.imports)
      (λ names. o-then (trees_at form.name_span [] body) _ (trees-other form.name_span [] body) (λ forms. by names forms prelude read))
    where
      by : (names : Labelled) (forms : List Tree) (x : Result Codes Fault) → AreRead x
          → Tells IsOther (expander_of x form.name records names >>= (λ e. library_record e records (body_with path form forms)))
      by names forms (Err f) h = h
      by names forms (Ok codes) h =
          not-stuck (library_record (ready form.name records names codes) records (body_with path form forms))
          (expansions_never_stuck form.name records names (body_with path form forms) codes is_ready all no_text h)

-- ---- the derived library

first-other : (place : Span) (r : Result Tree Bare) → BareOther r → Tells IsOther (at_place place r)
first-other place (Ok t) h = tt
first-other place (Err b) h = h

derived-trees : (done : List Tree) (ds : List PlainDatum) → Tells IsOther (derived_forms.trees done ds)
derived-trees done [] = tt
derived-trees done (d ∷ ds) = o-then (derived_forms.tree_at d) (λ t. derived_forms.trees (done ++ t ∷ []) ds) (first-other start (within (tree_of blank d)) (within-other (tree_of blank d))) (λ t. derived-trees (done ++ t ∷ []) ds)

derived-forms : (text : List ℕ) → Tells IsOther (forms_of text)
unfolding forms_of
derived-forms text =
    o-then (data_of path text file_nesting) (derived_forms.trees []) (tells-less IsOfReading IsOther other-reading (data_of path text file_nesting) (reading-tells path text file_nesting)) (derived-trees [])

derived-no-text : IsOfTexts library.Derived → ⊥
derived-no-text (inl e) = absurd (cc)
derived-no-text (inr e) = absurd (cc)

record-other : (codes : Codes) (forms : List Tree) → AreTexts codes → Tells IsOther (record_of codes forms)
unfolding record_of
record-other codes forms texts =
    not-stuck (library_record (ready library.Derived [] names codes) [] (derived_body forms))
    (expansions_never_stuck library.Derived [] names (derived_body forms) codes (record { new = λ a. elim a [ ]; earlier = tt }) tt derived-no-text texts)

pub derived-other : (prelude : Result Codes Fault) → AreRead prelude → Tells IsOther (derived_record prelude)
unfolding derived_record
derived-other prelude read = o-then (forms_of DERIVED_SOURCE.now) _ (derived-forms DERIVED_SOURCE.now) (λ forms. by forms prelude read)
  where
    by : (forms : List Tree) (x : Result Codes Fault) → AreRead x → Tells IsOther (x >>= (λ codes. record_of codes forms))
    by forms (Err f) h = h
    by forms (Ok codes) h = record-other codes forms h
