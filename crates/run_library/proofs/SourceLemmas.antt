-- The names of libraries, listed once for all imports of a form.
use Rattle.std.proofs.Common.{◌≡◌, List, [], ◌∷◌, Bool, true, false, cond, refl, sym, ap, subst, ◌∙◌, true≢false}
use Rattle.std.specs.Prelude.{Option, None, Some, is_some, option_map, Result, Ok, Err, OnOk, if◌then◌else◌}
use Rattle.std.proofs.lemmas.Option.{same_Some, none-some}
use Rattle.base_data.specs.Gives.{Stops, Gives, ◌>>=◌}
use Rattle.base_data.specs.Same.{same_library, same_library_decides}
use Rattle.base_data.specs.declared.fault.Fault.{Fault}
use Rattle.base_data.specs.declared.fault.Stop.{Stop}
use Rattle.base_data.specs.declared.fault.Stop.TheVariants as stops
use Rattle.base_data.specs.declared.library.LibName.{LibName}
use Rattle.base_data.specs.declared.span.Span.{Span}
use Rattle.core_language.specs.declared.record.CompiledLibrary.{CompiledLibrary}
use Rattle.load_forms.specs.declared.set.Import.{Import}
use Rattle.load_import.specs.Names.{Labelled, joined, step_names}
use Rattle.load_import.specs.Shared.{steps_joined}
use Rattle.load_import.specs.Sources.{names_in, source_in, AreEnough}
use Rattle.load_import.specs.Turns.{turns}
use Rattle.load_import.specs.declared.sources.ImportSource.{ImportSource}
use Rattle.load_import.proofs.SharedLemmas.{joined_at}
use Rattle.run_library.specs.Imports.{exported, import_into}
use Rattle.run_library.specs.Listed.{AreListed}

pub no_names : (records : List CompiledLibrary) → AreListed records []
no_names records library names at span = absurd (none-some names at)

pub none_enough : (all : Labelled) → AreEnough all []
none_enough all library s at = absurd (none-some s at)

-- one library more is listed
pub listed_more : (records : List CompiledLibrary) (library : LibName) (names : Labelled) (span : Span) (rows new : List (LibName × ImportSource))
    → ((l : LibName) → names_in l new ≡ (if same_library library l then Some names else names_in l rows)) → joined span [] (exported records library) ≡ Ok names → AreListed records rows → AreListed records new
listed_more records library names span rows new is here h l ns at other = by (same_library library l) refl (sym (is l) ∙ at)
  where
    by : (b : Bool) → same_library library l ≡ b → cond b (Some names) (names_in l rows) ≡ Some ns → joined other [] (exported records l) ≡ Ok ns
    by true same e =
        ap (λ n. joined other [] (exported records n)) (sym ((same_library_decides library l).0 same))
        ∙ joined_at span other (exported records library) [] names here ∙ ap Ok (same_Some names ns e)
    by false same e = h l ns e other

pub listed_same : (records : List CompiledLibrary) (rows new : List (LibName × ImportSource)) → ((l : LibName) → names_in l new ≡ names_in l rows) → AreListed records rows → AreListed records new
listed_same records rows new is h l ns at = h l ns (sym (is l) ∙ at)

-- an import set of a library that is listed
pub import_by : (records : List CompiledLibrary) (all names : Labelled) (import : Import) → joined import.span [] (exported records import.set.library) ≡ Ok names
    → steps_joined import.span all names import.set.steps ≡ import_into records all import
import_by records all names import h = sym (ap (λ r. (r >>= (λ ns. turns (step_names import.span) ns import.set.steps)) >>= joined import.span all) h)

pub import_stops : (stop : Stop) (records : List CompiledLibrary) (all : Labelled) (import : Import) → Stops stop (joined import.span [] (exported records import.set.library)) → Stops stop (import_into records all import)
import_stops stops.Memory records all import h = tt
import_stops (stops.Fault f) records all import h = ap (λ r. (r >>= (λ ns. turns (step_names import.span) ns import.set.steps)) >>= joined import.span all) h

pub import_gives : (records : List CompiledLibrary) (rows : List (LibName × ImportSource)) (all new : Labelled) (import : Import) (r : Result (Unit {0}) Stop)
    → AreListed records rows → is_some (names_in import.set.library rows) ≡ true
    → ((names : Labelled) → names_in import.set.library rows ≡ Some names → Gives (λ _. new) r (steps_joined import.span all names import.set.steps)) → Gives (λ _. new) r (import_into records all import)
import_gives records rows all new import r listed there given = by (names_in import.set.library rows) refl there
  where
    by : (o : Option Labelled) → names_in import.set.library rows ≡ o → is_some o ≡ true → Gives (λ _. new) r (import_into records all import)
    by None at h = absurd (true≢false (sym h))
    by (Some names) at h = subst (Gives (λ _. new) r) (import_by records all names import (listed import.set.library names at import.span)) (given names at)

pub on_ok : {P Q : Type 0} (r : Result (Unit {0}) Stop) → (P → Q) → OnOk r P → OnOk r Q
on_ok (Ok x) f h = f h
on_ok (Err e) f h = tt

pub names_there : (library : LibName) (rows : List (LibName × ImportSource)) → is_some (source_in library rows) ≡ true → is_some (names_in library rows) ≡ true
names_there library rows h = by (source_in library rows) h
  where
    by : (o : Option ImportSource) → is_some o ≡ true → is_some (option_map (λ (s : ImportSource). s.exports) o) ≡ true
    by None h = h
    by (Some s) h = refl

pub there_now : (name library : LibName) (names : Labelled) (rows new : List (LibName × ImportSource)) → ((l : LibName) → names_in l new ≡ (if same_library name l then Some names else names_in l rows)) → name ≡ library
    → is_some (names_in library new) ≡ true
there_now name library names rows new is same = ap is_some (is library ∙ ap (λ b. cond b (Some names) (names_in library rows)) ((same_library_decides name library).1 same))
