-- The names of given libraries, listed once for all forms of a run.
use Rattle.std.proofs.Common.{◌≡◌, List, [], ◌∷◌, Bool, true, false, cond, refl, sym, ap, subst, ◌∙◌, true≢false}
use Rattle.std.specs.Prelude.{Option, None, Some, is_some, Result, Ok, if◌then◌else◌}
use Rattle.std.proofs.lemmas.Option.{same_Some, none-some}
use Rattle.base_data.specs.Gives.{Gives}
use Rattle.base_data.specs.Same.{same_library, same_library_decides}
use Rattle.base_data.specs.declared.fault.Stop.{Stop}
use Rattle.base_data.specs.declared.imported_name.ImportedName.{ImportedName}
use Rattle.base_data.specs.declared.library.LibName.{LibName}
use Rattle.base_data.specs.declared.library.LibName.TheVariants as names
use Rattle.base_data.specs.declared.span.Span.{Span}
use Rattle.load_builtin.specs.Exports.{exports}
use Rattle.core_language.specs.declared.record.CompiledLibrary.{CompiledLibrary}
use Rattle.load_import.specs.Names.{Labelled, joined}
use Rattle.load_import.specs.Sources.{names_in}
use Rattle.load_import.specs.declared.sources.ImportSource.{ImportSource}
use Rattle.load_import.proofs.SharedLemmas.{joined_at}
use Rattle.run_library.specs.Given.{exports_of, names_behind, or_none, given_of, AreGiven}
use Rattle.run_library.specs.Imports.{named, given_names, record_exports, exported_by, exported}

pub none_given : (derived : Option Labelled) → AreGiven derived []
none_given derived library names at = absurd (none-some names at)

-- what a record exports is all of it that the names of given libraries stand behind
pub behind_is : (d : Option CompiledLibrary) (names : Labelled) → names_behind (exports_of d) names ≡ given_names d names
behind_is None names = refl
behind_is (Some r) names = refl

-- what is listed is what a library exports
pub given_there : (d : Option CompiledLibrary) (derived : Option Labelled) (rows : List (LibName × ImportSource)) (library : LibName) (names : Labelled) (span : Span)
    → derived ≡ exports_of d → AreGiven derived rows → Some names ≡ names_in library rows → joined span [] (given_names d (given_of library)) ≡ Ok names
given_there d derived rows library names span is given at =
    ap (joined span []) (sym (behind_is d (given_of library))) ∙ sym (ap (λ k. joined span [] (names_behind k (given_of library))) is) ∙ given library names (sym at) span

-- one library more is listed
pub given_more : (d : Option CompiledLibrary) (derived : Option Labelled) (library : LibName) (names : Labelled) (span : Span) (rows new : List (LibName × ImportSource)) → derived ≡ exports_of d
    → ((l : LibName) → names_in l new ≡ (if same_library library l then Some names else names_in l rows)) → joined span [] (given_names d (given_of library)) ≡ Ok names → AreGiven derived rows → AreGiven derived new
given_more d derived library names span rows new behind is here h l ns at other = by (same_library library l) refl (sym (is l) ∙ at)
  where
    by : (b : Bool) → same_library library l ≡ b → cond b (Some names) (names_in l rows) ≡ Some ns → joined other [] (names_behind derived (given_of l)) ≡ Ok ns
    by true same e =
        ap (λ n. joined other [] (names_behind derived (given_of n))) (sym ((same_library_decides library l).0 same))
        ∙ ap (λ k. joined other [] (names_behind k (given_of library))) behind
        ∙ ap (joined other []) (behind_is d (given_of library))
        ∙ joined_at span other (given_names d (given_of library)) [] names here ∙ ap Ok (same_Some names ns e)
    by false same e = h l ns e other

pub given_same : (derived : Option Labelled) (rows new : List (LibName × ImportSource)) → new ≡ rows → AreGiven derived rows → AreGiven derived new
given_same derived rows new is h = subst (AreGiven derived) (sym is) h

-- What a library exports that is given with the implementation, and another.

by_given : (d r : Option CompiledLibrary) (o : Option Labelled) → is_some o ≡ true → given_names d (or_none o) ≡ exported_by d r o
by_given d r None h = absurd (true≢false (sym h))
by_given d r (Some names) h = refl

by_own : (d r : Option CompiledLibrary) (o : Option Labelled) → is_some o ≡ false → record_exports r ≡ exported_by d r o
by_own d r None h = refl
by_own d r (Some names) h = absurd (true≢false h)

pub given_exported : (records : List CompiledLibrary) (library : LibName) → is_some (exports library) ≡ true → given_names (named names.Derived records) (given_of library) ≡ exported records library
given_exported records library h = by_given (named names.Derived records) (named library records) (exports library) h

pub own_exported : (records : List CompiledLibrary) (library : LibName) → is_some (exports library) ≡ false → record_exports (named library records) ≡ exported records library
own_exported records library h = by_own (named names.Derived records) (named library records) (exports library) h

pub gives_given : (records : List CompiledLibrary) (library : LibName) (span : Span) (r : Result Labelled Stop) → is_some (exports library) ≡ true
    → Gives (λ (e : Labelled). e) r (joined span [] (given_names (named names.Derived records) (given_of library))) → Gives (λ (e : Labelled). e) r (joined span [] (exported records library))
gives_given records library span r h = subst (λ ns. Gives (λ (e : Labelled). e) r (joined span [] ns)) (given_exported records library h)

pub gives_own : (records : List CompiledLibrary) (library : LibName) (span : Span) (r : Result Labelled Stop) → is_some (exports library) ≡ false
    → Gives (λ (e : Labelled). e) r (joined span [] (record_exports (named library records))) → Gives (λ (e : Labelled). e) r (joined span [] (exported records library))
gives_own records library span r h = subst (λ ns. Gives (λ (e : Labelled). e) r (joined span [] ns)) (own_exported records library h)

-- Lists of names, compared.

pub cons_same : (a b : ImportedName) (xs ys : Labelled) → a ≡ b → xs ≡ ys → a ∷ xs ≡ b ∷ ys
cons_same a b xs ys e f = λ i. e i ∷ f i
