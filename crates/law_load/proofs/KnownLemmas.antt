-- What is known of the library of a reference.
use Rattle.std.proofs.Common.{◌≡◌, ℕ, Bool, true, false, List, Result, Ok, Err, Option, Some, None, refl, ap}
use Rattle.std.specs.Prelude.{is_some, slice_get, if◌then◌else◌}
use Rattle.base_data.specs.declared.fault.Fault.{Fault}
use Rattle.base_data.specs.declared.fault.FaultKind.TheVariants as kind
use Rattle.load_builtin.specs.Exports.{exports}
use Rattle.load_file_names.specs.File.{file_of}
use Rattle.load_forms.specs.Version.{version_fits}
use Rattle.load_import.specs.Table.{value_of}
use Rattle.load_import.specs.declared.set.ImportSet.{ImportSet}
use Rattle.load_files.specs.Found.{is_marked, with_needs}
use Rattle.load_files.specs.Load.{about, builtin_version, fitting, joined, by_begun, by_done, known_of}
use Rattle.load_files.specs.declared.found.Found.{Found}
use Rattle.load_files.specs.declared.found.Loading.{Loading}
use Rattle.load_files.specs.declared.refer.Known.{Known}
use Rattle.load_files.specs.declared.refer.Known.TheVariants as known
use Rattle.law_load.proofs.RowLemmas.{IsNotIn}

pub record Given (set : ImportSet) : Type 0 where
  pub given : is_some (exports set.library) ≡ true
  pub fits : version_fits builtin_version set.version ≡ true

pub record Loaded (s : Loading) (needs : List Bool) (set : ImportSet) (more : List Bool) : Type 0 where
  pub not_given : is_some (exports set.library) ≡ false
  pub library : Found
  pub there : value_of (file_of set.library) s.done ≡ Some library
  pub fits : version_fits library.opened.form.version set.version ≡ true
  pub marks : with_needs needs library ≡ more

-- it is needed already
pub record Joined (s : Loading) (needs : List Bool) (set : ImportSet) : Type 0 where
  pub not_given : is_some (exports set.library) ≡ false
  pub library : Found
  pub there : value_of (file_of set.library) s.done ≡ Some library
  pub fits : version_fits library.opened.form.version set.version ≡ true
  pub marked : is_marked (slice_get needs library.place) ≡ true

pub record New (s : Loading) (set : ImportSet) : Type 0 where
  pub not_given : is_some (exports set.library) ≡ false
  pub not_done : IsNotIn s.done (file_of set.library)
  pub not_begun : IsNotIn s.begun (file_of set.library)

abbrev pub Is : Loading → List Bool → ImportSet → Known → Type 0
Is s needs set known.Builtin = Given set
Is s needs set known.Joined = Joined s needs set
Is s needs set (known.Loaded more) = Loaded s needs set more
Is s needs set known.New = New s set

pub fitted : {A : Type 0} (version : List ℕ) (set : ImportSet) (x y : A) → fitting version set x ≡ Ok y → (version_fits version set.version ≡ true) × (x ≡ y)
fitted {A} version set x y h = by (version_fits version set.version) refl h
  where
    by : (b : Bool) → version_fits version set.version ≡ b → ◌≡◌ {A = Result A Fault} (if b then Ok x else Err (about kind.VersionRefused set)) (Ok y) → (version_fits version set.version ≡ true) × (x ≡ y)
    by true e h = (e, cc)
    by false e h = absurd (cc)

module _ (s : Loading) (needs : List Bool) (set : ImportSet) where
  given : (k : Known) → is_some (exports set.library) ≡ true → fitting builtin_version set known.Builtin ≡ Ok k → Is s needs set k
  given known.Builtin e h = record { given = e; fits = (fitted builtin_version set known.Builtin known.Builtin h).0 }
  given known.Joined e h = let x = fitted builtin_version set known.Builtin known.Joined h in absurd (let y = x.1 in cc)
  given (known.Loaded more) e h = let x = fitted builtin_version set known.Builtin (known.Loaded more) h in absurd (let y = x.1 in cc)
  given known.New e h = let x = fitted builtin_version set known.Builtin known.New h in absurd (let y = x.1 in cc)

  module _ (library : Found) (e : is_some (exports set.library) ≡ false) (there : value_of (file_of set.library) s.done ≡ Some library)
      (fits : version_fits library.opened.form.version set.version ≡ true) where
    joins : (b : Bool) (k : Known) → is_marked (slice_get needs library.place) ≡ b → (if b then known.Joined else known.Loaded (with_needs needs library)) ≡ k → Is s needs set k
    joins true known.Joined m h = record { not_given = e; library = library; there = there; fits = fits; marked = m }
    joins true known.Builtin m h = absurd (cc)
    joins true (known.Loaded more) m h = absurd (cc)
    joins true known.New m h = absurd (cc)
    joins false known.Joined m h = absurd (cc)
    joins false known.Builtin m h = absurd (cc)
    joins false (known.Loaded more) m h = record { not_given = e; library = library; there = there; fits = fits; marks = cc }
    joins false known.New m h = absurd (cc)

  loaded : (k : Known) (library : Found) → is_some (exports set.library) ≡ false → value_of (file_of set.library) s.done ≡ Some library
      → fitting library.opened.form.version set (joined needs library) ≡ Ok k → Is s needs set k
  loaded k library e there h =
      let x = fitted library.opened.form.version set (joined needs library) k h in
      joins library e there x.0 (is_marked (slice_get needs library.place)) k refl x.1

  fresh : (k : Known) (b : Bool) → is_some (exports set.library) ≡ false → value_of (file_of set.library) s.done ≡ None → is_some (value_of (file_of set.library) s.begun) ≡ b
      → by_begun set b ≡ Ok k → Is s needs set k
  fresh k true e there begun h = absurd (cc)
  fresh known.Builtin false e there begun h = absurd (cc)
  fresh known.Joined false e there begun h = absurd (cc)
  fresh (known.Loaded more) false e there begun h = absurd (cc)
  fresh known.New false e there begun h = record { not_given = e; not_done = ap is_some there; not_begun = begun }

  pub known_is : (k : Known) → known_of s needs set ≡ Ok k → Is s needs set k
  unfolding known_of
  known_is k h = by (is_some (exports set.library)) refl h
    where
      by_value : (o : Option Found) → is_some (exports set.library) ≡ false → value_of (file_of set.library) s.done ≡ o → by_done s needs set o ≡ Ok k → Is s needs set k
      by_value None e there h = fresh k (is_some (value_of (file_of set.library) s.begun)) e there refl h
      by_value (Some library) e there h = loaded k library e there h

      by : (b : Bool) → is_some (exports set.library) ≡ b
          → (if b then fitting builtin_version set known.Builtin else by_done s needs set (value_of (file_of set.library) s.done)) ≡ Ok k → Is s needs set k
      by true e h = given k e h
      by false e h = by_value (value_of (file_of set.library) s.done) e refl h
