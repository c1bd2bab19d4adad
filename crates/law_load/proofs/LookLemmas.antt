-- Looking for a file adds paths where none is, and finds what the files hold.
use Rattle.std.proofs.Common.{◌≡◌, ℕ, zero, suc, Bool, true, false, List, [], ◌∷◌, ◌++◌, length, Option, Some, None, refl, sym, ap, ◌∙◌, append_assoc}
use Rattle.std.specs.Prelude.{slice_get, nat_lt, if◌then◌else◌}
use Rattle.std.proofs.lemmas.List.{append-nil}
use Rattle.base_outside.specs.Contents.{Paths, at_path, bytes, longer, read_of}
use Rattle.load_files.specs.Found.{absent_at}
use Rattle.load_files.specs.Load.{sought_at, look_for}
use Rattle.load_files.specs.declared.found.Source.{Source}
use Rattle.load_files.specs.declared.search.Sought.{Sought}
use Rattle.load_files.specs.declared.search.Sought.TheVariants as sought

abbrev pub AreAbsent : Paths → List Source → Type 0
AreAbsent files sources = (i : ℕ) (a : Source) → slice_get sources i ≡ Some a → (a.held ≡ None) × (at_path files a.path ≡ None)

abbrev pub IsThere : Paths → Sought → Type 0
IsThere files (sought.Bytes path held) = at_path files path ≡ Some held
IsThere files (sought.Longer path) = Unit {0}
IsThere files sought.Nowhere = Unit {0}

pub record Looked (files : Paths) (sources : List Source) (r : List Source × Sought) : Type 0 where
  pub more : List Source
  pub added : r.0 ≡ sources ++ more
  pub absent : AreAbsent files more
  pub there : IsThere files r.1

module _ (files : Paths) (max : ℕ) (file : List ℕ) where
  pub looks : (sources : List Source) (roots : List (List ℕ)) → Looked files sources (look_for files max file sources roots)
  unfolding look_for
  looks sources [] = record { more = []; added = sym (append-nil sources); absent = λ i a h. absurd (cc); there = tt }
  looks sources (root ∷ roots) = by (at_path files (root ++ file)) refl (looks (sources ++ absent_at (root ++ file) ∷ []) roots)
    where
      no_file : at_path files (root ++ file) ≡ None → (rest : List Source) → AreAbsent files rest → AreAbsent files (absent_at (root ++ file) ∷ rest)
      no_file e rest h zero a at = let same : absent_at (root ++ file) ≡ a = cc in (ap (λ (x : Source). x.held) (sym same), ap (λ (x : Source). at_path files x.path) (sym same) ∙ e)
      no_file e rest h (suc i) a at = h i a at

      by_length : (held : List ℕ) (b : Bool) → at_path files (root ++ file) ≡ Some held
          → Looked files sources (sought_at (root ++ file) sources (look_for files max file (sources ++ absent_at (root ++ file) ∷ []) roots) (if b then longer else bytes held))
      by_length held true e = record { more = []; added = sym (append-nil sources); absent = λ i a h. absurd (cc); there = tt }
      by_length held false e = record { more = []; added = sym (append-nil sources); absent = λ i a h. absurd (cc); there = e }

      by : (o : Option (List ℕ)) → at_path files (root ++ file) ≡ o → Looked files (sources ++ absent_at (root ++ file) ∷ []) (look_for files max file (sources ++ absent_at (root ++ file) ∷ []) roots)
          → Looked files sources (sought_at (root ++ file) sources (look_for files max file (sources ++ absent_at (root ++ file) ∷ []) roots) (read_of o max))
      by None e rest = record {
        more = absent_at (root ++ file) ∷ rest.more;
        added = rest.added ∙ append_assoc sources (absent_at (root ++ file) ∷ []) rest.more;
        absent = no_file e rest.more rest.absent;
        there = rest.there;
      }
      by (Some held) e rest = by_length held (nat_lt max (length held)) e
