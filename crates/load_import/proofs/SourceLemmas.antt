-- Libraries that a form imports from, one put in or changed.
use Rattle.std.proofs.Common.{◌≡◌, ℕ, List, [], ◌∷◌, ◌++◌, Bool, true, false, cond, refl, sym, ap, subst, ◌∙◌}
use Rattle.std.specs.Prelude.{Option, None, Some, is_some, option_map, if◌then◌else◌}
use Rattle.std.specs.Map.{lookup, set_value}
use Rattle.std.specs.Cmp.{IsEquivalence, decided}
use Rattle.std.proofs.lemmas.Map.{lookup-set_value}
use Rattle.std.proofs.lemmas.Option.{same_Some, none-some}
use Rattle.base_data.specs.Same.{same_library, same_library_decides}
use Rattle.base_data.specs.declared.library.LibName.{LibName}
use Rattle.load_import.specs.Names.{Labelled}
use Rattle.load_import.specs.Shared.{IsEnough}
use Rattle.load_import.specs.Sources.{source_in, names_in, AreEnough}
use Rattle.load_import.specs.declared.sources.ImportSource.{ImportSource}
use Rattle.load_import.proofs.SharedLemmas.{enough_more, enough_all}

abbrev Rows : Type 0
Rows = List (LibName × ImportSource)

abbrev names_of : ImportSource → Labelled
names_of s = s.exports

-- names come: what is enough stays enough
pub sources_more : (all new tail : Labelled) (rows : Rows) → new ≡ all ++ tail → AreEnough all rows → AreEnough new rows
sources_more all new tail rows is h library s at = subst (λ n. IsEnough n s.exports s.fresh) (sym is) (enough_more all s.exports s.fresh (h library s at) tail)

-- rows in which a library has another source, or one for the first time
module _ (library : LibName) (w : ImportSource) (rows new : Rows) (is : (q : LibName) → source_in q new ≡ cond (same_library library q) (Some w) (source_in q rows)) where
  pub put_names : (q : LibName) → names_in q new ≡ (if same_library library q then Some w.exports else names_in q rows)
  put_names q = ap (option_map names_of) (is q) ∙ by (same_library library q)
    where
      by : (b : Bool) → option_map names_of (cond b (Some w) (source_in q rows)) ≡ cond b (Some w.exports) (names_in q rows)
      by true = refl
      by false = refl

  pub put_same_names : names_in library rows ≡ Some w.exports → (q : LibName) → names_in q new ≡ names_in q rows
  put_same_names had q = put_names q ∙ by (same_library library q) refl
    where
      by : (b : Bool) → same_library library q ≡ b → cond b (Some w.exports) (names_in q rows) ≡ names_in q rows
      by true h = sym had ∙ ap (λ l. names_in l rows) ((same_library_decides library q).0 h)
      by false h = refl

  pub put_enough : (all : Labelled) → AreEnough all rows → IsEnough all w.exports w.fresh → AreEnough all new
  put_enough all h enough q s at = by (same_library library q) (sym (is q) ∙ at)
    where
      by : (b : Bool) → cond b (Some w) (source_in q rows) ≡ Some s → IsEnough all s.exports s.fresh
      by true e = subst (λ (x : ImportSource). IsEnough all x.exports x.fresh) (same_Some w s e) enough
      by false e = h q s e

library_laws : IsEquivalence same_library
library_laws = decided same_library same_library_decides

one_library : (library x y : LibName) → same_library library x ≡ true → same_library library y ≡ same_library x y
one_library library x y h = ap (λ l. same_library l y) ((same_library_decides library x).0 h)

-- a source that is there, changed
pub changed : (library : LibName) (w : ImportSource) (rows : Rows) → is_some (source_in library rows) ≡ true → (q : LibName) → source_in q (set_value (same_library library) rows w) ≡ cond (same_library library q) (Some w) (source_in q rows)
changed library w rows there q = lookup-set_value library_laws (same_library library) (λ x y h. one_library library x y h) q w rows there

pub whole_enough : (all : Labelled) (w : ImportSource) → w.fresh ≡ w.exports → IsEnough all w.exports w.fresh
whole_enough all w is = subst (λ f. IsEnough all w.exports f) (sym is) (enough_all all w.exports)

-- of a source that is there so many names are enough
module _ (library : LibName) (s : ImportSource) (fresh : Labelled) (rows new : Rows) (there : source_in library rows ≡ Some s) (is : new ≡ set_value (same_library library) rows (record { exports = s.exports; fresh = fresh })) where
  abbrev now : ImportSource
  now = record { exports = s.exports; fresh = fresh }

  changes : (q : LibName) → source_in q new ≡ cond (same_library library q) (Some now) (source_in q rows)
  changes q = ap (source_in q) is ∙ changed library now rows (ap is_some there) q

  pub kept_names : (q : LibName) → names_in q new ≡ names_in q rows
  kept_names = put_same_names library now rows new changes (ap (option_map names_of) there)

  pub kept_enough : (all : Labelled) → AreEnough all rows → IsEnough all s.exports fresh → AreEnough all new
  kept_enough all h enough = put_enough library now rows new changes all h enough
