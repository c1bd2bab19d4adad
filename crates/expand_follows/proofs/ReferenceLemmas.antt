-- The libraries of labels, gathered one after another.
use Rattle.std.proofs.Common.{◌≡◌, Bool, true, false, List, [], ◌∷◌, ◌++◌, map, refl, sym, ap, ◌∙◌}
use Rattle.std.specs.Prelude.{◌||◌, if◌then◌else◌}
use Rattle.std.specs.List.{list_any}
use Rattle.base_data.specs.Same.{same_library}
use Rattle.base_data.specs.declared.library.LibName.{LibName}
use Rattle.base_data.specs.declared.name.Label.{Label}
use Rattle.law_core.specs.Follows.{joined, others, library_of}
use Rattle.law_core.specs.Words.{among}
use Rattle.core_well_made.proofs.Sets.{any_is_among}
use Rattle.expand_follows.specs.Pieces.{with_library, with_libraries}

-- a label more
library_more : (own : LibName) (found left : List LibName) (l : Label) (rest : List LibName)
    → rest ≡ (if same_library l.0.library own then left else l.0.library ∷ left) → joined (with_library own found l) left ≡ joined found rest
library_more own found left l rest is = by (same_library l.0.library own) ∙ ap (joined found) (sym is)
  where
    on : (c : Bool) → c ≡ among same_library found l.0.library → joined (if c then found else found ++ l.0.library ∷ []) left ≡ joined found (l.0.library ∷ left)
    on true e = ap (λ c. if c then joined found left else joined (found ++ l.0.library ∷ []) left) e
    on false e = ap (λ c. if c then joined found left else joined (found ++ l.0.library ∷ []) left) e

    by : (b : Bool) → joined (if b || list_any (same_library l.0.library) found then found else found ++ l.0.library ∷ []) left ≡ joined found (if b then left else l.0.library ∷ left)
    by true = refl
    by false = on (list_any (same_library l.0.library) found) (any_is_among same_library found l.0.library)

pub libraries_joined : (own : LibName) (found : List LibName) (ls : List Label) → with_libraries own found ls ≡ joined found (others own (map library_of ls))
libraries_joined own found [] = refl
libraries_joined own found (l ∷ ls) =
    libraries_joined own (with_library own found l) ls ∙ library_more own found (others own (map library_of ls)) l (others own (map library_of (l ∷ ls))) refl
