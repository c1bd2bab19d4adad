-- References are what is mentioned and not bound, and the libraries of an expression are those of its references.
use Rattle.std.proofs.Common.{◌≡◌, Bool, true, false, List, [], ◌∷◌, ◌++◌, refl, sym, ap, subst, ◌∙◌, inl, inr}
use Rattle.std.specs.Prelude.{◌||◌, ◌⊎◌, not, if◌then◌else◌}
use Rattle.std.proofs.lemmas.List.Folds.{list_any-append}
use Rattle.base_data.specs.Elements.{Among}
use Rattle.base_data.specs.Same.{same_library, same_library_decides}
use Rattle.base_data.specs.declared.library.LibName.{LibName}
use Rattle.base_data.specs.declared.name.Label.{Label}
use Rattle.core_language.specs.Core.{PlainCore}
use Rattle.core_language.specs.Labels.{has_label, with_label, with_labels, without}
use Rattle.core_language.specs.References.{binders, mentions, references}
use Rattle.law_core.proofs.LabelLemmas.{label-put, label-kept, label-there}
use Rattle.eval_stage.specs.Libraries.{has_library, with_library, has_all, with_libraries_of, libraries_of}
use Rattle.law_stage.proofs.Growing.{has_with}
use Rattle.law_stage.proofs.Sweeping.{with_has}

-- Labels.

all_first : (ms ls : List Label) (l : Label) → Among ls l → Among (with_labels ls ms) l
all_first [] ls l a = a
all_first (m ∷ ms) ls l a = all_first ms (with_label ls m) l (label-kept ls m l a)

all_there : (ms ls : List Label) (l : Label) → Among ms l → Among (with_labels ls ms) l
all_there [] ls l a = absurd a
all_there (m ∷ ms) ls l (inl e) = all_first ms (with_label ls m) l (subst (Among (with_label ls m)) (sym e) (label-put ls m))
all_there (m ∷ ms) ls l (inr a) = all_there ms (with_label ls m) l a

left_in : (ls ms : List Label) (l : Label) → (Among ls l → ⊥) → Among ms l → Among (without ls ms) l
left_in ls [] l n a = absurd a
left_in ls (m ∷ ms) l n a = by (has_label ls m) refl a (left_in ls ms l n)
  where
    by : (b : Bool) → has_label ls m ≡ b → Among (m ∷ ms) l → (Among ms l → Among (without ls ms) l) → Among (if not b then m ∷ without ls ms else without ls ms) l
    by true h (inl e) rest = absurd (n (subst (Among ls) (sym e) (label-there ls m h)))
    by true h (inr k) rest = rest k
    by false h (inl e) rest = inl e
    by false h (inr k) rest = inr (rest k)

-- what is mentioned and not bound is a reference
pub is_reference : (c : PlainCore) (l : Label) → Among (mentions c) l → (Among (binders c) l → ⊥) → Among (references c) l
is_reference c l a n = left_in (binders c) (with_labels [] (mentions c)) l n (all_there (mentions c) [] l a)

-- Libraries.

-- what is put at the end is there, and nothing else comes
pub with_cases : (ks : List LibName) (m k : LibName) → has_library (with_library ks m) k ≡ true → (has_library ks k ≡ true) ⊎ (k ≡ m)
with_cases ks m k = go (has_library ks m)
  where
    split : (a b : Bool) → (a || (b || false)) ≡ true → same_library k m ≡ b → (a ≡ true) ⊎ (k ≡ m)
    split true b h e = inl refl
    split false true h e = inr ((same_library_decides k m).0 e)
    split false false h e = absurd (cc)

    go : (b : Bool) → has_library (if b then ks else ks ++ m ∷ []) k ≡ true → (has_library ks k ≡ true) ⊎ (k ≡ m)
    go true h = inl h
    go false h = split (has_library ks k) (same_library k m) (sym (list_any-append (same_library k) ks (m ∷ [])) ∙ h) refl

of_first : (ls : List Label) (ks : List LibName) (k : LibName) → has_library ks k ≡ true → has_library (with_libraries_of ks ls) k ≡ true
of_first [] ks k h = h
of_first (l ∷ ls) ks k h = of_first ls (with_library ks l.0.library) k (has_with ks l.0.library k h)

of_there : (ls : List Label) (ks : List LibName) (l : Label) → Among ls l → has_library (with_libraries_of ks ls) l.0.library ≡ true
of_there [] ks l a = absurd a
of_there (m ∷ ls) ks l (inl e) =
    of_first ls (with_library ks m.0.library) l.0.library (subst (λ (x : Label). has_library (with_library ks m.0.library) x.0.library ≡ true) (sym e) (with_has ks m.0.library))
of_there (m ∷ ls) ks l (inr a) = of_there ls (with_library ks m.0.library) l a

pub library_there : (c : PlainCore) (l : Label) → Among (references c) l → has_library (libraries_of c) l.0.library ≡ true
library_there c l a = of_there (references c) [] l a
