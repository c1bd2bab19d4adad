-- Where few frames of a library bind a symbol, its other frames find nothing.
use Rattle.std.specs.Prelude.{◌≡◌, ℕ, Bool, true, false, cond, filter, List, [], ◌∷◌, Option, None, refl}
use Rattle.std.proofs.Common.{sym, ◌∙◌, ap, subst}
use Rattle.base_data.specs.Same.{same_library}
use Rattle.base_data.specs.declared.library.LibName.{LibName}
use Rattle.base_data.specs.declared.name.FrameNo.{FrameNo}
use Rattle.base_data.specs.declared.name.Label.{Label}
use Rattle.stx_tree.specs.declared.stamp.Stamp.{Stamp}
use Rattle.stx_frames.specs.Binders.{is_among, OnlyOfLibrary}
use Rattle.stx_frames.specs.Scope.{Scope, label_at, label_by, or_else}
use Rattle.stx_object.specs.Among.{is_for}

pub few_find : (fs : Scope) (s : List ℕ) (l : LibName) (gs : List FrameNo) → OnlyOfLibrary fs s l gs → (ts : List Stamp) → label_by fs s (filter (is_for l gs) ts) ≡ label_by fs s ts
few_find fs s l gs only [] = refl
few_find fs s l gs only (t ∷ ts) = by (same_library t.frame.0.library l) refl (is_among t.frame gs) refl (few_find fs s l gs only ts)
  where
    rest : List Stamp
    rest = filter (is_for l gs) ts

    kept : label_by fs s rest ≡ label_by fs s ts → label_by fs s (t ∷ rest) ≡ label_by fs s (t ∷ ts)
    kept h = ap (or_else (label_at fs t.frame s t.marks)) h

    by : (b : Bool) → same_library t.frame.0.library l ≡ b → (a : Bool) → is_among t.frame gs ≡ a → label_by fs s rest ≡ label_by fs s ts
        → label_by fs s (cond (cond (same_library t.frame.0.library l) (is_among t.frame gs) true) (t ∷ rest) rest) ≡ label_by fs s (t ∷ ts)
    by false e a k h = ap (λ b. label_by fs s (cond (cond b (is_among t.frame gs) true) (t ∷ rest) rest)) e ∙ kept h
    by true e true k h = (λ i. label_by fs s (cond (cond (e i) (k i) true) (t ∷ rest) rest)) ∙ kept h
    by true e false k h =
        (λ i. label_by fs s (cond (cond (e i) (k i) true) (t ∷ rest) rest)) ∙ h
        ∙ sym (ap (λ o. or_else o (label_by fs s ts)) (only.none t.frame t.marks e k))

pub few_are_enough : (fs all : Scope) (s : List ℕ) (k l : LibName) (gs : List FrameNo) (ts : List Stamp) (o : Option Label) → fs ≡ all → k ≡ l → OnlyOfLibrary fs s l gs
    → o ≡ label_by all s (filter (is_for k gs) ts) → o ≡ label_by all s ts
few_are_enough fs all s k l gs ts o view lib only found =
    found ∙ ap (λ x. label_by all s (filter (is_for x gs) ts)) lib ∙ few_find all s l gs (subst (λ (x : Scope). OnlyOfLibrary x s l gs) view only) ts
