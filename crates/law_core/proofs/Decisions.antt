-- Tests of lists and of names, and what they tell.
use Rattle.std.proofs.Common.{◌≡◌, ℕ, ◌≤◌, Bool, true, false, List, [], ◌∷◌, arith, refl, sym, ap, Option, Some, None}
use Rattle.std.specs.Prelude.{◌&&◌, not, nat_le, nat_eq}
use Rattle.std.specs.Bool.{Decides}
use Rattle.std.specs.Cmp.{unsigned_Decides}
use Rattle.std.proofs.lemmas.Bool.Decides.{Decides-and, Decides-or, Decides-not, nat_tests}
use Rattle.base_data.specs.Elements.{Each, Among, Once}
use Rattle.base_data.specs.Named.{Named}
use Rattle.base_data.specs.Same.{same_name, same_name_cases, texts_decides}
use Rattle.base_data.specs.declared.name.CodeNo.{CodeNo}
use Rattle.base_data.specs.declared.name.FrameNo.{FrameNo}
use Rattle.base_data.specs.declared.name.Label.{Label}
use Rattle.core_language.specs.Labels.{same_label}
use Rattle.stx_tree.specs.SameMarks.{same_marks, same_marks_decides}
use Rattle.law_core.specs.Words.{each, among, once}
use Rattle.law_core.specs.Templates.{same_depth}
use Rattle.law_core.specs.WellMade.{same_code}
use Rattle.law_core.specs.Records.{same_text}
use Rattle.law_core.specs.Follows.{Key, same_key, same_index}

pub each_decides : {A : Type 0} (p : A → Bool) (P : A → Type 0) → ((x : A) → Decides (p x) (P x)) → (xs : List A) → Decides (each p xs) (Each P xs)
each_decides p P h [] = (λ _. tt, λ _. refl)
each_decides p P h (x ∷ xs) = Decides-and (p x) (each p xs) (h x) (each_decides p P h xs)

no_truth : false ≡ true → ⊥
no_truth e = cc

pub among_decides : {A : Type 0} (same : A → A → Bool) → ((x y : A) → Decides (same x y) (x ≡ y)) → (ys : List A) (x : A) → Decides (among same ys x) (Among ys x)
among_decides same h [] x = (λ e. no_truth e, λ a. elim a [ ])
among_decides same h (y ∷ ys) x = Decides-or (same x y) (among same ys x) (h x y) (among_decides same h ys x)

pub once_decides : {A : Type 0} (same : A → A → Bool) → ((x y : A) → Decides (same x y) (x ≡ y)) → (xs : List A) → Decides (once same xs) (Once xs)
once_decides same h [] = (λ _. tt, λ _. refl)
once_decides same h (x ∷ xs) =
    Decides-and (not (among same xs x)) (once same xs) (Decides-not (among same xs x) (among_decides same h xs x)) (once_decides same h xs)

pub true_decides : Decides true (Unit {0})
true_decides = (λ _. tt, λ _. refl)

pub false_decides : Decides false ⊥
false_decides = (λ e. no_truth e, λ a. elim a [ ])

pub le_decides : (m n : ℕ) → Decides (nat_le m n) (m ≤ n)
le_decides m n = (λ h. grind (arith, nat_tests), λ h. grind (arith, nat_tests))

label_by : (l m : Label) → l.0 ≡ m.0 → l ≡ m
label_by l m e = ap (λ (k : Named). let x : Label = record { 0 = k } in x) e

pub label_decides : (l m : Label) → Decides (same_label l m) (l ≡ m)
label_decides l m = (λ h. label_by l m ((same_name_cases l.0 m.0).0 h), λ e. (same_name_cases l.0 m.0).1 (ap (λ (x : Label). x.0) e))

code_by : (l m : CodeNo) → l.0 ≡ m.0 → l ≡ m
code_by l m e = ap (λ (k : Named). let x : CodeNo = record { 0 = k } in x) e

pub code_decides : (l m : CodeNo) → Decides (same_code l m) (l ≡ m)
code_decides l m = (λ h. code_by l m ((same_name_cases l.0 m.0).0 h), λ e. (same_name_cases l.0 m.0).1 (ap (λ (x : CodeNo). x.0) e))

frame_by : (l m : FrameNo) → l.0 ≡ m.0 → l ≡ m
frame_by l m e = ap (λ (k : Named). let x : FrameNo = record { 0 = k } in x) e

frame_decides : (l m : FrameNo) → Decides (same_name l.0 m.0) (l ≡ m)
frame_decides l m = (λ h. frame_by l m ((same_name_cases l.0 m.0).0 h), λ e. (same_name_cases l.0 m.0).1 (ap (λ (x : FrameNo). x.0) e))

pub text_decides : (x y : List ℕ) → Decides (same_text x y) (x ≡ y)
text_decides = texts_decides

-- of pairs, by their parts
pair_decides : {A B : Type 0} (a c : A) (b d : B) (p q : Bool) → Decides p (a ≡ c) → Decides q (b ≡ d) → Decides (p && q) (◌≡◌ {A = A × B} (a, b) (c, d))
pair_decides {A} {B} a c b d p q h k =
    let both = Decides-and p q h k in
    (λ e. let r = both.0 e in λ i. (r.0 i, r.1 i), λ e. both.1 (ap (λ (x : A × B). x.0) e, ap (λ (x : A × B). x.1) e))

pub depth_decides : (a b : Label × ℕ) → Decides (same_depth a b) (a ≡ b)
depth_decides (l, m) (k, n) = pair_decides l k m n (same_label l k) (nat_eq m n) (label_decides l k) (unsigned_Decides m n)

pub key_decides : (a b : Key) → Decides (same_key a b) (a ≡ b)
key_decides (f, (x, ms)) (g, (y, ns)) =
    pair_decides f g (x, ms) (y, ns) (same_name f.0 g.0) (same_text x y && same_marks ms ns) (frame_decides f g)
    (pair_decides x y ms ns (same_text x y) (same_marks ms ns) (texts_decides x y) (same_marks_decides ms ns))

no_index : {n : ℕ} → None ≡ Some n → ⊥
no_index e = cc

pub index_decides : (a b : Option ℕ) → Decides (same_index a b) (a ≡ b)
index_decides None None = (λ _. refl, λ _. refl)
index_decides None (Some n) = (λ e. absurd (no_truth e), λ e. absurd (no_index e))
index_decides (Some m) None = (λ e. absurd (no_truth e), λ e. absurd (no_index (sym e)))
index_decides (Some m) (Some n) = (λ h. ap Some ((unsigned_Decides m n).0 h), λ e. (unsigned_Decides m n).1 (cc))
