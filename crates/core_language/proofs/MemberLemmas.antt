-- Which labels are among those that were added.
use Rattle.std.proofs.Common.{◌≡◌, Bool, true, false, List, [], ◌∷◌, ◌++◌, length, arith, append_assoc, append-nil, refl, sym, ap, ◌∙◌}
use Rattle.std.specs.Prelude.{◌||◌, not, filter, if◌then◌else◌}
use Rattle.std.specs.List.{list_any}
use Rattle.base_data.specs.Named.{Named}
use Rattle.base_data.specs.Same.{same_name_cases, same_name_equiv}
use Rattle.base_data.specs.declared.name.Label.{Label}
use Rattle.core_language.specs.Labels.{same_label, has_label, with_label, with_labels, without}

or_false : (b : Bool) → (b || false) ≡ b
or_false true = refl
or_false false = refl

or_assoc : (a b c : Bool) → ((a || b) || c) ≡ (a || (b || c))
or_assoc true b c = refl
or_assoc false b c = refl

any_append : {A : Type 0} (p : A → Bool) (xs ys : List A) → list_any p (xs ++ ys) ≡ (list_any p xs || list_any p ys)
any_append p [] ys = refl
any_append p (x ∷ xs) ys = ap (λ b. p x || b) (any_append p xs ys) ∙ sym (or_assoc (p x) (list_any p xs) (list_any p ys))

label_by : (l m : Label) → l.0 ≡ m.0 → l ≡ m
label_by l m e = ap (λ (k : Named). let x : Label = record { 0 = k } in x) e

-- a label that is there adds nothing
has_already : (ls : List Label) (m l : Label) → has_label ls m ≡ true → has_label ls l ≡ (has_label ls l || same_label l m)
has_already ls m l h = go (same_label l m) refl
  where
    go : (s : Bool) → same_label l m ≡ s → has_label ls l ≡ (has_label ls l || s)
    go false e = sym (or_false (has_label ls l))
    go true e = let there = ap (has_label ls) (label_by l m ((same_name_cases l.0 m.0).0 e)) ∙ h in there ∙ sym (ap (λ b. b || true) there)

has_with_label : (ls : List Label) (m l : Label) → has_label (with_label ls m) l ≡ (has_label ls l || same_label l m)
has_with_label ls m l = go (has_label ls m) refl
  where
    go : (b : Bool) → has_label ls m ≡ b → has_label (if b then ls else ls ++ m ∷ []) l ≡ (has_label ls l || same_label l m)
    go true h = has_already ls m l h
    go false h = any_append (same_label l) ls (m ∷ []) ∙ ap (λ b. has_label ls l || b) (or_false (same_label l m))

has_with_labels : (ls ms : List Label) (l : Label) → has_label (with_labels ls ms) l ≡ (has_label ls l || has_label ms l)
has_with_labels ls [] l = sym (or_false (has_label ls l))
has_with_labels ls (m ∷ ms) l =
    has_with_labels (with_label ls m) ms l ∙ ap (λ b. b || has_label ms l) (has_with_label ls m l) ∙ or_assoc (has_label ls l) (same_label l m) (has_label ms l)

-- to leave out labels, or those labels each once, is the same
pub without_each : (bs ms : List Label) → without (with_labels [] bs) ms ≡ without bs ms
without_each bs ms = ap (λ (f : Label → Bool). filter f ms) (λ i m. not (has_with_labels [] bs m i))

pub any_by_label : (ls : List Label) (l : Label) → list_any (λ m. same_label m l) ls ≡ has_label ls l
any_by_label [] l = refl
any_by_label (m ∷ ms) l = let one = same_name_equiv.symm m.0 l.0 in let others = any_by_label ms l in λ i. one i || others i

-- the first labels, and those that came later
pub has_joined : (ls ms : List Label) (l : Label) → has_label (ls ++ ms) l ≡ (has_label ls l || has_label ms l)
has_joined ls ms l = any_append (same_label l) ls ms

pub without_joined : (bs ls ms : List Label) → without bs (ls ++ ms) ≡ without bs ls ++ without bs ms
without_joined bs [] ms = refl
without_joined bs (l ∷ ls) ms = go (has_label bs l) (without_joined bs ls ms)
  where
    go : (b : Bool) → without bs (ls ++ ms) ≡ without bs ls ++ without bs ms
        → (if not b then l ∷ without bs (ls ++ ms) else without bs (ls ++ ms)) ≡ (if not b then l ∷ without bs ls else without bs ls) ++ without bs ms
    go true e = e
    go false e = ap (λ xs. l ∷ xs) e

-- a label that is among the first
pub with_first : (ls ms : List Label) (l : Label) → has_label ls l ≡ true → ls ++ ms ≡ with_label (ls ++ ms) l
with_first ls ms l h = sym (ap (λ b. if b then ls ++ ms else (ls ++ ms) ++ l ∷ []) (has_joined ls ms l ∙ ap (λ b. b || has_label ms l) h))

-- one that is new, where none came later
pub with_new : (ls ms : List Label) (l : Label) → has_label ls l ≡ false → length ms ≡ 0 → (ls ++ l ∷ []) ++ ms ≡ with_label (ls ++ ms) l
with_new ls [] l h e =
    append-nil (ls ++ l ∷ []) ∙ ap (λ xs. xs ++ l ∷ []) (sym (append-nil ls))
    ∙ sym (ap (λ b. if b then ls ++ [] else (ls ++ []) ++ l ∷ []) (has_joined ls [] l ∙ or_false (has_label ls l) ∙ h))
with_new ls (m ∷ ms) l h e = absurd (omega arith)

-- one that isn't among the first
pub with_later : (ls ms : List Label) (l : Label) → has_label ls l ≡ false → ls ++ with_label ms l ≡ with_label (ls ++ ms) l
with_later ls ms l h = go (has_label ms l) refl
  where
    joined : has_label (ls ++ ms) l ≡ has_label ms l
    joined = has_joined ls ms l ∙ ap (λ b. b || has_label ms l) h

    go : (b : Bool) → has_label ms l ≡ b → ls ++ (if b then ms else ms ++ l ∷ []) ≡ with_label (ls ++ ms) l
    go true e = sym (ap (λ b. if b then ls ++ ms else (ls ++ ms) ++ l ∷ []) (joined ∙ e))
    go false e = sym (append_assoc ls ms (l ∷ [])) ∙ sym (ap (λ b. if b then ls ++ ms else (ls ++ ms) ++ l ∷ []) (joined ∙ e))
