-- What stands among lists, each once.
use Rattle.std.proofs.Common.{◌≡◌, Bool, true, false, List, [], ◌∷◌, map, Some, None, refl, sym, ◌∙◌, ap, subst, inl, inr, if◌then◌else◌}
use Rattle.std.specs.Map.{lookup}
use Rattle.indexmap.specs.IndexMap.{insert_entry}
use Rattle.base_data.proofs.ElementLemmas.{among-map}
use Rattle.base_data.specs.Elements.{Among, Once}
use Rattle.base_data.specs.declared.name.Label.{Label}
use Rattle.core_language.specs.Labels.{same_label}
use Rattle.law_core.proofs.Decisions.{label_decides}

-- and images that stand once tell what they are of
pub map-once : {A B : Type 0} (g : A → B) (xs : List A) (x y : A) → Once (map g xs) → Among xs x → Among xs y → g x ≡ g y → x ≡ y
map-once g [] x y once a b e = elim a [ ]
map-once g (z ∷ xs) x y once (inl d) (inl k) e = d ∙ sym k
map-once g (z ∷ xs) x y once (inl d) (inr b) e = absurd (once.0 (subst (Among (map g xs)) (sym e ∙ ap g d) (among-map g xs y b)))
map-once g (z ∷ xs) x y once (inr a) (inl k) e = absurd (once.0 (subst (Among (map g xs)) (e ∙ ap g k) (among-map g xs x a)))
map-once g (z ∷ xs) x y once (inr a) (inr b) e = map-once g xs x y once.1 a b e

-- what is found stands there
pub found-among : {B : Type 0} (es : List (Label × B)) (l : Label) (b : B) → lookup (same_label l) es ≡ Some b → Among es (l, b)
found-among [] l b e = absurd (cc)
found-among {B} (x ∷ es) l b e = by (same_label l x.0) refl e (found-among es l b)
  where
    by : (t : Bool) → same_label l x.0 ≡ t → (if t then Some x.1 else lookup (same_label l) es) ≡ Some b → (lookup (same_label l) es ≡ Some b → Among es (l, b)) → Among (x ∷ es) (l, b)
    by true is k rest = let d : x.1 ≡ b = cc in let m = (label_decides l x.0).0 is in inl (λ i. (m i, sym d i))
    by false is k rest = inr (rest k)

-- a row of a table, where one is put
pub found-put : {B : Type 0} (es : List (Label × B)) (l : Label) (k : B) → lookup (same_label l) (insert_entry same_label es l k) ≡ Some k
found-put [] l k = ap (λ (b : Bool). if b then Some k else None) ((label_decides l l).1 refl)
found-put {B} (x ∷ es) l k = go (same_label l x.0) refl (found-put es l k)
  where
    go : (a : Bool) → same_label l x.0 ≡ a → lookup (same_label l) (insert_entry same_label es l k) ≡ Some k
        → lookup (same_label l) (if a then (x.0, k) ∷ es else x ∷ insert_entry same_label es l k) ≡ Some k
    go true e rest = ap (λ (b : Bool). if b then Some k else lookup (same_label l) es) e
    go false e rest = ap (λ (b : Bool). if b then Some x.1 else lookup (same_label l) (insert_entry same_label es l k)) e ∙ rest

-- and the others, which stay
pub found-kept : {B : Type 0} (es : List (Label × B)) (l m : Label) (k : B) → (m ≡ l → ⊥) → lookup (same_label m) (insert_entry same_label es l k) ≡ lookup (same_label m) es
found-kept [] l m k d = by (same_label m l) refl
  where
    by : (b : Bool) → same_label m l ≡ b → (if b then Some k else None) ≡ None
    by true e = absurd (d ((label_decides m l).0 e))
    by false e = refl
found-kept {B} (x ∷ es) l m k d = go (same_label l x.0) refl (found-kept es l m k d)
  where
    here : x.0 ≡ l → (b : Bool) → same_label m x.0 ≡ b → (if b then Some k else lookup (same_label m) es) ≡ (if b then Some x.1 else lookup (same_label m) es)
    here is true e = absurd (d ((label_decides m x.0).0 e ∙ is))
    here is false e = refl

    behind : (b : Bool) → lookup (same_label m) (insert_entry same_label es l k) ≡ lookup (same_label m) es
        → (if b then Some x.1 else lookup (same_label m) (insert_entry same_label es l k)) ≡ (if b then Some x.1 else lookup (same_label m) es)
    behind true rest = refl
    behind false rest = rest

    go : (a : Bool) → same_label l x.0 ≡ a → lookup (same_label m) (insert_entry same_label es l k) ≡ lookup (same_label m) es
        → lookup (same_label m) (if a then (x.0, k) ∷ es else x ∷ insert_entry same_label es l k) ≡ lookup (same_label m) (x ∷ es)
    go true e rest = here (sym ((label_decides l x.0).0 e)) (same_label m x.0) refl
    go false e rest = behind (same_label m x.0) rest
