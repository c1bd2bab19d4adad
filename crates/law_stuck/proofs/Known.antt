-- What is known of keywords after something was put down of one.
use Rattle.std.proofs.Common.{◌≡◌, Bool, true, false, List, [], ◌∷◌, Some, None, refl, sym, ◌∙◌, ap, inl, inr, if◌then◌else◌}
use Rattle.std.specs.Prelude.{cond, ◌⊎◌}
use Rattle.indexmap.specs.IndexMap.{insert_entry}
use Rattle.base_data.specs.declared.name.Label.{Label}
use Rattle.core_language.specs.Labels.{same_label}
use Rattle.law_core.proofs.Decisions.{label_decides}
use Rattle.eval_stage.specs.Stage.{keyword_at}
use Rattle.eval_stage.specs.declared.keyword.Keyword.{Keyword}

abbrev pub put : List (Label × Keyword) → Label → Keyword → List (Label × Keyword)
put ks l k = insert_entry same_label ks l k

pub put_same : (ks : List (Label × Keyword)) (l : Label) (k : Keyword) → keyword_at (put ks l k) l ≡ Some k
put_same [] l k = ap (λ b. cond b (Some k) None) ((label_decides l l).1 refl)
put_same (x ∷ xs) l k = go (same_label l x.0) refl (put_same xs l k)
  where
    go : (a : Bool) → same_label l x.0 ≡ a → keyword_at (put xs l k) l ≡ Some k → keyword_at (if a then (x.0, k) ∷ xs else x ∷ put xs l k) l ≡ Some k
    go true e rest = ap (λ b. cond b (Some k) (keyword_at xs l)) e
    go false e rest = ap (λ b. cond b (Some x.1) (keyword_at (put xs l k) l)) e ∙ rest

pub put_other : (ks : List (Label × Keyword)) (l m : Label) (k : Keyword) → (m ≡ l → ⊥) → keyword_at (put ks l k) m ≡ keyword_at ks m
put_other [] l m k d = by (same_label m l) refl
  where
    by : (b : Bool) → same_label m l ≡ b → cond b (Some k) None ≡ None
    by true e = absurd (d ((label_decides m l).0 e))
    by false e = refl
put_other (x ∷ xs) l m k d = go (same_label l x.0) refl (put_other xs l m k d)
  where
    here : x.0 ≡ l → (b : Bool) → same_label m x.0 ≡ b → cond b (Some k) (keyword_at xs m) ≡ cond b (Some x.1) (keyword_at xs m)
    here is true e = absurd (d ((label_decides m x.0).0 e ∙ is))
    here is false e = refl

    behind : (b : Bool) → keyword_at (put xs l k) m ≡ keyword_at xs m → cond b (Some x.1) (keyword_at (put xs l k) m) ≡ cond b (Some x.1) (keyword_at xs m)
    behind true rest = refl
    behind false rest = rest

    go : (a : Bool) → same_label l x.0 ≡ a → keyword_at (put xs l k) m ≡ keyword_at xs m → keyword_at (if a then (x.0, k) ∷ xs else x ∷ put xs l k) m ≡ keyword_at (x ∷ xs) m
    go true e rest = here (sym ((label_decides l x.0).0 e)) (same_label m x.0) refl
    go false e rest = behind (same_label m x.0) rest

-- one label is the other, or it isn't
pub label_cases : (l m : Label) → (l ≡ m) ⊎ (l ≡ m → ⊥)
label_cases l m = by (same_label l m) refl
  where
    by : (b : Bool) → same_label l m ≡ b → (l ≡ m) ⊎ (l ≡ m → ⊥)
    by true e = inl ((label_decides l m).0 e)
    by false e = inr (λ is. let yes = (label_decides l m).1 is in absurd (cc))
