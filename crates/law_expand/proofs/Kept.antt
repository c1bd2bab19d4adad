-- What is known of keywords on a stage.
use Rattle.std.proofs.Common.{◌≡◌, Bool, true, false, List, [], ◌∷◌, Some, None, refl, sym, ◌∙◌, ap, if◌then◌else◌}
use Rattle.std.specs.Prelude.{cond}
use Rattle.indexmap.specs.IndexMap.{insert_entry}
use Rattle.base_data.specs.declared.name.Label.{Label}
use Rattle.core_language.specs.Labels.{same_label}
use Rattle.law_core.proofs.Decisions.{label_decides}
use Rattle.eval_stage.specs.Stage.{keyword_at}
use Rattle.eval_stage.specs.declared.keyword.Keyword.{Keyword}

-- what is put down of one keyword is known of it
pub found-same : (ks : List (Label × Keyword)) (l : Label) (k : Keyword) → keyword_at (insert_entry same_label ks l k) l ≡ Some k
found-same [] l k = ap (λ b. cond b (Some k) None) ((label_decides l l).1 refl)
found-same (x ∷ xs) l k = go (same_label l x.0) refl (found-same xs l k)
  where
    go : (a : Bool) → same_label l x.0 ≡ a → keyword_at (insert_entry same_label xs l k) l ≡ Some k → keyword_at (if a then (x.0, k) ∷ xs else x ∷ insert_entry same_label xs l k) l ≡ Some k
    go true e rest = ap (λ b. cond b (Some k) (keyword_at xs l)) e
    go false e rest = ap (λ b. cond b (Some x.1) (keyword_at (insert_entry same_label xs l k) l)) e ∙ rest

-- and changes nothing of others
pub found-other : (ks : List (Label × Keyword)) (l m : Label) (k : Keyword) → (m ≡ l → ⊥) → keyword_at (insert_entry same_label ks l k) m ≡ keyword_at ks m
found-other [] l m k d = by (same_label m l) refl
  where
    by : (b : Bool) → same_label m l ≡ b → cond b (Some k) None ≡ None
    by true e = absurd (d ((label_decides m l).0 e))
    by false e = refl
found-other (x ∷ xs) l m k d = go (same_label l x.0) refl (found-other xs l m k d)
  where
    here : x.0 ≡ l → (b : Bool) → same_label m x.0 ≡ b → cond b (Some k) (keyword_at xs m) ≡ cond b (Some x.1) (keyword_at xs m)
    here is true e = absurd (d ((label_decides m x.0).0 e ∙ is))
    here is false e = refl

    behind : (b : Bool) → keyword_at (insert_entry same_label xs l k) m ≡ keyword_at xs m → cond b (Some x.1) (keyword_at (insert_entry same_label xs l k) m) ≡ cond b (Some x.1) (keyword_at xs m)
    behind true rest = refl
    behind false rest = rest

    go : (a : Bool) → same_label l x.0 ≡ a → keyword_at (insert_entry same_label xs l k) m ≡ keyword_at xs m → keyword_at (if a then (x.0, k) ∷ xs else x ∷ insert_entry same_label xs l k) m ≡ keyword_at (x ∷ xs) m
    go true e rest = here (sym ((label_decides l x.0).0 e)) (same_label m x.0) refl
    go false e rest = behind (same_label m x.0) rest
