-- What stands among the items of lists, and what holds of each.
use Rattle.std.proofs.Common.{◌≡◌, Bool, true, false, cond, ◌∙◌, List, [], ◌∷◌, ◌++◌, refl, sym, subst, inl, inr}
use Rattle.std.specs.Prelude.{IsTrue}
use Rattle.base_data.proofs.ElementLemmas.{among-second}
use Rattle.base_data.specs.Elements.{Among, Once}
use Rattle.base_data.specs.declared.name.Label.{Label}
use Rattle.core_language.specs.Labels.{same_label}
use Rattle.law_core.proofs.Decisions.{label_decides}
use Rattle.law_whole.specs.Ready.{is_one_of}

-- what stands among the first doesn't stand among the second
pub once_apart : {A : Type 0} (xs ys : List A) (x : A) → Once (xs ++ ys) → Among xs x → Among ys x → ⊥
once_apart [] ys x h a b = absurd a
once_apart (y ∷ xs) ys x h (inl e) b = h.0 (among-second xs ys y (subst (Among ys) e b))
once_apart (y ∷ xs) ys x h (inr a) b = once_apart xs ys x h.1 a b

-- The test of the same.

pub no_truth : false ≡ true → ⊥
no_truth h = cc

pub one_of : (ls : List Label) (l : Label) → Among ls l → IsTrue (is_one_of ls l)
one_of [] l a = absurd a
one_of (m ∷ ls) l a = by_own (same_label l m) refl (one_of ls l) a
  where
    by_own : (t : Bool) → same_label l m ≡ t → (Among ls l → IsTrue (is_one_of ls l)) → Among (m ∷ ls) l → IsTrue (cond t true (is_one_of ls l))
    by_own true e again b = refl
    by_own false e again (inl h) = absurd (no_truth (sym e ∙ (label_decides l m).1 h))
    by_own false e again (inr b) = again b
