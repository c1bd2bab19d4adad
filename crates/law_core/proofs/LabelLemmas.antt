-- What stands among labels, as `has_label` finds it and `with_label` puts it.
use Rattle.std.proofs.Common.{◌≡◌, Bool, true, false, List, [], ◌∷◌, ◌++◌, refl, inl, inr}
use Rattle.std.specs.Prelude.{◌||◌, if◌then◌else◌}
use Rattle.base_data.proofs.ElementLemmas.{among-first, among-second}
use Rattle.base_data.specs.Elements.{Among}
use Rattle.base_data.specs.declared.name.Label.{Label}
use Rattle.core_language.specs.Labels.{same_label, has_label, with_label}
use Rattle.law_core.proofs.Decisions.{label_decides}

-- a label that is found among labels is one of them
pub label-there : (ls : List Label) (l : Label) → has_label ls l ≡ true → Among ls l
label-there [] l e = absurd (cc)
label-there (m ∷ ls) l e = by (same_label l m) refl e (label-there ls l)
  where
    by : (b : Bool) → same_label l m ≡ b → (b || has_label ls l) ≡ true → (has_label ls l ≡ true → Among ls l) → Among (m ∷ ls) l
    by true is k later = inl ((label_decides l m).0 is)
    by false is k later = inr (later k)

pub label-put : (ls : List Label) (m : Label) → Among (with_label ls m) m
label-put ls m = by (has_label ls m) (label-there ls m)
  where
    by : (b : Bool) → (b ≡ true → Among ls m) → Among (if b then ls else ls ++ m ∷ []) m
    by true h = h refl
    by false h = among-second ls (m ∷ []) m (inl refl)

pub label-kept : (ls : List Label) (m l : Label) → Among ls l → Among (with_label ls m) l
label-kept ls m l a = by (has_label ls m)
  where
    by : (b : Bool) → Among (if b then ls else ls ++ m ∷ []) l
    by true = a
    by false = among-first ls (m ∷ []) l a
