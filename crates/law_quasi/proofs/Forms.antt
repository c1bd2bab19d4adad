-- Levels of forms.
use Rattle.std.proofs.Common.{◌≡◌, ℕ, zero, suc, Bool, true, false, refl, ap, ◌∙◌, None}
use Rattle.std.specs.Prelude.{◌&&◌, if◌then◌else◌}
use Rattle.stx_tree.specs.Tree.{Tree, pair, nil}
use Rattle.core_quasi.specs.Words.{WordOf}
use Rattle.core_quasi.specs.declared.word.QuasiWord.{QuasiWord}
use Rattle.core_quasi.specs.declared.word.QuasiWord.TheVariants as word
use Rattle.law_quasi.specs.Makes.{FilledBy}
use Rattle.law_quasi.specs.Filled.{is_tail_word, filled, rest_filled, put, list_by, list_filled, form_of}

module _ (w : WordOf) (f : FilledBy) (head t : Tree) where
  -- an operand is no tail
  operand : (n m : ℕ) → rest_filled w f (pair None t nil) n m ≡ put w f m t (filled w f t m) nil
  operand n m = go (is_tail_word (w t))
    where
      go : (b : Bool) → (if b && false then list_filled w f n t nil (record { first = filled w f t; rest = rest_filled w f nil }) else put w f m t (filled w f t m) nil) ≡ put w f m t (filled w f t m) nil
      go true = refl
      go false = refl

  -- what the form is, by the word of its head
  abbrev by : ℕ → QuasiWord → Tree
  by n x = list_by w f n head (pair None t nil) (record { first = filled w f head; rest = rest_filled w f (pair None t nil) }) x

  pub raised : (n : ℕ) → w head ≡ word.Raise → filled w f (form_of head t) n ≡ form_of (filled w f head (suc n)) (filled w f t (suc n))
  raised zero h = ap (by zero) h ∙ ap (pair None (filled w f head (suc zero))) (operand zero (suc zero))
  raised (suc n) h = ap (by (suc n)) h ∙ ap (pair None (filled w f head (suc (suc n)))) (operand (suc n) (suc (suc n)))

  pub reached : w head ≡ word.Lower → filled w f (form_of head t) 0 ≡ f t
  reached h = ap (by zero) h

  pub lowered : (n : ℕ) → w head ≡ word.Lower → filled w f (form_of head t) (suc n) ≡ put w f n head (filled w f head n) (put w f n t (filled w f t n) nil)
  lowered n h = ap (by (suc n)) h ∙ ap (put w f n head (filled w f head n)) (operand (suc n) n)
