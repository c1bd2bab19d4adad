-- The report's words and those of the definitions say the same.
use Rattle.std.proofs.Common.{◌≡◌, ℕ, zero, suc, Bool, true, false, List, ◌∷◌, None, Some, refl, ap, ◌∙◌, arith}
use Rattle.std.specs.Prelude.{◌-◌, ◌&&◌, is_some, if◌then◌else◌}
use Rattle.stx_tree.specs.Tree.{Tree, atom, leaf, pair, vector, nil}
use Rattle.core_shapes.specs.Lists.{is_nil, elements, tail_of, if_some}
use Rattle.core_quasi.specs.Words.{WordOf, inner, reach, counts}
use Rattle.core_quasi.specs.Parts.{behind_head, taken_by}
use Rattle.core_quasi.specs.declared.word.Reach.{Reach}
use Rattle.core_quasi.specs.declared.word.Reach.TheVariants as reached
use Rattle.core_quasi.specs.declared.word.QuasiWord.{QuasiWord}
use Rattle.core_quasi.specs.declared.word.QuasiWord.TheVariants as word
use Rattle.law_quasi.specs.Makes.{FilledBy}
use Rattle.law_quasi.specs.Filled.{is_tail_word, only, value_of, put_form, put, is_tail, list_by, list_filled, filled, rest_filled, items_filled}
use Rattle.law_quasi.proofs.Walked as walked

pub tail_words : (x : QuasiWord) → is_tail_word x ≡ counts x
tail_words word.Raise = refl
tail_words word.Lower = refl
tail_words word.Splice = refl
tail_words word.Escape = refl
tail_words word.Plain = refl

module _ (w : WordOf) (f : FilledBy) where
  form_same : (x : QuasiWord) (b : Bool) (h : Tree) (es : List Tree) (made r : Tree)
      → put_form f x b es made r ≡ walked.put_by f made r (taken_by x (if_some (if b then Some (h ∷ es) else None) behind_head))
  form_same word.Lower true h es made r = refl
  form_same word.Splice true h es made r = refl
  form_same word.Lower false h es made r = refl
  form_same word.Splice false h es made r = refl
  form_same word.Raise b h es made r = refl
  form_same word.Escape b h es made r = refl
  form_same word.Plain b h es made r = refl

  pub put_same : (n : ℕ) (t made r : Tree) → put w f n t made r ≡ walked.put w f n t made r
  put_same zero (atom s a) made r = refl
  put_same zero (leaf s x c) made r = refl
  put_same zero (pair s h d) made r = form_same (w h) (is_nil (tail_of d)) h (elements d) made r
  put_same zero (vector s d) made r = refl
  put_same (suc n) (atom s a) made r = refl
  put_same (suc n) (leaf s x c) made r = refl
  put_same (suc n) (pair s h d) made r = refl
  put_same (suc n) (vector s d) made r = refl

  tail_same : (a d : Tree) → is_tail w a d ≡ walked.is_tail w a d
  tail_same a d = ap (λ b. b && is_some (only d)) (tail_words (w a))

  -- a list, of which the parts come to the same
  module _ (a d : Tree) (made old : ℕ → Tree) (rest before : ℕ → ℕ → Tree) (h : (n : ℕ) → made n ≡ old n) (k : (n m : ℕ) → rest n m ≡ before n m) where
    put_on : (n m : ℕ) → put w f m a (made m) (rest n m) ≡ walked.put w f m a (old m) (before n m)
    put_on n m = (λ i. put w f m a (h m i) (k n m i)) ∙ put_same m a (old m) (before n m)

    abbrev old_by : ℕ → QuasiWord → Reach → Tree
    old_by n x reached.Operand = value_of f (only d)
    old_by n x reached.Refused = nil
    old_by n x reached.Elements = walked.put w f (inner x n) a (old (inner x n)) (before n (inner x n))

    lower : (n : ℕ) → walked.put w f n a (old n) (before (suc n) n) ≡ walked.put w f (suc n - 1) a (old (suc n - 1)) (before (suc n) (suc n - 1))
    lower n =
        let e : n ≡ suc n - 1 = omega arith in
        ap (λ m. walked.put w f m a (old m) (before (suc n) m)) e

    by_same : (n : ℕ) (x : QuasiWord) → list_by w f n a d (record { first = made; rest = rest }) x ≡ old_by n x (reach x n)
    by_same zero word.Lower = refl
    by_same zero word.Splice = refl
    by_same zero word.Raise = put_on zero (suc zero)
    by_same zero word.Escape = put_on zero zero
    by_same zero word.Plain = put_on zero zero
    by_same (suc n) word.Lower = put_on (suc n) n ∙ lower n
    by_same (suc n) word.Splice = put_on (suc n) n ∙ lower n
    by_same (suc n) word.Raise = put_on (suc n) (suc (suc n))
    by_same (suc n) word.Escape = put_on (suc n) (suc n)
    by_same (suc n) word.Plain = put_on (suc n) (suc n)

    old_is : (n : ℕ) (x : Reach) → old_by n (w a) x ≡ walked.list_by w f n a d old before x
    old_is n reached.Operand = refl
    old_is n reached.Refused = refl
    old_is n reached.Elements = refl

    list_same : (n : ℕ) → list_filled w f n a d (record { first = made; rest = rest }) ≡ walked.list_filled w f n a d old before
    list_same n = by_same n (w a) ∙ old_is n (reach (w a) n)

  mutual
    pub filled_same : (t : Tree) (n : ℕ) → filled w f t n ≡ walked.filled w f t n
    filled_same (atom s a) n = refl
    filled_same (leaf s x c) n = refl
    filled_same (pair s a d) n = list_same a d (filled w f a) (walked.filled w f a) (rest_filled w f d) (walked.rest_filled w f d) (filled_same a) (rest_same d) n
    filled_same (vector s d) n = ap (vector None) (items_same d n)

    pub rest_same : (t : Tree) (n m : ℕ) → rest_filled w f t n m ≡ walked.rest_filled w f t n m
    rest_same (atom s a) n m = refl
    rest_same (leaf s x c) n m = refl
    rest_same (pair s a d) n m =
        (λ i. if tail_same a d i then list_same a d (filled w f a) (walked.filled w f a) (rest_filled w f d) (walked.rest_filled w f d) (filled_same a) (rest_same d) n i
        else put_on a d (filled w f a) (walked.filled w f a) (rest_filled w f d) (walked.rest_filled w f d) (filled_same a) (rest_same d) n m i)
    rest_same (vector s d) n m = ap (vector None) (items_same d n)

    pub items_same : (t : Tree) (n : ℕ) → items_filled w f t n ≡ walked.items_filled w f t n
    items_same (atom s a) n = refl
    items_same (leaf s x c) n = refl
    items_same (pair s a d) n = (λ i. put w f n a (filled_same a n i) (items_same d n i)) ∙ put_same n a (walked.filled w f a n) (walked.items_filled w f d n)
    items_same (vector s d) n = refl
