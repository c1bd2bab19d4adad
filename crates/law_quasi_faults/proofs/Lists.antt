-- What a list is, where it is taken apart: its elements and what ends it, or its first elements and a tail of two.
use Rattle.std.proofs.Common.{◌≡◌, ℕ, zero, suc, Bool, true, false, List, [], ◌∷◌, take, None, Some, refl, ap, sym, ◌∙◌, arith}
use Rattle.std.specs.Prelude.{◌&&◌, is_some, if◌then◌else◌}
use Rattle.stx_tree.specs.Tree.{Tree, atom, leaf, pair, vector}
use Rattle.core_shapes.specs.Lists.{is_nil, elements, tail_of}
use Rattle.core_quasi.specs.Words.{WordOf, counts, inner}
use Rattle.core_quasi.specs.Parts.{rest_at}
use Rattle.core_quasi.specs.declared.word.QuasiWord.{QuasiWord}
use Rattle.core_quasi.specs.declared.word.QuasiWord.TheVariants as word
use Rattle.law_quasi.specs.Filled as report
use Rattle.law_quasi.specs.Filled.{level_behind, only}
use Rattle.law_quasi.proofs.Same.{tail_words}
use Rattle.law_quasi.proofs.Tails.{has_tail, cut}
use Rattle.law_quasi.proofs.Walked.{is_tail}
use Rattle.law_quasi_faults.specs.Formed.{element_formed, list_formed, is_formed, rest_is_formed, items_are_formed}

pub and-assoc : (a b c : Bool) → ((a && b) && c) ≡ (a && (b && c))
and-assoc true b c = refl
and-assoc false b c = refl

neither : (a b : Bool) → (if a then true else b) ≡ false → (a ≡ false) × (b ≡ false)
neither true b h = absurd (cc)
neither false b h = (refl, h)

pub inner-is : (x : QuasiWord) (n : ℕ) → inner x n ≡ level_behind x n
inner-is word.Raise n = refl
inner-is word.Lower zero = refl
inner-is word.Lower (suc n) = omega arith
inner-is word.Splice zero = refl
inner-is word.Splice (suc n) = omega arith
inner-is word.Escape n = refl
inner-is word.Plain n = refl

-- a list that has a tail of two has further elements before it
pub tail-many : (w : WordOf) (d : Tree) → has_tail w d ≡ true → only d ≡ None
tail-many w (atom s a) h = refl
tail-many w (leaf s x c) h = refl
tail-many w (pair s e (atom r b)) h = by (counts (w e)) h
  where
    by : (c : Bool) → (if c && false then true else false) ≡ true → (if is_nil (atom r b) then Some e else None) ≡ None
    by true k = absurd (cc)
    by false k = absurd (cc)
tail-many w (pair s e (leaf r x c)) h = refl
tail-many w (pair s e (pair r x d)) h = refl
tail-many w (pair s e (vector r d)) h = refl
tail-many w (vector s d) h = refl

module _ (stays : QuasiWord → Bool) (w : WordOf) where
  -- all elements at a level
  abbrev pub all_formed : ℕ → List Tree → Bool
  all_formed m [] = true
  all_formed m (t ∷ ts) = element_formed w m t (is_formed stays w t m) && all_formed m ts

  pub items-formed : (d : Tree) (n : ℕ) → items_are_formed stays w d n ≡ all_formed n (elements d)
  items-formed (atom s a) n = refl
  items-formed (leaf s x c) n = refl
  items-formed (pair s a d) n = ap (λ b. element_formed w n a (is_formed stays w a n) && b) (items-formed d n)
  items-formed (vector s d) n = refl

  tail-same : (a d : Tree) → report.is_tail w a d ≡ is_tail w a d
  tail-same a d = ap (λ b. b && is_some (only d)) (tail_words (w a))

  -- a list that is no tail
  abbrev pub pair_formed : ℕ → Tree → Tree → Bool
  pair_formed n a d = list_formed w n a d (record { first = is_formed stays w a; rest = rest_is_formed stays w d }) (w a)

  abbrev pub tail_formed : ℕ → Tree → Bool
  tail_formed n (atom s a) = true
  tail_formed n (leaf s x c) = true
  tail_formed n (pair s a d) = pair_formed n a d
  tail_formed n (vector s d) = true

  pub rest-flat : (d : Tree) (n m : ℕ) → has_tail w d ≡ false → rest_is_formed stays w d n m ≡ (all_formed m (elements d) && is_formed stays w (tail_of d) n)
  rest-flat (atom s a) n m h = refl
  rest-flat (leaf s x c) n m h = refl
  rest-flat (pair s a d) n m h =
      let k = neither (is_tail w a d) (has_tail w d) h in
      let e : report.is_tail w a d ≡ false = tail-same a d ∙ k.0 in
      ap (λ b. if b then pair_formed n a d else element_formed w m a (is_formed stays w a m) && rest_is_formed stays w d n m) e
      ∙ ap (λ b. element_formed w m a (is_formed stays w a m) && b) (rest-flat d n m k.1)
      ∙ sym (and-assoc (element_formed w m a (is_formed stays w a m)) (all_formed m (elements d)) (is_formed stays w (tail_of d) n))
  rest-flat (vector s d) n m h = refl

  pub rest-split : (d : Tree) (n m : ℕ) → has_tail w d ≡ true
      → rest_is_formed stays w d n m ≡ (all_formed m (take (cut w d) (elements d)) && tail_formed n (rest_at (cut w d) d))
  rest-split (atom s a) n m h = absurd (cc)
  rest-split (leaf s x c) n m h = absurd (cc)
  rest-split (vector s d) n m h = absurd (cc)
  rest-split (pair s a d) n m h =
      ap (λ b. if b then pair_formed n a d else element_formed w m a (is_formed stays w a m) && rest_is_formed stays w d n m) (tail-same a d) ∙ by (is_tail w a d) h (λ k. rest-split d n m k)
    where
      by : (b : Bool) → (if b then true else has_tail w d) ≡ true
          → (has_tail w d ≡ true → rest_is_formed stays w d n m ≡ (all_formed m (take (cut w d) (elements d)) && tail_formed n (rest_at (cut w d) d)))
          → (if b then pair_formed n a d else element_formed w m a (is_formed stays w a m) && rest_is_formed stays w d n m)
          ≡ (all_formed m (take (if b then 0 else suc (cut w d)) (a ∷ elements d)) && tail_formed n (rest_at (if b then 0 else suc (cut w d)) (pair s a d)))
      by true k ih = refl
      by false k ih = ap (λ b. element_formed w m a (is_formed stays w a m) && b) (ih k) ∙ sym (and-assoc (element_formed w m a (is_formed stays w a m)) (all_formed m (take (cut w d) (elements d))) (tail_formed n (rest_at (cut w d) d)))
