-- Where the tail of a list begins.
use Rattle.std.proofs.Common.{◌≡◌, ℕ, zero, suc, ◌+◌, ◌≤◌, Bool, true, false, List, [], ◌∷◌, length, take, drop, map, Option, None, Some, refl, ap, sym, ◌∙◌, arith}
use Rattle.std.proofs.lemmas.Bool.{le-leb}
use Rattle.std.specs.Prelude.{◌-◌, ◌&&◌, slice_get, is_some, if◌then◌else◌}
use Rattle.base_data.specs.declared.span.Span.{Span}
use Rattle.stx_tree.specs.Tree.{Tree, atom, leaf, pair, vector, nil, chain}
use Rattle.core_shapes.specs.Lists.{is_nil, is_nil_atom, elements, tail_of}
use Rattle.core_quasi.specs.Words.{WordOf, counts}
use Rattle.core_quasi.specs.Parts.{rest_at, counts_at, splits, operand_of}
use Rattle.law_quasi.specs.Makes.{plain}
use Rattle.law_quasi.specs.Filled.{only}
use Rattle.law_quasi.proofs.Walked.{is_tail}

pub operand_long : (ends : Bool) (ts : List Tree) → 3 ≤ length ts → operand_of ends ts ≡ None
operand_long false ts h = refl
operand_long true [] h = refl
operand_long true (x ∷ []) h = refl
operand_long true (x ∷ (y ∷ [])) h = absurd (omega (arith, h))
operand_long true (x ∷ (y ∷ (z ∷ zs))) h = refl

operand_pair : (b : Bool) (a e : Tree) → (if b then Some e else None) ≡ operand_of b (a ∷ (e ∷ []))
operand_pair true a e = refl
operand_pair false a e = refl

operand_one : (b : Bool) (a : Tree) → None ≡ operand_of b (a ∷ [])
operand_one true a = refl
operand_one false a = refl

operand_more : (b : Bool) (a e x : Tree) (xs : List Tree) → None ≡ operand_of b (a ∷ (e ∷ (x ∷ xs)))
operand_more true a e x xs = refl
operand_more false a e x xs = refl

pub only_is : (a d : Tree) → only d ≡ operand_of (is_nil (tail_of d)) (a ∷ elements d)
only_is a (atom s b) = operand_one (is_nil_atom b) a
only_is a (leaf s x c) = refl
only_is a (pair s e (atom r b)) = operand_pair (is_nil_atom b) a e
only_is a (pair s e (leaf r x c)) = refl
only_is a (pair s e (pair r x d)) = operand_more (is_nil (tail_of d)) a e x (elements d)
only_is a (pair s e (vector r d)) = refl
only_is a (vector s d) = refl

module _ (w : WordOf) where
  -- whether a rest holds a form that stands for the tail
  abbrev pub has_tail : Tree → Bool
  has_tail (atom s a) = false
  has_tail (leaf s x c) = false
  has_tail (pair s a d) = if is_tail w a d then true else has_tail d
  has_tail (vector s d) = false

  -- how many elements stand before it
  abbrev pub cut : Tree → ℕ
  cut (atom s a) = 0
  cut (leaf s x c) = 0
  cut (pair s a d) = if is_tail w a d then 0 else suc (cut d)
  cut (vector s d) = 0

  abbrev is_empty : List Tree → Bool
  is_empty [] = true
  is_empty (x ∷ xs) = false

  abbrev tail_on : Bool → Tree → List Tree → Bool
  tail_on ends x [] = false
  tail_on ends x (y ∷ ys) = if is_empty ys then ends && counts (w x) else tail_on ends y ys

  no_more : (b : Bool) (t : Bool) → (if b && false then true else t) ≡ t
  no_more true t = refl
  no_more false t = refl

  last_two : (c i e : Bool) → (if c && is_some (if i then Some nil else None) then true else (if e && false then true else false)) ≡ (i && c)
  last_two true true e = refl
  last_two true false true = refl
  last_two true false false = refl
  last_two false true true = refl
  last_two false true false = refl
  last_two false false true = refl
  last_two false false false = refl

  is_some_any : (i : Bool) (x : Tree) → is_some (if i then Some x else None) ≡ is_some (if i then Some nil else None)
  is_some_any true x = refl
  is_some_any false x = refl

  two_left : (b x : Tree) (i : Bool) → (if counts (w b) && is_some (if i then Some x else None) then true else (if counts (w x) && false then true else false)) ≡ (i && counts (w b))
  two_left b x i = ap (λ y. if counts (w b) && y then true else (if counts (w x) && false then true else false)) (is_some_any i x) ∙ last_two (counts (w b)) i (counts (w x))

  pub tail_is_on : (s : Option Span) (b d : Tree) → has_tail (pair s b d) ≡ tail_on (is_nil (tail_of d)) b (elements d)
  tail_is_on s b (atom r x) = no_more (counts (w b)) false
  tail_is_on s b (leaf r x c) = no_more (counts (w b)) false
  tail_is_on s b (vector r d) = no_more (counts (w b)) false
  tail_is_on s b (pair r x (atom p y)) = two_left b x (is_nil_atom y)
  tail_is_on s b (pair r x (leaf p y c)) = two_left b x false
  tail_is_on s b (pair r x (vector p d)) = two_left b x false
  tail_is_on s b (pair r x (pair p y d)) = no_more (counts (w b)) (has_tail (pair r x (pair p y d))) ∙ tail_is_on r x (pair p y d)

  no_tail_on : (b : Tree) (ys : List Tree) → tail_on false b ys ≡ false
  no_tail_on b [] = refl
  no_tail_on b (y ∷ ys) = go (is_empty ys) (no_tail_on y ys)
    where
      go : (e : Bool) → tail_on false y ys ≡ false → (if e then false && counts (w b) else tail_on false y ys) ≡ false
      go true h = refl
      go false h = h

  splits_long : (ts : List Tree) → 3 ≤ length ts → splits w true ts ≡ counts_at w (slice_get ts (length ts - 2))
  splits_long ts h = ap (λ b. if b then counts_at w (slice_get ts (length ts - 2)) else false) (le-leb 3 (length ts) h)

  one_less : (a b y z : Tree) (zs : List Tree) → splits w true (a ∷ (b ∷ (y ∷ (z ∷ zs)))) ≡ splits w true (b ∷ (y ∷ (z ∷ zs)))
  one_less a b y z zs =
      let e : length (a ∷ (b ∷ (y ∷ (z ∷ zs)))) - 2 ≡ suc (length (b ∷ (y ∷ (z ∷ zs))) - 2) = omega arith in
      splits_long (a ∷ (b ∷ (y ∷ (z ∷ zs)))) (omega arith)
      ∙ ap (λ k. counts_at w (slice_get (a ∷ (b ∷ (y ∷ (z ∷ zs)))) k)) e
      ∙ sym (splits_long (b ∷ (y ∷ (z ∷ zs))) (omega arith))

  splits_on : (ends : Bool) (a b : Tree) (ys : List Tree) → splits w ends (a ∷ (b ∷ ys)) ≡ tail_on ends b ys
  splits_on false a b ys = sym (no_tail_on b ys)
  splits_on true a b [] = refl
  splits_on true a b (y ∷ []) = refl
  splits_on true a b (y ∷ (z ∷ zs)) = one_less a b y z zs ∙ splits_on true b y (z ∷ zs)

  splits_one : (ends : Bool) (a : Tree) → splits w ends (a ∷ []) ≡ false
  splits_one true a = refl
  splits_one false a = refl

  pub splits_is : (a d : Tree) → splits w (is_nil (tail_of d)) (a ∷ elements d) ≡ has_tail d
  splits_is a (atom s b) = splits_one (is_nil_atom b) a
  splits_is a (leaf s x c) = refl
  splits_is a (pair s b d) = splits_on (is_nil (tail_of d)) a b (elements d) ∙ sym (tail_is_on s b d)
  splits_is a (vector s d) = refl

  -- the tail is a list of two
  abbrev pub IsTail : Tree → Type 0
  IsTail (atom s a) = ⊥
  IsTail (leaf s x c) = ⊥
  IsTail (pair s a d) = is_tail w a d ≡ true
  IsTail (vector s d) = ⊥

  pub cut_is : (d : Tree) → has_tail d ≡ true → IsTail (rest_at (cut d) d)
  cut_is (atom s a) h = absurd (cc)
  cut_is (leaf s x c) h = absurd (cc)
  cut_is (vector s d) h = absurd (cc)
  cut_is (pair s a d) h = go (is_tail w a d) refl h (cut_is d)
    where
      go : (b : Bool) → is_tail w a d ≡ b → (if b then true else has_tail d) ≡ true → (has_tail d ≡ true → IsTail (rest_at (cut d) d)) → IsTail (rest_at (if b then 0 else suc (cut d)) (pair s a d))
      go true e k ih = e
      go false e k ih = ih k

  tail_true : (a d : Tree) → is_tail w a d ≡ true → is_some (only d) ≡ true
  tail_true a d = go (counts (w a)) (is_some (only d))
    where
      go : (b c : Bool) → (b && c) ≡ true → c ≡ true
      go true true h = refl
      go true false h = absurd (cc)
      go false c h = absurd (cc)

  only_one : (d : Tree) → is_some (only d) ≡ true → length (elements d) ≡ 1
  only_one (atom s a) h = absurd (cc)
  only_one (leaf s x c) h = absurd (cc)
  only_one (pair s e (atom r b)) h = refl
  only_one (pair s e (leaf r x c)) h = refl
  only_one (pair s e (pair r x d)) h = absurd (cc)
  only_one (pair s e (vector r d)) h = refl
  only_one (vector s d) h = absurd (cc)

  only_no_tail : (d : Tree) → is_some (only d) ≡ true → has_tail d ≡ false
  only_no_tail (atom s a) h = absurd (cc)
  only_no_tail (leaf s x c) h = absurd (cc)
  only_no_tail (pair s e (atom r b)) h = no_more (counts (w e)) false
  only_no_tail (pair s e (leaf r x c)) h = absurd (cc)
  only_no_tail (pair s e (pair r x d)) h = absurd (cc)
  only_no_tail (pair s e (vector r d)) h = absurd (cc)
  only_no_tail (vector s d) h = absurd (cc)

  pub tail_no_tail : (a d : Tree) → is_tail w a d ≡ true → has_tail d ≡ false
  tail_no_tail a d h = only_no_tail d (tail_true a d h)

  pub cut_length : (d : Tree) → has_tail d ≡ true → length (elements d) ≡ cut d + 2
  cut_length (atom s a) h = absurd (cc)
  cut_length (leaf s x c) h = absurd (cc)
  cut_length (vector s d) h = absurd (cc)
  cut_length (pair s a d) h = go (is_tail w a d) refl h (cut_length d)
    where
      go : (b : Bool) → is_tail w a d ≡ b → (if b then true else has_tail d) ≡ true → (has_tail d ≡ true → length (elements d) ≡ cut d + 2)
          → suc (length (elements d)) ≡ (if b then 0 else suc (cut d)) + 2
      go true e k ih = omega (arith, only_one d (tail_true a d e))
      go false e k ih = omega (arith, ih k)

pub elements_at : (k : ℕ) (d : Tree) → drop k (elements d) ≡ elements (rest_at k d)
elements_at zero d = refl
elements_at (suc k) (atom s a) = refl
elements_at (suc k) (leaf s x c) = refl
elements_at (suc k) (pair s a d) = elements_at k d
elements_at (suc k) (vector s d) = refl

pub tail_at : (k : ℕ) (d : Tree) → tail_of d ≡ tail_of (rest_at k d)
tail_at zero d = refl
tail_at (suc k) (atom s a) = refl
tail_at (suc k) (leaf s x c) = refl
tail_at (suc k) (pair s a d) = tail_at k d
tail_at (suc k) (vector s d) = refl

pub plain_at : (k : ℕ) (d : Tree) → plain d ≡ chain (map plain (take k (elements d))) (plain (rest_at k d))
plain_at zero d = refl
plain_at (suc k) (atom s a) = refl
plain_at (suc k) (leaf s x c) = refl
plain_at (suc k) (pair s a d) = ap (pair None (plain a)) (plain_at k d)
plain_at (suc k) (vector s d) = refl

pub plain_all : (d : Tree) → plain d ≡ chain (map plain (elements d)) (plain (tail_of d))
plain_all (atom s a) = refl
plain_all (leaf s x c) = refl
plain_all (pair s a d) = ap (pair None (plain a)) (plain_all d)
plain_all (vector s d) = refl
