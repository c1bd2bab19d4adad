-- What is not unquoted is a constant.
use Rattle.std.proofs.Common.{◌≡◌, ℕ, zero, suc, ◌<◌, ◌≤◌, Bool, true, false, List, [], ◌∷◌, length, take, drop, map, Option, Ok, Err, refl, ap, sym, ◌∙◌, subst, arith}
use Rattle.std.specs.Prelude.{Result, ◌-◌, ◌&&◌, if◌then◌else◌}
use Rattle.base_data.specs.Gives.{◌>>=◌}
use Rattle.base_data.specs.declared.fault.Bare.{Bare}
use Rattle.base_data.specs.declared.span.Span.{Span}
use Rattle.stx_tree.specs.Tree.{Tree, atom, leaf, pair, vector, nil}
use Rattle.stx_tree.specs.Measures.{size}
use Rattle.core_shapes.specs.Lists.{is_nil, elements, tail_of}
use Rattle.core_quasi.specs.Words.{WordOf, inner, reach, head_word}
use Rattle.core_quasi.specs.Parts.{rest_at, splits, taken_at, taken_by, first_word, operand_of, operands}
use Rattle.core_quasi.specs.Plan.{constant, call, quasis}
use Rattle.core_quasi.specs.Quasi.{Tail, no_pieces, with_item, step, step_by, walked, begun_by, finished, made_of, list_joined, vector_joined, vector_made, quasi_at, element, tail_element, forms_walked, forms_begun, flat_list}
use Rattle.core_quasi.specs.declared.maker.Maker.TheVariants as maker
use Rattle.core_quasi.specs.declared.parts.QuasiTaken.TheVariants as taken
use Rattle.core_quasi.specs.declared.quasi.Pieces.{Pieces}
use Rattle.core_quasi.specs.declared.word.Reach.TheVariants as reached
use Rattle.core_quasi.specs.declared.word.QuasiWord.{QuasiWord}
use Rattle.core_quasi.specs.declared.word.QuasiWord.TheVariants as word
use Rattle.core_quasi.proofs.Levels.{elements_are, list_split, list_flat}
use Rattle.core_quasi.proofs.Sizes.{forms_size, parts_within, split_size, tree_size}
use Rattle.law_quasi.specs.Quiet.{is_quiet_word, is_quiet}

first_true : (a b : Bool) → (a && b) ≡ true → a ≡ true
first_true true b h = refl
first_true false b h = absurd (cc)

second_true : (a b : Bool) → (a && b) ≡ true → b ≡ true
second_true true b h = h
second_true false b h = absurd (cc)

quiet_taken : (x : QuasiWord) (o : Option (List Tree)) → is_quiet_word x ≡ true → taken_by x o ≡ taken.Kept
quiet_taken word.Raise o h = refl
quiet_taken word.Lower o h = absurd (cc)
quiet_taken word.Splice o h = absurd (cc)
quiet_taken word.Escape o h = refl
quiet_taken word.Plain o h = refl

pub quiet_reach : (x : QuasiWord) (n : ℕ) → is_quiet_word x ≡ true → reach x n ≡ reached.Elements
quiet_reach word.Raise n h = refl
quiet_reach word.Lower n h = absurd (cc)
quiet_reach word.Splice n h = absurd (cc)
quiet_reach word.Escape n h = refl
quiet_reach word.Plain n h = refl

module _ (w : WordOf) where
  -- these elements hold nothing that is unquoted
  abbrev pub are_quiet : List Tree → Bool
  are_quiet [] = true
  are_quiet (t ∷ ts) = is_quiet_word (w t) && (is_quiet w t && are_quiet ts)

  pub quiet_elements : (t : Tree) → is_quiet w t ≡ true → are_quiet (elements t) ≡ true
  quiet_elements (atom s a) h = refl
  quiet_elements (leaf s x c) h = refl
  quiet_elements (pair s a d) h =
      let later = second_true (is_quiet_word (w a)) (is_quiet w a && is_quiet w d) h in
      ap (λ b. is_quiet_word (w a) && (is_quiet w a && b)) (quiet_elements d (second_true (is_quiet w a) (is_quiet w d) later) ∙ sym (second_true (is_quiet w a) (is_quiet w d) later)) ∙ h
  quiet_elements (vector s d) h = refl

  pub quiet_tail : (t : Tree) → is_quiet w t ≡ true → is_quiet w (tail_of t) ≡ true
  quiet_tail (atom s a) h = h
  quiet_tail (leaf s x c) h = h
  quiet_tail (pair s a d) h = quiet_tail d (second_true (is_quiet w a) (is_quiet w d) (second_true (is_quiet_word (w a)) (is_quiet w a && is_quiet w d) h))
  quiet_tail (vector s d) h = h

  pub quiet_more : (t : Tree) (ts : List Tree) → are_quiet (t ∷ ts) ≡ true → are_quiet ts ≡ true
  quiet_more t ts h = second_true (is_quiet w t) (are_quiet ts) (second_true (is_quiet_word (w t)) (is_quiet w t && are_quiet ts) h)

  pub quiet_one : (t : Tree) (ts : List Tree) → are_quiet (t ∷ ts) ≡ true → is_quiet w t ≡ true
  quiet_one t ts h = first_true (is_quiet w t) (are_quiet ts) (second_true (is_quiet_word (w t)) (is_quiet w t && are_quiet ts) h)

  pub quiet_take : (k : ℕ) (ts : List Tree) → are_quiet ts ≡ true → are_quiet (take k ts) ≡ true
  quiet_take zero ts h = refl
  quiet_take (suc k) [] h = refl
  quiet_take (suc k) (t ∷ ts) h = ap (λ b. is_quiet_word (w t) && (is_quiet w t && b)) (quiet_take k ts (quiet_more t ts h) ∙ sym (quiet_more t ts h)) ∙ h

  pub quiet_drop : (k : ℕ) (ts : List Tree) → are_quiet ts ≡ true → are_quiet (drop k ts) ≡ true
  quiet_drop zero ts h = h
  quiet_drop (suc k) [] h = refl
  quiet_drop (suc k) (t ∷ ts) h = quiet_drop k ts (quiet_more t ts h)

  quiet_head : (t : Tree) → is_quiet w t ≡ true → is_quiet_word (head_word w t) ≡ true
  quiet_head (atom s a) h = refl
  quiet_head (leaf s x c) h = refl
  quiet_head (pair s a d) h = first_true (is_quiet_word (w a)) (is_quiet w a && is_quiet w d) h
  quiet_head (vector s d) h = refl

  pub quiet_kept : (n : ℕ) (t : Tree) → is_quiet w t ≡ true → taken_at w n t ≡ taken.Kept
  quiet_kept zero t h = quiet_taken (head_word w t) (operands t) (quiet_head t h)
  quiet_kept (suc n) t h = refl

  pub quiet_first : (n : ℕ) (ts : List Tree) → are_quiet ts ≡ true → reach (first_word w ts) n ≡ reached.Elements
  quiet_first n [] h = refl
  quiet_first n (t ∷ ts) h = quiet_reach (w t) n (first_true (is_quiet_word (w t)) (is_quiet w t && are_quiet ts) h)

  -- pieces that are all constants
  abbrev Fixed : Result Pieces Bare → Type 0
  Fixed (Ok p) = p.fixed ≡ true
  Fixed (Err e) = ⊥

  module _ (k : ℕ) (ih : (t : Tree) (n : ℕ) → size t < k → is_quiet w t ≡ true → quasi_at w t n ≡ Ok (constant t)) where
    step_fixed : (m : ℕ) (p : Pieces) (t : Tree) → size t < k → is_quiet w t ≡ true → step w m p (element w t) ≡ Ok (with_item p (constant t))
    step_fixed m p t b h = ap (step_by m (element w t) p) (quiet_kept m t h) ∙ ap (λ r. r >>= λ q. Ok (with_item p q)) (ih t m b h)

    walk_fixed : (ts : List Tree) (m : ℕ) (p : Pieces) → forms_size ts < k → are_quiet ts ≡ true → p.fixed ≡ true → Fixed (walked w m p (map (element w) ts))
    walk_fixed [] m p b h e = e
    walk_fixed (t ∷ ts) m p b h e =
        subst (λ r. Fixed (r >>= λ q. walked w m q (map (element w) ts))) (sym (step_fixed m p t (omega (arith, b)) (quiet_one t ts h)))
        (walk_fixed ts m (with_item p (constant t)) (omega (arith, b, tree_size t)) (quiet_more t ts h) (ap (λ c. c && true) e))

    joined_fixed : (t tail : Tree) (p : Pieces) → p.fixed ≡ true → list_joined t p (constant tail) ≡ constant t
    joined_fixed t tail p e = ap (λ b. if b && true then constant t else made_of p.parts p.run (constant tail)) e

    list_fixed : (t : Tree) (ts : List Tree) (tail : Tree) (tl : Tail) (n : ℕ) → forms_size ts < k → are_quiet ts ≡ true → tl.made n ≡ Ok (constant tail)
        → (forms_begun w ts tl.ends n >>= finished t tl n) ≡ Ok (constant t)
    list_fixed t ts tail tl n b h e =
        ap (λ x. begun_by (operand_of tl.ends ts) (forms_walked w (inner (first_word w ts) n) ts) x >>= finished t tl n) (quiet_first n ts h)
        ∙ go (forms_walked w (inner (first_word w ts) n) ts) (walk_fixed ts (inner (first_word w ts) n) no_pieces b h refl)
      where
        go : (r : Result Pieces Bare) → Fixed r → (begun_by (operand_of tl.ends ts) r reached.Elements >>= finished t tl n) ≡ Ok (constant t)
        go (Err f) x = absurd x
        go (Ok p) x = ap (λ r. r >>= λ q. Ok (list_joined t p q)) e ∙ ap Ok (joined_fixed t tail p x)

    flat_fixed : (t : Tree) (ts : List Tree) (tail : Tree) (n : ℕ) → forms_size ts < k → size tail < k → are_quiet ts ≡ true → is_quiet w tail ≡ true → flat_list w t ts tail n ≡ Ok (constant t)
    flat_fixed t ts tail n b c h g = list_fixed t ts tail (tail_element w tail) n b h (ih tail n c g)

    pair_fixed : (s : Option Span) (a d : Tree) (n : ℕ) → size (pair s a d) ≤ k → is_quiet w (pair s a d) ≡ true → quasi_at w (pair s a d) n ≡ Ok (constant (pair s a d))
    pair_fixed s a d n b h = go (splits w (is_nil (tail_of d)) (a ∷ elements d)) refl
      where
        t : Tree
        t = pair s a d

        ts : List Tree
        ts = a ∷ elements d

        quiet : are_quiet ts ≡ true
        quiet = quiet_elements t h

        at : ℕ
        at = length ts - 2

        go : (c : Bool) → splits w (is_nil (tail_of d)) (a ∷ elements d) ≡ c → quasi_at w (pair s a d) n ≡ Ok (constant (pair s a d))
        go false e =
            list_flat w n (pair s a d) refl e
            ∙ flat_fixed (pair s a d) (a ∷ elements d) (tail_of d) n (omega (arith, b, parts_within (pair s a d), tree_size (tail_of d))) (omega (arith, b, parts_within (pair s a d), tree_size a)) quiet (quiet_tail (pair s a d) h)
        go true e =
            list_split w n (pair s a d) refl e
            ∙ list_fixed t (take at ts) (rest_at at t) (record { ends = false; made = flat_list w (rest_at at t) (drop at ts) (tail_of d) }) n
            (omega (arith, b, parts_within (pair s a d), split_size at ts, tree_size (tail_of d))) (quiet_take at ts quiet)
            (flat_fixed (rest_at at t) (drop at ts) (tail_of d) n (omega (arith, b, parts_within (pair s a d), split_size at ts, tree_size (tail_of d)))
            (omega (arith, b, parts_within (pair s a d), tree_size a)) (quiet_drop at ts quiet) (quiet_tail (pair s a d) h))

    vector_fixed : (s : Option Span) (d : Tree) (n : ℕ) → size d ≤ k → is_quiet w d ≡ true → quasi_at w (vector s d) n ≡ Ok (constant (vector s d))
    vector_fixed s d n b h =
        ap (λ xs. vector_made w (vector s d) xs n) (elements_are w d)
        ∙ go (forms_walked w n (elements d)) (walk_fixed (elements d) n no_pieces (omega (arith, b, parts_within d, tree_size (tail_of d))) (quiet_elements d h) refl)
      where
        go : (r : Result Pieces Bare) → Fixed r → (r >>= λ p. Ok (vector_joined (vector s d) p)) ≡ Ok (constant (vector s d))
        go (Err f) x = absurd x
        go (Ok p) x = ap (λ c. Ok (if c then constant (vector s d) else call maker.ListToVector (quasis (made_of p.parts p.run (constant nil) ∷ [])))) x

  all_fixed : (k : ℕ) (t : Tree) (n : ℕ) → size t < k → is_quiet w t ≡ true → quasi_at w t n ≡ Ok (constant t)
  all_fixed zero t n b h = absurd (omega (arith, b))
  all_fixed (suc k) (atom s a) n b h = refl
  all_fixed (suc k) (leaf s x c) n b h = refl
  all_fixed (suc k) (pair s a d) n b h = pair_fixed k (all_fixed k) s a d n (omega (arith, b)) h
  all_fixed (suc k) (vector s d) n b h = vector_fixed k (all_fixed k) s d n (omega (arith, b)) h

  pub quiet_constant : (t : Tree) (n : ℕ) → is_quiet w t ≡ true → quasi_at w t n ≡ Ok (constant t)
  quiet_constant t n h = all_fixed (suc (size t)) t n (omega arith) h
