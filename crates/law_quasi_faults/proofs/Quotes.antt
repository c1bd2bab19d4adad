-- A template of `quasiquote` comes to a plan where it is well formed, and else it is bad.
use Rattle.std.proofs.Common.{◌≡◌, ℕ, zero, suc, Bool, true, false, List, [], ◌∷◌, length, take, drop, map, Option, None, Some, Ok, Err, refl, ap, sym, ◌∙◌, subst, arith}
use Rattle.std.specs.Prelude.{Result, ◌-◌, ◌&&◌, ◌||◌, is_some, if◌then◌else◌}
use Rattle.base_data.specs.Gives.{◌>>=◌}
use Rattle.base_data.specs.declared.fault.Bare.{Bare}
use Rattle.base_data.specs.declared.fault.FaultKind.TheVariants as kind
use Rattle.base_data.specs.declared.span.Span.{Span}
use Rattle.stx_tree.specs.Tree.{Tree, atom, leaf, pair, vector}
use Rattle.core_shapes.specs.At.{fault_at}
use Rattle.core_shapes.specs.Lists.{is_nil, elements, tail_of, if_some}
use Rattle.core_quasi.specs.Words.{WordOf, inner, reach}
use Rattle.core_quasi.specs.Parts.{bad, rest_at, splits, taken_by, behind_head, first_word, operand_of}
use Rattle.core_quasi.specs.Plan.{PlainQuasi}
use Rattle.core_quasi.specs.Quasi.{ElementPlan, Tail, no_pieces, with_item, step_by, step, walked, operand_or_bad, begun_by, finished, flat, split_tail, list_joined, vector_joined, list_made, vector_made, quasi_at, tail_made, element, fault_of, at_form}
use Rattle.core_quasi.specs.declared.quasi.Begun.TheVariants as begun
use Rattle.core_quasi.specs.declared.quasi.Pieces.{Pieces}
use Rattle.core_quasi.specs.declared.word.QuasiWord.{QuasiWord}
use Rattle.core_quasi.specs.declared.word.QuasiWord.TheVariants as word
use Rattle.core_quasi.proofs.Levels.{elements_are, tail_is, forms_are}
use Rattle.law_quasi.specs.Filled.{level_behind, only}
use Rattle.law_quasi.proofs.Tails.{has_tail, cut, IsTail, splits_is, cut_is, tail_no_tail, cut_length, only_is, elements_at, tail_at}
use Rattle.law_quasi_faults.specs.Formed.{none_stays, stands_for_operands, element_formed, list_formed, is_formed, rest_is_formed, items_are_formed}
use Rattle.law_quasi_faults.specs.Decided.{QuoteIs, QuotesAreDecided}
use Rattle.law_quasi_faults.proofs.Lists.{and-assoc, inner-is, tail-many, all_formed, items-formed, pair_formed, tail_formed, rest-flat, rest-split}

-- a result is there where this holds, and else it is bad
abbrev Tells : {A : Type 0} → Bool → Result A Bare → Type 0
Tells b (Ok x) = b ≡ true
Tells b (Err f) = (b ≡ false) × (f ≡ bad)

then-tells : {A B : Type 0} (b c : Bool) (x : Result A Bare) (k : A → Result B Bare) → Tells b x → ((a : A) → Tells c (k a)) → Tells (b && c) (x >>= k)
then-tells b c (Ok a) k h next = subst (λ d. Tells (d && c) (k a)) (sym h) (next a)
then-tells b c (Err f) k h next = (ap (λ d. d && c) h.0, h.1)

then-ok : {A B : Type 0} (b : Bool) (x : Result A Bare) (f : A → B) → Tells b x → Tells b (x >>= λ a. Ok (f a))
then-ok b (Ok a) f h = h
then-ok b (Err e) f h = h

module _ (w : WordOf) where
  abbrev formed : Tree → ℕ → Bool
  formed t n = is_formed none_stays w t n

  abbrev all-are : ℕ → List Tree → Bool
  all-are m ts = all_formed none_stays w m ts

  abbrev Told : Tree → Type 0
  Told t = (n : ℕ) → Tells (formed t n) (quasi_at w t n)

  abbrev AllTold : List Tree → Type 0
  AllTold [] = Unit {0}
  AllTold (t ∷ ts) = Told t × AllTold ts

  take-told : (k : ℕ) (ts : List Tree) → AllTold ts → AllTold (take k ts)
  take-told zero ts h = tt
  take-told (suc k) [] h = tt
  take-told (suc k) (t ∷ ts) h = (h.0, take-told k ts h.1)

  drop-told : (k : ℕ) (ts : List Tree) → AllTold ts → AllTold (drop k ts)
  drop-told zero ts h = h
  drop-told (suc k) [] h = tt
  drop-told (suc k) (t ∷ ts) h = drop-told k ts h.1

  take-are : (k : ℕ) (ts : List Tree) → take k (map (element w) ts) ≡ map (element w) (take k ts)
  take-are zero ts = refl
  take-are (suc k) [] = refl
  take-are (suc k) (t ∷ ts) = ap (λ (xs : List ElementPlan). element w t ∷ xs) (take-are k ts)

  drop-are : (k : ℕ) (ts : List Tree) → drop k (map (element w) ts) ≡ map (element w) (drop k ts)
  drop-are zero ts = refl
  drop-are (suc k) [] = refl
  drop-are (suc k) (t ∷ ts) = drop-are k ts

  length-are : (ts : List Tree) → length (map (element w) ts) ≡ length ts
  length-are [] = refl
  length-are (t ∷ ts) = ap suc (length-are ts)

  -- Elements.

  kept-told : (m : ℕ) (t : Tree) (p : Pieces) → Told t → Tells (formed t m) (quasi_at w t m >>= λ q. Ok (with_item p q))
  kept-told m t p told = then-ok (formed t m) (quasi_at w t m) (with_item p) (told m)

  form-told : (s : Option Span) (h d : Tree) (p : Pieces) → Told (pair s h d) → (x : QuasiWord) (b : Bool)
      → Tells (stands_for_operands x b || formed (pair s h d) 0) (step_by 0 (element w (pair s h d)) p (taken_by x (if_some (if b then Some (h ∷ elements d) else None) behind_head)))
  form-told s h d p told word.Lower true = refl
  form-told s h d p told word.Splice true = refl
  form-told s h d p told word.Lower false = kept-told 0 (pair s h d) p told
  form-told s h d p told word.Splice false = kept-told 0 (pair s h d) p told
  form-told s h d p told word.Raise b = kept-told 0 (pair s h d) p told
  form-told s h d p told word.Escape b = kept-told 0 (pair s h d) p told
  form-told s h d p told word.Plain b = kept-told 0 (pair s h d) p told

  element-told : (m : ℕ) (t : Tree) (p : Pieces) → Told t → Tells (element_formed w m t (formed t m)) (step w m p (element w t))
  element-told (suc m) t p told = kept-told (suc m) t p told
  element-told zero (atom s a) p told = kept-told 0 (atom s a) p told
  element-told zero (leaf s x c) p told = kept-told 0 (leaf s x c) p told
  element-told zero (pair s h d) p told = form-told s h d p told (w h) (is_nil (tail_of d))
  element-told zero (vector s d) p told = kept-told 0 (vector s d) p told

  walk-told : (ts : List Tree) → AllTold ts → (m : ℕ) (p : Pieces) → Tells (all-are m ts) (walked w m p (map (element w) ts))
  walk-told [] h m p = refl
  walk-told (t ∷ ts) h m p =
      then-tells (element_formed w m t (formed t m)) (all-are m ts) (step w m p (element w t)) (λ q. walked w m q (map (element w) ts)) (element-told m t p h.0) (λ q. walk-told ts h.1 m q)

  -- Lists.

  parts-told : (t : Tree) (tail : Tail) (n : ℕ) (b c : Bool) (x : Result Pieces Bare) → Tells b x → Tells c (tail.made n) → Tells (b && c) ((x >>= λ p. Ok (begun.Parts p)) >>= finished t tail n)
  parts-told t tail n b c (Ok p) h last = subst (λ d. Tells (d && c) (finished t tail n (begun.Parts p))) (sym h) (then-ok c (tail.made n) (list_joined t p) last)
  parts-told t tail n b c (Err f) h last = (ap (λ d. d && c) h.0, h.1)

  -- a list of a first element and others, before what ends it
  module _ (t a d : Tree) (ts : List Tree) (tail : Tail) where
    abbrev Given : ℕ → Bool → QuasiWord → Type 0
    Given n c x = rest_is_formed none_stays w d n (level_behind x n) ≡ (all-are (level_behind x n) ts && c)

    operand-told : (n : ℕ) (o : Option Tree) → Tells (is_some o) (operand_or_bad o >>= finished t tail n)
    operand-told n None = (refl, refl)
    operand-told n (Some e) = refl

    walked-told : (n : ℕ) → AllTold (a ∷ ts) → (c : Bool) → Tells c (tail.made n) → (x : QuasiWord) → Given n c x
        → Tells (element_formed w (level_behind x n) a (formed a (level_behind x n)) && rest_is_formed none_stays w d n (level_behind x n))
        ((walked w (inner x n) no_pieces (map (element w) (a ∷ ts)) >>= λ p. Ok (begun.Parts p)) >>= finished t tail n)
    walked-told n all c last x given =
        let same : (all-are (level_behind x n) (a ∷ ts) && c) ≡ (element_formed w (level_behind x n) a (formed a (level_behind x n)) && rest_is_formed none_stays w d n (level_behind x n)) =
        and-assoc (element_formed w (level_behind x n) a (formed a (level_behind x n))) (all-are (level_behind x n) ts) c
        ∙ ap (λ b. element_formed w (level_behind x n) a (formed a (level_behind x n)) && b) (sym given) in
        subst (λ b. Tells b ((walked w (inner x n) no_pieces (map (element w) (a ∷ ts)) >>= λ p. Ok (begun.Parts p)) >>= finished t tail n)) same
        (parts-told t tail n (all-are (level_behind x n) (a ∷ ts)) c (walked w (inner x n) no_pieces (map (element w) (a ∷ ts)))
        (subst (λ m. Tells (all-are (level_behind x n) (a ∷ ts)) (walked w m no_pieces (map (element w) (a ∷ ts)))) (sym (inner-is x n)) (walk-told (a ∷ ts) all (level_behind x n) no_pieces)) last)

    list-by : (n : ℕ) → AllTold (a ∷ ts) → (c : Bool) → Tells c (tail.made n) → operand_of tail.ends (a ∷ ts) ≡ only d → (x : QuasiWord) → Given n c x
        → Tells (list_formed w n a d (record { first = formed a; rest = rest_is_formed none_stays w d }) x)
        (begun_by (operand_of tail.ends (a ∷ ts)) (walked w (inner x n) no_pieces (map (element w) (a ∷ ts))) (reach x n) >>= finished t tail n)
    list-by zero all c last e word.Lower given = subst (λ o. Tells (is_some o) (operand_or_bad (operand_of tail.ends (a ∷ ts)) >>= finished t tail 0)) e (operand-told 0 (operand_of tail.ends (a ∷ ts)))
    list-by zero all c last e word.Splice given = (refl, refl)
    list-by zero all c last e word.Raise given = walked-told 0 all c last word.Raise given
    list-by zero all c last e word.Escape given = walked-told 0 all c last word.Escape given
    list-by zero all c last e word.Plain given = walked-told 0 all c last word.Plain given
    list-by (suc n) all c last e word.Lower given = walked-told (suc n) all c last word.Lower given
    list-by (suc n) all c last e word.Splice given = walked-told (suc n) all c last word.Splice given
    list-by (suc n) all c last e word.Raise given = walked-told (suc n) all c last word.Raise given
    list-by (suc n) all c last e word.Escape given = walked-told (suc n) all c last word.Escape given
    list-by (suc n) all c last e word.Plain given = walked-told (suc n) all c last word.Plain given

    list-told : (n : ℕ) → AllTold (a ∷ ts) → (c : Bool) → Tells c (tail.made n) → operand_of tail.ends (a ∷ ts) ≡ only d → Given n c (w a)
        → Tells (pair_formed none_stays w n a d) (flat w t (map (element w) (a ∷ ts)) tail n)
    list-told n all c last e given =
        subst (λ us. Tells (pair_formed none_stays w n a d) (begun_by (operand_of tail.ends us) (walked w (inner (first_word w us) n) no_pieces (map (element w) (a ∷ ts))) (reach (first_word w us) n) >>= finished t tail n))
        (sym (forms_are w (a ∷ ts))) (list-by n all c last e (w a) given)

  -- a list that is not split
  flat-told : (s : Option Span) (a d : Tree) → has_tail w d ≡ false → AllTold (a ∷ elements d) → (tail : Tail) → tail.ends ≡ is_nil (tail_of d) → (n : ℕ) → Tells (formed (tail_of d) n) (tail.made n)
      → Tells (pair_formed none_stays w n a d) (flat w (pair s a d) (map (element w) (a ∷ elements d)) tail n)
  flat-told s a d h all tail ends n last =
      list-told (pair s a d) a d (elements d) tail n all (formed (tail_of d) n) last (ap (λ b. operand_of b (a ∷ elements d)) ends ∙ sym (only_is a d)) (rest-flat none_stays w d n (level_behind (w a) n) h)

  -- the tail of a list that is split
  tail-told : (d : Tree) → IsTail w d → AllTold (elements d) → (tail : Tail) → tail.ends ≡ is_nil (tail_of d) → (n : ℕ) → Tells (formed (tail_of d) n) (tail.made n)
      → Tells (tail_formed none_stays w n d) (flat w d (map (element w) (elements d)) tail n)
  tail-told (atom s a) h all tail ends n last = absurd h
  tail-told (leaf s x c) h all tail ends n last = absurd h
  tail-told (vector s d) h all tail ends n last = absurd h
  tail-told (pair s a d) h all tail ends n last = flat-told s a d (tail_no_tail w a d h) all tail ends n last

  split-told : (s : Option Span) (a d : Tree) → has_tail w d ≡ true → AllTold (a ∷ elements d) → (tail : Tail) → tail.ends ≡ is_nil (tail_of d) → (n : ℕ) → Tells (formed (tail_of d) n) (tail.made n)
      → Tells (pair_formed none_stays w n a d)
      (flat w (pair s a d) (map (element w) (a ∷ take (cut w d) (elements d))) (record { ends = false; made = flat w (rest_at (cut w d) d) (map (element w) (drop (cut w d) (elements d))) tail }) n)
  split-told s a d h all tail ends n last =
      list-told (pair s a d) a d (take (cut w d) (elements d)) (record { ends = false; made = flat w (rest_at (cut w d) d) (map (element w) (drop (cut w d) (elements d))) tail }) n
      (all.0, take-told (cut w d) (elements d) all.1) (tail_formed none_stays w n (rest_at (cut w d) d))
      (subst (λ ys. Tells (tail_formed none_stays w n (rest_at (cut w d) d)) (flat w (rest_at (cut w d) d) (map (element w) ys) tail n)) (sym (elements_at (cut w d) d))
      (tail-told (rest_at (cut w d) d) (cut_is w d h) (subst AllTold (elements_at (cut w d) d) (drop-told (cut w d) (elements d) all.1)) tail (ends ∙ ap is_nil (tail_at (cut w d) d)) n
      (subst (λ y. Tells (formed y n) (tail.made n)) (tail_at (cut w d) d) last)))
      (sym (tail-many w d h)) (rest-split none_stays w d n (level_behind (w a) n) h)

  module _ (s : Option Span) (a d : Tree) (all : AllTold (a ∷ elements d)) (last : Told (tail_of d)) where
    abbrev the-tail : Tail
    the-tail = record { ends = is_nil (tail_of d); made = quasi_at w (tail_of d) }

    pair-told : (n : ℕ) → Tells (pair_formed none_stays w n a d) (list_made w (pair s a d) (map (element w) (a ∷ elements d)) the-tail n)
    pair-told n =
        subst (λ us. Tells (pair_formed none_stays w n a d)
        (if splits w (is_nil (tail_of d)) us then flat w (pair s a d) (take (length (map (element w) (a ∷ elements d)) - 2) (map (element w) (a ∷ elements d))) (split_tail w (pair s a d) (map (element w) (a ∷ elements d)) the-tail) n
        else flat w (pair s a d) (map (element w) (a ∷ elements d)) the-tail n)) (sym (forms_are w (a ∷ elements d))) (by (splits w (is_nil (tail_of d)) (a ∷ elements d)) refl)
      where
        by : (b : Bool) → splits w (is_nil (tail_of d)) (a ∷ elements d) ≡ b
            → Tells (pair_formed none_stays w n a d)
            (if b then flat w (pair s a d) (take (length (map (element w) (a ∷ elements d)) - 2) (map (element w) (a ∷ elements d))) (split_tail w (pair s a d) (map (element w) (a ∷ elements d)) the-tail) n
            else flat w (pair s a d) (map (element w) (a ∷ elements d)) the-tail n)
        by false f = flat-told s a d (sym (splits_is w a d) ∙ f) all the-tail refl n (last n)
        by true f =
            let h : has_tail w d ≡ true = sym (splits_is w a d) ∙ f in
            let k : length (map (element w) (a ∷ elements d)) - 2 ≡ suc (cut w d) = (let l = length-are (a ∷ elements d) in let m = cut_length w d h in omega (arith, l, m)) in
            subst (λ i. Tells (pair_formed none_stays w n a d) (flat w (pair s a d) (take i (map (element w) (a ∷ elements d))) (record { ends = false; made = flat w (rest_at i (pair s a d)) (drop i (map (element w) (a ∷ elements d))) the-tail }) n)) (sym k)
            (subst (λ (xs : List ElementPlan). Tells (pair_formed none_stays w n a d) (flat w (pair s a d) (element w a ∷ xs) (record { ends = false; made = flat w (rest_at (cut w d) d) (drop (cut w d) (map (element w) (elements d))) the-tail }) n)) (sym (take-are (cut w d) (elements d)))
            (subst (λ (xs : List ElementPlan). Tells (pair_formed none_stays w n a d) (flat w (pair s a d) (map (element w) (a ∷ take (cut w d) (elements d))) (record { ends = false; made = flat w (rest_at (cut w d) d) xs the-tail }) n)) (sym (drop-are (cut w d) (elements d)))
            (split-told s a d h all the-tail refl n (last n))))

  -- Vectors.

  vector-told : (s : Option Span) (d : Tree) → AllTold (elements d) → (n : ℕ) → Tells (items_are_formed none_stays w d n) (vector_made w (vector s d) (map (element w) (elements d)) n)
  vector-told s d all n =
      then-ok (items_are_formed none_stays w d n) (walked w n no_pieces (map (element w) (elements d))) (vector_joined (vector s d))
      (subst (λ b. Tells b (walked w n no_pieces (map (element w) (elements d)))) (sym (items-formed none_stays w d n)) (walk-told (elements d) all n no_pieces))

  -- Forms.

  mutual
    told : (t : Tree) → Told t
    told (atom s a) n = refl
    told (leaf s x c) n = refl
    told (pair s a d) n =
        subst (λ (xs : List ElementPlan). Tells (pair_formed none_stays w n a d) (list_made w (pair s a d) ((a, quasi_at w a) ∷ xs) (record { ends = is_nil (tail_of d); made = tail_made w d }) n)) (sym (elements_are w d))
        (subst (λ (go : ℕ → Result PlainQuasi Bare). Tells (pair_formed none_stays w n a d) (list_made w (pair s a d) (map (element w) (a ∷ elements d)) (record { ends = is_nil (tail_of d); made = go }) n)) (sym (tail_is w d))
        (pair-told s a d (told a, all-told d) (tail-told-of d) n))
    told (vector s d) n = subst (λ (xs : List ElementPlan). Tells (items_are_formed none_stays w d n) (vector_made w (vector s d) xs n)) (sym (elements_are w d)) (vector-told s d (all-told d) n)

    all-told : (t : Tree) → AllTold (elements t)
    all-told (atom s a) = tt
    all-told (leaf s x c) = tt
    all-told (pair s a d) = (told a, all-told d)
    all-told (vector s d) = tt

    tail-told-of : (t : Tree) → Told (tail_of t)
    tail-told-of (atom s a) n = refl
    tail-told-of (leaf s x c) n = refl
    tail-told-of (pair s a d) n = tail-told-of d n
    tail-told-of (vector s d) n = subst (λ (xs : List ElementPlan). Tells (items_are_formed none_stays w d n) (vector_made w (vector s d) xs n)) (sym (elements_are w d)) (vector-told s d (all-told d) n)

pub quotes-are-decided : QuotesAreDecided
quotes-are-decided w t form place = by (quasi_at w t 0) (told w t 0)
  where
    by : (x : Result PlainQuasi Bare) → Tells (is_formed none_stays w t 0) x → QuoteIs (is_formed none_stays w t 0) (fault_at kind.BadForm form place []) (at_form form place x)
    by (Ok q) h = h
    by (Err f) h = (h.0, ap (fault_of form place) h.1)
