-- A template of `quasisyntax` comes to a template of `syntax` where it is well formed, and else it is bad, unless it passes a limit of trees.
use Rattle.std.proofs.Common.{◌≡◌, ℕ, zero, suc, Bool, true, false, List, [], ◌∷◌, length, take, drop, map, Option, None, Some, Ok, Err, refl, ap, sym, ◌∙◌, subst, arith, inl, inr}
use Rattle.std.specs.Prelude.{Result, ◌⊎◌, ◌-◌, ◌&&◌, ◌||◌, is_some, if◌then◌else◌}
use Rattle.base_data.specs.Gives.{◌>>=◌}
use Rattle.base_data.specs.declared.fault.Bare.{Bare}
use Rattle.base_data.specs.declared.fault.FaultKind.TheVariants as kind
use Rattle.base_data.specs.declared.span.Span.{Span}
use Rattle.stx_tree.specs.Measures.{fits, within, too_deep}
use Rattle.stx_tree.specs.Tree.{Tree, atom, leaf, pair, vector, list_of, vector_of}
use Rattle.core_shapes.specs.At.{fault_at}
use Rattle.core_shapes.specs.Lists.{is_nil, elements, tail_of, if_some}
use Rattle.core_quasi.specs.Words.{inner, reach}
use Rattle.core_quasi.specs.Parts.{bad, rest_at, splits, taken_by, behind_head, first_word, operand_of}
use Rattle.core_quasi.specs.Quasi.{fault_of, at_form}
use Rattle.core_quasi.specs.QuasiSyntax.{Looked, Inserts, then_insert, no_trees, with_part, unchanged, rebuilt, list_joined, vector_joined, joined, ElementInserts, step_by, step, walked, operand_or_bad, begun_by, Tail, finished, flat, split_tail, escapes, list_made, vector_made, syntax_at, tail_made, element, answer}
use Rattle.core_quasi.specs.declared.quasi_syntax.Begun.TheVariants as begun
use Rattle.core_quasi.specs.declared.quasi_syntax.Insert.{Insert}
use Rattle.core_quasi.specs.declared.quasi_syntax.QuasiPart.{QuasiPart}
use Rattle.core_quasi.specs.declared.quasi_syntax.QuasiRow.{QuasiRow}
use Rattle.core_quasi.specs.declared.word.QuasiWord.{QuasiWord}
use Rattle.core_quasi.specs.declared.word.QuasiWord.TheVariants as word
use Rattle.core_quasi.proofs.InsertLevels.{elements_are, tail_is, forms_are}
use Rattle.law_quasi.specs.Filled.{level_behind, only}
use Rattle.law_quasi.proofs.Tails.{has_tail, cut, IsTail, splits_is, cut_is, tail_no_tail, cut_length, only_is, elements_at, tail_at}
use Rattle.law_quasi_faults.specs.Formed.{ellipsis_stays, stands_for_operands, element_formed, list_formed, is_formed, rest_is_formed, items_are_formed}
use Rattle.law_quasi_faults.specs.Decided.{SyntaxIs, SyntaxesAreDecided}
use Rattle.law_quasi_faults.proofs.Lists.{and-assoc, inner-is, tail-many, all_formed, items-formed, pair_formed, tail_formed, rest-flat, rest-split}

abbrev IsWrong : Bool → Bare → Type 0
IsWrong b f = ((b ≡ false) × (f ≡ bad)) ⊎ (f ≡ too_deep)

-- a result is there where this holds, and else it is bad; or it is too deep
abbrev Tells : {A : Type 0} → Bool → Result A Bare → Type 0
Tells b (Ok x) = b ≡ true
Tells b (Err f) = IsWrong b f

wrong-before : (b c : Bool) (f : Bare) → IsWrong b f → IsWrong (b && c) f
wrong-before b c f (inl h) = inl (ap (λ d. d && c) h.0, h.1)
wrong-before b c f (inr h) = inr h

then-tells : {A B : Type 0} (b c : Bool) (x : Result (A × List Insert) Bare) (k : A → Inserts B) → Tells b x → ((a : A) (is : List Insert) → Tells c (k a is)) → Tells (b && c) (then_insert x k)
then-tells b c (Ok p) k h next = subst (λ d. Tells (d && c) (k p.0 p.1)) (sym h) (next p.0 p.1)
then-tells b c (Err f) k h next = wrong-before b c f h

then-still : {A B : Type 0} (b : Bool) (x : Result (A × List Insert) Bare) (k : A → Inserts B) → Tells b x → ((a : A) (is : List Insert) → Tells true (k a is)) → Tells b (then_insert x k)
then-still b (Ok p) k h next = subst (λ d. Tells d (k p.0 p.1)) (sym h) (next p.0 p.1)
then-still b (Err f) k h next = h

-- what is built again may be too deep
built-told : (t u : Tree) (v : QuasiPart) (b : Bool) (is : List Insert) → Tells true (joined (if b then rebuilt t (within u) else Ok v) is)
unfolding within
built-told t u v true is = by (fits u)
  where
    by : (b : Bool) → Tells true (joined (rebuilt t (if b then Ok u else Err too_deep)) is)
    by true = refl
    by false = inr refl
built-told t u v false is = refl

module _ (w : Looked) where
  abbrev formed : Tree → ℕ → Bool
  formed t n = is_formed ellipsis_stays w.words t n

  abbrev all-are : ℕ → List Tree → Bool
  all-are m ts = all_formed ellipsis_stays w.words m ts

  abbrev Told : Tree → Type 0
  Told t = (n : ℕ) (is : List Insert) → Tells (formed t n) (syntax_at w t n is)

  abbrev AllTold : List Tree → Type 0
  AllTold [] = Unit {0}
  AllTold (t ∷ ts) = Told t × AllTold ts

  take-told : (k : ℕ) (ts : List Tree) → AllTold ts → AllTold (take k ts)
  take-told zero ts h = tt
  take-told (suc k) [] h = tt
  take-told (suc k) (t ∷ ts) h = (h.0, take-told k ts h.1)

  drop-told : (k : ℕ) (ts : List Tree) → AllTold ts → AllTold (drop k ts)
  drop-told zero ts h = h
  drop-told (suc k) [] h = tt
  drop-told (suc k) (t ∷ ts) h = drop-told k ts h.1

  take-are : (k : ℕ) (ts : List Tree) → take k (map (element w) ts) ≡ map (element w) (take k ts)
  take-are zero ts = refl
  take-are (suc k) [] = refl
  take-are (suc k) (t ∷ ts) = ap (λ (xs : List ElementInserts). element w t ∷ xs) (take-are k ts)

  drop-are : (k : ℕ) (ts : List Tree) → drop k (map (element w) ts) ≡ map (element w) (drop k ts)
  drop-are zero ts = refl
  drop-are (suc k) [] = refl
  drop-are (suc k) (t ∷ ts) = drop-are k ts

  length-are : (ts : List Tree) → length (map (element w) ts) ≡ length ts
  length-are [] = refl
  length-are (t ∷ ts) = ap suc (length-are ts)

  -- Elements.

  kept-told : (m : ℕ) (t : Tree) (row : QuasiRow) (is : List Insert) → Told t → Tells (formed t m) (then_insert (syntax_at w t m is) (λ p js. Ok (with_part row p, js)))
  kept-told m t row is told = then-still (formed t m) (syntax_at w t m is) (λ p js. Ok (with_part row p, js)) (told m is) (λ p js. refl)

  form-told : (s : Option Span) (h d : Tree) (row : QuasiRow) (is : List Insert) → Told (pair s h d) → (x : QuasiWord) (b : Bool)
      → Tells (stands_for_operands x b || formed (pair s h d) 0) (step_by w 0 (element w (pair s h d)) row (taken_by x (if_some (if b then Some (h ∷ elements d) else None) behind_head)) is)
  form-told s h d row is told word.Lower true = refl
  form-told s h d row is told word.Splice true = refl
  form-told s h d row is told word.Lower false = kept-told 0 (pair s h d) row is told
  form-told s h d row is told word.Splice false = kept-told 0 (pair s h d) row is told
  form-told s h d row is told word.Raise b = kept-told 0 (pair s h d) row is told
  form-told s h d row is told word.Escape b = kept-told 0 (pair s h d) row is told
  form-told s h d row is told word.Plain b = kept-told 0 (pair s h d) row is told

  element-told : (m : ℕ) (t : Tree) (row : QuasiRow) (is : List Insert) → Told t → Tells (element_formed w.words m t (formed t m)) (step w m row (element w t) is)
  element-told (suc m) t row is told = kept-told (suc m) t row is told
  element-told zero (atom s a) row is told = kept-told 0 (atom s a) row is told
  element-told zero (leaf s x c) row is told = kept-told 0 (leaf s x c) row is told
  element-told zero (pair s h d) row is told = form-told s h d row is told (w.words h) (is_nil (tail_of d))
  element-told zero (vector s d) row is told = kept-told 0 (vector s d) row is told

  walk-told : (ts : List Tree) → AllTold ts → (m : ℕ) (row : QuasiRow) (is : List Insert) → Tells (all-are m ts) (walked w m row (map (element w) ts) is)
  walk-told [] h m row is = refl
  walk-told (t ∷ ts) h m row is =
      then-tells (element_formed w.words m t (formed t m)) (all-are m ts) (step w m row (element w t) is) (λ q js. walked w m q (map (element w) ts) js) (element-told m t row is h.0)
      (λ q js. walk-told ts h.1 m q js)

  -- Lists.

  finish-told : (t : Tree) (tail : Tail) (n : ℕ) (c : Bool) (row : QuasiRow) (is : List Insert) → Tells c (tail.made n is) → Tells c (finished t tail n (begun.Trees row) is)
  finish-told t tail n c row is last =
      then-still c (tail.made n is) (λ q. joined (list_joined t row q)) last (λ q js. built-told t (list_of row.trees (Some q.tree)) (unchanged t) (row.changed || q.changed) js)

  parts-told : (t : Tree) (tail : Tail) (n : ℕ) (b c : Bool) (x : Result (QuasiRow × List Insert) Bare) → Tells b x → ((is : List Insert) → Tells c (tail.made n is))
      → Tells (b && c) (then_insert (then_insert x (λ row js. Ok (begun.Trees row, js))) (finished t tail n))
  parts-told t tail n b c (Ok p) h last = subst (λ d. Tells (d && c) (finished t tail n (begun.Trees p.0) p.1)) (sym h) (finish-told t tail n c p.0 p.1 (last p.1))
  parts-told t tail n b c (Err f) h last = wrong-before b c f h

  -- a list of a first element and others, before what ends it
  module _ (t a d : Tree) (ts : List Tree) (tail : Tail) where
    abbrev Given : ℕ → Bool → QuasiWord → Type 0
    Given n c x = rest_is_formed ellipsis_stays w.words d n (level_behind x n) ≡ (all-are (level_behind x n) ts && c)

    operand-told : (n : ℕ) (o : Option Tree) (is : List Insert) → Tells (is_some o) (then_insert (operand_or_bad o is) (finished t tail n))
    operand-told n None is = inl (refl, refl)
    operand-told n (Some e) is = refl

    walked-told : (n : ℕ) → AllTold (a ∷ ts) → (c : Bool) → ((is : List Insert) → Tells c (tail.made n is)) → (x : QuasiWord) → Given n c x → (is : List Insert)
        → Tells (element_formed w.words (level_behind x n) a (formed a (level_behind x n)) && rest_is_formed ellipsis_stays w.words d n (level_behind x n))
        (then_insert (then_insert (walked w (inner x n) no_trees (map (element w) (a ∷ ts)) is) (λ row js. Ok (begun.Trees row, js))) (finished t tail n))
    walked-told n all c last x given is =
        let same : (all-are (level_behind x n) (a ∷ ts) && c) ≡ (element_formed w.words (level_behind x n) a (formed a (level_behind x n)) && rest_is_formed ellipsis_stays w.words d n (level_behind x n)) =
        and-assoc (element_formed w.words (level_behind x n) a (formed a (level_behind x n))) (all-are (level_behind x n) ts) c
        ∙ ap (λ b. element_formed w.words (level_behind x n) a (formed a (level_behind x n)) && b) (sym given) in
        subst (λ b. Tells b (then_insert (then_insert (walked w (inner x n) no_trees (map (element w) (a ∷ ts)) is) (λ row js. Ok (begun.Trees row, js))) (finished t tail n))) same
        (parts-told t tail n (all-are (level_behind x n) (a ∷ ts)) c (walked w (inner x n) no_trees (map (element w) (a ∷ ts)) is)
        (subst (λ m. Tells (all-are (level_behind x n) (a ∷ ts)) (walked w m no_trees (map (element w) (a ∷ ts)) is)) (sym (inner-is x n)) (walk-told (a ∷ ts) all (level_behind x n) no_trees is)) last)

    list-by : (n : ℕ) → AllTold (a ∷ ts) → (c : Bool) → ((is : List Insert) → Tells c (tail.made n is)) → operand_of tail.ends (a ∷ ts) ≡ only d → (x : QuasiWord) → Given n c x → (is : List Insert)
        → Tells (list_formed w.words n a d (record { first = formed a; rest = rest_is_formed ellipsis_stays w.words d }) x)
        (then_insert (begun_by (operand_of tail.ends (a ∷ ts)) (walked w (inner x n) no_trees (map (element w) (a ∷ ts))) (reach x n) is) (finished t tail n))
    list-by zero all c last e word.Lower given is = subst (λ o. Tells (is_some o) (then_insert (operand_or_bad (operand_of tail.ends (a ∷ ts)) is) (finished t tail 0))) e (operand-told 0 (operand_of tail.ends (a ∷ ts)) is)
    list-by zero all c last e word.Splice given is = inl (refl, refl)
    list-by zero all c last e word.Raise given is = walked-told 0 all c last word.Raise given is
    list-by zero all c last e word.Escape given is = walked-told 0 all c last word.Escape given is
    list-by zero all c last e word.Plain given is = walked-told 0 all c last word.Plain given is
    list-by (suc n) all c last e word.Lower given is = walked-told (suc n) all c last word.Lower given is
    list-by (suc n) all c last e word.Splice given is = walked-told (suc n) all c last word.Splice given is
    list-by (suc n) all c last e word.Raise given is = walked-told (suc n) all c last word.Raise given is
    list-by (suc n) all c last e word.Escape given is = walked-told (suc n) all c last word.Escape given is
    list-by (suc n) all c last e word.Plain given is = walked-told (suc n) all c last word.Plain given is

    list-told : (n : ℕ) → AllTold (a ∷ ts) → (c : Bool) → ((is : List Insert) → Tells c (tail.made n is)) → operand_of tail.ends (a ∷ ts) ≡ only d → Given n c (w.words a) → (is : List Insert)
        → Tells (pair_formed ellipsis_stays w.words n a d) (flat w t (map (element w) (a ∷ ts)) tail n is)
    list-told n all c last e given is =
        subst (λ us. Tells (pair_formed ellipsis_stays w.words n a d) (then_insert (begun_by (operand_of tail.ends us) (walked w (inner (first_word w.words us) n) no_trees (map (element w) (a ∷ ts))) (reach (first_word w.words us) n) is) (finished t tail n)))
        (sym (forms_are w (a ∷ ts))) (list-by n all c last e (w.words a) given is)

  -- a list that is not split
  flat-told : (s : Option Span) (a d : Tree) → has_tail w.words d ≡ false → AllTold (a ∷ elements d) → (tail : Tail) → tail.ends ≡ is_nil (tail_of d) → (n : ℕ)
      → ((is : List Insert) → Tells (formed (tail_of d) n) (tail.made n is)) → (is : List Insert)
      → Tells (pair_formed ellipsis_stays w.words n a d) (flat w (pair s a d) (map (element w) (a ∷ elements d)) tail n is)
  flat-told s a d h all tail ends n last is =
      list-told (pair s a d) a d (elements d) tail n all (formed (tail_of d) n) last (ap (λ b. operand_of b (a ∷ elements d)) ends ∙ sym (only_is a d))
      (rest-flat ellipsis_stays w.words d n (level_behind (w.words a) n) h) is

  -- the tail of a list that is split
  tail-told : (d : Tree) → IsTail w.words d → AllTold (elements d) → (tail : Tail) → tail.ends ≡ is_nil (tail_of d) → (n : ℕ)
      → ((is : List Insert) → Tells (formed (tail_of d) n) (tail.made n is)) → (is : List Insert)
      → Tells (tail_formed ellipsis_stays w.words n d) (flat w d (map (element w) (elements d)) tail n is)
  tail-told (atom s a) h all tail ends n last is = absurd h
  tail-told (leaf s x c) h all tail ends n last is = absurd h
  tail-told (vector s d) h all tail ends n last is = absurd h
  tail-told (pair s a d) h all tail ends n last is = flat-told s a d (tail_no_tail w.words a d h) all tail ends n last is

  split-told : (s : Option Span) (a d : Tree) → has_tail w.words d ≡ true → AllTold (a ∷ elements d) → (tail : Tail) → tail.ends ≡ is_nil (tail_of d) → (n : ℕ)
      → ((is : List Insert) → Tells (formed (tail_of d) n) (tail.made n is)) → (is : List Insert)
      → Tells (pair_formed ellipsis_stays w.words n a d)
      (flat w (pair s a d) (map (element w) (a ∷ take (cut w.words d) (elements d))) (record { ends = false; made = flat w (rest_at (cut w.words d) d) (map (element w) (drop (cut w.words d) (elements d))) tail }) n is)
  split-told s a d h all tail ends n last is =
      list-told (pair s a d) a d (take (cut w.words d) (elements d)) (record { ends = false; made = flat w (rest_at (cut w.words d) d) (map (element w) (drop (cut w.words d) (elements d))) tail }) n
      (all.0, take-told (cut w.words d) (elements d) all.1) (tail_formed ellipsis_stays w.words n (rest_at (cut w.words d) d))
      (λ is. subst (λ ys. Tells (tail_formed ellipsis_stays w.words n (rest_at (cut w.words d) d)) (flat w (rest_at (cut w.words d) d) (map (element w) ys) tail n is)) (sym (elements_at (cut w.words d) d))
      (tail-told (rest_at (cut w.words d) d) (cut_is w.words d h) (subst AllTold (elements_at (cut w.words d) d) (drop-told (cut w.words d) (elements d) all.1)) tail (ends ∙ ap is_nil (tail_at (cut w.words d) d)) n
      (λ is. subst (λ y. Tells (formed y n) (tail.made n is)) (tail_at (cut w.words d) d) (last is)) is))
      (sym (tail-many w.words d h)) (rest-split ellipsis_stays w.words d n (level_behind (w.words a) n) h) is

  -- an ellipsis before one operand
  stays-is : (x : QuasiWord) (b : Bool) (a : Tree) (ts : List Tree) → (ellipsis_stays x && is_some (operand_of b (a ∷ ts))) ≡ escapes x b (a ∷ ts)
  stays-is word.Raise b a ts = refl
  stays-is word.Lower b a ts = refl
  stays-is word.Splice b a ts = refl
  stays-is word.Plain b a ts = refl
  stays-is word.Escape false a ts = refl
  stays-is word.Escape true a [] = refl
  stays-is word.Escape true a (y ∷ []) = refl
  stays-is word.Escape true a (y ∷ (z ∷ zs)) = refl

  module _ (s : Option Span) (a d : Tree) (all : AllTold (a ∷ elements d)) (last : Told (tail_of d)) where
    abbrev the-list : Tree
    the-list = pair s a d

    abbrev the-tail : Tail
    the-tail = record { ends = is_nil (tail_of d); made = syntax_at w (tail_of d) }

    abbrev all-elements : List ElementInserts
    all-elements = map (element w) (a ∷ elements d)

    formed-is : (n : ℕ) → (escapes (w.words a) (is_nil (tail_of d)) (a ∷ elements d) || pair_formed ellipsis_stays w.words n a d) ≡ formed the-list n
    formed-is n =
        ap (λ b. b || pair_formed ellipsis_stays w.words n a d)
        (sym (ap (λ o. ellipsis_stays (w.words a) && is_some o) (only_is a d) ∙ stays-is (w.words a) (is_nil (tail_of d)) a (elements d)))

    pair-told : (n : ℕ) (is : List Insert) → Tells (formed the-list n) (list_made w the-list all-elements the-tail n is)
    pair-told n is =
        subst (λ f. Tells f (list_made w the-list all-elements the-tail n is)) (formed-is n)
        (subst (λ us. Tells (escapes (w.words a) (is_nil (tail_of d)) (a ∷ elements d) || pair_formed ellipsis_stays w.words n a d)
        (if escapes (first_word w.words us) (is_nil (tail_of d)) us then Ok (unchanged the-list, is)
        else if splits w.words (is_nil (tail_of d)) us then flat w the-list (take (length all-elements - 2) all-elements) (split_tail w the-list all-elements the-tail) n is
        else flat w the-list all-elements the-tail n is)) (sym (forms_are w (a ∷ elements d)))
        (by (escapes (w.words a) (is_nil (tail_of d)) (a ∷ elements d)) (splits w.words (is_nil (tail_of d)) (a ∷ elements d)) refl))
      where
        by : (b c : Bool) → splits w.words (is_nil (tail_of d)) (a ∷ elements d) ≡ c
            → Tells (b || pair_formed ellipsis_stays w.words n a d)
            (if b then Ok (unchanged the-list, is)
            else if c then flat w the-list (take (length all-elements - 2) all-elements) (split_tail w the-list all-elements the-tail) n is
            else flat w the-list all-elements the-tail n is)
        by true c f = refl
        by false false f = flat-told s a d (sym (splits_is w.words a d) ∙ f) all the-tail refl n (last n) is
        by false true f =
            let h : has_tail w.words d ≡ true = sym (splits_is w.words a d) ∙ f in
            let k : length all-elements - 2 ≡ suc (cut w.words d) = (let l = length-are (a ∷ elements d) in let m = cut_length w.words d h in omega (arith, l, m)) in
            subst (λ i. Tells (pair_formed ellipsis_stays w.words n a d) (flat w the-list (take i all-elements) (record { ends = false; made = flat w (rest_at i the-list) (drop i all-elements) the-tail }) n is)) (sym k)
            (subst (λ (xs : List ElementInserts). Tells (pair_formed ellipsis_stays w.words n a d) (flat w the-list (element w a ∷ xs) (record { ends = false; made = flat w (rest_at (cut w.words d) d) (drop (cut w.words d) (map (element w) (elements d))) the-tail }) n is)) (sym (take-are (cut w.words d) (elements d)))
            (subst (λ (xs : List ElementInserts). Tells (pair_formed ellipsis_stays w.words n a d) (flat w the-list (map (element w) (a ∷ take (cut w.words d) (elements d))) (record { ends = false; made = flat w (rest_at (cut w.words d) d) xs the-tail }) n is)) (sym (drop-are (cut w.words d) (elements d)))
            (split-told s a d h all the-tail refl n (last n) is)))

  -- Vectors.

  vector-told : (s : Option Span) (d : Tree) → AllTold (elements d) → (n : ℕ) (is : List Insert) → Tells (items_are_formed ellipsis_stays w.words d n) (vector_made w (vector s d) (map (element w) (elements d)) n is)
  vector-told s d all n is =
      then-still (items_are_formed ellipsis_stays w.words d n) (walked w n no_trees (map (element w) (elements d)) is) (λ row. joined (vector_joined (vector s d) row))
      (subst (λ b. Tells b (walked w n no_trees (map (element w) (elements d)) is)) (sym (items-formed ellipsis_stays w.words d n)) (walk-told (elements d) all n no_trees is))
      (λ row js. built-told (vector s d) (vector_of row.trees) (unchanged (vector s d)) row.changed js)

  -- Forms.

  mutual
    told : (t : Tree) → Told t
    told (atom s a) n is = refl
    told (leaf s x c) n is = refl
    told (pair s a d) n is =
        subst (λ (xs : List ElementInserts). Tells (formed (pair s a d) n) (list_made w (pair s a d) ((a, syntax_at w a) ∷ xs) (record { ends = is_nil (tail_of d); made = tail_made w d }) n is)) (sym (elements_are w d))
        (subst (λ (go : ℕ → Inserts QuasiPart). Tells (formed (pair s a d) n) (list_made w (pair s a d) (map (element w) (a ∷ elements d)) (record { ends = is_nil (tail_of d); made = go }) n is)) (sym (tail_is w d))
        (pair-told s a d (told a, all-told d) (tail-told-of d) n is))
    told (vector s d) n is = subst (λ (xs : List ElementInserts). Tells (items_are_formed ellipsis_stays w.words d n) (vector_made w (vector s d) xs n is)) (sym (elements_are w d)) (vector-told s d (all-told d) n is)

    all-told : (t : Tree) → AllTold (elements t)
    all-told (atom s a) = tt
    all-told (leaf s x c) = tt
    all-told (pair s a d) = (told a, all-told d)
    all-told (vector s d) = tt

    tail-told-of : (t : Tree) → Told (tail_of t)
    tail-told-of (atom s a) n is = refl
    tail-told-of (leaf s x c) n is = refl
    tail-told-of (pair s a d) n is = tail-told-of d n is
    tail-told-of (vector s d) n is = subst (λ (xs : List ElementInserts). Tells (items_are_formed ellipsis_stays w.words d n) (vector_made w (vector s d) xs n is)) (sym (elements_are w d)) (vector-told s d (all-told d) n is)

pub syntaxes-are-decided : SyntaxesAreDecided
syntaxes-are-decided w t form place = by (syntax_at w t 0 []) (told w t 0 [])
  where
    by : (x : Result (QuasiPart × List Insert) Bare) → Tells (is_formed ellipsis_stays w.words t 0) x
        → SyntaxIs (is_formed ellipsis_stays w.words t 0) (fault_at kind.BadForm form place []) (fault_at kind.TooDeep form place []) (at_form form place x >>= λ p. Ok (answer p))
    by (Ok p) h = h
    by (Err f) (inl h) = inl (h.0, ap (fault_of form place) h.1)
    by (Err f) (inr h) = inr (ap (fault_of form place) h)
