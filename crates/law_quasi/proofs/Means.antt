-- A plan makes the filled template.
use Rattle.std.proofs.Common.{◌≡◌, ℕ, zero, suc, ◌+◌, ◌<◌, ◌≤◌, Bool, true, false, List, [], ◌∷◌, length, take, drop, map, Option, None, Some, Ok, Err, refl, ap, sym, ◌∙◌, subst, arith}
use Rattle.std.specs.Prelude.{Result, ◌-◌, ◌&&◌, if◌then◌else◌}
use Rattle.base_data.specs.Gives.{◌>>=◌}
use Rattle.base_data.specs.declared.fault.Bare.{Bare}
use Rattle.base_data.specs.declared.span.Span.{Span}
use Rattle.stx_tree.specs.Tree.{Tree, atom, leaf, pair, vector, nil, chain}
use Rattle.stx_tree.specs.Measures.{size}
use Rattle.core_shapes.specs.Lists.{is_nil, elements, tail_of}
use Rattle.core_quasi.specs.Words.{WordOf, inner, reach}
use Rattle.core_quasi.specs.Parts.{rest_at, taken_at, first_word, operand_of}
use Rattle.core_quasi.specs.Plan.{PlainQuasi, constant, call, quasis}
use Rattle.core_quasi.specs.declared.maker.Maker.TheVariants as maker
use Rattle.core_quasi.specs.Quasi.{Tail, no_pieces, with_item, is_constant, step_by, step, walked, operand_or_bad, begun_by, finished, made_of, list_joined, vector_joined, vector_made, quasi_at, element, tail_element, forms_walked, forms_begun, flat_list, last_list, split_list}
use Rattle.core_quasi.specs.declared.parts.QuasiTaken.{QuasiTaken}
use Rattle.core_quasi.specs.declared.parts.QuasiTaken.TheVariants as taken
use Rattle.core_quasi.specs.declared.quasi.Pieces.{Pieces}
use Rattle.core_quasi.specs.declared.word.Reach.{Reach}
use Rattle.core_quasi.specs.declared.word.Reach.TheVariants as reached
use Rattle.core_quasi.proofs.Levels.{elements_are, list_split, list_flat}
use Rattle.core_quasi.proofs.Sizes.{forms_size, parts_within, split_size, tree_size}
use Rattle.law_quasi.specs.Makes.{FilledBy, plain, plain_items, makes}
use Rattle.law_quasi.specs.Filled.{value_of, spliced}
use Rattle.law_quasi.specs.Filled as report
use Rattle.law_quasi.proofs.Walked.{put_by, put, is_tail, list_by, filled, rest_filled, items_filled}
use Rattle.law_quasi.proofs.Same.{filled_same}
use Rattle.law_quasi.proofs.Puts.{puts, each_put, splices_put, item_put, made, not_constant, not_fixed}
use Rattle.law_quasi.proofs.Tails.{has_tail, cut, IsTail, splits_is, cut_is, tail_no_tail, cut_length, only_is, operand_long, elements_at, tail_at, plain_at, plain_all}

both_true : (a b : Bool) → (a && b) ≡ true → (a ≡ true) × (b ≡ true)
both_true true true h = (refl, refl)
both_true true false h = absurd (cc)
both_true false b h = absurd (cc)

-- a list without spans that ends in Nil
chain_elements : (ys : List Tree) (r : Tree) → chain (elements r) nil ≡ r → chain (elements (chain ys r)) nil ≡ chain ys r
chain_elements [] r h = h
chain_elements (y ∷ ys) r h = ap (pair None y) (chain_elements ys r h)

plain_elements : (d : Tree) → chain (map plain (elements d)) nil ≡ plain_items d
plain_elements (atom s a) = refl
plain_elements (leaf s x c) = refl
plain_elements (pair s a d) = ap (pair None (plain a)) (plain_elements d)
plain_elements (vector s d) = refl

vector_size : (d : Tree) → forms_size (elements d) < size d
vector_size d = omega (arith, parts_within d, tree_size (tail_of d))

module _ (w : WordOf) (f : FilledBy) where
  -- the plan of a form makes this, and a constant is the form itself
  abbrev pub Means : Tree → Tree → Result PlainQuasi Bare → Type 0
  Means v t (Ok q) = (makes f q ≡ v) × (is_constant q ≡ true → q ≡ constant t)
  Means v t (Err e) = Unit {0}

  -- the pieces put before a rest what g does, and constants what h does
  record PiecesMean (g h : Tree → Tree) (p : Pieces) : Type 0 where
    puts_are : (r : Tree) → puts f p r ≡ g r
    fixed_are : p.fixed ≡ true → (r : Tree) → g r ≡ h r

  abbrev Puts : (Tree → Tree) → (Tree → Tree) → Result Pieces Bare → Type 0
  Puts g h (Ok p) = PiecesMean g h p
  Puts g h (Err e) = Unit {0}

  -- elements before a rest
  abbrev put_all : ℕ → List Tree → Tree → Tree
  put_all m [] r = r
  put_all m (t ∷ ts) r = put w f m t (filled w f t m) (put_all m ts r)

  step_means : (m : ℕ) (t : Tree) (g h : Tree → Tree) (p : Pieces) → Means (filled w f t m) t (quasi_at w t m) → PiecesMean g h p
      → Puts (λ r. g (put w f m t (filled w f t m) r)) (λ r. h (pair None (plain t) r)) (step w m p (element w t))
  step_means m t g h p given mean = go (taken_at w m t)
    where
      kept : (r : Result PlainQuasi Bare) → Means (filled w f t m) t r
          → Puts (λ r. g (pair None (filled w f t m) r)) (λ r. h (pair None (plain t) r)) (r >>= λ q. Ok (with_item p q))
      kept (Err e) k = tt
      kept (Ok q) k = record {
        puts_are = λ r. item_put f p q r ∙ mean.puts_are (pair None (makes f q) r) ∙ ap (λ v. g (pair None v r)) k.0;
        fixed_are = λ b r.
            let two = both_true p.fixed (is_constant q) b in
            mean.fixed_are two.0 (pair None (filled w f t m) r) ∙ ap (λ v. h (pair None v r)) (sym k.0 ∙ ap (makes f) (k.1 two.1));
      }

      go : (x : QuasiTaken) → Puts (λ r. g (put_by f (filled w f t m) r x)) (λ r. h (pair None (plain t) r)) (step_by m (element w t) p x)
      go (taken.Each es) = record {
        puts_are = λ r. each_put f p es r ∙ mean.puts_are (chain (map f es) r);
        fixed_are = λ b r. absurd (cc);
      }
      go (taken.Spliced es) = record {
        puts_are = λ r. splices_put f p es r ∙ mean.puts_are _;
        fixed_are = λ b r. let e = not_fixed p es in absurd (cc);
      }
      go taken.Kept = kept (quasi_at w t m) given

  none_mean : PiecesMean (λ r. r) (λ r. r) no_pieces
  none_mean = record { puts_are = λ r. refl; fixed_are = λ b r. refl }

  module _ (k : ℕ) (ih : (t : Tree) (n : ℕ) → size t < k → Means (filled w f t n) t (quasi_at w t n)) where
    walk_means : (ts : List Tree) (m : ℕ) (g h : Tree → Tree) (p : Pieces) → forms_size ts < k → PiecesMean g h p
        → Puts (λ r. g (put_all m ts r)) (λ r. h (chain (map plain ts) r)) (walked w m p (map (element w) ts))
    walk_means [] m g h p b mean = mean
    walk_means (t ∷ ts) m g h p b mean =
        go (step w m p (element w t)) (step_means m t g h p (ih t m (omega (arith, b))) mean)
        (λ q. walk_means ts m (λ r. g (put w f m t (filled w f t m) r)) (λ r. h (pair None (plain t) r)) q (omega (arith, b, tree_size t)))
      where
        go : (s : Result Pieces Bare) → Puts (λ r. g (put w f m t (filled w f t m) r)) (λ r. h (pair None (plain t) r)) s
            → ((q : Pieces) → PiecesMean (λ r. g (put w f m t (filled w f t m) r)) (λ r. h (pair None (plain t) r)) q
            → Puts (λ r. g (put_all m (t ∷ ts) r)) (λ r. h (chain (map plain (t ∷ ts)) r)) (walked w m q (map (element w) ts)))
            → Puts (λ r. g (put_all m (t ∷ ts) r)) (λ r. h (chain (map plain (t ∷ ts)) r)) (s >>= λ q. walked w m q (map (element w) ts))
        go (Err e) s_means rest = tt
        go (Ok q) s_means rest = rest q s_means

    forms_mean : (ts : List Tree) (m : ℕ) → forms_size ts < k → Puts (put_all m ts) (chain (map plain ts)) (forms_walked w m ts)
    forms_mean ts m b = walk_means ts m (λ r. r) (λ r. r) no_pieces b none_mean

    -- a list of elements before a tail
    abbrev listed : Bool → List Tree → ℕ → Tree → Reach → Tree
    listed ends ts n v reached.Operand = value_of f (operand_of ends ts)
    listed ends ts n v reached.Refused = nil
    listed ends ts n v reached.Elements = put_all (inner (first_word w ts) n) ts v

    module _ (t : Tree) (ts : List Tree) (tail : Tree) (whole : plain t ≡ chain (map plain ts) (plain tail)) where
      joined_means : (g : Tree → Tree) (p : Pieces) (v : Tree) (q : PlainQuasi) → PiecesMean g (chain (map plain ts)) p → Means v tail (Ok q) → Means (g v) t (Ok (list_joined t p q))
      joined_means g p v q mean given = go (p.fixed && is_constant q) refl
        where
          go : (b : Bool) → (p.fixed && is_constant q) ≡ b → Means (g v) t (Ok (if b then constant t else made_of p.parts p.run q))
          go true e =
              let two = both_true p.fixed (is_constant q) e in
              (whole ∙ ap (chain (map plain ts)) (sym (ap (makes f) (given.1 two.1)) ∙ given.0) ∙ sym (mean.fixed_are two.0 v), λ c. refl)
          go false e = (made f p.parts p.run q ∙ mean.puts_are (makes f q) ∙ ap g given.0, λ c. let no = not_constant p.parts p.run q in absurd (cc))

      list_means : (tl : Tail) (n : ℕ) (v : Tree) → forms_size ts < k → Means v tail (tl.made n)
          → Means (listed tl.ends ts n v (reach (first_word w ts) n)) t (forms_begun w ts tl.ends n >>= finished t tl n)
      list_means tl n v b given = go (reach (first_word w ts) n)
        where
          by_operand : (o : Option Tree) → Means (value_of f o) t (operand_or_bad o >>= finished t tl n)
          by_operand None = tt
          by_operand (Some e) = (refl, λ c. absurd (cc))

          by_tail : (p : Pieces) → PiecesMean (put_all (inner (first_word w ts) n) ts) (chain (map plain ts)) p → (r : Result PlainQuasi Bare) → Means v tail r
              → Means (put_all (inner (first_word w ts) n) ts v) t (r >>= λ q. Ok (list_joined t p q))
          by_tail p mean (Err e) m = tt
          by_tail p mean (Ok q) m = joined_means (put_all (inner (first_word w ts) n) ts) p v q mean m

          by_pieces : (s : Result Pieces Bare) → Puts (put_all (inner (first_word w ts) n) ts) (chain (map plain ts)) s
              → Means (put_all (inner (first_word w ts) n) ts v) t (begun_by (operand_of tl.ends ts) s reached.Elements >>= finished t tl n)
          by_pieces (Err e) m = tt
          by_pieces (Ok p) m = by_tail p m (tl.made n) given

          go : (x : Reach) → Means (listed tl.ends ts n v x) t (begun_by (operand_of tl.ends ts) (forms_walked w (inner (first_word w ts) n) ts) x >>= finished t tl n)
          go reached.Operand = by_operand (operand_of tl.ends ts)
          go reached.Refused = tt
          go reached.Elements = by_pieces (forms_walked w (inner (first_word w ts) n) ts) (forms_mean ts (inner (first_word w ts) n) b)

    rest_flat : (d : Tree) (n m : ℕ) → has_tail w d ≡ false → rest_filled w f d n m ≡ put_all m (elements d) (filled w f (tail_of d) n)
    rest_flat (atom s a) n m h = refl
    rest_flat (leaf s x c) n m h = refl
    rest_flat (vector s d) n m h = refl
    rest_flat (pair s a d) n m h = go (is_tail w a d) h (rest_flat d n m)
      where
        go : (b : Bool) → (if b then true else has_tail w d) ≡ false → (has_tail w d ≡ false → rest_filled w f d n m ≡ put_all m (elements d) (filled w f (tail_of d) n))
            → (if b then filled w f (pair s a d) n else put w f m a (filled w f a m) (rest_filled w f d n m)) ≡ put_all m (a ∷ elements d) (filled w f (tail_of d) n)
        go true e rest = absurd (cc)
        go false e rest = ap (put w f m a (filled w f a m)) (rest e)

    rest_split : (d : Tree) (n m : ℕ) → has_tail w d ≡ true → rest_filled w f d n m ≡ put_all m (take (cut w d) (elements d)) (filled w f (rest_at (cut w d) d) n)
    rest_split (atom s a) n m h = absurd (cc)
    rest_split (leaf s x c) n m h = absurd (cc)
    rest_split (vector s d) n m h = absurd (cc)
    rest_split (pair s a d) n m h = go (is_tail w a d) h (rest_split d n m)
      where
        go : (b : Bool) → (if b then true else has_tail w d) ≡ true
            → (has_tail w d ≡ true → rest_filled w f d n m ≡ put_all m (take (cut w d) (elements d)) (filled w f (rest_at (cut w d) d) n))
            → (if b then filled w f (pair s a d) n else put w f m a (filled w f a m) (rest_filled w f d n m))
            ≡ put_all m (take (if b then 0 else suc (cut w d)) (a ∷ elements d)) (filled w f (rest_at (if b then 0 else suc (cut w d)) (pair s a d)) n)
        go true e rest = refl
        go false e rest = ap (put w f m a (filled w f a m)) (rest e)

    flat_filled : (s : Option Span) (a d : Tree) (n : ℕ) → has_tail w d ≡ false
        → filled w f (pair s a d) n ≡ listed (is_nil (tail_of d)) (a ∷ elements d) n (filled w f (tail_of d) n) (reach (w a) n)
    flat_filled s a d n h = go (reach (w a) n)
      where
        go : (x : Reach) → list_by w f n a d (filled w f a) (rest_filled w f d) x ≡ listed (is_nil (tail_of d)) (a ∷ elements d) n (filled w f (tail_of d) n) x
        go reached.Operand = ap (value_of f) (only_is a d)
        go reached.Refused = refl
        go reached.Elements = ap (put w f (inner (w a) n) a (filled w f a (inner (w a) n))) (rest_flat d n (inner (w a) n) h)

    split_filled : (s : Option Span) (a d : Tree) (n : ℕ) → has_tail w d ≡ true
        → filled w f (pair s a d) n ≡ listed false (a ∷ take (cut w d) (elements d)) n (filled w f (rest_at (cut w d) d) n) (reach (w a) n)
    split_filled s a d n h = go (reach (w a) n)
      where
        go : (x : Reach) → list_by w f n a d (filled w f a) (rest_filled w f d) x ≡ listed false (a ∷ take (cut w d) (elements d)) n (filled w f (rest_at (cut w d) d) n) x
        go reached.Operand = ap (value_of f) (only_is a d ∙ operand_long (is_nil (tail_of d)) (a ∷ elements d) (omega (arith, cut_length w d h)))
        go reached.Refused = refl
        go reached.Elements = ap (put w f (inner (w a) n) a (filled w f a (inner (w a) n))) (rest_split d n (inner (w a) n) h)

    -- a list that is not split
    flat_means : (s : Option Span) (a d : Tree) (n : ℕ) → forms_size (a ∷ elements d) + size (tail_of d) ≤ k → has_tail w d ≡ false
        → Means (filled w f (pair s a d) n) (pair s a d) (flat_list w (pair s a d) (a ∷ elements d) (tail_of d) n)
    flat_means s a d n b h =
        subst (λ v. Means v (pair s a d) (flat_list w (pair s a d) (a ∷ elements d) (tail_of d) n)) (sym (flat_filled s a d n h))
        (list_means (pair s a d) (a ∷ elements d) (tail_of d) (plain_all (pair s a d)) (tail_element w (tail_of d)) n (filled w f (tail_of d) n)
        (omega (arith, b, tree_size (tail_of d))) (ih (tail_of d) n (omega (arith, b, tree_size a))))

    -- the tail of a list that is split
    tail_means : (r : Tree) (n : ℕ) → forms_size (elements r) + size (tail_of r) ≤ k → IsTail w r → Means (filled w f r n) r (flat_list w r (elements r) (tail_of r) n)
    tail_means (atom s a) n b h = absurd h
    tail_means (leaf s x c) n b h = absurd h
    tail_means (pair s a d) n b h = flat_means s a d n b (tail_no_tail w a d h)
    tail_means (vector s d) n b h = absurd h

    split_means : (s : Option Span) (a d : Tree) (n : ℕ) → forms_size (a ∷ elements d) + size (tail_of d) ≤ k → has_tail w d ≡ true
        → Means (filled w f (pair s a d) n) (pair s a d)
        (split_list w (pair s a d) (a ∷ take (cut w d) (elements d)) (last_list w (rest_at (cut w d) d) (elements (rest_at (cut w d) d)) (tail_of (rest_at (cut w d) d))) n)
    split_means s a d n b h =
        let c = cut w d in
        let r = rest_at (cut w d) d in
        let is : forms_size (take (cut w d) (elements d)) + forms_size (elements (rest_at (cut w d) d)) ≡ forms_size (elements d) =
        ap (λ ts. forms_size (take (cut w d) (elements d)) + forms_size ts) (sym (elements_at (cut w d) d)) ∙ split_size (cut w d) (elements d) in
        let last : size (tail_of d) ≡ size (tail_of (rest_at (cut w d) d)) = ap size (tail_at (cut w d) d) in
        subst (λ v. Means v (pair s a d) (split_list w (pair s a d) (a ∷ take (cut w d) (elements d)) (last_list w (rest_at (cut w d) d) (elements (rest_at (cut w d) d)) (tail_of (rest_at (cut w d) d))) n))
        (sym (split_filled s a d n h))
        (list_means (pair s a d) (a ∷ take (cut w d) (elements d)) (rest_at (cut w d) d) (ap (pair None (plain a)) (plain_at (cut w d) d))
        (record { ends = false; made = flat_list w (rest_at (cut w d) d) (elements (rest_at (cut w d) d)) (tail_of (rest_at (cut w d) d)) }) n (filled w f (rest_at (cut w d) d) n)
        (omega (arith, b, is, last, tree_size (tail_of d)))
        (tail_means (rest_at (cut w d) d) n (omega (arith, b, is, last)) (cut_is w d h)))

    pair_means : (s : Option Span) (a d : Tree) (n : ℕ) → size (pair s a d) ≤ k → Means (filled w f (pair s a d) n) (pair s a d) (quasi_at w (pair s a d) n)
    pair_means s a d n b = go (has_tail w d) refl
      where
        within : forms_size (a ∷ elements d) + size (tail_of d) ≤ k
        within = omega (arith, b, parts_within (pair s a d))

        go : (c : Bool) → has_tail w d ≡ c → Means (filled w f (pair s a d) n) (pair s a d) (quasi_at w (pair s a d) n)
        go false h =
            subst (λ r. Means (filled w f (pair s a d) n) (pair s a d) r) (sym (list_flat w n (pair s a d) refl (splits_is w a d ∙ h))) (flat_means s a d n within h)
        go true h =
            let e : length (a ∷ elements d) - 2 ≡ suc (cut w d) = omega (arith, cut_length w d h) in
            subst (λ r. Means (filled w f (pair s a d) n) (pair s a d) r)
            (sym (list_split w n (pair s a d) refl (splits_is w a d ∙ h)
            ∙ ap (λ c. split_list w (pair s a d) (take c (a ∷ elements d)) (last_list w (rest_at c (pair s a d)) (drop c (a ∷ elements d)) (tail_of d)) n) e
            ∙ (λ i. split_list w (pair s a d) (a ∷ take (cut w d) (elements d)) (last_list w (rest_at (cut w d) d) (elements_at (cut w d) d i) (tail_at (cut w d) d i)) n)))
            (split_means s a d n within h)

    items_are : (d : Tree) (n : ℕ) → items_filled w f d n ≡ put_all n (elements d) nil
    items_are (atom s a) n = refl
    items_are (leaf s x c) n = refl
    items_are (pair s a d) n = ap (put w f n a (filled w f a n)) (items_are d n)
    items_are (vector s d) n = refl

    put_elements : (x : QuasiTaken) (v r : Tree) → chain (elements r) nil ≡ r → chain (elements (put_by f v r x)) nil ≡ put_by f v r x
    put_elements (taken.Each es) v r h = chain_elements (map f es) r h
    put_elements (taken.Spliced es) v r h = go es
      where
        go : (es : List Tree) → chain (elements (spliced f es r)) nil ≡ spliced f es r
        go [] = h
        go (e ∷ es) = chain_elements (elements (f e)) (spliced f es r) (go es)
    put_elements taken.Kept v r h = ap (pair None v) h

    all_elements : (ts : List Tree) (n : ℕ) → chain (elements (put_all n ts nil)) nil ≡ put_all n ts nil
    all_elements [] n = refl
    all_elements (t ∷ ts) n = put_elements (taken_at w n t) (filled w f t n) (put_all n ts nil) (all_elements ts n)

    vector_means : (s : Option Span) (d : Tree) (n : ℕ) → forms_size (elements d) < k → Means (filled w f (vector s d) n) (vector s d) (quasi_at w (vector s d) n)
    vector_means s d n b =
        subst (λ xs. Means (filled w f (vector s d) n) (vector s d) (vector_made w (vector s d) xs n)) (sym (elements_are w d))
        (by_pieces (forms_walked w n (elements d)) (forms_mean (elements d) n b))
      where
        by_fixed : (p : Pieces) → PiecesMean (put_all n (elements d)) (chain (map plain (elements d))) p → (b : Bool) → p.fixed ≡ b
            → Means (filled w f (vector s d) n) (vector s d) (Ok (if b then constant (vector s d) else call maker.ListToVector (quasis (made_of p.parts p.run (constant nil) ∷ []))))
        by_fixed p mean true e =
            (ap (vector None) (sym (plain_elements d) ∙ sym (mean.fixed_are e nil) ∙ sym (items_are d n)), λ c. refl)
        by_fixed p mean false e =
            let is : makes f (made_of p.parts p.run (constant nil)) ≡ put_all n (elements d) nil = made f p.parts p.run (constant nil) ∙ mean.puts_are nil in
            (ap (λ v. vector None (chain (elements v) nil)) is ∙ ap (vector None) (all_elements (elements d) n ∙ sym (items_are d n)), λ c. absurd (cc))

        by_pieces : (r : Result Pieces Bare) → Puts (put_all n (elements d)) (chain (map plain (elements d))) r
            → Means (filled w f (vector s d) n) (vector s d) (r >>= λ p. Ok (vector_joined (vector s d) p))
        by_pieces (Err e) m = tt
        by_pieces (Ok p) m = by_fixed p m p.fixed refl

  all_mean : (k : ℕ) (t : Tree) (n : ℕ) → size t < k → Means (filled w f t n) t (quasi_at w t n)
  all_mean zero t n b = absurd (omega (arith, b))
  all_mean (suc k) (atom s a) n b = (refl, λ c. refl)
  all_mean (suc k) (leaf s x c) n b = (refl, λ c. refl)
  all_mean (suc k) (pair s a d) n b = pair_means k (all_mean k) s a d n (omega (arith, b))
  all_mean (suc k) (vector s d) n b = vector_means k (all_mean k) s d n (omega (arith, b, vector_size d))

  -- what a plan makes
  pub plan_means : (t : Tree) (n : ℕ) (q : PlainQuasi) → quasi_at w t n ≡ Ok q → makes f q ≡ report.filled w f t n
  plan_means t n q e =
      let m : Means (filled w f t n) t (Ok q) = subst (λ r. Means (filled w f t n) t r) e (all_mean (suc (size t)) t n (omega arith)) in
      m.0 ∙ sym (filled_same w f t n)
