-- In whole cells the bound of `equal?` doesn't show.
use Rattle.std.proofs.Common.{◌≡◌, ℕ, zero, suc, ◌<◌, ◌==◌, ◌&&◌, Bool, true, false, List, [], ◌∷◌, length, Option, None, Some, refl, sym, ap, ◌∙◌, inl, inr, arith}
use Rattle.std.specs.Prelude.{◌⊎◌, nat_eq, IsTrue}
use Rattle.std.specs.Cmp.Lexicographic.{pointwise}
use Rattle.std.proofs.Math.Dec.{eqb-zero-suc, eqb-suc-zero, eqb-suc-suc}
use Rattle.base_data.specs.Elements.{Each}
use Rattle.base_region.specs.declared.region.Place.{Place}
use Rattle.eval_value.specs.Cells.{pair_at, vector_at, string_at, is_found, FitsIn, IsBelow, Lies, WholeCells}
use Rattle.eval_value.specs.declared.cell.Cell.{Cell}
use Rattle.eval_value.specs.declared.value.Value.{Value}
use Rattle.eval_value.specs.declared.value.Value.TheVariants as value
use Rattle.eval_value.proofs.Wholes.{fits_below}
use Rattle.eval_prims.specs.Parts.{parts_in, parts_of}
use Rattle.eval_prims.specs.Identity.{same}
use Rattle.eval_prims.specs.Equality.{same_lengths, same_texts, same_shape, all_equal, equal_to, equal}
use Rattle.law_lists.specs.Equals.{have_parts, IsEquality}
use Rattle.law_lists.proofs.Parts.{below_more, pair_within, vector_within, no_parts, each_so, pair_lies, elements_lie, parts_below}

and_true : (b : Bool) → (b && true) ≡ b
and_true true = refl
and_true false = refl

swapped : (a b c : Bool) → (a && (b && c)) ≡ (b && (a && c))
swapped true b c = refl
swapped false true c = refl
swapped false false c = refl

-- two ways to compare say the same of a value and any other
abbrev Agrees : (Value → Value → Bool) → (Value → Value → Bool) → Value → Type 0
Agrees r s x = (y : Value) → r x y ≡ s x y

all_agree : (r s : Value → Value → Bool) (xs ys : List Value) → Each (Agrees r s) xs → all_equal r xs ys ≡ all_equal s xs ys
all_agree r s [] ys h = refl
all_agree r s (x ∷ xs) [] h = refl
all_agree r s (x ∷ xs) (y ∷ ys) h = λ i. h.0 y i && all_agree r s xs ys h.1 i

each_of_all : (r s : Value → Value → Bool) (xs ys : List Value) → Each (Agrees r s) xs → (length xs == length ys && all_equal r xs ys) ≡ pointwise s xs ys
each_of_all r s [] [] h = refl
each_of_all r s [] (y ∷ ys) h = ap (λ b. b && true) (eqb-zero-suc (length ys))
each_of_all r s (x ∷ xs) [] h = ap (λ b. b && true) (eqb-suc-zero (length xs))
each_of_all r s (x ∷ xs) (y ∷ ys) h =
    ap (λ b. b && (r x y && all_equal r xs ys)) (eqb-suc-suc (length xs) (length ys))
    ∙ swapped (length xs == length ys) (r x y) (all_equal r xs ys) ∙ (λ i. h.0 y i && each_of_all r s xs ys h.1 i)

shape_is : (cells : List Cell) (x y : Value) → have_parts x y ≡ false → same_shape cells x y ≡ same x y
unfolding same_shape
shape_is cells (value.Pair p) (value.Pair q) h = absurd (cc)
shape_is cells (value.Vector p) (value.Vector q) h = absurd (cc)
shape_is cells (value.Str p) (value.Str q) h = absurd (cc)
shape_is cells _ _ h = refl

-- one that has parts is the same as no value of another kind
parts_or_same : (cells : List Cell) (x y : Value) → have_parts x y ≡ false → (parts_of cells x ≡ []) ⊎ (same x y ≡ false)
unfolding same
parts_or_same cells value.Unspecified y h = inl refl
parts_or_same cells (value.Atom a) y h = inl refl
parts_or_same cells (value.Symbol s) y h = inl refl
parts_or_same cells (value.Str p) y h = inl refl
parts_or_same cells (value.Closure c p) y h = inl refl
parts_or_same cells (value.Prim o) y h = inl refl
parts_or_same cells (value.Syn t) y h = inl refl
parts_or_same cells (value.Transformer p) y h = inl refl
parts_or_same cells (value.Pair p) (value.Pair q) h = absurd (cc)
parts_or_same cells (value.Pair p) _ h = inr refl
parts_or_same cells (value.Vector p) (value.Vector q) h = absurd (cc)
parts_or_same cells (value.Vector p) _ h = inr refl

module _ (cells : List Cell) (w : WholeCells cells) where
  -- one level more says no more of what lies below
  stable : (n : ℕ) (x : Value) → IsBelow n x → Agrees (equal_to n cells) (equal_to (suc n) cells) x
  unfolding equal_to
  stable zero x b y = sym (ap (λ xs. same_shape cells x y && all_equal (equal_to zero cells) xs (parts_of cells y)) (no_parts cells x b) ∙ and_true (same_shape cells x y))
  stable (suc n) x b y =
      ap (λ t. same_shape cells x y && t) (all_agree (equal_to n cells) (equal_to (suc n) cells) (parts_of cells x) (parts_of cells y)
      (each_so (IsBelow n) (Agrees (equal_to n cells) (equal_to (suc n) cells)) (stable n) (parts_of cells x) (parts_below cells w n x b)))

  of_pairs : (n : ℕ) (p q : Place) (a d b e : Value) → p.0 < n → pair_at cells p.0 ≡ Some (a, d) → pair_at cells q.0 ≡ Some (b, e)
      → equal_to n cells (value.Pair p) (value.Pair q) ≡ (equal_to n cells a b && equal_to n cells d e)
  unfolding equal_to same_shape
  of_pairs zero p q a d b e l f g = absurd (omega (arith, l))
  of_pairs (suc n) p q a d b e l f g =
      let lie = pair_lies cells w p.0 a d f in
      ap (λ (o : Option (Value × Value)). all_equal (equal_to n cells) (parts_in o None) (parts_of cells (value.Pair q))) f
      ∙ ap (λ (o : Option (Value × Value)). all_equal (equal_to n cells) (a ∷ d ∷ []) (parts_in o None)) g
      ∙ (λ i. stable n a (below_more p.0 n a (omega (arith, l)) lie.0.below) b i && (and_true (equal_to n cells d e) ∙ stable n d (below_more p.0 n d (omega (arith, l)) lie.1.below) e) i)

  of_vectors : (n : ℕ) (p q : Place) (xs ys : List Value) → p.0 < n → vector_at cells p.0 ≡ Some xs → vector_at cells q.0 ≡ Some ys
      → equal_to n cells (value.Vector p) (value.Vector q) ≡ pointwise (equal_to n cells) xs ys
  unfolding equal_to same_shape
  of_vectors zero p q xs ys l f g = absurd (omega (arith, l))
  of_vectors (suc n) p q xs ys l f g =
      ap (λ (o : Option (List Value)). same_lengths o (vector_at cells q.0) && all_equal (equal_to n cells) (parts_in None o) (parts_of cells (value.Vector q))) f
      ∙ ap (λ (o : Option (List Value)). same_lengths (Some xs) o && all_equal (equal_to n cells) xs (parts_in None o)) g
      ∙ each_of_all (equal_to n cells) (equal_to (suc n) cells) xs ys
      (each_so (Lies cells p.0) (Agrees (equal_to n cells) (equal_to (suc n) cells)) (λ x k. stable n x (below_more p.0 n x (omega (arith, l)) k.below)) xs (elements_lie cells w p.0 xs f))

  of_strings : (n : ℕ) (p q : Place) (s t : List ℕ) → string_at cells p.0 ≡ Some s → string_at cells q.0 ≡ Some t
      → equal_to n cells (value.Str p) (value.Str q) ≡ pointwise nat_eq s t
  unfolding equal_to same_shape
  of_strings zero p q s t f g = λ i. same_texts (f i) (g i)
  of_strings (suc n) p q s t f g = and_true (same_texts (string_at cells p.0) (string_at cells q.0)) ∙ (λ i. same_texts (f i) (g i))

  of_others : (n : ℕ) (x y : Value) → have_parts x y ≡ false → equal_to n cells x y ≡ same x y
  unfolding equal_to
  of_others zero x y h = shape_is cells x y h
  of_others (suc n) x y h = elim (parts_or_same cells x y h) [
    | inl e ↦ ap (λ xs. same_shape cells x y && all_equal (equal_to n cells) xs (parts_of cells y)) e ∙ and_true (same_shape cells x y) ∙ shape_is cells x y h
    | inr e ↦ ap (λ t. t && all_equal (equal_to n cells) (parts_of cells x) (parts_of cells y)) (shape_is cells x y h ∙ e) ∙ sym e
  ]

  pub is_equality : IsEquality cells (equal cells)
  unfolding equal
  is_equality = record {
    pairs = λ p q a d b e f g. of_pairs (length cells) p q a d b e (pair_within cells p.0 a d f) f g;
    vectors = λ p q xs ys f g. of_vectors (length cells) p q xs ys (vector_within cells p.0 xs f) f g;
    strings = λ p q s t f g. of_strings (length cells) p q s t f g;
    others = λ x y h. of_others (length cells) x y h;
  }

  -- any two that compare so agree
  module _ (r s : Value → Value → Bool) (is_r : IsEquality cells r) (is_s : IsEquality cells s) where
    -- of what lies below a place
    abbrev AgreeBelow : ℕ → Type 0
    AgreeBelow n = (x y : Value) → IsBelow n x → FitsIn cells x → FitsIn cells y → r x y ≡ s x y

    pairs_agree : (n : ℕ) → AgreeBelow n → (p q : Place) → p.0 < suc n → (o u : Option (Value × Value)) → pair_at cells p.0 ≡ o → pair_at cells q.0 ≡ u → IsTrue (is_found o) → IsTrue (is_found u)
        → r (value.Pair p) (value.Pair q) ≡ s (value.Pair p) (value.Pair q)
    pairs_agree n again p q l (Some (a, d)) (Some (b, e)) f g k m =
        let x = pair_lies cells w p.0 a d f in
        let y = pair_lies cells w q.0 b e g in
        is_r.pairs p q a d b e f g
        ∙ (λ i. again a b (below_more p.0 n a (omega (arith, l)) x.0.below) x.0.fits y.0.fits i && again d e (below_more p.0 n d (omega (arith, l)) x.1.below) x.1.fits y.1.fits i)
        ∙ sym (is_s.pairs p q a d b e f g)
    pairs_agree n again p q l None u f g k m = absurd (cc)
    pairs_agree n again p q l (Some a) None f g k m = absurd (cc)

    each_agree : (n : ℕ) → AgreeBelow n → (xs ys : List Value) → Each (IsBelow n) xs → Each (FitsIn cells) xs → Each (FitsIn cells) ys → pointwise r xs ys ≡ pointwise s xs ys
    each_agree n again [] [] b f g = refl
    each_agree n again [] (y ∷ ys) b f g = refl
    each_agree n again (x ∷ xs) [] b f g = refl
    each_agree n again (x ∷ xs) (y ∷ ys) b f g = λ i. again x y b.0 f.0 g.0 i && each_agree n again xs ys b.1 f.1 g.1 i

    vectors_agree : (n : ℕ) → AgreeBelow n → (p q : Place) → p.0 < suc n → (o u : Option (List Value)) → vector_at cells p.0 ≡ o → vector_at cells q.0 ≡ u → IsTrue (is_found o) → IsTrue (is_found u)
        → r (value.Vector p) (value.Vector q) ≡ s (value.Vector p) (value.Vector q)
    vectors_agree n again p q l (Some xs) (Some ys) f g k m =
        is_r.vectors p q xs ys f g
        ∙ each_agree n again xs ys
        (each_so (Lies cells p.0) (IsBelow n) (λ x h. below_more p.0 n x (omega (arith, l)) h.below) xs (elements_lie cells w p.0 xs f))
        (each_so (Lies cells p.0) (FitsIn cells) (λ x h. h.fits) xs (elements_lie cells w p.0 xs f))
        (each_so (Lies cells q.0) (FitsIn cells) (λ x h. h.fits) ys (elements_lie cells w q.0 ys g))
        ∙ sym (is_s.vectors p q xs ys f g)
    vectors_agree n again p q l None u f g k m = absurd (cc)
    vectors_agree n again p q l (Some xs) None f g k m = absurd (cc)

    strings_agree : (p q : Place) (o u : Option (List ℕ)) → string_at cells p.0 ≡ o → string_at cells q.0 ≡ u → IsTrue (is_found o) → IsTrue (is_found u) → r (value.Str p) (value.Str q) ≡ s (value.Str p) (value.Str q)
    strings_agree p q (Some x) (Some y) f g k m = is_r.strings p q x y f g ∙ sym (is_s.strings p q x y f g)
    strings_agree p q None u f g k m = absurd (cc)
    strings_agree p q (Some x) None f g k m = absurd (cc)

    parts_agree : (n : ℕ) → AgreeBelow n → (x y : Value) → have_parts x y ≡ true → IsBelow (suc n) x → FitsIn cells x → FitsIn cells y → r x y ≡ s x y
    parts_agree n again (value.Pair p) (value.Pair q) h b f g = pairs_agree n again p q b (pair_at cells p.0) (pair_at cells q.0) refl refl f g
    parts_agree n again (value.Vector p) (value.Vector q) h b f g = vectors_agree n again p q b (vector_at cells p.0) (vector_at cells q.0) refl refl f g
    parts_agree n again (value.Str p) (value.Str q) h b f g = strings_agree p q (string_at cells p.0) (string_at cells q.0) refl refl f g
    parts_agree n again _ _ h b f g = absurd (cc)

    nothing_below : (x y : Value) → have_parts x y ≡ true → IsBelow 0 x → ⊥
    nothing_below (value.Pair p) y h b = omega (arith, b)
    nothing_below (value.Vector p) y h b = omega (arith, b)
    nothing_below (value.Str p) y h b = omega (arith, b)
    nothing_below _ y h b = cc

    agree_below : (n : ℕ) → AgreeBelow n
    agree_below zero x y b f g = by (have_parts x y) refl
      where
        by : (t : Bool) → have_parts x y ≡ t → r x y ≡ s x y
        by true h = absurd (nothing_below x y h b)
        by false h = is_r.others x y h ∙ sym (is_s.others x y h)
    agree_below (suc n) x y b f g = by (agree_below n) (have_parts x y) refl
      where
        by : AgreeBelow n → (t : Bool) → have_parts x y ≡ t → r x y ≡ s x y
        by again true h = parts_agree n again x y h b f g
        by again false h = is_r.others x y h ∙ sym (is_s.others x y h)

  pub only_equality : (other : Value → Value → Bool) → IsEquality cells other → (x y : Value) → FitsIn cells x → FitsIn cells y → other x y ≡ equal cells x y
  only_equality other e x y f g = agree_below other (equal cells) e is_equality (length cells) x y (fits_below cells x f) f g
