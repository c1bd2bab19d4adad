-- What is not unsyntaxed stays as it is.
use Rattle.std.proofs.Common.{◌≡◌, ℕ, zero, suc, ◌<◌, ◌≤◌, Bool, true, false, List, [], ◌∷◌, length, take, drop, map, Option, Some, Ok, Err, refl, ap, sym, ◌∙◌, subst, arith}
use Rattle.std.specs.Prelude.{Result, ◌-◌, ◌||◌, if◌then◌else◌}
use Rattle.base_data.specs.declared.fault.Bare.{Bare}
use Rattle.base_data.specs.declared.span.Span.{Span}
use Rattle.stx_tree.specs.Tree.{Tree, atom, leaf, pair, vector, list_of, vector_of}
use Rattle.stx_tree.specs.Measures.{size, within}
use Rattle.core_shapes.specs.Lists.{is_nil, elements, tail_of}
use Rattle.core_quasi.specs.Words.{inner}
use Rattle.core_quasi.specs.Parts.{rest_at, splits, first_word, operand_of}
use Rattle.core_quasi.specs.QuasiSyntax.{Looked, then_insert, Tail, no_trees, unchanged, with_part, rebuilt, list_joined, vector_joined, joined, step, step_by, walked, begun_by, finished, escapes, vector_made, syntax_at, element, tail_element, forms_walked, forms_begun, flat_list}
use Rattle.core_quasi.specs.declared.quasi_syntax.Begun.TheVariants as begun
use Rattle.core_quasi.specs.declared.quasi_syntax.Insert.{Insert}
use Rattle.core_quasi.specs.declared.quasi_syntax.QuasiPart.{QuasiPart}
use Rattle.core_quasi.specs.declared.quasi_syntax.QuasiRow.{QuasiRow}
use Rattle.core_quasi.proofs.InsertLevels.{elements_are, list_escaped, list_split, list_flat}
use Rattle.core_quasi.proofs.Sizes.{forms_size, parts_within, split_size, tree_size}
use Rattle.law_quasi.specs.Quiet.{is_quiet}
use Rattle.law_quasi.proofs.Quiets.{are_quiet, quiet_elements, quiet_tail, quiet_more, quiet_one, quiet_take, quiet_drop, quiet_kept, quiet_first}

module _ (w : Looked) where
  -- a template that stays as it is, whatever was inserted before
  abbrev Stays : Tree → (List Insert → Result (QuasiPart × List Insert) Bare) → Type 0
  Stays t go = (is : List Insert) → go is ≡ Ok (unchanged t, is)

  -- trees that are the forms themselves, and no insert more
  abbrev Same : List Insert → Result (QuasiRow × List Insert) Bare → Type 0
  Same is (Ok p) = (p.0.changed ≡ false) × (p.1 ≡ is)
  Same is (Err e) = ⊥

  module _ (k : ℕ) (ih : (t : Tree) (n : ℕ) → size t < k → is_quiet w.words t ≡ true → Stays t (syntax_at w t n)) where
    step_stays : (m : ℕ) (r : QuasiRow) (t : Tree) (is : List Insert) → size t < k → is_quiet w.words t ≡ true → step w m r (element w t) is ≡ Ok (with_part r (unchanged t), is)
    step_stays m r t is b h =
        ap (λ x. step_by w m (element w t) r x is) (quiet_kept w.words m t h) ∙ ap (λ q. then_insert q (λ p js. Ok (with_part r p, js))) (ih t m b h is)

    walk_stays : (ts : List Tree) (m : ℕ) (r : QuasiRow) (is : List Insert) → forms_size ts < k → are_quiet w.words ts ≡ true → r.changed ≡ false → Same is (walked w m r (map (element w) ts) is)
    walk_stays [] m r is b h e = (e, refl)
    walk_stays (t ∷ ts) m r is b h e =
        subst (λ q. Same is (then_insert q (λ s js. walked w m s (map (element w) ts) js))) (sym (step_stays m r t is (omega (arith, b)) (quiet_one w.words t ts h)))
        (walk_stays ts m (with_part r (unchanged t)) is (omega (arith, b, tree_size t)) (quiet_more w.words t ts h) (ap (λ c. c || false) e))

    list_stays : (t : Tree) (ts : List Tree) (tail : Tree) (tl : Tail) (n : ℕ) → forms_size ts < k → are_quiet w.words ts ≡ true → Stays tail (tl.made n)
        → Stays t (λ is. then_insert (forms_begun w ts tl.ends n is) (finished t tl n))
    list_stays t ts tail tl n b h made is =
        ap (λ x. then_insert (begun_by (operand_of tl.ends ts) (forms_walked w (inner (first_word w.words ts) n) ts) x is) (finished t tl n)) (quiet_first w.words n ts h)
        ∙ go (forms_walked w (inner (first_word w.words ts) n) ts is) (walk_stays ts (inner (first_word w.words ts) n) no_trees is b h refl)
      where
        go : (q : Result (QuasiRow × List Insert) Bare) → Same is q → then_insert (then_insert q (λ r js. Ok (begun.Trees r, js))) (finished t tl n) ≡ Ok (unchanged t, is)
        go (Err f) x = absurd x
        go (Ok p) x =
            ap (λ q. then_insert q (λ u. joined (list_joined t p.0 u))) (made p.1)
            ∙ ap (λ c. joined (if c || false then rebuilt t (within (list_of p.0.trees (Some tail))) else Ok (unchanged t)) p.1) x.0
            ∙ ap (λ js. Ok (unchanged t, js)) x.1

    flat_stays : (t : Tree) (ts : List Tree) (tail : Tree) (n : ℕ) → forms_size ts < k → size tail < k → are_quiet w.words ts ≡ true → is_quiet w.words tail ≡ true → Stays t (flat_list w t ts tail n)
    flat_stays t ts tail n b c h g = list_stays t ts tail (tail_element w tail) n b h (ih tail n c g)

    pair_stays : (s : Option Span) (a d : Tree) (n : ℕ) → size (pair s a d) ≤ k → is_quiet w.words (pair s a d) ≡ true → Stays (pair s a d) (syntax_at w (pair s a d) n)
    pair_stays s a d n b h is = escaped (escapes (w.words a) (is_nil (tail_of d)) (a ∷ elements d)) refl
      where
        t : Tree
        t = pair s a d

        ts : List Tree
        ts = a ∷ elements d

        quiet : are_quiet w.words ts ≡ true
        quiet = quiet_elements w.words t h

        at : ℕ
        at = length ts - 2

        split : escapes (w.words a) (is_nil (tail_of d)) (a ∷ elements d) ≡ false → (c : Bool) → splits w.words (is_nil (tail_of d)) (a ∷ elements d) ≡ c
            → syntax_at w (pair s a d) n is ≡ Ok (unchanged (pair s a d), is)
        split other false e =
            list_flat w n is (pair s a d) refl other e
            ∙ flat_stays (pair s a d) (a ∷ elements d) (tail_of d) n (omega (arith, b, parts_within (pair s a d), tree_size (tail_of d))) (omega (arith, b, parts_within (pair s a d), tree_size a)) quiet (quiet_tail w.words (pair s a d) h) is
        split other true e =
            list_split w n is (pair s a d) refl other e
            ∙ list_stays t (take at ts) (rest_at at t) (record { ends = false; made = flat_list w (rest_at at t) (drop at ts) (tail_of d) }) n
            (omega (arith, b, parts_within (pair s a d), split_size at ts, tree_size (tail_of d))) (quiet_take w.words at ts quiet)
            (flat_stays (rest_at at t) (drop at ts) (tail_of d) n (omega (arith, b, parts_within (pair s a d), split_size at ts, tree_size (tail_of d)))
            (omega (arith, b, parts_within (pair s a d), tree_size a)) (quiet_drop w.words at ts quiet) (quiet_tail w.words (pair s a d) h)) is

        escaped : (c : Bool) → escapes (w.words a) (is_nil (tail_of d)) (a ∷ elements d) ≡ c → syntax_at w (pair s a d) n is ≡ Ok (unchanged (pair s a d), is)
        escaped true e = list_escaped w n is (pair s a d) refl e
        escaped false e = split e (splits w.words (is_nil (tail_of d)) (a ∷ elements d)) refl

    vector_stays : (s : Option Span) (d : Tree) (n : ℕ) → size d ≤ k → is_quiet w.words d ≡ true → Stays (vector s d) (syntax_at w (vector s d) n)
    vector_stays s d n b h is =
        ap (λ xs. vector_made w (vector s d) xs n is) (elements_are w d)
        ∙ go (forms_walked w n (elements d) is) (walk_stays (elements d) n no_trees is (omega (arith, b, parts_within d, tree_size (tail_of d))) (quiet_elements w.words d h) refl)
      where
        go : (q : Result (QuasiRow × List Insert) Bare) → Same is q → then_insert q (λ r. joined (vector_joined (vector s d) r)) ≡ Ok (unchanged (vector s d), is)
        go (Err f) x = absurd x
        go (Ok p) x =
            ap (λ c. joined (if c then rebuilt (vector s d) (within (vector_of p.0.trees)) else Ok (unchanged (vector s d))) p.1) x.0 ∙ ap (λ js. Ok (unchanged (vector s d), js)) x.1

  all_stay : (k : ℕ) (t : Tree) (n : ℕ) → size t < k → is_quiet w.words t ≡ true → Stays t (syntax_at w t n)
  all_stay zero t n b h is = absurd (omega (arith, b))
  all_stay (suc k) (atom s a) n b h is = refl
  all_stay (suc k) (leaf s x c) n b h is = refl
  all_stay (suc k) (pair s a d) n b h is = pair_stays k (all_stay k) s a d n (omega (arith, b)) h is
  all_stay (suc k) (vector s d) n b h is = vector_stays k (all_stay k) s d n (omega (arith, b)) h is

  pub quiet_stays : (t : Tree) (n : ℕ) → is_quiet w.words t ≡ true → Stays t (syntax_at w t n)
  quiet_stays t n h = all_stay (suc (size t)) t n (omega arith) h
