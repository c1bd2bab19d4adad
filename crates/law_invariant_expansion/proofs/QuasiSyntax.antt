-- The template and the inserts of a `quasisyntax` form are kept where the form is.
use Rattle.std.proofs.Common.{ℕ, zero, suc, ◌-◌, Bool, true, false, List, [], ◌∷◌, ◌++◌, length, take, drop, Option, None, Some, Result, Ok, Err, arith, if◌then◌else◌}
use Rattle.std.specs.Prelude.{◌||◌, ◌≤◌}
use Rattle.base_data.proofs.ElementLemmas.{each-and, each-taken, each-dropped}
use Rattle.base_data.specs.Elements.{Each}
use Rattle.base_data.specs.Gives.{◌>>=◌}
use Rattle.base_data.specs.declared.fault.Bare.{Bare}
use Rattle.base_data.specs.declared.span.Span.{Span}
use Rattle.stx_tree.specs.Measures.{within}
use Rattle.stx_tree.specs.Tree.{Tree, atom, leaf, pair, vector, span_of, list_of, vector_of}
use Rattle.core_shapes.specs.Lists.{is_nil, tail_of}
use Rattle.core_quasi.specs.Words.{inner, reach}
use Rattle.core_quasi.specs.Parts.{taken_at, rest_at, splits, first_word, operand_of}
use Rattle.core_quasi.specs.Quasi.{at_form}
use Rattle.core_quasi.specs.QuasiSyntax.{Looked, Inserts, then_insert, insert_leaf, insert, no_trees, leaves, spliced, with_part, unchanged, rebuilt, list_joined, vector_joined, joined, ElementInserts, forms, step_by, step, walked, operand_or_bad, begun_by, begins, Tail, finished, flat, split_tail, escapes, list_made, vector_made, syntax_at, elements_made, tail_made, answer, quasi_syntax}
use Rattle.core_quasi.specs.declared.parts.QuasiTaken.{QuasiTaken}
use Rattle.core_quasi.specs.declared.parts.QuasiTaken.TheVariants as taken
use Rattle.core_quasi.specs.declared.quasi_syntax.Begun.{Begun}
use Rattle.core_quasi.specs.declared.quasi_syntax.Begun.TheVariants as begun
use Rattle.core_quasi.specs.declared.quasi_syntax.Insert.{Insert}
use Rattle.core_quasi.specs.declared.quasi_syntax.QuasiPart.{QuasiPart}
use Rattle.core_quasi.specs.declared.quasi_syntax.QuasiSyntax.{QuasiSyntax}
use Rattle.core_quasi.specs.declared.quasi_syntax.QuasiRow.{QuasiRow}
use Rattle.core_quasi.specs.declared.word.Reach.{Reach}
use Rattle.core_quasi.specs.declared.word.Reach.TheVariants as reached
use Rattle.law_invariants.specs.Invariant.{OptionHolds}
use Rattle.law_invariants.proofs.Trees.{OkHolds, within_all}
use Rattle.law_invariant_expansion.proofs.Quasi.{TakenHolds, taken-holds, operand-holds}
use Rattle.law_invariant_expansion.proofs.Shapes.{ok-if}
use Rattle.law_invariants.specs.Invariant.{Invariant}
use Rattle.law_invariant_expansion.specs.Kept.{IsBuilt}

module _ (I : Invariant) (built : IsBuilt I) (of_insert : (k : ℕ) → I.trees (insert_leaf k)) where
  abbrev pub InsertHolds : Insert → Type 0
  InsertHolds i = I.trees i.leaf × (I.trees i.expression × (i.depth ≤ 1))

  abbrev Is : List Insert → Type 0
  Is is = Each InsertHolds is

  -- with the inserts then
  abbrev Both : {A : Type 0} → (A → Type 0) → Result (A × List Insert) Bare → Type 0
  Both Q (Ok p) = Q p.0 × Is p.1
  Both Q (Err f) = Unit {0}

  both-then : {A B : Type 0} (Q : A → Type 0) (R : B → Type 0) (r : Result (A × List Insert) Bare) (k : A → Inserts B) → Both Q r → ((a : A) (is : List Insert) → Q a → Is is → Both R (k a is)) → Both R (then_insert r k)
  both-then Q R (Ok p) k h next = next p.0 p.1 h.0 h.1
  both-then Q R (Err f) k h next = tt

  both-joined : {A : Type 0} (Q : A → Type 0) (r : Result A Bare) (is : List Insert) → OkHolds Q r → Is is → Both Q (joined r is)
  both-joined Q (Ok x) is h k = (h, k)
  both-joined Q (Err f) is h k = tt

  both-if : {A : Type 0} (Q : A → Type 0) (b : Bool) (r q : Result (A × List Insert) Bare) → Both Q r → Both Q q → Both Q (if b then r else q)
  both-if Q true r q h k = h
  both-if Q false r q h k = k

  insert-holds : (depth : ℕ) (e : Tree) (is : List Insert) → depth ≤ 1 → I.trees e → InsertHolds (insert depth e is)
  insert-holds depth e is few h = (of_insert _, (h, few))

  abbrev TreesBoth : List Tree × List Insert → Type 0
  TreesBoth p = Each I.trees p.0 × Is p.1

  leaves-hold : (ts es : List Tree) (is : List Insert) → Each I.trees ts → Each I.trees es → Is is → TreesBoth (leaves ts es is)
  leaves-hold ts [] is h k j = (h, j)
  leaves-hold ts (e ∷ es) is h k j =
      leaves-hold (ts ++ insert_leaf (length is) ∷ []) es (is ++ insert 0 e is ∷ []) (each-and I.trees ts (insert_leaf (length is)) h (of_insert _)) k.1 (each-and InsertHolds is (insert 0 e is) j (insert-holds 0 e is (omega arith) k.0))

  spliced-hold : (dots : Tree) → I.trees dots → (ts es : List Tree) (is : List Insert) → Each I.trees ts → Each I.trees es → Is is → TreesBoth (spliced dots ts es is)
  spliced-hold dots d ts [] is h k j = (h, j)
  spliced-hold dots d ts (e ∷ es) is h k j =
      spliced-hold dots d ((ts ++ insert_leaf (length is) ∷ []) ++ dots ∷ []) es (is ++ insert 1 e is ∷ [])
      (each-and I.trees (ts ++ insert_leaf (length is) ∷ []) dots (each-and I.trees ts (insert_leaf (length is)) h (of_insert _)) d) k.1 (each-and InsertHolds is (insert 1 e is) j (insert-holds 1 e is (omega arith) k.0))

  abbrev RowHolds : QuasiRow → Type 0
  RowHolds r = Each I.trees r.trees

  abbrev PartHolds : QuasiPart → Type 0
  PartHolds p = I.trees p.tree

  rebuilt-holds : (t : Tree) (r : Result Tree Bare) → OkHolds I.trees r → OkHolds PartHolds (rebuilt t r)
  rebuilt-holds t (Ok u) h = built.spanned (span_of t) u h
  rebuilt-holds t (Err f) h = tt

  list-joined-holds : (t : Tree) (r : QuasiRow) (p : QuasiPart) → I.trees t → RowHolds r → PartHolds p → OkHolds PartHolds (list_joined t r p)
  list-joined-holds t r p g h k =
      ok-if PartHolds (r.changed || p.changed) (rebuilt t (within (list_of r.trees (Some p.tree)))) (Ok (unchanged t))
      (rebuilt-holds t (within (list_of r.trees (Some p.tree))) (within_all I.trees (list_of r.trees (Some p.tree)) (λ v q. built.closed.list r.trees p.tree v h k q))) g

  vector-joined-holds : (t : Tree) (r : QuasiRow) → I.trees t → RowHolds r → OkHolds PartHolds (vector_joined t r)
  vector-joined-holds t r g h =
      ok-if PartHolds r.changed (rebuilt t (within (vector_of r.trees))) (Ok (unchanged t)) (rebuilt-holds t (within (vector_of r.trees)) (within_all I.trees (vector_of r.trees) (λ v q. built.closed.vector r.trees v h q))) g

  -- Forms.

  record IsElement (x : ElementInserts) : Type 0 where
    form : I.trees x.0
    made : (n : ℕ) (is : List Insert) → Is is → Both PartHolds (x.1 n is)

  forms-hold : (xs : List ElementInserts) → Each IsElement xs → Each I.trees (forms xs)
  forms-hold [] h = tt
  forms-hold (x ∷ xs) h = (h.0.form, forms-hold xs h.1)

  rest-holds : (n : ℕ) (t : Tree) → I.trees t → I.trees (rest_at n t)
  rest-holds zero t h = h
  rest-holds (suc n) (atom s a) h = h
  rest-holds (suc n) (leaf s x c) h = h
  rest-holds (suc n) (pair s a d) h = rest-holds n d (built.closed.rest s a d h)
  rest-holds (suc n) (vector s d) h = h

  module _ (w : Looked) (dots_hold : I.trees w.dots) where
    step-by-holds : (n : ℕ) (x : ElementInserts) (r : QuasiRow) (u : QuasiTaken) (is : List Insert) → IsElement x → RowHolds r → TakenHolds I built.closed u → Is is → Both RowHolds (step_by w n x r u is)
    step-by-holds n x r (taken.Each es) is one h k j = leaves-hold r.trees es is h k j
    step-by-holds n x r (taken.Spliced es) is one h k j = spliced-hold w.dots dots_hold r.trees es is h k j
    step-by-holds n x r taken.Kept is one h k j =
        both-then PartHolds RowHolds (x.1 n is) (λ p inserts. Ok (with_part r p, inserts)) (one.made n is j) (λ p more g i. (each-and I.trees r.trees p.tree h g, i))

    walked-holds : (n : ℕ) (r : QuasiRow) (xs : List ElementInserts) (is : List Insert) → RowHolds r → Each IsElement xs → Is is → Both RowHolds (walked w n r xs is)
    walked-holds n r [] is h all j = (h, j)
    walked-holds n r (x ∷ xs) is h all j =
        both-then RowHolds RowHolds (step w n r x is) (λ q inserts. walked w n q xs inserts) (step-by-holds n x r (taken_at w.words n x.0) is all.0 h (taken-holds I built.closed w.words n x.0 all.0.form) j) (λ q more g i. walked-holds n q xs more g all.1 i)

    abbrev BegunHolds : Begun → Type 0
    BegunHolds (begun.Whole p) = PartHolds p
    BegunHolds (begun.Trees r) = RowHolds r

    or-bad-holds : (o : Option Tree) (is : List Insert) → OptionHolds I.trees o → Is is → Both BegunHolds (operand_or_bad o is)
    or-bad-holds None is h j = tt
    or-bad-holds (Some e) is h j = (of_insert _, each-and InsertHolds is (insert 0 e is) j (insert-holds 0 e is (omega arith) h))

    begun-holds : (o : Option Tree) (row : Inserts QuasiRow) (x : Reach) (is : List Insert) → OptionHolds I.trees o → Both RowHolds (row is) → Is is → Both BegunHolds (begun_by o row x is)
    begun-holds o row reached.Operand is h k j = or-bad-holds o is h j
    begun-holds o row reached.Refused is h k j = tt
    begun-holds o row reached.Elements is h k j = both-then RowHolds BegunHolds (row is) (λ r inserts. Ok (begun.Trees r, inserts)) k (λ r more g i. (g, i))

    begins-hold : (xs : List ElementInserts) (ends : Bool) (n : ℕ) (is : List Insert) → Each IsElement xs → Is is → Both BegunHolds (begins w xs ends n is)
    begins-hold xs ends n is all j =
        begun-holds (operand_of ends (forms xs)) (walked w (inner (first_word w.words (forms xs)) n) no_trees xs) (reach (first_word w.words (forms xs)) n) is (operand-holds I built.closed ends (forms xs) (forms-hold xs all))
        (walked-holds (inner (first_word w.words (forms xs)) n) no_trees xs is tt all j) j

    abbrev IsTail : Tail → Type 0
    IsTail x = (n : ℕ) (is : List Insert) → Is is → Both PartHolds (x.made n is)

    finished-holds : (t : Tree) (x : Tail) (n : ℕ) (b : Begun) (is : List Insert) → I.trees t → IsTail x → BegunHolds b → Is is → Both PartHolds (finished t x n b is)
    finished-holds t x n (begun.Whole p) is g tail h j = (h, j)
    finished-holds t x n (begun.Trees r) is g tail h j =
        both-then PartHolds PartHolds (x.made n is) (λ q. joined (list_joined t r q)) (tail n is j) (λ q more k i. both-joined PartHolds (list_joined t r q) more (list-joined-holds t r q g h k) i)

    flat-holds : (t : Tree) (xs : List ElementInserts) (x : Tail) (n : ℕ) (is : List Insert) → I.trees t → Each IsElement xs → IsTail x → Is is → Both PartHolds (flat w t xs x n is)
    flat-holds t xs x n is g all tail j = both-then BegunHolds PartHolds (begins w xs x.ends n is) (finished t x n) (begins-hold xs x.ends n is all j) (λ b more h i. finished-holds t x n b more g tail h i)

    list-made-holds : (t : Tree) (xs : List ElementInserts) (x : Tail) (n : ℕ) (is : List Insert) → I.trees t → Each IsElement xs → IsTail x → Is is → Both PartHolds (list_made w t xs x n is)
    list-made-holds t xs x n is g all tail j =
        both-if PartHolds (escapes (first_word w.words (forms xs)) x.ends (forms xs)) (Ok (unchanged t, is)) _ (g, j)
        (both-if PartHolds (splits w.words x.ends (forms xs)) (flat w t (take (length xs - 2) xs) (split_tail w t xs x) n is) (flat w t xs x n is)
        (flat-holds t (take (length xs - 2) xs) (split_tail w t xs x) n is g (each-taken IsElement (length xs - 2) xs all)
        (λ m more i. flat-holds (rest_at (length xs - 2) t) (drop (length xs - 2) xs) x m more (rest-holds (length xs - 2) t g) (each-dropped IsElement (length xs - 2) xs all) tail i) j)
        (flat-holds t xs x n is g all tail j))

    vector-made-holds : (t : Tree) (xs : List ElementInserts) (n : ℕ) (is : List Insert) → I.trees t → Each IsElement xs → Is is → Both PartHolds (vector_made w t xs n is)
    vector-made-holds t xs n is g all j =
        both-then RowHolds PartHolds (walked w n no_trees xs is) (λ r. joined (vector_joined t r)) (walked-holds n no_trees xs is tt all j) (λ r more h i. both-joined PartHolds (vector_joined t r) more (vector-joined-holds t r g h) i)

    mutual
      syntax-at-holds : (t : Tree) → I.trees t → (n : ℕ) (is : List Insert) → Is is → Both PartHolds (syntax_at w t n is)
      syntax-at-holds (atom s a) g n is j = (g, j)
      syntax-at-holds (leaf s x c) g n is j = (g, j)
      syntax-at-holds (pair s a d) g n is j =
          list-made-holds (pair s a d) ((a, syntax_at w a) ∷ elements_made w d) (record { ends = is_nil (tail_of d); made = tail_made w d }) n is g
          (record { form = built.closed.first s a d g; made = λ m more i. syntax-at-holds a (built.closed.first s a d g) m more i }, elements-hold d (built.closed.rest s a d g)) (λ m more i. tail-holds d (built.closed.rest s a d g) m more i) j
      syntax-at-holds (vector s d) g n is j = vector-made-holds (vector s d) (elements_made w d) n is g (elements-hold d (built.closed.elements s d g)) j

      elements-hold : (t : Tree) → I.trees t → Each IsElement (elements_made w t)
      elements-hold (atom s a) g = tt
      elements-hold (leaf s x c) g = tt
      elements-hold (pair s a d) g = (record { form = built.closed.first s a d g; made = λ m more i. syntax-at-holds a (built.closed.first s a d g) m more i }, elements-hold d (built.closed.rest s a d g))
      elements-hold (vector s d) g = tt

      tail-holds : (t : Tree) → I.trees t → (n : ℕ) (is : List Insert) → Is is → Both PartHolds (tail_made w t n is)
      tail-holds (atom s a) g n is j = (g, j)
      tail-holds (leaf s x c) g n is j = (g, j)
      tail-holds (pair s a d) g n is j = tail-holds d (built.closed.rest s a d g) n is j
      tail-holds (vector s d) g n is j = vector-made-holds (vector s d) (elements_made w d) n is g (elements-hold d (built.closed.elements s d g)) j

    abbrev pub SyntaxHolds : QuasiSyntax → Type 0
    SyntaxHolds q = I.trees q.template × Is q.inserts

    pub quasi-syntax-holds : (t form : Tree) (place : Span) → I.trees t → OkHolds SyntaxHolds (quasi_syntax w t form place)
    quasi-syntax-holds t form place g = by (syntax_at w t 0 []) (syntax-at-holds t g 0 [] tt)
      where
        by : (r : Result (QuasiPart × List Insert) Bare) → Both PartHolds r → OkHolds SyntaxHolds (at_form form place r >>= λ p. Ok (answer p))
        by (Ok p) h = h
        by (Err f) h = tt
