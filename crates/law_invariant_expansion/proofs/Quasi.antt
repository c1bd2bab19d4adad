-- The parts of a `quasiquote` form are kept where the form is.
use Rattle.std.proofs.Common.{ℕ, zero, suc, ◌-◌, Bool, true, false, List, [], ◌∷◌, ◌++◌, length, take, drop, Option, None, Some, Result, Ok, Err, if◌then◌else◌}
use Rattle.std.specs.Prelude.{◌&&◌}
use Rattle.base_data.proofs.ElementLemmas.{each-append, each-and, each-taken, each-dropped}
use Rattle.base_data.specs.Elements.{Each}
use Rattle.base_data.specs.declared.fault.Bare.{Bare}
use Rattle.base_data.specs.declared.span.Span.{Span}
use Rattle.stx_tree.specs.Tree.{Tree, atom, leaf, pair, vector, nil}
use Rattle.core_shapes.specs.Lists.{is_nil, tail_of, proper_elements}
use Rattle.core_quasi.specs.Words.{WordOf, head_word, inner, reach}
use Rattle.core_quasi.specs.Parts.{behind_head, operands, taken_by, taken_at, rest_at, splits, first_word, operand_of}
use Rattle.core_quasi.specs.Plan.{PlainQuasi, PlainQuasis, constant, expression, call, none, more, quasis}
use Rattle.core_quasi.specs.Quasi.{no_pieces, closed, expressions, with_each, with_splices, is_constant, with_item, is_end, without_splices, made_of, list_joined, vector_joined, ElementPlan, forms, step_by, step, walked, operand_or_bad, begun_by, begins, Tail, finished, flat, split_tail, list_made, vector_made, quasi_at, elements_made, tail_made, at_form, quasi}
use Rattle.core_quasi.specs.declared.maker.Maker.TheVariants as maker
use Rattle.core_quasi.specs.declared.parts.QuasiTaken.{QuasiTaken}
use Rattle.core_quasi.specs.declared.parts.QuasiTaken.TheVariants as taken
use Rattle.core_quasi.specs.declared.quasi.Begun.{Begun}
use Rattle.core_quasi.specs.declared.quasi.Begun.TheVariants as begun
use Rattle.core_quasi.specs.declared.quasi.Pieces.{Pieces}
use Rattle.core_quasi.specs.declared.word.Reach.{Reach}
use Rattle.core_quasi.specs.declared.word.Reach.TheVariants as reached
use Rattle.core_quasi.specs.declared.word.QuasiWord.{QuasiWord}
use Rattle.core_quasi.specs.declared.word.QuasiWord.TheVariants as word
use Rattle.law_invariants.specs.Invariant.{OptionHolds}
use Rattle.law_invariants.proofs.Trees.{OkHolds}
use Rattle.law_invariant_expansion.proofs.Shapes.{then-holds, ok-if, some-holds, proper-holds}
use Rattle.law_invariants.specs.Invariant.{Invariant}
use Rattle.law_invariants.specs.Closed.{IsClosed}
use Rattle.base_data.specs.declared.atom.Atom.TheVariants as a

module _ (I : Invariant) (parts : IsClosed I) where
  -- What elements of a list or vector give, and its only operand.

  abbrev Ts : List Tree → Type 0
  Ts ts = Each I.trees ts

  abbrev pub TakenHolds : QuasiTaken → Type 0
  TakenHolds (taken.Each es) = Ts es
  TakenHolds (taken.Spliced es) = Ts es
  TakenHolds taken.Kept = Unit {0}

  behind-holds : (ts : List Tree) → Ts ts → OptionHolds Ts (behind_head ts)
  behind-holds [] h = tt
  behind-holds (t ∷ ts) h = h.1

  operands-hold : (t : Tree) → I.trees t → OptionHolds Ts (operands t)
  operands-hold t h = some-holds Ts Ts (proper_elements t) behind_head (proper-holds I parts t h) behind-holds

  taken-by-holds : (w : QuasiWord) (o : Option (List Tree)) → OptionHolds Ts o → TakenHolds (taken_by w o)
  taken-by-holds word.Lower (Some es) h = h
  taken-by-holds word.Splice (Some es) h = h
  taken-by-holds word.Lower None h = tt
  taken-by-holds word.Splice None h = tt
  taken-by-holds word.Raise o h = tt
  taken-by-holds word.Escape o h = tt
  taken-by-holds word.Plain o h = tt

  pub taken-holds : (w : WordOf) (n : ℕ) (t : Tree) → I.trees t → TakenHolds (taken_at w n t)
  taken-holds w zero t h = taken-by-holds (head_word w t) (operands t) (operands-hold t h)
  taken-holds w (suc n) t h = tt

  pub operand-holds : (ends : Bool) (ts : List Tree) → Ts ts → OptionHolds I.trees (operand_of ends ts)
  operand-holds true (t ∷ (e ∷ [])) h = h.1.0
  operand-holds true [] h = tt
  operand-holds true (t ∷ []) h = tt
  operand-holds true (t ∷ (e ∷ (x ∷ ts))) h = tt
  operand-holds false ts h = tt

  -- Plans.

  abbrev mutual
    pub QuasiHolds : PlainQuasi → Type 0
    QuasiHolds (constant t) = I.trees t
    QuasiHolds (expression t) = I.trees t
    QuasiHolds (call m qs) = QuasisHold qs

    pub QuasisHold : PlainQuasis → Type 0
    QuasisHold none = Unit {0}
    QuasisHold (more q qs) = QuasiHolds q × QuasisHold qs

  abbrev Qs : List PlainQuasi → Type 0
  Qs qs = Each QuasiHolds qs

  quasis-hold : (qs : List PlainQuasi) → Qs qs → QuasisHold (quasis qs)
  quasis-hold [] h = tt
  quasis-hold (q ∷ qs) h = (h.0, quasis-hold qs h.1)

  closed-hold : (qs : List PlainQuasi) → Qs qs → Qs (closed qs)
  closed-hold [] h = tt
  closed-hold (q ∷ qs) h = (quasis-hold (q ∷ qs) h, tt)

  expressions-hold : (ts : List Tree) → Ts ts → Qs (expressions ts)
  expressions-hold [] h = tt
  expressions-hold (t ∷ ts) h = (h.0, expressions-hold ts h.1)

  abbrev PiecesHold : Pieces → Type 0
  PiecesHold p = Qs p.parts × Qs p.run

  with-each-holds : (p : Pieces) (es : List Tree) → PiecesHold p → Ts es → PiecesHold (with_each p es)
  with-each-holds p es h k = (h.0, each-append QuasiHolds p.run (expressions es) h.1 (expressions-hold es k))

  with-splices-holds : (p : Pieces) (es : List Tree) → PiecesHold p → Ts es → PiecesHold (with_splices p es)
  with-splices-holds p [] h k = h
  with-splices-holds p (e ∷ es) h k =
      (each-append QuasiHolds p.parts (closed p.run ++ expressions (e ∷ es)) h.0 (each-append QuasiHolds (closed p.run) (expressions (e ∷ es)) (closed-hold p.run h.1) (expressions-hold (e ∷ es) k)), tt)

  with-item-holds : (p : Pieces) (q : PlainQuasi) → PiecesHold p → QuasiHolds q → PiecesHold (with_item p q)
  with-item-holds p q h k = (h.0, each-and QuasiHolds p.run q h.1 k)

  quasi-if : (b : Bool) (q r : PlainQuasi) → QuasiHolds q → QuasiHolds r → QuasiHolds (if b then q else r)
  quasi-if true q r h k = h
  quasi-if false q r h k = k

  without-holds : (run : List PlainQuasi) (tail : PlainQuasi) → Qs run → QuasiHolds tail → QuasiHolds (without_splices run tail)
  without-holds run tail h k =
      quasi-if (is_end tail) (call maker.List (quasis run)) (call maker.ConsStar (quasis (run ++ tail ∷ []))) (quasis-hold run h) (quasis-hold (run ++ tail ∷ []) (each-and QuasiHolds run tail h k))

  made-holds : (parts run : List PlainQuasi) (tail : PlainQuasi) → Qs parts → Qs run → QuasiHolds tail → QuasiHolds (made_of parts run tail)
  made-holds [] run tail g h k = without-holds run tail h k
  made-holds (q ∷ qs) run tail g h k =
      quasis-hold ((q ∷ qs) ++ (closed run ++ tail ∷ [])) (each-append QuasiHolds (q ∷ qs) (closed run ++ tail ∷ []) g (each-and QuasiHolds (closed run) tail (closed-hold run h) k))

  list-joined-holds : (t : Tree) (p : Pieces) (tail : PlainQuasi) → I.trees t → PiecesHold p → QuasiHolds tail → QuasiHolds (list_joined t p tail)
  list-joined-holds t p tail g h k = quasi-if (p.fixed && is_constant tail) (constant t) (made_of p.parts p.run tail) g (made-holds p.parts p.run tail h.0 h.1 k)

  vector-joined-holds : (t : Tree) (p : Pieces) → I.trees t → PiecesHold p → QuasiHolds (vector_joined t p)
  vector-joined-holds t p g h =
      quasi-if p.fixed (constant t) (call maker.ListToVector (quasis (made_of p.parts p.run (constant nil) ∷ []))) g (quasis-hold (made_of p.parts p.run (constant nil) ∷ []) (made-holds p.parts p.run (constant nil) h.0 h.1 (parts.atom a.Nil parts.nil), tt))

  -- Forms.

  record IsElement (x : ElementPlan) : Type 0 where
    form : I.trees x.0
    made : (n : ℕ) → OkHolds QuasiHolds (x.1 n)

  forms-hold : (xs : List ElementPlan) → Each IsElement xs → Ts (forms xs)
  forms-hold [] h = tt
  forms-hold (x ∷ xs) h = (h.0.form, forms-hold xs h.1)

  step-by-holds : (n : ℕ) (x : ElementPlan) (p : Pieces) (u : QuasiTaken) → IsElement x → PiecesHold p → TakenHolds u → OkHolds PiecesHold (step_by n x p u)
  step-by-holds n x p (taken.Each es) one h k = with-each-holds p es h k
  step-by-holds n x p (taken.Spliced es) one h k = with-splices-holds p es h k
  step-by-holds n x p taken.Kept one h k = then-holds QuasiHolds PiecesHold (x.1 n) (λ q. Ok (with_item p q)) (one.made n) (λ q j. with-item-holds p q h j)

  walked-holds : (w : WordOf) (n : ℕ) (p : Pieces) (xs : List ElementPlan) → PiecesHold p → Each IsElement xs → OkHolds PiecesHold (walked w n p xs)
  walked-holds w n p [] h all = h
  walked-holds w n p (x ∷ xs) h all =
      then-holds PiecesHold PiecesHold (step w n p x) (λ q. walked w n q xs) (step-by-holds n x p (taken_at w n x.0) all.0 h (taken-holds w n x.0 all.0.form)) (λ q k. walked-holds w n q xs k all.1)

  abbrev BegunHolds : Begun → Type 0
  BegunHolds (begun.Whole e) = I.trees e
  BegunHolds (begun.Parts p) = PiecesHold p

  or-bad-holds : (o : Option Tree) → OptionHolds I.trees o → OkHolds BegunHolds (operand_or_bad o)
  or-bad-holds None h = tt
  or-bad-holds (Some e) h = h

  begun-holds : (o : Option Tree) (r : Result Pieces Bare) (x : Reach) → OptionHolds I.trees o → OkHolds PiecesHold r → OkHolds BegunHolds (begun_by o r x)
  begun-holds o r reached.Operand h k = or-bad-holds o h
  begun-holds o r reached.Refused h k = tt
  begun-holds o r reached.Elements h k = then-holds PiecesHold BegunHolds r (λ p. Ok (begun.Parts p)) k (λ p j. j)

  begins-hold : (w : WordOf) (xs : List ElementPlan) (ends : Bool) (n : ℕ) → Each IsElement xs → OkHolds BegunHolds (begins w xs ends n)
  begins-hold w xs ends n all =
      begun-holds (operand_of ends (forms xs)) (walked w (inner (first_word w (forms xs)) n) no_pieces xs) (reach (first_word w (forms xs)) n) (operand-holds ends (forms xs) (forms-hold xs all))
      (walked-holds w (inner (first_word w (forms xs)) n) no_pieces xs (tt, tt) all)

  abbrev IsTail : Tail → Type 0
  IsTail x = (n : ℕ) → OkHolds QuasiHolds (x.made n)

  finished-holds : (t : Tree) (x : Tail) (n : ℕ) (b : Begun) → I.trees t → IsTail x → BegunHolds b → OkHolds QuasiHolds (finished t x n b)
  finished-holds t x n (begun.Whole e) g tail h = h
  finished-holds t x n (begun.Parts p) g tail h = then-holds QuasiHolds QuasiHolds (x.made n) (λ q. Ok (list_joined t p q)) (tail n) (λ q k. list-joined-holds t p q g h k)

  rest-holds : (n : ℕ) (t : Tree) → I.trees t → I.trees (rest_at n t)
  rest-holds zero t h = h
  rest-holds (suc n) (atom s a) h = h
  rest-holds (suc n) (leaf s x c) h = h
  rest-holds (suc n) (pair s a d) h = rest-holds n d (parts.rest s a d h)
  rest-holds (suc n) (vector s d) h = h

  flat-holds : (w : WordOf) (t : Tree) (xs : List ElementPlan) (x : Tail) (n : ℕ) → I.trees t → Each IsElement xs → IsTail x → OkHolds QuasiHolds (flat w t xs x n)
  flat-holds w t xs x n g all tail = then-holds BegunHolds QuasiHolds (begins w xs x.ends n) (finished t x n) (begins-hold w xs x.ends n all) (λ b h. finished-holds t x n b g tail h)

  list-made-holds : (w : WordOf) (t : Tree) (xs : List ElementPlan) (x : Tail) (n : ℕ) → I.trees t → Each IsElement xs → IsTail x → OkHolds QuasiHolds (list_made w t xs x n)
  list-made-holds w t xs x n g all tail =
      ok-if QuasiHolds (splits w x.ends (forms xs)) (flat w t (take (length xs - 2) xs) (split_tail w t xs x) n) (flat w t xs x n)
      (flat-holds w t (take (length xs - 2) xs) (split_tail w t xs x) n g (each-taken IsElement (length xs - 2) xs all) (λ m. flat-holds w (rest_at (length xs - 2) t) (drop (length xs - 2) xs) x m (rest-holds (length xs - 2) t g) (each-dropped IsElement (length xs - 2) xs all) tail))
      (flat-holds w t xs x n g all tail)

  vector-made-holds : (w : WordOf) (t : Tree) (xs : List ElementPlan) (n : ℕ) → I.trees t → Each IsElement xs → OkHolds QuasiHolds (vector_made w t xs n)
  vector-made-holds w t xs n g all = then-holds PiecesHold QuasiHolds (walked w n no_pieces xs) (λ p. Ok (vector_joined t p)) (walked-holds w n no_pieces xs (tt, tt) all) (λ p h. vector-joined-holds t p g h)

  module _ (w : WordOf) where
    mutual
      quasi-at-holds : (t : Tree) → I.trees t → (n : ℕ) → OkHolds QuasiHolds (quasi_at w t n)
      quasi-at-holds (atom s a) g n = g
      quasi-at-holds (leaf s x c) g n = g
      quasi-at-holds (pair s a d) g n =
          list-made-holds w (pair s a d) ((a, quasi_at w a) ∷ elements_made w d) (record { ends = is_nil (tail_of d); made = tail_made w d }) n g
          (record { form = parts.first s a d g; made = λ m. quasi-at-holds a (parts.first s a d g) m }, elements-hold d (parts.rest s a d g)) (λ m. tail-holds d (parts.rest s a d g) m)
      quasi-at-holds (vector s d) g n = vector-made-holds w (vector s d) (elements_made w d) n g (elements-hold d (parts.elements s d g))

      elements-hold : (t : Tree) → I.trees t → Each IsElement (elements_made w t)
      elements-hold (atom s a) g = tt
      elements-hold (leaf s x c) g = tt
      elements-hold (pair s a d) g = (record { form = parts.first s a d g; made = λ m. quasi-at-holds a (parts.first s a d g) m }, elements-hold d (parts.rest s a d g))
      elements-hold (vector s d) g = tt

      tail-holds : (t : Tree) → I.trees t → (n : ℕ) → OkHolds QuasiHolds (tail_made w t n)
      tail-holds (atom s a) g n = g
      tail-holds (leaf s x c) g n = g
      tail-holds (pair s a d) g n = tail-holds d (parts.rest s a d g) n
      tail-holds (vector s d) g n = vector-made-holds w (vector s d) (elements_made w d) n g (elements-hold d (parts.elements s d g))

    pub quasi-holds : (t form : Tree) (place : Span) → I.trees t → OkHolds QuasiHolds (quasi w t form place)
    quasi-holds t form place g = by (quasi_at w t 0) (quasi-at-holds t g 0)
      where
        by : (r : Result PlainQuasi Bare) → OkHolds QuasiHolds r → OkHolds QuasiHolds (at_form form place r)
        by (Ok q) h = h
        by (Err f) h = tt
