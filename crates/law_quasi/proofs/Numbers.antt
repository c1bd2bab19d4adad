-- Each insert has the leaf of its own number.
use Rattle.std.proofs.Common.{◌≡◌, ℕ, zero, suc, ◌+◌, Bool, true, false, List, [], ◌∷◌, ◌++◌, length, take, drop, Option, None, Some, Ok, Err, ap, ◌∙◌, subst, arith}
use Rattle.std.specs.Prelude.{Result, ◌-◌, if◌then◌else◌}
use Rattle.base_data.specs.declared.fault.Bare.{Bare}
use Rattle.base_data.specs.declared.span.Span.{Span}
use Rattle.stx_tree.specs.Tree.{Tree, atom, leaf, pair, vector}
use Rattle.core_shapes.specs.Lists.{is_nil, tail_of}
use Rattle.core_quasi.specs.Words.{inner, reach}
use Rattle.core_quasi.specs.Parts.{rest_at, splits, taken_at, first_word, operand_of}
use Rattle.core_quasi.specs.QuasiSyntax.{Looked, Inserts, then_insert, insert_leaf, insert, no_trees, leaves, spliced, with_part, unchanged, list_joined, vector_joined, joined, ElementInserts, forms, step, step_by, walked, operand_or_bad, begun_by, begins, Tail, finished, flat, split_tail, escapes, list_made, vector_made, syntax_at, elements_made, tail_made, answer, quasi_syntax}
use Rattle.base_data.specs.Gives.{◌>>=◌}
use Rattle.core_quasi.specs.Quasi.{at_form}
use Rattle.core_quasi.specs.declared.quasi_syntax.QuasiSyntax.{QuasiSyntax}
use Rattle.core_quasi.specs.declared.parts.QuasiTaken.{QuasiTaken}
use Rattle.core_quasi.specs.declared.parts.QuasiTaken.TheVariants as taken
use Rattle.core_quasi.specs.declared.quasi_syntax.Begun.{Begun}
use Rattle.core_quasi.specs.declared.quasi_syntax.Begun.TheVariants as begun
use Rattle.core_quasi.specs.declared.quasi_syntax.Insert.{Insert}
use Rattle.core_quasi.specs.declared.quasi_syntax.QuasiPart.{QuasiPart}
use Rattle.core_quasi.specs.declared.quasi_syntax.QuasiRow.{QuasiRow}
use Rattle.core_quasi.specs.declared.word.Reach.{Reach}
use Rattle.core_quasi.specs.declared.word.Reach.TheVariants as reached
use Rattle.law_quasi.specs.Numbered.{IsNumbered}

added : (k : ℕ) (is : List Insert) (x : Insert) → IsNumbered k is → x.leaf ≡ insert_leaf (k + length is) → IsNumbered k (is ++ x ∷ [])
added k [] x h e = (e ∙ ap insert_leaf (omega arith), tt)
added k (i ∷ is) x h e = (h.0, added (suc k) is x h.1 (e ∙ ap insert_leaf (omega arith)))

one_more : (depth : ℕ) (e : Tree) (is : List Insert) → IsNumbered 0 is → IsNumbered 0 (is ++ insert depth e is ∷ [])
one_more depth e is h = added 0 is (insert depth e is) h (ap insert_leaf (omega arith))

leaves_numbered : (ts es : List Tree) (is : List Insert) → IsNumbered 0 is → IsNumbered 0 (leaves ts es is).1
leaves_numbered ts [] is h = h
leaves_numbered ts (e ∷ es) is h = leaves_numbered (ts ++ insert_leaf (length is) ∷ []) es (is ++ insert 0 e is ∷ []) (one_more 0 e is h)

spliced_numbered : (dots : Tree) (ts es : List Tree) (is : List Insert) → IsNumbered 0 is → IsNumbered 0 (spliced dots ts es is).1
spliced_numbered dots ts [] is h = h
spliced_numbered dots ts (e ∷ es) is h =
    spliced_numbered dots ((ts ++ insert_leaf (length is) ∷ []) ++ dots ∷ []) es (is ++ insert 1 e is ∷ []) (one_more 1 e is h)

module _ {A : Type 0} where
  abbrev Kept : Result (A × List Insert) Bare → Type 0
  Kept (Ok p) = IsNumbered 0 p.1
  Kept (Err e) = Unit {0}

  abbrev Keeps : Inserts A → Type 0
  Keeps go = (is : List Insert) → IsNumbered 0 is → Kept (go is)

  joined_keeps : (r : Result A Bare) → Keeps (joined r)
  joined_keeps (Ok x) is h = h
  joined_keeps (Err e) is h = tt

then_keeps : {A B : Type 0} (r : Result (A × List Insert) Bare) (k : A → Inserts B) → Kept r → ((a : A) → Keeps (k a)) → Kept (then_insert r k)
then_keeps (Ok p) k h g = g p.0 p.1 h
then_keeps (Err e) k h g = tt

abbrev AllKeep : List ElementInserts → Type 0
AllKeep [] = Unit {0}
AllKeep (x ∷ xs) = ((n : ℕ) → Keeps (x.1 n)) × AllKeep xs

keep_take : (k : ℕ) (xs : List ElementInserts) → AllKeep xs → AllKeep (take k xs)
keep_take zero xs h = tt
keep_take (suc k) [] h = tt
keep_take (suc k) (x ∷ xs) h = (h.0, keep_take k xs h.1)

keep_drop : (k : ℕ) (xs : List ElementInserts) → AllKeep xs → AllKeep (drop k xs)
keep_drop zero xs h = h
keep_drop (suc k) [] h = tt
keep_drop (suc k) (x ∷ xs) h = keep_drop k xs h.1

module _ (w : Looked) where
  step_keeps : (n : ℕ) (r : QuasiRow) (x : ElementInserts) → ((m : ℕ) → Keeps (x.1 m)) → (k : QuasiTaken) → Keeps (step_by w n x r k)
  step_keeps n r x g (taken.Each es) is h = leaves_numbered r.trees es is h
  step_keeps n r x g (taken.Spliced es) is h = spliced_numbered w.dots r.trees es is h
  step_keeps n r x g taken.Kept is h = then_keeps (x.1 n is) (λ p js. Ok (with_part r p, js)) (g n is h) (λ p js k. k)

  walk_keeps : (n : ℕ) (xs : List ElementInserts) (r : QuasiRow) → AllKeep xs → Keeps (walked w n r xs)
  walk_keeps n [] r g is h = h
  walk_keeps n (x ∷ xs) r g is h =
      then_keeps (step w n r x is) (λ q js. walked w n q xs js) (step_keeps n r x g.0 (taken_at w.words n x.0) is h) (λ q. walk_keeps n xs q g.1)

  operand_keeps : (o : Option Tree) → Keeps (operand_or_bad o)
  operand_keeps None is h = tt
  operand_keeps (Some e) is h = one_more 0 e is h

  begun_keeps : (o : Option Tree) (row : Inserts QuasiRow) (x : Reach) → Keeps row → Keeps (begun_by o row x)
  begun_keeps o row reached.Operand g is h = operand_keeps o is h
  begun_keeps o row reached.Refused g is h = tt
  begun_keeps o row reached.Elements g is h = then_keeps (row is) (λ r js. Ok (begun.Trees r, js)) (g is h) (λ r js k. k)

  finished_keeps : (t : Tree) (tail : Tail) (n : ℕ) → Keeps (tail.made n) → (b : Begun) → Keeps (finished t tail n b)
  finished_keeps t tail n g (begun.Whole p) is h = h
  finished_keeps t tail n g (begun.Trees r) is h = then_keeps (tail.made n is) (λ q. joined (list_joined t r q)) (g is h) (λ q. joined_keeps (list_joined t r q))

  flat_keeps : (t : Tree) (xs : List ElementInserts) (tail : Tail) (n : ℕ) → AllKeep xs → Keeps (tail.made n) → Keeps (flat w t xs tail n)
  flat_keeps t xs tail n g k is h =
      then_keeps (begins w xs tail.ends n is) (finished t tail n)
      (begun_keeps (operand_of tail.ends (forms xs)) (walked w (inner (first_word w.words (forms xs)) n) no_trees xs) (reach (first_word w.words (forms xs)) n)
      (walk_keeps (inner (first_word w.words (forms xs)) n) xs no_trees g) is h)
      (finished_keeps t tail n k)

  list_keeps : (t : Tree) (xs : List ElementInserts) (tail : Tail) (n : ℕ) → AllKeep xs → ((m : ℕ) → Keeps (tail.made m)) → Keeps (list_made w t xs tail n)
  list_keeps t xs tail n g k is h = go (escapes (first_word w.words (forms xs)) tail.ends (forms xs)) (splits w.words tail.ends (forms xs))
    where
      go : (e s : Bool) → Kept (if e then Ok (unchanged t, is)
          else if s then flat w t (take (length xs - 2) xs) (split_tail w t xs tail) n is else flat w t xs tail n is)
      go true s = h
      go false true =
          flat_keeps t (take (length xs - 2) xs) (split_tail w t xs tail) n (keep_take (length xs - 2) xs g)
          (flat_keeps (rest_at (length xs - 2) t) (drop (length xs - 2) xs) tail n (keep_drop (length xs - 2) xs g) (k n)) is h
      go false false = flat_keeps t xs tail n g (k n) is h

  vector_keeps : (t : Tree) (xs : List ElementInserts) (n : ℕ) → AllKeep xs → Keeps (vector_made w t xs n)
  vector_keeps t xs n g is h = then_keeps (walked w n no_trees xs is) (λ r. joined (vector_joined t r)) (walk_keeps n xs no_trees g is h) (λ r. joined_keeps (vector_joined t r))

  mutual
    pub keeps : (t : Tree) (n : ℕ) → Keeps (syntax_at w t n)
    keeps (atom s a) n is h = h
    keeps (leaf s x c) n is h = h
    keeps (pair s a d) n is h =
        list_keeps (pair s a d) ((a, syntax_at w a) ∷ elements_made w d) (record { ends = is_nil (tail_of d); made = tail_made w d }) n (keeps a, all_keep d) (tail_keeps d) is h
    keeps (vector s d) n is h = vector_keeps (vector s d) (elements_made w d) n (all_keep d) is h

    all_keep : (t : Tree) → AllKeep (elements_made w t)
    all_keep (atom s a) = tt
    all_keep (leaf s x c) = tt
    all_keep (pair s a d) = (keeps a, all_keep d)
    all_keep (vector s d) = tt

    tail_keeps : (t : Tree) (n : ℕ) → Keeps (tail_made w t n)
    tail_keeps (atom s a) n is h = h
    tail_keeps (leaf s x c) n is h = h
    tail_keeps (pair s a d) n is h = tail_keeps d n is h
    tail_keeps (vector s d) n is h = vector_keeps (vector s d) (elements_made w d) n (all_keep d) is h

  -- the inserts of a whole form
  pub all_numbered : (t form : Tree) (place : Span) (q : QuasiSyntax) → quasi_syntax w t form place ≡ Ok q → IsNumbered 0 q.inserts
  all_numbered t form place q = go (syntax_at w t 0 []) (keeps t 0 [] tt)
    where
      go : (r : Result (QuasiPart × List Insert) Bare) → Kept r → (at_form form place r >>= λ p. Ok (answer p)) ≡ Ok q → IsNumbered 0 q.inserts
      go (Ok p) h e =
          let is : answer p ≡ q = cc in
          subst (λ (x : QuasiSyntax). IsNumbered 0 x.inserts) is h
      go (Err f) h e = absurd (cc)
