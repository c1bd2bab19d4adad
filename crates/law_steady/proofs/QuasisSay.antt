-- No `quasiquote` and no `quasisyntax` form is refused for cells that don't fit.
use Rattle.std.proofs.Common.{ℕ, ◌-◌, List, [], ◌∷◌, length, take, drop, Option, None, Some, Result, Ok, Err}
use Rattle.std.specs.Prelude.{◌||◌}
use Rattle.base_data.proofs.ElementLemmas.{each-taken, each-dropped}
use Rattle.base_data.specs.Elements.{Each}
use Rattle.base_data.specs.declared.fault.Bare.{Bare}
use Rattle.base_data.specs.declared.span.Span.{Span}
use Rattle.stx_tree.specs.Tree as tree
use Rattle.stx_tree.specs.Tree.{Tree, span_of, spanned, list_of, vector_of}
use Rattle.stx_tree.specs.Measures.{within}
use Rattle.core_shapes.specs.Lists.{is_nil, tail_of}
use Rattle.core_quasi.specs.Parts.{rest_at, splits, taken_at, first_word, operand_of}
use Rattle.core_quasi.specs.Quasi as quote
use Rattle.core_quasi.specs.QuasiSyntax as syntaxes
use Rattle.core_quasi.specs.QuasiSyntax.{Looked}
use Rattle.core_quasi.specs.Words.{WordOf, inner, reach}
use Rattle.core_quasi.specs.declared.parts.QuasiTaken.{QuasiTaken}
use Rattle.core_quasi.specs.declared.parts.QuasiTaken.TheVariants as taken
use Rattle.core_quasi.specs.declared.quasi.Pieces.{Pieces}
use Rattle.core_quasi.specs.declared.quasi.Begun.{Begun}
use Rattle.core_quasi.specs.declared.quasi.Begun.TheVariants as begun
use Rattle.core_quasi.specs.declared.quasi_syntax.Begun.TheVariants as of_syntax
use Rattle.core_quasi.specs.declared.quasi_syntax.Insert.{Insert}
use Rattle.core_quasi.specs.declared.quasi_syntax.QuasiPart.{QuasiPart}
use Rattle.core_quasi.specs.declared.quasi_syntax.QuasiRow.{QuasiRow}
use Rattle.core_quasi.specs.declared.word.Reach.{Reach}
use Rattle.core_quasi.specs.declared.word.Reach.TheVariants as reached
use Rattle.law_stuck.proofs.Refusals.{Tells, tells-if, tells-then, tells-within}
use Rattle.law_steady.proofs.Says.{Says, says-then}

pub says-form : {A : Type 0} (form : Tree) (place : Span) (r : Result A Bare) → Tells r → Says (quote.at_form form place r)
says-form form place (Ok x) h = tt
says-form form place (Err f) h = h

-- `quasiquote`

abbrev Quiet : quote.ElementPlan → Type 0
Quiet x = (n : ℕ) → Tells (x.1 n)

module _ (w : WordOf) where
  quote-step : (n : ℕ) (x : quote.ElementPlan) (p : Pieces) (k : QuasiTaken) → Quiet x → Tells (quote.step_by n x p k)
  quote-step n x p (taken.Each es) h = tt
  quote-step n x p (taken.Spliced es) h = tt
  quote-step n x p taken.Kept h = tells-then (x.1 n) (λ q. Ok (quote.with_item p q)) (h n) (λ q. tt)

  quote-walked : (n : ℕ) (p : Pieces) (xs : List quote.ElementPlan) → Each Quiet xs → Tells (quote.walked w n p xs)
  quote-walked n p [] h = tt
  quote-walked n p (x ∷ xs) h = tells-then (quote.step w n p x) (λ q. quote.walked w n q xs) (quote-step n x p (taken_at w n x.0) h.0) (λ q. quote-walked n q xs h.1)

  quote-operand : (o : Option Tree) → Tells (quote.operand_or_bad o)
  quote-operand None = tt
  quote-operand (Some e) = tt

  quote-begun : (o : Option Tree) (r : Result Pieces Bare) (k : Reach) → Tells r → Tells (quote.begun_by o r k)
  quote-begun o r reached.Operand h = quote-operand o
  quote-begun o r reached.Refused h = tt
  quote-begun o r reached.Elements h = tells-then r (λ p. Ok (begun.Parts p)) h (λ p. tt)

  quote-finished : (t : Tree) (tail : quote.Tail) (n : ℕ) (b : Begun) → ((m : ℕ) → Tells (tail.made m)) → Tells (quote.finished t tail n b)
  quote-finished t tail n (begun.Whole e) h = tt
  quote-finished t tail n (begun.Parts p) h = tells-then (tail.made n) (λ q. Ok (quote.list_joined t p q)) (h n) (λ q. tt)

  quote-flat : (t : Tree) (xs : List quote.ElementPlan) (tail : quote.Tail) (n : ℕ) → Each Quiet xs → ((m : ℕ) → Tells (tail.made m)) → Tells (quote.flat w t xs tail n)
  quote-flat t xs tail n h k =
      tells-then (quote.begins w xs tail.ends n) (quote.finished t tail n)
      (quote-begun (operand_of tail.ends (quote.forms xs)) (quote.walked w (inner (first_word w (quote.forms xs)) n) quote.no_pieces xs) (reach (first_word w (quote.forms xs)) n) (quote-walked (inner (first_word w (quote.forms xs)) n) quote.no_pieces xs h))
      (λ b. quote-finished t tail n b k)

  quote-list : (t : Tree) (xs : List quote.ElementPlan) (tail : quote.Tail) (n : ℕ) → Each Quiet xs → ((m : ℕ) → Tells (tail.made m)) → Tells (quote.list_made w t xs tail n)
  quote-list t xs tail n h k =
      tells-if (splits w tail.ends (quote.forms xs)) _ _
      (quote-flat t (take (length xs - 2) xs) (quote.split_tail w t xs tail) n (each-taken Quiet (length xs - 2) xs h)
      (λ m. quote-flat (rest_at (length xs - 2) t) (drop (length xs - 2) xs) tail m (each-dropped Quiet (length xs - 2) xs h) k))
      (quote-flat t xs tail n h k)

  quote-vector : (t : Tree) (xs : List quote.ElementPlan) (n : ℕ) → Each Quiet xs → Tells (quote.vector_made w t xs n)
  quote-vector t xs n h = tells-then (quote.walked w n quote.no_pieces xs) (λ p. Ok (quote.vector_joined t p)) (quote-walked n quote.no_pieces xs h) (λ p. tt)

  mutual
    quote-at : (t : Tree) (n : ℕ) → Tells (quote.quasi_at w t n)
    quote-at (tree.atom s a) n = tt
    quote-at (tree.leaf s x c) n = tt
    quote-at (tree.pair s a d) n =
        quote-list (tree.pair s a d) ((a, quote.quasi_at w a) ∷ quote.elements_made w d) (record { ends = is_nil (tail_of d); made = quote.tail_made w d }) n (quote-at a, quote-elements d) (quote-tail d)
    quote-at (tree.vector s d) n = quote-vector (tree.vector s d) (quote.elements_made w d) n (quote-elements d)

    quote-elements : (t : Tree) → Each Quiet (quote.elements_made w t)
    quote-elements (tree.atom s a) = tt
    quote-elements (tree.leaf s x c) = tt
    quote-elements (tree.pair s a d) = (quote-at a, quote-elements d)
    quote-elements (tree.vector s d) = tt

    quote-tail : (t : Tree) (n : ℕ) → Tells (quote.tail_made w t n)
    quote-tail (tree.atom s a) n = tt
    quote-tail (tree.leaf s x c) n = tt
    quote-tail (tree.pair s a d) n = quote-tail d n
    quote-tail (tree.vector s d) n = quote-vector (tree.vector s d) (quote.elements_made w d) n (quote-elements d)

  pub says-quote : (template form : Tree) (place : Span) → Says (quote.quasi w template form place)
  says-quote template form place = says-form form place (quote.quasi_at w template 0) (quote-at template 0)

-- `quasisyntax`

abbrev QuietSyntax : syntaxes.ElementInserts → Type 0
QuietSyntax x = (n : ℕ) (is : List Insert) → Tells (x.1 n is)

insert-then : {A B : Type 0} (r : Result (A × List Insert) Bare) (k : A → syntaxes.Inserts B) → Tells r → ((a : A) (is : List Insert) → Tells (k a is)) → Tells (syntaxes.then_insert r k)
insert-then (Ok p) k h next = next p.0 p.1
insert-then (Err f) k h next = h

insert-joined : {A : Type 0} (r : Result A Bare) (is : List Insert) → Tells r → Tells (syntaxes.joined r is)
insert-joined (Ok x) is h = tt
insert-joined (Err f) is h = h

syntax-rebuilt : (t : Tree) (r : Result Tree Bare) → Tells r → Tells (syntaxes.rebuilt t r)
syntax-rebuilt t (Ok u) h = tt
syntax-rebuilt t (Err f) h = h

syntax-list_joined : (t : Tree) (r : QuasiRow) (tail : QuasiPart) → Tells (syntaxes.list_joined t r tail)
syntax-list_joined t r tail = tells-if (r.changed || tail.changed) _ _ (syntax-rebuilt t (within (list_of r.trees (Some tail.tree))) (tells-within (list_of r.trees (Some tail.tree)))) tt

syntax-vector_joined : (t : Tree) (r : QuasiRow) → Tells (syntaxes.vector_joined t r)
syntax-vector_joined t r = tells-if r.changed _ _ (syntax-rebuilt t (within (vector_of r.trees)) (tells-within (vector_of r.trees))) tt

module _ (w : Looked) where
  syntax-step : (n : ℕ) (x : syntaxes.ElementInserts) (r : QuasiRow) (k : QuasiTaken) (is : List Insert) → QuietSyntax x → Tells (syntaxes.step_by w n x r k is)
  syntax-step n x r (taken.Each es) is h = tt
  syntax-step n x r (taken.Spliced es) is h = tt
  syntax-step n x r taken.Kept is h = insert-then (x.1 n is) (λ p js. Ok (syntaxes.with_part r p, js)) (h n is) (λ p js. tt)

  syntax-walked : (n : ℕ) (r : QuasiRow) (xs : List syntaxes.ElementInserts) (is : List Insert) → Each QuietSyntax xs → Tells (syntaxes.walked w n r xs is)
  syntax-walked n r [] is h = tt
  syntax-walked n r (x ∷ xs) is h =
      insert-then (syntaxes.step w n r x is) (λ q js. syntaxes.walked w n q xs js) (syntax-step n x r (taken_at w.words n x.0) is h.0) (λ q js. syntax-walked n q xs js h.1)

  syntax-operand : (o : Option Tree) (is : List Insert) → Tells (syntaxes.operand_or_bad o is)
  syntax-operand None is = tt
  syntax-operand (Some e) is = tt

  syntax-begun : (o : Option Tree) (row : syntaxes.Inserts QuasiRow) (k : Reach) (is : List Insert) → Tells (row is) → Tells (syntaxes.begun_by o row k is)
  syntax-begun o row reached.Operand is h = syntax-operand o is
  syntax-begun o row reached.Refused is h = tt
  syntax-begun o row reached.Elements is h = insert-then (row is) (λ r js. Ok (of_syntax.Trees r, js)) h (λ r js. tt)

  syntax-finished : (t : Tree) (tail : syntaxes.Tail) (n : ℕ) (b : of_syntax.the_data) (is : List Insert) → ((m : ℕ) (js : List Insert) → Tells (tail.made m js)) → Tells (syntaxes.finished t tail n b is)
  syntax-finished t tail n (of_syntax.Whole p) is h = tt
  syntax-finished t tail n (of_syntax.Trees r) is h =
      insert-then (tail.made n is) (λ q. syntaxes.joined (syntaxes.list_joined t r q)) (h n is) (λ q js. insert-joined (syntaxes.list_joined t r q) js (syntax-list_joined t r q))

  syntax-flat : (t : Tree) (xs : List syntaxes.ElementInserts) (tail : syntaxes.Tail) (n : ℕ) (is : List Insert) → Each QuietSyntax xs → ((m : ℕ) (js : List Insert) → Tells (tail.made m js)) → Tells (syntaxes.flat w t xs tail n is)
  syntax-flat t xs tail n is h k =
      insert-then (syntaxes.begins w xs tail.ends n is) (syntaxes.finished t tail n)
      (syntax-begun (operand_of tail.ends (syntaxes.forms xs)) (syntaxes.walked w (inner (first_word w.words (syntaxes.forms xs)) n) syntaxes.no_trees xs) (reach (first_word w.words (syntaxes.forms xs)) n) is
      (syntax-walked (inner (first_word w.words (syntaxes.forms xs)) n) syntaxes.no_trees xs is h))
      (λ b js. syntax-finished t tail n b js k)

  syntax-list : (t : Tree) (xs : List syntaxes.ElementInserts) (tail : syntaxes.Tail) (n : ℕ) (is : List Insert) → Each QuietSyntax xs → ((m : ℕ) (js : List Insert) → Tells (tail.made m js)) → Tells (syntaxes.list_made w t xs tail n is)
  syntax-list t xs tail n is h k =
      tells-if (syntaxes.escapes (first_word w.words (syntaxes.forms xs)) tail.ends (syntaxes.forms xs)) _ _ tt
      (tells-if (splits w.words tail.ends (syntaxes.forms xs)) _ _
      (syntax-flat t (take (length xs - 2) xs) (syntaxes.split_tail w t xs tail) n is (each-taken QuietSyntax (length xs - 2) xs h)
      (λ m js. syntax-flat (rest_at (length xs - 2) t) (drop (length xs - 2) xs) tail m js (each-dropped QuietSyntax (length xs - 2) xs h) k))
      (syntax-flat t xs tail n is h k))

  syntax-vector : (t : Tree) (xs : List syntaxes.ElementInserts) (n : ℕ) (is : List Insert) → Each QuietSyntax xs → Tells (syntaxes.vector_made w t xs n is)
  syntax-vector t xs n is h =
      insert-then (syntaxes.walked w n syntaxes.no_trees xs is) (λ r. syntaxes.joined (syntaxes.vector_joined t r)) (syntax-walked n syntaxes.no_trees xs is h) (λ r js. insert-joined (syntaxes.vector_joined t r) js (syntax-vector_joined t r))

  mutual
    syntax-at : (t : Tree) (n : ℕ) (is : List Insert) → Tells (syntaxes.syntax_at w t n is)
    syntax-at (tree.atom s a) n is = tt
    syntax-at (tree.leaf s x c) n is = tt
    syntax-at (tree.pair s a d) n is =
        syntax-list (tree.pair s a d) ((a, syntaxes.syntax_at w a) ∷ syntaxes.elements_made w d) (record { ends = is_nil (tail_of d); made = syntaxes.tail_made w d }) n is (syntax-at a, syntax-elements d) (syntax-tail d)
    syntax-at (tree.vector s d) n is = syntax-vector (tree.vector s d) (syntaxes.elements_made w d) n is (syntax-elements d)

    syntax-elements : (t : Tree) → Each QuietSyntax (syntaxes.elements_made w t)
    syntax-elements (tree.atom s a) = tt
    syntax-elements (tree.leaf s x c) = tt
    syntax-elements (tree.pair s a d) = (syntax-at a, syntax-elements d)
    syntax-elements (tree.vector s d) = tt

    syntax-tail : (t : Tree) (n : ℕ) (is : List Insert) → Tells (syntaxes.tail_made w t n is)
    syntax-tail (tree.atom s a) n is = tt
    syntax-tail (tree.leaf s x c) n is = tt
    syntax-tail (tree.pair s a d) n is = syntax-tail d n is
    syntax-tail (tree.vector s d) n is = syntax-vector (tree.vector s d) (syntaxes.elements_made w d) n is (syntax-elements d)

  pub says-syntax : (template form : Tree) (place : Span) → Says (syntaxes.quasi_syntax w template form place)
  says-syntax template form place =
      says-then (quote.at_form form place (syntaxes.syntax_at w template 0 [])) (λ p. Ok (syntaxes.answer p)) (says-form form place (syntaxes.syntax_at w template 0 []) (syntax-at template 0 [])) (λ p. tt)
