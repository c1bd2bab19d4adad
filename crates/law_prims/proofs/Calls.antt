-- What holds of the arguments of a call of a primitive and of the cells holds of what it makes.
use Rattle.std.proofs.Common.{◌≡◌, ◌+◌, ◌-◌, ◌/◌, ◌%◌, ◌^◌, ◌==◌, ◌||◌, ◌&&◌, ℕ, zero, suc, ℤ, pos, negsuc, List, [], ◌∷◌, ◌++◌, Option, Some, None, Bool, true, false, Result, Ok, Err, length, reverse, map, chars, nat_le, unsigned_abs, sym, subst, slice_get, if◌then◌else◌}
use mathlib.Core.List.{reverse-cons}
use Rattle.base_data.proofs.ElementLemmas.{each-append, each-and, each-taken}
use Rattle.base_data.specs.Elements.{Each}
use Rattle.base_data.specs.declared.atom.Atom.TheVariants as a
use Rattle.base_data.specs.declared.fault.Bare.{Bare}
use Rattle.base_data.specs.declared.op.names.TheConstants as names
use Rattle.stx_tree.specs.Measures.{max_height}
use Rattle.stx_tree.specs.Tree.{Tree}
use Rattle.stx_frames.specs.Scope.{Scope}
use Rattle.eval_value.specs.Cells.{FitsIn, Lies, CellLies, WholeCells}
use Rattle.eval_value.specs.declared.value.Value.{Value}
use Rattle.eval_value.specs.declared.value.Value.TheVariants as value
use Rattle.eval_value.specs.declared.cell.Cell.{Cell}
use Rattle.eval_value.specs.declared.cell.Cell.TheVariants as cell
use Rattle.eval_prims.specs.declared.made.PrimResult.{PrimResult}
use Rattle.eval_prims.specs.declared.made.PrimResult.TheVariants as made
use Rattle.eval_prims.specs.declared.primitive.Primitive.{Primitive}
use Rattle.eval_prims.specs.Answers.{PrimAnswer, refused, or_refused, given, said}
use Rattle.eval_prims.specs.Basics as basics
use Rattle.eval_prims.specs.Basics.{part, kind_made, basic_made}
use Rattle.eval_prims.specs.Chains.{pair_of, list_elements, tail_after}
use Rattle.eval_prims.specs.Characters as characters
use Rattle.eval_prims.specs.Characters.{character_made}
use Rattle.eval_prims.specs.Data as data_of
use Rattle.eval_prims.specs.Copied.{is_syntax}
use Rattle.eval_prims.specs.Data.{datum_answer, syntax_answer}
use Rattle.eval_prims.specs.Delta.{row_answer, answer_by, delta}
use Rattle.eval_prims.specs.Each.{if_some, all_of, all_are, each_next, place_from, without, before_last, last_of}
use Rattle.eval_prims.specs.Equality.{equal_made}
use Rattle.eval_prims.specs.Identity.{same}
use Rattle.eval_prims.specs.Lists as lists
use Rattle.eval_prims.specs.Lists.{gathered_made, list_made, elements_joined, appended_made, indexed_made}
use Rattle.eval_prims.specs.Numbers as numbers
use Rattle.eval_prims.specs.Numbers.{computed, number_made}
use Rattle.eval_prims.specs.Parts.{is_datum}
use Rattle.eval_prims.specs.Perform.{MadeFits}
use Rattle.eval_prims.specs.Primitives.{primitive_of, takes}
use Rattle.eval_prims.specs.declared.relation.Relation.{Relation}
use Rattle.eval_prims.specs.declared.rows.TheConstants as rows
use Rattle.eval_prims.specs.Relations.{relation_of}
use Rattle.eval_prims.specs.Strings as strings
use Rattle.eval_prims.specs.Strings.{part_made, unpacked_made, string_made, digits_made, strings_made}
use Rattle.eval_prims.specs.Syntax as identifiers
use Rattle.eval_prims.specs.Syntax.{identifier_made, temporaries_made}
use Rattle.law_prims.specs.Holds.{HasNoPlace, HoldsIn, PartsHold, MadeHolds}
use Rattle.law_prims.proofs.Taken.{PairOr, ValueOr, ValuesOr, slice_holds, vector_at_holds, pair_holds, elements_hold, tail_holds}

reversed_holds : (P : Value → Type 0) (xs : List Value) → Each P xs → Each P (reverse xs)
reversed_holds P [] r = tt
reversed_holds P (x ∷ xs) r =
    subst (λ (ys : List Value). Each P ys) (sym (reverse-cons x xs)) (each-and P (reverse xs) x (reversed_holds P xs r.1) r.0)

module _ (P : Value → Type 0) (cells : List Cell) (holds : HoldsIn P cells) where
  abbrev MadeOr : Option PrimResult → Type 0
  MadeOr None = Unit {0}
  MadeOr (Some m) = MadeHolds P m

  abbrev AnswerOr : PrimAnswer → Type 0
  AnswerOr (Ok m) = MadeHolds P m
  AnswerOr (Err f) = Unit {0}

  -- Ways to make.

  made_if : (t : Bool) (a b : Option PrimResult) → MadeOr a → MadeOr b → MadeOr (if t then a else b)
  made_if true a b h k = h
  made_if false a b h k = k

  said_made : (b : Bool) → MadeOr (said b)
  said_made b = holds.plain _ tt

  given_made : (o : Option Value) → ValueOr P o → MadeOr (given o)
  given_made None r = tt
  given_made (Some x) r = r

  some_made : {A : Type 0} (o : Option A) (f : A → Option PrimResult) → ((x : A) → MadeOr (f x)) → MadeOr (if_some o f)
  some_made None f k = tt
  some_made (Some x) f k = k x

  some_value : (o : Option Value) (f : Value → Option PrimResult) → ValueOr P o → ((x : Value) → P x → MadeOr (f x)) → MadeOr (if_some o f)
  some_value None f r k = tt
  some_value (Some x) f r k = k x r

  some_values : (o : Option (List Value)) (f : List Value → Option PrimResult) → ValuesOr P o → ((xs : List Value) → Each P xs → MadeOr (f xs)) → MadeOr (if_some o f)
  some_values None f r k = tt
  some_values (Some xs) f r k = k xs r

  -- Numbers.

  integer_ok : (o : Option ℤ) → MadeOr (numbers.integer_made o)
  integer_ok None = tt
  integer_ok (Some z) = holds.plain _ tt

  whole_ok : (z : ℤ) → MadeOr (numbers.number z)
  whole_ok z = integer_ok (numbers.small z)

  compared_ok : (r : Option Relation) (zs : List ℤ) → MadeOr (numbers.compared r zs)
  compared_ok None zs = tt
  compared_ok (Some r) zs = said_made _

  first_ok : (op : ℕ) (zs : List ℤ) → MadeOr (numbers.of_first op zs)
  first_ok op [] = tt
  first_ok op (z ∷ zs) = made_if (op == names.MAX) _ _ (whole_ok (numbers.greatest z zs)) (whole_ok (numbers.least z zs))

  few_ok : (op : ℕ) (zs : List ℤ) → MadeOr (numbers.of_few op zs)
  few_ok op [] = tt
  few_ok op (z ∷ []) =
      made_if (op == names.IS_ZERO) _ _ (said_made _)
      (made_if (op == names.IS_POSITIVE) _ _ (said_made _)
      (made_if (op == names.IS_NEGATIVE) _ _ (said_made _)
      (made_if (op == names.IS_ODD) _ _ (said_made _)
      (made_if (op == names.IS_EVEN) _ _ (said_made _)
      (made_if (op == names.ABS) _ _ (whole_ok (pos (unsigned_abs z))) tt)))))
  few_ok op (x ∷ d ∷ []) = integer_ok (numbers.small_quotient op x d)
  few_ok op (x ∷ d ∷ y ∷ zs) = tt

  computed_ok : (op : ℕ) (zs : List ℤ) → MadeOr (computed op zs)
  unfolding computed
  computed_ok op zs =
      made_if (op == names.PLUS) _ _ (whole_ok (numbers.sum zs))
      (made_if (op == names.TIMES) _ _ (whole_ok (numbers.product zs))
      (made_if (op == names.MINUS) _ _ (whole_ok (numbers.difference zs))
      (made_if (nat_le names.LESS op && nat_le op names.AT_LEAST) _ _ (compared_ok (relation_of op) zs)
      (made_if (op == names.MAX) _ _ (first_ok op zs)
      (made_if (op == names.MIN) _ _ (first_ok op zs) (few_ok op zs))))))

  integers_ok : (op : ℕ) (o : Option (List ℤ)) → MadeOr (numbers.from_integers op o)
  integers_ok op None = tt
  integers_ok op (Some zs) = computed_ok op zs

  number_ok : (op : ℕ) (args : List Value) → MadeOr (number_made op args)
  unfolding number_made
  number_ok op args = integers_ok op (all_of numbers.integer [] args)

  -- Characters.

  character_at_ok : (n : ℕ) → MadeOr (characters.character_at n)
  character_at_ok n = made_if (characters.is_scalar n) _ _ (holds.plain _ tt) tt

  to_character_ok : (x : Value) → MadeOr (characters.to_character x)
  to_character_ok (value.Atom (a.Int (pos n))) = character_at_ok n
  to_character_ok (value.Atom (a.Int (negsuc n))) = tt
  to_character_ok _ = tt

  from_character_ok : (x : Value) → MadeOr (characters.from_character x)
  from_character_ok (value.Atom (a.Char c)) = holds.plain _ tt
  from_character_ok _ = tt

  alike_ok : (op : ℕ) (args : List Value) → MadeOr (characters.alike op args)
  alike_ok op args = made_if (all_are (characters.is_kind op) args) (said (each_next same args)) None (said_made (each_next same args)) tt

  of_character_ok : (op : ℕ) (args : List Value) → MadeOr (characters.of_character op args)
  of_character_ok op [] = tt
  of_character_ok op (x ∷ []) = made_if (op == names.CHAR_TO_INTEGER) _ _ (from_character_ok x) (to_character_ok x)
  of_character_ok op (x ∷ y ∷ args) = tt

  character_ok : (op : ℕ) (args : List Value) → MadeOr (character_made op args)
  unfolding character_made
  character_ok op args =
      made_if (op == names.BOOLEAN_EQUAL) _ _ (alike_ok op args)
      (made_if (op == names.SYMBOL_EQUAL) _ _ (alike_ok op args)
      (made_if (op == names.CHAR_TO_INTEGER) _ _ (of_character_ok op args)
      (made_if (op == names.INTEGER_TO_CHAR) _ _ (of_character_ok op args)
      (some_made (all_of characters.scalar_value [] args) _ (λ zs. compared_ok (relation_of op) zs)))))

  -- Strings.

  chars_holds : (cs : List ℕ) → Each P (map strings.char_value cs)
  chars_holds [] = tt
  chars_holds (c ∷ cs) = (holds.plain _ tt, chars_holds cs)

  char_given_ok : (o : Option ℕ) → MadeOr (strings.char_given o)
  char_given_ok None = tt
  char_given_ok (Some c) = holds.plain _ tt

  natural_ok : (n : ℕ) → MadeOr (strings.natural n)
  natural_ok n = whole_ok (pos n)

  symbol_ok : (s : List ℕ) → MadeOr (strings.symbol_made s)
  symbol_ok [] = tt
  symbol_ok (b ∷ bs) = holds.plain _ tt

  text_of_few_ok : (op : ℕ) (args : List Value) → MadeOr (strings.text_of_few op args cells)
  text_of_few_ok op [] = tt
  text_of_few_ok op (x ∷ []) =
      made_if (op == names.STRING_COPY) _ _ (some_made (strings.string_of cells x) _ (λ s. tt))
      (made_if (op == names.SYMBOL_TO_STRING) _ _ (some_made (strings.symbol_text x) _ (λ s. tt))
      (made_if (op == names.STRING_TO_SYMBOL) _ _ (some_made (strings.string_of cells x) _ symbol_ok) tt))
  text_of_few_ok op (x ∷ y ∷ []) = tt
  text_of_few_ok op (x ∷ start ∷ end ∷ []) =
      some_made (strings.string_of cells x) _ (λ s. some_made (strings.cut (chars s) start end) _ (λ t. tt))
  text_of_few_ok op (x ∷ y ∷ z ∷ v ∷ args) = tt

  string_ok : (op : ℕ) (args : List Value) → MadeOr (string_made op args cells)
  unfolding string_made
  string_ok op args = made_if (op == names.STRING_APPEND) _ _ (some_made (all_of (strings.string_of cells) [] args) _ (λ ss. tt)) (text_of_few_ok op args)

  digits_ok : (args : List Value) → MadeOr (digits_made args)
  unfolding digits_made
  digits_ok [] = tt
  digits_ok (x ∷ []) = some_made (strings.digits x) _ (λ s. tt)
  digits_ok (x ∷ y ∷ args) = tt

  texts_ok : (r : Option Relation) (ss : List (List ℕ)) → MadeOr (strings.texts_compared r ss)
  texts_ok None ss = tt
  texts_ok (Some r) ss = said_made _

  strings_ok : (op : ℕ) (args : List Value) → MadeOr (strings_made op args cells)
  unfolding strings_made
  strings_ok op args = some_made (all_of (strings.string_of cells) [] args) _ (λ ss. texts_ok (relation_of op) ss)

  spelt_ok : (xs : List Value) → MadeOr (lists.spelt_by xs)
  spelt_ok xs = some_made (all_of characters.character [] xs) _ (λ cs. tt)

  -- Identifiers.

  leaves_ok : (op : ℕ) (frames : Scope) (t u : Tree) → MadeOr (identifiers.of_leaves op frames t u)
  leaves_ok op frames t u = made_if (op == names.BOUND_IDENTIFIER_EQUAL) _ _ (said_made _) (made_if (op == names.FREE_IDENTIFIER_EQUAL) _ _ (said_made _) tt)

  identifier_ok : (op : ℕ) (args : List Value) (frames : Scope) → Each P args → MadeOr (identifier_made op args frames)
  unfolding identifier_made
  identifier_ok op [] frames r = tt
  identifier_ok op (x ∷ []) frames r = made_if (op == names.IS_IDENTIFIER) _ _ (said_made _) (made_if (op == names.MAKE_VARIABLE_TRANSFORMER) _ _ (made_if (basics.is_procedure x) _ _ r.0 tt) tt)
  identifier_ok op (x ∷ y ∷ []) frames r =
      some_made (identifiers.identifier x) _ (λ t. some_made (identifiers.identifier y) _ (λ u. leaves_ok op frames t u))
  identifier_ok op (x ∷ y ∷ z ∷ args) frames r = tt

  temporaries_ok : (args : List Value) → MadeOr (temporaries_made args cells)
  unfolding temporaries_made
  temporaries_ok [] = tt
  temporaries_ok (x ∷ []) = some_made (identifiers.element_count cells x) _ (λ n. tt)
  temporaries_ok (x ∷ y ∷ args) = tt

  -- Data and trees.

  answer_if : (t : Bool) (a b : PrimAnswer) → AnswerOr a → AnswerOr b → AnswerOr (if t then a else b)
  answer_if true a b h k = h
  answer_if false a b h k = k

  datum_ok : (op : ℕ) (args : List Value) → AnswerOr (datum_answer op args cells)
  unfolding datum_answer
  datum_ok op [] = tt
  datum_ok op (x ∷ []) = answer_if (is_syntax cells x) (Ok (made.Datum x)) (Err (refused op)) tt tt
  datum_ok op (x ∷ y ∷ args) = tt

  tree_ok : (op : ℕ) (x : Value) (o : Option Tree) → AnswerOr (data_of.tree_by op cells x o)
  tree_ok op x None = tt
  tree_ok op x (Some id) = answer_if (is_datum cells x) (data_of.tree_made (data_of.grown_to max_height id cells x)) (Err (refused op)) (by_tree (data_of.grown_to max_height id cells x)) tt
    where
      by_tree : (r : Result Tree Bare) → AnswerOr (data_of.tree_made r)
      by_tree (Ok t) = holds.plain _ tt
      by_tree (Err f) = tt

  syntax_ok : (op : ℕ) (args : List Value) → AnswerOr (syntax_answer op args cells)
  unfolding syntax_answer
  syntax_ok op [] = tt
  syntax_ok op (k ∷ []) = tt
  syntax_ok op (k ∷ x ∷ []) = tree_ok op x (identifiers.identifier k)
  syntax_ok op (k ∷ x ∷ y ∷ args) = tt

  refused_ok : (op : ℕ) (o : Option PrimResult) → MadeOr o → AnswerOr (or_refused op o)
  refused_ok op None r = tt
  refused_ok op (Some m) r = r

  -- Parts of pairs, and kinds.

  part_by_holds : (letter : ℕ) (o : Option (Value × Value)) → PairOr P o → ValueOr P (basics.part_by letter o)
  part_by_holds letter None r = tt
  part_by_holds letter (Some p) r = by_letter (letter == 0)
    where
      by_letter : (t : Bool) → ValueOr P (if t then Some p.0 else Some p.1)
      by_letter true = r.0
      by_letter false = r.1

  part_holds : (n letters : ℕ) (x : Value) → P x → ValueOr P (part n letters cells x)
  unfolding part
  part_holds zero letters x r = r
  part_holds (suc n) letters x r = by_end (nat_le letters 1) (part_holds n (letters / 2))
    where
      by_part : ((y : Value) → P y → ValueOr P (part n (letters / 2) cells y)) → (o : Option Value) → ValueOr P o → ValueOr P (basics.then_part (part n (letters / 2) cells) o)
      by_part again None k = tt
      by_part again (Some y) k = again y k

      by_end : (t : Bool) → ((y : Value) → P y → ValueOr P (part n (letters / 2) cells y))
          → ValueOr P (if t then Some x else basics.then_part (part n (letters / 2) cells) (basics.part_by (letters % 2) (pair_of cells x)))
      by_end true again = r
      by_end false again = by_part again (basics.part_by (letters % 2) (pair_of cells x)) (part_by_holds (letters % 2) (pair_of cells x) (pair_holds P cells holds x))

  integer_kind_ok : (x : Value) → MadeOr (basics.integer_made x)
  integer_kind_ok (value.Atom (a.Int z)) = said_made true
  integer_kind_ok (value.Atom (a.Spelt s)) = tt
  integer_kind_ok _ = said_made false

  kind_ok : (op : ℕ) (x : Value) → MadeOr (kind_made op x)
  unfolding kind_made
  kind_ok op x =
      made_if (op == names.IS_NULL) _ _ (said_made _)
      (made_if (op == names.IS_PAIR) _ _ (said_made _)
      (made_if (op == names.NOT) _ _ (said_made _)
      (made_if (op == names.IS_BOOLEAN) _ _ (said_made _)
      (made_if (op == names.IS_SYMBOL) _ _ (said_made _)
      (made_if (op == names.IS_STRING) _ _ (said_made _)
      (made_if (op == names.IS_CHAR) _ _ (said_made _)
      (made_if (op == names.IS_VECTOR) _ _ (said_made _)
      (made_if (op == names.IS_NUMBER) _ _ (said_made _)
      (made_if (op == names.IS_PROCEDURE) _ _ (said_made _)
      (made_if (op == names.IS_INTEGER) _ _ (integer_kind_ok x) tt))))))))))

  basic_ok : (op : ℕ) (args : List Value) → Each P args → MadeOr (basic_made op args cells)
  unfolding basic_made
  basic_ok op [] r = tt
  basic_ok op (x ∷ []) r =
      made_if (nat_le names.CAR op && nat_le op names.CDDDDR) _ _ (given_made (part 4 (basics.letters_of op) cells x) (part_holds 4 (basics.letters_of op) x r.0)) (kind_ok op x)
  basic_ok op (x ∷ y ∷ []) r =
      made_if (op == names.CONS) _ _ ((r.0, tt), r.1.0)
      (made_if (op == names.IS_EQ) _ _ (said_made _) (made_if (op == names.IS_EQV) _ _ (said_made _) tt))
  basic_ok op (x ∷ y ∷ z ∷ args) r = tt

  -- Elements of strings and vectors.

  vector_holds : (x : Value) → ValuesOr P (strings.vector_of cells x)
  vector_holds (value.Vector p) = vector_at_holds P cells holds p.0
  vector_holds _ = tt

  part_ok : (op : ℕ) (args : List Value) → MadeOr (part_made op args cells)
  unfolding part_made
  part_ok op [] = tt
  part_ok op (x ∷ []) =
      made_if (op == names.STRING_LENGTH) _ _ (some_made (strings.string_of cells x) _ (λ s. natural_ok _))
      (made_if (op == names.VECTOR_LENGTH) _ _ (some_made (strings.vector_of cells x) _ (λ xs. natural_ok _)) tt)
  part_ok op (x ∷ k ∷ []) =
      made_if (op == names.STRING_REF) _ _
      (some_made (strings.string_of cells x) _ (λ s. some_made (strings.index_below (length (chars s)) k) _ (λ i. char_given_ok (slice_get (chars s) i))))
      (made_if (op == names.VECTOR_REF) _ _
      (some_values (strings.vector_of cells x) _ (vector_holds x)
      (λ xs r. some_made (strings.index_below (length xs) k) _ (λ i. given_made (slice_get xs i) (slice_holds P xs i r)))) tt)
  part_ok op (x ∷ k ∷ y ∷ args) = tt

  listed_ok : (o : Option (List Value)) → ValuesOr P o → MadeOr (strings.listed o)
  listed_ok None r = tt
  listed_ok (Some xs) r = (r, holds.plain _ tt)

  values_if : (t : Bool) (a b : Option (List Value)) → ValuesOr P a → ValuesOr P b → ValuesOr P (if t then a else b)
  values_if true a b h k = h
  values_if false a b h k = k

  spread_holds : (o : Option (List ℕ)) → ValuesOr P (if_some o (λ s. Some (map strings.char_value (chars s))))
  spread_holds None = tt
  spread_holds (Some s) = chars_holds (chars s)

  unpacked_ok : (op : ℕ) (args : List Value) → MadeOr (unpacked_made op args cells)
  unfolding unpacked_made
  unpacked_ok op [] = tt
  unpacked_ok op (x ∷ []) =
      listed_ok (strings.unpacked op cells x) (values_if (op == names.VECTOR_TO_LIST) _ _ (vector_holds x) (values_if (op == names.STRING_TO_LIST) _ _ (spread_holds (strings.string_of cells x)) tt))
  unpacked_ok op (x ∷ y ∷ args) = tt

  -- Lists.

  nil_holds : P lists.nil
  nil_holds = holds.plain _ tt

  ended_ok : (xs : List Value) (o : Option Value) → Each P xs → ValueOr P o → MadeOr (lists.ended_by xs o)
  ended_ok xs None r k = tt
  ended_ok xs (Some x) r k = (r, k)

  gathered_ok : (op : ℕ) (args : List Value) → Each P args → MadeOr (gathered_made op args)
  unfolding gathered_made
  gathered_ok op args r =
      made_if (op == names.LIST) _ _ (r, nil_holds)
      (made_if (op == names.VECTOR) _ _ r
      (made_if (op == names.STRING) _ _ (spelt_ok args)
      (ended_ok (before_last args) (last_of args) (each-taken P (length args - 1) args r) (slice_holds P args (length args - 1) r))))

  elements_ok : (op : ℕ) (xs : List Value) → Each P xs → MadeOr (lists.of_elements op xs)
  elements_ok op xs r =
      made_if (op == names.LENGTH) _ _ (natural_ok (length xs))
      (made_if (op == names.REVERSE) _ _ (reversed_holds P xs r, nil_holds)
      (made_if (op == names.LIST_TO_VECTOR) _ _ r
      (made_if (op == names.LIST_TO_STRING) _ _ (spelt_ok xs) tt)))

  car_holds : (x : Value) → ValueOr P (lists.car_of cells x)
  car_holds x = by_pair (pair_of cells x) (pair_holds P cells holds x)
    where
      by_pair : (o : Option (Value × Value)) → PairOr P o → ValueOr P (if_some o (λ p. Some p.0))
      by_pair None r = tt
      by_pair (Some p) r = r.0

  found_ok : (at : ℕ → Option Value) (o : Option ℕ) → ((n : ℕ) → ValueOr P (at n)) → MadeOr (lists.found_or_false at o)
  found_ok at None k = said_made false
  found_ok at (Some n) k = given_made (at n) (k n)

  rest_ok : (l : Value) (is : Value → Bool) (xs : List Value) → P l → MadeOr (lists.rest_from cells l is xs)
  rest_ok l is xs r = found_ok (λ n. tail_after n cells l) (place_from is 0 xs) (λ n. tail_holds P cells holds n l r)

  entry_ok : (is : Value → Bool) (xs : List Value) → Each P xs → MadeOr (lists.entry_from cells is xs)
  entry_ok is xs r =
      some_made (all_of (lists.car_of cells) [] xs) _ (λ cars. found_ok (slice_get xs) (place_from is 0 cars) (λ n. slice_holds P xs n r))

  without_holds : (is : Value → Bool) (done xs : List Value) → Each P done → Each P xs → Each P (without is done xs)
  unfolding without
  without_holds is done [] h r = h
  without_holds is done (x ∷ xs) h r = by_test (is x) (λ ys k. without_holds is ys xs k r.1)
    where
      by_test : (t : Bool) → ((ys : List Value) → Each P ys → Each P (without is ys xs)) → Each P (if t then without is done xs else without is (done ++ x ∷ []) xs)
      by_test true again = again done h
      by_test false again = again (done ++ x ∷ []) (each-and P done x h r.0)

  without_ok : (is : Value → Bool) (xs : List Value) → Each P xs → MadeOr (lists.list_without is xs)
  without_ok is xs r = (without_holds is [] xs tt r, nil_holds)

  list_ok : (op : ℕ) (args : List Value) → Each P args → MadeOr (list_made op args cells)
  unfolding list_made
  list_ok op [] r = tt
  list_ok op (x ∷ []) r = made_if (op == names.IS_LIST) _ _ (said_made _) (some_values (list_elements cells x) _ (elements_hold P cells holds x) (elements_ok op))
  list_ok op (x ∷ l ∷ []) r =
      some_values (list_elements cells l) _ (elements_hold P cells holds l)
      (λ xs k. made_if (op == names.MEMQ || op == names.MEMV) _ _ (rest_ok l _ xs r.1.0)
      (made_if (op == names.ASSQ || op == names.ASSV) _ _ (entry_ok _ xs k) (made_if (op == names.REMQ || op == names.REMV) _ _ (without_ok _ xs k) tt)))
  list_ok op (x ∷ l ∷ y ∷ args) r = tt

  equal_ok : (op : ℕ) (args : List Value) → Each P args → MadeOr (equal_made op args cells)
  unfolding equal_made
  equal_ok op [] r = tt
  equal_ok op (x ∷ []) r = tt
  equal_ok op (x ∷ y ∷ []) r =
      made_if (op == names.IS_EQUAL) _ _ (said_made _)
      (some_values (list_elements cells y) _ (elements_hold P cells holds y)
      (λ xs k. made_if (op == names.MEMBER) _ _ (rest_ok y _ xs r.1.0)
      (made_if (op == names.ASSOC) _ _ (entry_ok _ xs k) (made_if (op == names.REMOVE) _ _ (without_ok _ xs k) tt))))
  equal_ok op (x ∷ y ∷ z ∷ args) r = tt

  joined_holds : (done xs : List Value) → Each P done → ValuesOr P (elements_joined cells done xs)
  unfolding elements_joined
  joined_holds done [] h = h
  joined_holds done (x ∷ xs) h = by_elements (list_elements cells x) (elements_hold P cells holds x) (λ ys k. joined_holds ys xs k)
    where
      by_elements : (o : Option (List Value)) → ValuesOr P o → ((ys : List Value) → Each P ys → ValuesOr P (elements_joined cells ys xs))
          → ValuesOr P (if_some o (λ ys. elements_joined cells (done ++ ys) xs))
      by_elements None k again = tt
      by_elements (Some ys) k again = again (done ++ ys) (each-append P done ys h k)

  last_holds : (o : Option Value) → ValueOr P o → P (lists.last_or_nil o)
  last_holds None r = nil_holds
  last_holds (Some x) r = r

  appended_ok : (args : List Value) → Each P args → MadeOr (appended_made args cells)
  unfolding appended_made
  appended_ok args r =
      some_values (elements_joined cells [] (before_last args)) _ (joined_holds [] (before_last args) tt)
      (λ xs k. (k, last_holds (last_of args) (slice_holds P args (length args - 1) r)))

  indexed_ok : (op : ℕ) (args : List Value) → Each P args → MadeOr (indexed_made op args cells)
  unfolding indexed_made
  indexed_ok op [] r = tt
  indexed_ok op (l ∷ []) r = tt
  indexed_ok op (l ∷ k ∷ []) r =
      some_made (strings.index_below (length cells + 1) k) _
      (λ n. some_value (tail_after n cells l) _ (tail_holds P cells holds n l r.0)
      (λ x h. made_if (op == names.LIST_TAIL) _ _ h (made_if (op == names.LIST_REF) _ _ (given_made (lists.car_of cells x) (car_holds x)) tt)))
  indexed_ok op (l ∷ k ∷ y ∷ args) r = tt

  -- Rows.

  row_ok : (row op : ℕ) (args : List Value) (frames : Scope) → Each P args → AnswerOr (row_answer row op args cells frames)
  unfolding row_answer
  row_ok row op args frames r =
      answer_if (row == rows.BASICS) _ _ (refused_ok op _ (basic_ok op args r))
      (answer_if (row == rows.NUMBERS) _ _ (refused_ok op _ (number_ok op args))
      (answer_if (row == rows.CHARACTERS) _ _ (refused_ok op _ (character_ok op args))
      (answer_if (row == rows.PARTS) _ _ (refused_ok op _ (part_ok op args))
      (answer_if (row == rows.GATHERED) _ _ (refused_ok op _ (gathered_ok op args r))
      (answer_if (row == rows.LISTS) _ _ (refused_ok op _ (list_ok op args r))
      (answer_if (row == rows.APPENDED) _ _ (refused_ok op _ (appended_ok args r))
      (answer_if (row == rows.INDEXED) _ _ (refused_ok op _ (indexed_ok op args r))
      (answer_if (row == rows.UNPACKED) _ _ (refused_ok op _ (unpacked_ok op args))
      (answer_if (row == rows.STRINGS) _ _ (refused_ok op _ (string_ok op args))
      (answer_if (row == rows.NUMBER_STRINGS) _ _ (refused_ok op _ (digits_ok args))
      (answer_if (row == rows.STRING_COMPARISONS) _ _ (refused_ok op _ (strings_ok op args))
      (answer_if (row == rows.EQUALITY) _ _ (refused_ok op _ (equal_ok op args r))
      (answer_if (row == rows.IDENTIFIERS) _ _ (refused_ok op _ (identifier_ok op args frames r))
      (answer_if (row == rows.DATA) _ _ (datum_ok op args)
      (answer_if (row == rows.TREES) _ _ (syntax_ok op args)
      (answer_if (row == rows.TEMPORARIES) _ _ (refused_ok op _ (temporaries_ok args)) tt))))))))))))))))

  answer_ok : (o : Option Primitive) (op : ℕ) (args : List Value) (frames : Scope) → Each P args → AnswerOr (answer_by o op args cells frames)
  answer_ok None op args frames r = tt
  answer_ok (Some p) op args frames r = answer_if (takes p (length args)) _ _ (row_ok p.row op args frames r) tt

  delta_ok : (op : ℕ) (args : List Value) (frames : Scope) → Each P args → AnswerOr (delta op args cells frames)
  unfolding delta
  delta_ok op args frames r = answer_ok (primitive_of op) op args frames r

pub call_holds : (P : Value → Type 0) (op : ℕ) (args : List Value) (cells : List Cell) (fs : Scope) (m : PrimResult) → HoldsIn P cells → Each P args → delta op args cells fs ≡ Ok m → MadeHolds P m
call_holds P op args cells fs m holds r e = subst (λ (x : PrimAnswer). AnswerOr P cells holds x) e (delta_ok P cells holds op args fs r)

-- To fit in whole cells is such a property.

all_fit : (cells : List Cell) (n : ℕ) (xs : List Value) → Each (Lies cells n) xs → Each (FitsIn cells) xs
all_fit cells n [] l = tt
all_fit cells n (x ∷ xs) l = (l.0.fits, all_fit cells n xs l.1)

parts_fit : (cells : List Cell) (n : ℕ) (c : Cell) → CellLies cells n c → PartsHold (FitsIn cells) c
parts_fit cells n (cell.Pair x y) l = (l.0.fits, l.1.fits)
parts_fit cells n (cell.Vector xs) l = all_fit cells n xs l
parts_fit cells n (cell.Str text) l = tt
parts_fit cells n (cell.Scope es parent) l = tt
parts_fit cells n (cell.Binds bs parent) l = tt
parts_fit cells n (cell.Transformer x) l = tt

plain_fits : (cells : List Cell) (v : Value) → HasNoPlace v → FitsIn cells v
plain_fits cells value.Unspecified h = tt
plain_fits cells (value.Atom b) h = tt
plain_fits cells (value.Symbol s) h = tt
plain_fits cells (value.Pair p) h = absurd h
plain_fits cells (value.Vector p) h = absurd h
plain_fits cells (value.Str p) h = absurd h
plain_fits cells (value.Closure number p) h = absurd h
plain_fits cells (value.Prim op) h = tt
plain_fits cells (value.Syn t) h = tt
plain_fits cells (value.Transformer p) h = absurd h

made_fits : (cells : List Cell) (m : PrimResult) → MadeHolds (FitsIn cells) m → MadeFits cells m
made_fits cells (made.Value x) h = h
made_fits cells (made.List xs x) h = h
made_fits cells (made.Vector xs) h = h
made_fits cells (made.Text text) h = tt
made_fits cells (made.Transformer x) h = h
made_fits cells (made.Datum d) h = tt
made_fits cells (made.Temporaries n) h = tt

pub call_fits : (op : ℕ) (args : List Value) (cells : List Cell) (fs : Scope) (m : PrimResult) → WholeCells cells → Each (FitsIn cells) args → delta op args cells fs ≡ Ok m → MadeFits cells m
call_fits op args cells fs m w r e =
    made_fits cells m (call_holds (FitsIn cells) op args cells fs m (record { plain = plain_fits cells; parts = λ n c k. parts_fit cells n c (w.lies n c k) }) r e)
