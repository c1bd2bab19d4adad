-- What a primitive makes keeps an invariant of its arguments and of the cells, row by row of `delta`.
use Rattle.std.specs.Ordering.{int_eq}
use Rattle.std.proofs.Common.{◌≡◌, refl, ◌+◌, ◌-◌, ◌/◌, ◌%◌, ◌==◌, ◌||◌, ◌&&◌, ℕ, zero, suc, ℤ, pos, negsuc, List, [], ◌∷◌, ◌++◌, Option, Some, None, Bool, true, false, Result, Ok, Err, length, take, drop, map, chars, nat_le, unsigned_abs, slice_get, if◌then◌else◌}
use Rattle.base_data.proofs.ElementLemmas.{each-append, each-and, each-taken, each-dropped}
use Rattle.base_data.specs.Elements.{Each}
use Rattle.base_data.specs.Gives.{◌>>=◌}
use Rattle.base_data.specs.declared.atom.Atom.TheVariants as a
use Rattle.base_data.specs.declared.fault.Bare.{Bare}
use Rattle.base_data.specs.declared.op.names.TheConstants as names
use Rattle.stx_tree.specs.Measures.{within, max_height}
use Rattle.stx_tree.specs.Leaves.{context_of}
use Rattle.stx_tree.specs.Tree as tree
use Rattle.stx_tree.specs.Tree.{Tree, list_of, vector_of}
use Rattle.stx_frames.specs.Scope.{Scope}
use Rattle.eval_value.specs.Cells.{vector_at, string_at}
use Rattle.eval_value.specs.declared.value.Value.{Value}
use Rattle.eval_value.specs.declared.value.Value.TheVariants as value
use Rattle.eval_value.specs.declared.cell.Cell.{Cell}
use Rattle.eval_prims.specs.declared.made.PrimResult.{PrimResult}
use Rattle.eval_prims.specs.declared.made.PrimResult.TheVariants as made
use Rattle.eval_prims.specs.declared.primitive.Primitive.{Primitive}
use Rattle.eval_prims.specs.Answers.{PrimAnswer, refused, or_refused, given, said}
use Rattle.eval_prims.specs.Basics as basics
use Rattle.eval_prims.specs.Basics.{part, kind_made, basic_made}
use Rattle.eval_prims.specs.Chains.{pair_of, chain, list_elements, tail_after}
use Rattle.eval_prims.specs.Characters as characters
use Rattle.eval_prims.specs.Characters.{character_made}
use Rattle.eval_prims.specs.Data as data_of
use Rattle.eval_prims.specs.Copied.{is_syntax}
use Rattle.eval_prims.specs.Data.{datum_answer, syntax_answer}
use Rattle.eval_prims.specs.Delta.{row_answer, answer_by, delta}
use Rattle.eval_prims.specs.Each.{if_some, all_of, all_are, each_next, place_from, without, before_last, last_of}
use Rattle.eval_prims.specs.Equality.{equal_made}
use Rattle.eval_prims.specs.Identity.{same}
use Rattle.eval_prims.specs.Lists as lists
use Rattle.eval_prims.specs.Lists.{gathered_made, list_made, elements_joined, appended_made, indexed_made}
use Rattle.eval_prims.specs.Numbers as numbers
use Rattle.eval_prims.specs.Numbers.{computed, number_made}
use Rattle.eval_prims.specs.Parts.{is_datum}
use Rattle.eval_prims.specs.Primitives.{primitive_of, takes}
use Rattle.eval_prims.specs.declared.relation.Relation.{Relation}
use Rattle.eval_prims.specs.declared.rows.TheConstants as rows
use Rattle.eval_prims.specs.Relations.{relation_of}
use Rattle.eval_prims.specs.Strings as strings
use Rattle.eval_prims.specs.Strings.{part_made, unpacked_made, string_made, digits_made, strings_made}
use Rattle.eval_prims.specs.Syntax as identifiers
use Rattle.eval_prims.specs.Syntax.{identifier_made, temporaries_made}
use Rattle.law_invariants.specs.Holds.{ValueHolds, ValuesHold, CellsHold}
use Rattle.law_invariants.specs.Invariant.{OptionHolds}
use Rattle.law_invariants.proofs.Eachs.{each_at, each_reversed}
use Rattle.law_invariants.proofs.Reading.{PairOr, ValueOr, ValuesOr, TextOr, value_at, vector_at_holds, string_at_holds, pair_holds, all_elements, the_end, elements_hold, tail_holds}
use Rattle.law_invariants.proofs.Trees.{OkHolds, within_all}
use Rattle.law_invariants.specs.Invariant.{Invariant}
use Rattle.law_invariants.specs.Closed.{IsClosed}

module _ (I : Invariant) where
  abbrev pub MadeHolds : PrimResult → Type 0
  MadeHolds (made.Value x) = ValueHolds I x
  MadeHolds (made.List xs x) = ValuesHold I xs × ValueHolds I x
  MadeHolds (made.Vector xs) = ValuesHold I xs
  MadeHolds (made.Text text) = I.texts text
  MadeHolds (made.Transformer x) = ValueHolds I x
  MadeHolds (made.Datum x) = ValueHolds I x
  MadeHolds (made.Temporaries n) = Unit {0}

  abbrev MadeOr : Option PrimResult → Type 0
  MadeOr None = Unit {0}
  MadeOr (Some m) = MadeHolds m

  abbrev pub AnswerOr : PrimAnswer → Type 0
  AnswerOr (Ok m) = MadeHolds m
  AnswerOr (Err f) = Unit {0}

  -- of characters
  abbrev IsCharacter : ℕ → Type 0
  IsCharacter c = I.atoms (a.Char c)

  module _ (closed : IsClosed I) where
    module _ (cells : List Cell) (cells_hold : CellsHold I cells) where
      -- Ways to make.

      made_if : (t : Bool) (a b : Option PrimResult) → MadeOr a → MadeOr b → MadeOr (if t then a else b)
      made_if true a b h k = h
      made_if false a b h k = k

      said_made : (b : Bool) → MadeOr (said b)
      said_made b = closed.booleans b

      given_made : (o : Option Value) → ValueOr I o → MadeOr (given o)
      given_made None r = tt
      given_made (Some x) r = r

      some_made : {A : Type 0} (o : Option A) (f : A → Option PrimResult) → ((x : A) → MadeOr (f x)) → MadeOr (if_some o f)
      some_made None f k = tt
      some_made (Some x) f k = k x

      some_value : (o : Option Value) (f : Value → Option PrimResult) → ValueOr I o → ((x : Value) → ValueHolds I x → MadeOr (f x)) → MadeOr (if_some o f)
      some_value None f r k = tt
      some_value (Some x) f r k = k x r

      some_values : (o : Option (List Value)) (f : List Value → Option PrimResult) → ValuesOr I o → ((xs : List Value) → ValuesHold I xs → MadeOr (f xs)) → MadeOr (if_some o f)
      some_values None f r k = tt
      some_values (Some xs) f r k = k xs r

      some_text : (o : Option (List ℕ)) (f : List ℕ → Option PrimResult) → TextOr I o → ((s : List ℕ) → I.texts s → MadeOr (f s)) → MadeOr (if_some o f)
      some_text None f r k = tt
      some_text (Some s) f r k = k s r

      -- what each argument gives
      all_hold : {A : Type 0} (Q : A → Type 0) (f : Value → Option A) → ((x : Value) → ValueHolds I x → OptionHolds Q (f x)) → (done : List A) (xs : List Value) → Each Q done → ValuesHold I xs → OptionHolds (Each Q) (all_of f done xs)
      unfolding all_of
      all_hold Q f k done [] h r = h
      all_hold {A} Q f k done (x ∷ xs) h r = by (f x) (k x r.0) (λ ys j. all_hold Q f k ys xs j r.1)
        where
          by : (o : Option A) → OptionHolds Q o → ((ys : List A) → Each Q ys → OptionHolds (Each Q) (all_of f ys xs)) → OptionHolds (Each Q) (if_some o (λ y. all_of f (done ++ y ∷ []) xs))
          by None j again = tt
          by (Some y) j again = again (done ++ y ∷ []) (each-and Q done y h j)

      some_each : {A : Type 0} (Q : A → Type 0) (o : Option (List A)) (f : List A → Option PrimResult) → OptionHolds (Each Q) o → ((xs : List A) → Each Q xs → MadeOr (f xs)) → MadeOr (if_some o f)
      some_each Q None f r k = tt
      some_each Q (Some xs) f r k = k xs r

      -- Numbers.

      whole_ok : (z : ℤ) → MadeOr (numbers.number z)
      whole_ok z = by (numbers.is_small z) (closed.integers z)
        where
          by : (t : Bool) → (t ≡ true → I.atoms (a.Int z)) → MadeOr (numbers.integer_made (if t then Some z else None))
          by true fits = fits refl
          by false fits = tt

      quotient_ok : (op : ℕ) (x d : ℤ) → MadeOr (numbers.of_numbers op x d)
      quotient_ok op x d = by (int_eq d (pos 0))
        where
          by : (t : Bool) → MadeOr (numbers.integer_made (if t then None else numbers.small (numbers.quotient op x d)))
          by true = tt
          by false = whole_ok (numbers.quotient op x d)

      compared_ok : (r : Option Relation) (zs : List ℤ) → MadeOr (numbers.compared r zs)
      compared_ok None zs = tt
      compared_ok (Some r) zs = closed.booleans _

      first_ok : (op : ℕ) (zs : List ℤ) → MadeOr (numbers.of_first op zs)
      first_ok op [] = tt
      first_ok op (z ∷ zs) = made_if (op == names.MAX) _ _ (whole_ok (numbers.greatest z zs)) (whole_ok (numbers.least z zs))

      few_ok : (op : ℕ) (zs : List ℤ) → MadeOr (numbers.of_few op zs)
      few_ok op [] = tt
      few_ok op (z ∷ []) =
          made_if (op == names.IS_ZERO) _ _ (closed.booleans _)
          (made_if (op == names.IS_POSITIVE) _ _ (closed.booleans _)
          (made_if (op == names.IS_NEGATIVE) _ _ (closed.booleans _)
          (made_if (op == names.IS_ODD) _ _ (closed.booleans _)
          (made_if (op == names.IS_EVEN) _ _ (closed.booleans _)
          (made_if (op == names.ABS) _ _ (whole_ok (pos (unsigned_abs z))) tt)))))
      few_ok op (x ∷ d ∷ []) = quotient_ok op x d
      few_ok op (x ∷ d ∷ y ∷ zs) = tt

      computed_ok : (op : ℕ) (zs : List ℤ) → MadeOr (computed op zs)
      unfolding computed
      computed_ok op zs =
          made_if (op == names.PLUS) _ _ (whole_ok (numbers.sum zs))
          (made_if (op == names.TIMES) _ _ (whole_ok (numbers.product zs))
          (made_if (op == names.MINUS) _ _ (whole_ok (numbers.difference zs))
          (made_if (nat_le names.LESS op && nat_le op names.AT_LEAST) _ _ (compared_ok (relation_of op) zs)
          (made_if (op == names.MAX) _ _ (first_ok op zs)
          (made_if (op == names.MIN) _ _ (first_ok op zs) (few_ok op zs))))))

      integers_ok : (op : ℕ) (o : Option (List ℤ)) → MadeOr (numbers.from_integers op o)
      integers_ok op None = tt
      integers_ok op (Some zs) = computed_ok op zs

      number_ok : (op : ℕ) (args : List Value) → MadeOr (number_made op args)
      unfolding number_made
      number_ok op args = integers_ok op (all_of numbers.integer [] args)

      -- Characters.

      character_at_ok : (n : ℕ) → MadeOr (characters.character_at n)
      character_at_ok n = by (characters.is_scalar n) refl
        where
          by : (t : Bool) → characters.is_scalar n ≡ t → MadeOr (if t then Some (made.Value (value.Atom (a.Char n))) else None)
          by true e = closed.characters n e
          by false e = tt

      to_character_ok : (x : Value) → MadeOr (characters.to_character x)
      to_character_ok (value.Atom (a.Int (pos n))) = character_at_ok n
      to_character_ok (value.Atom (a.Int (negsuc n))) = tt
      to_character_ok _ = tt

      from_character_ok : (x : Value) → ValueHolds I x → MadeOr (characters.from_character x)
      from_character_ok (value.Atom (a.Char c)) h = closed.scalar_values c h
      from_character_ok (value.Atom (a.Int z)) h = tt
      from_character_ok (value.Atom (a.Spelt text)) h = tt
      from_character_ok (value.Atom a.Nil) h = tt
      from_character_ok (value.Atom (a.Bool b)) h = tt
      from_character_ok (value.Atom (a.Str text)) h = tt
      from_character_ok (value.Atom (a.Bytes bytes)) h = tt
      from_character_ok value.Unspecified h = tt
      from_character_ok (value.Symbol x) h = tt
      from_character_ok (value.Pair p) h = tt
      from_character_ok (value.Vector p) h = tt
      from_character_ok (value.Str p) h = tt
      from_character_ok (value.Closure c p) h = tt
      from_character_ok (value.Prim op) h = tt
      from_character_ok (value.Syn t) h = tt
      from_character_ok (value.Transformer p) h = tt

      alike_ok : (op : ℕ) (args : List Value) → MadeOr (characters.alike op args)
      alike_ok op args = made_if (all_are (characters.is_kind op) args) (said (each_next same args)) None (said_made (each_next same args)) tt

      of_character_ok : (op : ℕ) (args : List Value) → ValuesHold I args → MadeOr (characters.of_character op args)
      of_character_ok op [] r = tt
      of_character_ok op (x ∷ []) r = made_if (op == names.CHAR_TO_INTEGER) _ _ (from_character_ok x r.0) (to_character_ok x)
      of_character_ok op (x ∷ y ∷ args) r = tt

      character_ok : (op : ℕ) (args : List Value) → ValuesHold I args → MadeOr (character_made op args)
      unfolding character_made
      character_ok op args r =
          made_if (op == names.BOOLEAN_EQUAL) _ _ (alike_ok op args)
          (made_if (op == names.SYMBOL_EQUAL) _ _ (alike_ok op args)
          (made_if (op == names.CHAR_TO_INTEGER) _ _ (of_character_ok op args r)
          (made_if (op == names.INTEGER_TO_CHAR) _ _ (of_character_ok op args r)
          (some_made (all_of characters.scalar_value [] args) _ (λ zs. compared_ok (relation_of op) zs)))))

      -- Strings.

      string_holds : (x : Value) → TextOr I (strings.string_of cells x)
      string_holds (value.Str p) = string_at_holds I cells cells_hold p.0
      string_holds value.Unspecified = tt
      string_holds (value.Atom x) = tt
      string_holds (value.Symbol x) = tt
      string_holds (value.Pair p) = tt
      string_holds (value.Vector p) = tt
      string_holds (value.Closure c p) = tt
      string_holds (value.Prim op) = tt
      string_holds (value.Syn t) = tt
      string_holds (value.Transformer p) = tt

      symbol_holds : (x : Value) → ValueHolds I x → TextOr I (strings.symbol_text x)
      symbol_holds (value.Symbol x) h = closed.spellings x h
      symbol_holds value.Unspecified h = tt
      symbol_holds (value.Atom x) h = tt
      symbol_holds (value.Pair p) h = tt
      symbol_holds (value.Vector p) h = tt
      symbol_holds (value.Str p) h = tt
      symbol_holds (value.Closure c p) h = tt
      symbol_holds (value.Prim op) h = tt
      symbol_holds (value.Syn t) h = tt
      symbol_holds (value.Transformer p) h = tt

      digits_hold : (x : Value) → ValueHolds I x → TextOr I (strings.digits x)
      digits_hold (value.Atom (a.Int z)) h = closed.decimals z
      digits_hold (value.Atom (a.Spelt text)) h = closed.numerals text h
      digits_hold (value.Atom a.Nil) h = tt
      digits_hold (value.Atom (a.Bool b)) h = tt
      digits_hold (value.Atom (a.Char c)) h = tt
      digits_hold (value.Atom (a.Str text)) h = tt
      digits_hold (value.Atom (a.Bytes bytes)) h = tt
      digits_hold value.Unspecified h = tt
      digits_hold (value.Symbol x) h = tt
      digits_hold (value.Pair p) h = tt
      digits_hold (value.Vector p) h = tt
      digits_hold (value.Str p) h = tt
      digits_hold (value.Closure c p) h = tt
      digits_hold (value.Prim op) h = tt
      digits_hold (value.Syn t) h = tt
      digits_hold (value.Transformer p) h = tt

      character_holds : (x : Value) → ValueHolds I x → OptionHolds IsCharacter (characters.character x)
      character_holds (value.Atom (a.Char c)) h = h
      character_holds (value.Atom (a.Int z)) h = tt
      character_holds (value.Atom (a.Spelt text)) h = tt
      character_holds (value.Atom a.Nil) h = tt
      character_holds (value.Atom (a.Bool b)) h = tt
      character_holds (value.Atom (a.Str text)) h = tt
      character_holds (value.Atom (a.Bytes bytes)) h = tt
      character_holds value.Unspecified h = tt
      character_holds (value.Symbol x) h = tt
      character_holds (value.Pair p) h = tt
      character_holds (value.Vector p) h = tt
      character_holds (value.Str p) h = tt
      character_holds (value.Closure c p) h = tt
      character_holds (value.Prim op) h = tt
      character_holds (value.Syn t) h = tt
      character_holds (value.Transformer p) h = tt

      chars_holds : (cs : List ℕ) → Each IsCharacter cs → ValuesHold I (map strings.char_value cs)
      chars_holds [] h = tt
      chars_holds (c ∷ cs) h = (h.0, chars_holds cs h.1)

      char_given_ok : (o : Option ℕ) → OptionHolds IsCharacter o → MadeOr (strings.char_given o)
      char_given_ok None h = tt
      char_given_ok (Some c) h = h

      natural_ok : (n : ℕ) → MadeOr (strings.natural n)
      natural_ok n = whole_ok (pos n)

      symbol_ok : (s : List ℕ) → I.texts s → MadeOr (strings.symbol_made s)
      symbol_ok [] h = tt
      symbol_ok (b ∷ bs) h = closed.interned b bs h

      cut_ok : (cs : List ℕ) (start end : Value) → Each IsCharacter cs → TextOr I (strings.cut cs start end)
      cut_ok cs start end h = by_end (strings.index_below (length cs + 1) end)
        where
          by_start : (e : ℕ) (o : Option ℕ) → TextOr I (if_some o (λ b. Some (strings.between cs b e)))
          by_start e None = tt
          by_start e (Some b) = closed.packed (take (e - b) (drop b cs)) (each-taken IsCharacter (e - b) (drop b cs) (each-dropped IsCharacter b cs h))

          by_end : (o : Option ℕ) → TextOr I (if_some o (λ e. if_some (strings.index_below (e + 1) start) (λ b. Some (strings.between cs b e))))
          by_end None = tt
          by_end (Some e) = by_start e (strings.index_below (e + 1) start)

      text_of_few_ok : (op : ℕ) (args : List Value) → ValuesHold I args → MadeOr (strings.text_of_few op args cells)
      text_of_few_ok op [] r = tt
      text_of_few_ok op (x ∷ []) r =
          made_if (op == names.STRING_COPY) _ _ (some_text (strings.string_of cells x) _ (string_holds x) (λ s h. h))
          (made_if (op == names.SYMBOL_TO_STRING) _ _ (some_text (strings.symbol_text x) _ (symbol_holds x r.0) (λ s h. h))
          (made_if (op == names.STRING_TO_SYMBOL) _ _ (some_text (strings.string_of cells x) _ (string_holds x) symbol_ok) tt))
      text_of_few_ok op (x ∷ y ∷ []) r = tt
      text_of_few_ok op (x ∷ start ∷ end ∷ []) r =
          some_text (strings.string_of cells x) _ (string_holds x) (λ s h. some_text (strings.cut (chars s) start end) _ (cut_ok (chars s) start end (closed.unpacked s h)) (λ t k. k))
      text_of_few_ok op (x ∷ y ∷ z ∷ v ∷ args) r = tt

      string_ok : (op : ℕ) (args : List Value) → ValuesHold I args → MadeOr (string_made op args cells)
      unfolding string_made
      string_ok op args r =
          made_if (op == names.STRING_APPEND) _ _ (some_each I.texts (all_of (strings.string_of cells) [] args) _ (all_hold I.texts (strings.string_of cells) (λ x h. string_holds x) [] args tt r) (λ ss h. closed.appended ss h))
          (text_of_few_ok op args r)

      digits_ok : (args : List Value) → ValuesHold I args → MadeOr (digits_made args)
      unfolding digits_made
      digits_ok [] r = tt
      digits_ok (x ∷ []) r = some_text (strings.digits x) _ (digits_hold x r.0) (λ s h. h)
      digits_ok (x ∷ y ∷ args) r = tt

      texts_ok : (r : Option Relation) (ss : List (List ℕ)) → MadeOr (strings.texts_compared r ss)
      texts_ok None ss = tt
      texts_ok (Some r) ss = closed.booleans _

      strings_ok : (op : ℕ) (args : List Value) → MadeOr (strings_made op args cells)
      unfolding strings_made
      strings_ok op args = some_made (all_of (strings.string_of cells) [] args) _ (λ ss. texts_ok (relation_of op) ss)

      spelt_ok : (xs : List Value) → ValuesHold I xs → MadeOr (lists.spelt_by xs)
      spelt_ok xs r = some_each IsCharacter (all_of characters.character [] xs) _ (all_hold IsCharacter characters.character character_holds [] xs tt r) (λ cs h. closed.packed cs h)

      -- Identifiers.

      leaves_ok : (op : ℕ) (frames : Scope) (t u : Tree) → MadeOr (identifiers.of_leaves op frames t u)
      leaves_ok op frames t u = made_if (op == names.BOUND_IDENTIFIER_EQUAL) _ _ (closed.booleans _) (made_if (op == names.FREE_IDENTIFIER_EQUAL) _ _ (closed.booleans _) tt)

      identifier_ok : (op : ℕ) (args : List Value) (frames : Scope) → ValuesHold I args → MadeOr (identifier_made op args frames)
      unfolding identifier_made
      identifier_ok op [] frames r = tt
      identifier_ok op (x ∷ []) frames r = made_if (op == names.IS_IDENTIFIER) _ _ (closed.booleans _) (made_if (op == names.MAKE_VARIABLE_TRANSFORMER) _ _ (made_if (basics.is_procedure x) _ _ r.0 tt) tt)
      identifier_ok op (x ∷ y ∷ []) frames r =
          some_made (identifiers.identifier x) _ (λ t. some_made (identifiers.identifier y) _ (λ u. leaves_ok op frames t u))
      identifier_ok op (x ∷ y ∷ z ∷ args) frames r = tt

      temporaries_ok : (args : List Value) → MadeOr (temporaries_made args cells)
      unfolding temporaries_made
      temporaries_ok [] = tt
      temporaries_ok (x ∷ []) = some_made (identifiers.element_count cells x) _ (λ n. tt)
      temporaries_ok (x ∷ y ∷ args) = tt

      -- Data and trees.

      answer_if : (t : Bool) (a b : PrimAnswer) → AnswerOr a → AnswerOr b → AnswerOr (if t then a else b)
      answer_if true a b h k = h
      answer_if false a b h k = k

      datum_ok : (op : ℕ) (args : List Value) → ValuesHold I args → AnswerOr (datum_answer op args cells)
      unfolding datum_answer
      datum_ok op [] r = tt
      datum_ok op (x ∷ []) r = answer_if (is_syntax cells x) (Ok (made.Datum x)) (Err (refused op)) r.0 tt
      datum_ok op (x ∷ y ∷ args) r = tt

      -- an identifier whose symbol is another
      abbrev Renames : Tree → Type 0
      Renames t = (x : List ℕ) → I.symbols x → I.trees (tree.leaf None x (context_of t))

      identifier_holds : (k : Value) → ValueHolds I k → OptionHolds Renames (identifiers.identifier k)
      identifier_holds (value.Syn (tree.leaf s x c)) h = λ y k. closed.renamed s x y c h k
      identifier_holds (value.Syn (tree.atom s x)) h = tt
      identifier_holds (value.Syn (tree.pair s t u)) h = tt
      identifier_holds (value.Syn (tree.vector s t)) h = tt
      identifier_holds value.Unspecified h = tt
      identifier_holds (value.Atom x) h = tt
      identifier_holds (value.Symbol x) h = tt
      identifier_holds (value.Pair p) h = tt
      identifier_holds (value.Vector p) h = tt
      identifier_holds (value.Str p) h = tt
      identifier_holds (value.Closure c p) h = tt
      identifier_holds (value.Prim op) h = tt
      identifier_holds (value.Transformer p) h = tt

      abbrev Grows : (Value → Result Tree Bare) → Type 0
      Grows grow = (x : Value) → ValueHolds I x → OkHolds I.trees (grow x)

      all_grown_hold : (grow : Value → Result Tree Bare) → Grows grow → (done : List Tree) (xs : List Value) → Each I.trees done → ValuesHold I xs → OkHolds (Each I.trees) (data_of.all_grown grow done xs)
      unfolding data_of.all_grown
      all_grown_hold grow g done [] h r = h
      all_grown_hold grow g done (x ∷ xs) h r = by_tree (grow x) (g x r.0) (λ ts k. all_grown_hold grow g ts xs k r.1)
        where
          by_tree : (r : Result Tree Bare) → OkHolds I.trees r → ((ts : List Tree) → Each I.trees ts → OkHolds (Each I.trees) (data_of.all_grown grow ts xs))
              → OkHolds (Each I.trees) (r >>= λ t. data_of.all_grown grow (done ++ t ∷ []) xs)
          by_tree (Ok t) k again = again (done ++ t ∷ []) (each-and I.trees done t h k)
          by_tree (Err f) k again = tt

      vector_grown_holds : (grow : Value → Result Tree Bare) → Grows grow → (o : Option (List Value)) → ValuesOr I o → OkHolds I.trees (data_of.vector_grown grow o)
      vector_grown_holds grow g None r = tt
      vector_grown_holds grow g (Some xs) r = by_trees (data_of.all_grown grow [] xs) (all_grown_hold grow g [] xs tt r)
        where
          by_trees : (r : Result (List Tree) Bare) → OkHolds (Each I.trees) r → OkHolds I.trees (r >>= λ ts. within (vector_of ts))
          by_trees (Ok ts) k = within_all I.trees (vector_of ts) (λ u e. closed.vector ts u k e)
          by_trees (Err f) k = tt

      list_grown_holds : (grow : Value → Result Tree Bare) → Grows grow → (xs : List Value) (x : Value) → ValuesHold I xs → ValueHolds I x → OkHolds I.trees (data_of.list_grown grow xs x)
      list_grown_holds grow g xs x r j = by_trees (data_of.all_grown grow [] xs) (all_grown_hold grow g [] xs tt r)
        where
          by_tail : (ts : List Tree) → Each I.trees ts → (r : Result Tree Bare) → OkHolds I.trees r → OkHolds I.trees (r >>= λ t. within (list_of ts (Some t)))
          by_tail ts h (Ok t) k = within_all I.trees (list_of ts (Some t)) (λ u e. closed.list ts t u h k e)
          by_tail ts h (Err f) k = tt

          by_trees : (r : Result (List Tree) Bare) → OkHolds (Each I.trees) r → OkHolds I.trees (r >>= λ ts. grow x >>= λ t. within (list_of ts (Some t)))
          by_trees (Ok ts) k = by_tail ts k (grow x) (g x j)
          by_trees (Err f) k = tt

      text_grown_holds : (o : Option (List ℕ)) → TextOr I o → OkHolds I.trees (data_of.text_grown o)
      text_grown_holds None h = tt
      text_grown_holds (Some s) h = closed.atom (a.Str s) (closed.strings s h)

      level_grown_holds : (grow : Value → Result Tree Bare) → Grows grow → (id : Tree) → Renames id → Grows (data_of.level_grown grow id cells)
      unfolding data_of.level_grown
      level_grown_holds grow g id n (value.Atom x) r = closed.atom x r
      level_grown_holds grow g id n (value.Symbol s) r = n s r
      level_grown_holds grow g id n (value.Pair p) r = list_grown_holds grow g (chain cells (value.Pair p)).elements (chain cells (value.Pair p)).end (all_elements I cells cells_hold (value.Pair p)) (the_end I cells cells_hold (value.Pair p) tt)
      level_grown_holds grow g id n (value.Vector p) r = vector_grown_holds grow g (vector_at cells p.0) (vector_at_holds I cells cells_hold p.0)
      level_grown_holds grow g id n (value.Str p) r = text_grown_holds (string_at cells p.0) (string_at_holds I cells cells_hold p.0)
      level_grown_holds grow g id n value.Unspecified r = tt
      level_grown_holds grow g id n (value.Closure c p) r = tt
      level_grown_holds grow g id n (value.Prim op) r = tt
      level_grown_holds grow g id n (value.Syn t) r = tt
      level_grown_holds grow g id n (value.Transformer p) r = tt

      grown_holds : (n : ℕ) (id : Tree) → Renames id → Grows (data_of.grown_to n id cells)
      unfolding data_of.grown_to
      grown_holds zero id k x r = tt
      grown_holds (suc n) id k x r = level_grown_holds (data_of.grown_to n id cells) (grown_holds n id k) id k x r

      tree_ok : (op : ℕ) (x : Value) (o : Option Tree) → OptionHolds Renames o → ValueHolds I x → AnswerOr (data_of.tree_by op cells x o)
      tree_ok op x None k r = tt
      tree_ok op x (Some id) k r = answer_if (is_datum cells x) (data_of.tree_made (data_of.grown_to max_height id cells x)) (Err (refused op)) (by_tree (data_of.grown_to max_height id cells x) (grown_holds max_height id k x r)) tt
        where
          by_tree : (o : Result Tree Bare) → OkHolds I.trees o → AnswerOr (data_of.tree_made o)
          by_tree (Ok t) k = k
          by_tree (Err f) k = tt

      syntax_ok : (op : ℕ) (args : List Value) → ValuesHold I args → AnswerOr (syntax_answer op args cells)
      unfolding syntax_answer
      syntax_ok op [] h = tt
      syntax_ok op (k ∷ []) h = tt
      syntax_ok op (k ∷ x ∷ []) h = tree_ok op x (identifiers.identifier k) (identifier_holds k h.0) h.1.0
      syntax_ok op (k ∷ x ∷ y ∷ args) h = tt

      refused_ok : (op : ℕ) (o : Option PrimResult) → MadeOr o → AnswerOr (or_refused op o)
      refused_ok op None r = tt
      refused_ok op (Some m) r = r

      -- Parts of pairs, and kinds.

      part_by_holds : (letter : ℕ) (o : Option (Value × Value)) → PairOr I o → ValueOr I (basics.part_by letter o)
      part_by_holds letter None r = tt
      part_by_holds letter (Some p) r = by_letter (letter == 0)
        where
          by_letter : (t : Bool) → ValueOr I (if t then Some p.0 else Some p.1)
          by_letter true = r.0
          by_letter false = r.1

      part_holds : (n letters : ℕ) (x : Value) → ValueHolds I x → ValueOr I (part n letters cells x)
      unfolding part
      part_holds zero letters x r = r
      part_holds (suc n) letters x r = by_end (nat_le letters 1) (part_holds n (letters / 2))
        where
          by_part : ((y : Value) → ValueHolds I y → ValueOr I (part n (letters / 2) cells y)) → (o : Option Value) → ValueOr I o → ValueOr I (basics.then_part (part n (letters / 2) cells) o)
          by_part again None k = tt
          by_part again (Some y) k = again y k

          by_end : (t : Bool) → ((y : Value) → ValueHolds I y → ValueOr I (part n (letters / 2) cells y))
              → ValueOr I (if t then Some x else basics.then_part (part n (letters / 2) cells) (basics.part_by (letters % 2) (pair_of cells x)))
          by_end true again = r
          by_end false again = by_part again (basics.part_by (letters % 2) (pair_of cells x)) (part_by_holds (letters % 2) (pair_of cells x) (pair_holds I cells cells_hold x))

      integer_kind_ok : (x : Value) → MadeOr (basics.integer_made x)
      integer_kind_ok (value.Atom (a.Int z)) = said_made true
      integer_kind_ok (value.Atom (a.Spelt s)) = tt
      integer_kind_ok _ = said_made false

      kind_ok : (op : ℕ) (x : Value) → MadeOr (kind_made op x)
      unfolding kind_made
      kind_ok op x =
          made_if (op == names.IS_NULL) _ _ (closed.booleans _)
          (made_if (op == names.IS_PAIR) _ _ (closed.booleans _)
          (made_if (op == names.NOT) _ _ (closed.booleans _)
          (made_if (op == names.IS_BOOLEAN) _ _ (closed.booleans _)
          (made_if (op == names.IS_SYMBOL) _ _ (closed.booleans _)
          (made_if (op == names.IS_STRING) _ _ (closed.booleans _)
          (made_if (op == names.IS_CHAR) _ _ (closed.booleans _)
          (made_if (op == names.IS_VECTOR) _ _ (closed.booleans _)
          (made_if (op == names.IS_NUMBER) _ _ (closed.booleans _)
          (made_if (op == names.IS_PROCEDURE) _ _ (closed.booleans _)
          (made_if (op == names.IS_INTEGER) _ _ (integer_kind_ok x) tt))))))))))

      basic_ok : (op : ℕ) (args : List Value) → ValuesHold I args → MadeOr (basic_made op args cells)
      unfolding basic_made
      basic_ok op [] r = tt
      basic_ok op (x ∷ []) r =
          made_if (nat_le names.CAR op && nat_le op names.CDDDDR) _ _ (given_made (part 4 (basics.letters_of op) cells x) (part_holds 4 (basics.letters_of op) x r.0)) (kind_ok op x)
      basic_ok op (x ∷ y ∷ []) r =
          made_if (op == names.CONS) _ _ ((r.0, tt), r.1.0)
          (made_if (op == names.IS_EQ) _ _ (closed.booleans _) (made_if (op == names.IS_EQV) _ _ (closed.booleans _) tt))
      basic_ok op (x ∷ y ∷ z ∷ args) r = tt

      -- Elements of strings and vectors.

      vector_holds : (x : Value) → ValuesOr I (strings.vector_of cells x)
      vector_holds (value.Vector p) = vector_at_holds I cells cells_hold p.0
      vector_holds _ = tt

      part_ok : (op : ℕ) (args : List Value) → MadeOr (part_made op args cells)
      unfolding part_made
      part_ok op [] = tt
      part_ok op (x ∷ []) =
          made_if (op == names.STRING_LENGTH) _ _ (some_made (strings.string_of cells x) _ (λ s. natural_ok (length (chars s))))
          (made_if (op == names.VECTOR_LENGTH) _ _ (some_made (strings.vector_of cells x) _ (λ xs. natural_ok (length xs))) tt)
      part_ok op (x ∷ k ∷ []) =
          made_if (op == names.STRING_REF) _ _
          (some_text (strings.string_of cells x) _ (string_holds x) (λ s h. some_made (strings.index_below (length (chars s)) k) _ (λ i. char_given_ok (slice_get (chars s) i) (each_at IsCharacter (chars s) i (closed.unpacked s h)))))
          (made_if (op == names.VECTOR_REF) _ _
          (some_values (strings.vector_of cells x) _ (vector_holds x)
          (λ xs r. some_made (strings.index_below (length xs) k) _ (λ i. given_made (slice_get xs i) (value_at I xs i r)))) tt)
      part_ok op (x ∷ k ∷ y ∷ args) = tt

      listed_ok : (o : Option (List Value)) → ValuesOr I o → MadeOr (strings.listed o)
      listed_ok None r = tt
      listed_ok (Some xs) r = (r, closed.nil)

      values_if : (t : Bool) (a b : Option (List Value)) → ValuesOr I a → ValuesOr I b → ValuesOr I (if t then a else b)
      values_if true a b h k = h
      values_if false a b h k = k

      spread_holds : (o : Option (List ℕ)) → TextOr I o → ValuesOr I (if_some o (λ s. Some (map strings.char_value (chars s))))
      spread_holds None h = tt
      spread_holds (Some s) h = chars_holds (chars s) (closed.unpacked s h)

      unpacked_ok : (op : ℕ) (args : List Value) → MadeOr (unpacked_made op args cells)
      unfolding unpacked_made
      unpacked_ok op [] = tt
      unpacked_ok op (x ∷ []) =
          listed_ok (strings.unpacked op cells x) (values_if (op == names.VECTOR_TO_LIST) _ _ (vector_holds x) (values_if (op == names.STRING_TO_LIST) _ _ (spread_holds (strings.string_of cells x) (string_holds x)) tt))
      unpacked_ok op (x ∷ y ∷ args) = tt

      -- Lists.

      nil_holds : ValueHolds I lists.nil
      nil_holds = closed.nil

      ended_ok : (xs : List Value) (o : Option Value) → ValuesHold I xs → ValueOr I o → MadeOr (lists.ended_by xs o)
      ended_ok xs None r k = tt
      ended_ok xs (Some x) r k = (r, k)

      gathered_ok : (op : ℕ) (args : List Value) → ValuesHold I args → MadeOr (gathered_made op args)
      unfolding gathered_made
      gathered_ok op args r =
          made_if (op == names.LIST) _ _ (r, nil_holds)
          (made_if (op == names.VECTOR) _ _ r
          (made_if (op == names.STRING) _ _ (spelt_ok args r)
          (ended_ok (before_last args) (last_of args) (each-taken (ValueHolds I) (length args - 1) args r) (value_at I args (length args - 1) r))))

      elements_ok : (op : ℕ) (xs : List Value) → ValuesHold I xs → MadeOr (lists.of_elements op xs)
      elements_ok op xs r =
          made_if (op == names.LENGTH) _ _ (natural_ok (length xs))
          (made_if (op == names.REVERSE) _ _ (each_reversed (ValueHolds I) xs r, nil_holds)
          (made_if (op == names.LIST_TO_VECTOR) _ _ r
          (made_if (op == names.LIST_TO_STRING) _ _ (spelt_ok xs r) tt)))

      car_holds : (x : Value) → ValueOr I (lists.car_of cells x)
      car_holds x = by_pair (pair_of cells x) (pair_holds I cells cells_hold x)
        where
          by_pair : (o : Option (Value × Value)) → PairOr I o → ValueOr I (if_some o (λ p. Some p.0))
          by_pair None r = tt
          by_pair (Some p) r = r.0

      found_ok : (at : ℕ → Option Value) (o : Option ℕ) → ((n : ℕ) → ValueOr I (at n)) → MadeOr (lists.found_or_false at o)
      found_ok at None k = said_made false
      found_ok at (Some n) k = given_made (at n) (k n)

      rest_ok : (l : Value) (is : Value → Bool) (xs : List Value) → ValueHolds I l → MadeOr (lists.rest_from cells l is xs)
      rest_ok l is xs r = found_ok (λ n. tail_after n cells l) (place_from is 0 xs) (λ n. tail_holds I cells cells_hold n l r)

      entry_ok : (is : Value → Bool) (xs : List Value) → ValuesHold I xs → MadeOr (lists.entry_from cells is xs)
      entry_ok is xs r =
          some_made (all_of (lists.car_of cells) [] xs) _ (λ cars. found_ok (slice_get xs) (place_from is 0 cars) (λ n. value_at I xs n r))

      without_holds : (is : Value → Bool) (done xs : List Value) → ValuesHold I done → ValuesHold I xs → ValuesHold I (without is done xs)
      unfolding without
      without_holds is done [] h r = h
      without_holds is done (x ∷ xs) h r = by_test (is x) (λ ys k. without_holds is ys xs k r.1)
        where
          by_test : (t : Bool) → ((ys : List Value) → ValuesHold I ys → ValuesHold I (without is ys xs)) → ValuesHold I (if t then without is done xs else without is (done ++ x ∷ []) xs)
          by_test true again = again done h
          by_test false again = again (done ++ x ∷ []) (each-and (ValueHolds I) done x h r.0)

      without_ok : (is : Value → Bool) (xs : List Value) → ValuesHold I xs → MadeOr (lists.list_without is xs)
      without_ok is xs r = (without_holds is [] xs tt r, nil_holds)

      list_ok : (op : ℕ) (args : List Value) → ValuesHold I args → MadeOr (list_made op args cells)
      unfolding list_made
      list_ok op [] r = tt
      list_ok op (x ∷ []) r = made_if (op == names.IS_LIST) _ _ (closed.booleans _) (some_values (list_elements cells x) _ (elements_hold I cells cells_hold x) (elements_ok op))
      list_ok op (x ∷ l ∷ []) r =
          some_values (list_elements cells l) _ (elements_hold I cells cells_hold l)
          (λ xs k. made_if (op == names.MEMQ || op == names.MEMV) _ _ (rest_ok l _ xs r.1.0)
          (made_if (op == names.ASSQ || op == names.ASSV) _ _ (entry_ok _ xs k) (made_if (op == names.REMQ || op == names.REMV) _ _ (without_ok _ xs k) tt)))
      list_ok op (x ∷ l ∷ y ∷ args) r = tt

      equal_ok : (op : ℕ) (args : List Value) → ValuesHold I args → MadeOr (equal_made op args cells)
      unfolding equal_made
      equal_ok op [] r = tt
      equal_ok op (x ∷ []) r = tt
      equal_ok op (x ∷ y ∷ []) r =
          made_if (op == names.IS_EQUAL) _ _ (closed.booleans _)
          (some_values (list_elements cells y) _ (elements_hold I cells cells_hold y)
          (λ xs k. made_if (op == names.MEMBER) _ _ (rest_ok y _ xs r.1.0)
          (made_if (op == names.ASSOC) _ _ (entry_ok _ xs k) (made_if (op == names.REMOVE) _ _ (without_ok _ xs k) tt))))
      equal_ok op (x ∷ y ∷ z ∷ args) r = tt

      joined_holds : (done xs : List Value) → ValuesHold I done → ValuesOr I (elements_joined cells done xs)
      unfolding elements_joined
      joined_holds done [] h = h
      joined_holds done (x ∷ xs) h = by_elements (list_elements cells x) (elements_hold I cells cells_hold x) (λ ys k. joined_holds ys xs k)
        where
          by_elements : (o : Option (List Value)) → ValuesOr I o → ((ys : List Value) → ValuesHold I ys → ValuesOr I (elements_joined cells ys xs))
              → ValuesOr I (if_some o (λ ys. elements_joined cells (done ++ ys) xs))
          by_elements None k again = tt
          by_elements (Some ys) k again = again (done ++ ys) (each-append (ValueHolds I) done ys h k)

      last_holds : (o : Option Value) → ValueOr I o → ValueHolds I (lists.last_or_nil o)
      last_holds None r = nil_holds
      last_holds (Some x) r = r

      appended_ok : (args : List Value) → ValuesHold I args → MadeOr (appended_made args cells)
      unfolding appended_made
      appended_ok args r =
          some_values (elements_joined cells [] (before_last args)) _ (joined_holds [] (before_last args) tt)
          (λ xs k. (k, last_holds (last_of args) (value_at I args (length args - 1) r)))

      indexed_ok : (op : ℕ) (args : List Value) → ValuesHold I args → MadeOr (indexed_made op args cells)
      unfolding indexed_made
      indexed_ok op [] r = tt
      indexed_ok op (l ∷ []) r = tt
      indexed_ok op (l ∷ k ∷ []) r =
          some_made (strings.index_below (length cells + 1) k) _
          (λ n. some_value (tail_after n cells l) _ (tail_holds I cells cells_hold n l r.0)
          (λ x h. made_if (op == names.LIST_TAIL) _ _ h (made_if (op == names.LIST_REF) _ _ (given_made (lists.car_of cells x) (car_holds x)) tt)))
      indexed_ok op (l ∷ k ∷ y ∷ args) r = tt

      -- Rows.

      row_ok : (row op : ℕ) (args : List Value) (frames : Scope) → ValuesHold I args → AnswerOr (row_answer row op args cells frames)
      unfolding row_answer
      row_ok row op args frames r =
          answer_if (row == rows.BASICS) _ _ (refused_ok op (basic_made op args cells) (basic_ok op args r))
          (answer_if (row == rows.NUMBERS) _ _ (refused_ok op (number_made op args) (number_ok op args))
          (answer_if (row == rows.CHARACTERS) _ _ (refused_ok op (character_made op args) (character_ok op args r))
          (answer_if (row == rows.PARTS) _ _ (refused_ok op (part_made op args cells) (part_ok op args))
          (answer_if (row == rows.GATHERED) _ _ (refused_ok op (gathered_made op args) (gathered_ok op args r))
          (answer_if (row == rows.LISTS) _ _ (refused_ok op (list_made op args cells) (list_ok op args r))
          (answer_if (row == rows.APPENDED) _ _ (refused_ok op (appended_made args cells) (appended_ok args r))
          (answer_if (row == rows.INDEXED) _ _ (refused_ok op (indexed_made op args cells) (indexed_ok op args r))
          (answer_if (row == rows.UNPACKED) _ _ (refused_ok op (unpacked_made op args cells) (unpacked_ok op args))
          (answer_if (row == rows.STRINGS) _ _ (refused_ok op (string_made op args cells) (string_ok op args r))
          (answer_if (row == rows.NUMBER_STRINGS) _ _ (refused_ok op (digits_made args) (digits_ok args r))
          (answer_if (row == rows.STRING_COMPARISONS) _ _ (refused_ok op (strings_made op args cells) (strings_ok op args))
          (answer_if (row == rows.EQUALITY) _ _ (refused_ok op (equal_made op args cells) (equal_ok op args r))
          (answer_if (row == rows.IDENTIFIERS) _ _ (refused_ok op (identifier_made op args frames) (identifier_ok op args frames r))
          (answer_if (row == rows.DATA) _ _ (datum_ok op args r)
          (answer_if (row == rows.TREES) _ _ (syntax_ok op args r)
          (answer_if (row == rows.TEMPORARIES) _ _ (refused_ok op (temporaries_made args cells) (temporaries_ok args)) tt))))))))))))))))

      answer_ok : (o : Option Primitive) (op : ℕ) (args : List Value) (frames : Scope) → ValuesHold I args → AnswerOr (answer_by o op args cells frames)
      answer_ok None op args frames r = tt
      answer_ok (Some p) op args frames r = answer_if (takes p (length args)) _ _ (row_ok p.row op args frames r) tt

      pub delta_ok : (op : ℕ) (args : List Value) (frames : Scope) → ValuesHold I args → AnswerOr (delta op args cells frames)
      unfolding delta
      delta_ok op args frames r = answer_ok (primitive_of op) op args frames r
