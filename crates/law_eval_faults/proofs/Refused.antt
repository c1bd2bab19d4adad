-- Each call of a primitive that is refused has its cause.
use Rattle.std.proofs.Common.{◌≡◌, ◌≤◌, ℕ, zero, suc, List, [], ◌∷◌, ◌++◌, Option, Some, None, Bool, true, false, Result, Ok, Err, refl, sym, ap, ◌∙◌, subst, length, arith, if◌then◌else◌}
use Rattle.std.specs.Prelude.{◌==◌, ◌&&◌, nat_le}
use Rattle.std.proofs.lemmas.Bool.Decides.{nat_tests}
use Rattle.base_data.specs.Gives.{◌>>=◌}
use Rattle.base_data.specs.declared.atom.Atom.TheVariants as a
use Rattle.base_data.specs.declared.fault.Bare.{Bare}
use Rattle.base_data.specs.declared.op.names.TheConstants as names
use Rattle.stx_frames.specs.Scope.{Scope}
use Rattle.stx_tree.specs.Measures.{within, fits, too_deep, max_height}
use Rattle.stx_tree.specs.Tree.{Tree, vector_of, list_of}
use Rattle.eval_value.specs.Cells.{vector_at, string_at}
use Rattle.eval_value.specs.declared.cell.Cell.{Cell}
use Rattle.eval_value.specs.declared.value.Value.{Value}
use Rattle.eval_value.specs.declared.value.Value.TheVariants as value
use Rattle.eval_prims.specs.Answers.{PrimAnswer, refused, wrong_count, no_primitive, or_refused}
use Rattle.eval_prims.specs.Basics.{basic_made}
use Rattle.eval_prims.specs.Chains.{chain}
use Rattle.eval_prims.specs.Characters.{character_made}
use Rattle.eval_prims.specs.Copied.{is_syntax}
use Rattle.eval_prims.specs.Data.{datum_answer, text_grown, all_grown, vector_grown, list_grown, level_grown, grown_to, tree_made, tree_by, syntax_answer}
use Rattle.eval_prims.specs.Delta.{row_answer, primitive_answer, answer_by, delta}
use Rattle.eval_prims.specs.Equality.{equal_made}
use Rattle.eval_prims.specs.Lists.{gathered_made, list_made, appended_made, indexed_made}
use Rattle.eval_prims.specs.Numbers.{number_made}
use Rattle.eval_prims.specs.Parts.{is_datum}
use Rattle.eval_prims.specs.Primitives.{primitive_of, takes, at_most}
use Rattle.eval_prims.specs.Raised.{raised, word_of, is_who, raised_fault}
use Rattle.eval_prims.specs.Strings.{string_of, part_made, unpacked_made, string_made, digits_made, strings_made}
use Rattle.eval_prims.specs.Syntax.{identifier, identifier_made, temporaries_made}
use Rattle.eval_prims.specs.declared.made.PrimResult.{PrimResult}
use Rattle.eval_prims.specs.declared.made.PrimResult.TheVariants as made
use Rattle.eval_prims.specs.declared.primitive.Primitive.{Primitive}
use Rattle.eval_prims.specs.declared.rows.TheConstants as rows
use Rattle.law_eval_faults.specs.Refusals.{AreAtMost, TakesSoMany, IsWho, IsMessage, IsRaised, IsOfRow, IsRefusedCall, RefusalsAreTold}
use Rattle.law_eval_faults.specs.Refusals as r

-- Trees that pass a limit.

abbrev OnlyDeep : {A : Type 0} → Result A Bare → Type 0
OnlyDeep (Ok x) = Unit {0}
OnlyDeep (Err f) = f ≡ too_deep

deep-if : {A : Type 0} (b : Bool) (x y : Result A Bare) → OnlyDeep x → OnlyDeep y → OnlyDeep (if b then x else y)
deep-if true x y h k = h
deep-if false x y h k = k

deep-then : {A B : Type 0} (q : Result A Bare) (go : A → Result B Bare) → OnlyDeep q → ((x : A) → OnlyDeep (go x)) → OnlyDeep (q >>= go)
deep-then (Ok x) go h k = k x
deep-then (Err f) go h k = h

deep-within : (t : Tree) → OnlyDeep (within t)
unfolding within
deep-within t = deep-if (fits t) (Ok t) (Err too_deep) tt refl

deep-text : (o : Option (List ℕ)) → OnlyDeep (text_grown o)
deep-text None = refl
deep-text (Some s) = tt

module _ (grow : Value → Result Tree Bare) (deep : (x : Value) → OnlyDeep (grow x)) where
  deep-all : (done : List Tree) (xs : List Value) → OnlyDeep (all_grown grow done xs)
  unfolding all_grown
  deep-all done [] = tt
  deep-all done (x ∷ xs) = deep-then (grow x) (λ t. all_grown grow (done ++ t ∷ []) xs) (deep x) (λ t. deep-all (done ++ t ∷ []) xs)

  deep-vector : (o : Option (List Value)) → OnlyDeep (vector_grown grow o)
  deep-vector None = refl
  deep-vector (Some xs) = deep-then (all_grown grow [] xs) (λ ts. within (vector_of ts)) (deep-all [] xs) (λ ts. deep-within (vector_of ts))

  deep-list : (xs : List Value) (x : Value) → OnlyDeep (list_grown grow xs x)
  deep-list xs x =
      deep-then (all_grown grow [] xs) (λ ts. grow x >>= λ t. within (list_of ts (Some t))) (deep-all [] xs)
      (λ ts. deep-then (grow x) (λ t. within (list_of ts (Some t))) (deep x) (λ t. deep-within (list_of ts (Some t))))

  deep-level : (id : Tree) (cells : List Cell) (x : Value) → OnlyDeep (level_grown grow id cells x)
  unfolding level_grown
  deep-level id cells (value.Atom x) = tt
  deep-level id cells (value.Symbol s) = tt
  deep-level id cells (value.Pair p) = deep-list (chain cells (value.Pair p)).elements (chain cells (value.Pair p)).end
  deep-level id cells (value.Vector p) = deep-vector (vector_at cells p.0)
  deep-level id cells (value.Str p) = deep-text (string_at cells p.0)
  deep-level id cells value.Unspecified = refl
  deep-level id cells (value.Closure c p) = refl
  deep-level id cells (value.Prim op) = refl
  deep-level id cells (value.Syn t) = refl
  deep-level id cells (value.Transformer p) = refl

deep-grown : (n : ℕ) (id : Tree) (cells : List Cell) (x : Value) → OnlyDeep (grown_to n id cells x)
unfolding grown_to
deep-grown zero id cells x = refl
deep-grown (suc n) id cells x = deep-level (grown_to n id cells) (deep-grown n id cells) id cells x

-- Rows.

module _ (op row : ℕ) (args : List Value) (cells : List Cell) where
  abbrev Of : PrimAnswer → Type 0
  Of (Ok m) = Unit {0}
  Of (Err f) = IsOfRow op row args cells f

  of-made : (o : Option PrimResult) → Of (or_refused op o)
  of-made None = r.refuses
  of-made (Some m) = tt

  of-if : (b : Bool) (x y : PrimAnswer) → Of x → Of y → Of (if b then x else y)
  of-if true x y h k = h
  of-if false x y h k = k

  of-test : (b : Bool) (x y : PrimAnswer) → (b ≡ true → Of x) → Of y → Of (if b then x else y)
  of-test true x y h k = h refl
  of-test false x y h k = k

  of-datum : Of (datum_answer op args cells)
  unfolding datum_answer
  of-datum = by args
    where
      by : (xs : List Value) → Of (datum_answer op xs cells)
      by [] = r.refuses
      by (x ∷ []) = of-if (is_syntax cells x) (Ok (made.Datum x)) (Err (refused op)) tt r.refuses
      by (x ∷ y ∷ xs) = r.refuses

  of-tree : row ≡ rows.TREES → (q : Result Tree Bare) → OnlyDeep q → Of (tree_made q)
  of-tree e (Ok t) h = tt
  of-tree e (Err f) h = subst (λ g. IsOfRow op row args cells g) (sym h) (r.too_deep e)

  of-tree_by : row ≡ rows.TREES → (x : Value) (o : Option Tree) → Of (tree_by op cells x o)
  of-tree_by e x None = r.refuses
  of-tree_by e x (Some id) =
      of-if (is_datum cells x) (tree_made (grown_to max_height id cells x)) (Err (refused op)) (of-tree e (grown_to max_height id cells x) (deep-grown max_height id cells x)) r.refuses

  of-syntax : row ≡ rows.TREES → Of (syntax_answer op args cells)
  unfolding syntax_answer
  of-syntax e = by args
    where
      by : (xs : List Value) → Of (syntax_answer op xs cells)
      by [] = r.refuses
      by (k ∷ []) = r.refuses
      by (k ∷ x ∷ []) = of-tree_by e x (identifier k)
      by (k ∷ x ∷ y ∷ xs) = r.refuses

-- `error` and its like

who-is : (who : Value) → is_who who ≡ true → IsWho who
who-is (value.Atom (a.Bool false)) h = r.no_one
who-is (value.Symbol s) h = r.by_symbol
who-is (value.Str p) h = r.by_string
who-is _ h = absurd (cc)

no-text : (s : List ℕ) → Some s ≡ None → ⊥
no-text s h = cc

no-message : (cells : List Cell) (v : Value) → string_of cells v ≡ None → IsMessage cells v []
no-message cells v e = r.no_text (λ q s same there. no-text s (sym there ∙ sym (ap (λ (z : Value). string_of cells z) same) ∙ e))

a-message : (cells : List Cell) (message : Value) → IsMessage cells message (word_of (string_of cells message))
a-message cells (value.Str p) = by (string_at cells p.0) refl
  where
    by : (o : Option (List ℕ)) → string_at cells p.0 ≡ o → IsMessage cells (value.Str p) (word_of o)
    by (Some s) e = r.a_text e
    by None e = no-message cells (value.Str p) e
a-message cells (value.Atom x) = no-message cells (value.Atom x) refl
a-message cells (value.Symbol x) = no-message cells (value.Symbol x) refl
a-message cells (value.Pair p) = no-message cells (value.Pair p) refl
a-message cells (value.Vector p) = no-message cells (value.Vector p) refl
a-message cells value.Unspecified = no-message cells value.Unspecified refl
a-message cells (value.Closure code p) = no-message cells (value.Closure code p) refl
a-message cells (value.Prim o) = no-message cells (value.Prim o) refl
a-message cells (value.Syn t) = no-message cells (value.Syn t) refl
a-message cells (value.Transformer p) = no-message cells (value.Transformer p) refl

is-equal : (m n : ℕ) → (m == n) ≡ true → m ≡ n
is-equal m n h = grind (arith, nat_tests, h)

of-raised : (op row : ℕ) (args : List Value) (cells : List Cell) → IsOfRow op row args cells (raised_fault op args cells)
unfolding raised_fault
of-raised op row [] cells = r.refuses
of-raised op row (x ∷ []) cells = by (op == names.RAISE) refl
  where
    by : (b : Bool) → (op == names.RAISE) ≡ b → IsOfRow op row (x ∷ []) cells (if b then raised [] else refused op)
    by true e = r.raises (r.raise (is-equal op names.RAISE e))
    by false e = r.refuses
of-raised op row (who ∷ message ∷ rest) cells = by (is_who who) refl
  where
    by : (b : Bool) → is_who who ≡ b → IsOfRow op row (who ∷ message ∷ rest) cells (if b then raised (word_of (string_of cells message)) else refused op)
    by true e = r.raises (r.error (who-is who e) (a-message cells message))
    by false e = r.refuses

of-row : (row op : ℕ) (args : List Value) (cells : List Cell) (frames : Scope) → Of op row args cells (row_answer row op args cells frames)
unfolding row_answer
of-row row op args cells frames =
    let may = of-if op row args cells in let known = of-test op row args cells in let made_by = of-made op row args cells in
    may (row == rows.BASICS) _ _ (made_by (basic_made op args cells))
    (may (row == rows.NUMBERS) _ _ (made_by (number_made op args))
    (may (row == rows.CHARACTERS) _ _ (made_by (character_made op args))
    (may (row == rows.PARTS) _ _ (made_by (part_made op args cells))
    (may (row == rows.GATHERED) _ _ (made_by (gathered_made op args))
    (may (row == rows.LISTS) _ _ (made_by (list_made op args cells))
    (may (row == rows.APPENDED) _ _ (made_by (appended_made args cells))
    (may (row == rows.INDEXED) _ _ (made_by (indexed_made op args cells))
    (may (row == rows.UNPACKED) _ _ (made_by (unpacked_made op args cells))
    (may (row == rows.STRINGS) _ _ (made_by (string_made op args cells))
    (may (row == rows.NUMBER_STRINGS) _ _ (made_by (digits_made args))
    (may (row == rows.STRING_COMPARISONS) _ _ (made_by (strings_made op args cells))
    (may (row == rows.EQUALITY) _ _ (made_by (equal_made op args cells))
    (may (row == rows.IDENTIFIERS) _ _ (made_by (identifier_made op args frames))
    (may (row == rows.DATA) _ _ (of-datum op row args cells)
    (known (row == rows.TREES) _ _ (λ e. of-syntax op row args cells (is-equal row rows.TREES e))
    (may (row == rows.TEMPORARIES) _ _ (made_by (temporaries_made args cells)) (of-raised op row args cells)))))))))))))))))

-- How many arguments are taken.

takes-so-many : (p : Primitive) (count : ℕ) → takes p count ≡ true → TakesSoMany p count
takes-so-many p count h = record { least = by-least (nat_le p.least count) refl h; most = by-most p.most (nat_le p.least count) h }
  where
    by-least : (b : Bool) → nat_le p.least count ≡ b → (b && at_most count p.most) ≡ true → p.least ≤ count
    by-least true e k = grind (arith, nat_tests, e)
    by-least false e k = absurd (cc)

    by-most : (o : Option ℕ) (b : Bool) → (b && at_most count o) ≡ true → AreAtMost count o
    by-most None b k = tt
    by-most (Some most) true k = grind (arith, nat_tests, k)
    by-most (Some most) false k = absurd (cc)

takes-not : (p : Primitive) (count : ℕ) → takes p count ≡ false → TakesSoMany p count → ⊥
takes-not p count h t = by p.most t.most (let k : nat_le p.least count ≡ true = by-least t.least in ap (λ b. b && at_most count p.most) (sym k) ∙ h)
  where
    by-least : p.least ≤ count → nat_le p.least count ≡ true
    by-least k = grind (arith, nat_tests)

    by : (o : Option ℕ) → AreAtMost count o → (true && at_most count o) ≡ false → ⊥
    by None k e = cc
    by (Some most) k e = let l : nat_le count most ≡ true = grind (arith, nat_tests) in let z : true ≡ false = sym l ∙ e in let y : ⊥ = cc in y

-- Calls.

module _ (op : ℕ) (args : List Value) (cells : List Cell) (frames : Scope) where
  only-by : (o : Option Primitive) → primitive_of op ≡ o → (f : Bare) → answer_by o op args cells frames ≡ Err f → IsRefusedCall op args cells frames f
  only-by None e f h = subst (λ g. IsRefusedCall op args cells frames g) (let k : no_primitive op ≡ f = cc in k) (r.no_primitive e)
  only-by (Some p) e f h = by (takes p (length args)) refl h
    where
      by-row : takes p (length args) ≡ true → (q : PrimAnswer) → row_answer p.row op args cells frames ≡ q → Of op p.row args cells q → q ≡ Err f → IsRefusedCall op args cells frames f
      by-row t (Ok m) same of is = absurd (cc)
      by-row t (Err g) same of is = let g-is : g ≡ f = cc in r.wrong_arguments e (takes-so-many p (length args) t) (same ∙ is) (subst (λ x. IsOfRow op p.row args cells x) g-is of)

      by : (b : Bool) → takes p (length args) ≡ b → (if b then row_answer p.row op args cells frames else Err (wrong_count (length args))) ≡ Err f → IsRefusedCall op args cells frames f
      by true t k = by-row t (row_answer p.row op args cells frames) refl (of-row p.row op args cells frames) k
      by false t k = subst (λ g. IsRefusedCall op args cells frames g) (let g : wrong_count (length args) ≡ f = cc in g) (r.wrong_number e (takes-not p (length args) t))

  answered-by : (o : Option Primitive) → primitive_of op ≡ o → delta op args cells frames ≡ answer_by o op args cells frames
  unfolding delta
  answered-by o e = ap (λ q. answer_by q op args cells frames) e

  by-takes : (p : Primitive) (b : Bool) → takes p (length args) ≡ b → primitive_answer p op args cells frames ≡ (if b then row_answer p.row op args cells frames else Err (wrong_count (length args)))
  by-takes p b t = ap (λ c. if c then row_answer p.row op args cells frames else Err (wrong_count (length args))) t

  does-take : (p : Primitive) → TakesSoMany p (length args) → takes p (length args) ≡ true
  does-take p t = by (takes p (length args)) refl
    where
      by : (b : Bool) → takes p (length args) ≡ b → takes p (length args) ≡ true
      by true e = e
      by false e = absurd (takes-not p (length args) e t)

  does-not : (p : Primitive) → (TakesSoMany p (length args) → ⊥) → takes p (length args) ≡ false
  does-not p t = by (takes p (length args)) refl
    where
      by : (b : Bool) → takes p (length args) ≡ b → takes p (length args) ≡ false
      by true e = absurd (t (takes-so-many p (length args) e))
      by false e = e

  is-refused : (f : Bare) → IsRefusedCall op args cells frames f → delta op args cells frames ≡ Err f
  is-refused _ (r.no_primitive e) = answered-by None e
  is-refused _ (r.wrong_number {p} e t) = answered-by (Some p) e ∙ by-takes p false (does-not p t)
  is-refused _ (r.wrong_arguments {p} {f} e t h of) = answered-by (Some p) e ∙ by-takes p true (does-take p t) ∙ h

pub refusals-are-told : RefusalsAreTold
refusals-are-told = record {
  refused = is-refused;
  only = λ op args cells frames f h. only-by op args cells frames (primitive_of op) refl f (sym (answered-by op args cells frames (primitive_of op) refl) ∙ h);
}
