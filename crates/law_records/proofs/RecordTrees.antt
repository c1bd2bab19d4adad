-- The definitions of a record type are one tree, where that is within the limits of trees.
use Rattle.std.proofs.Common.{◌≡◌, ℕ, ◌+◌, Bool, true, false, List, [], ◌∷◌, ◌++◌, codes, map, Option, None, Some, Result, Ok, Err, refl, ap, sym, ◌∙◌, append-nil, append_assoc, inl, inr}
use Rattle.std.specs.Prelude.{◌⊎◌, nat_le}
use Rattle.std.proofs.lemmas.Bool.{leb-true, le-leb}
use Rattle.base_data.specs.Gives.{◌>>=◌}
use Rattle.base_data.specs.declared.fault.Bare.{Bare}
use Rattle.stx_tree.specs.Measures.{height, size, max_height, max_size, Fits, within}
use Rattle.stx_tree.specs.Tree.{Tree, nil, chain, vector_of}
use Rattle.stx_tree.proofs.MeasureLaws.{pair_fits, within-fits, within-past}
use Rattle.core_shapes.specs.Written.{list}
use Rattle.core_records.specs.Definitions.{FormRow, field_entry, field_entries, or_no_fields, fields_part, parent_type, uid_part, or_false, type_operator, type_value, parent_constructor, protocol_part, constructor_operator, constructor_value, keyword_clause, keyword_body, keyword_value, keyword_definition, definition_by, constructor_definition, predicate_definition, accessor_operator, accessor_value, accessor_definition, mutator_operator, mutator_value, mutator_definition, mutability, with_mutator, with_field, with_fields, first_definitions, definitions}
use Rattle.core_records.specs.Introduced.{Made, list_of_two, list_made, vector_made, plain}
use Rattle.core_records.specs.Introduced as introduced
use Rattle.core_records.specs.declared.clause.Clauses.{Clauses}
use Rattle.core_records.specs.declared.clause.Field.{Field}
use Rattle.core_records.specs.declared.clause.Parent.{Parent}
use Rattle.core_records.specs.declared.clause.Parent.TheVariants as parents
use Rattle.core_records.specs.declared.clause.Uid.{Uid}
use Rattle.core_records.specs.declared.clause.Uid.TheVariants as uid
use Rattle.core_records.specs.declared.names.RecordNames.{RecordNames}
use Rattle.law_records.specs.RecordTypes.{word, own_word, truth, quoted, Description, rtd, rcd, define, call, call_at, entry, made_type, made_constructor, name_keyword, defined_name, field_procedures, procedures, defining}
use Rattle.law_records.specs.RecordTypes as types

-- A tree is within the limits or past one of them.

fitting : (t : Tree) → (within t ≡ Ok t) ⊎ (Fits t → ⊥)
fitting t = by (nat_le (height t) max_height) (nat_le (size t) max_size) refl refl
  where
    by : (a b : Bool) → nat_le (height t) max_height ≡ a → nat_le (size t) max_size ≡ b → (within t ≡ Ok t) ⊎ (Fits t → ⊥)
    by true true p q = inl (within-fits t (leb-true (height t) max_height p, leb-true (size t) max_size q))
    by true false p q = inr (λ h. let e = sym q ∙ le-leb (size t) max_size h.1 in let f : ⊥ = cc in f)
    by false b p q = inr (λ h. let e = sym p ∙ le-leb (height t) max_height h.0 in let f : ⊥ = cc in f)

part-fits : (before : List Tree) (t : Tree) (after : List Tree) → Fits (list (before ++ t ∷ after)) → Fits t
part-fits [] t after h = (pair_fits None t (chain after nil) h).0
part-fits (x ∷ xs) t after h = part-fits xs t after (pair_fits None x (chain (xs ++ t ∷ after) nil) h).1

next-fits : (before : List Tree) (s t : Tree) (after : List Tree) → Fits (list (before ++ s ∷ t ∷ after)) → Fits t
next-fits [] s t after h = (pair_fits None t (chain after nil) (pair_fits None s (chain (t ∷ after) nil) h).1).0
next-fits (x ∷ xs) s t after h = next-fits xs s t after (pair_fits None x (chain (xs ++ s ∷ t ∷ after) nil) h).1

-- One tree after another.

then-then : {A B C : Type 0} (m : Result A Bare) (f : A → Result B Bare) (g : B → Result C Bare) → ((m >>= f) >>= g) ≡ (m >>= (λ a. f a >>= g))
then-then (Ok a) f g = refl
then-then (Err e) f g = refl

then-same : {A B : Type 0} (m : Result A Bare) (f g : A → Result B Bare) → ((a : A) → f a ≡ g a) → (m >>= f) ≡ (m >>= g)
then-same (Ok a) f g h = h a
then-same (Err e) f g h = refl

-- what comes to a tree, where it is within the limits or whatever they are
abbrev Yields : Made → Tree → Type 0
Yields m t = (m ≡ within t) ⊎ (m ≡ Ok t)

then-within : (m : Made) (t : Tree) (f : Tree → Tree) → Yields m t → (Fits (f t) → Fits t) → (m >>= (λ u. within (f u))) ≡ within (f t)
then-within m t f (inr e) g = ap (λ (x : Made). x >>= (λ u. within (f u))) e
then-within m t f (inl e) g = ap (λ (x : Made). x >>= (λ u. within (f u))) e ∙ by (fitting t)
  where
    by : (within t ≡ Ok t) ⊎ (Fits t → ⊥) → (within t >>= (λ u. within (f u))) ≡ within (f t)
    by (inl h) = ap (λ (x : Made). x >>= (λ u. within (f u))) h
    by (inr h) = ap (λ (x : Made). x >>= (λ u. within (f u))) (within-past t h) ∙ sym (within-past (f t) (λ k. h (g k)))

-- a tree of which a row is made, and what the row is made into
then-on : (m : Made) (t : Tree) (f : Tree → FormRow) (go : List Tree → Made) (whole : Tree → Tree) → Yields m t → ((u : Tree) → (f u >>= go) ≡ within (whole u)) → (Fits (whole t) → Fits t) → ((m >>= f) >>= go) ≡ within (whole t)
then-on m t f go whole y h g = then-then m f go ∙ then-same m (λ u. f u >>= go) (λ u. within (whole u)) h ∙ then-within m t whole y g

-- The record type.

entry-is : (f : Field) → field_entry f ≡ within (entry f)
entry-is f = by f.mutator
  where
    by : (o : Option Tree) → list_of_two (mutability o) f.id ≡ within (types.field_entry f o)
    by None = refl
    by (Some put) = refl

entries-are : (done : List Tree) (fs : List Field) → (field_entries done fs >>= vector_made) ≡ within (vector_of (done ++ map entry fs))
entries-are done [] = ap (λ ts. within (vector_of ts)) (sym (append-nil done))
entries-are done (f ∷ fs) = then-on (field_entry f) (entry f) (λ t. field_entries (done ++ t ∷ []) fs) vector_made (λ t. vector_of (done ++ t ∷ map entry fs)) (inl (entry-is f))
    (λ t. entries-are (done ++ t ∷ []) fs ∙ ap (λ ts. within (vector_of ts)) (append_assoc done (t ∷ []) (map entry fs)))
    (part-fits done (entry f) (map entry fs))

abbrev fields-tree : Option (List Field) → Tree
fields-tree o = vector_of (map entry (or_no_fields o))

fields-are : (o : Option (List Field)) → fields_part o ≡ within (quoted (fields-tree o))
unfolding fields_part
fields-are o = then-within (field_entries [] (or_no_fields o) >>= vector_made) (fields-tree o) quoted (inl (entries-are [] (or_no_fields o))) (part-fits (word (codes "quote") ∷ []) (fields-tree o) [])

abbrev pub parent-tree : Option Parent → Tree
parent-tree None = truth false
parent-tree (Some (parents.Named x)) = list (x ∷ (word (codes "record-type-descriptor") ∷ []))
parent-tree (Some (parents.Descriptors r c)) = r

abbrev pub constructor-tree : Option Parent → Tree
constructor-tree None = truth false
constructor-tree (Some (parents.Named x)) = list (x ∷ (word (codes "record-constructor-descriptor") ∷ []))
constructor-tree (Some (parents.Descriptors r c)) = c

abbrev pub uid-tree : List ℕ → Option Uid → Tree
uid-tree own None = truth false
uid-tree own (Some uid.Generated) = quoted (word own)
uid-tree own (Some (uid.Given x)) = quoted x

-- what the clauses of a form say, as they were read
abbrev pub description : List ℕ → Clauses → Description
description own cs = record {
  parent = parent-tree cs.parent;
  parent_constructor = constructor-tree cs.parent;
  uid = uid-tree own cs.nongenerative;
  sealed = or_false cs.sealed;
  opaque = or_false cs.opaque;
  protocol = protocol_part cs.protocol;
  fields = or_no_fields cs.fields;
}

parent-is : (o : Option Parent) → Yields (parent_type o) (parent-tree o)
unfolding parent_type
parent-is None = inr refl
parent-is (Some (parents.Named x)) = inl refl
parent-is (Some (parents.Descriptors r c)) = inr refl

constructor-is : (o : Option Parent) → Yields (parent_constructor o) (constructor-tree o)
unfolding parent_constructor
constructor-is None = inr refl
constructor-is (Some (parents.Named x)) = inl refl
constructor-is (Some (parents.Descriptors r c)) = inr refl

uid-is : (own : List ℕ) (o : Option Uid) → Yields (uid_part own o) (uid-tree own o)
unfolding uid_part
uid-is own None = inr refl
uid-is own (Some uid.Generated) = inl refl
uid-is own (Some (uid.Given x)) = inl refl

module _ (own : List ℕ) (names : RecordNames) (cs : Clauses) where
  abbrev type-call : (name parent u fields : Tree) → Tree
  type-call name parent u fields =
      list (word (codes "make-record-type-descriptor") ∷ (name ∷ (parent ∷ (u ∷ (truth (or_false cs.sealed) ∷ (truth (or_false cs.opaque) ∷ (fields ∷ [])))))))

  abbrev name-part : Tree
  name-part = quoted names.name

  abbrev parent-part : Tree
  parent-part = parent-tree cs.parent

  abbrev u-part : Tree
  u-part = uid-tree own cs.nongenerative

  abbrev f-part : Tree
  f-part = quoted (fields-tree cs.fields)

  abbrev operator : Tree
  operator = word (codes "make-record-type-descriptor")

  with-fields : (n p u : Tree) → (fields_part cs.fields >>= (λ f. within (type-call n p u f))) ≡ within (type-call n p u f-part)
  with-fields n p u = then-within (fields_part cs.fields) f-part (type-call n p u) (inl (fields-are cs.fields)) (part-fits (operator ∷ (n ∷ (p ∷ (u ∷ (truth (or_false cs.sealed) ∷ (truth (or_false cs.opaque) ∷ [])))))) f-part [])

  with-uid : (n p : Tree) → (uid_part own cs.nongenerative >>= (λ u. fields_part cs.fields >>= (λ f. within (type-call n p u f)))) ≡ within (type-call n p u-part f-part)
  with-uid n p = then-same (uid_part own cs.nongenerative) (λ u. fields_part cs.fields >>= (λ f. within (type-call n p u f))) (λ u. within (type-call n p u f-part)) (with-fields n p)
      ∙ then-within (uid_part own cs.nongenerative) u-part (λ u. type-call n p u f-part) (uid-is own cs.nongenerative) (part-fits (operator ∷ (n ∷ (p ∷ []))) u-part (truth (or_false cs.sealed) ∷ (truth (or_false cs.opaque) ∷ (f-part ∷ []))))

  with-parent : (n : Tree) → (parent_type cs.parent >>= (λ p. uid_part own cs.nongenerative >>= (λ u. fields_part cs.fields >>= (λ f. within (type-call n p u f))))) ≡ within (type-call n parent-part u-part f-part)
  with-parent n = then-same (parent_type cs.parent) (λ p. uid_part own cs.nongenerative >>= (λ u. fields_part cs.fields >>= (λ f. within (type-call n p u f)))) (λ p. within (type-call n p u-part f-part)) (with-uid n)
      ∙ then-within (parent_type cs.parent) parent-part (λ p. type-call n p u-part f-part) (parent-is cs.parent) (part-fits (operator ∷ (n ∷ [])) parent-part (u-part ∷ (truth (or_false cs.sealed) ∷ (truth (or_false cs.opaque) ∷ (f-part ∷ [])))))

  type-is : type_value own names cs ≡ within (made_type names.name (description own cs))
  unfolding type_value type_operator
  type-is = then-same (introduced.quoted names.name) (λ n. parent_type cs.parent >>= (λ p. uid_part own cs.nongenerative >>= (λ u. fields_part cs.fields >>= (λ f. within (type-call n p u f))))) (λ n. within (type-call n parent-part u-part f-part)) with-parent
      ∙ then-within (introduced.quoted names.name) name-part (λ n. type-call n parent-part u-part f-part) (inl refl) (part-fits (operator ∷ []) name-part (parent-part ∷ (u-part ∷ (truth (or_false cs.sealed) ∷ (truth (or_false cs.opaque) ∷ (f-part ∷ []))))))

  constructors-are : constructor_value cs ≡ within (made_constructor (description own cs))
  unfolding constructor_value constructor_operator
  constructors-are = then-within (parent_constructor cs.parent) (constructor-tree cs.parent) (λ p. list (word (codes "make-record-constructor-descriptor") ∷ (rtd ∷ (p ∷ (protocol_part cs.protocol ∷ []))))) (constructor-is cs.parent)
      (part-fits (word (codes "make-record-constructor-descriptor") ∷ (rtd ∷ [])) (constructor-tree cs.parent) (protocol_part cs.protocol ∷ []))

-- Definitions.

keyword-is : keyword_value (plain (codes "x")) ≡ Ok (name_keyword (own_word (codes "x")))
unfolding keyword_value keyword_body keyword_clause within
keyword-is = refl

defined-is : (name : Tree) → keyword_definition name ≡ within (defined_name name)
defined-is name = ap (λ (m : Made). m >>= (λ value. introduced.list_of_three (word (codes "define-syntax")) name value)) keyword-is

definition-is : (id : Tree) (m : Made) (value : Tree) → Yields m value → definition_by id m ≡ within (define id value)
definition-is id m value y = then-within m value (define id) y (part-fits (word (codes "define") ∷ (id ∷ [])) value [])

accessor-is : (k : ℕ) (id : Tree) → accessor_definition k id ≡ within (define id (call_at (codes "record-accessor") k))
unfolding accessor_value accessor_operator
accessor-is k id = definition-is id (accessor_value k) (call_at (codes "record-accessor") k) (inl refl)

mutator-is : (k : ℕ) (id : Tree) → mutator_definition k id ≡ within (define id (call_at (codes "record-mutator") k))
unfolding mutator_value mutator_operator
mutator-is k id = definition-is id (mutator_value k) (call_at (codes "record-mutator") k) (inl refl)

list-is-made : (ts : List Tree) → list_made ts ≡ within (list ts)
list-is-made [] = refl
list-is-made (t ∷ ts) = refl

abbrev get : ℕ → Field → Tree
get k f = define f.accessor (call_at (codes "record-accessor") k)

abbrev put : ℕ → Tree → Tree
put k id = define id (call_at (codes "record-mutator") k)

-- definitions, and those of fields behind them
abbrev all-behind : List Tree → List Tree → Made
all-behind after ts = within (list (ts ++ after))

module _ (k : ℕ) (done after : List Tree) (f : Field) where
  mutated : (id t : Tree) → (with_mutator k (done ++ t ∷ []) (Some id) >>= all-behind after) ≡ within (list (done ++ t ∷ (put k id ∷ after)))
  mutated id t = then-on (mutator_definition k id) (put k id) (λ u. Ok ((done ++ t ∷ []) ++ u ∷ [])) (all-behind after) (λ u. list (done ++ t ∷ (u ∷ after))) (inl (mutator-is k id))
      (λ u. ap (λ ts. within (list ts)) (append_assoc (done ++ t ∷ []) (u ∷ []) after ∙ append_assoc done (t ∷ []) (u ∷ after)))
      (next-fits done t (put k id) after)

  field-is : (o : Option Tree) → ((accessor_definition k f.accessor >>= (λ t. with_mutator k (done ++ t ∷ []) o)) >>= all-behind after) ≡ within (list (done ++ (field_procedures k f o ++ after)))
  field-is None = then-on (accessor_definition k f.accessor) (get k f) (λ t. Ok (done ++ t ∷ [])) (all-behind after) (λ t. list (done ++ t ∷ after)) (inl (accessor-is k f.accessor))
      (λ t. ap (λ ts. within (list ts)) (append_assoc done (t ∷ []) after)) (part-fits done (get k f) after)
  field-is (Some id) = then-on (accessor_definition k f.accessor) (get k f) (λ t. with_mutator k (done ++ t ∷ []) (Some id)) (all-behind after) (λ t. list (done ++ t ∷ (put k id ∷ after))) (inl (accessor-is k f.accessor))
      (mutated id) (part-fits done (get k f) (put k id ∷ after))

procedures-are : (k : ℕ) (done : List Tree) (fs : List Field) → (with_fields k done fs >>= list_made) ≡ within (list (done ++ procedures k fs))
procedures-are k done [] = list-is-made done ∙ ap (λ ts. within (list ts)) (sym (append-nil done))
procedures-are k done (f ∷ fs) =
    then-then (with_field k done f) (λ ts. with_fields (k + 1) ts fs) list_made
    ∙ then-same (with_field k done f) (λ ts. with_fields (k + 1) ts fs >>= list_made) (all-behind (procedures (k + 1) fs)) (λ ts. procedures-are (k + 1) ts fs)
    ∙ field-is k done (procedures (k + 1) fs) f f.mutator

module _ (own : List ℕ) (names : RecordNames) (cs : Clauses) where
  abbrev fields-behind : List Tree
  fields-behind = procedures 0 (or_no_fields cs.fields)

  abbrev go : List Tree → Made
  go ts = within (list (ts ++ fields-behind))

  abbrev row : (a b c d e : Tree) → List Tree
  row a b c d e = word (codes "begin") ∷ (a ∷ (b ∷ (c ∷ (d ∷ (e ∷ [])))))

  abbrev whole : (a b c d e : Tree) → Tree
  whole a b c d e = list (word (codes "begin") ∷ (a ∷ (b ∷ (c ∷ (d ∷ (e ∷ fields-behind))))))

  abbrev type-part : Tree
  type-part = define rtd (made_type names.name (description own cs))

  abbrev constructor-part : Tree
  constructor-part = define rcd (made_constructor (description own cs))

  abbrev make-part : Tree
  make-part = define names.constructor (call (codes "record-constructor") rcd)

  abbrev test-part : Tree
  test-part = define names.predicate (call (codes "record-predicate") rtd)

  fifth : (a b c d : Tree) → ((predicate_definition names.predicate >>= (λ e. Ok (row a b c d e))) >>= go) ≡ within (whole a b c d test-part)
  fifth a b c d = then-on (predicate_definition names.predicate) test-part (λ e. Ok (row a b c d e)) go (whole a b c d)
      (inl (definition-is names.predicate (list_of_two (word (codes "record-predicate")) rtd) (call (codes "record-predicate") rtd) (inl refl))) (λ e. refl)
      (part-fits (word (codes "begin") ∷ (a ∷ (b ∷ (c ∷ (d ∷ []))))) test-part fields-behind)

  fourth : (a b c : Tree) → ((constructor_definition names.constructor >>= (λ d. predicate_definition names.predicate >>= (λ e. Ok (row a b c d e)))) >>= go) ≡ within (whole a b c make-part test-part)
  fourth a b c = then-on (constructor_definition names.constructor) make-part (λ d. predicate_definition names.predicate >>= (λ e. Ok (row a b c d e))) go (λ d. whole a b c d test-part)
      (inl (definition-is names.constructor (list_of_two (word (codes "record-constructor")) rcd) (call (codes "record-constructor") rcd) (inl refl))) (fifth a b c)
      (part-fits (word (codes "begin") ∷ (a ∷ (b ∷ (c ∷ [])))) make-part (test-part ∷ fields-behind))

  third : (a b : Tree)
      → ((keyword_definition names.name >>= (λ c. constructor_definition names.constructor >>= (λ d. predicate_definition names.predicate >>= (λ e. Ok (row a b c d e))))) >>= go) ≡ within (whole a b (defined_name names.name) make-part test-part)
  third a b = then-on (keyword_definition names.name) (defined_name names.name) (λ c. constructor_definition names.constructor >>= (λ d. predicate_definition names.predicate >>= (λ e. Ok (row a b c d e)))) go (λ c. whole a b c make-part test-part)
      (inl (defined-is names.name)) (fourth a b)
      (part-fits (word (codes "begin") ∷ (a ∷ (b ∷ []))) (defined_name names.name) (make-part ∷ (test-part ∷ fields-behind)))

  second : (a : Tree)
      → ((definition_by rcd (constructor_value cs) >>= (λ b. keyword_definition names.name >>= (λ c. constructor_definition names.constructor >>= (λ d. predicate_definition names.predicate >>= (λ e. Ok (row a b c d e)))))) >>= go)
      ≡ within (whole a constructor-part (defined_name names.name) make-part test-part)
  second a = then-on (definition_by rcd (constructor_value cs)) constructor-part (λ b. keyword_definition names.name >>= (λ c. constructor_definition names.constructor >>= (λ d. predicate_definition names.predicate >>= (λ e. Ok (row a b c d e))))) go
      (λ b. whole a b (defined_name names.name) make-part test-part)
      (inl (definition-is rcd (constructor_value cs) (made_constructor (description own cs)) (inl (constructors-are own names cs)))) (third a)
      (part-fits (word (codes "begin") ∷ (a ∷ [])) constructor-part (defined_name names.name ∷ (make-part ∷ (test-part ∷ fields-behind))))

  first : (first_definitions own names cs >>= go) ≡ within (defining names (description own cs))
  unfolding first_definitions
  first = then-on (definition_by rtd (type_value own names cs)) type-part
      (λ a. definition_by rcd (constructor_value cs) >>= (λ b. keyword_definition names.name >>= (λ c. constructor_definition names.constructor >>= (λ d. predicate_definition names.predicate >>= (λ e. Ok (row a b c d e)))))) go
      (λ a. whole a constructor-part (defined_name names.name) make-part test-part)
      (inl (definition-is rtd (type_value own names cs) (made_type names.name (description own cs)) (inl (type-is own names cs)))) second
      (part-fits (word (codes "begin") ∷ []) type-part (constructor-part ∷ (defined_name names.name ∷ (make-part ∷ (test-part ∷ fields-behind)))))

  pub definitions-are : definitions own names cs ≡ within (defining names (description own cs))
  unfolding definitions
  definitions-are = then-then (first_definitions own names cs) (λ ts. with_fields 0 ts (or_no_fields cs.fields)) list_made
      ∙ then-same (first_definitions own names cs) (λ ts. with_fields 0 ts (or_no_fields cs.fields) >>= list_made) go (λ ts. procedures-are 0 ts (or_no_fields cs.fields))
      ∙ first
