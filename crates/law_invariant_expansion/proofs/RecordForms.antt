-- What record forms stand for is kept where the form is, and what they introduce.
use Rattle.std.specs.Prelude.{◌^◌, ◌<◌, ◌≤◌, ◌&&◌, nat_lt, nat_le}
use Rattle.std.specs.List.{list_all}
use Rattle.std.proofs.lemmas.Bool.{leb-true}
use Rattle.std.proofs.lemmas.List.{length-append}
use Rattle.std.proofs.Common.{◌≡◌, refl, subst, true, false, length, arith, ℕ, ◌+◌, Bool, List, [], ◌∷◌, ◌++◌, Option, None, Some, Result, Ok, Err, codes, if◌then◌else◌}
use Rattle.base_data.specs.Gives.{◌>>=◌}
use Rattle.base_data.specs.declared.span.Span.{Span}
use Rattle.stx_scope.specs.Stands.{symbol_of}
use Rattle.stx_tree.specs.Measures.{max_height, max_size, size, height, within, too_deep}
use Rattle.stx_tree.specs.Tree.{Tree, atom, leaf, pair, vector, nil, chain, list_of, vector_of}
use Rattle.stx_frames.specs.Scope.{Scope}
use Rattle.core_language.specs.declared.core_form.CoreForm.{CoreForm}
use Rattle.core_language.specs.declared.core_form.CoreForm.TheVariants as form
use Rattle.core_shapes.specs.Lists.{is_leaf, proper_elements, if_some, all_of}
use Rattle.core_records.specs.Clauses.{keyword_of, fixed_field, immutable_field, mutable_field, field_by, field_in, field_of, fields_clause, parent_clause, parent_rtd_clause, protocol_clause, only_truth, sealed_clause, opaque_clause, nongenerative_clause, clause_by, clause_in, clause_of, no_clauses, if_free, with_clause, or_bad, next_clause, all_clauses}
use Rattle.core_records.specs.Definitions.{FormRow, rtd, rcd, type_word, constructor_word, definition, definition_by, mutability, field_entry, field_entries, or_no_fields, fields_part, type_in, parent_type, uid_in, uid_part, or_false, type_operator, type_made, type_value, constructor_in, parent_constructor, protocol_part, constructor_operator, constructor_made, constructor_value, keyword_clause, keyword_body, keyword_value, keyword_definition, constructor_definition, predicate_definition, place_in, accessor_operator, accessor_value, accessor_definition, mutator_operator, mutator_value, mutator_definition, with_mutator, with_field, with_fields, first_definitions, definitions}
use Rattle.core_records.specs.Forms.{at_form, only_id, descriptor_form, definitions_for, named_form, defining_form, record_forms}
use Rattle.core_records.specs.Introduced.{introduced, plain, boolean, Made, list_made, list_of_two, list_of_three, vector_made, quoted}
use Rattle.core_records.specs.Names.{constructor_symbol, predicate_symbol, made_names, given_names, names_of}
use Rattle.core_records.specs.declared.clause.Clauses.{Clauses}
use Rattle.core_records.specs.declared.clause.Field.{Field}
use Rattle.core_records.specs.declared.clause.Parent.{Parent}
use Rattle.core_records.specs.declared.clause.Parent.TheVariants as parents
use Rattle.core_records.specs.declared.clause.RecordClause.{RecordClause}
use Rattle.core_records.specs.declared.clause.RecordClause.TheVariants as clause
use Rattle.core_records.specs.declared.clause.Uid.{Uid}
use Rattle.core_records.specs.declared.clause.Uid.TheVariants as uid
use Rattle.core_records.specs.declared.names.RecordNames.{RecordNames}
use Rattle.base_data.specs.Elements.{Each}
use Rattle.std.proofs.Common.{pos}
use Rattle.std.proofs.lemmas.Bool.{lt-ltb}
use Rattle.base_data.specs.declared.atom.Atom.TheVariants as atoms
use Rattle.stx_tree.specs.Context.{LeafContext}
use Rattle.core_records.specs.Names.{like, made_accessor, made_mutator}
use Rattle.law_invariants.specs.Invariant.{Invariant, OptionHolds}
use Rattle.base_data.proofs.ElementLemmas.{each-and}
use Rattle.law_invariants.proofs.Trees.{OkHolds, within_all}
use Rattle.law_invariant_expansion.specs.Kept.{IsBuilt}
use Rattle.law_invariant_expansion.proofs.Shapes.{then-holds, some-holds, if-holds, all-of-holds, proper-holds}

-- one ASCII character or more
abbrev pub is_word : List ℕ → Bool
is_word x = list_all (λ b. nat_lt b 0x80) x && nat_lt 0 (length x)

-- It holds of identifiers whose symbol is a word, and of those that are named after a record type and its fields.
pub record Introduces (I : Invariant) : Type 0 where
  pub words : (x : List ℕ) (c : LeafContext) → is_word x ≡ true → I.trees (leaf None x c)
  pub constructors : (t : Tree) → I.trees t → I.trees (like t (constructor_symbol (symbol_of t)))
  pub predicates : (t : Tree) → I.trees t → I.trees (like t (predicate_symbol (symbol_of t)))
  pub accessors : (t u : Tree) → I.trees t → I.trees u → I.trees (made_accessor t u)
  pub mutators : (t u : Tree) → I.trees t → I.trees u → I.trees (made_mutator t u)

-- A form within the limit of trees has no more parts than that.

size-some : (t : Tree) → 1 ≤ size t
size-some (atom s a) = omega arith
size-some (leaf s x c) = omega arith
size-some (pair s a d) = let h = size-some a in omega arith
size-some (vector s d) = size-some d

chain-size : (ts : List Tree) → length ts ≤ size (chain ts nil)
chain-size [] = omega arith
chain-size (t ∷ ts) = let h = size-some t in let k = chain-size ts in omega arith

list-size : (ts : List Tree) → length ts ≤ size (list_of ts None)
list-size [] = omega arith
list-size (t ∷ ts) = chain-size (t ∷ ts)

within-small : (t u : Tree) → within t ≡ Ok u → size t ≤ max_size
unfolding within
within-small t u e = by (nat_le (height t) max_height) (nat_le (size t) max_size) refl e
  where
    by : (c b : Bool) → nat_le (size t) max_size ≡ b → (if c && b then Ok t else Err too_deep) ≡ Ok u → size t ≤ max_size
    by true true h k = omega (arith, leb-true, h)
    by true false h k = absurd (cc)
    by false b h k = absurd (cc)

ok-weaker : {A E : Type 0} (P Q : A → Type 0) → ((x : A) → P x → Q x) → (r : Result A E) → OkHolds P r → OkHolds Q r
ok-weaker P Q f (Ok x) h = f x h
ok-weaker P Q f (Err e) h = tt

module _ (I : Invariant) (built : IsBuilt I) (introduces : Introduces I) where
  abbrev T : Tree → Type 0
  T t = I.trees t

  abbrev Ts : List Tree → Type 0
  Ts ts = Each T ts

  abbrev Good : Made → Type 0
  Good m = OkHolds T m

  booleans : (b : Bool) → T (boolean b)
  booleans b = built.closed.atom (atoms.Bool b) (built.closed.booleans b)

  places : (k : ℕ) → k < 2 ^ 127 → T (place_in k)
  places k few = built.closed.atom (atoms.Int (pos k)) (built.closed.integers (pos k) (lt-ltb k (2 ^ 127) few))

  empty : T nil
  empty = built.closed.atom atoms.Nil built.closed.nil

  lists : (ts : List Tree) (u : Tree) → Ts ts → within (list_of ts None) ≡ Ok u → T u
  lists [] u h e = built.closed.list [] nil u tt empty e
  lists (t ∷ ts) u h e = built.closed.list (t ∷ ts) nil u h empty e

  list-good : (ts : List Tree) → Ts ts → Good (list_made ts)
  list-good ts h = within_all T (list_of ts None) (λ u e. lists ts u h e)

  vector-good : (ts : List Tree) → Ts ts → Good (vector_made ts)
  vector-good ts h = within_all T (vector_of ts) (λ u e. built.closed.vector ts u h e)

  two-good : (t u : Tree) → T t → T u → Good (list_of_two t u)
  two-good t u h k = list-good (t ∷ (u ∷ [])) (h, (k, tt))

  three-good : (t u v : Tree) → T t → T u → T v → Good (list_of_three t u v)
  three-good t u v h k j = list-good (t ∷ (u ∷ (v ∷ []))) (h, (k, (j, tt)))

  quoted-good : (t : Tree) → T t → Good (quoted t)
  quoted-good t h = two-good (introduced (codes "quote")) t (introduces.words (codes "quote") _ refl) h

  -- what comes of a tree that is made
  next-good : (m : Made) (k : Tree → Made) → Good m → ((t : Tree) → T t → Good (k t)) → Good (m >>= k)
  next-good m k h next = then-holds T T m k h next

  -- Clauses.

  abbrev FieldHolds : Field → Type 0
  FieldHolds f = T f.id × (T f.accessor × OptionHolds T f.mutator)

  abbrev ParentHolds : Parent → Type 0
  ParentHolds (parents.Named id) = T id
  ParentHolds (parents.Descriptors r c) = T r × T c

  abbrev UidHolds : Uid → Type 0
  UidHolds uid.Generated = Unit {0}
  UidHolds (uid.Given id) = T id

  abbrev ClauseHolds : RecordClause → Type 0
  ClauseHolds (clause.Fields xs) = Each FieldHolds xs
  ClauseHolds (clause.Parent p) = ParentHolds p
  ClauseHolds (clause.Protocol e) = T e
  ClauseHolds (clause.Sealed b) = Unit {0}
  ClauseHolds (clause.Opaque b) = Unit {0}
  ClauseHolds (clause.Nongenerative u) = UidHolds u

  record RecordClausesHold (cs : Clauses) : Type 0 where
    fields : OptionHolds (Each FieldHolds) cs.fields
    parent : OptionHolds ParentHolds cs.parent
    protocol : OptionHolds T cs.protocol
    nongenerative : OptionHolds UidHolds cs.nongenerative

  abbrev NamesHold : RecordNames → Type 0
  NamesHold n = T n.name × (T n.constructor × T n.predicate)

  fixed-holds : (name id : Tree) → T name → T id → FieldHolds (fixed_field name id)
  fixed-holds name id h k = (k, (introduces.accessors name id h k, tt))

  immutable-holds : (name : Tree) (ts : List Tree) → T name → Ts ts → OptionHolds FieldHolds (immutable_field name ts)
  unfolding immutable_field
  immutable-holds name [] h k = tt
  immutable-holds name (id ∷ []) h k = if-holds FieldHolds (is_leaf id) _ None (fixed-holds name id h k.0) tt
  immutable-holds name (id ∷ (get ∷ [])) h k = if-holds FieldHolds (is_leaf id) _ None (if-holds FieldHolds (is_leaf get) _ None (k.0, (k.1.0, tt)) tt) tt
  immutable-holds name (id ∷ (get ∷ (x ∷ ts))) h k = tt

  mutable-holds : (name : Tree) (ts : List Tree) → T name → Ts ts → OptionHolds FieldHolds (mutable_field name ts)
  unfolding mutable_field
  mutable-holds name [] h k = tt
  mutable-holds name (id ∷ []) h k = if-holds FieldHolds (is_leaf id) _ None (k.0, (introduces.accessors name id h k.0, introduces.mutators name id h k.0)) tt
  mutable-holds name (id ∷ (get ∷ [])) h k = tt
  mutable-holds name (id ∷ (get ∷ (put ∷ []))) h k =
      if-holds FieldHolds (is_leaf id) _ None (if-holds FieldHolds (is_leaf get) _ None (if-holds FieldHolds (is_leaf put) _ None (k.0, (k.1.0, k.1.1.0)) tt) tt) tt
  mutable-holds name (id ∷ (get ∷ (put ∷ (x ∷ ts)))) h k = tt

  field-by-holds : (name : Tree) (ts : List Tree) (f : CoreForm) → T name → Ts ts → OptionHolds FieldHolds (field_by name ts f)
  field-by-holds name ts form.Immutable h k = immutable-holds name ts h k
  field-by-holds name ts form.Mutable h k = mutable-holds name ts h k
  field-by-holds name ts _ h k = tt

  any-holds : {A : Type 0} (o : Option A) → OptionHolds (λ x. Unit {0}) o
  any-holds None = tt
  any-holds (Some x) = tt

  field-in-holds : (fs : Scope) (name : Tree) (ts : List Tree) → T name → Ts ts → OptionHolds FieldHolds (field_in fs name ts)
  field-in-holds fs name [] h k = tt
  field-in-holds fs name (head ∷ ts) h k = some-holds (λ (f : CoreForm). Unit {0}) FieldHolds (keyword_of fs head) (field_by name ts) (any-holds (keyword_of fs head)) (λ f j. field-by-holds name ts f h k.1)

  field-holds : (fs : Scope) (name t : Tree) → T name → T t → OptionHolds FieldHolds (field_of fs name t)
  unfolding field_of
  field-holds fs name t h k =
      if-holds FieldHolds (is_leaf t) (Some (fixed_field name t)) (if_some (proper_elements t) (field_in fs name)) (fixed-holds name t h k)
      (some-holds Ts FieldHolds (proper_elements t) (field_in fs name) (proper-holds I built.closed t k) (λ ts j. field-in-holds fs name ts h j))

  fields-holds : (fs : Scope) (name : Tree) (ts : List Tree) → T name → Ts ts → OptionHolds ClauseHolds (fields_clause fs name ts)
  unfolding fields_clause
  fields-holds fs name ts h k = some-holds (Each FieldHolds) ClauseHolds (all_of (field_of fs name) [] ts) (λ xs. Some (clause.Fields xs)) (all-of-holds T FieldHolds (field_of fs name) (λ t j. field-holds fs name t h j) [] ts tt k) (λ xs j. j)

  parent-holds : (ts : List Tree) → Ts ts → OptionHolds ClauseHolds (parent_clause ts)
  unfolding parent_clause
  parent-holds [] h = tt
  parent-holds (id ∷ []) h = if-holds ClauseHolds (is_leaf id) _ None h.0 tt
  parent-holds (id ∷ (x ∷ ts)) h = tt

  parent-rtd-holds : (ts : List Tree) → Ts ts → OptionHolds ClauseHolds (parent_rtd_clause ts)
  unfolding parent_rtd_clause
  parent-rtd-holds [] h = tt
  parent-rtd-holds (r ∷ []) h = tt
  parent-rtd-holds (r ∷ (c ∷ [])) h = (h.0, h.1.0)
  parent-rtd-holds (r ∷ (c ∷ (x ∷ ts))) h = tt

  protocol-holds : (ts : List Tree) → Ts ts → OptionHolds ClauseHolds (protocol_clause ts)
  unfolding protocol_clause
  protocol-holds [] h = tt
  protocol-holds (e ∷ []) h = h.0
  protocol-holds (e ∷ (x ∷ ts)) h = tt

  sealed-holds : (ts : List Tree) → OptionHolds ClauseHolds (sealed_clause ts)
  unfolding sealed_clause
  sealed-holds ts = some-holds (λ (b : Bool). Unit {0}) ClauseHolds (only_truth ts) (λ b. Some (clause.Sealed b)) (any-holds (only_truth ts)) (λ b j. tt)

  opaque-holds : (ts : List Tree) → OptionHolds ClauseHolds (opaque_clause ts)
  unfolding opaque_clause
  opaque-holds ts = some-holds (λ (b : Bool). Unit {0}) ClauseHolds (only_truth ts) (λ b. Some (clause.Opaque b)) (any-holds (only_truth ts)) (λ b j. tt)

  nongenerative-holds : (ts : List Tree) → Ts ts → OptionHolds ClauseHolds (nongenerative_clause ts)
  unfolding nongenerative_clause
  nongenerative-holds [] h = tt
  nongenerative-holds (id ∷ []) h = if-holds ClauseHolds (is_leaf id) _ None h.0 tt
  nongenerative-holds (id ∷ (x ∷ ts)) h = tt

  clause-by-holds : (fs : Scope) (name : Tree) (ts : List Tree) (f : CoreForm) → T name → Ts ts → OptionHolds ClauseHolds (clause_by fs name ts f)
  clause-by-holds fs name ts form.Fields h k = fields-holds fs name ts h k
  clause-by-holds fs name ts form.Parent h k = parent-holds ts k
  clause-by-holds fs name ts form.ParentRtd h k = parent-rtd-holds ts k
  clause-by-holds fs name ts form.Protocol h k = protocol-holds ts k
  clause-by-holds fs name ts form.Sealed h k = sealed-holds ts
  clause-by-holds fs name ts form.Opaque h k = opaque-holds ts
  clause-by-holds fs name ts form.Nongenerative h k = nongenerative-holds ts k
  clause-by-holds fs name ts _ h k = tt

  clause-in-holds : (fs : Scope) (name : Tree) (ts : List Tree) → T name → Ts ts → OptionHolds ClauseHolds (clause_in fs name ts)
  clause-in-holds fs name [] h k = tt
  clause-in-holds fs name (head ∷ ts) h k = some-holds (λ (f : CoreForm). Unit {0}) ClauseHolds (keyword_of fs head) (clause_by fs name ts) (any-holds (keyword_of fs head)) (λ f j. clause-by-holds fs name ts f h k.1)

  clause-holds : (fs : Scope) (name t : Tree) → T name → T t → OptionHolds ClauseHolds (clause_of fs name t)
  unfolding clause_of
  clause-holds fs name t h k = some-holds Ts ClauseHolds (proper_elements t) (clause_in fs name) (proper-holds I built.closed t k) (λ ts j. clause-in-holds fs name ts h j)

  free-holds : {A B : Type 0} (Q : B → Type 0) (o : Option A) (x : B) → Q x → OptionHolds Q (if_free o x)
  free-holds Q None x h = h
  free-holds Q (Some y) x h = tt

  with-clause-holds : (cs : Clauses) (x : RecordClause) → RecordClausesHold cs → ClauseHolds x → OptionHolds RecordClausesHold (with_clause cs x)
  unfolding with_clause
  with-clause-holds cs (clause.Fields xs) h k = free-holds RecordClausesHold cs.fields (record cs { fields = Some xs }) (record { fields = k; parent = h.parent; protocol = h.protocol; nongenerative = h.nongenerative })
  with-clause-holds cs (clause.Parent p) h k = free-holds RecordClausesHold cs.parent (record cs { parent = Some p }) (record { fields = h.fields; parent = k; protocol = h.protocol; nongenerative = h.nongenerative })
  with-clause-holds cs (clause.Protocol e) h k = free-holds RecordClausesHold cs.protocol (record cs { protocol = Some e }) (record { fields = h.fields; parent = h.parent; protocol = k; nongenerative = h.nongenerative })
  with-clause-holds cs (clause.Sealed b) h k = free-holds RecordClausesHold cs.sealed (record cs { sealed = Some b }) (record { fields = h.fields; parent = h.parent; protocol = h.protocol; nongenerative = h.nongenerative })
  with-clause-holds cs (clause.Opaque b) h k = free-holds RecordClausesHold cs.opaque (record cs { opaque = Some b }) (record { fields = h.fields; parent = h.parent; protocol = h.protocol; nongenerative = h.nongenerative })
  with-clause-holds cs (clause.Nongenerative u) h k = free-holds RecordClausesHold cs.nongenerative (record cs { nongenerative = Some u }) (record { fields = h.fields; parent = h.parent; protocol = h.protocol; nongenerative = k })

  bad-holds : {A : Type 0} (Q : A → Type 0) (t : Tree) (place : Span) (o : Option A) → OptionHolds Q o → OkHolds Q (or_bad t place o)
  bad-holds Q t place None h = tt
  bad-holds Q t place (Some x) h = h

  next-holds : (fs : Scope) (name : Tree) (place : Span) (cs : Clauses) (t : Tree) → T name → RecordClausesHold cs → T t → OkHolds RecordClausesHold (next_clause fs name place cs t)
  unfolding next_clause
  next-holds fs name place cs t g h k = bad-holds RecordClausesHold t place (if_some (clause_of fs name t) (with_clause cs)) (some-holds ClauseHolds RecordClausesHold (clause_of fs name t) (with_clause cs) (clause-holds fs name t g k) (λ x j. with-clause-holds cs x h j))

  clauses-hold : (fs : Scope) (name : Tree) (place : Span) (cs : Clauses) (ts : List Tree) → T name → RecordClausesHold cs → Ts ts → OkHolds RecordClausesHold (all_clauses fs name place cs ts)
  clauses-hold fs name place cs [] g h k = h
  clauses-hold fs name place cs (t ∷ ts) g h k = then-holds RecordClausesHold RecordClausesHold (next_clause fs name place cs t) (λ ds. all_clauses fs name place ds ts) (next-holds fs name place cs t g h k.0) (λ ds j. clauses-hold fs name place ds ts g j k.1)

  -- Definitions.

  abbrev RowGood : FormRow → Type 0
  RowGood r = OkHolds Ts r

  definition-good : (id value : Tree) → T id → T value → Good (definition id value)
  definition-good id value h k = three-good (introduced (codes "define")) id value (introduces.words (codes "define") _ refl) h k

  by-good : (id : Tree) (m : Made) → T id → Good m → Good (definition_by id m)
  by-good id m h k = next-good m (definition id) k (λ t j. definition-good id t h j)

  mutability-holds : (o : Option Tree) → T (mutability o)
  mutability-holds None = (introduces.words (codes "immutable") _ refl)
  mutability-holds (Some put) = (introduces.words (codes "mutable") _ refl)

  entry-good : (f : Field) → FieldHolds f → Good (field_entry f)
  entry-good f h = two-good (mutability f.mutator) f.id (mutability-holds f.mutator) h.0

  entries-good : (done : List Tree) (fs : List Field) → Ts done → Each FieldHolds fs → RowGood (field_entries done fs)
  entries-good done [] h k = h
  entries-good done (f ∷ fs) h k = then-holds T Ts (field_entry f) (λ t. field_entries (done ++ t ∷ []) fs) (entry-good f k.0) (λ t j. entries-good (done ++ t ∷ []) fs (each-and T done t h j) k.1)

  no-fields : (o : Option (List Field)) → OptionHolds (Each FieldHolds) o → Each FieldHolds (or_no_fields o)
  no-fields None h = tt
  no-fields (Some fs) h = h

  fields-part-good : (o : Option (List Field)) → OptionHolds (Each FieldHolds) o → Good (fields_part o)
  unfolding fields_part
  fields-part-good o h =
      next-good (field_entries [] (or_no_fields o) >>= vector_made) quoted (then-holds Ts T (field_entries [] (or_no_fields o)) vector_made (entries-good [] (or_no_fields o) tt (no-fields o h)) vector-good) quoted-good

  type-in-good : (p : Parent) → ParentHolds p → Good (type_in p)
  type-in-good (parents.Named id) h = two-good id type_word h (introduces.words (codes "record-type-descriptor") _ refl)
  type-in-good (parents.Descriptors r c) h = h.0

  parent-type-good : (o : Option Parent) → OptionHolds ParentHolds o → Good (parent_type o)
  unfolding parent_type
  parent-type-good None h = booleans _
  parent-type-good (Some p) h = type-in-good p h

  uid-in-good : (own : List ℕ) (on : T (introduced own)) (u : Uid) → UidHolds u → Good (uid_in own u)
  uid-in-good own on uid.Generated h = quoted-good (introduced own) on
  uid-in-good own on (uid.Given id) h = quoted-good id h

  uid-part-good : (own : List ℕ) (on : T (introduced own)) (o : Option Uid) → OptionHolds UidHolds o → Good (uid_part own o)
  unfolding uid_part
  uid-part-good own on None h = booleans _
  uid-part-good own on (Some u) h = uid-in-good own on u h

  type-operator-holds : T type_operator
  unfolding type_operator
  type-operator-holds = (introduces.words (codes "make-record-type-descriptor") _ refl)

  type-value-good : (own : List ℕ) (on : T (introduced own)) (names : RecordNames) (cs : Clauses) → NamesHold names → RecordClausesHold cs → Good (type_value own names cs)
  unfolding type_value
  type-value-good own on names cs h k =
      next-good (quoted names.name) _ (quoted-good names.name h.0)
      (λ name a. next-good (parent_type cs.parent) _ (parent-type-good cs.parent k.parent)
      (λ parent b. next-good (uid_part own cs.nongenerative) _ (uid-part-good own on cs.nongenerative k.nongenerative)
      (λ u c. next-good (fields_part cs.fields) (type_made cs name parent u) (fields-part-good cs.fields k.fields)
      (λ fields d. list-good (type_operator ∷ (name ∷ (parent ∷ (u ∷ (boolean (or_false cs.sealed) ∷ (boolean (or_false cs.opaque) ∷ (fields ∷ []))))))) (type-operator-holds, (a, (b, (c, (booleans _, (booleans _, (d, tt)))))))))))

  constructor-in-good : (p : Parent) → ParentHolds p → Good (constructor_in p)
  constructor-in-good (parents.Named id) h = two-good id constructor_word h (introduces.words (codes "record-constructor-descriptor") _ refl)
  constructor-in-good (parents.Descriptors r c) h = h.1

  parent-constructor-good : (o : Option Parent) → OptionHolds ParentHolds o → Good (parent_constructor o)
  unfolding parent_constructor
  parent-constructor-good None h = booleans _
  parent-constructor-good (Some p) h = constructor-in-good p h

  protocol-part-holds : (o : Option Tree) → OptionHolds T o → T (protocol_part o)
  unfolding protocol_part
  protocol-part-holds None h = booleans _
  protocol-part-holds (Some e) h = h

  constructor-operator-holds : T constructor_operator
  unfolding constructor_operator
  constructor-operator-holds = (introduces.words (codes "make-record-constructor-descriptor") _ refl)

  constructor-value-good : (cs : Clauses) → RecordClausesHold cs → Good (constructor_value cs)
  unfolding constructor_value
  constructor-value-good cs k =
      next-good (parent_constructor cs.parent) (λ parent. constructor_made parent (protocol_part cs.protocol)) (parent-constructor-good cs.parent k.parent)
      (λ parent a. list-good (constructor_operator ∷ (rtd ∷ (parent ∷ (protocol_part cs.protocol ∷ [])))) (constructor-operator-holds, ((introduces.words (codes "rtd") _ refl), (a, (protocol-part-holds cs.protocol k.protocol, tt)))))

  keyword-clause-good : (word value : Tree) → T word → T value → Good (keyword_clause word value)
  unfolding keyword_clause
  keyword-clause-good word value h k =
      next-good (list_of_two (introduced (codes "_")) word) _ (two-good (introduced (codes "_")) word (introduces.words (codes "_") _ refl) h)
      (λ p a. next-good (list_of_two (introduced (codes "syntax")) value) (λ output. list_of_two p output) (two-good (introduced (codes "syntax")) value (introduces.words (codes "syntax") _ refl) k) (λ o b. two-good p o a b))

  keyword-body-good : (x : Tree) → T x → Good (keyword_body x)
  unfolding keyword_body
  keyword-body-good x h =
      next-good (list_of_two type_word constructor_word) _ (two-good type_word constructor_word (introduces.words (codes "record-type-descriptor") _ refl) (introduces.words (codes "record-constructor-descriptor") _ refl))
      (λ words a. next-good (keyword_clause type_word rtd) _ (keyword-clause-good type_word rtd (introduces.words (codes "record-type-descriptor") _ refl) (introduces.words (codes "rtd") _ refl))
      (λ first b. next-good (keyword_clause constructor_word rcd) _ (keyword-clause-good constructor_word rcd (introduces.words (codes "record-constructor-descriptor") _ refl) (introduces.words (codes "rcd") _ refl))
      (λ second c. list-good (introduced (codes "syntax-case") ∷ (x ∷ (words ∷ (first ∷ (second ∷ []))))) ((introduces.words (codes "syntax-case") _ refl), (h, (a, (b, (c, tt))))))))

  keyword-value-good : (x : Tree) → T x → Good (keyword_value x)
  unfolding keyword_value
  keyword-value-good x h =
      next-good (list_made (x ∷ [])) _ (list-good (x ∷ []) (h, tt))
      (λ formals a. next-good (keyword_body x) _ (keyword-body-good x h) (λ body b. three-good (introduced (codes "lambda")) formals body (introduces.words (codes "lambda") _ refl) a b))

  keyword-definition-good : (name : Tree) → T name → Good (keyword_definition name)
  keyword-definition-good name h =
      next-good (keyword_value (plain (codes "x"))) (λ value. list_of_three (introduced (codes "define-syntax")) name value) (keyword-value-good (plain (codes "x")) (introduces.words (codes "x") _ refl)) (λ value a. three-good (introduced (codes "define-syntax")) name value (introduces.words (codes "define-syntax") _ refl) h a)

  constructor-definition-good : (id : Tree) → T id → Good (constructor_definition id)
  constructor-definition-good id h = by-good id (list_of_two (introduced (codes "record-constructor")) rcd) h (two-good (introduced (codes "record-constructor")) rcd (introduces.words (codes "record-constructor") _ refl) (introduces.words (codes "rcd") _ refl))

  predicate-definition-good : (id : Tree) → T id → Good (predicate_definition id)
  predicate-definition-good id h = by-good id (list_of_two (introduced (codes "record-predicate")) rtd) h (two-good (introduced (codes "record-predicate")) rtd (introduces.words (codes "record-predicate") _ refl) (introduces.words (codes "rtd") _ refl))

  accessor-operator-holds : T accessor_operator
  unfolding accessor_operator
  accessor-operator-holds = (introduces.words (codes "record-accessor") _ refl)

  accessor-value-good : (k : ℕ) → k < 2 ^ 127 → Good (accessor_value k)
  unfolding accessor_value
  accessor-value-good k few = three-good accessor_operator rtd (place_in k) accessor-operator-holds (introduces.words (codes "rtd") _ refl) (places k few)

  accessor-good : (k : ℕ) (id : Tree) → k < 2 ^ 127 → T id → Good (accessor_definition k id)
  accessor-good k id few h = by-good id (accessor_value k) h (accessor-value-good k few)

  mutator-operator-holds : T mutator_operator
  unfolding mutator_operator
  mutator-operator-holds = (introduces.words (codes "record-mutator") _ refl)

  mutator-value-good : (k : ℕ) → k < 2 ^ 127 → Good (mutator_value k)
  unfolding mutator_value
  mutator-value-good k few = three-good mutator_operator rtd (place_in k) mutator-operator-holds (introduces.words (codes "rtd") _ refl) (places k few)

  mutator-good : (k : ℕ) (id : Tree) → k < 2 ^ 127 → T id → Good (mutator_definition k id)
  mutator-good k id few h = by-good id (mutator_value k) h (mutator-value-good k few)

  with-mutator-good : (k : ℕ) (done : List Tree) (o : Option Tree) → k < 2 ^ 127 → Ts done → OptionHolds T o → RowGood (with_mutator k done o)
  with-mutator-good k done None few h j = h
  with-mutator-good k done (Some put) few h j = then-holds T Ts (mutator_definition k put) (λ t. Ok (done ++ t ∷ [])) (mutator-good k put few j) (λ t g. each-and T done t h g)

  with-field-good : (k : ℕ) (done : List Tree) (f : Field) → k < 2 ^ 127 → Ts done → FieldHolds f → RowGood (with_field k done f)
  with-field-good k done f few h j =
      then-holds T Ts (accessor_definition k f.accessor) (λ t. with_mutator k (done ++ t ∷ []) f.mutator) (accessor-good k f.accessor few j.1.0)
      (λ t g. with-mutator-good k (done ++ t ∷ []) f.mutator few (each-and T done t h g) j.1.1)

  with-fields-good : (k : ℕ) (done : List Tree) (fs : List Field) → k + length fs ≤ 2 ^ 127 → Ts done → Each FieldHolds fs → RowGood (with_fields k done fs)
  with-fields-good k done [] few h j = h
  with-fields-good k done (f ∷ fs) few h j =
      then-holds Ts Ts (with_field k done f) (λ ts. with_fields (k + 1) ts fs) (with-field-good k done f (omega arith) h j.0) (λ ts g. with-fields-good (k + 1) ts fs (omega arith) g j.1)

  first-good : (own : List ℕ) (on : T (introduced own)) (names : RecordNames) (cs : Clauses) → NamesHold names → RecordClausesHold cs → RowGood (first_definitions own names cs)
  unfolding first_definitions
  first-good own on names cs h k =
      then-holds T Ts (definition_by rtd (type_value own names cs)) _ (by-good rtd (type_value own names cs) (introduces.words (codes "rtd") _ refl) (type-value-good own on names cs h k))
      (λ a p. then-holds T Ts (definition_by rcd (constructor_value cs)) _ (by-good rcd (constructor_value cs) (introduces.words (codes "rcd") _ refl) (constructor-value-good cs k))
      (λ b q. then-holds T Ts (keyword_definition names.name) _ (keyword-definition-good names.name h.0)
      (λ c r. then-holds T Ts (constructor_definition names.constructor) _ (constructor-definition-good names.constructor h.1.0)
      (λ d s. then-holds T Ts (predicate_definition names.predicate) _ (predicate-definition-good names.predicate h.1.1)
      (λ e t. ((introduces.words (codes "begin") _ refl), (p, (q, (r, (s, (t, tt)))))))))))

  -- Each field has a definition, and a form within the limit of trees has no more parts than 128 bits count.

  -- so many or more
  abbrev Has : ℕ → List Tree → Type 0
  Has n ts = n ≤ length ts

  mutator-has : (k n : ℕ) (done : List Tree) (o : Option Tree) → n ≤ length done → OkHolds (Has n) (with_mutator k done o)
  mutator-has k n done None h = h
  mutator-has k n done (Some put) h = by (mutator_definition k put)
    where
      by : (m : Made) → OkHolds (Has n) (m >>= (λ t. Ok (done ++ t ∷ [])))
      by (Ok t) = omega (arith, length-append done (t ∷ []))
      by (Err f) = tt

  field-has : (k n : ℕ) (done : List Tree) (f : Field) → n ≤ length done → OkHolds (Has (n + 1)) (with_field k done f)
  field-has k n done f h = by (accessor_definition k f.accessor)
    where
      by : (m : Made) → OkHolds (Has (n + 1)) (m >>= (λ t. with_mutator k (done ++ t ∷ []) f.mutator))
      by (Ok t) = mutator-has k (n + 1) (done ++ t ∷ []) f.mutator (omega (arith, length-append done (t ∷ [])))
      by (Err f) = tt

  fields-have : (k n : ℕ) (done : List Tree) (fs : List Field) → n ≤ length done → OkHolds (Has (n + length fs)) (with_fields k done fs)
  fields-have k n done [] h = omega arith
  fields-have k n done (f ∷ fs) h =
      then-holds (Has (n + 1)) (Has (n + length (f ∷ fs))) (with_field k done f) (λ ts. with_fields (k + 1) ts fs) (field-has k n done f h)
      (λ ts j. ok-weaker (Has (n + 1 + length fs)) (Has (n + length (f ∷ fs))) (λ us i. omega arith) (with_fields (k + 1) ts fs) (fields-have (k + 1) (n + 1) ts fs j))

  -- the definitions of so many fields, where they are one form
  module _ (ts : List Tree) (fs : List Field) (h : Ts ts) (j : Each FieldHolds fs) where
    fields-fit : (us : List Tree) → with_fields 0 ts fs ≡ Ok us → size (list_of us None) ≤ max_size → Ts us
    fields-fit us e few = by (with_fields 0 ts fs) e (with-fields-good 0 ts fs enough h j)
      where
        counted : length fs ≤ length us
        counted = let k : 0 + length fs ≤ length us = subst (OkHolds (Has (0 + length fs))) e (fields-have 0 0 ts fs (omega arith)) in omega (arith, k)

        enough : 0 + length fs ≤ 2 ^ 127
        enough = let k = counted in let i = list-size us in omega arith

        by : (r : FormRow) → r ≡ Ok us → RowGood r → Ts us
        by (Ok vs) e k = let same : vs ≡ us = cc in subst Ts same k
        by (Err f) e k = absurd (cc)

    fields-made : Good (with_fields 0 ts fs >>= list_made)
    fields-made = by (with_fields 0 ts fs) refl
      where
        by : (r : FormRow) → with_fields 0 ts fs ≡ r → Good (r >>= list_made)
        by (Ok us) e = within_all T (list_of us None) (λ u q. lists us u (fields-fit us e (within-small (list_of us None) u q)) q)
        by (Err f) e = tt

  definitions-good : (own : List ℕ) (on : T (introduced own)) (names : RecordNames) (cs : Clauses) → NamesHold names → RecordClausesHold cs → Good (definitions own names cs)
  unfolding definitions
  definitions-good own on names cs h k = by (first_definitions own names cs) (first-good own on names cs h k)
    where
      by : (r : FormRow) → RowGood r → Good ((r >>= (λ ts. with_fields 0 ts (or_no_fields cs.fields))) >>= list_made)
      by (Ok ts) j = fields-made ts (or_no_fields cs.fields) j (no-fields cs.fields k.fields)
      by (Err f) j = tt

  -- Forms.

  at-form-holds : (t : Tree) (place : Span) (m : Made) → Good m → OkHolds T (at_form t place m)
  at-form-holds t place (Ok u) h = h
  at-form-holds t place (Err b) h = tt

  given-names-hold : (ts : List Tree) → Ts ts → OptionHolds NamesHold (given_names ts)
  given-names-hold [] h = tt
  given-names-hold (a ∷ []) h = tt
  given-names-hold (a ∷ (b ∷ [])) h = tt
  given-names-hold (a ∷ (b ∷ (c ∷ []))) h = if-holds NamesHold (is_leaf a) _ None (if-holds NamesHold (is_leaf b) _ None (if-holds NamesHold (is_leaf c) _ None (h.0, (h.1.0, h.1.1.0)) tt) tt) tt
  given-names-hold (a ∷ (b ∷ (c ∷ (d ∷ ts)))) h = tt

  names-hold : (t : Tree) → T t → OptionHolds NamesHold (names_of t)
  unfolding names_of
  names-hold t h =
      if-holds NamesHold (is_leaf t) (Some (made_names t)) (if_some (proper_elements t) given_names) (h, (introduces.constructors t h, introduces.predicates t h))
      (some-holds Ts NamesHold (proper_elements t) given_names (proper-holds I built.closed t h) given-names-hold)

  only-id-holds : (ts : List Tree) → Ts ts → OptionHolds T (only_id ts)
  only-id-holds [] h = tt
  only-id-holds (a ∷ []) h = tt
  only-id-holds (a ∷ (id ∷ [])) h = if-holds T (is_leaf id) (Some id) None h.1.0 tt
  only-id-holds (a ∷ (id ∷ (x ∷ ts))) h = tt

  descriptor-holds : (t : Tree) (place : Span) (word : Tree) → T t → T word → OkHolds T (descriptor_form t place word)
  unfolding descriptor_form
  descriptor-holds t place word h k =
      then-holds T T (or_bad t place (if_some (proper_elements t) only_id)) (λ id. at_form t place (list_of_two id word))
      (bad-holds T t place (if_some (proper_elements t) only_id) (some-holds Ts T (proper_elements t) only_id (proper-holds I built.closed t h) only-id-holds)) (λ id j. at-form-holds t place (list_of_two id word) (two-good id word j k))

  none-hold : RecordClausesHold no_clauses
  none-hold = record { fields = tt; parent = tt; protocol = tt; nongenerative = tt }

  definitions-for-holds : (fs : Scope) (t : Tree) (place : Span) (own : List ℕ) (on : T (introduced own)) (names : RecordNames) (ts : List Tree) → NamesHold names → Ts ts → OkHolds T (definitions_for fs t place own names ts)
  unfolding definitions_for
  definitions-for-holds fs t place own on names ts h k =
      then-holds RecordClausesHold T (all_clauses fs names.name place no_clauses ts) (λ cs. at_form t place (definitions own names cs)) (clauses-hold fs names.name place no_clauses ts h.0 none-hold k)
      (λ cs j. at-form-holds t place (definitions own names cs) (definitions-good own on names cs h j))

  named-holds : (fs : Scope) (t : Tree) (place : Span) (own : List ℕ) (on : T (introduced own)) (spec : Tree) (ts : List Tree) → T spec → Ts ts → OkHolds T (named_form fs t place own spec ts)
  unfolding named_form
  named-holds fs t place own on spec ts h k =
      then-holds NamesHold T (or_bad t place (names_of spec)) (λ names. definitions_for fs t place own names ts) (bad-holds NamesHold t place (names_of spec) (names-hold spec h)) (λ names j. definitions-for-holds fs t place own on names ts j k)

  defining-holds : (fs : Scope) (t : Tree) (place : Span) (own : List ℕ) (on : T (introduced own)) (o : Option (List Tree)) → OptionHolds Ts o → OkHolds T (defining_form fs t place own o)
  defining-holds fs t place own on None h = tt
  defining-holds fs t place own on (Some []) h = tt
  defining-holds fs t place own on (Some (a ∷ [])) h = tt
  defining-holds fs t place own on (Some (a ∷ (spec ∷ ts))) h = named-holds fs t place own on spec ts h.1.0 h.1.1

  pub record-holds : (fs : Scope) (t : Tree) (f : CoreForm) (place : Span) (own : List ℕ) (on : T (introduced own)) → T t → OkHolds T (record_forms fs t f place own)
  unfolding record_forms
  record-holds fs t form.DefineRecordType place own on h = defining-holds fs t place own on (proper_elements t) (proper-holds I built.closed t h)
  record-holds fs t form.RecordTypeDescriptor place own on h = descriptor-holds t place type_word h (introduces.words (codes "record-type-descriptor") _ refl)
  record-holds fs t form.RecordConstructorDescriptor place own on h = descriptor-holds t place constructor_word h (introduces.words (codes "record-constructor-descriptor") _ refl)
  record-holds fs t _ place own on h = tt
