-- What record forms stand for has the leaves of the form, and those that such forms introduce.
use Rattle.std.proofs.Common.{ℕ, ◌+◌, Bool, List, [], ◌∷◌, ◌++◌, Option, None, Some, Ok, Err, codes}
use Rattle.base_data.proofs.ElementLemmas.{each-and}
use Rattle.base_data.specs.Elements.{Each}
use Rattle.base_data.specs.Gives.{◌>>=◌}
use Rattle.base_data.specs.declared.span.Span.{Span}
use Rattle.stx_tree.specs.Context.{LeafContext, blank}
use Rattle.stx_tree.specs.Leaves.{context_of}
use Rattle.stx_tree.specs.Tree.{Tree, atom, leaf, pair, vector, list_of, vector_of}
use Rattle.stx_frames.specs.Scope.{Scope}
use Rattle.core_language.specs.declared.core_form.CoreForm.{CoreForm}
use Rattle.core_language.specs.declared.core_form.CoreForm.TheVariants as form
use Rattle.core_shapes.specs.Lists.{is_leaf, proper_elements, if_some, all_of}
use Rattle.core_records.specs.Clauses.{keyword_of, fixed_field, immutable_field, mutable_field, field_by, field_in, field_of, fields_clause, parent_clause, parent_rtd_clause, protocol_clause, only_truth, sealed_clause, opaque_clause, nongenerative_clause, clause_by, clause_in, clause_of, no_clauses, if_free, with_clause, or_bad, next_clause, all_clauses}
use Rattle.core_records.specs.Definitions.{FormRow, rtd, rcd, type_word, constructor_word, definition, definition_by, mutability, field_entry, field_entries, or_no_fields, fields_part, type_in, parent_type, uid_in, uid_part, or_false, type_operator, type_made, type_value, constructor_in, parent_constructor, protocol_part, constructor_operator, constructor_made, constructor_value, keyword_clause, keyword_body, keyword_value, keyword_definition, constructor_definition, predicate_definition, place_in, accessor_operator, accessor_value, accessor_definition, mutator_operator, mutator_value, mutator_definition, with_mutator, with_field, with_fields, first_definitions, definitions}
use Rattle.core_records.specs.Forms.{at_form, only_id, descriptor_form, definitions_for, named_form, defining_form, record_forms}
use Rattle.core_records.specs.Introduced.{core_stamp, introduced, plain, boolean, Made, list_made, list_of_two, list_of_three, vector_made, quoted}
use Rattle.core_records.specs.Names.{like, made_names, given_names, names_of}
use Rattle.core_records.specs.declared.clause.Clauses.{Clauses}
use Rattle.core_records.specs.declared.clause.Field.{Field}
use Rattle.core_records.specs.declared.clause.Parent.{Parent}
use Rattle.core_records.specs.declared.clause.Parent.TheVariants as parents
use Rattle.core_records.specs.declared.clause.RecordClause.{RecordClause}
use Rattle.core_records.specs.declared.clause.RecordClause.TheVariants as clause
use Rattle.core_records.specs.declared.clause.Uid.{Uid}
use Rattle.core_records.specs.declared.clause.Uid.TheVariants as uid
use Rattle.core_records.specs.declared.names.RecordNames.{RecordNames}
use Rattle.law_fresh.specs.Leaves.{TreeHolds}
use Rattle.law_fresh.specs.Leaves.{OptionHolds}
use Rattle.law_fresh.proofs.Trees.{OkHolds, list_of_holds, vector_of_holds, within_holds}
use Rattle.law_fresh_expansion.proofs.Shapes.{then-holds, some-holds, if-holds, all-of-holds, proper-holds}

module _ (P : LeafContext → Type 0) (written : P blank) (by_records : P (record { marks = []; stamps = core_stamp ∷ [] })) where
  abbrev T : Tree → Type 0
  T t = TreeHolds P t

  abbrev Ts : List Tree → Type 0
  Ts ts = Each T ts

  abbrev Good : Made → Type 0
  Good m = OkHolds T m

  -- what is no leaf counts as one that was read
  context-holds : (t : Tree) → T t → P (context_of t)
  context-holds (atom s a) h = written
  context-holds (leaf s x c) h = h
  context-holds (pair s a d) h = written
  context-holds (vector s d) h = written

  like-holds : (id : Tree) (x : List ℕ) → T id → T (like id x)
  like-holds id x h = context-holds id h

  list-good : (ts : List Tree) → Ts ts → Good (list_made ts)
  list-good ts h = within_holds P (list_of ts None) (list_of_holds P ts None h tt)

  vector-good : (ts : List Tree) → Ts ts → Good (vector_made ts)
  vector-good ts h = within_holds P (vector_of ts) (vector_of_holds P ts h)

  two-good : (t u : Tree) → T t → T u → Good (list_of_two t u)
  two-good t u h k = list-good (t ∷ (u ∷ [])) (h, (k, tt))

  three-good : (t u v : Tree) → T t → T u → T v → Good (list_of_three t u v)
  three-good t u v h k j = list-good (t ∷ (u ∷ (v ∷ []))) (h, (k, (j, tt)))

  quoted-good : (t : Tree) → T t → Good (quoted t)
  quoted-good t h = two-good (introduced (codes "quote")) t by_records h

  -- what comes of a tree that is made
  next-good : (m : Made) (k : Tree → Made) → Good m → ((t : Tree) → T t → Good (k t)) → Good (m >>= k)
  next-good m k h next = then-holds T T m k h next

  -- Clauses.

  abbrev FieldHolds : Field → Type 0
  FieldHolds f = T f.id × (T f.accessor × OptionHolds T f.mutator)

  abbrev ParentHolds : Parent → Type 0
  ParentHolds (parents.Named id) = T id
  ParentHolds (parents.Descriptors r c) = T r × T c

  abbrev UidHolds : Uid → Type 0
  UidHolds uid.Generated = Unit {0}
  UidHolds (uid.Given id) = T id

  abbrev ClauseHolds : RecordClause → Type 0
  ClauseHolds (clause.Fields xs) = Each FieldHolds xs
  ClauseHolds (clause.Parent p) = ParentHolds p
  ClauseHolds (clause.Protocol e) = T e
  ClauseHolds (clause.Sealed b) = Unit {0}
  ClauseHolds (clause.Opaque b) = Unit {0}
  ClauseHolds (clause.Nongenerative u) = UidHolds u

  record ClausesHold (cs : Clauses) : Type 0 where
    fields : OptionHolds (Each FieldHolds) cs.fields
    parent : OptionHolds ParentHolds cs.parent
    protocol : OptionHolds T cs.protocol
    nongenerative : OptionHolds UidHolds cs.nongenerative

  abbrev NamesHold : RecordNames → Type 0
  NamesHold n = T n.name × (T n.constructor × T n.predicate)

  fixed-holds : (name id : Tree) → T name → T id → FieldHolds (fixed_field name id)
  fixed-holds name id h k = (k, (like-holds name [] h, tt))

  immutable-holds : (name : Tree) (ts : List Tree) → T name → Ts ts → OptionHolds FieldHolds (immutable_field name ts)
  unfolding immutable_field
  immutable-holds name [] h k = tt
  immutable-holds name (id ∷ []) h k = if-holds FieldHolds (is_leaf id) _ None (fixed-holds name id h k.0) tt
  immutable-holds name (id ∷ (get ∷ [])) h k = if-holds FieldHolds (is_leaf id) _ None (if-holds FieldHolds (is_leaf get) _ None (k.0, (k.1.0, tt)) tt) tt
  immutable-holds name (id ∷ (get ∷ (x ∷ ts))) h k = tt

  mutable-holds : (name : Tree) (ts : List Tree) → T name → Ts ts → OptionHolds FieldHolds (mutable_field name ts)
  unfolding mutable_field
  mutable-holds name [] h k = tt
  mutable-holds name (id ∷ []) h k = if-holds FieldHolds (is_leaf id) _ None (k.0, (like-holds name [] h, like-holds name [] h)) tt
  mutable-holds name (id ∷ (get ∷ [])) h k = tt
  mutable-holds name (id ∷ (get ∷ (put ∷ []))) h k =
      if-holds FieldHolds (is_leaf id) _ None (if-holds FieldHolds (is_leaf get) _ None (if-holds FieldHolds (is_leaf put) _ None (k.0, (k.1.0, k.1.1.0)) tt) tt) tt
  mutable-holds name (id ∷ (get ∷ (put ∷ (x ∷ ts)))) h k = tt

  field-by-holds : (name : Tree) (ts : List Tree) (f : CoreForm) → T name → Ts ts → OptionHolds FieldHolds (field_by name ts f)
  field-by-holds name ts form.Immutable h k = immutable-holds name ts h k
  field-by-holds name ts form.Mutable h k = mutable-holds name ts h k
  field-by-holds name ts _ h k = tt

  any-holds : {A : Type 0} (o : Option A) → OptionHolds (λ x. Unit {0}) o
  any-holds None = tt
  any-holds (Some x) = tt

  field-in-holds : (fs : Scope) (name : Tree) (ts : List Tree) → T name → Ts ts → OptionHolds FieldHolds (field_in fs name ts)
  field-in-holds fs name [] h k = tt
  field-in-holds fs name (head ∷ ts) h k = some-holds (λ (f : CoreForm). Unit {0}) FieldHolds (keyword_of fs head) (field_by name ts) (any-holds (keyword_of fs head)) (λ f j. field-by-holds name ts f h k.1)

  field-holds : (fs : Scope) (name t : Tree) → T name → T t → OptionHolds FieldHolds (field_of fs name t)
  unfolding field_of
  field-holds fs name t h k =
      if-holds FieldHolds (is_leaf t) (Some (fixed_field name t)) (if_some (proper_elements t) (field_in fs name)) (fixed-holds name t h k)
      (some-holds Ts FieldHolds (proper_elements t) (field_in fs name) (proper-holds P t k) (λ ts j. field-in-holds fs name ts h j))

  fields-holds : (fs : Scope) (name : Tree) (ts : List Tree) → T name → Ts ts → OptionHolds ClauseHolds (fields_clause fs name ts)
  unfolding fields_clause
  fields-holds fs name ts h k = some-holds (Each FieldHolds) ClauseHolds (all_of (field_of fs name) [] ts) (λ xs. Some (clause.Fields xs)) (all-of-holds T FieldHolds (field_of fs name) (λ t j. field-holds fs name t h j) [] ts tt k) (λ xs j. j)

  parent-holds : (ts : List Tree) → Ts ts → OptionHolds ClauseHolds (parent_clause ts)
  unfolding parent_clause
  parent-holds [] h = tt
  parent-holds (id ∷ []) h = if-holds ClauseHolds (is_leaf id) _ None h.0 tt
  parent-holds (id ∷ (x ∷ ts)) h = tt

  parent-rtd-holds : (ts : List Tree) → Ts ts → OptionHolds ClauseHolds (parent_rtd_clause ts)
  unfolding parent_rtd_clause
  parent-rtd-holds [] h = tt
  parent-rtd-holds (r ∷ []) h = tt
  parent-rtd-holds (r ∷ (c ∷ [])) h = (h.0, h.1.0)
  parent-rtd-holds (r ∷ (c ∷ (x ∷ ts))) h = tt

  protocol-holds : (ts : List Tree) → Ts ts → OptionHolds ClauseHolds (protocol_clause ts)
  unfolding protocol_clause
  protocol-holds [] h = tt
  protocol-holds (e ∷ []) h = h.0
  protocol-holds (e ∷ (x ∷ ts)) h = tt

  sealed-holds : (ts : List Tree) → OptionHolds ClauseHolds (sealed_clause ts)
  unfolding sealed_clause
  sealed-holds ts = some-holds (λ (b : Bool). Unit {0}) ClauseHolds (only_truth ts) (λ b. Some (clause.Sealed b)) (any-holds (only_truth ts)) (λ b j. tt)

  opaque-holds : (ts : List Tree) → OptionHolds ClauseHolds (opaque_clause ts)
  unfolding opaque_clause
  opaque-holds ts = some-holds (λ (b : Bool). Unit {0}) ClauseHolds (only_truth ts) (λ b. Some (clause.Opaque b)) (any-holds (only_truth ts)) (λ b j. tt)

  nongenerative-holds : (ts : List Tree) → Ts ts → OptionHolds ClauseHolds (nongenerative_clause ts)
  unfolding nongenerative_clause
  nongenerative-holds [] h = tt
  nongenerative-holds (id ∷ []) h = if-holds ClauseHolds (is_leaf id) _ None h.0 tt
  nongenerative-holds (id ∷ (x ∷ ts)) h = tt

  clause-by-holds : (fs : Scope) (name : Tree) (ts : List Tree) (f : CoreForm) → T name → Ts ts → OptionHolds ClauseHolds (clause_by fs name ts f)
  clause-by-holds fs name ts form.Fields h k = fields-holds fs name ts h k
  clause-by-holds fs name ts form.Parent h k = parent-holds ts k
  clause-by-holds fs name ts form.ParentRtd h k = parent-rtd-holds ts k
  clause-by-holds fs name ts form.Protocol h k = protocol-holds ts k
  clause-by-holds fs name ts form.Sealed h k = sealed-holds ts
  clause-by-holds fs name ts form.Opaque h k = opaque-holds ts
  clause-by-holds fs name ts form.Nongenerative h k = nongenerative-holds ts k
  clause-by-holds fs name ts _ h k = tt

  clause-in-holds : (fs : Scope) (name : Tree) (ts : List Tree) → T name → Ts ts → OptionHolds ClauseHolds (clause_in fs name ts)
  clause-in-holds fs name [] h k = tt
  clause-in-holds fs name (head ∷ ts) h k = some-holds (λ (f : CoreForm). Unit {0}) ClauseHolds (keyword_of fs head) (clause_by fs name ts) (any-holds (keyword_of fs head)) (λ f j. clause-by-holds fs name ts f h k.1)

  clause-holds : (fs : Scope) (name t : Tree) → T name → T t → OptionHolds ClauseHolds (clause_of fs name t)
  unfolding clause_of
  clause-holds fs name t h k = some-holds Ts ClauseHolds (proper_elements t) (clause_in fs name) (proper-holds P t k) (λ ts j. clause-in-holds fs name ts h j)

  free-holds : {A B : Type 0} (Q : B → Type 0) (o : Option A) (x : B) → Q x → OptionHolds Q (if_free o x)
  free-holds Q None x h = h
  free-holds Q (Some y) x h = tt

  with-clause-holds : (cs : Clauses) (x : RecordClause) → ClausesHold cs → ClauseHolds x → OptionHolds ClausesHold (with_clause cs x)
  unfolding with_clause
  with-clause-holds cs (clause.Fields xs) h k = free-holds ClausesHold cs.fields (record cs { fields = Some xs }) (record { fields = k; parent = h.parent; protocol = h.protocol; nongenerative = h.nongenerative })
  with-clause-holds cs (clause.Parent p) h k = free-holds ClausesHold cs.parent (record cs { parent = Some p }) (record { fields = h.fields; parent = k; protocol = h.protocol; nongenerative = h.nongenerative })
  with-clause-holds cs (clause.Protocol e) h k = free-holds ClausesHold cs.protocol (record cs { protocol = Some e }) (record { fields = h.fields; parent = h.parent; protocol = k; nongenerative = h.nongenerative })
  with-clause-holds cs (clause.Sealed b) h k = free-holds ClausesHold cs.sealed (record cs { sealed = Some b }) (record { fields = h.fields; parent = h.parent; protocol = h.protocol; nongenerative = h.nongenerative })
  with-clause-holds cs (clause.Opaque b) h k = free-holds ClausesHold cs.opaque (record cs { opaque = Some b }) (record { fields = h.fields; parent = h.parent; protocol = h.protocol; nongenerative = h.nongenerative })
  with-clause-holds cs (clause.Nongenerative u) h k = free-holds ClausesHold cs.nongenerative (record cs { nongenerative = Some u }) (record { fields = h.fields; parent = h.parent; protocol = h.protocol; nongenerative = k })

  bad-holds : {A : Type 0} (Q : A → Type 0) (t : Tree) (place : Span) (o : Option A) → OptionHolds Q o → OkHolds Q (or_bad t place o)
  bad-holds Q t place None h = tt
  bad-holds Q t place (Some x) h = h

  next-holds : (fs : Scope) (name : Tree) (place : Span) (cs : Clauses) (t : Tree) → T name → ClausesHold cs → T t → OkHolds ClausesHold (next_clause fs name place cs t)
  unfolding next_clause
  next-holds fs name place cs t g h k = bad-holds ClausesHold t place (if_some (clause_of fs name t) (with_clause cs)) (some-holds ClauseHolds ClausesHold (clause_of fs name t) (with_clause cs) (clause-holds fs name t g k) (λ x j. with-clause-holds cs x h j))

  clauses-hold : (fs : Scope) (name : Tree) (place : Span) (cs : Clauses) (ts : List Tree) → T name → ClausesHold cs → Ts ts → OkHolds ClausesHold (all_clauses fs name place cs ts)
  clauses-hold fs name place cs [] g h k = h
  clauses-hold fs name place cs (t ∷ ts) g h k = then-holds ClausesHold ClausesHold (next_clause fs name place cs t) (λ ds. all_clauses fs name place ds ts) (next-holds fs name place cs t g h k.0) (λ ds j. clauses-hold fs name place ds ts g j k.1)

  -- Definitions.

  abbrev RowGood : FormRow → Type 0
  RowGood r = OkHolds Ts r

  definition-good : (id value : Tree) → T id → T value → Good (definition id value)
  definition-good id value h k = three-good (introduced (codes "define")) id value by_records h k

  by-good : (id : Tree) (m : Made) → T id → Good m → Good (definition_by id m)
  by-good id m h k = next-good m (definition id) k (λ t j. definition-good id t h j)

  mutability-holds : (o : Option Tree) → T (mutability o)
  mutability-holds None = by_records
  mutability-holds (Some put) = by_records

  entry-good : (f : Field) → FieldHolds f → Good (field_entry f)
  entry-good f h = two-good (mutability f.mutator) f.id (mutability-holds f.mutator) h.0

  entries-good : (done : List Tree) (fs : List Field) → Ts done → Each FieldHolds fs → RowGood (field_entries done fs)
  entries-good done [] h k = h
  entries-good done (f ∷ fs) h k = then-holds T Ts (field_entry f) (λ t. field_entries (done ++ t ∷ []) fs) (entry-good f k.0) (λ t j. entries-good (done ++ t ∷ []) fs (each-and T done t h j) k.1)

  no-fields : (o : Option (List Field)) → OptionHolds (Each FieldHolds) o → Each FieldHolds (or_no_fields o)
  no-fields None h = tt
  no-fields (Some fs) h = h

  fields-part-good : (o : Option (List Field)) → OptionHolds (Each FieldHolds) o → Good (fields_part o)
  unfolding fields_part
  fields-part-good o h =
      next-good (field_entries [] (or_no_fields o) >>= vector_made) quoted (then-holds Ts T (field_entries [] (or_no_fields o)) vector_made (entries-good [] (or_no_fields o) tt (no-fields o h)) vector-good) quoted-good

  type-in-good : (p : Parent) → ParentHolds p → Good (type_in p)
  type-in-good (parents.Named id) h = two-good id type_word h by_records
  type-in-good (parents.Descriptors r c) h = h.0

  parent-type-good : (o : Option Parent) → OptionHolds ParentHolds o → Good (parent_type o)
  unfolding parent_type
  parent-type-good None h = tt
  parent-type-good (Some p) h = type-in-good p h

  uid-in-good : (own : List ℕ) (u : Uid) → UidHolds u → Good (uid_in own u)
  uid-in-good own uid.Generated h = quoted-good (introduced own) by_records
  uid-in-good own (uid.Given id) h = quoted-good id h

  uid-part-good : (own : List ℕ) (o : Option Uid) → OptionHolds UidHolds o → Good (uid_part own o)
  unfolding uid_part
  uid-part-good own None h = tt
  uid-part-good own (Some u) h = uid-in-good own u h

  type-operator-holds : T type_operator
  unfolding type_operator
  type-operator-holds = by_records

  type-value-good : (own : List ℕ) (names : RecordNames) (cs : Clauses) → NamesHold names → ClausesHold cs → Good (type_value own names cs)
  unfolding type_value
  type-value-good own names cs h k =
      next-good (quoted names.name) _ (quoted-good names.name h.0)
      (λ name a. next-good (parent_type cs.parent) _ (parent-type-good cs.parent k.parent)
      (λ parent b. next-good (uid_part own cs.nongenerative) _ (uid-part-good own cs.nongenerative k.nongenerative)
      (λ u c. next-good (fields_part cs.fields) (type_made cs name parent u) (fields-part-good cs.fields k.fields)
      (λ fields d. list-good (type_operator ∷ (name ∷ (parent ∷ (u ∷ (boolean (or_false cs.sealed) ∷ (boolean (or_false cs.opaque) ∷ (fields ∷ []))))))) (type-operator-holds, (a, (b, (c, (tt, (tt, (d, tt)))))))))))

  constructor-in-good : (p : Parent) → ParentHolds p → Good (constructor_in p)
  constructor-in-good (parents.Named id) h = two-good id constructor_word h by_records
  constructor-in-good (parents.Descriptors r c) h = h.1

  parent-constructor-good : (o : Option Parent) → OptionHolds ParentHolds o → Good (parent_constructor o)
  unfolding parent_constructor
  parent-constructor-good None h = tt
  parent-constructor-good (Some p) h = constructor-in-good p h

  protocol-part-holds : (o : Option Tree) → OptionHolds T o → T (protocol_part o)
  unfolding protocol_part
  protocol-part-holds None h = tt
  protocol-part-holds (Some e) h = h

  constructor-operator-holds : T constructor_operator
  unfolding constructor_operator
  constructor-operator-holds = by_records

  constructor-value-good : (cs : Clauses) → ClausesHold cs → Good (constructor_value cs)
  unfolding constructor_value
  constructor-value-good cs k =
      next-good (parent_constructor cs.parent) (λ parent. constructor_made parent (protocol_part cs.protocol)) (parent-constructor-good cs.parent k.parent)
      (λ parent a. list-good (constructor_operator ∷ (rtd ∷ (parent ∷ (protocol_part cs.protocol ∷ [])))) (constructor-operator-holds, (written, (a, (protocol-part-holds cs.protocol k.protocol, tt)))))

  keyword-clause-good : (word value : Tree) → T word → T value → Good (keyword_clause word value)
  unfolding keyword_clause
  keyword-clause-good word value h k =
      next-good (list_of_two (introduced (codes "_")) word) _ (two-good (introduced (codes "_")) word by_records h)
      (λ p a. next-good (list_of_two (introduced (codes "syntax")) value) (λ output. list_of_two p output) (two-good (introduced (codes "syntax")) value by_records k) (λ o b. two-good p o a b))

  keyword-body-good : (x : Tree) → T x → Good (keyword_body x)
  unfolding keyword_body
  keyword-body-good x h =
      next-good (list_of_two type_word constructor_word) _ (two-good type_word constructor_word by_records by_records)
      (λ words a. next-good (keyword_clause type_word rtd) _ (keyword-clause-good type_word rtd by_records written)
      (λ first b. next-good (keyword_clause constructor_word rcd) _ (keyword-clause-good constructor_word rcd by_records written)
      (λ second c. list-good (introduced (codes "syntax-case") ∷ (x ∷ (words ∷ (first ∷ (second ∷ []))))) (by_records, (h, (a, (b, (c, tt))))))))

  keyword-value-good : (x : Tree) → T x → Good (keyword_value x)
  unfolding keyword_value
  keyword-value-good x h =
      next-good (list_made (x ∷ [])) _ (list-good (x ∷ []) (h, tt))
      (λ formals a. next-good (keyword_body x) _ (keyword-body-good x h) (λ body b. three-good (introduced (codes "lambda")) formals body by_records a b))

  keyword-definition-good : (name : Tree) → T name → Good (keyword_definition name)
  keyword-definition-good name h =
      next-good (keyword_value (plain (codes "x"))) (λ value. list_of_three (introduced (codes "define-syntax")) name value) (keyword-value-good (plain (codes "x")) written) (λ value a. three-good (introduced (codes "define-syntax")) name value by_records h a)

  constructor-definition-good : (id : Tree) → T id → Good (constructor_definition id)
  constructor-definition-good id h = by-good id (list_of_two (introduced (codes "record-constructor")) rcd) h (two-good (introduced (codes "record-constructor")) rcd by_records written)

  predicate-definition-good : (id : Tree) → T id → Good (predicate_definition id)
  predicate-definition-good id h = by-good id (list_of_two (introduced (codes "record-predicate")) rtd) h (two-good (introduced (codes "record-predicate")) rtd by_records written)

  accessor-operator-holds : T accessor_operator
  unfolding accessor_operator
  accessor-operator-holds = by_records

  accessor-value-good : (k : ℕ) → Good (accessor_value k)
  unfolding accessor_value
  accessor-value-good k = three-good accessor_operator rtd (place_in k) accessor-operator-holds written tt

  accessor-good : (k : ℕ) (id : Tree) → T id → Good (accessor_definition k id)
  accessor-good k id h = by-good id (accessor_value k) h (accessor-value-good k)

  mutator-operator-holds : T mutator_operator
  unfolding mutator_operator
  mutator-operator-holds = by_records

  mutator-value-good : (k : ℕ) → Good (mutator_value k)
  unfolding mutator_value
  mutator-value-good k = three-good mutator_operator rtd (place_in k) mutator-operator-holds written tt

  mutator-good : (k : ℕ) (id : Tree) → T id → Good (mutator_definition k id)
  mutator-good k id h = by-good id (mutator_value k) h (mutator-value-good k)

  with-mutator-good : (k : ℕ) (done : List Tree) (o : Option Tree) → Ts done → OptionHolds T o → RowGood (with_mutator k done o)
  with-mutator-good k done None h j = h
  with-mutator-good k done (Some put) h j = then-holds T Ts (mutator_definition k put) (λ t. Ok (done ++ t ∷ [])) (mutator-good k put j) (λ t g. each-and T done t h g)

  with-field-good : (k : ℕ) (done : List Tree) (f : Field) → Ts done → FieldHolds f → RowGood (with_field k done f)
  with-field-good k done f h j =
      then-holds T Ts (accessor_definition k f.accessor) (λ t. with_mutator k (done ++ t ∷ []) f.mutator) (accessor-good k f.accessor j.1.0) (λ t g. with-mutator-good k (done ++ t ∷ []) f.mutator (each-and T done t h g) j.1.1)

  with-fields-good : (k : ℕ) (done : List Tree) (fs : List Field) → Ts done → Each FieldHolds fs → RowGood (with_fields k done fs)
  with-fields-good k done [] h j = h
  with-fields-good k done (f ∷ fs) h j = then-holds Ts Ts (with_field k done f) (λ ts. with_fields (k + 1) ts fs) (with-field-good k done f h j.0) (λ ts g. with-fields-good (k + 1) ts fs g j.1)

  first-good : (own : List ℕ) (names : RecordNames) (cs : Clauses) → NamesHold names → ClausesHold cs → RowGood (first_definitions own names cs)
  unfolding first_definitions
  first-good own names cs h k =
      then-holds T Ts (definition_by rtd (type_value own names cs)) _ (by-good rtd (type_value own names cs) written (type-value-good own names cs h k))
      (λ a p. then-holds T Ts (definition_by rcd (constructor_value cs)) _ (by-good rcd (constructor_value cs) written (constructor-value-good cs k))
      (λ b q. then-holds T Ts (keyword_definition names.name) _ (keyword-definition-good names.name h.0)
      (λ c r. then-holds T Ts (constructor_definition names.constructor) _ (constructor-definition-good names.constructor h.1.0)
      (λ d s. then-holds T Ts (predicate_definition names.predicate) _ (predicate-definition-good names.predicate h.1.1)
      (λ e t. (by_records, (p, (q, (r, (s, (t, tt)))))))))))

  definitions-good : (own : List ℕ) (names : RecordNames) (cs : Clauses) → NamesHold names → ClausesHold cs → Good (definitions own names cs)
  unfolding definitions
  definitions-good own names cs h k =
      then-holds Ts T (first_definitions own names cs >>= (λ ts. with_fields 0 ts (or_no_fields cs.fields))) list_made
      (then-holds Ts Ts (first_definitions own names cs) (λ ts. with_fields 0 ts (or_no_fields cs.fields)) (first-good own names cs h k) (λ ts j. with-fields-good 0 ts (or_no_fields cs.fields) j (no-fields cs.fields k.fields))) list-good

  -- Forms.

  at-form-holds : (t : Tree) (place : Span) (m : Made) → Good m → OkHolds T (at_form t place m)
  at-form-holds t place (Ok u) h = h
  at-form-holds t place (Err b) h = tt

  given-names-hold : (ts : List Tree) → Ts ts → OptionHolds NamesHold (given_names ts)
  given-names-hold [] h = tt
  given-names-hold (a ∷ []) h = tt
  given-names-hold (a ∷ (b ∷ [])) h = tt
  given-names-hold (a ∷ (b ∷ (c ∷ []))) h = if-holds NamesHold (is_leaf a) _ None (if-holds NamesHold (is_leaf b) _ None (if-holds NamesHold (is_leaf c) _ None (h.0, (h.1.0, h.1.1.0)) tt) tt) tt
  given-names-hold (a ∷ (b ∷ (c ∷ (d ∷ ts)))) h = tt

  names-hold : (t : Tree) → T t → OptionHolds NamesHold (names_of t)
  unfolding names_of
  names-hold t h =
      if-holds NamesHold (is_leaf t) (Some (made_names t)) (if_some (proper_elements t) given_names) (h, (like-holds t [] h, like-holds t [] h))
      (some-holds Ts NamesHold (proper_elements t) given_names (proper-holds P t h) given-names-hold)

  only-id-holds : (ts : List Tree) → Ts ts → OptionHolds T (only_id ts)
  only-id-holds [] h = tt
  only-id-holds (a ∷ []) h = tt
  only-id-holds (a ∷ (id ∷ [])) h = if-holds T (is_leaf id) (Some id) None h.1.0 tt
  only-id-holds (a ∷ (id ∷ (x ∷ ts))) h = tt

  descriptor-holds : (t : Tree) (place : Span) (word : Tree) → T t → T word → OkHolds T (descriptor_form t place word)
  unfolding descriptor_form
  descriptor-holds t place word h k =
      then-holds T T (or_bad t place (if_some (proper_elements t) only_id)) (λ id. at_form t place (list_of_two id word))
      (bad-holds T t place (if_some (proper_elements t) only_id) (some-holds Ts T (proper_elements t) only_id (proper-holds P t h) only-id-holds)) (λ id j. at-form-holds t place (list_of_two id word) (two-good id word j k))

  none-hold : ClausesHold no_clauses
  none-hold = record { fields = tt; parent = tt; protocol = tt; nongenerative = tt }

  definitions-for-holds : (fs : Scope) (t : Tree) (place : Span) (own : List ℕ) (names : RecordNames) (ts : List Tree) → NamesHold names → Ts ts → OkHolds T (definitions_for fs t place own names ts)
  unfolding definitions_for
  definitions-for-holds fs t place own names ts h k =
      then-holds ClausesHold T (all_clauses fs names.name place no_clauses ts) (λ cs. at_form t place (definitions own names cs)) (clauses-hold fs names.name place no_clauses ts h.0 none-hold k)
      (λ cs j. at-form-holds t place (definitions own names cs) (definitions-good own names cs h j))

  named-holds : (fs : Scope) (t : Tree) (place : Span) (own : List ℕ) (spec : Tree) (ts : List Tree) → T spec → Ts ts → OkHolds T (named_form fs t place own spec ts)
  unfolding named_form
  named-holds fs t place own spec ts h k =
      then-holds NamesHold T (or_bad t place (names_of spec)) (λ names. definitions_for fs t place own names ts) (bad-holds NamesHold t place (names_of spec) (names-hold spec h)) (λ names j. definitions-for-holds fs t place own names ts j k)

  defining-holds : (fs : Scope) (t : Tree) (place : Span) (own : List ℕ) (o : Option (List Tree)) → OptionHolds Ts o → OkHolds T (defining_form fs t place own o)
  defining-holds fs t place own None h = tt
  defining-holds fs t place own (Some []) h = tt
  defining-holds fs t place own (Some (a ∷ [])) h = tt
  defining-holds fs t place own (Some (a ∷ (spec ∷ ts))) h = named-holds fs t place own spec ts h.1.0 h.1.1

  pub record-holds : (fs : Scope) (t : Tree) (f : CoreForm) (place : Span) (own : List ℕ) → T t → OkHolds T (record_forms fs t f place own)
  unfolding record_forms
  record-holds fs t form.DefineRecordType place own h = defining-holds fs t place own (proper_elements t) (proper-holds P t h)
  record-holds fs t form.RecordTypeDescriptor place own h = descriptor-holds t place type_word h by_records
  record-holds fs t form.RecordConstructorDescriptor place own h = descriptor-holds t place constructor_word h by_records
  record-holds fs t _ place own h = tt
