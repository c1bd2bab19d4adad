-- No record form is refused for cells that don't fit.
use Rattle.std.proofs.Common.{ℕ, ◌+◌, List, [], ◌∷◌, ◌++◌, Option, None, Some, Ok, Err}
use Rattle.std.specs.Prelude.{codes}
use Rattle.base_data.specs.Gives.{◌>>=◌}
use Rattle.base_data.specs.declared.span.Span.{Span}
use Rattle.stx_tree.specs.Tree.{Tree, list_of, vector_of}
use Rattle.stx_frames.specs.Scope.{Scope}
use Rattle.core_language.specs.declared.core_form.CoreForm.{CoreForm}
use Rattle.core_language.specs.declared.core_form.CoreForm.TheVariants as form
use Rattle.core_shapes.specs.Lists.{proper_elements, if_some}
use Rattle.core_records.specs.Clauses.{or_bad, no_clauses, clause_of, with_clause, next_clause, all_clauses}
use Rattle.core_records.specs.Forms.{at_form, only_id, descriptor_form, definitions_for, named_form, defining_form, record_forms}
use Rattle.core_records.specs.Introduced.{Made, boolean, introduced, plain, list_made, list_of_two, vector_made, quoted}
use Rattle.core_records.specs.Names.{names_of}
use Rattle.core_records.specs.declared.clause.Clauses.{Clauses}
use Rattle.core_records.specs.declared.clause.Field.{Field}
use Rattle.core_records.specs.declared.clause.Parent.{Parent}
use Rattle.core_records.specs.declared.clause.Parent.TheVariants as parents
use Rattle.core_records.specs.declared.clause.Uid.{Uid}
use Rattle.core_records.specs.declared.clause.Uid.TheVariants as uid
use Rattle.core_records.specs.declared.names.RecordNames.{RecordNames}
use Rattle.law_stuck.proofs.Refusals.{Tells, tells-then, tells-within}
use Rattle.law_steady.proofs.Says.{Says, says-then}
use Rattle.core_records.specs.Definitions as defines

-- Definitions.

tells-list : (ts : List Tree) → Tells (list_made ts)
tells-list ts = tells-within (list_of ts None)

tells-by : (id : Tree) (r : Made) → Tells r → Tells (defines.definition_by id r)
tells-by id r h = tells-then r (defines.definition id) h (λ v. tells-list (introduced (codes "define") ∷ id ∷ v ∷ []))

tells-entries : (done : List Tree) (fs : List Field) → Tells (defines.field_entries done fs)
tells-entries done [] = tt
tells-entries done (f ∷ fs) = tells-then (defines.field_entry f) (λ t. defines.field_entries (done ++ t ∷ []) fs) (tells-list (defines.mutability f.mutator ∷ f.id ∷ [])) (λ t. tells-entries (done ++ t ∷ []) fs)

tells-fields : (o : Option (List Field)) → Tells (defines.fields_part o)
unfolding defines.fields_part
tells-fields o =
    tells-then (defines.field_entries [] (defines.or_no_fields o) >>= vector_made) quoted
    (tells-then (defines.field_entries [] (defines.or_no_fields o)) vector_made (tells-entries [] (defines.or_no_fields o)) (λ ts. tells-within (vector_of ts))) (λ t. tells-list (introduced (codes "quote") ∷ t ∷ []))

tells-type_in : (p : Parent) → Tells (defines.type_in p)
tells-type_in (parents.Named id) = tells-list (id ∷ defines.type_word ∷ [])
tells-type_in (parents.Descriptors r c) = tt

tells-parent : (o : Option Parent) → Tells (defines.parent_type o)
unfolding defines.parent_type
tells-parent None = tt
tells-parent (Some p) = tells-type_in p

tells-uid_in : (own : List ℕ) (u : Uid) → Tells (defines.uid_in own u)
tells-uid_in own uid.Generated = tells-list (introduced (codes "quote") ∷ introduced own ∷ [])
tells-uid_in own (uid.Given id) = tells-list (introduced (codes "quote") ∷ id ∷ [])

tells-uid : (own : List ℕ) (o : Option Uid) → Tells (defines.uid_part own o)
unfolding defines.uid_part
tells-uid own None = tt
tells-uid own (Some u) = tells-uid_in own u

tells-type : (own : List ℕ) (names : RecordNames) (cs : Clauses) → Tells (defines.type_value own names cs)
unfolding defines.type_value
tells-type own names cs =
    tells-then (quoted names.name) _ (tells-list (introduced (codes "quote") ∷ names.name ∷ []))
    (λ name. tells-then (defines.parent_type cs.parent) _ (tells-parent cs.parent)
    (λ parent. tells-then (defines.uid_part own cs.nongenerative) _ (tells-uid own cs.nongenerative)
    (λ u. tells-then (defines.fields_part cs.fields) _ (tells-fields cs.fields) (λ t. tells-list (defines.type_operator ∷ name ∷ parent ∷ u ∷ boolean (defines.or_false cs.sealed) ∷ boolean (defines.or_false cs.opaque) ∷ t ∷ [])))))

tells-constructor_in : (p : Parent) → Tells (defines.constructor_in p)
tells-constructor_in (parents.Named id) = tells-list (id ∷ defines.constructor_word ∷ [])
tells-constructor_in (parents.Descriptors r c) = tt

tells-parent_constructor : (o : Option Parent) → Tells (defines.parent_constructor o)
unfolding defines.parent_constructor
tells-parent_constructor None = tt
tells-parent_constructor (Some p) = tells-constructor_in p

tells-constructor : (cs : Clauses) → Tells (defines.constructor_value cs)
unfolding defines.constructor_value
tells-constructor cs = tells-then (defines.parent_constructor cs.parent) _ (tells-parent_constructor cs.parent) (λ p. tells-list (defines.constructor_operator ∷ defines.rtd ∷ p ∷ defines.protocol_part cs.protocol ∷ []))

tells-clause : (word v : Tree) → Tells (defines.keyword_clause word v)
unfolding defines.keyword_clause
tells-clause word v = tells-then (list_of_two (introduced _) word) _ (tells-list (introduced (codes "_") ∷ word ∷ [])) (λ p. tells-then (list_of_two (introduced _) v) _ (tells-list (introduced (codes "syntax") ∷ v ∷ [])) (λ o. tells-list (p ∷ o ∷ [])))

tells-body : (x : Tree) → Tells (defines.keyword_body x)
unfolding defines.keyword_body
tells-body x =
    tells-then (list_of_two defines.type_word defines.constructor_word) _ (tells-list (defines.type_word ∷ defines.constructor_word ∷ []))
    (λ words. tells-then (defines.keyword_clause defines.type_word defines.rtd) _ (tells-clause _ _) (λ a. tells-then (defines.keyword_clause defines.constructor_word defines.rcd) _ (tells-clause _ _) (λ b. tells-list (introduced (codes "syntax-case") ∷ x ∷ words ∷ a ∷ b ∷ []))))

tells-value : (x : Tree) → Tells (defines.keyword_value x)
unfolding defines.keyword_value
tells-value x = tells-then (list_made (x ∷ [])) _ (tells-list (x ∷ [])) (λ formals. tells-then (defines.keyword_body x) _ (tells-body x) (λ body. tells-list (introduced (codes "lambda") ∷ formals ∷ body ∷ [])))

tells-keyword : (name : Tree) → Tells (defines.keyword_definition name)
tells-keyword name = tells-then (defines.keyword_value (plain (codes "x"))) _ (tells-value (plain (codes "x"))) (λ v. tells-list (introduced (codes "define-syntax") ∷ name ∷ v ∷ []))

tells-accessor : (k : ℕ) → Tells (defines.accessor_value k)
unfolding defines.accessor_value
tells-accessor k = tells-list (defines.accessor_operator ∷ defines.rtd ∷ defines.place_in k ∷ [])

tells-mutator : (k : ℕ) → Tells (defines.mutator_value k)
unfolding defines.mutator_value
tells-mutator k = tells-list (defines.mutator_operator ∷ defines.rtd ∷ defines.place_in k ∷ [])

tells-with_mutator : (k : ℕ) (done : List Tree) (o : Option Tree) → Tells (defines.with_mutator k done o)
tells-with_mutator k done None = tt
tells-with_mutator k done (Some put) = tells-then (defines.mutator_definition k put) (λ t. Ok (done ++ t ∷ [])) (tells-by put (defines.mutator_value k) (tells-mutator k)) (λ t. tt)

tells-with_field : (k : ℕ) (done : List Tree) (f : Field) → Tells (defines.with_field k done f)
tells-with_field k done f =
    tells-then (defines.accessor_definition k f.accessor) (λ t. defines.with_mutator k (done ++ t ∷ []) f.mutator) (tells-by f.accessor (defines.accessor_value k) (tells-accessor k)) (λ t. tells-with_mutator k (done ++ t ∷ []) f.mutator)

tells-with_fields : (k : ℕ) (done : List Tree) (fs : List Field) → Tells (defines.with_fields k done fs)
tells-with_fields k done [] = tt
tells-with_fields k done (f ∷ fs) = tells-then (defines.with_field k done f) (λ ts. defines.with_fields (k + 1) ts fs) (tells-with_field k done f) (λ ts. tells-with_fields (k + 1) ts fs)

tells-first : (own : List ℕ) (names : RecordNames) (cs : Clauses) → Tells (defines.first_definitions own names cs)
unfolding defines.first_definitions
tells-first own names cs =
    tells-then (defines.definition_by defines.rtd (defines.type_value own names cs)) _ (tells-by defines.rtd (defines.type_value own names cs) (tells-type own names cs))
    (λ a. tells-then (defines.definition_by defines.rcd (defines.constructor_value cs)) _ (tells-by defines.rcd (defines.constructor_value cs) (tells-constructor cs))
    (λ b. tells-then (defines.keyword_definition names.name) _ (tells-keyword names.name)
    (λ c. tells-then (defines.constructor_definition names.constructor) _ (tells-by names.constructor (list_of_two (introduced (codes "record-constructor")) defines.rcd) (tells-list (introduced (codes "record-constructor") ∷ defines.rcd ∷ [])))
    (λ d. tells-then (defines.predicate_definition names.predicate) _ (tells-by names.predicate (list_of_two (introduced (codes "record-predicate")) defines.rtd) (tells-list (introduced (codes "record-predicate") ∷ defines.rtd ∷ []))) (λ e. tt)))))

tells-definitions : (own : List ℕ) (names : RecordNames) (cs : Clauses) → Tells (defines.definitions own names cs)
unfolding defines.definitions
tells-definitions own names cs =
    tells-then (defines.first_definitions own names cs >>= (λ ts. defines.with_fields 0 ts (defines.or_no_fields cs.fields))) list_made
    (tells-then (defines.first_definitions own names cs) (λ ts. defines.with_fields 0 ts (defines.or_no_fields cs.fields)) (tells-first own names cs) (λ ts. tells-with_fields 0 ts (defines.or_no_fields cs.fields))) (λ ts. tells-list ts)

-- Forms.

says-at : (t : Tree) (place : Span) (r : Made) → Tells r → Says (at_form t place r)
says-at t place (Ok u) h = tt
says-at t place (Err b) h = h

says-or_bad : {A : Type 0} (t : Tree) (place : Span) (o : Option A) → Says (or_bad t place o)
says-or_bad t place None = tt
says-or_bad t place (Some x) = tt

says-clause : (fs : Scope) (name : Tree) (place : Span) (cs : Clauses) (t : Tree) → Says (next_clause fs name place cs t)
unfolding next_clause
says-clause fs name place cs t = says-or_bad t place (if_some (clause_of fs name t) (with_clause cs))

says-clauses : (fs : Scope) (name : Tree) (place : Span) (cs : Clauses) (ts : List Tree) → Says (all_clauses fs name place cs ts)
says-clauses fs name place cs [] = tt
says-clauses fs name place cs (t ∷ ts) = says-then (next_clause fs name place cs t) (λ ds. all_clauses fs name place ds ts) (says-clause fs name place cs t) (λ ds. says-clauses fs name place ds ts)

says-descriptor : (t : Tree) (place : Span) (word : Tree) → Says (descriptor_form t place word)
unfolding descriptor_form
says-descriptor t place word =
    says-then (or_bad t place (if_some (proper_elements t) only_id)) (λ id. at_form t place (list_of_two id word)) (says-or_bad t place (if_some (proper_elements t) only_id)) (λ id. says-at t place (list_of_two id word) (tells-list (id ∷ word ∷ [])))

says-definitions : (fs : Scope) (t : Tree) (place : Span) (own : List ℕ) (names : RecordNames) (clauses : List Tree) → Says (definitions_for fs t place own names clauses)
unfolding definitions_for
says-definitions fs t place own names clauses =
    says-then (all_clauses fs names.name place no_clauses clauses) (λ cs. at_form t place (defines.definitions own names cs)) (says-clauses fs names.name place no_clauses clauses)
    (λ cs. says-at t place (defines.definitions own names cs) (tells-definitions own names cs))

says-named : (fs : Scope) (t : Tree) (place : Span) (own : List ℕ) (spec : Tree) (clauses : List Tree) → Says (named_form fs t place own spec clauses)
unfolding named_form
says-named fs t place own spec clauses =
    says-then (or_bad t place (names_of spec)) (λ names. definitions_for fs t place own names clauses) (says-or_bad t place (names_of spec)) (λ names. says-definitions fs t place own names clauses)

says-defining : (fs : Scope) (t : Tree) (place : Span) (own : List ℕ) (o : Option (List Tree)) → Says (defining_form fs t place own o)
says-defining fs t place own None = tt
says-defining fs t place own (Some []) = tt
says-defining fs t place own (Some (head ∷ [])) = tt
says-defining fs t place own (Some (head ∷ (spec ∷ clauses))) = says-named fs t place own spec clauses

pub says-records : (fs : Scope) (t : Tree) (f : CoreForm) (place : Span) (own : List ℕ) → Says (record_forms fs t f place own)
unfolding record_forms
says-records fs t form.Quote place own = tt
says-records fs t form.Lambda place own = tt
says-records fs t form.CaseLambda place own = tt
says-records fs t form.If place own = tt
says-records fs t form.Set place own = tt
says-records fs t form.Begin place own = tt
says-records fs t form.Letrec place own = tt
says-records fs t form.LetrecStar place own = tt
says-records fs t form.Define place own = tt
says-records fs t form.DefineSyntax place own = tt
says-records fs t form.LetSyntax place own = tt
says-records fs t form.LetrecSyntax place own = tt
says-records fs t form.Quasiquote place own = tt
says-records fs t form.Syntax place own = tt
says-records fs t form.Quasisyntax place own = tt
says-records fs t form.SyntaxCase place own = tt
says-records fs t form.Else place own = tt
says-records fs t form.Arrow place own = tt
says-records fs t form.Ellipsis place own = tt
says-records fs t form.Underscore place own = tt
says-records fs t form.Unquote place own = tt
says-records fs t form.UnquoteSplicing place own = tt
says-records fs t form.Unsyntax place own = tt
says-records fs t form.UnsyntaxSplicing place own = tt
says-records fs t form.DefineRecordType place own = says-defining fs t place own (proper_elements t)
says-records fs t form.RecordTypeDescriptor place own = says-descriptor t place defines.type_word
says-records fs t form.RecordConstructorDescriptor place own = says-descriptor t place defines.constructor_word
says-records fs t form.Fields place own = tt
says-records fs t form.Mutable place own = tt
says-records fs t form.Immutable place own = tt
says-records fs t form.Parent place own = tt
says-records fs t form.Protocol place own = tt
says-records fs t form.Sealed place own = tt
says-records fs t form.Opaque place own = tt
says-records fs t form.Nongenerative place own = tt
says-records fs t form.ParentRtd place own = tt
