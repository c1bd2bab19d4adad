-- The definitions that `define-record-type` stands for (libraries report 6.2), by the procedures of the procedural layer (6.3).
use Rattle.std.specs.Prelude.{ℕ, ◌+◌, pos, Bool, false, List, [], ◌∷◌, ◌++◌, codes, Option, None, Some, Ok, Result}
use Rattle.base_data.specs.Gives.{◌>>=◌}
use Rattle.base_data.specs.declared.atom.Atom.TheVariants as atoms
use Rattle.base_data.specs.declared.fault.Bare.{Bare}
use Rattle.stx_tree.specs.Tree.{Tree, atom}
use Rattle.core_records.specs.Introduced.{Made, introduced, plain, boolean, list_made, list_of_two, list_of_three, vector_made, quoted}
use Rattle.core_records.specs.declared.clause.Clauses.{Clauses}
use Rattle.core_records.specs.declared.clause.Field.{Field}
use Rattle.core_records.specs.declared.clause.Parent.{Parent}
use Rattle.core_records.specs.declared.clause.Parent.TheVariants as parents
use Rattle.core_records.specs.declared.clause.Uid.{Uid}
use Rattle.core_records.specs.declared.clause.Uid.TheVariants as uid
use Rattle.core_records.specs.declared.names.RecordNames.{RecordNames}

-- a row of forms, each within the limits of trees
abbrev pub FormRow : Type 0
FormRow = Result (List Tree) Bare

abbrev pub rtd : Tree
rtd = plain (codes "rtd")

abbrev pub rcd : Tree
rcd = plain (codes "rcd")

abbrev pub type_word : Tree
type_word = introduced (codes "record-type-descriptor")

abbrev pub constructor_word : Tree
constructor_word = introduced (codes "record-constructor-descriptor")

abbrev pub definition : Tree → Tree → Made
definition id value = list_of_three (introduced (codes "define")) id value

abbrev pub definition_by : Tree → Made → Made
definition_by id value = value >>= definition id

-- The record type.

abbrev pub mutability : Option Tree → Tree
mutability None = introduced (codes "immutable")
mutability (Some put) = introduced (codes "mutable")

-- `(immutable id)` or `(mutable id)`
abbrev pub field_entry : Field → Made
field_entry f = list_of_two (mutability f.mutator) f.id

abbrev pub field_entries : List Tree → List Field → FormRow
field_entries done [] = Ok done
field_entries done (f ∷ fs) = field_entry f >>= (λ t. field_entries (done ++ t ∷ []) fs)

abbrev pub or_no_fields : Option (List Field) → List Field
or_no_fields None = []
or_no_fields (Some fs) = fs

-- the quoted vector of all fields
unfoldable pub fields_part : Option (List Field) → Made
fields_part fs = (field_entries [] (or_no_fields fs) >>= vector_made) >>= quoted

abbrev pub type_in : Parent → Made
type_in (parents.Named id) = list_of_two id type_word
type_in (parents.Descriptors r c) = Ok r

unfoldable pub parent_type : Option Parent → Made
parent_type None = Ok (boolean false)
parent_type (Some p) = type_in p

abbrev pub uid_in : List ℕ → Uid → Made
uid_in own uid.Generated = quoted (introduced own)
uid_in own (uid.Given id) = quoted id

unfoldable pub uid_part : List ℕ → Option Uid → Made
uid_part own None = Ok (boolean false)
uid_part own (Some u) = uid_in own u

unfoldable pub or_false : Option Bool → Bool
or_false None = false
or_false (Some b) = b

-- the procedure that makes record types
unfoldable pub type_operator : Tree
type_operator = introduced (codes "make-record-type-descriptor")

abbrev pub type_made : Clauses → Tree → Tree → Tree → Tree → Made
type_made cs name parent u fields =
    list_made (type_operator ∷ (name ∷ (parent ∷ (u ∷ (boolean (or_false cs.sealed) ∷ (boolean (or_false cs.opaque) ∷ (fields ∷ [])))))))

unfoldable pub type_value : List ℕ → RecordNames → Clauses → Made
type_value own names cs =
    quoted names.name >>= (λ name.
    parent_type cs.parent >>= (λ parent.
    uid_part own cs.nongenerative >>= (λ u.
    fields_part cs.fields >>= type_made cs name parent u)))

-- What makes records.

abbrev pub constructor_in : Parent → Made
constructor_in (parents.Named id) = list_of_two id constructor_word
constructor_in (parents.Descriptors r c) = Ok c

unfoldable pub parent_constructor : Option Parent → Made
parent_constructor None = Ok (boolean false)
parent_constructor (Some p) = constructor_in p

unfoldable pub protocol_part : Option Tree → Tree
protocol_part None = boolean false
protocol_part (Some e) = e

-- the procedure that makes descriptors of constructors
unfoldable pub constructor_operator : Tree
constructor_operator = introduced (codes "make-record-constructor-descriptor")

abbrev pub constructor_made : Tree → Tree → Made
constructor_made parent protocol = list_made (constructor_operator ∷ (rtd ∷ (parent ∷ (protocol ∷ []))))

unfoldable pub constructor_value : Clauses → Made
constructor_value cs = parent_constructor cs.parent >>= (λ parent. constructor_made parent (protocol_part cs.protocol))

-- The keyword, which gives the two descriptors where a form names the record type.

-- `((_ word) (syntax value))`
unfoldable pub keyword_clause : Tree → Tree → Made
keyword_clause word value =
    list_of_two (introduced (codes "_")) word >>= (λ pattern.
    list_of_two (introduced (codes "syntax")) value >>= (λ output.
    list_of_two pattern output))

-- `(syntax-case x (record-type-descriptor record-constructor-descriptor) clause clause)`
unfoldable pub keyword_body : Tree → Made
keyword_body x =
    list_of_two type_word constructor_word >>= (λ words.
    keyword_clause type_word rtd >>= (λ first.
    keyword_clause constructor_word rcd >>= (λ second.
    list_made (introduced (codes "syntax-case") ∷ (x ∷ (words ∷ (first ∷ (second ∷ []))))))))

-- `(lambda (x) body)`
unfoldable pub keyword_value : Tree → Made
keyword_value x =
    list_made (x ∷ []) >>= (λ formals.
    keyword_body x >>= (λ body.
    list_of_three (introduced (codes "lambda")) formals body))

abbrev pub keyword_definition : Tree → Made
keyword_definition name = keyword_value (plain (codes "x")) >>= (λ value. list_of_three (introduced (codes "define-syntax")) name value)

-- The procedures.

abbrev pub constructor_definition : Tree → Made
constructor_definition id = definition_by id (list_of_two (introduced (codes "record-constructor")) rcd)

abbrev pub predicate_definition : Tree → Made
predicate_definition id = definition_by id (list_of_two (introduced (codes "record-predicate")) rtd)

abbrev pub place_in : ℕ → Tree
place_in k = atom None (atoms.Int (pos k))

unfoldable pub accessor_operator : Tree
accessor_operator = introduced (codes "record-accessor")

unfoldable pub accessor_value : ℕ → Made
accessor_value k = list_of_three accessor_operator rtd (place_in k)

abbrev pub accessor_definition : ℕ → Tree → Made
accessor_definition k id = definition_by id (accessor_value k)

unfoldable pub mutator_operator : Tree
mutator_operator = introduced (codes "record-mutator")

unfoldable pub mutator_value : ℕ → Made
mutator_value k = list_of_three mutator_operator rtd (place_in k)

abbrev pub mutator_definition : ℕ → Tree → Made
mutator_definition k id = definition_by id (mutator_value k)

abbrev pub with_mutator : ℕ → List Tree → Option Tree → FormRow
with_mutator k done None = Ok done
with_mutator k done (Some put) = mutator_definition k put >>= (λ t. Ok (done ++ t ∷ []))

-- the definitions of a field at a place, behind others
abbrev pub with_field : ℕ → List Tree → Field → FormRow
with_field k done f = accessor_definition k f.accessor >>= (λ t. with_mutator k (done ++ t ∷ []) f.mutator)

-- those of all fields from a place on
abbrev pub with_fields : ℕ → List Tree → List Field → FormRow
with_fields k done [] = Ok done
with_fields k done (f ∷ fs) = with_field k done f >>= (λ ts. with_fields (k + 1) ts fs)

-- All definitions.

-- those that every record type has, behind `begin`
unfoldable pub first_definitions : List ℕ → RecordNames → Clauses → FormRow
first_definitions own names cs =
    definition_by rtd (type_value own names cs) >>= (λ a.
    definition_by rcd (constructor_value cs) >>= (λ b.
    keyword_definition names.name >>= (λ c.
    constructor_definition names.constructor >>= (λ d.
    predicate_definition names.predicate >>= (λ e.
    Ok (introduced (codes "begin") ∷ (a ∷ (b ∷ (c ∷ (d ∷ (e ∷ [])))))))))))

unfoldable pub definitions : List ℕ → RecordNames → Clauses → Made
definitions own names cs = (first_definitions own names cs >>= (λ ts. with_fields 0 ts (or_no_fields cs.fields))) >>= list_made
