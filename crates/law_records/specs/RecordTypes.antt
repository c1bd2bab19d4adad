-- What the forms of records stand for (libraries report 6.2), in terms of the procedures of 6.3: what each is called with, and what a clause
-- that is left out stands for.
use Rattle.std.specs.Prelude.{◌≡◌, ◌⊎◌, ℕ, ◌+◌, pos, Bool, false, List, [], ◌∷◌, ◌++◌, codes, map, Option, None, Some, Result, Ok, Err, if◌then◌else◌}
use Rattle.base_data.specs.declared.atom.Atom.TheVariants as atoms
use Rattle.base_data.specs.declared.fault.Fault.{Fault}
use Rattle.base_data.specs.declared.fault.FaultKind.TheVariants as kind
use Rattle.base_data.specs.declared.library.LibName.TheVariants as library
use Rattle.base_data.specs.declared.span.Span.{Span}
use Rattle.stx_tree.specs.Measures.{fits}
use Rattle.stx_tree.specs.Tree.{Tree, atom, leaf, vector_of}
use Rattle.stx_frames.specs.Scope.{Scope}
use Rattle.core_language.specs.declared.core_form.CoreForm.TheVariants as form
use Rattle.core_shapes.specs.At.{fault_at}
use Rattle.core_shapes.specs.Lists.{elements}
use Rattle.core_shapes.specs.Written.{list}
use Rattle.core_records.specs.Forms.{record_forms}
use Rattle.core_records.specs.declared.clause.Field.{Field}
use Rattle.core_records.specs.declared.clause.Parent.TheVariants as parents
use Rattle.core_records.specs.declared.clause.RecordClause.TheVariants as clause
use Rattle.core_records.specs.declared.clause.Uid.TheVariants as uid
use Rattle.core_records.specs.declared.names.RecordNames.{RecordNames}
use Rattle.law_shapes.specs.Grammar.{IsId, IsList}
use Rattle.law_shapes.specs.Records.{AreNames, AreClauses, Says, Lacks, IsIn}

-- An identifier that stands for this name of the implementation, whatever the program imports: its only stamp is that of the
-- implementation's frame.
abbrev pub word : List ℕ → Tree
word symbol = leaf None symbol (record {
  marks = [];
  stamps =
      (record { frame = record { 0 = record { library = library.Core; number = 0 } }; marks = [] }) ∷ [];
})

-- an identifier of the definitions alone
abbrev pub own_word : List ℕ → Tree
own_word symbol = leaf None symbol (record { marks = []; stamps = [] })

abbrev pub truth : Bool → Tree
truth b = atom None (atoms.Bool b)

abbrev pub quoted : Tree → Tree
quoted t = list (word (codes "quote") ∷ (t ∷ []))

-- What the clauses say.

-- the descriptors of the parent's record type and of its constructor: those of a name, two expressions, or `#f`
pub data IsParent (fs : Scope) (name : Tree) (ts : List Tree) : Tree → Tree → Type 0 where
  no_parent : Lacks fs form.Parent ts → Lacks fs form.ParentRtd ts → IsParent fs name ts (truth false) (truth false)
  named : {x : Tree} → Says fs name (clause.Parent (parents.Named x)) ts
      → IsParent fs name ts (list (x ∷ (word (codes "record-type-descriptor") ∷ []))) (list (x ∷ (word (codes "record-constructor-descriptor") ∷ [])))
  described : {r c : Tree} → Says fs name (clause.Parent (parents.Descriptors r c)) ts → IsParent fs name ts r c

-- the uid: that of the form, the one that is given, or `#f`
pub data IsUid (fs : Scope) (own : List ℕ) (name : Tree) (ts : List Tree) : Tree → Type 0 where
  generative : Lacks fs form.Nongenerative ts → IsUid fs own name ts (truth false)
  generated : Says fs name (clause.Nongenerative uid.Generated) ts → IsUid fs own name ts (quoted (word own))
  given : {x : Tree} → Says fs name (clause.Nongenerative (uid.Given x)) ts → IsUid fs own name ts (quoted x)

-- a record type is neither sealed nor opaque where no clause says so
pub data IsSealed (fs : Scope) (name : Tree) (ts : List Tree) : Bool → Type 0 where
  not_sealed : Lacks fs form.Sealed ts → IsSealed fs name ts false
  says_sealed : {b : Bool} → Says fs name (clause.Sealed b) ts → IsSealed fs name ts b

pub data IsOpaque (fs : Scope) (name : Tree) (ts : List Tree) : Bool → Type 0 where
  not_opaque : Lacks fs form.Opaque ts → IsOpaque fs name ts false
  says_opaque : {b : Bool} → Says fs name (clause.Opaque b) ts → IsOpaque fs name ts b

-- the expression of the protocol, or `#f`
pub data IsProtocol (fs : Scope) (name : Tree) (ts : List Tree) : Tree → Type 0 where
  no_protocol : Lacks fs form.Protocol ts → IsProtocol fs name ts (truth false)
  says_protocol : {e : Tree} → Says fs name (clause.Protocol e) ts → IsProtocol fs name ts e

pub data AreFields (fs : Scope) (name : Tree) (ts : List Tree) : List Field → Type 0 where
  no_fields : Lacks fs form.Fields ts → AreFields fs name ts []
  says_fields : {xs : List Field} → Says fs name (clause.Fields xs) ts → AreFields fs name ts xs

-- a record type as its clauses describe it
pub record Description : Type 0 where
  pub parent : Tree
  pub parent_constructor : Tree
  pub uid : Tree
  pub sealed : Bool
  pub opaque : Bool
  pub protocol : Tree
  pub fields : List Field

pub record Describe (fs : Scope) (own : List ℕ) (name : Tree) (ts : List Tree) (d : Description) : Type 0 where
  pub parent : IsParent fs name ts d.parent d.parent_constructor
  pub uid : IsUid fs own name ts d.uid
  pub sealed : IsSealed fs name ts d.sealed
  pub opaque : IsOpaque fs name ts d.opaque
  pub protocol : IsProtocol fs name ts d.protocol
  pub fields : AreFields fs name ts d.fields

-- The definitions.

abbrev pub rtd : Tree
rtd = own_word (codes "rtd")

abbrev pub rcd : Tree
rcd = own_word (codes "rcd")

-- `(define id value)`
abbrev pub define : Tree → Tree → Tree
define id value = list (word (codes "define") ∷ (id ∷ (value ∷ [])))

-- `(procedure operand)`
abbrev pub call : List ℕ → Tree → Tree
call procedure operand = list (word procedure ∷ (operand ∷ []))

-- `(procedure rtd k)`
abbrev pub call_at : List ℕ → ℕ → Tree
call_at procedure k = list (word procedure ∷ (rtd ∷ (atom None (atoms.Int (pos k)) ∷ [])))

-- `(immutable id)` or `(mutable id)`
abbrev pub field_entry : Field → Option Tree → Tree
field_entry f None = list (word (codes "immutable") ∷ (f.id ∷ []))
field_entry f (Some mutator) = list (word (codes "mutable") ∷ (f.id ∷ []))

abbrev pub entry : Field → Tree
entry f = field_entry f f.mutator

-- `(make-record-type-descriptor 'name parent uid sealed opaque '#(field ...))`
abbrev pub made_type : Tree → Description → Tree
made_type name d =
    list (word (codes "make-record-type-descriptor") ∷ (quoted name
    ∷ (d.parent ∷ (d.uid ∷ (truth d.sealed ∷ (truth d.opaque ∷ (quoted (vector_of (map entry d.fields)) ∷ [])))))))

-- `(make-record-constructor-descriptor rtd parent protocol)`
abbrev pub made_constructor : Description → Tree
made_constructor d = list (word (codes "make-record-constructor-descriptor") ∷ (rtd ∷ (d.parent_constructor ∷ (d.protocol ∷ []))))

-- `((_ keyword) (syntax id))`
abbrev pub descriptor_clause : List ℕ → Tree → Tree
descriptor_clause keyword id = list (list (word (codes "_") ∷ (word keyword ∷ [])) ∷ (list (word (codes "syntax") ∷ (id ∷ [])) ∷ []))

-- The name is a keyword, whose uses are the two descriptors:
-- `(lambda (x) (syntax-case x (record-type-descriptor record-constructor-descriptor) clause clause))`.
abbrev pub descriptor_cases : Tree → Tree
descriptor_cases x =
    list (
    word (codes "syntax-case") ∷
    (x ∷
    (list (word (codes "record-type-descriptor") ∷ (word (codes "record-constructor-descriptor") ∷ [])) ∷
    (descriptor_clause (codes "record-type-descriptor") rtd ∷
    (descriptor_clause (codes "record-constructor-descriptor") rcd ∷ []))))
    )

abbrev pub name_keyword : Tree → Tree
name_keyword x = list (word (codes "lambda") ∷ (list (x ∷ []) ∷ (descriptor_cases x ∷ [])))

abbrev pub defined_name : Tree → Tree
defined_name name = list (word (codes "define-syntax") ∷ (name ∷ (name_keyword (own_word (codes "x")) ∷ [])))

-- the accessor of a field, and the mutator that a mutable one has
abbrev pub field_procedures : ℕ → Field → Option Tree → List Tree
field_procedures k f None = define f.accessor (call_at (codes "record-accessor") k) ∷ []
field_procedures k f (Some mutator) = define f.accessor (call_at (codes "record-accessor") k) ∷ (define mutator (call_at (codes "record-mutator") k) ∷ [])

-- those of fields, numbered from k on
abbrev pub procedures : ℕ → List Field → List Tree
procedures k [] = []
procedures k (f ∷ fs) = field_procedures k f f.mutator ++ procedures (k + 1) fs

-- `(begin definition ...)`
abbrev pub defining : RecordNames → Description → Tree
defining names d =
    list (
    word (codes "begin") ∷
    (define rtd (made_type names.name d) ∷
    (define rcd (made_constructor d) ∷
    (defined_name names.name ∷
    (define names.constructor (call (codes "record-constructor") rcd) ∷
    (define names.predicate (call (codes "record-predicate") rtd) ∷ procedures 0 d.fields)))))
    )

-- a tree in place of a form: past a limit of trees the form is at fault
abbrev pub in_place_of : Tree → Span → Tree → Result Tree Fault
in_place_of t place u = if fits u then Ok u else Err (fault_at kind.TooDeep t place [])

-- `(define-record-type names clause ...)`, and the definitions that it stands for
pub data StandsFor (fs : Scope) (own : List ℕ) (t : Tree) : Tree → Type 0 where
  record_type : {head spec : Tree} {ts : List Tree} {names : RecordNames} {d : Description}
      → IsList (head ∷ spec ∷ ts) t → AreNames names spec → AreClauses fs names.name ts → Describe fs own names.name ts d
      → StandsFor fs own t (defining names d)

-- A form comes to the definitions that it stands for, unless these pass a limit of trees.
abbrev pub RecordTypesAreDefined : Type 0
RecordTypesAreDefined = (fs : Scope) (t : Tree) (place : Span) (own : List ℕ) (u : Tree) → StandsFor fs own t u
    → record_forms fs t form.DefineRecordType place own ≡ in_place_of t place u

-- What a form comes to, it stands for.
abbrev pub DefinitionsAreStoodFor : Type 0
DefinitionsAreStoodFor = (fs : Scope) (t : Tree) (place : Span) (own : List ℕ) (u : Tree)
    → record_forms fs t form.DefineRecordType place own ≡ Ok u → StandsFor fs own t u

-- What stands for nothing is at fault, at the form or at one of its clauses.
pub record IsBad (fs : Scope) (t : Tree) (place : Span) (own : List ℕ) : Type 0 where
  pub bad : Tree
  pub here : (bad ≡ t) ⊎ IsIn bad (elements t)
  pub is : record_forms fs t form.DefineRecordType place own ≡ Err (fault_at kind.BadForm bad place [])

abbrev pub OtherRecordTypesAreBad : Type 0
OtherRecordTypesAreBad = (fs : Scope) (t : Tree) (place : Span) (own : List ℕ) → ((u : Tree) → StandsFor fs own t u → ⊥) → IsBad fs t place own

-- `(record-type-descriptor name)` and `(record-constructor-descriptor name)`
abbrev pub IsDescriptor : Tree → Tree → Type 0
IsDescriptor x t = (head : Tree) × (IsId x × IsList (head ∷ x ∷ []) t)

-- They are uses of the name as a keyword, with the word as operand.
pub record DescriptorsAreWritten : Type 0 where
  pub types : (fs : Scope) (t : Tree) (place : Span) (own : List ℕ) (x : Tree) → IsDescriptor x t
      → record_forms fs t form.RecordTypeDescriptor place own ≡ in_place_of t place (list (x ∷ (word (codes "record-type-descriptor") ∷ [])))
  pub constructors : (fs : Scope) (t : Tree) (place : Span) (own : List ℕ) (x : Tree) → IsDescriptor x t
      → record_forms fs t form.RecordConstructorDescriptor place own ≡ in_place_of t place (list (x ∷ (word (codes "record-constructor-descriptor") ∷ [])))
  pub other_types : (fs : Scope) (t : Tree) (place : Span) (own : List ℕ) → ((x : Tree) → IsDescriptor x t → ⊥)
      → record_forms fs t form.RecordTypeDescriptor place own ≡ Err (fault_at kind.BadForm t place [])
  pub other_constructors : (fs : Scope) (t : Tree) (place : Span) (own : List ℕ) → ((x : Tree) → IsDescriptor x t → ⊥)
      → record_forms fs t form.RecordConstructorDescriptor place own ≡ Err (fault_at kind.BadForm t place [])
