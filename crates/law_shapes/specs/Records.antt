-- How the forms of records are written, by cases (libraries report 6.2). A clause, and the two words of fields, are known by what their
-- first identifier stands for.
use Rattle.std.specs.Prelude.{◌≡◌, ◌⊎◌, ℕ, Bool, List, [], ◌∷◌, ◌++◌, codes, Option, None, Some}
use Rattle.base_data.specs.declared.atom.Atom.TheVariants as atoms
use Rattle.base_data.specs.declared.library.LibName.TheVariants as library
use Rattle.base_data.specs.declared.name.Label.{Label}
use Rattle.base_data.specs.declared.span.Span.{Span}
use Rattle.stx_tree.specs.Leaves.{marks_of, stamps_of}
use Rattle.stx_tree.specs.Tree.{Tree, atom, leaf}
use Rattle.stx_frames.specs.Scope.{Scope}
use Rattle.stx_scope.specs.Stands.{symbol_of, stands}
use Rattle.core_language.specs.CoreForm.{number}
use Rattle.core_language.specs.declared.core_form.CoreForm.{CoreForm}
use Rattle.core_language.specs.declared.core_form.CoreForm.TheVariants as form
use Rattle.core_records.specs.declared.clause.Field.{Field}
use Rattle.core_records.specs.declared.clause.Parent.TheVariants as parents
use Rattle.core_records.specs.declared.clause.RecordClause.{RecordClause}
use Rattle.core_records.specs.declared.clause.RecordClause.TheVariants as clause
use Rattle.core_records.specs.declared.clause.Uid.TheVariants as uid
use Rattle.core_records.specs.declared.names.RecordNames.{RecordNames}
use Rattle.law_shapes.specs.Grammar.{IsId, IsList, AreWritten}

-- Names.

-- the label of a keyword of the implementation
abbrev pub keyword_label : CoreForm → Label
keyword_label which = record { 0 = record { library = library.Core; number = number which } }

-- an identifier that stands for a keyword
pub record IsKeywordIdentifier (fs : Scope) (which : CoreForm) (t : Tree) : Type 0 where
  pub is_id : IsId t
  pub label : stands fs t ≡ Some (keyword_label which)

-- an identifier with this symbol, and with the marks and stamps of another
abbrev pub beside : Tree → List ℕ → Tree
beside t symbol = leaf None symbol (record { marks = marks_of t; stamps = stamps_of t })

-- `make-name`, `name?`, `name-field` and `name-field-set!`
abbrev pub constructor_name : Tree → Tree
constructor_name name = beside name (codes "make-" ++ symbol_of name)

abbrev pub predicate_name : Tree → Tree
predicate_name name = beside name (symbol_of name ++ codes "?")

abbrev pub accessor_name : Tree → Tree → Tree
accessor_name name field = beside name ((symbol_of name ++ codes "-") ++ symbol_of field)

abbrev pub mutator_name : Tree → Tree → Tree
mutator_name name field = beside name (((symbol_of name ++ codes "-") ++ symbol_of field) ++ codes "-set!")

-- `name`, or `(name constructor predicate)`
pub data AreNames : RecordNames → Tree → Type 0 where
  made : {x : Tree} → IsId x → AreNames (record { name = x; constructor = constructor_name x; predicate = predicate_name x }) x
  given : {name make test spec : Tree} → IsId name → IsId make → IsId test → IsList (name ∷ make ∷ test ∷ []) spec
      → AreNames (record { name = name; constructor = make; predicate = test }) spec

-- Clauses.

-- A field of the record type with a name. It is mutable where it has a mutator; a procedure that isn't named has a name that is made of both.
pub data IsField (fs : Scope) (name : Tree) : Field → Tree → Type 0 where
  -- `id`
  alone : {x : Tree} → IsId x → IsField fs name (record { id = x; accessor = accessor_name name x; mutator = None }) x
  -- `(immutable id)`
  immutable : {head x t : Tree} → IsKeywordIdentifier fs form.Immutable head → IsId x → IsList (head ∷ x ∷ []) t
      → IsField fs name (record { id = x; accessor = accessor_name name x; mutator = None }) t
  -- `(immutable id accessor)`
  immutable_by : {head x get t : Tree} → IsKeywordIdentifier fs form.Immutable head → IsId x → IsId get → IsList (head ∷ x ∷ get ∷ []) t
      → IsField fs name (record { id = x; accessor = get; mutator = None }) t
  -- `(mutable id)`
  mutable : {head x t : Tree} → IsKeywordIdentifier fs form.Mutable head → IsId x → IsList (head ∷ x ∷ []) t
      → IsField fs name (record { id = x; accessor = accessor_name name x; mutator = Some (mutator_name name x) }) t
  -- `(mutable id accessor mutator)`
  mutable_by : {head x get put t : Tree} → IsKeywordIdentifier fs form.Mutable head → IsId x → IsId get → IsId put
      → IsList (head ∷ x ∷ get ∷ put ∷ []) t → IsField fs name (record { id = x; accessor = get; mutator = Some put }) t

-- a clause, by what stands behind its word
pub data IsClause (fs : Scope) (name : Tree) : CoreForm → RecordClause → List Tree → Type 0 where
  -- `(fields field ...)`
  fields : {xs : List Field} {ts : List Tree} → AreWritten (IsField fs name) xs ts → IsClause fs name form.Fields (clause.Fields xs) ts
  -- `(parent name)`
  parent : {x : Tree} → IsId x → IsClause fs name form.Parent (clause.Parent (parents.Named x)) (x ∷ [])
  -- `(parent-rtd rtd rcd)`
  parent_rtd : {r c : Tree} → IsClause fs name form.ParentRtd (clause.Parent (parents.Descriptors r c)) (r ∷ c ∷ [])
  -- `(protocol expression)`
  protocol : {e : Tree} → IsClause fs name form.Protocol (clause.Protocol e) (e ∷ [])
  -- `(sealed #t)` or `(sealed #f)`
  sealed : {span : Option Span} {b : Bool} → IsClause fs name form.Sealed (clause.Sealed b) (atom span (atoms.Bool b) ∷ [])
  -- `(opaque #t)` or `(opaque #f)`
  opaque : {span : Option Span} {b : Bool} → IsClause fs name form.Opaque (clause.Opaque b) (atom span (atoms.Bool b) ∷ [])
  -- `(nongenerative)`
  generated : IsClause fs name form.Nongenerative (clause.Nongenerative uid.Generated) []
  -- `(nongenerative uid)`
  nongenerative : {x : Tree} → IsId x → IsClause fs name form.Nongenerative (clause.Nongenerative (uid.Given x)) (x ∷ [])

-- the keyword is the head of one of these forms
pub data Has (fs : Scope) (which : CoreForm) : List Tree → Type 0 where
  headed_here : {head t : Tree} {operands ts : List Tree} → IsList (head ∷ operands) t → IsKeywordIdentifier fs which head → Has fs which (t ∷ ts)
  headed_behind : {t : Tree} {ts : List Tree} → Has fs which ts → Has fs which (t ∷ ts)

abbrev pub Lacks : Scope → CoreForm → List Tree → Type 0
Lacks fs which ts = Has fs which ts → ⊥

-- `parent` and `parent-rtd` are clauses of one kind
abbrev pub LacksKind : Scope → CoreForm → List Tree → Type 0
LacksKind fs form.Parent ts = Lacks fs form.Parent ts × Lacks fs form.ParentRtd ts
LacksKind fs form.ParentRtd ts = Lacks fs form.Parent ts × Lacks fs form.ParentRtd ts
LacksKind fs which ts = Lacks fs which ts

-- clauses in any order, of each kind one at most
pub data AreClauses (fs : Scope) (name : Tree) : List Tree → Type 0 where
  no_more : AreClauses fs name []
  one_more : {which : CoreForm} {c : RecordClause} {head t : Tree} {operands ts : List Tree}
      → IsList (head ∷ operands) t → IsKeywordIdentifier fs which head → IsClause fs name which c operands → LacksKind fs which ts
      → AreClauses fs name ts → AreClauses fs name (t ∷ ts)

-- one of the clauses is this
pub data Says (fs : Scope) (name : Tree) (c : RecordClause) : List Tree → Type 0 where
  said_here : {which : CoreForm} {head t : Tree} {operands ts : List Tree} → IsList (head ∷ operands) t → IsKeywordIdentifier fs which head
      → IsClause fs name which c operands → Says fs name c (t ∷ ts)
  said_behind : {t : Tree} {ts : List Tree} → Says fs name c ts → Says fs name c (t ∷ ts)

-- one of these
abbrev pub IsIn : Tree → List Tree → Type 0
IsIn x [] = ⊥
IsIn x (y ∷ ys) = (x ≡ y) ⊎ IsIn x ys
