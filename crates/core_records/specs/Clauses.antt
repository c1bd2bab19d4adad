-- The clauses of `define-record-type` (libraries report 6.2). A clause is known by what its first identifier stands for.
use Rattle.std.specs.Prelude.{ℕ, Bool, nat_lt, List, [], ◌∷◌, Option, None, Some, Result, Ok, Err, if◌then◌else◌}
use Rattle.base_data.specs.Op.{name_count}
use Rattle.base_data.specs.Gives.{◌>>=◌}
use Rattle.base_data.specs.Same.{same_library}
use Rattle.base_data.specs.declared.atom.Atom.{Atom}
use Rattle.base_data.specs.declared.atom.Atom.TheVariants as atoms
use Rattle.base_data.specs.declared.fault.Fault.{Fault}
use Rattle.base_data.specs.declared.fault.FaultKind.TheVariants as kind
use Rattle.base_data.specs.declared.library.LibName.TheVariants as library
use Rattle.base_data.specs.declared.name.Label.{Label}
use Rattle.base_data.specs.declared.span.Span.{Span}
use Rattle.stx_tree.specs.Tree.{Tree, atom, leaf, pair, vector}
use Rattle.stx_frames.specs.Scope.{Scope}
use Rattle.stx_scope.specs.Stands.{stands}
use Rattle.core_language.specs.CoreForm.{at_number}
use Rattle.core_language.specs.declared.core_form.CoreForm.{CoreForm}
use Rattle.core_language.specs.declared.core_form.CoreForm.TheVariants as form
use Rattle.core_shapes.specs.At.{fault_at}
use Rattle.core_shapes.specs.Lists.{is_leaf, proper_elements, if_some, all_of}
use Rattle.core_records.specs.Names.{made_accessor, made_mutator}
use Rattle.core_records.specs.declared.clause.Clauses.{Clauses}
use Rattle.core_records.specs.declared.clause.Field.{Field}
use Rattle.core_records.specs.declared.clause.Parent.TheVariants as parents
use Rattle.core_records.specs.declared.clause.RecordClause.{RecordClause}
use Rattle.core_records.specs.declared.clause.RecordClause.TheVariants as clause
use Rattle.core_records.specs.declared.clause.Uid.TheVariants as uid

-- What identifiers stand for.

abbrev pub numbered : ℕ → Option CoreForm
numbered n = if nat_lt n name_count then at_number n else None

abbrev pub labelled : Option Label → Option CoreForm
labelled None = None
labelled (Some l) = if same_library l.0.library library.Core then numbered l.0.number else None

-- the keyword that a form is, if it is one of the implementation's own
abbrev pub keyword_of : Scope → Tree → Option CoreForm
keyword_of fs t = if is_leaf t then labelled (stands fs t) else None

-- Fields: `id`, `(immutable id)`, `(immutable id accessor)`, `(mutable id)` or `(mutable id accessor mutator)`.

abbrev pub field_with : Tree → Tree → Option Tree → Field
field_with id accessor mutator = record { id = id; accessor = accessor; mutator = mutator }

abbrev pub fixed_field : Tree → Tree → Field
fixed_field name id = field_with id (made_accessor name id) None

unfoldable pub immutable_field : Tree → List Tree → Option Field
immutable_field name (id ∷ []) = if is_leaf id then Some (fixed_field name id) else None
immutable_field name (id ∷ (get ∷ [])) = if is_leaf id then (if is_leaf get then Some (field_with id get None) else None) else None
immutable_field name _ = None

unfoldable pub mutable_field : Tree → List Tree → Option Field
mutable_field name (id ∷ []) = if is_leaf id then Some (field_with id (made_accessor name id) (Some (made_mutator name id))) else None
mutable_field name (id ∷ (get ∷ (put ∷ []))) =
    if is_leaf id then (if is_leaf get then (if is_leaf put then Some (field_with id get (Some put)) else None) else None) else None
mutable_field name _ = None

abbrev pub field_by : Tree → List Tree → CoreForm → Option Field
field_by name operands form.Immutable = immutable_field name operands
field_by name operands form.Mutable = mutable_field name operands
field_by name operands _ = None

abbrev pub field_in : Scope → Tree → List Tree → Option Field
field_in fs name [] = None
field_in fs name (head ∷ operands) = if_some (keyword_of fs head) (field_by name operands)

-- a field of the record type with this name
unfoldable pub field_of : Scope → Tree → Tree → Option Field
field_of fs name t = if is_leaf t then Some (fixed_field name t) else if_some (proper_elements t) (field_in fs name)

-- Clauses, by their operands.

unfoldable pub fields_clause : Scope → Tree → List Tree → Option RecordClause
fields_clause fs name operands = if_some (all_of (field_of fs name) [] operands) (λ xs. Some (clause.Fields xs))

unfoldable pub parent_clause : List Tree → Option RecordClause
parent_clause (id ∷ []) = if is_leaf id then Some (clause.Parent (parents.Named id)) else None
parent_clause _ = None

unfoldable pub parent_rtd_clause : List Tree → Option RecordClause
parent_rtd_clause (rtd ∷ (rcd ∷ [])) = Some (clause.Parent (parents.Descriptors rtd rcd))
parent_rtd_clause _ = None

unfoldable pub protocol_clause : List Tree → Option RecordClause
protocol_clause (e ∷ []) = Some (clause.Protocol e)
protocol_clause _ = None

abbrev pub truth_in : Atom → Option Bool
truth_in (atoms.Bool b) = Some b
truth_in a = None

-- `#t` or `#f`
abbrev pub truth_of : Tree → Option Bool
truth_of (atom s a) = truth_in a
truth_of (leaf s x c) = None
truth_of (pair s a d) = None
truth_of (vector s d) = None

abbrev pub only_truth : List Tree → Option Bool
only_truth (t ∷ []) = truth_of t
only_truth _ = None

unfoldable pub sealed_clause : List Tree → Option RecordClause
sealed_clause operands = if_some (only_truth operands) (λ b. Some (clause.Sealed b))

unfoldable pub opaque_clause : List Tree → Option RecordClause
opaque_clause operands = if_some (only_truth operands) (λ b. Some (clause.Opaque b))

unfoldable pub nongenerative_clause : List Tree → Option RecordClause
nongenerative_clause [] = Some (clause.Nongenerative uid.Generated)
nongenerative_clause (id ∷ []) = if is_leaf id then Some (clause.Nongenerative (uid.Given id)) else None
nongenerative_clause _ = None

abbrev pub clause_by : Scope → Tree → List Tree → CoreForm → Option RecordClause
clause_by fs name operands form.Fields = fields_clause fs name operands
clause_by fs name operands form.Parent = parent_clause operands
clause_by fs name operands form.ParentRtd = parent_rtd_clause operands
clause_by fs name operands form.Protocol = protocol_clause operands
clause_by fs name operands form.Sealed = sealed_clause operands
clause_by fs name operands form.Opaque = opaque_clause operands
clause_by fs name operands form.Nongenerative = nongenerative_clause operands
clause_by fs name operands _ = None

abbrev pub clause_in : Scope → Tree → List Tree → Option RecordClause
clause_in fs name [] = None
clause_in fs name (head ∷ operands) = if_some (keyword_of fs head) (clause_by fs name operands)

unfoldable pub clause_of : Scope → Tree → Tree → Option RecordClause
clause_of fs name t = if_some (proper_elements t) (clause_in fs name)

-- All of them: each kind stands at most once, and `parent` not beside `parent-rtd`.

abbrev pub no_clauses : Clauses
no_clauses = record { fields = None; parent = None; protocol = None; sealed = None; opaque = None; nongenerative = None }

-- what comes of a place that is free
abbrev pub if_free : {A B : Type 0} → Option A → B → Option B
if_free None x = Some x
if_free (Some y) x = None

unfoldable pub with_clause : Clauses → RecordClause → Option Clauses
with_clause cs (clause.Fields xs) = if_free cs.fields (record cs { fields = Some xs })
with_clause cs (clause.Parent p) = if_free cs.parent (record cs { parent = Some p })
with_clause cs (clause.Protocol e) = if_free cs.protocol (record cs { protocol = Some e })
with_clause cs (clause.Sealed b) = if_free cs.sealed (record cs { sealed = Some b })
with_clause cs (clause.Opaque b) = if_free cs.opaque (record cs { opaque = Some b })
with_clause cs (clause.Nongenerative u) = if_free cs.nongenerative (record cs { nongenerative = Some u })

abbrev pub or_bad : {A : Type 0} → Tree → Span → Option A → Result A Fault
or_bad t place None = Err (fault_at kind.BadForm t place [])
or_bad t place (Some x) = Ok x

-- a clause that has no meaning, or that may not stand behind those before it, is at fault
unfoldable pub next_clause : Scope → Tree → Span → Clauses → Tree → Result Clauses Fault
next_clause fs name place cs t = or_bad t place (if_some (clause_of fs name t) (with_clause cs))

abbrev pub all_clauses : Scope → Tree → Span → Clauses → List Tree → Result Clauses Fault
all_clauses fs name place cs [] = Ok cs
all_clauses fs name place cs (t ∷ ts) = next_clause fs name place cs t >>= (λ ds. all_clauses fs name place ds ts)
