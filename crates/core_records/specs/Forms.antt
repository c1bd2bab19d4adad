-- Uses of the record forms (libraries report 6.2): the form that comes in place of one.
use Rattle.std.specs.Prelude.{◌≡◌, ℕ, List, [], ◌∷◌, Option, None, Some, Result, Ok, Err, if◌then◌else◌}
use Rattle.base_data.specs.Gives.{◌>>=◌}
use Rattle.base_data.specs.declared.fault.Bare.{Bare}
use Rattle.base_data.specs.declared.fault.BareStop.{BareStop}
use Rattle.base_data.specs.declared.fault.BareStop.TheVariants as bare_stop
use Rattle.base_data.specs.declared.fault.Fault.{Fault}
use Rattle.base_data.specs.declared.fault.FaultKind.TheVariants as kind
use Rattle.base_data.specs.declared.fault.Stop.{Stop}
use Rattle.base_data.specs.declared.fault.Stop.TheVariants as stop
use Rattle.base_data.specs.declared.span.Span.{Span}
use Rattle.stx_tree.specs.Tree.{Tree}
use Rattle.stx_frames.specs.Scope.{Scope}
use Rattle.core_language.specs.declared.core_form.CoreForm.{CoreForm}
use Rattle.core_language.specs.declared.core_form.CoreForm.TheVariants as form
use Rattle.core_shapes.specs.At.{fault_at, place_of}
use Rattle.core_shapes.specs.Lists.{is_leaf, proper_elements, if_some}
use Rattle.core_records.specs.Clauses.{or_bad, no_clauses, all_clauses}
use Rattle.core_records.specs.Definitions.{definitions, type_word, constructor_word}
use Rattle.core_records.specs.Introduced.{Made, list_of_two}
use Rattle.core_records.specs.Names.{names_of}
use Rattle.core_records.specs.declared.names.RecordNames.{RecordNames}

-- the fault of a tree that would pass a limit, at the form
abbrev pub bare_at : Tree → Span → Bare → Fault
bare_at t place b = record { kind = b.kind; span = place_of t place; words = b.words }

abbrev pub at_form : Tree → Span → Made → Result Tree Fault
at_form t place (Ok u) = Ok u
at_form t place (Err b) = Err (bare_at t place b)

-- a stop of what a form comes to, at the form
abbrev pub StopsAt : Tree → Span → Stop → BareStop → Type 0
StopsAt t place (stop.Fault f) (bare_stop.Fault b) = bare_at t place b ≡ f
StopsAt t place (stop.Fault f) bare_stop.Memory = ⊥
StopsAt t place stop.Memory b = Unit {0}

abbrev pub bad_form : {A : Type 0} → Tree → Span → Result A Fault
bad_form t place = Err (fault_at kind.BadForm t place [])

-- `(record-type-descriptor id)` and `(record-constructor-descriptor id)`: the record type's keyword has the descriptor

abbrev pub only_id : List Tree → Option Tree
only_id (head ∷ (id ∷ [])) = if is_leaf id then Some id else None
only_id _ = None

unfoldable pub descriptor_form : Tree → Span → Tree → Result Tree Fault
descriptor_form t place word = or_bad t place (if_some (proper_elements t) only_id) >>= (λ id. at_form t place (list_of_two id word))

-- `(define-record-type names clause ...)`, in these frames, at this place and with this uid
module _ (fs : Scope) (t : Tree) (place : Span) (own : List ℕ) where
  unfoldable pub definitions_for : RecordNames → List Tree → Result Tree Fault
  definitions_for names clauses = all_clauses fs names.name place no_clauses clauses >>= (λ cs. at_form t place (definitions own names cs))

  -- the names, which stand before the clauses, are looked at first
  unfoldable pub named_form : Tree → List Tree → Result Tree Fault
  named_form spec clauses = or_bad t place (names_of spec) >>= (λ names. definitions_for names clauses)

  abbrev pub defining_form : Option (List Tree) → Result Tree Fault
  defining_form (Some (head ∷ (spec ∷ clauses))) = named_form spec clauses
  defining_form _ = bad_form t place

-- What comes in place of a form of this keyword; the uid is that of the form. Other keywords have no such forms.
unfoldable pub record_forms : Scope → Tree → CoreForm → Span → List ℕ → Result Tree Fault
record_forms fs t form.DefineRecordType place own = defining_form fs t place own (proper_elements t)
record_forms fs t form.RecordTypeDescriptor place own = descriptor_form t place type_word
record_forms fs t form.RecordConstructorDescriptor place own = descriptor_form t place constructor_word
record_forms fs t _ place own = bad_form t place
