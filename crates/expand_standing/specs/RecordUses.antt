-- Uses of the record forms (libraries report 6.2). Nothing is evaluated.
use Rattle.std.specs.Prelude.{ℕ, ◌+◌, Bool, true, false, Option, Result, Ok, Err, if◌then◌else◌}
use Rattle.base_data.specs.Act.{after, give}
use Rattle.base_data.specs.declared.fault.Fault.{Fault}
use Rattle.base_data.specs.declared.name.FrameNo.{FrameNo}
use Rattle.base_data.specs.declared.name.Mark.{Mark}
use Rattle.base_data.specs.declared.span.Span.{Span}
use Rattle.stx_tree.specs.Changes.{enter, leave}
use Rattle.stx_tree.specs.Tree.{Tree}
use Rattle.core_language.specs.declared.core_form.CoreForm.{CoreForm}
use Rattle.core_language.specs.declared.core_form.CoreForm.TheVariants as core_forms
use Rattle.core_records.specs.Forms.{record_forms}
use Rattle.core_records.specs.Names.{record_uid}
use Rattle.expand_standing.specs.State.{State, Does, fresh}

-- an answer that leaves the state as it is
abbrev pub at_state : {A : Type 0} → State → Result A Fault → Result (A × State) Fault
at_state s (Ok x) = Ok (x, s)
at_state s (Err f) = Err f

abbrev pub defines_type : CoreForm → Bool
defines_type core_forms.DefineRecordType = true
defines_type _ = false

-- how many uses of `define-record-type` there were before this use; the other forms aren't counted
unfoldable pub count_record_type : CoreForm → Does ℕ
count_record_type f s = Ok (s.record_types, if defines_type f then record s { record_types = s.record_types + 1 } else s)

-- what a form comes to, at a place, with so many uses before it
unfoldable pub record_tree : Span → Tree → CoreForm → ℕ → Does Tree
record_tree place t f n s = at_state s (record_forms s.frames t f place (record_uid s.library t n))

-- A form under a fresh mark is what is read. What comes of it is left with the mark, and with the frame of a body in which the use
-- stands.
unfoldable pub record_marked : Span → Tree → CoreForm → Option FrameNo → Mark → Does Tree
record_marked place t f frame m s =
    after (count_record_type f s) (λ n s'. after (record_tree place (enter m t) f n s') (λ u. give (leave m frame u)))

-- what comes of a use, at a place, with the frame of a body where it stands in one
unfoldable pub use_record : Span → Tree → CoreForm → Option FrameNo → Does Tree
use_record place t f frame s = after (fresh s) (λ n. record_marked place t f frame (record { 0 = n }))
