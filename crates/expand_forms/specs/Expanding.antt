-- An expander: the state of a library's expansion, its frame, and whether a call was refused.
use Rattle.std.specs.Prelude.{ℕ, Bool, false, List, [], None, Result, refl}
use Rattle.std.specs.Coded.{Coded, code_by, coded×, coded_bool}
use Rattle.base_data.specs.declared.atom.Atom.TheVariants.{Nil}
use Rattle.base_data.specs.declared.fault.Fault.{Fault}
use Rattle.base_data.specs.declared.imported_name.ImportedName.{ImportedName}
use Rattle.base_data.specs.declared.library.LibName.{LibName}
use Rattle.base_data.specs.contracts.name.FrameNo as frames
use Rattle.base_data.specs.declared.name.FrameNo.{FrameNo}
use Rattle.stx_tree.specs.Tree.{Tree, atom}
use Rattle.core_language.specs.Core.{PlainCore}
use Rattle.core_language.specs.declared.record.CompiledLibrary.{CompiledLibrary}
use Rattle.eval_code.specs.Codes.{Codes}
use Rattle.expand_standing.specs.State.{State, state_code, Does}
use Rattle.expand_standing.specs.Start.{started, first_frame}
use Rattle.expand_forms.specs.Body.{body}
use Rattle.expand_forms.specs.Expression.{inside, full_room}
use Rattle.expand_forms.specs.Site.{Site}
use Rattle.expand_forms.specs.Top.{record_in, linked_in, spent_in, top_at, top}
use Rattle.expand_forms.specs.declared.top.LibraryBody.{LibraryBody}
use Rattle.expand_forms.specs.declared.top.Linked.{Linked}

pub record Expanding : Type 0 where
  pub state : State
  pub frame : FrameNo
  pub failed : Bool

abbrev pub expanding_code : Coded Expanding
expanding_code =
    code_by (State × (FrameNo × Bool)) (coded× state_code (coded× frames.the_row.coded coded_bool))
    (λ e. (e.state, (e.frame, e.failed))) (λ p. record { state = p.0; frame = p.1.0; failed = p.1.1 }) (λ _. refl)

-- an expander that is ready for a library
abbrev pub ready : LibName → List CompiledLibrary → List ImportedName → Codes → Expanding
ready library records imports codes = record { state = started library records imports codes; frame = first_frame library; failed = false }

-- an expression, behind these records
abbrev pub expression : List CompiledLibrary → Site → Tree → Does PlainCore
expression rs site t = (inside rs full_room).form site t

-- a form that has no span
abbrev pub nowhere : Tree
nowhere = atom None Nil

-- the body of a procedure, at a site
abbrev pub lambda_body : List CompiledLibrary → Site → List Tree → Does PlainCore
lambda_body rs site forms = body (inside rs full_room) site nowhere forms

-- the record of a library or program with this body, behind these records
abbrev pub library_record : Expanding → List CompiledLibrary → LibraryBody → Result CompiledLibrary Fault
library_record e rs body = record_in (top (inside rs full_room) (top_at e.frame body) body.exports body.forms e.state)

-- the same, with the links of its expansion
abbrev pub library_linked : Expanding → List CompiledLibrary → LibraryBody → Result Linked Fault
library_linked e rs body = linked_in (top (inside rs full_room) (top_at e.frame body) body.exports body.forms e.state)

-- the fuel that its expansion spends, where it gives a record
abbrev pub library_spent : Expanding → List CompiledLibrary → LibraryBody → ℕ
library_spent e rs body = spent_in (top (inside rs full_room) (top_at e.frame body) body.exports body.forms e.state)
