-- The body of a library or program (R6RS 7.1 and 8), and the record that comes of it.
use Rattle.std.specs.Prelude.{ℕ, List, [], ◌∷◌, ◌++◌, map, Option, None, Some, Result, Ok, Err, Bool, true, false, if◌then◌else◌}
use Rattle.base_data.specs.Act.{after, give, each}
use Rattle.base_data.specs.Same.{same_library}
use Rattle.base_data.specs.declared.fault.Fault.{Fault}
use Rattle.base_data.specs.declared.fault.FaultKind.TheVariants as kind
use Rattle.base_data.specs.declared.imported_name.ImportedName.{ImportedName}
use Rattle.base_data.specs.declared.library.LibName.{LibName}
use Rattle.base_data.specs.declared.library.LibName.TheVariants as library
use Rattle.base_data.specs.declared.name.FrameNo.{FrameNo}
use Rattle.base_data.specs.declared.name.Label.{Label}
use Rattle.base_data.specs.declared.span.Span.{Span}
use Rattle.stx_tree.specs.Tree.{Tree}
use Rattle.stx_tree.specs.Changes.{stamp}
use Rattle.stx_frames.specs.Listed.{rows_in}
use Rattle.stx_scope.specs.Stands.{stands}
use Rattle.core_language.specs.Core.{PlainCore}
use Rattle.core_language.specs.References.{references}
use Rattle.core_language.specs.declared.record.Line.{Line}
use Rattle.core_language.specs.declared.record.Line.TheVariants as line
use Rattle.core_language.specs.declared.record.CompiledLibrary.{CompiledLibrary}
use Rattle.eval_stage.specs.Libraries.{with_library}
use Rattle.expand_standing.specs.State.{State, Does, fault_word}
use Rattle.expand_standing.specs.Own.{export_labels, own_bindings}
use Rattle.expand_heads.specs.Items.{begun}
use Rattle.expand_heads.specs.declared.taken.BodyAt.{BodyAt}
use Rattle.expand_heads.specs.declared.taken.BodyKind.{BodyKind}
use Rattle.expand_heads.specs.declared.taken.BodyKind.TheVariants as body_kind
use Rattle.expand_heads.specs.declared.taken.Taken.{Taken}
use Rattle.expand_forms.specs.Inside.{Inside}
use Rattle.expand_forms.specs.Body.{splice, finish_all}
use Rattle.expand_forms.specs.declared.top.LibraryBody.{LibraryBody}
use Rattle.expand_forms.specs.declared.top.Linked.{Linked}
use Rattle.expand_forms.specs.declared.top.TopAt.{TopAt}

-- The exports, which are looked for between the two passes.

abbrev pub stands_for : Span → List ℕ → Tree → Option Label → Does ImportedName
stands_for place external id None = fault_word kind.ExportUnbound id id place
stands_for place external id (Some l) = give (record { name = external; label = l })

-- the label that an export stands for in the library's frame, with its external name
unfoldable pub export : TopAt → List ℕ × Tree → Does ImportedName
export at e s = stands_for at.place e.0 (stamp at.frame e.1) (stands s.frames (stamp at.frame e.1)) s

abbrev pub all_exports : TopAt → List (List ℕ × Tree) → Does (List ImportedName)
all_exports at = each (export at) []

unfoldable pub exports : TopAt → List (List ℕ × Tree) → Does (List ImportedName)
exports at es s = after (all_exports at es s) (λ ls s'. after (export_labels ls s') (λ _. give ls))

-- The libraries that the lines refer to.

abbrev pub with_label_of : LibName → List LibName → Label → List LibName
with_label_of own done l = if same_library l.0.library own then done else with_library done l.0.library

abbrev pub with_labels_of : LibName → List LibName → List Label → List LibName
with_labels_of own done [] = done
with_labels_of own done (l ∷ ls) = with_labels_of own (with_label_of own done l) ls

abbrev pub code_of : Line → PlainCore
code_of (line.Define l c) = c
code_of (line.Expr c) = c

abbrev pub with_lines_of : LibName → List LibName → List Line → List LibName
with_lines_of own done [] = done
with_lines_of own done (x ∷ xs) = with_lines_of own (with_labels_of own done (references (code_of x))) xs

-- the other libraries whose variables the lines mention, each once in order of first place
abbrev pub refs_of : LibName → List Line → List LibName
refs_of own lines = with_lines_of own [] lines

-- The record.

abbrev pub record_of : TopAt → List ImportedName → List Line → State → CompiledLibrary
record_of at exports lines s = record {
  path = at.path;
  name = s.library;
  version = at.version;
  exports = exports;
  bindings = own_bindings s;
  frames = rows_in s.library s.frames;
  run = lines;
  refs = refs_of s.library lines;
}

abbrev pub give_record : TopAt → List ImportedName → List Line → Does CompiledLibrary
give_record at es lines s = Ok (record_of at es lines s, s)

-- a record alone, without the state that is left
abbrev pub record_in : Result (CompiledLibrary × State) Fault → Result CompiledLibrary Fault
record_in (Err e) = Err e
record_in (Ok p) = Ok p.0

-- a record, and which identifiers stand for which labels in its expansion
abbrev pub linked_in : Result (CompiledLibrary × State) Fault → Result Linked Fault
linked_in (Err e) = Err e
linked_in (Ok p) = Ok (record { library = p.0; links = p.1.links })

-- the fuel that was spent, where there is a record
abbrev pub spent_in : Result (CompiledLibrary × State) Fault → ℕ
spent_in (Err e) = 0
spent_in (Ok p) = p.1.spent

abbrev pub kind_of : LibName → BodyKind
kind_of library.Core = body_kind.Library
kind_of library.Derived = body_kind.Library
kind_of library.Prelude = body_kind.Library
kind_of library.Program = body_kind.Program
kind_of (library.User parts) = body_kind.Library

-- a body, expanded in this frame
abbrev pub top_at : FrameNo → LibraryBody → TopAt
top_at frame body = record { path = body.path; version = body.version; frame = frame; place = body.place }

abbrev pub body_at : TopAt → LibName → BodyAt
body_at at own = record { frame = at.frame; place = at.place; level = 0; kind = kind_of own }

-- what comes after the first pass: the exports, and the second pass
unfoldable pub second_pass : Inside → TopAt → List (List ℕ × Tree) → Taken → Does CompiledLibrary
second_pass go at es taken s = after (exports at es s) (λ ls s'. after (finish_all go 0 taken.waiting s') (λ lines. give_record at ls lines))

-- the first pass over the body of a library or program, with its frame on all its forms
unfoldable pub first_pass : Inside → TopAt → List Tree → Does Taken
first_pass go at forms s = splice go (body_at at s.library) 0 begun (map (stamp at.frame) forms) s

-- the body of a library or program
unfoldable pub top : Inside → TopAt → List (List ℕ × Tree) → List Tree → Does CompiledLibrary
top go at es forms s = after (first_pass go at forms s) (second_pass go at es)
