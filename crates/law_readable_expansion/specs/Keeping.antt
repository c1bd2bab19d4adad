-- An expansion keeps that all in its state can be read, and makes nothing that can't.
use Rattle.std.specs.Prelude.{◌≡◌, ℕ, List, Ok}
use Rattle.base_data.specs.declared.span.Span.{Span}
use Rattle.stx_tree.specs.Tree.{Tree}
use Rattle.core_language.specs.Core.{PlainCore}
use Rattle.core_language.specs.declared.code.Lambda.{Lambda}
use Rattle.core_language.specs.declared.record.CompiledLibrary.{CompiledLibrary}
use Rattle.core_shapes.specs.declared.shape.FormalIds.{FormalIds}
use Rattle.expand_standing.specs.State.{State}
use Rattle.expand_heads.specs.declared.taken.BodyAt.{BodyAt}
use Rattle.expand_heads.specs.declared.taken.Taken.{Taken}
use Rattle.expand_forms.specs.Body.{item}
use Rattle.expand_forms.specs.Expression.{lambda_case, form_at, inside}
use Rattle.expand_forms.specs.Inside.{Inside}
use Rattle.expand_forms.specs.Site.{site_at}
use Rattle.expand_forms.specs.Forms.{procedure_parts}
use Rattle.law_readable.specs.Readable.{ReadableTree, ReadableCore}
use Rattle.law_readable.specs.Stages.{ReadableRecords}
use Rattle.law_readable_expansion.specs.Forms.{ReadableTrees, ReadableFormals, ReadableTaken}
use Rattle.law_readable_expansion.specs.States.{ReadableIn}

-- What is done with forms, behind some records, keeps that all in the state can be read, and gives what can; where that is so of the state, the
-- records and the forms that it begins with.
pub record KeepsReadable (go : Inside) : Type 0 where
  pub form : (place : Span) (level depth : ℕ) (t : Tree) (s u : State) (c : PlainCore) → ReadableIn s → ReadableRecords go.earlier
      → ReadableTree t → go.form (site_at place level depth) t s ≡ Ok (c, u) → ReadableIn u × ReadableCore c
  pub procedure : (place : Span) (level depth : ℕ) (t : Tree) (ids : FormalIds) (forms : List Tree) (s u : State) (c : Lambda)
      → ReadableIn s → ReadableRecords go.earlier → ReadableFormals ids → ReadableTrees forms
      → go.procedure (site_at place level depth) (procedure_parts t ids forms) s ≡ Ok (c, u) → ReadableIn u × ReadableCore c.body
  pub item : (at : BodyAt) (depth : ℕ) (d e : Taken) (t : Tree) (s u : State) → ReadableIn s → ReadableRecords go.earlier → ReadableTaken d
      → ReadableTree t → go.item at depth d t s ≡ Ok (e, u) → ReadableIn u × ReadableTaken e

-- what is done with forms round others
abbrev pub around : Inside → Inside
around go = record { earlier = go.earlier; form = form_at go; procedure = lambda_case go; item = item go }

-- It is kept by what is done with forms round others, whatever is done with these that keeps it; so it is kept however deep forms nest.
pub record ReadablesStayIn : Type 0 where
  pub around_keeps : (go : Inside) → KeepsReadable go → KeepsReadable (around go)
  pub inside_keeps : (records : List CompiledLibrary) (room : ℕ) → KeepsReadable (inside records room)
