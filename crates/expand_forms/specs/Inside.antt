-- What is done with forms that lie inside a form.
use Rattle.std.specs.Prelude.{ℕ, List}
use Rattle.stx_tree.specs.Tree.{Tree}
use Rattle.core_language.specs.Core.{PlainCore}
use Rattle.core_language.specs.declared.code.Lambda.{Lambda}
use Rattle.core_language.specs.declared.record.CompiledLibrary.{CompiledLibrary}
use Rattle.expand_standing.specs.State.{Does}
use Rattle.expand_heads.specs.declared.taken.BodyAt.{BodyAt}
use Rattle.expand_heads.specs.declared.taken.Taken.{Taken}
use Rattle.expand_forms.specs.Forms.{ProcedureForm}
use Rattle.expand_forms.specs.Site.{Site}

-- the records before the library; an expression at a site; the case of a procedure that a definition binds; and a
-- form of a body at a depth, behind those that were taken
pub record Inside : Type 0 where
  pub earlier : List CompiledLibrary
  pub form : Site → Tree → Does PlainCore
  pub procedure : Site → ProcedureForm → Does Lambda
  pub item : BodyAt → ℕ → Taken → Tree → Does Taken
