-- What a fault of expansion tells.
use Rattle.std.specs.Prelude.{◌≡◌, ℕ, List, None, Some}
use Rattle.base_data.specs.declared.fault.Fault.{Fault}
use Rattle.base_data.specs.declared.fault.FaultKind.TheVariants as kind
use Rattle.base_data.specs.declared.span.Span.{Span}
use Rattle.stx_tree.specs.Tree.{Tree, span_of}

-- A fault of this kind at a form: it stands at the form's own span, or where that has none at the place round it, and has these words.
pub record TellsFault (given : kind.the_data) (form : Tree) (place : Span) (spelled : List (List ℕ)) (f : Fault) : Type 0 where
  pub kind : f.kind ≡ given
  pub at_form : (span : Span) → span_of form ≡ Some span → f.span ≡ span
  pub round_form : span_of form ≡ None → f.span ≡ place
  pub words : f.words ≡ spelled
