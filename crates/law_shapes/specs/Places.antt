-- Where the fault of a form stands.
use Rattle.std.specs.Prelude.{◌≡◌, ℕ, List, None, Some}
use Rattle.base_data.specs.declared.fault.FaultKind.TheVariants as kind
use Rattle.base_data.specs.declared.span.Span.{Span}
use Rattle.stx_tree.specs.Tree.{Tree, span_of}
use Rattle.core_shapes.specs.At.{fault_at}

-- A fault stands at the span of its form where that has one, and else at the place round it; its kind and its words are those that are given.
pub record IsPlaced (given : kind.the_data) (form : Tree) (place : Span) (words : List (List ℕ)) : Type 0 where
  pub at_form : (span : Span) → span_of form ≡ Some span → (fault_at given form place words).span ≡ span
  pub round : span_of form ≡ None → (fault_at given form place words).span ≡ place
  pub same_kind : (fault_at given form place words).kind ≡ given
  pub same_words : (fault_at given form place words).words ≡ words

abbrev pub FaultsArePlaced : Type 0
FaultsArePlaced = (given : kind.the_data) (form : Tree) (place : Span) (words : List (List ℕ)) → IsPlaced given form place words
