-- Faults at forms.
use Rattle.std.specs.Prelude.{ℕ, List, [], ◌∷◌, Option, None, Some}
use Rattle.base_data.specs.declared.fault.Fault.{Fault}
use Rattle.base_data.specs.declared.fault.FaultKind.TheVariants as kind
use Rattle.base_data.specs.declared.span.Span.{Span}
use Rattle.stx_tree.specs.Tree.{Tree, span_of}

abbrev pub span_or : Span → Option Span → Span
span_or place None = place
span_or place (Some s) = s

-- where a form stands: its own span, or where it has none the place round it
abbrev pub place_of : Tree → Span → Span
place_of form place = span_or place (span_of form)

abbrev pub words_of : Option (List ℕ) → List (List ℕ)
words_of None = []
words_of (Some word) = word ∷ []

abbrev pub fault_at : kind.the_data → Tree → Span → List (List ℕ) → Fault
fault_at kind form place words = record { kind = kind; span = place_of form place; words = words }
