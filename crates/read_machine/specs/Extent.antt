-- Spans and faults at some bytes of a file.
use Rattle.std.specs.Prelude.{ℕ, List, [], Option, Some}
use Rattle.base_data.specs.declared.span.Span.{Span}
use Rattle.base_data.specs.declared.fault.Fault.{Fault}
use Rattle.base_data.specs.declared.fault.FaultKind.{FaultKind}
use Rattle.read_machine.specs.declared.extent.Extent.{Extent}

abbrev pub span_at : List ℕ → Extent → Option Span
span_at file at = Some (record { file = file; from = at.from; to = at.to })

-- a fault without words
abbrev pub fault_at : List ℕ → FaultKind → Extent → Fault
fault_at file kind at = record { kind = kind; span = record { file = file; from = at.from; to = at.to }; words = [] }

-- from where one begins to where the other ends
abbrev pub through : Extent → Extent → Extent
through first last = record { from = first.from; to = last.to }
