-- A link changes nothing else of a state.
use Rattle.std.proofs.Common.{List, Option, Some, None}
use Rattle.base_data.specs.declared.name.Label.{Label}
use Rattle.base_data.specs.declared.span.Span.{Span}
use Rattle.core_language.specs.declared.link.Link.{Link}
use Rattle.core_language.specs.declared.link.LinkKind.{LinkKind}
use Rattle.expand_standing.specs.State.{State, noted}

-- what holds whatever the links are, holds with one more
pub noted-keeps : (P : State → Type 0) (o : Option Span) (l : Label) (k : LinkKind) (s : State) → ((ls : List Link) → P (record s { links = ls })) → P (noted o l k s)
noted-keeps P None l k s h = h s.links
noted-keeps P (Some p) l k s h = h (noted (Some p) l k s).links
