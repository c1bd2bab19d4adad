-- What each linked identifier leads to.
use Rattle.std.specs.Prelude.{Bool, true, false, ◌&&◌, List, Option, Some, None}
use Rattle.std.specs.List.{find}
use Rattle.base_data.specs.declared.name.Label.{Label}
use Rattle.core_language.specs.Labels.{same_label}
use Rattle.core_language.specs.declared.link.Link.{Link}
use Rattle.core_language.specs.declared.link.LinkKind.{LinkKind}
use Rattle.core_language.specs.declared.link.LinkKind.TheVariants as kinds
use Rattle.core_language.specs.declared.link.Target.{Target}
use Rattle.core_language.specs.declared.link.Target.TheVariants as target
use Rattle.run_xref.specs.declared.pair.Pair.{Pair}

abbrev pub is_binder : LinkKind → Bool
is_binder kinds.Bind = true
is_binder kinds.Refer = false
is_binder (kinds.Prim o) = false

-- an identifier binds a label
abbrev pub binds : Label → Link → Bool
binds l k = is_binder k.kind && same_label l k.label

-- the first identifier that binds a label, where one does
abbrev pub binder : List Link → Label → Option Link
binder links l = find (binds l) links

abbrev pub target_of : Option Link → Target
target_of None = target.Nowhere
target_of (Some k) = target.Place k.span

abbrev pub leads_to : List Link → Label → LinkKind → Target
leads_to links l kinds.Bind = target_of (binder links l)
leads_to links l kinds.Refer = target_of (binder links l)
leads_to links l (kinds.Prim o) = target.Prim o

-- an identifier, and what it leads to among these links
abbrev pub pair_of : List Link → Link → Pair
pair_of links k = record { span = k.span; target = leads_to links k.label k.kind }
