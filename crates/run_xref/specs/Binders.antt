-- A table of the first identifier that binds each label.
use Rattle.std.specs.Prelude.{List, [], ◌∷◌, ◌++◌, Option, Some, None, is_some, if◌then◌else◌}
use Rattle.std.specs.Map.{lookup}
use Rattle.base_data.specs.declared.name.Label.{Label}
use Rattle.core_language.specs.Labels.{same_label}
use Rattle.core_language.specs.declared.link.Link.{Link}
use Rattle.core_language.specs.declared.link.LinkKind.{LinkKind}
use Rattle.core_language.specs.declared.link.LinkKind.TheVariants as kinds
use Rattle.run_xref.specs.Links.{is_binder}
use Rattle.run_xref.specs.Rows.{FileNames, at_of}
use Rattle.run_xref.specs.declared.rows.Aim.{Aim}
use Rattle.run_xref.specs.declared.rows.Aim.TheVariants as aim
use Rattle.run_xref.specs.declared.rows.At.{At}
use Rattle.run_xref.specs.declared.rows.LinkRow.{LinkRow}

abbrev pub BinderPlaces : Type 0
BinderPlaces = List (Label × At)

abbrev pub bound_at : BinderPlaces → Label → Option At
bound_at binders l = lookup (same_label l) binders

-- a span for a label, unless it has one
abbrev pub with_place : BinderPlaces → Label → At → BinderPlaces
with_place binders l at = if is_some (bound_at binders l) then binders else binders ++ (l, at) ∷ []

abbrev pub with_binder : FileNames → BinderPlaces → Link → BinderPlaces
with_binder files binders k = if is_binder k.kind then with_place binders k.label (at_of files k.span) else binders

abbrev pub with_binders : FileNames → BinderPlaces → List Link → BinderPlaces
with_binders files binders [] = binders
with_binders files binders (k ∷ ks) = with_binders files (with_binder files binders k) ks

abbrev pub place_or_nowhere : Option At → Aim
place_or_nowhere None = aim.Nowhere
place_or_nowhere (Some at) = aim.Place at

abbrev pub binder_at : BinderPlaces → Label → Aim
binder_at binders l = place_or_nowhere (bound_at binders l)

abbrev pub aim_by : BinderPlaces → Label → LinkKind → Aim
aim_by binders l kinds.Bind = binder_at binders l
aim_by binders l kinds.Refer = binder_at binders l
aim_by binders l (kinds.Prim o) = aim.Prim o

-- the row of a link, by a table
abbrev pub row_by : FileNames → BinderPlaces → Link → LinkRow
row_by files binders k = record { at = at_of files k.span; aim = aim_by binders k.label k.kind }
