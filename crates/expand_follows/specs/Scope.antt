-- Labels in scope, and at the top.
use Rattle.std.specs.Prelude.{◌≡◌, Bool, ◌&&◌, List, ◌++◌, Option, None, Some}
use Rattle.std.specs.List.{flat_map}
use Rattle.base_data.specs.declared.name.Label.{Label}
use Rattle.core_language.specs.Core.{PlainCore, PlainInits}
use Rattle.core_language.specs.Labels.{same_label}
use Rattle.core_language.specs.References.{formals_labels}
use Rattle.core_language.specs.declared.formals.Formals.{Formals}
use Rattle.core_language.specs.declared.record.CompiledLibrary.{CompiledLibrary}
use Rattle.law_core.specs.Records.{defined}
use Rattle.law_core.specs.Scope.{closed, inits_closed}
use Rattle.law_core.specs.Words.{among}

-- what is in scope, before what the earlier records define and what a record defines itself
abbrev pub under : List Label → List CompiledLibrary → List Label → List Label
under scope earlier own = scope ++ (flat_map defined earlier ++ own)

-- two lists of labels have the same labels among them
abbrev pub SameAmong : List Label → List Label → Type 0
SameAmong ls ms = (l : Label) → among same_label ls l ≡ among same_label ms l

-- the body of a case
abbrev pub case_closed : List Label → Formals → PlainCore → Bool
case_closed ls f c = closed (formals_labels f ++ ls) c

-- the values and the body of a `letrec`
abbrev pub values_closed : List Label → PlainInits → PlainCore → Bool
values_closed ls is c = inits_closed ls is && closed ls c

-- the fender and the output of a clause
abbrev pub output_closed : List Label → Option PlainCore → PlainCore → Bool
output_closed ls None c = closed ls c
output_closed ls (Some f) c = closed ls f && closed ls c
