-- What a library itself binds and exports.
use Rattle.std.specs.Prelude.{ℕ, zero, suc, Bool, List, [], ◌∷◌, ◌++◌, Option, None, Some, Ok}
use Rattle.base_data.specs.declared.imported_name.ImportedName.{ImportedName}
use Rattle.base_data.specs.declared.name.Label.{Label}
use Rattle.core_language.specs.Bindings.{bound_to}
use Rattle.core_language.specs.Labels.{has_label, with_label}
use Rattle.core_language.specs.declared.binding.Binding.{Binding}
use Rattle.core_language.specs.declared.binding.Binding.TheVariants as binding
use Rattle.core_language.specs.Core.{PlainCore}
use Rattle.eval_stage.specs.Stage.{expression_of}
use Rattle.expand_standing.specs.State.{State, Does, stage_of}

abbrev pub labels_with : List Label → List ImportedName → List Label
labels_with done [] = done
labels_with done (e ∷ es) = labels_with (with_label done e.label) es

-- the labels that the library exports, each with its external name
abbrev pub export_labels : List ImportedName → Does (Unit {0})
export_labels es s = Ok (tt, record s { exports = labels_with [] es })

-- an assignment to a variable of the library
abbrev pub mark_assigned : Label → Does Label
mark_assigned l s = Ok (l, record s { assigned = with_label s.assigned l })

-- a variable of the library is assigned where an assignment of the library has it as target
abbrev pub with_assigned : Bool → Binding → Binding
with_assigned a (binding.Variable v) = binding.Variable (record v { assigned = a })
with_assigned a (binding.PatternVariable level depth) = binding.PatternVariable level depth
with_assigned a (binding.Macro level expression) = binding.Macro level expression
with_assigned a (binding.Core f) = binding.Core f
with_assigned a (binding.Primitive op) = binding.Primitive op

-- a keyword of the library has its expression
abbrev pub with_expression : Option PlainCore → Binding → Binding
with_expression e (binding.Variable v) = binding.Variable v
with_expression e (binding.PatternVariable level depth) = binding.PatternVariable level depth
with_expression e (binding.Macro level expression) = binding.Macro level e
with_expression e (binding.Core f) = binding.Core f
with_expression e (binding.Primitive op) = binding.Primitive op

abbrev pub completed : State → Label → Binding → Binding
completed s l b = with_expression (expression_of l (stage_of s)) (with_assigned (has_label s.assigned l) b)

abbrev pub row_at : State → Label → Option Binding → List (Label × Binding)
row_at s l None = []
row_at s l (Some b) = (l, completed s l b) ∷ []

abbrev pub own_label : State → ℕ → Label
own_label s n = record { 0 = record { library = s.names.library; number = n } }

-- what the library's name of this number is bound to, if it is a label
abbrev pub own_row : State → ℕ → List (Label × Binding)
own_row s n = row_at s (own_label s n) (bound_to s.bindings (own_label s n))

-- what the library's names below this number are bound to, rising by number
abbrev pub own_below : State → ℕ → List (Label × Binding)
own_below s zero = []
own_below s (suc n) = own_below s n ++ own_row s n

-- what the library's labels are bound to
unfoldable pub own_bindings : State → List (Label × Binding)
own_bindings s = own_below s s.names.number
