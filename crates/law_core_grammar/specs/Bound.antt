-- The variables that get names, from what the labels of records are bound to.
use Rattle.std.specs.Prelude.{ℕ, List, [], ◌∷◌, ◌++◌, map, Option, None, Some, slice_get}
use Rattle.std.specs.List.{flat_map}
use Rattle.base_data.specs.Elements.{Each, Among, Once}
use Rattle.base_data.specs.declared.library.LibName.{LibName}
use Rattle.base_data.specs.declared.name.Label.{Label}
use Rattle.core_language.specs.declared.binding.Binding.{Binding}
use Rattle.core_language.specs.declared.binding.Binding.TheVariants as binding
use Rattle.core_language.specs.declared.record.CompiledLibrary.{CompiledLibrary}
use Rattle.core_output.specs.Whole.{all_names}
use Rattle.law_names.specs.Variable.{NamedVariable, IsNamed}
use Rattle.law_core_grammar.specs.Names.{AreGenerated, TellApart}
use Rattle.law_core_grammar.specs.Spellable.{HasName}

-- a label, and the variable that its name tells
pub record Bound : Type 0 where
  pub label : Label
  pub variable : NamedVariable

abbrev pub bound_by : Label → List ℕ → Option ℕ → List Bound
bound_by l symbol None = []
bound_by l symbol (Some n) = record { label = l; variable = record { library = l.0.library; symbol = symbol; number = n } } ∷ []

abbrev pub bound_in : Label × Binding → List Bound
bound_in (l, binding.Variable v) = bound_by l v.symbol v.index
bound_in (l, binding.PatternVariable level depth) = []
bound_in (l, binding.Macro level expression) = []
bound_in (l, binding.Core form) = []
bound_in (l, binding.Primitive o) = []

abbrev pub record_bindings : Option CompiledLibrary → List (Label × Binding)
record_bindings None = []
record_bindings (Some r) = r.bindings

-- those of the planned libraries, and those of the program
abbrev pub all_bindings : List CompiledLibrary → List ℕ → CompiledLibrary → List (Label × Binding)
all_bindings records [] program = program.bindings
all_bindings records (p ∷ ps) program = record_bindings (slice_get records p) ++ all_bindings records ps program

abbrev pub all_bound : List CompiledLibrary → List ℕ → CompiledLibrary → List Bound
all_bound records plan program = flat_map bound_in (all_bindings records plan program)

-- the library and the number of a variable
abbrev pub place : Bound → LibName × ℕ
place b = (b.variable.library, b.variable.number)

-- each variable that is bound with an index has a name
abbrev pub BoundHaveNames : Type 0
BoundHaveNames = (records : List CompiledLibrary) (plan : List ℕ) (program : CompiledLibrary) (b : Bound) → Among (all_bound records plan program) b
    → HasName (all_names records plan program) b.label

-- a variable of the program or of a library that has a name
abbrev pub IsTold : Bound → Type 0
IsTold b = IsNamed b.variable.library

-- names are generated ones, and tell such variables apart where no two share library and number
abbrev pub NamesAreGenerated : Type 0
NamesAreGenerated = (records : List CompiledLibrary) (plan : List ℕ) (program : CompiledLibrary) → AreGenerated (all_names records plan program)

abbrev pub NamesTellApart : Type 0
NamesTellApart = (records : List CompiledLibrary) (plan : List ℕ) (program : CompiledLibrary) → Each IsTold (all_bound records plan program)
    → Once (map place (all_bound records plan program)) → TellApart (all_names records plan program)
