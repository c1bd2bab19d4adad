-- The variables that labels are bound to, by what their generated names tell: the library and the index.
use Rattle.std.specs.Prelude.{ℕ, ◌==◌, List, [], ◌∷◌, Option, None, Some, if◌then◌else◌}
use Rattle.std.specs.List.{flat_map}
use Rattle.base_data.specs.declared.library.LibName.{LibName}
use Rattle.base_data.specs.declared.name.Label.{Label}
use Rattle.core_language.specs.declared.binding.Binding.{Binding}
use Rattle.core_language.specs.declared.binding.Binding.TheVariants as binding
use Rattle.core_language.specs.declared.record.CompiledLibrary.{CompiledLibrary}

abbrev pub indexed : Label → Option ℕ → List (LibName × ℕ)
indexed l None = []
indexed l (Some n) = (l.0.library, n) ∷ []

-- the library and the index of a label that is bound to a variable of level 0
abbrev pub named_variable : Label × Binding → List (LibName × ℕ)
named_variable (l, binding.Variable v) = if v.level == 0 then indexed l v.index else []
named_variable (l, binding.PatternVariable level depth) = []
named_variable (l, binding.Macro level expression) = []
named_variable (l, binding.Core form) = []
named_variable (l, binding.Primitive o) = []

abbrev pub named_variables : CompiledLibrary → List (LibName × ℕ)
named_variables r = flat_map named_variable r.bindings
