-- The indices of the variables that labels are bound to.
use Rattle.std.specs.Prelude.{ℕ, List, [], ◌∷◌, Option, None, Some}
use Rattle.base_data.specs.declared.name.Label.{Label}
use Rattle.core_language.specs.declared.binding.Binding.TheVariants as binding
use Rattle.core_language.specs.declared.binding.Binding.{Binding}

abbrev pub there : Option ℕ → List ℕ
there None = []
there (Some n) = n ∷ []

-- only variables of level 0 have an index
abbrev pub bound_index : Label × Binding → List ℕ
bound_index (l, binding.Variable v) = there v.index
bound_index (l, binding.PatternVariable level depth) = []
bound_index (l, binding.Macro level expression) = []
bound_index (l, binding.Core form) = []
bound_index (l, binding.Primitive o) = []
