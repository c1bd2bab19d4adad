-- The names of variables.
use Rattle.std.specs.Prelude.{ℕ, List, [], ◌∷◌, Option, None, Some}
use Rattle.indexmap.specs.IndexMap.{insert_entry}
use Rattle.base_data.specs.declared.name.Label.{Label}
use Rattle.core_naming.specs.Generated.{generated_name}
use Rattle.core_language.specs.declared.binding.Binding.{Binding}
use Rattle.core_language.specs.declared.binding.Binding.TheVariants as binding
use Rattle.core_language.specs.declared.binding.VarInfo.{VarInfo}
use Rattle.core_language.specs.Labels.{same_label}
use Rattle.core_output.specs.CoreText.{VariableNames}

-- a variable that is bound at level 0 has an index, and with it a name
abbrev pub with_index : VariableNames → Label → List ℕ → Option ℕ → VariableNames
with_index names l symbol None = names
with_index names l symbol (Some n) = insert_entry same_label names l (generated_name l.0.library symbol n)

abbrev pub with_name : VariableNames → Label → Binding → VariableNames
with_name names l (binding.Variable v) = with_index names l v.symbol v.index
with_name names l (binding.PatternVariable level depth) = names
with_name names l (binding.Macro level expression) = names
with_name names l (binding.Core form) = names
with_name names l (binding.Primitive o) = names

abbrev pub with_names : VariableNames → List (Label × Binding) → VariableNames
with_names names [] = names
with_names names (b ∷ bs) = with_names (with_name names b.0 b.1) bs
