-- Which names variables and primitives have in core text.
use Rattle.std.specs.Prelude.{◌≡◌, ℕ, ◌<◌, false, List, Some}
use Rattle.std.specs.Map.{lookup}
use Rattle.base_data.specs.Elements.{Each}
use Rattle.base_data.specs.Op.{name_count, is_keyword}
use Rattle.base_data.specs.declared.name.Label.{Label}
use Rattle.core_language.specs.Labels.{same_label}
use Rattle.core_output.specs.CoreText.{VariableNames}
use Rattle.law_names.specs.Variable.{NamedVariable}
use Rattle.law_names.specs.Variable as variables

-- the variable of this label is called so
abbrev pub IsCalled : VariableNames → Label → List ℕ → Type 0
IsCalled names l x = lookup (same_label l) names ≡ Some x

-- a name that this implementation gives, of a procedure or another value, and no keyword
abbrev pub IsPrimitive : ℕ → Type 0
IsPrimitive o = (o < name_count) × (is_keyword o ≡ false)

-- the generated name of a variable
pub record IsGenerated (x : List ℕ) : Type 0 where
  pub of : NamedVariable
  pub same : x ≡ variables.name_of of

-- each name is a generated one
abbrev pub AreGenerated : VariableNames → Type 0
AreGenerated names = Each (λ (r : Label × List ℕ). IsGenerated r.1) names

-- no two variables are called the same
abbrev pub TellApart : VariableNames → Type 0
TellApart names = (l m : Label) (x : List ℕ) → IsCalled names l x → IsCalled names m x → l ≡ m
