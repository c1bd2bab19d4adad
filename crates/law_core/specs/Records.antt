-- Records of libraries that are closed and bound once.
use Rattle.std.specs.Prelude.{ℕ, ◌==◌, nat_eq, Bool, ◌&&◌, List, [], ◌∷◌, ◌++◌, Option, None, Some, if◌then◌else◌}
use Rattle.std.specs.List.{flat_map}
use Rattle.std.specs.Cmp.Lexicographic.{pointwise}
use Rattle.base_data.specs.Elements.{Each, Once}
use Rattle.base_data.specs.declared.name.Label.{Label}
use Rattle.core_language.specs.Core.{PlainCore}
use Rattle.core_language.specs.Labels.{same_label}
use Rattle.core_language.specs.References.{binders}
use Rattle.core_language.specs.declared.binding.Binding.{Binding}
use Rattle.core_language.specs.declared.binding.Binding.TheVariants as binding
use Rattle.core_language.specs.declared.record.CompiledLibrary.{CompiledLibrary}
use Rattle.core_language.specs.declared.record.Line.{Line}
use Rattle.core_language.specs.declared.record.Line.TheVariants as line
use Rattle.core_naming.specs.Generated.{generated_name}
use Rattle.law_core.specs.Words.{each, once}
use Rattle.law_core.specs.Scope.{Closed, closed}

abbrev pub line_core : Line → PlainCore
line_core (line.Define l c) = c
line_core (line.Expr c) = c

-- the label that a line defines
abbrev pub line_labels : Line → List Label
line_labels (line.Define l c) = l ∷ []
line_labels (line.Expr c) = []

-- a definition is a binder of its label too
abbrev pub line_binders : Line → List Label
line_binders r = line_labels r ++ binders (line_core r)

abbrev pub defined : CompiledLibrary → List Label
defined r = flat_map line_labels r.run

abbrev pub run_binders : CompiledLibrary → List Label
run_binders r = flat_map line_binders r.run

-- each run line is closed under the labels that their lines define
abbrev pub LinesClosed : List Label → CompiledLibrary → Type 0
LinesClosed ls r = Each (λ l. Closed ls (line_core l)) r.run

abbrev pub lines_closed : List Label → CompiledLibrary → Bool
lines_closed ls r = each (λ l. closed ls (line_core l)) r.run

abbrev pub AreClosed : List CompiledLibrary → Type 0
AreClosed rs = Each (LinesClosed (flat_map defined rs)) rs

abbrev pub are_closed : List CompiledLibrary → Bool
are_closed rs = each (lines_closed (flat_map defined rs)) rs

abbrev pub indexed_name : Label → List ℕ → Option ℕ → List (List ℕ)
indexed_name l symbol None = []
indexed_name l symbol (Some n) = generated_name l.0.library symbol n ∷ []

-- the generated name of a label that is bound to a variable of level 0
abbrev pub names_bound : Label × Binding → List (List ℕ)
names_bound (l, binding.Variable v) = if v.level == 0 then indexed_name l v.symbol v.index else []
names_bound (l, binding.PatternVariable level depth) = []
names_bound (l, binding.Macro level expression) = []
names_bound (l, binding.Core form) = []
names_bound (l, binding.Primitive o) = []

abbrev pub record_names : CompiledLibrary → List (List ℕ)
record_names r = flat_map names_bound r.bindings

abbrev pub same_text : List ℕ → List ℕ → Bool
same_text a b = pointwise nat_eq a b

-- no label has two binders, and no two variables of level 0 have one generated name
abbrev pub AreBoundOnce : List CompiledLibrary → Type 0
AreBoundOnce rs = Once (flat_map run_binders rs) × Once (flat_map record_names rs)

abbrev pub are_bound_once : List CompiledLibrary → Bool
are_bound_once rs = once same_label (flat_map run_binders rs) && once same_text (flat_map record_names rs)
