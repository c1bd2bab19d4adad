-- The pieces of a record that are looked at one by one.
use Rattle.std.specs.Prelude.{ℕ, Bool, true, false, ◌&&◌, ◌||◌, List, [], ◌∷◌, ◌++◌, map, Option, None, Some, is_some, if◌then◌else◌}
use Rattle.std.specs.List.{list_any}
use Rattle.std.specs.Map.{lookup}
use Rattle.std.specs.Option.{option_map}
use Rattle.base_data.specs.Same.{same_library}
use Rattle.base_data.specs.declared.library.LibName.{LibName}
use Rattle.base_data.specs.declared.name.Label.{Label}
use Rattle.core_language.specs.Core.{PlainCore}
use Rattle.core_language.specs.References.{binders, mentions}
use Rattle.core_language.specs.declared.binding.Binding.{Binding}
use Rattle.core_language.specs.declared.binding.Binding.TheVariants as binding
use Rattle.core_language.specs.declared.record.Line.{Line}
use Rattle.core_language.specs.declared.record.CompiledLibrary.{CompiledLibrary}
use Rattle.law_core.specs.Follows.{all_binders, all_numbers, bound_labels, is_given, is_own, is_there, key_of, same_index, same_key, suits}
use Rattle.law_core.specs.Parts.{parts}
use Rattle.law_core.specs.Records.{line_core, line_labels}
use Rattle.core_language.specs.Labels.{same_label}
use Rattle.law_core.specs.WellMade.{same_code}
use Rattle.law_core.specs.Words.{among, each, once}
use Rattle.core_well_made.specs.Parts.{noted_all}
use Rattle.core_well_made.specs.declared.parts.NotedParts.{NotedParts}

-- the expression of a keyword
abbrev pub expand_transformer_in : Binding → Option PlainCore
expand_transformer_in (binding.Variable v) = None
expand_transformer_in (binding.PatternVariable level depth) = None
expand_transformer_in (binding.Macro level expression) = expression
expand_transformer_in (binding.Core form) = None
expand_transformer_in (binding.Primitive o) = None

-- what the expression of a keyword binds and mentions
abbrev pub binders_in : Option PlainCore → List Label
binders_in None = []
binders_in (Some c) = binders c

abbrev pub mentions_in : Option PlainCore → List Label
mentions_in None = []
mentions_in (Some c) = mentions c

abbrev pub parts_in : Option PlainCore → List PlainCore
parts_in None = []
parts_in (Some c) = parts c

-- it is well made, and closed under some labels
abbrev pub suits_if : List Label → Option PlainCore → Bool
suits_if ls None = true
suits_if ls (Some c) = suits ls c

-- a variable that a definition of the library binds
abbrev pub is_top : Binding → Bool
is_top (binding.Variable v) = v.top
is_top (binding.PatternVariable level depth) = false
is_top (binding.Macro level expression) = false
is_top (binding.Core form) = false
is_top (binding.Primitive o) = false

-- a definition's label is a variable too
abbrev pub with_line : NotedParts → Line → NotedParts
with_line all l = noted_all (record all { variables = all.variables ++ line_labels l }) (parts (line_core l))

abbrev pub with_lines : NotedParts → List Line → NotedParts
with_lines all [] = all
with_lines all (l ∷ ls) = with_lines (with_line all l) ls

-- the index of a variable
abbrev pub index_of_binding : Binding → Option ℕ
index_of_binding (binding.Variable v) = v.index
index_of_binding (binding.PatternVariable level depth) = None
index_of_binding (binding.Macro level expression) = None
index_of_binding (binding.Core form) = None
index_of_binding (binding.Primitive o) = None

-- all that it binds, its codes and the frames of its rows are named by its own library
abbrev pub all_own : CompiledLibrary → Bool
all_own r = each (λ l. is_own r l.0) (bound_labels r) && (each (λ l. is_own r l.0) (all_binders r)
    && (each (λ n. is_own r n.0) (all_numbers r) && each (λ f. is_own r f.frame.0) r.frames))

-- each of them stands once
abbrev pub all_once : CompiledLibrary → Bool
all_once r = once same_label (bound_labels r) && (once same_label (all_binders r) && (once same_code (all_numbers r) && once same_key (map key_of r.frames)))

-- ---- the indices of its variables

-- the first binding of a label counts
abbrev pub with_index : List (Label × Option ℕ) → Label × Binding → List (Label × Option ℕ)
with_index rows b = if is_some (lookup (same_label b.0) rows) then rows else rows ++ (b.0, index_of_binding b.1) ∷ []

abbrev pub with_indices : List (Label × Option ℕ) → List (Label × Binding) → List (Label × Option ℕ)
with_indices rows [] = rows
with_indices rows (b ∷ bs) = with_indices (with_index rows b) bs

abbrev pub index_if : Option (Option ℕ) → Option ℕ
index_if None = None
index_if (Some index) = index

abbrev pub index_in_table : List (Label × Option ℕ) → Label → Option ℕ
index_in_table rows l = index_if (lookup (same_label l) rows)

abbrev pub before : Option ℕ → Option (List ℕ) → Option (List ℕ)
before None rest = None
before (Some n) rest = option_map (λ ns. n ∷ ns) rest

-- all of them, where none is missing
abbrev pub all_there : List (Option ℕ) → Option (List ℕ)
all_there [] = Some []
all_there (o ∷ os) = before o (all_there os)

-- each is there, and no two are the same
abbrev pub once_there : List (Option ℕ) → Bool
once_there os = each is_there os && once same_index os

abbrev pub behind_all : List ℕ → Option (List ℕ) → Option (List ℕ)
behind_all ns rest = option_map (λ ms. ns ++ ms) rest

-- ---- the labels that it knows

abbrev pub known_by : List (Label × Option ℕ) → List Label → Label → Bool
known_by own earlier l = is_given l || (is_some (lookup (same_label l) own) || among same_label earlier l)

-- ---- the libraries that its lines mention

abbrev pub with_library : LibName → List LibName → Label → List LibName
with_library own libraries l =
    if same_library l.0.library own || list_any (same_library l.0.library) libraries then libraries else libraries ++ l.0.library ∷ []

abbrev pub with_libraries : LibName → List LibName → List Label → List LibName
with_libraries own libraries [] = libraries
with_libraries own libraries (l ∷ ls) = with_libraries own (with_library own libraries l) ls
