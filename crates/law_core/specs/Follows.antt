-- When a record of a library may stand behind earlier ones.
use Rattle.std.specs.Prelude.{◌≡◌, ◌⊎◌, ℕ, ◌<◌, nat_lt, nat_eq, Bool, true, false, not, ◌&&◌, ◌||◌, List, [], ◌∷◌, ◌++◌, map, Option, None, Some, is_some, if◌then◌else◌}
use Rattle.std.specs.List.{flat_map}
use Rattle.std.specs.Map.{lookup}
use Rattle.std.specs.Cmp.Lexicographic.{pointwise}
use Rattle.base_data.specs.Elements.{Each, Among, Once}
use Rattle.base_data.specs.Named.{Named}
use Rattle.base_data.specs.Op.{name_count}
use Rattle.base_data.specs.Same.{same_library, same_name}
use Rattle.base_data.specs.declared.imported_name.ImportedName.{ImportedName}
use Rattle.base_data.specs.declared.library.LibName.{LibName}
use Rattle.base_data.specs.declared.library.LibName.TheVariants as library
use Rattle.base_data.specs.declared.name.CodeNo.{CodeNo}
use Rattle.base_data.specs.declared.name.FrameNo.{FrameNo}
use Rattle.base_data.specs.declared.name.Label.{Label}
use Rattle.base_data.specs.declared.name.Mark.{Mark}
use Rattle.stx_tree.specs.SameMarks.{same_marks}
use Rattle.stx_tree.specs.declared.frame_row.FrameRow.{FrameRow}
use Rattle.load_builtin.specs.Exports.{derived_place}
use Rattle.core_language.specs.Core.{PlainCore}
use Rattle.core_language.specs.Labels.{same_label}
use Rattle.core_language.specs.References.{binders, mentions}
use Rattle.core_language.specs.declared.binding.Binding.{Binding}
use Rattle.core_language.specs.declared.binding.Binding.TheVariants as binding
use Rattle.core_language.specs.declared.record.CompiledLibrary.{CompiledLibrary}
use Rattle.core_language.specs.declared.record.Line.{Line}
use Rattle.law_core.specs.Words.{each, among, once}
use Rattle.law_core.specs.Parts.{code_numbers, bound_variables}
use Rattle.law_core.specs.Scope.{Closed, closed}
use Rattle.law_core.specs.WellMade.{IsWellMade, is_well_made, same_code}
use Rattle.law_core.specs.Records.{line_core, line_labels, defined, run_binders, same_text}

abbrev pub names_of : List CompiledLibrary → List LibName
names_of rs = map (λ (r : CompiledLibrary). r.name) rs

abbrev pub export_names : CompiledLibrary → List (List ℕ)
export_names r = map (λ (e : ImportedName). e.name) r.exports

abbrev pub export_labels : CompiledLibrary → List Label
export_labels r = map (λ (e : ImportedName). e.label) r.exports

abbrev pub bound_labels : CompiledLibrary → List Label
bound_labels r = map (λ (b : Label × Binding). b.0) r.bindings

-- the expressions of its keywords
abbrev pub expression_of : Option PlainCore → List PlainCore
expression_of None = []
expression_of (Some c) = c ∷ []

abbrev pub keyword_of : Label × Binding → List PlainCore
keyword_of (l, binding.Variable v) = []
keyword_of (l, binding.PatternVariable level depth) = []
keyword_of (l, binding.Macro level expression) = expression_of expression
keyword_of (l, binding.Core form) = []
keyword_of (l, binding.Primitive o) = []

abbrev pub keywords : CompiledLibrary → List PlainCore
keywords r = flat_map keyword_of r.bindings

-- the core code of its lines, and of its keywords
abbrev pub line_cores : CompiledLibrary → List PlainCore
line_cores r = map line_core r.run

abbrev pub all_cores : CompiledLibrary → List PlainCore
all_cores r = line_cores r ++ keywords r

abbrev pub all_binders : CompiledLibrary → List Label
all_binders r = run_binders r ++ flat_map binders (keywords r)

abbrev pub all_numbers : CompiledLibrary → List CodeNo
all_numbers r = flat_map code_numbers (all_cores r)

-- a frame, a symbol and marks
abbrev pub Key : Type 0
Key = FrameNo × (List ℕ × List Mark)

abbrev pub key_of : FrameRow → Key
key_of r = (r.frame, (r.symbol, r.marks))

abbrev pub same_key : Key → Key → Bool
same_key a b = same_name a.0.0 b.0.0 && (same_text a.1.0 b.1.0 && same_marks a.1.1 b.1.1)

abbrev pub row_labels : CompiledLibrary → List Label
row_labels r = map (λ (f : FrameRow). f.label) r.frames

-- its name is none of theirs and neither that of the core forms nor that of the prelude, and no external name stands twice
pub record HasNewName (r : CompiledLibrary) (earlier : List CompiledLibrary) : Type 0 where
  pub new : Among (names_of earlier) r.name → ⊥
  pub no_core : r.name ≡ library.Core → ⊥
  pub no_prelude : r.name ≡ library.Prelude → ⊥
  pub exports_once : Once (export_names r)

abbrev pub has_new_name : CompiledLibrary → List CompiledLibrary → Bool
has_new_name r earlier = not (among same_library (names_of earlier) r.name) && (not (same_library r.name library.Core)
    && (not (same_library r.name library.Prelude) && once same_text (export_names r)))

abbrev pub IsOwn : CompiledLibrary → Named → Type 0
IsOwn r n = n.library ≡ r.name

abbrev pub is_own : CompiledLibrary → Named → Bool
is_own r n = same_library n.library r.name

-- all that it binds, its codes and the frames of its rows are named by its own library, each but once
pub record NamesItsOwn (r : CompiledLibrary) : Type 0 where
  pub own_bindings : Each (λ l. IsOwn r l.0) (bound_labels r)
  pub own_binders : Each (λ l. IsOwn r l.0) (all_binders r)
  pub own_codes : Each (λ n. IsOwn r n.0) (all_numbers r)
  pub own_frames : Each (λ f. IsOwn r f.frame.0) r.frames
  pub bindings_once : Once (bound_labels r)
  pub binders_once : Once (all_binders r)
  pub codes_once : Once (all_numbers r)
  pub rows_once : Once (map key_of r.frames)

abbrev pub names_its_own : CompiledLibrary → Bool
names_its_own r = each (λ l. is_own r l.0) (bound_labels r) && (each (λ l. is_own r l.0) (all_binders r)
    && (each (λ n. is_own r n.0) (all_numbers r) && (each (λ f. is_own r f.frame.0) r.frames
    && (once same_label (bound_labels r) && (once same_label (all_binders r) && (once same_code (all_numbers r) && once same_key (map key_of r.frames)))))))

-- variables, pattern variables, and keywords with their expressions
abbrev pub IsRecorded : Label × Binding → Type 0
IsRecorded (l, binding.Variable v) = Unit {0}
IsRecorded (l, binding.PatternVariable level depth) = Unit {0}
IsRecorded (l, binding.Macro level None) = ⊥
IsRecorded (l, binding.Macro level (Some c)) = Unit {0}
IsRecorded (l, binding.Core form) = ⊥
IsRecorded (l, binding.Primitive o) = ⊥

abbrev pub is_recorded : Label × Binding → Bool
is_recorded (l, binding.Variable v) = true
is_recorded (l, binding.PatternVariable level depth) = true
is_recorded (l, binding.Macro level None) = false
is_recorded (l, binding.Macro level (Some c)) = true
is_recorded (l, binding.Core form) = false
is_recorded (l, binding.Primitive o) = false

abbrev pub top_label : Label × Binding → List Label
top_label (l, binding.Variable v) = if v.top then l ∷ [] else []
top_label (l, binding.PatternVariable level depth) = []
top_label (l, binding.Macro level expression) = []
top_label (l, binding.Core form) = []
top_label (l, binding.Primitive o) = []

abbrev pub tops : CompiledLibrary → List Label
tops r = flat_map top_label r.bindings

-- its top variables are those that its run lines define
pub record BindsWhatItDefines (r : CompiledLibrary) : Type 0 where
  pub kinds : Each IsRecorded r.bindings
  pub tops_defined : Each (Among (defined r)) (tops r)
  pub defined_top : Each (Among (tops r)) (defined r)

abbrev pub binds_what_it_defines : CompiledLibrary → Bool
binds_what_it_defines r = each is_recorded r.bindings && (each (among same_label (defined r)) (tops r) && each (among same_label (tops r)) (defined r))

-- the label of a name that this implementation gives, and that the derived library doesn't define
abbrev pub IsGiven : Label → Type 0
IsGiven l = (l.0.library ≡ library.Core) × ((l.0.number < name_count) × (derived_place l.0.number ≡ None))

abbrev pub is_given : Label → Bool
is_given l = same_library l.0.library library.Core && (nat_lt l.0.number name_count && not (is_some (derived_place l.0.number)))

-- bound in it or in an earlier record, or given
abbrev pub IsKnown : CompiledLibrary → List CompiledLibrary → Label → Type 0
IsKnown r earlier l = Among (bound_labels r ++ flat_map bound_labels earlier) l ⊎ IsGiven l

abbrev pub is_known : CompiledLibrary → List CompiledLibrary → Label → Bool
is_known r earlier l = among same_label (bound_labels r ++ flat_map bound_labels earlier) l || is_given l

pub record KnowsItsLabels (r : CompiledLibrary) (earlier : List CompiledLibrary) : Type 0 where
  pub exports : Each (IsKnown r earlier) (export_labels r)
  pub rows : Each (IsKnown r earlier) (row_labels r)

abbrev pub knows_its_labels : CompiledLibrary → List CompiledLibrary → Bool
knows_its_labels r earlier = each (is_known r earlier) (export_labels r) && each (is_known r earlier) (row_labels r)

-- core code that is well made, and closed under some labels
abbrev pub Suits : List Label → PlainCore → Type 0
Suits ls c = IsWellMade [] c × Closed ls c

abbrev pub suits : List Label → PlainCore → Bool
suits ls c = is_well_made [] c && closed ls c

-- the variables that its lines define or bind
abbrev pub line_variables : Line → List Label
line_variables l = line_labels l ++ bound_variables (line_core l)

abbrev pub run_variables : CompiledLibrary → List Label
run_variables r = flat_map line_variables r.run

abbrev pub index_in : Option Binding → Option ℕ
index_in None = None
index_in (Some (binding.Variable v)) = v.index
index_in (Some (binding.PatternVariable level depth)) = None
index_in (Some (binding.Macro level expression)) = None
index_in (Some (binding.Core form)) = None
index_in (Some (binding.Primitive o)) = None

abbrev pub index_of : CompiledLibrary → Label → Option ℕ
index_of r l = index_in (lookup (same_label l) r.bindings)

abbrev pub indices : CompiledLibrary → List (Option ℕ)
indices r = map (index_of r) (run_variables r)

abbrev pub IsThere : Option ℕ → Type 0
IsThere None = ⊥
IsThere (Some n) = Unit {0}

abbrev pub is_there : Option ℕ → Bool
is_there None = false
is_there (Some n) = true

abbrev pub same_index : Option ℕ → Option ℕ → Bool
same_index None None = true
same_index None (Some n) = false
same_index (Some m) None = false
same_index (Some m) (Some n) = nat_eq m n

-- its run lines are well made, and closed under the variables that it and the earlier ones define; each variable defined
-- or bound in them has an index of its own; its keywords are well made, and closed under the variables of the earlier ones
pub record HasGoodCode (r : CompiledLibrary) (earlier : List CompiledLibrary) : Type 0 where
  pub lines : Each (Suits (flat_map defined earlier ++ defined r)) (line_cores r)
  pub indexed : Each IsThere (indices r)
  pub indexed_once : Once (indices r)
  pub transformers : Each (Suits (flat_map defined earlier)) (keywords r)

abbrev pub has_good_code : CompiledLibrary → List CompiledLibrary → Bool
has_good_code r earlier = each (suits (flat_map defined earlier ++ defined r)) (line_cores r) && (each is_there (indices r)
    && (once same_index (indices r) && each (suits (flat_map defined earlier)) (keywords r)))

-- the libraries whose variables its lines mention
abbrev pub library_of : Label → LibName
library_of l = l.0.library

abbrev pub mentioned : CompiledLibrary → List LibName
mentioned r = map library_of (flat_map mentions (line_cores r))

-- those of them that aren't there yet, each once, in order of first place
abbrev pub joined : List LibName → List LibName → List LibName
joined found [] = found
joined found (l ∷ ls) = if among same_library found l then joined found ls else joined (found ++ l ∷ []) ls

-- but for one
abbrev pub others : LibName → List LibName → List LibName
others own [] = []
others own (l ∷ ls) = if same_library l own then others own ls else l ∷ others own ls

abbrev pub run_references : CompiledLibrary → List LibName
run_references r = joined [] (others r.name (mentioned r))

-- its references are the other libraries whose variables its lines mention, each once, in order of first place
pub record RefersToEarlier (r : CompiledLibrary) (earlier : List CompiledLibrary) : Type 0 where
  pub references : r.refs ≡ run_references r
  pub known : Each (Among (names_of earlier)) r.refs

abbrev pub refers_to_earlier : CompiledLibrary → List CompiledLibrary → Bool
refers_to_earlier r earlier = pointwise same_library r.refs (run_references r) && each (among same_library (names_of earlier)) r.refs

-- a record follows earlier ones
pub record Follows (r : CompiledLibrary) (earlier : List CompiledLibrary) : Type 0 where
  pub named : HasNewName r earlier
  pub own : NamesItsOwn r
  pub bindings : BindsWhatItDefines r
  pub labels : KnowsItsLabels r earlier
  pub code : HasGoodCode r earlier
  pub references : RefersToEarlier r earlier

abbrev pub follows : CompiledLibrary → List CompiledLibrary → Bool
follows r earlier = has_new_name r earlier && (names_its_own r && (binds_what_it_defines r && (knows_its_labels r earlier
    && (has_good_code r earlier && refers_to_earlier r earlier))))
