-- The names that an import set gives (R6RS 7.1).
use Rattle.std.specs.Prelude.{ℕ, Bool, List, [], ◌∷◌, ◌++◌, map, filter, not, Option, Some, None, is_some, Result, Ok, Err, if◌then◌else◌, unwrap_or}
use Rattle.std.specs.List.{list_any, find}
use Rattle.base_data.specs.Gives.{◌>>=◌}
use Rattle.base_data.specs.Same.{same_name}
use Rattle.base_data.specs.declared.fault.Fault.{Fault}
use Rattle.base_data.specs.declared.fault.FaultKind.TheVariants.{ImportNameMissing, ImportConflict}
use Rattle.base_data.specs.declared.imported_name.ImportedName.{ImportedName}
use Rattle.base_data.specs.declared.name.Label.{Label}
use Rattle.base_data.specs.declared.span.Span.{Span}
use Rattle.load_import.specs.Table.{same_text, value_of}
use Rattle.load_import.specs.Turns.{turns}
use Rattle.load_import.specs.declared.set.NameAt.{NameAt}
use Rattle.load_import.specs.declared.set.Renaming.{Renaming}
use Rattle.load_import.specs.declared.set.ImportStep.{ImportStep}
use Rattle.load_import.specs.declared.set.ImportStep.TheVariants.{Only, Except, Prefix, Rename}
use Rattle.load_import.specs.declared.set.ImportSet.{ImportSet}

-- names with their labels, in order
abbrev pub Labelled : Type 0
Labelled = List ImportedName

-- the label of a name: that of the first with it
abbrev pub label_named : List ℕ → Labelled → Option Label
label_named name [] = None
label_named name (e ∷ es) = if same_text name e.name then Some e.label else label_named name es

abbrev pub same_label : Label → Label → Bool
same_label a b = same_name a.0 b.0

abbrev pub conflict : Span → List ℕ → Fault
conflict span name = record { kind = ImportConflict; span = span; words = name ∷ [] }

abbrev pub missing_at : NameAt → Fault
missing_at id = record { kind = ImportNameMissing; span = id.span; words = id.name ∷ [] }

-- a name that is there with this label is taken once, and one with another label is a conflict
abbrev pub join_by : Span → Labelled → ImportedName → Option Label → Result Labelled Fault
join_by span names e None = Ok (names ++ e ∷ [])
join_by span names e (Some label) = if same_label label e.label then Ok names else Err (conflict span e.name)

abbrev pub join_one : Span → Labelled → ImportedName → Result Labelled Fault
join_one span names e = join_by span names e (label_named e.name names)

-- names joined to others, in order
abbrev pub joined : Span → Labelled → Labelled → Result Labelled Fault
joined span names more = turns (join_one span) names more

abbrev pub is_among : List NameAt → List ℕ → Bool
is_among ids name = list_any (λ id. same_text name id.name) ids

abbrev pub has_name : Labelled → List ℕ → Bool
has_name names name = is_some (label_named name names)

-- a name at the end, unless it is there
abbrev pub put_named : Labelled → ImportedName → Labelled
put_named names e = if has_name names e.name then names else names ++ e ∷ []

-- one name after another, each unless it is there
abbrev pub put_each : Labelled → Labelled → Labelled
put_each names [] = names
put_each names (e ∷ es) = put_each (put_named names e) es

-- the first identifier whose name isn't there is at fault
abbrev pub need_by : {A : Type 0} → Option NameAt → Result A Fault → Result A Fault
need_by None x = x
need_by (Some id) x = Err (missing_at id)

abbrev pub need : {A : Type 0} → Labelled → List NameAt → Result A Fault → Result A Fault
need names ids x = need_by (find (λ id. not (has_name names id.name)) ids) x

abbrev pub only : List NameAt → Labelled → Labelled
only ids names = filter (λ e. is_among ids e.name) names

abbrev pub except : List NameAt → Labelled → Labelled
except ids names = filter (λ e. not (is_among ids e.name)) names

abbrev pub prefixed : List ℕ → Labelled → Labelled
prefixed symbol names = map (λ (e : ImportedName). record { name = symbol ++ e.name; label = e.label }) names

-- where a name is renamed twice, the first counts
abbrev pub pairs_of : List Renaming → List (List ℕ × List ℕ)
pairs_of renamings = map (λ r. (r.from.name, r.to)) renamings

abbrev pub new_name : List Renaming → List ℕ → List ℕ
new_name renamings name = unwrap_or (value_of name (pairs_of renamings)) name

abbrev pub renamed : List Renaming → Labelled → Labelled
renamed renamings names = map (λ (e : ImportedName). record { name = new_name renamings e.name; label = e.label }) names

abbrev pub sources : List Renaming → List NameAt
sources renamings = map (λ r. r.from) renamings

abbrev pub step_names : Span → Labelled → ImportStep → Result Labelled Fault
step_names span names (Only ids) = need names ids (Ok (only ids names))
step_names span names (Except ids) = need names ids (Ok (except ids names))
step_names span names (Prefix symbol) = Ok (prefixed symbol names)
step_names span names (Rename renamings) = need names (sources renamings) (joined span [] (renamed renamings names))

-- the library's exports in their order, and then step by step from the innermost word
abbrev pub import_names : ImportSet → Span → Labelled → Result Labelled Fault
import_names set span exports = joined span [] exports >>= (λ names. turns (step_names span) names set.steps)
