-- The libraries that this implementation gives: their names, and the numbers of the names that they export.
use Rattle.std.specs.Prelude.{true, false, not, ◌&&◌, ℕ, zero, suc, ◌+◌, ◌-◌, Bool, ◌==◌, List, [], ◌∷◌, map, Option, codes}
use Rattle.std.specs.Borrow.{Bor}
use Rattle.std.specs.Cmp.Lexicographic.{pointwise}
use Rattle.std.specs.List.{find, flat_map, list_any}
use Rattle.base_data.specs.Op.{name_count}
use Rattle.base_data.specs.declared.op.names.TheConstants as names
use Rattle.load_builtin.specs.declared.library.Library.{Library}
use Rattle.load_builtin.specs.declared.library.Library.TheVariants as l
use Rattle.load_builtin.specs.declared.library.Run.{Run}

abbrev pub now_parts : List (Bor (List ℕ)) → List (List ℕ)
now_parts parts = map (λ (part : Bor (List ℕ)). part.now) parts

abbrev pub library_parts : Library → List (List ℕ)
library_parts l.Rnrs = codes "rnrs" ∷ []
library_parts l.Base = codes "rnrs" ∷ codes "base" ∷ []
library_parts l.Lists = codes "rnrs" ∷ codes "lists" ∷ []
library_parts l.Control = codes "rnrs" ∷ codes "control" ∷ []
library_parts l.SyntaxCase = codes "rnrs" ∷ codes "syntax-case" ∷ []
library_parts l.Exceptions = codes "rnrs" ∷ codes "exceptions" ∷ []
library_parts l.IoSimple = codes "rnrs" ∷ codes "io" ∷ codes "simple" ∷ []
library_parts l.Hashtables = codes "rnrs" ∷ codes "hashtables" ∷ []
library_parts l.Sorting = codes "rnrs" ∷ codes "sorting" ∷ []
library_parts l.Files = codes "rnrs" ∷ codes "files" ∷ []
library_parts l.Programs = codes "rnrs" ∷ codes "programs" ∷ []
library_parts l.RecordsProcedural = codes "rnrs" ∷ codes "records" ∷ codes "procedural" ∷ []
library_parts l.RecordsSyntactic = codes "rnrs" ∷ codes "records" ∷ codes "syntactic" ∷ []

-- from one name up to before another
abbrev pub run : ℕ → ℕ → Run
run from to = record { from = from; to = to }

-- `(rnrs)` has what all the others have but the two on records; `(rnrs syntax-case)` has `...` and `_`
-- of `(rnrs base)` besides its own
abbrev pub library_runs : Library → List Run
library_runs l.Rnrs = run names.QUOTE names.MAKE_RECORD_TYPE_DESCRIPTOR ∷ []
library_runs l.Base = run names.QUOTE names.FIND ∷ []
library_runs l.Lists = run names.FIND names.WHEN ∷ []
library_runs l.Control = run names.WHEN names.MAKE_VARIABLE_TRANSFORMER ∷ []
library_runs l.SyntaxCase = run names.MAKE_VARIABLE_TRANSFORMER names.WITH_EXCEPTION_HANDLER ∷ run names.ELLIPSIS names.UNQUOTE ∷ []
library_runs l.Exceptions = run names.WITH_EXCEPTION_HANDLER names.CALL_WITH_INPUT_FILE ∷ []
library_runs l.IoSimple = run names.CALL_WITH_INPUT_FILE names.MAKE_EQ_HASHTABLE ∷ []
library_runs l.Hashtables = run names.MAKE_EQ_HASHTABLE names.LIST_SORT ∷ []
library_runs l.Sorting = run names.LIST_SORT names.IS_FILE_EXISTS ∷ []
library_runs l.Files = run names.IS_FILE_EXISTS names.COMMAND_LINE ∷ []
library_runs l.Programs = run names.COMMAND_LINE names.MAKE_RECORD_TYPE_DESCRIPTOR ∷ []
library_runs l.RecordsProcedural = run names.MAKE_RECORD_TYPE_DESCRIPTOR names.DEFINE_RECORD_TYPE ∷ []
library_runs l.RecordsSyntactic = run names.DEFINE_RECORD_TYPE name_count ∷ []

abbrev pub has_parts : List (List ℕ) → List (List ℕ) → Bool
has_parts given parts = pointwise (pointwise ◌==◌) given parts

-- the first of some libraries that has a name
abbrev pub first_with : List (List ℕ) → List Library → Option Library
first_with parts libraries = find (λ library. has_parts (library_parts library) parts) libraries

abbrev pub libraries : List Library
libraries = l.Rnrs ∷ l.Base ∷ l.Lists ∷ l.Control ∷ l.SyntaxCase ∷ l.Exceptions ∷ l.IoSimple ∷ l.Hashtables ∷ l.Sorting ∷ l.Files
    ∷ l.Programs ∷ l.RecordsProcedural ∷ l.RecordsSyntactic ∷ []

abbrev pub library_named : List (List ℕ) → Option Library
library_named parts = first_with parts libraries

-- some numbers in a row
abbrev pub in_a_row : ℕ → ℕ → List ℕ
in_a_row n zero = []
in_a_row n (suc k) = n ∷ in_a_row (n + 1) k

abbrev pub run_numbers : Run → List ℕ
run_numbers r = in_a_row r.from (r.to - r.from)

-- the names that a library exports, by their numbers, in order
abbrev pub library_numbers : Library → List ℕ
library_numbers library = flat_map run_numbers (library_runs library)

-- whether a number stands in a list
abbrev pub among : ℕ → List ℕ → Bool
among n ns = list_any (λ m. m == n) ns

-- each number once
abbrev pub once : List ℕ → Bool
once [] = true
once (n ∷ ns) = not (among n ns) && once ns

-- the two libraries on records, whose names `(rnrs)` doesn't have
abbrev pub is_on_records : Library → Bool
is_on_records l.RecordsProcedural = true
is_on_records l.RecordsSyntactic = true
is_on_records _ = false
