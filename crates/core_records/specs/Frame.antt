-- The frame in which the identifiers that record forms introduce stand for the names of the implementation.
use Rattle.std.specs.Prelude.{ℕ, List, [], ◌∷◌, map}
use Rattle.base_data.specs.Op.{op_text}
use Rattle.base_data.specs.declared.library.LibName.TheVariants as library
use Rattle.base_data.specs.declared.op.names.TheConstants as names
use Rattle.stx_tree.specs.declared.frame_row.FrameRow.{FrameRow}
use Rattle.core_records.specs.Introduced.{core_frame}

-- a name of the implementation, under no marks
abbrev pub core_row : ℕ → FrameRow
core_row n = record { frame = core_frame; symbol = op_text n; marks = []; label = record { 0 = record { library = library.Core; number = n } } }

unfoldable pub rows_for : List ℕ → List FrameRow
rows_for ns = map core_row ns

-- the names that record forms introduce, by number
abbrev pub introduced_numbers : List ℕ
introduced_numbers =
    names.QUOTE ∷ names.LAMBDA ∷ names.BEGIN ∷ names.DEFINE ∷
    names.DEFINE_SYNTAX ∷ names.UNDERSCORE ∷ names.SYNTAX_CASE ∷ names.SYNTAX ∷
    names.MAKE_RECORD_TYPE_DESCRIPTOR ∷ names.MAKE_RECORD_CONSTRUCTOR_DESCRIPTOR ∷ names.RECORD_CONSTRUCTOR ∷ names.RECORD_PREDICATE ∷
    names.RECORD_ACCESSOR ∷ names.RECORD_MUTATOR ∷ names.RECORD_TYPE_DESCRIPTOR ∷ names.RECORD_CONSTRUCTOR_DESCRIPTOR ∷
    names.MUTABLE ∷ names.IMMUTABLE ∷ []

-- their rows, in this order
unfoldable pub record_frame : List FrameRow
record_frame = rows_for introduced_numbers
