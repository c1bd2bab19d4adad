-- The state that the expansion of a library begins with (R6RS 7.1).
use Rattle.std.specs.Prelude.{ℕ, List, [], ◌∷◌, ◌++◌, Option, None, Some, map, slice_get}
use Rattle.base_data.specs.Named.{Named}
use Rattle.base_data.specs.declared.imported_name.ImportedName.{ImportedName}
use Rattle.base_data.specs.declared.library.LibName.{LibName}
use Rattle.base_data.specs.declared.name.FrameNo.{FrameNo}
use Rattle.base_data.specs.declared.name.Label.{Label}
use Rattle.stx_tree.specs.declared.frame_row.FrameRow.{FrameRow}
use Rattle.stx_frames.specs.Scope.{adopted}
use Rattle.core_language.specs.declared.binding.Binding.{Binding}
use Rattle.core_language.specs.declared.record.CompiledLibrary.{CompiledLibrary}
use Rattle.eval_code.specs.Codes.{Codes}
use Rattle.core_records.specs.Frame.{record_frame}
use Rattle.expand_standing.specs.State.{State}

abbrev pub or_skip : Option CompiledLibrary → List CompiledLibrary → List CompiledLibrary
or_skip None rs = rs
or_skip (Some r) rs = r ∷ rs

-- the records at these places
abbrev pub records_at : List CompiledLibrary → List ℕ → List CompiledLibrary
records_at rs [] = []
records_at rs (i ∷ is) = or_skip (slice_get rs i) (records_at rs is)

abbrev pub bindings_of : List CompiledLibrary → List (Label × Binding)
bindings_of [] = []
bindings_of (r ∷ rs) = r.bindings ++ bindings_of rs

abbrev pub rows_of : List CompiledLibrary → List FrameRow
rows_of [] = []
rows_of (r ∷ rs) = r.frames ++ rows_of rs

-- the first name of a library is that of its frame, which holds imports and definitions
abbrev pub first_name : LibName → Named
first_name library = record { library = library; number = 0 }

abbrev pub second_name : LibName → Named
second_name library = record { library = library; number = 1 }

abbrev pub first_frame : LibName → FrameNo
first_frame library = record { 0 = first_name library }

-- an imported name stands for its label, under no marks
abbrev pub import_row : FrameNo → ImportedName → FrameRow
import_row frame n = record { frame = frame; symbol = n.name; marks = []; label = n.label }

-- what the records before it bind, the frame of what record forms introduce, and the names that it imports; at most 1,000,000 keywords are used. The codes are those of the
-- procedures that are texts.
unfoldable pub started : LibName → List CompiledLibrary → List ImportedName → Codes → State
started library records imports codes = record {
  library = library;
  names = second_name library;
  frames = adopted [] (rows_of records ++ (record_frame ++ map (import_row (first_frame library)) imports));
  bindings = bindings_of records;
  exports = [];
  assigned = [];
  uses_left = 1000000;
  record_types = 0;
  index = 0;
  scope = [];
  cells = [];
  codes = codes;
  globals = [];
  evaluated = [];
  keywords = [];
  spent = 0;
  links = [];
}
