-- The start of a source that is skipped.
use Rattle.std.specs.Prelude.{ℕ, Bool, List, [], ◌∷◌, drop, Result, Ok, ◌||◌, if◌then◌else◌, nat_eq, codes}
use Rattle.std.specs.List.{starts_with}
use Rattle.base_data.specs.declared.fault.Fault.{Fault}
use Rattle.read_lexer.specs.Gap.{rest_of_line}
use Rattle.read_spelling.specs.Source.{characters}
use Rattle.read_lexer.specs.declared.gap.Until.TheVariants as until

-- U+FEFF in UTF-8
abbrev pub byte_order_mark : List ℕ
byte_order_mark = 0xEF ∷ 0xBB ∷ 0xBF ∷ []

abbrev pub mark_end : List ℕ → ℕ
mark_end bytes = if starts_with nat_eq bytes byte_order_mark then 3 else 0

-- a line for the system, which says how to run the file
abbrev pub is_run_line : List ℕ → Bool
is_run_line bytes = starts_with nat_eq bytes (codes "#!/") || starts_with nat_eq bytes (codes "#! ")

abbrev pub run_line_end : List ℕ → ℕ → List ℕ → Result ℕ Fault
run_line_end file at bytes = if is_run_line bytes then rest_of_line file until.LineEnd at (characters bytes) else Ok at

-- the offset behind a byte order mark, and then behind a line for the system
abbrev pub start_of : List ℕ → List ℕ → Result ℕ Fault
start_of file bytes = run_line_end file (mark_end bytes) (drop (mark_end bytes) bytes)
