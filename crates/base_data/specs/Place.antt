-- Lines and columns of a source (R6RS 4.2.2 says what ends a line).
use Rattle.std.specs.Prelude.{ℕ, zero, suc, ◌+◌, ◌-◌, Bool, true, false, List, Option, Some, None, slice_index, drop, ◌==◌, ◌&&◌, nat_le, nat_lt, if◌then◌else◌}
use Rattle.bstr.specs.Utf8.{decoded}

-- how many bytes the line end takes that these three begin with, or 0: a line feed, a carriage return with or without
-- a line feed or U+0085 behind it, U+0085 or U+2028
abbrev pub line_end_of : ℕ → ℕ → ℕ → ℕ
line_end_of b c d = if b == 0x0A then 1
    else if b == 0x0D then (if c == 0x0A then 2 else if c == 0xC2 && d == 0x85 then 3 else 1)
    else if b == 0xC2 && c == 0x85 then 2
    else if b == 0xE2 && c == 0x80 && d == 0xA8 then 3 else 0

abbrev pub line_end : List ℕ → ℕ
line_end bytes = line_end_of (slice_index bytes 0) (slice_index bytes 1) (slice_index bytes 2)

abbrev pub size_of : Option ℕ → ℕ → ℕ
size_of None size = 1
size_of (Some c) size = size

-- how many bytes the first character takes; a byte in no valid sequence is one
abbrev pub char_size : List ℕ → ℕ
char_size bytes = size_of (decoded bytes).char (decoded bytes).size

-- a line end or a character, and how many bytes it takes
pub record Piece : Type 0 where
  pub ends : Bool
  pub size : ℕ

-- what the bytes begin with, where the offset is left bytes away: a line end counts where it ends at or before the offset
abbrev pub piece : List ℕ → ℕ → Piece
piece bytes left = if nat_lt 0 (line_end bytes) && nat_le (line_end bytes) left
    then record { ends = true; size = line_end bytes }
    else record { ends = false; size = char_size bytes }

-- the place behind a piece
abbrev pub moved : ℕ × ℕ → Bool → ℕ × ℕ
moved at ends = if ends then (at.0 + 1, 1) else (at.0, at.1 + 1)

-- the place of the offset left bytes away, where the bytes begin at this place; k pieces are enough where left ≤ k
unfoldable pub place_from : ℕ → List ℕ → ℕ → ℕ × ℕ → ℕ × ℕ
place_from zero bytes left at = at
place_from (suc k) bytes left at = if left == 0 then at
    else place_from k (drop (piece bytes left).size bytes) (left - (piece bytes left).size) (moved at (piece bytes left).ends)

-- the line and the column of an offset, both from 1
abbrev pub place : List ℕ → ℕ → ℕ × ℕ
place source offset = place_from offset source offset (1, 1)
