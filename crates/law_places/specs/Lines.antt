-- The line and the column of an offset as R6RS 4.2.2 has them: the line ends and the characters of the whole source,
-- counted.
use Rattle.std.specs.Prelude.{ℕ, zero, suc, ◌+◌, max, List, [], ◌∷◌, length, drop, filter, ◌&&◌, nat_eq, nat_le, nat_lt, if◌then◌else◌}
use Rattle.std.specs.List.{starts_with}
use Rattle.base_data.specs.Place.{char_size}

-- what ends a line, in UTF-8: a line feed, a return, a return with a line feed, U+0085, a return with U+0085, U+2028
abbrev pub endings : List (List ℕ)
endings = (0x0A ∷ []) ∷ (0x0D ∷ []) ∷ (0x0D ∷ 0x0A ∷ []) ∷ (0xC2 ∷ 0x85 ∷ []) ∷ (0x0D ∷ 0xC2 ∷ 0x85 ∷ []) ∷ (0xE2 ∷ 0x80 ∷ 0xA8 ∷ []) ∷ []

-- the length of a text that the bytes begin with, or 0 where they don't
abbrev pub front_size : List ℕ → List ℕ → ℕ
front_size bytes text = if starts_with nat_eq bytes text then length text else 0

-- the length of the longest of some texts that the bytes begin with, or 0 where they begin with none
unfoldable pub longest : List ℕ → List (List ℕ) → ℕ
longest bytes [] = 0
longest bytes (text ∷ texts) = max (front_size bytes text) (longest bytes texts)

-- where the line ends end, in bytes that begin at p: the longest line end that comes is taken whole, and where none
-- comes a character is stepped over; k steps are enough where there are at most k bytes
unfoldable pub ends_from : ℕ → ℕ → List ℕ → List ℕ
ends_from zero p bytes = []
ends_from (suc k) p [] = []
ends_from (suc k) p (b ∷ rest) = if nat_lt 0 (longest (b ∷ rest) endings)
    then (p + longest (b ∷ rest) endings) ∷ ends_from k (p + longest (b ∷ rest) endings) (drop (longest (b ∷ rest) endings) (b ∷ rest))
    else ends_from k (p + char_size (b ∷ rest)) (drop (char_size (b ∷ rest)) (b ∷ rest))

-- the offsets at which the line ends of a source end, in order
abbrev pub line_ends : List ℕ → List ℕ
line_ends source = ends_from (length source) 0 source

-- where the characters of bytes that begin at p begin; k steps are enough where the bytes are at most k
unfoldable pub starts_from : ℕ → ℕ → List ℕ → List ℕ
starts_from zero p bytes = []
starts_from (suc k) p [] = []
starts_from (suc k) p (b ∷ rest) = p ∷ starts_from k (p + char_size (b ∷ rest)) (drop (char_size (b ∷ rest)) (b ∷ rest))

-- the offsets at which the characters of a source begin, in order; a byte that is in no UTF-8 sequence counts as one
abbrev pub characters : List ℕ → List ℕ
characters source = starts_from (length source) 0 source

-- the last of some numbers, or else this one
abbrev pub last_of : ℕ → List ℕ → ℕ
last_of other [] = other
last_of other (n ∷ more) = last_of n more

-- the line ends that end at or before the offset
abbrev pub ends_up_to : ℕ → List ℕ → List ℕ
ends_up_to offset ends = filter (λ e. nat_le e offset) ends

-- the characters that begin at or after the start of a line and before the offset
abbrev pub begun_between : ℕ → ℕ → List ℕ → List ℕ
begun_between start offset starts = filter (λ s. nat_le start s && nat_lt s offset) starts

-- 1 plus the number of line ends that end at or before the offset
abbrev pub line : List ℕ → ℕ → ℕ
line source offset = 1 + length (ends_up_to offset (line_ends source))

-- where the line of the offset starts: at the end of the last of these line ends, or at the start of the source
abbrev pub line_start : List ℕ → ℕ → ℕ
line_start source offset = last_of 0 (ends_up_to offset (line_ends source))

-- 1 plus the number of characters that begin in this line and before the offset
abbrev pub column : List ℕ → ℕ → ℕ
column source offset = 1 + length (begun_between (line_start source offset) offset (characters source))
