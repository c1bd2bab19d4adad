-- The line that `--make N` writes.
use Rattle.std.specs.Prelude.{ℕ, ◌==◌, List, ◌++◌, length, count_by, codes, decimal}

-- a line ends at a line feed
abbrev pub lines_in : List ℕ → ℕ
lines_in text = count_by (λ byte. byte == 10) text

-- the number of libraries, and the lines and bytes of a text
abbrev pub summary : ℕ → List ℕ → List ℕ
summary count text =
    codes "libraries " ++ decimal count ++ codes " lines " ++ decimal (lines_in text) ++ codes " bytes " ++ decimal (length text) ++ codes "\n"
