-- The characters of a source, decoded from UTF-8.
use Rattle.std.specs.Prelude.{ℕ, List, Option}
use Rattle.bstr.specs.Utf8.{Decoded, pieces}

-- a character and how many bytes it takes; none stands for bytes that begin no character
abbrev pub piece : Option ℕ → ℕ → Decoded
piece char size = record { char = char; size = size }

-- the characters of some bytes, in order
unfoldable pub characters : List ℕ → List Decoded
characters bytes = pieces bytes
