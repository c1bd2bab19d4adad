-- Strings and characters are refused as bytes.
use Rattle.std.proofs.Common.{ℕ, zero, suc, ◌+◌, ◌-◌, List, [], ◌∷◌, ◌++◌, length, Option, Some, None, Ok}
use Rattle.std.specs.Prelude.{drop, take, slice_index, ◌==◌, ◌&&◌}
use Rattle.bstr.specs.Utf8.{Decoded}
use Rattle.base_data.specs.Place.{line_end}
use Rattle.read_spelling.specs.Escapes.{escape, scalar_of}
use Rattle.read_spelling.specs.Numbers.{digits_size, is_digits}
use Rattle.read_spelling.specs.Source.{characters}
use Rattle.read_spelling.specs.Whitespace.{blanks_end, is_delimited}
use Rattle.read_spelling.specs.declared.escapes.Letter.{Letter}
use Rattle.read_lexer.specs.Characters.{named, scalar_or_fault, character_but, character_to, lexeme_of_char, character_end, character_with, character_behind, character_at}
use Rattle.read_lexer.specs.Strings.{char_or_byte, char_here, simple_escape, letter_or_fault, hex_part, line_part, escape_part, string_part, char_text, string_from, string_at}
use Rattle.law_kinds.specs.Kinds.{IsOfReading, Tells}
use Rattle.law_kinds.proofs.Gaps.{r-if, r-then}

-- ---- strings

character : (file : List ℕ) (quote at : ℕ) (ps : List Decoded) → Tells IsOfReading (char_here file quote at ps)
character file quote at [] = tt
character file quote at (p ∷ ps) = by p.char
  where
    by : (c : Option ℕ) → Tells IsOfReading (char_or_byte file at c p.size)
    by None = tt
    by (Some c) = tt

letter : (file : List ℕ) (quote at : ℕ) (l : Option Letter) → Tells IsOfReading (letter_or_fault file quote at l)
letter file quote at None = tt
letter file quote at (Some l) = tt

hex : (file : List ℕ) (quote at n : ℕ) (bytes : List ℕ) → Tells IsOfReading (hex_part file quote at n bytes)
hex file quote at n bytes =
    r-then (char_here file quote (at + 2 + n) (characters (drop (2 + n) bytes))) (λ _. letter_or_fault file quote at (escape bytes)) (character file quote (at + 2 + n) (characters (drop (2 + n) bytes))) (λ _. letter file quote at (escape bytes))

line : (file : List ℕ) (quote at here n : ℕ) (rest : List ℕ) → Tells IsOfReading (line_part file quote at here n rest)
line file quote at here n rest = r-then (char_here file quote here (characters rest)) _ (character file quote here (characters rest)) (λ _. r-if (n == 0) _ _ tt tt)

escaped : (file : List ℕ) (quote : ℕ) (bytes : List ℕ) (at : ℕ) (c : Option ℕ) → Tells IsOfReading (escape_part file quote bytes at c)
escaped file quote bytes at (Some c) = tt
escaped file quote bytes at None =
    let here = blanks_end (at + 1) (characters (drop 1 bytes)) in
    r-if (slice_index bytes 1 == 0x78) _ _ (hex file quote at (digits_size 16 (drop 2 bytes)) bytes) (line file quote at here (line_end (drop (here - at) bytes)) (drop (here - at) bytes))

part : (file : List ℕ) (quote : ℕ) (bytes : List ℕ) (at : ℕ) → Tells IsOfReading (string_part file quote bytes at)
unfolding string_part
part file quote bytes at =
    r-if (slice_index bytes 0 == 0x5C) _ _ (escaped file quote bytes at (simple_escape (slice_index bytes 1)))
    (r-if (line_end bytes == 0) _ _ (character file quote at (characters bytes)) tt)

from : (k : ℕ) (file : List ℕ) (quote : ℕ) (out bytes : List ℕ) (at : ℕ) → Tells IsOfReading (string_from file quote k out bytes at)
unfolding string_from
from zero file quote out bytes at = tt
from (suc k) file quote out bytes at =
    r-if (slice_index bytes 0 == 0x22) _ _ tt
    (r-then (string_part file quote bytes at) (λ p. string_from file quote k (out ++ char_text p.char) (drop p.size bytes) (at + p.size)) (part file quote bytes at)
    (λ p. from k file quote (out ++ char_text p.char) (drop p.size bytes) (at + p.size)))

pub tells-string : (file bytes : List ℕ) (at : ℕ) → Tells IsOfReading (string_at file bytes at)
tells-string file bytes at = from (suc (length (drop 1 bytes))) file at [] (drop 1 bytes) (at + 1)

-- ---- characters

scalar : (file : List ℕ) (from to : ℕ) (c : Option ℕ) → Tells IsOfReading (scalar_or_fault file from to c)
scalar file from to (Some c) = tt
scalar file from to None = tt

long : (file : List ℕ) (from to : ℕ) (text : List ℕ) (c : Option ℕ) → Tells IsOfReading (character_but file from to text c)
long file from to text (Some c) = tt
long file from to text None = r-if (slice_index text 0 == 0x78 && is_digits 16 (drop 1 text)) _ _ (scalar file from to (scalar_of (drop 1 text))) tt

up-to : (file bytes : List ℕ) (from c size to : ℕ) → Tells IsOfReading (character_to file bytes from c size to)
up-to file bytes from c size to =
    r-if (is_delimited (characters (drop (to - from) bytes))) _ _ (r-if (to == from + 2 + size) _ _ tt (long file from to (drop 2 (take (to - from) bytes)) (named (drop 2 (take (to - from) bytes))))) tt

with-char : (file bytes : List ℕ) (from : ℕ) (c : Option ℕ) (size : ℕ) → Tells IsOfReading (character_with file bytes from c size)
with-char file bytes from None size = tt
with-char file bytes from (Some c) size =
    r-then (character_to file bytes from c size (character_end bytes from size)) (λ d. Ok (lexeme_of_char from (character_end bytes from size) d)) (up-to file bytes from c size (character_end bytes from size)) (λ d. tt)

behind : (file bytes : List ℕ) (from : ℕ) (ps : List Decoded) → Tells IsOfReading (character_behind file bytes from ps)
behind file bytes from [] = tt
behind file bytes from (p ∷ ps) = with-char file bytes from p.char p.size

pub tells-character : (file bytes : List ℕ) (at : ℕ) → Tells IsOfReading (character_at file bytes at)
tells-character file bytes at = behind file bytes at (characters (drop 2 bytes))
