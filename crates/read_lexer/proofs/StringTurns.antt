-- The turns of the loop over the parts of a string.
use Rattle.std.proofs.Common.{◌≡◌, ℕ, zero, suc, ◌+◌, ◌<◌, ◌≤◌, true, false, List, ◌++◌, length, drop, slice_index, Result, Ok, sym, ap, arith, length-drop}
use Rattle.std.specs.Prelude.{◌==◌}
use Rattle.std.proofs.lemmas.Bool.Decides.{nat_tests}
use Rattle.bstr.specs.Utf8.{Decoded}
use Rattle.base_data.specs.Gives.{Stops}
use Rattle.base_data.specs.declared.fault.Fault.{Fault}
use Rattle.base_data.specs.declared.fault.Stop.{Stop}
use Rattle.base_data.specs.declared.fault.Stop.TheVariants as stops
use Rattle.read_lexer.specs.Strings.{string_from, string_part, string_lexeme, char_text}
use Rattle.read_lexer.specs.declared.token.Lexeme.{Lexeme}

-- what is left of a string from here gives this in all
abbrev pub StringGoesOn : List ℕ → ℕ → List ℕ → List ℕ → ℕ → Result Lexeme Fault → Type 0
StringGoesOn file quote out bytes at total = (k : ℕ) × (length bytes < k) × (string_from file quote k out bytes at ≡ total)

is_other : (b : ℕ) → (b ≡ 0x22 → ⊥) → b == 0x22 ≡ false
is_other b h = grind (arith, nat_tests)

is_quote : (b : ℕ) → b ≡ 0x22 → b == 0x22 ≡ true
is_quote b h = grind (arith, nat_tests)

-- a part goes before the rest
pub string_turn : (file : List ℕ) (quote : ℕ) (out longer bytes after : List ℕ) (at : ℕ) (p : Decoded) (total : Result Lexeme Fault)
    → (slice_index bytes 0 ≡ 0x22 → ⊥) → 0 < p.size → p.size ≤ length bytes
    → string_part file quote bytes at ≡ Ok p → after ≡ drop p.size bytes → longer ≡ out ++ char_text p.char
    → StringGoesOn file quote out bytes at total → StringGoesOn file quote longer after (at + p.size) total
unfolding string_from
string_turn file quote out longer bytes after at p total other more fits given rest text (zero, enough, same) = absurd (omega arith)
string_turn file quote out longer bytes after at p total other more fits given rest text (suc j, enough, same) =
    (j, omega (arith, ap length rest, length-drop p.size bytes), rw (rest, text) (rw (is_other (slice_index bytes 0) other, given) at same))

-- the closing quote
pub string_ends : (file : List ℕ) (quote : ℕ) (out bytes : List ℕ) (at : ℕ) (total : Result Lexeme Fault) → slice_index bytes 0 ≡ 0x22
    → StringGoesOn file quote out bytes at total → total ≡ Ok (string_lexeme out quote (at + 1))
unfolding string_from
string_ends file quote out bytes at total closing (zero, enough, same) = absurd (omega arith)
string_ends file quote out bytes at total closing (suc j, enough, same) = sym (rw (is_quote (slice_index bytes 0) closing) at same)

-- a part that stops is where the string stops
pub string_stops : (file : List ℕ) (quote : ℕ) (out bytes : List ℕ) (at : ℕ) (total : Result Lexeme Fault) (s : Stop) → (slice_index bytes 0 ≡ 0x22 → ⊥)
    → Stops s (string_part file quote bytes at) → StringGoesOn file quote out bytes at total → Stops s total
unfolding string_from
string_stops file quote out bytes at total stops.Memory other given goes = tt
string_stops file quote out bytes at total (stops.Fault f) other given (zero, enough, same) = absurd (omega arith)
string_stops file quote out bytes at total (stops.Fault f) other given (suc j, enough, same) = sym (rw (is_other (slice_index bytes 0) other, given) at same)
