-- Bytes of ASCII in a source.
use Rattle.std.proofs.Common.{◌≡◌, ℕ, zero, suc, ◌+◌, ◌<◌, ◌≤◌, ◌-◌, Bool, true, false, List, [], ◌∷◌, ◌++◌, length, drop, take, arith, refl, sym, ap, ◌∙◌, Option, Some, None, Result, Ok, Err}
use Rattle.std.specs.Prelude.{◌==◌, ◌&&◌, ◌||◌, nat_eq, nat_lt, codes, slice_index, not}
use Rattle.std.specs.List.{starts_with}
use Rattle.std.proofs.lemmas.Bool.Decides.{nat_tests}
use Rattle.bstr.specs.Utf8.{Decoded, decoded, decoded_by, pieces, pieces_from, good}
use Rattle.bstr.proofs.lemmas.PieceLemmas.{pieces-step, pieces-nil}
use Rattle.read_spelling.specs.Source.{characters, piece}
use Rattle.read_spelling.specs.Whitespace.{is_whitespace, is_delimiter, is_delimited, whitespace_end}
use Rattle.read_lexer.specs.Gap.{atmosphere_end}
use Rattle.read_lexer.specs.Start.{start_of}

some_bytes : (n : ℕ) → suc n == 0 ≡ false
some_bytes n = grind (arith, nat_tests)

pub characters-nil : characters [] ≡ []
unfolding characters
characters-nil = pieces-nil

is_ascii : (b : ℕ) → b < 0x80 → nat_lt b 0x80 ≡ true
is_ascii b h = grind (arith, nat_tests)

decodes : (b : ℕ) (bs : List ℕ) → b < 0x80 → decoded (b ∷ bs) ≡ good b 1
decodes b bs h = rw (some_bytes (length bs), is_ascii b h) refl

pub characters-ascii : (b : ℕ) (bs : List ℕ) → b < 0x80 → characters (b ∷ bs) ≡ piece (Some b) 1 ∷ characters bs
unfolding characters
characters-ascii b bs h =
    pieces-step (b ∷ bs) (omega arith) ∙ rw (decodes b bs h) refl

-- what a token may begin with beside a number sign
abbrev pub begins : ℕ → Bool
begins b = nat_lt b 0x80 && not (b == 0x3B) && not (nat_eq 0x23 b) && not (is_whitespace b)

four : (a b c d : Bool) → (a && not b && not c && not d) ≡ true → (a ≡ true) × (b ≡ false) × (c ≡ false) × (d ≡ false)
four true false false false h = (refl, refl, refl, refl)
four true true c d h = absurd (cc)
four true false true d h = absurd (cc)
four true false false true h = absurd (cc)
four false b c d h = absurd (cc)

small : (b : ℕ) → nat_lt b 0x80 ≡ true → b < 0x80
small b h = grind (arith, nat_tests)

-- no gap comes before such a byte
pub no_gap : (b : ℕ) (bs : List ℕ) → begins b ≡ true → (file : List ℕ) (at : ℕ) → atmosphere_end file (b ∷ bs) at ≡ Ok at
unfolding atmosphere_end
no_gap b bs h file at =
    let p = four (nat_lt b 0x80) (b == 0x3B) (nat_eq 0x23 b) (is_whitespace b) h in
    rw (p.1, p.2, characters-ascii b bs (small b p.0), p.3) refl

-- nor before a number sign, unless it begins a comment
pub no_gap_hash : (c : ℕ) (bs : List ℕ) → nat_eq 0x7C c ≡ false → nat_eq 0x21 c ≡ false → (file : List ℕ) (at : ℕ) → atmosphere_end file (0x23 ∷ c ∷ bs) at ≡ Ok at
unfolding atmosphere_end
no_gap_hash c bs no_bar no_mark file at = rw (no_bar, no_mark, characters-ascii 0x23 (c ∷ bs) (omega arith)) refl

no_mark : (b : ℕ) → b < 0x80 → nat_eq 0xEF b ≡ false
no_mark b h = grind (arith, nat_tests)

-- nothing is skipped where a source begins so
pub no_start : (b : ℕ) (bs : List ℕ) → begins b ≡ true → (file : List ℕ) → start_of file (b ∷ bs) ≡ Ok 0
no_start b bs h file =
    let p = four (nat_lt b 0x80) (b == 0x3B) (nat_eq 0x23 b) (is_whitespace b) h in
    rw (no_mark b (small b p.0), p.2) refl

pub no_start_hash : (c : ℕ) (bs : List ℕ) → nat_eq 0x21 c ≡ false → (file : List ℕ) → start_of file (0x23 ∷ c ∷ bs) ≡ Ok 0
no_start_hash c bs no_bang file = rw no_bang refl

pub gap_nil : (file : List ℕ) (at : ℕ) → atmosphere_end file [] at ≡ Ok at
unfolding atmosphere_end
gap_nil file at = rw characters-nil refl

pub gap_space : (bs file : List ℕ) (at : ℕ) → atmosphere_end file (0x20 ∷ bs) at ≡ Ok (at + 1)
unfolding atmosphere_end
gap_space bs file at = rw (characters-ascii 0x20 bs (omega arith)) refl

pub gap_newline : (bs file : List ℕ) (at : ℕ) → atmosphere_end file (0x0A ∷ bs) at ≡ Ok (at + 1)
unfolding atmosphere_end
gap_newline bs file at = rw (characters-ascii 0x0A bs (omega arith)) refl

-- what stands behind a token in the text of a datum, or behind it on its line: nothing, a space, a close or the line's end
abbrev pub ends : List ℕ → Bool
ends [] = true
ends (b ∷ bs) = b == 0x20 || b == 0x29 || b == 0x0A

ends_is : (b : ℕ) → (b == 0x20 || b == 0x29 || b == 0x0A) ≡ true → (b < 0x80) × (is_delimiter b ≡ true)
ends_is b h = (grind (arith, nat_tests), grind (arith, nat_tests))

pub delimits : (rest : List ℕ) → ends rest ≡ true → is_delimited (characters rest) ≡ true
delimits [] h = rw characters-nil refl
delimits (b ∷ bs) h = let p = ends_is b h in rw (characters-ascii b bs p.0) p.1
