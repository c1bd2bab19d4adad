-- What the lexer reads as characters are characters.
use Rattle.std.proofs.Common.{◌≡◌, ℕ, zero, suc, ◌+◌, ◌-◌, ◌<◌, ◌≤◌, Bool, true, false, cond, List, [], ◌∷◌, ◌++◌, length, drop, take, arith, refl, sym, ap, ◌∙◌, subst, Option, Some, None, Result, Ok, Err}
use Rattle.std.specs.Prelude.{◌==◌, ◌&&◌, ◌||◌, nat_lt, slice_index, IfOk}
use Rattle.std.specs.Char.{IsScalar}
use Rattle.std.proofs.lemmas.Bool.Decides.{nat_tests}
use Rattle.bstr.specs.Utf8.{Decoded, decoded, pieces}
use Rattle.bstr.proofs.lemmas.PieceLemmas.{pieces-step}
use Rattle.bstr.proofs.lemmas.SoundLemmas.{SpellsChar-decoded}
use Rattle.base_data.specs.Gives.{◌>>=◌}
use Rattle.base_data.specs.declared.fault.Fault.{Fault}
use Rattle.base_data.proofs.Chars.{branch}
use Rattle.read_spelling.specs.Escapes.{is_scalar, scalar, scalar_of, letter, escape, escape_of}
use Rattle.read_spelling.specs.Numbers.{digits_size, value_from}
use Rattle.read_spelling.specs.Source.{characters}
use Rattle.read_spelling.specs.declared.escapes.Letter.{Letter}
use Rattle.law_round.proofs.Ascii.{characters-nil}

-- what is given is a character, if anything is
abbrev pub IsChar : Option ℕ → Type 0
IsChar None = Unit {0}
IsChar (Some c) = IsScalar c

abbrev pub FirstIsChar : List Decoded → Type 0
FirstIsChar [] = Unit {0}
FirstIsChar (p ∷ ps) = IsChar p.char

abbrev pub LetterIsChar : Option Letter → Type 0
LetterIsChar None = Unit {0}
LetterIsChar (Some l) = IsScalar l.char

-- what holds of the first answer leads to what holds of the second
pub bind : {A B : Type 0} (Q : A → Type 0) (P : B → Type 0) (r : Result A Fault) (f : A → Result B Fault) → IfOk r Q → ((x : A) → Q x → IfOk (f x) P) → IfOk (r >>= f) P
bind Q P (Ok x) f h g = g x h
bind Q P (Err e) f h g = tt

-- any answer
pub anything : {A : Type 0} (r : Result A Fault) → IfOk r (λ _. Unit {0})
anything (Ok x) = tt
anything (Err e) = tt

char_is : (bytes : List ℕ) (o : Option ℕ) → (decoded bytes).char ≡ o → IsChar o
char_is bytes None e = tt
char_is bytes (Some c) e = (SpellsChar-decoded bytes c e).scalar

pub first_is : (bytes : List ℕ) → FirstIsChar (characters bytes)
unfolding characters
first_is [] = rw characters-nil tt
first_is (b ∷ bs) = rw (pieces-step (b ∷ bs) (omega arith)) (char_is (b ∷ bs) (decoded (b ∷ bs)).char refl)

is_char : (n : ℕ) → is_scalar n ≡ true → IsScalar n
is_char n h = grind (arith, nat_tests)

pub scalar_char : (n : ℕ) → IsChar (scalar n)
scalar_char n = branch IsChar (is_scalar n) (λ e. is_char n e) (λ _. tt)

letter_char : (size : ℕ) (o : Option ℕ) → IsChar o → LetterIsChar (letter size o)
letter_char size None h = tt
letter_char size (Some c) h = h

pub escape_char : (bytes : List ℕ) → LetterIsChar (escape bytes)
escape_char bytes =
    let n = digits_size 16 (drop 2 bytes) in
    branch LetterIsChar (slice_index bytes 1 == 0x78 && nat_lt 0 n && slice_index bytes (2 + n) == 0x3B) (λ _. letter_char (3 + n) (scalar_of (take n (drop 2 bytes))) (scalar_char (value_from 16 0 (take n (drop 2 bytes))))) (λ _. tt)
