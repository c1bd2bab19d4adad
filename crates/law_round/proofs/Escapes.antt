-- Escapes `\xHEX;` that are printed, and what they are read as.
use Rattle.std.proofs.Common.{◌≡◌, ℕ, zero, suc, ◌+◌, ◌-◌, ◌<◌, ◌≤◌, Bool, true, false, List, [], ◌∷◌, ◌++◌, length, drop, take, get_or, arith, refl, sym, ap, ◌∙◌, append_assoc, length-append, Option, Some, None}
use Rattle.std.specs.Prelude.{◌==◌, ◌&&◌, nat_lt, slice_index}
use Rattle.std.specs.Char.{IsScalar, digit_value as std_value}
use Rattle.std.specs.Str.Parse.{AllDigits}
use Rattle.std.proofs.Math.Seq.{get_or-append_seam, take-append_seam}
use Rattle.std.proofs.lemmas.List.{get_or-drop}
use Rattle.std.proofs.lemmas.Bool.Decides.{nat_tests}
use Rattle.base_data.specs.Hex.{hex}
use Rattle.read_spelling.specs.Escapes.{escape, escape_of, scalar_of, letter}
use Rattle.read_spelling.specs.Numbers.{is_digit, digits_size}
use Rattle.read_spelling.specs.declared.escapes.Letter.{Letter}
use Rattle.law_round.proofs.Chars.{scalar_is, digits_some}
use Rattle.law_round.proofs.Digits.{Spell, is_one}

-- the digits come first, and a semicolon behind them
pub digits_size-semicolon : (ds rest : List ℕ) → AllDigits 16 ds → digits_size 16 (ds ++ (0x3B ∷ rest)) ≡ length ds
digits_size-semicolon [] rest h = refl
digits_size-semicolon (d ∷ ds) rest h = rw (is_one 16 d (omega arith) h.0) (ap suc (digits_size-semicolon ds rest h.1))

-- the bytes of an escape, before others
abbrev pub escaped : List ℕ → List ℕ → List ℕ
escaped ds rest = 0x5C ∷ 0x78 ∷ (ds ++ (0x3B ∷ rest))

semicolon_there : (ds rest : List ℕ) → slice_index (escaped ds rest) (2 + length ds) ≡ 0x3B
semicolon_there ds rest = sym (get_or-drop 2 (escaped ds rest) (length ds) 0) ∙ get_or-append_seam ds 0x3B rest 0

same_letter : (c n m : ℕ) → n ≡ m → letter n (Some c) ≡ Some (record { char = c; size = m })
same_letter c n m e = rw e refl

value_there : (c : ℕ) (ds rest : List ℕ) → IsScalar c → Spell 16 c ds → scalar_of (take (length ds) (ds ++ (0x3B ∷ rest))) ≡ Some c
value_there c ds rest h spell = rw (take-append_seam ds (0x3B ∷ rest), spell.value, scalar_is c h) refl

pub escape_gives : (c : ℕ) (ds rest : List ℕ) → IsScalar c → Spell 16 c ds → escape (escaped ds rest) ≡ Some (record { char = c; size = 3 + length ds })
escape_gives c ds rest h spell =
    rw (digits_size-semicolon ds rest spell.are, digits_some ds spell.some, semicolon_there ds rest, value_there c ds rest h spell) refl
