-- Which texts are names of variables in core text, by cases: %LIBRARY/SYMBOL/NUMBER.
use Rattle.std.specs.Prelude.{◌≡◌, ℕ, ◌+◌, ◌*◌, ◌<◌, ◌≤◌, ◌↔◌, true, false, List, [], ◌∷◌, ◌++◌, length, codes}
use Rattle.std.specs.Char.{IsScalar, is_ascii_digit}
use Rattle.check_grammar.specs.Scan.{is_plain, is_hex_digit, digit_value, is_name}

-- digits behind others of this value, and the value of all
pub data MoreHex : ℕ → List ℕ → ℕ → Type 0 where
  no_digit : {v : ℕ} → MoreHex v [] v
  digit : {v c d : ℕ} {ds : List ℕ} → is_hex_digit d ≡ true → MoreHex (v * 16 + digit_value d) ds c → MoreHex v (d ∷ ds) c

-- a number in hexadecimal, in upper case and without leading zeros
pub data IsHex : List ℕ → ℕ → Type 0 where
  zero : IsHex (codes "0") 0
  positive : {d c : ℕ} {ds : List ℕ} → is_hex_digit d ≡ true → 0 < digit_value d → MoreHex (digit_value d) ds c → IsHex (d ∷ ds) c

-- a symbol or a part of a library's name: characters that stand for themselves, and ~HEX~ for others
pub data IsWord : List ℕ → Type 0 where
  no_character : IsWord []
  plain : {c : ℕ} {xs : List ℕ} → is_plain c ≡ true → IsWord xs → IsWord (c ∷ xs)
  escaped : {c : ℕ} {ds xs : List ℕ} → IsHex ds c → IsScalar c → is_plain c ≡ false → IsWord xs → IsWord (codes "~" ++ (ds ++ (codes "~" ++ xs)))

-- parts joined by dots, none of them empty
pub data AreParts : List ℕ → Type 0 where
  one : {x : List ℕ} → IsWord x → 0 < length x → AreParts x
  more : {x y : List ℕ} → IsWord x → 0 < length x → AreParts y → AreParts (x ++ (codes "." ++ y))

-- the name of a library, or nothing for the program
pub data IsLibrary : List ℕ → Type 0 where
  program : IsLibrary []
  library : {x : List ℕ} → AreParts x → IsLibrary x

pub data AreDigits : List ℕ → Type 0 where
  no_digits : AreDigits []
  digits : {d : ℕ} {ds : List ℕ} → is_ascii_digit d ≡ true → AreDigits ds → AreDigits (d ∷ ds)

-- a number in decimal without leading zeros
pub data IsNumber : List ℕ → Type 0 where
  zero : IsNumber (codes "0")
  positive : {d : ℕ} {ds : List ℕ} → 0x31 ≤ d → d ≤ 0x39 → AreDigits ds → IsNumber (d ∷ ds)

pub data IsName : List ℕ → Type 0 where
  name : {l x n : List ℕ} → IsLibrary l → IsWord x → IsNumber n → IsName (codes "%" ++ (l ++ (codes "/" ++ (x ++ (codes "/" ++ n)))))

-- exactly these are found by the scan
abbrev pub NamesAreScanned : Type 0
NamesAreScanned = (text : List ℕ) → (is_name text ≡ true) ↔ IsName text
