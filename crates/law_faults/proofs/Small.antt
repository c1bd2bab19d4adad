-- A character of ASCII takes one byte.
use Rattle.std.proofs.Common.{◌≡◌, ℕ, zero, suc, ◌+◌, ◌-◌, ◌*◌, ◌<◌, ◌≤◌, Bool, true, false, cond, List, [], ◌∷◌, length, drop, slice_index, Option, Some, None, refl, sym, ap, ◌∙◌, subst, arith, nat_lt, length-drop}
use Rattle.std.specs.Prelude.{◌==◌, ◌&&◌}
use Rattle.std.proofs.lemmas.Bool.Decides.{nat_tests}
use Rattle.bstr.specs.Utf8.{Decoded, decoded, decoded_by, second, continues, pieces, code_of_2, code_of_3, code_of_4}
use Rattle.bstr.proofs.lemmas.PieceLemmas.{pieces-step, pieces-nil}
use Rattle.base_data.proofs.Chars.{decoded-some, branch}
use Rattle.read_lexer.proofs.BetweenLemmas.{left, first_char, some_bytes, ascii_decoded}
use Rattle.read_spelling.specs.Source.{characters, piece}
use Rattle.law_faults.proofs.Tests.{not_true}

-- of bytes that begin with this one: a character of ASCII is the first byte
record One (b : ℕ) (d : Decoded) : Type 0 where
  one : (c : ℕ) → d.char ≡ Some c → c < 0x80 → d.size ≡ 1
  first : (c : ℕ) → d.char ≡ Some c → c < 0x80 → b ≡ c

some_same : (a b : ℕ) → Some a ≡ Some b → a ≡ b
some_same a b e = cc

none_not : (c : ℕ) → ◌≡◌ {A = Option ℕ} None (Some c) → ⊥
none_not c e = cc

no_char_one : (b n : ℕ) → One b (record { char = None; size = n })
no_char_one b n = record { one = λ c e h. absurd (none_not c e); first = λ c e h. absurd (none_not c e) }

great_one : (b g n : ℕ) → 0x80 ≤ g → One b (record { char = Some g; size = n })
great_one b g n great = record {
  one = λ c e h. absurd (omega (arith, some_same g c e, great, h));
  first = λ c e h. absurd (omega (arith, some_same g c e, great, h));
}

at_least : (a b : ℕ) → nat_lt a b ≡ false → b ≤ a
at_least a b h = grind (arith, nat_tests)

less : (a b : ℕ) → nat_lt a b ≡ true → a < b
less a b h = grind (arith, nat_tests)

second_e0 : (b c : ℕ) → b ≡ 0xE0 → second b c ≡ true → 0x9F < c
second_e0 b c same h =
    let narrow : (nat_lt 0x9F c && nat_lt c 0xC0) ≡ true = rw same at h in
    less 0x9F c (left (nat_lt 0x9F c) (nat_lt c 0xC0) narrow)

second_f0 : (b c : ℕ) → b ≡ 0xF0 → second b c ≡ true → 0x8F < c
second_f0 b c same h =
    let narrow : (nat_lt 0x8F c && nat_lt c 0xC0) ≡ true = rw same at h in
    less 0x8F c (left (nat_lt 0x8F c) (nat_lt c 0xC0) narrow)

two_great : (b c : ℕ) → 0xC2 ≤ b → 0x80 ≤ code_of_2 b c
two_great b c h = omega arith

three_great : (b c d : ℕ) (t : Bool) → b == 0xE0 ≡ t → 0xE0 ≤ b → second b c ≡ true → 0x80 ≤ code_of_3 b c d
three_great b c d true e h s =
    let same : b ≡ 0xE0 = grind (arith, nat_tests) in
    let c_is = second_e0 b c same s in
    omega (arith, c_is)
three_great b c d false e h s =
    let more : 0xE1 ≤ b = grind (arith, nat_tests) in
    omega (arith, more)

four_great : (b c d e : ℕ) (t : Bool) → b == 0xF0 ≡ t → 0xF0 ≤ b → second b c ≡ true → 0x80 ≤ code_of_4 b c d e
four_great b c d e true i h s =
    let same : b ≡ 0xF0 = grind (arith, nat_tests) in
    let c_is = second_f0 b c same s in
    omega (arith, c_is)
four_great b c d e false i h s =
    let more : 0xF1 ≤ b = grind (arith, nat_tests) in
    omega (arith, more)

one_by : (n b c d e : ℕ) → One b (decoded_by n b c d e)
one_by n b c d e =
    let P : Decoded → Type 0 = One b in
    branch P (n == 0) (λ _. no_char_one b 0) (λ _.
    branch P (nat_lt b 0x80) (λ _. record { one = λ c e h. refl; first = λ c e h. some_same b c e }) (λ _.
    branch P (nat_lt b 0xC2) (λ _. no_char_one b 1) (λ c2.
    branch P (nat_lt 0xF4 b) (λ _. no_char_one b 1) (λ _.
    branch P (nat_lt n 2) (λ _. no_char_one b 1) (λ _.
    branch P (second b c) (λ s.
    branch P (nat_lt b 0xE0) (λ _. great_one b (code_of_2 b c) 2 (two_great b c (at_least b 0xC2 c2))) (λ e0.
    branch P (nat_lt n 3) (λ _. no_char_one b 2) (λ _.
    branch P (continues d) (λ _.
    branch P (nat_lt b 0xF0) (λ _. great_one b (code_of_3 b c d) 3 (three_great b c d (b == 0xE0) refl (at_least b 0xE0 e0) s)) (λ f0.
    branch P (nat_lt n 4) (λ _. no_char_one b 3) (λ _.
    branch P (continues e) (λ _. great_one b (code_of_4 b c d e) 4 (four_great b c d e (b == 0xF0) refl (at_least b 0xF0 f0) s)) (λ _. no_char_one b 3))))
    (λ _. no_char_one b 2))))
    (λ _. no_char_one b 1))))))

-- each character of ASCII takes one byte
abbrev pub Small : List Decoded → Type 0
Small [] = Unit {0}
Small (p ∷ ps) = ((c : ℕ) → p.char ≡ Some c → c < 0x80 → p.size ≡ 1) × Small ps

small_from : (k : ℕ) (bytes : List ℕ) → length bytes < k → Small (pieces bytes)
small_from zero bytes enough = absurd (omega arith)
small_from (suc k) [] enough = rw pieces-nil tt
small_from (suc k) (b ∷ bs) enough =
    let bytes = b ∷ bs in
    let some : 0 < length bytes = omega arith in
    let size = (decoded bytes).size in
    let one : One (slice_index bytes 0) (decoded bytes) = one_by (length bytes) (slice_index bytes 0) (slice_index bytes 1) (slice_index bytes 2) (slice_index bytes 3) in
    let rest = small_from k (drop size bytes) (omega (arith, enough, decoded-some bytes some, length-drop size bytes)) in
    subst Small (sym (pieces-step bytes some)) (one.one, rest)

pub small : (bytes : List ℕ) → Small (characters bytes)
unfolding characters
small bytes = small_from (suc (length bytes)) bytes (omega arith)

-- it is its byte
pub first_byte : (bytes : List ℕ) (c size : ℕ) (ps : List Decoded) → characters bytes ≡ piece (Some c) size ∷ ps → c < 0x80 → slice_index bytes 0 ≡ c
first_byte bytes c size ps e h =
    let same : piece (Some c) size ≡ decoded bytes = first_char bytes (piece (Some c) size) ps e in
    let one : One (slice_index bytes 0) (decoded bytes) = one_by (length bytes) (slice_index bytes 0) (slice_index bytes 1) (slice_index bytes 2) (slice_index bytes 3) in
    one.first c (ap (λ (d : Decoded). d.char) (sym same)) h

ascii_some : (bytes : List ℕ) → 0 < length bytes → nat_lt (slice_index bytes 0) 0x80 ≡ true → (decoded bytes).char ≡ Some (slice_index bytes 0)
ascii_some [] some h = absurd (omega arith)
ascii_some (b ∷ bs) some h = ap (λ (d : Decoded). d.char) (ascii_decoded b bs h)

-- a byte that begins no character is not of ASCII
pub not_ascii : (bytes : List ℕ) (p : Decoded) (ps : List Decoded) → characters bytes ≡ p ∷ ps → p.char ≡ None → nat_lt (slice_index bytes 0) 0x80 ≡ false
not_ascii bytes p ps e none =
    let same : p ≡ decoded bytes = first_char bytes p ps e in
    not_true (nat_lt (slice_index bytes 0) 0x80)
    (λ h. none_not (slice_index bytes 0) (sym none ∙ ap (λ (d : Decoded). d.char) same ∙ ascii_some bytes (some_bytes bytes p ps e) h))

-- some bytes have a first piece
pub some_piece : (bytes : List ℕ) → 0 < length bytes → characters bytes ≡ decoded bytes ∷ characters (drop (decoded bytes).size bytes)
unfolding characters
some_piece bytes some = pieces-step bytes some
