-- Names whose text, as symbols, they are themselves.
use Rattle.std.proofs.Common.{◌≡◌, ℕ, ◌<◌, Bool, true, false, List, [], ◌∷◌, ◌++◌, arith, refl, ap, ◌∙◌}
use Rattle.std.specs.Prelude.{◌&&◌, ◌||◌, if◌then◌else◌}
use Rattle.std.specs.List.{list_all}
use Rattle.std.specs.Str.{chars}
use Rattle.std.proofs.lemmas.Bool.{and_parts}
use Rattle.std.proofs.lemmas.Bool.Decides.{nat_tests}
use Rattle.std.proofs.lemmas.Str.{encode_ascii, chars-IsAscii, IsUtf8-from_ascii}
use Rattle.read_printer.specs.Symbols.{symbol_text, name_text, initial_text, is_initial, is_peculiar, subsequents_text, is_subsequent}
use Rattle.law_round.specs.Readable.{IsName}
use Rattle.law_names.proofs.Reading.{ascii, all_themselves}

-- an identifier in ASCII without escapes
abbrev pub is_plain_name : List ℕ → Bool
is_plain_name [] = false
is_plain_name (b ∷ bs) = list_all is_subsequent (b ∷ bs) && (is_initial b || is_peculiar (b ∷ bs))

initial_ascii : (b : ℕ) → is_initial b ≡ true → b < 0x80
initial_ascii b h = grind (arith, nat_tests)

first_itself : (b : ℕ) → is_initial b ≡ true → initial_text b ≡ b ∷ []
first_itself b h = rw h (encode_ascii b (initial_ascii b h))

by_either : (p : Bool) (xs ys zs : List ℕ) → (p ≡ true → xs ≡ zs) → (p ≡ false → ys ≡ zs) → (if p then xs else ys) ≡ zs
by_either true xs ys zs f g = f refl
by_either false xs ys zs f g = g refl

left_of : (p q : Bool) → (p || q) ≡ true → q ≡ false → p ≡ true
left_of true q h e = refl
left_of false true h e = absurd (cc)
left_of false false h e = absurd (cc)

pub plain_text : (x : List ℕ) → is_plain_name x ≡ true → symbol_text x ≡ x
plain_text [] h = absurd (cc)
plain_text (b ∷ bs) h =
    let both = and_parts (list_all is_subsequent (b ∷ bs)) (is_initial b || is_peculiar (b ∷ bs)) h in
    let are : chars (b ∷ bs) ≡ b ∷ bs = chars-IsAscii (b ∷ bs) (ascii (b ∷ bs) both.0) in
    let others = (and_parts (is_subsequent b) (list_all is_subsequent bs) both.0).1 in
    by_either (is_peculiar (b ∷ bs)) (subsequents_text (chars (b ∷ bs))) (name_text (chars (b ∷ bs))) (b ∷ bs)
    (λ e. ap subsequents_text are ∙ all_themselves (b ∷ bs) both.0)
    (λ e. ap name_text are ∙ ap (λ (w : List ℕ). w ++ subsequents_text bs) (first_itself b (left_of (is_initial b) (is_peculiar (b ∷ bs)) both.1 e))
    ∙ ap (λ (w : List ℕ). b ∷ w) (all_themselves bs others))

pub plain_name : (x : List ℕ) → is_plain_name x ≡ true → IsName x
plain_name [] h = absurd (cc)
plain_name (b ∷ bs) h =
    let both = and_parts (list_all is_subsequent (b ∷ bs)) (is_initial b || is_peculiar (b ∷ bs)) h in
    (IsUtf8-from_ascii (b ∷ bs) (ascii (b ∷ bs) both.0), omega arith)
