-- Symbols whose characters all stand for themselves.
use Rattle.std.proofs.Common.{◌≡◌, ℕ, zero, suc, ◌<◌, Bool, true, false, List, [], ◌∷◌, ◌++◌, arith, refl, sym, ap, ◌∙◌, cond}
use Rattle.std.proofs.lemmas.Bool.{and_parts}
use Rattle.std.proofs.lemmas.Bool.Decides.{nat_tests}
use Rattle.std.proofs.lemmas.Str.{encode_ascii, chars-IsAscii}
use Rattle.std.specs.List.{flat_map, list_all}
use Rattle.std.specs.Prelude.{encode_utf8}
use Rattle.std.specs.Str.{IsAscii, chars}
use Rattle.check_grammar.specs.Characters.{escape_text}
use Rattle.check_grammar.specs.Symbols.{is_later, later_character, later_text}

later_small : (c : ℕ) → is_later c ≡ true → c < 0x80
later_small c h = grind (arith, nat_tests)

all_ascii : (bs : List ℕ) → list_all is_later bs ≡ true → IsAscii bs
all_ascii [] h i = omega arith
all_ascii (b ∷ bs) h zero = later_small b (and_parts (is_later b) (list_all is_later bs) h).0
all_ascii (b ∷ bs) h (suc i) = all_ascii bs (and_parts (is_later b) (list_all is_later bs) h).1 i

itself : (bs : List ℕ) → list_all is_later bs ≡ true → flat_map later_character bs ≡ bs
itself [] h = refl
itself (b ∷ bs) h =
    let p = and_parts (is_later b) (list_all is_later bs) h in
    ap (λ (t : Bool). cond t (encode_utf8 b) (escape_text b) ++ flat_map later_character bs) p.0
    ∙ ap (λ (x : List ℕ). x ++ flat_map later_character bs) (encode_ascii b (later_small b p.0)) ∙ ap (λ (x : List ℕ). b ∷ x) (itself bs p.1)

pub later_whole : (text : List ℕ) → list_all is_later text ≡ true → later_text (chars text) ≡ text
later_whole text h = ap (λ (cs : List ℕ). flat_map later_character cs) (chars-IsAscii text (all_ascii text h)) ∙ itself text h
