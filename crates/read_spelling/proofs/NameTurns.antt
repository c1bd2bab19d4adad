-- The turns of the loop over the letters of a name.
use Rattle.std.proofs.Common.{◌≡◌, ℕ, zero, suc, ◌+◌, ◌<◌, ◌≤◌, true, false, List, [], ◌∷◌, ◌++◌, length, take, drop, slice_index, Option, Some, None, sym, ap, ◌∙◌, arith, length-drop, drop-drop, take_all}
use Rattle.std.specs.Prelude.{◌==◌, encode_utf8}
use Rattle.std.proofs.lemmas.Bool.Decides.{nat_tests}
use Rattle.std.proofs.lemmas.List.{take_more}
use Rattle.std.proofs.lemmas.Str.{encode_ascii}
use Rattle.read_spelling.specs.Identifiers.{letter_here, name_from}
use Rattle.read_spelling.specs.declared.escapes.Letter.{Letter}
use Rattle.read_spelling.specs.declared.identifiers.Class.{Class}
use Rattle.read_spelling.specs.declared.identifiers.Class.TheVariants as class

-- what is left of a name from here gives this in all
abbrev pub NameGoesOn : Class → List ℕ → List ℕ → Option (List ℕ) → Type 0
NameGoesOn k out bytes total = (n : ℕ) × (length bytes < n) × (name_from n k out bytes ≡ total)

some_left : (n : ℕ) → 0 < n → n == 0 ≡ false
some_left n h = grind (arith, nat_tests)

-- a letter goes before the rest
pub name_turn : (k : Class) (out longer bytes after : List ℕ) (l : Letter) (total : Option (List ℕ)) → 0 < length bytes → 0 < l.size → l.size ≤ length bytes
    → letter_here k bytes ≡ Some l → after ≡ drop l.size bytes → longer ≡ out ++ encode_utf8 l.char
    → NameGoesOn k out bytes total → NameGoesOn class.Subsequent longer after total
unfolding name_from
name_turn k out longer bytes after l total some more fits given rest text (zero, enough, same) = absurd (omega arith)
name_turn k out longer bytes after l total some more fits given rest text (suc j, enough, same) =
    (j, omega (arith, ap length rest, length-drop l.size bytes), rw (rest, text) (rw (some_left (length bytes) some, given) at same))

-- no letter comes: there is no name
pub name_none : (k : Class) (out bytes : List ℕ) (total : Option (List ℕ)) → 0 < length bytes → letter_here k bytes ≡ None → NameGoesOn k out bytes total → total ≡ None
unfolding name_from
name_none k out bytes total some given (zero, enough, same) = sym same
name_none k out bytes total some given (suc j, enough, same) = sym (rw (some_left (length bytes) some, given) at same)

none_left : (n : ℕ) → n ≡ 0 → n == 0 ≡ true
none_left n h = grind (arith, nat_tests)

-- no bytes are left: the name is whole
pub name_done : (k : Class) (out bytes : List ℕ) (total : Option (List ℕ)) → length bytes ≡ 0 → NameGoesOn k out bytes total → total ≡ Some out
unfolding name_from
name_done k out bytes total none (zero, enough, same) = absurd (omega arith)
name_done k out bytes total none (suc j, enough, same) = sym (rw (none_left (length bytes) none) at same)

-- a letter that is its own byte: the text up to it is the name so far
pub plain_turn : (k : Class) (text : List ℕ) (at next : ℕ) (l : Letter) (total : Option (List ℕ)) → at < length text → next ≡ at + 1 → letter_here k (drop at text) ≡ Some l
    → l.size ≡ 1 → l.char < 0x80 → l.char ≡ slice_index text at
    → NameGoesOn k (take at text) (drop at text) total → NameGoesOn class.Subsequent (take next text) (drop next text) total
plain_turn k text at next l total inside step given size small same goes =
    let left : 0 < length (drop at text) = omega (arith, length-drop at text) in
    let after : drop next text ≡ drop l.size (drop at text) = rw (size, step) (sym (drop-drop 1 at text)) in
    let longer : take next text ≡ take at text ++ encode_utf8 l.char =
    rw step (take_more text at 0 inside ∙ ap (λ b. take at text ++ b ∷ []) (sym same) ∙ ap (λ bytes. take at text ++ bytes) (sym (encode_ascii l.char small))) in
    name_turn k (take at text) (take next text) (drop at text) (drop next text) l total left (omega (arith, size)) (omega (arith, size, left)) given after longer goes

-- the text is read: it is the name
pub plain_done : (k : Class) (text : List ℕ) (at : ℕ) (total : Option (List ℕ)) → length text ≤ at → NameGoesOn k (take at text) (drop at text) total → total ≡ Some text
plain_done k text at total all goes = name_done k (take at text) (drop at text) total (omega (arith, length-drop at text)) goes ∙ ap Some (take_all at text all)
