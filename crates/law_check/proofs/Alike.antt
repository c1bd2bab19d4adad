-- The checker writes data as the printer does, and neither shows spans.
use Rattle.std.proofs.Common.{◌≡◌, ℕ, Bool, true, false, List, [], ◌∷◌, ◌++◌, refl, sym, ap, subst, cond}
use Rattle.std.proofs.lemmas.Bool.{eqb-true}
use Rattle.std.specs.List.{flat_map}
use Rattle.std.specs.Prelude.{◌==◌, ◌&&◌, nat_le, codes, decimal, encode_utf8}
use Rattle.std.specs.Str.{chars}
use Rattle.base_data.specs.Datum.{PlainDatum, atom, symbol, pair, vector, unspanned}
use Rattle.base_data.specs.Hex.{hex}
use Rattle.base_data.specs.declared.atom.Atom.{Atom}
use Rattle.base_data.specs.declared.atom.Atom.TheVariants as a
use Rattle.check_grammar.specs.Characters as gc
use Rattle.check_grammar.specs.Strings as gs
use Rattle.check_grammar.specs.Symbols as gy
use Rattle.check_grammar.specs.Text as g
use Rattle.law_check.specs.Texts.{TextsAlike}
use Rattle.read_printer.specs.Characters as pc
use Rattle.read_printer.specs.DatumText as p
use Rattle.read_printer.specs.Strings as ps
use Rattle.read_printer.specs.Symbols as py

-- at a number, and at those that aren't it
pub at_number : (P : ℕ → Type 0) (c n : ℕ) → P n → (c == n ≡ false → P c) → P c
at_number P c n here other = by (c == n) refl where
  by : (b : Bool) → c == n ≡ b → P c
  by true e = subst P (sym (eqb-true c n e)) here
  by false e = other e

-- characters

abbrev SameCharacter : ℕ → Type 0
SameCharacter c = pc.character_text c ≡ gc.character_text c

outside : (b : Bool) (x y z : List ℕ) → x ++ cond b y z ≡ cond b (x ++ y) (x ++ z)
outside true x y z = refl
outside false x y z = refl

characters_alike : (c : ℕ) → SameCharacter c
characters_alike c =
    at_number SameCharacter c 0x00 refl (λ h0. at_number SameCharacter c 0x07 refl (λ h1. at_number SameCharacter c 0x08 refl (λ h2. at_number SameCharacter c 0x09 refl (λ h3.
    at_number SameCharacter c 0x0A refl (λ h4. at_number SameCharacter c 0x0B refl (λ h5. at_number SameCharacter c 0x0C refl (λ h6. at_number SameCharacter c 0x0D refl (λ h7.
    at_number SameCharacter c 0x1B refl (λ h8. at_number SameCharacter c 0x20 refl (λ h9. at_number SameCharacter c 0x7F refl (λ h10. rw (h0, h1, h2, h3, h4, h5, h6, h7, h8, h9, h10) unnamed))))))))))) where
      unnamed : codes "#\\" ++ cond (nat_le 0x21 c && nat_le c 0x7E) (encode_utf8 c) (codes "x" ++ hex c) ≡ cond (nat_le 0x21 c && nat_le c 0x7E) (codes "#\\" ++ encode_utf8 c) (codes "#\\" ++ (codes "x" ++ hex c))
      unnamed = outside (nat_le 0x21 c && nat_le c 0x7E) (codes "#\\") (encode_utf8 c) (codes "x" ++ hex c)

-- strings

abbrev SameInString : ℕ → Type 0
SameInString c = ps.string_character c ≡ gs.string_character c

string_characters : (c : ℕ) → SameInString c
string_characters c =
    at_number SameInString c 0x22 refl (λ h0. at_number SameInString c 0x5C refl (λ h1. at_number SameInString c 0x07 refl (λ h2. at_number SameInString c 0x08 refl (λ h3.
    at_number SameInString c 0x09 refl (λ h4. at_number SameInString c 0x0A refl (λ h5. at_number SameInString c 0x0B refl (λ h6. at_number SameInString c 0x0C refl (λ h7.
    at_number SameInString c 0x0D refl (λ h8. rw (h0, h1, h2, h3, h4, h5, h6, h7, h8) refl)))))))))

strings_alike : (text : List ℕ) → ps.string_text text ≡ gs.string_text text
strings_alike text = λ i. codes "\"" ++ flat_map (λ c. string_characters c i) (chars text) ++ codes "\""

-- symbols

begun : (cs : List ℕ) → py.name_text cs ≡ gy.begun_text cs
begun [] = refl
begun (c ∷ cs) = refl

symbols_alike : (x : List ℕ) → py.symbol_text x ≡ gy.symbol_text x
symbols_alike x = ap (λ (t : List ℕ). cond (gy.is_peculiar x) (gy.later_text (chars x)) t) (begun (chars x))

-- bytes

further_alike : (ns : List ℕ) → p.further_bytes ns ≡ g.further_bytes ns
further_alike [] = refl
further_alike (n ∷ ns) = λ i. codes " " ++ decimal n ++ further_alike ns i

bytes_alike : (ns : List ℕ) → p.bytes_text ns ≡ g.bytes_text ns
bytes_alike [] = refl
bytes_alike (n ∷ ns) = λ i. decimal n ++ further_alike ns i

-- data

atoms_alike : (c : Atom) → p.atom_text c ≡ g.atom_text c
atoms_alike a.Nil = refl
atoms_alike (a.Bool true) = refl
atoms_alike (a.Bool false) = refl
atoms_alike (a.Int z) = refl
atoms_alike (a.Spelt text) = refl
atoms_alike (a.Char c) = characters_alike c
atoms_alike (a.Str text) = strings_alike text
atoms_alike (a.Bytes ns) = λ i. codes "#vu8(" ++ bytes_alike ns i ++ codes ")"

rest_atoms : (c : Atom) → p.atom_rest c ≡ g.atom_behind c
rest_atoms a.Nil = refl
rest_atoms (a.Bool b) = λ i. codes " . " ++ atoms_alike (a.Bool b) i
rest_atoms (a.Int z) = refl
rest_atoms (a.Spelt text) = refl
rest_atoms (a.Char c) = λ i. codes " . " ++ atoms_alike (a.Char c) i
rest_atoms (a.Str text) = λ i. codes " . " ++ atoms_alike (a.Str text) i
rest_atoms (a.Bytes ns) = λ i. codes " . " ++ atoms_alike (a.Bytes ns) i

mutual
  pub alike : TextsAlike
  alike (atom s c) = atoms_alike c
  alike (symbol s x) = symbols_alike x
  alike (pair s d e) = λ i. codes "(" ++ (alike d i ++ rests_alike e i) ++ codes ")"
  alike (vector s d) = λ i. codes "#(" ++ elements_alike d i ++ codes ")"

  elements_alike : (d : PlainDatum) → p.elements_text d ≡ g.within d
  elements_alike (atom s c) = refl
  elements_alike (symbol s x) = refl
  elements_alike (pair s d e) = λ i. alike d i ++ rests_alike e i
  elements_alike (vector s d) = refl

  rests_alike : (d : PlainDatum) → p.rest_text d ≡ g.behind d
  rests_alike (atom s c) = rest_atoms c
  rests_alike (symbol s x) = λ i. codes " . " ++ symbols_alike x i
  rests_alike (pair s d e) = λ i. codes " " ++ alike d i ++ rests_alike e i
  rests_alike (vector s d) = λ i. codes " . " ++ (codes "#(" ++ elements_alike d i ++ codes ")")

-- spans don't show

mutual
  pub bare_text : (d : PlainDatum) → g.text_of (unspanned d) ≡ g.text_of d
  bare_text (atom s c) = refl
  bare_text (symbol s x) = refl
  bare_text (pair s d e) = λ i. codes "(" ++ (bare_text d i ++ bare_behind e i) ++ codes ")"
  bare_text (vector s d) = λ i. codes "#(" ++ bare_within d i ++ codes ")"

  bare_within : (d : PlainDatum) → g.within (unspanned d) ≡ g.within d
  bare_within (atom s c) = refl
  bare_within (symbol s x) = refl
  bare_within (pair s d e) = λ i. bare_text d i ++ bare_behind e i
  bare_within (vector s d) = refl

  bare_behind : (d : PlainDatum) → g.behind (unspanned d) ≡ g.behind d
  bare_behind (atom s c) = refl
  bare_behind (symbol s x) = refl
  bare_behind (pair s d e) = λ i. codes " " ++ bare_text d i ++ bare_behind e i
  bare_behind (vector s d) = λ i. codes " . " ++ (codes "#(" ++ bare_within d i ++ codes ")")
