-- What some lexemes have come to: data, and forms that aren't complete.
use Rattle.std.specs.Prelude.{◌≡◌, ℕ, suc, List, [], ◌∷◌, ◌++◌, None}
use Rattle.base_data.specs.Datum.{PlainDatum}
use Rattle.read_lexer.specs.declared.token.Abbreviation.{Abbreviation}
use Rattle.read_lexer.specs.declared.token.Bracket.{Bracket}
use Rattle.read_lexer.specs.declared.token.Token.{Token}
use Rattle.read_lexer.specs.declared.token.Token.TheVariants as t
use Rattle.read_lexer.specs.declared.token.Lexeme.{Lexeme}
use Rattle.read_machine.specs.declared.extent.Extent.{Extent}
use Rattle.read_machine.specs.declared.partial.OpenTail.TheVariants as tail
use Rattle.read_machine.specs.declared.partial.OpenParts.{OpenParts}
use Rattle.read_machine.specs.declared.partial.OpenParts.TheVariants as parts
use Rattle.read_machine.specs.declared.partial.Partial.{Partial}
use Rattle.read_machine.specs.Partial.{misplaced}
use Rattle.read_reader.specs.Grammar.{lexeme, IsNext, AreItems, AreBytes}

-- the token that opens a form
abbrev pub opening_of : OpenParts → Token
opening_of (parts.List b ds tail) = t.Open b
opening_of (parts.Vector ds) = t.OpenVector
opening_of (parts.Bytes ns) = t.OpenBytes
opening_of (parts.Abbreviation k) = t.Abbreviation k
opening_of parts.Skipped = t.SkipDatum

-- how many more forms may be nested where such a form stands, if so many may be nested in it
abbrev pub room_round : OpenParts → ℕ → ℕ
room_round (parts.List b ds tail) n = suc n
room_round (parts.Vector ds) n = suc n
room_round (parts.Bytes ns) n = n
room_round (parts.Abbreviation k) n = suc n
room_round parts.Skipped n = suc n

module _ (file : List ℕ) where
  -- these lexemes behind the opening are these parts of its form
  pub data InsideForm : ℕ → List Lexeme → OpenParts → Type 0 where
    in_list : {n : ℕ} {ls : List Lexeme} {ds : List PlainDatum} (b : Bracket) → AreItems file n ls ds → InsideForm n ls (parts.List b ds tail.Absent)
    behind_dot : {n : ℕ} {ls ms : List Lexeme} {d : PlainDatum} {ds : List PlainDatum} (b : Bracket) (dot : Extent)
        → AreItems file n ls (d ∷ ds) → AreItems file n ms []
        → InsideForm n (ls ++ (lexeme t.Dot dot ∷ ms)) (parts.List b (d ∷ ds) (tail.Dotted dot))
    behind_tail : {n : ℕ} {ls ms us : List Lexeme} {d e : PlainDatum} {ds : List PlainDatum} {z : Extent} (b : Bracket) (dot : Extent)
        → AreItems file n ls (d ∷ ds) → IsNext file n ms e z → AreItems file n us []
        → InsideForm n (ls ++ (lexeme t.Dot dot ∷ (ms ++ us))) (parts.List b (d ∷ ds) (tail.Given dot e))
    in_vector : {n : ℕ} {ls : List Lexeme} {ds : List PlainDatum} → AreItems file n ls ds → InsideForm n ls (parts.Vector ds)
    in_bytes : {n : ℕ} {ls : List Lexeme} {ns : List ℕ} → AreBytes file n ls ns → InsideForm n ls (parts.Bytes ns)
    behind_prefix : {n : ℕ} {ls : List Lexeme} (k : Abbreviation) → AreItems file n ls [] → InsideForm n ls (parts.Abbreviation k)
    behind_skip : {n : ℕ} {ls : List Lexeme} → AreItems file n ls [] → InsideForm n ls parts.Skipped

abbrev pub partial : Extent → ℕ → OpenParts → Partial
partial x n p = record { opening = x; room = n; parts = p }

-- a form with such parts may begin here; a comment may stand wherever it does
abbrev pub Fits : OpenParts → Extent → List Partial → Type 0
Fits (parts.List b ds last) x fs = misplaced fs x ≡ None
Fits (parts.Vector ds) x fs = misplaced fs x ≡ None
Fits (parts.Bytes ns) x fs = misplaced fs x ≡ None
Fits (parts.Abbreviation k) x fs = misplaced fs x ≡ None
Fits parts.Skipped x fs = Unit {0}

module _ (file : List ℕ) (nesting : ℕ) where
  -- these lexemes have come to these open forms, innermost first, and to these data that stand in no other; the number is how many more forms may be nested there
  pub data ComesTo : ℕ → List Lexeme → List Partial → List PlainDatum → Type 0 where
    at_top : {ls : List Lexeme} {ds : List PlainDatum} {n : ℕ} → n ≡ nesting → AreItems file n ls ds → ComesTo n ls [] ds
    within : {n : ℕ} {ls ms : List Lexeme} {p : OpenParts} {fs : List Partial} {found : List PlainDatum} (x : Extent)
        → ComesTo (room_round p n) ls fs found → Fits p x fs → InsideForm file n ms p
        → ComesTo n (ls ++ (lexeme (opening_of p) x ∷ ms)) (partial x n p ∷ fs) found
