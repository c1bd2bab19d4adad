-- The symbols of what is read are names: one or more characters of UTF-8. So are the parts of the name of a library.
use Rattle.std.proofs.Common.{◌≡◌, ℕ, zero, suc, Bool, true, false, List, [], ◌∷◌, Option, Some, None, Ok, refl, subst, if◌then◌else◌}
use Rattle.std.specs.Prelude.{All}
use Rattle.std.proofs.lemmas.List.Elements.{All-nil, All-cons, All-head, All-tail}
use Rattle.base_data.specs.Datum.{PlainDatum, atom, symbol, pair, vector, elements, tail_of, is_nil, proper_elements}
use Rattle.base_data.specs.Elements.{Each}
use Rattle.load_forms.specs.All.{given}
use Rattle.load_forms.specs.Form.{behind_word, form_of}
use Rattle.load_forms.specs.Name.{leading}
use Rattle.load_forms.specs.Words.{is_word}
use Rattle.read_reader.specs.Read.{data_of}
use Rattle.law_round.specs.Readable.{IsReadable, IsRest, AreElements, IsName}
use Rattle.law_round.proofs.Reading.{read_readable}

-- each symbol in a datum is a name
abbrev pub HasNames : PlainDatum → Type 0
HasNames (atom s x) = Unit {0}
HasNames (symbol s x) = IsName x
HasNames (pair s d e) = HasNames d × HasNames e
HasNames (vector s d) = HasNames d

mutual
  readable_names : (n : ℕ) (d : PlainDatum) → IsReadable n d → HasNames d
  readable_names n (atom s x) h = tt
  readable_names n (symbol s x) h = h
  readable_names zero (pair s d e) h = elim h [ ]
  readable_names (suc n) (pair s d e) h = (readable_names n d h.0, rest_names n e h.1)
  readable_names zero (vector s d) h = elim h [ ]
  readable_names (suc n) (vector s d) h = elements_names n d h

  rest_names : (n : ℕ) (d : PlainDatum) → IsRest n d → HasNames d
  rest_names n (atom s x) h = tt
  rest_names n (symbol s x) h = h
  rest_names n (pair s d e) h = (readable_names n d h.0, rest_names n e h.1)
  rest_names zero (vector s d) h = elim h [ ]
  rest_names (suc n) (vector s d) h = elements_names n d h

  elements_names : (n : ℕ) (d : PlainDatum) → AreElements n d → HasNames d
  elements_names n (atom s x) h = tt
  elements_names n (symbol s x) h = elim h [ ]
  elements_names n (pair s d e) h = (readable_names n d h.0, elements_names n e h.1)
  elements_names n (vector s d) h = elim h [ ]

all_names : (n : ℕ) (ds : List PlainDatum) → All (IsReadable n) ds → Each HasNames ds
all_names n [] h = tt
all_names n (d ∷ ds) h = (readable_names n d (All-head (IsReadable n) d ds h), all_names n ds (All-tail (IsReadable n) d ds h))

-- of all that a file has
pub read_names : (file bytes : List ℕ) (nesting : ℕ) (ds : List PlainDatum) → data_of file bytes nesting ≡ Ok ds → Each HasNames ds
read_names file bytes nesting ds e = all_names nesting ds (read_readable file bytes nesting ds e)

-- Of elements.

elements_named : (d : PlainDatum) → HasNames d → Each HasNames (elements d)
elements_named (atom s x) h = tt
elements_named (symbol s x) h = tt
elements_named (pair s d e) h = (h.0, elements_named e h.1)
elements_named (vector s d) h = tt

pub proper_named : (d : PlainDatum) (ds : List PlainDatum) → HasNames d → proper_elements d ≡ Some ds → Each HasNames ds
proper_named d ds h e = by (is_nil (tail_of d)) e
  where
    by : (b : Bool) → (if b then Some (elements d) else None) ≡ Some ds → Each HasNames ds
    by true k = let same : elements d ≡ ds = cc in subst (Each HasNames) same (elements_named d h)
    by false k = absurd (cc)

word_named : (word : List ℕ) (ds es : List PlainDatum) → Each HasNames ds → behind_word word ds ≡ Some es → Each HasNames es
word_named word [] es h e = absurd (cc)
word_named word (d ∷ ds) es h e = by (is_word word d) e
  where
    by : (b : Bool) → (if b then Some ds else None) ≡ Some es → Each HasNames es
    by true k = let same : ds ≡ es = cc in subst (Each HasNames) same h.1
    by false k = absurd (cc)

pub form_named : (word : List ℕ) (d : PlainDatum) (es : List PlainDatum) → HasNames d → form_of word d ≡ Some es → Each HasNames es
form_named word d es h e = by (proper_elements d) refl e
  where
    by : (o : Option (List PlainDatum)) → proper_elements d ≡ o → given o (behind_word word) ≡ Some es → Each HasNames es
    by None is k = absurd (cc)
    by (Some ds) is k = word_named word ds es (proper_named d ds h is) k

-- the parts at the front
pub leading_named : (ds : List PlainDatum) → Each HasNames ds → All IsName (leading ds)
leading_named [] h = All-nil IsName
leading_named (atom s x ∷ ds) h = All-nil IsName
leading_named (symbol s x ∷ ds) h = All-cons IsName x (leading ds) h.0 (leading_named ds h.1)
leading_named (pair s d e ∷ ds) h = All-nil IsName
leading_named (vector s d ∷ ds) h = All-nil IsName
