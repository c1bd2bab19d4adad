-- A generated name is read as the symbol of its own text.
use Rattle.std.proofs.Common.{◌≡◌, ℕ, zero, suc, ◌<◌, true, List, [], ◌∷◌, ◌++◌, arith, refl, sym, ap, ◌∙◌, Option, None, Ok}
use Rattle.std.specs.Char.{digit_value}
use Rattle.std.specs.List.{list_all}
use Rattle.std.specs.Str.{IsAscii, chars}
use Rattle.std.specs.Str.Parse.{AllDigits}
use Rattle.std.proofs.lemmas.Bool.{and_parts, and_from}
use Rattle.std.proofs.lemmas.Bool.Decides.{nat_tests}
use Rattle.std.proofs.lemmas.Str.{encode_ascii, chars-IsAscii, IsUtf8-from_ascii}
use Rattle.base_data.specs.Datum.{PlainDatum, atom, symbol, pair, vector, unspanned}
use Rattle.base_data.specs.declared.span.Span.{Span}
use Rattle.read_reader.specs.Read.{data_of}
use Rattle.read_printer.specs.DatumText.{datum_text}
use Rattle.read_printer.specs.Symbols.{symbol_text, name_text, initial_text, subsequent_text, subsequents_text, is_subsequent}
use Rattle.core_naming.specs.Decimal.{number_text}
use Rattle.core_naming.specs.Generated.{name_part, library_text}
use Rattle.core_naming.proofs.Decimal.{number_reads}
use Rattle.law_round.specs.Readable.{IsName}
use Rattle.law_round.proofs.Round.{read_back}
use Rattle.law_names.specs.Variable.{NamedVariable, IsVariable, name_of}
use Rattle.law_names.specs.Apart.{IsReadAsSymbol, NamesAreReadAsThemselves, NamesStayApart}
use Rattle.law_names.proofs.Words.{all_append, all_weaker}
use Rattle.law_names.proofs.Telling.{is_path, is_word, part_word, library_path, name_is, names_tell}

-- what stands in a name stands for itself in an identifier, behind its first character
pub path_subsequent : (b : ℕ) → is_path b ≡ true → is_subsequent b ≡ true
path_subsequent b h = grind (arith, nat_tests)

pub word_subsequent : (b : ℕ) → is_word b ≡ true → is_subsequent b ≡ true
word_subsequent b h = grind (arith, nat_tests)

digit_subsequent : (b : ℕ) → digit_value b < 10 → is_subsequent b ≡ true
digit_subsequent b h = grind (arith, nat_tests)

pub digits_subsequent : (ds : List ℕ) → AllDigits 10 ds → list_all is_subsequent ds ≡ true
digits_subsequent [] h = refl
digits_subsequent (d ∷ ds) h = and_from (is_subsequent d) (list_all is_subsequent ds) (digit_subsequent d h.0) (digits_subsequent ds h.1)

subsequent_ascii : (b : ℕ) → is_subsequent b ≡ true → b < 0x80
subsequent_ascii b h = grind (arith, nat_tests)

pub ascii : (bs : List ℕ) → list_all is_subsequent bs ≡ true → IsAscii bs
ascii [] h i = omega arith
ascii (b ∷ bs) h zero = subsequent_ascii b ((and_parts (is_subsequent b) (list_all is_subsequent bs) h).0)
ascii (b ∷ bs) h (suc i) = ascii bs ((and_parts (is_subsequent b) (list_all is_subsequent bs) h).1) i

pub itself : (b : ℕ) → is_subsequent b ≡ true → subsequent_text b ≡ b ∷ []
itself b h = rw h (encode_ascii b (subsequent_ascii b h))

pub all_themselves : (bs : List ℕ) → list_all is_subsequent bs ≡ true → subsequents_text bs ≡ bs
all_themselves [] h = refl
all_themselves (b ∷ bs) h =
    let both = and_parts (is_subsequent b) (list_all is_subsequent bs) h in
    ap (λ (w : List ℕ). w ++ subsequents_text bs) (itself b both.0) ∙ ap (λ (w : List ℕ). b ∷ w) (all_themselves bs both.1)

-- an identifier that begins with a percent sign
first_itself : initial_text 0x25 ≡ 0x25 ∷ []
first_itself = encode_ascii 0x25 (omega arith)

symbol_is : (bs : List ℕ) → list_all is_subsequent bs ≡ true → symbol_text (0x25 ∷ bs) ≡ 0x25 ∷ bs
symbol_is bs h =
    let plain : chars (0x25 ∷ bs) ≡ 0x25 ∷ bs = chars-IsAscii (0x25 ∷ bs) (ascii (0x25 ∷ bs) h) in
    ap name_text plain ∙ ap (λ (w : List ℕ). w ++ subsequents_text bs) first_itself ∙ ap (λ (w : List ℕ). 0x25 ∷ w) (all_themselves bs h)

rest_subsequent : (v : NamedVariable) → IsVariable v → list_all is_subsequent (library_text v.library ++ (0x2F ∷ (name_part v.symbol ++ (0x2F ∷ number_text v.number)))) ≡ true
rest_subsequent v h =
    let path = all_weaker is_path is_subsequent path_subsequent (library_text v.library) (library_path v.library h.0) in
    let word = all_weaker is_word is_subsequent word_subsequent (name_part v.symbol) (part_word v.symbol h.1) in
    let number = digits_subsequent (number_text v.number) ((number_reads v.number).0.1) in
    all_append is_subsequent (library_text v.library) (0x2F ∷ (name_part v.symbol ++ (0x2F ∷ number_text v.number))) path
    (all_append is_subsequent (name_part v.symbol) (0x2F ∷ number_text v.number) word number)

-- what the datum is but for its span
unspanned_symbol : (d : PlainDatum) (x : List ℕ) → unspanned d ≡ symbol None x → (s : Option Span) × (d ≡ symbol s x)
unspanned_symbol (symbol s y) x e = (s, ap (symbol s) (texts e)) where
  texts : symbol None y ≡ symbol None x → y ≡ x
  texts e = cc
unspanned_symbol (atom s a) x e = absurd (cc)
unspanned_symbol (pair s a b) x e = absurd (cc)
unspanned_symbol (vector s a) x e = absurd (cc)

pub read_itself : (file : List ℕ) (nesting : ℕ) (bs : List ℕ) → list_all is_subsequent bs ≡ true → IsReadAsSymbol file nesting (0x25 ∷ bs) (0x25 ∷ bs)
read_itself file nesting bs h =
    let name : IsName (0x25 ∷ bs) = (IsUtf8-from_ascii (0x25 ∷ bs) (ascii (0x25 ∷ bs) h), omega arith) in
    let r = read_back file nesting (symbol None (0x25 ∷ bs)) name in
    let is = unspanned_symbol r.datum (0x25 ∷ bs) r.same in
    let text : datum_text (symbol None (0x25 ∷ bs)) ≡ 0x25 ∷ bs = symbol_is bs h in
    record {
      span = is.0;
      read = ap (λ (w : List ℕ). data_of file w nesting) (sym text) ∙ r.read ∙ ap (λ (d : PlainDatum). Ok (d ∷ [])) is.1;
    }

pub names_read : NamesAreReadAsThemselves
names_read file nesting v h =
    rw (name_is v.library v.symbol v.number)
    (read_itself file nesting (library_text v.library ++ (0x2F ∷ (name_part v.symbol ++ (0x2F ∷ number_text v.number)))) (rest_subsequent v h))

pub names_apart : NamesStayApart
names_apart file nesting v w h k other = record {
  first = name_of v;
  second = name_of w;
  first_read = names_read file nesting v h;
  second_read = names_read file nesting w k;
  differ = λ e. other (names_tell v w h k e);
}
