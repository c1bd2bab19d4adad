-- The lexer gives tokens of readable atoms and symbols alone.
use Rattle.std.proofs.Common.{◌≡◌, ℕ, zero, suc, ◌+◌, ◌-◌, ◌<◌, ◌≤◌, ◌^◌, Bool, true, false, cond, List, [], ◌∷◌, ◌++◌, length, drop, take, arith, refl, sym, ap, ◌∙◌, subst, length-append, length-take, Option, Some, None, Result, Ok, Err, ℤ, pos, negsuc}
use Rattle.std.proofs.lemmas.List.{append-nil}
use Rattle.std.proofs.lemmas.Str.{IsUtf8-append, IsUtf8-encode, IsUtf8-nil, length-encode, len_utf8_bounds}
use Rattle.std.specs.Prelude.{◌==◌, ◌&&◌, ◌||◌, nat_lt, nat_le, nat_eq, slice_index, IfOk, codes, encode_utf8, option_and_then}
use Rattle.std.specs.Char.{IsScalar}
use Rattle.std.specs.Str.{IsUtf8}
use Rattle.std.specs.List.{starts_with}
use Rattle.std.specs.Cmp.Lexicographic.{pointwise}
use Rattle.std.proofs.lemmas.Bool.Decides.{nat_tests}
use Rattle.bstr.specs.Utf8.{Decoded}
use Rattle.base_data.specs.Gives.{◌>>=◌}
use Rattle.base_data.specs.Place.{line_end}
use Rattle.base_data.specs.declared.atom.Atom.TheVariants as a
use Rattle.base_data.specs.declared.fault.Fault.{Fault}
use Rattle.base_data.specs.declared.fault.FaultKind.{FaultKind}
use Rattle.base_data.specs.declared.fault.FaultKind.TheVariants as kind
use Rattle.base_data.proofs.Chars.{branch}
use Rattle.read_spelling.specs.Escapes.{scalar_of, escape}
use Rattle.read_spelling.specs.Identifiers.{identifier, letter_here, name_from, char_letter, first_letter, is_of, is_peculiar}
use Rattle.read_spelling.specs.Numbers.{digits_size, value_from, integer, signed, greatest, spelt, is_spelt, is_integer, is_minus, unsigned, is_digits}
use Rattle.read_spelling.specs.Source.{characters, piece}
use Rattle.read_spelling.specs.Whitespace.{blanks_end, is_delimited, runs_on}
use Rattle.read_spelling.specs.declared.escapes.Letter.{Letter}
use Rattle.read_spelling.specs.declared.identifiers.Class.{Class}
use Rattle.read_spelling.specs.declared.identifiers.Class.TheVariants as class
use Rattle.read_lexer.specs.Characters.{named, scalar_or_fault, hex_character, character_but, character_to, character_with, character_end, character_behind, character_at, lexeme_of_char}
use Rattle.read_lexer.specs.Gap.{gap_end}
use Rattle.read_lexer.specs.Repeat.{repeated}
use Rattle.read_lexer.specs.Tokens.{lexeme, number, spelt_or_fault, number_of, integer_in, no_identifier, begins_number, identifier_or_else, is_dot, bare, bare_to, bare_step, bare_end, bare_at, escape_end, char_end, marked_at, radix, word_at, is_true, is_false, unquoting, hash_at, is_number_mark, lexeme_at, lexeme_behind, next_lexeme}
use Rattle.read_lexer.specs.Strings.{simple_escape, char_or_byte, char_here, letter_or_fault, hex_part, line_part, escape_part, line_or_char, string_part, char_text, string_from, string_lexeme, string_at}
use Rattle.read_lexer.specs.Start.{start_of}
use Rattle.read_reader.specs.Lexemes.{Lexed, lexed_on, lexed_from, lexed_behind, lexed}
use Rattle.read_lexer.specs.declared.token.Abbreviation.TheVariants as abbreviation
use Rattle.read_lexer.specs.declared.token.Lexeme.{Lexeme}
use Rattle.read_lexer.specs.declared.token.Token.{Token}
use Rattle.read_lexer.specs.declared.token.Token.TheVariants as t
use Rattle.law_round.specs.Readable.{IsReadableAtom, IsName, Fits}
use Rattle.law_round.proofs.Scalars.{IsChar, FirstIsChar, LetterIsChar, bind, anything, first_is, scalar_char, escape_char}

-- the atom or the symbol of a token is readable
abbrev pub IsGood : Token → Type 0
IsGood (t.Open b) = Unit {0}
IsGood (t.Close b) = Unit {0}
IsGood t.OpenVector = Unit {0}
IsGood t.OpenBytes = Unit {0}
IsGood (t.Abbreviation k) = Unit {0}
IsGood t.SkipDatum = Unit {0}
IsGood t.Dot = Unit {0}
IsGood (t.Atom c) = IsReadableAtom 0 c
IsGood (t.Symbol x) = IsName x

abbrev pub GoodLexeme : Result Lexeme Fault → Type 0
GoodLexeme r = IfOk r (λ l. IsGood l.token)

abbrev GoodToken : Result Token Fault → Type 0
GoodToken r = IfOk r IsGood

abbrev GoodPart : Result Decoded Fault → Type 0
GoodPart r = IfOk r (λ p. IsChar p.char)

-- strings
simple_char : (b : ℕ) → IsChar (simple_escape b)
simple_char b =
    branch IsChar (b == 0x61) (λ _. refl) (λ _. branch IsChar (b == 0x62) (λ _. refl) (λ _. branch IsChar (b == 0x74) (λ _. refl) (λ _.
    branch IsChar (b == 0x6E) (λ _. refl) (λ _. branch IsChar (b == 0x76) (λ _. refl) (λ _. branch IsChar (b == 0x66) (λ _. refl) (λ _.
    branch IsChar (b == 0x72) (λ _. refl) (λ _. branch IsChar (b == 0x22) (λ _. refl) (λ _. branch IsChar (b == 0x5C) (λ _. refl) (λ _. tt)))))))))

byte_good : (file : List ℕ) (at size : ℕ) (o : Option ℕ) → IsChar o → GoodPart (char_or_byte file at o size)
byte_good file at size None h = tt
byte_good file at size (Some c) h = h

here_good : (file : List ℕ) (quote at : ℕ) (ps : List Decoded) → FirstIsChar ps → GoodPart (char_here file quote at ps)
here_good file quote at [] h = tt
here_good file quote at (p ∷ ps) h = byte_good file at p.size p.char h

letter_good : (file : List ℕ) (quote at : ℕ) (o : Option Letter) → LetterIsChar o → GoodPart (letter_or_fault file quote at o)
letter_good file quote at None h = tt
letter_good file quote at (Some l) h = h

hex_good : (file : List ℕ) (quote at n : ℕ) (bytes : List ℕ) → GoodPart (hex_part file quote at n bytes)
hex_good file quote at n bytes =
    let r = char_here file quote (at + 2 + n) (characters (drop (2 + n) bytes)) in
    bind (λ _. Unit {0}) (λ p. IsChar p.char) r (λ _. letter_or_fault file quote at (escape bytes)) (anything r) (λ _ _. letter_good file quote at (escape bytes) (escape_char bytes))

line_good : (file : List ℕ) (quote at here n : ℕ) (rest : List ℕ) → GoodPart (line_part file quote at here n rest)
line_good file quote at here n rest =
    let r = char_here file quote here (characters rest) in
    bind (λ _. Unit {0}) (λ p. IsChar p.char) r _ (anything r) (λ _ _. branch GoodPart (n == 0) (λ _. tt) (λ _. tt))

escape_good : (file : List ℕ) (quote : ℕ) (bytes : List ℕ) (at : ℕ) (o : Option ℕ) → IsChar o → GoodPart (escape_part file quote bytes at o)
escape_good file quote bytes at (Some c) h = h
escape_good file quote bytes at None h =
    let here : ℕ = blanks_end (at + 1) (characters (drop 1 bytes)) in
    let rest : List ℕ = drop (here - at) bytes in
    branch GoodPart (slice_index bytes 1 == 0x78) (λ _. hex_good file quote at (digits_size 16 (drop 2 bytes)) bytes) (λ _. line_good file quote at here (line_end rest) rest)

part_good : (file : List ℕ) (quote : ℕ) (bytes : List ℕ) (at : ℕ) → GoodPart (string_part file quote bytes at)
unfolding string_part
part_good file quote bytes at =
    branch GoodPart (slice_index bytes 0 == 0x5C) (λ _. escape_good file quote bytes at (simple_escape (slice_index bytes 1)) (simple_char (slice_index bytes 1)))
    (λ _. branch GoodPart (line_end bytes == 0) (λ _. here_good file quote at (characters bytes) (first_is bytes)) (λ _. refl))

text_utf8 : (o : Option ℕ) → IsChar o → IsUtf8 (char_text o)
text_utf8 None h = IsUtf8-nil
text_utf8 (Some c) h = IsUtf8-encode c h

string_from_good : (k : ℕ) (file : List ℕ) (quote : ℕ) (out bytes : List ℕ) (at : ℕ) → IsUtf8 out → GoodLexeme (string_from file quote k out bytes at)
unfolding string_from
string_from_good zero file quote out bytes at h = tt
string_from_good (suc k) file quote out bytes at h =
    branch GoodLexeme (slice_index bytes 0 == 0x22) (λ _. h)
    (λ _. bind (λ p. IsChar p.char) (λ l. IsGood l.token) (string_part file quote bytes at) (λ p. string_from file quote k (out ++ char_text p.char) (drop p.size bytes) (at + p.size)) (part_good file quote bytes at)
    (λ p q. string_from_good k file quote (out ++ char_text p.char) (drop p.size bytes) (at + p.size) (IsUtf8-append out (char_text p.char) h (text_utf8 p.char q))))

string_good : (file bytes : List ℕ) (from : ℕ) → GoodLexeme (string_at file bytes from)
string_good file bytes from = string_from_good (suc (length (drop 1 bytes))) file from [] (drop 1 bytes) (from + 1) IsUtf8-nil

-- characters
named_char : (name : List ℕ) → IsChar (named name)
named_char name =
    branch IsChar (pointwise nat_eq name (codes "nul")) (λ _. refl) (λ _. branch IsChar (pointwise nat_eq name (codes "alarm")) (λ _. refl) (λ _.
    branch IsChar (pointwise nat_eq name (codes "backspace")) (λ _. refl) (λ _. branch IsChar (pointwise nat_eq name (codes "tab")) (λ _. refl) (λ _.
    branch IsChar (pointwise nat_eq name (codes "linefeed")) (λ _. refl) (λ _. branch IsChar (pointwise nat_eq name (codes "newline")) (λ _. refl) (λ _.
    branch IsChar (pointwise nat_eq name (codes "vtab")) (λ _. refl) (λ _. branch IsChar (pointwise nat_eq name (codes "page")) (λ _. refl) (λ _.
    branch IsChar (pointwise nat_eq name (codes "return")) (λ _. refl) (λ _. branch IsChar (pointwise nat_eq name (codes "esc")) (λ _. refl) (λ _.
    branch IsChar (pointwise nat_eq name (codes "space")) (λ _. refl) (λ _. branch IsChar (pointwise nat_eq name (codes "delete")) (λ _. refl) (λ _. tt))))))))))))

abbrev GoodScalar : Result ℕ Fault → Type 0
GoodScalar r = IfOk r IsScalar

scalar_good : (file : List ℕ) (from to : ℕ) (o : Option ℕ) → IsChar o → GoodScalar (scalar_or_fault file from to o)
scalar_good file from to None h = tt
scalar_good file from to (Some c) h = h

numbered_good : (file : List ℕ) (from to : ℕ) (text : List ℕ) → GoodScalar (hex_character file from to text)
numbered_good file from to text =
    branch GoodScalar (slice_index text 0 == 0x78 && is_digits 16 (drop 1 text)) (λ _. scalar_good file from to (scalar_of (drop 1 text)) (scalar_char (value_from 16 0 (drop 1 text)))) (λ _. tt)

but_good : (file : List ℕ) (from to : ℕ) (text : List ℕ) (o : Option ℕ) → IsChar o → GoodScalar (character_but file from to text o)
but_good file from to text (Some c) h = h
but_good file from to text None h = numbered_good file from to text

to_good : (file bytes : List ℕ) (from c size to : ℕ) → IsScalar c → GoodScalar (character_to file bytes from c size to)
to_good file bytes from c size to h =
    let text : List ℕ = drop 2 (take (to - from) bytes) in
    branch GoodScalar (is_delimited (characters (drop (to - from) bytes)))
    (λ _. branch GoodScalar (to == from + 2 + size) (λ _. h) (λ _. but_good file from to text (named text) (named_char text))) (λ _. tt)

with_good : (file bytes : List ℕ) (from : ℕ) (o : Option ℕ) (size : ℕ) → IsChar o → GoodLexeme (character_with file bytes from o size)
with_good file bytes from None size h = tt
with_good file bytes from (Some c) size h =
    let to : ℕ = character_end bytes from size in
    bind IsScalar (λ l. IsGood l.token) (character_to file bytes from c size to) (λ d. Ok (lexeme_of_char from to d)) (to_good file bytes from c size to h) (λ d q. q)

behind_good : (file bytes : List ℕ) (from : ℕ) (ps : List Decoded) → FirstIsChar ps → GoodLexeme (character_behind file bytes from ps)
behind_good file bytes from [] h = tt
behind_good file bytes from (p ∷ ps) h = with_good file bytes from p.char p.size h

character_good : (file bytes : List ℕ) (from : ℕ) → GoodLexeme (character_at file bytes from)
character_good file bytes from = behind_good file bytes from (characters (drop 2 bytes)) (first_is (drop 2 bytes))

-- numbers
abbrev IsFit : Option ℤ → Type 0
IsFit None = Unit {0}
IsFit (Some z) = Fits z

at_most : (m n : ℕ) → nat_le m n ≡ true → m ≤ n
at_most m n h = grind (arith, nat_tests)

signed_fit : (minus : Bool) (n : ℕ) → IsFit (signed minus n)
signed_fit true zero = omega arith
signed_fit true (suc n) = branch IsFit (nat_le (suc n) (2 ^ 127)) (λ e. omega (arith, at_most (suc n) (2 ^ 127) e)) (λ _. tt)
signed_fit false n = branch IsFit (nat_le n (2 ^ 127 - 1)) (λ e. omega (arith, at_most n (2 ^ 127 - 1) e)) (λ _. tt)

int_good : (file : List ℕ) (from to : ℕ) (o : Option ℤ) → IsFit o → GoodToken (number file from to o)
int_good file from to None h = tt
int_good file from to (Some z) h = h

integer_good : (file : List ℕ) (base : ℕ) (text : List ℕ) (from to : ℕ) → GoodToken (integer_in file base text from to)
integer_good file base text from to =
    branch GoodToken (nat_lt 0 base && is_integer base text) (λ _. int_good file from to (integer base text) (signed_fit (is_minus (slice_index text 0)) (value_from base 0 (unsigned text)))) (λ _. tt)

spelt_good : (file : List ℕ) (from to : ℕ) (text : List ℕ) → GoodToken (spelt_or_fault file from to (spelt text))
spelt_good file from to text = branch (λ o. GoodToken (spelt_or_fault file from to o)) (is_spelt text) (λ e. e) (λ _. tt)

number_good : (file text : List ℕ) (from to : ℕ) → GoodToken (number_of file text from to)
number_good file text from to =
    branch GoodToken (is_integer 10 text) (λ _. int_good file from to (integer 10 text) (signed_fit (is_minus (slice_index text 0)) (value_from 10 0 (unsigned text)))) (λ _. spelt_good file from to text)

-- identifiers
of_good : (k : Class) (o : Option ℕ) (size : ℕ) → IsChar o → LetterIsChar (char_letter k o size)
of_good k None size h = tt
of_good k (Some c) size h = branch LetterIsChar (is_of k c) (λ _. h) (λ _. tt)

first_good : (k : Class) (ps : List Decoded) → FirstIsChar ps → LetterIsChar (first_letter k ps)
first_good k [] h = tt
first_good k (p ∷ ps) h = of_good k p.char p.size h

letter_char : (k : Class) (bytes : List ℕ) → LetterIsChar (letter_here k bytes)
unfolding letter_here
letter_char k bytes = branch LetterIsChar (slice_index bytes 0 == 0x5C) (λ _. escape_char bytes) (λ _. first_good k (characters bytes) (first_is bytes))

abbrev IsSomeName : Option (List ℕ) → Type 0
IsSomeName None = Unit {0}
IsSomeName (Some x) = IsName x

nothing : (n : ℕ) → n == 0 ≡ true → n ≡ 0
nothing n h = grind (arith, nat_tests)

some_encoded : (c : ℕ) → 0 < length (encode_utf8 c)
some_encoded c = omega (arith, length-encode c, (len_utf8_bounds c).0)

letter_then : (f : Letter → Option (List ℕ)) (o : Option Letter) → LetterIsChar o → ((l : Letter) → IsScalar l.char → IsSomeName (f l)) → IsSomeName (option_and_then f o)
letter_then f None h g = tt
letter_then f (Some l) h g = g l h

-- a name goes on, and has characters so far or bytes to come
name_good : (n : ℕ) (k : Class) (out bytes : List ℕ) → IsUtf8 out → 0 < length out + length bytes → IsSomeName (name_from n k out bytes)
unfolding name_from
name_good zero k out bytes u some = tt
name_good (suc n) k out bytes u some =
    branch IsSomeName (length bytes == 0) (λ e. (u, omega (arith, some, nothing (length bytes) e)))
    (λ _. letter_then (λ l. name_from n class.Subsequent (out ++ encode_utf8 l.char) (drop l.size bytes)) (letter_here k bytes) (letter_char k bytes)
    (λ l h. name_good n class.Subsequent (out ++ encode_utf8 l.char) (drop l.size bytes) (IsUtf8-append out (encode_utf8 l.char) u (IsUtf8-encode l.char h))
    (omega (arith, length-append out (encode_utf8 l.char), some_encoded l.char))))

identifier_good : (text : List ℕ) → 0 < length text → IsSomeName (identifier text)
identifier_good text some = name_good (suc (length text)) (cond (is_peculiar text) class.Subsequent class.Initial) [] text IsUtf8-nil (omega (arith, some))

else_good : (file text : List ℕ) (from to : ℕ) (o : Option (List ℕ)) → IsSomeName o → GoodToken (identifier_or_else file text from to o)
else_good file text from to (Some x) h = h
else_good file text from to None h = branch GoodToken (begins_number (slice_index text 0)) (λ _. number_good file text from to) (λ _. tt)

bare_good : (file text : List ℕ) (from to : ℕ) → 0 < length text → GoodToken (bare file text from to)
bare_good file text from to some = branch GoodToken (is_dot text) (λ _. tt) (λ _. else_good file text from to (identifier text) (identifier_good text some))

-- a bare token goes forward
abbrev Forward : ℕ → Result ℕ Fault → Type 0
Forward at r = IfOk r (λ to. at ≤ to)

further : (at to : ℕ) (r : Result ℕ Fault) → at ≤ to → Forward to r → Forward at r
further at to (Ok x) h g = omega (arith, h, g)
further at to (Err e) h g = tt

escape_forward : (file : List ℕ) (bad : FaultKind) (from at : ℕ) (o : Option Letter) → Forward at (escape_end file bad from at o)
escape_forward file bad from at None = tt
escape_forward file bad from at (Some l) = omega arith

char_forward : (at : ℕ) (ps : List Decoded) → at ≤ char_end at ps
char_forward at [] = omega arith
char_forward at (p ∷ ps) = branch (λ to. at ≤ to) (runs_on p.char) (λ _. omega arith) (λ _. omega arith)

step_forward : (file : List ℕ) (bad : FaultKind) (from : ℕ) (bytes : List ℕ) (at : ℕ) → Forward at (bare_step file bad from bytes at)
unfolding bare_step
step_forward file bad from bytes at = branch (Forward at) (slice_index bytes 0 == 0x5C) (λ _. escape_forward file bad from at (escape bytes)) (λ _. char_forward at (characters bytes))

runs_forward : (k : ℕ) (file : List ℕ) (bad : FaultKind) (from : ℕ) (bytes : List ℕ) (at : ℕ) → Forward at (repeated (bare_step file bad from) k bytes at)
unfolding repeated
runs_forward zero file bad from bytes at = omega arith
runs_forward (suc k) file bad from bytes at =
    bind (λ to. at ≤ to) (λ to. at ≤ to) (bare_step file bad from bytes at) (λ to. cond (to == at) (Ok at) (repeated (bare_step file bad from) k (drop (to - at) bytes) to)) (step_forward file bad from bytes at)
    (λ to h. branch (Forward at) (to == at) (λ _. omega arith) (λ _. further at to (repeated (bare_step file bad from) k (drop (to - at) bytes) to) h (runs_forward k file bad from (drop (to - at) bytes) to)))

apart : (to from : ℕ) → to == from ≡ false → from ≤ to → 0 < to - from
apart to from h f = grind (arith, nat_tests)

text_some : (n : ℕ) (bytes : List ℕ) → 0 < n → 0 < length bytes → 0 < length (take n bytes)
text_some n bytes h g = omega (arith, length-take n bytes, h, g)

to_bare_good : (file bytes : List ℕ) (from to : ℕ) → 0 < length bytes → from ≤ to → GoodLexeme (bare_to file bytes from to)
to_bare_good file bytes from to some forward =
    branch GoodLexeme (to == from) (λ _. tt)
    (λ e. let text : List ℕ = take (to - from) bytes in
    bind IsGood (λ l. IsGood l.token) (bare file text from to) (λ k. Ok (lexeme k from to)) (bare_good file text from to (text_some (to - from) bytes (apart to from e forward) some)) (λ k h. h))

bare_at_good : (file bytes : List ℕ) (from : ℕ) → 0 < length bytes → GoodLexeme (bare_at file bytes from)
bare_at_good file bytes from some =
    bind (λ to. from ≤ to) (λ l. IsGood l.token) (bare_end file kind.BadEscape from bytes from) (λ to. bare_to file bytes from to) (runs_forward (suc (length bytes)) file kind.BadEscape from bytes from) (λ to h. to_bare_good file bytes from to some h)

-- a number behind its mark
marked_good : (file bytes : List ℕ) (from : ℕ) → GoodLexeme (marked_at file bytes from)
marked_good file bytes from =
    let end = bare_end file kind.BadNumber from (drop 2 bytes) (from + 2) in
    let token = λ (to : ℕ). integer_in file (radix (slice_index bytes 1)) (drop 2 (take (to - from) bytes)) from to in
    bind (λ (_ : ℕ). Unit {0}) (λ (l : Lexeme). IsGood l.token) end (λ to. token to >>= λ k. Ok (lexeme k from to)) (anything end)
    (λ to _. bind IsGood (λ (l : Lexeme). IsGood l.token) (token to) (λ k. Ok (lexeme k from to)) (integer_good file (radix (slice_index bytes 1)) (drop 2 (take (to - from) bytes)) from to) (λ k h. h))

word_good : (file bytes : List ℕ) (from : ℕ) → GoodLexeme (word_at file bytes from)
word_good file bytes from =
    branch GoodLexeme (starts_with nat_eq bytes (codes "#vu8(")) (λ _. tt) (λ _.
    branch GoodLexeme (is_true (slice_index bytes 1) && is_delimited (characters (drop 2 bytes))) (λ _. tt) (λ _.
    branch GoodLexeme (is_false (slice_index bytes 1) && is_delimited (characters (drop 2 bytes))) (λ _. tt) (λ _. tt)))

unquoting_good : (bytes : List ℕ) (from n : ℕ) (one all : abbreviation.the_data) → IsGood (unquoting bytes from n one all).token
unquoting_good bytes from n one all = branch (λ (l : Lexeme). IsGood l.token) (slice_index bytes n == 0x40) (λ _. tt) (λ _. tt)

hash_good : (file bytes : List ℕ) (from : ℕ) → GoodLexeme (hash_at file bytes from)
hash_good file bytes from =
    branch GoodLexeme (slice_index bytes 1 == 0x28) (λ _. tt) (λ _. branch GoodLexeme (slice_index bytes 1 == 0x3B) (λ _. tt) (λ _.
    branch GoodLexeme (slice_index bytes 1 == 0x27) (λ _. tt) (λ _. branch GoodLexeme (slice_index bytes 1 == 0x60) (λ _. tt) (λ _.
    branch GoodLexeme (slice_index bytes 1 == 0x2C) (λ _. unquoting_good bytes from 2 abbreviation.Unsyntax abbreviation.UnsyntaxSplicing) (λ _.
    branch GoodLexeme (slice_index bytes 1 == 0x5C) (λ _. character_good file bytes from) (λ _.
    branch GoodLexeme (is_number_mark (slice_index bytes 1)) (λ _. marked_good file bytes from) (λ _. word_good file bytes from)))))))

lexeme_good : (file bytes : List ℕ) (from : ℕ) → 0 < length bytes → GoodLexeme (lexeme_at file bytes from)
lexeme_good file bytes from some =
    branch GoodLexeme (slice_index bytes 0 == 0x28) (λ _. tt) (λ _. branch GoodLexeme (slice_index bytes 0 == 0x29) (λ _. tt) (λ _.
    branch GoodLexeme (slice_index bytes 0 == 0x5B) (λ _. tt) (λ _. branch GoodLexeme (slice_index bytes 0 == 0x5D) (λ _. tt) (λ _.
    branch GoodLexeme (slice_index bytes 0 == 0x27) (λ _. tt) (λ _. branch GoodLexeme (slice_index bytes 0 == 0x60) (λ _. tt) (λ _.
    branch GoodLexeme (slice_index bytes 0 == 0x2C) (λ _. unquoting_good bytes from 1 abbreviation.Unquote abbreviation.UnquoteSplicing) (λ _.
    branch GoodLexeme (slice_index bytes 0 == 0x22) (λ _. string_good file bytes from) (λ _.
    branch GoodLexeme (slice_index bytes 0 == 0x23) (λ _. hash_good file bytes from) (λ _. bare_at_good file bytes from some)))))))))

-- of each lexeme
abbrev pub AreGood : List Lexeme → Type 0
AreGood [] = Unit {0}
AreGood (l ∷ ls) = IsGood l.token × AreGood ls

abbrev NextIsGood : Option Lexeme → Type 0
NextIsGood None = Unit {0}
NextIsGood (Some l) = IsGood l.token

some_there : (n : ℕ) → n == 0 ≡ false → 0 < n
some_there n h = grind (arith, nat_tests)

next_good : (file bytes : List ℕ) (at : ℕ) → IfOk (next_lexeme file bytes at) NextIsGood
next_good file bytes at =
    let end = gap_end file (drop at bytes) at in
    bind (λ (_ : ℕ). Unit {0}) NextIsGood end (λ from. lexeme_behind file (drop from bytes) from) (anything end)
    (λ from _. branch (λ (r : Result (Option Lexeme) Fault). IfOk r NextIsGood) (length (drop from bytes) == 0) (λ _. tt)
    (λ e. bind (λ (l : Lexeme). IsGood l.token) NextIsGood (lexeme_at file (drop from bytes) from) (λ l. Ok (Some l)) (lexeme_good file (drop from bytes) from (some_there (length (drop from bytes)) e)) (λ l h. h)))

on_good : (r : Result (Option Lexeme) Fault) (others : ℕ → Lexed) → IfOk r NextIsGood → ((to : ℕ) → AreGood (others to).lexemes) → AreGood (lexed_on r others).lexemes
on_good (Ok None) others h g = tt
on_good (Ok (Some l)) others h g = (h, g l.to)
on_good (Err f) others h g = tt

from_good : (file bytes : List ℕ) (turns at : ℕ) → AreGood (lexed_from (next_lexeme file bytes) turns at).lexemes
unfolding lexed_from
from_good file bytes zero at = tt
from_good file bytes (suc turns) at = on_good (next_lexeme file bytes at) (λ to. lexed_from (next_lexeme file bytes) turns to) (next_good file bytes at) (λ to. from_good file bytes turns to)

start_good : (file bytes : List ℕ) (turns : ℕ) (r : Result ℕ Fault) → AreGood (lexed_behind (next_lexeme file bytes) turns r).lexemes
start_good file bytes turns (Ok at) = from_good file bytes turns at
start_good file bytes turns (Err f) = tt

-- the lexemes of any source
pub lexed_good : (file bytes : List ℕ) → AreGood (lexed file bytes).lexemes
unfolding lexed
lexed_good file bytes = start_good file bytes (suc (length bytes)) (start_of file bytes)
