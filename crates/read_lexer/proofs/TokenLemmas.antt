-- The definition of a lexeme gives exactly the token.
use Rattle.std.proofs.Common.{◌≡◌, ◌≢◌, ℕ, ◌+◌, ◌-◌, ◌<◌, ◌≤◌, Bool, true, false, cond, List, [], ◌∷◌, length, take, drop, slice_index, Option, Some, None, Result, Ok, Err, ℤ, refl, sym, ap, ◌∙◌, subst, arith, length-drop}
use Rattle.std.specs.Prelude.{◌==◌, ◌&&◌, not, nat_lt, nat_eq, codes}
use Rattle.std.specs.List.{starts_with}
use Rattle.std.proofs.lemmas.Bool.{eqb-true}
use Rattle.std.proofs.lemmas.Bool.Decides.{nat_tests}
use Rattle.base_data.specs.Gives.{◌>>=◌}
use Rattle.base_data.specs.declared.atom.Atom.TheVariants as atom
use Rattle.base_data.specs.declared.fault.Fault.{Fault}
use Rattle.base_data.specs.declared.fault.FaultKind.TheVariants as kind
use Rattle.read_lexer.specs.Grammar.{IsToken, IsBare, Bare, StringElements, sign_of, hash_sign_of, is_special, OneToken, LexemesAre, EndsAre}
use Rattle.read_lexer.specs.Between.{Gap}
use Rattle.read_lexer.specs.Gap.{gap_end}
use Rattle.read_lexer.specs.Row.{PartRow}
use Rattle.read_lexer.specs.Tokens.{next_lexeme, lexeme_behind, lexeme_at, hash_at, word_at, marked_at, integer_in, unquoting, bare_at, bare_to, bare, bare_end, number, number_of, spelt_or_fault, identifier_or_else, is_dot, begins_number, lexeme, is_number_mark, radix, is_true, is_false}
use Rattle.read_lexer.specs.declared.token.Abbreviation.TheVariants as abbreviation
use Rattle.read_lexer.specs.declared.token.Bracket.TheVariants as bracket
use Rattle.read_lexer.specs.declared.token.Lexeme.{Lexeme}
use Rattle.read_lexer.specs.declared.token.Token.{Token}
use Rattle.read_lexer.specs.declared.token.Token.TheVariants as token
use Rattle.read_lexer.proofs.BetweenLemmas.{left, right, not_equal, equal, by_first, gaps_are}
use Rattle.read_lexer.proofs.BareLemmas.{bare_is, part_some}
use Rattle.read_lexer.proofs.StringLemmas.{string_is, lexeme_same, differs}
use Rattle.read_lexer.proofs.CharacterLemmas.{character_sound, character_complete}
use Rattle.read_lexer.specs.Characters.{character_at}
use Rattle.read_lexer.specs.Strings.{string_at}
use Rattle.read_spelling.specs.Identifiers.{identifier}
use Rattle.read_spelling.specs.Numbers.{is_integer, integer, spelt}
use Rattle.read_spelling.specs.Source.{characters}
use Rattle.read_spelling.specs.Whitespace.{is_delimited}

token_same : (a b : Token) → ◌≡◌ {A = Result Token Fault} (Ok a) (Ok b) → a ≡ b
token_same a b e = cc

-- the token that an answer stands for
at_token : (text : List ℕ) (a t : Token) → ◌≡◌ {A = Result Token Fault} (Ok a) (Ok t) → IsBare text a → IsBare text t
at_token text a t e is = subst (λ (u : Token). IsBare text u) (token_same a t e) is

module _ (file : List ℕ) where
  abbrev BareSound : List ℕ → Result Token Fault → Type 0
  BareSound text r = (t : Token) → r ≡ Ok t → IsBare text t

  whole_sound : (text : List ℕ) (from to : ℕ) (o : Option ℤ) → is_dot text ≡ false → identifier text ≡ None → begins_number (slice_index text 0) ≡ true → is_integer 10 text ≡ true → integer 10 text ≡ o
      → BareSound text (number file from to o)
  whole_sound text from to (Some z) d i b n e t given = at_token text (token.Atom (atom.Int z)) t given (IsBare.whole text z d i b n e)
  whole_sound text from to None d i b n e t given = absurd (cc)

  kept_sound : (text : List ℕ) (from to : ℕ) (o : Option (List ℕ)) → is_dot text ≡ false → identifier text ≡ None → begins_number (slice_index text 0) ≡ true → is_integer 10 text ≡ false → spelt text ≡ o
      → BareSound text (spelt_or_fault file from to o)
  kept_sound text from to (Some s) d i b n e t given = at_token text (token.Atom (atom.Spelt s)) t given (IsBare.kept text s d i b n e)
  kept_sound text from to None d i b n e t given = absurd (cc)

  number_sound : (text : List ℕ) (from to : ℕ) (n : Bool) → is_dot text ≡ false → identifier text ≡ None → begins_number (slice_index text 0) ≡ true → is_integer 10 text ≡ n
      → BareSound text (cond n (number file from to (integer 10 text)) (spelt_or_fault file from to (spelt text)))
  number_sound text from to true d i b n t given = whole_sound text from to (integer 10 text) d i b n refl t given
  number_sound text from to false d i b n t given = kept_sound text from to (spelt text) d i b n refl t given

  no_identifier_sound : (text : List ℕ) (from to : ℕ) (b : Bool) → is_dot text ≡ false → identifier text ≡ None → begins_number (slice_index text 0) ≡ b
      → BareSound text (cond b (number_of file text from to) (Err (record { kind = kind.BadToken; span = record { file = file; from = from; to = to }; words = [] })))
  no_identifier_sound text from to true d i b t given = number_sound text from to (is_integer 10 text) d i b refl t given
  no_identifier_sound text from to false d i b t given = absurd (cc)

  identifier_sound : (text : List ℕ) (from to : ℕ) (o : Option (List ℕ)) → is_dot text ≡ false → identifier text ≡ o → BareSound text (identifier_or_else file text from to o)
  identifier_sound text from to (Some name) d i t given = at_token text (token.Symbol name) t given (IsBare.symbol text name d i)
  identifier_sound text from to None d i t given = no_identifier_sound text from to (begins_number (slice_index text 0)) d i refl t given

  dot_sound : (text : List ℕ) (from to : ℕ) (d : Bool) → is_dot text ≡ d → BareSound text (cond d (Ok token.Dot) (identifier_or_else file text from to (identifier text)))
  dot_sound text from to true d t given = at_token text token.Dot t given (IsBare.dot text d)
  dot_sound text from to false d t given = identifier_sound text from to (identifier text) d refl t given

  text_sound : (text : List ℕ) (from to : ℕ) → BareSound text (bare file text from to)
  text_sound text from to t given = dot_sound text from to (is_dot text) refl t given

  text_complete : (text : List ℕ) (from to : ℕ) (t : Token) → IsBare text t → bare file text from to ≡ Ok t
  text_complete _ from to _ (IsBare.dot text d) = rw d refl
  text_complete _ from to _ (IsBare.symbol text name d i) = rw (d, i) refl
  text_complete _ from to _ (IsBare.whole text z d i b n e) = rw (d, i, b, n, e) refl
  text_complete _ from to _ (IsBare.kept text s d i b n e) = rw (d, i, b, n, e) refl

abbrev LexemeIs : List ℕ → ℕ → Lexeme → Type 0
LexemeIs bytes from l = (n : ℕ) × (l.from ≡ from) × (l.to ≡ from + n) × IsToken bytes n l.token

-- what an answer gives is a token
record Sound (bytes : List ℕ) (from : ℕ) (r : Result Lexeme Fault) : Type 0 where
  gives : (l : Lexeme) → r ≡ Ok l → LexemeIs bytes from l

-- what holds on both ways of a test holds
branch : {A : Type 0} (P : A → Type 0) (t : Bool) {x y : A} → (t ≡ true → P x) → (t ≡ false → P y) → P (cond t x y)
branch P true f g = f refl
branch P false f g = g refl

below : (a b : ℕ) → nat_lt a b ≡ true → a < b
below a b h = grind (arith, nat_tests)

leaf : (bytes : List ℕ) (from n to : ℕ) (t : Token) → to ≡ from + n → IsToken bytes n t → Sound bytes from (Ok (lexeme t from to))
leaf bytes from n to t same is = record { gives = λ l e. subst (λ (m : Lexeme). LexemeIs bytes from m) (lexeme_same (lexeme t from to) l e) (n, refl, same, is) }

fails : (bytes : List ℕ) (from : ℕ) (f : Fault) → Sound bytes from (Err f)
fails bytes from f = record { gives = λ l e. absurd (cc) }

module _ (file : List ℕ) (bytes : List ℕ) (from : ℕ) where
  abbrev FirstIs : ℕ → Type 0
  FirstIs b = slice_index bytes 0 ≡ b

  unquote_test : (t : Bool) → FirstIs 0x2C → slice_index bytes 1 == 0x40 ≡ t
      → Sound bytes from (Ok (cond t (lexeme (token.Abbreviation abbreviation.UnquoteSplicing) from (from + 1 + 1)) (lexeme (token.Abbreviation abbreviation.Unquote) from (from + 1))))
  unquote_test true first e = leaf bytes from 2 (from + 1 + 1) (token.Abbreviation abbreviation.UnquoteSplicing) (omega arith) (IsToken.unquote_splicing bytes first (eqb-true (slice_index bytes 1) 0x40 e))
  unquote_test false first e = leaf bytes from 1 (from + 1) (token.Abbreviation abbreviation.Unquote) refl (IsToken.unquote bytes first (differs (slice_index bytes 1) 0x40 e))

  unsyntax_test : (t : Bool) → FirstIs 0x23 → slice_index bytes 1 ≡ 0x2C → slice_index bytes 2 == 0x40 ≡ t
      → Sound bytes from (Ok (cond t (lexeme (token.Abbreviation abbreviation.UnsyntaxSplicing) from (from + 2 + 1)) (lexeme (token.Abbreviation abbreviation.Unsyntax) from (from + 2))))
  unsyntax_test true first second e = leaf bytes from 3 (from + 2 + 1) (token.Abbreviation abbreviation.UnsyntaxSplicing) (omega arith) (IsToken.unsyntax_splicing bytes first second (eqb-true (slice_index bytes 2) 0x40 e))
  unsyntax_test false first second e = leaf bytes from 2 (from + 2) (token.Abbreviation abbreviation.Unsyntax) refl (IsToken.unsyntax bytes first second (differs (slice_index bytes 2) 0x40 e))

  string_sound : FirstIs 0x22 → Sound bytes from (string_at file bytes from)
  string_sound first = record {
    gives = λ l e.
        let s = (string_is file from bytes l).0 e in
        let r = leaf bytes from (1 + s.0) (from + 1 + s.0) (token.Atom (atom.Str s.1)) (omega arith) (IsToken.string bytes s.1 s.0 first s.3) in
        r.gives l (ap Ok s.2);
  }

  character_gives : FirstIs 0x23 → slice_index bytes 1 ≡ 0x5C → Sound bytes from (character_at file bytes from)
  character_gives first second = record {
    gives = λ l e.
        let s = character_sound file bytes from l e in
        let r = leaf bytes from s.0 (from + s.0) (token.Atom (atom.Char s.1)) refl (IsToken.character bytes s.0 s.1 first second s.3) in
        r.gives l (ap Ok s.2);
  }

  marked_number : (n to : ℕ) (o : Option ℤ) → FirstIs 0x23 → is_number_mark (slice_index bytes 1) ≡ true → Bare (drop 2 bytes) n → to ≡ from + (2 + n) → 0 < radix (slice_index bytes 1)
      → is_integer (radix (slice_index bytes 1)) (drop 2 (take (2 + n) bytes)) ≡ true → integer (radix (slice_index bytes 1)) (drop 2 (take (2 + n) bytes)) ≡ o
      → Sound bytes from (number file from to o >>= λ t. Ok (lexeme t from to))
  marked_number n to (Some z) first mark run same base is e = leaf bytes from (2 + n) to (token.Atom (atom.Int z)) same (IsToken.marked bytes n z first mark run base is e)
  marked_number n to None first mark run same base is e = fails bytes from _

  marked_test : (n to : ℕ) (t : Bool) → FirstIs 0x23 → is_number_mark (slice_index bytes 1) ≡ true → Bare (drop 2 bytes) n → to ≡ from + (2 + n)
      → (nat_lt 0 (radix (slice_index bytes 1)) && is_integer (radix (slice_index bytes 1)) (drop 2 (take (2 + n) bytes))) ≡ t
      → Sound bytes from (cond t (number file from to (integer (radix (slice_index bytes 1)) (drop 2 (take (2 + n) bytes))))
      (Err (record { kind = kind.BadNumber; span = record { file = file; from = from; to = to }; words = [] })) >>= λ t. Ok (lexeme t from to))
  marked_test n to true first mark run same e =
      let base = radix (slice_index bytes 1) in
      let text = drop 2 (take (2 + n) bytes) in
      let some : 0 < base = below 0 base (left (nat_lt 0 base) (is_integer base text) e) in
      marked_number n to (integer base text) first mark run same some (right (nat_lt 0 base) (is_integer base text) e) refl
  marked_test n to false first mark run same e = fails bytes from _

  marked_to : (to : ℕ) (r : Result ℕ Fault) → FirstIs 0x23 → is_number_mark (slice_index bytes 1) ≡ true → bare_end file kind.BadNumber from (drop 2 bytes) (from + 2) ≡ r
      → Sound bytes from (r >>= λ to. integer_in file (radix (slice_index bytes 1)) (drop 2 (take (to - from) bytes)) from to >>= λ t. Ok (lexeme t from to))
  marked_to to (Err f) first mark e = fails bytes from f
  marked_to _ (Ok to) first mark e =
      let g = (bare_is file kind.BadNumber from (drop 2 bytes) (from + 2) to).0 e in
      let same : to ≡ from + (2 + g.0) = omega (arith, g.1) in
      let size : to - from ≡ 2 + g.0 = omega (arith, g.1) in
      rw size (marked_test g.0 to (nat_lt 0 (radix (slice_index bytes 1)) && is_integer (radix (slice_index bytes 1)) (drop 2 (take (2 + g.0) bytes))) first mark g.2 same refl)

  word_sound : FirstIs 0x23 → Sound bytes from (word_at file bytes from)
  word_sound first =
      let P : Result Lexeme Fault → Type 0 = λ r. Sound bytes from r in
      let delimited = is_delimited (characters (drop 2 bytes)) in
      branch P (starts_with nat_eq bytes (codes "#vu8(")) (λ e. leaf bytes from 5 (from + 5) token.OpenBytes refl (IsToken.open_bytes bytes e)) (λ _.
      branch P (is_true (slice_index bytes 1) && delimited) (λ e. leaf bytes from 2 (from + 2) (token.Atom (atom.Bool true)) refl
      (IsToken.yes bytes first (left (is_true (slice_index bytes 1)) delimited e) (right (is_true (slice_index bytes 1)) delimited e))) (λ _.
      branch P (is_false (slice_index bytes 1) && delimited) (λ e. leaf bytes from 2 (from + 2) (token.Atom (atom.Bool false)) refl
      (IsToken.no bytes first (left (is_false (slice_index bytes 1)) delimited e) (right (is_false (slice_index bytes 1)) delimited e))) (λ _. fails bytes from _)))

  hash_leaf : (b : ℕ) (t : Token) → FirstIs 0x23 → slice_index bytes 1 == b ≡ true → hash_sign_of b ≡ Some t → Sound bytes from (Ok (lexeme t from (from + 2)))
  hash_leaf b t first e is = leaf bytes from 2 (from + 2) t refl (IsToken.hash_sign bytes t first (ap hash_sign_of (eqb-true (slice_index bytes 1) b e) ∙ is))

  hash_sound : FirstIs 0x23 → Sound bytes from (hash_at file bytes from)
  hash_sound first =
      let P : Result Lexeme Fault → Type 0 = λ r. Sound bytes from r in
      branch P (slice_index bytes 1 == 0x28) (λ e. hash_leaf 0x28 token.OpenVector first e refl) (λ _.
      branch P (slice_index bytes 1 == 0x3B) (λ e. hash_leaf 0x3B token.SkipDatum first e refl) (λ _.
      branch P (slice_index bytes 1 == 0x27) (λ e. hash_leaf 0x27 (token.Abbreviation abbreviation.Syntax) first e refl) (λ _.
      branch P (slice_index bytes 1 == 0x60) (λ e. hash_leaf 0x60 (token.Abbreviation abbreviation.Quasisyntax) first e refl) (λ _.
      branch P (slice_index bytes 1 == 0x2C) (λ e. unsyntax_test (slice_index bytes 2 == 0x40) first (eqb-true (slice_index bytes 1) 0x2C e) refl) (λ _.
      branch P (slice_index bytes 1 == 0x5C) (λ e. character_gives first (eqb-true (slice_index bytes 1) 0x5C e)) (λ _.
      branch P (is_number_mark (slice_index bytes 1)) (λ e. marked_to 0 (bare_end file kind.BadNumber from (drop 2 bytes) (from + 2)) first e refl) (λ _. word_sound first)))))))

  bare_token : (n to : ℕ) (r : Result Token Fault) → is_special (slice_index bytes 0) ≡ false → Bare bytes n → 0 < n → to ≡ from + n → bare file (take n bytes) from to ≡ r
      → Sound bytes from (r >>= λ t. Ok (lexeme t from to))
  bare_token n to (Err f) special run some same e = fails bytes from f
  bare_token n to (Ok t) special run some same e = leaf bytes from n to t same (IsToken.bare bytes n t special run some (text_sound file (take n bytes) from to t e))

  bare_test : (n to : ℕ) (t : Bool) → is_special (slice_index bytes 0) ≡ false → Bare bytes n → to ≡ from + n → to == from ≡ t
      → Sound bytes from (cond t (Err (record { kind = kind.BadUtf8; span = record { file = file; from = from; to = from + 1 }; words = [] })) (bare file (take n bytes) from to >>= λ t. Ok (lexeme t from to)))
  bare_test n to true special run same e = fails bytes from _
  bare_test n to false special run same e =
      let some : 0 < n = grind (arith, nat_tests, differs to from e) in
      bare_token n to (bare file (take n bytes) from to) special run some same refl

  bare_result : (to : ℕ) (r : Result ℕ Fault) → is_special (slice_index bytes 0) ≡ false → bare_end file kind.BadEscape from bytes from ≡ r → Sound bytes from (r >>= λ to. bare_to file bytes from to)
  bare_result to (Err f) special e = fails bytes from f
  bare_result _ (Ok to) special e =
      let g = (bare_is file kind.BadEscape from bytes from to).0 e in
      let size : to - from ≡ g.0 = omega (arith, g.1) in
      rw size (bare_test g.0 to (to == from) special g.2 g.1 refl)

  sign_leaf : (b : ℕ) (t : Token) → slice_index bytes 0 == b ≡ true → sign_of b ≡ Some t → Sound bytes from (Ok (lexeme t from (from + 1)))
  sign_leaf b t e is = leaf bytes from 1 (from + 1) t refl (IsToken.sign bytes t (ap sign_of (eqb-true (slice_index bytes 0) b e) ∙ is))

  lexeme_sound : Sound bytes from (lexeme_at file bytes from)
  lexeme_sound =
      let P : Result Lexeme Fault → Type 0 = λ r. Sound bytes from r in
      let b = slice_index bytes 0 in
      branch P (b == 0x28) (λ e. sign_leaf 0x28 (token.Open bracket.Round) e refl) (λ e1.
      branch P (b == 0x29) (λ e. sign_leaf 0x29 (token.Close bracket.Round) e refl) (λ e2.
      branch P (b == 0x5B) (λ e. sign_leaf 0x5B (token.Open bracket.Square) e refl) (λ e3.
      branch P (b == 0x5D) (λ e. sign_leaf 0x5D (token.Close bracket.Square) e refl) (λ e4.
      branch P (b == 0x27) (λ e. sign_leaf 0x27 (token.Abbreviation abbreviation.Quote) e refl) (λ e5.
      branch P (b == 0x60) (λ e. sign_leaf 0x60 (token.Abbreviation abbreviation.Quasiquote) e refl) (λ e6.
      branch P (b == 0x2C) (λ e. unquote_test (slice_index bytes 1 == 0x40) (eqb-true b 0x2C e) refl) (λ e7.
      branch P (b == 0x22) (λ e. string_sound (eqb-true b 0x22 e)) (λ e8.
      branch P (b == 0x23) (λ e. hash_sound (eqb-true b 0x23 e)) (λ e9.
      bare_result 0 (bare_end file kind.BadEscape from bytes from) (rw (e1, e2, e3, e4, e5, e6, e7, e8, e9) refl) refl)))))))))

some_same : (a b : Token) → ◌≡◌ {A = Option Token} (Some a) (Some b) → a ≡ b
some_same a b e = cc

ok_lexeme : (a b : Token) (from to : ℕ) → ◌≡◌ {A = Option Token} (Some a) (Some b) → ◌≡◌ {A = Result Lexeme Fault} (Ok (lexeme a from to)) (Ok (lexeme b from to))
ok_lexeme a b from to e = ap (λ (t : Token). Ok (lexeme t from to)) (some_same a b e)

six : (from : ℕ) (t a b c d e f : Token) (ta tb tc td te tf : Bool) (rest : Result Lexeme Fault)
    → cond ta (Some a) (cond tb (Some b) (cond tc (Some c) (cond td (Some d) (cond te (Some e) (cond tf (Some f) None))))) ≡ Some t
    → cond ta (Ok (lexeme a from (from + 1))) (cond tb (Ok (lexeme b from (from + 1))) (cond tc (Ok (lexeme c from (from + 1))) (cond td (Ok (lexeme d from (from + 1)))
    (cond te (Ok (lexeme e from (from + 1))) (cond tf (Ok (lexeme f from (from + 1))) rest))))) ≡ Ok (lexeme t from (from + 1))
six from t a b c d e f true tb tc td te tf rest h = ok_lexeme a t from (from + 1) h
six from t a b c d e f false true tc td te tf rest h = ok_lexeme b t from (from + 1) h
six from t a b c d e f false false true td te tf rest h = ok_lexeme c t from (from + 1) h
six from t a b c d e f false false false true te tf rest h = ok_lexeme d t from (from + 1) h
six from t a b c d e f false false false false true tf rest h = ok_lexeme e t from (from + 1) h
six from t a b c d e f false false false false false true rest h = ok_lexeme f t from (from + 1) h
six from t a b c d e f false false false false false false rest h = absurd (cc)

four : (from : ℕ) (t a b c d : Token) (ta tb tc td : Bool) (rest : Result Lexeme Fault) → cond ta (Some a) (cond tb (Some b) (cond tc (Some c) (cond td (Some d) None))) ≡ Some t
    → cond ta (Ok (lexeme a from (from + 2))) (cond tb (Ok (lexeme b from (from + 2))) (cond tc (Ok (lexeme c from (from + 2))) (cond td (Ok (lexeme d from (from + 2))) rest))) ≡ Ok (lexeme t from (from + 2))
four from t a b c d true tb tc td rest h = ok_lexeme a t from (from + 2) h
four from t a b c d false true tc td rest h = ok_lexeme b t from (from + 2) h
four from t a b c d false false true td rest h = ok_lexeme c t from (from + 2) h
four from t a b c d false false false true rest h = ok_lexeme d t from (from + 2) h
four from t a b c d false false false false rest h = absurd (cc)

-- a byte that passes a test is none that doesn't
pub tells : (test : ℕ → Bool) (b c : ℕ) → test b ≡ true → test c ≡ false → b == c ≡ false
tells test b c h n = not_equal b c (λ e. let f = sym h ∙ ap test e ∙ n in cc)

bind_ok : (r : Result ℕ Fault) (to : ℕ) (k : ℕ → Result Lexeme Fault) → r ≡ Ok to → (r >>= k) ≡ k to
bind_ok r to k e = rw e refl

move : (t : Token) (from a b : ℕ) (r : Result Lexeme Fault) → r ≡ Ok (lexeme t from a) → a ≡ b → r ≡ Ok (lexeme t from b)
move t from a b r e same = e ∙ ap (λ (k : ℕ). Ok (lexeme t from k)) same

delimited_after : (a b : Bool) → a ≡ true → b ≡ true → (a && b) ≡ true
delimited_after a b p q = rw (p, q) refl

starts_vu8 : (bytes : List ℕ) → starts_with nat_eq bytes (codes "#vu8(") ≡ true → (slice_index bytes 0 ≡ 0x23) × (slice_index bytes 1 ≡ 0x76)
starts_vu8 [] h = absurd (cc)
starts_vu8 (b ∷ []) h = absurd (grind (arith, nat_tests))
starts_vu8 (b ∷ c ∷ cs) h = (grind (arith, nat_tests), grind (arith, nat_tests))

not_true : (t : Bool) → (t ≡ true → ⊥) → t ≡ false
not_true true h = absurd (h refl)
not_true false h = refl

module _ (file : List ℕ) (bytes : List ℕ) (from : ℕ) where
  sign_complete : (t : Token) → sign_of (slice_index bytes 0) ≡ Some t → lexeme_at file bytes from ≡ Ok (lexeme t from (from + 1))
  sign_complete t h =
      let b = slice_index bytes 0 in
      six from t (token.Open bracket.Round) (token.Close bracket.Round) (token.Open bracket.Square) (token.Close bracket.Square)
      (token.Abbreviation abbreviation.Quote) (token.Abbreviation abbreviation.Quasiquote) (b == 0x28) (b == 0x29) (b == 0x5B) (b == 0x5D) (b == 0x27) (b == 0x60)
      (cond (b == 0x2C) (Ok (unquoting bytes from 1 abbreviation.Unquote abbreviation.UnquoteSplicing)) (cond (b == 0x22) (string_at file bytes from) (cond (b == 0x23) (hash_at file bytes from) (bare_at file bytes from)))) h

  unquote_complete : slice_index bytes 0 ≡ 0x2C → slice_index bytes 1 ≢ 0x40 → lexeme_at file bytes from ≡ Ok (lexeme (token.Abbreviation abbreviation.Unquote) from (from + 1))
  unquote_complete first second = rw (first, not_equal (slice_index bytes 1) 0x40 second) refl

  splicing_complete : slice_index bytes 0 ≡ 0x2C → slice_index bytes 1 ≡ 0x40 → lexeme_at file bytes from ≡ Ok (lexeme (token.Abbreviation abbreviation.UnquoteSplicing) from (from + 1 + 1))
  splicing_complete first second = rw (first, equal (slice_index bytes 1) 0x40 second) refl

  string_first : slice_index bytes 0 ≡ 0x22 → lexeme_at file bytes from ≡ string_at file bytes from
  string_first first = rw first refl

  string_token : (text : List ℕ) (n : ℕ) → slice_index bytes 0 ≡ 0x22 → StringElements (drop 1 bytes) n text → lexeme_at file bytes from ≡ Ok (lexeme (token.Atom (atom.Str text)) from (from + 1 + n))
  string_token text n first elements = string_first first ∙ (string_is file from bytes (lexeme (token.Atom (atom.Str text)) from (from + 1 + n))).1 (n, text, refl, elements)

  hash_first : slice_index bytes 0 ≡ 0x23 → lexeme_at file bytes from ≡ hash_at file bytes from
  hash_first first = rw first refl

  hash_complete : (t : Token) → slice_index bytes 0 ≡ 0x23 → hash_sign_of (slice_index bytes 1) ≡ Some t → lexeme_at file bytes from ≡ Ok (lexeme t from (from + 2))
  hash_complete t first h =
      let b = slice_index bytes 1 in
      hash_first first ∙ four from t token.OpenVector token.SkipDatum (token.Abbreviation abbreviation.Syntax) (token.Abbreviation abbreviation.Quasisyntax) (b == 0x28) (b == 0x3B) (b == 0x27) (b == 0x60)
      (cond (b == 0x2C) (Ok (unquoting bytes from 2 abbreviation.Unsyntax abbreviation.UnsyntaxSplicing)) (cond (b == 0x5C) (character_at file bytes from) (cond (is_number_mark b) (marked_at file bytes from) (word_at file bytes from)))) h

  unsyntax_complete : slice_index bytes 0 ≡ 0x23 → slice_index bytes 1 ≡ 0x2C → slice_index bytes 2 ≢ 0x40 → lexeme_at file bytes from ≡ Ok (lexeme (token.Abbreviation abbreviation.Unsyntax) from (from + 2))
  unsyntax_complete first second third = rw (first, second, not_equal (slice_index bytes 2) 0x40 third) refl

  unsyntax_splicing_complete : slice_index bytes 0 ≡ 0x23 → slice_index bytes 1 ≡ 0x2C → slice_index bytes 2 ≡ 0x40
      → lexeme_at file bytes from ≡ Ok (lexeme (token.Abbreviation abbreviation.UnsyntaxSplicing) from (from + 2 + 1))
  unsyntax_splicing_complete first second third = rw (first, second, equal (slice_index bytes 2) 0x40 third) refl

  character_first : slice_index bytes 0 ≡ 0x23 → slice_index bytes 1 ≡ 0x5C → lexeme_at file bytes from ≡ character_at file bytes from
  character_first first second = rw (first, second) refl

  word_first : (test : ℕ → Bool) → slice_index bytes 0 ≡ 0x23 → test (slice_index bytes 1) ≡ true → test 0x28 ≡ false → test 0x3B ≡ false → test 0x27 ≡ false → test 0x60 ≡ false → test 0x2C ≡ false → test 0x5C ≡ false
      → is_number_mark (slice_index bytes 1) ≡ false → lexeme_at file bytes from ≡ word_at file bytes from
  word_first test first h a b c d e f mark =
      let x = slice_index bytes 1 in
      hash_first first ∙ rw (tells test x 0x28 h a, tells test x 0x3B h b, tells test x 0x27 h c, tells test x 0x60 h d, tells test x 0x2C h e, tells test x 0x5C h f, mark) refl

  bytes_complete : starts_with nat_eq bytes (codes "#vu8(") ≡ true → lexeme_at file bytes from ≡ Ok (lexeme token.OpenBytes from (from + 5))
  bytes_complete h =
      let s = starts_vu8 bytes h in
      word_first (λ b. b == 0x76) s.0 (equal (slice_index bytes 1) 0x76 s.1) refl refl refl refl refl refl (ap is_number_mark s.1) ∙ rw h refl

  no_vu8 : (test : ℕ → Bool) → test (slice_index bytes 1) ≡ true → test 0x76 ≡ false → starts_with nat_eq bytes (codes "#vu8(") ≡ false
  no_vu8 test h n = not_true (starts_with nat_eq bytes (codes "#vu8(")) (λ e. let f = sym h ∙ ap test (starts_vu8 bytes e).1 ∙ n in cc)

  no_mark : (test : ℕ → Bool) (b : ℕ) → test b ≡ true → ((c : ℕ) → is_number_mark c ≡ true → test c ≡ false) → is_number_mark b ≡ false
  no_mark test b h other = not_true (is_number_mark b) (λ e. let f = sym h ∙ other b e in cc)

  yes_complete : slice_index bytes 0 ≡ 0x23 → is_true (slice_index bytes 1) ≡ true → is_delimited (characters (drop 2 bytes)) ≡ true → lexeme_at file bytes from ≡ Ok (lexeme (token.Atom (atom.Bool true)) from (from + 2))
  yes_complete first h delimited =
      word_first is_true first h refl refl refl refl refl refl (no_mark is_true (slice_index bytes 1) h (λ c m. grind (arith, nat_tests)))
      ∙ rw (no_vu8 is_true h refl, delimited_after (is_true (slice_index bytes 1)) (is_delimited (characters (drop 2 bytes))) h delimited) refl

  no_complete : slice_index bytes 0 ≡ 0x23 → is_false (slice_index bytes 1) ≡ true → is_delimited (characters (drop 2 bytes)) ≡ true → lexeme_at file bytes from ≡ Ok (lexeme (token.Atom (atom.Bool false)) from (from + 2))
  no_complete first h delimited =
      let other : is_true (slice_index bytes 1) ≡ false = not_true (is_true (slice_index bytes 1)) (λ e. grind (arith, nat_tests)) in
      word_first is_false first h refl refl refl refl refl refl (no_mark is_false (slice_index bytes 1) h (λ c m. grind (arith, nat_tests)))
      ∙ rw (no_vu8 is_false h refl, other, delimited_after (is_false (slice_index bytes 1)) (is_delimited (characters (drop 2 bytes))) h delimited) refl

  mark_first : slice_index bytes 0 ≡ 0x23 → is_number_mark (slice_index bytes 1) ≡ true → lexeme_at file bytes from ≡ marked_at file bytes from
  mark_first first h =
      let x = slice_index bytes 1 in
      hash_first first ∙ rw (
        tells is_number_mark x 0x28 h refl,
        tells is_number_mark x 0x3B h refl,
        tells is_number_mark x 0x27 h refl,
        tells is_number_mark x 0x60 h refl,
        tells is_number_mark x 0x2C h refl,
        tells is_number_mark x 0x5C h refl,
        h,
      ) refl

  marked_complete : (n : ℕ) (z : ℤ) → slice_index bytes 0 ≡ 0x23 → is_number_mark (slice_index bytes 1) ≡ true → Bare (drop 2 bytes) n → 0 < radix (slice_index bytes 1)
      → is_integer (radix (slice_index bytes 1)) (drop 2 (take (2 + n) bytes)) ≡ true → integer (radix (slice_index bytes 1)) (drop 2 (take (2 + n) bytes)) ≡ Some z
      → lexeme_at file bytes from ≡ Ok (lexeme (token.Atom (atom.Int z)) from (from + 2 + n))
  marked_complete n z first mark run some is e =
      let base = radix (slice_index bytes 1) in
      let text = drop 2 (take (2 + n) bytes) in
      let to = from + 2 + n in
      let end = (bare_is file kind.BadNumber from (drop 2 bytes) (from + 2) to).1 (n, refl, run) in
      let size : to - from ≡ 2 + n = omega arith in
      let positive : nat_lt 0 base ≡ true = grind (arith, nat_tests) in
      mark_first first mark
      ∙ bind_ok (bare_end file kind.BadNumber from (drop 2 bytes) (from + 2)) to (λ to. integer_in file base (drop 2 (take (to - from) bytes)) from to >>= λ t. Ok (lexeme t from to)) end
      ∙ rw (size, delimited_after (nat_lt 0 base) (is_integer base text) positive is, e) refl

  bare_first : is_special (slice_index bytes 0) ≡ false → lexeme_at file bytes from ≡ bare_at file bytes from
  bare_first h =
      let x = slice_index bytes 0 in
      let test : ℕ → Bool = λ b. not (is_special b) in
      let passes : test x ≡ true = ap not h in
      rw (
        tells test x 0x28 passes refl,
        tells test x 0x29 passes refl,
        tells test x 0x5B passes refl,
        tells test x 0x5D passes refl,
        tells test x 0x27 passes refl,
        tells test x 0x60 passes refl,
        tells test x 0x2C passes refl,
        tells test x 0x22 passes refl,
        tells test x 0x23 passes refl,
      ) refl

  bare_complete : (n : ℕ) (t : Token) → is_special (slice_index bytes 0) ≡ false → Bare bytes n → 0 < n → IsBare (take n bytes) t → lexeme_at file bytes from ≡ Ok (lexeme t from (from + n))
  bare_complete n t special run some is =
      let to = from + n in
      let end = (bare_is file kind.BadEscape from bytes from to).1 (n, refl, run) in
      let size : to - from ≡ n = omega arith in
      let further : to == from ≡ false = not_equal to from (λ e. omega (arith, e, some)) in
      bare_first special ∙ bind_ok (bare_end file kind.BadEscape from bytes from) to (λ to. bare_to file bytes from to) end
      ∙ rw (further, size, text_complete file (take n bytes) from to t is) refl

token_complete : (file bytes : List ℕ) (from n : ℕ) (t : Token) → IsToken bytes n t → lexeme_at file bytes from ≡ Ok (lexeme t from (from + n))
token_complete file _ from _ _ (IsToken.sign bytes t h) = sign_complete file bytes from t h
token_complete file _ from _ _ (IsToken.unquote bytes a b) = unquote_complete file bytes from a b
token_complete file _ from _ _ (IsToken.unquote_splicing bytes a b) =
    move (token.Abbreviation abbreviation.UnquoteSplicing) from (from + 1 + 1) (from + 2) (lexeme_at file bytes from) (splicing_complete file bytes from a b) (omega arith)
token_complete file _ from _ _ (IsToken.string bytes text n a e) =
    move (token.Atom (atom.Str text)) from (from + 1 + n) (from + (1 + n)) (lexeme_at file bytes from) (string_token file bytes from text n a e) (omega arith)
token_complete file _ from _ _ (IsToken.hash_sign bytes t a h) = hash_complete file bytes from t a h
token_complete file _ from _ _ (IsToken.unsyntax bytes a b c) = unsyntax_complete file bytes from a b c
token_complete file _ from _ _ (IsToken.unsyntax_splicing bytes a b c) =
    move (token.Abbreviation abbreviation.UnsyntaxSplicing) from (from + 2 + 1) (from + 3) (lexeme_at file bytes from) (unsyntax_splicing_complete file bytes from a b c) (omega arith)
token_complete file _ from _ _ (IsToken.character bytes n c a b is) = character_first file bytes from a b ∙ character_complete file bytes from n c is
token_complete file _ from _ _ (IsToken.open_bytes bytes h) = bytes_complete file bytes from h
token_complete file _ from _ _ (IsToken.yes bytes a h d) = yes_complete file bytes from a h d
token_complete file _ from _ _ (IsToken.no bytes a h d) = no_complete file bytes from a h d
token_complete file _ from _ _ (IsToken.marked bytes n z a m run some is e) =
    move (token.Atom (atom.Int z)) from (from + 2 + n) (from + (2 + n)) (lexeme_at file bytes from) (marked_complete file bytes from n z a m run some is e) (omega arith)
token_complete file _ from _ _ (IsToken.bare bytes n t s run some is) = bare_complete file bytes from n t s run some is

-- bytes begin with one token at most
pub one_token : OneToken
one_token bytes n m t u is_t is_u =
    let same : lexeme t 0 (0 + n) ≡ lexeme u 0 (0 + m) = lexeme_same (lexeme t 0 (0 + n)) (lexeme u 0 (0 + m)) (sym (token_complete [] bytes 0 n t is_t) ∙ token_complete [] bytes 0 m u is_u) in
    (omega (arith, ap (λ (l : Lexeme). l.to) same), ap (λ (l : Lexeme). l.token) same)

no_sign : (bytes : List ℕ) (t : Token) → sign_of (slice_index bytes 0) ≡ Some t → 0 < length bytes
no_sign [] t h = absurd (cc)
no_sign (b ∷ bs) t h = omega arith

row_some : (n : ℕ) (bytes : List ℕ) → Bare bytes n → 0 < n → 0 < length bytes
row_some _ _ (PartRow.none bytes ends) some = absurd (omega arith)
row_some _ _ (PartRow.more bytes size n part rest) some = (part_some [] kind.BadEscape 0 bytes size part).1

token_some : (bytes : List ℕ) (n : ℕ) (t : Token) → IsToken bytes n t → 0 < length bytes
token_some _ _ _ (IsToken.sign bytes t h) = no_sign bytes t h
token_some _ _ _ (IsToken.unquote bytes a b) = by_first bytes 0x2C (omega arith) a
token_some _ _ _ (IsToken.unquote_splicing bytes a b) = by_first bytes 0x2C (omega arith) a
token_some _ _ _ (IsToken.string bytes text n a e) = by_first bytes 0x22 (omega arith) a
token_some _ _ _ (IsToken.hash_sign bytes t a h) = by_first bytes 0x23 (omega arith) a
token_some _ _ _ (IsToken.unsyntax bytes a b c) = by_first bytes 0x23 (omega arith) a
token_some _ _ _ (IsToken.unsyntax_splicing bytes a b c) = by_first bytes 0x23 (omega arith) a
token_some _ _ _ (IsToken.character bytes n c a b is) = by_first bytes 0x23 (omega arith) a
token_some _ _ _ (IsToken.open_bytes bytes h) = by_first bytes 0x23 (omega arith) (starts_vu8 bytes h).0
token_some _ _ _ (IsToken.yes bytes a h d) = by_first bytes 0x23 (omega arith) a
token_some _ _ _ (IsToken.no bytes a h d) = by_first bytes 0x23 (omega arith) a
token_some _ _ _ (IsToken.marked bytes n z a m run some is e) = by_first bytes 0x23 (omega arith) a
token_some _ _ _ (IsToken.bare bytes n t s run some is) = row_some n bytes run some

module _ (file bytes : List ℕ) (at : ℕ) where
  abbrev BehindGap : Lexeme → Type 0
  BehindGap l = (n : ℕ) × (l.from ≡ at + n) × Gap (drop at bytes) n × (size : ℕ) × (l.to ≡ l.from + size) × IsToken (drop l.from bytes) size l.token

  some_lexeme : (a b : Lexeme) → ◌≡◌ {A = Result (Option Lexeme) Fault} (Ok (Some a)) (Ok (Some b)) → a ≡ b
  some_lexeme a b e = cc

  found : (from n : ℕ) (l : Lexeme) (r : Result Lexeme Fault) → from ≡ at + n → Gap (drop at bytes) n → lexeme_at file (drop from bytes) from ≡ r → (r >>= λ l. Ok (Some l)) ≡ Ok (Some l) → BehindGap l
  found from n l (Err f) here gap is given = absurd (cc)
  found from n l (Ok m) here gap is given =
      let t = (lexeme_sound file (drop from bytes) from).gives m is in
      let size : m.to ≡ m.from + t.0 = t.2 ∙ ap (λ (k : ℕ). k + t.0) (sym t.1) in
      let behind : BehindGap m = (n, t.1 ∙ here, gap, t.0, size, subst (λ (k : ℕ). IsToken (drop k bytes) t.0 m.token) (sym t.1) t.3) in
      subst BehindGap (some_lexeme m l given) behind

  found_test : (from n : ℕ) (l : Lexeme) (t : Bool) → from ≡ at + n → Gap (drop at bytes) n → cond t (Ok None) (lexeme_at file (drop from bytes) from >>= λ l. Ok (Some l)) ≡ Ok (Some l) → BehindGap l
  found_test from n l true here gap given = absurd (cc)
  found_test from n l false here gap given = found from n l (lexeme_at file (drop from bytes) from) here gap refl given

  found_from : (l : Lexeme) (r : Result ℕ Fault) → gap_end file (drop at bytes) at ≡ r → (r >>= λ from. lexeme_behind file (drop from bytes) from) ≡ Ok (Some l) → BehindGap l
  found_from l (Err f) is given = absurd (cc)
  found_from l (Ok from) is given =
      let g = (gaps_are file (drop at bytes) at from).0 is in
      found_test from g.0 l (length (drop from bytes) == 0) g.1 g.2 given

  behind_ok : (from : ℕ) (k : ℕ → Result (Option Lexeme) Fault) (r : Result ℕ Fault) → r ≡ Ok from → (r >>= k) ≡ k from
  behind_ok from k r e = rw e refl

  find : (l : Lexeme) → BehindGap l → next_lexeme file bytes at ≡ Ok (Some l)
  find l (n, here, gap, size, to, is) =
      let end = (gaps_are file (drop at bytes) at l.from).1 (n, here, gap) in
      let some : length (drop l.from bytes) == 0 ≡ false = not_equal (length (drop l.from bytes)) 0 (λ e. omega (arith, e, token_some (drop l.from bytes) size l.token is)) in
      let token = token_complete file (drop l.from bytes) l.from size l.token is in
      behind_ok l.from (λ from. lexeme_behind file (drop from bytes) from) (gap_end file (drop at bytes) at) end
      ∙ rw (some, token, ← to) refl

  abbrev Ends : Type 0
  Ends = (n : ℕ) × Gap (drop at bytes) n × (length bytes ≤ at + n)

  no_lexeme : (r : Result Lexeme Fault) → (r >>= λ l. Ok (Some l)) ≡ Ok None → ⊥
  no_lexeme (Err f) e = cc
  no_lexeme (Ok l) e = cc

  none_test : (from n : ℕ) (t : Bool) → from ≡ at + n → Gap (drop at bytes) n → length (drop from bytes) == 0 ≡ t
      → cond t (Ok None) (lexeme_at file (drop from bytes) from >>= λ l. Ok (Some l)) ≡ Ok None → Ends
  none_test from n true here gap e given = (n, gap, omega (arith, here, eqb-true (length (drop from bytes)) 0 e, length-drop from bytes))
  none_test from n false here gap e given = absurd (no_lexeme (lexeme_at file (drop from bytes) from) given)

  none_from : (r : Result ℕ Fault) → gap_end file (drop at bytes) at ≡ r → (r >>= λ from. lexeme_behind file (drop from bytes) from) ≡ Ok None → Ends
  none_from (Err f) is given = absurd (cc)
  none_from (Ok from) is given =
      let g = (gaps_are file (drop at bytes) at from).0 is in
      none_test from g.0 (length (drop from bytes) == 0) g.1 g.2 refl given

  find_none : Ends → next_lexeme file bytes at ≡ Ok None
  find_none (n, gap, ends) =
      let from = at + n in
      let end = (gaps_are file (drop at bytes) at from).1 (n, refl, gap) in
      let none : length (drop from bytes) == 0 ≡ true = equal (length (drop from bytes)) 0 (omega (arith, ends, length-drop from bytes)) in
      behind_ok from (λ from. lexeme_behind file (drop from bytes) from) (gap_end file (drop at bytes) at) end ∙ rw none refl

-- a lexeme is exactly the token behind the gap
pub lexemes_are : LexemesAre
lexemes_are file bytes at l = (λ e. found_from file bytes at l (gap_end file (drop at bytes) at) refl e, λ b. find file bytes at l b)

-- there is none exactly where the gap goes up to the end
pub ends_are : EndsAre
ends_are file bytes at = (λ e. none_from file bytes at (gap_end file (drop at bytes) at) refl e, λ b. find_none file bytes at b)
