-- What the next byte tells of the next lexeme: a parenthesis is one, and a space stands before it.
use Rattle.std.proofs.Common.{◌≡◌, ℕ, suc, ◌+◌, ◌-◌, ◌<◌, Bool, true, false, cond, List, ◌∷◌, length, drop, Some, None, Result, Ok, refl, ap, ◌∙◌, arith}
use Rattle.std.proofs.lemmas.Bool.Decides.{nat_tests}
use Rattle.std.proofs.lemmas.List.{drop_more}
use Rattle.std.specs.Prelude.{◌==◌, nat_lt, slice_index}
use Rattle.bstr.specs.Utf8.{Decoded, pieces_from}
use Rattle.base_data.specs.Gives.{◌>>=◌}
use Rattle.base_data.specs.declared.fault.Fault.{Fault}
use Rattle.read_lexer.proofs.BetweenLemmas.{ascii_decoded}
use Rattle.read_lexer.proofs.RepeatTurns.{stays}
use Rattle.read_lexer.specs.Gap.{atmosphere_end, gap_end}
use Rattle.read_lexer.specs.Repeat.{repeated}
use Rattle.read_lexer.specs.Tokens.{lexeme, lexeme_at, lexeme_behind, next_lexeme}
use Rattle.read_lexer.specs.declared.token.Bracket.TheVariants as bracket
use Rattle.read_lexer.specs.declared.token.Lexeme.{Lexeme}
use Rattle.read_lexer.specs.declared.token.Token.TheVariants as token
use Rattle.read_spelling.specs.Source.{piece, characters}
use Rattle.read_spelling.specs.Whitespace.{whitespace_end}

pub first_piece : (b : ℕ) (bs : List ℕ) → nat_lt b 0x80 ≡ true → characters (b ∷ bs) ≡ piece (Some b) 1 ∷ characters bs
unfolding characters pieces_from
first_piece b bs h = ap (λ (p : Decoded). p ∷ pieces_from (length bs) (drop p.size (b ∷ bs))) (ascii_decoded b bs h)

-- the bytes from a place on, where one is there
from_there : (bytes : List ℕ) (at b : ℕ) → at < length bytes → slice_index bytes at ≡ b → drop at bytes ≡ b ∷ drop (at + 1) bytes
from_there bytes at b h e = drop_more bytes at 0 h ∙ ap (λ (a : ℕ). a ∷ drop (at + 1) bytes) e

abbrev pub at_end : ℕ → List Decoded → Result ℕ Fault
at_end at ps = Ok (whitespace_end at ps)

pub bind_same : {A B : Type 0} {r q : Result A Fault} (f : A → Result B Fault) → r ≡ q → (r >>= f) ≡ (q >>= f)
bind_same f e = ap (λ r. r >>= f) e

some_left : (n : ℕ) → 0 < n → n == 0 ≡ false
some_left n h = grind (arith, nat_tests)

module _ (file : List ℕ) where
  open_stays : (bs : List ℕ) (at : ℕ) → atmosphere_end file (0x28 ∷ bs) at ≡ Ok at
  unfolding atmosphere_end
  open_stays bs at = ap (λ (ps : List Decoded). at_end at ps) (first_piece 0x28 bs refl)

  close_stays : (bs : List ℕ) (at : ℕ) → atmosphere_end file (0x29 ∷ bs) at ≡ Ok at
  unfolding atmosphere_end
  close_stays bs at = ap (λ (ps : List Decoded). at_end at ps) (first_piece 0x29 bs refl)

  space_goes : (bs : List ℕ) (at : ℕ) → atmosphere_end file (0x20 ∷ bs) at ≡ Ok (at + 1)
  unfolding atmosphere_end
  space_goes bs at = ap (λ (ps : List Decoded). at_end at ps) (first_piece 0x20 bs refl)

  pub no_gap : (bytes : List ℕ) (at : ℕ) → atmosphere_end file bytes at ≡ Ok at → gap_end file bytes at ≡ Ok at
  no_gap bytes at e = stays (atmosphere_end file) bytes at (gap_end file bytes at) e (suc (length bytes), omega arith, refl)

  more : (at : ℕ) → at + 1 == at ≡ false
  more at = grind (arith)

  past_space : (bs : List ℕ) (at : ℕ) → gap_end file (0x20 ∷ bs) at ≡ gap_end file bs (at + 1)
  unfolding repeated
  past_space bs at =
      let one : at + 1 - at ≡ 1 = omega arith in
      rw (space_goes bs at, more at, one) refl

  -- the first of some bytes begins the lexeme
  pub behind : (bytes : List ℕ) (at : ℕ) (l : Lexeme) → 0 < length bytes → lexeme_at file bytes at ≡ Ok l → lexeme_behind file bytes at ≡ Ok (Some l)
  behind bytes at l h e = ap (λ (t : Bool). cond t (Ok None) (lexeme_at file bytes at >>= λ m. Ok (Some m))) (some_left (length bytes) h) ∙ bind_same (λ m. Ok (Some m)) e

  pub open_at : (bytes : List ℕ) (at : ℕ) → at < length bytes → slice_index bytes at ≡ 0x28 → next_lexeme file bytes at ≡ Ok (Some (lexeme (token.Open bracket.Round) at (at + 1)))
  open_at bytes at h e =
      let there = from_there bytes at 0x28 h e in
      bind_same (λ from. lexeme_behind file (drop from bytes) from) (ap (λ (xs : List ℕ). gap_end file xs at) there ∙ no_gap (0x28 ∷ drop (at + 1) bytes) at (open_stays (drop (at + 1) bytes) at))
      ∙ ap (λ (xs : List ℕ). lexeme_behind file xs at) there ∙ behind (0x28 ∷ drop (at + 1) bytes) at (lexeme (token.Open bracket.Round) at (at + 1)) (omega arith) refl

  pub close_at : (bytes : List ℕ) (at : ℕ) → at < length bytes → slice_index bytes at ≡ 0x29 → next_lexeme file bytes at ≡ Ok (Some (lexeme (token.Close bracket.Round) at (at + 1)))
  close_at bytes at h e =
      let there = from_there bytes at 0x29 h e in
      bind_same (λ from. lexeme_behind file (drop from bytes) from) (ap (λ (xs : List ℕ). gap_end file xs at) there ∙ no_gap (0x29 ∷ drop (at + 1) bytes) at (close_stays (drop (at + 1) bytes) at))
      ∙ ap (λ (xs : List ℕ). lexeme_behind file xs at) there ∙ behind (0x29 ∷ drop (at + 1) bytes) at (lexeme (token.Close bracket.Round) at (at + 1)) (omega arith) refl

  pub behind_space : (bytes : List ℕ) (at : ℕ) → at < length bytes → slice_index bytes at ≡ 0x20 → next_lexeme file bytes at ≡ next_lexeme file bytes (at + 1)
  behind_space bytes at h e =
      let there = from_there bytes at 0x20 h e in
      bind_same (λ from. lexeme_behind file (drop from bytes) from) (ap (λ (xs : List ℕ). gap_end file xs at) there ∙ past_space (drop (at + 1) bytes) at)
