-- The lexemes of a source, from its tokens one after another.
use Rattle.std.proofs.Common.{◌≡◌, ℕ, zero, suc, ◌+◌, ◌<◌, ◌≤◌, ◌-◌, Bool, true, false, List, [], ◌∷◌, ◌++◌, length, drop, arith, refl, sym, ap, ◌∙◌, length-append, length-drop, drop-drop, Option, Some, None, Result, Ok, Err}
use Rattle.std.specs.Prelude.{◌==◌}
use Rattle.std.proofs.Math.Seq.{drop-append_seam}
use Rattle.std.proofs.lemmas.Bool.Decides.{nat_tests}
use Rattle.law_round.proofs.Ascii.{gap_nil, gap_space, gap_newline}
use Rattle.read_lexer.specs.Gap.{atmosphere_end, gap_end}
use Rattle.read_lexer.specs.Repeat.{repeated}
use Rattle.read_lexer.specs.Start.{start_of}
use Rattle.read_lexer.specs.Tokens.{lexeme, lexeme_at, next_lexeme}
use Rattle.read_lexer.specs.declared.token.Lexeme.{Lexeme}
use Rattle.read_lexer.specs.declared.token.Token.{Token}
use Rattle.read_reader.specs.Lexemes.{Lexed, lexed_from, lexed}

-- these bytes are one token, whatever the file, where the others follow
pub record Reads (w rest : List ℕ) (k : Token) : Type 0 where
  pub some : 0 < length w
  pub starts : (file : List ℕ) → start_of file (w ++ rest) ≡ Ok 0
  pub begins : (file : List ℕ) (at : ℕ) → atmosphere_end file (w ++ rest) at ≡ Ok at
  pub token : (file : List ℕ) (at : ℕ) → lexeme_at file (w ++ rest) at ≡ Ok (lexeme k at (at + length w))

abbrev pub alone : List Lexeme → Lexed
alone ls = record { lexemes = ls; fault = None }

itself : (at : ℕ) → at == at ≡ true
itself at = grind (arith, nat_tests)

some_left : (n : ℕ) → 0 < n → n == 0 ≡ false
some_left n h = grind (arith, nat_tests)

moved : (at : ℕ) → at + 1 == at ≡ false
moved at = grind (arith, nat_tests)

one_more : (at : ℕ) → at + 1 - at ≡ 1
one_more at = omega arith

module _ (file bytes : List ℕ) where
  -- the lexemes from an offset to the end
  pub record Lexes (at : ℕ) (ls : List Lexeme) : Type 0 where
    pub same : (k : ℕ) → length bytes < at + k → lexed_from (next_lexeme file bytes) k at ≡ alone ls

  stays : (b : List ℕ) (at : ℕ) → atmosphere_end file b at ≡ Ok at → gap_end file b at ≡ Ok at
  unfolding repeated
  stays b at h = rw (h, itself at) refl

  next_is : (b : List ℕ) (at : ℕ) (l : Lexeme) → drop at bytes ≡ b → atmosphere_end file b at ≡ Ok at → 0 < length b → lexeme_at file b at ≡ Ok l
      → next_lexeme file bytes at ≡ Ok (Some l)
  next_is b at l is stay some token = rw (is, stays b at stay) (rw (is, some_left (length b) some, token) refl)

  next_none : (at : ℕ) → drop at bytes ≡ [] → next_lexeme file bytes at ≡ Ok None
  next_none at is = rw (is, stays [] at (gap_nil file at)) (rw is refl)

  ended : (at : ℕ) → drop at bytes ≡ [] → length bytes ≤ at
  ended at is = omega (arith, ap length is, length-drop at bytes)

  pub lex_end : (at : ℕ) → at ≡ length bytes → drop at bytes ≡ [] → Lexes at []
  unfolding lexed_from
  lex_end at here is = record { same = turn } where
    turn : (j : ℕ) → length bytes < at + j → lexed_from (next_lexeme file bytes) j at ≡ alone []
    turn zero h = absurd (omega arith)
    turn (suc j) h = rw (next_none at is) refl

  pub lex_token : (w rest : List ℕ) (at : ℕ) (k : Token) (ls : List Lexeme) → drop at bytes ≡ w ++ rest → Reads w rest k
      → Lexes (at + length w) ls → Lexes at (lexeme k at (at + length w) ∷ ls)
  unfolding lexed_from
  lex_token w rest at k ls is reads others = record { same = turn } where
    turn : (j : ℕ) → length bytes < at + j → lexed_from (next_lexeme file bytes) j at ≡ alone (lexeme k at (at + length w) ∷ ls)
    turn zero h = absurd (omega (arith, reads.some, length-append w rest, ap length is, length-drop at bytes))
    turn (suc j) h =
        let pos : 0 < length (w ++ rest) = omega (arith, reads.some, length-append w rest) in
        let next = next_is (w ++ rest) at (lexeme k at (at + length w)) is (reads.begins file at) pos (reads.token file at) in
        rw (next, others.same j (omega (arith, reads.some))) refl

  -- a byte that is a gap by itself
  abbrev IsBlank : ℕ → Type 0
  IsBlank b = (rest : List ℕ) (at : ℕ) → atmosphere_end file (b ∷ rest) at ≡ Ok (at + 1)

  blank_first : (b : ℕ) → IsBlank b → (rest : List ℕ) (at : ℕ) → gap_end file (b ∷ rest) at ≡ gap_end file rest (at + 1)
  unfolding repeated
  blank_first b blank rest at = rw (blank rest at, moved at, one_more at) refl

  next_behind : (b : ℕ) → IsBlank b → (rest : List ℕ) (at : ℕ) → drop at bytes ≡ b ∷ rest → drop (at + 1) bytes ≡ rest → next_lexeme file bytes at ≡ next_lexeme file bytes (at + 1)
  next_behind b blank rest at is others = rw (is, others, blank_first b blank rest at) refl

  lex_blank : (b : ℕ) → IsBlank b → (rest : List ℕ) (at : ℕ) (ls : List Lexeme) → drop at bytes ≡ b ∷ rest → drop (at + 1) bytes ≡ rest → Lexes (at + 1) ls → Lexes at ls
  unfolding lexed_from
  lex_blank b blank rest at ls is behind others = record { same = turn } where
    turn : (j : ℕ) → length bytes < at + j → lexed_from (next_lexeme file bytes) j at ≡ alone ls
    turn zero h = absurd (omega (arith, ap length is, length-drop at bytes))
    turn (suc j) h = rw (next_behind b blank rest at is behind) (others.same (suc j) (omega arith))

  pub lex_space : (rest : List ℕ) (at : ℕ) (ls : List Lexeme) → drop at bytes ≡ 0x20 ∷ rest → drop (at + 1) bytes ≡ rest → Lexes (at + 1) ls → Lexes at ls
  lex_space = lex_blank 0x20 (λ bs at. gap_space bs file at)

  pub lex_newline : (rest : List ℕ) (at : ℕ) (ls : List Lexeme) → drop at bytes ≡ 0x0A ∷ rest → drop (at + 1) bytes ≡ rest → Lexes (at + 1) ls → Lexes at ls
  lex_newline = lex_blank 0x0A (λ bs at. gap_newline bs file at)
