-- Brackets, the dot and booleans as tokens.
use Rattle.std.proofs.Common.{◌≡◌, ℕ, suc, ◌+◌, ◌<◌, Bool, true, false, List, [], ◌∷◌, ◌++◌, length, arith, refl, Result, Ok}
use Rattle.std.specs.Prelude.{◌==◌}
use Rattle.std.proofs.lemmas.Bool.Decides.{nat_tests}
use Rattle.base_data.specs.declared.atom.Atom.TheVariants as a
use Rattle.read_lexer.specs.Tokens.{lexeme, lexeme_at}
use Rattle.read_lexer.specs.declared.token.Bracket.TheVariants as bracket
use Rattle.read_lexer.specs.declared.token.Token.TheVariants as t
use Rattle.law_round.proofs.Ascii.{no_gap, no_gap_hash, no_start, no_start_hash, ends, delimits}
use Rattle.law_round.proofs.Bare.{bare_reads, runs_all, runs_end}
use Rattle.law_round.proofs.Lexing.{Reads}

pub open_reads : (rest : List ℕ) → Reads (0x28 ∷ []) rest (t.Open bracket.Round)
open_reads rest = record { some = omega arith; starts = no_start 0x28 rest refl; begins = no_gap 0x28 rest refl; token = λ file at. refl }

pub close_reads : (rest : List ℕ) → Reads (0x29 ∷ []) rest (t.Close bracket.Round)
close_reads rest = record { some = omega arith; starts = no_start 0x29 rest refl; begins = no_gap 0x29 rest refl; token = λ file at. refl }

pub vector_reads : (rest : List ℕ) → Reads (0x23 ∷ 0x28 ∷ []) rest t.OpenVector
vector_reads rest = record { some = omega arith; starts = no_start_hash 0x28 rest refl; begins = no_gap_hash 0x28 rest refl refl; token = λ file at. refl }

pub bytes_reads : (rest : List ℕ) → Reads (0x23 ∷ 0x76 ∷ 0x75 ∷ 0x38 ∷ 0x28 ∷ []) rest t.OpenBytes
bytes_reads rest = record { some = omega arith; starts = no_start_hash 0x76 (0x75 ∷ 0x38 ∷ 0x28 ∷ rest) refl; begins = no_gap_hash 0x76 (0x75 ∷ 0x38 ∷ 0x28 ∷ rest) refl refl; token = λ file at. refl }

pub true_reads : (rest : List ℕ) → ends rest ≡ true → Reads (0x23 ∷ 0x74 ∷ []) rest (t.Atom (a.Bool true))
true_reads rest h = record { some = omega arith; starts = no_start_hash 0x74 rest refl; begins = no_gap_hash 0x74 rest refl refl; token = λ file at. rw (delimits rest h) refl }

pub false_reads : (rest : List ℕ) → ends rest ≡ true → Reads (0x23 ∷ 0x66 ∷ []) rest (t.Atom (a.Bool false))
false_reads rest h = record { some = omega arith; starts = no_start_hash 0x66 rest refl; begins = no_gap_hash 0x66 rest refl refl; token = λ file at. rw (delimits rest h) refl }

pub dot_reads : (rest : List ℕ) → ends rest ≡ true → Reads (0x2E ∷ []) rest t.Dot
dot_reads rest h = bare_reads 0x2E [] rest t.Dot refl
    (λ file at. runs_all file at (0x2E ∷ []) rest at (at + 1) (at + 1) refl refl (runs_end file at rest (at + 1) h))
    (λ file from to. refl)
