-- Tokens that run up to a delimiter.
use Rattle.std.proofs.Common.{◌≡◌, ℕ, zero, suc, ◌+◌, ◌<◌, ◌≤◌, ◌-◌, Bool, true, false, List, [], ◌∷◌, ◌++◌, length, drop, take, arith, refl, sym, ap, ◌∙◌, append_assoc, length-append, Option, Some, None, Result, Ok, Err}
use Rattle.std.specs.Prelude.{◌==◌, ◌&&◌, ◌||◌, nat_lt, not, slice_index}
use Rattle.std.specs.List.{list_all}
use Rattle.std.proofs.Math.Seq.{drop-append_seam, take-append_seam}
use Rattle.std.proofs.lemmas.Bool.Decides.{nat_tests}
use Rattle.base_data.specs.Gives.{◌>>=◌}
use Rattle.base_data.specs.declared.fault.FaultKind.TheVariants as kind
use Rattle.read_spelling.specs.Escapes.{escape}
use Rattle.read_spelling.specs.Source.{characters}
use Rattle.read_spelling.specs.Whitespace.{is_delimiter}
use Rattle.read_spelling.specs.declared.escapes.Letter.{Letter}
use Rattle.read_lexer.specs.Repeat.{repeated}
use Rattle.read_lexer.specs.Tokens.{lexeme, lexeme_at, bare_step, bare_end, bare_to, bare_at, bare}
use Rattle.read_lexer.specs.declared.token.Token.{Token}
use Rattle.law_round.proofs.Ascii.{characters-nil, characters-ascii, begins, no_gap, no_start, ends}
use Rattle.law_round.proofs.Lexing.{Reads}

-- a token goes on with such a byte, which stands for itself
abbrev pub plain : ℕ → Bool
plain b = nat_lt b 0x80 && not (b == 0x5C) && not (is_delimiter b)

three : (a b c : Bool) → (a && not b && not c) ≡ true → (a ≡ true) × (b ≡ false) × (c ≡ false)
three true false false h = (refl, refl, refl)
three true true c h = absurd (cc)
three true false true h = absurd (cc)
three false b c h = absurd (cc)

small : (b : ℕ) → nat_lt b 0x80 ≡ true → b < 0x80
small b h = grind (arith, nat_tests)

moved : (at n : ℕ) → 0 < n → at + n == at ≡ false
moved at n h = grind (arith, nat_tests)

itself : (at : ℕ) → at == at ≡ true
itself at = grind (arith, nat_tests)

ahead : (at n : ℕ) → at + n - at ≡ n
ahead at n = omega arith

end_is : (b : ℕ) → (b == 0x20 || b == 0x29 || b == 0x0A) ≡ true → (b < 0x80) × (b == 0x5C ≡ false) × (is_delimiter b ≡ true)
end_is b h = (grind (arith, nat_tests), grind (arith, nat_tests), grind (arith, nat_tests))

both : (a b : Bool) → (a && b) ≡ true → (a ≡ true) × (b ≡ true)
both true true h = (refl, refl)
both true false h = absurd (cc)
both false b h = absurd (cc)

module _ (file : List ℕ) (from : ℕ) where
  -- a token goes on over these bytes up to this offset
  pub record Runs (bytes : List ℕ) (at end : ℕ) : Type 0 where
    pub same : (k : ℕ) → length bytes < k → repeated (bare_step file kind.BadEscape from) k bytes at ≡ Ok end

  stops : (rest : List ℕ) (at : ℕ) → ends rest ≡ true → bare_step file kind.BadEscape from rest at ≡ Ok at
  unfolding bare_step
  stops [] at h = rw characters-nil refl
  stops (b ∷ bs) at h = let p = end_is b h in rw (p.1, characters-ascii b bs p.0, p.2) refl

  pub runs_end : (rest : List ℕ) (at : ℕ) → ends rest ≡ true → Runs rest at at
  unfolding repeated
  runs_end rest at h = record { same = turn } where
    turn : (k : ℕ) → length rest < k → repeated (bare_step file kind.BadEscape from) k rest at ≡ Ok at
    turn zero few = absurd (omega arith)
    turn (suc k) few = rw (stops rest at h, itself at) refl

  steps : (b : ℕ) (bs : List ℕ) (at : ℕ) → plain b ≡ true → bare_step file kind.BadEscape from (b ∷ bs) at ≡ Ok (at + 1)
  unfolding bare_step
  steps b bs at h = let p = three (nat_lt b 0x80) (b == 0x5C) (is_delimiter b) h in rw (p.1, characters-ascii b bs (small b p.0), p.2) refl

  -- one step over some bytes
  step_on : (w rest : List ℕ) (at end : ℕ) → 0 < length w → bare_step file kind.BadEscape from (w ++ rest) at ≡ Ok (at + length w) → Runs rest (at + length w) end → Runs (w ++ rest) at end
  unfolding repeated
  step_on w rest at end some step others = record { same = turn } where
    turn : (k : ℕ) → length (w ++ rest) < k → repeated (bare_step file kind.BadEscape from) k (w ++ rest) at ≡ Ok end
    turn zero few = absurd (omega arith)
    turn (suc k) few = rw (step, moved at (length w) some, ahead at (length w), drop-append_seam w rest, others.same k (omega (arith, length-append w rest))) refl

  pub runs_plain : (b : ℕ) (rest : List ℕ) (at end : ℕ) → plain b ≡ true → Runs rest (at + 1) end → Runs (b ∷ rest) at end
  runs_plain b rest at end h others = step_on (b ∷ []) rest at end (omega arith) (steps b rest at h) others

  pub runs_escape : (w rest : List ℕ) (at end : ℕ) (l : Letter) → 0 < length w → slice_index (w ++ rest) 0 == 0x5C ≡ true → escape (w ++ rest) ≡ Some l → l.size ≡ length w
      → Runs rest (at + length w) end → Runs (w ++ rest) at end
  unfolding bare_step
  runs_escape w rest at end l some first gives size others = step_on w rest at end some (rw (first, gives, size) refl) others

  pub runs_all : (w rest : List ℕ) (at there end : ℕ) → there ≡ at + length w → list_all plain w ≡ true → Runs rest there end → Runs (w ++ rest) at end
  runs_all [] rest at there end is h others = let here : there ≡ at = omega arith in rw here at others
  runs_all (b ∷ bs) rest at there end is h others =
      let p = both (plain b) (list_all plain bs) h in
      runs_plain b (bs ++ rest) at end p.0 (runs_all bs rest (at + 1) there end (omega arith) p.1 others)

-- what a bare token may begin with: no bracket, quote or number sign
abbrev pub opens : ℕ → Bool
opens b = begins b && not (b == 0x28 || b == 0x29 || b == 0x5B || b == 0x5D || b == 0x27 || b == 0x60 || b == 0x2C || b == 0x22 || b == 0x23)

nine : (a b c d e f g h i j : Bool) → (a && not (b || c || d || e || f || g || h || i || j)) ≡ true
    → (a ≡ true) × (b ≡ false) × (c ≡ false) × (d ≡ false) × (e ≡ false) × (f ≡ false) × (g ≡ false) × (h ≡ false) × (i ≡ false) × (j ≡ false)
nine true false false false false false false false false false p = (refl, refl, refl, refl, refl, refl, refl, refl, refl, refl)
nine false b c d e f g h i j p = absurd (cc)
nine true true c d e f g h i j p = absurd (cc)
nine true false true d e f g h i j p = absurd (cc)
nine true false false true e f g h i j p = absurd (cc)
nine true false false false true f g h i j p = absurd (cc)
nine true false false false false true g h i j p = absurd (cc)
nine true false false false false false true h i j p = absurd (cc)
nine true false false false false false false true i j p = absurd (cc)
nine true false false false false false false false true j p = absurd (cc)
nine true false false false false false false false false true p = absurd (cc)

opens_parts : (b : ℕ) → opens b ≡ true → (begins b ≡ true) × (b == 0x28 ≡ false) × (b == 0x29 ≡ false) × (b == 0x5B ≡ false) × (b == 0x5D ≡ false) × (b == 0x27 ≡ false)
    × (b == 0x60 ≡ false) × (b == 0x2C ≡ false) × (b == 0x22 ≡ false) × (b == 0x23 ≡ false)
opens_parts b h = nine (begins b) (b == 0x28) (b == 0x29) (b == 0x5B) (b == 0x5D) (b == 0x27) (b == 0x60) (b == 0x2C) (b == 0x22) (b == 0x23) h

is_bare : (file : List ℕ) (b : ℕ) (bs : List ℕ) (at : ℕ) → opens b ≡ true → lexeme_at file (b ∷ bs) at ≡ bare_at file (b ∷ bs) at
is_bare file b bs at h = let p = opens_parts b h in rw (p.1, p.2, p.3, p.4, p.5, p.6, p.7, p.8, p.9) refl

to_is : (file bytes text : List ℕ) (from to : ℕ) (k : Token) → to == from ≡ false → take (to - from) bytes ≡ text → bare file text from to ≡ Ok k
    → bare_to file bytes from to ≡ Ok (lexeme k from to)
to_is file bytes text from to k differs taken spells = rw (differs, taken) (ap (λ r. r >>= λ t. Ok (lexeme t from to)) spells)

at_is : (file bytes : List ℕ) (from to : ℕ) (k : Token) → bare_end file kind.BadEscape from bytes from ≡ Ok to → bare_to file bytes from to ≡ Ok (lexeme k from to)
    → bare_at file bytes from ≡ Ok (lexeme k from to)
at_is file bytes from to k end given = ap (λ r. r >>= λ to. bare_to file bytes from to) end ∙ given

-- a bare token: it runs over all its bytes, and they spell this token
pub bare_reads : (b : ℕ) (bs rest : List ℕ) (k : Token) → opens b ≡ true
    → ((file : List ℕ) (at : ℕ) → Runs file at ((b ∷ bs) ++ rest) at (at + length (b ∷ bs)))
    → ((file : List ℕ) (from to : ℕ) → bare file (b ∷ bs) from to ≡ Ok k)
    → Reads (b ∷ bs) rest k
bare_reads b bs rest k h runs spells = record {
  some = omega arith;
  starts = no_start b (bs ++ rest) (opens_parts b h).0;
  begins = no_gap b (bs ++ rest) (opens_parts b h).0;
  token = λ file at. is_bare file b (bs ++ rest) at h ∙ found file at;
} where
  found : (file : List ℕ) (at : ℕ) → bare_at file ((b ∷ bs) ++ rest) at ≡ Ok (lexeme k at (at + length (b ∷ bs)))
  found file at =
      let n = length (b ∷ bs) in
      let front : take (at + n - at) ((b ∷ bs) ++ rest) ≡ b ∷ bs = rw (ahead at n) (take-append_seam (b ∷ bs) rest) in
      at_is file ((b ∷ bs) ++ rest) at (at + n) k ((runs file at).same (suc (length ((b ∷ bs) ++ rest))) (omega arith))
      (to_is file ((b ∷ bs) ++ rest) (b ∷ bs) at (at + n) k (moved at n (omega arith)) front (spells file at (at + n)))
