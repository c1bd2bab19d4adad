-- What is said of a text, by cases over the grammar of core text.
use Rattle.std.specs.Prelude.{◌≡◌, ℕ, ◌+◌, ◌↔◌, true, false, List, [], ◌∷◌, ◌++◌, codes}
use Rattle.check_verdict.specs.declared.verdict.Why.TheVariants as why
use Rattle.check_verdict.specs.declared.verdict.Verdict.{Verdict}
use Rattle.check_verdict.specs.declared.verdict.Verdict.TheVariants as verdict
use Rattle.check_verdict.specs.Lines.{verdict_of}
use Rattle.check_grammar.specs.Forms.{has}
use Rattle.check_grammar.specs.Lines.{IsLine, AreLines, IsCoreText, first_line}

-- no name stands twice
pub data Once : List (List ℕ) → Type 0 where
  no_name : Once []
  name : {x : List ℕ} {xs : List (List ℕ)} → has xs x ≡ false → Once xs → Once (x ∷ xs)

-- the first name that stands a second time: those before it differ, and it is one of them
pub data IsSecond (x : List ℕ) : List (List ℕ) → Type 0 where
  second : (xs ys : List (List ℕ)) → Once xs → has xs x ≡ true → IsSecond x (xs ++ x ∷ ys)

-- each is one of these
pub data Within (defined : List (List ℕ)) : List (List ℕ) → Type 0 where
  no_name : Within defined []
  name : {x : List ℕ} {xs : List (List ℕ)} → has defined x ≡ true → Within defined xs → Within defined (x ∷ xs)

-- the first that is none of these
pub data IsFirstOut (x : List ℕ) (defined : List (List ℕ)) : List (List ℕ) → Type 0 where
  out : (xs ys : List (List ℕ)) → Within defined xs → has defined x ≡ false → IsFirstOut x defined (xs ++ x ∷ ys)

-- the bytes begin with a line of core text and its end
pub record BeginsWithLine (bytes : List ℕ) : Type 0 where
  pub line : List ℕ
  pub others : List ℕ
  pub splits : bytes ≡ line ++ (codes "\n" ++ others)
  pub defined : List (List ℕ)
  pub bound : List (List ℕ)
  pub free : List (List ℕ)
  pub is : IsLine line defined bound free

-- the first line that is none of core text has this number
pub data IsFirstWrong : List ℕ → ℕ → Type 0 where
  first : (bytes : List ℕ) → ((others : List ℕ) → bytes ≡ first_line ++ others → ⊥) → IsFirstWrong bytes 1
  later : {n : ℕ} {x : List ℕ} {ds bs fs : List (List ℕ)} (others : List ℕ) → AreLines n x ds bs fs → (others ≡ [] → ⊥) → (BeginsWithLine others → ⊥)
      → IsFirstWrong (first_line ++ (x ++ others)) (n + 2)

pub data Judged (bytes : List ℕ) : Verdict → Type 0 where
  -- each line is one of core text, each name is bound once, and each that is free in its line is defined
  yes : {n : ℕ} {ds bs fs : List (List ℕ)} → IsCoreText n bytes ds bs fs → Once bs → Within ds fs → Judged bytes verdict.Yes
  wrong : (k : ℕ) → IsFirstWrong bytes k → Judged bytes (verdict.No (why.Line k))
  twice : {n : ℕ} {ds bs fs : List (List ℕ)} (x : List ℕ) → IsCoreText n bytes ds bs fs → IsSecond x bs → Judged bytes (verdict.No (why.Twice x))
  free : {n : ℕ} {ds bs fs : List (List ℕ)} (x : List ℕ) → IsCoreText n bytes ds bs fs → Once bs → IsFirstOut x ds fs → Judged bytes (verdict.No (why.Free x))

-- exactly that is said which is so by these cases
abbrev pub VerdictsAre : Type 0
VerdictsAre = (bytes : List ℕ) (v : Verdict) → (verdict_of bytes ≡ v) ↔ Judged bytes v
