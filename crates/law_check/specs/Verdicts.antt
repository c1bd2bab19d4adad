-- Each verdict, in words of the text alone.
use Rattle.std.specs.Prelude.{◌≡◌, ℕ, ◌↔◌, List}
use Rattle.check_verdict.specs.Judged.{Once, IsSecond, Within, IsFirstOut, IsFirstWrong}
use Rattle.check_verdict.specs.Lines.{verdict_of}
use Rattle.check_verdict.specs.declared.verdict.Verdict.{Verdict}
use Rattle.check_verdict.specs.declared.verdict.Verdict.TheVariants as verdict
use Rattle.check_verdict.specs.declared.verdict.Why.TheVariants as why
use Rattle.check_grammar.specs.Lines.{IsCoreText}

-- each line is one of core text, no name has two binders, and each name that is free in its line is defined in some line
pub record IsSound (bytes : List ℕ) : Type 0 where
  pub lines : ℕ
  pub defined : List (List ℕ)
  pub bound : List (List ℕ)
  pub free : List (List ℕ)
  pub text : IsCoreText lines bytes defined bound free
  pub once : Once bound
  pub closed : Within defined free

-- each line is one of core text, and the name is the first that has a second binder
pub record BindsTwice (bytes x : List ℕ) : Type 0 where
  pub lines : ℕ
  pub defined : List (List ℕ)
  pub bound : List (List ℕ)
  pub free : List (List ℕ)
  pub text : IsCoreText lines bytes defined bound free
  pub second : IsSecond x bound

-- each line is one of core text, no name has two binders, and the name is the first that is free in its line and defined in none
pub record LeavesFree (bytes x : List ℕ) : Type 0 where
  pub lines : ℕ
  pub defined : List (List ℕ)
  pub bound : List (List ℕ)
  pub free : List (List ℕ)
  pub text : IsCoreText lines bytes defined bound free
  pub once : Once bound
  pub first : IsFirstOut x defined free

abbrev pub Means : List ℕ → Verdict → Type 0
Means bytes verdict.Yes = IsSound bytes
Means bytes (verdict.No (why.Line k)) = IsFirstWrong bytes k
Means bytes (verdict.No (why.Twice x)) = BindsTwice bytes x
Means bytes (verdict.No (why.Free x)) = LeavesFree bytes x

-- a verdict is given exactly where it means so
abbrev pub VerdictsAreExact : Type 0
VerdictsAreExact = (bytes : List ℕ) (v : Verdict) → (verdict_of bytes ≡ v) ↔ Means bytes v
