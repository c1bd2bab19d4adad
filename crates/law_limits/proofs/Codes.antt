-- Codes of whose trees the law holds.
use Rattle.stx_tree.specs.Tree.{Tree}
use Rattle.core_language.specs.Core.{PlainCases, PlainCode}
use Rattle.eval_code.specs.Codes.{Codes, with_code, with_cases}
use Rattle.law_invariants.proofs.Codes as codes
use Rattle.law_limits.specs.Holds.{CasesHold, CodeHolds, CodesHold, trees}
use Rattle.law_limits.specs.Lawful.{IsLawful}

module _ (T : Tree → Type 0) (lawful : IsLawful T) where
  pub one-code : (c : PlainCode) (cs : Codes) → CodesHold T cs → CodeHolds T c → CodesHold T (with_code c cs)
  one-code c cs h k = codes.one-code (trees T) (λ p A x. x) c cs h k

  pub case-codes : (xs : PlainCases) (cs : Codes) → CodesHold T cs → CasesHold T xs → CodesHold T (with_cases xs cs)
  case-codes xs cs h k = codes.case-codes (trees T) (λ p A x. x) xs cs h k
