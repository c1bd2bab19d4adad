-- Codes that can be written and read back.
use Rattle.core_language.specs.Core.{PlainCases, PlainCode}
use Rattle.eval_code.specs.Codes.{Codes, with_code, with_cases}
use Rattle.law_invariants.proofs.Codes as codes
use Rattle.law_readable.specs.Readable.{ReadableCases, ReadableCode, ReadableCodes, readable}

pub one-code : (c : PlainCode) (cs : Codes) → ReadableCodes cs → ReadableCode c → ReadableCodes (with_code c cs)
one-code c cs h k = codes.one-code readable (λ p A x. x) c cs h k

pub case-codes : (xs : PlainCases) (cs : Codes) → ReadableCodes cs → ReadableCases xs → ReadableCodes (with_cases xs cs)
case-codes xs cs h k = codes.case-codes readable (λ p A x. x) xs cs h k
