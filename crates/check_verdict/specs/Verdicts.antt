-- The lines that tell verdicts.
use Rattle.std.specs.Prelude.{ℕ, List, ◌++◌, codes, decimal}
use Rattle.check_verdict.specs.declared.verdict.Why.{Why}
use Rattle.check_verdict.specs.declared.verdict.Why.TheVariants as why
use Rattle.check_verdict.specs.declared.verdict.Verdict.{Verdict}
use Rattle.check_verdict.specs.declared.verdict.Verdict.TheVariants as verdict

abbrev pub why_text : Why → List ℕ
why_text (why.Line k) = codes "no: line " ++ decimal k ++ codes "\n"
why_text (why.Twice x) = codes "no: twice " ++ x ++ codes "\n"
why_text (why.Free x) = codes "no: free " ++ x ++ codes "\n"

abbrev pub answer_text : Verdict → List ℕ
answer_text verdict.Yes = codes "yes\n"
answer_text (verdict.No w) = why_text w
