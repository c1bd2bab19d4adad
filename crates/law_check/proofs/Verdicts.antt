-- What each verdict means is what its case says.
use Rattle.std.proofs.Common.{ℕ, List}
use Rattle.check_verdict.specs.Judged as judged
use Rattle.check_verdict.specs.Judged.{Judged, VerdictsAre}
use Rattle.check_verdict.specs.declared.verdict.Verdict.{Verdict}
use Rattle.check_verdict.specs.declared.verdict.Verdict.TheVariants as verdict
use Rattle.check_verdict.specs.declared.verdict.Why.TheVariants as why
use Rattle.law_check.specs.Verdicts.{Means, VerdictsAreExact}

means : {bytes : List ℕ} (v : Verdict) → Judged bytes v → Means bytes v
means _ (judged.Judged.yes t o w) = record { lines = _; defined = _; bound = _; free = _; text = t; once = o; closed = w }
means _ (judged.Judged.wrong k w) = w
means _ (judged.Judged.twice x t s) = record { lines = _; defined = _; bound = _; free = _; text = t; second = s }
means _ (judged.Judged.free x t o f) = record { lines = _; defined = _; bound = _; free = _; text = t; once = o; first = f }

judges : {bytes : List ℕ} (v : Verdict) → Means bytes v → Judged bytes v
judges verdict.Yes m = judged.Judged.yes m.text m.once m.closed
judges (verdict.No (why.Line k)) m = judged.Judged.wrong k m
judges (verdict.No (why.Twice x)) m = judged.Judged.twice x m.text m.second
judges (verdict.No (why.Free x)) m = judged.Judged.free x m.text m.once m.first

pub verdicts_exact : VerdictsAre → VerdictsAreExact
verdicts_exact law bytes v = (λ e. means v ((law bytes v).0 e), λ m. (law bytes v).1 (judges v m))
