-- The law, for tests.
use Rattle.std.proofs.Common.{subst}
use Rattle.law_invariants.specs.Laws.{Tests, passing, AreKept, EvaluationKeeps}
use Rattle.law_invariants.specs.Steady.{IsSteady}
use Rattle.law_invariants.proofs.Steady.{GaveStage, holds-eval, holds-call, holds-lines, used-holds}

pub steady : (t : Tests) → AreKept t → IsSteady (passing t)
steady t k = record { closed = k.closed; temporaries = k.temporaries; changed = k.changed; code = λ p A h. h; clauses = λ p A B f h. f h; template = λ x A h. h; templates = λ x A B f h. f h }

pub keeps : EvaluationKeeps
keeps = record {
  expressions = λ t w c scope s n k h i j. holds-eval (passing t) (steady t k) w h c scope s n j i;
  calls = λ t w vs s n k h i j. holds-call (passing t) (steady t k) w h vs s n i j;
  libraries = λ t w ls scope s n k h i j. holds-lines (passing t) (steady t k) w h ls scope s n j i;
  uses = λ t place rs u v l e f g h k stage records expression tree is.
      let p = subst (GaveStage (passing t) (steady t k) (passing t).trees) is (used-holds (passing t) (steady t k) place rs u l e f g stage records expression tree) in (p.1, p.0);
}
