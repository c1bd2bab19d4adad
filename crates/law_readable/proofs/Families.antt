-- The laws of evaluation.
use Rattle.std.proofs.Common.{refl, subst, arith}
use Rattle.law_invariants.proofs.Calls.{AnswerOr, delta_ok}
use Rattle.law_invariants.proofs.Read.{was-read}
use Rattle.law_invariants.proofs.Steady.{rises, holds-eval, holds-call, holds-lines}
use Rattle.law_invariants.proofs.Storing.{performed_holds}
use Rattle.law_readable.specs.Laws.{PrimitivesMakeReadables, ReadablesStay}
use Rattle.law_readable.specs.Readable.{readable}
use Rattle.law_readable.proofs.Steady.{readable-closed, readable-steady}

pub primitives-make : PrimitivesMakeReadables
primitives-make op args cells frames name m h k e =
    performed_holds name.library name.number (λ n. readable) (rises readable readable-steady name.library name.number) m name cells refl (omega arith) h
    (subst (AnswerOr readable) e (delta_ok readable readable-closed cells h op args frames k))

pub readables-stay : ReadablesStay
readables-stay = record {
  expressions = λ w c scope s n h k j. holds-eval readable readable-steady w h c scope s n j k;
  calls = λ w vs s n h k j. holds-call readable readable-steady w h vs s n k j;
  libraries = λ w ls scope s n h k j. holds-lines readable readable-steady w h ls scope s n j k;
  trees = λ cells v fuel left t h k e. was-read readable readable-closed cells v fuel left t h k e;
}
