use Rattle.std.proofs.Common.{[]}
use Rattle.law_quasi_code.proofs.Parts.{parts_are}
use Rattle.law_quasi_code.proofs.laws.parts_are_the_expressions.Goals as goal

pub returns : goal.returns
returns c = λ form depth q h. parts_are form q depth [] h
