use Rattle.std.proofs.Common.{◌≡◌, subst}
use Rattle.check_verdict.proofs.PrimitiveNames.{found}
use Rattle.check_verdict.proofs.primitives.Primitives.has.Goals as goal
use Rattle.check_grammar.specs.Primitives.{is_primitive}

pub returns-then-has : goal.returns-then-has
returns-then-has c = found c.self.inside.names c.args.symbol.now c.has.result c.self.invariant c.has.ensures c.if-has.true

pub returns-else-has : goal.returns-else-has
returns-else-has c = subst (λ x. c.is_primitive.result ≡ is_primitive x) c.as_str.ensures c.is_primitive.ensures
