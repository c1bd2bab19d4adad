use Rattle.std.proofs.Common.{sym, ◌∙◌}
use Rattle.check_verdict.proofs.PrimitiveNames.{added}
use Rattle.check_verdict.proofs.primitives.add_primitive.Goals as goal

pub returns : goal.returns
returns c =
    added c.add.result c.args.names.now c.add.new.self c.in_ok-name.name c.args.text.now c.add.ensures c.in_ok-name.ensures c.requires (sym c.is_primitive.ensures ∙ c.if-not-is_primitive.false)
