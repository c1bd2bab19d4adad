use Rattle.std.proofs.Common.{◌∙◌, sym}
use Rattle.run_library.proofs.FirstLemmas.{not_there, first_named_is}
use Rattle.run_library.proofs.records.Records.named.Goals as goal

pub returns-in_default : goal.returns-in_default
returns-in_default c = sym (not_there c.args.name.now c.args.self.now c.args.needs.now (sym c.in_default.ensures))

pub returns-then-is_marked : goal.returns-then-is_marked
returns-then-is_marked c =
    c.at.ensures
    ∙ sym (first_named_is c.args.name.now c.args.self.now c.args.needs.now c.in-Some.place (sym c.in-Some.ensures) (sym c.is_marked.ensures ∙ c.if-is_marked.true))
