use Rattle.std.proofs.Common.{Ok, sym, ap, ◌∙◌}
use Rattle.std.specs.Prelude.{option_map}
use Rattle.run_library.proofs.GivenLemmas.{given_there}
use Rattle.run_library.proofs.given.GivenNames.exported.Goals as goal

pub returns-in-Some : goal.returns-in-Some
returns-in-Some c =
    let d = option_map (λ r. r.now) c.args.derived in
    given_there d c.self.inside.derived c.self.inside.listed.entries c.args.library.now c.in-Some.exports.now c.args.span.now
    (c.self.view_is ∙ c.in_ok-go_behind.ensures) c.self.invariant c.in-Some.ensures
    ∙ ap Ok (sym c.in_ok-share.ensures)
