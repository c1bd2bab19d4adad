use Rattle.std.proofs.Common.{◌∷◌, ◌∙◌, sym, ap, subst}
use Rattle.base_data.specs.Gives.{Gives}
use Rattle.load_import.specs.Names.{need, except, joined}
use Rattle.load_import.specs.Shared.{steps_joined}
use Rattle.load_import.proofs.SharedLemmas.{except_alone, steps_front}
use Rattle.load_import.proofs.shared.join_steps.Goals as goal

pub returns-in-Some-clause-names : goal.returns-in-Some-clause-names
returns-in-Some-clause-names c =
    let all = c.args.all.now in
    let names = c.args.source.now.exports in
    let span = c.args.span.now in
    subst (Gives (λ _. c.join_except.new.all) c.join_except.result)
    (ap (λ ids. need names ids (joined span all (except ids names))) c.as_slice.ensures ∙ sym (except_alone span all names c.in-Some.ids.now) ∙ sym (ap (steps_joined span all names) c.in-Some.ensures))
    c.join_except.ensures.names

pub returns-clause-front : goal.returns-clause-front
returns-clause-front c = steps_front c.args.span.now c.args.all.now c.args.source.now.exports (c.args.steps.now.innermost.now ∷ c.args.steps.now.others.now) _ c.in_ok-join_others.ensures
