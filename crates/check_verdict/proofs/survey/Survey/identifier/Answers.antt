use Rattle.std.proofs.Common.{◌≡◌, true, false, sym, ◌∙◌, subst}
use Rattle.check_verdict.proofs.Steps.{other_variable, no_variable}
use Rattle.check_verdict.proofs.survey.Survey.identifier.Goals as goal
use Rattle.check_grammar.specs.Scan.{is_name}

pub returns-then-has : goal.returns-then-has
returns-then-has c =
    other_variable c.args.identifier.now c.args.self.now (subst (λ x. is_name x ≡ false) c.as_str.ensures (sym c.is_name.ensures ∙ c.if-is_name.false))
    (sym c.has.ensures ∙ c.if-has.true)

pub returns-else-has : goal.returns-else-has
returns-else-has c =
    no_variable c.args.identifier.now c.args.self.now (subst (λ x. is_name x ≡ false) c.as_str.ensures (sym c.is_name.ensures ∙ c.if-is_name.false))
    (sym c.has.ensures ∙ c.if-has.false)
