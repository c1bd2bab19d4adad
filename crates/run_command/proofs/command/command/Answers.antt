use Rattle.std.proofs.Common.{◌≡◌, ◌∙◌, ap₂, codes}
use Rattle.std.proofs.lemmas.Result.{IfOk-weaker}
use Rattle.clap.specs.Words.{App, with_rule, app_of}
use Rattle.run_command.specs.Command as spec
use Rattle.run_command.proofs.command.command.Goals as goal

pub returns : goal.returns
returns c =
    let e1 = c.in_ok-command.ensures ∙ ap₂ with_rule c.bare.ensures c.option.ensures.rule in
    let e2 = c.in_ok-command-2.ensures ∙ ap₂ with_rule e1 c.option-2.ensures.rule in
    let e3 = c.in_ok-command-3.ensures ∙ ap₂ with_rule e2 c.option-3.ensures.rule in
    let e4 = c.in_ok-command-4.ensures ∙ ap₂ with_rule e3 c.option-4.ensures.rule in
    let e5 = c.in_ok-command-5.ensures ∙ ap₂ with_rule e4 c.flag.ensures.rule in
    IfOk-weaker c.with-6.result _ _ (λ r h. h ∙ ap₂ with_rule e5 c.positional.ensures.rule) c.with-6.ensures
