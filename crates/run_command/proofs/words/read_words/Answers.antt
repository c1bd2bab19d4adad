use Rattle.std.proofs.Common.{◌≡◌, ◌∙◌, map, ap, refl}
use Rattle.std.specs.String.{string_bytes}
use Rattle.std.proofs.lemmas.Result.{IfOk-weaker}
use Rattle.clap.specs.Words.{app_of}
use Rattle.run_command.specs.Words.{asked}
use Rattle.run_command.proofs.Taken.{taken, refused_by}
use Rattle.run_command.proofs.words.read_words.Goals as goal

pub returns-in-Ok : goal.returns-in-Ok
returns-in-Ok c =
    let is = taken (app_of c.in_ok-command.command) (map string_bytes c.args.words.now) (map string_bytes c.args.words.now) c.in-Ok.matches c.in_ok-command.ensures refl c.in-Ok.ensures.matches c.in-Ok.ensures.kinds in
    IfOk-weaker c.asked.result _ _ (λ w h. h ∙ ap asked c.values_given.ensures ∙ is) c.asked.ensures

pub returns : goal.returns
returns c = refused_by (app_of c.in_ok-command.command) (map string_bytes c.args.words.now) c.in-Err.error c.in_ok-command.ensures (λ same. c.in_default.not-OutOfMemory (c.kind.ensures ∙ same)) c.in-Err.ensures.kinds
