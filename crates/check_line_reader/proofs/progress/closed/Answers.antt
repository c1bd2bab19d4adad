use Rattle.std.proofs.Common.{◌∙◌, sym}
use Rattle.check_line_reader.proofs.Closing.{closing}
use Rattle.check_line_reader.proofs.progress.closed.Goals as goal

pub returns-in_ok-put-in-Ok : goal.returns-in_ok-put-in-Ok
returns-in_ok-put-in-Ok c =
    closing c.args.context.now.file.now c.args.list.now c.replace-inner.result c.in-Ok.outer c.replace-inner.new.dest c.put.new.self c.in-Some.form c.args.around.now.stack c.pop.new.self c.args.around.now.done c.args.bracket c.args.at c.through-all.result c.in_ok-datum-in-Ok.datum
    (sym c.same_bracket.ensures ∙ c.if-not-same_bracket.false) c.in-Some.ensures c.in-Ok.ensures c.replace-inner.ensures.value c.replace-inner.ensures.after c.through-all.ensures c.in_ok-datum-in-Ok.ensures c.in_ok-put-in-Ok.ensures
