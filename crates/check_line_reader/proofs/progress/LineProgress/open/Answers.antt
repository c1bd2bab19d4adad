use Rattle.check_line_reader.specs.Progress.{whole}
use Rattle.check_line_reader.proofs.Turning.{unchanged, turned}
use Rattle.read_lexer.specs.declared.token.Token.TheVariants as token
use Rattle.read_machine.specs.Step.{step_by}
use Rattle.check_line_reader.proofs.progress.LineProgress.open.Goals as goal

pub returns : goal.returns
returns c =
    turned c.args.context.now.file.now c.args.context.now.nesting (whole c.args.self.now) (whole c.opens.new.self) (whole c.turn.new.self) (token.Open c.args.bracket) c.args.at c.lexeme_at.result c.turn.result
    (unchanged (step_by c.args.context.now.file.now c.args.context.now.nesting (whole c.args.self.now) (token.Open c.args.bracket) c.args.at) (whole c.args.self.now) (whole c.opens.new.self) c.in_ok-opens.field-0 c.if-branch.false c.in_ok-opens.ensures)
    c.lexeme_at.ensures c.turn.ensures
