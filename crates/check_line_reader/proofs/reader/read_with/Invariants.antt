use Rattle.std.proofs.Common.{◌≤◌, ◌-◌, length}
use Rattle.check_line_reader.specs.Progress.{whole}
use Rattle.read_lexer.specs.Tokens.{next_lexeme}
use Rattle.read_reader.specs.Read.{data_of}
use Rattle.read_reader.proofs.Turns.{Comes}
use Rattle.check_line_reader.proofs.reader.read_with.Given as goal

abbrev pub invariant-loop-progress : goal.invariant-loop-progress
invariant-loop-progress l = record {
  inside : l.at ≤ length l.bytes;
  comes : Comes l.context.file.now l.context.nesting (next_lexeme l.context.file.now l.bytes) (length l.bytes) (whole l.progress) l.at (data_of l.context.file.now l.bytes l.context.nesting);
}

abbrev pub decreases-loop-progress : goal.decreases-loop-progress
decreases-loop-progress l = length l.bytes - l.at
