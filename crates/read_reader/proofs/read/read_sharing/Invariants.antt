use Rattle.std.proofs.Common.{◌≡◌, ◌≤◌, ◌-◌, length, Ok}
use Rattle.read_lexer.specs.Start.{start_of}
use Rattle.read_lexer.specs.Tokens.{next_lexeme}
use Rattle.read_reader.specs.Read.{data_of}
use Rattle.read_reader.proofs.Taken.{Taken}
use Rattle.read_reader.proofs.Turns.{Comes}
use Rattle.read_reader.proofs.read.read_sharing.Given as goal

abbrev pub invariant-loop-state : goal.invariant-loop-state
invariant-loop-state l = record {
  inside : l.at ≤ length l.bytes;
  begins : start_of l.context.file.now l.bytes ≡ Ok l.initial.at;
  taken : Taken l.context.file.now l.context.nesting (next_lexeme l.context.file.now l.bytes) l.initial.at l.state l.at;
  comes : Comes l.context.file.now l.context.nesting (next_lexeme l.context.file.now l.bytes) (length l.bytes) l.state l.at (data_of l.context.file.now l.bytes l.context.nesting);
}

abbrev pub decreases-loop-state : goal.decreases-loop-state
decreases-loop-state l = length l.bytes - l.at
