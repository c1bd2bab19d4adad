use Rattle.std.proofs.Common.{◌≡◌, drop}
use Rattle.check_line_reader.specs.Words.{word_from}
use Rattle.check_line_reader.proofs.words.word_size.Given as goal

abbrev pub invariant-loop-size : goal.invariant-loop-size
invariant-loop-size l = word_from l.size (drop l.size l.bytes) ≡ word_from 0 l.bytes
