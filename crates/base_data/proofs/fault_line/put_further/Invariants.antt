use Rattle.std.proofs.Common.{◌≡◌, ◌++◌, drop}
use Rattle.std.specs.String.{string_bytes}
use Rattle.base_data.specs.FaultLine.{further_words}
use Rattle.base_data.proofs.fault_line.put_further.Given as goal

abbrev pub invariant-loop-word : goal.invariant-loop-word
invariant-loop-word l = string_bytes l.line ++ further_words (drop l.word-index l.words) ≡ string_bytes l.initial.line ++ further_words l.words
