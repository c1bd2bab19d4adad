use Rattle.std.proofs.Common.{◌≡◌, take}
use Rattle.run_prelude.proofs.prelude.share_fault.Given as goal

abbrev pub invariant-loop-word : goal.invariant-loop-word
invariant-loop-word l = l.words ≡ take l.word-index l.word-items
