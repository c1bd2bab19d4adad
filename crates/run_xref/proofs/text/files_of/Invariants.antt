use Rattle.std.proofs.Common.{◌≡◌, ℕ, List, drop}
use Rattle.run_xref.specs.Text.{or_held, held_in, lines_at}
use Rattle.run_xref.proofs.text.files_of.Given as goal

abbrev pub invariant-loop-source : goal.invariant-loop-source
invariant-loop-source l = (path : List ℕ) → or_held (lines_at l.files path) (held_in (drop l.source-index l.sources) path) ≡ held_in l.sources path
