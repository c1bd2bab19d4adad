use Rattle.std.proofs.Common.{◌≡◌, length, drop}
use Rattle.base_bytes.specs.Codec.{some_get}
use Rattle.core_cache.specs.Entry.{source}
use Rattle.core_cache.specs.Fits.{are_at}
use Rattle.core_cache.specs.Fitting.{behind}
use Rattle.core_cache.proofs.fitting.behind_each.Given as goal

abbrev pub invariant-loop-place : goal.invariant-loop-place
invariant-loop-place l = behind (are_at l.sources (drop l.place-index l.chosen)) (some_get source.get (length (drop l.place-index l.chosen)) l.rest) ≡ behind (are_at l.sources l.chosen) (some_get source.get (length l.chosen) l.bytes)
