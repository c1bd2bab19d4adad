use Rattle.std.proofs.Common.{◌≡◌, length, drop}
use Rattle.std.specs.Cmp.Lexicographic.{pointwise}
use Rattle.base_bytes.specs.Codec.{text, some_get}
use Rattle.core_cache.specs.Fits.{same_text}
use Rattle.core_cache.specs.Fitting.{behind}
use Rattle.core_cache.proofs.fitting.behind_texts.Given as goal

abbrev pub invariant-loop-root : goal.invariant-loop-root
invariant-loop-root l = behind (λ texts. pointwise same_text texts (drop l.root-index l.roots)) (some_get text.get (length (drop l.root-index l.roots)) l.rest) ≡ behind (λ texts. pointwise same_text texts l.roots) (some_get text.get (length l.roots) l.bytes)
