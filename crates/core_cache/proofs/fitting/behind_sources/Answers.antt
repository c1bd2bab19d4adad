use Rattle.std.proofs.Common.{◌≡◌, ℕ, List, Option, Some, refl, sym, ap, ◌∙◌}
use Rattle.std.specs.Prelude.{slice_get}
use Rattle.base_bytes.specs.Codec.{◌>>=◌, some_get, u64}
use Rattle.core_cache.specs.Entry.{source}
use Rattle.core_cache.specs.Fits.{are_at, is_source}
use Rattle.core_cache.specs.Fitting.{behind}
use Rattle.core_cache.proofs.Behind.{unlike}
use Rattle.core_cache.proofs.fitting.behind_sources.Goals as goal

pub returns-then-count-chosen : goal.returns-then-count-chosen
returns-then-count-chosen c =
    let read : Some (c.in-Some.count, c.in-Some.rest.now) ≡ u64.get c.args.bytes.now = rw c.in-Some.is at c.u64_at.ensures in
    sym (unlike source.get (λ s n. is_source s (slice_get c.args.sources.now n)) (are_at c.args.sources.now) (λ w ws x xs. refl) (λ w ws. refl) (λ x xs. refl)
    c.args.chosen.now c.in-Some.count c.in-Some.rest.now c.if-count-chosen.true)
    ∙ ap (λ (r : Option (ℕ × List ℕ)). behind (are_at c.args.sources.now c.args.chosen.now) (r >>= λ n. some_get source.get n.0 n.1)) read
