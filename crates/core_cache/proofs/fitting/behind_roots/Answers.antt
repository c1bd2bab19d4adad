use Rattle.std.proofs.Common.{◌≡◌, ℕ, List, Option, Some, refl, sym, ap, ◌∙◌}
use Rattle.std.specs.Cmp.Lexicographic.{pointwise}
use Rattle.base_bytes.specs.Codec.{◌>>=◌, some_get, u64, text}
use Rattle.core_cache.specs.Fits.{same_text}
use Rattle.core_cache.specs.Fitting.{behind}
use Rattle.core_cache.proofs.Behind.{unlike}
use Rattle.core_cache.proofs.fitting.behind_roots.Goals as goal

pub returns-then-count-roots : goal.returns-then-count-roots
returns-then-count-roots c =
    let read : Some (c.in-Some.count, c.in-Some.rest.now) ≡ u64.get c.args.bytes.now = rw c.in-Some.is at c.u64_at.ensures in
    sym (unlike text.get same_text (λ ws texts. pointwise same_text texts ws) (λ w ws x xs. refl) (λ w ws. refl) (λ x xs. refl)
    c.args.roots.now c.in-Some.count c.in-Some.rest.now c.if-count-roots.true)
    ∙ ap (λ (r : Option (ℕ × List ℕ)). behind (λ texts. pointwise same_text texts c.args.roots.now) (r >>= λ n. some_get text.get n.0 n.1)) read
