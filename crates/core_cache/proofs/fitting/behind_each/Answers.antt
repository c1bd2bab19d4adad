use Rattle.std.proofs.Common.{refl, get_or}
use Rattle.std.specs.Prelude.{slice_get}
use Rattle.core_cache.specs.Entry.{source}
use Rattle.core_cache.specs.Fits.{are_at, is_source}
use Rattle.core_cache.proofs.Behind.{turns_at, ends_at, done_at}
use Rattle.core_cache.proofs.fitting.behind_each.Goals as goal

pub returns-in_default : goal.returns-in_default
returns-in_default c =
    ends_at source.get (λ s n. is_source s (slice_get c.args.sources.now n)) (are_at c.args.sources.now) (λ w ws x xs. refl)
    c.args.chosen.now c.loop-place.place-index (get_or c.args.chosen.now c.loop-place.place-index 0) 0 c.loop-place.rest.now _ c.loop-place-test.true refl (rw c.in_default.is at c.behind_source.ensures) c.loop-place.invariant

pub loop-place-preserved : goal.loop-place-preserved
loop-place-preserved c =
    turns_at source.get (λ s n. is_source s (slice_get c.args.sources.now n)) (are_at c.args.sources.now) (λ w ws x xs. refl)
    c.args.chosen.now c.loop-place.place-index (get_or c.args.chosen.now c.loop-place.place-index 0) 0 c.loop-place.rest.now c.in-Some.after.now _ c.loop-place-test.true refl (rw c.in-Some.is at c.behind_source.ensures) c.loop-place.invariant

pub returns : goal.returns
returns c =
    done_at source.get (λ s n. is_source s (slice_get c.args.sources.now n)) (are_at c.args.sources.now) (λ w ws x xs. refl) refl
    c.args.chosen.now c.loop-place.place-index c.loop-place.rest.now _ c.loop-place-test.false c.loop-place.invariant
