use Rattle.std.proofs.Common.{refl}
use Rattle.std.specs.Cmp.Lexicographic.{pointwise}
use Rattle.base_bytes.specs.Codec.{text}
use Rattle.core_cache.specs.Fits.{same_text}
use Rattle.core_cache.proofs.Behind.{turns_at, ends_at, done_at}
use Rattle.core_cache.proofs.fitting.behind_texts.Goals as goal

pub returns-in_default : goal.returns-in_default
returns-in_default c =
    ends_at text.get same_text (λ ws texts. pointwise same_text texts ws) (λ w ws x xs. refl)
    c.args.roots.now c.loop-root.root-index c.root-item.result c.root-item.result c.loop-root.rest.now _ c.loop-root-test.true c.root-item.is (rw c.in_default.is at c.behind_text.ensures) c.loop-root.invariant

pub loop-root-preserved : goal.loop-root-preserved
loop-root-preserved c =
    turns_at text.get same_text (λ ws texts. pointwise same_text texts ws) (λ w ws x xs. refl)
    c.args.roots.now c.loop-root.root-index c.root-item.result c.root-item.result c.loop-root.rest.now c.in-Some.after.now _ c.loop-root-test.true c.root-item.is (rw c.in-Some.is at c.behind_text.ensures) c.loop-root.invariant

pub returns : goal.returns
returns c =
    done_at text.get same_text (λ ws texts. pointwise same_text texts ws) (λ w ws x xs. refl) refl
    c.args.roots.now c.loop-root.root-index c.loop-root.rest.now _ c.loop-root-test.false c.loop-root.invariant
