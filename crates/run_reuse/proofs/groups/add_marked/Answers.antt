use Rattle.std.proofs.Common.{refl}
use Rattle.std.specs.Prelude.{slice_get}
use Rattle.run_reuse.specs.Groups.{places_if}
use Rattle.run_reuse.proofs.Grouped.{all_chosen, chosen_on}
use Rattle.run_reuse.proofs.groups.add_marked.Goals as goal

pub loop-place-preserved : goal.loop-place-preserved
loop-place-preserved c =
    chosen_on (λ p. places_if (slice_get c.args.groups.now p)) c.args.marks.now c.loop-place.place _ c.loop-place.all _ _ c.loop-place-test.true refl c.in_ok-add_group_where.ensures c.loop-place.invariant

pub returns : goal.returns
returns c = all_chosen (λ p. places_if (slice_get c.args.groups.now p)) c.args.marks.now c.loop-place.place c.loop-place.all _ c.loop-place-test.false c.loop-place.invariant
