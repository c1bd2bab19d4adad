use Rattle.std.proofs.Common.{◌∙◌, ◌++◌, [], sym, ap, get_or}
use Rattle.std.specs.Prelude.{slice_get}
use Rattle.std.specs.List.{cons_option}
use Rattle.std.proofs.lemmas.List.{get_or_default}
use Rattle.load_import.proofs.FoundLemmas.{collect_on}
use Rattle.load_import.proofs.found.names_at.Goals as goal

pub loop-place-preserved : goal.loop-place-preserved
loop-place-preserved c =
    let place = get_or c.args.places.now c.loop-place.place-index 0 in
    collect_on (slice_get c.args.names.now) c.args.places.now c.loop-place.place-index place c.loop-place.rows c.push_some.new.items _ c.loop-place-test.true
    (get_or_default c.args.places.now c.loop-place.place-index 0 place c.loop-place-test.true)
    (c.in_ok-push_some.ensures ∙ ap (λ o. c.loop-place.rows ++ cons_option o []) c.in_ok-row.ensures) c.loop-place.invariant
