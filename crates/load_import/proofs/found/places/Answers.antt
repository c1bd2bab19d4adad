use Rattle.std.proofs.Common.{◌∙◌, ◌++◌, [], sym, ap}
use Rattle.std.specs.List.{cons_option}
use Rattle.std.proofs.lemmas.List.{append-nil, drop_all}
use Rattle.load_import.specs.Shared.{place_named, places_of}
use Rattle.load_import.specs.declared.set.NameAt.{NameAt}
use Rattle.load_import.proofs.FoundLemmas.{collect_on}
use Rattle.load_import.proofs.found.places.Goals as goal

pub loop-id-preserved : goal.loop-id-preserved
loop-id-preserved c =
    collect_on (λ (id : NameAt). place_named id.name c.args.names.now) c.args.ids.now c.loop-id.id-index c.id-item.result c.loop-id.places c.push_some.new.items _ c.loop-id-test.true c.id-item.is
    (c.in_ok-push_some.ensures ∙ ap (λ o. c.loop-id.places ++ cons_option o []) c.place_of.ensures) c.loop-id.invariant

pub returns-clause-places : goal.returns-clause-places
returns-clause-places c =
    sym (append-nil c.loop-id.places) ∙ ap (λ ids. c.loop-id.places ++ places_of ids c.args.names.now) (sym (drop_all c.loop-id.id-index c.args.ids.now c.loop-id-test.false)) ∙ c.loop-id.invariant
