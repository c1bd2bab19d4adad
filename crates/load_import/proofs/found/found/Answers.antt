use Rattle.std.proofs.Common.{◌≡◌, ◌∙◌, ap, subst}
use Rattle.std.specs.Prelude.{IfOk}
use Rattle.load_import.specs.Shared.{among, names_at}
use Rattle.load_import.proofs.FoundLemmas.{found_is}
use Rattle.load_import.proofs.found.found.Goals as goal

pub returns : goal.returns
returns c =
    let places = c.in_order-places.result in
    let same = found_is c.args.ids.now c.args.names.now places c.in_ok-places.ensures.own c.in_order-places.ensures.rises (λ n. c.in_order-places.ensures.same n ∙ ap (among n) c.in_ok-places.ensures.places) in
    subst (λ x. IfOk c.names_at.result (λ rows. rows ≡ x)) (ap (names_at c.args.names.now) c.as_slice.ensures ∙ same) c.names_at.ensures
