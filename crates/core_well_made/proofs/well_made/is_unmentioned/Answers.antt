use Rattle.std.proofs.Common.{◌≡◌, [], ◌∙◌}
use Rattle.std.specs.Prelude.{not}
use Rattle.core_language.specs.Labels.{same_label, with_labels}
use Rattle.law_core.specs.Words.{among, each}
use Rattle.core_well_made.proofs.Sets.{none_among_with}
use Rattle.core_well_made.proofs.well_made.is_unmentioned.Goals as goal

pub returns : goal.returns
returns c =
    let variables = c.args.variables.now in
    let held : c.add_each.new.self ≡ with_labels [] variables =
    c.in_ok-add_each.ensures ∙ (λ i. with_labels (c.new-set.ensures i) (c.as_slice.ensures i)) in
    c.none_among.ensures ∙ (λ i. each (λ l. not (among same_label (held i) l)) (c.as_slice-2.ensures i)) ∙ none_among_with variables c.args.mentioned.now
