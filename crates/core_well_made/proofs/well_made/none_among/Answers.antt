use Rattle.std.proofs.Common.{◌≡◌, Bool, true, false, List, [], ◌∷◌, refl, sym, ap, ◌∙◌}
use Rattle.std.specs.Prelude.{not, ◌&&◌}
use Rattle.base_data.specs.declared.name.Label.{Label}
use Rattle.core_language.specs.Labels.{same_label}
use Rattle.law_core.specs.Words.{among, each}
use Rattle.core_well_made.proofs.Lists.{each_on, each_off}
use Rattle.core_well_made.proofs.Sets.{has_is_among}
use Rattle.core_well_made.proofs.well_made.none_among.Goals as goal

pub returns-then-has : goal.returns-then-has
returns-then-has c =
    let apart : Label → Bool = λ l. not (among same_label c.args.others.now l) in
    let labels = c.args.labels.now in
    let label = c.label-item.result in
    let met : each apart (label ∷ []) ≡ false =
    ap (λ b. not b && true) (sym (has_is_among c.args.others.now label) ∙ sym c.has.ensures ∙ c.if-has.true) in
    each_off apart (λ (ls : List Label). ls) (λ (l : Label). l ∷ []) (λ l ls. refl) labels c.loop-label.label-index label (each apart labels)
    c.loop-label-test.true c.label-item.is met c.loop-label.invariant

pub loop-label-preserved : goal.loop-label-preserved
loop-label-preserved c =
    let apart : Label → Bool = λ l. not (among same_label c.args.others.now l) in
    let labels = c.args.labels.now in
    let label = c.label-item.result in
    let new : each apart (label ∷ []) ≡ true =
    ap (λ b. not b && true) (sym (has_is_among c.args.others.now label) ∙ sym c.has.ensures ∙ c.if-has.false) in
    each_on apart (λ (ls : List Label). ls) (λ (l : Label). l ∷ []) (λ l ls. refl) labels c.loop-label.label-index label (each apart labels)
    c.loop-label-test.true c.label-item.is new c.loop-label.invariant
