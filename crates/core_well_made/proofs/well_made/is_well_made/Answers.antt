use Rattle.std.proofs.Common.{◌≡◌, Bool, true, false, sym, ap, ◌∙◌, subst}
use Rattle.std.specs.Prelude.{IfOk}
use Rattle.law_core.specs.Parts.{parts}
use Rattle.law_core.specs.Templates.{templates_suit}
use Rattle.law_core.specs.WellMade.{same_code}
use Rattle.law_core.specs.Words.{once}
use Rattle.core_well_made.specs.Parts.{noted_all}
use Rattle.core_well_made.proofs.Formed.{not_formed, not_numbered, not_bound, as_templates_suit}
use Rattle.core_well_made.proofs.well_made.is_well_made.Goals as goal

pub returns-then-not-formed : goal.returns-then-not-formed
returns-then-not-formed c =
    let core = c.args.core.now in
    not_formed core c.gather.new.all (c.in_ok-gather.ensures ∙ ap (λ all. noted_all all (parts core)) c.new-parts.ensures) c.if-not-formed.true

pub returns-then-not-branch : goal.returns-then-not-branch
returns-then-not-branch c =
    let core = c.args.core.now in
    not_numbered core c.gather.new.all (c.in_ok-gather.ensures ∙ ap (λ all. noted_all all (parts core)) c.new-parts.ensures) c.if-not-formed.false
    (ap (once same_code) (sym c.into_vec.ensures) ∙ sym c.in_ok-once.ensures ∙ c.if-not-branch.true)

pub returns-then-not-branch-2 : goal.returns-then-not-branch-2
returns-then-not-branch-2 c =
    let core = c.args.core.now in
    not_bound core c.gather.new.all (c.in_ok-gather.ensures ∙ ap (λ all. noted_all all (parts core)) c.new-parts.ensures) c.if-not-formed.false
    (ap (once same_code) (sym c.into_vec.ensures) ∙ sym c.in_ok-once.ensures ∙ c.if-not-branch.false)
    (sym c.in_ok-is_bound_well.ensures ∙ c.if-not-branch-2.true)

pub returns : goal.returns
returns c =
    let core = c.args.core.now in
    let as_suit =
    as_templates_suit core c.gather.new.all (c.in_ok-gather.ensures ∙ ap (λ all. noted_all all (parts core)) c.new-parts.ensures) c.if-not-formed.false
    (ap (once same_code) (sym c.into_vec.ensures) ∙ sym c.in_ok-once.ensures ∙ c.if-not-branch.false)
    (sym c.in_ok-is_bound_well.ensures ∙ c.if-not-branch-2.false) in
    subst (λ (z : Bool). IfOk c.templates_suit.result (λ (b : Bool). b ≡ z)) (ap (λ vs. templates_suit vs core) c.new-variables.ensures ∙ as_suit) c.templates_suit.ensures.suit
