use Rattle.std.proofs.Common.{◌≡◌, ◌||◌, List, sym, ap, ◌∙◌}
use Rattle.base_data.specs.declared.name.Label.{Label}
use Rattle.core_language.specs.Labels.{has_label}
use Rattle.core_language.proofs.MemberLemmas.{has_joined}
use Rattle.core_language.proofs.labels.Labels.has.Goals as goal

pub returns-then-is_among : goal.returns-then-is_among
returns-then-is_among c =
    let l = c.args.label.now in
    let among : c.is_among.result ≡ has_label c.self.inside.first.items l = c.is_among.ensures ∙ ap (λ (ls : List Label). has_label ls l) c.deref.ensures.value in
    c.if-is_among.true
    ∙ sym (ap (λ b. b || has_label c.self.inside.later.keys l) (sym among ∙ c.if-is_among.true))
    ∙ sym (has_joined c.self.inside.first.items c.self.inside.later.keys l) ∙ ap (λ (ls : List Label). has_label ls l) c.self.view_is

pub returns-else-is_among : goal.returns-else-is_among
returns-else-is_among c =
    let l = c.args.label.now in
    let among : c.is_among.result ≡ has_label c.self.inside.first.items l = c.is_among.ensures ∙ ap (λ (ls : List Label). has_label ls l) c.deref.ensures.value in
    c.contains.ensures
    ∙ sym (ap (λ b. b || has_label c.self.inside.later.keys l) (sym among ∙ c.if-is_among.false))
    ∙ sym (has_joined c.self.inside.first.items c.self.inside.later.keys l) ∙ ap (λ (ls : List Label). has_label ls l) c.self.view_is
