use Rattle.std.proofs.Common.{◌≡◌, ◌++◌, List, [], ◌∷◌, refl, sym, ap, ◌∙◌}
use Rattle.base_data.specs.declared.name.Label.{Label}
use Rattle.core_language.specs.Labels.{has_label, with_label}
use Rattle.core_language.proofs.MemberLemmas.{with_first, with_new, with_later}
use Rattle.core_language.proofs.labels.Labels.add.Goals as goal

pub returns-then-is_among : goal.returns-then-is_among
returns-then-is_among c =
    let l = c.args.label.now in
    let among : c.is_among.result ≡ has_label c.self.inside.first.items l = c.is_among.ensures ∙ ap (λ (ls : List Label). has_label ls l) c.deref.ensures.value in
    sym c.self.view_is ∙ with_first c.self.inside.first.items c.self.inside.later.keys l (sym among ∙ c.if-is_among.true) ∙ ap (λ (ls : List Label). with_label ls l) c.self.view_is

pub returns-then-is_empty : goal.returns-then-is_empty
returns-then-is_empty c =
    let l = c.args.label.now in
    let among : c.is_among.result ≡ has_label c.self.inside.first.items l = c.is_among.ensures ∙ ap (λ (ls : List Label). has_label ls l) c.deref.ensures.value in
    ap (λ (ls : List Label). ls ++ c.self.inside.later.keys) (c.in_ok-push.ensures.items ∙ ap (λ m. c.self.inside.first.items ++ m ∷ []) c.in_ok-label.ensures)
    ∙ with_new c.self.inside.first.items c.self.inside.later.keys l (sym among ∙ c.if-is_among.false) (c.if-is_empty.ensures.0 refl)
    ∙ ap (λ (ls : List Label). with_label ls l) c.self.view_is

pub returns : goal.returns
returns c =
    let l = c.args.label.now in
    let among : c.is_among.result ≡ has_label c.self.inside.first.items l = c.is_among.ensures ∙ ap (λ (ls : List Label). has_label ls l) c.deref.ensures.value in
    ap (λ (ls : List Label). c.self.inside.first.items ++ ls) (c.in_ok-insert.ensures.keys ∙ ap (with_label c.self.inside.later.keys) c.in_ok-label.ensures)
    ∙ with_later c.self.inside.first.items c.self.inside.later.keys l (sym among ∙ c.if-is_among.false)
    ∙ ap (λ (ls : List Label). with_label ls l) c.self.view_is
