use Rattle.std.proofs.Common.{◌≡◌, List, [], ap, ◌∙◌, subst, IfOk}
use Rattle.base_data.specs.declared.name.Label.{Label}
use Rattle.core_language.specs.Labels.{with_labels, without}
use Rattle.core_language.specs.References.{references, binders, mentions}
use Rattle.core_language.proofs.MemberLemmas.{without_each}
use Rattle.core_language.proofs.references.references.Goals as goal

pub returns : goal.returns
returns c =
    let core = c.args.core.now in
    let bound : c.scan.new.bound ≡ with_labels [] (binders core) = c.in_ok-scan.ensures.bound ∙ ap (λ ls. with_labels ls (binders core)) c.new-bound.ensures in
    let mentioned : c.scan.new.mentioned ≡ with_labels [] (mentions core) = c.in_ok-scan.ensures.mentioned ∙ ap (λ ls. with_labels ls (mentions core)) c.new-mentioned.ensures in
    let all : without c.scan.new.bound c.scan.new.mentioned ≡ references core = (λ i. without (bound i) (mentioned i)) ∙ without_each (binders core) (with_labels [] (mentions core)) in
    subst (λ (x : List Label). IfOk c.without.result (λ ls. ls.items ≡ x)) all c.without.ensures
