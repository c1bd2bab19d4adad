use Rattle.std.proofs.Common.{◌∙◌, ◌++◌, ◌∷◌, [], ap, sym}
use Rattle.stx_tree.specs.Context.{blank, act, acts}
use Rattle.stx_tree.proofs.ContextLaws.{acts-more}
use Rattle.stx_object.specs.declared.wrap.ChangeLink.{ChangeLink}
use Rattle.stx_object.proofs.wrap.Wrap.linked.Goals as goal

pub invariant_of-result : goal.invariant_of-result
invariant_of-result c =
    let made = c.in_ok-link.ensures.ok in
    ap (λ (l : ChangeLink). l.made) made ∙ c.requires ∙ ap (λ xs. act c.args.change (acts xs blank)) (sym c.in_ok-before.ensures)
    ∙ sym (acts-more c.in_ok-before.before c.args.change blank) ∙ sym (ap (λ (l : ChangeLink). acts (l.before ++ l.change ∷ []) blank) made)
