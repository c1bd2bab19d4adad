use Rattle.std.proofs.Common.{◌≡◌, ◌∙◌, ◌++◌, ◌∷◌, [], ap, sym}
use Rattle.std.proofs.lemmas.Result.{IfOk-weaker}
use Rattle.stx_tree.specs.Context.{act, acts}
use Rattle.stx_tree.specs.declared.change.Change.TheVariants.{Enter}
use Rattle.stx_tree.proofs.ContextLaws.{acts-more}
use Rattle.stx_object.specs.Wrap.{pending}
use Rattle.stx_object.specs.declared.wrap.ChangeLink.{ChangeLink}
use Rattle.stx_object.proofs.WrapLemmas.{acts-cancelled}
use Rattle.stx_object.proofs.wrap.Wrap.with.Goals as goal

pub returns-then-same : goal.returns-then-same
returns-then-same c =
    let link = c.deref-link.result.now in
    let same = c.same.ensures.0 c.if-same.true in
    let whole : c.args.self.now ≡ link.before ++ Enter c.in-Leave.mark ∷ [] =
    sym c.self.view_is ∙ ap pending c.in-Some.is ∙ ap (λ (l : ChangeLink). l.before ++ l.change ∷ []) (sym c.deref-link.ensures)
    ∙ ap (λ x. link.before ++ x ∷ []) (c.in-Enter.is ∙ ap Enter same) in
    IfOk-weaker c.share.result _ _
    (λ w h s. ap (λ xs. acts xs s) h ∙ acts-cancelled c.args.self.now link.before c.in-Leave.mark c.in-Leave.field-1 s whole ∙ ap (λ x. act x (acts c.args.self.now s)) (sym c.in-Leave.is))
    c.share.ensures

pub returns : goal.returns
returns c = IfOk-weaker c.linked.result _ _ (λ w h s. ap (λ xs. acts xs s) h ∙ acts-more c.args.self.now c.args.change s) c.linked.ensures
