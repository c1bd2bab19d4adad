use Rattle.std.proofs.Common.{◌≡◌, ap, ◌∙◌, sym}
use Rattle.std.specs.Prelude.{true}
use Rattle.stx_frames.specs.Kept.{kept, Has}
use Rattle.stx_frames.specs.Right.{same_sizes}
use Rattle.stx_frames.specs.Scope.{Scope, label_by}
use Rattle.stx_frames.proofs.kept.KeptFrames.recall.Goals as goal

pub returns : goal.returns
returns c =
    let fs = c.self.inside.frames in
    let s = c.args.question.now.symbol in
    let ts = c.args.question.now.stamps in
    let a = c.in-Some.answer.now in
    let has : Has (kept s ts a) c.self.inside.memo = rw c.in-Some.is at c.in_ok-answer.ensures in
    let sizes : same_sizes fs ts a.sizes ≡ true =
    ap (λ xs. same_sizes fs xs a.sizes) (sym c.as_slice-stamps.ensures) ∙ ap (same_sizes fs c.as_slice-stamps.result.now) (sym c.as_slice.ensures) ∙ sym c.have_sizes.ensures ∙ c.if-not-have_sizes.false in
    c.in_ok-label.ensures ∙ c.as_ref.ensures.value ∙ ((c.self.invariant.each (kept s ts a) has).right sizes).label ∙ ap (λ (x : Scope). label_by x s ts) c.self.view_is
