use Rattle.std.proofs.Common.{ap, ◌∙◌}
use Rattle.stx_frames.specs.Right.{sizes_before}
use Rattle.stx_frames.specs.Scope.{label_by}
use Rattle.stx_frames.proofs.GrowLemmas.{all_put}
use Rattle.stx_frames.proofs.kept.KeptFrames.find_and_keep.Goals as goal

pub invariant_of-self : goal.invariant_of-self
invariant_of-self c =
    let fs = c.self.inside.frames in
    let s = c.args.question.symbol in
    let ts = c.args.question.stamps in
    all_put fs c.self.inside.memo c.keep.new.self s ts c.in_ok-answer.answer c.self.invariant
    (c.in_ok-answer.ensures.label ∙ ap (λ x. label_by fs x c.as_slice-stamps.result.now) c.in_ok-asked.ensures ∙ ap (label_by fs s) c.as_slice-stamps.ensures)
    (c.in_ok-answer.ensures.sizes ∙ ap (λ x. sizes_before fs x c.as_slice-stamps.result.now) c.in_ok-asked.ensures ∙ ap (sizes_before fs s) c.as_slice-stamps.ensures)
    c.keep.ensures

pub invariant_of-self-2 : goal.invariant_of-self-2
invariant_of-self-2 c =
    let fs = c.self.inside.frames in
    let s = c.args.question.symbol in
    let ts = c.args.question.stamps in
    all_put fs c.self.inside.memo c.keep.new.self s ts c.in_ok-answer.answer c.self.invariant
    (c.in_ok-answer.ensures.label ∙ ap (λ x. label_by fs x c.as_slice-stamps.result.now) c.in_ok-asked.ensures ∙ ap (label_by fs s) c.as_slice-stamps.ensures)
    (c.in_ok-answer.ensures.sizes ∙ ap (λ x. sizes_before fs x c.as_slice-stamps.result.now) c.in_ok-asked.ensures ∙ ap (sizes_before fs s) c.as_slice-stamps.ensures)
    c.keep.ensures
