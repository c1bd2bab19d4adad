use Rattle.std.proofs.Common.{sym, ap, subst, ◌∙◌, []}
use Rattle.stx_frames.specs.Given.{AreOf, are_rows_of}
use Rattle.stx_frames.specs.Scope.{Scope, are_new, adopted}
use Rattle.stx_frames.proofs.GivenLemmas.{none_are_there, of_adopted}
use Rattle.stx_frames.proofs.given.GivenFrames.new.Goals as goal

pub adopt-requires : goal.adopt-requires
adopt-requires c = ap (are_new c.args.rows.now) c.new-frames.ensures ∙ none_are_there c.args.rows.now

pub invariant_of-result : goal.invariant_of-result
invariant_of-result c =
    let l = c.args.library.value in
    let rs = c.args.rows.now in
    let made = c.in_ok-frames.ensures.ok ∙ c.in_ok-adopt.ensures.ok ∙ ap (λ (x : Scope). adopted x rs) c.new-frames.ensures in
    let all = ap (λ x. are_rows_of x rs) (sym c.deref.ensures) ∙ sym c.if-not-are_rows_of.ensures in
    subst (λ (x : Scope). AreOf l x) (sym made) (of_adopted l [] rs tt all)
