use Rattle.std.proofs.Common.{Option, sym, ap, ◌∙◌}
use Rattle.stx_frames.specs.Given.{Parts, part_of}
use Rattle.stx_frames.specs.Needed.{parts_given}
use Rattle.stx_frames.proofs.GivenLemmas.{part_of-lookup, or_own}
use Rattle.stx_frames.proofs.joined.part.Goals as goal

pub returns-in-Some-get : goal.returns-in-Some-get
returns-in-Some-get c =
    let own = c.args.own.now in
    let l = c.args.library.now.value in
    ap (or_own own) c.in-Some-get.ensures ∙ sym (part_of-lookup c.in-Some.given own l) ∙ ap (λ (o : Option Parts). part_of (parts_given o) own l) (sym c.in-Some.is)

pub returns-in-None : goal.returns-in-None
returns-in-None c =
    let own = c.args.own.now in
    let l = c.args.library.now.value in
    c.frames-frames.ensures ∙ ap (or_own own) c.in-None.ensures ∙ sym (part_of-lookup c.in-Some.given own l) ∙ ap (λ (o : Option Parts). part_of (parts_given o) own l) (sym c.in-Some.is)
