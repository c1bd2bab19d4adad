use Rattle.std.proofs.Common.{arith, false, get_or, ap, ◌∙◌}
use Rattle.std.specs.Prelude.{◌||◌}
use Rattle.load_files.specs.Found.{marks_with}
use Rattle.load_files.proofs.MarkLemmas.{marks_on, marks_end}
use Rattle.load_files.proofs.refer.with_needs.Goals as goal

pub returns : goal.returns
returns c = marks_end c.args.needs.now c.loop-place.place c.args.found.now c.loop-place.more (marks_with 0 c.args.needs.now c.args.found.now) (omega arith) c.loop-place.invariant

pub loop-place-preserved : goal.loop-place-preserved
loop-place-preserved c =
    marks_on c.args.needs.now c.loop-place.place c.args.found.now c.loop-place.more (marks_with 0 c.args.needs.now c.args.found.now) c.either.result c.push.new.self
    (omega arith) (c.either.ensures ∙ ap (λ b. get_or c.args.needs.now c.loop-place.place false || b) c.is_needed_by.ensures) c.in_ok-push.ensures.ok c.loop-place.invariant
