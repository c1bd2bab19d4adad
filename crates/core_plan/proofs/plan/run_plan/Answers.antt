use Rattle.std.proofs.Common.{◌≡◌, ◌-◌, [], ◌++◌, take, refl, ap, ◌∙◌}
use Rattle.std.proofs.lemmas.Result.{IfOk-weaker}
use Rattle.core_plan.specs.Plan.{IsPlan}
use Rattle.core_plan.specs.Work.{Work, work_of, reach_each, marked_from}
use Rattle.core_plan.proofs.WorkLemmas.{start_known, known_on, known_plan}
use Rattle.core_plan.proofs.plan.run_plan.Goals as goal

pub loop-place-init : goal.loop-place-init
loop-place-init c =
    start_known c.args.records.now c.args.program.now (work_of c.reach_each.new.progress)
    (c.in_ok-reach_each.ensures ∙ ap (λ names. reach_each c.args.records.now names (work_of c.in_ok-progress.progress)) c.as_slice.ensures
    ∙ ap (reach_each c.args.records.now c.args.program.now.refs) c.in_ok-progress.ensures)

pub loop-place-preserved : goal.loop-place-preserved
loop-place-preserved c =
    let left : Work = record { marks = c.loop-place.progress.marks.items; waiting = c.pop.new.self.items } in
    (known_on c.args.records.now c.args.program.now (work_of c.loop-place.progress) left (work_of c.follow.new.progress) c.in-Some.place
    c.loop-place.invariant refl c.in-Some.ensures.items c.in_ok-follow.ensures).0

pub loop-place-smaller : goal.loop-place-smaller
loop-place-smaller c =
    let left : Work = record { marks = c.loop-place.progress.marks.items; waiting = c.pop.new.self.items } in
    (known_on c.args.records.now c.args.program.now (work_of c.loop-place.progress) left (work_of c.follow.new.progress) c.in-Some.place
    c.loop-place.invariant refl c.in-Some.ensures.items c.in_ok-follow.ensures).1

pub returns : goal.returns
returns c =
    let none : c.loop-place.progress.waiting.items ≡ [] =
    c.in_default.ensures.items
    ∙ ap (λ ps. ps ++ []) (c.in_default.ensures.rest ∙ ap (λ n. take (n - 1) c.loop-place.progress.waiting.items) c.in_default.ensures.cases.0) in
    IfOk-weaker c.marked.result (λ plan. plan.items ≡ marked_from 0 c.as_slice-2.result.now) (λ plan. IsPlan c.args.records.now c.args.program.now plan.items)
    (λ plan e. known_plan c.args.records.now c.args.program.now (work_of c.loop-place.progress) plan.items c.loop-place.invariant none (e ∙ ap (marked_from 0) c.as_slice-2.ensures.value))
    c.marked.ensures
