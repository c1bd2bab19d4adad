use Rattle.std.proofs.Common.{sym}
use Rattle.run_library.proofs.NameLemmas.{named_on, not_asked, named_here, named_end}
use Rattle.run_library.proofs.records.Records.sought.Goals as goal
use Rattle.run_library.proofs.records.Records.sought.Goals.{then-mark+in_default, else-mark}

pub returns-in-Some : goal.returns-in-Some
returns-in-Some c =
    sym (named_here c.args.name.now c.args.self.now c.args.needs.now c.loop-place.place _ c.in-Some.record.now c.loop-place-test.true c.if-mark.true (sym c.in-Some.ensures) c.loop-place.invariant)

pub loop-place-preserved : goal.loop-place-preserved
loop-place-preserved c =
    elim c.if-mark.branch [
      | then-mark+in_default w ↦
          named_on c.args.name.now c.args.self.now c.args.needs.now c.loop-place.place _ c.loop-place-test.true w.if-mark.true (sym w.in_default.ensures) c.loop-place.invariant
      | else-mark w ↦
          not_asked c.args.name.now c.args.self.now c.args.needs.now c.loop-place.place _ c.loop-place-test.true w.if-mark.false c.loop-place.invariant
    ]

pub returns : goal.returns
returns c = sym (named_end c.args.name.now c.args.self.now c.args.needs.now c.loop-place.place _ c.loop-place-test.false c.loop-place.invariant)
