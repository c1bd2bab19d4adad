use Rattle.std.proofs.Common.{drop, arith}
use Rattle.std.proofs.lemmas.List.{drop_all}
use Rattle.stx_frames.proofs.BinderLemmas.{noted_first, noted_step, noted_all, covers_refl, covers_trans}
use Rattle.stx_frames.proofs.binders.BinderIndex.add_rows.Goals as goal

pub loop-row-init : goal.loop-row-init
loop-row-init c = record { noted = noted_first c.args.self.now c.args.rows.now; kept = covers_refl c.args.self.now }

pub loop-row-preserved : goal.loop-row-preserved
loop-row-preserved c =
    let l = c.loop-row in
    record {
      noted = noted_step l.self c.add.new.self c.args.rows.now l.row-index c.row-item.result c.loop-row-test.true c.row-item.is c.add.ensures.kept c.in_ok-add.ensures.there l.invariant.noted;
      kept = covers_trans c.args.self.now l.self c.add.new.self l.invariant.kept c.add.ensures.kept;
    }

pub returns-in_err-add-clause-kept : goal.returns-in_err-add-clause-kept
returns-in_err-add-clause-kept c = covers_trans c.args.self.now c.loop-row.self c.add.new.self c.loop-row.invariant.kept c.add.ensures.kept

pub returns-clause-there : goal.returns-clause-there
returns-clause-there c = noted_all c.loop-row.self (drop c.loop-row.row-index c.args.rows.now) c.args.rows.now (drop_all c.loop-row.row-index c.args.rows.now (omega arith)) c.loop-row.invariant.noted
