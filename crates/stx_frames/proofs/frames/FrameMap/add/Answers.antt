use Rattle.std.proofs.Common.{◌≡◌}
use Rattle.stx_frames.specs.Rows.{Row}
use Rattle.stx_frames.specs.Scope.{row_in}
use Rattle.stx_frames.proofs.ScopeLemmas.{added, added_front, added_grown}
use Rattle.stx_frames.proofs.frames.FrameMap.add.Goals as goal

-- the row that is bound
abbrev shared : goal.After-bind → Row
shared c = record { symbol = c.in_ok-symbol.symbol; marks = c.in_ok-marks.marks; label = c.in_ok-label.label }

shared_is : (c : goal.After-bind) → shared c ≡ row_in c.args.row.now
shared_is c = λ i. record { symbol = c.in_ok-symbol.ensures i; marks = c.in_ok-marks.ensures i; label = c.in_ok-label.ensures i }

pub returns-clause-ok : goal.returns-clause-ok
returns-clause-ok c = added c.args.row.now.frame (row_in c.args.row.now) (shared c) c.args.self.now c.bind.new.self (shared_is c) c.bind.result c.bind.ensures.row

pub returns-clause-front : goal.returns-clause-front
returns-clause-front c =
    added_front c.args.row.now.frame (row_in c.args.row.now) (shared c) c.args.self.now c.bind.new.self (shared_is c) c.bind.result c.bind.ensures.row c.bind.ensures.err

pub returns-clause-grown : goal.returns-clause-grown
returns-clause-grown c =
    added_grown c.args.row.now.frame (row_in c.args.row.now) (shared c) c.args.self.now c.bind.new.self (shared_is c) c.bind.result c.bind.ensures.row c.bind.ensures.err
