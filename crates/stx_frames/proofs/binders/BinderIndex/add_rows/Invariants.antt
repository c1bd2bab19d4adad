use Rattle.std.proofs.Common.{drop}
use Rattle.stx_frames.specs.Binders.{Covers}
use Rattle.stx_frames.proofs.BinderLemmas.{NotedBy}
use Rattle.stx_frames.proofs.binders.BinderIndex.add_rows.Given as goal

abbrev pub invariant-loop-row : goal.invariant-loop-row
invariant-loop-row l = record {
  noted : NotedBy l.self (drop l.row-index l.rows) l.rows;
  kept : Covers l.fn.self l.self;
}
