use Rattle.std.proofs.Common.{◌≡◌, [], drop}
use Rattle.run_xref.specs.Binders.{with_binders}
use Rattle.run_xref.proofs.binders.binders_of.Given as goal

abbrev pub invariant-loop-link : goal.invariant-loop-link
invariant-loop-link l = with_binders l.files l.binders.entries (drop l.link-index l.links) ≡ with_binders l.files [] l.links
