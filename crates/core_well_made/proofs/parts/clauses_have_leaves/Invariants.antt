use Rattle.std.proofs.Common.{◌≡◌, drop}
use Rattle.core_language.specs.CoreView.{clauses}
use Rattle.core_well_made.specs.Parts.{have_leaves}
use Rattle.core_well_made.proofs.parts.clauses_have_leaves.Given as goal

abbrev pub invariant-loop-clause : goal.invariant-loop-clause
invariant-loop-clause l = have_leaves (clauses (drop l.clause-index l.list)) ≡ have_leaves (clauses l.list)
