-- What an invariant says of tables and of variables, where it is one of leaves.
use Rattle.stx_tree.specs.Context.{LeafContext}
use Rattle.eval_code.specs.Variables.{Entries}
use Rattle.law_invariants.proofs.Variables as variables
use Rattle.law_fresh.specs.Leaves.{leaves}
pub use Rattle.law_invariants.proofs.Variables.{looked_up}

abbrev pub EntriesHold : (P : LeafContext → Type 0) → Entries → Type 0
EntriesHold P = variables.EntriesHold (leaves P)
