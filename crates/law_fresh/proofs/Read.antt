-- A tree that is read of a value has the leaves of the value and of the cells.
use Rattle.std.proofs.Common.{◌≡◌, ℕ, List, Ok}
use Rattle.stx_tree.specs.Context.{LeafContext}
use Rattle.stx_tree.specs.Tree.{Tree}
use Rattle.eval_value.specs.ToSyntax.{Reading, to_syntax}
use Rattle.eval_value.specs.declared.value.Value.{Value}
use Rattle.eval_value.specs.declared.cell.Cell.{Cell}
use Rattle.law_invariants.proofs.Read as read
use Rattle.law_fresh.specs.Leaves.{TreeHolds, ValueHolds, CellsHold, leaves}
use Rattle.law_fresh.proofs.Closed.{leaves-closed}

module _ (P : LeafContext → Type 0) where
  abbrev pub ReadHolds : Reading Tree → Type 0
  ReadHolds = read.ReadHolds (leaves P)

  pub read-holds : (cells : List Cell) → CellsHold P cells → (v : Value) (fuel : ℕ) → ValueHolds P v → ReadHolds (to_syntax cells v fuel)
  read-holds cells h v fuel k = read.read-holds (leaves P) (leaves-closed P) cells h v fuel k

  pub was-read : (cells : List Cell) (v : Value) (fuel left : ℕ) (t : Tree) → CellsHold P cells → ValueHolds P v → to_syntax cells v fuel ≡ Ok (t, left) → TreeHolds P t
  was-read cells v fuel left t h k e = read.was-read (leaves P) (leaves-closed P) cells v fuel left t h k e
