-- What holds of what is made next, and of the elements of a list.
use Rattle.std.proofs.Common.{List}
use Rattle.base_data.specs.Elements.{Each}
use Rattle.stx_tree.specs.Tree.{Tree}
use Rattle.core_shapes.specs.Lists.{proper_elements}
use Rattle.law_invariants.specs.Invariant.{OptionHolds}
use Rattle.law_invariant_expansion.proofs.Shapes as shapes
use Rattle.law_readable.specs.Readable.{ReadableTree, readable}
use Rattle.law_readable.proofs.Steady.{readable-closed}
pub use Rattle.law_invariant_expansion.proofs.Shapes.{then-holds, some-holds, if-holds, all-of-holds}

pub proper-holds : (t : Tree) → ReadableTree t → OptionHolds (λ (ts : List Tree). Each ReadableTree ts) (proper_elements t)
proper-holds t h = shapes.proper-holds readable readable-closed t h
