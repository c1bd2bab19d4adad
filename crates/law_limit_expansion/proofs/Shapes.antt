-- What holds of what is made next.
use Rattle.std.proofs.Common.{Result}
use Rattle.base_data.specs.Gives.{◌>>=◌}
use Rattle.stx_tree.specs.Tree.{Tree}
use Rattle.law_invariants.proofs.Trees.{OkHolds}
use Rattle.law_invariant_expansion.proofs.Shapes as shapes
use Rattle.law_limits.specs.Lawful.{IsLawful}

module _ (T : Tree → Type 0) (lawful : IsLawful T) where
  pub then-holds : {A B E : Type 0} (P : A → Type 0) (Q : B → Type 0) (r : Result A E) (k : A → Result B E) → OkHolds P r → ((a : A) → P a → OkHolds Q (k a)) → OkHolds Q (r >>= k)
  then-holds P Q r k h next = shapes.then-holds P Q r k h next
