-- Trees that are built are within the limits.
use Rattle.std.proofs.Common.{◌≡◌, Result, Ok, Err, refl}
use Rattle.base_data.specs.declared.fault.Bare.{Bare}
use Rattle.law_fresh.proofs.Trees.{OkHolds}
use Rattle.law_limits.specs.Holds.{DatumHolds}
use Rattle.law_limits.specs.Lawful.{IsLawful}
use Rattle.stx_tree.specs.Leaves.{strip}
use Rattle.stx_tree.specs.Measures.{within}
use Rattle.stx_tree.specs.Tree.{Tree}

module _ (T : Tree → Type 0) (lawful : IsLawful T) where
  pub within_holds : (t : Tree) → OkHolds T (within t)
  within_holds t = by (within t) refl
    where
      by : (r : Result Tree Bare) → within t ≡ r → OkHolds T r
      by (Ok u) e = lawful.within t u e
      by (Err f) e = tt

  -- the datum of a tree
  pub strip_holds : (t : Tree) → T t → DatumHolds T (strip t)
  strip_holds t h = (t, (h, refl))
