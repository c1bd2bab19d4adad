-- The parts of a `quasiquote` form have the leaves of the form.
use Rattle.base_data.specs.declared.span.Span.{Span}
use Rattle.stx_tree.specs.Context.{LeafContext}
use Rattle.stx_tree.specs.Tree.{Tree}
use Rattle.core_quasi.specs.Plan.{PlainQuasi, PlainQuasis}
use Rattle.core_quasi.specs.Quasi.{quasi}
use Rattle.core_quasi.specs.Words.{WordOf}
use Rattle.law_invariant_expansion.proofs.Quasi as quasis
use Rattle.law_fresh.specs.Leaves.{TreeHolds, leaves}
use Rattle.law_fresh.proofs.Closed.{leaves-closed}
use Rattle.law_fresh.proofs.Trees.{OkHolds}

module _ (P : LeafContext → Type 0) where
  abbrev pub QuasiHolds : PlainQuasi → Type 0
  QuasiHolds = quasis.QuasiHolds (leaves P) (leaves-closed P)

  abbrev pub QuasisHold : PlainQuasis → Type 0
  QuasisHold = quasis.QuasisHold (leaves P) (leaves-closed P)

  pub quasi-holds : (w : WordOf) (t form : Tree) (place : Span) → TreeHolds P t → OkHolds QuasiHolds (quasi w t form place)
  quasi-holds w t form place h = quasis.quasi-holds (leaves P) (leaves-closed P) w t form place h
