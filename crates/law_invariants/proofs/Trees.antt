-- Trees that are made within the limits of a tree, and data where all atoms and symbols are as well as any.
use Rattle.std.proofs.Common.{◌≡◌, ℕ, List, Result, Ok, Err, refl}
use Rattle.base_data.specs.Datum.{PlainDatum, atom, symbol, pair, vector}
use Rattle.base_data.specs.declared.atom.Atom.{Atom}
use Rattle.base_data.specs.declared.fault.Bare.{Bare}
use Rattle.stx_tree.specs.Measures.{within}
use Rattle.stx_tree.specs.Tree.{Tree}
use Rattle.law_invariants.specs.Invariant.{Invariant, DatumHolds}

abbrev pub OkHolds : {A E : Type 0} → (A → Type 0) → Result A E → Type 0
OkHolds P (Ok x) = P x
OkHolds P (Err e) = Unit {0}

pub within_all : (T : Tree → Type 0) (t : Tree) → ((u : Tree) → within t ≡ Ok u → T u) → OkHolds T (within t)
within_all T t k = by (within t) refl
  where
    by : (r : Result Tree Bare) → within t ≡ r → OkHolds T r
    by (Ok u) e = k u e
    by (Err f) e = tt

pub any_datum : (I : Invariant) → ((x : Atom) → I.atoms x) → ((s : List ℕ) → I.symbols s) → (d : PlainDatum) → DatumHolds I d
any_datum I x s (atom p a) = x a
any_datum I x s (symbol p t) = s t
any_datum I x s (pair p d e) = (any_datum I x s d, any_datum I x s e)
any_datum I x s (vector p d) = any_datum I x s d
