-- The template and the inserts of a `quasisyntax` form have the leaves of the form, or such as the implementation makes.
use Rattle.std.proofs.Common.{ℕ, [], ◌∷◌, Result, Ok, Err}
use Rattle.base_data.specs.declared.fault.Fault.{Fault}
use Rattle.base_data.specs.Elements.{Each}
use Rattle.base_data.specs.declared.span.Span.{Span}
use Rattle.stx_tree.specs.Context.{LeafContext}
use Rattle.stx_tree.specs.Tree.{Tree}
use Rattle.core_quasi.specs.QuasiSyntax.{Looked, core_mark, quasi_syntax}
use Rattle.core_quasi.specs.declared.quasi_syntax.Insert.{Insert}
use Rattle.core_quasi.specs.declared.quasi_syntax.QuasiSyntax.{QuasiSyntax}
use Rattle.base_data.proofs.ElementLemmas.{each-implied}
use Rattle.law_invariant_expansion.proofs.QuasiSyntax as quasis
use Rattle.law_fresh.specs.Leaves.{TreeHolds, leaves}
use Rattle.law_fresh.proofs.Trees.{OkHolds}
use Rattle.law_fresh_expansion.proofs.Templates.{leaves-built}

abbrev InsertHolds : (LeafContext → Type 0) → Insert → Type 0
InsertHolds P i = TreeHolds P i.leaf × TreeHolds P i.expression

pub quasi-syntax-holds : (P : LeafContext → Type 0) → ((k : ℕ) → P (record { marks = core_mark k ∷ []; stamps = [] })) → (w : Looked) → TreeHolds P w.dots → (t form : Tree) (place : Span) → TreeHolds P t
    → OkHolds (λ (q : QuasiSyntax). TreeHolds P q.template × Each (InsertHolds P) q.inserts) (quasi_syntax w t form place)
quasi-syntax-holds P of-core w dots t form place h = by (quasi_syntax w t form place) (quasis.quasi-syntax-holds (leaves P) (leaves-built P) of-core w dots t form place h)
  where
    by : (r : Result QuasiSyntax Fault) → OkHolds (quasis.SyntaxHolds (leaves P) (leaves-built P) of-core w dots) r → OkHolds (λ (q : QuasiSyntax). TreeHolds P q.template × Each (InsertHolds P) q.inserts) r
    by (Ok q) k = (k.0, each-implied (quasis.InsertHolds (leaves P) (leaves-built P) of-core) (InsertHolds P) (λ i j. (j.0, j.1.0)) q.inserts k.1)
    by (Err f) k = tt
