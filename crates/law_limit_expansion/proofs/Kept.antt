-- Expansion keeps such a law of trees.
use Rattle.std.proofs.Common.{None}
use Rattle.stx_tree.specs.Tree.{Tree}
use Rattle.core_records.specs.Names.{record_uid}
use Rattle.law_invariant_expansion.specs.Kept.{IsBuilt, IsKeptByExpansion}
use Rattle.law_limits.specs.Holds.{trees}
use Rattle.law_limits.specs.Lawful.{IsLawful}
use Rattle.law_limits.proofs.Steady.{trees-closed, trees-steady}
use Rattle.law_limits.proofs.Trees.{strip_holds}
use Rattle.law_limit_expansion.proofs.Records.{record-holds}

module _ (T : Tree → Type 0) (lawful : IsLawful T) where
  trees-built : IsBuilt (trees T)
  trees-built = record {
    closed = trees-closed T lawful;
    spanned = lawful.spanned;
    unspanned = lawful.unspanned;
    constants = strip_holds T lawful;
    symbols = λ s x c h. tt;
  }

  pub trees-kept : IsKeptByExpansion (trees T)
  trees-kept = record {
    built = trees-built;
    steady = trees-steady T lawful;
    insert = λ k. lawful.leaves None _ _;
    ellipsis = lawful.leaves None _ _;
    records = λ fs t f place own count h. record-holds T lawful fs t f place (record_uid own t count);
    clauses = λ p A m h. h;
    inserts = λ vs A d h. h;
    templates = λ c t x A h e k. k;
  }
