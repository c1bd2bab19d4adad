-- Evaluation keeps such a law of trees.
use Rattle.std.proofs.Common.{ℕ, None, chars}
use Rattle.base_data.specs.Datum.{PlainDatum}
use Rattle.stx_tree.specs.Leaves.{strip}
use Rattle.stx_tree.specs.Tree.{Tree}
use Rattle.law_invariants.specs.Closed.{IsClosed}
use Rattle.law_invariants.specs.Invariant as invariant
use Rattle.law_invariants.specs.Steady.{IsSteady}
use Rattle.law_invariants.proofs.Eachs.{each_all}
use Rattle.law_invariants.proofs.Trees.{any_datum}
use Rattle.law_limits.specs.Holds.{trees}
use Rattle.law_limits.specs.Lawful.{IsLawful}

module _ (T : Tree → Type 0) (lawful : IsLawful T) where
  any : (d : PlainDatum) → invariant.DatumHolds (trees T) d
  any d = any_datum (trees T) (λ x. tt) (λ s. tt) d

  pub trees-closed : IsClosed (trees T)
  trees-closed = record {
    nil = tt;
    booleans = λ b. tt;
    integers = λ z e. tt;
    characters = λ n e. tt;
    scalar_values = λ c h. tt;
    strings = λ s h. tt;
    contents = λ s h. tt;
    spellings = λ s h. tt;
    interned = λ b s h. tt;
    unpacked = λ s h. each_all (λ (c : ℕ). Unit {0}) (λ c. tt) (chars s);
    packed = λ cs h. tt;
    appended = λ ss h. tt;
    decimals = λ z. tt;
    numerals = λ s h. tt;
    atom = λ x h. lawful.atoms None x;
    renamed = λ s x y c h k. lawful.leaves None y c;
    pair = λ t u w h k e. lawful.within _ w e;
    list = λ ts t w h k e. lawful.within _ w e;
    vector = λ ts w h e. lawful.within _ w e;
    first = lawful.first;
    rest = lawful.rest;
    elements = lawful.elements;
    stripped = λ t h. any (strip t);
    constants = λ d h. any d;
  }

  pub trees-steady : IsSteady (trees T)
  trees-steady = record { closed = trees-closed; temporaries = λ n. lawful.leaves None _ _; changed = lawful.changed; code = λ p A h. h; clauses = λ p A B f h. f h; template = λ x A h. h; templates = λ x A B f h. f h }
