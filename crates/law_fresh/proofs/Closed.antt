-- What evaluation makes has the leaves of what it is made of.
use Rattle.std.proofs.Common.{◌≡◌, ℕ, None, Some, Result, Ok, chars, subst}
use Rattle.base_data.specs.Datum.{PlainDatum}
use Rattle.base_data.specs.declared.fault.Bare.{Bare}
use Rattle.base_data.specs.declared.library.LibName.{LibName}
use Rattle.stx_tree.specs.Context.{LeafContext}
use Rattle.stx_tree.specs.Leaves.{strip}
use Rattle.stx_tree.specs.Measures.{within}
use Rattle.stx_tree.specs.Tree.{Tree, pair, rest_of, list_of, vector_of}
use Rattle.law_invariants.specs.Closed.{IsClosed}
use Rattle.law_invariants.specs.Closed as invariant
use Rattle.law_invariants.specs.Invariant.{DatumHolds}
use Rattle.law_invariants.proofs.Eachs.{each_all}
use Rattle.law_invariants.proofs.Trees.{any_datum}
use Rattle.law_fresh.specs.Leaves.{TreeHolds, leaves}
use Rattle.law_fresh.specs.Names.{FreshRises}
use Rattle.law_fresh.proofs.Trees.{OkHolds, rest_holds, list_of_holds, vector_of_holds, within_holds}
use Rattle.law_fresh.proofs.Wider.{leaves_wider}

module _ (P : LeafContext → Type 0) where
  made : (t u : Tree) → TreeHolds P t → within t ≡ Ok u → TreeHolds P u
  made t u h e = subst (λ (r : Result Tree Bare). OkHolds (TreeHolds P) r) e (within_holds P t h)

  any : (d : PlainDatum) → DatumHolds (leaves P) d
  any d = any_datum (leaves P) (λ x. tt) (λ s. tt) d

  pub leaves-closed : IsClosed (leaves P)
  leaves-closed = record {
    nil = tt;
    booleans = λ b. tt;
    integers = λ z e. tt;
    characters = λ n e. tt;
    scalar_values = λ c h. tt;
    strings = λ s h. tt;
    contents = λ s h. tt;
    spellings = λ s h. tt;
    interned = λ b s h. tt;
    unpacked = λ s h. each_all (λ (c : ℕ). Unit {0}) (λ c. tt) (chars s);
    packed = λ cs h. tt;
    appended = λ ss h. tt;
    decimals = λ z. tt;
    numerals = λ s h. tt;
    atom = λ x h. tt;
    renamed = λ s x y c h k. h;
    pair = λ t u w h k e. made (pair None t (rest_of u)) w (h, rest_holds P u k) e;
    list = λ ts t w h k e. made (list_of ts (Some t)) w (list_of_holds P ts (Some t) h k) e;
    vector = λ ts w h e. made (vector_of ts) w (vector_of_holds P ts h) e;
    first = λ s t u h. h.0;
    rest = λ s t u h. h.1;
    elements = λ s t h. h;
    stripped = λ t h. any (strip t);
    constants = λ d h. any d;
  }

pub leaves-rise : (own : LibName) (first : ℕ) (P : ℕ → LeafContext → Type 0) → FreshRises own first P → invariant.Rises own first (λ n. leaves (P n))
leaves-rise own first P rises = record {
  closed = λ n. leaves-closed (P n);
  later = λ m n le. leaves_wider (P m) (P n) (λ c h. rises.later m n c le h);
  temporaries = λ m n low lt. rises.temporary m n low lt;
  code = λ n p A h. h.1;
  template = λ n x A h. h;
}
