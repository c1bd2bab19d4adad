-- A tree that is read of a value is made of the trees, atoms and symbols of the value and of the cells.
use Rattle.std.proofs.Common.{◌≡◌, ◌-◌, ℕ, zero, suc, List, [], ◌∷◌, ◌++◌, Option, None, Some, Bool, true, false, Result, Ok, Err, length, chars, nat_le, subst, if◌then◌else◌}
use Rattle.base_data.proofs.ElementLemmas.{each-and}
use Rattle.base_data.specs.Elements.{Each}
use Rattle.base_data.specs.Gives.{◌>>=◌}
use Rattle.base_data.specs.declared.fault.Bare.{Bare}
use Rattle.stx_tree.specs.Measures.{within}
use Rattle.stx_tree.specs.Tree as tree
use Rattle.stx_tree.specs.Tree.{Tree, rest_of, vector_of}
use Rattle.eval_value.specs.Cells.{pair_at, vector_at, string_at}
use Rattle.eval_value.specs.ToSyntax.{Shown, tree, text, both, elements, refused, pair_shown, vector_shown, string_shown, shown, fuel_spent, Reading, spend, leaving, pair_before, vector_read, elements_read, level, read_to, to_syntax}
use Rattle.eval_value.specs.declared.value.Value.{Value}
use Rattle.eval_value.specs.declared.value.Value.TheVariants as value
use Rattle.eval_value.specs.declared.cell.Cell.{Cell}
use Rattle.law_invariants.specs.Holds.{ValueHolds, ValuesHold, CellsHold}
use Rattle.law_invariants.proofs.Trees.{OkHolds, within_all}
use Rattle.law_invariants.proofs.Reading.{PairOr, ValuesOr, TextOr, pair_at_holds, vector_at_holds, string_at_holds}
use Rattle.law_invariants.specs.Invariant.{Invariant}
use Rattle.law_invariants.specs.Closed.{IsClosed}
use Rattle.base_data.specs.declared.atom.Atom.TheVariants as a

module _ (I : Invariant) where
  abbrev pub ReadHolds : Reading Tree → Type 0
  ReadHolds (Ok p) = I.trees p.0
  ReadHolds (Err f) = Unit {0}

  abbrev ReadAll : Reading (List Tree) → Type 0
  ReadAll (Ok p) = Each I.trees p.0
  ReadAll (Err f) = Unit {0}

  abbrev Reads : (Value → ℕ → Reading Tree) → Type 0
  Reads read = (v : Value) (fuel : ℕ) → ValueHolds I v → ReadHolds (read v fuel)

  abbrev ShownHolds : Shown → Type 0
  ShownHolds (tree t) = I.trees t
  ShownHolds (text s) = I.texts s
  ShownHolds (both x y) = ValueHolds I x × ValueHolds I y
  ShownHolds (elements xs) = ValuesHold I xs
  ShownHolds (refused f) = Unit {0}

  spend-tree : (cost : ℕ) (next : ℕ → Reading Tree) (fuel : ℕ) → ((left : ℕ) → ReadHolds (next left)) → ReadHolds (spend cost next fuel)
  unfolding spend
  spend-tree cost next fuel k = by_test (nat_le cost fuel)
    where
      by_test : (b : Bool) → ReadHolds (if b then next (fuel - cost) else Err fuel_spent)
      by_test true = k (fuel - cost)
      by_test false = tt

  spend-all : (cost : ℕ) (next : ℕ → Reading (List Tree)) (fuel : ℕ) → ((left : ℕ) → ReadAll (next left)) → ReadAll (spend cost next fuel)
  unfolding spend
  spend-all cost next fuel k = by_test (nat_le cost fuel)
    where
      by_test : (b : Bool) → ReadAll (if b then next (fuel - cost) else Err fuel_spent)
      by_test true = k (fuel - cost)
      by_test false = tt

  left-with : (fuel : ℕ) (r : Result Tree Bare) → OkHolds I.trees r → ReadHolds (leaving fuel r)
  left-with fuel (Ok t) h = h
  left-with fuel (Err f) h = tt

  module _ (closed : IsClosed I) where
    before-holds : (t : Tree) (r : Reading Tree) → I.trees t → ReadHolds r → ReadHolds (pair_before t r)
    before-holds t (Ok p) h k = left-with p.1 (within (tree.pair None t (rest_of p.0))) (within_all I.trees (tree.pair None t (rest_of p.0)) (λ u e. closed.pair t p.0 u h k e))
    before-holds t (Err f) h k = tt

    vector-holds : (r : Reading (List Tree)) → ReadAll r → ReadHolds (vector_read r)
    vector-holds (Ok p) h = left-with p.1 (within (vector_of p.0)) (within_all I.trees (vector_of p.0) (λ u e. closed.vector p.0 u h e))
    vector-holds (Err f) h = tt

    elements-read : (read : Value → ℕ → Reading Tree) → Reads read → (done : List Tree) (xs : List Value) (fuel : ℕ) → Each I.trees done → ValuesHold I xs → ReadAll (elements_read read done xs fuel)
    unfolding elements_read
    elements-read read reads done [] fuel h k = h
    elements-read read reads done (x ∷ xs) fuel h k =
        spend-all 1 (λ left. read x left >>= λ p. elements_read read (done ++ p.0 ∷ []) xs p.1) fuel (λ left. by_tree (read x left) (reads x left k.0) (λ ts n j. elements-read read reads ts xs n j k.1))
      where
        by_tree : (r : Reading Tree) → ReadHolds r → ((ts : List Tree) (n : ℕ) → Each I.trees ts → ReadAll (elements_read read ts xs n)) → ReadAll (r >>= λ p. elements_read read (done ++ p.0 ∷ []) xs p.1)
        by_tree (Ok p) j again = again (done ++ p.0 ∷ []) p.1 (each-and I.trees done p.0 h j)
        by_tree (Err f) j again = tt

    level-holds : (read : Value → ℕ → Reading Tree) → Reads read → (x : Shown) (fuel : ℕ) → ShownHolds x → ReadHolds (level read x fuel)
    unfolding level
    level-holds read reads (tree t) fuel h = h
    level-holds read reads (text s) fuel h = spend-tree (length (chars s)) _ fuel (λ left. closed.atom (a.Str s) (closed.strings s h))
    level-holds read reads (both x y) fuel h = spend-tree 1 (λ left. read x left >>= λ p. pair_before p.0 (read y p.1)) fuel (λ left. by_tree (read x left) (reads x left h.0))
      where
        by_tree : (r : Reading Tree) → ReadHolds r → ReadHolds (r >>= λ p. pair_before p.0 (read y p.1))
        by_tree (Ok p) j = before-holds p.0 (read y p.1) j (reads y p.1 h.1)
        by_tree (Err f) j = tt
    level-holds read reads (elements xs) fuel h = vector-holds (elements_read read [] xs fuel) (elements-read read reads [] xs fuel tt h)
    level-holds read reads (refused f) fuel h = tt

    module _ (cells : List Cell) (holds : CellsHold I cells) where
      pair-shown : (o : Option (Value × Value)) → PairOr I o → ShownHolds (pair_shown o)
      pair-shown None h = tt
      pair-shown (Some p) h = h

      vector-shown : (o : Option (List Value)) → ValuesOr I o → ShownHolds (vector_shown o)
      vector-shown None h = tt
      vector-shown (Some xs) h = h

      string-shown : (o : Option (List ℕ)) → TextOr I o → ShownHolds (string_shown o)
      string-shown None h = tt
      string-shown (Some s) h = h

      shown-holds : (v : Value) → ValueHolds I v → ShownHolds (shown cells v)
      shown-holds (value.Syn t) h = h
      shown-holds (value.Pair p) h = pair-shown (pair_at cells p.0) (pair_at_holds I cells holds p.0)
      shown-holds (value.Vector p) h = vector-shown (vector_at cells p.0) (vector_at_holds I cells holds p.0)
      shown-holds (value.Str p) h = string-shown (string_at cells p.0) (string_at_holds I cells holds p.0)
      shown-holds value.Unspecified h = tt
      shown-holds (value.Atom x) h = closed.atom x h
      shown-holds (value.Symbol x) h = tt
      shown-holds (value.Closure c p) h = tt
      shown-holds (value.Prim op) h = tt
      shown-holds (value.Transformer p) h = tt

      read-to : (levels : ℕ) → Reads (read_to levels cells)
      unfolding read_to
      read-to zero v fuel h = tt
      read-to (suc levels) v fuel h = level-holds (read_to levels cells) (read-to levels) (shown cells v) fuel (shown-holds v h)

      pub read-holds : (v : Value) (fuel : ℕ) → ValueHolds I v → ReadHolds (to_syntax cells v fuel)
      unfolding to_syntax
      read-holds v fuel h = read-to (suc fuel) v fuel h

    pub was-read : (cells : List Cell) (v : Value) (fuel left : ℕ) (t : Tree) → CellsHold I cells → ValueHolds I v → to_syntax cells v fuel ≡ Ok (t, left) → I.trees t
    was-read cells v fuel left t h k e = subst ReadHolds e (read-holds cells h v fuel k)
