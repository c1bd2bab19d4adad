-- One step of taking the first elements.
use Rattle.std.proofs.Common.{◌≡◌, ℕ, zero, suc, ◌+◌, ◌-◌, ◌<◌, List, [], ◌∷◌, ◌++◌, length, Option, None, Some, Bool, true, false, refl, ap, ◌∙◌, arith}
use Rattle.std.specs.Prelude.{if◌then◌else◌}
use Rattle.stx_tree.specs.Tree.{Tree, atom, leaf, pair, vector}
use Rattle.core_shapes.specs.Lists.{split_first}
use Rattle.core_shapes.specs.declared.lists.Split.{Split}
use Rattle.eval_value.specs.declared.cell.Cell.{Cell}
use Rattle.eval_value.specs.declared.value.Value.{Value}
use Rattle.eval_value.specs.declared.value.Value.TheVariants as value
use Rattle.eval_pattern.specs.Values.{stored_pair}
use Rattle.eval_pattern.specs.Front.{has_room, fronted, store_front, tree_front}

module _ (cells : List Cell) (limit : Option ℕ) (done : List Value) (v : Value) where
  pub store_full : (n : ℕ) → has_room limit (length done) ≡ false → store_front cells n limit done v ≡ fronted done v
  store_full zero h = refl
  store_full (suc n) h = rw h refl

  pub store_ends : (n : ℕ) → stored_pair cells v ≡ None → store_front cells n limit done v ≡ fronted done v
  store_ends zero h = refl
  store_ends (suc n) h = rw h (both (has_room limit (length done)))
    where
      both : (b : Bool) → (if b then fronted done v else fronted done v) ≡ fronted done v
      both true = refl
      both false = refl

  pub store_on : (count i : ℕ) (x rest : Value) → i < count → has_room limit (length done) ≡ true → stored_pair cells v ≡ Some (x, rest)
      → store_front cells (count - i) limit done v ≡ store_front cells (count - (i + 1)) limit (done ++ x ∷ []) rest
  store_on count i x rest below h e =
      let k : count - i ≡ suc (count - (i + 1)) = omega arith in
      ap (λ n. store_front cells n limit done v) k ∙ rw (h, e) refl

module _ (limit : Option ℕ) (done : List Value) where
  pub tree_full : (t : Tree) → has_room limit (length done) ≡ false → tree_front limit done t ≡ fronted done (value.Syn t)
  tree_full (atom s a) h = refl
  tree_full (leaf s x c) h = refl
  tree_full (pair s a d) h = rw h refl
  tree_full (vector s d) h = refl

  pub tree_ends : (t : Tree) → split_first t ≡ None → tree_front limit done t ≡ fronted done (value.Syn t)
  tree_ends (atom s a) h = refl
  tree_ends (leaf s x c) h = refl
  tree_ends (pair s a d) h = absurd (cc)
  tree_ends (vector s d) h = refl

  pub tree_on : (t : Tree) (p : Split) → has_room limit (length done) ≡ true → split_first t ≡ Some p
      → tree_front limit done t ≡ tree_front limit (done ++ value.Syn p.first ∷ []) p.rest
  tree_on (atom s a) p h e = absurd (cc)
  tree_on (leaf s x c) p h e = absurd (cc)
  tree_on (pair s a d) p h e =
      let f : record { first = a; rest = d } ≡ p = cc in
      rw h (ap (λ (q : Split). tree_front limit (done ++ value.Syn q.first ∷ []) q.rest) f)
  tree_on (vector s d) p h e = absurd (cc)
