-- The first elements of a list, and what is behind them. The pairs of the store come first, and then those of a syntax tree:
-- a tree holds nothing of the store.
use Rattle.std.specs.Prelude.{ℕ, zero, suc, nat_lt, Bool, true, List, [], ◌∷◌, ◌++◌, length, Option, None, Some, if◌then◌else◌}
use Rattle.stx_tree.specs.Tree.{Tree, atom, leaf, pair, vector}
use Rattle.eval_value.specs.declared.cell.Cell.{Cell}
use Rattle.eval_value.specs.declared.value.Value.{Value}
use Rattle.eval_value.specs.declared.value.Value.TheVariants as value
use Rattle.eval_pattern.specs.Values.{stored_pair}
use Rattle.eval_pattern.specs.declared.front.Front.{Front}

-- whether one more is wanted than so many; without a limit all are
abbrev pub has_room : Option ℕ → ℕ → Bool
has_room None n = true
has_room (Some limit) n = nat_lt n limit

abbrev pub fronted : List Value → Value → Front
fronted done v = record { elements = done; rest = v }

abbrev pub on_pair : Option (Value × Value) → Front → (Value → Value → Front) → Front
on_pair None other go = other
on_pair (Some p) other go = go p.0 p.1

-- So many pairs of the store are looked at. In whole cells each pair lies above its cdr, so there are no more than cells.
abbrev pub store_front : List Cell → ℕ → Option ℕ → List Value → Value → Front
store_front cells zero limit done v = fronted done v
store_front cells (suc left) limit done v =
    if has_room limit (length done)
    then on_pair (stored_pair cells v) (fronted done v) (λ x rest. store_front cells left limit (done ++ x ∷ []) rest)
    else fronted done v

abbrev pub tree_front : Option ℕ → List Value → Tree → Front
tree_front limit done (atom s a) = fronted done (value.Syn (atom s a))
tree_front limit done (leaf s x c) = fronted done (value.Syn (leaf s x c))
tree_front limit done (pair s a d) =
    if has_room limit (length done) then tree_front limit (done ++ value.Syn a ∷ []) d else fronted done (value.Syn (pair s a d))
tree_front limit done (vector s d) = fronted done (value.Syn (vector s d))

abbrev pub further : Option ℕ → List Value → Value → Front
further limit done (value.Syn t) = tree_front limit done t
further limit done v = fronted done v

abbrev pub front : List Cell → Option ℕ → Value → Front
front cells limit v =
    let f = store_front cells (length cells) limit [] v in
    further limit f.elements f.rest
