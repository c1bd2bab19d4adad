-- Rows of lists: what they are at their start, and that they stay.
use Rattle.std.proofs.Common.{◌≡◌, ℕ, zero, suc, List, [], ◌∷◌, Some, length, map, refl, arith}
use Rattle.eval_value.specs.declared.value.Value.{Value}
use Rattle.eval_value.specs.declared.cell.Cell.{Cell}
use Rattle.eval_prims.specs.Chains.{pair_of}
use Rattle.eval_prims.specs.Lists.{nil}
use Rattle.eval_code.specs.State.{WorldState}
use Rattle.law_eval.specs.Kept.{LaterWorld}
use Rattle.law_lists.specs.Runs.{here, next, IsList, AreLists, no_lists, one_list}
use Rattle.law_lists.proofs.RunLemmas.{pair_still}
use Rattle.law_given.proofs.Looking.{later-stay}
use Rattle.law_given_lists.specs.Rows.{Pairs, no_pair, one_pair, AreEmpty, InRows, no_row, one_row, AllLong, first_row, behind_row, rows_of}

pub pairs-later : (s t : WorldState) → LaterWorld s t → {xs ds ls : List Value} → Pairs s.cells xs ds ls → Pairs t.cells xs ds ls
pairs-later s t k no_pair = no_pair
pairs-later s t k (one_pair {x = x} {d = d} {l = l} e r) = one_pair (pair_still s.cells t.cells (later-stay s t k) l x d e) (pairs-later s t k r)

pub rows-later : (s t : WorldState) → LaterWorld s t → {rows : List (List Value)} {ls : List Value} → InRows s.cells rows ls → InRows t.cells rows ls
rows-later s t k (no_row e) = no_row e
rows-later s t k (one_row p r) = one_row (pairs-later s t k p) (rows-later s t k r)

pub rows-none : {cells : List Cell} {l : Value} {ls : List Value} → InRows cells [] (l ∷ ls) → l ≡ nil
rows-none (no_row e) = e.0

-- the first row of lists of which there is a first
pub record Row (cells : List Cell) (row : List Value) (rows : List (List Value)) (l : Value) (ls : List Value) : Type 0 where
  pub x : Value
  pub d : Value
  pub ds : List Value
  pub is : pair_of cells l ≡ Some (x, d)
  pub pairs : Pairs cells row (d ∷ ds) (l ∷ ls)
  pub behind : InRows cells rows (d ∷ ds)

row-of : {cells : List Cell} {row rest : List Value} {rows : List (List Value)} {l : Value} {ls : List Value} → Pairs cells row rest (l ∷ ls) → InRows cells rows rest → Row cells row rows l ls
row-of (one_pair {x = x} {d = d} {ds = ds} e p) r = record { x = x; d = d; ds = ds; is = e; pairs = one_pair e p; behind = r }

pub rows-some : {cells : List Cell} {row : List Value} {rows : List (List Value)} {l : Value} {ls : List Value} → InRows cells (row ∷ rows) (l ∷ ls) → Row cells row rows l ls
rows-some (one_row p r) = row-of p r

-- Lists of one length stand in rows.

all-empty : {cells : List Cell} {xss : List (List Value)} {ls : List Value} → AreLists cells xss ls → AllLong 0 xss → AreEmpty ls
all-empty no_lists l = tt
all-empty (one_list here r) l = (refl, all-empty r l.1)
all-empty (one_list (next {ys = ys} e q) r) l = let wrong : suc (length ys) ≡ 0 = l.0 in absurd (omega (arith, wrong))

-- the cdrs of lists
abbrev Cdrs : List Cell → List (List Value) → List Value → Type 0
Cdrs cells xss ls = (rest : List Value) × Pairs cells (first_row xss) rest ls × AreLists cells (behind_row xss) rest

all-pairs : (n : ℕ) {cells : List Cell} {xss : List (List Value)} {ls : List Value} → AreLists cells xss ls → AllLong (suc n) xss → Cdrs cells xss ls × AllLong n (behind_row xss)
all-pairs n no_lists l = (([], no_pair, no_lists), tt)
all-pairs n (one_list here r) l = let wrong : 0 ≡ suc n = l.0 in absurd (omega (arith, wrong))
all-pairs n (one_list (next {d = d} {ys = ys} e q) r) l =
    let h = all-pairs n r l.1 in
    let long : suc (length ys) ≡ suc n = l.0 in
    ((d ∷ h.0.0, one_pair e h.0.1, one_list q h.0.2), (omega (arith, long), h.1))

pub lists-in-rows : (n : ℕ) {cells : List Cell} {xss : List (List Value)} {ls : List Value} → AreLists cells xss ls → AllLong n xss → InRows cells (rows_of n xss) ls
lists-in-rows zero r l = no_row (all-empty r l)
lists-in-rows (suc n) r l = let h = all-pairs n r l in one_row h.0.1 (lists-in-rows n h.0.2 h.1)

pub one-in-rows : {cells : List Cell} {xs : List Value} {l : Value} → IsList cells xs l → InRows cells (map (λ x. x ∷ []) xs) (l ∷ [])
one-in-rows here = no_row (refl, tt)
one-in-rows (next e r) = one_row (one_pair e no_pair) (one-in-rows r)
