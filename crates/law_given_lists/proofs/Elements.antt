-- A list has no more elements than there are cells: its pairs lie in cells that differ.
use Rattle.std.proofs.Common.{◌≡◌, ◌≤◌, ◌<◌, ◌+◌, ℕ, zero, suc, List, [], ◌∷◌, Option, Some, None, length, refl, ap, sym, subst, ◌∙◌, arith, slice_get, if◌then◌else◌}
use Rattle.base_region.specs.declared.region.Place.{Place}
use Rattle.eval_value.specs.Cells.{pair_in}
use Rattle.eval_value.specs.declared.value.Value.{Value}
use Rattle.eval_value.specs.declared.value.Value.TheVariants as value
use Rattle.eval_value.specs.declared.cell.Cell.{Cell}
use Rattle.eval_value.specs.declared.cell.Cell.TheVariants as cell
use Rattle.eval_prims.specs.Chains.{pair_of, list_elements, Chain, linked, chain_on, chain_to, chain, is_nil}
use Rattle.eval_prims.specs.Lists.{nil}
use Rattle.law_lists.specs.Runs.{here, next, IsList}
use Rattle.law_given.proofs.ForEach.{chain-of-nil}
use Rattle.law_given.proofs.MapOne.{list-none, list-some}

-- the value that a place is in, and the pair there
abbrev is_one : Cell → ℕ
is_one (cell.Pair x y) = 1
is_one (cell.Vector xs) = 0
is_one (cell.Str text) = 0
is_one (cell.Scope es parent) = 0
is_one (cell.Binds bs parent) = 0
is_one (cell.Transformer x) = 0

-- so many pairs
abbrev count : List Cell → ℕ
count [] = 0
count (c ∷ cs) = is_one c + count cs

one-at-most : (c : Cell) → is_one c ≤ 1
one-at-most (cell.Pair x y) = omega arith
one-at-most (cell.Vector xs) = omega arith
one-at-most (cell.Str text) = omega arith
one-at-most (cell.Scope es parent) = omega arith
one-at-most (cell.Binds bs parent) = omega arith
one-at-most (cell.Transformer x) = omega arith

count-least : (cells : List Cell) → count cells ≤ length cells
count-least [] = omega arith
count-least (c ∷ cs) = let h = count-least cs in let k = one-at-most c in omega (arith, h, k)

-- the cells without the one at a place
abbrev erased : List Cell → ℕ → List Cell
erased [] p = []
erased (c ∷ cs) zero = cell.Vector [] ∷ cs
erased (c ∷ cs) (suc p) = c ∷ erased cs p

count-pair : (c : Cell) (y d : Value) → pair_in (Some c) ≡ Some (y, d) → is_one c ≡ 1
count-pair (cell.Pair a b) y d e = refl
count-pair (cell.Vector xs) y d e = absurd (cc)
count-pair (cell.Str text) y d e = absurd (cc)
count-pair (cell.Scope es parent) y d e = absurd (cc)
count-pair (cell.Binds bs parent) y d e = absurd (cc)
count-pair (cell.Transformer x) y d e = absurd (cc)

count-erased : (cells : List Cell) (p : ℕ) (y d : Value) → pair_in (slice_get cells p) ≡ Some (y, d) → count cells ≡ suc (count (erased cells p))
count-erased [] p y d e = absurd (cc)
count-erased (c ∷ cs) zero y d e = let h = count-pair c y d e in omega (arith, h)
count-erased (c ∷ cs) (suc p) y d e = let h = count-erased cs p y d e in omega (arith, h)

get-erased : (cells : List Cell) (p q : ℕ) → (q ≡ p → ⊥) → slice_get (erased cells p) q ≡ slice_get cells q
get-erased [] p q n = refl
get-erased (c ∷ cs) zero zero n = absurd (n refl)
get-erased (c ∷ cs) zero (suc q) n = refl
get-erased (c ∷ cs) (suc p) zero n = refl
get-erased (c ∷ cs) (suc p) (suc q) n = get-erased cs p q (λ e. n (ap suc e))

abbrev pair_some : Value → Value → Option (Value × Value)
pair_some x d = Some (x, d)

abbrev cdr_or : Value → Option (Value × Value) → Value
cdr_or d None = d
cdr_or d (Some p) = p.1

-- a list has one length
one-length : {cells : List Cell} {xs ys : List Value} {x : Value} → IsList cells xs x → IsList cells ys x → length xs ≡ length ys
one-length here here = refl
one-length here (next e r) = absurd (cc)
one-length (next e r) here = absurd (cc)
one-length {cells = cells} (next {y = a} {d = d} e r) (next {y = b} {d = c} {ys = zs} f q) =
    let same : pair_some a d ≡ pair_some b c = sym e ∙ f in
    let rest : d ≡ c = ap (cdr_or d) same in
    ap suc (one-length r (subst (λ v. IsList cells zs v) (sym rest) q))

module _ (cells : List Cell) (p : Place) (ws : List Value) (whole : IsList cells ws (value.Pair p)) where
  still : (x y d : Value) (zs : List Value) → pair_of cells x ≡ Some (y, d) → IsList cells zs x → length zs < length ws → pair_of (erased cells p.0) x ≡ Some (y, d)
  still (value.Pair q) y d zs e r l = ap pair_in (get-erased cells p.0 q.0 other) ∙ e
    where
      other : q.0 ≡ p.0 → ⊥
      other h =
          let place : q ≡ p = λ i. record { 0 = h i } in
          let same : length zs ≡ length ws = one-length (subst (λ a. IsList cells zs (value.Pair a)) place r) whole in
          omega (arith, same, l)
  still value.Unspecified y d zs e r l = absurd (cc)
  still (value.Atom x) y d zs e r l = absurd (cc)
  still (value.Symbol s) y d zs e r l = absurd (cc)
  still (value.Vector q) y d zs e r l = absurd (cc)
  still (value.Str q) y d zs e r l = absurd (cc)
  still (value.Closure c q) y d zs e r l = absurd (cc)
  still (value.Prim o) y d zs e r l = absurd (cc)
  still (value.Syn t) y d zs e r l = absurd (cc)
  still (value.Transformer q) y d zs e r l = absurd (cc)

  -- a list that is shorter doesn't come by that place
  passes-by : (zs : List Value) (x : Value) → IsList cells zs x → length zs < length ws → IsList (erased cells p.0) zs x
  passes-by zs x here l = here
  passes-by zs x (next {y = y} {d = d} {ys = ys} e r) l = next (still x y d (y ∷ ys) e (next e r) l) (passes-by ys d r (omega (arith, l)))

few : (xs : List Value) (cells : List Cell) (x : Value) → IsList cells xs x → length xs ≤ count cells
few [] cells x r = omega arith
few (y ∷ ys) cells x r = let c = list-some r in by (few ys) x c.0 c.1 c.2 r
  where
    by : ((cells : List Cell) (x : Value) → IsList cells ys x → length ys ≤ count cells) → (x d : Value) → pair_of cells x ≡ Some (y, d) → IsList cells ys d → IsList cells (y ∷ ys) x → length (y ∷ ys) ≤ count cells
    by again (value.Pair p) d e rest r =
        let h = again (erased cells p.0) d (passes-by cells p (y ∷ ys) r ys d rest (omega arith)) in
        let k = count-erased cells p.0 y d e in
        omega (arith, h, k)
    by again value.Unspecified d e rest r = absurd (cc)
    by again (value.Atom x) d e rest r = absurd (cc)
    by again (value.Symbol s) d e rest r = absurd (cc)
    by again (value.Vector q) d e rest r = absurd (cc)
    by again (value.Str q) d e rest r = absurd (cc)
    by again (value.Closure c q) d e rest r = absurd (cc)
    by again (value.Prim o) d e rest r = absurd (cc)
    by again (value.Syn t) d e rest r = absurd (cc)
    by again (value.Transformer q) d e rest r = absurd (cc)

-- the elements of a list no longer than there are cells

chain-of : (n : ℕ) (cells : List Cell) (xs : List Value) (x : Value) → IsList cells xs x → length xs ≤ n → chain_to n cells x ≡ record { elements = xs; end = nil }
unfolding chain_to
chain-of n cells [] x r h = ap (λ y. chain_to n cells y) (list-none r) ∙ chain-of-nil n cells
chain-of zero cells (y ∷ ys) x r h = absurd (omega (arith, h))
chain-of (suc n) cells (y ∷ ys) x r h = let c = list-some r in ap (chain_on (chain_to n cells) x) c.1 ∙ ap (linked y) (chain-of n cells ys c.0 c.2 (omega (arith, h)))

short-elements : (cells : List Cell) (xs : List Value) (x : Value) → IsList cells xs x → length xs ≤ length cells → list_elements cells x ≡ Some xs
unfolding chain
short-elements cells xs x r h = ap (λ (c : Chain). if is_nil c.end then Some c.elements else None) (chain-of (length cells) cells xs x r h)

pub elements-of : (cells : List Cell) (xs : List Value) (x : Value) → IsList cells xs x → list_elements cells x ≡ Some xs
elements-of cells xs x r = let h = few xs cells x r in let k = count-least cells in short-elements cells xs x r (omega (arith, h, k))
