-- Walking behind elements.
use Rattle.std.proofs.Common.{◌≡◌, ℕ, zero, suc, ◌+◌, None, Some, ap, sym, ◌∙◌, arith}
use Rattle.stx_tree.specs.Tree.{Tree, atom, leaf, pair, vector}
use Rattle.core_shapes.specs.Lists.{split_first}
use Rattle.core_shapes.specs.declared.lists.Split.{Split}
use Rattle.core_quasi.specs.Parts.{rest_at}

rest_behind : (n : ℕ) (t : Tree) (p : Split) → split_first t ≡ Some p → rest_at (suc n) t ≡ rest_at n p.rest
rest_behind n (atom s a) p h = absurd (cc)
rest_behind n (leaf s x c) p h = absurd (cc)
rest_behind n (pair s a d) p h = let e : record { first = a; rest = d } ≡ p = cc in ap (λ (q : Split). rest_at n q.rest) e
rest_behind n (vector s d) p h = absurd (cc)

pub rest_on : (m n : ℕ) (t total : Tree) (p : Split) → split_first t ≡ Some p → m ≡ n + 1 → rest_at m t ≡ total → rest_at n p.rest ≡ total
rest_on m n t total p h e so_far =
    let f : m ≡ suc n = omega (arith, e) in
    sym (rest_behind n t p h) ∙ ap (λ k. rest_at k t) (sym f) ∙ so_far

pub rest_none : (m : ℕ) (t total : Tree) → split_first t ≡ None → rest_at m t ≡ total → t ≡ total
rest_none zero t total h so_far = so_far
rest_none (suc m) (atom s a) total h so_far = so_far
rest_none (suc m) (leaf s x c) total h so_far = so_far
rest_none (suc m) (pair s a d) total h so_far = absurd (cc)
rest_none (suc m) (vector s d) total h so_far = so_far
