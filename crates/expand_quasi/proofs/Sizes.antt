-- A part of a list of plans is smaller than the list.
use Rattle.std.proofs.Common.{ℕ, zero, suc, ◌<◌, List, [], ◌∷◌, length, get_or, arith}
use Rattle.core_quasi.specs.Plan.{PlainQuasi, quasi_size, quasis_size, quasis}

pub quasi_below : (qs : List PlainQuasi) (i : ℕ) (d : PlainQuasi) → i < length qs → quasi_size (get_or qs i d) < quasis_size (quasis qs)
quasi_below [] i d h = absurd (omega arith)
quasi_below (q ∷ qs) zero d h = omega arith
quasi_below (q ∷ qs) (suc i) d h = omega (arith, quasi_below qs i d (omega arith))
