-- The turns of the loop over a source.
use Rattle.std.proofs.Common.{◌≡◌, ℕ, zero, suc, ◌<◌, ◌≤◌, ◌-◌, Bool, true, false, List, drop, arith}
use Rattle.std.specs.Prelude.{◌==◌}
use Rattle.std.proofs.lemmas.Bool.Decides.{nat_tests}
use Rattle.base_data.specs.Place.{place_from, piece, moved}

-- some number of pieces from here gives this place
abbrev pub Comes : List ℕ → ℕ → ℕ × ℕ → ℕ × ℕ → Type 0
Comes bytes left at end = (k : ℕ) × (left ≤ k) × (place_from k bytes left at ≡ end)

not_none : (n : ℕ) → 0 < n → n == 0 ≡ false
not_none n h = grind (arith, nat_tests)

pub turn : (bytes after : List ℕ) (left less size : ℕ) (ends : Bool) (at next end : ℕ × ℕ) → 0 < left → 0 < size
    → ends ≡ (piece bytes left).ends → size ≡ (piece bytes left).size → after ≡ drop size bytes → less ≡ left - size → next ≡ moved at ends
    → Comes bytes left at end → Comes after less next end
unfolding place_from
turn bytes after left less size ends at next end some pos e f a l n (zero, fits, same) = absurd (omega arith)
turn bytes after left less size ends at next end some pos e f a l n (suc j, fits, same) =
    (j, omega arith, rw (a, l, n, e, f) (rw (not_none left some) at same))

pub stops : (bytes : List ℕ) (left : ℕ) (at end : ℕ × ℕ) → left ≡ 0 → Comes bytes left at end → at ≡ end
unfolding place_from
stops bytes left at end e (zero, fits, same) = same
stops bytes left at end e (suc j, fits, same) = rw e at same

pub moved-line : (at : ℕ × ℕ) (ends : Bool) → (moved at ends).0 ≤ suc at.0
moved-line at true = omega arith
moved-line at false = omega arith

pub moved-column : (at : ℕ × ℕ) (ends : Bool) → 0 < at.1 → (moved at ends).1 ≤ suc at.1
moved-column at true h = omega arith
moved-column at false h = omega arith

pub moved-some : (at : ℕ × ℕ) (ends : Bool) → 0 < (moved at ends).1
moved-some at true = omega arith
moved-some at false = omega arith
