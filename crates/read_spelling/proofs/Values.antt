-- How values of digits grow.
use Rattle.std.proofs.Common.{◌≡◌, ℕ, ◌+◌, ◌*◌, ◌<◌, ◌≤◌, List, [], ◌∷◌, length, drop, get_or, arith, refl, add-one, drop-cons}
use Rattle.std.proofs.lemmas.List.{drop_all}
use Rattle.read_spelling.specs.Numbers.{value_from, digit_value}

grows : (base n d : ℕ) → 0 < base → n ≤ n * base + d
grows base n d h = grind arith

-- further digits make no number less
pub value-grows : (base n : ℕ) (digits : List ℕ) → 0 < base → n ≤ value_from base n digits
unfolding value_from
value-grows base n [] h = omega arith
value-grows base n (b ∷ bs) h = omega (arith, grows base n (digit_value b) h, value-grows base (n * base + digit_value b) bs h)

-- one digit more
pub value-next : (base n i : ℕ) (digits : List ℕ) → i < length digits
    → value_from base (n * base + digit_value (get_or digits i 0)) (drop (i + 1) digits) ≡ value_from base n (drop i digits)
unfolding value_from
value-next base n i digits h = rw (add-one, drop-cons digits i 0 h) refl

-- no digits are left
pub value-done : (base n i : ℕ) (digits : List ℕ) → length digits ≤ i → value_from base n (drop i digits) ≡ n
unfolding value_from
value-done base n i digits h = rw (drop_all i digits h) refl
