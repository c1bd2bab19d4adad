-- The tests of what stands among the elements of a list, of what holds of each, and of each standing once.
use Rattle.std.specs.Prelude.{Bool, true, false, not, ◌&&◌, ◌||◌, List, [], ◌∷◌}

abbrev pub each : {A : Type 0} → (A → Bool) → List A → Bool
each p [] = true
each p (x ∷ xs) = p x && each p xs

abbrev pub among : {A : Type 0} → (A → A → Bool) → List A → A → Bool
among same [] x = false
among same (y ∷ ys) x = same x y || among same ys x

abbrev pub once : {A : Type 0} → (A → A → Bool) → List A → Bool
once same [] = true
once same (x ∷ xs) = not (among same xs x) && once same xs
