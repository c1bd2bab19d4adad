-- Parts of lists, of which something is said.
use Rattle.std.proofs.Common.{List, [], ◌∷◌, map}
use Rattle.base_data.specs.Elements.{Each}

pub each-of-map : {A B : Type 0} (P : B → Type 0) (f : A → B) (xs : List A) → Each P (map f xs) → Each (λ (x : A). P (f x)) xs
each-of-map P f [] h = tt
each-of-map P f (x ∷ xs) h = (h.0, each-of-map P f xs h.1)
