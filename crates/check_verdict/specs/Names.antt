-- Lists of names, each once.
use Rattle.std.specs.Prelude.{◌≡◌, ℕ, true, List, [], ◌∷◌, ◌++◌, if◌then◌else◌}
use Rattle.check_grammar.specs.Forms.{has}
use Rattle.check_grammar.specs.Primitives.{is_primitive}

-- with a name at the end, where it isn't there
abbrev pub with_name : List (List ℕ) → List ℕ → List (List ℕ)
with_name xs x = if has xs x then xs else xs ++ x ∷ []

-- each is the name of a primitive
abbrev pub ArePrimitives : List (List ℕ) → Type 0
ArePrimitives [] = Unit {0}
ArePrimitives (x ∷ xs) = (is_primitive x ≡ true) × ArePrimitives xs
