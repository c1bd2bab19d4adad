-- What is made of optional values.
use Rattle.std.specs.Prelude.{List, [], ◌∷◌, ◌++◌, Option, Some, None}

-- where there is a value, what is made of it
abbrev pub given : {A B : Type 0} → Option A → (A → Option B) → Option B
given None f = None
given (Some a) f = f a

-- the values of the elements of a list behind those that are done; none where an element has none
abbrev pub all_of : {X A : Type 0} → (X → Option A) → List A → List X → Option (List A)
all_of value done [] = Some done
all_of value done (x ∷ xs) = given (value x) (λ a. all_of value (done ++ a ∷ []) xs)
