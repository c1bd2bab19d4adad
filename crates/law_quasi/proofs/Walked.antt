-- The same, by the words of the definitions of `quasi_at`.
use Rattle.std.specs.Prelude.{ℕ, Bool, ◌&&◌, map, None, is_some, if◌then◌else◌}
use Rattle.stx_tree.specs.Tree.{Tree, atom, leaf, pair, vector, nil, chain}
use Rattle.core_quasi.specs.Words.{WordOf, inner, reach, counts}
use Rattle.core_quasi.specs.Parts.{taken_at}
use Rattle.core_quasi.specs.declared.parts.QuasiTaken.{QuasiTaken}
use Rattle.core_quasi.specs.declared.parts.QuasiTaken.TheVariants as taken
use Rattle.core_quasi.specs.declared.word.Reach.{Reach}
use Rattle.core_quasi.specs.declared.word.Reach.TheVariants as reached
use Rattle.law_quasi.specs.Makes.{FilledBy}
use Rattle.law_quasi.specs.Filled.{only, value_of, spliced}

abbrev pub put_by : FilledBy → Tree → Tree → QuasiTaken → Tree
put_by f made r (taken.Each es) = chain (map f es) r
put_by f made r (taken.Spliced es) = spliced f es r
put_by f made r taken.Kept = pair None made r

-- an element, which itself comes to this, before a rest
abbrev pub put : WordOf → FilledBy → ℕ → Tree → Tree → Tree → Tree
put w f n t made r = put_by f made r (taken_at w n t)

-- whether a rest is a form that stands for the tail: `,x` in `(1 . ,x)`
abbrev pub is_tail : WordOf → Tree → Tree → Bool
is_tail w a d = counts (w a) && is_some (only d)

abbrev pub list_by : WordOf → FilledBy → ℕ → Tree → Tree → (ℕ → Tree) → (ℕ → ℕ → Tree) → Reach → Tree
list_by w f n a d made rest reached.Operand = value_of f (only d)
list_by w f n a d made rest reached.Refused = nil
list_by w f n a d made rest reached.Elements = put w f (inner (w a) n) a (made (inner (w a) n)) (rest n (inner (w a) n))

-- a list of this first element and this rest, and what they come to
abbrev pub list_filled : WordOf → FilledBy → ℕ → Tree → Tree → (ℕ → Tree) → (ℕ → ℕ → Tree) → Tree
list_filled w f n a d made rest = list_by w f n a d made rest (reach (w a) n)

abbrev mutual
  -- a template at a level
  pub filled : WordOf → FilledBy → Tree → ℕ → Tree
  filled w f (atom s a) n = atom None a
  filled w f (leaf s x c) n = leaf None x c
  filled w f (pair s a d) n = list_filled w f n a d (filled w f a) (rest_filled w f d)
  filled w f (vector s d) n = vector None (items_filled w f d n)

  -- the rest of a list at the first of these levels, whose elements are at the second
  pub rest_filled : WordOf → FilledBy → Tree → ℕ → ℕ → Tree
  rest_filled w f (atom s a) n m = atom None a
  rest_filled w f (leaf s x c) n m = leaf None x c
  rest_filled w f (pair s a d) n m =
      if is_tail w a d then list_filled w f n a d (filled w f a) (rest_filled w f d) else put w f m a (filled w f a m) (rest_filled w f d n m)
  rest_filled w f (vector s d) n m = vector None (items_filled w f d n)

  -- the elements of a vector
  pub items_filled : WordOf → FilledBy → Tree → ℕ → Tree
  items_filled w f (atom s a) n = nil
  items_filled w f (leaf s x c) n = nil
  items_filled w f (pair s a d) n = put w f n a (filled w f a n) (items_filled w f d n)
  items_filled w f (vector s d) n = nil
