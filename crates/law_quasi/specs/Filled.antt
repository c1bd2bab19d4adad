-- A template with the values of its expressions in their places (R6RS 11.17).
use Rattle.std.specs.Prelude.{ℕ, zero, suc, Bool, true, false, ◌&&◌, List, [], ◌∷◌, map, Option, None, Some, is_some, if◌then◌else◌}
use Rattle.stx_tree.specs.Tree.{Tree, atom, leaf, pair, vector, nil, chain}
use Rattle.core_shapes.specs.Lists.{is_nil, elements, tail_of}
use Rattle.core_quasi.specs.Words.{WordOf}
use Rattle.core_quasi.specs.declared.word.QuasiWord.{QuasiWord}
use Rattle.core_quasi.specs.declared.word.QuasiWord.TheVariants as word
use Rattle.law_quasi.specs.Makes.{FilledBy}

-- What is made of a list at each level: of its first element, and of its rest, whose elements are at a level of their own.
pub record AtLevels (A : Type 0) : Type 0 where
  pub first : ℕ → A
  pub rest : ℕ → ℕ → A

-- `quasiquote` adds a level for what stands behind it, and `unquote` and `unquote-splicing` take one away
abbrev pub level_behind : QuasiWord → ℕ → ℕ
level_behind word.Raise n = suc n
level_behind word.Lower (suc n) = n
level_behind word.Splice (suc n) = n
level_behind x n = n

-- whether `(word x)` in the place of a tail is the form that it looks like: `(1 . ,x)` is read as `(1 unquote x)`
abbrev pub is_tail_word : QuasiWord → Bool
is_tail_word word.Raise = true
is_tail_word word.Lower = true
is_tail_word word.Splice = true
is_tail_word word.Escape = false
is_tail_word word.Plain = false

-- the element of a list that has just one
abbrev pub only : Tree → Option Tree
only (atom s a) = None
only (leaf s x c) = None
only (pair s e d) = if is_nil d then Some e else None
only (vector s d) = None

-- whether a rest is a form that stands for the tail
abbrev pub is_tail : WordOf → Tree → Tree → Bool
is_tail w a d = is_tail_word (w a) && is_some (only d)

module _ (f : FilledBy) where
  abbrev pub value_of : Option Tree → Tree
  value_of None = nil
  value_of (Some e) = f e

  -- the elements of each value before a rest
  abbrev pub spliced : List Tree → Tree → Tree
  spliced [] r = r
  spliced (e ∷ es) r = chain (elements (f e)) (spliced es r)

  -- an element that is a list of a head and operands, ended by Nil or not: `(unquote e ...)` and `(unquote-splicing e ...)`
  abbrev pub put_form : QuasiWord → Bool → List Tree → Tree → Tree → Tree
  put_form word.Lower true es made r = chain (map f es) r
  put_form word.Splice true es made r = spliced es r
  put_form x ends es made r = pair None made r

module _ (w : WordOf) (f : FilledBy) where
  -- an element, which itself comes to this, before a rest
  abbrev pub put : ℕ → Tree → Tree → Tree → Tree
  put zero (pair s h d) made r = put_form f (w h) (is_nil (tail_of d)) (elements d) made r
  put n t made r = pair None made r

  -- At level 0 `(unquote e)` is the value of e; nothing else may stand there behind `unquote` or `unquote-splicing`.
  abbrev pub list_by : ℕ → Tree → Tree → AtLevels Tree → QuasiWord → Tree
  list_by zero a d made word.Lower = value_of f (only d)
  list_by zero a d made word.Splice = nil
  list_by n a d made x = put (level_behind x n) a (made.first (level_behind x n)) (made.rest n (level_behind x n))

  -- a list of this first element and this rest, and what they come to
  abbrev pub list_filled : ℕ → Tree → Tree → AtLevels Tree → Tree
  list_filled n a d made = list_by n a d made (w a)

  abbrev mutual
    -- a template at a level
    pub filled : Tree → ℕ → Tree
    filled (atom s a) n = atom None a
    filled (leaf s x c) n = leaf None x c
    filled (pair s a d) n = list_filled n a d (record { first = filled a; rest = rest_filled d })
    filled (vector s d) n = vector None (items_filled d n)

    -- the rest of a list at the first of these levels, whose elements are at the second
    pub rest_filled : Tree → ℕ → ℕ → Tree
    rest_filled (atom s a) n m = atom None a
    rest_filled (leaf s x c) n m = leaf None x c
    rest_filled (pair s a d) n m =
        if is_tail w a d then list_filled n a d (record { first = filled a; rest = rest_filled d }) else put m a (filled a m) (rest_filled d n m)
    rest_filled (vector s d) n m = vector None (items_filled d n)

    -- the elements of a vector
    pub items_filled : Tree → ℕ → Tree
    items_filled (atom s a) n = nil
    items_filled (leaf s x c) n = nil
    items_filled (pair s a d) n = put n a (filled a n) (items_filled d n)
    items_filled (vector s d) n = nil

-- a form of a head and one operand
abbrev pub form_of : Tree → Tree → Tree
form_of head operand = pair None head (pair None operand nil)
