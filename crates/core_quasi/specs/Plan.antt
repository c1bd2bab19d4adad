-- What a `quasiquote` form comes to: a tree of constants, expressions and calls (R6RS 11.17).
use Rattle.std.specs.Prelude.{ℕ, ◌+◌, suc, List, [], ◌∷◌}
use Rattle.base_data.specs.declared.op.names.TheConstants as names
use Rattle.stx_tree.specs.Tree.{Tree}
use Rattle.core_quasi.specs.declared.maker.Maker.{Maker}
use Rattle.core_quasi.specs.declared.maker.Maker.TheVariants as maker

mutual
  pub data PlainQuasi : Type 0 where
    -- the datum of this form
    constant : Tree → PlainQuasi
    -- the value of this expression
    expression : Tree → PlainQuasi
    -- what this procedure makes of the parts
    call : Maker → PlainQuasis → PlainQuasi

  pub data PlainQuasis : Type 0 where
    none : PlainQuasis
    more : PlainQuasi → PlainQuasis → PlainQuasis

-- more than any part's
abbrev mutual
  pub quasi_size : PlainQuasi → ℕ
  quasi_size (constant t) = 1
  quasi_size (expression t) = 1
  quasi_size (call m qs) = suc (quasis_size qs)

  pub quasis_size : PlainQuasis → ℕ
  quasis_size none = 1
  quasis_size (more q qs) = suc (quasi_size q + quasis_size qs)

abbrev pub quasis : List PlainQuasi → PlainQuasis
quasis [] = none
quasis (q ∷ qs) = more q (quasis qs)

-- the numbers of `list`, `cons*`, `append` and `list->vector` in the table of names
abbrev pub maker_op : Maker → ℕ
maker_op maker.List = names.LIST
maker_op maker.ConsStar = names.CONS_STAR
maker_op maker.Append = names.APPEND
maker_op maker.ListToVector = names.LIST_TO_VECTOR
