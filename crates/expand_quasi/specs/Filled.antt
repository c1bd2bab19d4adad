-- The code of a plan of `quasiquote` (R6RS 11.17).
use Rattle.std.specs.Prelude.{List, [], ◌∷◌, ◌++◌}
use Rattle.base_data.specs.declared.op.Op.{Op}
use Rattle.stx_tree.specs.Leaves.{strip}
use Rattle.stx_tree.specs.Tree.{Tree}
use Rattle.core_language.specs.Core.{PlainCore, quoted, primitive, call, cores}
use Rattle.core_quasi.specs.Plan.{PlainQuasi, PlainQuasis, constant, expression, none, more, maker_op}
use Rattle.core_quasi.specs.Plan as quasi
use Rattle.core_quasi.specs.declared.maker.Maker.{Maker}

abbrev pub op_of : Maker → Op
op_of m = record { 0 = maker_op m }

abbrev pub call_of : Op → List PlainCore → PlainCore
call_of op cs = call (primitive op) (cores cs)

-- code, and the codes that are left
abbrev pub Filling : Type 0 → Type 0
Filling A = A × List PlainCore

-- there is a code for each expression
abbrev pub next_code : Tree → List PlainCore → Filling PlainCore
next_code t [] = (quoted (strip t), [])
next_code t (c ∷ cs) = (c, cs)

abbrev pub called : Maker → Filling (List PlainCore) → Filling PlainCore
called m p = (call_of (op_of m) p.0, p.1)

-- the code of a plan, in which the expressions have these codes, in order
abbrev mutual
  pub filled : PlainQuasi → List PlainCore → Filling PlainCore
  filled (constant t) cs = (quoted (strip t), cs)
  filled (expression t) cs = next_code t cs
  filled (quasi.call m qs) cs = called m (all_filled [] qs cs)

  pub all_filled : List PlainCore → PlainQuasis → List PlainCore → Filling (List PlainCore)
  all_filled done none cs = (done, cs)
  all_filled done (more q qs) cs = all_filled (done ++ (filled q cs).0 ∷ []) qs (filled q cs).1
