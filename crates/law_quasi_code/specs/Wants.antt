-- The expressions of a plan of `quasiquote`, in their order.
use Rattle.std.specs.Prelude.{◌+◌, ◌≤◌, ◌≡◌, ℕ, suc, Bool, true, false, List, [], ◌∷◌, ◌++◌, max}
use Rattle.stx_tree.specs.Tree.{Tree}
use Rattle.core_quasi.specs.Plan.{PlainQuasi, PlainQuasis, constant, expression, call, none, more}
use Rattle.core_quasi.specs.declared.maker.Maker.TheVariants as maker
use Rattle.expand_quasi.specs.Parts.{quasi_parts}
use Rattle.expand_quasi.specs.declared.parts.PartForm.{PartForm}
use Rattle.expand_heads.specs.Depth.{most_round}

-- an expression, and whether `append` is called on its value, which then must be a list
pub record Want : Type 0 where
  pub expression : Tree
  pub spliced : Bool

-- whether anything follows: the last argument of `append` needn't be a list
abbrev pub is_before : PlainQuasis → Bool
is_before none = false
is_before (more q qs) = true

abbrev mutual
  pub wants_as : Bool → PlainQuasi → List Want
  wants_as spliced (constant t) = []
  wants_as spliced (expression e) = record { expression = e; spliced = spliced } ∷ []
  wants_as spliced (call maker.List qs) = all_wants qs
  wants_as spliced (call maker.ConsStar qs) = all_wants qs
  wants_as spliced (call maker.Append qs) = append_wants qs
  wants_as spliced (call maker.ListToVector qs) = all_wants qs

  pub all_wants : PlainQuasis → List Want
  all_wants none = []
  all_wants (more q qs) = wants_as false q ++ all_wants qs

  pub append_wants : PlainQuasis → List Want
  append_wants none = []
  append_wants (more q qs) = wants_as (is_before qs) q ++ append_wants qs

abbrev pub wants : PlainQuasi → List Want
wants q = wants_as false q

abbrev pub expressions : List Want → List Tree
expressions [] = []
expressions (x ∷ xs) = x.expression ∷ expressions xs

-- the forms of parts
abbrev pub forms_of : List PartForm → List Tree
forms_of [] = []
forms_of (p ∷ ps) = p.form ∷ forms_of ps

-- how deep calls nest
abbrev mutual
  pub nesting : PlainQuasi → ℕ
  nesting (constant t) = 0
  nesting (expression e) = 0
  nesting (call m qs) = suc (all_nesting qs)

  pub all_nesting : PlainQuasis → ℕ
  all_nesting none = 0
  all_nesting (more q qs) = max (nesting q) (all_nesting qs)

-- What is to be expanded of a `quasiquote` form is its expressions, in their order, where its calls don't nest too deep.
abbrev pub PartsAreExpressions : Type 0
PartsAreExpressions = (form : Tree) (depth : ℕ) (q : PlainQuasi) → depth + nesting q ≤ most_round
    → forms_of (quasi_parts form depth [] q) ≡ expressions (wants q)
