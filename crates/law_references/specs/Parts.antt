-- What is expanded of a quasi form: the expressions in it, in their order.
use Rattle.std.specs.Prelude.{List, [], ◌∷◌, ◌++◌, map}
use Rattle.stx_tree.specs.Tree.{Tree}
use Rattle.core_quasi.specs.Plan.{PlainQuasi, PlainQuasis, constant, expression, call, none, more}
use Rattle.core_quasi.specs.declared.quasi_syntax.Insert.{Insert}
use Rattle.expand_quasi.specs.declared.form.QuasiForm.{QuasiForm}
use Rattle.expand_quasi.specs.declared.form.QuasiForm.TheVariants as quasi_forms

abbrev mutual
  pub expressions_in : PlainQuasi → List Tree
  expressions_in (constant t) = []
  expressions_in (expression t) = t ∷ []
  expressions_in (call m qs) = all_expressions qs

  pub all_expressions : PlainQuasis → List Tree
  all_expressions none = []
  all_expressions (more q qs) = expressions_in q ++ all_expressions qs

abbrev pub inserted_expressions : List Insert → List Tree
inserted_expressions is = map (λ (i : Insert). i.expression) is

abbrev pub expressions_of : QuasiForm → List Tree
expressions_of (quasi_forms.Quote q) = expressions_in q
expressions_of (quasi_forms.Syntax q) = inserted_expressions q.inserts
