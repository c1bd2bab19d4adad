-- What is to be expanded of quasi forms, in order. The forms that they make count in the depth; where one of these is too deep, the
-- quasi form stands in its place, at its depth, so that the fault is at the quasi form.
use Rattle.std.specs.Prelude.{ℕ, nat_lt, List, [], ◌∷◌, ◌++◌, map, if◌then◌else◌}
use Rattle.stx_tree.specs.Tree.{Tree}
use Rattle.expand_heads.specs.Depth.{deeper, most_round}
use Rattle.core_quasi.specs.Plan.{PlainQuasi, PlainQuasis, constant, expression, call, none, more}
use Rattle.core_quasi.specs.declared.quasi_syntax.Insert.{Insert}
use Rattle.expand_quasi.specs.declared.parts.PartForm.{PartForm}

abbrev pub part : Tree → ℕ → PartForm
part t depth = record { form = t; depth = depth }

-- a form that is made at this depth: it is no part, but where it is too deep the quasi form is
abbrev pub with_made : Tree → ℕ → List PartForm → List PartForm
with_made t depth done = if nat_lt most_round depth then done ++ part t depth ∷ [] else done

-- of the plan of a `quasiquote` form t, at a depth; the operator of a call is one deeper than the call
abbrev mutual
  pub quasi_parts : Tree → ℕ → List PartForm → PlainQuasi → List PartForm
  quasi_parts t depth done (constant c) = with_made t depth done
  quasi_parts t depth done (expression e) = done ++ part e depth ∷ []
  quasi_parts t depth done (call m qs) = all_quasi_parts t (deeper depth) (with_made t (deeper depth) done) qs

  pub all_quasi_parts : Tree → ℕ → List PartForm → PlainQuasis → List PartForm
  all_quasi_parts t depth done none = done
  all_quasi_parts t depth done (more q qs) = all_quasi_parts t depth (quasi_parts t depth done q) qs

abbrev pub insert_part : ℕ → Insert → PartForm
insert_part depth i = part i.expression depth

-- Of a `quasisyntax` form t: with inserts it is `(syntax-case (list e ...) () ((p ...) (syntax template)))`, without `(syntax template)`.
abbrev pub inserts_parts : Tree → ℕ → List Insert → List PartForm
inserts_parts t depth [] = with_made t depth []
inserts_parts t depth (i ∷ is) = with_made t (deeper (deeper depth)) [] ++ map (insert_part (deeper (deeper depth))) (i ∷ is)
