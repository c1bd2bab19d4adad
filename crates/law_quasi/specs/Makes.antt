-- What a plan makes, where each expression has a value. Values are trees without spans.
use Rattle.std.specs.Prelude.{List, [], ◌∷◌, None}
use Rattle.stx_tree.specs.Tree.{Tree, atom, leaf, pair, vector, nil, chain, vector_of}
use Rattle.core_shapes.specs.Lists.{elements}
use Rattle.core_quasi.specs.Plan.{PlainQuasi, constant, expression, call, PlainQuasis, none, more}
use Rattle.core_quasi.specs.declared.maker.Maker.{Maker}
use Rattle.core_quasi.specs.declared.maker.Maker.TheVariants as maker

abbrev mutual
  -- the datum of a form: without spans, and each vector as its elements
  pub plain : Tree → Tree
  plain (atom s a) = atom None a
  plain (leaf s x c) = leaf None x c
  plain (pair s a d) = pair None (plain a) (plain d)
  plain (vector s d) = vector None (plain_items d)

  pub plain_items : Tree → Tree
  plain_items (atom s a) = nil
  plain_items (leaf s x c) = nil
  plain_items (pair s a d) = pair None (plain a) (plain_items d)
  plain_items (vector s d) = nil

-- the value of each expression
abbrev pub FilledBy : Type 0
FilledBy = Tree → Tree

-- the first of these before the others
abbrev pub cons_on : Tree → List Tree → Tree
cons_on v [] = v
cons_on v (u ∷ us) = pair None v (cons_on u us)

abbrev pub cons_star : List Tree → Tree
cons_star [] = nil
cons_star (v ∷ vs) = cons_on v vs

-- the elements of the first before the others; the last may be anything
abbrev pub append_on : Tree → List Tree → Tree
append_on v [] = v
append_on v (u ∷ us) = chain (elements v) (append_on u us)

abbrev pub append : List Tree → Tree
append [] = nil
append (v ∷ vs) = append_on v vs

abbrev pub list_to_vector : List Tree → Tree
list_to_vector [] = nil
list_to_vector (v ∷ vs) = vector_of (elements v)

-- what the procedures of the report make of their arguments (R6RS 11.9 and 11.13; libraries 3)
abbrev pub applied : Maker → List Tree → Tree
applied maker.List vs = chain vs nil
applied maker.ConsStar vs = cons_star vs
applied maker.Append vs = append vs
applied maker.ListToVector vs = list_to_vector vs

abbrev mutual
  pub makes : FilledBy → PlainQuasi → Tree
  makes f (constant t) = plain t
  makes f (expression e) = f e
  makes f (call m qs) = applied m (values f qs)

  pub values : FilledBy → PlainQuasis → List Tree
  values f none = []
  values f (more q qs) = makes f q ∷ values f qs
