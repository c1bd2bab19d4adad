-- The binds of the variables under an ellipsis, by variable.
use Rattle.std.specs.Prelude.{List, [], ◌∷◌, ◌++◌, map}
use Rattle.base_data.specs.declared.name.Label.{Label}
use Rattle.core_language.specs.Pattern.{PlainPattern, any, variable, literal, atom, list, vector, PlainPatterns, none, more, dots}
use Rattle.eval_value.specs.Bind.{PlainBind, many, turns}
use Rattle.eval_pattern.specs.declared.columns.Column.{Column}

abbrev pub empty_column : Label → Column
empty_column l = record { label = l; binds = [] }

-- a column without binds for each variable of a pattern, behind others
abbrev mutual
  pub empty_columns : PlainPattern → List Column → List Column
  empty_columns any cols = cols
  empty_columns (variable l) cols = cols ++ empty_column l ∷ []
  empty_columns (literal t) cols = cols
  empty_columns (atom a) cols = cols
  empty_columns (list ps t) cols = empty_columns t (all_empty_columns ps cols)
  empty_columns (vector ps) cols = all_empty_columns ps cols

  pub all_empty_columns : PlainPatterns → List Column → List Column
  all_empty_columns none cols = cols
  all_empty_columns (more p ps) cols = all_empty_columns ps (empty_columns p cols)
  all_empty_columns (dots p ps) cols = all_empty_columns ps (empty_columns p cols)

abbrev pub with_bind : Column → PlainBind → Column
with_bind c b = record { label = c.label; binds = c.binds ++ b ∷ [] }

-- the columns with the binds of one more element, behind those that are done
abbrev pub grown : List Column → List Column → List (Label × PlainBind) → List Column
grown done [] row = done
grown done (c ∷ cols) [] = done
grown done (c ∷ cols) (b ∷ row) = grown (done ++ with_bind c b.1 ∷ []) cols row

-- each variable bound to its column
abbrev pub closed : List Column → List (Label × PlainBind)
closed cols = map (λ (c : Column). (c.label, many (turns c.binds))) cols
