-- Values, cells, patterns and binds with their marks under other names.
use Rattle.std.specs.Prelude.{map, Option, option_map}
use Rattle.base_data.specs.declared.name.Label.{Label}
use Rattle.base_data.specs.declared.name.Mark.{Mark}
use Rattle.stx_tree.specs.Renaming.{renamed}
use Rattle.core_language.specs.Pattern.{PlainPattern, any, variable, literal, atom, list, vector, PlainPatterns, none, more, dots}
use Rattle.eval_value.specs.Bind.{PlainBind, one, many, PlainBinds}
use Rattle.eval_value.specs.Bind as bind
use Rattle.eval_value.specs.declared.cell.Cell.{Cell}
use Rattle.eval_value.specs.declared.cell.Cell.TheVariants as cell
use Rattle.eval_value.specs.declared.value.Value.{Value}
use Rattle.eval_value.specs.declared.value.Value.TheVariants as value
use Rattle.eval_pattern.specs.declared.columns.PatternBinds.{PatternBinds}

abbrev pub renamed_value : (Mark → Mark) → Value → Value
renamed_value r (value.Syn t) = value.Syn (renamed r t)
renamed_value r v = v

abbrev mutual
  pub renamed_bind : (Mark → Mark) → PlainBind → PlainBind
  renamed_bind r (one v) = one (renamed_value r v)
  renamed_bind r (many bs) = many (renamed_binds r bs)

  pub renamed_binds : (Mark → Mark) → PlainBinds → PlainBinds
  renamed_binds r bind.none = bind.none
  renamed_binds r (bind.more b bs) = bind.more (renamed_bind r b) (renamed_binds r bs)

abbrev pub renamed_row : (Mark → Mark) → Label × PlainBind → Label × PlainBind
renamed_row r x = (x.0, renamed_bind r x.1)

abbrev pub renamed_variable : (Mark → Mark) → Label × Option Value → Label × Option Value
renamed_variable r x = (x.0, option_map (renamed_value r) x.1)

abbrev pub renamed_cell : (Mark → Mark) → Cell → Cell
renamed_cell r (cell.Pair x y) = cell.Pair (renamed_value r x) (renamed_value r y)
renamed_cell r (cell.Vector xs) = cell.Vector (map (renamed_value r) xs)
renamed_cell r (cell.Str text) = cell.Str text
renamed_cell r (cell.Scope xs parent) = cell.Scope (map (renamed_variable r) xs) parent
renamed_cell r (cell.Binds xs parent) = cell.Binds (map (renamed_row r) xs) parent
renamed_cell r (cell.Transformer x) = cell.Transformer (renamed_value r x)

abbrev mutual
  pub renamed_pattern : (Mark → Mark) → PlainPattern → PlainPattern
  renamed_pattern r any = any
  renamed_pattern r (variable l) = variable l
  renamed_pattern r (literal t) = literal (renamed r t)
  renamed_pattern r (atom a) = atom a
  renamed_pattern r (list ps t) = list (renamed_patterns r ps) (renamed_pattern r t)
  renamed_pattern r (vector ps) = vector (renamed_patterns r ps)

  pub renamed_patterns : (Mark → Mark) → PlainPatterns → PlainPatterns
  renamed_patterns r none = none
  renamed_patterns r (more p ps) = more (renamed_pattern r p) (renamed_patterns r ps)
  renamed_patterns r (dots p ps) = dots (renamed_pattern r p) (renamed_patterns r ps)

abbrev pub renamed_found : (Mark → Mark) → PatternBinds → PatternBinds
renamed_found r f = record { binds = map (renamed_row r) f.binds; taken = f.taken }
