-- Templates and what stands for absent variables, with their marks under other names.
use Rattle.std.specs.Prelude.{List, map, Result, Ok, Err}
use Rattle.base_data.specs.declared.fault.Bare.{Bare}
use Rattle.base_data.specs.declared.name.Mark.{Mark}
use Rattle.stx_tree.specs.Renaming.{renamed}
use Rattle.core_language.specs.Template.{PlainTemplate, variable, constant, list, vector, PlainItems, none, more}
use Rattle.eval_value.specs.declared.cell.Cell.{Cell}
use Rattle.law_matches.specs.Renaming.{renamed_value, renamed_cell}
use Rattle.eval_template.specs.Binds.{Absent}

abbrev mutual
  pub renamed_template : (Mark → Mark) → PlainTemplate → PlainTemplate
  renamed_template r (variable l d) = variable l d
  renamed_template r (constant t) = constant (renamed r t)
  renamed_template r (list is t) = list (renamed_items r is) (renamed_template r t)
  renamed_template r (vector is) = vector (renamed_items r is)

  pub renamed_items : (Mark → Mark) → PlainItems → PlainItems
  renamed_items r none = none
  renamed_items r (more t ellipses is) = more (renamed_template r t) ellipses (renamed_items r is)

abbrev pub renamed_absent : (Mark → Mark) → Absent → Absent
renamed_absent r a = record { value = renamed_value r a.value; count = a.count }

-- what was made, and the cells
abbrev pub renamed_made : {A : Type 0} → (Mark → Mark) → (A → A) → Result (A × List Cell) Bare → Result (A × List Cell) Bare
renamed_made r h (Ok p) = Ok (h p.0, map (renamed_cell r) p.1)
renamed_made r h (Err f) = Err f
