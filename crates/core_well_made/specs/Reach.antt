-- How far templates reach.
use Rattle.std.specs.Prelude.{ℕ, ◌-◌, max, Bool, true, false, Option, None, Some}
use Rattle.core_language.specs.Template as template
use Rattle.core_language.specs.Template.{PlainTemplate, PlainItems}

-- for how many of the ellipses round it, counted from the innermost, a template has a variable of depth
abbrev mutual
  pub reach : PlainTemplate → ℕ
  reach (template.variable l d) = d
  reach (template.constant t) = 0
  reach (template.list is t) = max (items_reach is) (reach t)
  reach (template.vector is) = items_reach is

  pub items_reach : PlainItems → ℕ
  items_reach template.none = 0
  items_reach (template.more t e is) = max (reach t - e) (items_reach is)

-- a number, on a condition
abbrev pub number_if : Bool → ℕ → Option ℕ
number_if true n = Some n
number_if false n = None
