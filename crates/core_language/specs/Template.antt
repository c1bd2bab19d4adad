-- Templates as plain data (libraries report 12.4).
use Rattle.std.specs.Prelude.{ℕ, ◌+◌, suc}
use Rattle.base_data.specs.declared.name.Label.{Label}
use Rattle.stx_tree.specs.Tree.{Tree}

mutual
  pub data PlainTemplate : Type 0 where
    -- with its depth
    variable : Label → ℕ → PlainTemplate
    constant : Tree → PlainTemplate
    list : PlainItems → PlainTemplate → PlainTemplate
    vector : PlainItems → PlainTemplate

  -- items, each with so many ellipses behind it
  pub data PlainItems : Type 0 where
    none : PlainItems
    more : PlainTemplate → ℕ → PlainItems → PlainItems

-- more than any part's
abbrev mutual
  pub template_size : PlainTemplate → ℕ
  template_size (variable l d) = 1
  template_size (constant t) = 1
  template_size (list is t) = suc (items_size is + template_size t)
  template_size (vector is) = suc (items_size is)

  pub items_size : PlainItems → ℕ
  items_size none = 1
  items_size (more t e is) = suc (template_size t + e + items_size is)
