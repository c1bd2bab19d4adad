-- When the variables of a template are bound to the depths that it carries.
use Rattle.std.specs.Prelude.{◌≡◌, ℕ, zero, suc, ◌+◌, ◌≤◌, Some}
use Rattle.base_data.specs.declared.name.Label.{Label}
use Rattle.core_language.specs.Template.{PlainTemplate, variable, constant, list, vector, PlainItems, none, more}
use Rattle.eval_value.specs.Bind.{PlainBind, one, many, PlainBinds}
use Rattle.eval_value.specs.Bind as bind
use Rattle.eval_template.specs.Binds.{Binds, looked_up}

-- a value under so many ellipses
abbrev mutual
  pub HasDepth : ℕ → PlainBind → Type 0
  HasDepth zero (one v) = Unit {0}
  HasDepth zero (many bs) = ⊥
  HasDepth (suc d) (one v) = ⊥
  HasDepth (suc d) (many bs) = HaveDepth d bs

  pub HaveDepth : ℕ → PlainBinds → Type 0
  HaveDepth d bind.none = Unit {0}
  HaveDepth d (bind.more b bs) = HasDepth d b × HaveDepth d bs

-- a variable is bound to this depth
pub record IsBound (binds : Binds) (l : Label) (d : ℕ) : Type 0 where
  pub bound : PlainBind
  pub found : looked_up binds l ≡ Some bound
  pub deep : HasDepth d bound

-- Under so many ellipses each variable stands under as many as its depth, and is bound to it.
abbrev mutual
  pub Ready : Binds → ℕ → PlainTemplate → Type 0
  Ready binds under (variable l d) = (d ≤ under) × IsBound binds l d
  Ready binds under (constant t) = Unit {0}
  Ready binds under (list is t) = ItemsReady binds under is × Ready binds under t
  Ready binds under (vector is) = ItemsReady binds under is

  pub ItemsReady : Binds → ℕ → PlainItems → Type 0
  ItemsReady binds under none = Unit {0}
  ItemsReady binds under (more t ellipses is) = Ready binds (under + ellipses) t × ItemsReady binds under is
