-- The lengths of the variables of depth at an ellipsis, in order of place.
use Rattle.std.specs.Prelude.{ℕ, suc, ◌+◌, ◌-◌, nat_lt, nat_eq, List, [], ◌∷◌, ◌++◌, Option, None, Some, Result, Ok, Err, decimal, if◌then◌else◌}
use Rattle.base_data.specs.declared.fault.Bare.{Bare}
use Rattle.base_data.specs.declared.fault.FaultKind.TheVariants as kind
use Rattle.core_language.specs.Template.{PlainTemplate, variable, constant, list, vector, PlainItems, none, more}
use Rattle.eval_template.specs.Binds.{Binds, Absent, reached, count_of}

-- so many further ellipses stand inside that one round the template
abbrev mutual
  pub lengths : Absent → Binds → List ℕ → ℕ → PlainTemplate → List ℕ
  lengths absent binds turns inside (variable l depth) = if nat_lt inside depth then count_of absent (reached binds l (depth - suc inside) turns) ∷ [] else []
  lengths absent binds turns inside (constant t) = []
  lengths absent binds turns inside (list is t) = items_lengths absent binds turns inside is ++ lengths absent binds turns inside t
  lengths absent binds turns inside (vector is) = items_lengths absent binds turns inside is

  pub items_lengths : Absent → Binds → List ℕ → ℕ → PlainItems → List ℕ
  items_lengths absent binds turns inside none = []
  items_lengths absent binds turns inside (more t ellipses is) = lengths absent binds turns (inside + ellipses) t ++ items_lengths absent binds turns inside is

abbrev pub differing : (first second : ℕ) → Bare
differing m n = record { kind = kind.EllipsisLength; words = decimal m ∷ (decimal n ∷ []) }

-- the one length, or the fault with the first two that differ
abbrev pub agree : Option ℕ → List ℕ → Result (Option ℕ) Bare
agree m [] = Ok m
agree None (n ∷ ns) = agree (Some n) ns
agree (Some m) (n ∷ ns) = if nat_eq m n then agree (Some m) ns else Err (differing m n)

abbrev pub or_none : Option ℕ → ℕ
or_none None = 0
or_none (Some n) = n
