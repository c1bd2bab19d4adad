-- What is in scope (R6RS 5.2): a local variable or pattern variable is, from its binder to the end of the form that binds it. Variables
-- of the top of a library or program are in scope everywhere in it.
use Rattle.std.specs.Prelude.{ℕ, Bool, ◌||◌, List, [], length, take, Ok, if◌then◌else◌}
use Rattle.base_data.specs.Act.{after}
use Rattle.base_data.specs.declared.name.Label.{Label}
use Rattle.core_language.specs.Labels.{has_label, with_label}
use Rattle.expand_standing.specs.State.{State, Does}
use Rattle.expand_standing.specs.declared.standing.Variable.{Variable}

-- a binder's label comes into scope, but for those of the top
abbrev pub with_local : Bool → Label → List Label → List Label
with_local top l ls = if top then ls else with_label ls l

-- only the first labels stay in scope
abbrev pub cut : ℕ → State → State
cut n s = record s { scope = take n s.scope }

abbrev pub leaving : {A : Type 0} → ℕ → A → Does A
leaving n x s = Ok (x, cut n s)

-- what comes into scope in an action is out of scope after it
abbrev pub within : {A : Type 0} → Does A → Does A
within m s = after (m s) (leaving (length s.scope))

-- nothing is in scope in the expression of a keyword: it runs before there is a value of any variable round it
abbrev pub restoring : {A : Type 0} → List Label → A → Does A
restoring ls x s = Ok (x, record s { scope = ls })

abbrev pub apart : {A : Type 0} → Does A → Does A
apart m s = after (m (record s { scope = [] })) (restoring s.scope)

-- whether a variable of the library is in scope
abbrev pub is_in_scope : State → Variable → Bool
is_in_scope s v = v.top || has_label s.scope v.label
