-- What a template gives (libraries report 12.4), and the cells that it adds: parts come first, from left to right, and then the
-- pairs of a list, from its last to its first.
use Rattle.std.specs.Prelude.{ℕ, zero, suc, ◌+◌, List, [], ◌∷◌, ◌++◌, Bool, false, None, Result, Ok, if◌then◌else◌}
use Rattle.base_data.specs.Gives.{◌>>=◌}
use Rattle.base_data.specs.declared.atom.Atom.TheVariants.{Nil}
use Rattle.base_data.specs.declared.fault.Bare.{Bare}
use Rattle.core_language.specs.Template.{PlainTemplate, variable, constant, list, vector, PlainItems, none, more}
use Rattle.core_shapes.specs.Lists as lists
use Rattle.eval_value.specs.FromDatum.{pairs_stored, vector_stored}
use Rattle.eval_value.specs.declared.cell.Cell.{Cell}
use Rattle.eval_value.specs.declared.value.Value.{Value}
use Rattle.eval_value.specs.declared.value.Value.TheVariants as value
use Rattle.eval_template.specs.Binds.{Binds, Absent, reached, value_of}
use Rattle.eval_template.specs.Lengths.{lengths, agree, or_none}

-- adds cells and gives something, or there is a fault
abbrev pub Adds : Type 0 → Type 0
Adds A = List Cell → Result (A × List Cell) Bare

abbrev pub then_add : {A B : Type 0} → Result (A × List Cell) Bare → (A → Adds B) → Result (B × List Cell) Bare
then_add r go = r >>= λ p. go p.0 p.1

-- so many turns from the i-th on
abbrev pub turned : (List ℕ → List Value → Adds (List Value)) → ℕ → ℕ → List ℕ → List Value → Adds (List Value)
turned go zero i turns done cells = Ok (done, cells)
turned go (suc n) i turns done cells = then_add (go (turns ++ i ∷ []) done cells) (turned go n (i + 1) turns)

-- An item, behind the values so far: at each of its ellipses, one part for each turn. The lengths at an ellipsis are looked at
-- before any part is built.
abbrev pub item : (List ℕ → Adds Value) → (ℕ → List ℕ → List ℕ) → ℕ → List ℕ → List Value → Adds (List Value)
item go counts zero turns done cells = then_add (go turns cells) (λ v cells. Ok (done ++ v ∷ [], cells))
item go counts (suc ellipses) turns done cells =
    agree None (counts ellipses turns) >>= λ n. turned (item go counts ellipses) (or_none n) 0 turns done cells

-- the lengths at the ellipsis that so many stand inside
abbrev pub counts : Absent → Binds → PlainTemplate → ℕ → List ℕ → List ℕ
counts absent binds t inside turns = lengths absent binds turns inside t

-- the Nil that ends a list is plain
abbrev pub is_end : PlainTemplate → Bool
is_end (constant t) = lists.is_nil t
is_end (variable l depth) = false
is_end (list is t) = false
is_end (vector is) = false

abbrev pub ending : PlainTemplate → Adds Value → Adds Value
ending t go cells = if is_end t then Ok (value.Atom Nil, cells) else go cells

abbrev mutual
  pub instance : Absent → Binds → PlainTemplate → List ℕ → Adds Value
  instance absent binds (variable l depth) turns cells = Ok (value_of absent (reached binds l depth turns), cells)
  instance absent binds (constant t) turns cells = Ok (value.Syn t, cells)
  instance absent binds (list is t) turns cells =
      then_add (parts absent binds is turns [] cells) (λ xs cells. then_add (ending t (instance absent binds t turns) cells)
      (λ v cells. Ok (pairs_stored xs (v, cells))))
  instance absent binds (vector is) turns cells = then_add (parts absent binds is turns [] cells) (λ xs cells. Ok (vector_stored (xs, cells)))

  -- the values of items, behind those that are there
  pub parts : Absent → Binds → PlainItems → List ℕ → List Value → Adds (List Value)
  parts absent binds none turns done cells = Ok (done, cells)
  parts absent binds (more t ellipses is) turns done cells =
      then_add (item (instance absent binds t) (counts absent binds t) ellipses turns done cells) (parts absent binds is turns)
