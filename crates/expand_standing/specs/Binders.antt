-- Binding identifiers in frames.
use Rattle.std.specs.Prelude.{◌≡◌, ℕ, ◌+◌, Bool, false, List, [], ◌∷◌, ◌++◌, Option, None, Some, Result, Ok, Err, if◌then◌else◌, nat_eq}
use Rattle.base_data.specs.Act.{after, give, each}
use Rattle.base_data.specs.Named.{Named}
use Rattle.base_data.specs.declared.fault.Bare.{Bare}
use Rattle.base_data.specs.declared.fault.Fault.{Fault}
use Rattle.base_data.specs.declared.fault.Stop.{Stop}
use Rattle.base_data.specs.declared.fault.Stop.TheVariants as stops
use Rattle.base_data.specs.declared.fault.BareStop.{BareStop}
use Rattle.base_data.specs.declared.fault.BareStop.TheVariants as bare_stops
use Rattle.base_data.specs.declared.name.Label.{Label}
use Rattle.base_data.specs.declared.name.FrameNo.{FrameNo}
use Rattle.base_data.specs.declared.span.Span.{Span}
use Rattle.stx_tree.specs.Tree.{Tree}
use Rattle.stx_frames.specs.Scope.{Scope, bound}
use Rattle.stx_scope.specs.Stands.{symbol_of, row_for}
use Rattle.core_language.specs.declared.binding.Binding.TheVariants as binding
use Rattle.core_language.specs.declared.binding.VarInfo.{VarInfo}
use Rattle.core_language.specs.declared.formals.Formals.{Formals}
use Rattle.core_shapes.specs.declared.shape.FormalIds.{FormalIds}
use Rattle.core_shapes.specs.declared.shape.BindingSpec.{BindingSpec}
use Rattle.core_shapes.specs.At.{place_of}
use Rattle.core_shapes.specs.Lists.{is_leaf}
use Rattle.base_data.specs.declared.fault.FaultKind.TheVariants as kind
use Rattle.expand_standing.specs.declared.binders.BoundSpec.{BoundSpec}
use Rattle.core_language.specs.declared.link.LinkKind.TheVariants as link
use Rattle.stx_tree.specs.Tree.{span_of}
use Rattle.expand_standing.specs.State.{State, Does, fresh, fault_form, note}
use Rattle.expand_standing.specs.InScope.{with_local}

-- the number of a variable of level 0 among those of the library
abbrev pub index_at : ℕ → ℕ → Option ℕ
index_at level n = if nat_eq level 0 then Some n else None

abbrev pub next_index : ℕ → ℕ → ℕ
next_index level n = if nat_eq level 0 then n + 1 else n

abbrev pub variable_for : Tree → ℕ → Bool → ℕ → VarInfo
variable_for id level top n = record { symbol = symbol_of id; index = index_at level n; level = level; top = top; assigned = false }

-- a fault of a form at its place
abbrev pub fault_of : Bare → Tree → Span → Fault
fault_of b form place = record { kind = b.kind; span = place_of form place; words = b.words }

abbrev pub StopsAt : Stop → BareStop → Tree → Span → Type 0
StopsAt (stops.Fault f) (bare_stops.Fault b) form place = fault_of b form place ≡ f
StopsAt (stops.Fault f) bare_stops.Memory form place = ⊥
StopsAt stops.Memory b form place = Unit {0}

abbrev pub row_put : Tree → Span → State → Result Scope Bare → Result (Unit {0} × State) Fault
row_put id place s (Err b) = Err (fault_of b id place)
row_put id place s (Ok frames) = Ok (tt, record s { frames = frames })

-- the row of a binder in a frame, or the fault at the binder
abbrev pub put_row : Tree → Span → FrameNo → Label → Does (Unit {0})
put_row id place frame l s = row_put id place s (bound s.frames frame (row_for id l))

abbrev pub put_variable : Label → VarInfo → Does (Unit {0})
put_variable l v s = Ok (
  tt,
  record s {
    bindings = s.bindings ++ (l, binding.Variable v) ∷ [];
    index = next_index v.level s.index;
    scope
        = with_local v.top l s.scope;
  },
)

-- The binders of a form stand in one frame, at its place and level.
module _ (frame : FrameNo) (place : Span) (level : ℕ) where
  abbrev pub bind_as : Tree → Bool → Named → Does Label
  bind_as id top n s = after (put_row id place frame (record { 0 = n }) s)
      (λ _ t. after (put_variable (record { 0 = n }) (variable_for id level top s.index) t)
      (λ _. note (record { 0 = n }) (span_of id) (record { 0 = n }) link.Bind))

  -- binds an identifier in a frame to a new variable; a second binder of one identifier is at fault
  unfoldable pub bind_variable : Bool → Tree → Does Label
  bind_variable top id s = if is_leaf id then after (fresh s) (bind_as id top) else fault_form kind.BadForm id place s

  abbrev pub bind_all : List Tree → Does (List Label)
  bind_all = each (bind_variable false) []

  abbrev pub bind_rest : Option Tree → Does (Option Label)
  bind_rest None s = give None s
  bind_rest (Some id) s = after (bind_variable false id s) (λ l. give (Some l))

  -- a variable of a `letrec`, with the expression of its value
  unfoldable pub bind_spec : BindingSpec → Does BoundSpec
  bind_spec b s = after (bind_variable false b.id s) (λ l. give (record { label = l; init = b.init }))

  abbrev pub bind_specs : List BindingSpec → Does (List BoundSpec)
  bind_specs = each bind_spec []

  -- the formals of a procedure, from left to right
  unfoldable pub bind_formals : FormalIds → Does Formals
  bind_formals ids s =
      after (bind_all ids.required s) (λ ls t. after (bind_rest ids.rest t) (λ r. give (record { required = ls; rest = r })))
