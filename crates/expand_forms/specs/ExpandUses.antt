-- Uses of keywords (R6RS 10): one gives another form in its place, until a form is no use.
use Rattle.std.specs.Prelude.{ℕ, zero, suc, Bool, true, false, List, Option, None, Some, Ok}
use Rattle.base_data.specs.Act.{after, give}
use Rattle.base_data.specs.declared.fault.FaultKind.TheVariants as kind
use Rattle.base_data.specs.declared.name.FrameNo.{FrameNo}
use Rattle.base_data.specs.declared.name.Label.{Label}
use Rattle.base_data.specs.declared.op.Op.{Op}
use Rattle.base_data.specs.declared.span.Span.{Span}
use Rattle.stx_tree.specs.Tree.{Tree}
use Rattle.core_language.specs.declared.record.CompiledLibrary.{CompiledLibrary}
use Rattle.core_shapes.specs.At.{place_of}
use Rattle.base_data.specs.declared.library.LibName.TheVariants as library
use Rattle.core_language.specs.Core as core
use Rattle.core_language.specs.Core.{PlainCore}
use Rattle.core_language.specs.declared.link.LinkKind.TheVariants as link
use Rattle.stx_tree.specs.Tree as tree
use Rattle.stx_tree.specs.Tree.{span_of}
use Rattle.expand_standing.specs.State.{State, Does, fault_form, fault_word, noted}
use Rattle.expand_standing.specs.RecordUses.{use_record}
use Rattle.expand_standing.specs.Uses.{use_keyword, asks_variable}
use Rattle.expand_heads.specs.Items.{alone, wait, item_plan}
use Rattle.expand_heads.specs.Plan.{plan_of}
use Rattle.expand_heads.specs.declared.item.HeadItem.{HeadItem}
use Rattle.expand_heads.specs.declared.item.HeadItem.TheVariants as head_items
use Rattle.expand_heads.specs.declared.item.Item.{Item}
use Rattle.expand_heads.specs.declared.item.Item.TheVariants as items
use Rattle.expand_heads.specs.declared.plan.HeadPlan.{HeadPlan}
use Rattle.expand_heads.specs.declared.plan.HeadPlan.TheVariants as head_plans
use Rattle.expand_heads.specs.declared.plan.KeywordUse.{KeywordUse}
use Rattle.expand_heads.specs.declared.plan.KeywordUse.TheVariants as keyword_use
use Rattle.expand_heads.specs.declared.plan.Plan.{Plan}
use Rattle.expand_heads.specs.declared.plan.Plan.TheVariants as plans
use Rattle.expand_heads.specs.declared.taken.BodyAt.{BodyAt}
use Rattle.expand_heads.specs.declared.taken.Taken.{Taken}
use Rattle.expand_forms.specs.declared.expand_uses.PlanOrUse.{PlanOrUse}
use Rattle.expand_forms.specs.declared.expand_uses.PlanOrUse.TheVariants as steps
use Rattle.expand_forms.specs.declared.expand_uses.PlannedForm.{PlannedForm}
use Rattle.expand_forms.specs.declared.expand_uses.ItemOrUse.{ItemOrUse}
use Rattle.expand_forms.specs.declared.expand_uses.ItemOrUse.TheVariants as item_steps
use Rattle.expand_forms.specs.declared.expand_uses.PlannedItem.{PlannedItem}

abbrev pub too_many : {A : Type 0} → Tree → Span → Does A
too_many t place = fault_form kind.TooManyExpansions t place

-- Expressions.

-- an assignment to a keyword is a use of a variable transformer
abbrev pub set_step : Span → Tree → Label → Tree → Bool → Does PlanOrUse
set_step place t l id true = give (steps.Use (keyword_use.Macro l))
set_step place t l id false = fault_word kind.KeywordMisuse id t place

abbrev pub first_span : Tree → Option Span
first_span (tree.pair p id rest) = span_of id
first_span t = None

-- the identifier that is assigned
abbrev pub target_span : Tree → Option Span
target_span (tree.pair p head rest) = first_span rest
target_span t = None

-- the label of a primitive is its number among the names of the implementation
abbrev pub linked_primitive : Tree → Op → State → State
linked_primitive t o s = noted (span_of t) (record { 0 = record { library = library.Core; number = o.0 } }) (link.Prim o) s

abbrev pub linked_code : Tree → PlainCore → State → State
linked_code t (core.variable l) s = noted (span_of t) l link.Refer s
linked_code t (core.primitive o) s = linked_primitive t o s
linked_code t c s = s

-- references, and the targets of assignments, are linked
abbrev pub linked : Tree → Plan → State → State
linked t (plans.Done c) s = linked_code t c s
linked t (plans.Assignment l value) s = noted (target_span t) l link.Refer s
linked t p s = s

abbrev pub planned_by : (KeywordUse → Does PlannedForm) → Span → Tree → PlanOrUse → Does PlannedForm
planned_by onward place t (steps.Plan p) s = Ok (record { place = place; form = t; plan = p }, linked t p s)
planned_by onward place t (steps.Use k) s = onward k s

-- Forms of a body. A use in a body has the frame of the body.

abbrev pub at_use : BodyAt → Tree → BodyAt
at_use at t = record at { place = place_of t at.place }

abbrev pub item_done : Item → Taken → Does (Taken × ItemOrUse)
item_done i done = give (done, item_steps.Item i)

module _ (at : BodyAt) (depth : ℕ) where
  abbrev pub set_item_step : Taken → Tree → Label → Bool → Does (Taken × ItemOrUse)
  set_item_step done t l true s = Ok ((done, item_steps.Use (keyword_use.Macro l)), s)
  set_item_step done t l false s = after (wait at depth done t s) (item_done items.Nothing)

abbrev pub item_by : (Taken → KeywordUse → Does (Taken × PlannedItem)) → BodyAt → Tree → Taken × ItemOrUse → Does (Taken × PlannedItem)
item_by onward at t (done, item_steps.Item i) = give (done, record { at = at; form = t; item = i })
item_by onward at t (done, item_steps.Use k) = onward done k

-- Behind these records. First expressions, and then forms of a body.
module _ (rs : List CompiledLibrary) where
  -- the form that a use gives, of a keyword with a transformer or of a record form
  abbrev pub used_form : Span → Tree → KeywordUse → Option FrameNo → Does Tree
  used_form place t (keyword_use.Macro l) frame = use_keyword rs place t l frame
  used_form place t (keyword_use.Record f) frame = use_record place t f frame

  -- the form that a use gives, after which so many uses are left; what comes of it has the place of the use
  unfoldable pub next_form : ℕ → Span → Tree → KeywordUse → Option FrameNo → Does Tree
  next_form left place t k frame s = used_form (place_of t place) t k frame (record s { uses_left = left })

  abbrev pub step_of : Span → Tree → HeadPlan → Does PlanOrUse
  step_of place t (head_plans.Plan p) s = give (steps.Plan p) s
  step_of place t (head_plans.Use k) s = give (steps.Use k) s
  step_of place t (head_plans.SetUse l id) s = after (asks_variable rs (place_of t place) l s) (set_step place t l id)

  unfoldable pub step : Span → ℕ → Tree → Does PlanOrUse
  step place level t s = after (plan_of place level t s) (step_of place t)

  -- what is to be done with the form that comes of uses, where so many are left
  unfoldable pub expand_uses_to : ℕ → Span → ℕ → Tree → Does PlannedForm
  expand_uses_to zero place level t s = after (step place level t s) (planned_by (λ k. too_many t place) place t)
  expand_uses_to (suc left) place level t s =
      after (step place level t s) (planned_by (λ k s'. after (next_form left place t k None s') (expand_uses_to left (place_of t place) level)) place t)

  abbrev pub expand_uses : Span → ℕ → Tree → Does PlannedForm
  expand_uses place level t s = expand_uses_to s.uses_left place level t s

  abbrev pub item_step_of : BodyAt → ℕ → Tree → Taken → HeadItem → Does (Taken × ItemOrUse)
  item_step_of at depth t done (head_items.Item i) s = item_done i done s
  item_step_of at depth t done (head_items.Use k) s = give (done, item_steps.Use k) s
  item_step_of at depth t done (head_items.SetUse l) s = after (asks_variable rs (place_of t at.place) l s) (set_item_step at depth done t l)

  unfoldable pub item_step : BodyAt → ℕ → Taken → Tree → Does (Taken × ItemOrUse)
  item_step at depth done t s = after (item_plan at depth done t s) (λ p. item_step_of at depth t p.0 p.1)

  -- what is to be done with the form of a body that comes of uses, where so many are left
  unfoldable pub expand_item_uses_to : ℕ → BodyAt → ℕ → Taken → Tree → Does (Taken × PlannedItem)
  expand_item_uses_to zero at depth done t s = after (item_step at depth done t s) (item_by (λ done k. too_many t at.place) at t)
  expand_item_uses_to (suc left) at depth done t s =
      after (item_step at depth done t s)
      (item_by (λ taken k s'. after (next_form left at.place t k (Some at.frame) s') (expand_item_uses_to left (at_use at t) depth taken)) at t)

  abbrev pub expand_item_uses : BodyAt → ℕ → Taken → Tree → Does (Taken × PlannedItem)
  expand_item_uses at depth done t s = expand_item_uses_to s.uses_left at depth done t s
