-- What is to be done with a form: what its head stands for decides (R6RS 10 and 11). Nothing in it is expanded yet.
use Rattle.std.specs.Prelude.{ℕ, ◌+◌, Bool, true, false, nat_eq, List, [], ◌∷◌, ◌++◌, Option, None, Some, Result, Ok, Err, if◌then◌else◌}
use Rattle.base_data.specs.Act.{after, give}
use Rattle.base_data.specs.declared.fault.Fault.{Fault}
use Rattle.base_data.specs.declared.fault.FaultKind.TheVariants as kind
use Rattle.base_data.specs.declared.name.Label.{Label}
use Rattle.base_data.specs.declared.span.Span.{Span}
use Rattle.stx_tree.specs.Tree.{Tree, atom, leaf, pair, vector}
use Rattle.stx_tree.specs.Leaves.{strip}
use Rattle.core_language.specs.Core.{PlainCore, quoted, variable, primitive, instance}
use Rattle.core_language.specs.Labels.{has_label}
use Rattle.core_language.specs.declared.core_form.CoreForm.{CoreForm}
use Rattle.core_language.specs.declared.core_form.CoreForm.TheVariants as core_forms
use Rattle.core_quasi.specs.declared.word.Family.TheVariants as family
use Rattle.core_shapes.specs.At.{place_of}
use Rattle.core_shapes.specs.Lists.{is_leaf, is_nil_atom, proper_elements}
use Rattle.core_shapes.specs.Forms.{shape}
use Rattle.core_shapes.specs.declared.shape.BindingSpec.{BindingSpec}
use Rattle.core_shapes.specs.declared.shape.Shape.{Shape}
use Rattle.core_shapes.specs.declared.shape.Shape.TheVariants as shapes
use Rattle.expand_standing.specs.State.{Does, fault_form, fault_word}
use Rattle.expand_standing.specs.InScope.{is_in_scope}
use Rattle.expand_standing.specs.Own.{mark_assigned}
use Rattle.expand_standing.specs.Patterns.{template_of}
use Rattle.expand_standing.specs.Standing.{standing_of, role_of}
use Rattle.expand_standing.specs.declared.standing.Standing.{Standing}
use Rattle.expand_standing.specs.declared.standing.Standing.TheVariants as standing
use Rattle.expand_standing.specs.declared.standing.Variable.{Variable}
use Rattle.expand_standing.specs.declared.standing.Role.{Role}
use Rattle.expand_standing.specs.declared.standing.Role.TheVariants as role
use Rattle.expand_heads.specs.declared.plan.HeadPlan.{HeadPlan}
use Rattle.expand_heads.specs.declared.plan.HeadPlan.TheVariants as head_plans
use Rattle.expand_heads.specs.declared.plan.KeywordUse.TheVariants as keyword_use
use Rattle.expand_heads.specs.declared.plan.Plan.{Plan}
use Rattle.expand_heads.specs.declared.plan.Plan.TheVariants as plans

-- what the head of a form asks for where that is no use of a keyword
abbrev pub planned : Plan → Does HeadPlan
planned p = give (head_plans.Plan p)

abbrev pub done : PlainCore → Does HeadPlan
done c = planned (plans.Done c)

-- References. A variable of the library stands where it is in scope, at its own level; a variable of another library at every level, if that defines it
-- at its top level and doesn't assign it.

unfoldable pub variable_at : Span → ℕ → Tree → Variable → Does HeadPlan
variable_at place level id v s =
    if v.own then (if nat_eq v.level level then (if is_in_scope s v then done (variable v.label) s else fault_word kind.OutOfContext id id place s)
    else fault_word kind.OutOfContext id id place s)
    else if v.top then (if v.assigned then fault_word kind.AssignedElsewhere id id place s else done (variable v.label) s)
    else fault_word kind.OutOfContext id id place s

abbrev pub refer : Span → ℕ → Tree → Standing → Does HeadPlan
refer place level id standing.Nothing = fault_word kind.Unbound id id place
refer place level id (standing.Variable v) = variable_at place level id v
refer place level id standing.PatternVariable = fault_word kind.KeywordMisuse id id place
refer place level id (standing.Primitive op) = done (primitive op)
refer place level id (standing.Core f) = fault_word kind.KeywordMisuse id id place
refer place level id (standing.Keyword l) = give (head_plans.Use (keyword_use.Macro l))

unfoldable pub reference : Span → ℕ → Tree → Does HeadPlan
reference place level id s = refer place level id (standing_of s id) s

-- a constant stands for itself; the empty list is no expression
abbrev pub constant : Span → Tree → Bool → Does HeadPlan
constant place t is_nil s = if is_nil then fault_form kind.BadForm t place s else done (quoted (strip t)) s

-- Calls, sequences, and the binding of keywords.

abbrev pub call_of : Span → Tree → Tree → Option (List Tree) → Does HeadPlan
call_of place t operator None = fault_form kind.BadForm t place
call_of place t operator (Some operands) = planned (plans.Call operator operands)

-- the operator and the rest, which must be a list
unfoldable pub application : Span → Tree → Tree → Tree → Does HeadPlan
application place t operator rest = call_of place t operator (proper_elements rest)

abbrev pub in_sequence : Span → Tree → List Tree → Does HeadPlan
in_sequence place t [] = fault_form kind.NoExpression t place
in_sequence place t (x ∷ xs) = planned (plans.Sequence (x ∷ xs))

abbrev pub is_star : CoreForm → Bool
is_star core_forms.LetrecStar = true
is_star _ = false

-- the expressions of a `letrec-syntax` see its keywords
abbrev pub is_letrec_syntax : CoreForm → Bool
is_letrec_syntax core_forms.LetrecSyntax = true
is_letrec_syntax _ = false

abbrev pub keywords_plan : Span → Tree → CoreForm → List BindingSpec → List Tree → Does HeadPlan
keywords_plan place t f bs [] = fault_form kind.NoExpression t place
keywords_plan place t f bs (x ∷ xs) = planned (plans.Keywords (is_letrec_syntax f) bs (x ∷ xs))

-- Assignments. The target is looked at before the value.

unfoldable pub target_variable : Span → ℕ → Tree → Tree → Variable → Does Label
target_variable place level t id v s =
    if v.own then (if nat_eq v.level level then (if is_in_scope s v then
    (if has_label s.exports v.label then fault_word kind.AssignedExport id t place s else mark_assigned v.label s)
    else fault_word kind.OutOfContext id id place s)
    else fault_word kind.OutOfContext id id place s)
    else if v.top then (if has_label s.exports v.label then fault_word kind.AssignedExport id t place s else fault_word kind.AssignedImport id t place s)
    else fault_word kind.OutOfContext id id place s

abbrev pub target_by : Span → ℕ → Tree → Tree → Standing → Does Label
target_by place level t id standing.Nothing = fault_word kind.Unbound id t place
target_by place level t id (standing.Variable v) = target_variable place level t id v
target_by place level t id standing.PatternVariable = fault_word kind.KeywordMisuse id id place
target_by place level t id (standing.Primitive op) = fault_word kind.AssignedImport id t place
target_by place level t id (standing.Core f) = fault_word kind.KeywordMisuse id t place
target_by place level t id (standing.Keyword l) = fault_word kind.KeywordMisuse id t place

abbrev pub assign_to : Tree → Label → Does HeadPlan
assign_to value l = planned (plans.Assignment l value)

-- A form is planned at one place and level.
module _ (place : Span) (level : ℕ) where
  -- an assignment to a variable; one to a keyword may be a use of it
  abbrev pub assign_by : Tree → Tree → Tree → Standing → Does HeadPlan
  assign_by t id value (standing.Keyword l) s = give (head_plans.SetUse l id) s
  assign_by t id value x s = after (target_by place level t id x s) (assign_to value)

  unfoldable pub assign : Tree → Tree → Tree → Does HeadPlan
  assign t id value s = assign_by t id value (standing_of s id) s

  -- `syntax`, `quasiquote` and `quasisyntax`
  abbrev pub operand_plan : Tree → CoreForm → Tree → Does HeadPlan
  operand_plan t core_forms.Syntax operand s = after (template_of place level operand s) (λ x. done (instance x (place_of t place)))
  operand_plan t core_forms.Quasiquote operand s = planned (plans.Quasi family.Quote operand) s
  operand_plan t core_forms.Quasisyntax operand s = planned (plans.Quasi family.Syntax operand) s
  operand_plan t _ operand s = fault_form kind.BadForm t place s

  -- by the shape of a core form
  unfoldable pub shape_plan : Tree → CoreForm → Shape → Does HeadPlan
  shape_plan t f (shapes.Quote datum) = done (quoted (strip datum))
  shape_plan t f (shapes.Lambda ids forms) = planned (plans.Lambda ids forms)
  shape_plan t f (shapes.CaseLambda cs) = planned (plans.CaseLambda cs)
  shape_plan t f (shapes.If test consequent other) = planned (plans.Conditional test consequent other)
  shape_plan t f (shapes.Set id value) = assign t id value
  shape_plan t f (shapes.Begin forms) = in_sequence place t forms
  shape_plan t f (shapes.Letrec bs forms) = planned (plans.Letrec (is_star f) bs forms)
  shape_plan t f (shapes.Define id value) = fault_form kind.DefinitionPlace t place
  shape_plan t f (shapes.DefineProcedure id ids forms) = fault_form kind.DefinitionPlace t place
  shape_plan t f (shapes.DefineSyntax id value) = fault_form kind.DefinitionPlace t place
  shape_plan t f (shapes.LetSyntax bs forms) = keywords_plan place t f bs forms
  shape_plan t f (shapes.Operand operand) = operand_plan t f operand
  shape_plan t f (shapes.SyntaxCase subject literals clauses) = planned (plans.Matching subject literals clauses (place_of t place))

  abbrev pub with_shape : Tree → CoreForm → Result Shape Fault → Does HeadPlan
  with_shape t f (Err e) s = Err e
  with_shape t f (Ok x) s = shape_plan t f x s

  -- a definition of a record type is looked at no further where no definition may stand
  abbrev pub by_role : Tree → Tree → CoreForm → Role → Does HeadPlan
  by_role t head f role.Expression = with_shape t f (shape f t place)
  by_role t head f role.Assignment = with_shape t f (shape f t place)
  by_role t head f role.Sequence = with_shape t f (shape f t place)
  by_role t head f role.Definition = with_shape t f (shape f t place)
  by_role t head f role.Keywords = with_shape t f (shape f t place)
  by_role t head f role.Record = fault_form kind.DefinitionPlace t place
  by_role t head f role.RecordValue = give (head_plans.Use (keyword_use.Record f))
  by_role t head f role.Auxiliary = fault_word kind.KeywordMisuse head head place

  unfoldable pub keyword_plan : Tree → Tree → CoreForm → Does HeadPlan
  keyword_plan t head f = by_role t head f (role_of f)

  abbrev pub by_head : Tree → Tree → Tree → Standing → Does HeadPlan
  by_head t head rest standing.Nothing = application place t head rest
  by_head t head rest (standing.Variable v) = application place t head rest
  by_head t head rest standing.PatternVariable = application place t head rest
  by_head t head rest (standing.Primitive op) = application place t head rest
  by_head t head rest (standing.Core f) = keyword_plan t head f
  by_head t head rest (standing.Keyword l) = give (head_plans.Use (keyword_use.Macro l))

  -- a list with one or more elements
  unfoldable pub list_plan : Tree → Tree → Tree → Does HeadPlan
  list_plan t head rest s = if is_leaf head then by_head t head rest (standing_of s head) s else application place t head rest s

  abbrev pub plan_of : Tree → Does HeadPlan
  plan_of (atom s a) = constant place (atom s a) (is_nil_atom a)
  plan_of (leaf s x c) = reference place level (leaf s x c)
  plan_of (pair s a d) = list_plan (pair s a d) a d
  plan_of (vector s d) = fault_form kind.BadForm (vector s d) place
