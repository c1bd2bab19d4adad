-- Patterns and templates in an expansion (libraries report 12.4).
use Rattle.std.specs.Prelude.{ℕ, Bool, true, false, not, List, [], ◌∷◌, ◌++◌, Option, None, Some, Result, Ok, Err, if◌then◌else◌}
use Rattle.base_data.specs.Act.{after, gather}
use Rattle.base_data.specs.declared.fault.Fault.{Fault}
use Rattle.base_data.specs.declared.fault.FaultKind.TheVariants as kind
use Rattle.base_data.specs.declared.name.FrameNo.{FrameNo}
use Rattle.base_data.specs.declared.name.Label.{Label}
use Rattle.base_data.specs.declared.span.Span.{Span}
use Rattle.stx_tree.specs.Tree as tree
use Rattle.stx_tree.specs.Tree.{Tree}
use Rattle.stx_scope.specs.Stands.{stands}
use Rattle.core_language.specs.Bindings.{bound_to}
use Rattle.core_language.specs.Labels.{has_label, with_label}
use Rattle.core_language.specs.Template.{PlainTemplate, variable, constant, list, vector, PlainItems, none, more}
use Rattle.core_language.specs.declared.binding.Binding.{Binding}
use Rattle.core_language.specs.declared.binding.Binding.TheVariants as binding
use Rattle.eval_pattern.specs.declared.compile.Compiled.{Compiled}
use Rattle.eval_pattern.specs.declared.compile.PatternVariable.{PatternVariable}
use Rattle.eval_stage.specs.Patterns as stage
use Rattle.eval_template.specs.Compile as templates
use Rattle.expand_standing.specs.State.{State, Does, on_stage, fault_form, fault_word}
use Rattle.expand_standing.specs.Binders.{put_row}

-- Patterns.

-- the pattern of a form; the next names are the labels of its variables
abbrev pub pattern_of : List Tree → Span → Tree → Does Compiled
pattern_of literals place t = on_stage (stage.pattern_of literals place t)

abbrev pub check_literals : Span → List Tree → Does (Unit {0})
check_literals place literals = on_stage (stage.check_literals place literals)

abbrev pub put_pattern_variable : Label → ℕ → ℕ → Does (Unit {0})
put_pattern_variable l level depth s = Ok (
  tt,
  record s {
    bindings = s.bindings ++ (l, binding.PatternVariable level depth) ∷ [];
    scope
        = with_label s.scope l;
  },
)

unfoldable pub bind_pattern_variable : FrameNo → Span → ℕ → PatternVariable → Does (Unit {0})
bind_pattern_variable frame place level v s = after (put_row v.id place frame v.label s) (λ _. put_pattern_variable v.label level v.depth)

abbrev pub bind_next : FrameNo → Span → ℕ → Unit {0} → PatternVariable → Does (Unit {0})
bind_next frame place level done v = bind_pattern_variable frame place level v

-- the variables of a pattern in a frame
abbrev pub bind_pattern : FrameNo → Span → ℕ → List PatternVariable → Does (Unit {0})
bind_pattern frame place level vs = gather (bind_next frame place level) tt vs

-- Templates.

-- whether all pattern variables of a template are in scope
abbrev mutual
  pub has_variables : List Label → PlainTemplate → Bool
  has_variables scope (variable l d) = has_label scope l
  has_variables scope (constant t) = true
  has_variables scope (list is t) = if has_item_variables scope is then has_variables scope t else false
  has_variables scope (vector is) = has_item_variables scope is

  pub has_item_variables : List Label → PlainItems → Bool
  has_item_variables scope none = true
  has_item_variables scope (more t e is) = if has_variables scope t then has_item_variables scope is else false

abbrev pub is_pattern_variable : Option Binding → Bool
is_pattern_variable (Some (binding.PatternVariable level depth)) = true
is_pattern_variable _ = false

-- whether what stands for a label is a pattern variable out of scope
abbrev pub is_outside : State → Option Label → Bool
is_outside s None = false
is_outside s (Some l) = if is_pattern_variable (bound_to s.bindings l) then not (has_label s.scope l) else false

abbrev pub first_of : Option Tree → Option Tree → Option Tree
first_of None o = o
first_of (Some t) o = Some t

abbrev pub if_outside : Bool → Tree → Option Tree
if_outside b t = if b then Some t else None

-- the first leaf that stands for a pattern variable out of scope
abbrev pub first_outside : State → Tree → Option Tree
first_outside s (tree.atom p a) = None
first_outside s (tree.leaf p x c) = if_outside (is_outside s (stands s.frames (tree.leaf p x c))) (tree.leaf p x c)
first_outside s (tree.pair p a d) = first_of (first_outside s a) (first_outside s d)
first_outside s (tree.vector p d) = first_outside s d

abbrev pub all_outside : State → List Tree → Option Tree
all_outside s [] = None
all_outside s (t ∷ ts) = first_of (first_outside s t) (all_outside s ts)

abbrev pub outside_fault : {A : Type 0} → Span → Tree → Option Tree → Does A
outside_fault place t None = fault_form kind.OutOfContext t place
outside_fault place t (Some id) = fault_word kind.OutOfContext id id place

abbrev pub template_in : Span → Tree → State → Result PlainTemplate Fault → Result (PlainTemplate × State) Fault
template_in place t s (Err f) = Err f
template_in place t s (Ok x) = if has_variables s.scope x then Ok (x, s) else outside_fault place t (first_outside s t) s

-- the template of a form at a level; scope is looked at after all else
unfoldable pub template_of : Span → ℕ → Tree → Does PlainTemplate
template_of place level t s = template_in place t s (templates.compiled (record { frames = s.frames; bindings = s.bindings; level = level; place = place }) t)
