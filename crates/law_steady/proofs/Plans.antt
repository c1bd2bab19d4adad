-- What is to be done with a form is told safely.
use Rattle.std.proofs.Common.{ℕ, Bool, true, false, List, [], ◌∷◌, Option, Some, None, Result, Ok, Err, refl}
use Rattle.std.specs.Prelude.{◌&&◌, not, nat_eq}
use Rattle.base_data.specs.Act.{after, give}
use Rattle.base_data.specs.declared.fault.Fault.{Fault}
use Rattle.base_data.specs.declared.library.LibName.{LibName}
use Rattle.base_data.specs.declared.name.CodeNo.{CodeNo}
use Rattle.base_data.specs.declared.name.Label.{Label}
use Rattle.base_data.specs.declared.span.Span.{Span}
use Rattle.stx_tree.specs.Tree.{Tree, atom, leaf, pair, vector}
use Rattle.core_language.specs.Core.{instance}
use Rattle.core_language.specs.Labels.{has_label, with_label}
use Rattle.core_language.specs.declared.core_form.CoreForm.{CoreForm}
use Rattle.core_language.specs.declared.core_form.CoreForm.TheVariants as core_forms
use Rattle.core_language.specs.declared.record.CompiledLibrary.{CompiledLibrary}
use Rattle.core_shapes.specs.At.{place_of}
use Rattle.core_shapes.specs.Forms.{or_bad, shape_of, shape}
use Rattle.core_shapes.specs.Lists.{is_leaf, is_nil_atom, proper_elements}
use Rattle.core_shapes.specs.declared.shape.BindingSpec.{BindingSpec}
use Rattle.core_shapes.specs.declared.shape.Shape.{Shape}
use Rattle.core_shapes.specs.declared.shape.Shape.TheVariants as shapes
use Rattle.expand_standing.specs.Binders.{bind_variable}
use Rattle.expand_standing.specs.InScope.{is_in_scope}
use Rattle.expand_standing.specs.Own.{mark_assigned}
use Rattle.expand_standing.specs.Patterns.{template_of}
use Rattle.expand_standing.specs.Standing.{standing_of, role_of}
use Rattle.expand_standing.specs.State.{State, Does}
use Rattle.expand_standing.specs.declared.standing.Role.{Role}
use Rattle.expand_standing.specs.declared.standing.Role.TheVariants as role
use Rattle.expand_standing.specs.declared.standing.Standing.{Standing}
use Rattle.expand_standing.specs.declared.standing.Standing.TheVariants as standing
use Rattle.expand_standing.specs.declared.standing.Variable.{Variable}
use Rattle.expand_heads.specs.declared.item.HeadItem.{HeadItem}
use Rattle.expand_heads.specs.declared.item.HeadItem.TheVariants as head_items
use Rattle.expand_heads.specs.declared.plan.HeadPlan.TheVariants as head_plans
use Rattle.expand_heads.specs.Items as items_of
use Rattle.expand_heads.specs.Items.{wait, keep, any_changed, heads_like, is_mixed, is_top, with_waiting, in_time, keyword_in_time, define, define_item, target_item, set_item, begin_item, keywords_item, core_item, headed_item, list_item, leaf_by, leaf_item, item_plan}
use Rattle.expand_heads.specs.Plan as plans_of
use Rattle.expand_heads.specs.Plan.{variable_at, refer, reference, constant, target_variable, target_by, assign_to, assign_by, assign, call_of, application, in_sequence, keywords_plan, operand_plan, shape_plan, keyword_plan, by_head, list_plan, plan_of}
use Rattle.expand_heads.specs.declared.item.Item.TheVariants as items
use Rattle.expand_heads.specs.declared.plan.Plan.TheVariants as plans
use Rattle.expand_heads.specs.declared.taken.BodyAt.{BodyAt}
use Rattle.expand_heads.specs.declared.taken.Taken.{Taken}
use Rattle.expand_heads.specs.declared.taken.Waits.TheVariants as waits
use Rattle.law_steady.proofs.Binders.{light, variable-light, template-light}
use Rattle.law_steady.proofs.Safe.{Safe, safe-rest, Light, light-self}
use Rattle.law_steady.proofs.Says.{Says}
use Rattle.law_steady.proofs.Sure.{Sure, sure-if}

says-shape : (f : CoreForm) (t : Tree) (place : Span) → Says (shape f t place)
unfolding shape
says-shape f t place = by (shape_of f t)
  where
    by : (o : Option Shape) → Says (or_bad t place o)
    by None = tt
    by (Some x) = tt

module _ (own : LibName) (texts : List CodeNo) (rs : List CompiledLibrary) where
  abbrev S : State → Type 0
  S = Safe own texts rs

  abbrev self : (s : State) → S s → Light own texts rs s s
  self s h = light-self own texts rs s h

  abbrev M : {A : Type 0} → State → A → State → Type 0
  M s a u = Light own texts rs s u

  -- References and assignments.

  refers : (place : Span) (level : ℕ) (id : Tree) (v : Variable) (s : State) → S s → Sure (M s) (variable_at place level id v s)
  unfolding variable_at
  refers place level id v s h =
      sure-if (M s) v.own _ _
      (λ e. sure-if (M s) (nat_eq v.level level) _ _ (λ e. sure-if (M s) (is_in_scope s v) _ _ (λ e. self s h) (λ e. tt)) (λ e. tt))
      (λ e. sure-if (M s) v.top _ _ (λ e. sure-if (M s) v.assigned _ _ (λ e. tt) (λ e. self s h)) (λ e. tt))

  refers-by : (place : Span) (level : ℕ) (id : Tree) (st : Standing) (s : State) → S s → Sure (M s) (refer place level id st s)
  refers-by place level id standing.Nothing s h = tt
  refers-by place level id (standing.Variable v) s h = refers place level id v s h
  refers-by place level id standing.PatternVariable s h = tt
  refers-by place level id (standing.Primitive op) s h = self s h
  refers-by place level id (standing.Core f) s h = tt
  refers-by place level id (standing.Keyword l) s h = self s h

  reference-light : (place : Span) (level : ℕ) (id : Tree) (s : State) → S s → Sure (M s) (reference place level id s)
  unfolding reference
  reference-light place level id s h = refers-by place level id (standing_of s id) s h

  marked : (l : Label) (s : State) → S s → Sure (M s) (mark_assigned l s)
  marked l s h = record { safe = safe-rest own texts rs s s.exports (with_label s.assigned l) s.scope s.uses_left s.record_types h; keywords = refl }

  target : (place : Span) (level : ℕ) (t id : Tree) (v : Variable) (s : State) → S s → Sure (M s) (target_variable place level t id v s)
  unfolding target_variable
  target place level t id v s h =
      sure-if (M s) v.own _ _
      (λ e. sure-if (M s) (nat_eq v.level level) _ _
      (λ e. sure-if (M s) (is_in_scope s v) _ _ (λ e. sure-if (M s) (has_label s.exports v.label) _ _ (λ e. tt) (λ e. marked v.label s h)) (λ e. tt)) (λ e. tt))
      (λ e. sure-if (M s) v.top _ _ (λ e. sure-if (M s) (has_label s.exports v.label) _ _ (λ e. tt) (λ e. tt)) (λ e. tt))

  target-by : (place : Span) (level : ℕ) (t id : Tree) (st : Standing) (s : State) → S s → Sure (M s) (target_by place level t id st s)
  target-by place level t id standing.Nothing s h = tt
  target-by place level t id (standing.Variable v) s h = target place level t id v s h
  target-by place level t id standing.PatternVariable s h = tt
  target-by place level t id (standing.Primitive op) s h = tt
  target-by place level t id (standing.Core f) s h = tt
  target-by place level t id (standing.Keyword l) s h = tt

  assign-by : (place : Span) (level : ℕ) (t id value : Tree) (st : Standing) (s : State) → S s → Sure (M s) (assign_by place level t id value st s)
  assign-by place level t id value standing.Nothing s h = tt
  assign-by place level t id value (standing.Variable v) s h = light own texts rs s (target_variable place level t id v s) (assign_to value) (target place level t id v s h) (λ l u k. self u k)
  assign-by place level t id value standing.PatternVariable s h = tt
  assign-by place level t id value (standing.Primitive op) s h = tt
  assign-by place level t id value (standing.Core f) s h = tt
  assign-by place level t id value (standing.Keyword l) s h = self s h

  assign-light : (place : Span) (level : ℕ) (t id value : Tree) (s : State) → S s → Sure (M s) (assign place level t id value s)
  unfolding assign
  assign-light place level t id value s h = assign-by place level t id value (standing_of s id) s h

  -- Plans.

  module _ (place : Span) (level : ℕ) where
    called : (t operator : Tree) (o : Option (List Tree)) (s : State) → S s → Sure (M s) (call_of place t operator o s)
    called t operator None s h = tt
    called t operator (Some operands) s h = self s h

    application-light : (t operator rest : Tree) (s : State) → S s → Sure (M s) (application place t operator rest s)
    unfolding application
    application-light t operator rest s h = called t operator (proper_elements rest) s h

    sequence-light : (t : Tree) (forms : List Tree) (s : State) → S s → Sure (M s) (in_sequence place t forms s)
    sequence-light t [] s h = tt
    sequence-light t (x ∷ xs) s h = self s h

    keywords-light : (t : Tree) (f : CoreForm) (bs : List BindingSpec) (forms : List Tree) (s : State) → S s → Sure (M s) (keywords_plan place t f bs forms s)
    keywords-light t f bs [] s h = tt
    keywords-light t f bs (x ∷ xs) s h = self s h

    operand-light : (t : Tree) (f : CoreForm) (operand : Tree) (s : State) → S s → Sure (M s) (operand_plan place level t f operand s)
    operand-light t core_forms.Syntax operand s h =
        light own texts rs s (template_of place level operand s) (λ x. give (head_plans.Plan (plans.Done (instance x (place_of t place))))) (template-light own texts rs place level operand s h) (λ x u k. self u k)
    operand-light t core_forms.Quasiquote operand s h = self s h
    operand-light t core_forms.Quasisyntax operand s h = self s h
    operand-light t core_forms.Quote operand s h = tt
    operand-light t core_forms.Lambda operand s h = tt
    operand-light t core_forms.CaseLambda operand s h = tt
    operand-light t core_forms.If operand s h = tt
    operand-light t core_forms.Set operand s h = tt
    operand-light t core_forms.Begin operand s h = tt
    operand-light t core_forms.Letrec operand s h = tt
    operand-light t core_forms.LetrecStar operand s h = tt
    operand-light t core_forms.Define operand s h = tt
    operand-light t core_forms.DefineSyntax operand s h = tt
    operand-light t core_forms.LetSyntax operand s h = tt
    operand-light t core_forms.LetrecSyntax operand s h = tt
    operand-light t core_forms.SyntaxCase operand s h = tt
    operand-light t core_forms.Else operand s h = tt
    operand-light t core_forms.Arrow operand s h = tt
    operand-light t core_forms.Ellipsis operand s h = tt
    operand-light t core_forms.Underscore operand s h = tt
    operand-light t core_forms.Unquote operand s h = tt
    operand-light t core_forms.UnquoteSplicing operand s h = tt
    operand-light t core_forms.Unsyntax operand s h = tt
    operand-light t core_forms.UnsyntaxSplicing operand s h = tt
    operand-light t core_forms.DefineRecordType operand s h = tt
    operand-light t core_forms.RecordTypeDescriptor operand s h = tt
    operand-light t core_forms.RecordConstructorDescriptor operand s h = tt
    operand-light t core_forms.Fields operand s h = tt
    operand-light t core_forms.Mutable operand s h = tt
    operand-light t core_forms.Immutable operand s h = tt
    operand-light t core_forms.Parent operand s h = tt
    operand-light t core_forms.Protocol operand s h = tt
    operand-light t core_forms.Sealed operand s h = tt
    operand-light t core_forms.Opaque operand s h = tt
    operand-light t core_forms.Nongenerative operand s h = tt
    operand-light t core_forms.ParentRtd operand s h = tt

    shape-light : (t : Tree) (f : CoreForm) (x : Shape) (s : State) → S s → Sure (M s) (shape_plan place level t f x s)
    unfolding shape_plan
    shape-light t f (shapes.Quote datum) s h = self s h
    shape-light t f (shapes.Lambda ids forms) s h = self s h
    shape-light t f (shapes.CaseLambda cs) s h = self s h
    shape-light t f (shapes.If test consequent other) s h = self s h
    shape-light t f (shapes.Set id value) s h = assign-light place level t id value s h
    shape-light t f (shapes.Begin forms) s h = sequence-light t forms s h
    shape-light t f (shapes.Letrec bs forms) s h = self s h
    shape-light t f (shapes.Define id value) s h = tt
    shape-light t f (shapes.DefineProcedure id ids forms) s h = tt
    shape-light t f (shapes.DefineSyntax id value) s h = tt
    shape-light t f (shapes.LetSyntax bs forms) s h = keywords-light t f bs forms s h
    shape-light t f (shapes.Operand operand) s h = operand-light t f operand s h
    shape-light t f (shapes.SyntaxCase subject literals clauses) s h = self s h

    shaped-light : (t : Tree) (f : CoreForm) (r : Result Shape Fault) (s : State) → Says r → S s → Sure (M s) (plans_of.with_shape place level t f r s)
    shaped-light t f (Err e) s k h = k
    shaped-light t f (Ok x) s k h = shape-light t f x s h

    role-light : (t head : Tree) (f : CoreForm) (r : Role) (s : State) → S s → Sure (M s) (plans_of.by_role place level t head f r s)
    role-light t head f role.Expression s h = shaped-light t f (shape f t place) s (says-shape f t place) h
    role-light t head f role.Assignment s h = shaped-light t f (shape f t place) s (says-shape f t place) h
    role-light t head f role.Sequence s h = shaped-light t f (shape f t place) s (says-shape f t place) h
    role-light t head f role.Definition s h = shaped-light t f (shape f t place) s (says-shape f t place) h
    role-light t head f role.Keywords s h = shaped-light t f (shape f t place) s (says-shape f t place) h
    role-light t head f role.Record s h = tt
    role-light t head f role.RecordValue s h = self s h
    role-light t head f role.Auxiliary s h = tt

    keyword-light : (t head : Tree) (f : CoreForm) (s : State) → S s → Sure (M s) (keyword_plan place level t head f s)
    unfolding keyword_plan
    keyword-light t head f s h = role-light t head f (role_of f) s h

    head-light : (t head rest : Tree) (st : Standing) (s : State) → S s → Sure (M s) (by_head place level t head rest st s)
    head-light t head rest standing.Nothing s h = application-light t head rest s h
    head-light t head rest (standing.Variable v) s h = application-light t head rest s h
    head-light t head rest standing.PatternVariable s h = application-light t head rest s h
    head-light t head rest (standing.Primitive op) s h = application-light t head rest s h
    head-light t head rest (standing.Core f) s h = keyword-light t head f s h
    head-light t head rest (standing.Keyword l) s h = self s h

    list-light : (t head rest : Tree) (s : State) → S s → Sure (M s) (list_plan place level t head rest s)
    unfolding list_plan
    list-light t head rest s h = sure-if (M s) (is_leaf head) _ _ (λ e. head-light t head rest (standing_of s head) s h) (λ e. application-light t head rest s h)

    constant-light : (t : Tree) (b : Bool) (s : State) → S s → Sure (M s) (constant place t b s)
    constant-light t true s h = tt
    constant-light t false s h = self s h

    pub plan-light : (t : Tree) (s : State) → S s → Sure (M s) (plan_of place level t s)
    plan-light (atom p a) s h = constant-light (atom p a) (is_nil_atom a) s h
    plan-light (leaf p x c) s h = reference-light place level (leaf p x c) s h
    plan-light (pair p a d) s h = list-light (pair p a d) a d s h
    plan-light (vector p d) s h = tt

  -- Forms of a body.

  module _ (at : BodyAt) where
    in-time-light : (d : Taken) (id : Tree) (s : State) → S s → Sure (M s) (in_time at d id s)
    unfolding in_time
    in-time-light d id s h = sure-if (M s) (any_changed false s (heads_like d id)) _ _ (λ e. tt) (λ e. self s h)

    define-light : (d : Taken) (t id : Tree) (s : State) → S s → Sure (M s) (define at d t id s)
    unfolding define
    define-light d t id s h =
        sure-if (M s) (d.has_expression && not (is_mixed at.kind)) _ _ (λ e. tt)
        (λ e. light own texts rs s (bind_variable at.frame at.place at.level (is_top at.kind) id s) (λ l u. after (in_time at d id u) (λ taken. give (taken, l))) (variable-light own texts rs at.frame at.place at.level (is_top at.kind) id s h)
        (λ l u k. light own texts rs u (in_time at d id u) (λ taken. give (taken, l)) (in-time-light d id u k) (λ x v j. self v j)))

    module _ (depth : ℕ) where
      wait-light : (d : Taken) (t : Tree) (s : State) → S s → Sure (M s) (items_of.alone (wait at depth d t) s)
      wait-light d t s h = self s h

      definition-light : (d : Taken) (t : Tree) (x : Shape) (s : State) → S s → Sure (M s) (define_item at depth d t x s)
      unfolding define_item
      definition-light d t (shapes.Define id value) s h =
          light own texts rs s (define at d t id s) (λ e. give (with_waiting at depth e.0 (waits.Variable e.1 value))) (define-light d t id s h) (λ e u k. self u k)
      definition-light d t (shapes.DefineProcedure id ids forms) s h =
          light own texts rs s (define at d t id s) (λ e. give (with_waiting at depth e.0 (waits.Procedure e.1 t ids forms))) (define-light d t id s h) (λ e u k. self u k)
      definition-light d t (shapes.Quote a) s h = tt
      definition-light d t (shapes.Lambda a b) s h = tt
      definition-light d t (shapes.CaseLambda a) s h = tt
      definition-light d t (shapes.If a b c) s h = tt
      definition-light d t (shapes.Set a b) s h = tt
      definition-light d t (shapes.Begin a) s h = tt
      definition-light d t (shapes.Letrec a b) s h = tt
      definition-light d t (shapes.DefineSyntax a b) s h = tt
      definition-light d t (shapes.LetSyntax a b) s h = tt
      definition-light d t (shapes.Operand a) s h = tt
      definition-light d t (shapes.SyntaxCase a b c) s h = tt

      keep-light : (d : Taken) (id : Tree) (s : State) → S s → Sure (M s) (keep d id s)
      unfolding keep
      keep-light d id s h = self s h

      target-light : (d : Taken) (t : Tree) (st : Standing) (s : State) → S s → Sure (M s) (target_item at depth d t st s)
      target-light d t standing.Nothing s h = self s h
      target-light d t (standing.Variable v) s h = self s h
      target-light d t standing.PatternVariable s h = self s h
      target-light d t (standing.Primitive op) s h = self s h
      target-light d t (standing.Core f) s h = self s h
      target-light d t (standing.Keyword l) s h = self s h

      set-light : (d : Taken) (t : Tree) (r : Result Shape Fault) (s : State) → S s → Sure (M s) (set_item at depth d t r s)
      set-light d t (Ok (shapes.Set id value)) s h = light own texts rs s (keep d id s) (λ kept u. target_item at depth kept t (standing_of u id) u) (keep-light d id s h) (λ kept u k. target-light kept t (standing_of u id) u k)
      set-light d t (Ok (shapes.Quote a)) s h = self s h
      set-light d t (Ok (shapes.Lambda a b)) s h = self s h
      set-light d t (Ok (shapes.CaseLambda a)) s h = self s h
      set-light d t (Ok (shapes.If a b c)) s h = self s h
      set-light d t (Ok (shapes.Begin a)) s h = self s h
      set-light d t (Ok (shapes.Letrec a b)) s h = self s h
      set-light d t (Ok (shapes.Define a b)) s h = self s h
      set-light d t (Ok (shapes.DefineProcedure a b c)) s h = self s h
      set-light d t (Ok (shapes.DefineSyntax a b)) s h = self s h
      set-light d t (Ok (shapes.LetSyntax a b)) s h = self s h
      set-light d t (Ok (shapes.Operand a)) s h = self s h
      set-light d t (Ok (shapes.SyntaxCase a b c)) s h = self s h
      set-light d t (Err e) s h = self s h

      begin-light : (d : Taken) (t : Tree) (x : Shape) (s : State) → S s → Sure (M s) (begin_item at d t x s)
      unfolding begin_item
      begin-light d t (shapes.Begin forms) s h = self s h
      begin-light d t (shapes.Quote a) s h = tt
      begin-light d t (shapes.Lambda a b) s h = tt
      begin-light d t (shapes.CaseLambda a) s h = tt
      begin-light d t (shapes.If a b c) s h = tt
      begin-light d t (shapes.Set a b) s h = tt
      begin-light d t (shapes.Letrec a b) s h = tt
      begin-light d t (shapes.Define a b) s h = tt
      begin-light d t (shapes.DefineProcedure a b c) s h = tt
      begin-light d t (shapes.DefineSyntax a b) s h = tt
      begin-light d t (shapes.LetSyntax a b) s h = tt
      begin-light d t (shapes.Operand a) s h = tt
      begin-light d t (shapes.SyntaxCase a b c) s h = tt

      keywords-item-light : (d : Taken) (t : Tree) (f : CoreForm) (x : Shape) (s : State) → S s → Sure (M s) (keywords_item at d t f x s)
      unfolding keywords_item
      keywords-item-light d t f (shapes.DefineSyntax id value) s h = self s h
      keywords-item-light d t f (shapes.LetSyntax bs forms) s h = self s h
      keywords-item-light d t f (shapes.Quote a) s h = tt
      keywords-item-light d t f (shapes.Lambda a b) s h = tt
      keywords-item-light d t f (shapes.CaseLambda a) s h = tt
      keywords-item-light d t f (shapes.If a b c) s h = tt
      keywords-item-light d t f (shapes.Set a b) s h = tt
      keywords-item-light d t f (shapes.Begin a) s h = tt
      keywords-item-light d t f (shapes.Letrec a b) s h = tt
      keywords-item-light d t f (shapes.Define a b) s h = tt
      keywords-item-light d t f (shapes.DefineProcedure a b c) s h = tt
      keywords-item-light d t f (shapes.Operand a) s h = tt
      keywords-item-light d t f (shapes.SyntaxCase a b c) s h = tt

      shaped-item : (r : Result Shape Fault) (k : Shape → Does (Taken × HeadItem)) (s : State) → Says r → ((x : Shape) → Sure (M s) (k x s)) → Sure (M s) (items_of.with_shape r k s)
      shaped-item (Err e) k s h next = h
      shaped-item (Ok x) k s h next = next x

      role-item : (d : Taken) (t : Tree) (f : CoreForm) (r : Role) (s : State) → S s → Sure (M s) (items_of.item_by at depth d t f r s)
      role-item d t f role.Expression s h = self s h
      role-item d t f role.Assignment s h = set-light d t (shape f t at.place) s h
      role-item d t f role.Sequence s h = shaped-item (shape f t at.place) (begin_item at d t) s (says-shape f t at.place) (λ x. begin-light d t x s h)
      role-item d t f role.Definition s h =
          shaped-item (shape f t at.place) (λ x. items_of.alone (define_item at depth d t x)) s (says-shape f t at.place)
          (λ x. light own texts rs s (define_item at depth d t x s) (λ e. give (e, head_items.Item items.Nothing)) (definition-light d t x s h) (λ e u k. self u k))
      role-item d t f role.Keywords s h = shaped-item (shape f t at.place) (keywords_item at d t f) s (says-shape f t at.place) (λ x. keywords-item-light d t f x s h)
      role-item d t f role.Record s h = self s h
      role-item d t f role.RecordValue s h = self s h
      role-item d t f role.Auxiliary s h = self s h

      core-item-light : (d : Taken) (t : Tree) (f : CoreForm) (s : State) → S s → Sure (M s) (core_item at depth d t f s)
      unfolding core_item
      core-item-light d t f s h = role-item d t f (role_of f) s h

      headed-light : (d : Taken) (t : Tree) (st : Standing) (s : State) → S s → Sure (M s) (headed_item at depth d t st s)
      headed-light d t standing.Nothing s h = self s h
      headed-light d t (standing.Variable v) s h = self s h
      headed-light d t standing.PatternVariable s h = self s h
      headed-light d t (standing.Primitive op) s h = self s h
      headed-light d t (standing.Core f) s h = core-item-light d t f s h
      headed-light d t (standing.Keyword l) s h = self s h

      list-item-light : (d : Taken) (t head : Tree) (s : State) → S s → Sure (M s) (list_item at depth d t head s)
      unfolding list_item
      list-item-light d t head s h =
          sure-if (M s) (is_leaf head) _ _
          (λ e. light own texts rs s (keep d head s) (λ kept u. headed_item at depth kept t (standing_of u head) u) (keep-light d head s h) (λ kept u k. headed-light kept t (standing_of u head) u k)) (λ e. self s h)

      leaf-by-light : (d : Taken) (t : Tree) (st : Standing) (s : State) → S s → Sure (M s) (leaf_by at depth d t st s)
      leaf-by-light d t standing.Nothing s h = self s h
      leaf-by-light d t (standing.Variable v) s h = self s h
      leaf-by-light d t standing.PatternVariable s h = self s h
      leaf-by-light d t (standing.Primitive op) s h = self s h
      leaf-by-light d t (standing.Core f) s h = self s h
      leaf-by-light d t (standing.Keyword l) s h = self s h

      leaf-item-light : (d : Taken) (t : Tree) (s : State) → S s → Sure (M s) (leaf_item at depth d t s)
      unfolding leaf_item
      leaf-item-light d t s h = light own texts rs s (keep d t s) (λ kept u. leaf_by at depth kept t (standing_of u t) u) (keep-light d t s h) (λ kept u k. leaf-by-light kept t (standing_of u t) u k)

      pub item-light : (d : Taken) (t : Tree) (s : State) → S s → Sure (M s) (item_plan at depth d t s)
      item-light d (atom p a) s h = self s h
      item-light d (leaf p x c) s h = leaf-item-light d (leaf p x c) s h
      item-light d (pair p a b) s h = list-item-light d (pair p a b) a s h
      item-light d (vector p b) s h = self s h
