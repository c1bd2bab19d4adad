-- Binders, keywords, uses, templates and patterns keep an invariant.
use Rattle.std.proofs.Common.{◌+◌, ℕ, Bool, true, false, List, [], ◌∷◌, ◌++◌, length, Option, None, Some, Result, Ok, Err, refl, ◌≡◌, if◌then◌else◌}
use Rattle.base_data.proofs.ElementLemmas.{each-and}
use Rattle.base_data.specs.Act.{after, give, each, gather}
use Rattle.base_data.specs.Elements.{Each}
use Rattle.base_data.specs.Named.{Named}
use Rattle.base_data.specs.declared.fault.Bare.{Bare}
use Rattle.base_data.specs.declared.fault.Fault.{Fault}
use Rattle.base_data.specs.declared.name.FrameNo.{FrameNo}
use Rattle.base_data.specs.declared.name.Label.{Label}
use Rattle.base_data.specs.declared.name.Mark.{Mark}
use Rattle.base_data.specs.declared.span.Span.{Span}
use Rattle.stx_tree.specs.Changes.{enter, leave}
use Rattle.stx_tree.specs.declared.change.Change.TheVariants as change
use Rattle.stx_frames.specs.Scope.{Scope, bound}
use Rattle.core_language.specs.Bindings.{bound_to}
use Rattle.core_language.specs.Core.{PlainCore}
use Rattle.core_language.specs.Labels.{same_label}
use Rattle.core_language.specs.Template.{PlainTemplate}
use Rattle.core_language.specs.declared.binding.Binding.{Binding}
use Rattle.core_language.specs.declared.binding.Binding.TheVariants as binding
use Rattle.core_language.specs.declared.binding.VarInfo.{VarInfo}
use Rattle.core_language.specs.declared.core_form.CoreForm.{CoreForm}
use Rattle.core_language.specs.declared.record.CompiledLibrary.{CompiledLibrary}
use Rattle.core_language.specs.declared.link.Link.{Link}
use Rattle.core_language.specs.declared.link.LinkKind.TheVariants as kinds
use Rattle.eval_pattern.specs.Compile as patterns
use Rattle.eval_pattern.specs.declared.compile.Compiled.{Compiled}
use Rattle.eval_pattern.specs.declared.compile.PatternVariable.{PatternVariable}
use Rattle.core_records.specs.Forms.{record_forms}
use Rattle.core_records.specs.Names.{record_uid}
use Rattle.core_shapes.specs.At.{place_of}
use Rattle.core_shapes.specs.Lists.{is_leaf}
use Rattle.core_shapes.specs.declared.shape.BindingSpec.{BindingSpec}
use Rattle.core_shapes.specs.declared.shape.FormalIds.{FormalIds}
use Rattle.eval_stage.specs.Patterns as stage_patterns
use Rattle.eval_stage.specs.Stage.{PlainStage}
use Rattle.eval_stage.specs.Transformers as stage
use Rattle.eval_stage.specs.Uses.{used}
use Rattle.expand_standing.specs.Binders.{variable_for, row_put, put_row, put_variable, bind_as, bind_variable, bind_all, bind_rest, bind_spec, bind_specs, bind_formals}
use Rattle.expand_standing.specs.InScope.{leaving, within, restoring, apart}
use Rattle.expand_standing.specs.Patterns.{pattern_of, check_literals, put_pattern_variable, bind_pattern_variable, bind_next, bind_pattern, has_variables, first_outside, outside_fault, template_in, template_of}
use Rattle.expand_standing.specs.RecordUses.{at_state, defines_type, count_record_type, record_tree, record_marked, use_record}
use Rattle.expand_standing.specs.State.{State, Does, stage_of, staged, on_stage, fresh, note}
use Rattle.expand_standing.specs.Uses.{macro_expression, use_keyword, asks_variable, put_keyword, bind_keyword_as, bind_keyword, bind_keywords, evaluate_transformer}
use Rattle.expand_standing.specs.declared.binders.BoundSpec.{BoundSpec}
use Rattle.expand_standing.proofs.Noted.{noted-keeps}
use Rattle.eval_template.specs.Compile as templates
use Rattle.law_invariants.specs.Holds.{CoreHolds, TemplateHolds}
use Rattle.law_invariants.specs.Invariant.{OptionHolds}
use Rattle.law_invariants.proofs.Trees.{OkHolds}
use Rattle.law_invariants.proofs.Variables.{looked_up}
use Rattle.law_invariant_expansion.specs.States.{BindingHolds, StateHoldsIn}
use Rattle.law_invariants.specs.Stages.{ExpressionHolds, RecordsHold}
use Rattle.law_invariants.proofs.Steady.{GaveStage, begin-holds, finish-holds, asks-holds, used-holds}
use Rattle.law_invariant_expansion.proofs.Shapes.{FormalsHold, SpecHolds}
use Rattle.law_invariant_expansion.proofs.Templates as of_templates
use Rattle.law_invariants.specs.Invariant.{Invariant}
use Rattle.law_invariant_expansion.specs.Kept.{PatternIsKept, IsKeptByExpansion}
use Rattle.stx_tree.specs.Tree.{Tree, atom, leaf, pair, vector, span_of}
use Rattle.stx_scope.specs.Stands.{symbol_of, row_for}

module _ (I : Invariant) (kept : IsKeptByExpansion I) where
  abbrev pub F : State → Type 0
  F s = StateHoldsIn I s

  abbrev pub Ts : List Tree → Type 0
  Ts ts = Each I.trees ts

  abbrev pub C : PlainCore → Type 0
  C c = CoreHolds I c

  -- Where it gives a value and a state, the law holds of all in the state, and this holds of the value.
  abbrev pub Gave : {A : Type 0} → (A → Type 0) → Result (A × State) Fault → Type 0
  Gave W (Ok p) = F p.1 × W p.0
  Gave W (Err f) = Unit {0}

  pub gave-after : {A B : Type 0} (W : A → Type 0) (V : B → Type 0) (r : Result (A × State) Fault) (k : A → Does B) → Gave W r → ((a : A) (t : State) → F t → W a → Gave V (k a t)) → Gave V (after r k)
  gave-after W V (Ok p) k h next = next p.0 p.1 h.0 h.1
  gave-after W V (Err f) k h next = tt

  pub gave-if : {A : Type 0} (W : A → Type 0) (b : Bool) (r q : Result (A × State) Fault) → Gave W r → Gave W q → Gave W (if b then r else q)
  gave-if W true r q h k = h
  gave-if W false r q h k = k

  pub gave-each : {X Y : Type 0} (Q : X → Type 0) (W : Y → Type 0) (step : X → Does Y) → ((x : X) (s : State) → F s → Q x → Gave W (step x s)) → (done : List Y) (xs : List X) (s : State) → F s → Each W done → Each Q xs
      → Gave (λ ys. Each W ys) (each step done xs s)
  unfolding each
  gave-each Q W step one done [] s h d k = (h, d)
  gave-each Q W step one done (x ∷ xs) s h d k =
      gave-after W (λ ys. Each W ys) (step x s) (λ a. each step (done ++ a ∷ []) xs) (one x s h k.0) (λ a t i y. gave-each Q W step one (done ++ a ∷ []) xs t i (each-and W done a d y) k.1)

  pub gave-gather : {X D : Type 0} (Q : X → Type 0) (W : D → Type 0) (step : D → X → Does D) → ((d : D) (x : X) (s : State) → F s → W d → Q x → Gave W (step d x s)) → (d : D) (xs : List X) (s : State) → F s → W d → Each Q xs
      → Gave W (gather step d xs s)
  unfolding gather
  gave-gather Q W step one d [] s h w k = (h, w)
  gave-gather Q W step one d (x ∷ xs) s h w k = gave-after W W (step d x s) (λ e. gather step e xs) (one d x s h w k.0) (λ e t i y. gave-gather Q W step one e xs t i y k.1)

  -- what comes into scope goes
  pub gave-within : {A : Type 0} (W : A → Type 0) (m : Does A) (s : State) → Gave W (m s) → Gave W (within m s)
  gave-within {A} W m s h = by (m s) h
    where
      by : (r : Result (A × State) Fault) → Gave W r → Gave W (after r (leaving (length s.scope)))
      by (Ok p) k = (record { stage = k.0.stage; bindings = k.0.bindings }, k.1)
      by (Err f) k = tt

  pub gave-apart : {A : Type 0} (W : A → Type 0) (m : Does A) (s : State) → Gave W (m (record s { scope = [] })) → Gave W (apart m s)
  gave-apart {A} W m s h = by (m (record s { scope = [] })) h
    where
      by : (r : Result (A × State) Fault) → Gave W r → Gave W (after r (restoring s.scope))
      by (Ok p) k = (record { stage = k.0.stage; bindings = k.0.bindings }, k.1)
      by (Err f) k = tt

  -- what is done on the stage
  pub gave-staged : {A : Type 0} (W : A → Type 0) (s : State) (r : Result (A × PlainStage) Fault) → F s → GaveStage I kept.steady W r → Gave W (staged s r)
  gave-staged W s (Ok p) h k = (record { stage = k.0; bindings = h.bindings }, k.1)
  gave-staged W s (Err f) h k = tt

  -- one name was taken
  pub counted-holds : (s : State) → F s → F (record s { names = record { library = s.names.library; number = s.names.number + 1 } })
  counted-holds s h = record { stage = record { cells = h.stage.cells; codes = h.stage.codes; globals = h.stage.globals; keywords = h.stage.keywords }; bindings = h.bindings }

  abbrev pub Taken : {A : Type 0} → A → Type 0
  Taken x = Unit {0}

  -- Binders.

  row-put-holds : (id : Tree) (place : Span) (s : State) (r : Result Scope Bare) → F s → Gave Taken (row_put id place s r)
  row-put-holds id place s (Err b) h = tt
  row-put-holds id place s (Ok frames) h = (record { stage = record { cells = h.stage.cells; codes = h.stage.codes; globals = h.stage.globals; keywords = h.stage.keywords }; bindings = h.bindings }, tt)

  pub put-row-holds : (id : Tree) (place : Span) (frame : FrameNo) (l : Label) (s : State) → F s → Gave Taken (put_row id place frame l s)
  put-row-holds id place frame l s h = row-put-holds id place s (bound s.frames frame (row_for id l)) h

  put-variable-holds : (l : Label) (v : VarInfo) (s : State) → F s → I.symbols v.symbol → Gave Taken (put_variable l v s)
  put-variable-holds l v s h named = (
    record {
      stage = record { cells = h.stage.cells; codes = h.stage.codes; globals = h.stage.globals; keywords = h.stage.keywords };
      bindings = each-and (λ (b : Label × Binding). BindingHolds I b.1) s.bindings (l, binding.Variable v) h.bindings named;
    },
    tt,
  )

  -- links have no part in it
  pub state-links : (s : State) (ls : List Link) → F s → F (record s { links = ls })
  state-links s ls h = record { stage = h.stage; bindings = h.bindings }

  bind-as-holds : (frame : FrameNo) (id : Tree) (place : Span) (level : ℕ) (top : Bool) (n : Named) (s : State) → F s → I.symbols (symbol_of id) → Gave Taken (bind_as frame place level id top n s)
  bind-as-holds frame id place level top n s h named =
      gave-after Taken (Taken {A = Label}) (put_row id place frame (record { 0 = n }) s) _ (put-row-holds id place frame (record { 0 = n }) s h)
      (λ x t i y. gave-after Taken (Taken {A = Label}) (put_variable (record { 0 = n }) (variable_for id level top s.index) t) (λ _. note (record { 0 = n }) (span_of id) (record { 0 = n }) kinds.Bind) (put-variable-holds (record { 0 = n }) (variable_for id level top s.index) t i named)
      (λ z u j w. noted-keeps (λ v. F v × Unit {0}) (span_of id) (record { 0 = n }) kinds.Bind u (λ ls. (state-links u ls j, tt))))

  pub variable-holds : (frame : FrameNo) (place : Span) (level : ℕ) (top : Bool) (id : Tree) (s : State) → F s → I.trees id → Gave Taken (bind_variable frame place level top id s)
  unfolding bind_variable fresh
  variable-holds frame place level top (atom r x) s h k = tt
  variable-holds frame place level top (leaf r x c) s h k =
      let t : State = record s { names = record { library = s.names.library; number = s.names.number + 1 } } in
      bind-as-holds frame (leaf r x c) place level top s.names t (counted-holds s h) (kept.built.symbols r x c k)
  variable-holds frame place level top (pair r a d) s h k = tt
  variable-holds frame place level top (vector r d) s h k = tt

  forget : {A : Type 0} (s : State) (r : Result (List A × State) Fault) → Gave (λ (ys : List A). Each Taken ys) r → Gave Taken r
  forget s (Ok p) h = (h.0, tt)
  forget s (Err f) h = tt

  pub bind-all-holds : (frame : FrameNo) (place : Span) (level : ℕ) (ids : List Tree) (s : State) → F s → Ts ids → Gave Taken (bind_all frame place level ids s)
  bind-all-holds frame place level ids s h k =
      forget s (bind_all frame place level ids s) (gave-each I.trees (Taken {A = Label}) (bind_variable frame place level false) (λ id t i j. variable-holds frame place level false id t i j) [] ids s h tt k)

  bind-rest-holds : (frame : FrameNo) (place : Span) (level : ℕ) (o : Option Tree) (s : State) → F s → OptionHolds I.trees o → Gave Taken (bind_rest frame place level o s)
  bind-rest-holds frame place level None s h k = (h, tt)
  bind-rest-holds frame place level (Some id) s h k =
      gave-after Taken Taken (bind_variable frame place level false id s) (λ l. give (Some l)) (variable-holds frame place level false id s h k) (λ l t i j. (i, tt))

  pub bind-formals-holds : (frame : FrameNo) (place : Span) (level : ℕ) (ids : FormalIds) (s : State) → F s → FormalsHold I kept.built.closed ids → Gave Taken (bind_formals frame place level ids s)
  unfolding bind_formals
  bind-formals-holds frame place level ids s h k =
      gave-after Taken Taken (bind_all frame place level ids.required s) _ (bind-all-holds frame place level ids.required s h k.0)
      (λ ls t i y. gave-after Taken Taken (bind_rest frame place level ids.rest t) (λ r. give (record { required = ls; rest = r }))
      (bind-rest-holds frame place level ids.rest t i k.1) (λ r u j w. (j, tt)))

  -- the expression of a binder's value
  abbrev pub BoundHolds : BoundSpec → Type 0
  BoundHolds b = I.trees b.init

  abbrev pub SpecAt : BindingSpec → Type 0
  SpecAt b = SpecHolds I kept.built.closed b

  bind-spec-holds : (frame : FrameNo) (place : Span) (level : ℕ) (b : BindingSpec) (s : State) → F s → SpecAt b → Gave BoundHolds (bind_spec frame place level b s)
  unfolding bind_spec
  bind-spec-holds frame place level b s h k =
      gave-after Taken BoundHolds (bind_variable frame place level false b.id s) (λ l. give (record { label = l; init = b.init })) (variable-holds frame place level false b.id s h k.0)
      (λ l t i j. (i, k.1))

  pub bind-specs-holds : (frame : FrameNo) (place : Span) (level : ℕ) (bs : List BindingSpec) (s : State) → F s → Each SpecAt bs → Gave (λ xs. Each BoundHolds xs) (bind_specs frame place level bs s)
  bind-specs-holds frame place level bs s h k = gave-each SpecAt BoundHolds (bind_spec frame place level) (λ b t i j. bind-spec-holds frame place level b t i j) [] bs s h tt k

  -- Keywords.

  put-keyword-holds : (l : Label) (level : ℕ) (s : State) → F s → Gave Taken (put_keyword l level s)
  put-keyword-holds l level s h = (
    record {
      stage = record { cells = h.stage.cells; codes = h.stage.codes; globals = h.stage.globals; keywords = h.stage.keywords };
      bindings = each-and (λ (b : Label × Binding). BindingHolds I b.1) s.bindings (l, binding.Macro level None) h.bindings tt;
    },
    tt,
  )

  bind-keyword-as-holds : (frame : FrameNo) (place : Span) (level : ℕ) (b : BindingSpec) (n : Named) (s : State) → F s → SpecAt b → Gave BoundHolds (bind_keyword_as frame place level b n s)
  bind-keyword-as-holds frame place level b n s h k =
      let l : Label = record { 0 = n } in
      gave-after Taken BoundHolds (put_row b.id place frame l s) _ (put-row-holds b.id place frame l s h)
      (λ x t i y.
      gave-after Taken BoundHolds (put_keyword l level t) _ (put-keyword-holds l level t i)
      (λ z u j w.
      gave-after Taken BoundHolds (on_stage (stage.begin_keyword l (place_of b.init place)) u) (λ _. give (record { label = l; init = b.init }))
      (gave-staged Taken u (stage.begin_keyword l (place_of b.init place) (stage_of u)) j (begin-holds I kept.steady l (place_of b.init place) (stage_of u) j.stage))
      (λ a v g c. (g, k.1))))

  pub bind-keyword-holds : (frame : FrameNo) (place : Span) (level : ℕ) (b : BindingSpec) (s : State) → F s → SpecAt b → Gave BoundHolds (bind_keyword frame place level b s)
  unfolding bind_keyword fresh
  bind-keyword-holds frame place level b s h k =
      let t : State = record s { names = record { library = s.names.library; number = s.names.number + 1 } } in
      let i = counted-holds s h in
      gave-if BoundHolds (is_leaf b.id) (bind_keyword_as frame place level b s.names t) _
      (bind-keyword-as-holds frame place level b s.names t i k) tt

  pub bind-keywords-holds : (frame : FrameNo) (place : Span) (level : ℕ) (bs : List BindingSpec) (s : State) → F s → Each SpecAt bs → Gave (λ xs. Each BoundHolds xs) (bind_keywords frame place level bs s)
  bind-keywords-holds frame place level bs s h k = gave-each SpecAt BoundHolds (bind_keyword frame place level) (λ b t i j. bind-keyword-holds frame place level b t i j) [] bs s h tt k

  module _ (rs : List CompiledLibrary) (records : RecordsHold I rs) where
    pub finish-keyword-holds : (place : Span) (l : Label) (c : PlainCore) (s : State) → F s → C c → Gave Taken (evaluate_transformer rs place l c s)
    unfolding evaluate_transformer
    finish-keyword-holds place l c s h k =
        gave-staged Taken s (stage.evaluate_transformer place rs l c (stage_of s)) h (finish-holds I kept.steady place rs l c (stage_of s) h.stage records k)

    -- Uses.

    expression-at : (o : Option Binding) → OptionHolds (BindingHolds I) o → ExpressionHolds I (macro_expression o)
    expression-at None h = tt
    expression-at (Some (binding.Macro level e)) h = h
    expression-at (Some (binding.Variable v)) h = tt
    expression-at (Some (binding.PatternVariable level depth)) h = tt
    expression-at (Some (binding.Core f)) h = tt
    expression-at (Some (binding.Primitive op)) h = tt

    macro-holds : (l : Label) (s : State) → F s → ExpressionHolds I (macro_expression (bound_to s.bindings l))
    macro-holds l s h = expression-at (bound_to s.bindings l) (looked_up (BindingHolds I) (same_label l) s.bindings h.bindings)

    pub asks-variable-holds : (place : Span) (l : Label) (s : State) → F s → Gave Taken (asks_variable rs place l s)
    unfolding asks_variable
    asks-variable-holds place l s h =
        gave-staged Taken s (stage.is_variable_transformer place rs l (macro_expression (bound_to s.bindings l)) (stage_of s)) h
        (asks-holds I kept.steady place rs l (macro_expression (bound_to s.bindings l)) (stage_of s) h.stage records (macro-holds l s h))

    pub use-keyword-holds : (place : Span) (t : Tree) (l : Label) (frame : Option FrameNo) (s : State) → F s → I.trees t → Gave I.trees (use_keyword rs place t l frame s)
    unfolding use_keyword
    use-keyword-holds place t l frame s h k =
        gave-staged I.trees s (used place rs t l (macro_expression (bound_to s.bindings l)) frame (stage_of s)) h
        (used-holds I kept.steady place rs t l (macro_expression (bound_to s.bindings l)) frame (stage_of s) h.stage records (macro-holds l s h) k)

  -- Record forms.

  record-tree-holds : (place : Span) (t : Tree) (f : CoreForm) (count : ℕ) (s : State) → F s → I.trees t → Gave I.trees (record_tree place t f count s)
  unfolding record_tree
  record-tree-holds place t f count s h k = by (record_forms s.frames t f place (record_uid s.library t count)) (kept.records s.frames t f place s.library count k)
    where
      by : (r : Result Tree Fault) → OkHolds I.trees r → Gave I.trees (at_state s r)
      by (Ok u) j = (h, j)
      by (Err e) j = tt

  count-holds : (f : CoreForm) (s : State) → F s → Gave Taken (count_record_type f s)
  unfolding count_record_type
  count-holds f s h = by (defines_type f)
    where
      by : (b : Bool) → F (if b then record s { record_types = s.record_types + 1 } else s) × Unit {0}
      by true = (record { stage = record { cells = h.stage.cells; codes = h.stage.codes; globals = h.stage.globals; keywords = h.stage.keywords }; bindings = h.bindings }, tt)
      by false = (h, tt)

  record-marked-holds : (place : Span) (t : Tree) (f : CoreForm) (frame : Option FrameNo) (m : Mark) (s : State) → F s → I.trees t → Gave I.trees (record_marked place t f frame m s)
  unfolding record_marked
  record-marked-holds place t f frame m s h k =
      gave-after Taken I.trees (count_record_type f s) _ (count-holds f s h)
      (λ n u i y. gave-after I.trees I.trees (record_tree place (enter m t) f n u) (λ v. give (leave m frame v))
      (record-tree-holds place (enter m t) f n u i (kept.steady.changed (change.Enter m ∷ []) t k)) (λ v w g x. (g, kept.steady.changed (change.Leave m frame ∷ []) v x)))

  pub use-record-holds : (place : Span) (t : Tree) (f : CoreForm) (frame : Option FrameNo) (s : State) → F s → I.trees t → Gave I.trees (use_record place t f frame s)
  unfolding use_record fresh
  use-record-holds place t f frame s h k =
      let u : State = record s { names = record { library = s.names.library; number = s.names.number + 1 } } in
      let i = counted-holds s h in
      record-marked-holds place t f frame (record { 0 = s.names }) u i k

  -- Templates and patterns.

  -- of a template's trees, and of the template
  abbrev pub TemplateAt : PlainTemplate → Type 0
  TemplateAt x = I.templates x (TemplateHolds I x)

  template-in-holds : (c : templates.TemplateScope) (place : Span) (t : Tree) (s : State) → F s → I.trees t → Gave TemplateAt (template_in place t s (templates.compiled c t))
  template-in-holds c place t s h k = by (templates.compiled c t) refl (of_templates.compiled-holds I kept.built c t k)
    where
      outside : (o : Option Tree) → Gave TemplateAt (outside_fault place t o s)
      outside None = tt
      outside (Some id) = tt

      by : (r : Result PlainTemplate Fault) → templates.compiled c t ≡ r → OkHolds (TemplateHolds I) r → Gave TemplateAt (template_in place t s r)
      by (Err f) e j = tt
      by (Ok x) e j =
          gave-if TemplateAt (has_variables s.scope x) (Ok (x, s)) (outside_fault place t (first_outside s t) s) (h, kept.templates c t x (TemplateHolds I x) k e j) (outside (first_outside s t))

  pub template-holds : (place : Span) (level : ℕ) (t : Tree) (s : State) → F s → I.trees t → Gave TemplateAt (template_of place level t s)
  unfolding template_of
  template-holds place level t s h k = template-in-holds (record { frames = s.frames; bindings = s.bindings; level = level; place = place }) place t s h k

  -- the pattern of a form, behind which names were taken
  abbrev pub PatternAt : Compiled → Type 0
  PatternAt m = PatternIsKept I m.pattern

  pattern-named-holds : (c : patterns.PatternScope) (t : Tree) (names : Named) (s : State) → F s → I.trees t → Gave PatternAt (staged s (stage_patterns.named (stage_of s) (patterns.compiled c t names)))
  pattern-named-holds c t names s h k = by (patterns.compiled c t names) refl
    where
      by : (r : Result (Compiled × Named) Fault) → patterns.compiled c t names ≡ r → Gave PatternAt (staged s (stage_patterns.named (stage_of s) r))
      by (Err f) e = tt
      by (Ok p) e = (
        record { stage = record { cells = h.stage.cells; codes = h.stage.codes; globals = h.stage.globals; keywords = h.stage.keywords }; bindings = h.bindings },
        record { scope = c; form = t; names = names; compiled = p; holds = k; made = e; is = refl },
      )

  -- a pattern takes names, and changes nothing else
  pub pattern-holds : (literals : List Tree) (place : Span) (t : Tree) (s : State) → F s → I.trees t → Gave PatternAt (pattern_of literals place t s)
  unfolding stage_patterns.pattern_of
  pattern-holds literals place t s h k = pattern-named-holds (record { frames = s.frames; literals = literals; place = place }) t s.names s h k

  pub literals-hold : (literals : List Tree) (place : Span) (s : State) → F s → Gave Taken (check_literals place literals s)
  unfolding stage_patterns.check_literals
  literals-hold literals place s h = by (patterns.literals_checked s.frames place literals)
    where
      by : (r : Result (Unit {0}) Fault) → Gave Taken (staged s (stage_patterns.unchanged (stage_of s) r))
      by (Err f) = tt
      by (Ok x) = (record { stage = record { cells = h.stage.cells; codes = h.stage.codes; globals = h.stage.globals; keywords = h.stage.keywords }; bindings = h.bindings }, tt)

  put-pattern-variable-holds : (l : Label) (level depth : ℕ) (s : State) → F s → Gave Taken (put_pattern_variable l level depth s)
  put-pattern-variable-holds l level depth s h = (
    record {
      stage = record { cells = h.stage.cells; codes = h.stage.codes; globals = h.stage.globals; keywords = h.stage.keywords };
      bindings = each-and (λ (b : Label × Binding). BindingHolds I b.1) s.bindings (l, binding.PatternVariable level depth) h.bindings tt;
    },
    tt,
  )

  bind-one-holds : (frame : FrameNo) (place : Span) (level : ℕ) (v : PatternVariable) (s : State) → F s → Gave Taken (bind_pattern_variable frame place level v s)
  unfolding bind_pattern_variable
  bind-one-holds frame place level v s h =
      gave-after Taken Taken (put_row v.id place frame v.label s) (λ _. put_pattern_variable v.label level v.depth) (put-row-holds v.id place frame v.label s h) (λ x t i y. put-pattern-variable-holds v.label level v.depth t i)

  pub bind-pattern-holds : (frame : FrameNo) (place : Span) (level : ℕ) (vs : List PatternVariable) (s : State) → F s → Gave Taken (bind_pattern frame place level vs s)
  bind-pattern-holds frame place level vs s h =
      gave-gather (Taken {A = PatternVariable}) (Taken {A = Unit {0}}) (bind_next frame place level) (λ d v t i w j. bind-one-holds frame place level v t i) tt vs s h tt (all-taken vs)
    where
      all-taken : (ws : List PatternVariable) → Each Taken ws
      all-taken [] = tt
      all-taken (w ∷ ws) = (tt, all-taken ws)
