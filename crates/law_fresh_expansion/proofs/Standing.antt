-- What binds, uses and compiles in an expansion keeps that all in its state may be met.
use Rattle.std.proofs.Common.{◌≤◌, ◌<◌, ◌+◌, ℕ, Bool, true, false, List, [], ◌∷◌, ◌++◌, length, Option, None, Some, Result, Ok, Err, sym, arith, subst, if◌then◌else◌}
use Rattle.base_data.proofs.ElementLemmas.{each-and, each-implied}
use Rattle.base_data.specs.Act.{after, give, each, gather}
use Rattle.base_data.specs.Elements.{Each}
use Rattle.base_data.specs.Named.{Named}
use Rattle.base_data.specs.declared.fault.Bare.{Bare}
use Rattle.base_data.specs.declared.fault.Fault.{Fault}
use Rattle.base_data.specs.declared.library.LibName.{LibName}
use Rattle.base_data.specs.declared.name.FrameNo.{FrameNo}
use Rattle.base_data.specs.declared.name.Label.{Label}
use Rattle.base_data.specs.declared.name.Mark.{Mark}
use Rattle.base_data.specs.declared.span.Span.{Span}
use Rattle.stx_tree.specs.Changes.{enter, leave}
use Rattle.stx_tree.specs.Context.{LeafContext, blank}
use Rattle.stx_tree.specs.Tree.{Tree, span_of}
use Rattle.stx_frames.specs.Scope.{Scope, bound}
use Rattle.stx_scope.specs.Stands.{row_for}
use Rattle.core_language.specs.Bindings.{bound_to}
use Rattle.core_language.specs.Core.{PlainCore}
use Rattle.core_language.specs.Labels.{same_label}
use Rattle.core_language.specs.Template.{PlainTemplate}
use Rattle.core_language.specs.declared.binding.Binding.{Binding}
use Rattle.core_language.specs.declared.binding.Binding.TheVariants as binding
use Rattle.core_language.specs.declared.binding.VarInfo.{VarInfo}
use Rattle.core_language.specs.declared.core_form.CoreForm.{CoreForm}
use Rattle.core_language.specs.declared.record.CompiledLibrary.{CompiledLibrary}
use Rattle.core_language.specs.declared.link.Link.{Link}
use Rattle.core_language.specs.declared.link.LinkKind.TheVariants as kinds
use Rattle.eval_pattern.specs.Compile as patterns
use Rattle.eval_pattern.specs.declared.compile.Compiled.{Compiled}
use Rattle.eval_pattern.specs.declared.compile.PatternVariable.{PatternVariable}
use Rattle.core_records.specs.Forms.{record_forms}
use Rattle.core_records.specs.Introduced.{core_frame}
use Rattle.core_records.specs.Names.{record_uid}
use Rattle.core_shapes.specs.At.{place_of}
use Rattle.core_shapes.specs.Lists.{is_leaf}
use Rattle.core_shapes.specs.declared.shape.BindingSpec.{BindingSpec}
use Rattle.core_shapes.specs.declared.shape.FormalIds.{FormalIds}
use Rattle.eval_stage.specs.Patterns as stage_patterns
use Rattle.eval_stage.specs.Stage.{PlainStage}
use Rattle.eval_stage.specs.Transformers as stage
use Rattle.eval_stage.specs.Uses.{used}
use Rattle.expand_standing.specs.Binders.{variable_for, row_put, put_row, put_variable, bind_as, bind_variable, bind_all, bind_rest, bind_spec, bind_specs, bind_formals}
use Rattle.expand_standing.specs.InScope.{leaving, within, restoring, apart}
use Rattle.expand_standing.specs.Patterns.{pattern_of, check_literals, put_pattern_variable, bind_pattern_variable, bind_next, bind_pattern, has_variables, first_outside, outside_fault, template_in, template_of}
use Rattle.expand_standing.specs.RecordUses.{at_state, defines_type, count_record_type, record_tree, record_marked, use_record}
use Rattle.expand_standing.specs.State.{State, Does, stage_of, staged, on_stage, fresh, note}
use Rattle.expand_standing.specs.Uses.{macro_expression, use_keyword, asks_variable, put_keyword, bind_keyword_as, bind_keyword, bind_keywords, evaluate_transformer}
use Rattle.expand_standing.specs.declared.binders.BoundSpec.{BoundSpec}
use Rattle.expand_standing.proofs.Noted.{noted-keeps}
use Rattle.eval_template.specs.Compile as templates
use Rattle.law_fresh.specs.Below.{mark_named}
use Rattle.law_fresh.specs.Leaves.{TreeHolds, CoreHolds, TemplateHolds, PatternHolds}
use Rattle.law_fresh.specs.Leaves.{OptionHolds}
use Rattle.law_fresh.proofs.Trees.{OkHolds}
use Rattle.law_fresh.proofs.Variables.{looked_up}
use Rattle.law_fresh.proofs.Wider.{tree_wider, core_wider}
use Rattle.law_fresh_expansion.specs.Living.{Lives, RowsHold}
use Rattle.law_fresh_expansion.specs.States.{ExpressionHolds, BindingHolds, BindingsHold, RecordsHold, FreshStateHolds}
use Rattle.law_fresh_expansion.proofs.Changing.{In, rise, bound-holds, there-in, enter-holds, leave-holds, frame-up, row-marks}
use Rattle.law_fresh_expansion.proofs.Runs.{records-wider, expression-wider}
use Rattle.law_fresh_expansion.proofs.Patterns.{VariableHolds, GaveBy, CompiledFrom, compiled-holds}
use Rattle.law_fresh_expansion.proofs.Records.{record-holds}
use Rattle.law_fresh_expansion.proofs.Shapes.{FormalsHold, SpecHolds}
use Rattle.law_fresh_expansion.proofs.Stages.{GaveStage, stage-less, stage-self, renamed-stage, next-holds, begin-holds, finish-holds, asks-holds, used-holds}
use Rattle.law_fresh_expansion.proofs.Templates as of_templates

binding-wider : (P Q : LeafContext → Type 0) → ((c : LeafContext) → P c → Q c) → (b : Binding) → BindingHolds P b → BindingHolds Q b
binding-wider P Q k (binding.Variable v) h = tt
binding-wider P Q k (binding.PatternVariable level depth) h = tt
binding-wider P Q k (binding.Macro level e) h = expression-wider P Q k e h
binding-wider P Q k (binding.Core f) h = tt
binding-wider P Q k (binding.Primitive op) h = tt

pub bindings-wider : (P Q : LeafContext → Type 0) → ((c : LeafContext) → P c → Q c) → (bs : List (Label × Binding)) → BindingsHold P bs → BindingsHold Q bs
bindings-wider P Q k bs h = each-implied (λ (b : Label × Binding). BindingHolds P b.1) (λ (b : Label × Binding). BindingHolds Q b.1) (λ b j. binding-wider P Q k b.1 j) bs h

module _ (own : LibName) (K : ℕ → Mark → Type 0) (J : ℕ → FrameNo → Type 0) (P : ℕ → LeafContext → Type 0) (lives : Lives own K J P) (first : ℕ) where
  abbrev pub F : State → Type 0
  F s = FreshStateHolds own K P first s

  -- a later state, from a state on
  abbrev pub From : State → State → Type 0
  From s t = FreshStateHolds own K P s.names.number t

  abbrev pub T : ℕ → Tree → Type 0
  T n t = TreeHolds (P n) t

  abbrev pub Ts : ℕ → List Tree → Type 0
  Ts n ts = Each (T n) ts

  abbrev pub C : ℕ → PlainCore → Type 0
  C n c = CoreHolds (P n) c

  pub up : (m n : ℕ) → m ≤ n → (c : LeafContext) → P m c → P n c
  up m n le = rise own K J P lives m n le

  pub tree-up : (m n : ℕ) → m ≤ n → (t : Tree) → T m t → T n t
  tree-up m n le t h = tree_wider (P m) (P n) (up m n le) t h

  pub trees-up : (m n : ℕ) → m ≤ n → (ts : List Tree) → Ts m ts → Ts n ts
  trees-up m n le ts h = each-implied (T m) (T n) (tree-up m n le) ts h

  pub core-up : (m n : ℕ) → m ≤ n → (c : PlainCore) → C m c → C n c
  core-up m n le c h = core_wider (P m) (P n) (up m n le) c h

  pub option-up : (m n : ℕ) → m ≤ n → (o : Option Tree) → OptionHolds (T m) o → OptionHolds (T n) o
  option-up m n le None h = tt
  option-up m n le (Some t) h = tree-up m n le t h

  -- States.

  pub state-self : (s : State) → F s → From s s
  state-self s h = record { stage = stage-self own K J P lives first (stage_of s) h.stage; bindings = h.bindings }

  -- links have no part in it
  pub state-links : (s t : State) (ls : List Link) → From s t → From s (record t { links = ls })
  state-links s t ls h = record { stage = h.stage; bindings = h.bindings }

  pub state-then : (s t : State) → F s → From s t → F t
  state-then s t h k = record { stage = stage-less own K J P lives first s.names.number (stage_of t) h.stage.up k.stage; bindings = k.bindings }

  pub from-then : (s t u : State) → From s t → From t u → From s u
  from-then s t u h k = record { stage = stage-less own K J P lives s.names.number t.names.number (stage_of u) h.stage.up k.stage; bindings = k.bindings }

  -- Where it gives a value and a state, that is a later one in which all may be met, and this holds of the value.
  abbrev pub Gave : {A : Type 0} → (ℕ → A → Type 0) → State → Result (A × State) Fault → Type 0
  Gave W s (Ok p) = From s p.1 × W p.1.names.number p.0
  Gave W s (Err f) = Unit {0}

  pub gave-from : {A : Type 0} (W : ℕ → A → Type 0) (s t : State) (r : Result (A × State) Fault) → From s t → Gave W t r → Gave W s r
  gave-from W s t (Ok p) h k = (from-then s t p.1 h k.0, k.1)
  gave-from W s t (Err f) h k = tt

  pub gave-after : {A B : Type 0} (W : ℕ → A → Type 0) (V : ℕ → B → Type 0) (s : State) (r : Result (A × State) Fault) (k : A → Does B)
      → Gave W s r → ((a : A) (t : State) → From s t → W t.names.number a → Gave V t (k a t)) → Gave V s (after r k)
  gave-after W V s (Ok p) k h next = gave-from V s p.1 (k p.0 p.1) h.0 (next p.0 p.1 h.0 h.1)
  gave-after W V s (Err f) k h next = tt

  pub gave-if : {A : Type 0} (W : ℕ → A → Type 0) (s : State) (b : Bool) (r q : Result (A × State) Fault) → Gave W s r → Gave W s q → Gave W s (if b then r else q)
  gave-if W s true r q h k = h
  gave-if W s false r q h k = k

  pub gave-each : {X Y : Type 0} (Q : ℕ → X → Type 0) (W : ℕ → Y → Type 0) → ((m n : ℕ) → m ≤ n → (x : X) → Q m x → Q n x) → ((m n : ℕ) → m ≤ n → (y : Y) → W m y → W n y) → (step : X → Does Y)
      → ((x : X) (s : State) → F s → Q s.names.number x → Gave W s (step x s)) → (done : List Y) (xs : List X) (s : State) → F s → Each (W s.names.number) done → Each (Q s.names.number) xs
      → Gave (λ n ys. Each (W n) ys) s (each step done xs s)
  unfolding each
  gave-each Q W q-up w-up step one done [] s h d k = (state-self s h, d)
  gave-each {X} {Y} Q W q-up w-up step one done (x ∷ xs) s h d k =
      gave-after W (λ n ys. Each (W n) ys) s (step x s) (λ a. each step (done ++ a ∷ []) xs) (one x s h k.0)
      (λ a t i y. gave-each Q W q-up w-up step one (done ++ a ∷ []) xs t (state-then s t h i)
      (each-and (W t.names.number) done a (each-implied (W s.names.number) (W t.names.number) (w-up s.names.number t.names.number i.stage.up) done d) y)
      (each-implied (Q s.names.number) (Q t.names.number) (q-up s.names.number t.names.number i.stage.up) xs k.1))

  pub gave-gather : {X D : Type 0} (Q : ℕ → X → Type 0) (W : ℕ → D → Type 0) → ((m n : ℕ) → m ≤ n → (x : X) → Q m x → Q n x) → (step : D → X → Does D)
      → ((d : D) (x : X) (s : State) → F s → W s.names.number d → Q s.names.number x → Gave W s (step d x s)) → (d : D) (xs : List X) (s : State) → F s → W s.names.number d → Each (Q s.names.number) xs
      → Gave W s (gather step d xs s)
  unfolding gather
  gave-gather Q W q-up step one d [] s h w k = (state-self s h, w)
  gave-gather {X} {D} Q W q-up step one d (x ∷ xs) s h w k =
      gave-after W W s (step d x s) (λ e. gather step e xs) (one d x s h w k.0)
      (λ e t i y. gave-gather Q W q-up step one e xs t (state-then s t h i) y (each-implied (Q s.names.number) (Q t.names.number) (q-up s.names.number t.names.number i.stage.up) xs k.1))

  -- what comes into scope goes
  pub gave-within : {A : Type 0} (W : ℕ → A → Type 0) (m : Does A) (s : State) → Gave W s (m s) → Gave W s (within m s)
  gave-within {A} W m s h = by (m s) h
    where
      by : (r : Result (A × State) Fault) → Gave W s r → Gave W s (after r (leaving (length s.scope)))
      by (Ok p) k = (record { stage = k.0.stage; bindings = k.0.bindings }, k.1)
      by (Err f) k = tt

  pub gave-apart : {A : Type 0} (W : ℕ → A → Type 0) (m : Does A) (s : State) → Gave W (record s { scope = [] }) (m (record s { scope = [] })) → Gave W s (apart m s)
  gave-apart {A} W m s h = by (m (record s { scope = [] })) h
    where
      by : (r : Result (A × State) Fault) → Gave W (record s { scope = [] }) r → Gave W s (after r (restoring s.scope))
      by (Ok p) k = (record { stage = k.0.stage; bindings = k.0.bindings }, k.1)
      by (Err f) k = tt

  -- what is done on the stage
  pub gave-staged : {A : Type 0} (W : ℕ → A → Type 0) (s : State) (r : Result (A × PlainStage) Fault) → F s → GaveStage own K J P lives W s.names.number r → Gave W s (staged s r)
  gave-staged W s (Ok p) h k = (record { stage = k.0; bindings = bindings-wider (P s.names.number) (P p.1.names.number) (up s.names.number p.1.names.number k.0.up) s.bindings h.bindings }, k.1)
  gave-staged W s (Err f) h k = tt

  -- one name was taken
  pub counted-holds : (s : State) → F s → From s (record s { names = record { library = s.names.library; number = s.names.number + 1 } })
  counted-holds s h = record {
    stage = next-holds own K J P lives s.names.number (stage_of s) (stage-self own K J P lives first (stage_of s) h.stage);
    bindings = bindings-wider (P s.names.number) (P (s.names.number + 1)) (up s.names.number (s.names.number + 1) (omega arith)) s.bindings h.bindings;
  }

  -- the frame that is made of the next name
  pub frame-made : (s : State) → F s → J (s.names.number + 1) (record { 0 = s.names })
  frame-made s h = subst (λ (l : LibName). J (s.names.number + 1) (record { 0 = record { library = l; number = s.names.number } })) (sym h.stage.library) (lives.made s.names.number (s.names.number + 1) (omega arith))

  abbrev pub Taken : {A : Type 0} → ℕ → A → Type 0
  Taken n x = Unit {0}

  -- Binders.

  row-put-holds : (id : Tree) (place : Span) (s : State) (r : Result Scope Bare) → F s → OkHolds (RowsHold (K s.names.number)) r → Gave Taken s (row_put id place s r)
  row-put-holds id place s (Err b) h k = tt
  row-put-holds id place s (Ok frames) h k =
      (record { stage = record { up = omega arith; library = h.stage.library; frames = k; cells = h.stage.cells; codes = h.stage.codes; globals = h.stage.globals; keywords = h.stage.keywords }; bindings = h.bindings }, tt)

  pub put-row-holds : (id : Tree) (place : Span) (frame : FrameNo) (l : Label) (s : State) → F s → T s.names.number id → Gave Taken s (put_row id place frame l s)
  put-row-holds id place frame l s h k =
      row-put-holds id place s (bound s.frames frame (row_for id l)) h (bound-holds (K s.names.number) s.frames frame (row_for id l) h.stage.frames (row-marks own K J P lives s.names.number id l k))

  put-variable-holds : (l : Label) (v : VarInfo) (s : State) → F s → Gave Taken s (put_variable l v s)
  put-variable-holds l v s h = (
    record {
      stage = let g = stage-self own K J P lives first (stage_of s) h.stage in record { up = g.up; library = g.library; frames = g.frames; cells = g.cells; codes = g.codes; globals = g.globals; keywords = g.keywords };
      bindings = each-and (λ (b : Label × Binding). BindingHolds (P s.names.number) b.1) s.bindings (l, binding.Variable v) h.bindings tt;
    },
    tt,
  )

  bind-as-holds : (frame : FrameNo) (id : Tree) (place : Span) (level : ℕ) (top : Bool) (n : Named) (s : State) → F s → T s.names.number id → Gave Taken s (bind_as frame place level id top n s)
  bind-as-holds frame id place level top n s h k =
      gave-after Taken (Taken {A = Label}) s (put_row id place frame (record { 0 = n }) s) _ (put-row-holds id place frame (record { 0 = n }) s h k)
      (λ x t i y. gave-after Taken (Taken {A = Label}) t (put_variable (record { 0 = n }) (variable_for id level top s.index) t) (λ _. note (record { 0 = n }) (span_of id) (record { 0 = n }) kinds.Bind) (put-variable-holds (record { 0 = n }) (variable_for id level top s.index) t (state-then s t h i))
      (λ z u j w. noted-keeps (λ v. From u v × Unit {0}) (span_of id) (record { 0 = n }) kinds.Bind u (λ ls. (state-links u u ls (state-self u (state-then t u (state-then s t h i) j)), tt))))

  pub variable-holds : (frame : FrameNo) (place : Span) (level : ℕ) (top : Bool) (id : Tree) (s : State) → F s → T s.names.number id → Gave Taken s (bind_variable frame place level top id s)
  unfolding bind_variable fresh
  variable-holds frame place level top id s h k =
      let t : State = record s { names = record { library = s.names.library; number = s.names.number + 1 } } in
      let i = counted-holds s h in
      gave-if Taken s (is_leaf id) (bind_as frame place level id top s.names t) _
      (gave-from Taken s t (bind_as frame place level id top s.names t) i (bind-as-holds frame id place level top s.names t (state-then s t h i) (tree-up s.names.number (s.names.number + 1) (omega arith) id k))) tt

  abbrev AllTaken : {A : Type 0} → ℕ → List A → Type 0
  AllTaken n xs = Unit {0}

  forget : {A : Type 0} (s : State) (r : Result (List A × State) Fault) → Gave (λ n (ys : List A). Each (Taken n) ys) s r → Gave Taken s r
  forget s (Ok p) h = (h.0, tt)
  forget s (Err f) h = tt

  pub bind-all-holds : (frame : FrameNo) (place : Span) (level : ℕ) (ids : List Tree) (s : State) → F s → Ts s.names.number ids → Gave Taken s (bind_all frame place level ids s)
  bind-all-holds frame place level ids s h k =
      forget s (bind_all frame place level ids s) (gave-each T (Taken {A = Label}) tree-up (λ m n le y i. tt) (bind_variable frame place level false) (λ id t i j. variable-holds frame place level false id t i j) [] ids s h tt k)

  bind-rest-holds : (frame : FrameNo) (place : Span) (level : ℕ) (o : Option Tree) (s : State) → F s → OptionHolds (T s.names.number) o → Gave Taken s (bind_rest frame place level o s)
  bind-rest-holds frame place level None s h k = (state-self s h, tt)
  bind-rest-holds frame place level (Some id) s h k =
      gave-after Taken Taken s (bind_variable frame place level false id s) (λ l. give (Some l)) (variable-holds frame place level false id s h k) (λ l t i j. (state-self t (state-then s t h i), tt))

  pub bind-formals-holds : (frame : FrameNo) (place : Span) (level : ℕ) (ids : FormalIds) (s : State) → F s → FormalsHold (P s.names.number) ids → Gave Taken s (bind_formals frame place level ids s)
  unfolding bind_formals
  bind-formals-holds frame place level ids s h k =
      gave-after Taken Taken s (bind_all frame place level ids.required s) _ (bind-all-holds frame place level ids.required s h k.0)
      (λ ls t i y. gave-after Taken Taken t (bind_rest frame place level ids.rest t) (λ r. give (record { required = ls; rest = r }))
      (bind-rest-holds frame place level ids.rest t (state-then s t h i) (option-up s.names.number t.names.number i.stage.up ids.rest k.1)) (λ r u j w. (state-self u (state-then t u (state-then s t h i) j), tt)))

  -- the expression of a binder's value
  abbrev pub BoundHolds : ℕ → BoundSpec → Type 0
  BoundHolds n b = T n b.init

  abbrev pub SpecAt : ℕ → BindingSpec → Type 0
  SpecAt n b = SpecHolds (P n) b

  pub spec-up : (m n : ℕ) → m ≤ n → (b : BindingSpec) → SpecAt m b → SpecAt n b
  spec-up m n le b h = (tree-up m n le b.id h.0, tree-up m n le b.init h.1)

  pub bound-up : (m n : ℕ) → m ≤ n → (b : BoundSpec) → BoundHolds m b → BoundHolds n b
  bound-up m n le b h = tree-up m n le b.init h

  bind-spec-holds : (frame : FrameNo) (place : Span) (level : ℕ) (b : BindingSpec) (s : State) → F s → SpecAt s.names.number b → Gave BoundHolds s (bind_spec frame place level b s)
  unfolding bind_spec
  bind-spec-holds frame place level b s h k =
      gave-after Taken BoundHolds s (bind_variable frame place level false b.id s) (λ l. give (record { label = l; init = b.init })) (variable-holds frame place level false b.id s h k.0)
      (λ l t i j. (state-self t (state-then s t h i), tree-up s.names.number t.names.number i.stage.up b.init k.1))

  pub bind-specs-holds : (frame : FrameNo) (place : Span) (level : ℕ) (bs : List BindingSpec) (s : State) → F s → Each (SpecAt s.names.number) bs → Gave (λ n xs. Each (BoundHolds n) xs) s (bind_specs frame place level bs s)
  bind-specs-holds frame place level bs s h k = gave-each SpecAt BoundHolds spec-up bound-up (bind_spec frame place level) (λ b t i j. bind-spec-holds frame place level b t i j) [] bs s h tt k

  -- Keywords.

  put-keyword-holds : (l : Label) (level : ℕ) (s : State) → F s → Gave Taken s (put_keyword l level s)
  put-keyword-holds l level s h = (
    record {
      stage = let g = stage-self own K J P lives first (stage_of s) h.stage in record { up = g.up; library = g.library; frames = g.frames; cells = g.cells; codes = g.codes; globals = g.globals; keywords = g.keywords };
      bindings = each-and (λ (b : Label × Binding). BindingHolds (P s.names.number) b.1) s.bindings (l, binding.Macro level None) h.bindings tt;
    },
    tt,
  )

  bind-keyword-as-holds : (frame : FrameNo) (place : Span) (level : ℕ) (b : BindingSpec) (n : Named) (s : State) → F s → SpecAt s.names.number b → Gave BoundHolds s (bind_keyword_as frame place level b n s)
  bind-keyword-as-holds frame place level b n s h k =
      let l : Label = record { 0 = n } in
      gave-after Taken BoundHolds s (put_row b.id place frame l s) _ (put-row-holds b.id place frame l s h k.0)
      (λ x t i y. let ht = state-then s t h i in
      gave-after Taken BoundHolds t (put_keyword l level t) _ (put-keyword-holds l level t ht)
      (λ z u j w. let hu = state-then t u ht j in
      gave-after Taken BoundHolds u (on_stage (stage.begin_keyword l (place_of b.init place)) u) (λ _. give (record { label = l; init = b.init }))
      (gave-staged Taken u (stage.begin_keyword l (place_of b.init place) (stage_of u)) hu (begin-holds own K J P lives l (place_of b.init place) u.names.number (stage_of u) (stage-self own K J P lives first (stage_of u) hu.stage)))
      (λ a v g c. (state-self v (state-then u v hu g), tree-up s.names.number v.names.number (omega (arith, i.stage.up, j.stage.up, g.stage.up)) b.init k.1))))

  pub bind-keyword-holds : (frame : FrameNo) (place : Span) (level : ℕ) (b : BindingSpec) (s : State) → F s → SpecAt s.names.number b → Gave BoundHolds s (bind_keyword frame place level b s)
  unfolding bind_keyword fresh
  bind-keyword-holds frame place level b s h k =
      let t : State = record s { names = record { library = s.names.library; number = s.names.number + 1 } } in
      let i = counted-holds s h in
      gave-if BoundHolds s (is_leaf b.id) (bind_keyword_as frame place level b s.names t) _
      (gave-from BoundHolds s t (bind_keyword_as frame place level b s.names t) i (bind-keyword-as-holds frame place level b s.names t (state-then s t h i) (spec-up s.names.number (s.names.number + 1) (omega arith) b k))) tt

  pub bind-keywords-holds : (frame : FrameNo) (place : Span) (level : ℕ) (bs : List BindingSpec) (s : State) → F s → Each (SpecAt s.names.number) bs → Gave (λ n xs. Each (BoundHolds n) xs) s (bind_keywords frame place level bs s)
  bind-keywords-holds frame place level bs s h k = gave-each SpecAt BoundHolds spec-up bound-up (bind_keyword frame place level) (λ b t i j. bind-keyword-holds frame place level b t i j) [] bs s h tt k

  module _ (rs : List CompiledLibrary) (records : RecordsHold (P first) rs) where
    records-at : (s : State) → F s → RecordsHold (P s.names.number) rs
    records-at s h = records-wider (P first) (P s.names.number) (up first s.names.number h.stage.up) rs records

    pub finish-keyword-holds : (place : Span) (l : Label) (c : PlainCore) (s : State) → F s → C s.names.number c → Gave Taken s (evaluate_transformer rs place l c s)
    unfolding evaluate_transformer
    finish-keyword-holds place l c s h k =
        gave-staged Taken s (stage.evaluate_transformer place rs l c (stage_of s)) h (finish-holds own K J P lives place rs l c s.names.number (stage_of s) (stage-self own K J P lives first (stage_of s) h.stage) (records-at s h) k)

    -- Uses.

    expression-at : (n : ℕ) (o : Option Binding) → OptionHolds (BindingHolds (P n)) o → ExpressionHolds (P n) (macro_expression o)
    expression-at n None h = tt
    expression-at n (Some (binding.Macro level e)) h = h
    expression-at n (Some (binding.Variable v)) h = tt
    expression-at n (Some (binding.PatternVariable level depth)) h = tt
    expression-at n (Some (binding.Core f)) h = tt
    expression-at n (Some (binding.Primitive op)) h = tt

    macro-holds : (l : Label) (s : State) → F s → ExpressionHolds (P s.names.number) (macro_expression (bound_to s.bindings l))
    macro-holds l s h = expression-at s.names.number (bound_to s.bindings l) (looked_up (BindingHolds (P s.names.number)) (same_label l) s.bindings h.bindings)

    pub asks-variable-holds : (place : Span) (l : Label) (s : State) → F s → Gave Taken s (asks_variable rs place l s)
    unfolding asks_variable
    asks-variable-holds place l s h =
        gave-staged Taken s (stage.is_variable_transformer place rs l (macro_expression (bound_to s.bindings l)) (stage_of s)) h
        (asks-holds own K J P lives place rs l (macro_expression (bound_to s.bindings l)) s.names.number (stage_of s) (stage-self own K J P lives first (stage_of s) h.stage) (records-at s h) (macro-holds l s h))

    pub use-keyword-holds : (place : Span) (t : Tree) (l : Label) (frame : Option FrameNo) (s : State) → F s → T s.names.number t → OptionHolds (J s.names.number) frame → Gave T s (use_keyword rs place t l frame s)
    unfolding use_keyword
    use-keyword-holds place t l frame s h k q =
        gave-staged T s (used place rs t l (macro_expression (bound_to s.bindings l)) frame (stage_of s)) h
        (used-holds own K J P lives place rs t l (macro_expression (bound_to s.bindings l)) frame s.names.number (stage_of s) (stage-self own K J P lives first (stage_of s) h.stage) (records-at s h) (macro-holds l s h) k q)

  -- Record forms.

  read-at : (n : ℕ) → P n blank
  read-at n = up 0 n (omega arith) blank lives.read

  by-records-at : (n : ℕ) → P n (record { marks = []; stamps = record { frame = core_frame; marks = [] } ∷ [] })
  by-records-at n = lives.stamped n core_frame blank (lives.frames 0 n core_frame (omega arith) lives.introduced) (read-at n)

  -- in a use with the mark of the name of number m
  record-tree-holds : (m : ℕ) (place : Span) (t : Tree) (f : CoreForm) (count : ℕ) (s : State) → m < s.names.number → F s → TreeHolds (In own K J P lives m s.names.number) t
      → Gave (λ n x. TreeHolds (In own K J P lives m n) x) s (record_tree place t f count s)
  unfolding record_tree
  record-tree-holds m place t f count s lt h k =
      by (record_forms s.frames t f place (record_uid s.library t count)) (record-holds (In own K J P lives m s.names.number) (there blank (read-at m)) (there _ (by-records-at m)) s.frames t f place (record_uid s.library t count) k)
    where
      there : (c : LeafContext) → P m c → In own K J P lives m s.names.number c
      there = there-in own K J P lives m s.names.number (omega (arith, lt))

      by : (r : Result Tree Fault) → OkHolds (TreeHolds (In own K J P lives m s.names.number)) r → Gave (λ n x. TreeHolds (In own K J P lives m n) x) s (at_state s r)
      by (Ok u) j = (state-self s h, j)
      by (Err e) j = tt

  count-holds : (f : CoreForm) (s : State) → F s → Gave Taken s (count_record_type f s)
  unfolding count_record_type
  count-holds f s h = by (defines_type f)
    where
      by : (b : Bool) → From s (if b then record s { record_types = s.record_types + 1 } else s) × Unit {0}
      by true = (let i = state-self s h in record { stage = i.stage; bindings = i.bindings }, tt)
      by false = (state-self s h, tt)

  record-marked-holds : (m : ℕ) (place : Span) (t : Tree) (f : CoreForm) (frame : Option FrameNo) (s : State) → m < s.names.number → F s → TreeHolds (P m) t → OptionHolds (J s.names.number) frame
      → Gave T s (record_marked place t f frame (mark_named own m) s)
  unfolding record_marked
  record-marked-holds m place t f frame s lt h k q =
      let x : Mark = mark_named own m in
      gave-after Taken T s (count_record_type f s) _ (count-holds f s h)
      (λ n u i y.
      let low : m < u.names.number = let up = i.stage.up in omega (arith, lt, up) in
      gave-after (λ n v. TreeHolds (In own K J P lives m n) v) T u (record_tree place (enter x t) f n u) (λ v. give (leave x frame v))
      (record-tree-holds m place (enter x t) f n u low (state-then s u h i) (enter-holds own K J P lives m u.names.number t (omega (arith, low)) k))
      (λ v w g z.
      let up = g.stage.up in
      (state-self w (state-then u w (state-then s u h i) g), leave-holds own K J P lives m w.names.number frame v (omega (arith, low, up)) (frame-up own K J P lives s.names.number w.names.number (omega (arith, i.stage.up, up)) frame q) z)))

  pub use-record-holds : (place : Span) (t : Tree) (f : CoreForm) (frame : Option FrameNo) (s : State) → F s → T s.names.number t → OptionHolds (J s.names.number) frame → Gave T s (use_record place t f frame s)
  unfolding use_record fresh
  use-record-holds place t f frame s h k q =
      let u : State = record s { names = record { library = s.names.library; number = s.names.number + 1 } } in
      let i = counted-holds s h in
      gave-from T s u (record_marked place t f frame (record { 0 = s.names }) u) i
      (subst (λ (l : LibName). Gave T u (record_marked place t f frame (record { 0 = record { library = l; number = s.names.number } }) u)) (sym h.stage.library)
      (record-marked-holds s.names.number place t f frame u (omega arith) (state-then s u h i) k (frame-up own K J P lives s.names.number (s.names.number + 1) (omega arith) frame q)))

  -- Templates and patterns.

  pub template-holds : (place : Span) (level : ℕ) (t : Tree) (s : State) → F s → T s.names.number t → Gave (λ n x. TemplateHolds (P n) x) s (template_of place level t s)
  unfolding template_of
  template-holds place level t s h k =
      by (templates.compiled (record { frames = s.frames; bindings = s.bindings; level = level; place = place }) t) (of_templates.compiled-holds (P s.names.number) (record { frames = s.frames; bindings = s.bindings; level = level; place = place }) t k)
    where
      outside : (o : Option Tree) → Gave (λ n (x : PlainTemplate). TemplateHolds (P n) x) s (outside_fault place t o s)
      outside None = tt
      outside (Some id) = tt

      by : (r : Result PlainTemplate Fault) → OkHolds (TemplateHolds (P s.names.number)) r → Gave (λ n x. TemplateHolds (P n) x) s (template_in place t s r)
      by (Err f) j = tt
      by (Ok x) j = gave-if (λ n x. TemplateHolds (P n) x) s (has_variables s.scope x) (Ok (x, s)) (outside_fault place t (first_outside s t) s) (state-self s h, j) (outside (first_outside s t))

  abbrev pub CompiledHolds : ℕ → Compiled → Type 0
  CompiledHolds n c = PatternHolds (P n) c.pattern × Each (VariableHolds (P n) own) c.variables

  pub pattern-holds : (literals : List Tree) (place : Span) (t : Tree) (s : State) → F s → T s.names.number t → Gave CompiledHolds s (pattern_of literals place t s)
  unfolding stage_patterns.pattern_of
  pattern-holds literals place t s h k = by (patterns.compiled (record { frames = s.frames; literals = literals; place = place }) t s.names) (λ m le. compiled-holds (P m) own (record { frames = s.frames; literals = literals; place = place }) t s.names (tree-up s.names.number m le t k) h.stage.library)
    where
      by : (r : Result (Compiled × Named) Fault) → ((m : ℕ) → s.names.number ≤ m → GaveBy (CompiledFrom (P m) own s.names.number) r) → Gave CompiledHolds s (staged s (stage_patterns.named (stage_of s) r))
      by (Err f) j = tt
      by (Ok p) j =
          let low = (j s.names.number (omega arith)).1.1 in
          let c = j p.1.number low in (
            record {
              stage = renamed-stage own K J P lives s.names.number (stage_of s) p.1 (stage-self own K J P lives first (stage_of s) h.stage) c.1.0 low;
              bindings = bindings-wider (P s.names.number) (P p.1.number) (up s.names.number p.1.number low) s.bindings h.bindings;
            },
            c.0,
          )

  pub literals-hold : (literals : List Tree) (place : Span) (s : State) → F s → Gave Taken s (check_literals place literals s)
  unfolding stage_patterns.check_literals
  literals-hold literals place s h = by (patterns.literals_checked s.frames place literals)
    where
      by : (r : Result (Unit {0}) Fault) → Gave Taken s (staged s (stage_patterns.unchanged (stage_of s) r))
      by (Err f) = tt
      by (Ok x) = (record { stage = stage-self own K J P lives first (stage_of s) h.stage; bindings = h.bindings }, tt)

  put-pattern-variable-holds : (l : Label) (level depth : ℕ) (s : State) → F s → Gave Taken s (put_pattern_variable l level depth s)
  put-pattern-variable-holds l level depth s h = (
    record {
      stage = let g = stage-self own K J P lives first (stage_of s) h.stage in record { up = g.up; library = g.library; frames = g.frames; cells = g.cells; codes = g.codes; globals = g.globals; keywords = g.keywords };
      bindings = each-and (λ (b : Label × Binding). BindingHolds (P s.names.number) b.1) s.bindings (l, binding.PatternVariable level depth) h.bindings tt;
    },
    tt,
  )

  abbrev pub VariableAt : ℕ → PatternVariable → Type 0
  VariableAt n v = VariableHolds (P n) own v

  bind-one-holds : (frame : FrameNo) (place : Span) (level : ℕ) (v : PatternVariable) (s : State) → F s → VariableAt s.names.number v → Gave Taken s (bind_pattern_variable frame place level v s)
  unfolding bind_pattern_variable
  bind-one-holds frame place level v s h k =
      gave-after Taken Taken s (put_row v.id place frame v.label s) (λ _. put_pattern_variable v.label level v.depth) (put-row-holds v.id place frame v.label s h k)
      (λ x t i y. put-pattern-variable-holds v.label level v.depth t (state-then s t h i))

  pub bind-pattern-holds : (frame : FrameNo) (place : Span) (level : ℕ) (vs : List PatternVariable) (s : State) → F s → Each (VariableAt s.names.number) vs → Gave Taken s (bind_pattern frame place level vs s)
  bind-pattern-holds frame place level vs s h k =
      gave-gather VariableAt (Taken {A = Unit {0}}) (λ m n le v i. tree-up m n le v.id i) (bind_next frame place level) (λ d v t i w j. bind-one-holds frame place level v t i j) tt vs s h tt k
