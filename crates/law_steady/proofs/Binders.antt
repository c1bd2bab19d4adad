-- Binding identifiers is safe.
use Rattle.std.proofs.Common.{◌≡◌, ℕ, Bool, true, false, List, [], ◌∷◌, ◌++◌, Option, Some, None, Result, Ok, Err, refl, sym, ap, subst, if◌then◌else◌}
use Rattle.std.specs.Prelude.{is_some}
use Rattle.base_data.specs.Act.{after, give, each}
use Rattle.base_data.specs.Named.{Named}
use Rattle.base_data.specs.declared.fault.Fault.{Fault}
use Rattle.base_data.specs.declared.fault.FaultKind.TheVariants as kind
use Rattle.base_data.specs.declared.library.LibName.{LibName}
use Rattle.base_data.specs.declared.name.CodeNo.{CodeNo}
use Rattle.base_data.specs.declared.name.FrameNo.{FrameNo}
use Rattle.base_data.specs.declared.name.Label.{Label}
use Rattle.base_data.specs.declared.span.Span.{Span}
use Rattle.stx_tree.specs.Tree.{Tree, span_of}
use Rattle.stx_frames.specs.Rows.{second_binder}
use Rattle.stx_frames.specs.Scope.{with_row, label_at}
use Rattle.stx_scope.specs.Stands.{symbol_of, row_for}
use Rattle.core_language.specs.Labels.{with_label}
use Rattle.core_language.specs.Template.{PlainTemplate}
use Rattle.core_language.specs.declared.binding.Binding.TheVariants as binding
use Rattle.core_language.specs.declared.record.CompiledLibrary.{CompiledLibrary}
use Rattle.core_language.specs.declared.link.LinkKind.TheVariants as kinds
use Rattle.eval_pattern.specs.Compile as patterns
use Rattle.eval_pattern.specs.declared.compile.Compiled.{Compiled}
use Rattle.eval_pattern.specs.declared.compile.PatternVariable.{PatternVariable}
use Rattle.core_shapes.specs.Lists.{is_leaf}
use Rattle.core_shapes.specs.declared.shape.BindingSpec.{BindingSpec}
use Rattle.core_shapes.specs.declared.shape.FormalIds.{FormalIds}
use Rattle.eval_stage.specs.Patterns as stage_patterns
use Rattle.expand_standing.specs.Binders.{bind_variable, bind_as, row_put, put_row, put_variable, variable_for, next_index, bind_all, bind_rest, bind_formals, bind_spec, bind_specs}
use Rattle.expand_standing.specs.InScope.{with_local}
use Rattle.expand_standing.specs.Patterns.{pattern_of, check_literals, put_pattern_variable, bind_pattern_variable, bind_next, bind_pattern, has_variables, first_outside, outside_fault, template_in, template_of}
use Rattle.expand_standing.specs.State.{State, Does, fresh, fault_form, note, stage_of, staged}
use Rattle.expand_standing.proofs.Noted.{noted-keeps}
use Rattle.eval_template.specs.Compile as templates
use Rattle.law_expand.proofs.Acts.{each-cons, each-nil}
use Rattle.law_expand.proofs.Naming.{as_label, counted}
use Rattle.law_expand.proofs.Uses.{Patterned, pattern-later}
use Rattle.law_steady.proofs.PatternsSay as patterns_say
use Rattle.law_steady.proofs.TemplatesSay as templates_say
use Rattle.law_steady.proofs.Says.{Says}
use Rattle.law_steady.proofs.Sure.{Sure, sure-after, sure-less, sure-with, sure-if, sure-gather}
use Rattle.law_steady.proofs.Safe.{Safe, safe-frames, safe-names, safe-counted, safe-bound, Light, light-self, light-links, light-then}

module _ (own : LibName) (texts : List CodeNo) (rs : List CompiledLibrary) where
  abbrev S : State → Type 0
  S = Safe own texts rs

  abbrev pub L : {A : Type 0} → State → A → State → Type 0
  L s a u = Light own texts rs s u

  -- one light action behind another
  pub light : {A C : Type 0} (s : State) (r : Result (A × State) Fault) (k : A → State → Result (C × State) Fault) → Sure (L s) r → ((a : A) (t : State) → S t → Sure (L t) (k a t)) → Sure (L s) (after r k)
  light s r k h next = sure-after (L s) (L s) r k h (λ a t g. sure-less (L t) (L s) (k a t) (next a t g.safe) (λ c u j. light-then own texts rs s t u g j))

  pub light-each : {X A : Type 0} (step : X → Does A) → ((x : X) (s : State) → S s → Sure (L s) (step x s)) → (xs : List X) (s : State) → S s → Sure (L s) (each step [] xs s)
  light-each {X} {A} step one [] s h = subst (λ (r : Result (List A × State) Fault). Sure (L s) r) (sym (each-nil step s)) (light-self own texts rs s h)
  light-each {X} {A} step one (x ∷ xs) s h =
      subst (λ (r : Result (List A × State) Fault). Sure (L s) r) (sym (each-cons step x xs s))
      (light s (step x s) (λ a t. after (each step [] xs t) (λ ys. give (a ∷ ys))) (one x s h)
      (λ a t k. light t (each step [] xs t) (λ ys. give (a ∷ ys)) (light-each step one xs t k) (λ ys u j. light-self own texts rs u j)))

  -- Variables.

  pub row-light : (id : Tree) (place : Span) (f : FrameNo) (l : Label) (s : State) → S s → Sure (λ x u. u ≡ record s { frames = with_row s.frames f (row_for id l) }) (put_row id place f l s)
  row-light id place f l s h = by (is_some (label_at s.frames f (row_for id l).symbol (row_for id l).marks))
    where
      by : (b : Bool) → Sure (λ x u. u ≡ record s { frames = with_row s.frames f (row_for id l) }) (row_put id place s (if b then Err (second_binder (symbol_of id)) else Ok (with_row s.frames f (row_for id l))))
      by true = tt
      by false = refl

  pub variable-light : (f : FrameNo) (place : Span) (level : ℕ) (top : Bool) (id : Tree) (s : State) → S s → Sure (L s) (bind_variable f place level top id s)
  unfolding bind_variable fresh
  variable-light f place level top id s h =
      sure-if (L s) (is_leaf id) (after (fresh s) (bind_as f place level id top)) (fault_form kind.BadForm id place s)
      (λ e. by (is_some (label_at s.frames f (row_for id (as_label s.names)).symbol (row_for id (as_label s.names)).marks))) (λ e. tt)
    where
      by : (b : Bool)
          → Sure (L s) (after (row_put id place (counted s) (if b then Err (second_binder (symbol_of id)) else Ok (with_row s.frames f (row_for id (as_label s.names))))) (λ _ t. after (put_variable (as_label s.names) (variable_for id level top (counted s).index) t) (λ _. note (as_label s.names) (span_of id) (as_label s.names) kinds.Bind)))
      by true = tt
      by false =
          let t : State = record (counted s) { frames = with_row s.frames f (row_for id (as_label s.names)) } in
          let v = variable_for id level top s.index in
          let w : State = record t { bindings = s.bindings ++ (as_label s.names, binding.Variable v) ∷ []; index = next_index v.level s.index; scope = with_local v.top (as_label s.names) s.scope } in
          noted-keeps (Light own texts rs s) (span_of id) (as_label s.names) kinds.Bind w
          (λ ls. light-links own texts rs s w ls (record {
            safe = safe-bound own texts rs (as_label s.names) (binding.Variable v) t (next_index v.level s.index) (with_local v.top (as_label s.names) s.scope) (λ m c e. absurd (cc))
                (safe-frames own texts rs (with_row s.frames f (row_for id (as_label s.names))) (counted s) (safe-counted own texts rs s h));
            keywords = refl;
          }))

  rest-light : (f : FrameNo) (place : Span) (level : ℕ) (o : Option Tree) (s : State) → S s → Sure (L s) (bind_rest f place level o s)
  rest-light f place level None s h = light-self own texts rs s h
  rest-light f place level (Some id) s h = light s (bind_variable f place level false id s) (λ l. give (Some l)) (variable-light f place level false id s h) (λ l u k. light-self own texts rs u k)

  pub formals-light : (f : FrameNo) (place : Span) (level : ℕ) (ids : FormalIds) (s : State) → S s → Sure (L s) (bind_formals f place level ids s)
  unfolding bind_formals
  formals-light f place level ids s h =
      light s (bind_all f place level ids.required s) (λ ls t. after (bind_rest f place level ids.rest t) (λ r. give (record { required = ls; rest = r })))
      (light-each (bind_variable f place level false) (λ id t k. variable-light f place level false id t k) ids.required s h)
      (λ ls t k. light t (bind_rest f place level ids.rest t) (λ r. give (record { required = ls; rest = r })) (rest-light f place level ids.rest t k) (λ r u j. light-self own texts rs u j))

  spec-light : (f : FrameNo) (place : Span) (level : ℕ) (b : BindingSpec) (s : State) → S s → Sure (L s) (bind_spec f place level b s)
  unfolding bind_spec
  spec-light f place level b s h = light s (bind_variable f place level false b.id s) (λ l. give (record { label = l; init = b.init })) (variable-light f place level false b.id s h) (λ l u k. light-self own texts rs u k)

  pub specs-light : (f : FrameNo) (place : Span) (level : ℕ) (bs : List BindingSpec) (s : State) → S s → Sure (L s) (bind_specs f place level bs s)
  specs-light f place level bs s h = light-each (bind_spec f place level) (λ b t k. spec-light f place level b t k) bs s h

  -- Patterns and templates.

  pattern-is : (literals : List Tree) (place : Span) (t : Tree) (s : State) → Sure (λ (c : Compiled) u. u ≡ record s { names = u.names }) (pattern_of literals place t s)
  unfolding stage_patterns.pattern_of
  pattern-is literals place t s = by (patterns.compiled (record { frames = s.frames; literals = literals; place = place }) t s.names) (patterns_say.says-compiled (record { frames = s.frames; literals = literals; place = place }) t s.names)
    where
      by : (r : Result (Compiled × Named) Fault) → Says r → Sure (λ (c : Compiled) u. u ≡ record s { names = u.names }) (staged s (stage_patterns.named (stage_of s) r))
      by (Ok p) h = refl
      by (Err f) h = h

  pub pattern-light : (literals : List Tree) (place : Span) (t : Tree) (s : State) → s.names.library ≡ own → S s → Sure (L s) (pattern_of literals place t s)
  pattern-light literals place t s n h =
      sure-less (λ (c : Compiled) u. (u ≡ record s { names = u.names }) × Patterned own s c u) (L s) (pattern_of literals place t s)
      (sure-with (λ (c : Compiled) u. u ≡ record s { names = u.names }) (Patterned own s) (pattern_of literals place t s) (pattern-is literals place t s) (pattern-later own literals place t s n))
      (λ c u k. record { safe = subst S (sym k.0) (safe-names own texts rs u.names s k.1.later.up h); keywords = ap (λ (x : State). x.keywords) k.0 })

  pub literals-light : (literals : List Tree) (place : Span) (s : State) → S s → Sure (L s) (check_literals place literals s)
  unfolding stage_patterns.check_literals
  literals-light literals place s h = by (patterns.literals_checked s.frames place literals) (patterns_say.says-literals s.frames place literals)
    where
      by : (r : Result (Unit {0}) Fault) → Says r → Sure (L s) (staged s (stage_patterns.unchanged (stage_of s) r))
      by (Ok x) k = light-self own texts rs s h
      by (Err f) k = k

  pattern-variable-light : (f : FrameNo) (place : Span) (level : ℕ) (v : PatternVariable) (s : State) → S s → Sure (L s) (bind_pattern_variable f place level v s)
  unfolding bind_pattern_variable
  pattern-variable-light f place level v s h =
      sure-after (λ x u. u ≡ record s { frames = with_row s.frames f (row_for v.id v.label) }) (L s) (put_row v.id place f v.label s) (λ _. put_pattern_variable v.label level v.depth) (row-light v.id place f v.label s h)
      (λ x u e. subst (λ (t : State). Sure (L s) (put_pattern_variable v.label level v.depth t)) (sym e)
      (record {
        safe = safe-bound own texts rs v.label (binding.PatternVariable level v.depth) (record s { frames = with_row s.frames f (row_for v.id v.label) }) s.index (with_label s.scope v.label) (λ m c b. absurd (cc))
            (safe-frames own texts rs (with_row s.frames f (row_for v.id v.label)) s h);
        keywords = refl;
      }))

  pub bind-pattern-light : (f : FrameNo) (place : Span) (level : ℕ) (vs : List PatternVariable) (s : State) → S s → Sure (L s) (bind_pattern f place level vs s)
  bind-pattern-light f place level vs s h =
      sure-gather (bind_next f place level) (λ d u. Light own texts rs s u)
      (λ d v t k. sure-less (L t) (L s) (bind_pattern_variable f place level v t) (pattern-variable-light f place level v t k.safe) (λ x u j. light-then own texts rs s t u k j)) tt vs s (light-self own texts rs s h)

  pub template-same : (place : Span) (level : ℕ) (t : Tree) (s : State) → Sure (λ (x : PlainTemplate) u. u ≡ s) (template_of place level t s)
  unfolding template_of
  template-same place level t s = by (templates.compiled (record { frames = s.frames; bindings = s.bindings; level = level; place = place }) t) (templates_say.says-compiled (record { frames = s.frames; bindings = s.bindings; level = level; place = place }) t)
    where
      outside : (o : Option Tree) → Sure (λ (x : PlainTemplate) u. u ≡ s) (outside_fault place t o s)
      outside None = tt
      outside (Some id) = tt

      by : (r : Result PlainTemplate Fault) → Says r → Sure (λ (x : PlainTemplate) u. u ≡ s) (template_in place t s r)
      by (Err f) k = k
      by (Ok x) k = sure-if (λ (y : PlainTemplate) u. u ≡ s) (has_variables s.scope x) (Ok (x, s)) (outside_fault place t (first_outside s t) s) (λ e. refl) (λ e. outside (first_outside s t))

  pub template-light : (place : Span) (level : ℕ) (t : Tree) (s : State) → S s → Sure (L s) (template_of place level t s)
  template-light place level t s h = sure-less (λ (x : PlainTemplate) u. u ≡ s) (L s) (template_of place level t s) (template-same place level t s) (λ x u e. subst (λ (v : State). Light own texts rs s v) (sym e) (light-self own texts rs s h))
