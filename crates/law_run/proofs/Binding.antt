-- Binding, uses of keywords, patterns and templates change frames by binds alone.
use Rattle.std.proofs.Common.{◌≡◌, ℕ, ◌+◌, Bool, true, false, List, [], ◌∷◌, Option, None, Some, Result, Ok, Err, refl, sym, ◌∙◌, subst, if◌then◌else◌}
use Rattle.base_data.specs.Act.{after, give}
use Rattle.base_data.specs.Named.{Named}
use Rattle.base_data.specs.declared.fault.Bare.{Bare}
use Rattle.base_data.specs.declared.fault.Fault.{Fault}
use Rattle.base_data.specs.declared.library.LibName.{LibName}
use Rattle.base_data.specs.declared.name.FrameNo.{FrameNo}
use Rattle.base_data.specs.declared.name.Label.{Label}
use Rattle.base_data.specs.declared.name.Mark.{Mark}
use Rattle.base_data.specs.declared.span.Span.{Span}
use Rattle.stx_tree.specs.Changes.{enter, leave, stamp}
use Rattle.stx_tree.specs.Tree.{Tree, span_of}
use Rattle.stx_frames.specs.Scope.{Scope, bound}
use Rattle.stx_scope.specs.Stands.{row_for}
use Rattle.core_language.specs.Bindings.{bound_to}
use Rattle.core_language.specs.Core.{PlainCore, instance}
use Rattle.core_language.specs.Template.{PlainTemplate}
use Rattle.core_language.specs.declared.core_form.CoreForm.{CoreForm}
use Rattle.core_language.specs.declared.record.CompiledLibrary.{CompiledLibrary}
use Rattle.core_language.specs.declared.link.LinkKind.TheVariants as kinds
use Rattle.eval_pattern.specs.Compile as patterns
use Rattle.eval_pattern.specs.declared.compile.Compiled.{Compiled}
use Rattle.eval_pattern.specs.declared.compile.PatternVariable.{PatternVariable}
use Rattle.core_quasi.specs.declared.quasi_syntax.Insert.{Insert}
use Rattle.core_quasi.specs.declared.quasi_syntax.QuasiSyntax.{QuasiSyntax}
use Rattle.expand_quasi.specs.Form.{code_of}
use Rattle.expand_quasi.specs.Inserted.{dots, ellipsis, insert_variable, insert_variables, match_of, bind_inserts, inserted_in, inserted, syntax_code}
use Rattle.expand_quasi.specs.declared.form.QuasiForm.{QuasiForm}
use Rattle.expand_quasi.specs.declared.form.QuasiForm.TheVariants as forms
use Rattle.core_records.specs.Forms.{record_forms}
use Rattle.core_records.specs.Names.{record_uid}
use Rattle.core_shapes.specs.At.{place_of}
use Rattle.core_shapes.specs.Lists.{is_leaf}
use Rattle.core_shapes.specs.declared.shape.BindingSpec.{BindingSpec}
use Rattle.core_shapes.specs.declared.shape.FormalIds.{FormalIds}
use Rattle.eval_stage.specs.Patterns as stage_patterns
use Rattle.eval_stage.specs.Stage.{PlainStage}
use Rattle.eval_stage.specs.Transformers as stage
use Rattle.eval_stage.specs.Uses.{used}
use Rattle.expand_standing.specs.Binders.{row_put, put_row, bind_as, bind_variable, bind_all, bind_rest, bind_spec, bind_specs, bind_formals}
use Rattle.expand_standing.specs.Patterns.{pattern_of, check_literals, bind_pattern_variable, bind_next, bind_pattern, template_of}
use Rattle.expand_standing.specs.RecordUses.{at_state, defines_type, count_record_type, record_tree, record_marked, use_record}
use Rattle.expand_standing.specs.State.{State, stage_of, with_stage, staged, fresh, fresh_frame}
use Rattle.expand_standing.specs.Uses.{macro_expression, use_keyword, asks_variable, bind_keyword_as, bind_keyword, bind_keywords, evaluate_transformer}
use Rattle.expand_standing.proofs.Noted.{noted-keeps}
use Rattle.expand_heads.specs.declared.plan.KeywordUse.{KeywordUse}
use Rattle.expand_heads.specs.declared.plan.KeywordUse.TheVariants as keyword_use
use Rattle.expand_forms.specs.ExpandUses.{used_form, next_form}
use Rattle.law_expand.specs.Stages.{EndsLater}
use Rattle.law_expand.proofs.Acts.{Gave, gave-after, gave-less, gave-if}
use Rattle.law_expand.proofs.Compiled.{Compiles, GaveBy, compiles}
use Rattle.law_expand.proofs.Naming.{counted, as_label, as_frame}
use Rattle.law_expand.proofs.Plans.{IsTemplate, template-is}
use Rattle.law_expand.proofs.Stage.{stage-grows}
use Rattle.law_run.specs.Bound.{no_more, one_more}
use Rattle.law_run.proofs.Steps.{Steps, Names, St, stays, self, steps-after, steps-each, steps-gather, steps-within}

module _ (own : LibName) where
  -- behind a new name
  pub steps-counted : {A : Type 0} (s : State) (r : Result (A × State) Fault) → Gave (St own (counted s)) r → Gave (St own s) r
  steps-counted s r h = gave-less (St own (counted s)) (St own s) r h (λ a t k. record { next = k.next; binds = k.binds })

  -- Rows.

  pub steps-row : (id : Tree) (place : Span) (frame : FrameNo) (l : Label) (s : State) → frame.0.library ≡ own → Names own s → Gave (St own s) (put_row id place frame l s)
  steps-row id place frame l s mine n = by (bound s.frames frame (row_for id l)) refl
    where
      by : (r : Result Scope Bare) → bound s.frames frame (row_for id l) ≡ r → Gave (St own s) (row_put id place s r)
      by (Err b) e = tt
      by (Ok fs) e = record { next = n; binds = one_more frame (row_for id l) no_more mine e }

  module _ (frame : FrameNo) (mine : frame.0.library ≡ own) (place : Span) (level : ℕ) where
    pub steps-variable : (top : Bool) (id : Tree) (s : State) → Names own s → Gave (St own s) (bind_variable frame place level top id s)
    unfolding bind_variable fresh
    steps-variable top id s n = gave-if (St own s) (is_leaf id) _ _
        (λ e. steps-counted s (bind_as frame place level id top s.names (counted s))
        (steps-after own (counted s) (put_row id place frame (as_label s.names) (counted s)) _ (steps-row id place frame (as_label s.names) (counted s) mine n)
        (λ a t m. noted-keeps (Steps own t) (span_of id) (as_label s.names) kinds.Bind _ (λ ls. stays own t _ m refl))))
        (λ e. tt)

    steps-all : (ids : List Tree) (s : State) → Names own s → Gave (St own s) (bind_all frame place level ids s)
    steps-all ids s n = steps-each own (bind_variable frame place level false) (λ id t m. steps-variable false id t m) [] ids s n

    steps-rest : (id : Option Tree) (s : State) → Names own s → Gave (St own s) (bind_rest frame place level id s)
    steps-rest None s n = self own s n
    steps-rest (Some id) s n = steps-after own s (bind_variable frame place level false id s) _ (steps-variable false id s n) (λ l t m. self own t m)

    pub steps-formals : (ids : FormalIds) (s : State) → Names own s → Gave (St own s) (bind_formals frame place level ids s)
    unfolding bind_formals
    steps-formals ids s n =
        steps-after own s (bind_all frame place level ids.required s) _ (steps-all ids.required s n)
        (λ ls t m. steps-after own t (bind_rest frame place level ids.rest t) _ (steps-rest ids.rest t m) (λ r u k. self own u k))

    steps-spec : (b : BindingSpec) (s : State) → Names own s → Gave (St own s) (bind_spec frame place level b s)
    unfolding bind_spec
    steps-spec b s n = steps-after own s (bind_variable frame place level false b.id s) _ (steps-variable false b.id s n) (λ l t m. self own t m)

    pub steps-specs : (bs : List BindingSpec) (s : State) → Names own s → Gave (St own s) (bind_specs frame place level bs s)
    steps-specs bs s n = steps-each own (bind_spec frame place level) (λ b t m. steps-spec b t m) [] bs s n

    pub steps-keyword : (b : BindingSpec) (s : State) → Names own s → Gave (St own s) (bind_keyword frame place level b s)
    unfolding bind_keyword fresh stage.begin_keyword
    steps-keyword b s n = gave-if (St own s) (is_leaf b.id) _ _
        (λ e. steps-counted s (bind_keyword_as frame place level b s.names (counted s))
        (steps-after own (counted s) (put_row b.id place frame (as_label s.names) (counted s)) _ (steps-row b.id place frame (as_label s.names) (counted s) mine n) (λ a t m. stays own t _ m refl)))
        (λ e. tt)

    pub steps-keywords : (bs : List BindingSpec) (s : State) → Names own s → Gave (St own s) (bind_keywords frame place level bs s)
    steps-keywords bs s n = steps-each own (bind_keyword frame place level) (λ b t m. steps-keyword b t m) [] bs s n

    steps-pattern-variable : (v : PatternVariable) (s : State) → Names own s → Gave (St own s) (bind_pattern_variable frame place level v s)
    unfolding bind_pattern_variable
    steps-pattern-variable v s n = steps-after own s (put_row v.id place frame v.label s) _ (steps-row v.id place frame v.label s mine n) (λ a t m. stays own t _ m refl)

    pub steps-patterns : (vs : List PatternVariable) (s : State) → Names own s → Gave (St own s) (bind_pattern frame place level vs s)
    steps-patterns vs s n = steps-gather own (bind_next frame place level) (λ d v t m. steps-pattern-variable v t m) tt vs s n

  -- On the stage.

  steps-staged : {A : Type 0} (s : State) (r : Result (A × PlainStage) Fault) → Names own s → EndsLater (stage_of s) r → Gave (St own s) (staged s r)
  steps-staged s (Ok p) n h = stays own s (with_stage p.1 s) (h.library ∙ n) h.frames
  steps-staged s (Err f) n h = tt

  steps-use : (rs : List CompiledLibrary) (place : Span) (t : Tree) (l : Label) (frame : Option FrameNo) (s : State) → Names own s → Gave (St own s) (use_keyword rs place t l frame s)
  unfolding use_keyword
  steps-use rs place t l frame s n = steps-staged s (used place rs t l (macro_expression (bound_to s.bindings l)) frame (stage_of s)) n (stage-grows.uses place rs t l (macro_expression (bound_to s.bindings l)) frame (stage_of s))

  pub steps-asks : (rs : List CompiledLibrary) (place : Span) (l : Label) (s : State) → Names own s → Gave (St own s) (asks_variable rs place l s)
  unfolding asks_variable
  steps-asks rs place l s n = steps-staged s (stage.is_variable_transformer place rs l (macro_expression (bound_to s.bindings l)) (stage_of s)) n (stage-grows.asks place rs l (macro_expression (bound_to s.bindings l)) (stage_of s))

  pub steps-finish : (rs : List CompiledLibrary) (place : Span) (l : Label) (c : PlainCore) (s : State) → Names own s → Gave (St own s) (evaluate_transformer rs place l c s)
  unfolding evaluate_transformer
  steps-finish rs place l c s n = steps-staged s (stage.evaluate_transformer place rs l c (stage_of s)) n (stage-grows.finishes place rs l c (stage_of s))

  pub steps-pattern : (literals : List Tree) (place : Span) (t : Tree) (s : State) → Names own s → Gave (St own s) (pattern_of literals place t s)
  unfolding stage_patterns.pattern_of
  steps-pattern literals place t s n = by (patterns.compiled (record { frames = s.frames; literals = literals; place = place }) t s.names) (compiles own (record { frames = s.frames; literals = literals; place = place }) t s.names n)
    where
      by : (r : Result (Compiled × Named) Fault) → GaveBy (Compiles own s.names) r → Gave (St own s) (staged s (stage_patterns.named (stage_of s) r))
      by (Err e) h = tt
      by (Ok p) h = stays own s (with_stage (record (stage_of s) { names = p.1 }) s) h.library refl

  pub steps-literals : (literals : List Tree) (place : Span) (s : State) → Names own s → Gave (St own s) (check_literals place literals s)
  unfolding stage_patterns.check_literals
  steps-literals literals place s n = by (patterns.literals_checked s.frames place literals)
    where
      by : (r : Result (Unit {0}) Fault) → Gave (St own s) (staged s (stage_patterns.unchanged (stage_of s) r))
      by (Err e) = tt
      by (Ok x) = stays own s (with_stage (stage_of s) s) n refl

  -- Record forms.

  steps-count : (f : CoreForm) (s : State) → Names own s → Gave (St own s) (count_record_type f s)
  unfolding count_record_type
  steps-count f s n = by (defines_type f)
    where
      by : (b : Bool) → Steps own s (if b then record s { record_types = s.record_types + 1 } else s)
      by true = stays own s (record s { record_types = s.record_types + 1 }) n refl
      by false = self own s n

  steps-tree : (place : Span) (t : Tree) (f : CoreForm) (count : ℕ) (s : State) → Names own s → Gave (St own s) (record_tree place t f count s)
  unfolding record_tree
  steps-tree place t f count s n = by (record_forms s.frames t f place (record_uid s.library t count))
    where
      by : (r : Result Tree Fault) → Gave (St own s) (at_state s r)
      by (Ok u) = self own s n
      by (Err e) = tt

  steps-marked : (place : Span) (t : Tree) (f : CoreForm) (frame : Option FrameNo) (m : Mark) (s : State) → Names own s → Gave (St own s) (record_marked place t f frame m s)
  unfolding record_marked
  steps-marked place t f frame m s n =
      steps-after own s (count_record_type f s) (λ c s'. after (record_tree place (enter m t) f c s') (λ u. give (leave m frame u))) (steps-count f s n)
      (λ c u k. steps-after own u (record_tree place (enter m t) f c u) (λ v. give (leave m frame v)) (steps-tree place (enter m t) f c u k) (λ v w j. self own w j))

  steps-record : (place : Span) (t : Tree) (f : CoreForm) (frame : Option FrameNo) (s : State) → Names own s → Gave (St own s) (use_record place t f frame s)
  unfolding use_record fresh
  steps-record place t f frame s n = let m : Mark = record { 0 = s.names } in steps-counted s (record_marked place t f frame m (counted s)) (steps-marked place t f frame m (counted s) n)

  steps-used : (rs : List CompiledLibrary) (place : Span) (t : Tree) (k : KeywordUse) (frame : Option FrameNo) (s : State) → Names own s → Gave (St own s) (used_form rs place t k frame s)
  steps-used rs place t (keyword_use.Macro l) frame s n = steps-use rs place t l frame s n
  steps-used rs place t (keyword_use.Record f) frame s n = steps-record place t f frame s n

  pub steps-next : (rs : List CompiledLibrary) (left : ℕ) (place : Span) (t : Tree) (k : KeywordUse) (frame : Option FrameNo) (s : State) → Names own s → Gave (St own s) (next_form rs left place t k frame s)
  unfolding next_form
  steps-next rs left place t k frame s n =
      let u : State = record s { uses_left = left } in
      gave-less (St own u) (St own s) (used_form rs (place_of t place) t k frame u) (steps-used rs (place_of t place) t k frame u n) (λ x v h. record { next = h.next; binds = h.binds })

  -- Templates, and the code of quasi forms.

  pub steps-template : {B : Type 0} (place : Span) (level : ℕ) (t : Tree) (k : PlainTemplate → B) (s : State) → Names own s → Gave (St own s) (after (template_of place level t s) (λ x. give (k x)))
  steps-template place level t k s n = gave-after (IsTemplate place level t s) (St own s) (template_of place level t s) (λ x. give (k x)) (template-is place level t s) (λ y u h. subst (Steps own s) (sym h.same) (self own s n))

  module _ (place : Span) (level : ℕ) (t : Tree) where
    steps-insert : (i : Insert) (s : State) → Names own s → Gave (St own s) (insert_variable i s)
    unfolding fresh
    steps-insert i s n = stays own s (counted s) n refl

    steps-bind-inserts : (frame : FrameNo) (vs : List PatternVariable) (s : State) → frame.0.library ≡ own → Names own s → Gave (St own s) (bind_inserts frame place level vs s)
    steps-bind-inserts frame vs s mine n = steps-after own s (bind_pattern frame place level vs s) _ (steps-patterns frame mine place level vs s n) (λ x u m. steps-row dots place frame ellipsis u mine m)

    steps-inserted : (q : QuasiSyntax) (cs : List PlainCore) (s : State) → Names own s → Gave (St own s) (inserted place level t q cs s)
    unfolding inserted fresh_frame
    steps-inserted q cs s n =
        let f = as_frame s.names in
        steps-within own (λ u. after (fresh_frame u) (inserted_in place level t q cs)) s
        (steps-counted s (inserted_in place level t q cs f (counted s))
        (steps-after own (counted s) (insert_variables q.inserts (counted s)) _ (steps-each own insert_variable (λ i u m. steps-insert i u m) [] q.inserts (counted s) n)
        (λ vs u m. steps-after own u (bind_inserts f place level vs u) _ (steps-bind-inserts f vs u n m) (λ x v k. steps-template place level (stamp f q.template) (λ y. match_of vs y (place_of t place) cs) v k))))

    pub steps-code : (q : QuasiForm) (cs : List PlainCore) (s : State) → Names own s → Gave (St own s) (code_of place level t q cs s)
    steps-code (forms.Quote q) cs s n = self own s n
    steps-code (forms.Syntax q) cs s n = by q.inserts
      where
        by : (is : List Insert) → Gave (St own s) (syntax_code place level t q cs is s)
        by [] = steps-template place level q.template (λ x. instance x (place_of t place)) s n
        by (i ∷ is) = steps-inserted q cs s n
