-- Binders add links; patterns, templates, keywords and uses add none.
use Rattle.std.proofs.Common.{◌≡◌, ℕ, ◌+◌, Bool, true, false, List, [], ◌∷◌, ◌++◌, Option, None, Some, Result, Ok, Err, refl, sym, ap, append-nil, if◌then◌else◌}
use Rattle.base_data.specs.Act.{after, give}
use Rattle.base_data.specs.Named.{Named}
use Rattle.base_data.specs.declared.fault.Bare.{Bare}
use Rattle.base_data.specs.declared.fault.Fault.{Fault}
use Rattle.base_data.specs.declared.name.FrameNo.{FrameNo}
use Rattle.base_data.specs.declared.name.Label.{Label}
use Rattle.base_data.specs.declared.name.Mark.{Mark}
use Rattle.base_data.specs.declared.span.Span.{Span}
use Rattle.stx_tree.specs.Changes.{enter, leave}
use Rattle.stx_tree.specs.Tree.{Tree, span_of}
use Rattle.stx_frames.specs.Scope.{Scope, bound}
use Rattle.stx_scope.specs.Stands.{row_for}
use Rattle.core_language.specs.Bindings.{bound_to}
use Rattle.core_language.specs.Core.{PlainCore}
use Rattle.core_language.specs.declared.core_form.CoreForm.{CoreForm}
use Rattle.core_language.specs.declared.link.LinkKind.TheVariants as kinds
use Rattle.core_language.specs.declared.record.CompiledLibrary.{CompiledLibrary}
use Rattle.eval_pattern.specs.declared.compile.PatternVariable.{PatternVariable}
use Rattle.core_records.specs.Forms.{record_forms}
use Rattle.core_records.specs.Names.{record_uid}
use Rattle.core_shapes.specs.At.{place_of}
use Rattle.core_shapes.specs.Lists.{is_leaf}
use Rattle.core_shapes.specs.declared.shape.BindingSpec.{BindingSpec}
use Rattle.core_shapes.specs.declared.shape.FormalIds.{FormalIds}
use Rattle.core_language.specs.declared.binding.Binding.TheVariants as binding
use Rattle.eval_stage.specs.Transformers as stage
use Rattle.eval_stage.specs.Uses.{used}
use Rattle.expand_standing.specs.InScope.{with_local}
use Rattle.expand_standing.specs.Binders.{next_index, row_put, put_row, put_variable, variable_for, bind_as, bind_variable, bind_all, bind_rest, bind_spec, bind_specs, bind_formals}
use Rattle.expand_standing.specs.Patterns.{put_pattern_variable, bind_pattern_variable, bind_next, bind_pattern}
use Rattle.expand_standing.specs.RecordUses.{at_state, defines_type, count_record_type, record_tree, record_marked, use_record}
use Rattle.expand_standing.specs.State.{State, note, on_stage, fresh, stage_of}
use Rattle.expand_standing.specs.Uses.{macro_expression, use_keyword, asks_variable, put_keyword, bind_keyword_as, bind_keyword, bind_keywords, evaluate_transformer}
use Rattle.law_links.specs.Links.{binds}
use Rattle.law_links.proofs.Grown.{Grows, grows-same, grows-noted, Grew, grew-from, grew-after, grew-if, grew-each, grew-gather, grew-staged}

-- Rows.

row-put-grew : (id : Tree) (place : Span) (s : State) (r : Result Scope Bare) → Grew s (row_put id place s r)
row-put-grew id place s (Err b) = tt
row-put-grew id place s (Ok frames) = grows-same s (record s { frames = frames }) refl

pub put-row-grew : (id : Tree) (place : Span) (f : FrameNo) (l : Label) (s : State) → Grew s (put_row id place f l s)
put-row-grew id place f l s = row-put-grew id place s (bound s.frames f (row_for id l))

-- Variables.

module _ (f : FrameNo) (id : Tree) (place : Span) (level : ℕ) (top : Bool) (n : Named) (s : State) (leafy : is_leaf id ≡ true) where
  abbrev label : Label
  label = record { 0 = n }

  bind-as-grew : Grew s (bind_as f place level id top n s)
  bind-as-grew = by (bound s.frames f (row_for id label)) refl
    where
      by : (r : Result Scope Bare) → bound s.frames f (row_for id label) ≡ r
          → Grew s (after (row_put id place s r) (λ _ t. after (put_variable label (variable_for id level top s.index) t) (λ _. note label (span_of id) label kinds.Bind)))
      by (Err b) e = tt
      by (Ok fs) e =
          let t : State = record s { frames = fs } in
          let v = variable_for id level top s.index in
          let u : State = record t { bindings = t.bindings ++ (label, binding.Variable v) ∷ []; index = next_index v.level t.index; scope = with_local v.top label t.scope } in
          grows-noted (span_of id) label kinds.Bind s u refl (λ p k. binds id s t place f leafy k (ap (row_put id place s) e))

pub variable-grew : (f : FrameNo) (place : Span) (level : ℕ) (top : Bool) (id : Tree) (s : State) → Grew s (bind_variable f place level top id s)
unfolding bind_variable fresh
variable-grew f place level top id s =
    let t : State = record s { names = record { library = s.names.library; number = s.names.number + 1 } } in
    grew-if s (is_leaf id) (bind_as f place level id top s.names t) _
    (λ e. grew-from s t (bind_as f place level id top s.names t) (grows-same s t refl) (bind-as-grew f id place level top s.names t e)) (λ e. tt)

pub bind-all-grew : (f : FrameNo) (place : Span) (level : ℕ) (ids : List Tree) (s : State) → Grew s (bind_all f place level ids s)
bind-all-grew f place level ids s = grew-each (bind_variable f place level false) (λ id t. variable-grew f place level false id t) [] ids s

bind-rest-grew : (f : FrameNo) (place : Span) (level : ℕ) (o : Option Tree) (s : State) → Grew s (bind_rest f place level o s)
bind-rest-grew f place level None s = grows-same s s refl
bind-rest-grew f place level (Some id) s = grew-after s (bind_variable f place level false id s) (λ l. give (Some l)) (variable-grew f place level false id s) (λ l t. grows-same t t refl)

pub bind-formals-grew : (f : FrameNo) (place : Span) (level : ℕ) (ids : FormalIds) (s : State) → Grew s (bind_formals f place level ids s)
unfolding bind_formals
bind-formals-grew f place level ids s =
    grew-after s (bind_all f place level ids.required s) _ (bind-all-grew f place level ids.required s)
    (λ ls t. grew-after t (bind_rest f place level ids.rest t) (λ r. give (record { required = ls; rest = r })) (bind-rest-grew f place level ids.rest t) (λ r u. grows-same u u refl))

bind-spec-grew : (f : FrameNo) (place : Span) (level : ℕ) (b : BindingSpec) (s : State) → Grew s (bind_spec f place level b s)
unfolding bind_spec
bind-spec-grew f place level b s =
    grew-after s (bind_variable f place level false b.id s) (λ l. give (record { label = l; init = b.init })) (variable-grew f place level false b.id s) (λ l t. grows-same t t refl)

pub bind-specs-grew : (f : FrameNo) (place : Span) (level : ℕ) (bs : List BindingSpec) (s : State) → Grew s (bind_specs f place level bs s)
bind-specs-grew f place level bs s = grew-each (bind_spec f place level) (λ b t. bind-spec-grew f place level b t) [] bs s

-- Keywords.

put-keyword-grew : (l : Label) (level : ℕ) (s : State) → Grew s (put_keyword l level s)
put-keyword-grew l level s = record { new = []; are = sym (append-nil s.links); all = tt }

bind-keyword-as-grew : (f : FrameNo) (place : Span) (level : ℕ) (b : BindingSpec) (n : Named) (s : State) → Grew s (bind_keyword_as f place level b n s)
bind-keyword-as-grew f place level b n s =
    let l : Label = record { 0 = n } in
    grew-after s (put_row b.id place f l s) _ (put-row-grew b.id place f l s)
    (λ x t. grew-after t (put_keyword l level t) _ (put-keyword-grew l level t)
    (λ y u. grew-after u (on_stage (stage.begin_keyword l (place_of b.init place)) u) (λ _. give (record { label = l; init = b.init })) (grew-staged u (stage.begin_keyword l (place_of b.init place) (stage_of u))) (λ z v. grows-same v v refl)))

pub bind-keyword-grew : (f : FrameNo) (place : Span) (level : ℕ) (b : BindingSpec) (s : State) → Grew s (bind_keyword f place level b s)
unfolding bind_keyword fresh
bind-keyword-grew f place level b s =
    let t : State = record s { names = record { library = s.names.library; number = s.names.number + 1 } } in
    grew-if s (is_leaf b.id) (bind_keyword_as f place level b s.names t) _ (λ e. grew-from s t (bind_keyword_as f place level b s.names t) (grows-same s t refl) (bind-keyword-as-grew f place level b s.names t)) (λ e. tt)

pub bind-keywords-grew : (f : FrameNo) (place : Span) (level : ℕ) (bs : List BindingSpec) (s : State) → Grew s (bind_keywords f place level bs s)
bind-keywords-grew f place level bs s = grew-each (bind_keyword f place level) (λ b t. bind-keyword-grew f place level b t) [] bs s

module _ (rs : List CompiledLibrary) where
  pub finish-keyword-grew : (place : Span) (l : Label) (c : PlainCore) (s : State) → Grew s (evaluate_transformer rs place l c s)
  unfolding evaluate_transformer
  finish-keyword-grew place l c s = grew-staged s (stage.evaluate_transformer place rs l c (stage_of s))

  pub asks-variable-grew : (place : Span) (l : Label) (s : State) → Grew s (asks_variable rs place l s)
  unfolding asks_variable
  asks-variable-grew place l s = grew-staged s (stage.is_variable_transformer place rs l (macro_expression (bound_to s.bindings l)) (stage_of s))

  pub use-keyword-grew : (place : Span) (t : Tree) (l : Label) (f : Option FrameNo) (s : State) → Grew s (use_keyword rs place t l f s)
  unfolding use_keyword
  use-keyword-grew place t l f s = grew-staged s (used place rs t l (macro_expression (bound_to s.bindings l)) f (stage_of s))

-- Record forms.

record-tree-grew : (place : Span) (t : Tree) (f : CoreForm) (n : ℕ) (s : State) → Grew s (record_tree place t f n s)
unfolding record_tree
record-tree-grew place t f n s = by (record_forms s.frames t f place (record_uid s.library t n))
  where
    by : (r : Result Tree Fault) → Grew s (at_state s r)
    by (Ok u) = grows-same s s refl
    by (Err e) = tt

count-grew : (f : CoreForm) (s : State) → Grew s (count_record_type f s)
unfolding count_record_type
count-grew f s = by (defines_type f)
  where
    by : (b : Bool) → Grows s (if b then record s { record_types = s.record_types + 1 } else s)
    by true = grows-same s (record s { record_types = s.record_types + 1 }) refl
    by false = grows-same s s refl

record-marked-grew : (place : Span) (t : Tree) (f : CoreForm) (frame : Option FrameNo) (m : Mark) (s : State) → Grew s (record_marked place t f frame m s)
unfolding record_marked
record-marked-grew place t f frame m s =
    grew-after s (count_record_type f s) _ (count-grew f s)
    (λ n u. grew-after u (record_tree place (enter m t) f n u) (λ v. give (leave m frame v)) (record-tree-grew place (enter m t) f n u) (λ v w. grows-same w w refl))

pub use-record-grew : (place : Span) (t : Tree) (f : CoreForm) (frame : Option FrameNo) (s : State) → Grew s (use_record place t f frame s)
unfolding use_record fresh
use-record-grew place t f frame s =
    let u : State = record s { names = record { library = s.names.library; number = s.names.number + 1 } } in
    grew-from s u (record_marked place t f frame (record { 0 = s.names }) u) (grows-same s u refl) (record-marked-grew place t f frame (record { 0 = s.names }) u)

-- Patterns.

put-pattern-variable-grew : (l : Label) (level depth : ℕ) (s : State) → Grew s (put_pattern_variable l level depth s)
put-pattern-variable-grew l level depth s = record { new = []; are = sym (append-nil s.links); all = tt }

pattern-variable-grew : (f : FrameNo) (place : Span) (level : ℕ) (v : PatternVariable) (s : State) → Grew s (bind_pattern_variable f place level v s)
unfolding bind_pattern_variable
pattern-variable-grew f place level v s = grew-after s (put_row v.id place f v.label s) (λ _. put_pattern_variable v.label level v.depth) (put-row-grew v.id place f v.label s) (λ x t. put-pattern-variable-grew v.label level v.depth t)

pub bind-pattern-grew : (f : FrameNo) (place : Span) (level : ℕ) (vs : List PatternVariable) (s : State) → Grew s (bind_pattern f place level vs s)
bind-pattern-grew f place level vs s = grew-gather (bind_next f place level) (λ d v t. pattern-variable-grew f place level v t) tt vs s
