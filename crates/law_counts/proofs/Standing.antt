-- Actions between forms keep how many uses are left.
use Rattle.std.proofs.Common.{◌≡◌, ℕ, ◌+◌, Bool, true, false, List, [], ◌∷◌, ◌++◌, Option, None, Some, Result, Ok, Err, refl, ◌∙◌, subst, if◌then◌else◌}
use Rattle.base_data.specs.Act.{after, give}
use Rattle.base_data.specs.Named.{Named}
use Rattle.base_data.specs.declared.fault.Bare.{Bare}
use Rattle.base_data.specs.declared.fault.Fault.{Fault}
use Rattle.base_data.specs.declared.name.FrameNo.{FrameNo}
use Rattle.base_data.specs.declared.name.Label.{Label}
use Rattle.base_data.specs.declared.name.Mark.{Mark}
use Rattle.base_data.specs.declared.span.Span.{Span}
use Rattle.stx_tree.specs.Changes.{enter, leave}
use Rattle.stx_tree.specs.Tree.{Tree, span_of}
use Rattle.stx_frames.specs.Scope.{Scope, bound}
use Rattle.stx_scope.specs.Stands.{row_for}
use Rattle.core_language.specs.Bindings.{bound_to}
use Rattle.core_language.specs.Core.{PlainCore}
use Rattle.core_language.specs.declared.core_form.CoreForm.{CoreForm}
use Rattle.core_language.specs.declared.link.LinkKind.TheVariants as kinds
use Rattle.core_language.specs.declared.record.CompiledLibrary.{CompiledLibrary}
use Rattle.eval_pattern.specs.declared.compile.PatternVariable.{PatternVariable}
use Rattle.core_records.specs.Forms.{record_forms}
use Rattle.core_records.specs.Names.{record_uid}
use Rattle.core_shapes.specs.At.{place_of}
use Rattle.core_shapes.specs.Lists.{is_leaf}
use Rattle.core_shapes.specs.declared.shape.BindingSpec.{BindingSpec}
use Rattle.core_shapes.specs.declared.shape.FormalIds.{FormalIds}
use Rattle.core_language.specs.declared.binding.Binding.TheVariants as binding
use Rattle.eval_stage.specs.Transformers as stage
use Rattle.eval_stage.specs.Uses.{used}
use Rattle.expand_standing.specs.InScope.{with_local}
use Rattle.expand_standing.specs.Binders.{next_index, row_put, put_row, put_variable, variable_for, bind_as, bind_variable, bind_all, bind_rest, bind_spec, bind_specs, bind_formals}
use Rattle.expand_standing.specs.Patterns.{put_pattern_variable, bind_pattern_variable, bind_next, bind_pattern}
use Rattle.expand_standing.specs.RecordUses.{at_state, defines_type, count_record_type, record_tree, record_marked, use_record}
use Rattle.expand_standing.specs.State.{State, note, on_stage, fresh, stage_of}
use Rattle.expand_standing.specs.Uses.{macro_expression, use_keyword, asks_variable, put_keyword, bind_keyword_as, bind_keyword, bind_keywords, evaluate_transformer}
use Rattle.core_language.specs.declared.link.LinkKind.{LinkKind}
use Rattle.eval_stage.specs.Stage.{PlainStage}
use Rattle.base_data.specs.Act.{each, gather}
use Rattle.expand_standing.specs.State.{Does, staged, noted}
use Rattle.core_quasi.specs.Plan.{PlainQuasi}
use Rattle.core_quasi.specs.declared.quasi_syntax.Insert.{Insert}
use Rattle.core_quasi.specs.declared.quasi_syntax.QuasiSyntax.{QuasiSyntax}
use Rattle.core_quasi.specs.declared.word.Family.{Family}
use Rattle.core_quasi.specs.declared.word.Family.TheVariants as family
use Rattle.expand_quasi.specs.Form as quasi_form
use Rattle.expand_quasi.specs.Inserted.{dots, ellipsis, insert_variable, insert_variables, bind_inserts}
use Rattle.eval_stage.specs.Patterns as stage_patterns
use Rattle.expand_standing.specs.Patterns.{pattern_of, check_literals}

-- Actions.

-- where there is a state, as many uses are left as in this one
abbrev pub Keeps : {A : Type 0} → State → Result (A × State) Fault → Type 0
Keeps s (Ok p) = p.1.uses_left ≡ s.uses_left
Keeps s (Err f) = Unit {0}

pub keeps-from : {A : Type 0} (s t : State) (r : Result (A × State) Fault) → t.uses_left ≡ s.uses_left → Keeps t r → Keeps s r
keeps-from s t (Ok p) h k = k ∙ h
keeps-from s t (Err f) h k = tt

pub keeps-after : {A B : Type 0} (s : State) (r : Result (A × State) Fault) (k : A → Does B) → Keeps s r → ((a : A) (t : State) → Keeps t (k a t)) → Keeps s (after r k)
keeps-after s (Ok p) k h next = keeps-from s p.1 (k p.0 p.1) h (next p.0 p.1)
keeps-after s (Err f) k h next = tt

pub keeps-if : {A : Type 0} (s : State) (b : Bool) (r q : Result (A × State) Fault) → (b ≡ true → Keeps s r) → (b ≡ false → Keeps s q) → Keeps s (if b then r else q)
keeps-if s true r q h k = h refl
keeps-if s false r q h k = k refl

pub keeps-each : {X Y : Type 0} (step : X → Does Y) → ((x : X) (s : State) → Keeps s (step x s)) → (done : List Y) (xs : List X) (s : State) → Keeps s (each step done xs s)
unfolding each
keeps-each step one done [] s = refl
keeps-each step one done (x ∷ xs) s = keeps-after s (step x s) (λ a. each step (done ++ a ∷ []) xs) (one x s) (λ a t. keeps-each step one (done ++ a ∷ []) xs t)

pub keeps-gather : {X D : Type 0} (step : D → X → Does D) → ((d : D) (x : X) (s : State) → Keeps s (step d x s)) → (d : D) (xs : List X) (s : State) → Keeps s (gather step d xs s)
unfolding gather
keeps-gather step one d [] s = refl
keeps-gather step one d (x ∷ xs) s = keeps-after s (step d x s) (λ e. gather step e xs) (one d x s) (λ e t. keeps-gather step one e xs t)

pub keeps-staged : {A : Type 0} (s : State) (r : Result (A × PlainStage) Fault) → Keeps s (staged s r)
keeps-staged s (Ok p) = refl
keeps-staged s (Err f) = tt

pub noted-keeps : (o : Option Span) (l : Label) (k : LinkKind) (w : State) → (noted o l k w).uses_left ≡ w.uses_left
noted-keeps None l k w = refl
noted-keeps (Some p) l k w = refl

-- what was given keeps them
pub keeps-given : {A : Type 0} (s : State) {r : Result (A × State) Fault} {x : A} {u : State} → r ≡ Ok (x, u) → Keeps s r → u.uses_left ≡ s.uses_left
keeps-given {A} s {x = x} {u = u} e h = let k : Keeps s (Ok (x, u)) = subst (λ (q : Result (A × State) Fault). Keeps s q) e h in k

-- Rows.

row-put-keeps : (id : Tree) (place : Span) (s : State) (r : Result Scope Bare) → Keeps s (row_put id place s r)
row-put-keeps id place s (Err b) = tt
row-put-keeps id place s (Ok frames) = refl

pub put-row-keeps : (id : Tree) (place : Span) (f : FrameNo) (l : Label) (s : State) → Keeps s (put_row id place f l s)
put-row-keeps id place f l s = row-put-keeps id place s (bound s.frames f (row_for id l))

-- Variables.

module _ (f : FrameNo) (id : Tree) (place : Span) (level : ℕ) (top : Bool) (n : Named) (s : State) where
  abbrev label : Label
  label = record { 0 = n }

  bind-as-keeps : Keeps s (bind_as f place level id top n s)
  bind-as-keeps = by (bound s.frames f (row_for id label))
    where
      by : (r : Result Scope Bare) → Keeps s (after (row_put id place s r) (λ _ t. after (put_variable label (variable_for id level top s.index) t) (λ _. note label (span_of id) label kinds.Bind)))
      by (Err b) = tt
      by (Ok fs) =
          let t : State = record s { frames = fs } in
          let v = variable_for id level top s.index in
          noted-keeps (span_of id) label kinds.Bind (record t { bindings = t.bindings ++ (label, binding.Variable v) ∷ []; index = next_index v.level t.index; scope = with_local v.top label t.scope })

pub variable-keeps : (f : FrameNo) (place : Span) (level : ℕ) (top : Bool) (id : Tree) (s : State) → Keeps s (bind_variable f place level top id s)
unfolding bind_variable fresh
variable-keeps f place level top id s =
    let t : State = record s { names = record { library = s.names.library; number = s.names.number + 1 } } in
    keeps-if s (is_leaf id) (bind_as f place level id top s.names t) _
    (λ e. keeps-from s t (bind_as f place level id top s.names t) refl (bind-as-keeps f id place level top s.names t)) (λ e. tt)

pub bind-all-keeps : (f : FrameNo) (place : Span) (level : ℕ) (ids : List Tree) (s : State) → Keeps s (bind_all f place level ids s)
bind-all-keeps f place level ids s = keeps-each (bind_variable f place level false) (λ id t. variable-keeps f place level false id t) [] ids s

bind-rest-keeps : (f : FrameNo) (place : Span) (level : ℕ) (o : Option Tree) (s : State) → Keeps s (bind_rest f place level o s)
bind-rest-keeps f place level None s = refl
bind-rest-keeps f place level (Some id) s = keeps-after s (bind_variable f place level false id s) (λ l. give (Some l)) (variable-keeps f place level false id s) (λ l t. refl)

pub bind-formals-keeps : (f : FrameNo) (place : Span) (level : ℕ) (ids : FormalIds) (s : State) → Keeps s (bind_formals f place level ids s)
unfolding bind_formals
bind-formals-keeps f place level ids s =
    keeps-after s (bind_all f place level ids.required s) _ (bind-all-keeps f place level ids.required s)
    (λ ls t. keeps-after t (bind_rest f place level ids.rest t) (λ r. give (record { required = ls; rest = r })) (bind-rest-keeps f place level ids.rest t) (λ r u. refl))

bind-spec-keeps : (f : FrameNo) (place : Span) (level : ℕ) (b : BindingSpec) (s : State) → Keeps s (bind_spec f place level b s)
unfolding bind_spec
bind-spec-keeps f place level b s =
    keeps-after s (bind_variable f place level false b.id s) (λ l. give (record { label = l; init = b.init })) (variable-keeps f place level false b.id s) (λ l t. refl)

pub bind-specs-keeps : (f : FrameNo) (place : Span) (level : ℕ) (bs : List BindingSpec) (s : State) → Keeps s (bind_specs f place level bs s)
bind-specs-keeps f place level bs s = keeps-each (bind_spec f place level) (λ b t. bind-spec-keeps f place level b t) [] bs s

-- Keywords.

put-keyword-keeps : (l : Label) (level : ℕ) (s : State) → Keeps s (put_keyword l level s)
put-keyword-keeps l level s = refl

bind-keyword-as-keeps : (f : FrameNo) (place : Span) (level : ℕ) (b : BindingSpec) (n : Named) (s : State) → Keeps s (bind_keyword_as f place level b n s)
bind-keyword-as-keeps f place level b n s =
    let l : Label = record { 0 = n } in
    keeps-after s (put_row b.id place f l s) _ (put-row-keeps b.id place f l s)
    (λ x t. keeps-after t (put_keyword l level t) _ (put-keyword-keeps l level t)
    (λ y u. keeps-after u (on_stage (stage.begin_keyword l (place_of b.init place)) u) (λ _. give (record { label = l; init = b.init })) (keeps-staged u (stage.begin_keyword l (place_of b.init place) (stage_of u))) (λ z v. refl)))

pub bind-keyword-keeps : (f : FrameNo) (place : Span) (level : ℕ) (b : BindingSpec) (s : State) → Keeps s (bind_keyword f place level b s)
unfolding bind_keyword fresh
bind-keyword-keeps f place level b s =
    let t : State = record s { names = record { library = s.names.library; number = s.names.number + 1 } } in
    keeps-if s (is_leaf b.id) (bind_keyword_as f place level b s.names t) _ (λ e. keeps-from s t (bind_keyword_as f place level b s.names t) refl (bind-keyword-as-keeps f place level b s.names t)) (λ e. tt)

pub bind-keywords-keeps : (f : FrameNo) (place : Span) (level : ℕ) (bs : List BindingSpec) (s : State) → Keeps s (bind_keywords f place level bs s)
bind-keywords-keeps f place level bs s = keeps-each (bind_keyword f place level) (λ b t. bind-keyword-keeps f place level b t) [] bs s

module _ (rs : List CompiledLibrary) where
  pub finish-keyword-keeps : (place : Span) (l : Label) (c : PlainCore) (s : State) → Keeps s (evaluate_transformer rs place l c s)
  unfolding evaluate_transformer
  finish-keyword-keeps place l c s = keeps-staged s (stage.evaluate_transformer place rs l c (stage_of s))

  pub asks-variable-keeps : (place : Span) (l : Label) (s : State) → Keeps s (asks_variable rs place l s)
  unfolding asks_variable
  asks-variable-keeps place l s = keeps-staged s (stage.is_variable_transformer place rs l (macro_expression (bound_to s.bindings l)) (stage_of s))

  pub use-keyword-keeps : (place : Span) (t : Tree) (l : Label) (f : Option FrameNo) (s : State) → Keeps s (use_keyword rs place t l f s)
  unfolding use_keyword
  use-keyword-keeps place t l f s = keeps-staged s (used place rs t l (macro_expression (bound_to s.bindings l)) f (stage_of s))

-- Record forms.

record-tree-keeps : (place : Span) (t : Tree) (f : CoreForm) (n : ℕ) (s : State) → Keeps s (record_tree place t f n s)
unfolding record_tree
record-tree-keeps place t f n s = by (record_forms s.frames t f place (record_uid s.library t n))
  where
    by : (r : Result Tree Fault) → Keeps s (at_state s r)
    by (Ok u) = refl
    by (Err e) = tt

count-keeps : (f : CoreForm) (s : State) → Keeps s (count_record_type f s)
unfolding count_record_type
count-keeps f s = by (defines_type f)
  where
    by : (b : Bool) → (if b then record s { record_types = s.record_types + 1 } else s).uses_left ≡ s.uses_left
    by true = refl
    by false = refl

record-marked-keeps : (place : Span) (t : Tree) (f : CoreForm) (frame : Option FrameNo) (m : Mark) (s : State) → Keeps s (record_marked place t f frame m s)
unfolding record_marked
record-marked-keeps place t f frame m s =
    keeps-after s (count_record_type f s) _ (count-keeps f s)
    (λ n u. keeps-after u (record_tree place (enter m t) f n u) (λ v. give (leave m frame v)) (record-tree-keeps place (enter m t) f n u) (λ v w. refl))

pub use-record-keeps : (place : Span) (t : Tree) (f : CoreForm) (frame : Option FrameNo) (s : State) → Keeps s (use_record place t f frame s)
unfolding use_record fresh
use-record-keeps place t f frame s =
    let u : State = record s { names = record { library = s.names.library; number = s.names.number + 1 } } in
    keeps-from s u (record_marked place t f frame (record { 0 = s.names }) u) refl (record-marked-keeps place t f frame (record { 0 = s.names }) u)

-- Patterns.

put-pattern-variable-keeps : (l : Label) (level depth : ℕ) (s : State) → Keeps s (put_pattern_variable l level depth s)
put-pattern-variable-keeps l level depth s = refl

pattern-variable-keeps : (f : FrameNo) (place : Span) (level : ℕ) (v : PatternVariable) (s : State) → Keeps s (bind_pattern_variable f place level v s)
unfolding bind_pattern_variable
pattern-variable-keeps f place level v s = keeps-after s (put_row v.id place f v.label s) (λ _. put_pattern_variable v.label level v.depth) (put-row-keeps v.id place f v.label s) (λ x t. put-pattern-variable-keeps v.label level v.depth t)

pub bind-pattern-keeps : (f : FrameNo) (place : Span) (level : ℕ) (vs : List PatternVariable) (s : State) → Keeps s (bind_pattern f place level vs s)
bind-pattern-keeps f place level vs s = keeps-gather (bind_next f place level) (λ d v t. pattern-variable-keeps f place level v t) tt vs s

pub pattern-keeps : (literals : List Tree) (place : Span) (t : Tree) (s : State) → Keeps s (pattern_of literals place t s)
pattern-keeps literals place t s = keeps-staged s (stage_patterns.pattern_of literals place t (stage_of s))

pub literals-keeps : (literals : List Tree) (place : Span) (s : State) → Keeps s (check_literals place literals s)
literals-keeps literals place s = keeps-staged s (stage_patterns.check_literals place literals (stage_of s))

-- Quasi forms.

insert-variable-keeps : (i : Insert) (s : State) → Keeps s (insert_variable i s)
unfolding fresh
insert-variable-keeps i s = refl

pub insert-variables-keeps : (is : List Insert) (s : State) → Keeps s (insert_variables is s)
insert-variables-keeps is s = keeps-each insert_variable (λ i t. insert-variable-keeps i t) [] is s

pub bind-inserts-keeps : (f : FrameNo) (place : Span) (level : ℕ) (vs : List PatternVariable) (s : State) → Keeps s (bind_inserts f place level vs s)
bind-inserts-keeps f place level vs s = keeps-after s (bind_pattern f place level vs s) _ (bind-pattern-keeps f place level vs s) (λ x t. put-row-keeps dots place f ellipsis t)

quote-keeps : (r : Result PlainQuasi Fault) (s : State) → Keeps s (quasi_form.quote_by r s)
quote-keeps (Ok q) s = refl
quote-keeps (Err e) s = tt

syntax-keeps : (r : Result QuasiSyntax Fault) (s : State) → Keeps s (quasi_form.syntax_by r s)
syntax-keeps (Ok q) s = refl
syntax-keeps (Err e) s = tt

pub quasi-keeps : (place : Span) (t : Tree) (which : Family) (x : Tree) (s : State) → Keeps s (quasi_form.form_of place t which x s)
quasi-keeps place t family.Quote x s = quote-keeps _ s
quasi-keeps place t family.Syntax x s = syntax-keeps _ s
