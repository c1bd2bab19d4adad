-- How states change where keywords are used and defined, and where patterns are compiled.
use Rattle.std.proofs.Common.{◌≡◌, ℕ, ◌+◌, Bool, true, false, List, [], Option, Result, Ok, Err, refl, sym, ◌∙◌, ap, arith, inl, if◌then◌else◌}
use Rattle.base_data.specs.Act.{after, give}
use Rattle.base_data.specs.Named.{Named}
use Rattle.base_data.specs.declared.fault.Fault.{Fault}
use Rattle.base_data.specs.declared.library.LibName.{LibName}
use Rattle.base_data.specs.declared.name.FrameNo.{FrameNo}
use Rattle.base_data.specs.declared.name.Label.{Label}
use Rattle.base_data.specs.declared.name.Mark.{Mark}
use Rattle.base_data.specs.declared.span.Span.{Span}
use Rattle.stx_tree.specs.Changes.{enter, leave}
use Rattle.stx_tree.specs.Tree.{Tree}
use Rattle.stx_frames.specs.Scope.{rows_at}
use Rattle.core_language.specs.Bindings.{bound_to}
use Rattle.core_language.specs.Core.{PlainCore}
use Rattle.core_language.specs.declared.core_form.CoreForm.{CoreForm}
use Rattle.core_language.specs.declared.record.CompiledLibrary.{CompiledLibrary}
use Rattle.eval_pattern.specs.Compile as patterns
use Rattle.eval_pattern.specs.declared.compile.Compiled.{Compiled}
use Rattle.core_shapes.specs.At.{place_of}
use Rattle.eval_stage.specs.Patterns as stage_patterns
use Rattle.eval_stage.specs.Stage.{PlainStage}
use Rattle.eval_stage.specs.Transformers as stage
use Rattle.eval_stage.specs.Uses.{used}
use Rattle.expand_standing.specs.InScope.{apart, restoring}
use Rattle.expand_standing.specs.Patterns.{pattern_of, check_literals}
use Rattle.core_records.specs.Forms.{record_forms}
use Rattle.core_records.specs.Names.{record_uid}
use Rattle.expand_standing.specs.RecordUses.{at_state, defines_type, count_record_type, record_tree, record_marked, use_record}
use Rattle.expand_standing.specs.State.{State, Does, stage_of, with_stage, staged, fresh}
use Rattle.expand_standing.specs.Uses.{use_keyword, asks_variable, macro_expression, evaluate_transformer}
use Rattle.expand_heads.specs.declared.plan.KeywordUse.{KeywordUse}
use Rattle.expand_heads.specs.declared.plan.KeywordUse.TheVariants as keyword_use
use Rattle.expand_forms.specs.ExpandUses.{used_form, next_form}
use Rattle.law_expand.specs.Stages.{StageLater, EndsLater, EndsKept}
use Rattle.law_expand.specs.States.{IsKept, IndicesApart, Later}
use Rattle.law_expand.proofs.Acts.{Gave, gave-after, gave-less}
use Rattle.law_expand.proofs.Compiled.{Compiles, GaveBy, compiles}
use Rattle.law_expand.proofs.Grows.{grows-same}
use Rattle.law_expand.proofs.Later.{keeps-same, later-self, later-then}
use Rattle.law_expand.proofs.Moved.{Names, Moved, moved-after, moved-counted}
use Rattle.law_expand.proofs.Naming.{counted}
use Rattle.law_expand.proofs.Stage.{stage-grows}

module _ (own : LibName) where
  pub stage-later : (s : State) (g : PlainStage) → Names own s → StageLater (stage_of s) g → Later own s (with_stage g s)
  stage-later s g n h = record {
    here = refl;
    next = h.library ∙ n;
    up = h.up;
    same = λ f o. ap (rows_at f) h.frames;
    grows = grows-same own s (with_stage g s) h.frames refl refl h.up;
    scope = refl;
    tops = λ l v o b. b;
    keeps = record { kept = λ l lt k. h.kept l k; keywords = λ l level e o k. inl k };
  }

  pub staged-later : {A : Type 0} (s : State) (r : Result (A × PlainStage) Fault) → Names own s → EndsLater (stage_of s) r → Gave (Moved own s) (staged s r)
  staged-later s (Ok p) n h = stage-later s p.1 n h
  staged-later s (Err f) n h = tt

  pub use-later : (rs : List CompiledLibrary) (place : Span) (t : Tree) (l : Label) (frame : Option FrameNo) (s : State) → Names own s → Gave (Moved own s) (use_keyword rs place t l frame s)
  unfolding use_keyword
  use-later rs place t l frame s n = staged-later s (used place rs t l (macro_expression (bound_to s.bindings l)) frame (stage_of s)) n (stage-grows.uses place rs t l (macro_expression (bound_to s.bindings l)) frame (stage_of s))

  pub asks-later : (rs : List CompiledLibrary) (place : Span) (l : Label) (s : State) → Names own s → Gave (Moved own s) (asks_variable rs place l s)
  unfolding asks_variable
  asks-later rs place l s n = staged-later s (stage.is_variable_transformer place rs l (macro_expression (bound_to s.bindings l)) (stage_of s)) n (stage-grows.asks place rs l (macro_expression (bound_to s.bindings l)) (stage_of s))

  pub finish-later : (rs : List CompiledLibrary) (place : Span) (l : Label) (c : PlainCore) (s : State) → Names own s → Gave (Moved own s) (evaluate_transformer rs place l c s)
  unfolding evaluate_transformer
  finish-later rs place l c s n = staged-later s (stage.evaluate_transformer place rs l c (stage_of s)) n (stage-grows.finishes place rs l c (stage_of s))

  -- the expression of a keyword is kept then
  pub finish-kept : (rs : List CompiledLibrary) (place : Span) (l : Label) (c : PlainCore) (s : State) → Gave (λ x u. IsKept u l) (evaluate_transformer rs place l c s)
  unfolding evaluate_transformer
  finish-kept rs place l c s = by (stage.evaluate_transformer place rs l c (stage_of s)) (stage-grows.keeps place rs l c (stage_of s))
    where
      by : (r : Result (Unit {0} × PlainStage) Fault) → EndsKept l r → Gave (λ x u. IsKept u l) (staged s r)
      by (Ok p) h = h
      by (Err f) h = tt

  -- with fewer uses left
  pub left-later : (left : ℕ) (s : State) → Names own s → Later own s (record s { uses_left = left })
  left-later left s n = record { here = refl; next = n; up = omega arith; same = λ f o. refl; grows = grows-same own s (record s { uses_left = left }) refl refl refl (omega arith); scope = refl; tops = λ l v o b. b; keeps = keeps-same own s (record s { uses_left = left }) refl refl }

  -- with more uses of `define-record-type`
  counted-later : (count : ℕ) (s : State) → Names own s → Later own s (record s { record_types = count })
  counted-later count s n = record { here = refl; next = n; up = omega arith; same = λ f o. refl; grows = grows-same own s (record s { record_types = count }) refl refl refl (omega arith); scope = refl; tops = λ l v o b. b; keeps = keeps-same own s (record s { record_types = count }) refl refl }

  count-later : (f : CoreForm) (s : State) → Names own s → Gave (Moved own s) (count_record_type f s)
  unfolding count_record_type
  count-later f s n = by (defines_type f)
    where
      by : (b : Bool) → Later own s (if b then record s { record_types = s.record_types + 1 } else s)
      by true = counted-later (s.record_types + 1) s n
      by false = later-self own s n

  tree-later : (place : Span) (t : Tree) (f : CoreForm) (count : ℕ) (s : State) → Names own s → Gave (Moved own s) (record_tree place t f count s)
  unfolding record_tree
  tree-later place t f count s n = by (record_forms s.frames t f place (record_uid s.library t count))
    where
      by : (r : Result Tree Fault) → Gave (Moved own s) (at_state s r)
      by (Ok u) = later-self own s n
      by (Err e) = tt

  marked-later : (place : Span) (t : Tree) (f : CoreForm) (frame : Option FrameNo) (m : Mark) (s : State) → Names own s → Gave (Moved own s) (record_marked place t f frame m s)
  unfolding record_marked
  marked-later place t f frame m s n =
      moved-after own s (count_record_type f s) (λ c s'. after (record_tree place (enter m t) f c s') (λ u. give (leave m frame u))) (count-later f s n)
      (λ c u k. moved-after own u (record_tree place (enter m t) f c u) (λ v. give (leave m frame v)) (tree-later place (enter m t) f c u k) (λ v w j. later-self own w j))

  record-later : (place : Span) (t : Tree) (f : CoreForm) (frame : Option FrameNo) (s : State) → Names own s → Gave (Moved own s) (use_record place t f frame s)
  unfolding use_record fresh
  record-later place t f frame s n =
      let m : Mark = record { 0 = s.names } in
      moved-counted own s (record_marked place t f frame m (counted s)) n (marked-later place t f frame m (counted s) n)

  form-later : (rs : List CompiledLibrary) (place : Span) (t : Tree) (k : KeywordUse) (frame : Option FrameNo) (s : State) → Names own s → Gave (Moved own s) (used_form rs place t k frame s)
  form-later rs place t (keyword_use.Macro l) frame s n = use-later rs place t l frame s n
  form-later rs place t (keyword_use.Record f) frame s n = record-later place t f frame s n

  pub next-later : (rs : List CompiledLibrary) (left : ℕ) (place : Span) (t : Tree) (k : KeywordUse) (frame : Option FrameNo) (s : State) → Names own s → Gave (Moved own s) (next_form rs left place t k frame s)
  unfolding next_form
  next-later rs left place t k frame s n =
      let u : State = record s { uses_left = left } in
      gave-less (Moved own u) (Moved own s) (used_form rs (place_of t place) t k frame u) (form-later rs (place_of t place) t k frame u n) (λ x v h. later-then own s u v (left-later left s n) h)

  -- Patterns.

  -- a pattern that was compiled: only names were taken
  pub record Patterned (s : State) (c : Compiled) (u : State) : Type 0 where
    pub later : Later own s u
    pub bindings : u.bindings ≡ s.bindings
    pub compiles : Compiles own s.names c u.names

  pub pattern-later : (literals : List Tree) (place : Span) (t : Tree) (s : State) → Names own s → Gave (Patterned s) (pattern_of literals place t s)
  unfolding stage_patterns.pattern_of
  pattern-later literals place t s n = by (patterns.compiled (record { frames = s.frames; literals = literals; place = place }) t s.names) (compiles own (record { frames = s.frames; literals = literals; place = place }) t s.names n)
    where
      by : (r : Result (Compiled × Named) Fault) → GaveBy (Compiles own s.names) r → Gave (Patterned s) (staged s (stage_patterns.named (stage_of s) r))
      by (Err e) h = tt
      by (Ok p) h = record { later = stage-later s (record (stage_of s) { names = p.1 }) n (record { frames = refl; library = h.library ∙ sym n; up = h.up; kept = λ l k. k }); bindings = refl; compiles = h }

  pub literals-later : (literals : List Tree) (place : Span) (s : State) → Names own s → Gave (Moved own s) (check_literals place literals s)
  unfolding stage_patterns.check_literals
  literals-later literals place s n = by (patterns.literals_checked s.frames place literals)
    where
      by : (r : Result (Unit {0}) Fault) → Gave (Moved own s) (staged s (stage_patterns.unchanged (stage_of s) r))
      by (Err e) = tt
      by (Ok x) = stage-later s (stage_of s) n (record { frames = refl; library = refl; up = omega arith; kept = λ l k. k })

  -- Apart from what is in scope.

  pub later-apart : (s t : State) → Later own (record s { scope = [] }) t → Later own s (record t { scope = s.scope })
  later-apart s t h = record {
    here = h.here;
    next = h.next;
    up = h.up;
    same = h.same;
    grows = record { kept = h.grows.kept; rows = h.grows.rows; bindings = h.grows.bindings; bound = h.grows.bound; indices = indices; numbered = h.grows.numbered; keyed = h.grows.keyed; shown = h.grows.shown };
    scope = refl;
    tops = h.tops;
    keeps = record { kept = h.keeps.kept; keywords = h.keeps.keywords };
  }
    where
      indices : IndicesApart own s → IndicesApart own (record t { scope = s.scope })
      indices a = let b = h.grows.indices (record { below = a.below; apart = a.apart }) in record { below = b.below; apart = b.apart }

  pub moved-apart : {A : Type 0} (m : Does A) (s : State) → Gave (Moved own (record s { scope = [] })) (m (record s { scope = [] })) → Gave (Moved own s) (apart m s)
  moved-apart m s h = gave-after (Moved own (record s { scope = [] })) (Moved own s) (m (record s { scope = [] })) (restoring s.scope) h (λ a t k. later-apart s t k)
