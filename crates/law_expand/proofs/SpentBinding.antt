-- Binding leaves keywords as they are, but for those that come and wait.
use Rattle.std.proofs.Common.{◌≡◌, ℕ, zero, suc, Bool, true, false, List, [], ◌∷◌, Option, None, Some, Result, Ok, Err, refl, ◌∙◌, arith, inl, inr, if◌then◌else◌}
use Rattle.std.specs.Prelude.{◌⊎◌, is_some, take}
use Rattle.base_data.specs.Act.{after, give}
use Rattle.base_data.specs.Elements.{Each, Among}
use Rattle.base_data.specs.Named.{Named}
use Rattle.base_data.specs.declared.fault.Bare.{Bare}
use Rattle.base_data.specs.declared.fault.Fault.{Fault}
use Rattle.base_data.specs.declared.fault.FaultKind.TheVariants as kind
use Rattle.base_data.specs.declared.library.LibName.{LibName}
use Rattle.base_data.specs.declared.name.FrameNo.{FrameNo}
use Rattle.base_data.specs.declared.name.Label.{Label}
use Rattle.base_data.specs.declared.span.Span.{Span}
use Rattle.stx_tree.specs.Tree.{Tree, span_of}
use Rattle.stx_frames.specs.Rows.{second_binder}
use Rattle.stx_frames.specs.Scope.{Scope, with_row, label_at, bound}
use Rattle.stx_scope.specs.Stands.{row_for, symbol_of}
use Rattle.core_language.specs.Core.{PlainCore}
use Rattle.core_language.specs.declared.binding.VarInfo.{VarInfo}
use Rattle.core_language.specs.declared.link.LinkKind.TheVariants as kinds
use Rattle.law_core.specs.Templates.{Depths}
use Rattle.eval_pattern.specs.Compile as patterns
use Rattle.eval_pattern.specs.declared.compile.Compiled.{Compiled}
use Rattle.eval_pattern.specs.declared.compile.PatternVariable.{PatternVariable}
use Rattle.core_shapes.specs.At.{place_of}
use Rattle.core_shapes.specs.Lists.{is_leaf}
use Rattle.core_shapes.specs.declared.shape.BindingSpec.{BindingSpec}
use Rattle.core_shapes.specs.declared.shape.FormalIds.{FormalIds}
use Rattle.eval_stage.specs.Patterns as stage_patterns
use Rattle.eval_stage.specs.Transformers as stage
use Rattle.eval_stage.specs.declared.keyword.Keyword.TheVariants as keyword
use Rattle.expand_standing.specs.Binders.{bind_variable, bind_as, row_put, put_variable, variable_for, bind_all, bind_rest, bind_formals, bind_spec, bind_specs}
use Rattle.expand_standing.specs.InScope.{cut}
use Rattle.expand_standing.specs.Patterns.{pattern_of, check_literals, put_pattern_variable, bind_pattern_variable, bind_next, bind_pattern}
use Rattle.expand_standing.specs.State.{State, fresh, fault_form, note, stage_of, staged, on_stage}
use Rattle.expand_standing.specs.Uses.{bind_keyword, bind_keyword_as, bind_keywords, put_keyword}
use Rattle.expand_standing.specs.declared.binders.BoundSpec.{BoundSpec}
use Rattle.expand_standing.proofs.Noted.{noted-keeps}
use Rattle.law_expand.specs.States.{IsOwn, IsTop, IsBound, Grows, Adds, Later, LaterBut}
use Rattle.law_expand.proofs.Acts.{Gave, gave-after, gave-less, gave-if, gave-each, gave-gather}
use Rattle.law_expand.proofs.Grows.{grows-same}
use Rattle.law_expand.proofs.Later.{sound-grown}
use Rattle.law_expand.proofs.Naming.{as_label, counted, counted-later, with_variable}
use Rattle.law_expand.proofs.Scope.{adds-later}
use Rattle.law_expand.specs.Kept.{IsKeptWith, KeptAreGood, IsGoodState}
use Rattle.law_expand.proofs.Spent.{tracks-self, tracks-then, kept-less, Onward}
use Rattle.law_expand.proofs.SpentOnStage.{Tells, put-told}

abbrev pub Same : {A : Type 0} → State → A → State → Type 0
Same s a u = u.keywords ≡ s.keywords

pub variable-same : (f : FrameNo) (place : Span) (level : ℕ) (top : Bool) (id : Tree) (s : State) → Gave (Same s) (bind_variable f place level top id s)
unfolding bind_variable fresh
variable-same f place level top id s =
    gave-if (Same s) (is_leaf id) (after (fresh s) (bind_as f place level id top)) (fault_form kind.BadForm id place s) (λ e. by_row (is_some (label_at s.frames f (row_for id (as_label s.names)).symbol (row_for id (as_label s.names)).marks))) (λ e. tt)
  where
    by_row : (b : Bool)
        → Gave (Same s) (after (row_put id place (counted s) (if b then Err (second_binder (symbol_of id)) else Ok (with_row s.frames f (row_for id (as_label s.names))))) (λ _ t. after (put_variable (as_label s.names) (variable_for id level top (counted s).index) t) (λ _. note (as_label s.names) (span_of id) (as_label s.names) kinds.Bind)))
    by_row true = tt
    by_row false = noted-keeps (Same s (as_label s.names)) (span_of id) (as_label s.names) kinds.Bind (with_variable f id (as_label s.names) (variable_for id level top s.index) (counted s)) (λ ls. refl)

all-same : (f : FrameNo) (place : Span) (level : ℕ) (ids : List Tree) (s : State) → Gave (Same s) (bind_all f place level ids s)
all-same f place level ids s =
    gave-each (bind_variable f place level false) (λ id t l u. Same t l u) (λ xs t ls u. Same t ls u) (λ t. Unit {0}) (λ t k. refl) (λ id t k. variable-same f place level false id t) (λ id t u l k e. tt) (λ id xs t u v l ls k e a. a ∙ e) ids s tt

rest-same : (f : FrameNo) (place : Span) (level : ℕ) (o : Option Tree) (s : State) → Gave (Same s) (bind_rest f place level o s)
rest-same f place level None s = refl
rest-same f place level (Some id) s = gave-after (Same s) (Same s) (bind_variable f place level false id s) (λ l. give (Some l)) (variable-same f place level false id s) (λ l t e. e)

pub formals-same : (f : FrameNo) (place : Span) (level : ℕ) (ids : FormalIds) (s : State) → Gave (Same s) (bind_formals f place level ids s)
unfolding bind_formals
formals-same f place level ids s =
    gave-after (Same s) (Same s) (bind_all f place level ids.required s) (λ ls t. after (bind_rest f place level ids.rest t) (λ r. give (record { required = ls; rest = r }))) (all-same f place level ids.required s)
    (λ ls t e. gave-after (Same t) (Same s) (bind_rest f place level ids.rest t) (λ r. give (record { required = ls; rest = r })) (rest-same f place level ids.rest t) (λ r u d. d ∙ e))

pub specs-same : (f : FrameNo) (place : Span) (level : ℕ) (bs : List BindingSpec) (s : State) → Gave (Same s) (bind_specs f place level bs s)
unfolding bind_spec
specs-same f place level bs s =
    gave-each (bind_spec f place level) (λ b t x u. Same t x u) (λ xs t ys u. Same t ys u) (λ t. Unit {0}) (λ t k. refl)
    (λ b t k. gave-after (Same t) (Same t) (bind_variable f place level false b.id t) (λ l. give (record { label = l; init = b.init })) (variable-same f place level false b.id t) (λ l u e. e)) (λ b t u x k e. tt)
    (λ b xs t u v x ys k e a. a ∙ e) bs s tt

-- Patterns.

pub pattern-same : (literals : List Tree) (place : Span) (t : Tree) (s : State) → Gave (Same s) (pattern_of literals place t s)
unfolding stage_patterns.pattern_of
pattern-same literals place t s = by (patterns.compiled (record { frames = s.frames; literals = literals; place = place }) t s.names)
  where
    by : (r : Result (Compiled × Named) Fault) → Gave (Same s) (staged s (stage_patterns.named (stage_of s) r))
    by (Err e) = tt
    by (Ok p) = refl

pub literals-same : (literals : List Tree) (place : Span) (s : State) → Gave (Same s) (check_literals place literals s)
unfolding stage_patterns.check_literals
literals-same literals place s = by (patterns.literals_checked s.frames place literals)
  where
    by : (r : Result (Unit {0}) Fault) → Gave (Same s) (staged s (stage_patterns.unchanged (stage_of s) r))
    by (Err e) = tt
    by (Ok x) = refl

pattern-variable-same : (f : FrameNo) (place : Span) (level : ℕ) (v : PatternVariable) (s : State) → Gave (Same s) (bind_pattern_variable f place level v s)
unfolding bind_pattern_variable
pattern-variable-same f place level v s = by (bound s.frames f (row_for v.id v.label))
  where
    by : (r : Result Scope Bare) → Gave (Same s) (after (row_put v.id place s r) (λ _. put_pattern_variable v.label level v.depth))
    by (Err e) = tt
    by (Ok fs) = refl

pub bind-pattern-same : (f : FrameNo) (place : Span) (level : ℕ) (vs : List PatternVariable) (s : State) → Gave (Same s) (bind_pattern f place level vs s)
bind-pattern-same f place level vs s =
    gave-gather (bind_next f place level) (λ d u. u.keywords ≡ s.keywords)
    (λ d v t e. gave-less (Same t) (λ x u. u.keywords ≡ s.keywords) (bind_pattern_variable f place level v t) (pattern-variable-same f place level v t) (λ x u k. k ∙ e)) tt vs s refl

-- Keywords that wait.

pub keyword-told : (f : FrameNo) (place : Span) (level : ℕ) (b : BindingSpec) (s : State) → Gave (λ x u. Tells s.keywords u.keywords) (bind_keyword f place level b s)
unfolding bind_keyword fresh stage.begin_keyword
keyword-told f place level b s =
    gave-if (λ x u. Tells s.keywords u.keywords) (is_leaf b.id) (after (fresh s) (bind_keyword_as f place level b)) (fault_form kind.BadForm b.id place s)
    (λ e. by_row (is_some (label_at s.frames f (row_for b.id (as_label s.names)).symbol (row_for b.id (as_label s.names)).marks))) (λ e. tt)
  where
    waits : (k : Label) (c : PlainCore) → IsKeptWith s.keywords k c ⊎ ((k ≡ as_label s.names) × (None ≡ Some c)) → IsKeptWith s.keywords k c
    waits k c (inl x) = x
    waits k c (inr x) = let bad = x.1 in absurd (cc)

    by_row : (r : Bool)
        → Gave {A = BoundSpec} (λ x u. Tells s.keywords u.keywords) (after (row_put b.id place (counted s) (if r then Err (second_binder (symbol_of b.id)) else Ok (with_row s.frames f (row_for b.id (as_label s.names))))) (λ _ t.
        after (put_keyword (as_label s.names) level t) (λ _ u. after (on_stage (stage.begin_keyword (as_label s.names) (place_of b.init place)) u) (λ _. give (record { label = as_label s.names; init = b.init })))))
    by_row true = tt
    by_row false = λ k c e. waits k c (put-told s.keywords (as_label s.names) (keyword.Waiting (place_of b.init place)) k c e)

pub keywords-told : (f : FrameNo) (place : Span) (level : ℕ) (bs : List BindingSpec) (s : State) → Gave (λ xs u. Tells s.keywords u.keywords) (bind_keywords f place level bs s)
keywords-told f place level bs s =
    gave-each (bind_keyword f place level) (λ b t x u. Tells t.keywords u.keywords) (λ xs t ys u. Tells t.keywords u.keywords) (λ t. Unit {0}) (λ t k l c e. e) (λ b t k. keyword-told f place level b t) (λ b t u x k e. tt)
    (λ b xs t u v x ys k e a l c y. e l c (a l c y)) bs s tt

-- From states in which forms are expanded to later ones.

module _ (own : LibName) (given : List Label) where
  abbrev B : State → Type 0
  B = IsGoodState own given

  abbrev O : State → State → Type 0
  O = Onward own given

  pub begins-by : (s t : State) → t.library ≡ s.library → t.names.library ≡ own → Grows own s t → (Each (IsBound s) s.scope → Each (IsBound t) t.scope)
      → ((l : Label) (v : VarInfo) → IsOwn own l.0 → IsTop t l v → IsTop s l v ⊎ (v.level ≡ 0)) → KeptAreGood own given t → B s → B t
  begins-by s t here next grows bound tops kept h = record { sound = sound-grown own given s t here next grows bound h.sound; level = λ l v o b. by l v o (tops l v o b); kept = kept }
    where
      by : (l : Label) (v : VarInfo) → IsOwn own l.0 → IsTop s l v ⊎ (v.level ≡ 0) → v.level ≡ 0
      by l v o (inl b) = h.level l v o b
      by l v o (inr e) = e

  pub begins-later : (s t : State) → Later own s t → KeptAreGood own given t → B s → B t
  begins-later s t k kept h = begins-by s t k.here k.next k.grows (adds-later own false s t k).bound (λ l v o b. inl (k.tops l v o b)) kept h

  pub onward-self : (s : State) → B s → O s s
  onward-self s h = (h, tracks-self own s)

  pub onward-then : (s t u : State) → O s t → O t u → O s u
  onward-then s t u h k = (k.0, tracks-then own s t u h.1 k.1)

  pub onward-later : (s t : State) → Later own s t → Tells s.keywords t.keywords → B s → O s t
  onward-later s t k tells h = let less = kept-less own given s t k.up (λ l c o e. tells l c e) h.kept in (begins-later s t k less.0 h, less.1)

  pub onward-but : (f : FrameNo) (top : Bool) (ls : List Label) (ds : Depths) (s t : State) → LaterBut own f s t → Adds own top ls ds s t → Tells s.keywords t.keywords → B s → O s t
  onward-but f top ls ds s t k adds tells h =
      let less = kept-less own given s t k.up (λ l c o e. tells l c e) h.kept in
      (begins-by s t k.here k.next k.grows adds.bound (λ l v o b. by l v (adds.tops l v o b)) less.0 h, less.1)
    where
      by : (l : Label) (v : VarInfo) → IsTop s l v ⊎ ((top ≡ true) × ((v.level ≡ 0) × Among ls l)) → IsTop s l v ⊎ (v.level ≡ 0)
      by l v (inl b) = inl b
      by l v (inr p) = inr p.1.0

  pub onward-counted : (s : State) → B s → O s (counted s)
  onward-counted s h = onward-later s (counted s) (counted-later own s h.sound.next) (λ k c e. e) h

  -- out of scope again
  each-take : (P : Label → Type 0) (n : ℕ) (ls : List Label) → Each P ls → Each P (take n ls)
  each-take P zero ls h = tt
  each-take P (suc n) [] h = tt
  each-take P (suc n) (l ∷ ls) h = (h.0, each-take P n ls h.1)

  pub onward-cut : (n : ℕ) (s : State) → B s → O s (cut n s)
  onward-cut n s h =
      let less = kept-less own given s (cut n s) (omega arith) (λ l c o e. e) h.kept in
      (begins-by s (cut n s) refl h.sound.next (grows-same own s (cut n s) refl refl refl (omega arith)) (λ b. each-take (IsBound s) n s.scope b) (λ l v o b. inl b) less.0 h, less.1)
