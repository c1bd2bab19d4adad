-- What an expansion does on its stage is safe: uses of keywords, keywords that begin to wait, and transformers.
use Rattle.std.proofs.Common.{◌≡◌, ◌≤◌, ◌<◌, ℕ, ◌+◌, Bool, true, false, List, [], ◌∷◌, ◌++◌, map, Option, Some, None, Result, Ok, Err, refl, sym, ap, subst, ◌∙◌, arith, inl, inr, if◌then◌else◌}
use Rattle.std.specs.Prelude.{◌⊎◌, is_some}
use Rattle.indexmap.specs.IndexMap.{insert_entry}
use Rattle.base_data.specs.Act.{after, give, each}
use Rattle.base_data.specs.Elements.{Each, Among, Once}
use Rattle.base_data.specs.declared.fault.Fault.{Fault}
use Rattle.base_data.specs.declared.fault.FaultKind.TheVariants as kind
use Rattle.base_data.specs.declared.library.LibName.{LibName}
use Rattle.base_data.specs.declared.name.CodeNo.{CodeNo}
use Rattle.base_data.specs.declared.name.FrameNo.{FrameNo}
use Rattle.base_data.specs.declared.name.Label.{Label}
use Rattle.base_data.specs.declared.name.Mark.{Mark}
use Rattle.base_data.specs.declared.span.Span.{Span}
use Rattle.stx_tree.specs.Changes.{enter, leave}
use Rattle.stx_tree.specs.Tree.{Tree}
use Rattle.stx_frames.specs.Rows.{second_binder}
use Rattle.stx_frames.specs.Scope.{with_row, label_at}
use Rattle.stx_scope.specs.Stands.{symbol_of, row_for}
use Rattle.core_language.specs.Bindings.{bound_to}
use Rattle.core_language.specs.Core.{PlainCore}
use Rattle.core_language.specs.Labels.{same_label}
use Rattle.core_language.specs.declared.binding.Binding.{Binding}
use Rattle.core_language.specs.declared.binding.Binding.TheVariants as binding
use Rattle.core_language.specs.declared.core_form.CoreForm.{CoreForm}
use Rattle.core_language.specs.declared.record.CompiledLibrary.{CompiledLibrary}
use Rattle.law_core.specs.Follows.{names_of}
use Rattle.law_core.specs.Parts.{code_numbers}
use Rattle.core_records.specs.Forms.{record_forms}
use Rattle.core_records.specs.Names.{record_uid}
use Rattle.core_shapes.specs.At.{place_of}
use Rattle.core_shapes.specs.Lists.{is_leaf}
use Rattle.core_shapes.specs.declared.shape.BindingSpec.{BindingSpec}
use Rattle.eval_value.specs.declared.value.Value.{Value}
use Rattle.eval_stage.specs.Stage.{PlainStage, keyword_at}
use Rattle.eval_stage.specs.Transformers as stage
use Rattle.eval_stage.specs.Uses.{used}
use Rattle.eval_stage.specs.declared.keyword.Keyword.{Keyword}
use Rattle.eval_stage.specs.declared.keyword.Keyword.TheVariants as keyword
use Rattle.law_stage.specs.Grows.{By, IsNotKept}
use Rattle.expand_standing.specs.Binders.{row_put}
use Rattle.expand_standing.specs.RecordUses.{at_state, defines_type, count_record_type, record_tree, record_marked, use_record}
use Rattle.expand_standing.specs.State.{State, fresh, fault_form, stage_of, staged, on_stage}
use Rattle.expand_standing.specs.Uses.{macro_expression, use_keyword, asks_variable, put_keyword, bind_keyword, bind_keyword_as, bind_keywords, evaluate_transformer}
use Rattle.expand_standing.specs.declared.binders.BoundSpec.{BoundSpec}
use Rattle.expand_heads.specs.declared.plan.KeywordUse.{KeywordUse}
use Rattle.expand_heads.specs.declared.plan.KeywordUse.TheVariants as keyword_use
use Rattle.expand_forms.specs.ExpandUses.{next_form}
use Rattle.law_expand.specs.States.{IsOwn, Later}
use Rattle.law_expand.proofs.Acts.{gave-both, each-cons, each-nil}
use Rattle.law_expand.proofs.Binding.{spec_label}
use Rattle.law_expand.proofs.Naming.{as_label, counted}
use Rattle.law_expand.proofs.SpentBinding.{onward-later}
use Rattle.law_expand.proofs.SpentOnStage.{Tells, use-told, variable-told}
use Rattle.law_expand.proofs.Uses.{use-later, asks-later, finish-later, left-later, next-later}
use Rattle.law_stuck.specs.Behind.{IsImported, IsKeywordExpression}
use Rattle.law_stuck.specs.Steady.{OwnHasCode, Steady, Ends, EndsSteady}
use Rattle.law_stuck.specs.Uses.{Around}
use Rattle.law_stuck.proofs.Behind.{keyword_label}
use Rattle.law_stuck.proofs.Kept.{KeptFrom, Is, IsWith, begin_keeps, finish_keeps, asks_keep, use_keeps}
use Rattle.law_stuck.proofs.Known.{put_same}
use Rattle.law_stuck.proofs.Steps.{begins, finishes, asks, uses}
use Rattle.law_steady.proofs.RecordFormsSay.{says-records}
use Rattle.law_steady.proofs.Says.{Says}
use Rattle.law_steady.proofs.Sure.{Sure, sure-after, sure-less, sure-with, sure-if}
use Rattle.law_steady.specs.States.{KeptAt}
use Rattle.law_steady.proofs.Safe.{Safe, safe-frames, safe-counted, safe-bound, safe-rest, Fresh, fresh-same, Light, light-self, B, Goes, goes-then, G, goes-light, given}
use Rattle.law_steady.proofs.Binders.{light}

ends-both : {A : Type 0} (P Q : PlainStage → Type 0) (s : PlainStage) (R : PlainStage → PlainStage → Type 0) (r : Result (A × PlainStage) Fault) → Ends (λ a t. P t) r → By R s r → Ends (λ a t. P t × R s t) r
ends-both P Q s R (Ok p) h k = (h, k)
ends-both P Q s R (Err f) h k = h

not_kept : (o : Option Keyword) → ((e : Option PlainCore) (v : Value) → o ≡ Some (keyword.Kept e v) → ⊥) → IsNotKept o
not_kept None h = tt
not_kept (Some (keyword.Waiting place)) h = tt
not_kept (Some (keyword.Kept e v)) h = h e v refl

kept_not : (o : Option Keyword) (e : Option PlainCore) (v : Value) → IsNotKept o → o ≡ Some (keyword.Kept e v) → ⊥
kept_not o e v h is = subst IsNotKept is h

module _ (own : LibName) (texts : List CodeNo) (rs : List CompiledLibrary) (x : Around own texts rs) where
  abbrev S : State → Type 0
  S = Safe own texts rs

  -- what is done on the stage, where at most these keywords are kept then, none of them an own one
  record Stays (P : Label → Type 0) (s u : State) : Type 0 where
    steady : Steady own texts rs (stage_of u)
    kept : KeptFrom P (stage_of s) (stage_of u)
    bindings : u.bindings ≡ s.bindings

  stays : {A : Type 0} (P : Label → Type 0) (s : State) (r : Result (A × PlainStage) Fault) → EndsSteady own texts rs r → By (KeptFrom P) (stage_of s) r → Sure (λ (a : A) u. Stays P s u) (staged s r)
  stays P s (Ok p) h k = record { steady = h; kept = k; bindings = refl }
  stays P s (Err f) h k = h

  goes-stage : (P : Label → Type 0) (s u : State) → B own texts rs s → S s → Stays P s u → Later own s u → Tells s.keywords u.keywords → ((m : Label) → IsOwn own m.0 → P m → ⊥) → Goes own texts rs s u
  goes-stage P s u b h k later tells foreign = record {
    onward = onward-later own (given own texts rs) s u later tells b;
    safe = record {
      stage = k.steady;
      imported = λ l level c e. h.imported l level c (ap (λ bs. bound_to bs l) (sym k.bindings) ∙ e);
      made = λ l e v i o. let lt = h.made l e v (only l e v o (k.kept l e v i)) o in omega (arith, lt, later.up);
    };
    fresh = λ l e v i o. inl (only l e v o (k.kept l e v i));
  }
    where
      only : (l : Label) (e : Option PlainCore) (v : Value) → IsOwn own l.0 → KeptAt s.keywords l e v ⊎ P l → KeptAt s.keywords l e v
      only l e v o (inl i) = i
      only l e v o (inr p) = absurd (foreign l o p)

  -- what a binding tells of an imported keyword
  pub imported-by : (s : State) → S s → (l : Label) → IsImported rs l (macro_expression (bound_to s.bindings l))
  imported-by s h l = by (bound_to s.bindings l) refl
    where
      by : (o : Option Binding) → bound_to s.bindings l ≡ o → IsImported rs l (macro_expression o)
      by None e = tt
      by (Some (binding.Variable v)) e = tt
      by (Some (binding.PatternVariable level depth)) e = tt
      by (Some (binding.Macro level None)) e = tt
      by (Some (binding.Macro level (Some c))) e = h.imported l level c e
      by (Some (binding.Core f)) e = tt
      by (Some (binding.Primitive op)) e = tt

  foreign-with : (l : Label) (e : Option PlainCore) → IsImported rs l e → (m : Label) → IsOwn own m.0 → IsWith l e m → ⊥
  foreign-with l None k m o i = i
  foreign-with l (Some c) k m o i = x.new (subst (Among (names_of rs)) (sym (ap (λ (y : Label). y.0.library) i) ∙ o) (keyword_label rs l c x.behind k))

  -- Uses.

  pub asks-go : (place : Span) (l : Label) (s : State) → B own texts rs s → S s → Sure (G own texts rs s) (asks_variable rs place l s)
  unfolding asks_variable
  asks-go place l s b h =
      let e = macro_expression (bound_to s.bindings l) in
      let r = stage.is_variable_transformer place rs l e (stage_of s) in
      let k = imported-by s h l in
      sure-less (λ a u. Stays (IsWith l e) s u × (Later own s u × Tells s.keywords u.keywords)) (G own texts rs s) (staged s r)
      (sure-with (λ a u. Stays (IsWith l e) s u) (λ a u. Later own s u × Tells s.keywords u.keywords) (staged s r)
      (stays (IsWith l e) s r (asks own texts rs x.new x.no_text x.texts_only x.behind place l e (stage_of s) h.stage k) (asks_keep place rs l e (stage_of s)))
      (gave-both (λ a u. Later own s u) (λ a u. Tells s.keywords u.keywords) (staged s r) (asks-later own rs place l s b.sound.next) (variable-told rs place l s)))
      (λ a u i. goes-stage (IsWith l e) s u b h i.0 i.1.0 i.1.1 (foreign-with l e k))

  use-go : (place : Span) (t : Tree) (l : Label) (frame : Option FrameNo) (s : State) → B own texts rs s → S s → Sure (G own texts rs s) (use_keyword rs place t l frame s)
  unfolding use_keyword
  use-go place t l frame s b h =
      let e = macro_expression (bound_to s.bindings l) in
      let r = used place rs t l e frame (stage_of s) in
      let k = imported-by s h l in
      sure-less (λ a u. Stays (IsWith l e) s u × (Later own s u × Tells s.keywords u.keywords)) (G own texts rs s) (staged s r)
      (sure-with (λ a u. Stays (IsWith l e) s u) (λ a u. Later own s u × Tells s.keywords u.keywords) (staged s r)
      (stays (IsWith l e) s r (uses own texts rs x.new x.no_text x.texts_only x.behind place t l e frame (stage_of s) h.stage k) (use_keeps place rs t l e frame (stage_of s)))
      (gave-both (λ a u. Later own s u) (λ a u. Tells s.keywords u.keywords) (staged s r) (use-later own rs place t l frame s b.sound.next) (use-told rs place t l frame s)))
      (λ a u i. goes-stage (IsWith l e) s u b h i.0 i.1.0 i.1.1 (foreign-with l e k))

  -- Record forms.

  tree-light : (place : Span) (t : Tree) (f : CoreForm) (n : ℕ) (s : State) → S s → Sure (λ (a : Tree) u. Light own texts rs s u) (record_tree place t f n s)
  unfolding record_tree
  tree-light place t f n s h = by (record_forms s.frames t f place (record_uid s.library t n)) (says-records s.frames t f place (record_uid s.library t n))
    where
      by : (r : Result Tree Fault) → Says r → Sure (λ (a : Tree) u. Light own texts rs s u) (at_state s r)
      by (Ok u) k = light-self own texts rs s h
      by (Err e) k = k

  count-light : (f : CoreForm) (s : State) → S s → Sure (λ (a : ℕ) u. Light own texts rs s u) (count_record_type f s)
  unfolding count_record_type
  count-light f s h = by (defines_type f)
    where
      by : (b : Bool) → Light own texts rs s (if b then record s { record_types = s.record_types + 1 } else s)
      by true = record { safe = safe-rest own texts rs s s.exports s.assigned s.scope s.uses_left (s.record_types + 1) h; keywords = refl }
      by false = light-self own texts rs s h

  marked-light : (place : Span) (t : Tree) (f : CoreForm) (frame : Option FrameNo) (m : Mark) (s : State) → S s → Sure (λ (a : Tree) u. Light own texts rs s u) (record_marked place t f frame m s)
  unfolding record_marked
  marked-light place t f frame m s h =
      light own texts rs s (count_record_type f s) (λ n u. after (record_tree place (enter m t) f n u) (λ v. give (leave m frame v))) (count-light f s h)
      (λ n u k. light own texts rs u (record_tree place (enter m t) f n u) (λ v. give (leave m frame v)) (tree-light place (enter m t) f n u k) (λ v w j. light-self own texts rs w j))

  record-light : (place : Span) (t : Tree) (f : CoreForm) (frame : Option FrameNo) (s : State) → S s → Sure (λ (a : Tree) u. Light own texts rs s u) (use_record place t f frame s)
  unfolding use_record fresh
  record-light place t f frame s h =
      let m : Mark = record { 0 = s.names } in
      let z = counted s in
      sure-less (λ (a : Tree) u. Light own texts rs z u) (λ (a : Tree) u. Light own texts rs s u) (record_marked place t f frame m z) (marked-light place t f frame m z (safe-counted own texts rs s h))
      (λ a u k. record { safe = k.safe; keywords = k.keywords })

  left-safe : (left : ℕ) (s : State) → S s → S (record s { uses_left = left })
  left-safe left s h = safe-rest own texts rs s s.exports s.assigned s.scope left s.record_types h

  -- the form that comes of a use
  pub next-go : (left : ℕ) (place : Span) (t : Tree) (k : KeywordUse) (frame : Option FrameNo) (s : State) → B own texts rs s → S s → Sure (G own texts rs s) (next_form rs left place t k frame s)
  unfolding next_form
  next-go left place t (keyword_use.Macro l) frame s b h =
      let u : State = record s { uses_left = left } in
      let first : Goes own texts rs s u = record { onward = onward-later own (given own texts rs) s u (left-later own left s b.sound.next) (λ k c e. e) b; safe = left-safe left s h; fresh = fresh-same own texts rs s u refl } in
      sure-less (G own texts rs u) (G own texts rs s) (use_keyword rs (place_of t place) t l frame u) (use-go (place_of t place) t l frame u first.onward.0 first.safe) (λ a v g. goes-then own texts rs s u v first g)
  next-go left place t (keyword_use.Record f) frame s b h =
      let u : State = record s { uses_left = left } in
      goes-light own texts rs s (use_record (place_of t place) t f frame u) b
      (sure-less (λ a v. Light own texts rs u v) (λ a v. Light own texts rs s v) (use_record (place_of t place) t f frame u) (record-light (place_of t place) t f frame u (left-safe left s h)) (λ a v k. record { safe = k.safe; keywords = k.keywords }))
      (next-later own rs left place t (keyword_use.Record f) frame s b.sound.next)

  -- Keywords that begin.

  -- Some that were bound between two states and wait: their labels are new, each another one, and not kept.
  pub record Pending (s : State) (xs : List BoundSpec) (u : State) : Type 0 where
    pub safe : S u
    pub fresh : Fresh own texts rs s u
    pub next : u.names.library ≡ own
    pub up : s.names.number ≤ u.names.number
    pub labels : Each (λ (y : BoundSpec). IsOwn own y.label.0 × ((s.names.number ≤ y.label.0.number) × (y.label.0.number < u.names.number))) xs
    pub free : Each (λ (y : BoundSpec). IsNotKept (keyword_at u.keywords y.label)) xs
    pub once : Once (map spec_label xs)

  pub pending-none : (s : State) → s.names.library ≡ own → S s → Pending s [] s
  pending-none s n h = record { safe = h; fresh = fresh-same own texts rs s s refl; next = n; up = omega arith; labels = tt; free = tt; once = tt }

  -- what isn't kept and was made before isn't kept later
  pub still-free : (s u : State) (l : Label) → Fresh own texts rs s u → IsOwn own l.0 → l.0.number < s.names.number → IsNotKept (keyword_at s.keywords l) → IsNotKept (keyword_at u.keywords l)
  still-free s u l fr o lt h = not_kept (keyword_at u.keywords l) (λ e v k. by e v (fr l e v k o))
    where
      by : (e : Option PlainCore) (v : Value) → KeptAt s.keywords l e v ⊎ (s.names.number ≤ l.0.number) → ⊥
      by e v (inl k) = kept_not (keyword_at s.keywords l) e v h k
      by e v (inr le) = omega (arith, le, lt)

  pending-more : (s t u : State) (y : BoundSpec) (xs : List BoundSpec) → Pending s (y ∷ []) t → Pending t xs u → Pending s (y ∷ xs) u
  pending-more s t u y xs h k = record {
    safe = k.safe;
    fresh = λ m e v i o. old m e v o (k.fresh m e v i o);
    next = k.next;
    up = omega (arith, h.up, k.up);
    labels = let first = h.labels.0 in ((first.0, (first.1.0, (let lt = first.1.1 in omega (arith, lt, k.up)))), lower xs k.labels);
    free = (still-free t u y.label k.fresh h.labels.0.0 h.labels.0.1.1 h.free.0, k.free);
    once = ((λ a. apart xs k.labels a), k.once);
  }
    where
      old : (m : Label) (e : Option PlainCore) (v : Value) → IsOwn own m.0 → KeptAt t.keywords m e v ⊎ (t.names.number ≤ m.0.number) → KeptAt s.keywords m e v ⊎ (s.names.number ≤ m.0.number)
      old m e v o (inl i) = h.fresh m e v i o
      old m e v o (inr le) = inr (omega (arith, le, h.up))

      lower : (ys : List BoundSpec) → Each (λ (z : BoundSpec). IsOwn own z.label.0 × ((t.names.number ≤ z.label.0.number) × (z.label.0.number < u.names.number))) ys
          → Each (λ (z : BoundSpec). IsOwn own z.label.0 × ((s.names.number ≤ z.label.0.number) × (z.label.0.number < u.names.number))) ys
      lower [] a = tt
      lower (z ∷ ys) a = let le = a.0.1.0 in ((a.0.0, (omega (arith, le, h.up), a.0.1.1)), lower ys a.1)

      apart : (ys : List BoundSpec) → Each (λ (z : BoundSpec). IsOwn own z.label.0 × ((t.names.number ≤ z.label.0.number) × (z.label.0.number < u.names.number))) ys → Among (map spec_label ys) y.label → ⊥
      apart [] a i = i
      apart (z ∷ ys) a (inl e) = let le = a.0.1.0 in let lt = h.labels.0.1.1 in let same = ap (λ (l : Label). l.0.number) e in omega (arith, le, lt, same)
      apart (z ∷ ys) a (inr i) = apart ys a.1 i

  begun-safe : (l : Label) (place : Span) (s : State) → S s → IsNotKept (keyword_at s.keywords l) → S (record s { keywords = insert_entry same_label s.keywords l (keyword.Waiting place) })
  unfolding stage.begin_keyword
  begun-safe l place s h free = record {
    stage = begins own texts rs x.new x.no_text x.texts_only x.behind place l (stage_of s) h.stage free;
    imported = h.imported;
    made = λ m e v k o. h.made m e v (by m e v (begin_keeps l place (stage_of s) m e v k)) o;
  }
    where
      by : (m : Label) (e : Option PlainCore) (v : Value) → KeptAt s.keywords m e v ⊎ ⊥ → KeptAt s.keywords m e v
      by m e v (inl k) = k
      by m e v (inr k) = absurd k

  begun-fresh : (l : Label) (place : Span) (s u : State) → u.keywords ≡ insert_entry same_label s.keywords l (keyword.Waiting place) → Fresh own texts rs s u
  unfolding stage.begin_keyword
  begun-fresh l place s u is m e v k o = by (begin_keeps l place (stage_of s) m e v (subst (λ ks. KeptAt ks m e v) is k))
    where
      by : KeptAt s.keywords m e v ⊎ ⊥ → KeptAt s.keywords m e v ⊎ (s.names.number ≤ m.0.number)
      by (inl i) = inl i
      by (inr i) = absurd i

  -- an own label that isn't made yet isn't kept
  unmade : (s : State) → s.names.library ≡ own → S s → IsNotKept (keyword_at s.keywords (as_label s.names))
  unmade s n h = not_kept (keyword_at s.keywords (as_label s.names)) (λ e v k. let lt = h.made (as_label s.names) e v k n in omega (arith, lt))

  module _ (f : FrameNo) (place : Span) (level : ℕ) (b : BindingSpec) (s : State) where
    abbrev its : Label
    its = as_label s.names

    abbrev begins_at : Span
    begins_at = place_of b.init place

    abbrev shown_in : State
    shown_in = record (counted s) { frames = with_row s.frames f (row_for b.id its) }

    abbrev bound_in : State
    bound_in = record shown_in { bindings = s.bindings ++ (its, binding.Macro level None) ∷ []; index = s.index; scope = s.scope }

    abbrev begun_in : State
    begun_in = record bound_in { keywords = insert_entry same_label s.keywords its (keyword.Waiting begins_at) }

    module _ (n : s.names.library ≡ own) (h : S s) where
      pends-safe : S bound_in
      pends-safe = safe-bound own texts rs its (binding.Macro level None) shown_in s.index s.scope (λ m c e. absurd (cc)) (safe-frames own texts rs (with_row s.frames f (row_for b.id its)) (counted s) (safe-counted own texts rs s h))

      pends-so : Pending s (record { label = its; init = b.init } ∷ []) begun_in
      pends-so = record {
        safe = begun-safe its begins_at bound_in pends-safe (unmade s n h);
        fresh = begun-fresh its begins_at s begun_in refl;
        next = n;
        up = omega arith;
        labels = ((n, (omega arith, omega arith)), tt);
        free = (subst IsNotKept (sym (put_same s.keywords its (keyword.Waiting begins_at))) tt, tt);
        once = ((λ a. a), tt);
      }

  pub keyword-pends : (f : FrameNo) (place : Span) (level : ℕ) (b : BindingSpec) (s : State) → s.names.library ≡ own → S s → Sure (λ y u. Pending s (y ∷ []) u) (bind_keyword f place level b s)
  unfolding bind_keyword fresh stage.begin_keyword
  keyword-pends f place level b s n h =
      sure-if (λ y u. Pending s (y ∷ []) u) (is_leaf b.id) (after (fresh s) (bind_keyword_as f place level b)) (fault_form kind.BadForm b.id place s)
      (λ e. by (is_some (label_at s.frames f (row_for b.id (as_label s.names)).symbol (row_for b.id (as_label s.names)).marks))) (λ e. tt)
    where
      by : (r : Bool)
          → Sure (λ y u. Pending s (y ∷ []) u) (after (row_put b.id place (counted s) (if r then Err (second_binder (symbol_of b.id)) else Ok (with_row s.frames f (row_for b.id (as_label s.names))))) (λ _ t.
          after (put_keyword (as_label s.names) level t) (λ _ u. after (on_stage (stage.begin_keyword (as_label s.names) (place_of b.init place)) u) (λ _. give (record { label = as_label s.names; init = b.init })))))
      by true = tt
      by false = pends-so f place level b s n h

  pub keywords-pend : (f : FrameNo) (place : Span) (level : ℕ) (bs : List BindingSpec) (s : State) → s.names.library ≡ own → S s → Sure (λ ys u. Pending s ys u) (bind_keywords f place level bs s)
  keywords-pend f place level [] s n h = subst (λ (r : Result (List BoundSpec × State) Fault). Sure (λ ys u. Pending s ys u) r) (sym (each-nil (bind_keyword f place level) s)) (pending-none s n h)
  keywords-pend f place level (b ∷ bs) s n h =
      subst (λ (r : Result (List BoundSpec × State) Fault). Sure (λ ys u. Pending s ys u) r) (sym (each-cons (bind_keyword f place level) b bs s))
      (sure-after (λ y t. Pending s (y ∷ []) t) (λ ys u. Pending s ys u) (bind_keyword f place level b s) (λ y t. after (each (bind_keyword f place level) [] bs t) (λ ys. give (y ∷ ys))) (keyword-pends f place level b s n h)
      (λ y t k. sure-after (λ ys u. Pending t ys u) (λ ys u. Pending s ys u) (each (bind_keyword f place level) [] bs t) (λ ys. give (y ∷ ys)) (keywords-pend f place level bs t k.next k.safe)
      (λ ys u j. pending-more s t u y ys k j)))

  -- Transformers that are evaluated.

  -- of the own ones at most this one is kept then, of those that weren't and were made before
  abbrev pub FreshBut : Label → State → State → Type 0
  FreshBut l s u = (m : Label) (e : Option PlainCore) (v : Value) → KeptAt u.keywords m e v → IsOwn own m.0 → KeptAt s.keywords m e v ⊎ ((s.names.number ≤ m.0.number) ⊎ (m ≡ l))

  pub finish-safe : (place : Span) (l : Label) (c : PlainCore) (s : State) → s.names.library ≡ own → S s → IsOwn own l.0 → l.0.number < s.names.number → IsNotKept (keyword_at s.keywords l) → IsKeywordExpression rs c
      → Each (λ (n : CodeNo). n.0.library ≡ own) (code_numbers c) → Each (λ n. OwnHasCode own s.keywords n → ⊥) (code_numbers c) → Sure (λ (a : Unit {0}) u. S u × FreshBut l s u) (evaluate_transformer rs place l c s)
  unfolding evaluate_transformer
  finish-safe place l c s n h o lt free good here apart =
      let r = stage.evaluate_transformer place rs l c (stage_of s) in
      sure-less (λ (a : Unit {0}) u. Stays (Is l) s u × Later own s u) (λ (a : Unit {0}) u. S u × FreshBut l s u) (staged s r)
      (sure-with (λ (a : Unit {0}) u. Stays (Is l) s u) (λ (a : Unit {0}) u. Later own s u) (staged s r)
      (stays (Is l) s r (finishes own texts rs x.new x.no_text x.texts_only x.behind place l c (stage_of s) h.stage o free good here apart) (finish_keeps place rs l c (stage_of s)))
      (finish-later own rs place l c s n))
      (λ a u k. (
        record {
          stage = k.0.steady;
          imported = λ m level d e. h.imported m level d (ap (λ bs. bound_to bs m) (sym k.0.bindings) ∙ e);
          made = λ m e v i p. made u k.1 m e v p (k.0.kept m e v i);
        },
        (λ m e v i p. fresh-but u m e v (k.0.kept m e v i)),
      ))
    where
      made : (u : State) → Later own s u → (m : Label) (e : Option PlainCore) (v : Value) → IsOwn own m.0 → KeptAt s.keywords m e v ⊎ (m ≡ l) → m.0.number < u.names.number
      made u later m e v p (inl i) = let low = h.made m e v i p in omega (arith, low, later.up)
      made u later m e v p (inr is) = let same = ap (λ (y : Label). y.0.number) is in omega (arith, lt, later.up, same)

      fresh-but : (u : State) (m : Label) (e : Option PlainCore) (v : Value) → KeptAt s.keywords m e v ⊎ (m ≡ l) → KeptAt s.keywords m e v ⊎ ((s.names.number ≤ m.0.number) ⊎ (m ≡ l))
      fresh-but u m e v (inl i) = inl i
      fresh-but u m e v (inr is) = inr (inr is)
