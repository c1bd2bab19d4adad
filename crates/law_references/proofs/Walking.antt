-- What expansion gives is related to its form, and refers to what identifiers stand for, given that it is so inside forms.
use Rattle.std.proofs.Common.{◌≡◌, ◌≤◌, ◌+◌, ℕ, Bool, true, false, List, [], ◌∷◌, ◌++◌, map, length, Option, None, Some, Result, Ok, refl, sym, ap, ◌∙◌, subst, arith, append-nil, append_assoc, inl, inr}
use Rattle.std.specs.Prelude.{◌⊎◌}
use Rattle.base_data.proofs.ElementLemmas.{each-append, each-implied}
use Rattle.base_data.specs.Act.{after, give, each, gather}
use Rattle.base_data.specs.Elements.{Among, Each}
use Rattle.base_data.specs.declared.fault.Fault.{Fault}
use Rattle.base_data.specs.declared.library.LibName.{LibName}
use Rattle.base_data.specs.declared.library.LibName.TheVariants as library
use Rattle.base_data.specs.declared.name.FrameNo.{FrameNo}
use Rattle.base_data.specs.declared.name.Label.{Label}
use Rattle.base_data.specs.declared.name.Mark.{Mark}
use Rattle.base_data.specs.declared.span.Span.{Span}
use Rattle.stx_tree.specs.Changes.{stamp}
use Rattle.stx_tree.specs.Context.{LeafContext}
use Rattle.stx_tree.specs.Tree.{Tree}
use Rattle.core_language.specs.Core.{PlainCore, procedure, letrec, cores}
use Rattle.core_language.specs.CoreView.{inits, cases, clauses, clause_on}
use Rattle.core_language.specs.declared.code.Clause.{Clause}
use Rattle.core_language.specs.declared.code.Init.{Init}
use Rattle.core_language.specs.declared.code.Lambda.{Lambda}
use Rattle.core_language.specs.declared.record.CompiledLibrary.{CompiledLibrary}
use Rattle.core_language.specs.declared.record.Line.{Line}
use Rattle.core_language.specs.declared.record.Line.TheVariants as line
use Rattle.core_shapes.specs.At.{place_of}
use Rattle.eval_stage.specs.declared.keyword.Keyword.{Keyword}
use Rattle.core_shapes.specs.declared.shape.BindingSpec.{BindingSpec}
use Rattle.core_shapes.specs.declared.shape.FormalIds.{FormalIds}
use Rattle.core_shapes.specs.declared.shape.LambdaCase.{LambdaCase}
use Rattle.core_shapes.specs.declared.shape.PatternCase.{PatternCase}
use Rattle.expand_standing.specs.Binders.{bind_specs, bind_formals}
use Rattle.expand_standing.specs.InScope.{cut, restoring, apart}
use Rattle.expand_standing.specs.Patterns.{pattern_of, bind_pattern}
use Rattle.expand_standing.specs.State.{State, Does, fresh, fresh_frame}
use Rattle.expand_standing.specs.Uses.{bind_keywords, evaluate_transformer}
use Rattle.expand_standing.specs.declared.binders.BoundSpec.{BoundSpec}
use Rattle.expand_heads.specs.Items.{begun}
use Rattle.expand_heads.specs.Depth.{deeper}
use Rattle.expand_heads.specs.declared.plan.Plan.{Plan}
use Rattle.expand_heads.specs.declared.plan.Plan.TheVariants as plans
use Rattle.expand_heads.specs.declared.taken.BodyAt.{BodyAt}
use Rattle.expand_heads.specs.declared.taken.Taken.{Taken}
use Rattle.expand_heads.specs.declared.taken.Waiting.{Waiting}
use Rattle.expand_heads.specs.declared.taken.Waits.{Waits}
use Rattle.expand_heads.specs.declared.taken.Waits.TheVariants as waits
use Rattle.expand_forms.specs.Body.{splice, no_value, value_of, finish_as, finish_one, finish_all, sequence_of, inits_in, values_in, with_inits, body_core, finish, lambda_at, body_in, body}
use Rattle.expand_forms.specs.Expression.{in_order, case_in, lambda_case, one_case, all_cases, one_init, all_inits, letrec_in, letrec_form, fender, clause_in, pattern_clause, all_clauses, inside}
use Rattle.expand_forms.specs.Inside.{Inside}
use Rattle.expand_forms.specs.Keywords as keywords
use Rattle.expand_forms.specs.Keywords.{seen_in, expand_transformer_in, expand_transformers, with_keywords}
use Rattle.expand_forms.proofs.Steps.{earlier_inside}
use Rattle.expand_forms.specs.Site.{site_at}
use Rattle.expand_forms.specs.Forms.{let_syntax_parts, letrec_parts, procedure_parts}
use Rattle.law_expand.specs.States.{Later}
use Rattle.law_expand.proofs.Acts.{Gave, gave-both, gave-after, gave-less, gave-if, gave-within, told, each-nil, each-cons}
use Rattle.law_expand.proofs.Changes.{Moves, inside-moves, moved-body, moved-case, moved-clause, moved-line}
use Rattle.law_expand.specs.Kept.{IsKeptWith}
use Rattle.law_expand.proofs.SpentBinding.{Same, formals-same, specs-same, pattern-same, bind-pattern-same, keywords-told}
use Rattle.law_expand.proofs.SpentOnStage.{Tells, TellsBut, finish-told}
use Rattle.law_expand.proofs.SparesQuasi.{same-told}
use Rattle.law_fresh.specs.Leaves.{OptionHolds, TreeHolds, CoreHolds, LineHolds}
use Rattle.law_fresh_expansion.specs.Events.{HasKnownEvents}
use Rattle.law_fresh_expansion.specs.Forms.{WaitsHold, TakenHolds}
use Rattle.law_fresh_expansion.specs.Known.{IsKnown, IsKnownFrame, IsNewAmong}
use Rattle.law_fresh_expansion.specs.Living.{Lives}
use Rattle.law_fresh_expansion.specs.States.{RecordsHold, FreshStateHolds}
use Rattle.law_fresh_expansion.proofs.Changing.{stamp-holds, stamps-hold}
use Rattle.law_fresh_expansion.proofs.Forms as forms
use Rattle.law_fresh_expansion.proofs.Items as items
use Rattle.law_fresh_expansion.proofs.PlannedForm.{inside-keeps}
use Rattle.law_fresh_expansion.proofs.Shapes.{FormalsHold, LambdaHolds, PatternCaseHolds}
use Rattle.law_fresh_expansion.proofs.Standing as standing
use Rattle.law_references.specs.Changes.{placed, between, body_change}
use Rattle.law_references.specs.Expands.{counted, Expands, Performs, binds_all, Expand, none, more, CaseBinds, binds_formals, ExpandedBind, no_case, case, Starts, starts_with, ExpansionStart, no_init, init}
use Rattle.law_references.specs.Expands.{ExpandsClause, matches_pattern, Match, no_clause, clause, Asks, asks_nothing, asks_first, IsBody, is_body, Finish, no_line, next_line, Ends, declares, defines, defines_procedure, is_expression}
use Rattle.law_references.specs.Expands.{KeywordMeans, means, Mean, no_keyword, keyword, BindsKeywords, binds_keywords, TakesForm, Take, none_taken, more_taken}
use Rattle.law_references.specs.Noted.{Reference, KeywordExpression, Noted, nothing, both, NotedLine, lines, if_definition, if_expression, of_definitions, of_expressions, of_lines, of_body, named, IsExpression}
use Rattle.law_references.specs.Namings.{Naming, namings, all_namings, init_namings, case_namings, clause_namings}
use Rattle.law_references.specs.Whole.{KeepsOnly}
use Rattle.law_references.proofs.Staying as staying
use Rattle.law_references.proofs.Templating.{named-joined}
use Rattle.law_references.proofs.Telling.{told-self, told-then}

-- What parts mention.

abbrev fender-namings : Option PlainCore → List Naming
fender-namings None = []
fender-namings (Some c) = namings c

abbrev clause-said : Clause → List Naming
clause-said c = fender-namings c.fender ++ namings c.output

clauses-said : (c : Clause) (cs : List Clause) → clause_namings (clauses (c ∷ cs)) ≡ clause-said c ++ clause_namings (clauses cs)
clauses-said c cs = by c.fender
  where
    by : (o : Option PlainCore) → clause_namings (clause_on c.pattern o c.output (clauses cs)) ≡ (fender-namings o ++ namings c.output) ++ clause_namings (clauses cs)
    by None = refl
    by (Some f) = sym (append_assoc (namings f) (namings c.output) (clause_namings (clauses cs)))

sequence-said : (cs : List PlainCore) → namings (sequence_of cs) ≡ all_namings (cores cs)
sequence-said [] = refl
sequence-said (c ∷ []) = sym (append-nil (namings c))
sequence-said (c ∷ (d ∷ cs)) = refl

abbrev pub line-said : Line → List Naming
line-said (line.Define l c) = namings c
line-said (line.Expr c) = namings c

-- what bindings and patterns keep of keywords
told-by : {A : Type 0} (s v : State) (r : Result (A × State) Fault) (x : A) → Gave (Same s) r → r ≡ Ok (x, v) → Tells s.keywords v.keywords
told-by s v r x h e = same-told s v (told (Same s) r x v h e)

with-inits-said : (is : List Init) (c : PlainCore) → namings (with_inits is c) ≡ init_namings (inits is) ++ namings c
with-inits-said [] c = refl
with-inits-said (i ∷ is) c = refl

module _ (libs : List LibName) (own : LibName) (core : Among libs library.Core) (new : IsNewAmong libs own) where
  abbrev K : ℕ → Mark → Type 0
  K n m = IsKnown libs own n m

  abbrev J : ℕ → FrameNo → Type 0
  J n f = IsKnownFrame libs own n f

  abbrev P : ℕ → LeafContext → Type 0
  P n c = HasKnownEvents libs own n c

  abbrev T : ℕ → Tree → Type 0
  T n t = TreeHolds (P n) t

  abbrev Ts : ℕ → List Tree → Type 0
  Ts n ts = Each (T n) ts

  abbrev lives : Lives own K J P
  lives = staying.lives libs own core new

  abbrev Kept : State → Reference → Type 0
  Kept u r = staying.Kept libs own core new u r

  abbrev Went : State → State → Type 0
  Went s u = staying.Went libs own core new s u

  abbrev Made : (Noted → Type 0) → List Naming → State → State → Type 0
  Made R m s u = staying.Made libs own core new R m s u

  abbrev Bound : (List KeywordExpression → Type 0) → State → State → Type 0
  Bound R s u = staying.Bound libs own core new R s u

  -- a line, and its references
  abbrev pub TellsLine : State → NotedLine → Type 0
  TellsLine u x = (line-said x.line ≡ named x.noted.references) × Each (Kept u) x.noted.references

  module _ (rs : List CompiledLibrary) where
    -- What is told of what forms come to.

    abbrev pub FormMade : Span → ℕ → Tree → State → PlainCore → State → Type 0
    FormMade place level t s c u = Made (λ refs. Expands rs (placed place level) t c (between s u refs)) (namings c) s u

    abbrev pub FormsMade : Span → ℕ → List Tree → State → List PlainCore → State → Type 0
    FormsMade place level ts s cs u = Made (λ refs. Expand rs (placed place level) ts cs (between s u refs)) (all_namings (cores cs)) s u

    abbrev pub CaseMade : Span → ℕ → Tree → FormalIds → List Tree → State → Lambda → State → Type 0
    CaseMade place level t ids forms s c u = Made (λ refs. CaseBinds rs (placed place level) (procedure_parts t ids forms) c (between s u refs)) (namings c.body) s u

    abbrev pub BodyMade : Span → ℕ → Tree → List Tree → State → PlainCore → State → Type 0
    BodyMade place level t forms s c u = Made (λ refs. IsBody rs (placed place level) t forms c (between s u refs)) (namings c) s u

    abbrev InitMade : Span → ℕ → FrameNo → BoundSpec → State → Init → State → Type 0
    InitMade place level f b s i u = Made (λ refs. Starts rs (placed place level) f b i (between s u refs)) (namings i.value) s u

    abbrev ClauseMade : Span → ℕ → List Tree → PatternCase → State → Clause → State → Type 0
    ClauseMade place level literals x s c u = Made (λ refs. ExpandsClause rs (placed place level) literals x c (between s u refs)) (clause-said c) s u

    -- the lines of a body, with what is noted of each
    pub record LinesMade (level : ℕ) (ws : List Waiting) (s : State) (ls : List Line) (u : State) : Type 0 where
      pub told : List NotedLine
      pub lines : lines told ≡ ls
      pub ends : Finish rs level ws s told u
      pub right : Each (TellsLine u) told
      pub expressions : Each (staying.KeptExpression libs own core new) (of_lines told)
      pub kept : KeepsOnly (of_lines told) s u

    abbrev pub PlanMade : Span → ℕ → Tree → Plan → State → PlainCore → State → Type 0
    PlanMade place level t p s c u = Made (λ refs. Performs rs (placed place level) t p c (between s u refs)) (namings c) s u

    -- of the first pass over a form, and over forms
    abbrev pub TakesMade : BodyAt → ℕ → Taken → Tree → State → Taken → State → Type 0
    TakesMade at depth d t s e u = Bound (λ es. TakesForm rs at depth t (body_change d s e u es)) s u

    abbrev pub TakeMade : BodyAt → ℕ → Taken → List Tree → State → Taken → State → Type 0
    TakeMade at depth d ts s e u = Bound (λ es. Take rs at depth ts (body_change d s e u es)) s u

    module _ (first : ℕ) (held : RecordsHold (P first) rs) (room : ℕ) where
      abbrev F : State → Type 0
      F s = FreshStateHolds own K P first s

      abbrev go : Inside
      go = inside rs room

      pub keeps : forms.KeepsFresh own K J P lives first go
      keeps = inside-keeps own K J P lives first rs room held

      moves : Moves own go
      moves = inside-moves own rs room

      -- so it is inside forms
      pub record Traced : Type 0 where
        pub form : (place : Span) (level depth : ℕ) (t : Tree) (s : State) → F s → T s.names.number t → Gave (FormMade place level t s) (go.form (site_at place level depth) t s)
        pub procedure : (place : Span) (level depth : ℕ) (t : Tree) (ids : FormalIds) (fs : List Tree) (s : State) → F s → FormalsHold (P s.names.number) ids → Ts s.names.number fs → Gave (CaseMade place level t ids fs s) (go.procedure (site_at place level depth) (procedure_parts t ids fs) s)
        pub item : (at : BodyAt) (depth : ℕ) (d : Taken) (t : Tree) (s : State) → F s → items.TakenAt own K J P lives first s.names.number d → T s.names.number t → J s.names.number at.frame → Gave (TakesMade at depth d t s) (go.item at depth d t s)

      goes : (s u : State) → F s → Went s u → F u
      goes s u h w = staying.goes libs own core new first s u h w

      from-to : (s u : State) → F s → FreshStateHolds own K P s.names.number u → F u
      from-to s u h k = standing.state-then own K J P lives first s u h k

      pub tree-up : (m n : ℕ) → m ≤ n → (t : Tree) → T m t → T n t
      tree-up m n le t h = standing.tree-up own K J P lives first m n le t h

      trees-up : (m n : ℕ) → m ≤ n → (ts : List Tree) → Ts m ts → Ts n ts
      trees-up m n le ts h = standing.trees-up own K J P lives first m n le ts h

      -- with the next name taken
      pub counted-at : (s : State) → F s → F (counted s)
      counted-at s h = from-to s (counted s) h (standing.counted-holds own K J P lives first s h)

      one-more : (s : State) → s.names.number ≤ (counted s).names.number
      one-more s = omega arith

      module _ (traced : Traced) where
        abbrev Goes : {A : Type 0} → (A → State → Type 0) → State → A → State → Type 0
        Goes M s a u = Went s u × M a u

        pub form-went : (place : Span) (level depth : ℕ) (t : Tree) (s : State) → F s → T s.names.number t → Gave (Goes (FormMade place level t s) s) (go.form (site_at place level depth) t s)
        form-went place level depth t s h k =
            gave-less (λ c u. Went s u × (CoreHolds (P u.names.number) c × FormMade place level t s c u)) (Goes (FormMade place level t s) s) (go.form (site_at place level depth) t s)
            (staying.gave-went libs own core new first (λ n c. CoreHolds (P n) c) (FormMade place level t s) s (go.form (site_at place level depth) t s) (keeps.form place level depth t s h k) (moves.form place level depth t s h.stage.library) (traced.form place level depth t s h k))
            (λ c u k. (k.0, k.1.1))

        -- Lists: what one comes to, and what the others come to after it.

        module _ {X A : Type 0} (step : X → Does A) (Known : ℕ → X → Type 0) (up : (m n : ℕ) → m ≤ n → (x : X) → Known m x → Known n x) (One : X → State → A → State → Noted → Type 0) (All : List X → State → List A → State → Noted → Type 0) (m : A → List Naming) (ms : List A → List Naming) (empty-is : (s : State) → All [] s [] s nothing) (another : (x : X) (xs : List X) (s v u : State) (a : A) (made : List A) (refs others : Noted) → One x s a v refs → All xs v made u others → All (x ∷ xs) s (a ∷ made) u (both refs others)) (empty : ms [] ≡ []) (apart : (a : A) (made : List A) → ms (a ∷ made) ≡ m a ++ ms made) (one : (x : X) (s : State) → F s → Known s.names.number x → Gave (λ a u. Went s u × Made (One x s a u) (m a) s u) (step x s)) where
          abbrev AllMade : List X → State → List A → State → Type 0
          AllMade xs s made u = Went s u × Made (All xs s made u) (ms made) s u

          pub each-went : (xs : List X) (s : State) → F s → Each (Known s.names.number) xs → Gave (AllMade xs s) (each step [] xs s)
          each-went [] s h k =
              subst (λ (r : Result (List A × State) Fault). Gave (AllMade [] s) r) (sym (each-nil step s))
              (staying.went-self libs own core new first s h, staying.made-none libs own core new (All [] s [] s) (ms []) s s (empty-is s) empty (told-self s))
          each-went (x ∷ xs) s h k =
              subst (λ (r : Result (List A × State) Fault). Gave (AllMade (x ∷ xs) s) r) (sym (each-cons step x xs s))
              (gave-after (λ a u. Went s u × Made (One x s a u) (m a) s u) (AllMade (x ∷ xs) s) (step x s) (λ a t. after (each step [] xs t) (λ ys. give (a ∷ ys))) (one x s h k.0)
              (λ a v w. gave-after (AllMade xs v) (AllMade (x ∷ xs) s) (each step [] xs v) (λ ys. give (a ∷ ys))
              (each-went xs v (goes s v h w.0) (each-implied (Known s.names.number) (Known v.names.number) (up s.names.number v.names.number w.0.from.stage.up) xs k.1))
              (λ made u z. (
                staying.went-then libs own core new first s v u w.0 z.0,
                staying.made-so libs own core new (All (x ∷ xs) s (a ∷ made) u) (All (x ∷ xs) s (a ∷ made) u) (m a ++ ms made) (ms (a ∷ made)) s u
                    (staying.made-joined libs own core new (One x s a v) (All xs v made u) (All (x ∷ xs) s (a ∷ made) u) (m a) (ms made) s v u z.0.later w.1 z.1 (λ refs others i j. another x xs s v u a made refs others i j))
                    (λ refs i. i) (apart a made),
              ))))

        pub order-went : (place : Span) (level depth : ℕ) (ts : List Tree) (s : State) → F s → Ts s.names.number ts → Gave (Goes (FormsMade place level ts s) s) (in_order go (site_at place level depth) ts s)
        order-went place level depth ts s h k =
            each-went (go.form (site_at place level depth)) T tree-up (λ t s c u refs. Expands rs (placed place level) t c (between s u refs)) (λ ts s cs u refs. Expand rs (placed place level) ts cs (between s u refs)) namings (λ cs. all_namings (cores cs))
            (λ s. none) (λ t ts s v u c cs refs others i j. more i j) refl (λ c cs. refl) (λ t s h k. form-went place level depth t s h k) ts s h k

        -- Lines of a body.

        abbrev pub LineMade : ℕ → Waiting → State → Line → State → Type 0
        LineMade level w s x u = Made (λ refs. Ends rs (placed w.place level) w.what s (record { line = x; noted = refs }) u) (line-said x) s u

        abbrev ValueMade : Span → ℕ → ℕ → Label → Option Tree → State → PlainCore → State → Type 0
        ValueMade place level depth l o s c u = LineMade level (record { place = place; depth = depth; what = waits.Variable l o }) s (line.Define l c) u

        value-made : (place : Span) (level depth : ℕ) (l : Label) (o : Option Tree) (s : State) → F s → OptionHolds (T s.names.number) o → Gave (ValueMade place level depth l o s) (value_of go (site_at place level (deeper depth)) o s)
        value-made place level depth l None s h k =
            staying.made-none libs own core new (λ refs. Ends rs (placed place level) (waits.Variable l None) s (record { line = line.Define l no_value; noted = refs }) s) [] s s declares refl (told-self s)
        value-made place level depth l (Some t) s h k =
            gave-less (FormMade place level t s) (ValueMade place level depth l (Some t) s) (go.form (site_at place level (deeper depth)) t s) (traced.form place level (deeper depth) t s h k)
            (λ c u z. staying.made-so libs own core new (λ refs. Expands rs (placed place level) t c (between s u refs)) (λ refs. Ends rs (placed place level) (waits.Variable l (Some t)) s (record { line = line.Define l c; noted = refs }) u) (namings c) (namings c) s u z (λ refs i. defines i) refl)

        line-made : (level : ℕ) (place : Span) (depth : ℕ) (w : Waits) (s : State) → F s → WaitsHold (P s.names.number) w → Gave (LineMade level (record { place = place; depth = depth; what = w }) s) (finish_as go (site_at place level depth) w s)
        unfolding finish_as fresh
        line-made level place depth (waits.Variable l o) s h k = gave-after (ValueMade place level depth l o s) (LineMade level (record { place = place; depth = depth; what = waits.Variable l o }) s) (value_of go (site_at place level (deeper depth)) o s) (λ c. give (line.Define l c)) (value-made place level depth l o s h k) (λ c u z. z)
        line-made level place depth (waits.Procedure l t ids fs) s h k =
            gave-after (CaseMade place level t ids fs (counted s)) (LineMade level (record { place = place; depth = depth; what = waits.Procedure l t ids fs }) s) (go.procedure (site_at place level (deeper depth)) (procedure_parts t ids fs) (counted s)) _
            (traced.procedure place level (deeper depth) t ids fs (counted s) (counted-at s h) (items.formals-up own K J P lives first s.names.number (s.names.number + 1) (one-more s) ids k.1.0) (trees-up s.names.number (s.names.number + 1) (one-more s) fs k.1.1))
            (λ c u z.
            let code = procedure (record { 0 = s.names }) (cases (c ∷ [])) true in
            staying.made-from libs own core new (λ refs. CaseBinds rs (placed place level) (procedure_parts t ids fs) c (between (counted s) u refs)) (λ refs. Ends rs (placed place level) (waits.Procedure l t ids fs) s (record { line = line.Define l code; noted = refs }) u)
            (namings c.body) (namings code) s (counted s) u (told-self s) z (λ refs i. defines_procedure i) (append-nil (namings c.body)))
        line-made level place depth (waits.Expression t) s h k =
            gave-after (FormMade place level t s) (LineMade level (record { place = place; depth = depth; what = waits.Expression t }) s) (go.form (site_at place level depth) t s) (λ c. give (line.Expr c)) (traced.form place level depth t s h k)
            (λ c u z. staying.made-so libs own core new (λ refs. Expands rs (placed place level) t c (between s u refs)) (λ refs. Ends rs (placed place level) (waits.Expression t) s (record { line = line.Expr c; noted = refs }) u) (namings c) (namings c) s u z (λ refs i. is_expression i) refl)

        pub line-went : (level : ℕ) (w : Waiting) (s : State) → F s → WaitsHold (P s.names.number) w.what → Gave (Goes (LineMade level w s) s) (finish_one go level w s)
        line-went level w s h k =
            gave-less (λ x u. Went s u × (LineHolds (P u.names.number) x × LineMade level w s x u)) (Goes (LineMade level w s) s) (finish_one go level w s)
            (staying.gave-went libs own core new first (λ n x. LineHolds (P n) x) (LineMade level w s) s (finish_one go level w s) (forms.line-holds own K J P lives first go keeps level w.place w.depth w.what s h k) (moved-line own go moves level w.place w.depth w.what s h.stage.library) (line-made level w.place w.depth w.what s h k))
            (λ x u k. (k.0, k.1.1))

        pub lines-made : (level : ℕ) (ws : List Waiting) (s : State) → F s → Each (λ (w : Waiting). WaitsHold (P s.names.number) w.what) ws → Gave (Goes (LinesMade level ws s) s) (finish_all go level ws s)
        lines-made level [] s h k =
            subst (λ (r : Result (List Line × State) Fault). Gave (Goes (LinesMade level [] s) s) r) (sym (each-nil (finish_one go level) s))
            (staying.went-self libs own core new first s h, record { told = []; lines = refl; ends = no_line; right = tt; expressions = tt; kept = λ l c e. inl e })
        lines-made level (w ∷ ws) s h k =
            subst (λ (r : Result (List Line × State) Fault). Gave (Goes (LinesMade level (w ∷ ws) s) s) r) (sym (each-cons (finish_one go level) w ws s))
            (gave-after (Goes (LineMade level w s) s) (Goes (LinesMade level (w ∷ ws) s) s) (finish_one go level w s) (λ a t. after (each (finish_one go level) [] ws t) (λ ys. give (a ∷ ys))) (line-went level w s h k.0)
            (λ x v y. gave-after (Goes (LinesMade level ws v) v) (Goes (LinesMade level (w ∷ ws) s) s) (finish_all go level ws v) (λ ys. give (x ∷ ys))
            (lines-made level ws v (goes s v h y.0) (items.waiting-up own K J P lives first s.names.number v.names.number y.0.from.stage.up ws k.1))
            (λ ls u z. (
              staying.went-then libs own core new first s v u y.0 z.0,
              record {
                told = record { line = x; noted = y.1.noted } ∷ z.1.told;
                lines = ap (λ xs. x ∷ xs) z.1.lines;
                ends = next_line y.1.is z.1.ends;
                right = ((y.1.all, staying.all-later libs own core new v u z.0.later y.1.noted.references y.1.kept), z.1.right);
                expressions = each-append (staying.KeptExpression libs own core new) y.1.noted.expressions (of_lines z.1.told) y.1.expressions z.1.expressions;
                kept = staying.only-joined libs own core new y.1.noted.expressions (of_lines z.1.told) s v u y.1.told z.1.kept;
              },
            ))))

        -- The expression of a keyword.

        abbrev MeansMade : Span → ℕ → BoundSpec → State → State → Type 0
        MeansMade place level b s u = Bound (λ es. KeywordMeans rs (placed place level) b (between s u es)) s u

        means-kept : (place : Span) (level : ℕ) (b : BoundSpec) (s v : State) (c : PlainCore) → FormMade place (level + 1) b.init (record s { scope = [] }) c v
            → Gave (λ x u. MeansMade place level b s u) (evaluate_transformer rs (place_of b.init place) b.label c (record v { scope = s.scope }))
        means-kept place level b s v c h =
            let w : State = record v { scope = s.scope } in
            let finished = evaluate_transformer rs (place_of b.init place) b.label c w in
            let e : KeywordExpression = record { keyword = b.label; code = c; references = h.noted.references; state = v } in
            gave-less (λ x u. TellsBut b.label c w.keywords u.keywords × (finished ≡ Ok (x, u))) (λ x u. MeansMade place level b s u) finished
            (gave-both (λ x u. TellsBut b.label c w.keywords u.keywords) (λ x u. finished ≡ Ok (x, u)) finished (finish-told rs (place_of b.init place) b.label c w) (staying.gave-is finished))
            (λ x u q. record {
              expressions = h.noted.expressions ++ e ∷ [];
              is = means h.is q.1;
              kept = each-append (staying.KeptExpression libs own core new) h.noted.expressions (e ∷ []) h.expressions ((h.all, h.kept), tt);
              told = staying.only-joined libs own core new h.noted.expressions (e ∷ []) s w u (λ l d k. h.told l d k) (λ l d k. last w.keywords h.noted.references l d (q.0 l d k));
            })
          where
            last : (ks : List (Label × Keyword)) (refs : List Reference) (l : Label) (d : PlainCore) → IsKeptWith ks l d ⊎ ((l ≡ b.label) × (d ≡ c)) → IsKeptWith ks l d ⊎ IsExpression (record { keyword = b.label; code = c; references = refs; state = v } ∷ []) l d
            last ks refs l d (inl k) = inl k
            last ks refs l d (inr k) = inr (inl k)

        pub means-made : (place : Span) (level depth : ℕ) (b : BoundSpec) (s : State) → F s → T s.names.number b.init → Gave (λ x u. MeansMade place level b s u) (keywords.expand_transformer go (site_at place level depth) b s)
        unfolding keywords.expand_transformer
        means-made place level depth b s h k =
            let z : State = record s { scope = [] } in
            gave-after (λ c w. (v : State) × ((w ≡ record v { scope = s.scope }) × FormMade place (level + 1) b.init z c v)) (λ x u. MeansMade place level b s u) (apart (go.form (site_at place (level + 1) depth) b.init) s) (evaluate_transformer go.earlier (place_of b.init place) b.label)
            (gave-after (FormMade place (level + 1) b.init z) (λ c w. (v : State) × ((w ≡ record v { scope = s.scope }) × FormMade place (level + 1) b.init z c v)) (go.form (site_at place (level + 1) depth) b.init z) (restoring s.scope)
            (traced.form place (level + 1) depth b.init z (record { stage = h.stage; bindings = h.bindings }) k) (λ c v y. (v, (refl, y))))
            (λ c w y. subst (λ (v : State). Gave (λ x u. MeansMade place level b s u) (evaluate_transformer go.earlier (place_of b.init place) b.label c v)) (sym y.1.0)
            (subst (λ (es : List CompiledLibrary). Gave (λ x u. MeansMade place level b s u) (evaluate_transformer es (place_of b.init place) b.label c (record y.0 { scope = s.scope }))) (sym (earlier_inside rs room))
            (means-kept place level b s y.0 c y.1.1)))

        -- what was kept before, and then the expressions of these
        abbrev InFrame : FrameNo → ℕ → BoundSpec → Type 0
        InFrame f n b = forms.BoundIn own K J P lives first f n b

        seen-known : (recursive : Bool) (f : FrameNo) (b : BoundSpec) (n : ℕ) → InFrame f n b → T n (seen_in recursive f b).init
        seen-known true f b n h = stamp-holds own K J P lives n f b.init h.1 h.0
        seen-known false f b n h = h.0

        mean-made : (place : Span) (level depth : ℕ) (recursive : Bool) (f : FrameNo) (bs : List BoundSpec) (s : State) → F s → Each (InFrame f s.names.number) bs
            → Gave (λ x u. Bound (λ es. Mean rs (placed place level) recursive f bs (between s u es)) s u) (expand_transformers go (site_at place level depth) recursive f bs s)
        unfolding gather
        mean-made place level depth recursive f [] s h k = staying.bound-none libs own core new (λ es. Mean rs (placed place level) recursive f [] (between s s es)) s s no_keyword (told-self s)
        mean-made place level depth recursive f (b ∷ bs) s h k =
            let x : BoundSpec = seen_in recursive f b in
            gave-after (λ e v. (FreshStateHolds own K P s.names.number v × Unit {0}) × MeansMade place level x s v) (λ e u. Bound (λ es. Mean rs (placed place level) recursive f (b ∷ bs) (between s u es)) s u) (expand_transformer_in go (site_at place level depth) recursive f tt b s) (λ e. gather (expand_transformer_in go (site_at place level depth) recursive f) e bs)
            (staying.gave-and libs own core new first (λ n e. Unit {0}) (λ e v. MeansMade place level x s v) s (keywords.expand_transformer go (site_at place level depth) x s)
            (forms.keyword-holds own K J P lives first go keeps place level depth x s h (seen-known recursive f b s.names.number k.0)) (means-made place level depth x s h (seen-known recursive f b s.names.number k.0)))
            (λ e v z. gave-less (λ d u. Bound (λ es. Mean rs (placed place level) recursive f bs (between v u es)) v u) (λ d u. Bound (λ es. Mean rs (placed place level) recursive f (b ∷ bs) (between s u es)) s u) (expand_transformers go (site_at place level depth) recursive f bs v)
            (mean-made place level depth recursive f bs v (from-to s v h z.0.0) (each-implied (InFrame f s.names.number) (InFrame f v.names.number) (forms.bound-in-up own K J P lives first f s.names.number v.names.number z.0.0.stage.up) bs k.1))
            (λ d u y. staying.bound-joined libs own core new (λ es. KeywordMeans rs (placed place level) x (between s v es)) (λ es. Mean rs (placed place level) recursive f bs (between v u es)) (λ es. Mean rs (placed place level) recursive f (b ∷ bs) (between s u es)) s v u z.1 y (λ es others i j. keyword i j)))

        -- keywords, with the forms in which they stand
        abbrev KeywordsMade : Span → ℕ → Bool → List BindingSpec → List Tree → State → List Tree → State → Type 0
        KeywordsMade place level recursive bs fs s ts u = Bound (λ es. BindsKeywords rs (placed place level) (let_syntax_parts recursive bs fs) ts (between s u es)) s u

        pub keywords-made : (place : Span) (level depth : ℕ) (recursive : Bool) (bs : List BindingSpec) (fs : List Tree) (s : State) → F s → Each (standing.SpecAt own K J P lives first s.names.number) bs → Gave (KeywordsMade place level recursive bs fs s) (with_keywords go (site_at place level depth) (let_syntax_parts recursive bs fs) s)
        unfolding fresh_frame keywords.keywords
        keywords-made place level depth recursive bs fs s h k =
            let f : FrameNo = record { 0 = s.names } in
            let hs = counted-at s h in
            let bound = bind_keywords f place level bs (counted s) in
            gave-after (λ x u. KeywordsMade place level recursive bs fs s (map (stamp f) fs) u) (KeywordsMade place level recursive bs fs s) (keywords.keywords go (site_at place level depth) recursive bs f (counted s)) (λ _. give (map (stamp f) fs))
            (gave-after (λ xs v. ((FreshStateHolds own K P (counted s).names.number v × Each (standing.BoundHolds own K J P lives first v.names.number) xs) × (bound ≡ Ok (xs, v))) × Tells (counted s).keywords v.keywords) (λ x u. KeywordsMade place level recursive bs fs s (map (stamp f) fs) u) bound (expand_transformers go (site_at place level depth) recursive f)
            (gave-both (λ xs v. (FreshStateHolds own K P (counted s).names.number v × Each (standing.BoundHolds own K J P lives first v.names.number) xs) × (bound ≡ Ok (xs, v))) (λ xs v. Tells (counted s).keywords v.keywords) bound
            (staying.gave-from libs own core new first (λ n xs. Each (standing.BoundHolds own K J P lives first n) xs) (counted s) bound
            (standing.bind-keywords-holds own K J P lives first f place level bs (counted s) hs (each-implied (standing.SpecAt own K J P lives first s.names.number) (standing.SpecAt own K J P lives first (s.names.number + 1)) (standing.spec-up own K J P lives first s.names.number (s.names.number + 1) (one-more s)) bs k)))
            (keywords-told f place level bs (counted s)))
            (λ xs v z. gave-less (λ x u. Bound (λ es. Mean rs (placed place level) recursive f xs (between v u es)) v u) (λ x u. KeywordsMade place level recursive bs fs s (map (stamp f) fs) u) (expand_transformers go (site_at place level depth) recursive f xs v)
            (mean-made place level depth recursive f xs v (from-to (counted s) v hs z.0.0.0)
            (forms.all-bound-in own K J P lives first f v.names.number xs z.0.0.1 (lives.frames (s.names.number + 1) v.names.number f z.0.0.0.stage.up (standing.frame-made own K J P lives first s h))))
            (λ x u y. staying.bound-from libs own core new (λ es. Mean rs (placed place level) recursive f xs (between v u es)) (λ es. BindsKeywords rs (placed place level) (let_syntax_parts recursive bs fs) (map (stamp f) fs) (between s u es)) s v u z.1 y (λ es i. binds_keywords z.0.1 i))))
            (λ x u y. y)

        -- The first pass over forms.

        abbrev TakenAt : ℕ → Taken → Type 0
        TakenAt n d = items.TakenAt own K J P lives first n d

        pub take-made : (at : BodyAt) (depth : ℕ) (d : Taken) (ts : List Tree) (s : State) → F s → TakenAt s.names.number d → Ts s.names.number ts → J s.names.number at.frame → Gave (TakeMade at depth d ts s) (splice go at depth d ts s)
        unfolding gather
        take-made at depth d [] s h k g q = staying.bound-none libs own core new (λ es. Take rs at depth [] (body_change d s d s es)) s s none_taken (told-self s)
        take-made at depth d (t ∷ ts) s h k g q =
            gave-after (λ e v. (FreshStateHolds own K P s.names.number v × TakenAt v.names.number e) × TakesMade at depth d t s e v) (TakeMade at depth d (t ∷ ts) s) (go.item at depth d t s) (λ e. gather (go.item at depth) e ts)
            (staying.gave-and libs own core new first TakenAt (TakesMade at depth d t s) s (go.item at depth d t s) (keeps.item at depth d t s h k g.0 q) (traced.item at depth d t s h k g.0 q))
            (λ e v z. gave-less (TakeMade at depth e ts v) (TakeMade at depth d (t ∷ ts) s) (splice go at depth e ts v)
            (take-made at depth e ts v (from-to s v h z.0.0) z.0.1 (trees-up s.names.number v.names.number z.0.0.stage.up ts g.1) (lives.frames s.names.number v.names.number at.frame z.0.0.stage.up q))
            (λ x u y. staying.bound-joined libs own core new (λ es. TakesForm rs at depth t (body_change d s e v es)) (λ es. Take rs at depth ts (body_change e v x u es)) (λ es. Take rs at depth (t ∷ ts) (body_change d s x u es)) s v u z.1 y (λ es others i j. more_taken i j)))

        -- Bodies.

        definitions-said : (xs : List NotedLine) (u : State) → Each (TellsLine u) xs → init_namings (inits (inits_in (lines xs))) ≡ named (of_definitions xs)
        definitions-said [] u h = refl
        definitions-said (x ∷ xs) u h = by x.line h.0.0 (definitions-said xs u h.1) ∙ sym (named-joined (if_definition x.line x.noted.references) (of_definitions xs))
          where
            by : (l : Line) → line-said l ≡ named x.noted.references → init_namings (inits (inits_in (lines xs))) ≡ named (of_definitions xs) → init_namings (inits (inits_in (l ∷ lines xs))) ≡ named (if_definition l x.noted.references) ++ named (of_definitions xs)
            by (line.Define l c) e others = λ i. e i ++ others i
            by (line.Expr c) e others = others

        expressions-said : (xs : List NotedLine) (u : State) → Each (TellsLine u) xs → all_namings (cores (values_in (lines xs))) ≡ named (of_expressions xs)
        expressions-said [] u h = refl
        expressions-said (x ∷ xs) u h = by x.line h.0.0 (expressions-said xs u h.1) ∙ sym (named-joined (if_expression x.line x.noted.references) (of_expressions xs))
          where
            by : (l : Line) → line-said l ≡ named x.noted.references → all_namings (cores (values_in (lines xs))) ≡ named (of_expressions xs) → all_namings (cores (values_in (l ∷ lines xs))) ≡ named (if_expression l x.noted.references) ++ named (of_expressions xs)
            by (line.Define l c) e others = others
            by (line.Expr c) e others = λ i. e i ++ others i

        body-said : (xs : List NotedLine) (u : State) → Each (TellsLine u) xs → namings (body_core (lines xs)) ≡ named (of_definitions xs ++ of_expressions xs)
        body-said xs u h =
            with-inits-said (inits_in (lines xs)) (sequence_of (values_in (lines xs)))
            ∙ (λ i. definitions-said xs u h i ++ (sequence-said (values_in (lines xs)) ∙ expressions-said xs u h) i)
            ∙ sym (named-joined (of_definitions xs) (of_expressions xs))

        definitions-kept : (xs : List NotedLine) (u : State) → Each (TellsLine u) xs → Each (Kept u) (of_definitions xs)
        definitions-kept [] u h = tt
        definitions-kept (x ∷ xs) u h = each-append (Kept u) (if_definition x.line x.noted.references) (of_definitions xs) (by x.line) (definitions-kept xs u h.1)
          where
            by : (l : Line) → Each (Kept u) (if_definition l x.noted.references)
            by (line.Define l c) = h.0.1
            by (line.Expr c) = tt

        expressions-kept : (xs : List NotedLine) (u : State) → Each (TellsLine u) xs → Each (Kept u) (of_expressions xs)
        expressions-kept [] u h = tt
        expressions-kept (x ∷ xs) u h = each-append (Kept u) (if_expression x.line x.noted.references) (of_expressions xs) (by x.line) (expressions-kept xs u h.1)
          where
            by : (l : Line) → Each (Kept u) (if_expression l x.noted.references)
            by (line.Define l c) = tt
            by (line.Expr c) = h.0.1

        abbrev FinishMade : ℕ → Taken → State → PlainCore → State → Type 0
        FinishMade level d s c u = (ls : List Line) × ((body_core ls ≡ c) × LinesMade level d.waiting s ls u)

        finish-made : (place : Span) (level : ℕ) (t : Tree) (d : Taken) (s : State) → F s → TakenHolds (P s.names.number) d → Gave (FinishMade level d s) (finish go place level t d s)
        unfolding finish
        finish-made place level t d s h k =
            gave-if (FinishMade level d s) d.has_expression (after (finish_all go level d.waiting s) (λ ls. give (body_core ls))) _
            (λ e. gave-after (Goes (LinesMade level d.waiting s) s) (FinishMade level d s) (finish_all go level d.waiting s) (λ ls. give (body_core ls)) (lines-made level d.waiting s h k) (λ ls u z. (ls, (refl, z.1))))
            (λ e. tt)

        body-made : (place : Span) (level depth : ℕ) (t : Tree) (fs : List Tree) (s : State) → F s → Ts s.names.number fs → Gave (BodyMade place level t fs s) (body go (site_at place level depth) t fs s)
        unfolding body fresh_frame
        body-made place level depth t fs s h k =
            let f : FrameNo = record { 0 = s.names } in
            let n = length s.scope in
            let hs = counted-at s h in
            let made = standing.frame-made own K J P lives first s h in
            let all = stamps-hold own K J P lives (s.names.number + 1) f fs made (trees-up s.names.number (s.names.number + 1) (one-more s) fs k) in
            let at = lambda_at f place level in
            let pass = splice go at depth begun (map (stamp f) fs) (counted s) in
            gave-within (BodyMade place level t fs s) (λ v. after (fresh_frame v) (body_in go (site_at place level depth) t fs)) s
            (gave-after (λ d v. (FreshStateHolds own K P (counted s).names.number v × TakenHolds (P v.names.number) d) × TakeMade at depth begun (map (stamp f) fs) (counted s) d v) (λ c u. BodyMade place level t fs s c (cut n u)) pass (finish go place level t)
            (staying.gave-and libs own core new first (λ n d. TakenHolds (P n) d) (TakeMade at depth begun (map (stamp f) fs) (counted s)) (counted s) pass (forms.splice-holds own K J P lives first go keeps at depth begun (map (stamp f) fs) (counted s) hs tt all made)
            (take-made at depth begun (map (stamp f) fs) (counted s) hs tt all made))
            (λ d v z. gave-less (FinishMade level d v) (λ c u. BodyMade place level t fs s c (cut n u)) (finish go place level t d v) (finish-made place level t d v (from-to (counted s) v hs z.0.0) z.0.1)
            (λ c u y.
            let xs = y.1.1.told in
            let es = z.1.expressions in
            subst (λ (x : PlainCore). BodyMade place level t fs s x (cut n u)) (ap body_core y.1.1.lines ∙ y.1.0) (record {
              noted = of_body es xs;
              is = is_body depth z.1.is y.1.1.ends;
              all = body-said xs u y.1.1.right;
              kept = staying.all-cut libs own core new n u (of_definitions xs ++ of_expressions xs) (each-append (Kept u) (of_definitions xs) (of_expressions xs) (definitions-kept xs u y.1.1.right) (expressions-kept xs u y.1.1.right));
              expressions = each-append (staying.KeptExpression libs own core new) es (of_lines xs) z.1.kept y.1.1.expressions;
              told = staying.only-joined libs own core new es (of_lines xs) s v u (λ l d e. z.1.told l d e) y.1.1.kept;
            }))))

        body-went : (place : Span) (level depth : ℕ) (t : Tree) (fs : List Tree) (s : State) → F s → Ts s.names.number fs → Gave (λ c u. Later own s u × BodyMade place level t fs s c u) (body go (site_at place level depth) t fs s)
        body-went place level depth t fs s h k = gave-both (λ c u. Later own s u) (BodyMade place level t fs s) (body go (site_at place level depth) t fs s) (moved-body own go moves place level depth t fs s h.stage.library) (body-made place level depth t fs s h k)

        -- Procedures.

        pub case-made : (place : Span) (level depth : ℕ) (t : Tree) (ids : FormalIds) (fs : List Tree) (s : State) → F s → FormalsHold (P s.names.number) ids → Ts s.names.number fs → Gave (CaseMade place level t ids fs s) (lambda_case go (site_at place level depth) (procedure_parts t ids fs) s)
        unfolding lambda_case fresh_frame
        case-made place level depth t ids fs s h k g =
            let f : FrameNo = record { 0 = s.names } in
            let n = length s.scope in
            let hs = counted-at s h in
            let bound = bind_formals f place level ids (counted s) in
            gave-within (CaseMade place level t ids fs s) (λ v. after (fresh_frame v) (case_in go (site_at place level depth) (procedure_parts t ids fs))) s
            (gave-after (λ x v. (FreshStateHolds own K P (counted s).names.number v × Unit {0}) × (bound ≡ Ok (x, v))) (λ c u. CaseMade place level t ids fs s c (cut n u)) bound (λ x v. after (body go (site_at place level depth) t (map (stamp f) fs) v) (λ c. give (record { formals = x; body = c })))
            (staying.gave-from libs own core new first (λ n x. Unit {0}) (counted s) bound (standing.bind-formals-holds own K J P lives first f place level ids (counted s) hs (items.formals-up own K J P lives first s.names.number (s.names.number + 1) (one-more s) ids k)))
            (λ x v z. gave-after (BodyMade place level t (map (stamp f) fs) v) (λ c u. CaseMade place level t ids fs s c (cut n u)) (body go (site_at place level depth) t (map (stamp f) fs) v) (λ c. give (record { formals = x; body = c }))
            (body-made place level depth t (map (stamp f) fs) v (from-to (counted s) v hs z.0.0)
            (stamps-hold own K J P lives v.names.number f fs (lives.frames (s.names.number + 1) v.names.number f z.0.0.stage.up (standing.frame-made own K J P lives first s h)) (trees-up s.names.number v.names.number (let up : s.names.number + 1 ≤ v.names.number = z.0.0.stage.up in omega (arith, up)) fs g)))
            (λ c u y.
            let Case : Noted → Type 0 = λ refs. CaseBinds rs (placed place level) (procedure_parts t ids fs) (record { formals = x; body = c }) (between s (cut n u) refs) in
            staying.made-cut libs own core new Case Case (namings c) n s u
            (staying.made-from libs own core new (λ refs. IsBody rs (placed place level) t (map (stamp f) fs) c (between v u refs)) Case (namings c) (namings c) s v u (told-by (counted s) v bound x (formals-same f place level ids (counted s)) z.1) y (λ refs i. binds_formals z.1 i) refl) (λ refs i. i))))

        abbrev Case : Span → ℕ → Tree → LambdaCase → State → Lambda → State → Noted → Type 0
        Case place level t x s c u refs = CaseBinds rs (placed place level) (procedure_parts t x.formals x.body) c (between s u refs)

        case-went : (place : Span) (level depth : ℕ) (t : Tree) (x : LambdaCase) (s : State) → F s → LambdaHolds (P s.names.number) x → Gave (λ c u. Went s u × Made (Case place level t x s c u) (namings c.body) s u) (one_case go (site_at place level depth) t x s)
        case-went place level depth t x s h k =
            gave-less (λ c u. Went s u × (CoreHolds (P u.names.number) c.body × CaseMade place level t x.formals x.body s c u)) (λ c u. Went s u × Made (Case place level t x s c u) (namings c.body) s u) (one_case go (site_at place level depth) t x s)
            (staying.gave-went libs own core new first (forms.CaseAt own K J P lives first) (CaseMade place level t x.formals x.body s) s (one_case go (site_at place level depth) t x s)
            (forms.case-holds own K J P lives first go keeps place level depth t x.formals x.body s h k.0 k.1) (moved-case own go moves place level depth t x.formals x.body s h.stage.library) (case-made place level depth t x.formals x.body s h k.0 k.1))
            (λ c u k. (k.0, k.1.1))

        pub lambda-case-up : (m n : ℕ) → m ≤ n → (x : LambdaCase) → LambdaHolds (P m) x → LambdaHolds (P n) x
        lambda-case-up m n le x h = (items.formals-up own K J P lives first m n le x.formals h.0, trees-up m n le x.body h.1)

        pub cases-went : (place : Span) (level depth : ℕ) (t : Tree) (xs : List LambdaCase) (s : State) → F s → Each (LambdaHolds (P s.names.number)) xs
            → Gave (λ cs u. Went s u × Made (λ refs. ExpandedBind rs (placed place level) t xs cs (between s u refs)) (case_namings (cases cs)) s u) (all_cases go (site_at place level depth) t xs s)
        cases-went place level depth t xs s h k =
            each-went (one_case go (site_at place level depth) t) (λ n x. LambdaHolds (P n) x) lambda-case-up (Case place level t) (λ xs s cs u refs. ExpandedBind rs (placed place level) t xs cs (between s u refs)) (λ (c : Lambda). namings c.body) (λ cs. case_namings (cases cs))
            (λ s. no_case) (λ x xs s v u c cs refs others i j. case i j) refl (λ c cs. refl) (λ x s h k. case-went place level depth t x s h k) xs s h k

        -- `letrec` and `letrec*`.

        init-went : (place : Span) (level depth : ℕ) (f : FrameNo) (b : BoundSpec) (s : State) → F s → forms.BoundIn own K J P lives first f s.names.number b → Gave (λ i u. Went s u × InitMade place level f b s i u) (one_init go (site_at place level depth) f b s)
        unfolding one_init
        init-went place level depth f b s h k =
            gave-after (Goes (FormMade place level (stamp f b.init) s) s) (λ i u. Went s u × InitMade place level f b s i u) (go.form (site_at place level depth) (stamp f b.init) s) (λ c. give (record { label = b.label; value = c }))
            (form-went place level depth (stamp f b.init) s h (stamp-holds own K J P lives s.names.number f b.init k.1 k.0))
            (λ c u z. (z.0, staying.made-so libs own core new (λ refs. Expands rs (placed place level) (stamp f b.init) c (between s u refs)) (λ refs. Starts rs (placed place level) f b (record { label = b.label; value = c }) (between s u refs)) (namings c) (namings c) s u z.1 (λ refs i. starts_with i) refl))

        inits-went : (place : Span) (level depth : ℕ) (f : FrameNo) (bs : List BoundSpec) (s : State) → F s → Each (forms.BoundIn own K J P lives first f s.names.number) bs
            → Gave (λ is u. Went s u × Made (λ refs. ExpansionStart rs (placed place level) f bs is (between s u refs)) (init_namings (inits is)) s u) (all_inits go (site_at place level depth) f bs s)
        inits-went place level depth f bs s h k =
            each-went (one_init go (site_at place level depth) f) (λ n b. forms.BoundIn own K J P lives first f n b) (forms.bound-in-up own K J P lives first f) (λ b s i u refs. Starts rs (placed place level) f b i (between s u refs)) (λ bs s is u refs. ExpansionStart rs (placed place level) f bs is (between s u refs))
            (λ (i : Init). namings i.value) (λ is. init_namings (inits is)) (λ s. no_init) (λ b bs s v u i is refs others x y. init x y) refl (λ i is. refl) (λ b s h k. init-went place level depth f b s h k) bs s h k

        pub letrec-made : (place : Span) (level depth : ℕ) (t : Tree) (star : Bool) (bs : List BindingSpec) (fs : List Tree) (s : State) → F s → Each (standing.SpecAt own K J P lives first s.names.number) bs → Ts s.names.number fs
            → Gave (PlanMade place level t (plans.Letrec star bs fs) s) (letrec_form go (site_at place level depth) (letrec_parts t star bs fs) s)
        unfolding letrec_form fresh_frame
        letrec-made place level depth t star bs fs s h k g =
            let f : FrameNo = record { 0 = s.names } in
            let n = length s.scope in
            let hs = counted-at s h in
            let one = one-more s in
            let made = standing.frame-made own K J P lives first s h in
            let bound = bind_specs f place level bs (counted s) in
            let So : PlainCore → State → Type 0 = λ c u. PlanMade place level t (plans.Letrec star bs fs) s c (cut n u) in
            gave-within (PlanMade place level t (plans.Letrec star bs fs) s) (λ v. after (fresh_frame v) (letrec_in go (site_at place level depth) (letrec_parts t star bs fs))) s
            (gave-after (λ ls v. (FreshStateHolds own K P (counted s).names.number v × Each (standing.BoundHolds own K J P lives first v.names.number) ls) × (bound ≡ Ok (ls, v))) So bound _
            (staying.gave-from libs own core new first (λ n ls. Each (standing.BoundHolds own K J P lives first n) ls) (counted s) bound
            (standing.bind-specs-holds own K J P lives first f place level bs (counted s) hs (each-implied (standing.SpecAt own K J P lives first s.names.number) (standing.SpecAt own K J P lives first (s.names.number + 1)) (standing.spec-up own K J P lives first s.names.number (s.names.number + 1) one) bs k)))
            (λ ls v z.
            let hv = from-to (counted s) v hs z.0.0 in
            let up : s.names.number + 1 ≤ v.names.number = z.0.0.stage.up in
            gave-after (λ is w. Went v w × Made (λ refs. ExpansionStart rs (placed place level) f ls is (between v w refs)) (init_namings (inits is)) v w) So (all_inits go (site_at place level depth) f ls v) _
            (inits-went place level depth f ls v hv (forms.all-bound-in own K J P lives first f v.names.number ls z.0.1 (lives.frames (s.names.number + 1) v.names.number f up made)))
            (λ is w y.
            let more-up = y.0.from.stage.up in
            gave-after (λ c u. Later own w u × BodyMade place level t (map (stamp f) fs) w c u) So (body go (site_at place level depth) t (map (stamp f) fs) w) (λ c. give (letrec star (inits is) c))
            (body-went place level depth t (map (stamp f) fs) w (goes v w hv y.0)
            (stamps-hold own K J P lives w.names.number f fs (lives.frames (s.names.number + 1) w.names.number f (omega (arith, up, more-up)) made) (trees-up s.names.number w.names.number (omega (arith, one, up, more-up)) fs g)))
            (λ c u x.
            let All : Noted → Type 0 = λ refs. Performs rs (placed place level) t (plans.Letrec star bs fs) (letrec star (inits is) c) (between s (cut n u) refs) in
            let m = init_namings (inits is) ++ namings c in
            staying.made-cut libs own core new All All m n s u
            (staying.made-from libs own core new All All m m s v u (told-by (counted s) v bound ls (specs-same f place level bs (counted s)) z.1)
            (staying.made-joined libs own core new (λ refs. ExpansionStart rs (placed place level) f ls is (between v w refs)) (λ refs. IsBody rs (placed place level) t (map (stamp f) fs) c (between w u refs)) All
            (init_namings (inits is)) (namings c) v w u x.0 y.1 x.1 (λ refs others i j. binds_all z.1 i j)) (λ refs i. i) refl) (λ refs i. i)))))

        -- `syntax-case`.

        fender-made : (place : Span) (level depth : ℕ) (f : FrameNo) (o : Option Tree) (s : State) → F s → J s.names.number f → OptionHolds (T s.names.number) o
            → Gave (λ x u. Went s u × Made (λ refs. Asks rs (placed place level) f o x (between s u refs)) (fender-namings x) s u) (fender go (site_at place level depth) f o s)
        fender-made place level depth f None s h q k = (staying.went-self libs own core new first s h, staying.made-none libs own core new (λ refs. Asks rs (placed place level) f None None (between s s refs)) [] s s asks_nothing refl (told-self s))
        fender-made place level depth f (Some t) s h q k =
            gave-after (Goes (FormMade place level (stamp f t) s) s) (λ x u. Went s u × Made (λ refs. Asks rs (placed place level) f (Some t) x (between s u refs)) (fender-namings x) s u) (go.form (site_at place level depth) (stamp f t) s) (λ c. give (Some c))
            (form-went place level depth (stamp f t) s h (stamp-holds own K J P lives s.names.number f t q k))
            (λ c u z. (z.0, staying.made-so libs own core new (λ refs. Expands rs (placed place level) (stamp f t) c (between s u refs)) (λ refs. Asks rs (placed place level) f (Some t) (Some c) (between s u refs)) (namings c) (namings c) s u z.1 (λ refs i. asks_first i) refl))

        clause-made : (place : Span) (level depth : ℕ) (literals : List Tree) (x : PatternCase) (s : State) → F s → PatternCaseHolds (P s.names.number) x → Gave (ClauseMade place level literals x s) (pattern_clause go (site_at place level depth) literals x s)
        unfolding pattern_clause fresh_frame
        clause-made place level depth literals x s h k =
            let f : FrameNo = record { 0 = s.names } in
            let n = length s.scope in
            let hs = counted-at s h in
            let one = one-more s in
            let made = standing.frame-made own K J P lives first s h in
            let compiled = pattern_of literals place x.pattern (counted s) in
            let So : Clause → State → Type 0 = λ c u. ClauseMade place level literals x s c (cut n u) in
            gave-within (ClauseMade place level literals x s) (λ v. after (fresh_frame v) (clause_in go (site_at place level depth) literals x)) s
            (gave-after (λ p v. (FreshStateHolds own K P (counted s).names.number v × standing.CompiledHolds own K J P lives first v.names.number p) × (compiled ≡ Ok (p, v))) So compiled _
            (staying.gave-from libs own core new first (standing.CompiledHolds own K J P lives first) (counted s) compiled
            (standing.pattern-holds own K J P lives first literals place x.pattern (counted s) hs (tree-up s.names.number (s.names.number + 1) one x.pattern k.0)))
            (λ p v z.
            let hv = from-to (counted s) v hs z.0.0 in
            let up : s.names.number + 1 ≤ v.names.number = z.0.0.stage.up in
            let bound = bind_pattern f place level p.variables v in
            gave-after (λ e w. (FreshStateHolds own K P v.names.number w × Unit {0}) × (bound ≡ Ok (e, w))) So bound _
            (staying.gave-from libs own core new first (λ n e. Unit {0}) v bound (standing.bind-pattern-holds own K J P lives first f place level p.variables v hv z.0.1.1))
            (λ e w y.
            let hw = from-to v w hv y.0.0 in
            let up-more = y.0.0.stage.up in
            gave-after (λ o b. Went w b × Made (λ refs. Asks rs (placed place level) f x.fender o (between w b refs)) (fender-namings o) w b) So (fender go (site_at place level depth) f x.fender w) _
            (fender-made place level depth f x.fender w hw (lives.frames (s.names.number + 1) w.names.number f (omega (arith, up, up-more)) made) (standing.option-up own K J P lives first s.names.number w.names.number (omega (arith, one, up, up-more)) x.fender k.1.0))
            (λ o b q.
            let up-last = q.0.from.stage.up in
            gave-after (Goes (FormMade place level (stamp f x.output) b) b) So (go.form (site_at place level depth) (stamp f x.output) b) (λ c. give (record { pattern = p.pattern; fender = o; output = c }))
            (form-went place level depth (stamp f x.output) b (goes w b hw q.0)
            (stamp-holds own K J P lives b.names.number f x.output (lives.frames (s.names.number + 1) b.names.number f (omega (arith, up, up-more, up-last)) made) (tree-up s.names.number b.names.number (omega (arith, one, up, up-more, up-last)) x.output k.1.1)))
            (λ c u r.
            let One : Noted → Type 0 = λ refs. ExpandsClause rs (placed place level) literals x (record { pattern = p.pattern; fender = o; output = c }) (between s (cut n u) refs) in
            let m = fender-namings o ++ namings c in
            let tells = told-then (counted s) v w (told-by (counted s) v compiled p (pattern-same literals place x.pattern (counted s)) z.1) (told-by v w bound e (bind-pattern-same f place level p.variables v) y.1) in
            staying.made-cut libs own core new One One m n s u
            (staying.made-from libs own core new One One m m s w u tells
            (staying.made-joined libs own core new (λ refs. Asks rs (placed place level) f x.fender o (between w b refs)) (λ refs. Expands rs (placed place level) (stamp f x.output) c (between b u refs)) One
            (fender-namings o) (namings c) w b u r.0.later q.1 r.1 (λ refs others i j. matches_pattern z.1 y.1 i j)) (λ refs i. i) refl) (λ refs i. i))))))

        clause-went : (place : Span) (level depth : ℕ) (literals : List Tree) (x : PatternCase) (s : State) → F s → PatternCaseHolds (P s.names.number) x → Gave (λ c u. Went s u × ClauseMade place level literals x s c u) (pattern_clause go (site_at place level depth) literals x s)
        clause-went place level depth literals x s h k =
            gave-less (λ c u. Went s u × (forms.ClauseAt own K J P lives first u.names.number c × ClauseMade place level literals x s c u)) (λ c u. Went s u × ClauseMade place level literals x s c u) (pattern_clause go (site_at place level depth) literals x s)
            (staying.gave-went libs own core new first (forms.ClauseAt own K J P lives first) (ClauseMade place level literals x s) s (pattern_clause go (site_at place level depth) literals x s)
            (forms.clause-holds own K J P lives first go keeps place level depth literals x s h k) (moved-clause own go moves place level depth literals x s h.stage.library) (clause-made place level depth literals x s h k))
            (λ c u k. (k.0, k.1.1))

        pub clauses-went : (place : Span) (level depth : ℕ) (literals : List Tree) (xs : List PatternCase) (s : State) → F s → Each (PatternCaseHolds (P s.names.number)) xs
            → Gave (λ cs u. Went s u × Made (λ refs. Match rs (placed place level) literals xs cs (between s u refs)) (clause_namings (clauses cs)) s u) (all_clauses go (site_at place level depth) literals xs s)
        clauses-went place level depth literals xs s h k =
            each-went (pattern_clause go (site_at place level depth) literals) (λ n x. PatternCaseHolds (P n) x) (forms.pattern-case-up own K J P lives first go keeps) (λ x s c u refs. ExpandsClause rs (placed place level) literals x c (between s u refs)) (λ xs s cs u refs. Match rs (placed place level) literals xs cs (between s u refs))
            clause-said (λ cs. clause_namings (clauses cs)) (λ s. no_clause) (λ x xs s v u c cs refs others i j. clause i j) refl clauses-said (λ x s h k. clause-went place level depth literals x s h k) xs s h k
