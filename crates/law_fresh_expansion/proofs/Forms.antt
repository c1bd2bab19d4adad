-- Expressions keep that all in the state of an expansion may be met, given that what is done inside them does.
use Rattle.std.proofs.Common.{◌≤◌, ◌+◌, ℕ, Bool, true, false, List, [], ◌∷◌, map, Option, None, Some, arith}
use Rattle.base_data.proofs.ElementLemmas.{each-implied}
use Rattle.base_data.specs.Act.{after, give}
use Rattle.base_data.specs.Elements.{Each}
use Rattle.base_data.specs.declared.library.LibName.{LibName}
use Rattle.base_data.specs.declared.name.FrameNo.{FrameNo}
use Rattle.base_data.specs.declared.name.Label.{Label}
use Rattle.base_data.specs.declared.name.Mark.{Mark}
use Rattle.base_data.specs.declared.span.Span.{Span}
use Rattle.stx_tree.specs.Changes.{stamp}
use Rattle.stx_tree.specs.Context.{LeafContext}
use Rattle.stx_tree.specs.Tree.{Tree}
use Rattle.core_language.specs.Core.{PlainCore, two_armed, assignment, procedure, letrec, call, matching, cores}
use Rattle.core_language.specs.CoreView.{inits, cases, clauses}
use Rattle.core_language.specs.declared.code.Clause.{Clause}
use Rattle.core_language.specs.declared.code.Init.{Init}
use Rattle.core_language.specs.declared.code.Lambda.{Lambda}
use Rattle.core_language.specs.declared.record.Line.{Line}
use Rattle.core_language.specs.declared.record.Line.TheVariants as line
use Rattle.core_shapes.specs.At.{place_of}
use Rattle.core_shapes.specs.declared.shape.BindingSpec.{BindingSpec}
use Rattle.core_shapes.specs.declared.shape.FormalIds.{FormalIds}
use Rattle.core_shapes.specs.declared.shape.LambdaCase.{LambdaCase}
use Rattle.core_shapes.specs.declared.shape.PatternCase.{PatternCase}
use Rattle.expand_standing.specs.Binders.{bind_formals, bind_specs}
use Rattle.expand_standing.specs.InScope.{apart}
use Rattle.expand_standing.specs.Patterns.{pattern_of, check_literals, bind_pattern}
use Rattle.expand_standing.specs.State.{State, fresh, fresh_frame}
use Rattle.expand_standing.specs.Uses.{bind_keywords, evaluate_transformer}
use Rattle.expand_standing.specs.declared.binders.BoundSpec.{BoundSpec}
use Rattle.expand_heads.specs.Depth.{deeper}
use Rattle.expand_heads.specs.Items.{begun}
use Rattle.expand_heads.specs.declared.taken.BodyAt.{BodyAt}
use Rattle.expand_heads.specs.declared.taken.Taken.{Taken}
use Rattle.expand_heads.specs.declared.taken.Waiting.{Waiting}
use Rattle.expand_heads.specs.declared.taken.Waits.{Waits}
use Rattle.expand_heads.specs.declared.taken.Waits.TheVariants as waits
use Rattle.expand_forms.specs.Body.{splice, value_of, finish_as, finish_one, finish_all, sequence_of, inits_in, values_in, with_inits, body_core, finish, lambda_at, body_in, body}
use Rattle.expand_forms.specs.Expression.{in_order, case_in, lambda_case, lambda, one_case, all_cases, case_lambda, one_init, all_inits, letrec_in, letrec_form, application, alternate, conditional, set, in_sequence, fender, clause_in, pattern_clause, all_clauses, syntax_case, keywords_form}
use Rattle.expand_forms.specs.Inside.{Inside}
use Rattle.expand_forms.specs.Keywords.{expand_transformer, seen_in, expand_transformer_in, expand_transformers, keywords, with_keywords}
use Rattle.expand_forms.specs.Site.{site_at}
use Rattle.expand_forms.specs.Forms.{if_parts, let_syntax_parts, letrec_parts, procedure_parts, syntax_case_parts}
use Rattle.law_fresh.specs.Leaves.{CoresHold, InitsHold, CasesHold, ClausesHold, PatternHolds, LineHolds}
use Rattle.law_fresh.specs.Leaves.{OptionHolds}
use Rattle.law_fresh_expansion.specs.Living.{Lives}
use Rattle.law_fresh_expansion.specs.States.{RecordsHold}
use Rattle.law_fresh.proofs.Wider.{pattern_wider}
use Rattle.law_fresh_expansion.proofs.Changing.{stamp-holds, stamps-hold}
use Rattle.law_fresh_expansion.proofs.Items.{WaitsAt, WaitingAt, TakenAt, formals-up, waiting-up}
use Rattle.law_fresh_expansion.proofs.Shapes.{FormalsHold, LambdaHolds, PatternCaseHolds}
use Rattle.law_fresh_expansion.proofs.Standing.{F, T, Ts, C, up, tree-up, trees-up, core-up, option-up, state-self, state-then, Gave, gave-from, gave-after, gave-if, gave-each, gave-gather, gave-within, gave-apart, counted-holds, frame-made, SpecAt, BoundHolds, spec-up, bound-up, CompiledHolds, bind-formals-holds, bind-specs-holds, bind-keywords-holds, finish-keyword-holds, pattern-holds, literals-hold, bind-pattern-holds}

module _ (own : LibName) (K : ℕ → Mark → Type 0) (J : ℕ → FrameNo → Type 0) (P : ℕ → LeafContext → Type 0) (lives : Lives own K J P) (first : ℕ) where
  abbrev pub CaseAt : ℕ → Lambda → Type 0
  CaseAt n c = (C own K J P lives first) n c.body

  -- What is done inside forms keeps that all may be met, and gives no leaf that may not be met.
  pub record KeepsFresh (go : Inside) : Type 0 where
    pub records : RecordsHold (P first) go.earlier
    pub form : (place : Span) (level depth : ℕ) (t : Tree) (s : State) → (F own K J P lives first) s → (T own K J P lives first) s.names.number t → (Gave own K J P lives first) (C own K J P lives first) s (go.form (site_at place level depth) t s)
    pub procedure : (place : Span) (level depth : ℕ) (t : Tree) (ids : FormalIds) (forms : List Tree) (s : State) → (F own K J P lives first) s → FormalsHold (P s.names.number) ids → (Ts own K J P lives first) s.names.number forms → (Gave own K J P lives first) CaseAt s (go.procedure (site_at place level depth) (procedure_parts t ids forms) s)
    pub item : (at : BodyAt) (depth : ℕ) (d : Taken) (t : Tree) (s : State) → (F own K J P lives first) s → (TakenAt own K J P lives first) s.names.number d → (T own K J P lives first) s.names.number t → J s.names.number at.frame → (Gave own K J P lives first) (TakenAt own K J P lives first) s (go.item at depth d t s)

  abbrev Any : {A : Type 0} → ℕ → A → Type 0
  Any n x = Unit {0}

  -- Core code of parts.

  abbrev Cs : ℕ → List PlainCore → Type 0
  Cs n cs = Each ((C own K J P lives first) n) cs

  cores-hold : (n : ℕ) (cs : List PlainCore) → Cs n cs → CoresHold (P n) (cores cs)
  cores-hold n [] h = tt
  cores-hold n (c ∷ cs) h = (h.0, cores-hold n cs h.1)

  pub sequence-holds : (n : ℕ) (cs : List PlainCore) → Cs n cs → (C own K J P lives first) n (sequence_of cs)
  sequence-holds n [] h = tt
  sequence-holds n (c ∷ []) h = h.0
  sequence-holds n (c ∷ (d ∷ cs)) h = cores-hold n (c ∷ (d ∷ cs)) h

  cases-hold : (n : ℕ) (xs : List Lambda) → Each (CaseAt n) xs → CasesHold (P n) (cases xs)
  cases-hold n [] h = tt
  cases-hold n (x ∷ xs) h = (h.0, cases-hold n xs h.1)

  abbrev InitAt : ℕ → Init → Type 0
  InitAt n i = (C own K J P lives first) n i.value

  inits-hold : (n : ℕ) (is : List Init) → Each (InitAt n) is → InitsHold (P n) (inits is)
  inits-hold n [] h = tt
  inits-hold n (i ∷ is) h = (h.0, inits-hold n is h.1)

  abbrev pub ClauseAt : ℕ → Clause → Type 0
  ClauseAt n c = PatternHolds (P n) c.pattern × (OptionHolds ((C own K J P lives first) n) c.fender × (C own K J P lives first) n c.output)

  clauses-hold : (n : ℕ) (cs : List Clause) → Each (ClauseAt n) cs → ClausesHold (P n) (clauses cs)
  clauses-hold n [] h = tt
  clauses-hold n (c ∷ cs) h = by c.fender h.0.1.0 (clauses-hold n cs h.1)
    where
      by : (o : Option PlainCore) → OptionHolds ((C own K J P lives first) n) o → ClausesHold (P n) (clauses cs) → ClausesHold (P n) (clauses (record c { fender = o } ∷ cs))
      by None k j = (h.0.0, (h.0.1.1, j))
      by (Some f) k j = (h.0.0, (k, (h.0.1.1, j)))

  abbrev pub LineAt : ℕ → Line → Type 0
  LineAt n x = LineHolds (P n) x

  line-up : (m n : ℕ) → m ≤ n → (x : Line) → LineAt m x → LineAt n x
  line-up m n le (line.Define l c) h = (core-up own K J P lives first) m n le c h
  line-up m n le (line.Expr c) h = (core-up own K J P lives first) m n le c h

  inits-in-hold : (n : ℕ) (xs : List Line) → Each (LineAt n) xs → Each (InitAt n) (inits_in xs)
  inits-in-hold n [] h = tt
  inits-in-hold n (line.Define l c ∷ xs) h = (h.0, inits-in-hold n xs h.1)
  inits-in-hold n (line.Expr c ∷ xs) h = inits-in-hold n xs h.1

  values-in-hold : (n : ℕ) (xs : List Line) → Each (LineAt n) xs → Cs n (values_in xs)
  values-in-hold n [] h = tt
  values-in-hold n (line.Define l c ∷ xs) h = values-in-hold n xs h.1
  values-in-hold n (line.Expr c ∷ xs) h = (h.0, values-in-hold n xs h.1)

  with-inits-holds : (n : ℕ) (is : List Init) (c : PlainCore) → Each (InitAt n) is → (C own K J P lives first) n c → (C own K J P lives first) n (with_inits is c)
  with-inits-holds n [] c h k = k
  with-inits-holds n (i ∷ is) c h k = (inits-hold n (i ∷ is) h, k)

  body-core-holds : (n : ℕ) (xs : List Line) → Each (LineAt n) xs → (C own K J P lives first) n (body_core xs)
  body-core-holds n xs h = with-inits-holds n (inits_in xs) (sequence_of (values_in xs)) (inits-in-hold n xs h) (sequence-holds n (values_in xs) (values-in-hold n xs h))

  -- with a name taken
  abbrev pub counted : State → State
  counted s = record s { names = record { library = s.names.library; number = s.names.number + 1 } }

  one-more : (s : State) → s.names.number ≤ (counted s).names.number
  one-more s = omega arith

  -- trees, and a frame that is stamped on them
  abbrev InFrame : FrameNo → ℕ → Tree → Type 0
  InFrame f n t = (T own K J P lives first) n t × J n f

  in-frame-up : (f : FrameNo) (m n : ℕ) → m ≤ n → (t : Tree) → InFrame f m t → InFrame f n t
  in-frame-up f m n le t h = ((tree-up own K J P lives first) m n le t h.0, lives.frames m n f le h.1)

  all-in-frame : (f : FrameNo) (n : ℕ) (ts : List Tree) → (Ts own K J P lives first) n ts → J n f → Each (InFrame f n) ts
  all-in-frame f n ts h k = each-implied ((T own K J P lives first) n) (InFrame f n) (λ t j. (j, k)) ts h

  abbrev pub BoundIn : FrameNo → ℕ → BoundSpec → Type 0
  BoundIn f n b = (BoundHolds own K J P lives first) n b × J n f

  pub bound-in-up : (f : FrameNo) (m n : ℕ) → m ≤ n → (b : BoundSpec) → BoundIn f m b → BoundIn f n b
  bound-in-up f m n le b h = ((bound-up own K J P lives first) m n le b h.0, lives.frames m n f le h.1)

  pub all-bound-in : (f : FrameNo) (n : ℕ) (bs : List BoundSpec) → Each ((BoundHolds own K J P lives first) n) bs → J n f → Each (BoundIn f n) bs
  all-bound-in f n bs h k = each-implied ((BoundHolds own K J P lives first) n) (BoundIn f n) (λ b j. (j, k)) bs h

  module _ (go : Inside) (keeps : KeepsFresh go) where
    -- Bodies.

    pub splice-holds : (at : BodyAt) (depth : ℕ) (d : Taken) (forms : List Tree) (s : State) → (F own K J P lives first) s → (TakenAt own K J P lives first) s.names.number d → (Ts own K J P lives first) s.names.number forms → J s.names.number at.frame → (Gave own K J P lives first) (TakenAt own K J P lives first) s (splice go at depth d forms s)
    splice-holds at depth d forms s h k g q =
        (gave-gather own K J P lives first) (InFrame at.frame) (TakenAt own K J P lives first) (in-frame-up at.frame) (go.item at depth) (λ e x t i j y. keeps.item at depth e x t i j y.0 y.1) d forms s h k (all-in-frame at.frame s.names.number forms g q)

    value-holds : (place : Span) (level depth : ℕ) (o : Option Tree) (s : State) → (F own K J P lives first) s → OptionHolds ((T own K J P lives first) s.names.number) o → (Gave own K J P lives first) (C own K J P lives first) s (value_of go (site_at place level depth) o s)
    value-holds place level depth None s h k = ((state-self own K J P lives first) s h, (tt, tt))
    value-holds place level depth (Some t) s h k = keeps.form place level depth t s h k

    pub line-holds : (level : ℕ) (place : Span) (depth : ℕ) (w : Waits) (s : State) → (F own K J P lives first) s → (WaitsAt own K J P lives first) s.names.number w → (Gave own K J P lives first) LineAt s (finish_as go (site_at place level depth) w s)
    unfolding finish_as fresh
    line-holds level place depth (waits.Variable l value) s h k =
        (gave-after own K J P lives first) (C own K J P lives first) LineAt s (value_of go (site_at place level (deeper depth)) value s) (λ c. give (line.Define l c)) (value-holds place level (deeper depth) value s h k) (λ c t i y. ((state-self own K J P lives first) t ((state-then own K J P lives first) s t h i), y))
    line-holds level place depth (waits.Procedure l t ids forms) s h k =
        let u = counted s in
        let i = (counted-holds own K J P lives first) s h in
        (gave-from own K J P lives first) LineAt s u (after (go.procedure (site_at place level (deeper depth)) (procedure_parts t ids forms) u) (λ c. give (line.Define l (procedure (record { 0 = s.names }) (cases (c ∷ [])) true)))) i
        ((gave-after own K J P lives first) CaseAt LineAt u (go.procedure (site_at place level (deeper depth)) (procedure_parts t ids forms) u) (λ c. give (line.Define l (procedure (record { 0 = s.names }) (cases (c ∷ [])) true)))
        (keeps.procedure place level (deeper depth) t ids forms u ((state-then own K J P lives first) s u h i) ((formals-up own K J P lives first) s.names.number (s.names.number + 1) (one-more s) ids k.1.0) ((trees-up own K J P lives first) s.names.number (s.names.number + 1) (one-more s) forms k.1.1))
        (λ c v j y. ((state-self own K J P lives first) v ((state-then own K J P lives first) u v ((state-then own K J P lives first) s u h i) j), (y, tt))))
    line-holds level place depth (waits.Expression t) s h k =
        (gave-after own K J P lives first) (C own K J P lives first) LineAt s (go.form (site_at place level depth) t s) (λ c. give (line.Expr c)) (keeps.form place level depth t s h k) (λ c u i y. ((state-self own K J P lives first) u ((state-then own K J P lives first) s u h i), y))

    pub lines-hold : (level : ℕ) (ws : List Waiting) (s : State) → (F own K J P lives first) s → Each ((WaitingAt own K J P lives first) s.names.number) ws → (Gave own K J P lives first) (λ n xs. Each (LineAt n) xs) s (finish_all go level ws s)
    lines-hold level ws s h k =
        (gave-each own K J P lives first) (WaitingAt own K J P lives first) LineAt (λ m n le w j. ((waiting-up own K J P lives first) m n le (w ∷ []) (j, tt)).0) line-up (finish_one go level) (λ w t i j. line-holds level w.place w.depth w.what t i j) [] ws s h tt k

    finish-holds : (place : Span) (level : ℕ) (t : Tree) (d : Taken) (s : State) → (F own K J P lives first) s → (TakenAt own K J P lives first) s.names.number d → (Gave own K J P lives first) (C own K J P lives first) s (finish go place level t d s)
    unfolding finish
    finish-holds place level t d s h k =
        (gave-if own K J P lives first) (C own K J P lives first) s d.has_expression (after (finish_all go level d.waiting s) (λ ls. give (body_core ls))) _
        ((gave-after own K J P lives first) (λ n xs. Each (LineAt n) xs) (C own K J P lives first) s (finish_all go level d.waiting s) (λ ls. give (body_core ls)) (lines-hold level d.waiting s h k) (λ xs u i y. ((state-self own K J P lives first) u ((state-then own K J P lives first) s u h i), body-core-holds u.names.number xs y))) tt

    pub body-holds : (place : Span) (level depth : ℕ) (t : Tree) (forms : List Tree) (s : State) → (F own K J P lives first) s → (Ts own K J P lives first) s.names.number forms → (Gave own K J P lives first) (C own K J P lives first) s (body go (site_at place level depth) t forms s)
    unfolding body fresh_frame
    body-holds place level depth t forms s h k =
        let f : FrameNo = record { 0 = s.names } in
        let u = counted s in
        let i = (counted-holds own K J P lives first) s h in
        (gave-within own K J P lives first) (C own K J P lives first) (λ v. after (fresh_frame v) (body_in go (site_at place level depth) t forms)) s
        ((gave-from own K J P lives first) (C own K J P lives first) s u (body_in go (site_at place level depth) t forms f u) i
        ((gave-after own K J P lives first) (TakenAt own K J P lives first) (C own K J P lives first) u (splice go (lambda_at f place level) depth begun (map (stamp f) forms) u) (finish go place level t)
        (splice-holds (lambda_at f place level) depth begun (map (stamp f) forms) u ((state-then own K J P lives first) s u h i) tt (stamps-hold own K J P lives (s.names.number + 1) f forms ((frame-made own K J P lives first) s h) ((trees-up own K J P lives first) s.names.number (s.names.number + 1) (one-more s) forms k)) ((frame-made own K J P lives first) s h))
        (λ d v j y. finish-holds place level t d v ((state-then own K J P lives first) u v ((state-then own K J P lives first) s u h i) j) y)))

    -- Procedures.

    case-in-holds : (place : Span) (level depth : ℕ) (t : Tree) (ids : FormalIds) (forms : List Tree) (f : FrameNo) (s : State) → (F own K J P lives first) s → J s.names.number f → FormalsHold (P s.names.number) ids → (Ts own K J P lives first) s.names.number forms → (Gave own K J P lives first) CaseAt s (case_in go (site_at place level depth) (procedure_parts t ids forms) f s)
    case-in-holds place level depth t ids forms f s h q k g =
        (gave-after own K J P lives first) (Any) CaseAt s (bind_formals f place level ids s) _ ((bind-formals-holds own K J P lives first) f place level ids s h k)
        (λ formals u i y. (gave-after own K J P lives first) (C own K J P lives first) CaseAt u (body go (site_at place level depth) t (map (stamp f) forms) u) (λ c. give (record { formals = formals; body = c }))
        (body-holds place level depth t (map (stamp f) forms) u ((state-then own K J P lives first) s u h i) (stamps-hold own K J P lives u.names.number f forms (lives.frames s.names.number u.names.number f i.stage.up q) ((trees-up own K J P lives first) s.names.number u.names.number i.stage.up forms g)))
        (λ c v j z. ((state-self own K J P lives first) v ((state-then own K J P lives first) u v ((state-then own K J P lives first) s u h i) j), z)))

    pub case-holds : (place : Span) (level depth : ℕ) (t : Tree) (ids : FormalIds) (forms : List Tree) (s : State) → (F own K J P lives first) s → FormalsHold (P s.names.number) ids → (Ts own K J P lives first) s.names.number forms → (Gave own K J P lives first) CaseAt s (lambda_case go (site_at place level depth) (procedure_parts t ids forms) s)
    unfolding lambda_case fresh_frame
    case-holds place level depth t ids forms s h k g =
        let f : FrameNo = record { 0 = s.names } in
        let u = counted s in
        let i = (counted-holds own K J P lives first) s h in
        (gave-within own K J P lives first) CaseAt (λ v. after (fresh_frame v) (case_in go (site_at place level depth) (procedure_parts t ids forms))) s
        ((gave-from own K J P lives first) CaseAt s u (case_in go (site_at place level depth) (procedure_parts t ids forms) f u) i
        (case-in-holds place level depth t ids forms f u ((state-then own K J P lives first) s u h i) ((frame-made own K J P lives first) s h) ((formals-up own K J P lives first) s.names.number (s.names.number + 1) (one-more s) ids k) ((trees-up own K J P lives first) s.names.number (s.names.number + 1) (one-more s) forms g)))

    pub lambda-holds : (place : Span) (level depth : ℕ) (t : Tree) (ids : FormalIds) (forms : List Tree) (s : State) → (F own K J P lives first) s → FormalsHold (P s.names.number) ids → (Ts own K J P lives first) s.names.number forms → (Gave own K J P lives first) (C own K J P lives first) s (lambda go (site_at place level depth) (procedure_parts t ids forms) s)
    unfolding lambda fresh
    lambda-holds place level depth t ids forms s h k g =
        let u = counted s in
        let i = (counted-holds own K J P lives first) s h in
        (gave-from own K J P lives first) (C own K J P lives first) s u (after (lambda_case go (site_at place level depth) (procedure_parts t ids forms) u) (λ c. give (procedure (record { 0 = s.names }) (cases (c ∷ [])) true))) i
        ((gave-after own K J P lives first) CaseAt (C own K J P lives first) u (lambda_case go (site_at place level depth) (procedure_parts t ids forms) u) (λ c. give (procedure (record { 0 = s.names }) (cases (c ∷ [])) true))
        (case-holds place level depth t ids forms u ((state-then own K J P lives first) s u h i) ((formals-up own K J P lives first) s.names.number (s.names.number + 1) (one-more s) ids k) ((trees-up own K J P lives first) s.names.number (s.names.number + 1) (one-more s) forms g))
        (λ c v j y. ((state-self own K J P lives first) v ((state-then own K J P lives first) u v ((state-then own K J P lives first) s u h i) j), (y, tt))))

    abbrev LambdaAt : ℕ → LambdaCase → Type 0
    LambdaAt n c = LambdaHolds (P n) c

    lambda-up : (m n : ℕ) → m ≤ n → (c : LambdaCase) → LambdaAt m c → LambdaAt n c
    lambda-up m n le c h = ((formals-up own K J P lives first) m n le c.formals h.0, (trees-up own K J P lives first) m n le c.body h.1)

    pub case-lambda-holds : (place : Span) (level depth : ℕ) (t : Tree) (cs : List LambdaCase) (s : State) → (F own K J P lives first) s → Each (LambdaAt s.names.number) cs → (Gave own K J P lives first) (C own K J P lives first) s (case_lambda go (site_at place level depth) t cs s)
    unfolding case_lambda fresh
    case-lambda-holds place level depth t cs s h k =
        let u = counted s in
        let i = (counted-holds own K J P lives first) s h in
        (gave-from own K J P lives first) (C own K J P lives first) s u (after (all_cases go (site_at place level depth) t cs u) (λ xs. give (procedure (record { 0 = s.names }) (cases xs) false))) i
        ((gave-after own K J P lives first) (λ n xs. Each (CaseAt n) xs) (C own K J P lives first) u (all_cases go (site_at place level depth) t cs u) (λ xs. give (procedure (record { 0 = s.names }) (cases xs) false))
        ((gave-each own K J P lives first) LambdaAt CaseAt lambda-up (λ m n le c j. (core-up own K J P lives first) m n le c.body j) (one_case go (site_at place level depth) t) (λ c v j y. case-holds place level depth t c.formals c.body v j y.0 y.1) [] cs u ((state-then own K J P lives first) s u h i) tt
        (each-implied (LambdaAt s.names.number) (LambdaAt (s.names.number + 1)) (lambda-up s.names.number (s.names.number + 1) (one-more s)) cs k))
        (λ xs v j y. ((state-self own K J P lives first) v ((state-then own K J P lives first) u v ((state-then own K J P lives first) s u h i) j), cases-hold v.names.number xs y)))

    -- `letrec` and `letrec*`.

    pub init-holds : (place : Span) (level depth : ℕ) (f : FrameNo) (b : BoundSpec) (s : State) → (F own K J P lives first) s → BoundIn f s.names.number b → (Gave own K J P lives first) InitAt s (one_init go (site_at place level depth) f b s)
    unfolding one_init
    init-holds place level depth f b s h k =
        (gave-after own K J P lives first) (C own K J P lives first) InitAt s (go.form (site_at place level depth) (stamp f b.init) s) (λ c. give (record { label = b.label; value = c })) (keeps.form place level depth (stamp f b.init) s h (stamp-holds own K J P lives s.names.number f b.init k.1 k.0))
        (λ c u i y. ((state-self own K J P lives first) u ((state-then own K J P lives first) s u h i), y))

    letrec-in-holds : (place : Span) (level depth : ℕ) (t : Tree) (star : Bool) (bs : List BindingSpec) (forms : List Tree) (f : FrameNo) (s : State) → (F own K J P lives first) s → J s.names.number f → Each ((SpecAt own K J P lives first) s.names.number) bs → (Ts own K J P lives first) s.names.number forms
        → (Gave own K J P lives first) (C own K J P lives first) s (letrec_in go (site_at place level depth) (letrec_parts t star bs forms) f s)
    letrec-in-holds place level depth t star bs forms f s h q k g =
        (gave-after own K J P lives first) (λ n xs. Each ((BoundHolds own K J P lives first) n) xs) (C own K J P lives first) s (bind_specs f place level bs s) _ ((bind-specs-holds own K J P lives first) f place level bs s h k)
        (λ ls u i y. let hu = (state-then own K J P lives first) s u h i in
        (gave-after own K J P lives first) (λ n is. Each (InitAt n) is) (C own K J P lives first) u (all_inits go (site_at place level depth) f ls u) _
        ((gave-each own K J P lives first) (BoundIn f) InitAt (bound-in-up f) (λ m n le j z. (core-up own K J P lives first) m n le j.value z) (one_init go (site_at place level depth) f) (λ b v j z. init-holds place level depth f b v j z) [] ls u hu tt
        (all-bound-in f u.names.number ls y (lives.frames s.names.number u.names.number f i.stage.up q)))
        (λ is v j z. let hv = (state-then own K J P lives first) u v hu j in
        (gave-after own K J P lives first) (C own K J P lives first) (C own K J P lives first) v (body go (site_at place level depth) t (map (stamp f) forms) v) (λ c. give (letrec star (inits is) c))
        (body-holds place level depth t (map (stamp f) forms) v hv (stamps-hold own K J P lives v.names.number f forms (lives.frames s.names.number v.names.number f (omega (arith, i.stage.up, j.stage.up)) q) ((trees-up own K J P lives first) s.names.number v.names.number (omega (arith, i.stage.up, j.stage.up)) forms g)))
        (λ c w x q. ((state-self own K J P lives first) w ((state-then own K J P lives first) v w hv x), (inits-hold w.names.number is (each-implied (InitAt v.names.number) (InitAt w.names.number) (λ e z. (core-up own K J P lives first) v.names.number w.names.number x.stage.up e.value z) is z), q)))))

    pub letrec-holds : (place : Span) (level depth : ℕ) (t : Tree) (star : Bool) (bs : List BindingSpec) (forms : List Tree) (s : State) → (F own K J P lives first) s → Each ((SpecAt own K J P lives first) s.names.number) bs → (Ts own K J P lives first) s.names.number forms
        → (Gave own K J P lives first) (C own K J P lives first) s (letrec_form go (site_at place level depth) (letrec_parts t star bs forms) s)
    unfolding letrec_form fresh_frame
    letrec-holds place level depth t star bs forms s h k g =
        let f : FrameNo = record { 0 = s.names } in
        let u = counted s in
        let i = (counted-holds own K J P lives first) s h in
        (gave-within own K J P lives first) (C own K J P lives first) (λ v. after (fresh_frame v) (letrec_in go (site_at place level depth) (letrec_parts t star bs forms))) s
        ((gave-from own K J P lives first) (C own K J P lives first) s u (letrec_in go (site_at place level depth) (letrec_parts t star bs forms) f u) i
        (letrec-in-holds place level depth t star bs forms f u ((state-then own K J P lives first) s u h i) ((frame-made own K J P lives first) s h) (each-implied ((SpecAt own K J P lives first) s.names.number) ((SpecAt own K J P lives first) (s.names.number + 1)) ((spec-up own K J P lives first) s.names.number (s.names.number + 1) (one-more s)) bs k)
        ((trees-up own K J P lives first) s.names.number (s.names.number + 1) (one-more s) forms g)))

    -- Calls, branches, assignments, sequences.

    order-holds : (place : Span) (level depth : ℕ) (forms : List Tree) (s : State) → (F own K J P lives first) s → (Ts own K J P lives first) s.names.number forms → (Gave own K J P lives first) Cs s (in_order go (site_at place level depth) forms s)
    order-holds place level depth forms s h k = (gave-each own K J P lives first) (T own K J P lives first) (C own K J P lives first) (tree-up own K J P lives first) (core-up own K J P lives first) (go.form (site_at place level depth)) (λ t u i j. keeps.form place level depth t u i j) [] forms s h tt k

    pub application-holds : (place : Span) (level depth : ℕ) (operator : Tree) (operands : List Tree) (s : State) → (F own K J P lives first) s → (T own K J P lives first) s.names.number operator → (Ts own K J P lives first) s.names.number operands → (Gave own K J P lives first) (C own K J P lives first) s (application go (site_at place level depth) operator operands s)
    unfolding application
    application-holds place level depth operator operands s h k g =
        (gave-after own K J P lives first) (C own K J P lives first) (C own K J P lives first) s (go.form (site_at place level depth) operator s) _ (keeps.form place level depth operator s h k)
        (λ c u i y. (gave-after own K J P lives first) Cs (C own K J P lives first) u (in_order go (site_at place level depth) operands u) (λ cs. give (call c (cores cs)))
        (order-holds place level depth operands u ((state-then own K J P lives first) s u h i) ((trees-up own K J P lives first) s.names.number u.names.number i.stage.up operands g))
        (λ cs v j z. ((state-self own K J P lives first) v ((state-then own K J P lives first) u v ((state-then own K J P lives first) s u h i) j), ((core-up own K J P lives first) u.names.number v.names.number j.stage.up c y, cores-hold v.names.number cs z))))

    alternate-holds : (place : Span) (level depth : ℕ) (c d : PlainCore) (o : Option Tree) (s : State) → (F own K J P lives first) s → (C own K J P lives first) s.names.number c → (C own K J P lives first) s.names.number d → OptionHolds ((T own K J P lives first) s.names.number) o → (Gave own K J P lives first) (C own K J P lives first) s (alternate go (site_at place level depth) c d o s)
    alternate-holds place level depth c d None s h k g j = ((state-self own K J P lives first) s h, (k, g))
    alternate-holds place level depth c d (Some t) s h k g j =
        (gave-after own K J P lives first) (C own K J P lives first) (C own K J P lives first) s (go.form (site_at place level depth) t s) (λ e. give (two_armed c d e)) (keeps.form place level depth t s h j)
        (λ e u i y. ((state-self own K J P lives first) u ((state-then own K J P lives first) s u h i), ((core-up own K J P lives first) s.names.number u.names.number i.stage.up c k, ((core-up own K J P lives first) s.names.number u.names.number i.stage.up d g, y))))

    pub conditional-holds : (place : Span) (level depth : ℕ) (test consequent : Tree) (other : Option Tree) (s : State) → (F own K J P lives first) s → (T own K J P lives first) s.names.number test → (T own K J P lives first) s.names.number consequent → OptionHolds ((T own K J P lives first) s.names.number) other
        → (Gave own K J P lives first) (C own K J P lives first) s (conditional go (site_at place level depth) (if_parts test consequent other) s)
    unfolding conditional
    conditional-holds place level depth test consequent other s h k g q =
        (gave-after own K J P lives first) (C own K J P lives first) (C own K J P lives first) s (go.form (site_at place level depth) test s) _ (keeps.form place level depth test s h k)
        (λ c u i y. let hu = (state-then own K J P lives first) s u h i in
        (gave-after own K J P lives first) (C own K J P lives first) (C own K J P lives first) u (go.form (site_at place level depth) consequent u) (λ d. alternate go (site_at place level depth) c d other) (keeps.form place level depth consequent u hu ((tree-up own K J P lives first) s.names.number u.names.number i.stage.up consequent g))
        (λ d v j z. alternate-holds place level depth c d other v ((state-then own K J P lives first) u v hu j) ((core-up own K J P lives first) u.names.number v.names.number j.stage.up c y) z ((option-up own K J P lives first) s.names.number v.names.number (omega (arith, i.stage.up, j.stage.up)) other q)))

    pub set-holds : (place : Span) (level depth : ℕ) (l : Label) (value : Tree) (s : State) → (F own K J P lives first) s → (T own K J P lives first) s.names.number value → (Gave own K J P lives first) (C own K J P lives first) s (set go (site_at place level depth) l value s)
    unfolding set
    set-holds place level depth l value s h k = (gave-after own K J P lives first) (C own K J P lives first) (C own K J P lives first) s (go.form (site_at place level depth) value s) (λ c. give (assignment l c)) (keeps.form place level depth value s h k) (λ c u i y. ((state-self own K J P lives first) u ((state-then own K J P lives first) s u h i), y))

    pub in-sequence-holds : (place : Span) (level depth : ℕ) (forms : List Tree) (s : State) → (F own K J P lives first) s → (Ts own K J P lives first) s.names.number forms → (Gave own K J P lives first) (C own K J P lives first) s (in_sequence go (site_at place level depth) forms s)
    unfolding in_sequence
    in-sequence-holds place level depth forms s h k = (gave-after own K J P lives first) Cs (C own K J P lives first) s (in_order go (site_at place level depth) forms s) (λ cs. give (sequence_of cs)) (order-holds place level depth forms s h k) (λ cs u i y. ((state-self own K J P lives first) u ((state-then own K J P lives first) s u h i), sequence-holds u.names.number cs y))

    -- `syntax-case`.

    fender-holds : (place : Span) (level depth : ℕ) (f : FrameNo) (o : Option Tree) (s : State) → (F own K J P lives first) s → J s.names.number f → OptionHolds ((T own K J P lives first) s.names.number) o → (Gave own K J P lives first) (λ n x. OptionHolds ((C own K J P lives first) n) x) s (fender go (site_at place level depth) f o s)
    fender-holds place level depth f None s h q k = ((state-self own K J P lives first) s h, tt)
    fender-holds place level depth f (Some t) s h q k =
        (gave-after own K J P lives first) (C own K J P lives first) (λ n x. OptionHolds ((C own K J P lives first) n) x) s (go.form (site_at place level depth) (stamp f t) s) (λ c. give (Some c)) (keeps.form place level depth (stamp f t) s h (stamp-holds own K J P lives s.names.number f t q k)) (λ c u i y. ((state-self own K J P lives first) u ((state-then own K J P lives first) s u h i), y))

    core-option-up : (m n : ℕ) → m ≤ n → (o : Option PlainCore) → OptionHolds ((C own K J P lives first) m) o → OptionHolds ((C own K J P lives first) n) o
    core-option-up m n le None h = tt
    core-option-up m n le (Some c) h = (core-up own K J P lives first) m n le c h

    clause-in-holds : (place : Span) (level depth : ℕ) (literals : List Tree) (c : PatternCase) (f : FrameNo) (s : State) → (F own K J P lives first) s → J s.names.number f → PatternCaseHolds (P s.names.number) c → (Gave own K J P lives first) ClauseAt s (clause_in go (site_at place level depth) literals c f s)
    clause-in-holds place level depth literals c f s h r k =
        (gave-after own K J P lives first) (CompiledHolds own K J P lives first) ClauseAt s (pattern_of literals place c.pattern s) _ ((pattern-holds own K J P lives first) literals place c.pattern s h k.0)
        (λ p t i y. let ht = (state-then own K J P lives first) s t h i in
        (gave-after own K J P lives first) Any ClauseAt t (bind_pattern f place level p.variables t) _ ((bind-pattern-holds own K J P lives first) f place level p.variables t ht y.1)
        (λ x u j z. let hu = (state-then own K J P lives first) t u ht j in
        (gave-after own K J P lives first) (λ n o. OptionHolds ((C own K J P lives first) n) o) ClauseAt u (fender go (site_at place level depth) f c.fender u) _ (fender-holds place level depth f c.fender u hu (lives.frames s.names.number u.names.number f (omega (arith, i.stage.up, j.stage.up)) r) ((option-up own K J P lives first) s.names.number u.names.number (omega (arith, i.stage.up, j.stage.up)) c.fender k.1.0))
        (λ e v q a. let hv = (state-then own K J P lives first) u v hu q in
        (gave-after own K J P lives first) (C own K J P lives first) ClauseAt v (go.form (site_at place level depth) (stamp f c.output) v) (λ o. give (record { pattern = p.pattern; fender = e; output = o }))
        (keeps.form place level depth (stamp f c.output) v hv (stamp-holds own K J P lives v.names.number f c.output (lives.frames s.names.number v.names.number f (omega (arith, i.stage.up, j.stage.up, q.stage.up)) r) ((tree-up own K J P lives first) s.names.number v.names.number (omega (arith, i.stage.up, j.stage.up, q.stage.up)) c.output k.1.1)))
        (λ o w b d. (
          (state-self own K J P lives first) w ((state-then own K J P lives first) v w hv b),
          (pattern_wider (P t.names.number) (P w.names.number) ((up own K J P lives first) t.names.number w.names.number (omega (arith, j.stage.up, q.stage.up, b.stage.up))) p.pattern y.0, (core-option-up v.names.number w.names.number b.stage.up e a, d)),
        )))))

    abbrev pub PatternCaseAt : ℕ → PatternCase → Type 0
    PatternCaseAt n c = PatternCaseHolds (P n) c

    pub pattern-case-up : (m n : ℕ) → m ≤ n → (c : PatternCase) → PatternCaseAt m c → PatternCaseAt n c
    pattern-case-up m n le c h = ((tree-up own K J P lives first) m n le c.pattern h.0, ((option-up own K J P lives first) m n le c.fender h.1.0, (tree-up own K J P lives first) m n le c.output h.1.1))

    clause-up : (m n : ℕ) → m ≤ n → (c : Clause) → ClauseAt m c → ClauseAt n c
    clause-up m n le c h = (pattern_wider (P m) (P n) ((up own K J P lives first) m n le) c.pattern h.0, (core-option-up m n le c.fender h.1.0, (core-up own K J P lives first) m n le c.output h.1.1))

    pub clause-holds : (place : Span) (level depth : ℕ) (literals : List Tree) (c : PatternCase) (s : State) → (F own K J P lives first) s → PatternCaseAt s.names.number c → (Gave own K J P lives first) ClauseAt s (pattern_clause go (site_at place level depth) literals c s)
    unfolding pattern_clause fresh_frame
    clause-holds place level depth literals c s h k =
        let f : FrameNo = record { 0 = s.names } in
        let u = counted s in
        let i = (counted-holds own K J P lives first) s h in
        (gave-within own K J P lives first) ClauseAt (λ v. after (fresh_frame v) (clause_in go (site_at place level depth) literals c)) s
        ((gave-from own K J P lives first) ClauseAt s u (clause_in go (site_at place level depth) literals c f u) i (clause-in-holds place level depth literals c f u ((state-then own K J P lives first) s u h i) ((frame-made own K J P lives first) s h) (pattern-case-up s.names.number (s.names.number + 1) (one-more s) c k)))

    pub syntax-case-holds : (place : Span) (level depth : ℕ) (subject : Tree) (literals : List Tree) (cs : List PatternCase) (span : Span) (s : State) → (F own K J P lives first) s → (T own K J P lives first) s.names.number subject → Each (PatternCaseAt s.names.number) cs
        → (Gave own K J P lives first) (C own K J P lives first) s (syntax_case go (site_at place level depth) (syntax_case_parts subject literals cs span) s)
    unfolding syntax_case
    syntax-case-holds place level depth subject literals cs span s h k g =
        (gave-after own K J P lives first) (C own K J P lives first) (C own K J P lives first) s (go.form (site_at place level depth) subject s) _ (keeps.form place level depth subject s h k)
        (λ c t i y. let ht = (state-then own K J P lives first) s t h i in
        (gave-after own K J P lives first) Any (C own K J P lives first) t (check_literals place literals t) _ ((literals-hold own K J P lives first) literals place t ht)
        (λ x u j z. let hu = (state-then own K J P lives first) t u ht j in
        (gave-after own K J P lives first) (λ n xs. Each (ClauseAt n) xs) (C own K J P lives first) u (all_clauses go (site_at place level depth) literals cs u) (λ xs. give (matching c (clauses xs) span))
        ((gave-each own K J P lives first) PatternCaseAt ClauseAt pattern-case-up clause-up (pattern_clause go (site_at place level depth) literals) (λ e v q a. clause-holds place level depth literals e v q a) [] cs u hu tt
        (each-implied (PatternCaseAt s.names.number) (PatternCaseAt u.names.number) (pattern-case-up s.names.number u.names.number (omega (arith, i.stage.up, j.stage.up))) cs g))
        (λ xs v q a. ((state-self own K J P lives first) v ((state-then own K J P lives first) u v hu q), ((core-up own K J P lives first) t.names.number v.names.number (omega (arith, j.stage.up, q.stage.up)) c y, clauses-hold v.names.number xs a)))))

    -- Keywords.

    pub keyword-holds : (place : Span) (level depth : ℕ) (b : BoundSpec) (s : State) → (F own K J P lives first) s → (BoundHolds own K J P lives first) s.names.number b → (Gave own K J P lives first) Any s (expand_transformer go (site_at place level depth) b s)
    unfolding expand_transformer
    keyword-holds place level depth b s h k =
        let z : State = record s { scope = [] } in
        (gave-after own K J P lives first) (C own K J P lives first) Any s (apart (go.form (site_at place (level + 1) depth) b.init) s) (evaluate_transformer go.earlier (place_of b.init place) b.label)
        ((gave-apart own K J P lives first) (C own K J P lives first) (go.form (site_at place (level + 1) depth) b.init) s (keeps.form place (level + 1) depth b.init z (record { stage = h.stage; bindings = h.bindings }) k))
        (λ c u i y. (finish-keyword-holds own K J P lives first) go.earlier keeps.records (place_of b.init place) b.label c u ((state-then own K J P lives first) s u h i) y)

    seen-holds : (recursive : Bool) (f : FrameNo) (b : BoundSpec) (n : ℕ) → BoundIn f n b → (BoundHolds own K J P lives first) n (seen_in recursive f b)
    seen-holds true f b n h = stamp-holds own K J P lives n f b.init h.1 h.0
    seen-holds false f b n h = h.0

    keywords-hold : (place : Span) (level depth : ℕ) (recursive : Bool) (bs : List BindingSpec) (f : FrameNo) (s : State) → (F own K J P lives first) s → J s.names.number f → Each ((SpecAt own K J P lives first) s.names.number) bs → (Gave own K J P lives first) Any s (keywords go (site_at place level depth) recursive bs f s)
    unfolding keywords
    keywords-hold place level depth recursive bs f s h q k =
        (gave-after own K J P lives first) (λ n xs. Each ((BoundHolds own K J P lives first) n) xs) Any s (bind_keywords f place level bs s) (expand_transformers go (site_at place level depth) recursive f) ((bind-keywords-holds own K J P lives first) f place level bs s h k)
        (λ xs u i y. (gave-gather own K J P lives first) (BoundIn f) (Any) (bound-in-up f) (expand_transformer_in go (site_at place level depth) recursive f) (λ d b t j w z. keyword-holds place level depth (seen_in recursive f b) t j (seen-holds recursive f b t.names.number z)) tt xs u ((state-then own K J P lives first) s u h i) tt
        (all-bound-in f u.names.number xs y (lives.frames s.names.number u.names.number f i.stage.up q)))

    pub with-keywords-holds : (place : Span) (level depth : ℕ) (recursive : Bool) (bs : List BindingSpec) (forms : List Tree) (s : State) → (F own K J P lives first) s → Each ((SpecAt own K J P lives first) s.names.number) bs → (Ts own K J P lives first) s.names.number forms
        → (Gave own K J P lives first) (Ts own K J P lives first) s (with_keywords go (site_at place level depth) (let_syntax_parts recursive bs forms) s)
    unfolding fresh_frame
    with-keywords-holds place level depth recursive bs forms s h k g =
        let f : FrameNo = record { 0 = s.names } in
        let u = counted s in
        let i = (counted-holds own K J P lives first) s h in
        (gave-from own K J P lives first) (Ts own K J P lives first) s u (after (keywords go (site_at place level depth) recursive bs f u) (λ _. give (map (stamp f) forms))) i
        ((gave-after own K J P lives first) Any (Ts own K J P lives first) u (keywords go (site_at place level depth) recursive bs f u) (λ _. give (map (stamp f) forms))
        (keywords-hold place level depth recursive bs f u ((state-then own K J P lives first) s u h i) ((frame-made own K J P lives first) s h) (each-implied ((SpecAt own K J P lives first) s.names.number) ((SpecAt own K J P lives first) (s.names.number + 1)) ((spec-up own K J P lives first) s.names.number (s.names.number + 1) (one-more s)) bs k))
        (λ x v j y. ((state-self own K J P lives first) v ((state-then own K J P lives first) u v ((state-then own K J P lives first) s u h i) j), stamps-hold own K J P lives v.names.number f forms (lives.frames (s.names.number + 1) v.names.number f j.stage.up ((frame-made own K J P lives first) s h)) ((trees-up own K J P lives first) s.names.number v.names.number (omega (arith, one-more s, j.stage.up)) forms g))))

    pub keywords-form-holds : (place : Span) (level depth : ℕ) (recursive : Bool) (bs : List BindingSpec) (forms : List Tree) (s : State) → (F own K J P lives first) s → Each ((SpecAt own K J P lives first) s.names.number) bs → (Ts own K J P lives first) s.names.number forms
        → (Gave own K J P lives first) (C own K J P lives first) s (keywords_form go (site_at place level depth) (let_syntax_parts recursive bs forms) s)
    unfolding keywords_form
    keywords-form-holds place level depth recursive bs forms s h k g =
        (gave-after own K J P lives first) (Ts own K J P lives first) (C own K J P lives first) s (with_keywords go (site_at place level depth) (let_syntax_parts recursive bs forms) s) (in_sequence go (site_at place level depth)) (with-keywords-holds place level depth recursive bs forms s h k g)
        (λ xs u i y. in-sequence-holds place level depth xs u ((state-then own K J P lives first) s u h i) y)
