-- Core forms keep an invariant, whatever keeps it inside.
use Rattle.std.proofs.Common.{◌+◌, ℕ, Bool, true, false, List, [], ◌∷◌, map, Option, None, Some}
use Rattle.base_data.specs.Elements.{Each}
use Rattle.base_data.specs.declared.atom.Atom.TheVariants as a
use Rattle.base_data.specs.Act.{after, give}
use Rattle.base_data.specs.declared.name.FrameNo.{FrameNo}
use Rattle.base_data.specs.declared.name.Label.{Label}
use Rattle.base_data.specs.declared.span.Span.{Span}
use Rattle.stx_tree.specs.Changes.{stamp}
use Rattle.stx_tree.specs.Tree as tree
use Rattle.stx_tree.specs.Tree.{Tree}
use Rattle.stx_tree.specs.declared.change.Change.TheVariants as change
use Rattle.core_language.specs.Core.{PlainCore, two_armed, assignment, procedure, letrec, call, matching, cores}
use Rattle.core_language.specs.CoreView.{inits, cases, clauses}
use Rattle.core_language.specs.declared.code.Clause.{Clause}
use Rattle.core_language.specs.declared.code.Init.{Init}
use Rattle.core_language.specs.declared.code.Lambda.{Lambda}
use Rattle.core_language.specs.declared.record.Line.{Line}
use Rattle.core_language.specs.declared.record.Line.TheVariants as line
use Rattle.core_shapes.specs.At.{place_of}
use Rattle.core_shapes.specs.declared.shape.BindingSpec.{BindingSpec}
use Rattle.core_shapes.specs.declared.shape.FormalIds.{FormalIds}
use Rattle.core_shapes.specs.declared.shape.LambdaCase.{LambdaCase}
use Rattle.core_shapes.specs.declared.shape.PatternCase.{PatternCase}
use Rattle.expand_standing.specs.Binders.{bind_formals, bind_specs}
use Rattle.expand_standing.specs.InScope.{apart}
use Rattle.expand_standing.specs.Patterns.{pattern_of, check_literals, bind_pattern}
use Rattle.expand_standing.specs.State.{State, fresh, fresh_frame}
use Rattle.expand_standing.specs.Uses.{bind_keywords, evaluate_transformer}
use Rattle.expand_standing.specs.declared.binders.BoundSpec.{BoundSpec}
use Rattle.expand_heads.specs.Depth.{deeper}
use Rattle.expand_heads.specs.Items.{begun}
use Rattle.expand_heads.specs.declared.taken.BodyAt.{BodyAt}
use Rattle.expand_heads.specs.declared.taken.Taken.{Taken}
use Rattle.expand_heads.specs.declared.taken.Waiting.{Waiting}
use Rattle.expand_heads.specs.declared.taken.Waits.{Waits}
use Rattle.expand_heads.specs.declared.taken.Waits.TheVariants as waits
use Rattle.expand_forms.specs.Body.{splice, value_of, finish_as, finish_one, finish_all, sequence_of, inits_in, values_in, with_inits, body_core, finish, lambda_at, body_in, body}
use Rattle.expand_forms.specs.Expression.{in_order, case_in, lambda_case, lambda, one_case, all_cases, case_lambda, one_init, all_inits, letrec_in, letrec_form, application, alternate, conditional, set, in_sequence, fender, clause_in, pattern_clause, all_clauses, syntax_case, keywords_form}
use Rattle.expand_forms.specs.Inside.{Inside}
use Rattle.expand_forms.specs.Keywords.{expand_transformer, seen_in, expand_transformer_in, expand_transformers, keywords, with_keywords}
use Rattle.expand_forms.specs.Site.{site_at}
use Rattle.expand_forms.specs.Forms.{if_parts, let_syntax_parts, letrec_parts, procedure_parts, syntax_case_parts}
use Rattle.stx_tree.specs.Leaves.{strip}
use Rattle.law_invariants.specs.Holds.{CoreHolds, CoresHold, InitsHold, CasesHold, ClausesHold, LineHolds}
use Rattle.law_invariants.specs.Stages.{RecordsHold}
use Rattle.law_invariants.specs.Invariant.{OptionHolds}
use Rattle.law_invariant_expansion.proofs.Items.{WaitsAt, WaitingAt, TakenAt}
use Rattle.law_invariant_expansion.proofs.Shapes.{FormalsHold, LambdaHolds, PatternCaseHolds}
use Rattle.law_invariant_expansion.proofs.Standing.{F, Ts, C, Gave, gave-after, gave-if, gave-each, gave-gather, gave-within, gave-apart, counted-holds, SpecAt, BoundHolds, bind-formals-holds, bind-specs-holds, bind-keywords-holds, finish-keyword-holds, PatternAt, pattern-holds, literals-hold, bind-pattern-holds}
use Rattle.law_invariants.specs.Invariant.{Invariant}
use Rattle.law_invariant_expansion.specs.Kept.{PatternIsKept, IsKeptByExpansion}

module _ (I : Invariant) (kept : IsKeptByExpansion I) where
  abbrev pub CaseAt : Lambda → Type 0
  CaseAt c = C I kept c.body

  -- What is done inside forms keeps what holds of all trees, and gives code of whose trees it holds.
  pub record Keeps (go : Inside) : Type 0 where
    pub records : RecordsHold I go.earlier
    pub form : (place : Span) (level depth : ℕ) (t : Tree) (s : State) → F I kept s → I.trees t → Gave I kept (C I kept) (go.form (site_at place level depth) t s)
    pub procedure : (place : Span) (level depth : ℕ) (t : Tree) (ids : FormalIds) (forms : List Tree) (s : State) → F I kept s → FormalsHold I kept.built.closed ids → Ts I kept forms → Gave I kept CaseAt (go.procedure (site_at place level depth) (procedure_parts t ids forms) s)
    pub item : (at : BodyAt) (depth : ℕ) (d : Taken) (t : Tree) (s : State) → F I kept s → TakenAt I kept d → I.trees t → Gave I kept (TakenAt I kept) (go.item at depth d t s)

  abbrev Any : {A : Type 0} → A → Type 0
  Any x = Unit {0}

  -- Core code of parts.

  abbrev Cs : List PlainCore → Type 0
  Cs cs = Each (C I kept) cs

  cores-hold : (cs : List PlainCore) → Cs cs → CoresHold I (cores cs)
  cores-hold [] h = tt
  cores-hold (c ∷ cs) h = (h.0, cores-hold cs h.1)

  pub sequence-holds : (cs : List PlainCore) → Cs cs → C I kept (sequence_of cs)
  sequence-holds [] h = tt
  sequence-holds (c ∷ []) h = h.0
  sequence-holds (c ∷ (d ∷ cs)) h = cores-hold (c ∷ (d ∷ cs)) h

  cases-hold : (xs : List Lambda) → Each CaseAt xs → CasesHold I (cases xs)
  cases-hold [] h = tt
  cases-hold (x ∷ xs) h = (h.0, cases-hold xs h.1)

  abbrev InitAt : Init → Type 0
  InitAt i = C I kept i.value

  inits-hold : (is : List Init) → Each InitAt is → InitsHold I (inits is)
  inits-hold [] h = tt
  inits-hold (i ∷ is) h = (h.0, inits-hold is h.1)

  abbrev ClauseAt : Clause → Type 0
  ClauseAt c = PatternIsKept I c.pattern × (OptionHolds (C I kept) c.fender × C I kept c.output)

  clauses-hold : (cs : List Clause) → Each ClauseAt cs → ClausesHold I (clauses cs)
  clauses-hold [] h = tt
  clauses-hold (c ∷ cs) h = by c.fender h.0.1.0 (clauses-hold cs h.1)
    where
      by : (o : Option PlainCore) → OptionHolds (C I kept) o → ClausesHold I (clauses cs) → ClausesHold I (clauses (record c { fender = o } ∷ cs))
      by None k j = kept.clauses c.pattern (CoreHolds I c.output × ClausesHold I (clauses cs)) h.0.0 (h.0.1.1, j)
      by (Some f) k j = kept.clauses c.pattern (CoreHolds I f × (CoreHolds I c.output × ClausesHold I (clauses cs))) h.0.0 (k, (h.0.1.1, j))

  abbrev pub LineAt : Line → Type 0
  LineAt x = LineHolds I x

  inits-in-hold : (xs : List Line) → Each LineAt xs → Each InitAt (inits_in xs)
  inits-in-hold [] h = tt
  inits-in-hold (line.Define l c ∷ xs) h = (h.0, inits-in-hold xs h.1)
  inits-in-hold (line.Expr c ∷ xs) h = inits-in-hold xs h.1

  values-in-hold : (xs : List Line) → Each LineAt xs → Cs (values_in xs)
  values-in-hold [] h = tt
  values-in-hold (line.Define l c ∷ xs) h = values-in-hold xs h.1
  values-in-hold (line.Expr c ∷ xs) h = (h.0, values-in-hold xs h.1)

  with-inits-holds : (is : List Init) (c : PlainCore) → Each InitAt is → C I kept c → C I kept (with_inits is c)
  with-inits-holds [] c h k = k
  with-inits-holds (i ∷ is) c h k = (inits-hold (i ∷ is) h, k)

  body-core-holds : (xs : List Line) → Each LineAt xs → C I kept (body_core xs)
  body-core-holds xs h = with-inits-holds (inits_in xs) (sequence_of (values_in xs)) (inits-in-hold xs h) (sequence-holds (values_in xs) (values-in-hold xs h))

  -- with a name taken
  abbrev pub counted : State → State
  counted s = record s { names = record { library = s.names.library; number = s.names.number + 1 } }

  pub stamps-hold : (f : FrameNo) (ts : List Tree) → Ts I kept ts → Ts I kept (map (stamp f) ts)
  stamps-hold f [] h = tt
  stamps-hold f (t ∷ ts) h = (kept.steady.changed (change.Stamp f ∷ []) t h.0, stamps-hold f ts h.1)

  module _ (go : Inside) (keeps : Keeps go) where
    -- Bodies.

    pub splice-holds : (at : BodyAt) (depth : ℕ) (d : Taken) (forms : List Tree) (s : State) → F I kept s → TakenAt I kept d → Ts I kept forms → Gave I kept (TakenAt I kept) (splice go at depth d forms s)
    splice-holds at depth d forms s h k g =
        gave-gather I kept I.trees (TakenAt I kept) (go.item at depth) (λ e x t i j y. keeps.item at depth e x t i j y) d forms s h k g

    -- the constant that stands for no value
    given-none : I.constants (strip (tree.atom None (a.Bool false)))
    given-none = kept.built.constants (tree.atom None (a.Bool false)) (kept.built.closed.atom (a.Bool false) (kept.built.closed.booleans false))

    value-holds : (place : Span) (level depth : ℕ) (o : Option Tree) (s : State) → F I kept s → OptionHolds I.trees o → Gave I kept (C I kept) (value_of go (site_at place level depth) o s)
    value-holds place level depth None s h k = (h, (given-none, given-none))
    value-holds place level depth (Some t) s h k = keeps.form place level depth t s h k

    line-holds : (level : ℕ) (place : Span) (depth : ℕ) (w : Waits) (s : State) → F I kept s → WaitsAt I kept w → Gave I kept LineAt (finish_as go (site_at place level depth) w s)
    unfolding finish_as fresh
    line-holds level place depth (waits.Variable l value) s h k =
        gave-after I kept (C I kept) LineAt (value_of go (site_at place level (deeper depth)) value s) (λ c. give (line.Define l c)) (value-holds place level (deeper depth) value s h k) (λ c t i y. (i, y))
    line-holds level place depth (waits.Procedure l t ids forms) s h k =
        let u = counted s in
        let i = counted-holds I kept s h in
        (gave-after I kept CaseAt LineAt (go.procedure (site_at place level (deeper depth)) (procedure_parts t ids forms) u) (λ c. give (line.Define l (procedure (record { 0 = s.names }) (cases (c ∷ [])) true)))
        (keeps.procedure place level (deeper depth) t ids forms u i k.1.0 k.1.1)
        (λ c v j y. (j, (y, tt))))
    line-holds level place depth (waits.Expression t) s h k =
        gave-after I kept (C I kept) LineAt (go.form (site_at place level depth) t s) (λ c. give (line.Expr c)) (keeps.form place level depth t s h k) (λ c u i y. (i, y))

    pub lines-hold : (level : ℕ) (ws : List Waiting) (s : State) → F I kept s → Each (WaitingAt I kept) ws → Gave I kept (λ xs. Each LineAt xs) (finish_all go level ws s)
    lines-hold level ws s h k =
        gave-each I kept (WaitingAt I kept) LineAt (finish_one go level) (λ w t i j. line-holds level w.place w.depth w.what t i j) [] ws s h tt k

    finish-holds : (place : Span) (level : ℕ) (t : Tree) (d : Taken) (s : State) → F I kept s → TakenAt I kept d → Gave I kept (C I kept) (finish go place level t d s)
    unfolding finish
    finish-holds place level t d s h k =
        gave-if I kept (C I kept) d.has_expression (after (finish_all go level d.waiting s) (λ ls. give (body_core ls))) _
        (gave-after I kept (λ xs. Each LineAt xs) (C I kept) (finish_all go level d.waiting s) (λ ls. give (body_core ls)) (lines-hold level d.waiting s h k) (λ xs u i y. (i, body-core-holds xs y))) tt

    pub body-holds : (place : Span) (level depth : ℕ) (t : Tree) (forms : List Tree) (s : State) → F I kept s → Ts I kept forms → Gave I kept (C I kept) (body go (site_at place level depth) t forms s)
    unfolding body fresh_frame
    body-holds place level depth t forms s h k =
        let f : FrameNo = record { 0 = s.names } in
        let u = counted s in
        let i = counted-holds I kept s h in
        gave-within I kept (C I kept) (λ v. after (fresh_frame v) (body_in go (site_at place level depth) t forms)) s
        (gave-after I kept (TakenAt I kept) (C I kept) (splice go (lambda_at f place level) depth begun (map (stamp f) forms) u) (finish go place level t)
        (splice-holds (lambda_at f place level) depth begun (map (stamp f) forms) u i tt (stamps-hold f forms k))
        (λ d v j y. finish-holds place level t d v j y))

    -- Procedures.

    case-in-holds : (place : Span) (level depth : ℕ) (t : Tree) (ids : FormalIds) (forms : List Tree) (f : FrameNo) (s : State) → F I kept s → FormalsHold I kept.built.closed ids → Ts I kept forms → Gave I kept CaseAt (case_in go (site_at place level depth) (procedure_parts t ids forms) f s)
    case-in-holds place level depth t ids forms f s h k g =
        gave-after I kept (Any) CaseAt (bind_formals f place level ids s) _ (bind-formals-holds I kept f place level ids s h k)
        (λ formals u i y. gave-after I kept (C I kept) CaseAt (body go (site_at place level depth) t (map (stamp f) forms) u) (λ c. give (record { formals = formals; body = c }))
        (body-holds place level depth t (map (stamp f) forms) u i (stamps-hold f forms g))
        (λ c v j z. (j, z)))

    pub case-holds : (place : Span) (level depth : ℕ) (t : Tree) (ids : FormalIds) (forms : List Tree) (s : State) → F I kept s → FormalsHold I kept.built.closed ids → Ts I kept forms → Gave I kept CaseAt (lambda_case go (site_at place level depth) (procedure_parts t ids forms) s)
    unfolding lambda_case fresh_frame
    case-holds place level depth t ids forms s h k g =
        let f : FrameNo = record { 0 = s.names } in
        let u = counted s in
        let i = counted-holds I kept s h in
        gave-within I kept CaseAt (λ v. after (fresh_frame v) (case_in go (site_at place level depth) (procedure_parts t ids forms))) s
        (case-in-holds place level depth t ids forms f u i k g)

    pub lambda-holds : (place : Span) (level depth : ℕ) (t : Tree) (ids : FormalIds) (forms : List Tree) (s : State) → F I kept s → FormalsHold I kept.built.closed ids → Ts I kept forms → Gave I kept (C I kept) (lambda go (site_at place level depth) (procedure_parts t ids forms) s)
    unfolding lambda fresh
    lambda-holds place level depth t ids forms s h k g =
        let u = counted s in
        let i = counted-holds I kept s h in
        (gave-after I kept CaseAt (C I kept) (lambda_case go (site_at place level depth) (procedure_parts t ids forms) u) (λ c. give (procedure (record { 0 = s.names }) (cases (c ∷ [])) true))
        (case-holds place level depth t ids forms u i k g)
        (λ c v j y. (j, (y, tt))))

    abbrev LambdaAt : LambdaCase → Type 0
    LambdaAt c = LambdaHolds I kept.built.closed c

    pub case-lambda-holds : (place : Span) (level depth : ℕ) (t : Tree) (cs : List LambdaCase) (s : State) → F I kept s → Each LambdaAt cs → Gave I kept (C I kept) (case_lambda go (site_at place level depth) t cs s)
    unfolding case_lambda fresh
    case-lambda-holds place level depth t cs s h k =
        let u = counted s in
        let i = counted-holds I kept s h in
        (gave-after I kept (λ xs. Each CaseAt xs) (C I kept) (all_cases go (site_at place level depth) t cs u) (λ xs. give (procedure (record { 0 = s.names }) (cases xs) false))
        (gave-each I kept LambdaAt CaseAt (one_case go (site_at place level depth) t) (λ c v j y. case-holds place level depth t c.formals c.body v j y.0 y.1) [] cs u i tt k)
        (λ xs v j y. (j, cases-hold xs y)))

    -- `letrec` and `letrec*`.

    init-holds : (place : Span) (level depth : ℕ) (f : FrameNo) (b : BoundSpec) (s : State) → F I kept s → BoundHolds I kept b → Gave I kept InitAt (one_init go (site_at place level depth) f b s)
    unfolding one_init
    init-holds place level depth f b s h k =
        gave-after I kept (C I kept) InitAt (go.form (site_at place level depth) (stamp f b.init) s) (λ c. give (record { label = b.label; value = c })) (keeps.form place level depth (stamp f b.init) s h (kept.steady.changed (change.Stamp f ∷ []) b.init k))
        (λ c u i y. (i, y))

    letrec-in-holds : (place : Span) (level depth : ℕ) (t : Tree) (star : Bool) (bs : List BindingSpec) (forms : List Tree) (f : FrameNo) (s : State) → F I kept s → Each (SpecAt I kept) bs → Ts I kept forms
        → Gave I kept (C I kept) (letrec_in go (site_at place level depth) (letrec_parts t star bs forms) f s)
    letrec-in-holds place level depth t star bs forms f s h k g =
        gave-after I kept (λ xs. Each (BoundHolds I kept) xs) (C I kept) (bind_specs f place level bs s) _ (bind-specs-holds I kept f place level bs s h k)
        (λ ls u i y. let hu = i in
        gave-after I kept (λ is. Each InitAt is) (C I kept) (all_inits go (site_at place level depth) f ls u) _
        (gave-each I kept (BoundHolds I kept) InitAt (one_init go (site_at place level depth) f) (λ b v j z. init-holds place level depth f b v j z) [] ls u hu tt y)
        (λ is v j z. let hv = j in
        gave-after I kept (C I kept) (C I kept) (body go (site_at place level depth) t (map (stamp f) forms) v) (λ c. give (letrec star (inits is) c))
        (body-holds place level depth t (map (stamp f) forms) v hv (stamps-hold f forms g))
        (λ c w x q. (x, (inits-hold is z, q)))))

    pub letrec-holds : (place : Span) (level depth : ℕ) (t : Tree) (star : Bool) (bs : List BindingSpec) (forms : List Tree) (s : State) → F I kept s → Each (SpecAt I kept) bs → Ts I kept forms
        → Gave I kept (C I kept) (letrec_form go (site_at place level depth) (letrec_parts t star bs forms) s)
    unfolding letrec_form fresh_frame
    letrec-holds place level depth t star bs forms s h k g =
        let f : FrameNo = record { 0 = s.names } in
        let u = counted s in
        let i = counted-holds I kept s h in
        gave-within I kept (C I kept) (λ v. after (fresh_frame v) (letrec_in go (site_at place level depth) (letrec_parts t star bs forms))) s
        (letrec-in-holds place level depth t star bs forms f u i k g)

    -- Calls, branches, assignments, sequences.

    order-holds : (place : Span) (level depth : ℕ) (forms : List Tree) (s : State) → F I kept s → Ts I kept forms → Gave I kept Cs (in_order go (site_at place level depth) forms s)
    order-holds place level depth forms s h k = gave-each I kept I.trees (C I kept) (go.form (site_at place level depth)) (λ t u i j. keeps.form place level depth t u i j) [] forms s h tt k

    pub application-holds : (place : Span) (level depth : ℕ) (operator : Tree) (operands : List Tree) (s : State) → F I kept s → I.trees operator → Ts I kept operands → Gave I kept (C I kept) (application go (site_at place level depth) operator operands s)
    unfolding application
    application-holds place level depth operator operands s h k g =
        gave-after I kept (C I kept) (C I kept) (go.form (site_at place level depth) operator s) _ (keeps.form place level depth operator s h k)
        (λ c u i y. gave-after I kept Cs (C I kept) (in_order go (site_at place level depth) operands u) (λ cs. give (call c (cores cs)))
        (order-holds place level depth operands u i g)
        (λ cs v j z. (j, (y, cores-hold cs z))))

    alternate-holds : (place : Span) (level depth : ℕ) (c d : PlainCore) (o : Option Tree) (s : State) → F I kept s → C I kept c → C I kept d → OptionHolds I.trees o → Gave I kept (C I kept) (alternate go (site_at place level depth) c d o s)
    alternate-holds place level depth c d None s h k g j = (h, (k, g))
    alternate-holds place level depth c d (Some t) s h k g j =
        gave-after I kept (C I kept) (C I kept) (go.form (site_at place level depth) t s) (λ e. give (two_armed c d e)) (keeps.form place level depth t s h j)
        (λ e u i y. (i, (k, (g, y))))

    pub conditional-holds : (place : Span) (level depth : ℕ) (test consequent : Tree) (other : Option Tree) (s : State) → F I kept s → I.trees test → I.trees consequent → OptionHolds I.trees other
        → Gave I kept (C I kept) (conditional go (site_at place level depth) (if_parts test consequent other) s)
    unfolding conditional
    conditional-holds place level depth test consequent other s h k g q =
        gave-after I kept (C I kept) (C I kept) (go.form (site_at place level depth) test s) _ (keeps.form place level depth test s h k)
        (λ c u i y. let hu = i in
        gave-after I kept (C I kept) (C I kept) (go.form (site_at place level depth) consequent u) (λ d. alternate go (site_at place level depth) c d other) (keeps.form place level depth consequent u hu g)
        (λ d v j z. alternate-holds place level depth c d other v j y z q))

    pub set-holds : (place : Span) (level depth : ℕ) (l : Label) (value : Tree) (s : State) → F I kept s → I.trees value → Gave I kept (C I kept) (set go (site_at place level depth) l value s)
    unfolding set
    set-holds place level depth l value s h k = gave-after I kept (C I kept) (C I kept) (go.form (site_at place level depth) value s) (λ c. give (assignment l c)) (keeps.form place level depth value s h k) (λ c u i y. (i, y))

    pub in-sequence-holds : (place : Span) (level depth : ℕ) (forms : List Tree) (s : State) → F I kept s → Ts I kept forms → Gave I kept (C I kept) (in_sequence go (site_at place level depth) forms s)
    unfolding in_sequence
    in-sequence-holds place level depth forms s h k = gave-after I kept Cs (C I kept) (in_order go (site_at place level depth) forms s) (λ cs. give (sequence_of cs)) (order-holds place level depth forms s h k) (λ cs u i y. (i, sequence-holds cs y))

    -- `syntax-case`.

    fender-holds : (place : Span) (level depth : ℕ) (f : FrameNo) (o : Option Tree) (s : State) → F I kept s → OptionHolds I.trees o → Gave I kept (λ x. OptionHolds (C I kept) x) (fender go (site_at place level depth) f o s)
    fender-holds place level depth f None s h k = (h, tt)
    fender-holds place level depth f (Some t) s h k =
        gave-after I kept (C I kept) (λ x. OptionHolds (C I kept) x) (go.form (site_at place level depth) (stamp f t) s) (λ c. give (Some c)) (keeps.form place level depth (stamp f t) s h (kept.steady.changed (change.Stamp f ∷ []) t k)) (λ c u i y. (i, y))

    clause-in-holds : (place : Span) (level depth : ℕ) (literals : List Tree) (c : PatternCase) (f : FrameNo) (s : State) → F I kept s → PatternCaseHolds I kept.built.closed c → Gave I kept ClauseAt (clause_in go (site_at place level depth) literals c f s)
    clause-in-holds place level depth literals c f s h k =
        gave-after I kept (PatternAt I kept) ClauseAt (pattern_of literals place c.pattern s) _ (pattern-holds I kept literals place c.pattern s h k.0)
        (λ p t i y. let ht = i in
        gave-after I kept Any ClauseAt (bind_pattern f place level p.variables t) _ (bind-pattern-holds I kept f place level p.variables t ht)
        (λ x u j z. let hu = j in
        gave-after I kept (λ o. OptionHolds (C I kept) o) ClauseAt (fender go (site_at place level depth) f c.fender u) _ (fender-holds place level depth f c.fender u hu k.1.0)
        (λ e v q a. let hv = q in
        gave-after I kept (C I kept) ClauseAt (go.form (site_at place level depth) (stamp f c.output) v) (λ o. give (record { pattern = p.pattern; fender = e; output = o }))
        (keeps.form place level depth (stamp f c.output) v hv (kept.steady.changed (change.Stamp f ∷ []) c.output k.1.1))
        (λ o w b d. (b, (y, (a, d)))))))

    abbrev PatternCaseAt : PatternCase → Type 0
    PatternCaseAt c = PatternCaseHolds I kept.built.closed c

    clause-holds : (place : Span) (level depth : ℕ) (literals : List Tree) (c : PatternCase) (s : State) → F I kept s → PatternCaseAt c → Gave I kept ClauseAt (pattern_clause go (site_at place level depth) literals c s)
    unfolding pattern_clause fresh_frame
    clause-holds place level depth literals c s h k =
        let f : FrameNo = record { 0 = s.names } in
        let u = counted s in
        let i = counted-holds I kept s h in
        gave-within I kept ClauseAt (λ v. after (fresh_frame v) (clause_in go (site_at place level depth) literals c)) s
        (clause-in-holds place level depth literals c f u i k)

    pub syntax-case-holds : (place : Span) (level depth : ℕ) (subject : Tree) (literals : List Tree) (cs : List PatternCase) (span : Span) (s : State) → F I kept s → I.trees subject → Each PatternCaseAt cs
        → Gave I kept (C I kept) (syntax_case go (site_at place level depth) (syntax_case_parts subject literals cs span) s)
    unfolding syntax_case
    syntax-case-holds place level depth subject literals cs span s h k g =
        gave-after I kept (C I kept) (C I kept) (go.form (site_at place level depth) subject s) _ (keeps.form place level depth subject s h k)
        (λ c t i y. let ht = i in
        gave-after I kept Any (C I kept) (check_literals place literals t) _ (literals-hold I kept literals place t ht)
        (λ x u j z. let hu = j in
        gave-after I kept (λ xs. Each ClauseAt xs) (C I kept) (all_clauses go (site_at place level depth) literals cs u) (λ xs. give (matching c (clauses xs) span))
        (gave-each I kept PatternCaseAt ClauseAt (pattern_clause go (site_at place level depth) literals) (λ k v q b. clause-holds place level depth literals k v q b) [] cs u hu tt g)
        (λ xs v q a. (q, (y, clauses-hold xs a)))))

    -- Keywords.

    pub keyword-holds : (place : Span) (level depth : ℕ) (b : BoundSpec) (s : State) → F I kept s → BoundHolds I kept b → Gave I kept Any (expand_transformer go (site_at place level depth) b s)
    unfolding expand_transformer
    keyword-holds place level depth b s h k =
        let z : State = record s { scope = [] } in
        gave-after I kept (C I kept) Any (apart (go.form (site_at place (level + 1) depth) b.init) s) (evaluate_transformer go.earlier (place_of b.init place) b.label)
        (gave-apart I kept (C I kept) (go.form (site_at place (level + 1) depth) b.init) s (keeps.form place (level + 1) depth b.init z (record { stage = h.stage; bindings = h.bindings }) k))
        (λ c u i y. finish-keyword-holds I kept go.earlier keeps.records (place_of b.init place) b.label c u i y)

    seen-holds : (recursive : Bool) (f : FrameNo) (b : BoundSpec) → BoundHolds I kept b → BoundHolds I kept (seen_in recursive f b)
    seen-holds true f b h = kept.steady.changed (change.Stamp f ∷ []) b.init h
    seen-holds false f b h = h

    keywords-hold : (place : Span) (level depth : ℕ) (recursive : Bool) (bs : List BindingSpec) (f : FrameNo) (s : State) → F I kept s → Each (SpecAt I kept) bs → Gave I kept Any (keywords go (site_at place level depth) recursive bs f s)
    unfolding keywords
    keywords-hold place level depth recursive bs f s h k =
        gave-after I kept (λ xs. Each (BoundHolds I kept) xs) Any (bind_keywords f place level bs s) (expand_transformers go (site_at place level depth) recursive f) (bind-keywords-holds I kept f place level bs s h k)
        (λ xs u i y. gave-gather I kept (BoundHolds I kept) Any (expand_transformer_in go (site_at place level depth) recursive f) (λ d b t j w z. keyword-holds place level depth (seen_in recursive f b) t j (seen-holds recursive f b z)) tt xs u i tt y)

    pub with-keywords-holds : (place : Span) (level depth : ℕ) (recursive : Bool) (bs : List BindingSpec) (forms : List Tree) (s : State) → F I kept s → Each (SpecAt I kept) bs → Ts I kept forms
        → Gave I kept (Ts I kept) (with_keywords go (site_at place level depth) (let_syntax_parts recursive bs forms) s)
    unfolding fresh_frame
    with-keywords-holds place level depth recursive bs forms s h k g =
        let f : FrameNo = record { 0 = s.names } in
        let u = counted s in
        let i = counted-holds I kept s h in
        (gave-after I kept Any (Ts I kept) (keywords go (site_at place level depth) recursive bs f u) (λ _. give (map (stamp f) forms))
        (keywords-hold place level depth recursive bs f u i k)
        (λ x v j y. (j, stamps-hold f forms g)))

    pub keywords-form-holds : (place : Span) (level depth : ℕ) (recursive : Bool) (bs : List BindingSpec) (forms : List Tree) (s : State) → F I kept s → Each (SpecAt I kept) bs → Ts I kept forms
        → Gave I kept (C I kept) (keywords_form go (site_at place level depth) (let_syntax_parts recursive bs forms) s)
    unfolding keywords_form
    keywords-form-holds place level depth recursive bs forms s h k g =
        gave-after I kept (Ts I kept) (C I kept) (with_keywords go (site_at place level depth) (let_syntax_parts recursive bs forms) s) (in_sequence go (site_at place level depth)) (with-keywords-holds place level depth recursive bs forms s h k g)
        (λ xs u i y. in-sequence-holds place level depth xs u i y)
