-- Expressions, bodies and procedures are expanded safely, given that what is done inside forms is safe.
use Rattle.std.proofs.Common.{◌≡◌, ℕ, Bool, true, false, List, [], ◌∷◌, map, length, Option, Some, None, Result, sym, subst}
use Rattle.base_data.specs.Act.{after, give, each}
use Rattle.base_data.specs.declared.fault.Fault.{Fault}
use Rattle.base_data.specs.declared.library.LibName.{LibName}
use Rattle.base_data.specs.declared.name.CodeNo.{CodeNo}
use Rattle.base_data.specs.declared.name.FrameNo.{FrameNo}
use Rattle.base_data.specs.declared.name.Label.{Label}
use Rattle.base_data.specs.declared.span.Span.{Span}
use Rattle.stx_tree.specs.Changes.{stamp}
use Rattle.stx_tree.specs.Tree.{Tree}
use Rattle.core_language.specs.Core.{PlainCore, one_armed, two_armed, assignment, procedure, letrec, call, matching, cores}
use Rattle.core_language.specs.CoreView.{inits, cases, clauses}
use Rattle.core_language.specs.References.{formals_labels}
use Rattle.core_language.specs.declared.code.Clause.{Clause}
use Rattle.core_language.specs.declared.code.Init.{Init}
use Rattle.core_language.specs.declared.code.Lambda.{Lambda}
use Rattle.core_language.specs.declared.record.CompiledLibrary.{CompiledLibrary}
use Rattle.core_language.specs.declared.record.Line.TheVariants as line
use Rattle.core_shapes.specs.declared.shape.BindingSpec.{BindingSpec}
use Rattle.core_shapes.specs.declared.shape.FormalIds.{FormalIds}
use Rattle.core_shapes.specs.declared.shape.LambdaCase.{LambdaCase}
use Rattle.core_shapes.specs.declared.shape.PatternCase.{PatternCase}
use Rattle.expand_standing.specs.Binders.{bind_formals, bind_specs}
use Rattle.expand_standing.specs.InScope.{cut, within}
use Rattle.expand_standing.specs.Patterns.{pattern_of, check_literals, bind_pattern}
use Rattle.expand_standing.specs.State.{State, Does, fresh, fresh_frame}
use Rattle.expand_standing.specs.declared.binders.BoundSpec.{BoundSpec}
use Rattle.expand_heads.specs.Depth.{deeper}
use Rattle.expand_heads.specs.Items.{begun}
use Rattle.expand_heads.specs.declared.taken.BodyAt.{BodyAt}
use Rattle.expand_heads.specs.declared.taken.Taken.{Taken}
use Rattle.expand_heads.specs.declared.taken.Waiting.{Waiting}
use Rattle.expand_heads.specs.declared.taken.Waits.{Waits}
use Rattle.expand_heads.specs.declared.taken.Waits.TheVariants as waits
use Rattle.expand_forms.specs.Body.{splice, no_value, value_of, finish_as, finish_one, finish_all, sequence_of, body_core, finish, lambda_at, body_in, body}
use Rattle.expand_forms.specs.Expression.{in_order, case_in, lambda_case, lambda, one_case, all_cases, case_lambda, one_init, all_inits, letrec_in, letrec_form, application, alternate, conditional, set, in_sequence, fender, clause_in, pattern_clause, all_clauses, syntax_case, keywords_form}
use Rattle.expand_forms.specs.Inside.{Inside}
use Rattle.expand_forms.specs.Keywords.{with_keywords}
use Rattle.expand_forms.specs.Site.{site_at}
use Rattle.expand_forms.specs.Forms.{if_parts, let_syntax_parts, letrec_parts, procedure_parts, syntax_case_parts}
use Rattle.law_expand.proofs.Acts.{each-cons, each-nil}
use Rattle.law_expand.proofs.Binding.{BindsAll, spec_label, binds-formals, binds-specs}
use Rattle.law_expand.proofs.Changes.{BindsPattern, pattern-bound, pattern-adds}
use Rattle.law_expand.proofs.Naming.{as_frame, counted}
use Rattle.law_expand.proofs.Spent.{AreUnspent}
use Rattle.law_expand.proofs.Spares.{taken_labels}
use Rattle.law_expand.proofs.Uses.{Patterned, pattern-later, literals-later}
use Rattle.law_stuck.specs.Uses.{Around}
use Rattle.law_steady.proofs.Binders.{formals-light, specs-light, pattern-light, literals-light, bind-pattern-light}
use Rattle.law_steady.proofs.Keywords.{Placed, Holds, keywords-go}
use Rattle.law_steady.proofs.Sure.{Sure, sure-after, sure-less, sure-with, sure-if, sure-within, sure-gather}
use Rattle.law_steady.proofs.Safe.{Safe, Light, light-then, B, Goes, goes-self, goes-then, goes-light, goes-but, goes-counted, goes-cut, go}

module _ (own : LibName) (texts : List CodeNo) (rs : List CompiledLibrary) (x : Around own texts rs) (inner : Inside) (holds : Holds own texts rs inner) where
  abbrev S : State → Type 0
  S = Safe own texts rs

  abbrev Bs : State → Type 0
  Bs = B own texts rs

  abbrev pub R : {A : Type 0} → State → A → State → Type 0
  R s a u = Goes own texts rs s u

  -- where it is done from each state that is safe
  abbrev pub Runs : {A : Type 0} → Does A → Type 0
  Runs m = (s : State) → Bs s → S s → Sure (R s) (m s)

  -- one behind another
  pub runs : {A C : Type 0} (m : Does A) (k : A → Does C) → Runs m → ((a : A) → Runs (k a)) → (s : State) → Bs s → S s → Sure (R s) (after (m s) k)
  runs m k h next s b y = go own texts rs s (m s) k (h s b y) (λ a t g. next a t g.onward.0 g.safe)

  pub gives : {A : Type 0} (a : A) → Runs (give a)
  gives a s b y = goes-self own texts rs s b y

  pub each-runs : {X A : Type 0} (step : X → Does A) → ((z : X) → Runs (step z)) → (zs : List X) → Runs (each step [] zs)
  each-runs {X} {A} step one [] s b y = subst (λ (r : Result (List A × State) Fault). Sure (R s) r) (sym (each-nil step s)) (goes-self own texts rs s b y)
  each-runs {X} {A} step one (z ∷ zs) s b y =
      subst (λ (r : Result (List A × State) Fault). Sure (R s) r) (sym (each-cons step z zs s))
      (runs (step z) (λ a t. after (each step [] zs t) (λ ys. give (a ∷ ys))) (one z) (λ a. runs (each step [] zs) (λ ys. give (a ∷ ys)) (each-runs step one zs) (λ ys. gives (a ∷ ys))) s b y)

  -- in a new frame
  framed : {A : Type 0} (k : FrameNo → Does A) → ((f : FrameNo) → f.0.library ≡ own → Runs (k f)) → (s : State) → Bs s → S s → Sure (R s) (after (fresh_frame s) k)
  unfolding fresh_frame
  framed k h s b y =
      let start = goes-counted own texts rs s b y in
      sure-less (R (counted s)) (R s) (k (as_frame s.names) (counted s)) (h (as_frame s.names) b.sound.next (counted s) start.onward.0 start.safe) (λ a u g. goes-then own texts rs s (counted s) u start g)

  pub within-runs : {A : Type 0} (m : Does A) → Runs m → Runs (within m)
  within-runs m h s b y =
      sure-within (R s) m s (sure-less (R s) (λ a t. R s a (cut (length s.scope) t)) (m s) (h s b y)
      (λ a t g. goes-then own texts rs s t (cut (length s.scope) t) g (goes-cut own texts rs (length s.scope) t g.onward.0 g.safe)))

  module _ (place : Span) (level depth : ℕ) where
    form-runs : (t : Tree) → Runs (inner.form (site_at place level depth) t)
    form-runs t s b y = holds.form place level depth t s b y

    order-runs : (forms : List Tree) → Runs (in_order inner (site_at place level depth) forms)
    order-runs forms = each-runs (inner.form (site_at place level depth)) form-runs forms

    pub application-runs : (operator : Tree) (operands : List Tree) → Runs (application inner (site_at place level depth) operator operands)
    unfolding application
    application-runs operator operands =
        runs (inner.form (site_at place level depth) operator) (λ c s'. after (in_order inner (site_at place level depth) operands s') (λ cs. give (call c (cores cs)))) (form-runs operator)
        (λ c. runs (in_order inner (site_at place level depth) operands) (λ cs. give (call c (cores cs))) (order-runs operands) (λ cs. gives (call c (cores cs))))

    alternate-runs : (c d : PlainCore) (o : Option Tree) → Runs (alternate inner (site_at place level depth) c d o)
    alternate-runs c d None = gives (one_armed c d)
    alternate-runs c d (Some t) = runs (inner.form (site_at place level depth) t) (λ e. give (two_armed c d e)) (form-runs t) (λ e. gives (two_armed c d e))

    pub conditional-runs : (test consequent : Tree) (other : Option Tree) → Runs (conditional inner (site_at place level depth) (if_parts test consequent other))
    unfolding conditional
    conditional-runs test consequent other =
        runs (inner.form (site_at place level depth) test) (λ c s'. after (inner.form (site_at place level depth) consequent s') (λ d. alternate inner (site_at place level depth) c d other)) (form-runs test)
        (λ c. runs (inner.form (site_at place level depth) consequent) (λ d. alternate inner (site_at place level depth) c d other) (form-runs consequent) (λ d. alternate-runs c d other))

    pub set-runs : (l : Label) (value : Tree) → Runs (set inner (site_at place level depth) l value)
    unfolding set
    set-runs l value = runs (inner.form (site_at place level depth) value) (λ c. give (assignment l c)) (form-runs value) (λ c. gives (assignment l c))

    pub sequence-runs : (forms : List Tree) → Runs (in_sequence inner (site_at place level depth) forms)
    unfolding in_sequence
    sequence-runs forms = runs (in_order inner (site_at place level depth) forms) (λ cs. give (sequence_of cs)) (order-runs forms) (λ cs. gives (sequence_of cs))

  -- The first pass over a body.

  abbrev pub Takes : State → Taken → State → Type 0
  Takes s e u = Goes own texts rs s u × AreUnspent own u (taken_labels e)

  pub splice-goes : (at : BodyAt) (depth : ℕ) (d : Taken) (forms : List Tree) (s : State) → Placed own at → Bs s → S s → AreUnspent own s (taken_labels d) → Sure (Takes s) (splice inner at depth d forms s)
  splice-goes at depth d forms s low b y k =
      sure-gather (inner.item at depth) (λ e t. Takes s e t)
      (λ e z t h. sure-less (Takes t) (Takes s) (inner.item at depth e z t) (holds.item at depth e z t low h.0.onward.0 h.0.safe h.1) (λ w u j. (goes-then own texts rs s t u h.0 j.0, j.1)))
      d forms s (goes-self own texts rs s b y, k)

  -- The second pass.

  module _ (level : ℕ) where
    value-runs : (place : Span) (depth : ℕ) (o : Option Tree) → Runs (value_of inner (site_at place level depth) o)
    value-runs place depth None = gives {A = PlainCore} no_value
    value-runs place depth (Some t) = form-runs place level depth t

    line-runs : (place : Span) (depth : ℕ) (w : Waits) → Runs (finish_as inner (site_at place level depth) w)
    unfolding finish_as fresh
    line-runs place depth (waits.Variable l value) s b y =
        runs (value_of inner (site_at place level (deeper depth)) value) (λ c. give (line.Define l c)) (value-runs place (deeper depth) value) (λ c. gives (line.Define l c)) s b y
    line-runs place depth (waits.Procedure l t ids forms) s b y =
        let start = goes-counted own texts rs s b y in
        let n : CodeNo = record { 0 = s.names } in
        sure-less (R (counted s)) (R s) (after (inner.procedure (site_at place level (deeper depth)) (procedure_parts t ids forms) (counted s)) (λ c. give (line.Define l (procedure n (cases (c ∷ [])) true))))
        (runs (inner.procedure (site_at place level (deeper depth)) (procedure_parts t ids forms)) (λ c. give (line.Define l (procedure n (cases (c ∷ [])) true))) (λ u c z. holds.procedure place level (deeper depth) t ids forms u c z)
        (λ c. gives (line.Define l (procedure n (cases (c ∷ [])) true))) (counted s) start.onward.0 start.safe)
        (λ a u g. goes-then own texts rs s (counted s) u start g)
    line-runs place depth (waits.Expression t) s b y = runs (inner.form (site_at place level depth) t) (λ c. give (line.Expr c)) (form-runs place level depth t) (λ c. gives (line.Expr c)) s b y

    pub lines-run : (ws : List Waiting) → Runs (finish_all inner level ws)
    lines-run ws = each-runs (finish_one inner level) (λ w. line-runs w.place w.depth w.what) ws

  -- A body.

  module _ (place : Span) (level depth : ℕ) (t : Tree) where
    finish-runs : (d : Taken) → Runs (finish inner place level t d)
    unfolding finish
    finish-runs d s b y =
        sure-if (R s) d.has_expression (after (finish_all inner level d.waiting s) (λ ls. give (body_core ls))) _
        (λ e. runs (finish_all inner level d.waiting) (λ ls. give (body_core ls)) (lines-run level d.waiting) (λ ls. gives (body_core ls)) s b y) (λ e. tt)

    pub body-runs : (forms : List Tree) → Runs (body inner (site_at place level depth) t forms)
    unfolding body
    body-runs forms = within-runs (λ s. after (fresh_frame s) (body_in inner (site_at place level depth) t forms)) (framed (body_in inner (site_at place level depth) t forms) inside)
      where
        inside : (f : FrameNo) → f.0.library ≡ own → Runs (body_in inner (site_at place level depth) t forms f)
        inside f mine s b y =
            sure-after (Takes s) (R s) (splice inner (lambda_at f place level) depth begun (map (stamp f) forms) s) (finish inner place level t)
            (splice-goes (lambda_at f place level) depth begun (map (stamp f) forms) s ((λ e. absurd (cc)), mine) b y tt)
            (λ d u g. sure-less (R u) (R s) (finish inner place level t d u) (finish-runs d u g.0.onward.0 g.0.safe) (λ c v j. goes-then own texts rs s u v g.0 j))

    -- Procedures.

    pub case-runs : (ids : FormalIds) (forms : List Tree) → Runs (lambda_case inner (site_at place level depth) (procedure_parts t ids forms))
    unfolding lambda_case
    case-runs ids forms = within-runs (λ s. after (fresh_frame s) (case_in inner (site_at place level depth) (procedure_parts t ids forms))) (framed (case_in inner (site_at place level depth) (procedure_parts t ids forms)) inside)
      where
        inside : (f : FrameNo) → f.0.library ≡ own → Runs (case_in inner (site_at place level depth) (procedure_parts t ids forms) f)
        inside f mine s b y =
            go own texts rs s (bind_formals f place level ids s) (λ fs u. after (body inner (site_at place level depth) t (map (stamp f) forms) u) (λ c. give (record { formals = fs; body = c })))
            (sure-less (λ fs u. Light own texts rs s u × BindsAll own f s (formals_labels fs) u) (R s) (bind_formals f place level ids s)
            (sure-with (λ fs u. Light own texts rs s u) (λ fs u. BindsAll own f s (formals_labels fs) u) (bind_formals f place level ids s) (formals-light own texts rs f place level ids s y) (binds-formals own f place level ids s b.sound.next))
            (λ fs u k. goes-but own texts rs f false (formals_labels fs) [] s u b k.0 k.1.later k.1.adds))
            (λ fs u g. runs (body inner (site_at place level depth) t (map (stamp f) forms)) (λ c. give (record { formals = fs; body = c })) (body-runs (map (stamp f) forms)) (λ c. gives {A = Lambda} (record { formals = fs; body = c })) u g.onward.0 g.safe)

    pub lambda-runs : (ids : FormalIds) (forms : List Tree) → Runs (lambda inner (site_at place level depth) (procedure_parts t ids forms))
    unfolding lambda fresh
    lambda-runs ids forms s b y =
        let start = goes-counted own texts rs s b y in
        let n : CodeNo = record { 0 = s.names } in
        sure-less (R (counted s)) (R s) (after (lambda_case inner (site_at place level depth) (procedure_parts t ids forms) (counted s)) (λ c. give (procedure n (cases (c ∷ [])) true)))
        (runs (lambda_case inner (site_at place level depth) (procedure_parts t ids forms)) (λ c. give (procedure n (cases (c ∷ [])) true)) (case-runs ids forms) (λ c. gives (procedure n (cases (c ∷ [])) true)) (counted s) start.onward.0 start.safe)
        (λ a u g. goes-then own texts rs s (counted s) u start g)

    pub cases-run : (cs : List LambdaCase) → Runs (case_lambda inner (site_at place level depth) t cs)
    unfolding case_lambda fresh
    cases-run cs s b y =
        let start = goes-counted own texts rs s b y in
        let n : CodeNo = record { 0 = s.names } in
        sure-less (R (counted s)) (R s) (after (all_cases inner (site_at place level depth) t cs (counted s)) (λ zs. give (procedure n (cases zs) false)))
        (runs (all_cases inner (site_at place level depth) t cs) (λ zs. give (procedure n (cases zs) false)) (each-runs (one_case inner (site_at place level depth) t) (λ c. case-runs c.formals c.body) cs) (λ zs. gives (procedure n (cases zs) false)) (counted s) start.onward.0 start.safe)
        (λ a u g. goes-then own texts rs s (counted s) u start g)

    -- `letrec`.

    init-runs : (f : FrameNo) (z : BoundSpec) → Runs (one_init inner (site_at place level depth) f z)
    unfolding one_init
    init-runs f z = runs (inner.form (site_at place level depth) (stamp f z.init)) (λ c. give (record { label = z.label; value = c })) (form-runs place level depth (stamp f z.init)) (λ c. gives {A = Init} (record { label = z.label; value = c }))

    pub letrec-runs : (star : Bool) (bs : List BindingSpec) (forms : List Tree) → Runs (letrec_form inner (site_at place level depth) (letrec_parts t star bs forms))
    unfolding letrec_form
    letrec-runs star bs forms = within-runs (λ s. after (fresh_frame s) (letrec_in inner (site_at place level depth) (letrec_parts t star bs forms))) (framed (letrec_in inner (site_at place level depth) (letrec_parts t star bs forms)) inside)
      where
        inside : (f : FrameNo) → f.0.library ≡ own → Runs (letrec_in inner (site_at place level depth) (letrec_parts t star bs forms) f)
        inside f mine s b y =
            go own texts rs s (bind_specs f place level bs s) (λ ls s'. after (all_inits inner (site_at place level depth) f ls s') (λ is s''. after (body inner (site_at place level depth) t (map (stamp f) forms) s'') (λ c. give (letrec star (inits is) c))))
            (sure-less (λ zs u. Light own texts rs s u × BindsAll own f s (map spec_label zs) u) (R s) (bind_specs f place level bs s)
            (sure-with (λ zs u. Light own texts rs s u) (λ zs u. BindsAll own f s (map spec_label zs) u) (bind_specs f place level bs s) (specs-light own texts rs f place level bs s y) (binds-specs own f place level bs s b.sound.next))
            (λ zs u k. goes-but own texts rs f false (map spec_label zs) [] s u b k.0 k.1.later k.1.adds))
            (λ zs u g. runs (all_inits inner (site_at place level depth) f zs) (λ is s''. after (body inner (site_at place level depth) t (map (stamp f) forms) s'') (λ c. give (letrec star (inits is) c))) (each-runs (one_init inner (site_at place level depth) f) (init-runs f) zs)
            (λ is. runs (body inner (site_at place level depth) t (map (stamp f) forms)) (λ c. give (letrec star (inits is) c)) (body-runs (map (stamp f) forms)) (λ c. gives (letrec star (inits is) c))) u g.onward.0 g.safe)

  -- `syntax-case`.

  module _ (place : Span) (level depth : ℕ) (literals : List Tree) where
    fender-runs : (f : FrameNo) (o : Option Tree) → Runs (fender inner (site_at place level depth) f o)
    fender-runs f None = gives {A = Option PlainCore} None
    fender-runs f (Some t) = runs (inner.form (site_at place level depth) (stamp f t)) (λ c. give (Some c)) (form-runs place level depth (stamp f t)) (λ c. gives {A = Option PlainCore} (Some c))

    clause-framed : (c : PatternCase) → Runs (λ s. after (fresh_frame s) (clause_in inner (site_at place level depth) literals c))
    unfolding fresh_frame
    clause-framed c s b y =
        let f = as_frame s.names in
        let z = counted s in
        let start = goes-counted own texts rs s b y in
        let moves = holds.spares.safe.moves in
        sure-less (R z) (R s) (clause_in inner (site_at place level depth) literals c f z)
        (sure-after (λ p u. Light own texts rs z u × Patterned own z p u) (R z) (pattern_of literals place c.pattern z) _
        (sure-with (λ p u. Light own texts rs z u) (Patterned own z) (pattern_of literals place c.pattern z) (pattern-light own texts rs literals place c.pattern z b.sound.next start.safe) (pattern-later own literals place c.pattern z b.sound.next))
        (λ p u k. sure-after (λ (a : Unit {0}) v. Light own texts rs u v × BindsPattern own inner moves place level depth literals f z p v) (R z) (bind_pattern f place level p.variables u) _
        (sure-with (λ (a : Unit {0}) v. Light own texts rs u v) (λ a v. BindsPattern own inner moves place level depth literals f z p v) (bind_pattern f place level p.variables u) (bind-pattern-light own texts rs f place level p.variables u k.0.safe)
        (pattern-bound own inner moves place level depth literals f p z u k.1))
        (λ a v j.
        let adds = pattern-adds own inner moves place level depth literals f p z v j.1 in
        let g = goes-but own texts rs f false _ _ z v start.onward.0 (light-then own texts rs z u v k.0 j.0) adds.0 adds.1.0 in
        sure-less (R v) (R z) (after (fender inner (site_at place level depth) f c.fender v) (λ e w. after (inner.form (site_at place level depth) (stamp f c.output) w) (λ o. give (record { pattern = p.pattern; fender = e; output = o }))))
        (runs (fender inner (site_at place level depth) f c.fender) (λ e w. after (inner.form (site_at place level depth) (stamp f c.output) w) (λ o. give (record { pattern = p.pattern; fender = e; output = o }))) (fender-runs f c.fender)
        (λ e. runs (inner.form (site_at place level depth) (stamp f c.output)) (λ o. give (record { pattern = p.pattern; fender = e; output = o })) (form-runs place level depth (stamp f c.output)) (λ o. gives {A = Clause} (record { pattern = p.pattern; fender = e; output = o })))
        v g.onward.0 g.safe)
        (λ d w i. goes-then own texts rs z v w g i))))
        (λ d u g. goes-then own texts rs s z u start g)

    clause-runs : (c : PatternCase) → Runs (pattern_clause inner (site_at place level depth) literals c)
    unfolding pattern_clause
    clause-runs c = within-runs (λ s. after (fresh_frame s) (clause_in inner (site_at place level depth) literals c)) (clause-framed c)

    pub syntax-case-runs : (subject : Tree) (cs : List PatternCase) (span : Span) → Runs (syntax_case inner (site_at place level depth) (syntax_case_parts subject literals cs span))
    unfolding syntax_case
    syntax-case-runs subject cs span =
        runs (inner.form (site_at place level depth) subject) (λ c s'. after (check_literals place literals s') (λ _ s''. after (all_clauses inner (site_at place level depth) literals cs s'') (λ zs. give (matching c (clauses zs) span)))) (form-runs place level depth subject)
        (λ c. runs (check_literals place literals) (λ _ s''. after (all_clauses inner (site_at place level depth) literals cs s'') (λ zs. give (matching c (clauses zs) span)))
        (λ s b y. goes-light own texts rs s (check_literals place literals s) b (literals-light own texts rs literals place s y) (literals-later own literals place s b.sound.next))
        (λ a. runs (all_clauses inner (site_at place level depth) literals cs) (λ zs. give (matching c (clauses zs) span)) (each-runs (pattern_clause inner (site_at place level depth) literals) clause-runs cs) (λ zs. gives (matching c (clauses zs) span))))

  pub keywords-form-runs : (place : Span) (level depth : ℕ) (recursive : Bool) (bs : List BindingSpec) (forms : List Tree) → Runs (keywords_form inner (site_at place level depth) (let_syntax_parts recursive bs forms))
  unfolding keywords_form
  keywords-form-runs place level depth recursive bs forms =
      runs (with_keywords inner (site_at place level depth) (let_syntax_parts recursive bs forms)) (in_sequence inner (site_at place level depth)) (λ s b y. keywords-go own texts rs x inner holds place level depth recursive bs forms s b y) (λ zs. sequence-runs place level depth zs)
