-- Whole forms: what expansion gives is related to its form, and refers to what identifiers stand for, however deep forms nest.
use Rattle.std.proofs.Common.{◌≡◌, ◌≤◌, ◌+◌, ℕ, zero, suc, Bool, true, false, List, [], ◌∷◌, ◌++◌, length, Option, None, Some, Result, Ok, refl, sym, ap, ◌∙◌, subst, arith, append-nil, inl, inr, if◌then◌else◌}
use Rattle.std.specs.Prelude.{nat_lt}
use Rattle.base_data.proofs.ElementLemmas.{each-implied}
use Rattle.base_data.specs.Act.{after, give, each}
use Rattle.base_data.specs.Elements.{Among, Each}
use Rattle.base_data.specs.declared.fault.Fault.{Fault}
use Rattle.base_data.specs.declared.fault.FaultKind.TheVariants as kind
use Rattle.base_data.specs.declared.library.LibName.{LibName}
use Rattle.base_data.specs.declared.library.LibName.TheVariants as library
use Rattle.base_data.specs.declared.name.FrameNo.{FrameNo}
use Rattle.base_data.specs.declared.name.Label.{Label}
use Rattle.base_data.specs.declared.name.Mark.{Mark}
use Rattle.base_data.specs.declared.span.Span.{Span}
use Rattle.stx_tree.specs.Context.{LeafContext}
use Rattle.stx_tree.specs.Tree.{Tree, atom, leaf, pair, vector}
use Rattle.stx_scope.specs.Stands.{stands}
use Rattle.core_language.specs.Template.{PlainTemplate}
use Rattle.core_language.specs.declared.core_form.CoreForm.TheVariants as core_forms
use Rattle.core_language.specs.Core.{PlainCore, variable, instance, assignment, procedure, call, matching, cores, one_armed, two_armed}
use Rattle.core_language.specs.CoreView.{cases, clauses}
use Rattle.core_language.specs.declared.record.CompiledLibrary.{CompiledLibrary}
use Rattle.core_quasi.specs.declared.word.Family.{Family}
use Rattle.expand_quasi.specs.Form.{form_of, parts_of, code_of}
use Rattle.expand_quasi.specs.declared.form.QuasiForm.{QuasiForm}
use Rattle.expand_quasi.specs.declared.form.QuasiForm.TheVariants as quasi_forms
use Rattle.expand_quasi.specs.declared.parts.PartForm.{PartForm}
use Rattle.core_shapes.specs.At.{place_of}
use Rattle.core_shapes.specs.Forms.{shape}
use Rattle.core_shapes.specs.Lists.{is_leaf}
use Rattle.core_shapes.specs.declared.shape.Shape.TheVariants as shapes
use Rattle.core_shapes.specs.declared.shape.BindingSpec.{BindingSpec}
use Rattle.core_shapes.specs.declared.shape.FormalIds.{FormalIds}
use Rattle.core_shapes.specs.declared.shape.LambdaCase.{LambdaCase}
use Rattle.core_shapes.specs.declared.shape.PatternCase.{PatternCase}
use Rattle.expand_standing.specs.Patterns.{check_literals, template_of}
use Rattle.expand_standing.specs.State.{State, fresh, fault_form}
use Rattle.expand_heads.specs.Depth.{deeper, most_round}
use Rattle.expand_heads.specs.Items.{define_keyword}
use Rattle.expand_heads.specs.declared.item.Item.{Item}
use Rattle.expand_heads.specs.declared.item.Item.TheVariants as of_items
use Rattle.expand_heads.specs.declared.plan.Plan.{Plan}
use Rattle.expand_heads.specs.declared.plan.Plan.TheVariants as plans
use Rattle.expand_heads.specs.declared.taken.BodyAt.{BodyAt}
use Rattle.expand_heads.specs.declared.taken.Taken.{Taken}
use Rattle.expand_forms.specs.Body as expand_body
use Rattle.expand_forms.specs.Body.{splice, perform_item, item, sequence_of}
use Rattle.expand_forms.specs.Expression.{in_order, lambda_case, lambda, all_cases, case_lambda, application, alternate, conditional, set, in_sequence, all_clauses, syntax_case, keywords_form, perform, perform_settled, form_at, inside}
use Rattle.expand_forms.specs.Inside.{Inside}
use Rattle.expand_forms.specs.Keywords.{expand_transformer, with_keywords, define_syntax}
use Rattle.expand_forms.specs.Quasi.{part_core, parts_in_order, quasi_made, quasi_form}
use Rattle.expand_forms.specs.ExpandUses.{expand_uses, expand_item_uses}
use Rattle.expand_forms.specs.declared.expand_uses.PlannedForm.{PlannedForm}
use Rattle.expand_forms.proofs.Steps.{earlier_inside}
use Rattle.expand_forms.specs.Site.{site_at}
use Rattle.expand_forms.specs.Forms.{definition_parts, if_parts, let_syntax_parts, procedure_parts, syntax_case_parts, template_parts}
use Rattle.law_expand.specs.States.{Later}
use Rattle.law_expand.proofs.Acts.{Gave, gave-any, gave-both, gave-after, gave-less, gave-if, told, each-nil, each-cons}
use Rattle.law_expand.proofs.Later.{later-then}
use Rattle.law_expand.proofs.QuasiLater.{form-same, moved-code}
use Rattle.law_expand.proofs.SpentBinding.{Same, literals-same}
use Rattle.law_expand.proofs.Uses.{literals-later}
use Rattle.law_expand.proofs.SparesQuasi.{same-told}
use Rattle.law_fresh.specs.Leaves.{OptionHolds, TreeHolds}
use Rattle.law_fresh.proofs.Trees.{OkHolds}
use Rattle.law_fresh_expansion.specs.Events.{HasKnownEvents}
use Rattle.law_fresh_expansion.specs.Known.{IsKnown, IsKnownFrame, IsNewAmong}
use Rattle.law_fresh_expansion.specs.Living.{Lives}
use Rattle.law_fresh_expansion.specs.States.{RecordsHold, FreshStateHolds}
use Rattle.law_fresh_expansion.proofs.Forms as forms
use Rattle.law_fresh_expansion.proofs.Inserts as inserts
use Rattle.law_fresh_expansion.proofs.Items as items
use Rattle.law_fresh_expansion.proofs.Plans as plan
use Rattle.law_fresh_expansion.proofs.PlannedForm as settled
use Rattle.law_fresh_expansion.proofs.Shapes.{FormalsHold, LambdaHolds, PatternCaseHolds, ShapeHolds, shape-holds}
use Rattle.law_fresh_expansion.proofs.Standing as standing
use Rattle.law_references.specs.Changes.{placed, between, body_change}
use Rattle.law_references.specs.Expands.{counted, Expands, settles, Performs, refers, is_done, is_template, QuasiCodes, calls, tests, chooses, assigns, follows, makes, makes_cases, matches_one, has_keywords, fills, Expand, none, more, CaseBinds, ExpandedBind, Match}
use Rattle.law_references.specs.Expands.{KeywordMeans, BindsKeywords, TakesForm, takes, Acts, is_taken, takes_forms, defines_keyword, takes_among, Take}
use Rattle.law_references.specs.Namings.{Naming, names_variable, namings, all_namings, case_namings, clause_namings}
use Rattle.law_references.specs.Noted.{Reference, Noted, only, of_references, both, named}
use Rattle.law_references.specs.Templates.{IsTemplateOf}
use Rattle.law_references.proofs.Coding.{QuasiTemplateHolds, template-kept, Coded, code-coded}
use Rattle.law_references.proofs.Filling.{IsLow, forms_of, parts-are}
use Rattle.law_references.proofs.Settling.{IsTarget, Plans, Settles, expand_uses-so}
use Rattle.law_references.proofs.SettlingItems.{settled-item-holds}
use Rattle.law_references.proofs.Staying as staying
use Rattle.law_references.proofs.Telling.{Untold, told-self, expand_uses-told, define-keyword-told, expand_uses-item-told, code-told}
use Rattle.law_references.proofs.Walking as walking

-- only leaves stand for something
pub leaf-stands : (t : Tree) (s : State) (l : Label) → stands s.frames t ≡ Some l → is_leaf t ≡ true
leaf-stands (atom r a) s l e = absurd (cc)
leaf-stands (leaf r x c) s l e = refl
leaf-stands (pair r a d) s l e = absurd (cc)
leaf-stands (vector r d) s l e = absurd (cc)

sequence-said : (cs : List PlainCore) → namings (sequence_of cs) ≡ all_namings (cores cs)
sequence-said [] = refl
sequence-said (c ∷ []) = sym (append-nil (namings c))
sequence-said (c ∷ (d ∷ cs)) = refl

module _ (libs : List LibName) (own : LibName) (core : Among libs library.Core) (new : IsNewAmong libs own) where
  abbrev K : ℕ → Mark → Type 0
  K n m = IsKnown libs own n m

  abbrev J : ℕ → FrameNo → Type 0
  J n f = IsKnownFrame libs own n f

  abbrev P : ℕ → LeafContext → Type 0
  P n c = HasKnownEvents libs own n c

  abbrev T : ℕ → Tree → Type 0
  T n t = TreeHolds (P n) t

  abbrev Ts : ℕ → List Tree → Type 0
  Ts n ts = Each (T n) ts

  abbrev lives : Lives own K J P
  lives = staying.lives libs own core new

  abbrev Kept : State → Reference → Type 0
  Kept u r = staying.Kept libs own core new u r

  abbrev Went : State → State → Type 0
  Went s u = staying.Went libs own core new s u

  abbrev Made : (Noted → Type 0) → List Naming → State → State → Type 0
  Made R m s u = staying.Made libs own core new R m s u

  module _ (rs : List CompiledLibrary) where
    abbrev FormMade : Span → ℕ → Tree → State → PlainCore → State → Type 0
    FormMade place level t s c u = walking.FormMade libs own core new rs place level t s c u

    abbrev PlanMade : Span → ℕ → Tree → Plan → State → PlainCore → State → Type 0
    PlanMade place level t p s c u = walking.PlanMade libs own core new rs place level t p s c u

    -- the expansion of a form that is a target's
    target-kept : (place : Span) (t : Tree) (l : Label) (value : Tree) (s u : State) → T s.names.number t → Went s u → (k : IsTarget place t l value s) → Kept u (record { leaf = k.0; state = s; label = l; code = variable l })
    target-kept place t l value s u g w k = record {
      leafy = leaf-stands k.0 s l k.1.1;
      known = known;
      code = inl (inl refl);
      stood = k.1.1;
      before = w.from.stage.up;
      now = staying.stays libs own core new s.names.number s u (omega arith) w.later k.0 known ∙ k.1.1;
    }
      where
        known : T s.names.number k.0
        known = (subst (OkHolds (ShapeHolds (P s.names.number))) k.1.0 (shape-holds (P s.names.number) core_forms.Set t place g)).0

    module _ (first : ℕ) (held : RecordsHold (P first) rs) (room : ℕ) (traced : walking.Traced libs own core new rs first held room) where
      abbrev F : State → Type 0
      F s = FreshStateHolds own K P first s

      abbrev go : Inside
      go = inside rs room

      goes : (s u : State) → F s → Went s u → F u
      goes s u h w = staying.goes libs own core new first s u h w

      from-to : (s u : State) → F s → FreshStateHolds own K P s.names.number u → F u
      from-to s u h k = standing.state-then own K J P lives first s u h k

      counted-at : (s : State) → F s → F (counted s)
      counted-at s h = from-to s (counted s) h (standing.counted-holds own K J P lives first s h)

      one-more : (s : State) → s.names.number ≤ (counted s).names.number
      one-more s = omega arith

      -- the operand of a form
      operand-known : (place : Span) (t operand : Tree) (s : State) → T s.names.number t → shape core_forms.Syntax t place ≡ Ok (shapes.Operand operand) → T s.names.number operand
      operand-known place t operand s g e = subst (OkHolds (ShapeHolds (P s.names.number))) e (shape-holds (P s.names.number) core_forms.Syntax t place g)

      -- the template of a quasi form
      abbrev TemplateAt : ℕ → QuasiForm → Type 0
      TemplateAt n q = QuasiTemplateHolds (P n) q

      abbrev Goes : {A : Type 0} → (A → State → Type 0) → State → A → State → Type 0
      Goes M s a u = Went s u × M a u

      form-went : (place : Span) (level depth : ℕ) (t : Tree) (s : State) → F s → T s.names.number t → Gave (Goes (FormMade place level t s) s) (go.form (site_at place level depth) t s)
      form-went place level depth t s h k = walking.form-went libs own core new rs first held room traced place level depth t s h k

      order-went : (place : Span) (level depth : ℕ) (ts : List Tree) (s : State) → F s → Ts s.names.number ts → Gave (Goes (walking.FormsMade libs own core new rs place level ts s) s) (in_order go (site_at place level depth) ts s)
      order-went place level depth ts s h k = walking.order-went libs own core new rs first held room traced place level depth ts s h k

      tree-up : (m n : ℕ) → m ≤ n → (t : Tree) → T m t → T n t
      tree-up m n le t h = standing.tree-up own K J P lives first m n le t h

      module _ (place : Span) (level depth : ℕ) (t : Tree) where
        application-made : (operator : Tree) (operands : List Tree) (s : State) → F s → T s.names.number operator → Ts s.names.number operands → Gave (PlanMade place level t (plans.Call operator operands) s) (application go (site_at place level depth) operator operands s)
        unfolding application
        application-made operator operands s h k g =
            gave-after (Goes (FormMade place level operator s) s) (PlanMade place level t (plans.Call operator operands) s) (go.form (site_at place level depth) operator s) _ (form-went place level depth operator s h k)
            (λ c v w. gave-after (Goes (walking.FormsMade libs own core new rs place level operands v) v) (PlanMade place level t (plans.Call operator operands) s) (in_order go (site_at place level depth) operands v) (λ cs. give (call c (cores cs)))
            (order-went place level depth operands v (goes s v h w.0) (standing.trees-up own K J P lives first s.names.number v.names.number w.0.from.stage.up operands g))
            (λ cs u z. staying.made-joined libs own core new (λ refs. Expands rs (placed place level) operator c (between s v refs)) (λ refs. Expand rs (placed place level) operands cs (between v u refs)) (λ refs. Performs rs (placed place level) t (plans.Call operator operands) (call c (cores cs)) (between s u refs))
            (namings c) (all_namings (cores cs)) s v u z.0.later w.1 z.1 (λ refs others i j. calls i j)))

        conditional-made : (test consequent : Tree) (o : Option Tree) (s : State) → F s → T s.names.number test → T s.names.number consequent → OptionHolds (T s.names.number) o
            → Gave (PlanMade place level t (plans.Conditional test consequent o) s) (conditional go (site_at place level depth) (if_parts test consequent o) s)
        unfolding conditional
        conditional-made test consequent o s h k g q =
            gave-after (Goes (FormMade place level test s) s) (PlanMade place level t (plans.Conditional test consequent o) s) (go.form (site_at place level depth) test s) _ (form-went place level depth test s h k)
            (λ c v w. gave-after (Goes (FormMade place level consequent v) v) (PlanMade place level t (plans.Conditional test consequent o) s) (go.form (site_at place level depth) consequent v) (λ d. alternate go (site_at place level depth) c d o)
            (form-went place level depth consequent v (goes s v h w.0) (tree-up s.names.number v.names.number w.0.from.stage.up consequent g))
            (λ d y z. by o q c v w d y z))
          where
            by : (o : Option Tree) → OptionHolds (T s.names.number) o → (c : PlainCore) (v : State) → Goes (FormMade place level test s) s c v → (d : PlainCore) (y : State) → Goes (FormMade place level consequent v) v d y
                → Gave (PlanMade place level t (plans.Conditional test consequent o) s) (alternate go (site_at place level depth) c d o y)
            by None q c v w d y z =
                staying.made-joined libs own core new (λ refs. Expands rs (placed place level) test c (between s v refs)) (λ refs. Expands rs (placed place level) consequent d (between v y refs)) (λ refs. Performs rs (placed place level) t (plans.Conditional test consequent None) (one_armed c d) (between s y refs))
                (namings c) (namings d) s v y z.0.later w.1 z.1 (λ refs others i j. tests i j)
            by (Some other) q c v w d y z =
                let up = w.0.from.stage.up in
                let up-more = z.0.from.stage.up in
                gave-after (Goes (FormMade place level other y) y) (PlanMade place level t (plans.Conditional test consequent (Some other)) s) (go.form (site_at place level depth) other y) (λ e. give (two_armed c d e))
                (form-went place level depth other y (goes v y (goes s v h w.0) z.0) (tree-up s.names.number y.names.number (omega (arith, up, up-more)) other q))
                (λ e u x.
                let Two : Noted → Type 0 = λ refs. (early : Noted) × ((late : Noted) × ((refs ≡ both early late) × (Expands rs (placed place level) consequent d (between v y early) × Expands rs (placed place level) other e (between y u late)))) in
                let All : Noted → Type 0 = λ refs. Performs rs (placed place level) t (plans.Conditional test consequent (Some other)) (two_armed c d e) (between s u refs) in
                staying.made-joined libs own core new (λ refs. Expands rs (placed place level) test c (between s v refs)) Two All (namings c) (namings d ++ namings e) s v u (staying.went-then libs own core new first v y u z.0 x.0).later w.1
                (staying.made-joined libs own core new (λ refs. Expands rs (placed place level) consequent d (between v y refs)) (λ refs. Expands rs (placed place level) other e (between y u refs)) Two (namings d) (namings e) v y u x.0.later z.1 x.1 (λ refs others i j. (refs, (others, (refl, (i, j))))))
                (λ refs others i j. subst (λ (ls : Noted). All (both refs ls)) (sym j.1.1.0) (chooses i j.1.1.1.0 j.1.1.1.1)))

        set-made : (l : Label) (value : Tree) (s : State) → F s → T s.names.number t → T s.names.number value → IsTarget place t l value s → Gave (PlanMade place level t (plans.Assignment l value) s) (set go (site_at place level depth) l value s)
        unfolding set
        set-made l value s h g k q =
            gave-after (Goes (FormMade place level value s) s) (PlanMade place level t (plans.Assignment l value) s) (go.form (site_at place level depth) value s) (λ c. give (assignment l c)) (form-went place level depth value s h k)
            (λ c u z.
            let r : Reference = record { leaf = q.0; state = s; label = l; code = variable l } in
            record {
              noted = both (only r) z.1.noted;
              is = assigns q.1.0 q.1.1 z.1.is;
              all = ap (λ ns. names_variable l ∷ ns) z.1.all;
              kept = (target-kept place t l value s u g z.0 q, z.1.kept);
              expressions = z.1.expressions;
              told = z.1.told;
            })

        abbrev SequenceMade : List Tree → State → PlainCore → State → Type 0
        SequenceMade ts s c u = (cs : List PlainCore) × ((c ≡ sequence_of cs) × Made (λ refs. Expand rs (placed place level) ts cs (between s u refs)) (namings c) s u)

        sequence-made : (ts : List Tree) (s : State) → F s → Ts s.names.number ts → Gave (SequenceMade ts s) (in_sequence go (site_at place level depth) ts s)
        unfolding in_sequence
        sequence-made ts s h k =
            gave-after (Goes (walking.FormsMade libs own core new rs place level ts s) s) (SequenceMade ts s) (in_order go (site_at place level depth) ts s) (λ cs. give (sequence_of cs)) (order-went place level depth ts s h k)
            (λ cs u z. (cs, (refl, staying.made-so libs own core new (λ refs. Expand rs (placed place level) ts cs (between s u refs)) (λ refs. Expand rs (placed place level) ts cs (between s u refs)) (all_namings (cores cs)) (namings (sequence_of cs)) s u z.1 (λ refs i. i) (sequence-said cs))))

        in-sequence-made : (ts : List Tree) (s : State) → F s → Ts s.names.number ts → Gave (PlanMade place level t (plans.Sequence ts) s) (in_sequence go (site_at place level depth) ts s)
        in-sequence-made ts s h k =
            gave-less (SequenceMade ts s) (PlanMade place level t (plans.Sequence ts) s) (in_sequence go (site_at place level depth) ts s) (sequence-made ts s h k)
            (λ c u z. subst (λ (x : PlainCore). PlanMade place level t (plans.Sequence ts) s x u) (sym z.1.0)
            (staying.made-so libs own core new (λ refs. Expand rs (placed place level) ts z.0 (between s u refs)) (λ refs. Performs rs (placed place level) t (plans.Sequence ts) (sequence_of z.0) (between s u refs)) (namings c) (namings (sequence_of z.0)) s u z.1.1 (λ refs i. follows i) (ap namings (sym z.1.0))))

        lambda-made : (ids : FormalIds) (fs : List Tree) (s : State) → F s → FormalsHold (P s.names.number) ids → Ts s.names.number fs → Gave (PlanMade place level t (plans.Lambda ids fs) s) (lambda go (site_at place level depth) (procedure_parts t ids fs) s)
        unfolding lambda fresh
        lambda-made ids fs s h k g =
            gave-after (walking.CaseMade libs own core new rs place level t ids fs (counted s)) (PlanMade place level t (plans.Lambda ids fs) s) (lambda_case go (site_at place level depth) (procedure_parts t ids fs) (counted s)) _
            (walking.case-made libs own core new rs first held room traced place level depth t ids fs (counted s) (counted-at s h) (items.formals-up own K J P lives first s.names.number (s.names.number + 1) (one-more s) ids k) (standing.trees-up own K J P lives first s.names.number (s.names.number + 1) (one-more s) fs g))
            (λ c u z. staying.made-from libs own core new (λ refs. CaseBinds rs (placed place level) (procedure_parts t ids fs) c (between (counted s) u refs)) (λ refs. Performs rs (placed place level) t (plans.Lambda ids fs) (procedure (record { 0 = s.names }) (cases (c ∷ [])) true) (between s u refs)) (namings c.body) (namings c.body ++ []) s (counted s) u (told-self s) z (λ refs i. makes i) (append-nil (namings c.body)))

        case-lambda-made : (xs : List LambdaCase) (s : State) → F s → Each (LambdaHolds (P s.names.number)) xs → Gave (PlanMade place level t (plans.CaseLambda xs) s) (case_lambda go (site_at place level depth) t xs s)
        unfolding case_lambda fresh
        case-lambda-made xs s h k =
            gave-after (λ cs u. Went (counted s) u × Made (λ refs. ExpandedBind rs (placed place level) t xs cs (between (counted s) u refs)) (case_namings (cases cs)) (counted s) u) (PlanMade place level t (plans.CaseLambda xs) s) (all_cases go (site_at place level depth) t xs (counted s)) _
            (walking.cases-went libs own core new rs first held room traced place level depth t xs (counted s) (counted-at s h)
            (each-implied (LambdaHolds (P s.names.number)) (LambdaHolds (P (s.names.number + 1))) (walking.lambda-case-up libs own core new rs first held room traced s.names.number (s.names.number + 1) (one-more s)) xs k))
            (λ cs u z. staying.made-from libs own core new (λ refs. ExpandedBind rs (placed place level) t xs cs (between (counted s) u refs)) (λ refs. Performs rs (placed place level) t (plans.CaseLambda xs) (procedure (record { 0 = s.names }) (cases cs) false) (between s u refs)) (case_namings (cases cs)) (case_namings (cases cs)) s (counted s) u (told-self s) z.1 (λ refs i. makes_cases i) refl)

        matching-made : (subject : Tree) (literals : List Tree) (xs : List PatternCase) (span : Span) (s : State) → F s → T s.names.number subject → Each (PatternCaseHolds (P s.names.number)) xs
            → Gave (PlanMade place level t (plans.Matching subject literals xs span) s) (syntax_case go (site_at place level depth) (syntax_case_parts subject literals xs span) s)
        unfolding syntax_case
        matching-made subject literals xs span s h k g =
            gave-after (Goes (FormMade place level subject s) s) (PlanMade place level t (plans.Matching subject literals xs span) s) (go.form (site_at place level depth) subject s) _ (form-went place level depth subject s h k)
            (λ c v w.
            let hv = goes s v h w.0 in
            let up = w.0.from.stage.up in
            gave-after (λ e y. Later own v y × ((FreshStateHolds own K P v.names.number y × Unit {0}) × (check_literals place literals v ≡ Ok (e, y)))) (PlanMade place level t (plans.Matching subject literals xs span) s) (check_literals place literals v) _
            (gave-both (λ e y. Later own v y) (λ e y. (FreshStateHolds own K P v.names.number y × Unit {0}) × (check_literals place literals v ≡ Ok (e, y))) (check_literals place literals v) (literals-later own literals place v hv.stage.library)
            (staying.gave-from libs own core new first (λ n e. Unit {0}) v (check_literals place literals v) (standing.literals-hold own K J P lives first literals place v hv)))
            (λ e y q.
            let up-more = q.1.0.0.stage.up in
            gave-after (λ cs u. Went y u × Made (λ refs. Match rs (placed place level) literals xs cs (between y u refs)) (clause_namings (clauses cs)) y u) (PlanMade place level t (plans.Matching subject literals xs span) s) (all_clauses go (site_at place level depth) literals xs y) (λ cs. give (matching c (clauses cs) span))
            (walking.clauses-went libs own core new rs first held room traced place level depth literals xs y (from-to v y hv q.1.0.0)
            (each-implied (PatternCaseHolds (P s.names.number)) (PatternCaseHolds (P y.names.number)) (forms.pattern-case-up own K J P lives first go (walking.keeps libs own core new rs first held room) s.names.number y.names.number (omega (arith, up, up-more))) xs g))
            (λ cs u z.
            let Rest : Noted → Type 0 = λ refs. Match rs (placed place level) literals xs cs (between y u refs) in
            staying.made-joined libs own core new (λ refs. Expands rs (placed place level) subject c (between s v refs)) Rest (λ refs. Performs rs (placed place level) t (plans.Matching subject literals xs span) (matching c (clauses cs) span) (between s u refs))
            (namings c) (clause_namings (clauses cs)) s v u (later-then own v y u q.0 z.0.later) w.1
            (staying.made-from libs own core new Rest Rest (clause_namings (clauses cs)) (clause_namings (clauses cs)) v y u (same-told v y (told (Same v) (check_literals place literals v) e y (literals-same literals place v) q.1.1)) z.1 (λ refs i. i) refl)
            (λ refs others i j. matches_one i q.1.1 j))))

        keywords-made : (recursive : Bool) (bs : List BindingSpec) (fs : List Tree) (s : State) → F s → Each (standing.SpecAt own K J P lives first s.names.number) bs → Ts s.names.number fs
            → Gave (PlanMade place level t (plans.Keywords recursive bs fs) s) (keywords_form go (site_at place level depth) (let_syntax_parts recursive bs fs) s)
        unfolding keywords_form
        keywords-made recursive bs fs s h k g =
            let bound = with_keywords go (site_at place level depth) (let_syntax_parts recursive bs fs) s in
            let Keywords : List Tree → State → Type 0 = λ xs v. staying.Bound libs own core new (λ es. BindsKeywords rs (placed place level) (let_syntax_parts recursive bs fs) xs (between s v es)) s v in
            gave-after (λ xs v. (FreshStateHolds own K P s.names.number v × Ts v.names.number xs) × Keywords xs v) (PlanMade place level t (plans.Keywords recursive bs fs) s) bound (in_sequence go (site_at place level depth))
            (staying.gave-and libs own core new first Ts Keywords s bound (forms.with-keywords-holds own K J P lives first go (walking.keeps libs own core new rs first held room) place level depth recursive bs fs s h k g)
            (walking.keywords-made libs own core new rs first held room traced place level depth recursive bs fs s h k))
            (λ xs v z. gave-less (SequenceMade xs v) (PlanMade place level t (plans.Keywords recursive bs fs) s) (in_sequence go (site_at place level depth) xs v) (sequence-made xs v (from-to s v h z.0.0) z.0.1)
            (λ c u y. subst (λ (x : PlainCore). PlanMade place level t (plans.Keywords recursive bs fs) s x u) (sym y.1.0)
            (staying.bound-made libs own core new (λ es. BindsKeywords rs (placed place level) (let_syntax_parts recursive bs fs) xs (between s v es)) (λ refs. Expand rs (placed place level) xs y.0 (between v u refs)) (λ refs. Performs rs (placed place level) t (plans.Keywords recursive bs fs) (sequence_of y.0) (between s u refs)) (namings c) (namings (sequence_of y.0)) s v u z.1 y.1.1
            (λ es refs i j. has_keywords i j) (ap namings (sym y.1.0)))))

        -- Quasi forms.

        form-up : (m n : ℕ) → m ≤ n → (q : QuasiForm) → inserts.FormAt own K J P lives first m q → TemplateAt n q
        form-up m n le (quasi_forms.Quote q) h = tt
        form-up m n le (quasi_forms.Syntax q) h = tree-up m n le q.template h.0

        abbrev PartMade : PartForm → State → PlainCore → State → Noted → Type 0
        PartMade p s c u refs = Expands rs (placed place level) p.form c (between s u refs)

        form-low : (room : ℕ) (d : ℕ) (x : Tree) (s : State) → Gave (λ c u. nat_lt most_round d ≡ false) ((inside rs room).form (site_at place level d) x s)
        unfolding inside form_at
        form-low zero d x s = tt
        form-low (suc room) d x s =
            gave-if (λ c u. nat_lt most_round d ≡ false) (nat_lt most_round d) _ (after (expand_uses (inside rs room).earlier place level x s) (perform_settled (inside rs room) level d)) (λ e. tt)
            (λ e. gave-any (λ c u. nat_lt most_round d ≡ false) (after (expand_uses (inside rs room).earlier place level x s) (perform_settled (inside rs room) level d)) (λ c u. e))

        abbrev AreLow : List PartForm → List PlainCore → State → Type 0
        AreLow ps cs u = Each IsLow ps × (length cs ≡ length ps)

        parts-low : (ps : List PartForm) (s : State) → Gave (AreLow ps) (parts_in_order go place level ps s)
        parts-low [] s = subst (λ (r : Result (List PlainCore × State) Fault). Gave (AreLow []) r) (sym (each-nil (part_core go place level) s)) (tt, refl)
        parts-low (p ∷ ps) s =
            subst (λ (r : Result (List PlainCore × State) Fault). Gave (AreLow (p ∷ ps)) r) (sym (each-cons (part_core go place level) p ps s))
            (gave-after (λ c u. nat_lt most_round p.depth ≡ false) (AreLow (p ∷ ps)) (part_core go place level p s) (λ a v. after (each (part_core go place level) [] ps v) (λ ys. give (a ∷ ys))) (form-low room p.depth p.form s)
            (λ c v e. gave-after (AreLow ps) (AreLow (p ∷ ps)) (parts_in_order go place level ps v) (λ ys. give (c ∷ ys)) (parts-low ps v) (λ cs u k. ((e, k.0), ap suc k.1))))

        quasi-made : (which : Family) (template : Tree) (s : State) → F s → T s.names.number t → T s.names.number template → Gave (PlanMade place level t (plans.Quasi which template) s) (quasi_form go (site_at place level depth) (template_parts t which template) s)
        unfolding quasi_form
        quasi-made which template s h k g =
            let made = form_of place t which template s in
            let So : PlainCore → State → Type 0 = PlanMade place level t (plans.Quasi which template) s in
            gave-after (λ q v. (FreshStateHolds own K P s.names.number v × inserts.FormAt own K J P lives first v.names.number q) × (made ≡ Ok (q, v))) So made (quasi_made go (site_at place level depth) t)
            (staying.gave-from libs own core new first (inserts.FormAt own K J P lives first) s made (inserts.form-of-holds own K J P lives first place t which template s h g))
            (λ q v z.
            let hv = from-to s v h z.0.0 in
            let ps = parts_of t depth q in
            gave-after (λ cs w. (Went v w × Made (λ refs. Expand rs (placed place level) (forms_of ps) cs (between v w refs)) (all_namings (cores cs)) v w) × AreLow ps cs w) So (parts_in_order go place level ps v) (code_of place level t q)
            (gave-both (λ cs w. Went v w × Made (λ refs. Expand rs (placed place level) (forms_of ps) cs (between v w refs)) (all_namings (cores cs)) v w) (AreLow ps) (parts_in_order go place level ps v)
            (walking.each-went libs own core new rs first held room traced (part_core go place level) (λ n p. T n p.form) (λ m n le p x. tree-up m n le p.form x) PartMade (λ ps s cs u refs. Expand rs (placed place level) (forms_of ps) cs (between s u refs)) namings (λ cs. all_namings (cores cs))
            (λ s. none) (λ p ps s v u c cs refs others i j. more i j) refl (λ c cs. refl) (λ p s h k. form-went place level p.depth p.form s h k) ps v hv
            (inserts.parts-of-hold own K J P lives first v.names.number t depth q (tree-up s.names.number v.names.number z.0.0.stage.up t k) z.0.1))
            (parts-low ps v))
            (λ cs w y.
            let code = code_of place level t q cs w in
            gave-less (λ c u. Later own w u × (Coded libs own core new place level t q cs w c u × Untold w c u)) So code
            (gave-both (λ c u. Later own w u) (λ c u. Coded libs own core new place level t q cs w c u × Untold w c u) code (moved-code own place level t q cs w (goes v w hv y.0.0).stage.library)
            (gave-both (Coded libs own core new place level t q cs w) (Untold w) code
            (code-coded libs own core new place level t first depth q cs w (goes v w hv y.0.0) (form-up v.names.number w.names.number y.0.0.from.stage.up q z.0.1) y.1.0 y.1.1) (code-told place level t q cs w)))
            (λ c u x.
            let Filled : Noted → Type 0 = λ refs. Expand rs (placed place level) (forms_of ps) cs (between v w refs) in
            let Coding : Noted → Type 0 = λ refs. QuasiCodes (placed place level) t q cs c (between w u refs) in
            let All : Noted → Type 0 = λ refs. Performs rs (placed place level) t (plans.Quasi which template) c (between s u refs) in
            let refs = x.1.0.references in
            let m = all_namings (cores cs) ++ named refs in
            let formed = same-told s v (ap (λ (y : State). y.keywords) (told (λ q v. v ≡ s) made q v (form-same place t which template s) z.1)) in
            let coded : Made Coding (named refs) w u = record { noted = of_references refs; is = x.1.0.is; all = refl; kept = x.1.0.kept; expressions = tt; told = λ l d e. inl (x.1.1 l d e) } in
            staying.made-from libs own core new All All m (namings c) s v u formed
            (staying.made-joined libs own core new Filled Coding All (all_namings (cores cs)) (named refs) v w u x.0 y.0.1 coded (λ others behind i j. fills z.1 (subst (λ (ts : List Tree). Expand rs (placed place level) ts cs (between v w others)) (parts-are t depth q y.1.0) i) j)) (λ refs i. i) x.1.0.all)))

      -- the template of a `syntax` form
      syntax-made : (place : Span) (level : ℕ) (t operand : Tree) (x : PlainTemplate) (refs : List Reference) (s : State) → T s.names.number t → shape core_forms.Syntax t place ≡ Ok (shapes.Operand operand)
          → template_of place level operand s ≡ Ok (x, s) → IsTemplateOf s (placed place level) operand x refs → PlanMade place level t (plans.Done (instance x (place_of t place))) s (instance x (place_of t place)) s
      syntax-made place level t operand x refs s g shaped made is = record {
        noted = of_references refs;
        is = is_template shaped made is;
        all = is.all;
        kept = template-kept libs own core new s s place level operand x refs (operand-known place t operand s g shaped) (omega arith) refl is;
        expressions = tt;
        told = λ l d e. inl e;
      }

      perform-made : (place : Span) (level depth : ℕ) (t : Tree) (p : Plan) (s : State) → F s → T s.names.number t → plan.PlanAt own K J P lives first s.names.number p → Plans level place t p s → Gave (PlanMade place level t p s) (perform go (site_at place level depth) t p s)
      unfolding perform
      perform-made place level depth t (plans.Done c) s h g k (inl q) = record {
        noted = only (record { leaf = t; state = s; label = q.0; code = c });
        is = refers q.1.0 q.1.1.0 q.1.1.1;
        all = sym (append-nil (namings c));
        kept = (record { leafy = q.1.0; known = g; code = inl q.1.1.1; stood = q.1.1.0; before = omega arith; now = q.1.1.0 }, tt);
        expressions = tt;
        told = λ l d e. inl e;
      }
      perform-made place level depth t (plans.Done c) s h g k (inr (inr q)) =
          subst (λ (d : PlainCore). PlanMade place level t (plans.Done d) s d s) (sym q.code) (syntax-made place level t q.operand q.template q.references s g q.shaped q.made q.is)
      perform-made place level depth t (plans.Done c) s h g k (inr (inl q)) = staying.made-none libs own core new (λ refs. Performs rs (placed place level) t (plans.Done c) c (between s s refs)) (namings c) s s (is_done q.0 q.1) q.1 (told-self s)
      perform-made place level depth t (plans.Call operator operands) s h g k q = application-made place level (deeper depth) t operator operands s h k.0 k.1
      perform-made place level depth t (plans.Conditional test consequent other) s h g k q = conditional-made place level (deeper depth) t test consequent other s h k.0 k.1.0 k.1.1
      perform-made place level depth t (plans.Assignment l value) s h g k q = set-made place level (deeper depth) t l value s h g k q
      perform-made place level depth t (plans.Sequence ts) s h g k q = in-sequence-made place level (deeper depth) t ts s h k
      perform-made place level depth t (plans.Lambda ids fs) s h g k q = lambda-made place level (deeper depth) t ids fs s h k.0 k.1
      perform-made place level depth t (plans.CaseLambda xs) s h g k q = case-lambda-made place level (deeper depth) t xs s h k
      perform-made place level depth t (plans.Letrec star bs fs) s h g k q = walking.letrec-made libs own core new rs first held room traced place level (deeper depth) t star bs fs s h k.0 k.1
      perform-made place level depth t (plans.Matching subject literals xs span) s h g k q = matching-made place level (deeper depth) t subject literals xs span s h k.0 k.1.1
      perform-made place level depth t (plans.Keywords recursive bs fs) s h g k q = keywords-made place level (deeper depth) t recursive bs fs s h k.0 k.1
      perform-made place level depth t (plans.Quasi which template) s h g k q = quasi-made place level (deeper depth) t which template s h g k

      abbrev SettledSo : Span → ℕ → Tree → State → PlannedForm → State → Type 0
      SettledSo place level t s d v = ((FreshStateHolds own K P s.names.number v × settled.SettledAt own K J P lives first rs held v.names.number d) × (expand_uses rs place level t s ≡ Ok (d, v))) × Settles rs level d v

      form-made : (place : Span) (level depth : ℕ) (t : Tree) (s : State) → F s → T s.names.number t → (es : List CompiledLibrary) → es ≡ rs
          → Gave (FormMade place level t s) (if nat_lt most_round depth then fault_form kind.TooDeep t place s else after (expand_uses es place level t s) (perform_settled go level depth))
      form-made place level depth t s h g es same =
          gave-if (FormMade place level t s) (nat_lt most_round depth) _ (after (expand_uses es place level t s) (perform_settled go level depth)) (λ e. tt)
          (λ e. subst (λ (xs : List CompiledLibrary). Gave (FormMade place level t s) (after (expand_uses xs place level t s) (perform_settled go level depth))) (sym same)
          (gave-after (SettledSo place level t s) (FormMade place level t s) (expand_uses rs place level t s) (perform_settled go level depth)
          (gave-both (λ d v. (FreshStateHolds own K P s.names.number v × settled.SettledAt own K J P lives first rs held v.names.number d) × (expand_uses rs place level t s ≡ Ok (d, v))) (Settles rs level) (expand_uses rs place level t s) (staying.gave-from libs own core new first (settled.SettledAt own K J P lives first rs held) s (expand_uses rs place level t s) (settled.expand_uses-to-holds own K J P lives first rs held s.uses_left place level t s h g)) (expand_uses-so rs level place t s))
          (λ d v z. gave-less (PlanMade d.place level d.form d.plan v) (FormMade place level t s) (perform go (site_at d.place level depth) d.form d.plan v) (perform-made d.place level depth d.form d.plan v (from-to s v h z.0.0.0) z.0.0.1.0 z.0.0.1.1 z.1)
          (λ c u y. staying.made-from libs own core new (λ refs. Performs rs (placed d.place level) d.form d.plan c (between v u refs)) (λ refs. Expands rs (placed place level) t c (between s u refs)) (namings c) (namings c) s v u (told (Untold s) (expand_uses rs place level t s) d v (expand_uses-told rs level place t s) z.0.1) y (λ refs i. settles z.0.1 i) refl))))

      -- Forms of a body.

      abbrev TakenAt : ℕ → Taken → Type 0
      TakenAt n d = items.TakenAt own K J P lives first n d

      abbrev ActsMade : BodyAt → ℕ → Taken → Tree → Item → State → Taken → State → Type 0
      ActsMade at depth d t i s e u = staying.Bound libs own core new (λ es. Acts rs at depth t i (body_change d s e u es)) s u

      keyword-item-made : (at : BodyAt) (depth : ℕ) (d : Taken) (t : Tree) (b : BindingSpec) (s : State) → F s → standing.SpecAt own K J P lives first s.names.number b
          → Gave (ActsMade at depth d t (of_items.Keyword b) s) (after (define_syntax go at (deeper depth) d (definition_parts t b) s) (λ _. give d))
      unfolding define_syntax
      keyword-item-made at depth d t b s h k =
          let made = define_keyword at d t b s in
          let So : Taken → State → Type 0 = ActsMade at depth d t (of_items.Keyword b) s in
          gave-after (λ x u. ActsMade at depth d t (of_items.Keyword b) s d u) So (after made (expand_transformer go (site_at at.place at.level (deeper depth)))) (λ _. give d)
          (gave-after (λ x v. ((FreshStateHolds own K P s.names.number v × standing.BoundHolds own K J P lives first v.names.number x) × (made ≡ Ok (x, v))) × Untold s x v) (λ x u. ActsMade at depth d t (of_items.Keyword b) s d u) made (expand_transformer go (site_at at.place at.level (deeper depth)))
          (gave-both (λ x v. (FreshStateHolds own K P s.names.number v × standing.BoundHolds own K J P lives first v.names.number x) × (made ≡ Ok (x, v))) (Untold s) made
          (staying.gave-from libs own core new first (standing.BoundHolds own K J P lives first) s made (items.define-keyword-holds own K J P lives first at (deeper depth) d t b s h k)) (define-keyword-told at (deeper depth) d t b s))
          (λ x v z. gave-less (λ y u. staying.Bound libs own core new (λ es. KeywordMeans rs (placed at.place at.level) x (between v u es)) v u) (λ y u. ActsMade at depth d t (of_items.Keyword b) s d u) (expand_transformer go (site_at at.place at.level (deeper depth)) x v)
          (walking.means-made libs own core new rs first held room traced at.place at.level (deeper depth) x v (from-to s v h z.0.0.0) z.0.0.1)
          (λ y u x. staying.bound-from libs own core new (λ es. KeywordMeans rs (placed at.place at.level) _ (between v u es)) (λ es. Acts rs at depth t (of_items.Keyword b) (body_change d s d u es)) s v u z.1 x (λ es i. defines_keyword z.0.1 i))))
          (λ x u y. y)

      acts-made : (at : BodyAt) (depth : ℕ) (d : Taken) (t : Tree) (i : Item) (s : State) → F s → TakenAt s.names.number d → T s.names.number t → items.ItemAt own K J P lives first s.names.number i → J s.names.number at.frame
          → Gave (ActsMade at depth d t i s) (perform_item go at depth d t i s)
      unfolding perform_item
      acts-made at depth d t of_items.Nothing s h k g y q = staying.bound-none libs own core new (λ es. Acts rs at depth t of_items.Nothing (body_change d s d s es)) s s is_taken (told-self s)
      acts-made at depth d t (of_items.Forms fs) s h k g y q =
          gave-less (walking.TakeMade libs own core new rs at (deeper depth) d fs s) (ActsMade at depth d t (of_items.Forms fs) s) (splice go at (deeper depth) d fs s)
          (walking.take-made libs own core new rs first held room traced at (deeper depth) d fs s h k y q)
          (λ e u x. staying.bound-from libs own core new (λ es. Take rs at (deeper depth) fs (body_change d s e u es)) (λ es. Acts rs at depth t (of_items.Forms fs) (body_change d s e u es)) s s u (told-self s) x (λ es i. takes_forms i))
      acts-made at depth d t (of_items.Keyword b) s h k g y q = keyword-item-made at depth d t b s h y
      acts-made at depth d t (of_items.Keywords recursive bs fs) s h k g y q =
          let bound = with_keywords go (site_at at.place at.level (deeper depth)) (let_syntax_parts recursive bs fs) s in
          let Keywords : List Tree → State → Type 0 = λ xs v. staying.Bound libs own core new (λ es. BindsKeywords rs (placed at.place at.level) (let_syntax_parts recursive bs fs) xs (between s v es)) s v in
          gave-after (λ xs v. (FreshStateHolds own K P s.names.number v × Ts v.names.number xs) × Keywords xs v) (ActsMade at depth d t (of_items.Keywords recursive bs fs) s) bound (splice go at (deeper depth) d)
          (staying.gave-and libs own core new first Ts Keywords s bound (forms.with-keywords-holds own K J P lives first go (walking.keeps libs own core new rs first held room) at.place at.level (deeper depth) recursive bs fs s h y.0 y.1)
          (walking.keywords-made libs own core new rs first held room traced at.place at.level (deeper depth) recursive bs fs s h y.0))
          (λ xs v z. gave-less (walking.TakeMade libs own core new rs at (deeper depth) d xs v) (ActsMade at depth d t (of_items.Keywords recursive bs fs) s) (splice go at (deeper depth) d xs v)
          (walking.take-made libs own core new rs first held room traced at (deeper depth) d xs v (from-to s v h z.0.0) (items.taken-up own K J P lives first s.names.number v.names.number z.0.0.stage.up d k) z.0.1 (lives.frames s.names.number v.names.number at.frame z.0.0.stage.up q))
          (λ e u x. staying.bound-joined libs own core new (λ es. BindsKeywords rs (placed at.place at.level) (let_syntax_parts recursive bs fs) xs (between s v es)) (λ es. Take rs at (deeper depth) xs (body_change d v e u es)) (λ es. Acts rs at depth t (of_items.Keywords recursive bs fs) (body_change d s e u es)) s v u z.1 x (λ es others i j. takes_among i j)))

      item-made : (at : BodyAt) (depth : ℕ) (d : Taken) (t : Tree) (s : State) → F s → TakenAt s.names.number d → T s.names.number t → J s.names.number at.frame → Gave (walking.TakesMade libs own core new rs at depth d t s) (item go at depth d t s)
      unfolding item
      item-made at depth d t s h k g q =
          let So : Taken → State → Type 0 = walking.TakesMade libs own core new rs at depth d t s in
          gave-if So (nat_lt most_round depth) _ (after (expand_item_uses go.earlier at depth d t s) (expand_body.perform_settled go depth)) (λ e. tt)
          (λ e. subst (λ (es : List CompiledLibrary). Gave So (after (expand_item_uses es at depth d t s) (expand_body.perform_settled go depth))) (sym (earlier_inside rs room))
          (gave-after (λ p v. ((FreshStateHolds own K P s.names.number v × settled.SettledItemAt own K J P lives first rs held v.names.number p) × (expand_item_uses rs at depth d t s ≡ Ok (p, v))) × Untold s p v) So (expand_item_uses rs at depth d t s) (expand_body.perform_settled go depth)
          (gave-both (λ p v. (FreshStateHolds own K P s.names.number v × settled.SettledItemAt own K J P lives first rs held v.names.number p) × (expand_item_uses rs at depth d t s ≡ Ok (p, v))) (Untold s) (expand_item_uses rs at depth d t s)
          (staying.gave-from libs own core new first (settled.SettledItemAt own K J P lives first rs held) s (expand_item_uses rs at depth d t s) (settled-item-holds own K J P lives first rs held at depth d t s h k g q))
          (expand_uses-item-told rs depth at d t s))
          (λ p v z. gave-less (ActsMade p.1.at depth p.0 p.1.form p.1.item v) So (perform_item go p.1.at depth p.0 p.1.form p.1.item v)
          (acts-made p.1.at depth p.0 p.1.form p.1.item v (from-to s v h z.0.0.0) z.0.0.1.0 z.0.0.1.1.0 z.0.0.1.1.1.0 z.0.0.1.1.1.1)
          (λ e u y. staying.bound-from libs own core new (λ es. Acts rs p.1.at depth p.1.form p.1.item (body_change p.0 v e u es)) (λ es. TakesForm rs at depth t (body_change d s e u es)) s v u z.1 y (λ es i. takes z.0.1 i)))))

    -- so it is however deep forms nest
    pub all-traced : (first : ℕ) (held : RecordsHold (P first) rs) (room : ℕ) → walking.Traced libs own core new rs first held room
    unfolding inside form_at
    all-traced first held zero = record { form = λ place level depth t s h k. tt; procedure = λ place level depth t ids fs s h k g. tt; item = λ at depth d t s h k g q. tt }
    all-traced first held (suc room) =
        let inner = all-traced first held room in
        record {
          form = λ place level depth t s h g. form-made first held room inner place level depth t s h g (inside rs room).earlier (earlier_inside rs room);
          procedure = λ place level depth t ids fs s h k g. walking.case-made libs own core new rs first held room inner place level depth t ids fs s h k g;
          item = λ at depth d t s h k g q. item-made first held room inner at depth d t s h k g q;
        }
