-- Forms nest as deep as they may, however deep they may nest inside.
use Rattle.std.proofs.Common.{◌≡◌, ℕ, zero, suc, ◌+◌, ◌*◌, ◌≤◌, Bool, true, false, List, [], ◌∷◌, map, Option, None, Some, Result, refl, arith}
use Rattle.std.specs.Prelude.{nat_lt}
use Rattle.base_data.specs.Act.{after, give}
use Rattle.base_data.specs.Elements.{Each}
use Rattle.base_data.specs.declared.fault.Fault.{Fault}
use Rattle.base_data.specs.declared.name.FrameNo.{FrameNo}
use Rattle.base_data.specs.declared.name.Label.{Label}
use Rattle.base_data.specs.declared.span.Span.{Span}
use Rattle.stx_tree.specs.Changes.{stamp}
use Rattle.stx_tree.specs.Tree.{Tree}
use Rattle.core_language.specs.Core.{PlainCore, two_armed, assignment, letrec, call, instance, matching, cores}
use Rattle.core_language.specs.CoreView.{inits, clauses}
use Rattle.core_language.specs.declared.code.Init.{Init}
use Rattle.core_language.specs.declared.code.Lambda.{Lambda}
use Rattle.core_language.specs.declared.record.CompiledLibrary.{CompiledLibrary}
use Rattle.core_shapes.specs.At.{place_of}
use Rattle.core_shapes.specs.declared.shape.BindingSpec.{BindingSpec}
use Rattle.core_shapes.specs.declared.shape.FormalIds.{FormalIds}
use Rattle.core_shapes.specs.declared.shape.LambdaCase.{LambdaCase}
use Rattle.core_shapes.specs.declared.shape.PatternCase.{PatternCase}
use Rattle.expand_standing.specs.Binders.{bind_specs, bind_formals}
use Rattle.expand_standing.specs.Patterns.{pattern_of, check_literals, bind_pattern}
use Rattle.expand_standing.specs.State.{State, Does, fresh, fresh_frame}
use Rattle.expand_standing.specs.declared.binders.BoundSpec.{BoundSpec}
use Rattle.expand_heads.specs.Depth.{deeper, most_round}
use Rattle.expand_heads.specs.declared.item.Item.{Item}
use Rattle.expand_heads.specs.declared.item.Item.TheVariants as items
use Rattle.expand_heads.specs.declared.plan.Plan.{Plan}
use Rattle.expand_heads.specs.declared.plan.Plan.TheVariants as plans
use Rattle.expand_heads.specs.declared.taken.BodyAt.{BodyAt}
use Rattle.expand_heads.specs.declared.taken.Taken.{Taken}
use Rattle.expand_forms.specs.Body as expand_body
use Rattle.expand_forms.specs.Body.{splice, perform_item, item, body, sequence_of}
use Rattle.expand_forms.specs.Expression.{in_order, case_in, lambda_case, lambda, one_case, all_cases, case_lambda, one_init, all_inits, letrec_in, letrec_form, application, alternate, conditional, set, in_sequence, fender, clause_in, pattern_clause, all_clauses, syntax_case, keywords_form, perform, perform_settled, form_at, inside}
use Rattle.expand_forms.specs.Inside.{Inside}
use Rattle.expand_forms.specs.Keywords.{with_keywords, define_syntax}
use Rattle.expand_forms.specs.Quasi.{quasi_form}
use Rattle.expand_forms.specs.ExpandUses.{expand_uses, expand_item_uses}
use Rattle.expand_forms.specs.declared.expand_uses.PlannedItem.{PlannedItem}
use Rattle.expand_forms.specs.Site.{site_at}
use Rattle.expand_forms.specs.Forms.{definition_parts, if_parts, let_syntax_parts, letrec_parts, procedure_parts, syntax_case_parts, template_parts}
use Rattle.law_expand.proofs.Acts.{Gave, gave-after, gave-any, gave-if, gave-less, gave-within}
use Rattle.law_expand.proofs.Naming.{as_frame, counted}
use Rattle.law_expand.proofs.Nesting.{not-deep, deeper-next, deeper-up}
use Rattle.law_expand.proofs.NestingBinding.{Pairs, pairs-each}
use Rattle.law_expand.proofs.NestingForms.{IsShort, expand_uses-short}
use Rattle.law_nesting.specs.Heights.{Between}
use Rattle.law_nesting.specs.Nesting.{deepest, IsAtMostText}
use Rattle.law_nesting.proofs.Bodies.{Nests, AreDeep, gave-all, splice-nests, body-nests}
use Rattle.law_nesting.proofs.Heights.{Low, LowCase, LowInit, LowFender, LowClause, alone-low, low-at, one_armed-low, two_armed-low, assignment-low, in-sequence-low, call-low, lambda-low, case_lambda-low, letrec-low, matching-low}
use Rattle.law_nesting.proofs.Items.{expand_uses-deep}
use Rattle.law_nesting.proofs.Quasi.{quasi-nests}

-- whatever an action gives
done-any : {A : Type 0} (r : Result (A × State) Fault) → Gave (λ (a : A) u. Unit {0}) r
done-any {A} r = gave-any (λ (a : A) u. Unit {0}) r (λ a u. tt)

module _ (between : Between) (few : IsAtMostText between) (go : Inside) (nests : Nests between few go) where
  module _ (place : Span) (level depth : ℕ) where
    abbrev C : ℕ → PlainCore → State → Type 0
    C n c u = Low between few depth n c

    abbrev All : List PlainCore → State → Type 0
    All cs u = Each (Low between few depth deepest) cs

    order-nests : (forms : List Tree) (s : State) → Gave All (in_order go (site_at place level depth) forms s)
    order-nests forms s =
        gave-less (λ cs u. Pairs (λ (x : Tree). Low between few depth deepest) forms cs) All (in_order go (site_at place level depth) forms s)
        (gave-all (go.form (site_at place level depth)) (λ x. Low between few depth deepest) (λ x t. nests.form place level depth x t) forms s)
        (λ cs u k. pairs-each (λ (x : Tree). Low between few depth deepest) (Low between few depth deepest) (λ x c j. j) forms cs k)

    module _ (room : depth ≤ most_round + 1) where
      application-nests : (operator : Tree) (operands : List Tree) (s : State) → Gave (C (deepest + 4)) (application go (site_at place level depth) operator operands s)
      unfolding application
      application-nests operator operands s =
          gave-after (C deepest) (C (deepest + 4)) (go.form (site_at place level depth) operator s) (λ c s'. after (in_order go (site_at place level depth) operands s') (λ cs. give (call c (cores cs)))) (nests.form place level depth operator s)
          (λ c t j. gave-after All (C (deepest + 4)) (in_order go (site_at place level depth) operands t) (λ cs. give (call c (cores cs))) (order-nests operands t)
          (λ cs u k. call-low between few depth deepest (deepest + 4) (omega arith) (omega (arith, room)) c cs j k))

      alternate-nests : (c d : PlainCore) (o : Option Tree) (s : State) → C deepest c s → C deepest d s → Gave (C (deepest + 4)) (alternate go (site_at place level depth) c d o s)
      alternate-nests c d None s j k = one_armed-low between few depth deepest (deepest + 4) (omega arith) c d j k
      alternate-nests c d (Some x) s j k =
          gave-after (C deepest) (C (deepest + 4)) (go.form (site_at place level depth) x s) (λ e. give (two_armed c d e)) (nests.form place level depth x s)
          (λ e u i. two_armed-low between few depth deepest (deepest + 4) (omega arith) c d e j k i)

      conditional-nests : (test consequent : Tree) (other : Option Tree) (s : State) → Gave (C (deepest + 4)) (conditional go (site_at place level depth) (if_parts test consequent other) s)
      unfolding conditional
      conditional-nests test consequent other s =
          gave-after (C deepest) (C (deepest + 4)) (go.form (site_at place level depth) test s) (λ c s'. after (go.form (site_at place level depth) consequent s') (λ d. alternate go (site_at place level depth) c d other)) (nests.form place level depth test s)
          (λ c t j. gave-after (C deepest) (C (deepest + 4)) (go.form (site_at place level depth) consequent t) (λ d. alternate go (site_at place level depth) c d other) (nests.form place level depth consequent t)
          (λ d u k. alternate-nests c d other u j k))

      set-nests : (l : Label) (value : Tree) (s : State) → Gave (C (deepest + 4)) (set go (site_at place level depth) l value s)
      unfolding set
      set-nests l value s = gave-after (C deepest) (C (deepest + 4)) (go.form (site_at place level depth) value s) (λ c. give (assignment l c)) (nests.form place level depth value s) (λ c u k. assignment-low between few depth deepest (deepest + 4) (omega arith) l c k)

      sequence-nests : (forms : List Tree) (s : State) → Gave (C (deepest + 4)) (in_sequence go (site_at place level depth) forms s)
      unfolding in_sequence
      sequence-nests forms s = gave-after All (C (deepest + 4)) (in_order go (site_at place level depth) forms s) (λ cs. give (sequence_of cs)) (order-nests forms s) (λ cs u k. in-sequence-low between few depth deepest (deepest + 4) (omega arith) (omega (arith, room)) cs k)

      keywords-nest : (recursive : Bool) (bs : List BindingSpec) (forms : List Tree) (s : State) → Gave (C (deepest + 4)) (keywords_form go (site_at place level depth) (let_syntax_parts recursive bs forms) s)
      unfolding keywords_form
      keywords-nest recursive bs forms s =
          gave-after (λ (xs : List Tree) u. Unit {0}) (C (deepest + 4)) (with_keywords go (site_at place level depth) (let_syntax_parts recursive bs forms) s) (in_sequence go (site_at place level depth)) (done-any (with_keywords go (site_at place level depth) (let_syntax_parts recursive bs forms) s))
          (λ xs u k. sequence-nests xs u)

      -- Procedures and `letrec`.

      module _ (t : Tree) where
        abbrev K : Lambda → State → Type 0
        K c u = LowCase between few depth (deepest + 2) c

        pub case-nests : (ids : FormalIds) (forms : List Tree) (s : State) → Gave K (lambda_case go (site_at place level depth) (procedure_parts t ids forms) s)
        unfolding lambda_case fresh_frame
        case-nests ids forms s =
            let f = as_frame s.names in
            gave-within K (λ u. after (fresh_frame u) (case_in go (site_at place level depth) (procedure_parts t ids forms))) s
            (gave-after (λ x u. Unit {0}) K (bind_formals f place level ids (counted s)) (λ x u. after (body go (site_at place level depth) t (map (stamp f) forms) u) (λ c. give (record { formals = x; body = c }))) (done-any (bind_formals f place level ids (counted s)))
            (λ x u k. gave-after (λ c v. Low between few depth (deepest + 2) c) K (body go (site_at place level depth) t (map (stamp f) forms) u) (λ c. give (record { formals = x; body = c }))
            (body-nests between few go nests place level depth t (map (stamp f) forms) u room) (λ c v j. j)))

        lambda-nests : (ids : FormalIds) (forms : List Tree) (s : State) → Gave (C (deepest + 4)) (lambda go (site_at place level depth) (procedure_parts t ids forms) s)
        unfolding lambda fresh
        lambda-nests ids forms s =
            gave-after K (C (deepest + 4)) (lambda_case go (site_at place level depth) (procedure_parts t ids forms) (counted s)) _ (case-nests ids forms (counted s))
            (λ c u k. lambda-low between few depth (deepest + 2) (deepest + 4) (omega arith) (omega (arith, room)) (record { 0 = s.names }) (c ∷ []) (k, tt))

        case_lambda-nests : (cs : List LambdaCase) (s : State) → Gave (C (deepest + 4)) (case_lambda go (site_at place level depth) t cs s)
        unfolding case_lambda fresh
        case_lambda-nests cs s =
            gave-after (λ xs u. Pairs (λ (x : LambdaCase). LowCase between few depth (deepest + 2)) cs xs) (C (deepest + 4)) (all_cases go (site_at place level depth) t cs (counted s)) _
            (gave-all (one_case go (site_at place level depth) t) (λ x. LowCase between few depth (deepest + 2)) (λ x u. case-nests x.formals x.body u) cs (counted s))
            (λ xs u k. case_lambda-low between few depth (deepest + 2) (deepest + 4) (omega arith) (omega (arith, room)) (record { 0 = s.names }) xs
            (pairs-each (λ (x : LambdaCase). LowCase between few depth (deepest + 2)) (LowCase between few depth (deepest + 2)) (λ x c j. j) cs xs k))

        init-nests : (f : FrameNo) (b : BoundSpec) (s : State) → Gave (λ i u. LowInit between few depth deepest i) (one_init go (site_at place level depth) f b s)
        unfolding one_init
        init-nests f b s = gave-after (C deepest) (λ i u. LowInit between few depth deepest i) (go.form (site_at place level depth) (stamp f b.init) s) (λ c. give (record { label = b.label; value = c })) (nests.form place level depth (stamp f b.init) s) (λ c u k. k)

        letrec-nests : (star : Bool) (bs : List BindingSpec) (forms : List Tree) (s : State) → Gave (C (deepest + 4)) (letrec_form go (site_at place level depth) (letrec_parts t star bs forms) s)
        unfolding letrec_form fresh_frame
        letrec-nests star bs forms s =
            let f = as_frame s.names in
            let some = map (stamp f) forms in
            gave-within (C (deepest + 4)) (λ u. after (fresh_frame u) (letrec_in go (site_at place level depth) (letrec_parts t star bs forms))) s
            (gave-after (λ xs u. Unit {0}) (C (deepest + 4)) (bind_specs f place level bs (counted s)) _ (done-any (bind_specs f place level bs (counted s)))
            (λ xs u k. gave-after (λ is v. Pairs (λ (b : BoundSpec). LowInit between few depth deepest) xs is) (C (deepest + 4)) (all_inits go (site_at place level depth) f xs u) (λ is v. after (body go (site_at place level depth) t some v) (λ c. give (letrec star (inits is) c)))
            (gave-all (one_init go (site_at place level depth) f) (λ b. LowInit between few depth deepest) (λ b v. init-nests f b v) xs u)
            (λ is v j. gave-after (λ c w. Low between few depth (deepest + 2) c) (C (deepest + 4)) (body go (site_at place level depth) t some v) (λ c. give (letrec star (inits is) c)) (body-nests between few go nests place level depth t some v room)
            (λ c w i. letrec-low between few depth deepest (deepest + 2) (deepest + 4) (omega arith) (omega arith) (omega (arith, room)) star is c
            (pairs-each (λ (b : BoundSpec). LowInit between few depth deepest) (LowInit between few depth deepest) (λ b x q. q) xs is j) i))))

      -- `syntax-case`.

      module _ (literals : List Tree) where
        fender-nests : (f : FrameNo) (o : Option Tree) (s : State) → Gave (λ e u. LowFender between few depth deepest e) (fender go (site_at place level depth) f o s)
        fender-nests f None s = tt
        fender-nests f (Some x) s = gave-after (C deepest) (λ e u. LowFender between few depth deepest e) (go.form (site_at place level depth) (stamp f x) s) (λ c. give (Some c)) (nests.form place level depth (stamp f x) s) (λ c u k. k)

        clause-nests : (c : PatternCase) (s : State) → Gave (λ x u. LowClause between few depth deepest x) (pattern_clause go (site_at place level depth) literals c s)
        unfolding pattern_clause fresh_frame
        clause-nests c s =
            let f = as_frame s.names in
            gave-within (λ x u. LowClause between few depth deepest x) (λ u. after (fresh_frame u) (clause_in go (site_at place level depth) literals c)) s
            (gave-after (λ p u. Unit {0}) (λ x u. LowClause between few depth deepest x) (pattern_of literals place c.pattern (counted s)) _ (done-any (pattern_of literals place c.pattern (counted s)))
            (λ p t j. gave-after (λ (x : Unit {0}) u. Unit {0}) (λ x u. LowClause between few depth deepest x) (bind_pattern f place level p.variables t) _ (done-any (bind_pattern f place level p.variables t))
            (λ x u b. gave-after (λ e v. LowFender between few depth deepest e) (λ y w. LowClause between few depth deepest y) (fender go (site_at place level depth) f c.fender u) _ (fender-nests f c.fender u)
            (λ e v k. gave-after (C deepest) (λ y w. LowClause between few depth deepest y) (go.form (site_at place level depth) (stamp f c.output) v) (λ o. give (record { pattern = p.pattern; fender = e; output = o })) (nests.form place level depth (stamp f c.output) v)
            (λ o w i. record { fender = k; output = i })))))

        syntax_case-nests : (subject : Tree) (cs : List PatternCase) (span : Span) (s : State) → Gave (C (deepest + 4)) (syntax_case go (site_at place level depth) (syntax_case_parts subject literals cs span) s)
        unfolding syntax_case
        syntax_case-nests subject cs span s =
            gave-after (C deepest) (C (deepest + 4)) (go.form (site_at place level depth) subject s) _ (nests.form place level depth subject s)
            (λ c t j. gave-after (λ (x : Unit {0}) u. Unit {0}) (C (deepest + 4)) (check_literals place literals t) (λ _ u. after (all_clauses go (site_at place level depth) literals cs u) (λ xs. give (matching c (clauses xs) span))) (done-any (check_literals place literals t))
            (λ x u k. gave-after (λ xs v. Pairs (λ (y : PatternCase). LowClause between few depth deepest) cs xs) (C (deepest + 4)) (all_clauses go (site_at place level depth) literals cs u) (λ xs. give (matching c (clauses xs) span))
            (gave-all (pattern_clause go (site_at place level depth) literals) (λ y. LowClause between few depth deepest) (λ y v. clause-nests y v) cs u)
            (λ xs v i. matching-low between few depth deepest (deepest + 4) (omega arith) (omega (arith, room)) c xs span j
            (pairs-each (λ (y : PatternCase). LowClause between few depth deepest) (LowClause between few depth deepest) (λ y z q. q) cs xs i))))

  -- A form.

  module _ (place : Span) (level depth : ℕ) (t : Tree) (room : depth ≤ most_round) where
    inner : deeper depth ≤ most_round + 1
    inner = let e = deeper-next depth room in omega (arith, e, room)

    -- what was made one deeper
    made : (n : ℕ) (c : PlainCore) → n ≤ deepest + 4 → Low between few (deeper depth) n c → Low between few depth deepest c
    made n c most h = low-at between few (deeper depth) n depth deepest c (let e = deeper-next depth room in omega (arith, e, most)) h

    brought : (r : Result (PlainCore × State) Fault) → Gave (λ c u. Low between few (deeper depth) (deepest + 4) c) r → Gave (λ c u. Low between few depth deepest c) r
    brought r h = gave-less (λ c u. Low between few (deeper depth) (deepest + 4) c) (λ c u. Low between few depth deepest c) r h (λ c u k. made (deepest + 4) c (omega arith) k)

    performs : (p : Plan) (s : State) → IsShort p → Gave (λ c u. Low between few depth deepest c) (perform go (site_at place level depth) t p s)
    unfolding perform
    performs (plans.Done c) s k = alone-low between few depth deepest c k (omega (arith, room))
    performs (plans.Call operator operands) s k = brought (application go (site_at place level (deeper depth)) operator operands s) (application-nests place level (deeper depth) inner operator operands s)
    performs (plans.Conditional test consequent other) s k = brought (conditional go (site_at place level (deeper depth)) (if_parts test consequent other) s) (conditional-nests place level (deeper depth) inner test consequent other s)
    performs (plans.Assignment l value) s k = brought (set go (site_at place level (deeper depth)) l value s) (set-nests place level (deeper depth) inner l value s)
    performs (plans.Sequence forms) s k = brought (in_sequence go (site_at place level (deeper depth)) forms s) (sequence-nests place level (deeper depth) inner forms s)
    performs (plans.Lambda ids forms) s k = brought (lambda go (site_at place level (deeper depth)) (procedure_parts t ids forms) s) (lambda-nests place level (deeper depth) inner t ids forms s)
    performs (plans.CaseLambda cs) s k = brought (case_lambda go (site_at place level (deeper depth)) t cs s) (case_lambda-nests place level (deeper depth) inner t cs s)
    performs (plans.Letrec star bs forms) s k = brought (letrec_form go (site_at place level (deeper depth)) (letrec_parts t star bs forms) s) (letrec-nests place level (deeper depth) inner t star bs forms s)
    performs (plans.Matching subject literals cs span) s k = brought (syntax_case go (site_at place level (deeper depth)) (syntax_case_parts subject literals cs span) s) (syntax_case-nests place level (deeper depth) inner literals subject cs span s)
    performs (plans.Keywords recursive bs forms) s k = brought (keywords_form go (site_at place level (deeper depth)) (let_syntax_parts recursive bs forms) s) (keywords-nest place level (deeper depth) inner recursive bs forms s)
    performs (plans.Quasi which template) s k =
        gave-less (λ c u. Low between few (deeper depth) deepest c) (λ c u. Low between few depth deepest c) (quasi_form go (site_at place level (deeper depth)) (template_parts t which template) s) (quasi-nests between few go nests place level t (deeper depth) which template s)
        (λ c u j. made deepest c (omega arith) j)

  form-nests : (place : Span) (level depth : ℕ) (t : Tree) (s : State) → Gave (λ c u. Low between few depth deepest c) (form_at go (site_at place level depth) t s)
  unfolding form_at
  form-nests place level depth t s =
      gave-if (λ c u. Low between few depth deepest c) (nat_lt most_round depth) _ (after (expand_uses go.earlier place level t s) (perform_settled go level depth)) (λ e. tt)
      (λ e. gave-after (λ d u. IsShort d.plan) (λ c u. Low between few depth deepest c) (expand_uses go.earlier place level t s) (perform_settled go level depth) (expand_uses-short go.earlier s.uses_left place level t s)
      (λ d u k. performs d.place level depth d.form (not-deep depth e) d.plan u k))

  -- A form of a body.

  module _ (base depth : ℕ) (deep : base ≤ depth) where
    item-performs : (at : BodyAt) (d : Taken) (t : Tree) (i : Item) (s : State) → AreDeep base d → Gave (λ e u. AreDeep base e) (perform_item go at depth d t i s)
    unfolding perform_item
    item-performs at d t items.Nothing s h = h
    item-performs at d t (items.Forms forms) s h = splice-nests between few go nests at base (deeper depth) d forms s (let up = deeper-up depth in omega (arith, up, deep)) h
    item-performs at d t (items.Keyword b) s h =
        gave-after (λ x u. Unit {0}) (λ e u. AreDeep base e) (define_syntax go at (deeper depth) d (definition_parts t b) s) (λ _. give d) (done-any (define_syntax go at (deeper depth) d (definition_parts t b) s)) (λ x u k. h)
    item-performs at d t (items.Keywords recursive bs forms) s h =
        gave-after (λ xs u. Unit {0}) (λ e u. AreDeep base e) (with_keywords go (site_at at.place at.level (deeper depth)) (let_syntax_parts recursive bs forms) s) (splice go at (deeper depth) d) (done-any (with_keywords go (site_at at.place at.level (deeper depth)) (let_syntax_parts recursive bs forms) s))
        (λ xs u k. splice-nests between few go nests at base (deeper depth) d xs u (let up = deeper-up depth in omega (arith, up, deep)) h)

    item-nests : (at : BodyAt) (d : Taken) (t : Tree) (s : State) → AreDeep base d → Gave (λ e u. AreDeep base e) (item go at depth d t s)
    unfolding item
    item-nests at d t s h =
        gave-if (λ e u. AreDeep base e) (nat_lt most_round depth) _ (after (expand_item_uses go.earlier at depth d t s) (expand_body.perform_settled go depth)) (λ e. tt)
        (λ e. gave-after (λ (p : Taken × PlannedItem) u. AreDeep base p.0) (λ x u. AreDeep base x) (expand_item_uses go.earlier at depth d t s) (expand_body.perform_settled go depth)
        (expand_uses-deep base depth deep (not-deep depth e) go.earlier s.uses_left at d t s h)
        (λ p u j. item-performs p.1.at p.0 p.1.form p.1.item u j))

-- So it is inside forms, however deep they may nest.
pub inside-nests : (between : Between) (few : IsAtMostText between) (rs : List CompiledLibrary) (room : ℕ) → Nests between few (inside rs room)
unfolding inside
inside-nests between few rs zero = record {
  form = λ place level depth t s. tt;
  procedure = λ place level depth t ids forms s le. tt;
  item = λ at base depth d t s le h. tt;
}
inside-nests between few rs (suc room) =
    let nests = inside-nests between few rs room in
    record {
      form = form-nests between few (inside rs room) nests;
      procedure = λ place level depth t ids forms s le. case-nests between few (inside rs room) nests place level depth le t ids forms s;
      item = λ at base depth d t s le h. item-nests between few (inside rs room) nests base depth le at d t s h;
    }
