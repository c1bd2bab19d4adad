-- How a form changes the state, whatever the state and the form.
use Rattle.std.proofs.Common.{◌≡◌, ℕ, zero, suc, ◌+◌, ◌<◌, Bool, true, false, List, [], ◌∷◌, map, Option, None, Some, Ok, refl, sym, subst, arith}
use Rattle.std.specs.Prelude.{nat_lt}
use Rattle.base_data.specs.Act.{after, give, gather}
use Rattle.base_data.specs.Elements.{Each}
use Rattle.base_data.specs.declared.library.LibName.{LibName}
use Rattle.base_data.specs.declared.name.FrameNo.{FrameNo}
use Rattle.base_data.specs.declared.name.Label.{Label}
use Rattle.base_data.specs.declared.span.Span.{Span}
use Rattle.stx_tree.specs.Changes.{stamp}
use Rattle.stx_tree.specs.Tree.{Tree}
use Rattle.core_language.specs.Core.{PlainCore, two_armed, assignment, letrec, call, matching, cores}
use Rattle.core_language.specs.CoreView.{inits, clauses}
use Rattle.core_language.specs.References.{formals_labels}
use Rattle.core_language.specs.declared.record.CompiledLibrary.{CompiledLibrary}
use Rattle.eval_pattern.specs.declared.compile.Compiled.{Compiled}
use Rattle.eval_pattern.specs.declared.compile.PatternVariable.{PatternVariable}
use Rattle.core_quasi.specs.declared.word.Family.{Family}
use Rattle.expand_quasi.specs.Form.{form_of, parts_of, code_of}
use Rattle.core_shapes.specs.At.{place_of}
use Rattle.core_shapes.specs.declared.shape.BindingSpec.{BindingSpec}
use Rattle.core_shapes.specs.declared.shape.FormalIds.{FormalIds}
use Rattle.core_shapes.specs.declared.shape.LambdaCase.{LambdaCase}
use Rattle.core_shapes.specs.declared.shape.PatternCase.{PatternCase}
use Rattle.expand_standing.specs.Binders.{bind_specs, bind_formals}
use Rattle.expand_standing.specs.InScope.{apart}
use Rattle.expand_standing.specs.Patterns.{pattern_of, check_literals, bind_pattern}
use Rattle.expand_standing.specs.State.{State, fresh, fresh_frame}
use Rattle.expand_standing.specs.Uses.{bind_keywords, evaluate_transformer}
use Rattle.expand_standing.specs.declared.binders.BoundSpec.{BoundSpec}
use Rattle.expand_heads.specs.Items.{begun, is_top, define_keyword}
use Rattle.expand_heads.specs.declared.item.Item.{Item}
use Rattle.expand_heads.specs.declared.item.Item.TheVariants as items
use Rattle.expand_heads.specs.declared.plan.Plan.{Plan}
use Rattle.expand_heads.specs.declared.plan.Plan.TheVariants as plans
use Rattle.expand_heads.specs.declared.taken.BodyAt.{BodyAt}
use Rattle.expand_heads.specs.declared.taken.Taken.{Taken}
use Rattle.expand_heads.specs.declared.taken.Waits.{Waits}
use Rattle.expand_heads.specs.declared.taken.Waits.TheVariants as waits
use Rattle.expand_forms.specs.Body as expand_body
use Rattle.expand_forms.specs.Body.{splice, perform_item, item, value_of, finish_as, finish_one, finish_all, body_core, finish, lambda_at, body_in, body, sequence_of}
use Rattle.expand_forms.specs.Expression.{in_order, case_in, lambda_case, lambda, one_case, all_cases, case_lambda, one_init, all_inits, letrec_in, letrec_form, application, alternate, conditional, set, in_sequence, fender, clause_in, pattern_clause, all_clauses, syntax_case, keywords_form, perform, perform_settled, form_at, inside}
use Rattle.expand_heads.specs.Depth.{deeper, most_round}
use Rattle.expand_forms.specs.Inside.{Inside}
use Rattle.expand_forms.specs.Keywords.{expand_transformer, seen_in, expand_transformer_in, expand_transformers, keywords, with_keywords, define_syntax}
use Rattle.expand_forms.specs.Quasi.{part_core, parts_in_order, quasi_made, quasi_form}
use Rattle.expand_forms.specs.ExpandUses.{expand_uses, expand_item_uses}
use Rattle.expand_forms.specs.Site.{site_at}
use Rattle.expand_forms.specs.Forms.{definition_parts, if_parts, let_syntax_parts, letrec_parts, procedure_parts, syntax_case_parts, template_parts}
use Rattle.law_expand.specs.InScope.{ScopeStays}
use Rattle.law_expand.specs.States.{IsOwn, IsKept, Keeps, Adds, Later, LaterBut}
use Rattle.law_expand.proofs.Acts.{Gave, gave-any, gave-both, gave-after, gave-within, gave-less, gave-if, gave-gather, told}
use Rattle.law_expand.proofs.Fresh.{Made, each-map, label_name, fresh-none}
use Rattle.law_expand.proofs.Scope.{adds-self, adds-later}
use Rattle.law_expand.proofs.Later.{keeps-self, keeps-then, later-self, later-then, later-framed, but-self, but-then, but-later}
use Rattle.law_expand.proofs.LineLabels.{kind_labels}
use Rattle.law_expand.proofs.Naming.{as_frame, counted, counted-later}
use Rattle.law_expand.proofs.BindingKeywords.{BindsKeywords, BindsPatterns, binds-keywords, keywords-kept, binds-patterns, pattern-adds-so}
use Rattle.law_expand.proofs.Compiled.{variable_label, variable_depth}
use Rattle.law_expand.proofs.Moved.{Names, Moved, Leaving, moved-after, moved-each, moved-counted, framed}
use Rattle.law_expand.proofs.QuasiLater.{form-same, moved-code}
use Rattle.law_expand.proofs.PlannedForm.{expand_uses-later}
use Rattle.law_expand.proofs.Uses.{Patterned, pattern-later, literals-later, finish-later, finish-kept, moved-apart}
use Rattle.law_expand.proofs.Binding.{BindsAll, spec_label, binds-formals, binds-specs}
use Rattle.law_expand.proofs.Items.{wait_kinds, Took, Takes, took-later, Settles, BindsOne, defines-keyword, expand_uses-takes}

-- nothing was taken yet
pub took-none : (own : LibName) (top : Bool) (s : State) → Took own top s begun s
took-none own top s = record { labels = fresh-none label_name own s.names.number s.names.number; up = omega arith; adds = adds-self own top s; value = λ e. cc }

-- what is done inside forms changes the state so
pub record Moves (own : LibName) (go : Inside) : Type 0 where
  pub form : (place : Span) (level depth : ℕ) (t : Tree) (s : State) → s.names.library ≡ own → Gave (λ c u. Later own s u) (go.form (site_at place level depth) t s)
  pub procedure : (place : Span) (level depth : ℕ) (t : Tree) (ids : FormalIds) (forms : List Tree) (s : State) → s.names.library ≡ own → Gave (λ c u. Later own s u) (go.procedure (site_at place level depth) (procedure_parts t ids forms) s)
  pub item : (at : BodyAt) (depth : ℕ) (d : Taken) (t : Tree) (start s : State) → s.names.library ≡ own → (is_top at.kind ≡ true → at.level ≡ 0) → Took own (is_top at.kind) start d s
      → Gave (Takes own at.frame (is_top at.kind) start s) (go.item at depth d t s)

module _ (own : LibName) (go : Inside) (moves : Moves own go) where
  -- Bodies.

  moved-value : (place : Span) (level depth : ℕ) (o : Option Tree) (s : State) → Names own s → Gave (Moved own s) (value_of go (site_at place level depth) o s)
  moved-value place level depth None s n = later-self own s n
  moved-value place level depth (Some t) s n = moves.form place level depth t s n

  pub moved-line : (level : ℕ) (place : Span) (depth : ℕ) (w : Waits) (s : State) → Names own s → Gave (Moved own s) (finish_as go (site_at place level depth) w s)
  unfolding finish_as fresh
  moved-line level place depth (waits.Variable l value) s n = moved-after own s (value_of go (site_at place level (deeper depth)) value s) _ (moved-value place level (deeper depth) value s n) (λ c t m. later-self own t m)
  moved-line level place depth (waits.Procedure l x ids forms) s n =
      moved-after own s (go.procedure (site_at place level (deeper depth)) (procedure_parts x ids forms) (counted s)) _ (moved-counted own s (go.procedure (site_at place level (deeper depth)) (procedure_parts x ids forms) (counted s)) n (moves.procedure place level (deeper depth) x ids forms (counted s) n))
      (λ c t m. later-self own t m)
  moved-line level place depth (waits.Expression x) s n = moved-after own s (go.form (site_at place level depth) x s) _ (moves.form place level depth x s n) (λ c t m. later-self own t m)

  moved-finish : (place : Span) (level : ℕ) (t : Tree) (d : Taken) (s : State) → Names own s → Gave (Moved own s) (finish go place level t d s)
  unfolding finish
  moved-finish place level t d s n = gave-if (Moved own s) d.has_expression _ _
      (λ e. moved-after own s (finish_all go level d.waiting s) (λ xs. give (body_core xs)) (moved-each own (finish_one go level) (λ w u m. moved-line level w.place w.depth w.what u m) d.waiting s n) (λ xs u m. later-self own u m))
      (λ e. tt)

  -- the first pass goes on
  pub splice-takes : (at : BodyAt) (depth : ℕ) (start : State) (d : Taken) (forms : List Tree) (s : State) → Names own s → (is_top at.kind ≡ true → at.level ≡ 0) → Took own (is_top at.kind) start d s
      → Gave (Takes own at.frame (is_top at.kind) start s) (splice go at depth d forms s)
  splice-takes at depth start d forms s n low k =
      gave-gather (go.item at depth) (λ e t. Takes own at.frame (is_top at.kind) start s e t)
      (λ e x t j. gave-less (Takes own at.frame (is_top at.kind) start t) (Takes own at.frame (is_top at.kind) start s) (go.item at depth e x t)
      (moves.item at depth e x start t j.later.next low j.took)
      (λ y u l. record { later = but-then own at.frame s t u j.later l.later; took = l.took; keeps = keeps-then own s t u j.later.up l.later.up j.keeps l.keeps }))
      d forms s (record { later = but-self own at.frame s n; took = k; keeps = keeps-self own s })

  -- the first pass from its start
  pub first-takes : (at : BodyAt) (depth : ℕ) (forms : List Tree) (s : State) → Names own s → (is_top at.kind ≡ true → at.level ≡ 0) → Gave (Takes own at.frame (is_top at.kind) s s) (splice go at depth begun forms s)
  first-takes at depth forms s n low = splice-takes at depth s begun forms s n low (took-none own (is_top at.kind) s)

  -- that of a body, in its new frame
  pub body-takes : (place : Span) (level depth : ℕ) (forms : List Tree) (s : State) → Names own s → Gave (Takes own (as_frame s.names) false (counted s) (counted s)) (splice go (lambda_at (as_frame s.names) place level) depth begun forms (counted s))
  body-takes place level depth forms s n = first-takes (lambda_at (as_frame s.names) place level) depth forms (counted s) n (λ e. absurd (cc))

  pub moved-body : (place : Span) (level depth : ℕ) (t : Tree) (forms : List Tree) (s : State) → Names own s → Gave (Moved own s) (body go (site_at place level depth) t forms s)
  unfolding body fresh_frame
  moved-body place level depth t forms s n =
      let first = splice go (lambda_at (as_frame s.names) place level) depth begun (map (stamp (as_frame s.names)) forms) (counted s) in
      gave-within (Moved own s) (λ u. after (fresh_frame u) (body_in go (site_at place level depth) t forms)) s
      (framed own (λ (d : Taken). kind_labels (wait_kinds d.waiting)) (λ d. []) s first (finish go place level t) n
      (gave-less (Takes own (as_frame s.names) false (counted s) (counted s)) _ first (body-takes place level depth (map (stamp (as_frame s.names)) forms) s n) (λ d u k. (k.later, (k.took.adds, k.keeps))))
      (λ d u m. moved-finish place level t d u m))

  -- Procedures and `letrec`.

  module _ (place : Span) (level depth : ℕ) (t : Tree) where
    pub moved-case : (ids : FormalIds) (forms : List Tree) (s : State) → Names own s → Gave (Moved own s) (lambda_case go (site_at place level depth) (procedure_parts t ids forms) s)
    unfolding lambda_case fresh_frame
    moved-case ids forms s n =
        let f = as_frame s.names in
        gave-within (Moved own s) (λ u. after (fresh_frame u) (case_in go (site_at place level depth) (procedure_parts t ids forms))) s
        (framed own formals_labels (λ x. []) s (bind_formals f place level ids (counted s)) _ n
        (gave-less (λ x u. BindsAll own f (counted s) (formals_labels x) u) _ (bind_formals f place level ids (counted s)) (binds-formals own f place level ids (counted s) n) (λ x u b. (b.later, (b.adds, b.keeps))))
        (λ x u m. moved-after own u (body go (site_at place level depth) t (map (stamp f) forms) u) (λ c. give (record { formals = x; body = c })) (moved-body place level depth t (map (stamp f) forms) u m) (λ c v l. later-self own v l)))

    moved-lambda : (ids : FormalIds) (forms : List Tree) (s : State) → Names own s → Gave (Moved own s) (lambda go (site_at place level depth) (procedure_parts t ids forms) s)
    unfolding lambda fresh
    moved-lambda ids forms s n =
        let r = lambda_case go (site_at place level depth) (procedure_parts t ids forms) (counted s) in
        moved-after own s r _ (moved-counted own s r n (moved-case ids forms (counted s) n)) (λ c u m. later-self own u m)

    moved-case_lambda : (cs : List LambdaCase) (s : State) → Names own s → Gave (Moved own s) (case_lambda go (site_at place level depth) t cs s)
    unfolding case_lambda fresh
    moved-case_lambda cs s n =
        let r = all_cases go (site_at place level depth) t cs (counted s) in
        moved-after own s r _ (moved-counted own s r n (moved-each own (one_case go (site_at place level depth) t) (λ c u m. moved-case c.formals c.body u m) cs (counted s) n)) (λ xs u m. later-self own u m)

    pub moved-init : (f : FrameNo) (b : BoundSpec) (s : State) → Names own s → Gave (Moved own s) (one_init go (site_at place level depth) f b s)
    unfolding one_init
    moved-init f b s n = moved-after own s (go.form (site_at place level depth) (stamp f b.init) s) _ (moves.form place level depth (stamp f b.init) s n) (λ c u m. later-self own u m)

    moved-inits : (f : FrameNo) (bs : List BoundSpec) (s : State) → Names own s → Gave (Moved own s) (all_inits go (site_at place level depth) f bs s)
    moved-inits f bs s n = moved-each own (one_init go (site_at place level depth) f) (moved-init f) bs s n

    moved-letrec : (star : Bool) (bs : List BindingSpec) (forms : List Tree) (s : State) → Names own s → Gave (Moved own s) (letrec_form go (site_at place level depth) (letrec_parts t star bs forms) s)
    unfolding letrec_form fresh_frame
    moved-letrec star bs forms s n =
        let f = as_frame s.names in
        gave-within (Moved own s) (λ u. after (fresh_frame u) (letrec_in go (site_at place level depth) (letrec_parts t star bs forms))) s
        (framed own (map spec_label) (λ xs. []) s (bind_specs f place level bs (counted s)) _ n
        (gave-less (λ xs u. BindsAll own f (counted s) (map spec_label xs) u) _ (bind_specs f place level bs (counted s)) (binds-specs own f place level bs (counted s) n) (λ xs u b. (b.later, (b.adds, b.keeps))))
        (λ xs u m. moved-after own u (all_inits go (site_at place level depth) f xs u) (λ is v. after (body go (site_at place level depth) t (map (stamp f) forms) v) (λ c. give (letrec star (inits is) c))) (moved-inits f xs u m)
        (λ is v l. moved-after own v (body go (site_at place level depth) t (map (stamp f) forms) v) (λ c. give (letrec star (inits is) c)) (moved-body place level depth t (map (stamp f) forms) v l) (λ c w o. later-self own w o))))

  -- Forms.

  module _ (place : Span) (level depth : ℕ) where
    moved-order : (forms : List Tree) (s : State) → Names own s → Gave (Moved own s) (in_order go (site_at place level depth) forms s)
    moved-order forms s n = moved-each own (go.form (site_at place level depth)) (moves.form place level depth) forms s n

    moved-application : (operator : Tree) (operands : List Tree) (s : State) → Names own s → Gave (Moved own s) (application go (site_at place level depth) operator operands s)
    unfolding application
    moved-application operator operands s n = moved-after own s (go.form (site_at place level depth) operator s) _ (moves.form place level depth operator s n)
        (λ c u m. moved-after own u (in_order go (site_at place level depth) operands u) (λ cs. give (call c (cores cs))) (moved-order operands u m) (λ cs v l. later-self own v l))

    moved-alternate : (c d : PlainCore) (o : Option Tree) (s : State) → Names own s → Gave (Moved own s) (alternate go (site_at place level depth) c d o s)
    moved-alternate c d None s n = later-self own s n
    moved-alternate c d (Some x) s n = moved-after own s (go.form (site_at place level depth) x s) (λ e. give (two_armed c d e)) (moves.form place level depth x s n) (λ e u m. later-self own u m)

    moved-conditional : (test consequent : Tree) (other : Option Tree) (s : State) → Names own s → Gave (Moved own s) (conditional go (site_at place level depth) (if_parts test consequent other) s)
    unfolding conditional
    moved-conditional test consequent other s n = moved-after own s (go.form (site_at place level depth) test s) _ (moves.form place level depth test s n)
        (λ c u m. moved-after own u (go.form (site_at place level depth) consequent u) (λ d. alternate go (site_at place level depth) c d other) (moves.form place level depth consequent u m) (λ d v l. moved-alternate c d other v l))

    moved-set : (l : Label) (value : Tree) (s : State) → Names own s → Gave (Moved own s) (set go (site_at place level depth) l value s)
    unfolding set
    moved-set l value s n = moved-after own s (go.form (site_at place level depth) value s) (λ c. give (assignment l c)) (moves.form place level depth value s n) (λ c u m. later-self own u m)

    moved-sequence : (forms : List Tree) (s : State) → Names own s → Gave (Moved own s) (in_sequence go (site_at place level depth) forms s)
    unfolding in_sequence
    moved-sequence forms s n = moved-after own s (in_order go (site_at place level depth) forms s) (λ cs. give (sequence_of cs)) (moved-order forms s n) (λ cs u m. later-self own u m)

  -- The expression of a keyword.

  -- it is kept then
  abbrev pub Keeping : State → BoundSpec → State → Type 0
  Keeping s b u = Later own s u × IsKept u b.label

  pub moved-keyword : (place : Span) (level depth : ℕ) (b : BoundSpec) (s : State) → Names own s → Gave (λ x u. Keeping s b u) (expand_transformer go (site_at place level depth) b s)
  unfolding expand_transformer
  moved-keyword place level depth b s n = gave-after (λ c u. Later own s u) (λ x u. Keeping s b u) (apart (go.form (site_at place (level + 1) depth) b.init) s) (evaluate_transformer go.earlier (place_of b.init place) b.label)
      (moved-apart own (go.form (site_at place (level + 1) depth) b.init) s (moves.form place (level + 1) depth b.init (record s { scope = [] }) n))
      (λ c u m. gave-less (λ x v. Later own u v × IsKept v b.label) (λ x v. Keeping s b v) (evaluate_transformer go.earlier (place_of b.init place) b.label c u)
      (gave-both (λ x v. Later own u v) (λ x v. IsKept v b.label) (evaluate_transformer go.earlier (place_of b.init place) b.label c u)
      (finish-later own go.earlier (place_of b.init place) b.label c u m.next) (finish-kept own go.earlier (place_of b.init place) b.label c u))
      (λ x v k. (later-then own s u v m k.0, k.1)))

  seen-label : (recursive : Bool) (f : FrameNo) (b : BoundSpec) → (seen_in recursive f b).label ≡ b.label
  seen-label true f b = refl
  seen-label false f b = refl

  -- all of these are kept
  abbrev pub KeepingAll : State → List BoundSpec → State → Type 0
  KeepingAll s bs u = Later own s u × Each (λ (b : BoundSpec). b.label.0.number < s.names.number → IsKept u b.label) bs

  moved-all : (place : Span) (level depth : ℕ) (recursive : Bool) (f : FrameNo) (bs : List BoundSpec) (s : State) → Names own s → Gave (λ x u. KeepingAll s bs u) (expand_transformers go (site_at place level depth) recursive f bs s)
  unfolding gather
  moved-all place level depth recursive f [] s n = (later-self own s n, tt)
  moved-all place level depth recursive f (b ∷ bs) s n =
      gave-after (λ x u. Keeping s (seen_in recursive f b) u) (λ x u. KeepingAll s (b ∷ bs) u) (expand_transformer_in go (site_at place level depth) recursive f tt b s) (λ e. gather (expand_transformer_in go (site_at place level depth) recursive f) e bs)
      (moved-keyword place level depth (seen_in recursive f b) s n)
      (λ x u k. gave-less (λ y v. KeepingAll u bs v) (λ y v. KeepingAll s (b ∷ bs) v) (expand_transformers go (site_at place level depth) recursive f bs u) (moved-all place level depth recursive f bs u k.0.next)
      (λ y v j. (
        later-then own s u v k.0 j.0,
        (
          (λ lt. j.0.keeps.kept b.label (omega (arith, lt, k.0.up)) (subst (λ (l : Label). IsKept u l) (seen-label recursive f b) k.1)),
          each-map (λ (c : BoundSpec). c.label.0.number < u.names.number → IsKept v c.label) (λ (c : BoundSpec). c.label.0.number < s.names.number → IsKept v c.label) bs j.1 (λ c h lt. h (omega (arith, lt, k.0.up))),
        ),
      )))

  -- where a new frame alone has more, and nothing came into scope
  pub moved-keywords : (place : Span) (level depth : ℕ) (recursive : Bool) (bs : List BindingSpec) (forms : List Tree) (s : State) → Names own s → Gave (Moved own s) (with_keywords go (site_at place level depth) (let_syntax_parts recursive bs forms) s)
  unfolding fresh_frame keywords
  moved-keywords place level depth recursive bs forms s n =
      let f = as_frame s.names in
      gave-after (λ x u. Later own s u) (Moved own s) (keywords go (site_at place level depth) recursive bs f (counted s)) (λ _. give (map (stamp f) forms))
      (gave-after (BindsKeywords own f (counted s)) (Moved own s) (bind_keywords f place level bs (counted s)) (expand_transformers go (site_at place level depth) recursive f) (binds-keywords own f place level bs (counted s) n)
      (λ xs u b. gave-less (λ y v. KeepingAll u xs v) (Moved own s) (expand_transformers go (site_at place level depth) recursive f xs u) (moved-all place level depth recursive f xs u b.later.next)
      (λ y v j. later-framed own f s (counted s) u v (counted-later own s n) b.later (b.adds false) n (omega arith) j.0 (keywords-kept own f (counted s) u v xs b j.0 j.1))))
      (λ x u k. k)

  -- and forms come of forms
  pub keywords-some : (place : Span) (level depth : ℕ) (recursive : Bool) (bs : List BindingSpec) (x : Tree) (xs : List Tree) (s : State) → Names own s → Gave (λ ys u. Later own s u × (ys ≡ [] → ⊥)) (with_keywords go (site_at place level depth) (let_syntax_parts recursive bs (x ∷ xs)) s)
  keywords-some place level depth recursive bs x xs s n =
      gave-both (λ ys u. Later own s u) (λ ys u. ys ≡ [] → ⊥) (with_keywords go (site_at place level depth) (let_syntax_parts recursive bs (x ∷ xs)) s) (moved-keywords place level depth recursive bs (x ∷ xs) s n) some
    where
      some : Gave (λ ys u. ys ≡ [] → ⊥) (with_keywords go (site_at place level depth) (let_syntax_parts recursive bs (x ∷ xs)) s)
      some = gave-after (λ f u. Unit {0}) (λ ys u. ys ≡ [] → ⊥) (fresh_frame s) (λ frame s'. after (keywords go (site_at place level depth) recursive bs frame s') (λ _. give (map (stamp frame) (x ∷ xs)))) (gave-any (λ f u. Unit {0}) (fresh_frame s) (λ f u. tt))
          (λ f u k. gave-after (λ y v. Unit {0}) (λ ys v. ys ≡ [] → ⊥) (keywords go (site_at place level depth) recursive bs f u) (λ _. give (map (stamp f) (x ∷ xs))) (gave-any (λ y v. Unit {0}) (keywords go (site_at place level depth) recursive bs f u) (λ y v. tt))
          (λ y v j e. absurd (cc)))

  -- `syntax-case`.

  module _ (place : Span) (level depth : ℕ) (literals : List Tree) where
    moved-fender : (f : FrameNo) (o : Option Tree) (s : State) → Names own s → Gave (Moved own s) (fender go (site_at place level depth) f o s)
    moved-fender f None s n = later-self own s n
    moved-fender f (Some t) s n = moved-after own s (go.form (site_at place level depth) (stamp f t) s) (λ c. give (Some c)) (moves.form place level depth (stamp f t) s n) (λ c u m. later-self own u m)

    -- a pattern, and its variables in a frame
    pub record BindsPattern (f : FrameNo) (s : State) (p : Compiled) (u : State) : Type 0 where
      pub compiled : State
      pub patterned : Patterned own s p compiled
      pub binds : BindsPatterns own f level compiled p.variables u

    pub pattern-bound : (f : FrameNo) (p : Compiled) (s t : State) → Patterned own s p t → Gave (λ x u. BindsPattern f s p u) (bind_pattern f place level p.variables t)
    pattern-bound f p s t h =
        gave-less (λ x u. BindsPatterns own f level t p.variables u) (λ x u. BindsPattern f s p u) (bind_pattern f place level p.variables t)
        (binds-patterns own f level place p.variables t h.later.next (mapped p.variables h.compiles.fresh.made))
        (λ x u b. record { compiled = t; patterned = h; binds = b })
      where
        mapped : (vs : List PatternVariable) → Each (λ (l : Label). Made own s.names.number t.names.number l.0) (map variable_label vs) → Each (λ (v : PatternVariable). IsOwn own v.label.0 × (v.label.0.number < t.names.number)) vs
        mapped [] h = tt
        mapped (v ∷ vs) h = ((h.0.library, h.0.high), mapped vs h.1)

    pub pattern-adds : (f : FrameNo) (p : Compiled) (s u : State) → BindsPattern f s p u → LaterBut own f s u × (Adds own false (map variable_label p.variables) (map variable_depth p.variables) s u × Keeps own s u)
    pattern-adds f p s u b = (but-then own f s b.compiled u (but-later own f s b.compiled b.patterned.later) b.binds.later, (pattern-adds-so own f level p s b.compiled u b.patterned b.binds, keeps-then own s b.compiled u b.patterned.later.up b.binds.later.up b.patterned.later.keeps b.binds.keeps))

    pub moved-clause : (c : PatternCase) (s : State) → Names own s → Gave (Moved own s) (pattern_clause go (site_at place level depth) literals c s)
    unfolding pattern_clause fresh_frame
    moved-clause c s n =
        let f = as_frame s.names in
        gave-within (Moved own s) (λ u. after (fresh_frame u) (clause_in go (site_at place level depth) literals c)) s
        (gave-after (Patterned own (counted s)) (Leaving own s) (pattern_of literals place c.pattern (counted s)) _ (pattern-later own literals place c.pattern (counted s) n)
        (λ p t h. framed own (λ x. map variable_label p.variables) (λ x. map variable_depth p.variables) s (bind_pattern f place level p.variables t) _ n
        (gave-less (λ x u. BindsPattern f (counted s) p u) _ (bind_pattern f place level p.variables t) (pattern-bound f p (counted s) t h) (λ x u b. pattern-adds f p (counted s) u b))
        (λ x u m. moved-after own u (fender go (site_at place level depth) f c.fender u) _ (moved-fender f c.fender u m)
        (λ e v l. moved-after own v (go.form (site_at place level depth) (stamp f c.output) v) (λ o. give (record { pattern = p.pattern; fender = e; output = o })) (moves.form place level depth (stamp f c.output) v l) (λ o w j. later-self own w j)))))

    moved-syntax_case : (subject : Tree) (cs : List PatternCase) (span : Span) (s : State) → Names own s → Gave (Moved own s) (syntax_case go (site_at place level depth) (syntax_case_parts subject literals cs span) s)
    unfolding syntax_case
    moved-syntax_case subject cs span s n =
        moved-after own s (go.form (site_at place level depth) subject s) _ (moves.form place level depth subject s n)
        (λ c u m. moved-after own u (check_literals place literals u) (λ _ v. after (all_clauses go (site_at place level depth) literals cs v) (λ xs. give (matching c (clauses xs) span))) (literals-later own literals place u m)
        (λ x v l. moved-after own v (all_clauses go (site_at place level depth) literals cs v) (λ xs. give (matching c (clauses xs) span)) (moved-each own (pattern_clause go (site_at place level depth) literals) moved-clause cs v l) (λ xs w j. later-self own w j)))

  moved-keywords_form : (place : Span) (level depth : ℕ) (recursive : Bool) (bs : List BindingSpec) (forms : List Tree) (s : State) → Names own s → Gave (Moved own s) (keywords_form go (site_at place level depth) (let_syntax_parts recursive bs forms) s)
  unfolding keywords_form
  moved-keywords_form place level depth recursive bs forms s n =
      moved-after own s (with_keywords go (site_at place level depth) (let_syntax_parts recursive bs forms) s) (in_sequence go (site_at place level depth)) (moved-keywords place level depth recursive bs forms s n) (λ xs u m. moved-sequence place level depth xs u m)

  moved-quasi : (place : Span) (level depth : ℕ) (t : Tree) (which : Family) (template : Tree) (s : State) → Names own s → Gave (Moved own s) (quasi_form go (site_at place level depth) (template_parts t which template) s)
  unfolding quasi_form
  moved-quasi place level depth t which template s n =
      gave-after (λ q u. u ≡ s) (Moved own s) (form_of place t which template s) (quasi_made go (site_at place level depth) t) (form-same place t which template s)
      (λ q u e. subst (λ (v : State). Gave (Moved own s) (quasi_made go (site_at place level depth) t q v)) (sym e)
      (moved-after own s (parts_in_order go place level (parts_of t depth q) s) (code_of place level t q)
      (moved-each own (part_core go place level) (λ p v m. moves.form place level p.depth p.form v m) (parts_of t depth q) s n)
      (λ cs v m. moved-code own place level t q cs v m)))

  moved-perform : (place : Span) (level depth : ℕ) (t : Tree) (p : Plan) (s : State) → Names own s → Gave (Moved own s) (perform go (site_at place level depth) t p s)
  unfolding perform
  moved-perform place level depth t (plans.Done c) s n = later-self own s n
  moved-perform place level depth t (plans.Call operator operands) s n = moved-application place level (deeper depth) operator operands s n
  moved-perform place level depth t (plans.Conditional test consequent other) s n = moved-conditional place level (deeper depth) test consequent other s n
  moved-perform place level depth t (plans.Assignment l value) s n = moved-set place level (deeper depth) l value s n
  moved-perform place level depth t (plans.Sequence forms) s n = moved-sequence place level (deeper depth) forms s n
  moved-perform place level depth t (plans.Lambda ids forms) s n = moved-lambda place level (deeper depth) t ids forms s n
  moved-perform place level depth t (plans.CaseLambda cs) s n = moved-case_lambda place level (deeper depth) t cs s n
  moved-perform place level depth t (plans.Letrec star bs forms) s n = moved-letrec place level (deeper depth) t star bs forms s n
  moved-perform place level depth t (plans.Matching subject literals cs span) s n = moved-syntax_case place level (deeper depth) literals subject cs span s n
  moved-perform place level depth t (plans.Keywords recursive bs forms) s n = moved-keywords_form place level (deeper depth) recursive bs forms s n
  moved-perform place level depth t (plans.Quasi which template) s n = moved-quasi place level (deeper depth) t which template s n

  moved-form : (place : Span) (level depth : ℕ) (t : Tree) (s : State) → Names own s → Gave (Moved own s) (form_at go (site_at place level depth) t s)
  unfolding form_at
  moved-form place level depth t s n = gave-if (Moved own s) (nat_lt most_round depth) _ _ (λ e. tt)
      (λ e. moved-after own s (expand_uses go.earlier place level t s) (perform_settled go level depth) (expand_uses-later own go.earlier s.uses_left place level t s n) (λ d u m. moved-perform d.place level depth d.form d.plan u m))

  -- A form of a body.

  module _ (at : BodyAt) (start : State) (low : is_top at.kind ≡ true → at.level ≡ 0) where
    abbrev pub T : State → Taken → State → Type 0
    T s d u = Takes own at.frame (is_top at.kind) start s d u

    defined-takes : (depth : ℕ) (d : Taken) (t : Tree) (b : BindingSpec) (s : State) → Names own s → Took own (is_top at.kind) start d s → Gave (T s) (after (define_syntax go at depth d (definition_parts t b) s) (λ _. give d))
    unfolding define_syntax
    defined-takes depth d t b s n k =
        gave-after (λ x u. T s d u) (T s) (after (define_keyword at d t b s) (expand_transformer go (site_at at.place at.level depth))) (λ _. give d)
        (gave-after (BindsOne own start at s n low) (λ x u. T s d u) (define_keyword at d t b s) (expand_transformer go (site_at at.place at.level depth)) (defines-keyword own start at s n low d t b)
        (λ x u j. gave-less (λ y v. Keeping u x v) (λ y v. T s d v) (expand_transformer go (site_at at.place at.level depth) x u) (moved-keyword at.place at.level depth x u j.later.next)
        (λ y v l. record {
          later = but-then own at.frame s u v j.later (but-later own at.frame u v l.0);
          took = took-later own (is_top at.kind) start d u v l.0.up (adds-later own (is_top at.kind) u v l.0) (took-later own (is_top at.kind) start d s u j.later.up (j.adds (is_top at.kind)) k);
          keeps = keywords-kept own at.frame s u v (x ∷ []) j l.0 ((λ lt. l.1), tt);
        })))
        (λ x u j. j)

    keywords-take : (depth : ℕ) (d : Taken) (recursive : Bool) (bs : List BindingSpec) (forms : List Tree) (s : State) → Names own s → Took own (is_top at.kind) start d s
        → Gave (T s) (after (with_keywords go (site_at at.place at.level depth) (let_syntax_parts recursive bs forms) s) (splice go at depth d))
    keywords-take depth d recursive bs forms s n k =
        gave-after (λ xs u. Later own s u) (T s) (with_keywords go (site_at at.place at.level depth) (let_syntax_parts recursive bs forms) s) (splice go at depth d) (moved-keywords at.place at.level depth recursive bs forms s n)
        (λ xs u l. gave-less (T u) (T s) (splice go at depth d xs u) (splice-takes at depth start d xs u l.next low (took-later own (is_top at.kind) start d s u l.up (adds-later own (is_top at.kind) s u l) k))
        (λ y v j. record { later = but-then own at.frame s u v (but-later own at.frame s u l) j.later; took = j.took; keeps = keeps-then own s u v l.up j.later.up l.keeps j.keeps }))

    pub performs-item : (depth : ℕ) (d : Taken) (t : Tree) (i : Item) (s : State) → Names own s → Took own (is_top at.kind) start d s → Gave (T s) (perform_item go at depth d t i s)
    unfolding perform_item
    performs-item depth d t items.Nothing s n k = record { later = but-self own at.frame s n; took = k; keeps = keeps-self own s }
    performs-item depth d t (items.Forms forms) s n k = splice-takes at (deeper depth) start d forms s n low k
    performs-item depth d t (items.Keyword b) s n k = defined-takes (deeper depth) d t b s n k
    performs-item depth d t (items.Keywords recursive bs forms) s n k = keywords-take (deeper depth) d recursive bs forms s n k

  item-takes : (at : BodyAt) (start : State) → (is_top at.kind ≡ true → at.level ≡ 0) → (depth : ℕ) (d : Taken) (t : Tree) (s : State) → Names own s → Took own (is_top at.kind) start d s
      → Gave (Takes own at.frame (is_top at.kind) start s) (item go at depth d t s)
  unfolding item
  item-takes at start low depth d t s n k =
      gave-if (Takes own at.frame (is_top at.kind) start s) (nat_lt most_round depth) _ (after (expand_item_uses go.earlier at depth d t s) (expand_body.perform_settled go depth)) (λ e. tt)
      (λ e. gave-after (Settles own go.earlier start depth at s) (Takes own at.frame (is_top at.kind) start s) (expand_item_uses go.earlier at depth d t s) (expand_body.perform_settled go depth)
      (expand_uses-takes own go.earlier start depth s.uses_left at d t s n low k)
      (λ p u j. gave-less (Takes own at.frame (is_top at.kind) start u) (Takes own at.frame (is_top at.kind) start s) (expand_body.perform_settled go depth p u)
      (subst (λ (other : BodyAt). Gave (Takes own at.frame (is_top at.kind) start u) (perform_item go other depth p.0 p.1.form p.1.item u)) (sym j.1.1)
      (performs-item (record at { place = j.1.0 }) start low depth p.0 p.1.form p.1.item u j.0.later.next j.0.took))
      (λ y v l. record { later = but-then own at.frame s u v j.0.later l.later; took = l.took; keeps = keeps-then own s u v j.0.later.up l.later.up j.0.keeps l.keeps })))

-- so it is inside forms, however deep they may nest
pub inside-moves : (own : LibName) (rs : List CompiledLibrary) (room : ℕ) → Moves own (inside rs room)
unfolding inside
inside-moves own rs zero = record { form = λ place level depth t s n. tt; procedure = λ place level depth t ids forms s n. tt; item = λ at depth d t start s n low k. tt }
inside-moves own rs (suc room) =
    let moves = inside-moves own rs room in
    record {
      form = moved-form own (inside rs room) moves;
      procedure = moved-case own (inside rs room) moves;
      item = λ at depth d t start s n low k. item-takes own (inside rs room) moves at start low depth d t s n k;
    }

-- from a state to the one behind a form
pub form-later : (rs : List CompiledLibrary) (room : ℕ) (place : Span) (level depth : ℕ) (t : Tree) (s u : State) (c : PlainCore) → (inside rs room).form (site_at place level depth) t s ≡ Ok (c, u) → Later s.names.library s u
form-later rs room place level depth t s u c e = told (λ d v. Later s.names.library s v) ((inside rs room).form (site_at place level depth) t s) c u ((inside-moves s.names.library rs room).form place level depth t s refl) e

pub scope-stays : ScopeStays
scope-stays rs room place level depth t s u c e = (form-later rs room place level depth t s u c e).scope
