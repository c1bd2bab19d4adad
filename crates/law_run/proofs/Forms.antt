-- Forms change frames by binds alone, each in a frame of the library.
use Rattle.std.proofs.Common.{◌≡◌, ℕ, zero, suc, ◌+◌, Bool, List, [], map, Option, None, Some, sym, subst}
use Rattle.std.specs.Prelude.{nat_lt}
use Rattle.base_data.specs.Act.{after, give}
use Rattle.base_data.specs.declared.library.LibName.{LibName}
use Rattle.base_data.specs.declared.name.FrameNo.{FrameNo}
use Rattle.base_data.specs.declared.name.Label.{Label}
use Rattle.base_data.specs.declared.span.Span.{Span}
use Rattle.stx_tree.specs.Changes.{stamp}
use Rattle.stx_tree.specs.Tree.{Tree}
use Rattle.core_language.specs.Core.{PlainCore}
use Rattle.core_language.specs.declared.record.CompiledLibrary.{CompiledLibrary}
use Rattle.core_shapes.specs.At.{place_of}
use Rattle.core_shapes.specs.declared.shape.FormalIds.{FormalIds}
use Rattle.core_shapes.specs.declared.shape.BindingSpec.{BindingSpec}
use Rattle.core_shapes.specs.declared.shape.LambdaCase.{LambdaCase}
use Rattle.core_shapes.specs.declared.shape.PatternCase.{PatternCase}
use Rattle.expand_standing.specs.Binders.{bind_specs, bind_formals}
use Rattle.expand_standing.specs.InScope.{apart}
use Rattle.expand_standing.specs.Patterns.{pattern_of, check_literals, bind_pattern}
use Rattle.expand_standing.specs.State.{State, fresh, fresh_frame}
use Rattle.expand_standing.specs.Uses.{bind_keywords, evaluate_transformer}
use Rattle.expand_standing.specs.declared.binders.BoundSpec.{BoundSpec}
use Rattle.expand_heads.specs.Depth.{deeper, most_round}
use Rattle.expand_heads.specs.Items.{begun, define_keyword}
use Rattle.expand_heads.specs.declared.item.Item.{Item}
use Rattle.expand_heads.specs.declared.item.Item.TheVariants as items
use Rattle.expand_heads.specs.declared.plan.Plan.{Plan}
use Rattle.expand_heads.specs.declared.plan.Plan.TheVariants as plans
use Rattle.expand_heads.specs.declared.taken.BodyAt.{BodyAt}
use Rattle.expand_heads.specs.declared.taken.Taken.{Taken}
use Rattle.expand_heads.specs.declared.taken.Waiting.{Waiting}
use Rattle.expand_heads.specs.declared.taken.Waits.{Waits}
use Rattle.expand_heads.specs.declared.taken.Waits.TheVariants as waits
use Rattle.core_quasi.specs.declared.word.Family.{Family}
use Rattle.expand_quasi.specs.Form.{form_of, parts_of, code_of}
use Rattle.expand_forms.specs.Body.{splice, perform_item, item, value_of, finish_as, finish_one, finish_all, body_core, finish, lambda_at, body_in, body}
use Rattle.expand_forms.specs.Body as bodies
use Rattle.expand_forms.specs.Expression.{in_order, case_in, lambda_case, lambda, one_case, all_cases, case_lambda, one_init, all_inits, letrec_in, letrec_form, application, alternate, conditional, set, in_sequence, fender, clause_in, pattern_clause, all_clauses, syntax_case, keywords_form, perform, perform_settled, form_at, inside}
use Rattle.expand_forms.specs.Inside.{Inside}
use Rattle.expand_forms.specs.Keywords.{expand_transformer, seen_in, expand_transformer_in, expand_transformers, keywords, with_keywords, define_syntax}
use Rattle.expand_forms.specs.Quasi.{part_core, parts_in_order, quasi_made, quasi_form}
use Rattle.expand_forms.specs.ExpandUses.{expand_uses, expand_item_uses}
use Rattle.expand_forms.specs.Site.{site_at}
use Rattle.expand_forms.specs.Forms.{definition_parts, if_parts, let_syntax_parts, letrec_parts, procedure_parts, syntax_case_parts, template_parts}
use Rattle.law_expand.proofs.Acts.{Gave, gave-after, gave-less, gave-if}
use Rattle.law_expand.proofs.Naming.{counted, as_frame}
use Rattle.law_expand.proofs.QuasiLater.{form-same}
use Rattle.law_run.proofs.Binding.{steps-counted, steps-formals, steps-specs, steps-keywords, steps-patterns, steps-pattern, steps-literals, steps-finish, steps-code}
use Rattle.law_run.proofs.Settling.{steps-expand_uses, steps-define-keyword, SettlesAt, steps-expand_uses-item}
use Rattle.law_run.proofs.Steps.{Names, St, self, steps-then, steps-after, steps-each, steps-gather, steps-within, steps-apart}

-- so does what is done inside forms
pub record Inner (own : LibName) (go : Inside) : Type 0 where
  pub form : (place : Span) (level depth : ℕ) (t : Tree) (s : State) → Names own s → Gave (St own s) (go.form (site_at place level depth) t s)
  pub procedure : (place : Span) (level depth : ℕ) (t : Tree) (ids : FormalIds) (forms : List Tree) (s : State) → Names own s → Gave (St own s) (go.procedure (site_at place level depth) (procedure_parts t ids forms) s)
  pub item : (at : BodyAt) (depth : ℕ) (d : Taken) (t : Tree) (s : State) → at.frame.0.library ≡ own → Names own s → Gave (St own s) (go.item at depth d t s)

module _ (own : LibName) (go : Inside) (inner : Inner own go) where
  -- Bodies.

  pub b-splice : (at : BodyAt) (depth : ℕ) (d : Taken) (forms : List Tree) (s : State) → at.frame.0.library ≡ own → Names own s → Gave (St own s) (splice go at depth d forms s)
  b-splice at depth d forms s mine n = steps-gather own (go.item at depth) (λ e x t m. inner.item at depth e x t mine m) d forms s n

  b-value : (place : Span) (level depth : ℕ) (o : Option Tree) (s : State) → Names own s → Gave (St own s) (value_of go (site_at place level depth) o s)
  b-value place level depth None s n = self own s n
  b-value place level depth (Some t) s n = inner.form place level depth t s n

  b-line : (level : ℕ) (place : Span) (depth : ℕ) (w : Waits) (s : State) → Names own s → Gave (St own s) (finish_as go (site_at place level depth) w s)
  unfolding finish_as fresh
  b-line level place depth (waits.Variable l value) s n = steps-after own s (value_of go (site_at place level (deeper depth)) value s) _ (b-value place level (deeper depth) value s n) (λ c t m. self own t m)
  b-line level place depth (waits.Procedure l x ids forms) s n =
      steps-after own s (go.procedure (site_at place level (deeper depth)) (procedure_parts x ids forms) (counted s)) _ (steps-counted own s (go.procedure (site_at place level (deeper depth)) (procedure_parts x ids forms) (counted s)) (inner.procedure place level (deeper depth) x ids forms (counted s) n)) (λ c t m. self own t m)
  b-line level place depth (waits.Expression x) s n = steps-after own s (go.form (site_at place level depth) x s) _ (inner.form place level depth x s n) (λ c t m. self own t m)

  pub b-lines : (level : ℕ) (ws : List Waiting) (s : State) → Names own s → Gave (St own s) (finish_all go level ws s)
  b-lines level ws s n = steps-each own (finish_one go level) (λ w t m. b-line level w.place w.depth w.what t m) [] ws s n

  b-finish : (place : Span) (level : ℕ) (t : Tree) (d : Taken) (s : State) → Names own s → Gave (St own s) (finish go place level t d s)
  unfolding finish
  b-finish place level t d s n = gave-if (St own s) d.has_expression _ _ (λ e. steps-after own s (finish_all go level d.waiting s) (λ xs. give (body_core xs)) (b-lines level d.waiting s n) (λ xs u m. self own u m)) (λ e. tt)

  b-body : (place : Span) (level depth : ℕ) (t : Tree) (forms : List Tree) (s : State) → Names own s → Gave (St own s) (body go (site_at place level depth) t forms s)
  unfolding body fresh_frame
  b-body place level depth t forms s n =
      let f = as_frame s.names in
      steps-within own (λ u. after (fresh_frame u) (body_in go (site_at place level depth) t forms)) s
      (steps-counted own s (body_in go (site_at place level depth) t forms f (counted s))
      (steps-after own (counted s) (splice go (lambda_at f place level) depth begun (map (stamp f) forms) (counted s)) (finish go place level t) (b-splice (lambda_at f place level) depth begun (map (stamp f) forms) (counted s) n n) (λ d u m. b-finish place level t d u m)))

  -- Procedures and `letrec`.

  module _ (place : Span) (level depth : ℕ) (t : Tree) where
    pub b-case : (ids : FormalIds) (forms : List Tree) (s : State) → Names own s → Gave (St own s) (lambda_case go (site_at place level depth) (procedure_parts t ids forms) s)
    unfolding lambda_case fresh_frame
    b-case ids forms s n =
        let f = as_frame s.names in
        steps-within own (λ u. after (fresh_frame u) (case_in go (site_at place level depth) (procedure_parts t ids forms))) s
        (steps-counted own s (case_in go (site_at place level depth) (procedure_parts t ids forms) f (counted s))
        (steps-after own (counted s) (bind_formals f place level ids (counted s)) _ (steps-formals own f n place level ids (counted s) n)
        (λ x u m. steps-after own u (body go (site_at place level depth) t (map (stamp f) forms) u) (λ c. give (record { formals = x; body = c })) (b-body place level depth t (map (stamp f) forms) u m) (λ c v k. self own v k))))

    b-lambda : (ids : FormalIds) (forms : List Tree) (s : State) → Names own s → Gave (St own s) (lambda go (site_at place level depth) (procedure_parts t ids forms) s)
    unfolding lambda fresh
    b-lambda ids forms s n =
        let r = lambda_case go (site_at place level depth) (procedure_parts t ids forms) (counted s) in
        steps-after own s r _ (steps-counted own s r (b-case ids forms (counted s) n)) (λ c u m. self own u m)

    b-cases : (cs : List LambdaCase) (s : State) → Names own s → Gave (St own s) (case_lambda go (site_at place level depth) t cs s)
    unfolding case_lambda fresh
    b-cases cs s n =
        let r = all_cases go (site_at place level depth) t cs (counted s) in
        steps-after own s r _ (steps-counted own s r (steps-each own (one_case go (site_at place level depth) t) (λ c u m. b-case c.formals c.body u m) [] cs (counted s) n)) (λ c u m. self own u m)

    b-init : (frame : FrameNo) (b : BoundSpec) (s : State) → Names own s → Gave (St own s) (one_init go (site_at place level depth) frame b s)
    unfolding one_init
    b-init frame b s n = steps-after own s (go.form (site_at place level depth) (stamp frame b.init) s) _ (inner.form place level depth (stamp frame b.init) s n) (λ c u m. self own u m)

    b-letrec : (star : Bool) (bs : List BindingSpec) (forms : List Tree) (s : State) → Names own s → Gave (St own s) (letrec_form go (site_at place level depth) (letrec_parts t star bs forms) s)
    unfolding letrec_form fresh_frame
    b-letrec star bs forms s n =
        let f = as_frame s.names in
        steps-within own (λ u. after (fresh_frame u) (letrec_in go (site_at place level depth) (letrec_parts t star bs forms))) s
        (steps-counted own s (letrec_in go (site_at place level depth) (letrec_parts t star bs forms) f (counted s))
        (steps-after own (counted s) (bind_specs f place level bs (counted s)) _ (steps-specs own f n place level bs (counted s) n)
        (λ ls u m. steps-after own u (all_inits go (site_at place level depth) f ls u) _ (steps-each own (one_init go (site_at place level depth) f) (λ b v k. b-init f b v k) [] ls u m)
        (λ is v k. steps-after own v (body go (site_at place level depth) t (map (stamp f) forms) v) _ (b-body place level depth t (map (stamp f) forms) v k) (λ c w j. self own w j)))))

  -- Keywords.

  b-keyword : (place : Span) (level depth : ℕ) (b : BoundSpec) (s : State) → Names own s → Gave (St own s) (expand_transformer go (site_at place level depth) b s)
  unfolding expand_transformer
  b-keyword place level depth b s n =
      steps-after own s (apart (go.form (site_at place (level + 1) depth) b.init) s) (evaluate_transformer go.earlier (place_of b.init place) b.label)
      (steps-apart own (go.form (site_at place (level + 1) depth) b.init) s (inner.form place (level + 1) depth b.init (record s { scope = [] }) n)) (λ c u m. steps-finish own go.earlier (place_of b.init place) b.label c u m)

  b-with : (place : Span) (level depth : ℕ) (recursive : Bool) (bs : List BindingSpec) (forms : List Tree) (s : State) → Names own s → Gave (St own s) (with_keywords go (site_at place level depth) (let_syntax_parts recursive bs forms) s)
  unfolding keywords fresh_frame
  b-with place level depth recursive bs forms s n =
      let f = as_frame s.names in
      steps-counted own s (after (keywords go (site_at place level depth) recursive bs f (counted s)) (λ _. give (map (stamp f) forms)))
      (steps-after own (counted s) (keywords go (site_at place level depth) recursive bs f (counted s)) _
      (steps-after own (counted s) (bind_keywords f place level bs (counted s)) (expand_transformers go (site_at place level depth) recursive f) (steps-keywords own f n place level bs (counted s) n)
      (λ xs u m. steps-gather own (expand_transformer_in go (site_at place level depth) recursive f) (λ e b v k. b-keyword place level depth (seen_in recursive f b) v k) tt xs u m))
      (λ x u m. self own u m))

  b-define : (at : BodyAt) (depth : ℕ) (d : Taken) (t : Tree) (b : BindingSpec) (s : State) → at.frame.0.library ≡ own → Names own s → Gave (St own s) (define_syntax go at depth d (definition_parts t b) s)
  unfolding define_syntax
  b-define at depth d t b s mine n =
      steps-after own s (define_keyword at d t b s) (expand_transformer go (site_at at.place at.level depth)) (steps-define-keyword own go.earlier at mine d t b s n) (λ x u m. b-keyword at.place at.level depth x u m)

  -- Expressions.

  module _ (place : Span) (level depth : ℕ) where
    b-order : (ts : List Tree) (s : State) → Names own s → Gave (St own s) (in_order go (site_at place level depth) ts s)
    b-order ts s n = steps-each own (go.form (site_at place level depth)) (λ t u m. inner.form place level depth t u m) [] ts s n

    b-application : (operator : Tree) (operands : List Tree) (s : State) → Names own s → Gave (St own s) (application go (site_at place level depth) operator operands s)
    unfolding application
    b-application operator operands s n =
        steps-after own s (go.form (site_at place level depth) operator s) _ (inner.form place level depth operator s n) (λ c u m. steps-after own u (in_order go (site_at place level depth) operands u) _ (b-order operands u m) (λ cs v k. self own v k))

    b-alternate : (c e : PlainCore) (o : Option Tree) (s : State) → Names own s → Gave (St own s) (alternate go (site_at place level depth) c e o s)
    b-alternate c e None s n = self own s n
    b-alternate c e (Some t) s n = steps-after own s (go.form (site_at place level depth) t s) _ (inner.form place level depth t s n) (λ f u m. self own u m)

    b-conditional : (test consequent : Tree) (other : Option Tree) (s : State) → Names own s → Gave (St own s) (conditional go (site_at place level depth) (if_parts test consequent other) s)
    unfolding conditional
    b-conditional test consequent other s n =
        steps-after own s (go.form (site_at place level depth) test s) _ (inner.form place level depth test s n)
        (λ c u m. steps-after own u (go.form (site_at place level depth) consequent u) _ (inner.form place level depth consequent u m) (λ e v k. b-alternate c e other v k))

    b-set : (l : Label) (value : Tree) (s : State) → Names own s → Gave (St own s) (set go (site_at place level depth) l value s)
    unfolding set
    b-set l value s n = steps-after own s (go.form (site_at place level depth) value s) _ (inner.form place level depth value s n) (λ c u m. self own u m)

    b-sequence : (ts : List Tree) (s : State) → Names own s → Gave (St own s) (in_sequence go (site_at place level depth) ts s)
    unfolding in_sequence
    b-sequence ts s n = steps-after own s (in_order go (site_at place level depth) ts s) _ (b-order ts s n) (λ cs u m. self own u m)

    b-fender : (frame : FrameNo) (o : Option Tree) (s : State) → Names own s → Gave (St own s) (fender go (site_at place level depth) frame o s)
    b-fender frame None s n = self own s n
    b-fender frame (Some t) s n = steps-after own s (go.form (site_at place level depth) (stamp frame t) s) _ (inner.form place level depth (stamp frame t) s n) (λ c u m. self own u m)

    b-clause : (literals : List Tree) (c : PatternCase) (s : State) → Names own s → Gave (St own s) (pattern_clause go (site_at place level depth) literals c s)
    unfolding pattern_clause fresh_frame
    b-clause literals c s n =
        let f = as_frame s.names in
        steps-within own (λ u. after (fresh_frame u) (clause_in go (site_at place level depth) literals c)) s
        (steps-counted own s (clause_in go (site_at place level depth) literals c f (counted s))
        (steps-after own (counted s) (pattern_of literals place c.pattern (counted s)) _ (steps-pattern own literals place c.pattern (counted s) n)
        (λ p u m. steps-after own u (bind_pattern f place level p.variables u) _ (steps-patterns own f n place level p.variables u m)
        (λ x v k. steps-after own v (fender go (site_at place level depth) f c.fender v) _ (b-fender f c.fender v k)
        (λ e w j. steps-after own w (go.form (site_at place level depth) (stamp f c.output) w) _ (inner.form place level depth (stamp f c.output) w j) (λ o z i. self own z i))))))

    b-matching : (subject : Tree) (literals : List Tree) (cs : List PatternCase) (span : Span) (s : State) → Names own s → Gave (St own s) (syntax_case go (site_at place level depth) (syntax_case_parts subject literals cs span) s)
    unfolding syntax_case
    b-matching subject literals cs span s n =
        steps-after own s (go.form (site_at place level depth) subject s) _ (inner.form place level depth subject s n)
        (λ c u m. steps-after own u (check_literals place literals u) _ (steps-literals own literals place u m)
        (λ x v k. steps-after own v (all_clauses go (site_at place level depth) literals cs v) _ (steps-each own (pattern_clause go (site_at place level depth) literals) (λ d w j. b-clause literals d w j) [] cs v k) (λ xs w j. self own w j)))

    b-keywords-form : (recursive : Bool) (bs : List BindingSpec) (forms : List Tree) (s : State) → Names own s → Gave (St own s) (keywords_form go (site_at place level depth) (let_syntax_parts recursive bs forms) s)
    unfolding keywords_form
    b-keywords-form recursive bs forms s n =
        steps-after own s (with_keywords go (site_at place level depth) (let_syntax_parts recursive bs forms) s) (in_sequence go (site_at place level depth)) (b-with place level depth recursive bs forms s n) (λ ts u m. b-sequence ts u m)

    b-quasi : (t : Tree) (which : Family) (template : Tree) (s : State) → Names own s → Gave (St own s) (quasi_form go (site_at place level depth) (template_parts t which template) s)
    unfolding quasi_form
    b-quasi t which template s n =
        gave-after (λ q u. u ≡ s) (St own s) (form_of place t which template s) (quasi_made go (site_at place level depth) t) (form-same place t which template s)
        (λ q u e. subst (λ (v : State). Gave (St own s) (quasi_made go (site_at place level depth) t q v)) (sym e)
        (steps-after own s (parts_in_order go place level (parts_of t depth q) s) (code_of place level t q) (steps-each own (part_core go place level) (λ p v m. inner.form place level p.depth p.form v m) [] (parts_of t depth q) s n)
        (λ cs v m. steps-code own place level t q cs v m)))

  b-perform : (place : Span) (level depth : ℕ) (t : Tree) (p : Plan) (s : State) → Names own s → Gave (St own s) (perform go (site_at place level depth) t p s)
  unfolding perform
  b-perform place level depth t (plans.Done c) s n = self own s n
  b-perform place level depth t (plans.Call operator operands) s n = b-application place level (deeper depth) operator operands s n
  b-perform place level depth t (plans.Conditional test consequent other) s n = b-conditional place level (deeper depth) test consequent other s n
  b-perform place level depth t (plans.Assignment l value) s n = b-set place level (deeper depth) l value s n
  b-perform place level depth t (plans.Sequence forms) s n = b-sequence place level (deeper depth) forms s n
  b-perform place level depth t (plans.Lambda ids forms) s n = b-lambda place level (deeper depth) t ids forms s n
  b-perform place level depth t (plans.CaseLambda cs) s n = b-cases place level (deeper depth) t cs s n
  b-perform place level depth t (plans.Letrec star bs forms) s n = b-letrec place level (deeper depth) t star bs forms s n
  b-perform place level depth t (plans.Matching subject literals cs span) s n = b-matching place level (deeper depth) subject literals cs span s n
  b-perform place level depth t (plans.Keywords recursive bs forms) s n = b-keywords-form place level (deeper depth) recursive bs forms s n
  b-perform place level depth t (plans.Quasi which template) s n = b-quasi place level (deeper depth) t which template s n

  b-form : (place : Span) (level depth : ℕ) (t : Tree) (s : State) → Names own s → Gave (St own s) (form_at go (site_at place level depth) t s)
  unfolding form_at
  b-form place level depth t s n = gave-if (St own s) (nat_lt most_round depth) _ _ (λ e. tt)
      (λ e. steps-after own s (expand_uses go.earlier place level t s) (perform_settled go level depth) (steps-expand_uses own go.earlier s.uses_left place level t s n) (λ x u m. b-perform x.place level depth x.form x.plan u m))

  b-perform-item : (at : BodyAt) (depth : ℕ) (d : Taken) (t : Tree) (i : Item) (s : State) → at.frame.0.library ≡ own → Names own s → Gave (St own s) (perform_item go at depth d t i s)
  unfolding perform_item
  b-perform-item at depth d t items.Nothing s mine n = self own s n
  b-perform-item at depth d t (items.Forms forms) s mine n = b-splice at (deeper depth) d forms s mine n
  b-perform-item at depth d t (items.Keyword b) s mine n = steps-after own s (define_syntax go at (deeper depth) d (definition_parts t b) s) (λ _. give d) (b-define at (deeper depth) d t b s mine n) (λ x u m. self own u m)
  b-perform-item at depth d t (items.Keywords recursive bs forms) s mine n =
      steps-after own s (with_keywords go (site_at at.place at.level (deeper depth)) (let_syntax_parts recursive bs forms) s) (splice go at (deeper depth) d) (b-with at.place at.level (deeper depth) recursive bs forms s n) (λ fs u m. b-splice at (deeper depth) d fs u mine m)

  b-item : (at : BodyAt) (depth : ℕ) (d : Taken) (t : Tree) (s : State) → at.frame.0.library ≡ own → Names own s → Gave (St own s) (item go at depth d t s)
  unfolding item
  b-item at depth d t s mine n = gave-if (St own s) (nat_lt most_round depth) _ _ (λ e. tt)
      (λ e. gave-after (SettlesAt own go.earlier at s) (St own s) (expand_item_uses go.earlier at depth d t s) (bodies.perform_settled go depth) (steps-expand_uses-item own go.earlier s.uses_left at mine depth d t s n)
      (λ p u h. gave-less (St own u) (St own s) (perform_item go p.1.at depth p.0 p.1.form p.1.item u)
      (b-perform-item p.1.at depth p.0 p.1.form p.1.item u (subst (λ (f : FrameNo). f.0.library ≡ own) (sym h.1) mine) h.0.next) (λ x v k. steps-then own s u v h.0 k)))

  pub next-room : Inner own (record { earlier = go.earlier; form = form_at go; procedure = lambda_case go; item = item go })
  next-room = record { form = b-form; procedure = b-case; item = b-item }

pub inside-binds : (own : LibName) (rs : List CompiledLibrary) (room : ℕ) → Inner own (inside rs room)
unfolding inside
inside-binds own rs zero = record { form = λ place level depth t s n. tt; procedure = λ place level depth t ids forms s n. tt; item = λ at depth d t s mine n. tt }
inside-binds own rs (suc room) =
    let h = next-room own (inside rs room) (inside-binds own rs room) in
    record { form = λ place level depth t s n. h.form place level depth t s n; procedure = λ place level depth t ids forms s n. h.procedure place level depth t ids forms s n; item = λ at depth d t s mine n. h.item at depth d t s mine n }
