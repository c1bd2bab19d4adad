-- Where two ways to treat what lies inside forms agree from a depth on, so do all forms that stand at that depth or deeper.
use Rattle.std.proofs.Common.{◌≡◌, ◌≤◌, ℕ, ◌+◌, Bool, true, false, List, [], ◌∷◌, ◌++◌, map, Option, None, Some, refl, ◌∙◌, ap, if◌then◌else◌}
use Rattle.std.specs.Prelude.{nat_lt}
use Rattle.base_data.specs.Act.{after, give}
use Rattle.base_data.specs.Elements.{Each}
use Rattle.base_data.specs.declared.fault.FaultKind.TheVariants as kind
use Rattle.base_data.specs.declared.name.FrameNo.{FrameNo}
use Rattle.base_data.specs.declared.name.Label.{Label}
use Rattle.base_data.specs.declared.span.Span.{Span}
use Rattle.stx_tree.specs.Changes.{stamp}
use Rattle.stx_tree.specs.Tree.{Tree}
use Rattle.core_language.specs.Core.{PlainCore, two_armed, assignment, procedure, letrec, call, matching, cores}
use Rattle.core_language.specs.CoreView.{inits, cases, clauses}
use Rattle.core_language.specs.declared.record.Line.TheVariants as line
use Rattle.core_shapes.specs.At.{place_of}
use Rattle.core_shapes.specs.declared.shape.FormalIds.{FormalIds}
use Rattle.core_shapes.specs.declared.shape.BindingSpec.{BindingSpec}
use Rattle.core_shapes.specs.declared.shape.LambdaCase.{LambdaCase}
use Rattle.core_shapes.specs.declared.shape.PatternCase.{PatternCase}
use Rattle.expand_standing.specs.Binders.{bind_specs, bind_formals}
use Rattle.expand_standing.specs.InScope.{restoring, apart}
use Rattle.expand_standing.specs.Patterns.{pattern_of, check_literals, bind_pattern}
use Rattle.expand_standing.specs.State.{State, Does, fresh, fresh_frame, fault_form}
use Rattle.expand_standing.specs.Uses.{bind_keywords, evaluate_transformer}
use Rattle.expand_standing.specs.declared.binders.BoundSpec.{BoundSpec}
use Rattle.expand_heads.specs.Depth.{deeper, most_round}
use Rattle.expand_heads.specs.Items.{begun, define_keyword}
use Rattle.expand_heads.specs.declared.item.Item.{Item}
use Rattle.expand_heads.specs.declared.item.Item.TheVariants as items
use Rattle.expand_heads.specs.declared.plan.Plan.{Plan}
use Rattle.expand_heads.specs.declared.plan.Plan.TheVariants as plans
use Rattle.expand_heads.specs.declared.taken.BodyAt.{BodyAt}
use Rattle.expand_heads.specs.declared.taken.Taken.{Taken}
use Rattle.expand_heads.specs.declared.taken.Waiting.{Waiting}
use Rattle.expand_heads.specs.declared.taken.Waits.{Waits}
use Rattle.expand_heads.specs.declared.taken.Waits.TheVariants as waits
use Rattle.core_quasi.specs.Plan.{PlainQuasi, PlainQuasis, constant, expression, none, more}
use Rattle.core_quasi.specs.Plan as quasi
use Rattle.core_quasi.specs.declared.quasi_syntax.Insert.{Insert}
use Rattle.core_quasi.specs.declared.word.Family.{Family}
use Rattle.expand_quasi.specs.Form.{form_of, parts_of, code_of}
use Rattle.expand_quasi.specs.Parts.{part, with_made, quasi_parts, all_quasi_parts, insert_part, inserts_parts}
use Rattle.expand_quasi.specs.declared.form.QuasiForm.{QuasiForm}
use Rattle.expand_quasi.specs.declared.form.QuasiForm.TheVariants as forms
use Rattle.expand_quasi.specs.declared.parts.PartForm.{PartForm}
use Rattle.expand_forms.specs.Body.{splice, perform_item, item, value_of, finish_as, finish_all, body_core, finish, lambda_at, body_in, body, sequence_of}
use Rattle.expand_forms.specs.Body as bodies
use Rattle.expand_forms.specs.Expression.{in_order, case_in, lambda_case, lambda, one_case, case_lambda, one_init, all_inits, letrec_in, letrec_form, application, alternate, conditional, set, in_sequence, fender, clause_in, pattern_clause, syntax_case, keywords_form, perform, perform_settled, form_at}
use Rattle.expand_forms.specs.Inside.{Inside}
use Rattle.expand_forms.specs.Keywords.{expand_transformer, seen_in, expand_transformer_in, expand_transformers, keywords, with_keywords, define_syntax}
use Rattle.expand_forms.specs.Quasi.{part_core, quasi_made, quasi_form}
use Rattle.expand_forms.specs.ExpandUses.{expand_uses, expand_item_uses}
use Rattle.expand_forms.specs.Site.{site_at}
use Rattle.expand_forms.specs.Forms.{definition_parts, if_parts, let_syntax_parts, letrec_parts, procedure_parts, syntax_case_parts, template_parts}
use Rattle.law_room.proofs.Items.{deeper-from, Keeps, keeps-splice}
use Rattle.law_room.proofs.Same.{same-after, both-after, where-after, same-framed, where-each, same-each, same-gather}
use Rattle.law_room.proofs.Waiting.{IsFrom, WaitsFrom}

pub record Agree (d : ℕ) (go ho : Inside) : Type 0 where
  pub earlier : go.earlier ≡ ho.earlier
  pub form : (place : Span) (level depth : ℕ) (t : Tree) (s : State) → d ≤ depth → go.form (site_at place level depth) t s ≡ ho.form (site_at place level depth) t s
  -- a case stands one deeper than the form that defines it
  pub procedure : (place : Span) (level depth : ℕ) (t : Tree) (ids : FormalIds) (forms : List Tree) (s : State) → d ≤ depth → go.procedure (site_at place level (deeper depth)) (procedure_parts t ids forms) s ≡ ho.procedure (site_at place level (deeper depth)) (procedure_parts t ids forms) s
  pub item : (at : BodyAt) (depth : ℕ) (done : Taken) (t : Tree) (s : State) → d ≤ depth → go.item at depth done t s ≡ ho.item at depth done t s

-- The parts of quasi forms stand as deep as the form's inside.

abbrev PartFrom : ℕ → PartForm → Type 0
PartFrom d p = d ≤ p.depth

parts-append : (d : ℕ) (ps qs : List PartForm) → Each (PartFrom d) ps → Each (PartFrom d) qs → Each (PartFrom d) (ps ++ qs)
parts-append d [] qs h k = k
parts-append d (p ∷ ps) qs h k = (h.0, parts-append d ps qs h.1 k)

made-from : (d : ℕ) (t : Tree) (depth : ℕ) (done : List PartForm) → d ≤ depth → Each (PartFrom d) done → Each (PartFrom d) (with_made t depth done)
made-from d t depth done le h = by (nat_lt most_round depth)
  where
    by : (b : Bool) → Each (PartFrom d) (if b then done ++ part t depth ∷ [] else done)
    by true = parts-append d done (part t depth ∷ []) h (le, tt)
    by false = h

mutual
  quasi-from : (d : ℕ) (t : Tree) (depth : ℕ) (done : List PartForm) (q : PlainQuasi) → d ≤ depth → Each (PartFrom d) done → Each (PartFrom d) (quasi_parts t depth done q)
  quasi-from d t depth done (constant c) le h = made-from d t depth done le h
  quasi-from d t depth done (expression e) le h = parts-append d done (part e depth ∷ []) h (le, tt)
  quasi-from d t depth done (quasi.call m qs) le h = quasis-from d t (deeper depth) (with_made t (deeper depth) done) qs (deeper-from d depth le) (made-from d t (deeper depth) done (deeper-from d depth le) h)

  quasis-from : (d : ℕ) (t : Tree) (depth : ℕ) (done : List PartForm) (qs : PlainQuasis) → d ≤ depth → Each (PartFrom d) done → Each (PartFrom d) (all_quasi_parts t depth done qs)
  quasis-from d t depth done none le h = h
  quasis-from d t depth done (more q qs) le h = quasis-from d t depth (quasi_parts t depth done q) qs le (quasi-from d t depth done q le h)

inserts-from : (d : ℕ) (depth : ℕ) (is : List Insert) → d ≤ depth → Each (PartFrom d) (map (insert_part depth) is)
inserts-from d depth [] le = tt
inserts-from d depth (i ∷ is) le = (le, inserts-from d depth is le)

syntax-from : (d : ℕ) (t : Tree) (depth : ℕ) (is : List Insert) → d ≤ depth → Each (PartFrom d) (inserts_parts t depth is)
syntax-from d t depth [] le = made-from d t depth [] le tt
syntax-from d t depth (i ∷ is) le =
    let more : d ≤ deeper (deeper depth) = deeper-from d (deeper depth) (deeper-from d depth le) in
    parts-append d (with_made t (deeper (deeper depth)) []) (map (insert_part (deeper (deeper depth))) (i ∷ is)) (made-from d t (deeper (deeper depth)) [] more tt) (inserts-from d (deeper (deeper depth)) (i ∷ is) more)

parts-from : (d : ℕ) (t : Tree) (depth : ℕ) (q : QuasiForm) → d ≤ depth → Each (PartFrom d) (parts_of t depth q)
parts-from d t depth (forms.Quote q) le = quasi-from d t depth [] q le tt
parts-from d t depth (forms.Syntax q) le = syntax-from d t depth q.inserts le

module _ (go ho : Inside) (d : ℕ) (same : Agree d go ho) (keeps : Keeps go) where
  -- Bodies.

  same-splice : (at : BodyAt) (depth : ℕ) (done : Taken) (forms : List Tree) (s : State) → d ≤ depth → splice go at depth done forms s ≡ splice ho at depth done forms s
  same-splice at depth done forms s le = same-gather (go.item at depth) (ho.item at depth) (λ e x u. same.item at depth e x u le) done forms s

  same-value : (place : Span) (level depth : ℕ) (o : Option Tree) (s : State) → d ≤ depth → value_of go (site_at place level depth) o s ≡ value_of ho (site_at place level depth) o s
  same-value place level depth None s le = refl
  same-value place level depth (Some t) s le = same.form place level depth t s le

  same-finish-as : (level : ℕ) (place : Span) (depth : ℕ) (what : Waits) (s : State) → d ≤ depth → finish_as go (site_at place level depth) what s ≡ finish_as ho (site_at place level depth) what s
  unfolding finish_as
  same-finish-as level place depth (waits.Variable l value) s le = ap (λ r. after r (λ c. give (line.Define l c))) (same-value place level (deeper depth) value s (deeper-from d depth le))
  same-finish-as level place depth (waits.Procedure l t ids forms) s le =
      same-after (fresh s) _ _ (λ n u. ap (λ r. after r (λ c. give (line.Define l (procedure (record { 0 = n }) (cases (c ∷ [])) true)))) (same.procedure place level depth t ids forms u le))
  same-finish-as level place depth (waits.Expression t) s le = ap (λ r. after r (λ c. give (line.Expr c))) (same.form place level depth t s le)

  pub same-finish-all : (level : ℕ) (ws : List Waiting) (s : State) → Each (IsFrom d) ws → finish_all go level ws s ≡ finish_all ho level ws s
  same-finish-all level ws s h = where-each (IsFrom d) (bodies.finish_one go level) (bodies.finish_one ho level) (λ w u le. same-finish-as level w.place w.depth w.what u le) [] ws s h

  same-finish : (place : Span) (level : ℕ) (t : Tree) (done : Taken) (s : State) → WaitsFrom d done → finish go place level t done s ≡ finish ho place level t done s
  unfolding finish
  same-finish place level t done s h = ap (λ r. if done.has_expression then after r (λ ls. give (body_core ls)) else fault_form kind.NoExpression t place s) (same-finish-all level done.waiting s h)

  pub same-taken : {A : Type 0} (at : BodyAt) (depth : ℕ) (forms : List Tree) (k m : Taken → Does A) (s : State) → d ≤ depth → ((done : Taken) (u : State) → WaitsFrom d done → k done u ≡ m done u)
      → after (splice go at depth begun forms s) k ≡ after (splice ho at depth begun forms s) m
  same-taken at depth forms k m s le h =
      where-after (WaitsFrom d) (splice go at depth begun forms s) k m (keeps-splice go keeps d at depth begun forms s le tt) h
      ∙ ap (λ r. after r m) (same-splice at depth begun forms s le)

  same-body-in : (place : Span) (level depth : ℕ) (t : Tree) (forms : List Tree) (frame : FrameNo) (s : State) → d ≤ depth → body_in go (site_at place level depth) t forms frame s ≡ body_in ho (site_at place level depth) t forms frame s
  same-body-in place level depth t forms frame s le =
      same-taken (lambda_at frame place level) depth (map (stamp frame) forms) (finish go place level t) (finish ho place level t) s le (λ done u h. same-finish place level t done u h)

  pub same-body : (place : Span) (level depth : ℕ) (t : Tree) (forms : List Tree) (s : State) → d ≤ depth → body go (site_at place level depth) t forms s ≡ body ho (site_at place level depth) t forms s
  unfolding body
  same-body place level depth t forms s le = same-framed (body_in go (site_at place level depth) t forms) (body_in ho (site_at place level depth) t forms) s (λ frame u. same-body-in place level depth t forms frame u le)

  -- Keywords.

  same-keyword : (place : Span) (level depth : ℕ) (b : BoundSpec) (s : State) → d ≤ depth → expand_transformer go (site_at place level depth) b s ≡ expand_transformer ho (site_at place level depth) b s
  unfolding expand_transformer
  same-keyword place level depth b s le =
      ap (λ r. after (after r (restoring s.scope)) (evaluate_transformer go.earlier (place_of b.init place) b.label)) (same.form place (level + 1) depth b.init (record s { scope = [] }) le)
      ∙ ap (λ rs. after (apart (ho.form (site_at place (level + 1) depth) b.init) s) (evaluate_transformer rs (place_of b.init place) b.label)) same.earlier

  same-keywords : (place : Span) (level depth : ℕ) (recursive : Bool) (bs : List BindingSpec) (frame : FrameNo) (s : State) → d ≤ depth → keywords go (site_at place level depth) recursive bs frame s ≡ keywords ho (site_at place level depth) recursive bs frame s
  unfolding keywords
  same-keywords place level depth recursive bs frame s le =
      same-after (bind_keywords frame place level bs s) (expand_transformers go (site_at place level depth) recursive frame) (expand_transformers ho (site_at place level depth) recursive frame)
      (λ xs u. same-gather (expand_transformer_in go (site_at place level depth) recursive frame) (expand_transformer_in ho (site_at place level depth) recursive frame) (λ e b v. same-keyword place level depth (seen_in recursive frame b) v le) tt xs u)

  same-with : (place : Span) (level depth : ℕ) (recursive : Bool) (bs : List BindingSpec) (forms : List Tree) (s : State) → d ≤ depth
      → with_keywords go (site_at place level depth) (let_syntax_parts recursive bs forms) s ≡ with_keywords ho (site_at place level depth) (let_syntax_parts recursive bs forms) s
  same-with place level depth recursive bs forms s le =
      same-after (fresh_frame s) _ _ (λ frame u. ap (λ r. after r (λ _. give (map (stamp frame) forms))) (same-keywords place level depth recursive bs frame u le))

  same-define : (at : BodyAt) (depth : ℕ) (done : Taken) (t : Tree) (b : BindingSpec) (s : State) → d ≤ depth → define_syntax go at depth done (definition_parts t b) s ≡ define_syntax ho at depth done (definition_parts t b) s
  unfolding define_syntax
  same-define at depth done t b s le = same-after (define_keyword at done t b s) (expand_transformer go (site_at at.place at.level depth)) (expand_transformer ho (site_at at.place at.level depth)) (λ x u. same-keyword at.place at.level depth x u le)

  -- Expressions.

  same-order : (place : Span) (level depth : ℕ) (ts : List Tree) (s : State) → d ≤ depth → in_order go (site_at place level depth) ts s ≡ in_order ho (site_at place level depth) ts s
  same-order place level depth ts s le = same-each (go.form (site_at place level depth)) (ho.form (site_at place level depth)) (λ x u. same.form place level depth x u le) [] ts s

  same-case-in : (place : Span) (level depth : ℕ) (t : Tree) (ids : FormalIds) (forms : List Tree) (frame : FrameNo) (s : State) → d ≤ depth
      → case_in go (site_at place level depth) (procedure_parts t ids forms) frame s ≡ case_in ho (site_at place level depth) (procedure_parts t ids forms) frame s
  same-case-in place level depth t ids forms frame s le =
      same-after (bind_formals frame place level ids s) _ _ (λ formals u. ap (λ r. after r (λ c. give (record { formals = formals; body = c }))) (same-body place level depth t (map (stamp frame) forms) u le))

  pub same-case : (place : Span) (level depth : ℕ) (t : Tree) (ids : FormalIds) (forms : List Tree) (s : State) → d ≤ depth → lambda_case go (site_at place level depth) (procedure_parts t ids forms) s ≡ lambda_case ho (site_at place level depth) (procedure_parts t ids forms) s
  unfolding lambda_case
  same-case place level depth t ids forms s le =
      same-framed (case_in go (site_at place level depth) (procedure_parts t ids forms)) (case_in ho (site_at place level depth) (procedure_parts t ids forms)) s (λ frame u. same-case-in place level depth t ids forms frame u le)

  same-lambda : (place : Span) (level depth : ℕ) (t : Tree) (ids : FormalIds) (forms : List Tree) (s : State) → d ≤ depth → lambda go (site_at place level depth) (procedure_parts t ids forms) s ≡ lambda ho (site_at place level depth) (procedure_parts t ids forms) s
  unfolding lambda
  same-lambda place level depth t ids forms s le =
      same-after (fresh s) _ _ (λ n u. ap (λ r. after r (λ c. give (procedure (record { 0 = n }) (cases (c ∷ [])) true))) (same-case place level depth t ids forms u le))

  same-cases : (place : Span) (level depth : ℕ) (t : Tree) (cs : List LambdaCase) (s : State) → d ≤ depth → case_lambda go (site_at place level depth) t cs s ≡ case_lambda ho (site_at place level depth) t cs s
  unfolding case_lambda
  same-cases place level depth t cs s le =
      same-after (fresh s) _ _
      (λ n u. ap (λ r. after r (λ xs. give (procedure (record { 0 = n }) (cases xs) false))) (same-each (one_case go (site_at place level depth) t) (one_case ho (site_at place level depth) t) (λ c v. same-case place level depth t c.formals c.body v le) [] cs u))

  same-init : (place : Span) (level depth : ℕ) (frame : FrameNo) (b : BoundSpec) (s : State) → d ≤ depth → one_init go (site_at place level depth) frame b s ≡ one_init ho (site_at place level depth) frame b s
  unfolding one_init
  same-init place level depth frame b s le = ap (λ r. after r (λ c. give (record { label = b.label; value = c }))) (same.form place level depth (stamp frame b.init) s le)

  same-letrec-in : (place : Span) (level depth : ℕ) (t : Tree) (star : Bool) (bs : List BindingSpec) (forms : List Tree) (frame : FrameNo) (s : State) → d ≤ depth
      → letrec_in go (site_at place level depth) (letrec_parts t star bs forms) frame s ≡ letrec_in ho (site_at place level depth) (letrec_parts t star bs forms) frame s
  same-letrec-in place level depth t star bs forms frame s le =
      same-after (bind_specs frame place level bs s) _ _ (λ ls u. both-after (all_inits go (site_at place level depth) frame ls u) (all_inits ho (site_at place level depth) frame ls u) _ _
      (same-each (one_init go (site_at place level depth) frame) (one_init ho (site_at place level depth) frame) (λ b v. same-init place level depth frame b v le) [] ls u)
      (λ is v. ap (λ r. after r (λ c. give (letrec star (inits is) c))) (same-body place level depth t (map (stamp frame) forms) v le)))

  same-letrec : (place : Span) (level depth : ℕ) (t : Tree) (star : Bool) (bs : List BindingSpec) (forms : List Tree) (s : State) → d ≤ depth
      → letrec_form go (site_at place level depth) (letrec_parts t star bs forms) s ≡ letrec_form ho (site_at place level depth) (letrec_parts t star bs forms) s
  unfolding letrec_form
  same-letrec place level depth t star bs forms s le =
      same-framed (letrec_in go (site_at place level depth) (letrec_parts t star bs forms)) (letrec_in ho (site_at place level depth) (letrec_parts t star bs forms)) s (λ frame u. same-letrec-in place level depth t star bs forms frame u le)

  same-application : (place : Span) (level depth : ℕ) (operator : Tree) (operands : List Tree) (s : State) → d ≤ depth → application go (site_at place level depth) operator operands s ≡ application ho (site_at place level depth) operator operands s
  unfolding application
  same-application place level depth operator operands s le =
      both-after (go.form (site_at place level depth) operator s) (ho.form (site_at place level depth) operator s) _ _ (same.form place level depth operator s le)
      (λ c u. ap (λ r. after r (λ cs. give (call c (cores cs)))) (same-order place level depth operands u le))

  same-alternate : (place : Span) (level depth : ℕ) (c e : PlainCore) (o : Option Tree) (s : State) → d ≤ depth → alternate go (site_at place level depth) c e o s ≡ alternate ho (site_at place level depth) c e o s
  same-alternate place level depth c e None s le = refl
  same-alternate place level depth c e (Some t) s le = ap (λ r. after r (λ f. give (two_armed c e f))) (same.form place level depth t s le)

  same-conditional : (place : Span) (level depth : ℕ) (test consequent : Tree) (other : Option Tree) (s : State) → d ≤ depth → conditional go (site_at place level depth) (if_parts test consequent other) s ≡ conditional ho (site_at place level depth) (if_parts test consequent other) s
  unfolding conditional
  same-conditional place level depth test consequent other s le =
      both-after (go.form (site_at place level depth) test s) (ho.form (site_at place level depth) test s) _ _ (same.form place level depth test s le)
      (λ c u. both-after (go.form (site_at place level depth) consequent u) (ho.form (site_at place level depth) consequent u) _ _ (same.form place level depth consequent u le) (λ e v. same-alternate place level depth c e other v le))

  same-set : (place : Span) (level depth : ℕ) (l : Label) (value : Tree) (s : State) → d ≤ depth → set go (site_at place level depth) l value s ≡ set ho (site_at place level depth) l value s
  unfolding set
  same-set place level depth l value s le = ap (λ r. after r (λ c. give (assignment l c))) (same.form place level depth value s le)

  same-sequence : (place : Span) (level depth : ℕ) (ts : List Tree) (s : State) → d ≤ depth → in_sequence go (site_at place level depth) ts s ≡ in_sequence ho (site_at place level depth) ts s
  unfolding in_sequence
  same-sequence place level depth ts s le = ap (λ r. after r (λ cs. give (sequence_of cs))) (same-order place level depth ts s le)

  same-fender : (place : Span) (level depth : ℕ) (frame : FrameNo) (o : Option Tree) (s : State) → d ≤ depth → fender go (site_at place level depth) frame o s ≡ fender ho (site_at place level depth) frame o s
  same-fender place level depth frame None s le = refl
  same-fender place level depth frame (Some t) s le = ap (λ r. after r (λ c. give (Some c))) (same.form place level depth (stamp frame t) s le)

  same-clause-in : (place : Span) (level depth : ℕ) (literals : List Tree) (c : PatternCase) (frame : FrameNo) (s : State) → d ≤ depth → clause_in go (site_at place level depth) literals c frame s ≡ clause_in ho (site_at place level depth) literals c frame s
  same-clause-in place level depth literals c frame s le =
      same-after (pattern_of literals place c.pattern s) _ _ (λ p u. same-after (bind_pattern frame place level p.variables u) _ _
      (λ x v. both-after (fender go (site_at place level depth) frame c.fender v) (fender ho (site_at place level depth) frame c.fender v) _ _ (same-fender place level depth frame c.fender v le)
      (λ f w. ap (λ r. after r (λ o. give (record { pattern = p.pattern; fender = f; output = o }))) (same.form place level depth (stamp frame c.output) w le))))

  same-clause : (place : Span) (level depth : ℕ) (literals : List Tree) (c : PatternCase) (s : State) → d ≤ depth → pattern_clause go (site_at place level depth) literals c s ≡ pattern_clause ho (site_at place level depth) literals c s
  unfolding pattern_clause
  same-clause place level depth literals c s le =
      same-framed (clause_in go (site_at place level depth) literals c) (clause_in ho (site_at place level depth) literals c) s (λ frame u. same-clause-in place level depth literals c frame u le)

  same-matching : (place : Span) (level depth : ℕ) (subject : Tree) (literals : List Tree) (cs : List PatternCase) (span : Span) (s : State) → d ≤ depth
      → syntax_case go (site_at place level depth) (syntax_case_parts subject literals cs span) s ≡ syntax_case ho (site_at place level depth) (syntax_case_parts subject literals cs span) s
  unfolding syntax_case
  same-matching place level depth subject literals cs span s le =
      both-after (go.form (site_at place level depth) subject s) (ho.form (site_at place level depth) subject s) _ _ (same.form place level depth subject s le)
      (λ c u. same-after (check_literals place literals u) _ _
      (λ x v. ap (λ r. after r (λ xs. give (matching c (clauses xs) span)))
      (same-each (pattern_clause go (site_at place level depth) literals) (pattern_clause ho (site_at place level depth) literals) (λ c' w. same-clause place level depth literals c' w le) [] cs v)))

  same-keywords-form : (place : Span) (level depth : ℕ) (recursive : Bool) (bs : List BindingSpec) (forms : List Tree) (s : State) → d ≤ depth
      → keywords_form go (site_at place level depth) (let_syntax_parts recursive bs forms) s ≡ keywords_form ho (site_at place level depth) (let_syntax_parts recursive bs forms) s
  unfolding keywords_form
  same-keywords-form place level depth recursive bs forms s le =
      both-after (with_keywords go (site_at place level depth) (let_syntax_parts recursive bs forms) s) (with_keywords ho (site_at place level depth) (let_syntax_parts recursive bs forms) s) (in_sequence go (site_at place level depth)) (in_sequence ho (site_at place level depth))
      (same-with place level depth recursive bs forms s le) (λ ts u. same-sequence place level depth ts u le)

  same-quasi-made : (place : Span) (level depth : ℕ) (t : Tree) (q : QuasiForm) (s : State) → d ≤ depth → quasi_made go (site_at place level depth) t q s ≡ quasi_made ho (site_at place level depth) t q s
  same-quasi-made place level depth t q s le =
      ap (λ r. after r (code_of place level t q))
      (where-each (PartFrom d) (part_core go place level) (part_core ho place level) (λ p u k. same.form place level p.depth p.form u k) [] (parts_of t depth q) s (parts-from d t depth q le))

  same-quasi : (place : Span) (level depth : ℕ) (t : Tree) (which : Family) (template : Tree) (s : State) → d ≤ depth → quasi_form go (site_at place level depth) (template_parts t which template) s ≡ quasi_form ho (site_at place level depth) (template_parts t which template) s
  unfolding quasi_form
  same-quasi place level depth t which template s le = same-after (form_of place t which template s) (quasi_made go (site_at place level depth) t) (quasi_made ho (site_at place level depth) t) (λ q u. same-quasi-made place level depth t q u le)

  -- what lies in a form is one deeper
  same-perform : (place : Span) (level depth : ℕ) (t : Tree) (p : Plan) (s : State) → d ≤ deeper depth → perform go (site_at place level depth) t p s ≡ perform ho (site_at place level depth) t p s
  unfolding perform
  same-perform place level depth t (plans.Done c) s le = refl
  same-perform place level depth t (plans.Call operator operands) s le = same-application place level (deeper depth) operator operands s le
  same-perform place level depth t (plans.Conditional test consequent other) s le = same-conditional place level (deeper depth) test consequent other s le
  same-perform place level depth t (plans.Assignment l value) s le = same-set place level (deeper depth) l value s le
  same-perform place level depth t (plans.Sequence forms) s le = same-sequence place level (deeper depth) forms s le
  same-perform place level depth t (plans.Lambda ids forms) s le = same-lambda place level (deeper depth) t ids forms s le
  same-perform place level depth t (plans.CaseLambda cs) s le = same-cases place level (deeper depth) t cs s le
  same-perform place level depth t (plans.Letrec star bs forms) s le = same-letrec place level (deeper depth) t star bs forms s le
  same-perform place level depth t (plans.Matching subject literals cs span) s le = same-matching place level (deeper depth) subject literals cs span s le
  same-perform place level depth t (plans.Keywords recursive bs forms) s le = same-keywords-form place level (deeper depth) recursive bs forms s le
  same-perform place level depth t (plans.Quasi which template) s le = same-quasi place level (deeper depth) t which template s le

  same-perform-item : (at : BodyAt) (depth : ℕ) (done : Taken) (t : Tree) (i : Item) (s : State) → d ≤ deeper depth → perform_item go at depth done t i s ≡ perform_item ho at depth done t i s
  unfolding perform_item
  same-perform-item at depth done t items.Nothing s le = refl
  same-perform-item at depth done t (items.Forms forms) s le = same-splice at (deeper depth) done forms s le
  same-perform-item at depth done t (items.Keyword b) s le = ap (λ r. after r (λ _. give done)) (same-define at (deeper depth) done t b s le)
  same-perform-item at depth done t (items.Keywords recursive bs forms) s le =
      both-after (with_keywords go (site_at at.place at.level (deeper depth)) (let_syntax_parts recursive bs forms) s) (with_keywords ho (site_at at.place at.level (deeper depth)) (let_syntax_parts recursive bs forms) s) (splice go at (deeper depth) done) (splice ho at (deeper depth) done)
      (same-with at.place at.level (deeper depth) recursive bs forms s le) (λ fs u. same-splice at (deeper depth) done fs u le)

  pub same-form-at : (place : Span) (level depth : ℕ) (t : Tree) (s : State) → d ≤ deeper depth → form_at go (site_at place level depth) t s ≡ form_at ho (site_at place level depth) t s
  unfolding form_at
  same-form-at place level depth t s le = ap (λ r. if nat_lt most_round depth then fault_form kind.TooDeep t place s else r)
      (ap (λ rs. after (expand_uses rs place level t s) (perform_settled go level depth)) same.earlier
      ∙ same-after (expand_uses ho.earlier place level t s) (perform_settled go level depth) (perform_settled ho level depth) (λ x u. same-perform x.place level depth x.form x.plan u le))

  pub same-item : (at : BodyAt) (depth : ℕ) (done : Taken) (t : Tree) (s : State) → d ≤ deeper depth → item go at depth done t s ≡ item ho at depth done t s
  unfolding item
  same-item at depth done t s le = ap (λ r. if nat_lt most_round depth then fault_form kind.TooDeep t at.place s else r)
      (ap (λ rs. after (expand_item_uses rs at depth done t s) (bodies.perform_settled go depth)) same.earlier
      ∙ same-after (expand_item_uses ho.earlier at depth done t s) (bodies.perform_settled go depth) (bodies.perform_settled ho depth) (λ p u. same-perform-item p.1.at depth p.0 p.1.form p.1.item u le))
