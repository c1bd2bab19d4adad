-- Sequences, applications, assignments, procedures and forms of `if`, `syntax-case`, `letrec`, `letrec*`, `let-syntax` and `letrec-syntax` make what lies in
-- them one deeper.
use Rattle.std.proofs.Common.{◌≡◌, ◌<◌, ◌≤◌, ℕ, zero, suc, ◌+◌, Bool, true, false, List, [], ◌∷◌, length, Option, None, Some, Result, Ok, Err, refl, sym, ◌∙◌, ap, subst, map, if◌then◌else◌, arith}
use Rattle.std.specs.Prelude.{nat_eq}
use Rattle.std.specs.Cmp.{unsigned_Decides}
use Rattle.base_data.specs.Act.{after, give, each, gather}
use Rattle.base_data.specs.declared.atom.Atom.{Atom}
use Rattle.base_data.specs.declared.atom.Atom.TheVariants as atoms
use Rattle.base_data.specs.declared.fault.Fault.{Fault}
use Rattle.base_data.specs.declared.fault.FaultKind.TheVariants as kind
use Rattle.base_data.specs.declared.name.FrameNo.{FrameNo}
use Rattle.base_data.specs.declared.name.Label.{Label}
use Rattle.base_data.specs.declared.span.Span.{Span}
use Rattle.stx_tree.specs.Changes.{stamp}
use Rattle.stx_tree.specs.Tree.{Tree, atom, leaf, pair, vector, nil, chain, span_of}
use Rattle.stx_tree.specs.Leaves.{strip}
use Rattle.core_language.specs.Core.{PlainCore, quoted, assignment, call, cores, matching}
use Rattle.core_language.specs.CoreView.{clauses}
use Rattle.core_language.specs.Labels.{has_label, with_label}
use Rattle.core_language.specs.declared.core_form.CoreForm.{CoreForm}
use Rattle.core_language.specs.declared.core_form.CoreForm.TheVariants as core_forms
use Rattle.core_language.specs.declared.formals.Formals.{Formals}
use Rattle.core_language.specs.declared.link.LinkKind.TheVariants as kinds
use Rattle.core_language.specs.declared.record.CompiledLibrary.{CompiledLibrary}
use Rattle.core_shapes.specs.At.{fault_at}
use Rattle.core_shapes.specs.Forms.{binding, bindings, case_lambda_shape, formals, formals_before, if_shape, lambda_case, lambda_shape, let_syntax_shape, letrec_shape, set_shape, syntax_case_shape, shaped, or_bad, shape_of, shape}
use Rattle.core_shapes.specs.Lists.{is_leaf, is_nil_atom, elements, tail_of, all_ids, if_some, all_of}
use Rattle.core_shapes.specs.declared.shape.BindingSpec.{BindingSpec}
use Rattle.core_shapes.specs.declared.shape.Shape.{Shape}
use Rattle.core_shapes.specs.declared.shape.Shape.TheVariants as shapes
use Rattle.eval_stage.specs.Patterns.{check_literals as literals_on_stage}
use Rattle.expand_standing.specs.InScope.{cut, is_in_scope}
use Rattle.expand_standing.specs.Patterns.{check_literals}
use Rattle.expand_standing.specs.Standing.{standing_of, role_of}
use Rattle.expand_standing.specs.State.{State, fresh_frame, noted}
use Rattle.expand_standing.specs.declared.standing.Standing.TheVariants as standing
use Rattle.expand_standing.specs.declared.standing.Variable.{Variable}
use Rattle.expand_heads.specs.declared.plan.HeadPlan.TheVariants as head_plans
use Rattle.expand_heads.specs.Depth.{deeper, most_round}
use Rattle.expand_heads.specs.Items.{alone, begun, core_item, headed_item, keep, kept_head, list_item, set_item, target_item, wait}
use Rattle.expand_heads.specs.Kept.{with_head}
use Rattle.expand_heads.specs.Plan.{application, assign, assign_by, assign_to, by_head, keyword_plan, list_plan, plan_of, shape_plan, target_variable, with_shape}
use Rattle.expand_heads.specs.declared.plan.Plan.{Plan}
use Rattle.expand_heads.specs.declared.plan.Plan.TheVariants as plans
use Rattle.expand_heads.specs.declared.taken.BodyAt.{BodyAt}
use Rattle.expand_heads.specs.declared.taken.Taken.{Taken}
use Rattle.expand_forms.specs.Body.{lambda_at, sequence_of}
use Rattle.expand_forms.specs.Expression.{all_clauses, alternate, application as call_form, conditional, in_order, in_sequence, keywords_form, perform, set as set_form, syntax_case, inside, full_room}
use Rattle.expand_forms.specs.Inside.{Inside}
use Rattle.expand_forms.specs.Keywords.{keywords as bound_keywords}
use Rattle.expand_forms.specs.ExpandUses.{linked}
use Rattle.expand_forms.specs.Site.{site_at}
use Rattle.law_room.specs.Counted.{Round, sequence, operator, test, subject, value, keywords, body, one_case, block, initial, IsKeywordWord, IsTarget, IsAlone, AreFormals, IsBinderForm, IsRound, stamp_round, counted, next_frame, in_frames, rounds_in_frames, within, rounds_within, next, left, all_left, AreRound, round, truth, put, put_in, code, code_in, FormsCountOnce}
use Rattle.law_room.proofs.Items.{shallow-inside}
use Rattle.law_room.proofs.Procedures.{IsPlanned, IsTaken, block-faulted, block-made, body-faulted, body-made, body-too-deep, cases-faulted, cases-made, headed, initial-faulted, initial-made, is-taken, lambda-faulted, lambda-made, no_ids}
use Rattle.law_room.proofs.Limits.{over, done-at, one-deeper, constant-is}
use Rattle.law_room.proofs.Rooms.{form-is, too-deep-form, forms-need-no-more}

abbrev plan : Span → Round → Tree → Plan
plan place (sequence word) form = plans.Sequence (form ∷ [])
plan place operator form = plans.Call form []
plan place (test word) form = plans.Conditional form truth None
plan place (subject word) form = plans.Matching form [] [] place
plan place (value word id v) form = plans.Assignment v.label form
plan place (keywords recursive word) form = plans.Keywords recursive [] (form ∷ [])
plan place (body word ids fs v) form = plans.Lambda (record { required = ids; rest = None }) (form ∷ [])
plan place (one_case word) form = plans.CaseLambda (record { formals = no_ids; body = form ∷ [] } ∷ [])
plan place (block star word) form = plans.Letrec star [] (form ∷ [])
plan place (initial star word id l v) form = plans.Letrec star (record { id = id; init = form } ∷ []) (truth ∷ [])

-- the state that the plan leaves
abbrev planned : Round → State → State
planned (sequence word) s = s
planned operator s = s
planned (test word) s = s
planned (subject word) s = s
planned (value word id v) s = record s { assigned = with_label s.assigned v.label }
planned (keywords recursive word) s = s
planned (body word ids fs v) s = s
planned (one_case word) s = s
planned (block star word) s = s
planned (initial star word id l v) s = s

-- the state with the links of the form, in which what is planned is done
abbrev entered : Round → State → State
entered (sequence word) s = s
entered operator s = s
entered (test word) s = s
entered (subject word) s = s
entered (value word id v) s = next (value word id v) s
entered (keywords recursive word) s = s
entered (body word ids fs v) s = s
entered (one_case word) s = s
entered (block star word) s = s
entered (initial star word id l v) s = s

not-leaf : (rs : List Round) (t : Tree) → is_leaf t ≡ false → is_leaf (put_in rs t) ≡ false
not-leaf [] t h = h
not-leaf (sequence word ∷ rs) t h = refl
not-leaf (operator ∷ rs) t h = refl
not-leaf (test word ∷ rs) t h = refl
not-leaf (subject word ∷ rs) t h = refl
not-leaf (value word id v ∷ rs) t h = refl
not-leaf (keywords recursive word ∷ rs) t h = refl
not-leaf (body word ids fs v ∷ rs) t h = refl
not-leaf (one_case word ∷ rs) t h = refl
not-leaf (block star word ∷ rs) t h = refl
not-leaf (initial star word id l v ∷ rs) t h = refl

-- Stamps change neither how many stand round a form, nor what comes of it.

stamp-chain : (f : FrameNo) (ids : List Tree) → stamp f (chain ids nil) ≡ chain (map (stamp f) ids) nil
stamp-chain f [] = refl
stamp-chain f (id ∷ ids) = ap (λ t. pair None (stamp f id) t) (stamp-chain f ids)

stamp-put : (f : FrameNo) (r : Round) (t : Tree) → stamp f (put r t) ≡ put (stamp_round f r) (stamp f t)
stamp-put f (sequence word) t = refl
stamp-put f operator t = refl
stamp-put f (test word) t = refl
stamp-put f (subject word) t = refl
stamp-put f (value word id v) t = refl
stamp-put f (keywords recursive word) t = refl
stamp-put f (body word ids fs v) t = ap (λ x. pair None (stamp f word) (pair None x (pair None (stamp f t) nil))) (stamp-chain f ids)
stamp-put f (one_case word) t = refl
stamp-put f (block star word) t = refl
stamp-put f (initial star word id l v) t = refl

stamp-put-in : (f : FrameNo) (rs : List Round) (t : Tree) → stamp f (put_in rs t) ≡ put_in (map (stamp_round f) rs) (stamp f t)
stamp-put-in f [] t = refl
stamp-put-in f (r ∷ rs) t = stamp-put f r (put_in rs t) ∙ ap (put (stamp_round f r)) (stamp-put-in f rs t)

stamp-length : (f : FrameNo) (rs : List Round) → length (map (stamp_round f) rs) ≡ length rs
stamp-length f [] = refl
stamp-length f (r ∷ rs) = ap suc (stamp-length f rs)

stamp-span : (f : FrameNo) (t : Tree) → span_of (stamp f t) ≡ span_of t
stamp-span f (atom o a) = refl
stamp-span f (leaf o x c) = refl
stamp-span f (pair o a d) = refl
stamp-span f (vector o d) = refl

stamp-next : (f : FrameNo) (r : Round) (s : State) → next (stamp_round f r) s ≡ next r s
stamp-next f (sequence word) s = refl
stamp-next f operator s = refl
stamp-next f (test word) s = refl
stamp-next f (subject word) s = refl
stamp-next f (value word id v) s = ap (λ o. noted o v.label kinds.Refer (record s { assigned = with_label s.assigned v.label })) (stamp-span f id)
stamp-next f (keywords recursive word) s = refl
stamp-next f (body word ids fs v) s = refl
stamp-next f (one_case word) s = refl
stamp-next f (block star word) s = refl
stamp-next f (initial star word id l v) s = refl

stamp-code : (f : FrameNo) (place : Span) (r : Round) (s : State) (c : PlainCore) → code place (stamp_round f r) s c ≡ code place r s c
stamp-code f place (sequence word) s c = refl
stamp-code f place operator s c = refl
stamp-code f place (test word) s c = refl
stamp-code f place (subject word) s c = refl
stamp-code f place (value word id v) s c = refl
stamp-code f place (keywords recursive word) s c = refl
stamp-code f place (body word ids fs v) s c = refl
stamp-code f place (one_case word) s c = refl
stamp-code f place (block star word) s c = refl
stamp-code f place (initial star word id l v) s c = refl

stamp-code-in : (f : FrameNo) (place : Span) (rs : List Round) (s : State) (c : PlainCore) → code_in place (map (stamp_round f) rs) s c ≡ code_in place rs s c
stamp-code-in f place [] s c = refl
stamp-code-in f place (r ∷ rs) s c =
    stamp-code f place r s (code_in place (map (stamp_round f) rs) (next (stamp_round f r) s) c) ∙ ap (λ u. code place r s (code_in place (map (stamp_round f) rs) u c)) (stamp-next f r s)
    ∙ ap (code place r s) (stamp-code-in f place rs (next r s) c)

stamp-left : (f : FrameNo) (r : Round) (s u : State) → left (stamp_round f r) s u ≡ left r s u
stamp-left f (sequence word) s u = refl
stamp-left f operator s u = refl
stamp-left f (test word) s u = refl
stamp-left f (subject word) s u = refl
stamp-left f (value word id v) s u = refl
stamp-left f (keywords recursive word) s u = refl
stamp-left f (body word ids fs v) s u = refl
stamp-left f (one_case word) s u = refl
stamp-left f (block star word) s u = refl
stamp-left f (initial star word id l v) s u = refl

stamp-all-left : (f : FrameNo) (rs : List Round) (s : State) → all_left (map (stamp_round f) rs) s ≡ all_left rs s
stamp-all-left f [] s = refl
stamp-all-left f (r ∷ rs) s =
    stamp-left f r s (all_left (map (stamp_round f) rs) (next (stamp_round f r) s)) ∙ ap (λ u. left r s (all_left (map (stamp_round f) rs) u)) (stamp-next f r s)
    ∙ ap (left r s) (stamp-all-left f rs (next r s))

stamp-alone : (f : FrameNo) (rs : List Round) → IsAlone rs → IsAlone (map (stamp_round f) rs)
stamp-alone f [] h = h
stamp-alone f (sequence word ∷ rs) h = h
stamp-alone f (operator ∷ rs) h = h
stamp-alone f (test word ∷ rs) h = h
stamp-alone f (subject word ∷ rs) h = h
stamp-alone f (value word id v ∷ rs) h = h
stamp-alone f (keywords recursive word ∷ rs) h = h
stamp-alone f (body word ids fs v ∷ rs) h = h
stamp-alone f (one_case word ∷ rs) h = h
stamp-alone f (block star word ∷ rs) h = h
stamp-alone f (initial star word id l v ∷ rs) h = h

stamp-leaf : (f : FrameNo) (t : Tree) → is_leaf (stamp f t) ≡ is_leaf t
stamp-leaf f (atom o a) = refl
stamp-leaf f (leaf o x k) = refl
stamp-leaf f (pair o a d) = refl
stamp-leaf f (vector o d) = refl

stamp-fault : (f : FrameNo) (t : Tree) (place : Span) → fault_at kind.TooDeep (stamp f t) place [] ≡ fault_at kind.TooDeep t place []
stamp-fault f (atom o a) place = refl
stamp-fault f (leaf o x k) place = refl
stamp-fault f (pair o a d) place = refl
stamp-fault f (vector o d) place = refl

-- one of five outcomes, by four tests
chosen : {A : Type 0} (a b c d : Bool) (v w x y z : A) → a ≡ true → b ≡ true → c ≡ true → d ≡ false → (if a then (if b then (if c then (if d then v else w) else x) else y) else z) ≡ w
chosen true true true false v w x y z h i j k = refl
chosen true true true true v w x y z h i j k = absurd (cc)
chosen true true false d v w x y z h i j k = absurd (cc)
chosen true false c d v w x y z h i j k = absurd (cc)
chosen false b c d v w x y z h i j k = absurd (cc)

target-is : (place : Span) (level : ℕ) (t id : Tree) (s : State) (v : Variable) (word : Tree) → IsTarget level s id v → target_variable place level t id v s ≡ Ok (v.label, planned (value word id v) s)
unfolding target_variable
target-is place level t id s v word is =
    chosen v.own (nat_eq v.level level) (is_in_scope s v) (has_label s.exports v.label) _ _ _ _ _ is.own ((unsigned_Decides v.level level).1 is.level) is.in_scope is.inside

module _ (place : Span) (level : ℕ) (form : Tree) (s : State) (no : is_leaf form ≡ false) where
  by-word : (f : CoreForm) (word rest : Tree) → IsKeywordWord s f word → plan_of place level (pair None word rest) s ≡ keyword_plan place level (pair None word rest) word f s
  unfolding list_plan
  by-word f word rest is =
      ap (λ b. if b then by_head place level (pair None word rest) word rest (standing_of s word) s else application place (pair None word rest) word rest s) is.leaf
      ∙ ap (λ x. by_head place level (pair None word rest) word rest x s) is.stands

  shape-set : (word id : Tree) (v : Variable) → is_leaf id ≡ true → shape core_forms.Set (put (value word id v) form) place ≡ Ok (shapes.Set id form)
  unfolding shape shape_of shaped set_shape
  shape-set word id v is = ap (λ b. or_bad (put (value word id v) form) place (if b then Some (shapes.Set id form) else None)) is

  elements-are : (ids : List Tree) → elements (chain ids nil) ≡ ids
  elements-are [] = refl
  elements-are (id ∷ ids) = ap (λ xs. id ∷ xs) (elements-are ids)

  tail-is : (ids : List Tree) → tail_of (chain ids nil) ≡ nil
  tail-is [] = refl
  tail-is (id ∷ ids) = tail-is ids

  formals-are : (ids : List Tree) → all_ids ids ≡ true → formals (chain ids nil) ≡ Some (record { required = ids; rest = None })
  unfolding formals formals_before
  formals-are ids all =
      ap (λ xs. if all_ids xs then formals_before xs (tail_of (chain ids nil)) else None) (elements-are ids) ∙ ap (λ x. if all_ids ids then formals_before ids x else None) (tail-is ids)
      ∙ ap (λ b. if b then formals_before ids nil else None) all

  shape-lambda : (word : Tree) (ids : List Tree) (fs : Formals) (v : State) → all_ids ids ≡ true
      → shape core_forms.Lambda (put (body word ids fs v) form) place ≡ Ok (shapes.Lambda (record { required = ids; rest = None }) (form ∷ []))
  unfolding shape shape_of shaped lambda_shape
  shape-lambda word ids fs v all = ap (λ o. or_bad (put (body word ids fs v) form) place (if_some o (λ x. Some (shapes.Lambda x (form ∷ []))))) (formals-are ids all)

  abbrev spec : Tree → BindingSpec
  spec id = record { id = id; init = form }

  abbrev letrec_of : Option BindingSpec → Option Shape
  letrec_of o = if_some (if_some o (λ b. all_of binding (b ∷ []) [])) (λ bs. Some (shapes.Letrec bs (truth ∷ [])))

  shape-initial : (star : Bool) (word id : Tree) (l : Label) (v : State) → is_leaf id ≡ true
      → shape (if star then core_forms.LetrecStar else core_forms.Letrec) (put (initial star word id l v) form) place ≡ Ok (shapes.Letrec (spec id ∷ []) (truth ∷ []))
  unfolding shape shape_of shaped letrec_shape bindings binding all_of
  shape-initial false word id l v is = ap (λ b. or_bad (put (initial false word id l v) form) place (letrec_of (if b then Some (spec id) else None))) is
  shape-initial true word id l v is = ap (λ b. or_bad (put (initial true word id l v) form) place (letrec_of (if b then Some (spec id) else None))) is

  abbrev spec_rest : Tree → Tree
  spec_rest id = pair None (pair None (pair None id (pair None form nil)) nil) (pair None truth nil)

  plan-is : (r : Round) (rs : List Round) → IsRound place level s r rs → plan_of place level (put r form) s ≡ Ok (head_plans.Plan (plan place r form), planned r s)
  unfolding list_plan application keyword_plan shape_plan role_of shape shape_of shaped if_shape syntax_case_shape let_syntax_shape letrec_shape lambda_shape case_lambda_shape lambda_case formals formals_before bindings binding all_of assign
  plan-is (sequence word) rs is = by-word core_forms.Begin word (pair None form nil) is
  plan-is operator rs is = ap (λ b. if b then by_head place level (put operator form) form nil (standing_of s form) s else application place (put operator form) form nil s) no
  plan-is (test word) rs is = by-word core_forms.If word (pair None form (pair None truth nil)) is
  plan-is (subject word) rs is = by-word core_forms.SyntaxCase word (pair None form (pair None nil nil)) is
  plan-is (value word id v) rs is =
      by-word core_forms.Set word (pair None id (pair None form nil)) is.0
      ∙ ap (λ x. with_shape place level (put (value word id v) form) core_forms.Set x s) (shape-set word id v is.1.leaf)
      ∙ ap (λ x. assign_by place level (put (value word id v) form) id form x s) is.1.stands
      ∙ ap (λ x. after x (assign_to form)) (target-is place level (put (value word id v) form) id s v word is.1)
  plan-is (keywords false word) rs is = by-word core_forms.LetSyntax word (pair None nil (pair None form nil)) is
  plan-is (keywords true word) rs is = by-word core_forms.LetrecSyntax word (pair None nil (pair None form nil)) is
  plan-is (body word ids fs v) rs is =
      by-word core_forms.Lambda word (pair None (chain ids nil) (pair None form nil)) is.0.0
      ∙ ap (λ x. with_shape place level (put (body word ids fs v) form) core_forms.Lambda x s) (shape-lambda word ids fs v is.0.1.leaves)
  plan-is (one_case word) rs is = by-word core_forms.CaseLambda word (pair None (pair None nil (pair None form nil)) nil) is.0
  plan-is (block false word) rs is = by-word core_forms.Letrec word (pair None nil (pair None form nil)) is.0
  plan-is (block true word) rs is = by-word core_forms.LetrecStar word (pair None nil (pair None form nil)) is.0
  plan-is (initial false word id l v) rs is =
      by-word core_forms.Letrec word (spec_rest id) is.0 ∙ ap (λ x. with_shape place level (put (initial false word id l v) form) core_forms.Letrec x s) (shape-initial false word id l v is.1.leaf)
  plan-is (initial true word id l v) rs is =
      by-word core_forms.LetrecStar word (spec_rest id) is.0 ∙ ap (λ x. with_shape place level (put (initial true word id l v) form) core_forms.LetrecStar x s) (shape-initial true word id l v is.1.leaf)

  enters : (r : Round) → linked (put r form) (plan place r form) (planned r s) ≡ entered r s
  enters (sequence word) = refl
  enters operator = refl
  enters (test word) = refl
  enters (subject word) = refl
  enters (value word id v) = refl
  enters (keywords recursive word) = refl
  enters (body word ids fs v) = refl
  enters (one_case word) = refl
  enters (block star word) = refl
  enters (initial star word id l v) = refl

  in-round : (records : List CompiledLibrary) (room depth : ℕ) (r : Round) (rs : List Round) → IsRound place level s r rs → depth ≤ most_round
      → (inside records (suc room)).form (site_at place level depth) (put r form) s ≡ perform (inside records room) (site_at place level depth) (put r form) (plan place r form) (entered r s)
  in-round records room depth r rs is few =
      form-is records room place level depth (put r form) s
      ∙ done-at (inside records room) place level depth (put r form) s (planned r s) (plan place r form) few (plan-is r rs is)
      ∙ ap (perform (inside records room) (site_at place level depth) (put r form) (plan place r form)) (enters r)

-- Right in a body each of these is an expression that waits.

module _ (at : BodyAt) (depth : ℕ) (form : Tree) (s : State) (no : is_leaf form ≡ false) where
  target-taken : (word id : Tree) (v : Variable) (d : Taken) → is_leaf id ≡ true → standing_of s id ≡ standing.Variable v
      → set_item at depth d (put (value word id v) form) (shape core_forms.Set (put (value word id v) form) at.place) s
      ≡ alone (wait at depth (record d { kept = with_head d.kept (kept_head s id) }) (put (value word id v) form)) s
  unfolding keep
  target-taken word id v d is stood =
      ap (λ x. set_item at depth d (put (value word id v) form) x s) (shape-set at.place 0 form s no word id v is)
      ∙ ap (λ x. target_item at depth (record d { kept = with_head d.kept (kept_head s id) }) (put (value word id v) form) x s) stood

  item-is : (place : Span) (level : ℕ) (q : Round) (rs : List Round) → IsRound place level s q rs → IsAlone (q ∷ rs) → IsPlanned at depth (put q form) s
  unfolding list_item core_item role_of
  item-is place level (sequence word) rs is h = elim h [ ]
  item-is place level operator rs is h = record {
    kept = begun.kept;
    planned = ap (λ b. if b then after (keep begun form s) (λ kept s'. headed_item at depth kept (put operator form) (standing_of s' form) s') else alone (wait at depth begun (put operator form)) s) no;
  }
  item-is place level (test word) rs is h = record { kept = with_head begun.kept (kept_head s word); planned = headed at depth core_forms.If word (pair None form (pair None truth nil)) s is }
  item-is place level (subject word) rs is h = record { kept = with_head begun.kept (kept_head s word); planned = headed at depth core_forms.SyntaxCase word (pair None form (pair None nil nil)) s is }
  item-is place level (value word id v) rs is h = record {
    kept = with_head (with_head begun.kept (kept_head s word)) (kept_head s id);
    planned = headed at depth core_forms.Set word (pair None id (pair None form nil)) s is.0
        ∙ target-taken word id v (record begun { kept = with_head begun.kept (kept_head s word) }) is.1.leaf is.1.stands;
  }
  item-is place level (keywords recursive word) rs is h = elim h [ ]
  item-is place level (body word ids fs v) rs is h = record { kept = with_head begun.kept (kept_head s word); planned = headed at depth core_forms.Lambda word (pair None (chain ids nil) (pair None form nil)) s is.0.0 }
  item-is place level (one_case word) rs is h = record { kept = with_head begun.kept (kept_head s word); planned = headed at depth core_forms.CaseLambda word (pair None (pair None nil (pair None form nil)) nil) s is.0 }
  item-is place level (block false word) rs is h = record { kept = with_head begun.kept (kept_head s word); planned = headed at depth core_forms.Letrec word (pair None nil (pair None form nil)) s is.0 }
  item-is place level (initial false word id l v) rs is h = record {
    kept = with_head begun.kept (kept_head s word);
    planned = headed at depth core_forms.Letrec word (pair None (pair None (pair None id (pair None form nil)) nil) (pair None truth nil)) s is.0;
  }
  item-is place level (initial true word id l v) rs is h = record {
    kept = with_head begun.kept (kept_head s word);
    planned = headed at depth core_forms.LetrecStar word (pair None (pair None (pair None id (pair None form nil)) nil) (pair None truth nil)) s is.0;
  }
  item-is place level (block true word) rs is h = record { kept = with_head begun.kept (kept_head s word); planned = headed at depth core_forms.LetrecStar word (pair None nil (pair None form nil)) s is.0 }

-- the first pass over a body in these frames takes its form so, in a state
abbrev TakesIn : Inside → Span → ℕ → ℕ → FrameNo → FrameNo → State → Tree → Type 0
TakesIn go place level depth f g u form = IsTaken go (lambda_at g place level) depth (in_frames f g form) u

abbrev Taking : Inside → Span → ℕ → ℕ → Round → State → Tree → Type 0
Taking go place level depth (body word ids fs v) s form = AreFormals place level s ids fs v × TakesIn go place level depth (next_frame (counted s)) (next_frame v) (counted v) form
Taking go place level depth (one_case word) s form = TakesIn go place level depth (next_frame (counted s)) (next_frame (counted (counted s))) (counted (counted (counted s))) form
Taking go place level depth (block star word) s form = TakesIn go place level depth (next_frame s) (next_frame (counted s)) (counted (counted s)) form
Taking go place level depth (initial star word id l v) s form = IsBinderForm place level s id l v
Taking go place level depth r s form = Unit {0}

-- a constant is taken by the first pass over a body
abbrev TakesTruth : Inside → Span → ℕ → ℕ → Type 0
TakesTruth go place level depth = (u : State) → IsTaken go (lambda_at (next_frame u) place level) depth truth (counted u)

module _ (place : Span) (level : ℕ) (form : Tree) (s : State) where
  abbrev tried : (go : Inside) (depth : ℕ) → PlainCore → State → Result (PlainCore × State) Fault
  tried go depth c u = after (check_literals place [] u) (λ _ w. after (all_clauses go (site_at place level (deeper depth)) [] [] w) (λ xs. give (matching c (clauses xs) place)))

  faulted : (go : Inside) (depth : ℕ) (t : Tree) (r : Round) (f : Fault) → go.form (site_at place level (deeper depth)) (within r s form) (next r s) ≡ Err f → Taking go place level (deeper depth) r s form → perform go (site_at place level depth) t (plan place r form) (entered r s) ≡ Err f
  unfolding perform in_sequence call_form conditional each gather syntax_case set_form keywords_form bound_keywords fresh_frame
  faulted go depth t (sequence word) f e w = ap (λ x. after (after x (λ c u. Ok (c ∷ [], u))) (λ cs. give (sequence_of cs))) e
  faulted go depth t operator f e w = ap (λ x. after x (λ c u. after (in_order go (site_at place level (deeper depth)) [] u) (λ cs. give (call c (cores cs))))) e
  faulted go depth t (test word) f e w = ap (λ x. after x (λ c u. after (go.form (site_at place level (deeper depth)) truth u) (λ d. alternate go (site_at place level (deeper depth)) c d None))) e
  faulted go depth t (subject word) f e w = ap (λ x. after x (tried go depth)) e
  faulted go depth t (value word id v) f e w = ap (λ x. after x (λ c. give (assignment v.label c))) e
  faulted go depth t (keywords recursive word) f e w = ap (λ x. after (after x (λ c u. Ok (c ∷ [], u))) (λ cs. give (sequence_of cs))) e
  faulted go depth t (body word ids fs v) f e w =
      lambda-faulted go place level (deeper depth) t form s (record { required = ids; rest = None }) fs v w.0.bound f (body-faulted go place level (deeper depth) t (stamp (next_frame (counted s)) form) v f w.1 e)
  faulted go depth t (one_case word) f e w =
      cases-faulted go place level (deeper depth) t form s f (body-faulted go place level (deeper depth) t (stamp (next_frame (counted s)) form) (counted (counted s)) f w e)
  faulted go depth t (block star word) f e w =
      block-faulted go place level (deeper depth) t form s star f (body-faulted go place level (deeper depth) t (stamp (next_frame s) form) (counted s) f w e)
  faulted go depth t (initial star word id l v) f e w = initial-faulted go place level (deeper depth) t form s star id l v w.bound truth f e

  made : (go : Inside) (depth : ℕ) (t : Tree) (r : Round) (c : PlainCore) (u : State) → go.form (site_at place level (deeper depth)) (within r s form) (next r s) ≡ Ok (c, u) → ((u : State) → go.form (site_at place level (deeper depth)) truth u ≡ Ok (quoted (strip truth), u)) → TakesTruth go place level (deeper depth) → Taking go place level (deeper depth) r s form
      → perform go (site_at place level depth) t (plan place r form) (entered r s) ≡ Ok (code place r s c, left r s u)
  unfolding perform in_sequence call_form conditional each gather syntax_case set_form literals_on_stage keywords_form bound_keywords fresh_frame
  made go depth t (sequence word) c u e k m w = ap (λ x. after (after x (λ c u. Ok (c ∷ [], u))) (λ cs. give (sequence_of cs))) e
  made go depth t operator c u e k m w = ap (λ x. after x (λ c u. after (in_order go (site_at place level (deeper depth)) [] u) (λ cs. give (call c (cores cs))))) e
  made go depth t (test word) c u e k m w =
      ap (λ x. after x (λ c u. after (go.form (site_at place level (deeper depth)) truth u) (λ d. alternate go (site_at place level (deeper depth)) c d None))) e
      ∙ ap (λ x. after x (λ d. alternate go (site_at place level (deeper depth)) c d None)) (k u)
  made go depth t (subject word) c u e k m w = ap (λ x. after x (tried go depth)) e
  made go depth t (value word id v) c u e k m w = ap (λ x. after x (λ c. give (assignment v.label c))) e
  made go depth t (keywords recursive word) c u e k m w = ap (λ x. after (after x (λ c u. Ok (c ∷ [], u))) (λ cs. give (sequence_of cs))) e
  made go depth t (body word ids fs v) c u e k m w =
      lambda-made go place level (deeper depth) t form s (record { required = ids; rest = None }) fs v w.0.bound c (cut (length v.scope) u)
      (body-made go place level (deeper depth) t (stamp (next_frame (counted s)) form) v c u w.1 e)
  made go depth t (one_case word) c u e k m w =
      cases-made go place level (deeper depth) t form s c (cut (length s.scope) u) (body-made go place level (deeper depth) t (stamp (next_frame (counted s)) form) (counted (counted s)) c u w e)
  made go depth t (block star word) c u e k m w =
      block-made go place level (deeper depth) t form s star c (cut (length s.scope) u) (body-made go place level (deeper depth) t (stamp (next_frame s) form) (counted s) c u w e)
  made go depth t (initial star word id l v) c u e k m w =
      initial-made go place level (deeper depth) t form s star id l v w.bound truth c (quoted (strip truth)) u (cut (length u.scope) (counted u)) e
      (body-made go place level (deeper depth) t truth u (quoted (strip truth)) (counted u) (m u) (k (counted u)))

  -- where the form in a body is too deep for the first pass
  too-deep-in : (go : Inside) (depth : ℕ) (t word : Tree) (ids : List Tree) (fs : Formals) (v : State) (f : Fault) → AreFormals place level s ids fs v
      → go.item (lambda_at (next_frame v) place level) (deeper depth) begun (in_frames (next_frame (counted s)) (next_frame v) form) (counted v) ≡ Err f
      → perform go (site_at place level depth) t (plan place (body word ids fs v) form) s ≡ Err f
  unfolding perform
  too-deep-in go depth t word ids fs v f are e =
      lambda-faulted go place level (deeper depth) t form s (record { required = ids; rest = None }) fs v are.bound f
      (body-too-deep go place level (deeper depth) t (stamp (next_frame (counted s)) form) v f e)

  too-deep-case : (go : Inside) (depth : ℕ) (t word : Tree) (f : Fault) → go.item (lambda_at (next_frame (counted (counted s))) place level) (deeper depth) begun (in_frames (next_frame (counted s)) (next_frame (counted (counted s))) form) (counted (counted (counted s))) ≡ Err f
      → perform go (site_at place level depth) t (plan place (one_case word) form) s ≡ Err f
  unfolding perform
  too-deep-case go depth t word f e =
      cases-faulted go place level (deeper depth) t form s f (body-too-deep go place level (deeper depth) t (stamp (next_frame (counted s)) form) (counted (counted s)) f e)

  too-deep-block : (go : Inside) (depth : ℕ) (t word : Tree) (star : Bool) (f : Fault) → go.item (lambda_at (next_frame (counted s)) place level) (deeper depth) begun (in_frames (next_frame s) (next_frame (counted s)) form) (counted (counted s)) ≡ Err f
      → perform go (site_at place level depth) t (plan place (block star word) form) s ≡ Err f
  unfolding perform
  too-deep-block go depth t word star f e =
      block-faulted go place level (deeper depth) t form s star f (body-too-deep go place level (deeper depth) t (stamp (next_frame s) form) (counted s) f e)

module _ (records : List CompiledLibrary) (place : Span) (level : ℕ) where
  at-room : (a b depth : ℕ) (u : Tree) (s : State) → a ≡ b → (inside records a).form (site_at place level depth) u s ≡ (inside records b).form (site_at place level depth) u s
  at-room a b depth u s e = ap (λ n. (inside records n).form (site_at place level depth) u s) e

  at-depth : (room depth : ℕ) (u : Tree) (s : State) → depth ≤ most_round → (inside records room).form (site_at place level (deeper depth)) u s ≡ (inside records room).form (site_at place level (suc depth)) u s
  at-depth room depth u s few = ap (λ n. (inside records room).form (site_at place level n) u s) (one-deeper depth few)

  atom-is : (room depth : ℕ) (o : Option Span) (a : Atom) (s : State) → depth ≤ most_round → is_nil_atom a ≡ false → (inside records (suc room)).form (site_at place level depth) (atom o a) s ≡ Ok (quoted (strip (atom o a)), s)
  atom-is room depth o a s few some = form-is records room place level depth (atom o a) s ∙ constant-is (inside records room) place level depth o a s few some

  -- Right in a body, with the stamps of two frames.

  frames-put-in : (f g : FrameNo) (rs : List Round) (t : Tree) → in_frames f g (put_in rs t) ≡ put_in (rounds_in_frames f g rs) (in_frames f g t)
  frames-put-in f g rs t = ap (stamp g) (stamp-put-in f rs t) ∙ stamp-put-in g (map (stamp_round f) rs) (stamp f t)

  frames-leaf : (f g : FrameNo) (t : Tree) → is_leaf (in_frames f g t) ≡ is_leaf t
  frames-leaf f g t = stamp-leaf g (stamp f t) ∙ stamp-leaf f t

  frames-fault : (f g : FrameNo) (t : Tree) → fault_at kind.TooDeep (in_frames f g t) place [] ≡ fault_at kind.TooDeep t place []
  frames-fault f g t = stamp-fault g (stamp f t) place ∙ stamp-fault f t place

  frames-length : (f g : FrameNo) (rs : List Round) → length (rounds_in_frames f g rs) ≡ length rs
  frames-length f g rs = stamp-length g (map (stamp_round f) rs) ∙ stamp-length f rs

  frames-alone : (f g : FrameNo) (rs : List Round) → IsAlone rs → IsAlone (rounds_in_frames f g rs)
  frames-alone f g rs h = stamp-alone g (map (stamp_round f) rs) (stamp-alone f rs h)

  binder-is : (level : ℕ) (s : State) (star : Bool) (word id : Tree) (l : Label) (v : State) (rs : List Round) → IsRound place level s (initial star word id l v) rs → IsBinderForm place level s id l v
  binder-is level s false word id l v rs is = is.1
  binder-is level s true word id l v rs is = is.1

  block-alone : (level : ℕ) (s : State) (star : Bool) (word : Tree) (rs : List Round) → IsRound place level s (block star word) rs → IsAlone rs
  block-alone level s false word rs is = is.1
  block-alone level s true word rs is = is.1

  first-is : (at : BodyAt) (depth : ℕ) (q : Round) (qs : List Round) (x : Tree) (s : State) → is_leaf x ≡ false → AreRound place level s (q ∷ qs) → IsAlone (q ∷ qs) → IsPlanned at depth (put_in (q ∷ qs) x) s
  first-is at depth q qs x s inner (round is more) h = item-is at depth (put_in qs x) s (not-leaf qs x inner) place level q qs is h

  few-deeper : (depth m : ℕ) → depth ≤ most_round → suc depth ≤ m → deeper depth ≤ m
  few-deeper depth m few h = subst (λ k. k ≤ m) (sym (one-deeper depth few)) h

  taken-in : (q : Round) (rs : List Round) (t : Tree) (room depth : ℕ) (f g : FrameNo) (u : State) → suc depth ≤ most_round → is_leaf t ≡ false → IsAlone (q ∷ rs) → AreRound place level u (rounds_in_frames f g (q ∷ rs))
      → TakesIn (inside records (suc room)) place level (deeper depth) f g u (put_in (q ∷ rs) t)
  taken-in q rs t room depth f g u few inner h more =
      subst (λ y. IsTaken (inside records (suc room)) (lambda_at g place level) (deeper depth) y u) (sym (frames-put-in f g (q ∷ rs) t))
      (is-taken records room (lambda_at g place level) (deeper depth) (put_in (rounds_in_frames f g (q ∷ rs)) (in_frames f g t)) u (few-deeper depth most_round (omega (arith, few)) few)
      (first-is (lambda_at g place level) (deeper depth) (stamp_round g (stamp_round f q)) (rounds_in_frames f g rs) (in_frames f g t) u (frames-leaf f g t ∙ inner) more (frames-alone f g (q ∷ rs) h)))

  at-taking : (a b depth : ℕ) (form : Tree) (f g : FrameNo) (u : State) → a ≡ b → TakesIn (inside records a) place level depth f g u form → TakesIn (inside records b) place level depth f g u form
  at-taking a b depth form f g u e h = subst (λ n. TakesIn (inside records n) place level depth f g u form) e h

  -- with so many round it
  abbrev Refuses : ℕ → Type 0
  Refuses n = (t : Tree) (rs : List Round) (room depth : ℕ) (s : State) → is_leaf t ≡ false → length rs ≡ n → AreRound place level s rs → depth + n ≡ most_round + 1
      → (inside records (n + room)).form (site_at place level depth) (put_in rs t) s ≡ Err (fault_at kind.TooDeep t place [])

  refused-within : (n : ℕ) → Refuses n → (r : Round) (t : Tree) (rs : List Round) (room depth : ℕ) (s : State) → is_leaf t ≡ false → length rs ≡ n → AreRound place level (next r s) (rounds_within r s rs) → depth + n ≡ most_round + 1
      → (inside records (n + room)).form (site_at place level depth) (within r s (put_in rs t)) (next r s) ≡ Err (fault_at kind.TooDeep t place [])
  refused-within n all (sequence word) t rs room depth s inner e is h = all t rs room depth s inner e is h
  refused-within n all operator t rs room depth s inner e is h = all t rs room depth s inner e is h
  refused-within n all (test word) t rs room depth s inner e is h = all t rs room depth s inner e is h
  refused-within n all (subject word) t rs room depth s inner e is h = all t rs room depth s inner e is h
  refused-within n all (value word id v) t rs room depth s inner e is h = all t rs room depth (next (value word id v) s) inner e is h
  refused-within n all (keywords recursive word) t rs room depth s inner e is h =
      ap (λ x. (inside records (n + room)).form (site_at place level depth) x (counted s)) (stamp-put-in (next_frame s) rs t)
      ∙ all (stamp (next_frame s) t) (map (stamp_round (next_frame s)) rs) room depth (counted s) (stamp-leaf (next_frame s) t ∙ inner) (stamp-length (next_frame s) rs ∙ e) is h
      ∙ ap (λ (f : Fault). Err f) (stamp-fault (next_frame s) t place)
  refused-within n all (body word ids fs v) t rs room depth s inner e is h =
      ap (λ x. (inside records (n + room)).form (site_at place level depth) x (counted v)) (frames-put-in (next_frame (counted s)) (next_frame v) rs t)
      ∙ all (in_frames (next_frame (counted s)) (next_frame v) t) (rounds_in_frames (next_frame (counted s)) (next_frame v) rs) room depth (counted v) (frames-leaf (next_frame (counted s)) (next_frame v) t ∙ inner) (frames-length (next_frame (counted s)) (next_frame v) rs ∙ e) is h
      ∙ ap (λ (f : Fault). Err f) (frames-fault (next_frame (counted s)) (next_frame v) t)
  refused-within n all (one_case word) t rs room depth s inner e is h =
      ap (λ x. (inside records (n + room)).form (site_at place level depth) x (counted (counted (counted s)))) (frames-put-in (next_frame (counted s)) (next_frame (counted (counted s))) rs t)
      ∙ all (in_frames (next_frame (counted s)) (next_frame (counted (counted s))) t) (rounds_in_frames (next_frame (counted s)) (next_frame (counted (counted s))) rs) room depth (counted (counted (counted s))) (frames-leaf (next_frame (counted s)) (next_frame (counted (counted s))) t ∙ inner) (frames-length (next_frame (counted s)) (next_frame (counted (counted s))) rs ∙ e) is h
      ∙ ap (λ (f : Fault). Err f) (frames-fault (next_frame (counted s)) (next_frame (counted (counted s))) t)
  refused-within n all (block star word) t rs room depth s inner e is h =
      ap (λ x. (inside records (n + room)).form (site_at place level depth) x (counted (counted s))) (frames-put-in (next_frame s) (next_frame (counted s)) rs t)
      ∙ all (in_frames (next_frame s) (next_frame (counted s)) t) (rounds_in_frames (next_frame s) (next_frame (counted s)) rs) room depth (counted (counted s)) (frames-leaf (next_frame s) (next_frame (counted s)) t ∙ inner) (frames-length (next_frame s) (next_frame (counted s)) rs ∙ e) is h
      ∙ ap (λ (f : Fault). Err f) (frames-fault (next_frame s) (next_frame (counted s)) t)
  refused-within n all (initial star word id l v) t rs room depth s inner e is h =
      ap (λ x. (inside records (n + room)).form (site_at place level depth) x v) (stamp-put-in (next_frame s) rs t)
      ∙ all (stamp (next_frame s) t) (map (stamp_round (next_frame s)) rs) room depth v (stamp-leaf (next_frame s) t ∙ inner) (stamp-length (next_frame s) rs ∙ e) is h
      ∙ ap (λ (f : Fault). Err f) (stamp-fault (next_frame s) t place)

  -- one more of them
  refused-in : (n : ℕ) → Refuses n → (r : Round) (t : Tree) (rs : List Round) (room depth : ℕ) (s : State) → is_leaf t ≡ false → length rs ≡ n → IsRound place level s r rs → AreRound place level (next r s) (rounds_within r s rs) → depth + suc n ≡ most_round + 1
      → perform (inside records (n + room)) (site_at place level depth) (put r (put_in rs t)) (plan place r (put_in rs t)) (entered r s) ≡ Err (fault_at kind.TooDeep t place [])
  refused-in n all (sequence word) t rs room depth s inner e is more h =
      faulted place level (put_in rs t) s (inside records (n + room)) depth (put (sequence word) (put_in rs t)) (sequence word) (fault_at kind.TooDeep t place []) (at-depth (n + room) depth (within (sequence word) s (put_in rs t)) (next (sequence word) s) (omega (arith, h)) ∙ refused-within n all (sequence word) t rs room (suc depth) s inner e more (omega (arith, h))) tt
  refused-in n all operator t rs room depth s inner e is more h =
      faulted place level (put_in rs t) s (inside records (n + room)) depth (put operator (put_in rs t)) operator (fault_at kind.TooDeep t place []) (at-depth (n + room) depth (within operator s (put_in rs t)) (next operator s) (omega (arith, h)) ∙ refused-within n all operator t rs room (suc depth) s inner e more (omega (arith, h))) tt
  refused-in n all (test word) t rs room depth s inner e is more h =
      faulted place level (put_in rs t) s (inside records (n + room)) depth (put (test word) (put_in rs t)) (test word) (fault_at kind.TooDeep t place []) (at-depth (n + room) depth (within (test word) s (put_in rs t)) (next (test word) s) (omega (arith, h)) ∙ refused-within n all (test word) t rs room (suc depth) s inner e more (omega (arith, h))) tt
  refused-in n all (subject word) t rs room depth s inner e is more h =
      faulted place level (put_in rs t) s (inside records (n + room)) depth (put (subject word) (put_in rs t)) (subject word) (fault_at kind.TooDeep t place []) (at-depth (n + room) depth (within (subject word) s (put_in rs t)) (next (subject word) s) (omega (arith, h)) ∙ refused-within n all (subject word) t rs room (suc depth) s inner e more (omega (arith, h))) tt
  refused-in n all (value word id v) t rs room depth s inner e is more h =
      faulted place level (put_in rs t) s (inside records (n + room)) depth (put (value word id v) (put_in rs t)) (value word id v) (fault_at kind.TooDeep t place []) (at-depth (n + room) depth (within (value word id v) s (put_in rs t)) (next (value word id v) s) (omega (arith, h)) ∙ refused-within n all (value word id v) t rs room (suc depth) s inner e more (omega (arith, h))) tt
  refused-in n all (keywords recursive word) t rs room depth s inner e is more h =
      faulted place level (put_in rs t) s (inside records (n + room)) depth (put (keywords recursive word) (put_in rs t)) (keywords recursive word) (fault_at kind.TooDeep t place []) (at-depth (n + room) depth (within (keywords recursive word) s (put_in rs t)) (next (keywords recursive word) s) (omega (arith, h)) ∙ refused-within n all (keywords recursive word) t rs room (suc depth) s inner e more (omega (arith, h))) tt
  refused-in zero all (body word ids fs v) t [] room depth s inner e is more h =
      too-deep-in place level t s (inside records (zero + room)) depth (put (body word ids fs v) t) word ids fs v (fault_at kind.TooDeep t place []) is.0.1
      (shallow-inside records (zero + room) (lambda_at (next_frame v) place level) (deeper depth) begun (in_frames (next_frame (counted s)) (next_frame v) t) (counted v)
      (over (deeper depth) (subst (λ k. most_round < k) (sym (one-deeper depth (omega (arith, h)))) (omega (arith, h))))
      ∙ ap (λ (f : Fault). Err f) (frames-fault (next_frame (counted s)) (next_frame v) t))
  refused-in zero all (body word ids fs v) t (q ∷ rs) room depth s inner e is more h = let n : ⊥ = omega (arith, e) in elim n [ ]
  refused-in (suc n) all (body word ids fs v) t [] room depth s inner e is more h = let n : ⊥ = omega (arith, e) in elim n [ ]
  refused-in (suc n) all (body word ids fs v) t (q ∷ rs) room depth s inner e is more h =
      faulted place level (put_in (q ∷ rs) t) s (inside records (suc n + room)) depth (put (body word ids fs v) (put_in (q ∷ rs) t)) (body word ids fs v) (fault_at kind.TooDeep t place [])
      (at-depth (suc n + room) depth (within (body word ids fs v) s (put_in (q ∷ rs) t)) (next (body word ids fs v) s) (omega (arith, h)) ∙ refused-within (suc n) all (body word ids fs v) t (q ∷ rs) room (suc depth) s inner e more (omega (arith, h)))
      (is.0.1, (at-taking (suc (n + room)) (suc n + room) (deeper depth) (put_in (q ∷ rs) t) (next_frame (counted s)) (next_frame v) (counted v) (omega arith) (taken-in q rs t (n + room) depth (next_frame (counted s)) (next_frame v) (counted v) (omega (arith, h)) inner is.1 more)))
  refused-in zero all (one_case word) t [] room depth s inner e is more h =
      too-deep-case place level t s (inside records (zero + room)) depth (put (one_case word) t) word (fault_at kind.TooDeep t place [])
      (shallow-inside records (zero + room) (lambda_at (next_frame (counted (counted s))) place level) (deeper depth) begun (in_frames (next_frame (counted s)) (next_frame (counted (counted s))) t) (counted (counted (counted s)))
      (over (deeper depth) (subst (λ k. most_round < k) (sym (one-deeper depth (omega (arith, h)))) (omega (arith, h))))
      ∙ ap (λ (f : Fault). Err f) (frames-fault (next_frame (counted s)) (next_frame (counted (counted s))) t))
  refused-in zero all (one_case word) t (q ∷ rs) room depth s inner e is more h = let n : ⊥ = omega (arith, e) in elim n [ ]
  refused-in (suc n) all (one_case word) t [] room depth s inner e is more h = let n : ⊥ = omega (arith, e) in elim n [ ]
  refused-in (suc n) all (one_case word) t (q ∷ rs) room depth s inner e is more h =
      faulted place level (put_in (q ∷ rs) t) s (inside records (suc n + room)) depth (put (one_case word) (put_in (q ∷ rs) t)) (one_case word) (fault_at kind.TooDeep t place [])
      (at-depth (suc n + room) depth (within (one_case word) s (put_in (q ∷ rs) t)) (next (one_case word) s) (omega (arith, h)) ∙ refused-within (suc n) all (one_case word) t (q ∷ rs) room (suc depth) s inner e more (omega (arith, h)))
      (at-taking (suc (n + room)) (suc n + room) (deeper depth) (put_in (q ∷ rs) t) (next_frame (counted s)) (next_frame (counted (counted s))) (counted (counted (counted s))) (omega arith) (taken-in q rs t (n + room) depth (next_frame (counted s)) (next_frame (counted (counted s))) (counted (counted (counted s))) (omega (arith, h)) inner is.1 more))
  refused-in zero all (block star word) t [] room depth s inner e is more h =
      too-deep-block place level t s (inside records (zero + room)) depth (put (block star word) t) word star (fault_at kind.TooDeep t place [])
      (shallow-inside records (zero + room) (lambda_at (next_frame (counted s)) place level) (deeper depth) begun (in_frames (next_frame s) (next_frame (counted s)) t) (counted (counted s))
      (over (deeper depth) (subst (λ k. most_round < k) (sym (one-deeper depth (omega (arith, h)))) (omega (arith, h))))
      ∙ ap (λ (f : Fault). Err f) (frames-fault (next_frame s) (next_frame (counted s)) t))
  refused-in zero all (block star word) t (q ∷ rs) room depth s inner e is more h = let n : ⊥ = omega (arith, e) in elim n [ ]
  refused-in (suc n) all (block star word) t [] room depth s inner e is more h = let n : ⊥ = omega (arith, e) in elim n [ ]
  refused-in (suc n) all (block star word) t (q ∷ rs) room depth s inner e is more h =
      faulted place level (put_in (q ∷ rs) t) s (inside records (suc n + room)) depth (put (block star word) (put_in (q ∷ rs) t)) (block star word) (fault_at kind.TooDeep t place [])
      (at-depth (suc n + room) depth (within (block star word) s (put_in (q ∷ rs) t)) (next (block star word) s) (omega (arith, h)) ∙ refused-within (suc n) all (block star word) t (q ∷ rs) room (suc depth) s inner e more (omega (arith, h)))
      (at-taking (suc (n + room)) (suc n + room) (deeper depth) (put_in (q ∷ rs) t) (next_frame s) (next_frame (counted s)) (counted (counted s)) (omega arith) (taken-in q rs t (n + room) depth (next_frame s) (next_frame (counted s)) (counted (counted s)) (omega (arith, h)) inner (block-alone level s star word (q ∷ rs) is) more))
  refused-in n all (initial star word id l v) t rs room depth s inner e is more h =
      faulted place level (put_in rs t) s (inside records (n + room)) depth (put (initial star word id l v) (put_in rs t)) (initial star word id l v) (fault_at kind.TooDeep t place [])
      (at-depth (n + room) depth (within (initial star word id l v) s (put_in rs t)) v (omega (arith, h)) ∙ refused-within n all (initial star word id l v) t rs room (suc depth) s inner e more (omega (arith, h)))
      (binder-is level s star word id l v rs is)

  refuses : (n : ℕ) → Refuses n
  refuses zero t [] room depth s inner e is h = too-deep-form records (zero + room) place level depth t s (over depth (omega (arith, h)))
  refuses zero t (r ∷ rs) room depth s inner e is h = let n : ⊥ = omega (arith, e) in elim n [ ]
  refuses (suc n) t [] room depth s inner e is h = let n : ⊥ = omega (arith, e) in elim n [ ]
  refuses (suc n) t (r ∷ rs) room depth s inner e (round is more) h =
      at-room (suc n + room) (suc (n + room)) depth (put_in (r ∷ rs) t) s (omega arith)
      ∙ in-round place level (put_in rs t) s (not-leaf rs t inner) records (n + room) depth r rs is (omega (arith, h))
      ∙ refused-in n (refuses n) r t rs room depth s inner (omega (arith, e)) is more h

  module _ (o : Option Span) (a : Atom) (some : is_nil_atom a ≡ false) where
    abbrev constant : PlainCore
    constant = quoted (strip (atom o a))

    abbrev Takes : ℕ → Type 0
    Takes n = (rs : List Round) (room depth : ℕ) (s : State) → length rs ≡ n → AreRound place level s rs → depth + n ≤ most_round
        → (inside records (n + suc room)).form (site_at place level depth) (put_in rs (atom o a)) s ≡ Ok (code_in place rs s constant, all_left rs s)

    frames-code : (f g : FrameNo) (rs : List Round) (u : State) → code_in place (rounds_in_frames f g rs) u constant ≡ code_in place rs u constant
    frames-code f g rs u = stamp-code-in g place (map (stamp_round f) rs) u constant ∙ stamp-code-in f place rs u constant

    frames-left : (f g : FrameNo) (rs : List Round) (u : State) → all_left (rounds_in_frames f g rs) u ≡ all_left rs u
    frames-left f g rs u = stamp-all-left g (map (stamp_round f) rs) u ∙ stamp-all-left f rs u

    taken-within : (n : ℕ) → Takes n → (r : Round) (rs : List Round) (room depth : ℕ) (s : State) → length rs ≡ n → AreRound place level (next r s) (rounds_within r s rs) → depth + n ≤ most_round
        → (inside records (n + suc room)).form (site_at place level depth) (within r s (put_in rs (atom o a))) (next r s) ≡ Ok (code_in place rs (next r s) constant, all_left rs (next r s))
    taken-within n all (sequence word) rs room depth s e is h = all rs room depth s e is h
    taken-within n all operator rs room depth s e is h = all rs room depth s e is h
    taken-within n all (test word) rs room depth s e is h = all rs room depth s e is h
    taken-within n all (subject word) rs room depth s e is h = all rs room depth s e is h
    taken-within n all (value word id v) rs room depth s e is h = all rs room depth (next (value word id v) s) e is h
    taken-within n all (keywords recursive word) rs room depth s e is h =
        ap (λ x. (inside records (n + suc room)).form (site_at place level depth) x (counted s)) (stamp-put-in (next_frame s) rs (atom o a))
        ∙ all (map (stamp_round (next_frame s)) rs) room depth (counted s) (stamp-length (next_frame s) rs ∙ e) is h
        ∙ (λ i. Ok (stamp-code-in (next_frame s) place rs (counted s) constant i, stamp-all-left (next_frame s) rs (counted s) i))
    taken-within n all (body word ids fs v) rs room depth s e is h =
        ap (λ x. (inside records (n + suc room)).form (site_at place level depth) x (counted v)) (frames-put-in (next_frame (counted s)) (next_frame v) rs (atom o a))
        ∙ all (rounds_in_frames (next_frame (counted s)) (next_frame v) rs) room depth (counted v) (frames-length (next_frame (counted s)) (next_frame v) rs ∙ e) is h
        ∙ (λ i. Ok (frames-code (next_frame (counted s)) (next_frame v) rs (counted v) i, frames-left (next_frame (counted s)) (next_frame v) rs (counted v) i))
    taken-within n all (one_case word) rs room depth s e is h =
        ap (λ x. (inside records (n + suc room)).form (site_at place level depth) x (counted (counted (counted s)))) (frames-put-in (next_frame (counted s)) (next_frame (counted (counted s))) rs (atom o a))
        ∙ all (rounds_in_frames (next_frame (counted s)) (next_frame (counted (counted s))) rs) room depth (counted (counted (counted s))) (frames-length (next_frame (counted s)) (next_frame (counted (counted s))) rs ∙ e) is h
        ∙ (λ i. Ok (frames-code (next_frame (counted s)) (next_frame (counted (counted s))) rs (counted (counted (counted s))) i, frames-left (next_frame (counted s)) (next_frame (counted (counted s))) rs (counted (counted (counted s))) i))
    taken-within n all (block star word) rs room depth s e is h =
        ap (λ x. (inside records (n + suc room)).form (site_at place level depth) x (counted (counted s))) (frames-put-in (next_frame s) (next_frame (counted s)) rs (atom o a))
        ∙ all (rounds_in_frames (next_frame s) (next_frame (counted s)) rs) room depth (counted (counted s)) (frames-length (next_frame s) (next_frame (counted s)) rs ∙ e) is h
        ∙ (λ i. Ok (frames-code (next_frame s) (next_frame (counted s)) rs (counted (counted s)) i, frames-left (next_frame s) (next_frame (counted s)) rs (counted (counted s)) i))
    taken-within n all (initial star word id l v) rs room depth s e is h =
        ap (λ x. (inside records (n + suc room)).form (site_at place level depth) x v) (stamp-put-in (next_frame s) rs (atom o a))
        ∙ all (map (stamp_round (next_frame s)) rs) room depth v (stamp-length (next_frame s) rs ∙ e) is h
        ∙ (λ i. Ok (stamp-code-in (next_frame s) place rs v constant i, stamp-all-left (next_frame s) rs v i))

    waits-in : (rs : List Round) (room depth : ℕ) (f g : FrameNo) (u : State) → suc depth ≤ most_round → IsAlone rs → AreRound place level u (rounds_in_frames f g rs)
        → TakesIn (inside records (suc room)) place level (deeper depth) f g u (put_in rs (atom o a))
    waits-in [] room depth f g u few h more =
        is-taken records room (lambda_at g place level) (deeper depth) (atom o a) u (few-deeper depth most_round (omega (arith, few)) few) (record { kept = begun.kept; planned = refl })
    waits-in (q ∷ rs) room depth f g u few h more = taken-in q rs (atom o a) room depth f g u few refl h more

    at-room-taken : (a b depth : ℕ) (u : State) → a ≡ b → IsTaken (inside records a) (lambda_at (next_frame u) place level) depth truth (counted u) → IsTaken (inside records b) (lambda_at (next_frame u) place level) depth truth (counted u)
    at-room-taken a b depth u e h = subst (λ n. IsTaken (inside records n) (lambda_at (next_frame u) place level) depth truth (counted u)) e h

    truth-is : (n room depth : ℕ) (u : State) → suc depth ≤ most_round → (inside records (n + suc room)).form (site_at place level (deeper depth)) truth u ≡ Ok (quoted (strip truth), u)
    truth-is n room depth u few =
        at-depth (n + suc room) depth truth u (omega (arith, few)) ∙ at-room (n + suc room) (suc (n + room)) (suc depth) truth u (omega arith) ∙ atom-is (n + room) (suc depth) None (atoms.Bool true) u few refl

    takes-truth : (n room depth : ℕ) → suc depth ≤ most_round → TakesTruth (inside records (n + suc room)) place level (deeper depth)
    takes-truth n room depth few u =
        at-room-taken (suc (n + room)) (n + suc room) (deeper depth) u (omega arith)
        (is-taken records (n + room) (lambda_at (next_frame u) place level) (deeper depth) truth (counted u) (few-deeper depth most_round (omega (arith, few)) few) (record { kept = begun.kept; planned = refl }))

    made-in : (n : ℕ) → Takes n → (r : Round) (rs : List Round) (room depth : ℕ) (s : State) → length rs ≡ n → IsRound place level s r rs → AreRound place level (next r s) (rounds_within r s rs) → depth + suc n ≤ most_round
        → perform (inside records (n + suc room)) (site_at place level depth) (put r (put_in rs (atom o a))) (plan place r (put_in rs (atom o a))) (entered r s) ≡ Ok (code_in place (r ∷ rs) s constant, all_left (r ∷ rs) s)
    made-in n all (sequence word) rs room depth s e is more h =
        made place level (put_in rs (atom o a)) s (inside records (n + suc room)) depth (put (sequence word) (put_in rs (atom o a))) (sequence word) (code_in place rs (next (sequence word) s) constant) (all_left rs (next (sequence word) s))
        (at-depth (n + suc room) depth (within (sequence word) s (put_in rs (atom o a))) (next (sequence word) s) (omega (arith, h)) ∙ taken-within n all (sequence word) rs room (suc depth) s e more (omega (arith, h)))
        (λ u. truth-is n room depth u (omega (arith, h))) (takes-truth n room depth (omega (arith, h))) tt
    made-in n all operator rs room depth s e is more h =
        made place level (put_in rs (atom o a)) s (inside records (n + suc room)) depth (put operator (put_in rs (atom o a))) operator (code_in place rs (next operator s) constant) (all_left rs (next operator s))
        (at-depth (n + suc room) depth (within operator s (put_in rs (atom o a))) (next operator s) (omega (arith, h)) ∙ taken-within n all operator rs room (suc depth) s e more (omega (arith, h)))
        (λ u. truth-is n room depth u (omega (arith, h))) (takes-truth n room depth (omega (arith, h))) tt
    made-in n all (test word) rs room depth s e is more h =
        made place level (put_in rs (atom o a)) s (inside records (n + suc room)) depth (put (test word) (put_in rs (atom o a))) (test word) (code_in place rs (next (test word) s) constant) (all_left rs (next (test word) s))
        (at-depth (n + suc room) depth (within (test word) s (put_in rs (atom o a))) (next (test word) s) (omega (arith, h)) ∙ taken-within n all (test word) rs room (suc depth) s e more (omega (arith, h)))
        (λ u. truth-is n room depth u (omega (arith, h))) (takes-truth n room depth (omega (arith, h))) tt
    made-in n all (subject word) rs room depth s e is more h =
        made place level (put_in rs (atom o a)) s (inside records (n + suc room)) depth (put (subject word) (put_in rs (atom o a))) (subject word) (code_in place rs (next (subject word) s) constant) (all_left rs (next (subject word) s))
        (at-depth (n + suc room) depth (within (subject word) s (put_in rs (atom o a))) (next (subject word) s) (omega (arith, h)) ∙ taken-within n all (subject word) rs room (suc depth) s e more (omega (arith, h)))
        (λ u. truth-is n room depth u (omega (arith, h))) (takes-truth n room depth (omega (arith, h))) tt
    made-in n all (value word id v) rs room depth s e is more h =
        made place level (put_in rs (atom o a)) s (inside records (n + suc room)) depth (put (value word id v) (put_in rs (atom o a))) (value word id v) (code_in place rs (next (value word id v) s) constant) (all_left rs (next (value word id v) s))
        (at-depth (n + suc room) depth (within (value word id v) s (put_in rs (atom o a))) (next (value word id v) s) (omega (arith, h)) ∙ taken-within n all (value word id v) rs room (suc depth) s e more (omega (arith, h)))
        (λ u. truth-is n room depth u (omega (arith, h))) (takes-truth n room depth (omega (arith, h))) tt
    made-in n all (keywords recursive word) rs room depth s e is more h =
        made place level (put_in rs (atom o a)) s (inside records (n + suc room)) depth (put (keywords recursive word) (put_in rs (atom o a))) (keywords recursive word) (code_in place rs (next (keywords recursive word) s) constant) (all_left rs (next (keywords recursive word) s))
        (at-depth (n + suc room) depth (within (keywords recursive word) s (put_in rs (atom o a))) (next (keywords recursive word) s) (omega (arith, h)) ∙ taken-within n all (keywords recursive word) rs room (suc depth) s e more (omega (arith, h)))
        (λ u. truth-is n room depth u (omega (arith, h))) (takes-truth n room depth (omega (arith, h))) tt
    made-in n all (body word ids fs v) rs room depth s e is more h =
        made place level (put_in rs (atom o a)) s (inside records (n + suc room)) depth (put (body word ids fs v) (put_in rs (atom o a))) (body word ids fs v) (code_in place rs (next (body word ids fs v) s) constant) (all_left rs (next (body word ids fs v) s))
        (at-depth (n + suc room) depth (within (body word ids fs v) s (put_in rs (atom o a))) (next (body word ids fs v) s) (omega (arith, h)) ∙ taken-within n all (body word ids fs v) rs room (suc depth) s e more (omega (arith, h)))
        (λ u. truth-is n room depth u (omega (arith, h))) (takes-truth n room depth (omega (arith, h)))
        (is.0.1, (at-taking (suc (n + room)) (n + suc room) (deeper depth) (put_in rs (atom o a)) (next_frame (counted s)) (next_frame v) (counted v) (omega arith) (waits-in rs (n + room) depth (next_frame (counted s)) (next_frame v) (counted v) (omega (arith, h)) is.1 more)))
    made-in n all (one_case word) rs room depth s e is more h =
        made place level (put_in rs (atom o a)) s (inside records (n + suc room)) depth (put (one_case word) (put_in rs (atom o a))) (one_case word) (code_in place rs (next (one_case word) s) constant) (all_left rs (next (one_case word) s))
        (at-depth (n + suc room) depth (within (one_case word) s (put_in rs (atom o a))) (next (one_case word) s) (omega (arith, h)) ∙ taken-within n all (one_case word) rs room (suc depth) s e more (omega (arith, h)))
        (λ u. truth-is n room depth u (omega (arith, h))) (takes-truth n room depth (omega (arith, h)))
        (at-taking (suc (n + room)) (n + suc room) (deeper depth) (put_in rs (atom o a)) (next_frame (counted s)) (next_frame (counted (counted s))) (counted (counted (counted s))) (omega arith) (waits-in rs (n + room) depth (next_frame (counted s)) (next_frame (counted (counted s))) (counted (counted (counted s))) (omega (arith, h)) is.1 more))
    made-in n all (block star word) rs room depth s e is more h =
        made place level (put_in rs (atom o a)) s (inside records (n + suc room)) depth (put (block star word) (put_in rs (atom o a))) (block star word) (code_in place rs (next (block star word) s) constant) (all_left rs (next (block star word) s))
        (at-depth (n + suc room) depth (within (block star word) s (put_in rs (atom o a))) (next (block star word) s) (omega (arith, h)) ∙ taken-within n all (block star word) rs room (suc depth) s e more (omega (arith, h)))
        (λ u. truth-is n room depth u (omega (arith, h))) (takes-truth n room depth (omega (arith, h)))
        (at-taking (suc (n + room)) (n + suc room) (deeper depth) (put_in rs (atom o a)) (next_frame s) (next_frame (counted s)) (counted (counted s)) (omega arith) (waits-in rs (n + room) depth (next_frame s) (next_frame (counted s)) (counted (counted s)) (omega (arith, h)) (block-alone level s star word rs is) more))
    made-in n all (initial star word id l v) rs room depth s e is more h =
        made place level (put_in rs (atom o a)) s (inside records (n + suc room)) depth (put (initial star word id l v) (put_in rs (atom o a))) (initial star word id l v) (code_in place rs v constant) (all_left rs v)
        (at-depth (n + suc room) depth (within (initial star word id l v) s (put_in rs (atom o a))) v (omega (arith, h)) ∙ taken-within n all (initial star word id l v) rs room (suc depth) s e more (omega (arith, h)))
        (λ u. truth-is n room depth u (omega (arith, h))) (takes-truth n room depth (omega (arith, h))) (binder-is level s star word id l v rs is)

    takes : (n : ℕ) → Takes n
    takes zero [] room depth s e is h = at-room (zero + suc room) (suc room) depth (atom o a) s (omega arith) ∙ atom-is room depth o a s (omega (arith, h)) some
    takes zero (r ∷ rs) room depth s e is h = let n : ⊥ = omega (arith, e) in elim n [ ]
    takes (suc n) [] room depth s e is h = let n : ⊥ = omega (arith, e) in elim n [ ]
    takes (suc n) (r ∷ rs) room depth s e (round is more) h =
        at-room (suc n + suc room) (suc (n + suc room)) depth (put_in (r ∷ rs) (atom o a)) s (omega arith)
        ∙ in-round place level (put_in rs (atom o a)) s (not-leaf rs (atom o a) refl) records (n + suc room) depth r rs is (omega (arith, h))
        ∙ made-in n (takes n) r rs room depth s (omega (arith, e)) is more h

pub forms-count-once : FormsCountOnce
forms-count-once = record {
  taken = λ records place level rs o a s is few some.
      forms-need-no-more records full_room (length rs + suc (most_round + 1)) place level 0 (put_in rs (atom o a)) s (omega arith) (omega arith) ∙ takes records place level o a some (length rs) rs (most_round + 1) 0 s refl is (omega (arith, few));
  refused = λ records place level rs t s is all inner.
      forms-need-no-more records full_room (length rs + full_room) place level 0 (put_in rs t) s (omega arith) (omega arith) ∙ refuses records place level (length rs) t rs full_room 0 s inner refl is (omega (arith, all));
}
