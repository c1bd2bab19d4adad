-- A use of a keyword is replaced by the form that its transformer gives, and one of a record form by what it stands for.
use Rattle.std.proofs.Common.{◌≡◌, ◌≤◌, ℕ, ◌+◌, suc, Bool, true, false, List, Option, None, Some, Result, Ok, Err, refl, sym, ◌∙◌, ap, subst, arith, if◌then◌else◌}
use Rattle.std.specs.Prelude.{nat_lt}
use Rattle.std.proofs.lemmas.Bool.Decides.{nat_tests}
use Rattle.base_data.specs.Act.{after, give}
use Rattle.base_data.specs.declared.fault.Fault.{Fault}
use Rattle.base_data.specs.declared.fault.FaultKind.TheVariants as kind
use Rattle.base_data.specs.declared.name.FrameNo.{FrameNo}
use Rattle.base_data.specs.declared.name.Label.{Label}
use Rattle.base_data.specs.declared.name.Mark.{Mark}
use Rattle.base_data.specs.declared.span.Span.{Span}
use Rattle.stx_tree.specs.Changes.{enter, leave}
use Rattle.stx_tree.specs.Tree.{Tree, atom, leaf, pair, vector}
use Rattle.core_language.specs.Bindings.{bound_to}
use Rattle.core_language.specs.declared.core_form.CoreForm.{CoreForm}
use Rattle.core_language.specs.declared.record.CompiledLibrary.{CompiledLibrary}
use Rattle.core_shapes.specs.At.{place_of}
use Rattle.eval_stage.specs.Stage.{PlainStage}
use Rattle.eval_stage.specs.Uses.{used}
use Rattle.core_records.specs.Forms.{record_forms}
use Rattle.core_records.specs.Names.{record_uid}
use Rattle.expand_standing.specs.RecordUses.{at_state, defines_type, count_record_type, record_tree, record_marked, use_record}
use Rattle.expand_standing.specs.Standing.{standing_of, role_of}
use Rattle.expand_standing.specs.State.{State, stage_of, staged, fresh, fault_form}
use Rattle.expand_standing.specs.Uses.{use_keyword, macro_expression}
use Rattle.expand_standing.specs.declared.standing.Role.{Role}
use Rattle.expand_standing.specs.declared.standing.Role.TheVariants as role
use Rattle.expand_heads.specs.declared.item.HeadItem.TheVariants as head_items
use Rattle.expand_heads.specs.declared.plan.HeadPlan.TheVariants as head_plans
use Rattle.expand_heads.specs.Depth.{most_round}
use Rattle.expand_heads.specs.Plan.{refer, reference, application, by_role, keyword_plan, by_head, list_plan, plan_of}
use Rattle.expand_heads.specs.Items.{keep, wait, alone, leaf_by, leaf_item, item_by, core_item, headed_item, list_item, item_plan}
use Rattle.expand_heads.specs.declared.plan.KeywordUse.{KeywordUse}
use Rattle.expand_heads.specs.declared.plan.KeywordUse.TheVariants as keyword_use
use Rattle.expand_heads.specs.declared.taken.BodyAt.{BodyAt}
use Rattle.expand_heads.specs.declared.taken.Taken.{Taken}
use Rattle.expand_forms.specs.Body.{item}
use Rattle.expand_forms.specs.Body as body
use Rattle.expand_forms.specs.Expression.{perform_settled, form_at, inside}
use Rattle.expand_forms.specs.Inside.{Inside}
use Rattle.expand_forms.specs.ExpandUses.{used_form, next_form, step_of, step, planned_by, expand_uses_to, expand_uses, at_use, item_step_of, item_step, expand_item_uses_to, expand_item_uses}
use Rattle.expand_forms.specs.ExpandUses as settling
use Rattle.expand_forms.proofs.Steps.{earlier_inside}
use Rattle.expand_forms.specs.Site.{site_at}
use Rattle.law_expand.proofs.Acts.{Gave, gave-after}
use Rattle.law_expand.specs.Uses.{IsUseOf, UsesAreReplaced, with_head_of, BodyUsesAreReplaced, IsFormOf, RecordFormsAreReplaced, IsOfRecords, BodyRecordFormsAreReplaced}

-- the plan of a use
use-planned : (place : Span) (level : ℕ) (t : Tree) (l : Label) (s : State) → IsUseOf s l t → plan_of place level t s ≡ Ok (head_plans.Use (keyword_use.Macro l), s)
unfolding reference list_plan
use-planned place level (atom r a) l s h = elim h [ ]
use-planned place level (leaf r x c) l s h = ap (λ st. refer place level (leaf r x c) st s) h
use-planned place level (pair r a d) l s h =
    ap (λ b. if b then by_head place level (pair r a d) a d (standing_of s a) s else application place (pair r a d) a d s) h.0 ∙ ap (λ st. by_head place level (pair r a d) a d st s) h.1
use-planned place level (vector r d) l s h = elim h [ ]

-- the plan of a record form that is an expression
record-planned : (place : Span) (level : ℕ) (t : Tree) (f : CoreForm) (s : State) → IsFormOf s f t → role_of f ≡ role.RecordValue → plan_of place level t s ≡ Ok (head_plans.Use (keyword_use.Record f), s)
unfolding list_plan keyword_plan
record-planned place level (atom r a) f s h is = elim h [ ]
record-planned place level (leaf r x c) f s h is = elim h [ ]
record-planned place level (pair r a d) f s h is =
    ap (λ b. if b then by_head place level (pair r a d) a d (standing_of s a) s else application place (pair r a d) a d s) h.0 ∙ ap (λ st. by_head place level (pair r a d) a d st s) h.1
    ∙ ap (λ q. by_role place level (pair r a d) a f q s) is
record-planned place level (vector r d) f s h is = elim h [ ]

-- What a use gives leaves as many uses as it was given.

abbrev Leaves : ℕ → Tree → State → Type 0
Leaves left t u = u.uses_left ≡ left

stage-leaves : (s : State) (r : Result (Tree × PlainStage) Fault) → Gave (Leaves s.uses_left) (staged s r)
stage-leaves s (Ok p) = refl
stage-leaves s (Err e) = tt

tree-leaves : (place : Span) (t : Tree) (f : CoreForm) (count : ℕ) (s : State) → Gave (Leaves s.uses_left) (record_tree place t f count s)
unfolding record_tree
tree-leaves place t f count s = by (record_forms s.frames t f place (record_uid s.library t count))
  where
    by : (r : Result Tree Fault) → Gave (Leaves s.uses_left) (at_state s r)
    by (Ok u) = refl
    by (Err e) = tt

marked-leaves : (place : Span) (t : Tree) (f : CoreForm) (frame : Option FrameNo) (m : Mark) (s : State) → Gave (Leaves s.uses_left) (record_marked place t f frame m s)
unfolding record_marked count_record_type
marked-leaves place t f frame m s = by (defines_type f)
  where
    by : (b : Bool) → Gave (Leaves s.uses_left) (after (record_tree place (enter m t) f s.record_types (if b then record s { record_types = s.record_types + 1 } else s)) (λ u. give (leave m frame u)))
    by true = gave-after (Leaves s.uses_left) (Leaves s.uses_left) (record_tree place (enter m t) f s.record_types (record s { record_types = s.record_types + 1 })) (λ u. give (leave m frame u))
        (tree-leaves place (enter m t) f s.record_types (record s { record_types = s.record_types + 1 })) (λ a u k. k)
    by false = gave-after (Leaves s.uses_left) (Leaves s.uses_left) (record_tree place (enter m t) f s.record_types s) (λ u. give (leave m frame u))
        (tree-leaves place (enter m t) f s.record_types s) (λ a u k. k)

form-leaves : (rs : List CompiledLibrary) (place : Span) (t : Tree) (k : KeywordUse) (frame : Option FrameNo) (s : State) → Gave (Leaves s.uses_left) (used_form rs place t k frame s)
unfolding use_keyword use_record fresh
form-leaves rs place t (keyword_use.Macro l) frame s = stage-leaves s (used place rs t l (macro_expression (bound_to s.bindings l)) frame (stage_of s))
form-leaves rs place t (keyword_use.Record f) frame s =
    let m : Mark = record { 0 = s.names } in
    marked-leaves place t f frame m (record s { names = record { library = s.names.library; number = s.names.number + 1 } })

next-leaves : (rs : List CompiledLibrary) (left : ℕ) (place : Span) (t : Tree) (k : KeywordUse) (frame : Option FrameNo) (s : State) → Gave (Leaves left) (next_form rs left place t k frame s)
unfolding next_form
next-leaves rs left place t k frame s = form-leaves rs (place_of t place) t k frame (record s { uses_left = left })

module _ (go : Inside) (left : ℕ) (place : Span) (level depth : ℕ) (t : Tree) (k : KeywordUse) (s : State) where
  next-settled : plan_of place level t s ≡ Ok (head_plans.Use k, s) → expand_uses_to go.earlier (suc left) place level t s ≡ after (next_form go.earlier left place t k None s) (expand_uses_to go.earlier left (place_of t place) level)
  unfolding expand_uses_to step
  next-settled h = ap (λ r. after (after r (step_of go.earlier place t)) (planned_by (λ m s'. after (next_form go.earlier left place t m None s') (expand_uses_to go.earlier left (place_of t place) level)) place t)) h

  -- what comes of the form that was given
  behind : nat_lt most_round depth ≡ false → (r : Result (Tree × State) Fault) → Gave (Leaves left) r
      → after (after r (expand_uses_to go.earlier left (place_of t place) level)) (perform_settled go level depth) ≡ after r (form_at go (site_at (place_of t place) level depth))
  unfolding form_at
  behind few (Err e) h = refl
  behind few (Ok p) h =
      ap (λ n. after (expand_uses_to go.earlier n (place_of t place) level p.0 p.1) (perform_settled go level depth)) (sym h)
      ∙ sym (ap (λ b. if b then fault_form kind.TooDeep p.0 (place_of t place) p.1 else after (expand_uses go.earlier (place_of t place) level p.0 p.1) (perform_settled go level depth)) few)

  replaced : plan_of place level t s ≡ Ok (head_plans.Use k, s) → s.uses_left ≡ suc left → nat_lt most_round depth ≡ false → form_at go (site_at place level depth) t s ≡ after (next_form go.earlier left place t k None s) (form_at go (site_at (place_of t place) level depth))
  unfolding form_at
  replaced h uses few =
      ap (λ b. if b then fault_form kind.TooDeep t place s else after (expand_uses go.earlier place level t s) (perform_settled go level depth)) few
      ∙ ap (λ n. after (expand_uses_to go.earlier n place level t s) (perform_settled go level depth)) uses
      ∙ ap (λ r. after r (perform_settled go level depth)) (next-settled h)
      ∙ behind few (next_form go.earlier left place t k None s) (next-leaves go.earlier left place t k None s)

form-replaced : (rs : List CompiledLibrary) (room left : ℕ) (place : Span) (level depth : ℕ) (t : Tree) (k : KeywordUse) (s : State) → plan_of place level t s ≡ Ok (head_plans.Use k, s) → s.uses_left ≡ suc left → depth ≤ most_round
    → (inside rs (suc room)).form (site_at place level depth) t s ≡ after (next_form rs left place t k None s) ((inside rs (suc room)).form (site_at (place_of t place) level depth))
unfolding inside
form-replaced rs room left place level depth t k s h uses le =
    let few : nat_lt most_round depth ≡ false = grind (arith, nat_tests) in
    subst (λ (xs : List CompiledLibrary). form_at (inside rs room) (site_at place level depth) t s ≡ after (next_form xs left place t k None s) (form_at (inside rs room) (site_at (place_of t place) level depth))) (earlier_inside rs room)
    (replaced (inside rs room) left place level depth t k s h uses few)

pub uses-replaced : UsesAreReplaced
uses-replaced rs room left place level depth t l s h = form-replaced rs room left place level depth t (keyword_use.Macro l) s (use-planned place level t l s h)

pub record-forms-replaced : RecordFormsAreReplaced
record-forms-replaced rs room left place level depth t f s h is = form-replaced rs room left place level depth t (keyword_use.Record f) s (record-planned place level t f s h is)

-- In a body.

item-planned : (at : BodyAt) (depth : ℕ) (done : Taken) (t : Tree) (l : Label) (s : State) → IsUseOf s l t → item_plan at depth done t s ≡ Ok ((with_head_of s done t, head_items.Use (keyword_use.Macro l)), s)
unfolding leaf_item list_item keep
item-planned at depth done (atom r a) l s h = elim h [ ]
item-planned at depth done (leaf r x c) l s h = ap (λ st. leaf_by at depth (with_head_of s done (leaf r x c)) (leaf r x c) st s) h
item-planned at depth done (pair r a d) l s h =
    ap (λ b. if b then headed_item at depth (with_head_of s done (pair r a d)) (pair r a d) (standing_of s a) s else alone (wait at depth done (pair r a d)) s) h.0
    ∙ ap (λ st. headed_item at depth (with_head_of s done (pair r a d)) (pair r a d) st s) h.1
item-planned at depth done (vector r d) l s h = elim h [ ]

of-records : (at : BodyAt) (depth : ℕ) (done : Taken) (t : Tree) (f : CoreForm) (s : State) (q : Role) → IsOfRecords q → item_by at depth done t f q s ≡ Ok ((done, head_items.Use (keyword_use.Record f)), s)
of-records at depth done t f s role.Expression h = elim h [ ]
of-records at depth done t f s role.Assignment h = elim h [ ]
of-records at depth done t f s role.Sequence h = elim h [ ]
of-records at depth done t f s role.Definition h = elim h [ ]
of-records at depth done t f s role.Keywords h = elim h [ ]
of-records at depth done t f s role.Record h = refl
of-records at depth done t f s role.RecordValue h = refl
of-records at depth done t f s role.Auxiliary h = elim h [ ]

record-item-planned : (at : BodyAt) (depth : ℕ) (done : Taken) (t : Tree) (f : CoreForm) (s : State) → IsFormOf s f t → IsOfRecords (role_of f) → item_plan at depth done t s ≡ Ok ((with_head_of s done t, head_items.Use (keyword_use.Record f)), s)
unfolding list_item core_item keep
record-item-planned at depth done (atom r a) f s h is = elim h [ ]
record-item-planned at depth done (leaf r x c) f s h is = elim h [ ]
record-item-planned at depth done (pair r a d) f s h is =
    ap (λ b. if b then headed_item at depth (with_head_of s done (pair r a d)) (pair r a d) (standing_of s a) s else alone (wait at depth done (pair r a d)) s) h.0
    ∙ ap (λ st. headed_item at depth (with_head_of s done (pair r a d)) (pair r a d) st s) h.1
    ∙ of-records at depth (with_head_of s done (pair r a d)) (pair r a d) f s (role_of f) is
record-item-planned at depth done (vector r d) f s h is = elim h [ ]

module _ (go : Inside) (left : ℕ) (at : BodyAt) (depth : ℕ) (done : Taken) (t : Tree) (k : KeywordUse) (s : State) where
  abbrev kept : Taken
  kept = with_head_of s done t

  item-settled : item_plan at depth done t s ≡ Ok ((kept, head_items.Use k), s)
      → expand_item_uses_to go.earlier (suc left) at depth done t s ≡ after (next_form go.earlier left at.place t k (Some at.frame) s) (expand_item_uses_to go.earlier left (at_use at t) depth kept)
  unfolding expand_item_uses_to item_step
  item-settled h = ap (λ r. after (after r (λ p. item_step_of go.earlier at depth t p.0 p.1)) (settling.item_by (λ taken m s'. after (next_form go.earlier left at.place t m (Some at.frame) s') (expand_item_uses_to go.earlier left (at_use at t) depth taken)) at t)) h

  item-behind : nat_lt most_round depth ≡ false → (r : Result (Tree × State) Fault) → Gave (Leaves left) r
      → after (after r (expand_item_uses_to go.earlier left (at_use at t) depth kept)) (body.perform_settled go depth) ≡ after r (item go (at_use at t) depth kept)
  unfolding item
  item-behind few (Err e) h = refl
  item-behind few (Ok p) h =
      ap (λ n. after (expand_item_uses_to go.earlier n (at_use at t) depth kept p.0 p.1) (body.perform_settled go depth)) (sym h)
      ∙ sym (ap (λ b. if b then fault_form kind.TooDeep p.0 (at_use at t).place p.1 else after (expand_item_uses go.earlier (at_use at t) depth kept p.0 p.1) (body.perform_settled go depth)) few)

  item-replaced : item_plan at depth done t s ≡ Ok ((kept, head_items.Use k), s) → s.uses_left ≡ suc left → nat_lt most_round depth ≡ false → item go at depth done t s ≡ after (next_form go.earlier left at.place t k (Some at.frame) s) (item go (at_use at t) depth kept)
  unfolding item
  item-replaced h uses few =
      ap (λ b. if b then fault_form kind.TooDeep t at.place s else after (expand_item_uses go.earlier at depth done t s) (body.perform_settled go depth)) few
      ∙ ap (λ n. after (expand_item_uses_to go.earlier n at depth done t s) (body.perform_settled go depth)) uses
      ∙ ap (λ r. after r (body.perform_settled go depth)) (item-settled h)
      ∙ item-behind few (next_form go.earlier left at.place t k (Some at.frame) s) (next-leaves go.earlier left at.place t k (Some at.frame) s)

body-form-replaced : (rs : List CompiledLibrary) (room left : ℕ) (at : BodyAt) (depth : ℕ) (done : Taken) (t : Tree) (k : KeywordUse) (s : State) → item_plan at depth done t s ≡ Ok ((with_head_of s done t, head_items.Use k), s)
    → s.uses_left ≡ suc left → depth ≤ most_round → (inside rs (suc room)).item at depth done t s ≡ after (next_form rs left at.place t k (Some at.frame) s) ((inside rs (suc room)).item (at_use at t) depth (with_head_of s done t))
unfolding inside
body-form-replaced rs room left at depth done t k s h uses le =
    let few : nat_lt most_round depth ≡ false = grind (arith, nat_tests) in
    subst (λ (xs : List CompiledLibrary). item (inside rs room) at depth done t s ≡ after (next_form xs left at.place t k (Some at.frame) s) (item (inside rs room) (at_use at t) depth (with_head_of s done t))) (earlier_inside rs room)
    (item-replaced (inside rs room) left at depth done t k s h uses few)

pub body-uses-replaced : BodyUsesAreReplaced
body-uses-replaced rs room left at depth done t l s h = body-form-replaced rs room left at depth done t (keyword_use.Macro l) s (item-planned at depth done t l s h)

pub body-record-forms-replaced : BodyRecordFormsAreReplaced
body-record-forms-replaced rs room left at depth done t f s h is = body-form-replaced rs room left at depth done t (keyword_use.Record f) s (record-item-planned at depth done t f s h is)
