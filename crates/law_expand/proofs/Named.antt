-- Each reference names the binder that its leaf stands for.
use Rattle.std.proofs.Common.{◌≡◌, ℕ, zero, suc, Bool, true, false, List, [], ◌∷◌, ◌++◌, Option, None, Some, Result, Ok, Err, refl, sym, ◌∙◌, ap, subst, inl, inr, if◌then◌else◌}
use Rattle.std.specs.Prelude.{◌⊎◌, ◌&&◌, nat_eq, nat_lt, is_some}
use Rattle.std.specs.Cmp.Lexicographic.{pointwise}
use Rattle.base_data.specs.Act.{after}
use Rattle.base_data.specs.Op.{name_count, is_keyword}
use Rattle.base_data.specs.Same.{same_library, texts_decides}
use Rattle.base_data.specs.declared.fault.Fault.{Fault}
use Rattle.base_data.specs.declared.fault.FaultKind.TheVariants as kind
use Rattle.base_data.specs.declared.library.LibName.TheVariants as library
use Rattle.base_data.specs.declared.name.FrameNo.{FrameNo}
use Rattle.base_data.specs.declared.name.Label.{Label}
use Rattle.base_data.specs.declared.name.Mark.{Mark}
use Rattle.base_data.specs.declared.span.Span.{Span}
use Rattle.stx_tree.specs.Changes.{stamp}
use Rattle.stx_tree.specs.Leaves.{marks_of}
use Rattle.stx_tree.specs.SameMarks.{same_marks, same_marks_equiv}
use Rattle.stx_tree.specs.Tree.{Tree, atom, leaf, pair, vector, span_of}
use Rattle.stx_tree.specs.declared.stamp.Stamp.{Stamp}
use Rattle.stx_frames.specs.Rows.{Row, label_in, is_of, second_binder}
use Rattle.stx_frames.specs.Scope.{Scope, rows_at, with_row, label_at, label_by, or_else}
use Rattle.stx_frames.proofs.FrameLaws.{rows_at-with_row}
use Rattle.stx_scope.specs.Stands.{stands, row_for, symbol_of}
use Rattle.core_language.specs.Bindings.{bound_to}
use Rattle.core_language.specs.Core.{PlainCore, variable}
use Rattle.core_language.specs.CoreForm.{at_number}
use Rattle.core_language.specs.declared.binding.Binding.TheVariants as binding
use Rattle.core_language.specs.declared.binding.Binding.{Binding}
use Rattle.core_language.specs.declared.core_form.CoreForm.{CoreForm}
use Rattle.core_language.specs.declared.record.CompiledLibrary.{CompiledLibrary}
use Rattle.core_language.specs.declared.link.LinkKind.TheVariants as kinds
use Rattle.core_shapes.specs.At.{place_of}
use Rattle.core_shapes.specs.Lists.{is_leaf}
use Rattle.expand_standing.specs.Binders.{bind_variable, bind_as, row_put, put_variable, variable_for}
use Rattle.expand_standing.specs.Standing.{label_standing, numbered_as, given_as, bound_as, standing_by, standing_of}
use Rattle.expand_standing.specs.State.{State, Does, fresh, fault_form, note}
use Rattle.expand_standing.specs.declared.standing.Standing.TheVariants as standing
use Rattle.expand_standing.specs.declared.standing.Standing.{Standing}
use Rattle.expand_standing.proofs.Noted.{noted-keeps}
use Rattle.expand_heads.specs.declared.plan.HeadPlan.{HeadPlan}
use Rattle.expand_heads.specs.declared.plan.HeadPlan.TheVariants as head_plans
use Rattle.expand_heads.specs.Depth.{most_round}
use Rattle.expand_heads.specs.Plan.{reference, target_by, plan_of}
use Rattle.expand_heads.specs.declared.plan.KeywordUse.{KeywordUse}
use Rattle.expand_heads.specs.declared.plan.KeywordUse.TheVariants as keyword_use
use Rattle.expand_heads.specs.declared.plan.Plan.TheVariants as plans
use Rattle.expand_heads.specs.declared.plan.Plan.{Plan}
use Rattle.expand_forms.specs.Expression.{perform, perform_settled, form_at, inside}
use Rattle.expand_forms.specs.Inside.{Inside}
use Rattle.expand_forms.specs.ExpandUses.{next_form, too_many, step_of, step, linked, linked_code, planned_by, expand_uses_to, expand_uses}
use Rattle.expand_forms.specs.declared.expand_uses.PlannedForm.{PlannedForm}
use Rattle.expand_forms.specs.declared.expand_uses.PlanOrUse.{PlanOrUse}
use Rattle.expand_forms.specs.declared.expand_uses.PlanOrUse.TheVariants as steps
use Rattle.expand_forms.specs.Site.{site_at}
use Rattle.law_expand.specs.Named.{RefersTo, IsUse, ReferencesNameBinders, AssignmentsNameBinders, BindersAreFound, BindersStay}
use Rattle.law_expand.specs.States.{IsOld}
use Rattle.law_expand.specs.Trees.{StampsAre, LeavesAre}
use Rattle.law_expand.proofs.Acts.{Gave, gave-after, gave-less, gave-if, told}
use Rattle.law_expand.proofs.Changes.{form-later}
use Rattle.law_expand.proofs.Naming.{as_label, counted, with_variable}
use Rattle.law_expand.proofs.References.{RefersBy, TargetBy, Refers, Targets, reference-is, target_by-is}

-- References.

-- the variable of a standing has the label that was asked for
abbrev pub OfLabel : Label → Standing → Type 0
OfLabel l standing.Nothing = Unit {0}
OfLabel l (standing.Variable v) = v.label ≡ l
OfLabel l standing.PatternVariable = Unit {0}
OfLabel l (standing.Primitive op) = Unit {0}
OfLabel l (standing.Core f) = Unit {0}
OfLabel l (standing.Keyword m) = Unit {0}

pub label-kept : (s : State) (l : Label) → OfLabel l (label_standing s l)
unfolding label_standing
label-kept s l = by (same_library l.0.library library.Core)
  where
    by_keyword : (b : Bool) → OfLabel l (if b then standing.Nothing else standing.Primitive (record { 0 = l.0.number }))
    by_keyword true = tt
    by_keyword false = tt

    by_form : (o : Option CoreForm) → OfLabel l (given_as l o)
    by_form (Some f) = tt
    by_form None = by_keyword (is_keyword l.0.number)

    by_number : (b : Bool) → OfLabel l (if b then given_as l (at_number l.0.number) else standing.Nothing)
    by_number true = by_form (at_number l.0.number)
    by_number false = tt

    bound : (o : Option Binding) → OfLabel l (bound_as s l o)
    bound None = tt
    bound (Some (binding.Variable v)) = refl
    bound (Some (binding.PatternVariable level depth)) = tt
    bound (Some (binding.Macro level expression)) = tt
    bound (Some (binding.Core f)) = tt
    bound (Some (binding.Primitive o)) = tt

    by : (b : Bool) → OfLabel l (if b then numbered_as l else bound_as s l (bound_to s.bindings l))
    by true = by_number (nat_lt l.0.number name_count)
    by false = bound (bound_to s.bindings l)

-- a use of the keyword that is stood for
abbrev UseOf : Standing → KeywordUse → Type 0
UseOf st (keyword_use.Macro l) = st ≡ standing.Keyword l
UseOf st (keyword_use.Record f) = ⊥

-- a reference to what the leaf stands for, or a use
abbrev Finishes : State → Option Label → Standing → HeadPlan → State → Type 0
Finishes s o st (head_plans.Plan (plans.Done c)) u = RefersTo s o c × (u ≡ s)
Finishes s o st (head_plans.Use k) u = UseOf st k × (u ≡ s)
Finishes s o st _ u = ⊥

finishes : (level : ℕ) (s : State) (l : Label) (st : Standing) (p : HeadPlan) (u : State) → label_standing s l ≡ st → OfLabel l st → u ≡ s → RefersBy level s st p → Finishes s (Some l) st p u
finishes level s l standing.Nothing p u is of same h = elim h [ ]
finishes level s l (standing.Variable v) p u is of same h = subst (λ q. Finishes s (Some l) (standing.Variable v) q u) (sym h.0) (inl (ap variable of), same)
finishes level s l standing.PatternVariable p u is of same h = elim h [ ]
finishes level s l (standing.Primitive o) p u is of same h = subst (λ q. Finishes s (Some l) (standing.Primitive o) q u) (sym h) (inr (o, (is, refl)), same)
finishes level s l (standing.Core f) p u is of same h = elim h [ ]
finishes level s l (standing.Keyword m) p u is of same h = subst (λ q. Finishes s (Some l) (standing.Keyword m) q u) (sym h) (refl, same)

reference-named : (place : Span) (level : ℕ) (id : Tree) (s : State) → Gave (Finishes s (stands s.frames id) (standing_of s id)) (reference place level id s)
unfolding standing_of
reference-named place level id s = gave-less (Refers place level s (standing_by s (stands s.frames id))) (Finishes s (stands s.frames id) (standing_by s (stands s.frames id))) (reference place level id s) (reference-is place level s id) (λ p u k. by (stands s.frames id) p u k)
  where
    by : (o : Option Label) (p : HeadPlan) (u : State) → Refers place level s (standing_by s o) p u → Finishes s o (standing_by s o) p u
    by None p u k = elim k.1 [ ]
    by (Some l) p u k = finishes level s l (label_standing s l) p u refl (label-kept s l) k.0 k.1

-- the plan of a leaf that is no use is its own
module _ (rs : List CompiledLibrary) (place : Span) (level : ℕ) (t : Tree) (s : State) where
  abbrev Answers : PlainCore → State → Type 0
  Answers c u = (RefersTo s (stands s.frames t) c × (u ≡ linked_code t c s)) ⊎ IsUse s t

  abbrev IsSettled : PlannedForm → State → Type 0
  IsSettled d u = ((c : PlainCore) × ((d.plan ≡ plans.Done c) × (RefersTo s (stands s.frames t) c × (u ≡ linked_code t c s)))) ⊎ IsUse s t

  abbrev IsStep : PlanOrUse → State → Type 0
  IsStep (steps.Plan p) u = (c : PlainCore) × ((p ≡ plans.Done c) × (RefersTo s (stands s.frames t) c × (u ≡ s)))
  IsStep (steps.Use l) u = IsUse s t

  use-named : (k : KeywordUse) → UseOf (standing_of s t) k → IsUse s t
  use-named (keyword_use.Macro l) h = (l, h)
  use-named (keyword_use.Record f) h = elim h [ ]

  step-named : (p : HeadPlan) (u : State) → Finishes s (stands s.frames t) (standing_of s t) p u → Gave IsStep (step_of rs place t p u)
  step-named (head_plans.Plan (plans.Done c)) u h = (c, (refl, h))
  step-named (head_plans.Use k) u h = use-named k h.0
  step-named _ u h = elim h [ ]

  -- whatever comes of a use
  any : {A : Type 0} (P : A → State → Type 0) (r : Result (A × State) Fault) → ((a : A) (u : State) → P a u) → Gave P r
  any P (Ok p) h = h p.0 p.1
  any P (Err e) h = tt

  settled-named : (onward : KeywordUse → Does PlannedForm) (x : PlanOrUse) (u : State) → IsStep x u → Gave IsSettled (planned_by onward place t x u)
  settled-named onward (steps.Plan p) u h = inl (h.0, (h.1.0, (h.1.1.0, ap (λ (x : Plan). linked t x u) h.1.0 ∙ ap (linked_code t h.0) h.1.1.1)))
  settled-named onward (steps.Use l) u h = any IsSettled (onward l u) (λ a v. inr h)

  plan-named : Gave (Finishes s (stands s.frames t) (standing_of s t)) (plan_of place level t s) → Gave IsStep (step rs place level t s)
  unfolding step
  plan-named h = gave-after (Finishes s (stands s.frames t) (standing_of s t)) IsStep (plan_of place level t s) (step_of rs place t) h step-named

  expand_uses-named : (left : ℕ) → Gave (Finishes s (stands s.frames t) (standing_of s t)) (plan_of place level t s) → Gave IsSettled (expand_uses_to rs left place level t s)
  unfolding expand_uses_to
  expand_uses-named zero h = gave-after IsStep IsSettled (step rs place level t s) (planned_by (λ l. too_many t place) place t) (plan-named h) (settled-named (λ l. too_many t place))
  expand_uses-named (suc left) h = gave-after IsStep IsSettled (step rs place level t s) (planned_by (λ l s'. after (next_form rs left place t l None s') (expand_uses_to rs left (place_of t place) level)) place t) (plan-named h)
      (settled-named (λ l s'. after (next_form rs left place t l None s') (expand_uses_to rs left (place_of t place) level)))

  pub performs-named : (go : Inside) (depth : ℕ) (d : PlannedForm) (u : State) → IsSettled d u → Gave Answers (perform_settled go level depth d u)
  unfolding perform
  performs-named go depth d u (inl h) = subst (λ (p : Plan). Gave Answers (perform go (site_at d.place level depth) d.form p u)) (sym h.1.0) (inl h.1.1)
  performs-named go depth d u (inr h) = any Answers (perform_settled go level depth d u) (λ a v. inr h)

form-named : (rs : List CompiledLibrary) (room : ℕ) (place : Span) (level depth : ℕ) (t : Tree) (s : State) → is_leaf t ≡ true
    → Gave (λ c u. (RefersTo s (stands s.frames t) c × (u ≡ linked_code t c s)) ⊎ IsUse s t) ((inside rs room).form (site_at place level depth) t s)
unfolding inside form_at
form-named rs zero place level depth t s h = tt
form-named rs (suc room) place level depth (leaf r x c) s h =
    let earlier = (inside rs room).earlier in
    gave-if (Answers earlier place level (leaf r x c) s) (nat_lt most_round depth) _ _ (λ e. tt)
    (λ e. gave-after (IsSettled earlier place level (leaf r x c) s) (Answers earlier place level (leaf r x c) s) (expand_uses earlier place level (leaf r x c) s) (perform_settled (inside rs room) level depth)
    (expand_uses-named earlier place level (leaf r x c) s s.uses_left (reference-named place level (leaf r x c) s)) (performs-named earlier place level (leaf r x c) s (inside rs room) depth))
form-named rs (suc room) place level depth (atom r a) s h = absurd (cc)
form-named rs (suc room) place level depth (pair r a d) s h = absurd (cc)
form-named rs (suc room) place level depth (vector r d) s h = absurd (cc)

pub references-named : ReferencesNameBinders
references-named rs room place level depth t s u c h e = told (λ d v. (RefersTo s (stands s.frames t) d × (v ≡ linked_code t d s)) ⊎ IsUse s t) ((inside rs room).form (site_at place level depth) t s) c u (form-named rs room place level depth t s h) e

-- Assignments.

target-label : (level : ℕ) (s : State) (l m : Label) (st : Standing) → OfLabel l st → TargetBy level s st m → Some l ≡ Some m
target-label level s l m standing.Nothing of h = elim h [ ]
target-label level s l m (standing.Variable v) of h = ap Some (sym of ∙ sym h.0)
target-label level s l m standing.PatternVariable of h = elim h [ ]
target-label level s l m (standing.Primitive o) of h = elim h [ ]
target-label level s l m (standing.Core f) of h = elim h [ ]
target-label level s l m (standing.Keyword k) of h = elim h [ ]

target-named : (place : Span) (level : ℕ) (t id : Tree) (s : State) → Gave (λ l u. stands s.frames id ≡ Some l) (target_by place level t id (standing_of s id) s)
unfolding standing_of
target-named place level t id s = gave-less (Targets place level s (standing_by s (stands s.frames id))) (λ l u. stands s.frames id ≡ Some l) (target_by place level t id (standing_by s (stands s.frames id)) s) (target_by-is place level s t id (standing_by s (stands s.frames id))) (λ l u k. by (stands s.frames id) l u k)
  where
    by : (o : Option Label) (l : Label) (u : State) → Targets place level s (standing_by s o) l u → o ≡ Some l
    by None l u k = elim k.1 [ ]
    by (Some m) l u k = target-label level s m l (label_standing s m) (label-kept s m) k.1

pub assignments-named : AssignmentsNameBinders
assignments-named place level t id s u l e = told (λ m v. stands s.frames id ≡ Some m) (target_by place level t id (standing_of s id) s) l u (target-named place level t id s) e

-- Binders.

-- the last row is found, where no row before it is of its symbol and marks
last-found : (rs : List Row) (x : List ℕ) (ms : List Mark) (l : Label) → is_some (label_in rs x ms) ≡ false → label_in (rs ++ record { symbol = x; marks = ms; label = l } ∷ []) x ms ≡ Some l
last-found [] x ms l h = ap (λ b. if b then Some l else None) (both (pointwise nat_eq x x) (same_marks ms ms) ((texts_decides x x).1 refl) (same_marks_equiv.refl ms))
  where
    both : (b c : Bool) → b ≡ true → c ≡ true → (b && c) ≡ true
    both b c e f = ap (λ v. v && c) e ∙ f
last-found (r ∷ rs) x ms l h = by (is_of x ms r) (last-found rs x ms l) h
  where
    by : (b : Bool) → (is_some (label_in rs x ms) ≡ false → label_in (rs ++ record { symbol = x; marks = ms; label = l } ∷ []) x ms ≡ Some l)
        → is_some (if b then Some r.label else label_in rs x ms) ≡ false → (if b then Some r.label else label_in (rs ++ record { symbol = x; marks = ms; label = l } ∷ []) x ms) ≡ Some l
    by true later k = absurd (cc)
    by false later k = later k

-- the newest stamp is asked first
stamp-found : (fs : Scope) (f : FrameNo) (id : Tree) (l : Label) → is_leaf id ≡ true → label_at fs f (symbol_of id) (marks_of id) ≡ Some l → stands fs (stamp f id) ≡ Some l
stamp-found fs f (leaf r x c) l h e = ap (λ o. or_else o (label_by fs x c.stamps)) e
stamp-found fs f (atom r a) l h e = absurd (cc)
stamp-found fs f (pair r a d) l h e = absurd (cc)
stamp-found fs f (vector r d) l h e = absurd (cc)

binder-found : (f : FrameNo) (place : Span) (level : ℕ) (top : Bool) (id : Tree) (s : State) → Gave (λ l u. stands u.frames (stamp f id) ≡ Some l) (bind_variable f place level top id s)
unfolding bind_variable fresh
binder-found f place level top id s =
    gave-if (λ l u. stands u.frames (stamp f id) ≡ Some l) (is_leaf id) (after (fresh s) (bind_as f place level id top)) (fault_form kind.BadForm id place s)
    (λ e. by_row e (is_some (label_at s.frames f (symbol_of id) (marks_of id))) refl) (λ e. tt)
  where
    by_row : is_leaf id ≡ true → (b : Bool) → is_some (label_at s.frames f (symbol_of id) (marks_of id)) ≡ b
        → Gave (λ l u. stands u.frames (stamp f id) ≡ Some l) (after (row_put id place (counted s) (if b then Err (second_binder (symbol_of id)) else Ok (with_row s.frames f (row_for id (as_label s.names))))) (λ _ t. after (put_variable (as_label s.names) (variable_for id level top (counted s).index) t) (λ _. note (as_label s.names) (span_of id) (as_label s.names) kinds.Bind)))
    by_row h true new = tt
    by_row h false new = noted-keeps (λ u. stands u.frames (stamp f id) ≡ Some (as_label s.names)) (span_of id) (as_label s.names) kinds.Bind (with_variable f id (as_label s.names) (variable_for id level top s.index) (counted s))
        (λ ls. stamp-found (with_row s.frames f (row_for id (as_label s.names))) f id (as_label s.names) h
        (ap (λ rs. label_in rs (symbol_of id) (marks_of id)) (rows_at-with_row s.frames f (row_for id (as_label s.names))) ∙ last-found (rows_at f s.frames) (symbol_of id) (marks_of id) (as_label s.names) new))

pub binders-found : BindersAreFound
binders-found f place level top id s u l e = told (λ m v. stands v.frames (stamp f id) ≡ Some m) (bind_variable f place level top id s) l u (binder-found f place level top id s) e

-- Later states.

stamps-stay : (fs gs : Scope) (P : FrameNo → Type 0) (same : (f : FrameNo) → P f → rows_at f gs ≡ rows_at f fs) (x : List ℕ) (ts : List Stamp) → StampsAre P ts → label_by gs x ts ≡ label_by fs x ts
stamps-stay fs gs P same x [] h = refl
stamps-stay fs gs P same x (t ∷ ts) h = λ i. or_else (label_in (same t.frame h.0 i) x t.marks) (stamps-stay fs gs P same x ts h.1 i)

pub leaf-stays : (fs gs : Scope) (P : FrameNo → Type 0) (same : (f : FrameNo) → P f → rows_at f gs ≡ rows_at f fs) (t : Tree) → LeavesAre P t → stands gs t ≡ stands fs t
leaf-stays fs gs P same (atom r a) h = refl
leaf-stays fs gs P same (leaf r x c) h = stamps-stay fs gs P same x c.stamps h
leaf-stays fs gs P same (pair r a d) h = refl
leaf-stays fs gs P same (vector r d) h = refl

pub binders-stay : BindersStay
binders-stay rs room place level depth t s u c e id old = leaf-stays s.frames u.frames (IsOld s.names.library s) (form-later rs room place level depth t s u c e).same id old
