-- How deep a form of a body stands is kept with what waits, and changes nothing else of its planned item.
use Rattle.std.proofs.Common.{◌≡◌, ℕ, zero, suc, Bool, true, false, List, [], ◌∷◌, ◌++◌, map, Some, Result, Ok, Err, refl, sym, ap, ◌∙◌, if◌then◌else◌}
use Rattle.std.specs.Prelude.{◌||◌, ◌&&◌, not}
use Rattle.base_data.specs.Act.{after, give}
use Rattle.base_data.specs.declared.fault.Fault.{Fault}
use Rattle.base_data.specs.declared.fault.FaultKind.TheVariants as kind
use Rattle.base_data.specs.declared.name.Label.{Label}
use Rattle.stx_tree.specs.Tree.{Tree, atom, leaf, pair, vector}
use Rattle.core_language.specs.declared.core_form.CoreForm.{CoreForm}
use Rattle.core_language.specs.declared.record.CompiledLibrary.{CompiledLibrary}
use Rattle.core_shapes.specs.At.{place_of}
use Rattle.core_shapes.specs.Forms.{shape}
use Rattle.core_shapes.specs.Lists.{is_leaf}
use Rattle.core_shapes.specs.declared.shape.BindingSpec.{BindingSpec}
use Rattle.core_shapes.specs.declared.shape.Shape.{Shape}
use Rattle.core_shapes.specs.declared.shape.Shape.TheVariants as shapes
use Rattle.expand_standing.specs.Binders.{bind_variable}
use Rattle.expand_standing.specs.Standing.{standing_of, role_of}
use Rattle.expand_standing.specs.State.{State, Does, fault_form, fault_word}
use Rattle.expand_standing.specs.Uses.{asks_variable}
use Rattle.expand_standing.specs.declared.standing.Role.{Role}
use Rattle.expand_standing.specs.declared.standing.Role.TheVariants as role
use Rattle.expand_standing.specs.declared.standing.Standing.{Standing}
use Rattle.expand_standing.specs.declared.standing.Standing.TheVariants as standing
use Rattle.expand_heads.specs.declared.item.HeadItem.{HeadItem}
use Rattle.expand_heads.specs.declared.item.HeadItem.TheVariants as head_items
use Rattle.expand_heads.specs.Kept.{with_head}
use Rattle.expand_heads.specs.Items.{kept_head, is_top, is_mixed, any_changed, heads_like, waiting_at, wait, keep, in_time, define, define_item, define_keyword, keyword_in_time, alone, target_item, set_item, begin_item, keywords_item, with_shape, item_by, core_item, headed_item, list_item, leaf_by, leaf_item, item_plan}
use Rattle.expand_heads.specs.declared.item.Item.TheVariants as items
use Rattle.expand_heads.specs.declared.plan.KeywordUse.{KeywordUse}
use Rattle.expand_heads.specs.declared.taken.BodyAt.{BodyAt}
use Rattle.expand_heads.specs.declared.taken.Taken.{Taken}
use Rattle.expand_heads.specs.declared.taken.Waiting.{Waiting}
use Rattle.expand_heads.specs.declared.taken.Waits.{Waits}
use Rattle.expand_heads.specs.declared.taken.Waits.TheVariants as waits
use Rattle.expand_forms.specs.ExpandUses.{next_form, too_many, at_use, set_item_step, item_step_of, item_step, expand_item_uses_to, expand_item_uses}
use Rattle.expand_forms.specs.ExpandUses as expand_uses
use Rattle.expand_forms.specs.declared.expand_uses.ItemOrUse.{ItemOrUse}
use Rattle.expand_forms.specs.declared.expand_uses.ItemOrUse.TheVariants as item_steps
use Rattle.expand_forms.specs.declared.expand_uses.PlannedItem.{PlannedItem}

-- What waits, and what was taken, with all depths left out.

abbrev pub shallow_waiting : Waiting → Waiting
shallow_waiting w = record { place = w.place; depth = 0; what = w.what }

abbrev pub all_shallow : List Waiting → List Waiting
all_shallow ws = map shallow_waiting ws

abbrev pub shallow : Taken → Taken
shallow d = record { waiting = all_shallow d.waiting; kept = d.kept; has_expression = d.has_expression; moved = d.moved }

abbrev pub shallow_with : {A : Type 0} → Result ((Taken × A) × State) Fault → Result ((Taken × A) × State) Fault
shallow_with (Ok p) = Ok ((shallow p.0.0, p.0.1), p.1)
shallow_with (Err e) = Err e

abbrev shallow_in : Result (Taken × State) Fault → Result (Taken × State) Fault
shallow_in (Ok p) = Ok (shallow p.0, p.1)
shallow_in (Err e) = Err e

waiting-more : (ws : List Waiting) (w : Waiting) → all_shallow (ws ++ w ∷ []) ≡ all_shallow ws ++ shallow_waiting w ∷ []
waiting-more [] w = refl
waiting-more (v ∷ ws) w = ap (λ vs. shallow_waiting v ∷ vs) (waiting-more ws w)

-- The same of actions, one after another.

shallow-after : {A B : Type 0} (r : Result ((Taken × A) × State) Fault) (k m : Taken × A → Does (Taken × B)) → ((p : Taken × A) (u : State) → shallow_with (k p u) ≡ m (shallow p.0, p.1) u) → shallow_with (after r k) ≡ after (shallow_with r) m
shallow-after (Ok p) k m h = h p.0 p.1
shallow-after (Err e) k m h = refl

shallow-any : {X B : Type 0} (r : Result (X × State) Fault) (k m : X → Does (Taken × B)) → ((x : X) (u : State) → shallow_with (k x u) ≡ m x u) → shallow_with (after r k) ≡ after r m
shallow-any (Ok p) k m h = h p.0 p.1
shallow-any (Err e) k m h = refl

-- where both answer the same up to depths
shallow-both : {A B : Type 0} (r q : Result ((Taken × A) × State) Fault) (k m : Taken × A → Does (Taken × B)) → shallow_with r ≡ q → ((p : Taken × A) (u : State) → shallow_with (k p u) ≡ m (shallow p.0, p.1) u) → shallow_with (after r k) ≡ after q m
shallow-both r q k m e h = shallow-after r k m h ∙ ap (λ x. after x m) e

shallow-alone : (r q : Result (Taken × State) Fault) → shallow_in r ≡ q → shallow_with (after r (λ d. give (d, head_items.Item items.Nothing))) ≡ after q (λ d. give (d, head_items.Item items.Nothing))
shallow-alone (Ok p) q e = ap (λ (x : Result (Taken × State) Fault). after x (λ d. give (d, head_items.Item items.Nothing))) e
shallow-alone (Err f) q e = ap (λ (x : Result (Taken × State) Fault). after x (λ d. give (d, head_items.Item items.Nothing))) e

shallow-if : {A : Type 0} (b : Bool) (r q v w : Result ((Taken × A) × State) Fault) → shallow_with r ≡ v → shallow_with q ≡ w → shallow_with (if b then r else q) ≡ (if b then v else w)
shallow-if true r q v w h k = h
shallow-if false r q v w h k = k

-- The definition of a keyword doesn't look at what waits.
pub keyword-shallow : (at : BodyAt) (done : Taken) (t : Tree) (b : BindingSpec) (s : State) → define_keyword at (shallow done) t b s ≡ define_keyword at done t b s
unfolding define_keyword keyword_in_time
keyword-shallow at done t b s = refl

-- with this head kept
abbrev with_kept : State → Taken → Tree → Taken
with_kept s done id = record done { kept = with_head done.kept (kept_head s id) }

module _ (depth : ℕ) where
  module _ (at : BodyAt) where
    shallow-in-time : (done : Taken) (id : Tree) (l : Label) (s : State) → shallow_with (after (in_time at done id s) (λ taken. give (taken, l))) ≡ after (in_time at (shallow done) id s) (λ taken. give (taken, l))
    unfolding in_time
    shallow-in-time done id l s = by (any_changed false s (heads_like done id)) (done.moved || any_changed true s (heads_like done id))
      where
        by : (c m : Bool) → shallow_with (after (if c then fault_word kind.LateDefinition id id at.place s else Ok (record done { moved = m }, s)) (λ taken. give (taken, l)))
            ≡ after (if c then fault_word kind.LateDefinition id id at.place s else Ok (record { waiting = all_shallow done.waiting; kept = done.kept; has_expression = done.has_expression; moved = m }, s)) (λ taken. give (taken, l))
        by true m = refl
        by false m = refl

    shallow-define : (done : Taken) (t id : Tree) (s : State) → shallow_with (define at done t id s) ≡ define at (shallow done) t id s
    unfolding define
    shallow-define done t id s =
        shallow-if (done.has_expression && not (is_mixed at.kind)) (fault_form kind.DefinitionPlace t at.place s)
        (after (bind_variable at.frame at.place at.level (is_top at.kind) id s) (λ l s'. after (in_time at done id s') (λ taken. give (taken, l))))
        (fault_form kind.DefinitionPlace t at.place s)
        (after (bind_variable at.frame at.place at.level (is_top at.kind) id s) (λ l s'. after (in_time at (shallow done) id s') (λ taken. give (taken, l))))
        refl
        (shallow-any (bind_variable at.frame at.place at.level (is_top at.kind) id s) (λ l s'. after (in_time at done id s') (λ taken. give (taken, l))) (λ l s'. after (in_time at (shallow done) id s') (λ taken. give (taken, l)))
        (λ l u. shallow-in-time done id l u))

    -- what waits behind the others
    shallow-more : (done : Taken) (what : Waits) (b : Bool)
        → shallow (record done { waiting = done.waiting ++ waiting_at at depth what ∷ []; has_expression = b }) ≡ record { waiting = all_shallow done.waiting ++ waiting_at at 0 what ∷ []; kept = done.kept; has_expression = b; moved = done.moved }
    shallow-more done what b = ap (λ (ws : List Waiting). record { waiting = ws; kept = done.kept; has_expression = b; moved = done.moved }) (waiting-more done.waiting (waiting_at at depth what))

    shallow-defined : (r : Result ((Taken × Label) × State) Fault) (what : Label → Waits)
        → shallow_in (after r (λ d. give (record d.0 { waiting = d.0.waiting ++ waiting_at at depth (what d.1) ∷ [] }))) ≡ after (shallow_with r) (λ d. give (record d.0 { waiting = d.0.waiting ++ waiting_at at 0 (what d.1) ∷ [] }))
    shallow-defined (Ok p) what = ap (λ (d : Taken). Ok (d, p.1)) (shallow-more p.0.0 (what p.0.1) p.0.0.has_expression)
    shallow-defined (Err e) what = refl

    shallow-definition : (done : Taken) (t : Tree) (x : Shape) (s : State) → shallow_in (define_item at depth done t x s) ≡ define_item at 0 (shallow done) t x s
    unfolding define_item
    shallow-definition done t (shapes.Define id value) s =
        shallow-defined (define at done t id s) (λ l. waits.Variable l value) ∙ ap (λ r. after r (λ d. give (record d.0 { waiting = d.0.waiting ++ waiting_at at 0 (waits.Variable d.1 value) ∷ [] }))) (shallow-define done t id s)
    shallow-definition done t (shapes.DefineProcedure id ids forms) s =
        shallow-defined (define at done t id s) (λ l. waits.Procedure l t ids forms) ∙ ap (λ r. after r (λ d. give (record d.0 { waiting = d.0.waiting ++ waiting_at at 0 (waits.Procedure d.1 t ids forms) ∷ [] }))) (shallow-define done t id s)
    shallow-definition done t _ s = refl

    shallow-wait : (done : Taken) (t : Tree) (s : State) → shallow_with (alone (wait at depth done t) s) ≡ alone (wait at 0 (shallow done) t) s
    shallow-wait done t s = ap (λ (d : Taken). Ok ((d, head_items.Item items.Nothing), s)) (shallow-more done (waits.Expression t) true)

    shallow-target : (done : Taken) (t : Tree) (x : Standing) (s : State) → shallow_with (target_item at depth done t x s) ≡ target_item at 0 (shallow done) t x s
    shallow-target done t (standing.Keyword l) s = refl
    shallow-target done t standing.Nothing s = shallow-wait done t s
    shallow-target done t (standing.Variable v) s = shallow-wait done t s
    shallow-target done t standing.PatternVariable s = shallow-wait done t s
    shallow-target done t (standing.Primitive op) s = shallow-wait done t s
    shallow-target done t (standing.Core f) s = shallow-wait done t s

    shallow-set : (done : Taken) (t : Tree) (r : Result Shape Fault) (s : State) → shallow_with (set_item at depth done t r s) ≡ set_item at 0 (shallow done) t r s
    unfolding keep
    shallow-set done t (Ok (shapes.Set id value)) s = shallow-target (with_kept s done id) t (standing_of s id) s
    shallow-set done t (Ok _) s = shallow-wait done t s
    shallow-set done t (Err e) s = shallow-wait done t s

    shallow-shape : (r : Result Shape Fault) (k m : Shape → Does (Taken × HeadItem)) (s : State) → ((x : Shape) → shallow_with (k x s) ≡ m x s) → shallow_with (with_shape r k s) ≡ with_shape r m s
    shallow-shape (Ok x) k m s h = h x
    shallow-shape (Err e) k m s h = refl

    shallow-begin : (done : Taken) (t : Tree) (x : Shape) (s : State) → shallow_with (begin_item at done t x s) ≡ begin_item at (shallow done) t x s
    unfolding begin_item
    shallow-begin done t (shapes.Begin forms) s = refl
    shallow-begin done t _ s = refl

    shallow-keywords : (done : Taken) (t : Tree) (f : CoreForm) (x : Shape) (s : State) → shallow_with (keywords_item at done t f x s) ≡ keywords_item at (shallow done) t f x s
    unfolding keywords_item
    shallow-keywords done t f (shapes.DefineSyntax id value) s = refl
    shallow-keywords done t f (shapes.LetSyntax bs forms) s = refl
    shallow-keywords done t f _ s = refl

    shallow-role : (done : Taken) (t : Tree) (f : CoreForm) (r : Role) (s : State) → shallow_with (item_by at depth done t f r s) ≡ item_by at 0 (shallow done) t f r s
    shallow-role done t f role.Expression s = shallow-wait done t s
    shallow-role done t f role.Assignment s = shallow-set done t (shape f t at.place) s
    shallow-role done t f role.Sequence s = shallow-shape (shape f t at.place) (begin_item at done t) (begin_item at (shallow done) t) s (λ x. shallow-begin done t x s)
    shallow-role done t f role.Definition s =
        shallow-shape (shape f t at.place) (λ x. alone (define_item at depth done t x)) (λ x. alone (define_item at 0 (shallow done) t x)) s
        (λ x. shallow-alone (define_item at depth done t x s) (define_item at 0 (shallow done) t x s) (shallow-definition done t x s))
    shallow-role done t f role.Keywords s = shallow-shape (shape f t at.place) (keywords_item at done t f) (keywords_item at (shallow done) t f) s (λ x. shallow-keywords done t f x s)
    shallow-role done t f role.Record s = refl
    shallow-role done t f role.RecordValue s = refl
    shallow-role done t f role.Auxiliary s = shallow-wait done t s

    shallow-headed : (done : Taken) (t : Tree) (x : Standing) (s : State) → shallow_with (headed_item at depth done t x s) ≡ headed_item at 0 (shallow done) t x s
    unfolding core_item
    shallow-headed done t standing.Nothing s = shallow-wait done t s
    shallow-headed done t (standing.Variable v) s = shallow-wait done t s
    shallow-headed done t standing.PatternVariable s = shallow-wait done t s
    shallow-headed done t (standing.Primitive op) s = shallow-wait done t s
    shallow-headed done t (standing.Core f) s = shallow-role done t f (role_of f) s
    shallow-headed done t (standing.Keyword l) s = refl

    shallow-leaf : (done : Taken) (t : Tree) (x : Standing) (s : State) → shallow_with (leaf_by at depth done t x s) ≡ leaf_by at 0 (shallow done) t x s
    shallow-leaf done t standing.Nothing s = shallow-wait done t s
    shallow-leaf done t (standing.Variable v) s = shallow-wait done t s
    shallow-leaf done t standing.PatternVariable s = shallow-wait done t s
    shallow-leaf done t (standing.Primitive op) s = shallow-wait done t s
    shallow-leaf done t (standing.Core f) s = shallow-wait done t s
    shallow-leaf done t (standing.Keyword l) s = refl

    shallow-plan : (done : Taken) (t : Tree) (s : State) → shallow_with (item_plan at depth done t s) ≡ item_plan at 0 (shallow done) t s
    unfolding leaf_item list_item keep
    shallow-plan done (atom r a) s = shallow-wait done (atom r a) s
    shallow-plan done (leaf r x c) s = shallow-leaf (with_kept s done (leaf r x c)) (leaf r x c) (standing_of s (leaf r x c)) s
    shallow-plan done (pair r a d) s =
        let t : Tree = pair r a d in
        shallow-if (is_leaf a) (headed_item at depth (with_kept s done a) t (standing_of s a) s) (alone (wait at depth done t) s) (headed_item at 0 (with_kept s (shallow done) a) t (standing_of s a) s) (alone (wait at 0 (shallow done) t) s)
        (shallow-headed (with_kept s done a) t (standing_of s a) s) (shallow-wait done t s)
    shallow-plan done (vector r d) s = shallow-wait done (vector r d) s

    -- Uses.

    shallow-waited : (done : Taken) (t : Tree) (s : State) → shallow_with (after (wait at depth done t s) (expand_uses.item_done items.Nothing)) ≡ after (wait at 0 (shallow done) t s) (expand_uses.item_done items.Nothing)
    shallow-waited done t s = ap (λ (d : Taken). Ok ((d, item_steps.Item items.Nothing), s)) (shallow-more done (waits.Expression t) true)

    shallow-asked : (done : Taken) (t : Tree) (l : Label) (b : Bool) (s : State) → shallow_with (set_item_step at depth done t l b s) ≡ set_item_step at 0 (shallow done) t l b s
    shallow-asked done t l true s = refl
    shallow-asked done t l false s = shallow-waited done t s

    shallow-step-of : (rs : List CompiledLibrary) (t : Tree) (done : Taken) (i : HeadItem) (s : State) → shallow_with (item_step_of rs at depth t done i s) ≡ item_step_of rs at 0 t (shallow done) i s
    shallow-step-of rs t done (head_items.Use k) s = refl
    shallow-step-of rs t done (head_items.SetUse l) s =
        shallow-any (asks_variable rs (place_of t at.place) l s) (set_item_step at depth done t l) (set_item_step at 0 (shallow done) t l) (λ b u. shallow-asked done t l b u)
    shallow-step-of rs t done (head_items.Item i) s = refl

    shallow-step : (rs : List CompiledLibrary) (done : Taken) (t : Tree) (s : State) → shallow_with (item_step rs at depth done t s) ≡ item_step rs at 0 (shallow done) t s
    unfolding item_step
    shallow-step rs done t s =
        shallow-both (item_plan at depth done t s) (item_plan at 0 (shallow done) t s) (λ p. item_step_of rs at depth t p.0 p.1) (λ p. item_step_of rs at 0 t p.0 p.1) (shallow-plan done t s) (λ p u. shallow-step-of rs t p.0 p.1 u)

    shallow-by : (onward other : Taken → KeywordUse → Does (Taken × PlannedItem)) (t : Tree) (s : State) → ((d : Taken) (k : KeywordUse) → shallow_with (onward d k s) ≡ other (shallow d) k s) → (p : Taken × ItemOrUse)
        → shallow_with (expand_uses.item_by onward at t p s) ≡ expand_uses.item_by other at t (shallow p.0, p.1) s
    shallow-by onward other t s h (d, item_steps.Item i) = refl
    shallow-by onward other t s h (d, item_steps.Use k) = h d k

  shallow-settled : (rs : List CompiledLibrary) (left : ℕ) (at : BodyAt) (done : Taken) (t : Tree) (s : State) → shallow_with (expand_item_uses_to rs left at depth done t s) ≡ expand_item_uses_to rs left at 0 (shallow done) t s
  unfolding expand_item_uses_to
  shallow-settled rs zero at done t s =
      shallow-both (item_step rs at depth done t s) (item_step rs at 0 (shallow done) t s) (expand_uses.item_by (λ d k. too_many t at.place) at t) (expand_uses.item_by (λ d k. too_many t at.place) at t) (shallow-step at rs done t s)
      (λ p u. shallow-by at (λ d k. too_many t at.place) (λ d k. too_many t at.place) t u (λ d k. refl) p)
  shallow-settled rs (suc left) at done t s =
      shallow-both (item_step rs at depth done t s) (item_step rs at 0 (shallow done) t s)
      (expand_uses.item_by (λ taken used s'. after (next_form rs left at.place t used (Some at.frame) s') (expand_item_uses_to rs left (at_use at t) depth taken)) at t)
      (expand_uses.item_by (λ taken used s'. after (next_form rs left at.place t used (Some at.frame) s') (expand_item_uses_to rs left (at_use at t) 0 taken)) at t)
      (shallow-step at rs done t s)
      (λ p u. shallow-by at (λ taken used s'. after (next_form rs left at.place t used (Some at.frame) s') (expand_item_uses_to rs left (at_use at t) depth taken)) (λ taken used s'. after (next_form rs left at.place t used (Some at.frame) s') (expand_item_uses_to rs left (at_use at t) 0 taken)) t u
      (λ taken used. shallow-any (next_form rs left at.place t used (Some at.frame) u) (expand_item_uses_to rs left (at_use at t) depth taken) (expand_item_uses_to rs left (at_use at t) 0 (shallow taken)) (λ x v. shallow-settled rs left (at_use at t) taken x v)) p)

  pub expand_uses-shallow : (rs : List CompiledLibrary) (at : BodyAt) (done : Taken) (t : Tree) (s : State) → shallow_with (expand_item_uses rs at depth done t s) ≡ expand_item_uses rs at 0 (shallow done) t s
  expand_uses-shallow rs at done t s = shallow-settled rs s.uses_left at done t s

-- What waits, up to depths.

abbrev pub SameWaits : List Waiting → List Waiting → Type 0
SameWaits [] [] = Unit {0}
SameWaits [] (w ∷ ws) = ⊥
SameWaits (v ∷ vs) [] = ⊥
SameWaits (v ∷ vs) (w ∷ ws) = (v.place ≡ w.place) × ((v.what ≡ w.what) × SameWaits vs ws)

abbrev first_or : Waiting → List Waiting → Waiting
first_or w [] = w
first_or w (v ∷ vs) = v

abbrev others : List Waiting → List Waiting
others [] = []
others (w ∷ ws) = ws

pub same-waits : (vs ws : List Waiting) → all_shallow vs ≡ all_shallow ws → SameWaits vs ws
same-waits [] [] e = tt
same-waits [] (w ∷ ws) e = absurd (cc)
same-waits (v ∷ vs) [] e = absurd (cc)
same-waits (v ∷ vs) (w ∷ ws) e =
    let first : shallow_waiting v ≡ shallow_waiting w = ap (first_or (shallow_waiting v)) e in
    (ap (λ (x : Waiting). x.place) first, (ap (λ (x : Waiting). x.what) first, same-waits vs ws (ap others e)))
