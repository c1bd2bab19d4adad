-- What waits after the first pass over a body stands at least as deep as the body's forms.
use Rattle.std.proofs.Common.{◌≤◌, ℕ, zero, suc, Bool, true, false, List, [], ◌∷◌, ◌++◌, Some, Result, Ok, Err, if◌then◌else◌}
use Rattle.std.specs.Prelude.{◌||◌, ◌&&◌, not}
use Rattle.base_data.specs.Act.{after, give}
use Rattle.base_data.specs.Elements.{Each}
use Rattle.base_data.specs.declared.fault.Fault.{Fault}
use Rattle.base_data.specs.declared.name.Label.{Label}
use Rattle.base_data.specs.declared.fault.FaultKind.TheVariants as kind
use Rattle.stx_tree.specs.Tree.{Tree, atom, leaf, pair, vector}
use Rattle.core_language.specs.declared.core_form.CoreForm.{CoreForm}
use Rattle.core_language.specs.declared.record.CompiledLibrary.{CompiledLibrary}
use Rattle.core_shapes.specs.At.{place_of}
use Rattle.core_shapes.specs.Forms.{shape}
use Rattle.core_shapes.specs.Lists.{is_leaf}
use Rattle.core_shapes.specs.declared.shape.Shape.{Shape}
use Rattle.core_shapes.specs.declared.shape.Shape.TheVariants as shapes
use Rattle.expand_standing.specs.Binders.{bind_variable}
use Rattle.expand_standing.specs.Standing.{standing_of, role_of}
use Rattle.expand_standing.specs.State.{State, Does, fault_word}
use Rattle.expand_standing.specs.Uses.{asks_variable}
use Rattle.expand_standing.specs.declared.standing.Role.{Role}
use Rattle.expand_standing.specs.declared.standing.Role.TheVariants as role
use Rattle.expand_standing.specs.declared.standing.Standing.{Standing}
use Rattle.expand_standing.specs.declared.standing.Standing.TheVariants as standing
use Rattle.expand_heads.specs.declared.item.HeadItem.{HeadItem}
use Rattle.expand_heads.specs.declared.item.HeadItem.TheVariants as head_items
use Rattle.expand_heads.specs.Kept.{with_head}
use Rattle.expand_heads.specs.Items.{kept_head, is_top, is_mixed, any_changed, heads_like, waiting_at, keep, in_time, define, define_item, target_item, set_item, begin_item, keywords_item, with_shape, item_by, core_item, headed_item, list_item, leaf_by, leaf_item, item_plan}
use Rattle.expand_heads.specs.declared.item.Item.TheVariants as items
use Rattle.expand_heads.specs.declared.plan.KeywordUse.{KeywordUse}
use Rattle.expand_heads.specs.declared.taken.BodyAt.{BodyAt}
use Rattle.expand_heads.specs.declared.taken.Taken.{Taken}
use Rattle.expand_heads.specs.declared.taken.Waiting.{Waiting}
use Rattle.expand_heads.specs.declared.taken.Waits.{Waits}
use Rattle.expand_heads.specs.declared.taken.Waits.TheVariants as waits
use Rattle.expand_forms.specs.ExpandUses.{next_form, too_many, at_use, set_item_step, item_step_of, item_step, expand_item_uses_to, expand_item_uses}
use Rattle.expand_forms.specs.ExpandUses as expand_uses
use Rattle.expand_forms.specs.declared.expand_uses.ItemOrUse.{ItemOrUse}
use Rattle.expand_forms.specs.declared.expand_uses.ItemOrUse.TheVariants as item_steps
use Rattle.expand_forms.specs.declared.expand_uses.PlannedItem.{PlannedItem}
use Rattle.law_room.proofs.Same.{Gave, gave-after, gave-any, gave-if}

-- no less deep than this
abbrev pub IsFrom : ℕ → Waiting → Type 0
IsFrom n w = n ≤ w.depth

abbrev pub WaitsFrom : ℕ → Taken → Type 0
WaitsFrom n done = Each (IsFrom n) done.waiting

-- with this head kept
abbrev with_kept : State → Taken → Tree → Taken
with_kept s done id = record done { kept = with_head done.kept (kept_head s id) }

module _ (n : ℕ) (depth : ℕ) (deep : n ≤ depth) where
  one-more : (ws : List Waiting) (at : BodyAt) (what : Waits) → Each (IsFrom n) ws → Each (IsFrom n) (ws ++ waiting_at at depth what ∷ [])
  one-more [] at what h = (deep, tt)
  one-more (w ∷ ws) at what h = (h.0, one-more ws at what h.1)

  -- with what else is to be done
  abbrev P : {A : Type 0} → Taken × A → Type 0
  P p = WaitsFrom n p.0

  module _ (at : BodyAt) where
    from-in-time : (done : Taken) (id : Tree) (l : Label) (s : State) → WaitsFrom n done → Gave P (after (in_time at done id s) (λ taken. give (taken, l)))
    unfolding in_time
    from-in-time done id l s h = by (any_changed false s (heads_like done id)) (done.moved || any_changed true s (heads_like done id))
      where
        by : (c m : Bool) → Gave P (after (if c then fault_word kind.LateDefinition id id at.place s else Ok (record done { moved = m }, s)) (λ taken. give (taken, l)))
        by true m = tt
        by false m = h

    from-define : (done : Taken) (t id : Tree) (s : State) → WaitsFrom n done → Gave P (define at done t id s)
    unfolding define
    from-define done t id s h = gave-if P (done.has_expression && not (is_mixed at.kind)) _ _ tt
        (gave-any P (bind_variable at.frame at.place at.level (is_top at.kind) id s) (λ l s'. after (in_time at done id s') (λ taken. give (taken, l))) (λ l u. from-in-time done id l u h))

    from-definition : (done : Taken) (t : Tree) (x : Shape) (s : State) → WaitsFrom n done → Gave (WaitsFrom n) (define_item at depth done t x s)
    unfolding define_item
    from-definition done t (shapes.Define id value) s h =
        gave-after P (WaitsFrom n) (define at done t id s) _ (from-define done t id s h) (λ d u k. one-more d.0.waiting at (waits.Variable d.1 value) k)
    from-definition done t (shapes.DefineProcedure id ids forms) s h =
        gave-after P (WaitsFrom n) (define at done t id s) _ (from-define done t id s h) (λ d u k. one-more d.0.waiting at (waits.Procedure d.1 t ids forms) k)
    from-definition done t _ s h = tt

    from-wait : (done : Taken) (t : Tree) (s : State) → WaitsFrom n done → Each (IsFrom n) (done.waiting ++ waiting_at at depth (waits.Expression t) ∷ [])
    from-wait done t s h = one-more done.waiting at (waits.Expression t) h

    from-target : (done : Taken) (t : Tree) (x : Standing) (s : State) → WaitsFrom n done → Gave P (target_item at depth done t x s)
    from-target done t (standing.Keyword l) s h = h
    from-target done t standing.Nothing s h = from-wait done t s h
    from-target done t (standing.Variable v) s h = from-wait done t s h
    from-target done t standing.PatternVariable s h = from-wait done t s h
    from-target done t (standing.Primitive op) s h = from-wait done t s h
    from-target done t (standing.Core f) s h = from-wait done t s h

    from-set : (done : Taken) (t : Tree) (r : Result Shape Fault) (s : State) → WaitsFrom n done → Gave P (set_item at depth done t r s)
    unfolding keep
    from-set done t (Ok (shapes.Set id value)) s h = from-target (with_kept s done id) t (standing_of s id) s h
    from-set done t (Ok _) s h = from-wait done t s h
    from-set done t (Err e) s h = from-wait done t s h

    from-shape : (done : Taken) (r : Result Shape Fault) (k : Shape → Does (Taken × HeadItem)) (s : State) → ((x : Shape) → Gave P (k x s)) → Gave P (with_shape r k s)
    from-shape done (Ok x) k s h = h x
    from-shape done (Err e) k s h = tt

    from-begin : (done : Taken) (t : Tree) (x : Shape) (s : State) → WaitsFrom n done → Gave P (begin_item at done t x s)
    unfolding begin_item
    from-begin done t (shapes.Begin forms) s h = h
    from-begin done t _ s h = tt

    from-keywords : (done : Taken) (t : Tree) (f : CoreForm) (x : Shape) (s : State) → WaitsFrom n done → Gave P (keywords_item at done t f x s)
    unfolding keywords_item
    from-keywords done t f (shapes.DefineSyntax id value) s h = h
    from-keywords done t f (shapes.LetSyntax bs forms) s h = h
    from-keywords done t f _ s h = tt

    from-role : (done : Taken) (t : Tree) (f : CoreForm) (q : Role) (s : State) → WaitsFrom n done → Gave P (item_by at depth done t f q s)
    from-role done t f role.Expression s h = from-wait done t s h
    from-role done t f role.Assignment s h = from-set done t (shape f t at.place) s h
    from-role done t f role.Sequence s h = from-shape done (shape f t at.place) (begin_item at done t) s (λ x. from-begin done t x s h)
    from-role done t f role.Definition s h =
        from-shape done (shape f t at.place) _ s (λ x. gave-after (WaitsFrom n) P (define_item at depth done t x s) (λ taken. give (taken, head_items.Item items.Nothing)) (from-definition done t x s h) (λ d u k. k))
    from-role done t f role.Keywords s h = from-shape done (shape f t at.place) (keywords_item at done t f) s (λ x. from-keywords done t f x s h)
    from-role done t f role.Record s h = h
    from-role done t f role.RecordValue s h = h
    from-role done t f role.Auxiliary s h = from-wait done t s h

    from-headed : (done : Taken) (t : Tree) (x : Standing) (s : State) → WaitsFrom n done → Gave P (headed_item at depth done t x s)
    unfolding core_item
    from-headed done t standing.Nothing s h = from-wait done t s h
    from-headed done t (standing.Variable v) s h = from-wait done t s h
    from-headed done t standing.PatternVariable s h = from-wait done t s h
    from-headed done t (standing.Primitive op) s h = from-wait done t s h
    from-headed done t (standing.Core f) s h = from-role done t f (role_of f) s h
    from-headed done t (standing.Keyword l) s h = h

    from-leaf : (done : Taken) (t : Tree) (x : Standing) (s : State) → WaitsFrom n done → Gave P (leaf_by at depth done t x s)
    from-leaf done t standing.Nothing s h = from-wait done t s h
    from-leaf done t (standing.Variable v) s h = from-wait done t s h
    from-leaf done t standing.PatternVariable s h = from-wait done t s h
    from-leaf done t (standing.Primitive op) s h = from-wait done t s h
    from-leaf done t (standing.Core f) s h = from-wait done t s h
    from-leaf done t (standing.Keyword l) s h = h

    from-plan : (done : Taken) (t : Tree) (s : State) → WaitsFrom n done → Gave P (item_plan at depth done t s)
    unfolding leaf_item list_item keep
    from-plan done (atom r a) s h = from-wait done (atom r a) s h
    from-plan done (leaf r x c) s h = from-leaf (with_kept s done (leaf r x c)) (leaf r x c) (standing_of s (leaf r x c)) s h
    from-plan done (pair r a d) s h = gave-if P (is_leaf a) _ _ (from-headed (with_kept s done a) (pair r a d) (standing_of s a) s h) (from-wait done (pair r a d) s h)
    from-plan done (vector r d) s h = from-wait done (vector r d) s h

    -- Uses.

    from-asked : (done : Taken) (t : Tree) (l : Label) (b : Bool) (s : State) → WaitsFrom n done → Gave P (set_item_step at depth done t l b s)
    from-asked done t l true s h = h
    from-asked done t l false s h = from-wait done t s h

    from-step-of : (rs : List CompiledLibrary) (t : Tree) (done : Taken) (i : HeadItem) (s : State) → WaitsFrom n done → Gave P (item_step_of rs at depth t done i s)
    from-step-of rs t done (head_items.Use k) s h = h
    from-step-of rs t done (head_items.SetUse l) s h = gave-any P (asks_variable rs (place_of t at.place) l s) (set_item_step at depth done t l) (λ b u. from-asked done t l b u h)
    from-step-of rs t done (head_items.Item i) s h = h

    from-step : (rs : List CompiledLibrary) (done : Taken) (t : Tree) (s : State) → WaitsFrom n done → Gave P (item_step rs at depth done t s)
    unfolding item_step
    from-step rs done t s h = gave-after P P (item_plan at depth done t s) (λ p. item_step_of rs at depth t p.0 p.1) (from-plan done t s h) (λ p u k. from-step-of rs t p.0 p.1 u k)

    from-by : (onward : Taken → KeywordUse → Does (Taken × PlannedItem)) (t : Tree) (s : State) → ((d : Taken) (k : KeywordUse) → WaitsFrom n d → Gave P (onward d k s)) → (p : Taken × ItemOrUse) → WaitsFrom n p.0
        → Gave P (expand_uses.item_by onward at t p s)
    from-by onward t s h (d, item_steps.Item i) k = k
    from-by onward t s h (d, item_steps.Use u) k = h d u k

  from-settled : (rs : List CompiledLibrary) (left : ℕ) (at : BodyAt) (done : Taken) (t : Tree) (s : State) → WaitsFrom n done → Gave P (expand_item_uses_to rs left at depth done t s)
  unfolding expand_item_uses_to
  from-settled rs zero at done t s h =
      gave-after P P (item_step rs at depth done t s) (expand_uses.item_by (λ d k. too_many t at.place) at t) (from-step at rs done t s h) (λ p u k. from-by at (λ d k. too_many t at.place) t u (λ d k' k''. tt) p k)
  from-settled rs (suc left) at done t s h =
      gave-after P P (item_step rs at depth done t s) (expand_uses.item_by (λ taken used s'. after (next_form rs left at.place t used (Some at.frame) s') (expand_item_uses_to rs left (at_use at t) depth taken)) at t) (from-step at rs done t s h)
      (λ p u k. from-by at (λ taken used s'. after (next_form rs left at.place t used (Some at.frame) s') (expand_item_uses_to rs left (at_use at t) depth taken)) t u
      (λ taken used k'. gave-any P (next_form rs left at.place t used (Some at.frame) u) (expand_item_uses_to rs left (at_use at t) depth taken) (λ x v. from-settled rs left (at_use at t) taken x v k')) p k)

  pub from-expand_uses : (rs : List CompiledLibrary) (at : BodyAt) (done : Taken) (t : Tree) (s : State) → WaitsFrom n done → Gave P (expand_item_uses rs at depth done t s)
  from-expand_uses rs at done t s h = from-settled rs s.uses_left at done t s h
