-- The planned item of a form of a body may be met.
use Rattle.std.proofs.Common.{ℕ, zero, suc, Bool, true, false, List, Some, Result, arith}
use Rattle.base_data.proofs.ElementLemmas.{each-and}
use Rattle.base_data.specs.Act.{after}
use Rattle.base_data.specs.declared.fault.Fault.{Fault}
use Rattle.base_data.specs.declared.library.LibName.{LibName}
use Rattle.base_data.specs.declared.name.FrameNo.{FrameNo}
use Rattle.base_data.specs.declared.name.Label.{Label}
use Rattle.base_data.specs.declared.name.Mark.{Mark}
use Rattle.stx_tree.specs.Context.{LeafContext}
use Rattle.stx_tree.specs.Tree.{Tree}
use Rattle.core_language.specs.declared.record.CompiledLibrary.{CompiledLibrary}
use Rattle.core_shapes.specs.At.{place_of}
use Rattle.expand_standing.specs.State.{State}
use Rattle.expand_standing.specs.Uses.{asks_variable}
use Rattle.expand_heads.specs.declared.item.HeadItem.{HeadItem}
use Rattle.expand_heads.specs.declared.item.HeadItem.TheVariants as head_items
use Rattle.expand_heads.specs.Items.{waiting_at, item_plan}
use Rattle.expand_heads.specs.declared.taken.BodyAt.{BodyAt}
use Rattle.expand_heads.specs.declared.taken.Taken.{Taken}
use Rattle.expand_heads.specs.declared.taken.Waits.TheVariants as waits
use Rattle.expand_forms.specs.ExpandUses.{next_form, too_many, at_use, set_item_step, item_step_of, item_step, item_by, expand_item_uses_to, expand_item_uses}
use Rattle.expand_forms.specs.declared.expand_uses.ItemOrUse.{ItemOrUse}
use Rattle.expand_forms.specs.declared.expand_uses.ItemOrUse.TheVariants as item_steps
use Rattle.expand_forms.specs.declared.expand_uses.PlannedItem.{PlannedItem}
use Rattle.law_fresh_expansion.specs.Living.{Lives}
use Rattle.law_fresh_expansion.specs.States.{RecordsHold}
use Rattle.law_fresh_expansion.proofs.Items as items
use Rattle.law_fresh_expansion.proofs.PlannedForm as settled
use Rattle.law_fresh_expansion.proofs.Standing as standing

module _ (own : LibName) (K : ℕ → Mark → Type 0) (J : ℕ → FrameNo → Type 0) (P : ℕ → LeafContext → Type 0) (lives : Lives own K J P) (first : ℕ) (rs : List CompiledLibrary) (held : RecordsHold (P first) rs) where
  abbrev F : State → Type 0
  F s = standing.F own K J P lives first s

  abbrev T : ℕ → Tree → Type 0
  T n t = standing.T own K J P lives first n t

  abbrev TakenAt : ℕ → Taken → Type 0
  TakenAt n d = items.TakenAt own K J P lives first n d

  abbrev Gave : {A : Type 0} → (ℕ → A → Type 0) → State → Result (A × State) Fault → Type 0
  Gave W s r = standing.Gave own K J P lives first W s r

  same : (s : State) → F s → standing.From own K J P lives first s s
  same s h = standing.state-self own K J P lives first s h

  abbrev StepAt : ℕ → Taken × ItemOrUse → Type 0
  StepAt n (d, item_steps.Item i) = TakenAt n d × items.ItemAt own K J P lives first n i
  StepAt n (d, item_steps.Use k) = TakenAt n d

  abbrev SettledAt : ℕ → Taken × PlannedItem → Type 0
  SettledAt n p = settled.SettledItemAt own K J P lives first rs held n p

  set-holds : (at : BodyAt) (depth : ℕ) (d : Taken) (t : Tree) (l : Label) (b : Bool) (s : State) → F s → TakenAt s.names.number d → T s.names.number t → Gave StepAt s (set_item_step at depth d t l b s)
  set-holds at depth d t l true s h k g = (same s h, k)
  set-holds at depth d t l false s h k g = (same s h, (each-and (items.WaitingAt own K J P lives first s.names.number) d.waiting (waiting_at at depth (waits.Expression t)) k g, tt))

  steps-hold : (at : BodyAt) (depth : ℕ) (t : Tree) (d : Taken) (i : HeadItem) (s : State) → F s → TakenAt s.names.number d → T s.names.number t → items.HeadItemAt own K J P lives first s.names.number i → Gave StepAt s (item_step_of rs at depth t d i s)
  steps-hold at depth t d (head_items.Use k) s h j g y = (same s h, j)
  steps-hold at depth t d (head_items.SetUse l) s h j g y =
      standing.gave-after own K J P lives first (λ n b. Unit {0}) StepAt s (asks_variable rs (place_of t at.place) l s) (set_item_step at depth d t l) (standing.asks-variable-holds own K J P lives first rs held (place_of t at.place) l s h)
      (λ b u i z. set-holds at depth d t l b u (standing.state-then own K J P lives first s u h i) (items.taken-up own K J P lives first s.names.number u.names.number i.stage.up d j) (standing.tree-up own K J P lives first s.names.number u.names.number i.stage.up t g))
  steps-hold at depth t d (head_items.Item i) s h j g y = (same s h, (j, y))

  step-holds : (at : BodyAt) (depth : ℕ) (d : Taken) (t : Tree) (s : State) → F s → TakenAt s.names.number d → T s.names.number t → Gave StepAt s (item_step rs at depth d t s)
  unfolding item_step
  step-holds at depth d t s h k g =
      standing.gave-after own K J P lives first (items.BothAt own K J P lives first) StepAt s (item_plan at depth d t s) (λ p. item_step_of rs at depth t p.0 p.1) (items.item-plan-holds own K J P lives first at depth d t s h k g)
      (λ p u i y. steps-hold at depth t p.0 p.1 u (standing.state-then own K J P lives first s u h i) y.0 (standing.tree-up own K J P lives first s.names.number u.names.number i.stage.up t g) y.1)

  settles : (left : ℕ) (at : BodyAt) (depth : ℕ) (d : Taken) (t : Tree) (s : State) → F s → TakenAt s.names.number d → T s.names.number t → J s.names.number at.frame → Gave SettledAt s (expand_item_uses_to rs left at depth d t s)
  unfolding expand_item_uses_to
  settles zero at depth d t s h k g q = standing.gave-after own K J P lives first StepAt SettledAt s (item_step rs at depth d t s) (item_by (λ done k. too_many t at.place) at t) (step-holds at depth d t s h k g) by
    where
      by : (p : Taken × ItemOrUse) (u : State) → standing.From own K J P lives first s u → StepAt u.names.number p → Gave SettledAt u (item_by (λ done k. too_many t at.place) at t p u)
      by (e, item_steps.Item i) u j y =
          (same u (standing.state-then own K J P lives first s u h j), (y.0, (standing.tree-up own K J P lives first s.names.number u.names.number j.stage.up t g, (y.1, lives.frames s.names.number u.names.number at.frame j.stage.up q))))
      by (e, item_steps.Use l) u j y = tt
  settles (suc left) at depth d t s h k g q =
      standing.gave-after own K J P lives first StepAt SettledAt s (item_step rs at depth d t s) (item_by (λ taken l s'. after (next_form rs left at.place t l (Some at.frame) s') (expand_item_uses_to rs left (at_use at t) depth taken)) at t) (step-holds at depth d t s h k g)
      (λ p u i y. by p u i y (λ e v w j x z r. settles left (at_use at t) depth e v w j x z r))
    where
      by : (p : Taken × ItemOrUse) (u : State) → standing.From own K J P lives first s u → StepAt u.names.number p
          → ((e : Taken) (v : Tree) (w : State) → F w → TakenAt w.names.number e → T w.names.number v → J w.names.number at.frame → Gave SettledAt w (expand_item_uses_to rs left (at_use at t) depth e v w))
          → Gave SettledAt u (item_by (λ taken l s'. after (next_form rs left at.place t l (Some at.frame) s') (expand_item_uses_to rs left (at_use at t) depth taken)) at t p u)
      by (e, item_steps.Item i) u j y again =
          (same u (standing.state-then own K J P lives first s u h j), (y.0, (standing.tree-up own K J P lives first s.names.number u.names.number j.stage.up t g, (y.1, lives.frames s.names.number u.names.number at.frame j.stage.up q))))
      by (e, item_steps.Use l) u j y again =
          let hu = standing.state-then own K J P lives first s u h j in
          standing.gave-after own K J P lives first T SettledAt u (next_form rs left at.place t l (Some at.frame) u) (expand_item_uses_to rs left (at_use at t) depth e)
          (settled.next-form-holds own K J P lives first rs held left at.place t l (Some at.frame) u hu (standing.tree-up own K J P lives first s.names.number u.names.number j.stage.up t g) (lives.frames s.names.number u.names.number at.frame j.stage.up q))
          (λ v w x z. again e v w (standing.state-then own K J P lives first u w hu x) (items.taken-up own K J P lives first u.names.number w.names.number x.stage.up e y) z (lives.frames s.names.number w.names.number at.frame (omega (arith, j.stage.up, x.stage.up)) q))

  pub settled-item-holds : (at : BodyAt) (depth : ℕ) (d : Taken) (t : Tree) (s : State) → F s → TakenAt s.names.number d → T s.names.number t → J s.names.number at.frame → Gave SettledAt s (expand_item_uses rs at depth d t s)
  settled-item-holds at depth d t s h k g q = settles s.uses_left at depth d t s h k g q
