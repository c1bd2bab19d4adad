-- How many uses of keywords an expansion makes, and which one is refused.
use Rattle.std.specs.Prelude.{◌≡◌, ◌+◌, ℕ, suc, List, Option, None, Some, Ok}
use Rattle.base_data.specs.declared.imported_name.ImportedName.{ImportedName}
use Rattle.base_data.specs.declared.library.LibName.{LibName}
use Rattle.base_data.specs.declared.name.FrameNo.{FrameNo}
use Rattle.base_data.specs.declared.span.Span.{Span}
use Rattle.stx_tree.specs.Tree.{Tree}
use Rattle.core_language.specs.declared.record.CompiledLibrary.{CompiledLibrary}
use Rattle.eval_code.specs.Codes.{Codes}
use Rattle.core_shapes.specs.At.{place_of}
use Rattle.expand_standing.specs.Start.{started}
use Rattle.expand_standing.specs.State.{State}
use Rattle.expand_heads.specs.declared.item.Item.{Item}
use Rattle.expand_heads.specs.declared.plan.KeywordUse.{KeywordUse}
use Rattle.expand_heads.specs.declared.plan.Plan.{Plan}
use Rattle.expand_heads.specs.declared.taken.BodyAt.{BodyAt}
use Rattle.expand_heads.specs.declared.taken.Taken.{Taken}
use Rattle.expand_forms.specs.ExpandUses.{next_form, too_many, step, linked, expand_uses, at_use, item_step, expand_item_uses}
use Rattle.expand_forms.specs.declared.expand_uses.ItemOrUse.TheVariants as item_steps
use Rattle.expand_forms.specs.declared.expand_uses.PlannedForm.{PlannedForm}
use Rattle.expand_forms.specs.declared.expand_uses.PlannedItem.{PlannedItem}
use Rattle.expand_forms.specs.declared.expand_uses.PlanOrUse.TheVariants as steps

-- a form that is to be expanded, at its place and in its state, where so many uses may be made
pub record UnexpandedForm : Type 0 where
  pub uses_left : ℕ
  pub place : Span
  pub form : Tree
  pub state : State

abbrev pub unexpanded : ℕ → Span → Tree → State → UnexpandedForm
unexpanded left place t s = record { uses_left = left; place = place; form = t; state = s }

-- likewise a form of a body, behind what was taken of the body before it
pub record UnexpandedItem : Type 0 where
  pub uses_left : ℕ
  pub at : BodyAt
  pub done : Taken
  pub form : Tree
  pub state : State

abbrev pub unexpanded_item : ℕ → BodyAt → Taken → Tree → State → UnexpandedItem
unexpanded_item left at done t s = record { uses_left = left; at = at; done = done; form = t; state = s }

-- Where so many uses may be made, a form at a place becomes another by a number of uses, one behind another, and so many may be made then. What a
-- use gives stands at the place of the use.
pub data Becomes (rs : List CompiledLibrary) (level : ℕ) : ℕ → UnexpandedForm → UnexpandedForm → Type 0 where
  itself : {left : ℕ} {place : Span} {t : Tree} {s : State} → Becomes rs level 0 (unexpanded left place t s) (unexpanded left place t s)
  used : {n more left : ℕ} {place at : Span} {t x y : Tree} {s u v w : State} {k : KeywordUse}
      → step rs place level t s ≡ Ok (steps.Use k, u) → next_form rs more place t k None u ≡ Ok (x, v)
      → Becomes rs level n (unexpanded more (place_of t place) x v) (unexpanded left at y w)
      → Becomes rs level (suc n) (unexpanded (suc more) place t s) (unexpanded left at y w)

-- So does a form of a body, behind what was taken of the body before it.
pub data BecomesItem (rs : List CompiledLibrary) (depth : ℕ) : ℕ → UnexpandedItem → UnexpandedItem → Type 0 where
  item_itself : {left : ℕ} {at : BodyAt} {done : Taken} {t : Tree} {s : State}
      → BecomesItem rs depth 0 (unexpanded_item left at done t s) (unexpanded_item left at done t s)
  item_used : {n more left : ℕ} {at to : BodyAt} {done taken end : Taken} {t x y : Tree} {s u v w : State} {k : KeywordUse}
      → item_step rs at depth done t s ≡ Ok ((taken, item_steps.Use k), u)
      → next_form rs more at.place t k (Some at.frame) u ≡ Ok (x, v)
      → BecomesItem rs depth n (unexpanded_item more (at_use at t) taken x v) (unexpanded_item left to end y w)
      → BecomesItem rs depth (suc n) (unexpanded_item (suc more) at done t s) (unexpanded_item left to end y w)

-- An expansion may make 1,000,000 uses. Each use takes one. A form that becomes one which is no use is planned as that, however few are left then; one
-- that becomes a use where none is left is refused, at that use. And a form is planned only so.
pub record UsesAreCounted : Type 0 where
  pub starts : (own : LibName) (records : List CompiledLibrary) (imports : List ImportedName) (codes : Codes)
      → (started own records imports codes).uses_left ≡ 1000000
  pub counted : (rs : List CompiledLibrary) (level n more left : ℕ) (place at : Span) (t y : Tree) (s w : State)
      → Becomes rs level n (unexpanded more place t s) (unexpanded left at y w) → more ≡ n + left
  pub settled : (rs : List CompiledLibrary) (level n left : ℕ) (place at : Span) (t y : Tree) (s w u : State) (p : Plan)
      → Becomes rs level n (unexpanded s.uses_left place t s) (unexpanded left at y w) → step rs at level y w ≡ Ok (steps.Plan p, u)
      → expand_uses rs place level t s ≡ Ok (record { place = at; form = y; plan = p }, linked y p u)
  pub refused : (rs : List CompiledLibrary) (level n : ℕ) (place at : Span) (t y : Tree) (s w u : State) (k : KeywordUse)
      → Becomes rs level n (unexpanded s.uses_left place t s) (unexpanded 0 at y w) → step rs at level y w ≡ Ok (steps.Use k, u)
      → expand_uses rs place level t s ≡ too_many y at u
  pub only : (rs : List CompiledLibrary) (level : ℕ) (place : Span) (t : Tree) (s v : State) (d : PlannedForm) → expand_uses rs place level t s ≡ Ok (d, v)
      → (n : ℕ) × ((left : ℕ) × ((w : State) × ((u : State)
      × (Becomes rs level n (unexpanded s.uses_left place t s) (unexpanded left d.place d.form w)
      × ((step rs d.place level d.form w ≡ Ok (steps.Plan d.plan, u)) × (v ≡ linked d.form d.plan u))))))

-- So it is in bodies.
pub record BodyUsesAreCounted : Type 0 where
  pub counted : (rs : List CompiledLibrary) (depth n more left : ℕ) (at to : BodyAt) (done end : Taken) (t y : Tree) (s w : State)
      → BecomesItem rs depth n (unexpanded_item more at done t s) (unexpanded_item left to end y w) → more ≡ n + left
  pub settled : (rs : List CompiledLibrary) (depth n left : ℕ) (at to : BodyAt) (done end taken : Taken) (t y : Tree) (s w u : State)
      (i : Item) → BecomesItem rs depth n (unexpanded_item s.uses_left at done t s) (unexpanded_item left to end y w)
      → item_step rs to depth end y w ≡ Ok ((taken, item_steps.Item i), u)
      → expand_item_uses rs at depth done t s ≡ Ok ((taken, record { at = to; form = y; item = i }), u)
  pub refused : (rs : List CompiledLibrary) (depth n : ℕ) (at to : BodyAt) (done end taken : Taken) (t y : Tree) (s w u : State)
      (k : KeywordUse) → BecomesItem rs depth n (unexpanded_item s.uses_left at done t s) (unexpanded_item 0 to end y w)
      → item_step rs to depth end y w ≡ Ok ((taken, item_steps.Use k), u) → expand_item_uses rs at depth done t s ≡ too_many y to.place u
