-- Uses of keywords are counted over whole expansions.
use Rattle.std.specs.Prelude.{◌≡◌, ◌+◌, ℕ, List, Ok}
use Rattle.base_data.specs.declared.imported_name.ImportedName.{ImportedName}
use Rattle.base_data.specs.declared.library.LibName.{LibName}
use Rattle.base_data.specs.declared.span.Span.{Span}
use Rattle.stx_tree.specs.Tree.{Tree}
use Rattle.core_language.specs.Core.{PlainCore}
use Rattle.core_language.specs.declared.record.CompiledLibrary.{CompiledLibrary}
use Rattle.eval_code.specs.Codes.{Codes}
use Rattle.expand_standing.specs.Start.{started}
use Rattle.expand_standing.specs.State.{State}
use Rattle.expand_heads.specs.declared.taken.BodyAt.{BodyAt}
use Rattle.expand_heads.specs.declared.taken.Taken.{Taken}
use Rattle.expand_heads.specs.declared.taken.Waiting.{Waiting}
use Rattle.expand_forms.specs.ExpandUses.{expand_uses, expand_item_uses}
use Rattle.expand_forms.specs.declared.expand_uses.PlannedForm.{PlannedForm}
use Rattle.expand_forms.specs.declared.expand_uses.PlannedItem.{PlannedItem}
use Rattle.expand_forms.specs.declared.top.TopAt.{TopAt}
use Rattle.law_uses.specs.Counted.{UnexpandedForm, unexpanded, UnexpandedItem, unexpanded_item, Becomes, BecomesItem}
use Rattle.law_references.specs.Changes.{placed, between, body_change}
use Rattle.law_references.specs.Expands.{Expands, Take, Finish}
use Rattle.law_references.specs.Noted.{KeywordExpression, Noted, NotedLine}
use Rattle.law_references.specs.Records.{RunIsRight}
use Rattle.law_counts.specs.Made.{made, items_made, lines_made}

-- A form was so many uses, one behind another, until it was none. They and the uses that are left then are those that were left before.
pub record IsSettledBy (rs : List CompiledLibrary) (level : ℕ) (from : UnexpandedForm) (v : State) (d : PlannedForm) : Type 0 where
  pub uses : ℕ
  pub last : State
  pub becomes : Becomes rs level uses from (unexpanded v.uses_left d.place d.form last)
  pub left : uses + v.uses_left ≡ from.uses_left

-- so it is of a form of a body
pub record IsItemBy (rs : List CompiledLibrary) (depth : ℕ) (from : UnexpandedItem) (v : State) (d : PlannedItem) : Type 0 where
  pub uses : ℕ
  pub taken : Taken
  pub last : State
  pub becomes : BecomesItem rs depth uses from (unexpanded_item v.uses_left d.at taken d.form last)
  pub left : uses + v.uses_left ≡ from.uses_left

-- All uses that are made in the expansion of a form, and those that are left after it, are those that were left before it: no use is counted twice,
-- and none is given back. So all that are made in the expansion of a library, and those that are left at its end, are 1,000,000.
pub record UsesAreCountedInWhole : Type 0 where
  pub settled : (rs : List CompiledLibrary) (level : ℕ) (place : Span) (t : Tree) (s v : State) (d : PlannedForm)
      → expand_uses rs place level t s ≡ Ok (d, v) → IsSettledBy rs level (unexpanded s.uses_left place t s) v d
  pub items : (rs : List CompiledLibrary) (depth : ℕ) (at : BodyAt) (done end : Taken) (t : Tree) (s v : State) (d : PlannedItem)
      → expand_item_uses rs at depth done t s ≡ Ok ((end, d), v) → IsItemBy rs depth (unexpanded_item s.uses_left at done t s) v d
  pub forms : (rs : List CompiledLibrary) (place : Span) (level : ℕ) (t : Tree) (s u : State) (c : PlainCore) (x : Noted)
      (h : Expands rs (placed place level) t c (between s u x)) → made h + u.uses_left ≡ s.uses_left
  pub first : (rs : List CompiledLibrary) (at : BodyAt) (depth : ℕ) (done end : Taken) (ts : List Tree) (s u : State) (es : List KeywordExpression)
      (h : Take rs at depth ts (body_change done s end u es)) → items_made h + u.uses_left ≡ s.uses_left
  pub second : (rs : List CompiledLibrary) (level : ℕ) (ws : List Waiting) (s u : State) (xs : List NotedLine)
      (h : Finish rs level ws s xs u) → lines_made h + u.uses_left ≡ s.uses_left
  pub libraries : (libs : List LibName) (own : LibName) (records : List CompiledLibrary) (imports : List ImportedName) (codes : Codes) (at : TopAt)
      (exports : List (List ℕ × Tree)) (forms : List Tree) (r : CompiledLibrary)
      (h : RunIsRight libs own records (started own records imports codes) at exports forms r)
      → (items_made h.taking + lines_made h.ends) + h.last.uses_left ≡ 1000000
