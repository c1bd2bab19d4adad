-- An expansion keeps that all in its state may be met.
use Rattle.std.specs.Prelude.{◌≡◌, ℕ, List, Ok}
use Rattle.base_data.specs.Elements.{Among}
use Rattle.base_data.specs.declared.library.LibName.{LibName}
use Rattle.base_data.specs.declared.library.LibName.TheVariants as library
use Rattle.base_data.specs.declared.name.FrameNo.{FrameNo}
use Rattle.base_data.specs.declared.name.Mark.{Mark}
use Rattle.base_data.specs.declared.span.Span.{Span}
use Rattle.stx_tree.specs.Context.{LeafContext}
use Rattle.stx_tree.specs.Tree.{Tree}
use Rattle.core_language.specs.Core.{PlainCore}
use Rattle.core_language.specs.declared.code.Lambda.{Lambda}
use Rattle.core_language.specs.declared.record.CompiledLibrary.{CompiledLibrary}
use Rattle.core_shapes.specs.declared.shape.FormalIds.{FormalIds}
use Rattle.expand_standing.specs.State.{State}
use Rattle.expand_heads.specs.declared.taken.BodyAt.{BodyAt}
use Rattle.expand_heads.specs.declared.taken.Taken.{Taken}
use Rattle.expand_forms.specs.Body.{item}
use Rattle.expand_forms.specs.Expression.{lambda_case, form_at, inside}
use Rattle.expand_forms.specs.Inside.{Inside}
use Rattle.expand_forms.specs.Site.{site_at}
use Rattle.expand_forms.specs.Forms.{procedure_parts}
use Rattle.law_fresh.specs.Leaves.{TreeHolds, CoreHolds}
use Rattle.law_fresh_expansion.specs.Forms.{TreesHold, FormalsHold, TakenHolds}
use Rattle.law_fresh_expansion.specs.Known.{IsKnown, IsKnownFrame, HasKnown}
use Rattle.law_fresh_expansion.specs.History.{HasKnownHistory}
use Rattle.law_fresh_expansion.specs.States.{RecordsHold, FreshStateHolds}

-- What is done with forms, behind some records, keeps that all in the state may be met, frees no name that was taken, and gives no leaf that
-- may not be met then; where that is so of the state, the records and the forms that it begins with.
pub record KeepsFresh (own : LibName) (K : ℕ → Mark → Type 0) (J : ℕ → FrameNo → Type 0) (P : ℕ → LeafContext → Type 0) (go : Inside) : Type 0 where
  pub form : (place : Span) (level depth : ℕ) (t : Tree) (s u : State) (c : PlainCore) → FreshStateHolds own K P s.names.number s
      → RecordsHold (P s.names.number) go.earlier → TreeHolds (P s.names.number) t
      → go.form (site_at place level depth) t s ≡ Ok (c, u) → FreshStateHolds own K P s.names.number u × CoreHolds (P u.names.number) c
  pub procedure : (place : Span) (level depth : ℕ) (t : Tree) (ids : FormalIds) (forms : List Tree) (s u : State) (c : Lambda)
      → FreshStateHolds own K P s.names.number s → RecordsHold (P s.names.number) go.earlier
      → FormalsHold (P s.names.number) ids → TreesHold (P s.names.number) forms
      → go.procedure (site_at place level depth) (procedure_parts t ids forms) s ≡ Ok (c, u)
      → FreshStateHolds own K P s.names.number u × CoreHolds (P u.names.number) c.body
  pub item : (at : BodyAt) (depth : ℕ) (d e : Taken) (t : Tree) (s u : State) → FreshStateHolds own K P s.names.number s
      → RecordsHold (P s.names.number) go.earlier → TakenHolds (P s.names.number) d → TreeHolds (P s.names.number) t → J s.names.number at.frame
      → go.item at depth d t s ≡ Ok (e, u) → FreshStateHolds own K P s.names.number u × TakenHolds (P u.names.number) e

-- what is done with forms round others
abbrev pub around : Inside → Inside
around go = record { earlier = go.earlier; form = form_at go; procedure = lambda_case go; item = item go }

-- That all marks and frames are known, of a library that isn't the implementation, is kept by what is done with forms round others, whatever is
-- done with these that keeps it; so each state with which a form inside is begun is such a one. And it is kept however deep forms nest.
pub record MarksStayKnown : Type 0 where
  pub around_keeps : (libs : List LibName) (own : LibName) (go : Inside) → Among libs library.Core
      → KeepsFresh own (IsKnown libs own) (IsKnownFrame libs own) (HasKnown libs own) go
      → KeepsFresh own (IsKnown libs own) (IsKnownFrame libs own) (HasKnown libs own) (around go)
  pub inside_keeps : (libs : List LibName) (own : LibName) (records : List CompiledLibrary) (room : ℕ) → Among libs library.Core
      → KeepsFresh own (IsKnown libs own) (IsKnownFrame libs own) (HasKnown libs own) (inside records room)

-- So it is kept that each leaf has a history: what it was made as, and then one enter, leave or stamp after another, with known marks and frames.
pub record HistoriesStay : Type 0 where
  pub around_keeps : (libs : List LibName) (own : LibName) (go : Inside) → Among libs library.Core
      → KeepsFresh own (IsKnown libs own) (IsKnownFrame libs own) (HasKnownHistory libs own) go
      → KeepsFresh own (IsKnown libs own) (IsKnownFrame libs own) (HasKnownHistory libs own) (around go)
  pub inside_keeps : (libs : List LibName) (own : LibName) (records : List CompiledLibrary) (room : ℕ) → Among libs library.Core
      → KeepsFresh own (IsKnown libs own) (IsKnownFrame libs own) (HasKnownHistory libs own) (inside records room)
