-- How deep forms may nest: 600 core forms and applications may stand round a form, and no more (R6RS leaves such limits to an
-- implementation).
use Rattle.std.specs.Prelude.{◌≡◌, ◌<◌, ◌≤◌, ℕ, ◌+◌, true, false, List, [], ◌∷◌, length, Option, None, Ok}
use Rattle.base_data.specs.declared.atom.Atom.{Atom}
use Rattle.base_data.specs.declared.fault.FaultKind.TheVariants as kind
use Rattle.base_data.specs.declared.span.Span.{Span}
use Rattle.stx_tree.specs.Tree.{Tree, atom, pair, nil}
use Rattle.stx_tree.specs.Leaves.{strip}
use Rattle.core_language.specs.Core.{quoted}
use Rattle.core_language.specs.declared.core_form.CoreForm.TheVariants as core_forms
use Rattle.core_language.specs.declared.record.CompiledLibrary.{CompiledLibrary}
use Rattle.core_shapes.specs.Lists.{is_leaf, is_nil_atom}
use Rattle.expand_standing.specs.Standing.{standing_of}
use Rattle.expand_standing.specs.State.{State, fault_form}
use Rattle.expand_standing.specs.declared.standing.Standing.TheVariants as standing
use Rattle.expand_heads.specs.Depth.{most_round}
use Rattle.expand_heads.specs.declared.taken.BodyAt.{BodyAt}
use Rattle.expand_heads.specs.declared.taken.Taken.{Taken}
use Rattle.expand_forms.specs.Expanding.{expression}
use Rattle.expand_forms.specs.Expression.{inside, full_room}
use Rattle.expand_forms.specs.Site.{outermost, site_at}

-- `(begin (begin ... form))`, with a `begin` for each of the spans
abbrev pub begun : List (Option Span) → Tree → Tree → Tree
begun [] word form = form
begun (s ∷ ss) word form = pair s word (pair None (begun ss word form) nil)

-- an identifier that stands for `begin`
pub record IsBegin (s : State) (word : Tree) : Type 0 where
  pub leaf : is_leaf word ≡ true
  pub stands : standing_of s word ≡ standing.Core core_forms.Begin

pub record LimitOfNesting : Type 0 where
  -- With more round it a form is TooDeep, whatever form it is, at its place, and whatever the room is: an expression,
  pub expressions : (records : List CompiledLibrary) (room : ℕ) (place : Span) (level depth : ℕ) (t : Tree) (s : State)
      → most_round < depth → (inside records room).form (site_at place level depth) t s ≡ fault_form kind.TooDeep t place s
  -- and a form of a body.
  pub items : (records : List CompiledLibrary) (room : ℕ) (at : BodyAt) (depth : ℕ) (done : Taken) (t : Tree) (s : State)
      → most_round < depth → (inside records room).item at depth done t s ≡ fault_form kind.TooDeep t at.place s
  -- `begin`s round a form make it so much deeper, and nothing else.
  pub begins : (records : List CompiledLibrary) (place : Span) (level : ℕ) (ss : List (Option Span)) (word t : Tree) (s : State)
      → IsBegin s word → length ss ≤ most_round + 1
      → expression records (outermost place level) (begun ss word t) s ≡ (inside records full_room).form (site_at place level (length ss)) t s
  -- So a constant in 600 of them is taken,
  pub taken : (records : List CompiledLibrary) (place : Span) (level : ℕ) (ss : List (Option Span)) (word : Tree) (o : Option Span)
      (a : Atom) (s : State) → IsBegin s word → length ss ≤ most_round → is_nil_atom a ≡ false
      → expression records (outermost place level) (begun ss word (atom o a)) s ≡ Ok (quoted (strip (atom o a)), s)
  -- and any form in 601 of them is TooDeep.
  pub refused : (records : List CompiledLibrary) (place : Span) (level : ℕ) (ss : List (Option Span)) (word t : Tree) (s : State)
      → IsBegin s word → length ss ≡ most_round + 1
      → expression records (outermost place level) (begun ss word t) s ≡ fault_form kind.TooDeep t place s
