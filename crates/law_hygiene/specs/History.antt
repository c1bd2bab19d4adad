-- What happens to a leaf in a whole expansion, and what it tells of what captures it.
use Rattle.std.specs.Prelude.{◌≡◌, ℕ, List, [], ◌∷◌, ◌++◌, map, Option, IsFalse}
use Rattle.base_data.specs.declared.name.FrameNo.{FrameNo}
use Rattle.base_data.specs.declared.name.Label.{Label}
use Rattle.base_data.specs.declared.name.Mark.{Mark}
use Rattle.base_data.specs.declared.span.Span.{Span}
use Rattle.stx_tree.specs.Context.{LeafContext, acts}
use Rattle.stx_tree.specs.Tree.{leaf}
use Rattle.stx_tree.specs.declared.change.Change.{Change}
use Rattle.stx_tree.specs.declared.change.Change.TheVariants as change
use Rattle.stx_frames.specs.Scope.{Scope}
use Rattle.stx_scope.specs.Stands.{row_for}
use Rattle.law_hygiene.specs.Binder.{Captures}
use Rattle.law_hygiene.specs.Marked.{has_mark}

-- It comes into the scope of a frame, or a use introduces it. To go into a use and come out of it is nothing.
pub data Event : Type 0 where
  stamped : FrameNo → Event
  introduced : Mark → Option FrameNo → Event

abbrev pub change_of : Event → Change
change_of (stamped f) = change.Stamp f
change_of (introduced m f) = change.Leave m f

-- the marks of the uses that introduced a leaf, the newest first, behind those that it was made with
abbrev pub uses : List Event → List Mark → List Mark
uses [] ms = ms
uses (stamped f ∷ es) ms = uses es ms
uses (introduced m f ∷ es) ms = uses es (m ∷ ms)

-- no use introduces a leaf twice
abbrev pub IsOnce : List Event → List Mark → Type 0
IsOnce [] ms = Unit {0}
IsOnce (stamped f ∷ es) ms = IsOnce es ms
IsOnce (introduced m f ∷ es) ms = IsFalse (has_mark m ms) × IsOnce es (m ∷ ms)

-- a leaf as it is read, without marks, or as a temporary with its own, after these events
abbrev pub after : List Event → List Mark → LeafContext
after es ms = acts (map change_of es) (record { marks = ms; stamps = [] })

-- the events up to some moment
abbrev pub IsStart : List Event → List Event → Type 0
IsStart early es = (late : List Event) × (es ≡ early ++ late)

-- A binder captures a leaf only if, at some moment, just those uses had introduced the leaf that had introduced the binder: so
-- one that a use introduced captures only what the same use introduced, and what a use introduced is captured only by what
-- the same use introduced, or by what captures it without the use.
abbrev pub BySameUses : Type 0
BySameUses = (fs : Scope) (es bs : List Event) (ms ns : List Mark) (s r : Option Span) (x y : List ℕ) (l : Label) → IsOnce es ms → IsOnce bs ns →
    Captures fs (row_for (leaf r y (after bs ns)) l) (leaf s x (after es ms))
    → (y ≡ x) × ((early : List Event) × IsStart early es × (uses early ms ≡ uses bs ns))
