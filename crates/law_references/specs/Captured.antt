-- What the history of a leaf tells of the binder that captures it: the two sentences of hygiene (Dybvig, Hieb and Bruggeman 1992).
use Rattle.std.specs.Prelude.{◌≡◌, ◌⊎◌, ℕ, List, ◌∷◌, ◌++◌, Option}
use Rattle.base_data.specs.Elements.{Among}
use Rattle.base_data.specs.declared.library.LibName.{LibName}
use Rattle.base_data.specs.declared.name.FrameNo.{FrameNo}
use Rattle.base_data.specs.declared.name.Mark.{Mark}
use Rattle.base_data.specs.declared.span.Span.{Span}
use Rattle.stx_tree.specs.Context.{LeafContext}
use Rattle.stx_tree.specs.Tree.{leaf}
use Rattle.stx_frames.specs.Rows.{Row}
use Rattle.stx_frames.specs.Scope.{Scope}
use Rattle.law_hygiene.specs.Binder.{Captures, IsOfUse}
use Rattle.law_hygiene.specs.History.{Event, introduced, after}
use Rattle.law_fresh_expansion.specs.Events.{HasKnownEvents}

-- one of these events was that the use of m introduced the leaf
abbrev pub IsIntroducedBy : Mark → List Event → Type 0
IsIntroducedBy m es = (f : Option FrameNo) × Among es (introduced m f)

module _ (fs : Scope) (r : Row) where
  -- A leaf that was made with these marks, after these events, and the row of the binder that captures it.
  pub record IsHygienicReference (s : Option Span) (x : List ℕ) (ms : List Mark) (es : List Event) : Type 0 where
    -- A binder that a use introduced captures the leaf only if the same use introduced the leaf, or this was made with the mark, as a temporary is.
    pub binder : (m : Mark) → IsOfUse m r → Among ms m ⊎ IsIntroducedBy m es
    -- Where a use introduced the leaf, the binder is one that the same use introduced, or it captures the leaf as this stood in the template before.
    pub reference : (m : Mark) (f : Option FrameNo) (early late : List Event) → es ≡ early ++ introduced m f ∷ late
        → IsOfUse m r ⊎ Captures fs r (leaf s x (after early ms))

-- Each leaf that an expansion comes to has such a history, and is captured so, whatever frames there are.
abbrev pub CapturesAreHygienic : Type 0
CapturesAreHygienic = (libs : List LibName) (own : LibName) (n : ℕ) (s : Option Span) (x : List ℕ) (c : LeafContext)
    (h : HasKnownEvents libs own n c) (fs : Scope) (r : Row)
    → Captures fs r (leaf s x c) → IsHygienicReference fs r s x h.marks h.events
