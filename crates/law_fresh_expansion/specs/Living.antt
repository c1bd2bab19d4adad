-- What may be met on the leaves of an expansion.
use Rattle.std.specs.Prelude.{◌≤◌, ◌<◌, ℕ, suc, [], ◌∷◌, Option}
use Rattle.base_data.specs.Elements.{Each}
use Rattle.base_data.specs.declared.library.LibName.{LibName}
use Rattle.base_data.specs.declared.name.FrameNo.{FrameNo}
use Rattle.base_data.specs.declared.name.Mark.{Mark}
use Rattle.stx_tree.specs.Context as context
use Rattle.stx_tree.specs.Context.{LeafContext, blank}
use Rattle.stx_tree.specs.declared.change.Change.{Change}
use Rattle.stx_tree.specs.declared.change.Change.TheVariants as change
use Rattle.core_records.specs.Introduced.{core_frame}
use Rattle.core_quasi.specs.QuasiSyntax.{core_mark}
use Rattle.law_fresh.specs.Leaves.{OptionHolds}
use Rattle.law_fresh.specs.Below.{mark_named}
use Rattle.law_fresh.specs.Names.{FreshRises, temporary_context}
pub use Rattle.law_invariants.specs.Stages.{RowsHold}

-- a change with such a mark and such a frame
abbrev pub IsChangeOf : (Mark → Type 0) → (FrameNo → Type 0) → Change → Type 0
IsChangeOf K J (change.Enter m) = K m
IsChangeOf K J (change.Leave m f) = K m × OptionHolds J f
IsChangeOf K J (change.Stamp f) = J f

-- What may be met while the transformer of the use with this mark runs: it may be met later, and so may what it becomes when the output is left with
-- the mark.
abbrev pub InUse : (ℕ → FrameNo → Type 0) → (ℕ → LeafContext → Type 0) → Mark → ℕ → LeafContext → Type 0
InUse J P m n c = (k : ℕ) → n ≤ k → m.0.number < k → P k c × ((f : Option FrameNo) → OptionHolds (J k) f → P k (context.left m f c))

-- K says which marks may be met before the name of this number is taken, J so of frames, and P of what is on leaves: what could be met before, the
-- marks and frames of names that were taken, leaves as they are read, those of the implementation, and what these become by stamps and by uses.
pub record Lives (own : LibName) (K : ℕ → Mark → Type 0) (J : ℕ → FrameNo → Type 0) (P : ℕ → LeafContext → Type 0) : Type 0 where
  pub rises : FreshRises own 0 P
  pub known : (m n : ℕ) (x : Mark) → m ≤ n → K m x → K n x
  pub taken : (m n : ℕ) → m < n → K n (mark_named own m)
  pub frames : (m n : ℕ) (f : FrameNo) → m ≤ n → J m f → J n f
  pub made : (m n : ℕ) → m < n → J n (record { 0 = record { library = own; number = m } })
  pub introduced : J 0 core_frame
  pub stamped : (n : ℕ) (f : FrameNo) (c : LeafContext) → J n f → P n c → P n (context.stamped f c)
  -- in a use there are leaves that were there, those that come in, which are entered with its mark, and temporaries of its transformer
  pub there : (m : ℕ) (c : LeafContext) → P m c → InUse J P (mark_named own m) m c
  pub entered : (m : ℕ) (c : LeafContext) → P m c → InUse J P (mark_named own m) m (context.entered (mark_named own m) c)
  pub temporary : (m n : ℕ) → m < n → InUse J P (mark_named own m) (suc n) (temporary_context own n)
  pub read : P 0 blank
  pub core : (k : ℕ) → P 0 (record { marks = core_mark k ∷ []; stamps = [] })
  pub marks : (n : ℕ) (c : LeafContext) → P n c → Each (K n) c.marks
