-- Trees that are entered, left and stamped, and rows of leaves.
use Rattle.std.proofs.Common.{◌≡◌, ◌≤◌, ◌<◌, ℕ, List, [], ◌∷◌, ◌++◌, map, Option, None, Some, Bool, true, false, Ok, Err, refl, subst, ltb-true, ltb-false, arith, if◌then◌else◌}
use Rattle.std.proofs.Math.Dec.{ltb}
use Rattle.base_data.proofs.ElementLemmas.{each-and}
use Rattle.base_data.specs.Elements.{Each}
use Rattle.base_data.specs.declared.library.LibName.{LibName}
use Rattle.base_data.specs.declared.name.FrameNo.{FrameNo}
use Rattle.base_data.specs.declared.name.Label.{Label}
use Rattle.base_data.specs.declared.name.Mark.{Mark}
use Rattle.stx_tree.specs.Changes.{enter, leave, stamp}
use Rattle.stx_tree.specs.Context.{LeafContext, blank, entered}
use Rattle.stx_tree.specs.Tree.{Tree, atom, leaf, pair, vector}
use Rattle.stx_frames.specs.Rows.{Row, second_binder}
use Rattle.stx_frames.specs.Scope.{Scope, same_frame, label_at, with_row, bound}
use Rattle.std.specs.Prelude.{is_some}
use Rattle.stx_scope.specs.Stands.{row_for}
use Rattle.law_fresh.specs.Leaves.{OptionHolds, TreeHolds}
use Rattle.law_fresh.specs.Below.{mark_named}
use Rattle.law_fresh.specs.Names.{FreshRises, temporary_context}
use Rattle.law_fresh.proofs.Trees.{OkHolds}
use Rattle.law_fresh_expansion.specs.Living.{InUse, Lives, RowsHold}

-- Rows.

pub with-row-holds : (K : Mark → Type 0) (fs : Scope) (f : FrameNo) (r : Row) → RowsHold K fs → Each K r.marks → RowsHold K (with_row fs f r)
with-row-holds K [] f r h k = ((k, tt), tt)
with-row-holds K (e ∷ es) f r h k = by_same (same_frame f e.0) (with-row-holds K es f r h.1 k)
  where
    by_same : (b : Bool) → RowsHold K (with_row es f r) → RowsHold K (if b then (e.0, e.1 ++ r ∷ []) ∷ es else e ∷ with_row es f r)
    by_same true j = (each-and (λ (r : Row). Each K r.marks) e.1 r h.0 k, h.1)
    by_same false j = (h.0, j)

pub bound-holds : (K : Mark → Type 0) (fs : Scope) (f : FrameNo) (r : Row) → RowsHold K fs → Each K r.marks → OkHolds (RowsHold K) (bound fs f r)
bound-holds K fs f r h k = by_there (is_some (label_at fs f r.symbol r.marks))
  where
    by_there : (b : Bool) → OkHolds (RowsHold K) (if b then Err (second_binder r.symbol) else Ok (with_row fs f r))
    by_there true = tt
    by_there false = with-row-holds K fs f r h k

module _ (own : LibName) (K : ℕ → Mark → Type 0) (J : ℕ → FrameNo → Type 0) (P : ℕ → LeafContext → Type 0) (lives : Lives own K J P) where
  pub rise : (m n : ℕ) → m ≤ n → (c : LeafContext) → P m c → P n c
  rise m n le c h = lives.rises.later m n c le h

  pub stamp-holds : (n : ℕ) (f : FrameNo) (t : Tree) → J n f → TreeHolds (P n) t → TreeHolds (P n) (stamp f t)
  stamp-holds n f (atom s a) j h = tt
  stamp-holds n f (leaf s y c) j h = lives.stamped n f c j h
  stamp-holds n f (pair s a d) j h = (stamp-holds n f a j h.0, stamp-holds n f d j h.1)
  stamp-holds n f (vector s d) j h = stamp-holds n f d j h

  pub stamps-hold : (n : ℕ) (f : FrameNo) (ts : List Tree) → J n f → Each (TreeHolds (P n)) ts → Each (TreeHolds (P n)) (map (stamp f) ts)
  stamps-hold n f [] j h = tt
  stamps-hold n f (t ∷ ts) j h = (stamp-holds n f t j h.0, stamps-hold n f ts j h.1)

  pub frame-up : (m n : ℕ) → m ≤ n → (o : Option FrameNo) → OptionHolds (J m) o → OptionHolds (J n) o
  frame-up m n le None h = tt
  frame-up m n le (Some f) h = lives.frames m n f le h

  -- the marks of the row of a leaf; what is no leaf has none
  pub row-marks : (n : ℕ) (t : Tree) (l : Label) → TreeHolds (P n) t → Each (K n) (row_for t l).marks
  row-marks n (atom s a) l h = tt
  row-marks n (leaf s x c) l h = lives.marks n c h
  row-marks n (pair s a d) l h = tt
  row-marks n (vector s d) l h = tt

  -- In a use with the mark of the name of number m.

  abbrev pub In : ℕ → ℕ → LeafContext → Type 0
  In m n c = InUse J P (mark_named own m) n c

  in-later : (m a b : ℕ) (c : LeafContext) → a ≤ b → In m a c → In m b c
  in-later m a b c le h = λ k low lt. h k (omega (arith, le, low)) lt

  temporary-in : (m a n : ℕ) → a < n → In m n (temporary_context own a)
  temporary-in m a n lt = by (ltb a m) refl (ltb m a) refl
    where
      -- it was there, it is the mark of the use itself, or it was taken in the use
      by : (b : Bool) → ltb a m ≡ b → (c : Bool) → ltb m a ≡ c → In m n (temporary_context own a)
      by true e c g = λ k low more. lives.there m (temporary_context own a) (lives.rises.temporary a m (omega arith) (ltb-true a m e)) k (omega (arith, more)) more
      by false e true g = λ k low more. lives.temporary m a (ltb-true m a g) k (omega (arith, lt, low)) more
      by false e false g = λ k low more.
          let p = ltb-false a m e in
          let q = ltb-false m a g in
          let same : m ≡ a = omega (arith, p, q) in
          subst (λ x. In m m (temporary_context own x)) same (lives.entered m blank (rise 0 m (omega arith) blank lives.read)) k (omega (arith, more)) more

  pub in-rises : (m : ℕ) → FreshRises own 0 (In m)
  in-rises m = record { later = in-later m; temporary = λ a n low lt. temporary-in m a n lt }

  -- what was there may be met in it, and what may be met in it may be met when it is left
  pub there-in : (m n : ℕ) → m ≤ n → (c : LeafContext) → P m c → In m n c
  there-in m n le c h = in-later m m n c le (lives.there m c h)

  pub out-of : (m n : ℕ) → m < n → (c : LeafContext) → In m n c → P n c
  out-of m n lt c h = (h n (omega arith) lt).0

  pub enter-holds : (m n : ℕ) (t : Tree) → m ≤ n → TreeHolds (P m) t → TreeHolds (In m n) (enter (mark_named own m) t)
  enter-holds m n (atom s a) le h = tt
  enter-holds m n (leaf s y c) le h = in-later m m n (entered (mark_named own m) c) le (lives.entered m c h)
  enter-holds m n (pair s a d) le h = (enter-holds m n a le h.0, enter-holds m n d le h.1)
  enter-holds m n (vector s d) le h = enter-holds m n d le h

  pub leave-holds : (m n : ℕ) (f : Option FrameNo) (t : Tree) → m < n → OptionHolds (J n) f → TreeHolds (In m n) t → TreeHolds (P n) (leave (mark_named own m) f t)
  leave-holds m n f (atom s a) lt j h = tt
  leave-holds m n f (leaf s y c) lt j h = (h n (omega arith) lt).1 f j
  leave-holds m n f (pair s a d) lt j h = (leave-holds m n f a lt j h.0, leave-holds m n f d lt j h.1)
  leave-holds m n f (vector s d) lt j h = leave-holds m n f d lt j h
