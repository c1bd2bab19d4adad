-- Marks that are known, and one that is not.
use Rattle.std.specs.Prelude.{◌≡◌, ◌≢◌, ℕ, Bool, true, false, cond, List, [], ◌∷◌, ◌++◌, Option, None, Some, drop, refl}
use Rattle.std.proofs.Common.{sym, ◌∙◌, ap, true≢false}
use Rattle.base_data.proofs.ElementLemmas.{each-append, each-first, each-last}
use Rattle.base_data.specs.Elements.{Each}
use Rattle.base_data.specs.declared.name.FrameNo.{FrameNo}
use Rattle.base_data.specs.declared.name.Label.{Label}
use Rattle.base_data.specs.declared.name.Mark.{Mark}
use Rattle.base_data.specs.declared.span.Span.{Span}
use Rattle.stx_tree.specs.Changes.{changed}
use Rattle.stx_tree.specs.Context.{LeafContext, entered, framed, unmarked, act, acts}
use Rattle.stx_tree.specs.Leaves.{contexts}
use Rattle.stx_tree.specs.Marks.{is_first}
use Rattle.stx_tree.specs.Tree.{Tree, atom, leaf, pair, vector}
use Rattle.stx_tree.specs.declared.change.Change.{Change}
use Rattle.stx_tree.specs.declared.change.Change.TheVariants.{Enter, Leave, Stamp}
use Rattle.stx_tree.specs.declared.stamp.Stamp as stamps
use Rattle.stx_frames.specs.Rows.{Row}
use Rattle.stx_frames.specs.Scope.{Scope, same_frame, with_row}
use Rattle.stx_scope.specs.Stands.{row_for}
use Rattle.law_hygiene.specs.Binder.{IsOfOther, IsNew}
use Rattle.law_hygiene.specs.Known.{IsKnown, HasKnown, AreKnown, AreKnownInRows, IsWithKnown}
use Rattle.law_hygiene.specs.Marked.{has_mark, StampedWithout, Lacks, SparesIn, Spares, Untouched}
use Rattle.law_hygiene.proofs.Marking.{same_mark-differs}

module _ (P : Mark → Bool) where
  module _ (m : Mark) (new : P m ≡ false) where
    differs : (n : Mark) → P n ≡ true → n ≢ m
    differs n k e = true≢false (sym k ∙ ap P e ∙ new)

    lacks_marks : (ms : List Mark) → Each (IsKnown P) ms → has_mark m ms ≡ false
    lacks_marks [] h = refl
    lacks_marks (n ∷ ns) h = ap (λ b. cond b true (has_mark m ns)) (same_mark-differs n m (differs n h.0)) ∙ lacks_marks ns h.1

    lacks_stamps : (ts : List stamps.Stamp) → Each (λ (t : stamps.Stamp). Each (IsKnown P) t.marks) ts → StampedWithout m ts
    lacks_stamps [] h = tt
    lacks_stamps (t ∷ ts) h = (lacks_marks t.marks h.0, lacks_stamps ts h.1)

    lacks_all : (cs : List LeafContext) → Each (HasKnown P) cs → Each (Lacks m) cs
    lacks_all [] h = tt
    lacks_all (c ∷ cs) h = (record { marks = lacks_marks c.marks h.0.marks; stamps = lacks_stamps c.stamps h.0.stamps }, lacks_all cs h.1)

    pub new_leaves : (t : Tree) → AreKnown P t → Untouched m t
    new_leaves t h = lacks_all (contexts t) h

    new_in : (rs : List Row) → Each (λ (r : Row). Each (IsKnown P) r.marks) rs → Each (IsOfOther m) rs
    new_in [] h = tt
    new_in (r ∷ rs) h = (lacks_marks r.marks h.0, new_in rs h.1)

    pub new_rows : (fs : Scope) → AreKnownInRows P fs → IsNew m fs
    new_rows [] h = tt
    new_rows (e ∷ es) h = (new_in e.1 h.0, new_rows es h.1)

    spares_in : (x : Change) → IsWithKnown P x → SparesIn m x
    spares_in (Enter n) h = differs n h
    spares_in (Leave n f) h = differs n h
    spares_in (Stamp f) h = tt

    pub new_changes : (xs : List Change) → Each (IsWithKnown P) xs → Spares m xs
    new_changes [] h = tt
    new_changes (x ∷ xs) h = (spares_in x h.0, new_changes xs h.1)

  known_framed : (f : Option FrameNo) (c : LeafContext) → HasKnown P c → HasKnown P (framed f c)
  known_framed None c h = h
  known_framed (Some f) c h = record { marks = h.marks; stamps = (h.marks, h.stamps) }

  known_fewer : (ms : List Mark) → Each (IsKnown P) ms → Each (IsKnown P) (drop 1 ms)
  known_fewer [] h = h
  known_fewer (n ∷ ns) h = h.1

  known_act : (x : Change) → IsWithKnown P x → (c : LeafContext) → HasKnown P c → HasKnown P (act x c)
  known_act (Enter n) k c h = record { marks = (k, h.marks); stamps = h.stamps }
  known_act (Leave n f) k c h = by (is_first n c.marks)
    where
      by : (b : Bool) → HasKnown P (cond b (unmarked c) (framed f (entered n c)))
      by true = record { marks = known_fewer c.marks h.marks; stamps = h.stamps }
      by false = known_framed f (entered n c) (record { marks = (k, h.marks); stamps = h.stamps })
  known_act (Stamp f) k c h = record { marks = h.marks; stamps = (h.marks, h.stamps) }

  known_acts : (xs : List Change) → Each (IsWithKnown P) xs → (c : LeafContext) → HasKnown P c → HasKnown P (acts xs c)
  known_acts [] k c h = h
  known_acts (x ∷ xs) k c h = known_acts xs k.1 (act x c) (known_act x k.0 c h)

  pub known_changed : (xs : List Change) → Each (IsWithKnown P) xs → (t : Tree) → AreKnown P t → AreKnown P (changed xs t)
  known_changed xs k (atom s a) h = tt
  known_changed xs k (leaf s x c) h = (known_acts xs k c h.0, tt)
  known_changed xs k (pair s a d) h =
      each-append (HasKnown P) (contexts (changed xs a)) (contexts (changed xs d)) (known_changed xs k a (each-first (HasKnown P) (contexts a) (contexts d) h))
      (known_changed xs k d (each-last (HasKnown P) (contexts a) (contexts d) h))
  known_changed xs k (vector s d) h = known_changed xs k d h

  known_row : (fs : Scope) (f : FrameNo) (r : Row) → AreKnownInRows P fs → Each (IsKnown P) r.marks → AreKnownInRows P (with_row fs f r)
  known_row [] f r h k = ((k, tt), tt)
  known_row (e ∷ es) f r h k = by (same_frame f e.0) (known_row es f r h.1 k)
    where
      by : (b : Bool) → AreKnownInRows P (with_row es f r) → AreKnownInRows P (cond b ((e.0, e.1 ++ r ∷ []) ∷ es) (e ∷ with_row es f r))
      by true n = (each-append (λ (q : Row). Each (IsKnown P) q.marks) e.1 (r ∷ []) h.0 (k, tt), h.1)
      by false n = (h.0, n)

  pub known_bound : (fs : Scope) (f : FrameNo) (s : Option Span) (x : List ℕ) (c : LeafContext) (l : Label) → AreKnownInRows P fs → HasKnown P c
      → AreKnownInRows P (with_row fs f (row_for (leaf s x c) l))
  known_bound fs f s x c l h k = known_row fs f (row_for (leaf s x c) l) h k.marks
