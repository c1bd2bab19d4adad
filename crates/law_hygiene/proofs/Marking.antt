-- Where the mark of a use goes under changes.
use Rattle.std.specs.Prelude.{◌≡◌, ◌≢◌, Bool, true, false, cond, List, [], ◌∷◌, Option, None, Some, drop, refl}
use Rattle.std.proofs.Common.{sym, ◌∙◌, ap, true≢false}
use Rattle.base_data.specs.declared.name.FrameNo.{FrameNo}
use Rattle.base_data.specs.declared.name.Mark.{Mark}
use Rattle.stx_tree.specs.Changes.{changed}
use Rattle.stx_tree.specs.Context.{LeafContext, entered, framed, unmarked, act, acts}
use Rattle.stx_tree.specs.Leaves.{context_of}
use Rattle.stx_tree.specs.Marks.{same_mark, is_first}
use Rattle.stx_tree.specs.SameMarks.{same_mark_decides}
use Rattle.stx_tree.specs.Tree.{Tree, atom, leaf, pair, vector}
use Rattle.stx_tree.specs.declared.change.Change.{Change}
use Rattle.stx_tree.specs.declared.change.Change.TheVariants.{Enter, Leave, Stamp}
use Rattle.stx_tree.proofs.ContextLaws.{marks-framed}
use Rattle.law_hygiene.specs.Marked.{has_mark, Lacks, SparesIn, Spares}

pub same_mark-self : (m : Mark) → same_mark m m ≡ true
same_mark-self m = (same_mark_decides m m).1 refl

pub same_mark-differs : (n m : Mark) → n ≢ m → same_mark n m ≡ false
same_mark-differs n m d = by (same_mark n m) refl
  where
    by : (b : Bool) → same_mark n m ≡ b → b ≡ false
    by true h = absurd (d ((same_mark_decides n m).0 h))
    by false h = refl

-- the newest mark is among them
pub has_first : (m : Mark) (ms : List Mark) → is_first m ms ≡ true → has_mark m ms ≡ true
has_first m [] h = h
has_first m (n ∷ ns) h = ap (λ b. cond b true (has_mark m ns)) h

pub has_entered : (m : Mark) (ms : List Mark) → has_mark m (m ∷ ms) ≡ true
has_entered m ms = has_first m (m ∷ ms) (same_mark-self m)

-- marks that lack m don't begin with it
pub lacks_first : (m : Mark) (ms : List Mark) → has_mark m ms ≡ false → is_first m ms ≡ false
lacks_first m ms h = by (is_first m ms) refl
  where
    by : (b : Bool) → is_first m ms ≡ b → b ≡ false
    by true e = absurd (true≢false (sym (has_first m ms e) ∙ h))
    by false e = refl

-- a mark more, that is another
pub has_more : (m n : Mark) (ms : List Mark) → n ≢ m → has_mark m (n ∷ ms) ≡ has_mark m ms
has_more m n ms d = ap (λ b. cond b true (has_mark m ms)) (same_mark-differs n m d)

-- the newest mark goes, which is another
pub has_fewer : (m n : Mark) (ms : List Mark) → n ≢ m → is_first n ms ≡ true → has_mark m (drop 1 ms) ≡ has_mark m ms
has_fewer m n [] d h = refl
has_fewer m n (k ∷ ks) d h = sym (has_more m k ks (λ e. d (sym ((same_mark_decides k n).0 h) ∙ e)))

-- a leaf that was not touched stays so
lacks_framed : (m : Mark) (f : Option FrameNo) (c : LeafContext) → Lacks m c → Lacks m (framed f c)
lacks_framed m None c h = h
lacks_framed m (Some f) c h = record { marks = h.marks; stamps = (h.marks, h.stamps) }

lacks_entered : (m n : Mark) (c : LeafContext) → n ≢ m → Lacks m c → Lacks m (entered n c)
lacks_entered m n c d h = record { marks = has_more m n c.marks d ∙ h.marks; stamps = h.stamps }

pub lacks_act : (m : Mark) (x : Change) (c : LeafContext) → SparesIn m x → Lacks m c → Lacks m (act x c)
lacks_act m (Enter n) c d h = lacks_entered m n c d h
lacks_act m (Leave n f) c d h = by (is_first n c.marks) refl
  where
    by : (b : Bool) → is_first n c.marks ≡ b → Lacks m (cond b (unmarked c) (framed f (entered n c)))
    by true e = record { marks = has_fewer m n c.marks d e ∙ h.marks; stamps = h.stamps }
    by false e = lacks_framed m f (entered n c) (lacks_entered m n c d h)
lacks_act m (Stamp f) c d h = record { marks = h.marks; stamps = (h.marks, h.stamps) }

pub lacks_acts : (m : Mark) (xs : List Change) (c : LeafContext) → Spares m xs → Lacks m c → Lacks m (acts xs c)
lacks_acts m [] c d h = h
lacks_acts m (x ∷ xs) c d h = lacks_acts m xs (act x c) d.1 (lacks_act m x c d.0 h)

-- a leaf that has the mark keeps it
pub has_act : (m : Mark) (x : Change) (c : LeafContext) → SparesIn m x → has_mark m (act x c).marks ≡ has_mark m c.marks
has_act m (Enter n) c d = has_more m n c.marks d
has_act m (Leave n f) c d = by (is_first n c.marks) refl
  where
    by : (b : Bool) → is_first n c.marks ≡ b → has_mark m (cond b (unmarked c) (framed f (entered n c))).marks ≡ has_mark m c.marks
    by true e = has_fewer m n c.marks d e
    by false e = ap (has_mark m) (marks-framed f (entered n c)) ∙ has_more m n c.marks d
has_act m (Stamp f) c d = refl

pub has_acts : (m : Mark) (xs : List Change) (c : LeafContext) → Spares m xs → has_mark m (acts xs c).marks ≡ has_mark m c.marks
has_acts m [] c d = refl
has_acts m (x ∷ xs) c d = has_acts m xs (act x c) d.1 ∙ has_act m x c d.0

pub lacks_changed : (m : Mark) (xs : List Change) (t : Tree) → Lacks m (context_of t) → Spares m xs → Lacks m (context_of (changed xs t))
lacks_changed m xs (atom s a) h d = h
lacks_changed m xs (leaf s x c) h d = lacks_acts m xs c d h
lacks_changed m xs (pair s a e) h d = h
lacks_changed m xs (vector s e) h d = h
