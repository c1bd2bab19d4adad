-- What a use makes of the leaves that come in and of those that it introduces.
use Rattle.std.specs.Prelude.{◌≡◌, ◌≢◌, nat_eq, ℕ, Bool, true, false, cond, List, [], ◌∷◌, ◌++◌, map, option_map, Option, None, Some, IsSomeAnd, drop, refl}
use Rattle.std.proofs.Common.{sym, ◌∙◌, ap, subst, true≢false, inl, inr}
use Rattle.std.proofs.lemmas.List.{map-append}
use Rattle.std.specs.Cmp.{second_so}
use Rattle.std.specs.Cmp.Lexicographic.{pointwise}
use Rattle.base_data.proofs.ElementLemmas.{each-append, each-first, each-last}
use Rattle.base_data.specs.Datum.{PlainDatum}
use Rattle.base_data.specs.Datum as datum
use Rattle.base_data.specs.Elements.{Each}
use Rattle.base_data.specs.declared.name.FrameNo.{FrameNo}
use Rattle.base_data.specs.declared.name.Label.{Label}
use Rattle.base_data.specs.declared.name.Mark.{Mark}
use Rattle.base_data.specs.declared.span.Span.{Span}
use Rattle.stx_tree.specs.Changes.{changed, enter, leave, stamp}
use Rattle.stx_tree.specs.Context.{LeafContext, blank, entered, framed, unmarked, left, act, acts}
use Rattle.stx_tree.specs.Leaves.{contexts, context_of, marks_of, stamps_of, tree_of, datum_like}
use Rattle.stx_tree.specs.Marks.{is_first}
use Rattle.stx_tree.specs.SameMarks.{same_mark_decides, same_marks, same_marks_decides}
use Rattle.stx_tree.specs.Tree.{Tree, atom, leaf, pair, vector}
use Rattle.stx_tree.specs.declared.change.Change.{Change}
use Rattle.stx_tree.specs.declared.change.Change.TheVariants.{Enter, Leave, Stamp}
use Rattle.stx_tree.proofs.ContextLaws.{marks-framed}
use Rattle.stx_frames.specs.Rows.{Row}
use Rattle.stx_frames.specs.Scope.{Scope, rows_at, or_else, label_by, with_row}
use Rattle.stx_scope.specs.Same.{same_binder}
use Rattle.stx_scope.specs.Stands.{symbol_of, stands, row_for}
use Rattle.law_hygiene.specs.Binder.{row_in, row_by, binder_of, Captures, IsOfUse, IsOfOther, NoneBeginsWith, IntroducesNoneIn, without, IsNew}
use Rattle.law_hygiene.specs.Hygiene.{IsOwnOr, IsBroughtIn, IsHygienic}
use Rattle.law_hygiene.specs.Marked.{has_mark, StampedWithout, Lacks, CameIn, IsIntroduced, before, SparesIn, Spares, leaves, Untouched, IsOutput}
use Rattle.law_hygiene.specs.Parts.{PathTurn, first, rest, inside, at, then_by, part}
use Rattle.law_hygiene.proofs.Marking.{same_mark-self, has_entered, lacks_first, has_more, has_act, has_acts, lacks_acts, lacks_changed}
use Rattle.law_hygiene.proofs.Rowing.{label_by-row, row_by_other, row_by_new, row_by_more, row_by-free, row_in-failed, row_by-with_row, label_at-none, label_by-without}

-- a leave without the mark first
pub left_introduced : (m : Mark) (f : Option FrameNo) (c : LeafContext) → is_first m c.marks ≡ false → left m f c ≡ framed f (entered m c)
left_introduced m f c h = ap (λ b. cond b (unmarked c) (framed f (entered m c))) h

-- and with it
pub left_came_in : (m : Mark) (f : Option FrameNo) (c : LeafContext) → is_first m c.marks ≡ true → left m f c ≡ unmarked c
left_came_in m f c h = ap (λ b. cond b (unmarked c) (framed f (entered m c))) h

pub marks_introduced : (m : Mark) (f : Option FrameNo) (c : LeafContext) → is_first m c.marks ≡ false → (left m f c).marks ≡ m ∷ c.marks
marks_introduced m f c h = ap (λ (d : LeafContext). d.marks) (left_introduced m f c h) ∙ marks-framed f (entered m c)

-- a part of what was changed is a part that was changed
at-changed : (xs : List Change) (x : PathTurn) (t : Tree) → at x (changed xs t) ≡ option_map (changed xs) (at x t)
at-changed xs first (atom s a) = refl
at-changed xs first (leaf s y c) = refl
at-changed xs first (pair s a d) = refl
at-changed xs first (vector s d) = refl
at-changed xs rest (atom s a) = refl
at-changed xs rest (leaf s y c) = refl
at-changed xs rest (pair s a d) = refl
at-changed xs rest (vector s d) = refl
at-changed xs inside (atom s a) = refl
at-changed xs inside (leaf s y c) = refl
at-changed xs inside (pair s a d) = refl
at-changed xs inside (vector s d) = refl

pub part-changed : (xs : List Change) (p : List PathTurn) (t : Tree) → part p (changed xs t) ≡ option_map (changed xs) (part p t)
part-changed xs [] t = refl
part-changed xs (x ∷ p) t = ap (then_by (part p)) (at-changed xs x t) ∙ by (at x t) (part-changed xs p)
  where
    by : (o : Option Tree) → ((u : Tree) → part p (changed xs u) ≡ option_map (changed xs) (part p u))
        → then_by (part p) (option_map (changed xs) o) ≡ option_map (changed xs) (then_by (part p) o)
    by None k = refl
    by (Some u) k = k u

pub leaves-changed : (xs : List Change) (t : Tree) → leaves (changed xs t) ≡ map (changed xs) (leaves t)
leaves-changed xs (atom s a) = refl
leaves-changed xs (leaf s x c) = refl
leaves-changed xs (pair s a d) =
    (λ i. leaves-changed xs a i ++ leaves-changed xs d i) ∙ sym (map-append (changed xs) (leaves a) (leaves d))
leaves-changed xs (vector s d) = leaves-changed xs d

-- a leaf that came in is that leaf entered
pub entered_left : (m : Mark) (f : Option FrameNo) (c : LeafContext) → is_first m c.marks ≡ true → entered m (left m f c) ≡ c
entered_left m f c h = ap (entered m) (left_came_in m f c h) ∙ ap (λ ms. let x : LeafContext = record { marks = ms; stamps = c.stamps } in x) (by c.marks h)
  where
    by : (ms : List Mark) → is_first m ms ≡ true → m ∷ drop 1 ms ≡ ms
    by [] e = absurd (true≢false (sym e))
    by (n ∷ ns) e = ap (λ k. k ∷ ns) (sym ((same_mark_decides n m).0 e))

pub leaf_itself : (m : Mark) (f : Option FrameNo) (l : Tree) → CameIn m (context_of l) → enter m (leave m f l) ≡ l
leaf_itself m f (atom s a) h = refl
leaf_itself m f (leaf s x c) h = ap (leaf s x) (entered_left m f c h)
leaf_itself m f (pair s a d) h = absurd (true≢false (sym h))
leaf_itself m f (vector s d) h = absurd (true≢false (sym h))

pub binder_of-label : (fs : Scope) (t : Tree) → stands fs t ≡ option_map (λ (r : Row). r.label) (binder_of fs t)
binder_of-label fs t = label_by-row fs (symbol_of t) (stamps_of t)

pub binder_of-left : (fs : Scope) (m : Mark) (t : Tree) → binder_of fs (leave m None t) ≡ binder_of fs t
binder_of-left fs m (atom s a) = refl
binder_of-left fs m (leaf s x c) = by (is_first m c.marks)
  where
    by : (b : Bool) → row_by fs x (cond b (unmarked c) (entered m c)).stamps ≡ row_by fs x c.stamps
    by true = refl
    by false = refl
binder_of-left fs m (pair s a d) = refl
binder_of-left fs m (vector s d) = refl

pub binder_of-entered : (fs : Scope) (m : Mark) (t : Tree) → binder_of fs (enter m t) ≡ binder_of fs t
binder_of-entered fs m (atom s a) = refl
binder_of-entered fs m (leaf s x c) = refl
binder_of-entered fs m (pair s a d) = refl
binder_of-entered fs m (vector s d) = refl

pub binder_of-left_in_a_body : (fs : Scope) (m : Mark) (f : FrameNo) (s : Option Span) (x : List ℕ) (c : LeafContext) → IsIntroduced m c
    → binder_of fs (leave m (Some f) (leaf s x c)) ≡ or_else (row_in (rows_at f fs) x (m ∷ c.marks)) (binder_of fs (leaf s x c))
binder_of-left_in_a_body fs m f s x c h = ap (λ (d : LeafContext). row_by fs x d.stamps) (left_introduced m (Some f) c h)

own_then : (m : Mark) (o p q : Option Row) → IsOwnOr m o p → IsOwnOr m p q → IsOwnOr m o q
own_then m o p q (inl a) h = inl a
own_then m o p q (inr e) (inl b) = inl (subst (λ x. IsSomeAnd x (IsOfUse m)) (sym e) b)
own_then m o p q (inr e) (inr f) = inr (e ∙ f)

-- of the frames that are stamped on a leaf with the mark
own_framed : (m : Mark) (fs : Scope) (x : List ℕ) (f : Option FrameNo) (c : LeafContext) → has_mark m c.marks ≡ true
    → IsOwnOr m (row_by fs x (framed f c).stamps) (row_by fs x c.stamps)
own_framed m fs x None c h = inr refl
own_framed m fs x (Some f) c h = row_by_more m fs f x c.marks h (row_by fs x c.stamps)

own_act : (m : Mark) (fs : Scope) (x : List ℕ) (y : Change) (c : LeafContext) → SparesIn m y → has_mark m c.marks ≡ true
    → IsOwnOr m (row_by fs x (act y c).stamps) (row_by fs x c.stamps)
own_act m fs x (Enter n) c d h = inr refl
own_act m fs x (Leave n f) c d h = by (is_first n c.marks)
  where
    by : (b : Bool) → IsOwnOr m (row_by fs x (cond b (unmarked c) (framed f (entered n c))).stamps) (row_by fs x c.stamps)
    by true = inr refl
    by false = own_framed m fs x f (entered n c) (has_more m n c.marks d ∙ h)
own_act m fs x (Stamp f) c d h = own_framed m fs x (Some f) c h

own_acts : (m : Mark) (fs : Scope) (x : List ℕ) (ys : List Change) (c : LeafContext) → Spares m ys → has_mark m c.marks ≡ true
    → IsOwnOr m (row_by fs x (acts ys c).stamps) (row_by fs x c.stamps)
own_acts m fs x [] c d h = inr refl
own_acts m fs x (y ∷ ys) c d h =
    own_then m (row_by fs x (acts ys (act y c)).stamps) (row_by fs x (act y c).stamps) (row_by fs x c.stamps)
    (own_acts m fs x ys (act y c) d.1 (has_act m y c d.0 ∙ h)) (own_act m fs x y c d.0 h)

-- an introduced leaf has the mark when it was left
has_left : (m : Mark) (f : Option FrameNo) (c : LeafContext) → IsIntroduced m c → has_mark m (left m f c).marks ≡ true
has_left m f c h = ap (has_mark m) (marks_introduced m f c h) ∙ has_entered m c.marks

pub brought_in : (m : Mark) (f : Option FrameNo) (t : Tree) → IsIntroduced m (context_of t) → IsBroughtIn m f t
brought_in m f (atom s a) h xs d fs = inr refl
brought_in m f (leaf s x c) h xs d fs =
    own_then m (row_by fs x (acts xs (left m f c)).stamps) (row_by fs x (left m f c).stamps) (row_by fs x c.stamps)
    (own_acts m fs x xs (left m f c) d (has_left m f c h))
    (subst (λ (e : LeafContext). IsOwnOr m (row_by fs x e.stamps) (row_by fs x c.stamps)) (sym (left_introduced m f c h)) (own_framed m fs x f (entered m c) (has_entered m c.marks)))
brought_in m f (pair s a e) h xs d fs = inr refl
brought_in m f (vector s e) h xs d fs = inr refl

-- where the use introduced no binder of the symbol into them
free-framed : (m : Mark) (fs : Scope) (x : List ℕ) (n : Mark) (f : Option FrameNo) (c : LeafContext) → has_mark m c.marks ≡ true → IntroducesNoneIn m fs x (Leave n f)
    → row_by fs x (framed f c).stamps ≡ row_by fs x c.stamps
free-framed m fs x n None c h k = refl
free-framed m fs x n (Some f) c h k = row_by-free m fs f x c.marks h k (row_by fs x c.stamps)

free-act : (m : Mark) (fs : Scope) (x : List ℕ) (y : Change) (c : LeafContext) → SparesIn m y → has_mark m c.marks ≡ true → IntroducesNoneIn m fs x y
    → row_by fs x (act y c).stamps ≡ row_by fs x c.stamps
free-act m fs x (Enter n) c d h k = refl
free-act m fs x (Leave n f) c d h k = by (is_first n c.marks)
  where
    by : (b : Bool) → row_by fs x (cond b (unmarked c) (framed f (entered n c))).stamps ≡ row_by fs x c.stamps
    by true = refl
    by false = free-framed m fs x n f (entered n c) (has_more m n c.marks d ∙ h) k
free-act m fs x (Stamp f) c d h k = free-framed m fs x m (Some f) c h k

free-acts : (m : Mark) (fs : Scope) (x : List ℕ) (ys : List Change) (c : LeafContext) → Spares m ys → has_mark m c.marks ≡ true → Each (IntroducesNoneIn m fs x) ys
    → row_by fs x (acts ys c).stamps ≡ row_by fs x c.stamps
free-acts m fs x [] c d h k = refl
free-acts m fs x (y ∷ ys) c d h k = free-acts m fs x ys (act y c) d.1 (has_act m y c d.0 ∙ h) k.1 ∙ free-act m fs x y c d.0 h k.0

pub as_before : (m : Mark) (f : Option FrameNo) (xs : List Change) (t : Tree) → IsIntroduced m (context_of t) → Spares m xs → (fs : Scope)
    → IntroducesNoneIn m fs (symbol_of t) (Leave m f) → Each (IntroducesNoneIn m fs (symbol_of t)) xs → binder_of fs (changed xs (leave m f t)) ≡ binder_of fs t
as_before m f xs (atom s a) h d fs k n = refl
as_before m f xs (leaf s x c) h d fs k n =
    free-acts m fs x xs (left m f c) d (has_left m f c h) n ∙ ap (λ (e : LeafContext). row_by fs x e.stamps) (left_introduced m f c h)
    ∙ free-framed m fs x m f (entered m c) (has_entered m c.marks) k
as_before m f xs (pair s a e) h d fs k n = refl
as_before m f xs (vector s e) h d fs k n = refl

pub in_one_frame : (m : Mark) (g : FrameNo) (t : Tree) → IsIntroduced m (context_of t) → (fs : Scope) → NoneBeginsWith m fs (symbol_of t) g
    → binder_of fs (stamp g (leave m None t)) ≡ binder_of fs t
in_one_frame m g (atom s a) h fs n = refl
in_one_frame m g (leaf s x c) h fs n =
    let newest : is_first m (left m None c).marks ≡ true = ap (is_first m) (marks_introduced m None c h) ∙ same_mark-self m in
    ap (λ o. or_else o (row_by fs x (left m None c).stamps)) (row_in-failed (is_first m) x (left m None c).marks newest (rows_at g fs) n)
    ∙ binder_of-left fs m (leaf s x c)
in_one_frame m g (pair s a e) h fs n = refl
in_one_frame m g (vector s e) h fs n = refl

pub by_others : (m : Mark) (t : Tree) → StampedWithout m (stamps_of t) → (fs : Scope) (r : Row) → Captures fs r t → IsOfOther m r
by_others m t h fs r e = row_by_other m fs (symbol_of t) (stamps_of t) h r e

pub one_more : (m : Mark) (t : Tree) → StampedWithout m (stamps_of t) → (fs : Scope) (f : FrameNo) (r : Row) → IsOfUse m r → binder_of (with_row fs f r) t ≡ binder_of fs t
one_more m t h fs f r k = row_by-with_row m fs f r k (symbol_of t) (stamps_of t) h

pub row_introduced : (m : Mark) (f : Option FrameNo) (xs : List Change) (s : Option Span) (x : List ℕ) (c : LeafContext) (l : Label) → IsIntroduced m c → Spares m xs
    → IsOfUse m (row_for (changed xs (leave m f (leaf s x c))) l)
row_introduced m f xs s x c l h d = has_acts m xs (left m f c) d ∙ has_left m f c h

pub none_before : (m : Mark) (fs : Scope) → IsNew m fs → (t : Tree) (r : Row) → Captures fs r t → IsOfOther m r
none_before m fs h t r e = row_by_new m fs h (symbol_of t) (stamps_of t) r e

-- an introduced leaf is no binder that lacks the mark
pub apart_binders : (m : Mark) (f : Option FrameNo) (s : Option Span) (x : List ℕ) (c : LeafContext) (t : Tree) → IsIntroduced m c → Lacks m (context_of t)
    → same_binder (leave m f (leaf s x c)) t ≡ false
apart_binders m f s x c t h k = by (same_binder (leave m f (leaf s x c)) t) refl
  where
    by : (b : Bool) → same_binder (leave m f (leaf s x c)) t ≡ b → b ≡ false
    by true e =
        let same = (same_marks_decides (left m f c).marks (marks_of t)).0 (second_so (pointwise nat_eq x (symbol_of t)) (same_marks (left m f c).marks (marks_of t)) e) in
        absurd (true≢false (sym (has_left m f c h) ∙ ap (has_mark m) same ∙ k.marks))
    by false e = refl

-- without the binders of the use, frames that are stamped on a leaf with the mark give nothing
label_by-framed : (m : Mark) (fs : Scope) (x : List ℕ) (f : Option FrameNo) (c : LeafContext) → has_mark m c.marks ≡ true
    → label_by (without m fs) x (framed f c).stamps ≡ label_by (without m fs) x c.stamps
label_by-framed m fs x None c h = refl
label_by-framed m fs x (Some f) c h = ap (λ o. or_else o (label_by (without m fs) x c.stamps)) (label_at-none m fs f x c.marks h)

label_by-act : (m : Mark) (fs : Scope) (x : List ℕ) (y : Change) (c : LeafContext) → SparesIn m y → has_mark m c.marks ≡ true
    → label_by (without m fs) x (act y c).stamps ≡ label_by (without m fs) x c.stamps
label_by-act m fs x (Enter n) c d h = refl
label_by-act m fs x (Leave n f) c d h = by (is_first n c.marks)
  where
    by : (b : Bool) → label_by (without m fs) x (cond b (unmarked c) (framed f (entered n c))).stamps ≡ label_by (without m fs) x c.stamps
    by true = refl
    by false = label_by-framed m fs x f (entered n c) (has_more m n c.marks d ∙ h)
label_by-act m fs x (Stamp f) c d h = label_by-framed m fs x (Some f) c h

label_by-acts : (m : Mark) (fs : Scope) (x : List ℕ) (ys : List Change) (c : LeafContext) → Spares m ys → has_mark m c.marks ≡ true
    → label_by (without m fs) x (acts ys c).stamps ≡ label_by (without m fs) x c.stamps
label_by-acts m fs x [] c d h = refl
label_by-acts m fs x (y ∷ ys) c d h = label_by-acts m fs x ys (act y c) d.1 (has_act m y c d.0 ∙ h) ∙ label_by-act m fs x y c d.0 h

label_by-left : (m : Mark) (f : Option FrameNo) (x : List ℕ) (c : LeafContext) → IsIntroduced m c → (fs : Scope)
    → label_by (without m fs) x (left m f c).stamps ≡ label_by (without m fs) x c.stamps
label_by-left m f x c h fs =
    ap (λ (e : LeafContext). label_by (without m fs) x e.stamps) (left_introduced m f c h) ∙ label_by-framed m fs x f (entered m c) (has_entered m c.marks)

pub taken_out : (m : Mark) (f : Option FrameNo) (xs : List Change) (t : Tree) → IsIntroduced m (context_of t) → StampedWithout m (stamps_of t) → Spares m xs → (fs : Scope)
    → stands (without m fs) (changed xs (leave m f t)) ≡ stands fs t
taken_out m f xs (atom s a) h k d fs = refl
taken_out m f xs (leaf s x c) h k d fs =
    label_by-acts m fs x xs (left m f c) d (has_left m f c h) ∙ label_by-left m f x c h fs ∙ label_by-without m fs x c.stamps k
taken_out m f xs (pair s a e) h k d fs = refl
taken_out m f xs (vector s e) h k d fs = refl

pub untouched : (m : Mark) (t : Tree) → StampedWithout m (stamps_of t) → (fs : Scope) → stands (without m fs) t ≡ stands fs t
untouched m t h fs = label_by-without m fs (symbol_of t) (stamps_of t) h

label_by-out : (m : Mark) (f : Option FrameNo) (x : List ℕ) (c : LeafContext) → StampedWithout m c.stamps → (fs : Scope)
    → label_by (without m fs) x (left m f c).stamps ≡ label_by fs x c.stamps
label_by-out m f x c k fs = by (is_first m c.marks) refl
  where
    by : (b : Bool) → is_first m c.marks ≡ b → label_by (without m fs) x (left m f c).stamps ≡ label_by fs x c.stamps
    by true e = ap (λ (d : LeafContext). label_by (without m fs) x d.stamps) (left_came_in m f c e) ∙ label_by-without m fs x c.stamps k
    by false e = label_by-left m f x c e fs ∙ label_by-without m fs x c.stamps k

pub all_out : (m : Mark) (f : Option FrameNo) (o : Tree) → Each (λ (c : LeafContext). StampedWithout m c.stamps) (contexts o) → (fs : Scope)
    → map (stands (without m fs)) (leaves (leave m f o)) ≡ map (stands fs) (leaves o)
all_out m f (atom s a) h fs = refl
all_out m f (leaf s x c) h fs = ap (λ l. l ∷ []) (label_by-out m f x c h.0 fs)
all_out m f (pair s a d) h fs =
    map-append (stands (without m fs)) (leaves (leave m f a)) (leaves (leave m f d))
    ∙ (λ i. all_out m f a (each-first (λ (c : LeafContext). StampedWithout m c.stamps) (contexts a) (contexts d) h) fs i
    ++ all_out m f d (each-last (λ (c : LeafContext). StampedWithout m c.stamps) (contexts a) (contexts d) h) fs i)
    ∙ sym (map-append (stands fs) (leaves a) (leaves d))
all_out m f (vector s d) h fs = all_out m f d h fs

-- a leaf of an output
hygienic : (m : Mark) (f : Option FrameNo) (s : Option Span) (x : List ℕ) (c : LeafContext) → Lacks m (before m c) → IsHygienic m f (leaf s x c)
hygienic m f s x c k = record {
  came_in = λ h.
      let same : left m f c ≡ before m c = left_came_in m f c h ∙ sym (ap (λ b. cond b (unmarked c) c) h) in
      let lacks : Lacks m (left m f c) = subst (Lacks m) (sym same) k in
      record {
        itself = same;
        by_others = λ xs d fs r e. row_by_other m fs x (acts xs (left m f c)).stamps (lacks_acts m xs (left m f c) d lacks).stamps r e;
      };
  introduced = λ h. brought_in m f (leaf s x c) h;
}

pub each_hygienic : (m : Mark) (f : Option FrameNo) (o : Tree) → IsOutput m o → Each (IsHygienic m f) (leaves o)
each_hygienic m f (atom s a) h = tt
each_hygienic m f (leaf s x c) h = (hygienic m f s x c h.0, tt)
each_hygienic m f (pair s a d) h =
    each-append (IsHygienic m f) (leaves a) (leaves d) (each_hygienic m f a (each-first (λ c. Lacks m (before m c)) (contexts a) (contexts d) h))
    (each_hygienic m f d (each-last (λ c. Lacks m (before m c)) (contexts a) (contexts d) h))
each_hygienic m f (vector s d) h = each_hygienic m f d h

-- no binder of the use captures a leaf round it
lacks_surround : (m : Mark) (fs : Scope) (r : Row) (t : Tree) → Untouched m t → Each (λ l. Captures fs r l → IsOfOther m r) (leaves t)
lacks_surround m fs r (atom s a) h = tt
lacks_surround m fs r (leaf s x c) h = (λ e. row_by_other m fs x c.stamps h.0.stamps r e, tt)
lacks_surround m fs r (pair s a d) h =
    each-append (λ l. Captures fs r l → IsOfOther m r) (leaves a) (leaves d) (lacks_surround m fs r a (each-first (Lacks m) (contexts a) (contexts d) h))
    (lacks_surround m fs r d (each-last (Lacks m) (contexts a) (contexts d) h))
lacks_surround m fs r (vector s d) h = lacks_surround m fs r d h

pub untouched_changed : (m : Mark) (xs : List Change) (t : Tree) → Untouched m t → Spares m xs → Untouched m (changed xs t)
untouched_changed m xs (atom s a) h d = tt
untouched_changed m xs (leaf s x c) h d = (lacks_acts m xs c d h.0, tt)
untouched_changed m xs (pair s a e) h d =
    each-append (Lacks m) (contexts (changed xs a)) (contexts (changed xs e)) (untouched_changed m xs a (each-first (Lacks m) (contexts a) (contexts e) h) d)
    (untouched_changed m xs e (each-last (Lacks m) (contexts a) (contexts e) h) d)
untouched_changed m xs (vector s e) h d = untouched_changed m xs e h d

pub surroundings : (m : Mark) (xs : List Change) (t : Tree) → Untouched m t → Spares m xs → (fs : Scope) (r : Row) → Each (λ l. Captures fs r l → IsOfOther m r) (leaves (changed xs t))
surroundings m xs t h d fs r = lacks_surround m fs r (changed xs t) (untouched_changed m xs t h d)

-- what is an output
before_entered : (m : Mark) (c : LeafContext) → before m (entered m c) ≡ c
before_entered m c = ap (λ b. cond b c (entered m c)) (same_mark-self m)

before_lacking : (m : Mark) (c : LeafContext) → Lacks m c → Lacks m (before m c)
before_lacking m c h = subst (λ b. Lacks m (cond b (unmarked c) c)) (sym (lacks_first m c.marks h.marks)) h

pub input_is : (m : Mark) (t : Tree) → Untouched m t → IsOutput m (enter m t)
input_is m (atom s a) h = tt
input_is m (leaf s x c) h = (subst (Lacks m) (sym (before_entered m c)) h.0, tt)
input_is m (pair s a d) h =
    each-append (λ c. Lacks m (before m c)) (contexts (enter m a)) (contexts (enter m d)) (input_is m a (each-first (Lacks m) (contexts a) (contexts d) h))
    (input_is m d (each-last (Lacks m) (contexts a) (contexts d) h))
input_is m (vector s d) h = input_is m d h

constants_are : (m : Mark) (cs : List LeafContext) → Each (Lacks m) cs → Each (λ c. Lacks m (before m c)) cs
constants_are m [] h = tt
constants_are m (c ∷ cs) h = (before_lacking m c h.0, constants_are m cs h.1)

pub constant_is : (m : Mark) (t : Tree) → Untouched m t → IsOutput m t
constant_is m t h = constants_are m (contexts t) h

pub pairs_are : (m : Mark) (s : Option Span) (a d : Tree) → IsOutput m a → IsOutput m d → IsOutput m (pair s a d)
pairs_are m s a d h k = each-append (λ c. Lacks m (before m c)) (contexts a) (contexts d) h k

turn_is : (m : Mark) (x : PathTurn) (o t : Tree) → IsOutput m o → at x o ≡ Some t → IsOutput m t
turn_is m first (pair s a d) t h e = let same : a ≡ t = cc in subst (IsOutput m) same (each-first (λ c. Lacks m (before m c)) (contexts a) (contexts d) h)
turn_is m rest (pair s a d) t h e = let same : d ≡ t = cc in subst (IsOutput m) same (each-last (λ c. Lacks m (before m c)) (contexts a) (contexts d) h)
turn_is m inside (vector s d) t h e = let same : d ≡ t = cc in subst (IsOutput m) same h
turn_is m _ _ t h e = absurd (cc)

pub parts_are : (m : Mark) (p : List PathTurn) (o t : Tree) → IsOutput m o → part p o ≡ Some t → IsOutput m t
parts_are m [] o t h e = let same : o ≡ t = cc in subst (IsOutput m) same h
parts_are m (x ∷ p) o t h e = by (at x o) refl e (parts_are m p)
  where
    by : (u : Option Tree) → at x o ≡ u → then_by (part p) u ≡ Some t → ((o t : Tree) → IsOutput m o → part p o ≡ Some t → IsOutput m t) → IsOutput m t
    by None k n g = absurd (cc)
    by (Some v) k n g = g v t (turn_is m x o v h k) n

data_of : (m : Mark) (c : LeafContext) (d : PlainDatum) → Lacks m (before m c) → IsOutput m (tree_of c d)
data_of m c (datum.atom s a) h = tt
data_of m c (datum.symbol s x) h = (h, tt)
data_of m c (datum.pair s d e) h = each-append (λ c. Lacks m (before m c)) (contexts (tree_of c d)) (contexts (tree_of c e)) (data_of m c d h) (data_of m c e h)
data_of m c (datum.vector s d) h = data_of m c d h

blank_lacks : (m : Mark) → Lacks m (before m blank)
blank_lacks m = record { marks = refl; stamps = tt }

pub datum_is : (m : Mark) (l : Tree) (d : PlainDatum) → IsOutput m l → IsOutput m (datum_like l d)
datum_is m (atom s a) d h = data_of m blank (datum.unspanned d) (blank_lacks m)
datum_is m (leaf s x c) d h = data_of m c (datum.unspanned d) h.0
datum_is m (pair s a e) d h = data_of m blank (datum.unspanned d) (blank_lacks m)
datum_is m (vector s e) d h = data_of m blank (datum.unspanned d) (blank_lacks m)

pub two_uses : (m n : Mark) → m ≢ n → (f g : Option FrameNo) (xs ys : List Change) (t : Tree) (s : Option Span) (x : List ℕ) (c : LeafContext) (l : Label)
    → Lacks n (context_of t) → Spares n xs → IsIntroduced n c → Spares n ys → (fs : Scope)
    → Captures fs (row_for (changed ys (leave n g (leaf s x c))) l) (changed xs (leave m f t)) → ⊥
two_uses m n d f g xs ys t s x c l h e k j fs is =
    let once : Lacks n (context_of (leave m f t)) = lacks_changed n (Leave m f ∷ []) t h (d, tt) in
    let row = row_for (changed ys (leave n g (leaf s x c))) l in
    true≢false
    (sym (row_introduced n g ys s x c l k j)
    ∙ by_others n (changed xs (leave m f t)) (lacks_changed n xs (leave m f t) once e).stamps fs row is)
