-- The laws of one use of a keyword, whose mark is m (Dybvig, Hieb and Bruggeman 1992). What happens to a leaf after the use is
-- any list of changes that spare m.
use Rattle.std.specs.Prelude.{◌≡◌, ◌≢◌, ◌⊎◌, ℕ, Bool, false, List, ◌∷◌, map, option_map, Option, None, Some, IsSomeAnd, IsFalse}
use Rattle.base_data.specs.Datum.{PlainDatum}
use Rattle.base_data.specs.Elements.{Each, Among}
use Rattle.base_data.specs.declared.name.FrameNo.{FrameNo}
use Rattle.base_data.specs.declared.name.Label.{Label}
use Rattle.base_data.specs.declared.name.Mark.{Mark}
use Rattle.base_data.specs.declared.span.Span.{Span}
use Rattle.stx_tree.specs.Changes.{changed, enter, leave, stamp}
use Rattle.stx_tree.specs.Context.{LeafContext}
use Rattle.stx_tree.specs.Leaves.{contexts, context_of, stamps_of, datum_like}
use Rattle.stx_tree.specs.Tree.{Tree, leaf, pair}
use Rattle.stx_tree.specs.declared.change.Change.{Change}
use Rattle.stx_tree.specs.declared.change.Change.TheVariants.{Leave}
use Rattle.stx_tree.specs.declared.stamp.Stamp.{Stamp}
use Rattle.stx_frames.specs.Rows.{Row}
use Rattle.stx_frames.specs.Scope.{Scope, or_else, rows_at, with_row}
use Rattle.stx_scope.specs.Same.{same_binder}
use Rattle.stx_scope.specs.Stands.{symbol_of, stands, row_for}
use Rattle.law_hygiene.specs.Binder.{row_in, binder_of, Captures, IsRowAt, IsOfUse, IsOfOther, NoneBeginsWith, IntroducesNoneIn, without, IsNew}
use Rattle.law_hygiene.specs.Known.{HasKnown, AreKnown, AreKnownInRows, IsWithKnown}
use Rattle.law_hygiene.specs.Marked.{StampedWithout, Lacks, CameIn, IsIntroduced, before, Spares, leaves, Untouched, IsOutput}
use Rattle.law_hygiene.specs.Parts.{PathTurn, part}

-- A leaf stands for the label of the binder that captures it, which has the leaf's symbol and just the marks that the leaf had at
-- one of its stamps: it was introduced by the uses that had introduced the leaf by then, and by no others.
pub record WhatCaptures : Type 0 where
  pub label : (fs : Scope) (t : Tree) → stands fs t ≡ option_map (λ (r : Row). r.label) (binder_of fs t)
  pub by_a_stamp : (fs : Scope) (t : Tree) (r : Row) → Captures fs r t → (s : Stamp) × Among (stamps_of t) s × IsRowAt fs r (symbol_of t) s

-- To enter with a mark, or to leave with one without a frame, changes nothing of what captures a leaf, and a frame that is stamped
-- is asked for the very marks that the leaf has then.
pub record OnlyFramesBind : Type 0 where
  pub entered : (fs : Scope) (m : Mark) (t : Tree) → binder_of fs (enter m t) ≡ binder_of fs t
  pub left : (fs : Scope) (m : Mark) (t : Tree) → binder_of fs (leave m None t) ≡ binder_of fs t
  pub stamped : (fs : Scope) (f : FrameNo) (s : Option Span) (x : List ℕ) (c : LeafContext) →
      binder_of fs (stamp f (leaf s x c)) ≡ or_else (row_in (rows_at f fs) x c.marks) (binder_of fs (leaf s x c))
  pub left_in_a_body : (fs : Scope) (m : Mark) (f : FrameNo) (s : Option Span) (x : List ℕ) (c : LeafContext) → IsIntroduced m c →
      binder_of fs (leave m (Some f) (leaf s x c)) ≡ or_else (row_in (rows_at f fs) x (m ∷ c.marks)) (binder_of fs (leaf s x c))

-- What came in comes out: a part of the input that stands in the output comes out at its place as it was, and a leaf came in
-- where it is what comes out, entered.
pub record WhatCameInComesOut : Type 0 where
  pub parts : (m : Mark) (f : Option FrameNo) (o t : Tree) (p : List PathTurn) → part p o ≡ Some (enter m t) → part p (leave m f o) ≡ Some t
  pub each_leaf : (m : Mark) (f : Option FrameNo) (o : Tree) → leaves (leave m f o) ≡ map (leave m f) (leaves o)
  pub leaf_itself : (m : Mark) (f : Option FrameNo) (l : Tree) → CameIn m (context_of l) → enter m (leave m f l) ≡ l

-- what captures a leaf is a binder that the use of m introduced, or what captured it before
abbrev pub IsOwnOr : Mark → Option Row → Option Row → Type 0
IsOwnOr m now earlier = IsSomeAnd now (IsOfUse m) ⊎ (now ≡ earlier)

-- Introduced references: an introduced leaf is captured by a binder that the same use introduced, or by what captured it in the
-- transformer; and just by this where the use introduced no binder of its symbol into the frames that are stamped on it, or
-- where in one that is stamped at once no binder of its symbol has m as its newest mark.
pub record IntroducedReferences : Type 0 where
  pub own_or_as_before : (m : Mark) (f : Option FrameNo) (xs : List Change) (t : Tree) → IsIntroduced m (context_of t) → Spares m xs → (fs : Scope) →
      IsOwnOr m (binder_of fs (changed xs (leave m f t))) (binder_of fs t)
  pub as_before : (m : Mark) (f : Option FrameNo) (xs : List Change) (t : Tree) → IsIntroduced m (context_of t) → Spares m xs → (fs : Scope) →
      IntroducesNoneIn m fs (symbol_of t) (Leave m f) → Each (IntroducesNoneIn m fs (symbol_of t)) xs →
      binder_of fs (changed xs (leave m f t)) ≡ binder_of fs t
  pub in_one_frame : (m : Mark) (g : FrameNo) (t : Tree) → IsIntroduced m (context_of t) → (fs : Scope) → NoneBeginsWith m fs (symbol_of t) g →
      binder_of fs (stamp g (leave m None t)) ≡ binder_of fs t

-- Introduced binders: none of them captures a leaf that the use has not touched, as one is that came in and comes out, whatever
-- frames are stamped on it; and one more of them changes nothing of what captures it.
pub record IntroducedBinders : Type 0 where
  pub by_others : (m : Mark) (t : Tree) → StampedWithout m (stamps_of t) → (fs : Scope) (r : Row) → Captures fs r t → IsOfOther m r
  pub one_more : (m : Mark) (t : Tree) → StampedWithout m (stamps_of t) → (fs : Scope) (f : FrameNo) (r : Row) → IsOfUse m r →
      binder_of (with_row fs f r) t ≡ binder_of fs t
  pub untouched : (m : Mark) (xs : List Change) (t : Tree) → Lacks m (context_of t) → Spares m xs → Lacks m (context_of (changed xs t))

-- Which binders those are: the rows of introduced leaves, and of no others; none before the use; and they are other binders
-- than all that the use has not touched, so that both may stand in one frame.
pub record WhichAreIntroduced : Type 0 where
  pub introduced : (m : Mark) (f : Option FrameNo) (xs : List Change) (s : Option Span) (x : List ℕ) (c : LeafContext) (l : Label) →
      IsIntroduced m c → Spares m xs → IsOfUse m (row_for (changed xs (leave m f (leaf s x c))) l)
  pub others : (m : Mark) (xs : List Change) (t : Tree) (l : Label) → Lacks m (context_of t) → Spares m xs → IsOfOther m (row_for (changed xs t) l)
  pub none_before : (m : Mark) (fs : Scope) → IsNew m fs → (t : Tree) (r : Row) → Captures fs r t → IsOfOther m r
  pub apart : (m : Mark) (f : Option FrameNo) (s : Option Span) (x : List ℕ) (c : LeafContext) (t : Tree) → IsIntroduced m c → Lacks m (context_of t) →
      same_binder (leave m f (leaf s x c)) t ≡ false

-- The same with the binders of the use taken out of the frames: an introduced leaf stands for what it stood for, whatever
-- frames are stamped on it, an untouched one for what it stands for with them, and so does, right after the use, each leaf of an
-- output whose stamps lack the mark.
pub record TakenOut : Type 0 where
  pub introduced : (m : Mark) (f : Option FrameNo) (xs : List Change) (t : Tree) → IsIntroduced m (context_of t) → StampedWithout m (stamps_of t) →
      Spares m xs → (fs : Scope) → stands (without m fs) (changed xs (leave m f t)) ≡ stands fs t
  pub untouched : (m : Mark) (t : Tree) → StampedWithout m (stamps_of t) → (fs : Scope) → stands (without m fs) t ≡ stands fs t
  pub output : (m : Mark) (f : Option FrameNo) (o : Tree) → Each (λ (c : LeafContext). StampedWithout m c.stamps) (contexts o) → (fs : Scope) →
      map (stands (without m fs)) (leaves (leave m f o)) ≡ map (stands fs) (leaves o)
  pub new : (m : Mark) (fs : Scope) → IsNew m fs → without m fs ≡ fs
  pub one_more : (m : Mark) (fs : Scope) (f : FrameNo) (r : Row) → IsOfOther m r → without m (with_row fs f r) ≡ with_row (without m fs) f r

-- What is an output: the input, entered, what has nothing to do with the use, as constants of templates and temporaries, parts
-- and lists of outputs, and data with the context of a leaf of one. And what other changes make of what is untouched is so.
pub record WhatIsAnOutput : Type 0 where
  pub input : (m : Mark) (t : Tree) → Untouched m t → IsOutput m (enter m t)
  pub constant : (m : Mark) (t : Tree) → Untouched m t → IsOutput m t
  pub pairs : (m : Mark) (s : Option Span) (a d : Tree) → IsOutput m a → IsOutput m d → IsOutput m (pair s a d)
  pub parts : (m : Mark) (p : List PathTurn) (o t : Tree) → IsOutput m o → part p o ≡ Some t → IsOutput m t
  pub datum : (m : Mark) (l : Tree) (d : PlainDatum) → IsOutput m l → IsOutput m (datum_like l d)
  pub other_changes : (m : Mark) (xs : List Change) (t : Tree) → Untouched m t → Spares m xs → Untouched m (changed xs t)

-- A mark that is not known where all are known is new: no leaf there has to do with its use, no row has it, and changes with
-- known marks spare it. Changes with known marks keep all known, and so do binders.
pub record NewMarks : Type 0 where
  pub trees : (k : Mark → Bool) (m : Mark) → IsFalse (k m) → (t : Tree) → AreKnown k t → Untouched m t
  pub rows : (k : Mark → Bool) (m : Mark) → IsFalse (k m) → (fs : Scope) → AreKnownInRows k fs → IsNew m fs
  pub changes : (k : Mark → Bool) (m : Mark) → IsFalse (k m) → (xs : List Change) → Each (IsWithKnown k) xs → Spares m xs
  pub known_changed : (k : Mark → Bool) (xs : List Change) → Each (IsWithKnown k) xs → (t : Tree) → AreKnown k t → AreKnown k (changed xs t)
  pub known_bound : (k : Mark → Bool) (fs : Scope) (f : FrameNo) (s : Option Span) (x : List ℕ) (c : LeafContext) (l : Label) →
      AreKnownInRows k fs → HasKnown k c → AreKnownInRows k (with_row fs f (row_for (leaf s x c) l))

-- a leaf that came in comes out as it was, and no binder of the use captures it
pub record IsPassedThrough (m : Mark) (f : Option FrameNo) (l : Tree) : Type 0 where
  pub itself : context_of (leave m f l) ≡ before m (context_of l)
  pub by_others : (xs : List Change) → Spares m xs → (fs : Scope) (r : Row) → Captures fs r (changed xs (leave m f l)) → IsOfOther m r

-- an introduced leaf is captured by a binder of the use, or by what captured it in the transformer
abbrev pub IsBroughtIn : Mark → Option FrameNo → Tree → Type 0
IsBroughtIn m f l = (xs : List Change) → Spares m xs → (fs : Scope) → IsOwnOr m (binder_of fs (changed xs (leave m f l))) (binder_of fs l)

pub record IsHygienic (m : Mark) (f : Option FrameNo) (l : Tree) : Type 0 where
  pub came_in : CameIn m (context_of l) → IsPassedThrough m f l
  pub introduced : IsIntroduced m (context_of l) → IsBroughtIn m f l

-- A whole use: each leaf of its output is hygienic, and no binder of the use captures a leaf round it.
pub record AWholeUse : Type 0 where
  pub output : (m : Mark) (f : Option FrameNo) (o : Tree) → IsOutput m o → Each (IsHygienic m f) (leaves o)
  pub surroundings : (m : Mark) (xs : List Change) (t : Tree) → Untouched m t → Spares m xs → (fs : Scope) (r : Row) →
      Each (λ l. Captures fs r l → IsOfOther m r) (leaves (changed xs t))

-- Two uses: what the one introduced is captured by no binder that the other introduced.
abbrev pub TwoUses : Type 0
TwoUses = (m n : Mark) → m ≢ n → (f g : Option FrameNo) (xs ys : List Change) (t : Tree) (s : Option Span) (x : List ℕ) (c : LeafContext) (l : Label) →
    Lacks n (context_of t) → Spares n xs → IsIntroduced n c → Spares n ys → (fs : Scope) →
    Captures fs (row_for (changed ys (leave n g (leaf s x c))) l) (changed xs (leave m f t)) → ⊥
