-- What captures a leaf, by its history.
use Rattle.std.proofs.Common.{◌≡◌, ◌≢◌, ℕ, Bool, true, false, List, [], ◌∷◌, ◌++◌, map, Option, Some, refl, sym, ap, ◌∙◌, subst, cond, inl, inr, true≢false}
use Rattle.std.specs.Prelude.{◌⊎◌, IsSomeAnd, IsFalse}
use Rattle.base_data.specs.Elements.{Among}
use Rattle.base_data.specs.declared.name.FrameNo.{FrameNo}
use Rattle.base_data.specs.declared.name.Mark.{Mark}
use Rattle.base_data.specs.declared.span.Span.{Span}
use Rattle.stx_tree.specs.Context.{LeafContext, act, acts}
use Rattle.stx_tree.specs.Marks.{same_mark, is_first}
use Rattle.stx_tree.specs.SameMarks.{same_mark_decides}
use Rattle.stx_tree.specs.Tree.{leaf}
use Rattle.stx_frames.specs.Rows.{Row}
use Rattle.stx_frames.specs.Scope.{Scope}
use Rattle.law_hygiene.specs.Binder.{binder_of, Captures, IsOfUse}
use Rattle.law_hygiene.specs.History.{Event, stamped, introduced, change_of, uses, IsOnce, after}
use Rattle.law_hygiene.specs.Hygiene.{IsOwnOr}
use Rattle.law_hygiene.specs.Marked.{has_mark, Spares}
use Rattle.law_hygiene.proofs.Living.{by_same_uses, marks_after}
use Rattle.law_hygiene.proofs.Marking.{same_mark-self, lacks_first}
use Rattle.law_hygiene.proofs.Using.{brought_in}
use Rattle.law_references.specs.Captured.{IsIntroducedBy, CapturesAreHygienic}

-- A mark that a leaf has was there, or a use introduced the leaf.

has-one : (m : Mark) (ms : List Mark) → has_mark m ms ≡ true → Among ms m
has-one m [] h = absurd (cc)
has-one m (n ∷ ns) h = by (same_mark n m) refl h (has-one m ns)
  where
    by : (b : Bool) → same_mark n m ≡ b → cond b true (has_mark m ns) ≡ true → (has_mark m ns ≡ true → Among ns m) → Among (n ∷ ns) m
    by true e k others = inl (sym ((same_mark_decides n m).0 e))
    by false e k others = inr (others k)

behind-first : (m : Mark) (e : Event) (es : List Event) → IsIntroducedBy m es → IsIntroducedBy m (e ∷ es)
behind-first m e es h = (h.0, inr h.1)

behind-use : (m n : Mark) (f : Option FrameNo) (es : List Event) (ms : List Mark) → Among (n ∷ ms) m ⊎ IsIntroducedBy m es → Among ms m ⊎ IsIntroducedBy m (introduced n f ∷ es)
behind-use m n f es ms (inl (inl e)) = inr (f, inl (ap (λ x. introduced x f) e))
behind-use m n f es ms (inl (inr a)) = inl a
behind-use m n f es ms (inr h) = inr (behind-first m (introduced n f) es h)

behind-stamp : (m : Mark) (f : FrameNo) (es : List Event) (ms : List Mark) → Among ms m ⊎ IsIntroducedBy m es → Among ms m ⊎ IsIntroducedBy m (stamped f ∷ es)
behind-stamp m f es ms (inl a) = inl a
behind-stamp m f es ms (inr h) = inr (behind-first m (stamped f) es h)

from-a-use : (m : Mark) (es : List Event) (ms : List Mark) → Among (uses es ms) m → Among ms m ⊎ IsIntroducedBy m es
from-a-use m [] ms a = inl a
from-a-use m (stamped f ∷ es) ms a = behind-stamp m f es ms (from-a-use m es ms a)
from-a-use m (introduced n f ∷ es) ms a = behind-use m n f es ms (from-a-use m es (n ∷ ms) a)

among-start : (early late : List Event) (e : Event) → Among early e → Among (early ++ late) e
among-start [] late e a = absurd a
among-start (d ∷ early) late e (inl k) = inl k
among-start (d ∷ early) late e (inr a) = inr (among-start early late e a)

-- A use introduces a leaf once.

once-start : (early : List Event) (m : Mark) (f : Option FrameNo) (late : List Event) (ms : List Mark) → IsOnce (early ++ introduced m f ∷ late) ms
    → IsOnce early ms × (IsFalse (has_mark m (uses early ms)) × IsOnce late (m ∷ uses early ms))
once-start [] m f late ms h = (tt, h)
once-start (stamped g ∷ early) m f late ms h = once-start early m f late ms h
once-start (introduced n g ∷ early) m f late ms h = let k = once-start early m f late (n ∷ ms) h.1 in ((h.0, k.0), k.1)

other-mark : (m n : Mark) (ms : List Mark) → has_mark m ms ≡ true → has_mark n ms ≡ false → n ≢ m
other-mark m n ms h k e = true≢false (sym h ∙ ap (λ x. has_mark x ms) (sym e) ∙ k)

still-there : (m n : Mark) (ms : List Mark) → has_mark m ms ≡ true → has_mark m (n ∷ ms) ≡ true
still-there m n ms h = by (same_mark n m)
  where
    by : (b : Bool) → cond b true (has_mark m ms) ≡ true
    by true = refl
    by false = h

late-spares : (m : Mark) (late : List Event) (ms : List Mark) → has_mark m ms ≡ true → IsOnce late ms → Spares m (map change_of late)
late-spares m [] ms h k = tt
late-spares m (stamped f ∷ late) ms h k = (tt, late-spares m late ms h k)
late-spares m (introduced n f ∷ late) ms h k = (other-mark m n ms h k.0, late-spares m late (n ∷ ms) (still-there m n ms h) k.1)

acts-joined : (early late : List Event) (c : LeafContext) → acts (map change_of (early ++ late)) c ≡ acts (map change_of late) (acts (map change_of early) c)
acts-joined [] late c = refl
acts-joined (e ∷ early) late c = acts-joined early late (act (change_of e) c)

module _ (fs : Scope) (r : Row) (s : Option Span) (x : List ℕ) (ms : List Mark) (es : List Event) (once : IsOnce es ms) (is : Captures fs r (leaf s x (after es ms))) where
  binder-so : (m : Mark) → IsOfUse m r → Among ms m ⊎ IsIntroducedBy m es
  binder-so m h =
      let moment = (by_same_uses fs es [] ms r.marks s s x r.symbol r.label once tt is).1 in
      by moment.0 moment.1.0 moment.1.1 (from-a-use m moment.0 ms (has-one m (uses moment.0 ms) (ap (has_mark m) moment.2 ∙ h)))
    where
      by : (early late : List Event) → es ≡ early ++ late → Among ms m ⊎ IsIntroducedBy m early → Among ms m ⊎ IsIntroducedBy m es
      by early late e (inl a) = inl a
      by early late e (inr k) = inr (k.0, subst (λ (ds : List Event). Among ds (introduced m k.0)) (sym e) (among-start early late (introduced m k.0) k.1))

  reference-so : (m : Mark) (f : Option FrameNo) (early late : List Event) → es ≡ early ++ introduced m f ∷ late → IsOfUse m r ⊎ Captures fs r (leaf s x (after early ms))
  reference-so m f early late e =
      let start : LeafContext = record { marks = ms; stamps = [] } in
      let template : LeafContext = after early ms in
      let parts = once-start early m f late ms (subst (λ (ds : List Event). IsOnce ds ms) e once) in
      let fresh : is_first m template.marks ≡ false = lacks_first m template.marks (ap (has_mark m) (marks_after early start parts.0) ∙ parts.1.0) in
      let here : after es ms ≡ acts (map change_of late) (act (change_of (introduced m f)) template) = ap (λ (ds : List Event). after ds ms) e ∙ acts-joined early (introduced m f ∷ late) start in
      by (brought_in m f (leaf s x template) fresh (map change_of late) (late-spares m late (m ∷ uses early ms) (ap (λ b. cond b true (has_mark m (uses early ms))) (same_mark-self m)) parts.1.1) fs)
      (ap (λ (c : LeafContext). binder_of fs (leaf s x c)) (sym here) ∙ is)
    where
      by : {o p : Option Row} → IsOwnOr m o p → o ≡ Some r → IsOfUse m r ⊎ (p ≡ Some r)
      by (inl k) i = inl (subst (λ (q : Option Row). IsSomeAnd q (IsOfUse m)) i k)
      by (inr k) i = inr (sym k ∙ i)

pub captures-hygienic : CapturesAreHygienic
captures-hygienic libs own n s x c h fs r is =
    let so : Captures fs r (leaf s x (after h.events h.marks)) = subst (λ (d : LeafContext). Captures fs r (leaf s x d)) (sym h.gives) is in
    record { binder = binder-so fs r s x h.marks h.events h.once so; reference = reference-so fs r s x h.marks h.events h.once so }
