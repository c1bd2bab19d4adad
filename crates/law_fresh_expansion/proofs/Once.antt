-- Each leaf has a history in which no use introduces it twice.
use Rattle.std.proofs.Common.{◌≡◌, ◌≢◌, ◌≤◌, ◌<◌, ℕ, suc, true, false, List, [], ◌∷◌, ◌++◌, map, Option, None, refl, sym, ap, ◌∙◌, subst, arith, cond, inl, inr}
use Rattle.std.specs.Prelude.{IsFalse}
use Rattle.base_data.proofs.ElementLemmas.{each-and, each-implied}
use Rattle.base_data.specs.Elements.{Among, Each}
use Rattle.base_data.specs.declared.library.LibName.{LibName}
use Rattle.base_data.specs.declared.library.LibName.TheVariants as library
use Rattle.base_data.specs.declared.name.FrameNo.{FrameNo}
use Rattle.base_data.specs.declared.name.Mark.{Mark}
use Rattle.stx_tree.specs.Context.{LeafContext, entered, left, act, acts}
use Rattle.core_quasi.specs.QuasiSyntax.{core_mark}
use Rattle.law_hygiene.specs.History.{Event, stamped, introduced, change_of, uses, IsOnce}
use Rattle.law_hygiene.specs.Marked.{has_mark}
use Rattle.law_hygiene.proofs.Marking.{same_mark-self, same_mark-differs, lacks_first}
use Rattle.law_hygiene.proofs.Using.{left_introduced, left_came_in}
use Rattle.law_hygiene.proofs.Living.{marks_after}
use Rattle.law_fresh.specs.Leaves.{OptionHolds}
use Rattle.law_fresh.specs.Below.{mark_named}
use Rattle.law_fresh.specs.Names.{temporary_context}
use Rattle.law_fresh_expansion.specs.Events.{IsEventOf, HasEvents, HasKnownEvents}
use Rattle.law_fresh_expansion.specs.History.{IsBeginning, HasHistory}
use Rattle.law_fresh_expansion.specs.Known.{IsKnown, IsKnownFrame, IsNewAmong}
use Rattle.law_fresh_expansion.specs.Living.{IsChangeOf, InUse, Lives}
use Rattle.law_fresh_expansion.proofs.Having.{begins-wider, change-wider, history-marks}
use Rattle.law_fresh_expansion.proofs.Knowing.{known-later, frame-later, lacks-it}

-- The marks after events that come once are those of the uses.

-- One event more.

acts-more : (es : List Event) (e : Event) (c : LeafContext) → acts (map change_of (es ++ e ∷ [])) c ≡ act (change_of e) (acts (map change_of es) c)
acts-more [] e c = refl
acts-more (d ∷ es) e c = acts-more es e (act (change_of d) c)

-- a use that hadn't introduced it
abbrev IsFresh : Event → List Mark → Type 0
IsFresh (stamped f) ms = Unit {0}
IsFresh (introduced m f) ms = IsFalse (has_mark m ms)

once-one : (e : Event) (ms : List Mark) → IsFresh e ms → IsOnce (e ∷ []) ms
once-one (stamped f) ms h = tt
once-one (introduced m f) ms h = (h, tt)

once-more : (es : List Event) (e : Event) (ms : List Mark) → IsOnce es ms → IsFresh e (uses es ms) → IsOnce (es ++ e ∷ []) ms
once-more [] e ms h k = once-one e ms k
once-more (stamped f ∷ es) e ms h k = once-more es e ms h k
once-more (introduced m f ∷ es) e ms h k = (h.0, once-more es e (m ∷ ms) h.1 k)

module _ (K : Mark → Type 0) (J : FrameNo → Type 0) where
  one-more : (e : Event) (c : LeafContext) → HasEvents K J c → IsEventOf K J e → IsFresh e c.marks → HasEvents K J (act (change_of e) c)
  one-more e c h is new = record {
    marks = h.marks;
    begins = h.begins;
    events = h.events ++ e ∷ [];
    are = each-and (IsEventOf K J) h.events e h.are is;
    once = once-more h.events e h.marks h.once (subst (IsFresh e) (ap (λ (d : LeafContext). d.marks) (sym h.gives) ∙ marks_after h.events (record { marks = h.marks; stamps = [] }) h.once) new);
    gives = acts-more h.events e (record { marks = h.marks; stamps = [] }) ∙ ap (act (change_of e)) h.gives;
  }

  begun : (ms : List Mark) → IsBeginning K (record { marks = ms; stamps = [] }) → HasEvents K J (record { marks = ms; stamps = [] })
  begun ms b = record { marks = ms; begins = b; events = []; are = tt; once = tt; gives = refl }

  all-changes : (es : List Event) → Each (IsEventOf K J) es → Each (IsChangeOf K J) (map change_of es)
  all-changes [] h = tt
  all-changes (e ∷ es) h = (h.0, all-changes es h.1)

  pub as-history : (c : LeafContext) → HasEvents K J c → HasHistory K J c
  as-history c h = record { beginning = record { marks = h.marks; stamps = [] }; begins = h.begins; changes = map change_of h.events; are = all-changes h.events h.are; gives = h.gives }

module _ (K K' : Mark → Type 0) (J J' : FrameNo → Type 0) (more : (m : Mark) → K m → K' m) (wide : (f : FrameNo) → J f → J' f) where
  pub events-wider : (c : LeafContext) → HasEvents K J c → HasEvents K' J' c
  events-wider c h = record {
    marks = h.marks;
    begins = begins-wider K K' J J' more wide (record { marks = h.marks; stamps = [] }) h.begins;
    events = h.events;
    are = each-implied (IsEventOf K J) (IsEventOf K' J') (λ e i. change-wider K K' J J' more wide (change_of e) i) h.events h.are;
    once = h.once;
    gives = h.gives;
  }

module _ (libs : List LibName) (own : LibName) where
  abbrev K : ℕ → Mark → Type 0
  K n m = IsKnown libs own n m

  abbrev J : ℕ → FrameNo → Type 0
  J n f = IsKnownFrame libs own n f

  abbrev P : ℕ → LeafContext → Type 0
  P n c = HasKnownEvents libs own n c

  abbrev M : ℕ → Mark
  M m = mark_named own m

  later : (m n : ℕ) (c : LeafContext) → m ≤ n → P m c → P n c
  later m n c le h = events-wider (K m) (K n) (J m) (J n) (λ x k. known-later libs own m n x le k) (λ f k. frame-later libs own m n f le k) c h

  temporary-at : (a n : ℕ) → a < n → P n (temporary_context own a)
  temporary-at a n lt = begun (K n) (J n) (M a ∷ []) (inr (M a, (inr (refl, lt), refl)))

  module _ (new : IsNewAmong libs own) where
    -- no leaf has the mark of the next name
    lacks : (m : ℕ) (c : LeafContext) → P m c → has_mark (M m) c.marks ≡ false
    lacks m c h = (lacks-it libs own new (record { library = own; number = m }) refl c (history-marks (K m) (J m) c (as-history (K m) (J m) c h))).marks

    -- the use of this mark introduces it
    brought-in : (m k : ℕ) (f : Option FrameNo) (c : LeafContext) → m < k → OptionHolds (J k) f → P k c → has_mark (M m) c.marks ≡ false → P k (left (M m) f c)
    brought-in m k f c lt j h lacking = one-more (K k) (J k) (introduced (M m) f) c h (inr (refl, lt), j) lacking

    there-at : (m : ℕ) (c : LeafContext) → P m c → InUse J P (mark_named own m) m c
    there-at m c h = λ k low lt. (later m k c low h, λ f j. brought-in m k f c lt j (later m k c low h) (lacks m c h))

    entered-at : (m : ℕ) (c : LeafContext) → P m c → InUse J P (mark_named own m) m (entered (M m) c)
    entered-at m c h = λ k low lt.
        let at : P k c = later m k c low h in (
          subst (P k) (left_introduced (M m) None c (lacks_first (M m) c.marks (lacks m c h))) (brought-in m k None c lt tt at (lacks m c h)),
          λ f j. subst (P k) (sym (left_came_in (M m) f (entered (M m) c) (same_mark-self (M m)))) at,
        )

    other-name : (m n : ℕ) → m < n → M n ≢ M m
    other-name m n lt e = let same : n ≡ m = ap (λ (x : Mark). x.0.number) e in omega (arith, lt, same)

    temporary-in : (m n : ℕ) → m < n → InUse J P (mark_named own m) (suc n) (temporary_context own n)
    temporary-in m n lt = λ k low more. (
      temporary-at n k (omega (arith, low)),
      λ f j. brought-in m k f (temporary_context own n) more j (temporary-at n k (omega (arith, low))) (ap (λ b. cond b true false) (same_mark-differs (M n) (M m) (other-name m n lt))),
    )

    pub lives-once : Among libs library.Core → Lives own K J P
    lives-once core = record {
      rises = record { later = later; temporary = λ a n low lt. temporary-at a n lt };
      known = known-later libs own;
      taken = λ m n lt. inr (refl, lt);
      frames = frame-later libs own;
      made = λ m n lt. inr (refl, lt);
      introduced = inl core;
      stamped = λ n f c j h. one-more (K n) (J n) (stamped f) c h j tt;
      there = there-at;
      entered = entered-at;
      temporary = temporary-in;
      read = begun (K 0) (J 0) [] (inl refl);
      core = λ k. begun (K 0) (J 0) (core_mark k ∷ []) (inr (core_mark k, (inl core, refl)));
      marks = λ n c h. (history-marks (K n) (J n) c (as-history (K n) (J n) c h)).marks;
    }
