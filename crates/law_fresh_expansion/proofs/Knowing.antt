-- Known marks are such as may be met, and the mark of the next name is none of them.
use Rattle.std.proofs.Common.{◌≡◌, ◌≤◌, ◌<◌, ℕ, suc, Bool, true, false, List, [], ◌∷◌, ◌++◌, refl, ap, ◌∙◌, subst, arith, inl, inr}
use Rattle.std.specs.Prelude.{cond}
use Rattle.base_data.specs.Elements.{Among, Each}
use Rattle.base_data.specs.Named.{Named}
use Rattle.base_data.specs.declared.library.LibName.{LibName}
use Rattle.base_data.specs.declared.library.LibName.TheVariants as library
use Rattle.base_data.specs.declared.name.FrameNo.{FrameNo}
use Rattle.base_data.specs.declared.name.Mark.{Mark}
use Rattle.stx_tree.specs.Context.{LeafContext, blank, entered, act}
use Rattle.stx_tree.specs.Leaves.{contexts}
use Rattle.stx_tree.specs.Marks.{same_mark}
use Rattle.stx_tree.specs.SameMarks.{same_mark_decides}
use Rattle.stx_tree.specs.declared.change.Change.{Change}
use Rattle.stx_tree.specs.declared.change.Change.TheVariants as change
use Rattle.stx_tree.specs.Tree as tree
use Rattle.stx_tree.specs.Tree.{Tree}
use Rattle.stx_tree.specs.declared.stamp.Stamp.{Stamp}
use Rattle.stx_frames.specs.Rows.{Row}
use Rattle.core_quasi.specs.QuasiSyntax.{core_mark}
use Rattle.stx_frames.specs.Scope.{Scope}
use Rattle.law_hygiene.specs.Binder.{IsOfOther, IsNew}
use Rattle.law_hygiene.specs.Marked.{has_mark, StampedWithout, Lacks, Untouched}
use Rattle.base_data.specs.Elements as elements
use Rattle.eval_stage.specs.Stage.{PlainStage}
use Rattle.expand_standing.specs.State.{State, stage_of}
use Rattle.law_fresh.specs.Leaves.{TreeHolds}
use Rattle.law_fresh.specs.Below.{mark_named}
use Rattle.law_fresh.specs.Names.{temporary_context}
use Rattle.law_fresh.proofs.Wider.{cells_wider, codes_wider, globals_wider}
use Rattle.law_fresh_expansion.specs.History.{HasKnownHistory}
use Rattle.law_fresh_expansion.specs.Known.{IsKnownName, IsKnown, IsKnownFrame, HasKnown}
use Rattle.law_fresh_expansion.specs.Living.{IsChangeOf, InUse, Lives, RowsHold}
use Rattle.law_fresh_expansion.specs.States.{StageHolds, FreshStateHolds}
use Rattle.law_fresh_expansion.specs.Uses.{IsNewOn, IsNewIn}
use Rattle.law_fresh_expansion.proofs.Having.{act-has, history-marks, beginning-has, act-follows, has-wider, history-wider}
use Rattle.law_fresh_expansion.proofs.Runs.{keywords-wider}
use Rattle.law_fresh_expansion.proofs.Standing.{bindings-wider}

module _ (libs : List LibName) (own : LibName) where
  abbrev K : ℕ → Mark → Type 0
  K n m = IsKnown libs own n m

  abbrev P : ℕ → LeafContext → Type 0
  P n c = HasKnown libs own n c

  abbrev J : ℕ → FrameNo → Type 0
  J n f = IsKnownFrame libs own n f

  abbrev StampAt : ℕ → Stamp → Type 0
  StampAt n t = J n t.frame × Each (K n) t.marks

  name-later : (m n : ℕ) (x : Named) → m ≤ n → IsKnownName libs own m x → IsKnownName libs own n x
  name-later m n x le (inl a) = inl a
  name-later m n x le (inr p) = inr (p.0, let lt = p.1 in omega (arith, lt, le))

  pub known-later : (m n : ℕ) (x : Mark) → m ≤ n → K m x → K n x
  known-later m n x le h = name-later m n x.0 le h

  pub frame-later : (m n : ℕ) (f : FrameNo) → m ≤ n → J m f → J n f
  frame-later m n f le h = name-later m n f.0 le h

  has-later : (m n : ℕ) (c : LeafContext) → m ≤ n → P m c → P n c
  has-later m n c le h = has-wider (K m) (K n) (J m) (J n) (λ x k. known-later m n x le k) (λ f k. frame-later m n f le k) c h

  history-later : (m n : ℕ) (c : LeafContext) → m ≤ n → HasKnownHistory libs own m c → HasKnownHistory libs own n c
  history-later m n c le h = history-wider (K m) (K n) (J m) (J n) (λ x k. known-later m n x le k) (λ f k. frame-later m n f le k) c h

  -- Where each change may be made, so may those of a use.
  module _ (Q : ℕ → LeafContext → Type 0) (later : (m n : ℕ) (c : LeafContext) → m ≤ n → Q m c → Q n c) (changed : (n : ℕ) (x : Change) (c : LeafContext) → IsChangeOf (K n) (J n) x → Q n c → Q n (act x c)) where
    its-mark : (m n : ℕ) → m < n → K n (mark_named own m)
    its-mark m n lt = inr (refl, lt)

    left-later : (m n : ℕ) (c : LeafContext) → Q n c → InUse J Q (mark_named own m) n c
    left-later m n c h = λ k low lt. let at : Q k c = later n k c low h in (at, λ f j. changed k (change.Leave (mark_named own m) f) c (its-mark m k lt, j) at)

    entered-later : (m : ℕ) (c : LeafContext) → Q m c → InUse J Q (mark_named own m) m (entered (mark_named own m) c)
    entered-later m c h = λ k low lt.
        let at : Q k (entered (mark_named own m) c) = changed k (change.Enter (mark_named own m)) c (its-mark m k lt) (later m k c low h) in
        (at, λ f j. changed k (change.Leave (mark_named own m) f) (entered (mark_named own m) c) (its-mark m k lt, j) at)

    live : Among libs library.Core → ((m n : ℕ) → m < n → Q n (temporary_context own m)) → Q 0 blank → ((k : ℕ) → Q 0 (record { marks = core_mark k ∷ []; stamps = [] }))
        → ((n : ℕ) (c : LeafContext) → Q n c → Each (K n) c.marks) → Lives own K J Q
    live core temporary read inserts marks = record {
      rises = record { later = later; temporary = λ m n low lt. temporary m n lt };
      known = known-later;
      taken = its-mark;
      frames = frame-later;
      made = λ m n lt. inr (refl, lt);
      introduced = inl core;
      stamped = λ n f c j h. changed n (change.Stamp f) c j h;
      there = λ m c h. left-later m m c h;
      entered = entered-later;
      temporary = λ m n lt. left-later m (suc n) (temporary_context own n) (temporary n (suc n) (omega arith));
      read = read;
      core = inserts;
      marks = marks;
    }

  pub lives-known : Among libs library.Core → Lives own K J P
  lives-known core =
      live P has-later (λ n x c k h. act-has (K n) (J n) x c k h) core (λ m n lt. record { marks = (inr (refl, lt), tt); stamps = tt }) (record { marks = tt; stamps = tt })
      (λ k. record { marks = (inl core, tt); stamps = tt }) (λ n c h. h.marks)

  pub lives-on : Among libs library.Core → Lives own K J (HasKnownHistory libs own)
  lives-on core =
      live (HasKnownHistory libs own) history-later (λ n x c k h. act-follows (K n) (J n) x c k h) core
      (λ m n lt. beginning-has (K n) (J n) (temporary_context own m) (inr (mark_named own m, (inr (refl, lt), refl)))) (beginning-has (K 0) (J 0) blank (inl refl))
      (λ k. beginning-has (K 0) (J 0) (record { marks = core_mark k ∷ []; stamps = [] }) (inr (core_mark k, (inl core, refl)))) (λ n c h. (history-marks (K n) (J n) c h).marks)

  -- The mark of the next name is new.

  module _ (new : Among libs own → ⊥) (name : Named) (here : name.library ≡ own) where
    abbrev M : Mark
    M = record { 0 = name }

    abbrev n : ℕ
    n = name.number

    other-mark : (x : Mark) → K n x → same_mark x M ≡ false
    other-mark x h = by (same_mark x M) refl
      where
        is-new : x ≡ M → K n x → ⊥
        is-new e (inl a) = new (subst (Among libs) (ap (λ (y : Mark). y.0.library) e ∙ here) a)
        is-new e (inr p) = let lt = p.1 in let same : x.0.number ≡ n = ap (λ (y : Mark). y.0.number) e in omega (arith, lt, same)

        by : (b : Bool) → same_mark x M ≡ b → b ≡ false
        by false e = refl
        by true e = absurd (is-new ((same_mark_decides x M).0 e) h)

    lacks-mark : (ms : List Mark) → Each (K n) ms → has_mark M ms ≡ false
    lacks-mark [] h = refl
    lacks-mark (x ∷ ms) h = ap (λ b. cond b true (has_mark M ms)) (other-mark x h.0) ∙ lacks-mark ms h.1

    lacks-stamps : (ts : List Stamp) → Each (StampAt n) ts → StampedWithout M ts
    lacks-stamps [] h = tt
    lacks-stamps (t ∷ ts) h = (lacks-mark t.marks h.0.1, lacks-stamps ts h.1)

    pub lacks-it : (c : LeafContext) → P n c → Lacks M c
    lacks-it c h = record { marks = lacks-mark c.marks h.marks; stamps = lacks-stamps c.stamps h.stamps }

    both-lack : (xs ys : List LeafContext) → elements.Each (Lacks M) xs → elements.Each (Lacks M) ys → elements.Each (Lacks M) (xs ++ ys)
    both-lack [] ys h k = k
    both-lack (x ∷ xs) ys h k = (h.0, both-lack xs ys h.1 k)

    pub new-tree : (t : Tree) → TreeHolds (P n) t → Untouched M t
    new-tree (tree.atom s a) h = tt
    new-tree (tree.leaf s x c) h = (lacks-it c h, tt)
    new-tree (tree.pair s a d) h = both-lack (contexts a) (contexts d) (new-tree a h.0) (new-tree d h.1)
    new-tree (tree.vector s d) h = new-tree d h

    new-in : (rs : List Row) → Each (λ (r : Row). Each (K n) r.marks) rs → elements.Each (IsOfOther M) rs
    new-in [] h = tt
    new-in (r ∷ rs) h = (lacks-mark r.marks h.0, new-in rs h.1)

    new-rows : (fs : Scope) → RowsHold (K n) fs → IsNew M fs
    new-rows [] h = tt
    new-rows (e ∷ es) h = (new-in e.1 h.0, new-rows es h.1)

  module _ (new : Among libs own → ⊥) where
    pub new-on : (m : ℕ) (g : PlainStage) → StageHolds own K P m g → IsNewOn (record { 0 = g.names }) g
    new-on m g h =
        let lacks = lacks-it new g.names h.library in
        let n = g.names.number in
        let x : Mark = record { 0 = g.names } in
        record {
          rows = new-rows new g.names h.library g.frames h.frames;
          cells = cells_wider (P n) (Lacks x) lacks g.cells h.cells;
          codes = codes_wider (P n) (Lacks x) lacks g.codes h.codes;
          globals = globals_wider (P n) (Lacks x) lacks g.globals h.globals;
          keywords = keywords-wider (P n) (Lacks x) lacks g.keywords h.keywords;
        }

    pub new-in-state : (m : ℕ) (s : State) → FreshStateHolds own K P m s → IsNewIn (record { 0 = s.names }) s
    new-in-state m s h = record {
      stage = new-on m (stage_of s) h.stage;
      bindings = bindings-wider (P s.names.number) (Lacks (record { 0 = s.names })) (lacks-it new s.names h.stage.library) s.bindings h.bindings;
    }
