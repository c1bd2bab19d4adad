-- The laws: leaves that were there and temporaries, and marks that were taken before.
use Rattle.std.proofs.Common.{◌≡◌, ◌≤◌, ℕ, Bool, true, false, List, [], ◌∷◌, ◌++◌, refl, ap, ◌∙◌, arith, inl, inr}
use Rattle.std.specs.Prelude.{cond}
use Rattle.base_data.specs.Elements.{Each}
use Rattle.base_data.specs.declared.library.LibName.{LibName}
use Rattle.base_data.specs.declared.name.Mark.{Mark}
use Rattle.base_region.specs.declared.region.Place.{Place}
use Rattle.stx_tree.specs.Context.{LeafContext}
use Rattle.stx_tree.specs.Marks.{same_mark}
use Rattle.stx_tree.specs.SameMarks.{same_mark_decides}
use Rattle.stx_tree.specs.Leaves.{contexts}
use Rattle.stx_tree.specs.Tree as tree
use Rattle.stx_tree.specs.Tree.{Tree}
use Rattle.stx_tree.specs.declared.stamp.Stamp.{Stamp}
use Rattle.stx_frames.specs.Rows.{Row}
use Rattle.stx_frames.specs.Scope.{Scope}
use Rattle.core_language.specs.Core.{PlainCore}
use Rattle.core_language.specs.declared.record.Line.{Line}
use Rattle.eval_value.specs.declared.value.Value.{Value}
use Rattle.law_hygiene.specs.Binder.{IsOfOther, IsNew}
use Rattle.law_hygiene.specs.Marked.{has_mark, StampedWithout, Lacks, Untouched}
use Rattle.eval_code.specs.Lines.{lines_from}
use Rattle.eval_code.specs.Meaning.{eval_of, applied}
use Rattle.eval_code.specs.Setting.{PlainSetting}
use Rattle.eval_code.specs.State.{WorldState}
use Rattle.law_fresh.specs.Below.{IsBefore, AreBefore, MarkedBefore, RowsBefore, mark_named, StartsBefore, MarksStayBefore, TheNextIsNew}
use Rattle.law_fresh.specs.Coming.{WasThere, WasThereOrNew, HasNoOthers, LeavesWereThere}
use Rattle.law_fresh.specs.Leaves.{TreeHolds, ValuesHold, CoreHolds, LinesHold}
use Rattle.law_fresh.specs.Names.{FreshRises, SettingHolds, StateHolds, OutcomeHolds}
use Rattle.law_fresh.proofs.Meaning.{holds-eval, holds-call, holds-lines}
use Rattle.law_fresh.proofs.Read.{was-read}
use Rattle.law_fresh.proofs.Wider.{values_wider, cells_wider, core_wider, codes_wider, globals_wider, lines_wider}

-- What was there, and temporaries.

module _ (there : LeafContext → Bool) (own : LibName) where
  there-rises : (first : ℕ) → FreshRises own first (WasThereOrNew there own first)
  there-rises first = record { later = later; temporary = λ m n low lt. inr (m, (low, (lt, refl))) }
    where
      later : (m n : ℕ) (c : LeafContext) → m ≤ n → WasThereOrNew there own first m c → WasThereOrNew there own first n c
      later m n c le (inl h) = inl h
      later m n c le (inr (k, (low, (lt, e)))) = inr (k, (low, (omega (arith, lt, le), e)))

  module _ (w : PlainSetting) (s : WorldState) (h : HasNoOthers there own w s) where
    abbrev N : LeafContext → Type 0
    N c = WasThereOrNew there own s.names.number s.names.number c

    as-there : (c : LeafContext) → WasThere there c → N c
    as-there c k = inl k

    there-setting : SettingHolds N w
    there-setting = record { codes = codes_wider (WasThere there) N as-there w.codes h.setting.codes; globals = globals_wider (WasThere there) N as-there w.globals h.setting.globals }

    there-state : StateHolds own (WasThereOrNew there own s.names.number) s.names.number s
    there-state = record { up = omega arith; library = h.library; cells = cells_wider (WasThere there) N as-there s.cells h.cells }

    there-expression : (c : PlainCore) (scope : Place) (n : ℕ) → CoreHolds (WasThere there) c → OutcomeHolds own (WasThereOrNew there own s.names.number) s.names.number (eval_of w c scope s n)
    there-expression c scope n k =
        holds-eval own s.names.number (WasThereOrNew there own s.names.number) (there-rises s.names.number) w there-setting c scope s n (core_wider (WasThere there) N as-there c k) there-state

    there-call : (vs : List Value) (n : ℕ) → ValuesHold (WasThere there) vs → OutcomeHolds own (WasThereOrNew there own s.names.number) s.names.number (applied w (eval_of w) vs s n)
    there-call vs n k =
        holds-call own s.names.number (WasThereOrNew there own s.names.number) (there-rises s.names.number) w there-setting vs s n there-state (values_wider (WasThere there) N as-there vs k)

    there-lines : (ls : List Line) (scope : Place) (n : ℕ) → LinesHold (WasThere there) ls → OutcomeHolds own (WasThereOrNew there own s.names.number) s.names.number (lines_from (eval_of w) ls scope s n)
    there-lines ls scope n k =
        holds-lines own s.names.number (WasThereOrNew there own s.names.number) (there-rises s.names.number) w there-setting ls scope s n (lines_wider (WasThere there) N as-there ls k) there-state

pub were-there : LeavesWereThere
were-there = record {
  expressions = λ there own w c scope s n h k. there-expression there own w s h c scope n k;
  calls = λ there own w vs s n h k. there-call there own w s h vs n k;
  libraries = λ there own w ls scope s n h k. there-lines there own w s h ls scope n k;
  trees = λ there cells v fuel left t h k e. was-read (WasThere there) cells v fuel left t h k e;
}

-- Marks that were taken before.

pub before-later : (own : LibName) (m n : ℕ) → m ≤ n → (ms : List Mark) → AreBefore own m ms → AreBefore own n ms
before-later own m n le [] h = tt
before-later own m n le (x ∷ ms) h = ((λ e. let lt = h.0 e in omega (arith, lt, le)), before-later own m n le ms h.1)

stamps-later : (own : LibName) (m n : ℕ) → m ≤ n → (ts : List Stamp) → Each (λ (t : Stamp). AreBefore own m t.marks) ts → Each (λ (t : Stamp). AreBefore own n t.marks) ts
stamps-later own m n le [] h = tt
stamps-later own m n le (t ∷ ts) h = (before-later own m n le t.marks h.0, stamps-later own m n le ts h.1)

pub marked-later : (own : LibName) (m n : ℕ) (c : LeafContext) → m ≤ n → MarkedBefore own m c → MarkedBefore own n c
marked-later own m n c le h = record { marks = before-later own m n le c.marks h.marks; stamps = stamps-later own m n le c.stamps h.stamps }

pub marked-rises : (own : LibName) (first : ℕ) → FreshRises own first (MarkedBefore own)
marked-rises own first = record { later = marked-later own; temporary = λ m n low lt. record { marks = ((λ e. lt), tt); stamps = tt } }

starts : (own : LibName) (w : PlainSetting) (s : WorldState) → StartsBefore own w s → StateHolds own (MarkedBefore own) s.names.number s
starts own w s h = record { up = omega arith; library = h.library; cells = h.cells }

pub stay-before : MarksStayBefore
stay-before = record {
  expressions = λ own w c scope s n h k. holds-eval own s.names.number (MarkedBefore own) (marked-rises own s.names.number) w h.setting c scope s n k (starts own w s h);
  calls = λ own w vs s n h k. holds-call own s.names.number (MarkedBefore own) (marked-rises own s.names.number) w h.setting vs s n (starts own w s h) k;
  libraries = λ own w ls scope s n h k. holds-lines own s.names.number (MarkedBefore own) (marked-rises own s.names.number) w h.setting ls scope s n k (starts own w s h);
}

-- The next mark is new.

module _ (own : LibName) (n : ℕ) where
  abbrev M : Mark
  M = mark_named own n

  -- a mark that was taken before is another
  other-mark : (x : Mark) → IsBefore own n x → same_mark x M ≡ false
  other-mark x h = by (same_mark x M) refl
    where
      by : (b : Bool) → same_mark x M ≡ b → b ≡ false
      by false e = refl
      by true e =
          let is : x ≡ M = (same_mark_decides x M).0 e in
          let lt = h (ap (λ (y : Mark). y.0.library) is) in
          let same : x.0.number ≡ n = ap (λ (y : Mark). y.0.number) is in
          absurd (omega (arith, lt, same))

  lacks-mark : (ms : List Mark) → AreBefore own n ms → has_mark M ms ≡ false
  lacks-mark [] h = refl
  lacks-mark (x ∷ ms) h = ap (λ b. cond b true (has_mark M ms)) (other-mark x h.0) ∙ lacks-mark ms h.1

  lacks-stamps : (ts : List Stamp) → Each (λ (t : Stamp). AreBefore own n t.marks) ts → StampedWithout M ts
  lacks-stamps [] h = tt
  lacks-stamps (t ∷ ts) h = (lacks-mark t.marks h.0, lacks-stamps ts h.1)

  pub lacks-it : (c : LeafContext) → MarkedBefore own n c → Lacks M c
  lacks-it c h = record { marks = lacks-mark c.marks h.marks; stamps = lacks-stamps c.stamps h.stamps }

  both-lack : (xs ys : List LeafContext) → Each (Lacks M) xs → Each (Lacks M) ys → Each (Lacks M) (xs ++ ys)
  both-lack [] ys h k = k
  both-lack (x ∷ xs) ys h k = (h.0, both-lack xs ys h.1 k)

  new-tree : (t : Tree) → TreeHolds (MarkedBefore own n) t → Untouched M t
  new-tree (tree.atom s a) h = tt
  new-tree (tree.leaf s x c) h = (lacks-it c h, tt)
  new-tree (tree.pair s a d) h = both-lack (contexts a) (contexts d) (new-tree a h.0) (new-tree d h.1)
  new-tree (tree.vector s d) h = new-tree d h

  new-in : (rs : List Row) → Each (λ (r : Row). AreBefore own n r.marks) rs → Each (IsOfOther M) rs
  new-in [] h = tt
  new-in (r ∷ rs) h = (lacks-mark r.marks h.0, new-in rs h.1)

  new-rows : (fs : Scope) → RowsBefore own n fs → IsNew M fs
  new-rows [] h = tt
  new-rows (e ∷ es) h = (new-in e.1 h.0, new-rows es h.1)

pub next-is-new : TheNextIsNew
next-is-new = record { trees = new-tree; rows = new-rows }
