-- What a leaf's binder and a bind become under other names of marks.
use Rattle.std.specs.Prelude.{◌≡◌, ℕ, Bool, true, false, cond, ◌&&◌, nat_eq, is_some, List, [], ◌∷◌, ◌++◌, map, option_map, Option, None, Some, Result, Ok, Err, refl}
use Rattle.std.proofs.Common.{sym, ◌∙◌, ap}
use Rattle.std.proofs.lemmas.List.{map-append}
use Rattle.std.specs.Cmp.Lexicographic.{pointwise}
use Rattle.base_data.specs.declared.fault.Bare.{Bare}
use Rattle.base_data.specs.declared.name.FrameNo.{FrameNo}
use Rattle.base_data.specs.declared.name.Label.{Label}
use Rattle.base_data.specs.declared.name.Mark.{Mark}
use Rattle.stx_tree.specs.Renaming.{IsOneToOne, renamed, renamed_stamp}
use Rattle.stx_tree.specs.SameMarks.{same_marks}
use Rattle.stx_tree.specs.Tree.{Tree, atom, leaf, pair, vector}
use Rattle.stx_tree.specs.declared.stamp.Stamp.{Stamp}
use Rattle.stx_frames.specs.Renaming.{renamed_row, renamed_frame, renamed_scope}
use Rattle.stx_frames.specs.Rows.{Row, second_binder}
use Rattle.stx_frames.specs.Scope.{Scope, same_frame, rows_at, label_at, or_else, with_row, bound}
use Rattle.stx_frames.proofs.RenamingLaws.{same_marks-renamed, label_by-renamed}
use Rattle.law_hygiene.specs.Binder.{row_in, row_by, binder_of}
use Rattle.law_marks.specs.Alike.{renamed_frames, FramesAlike}

module _ (r : Mark → Mark) where
  with_row-renamed : (fs : Scope) (f : FrameNo) (row : Row) → renamed_scope r (with_row fs f row) ≡ with_row (renamed_scope r fs) f (renamed_row r row)
  with_row-renamed [] f row = refl
  with_row-renamed (e ∷ es) f row = by (same_frame f e.0) (with_row-renamed es f row)
    where
      by : (b : Bool) → renamed_scope r (with_row es f row) ≡ with_row (renamed_scope r es) f (renamed_row r row)
          → renamed_scope r (cond b ((e.0, e.1 ++ row ∷ []) ∷ es) (e ∷ with_row es f row))
          ≡ cond b ((e.0, map (renamed_row r) e.1 ++ renamed_row r row ∷ []) ∷ renamed_scope r es) (renamed_frame r e ∷ with_row (renamed_scope r es) f (renamed_row r row))
      by true h = ap (λ (rs : List Row). (e.0, rs) ∷ renamed_scope r es) (map-append (renamed_row r) e.1 (row ∷ []))
      by false h = ap (λ (x : Scope). renamed_frame r e ∷ x) h

  rows_at-renamed : (f : FrameNo) (fs : Scope) → rows_at f (renamed_scope r fs) ≡ map (renamed_row r) (rows_at f fs)
  rows_at-renamed f [] = refl
  rows_at-renamed f (e ∷ es) = by (same_frame f e.0) (rows_at-renamed f es)
    where
      by : (b : Bool) → rows_at f (renamed_scope r es) ≡ map (renamed_row r) (rows_at f es)
          → cond b (map (renamed_row r) e.1) (rows_at f (renamed_scope r es)) ≡ map (renamed_row r) (cond b e.1 (rows_at f es))
      by true h = refl
      by false h = h

  or_else-renamed : (o p : Option Row) → or_else (option_map (renamed_row r) o) (option_map (renamed_row r) p) ≡ option_map (renamed_row r) (or_else o p)
  or_else-renamed None p = refl
  or_else-renamed (Some x) p = refl

  module _ (one : IsOneToOne r) where
    row_in-renamed : (rs : List Row) (s : List ℕ) (ms : List Mark) → row_in (map (renamed_row r) rs) s (map r ms) ≡ option_map (renamed_row r) (row_in rs s ms)
    row_in-renamed [] s ms = refl
    row_in-renamed (x ∷ xs) s ms =
        ap (λ b. cond {A = Option Row} (pointwise nat_eq s x.symbol && b) (Some (renamed_row r x)) (row_in (map (renamed_row r) xs) s (map r ms))) (same_marks-renamed r one ms x.marks)
        ∙ by (pointwise nat_eq s x.symbol && same_marks ms x.marks) (row_in-renamed xs s ms)
      where
        by : (b : Bool) → row_in (map (renamed_row r) xs) s (map r ms) ≡ option_map (renamed_row r) (row_in xs s ms)
            → cond {A = Option Row} b (Some (renamed_row r x)) (row_in (map (renamed_row r) xs) s (map r ms)) ≡ option_map (renamed_row r) (cond b (Some x) (row_in xs s ms))
        by true h = refl
        by false h = h

    row_by-renamed : (fs : Scope) (s : List ℕ) (ts : List Stamp) → row_by (renamed_scope r fs) s (map (renamed_stamp r) ts) ≡ option_map (renamed_row r) (row_by fs s ts)
    row_by-renamed fs s [] = refl
    row_by-renamed fs s (t ∷ ts) =
        (λ i. or_else ((ap (λ rs. row_in rs s (map r t.marks)) (rows_at-renamed t.frame fs) ∙ row_in-renamed (rows_at t.frame fs) s t.marks) i) (row_by-renamed fs s ts i))
        ∙ or_else-renamed (row_in (rows_at t.frame fs) s t.marks) (row_by fs s ts)

    pub binder-renamed : (fs : Scope) (t : Tree) → binder_of (renamed_scope r fs) (renamed r t) ≡ option_map (renamed_row r) (binder_of fs t)
    binder-renamed fs (atom s a) = refl
    binder-renamed fs (leaf s x c) = row_by-renamed fs x c.stamps
    binder-renamed fs (pair s a d) = refl
    binder-renamed fs (vector s d) = refl

    or_none : (o : Option Label) → or_else o None ≡ o
    or_none None = refl
    or_none (Some l) = refl

    label_at-renamed : (fs : Scope) (f : FrameNo) (s : List ℕ) (ms : List Mark) → label_at (renamed_scope r fs) f s (map r ms) ≡ label_at fs f s ms
    label_at-renamed fs f s ms =
        sym (or_none (label_at (renamed_scope r fs) f s (map r ms))) ∙ label_by-renamed r one fs s (record { frame = f; marks = ms } ∷ []) ∙ or_none (label_at fs f s ms)

    bound-renamed : (fs : Scope) (f : FrameNo) (row : Row) → renamed_frames r (bound fs f row) ≡ bound (renamed_scope r fs) f (renamed_row r row)
    bound-renamed fs f row =
        by (is_some (label_at fs f row.symbol row.marks))
        ∙ ap (λ o. cond {A = Result Scope Bare} (is_some o) (Err (second_binder row.symbol)) (Ok (with_row (renamed_scope r fs) f (renamed_row r row)))) (sym (label_at-renamed fs f row.symbol row.marks))
      where
        by : (b : Bool) → renamed_frames r (cond b (Err (second_binder row.symbol)) (Ok (with_row fs f row)))
            ≡ cond {A = Result Scope Bare} b (Err (second_binder row.symbol)) (Ok (with_row (renamed_scope r fs) f (renamed_row r row)))
        by true = refl
        by false = ap Ok (with_row-renamed fs f row)

    pub frames-alike : FramesAlike r
    frames-alike = record { rows = with_row-renamed; bound = bound-renamed }
