-- Frames under other names of marks find the same.
use Rattle.std.specs.Prelude.{◌≡◌, ℕ, Bool, true, false, cond, ◌&&◌, nat_eq, List, [], ◌∷◌, map, Option, Some, refl}
use Rattle.std.proofs.Common.{◌∙◌, ap}
use Rattle.std.proofs.lemmas.Bool.Decides.{same_from_decides}
use Rattle.std.specs.Cmp.Lexicographic.{pointwise}
use Rattle.base_data.specs.declared.name.FrameNo.{FrameNo}
use Rattle.base_data.specs.declared.name.Label.{Label}
use Rattle.base_data.specs.declared.name.Mark.{Mark}
use Rattle.stx_tree.specs.Marks.{same_mark}
use Rattle.stx_tree.specs.Renaming.{IsOneToOne, renamed_stamp}
use Rattle.stx_tree.specs.SameMarks.{same_mark_decides, same_marks}
use Rattle.stx_tree.specs.declared.stamp.Stamp.{Stamp}
use Rattle.stx_frames.specs.Renaming.{renamed_row, renamed_scope}
use Rattle.stx_frames.specs.Rows.{Row, label_in}
use Rattle.stx_frames.specs.Scope.{Scope, same_frame, rows_at, or_else, label_by}

module _ (r : Mark → Mark) (one : IsOneToOne r) where
  same_mark-renamed : (m n : Mark) → same_mark (r m) (r n) ≡ same_mark m n
  same_mark-renamed m n =
      same_from_decides (same_mark (r m) (r n)) (same_mark m n)
      (λ h. one m n ((same_mark_decides (r m) (r n)).0 h), λ e. (same_mark_decides (r m) (r n)).1 (ap r e))
      (same_mark_decides m n)

  pub same_marks-renamed : (ms ns : List Mark) → same_marks (map r ms) (map r ns) ≡ same_marks ms ns
  same_marks-renamed [] [] = refl
  same_marks-renamed [] (n ∷ ns) = refl
  same_marks-renamed (m ∷ ms) [] = refl
  same_marks-renamed (m ∷ ms) (n ∷ ns) = λ i. same_mark-renamed m n i && same_marks-renamed ms ns i

  label_in-renamed : (rs : List Row) (s : List ℕ) (ms : List Mark) → label_in (map (renamed_row r) rs) s (map r ms) ≡ label_in rs s ms
  label_in-renamed [] s ms = refl
  label_in-renamed (x ∷ xs) s ms = λ i. cond {A = Option Label} (pointwise nat_eq s x.symbol && same_marks-renamed ms x.marks i) (Some x.label) (label_in-renamed xs s ms i)

  rows_at-renamed : (f : FrameNo) (fs : Scope) → rows_at f (renamed_scope r fs) ≡ map (renamed_row r) (rows_at f fs)
  rows_at-renamed f [] = refl
  rows_at-renamed f (e ∷ es) = by (same_frame f e.0) (rows_at-renamed f es)
    where
      by : (b : Bool) → rows_at f (renamed_scope r es) ≡ map (renamed_row r) (rows_at f es)
          → cond b (map (renamed_row r) e.1) (rows_at f (renamed_scope r es)) ≡ map (renamed_row r) (cond b e.1 (rows_at f es))
      by true h = refl
      by false h = h

  pub label_by-renamed : (fs : Scope) (s : List ℕ) (ts : List Stamp) → label_by (renamed_scope r fs) s (map (renamed_stamp r) ts) ≡ label_by fs s ts
  label_by-renamed fs s [] = refl
  label_by-renamed fs s (t ∷ ts) = λ i.
      or_else
      ((ap (λ rs. label_in rs s (map r t.marks)) (rows_at-renamed t.frame fs) ∙ label_in-renamed (rows_at t.frame fs) s t.marks) i)
      (label_by-renamed fs s ts i)
