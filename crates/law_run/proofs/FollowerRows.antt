-- Rows of which no two have one frame, symbol and marks can be bound one after another.
use Rattle.std.proofs.Common.{◌≡◌, Bool, true, false, List, [], ◌∷◌, map, None, refl, sym, ap, subst, ◌∙◌}
use Rattle.std.specs.Prelude.{◌&&◌}
use Rattle.base_data.proofs.ElementLemmas.{each-at, each-of, among-map}
use Rattle.base_data.specs.Elements.{Among, Each, Once}
use Rattle.base_data.specs.declared.name.FrameNo.{FrameNo}
use Rattle.stx_tree.specs.declared.frame_row.FrameRow.{FrameRow}
use Rattle.stx_frames.specs.Rows.{Row, is_of, label_in}
use Rattle.stx_frames.specs.Scope.{Scope, same_frame, rows_at, label_at, with_row, row_in}
use Rattle.stx_frames.proofs.FrameLaws.{rows_at-with_row, rows_at-other}
use Rattle.stx_frames.proofs.MemoLemmas.{same_frame_is}
use Rattle.stx_frames.proofs.ScopeLemmas.{same_frame-self}
use Rattle.law_core.specs.Follows.{key_of}
use Rattle.law_core.proofs.Decisions.{key_decides}
use Rattle.law_run.specs.Bound.{AreBound}
use Rattle.law_run.proofs.Rows.{is-bound, label-end}

abbrev IsFree : Scope → FrameRow → Type 0
IsFree fs q = label_at fs q.frame q.symbol q.marks ≡ None

-- a row more, of another frame, symbol or marks
free-on : (fs : Scope) (r q : FrameRow) → (key_of r ≡ key_of q → ⊥) → IsFree fs q → IsFree (with_row fs r.frame (row_in r)) q
free-on fs r q apart free = by (same_frame q.frame r.frame) refl
  where
    other : same_frame q.frame r.frame ≡ true → (b : Bool) → is_of q.symbol q.marks (row_in r) ≡ b → b ≡ false
    other is true e = absurd (apart (sym ((key_decides (key_of q) (key_of r)).0 (ap (λ c. c && is_of q.symbol q.marks (row_in r)) is ∙ e))))
    other is false e = refl

    elsewhere : same_frame q.frame r.frame ≡ false → q.frame ≡ r.frame → ⊥
    elsewhere not e = let alike : same_frame q.frame r.frame ≡ true = ap (same_frame q.frame) (sym e) ∙ same_frame-self q.frame in absurd (cc)

    by : (b : Bool) → same_frame q.frame r.frame ≡ b → IsFree (with_row fs r.frame (row_in r)) q
    by true is =
        let same : q.frame ≡ r.frame = same_frame_is q.frame r.frame is in
        ap (λ (f : FrameNo). label_in (rows_at f (with_row fs r.frame (row_in r))) q.symbol q.marks) same
        ∙ ap (λ (rows : List Row). label_in rows q.symbol q.marks) (rows_at-with_row fs r.frame (row_in r))
        ∙ label-end (rows_at r.frame fs) (row_in r) q.symbol q.marks
        (ap (λ (f : FrameNo). label_in (rows_at f fs) q.symbol q.marks) (sym same) ∙ free)
        (other is (is_of q.symbol q.marks (row_in r)) refl)
    by false is = ap (λ (rows : List Row). label_in rows q.symbol q.marks) (rows_at-other fs r.frame q.frame (row_in r) (elsewhere is)) ∙ free

bound-behind : (fs : Scope) (rows : List FrameRow) → Once (map key_of rows) → Each (IsFree fs) rows → AreBound fs rows
bound-behind fs [] once free = tt
bound-behind fs (r ∷ rows) once free = (
  is-bound fs r.frame (row_in r) free.0,
  bound-behind (with_row fs r.frame (row_in r)) rows once.1
      (each-of (IsFree (with_row fs r.frame (row_in r))) rows
      (λ q a. free-on fs r q (λ e. once.0 (subst (Among (map key_of rows)) (sym e) (among-map key_of rows q a))) (each-at (IsFree fs) rows q free.1 a))),
)

pub rows-bound : (rows : List FrameRow) → Once (map key_of rows) → AreBound [] rows
rows-bound rows once = bound-behind [] rows once (each-of (IsFree []) rows (λ q a. refl))
