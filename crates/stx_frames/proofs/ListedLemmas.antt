-- Steps of the loops that copy rows.
use Rattle.std.specs.Prelude.{◌≡◌, ℕ, suc, ◌+◌, ◌-◌, ◌<◌, ◌≤◌, List, [], ◌∷◌, ◌++◌, drop, get_or, length, Option, None, Some, slice_get, refl}
use Rattle.std.proofs.Common.{sym, ◌∙◌, ap, arith, append_assoc, add-one, drop-cons}
use Rattle.std.specs.Option.{option_map}
use Rattle.std.proofs.iter.runs.Lists.{slice_get-map}
use Rattle.std.proofs.lemmas.Option.{get_or_from_slice_get}
use Rattle.base_data.specs.declared.library.LibName.{LibName}
use Rattle.base_data.specs.declared.name.FrameNo.{FrameNo}
use Rattle.base_data.specs.declared.name.Label.{Label}
use Rattle.stx_tree.specs.declared.frame_row.FrameRow.{FrameRow}
use Rattle.stx_frames.specs.declared.key.Key.{Key}
use Rattle.stx_frames.specs.Rows.{Row, row_of, rows_of}
use Rattle.stx_frames.specs.Scope.{Scope}
use Rattle.stx_frames.specs.Listed.{row_from, rows_from, placed, put_place}

pub rows_of-at : (es : List (Key × Label)) (i : ℕ) (e : Key × Label) → Some e ≡ slice_get es i → Some (row_of e) ≡ slice_get (rows_of es) i
rows_of-at es i e h = ap (option_map row_of) h ∙ sym (slice_get-map row_of es i)

pub copied_more : (f : FrameNo) (rs : List Row) (i : ℕ) (r : FrameRow) (list all : List FrameRow) → i < length rs → Some r ≡ option_map (row_from f) (slice_get rs i)
    → list ++ rows_from f (drop i rs) ≡ all → (list ++ r ∷ []) ++ rows_from f (drop (i + 1) rs) ≡ all
copied_more f rs i r list all l h inv = by (slice_get rs i) refl h
  where
    by : (o : Option Row) → slice_get rs i ≡ o → Some r ≡ option_map (row_from f) o → (list ++ r ∷ []) ++ rows_from f (drop (i + 1) rs) ≡ all
    by None e k = absurd (cc)
    by (Some x) e k =
        let same : r ≡ row_from f x = cc in
        let here : drop i rs ≡ x ∷ drop (i + 1) rs = rw (add-one, drop-cons rs i x) (ap (λ y. y ∷ drop (suc i) rs) (get_or_from_slice_get rs i x x e)) in
        append_assoc list (r ∷ []) (rows_from f (drop (i + 1) rs)) ∙ ap (λ y. list ++ y ∷ rows_from f (drop (i + 1) rs)) same ∙ ap (λ ys. list ++ rows_from f ys) (sym here) ∙ inv

pub placed_more : (l : LibName) (fs : Scope) (i : ℕ) (d : FrameNo × List Row) → i < length fs → put_place l (get_or fs i d) (placed l (drop (i + 1) fs)) ≡ placed l (drop i fs)
placed_more l fs i d h =
    let here : drop i fs ≡ get_or fs i d ∷ drop (i + 1) fs = rw (add-one, drop-cons fs i d) in
    sym (ap (λ (x : Scope). placed l x) here)

pub placed_less : (l : LibName) (fs : Scope) (n : ℕ) (d : FrameNo × List Row) (before after : List (ℕ × List FrameRow)) → 0 < n → n ≤ length fs
    → before ≡ placed l (drop n fs) → after ≡ put_place l (get_or fs (n - 1) d) before → after ≡ placed l (drop (n - 1) fs)
placed_less l fs n d before after p h b a =
    let less : n - 1 < length fs = omega arith in
    let again : n - 1 + 1 ≡ n = omega arith in
    a ∙ ap (put_place l (get_or fs (n - 1) d)) (b ∙ ap (λ k. placed l (drop k fs)) (sym again)) ∙ placed_more l fs (n - 1) d less
