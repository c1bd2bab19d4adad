-- What a look-up by symbol and marks finds in a table.
use Rattle.std.specs.Prelude.{◌≡◌, Bool, true, false, cond, List, [], ◌∷◌, ◌++◌, Option, None, Some, is_some, Result, Ok, Err, refl}
use Rattle.std.proofs.Common.{ℕ, length, ◌∙◌, sym, ap, true≢false, append_assoc, append-nil, arith}
use Rattle.std.specs.Map.{lookup}
use Rattle.std.specs.Option.{option_copied}
use Rattle.std.specs.Borrow.{Bor}
use Rattle.indexmap.specs.IndexMap.{IndexMap, insert_entry}
use Rattle.indexmap.proofs.CallerLemmas.{insert_entry-new}
use Rattle.base_data.specs.declared.fault.Bare.{Bare}
use Rattle.base_data.specs.declared.name.FrameNo.{FrameNo}
use Rattle.base_data.specs.declared.name.Label.{Label}
use Rattle.base_data.specs.declared.name.Mark.{Mark}
use Rattle.stx_frames.specs.declared.key.Key.{Key}
use Rattle.stx_frames.specs.contracts.key.KeyPartialEq.TheImpl as key_eq
use Rattle.stx_frames.specs.Rows.{Row, row_of, rows_of, label_in, is_of, put_row, second_binder}
use Rattle.stx_frames.specs.Listed.{row_from, rows_from}

abbrev pub same_key : Key → Key → Bool
same_key = key_eq.eq-value.it

pub lookup-rows : (k : Key) (es : List (Key × Label)) → lookup (same_key k) es ≡ label_in (rows_of es) k.symbol k.marks
lookup-rows k [] = refl
lookup-rows k (e ∷ es) = ap (cond (is_of k.symbol k.marks (row_of e)) (Some e.1)) (lookup-rows k es)

rows_of-append : (es fs : List (Key × Label)) → rows_of (es ++ fs) ≡ rows_of es ++ rows_of fs
rows_of-append [] fs = refl
rows_of-append (e ∷ es) fs = ap (λ rs. row_of e ∷ rs) (rows_of-append es fs)

-- whether a look-up found something
pub is_some-copied : {A : Type 0} (o : Option (Bor A)) → is_some o ≡ is_some (option_copied o)
is_some-copied None = refl
is_some-copied (Some x) = refl

none_if : {A : Type 0} (o : Option A) → is_some o ≡ false → o ≡ None
none_if None h = refl
none_if (Some x) h = absurd (true≢false h)

pub put_taken : (rs : List Row) (r : Row) → is_some (label_in rs r.symbol r.marks) ≡ true → put_row rs r ≡ Err (second_binder r.symbol)
put_taken rs r h = ap (λ b. cond {A = Result (List Row) Bare} b (Err (second_binder r.symbol)) (Ok (rs ++ r ∷ []))) h

pub put_new : (rs : List Row) (r : Row) → is_some (label_in rs r.symbol r.marks) ≡ false → put_row rs r ≡ Ok (rs ++ r ∷ [])
put_new rs r h = ap (λ b. cond {A = Result (List Row) Bare} b (Err (second_binder r.symbol)) (Ok (rs ++ r ∷ []))) h

-- what the first rows and those that came later give together
module _ (s : List ℕ) (ms : List Mark) where
  pub found_first : (es fs : List (Key × Label)) (l : Label) → label_in (rows_of es) s ms ≡ Some l → label_in (rows_of (es ++ fs)) s ms ≡ Some l
  found_first [] fs l h = absurd (cc)
  found_first (e ∷ es) fs l h = go (is_of s ms (row_of e)) (found_first es fs l) h
    where
      go : (b : Bool) → (label_in (rows_of es) s ms ≡ Some l → label_in (rows_of (es ++ fs)) s ms ≡ Some l)
          → cond b (Some e.1) (label_in (rows_of es) s ms) ≡ Some l → cond b (Some e.1) (label_in (rows_of (es ++ fs)) s ms) ≡ Some l
      go true others h = h
      go false others h = others h

  pub found_later : (es fs : List (Key × Label)) → label_in (rows_of es) s ms ≡ None → label_in (rows_of (es ++ fs)) s ms ≡ label_in (rows_of fs) s ms
  found_later [] fs h = refl
  found_later (e ∷ es) fs h = go (is_of s ms (row_of e)) (found_later es fs) h
    where
      go : (b : Bool) → (label_in (rows_of es) s ms ≡ None → label_in (rows_of (es ++ fs)) s ms ≡ label_in (rows_of fs) s ms)
          → cond b (Some e.1) (label_in (rows_of es) s ms) ≡ None → cond b (Some e.1) (label_in (rows_of (es ++ fs)) s ms) ≡ label_in (rows_of fs) s ms
      go true others h = absurd (cc)
      go false others h = others h

  none_later : (es fs : List (Key × Label)) → is_some (label_in (rows_of (es ++ fs)) s ms) ≡ false → is_some (label_in (rows_of fs) s ms) ≡ false
  none_later [] fs h = h
  none_later (e ∷ es) fs h = go (is_of s ms (row_of e)) (none_later es fs) h
    where
      go : (b : Bool) → (is_some (label_in (rows_of (es ++ fs)) s ms) ≡ false → is_some (label_in (rows_of fs) s ms) ≡ false)
          → is_some (cond b (Some e.1) (label_in (rows_of (es ++ fs)) s ms)) ≡ false → is_some (label_in (rows_of fs) s ms) ≡ false
      go true others h = absurd (true≢false h)
      go false others h = others h

-- a new key's row goes last
pub rows_of-later : {S : Type 0} (es : List (Key × Label)) (m : IndexMap Key Label S) (k : Key) (l : Label)
    → is_some (label_in (rows_of (es ++ m.entries)) k.symbol k.marks) ≡ false
    → rows_of (es ++ insert_entry same_key m.entries k l) ≡ rows_of (es ++ m.entries) ++ (row_of (k, l) ∷ [])
rows_of-later es m k l h =
    let none = none_if (label_in (rows_of m.entries) k.symbol k.marks) (none_later k.symbol k.marks es m.entries h) in
    ap (λ fs. rows_of (es ++ fs)) (insert_entry-new same_key m k l (lookup-rows k m.entries ∙ none))
    ∙ ap rows_of (sym (append_assoc es m.entries ((k, l) ∷ []))) ∙ rows_of-append (es ++ m.entries) ((k, l) ∷ [])

pub rows_of-first : (es fs : List (Key × Label)) (e : Key × Label) → length fs ≡ 0 → rows_of ((es ++ e ∷ []) ++ fs) ≡ rows_of (es ++ fs) ++ (row_of e ∷ [])
rows_of-first es [] e h = ap rows_of (append-nil (es ++ e ∷ [])) ∙ rows_of-append es (e ∷ []) ∙ ap (λ xs. rows_of xs ++ (row_of e ∷ [])) (sym (append-nil es))
rows_of-first es (f ∷ fs) e h = absurd (omega arith)

pub rows_from-both : (f : FrameNo) (es fs : List (Key × Label)) → rows_from f (rows_of (es ++ fs)) ≡ rows_from f (rows_of es) ++ rows_from f (rows_of fs)
rows_from-both f [] fs = refl
rows_from-both f (e ∷ es) fs = ap (λ rs. row_from f (row_of e) ∷ rs) (rows_from-both f es fs)
