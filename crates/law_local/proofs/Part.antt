-- Some of the loaded libraries, with all that they need: read again by themselves, each needs the same ones.
use Rattle.std.proofs.Common.{◌≡◌, ℕ, zero, suc, ◌+◌, ◌<◌, false, List, [], ◌∷◌, ◌++◌, length, Option, Some, None, refl, sym, ap, subst, ◌∙◌, inl, inr, arith, length-append}
use Rattle.std.specs.Prelude.{◌⊎◌, is_some, slice_get}
use Rattle.std.proofs.lemmas.Option.{slice_get_within}
use Rattle.load_builtin.specs.Exports.{exports}
use Rattle.load_file_names.specs.File.{file_of}
use Rattle.load_forms.specs.declared.set.Import.{Import}
use Rattle.load_import.specs.Table.{value_of}
use Rattle.load_import.specs.declared.set.ImportSet.{ImportSet}
use Rattle.load_files.specs.Found.{needed}
use Rattle.load_files.specs.declared.found.Found.{Found}
use Rattle.law_load.specs.Laws.{Libraries, IsAt, Needs}
use Rattle.law_load.proofs.RowLemmas.{at_first, at_end, at_cases, row_of, no_row}
use Rattle.law_local.specs.Local.{AreLoaded}
use Rattle.law_local.specs.Recorded.{unmarked, found_behind, row_behind}
use Rattle.law_local.proofs.Marked.{IsMarkedFor, IsMarkedBy, imports_mark, imports_cases, length-unmarked, none_marked}
use Rattle.law_local.proofs.Rising.{Among, Rising, rising_same, rising_from, mark_from, mark_among, places_at, place_from, place_among, rising_at, rising_once, among_get, get_among, rising_end}

-- what stands at a place of one of two lists that are as long
pub same_place : {A B : Type 0} (xs : List A) (ys : List B) (i : ℕ) (x : A) → length xs ≡ length ys → slice_get xs i ≡ Some x → (y : B) × (slice_get ys i ≡ Some y)
same_place [] ys i x e h = absurd (cc)
same_place (a ∷ xs) [] i x e h = absurd (omega (arith, e))
same_place (a ∷ xs) (b ∷ ys) zero x e h = (b, refl)
same_place (a ∷ xs) (b ∷ ys) (suc i) x e h = same_place xs ys i x (omega (arith, e)) h

-- one library stands at a place
library_once : (loaded : Libraries) (p : ℕ) (file other : List ℕ) (a b : Found) → IsAt loaded p file a → IsAt loaded p other b → a ≡ b
library_once loaded p file other a b h k =
    let e : ◌≡◌ {A = Option (List ℕ × Found)} (Some (file, a)) (Some (other, b)) = sym h ∙ k in
    let rows : ◌≡◌ {A = List ℕ × Found} (file, a) (other, b) = cc in
    ap (λ (r : List ℕ × Found). r.1) rows

file_once : (loaded : Libraries) (p : ℕ) (file other : List ℕ) (a b : Found) → IsAt loaded p file a → IsAt loaded p other b → file ≡ other
file_once loaded p file other a b h k =
    let e : ◌≡◌ {A = Option (List ℕ × Found)} (Some (file, a)) (Some (other, b)) = sym h ∙ k in
    let rows : ◌≡◌ {A = List ℕ × Found} (file, a) (other, b) = cc in
    ap (λ (r : List ℕ × Found). r.0) rows

-- the value of a row's name
value_there : (name : List ℕ) (rows : Libraries) (i : ℕ) (v : Found) → IsAt rows i name v → (w : Found) × (value_of name rows ≡ Some w)
value_there name rows i v at = by (value_of name rows) refl
  where
    by : (o : Option Found) → value_of name rows ≡ o → (w : Found) × (value_of name rows ≡ Some w)
    by None e = absurd (no_row name rows i v (ap is_some e) at)
    by (Some w) e = (w, e)

module _ (loaded : Libraries) (are : AreLoaded loaded) where
  -- a row that stands for the library at a place
  pub record IsCopy (qs : List ℕ) (a : ℕ) (file : List ℕ) (g : Found) : Type 0 where
    pub place : ℕ
    pub among : slice_get qs a ≡ Some place
    pub library : Found
    pub there : IsAt loaded place file library
    pub own : g.place ≡ a
    pub needs : (q : ℕ) → Needs g q → (p : ℕ) × (slice_get qs q ≡ Some p) × Needs library p
    pub needed_too : (q p : ℕ) → slice_get qs q ≡ Some p → Needs library p → Needs g q

  -- rows that stand for the libraries at some places
  pub record Copies (qs : List ℕ) (rows : Libraries) : Type 0 where
    pub many : length rows ≡ length qs
    pub rise : Rising qs
    pub each : (a : ℕ) (file : List ℕ) (g : Found) → IsAt rows a file g → IsCopy qs a file g

  module _ (qs : List ℕ) (rows : Libraries) (c : Copies qs rows) (p : ℕ) (file : List ℕ) (f : Found) (at : IsAt loaded p file f)
      (behind : (b : ℕ) → Needs f b → Among qs b) where
    g : Found
    g = found_behind rows f.opened

    -- the library of an import stands at one place
    imported_at : (n : ℕ) (i : Import) → slice_get f.opened.form.imports n ≡ Some i → is_some (exports i.set.library) ≡ false
        → (b : ℕ) (l : Found) → IsAt loaded b (file_of i.set.library) l → Needs f b
    imported_at n i among not_given b l there =
        let x = (are.after p file f at n i among).loaded_before not_given in
        subst (Needs f) (are.once.once x.place b (file_of i.set.library) x.library l x.there there) x.needed

    -- what the row needs stands for what the library needs
    module _ (q : ℕ) where
      Stand : Type 0
      Stand = (b : ℕ) × (slice_get qs q ≡ Some b) × Needs f b

      by_copy : (i : Import) (l : Found) (a : ℕ) → (x : IsCopy qs a (file_of i.set.library) l) → Needs f x.place → (q ≡ l.place) ⊎ Needs l q → Stand
      unfolding Stand
      by_copy i l a x need (inl e) = (x.place, ap (slice_get qs) (e ∙ x.own) ∙ x.among, need)
      by_copy i l a x need (inr m) =
          let y = x.needs q m in
          let n = are.closed p file f at x.place need in
          let same : n.library ≡ x.library = library_once loaded x.place n.file (file_of i.set.library) n.library x.library n.there x.there in
          (y.0, y.1, n.also y.0 (subst (λ (z : Found). Needs z y.0) (sym same) y.2))

      by_mark : IsMarkedBy rows f.opened.form.imports q → Stand
      by_mark m =
          let r = row_of (file_of m.import.set.library) rows m.marked.library m.marked.there in
          let x = c.each r.0 (file_of m.import.set.library) m.marked.library r.1 in
          by_copy m.import m.marked.library r.0 x (imported_at m.n m.import m.among m.marked.not_given x.place x.library x.there) m.marked.brought

      needs_stand : Needs (found_behind rows f.opened) q → Stand
      needs_stand h = elim (imports_cases rows (unmarked (length rows)) f.opened.form.imports q h) [
        | inl none ↦ absurd (none_marked (length rows) q none)
        | inr m ↦ by_mark m
      ]

    -- and the other way round
    module _ (q b : ℕ) (here : slice_get qs q ≡ Some b) where
      within : q < length (unmarked (length rows))
      within =
          let l = slice_get_within qs q b here in
          let m = length-unmarked (length rows) in
          let n = c.many in
          omega (arith, l, m, n)

      -- the row for a library that brings it
      marked_for : (set : ImportSet) → is_some (exports set.library) ≡ false → (from : ℕ) (l : Found) → IsAt loaded from (file_of set.library) l → Needs f from
          → (b ≡ from) ⊎ Needs l b → IsMarkedFor rows set q
      marked_for set not_given from l there need brought = by_row a.0 a.1
        where
          a : (j : ℕ) × (slice_get qs j ≡ Some from)
          a = among_get qs from (behind from need)

          by_value : (j : ℕ) → slice_get qs j ≡ Some from → (w : Found) → value_of (file_of set.library) rows ≡ Some w → IsMarkedFor rows set q
          by_value j at_j w v =
              let r = row_of (file_of set.library) rows w v in
              let x = c.each r.0 (file_of set.library) w r.1 in
              let same_place : x.place ≡ from = are.once.once x.place from (file_of set.library) x.library l x.there there in
              let x_there : IsAt loaded from (file_of set.library) x.library = subst (λ n. IsAt loaded n (file_of set.library) x.library) same_place x.there in
              let same : x.library ≡ l = library_once loaded from (file_of set.library) (file_of set.library) x.library l x_there there in
              record {
                not_given = not_given;
                library = w;
                there = v;
                brought = elim brought [
                  | inl e ↦ inl (rising_once qs q r.0 x.place c.rise (here ∙ ap Some (e ∙ sym same_place)) x.among ∙ sym x.own)
                  | inr m ↦ inr (x.needed_too q b here (subst (λ (z : Found). Needs z b) (sym same) m))
                ];
              }

          by_row : (j : ℕ) → slice_get qs j ≡ Some from → IsMarkedFor rows set q
          by_row j at_j =
              let y = same_place qs rows j from (sym c.many) at_j in
              let x = c.each j y.0.0 y.0.1 y.1 in
              let both : ◌≡◌ {A = Option ℕ} (Some x.place) (Some from) = sym x.among ∙ at_j in
              let same : x.place ≡ from = cc in
              let x_there : IsAt loaded from y.0.0 x.library = subst (λ n. IsAt loaded n y.0.0 x.library) same x.there in
              let name : y.0.0 ≡ file_of set.library = file_once loaded from y.0.0 (file_of set.library) x.library l x_there there in
              let v = value_there (file_of set.library) rows j y.0.1 (subst (λ n. IsAt rows j n y.0.1) name y.1) in
              by_value j at_j v.0 v.1

      stands_needed : Needs f b → Needs (found_behind rows f.opened) q
      stands_needed need =
          let x = are.only p file f at b need in
          let y = x.brings in
          let first = imported_at x.n x.import x.among y.not_given y.from y.library y.there in
          imports_mark rows (unmarked (length rows)) f.opened.form.imports q x.n x.import within x.among
          (marked_for x.import.set y.not_given y.from y.library y.there first y.brought)

    -- ---- the places are the same

    pub same_needed : places_at qs (needed (found_behind rows f.opened)) ≡ needed f
    unfolding Stand
    same_needed = rising_same (places_at qs (needed (found_behind rows f.opened))) (needed f)
        (rising_at qs (needed (found_behind rows f.opened)) c.rise (rising_from zero (found_behind rows f.opened).needs)) (rising_from zero f.needs) forth again
      where
        forth : (n : ℕ) → Among (places_at qs (needed (found_behind rows f.opened))) n → Among (needed f) n
        forth n a =
            let x = place_from qs (needed (found_behind rows f.opened)) n a in
            let m = mark_from zero (found_behind rows f.opened).needs x.at x.among in
            let is = m.is in
            let at_is : x.at ≡ m.place = omega (arith, is) in
            let y = needs_stand m.place m.marked in
            let x_there = x.there in
            let y_there : slice_get qs x.at ≡ Some y.0 = ap (slice_get qs) at_is ∙ y.1 in
            let same : y.0 ≡ n = cc in
            mark_among zero f.needs y.0 n (omega (arith, same)) y.2

        again : (n : ℕ) → Among (needed f) n → Among (places_at qs (needed (found_behind rows f.opened))) n
        again n a =
            let m = mark_from zero f.needs n a in
            let is = m.is in
            let n_is : n ≡ m.place = omega (arith, is) in
            let need : Needs f n = subst (Needs f) (sym n_is) m.marked in
            let j = among_get qs n (behind n need) in
            place_among qs (needed (found_behind rows f.opened)) j.0 n (mark_among zero (found_behind rows f.opened).needs j.0 j.0 (omega arith) (stands_needed j.0 n j.1 need)) j.1

    -- ---- one more row

    module _ (low : (q : ℕ) → Among qs q → q < p) where
      older : (a : ℕ) (name : List ℕ) (l : Found) → IsCopy qs a name l → IsCopy (qs ++ p ∷ []) a name l
      older a name l x = record {
        place = x.place;
        among = at_first qs (p ∷ []) a x.place x.among;
        library = x.library;
        there = x.there;
        own = x.own;
        needs = λ q h. let y = x.needs q h in (y.0, at_first qs (p ∷ []) q y.0 y.1, y.2);
        needed_too = λ q b h need. elim (at_cases qs p q b h) [
          | inl old ↦ x.needed_too q b old need
          | inr new ↦
              let l = (are.closed x.place name x.library x.there b need).before in
              let m = low x.place (get_among qs a x.place x.among) in
              let e = are.once.in_order x.place name x.library x.there in
              let same : p ≡ b = new.1 in
              absurd (omega (arith, l, m, e, same))
        ];
      }

      newest : IsCopy (qs ++ p ∷ []) (length rows) (file_of f.opened.form.name) (found_behind rows f.opened)
      unfolding Stand
      newest = record {
        place = p;
        among = ap (slice_get (qs ++ p ∷ [])) c.many ∙ at_end qs p;
        library = f;
        there = subst (λ n. IsAt loaded p n f) (are.once.named p file f at) at;
        own = refl;
        needs = λ q h. let y = needs_stand q h in (y.0, at_first qs (p ∷ []) q y.0 y.1, y.2);
        needed_too = λ q b h need. elim (at_cases qs p q b h) [
          | inl old ↦ stands_needed q b old need
          | inr new ↦
              let l = (are.closed p file f at b need).before in
              let e = are.once.in_order p file f at in
              let same : p ≡ b = new.1 in
              absurd (omega (arith, l, e, same))
        ];
      }

      pub copies_more : Copies (qs ++ p ∷ []) (rows ++ row_behind rows f.opened ∷ [])
      copies_more = record {
        many = length-append rows (row_behind rows f.opened ∷ []) ∙ ap (λ n. n + 1) c.many ∙ sym (length-append qs (p ∷ []));
        rise = rising_end qs p c.rise low;
        each = λ a name l h. elim (at_cases rows (row_behind rows f.opened) a (name, l) h) [
          | inl old ↦ older a name l (c.each a name l old)
          | inr new ↦ subst (λ (r : List ℕ × Found). IsCopy (qs ++ p ∷ []) a r.0 r.1) new.1
              (subst (λ n. IsCopy (qs ++ p ∷ []) n (file_of f.opened.form.name) (found_behind rows f.opened)) (sym new.0) newest)
        ];
      }

  pub no_copies : Copies [] []
  no_copies = record { many = refl; rise = tt; each = λ a file g h. absurd (cc) }
