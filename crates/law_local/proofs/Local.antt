-- A library and what it needs, expanded alone, give the records that the run gave.
use Rattle.std.proofs.Common.{◌≡◌, ℕ, zero, suc, ◌<◌, List, [], ◌∷◌, ◌++◌, length, Result, Ok, Err, Option, Some, None, refl, sym, ap, subst, ◌∙◌, inl, inr, arith, append_assoc, append-nil}
use Rattle.std.specs.Prelude.{map, slice_get}
use Rattle.std.proofs.lemmas.Option.{slice_get_within}
use Rattle.base_data.specs.Gives.{◌>>=◌}
use Rattle.base_data.specs.declared.fault.Fault.{Fault}
use Rattle.core_language.specs.declared.record.CompiledLibrary.{CompiledLibrary}
use Rattle.load_file_names.specs.File.{file_of}
use Rattle.load_forms.specs.Form.{library_body}
use Rattle.load_import.specs.Turns.{turns}
use Rattle.run_library.specs.Library.{expand_library}
use Rattle.run_library.specs.Loaded.{all_records}
use Rattle.load_files.specs.Found.{needed, absent_at, held_at}
use Rattle.load_files.specs.declared.found.Found.{Found}
use Rattle.load_files.specs.declared.found.Loading.{Loading}
use Rattle.load_files.specs.declared.found.Opened.{Opened}
use Rattle.load_files.specs.declared.found.Source.{Source}
use Rattle.law_load.specs.Laws.{Libraries, IsAt, Needs}
use Rattle.law_load.proofs.Invariant.{Sound}
use Rattle.law_load.proofs.RowLemmas.{at_first}
use Rattle.base_outside.specs.Contents.{Paths}
use Rattle.expand_standing.specs.Start.{records_at}
use Rattle.law_local.specs.Behind.{RunBase, behind, expand_behind, behind_next, records_behind}
use Rattle.law_local.proofs.BehindLemmas.{all_same}
use Rattle.law_local.specs.Recorded.{open_next, opened_of, found_behind, row_behind, rows_behind, records_of}
use Rattle.law_local.specs.Entry.{IsGroup}
use Rattle.law_local.specs.Local.{HaveGroups, sources_at, all_sources, AreLoaded, IsNextLibrary, behind_needed, IsLocal, EntriesHold, EntriesAreSound, ReuseIsRight}
use Rattle.law_local.proofs.MadeLemmas.{as_many_records, made_at}
use Rattle.law_local.proofs.Rising.{Among, Rising, rising_from, mark_from, mark_among, there_at, records_twice, records_end, records_first, below_in, above_in, among_cases, among_here}
use Rattle.law_local.proofs.Sources.{sources_end}
use Rattle.law_local.proofs.RecordLemmas.{library-path}
use Rattle.law_local.proofs.LaidOut.{AllAsHeld, laid_out}
use Rattle.law_local.proofs.Part.{Copies, no_copies, same_needed, copies_more}

-- what the laws of loading promise
pub are_loaded : (s : Loading) → Sound s.done s.begun → AreLoaded s.done
are_loaded s w = record {
  once = w.once;
  after = λ place file library at. (w.stand place file library at).after;
  closed = λ place file library at. (w.stand place file library at).closed;
  only = λ place file library at. (w.stand place file library at).only;
}

-- ---- steps over lists

turns_on : {S X : Type 0} (step : S → X → Result S Fault) (xs ys : List X) (s : S) → turns step s (xs ++ ys) ≡ (turns step s xs >>= (λ t. turns step t ys))
turns_on step [] ys s = refl
turns_on {S} step (x ∷ xs) ys s = by (step s x) (λ t. turns_on step xs ys t)
  where
    by : (r : Result S Fault) → ((t : S) → turns step t (xs ++ ys) ≡ (turns step t xs >>= (λ u. turns step u ys)))
        → (r >>= (λ t. turns step t (xs ++ ys))) ≡ ((r >>= (λ t. turns step t xs)) >>= (λ u. turns step u ys))
    by (Ok t) rest = rest t
    by (Err f) rest = refl

pub turns_one : {S X : Type 0} (step : S → X → Result S Fault) (s : S) (x : X) → turns step s (x ∷ []) ≡ step s x
turns_one {S} step s x = by (step s x)
  where
    by : (r : Result S Fault) → (r >>= (λ t. Ok t)) ≡ r
    by (Ok t) = refl
    by (Err f) = refl

pub turns_to : {S X : Type 0} (step : S → X → Result S Fault) (xs ys : List X) (s t : S) → turns step s xs ≡ Ok t → turns step s (xs ++ ys) ≡ turns step t ys
turns_to step xs ys s t h = turns_on step xs ys s ∙ ap (λ r. r >>= (λ u. turns step u ys)) h

-- ---- reading the sources

open_absent : (paths : List (List ℕ)) (os : List Opened) → turns open_next os (map absent_at paths) ≡ Ok os
open_absent [] os = refl
open_absent (p ∷ ps) os = open_absent ps os

same_absent : (file : List ℕ) (roots : List (List ℕ)) → map (λ (r : List ℕ). absent_at (r ++ file)) roots ≡ map absent_at (map (λ (r : List ℕ). r ++ file) roots)
same_absent file [] = refl
same_absent file (r ∷ rs) = ap (λ (ss : List Source). absent_at (r ++ file) ∷ ss) (same_absent file rs)

open_group : (roots : List (List ℕ)) (sources : List Source) (o : Opened) → IsGroup roots sources o → (os : List Opened) → turns open_next os sources ≡ Ok (os ++ o ∷ [])
open_group roots sources o g os =
    ap (turns open_next os) (g.parts ∙ ap (λ (ss : List Source). ss ++ held_at o.path g.bytes ∷ []) (same_absent (file_of o.form.name) g.before))
    ∙ turns_to open_next (map absent_at (map (λ (r : List ℕ). r ++ file_of o.form.name) g.before)) (held_at o.path g.bytes ∷ []) os os (open_absent (map (λ (r : List ℕ). r ++ file_of o.form.name) g.before) os)
    ∙ turns_one open_next os (held_at o.path g.bytes)
    ∙ ap (λ r. r >>= (λ x. Ok (os ++ x ∷ []))) g.read

rows_end : (os : List Opened) (rows : Libraries) (o : Opened) → rows_behind rows (os ++ o ∷ []) ≡ rows_behind rows os ++ row_behind (rows_behind rows os) o ∷ []
rows_end [] rows o = refl
rows_end (x ∷ os) rows o = rows_end os (rows ++ row_behind rows x ∷ []) o

module _ (base : RunBase) where
  -- ---- the libraries before one, and their records

  module _ (roots : List (List ℕ)) (group : Found → List Source) (loaded : Libraries) (are : AreLoaded loaded) (groups : HaveGroups roots group loaded)
      (before : Libraries) (after : Libraries) (parts : loaded ≡ before ++ after) (records : List CompiledLibrary) (recorded : records_behind base before ≡ Ok records) where
    as_many : length records ≡ length before
    as_many = as_many_records base before records recorded

    still_there : (p : ℕ) (row : List ℕ × Found) → slice_get before p ≡ Some row → slice_get loaded p ≡ Some row
    still_there p row h = subst (λ (ls : Libraries). slice_get ls p ≡ Some row) (sym parts) (at_first before after p row h)

    -- the record that the run gave to one of them
    made_here : (p : ℕ) (file : List ℕ) (f : Found) → slice_get before p ≡ Some (file, f) → (r : CompiledLibrary) × (slice_get records p ≡ Some r) × (expand_behind base records f (library_body f.opened.«data») ≡ Ok r)
    made_here p file f h =
        let within = slice_get_within before p (file, f) h in
        let x = there_at records p (omega (arith, within, as_many)) in
        let m = made_at base before records recorded p file f x.0 h x.1 in
        let many = m.many in
        let at = still_there p (file, f) h in
        let place = are.once.in_order p file f at in
        let low : (q : ℕ) → Among (needed f) q → q < length m.before = λ q a.
        let k = mark_from zero f.needs q a in
        let is = k.is in
        let b = (are.closed p file f at k.place k.marked).before in
        omega (arith, is, b, place, many) in
        let same : records_at records (needed f) ≡ records_at m.before (needed f) = ap (λ (rs : List CompiledLibrary). records_at rs (needed f)) m.parts ∙ records_first m.before m.after (needed f) low in
        (x.0, x.1, ap (λ (rs : List CompiledLibrary). expand_library base.prelude (base.derived ∷ rs) f.opened.path f.opened.form (library_body f.opened.«data»)) same ∙ m.made)

    -- the libraries at some places, read again and expanded alone
    record Built (qs : List ℕ) : Type 0 where
      pub opened : List Opened
      pub read : opened_of (sources_at group loaded qs) ≡ Ok opened
      pub copies : Copies loaded are qs (rows_behind [] opened)
      pub made : records_behind base (rows_behind [] opened) ≡ Ok (records_at records qs)
      pub low : (q : ℕ) → Among qs q → q < length records

    -- one more of them
    module _ (qs : List ℕ) (b : Built qs) (p : ℕ) (file : List ℕ) (f : Found) (at : IsAt loaded p file f) (behind : (q : ℕ) → Needs f q → Among qs q) where
      alike : records_behind base (rows_behind [] (b.opened ++ f.opened ∷ [])) ≡ (expand_behind base records f (library_body f.opened.«data») >>= (λ r. Ok (records_at records qs ++ r ∷ [])))
      alike =
          ap (records_behind base) (rows_end b.opened [] f.opened)
          ∙ turns_to (behind_next base) (rows_behind [] b.opened) (row_behind (rows_behind [] b.opened) f.opened ∷ []) [] (records_at records qs) b.made
          ∙ turns_one (behind_next base) (records_at records qs) (row_behind (rows_behind [] b.opened) f.opened)
          ∙ ap (λ (rs : List CompiledLibrary). expand_library base.prelude (base.derived ∷ rs) f.opened.path f.opened.form (library_body f.opened.«data») >>= (λ r. Ok (records_at records qs ++ r ∷ []))) same
        where
          same : records_at (records_at records qs) (needed (found_behind (rows_behind [] b.opened) f.opened)) ≡ records_at records (needed f)
          same =
              records_twice records qs b.low (needed (found_behind (rows_behind [] b.opened) f.opened))
              ∙ ap (records_at records) (same_needed loaded are qs (rows_behind [] b.opened) b.copies p file f at behind)

      built_more : (r : CompiledLibrary) → slice_get records p ≡ Some r → expand_behind base records f (library_body f.opened.«data») ≡ Ok r → ((q : ℕ) → Among qs q → q < p) → Built (qs ++ p ∷ [])
      built_more r there made below = record {
        opened = b.opened ++ f.opened ∷ [];
        read = ap opened_of (sources_end group loaded qs p file f at)
            ∙ turns_to open_next (sources_at group loaded qs) (group f) [] b.opened b.read
            ∙ open_group roots (group f) f.opened (groups p file f at) b.opened;
        copies = subst (λ (rows : Libraries). Copies loaded are (qs ++ p ∷ []) rows) (sym (rows_end b.opened [] f.opened))
            (copies_more loaded are qs (rows_behind [] b.opened) b.copies p file f at behind below);
        made = alike ∙ ap (λ x. x >>= (λ y. Ok (records_at records qs ++ y ∷ []))) made ∙ ap (λ (rs : List CompiledLibrary). Ok rs) (sym (records_end records qs p r there));
        low = λ q a. elim (among_cases qs p [] q a) [
          | inl old ↦ b.low q old
          | inr new ↦ elim new [
            | inl e ↦ (let l = slice_get_within records p r there in omega (arith, l, e))
            | inr none ↦ elim none [ ]
          ]
        ];
      }

    built_none : Built []
    built_none = record { opened = []; read = refl; copies = no_copies loaded are; made = refl; low = λ q a. elim a [ ] }

    -- places that rise, below some place, with all that is needed
    module _ (all : List ℕ) (rising : Rising all) (low : (q : ℕ) → Among all q → q < length before)
        (closed : (p : ℕ) (file : List ℕ) (f : Found) → Among all p → IsAt loaded p file f → (q : ℕ) → Needs f q → Among all q) where
      build : (done rest : List ℕ) → done ++ rest ≡ all → Built done → Built all
      build done [] e b = subst Built (sym (append-nil done) ∙ e) b
      build done (p ∷ rest) e b = build (done ++ p ∷ []) rest (append_assoc done (p ∷ []) rest ∙ e) next
        where
          rises : Rising (done ++ p ∷ rest)
          rises = subst Rising (sym e) rising

          here : Among all p
          here = subst (λ (qs : List ℕ). Among qs p) e (among_here done p rest)

          next : Built (done ++ p ∷ [])
          next =
              let x = row_at before p (low p here) in
              let at = still_there p x.0 x.1 in
              let m = made_here p x.0.0 x.0.1 x.1 in
              built_more done b p x.0.0 x.0.1 at (behind x.0.0 x.0.1 at) m.0 m.1 m.2 (below_in done p rest rises)
            where
              row_at : (rows : Libraries) (i : ℕ) → i < length rows → (row : List ℕ × Found) × (slice_get rows i ≡ Some row)
              row_at [] i h = absurd (omega arith)
              row_at (row ∷ rows) zero h = (row, refl)
              row_at (row ∷ rows) (suc i) h = row_at rows i (omega (arith, h))

              behind : (file : List ℕ) (f : Found) → IsAt loaded p file f → (q : ℕ) → Needs f q → Among done q
              behind file f at q need =
                  let l = (are.closed p file f at q need).before in
                  let place = are.once.in_order p file f at in
                  elim (among_cases done p rest q (subst (λ (qs : List ℕ). Among qs q) (sym e) (closed p file f here at q need))) [
                    | inl old ↦ old
                    | inr new ↦ elim new [
                      | inl same ↦ absurd (omega (arith, l, place, same))
                      | inr later ↦ (let m = above_in done p rest rises q later in absurd (omega (arith, l, place, m)))
                    ]
                  ]

    -- ---- the library behind these

    module _ (p : ℕ) (file : List ℕ) (f : Found) (at : IsAt loaded p file f) (next : p ≡ length before) where
      need_of : (q : ℕ) → Among (needed f) q → Needs f q
      need_of q a =
          let k = mark_from zero f.needs q a in
          let is = k.is in
          let same : k.place ≡ q = omega (arith, is) in
          subst (Needs f) same k.marked

      low_needs : (q : ℕ) → Among (needed f) q → q < length before
      low_needs q a =
          let b = (are.closed p file f at q (need_of q a)).before in
          let place = are.once.in_order p file f at in
          omega (arith, b, place, next)

      all_closed : (q : ℕ) (name : List ℕ) (l : Found) → Among (needed f) q → IsAt loaded q name l → (b : ℕ) → Needs l b → Among (needed f) b
      all_closed q name l a there b need =
          let n = are.closed p file f at q (need_of q a) in
          mark_among zero f.needs b b (omega arith) (n.also b (subst (λ (z : Found). Needs z b) (library_is n.file n.library n.there) need))
        where
          library_is : (other : List ℕ) (z : Found) → IsAt loaded q other z → l ≡ z
          library_is other z h =
              let e : ◌≡◌ {A = Option (List ℕ × Found)} (Some (name, l)) (Some (other, z)) = sym there ∙ h in
              let rows : ◌≡◌ {A = List ℕ × Found} (name, l) (other, z) = cc in
              ap (λ (r : List ℕ × Found). r.1) rows

      built_all : Built (needed f)
      built_all = build (needed f) (rising_from zero f.needs) low_needs all_closed [] (needed f) refl built_none

      pub local_here : records_of base.prelude (all_sources group loaded f) ≡ behind_needed base records f
      unfolding records_of
      local_here =
          ap (λ x. x >>= (λ os. all_records base.prelude (rows_behind [] os)))
          (turns_to open_next (sources_at group loaded (needed f)) (group f) [] built_all.opened built_all.read ∙ open_group roots (group f) f.opened (groups p file f at) built_all.opened)
          ∙ all_same base (rows_behind [] (built_all.opened ++ f.opened ∷ []))
          ∙ ap (λ x. x >>= (λ (rs : List CompiledLibrary). Ok (base.derived ∷ rs))) (alike (needed f) built_all p file f at (λ q need. mark_among zero f.needs q q (omega arith) need))
          ∙ first_on (expand_behind base records f (library_body f.opened.«data»))
        where
          first_on : (x : Result CompiledLibrary Fault) → ((x >>= (λ r. Ok (records_at records (needed f) ++ r ∷ []))) >>= (λ (rs : List CompiledLibrary). Ok (base.derived ∷ rs))) ≡ (x >>= (λ r. Ok (behind base records f ++ r ∷ [])))
          first_on (Ok r) = refl
          first_on (Err x) = refl

  -- ---- the laws

  module _ (files : Paths) (roots : List (List ℕ)) (group : Found → List Source) (loaded : Libraries) (are : AreLoaded loaded) (groups : HaveGroups roots group loaded) (held : AllAsHeld files group loaded) where
    at_next : (records : List CompiledLibrary) (f : Found) → (n : IsNextLibrary base group loaded records f) → IsAt loaded (length n.before) n.file f
    at_next records f n = subst (λ (ls : Libraries). slice_get ls (length n.before) ≡ Some (n.file, f)) (sym n.parts) (mid n.before)
      where
        mid : (xs : Libraries) → slice_get (xs ++ (n.file, f) ∷ n.after) (length xs) ≡ Some (n.file, f)
        mid [] = refl
        mid (x ∷ xs) = mid xs

    local : IsLocal base group loaded
    local records f n =
        local_here roots group loaded are groups n.before ((n.file, f) ∷ n.after) n.parts records n.recorded (length n.before) n.file f (at_next records f n) refl

    -- two lists with one last record
    last_of : (xs ys : List CompiledLibrary) (x y : CompiledLibrary) → xs ++ x ∷ [] ≡ ys ++ y ∷ [] → x ≡ y
    last_of xs ys x y e = ends (xs ++ x ∷ []) xs ys x y refl e
      where
        last : List CompiledLibrary → Option CompiledLibrary
        last [] = None
        last (z ∷ []) = Some z
        last (z ∷ (w ∷ zs)) = last (w ∷ zs)

        last_end : (zs : List CompiledLibrary) (z : CompiledLibrary) → last (zs ++ z ∷ []) ≡ Some z
        last_end [] z = refl
        last_end (w ∷ []) z = refl
        last_end (w ∷ (v ∷ zs)) z = last_end (v ∷ zs) z

        ends : (all cs bs : List CompiledLibrary) (a b : CompiledLibrary) → cs ++ a ∷ [] ≡ all → all ≡ bs ++ b ∷ [] → a ≡ b
        ends all cs bs a b h k =
            let e : Some a ≡ Some b = sym (last_end cs a) ∙ ap last (h ∙ k) ∙ last_end bs b in
            cc

    hold : EntriesHold base group loaded
    hold records f n e sound same = by (expand_behind base records f (library_body f.opened.«data»)) (sym (local records f n) ∙ ap (records_of base.prelude) (sym same) ∙ sound.recorded)
      where
        by : (x : Result CompiledLibrary Fault) → (x >>= (λ r. Ok (behind base records f ++ r ∷ []))) ≡ Ok (sound.earlier ++ e.stored ∷ []) → x ≡ Ok e.stored
        by (Ok r) h = let lists : behind base records f ++ r ∷ [] ≡ sound.earlier ++ e.stored ∷ [] = cc in ap (λ (y : CompiledLibrary). Ok y) (last_of (behind base records f) sound.earlier r e.stored lists)
        by (Err x) h = absurd (cc)

    entries : EntriesAreSound base group roots loaded
    entries records f n r h = record {
      laid_out = laid_out files roots group loaded are groups held (length n.before) n.file f (at_next records f n) r;
      earlier = behind base records f;
      recorded = local records f n ∙ ap (λ x. x >>= (λ y. Ok (behind base records f ++ y ∷ []))) h;
      path = library-path base.prelude (behind base records f) f.opened.path f.opened.form (library_body f.opened.«data») r h;
    }

    pub reuse_right : ReuseIsRight base group roots loaded
    reuse_right = record { local = local; hold = hold; sound = entries }
