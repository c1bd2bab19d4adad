-- Over an honest store each library has the record that expansion gives it.
use Rattle.std.proofs.Common.{◌≡◌, ℕ, zero, suc, ◌+◌, Bool, true, false, List, [], ◌∷◌, ◌++◌, length, Result, Ok, Err, Option, Some, None, refl, sym, ap, subst, ◌∙◌, append_assoc, append-nil, arith, true≢false}
use Rattle.std.specs.Prelude.{◌&&◌, ◌<◌, ◌≤◌, nat_le, slice_get, if◌then◌else◌}
use Rattle.std.specs.Cmp.Lexicographic.{pointwise}
use Rattle.base_data.specs.Gives.{◌>>=◌}
use Rattle.base_data.specs.Same.{texts_decides}
use Rattle.base_data.specs.declared.fault.Fault.{Fault}
use Rattle.core_language.specs.declared.record.CompiledLibrary.{CompiledLibrary}
use Rattle.load_forms.specs.Form.{library_body}
use Rattle.load_import.specs.Table.{same_text}
use Rattle.load_import.specs.Turns.{turns}
use Rattle.load_files.specs.declared.found.Found.{Found}
use Rattle.load_files.specs.declared.found.Source.{Source}
use Rattle.law_load.specs.Laws.{Libraries, IsAt}
use Rattle.base_outside.specs.Contents.{Paths, at_path}
use Rattle.base_outside.proofs.Pairs.{sets_pushed}
use Rattle.law_local.specs.Behind.{RunBase, behind, expand_behind, behind_next, records_behind}
use Rattle.law_local.proofs.BehindLemmas.{all_same}
use Rattle.law_local.specs.Entry.{ExpandedEntry, IsSoundEntry, HonestStore}
use Rattle.law_local.specs.Local.{all_sources, entry_of, AreLoaded, IsNextLibrary, ReuseIsRight}
use Rattle.law_local.specs.Reuse.{CacheModel, ReadsBack, entry_limit, same_held, same_source, fits, suits, if_right, if_short, stored_for, HoldsEntry, IsAlone, CanBeRead, MakesWhatSuits, HasTurns, IsKept, turned, all_turned, kept, too_long, unspelled, failed, LibraryTurn, reused, expanded, LibraryTurns, done, next, fault, ReuseChangesNothing}
use Rattle.law_local.proofs.RecordLemmas.{library-path}
use Rattle.law_local.proofs.Local.{turns_to, turns_one}

-- ---- tests that decide

and_first : (a b : Bool) → (a && b) ≡ true → a ≡ true
and_first true b h = refl
and_first false b h = h

and_second : (a b : Bool) → (a && b) ≡ true → b ≡ true
and_second true b h = h
and_second false b h = absurd (true≢false (sym h))

held_is : (a b : Option (List ℕ)) → same_held a b ≡ true → a ≡ b
held_is None None h = refl
held_is None (Some b) h = absurd (cc)
held_is (Some a) None h = absurd (cc)
held_is (Some a) (Some b) h = ap (λ (x : List ℕ). Some x) ((texts_decides a b).0 h)

source_is : (a b : Source) → same_source a b ≡ true → a ≡ b
source_is a b h =
    let paths : a.path ≡ b.path = (texts_decides a.path b.path).0 (and_first (same_text a.path b.path) (same_held a.held b.held) h) in
    let helds : a.held ≡ b.held = held_is a.held b.held (and_second (same_text a.path b.path) (same_held a.held b.held) h) in
    λ i. record { path = paths i; held = helds i }

each_is : {A : Type 0} (same : A → A → Bool) → ((a b : A) → same a b ≡ true → a ≡ b) → (xs ys : List A) → pointwise same xs ys ≡ true → xs ≡ ys
each_is same is [] [] h = refl
each_is same is [] (y ∷ ys) h = absurd (cc)
each_is same is (x ∷ xs) [] h = absurd (cc)
each_is same is (x ∷ xs) (y ∷ ys) h =
    let first = is x y (and_first (same x y) (pointwise same xs ys) h) in
    let rest = each_is same is xs ys (and_second (same x y) (pointwise same xs ys) h) in
    λ i. first i ∷ rest i

fit_sources : (roots : List (List ℕ)) (sources : List Source) (e : ExpandedEntry) → fits roots sources e ≡ true → e.sources ≡ sources
unfolding fits
fit_sources roots sources e h =
    each_is same_source source_is e.sources sources (and_second (pointwise same_text e.roots roots) (pointwise same_source e.sources sources) h)

fit_roots : (roots : List (List ℕ)) (sources : List Source) (e : ExpandedEntry) → fits roots sources e ≡ true → e.roots ≡ roots
unfolding fits
fit_roots roots sources e h =
    each_is same_text (λ a b k. (texts_decides a b).0 k) e.roots roots (and_first (pointwise same_text e.roots roots) (pointwise same_source e.sources sources) h)

module _ (base : RunBase) where
  -- ---- one library

  module _ (cache : CacheModel) (roots : List (List ℕ)) (group : Found → List Source) (loaded : Libraries) (back : ReadsBack base cache roots group loaded) (right : ReuseIsRight base group roots loaded) where
    -- the entry that was reused
    record IsFrom (records : List CompiledLibrary) (store : Paths) (f : Found) (r : CompiledLibrary) : Type 0 where
      pub held : List ℕ
      pub entry : ExpandedEntry
      pub there : at_path store (cache.place f) ≡ Some held
      pub spells : cache.entry_in held ≡ Some entry
      pub fit : fits roots (all_sources group loaded f) entry ≡ true
      pub is : r ≡ entry.stored

    from_entry : (records : List CompiledLibrary) (store : Paths) (f : Found) (r : CompiledLibrary) → stored_for base cache roots group loaded records store f ≡ Some r → IsFrom records store f r
    from_entry records store f r h = by (at_path store (cache.place f)) refl h
      where
        by_fit : (held : List ℕ) (e : ExpandedEntry) (b : Bool) → at_path store (cache.place f) ≡ Some held → cache.entry_in held ≡ Some e
            → (fits roots (all_sources group loaded f) e && suits cache (behind base records f) f e.stored) ≡ b → (if b then Some e.stored else None) ≡ Some r → IsFrom records store f r
        by_fit held e true at spells fit h =
            let same : e.stored ≡ r = cc in
            record { held = held; entry = e; there = at; spells = spells; fit = and_first (fits roots (all_sources group loaded f) e) (suits cache (behind base records f) f e.stored) fit; is = sym same }
        by_fit held e false at spells fit h = absurd (cc)

        by_entry : (held : List ℕ) (o : Option ExpandedEntry) → at_path store (cache.place f) ≡ Some held → cache.entry_in held ≡ o → if_right base cache roots group loaded records f o ≡ Some r → IsFrom records store f r
        by_entry held None at spells h = absurd (cc)
        by_entry held (Some e) at spells h = by_fit held e (fits roots (all_sources group loaded f) e && suits cache (behind base records f) f e.stored) at spells refl h

        by_length : (held : List ℕ) (b : Bool) → at_path store (cache.place f) ≡ Some held → (if b then if_right base cache roots group loaded records f (cache.entry_in held) else None) ≡ Some r → IsFrom records store f r
        by_length held true at h = by_entry held (cache.entry_in held) at refl h
        by_length held false at h = absurd (cc)

        by : (o : Option (List ℕ)) → at_path store (cache.place f) ≡ o → if_short base cache roots group loaded records f o ≡ Some r → IsFrom records store f r
        by None at h = absurd (cc)
        by (Some held) at h = by_length held (nat_le (length held) entry_limit) at h

    -- a store in which one place is touched
    touched : (place : List ℕ) (before after : Paths) → ((path : List ℕ) → (path ≡ place → ⊥) → at_path after path ≡ at_path before path)
        → ((held : List ℕ) (d : ExpandedEntry) → at_path after place ≡ Some held → cache.entry_in held ≡ Some d → IsSoundEntry base.prelude d) → HonestStore base.prelude cache.entry_in before → HonestStore base.prelude cache.entry_in after
    touched place before after others here honest path held d at spells = by (same_text path place) refl
      where
        by : (b : Bool) → same_text path place ≡ b → IsSoundEntry base.prelude d
        by true e = here held d (ap (at_path after) (sym ((texts_decides path place).0 e)) ∙ at) spells
        by false e = honest path held d (sym (others path (λ same. true≢false (sym ((texts_decides path place).1 same) ∙ e))) ∙ at) spells

    kept_honest : (quiet : Bool) (e : ExpandedEntry) (place : List ℕ) (before after : Paths) → IsSoundEntry base.prelude e → (cache.has_spelling e ≡ true → (d : ExpandedEntry) → cache.entry_in (cache.spelled e) ≡ Some d → d ≡ e) → HonestStore base.prelude cache.entry_in before → IsKept base cache roots group loaded quiet e place before after → HonestStore base.prelude cache.entry_in after
    kept_honest quiet e place before after sound same_entry honest (kept spelling short sets) = touched place before after sets.others here honest
      where
        here : (held : List ℕ) (d : ExpandedEntry) → at_path after place ≡ Some held → cache.entry_in held ≡ Some d → IsSoundEntry base.prelude d
        here held d at spells =
            let both : ◌≡◌ {A = Option (List ℕ)} (Some held) (Some (cache.spelled e)) = sym at ∙ sets.held in
            let same : held ≡ cache.spelled e = cc in
            subst (IsSoundEntry base.prelude) (sym (same_entry spelling d (subst (λ (h : List ℕ). cache.entry_in h ≡ Some d) same spells))) sound
    kept_honest quiet e place before after sound same_entry honest (too_long long) = honest
    kept_honest quiet e place before after sound same_entry honest (unspelled none) = honest
    kept_honest quiet e place before after sound same_entry honest (failed noisy others here) = touched place before after others here honest

    module _ (records : List CompiledLibrary) (store : Paths) (f : Found) (n : IsNextLibrary base group loaded records f) (honest : HonestStore base.prelude cache.entry_in store) (quiet : Bool) where
      pub turn_right : (flag : Bool) (r : CompiledLibrary) (left : Paths) → LibraryTurn base cache roots group loaded quiet records store f (turned flag r left)
          → (expand_behind base records f (library_body f.opened.«data») ≡ Ok r) × HonestStore base.prelude cache.entry_in left
      turn_right flag r left (reused h) =
          let x = from_entry records store f r h in
          let sound = honest (cache.place f) x.held x.entry x.there x.spells in
          (right.hold records f n x.entry sound (fit_sources roots (all_sources group loaded f) x.entry x.fit) ∙ ap (λ (y : CompiledLibrary). Ok y) (sym x.is), honest)
      turn_right flag r left (expanded none made k) =
          (made, kept_honest quiet (entry_of group roots loaded f r) (cache.place f) store left (right.sound records f n r made) (back records f r n made) honest k)

    -- ---- all libraries

    turns_right : (quiet : Bool) (before rows : Libraries) (records : List CompiledLibrary) (store : Paths) (flags : List Bool) (result : Result (List CompiledLibrary) Fault) (left : Paths)
        → loaded ≡ before ++ rows → records_behind base before ≡ Ok records → HonestStore base.prelude cache.entry_in store → LibraryTurns base cache roots group loaded quiet rows records store (all_turned flags result left)
        → (result ≡ records_behind base loaded) × HonestStore base.prelude cache.entry_in left
    turns_right quiet before rows records store flags result left parts made honest done =
        (sym made ∙ ap (records_behind base) (sym (append-nil before)) ∙ ap (records_behind base) (sym parts), honest)
    turns_right quiet before rows records store flags result left parts made honest (next {row = row} {rows = rest} {middle = middle} {flag = flag} {flags = more} {r = r} turn others) =
        let n : IsNextLibrary base group loaded records row.1 = record { before = before; file = row.0; after = rest; parts = parts; recorded = made } in
        let t = turn_right records store row.1 n honest quiet flag r middle turn in
        turns_right quiet (before ++ row ∷ []) rest (records ++ r ∷ []) middle more result left (parts ∙ sym (append_assoc before (row ∷ []) rest))
        (turns_to (behind_next base) before (row ∷ []) [] records made ∙ turns_one (behind_next base) records row ∙ ap (λ x. x >>= (λ y. Ok (records ++ y ∷ []))) t.0) t.1 others
    turns_right quiet before rows records store flags result left parts made honest (fault {row = row} {rows = rest} {f = f} none stops) = (
      sym (ap (records_behind base) parts ∙ turns_to (behind_next base) before (row ∷ rest) [] records made
          ∙ ap (λ x. (x >>= (λ y. Ok (records ++ y ∷ []))) >>= (λ t. turns (behind_next base) t rest)) stops),
      honest,
    )

    -- ---- what lies at the place of a library

    module _ (are : AreLoaded loaded) where
      -- its entry is what was reused
      entry_is : (records : List CompiledLibrary) (f : Found) (r : CompiledLibrary) (e : ExpandedEntry) → expand_behind base records f (library_body f.opened.«data») ≡ Ok r → IsSoundEntry base.prelude e → fits roots (all_sources group loaded f) e ≡ true → r ≡ e.stored → e ≡ entry_of group roots loaded f r
      entry_is records f r e made sound fit is =
          let rs : e.roots ≡ roots = fit_roots roots (all_sources group loaded f) e fit in
          let ss : e.sources ≡ all_sources group loaded f = fit_sources roots (all_sources group loaded f) e fit in
          let paths : e.path ≡ f.opened.path =
          sym sound.path ∙ ap (λ (x : CompiledLibrary). x.path) (sym is) ∙ library-path base.prelude (behind base records f) f.opened.path f.opened.form (library_body f.opened.«data») r made in
          let stored : e.stored ≡ r = sym is in
          λ i. record { path = paths i; roots = rs i; sources = ss i; stored = stored i }

      -- the library's own turn
      turn_holds : (records : List CompiledLibrary) (store : Paths) (f : Found) → IsNextLibrary base group loaded records f → HonestStore base.prelude cache.entry_in store → (flag : Bool) (r : CompiledLibrary) (left : Paths)
          → LibraryTurn base cache roots group loaded true records store f (turned flag r left) → CanBeRead cache (entry_of group roots loaded f r) → HoldsEntry cache roots group loaded left f r
      turn_holds records store f n honest flag r left (reused h) can =
          let x = from_entry records store f r h in
          let sound = honest (cache.place f) x.held x.entry x.there x.spells in
          let made = (turn_right records store f n honest true true r store (reused h)).0 in
          record { held = x.held; there = x.there; spells = x.spells ∙ ap (λ (e : ExpandedEntry). Some e) (entry_is records f r x.entry made sound x.fit x.is) }
      turn_holds records store f n honest flag r left (expanded none made k) can = by left k
        where
          by : (last : Paths) → IsKept base cache roots group loaded true (entry_of group roots loaded f r) (cache.place f) store last → HoldsEntry cache roots group loaded last f r
          by last (kept spelling short sets) = record { held = cache.spelled (entry_of group roots loaded f r); there = sets.held; spells = can.1.1 }
          by last (too_long long) = let short = can.1.0 in absurd (omega (arith, long, short))
          by last (unspelled none) = absurd (true≢false (sym can.0 ∙ none))
          by last (failed noisy others here) = absurd (true≢false noisy)

      -- another turn leaves its place alone
      turn_leaves : (records : List CompiledLibrary) (store : Paths) (f : Found) (place : List ℕ) (flag : Bool) (r : CompiledLibrary) (left : Paths)
          → LibraryTurn base cache roots group loaded true records store f (turned flag r left) → (place ≡ cache.place f → ⊥) → at_path left place ≡ at_path store place
      turn_leaves records store f place flag r left (reused h) other = refl
      turn_leaves records store f place flag r left (expanded none made k) other = by left k
        where
          by : (last : Paths) → IsKept base cache roots group loaded true (entry_of group roots loaded f r) (cache.place f) store last → at_path last place ≡ at_path store place
          by last (kept spelling short sets) = sets.others place other
          by last (too_long long) = refl
          by last (unspelled none) = refl
          by last (failed noisy others here) = others place other

      turns_leave : (rows : Libraries) (records : List CompiledLibrary) (store : Paths) (place : List ℕ) (flags : List Bool) (result : Result (List CompiledLibrary) Fault) (left : Paths)
          → LibraryTurns base cache roots group loaded true rows records store (all_turned flags result left) → ((i : ℕ) (file : List ℕ) (l : Found) → slice_get rows i ≡ Some (file, l) → place ≡ cache.place l → ⊥) → at_path left place ≡ at_path store place
      turns_leave rows records store place flags result left done other = refl
      turns_leave rows records store place flags result left (next {row = row} {rows = rest} {middle = middle} {flag = flag} {flags = more} {r = r} turn others) other =
          turns_leave rest (records ++ r ∷ []) middle place more result left others (λ i file l h. other (suc i) file l h)
          ∙ turn_leaves records store row.1 place flag r middle turn (other zero row.0 row.1 refl)
      turns_leave rows records store place flags result left (fault none stops) other = refl

      module _ (file : List ℕ) (f : Found) (rest : Libraries) (r : CompiledLibrary) (alone : IsAlone cache loaded f) (can : CanBeRead cache (entry_of group roots loaded f r)) where
        -- those behind it lie elsewhere
        elsewhere : (before : Libraries) → loaded ≡ before ++ (file, f) ∷ rest → (i : ℕ) (name : List ℕ) (l : Found) → slice_get rest i ≡ Some (name, l) → cache.place f ≡ cache.place l → ⊥
        elsewhere before parts i name l h e =
            let own : IsAt loaded (length before) file f = subst (λ (ls : Libraries). slice_get ls (length before) ≡ Some (file, f)) (sym parts) (mid before zero (file, f) refl) in
            let other : IsAt loaded (length before + suc i) name l = subst (λ (ls : Libraries). slice_get ls (length before + suc i) ≡ Some (name, l)) (sym parts) (further_on before (suc i) (name, l) h) in
            let same = alone (length before + suc i) name l other (sym e) in
            let place = are.once.in_order (length before) file f own in
            omega (arith, same, place)
          where
            further_on : (xs : Libraries) (j : ℕ) (row : List ℕ × Found) → slice_get ((file, f) ∷ rest) j ≡ Some row → slice_get (xs ++ (file, f) ∷ rest) (length xs + j) ≡ Some row
            further_on [] j row at = let e : 0 + j ≡ j = omega arith in ap (slice_get ((file, f) ∷ rest)) e ∙ at
            further_on (x ∷ xs) j row at = let e : suc (length xs) + j ≡ suc (length xs + j) = omega arith in ap (slice_get (x ∷ (xs ++ (file, f) ∷ rest))) e ∙ further_on xs j row at

            mid : (xs : Libraries) (j : ℕ) (row : List ℕ × Found) → slice_get ((file, f) ∷ rest) zero ≡ Some row → slice_get (xs ++ (file, f) ∷ rest) (length xs) ≡ Some row
            mid [] j row at = at
            mid (x ∷ xs) j row at = mid xs j row at

        still : (store left : Paths) → at_path left (cache.place f) ≡ at_path store (cache.place f) → HoldsEntry cache roots group loaded store f r → HoldsEntry cache roots group loaded left f r
        still store left same h = record { held = h.held; there = same ∙ h.there; spells = h.spells }

        holds : (before middle rows : Libraries) (records later : List CompiledLibrary) (store : Paths) (flags : List Bool) (result : Result (List CompiledLibrary) Fault) (left : Paths)
            → rows ≡ middle ++ (file, f) ∷ rest → loaded ≡ before ++ rows → records_behind base before ≡ Ok records → HonestStore base.prelude cache.entry_in store → LibraryTurns base cache roots group loaded true rows records store (all_turned flags result left)
            → turns (behind_next base) records middle ≡ Ok later → expand_behind base later f (library_body f.opened.«data») ≡ Ok r → HoldsEntry cache roots group loaded left f r
        holds before [] rows records later store flags result left split parts made honest done so_far made_here = absurd (cc)
        holds before (x ∷ middle) rows records later store flags result left split parts made honest done so_far made_here = absurd (cc)
        holds before [] rows records later store flags result left split parts made honest (next {row = row} {rows = others} {middle = store_after} {flag = flag} {flags = more} {r = r0} turn turns_after) so_far made_here =
            let same : row ≡ (file, f) = cc in
            let behind : others ≡ rest = cc in
            let records_same : records ≡ later = cc in
            let own : LibraryTurn base cache roots group loaded true records store f (turned flag r0 store_after) = subst (λ (y : List ℕ × Found). LibraryTurn base cache roots group loaded true records store y.1 (turned flag r0 store_after)) same turn in
            let whole : loaded ≡ before ++ (file, f) ∷ rest = parts ∙ ap (λ (ls : Libraries). before ++ ls) split in
            let n : IsNextLibrary base group loaded records f = record { before = before; file = file; after = rest; parts = whole; recorded = made } in
            let gives = (turn_right records store f n honest true flag r0 store_after own).0 in
            let both : ◌≡◌ {A = Result CompiledLibrary Fault} (Ok r0) (Ok r) = sym gives ∙ ap (λ (rs : List CompiledLibrary). expand_behind base rs f (library_body f.opened.«data»)) records_same ∙ made_here in
            let r_same : r0 ≡ r = cc in
            let mine : LibraryTurn base cache roots group loaded true records store f (turned flag r store_after) = subst (λ (y : CompiledLibrary). LibraryTurn base cache roots group loaded true records store f (turned flag y store_after)) r_same own in
            still store_after left
            (turns_leave others (records ++ r0 ∷ []) store_after (cache.place f) more result left turns_after
            (λ i name l h. elsewhere before whole i name l (subst (λ (ls : Libraries). slice_get ls i ≡ Some (name, l)) behind h)))
            (turn_holds records store f n honest flag r store_after mine can)
        holds before (x ∷ middle) rows records later store flags result left split parts made honest (next {row = row} {rows = others} {middle = store_after} {flag = flag} {flags = more} {r = r0} turn turns_after) so_far made_here =
            let same : row ≡ x = cc in
            let behind : others ≡ middle ++ (file, f) ∷ rest = cc in
            let n : IsNextLibrary base group loaded records row.1 = record { before = before; file = row.0; after = others; parts = parts; recorded = made } in
            let t = turn_right records store row.1 n honest true flag r0 store_after turn in
            let step : behind_next base records x ≡ Ok (records ++ r0 ∷ []) = ap (behind_next base records) (sym same) ∙ ap (λ y. y >>= (λ z. Ok (records ++ z ∷ []))) t.0 in
            holds (before ++ row ∷ []) middle others (records ++ r0 ∷ []) later store_after more result left behind (parts ∙ sym (append_assoc before (row ∷ []) others))
            (turns_to (behind_next base) before (row ∷ []) [] records made ∙ turns_one (behind_next base) records row ∙ ap (λ y. y >>= (λ z. Ok (records ++ z ∷ []))) t.0) t.1 turns_after
            (sym (ap (λ y. y >>= (λ z. turns (behind_next base) z middle)) step) ∙ so_far) made_here
        holds before [] rows records later store flags result left split parts made honest (fault {row = row} {rows = others} none stops) so_far made_here =
            let same : row ≡ (file, f) = cc in
            let records_same : records ≡ later = cc in
            let both = sym stops ∙ ap (λ (y : List ℕ × Found). expand_behind base records y.1 (library_body y.1.opened.«data»)) same ∙ ap (λ (rs : List CompiledLibrary). expand_behind base rs f (library_body f.opened.«data»)) records_same ∙ made_here in
            absurd (cc)
        holds before (x ∷ middle) rows records later store flags result left split parts made honest (fault {row = row} {rows = others} none stops) so_far made_here =
            let same : row ≡ x = cc in
            let step = ap (behind_next base records) (sym same) ∙ ap (λ y. y >>= (λ z. Ok (records ++ z ∷ []))) stops in
            let both = sym (ap (λ y. y >>= (λ z. turns (behind_next base) z middle)) step) ∙ so_far in
            absurd (cc)

      all_hold : (store : Paths) (flags : List Bool) (result : Result (List CompiledLibrary) Fault) (left : Paths) → HonestStore base.prelude cache.entry_in store → LibraryTurns base cache roots group loaded true loaded [] store (all_turned flags result left)
          → (records : List CompiledLibrary) (f : Found) (r : CompiledLibrary) → IsNextLibrary base group loaded records f → expand_behind base records f (library_body f.opened.«data») ≡ Ok r → IsAlone cache loaded f → CanBeRead cache (entry_of group roots loaded f r)
          → HoldsEntry cache roots group loaded left f r
      all_hold store flags result left honest turns records f r n made alone can =
          holds n.file f n.after r alone can [] n.before loaded [] records store flags result left n.parts refl refl honest turns n.recorded made

    -- ---- an entry that fits is reused

    is_reused : MakesWhatSuits base cache group loaded → (records : List CompiledLibrary) (f : Found) → IsNextLibrary base group loaded records f → (store : Paths) → HonestStore base.prelude cache.entry_in store
        → (held : List ℕ) (e : ExpandedEntry) → at_path store (cache.place f) ≡ Some held → length held ≤ entry_limit → cache.entry_in held ≡ Some e → fits roots (all_sources group loaded f) e ≡ true
        → stored_for base cache roots group loaded records store f ≡ Some e.stored
    is_reused suit records f n store honest held e at short spells fit =
        let sound = honest (cache.place f) held e at spells in
        let made = right.hold records f n e sound (fit_sources roots (all_sources group loaded f) e fit) in
        let within : nat_le (length held) entry_limit ≡ true = grind (arith, short) in
        ap (if_short base cache roots group loaded records f) at
        ∙ ap (λ b. if b then if_right base cache roots group loaded records f (cache.entry_in held) else None) within
        ∙ ap (if_right base cache roots group loaded records f) spells
        ∙ ap (λ b. if b && suits cache (behind base records f) f e.stored then Some e.stored else None) fit
        ∙ ap (λ b. if b then Some e.stored else None) (suit records f e.stored n made)

    -- ---- there are turns

    keeps : (e : ExpandedEntry) (place : List ℕ) (store : Paths) → (left : Paths) × IsKept base cache roots group loaded true e place store left
    keeps e place store = by_spelling (cache.has_spelling e) refl
      where
        by_length : (b : Bool) → cache.has_spelling e ≡ true → nat_le (length (cache.spelled e)) entry_limit ≡ b → (left : Paths) × IsKept base cache roots group loaded true e place store left
        by_length true spelling h = let short : length (cache.spelled e) ≤ entry_limit = grind (arith, h) in
            (store ++ (place, cache.spelled e) ∷ [], kept spelling short (sets_pushed place (cache.spelled e) store (store ++ (place, cache.spelled e) ∷ []) refl))
        by_length false spelling h = let long : entry_limit < length (cache.spelled e) = grind (arith, h) in (store, too_long long)

        by_spelling : (b : Bool) → cache.has_spelling e ≡ b → (left : Paths) × IsKept base cache roots group loaded true e place store left
        by_spelling true h = by_length (nat_le (length (cache.spelled e)) entry_limit) h refl
        by_spelling false h = (store, unspelled h)

    has_turns : (rows : Libraries) (records : List CompiledLibrary) (store : Paths) → HasTurns base cache roots group loaded rows records store
    has_turns [] records store = record { flags = []; result = Ok records; left = store; turns = done }
    has_turns (row ∷ rows) records store = by_stored (stored_for base cache roots group loaded records store row.1) refl (λ r next_store. has_turns rows (records ++ r ∷ []) next_store)
      where
        by_made : (x : Result CompiledLibrary Fault) → expand_behind base records row.1 (library_body row.1.opened.«data») ≡ x → stored_for base cache roots group loaded records store row.1 ≡ None
            → ((r : CompiledLibrary) (next_store : Paths) → HasTurns base cache roots group loaded rows (records ++ r ∷ []) next_store) → HasTurns base cache roots group loaded (row ∷ rows) records store
        by_made (Ok r) made none rest =
            let k = keeps (entry_of group roots loaded row.1 r) (cache.place row.1) store in
            let t = rest r k.0 in
            record { flags = false ∷ t.flags; result = t.result; left = t.left; turns = next (expanded (λ quiet. none) made k.1) t.turns }
        by_made (Err f) stops none rest = record { flags = []; result = Err f; left = store; turns = fault (λ quiet. none) stops }

        by_stored : (o : Option CompiledLibrary) → stored_for base cache roots group loaded records store row.1 ≡ o
            → ((r : CompiledLibrary) (next_store : Paths) → HasTurns base cache roots group loaded rows (records ++ r ∷ []) next_store) → HasTurns base cache roots group loaded (row ∷ rows) records store
        by_stored None e rest = by_made (expand_behind base records row.1 (library_body row.1.opened.«data»)) refl e rest
        by_stored (Some r) e rest = let t = rest r store in record { flags = true ∷ t.flags; result = t.result; left = t.left; turns = next (reused e) t.turns }

    pub changes_nothing : AreLoaded loaded → ReuseChangesNothing base cache roots group loaded
    changes_nothing are = record {
      same = λ quiet store flags result left honest turns.
          all_same base loaded ∙ ap (λ x. x >>= (λ (others : List CompiledLibrary). Ok (base.derived ∷ others))) (sym (turns_right quiet [] loaded [] store flags result left refl refl honest turns).0);
      honest = λ quiet store flags result left honest turns. (turns_right quiet [] loaded [] store flags result left refl refl honest turns).1;
      kept = all_hold are;
      fitting = is_reused;
      some = λ store. has_turns loaded [] store;
    }
