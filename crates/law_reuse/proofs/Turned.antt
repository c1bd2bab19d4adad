-- Over an honest store the turns of a run give the records of expansion, and leave an honest store.
use Rattle.std.proofs.Common.{◌≡◌, ℕ, ◌≤◌, ◌<◌, Bool, true, false, List, [], ◌∷◌, ◌++◌, length, Result, Ok, Err, Option, Some, None, refl, sym, ap, subst, ◌∙◌, append_assoc, append-nil, true≢false}
use Rattle.std.specs.Prelude.{slice_get, if◌then◌else◌}
use Rattle.base_data.specs.Gives.{◌>>=◌}
use Rattle.base_data.specs.declared.fault.Fault.{Fault}
use Rattle.core_cache.specs.Entry.{encode, has_spelling}
use Rattle.core_cache.specs.Seal.{sealed}
use Rattle.core_cache.specs.declared.entry.Entry.{Entry}
use Rattle.core_language.specs.declared.record.CompiledLibrary.{CompiledLibrary}
use Rattle.load_forms.specs.Form.{library_body}
use Rattle.load_import.specs.Turns.{turns}
use Rattle.run_library.specs.Loaded.{all_records, expand_found}
use Rattle.load_files.specs.declared.found.Found.{Found}
use Rattle.load_files.specs.declared.found.Source.{Source}
use Rattle.law_load.specs.Laws.{Libraries, IsAt}
use Rattle.law_local.specs.Behind.{RunBase, expand_behind, behind_next, records_behind}
use Rattle.law_local.specs.Entry as entries
use Rattle.law_local.specs.Local.{entry_of, IsNextLibrary, ReuseIsRight}
use Rattle.law_local.specs.Reuse as law
use Rattle.law_local.proofs.BehindLemmas.{those_of_runs, all_same}
use Rattle.law_local.proofs.Local.{turns_to, turns_one}
use Rattle.law_local.proofs.Reuse.{turn_right}
use Rattle.base_outside.specs.Contents.{Paths, at_path}
use Rattle.base_outside.specs.Store.{Sets}
use Rattle.run_reuse.specs.Entries.{CacheInputs, entry_limit, entry_in, if_short, made, place_of, spelled}
use Rattle.run_reuse.specs.Texts.{found_in}
use Rattle.run_reuse.specs.Turns.{StoreChange, changed, TurnState, ReuseTurn, reused, expanded, IsPut, put, too_long, unspelled, failed, Breaks, nothing_put, entry_put, ReuseTurns, done, next, TurnsStop, here, later, BreaksOff, between, within, behind}
use Rattle.law_reuse.specs.Seals.{PutIsHonest, TurnIsHonest, BreaksHonestly, TurnsHonestly, StopsHonestly, BreaksOffHonestly}
use Rattle.law_reuse.specs.Sound.{as_entry, IsHonest}
use Rattle.law_reuse.proofs.Read.{cache_of, honest_there, honest_here, read_back, some_entry, Picks, made_is, stored_there}

pub at_length : (before : Libraries) (row : List ℕ × Found) (after : Libraries) → slice_get (before ++ row ∷ after) (length before) ≡ Some row
at_length [] row after = refl
at_length (x ∷ before) row after = at_length before row after

module _ (base : RunBase) (k : CacheInputs) (group : Found → List Source) (loaded : Libraries) (right : ReuseIsRight base group k.roots loaded)
    (picks : (place : ℕ) (file : List ℕ) (f : Found) → IsAt loaded place file f → Picks base k group loaded f) where
  back : law.ReadsBack base (cache_of k) k.roots group loaded
  back records f r n gives spelling d reads = read_back k (entry_of group k.roots loaded f r) d spelling reads

  -- ---- one library

  module _ (others : List CompiledLibrary) (f : Found) (n : IsNextLibrary base group loaded others f) where
    own : Picks base k group loaded f
    own = picks (length n.before) n.file f (subst (λ (ls : Libraries). slice_get ls (length n.before) ≡ Some (n.file, f)) (sym n.parts) (at_length n.before (n.file, f) n.after))

    abbrev Kept-so : CompiledLibrary → Paths → Paths → Type 0
    Kept-so r before left = law.IsKept base (cache_of k) k.roots group loaded false (entry_of group k.roots loaded f r) (place_of k f) before left

    abbrev Kept-as-made : CompiledLibrary → Paths → Paths → Type 0
    Kept-as-made r before left = law.IsKept base (cache_of k) k.roots group loaded false (as_entry (made k f r)) (place_of k f) before left

    is_kept : (r : CompiledLibrary) (change : StoreChange) (o : Option (List ℕ)) → spelled (made k f r) ≡ o → (p : IsPut (place_of k f) change o) → PutIsHonest base.prelude p → Kept-so r change.before change.after
    is_kept r change o is p honest =
        subst (λ (e : entries.ExpandedEntry). law.IsKept base (cache_of k) k.roots group loaded false e (place_of k f) change.before change.after) (made_is base k group loaded f r own) (by (has_spelling (made k f r)) refl o is p honest)
      where
        by : (b : Bool) → has_spelling (made k f r) ≡ b → (x : Option (List ℕ)) → (if b then Some (sealed (encode (made k f r))) else None) ≡ x
            → (q : IsPut (place_of k f) change x) → PutIsHonest base.prelude q → Kept-as-made r change.before change.after
        by true spells (Some piece) is (put short sets) h =
            let same : sealed (encode (made k f r)) ≡ piece = cc in
            law.kept spells (subst (λ (x : List ℕ). length x ≤ entry_limit) (sym same) short) (subst (λ (x : List ℕ). Sets (place_of k f) x change.before change.after) (sym same) sets)
        by true spells (Some piece) is (too_long long still) h =
            let same : sealed (encode (made k f r)) ≡ piece = cc in
            subst (Kept-as-made r change.before) (sym still) (law.too_long (subst (λ (x : List ℕ). entry_limit < length x) (sym same) long))
        by true spells (Some piece) is (failed rose others) h =
            law.failed refl others (λ held d at reads. let x = some_entry (entry_in held) d reads in subst (entries.IsSoundEntry base.prelude) x.2 (h held x.0 at x.1))
        by true spells None is (unspelled still) h = absurd (cc)
        by false spells (Some piece) is q h = absurd (cc)
        by false spells None is (unspelled still) h = subst (Kept-as-made r change.before) (sym still) (law.unspelled spells)

    module _ (s : TurnState) (is : s.progress.records ≡ base.derived ∷ others) (honest : IsHonest base.prelude s.store) where
      pub behind_here : (x : Result CompiledLibrary Fault) → expand_found base.prelude s.progress.records f (library_body f.opened.«data») ≡ x → expand_behind base others f (library_body f.opened.«data») ≡ x
      behind_here x h =
          sym ((those_of_runs base).each others f (library_body f.opened.«data»)) ∙ ap (λ (rs : List CompiledLibrary). expand_found base.prelude rs f (library_body f.opened.«data»)) (sym is) ∙ h

      law_turn : (flag : Bool) (r : CompiledLibrary) (left : Paths) → law.LibraryTurn base (cache_of k) k.roots group loaded false others s.store f (law.turned flag r left)
          → (expand_behind base others f (library_body f.opened.«data») ≡ Ok r) × entries.HonestStore base.prelude (cache_of k).entry_in left
      law_turn flag r left turn = turn_right base (cache_of k) k.roots group loaded back right others s.store f n (honest_there base k s.store honest) false flag r left turn

      put_turn : (r : CompiledLibrary) (asked faults : ℕ) (left : Paths) → expand_found base.prelude s.progress.records f (library_body f.opened.«data») ≡ Ok r
          → (p : IsPut (place_of k f) (changed s.store asked left faults) (spelled (made k f r))) → PutIsHonest base.prelude p → law.LibraryTurn base (cache_of k) k.roots group loaded false others s.store f (law.turned false r left)
      put_turn r asked faults left made_here p h = law.expanded (λ quiet. absurd (true≢false (sym quiet))) (behind_here (Ok r) made_here) (is_kept r (changed s.store asked left faults) (spelled (made k f r)) refl p h)

      -- what was reused is what expansion gives
      pub reused_gives : (r : CompiledLibrary) → if_short k s.progress.records f (at_path s.store (place_of k f)) ≡ Some r → expand_behind base others f (library_body f.opened.«data») ≡ Ok r
      reused_gives r found =
          (law_turn true r s.store (law.reused (stored_there base k group loaded others f own s.store r (ap (λ (rs : List CompiledLibrary). if_short k rs f (at_path s.store (place_of k f))) (sym is) ∙ found)))).0

      pub record Step (t : TurnState) : Type 0 where
        pub r : CompiledLibrary
        pub made : expand_behind base others f (library_body f.opened.«data») ≡ Ok r
        pub records : t.progress.records ≡ base.derived ∷ (others ++ r ∷ [])
        pub left_honest : IsHonest base.prelude t.store

      pub step : (t : TurnState) (turn : ReuseTurn k base.prelude s f t) → TurnIsHonest k base.prelude turn → Step t
      step t (reused r faults more found) h =
          record { r = r; made = reused_gives r found; records = ap (λ (rs : List CompiledLibrary). rs ++ r ∷ []) is; left_honest = honest }
      step t (expanded r asked faults left more further misses made_here kept) h =
          let x = law_turn false r left (put_turn r asked faults left made_here kept h) in
          record { r = r; made = x.0; records = ap (λ (rs : List CompiledLibrary). rs ++ r ∷ []) is; left_honest = honest_here base k left x.1 }

      pub broken : (store : Paths) (faults : ℕ) (b : Breaks k base.prelude s f store faults) → BreaksHonestly k base.prelude b → IsHonest base.prelude store
      broken store faults (nothing_put same more) h = subst (IsHonest base.prelude) (sym same) honest
      broken store faults (entry_put r asked more further made_here kept) h = honest_here base k store (law_turn false r store (put_turn r asked faults store made_here kept h)).1

  -- ---- all libraries

  module _ (before : Libraries) (others : List CompiledLibrary) (so_far : records_behind base before ≡ Ok others) where
    pub one_more : (row : List ℕ × Found) (rest : Libraries) (r : CompiledLibrary) → expand_behind base others row.1 (library_body row.1.opened.«data») ≡ Ok r → records_behind base (before ++ row ∷ []) ≡ Ok (others ++ r ∷ [])
    one_more row rest r made_here = turns_to (behind_next base) before (row ∷ []) [] others so_far ∙ turns_one (behind_next base) others row ∙ ap (λ x. x >>= (λ y. Ok (others ++ y ∷ []))) made_here

    at_fault : (row : List ℕ × Found) (rest : Libraries) (fault : Fault) → loaded ≡ before ++ row ∷ rest → expand_behind base others row.1 (library_body row.1.opened.«data») ≡ Err fault → records_behind base loaded ≡ Err fault
    at_fault row rest fault parts stops =
        ap (records_behind base) parts ∙ turns_to (behind_next base) before (row ∷ rest) [] others so_far
        ∙ ap (λ x. (x >>= (λ y. Ok (others ++ y ∷ []))) >>= (λ t. turns (behind_next base) t rest)) stops

  pub record Whole (last : TurnState) : Type 0 where
    pub made : all_records base.prelude loaded ≡ Ok last.progress.records
    pub honest : IsHonest base.prelude last.store

  all_made : (others : List CompiledLibrary) (rs : List CompiledLibrary) → records_behind base loaded ≡ Ok others → rs ≡ base.derived ∷ others → all_records base.prelude loaded ≡ Ok rs
  all_made others rs h is = all_same base loaded ∙ ap (λ x. x >>= (λ (os : List CompiledLibrary). Ok (base.derived ∷ os))) h ∙ ap (λ (x : List CompiledLibrary). Ok x) (sym is)

  pub first_is : (f : Found) (fs : List Found) (row : List ℕ × Found) (rest : Libraries) → f ∷ fs ≡ found_in (row ∷ rest) → row.1 ≡ f
  first_is f fs row rest e = cc

  pub rest_is : (f : Found) (fs : List Found) (row : List ℕ × Found) (rest : Libraries) → f ∷ fs ≡ found_in (row ∷ rest) → fs ≡ found_in rest
  rest_is f fs row rest e = cc

  pub next_is : (before : Libraries) (others : List CompiledLibrary) → records_behind base before ≡ Ok others → (row : List ℕ × Found) (rest : Libraries) (f : Found) → row.1 ≡ f → loaded ≡ before ++ row ∷ rest → IsNextLibrary base group loaded others f
  next_is before others so_far row rest f is parts =
      record { before = before; file = row.0; after = rest; parts = parts ∙ ap (λ (g : Found). before ++ (row.0, g) ∷ rest) is; recorded = so_far }

  pub on_row : (others : List CompiledLibrary) (row : List ℕ × Found) (f : Found) (x : Result CompiledLibrary Fault) → row.1 ≡ f → expand_behind base others f (library_body f.opened.«data») ≡ x → expand_behind base others row.1 (library_body row.1.opened.«data») ≡ x
  on_row others row f x is h = ap (λ (g : Found). expand_behind base others g (library_body g.opened.«data»)) is ∙ h

  pub turns_right : (before rows : Libraries) (others : List CompiledLibrary) (s last : TurnState) (fs : List Found) → fs ≡ found_in rows → loaded ≡ before ++ rows → records_behind base before ≡ Ok others → s.progress.records ≡ base.derived ∷ others
      → IsHonest base.prelude s.store → (ts : ReuseTurns k base.prelude s fs last) → TurnsHonestly k base.prelude ts → Whole last
  turns_right before [] others s last fs e parts so_far is honest done h =
      record { made = all_made others s.progress.records (ap (records_behind base) (parts ∙ append-nil before) ∙ so_far) is; honest = honest }
  turns_right before (row ∷ rest) others s last fs e parts so_far is honest done h = absurd (cc)
  turns_right before [] others s last fs e parts so_far is honest (next turn ts) h = absurd (cc)
  turns_right before (row ∷ rest) others s last fs e parts so_far is honest (next {t = t} {f = f} {fs = more} turn ts) h =
      let first = first_is f more row rest e in
      let x = step others f (next_is before others so_far row rest f first parts) s is honest t turn h.0 in
      turns_right (before ++ row ∷ []) rest (others ++ x.r ∷ []) t last more (rest_is f more row rest e) (parts ∙ sym (append_assoc before (row ∷ []) rest))
      (one_more before others so_far row rest x.r (on_row others row f (Ok x.r) first x.made)) x.records x.left_honest ts h.1

  pub stops_right : (fault : Fault) (store : Paths) (faults : ℕ) (before rows : Libraries) (others : List CompiledLibrary) (s : TurnState) (fs : List Found) → fs ≡ found_in rows → loaded ≡ before ++ rows → records_behind base before ≡ Ok others
      → s.progress.records ≡ base.derived ∷ others → IsHonest base.prelude s.store → (ts : TurnsStop k base.prelude fault store faults s fs) → StopsHonestly k base.prelude ts → all_records base.prelude loaded ≡ Err fault
  stops_right fault store faults before [] others s fs e parts so_far is honest (here at) h = absurd (cc)
  stops_right fault store faults before [] others s fs e parts so_far is honest (later turn ts) h = absurd (cc)
  stops_right fault store faults before (row ∷ rest) others s fs e parts so_far is honest (here {f = f} {fs = more} at) h =
      let first = first_is f more row rest e in
      let stops = behind_here others f (next_is before others so_far row rest f first parts) s is honest (Err fault) at.expands in
      all_same base loaded ∙ ap (λ x. x >>= (λ (os : List CompiledLibrary). Ok (base.derived ∷ os))) (at_fault before others so_far row rest fault parts (on_row others row f (Err fault) first stops))
  stops_right fault store faults before (row ∷ rest) others s fs e parts so_far is honest (later {t = t} {f = f} {fs = more} turn ts) h =
      let first = first_is f more row rest e in
      let x = step others f (next_is before others so_far row rest f first parts) s is honest t turn h.0 in
      stops_right fault store faults (before ++ row ∷ []) rest (others ++ x.r ∷ []) t more (rest_is f more row rest e) (parts ∙ sym (append_assoc before (row ∷ []) rest))
      (one_more before others so_far row rest x.r (on_row others row f (Ok x.r) first x.made)) x.records x.left_honest ts h.1

  pub stops_left : (fault : Fault) (store : Paths) (faults : ℕ) (before rows : Libraries) (others : List CompiledLibrary) (s : TurnState) (fs : List Found) → fs ≡ found_in rows → loaded ≡ before ++ rows → records_behind base before ≡ Ok others
      → s.progress.records ≡ base.derived ∷ others → IsHonest base.prelude s.store → (ts : TurnsStop k base.prelude fault store faults s fs) → StopsHonestly k base.prelude ts → IsHonest base.prelude store
  stops_left fault store faults before rows others s fs e parts so_far is honest (here at) h = subst (IsHonest base.prelude) (sym at.same) honest
  stops_left fault store faults before [] others s fs e parts so_far is honest (later turn ts) h = absurd (cc)
  stops_left fault store faults before (row ∷ rest) others s fs e parts so_far is honest (later {t = t} {f = f} {fs = more} turn ts) h =
      let first = first_is f more row rest e in
      let x = step others f (next_is before others so_far row rest f first parts) s is honest t turn h.0 in
      stops_left fault store faults (before ++ row ∷ []) rest (others ++ x.r ∷ []) t more (rest_is f more row rest e) (parts ∙ sym (append_assoc before (row ∷ []) rest))
      (one_more before others so_far row rest x.r (on_row others row f (Ok x.r) first x.made)) x.records x.left_honest ts h.1

  pub breaks_right : (store : Paths) (faults : ℕ) (before rows : Libraries) (others : List CompiledLibrary) (s : TurnState) (fs : List Found) → fs ≡ found_in rows → loaded ≡ before ++ rows → records_behind base before ≡ Ok others
      → s.progress.records ≡ base.derived ∷ others → IsHonest base.prelude s.store → (ts : BreaksOff k base.prelude store faults s fs) → BreaksOffHonestly k base.prelude ts → IsHonest base.prelude store
  breaks_right store faults before rows others s fs e parts so_far is honest (between same more) h = subst (IsHonest base.prelude) (sym same) honest
  breaks_right store faults before [] others s fs e parts so_far is honest (within b) h = absurd (cc)
  breaks_right store faults before [] others s fs e parts so_far is honest (behind turn ts) h = absurd (cc)
  breaks_right store faults before (row ∷ rest) others s fs e parts so_far is honest (within {f = f} {fs = more} b) h =
      broken others f (next_is before others so_far row rest f (first_is f more row rest e) parts) s is honest store faults b h
  breaks_right store faults before (row ∷ rest) others s fs e parts so_far is honest (behind {t = t} {f = f} {fs = more} turn ts) h =
      let first = first_is f more row rest e in
      let x = step others f (next_is before others so_far row rest f first parts) s is honest t turn h.0 in
      breaks_right store faults (before ++ row ∷ []) rest (others ++ x.r ∷ []) t more (rest_is f more row rest e) (parts ∙ sym (append_assoc before (row ∷ []) rest))
      (one_more before others so_far row rest x.r (on_row others row f (Ok x.r) first x.made)) x.records x.left_honest ts h.1
