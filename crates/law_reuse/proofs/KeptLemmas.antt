-- The place of a library holds its entry from its turn on.
use Rattle.std.proofs.Common.{◌≡◌, ℕ, ◌≤◌, ◌+◌, zero, suc, Bool, true, false, List, [], ◌∷◌, ◌++◌, length, map, Result, Ok, Err, Option, Some, None, refl, sym, ap, subst, ◌∙◌, append_assoc, true≢false, inl, inr, arith}
use Rattle.std.specs.Prelude.{◌⊎◌, ◌&&◌, nat_eq, slice_get, if◌then◌else◌}
use Rattle.std.specs.Cmp.Lexicographic.{pointwise}
use Rattle.base_data.specs.Gives.{◌>>=◌}
use Rattle.base_data.specs.Same.{same_library, texts_decides}
use Rattle.base_data.specs.declared.fault.Fault.{Fault}
use Rattle.core_cache.specs.Entry.{encode, has_spelling}
use Rattle.core_cache.specs.EntryLaws.{decodes}
use Rattle.core_cache.specs.Fits as cached
use Rattle.core_cache.specs.FitsLaws.{fits_exactly}
use Rattle.core_cache.specs.Seal.{sealed}
use Rattle.core_cache.specs.declared.entry.Entry.{Entry}
use Rattle.core_language.specs.declared.record.CompiledLibrary.{CompiledLibrary}
use Rattle.law_core.specs.Follows.{follows}
use Rattle.eval_code.specs.Codes.{Codes}
use Rattle.load_forms.specs.Form.{library_body}
use Rattle.load_import.specs.Turns.{turns}
use Rattle.load_files.specs.declared.found.Found.{Found}
use Rattle.load_files.specs.declared.found.Source.{Source}
use Rattle.law_load.specs.Laws.{Libraries, IsAt, AreLoadedOnce}
use Rattle.law_local.specs.Behind.{RunBase, expand_behind, behind_next, records_behind}
use Rattle.law_local.specs.Local.{IsNextLibrary, ReuseIsRight}
use Rattle.base_outside.specs.Contents.{Paths, at_path}
use Rattle.run_reuse.specs.Entries.{CacheInputs, entry_limit, entry_in, decoded, earlier, if_short, made, place_of, spelled}
use Rattle.run_reuse.specs.Groups.{chosen, picked}
use Rattle.run_reuse.specs.Texts.{found_in}
use Rattle.run_reuse.specs.Turns.{StoreChange, changed, TurnState, Quiet, ReuseTurn, reused, expanded, IsPut, put, too_long, unspelled, failed, ReuseTurns, done, next, TurnsStop, here, later}
use Rattle.law_reuse.proofs.Unsealed.{unsealed_body}
use Rattle.law_reuse.specs.Kept.{HoldsShortEntry, IsAlone, CanBeKept}
use Rattle.law_reuse.specs.Failing.{unput, unkept, FailedAt}
use Rattle.law_reuse.specs.Others.{IsElsewhere}
use Rattle.law_reuse.specs.Seals.{TurnsHonestly}
use Rattle.law_reuse.specs.Sound.{IsHonest}
use Rattle.law_reuse.proofs.Exactly.{IsFrom, from_entry}
use Rattle.law_reuse.proofs.OthersLemmas.{turns_leave, stops_leave}
use Rattle.law_reuse.proofs.QuietLemmas.{quiet_within, turn_later, turns_later, turn_quiet, stops_later, same_count}
use Rattle.law_reuse.proofs.Read.{Picks, picked_there}
use Rattle.law_reuse.proofs.Turned.{at_length, next_is, first_is, rest_is, on_row, one_more, step, reused_gives, behind_here}

second : (a b : Bool) → (a && b) ≡ true → b ≡ true
second true b h = h
second false b h = absurd (true≢false (sym h))

first : (a b : Bool) → (a && b) ≡ true → a ≡ true
first true b h = refl
first false b h = h

-- what is sealed of an entry with a spelling is that entry
sealed_is : (k : CacheInputs) (f : Found) (r : CompiledLibrary) → has_spelling (made k f r) ≡ true → entry_in (sealed (encode (made k f r))) ≡ Some (made k f r)
sealed_is k f r spelling = ap decoded (unsealed_body (sealed (encode (made k f r))) (encode (made k f r)) refl) ∙ decodes (made k f r) spelling

module _ (k : CacheInputs) where
  -- where the store is honest that is its entry
  reused_holds : (prelude : Result Codes Fault) (records : List CompiledLibrary) (store : Paths) (f : Found) (r : CompiledLibrary) → IsHonest prelude store → if_short k records f (at_path store (place_of k f)) ≡ Some r → HoldsShortEntry k store f r
  reused_holds prelude records store f r honest h = record { held = x.holds.held; there = x.holds.there; short = x.holds.short; is = x.holds.is ∙ ap (λ (e : Entry). Some e) same }
    where
      x : IsFrom k records store f r
      x = from_entry k records store f r h

      fits : (x.entry.roots ≡ k.roots) × (map (λ (s : Source). Option.Some s) x.entry.sources ≡ map (slice_get k.sources) (chosen k.groups f))
      fits = (fits_exactly x.entry k.roots k.sources (chosen k.groups f)).0 x.holds.fit

      sources : x.entry.sources ≡ picked k.sources (chosen k.groups f)
      sources = picked_there k.sources x.entry.sources (chosen k.groups f) fits.1

      behind_name : Bool
      behind_name = pointwise nat_eq x.entry.stored.version f.opened.form.version && (cached.same_text x.entry.stored.path f.opened.path && follows x.entry.stored (earlier records f))

      path_is : x.entry.stored.path ≡ f.opened.path
      path_is = (texts_decides x.entry.stored.path f.opened.path).0
          (first (cached.same_text x.entry.stored.path f.opened.path) (follows x.entry.stored (earlier records f))
          (second (pointwise nat_eq x.entry.stored.version f.opened.form.version) (cached.same_text x.entry.stored.path f.opened.path && follows x.entry.stored (earlier records f))
          (second (same_library x.entry.stored.name f.opened.form.name) behind_name x.suit)))

      path : x.entry.path ≡ f.opened.path
      path = sym (honest (place_of k f) x.holds.held x.entry x.holds.there x.holds.is).path ∙ path_is

      same : x.entry ≡ made k f r
      same = λ i. record { path = path i; roots = fits.0 i; sources = sources i; stored = x.is i }

  put_holds : (f : Found) (r : CompiledLibrary) (change : StoreChange) (o : Option (List ℕ)) → spelled (made k f r) ≡ o → CanBeKept k f r → Quiet change.faults_before change.faults_after → IsPut (place_of k f) change o → HoldsShortEntry k change.after f r
  put_holds f r change (Some piece) is can quiet (put short sets) =
      let whole = sym (ap (λ c. if c then Some (sealed (encode (made k f r))) else None) can.0) ∙ is in
      let same : sealed (encode (made k f r)) ≡ piece = cc in
      record { held = piece; there = sets.held; short = short; is = ap entry_in (sym same) ∙ sealed_is k f r can.0 }
  put_holds f r change (Some piece) is can quiet (too_long long same_store) =
      let whole = sym (ap (λ c. if c then Some (sealed (encode (made k f r))) else None) can.0) ∙ is in
      let same : sealed (encode (made k f r)) ≡ piece = cc in
      let short = subst (λ (x : List ℕ). length x ≤ entry_limit) same can.1 in
      absurd (omega (arith, long, short))
  put_holds f r change None is can quiet (unspelled same_store) =
      let whole = sym (ap (λ c. if c then Some (sealed (encode (made k f r))) else None) can.0) ∙ is in
      absurd (cc)
  put_holds f r change (Some piece) is can quiet (failed rose others) = absurd (quiet rose)

  -- or its put failed
  put_or : (f : Found) (r : CompiledLibrary) (change : StoreChange) (o : Option (List ℕ)) → spelled (made k f r) ≡ o → CanBeKept k f r → (p : IsPut (place_of k f) change o) → HoldsShortEntry k change.after f r ⊎ (unput p ≡ 1)
  put_or f r change (Some piece) is can (put short sets) =
      let whole = sym (ap (λ c. if c then Some (sealed (encode (made k f r))) else None) can.0) ∙ is in
      let same : sealed (encode (made k f r)) ≡ piece = cc in
      inl (record { held = piece; there = sets.held; short = short; is = ap entry_in (sym same) ∙ sealed_is k f r can.0 })
  put_or f r change (Some piece) is can (too_long long same_store) =
      let whole = sym (ap (λ c. if c then Some (sealed (encode (made k f r))) else None) can.0) ∙ is in
      let same : sealed (encode (made k f r)) ≡ piece = cc in
      let short = subst (λ (x : List ℕ). length x ≤ entry_limit) same can.1 in
      absurd (omega (arith, long, short))
  put_or f r change None is can (unspelled same_store) =
      let whole = sym (ap (λ c. if c then Some (sealed (encode (made k f r))) else None) can.0) ∙ is in
      absurd (cc)
  put_or f r change (Some piece) is can (failed rose others) = inr refl

-- ---- the turns of all libraries

module _ (base : RunBase) (k : CacheInputs) (group : Found → List Source) (loaded : Libraries) (right : ReuseIsRight base group k.roots loaded)
    (picks : (place : ℕ) (file : List ℕ) (f : Found) → IsAt loaded place file f → Picks base k group loaded f) (once : AreLoadedOnce loaded)
    (file : List ℕ) (f : Found) (rest : Libraries) (r : CompiledLibrary) (alone : IsAlone k loaded f) (can : CanBeKept k f r) where
  still : (store left : Paths) → at_path left (place_of k f) ≡ at_path store (place_of k f) → HoldsShortEntry k store f r → HoldsShortEntry k left f r
  still store left same h = record { held = h.held; there = same ∙ h.there; short = h.short; is = h.is }

  -- those behind it lie elsewhere
  further_on : (before : Libraries) (j : ℕ) → slice_get (before ++ (file, f) ∷ rest) (length before + suc j) ≡ slice_get rest j
  further_on [] j = let e : 0 + suc j ≡ suc j = omega arith in ap (slice_get ((file, f) ∷ rest)) e
  further_on (x ∷ before) j = let e : suc (length before) + suc j ≡ suc (length before + suc j) = omega arith in ap (slice_get (x ∷ (before ++ (file, f) ∷ rest))) e ∙ further_on before j

  elsewhere : (before : Libraries) → loaded ≡ before ++ (file, f) ∷ rest → (j : ℕ) (name : List ℕ) (l : Found) → slice_get rest j ≡ Some (name, l) → place_of k l ≡ place_of k f → ⊥
  elsewhere before parts j name l h e =
      let own : IsAt loaded (length before) file f = subst (λ (ls : Libraries). slice_get ls (length before) ≡ Some (file, f)) (sym parts) (at_length before (file, f) rest) in
      let other : IsAt loaded (length before + suc j) name l = subst (λ (ls : Libraries). slice_get ls (length before + suc j) ≡ Some (name, l)) (sym parts) (further_on before j ∙ h) in
      let same = alone (length before + suc j) name l other e in
      let place = once.in_order (length before) file f own in
      absurd (omega (arith, same, place))

  all_elsewhere : (rows : Libraries) → ((j : ℕ) (name : List ℕ) (l : Found) → slice_get rows j ≡ Some (name, l) → place_of k l ≡ place_of k f → ⊥) → IsElsewhere k (place_of k f) (found_in rows)
  all_elsewhere [] h = tt
  all_elsewhere (row ∷ rows) h = (h zero row.0 row.1 refl, all_elsewhere rows (λ j name l at. h (suc j) name l at))

  module _ (before : Libraries) (others : List CompiledLibrary) (so_far : records_behind base before ≡ Ok others) (parts : loaded ≡ before ++ (file, f) ∷ rest) where
    own : IsNextLibrary base group loaded others f
    own = record { before = before; file = file; after = rest; parts = parts; recorded = so_far }

    -- its own turn
    turn_holds : (s t : TurnState) → s.progress.records ≡ base.derived ∷ others → IsHonest base.prelude s.store → expand_behind base others f (library_body f.opened.«data») ≡ Ok r
        → (turn : ReuseTurn k base.prelude s f t) → Quiet s.faults t.faults → HoldsShortEntry k t.store f r
    turn_holds s t is honest gives (reused x faults more found) quiet =
        let made_here = reused_gives base k group loaded right picks others f own s is honest x found in
        let both : ◌≡◌ {A = Result CompiledLibrary Fault} (Ok x) (Ok r) = sym made_here ∙ gives in
        let same : x ≡ r = cc in
        subst (λ (y : CompiledLibrary). HoldsShortEntry k s.store f y) same (reused_holds k base.prelude s.progress.records s.store f x honest found)
    turn_holds s t is honest gives (expanded x asked faults left more further misses made_here kept) quiet =
        let both : ◌≡◌ {A = Result CompiledLibrary Fault} (Ok x) (Ok r) = sym (behind_here base k group loaded right picks others f own s is honest (Ok x) made_here) ∙ gives in
        let same : x ≡ r = cc in
        put_holds k f r (changed s.store asked left faults) (spelled (made k f x)) (ap (λ (y : CompiledLibrary). spelled (made k f y)) (sym same)) can (quiet_within s.faults asked faults faults more (same_count faults) quiet) kept

  -- ---- the turns of all

  abbrev Upto : List CompiledLibrary → Libraries → List CompiledLibrary → Type 0
  Upto others middle records = turns (behind_next base) others middle ≡ Ok records

  records_same : (others records : List CompiledLibrary) → Upto others [] records → others ≡ records
  records_same others records h = cc

  one_step : (others : List CompiledLibrary) (x row : List ℕ × Found) (g : Found) (y : Result CompiledLibrary Fault) → row ≡ x → row.1 ≡ g → expand_behind base others g (library_body g.opened.«data») ≡ y
      → behind_next base others x ≡ (y >>= (λ z. Ok (others ++ z ∷ [])))
  one_step others x row g y same is h =
      ap (behind_next base others) (sym same) ∙ ap (λ z. z >>= (λ u. Ok (others ++ u ∷ []))) (on_row base k group loaded right picks others row g y is h)

  rows_first : (row x : List ℕ × Found) (more others : Libraries) → row ∷ more ≡ x ∷ others → row ≡ x
  rows_first row x more others h = cc

  rows_rest : (row x : List ℕ × Found) (more others : Libraries) → row ∷ more ≡ x ∷ others → more ≡ others
  rows_rest row x more others h = cc

  found_is : (row : List ℕ × Found) (more : Libraries) (g : Found) → row ∷ more ≡ (file, f) ∷ rest → row.1 ≡ g → f ≡ g
  found_is row more g split is = sym (ap (λ (y : List ℕ × Found). y.1) (rows_first row (file, f) more rest split)) ∙ is

  others_elsewhere : (before : Libraries) → loaded ≡ before ++ (file, f) ∷ rest → (row : List ℕ × Found) (more : Libraries) (gs : List Found) → row ∷ more ≡ (file, f) ∷ rest → gs ≡ found_in more → IsElsewhere k (place_of k f) gs
  others_elsewhere before whole row more gs split is =
      subst (IsElsewhere k (place_of k f)) (sym (is ∙ ap found_in (rows_rest row (file, f) more rest split))) (all_elsewhere rest (elsewhere before whole))

  pub holds_turns : (middle rows before : Libraries) (others records : List CompiledLibrary) (s last : TurnState) (fs : List Found) → fs ≡ found_in rows → rows ≡ middle ++ (file, f) ∷ rest → loaded ≡ before ++ rows
      → records_behind base before ≡ Ok others → s.progress.records ≡ base.derived ∷ others → IsHonest base.prelude s.store → (ts : ReuseTurns k base.prelude s fs last) → Quiet s.faults last.faults
      → Upto others middle records → expand_behind base records f (library_body f.opened.«data») ≡ Ok r → HoldsShortEntry k last.store f r
  holds_turns [] [] before others records s last fs e split parts so_far is honest ts quiet upto gives = absurd (cc)
  holds_turns (x ∷ middle) [] before others records s last fs e split parts so_far is honest ts quiet upto gives = absurd (cc)
  holds_turns [] (row ∷ more) before others records s last fs e split parts so_far is honest done quiet upto gives = absurd (cc)
  holds_turns (x ∷ middle) (row ∷ more) before others records s last fs e split parts so_far is honest done quiet upto gives = absurd (cc)
  holds_turns [] (row ∷ more) before others records s last fs e split parts so_far is honest (next {t = t} {f = g} {fs = gs} turn ts) quiet upto gives =
      let whole : loaded ≡ before ++ (file, f) ∷ rest = parts ∙ ap (λ (ls : Libraries). before ++ ls) split in
      let g_is = found_is row more g split (first_is base k group loaded right picks g gs row more e) in
      let own_quiet = quiet_within s.faults s.faults t.faults last.faults (same_count s.faults) (turns_later k base.prelude t last gs ts) quiet in
      let held = turn_holds before others so_far whole s t is honest (ap (λ (rs : List CompiledLibrary). expand_behind base rs f (library_body f.opened.«data»)) (records_same others records upto) ∙ gives)
      (subst (λ (y : Found). ReuseTurn k base.prelude s y t) (sym g_is) turn) own_quiet in
      still t.store last.store (turns_leave k base.prelude (place_of k f) t last gs (others_elsewhere before whole row more gs split (rest_is base k group loaded right picks g gs row more e)) ts) held
  holds_turns (x ∷ middle) (row ∷ more) before others records s last fs e split parts so_far is honest (next {t = t} {f = g} {fs = gs} turn ts) quiet upto gives =
      let first_here = first_is base k group loaded right picks g gs row more e in
      let own_quiet = quiet_within s.faults s.faults t.faults last.faults (same_count s.faults) (turns_later k base.prelude t last gs ts) quiet in
      let y = step base k group loaded right picks others g (next_is base k group loaded right picks before others so_far row more g first_here parts) s is honest t turn (turn_quiet k base.prelude s t g turn own_quiet) in
      let row_is = rows_first row x more (middle ++ (file, f) ∷ rest) split in
      holds_turns middle more (before ++ row ∷ []) (others ++ y.r ∷ []) records t last gs (rest_is base k group loaded right picks g gs row more e) (rows_rest row x more (middle ++ (file, f) ∷ rest) split)
      (parts ∙ sym (append_assoc before (row ∷ []) more)) (one_more base k group loaded right picks before others so_far row more y.r (on_row base k group loaded right picks others row g (Ok y.r) first_here y.made)) y.records y.left_honest ts
      (quiet_within s.faults t.faults last.faults last.faults (turn_later k base.prelude s t g turn) (same_count last.faults) quiet)
      (sym (ap (λ z. z >>= (λ u. turns (behind_next base) u middle)) (one_step others x row g (Ok y.r) row_is first_here y.made)) ∙ upto) gives

  module _ (fault : Fault) (store : Paths) (faults : ℕ) where
    pub holds_stops : (middle rows before : Libraries) (others records : List CompiledLibrary) (s : TurnState) (fs : List Found) → fs ≡ found_in rows → rows ≡ middle ++ (file, f) ∷ rest → loaded ≡ before ++ rows
        → records_behind base before ≡ Ok others → s.progress.records ≡ base.derived ∷ others → IsHonest base.prelude s.store → (ts : TurnsStop k base.prelude fault store faults s fs) → Quiet s.faults faults
        → Upto others middle records → expand_behind base records f (library_body f.opened.«data») ≡ Ok r → HoldsShortEntry k store f r
    holds_stops [] [] before others records s fs e split parts so_far is honest ts quiet upto gives = absurd (cc)
    holds_stops (x ∷ middle) [] before others records s fs e split parts so_far is honest ts quiet upto gives = absurd (cc)
    holds_stops [] (row ∷ more) before others records s fs e split parts so_far is honest (here {f = g} {fs = gs} at) quiet upto gives =
        let whole : loaded ≡ before ++ (file, f) ∷ rest = parts ∙ ap (λ (ls : Libraries). before ++ ls) split in
        let g_is = found_is row more g split (first_is base k group loaded right picks g gs row more e) in
        let stops = behind_here base k group loaded right picks others g (next_is base k group loaded right picks before others so_far row more g (first_is base k group loaded right picks g gs row more e) parts) s is honest (Err fault) at.expands in
        let both : ◌≡◌ {A = Result CompiledLibrary Fault} (Err fault) (Ok r) =
        sym stops ∙ ap (λ (y : Found). expand_behind base others y (library_body y.opened.«data»)) (sym g_is) ∙ ap (λ (rs : List CompiledLibrary). expand_behind base rs f (library_body f.opened.«data»)) (records_same others records upto) ∙ gives in
        absurd (cc)
    holds_stops (x ∷ middle) (row ∷ more) before others records s fs e split parts so_far is honest (here {f = g} {fs = gs} at) quiet upto gives =
        let first_here = first_is base k group loaded right picks g gs row more e in
        let stops = behind_here base k group loaded right picks others g (next_is base k group loaded right picks before others so_far row more g first_here parts) s is honest (Err fault) at.expands in
        let both : ◌≡◌ {A = Result (List CompiledLibrary) Fault} (Err fault) (Ok records) =
        sym (ap (λ z. z >>= (λ u. turns (behind_next base) u middle)) (one_step others x row g (Err fault) (rows_first row x more (middle ++ (file, f) ∷ rest) split) first_here stops)) ∙ upto in
        absurd (cc)
    holds_stops [] (row ∷ more) before others records s fs e split parts so_far is honest (later {t = t} {f = g} {fs = gs} turn ts) quiet upto gives =
        let whole : loaded ≡ before ++ (file, f) ∷ rest = parts ∙ ap (λ (ls : Libraries). before ++ ls) split in
        let g_is = found_is row more g split (first_is base k group loaded right picks g gs row more e) in
        let own_quiet = quiet_within s.faults s.faults t.faults faults (same_count s.faults) (stops_later k base.prelude fault store faults t gs ts) quiet in
        let held = turn_holds before others so_far whole s t is honest (ap (λ (rs : List CompiledLibrary). expand_behind base rs f (library_body f.opened.«data»)) (records_same others records upto) ∙ gives)
        (subst (λ (y : Found). ReuseTurn k base.prelude s y t) (sym g_is) turn) own_quiet in
        still t.store store (stops_leave k base.prelude (place_of k f) fault store faults t gs (others_elsewhere before whole row more gs split (rest_is base k group loaded right picks g gs row more e)) ts) held
    holds_stops (x ∷ middle) (row ∷ more) before others records s fs e split parts so_far is honest (later {t = t} {f = g} {fs = gs} turn ts) quiet upto gives =
        let first_here = first_is base k group loaded right picks g gs row more e in
        let own_quiet = quiet_within s.faults s.faults t.faults faults (same_count s.faults) (stops_later k base.prelude fault store faults t gs ts) quiet in
        let y = step base k group loaded right picks others g (next_is base k group loaded right picks before others so_far row more g first_here parts) s is honest t turn (turn_quiet k base.prelude s t g turn own_quiet) in
        let row_is = rows_first row x more (middle ++ (file, f) ∷ rest) split in
        holds_stops middle more (before ++ row ∷ []) (others ++ y.r ∷ []) records t gs (rest_is base k group loaded right picks g gs row more e) (rows_rest row x more (middle ++ (file, f) ∷ rest) split)
        (parts ∙ sym (append_assoc before (row ∷ []) more)) (one_more base k group loaded right picks before others so_far row more y.r (on_row base k group loaded right picks others row g (Ok y.r) first_here y.made)) y.records y.left_honest ts
        (quiet_within s.faults t.faults faults faults (turn_later k base.prelude s t g turn) (same_count faults) quiet)
        (sym (ap (λ z. z >>= (λ u. turns (behind_next base) u middle)) (one_step others x row g (Ok y.r) row_is first_here y.made)) ∙ upto) gives

  -- ---- where calls of the store fail

  module _ (others : List CompiledLibrary) (g : Found) (n : IsNextLibrary base group loaded others g) where
    -- its own turn
    turn_or : (s t : TurnState) → s.progress.records ≡ base.derived ∷ others → IsHonest base.prelude s.store → expand_behind base others g (library_body g.opened.«data») ≡ Ok r → CanBeKept k g r
        → (turn : ReuseTurn k base.prelude s g t) → HoldsShortEntry k t.store g r ⊎ (unkept k base.prelude turn ≡ 1)
    turn_or s t is honest gives fits (reused x faults more found) =
        let made_here = reused_gives base k group loaded right picks others g n s is honest x found in
        let both : ◌≡◌ {A = Result CompiledLibrary Fault} (Ok x) (Ok r) = sym made_here ∙ gives in
        let same : x ≡ r = cc in
        inl (subst (λ (y : CompiledLibrary). HoldsShortEntry k s.store g y) same (reused_holds k base.prelude s.progress.records s.store g x honest found))
    turn_or s t is honest gives fits (expanded x asked faults left more further misses made_here kept) =
        let both : ◌≡◌ {A = Result CompiledLibrary Fault} (Ok x) (Ok r) = sym (behind_here base k group loaded right picks others g n s is honest (Ok x) made_here) ∙ gives in
        let same : x ≡ r = cc in
        put_or k g r (changed s.store asked left faults) (spelled (made k g x)) (ap (λ (y : CompiledLibrary). spelled (made k g y)) (sym same)) fits kept

  pub holds_or : (middle rows before : Libraries) (others records : List CompiledLibrary) (s last : TurnState) (fs : List Found) → fs ≡ found_in rows → rows ≡ middle ++ (file, f) ∷ rest → loaded ≡ before ++ rows
      → records_behind base before ≡ Ok others → s.progress.records ≡ base.derived ∷ others → IsHonest base.prelude s.store → (ts : ReuseTurns k base.prelude s fs last) → TurnsHonestly k base.prelude ts
      → Upto others middle records → expand_behind base records f (library_body f.opened.«data») ≡ Ok r → HoldsShortEntry k last.store f r ⊎ FailedAt k base.prelude ts (length middle)
  holds_or [] [] before others records s last fs e split parts so_far is honest ts h upto gives = absurd (cc)
  holds_or (x ∷ middle) [] before others records s last fs e split parts so_far is honest ts h upto gives = absurd (cc)
  holds_or [] (row ∷ more) before others records s last fs e split parts so_far is honest done h upto gives = absurd (cc)
  holds_or (x ∷ middle) (row ∷ more) before others records s last fs e split parts so_far is honest done h upto gives = absurd (cc)
  holds_or [] (row ∷ more) before others records s last fs e split parts so_far is honest (next {t = t} {f = g} {fs = gs} turn ts) h upto gives =
      let whole : loaded ≡ before ++ (file, f) ∷ rest = parts ∙ ap (λ (ls : Libraries). before ++ ls) split in
      let first_here = first_is base k group loaded right picks g gs row more e in
      let g_is = found_is row more g split first_here in
      let here = ap (λ (y : Found). expand_behind base others y (library_body y.opened.«data»)) (sym g_is) ∙ ap (λ (rs : List CompiledLibrary). expand_behind base rs f (library_body f.opened.«data»)) (records_same others records upto) ∙ gives in
      by (turns_leave k base.prelude (place_of k f) t last gs (others_elsewhere before whole row more gs split (rest_is base k group loaded right picks g gs row more e)) ts) g_is
      (turn_or others g (next_is base k group loaded right picks before others so_far row more g first_here parts) s t is honest here (subst (λ (y : Found). CanBeKept k y r) g_is can) turn)
    where
      by : at_path last.store (place_of k f) ≡ at_path t.store (place_of k f) → f ≡ g → HoldsShortEntry k t.store g r ⊎ (unkept k base.prelude turn ≡ 1) → HoldsShortEntry k last.store f r ⊎ FailedAt k base.prelude (next turn ts) zero
      by same g_is (inl held) = inl (still t.store last.store same (subst (λ (y : Found). HoldsShortEntry k t.store y r) (sym g_is) held))
      by same g_is (inr lost) = inr lost
  holds_or (x ∷ middle) (row ∷ more) before others records s last fs e split parts so_far is honest (next {t = t} {f = g} {fs = gs} turn ts) h upto gives =
      let first_here = first_is base k group loaded right picks g gs row more e in
      let y = step base k group loaded right picks others g (next_is base k group loaded right picks before others so_far row more g first_here parts) s is honest t turn h.0 in
      let row_is = rows_first row x more (middle ++ (file, f) ∷ rest) split in
      holds_or middle more (before ++ row ∷ []) (others ++ y.r ∷ []) records t last gs (rest_is base k group loaded right picks g gs row more e) (rows_rest row x more (middle ++ (file, f) ∷ rest) split)
      (parts ∙ sym (append_assoc before (row ∷ []) more)) (one_more base k group loaded right picks before others so_far row more y.r (on_row base k group loaded right picks others row g (Ok y.r) first_here y.made)) y.records y.left_honest ts h.1
      (sym (ap (λ z. z >>= (λ u. turns (behind_next base) u middle)) (one_step others x row g (Ok y.r) row_is first_here y.made)) ∙ upto) gives
