-- What a run gives each library can stand for it.
use Rattle.std.proofs.Common.{◌≡◌, ℕ, ◌<◌, Bool, true, false, List, [], ◌∷◌, ◌++◌, length, Result, Ok, Err, Some, refl, sym, ap, subst, ◌∙◌, arith, append_assoc, append-nil}
use Rattle.std.specs.Prelude.{◌&&◌, nat_eq, slice_get}
use Rattle.std.specs.Cmp.Lexicographic.{pointwise}
use Rattle.base_data.specs.Gives.{◌>>=◌}
use Rattle.base_data.specs.Same.{same_library, same_library_decides, texts_decides}
use Rattle.base_data.specs.declared.fault.Fault.{Fault}
use Rattle.core_cache.specs.Fits.{same_text}
use Rattle.core_language.specs.declared.record.CompiledLibrary.{CompiledLibrary}
use Rattle.law_core.specs.Follows.{Follows, follows}
use Rattle.law_core.proofs.FollowsLemmas.{follows_decides}
use Rattle.load_forms.specs.Form.{library_body}
use Rattle.load_import.specs.Turns.{turns}
use Rattle.load_files.specs.Found.{needed}
use Rattle.load_files.specs.declared.found.Found.{Found}
use Rattle.load_files.specs.declared.found.Loading.{Loading}
use Rattle.law_load.specs.Laws.{Libraries, IsAt}
use Rattle.law_load.proofs.LoadLemmas.{loads_all}
use Rattle.law_local.specs.Behind.{RunBase, behind, expand_behind, behind_next, records_behind}
use Rattle.law_local.specs.Local.{AreLoaded, IsNextLibrary, group_of}
use Rattle.law_local.proofs.BehindLemmas.{all_same, with_first}
use Rattle.law_local.proofs.Local.{are_loaded, turns_to}
use Rattle.law_local.proofs.MadeLemmas.{as_many_records}
use Rattle.law_local.proofs.RecordLemmas.{library-path}
use Rattle.law_local.proofs.Rising.{Among, mark_from, records_first}
use Rattle.base_outside.specs.Contents.{Paths}
use Rattle.run_reuse.specs.Entries.{earlier, suits}
use Rattle.law_reuse.proofs.Due.{due_loaded}
use Rattle.law_reuse.proofs.Turned.{at_length}
use Rattle.law_run.specs.Following.{DoFollow}
use Rattle.law_run.specs.Run.{run_inputs, IsRun, AllStand}
use Rattle.law_run.proofs.FollowLemmas.{records_follow_in_runs}
use Rattle.law_run.proofs.RunLemmas.{all_records_stand}
use Rattle.expand_standing.specs.Start.{records_at}
use Rattle.law_run.specs.Passing.{RecordsPass, RunsPass}
use Rattle.law_run.proofs.VersionLemmas.{library-version}

join : (a b : Bool) → a ≡ true → b ≡ true → (a && b) ≡ true
join true b h k = k
join false b h k = h

at_place : (front : List CompiledLibrary) (r : CompiledLibrary) (rest : List CompiledLibrary) → slice_get (front ++ r ∷ rest) (length front) ≡ Some r
at_place [] r rest = refl
at_place (x ∷ front) r rest = at_place front r rest

module _ (base : RunBase) where
  -- records are added behind those that are there
  abbrev AreMore : List CompiledLibrary → List CompiledLibrary → Type 0
  AreMore records done = (more : List CompiledLibrary) × (records ≡ done ++ more)

  are_more : (done : List CompiledLibrary) (rows : Libraries) (records : List CompiledLibrary) → turns (behind_next base) done rows ≡ Ok records → AreMore records done
  are_more done [] records h = let same : done ≡ records = cc in ([], sym same ∙ sym (append-nil done))
  are_more done (row ∷ rows) records h = by (expand_behind base done row.1 (library_body row.1.opened.«data»)) (λ more k. are_more more rows records k) h
    where
      by : (x : Result CompiledLibrary Fault) → ((more : List CompiledLibrary) → turns (behind_next base) more rows ≡ Ok records → AreMore records more)
          → ((x >>= (λ r. Ok (done ++ r ∷ []))) >>= (λ more. turns (behind_next base) more rows)) ≡ Ok records → AreMore records done
      by (Ok r) rest h = let m = rest (done ++ r ∷ []) h in (r ∷ m.0, m.1 ∙ append_assoc done (r ∷ []) m.0)
      by (Err f) rest h = absurd (cc)

  module _ (files : Paths) (roots : List (List ℕ)) (path : List ℕ) (found : Found) (s : Loading) (records : List CompiledLibrary) (program : CompiledLibrary) (run : IsRun (run_inputs base.prelude files roots path) found s records program) where
    loaded : AreLoaded s.done
    loaded = are_loaded s (loads_all files roots path found s run.loaded).sound

    follow : DoFollow found s records program
    follow = records_follow_in_runs base.prelude files roots path found s records program run

    stand : AllStand found s records program
    stand = all_records_stand base.prelude files roots path found s records program run

    -- the records of the run are those behind that of the derived library
    behind_derived : (x : Result (List CompiledLibrary) Fault) → records_behind base s.done ≡ x → (all : List CompiledLibrary) × (records_behind base s.done ≡ Ok all) × (records ≡ base.derived ∷ all)
    behind_derived (Ok all) h =
        let both : ◌≡◌ {A = Result (List CompiledLibrary) Fault} (Ok records) (Ok (base.derived ∷ all)) = sym run.recorded ∙ all_same base s.done ∙ ap (λ x. x >>= (λ (os : List CompiledLibrary). Ok (base.derived ∷ os))) h in
        let same : records ≡ base.derived ∷ all = cc in
        (all, h, same)
    behind_derived (Err f) h =
        let both : ◌≡◌ {A = Result (List CompiledLibrary) Fault} (Ok records) (Err f) = sym run.recorded ∙ all_same base s.done ∙ ap (λ x. x >>= (λ (os : List CompiledLibrary). Ok (base.derived ∷ os))) h in
        absurd (cc)

    module _ (others : List CompiledLibrary) (f : Found) (n : IsNextLibrary base (group_of files roots) s.done others f) (r : CompiledLibrary) (gives : expand_behind base others f (library_body f.opened.«data») ≡ Ok r) where
      at : IsAt s.done (length n.before) n.file f
      at = subst (λ (ls : Libraries). slice_get ls (length n.before) ≡ Some (n.file, f)) (sym n.parts) (at_length n.before (n.file, f) n.after)

      many : length others ≡ length n.before
      many = as_many_records base n.before others n.recorded

      -- its record stands at its place among those of the run
      record IsThere (d : CompiledLibrary) (all : List CompiledLibrary) : Type 0 where
        pub more : List CompiledLibrary
        pub parts : all ≡ others ++ r ∷ more
        pub there : slice_get all (length n.before) ≡ Some r
        pub whole : d ∷ all ≡ base.derived ∷ (others ++ r ∷ more)

      is_there : (d : CompiledLibrary) (all : List CompiledLibrary) → records ≡ d ∷ all → IsThere d all
      is_there d all parts =
          let own = behind_derived (records_behind base s.done) refl in
          let step = ap (records_behind base) n.parts ∙ turns_to (behind_next base) n.before ((n.file, f) ∷ n.after) [] others n.recorded ∙ ap (λ x. (x >>= (λ (y : CompiledLibrary). Ok (others ++ y ∷ []))) >>= (λ t. turns (behind_next base) t n.after)) gives in
          let m = are_more (others ++ r ∷ []) n.after own.0 (sym step ∙ own.1) in
          let split : own.0 ≡ others ++ r ∷ m.0 = m.1 ∙ append_assoc others (r ∷ []) m.0 in
          let both : d ∷ all ≡ base.derived ∷ own.0 = sym parts ∙ own.2 in
          let same : all ≡ own.0 = cc in
          record {
            more = m.0;
            parts = same ∙ split;
            there = subst (λ (rs : List CompiledLibrary). slice_get rs (length n.before) ≡ Some r) (sym (same ∙ split)) (subst (λ k. slice_get (others ++ r ∷ m.0) k ≡ Some r) many (at_place others r m.0));
            whole = both ∙ ap (λ (rs : List CompiledLibrary). base.derived ∷ rs) split;
          }

      -- what it needs is among the records before it
      low : (q : ℕ) → Among (needed f) q → q < length others
      low q a =
          let k = mark_from 0 f.needs q a in
          let is = k.is in
          let b = (loaded.closed (length n.before) n.file f at k.place k.marked).before in
          let place = loaded.once.in_order (length n.before) n.file f at in
          omega (arith, is, b, place, many)

      follows_needed : Follows r (behind base others f)
      follows_needed =
          let x = is_there follow.derived follow.others follow.parts in
          let whole = x.whole in
          let first : follow.derived ≡ base.derived = cc in
          let rest : records_at follow.others (needed f) ≡ records_at others (needed f) = ap (λ (rs : List CompiledLibrary). records_at rs (needed f)) x.parts ∙ records_first others (r ∷ x.more) (needed f) low in
          subst (Follows r) (λ i. first i ∷ rest i) (follow.each (length n.before) n.file f r at x.there)

      named : r.name ≡ f.opened.form.name
      named = (stand.each (length n.before) n.file f r at (is_there stand.derived stand.others stand.parts).there).named

      pub suited : suits (base.derived ∷ others) f r ≡ true
      suited =
          join (same_library r.name f.opened.form.name) (pointwise nat_eq r.version f.opened.form.version && (same_text r.path f.opened.path && follows r (earlier (base.derived ∷ others) f)))
          ((same_library_decides r.name f.opened.form.name).1 named)
          (join (pointwise nat_eq r.version f.opened.form.version) (same_text r.path f.opened.path && follows r (earlier (base.derived ∷ others) f))
          ((texts_decides r.version f.opened.form.version).1 (library-version base.prelude (behind base others f) f.opened.path f.opened.form (library_body f.opened.«data») r gives))
          (join (same_text r.path f.opened.path) (follows r (earlier (base.derived ∷ others) f))
          ((texts_decides r.path f.opened.path).1 (library-path base.prelude (behind base others f) f.opened.path f.opened.form (library_body f.opened.«data») r gives))
          ((follows_decides r (earlier (base.derived ∷ others) f)).1 (subst (Follows r) (sym (with_first base.derived others f.needs)) follows_needed))))

pub runs_pass : RunsPass
runs_pass base files roots path found s records program run = (pass, λ dir groups are others f n now is honest e x. due_loaded files roots path base found s run.loaded dir groups are others f n (pass others f n) now is honest e x)
  where
    pass : RecordsPass base files roots s
    pass others f n r gives = suited base files roots path found s records program run others f n r gives
