-- An entry that fits is reused over an honest store.
use Rattle.std.proofs.Common.{◌≡◌, ℕ, List, ◌∷◌, length, Some, Ok, Err, refl, sym, ap, subst, ◌∙◌}
use Rattle.std.specs.Prelude.{slice_get}
use Rattle.base_data.specs.declared.fault.Fault.{Fault}
use Rattle.core_cache.specs.FitsLaws.{fits_exactly}
use Rattle.core_cache.specs.declared.entry.Entry.{Entry}
use Rattle.core_language.specs.declared.record.CompiledLibrary.{CompiledLibrary}
use Rattle.load_files.specs.Load.{load}
use Rattle.load_files.specs.declared.found.Found.{Found}
use Rattle.load_files.specs.declared.found.Loading.{Loading}
use Rattle.load_files.specs.declared.found.Source.{Source}
use Rattle.law_load.specs.Laws.{Libraries, IsAt}
use Rattle.law_load.proofs.LoadLemmas.{loads_all, loads_until}
use Rattle.law_local.specs.Behind.{RunBase}
use Rattle.law_local.specs.Local.{IsNextLibrary, ReuseIsRight, group_of}
use Rattle.law_local.proofs.Local.{reuse_right, are_loaded}
use Rattle.law_local.proofs.Groups.{groups_all, groups_until, all_as_held}
use Rattle.base_outside.specs.Contents.{Paths, at_path}
use Rattle.run_reuse.specs.Entries.{CacheInputs, if_short, made, place_of}
use Rattle.run_reuse.specs.Groups.{chosen}
use Rattle.run_reuse.specs.Turns.{TurnState, stored}
use Rattle.law_reuse.specs.Due.{HoldsFitting, KeptAreFitting, MakesWhatSuits, FittingAreReused}
use Rattle.law_reuse.specs.Runs.{SourcesAreThoseOfFiles, SourcesAreThere, kept}
use Rattle.law_reuse.specs.Sound.{as_entry, IsHonest}
use Rattle.law_reuse.proofs.Exactly.{has_entry}
use Rattle.law_reuse.proofs.Read.{Picks, picked_there}
use Rattle.law_reuse.proofs.Sources.{of_loaded, of_stopped, there_loaded, there_stopped}
use Rattle.law_reuse.proofs.Turned.{at_length}

module _ (base : RunBase) (k : CacheInputs) (group : Found → List Source) (loaded : Libraries) (right : ReuseIsRight base group k.roots loaded)
    (picks : (place : ℕ) (file : List ℕ) (f : Found) → IsAt loaded place file f → Picks base k group loaded f) where
  pub fitting_reused : (others : List CompiledLibrary) (f : Found) → IsNextLibrary base group loaded others f → MakesWhatSuits base others f → (now : TurnState) → now.progress.records ≡ base.derived ∷ others → IsHonest base.prelude now.store
      → (e : Entry) → HoldsFitting k now.store f e → stored k base.prelude now f ≡ Some e.stored
  fitting_reused others f n suit now is honest e x =
      let own = picks (length n.before) n.file f (subst (λ (ls : Libraries). slice_get ls (length n.before) ≡ Some (n.file, f)) (sym n.parts) (at_length n.before (n.file, f) n.after)) in
      let sources = picked_there k.sources e.sources (chosen k.groups f) ((fits_exactly e k.roots k.sources (chosen k.groups f)).0 x.fit).1 ∙ own in
      let made = right.hold others f n (as_entry e) (honest (place_of k f) x.held e x.there x.is) sources in
      ap (λ (rs : List CompiledLibrary). if_short k rs f (at_path now.store (place_of k f))) is ∙ has_entry k (base.derived ∷ others) now.store f e x (suit e.stored made)

kept_fitting : (files : Paths) (roots : List (List ℕ)) (s : Loading) → SourcesAreThere s → KeptAreFitting files roots s
kept_fitting files roots s there dir groups are place file f at r store h = record {
  held = h.held;
  there = h.there;
  short = h.short;
  is = h.is;
  fit = (fits_exactly (made (kept dir roots s groups) f r) roots s.sources (chosen groups f)).1 (refl, sym (there groups are place file f at));
}

module _ (base : RunBase) (files : Paths) (roots : List (List ℕ)) (s : Loading) (sources : SourcesAreThoseOfFiles files roots s) (right : ReuseIsRight base (group_of files roots) roots s.done) where
  all_reused : FittingAreReused base files roots s
  all_reused dir groups are = fitting_reused base (kept dir roots s groups) (group_of files roots) s.done right (sources groups are)

module _ (files : Paths) (roots : List (List ℕ)) (path : List ℕ) where
  pub kept_loaded : (program : Found) (s : Loading) → load files roots path ≡ Ok (program, s) → KeptAreFitting files roots s
  kept_loaded program s h = kept_fitting files roots s (there_loaded files roots path program s h)

  pub kept_stopped : (s : Loading) (fault : Fault) → load files roots path ≡ Err (s, fault) → KeptAreFitting files roots s
  kept_stopped s fault h = kept_fitting files roots s (there_stopped files roots path s fault h)

module _ (files : Paths) (roots : List (List ℕ)) (path : List ℕ) (base : RunBase) where
  pub due_loaded : (program : Found) (s : Loading) → load files roots path ≡ Ok (program, s) → FittingAreReused base files roots s
  due_loaded program s h =
      all_reused base files roots s (of_loaded files roots path program s h)
      (reuse_right base files roots (group_of files roots) s.done (are_loaded s (loads_all files roots path program s h).sound) (groups_all files roots path program s h) (all_as_held files roots s.done))

  pub due_stopped : (s : Loading) (fault : Fault) → load files roots path ≡ Err (s, fault) → FittingAreReused base files roots s
  due_stopped s fault h =
      all_reused base files roots s (of_stopped files roots path s fault h)
      (reuse_right base files roots (group_of files roots) s.done (are_loaded s (loads_until files roots path s fault h)) (groups_until files roots path s fault h) (all_as_held files roots s.done))
