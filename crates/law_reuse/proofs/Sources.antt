-- The sources that an entry is made of are those that the files give.
use Rattle.std.proofs.Common.{◌≡◌, ℕ, zero, suc, ◌+◌, ◌<◌, ◌≤◌, List, [], ◌∷◌, ◌++◌, length, map, subst, Ok, Err, Option, Some, None, refl, sym, ap, ◌∙◌, append-nil, length-append, inl, inr, arith}
use Rattle.std.specs.Prelude.{slice_get}
use Rattle.std.specs.Option.{option_map}
use Rattle.std.specs.List.{flat_map}
use Rattle.std.specs.Map.{keys_of}
use Rattle.std.proofs.lemmas.List.Quantifiers.{position-Some}
use Rattle.std.proofs.lemmas.Map.Entries.{length-keys_of}
use Rattle.std.proofs.lemmas.Option.{slice_get-get_or}
use Rattle.base_data.specs.declared.fault.Fault.{Fault}
use Rattle.load_import.specs.Shared.{place_of}
use Rattle.load_import.proofs.FoundLemmas.{same_at}
use Rattle.load_import.specs.Table.{same_text}
use Rattle.base_outside.specs.Contents.{Paths}
use Rattle.load_files.specs.Found.{needed, held_at}
use Rattle.load_files.specs.Load.{load}
use Rattle.load_files.specs.declared.found.Found.{Found}
use Rattle.load_files.specs.declared.found.Loading.{Loading}
use Rattle.load_files.specs.declared.found.Source.{Source}
use Rattle.law_load.specs.Laws.{IsAt, AreLoadedOnce}
use Rattle.law_local.specs.Local.{group_of, group_at, sources_at, all_sources}
use Rattle.run_reuse.specs.Groups.{AreGroups, chosen, group_behind, groups_from, or_skip, picked, places, places_if}
use Rattle.run_reuse.specs.declared.groups.Group.{Group}
use Rattle.law_reuse.specs.Runs.{SourcesAreThoseOfFiles, SourcesAreThere}
use Rattle.law_load.proofs.LoadLemmas.{loads_all, loads_until}
use Rattle.law_local.proofs.Local.{are_loaded}
use Rattle.law_reuse.proofs.Laid.{Begun, group, groups, LaidSoFar, LaidUntil, laid_all, laid_until}
use Rattle.law_reuse.proofs.Picked.{group_in}

picked_joined : (ss : List Source) (ps qs : List ℕ) → picked ss (ps ++ qs) ≡ picked ss ps ++ picked ss qs
picked_joined ss [] qs = refl
picked_joined ss (p ∷ ps) qs = by (slice_get ss p) (picked_joined ss ps qs)
  where
    by : (o : Option Source) → picked ss (ps ++ qs) ≡ picked ss ps ++ picked ss qs → or_skip o (picked ss (ps ++ qs)) ≡ or_skip o (picked ss ps) ++ picked ss qs
    by None h = h
    by (Some s) h = ap (λ xs. s ∷ xs) h

-- ---- as many as there are places

at_most : (ss : List Source) (ps : List ℕ) → length (picked ss ps) ≤ length ps
at_most ss [] = omega arith
at_most ss (p ∷ ps) = by (slice_get ss p) (at_most ss ps)
  where
    by : (o : Option Source) → length (picked ss ps) ≤ length ps → length (or_skip o (picked ss ps)) ≤ suc (length ps)
    by None h = omega (arith, h)
    by (Some s) h = omega (arith, h)

-- then each place has a source
all_there : (ss : List Source) (ps : List ℕ) → length (picked ss ps) ≡ length ps → map (slice_get ss) ps ≡ map (λ (s : Source). Option.Some s) (picked ss ps)
all_there ss [] h = refl
all_there ss (p ∷ ps) h = by (slice_get ss p) (λ rest. all_there ss ps rest) h
  where
    by : (o : Option Source) → (length (picked ss ps) ≡ length ps → map (slice_get ss) ps ≡ map (λ (s : Source). Option.Some s) (picked ss ps))
        → length (or_skip o (picked ss ps)) ≡ suc (length ps) → o ∷ map (slice_get ss) ps ≡ map (λ (s : Source). Option.Some s) (or_skip o (picked ss ps))
    by None rest h = let most = at_most ss ps in absurd (omega (arith, h, most))
    by (Some s) rest h = ap (λ (os : List (Option Source)). Some s ∷ os) (rest (omega (arith, h)))

-- ---- the row of a place

row_at : (rows : Begun) (file : List ℕ) (k : ℕ) → place_of file rows ≡ Some k → (row : List ℕ × Unit {0}) × (slice_get rows k ≡ Some row) × (row.0 ≡ file)
row_at rows file k h = by (slice_get rows k) refl
  where
    within : k < length rows
    within = subst (λ n. k < n) (length-keys_of rows) (position-Some (same_text file) (keys_of rows) k [] h).0

    by : (o : Option (List ℕ × Unit {0})) → slice_get rows k ≡ o → (row : List ℕ × Unit {0}) × (slice_get rows k ≡ Some row) × (row.0 ≡ file)
    by None e = let no = sym (slice_get-get_or rows k ([], tt) within) ∙ e in absurd (cc)
    by (Some row) e = (row, e, sym (same_at rows file k row h e))

map_at : {A B : Type 0} (f : A → B) (xs : List A) (p : ℕ) → slice_get (map f xs) p ≡ option_map f (slice_get xs p)
map_at f [] p = refl
map_at f (x ∷ xs) zero = refl
map_at f (x ∷ xs) (suc p) = map_at f xs p

module _ (files : Paths) (roots : List (List ℕ)) (s : Loading) (l : LaidSoFar files roots s) (once : AreLoadedOnce s.done) (all : List Group) (are : AreGroups (groups_from 0 0 s.sources) s.begun s.done all) where
  abbrev read : List Group
  read = groups_from 0 0 s.sources

  abbrev behind : List ℕ × Found → Option Group
  behind row = group_behind read (place_of row.0 s.begun)

  -- the program is read first
  later : (k : ℕ) → slice_get read (suc k) ≡ slice_get (groups_from 1 1 (groups files roots s.begun ++ l.more)) k
  unfolding groups_from
  later k = ap (λ ss. slice_get (groups_from 0 0 ss) (suc k)) l.parts

  -- the sources of the group of a library
  own : (p : ℕ) (row : List ℕ × Found) → slice_get s.done p ≡ Some row → picked s.sources (places_if (slice_get all p)) ≡ group files roots row.0
  own p row h = by_group (slice_get all p) refl
    where
      both : Some (behind row) ≡ option_map (λ (g : Group). Some g) (slice_get all p)
      both = sym (map_at behind s.done p ∙ ap (option_map behind) h) ∙ ap (λ gs. slice_get gs p) are ∙ map_at (λ (g : Group). Some g) all p

      by_place : (g : Group) (o : Option ℕ) → place_of row.0 s.begun ≡ o → group_behind read o ≡ Some g → picked s.sources (places g) ≡ group files roots row.0
      by_place g None e k = absurd (cc)
      by_place g (Some n) e k =
          let r = row_at s.begun row.0 n e in
          let is = group_in files roots (held_at l.path l.held ∷ []) s.begun l.more l.whole n r.0 r.1 in
          let same : ◌≡◌ {A = Option Group} (Some is.one) (Some g) = sym is.there ∙ sym (later n) ∙ k in
          let group_same : is.one ≡ g = cc in
          ap (λ x. picked s.sources (places x)) (sym group_same) ∙ ap (λ ss. picked ss (places is.one)) l.parts ∙ is.picks ∙ ap (group files roots) r.2

      by_group : (o : Option Group) → slice_get all p ≡ o → picked s.sources (places_if o) ≡ group files roots row.0
      by_group None e = let no = both ∙ ap (option_map (λ (g : Group). Some g)) e in absurd (cc)
      by_group (Some g) e =
          let yes : ◌≡◌ {A = Option (Option Group)} (Some (behind row)) (Some (Some g)) = both ∙ ap (option_map (λ (x : Group). Some x)) e in
          let is : behind row ≡ Some g = cc in
          by_place g (place_of row.0 s.begun) refl is

  own_many : (p : ℕ) (row : List ℕ × Found) → slice_get s.done p ≡ Some row → length (places_if (slice_get all p)) ≡ length (group files roots row.0)
  own_many p row h = by_group (slice_get all p) refl
    where
      both : Some (behind row) ≡ option_map (λ (g : Group). Some g) (slice_get all p)
      both = sym (map_at behind s.done p ∙ ap (option_map behind) h) ∙ ap (λ gs. slice_get gs p) are ∙ map_at (λ (g : Group). Some g) all p

      by_place : (g : Group) (o : Option ℕ) → place_of row.0 s.begun ≡ o → group_behind read o ≡ Some g → length (places g) ≡ length (group files roots row.0)
      by_place g None e k = absurd (cc)
      by_place g (Some n) e k =
          let r = row_at s.begun row.0 n e in
          let is = group_in files roots (held_at l.path l.held ∷ []) s.begun l.more l.whole n r.0 r.1 in
          let same : ◌≡◌ {A = Option Group} (Some is.one) (Some g) = sym is.there ∙ sym (later n) ∙ k in
          let group_same : is.one ≡ g = cc in
          ap (λ x. length (places x)) (sym group_same) ∙ is.many ∙ ap (λ (x : List ℕ). length (group files roots x)) r.2

      by_group : (o : Option Group) → slice_get all p ≡ o → length (places_if o) ≡ length (group files roots row.0)
      by_group None e = let no = both ∙ ap (option_map (λ (g : Group). Some g)) e in absurd (cc)
      by_group (Some g) e =
          let yes : ◌≡◌ {A = Option (Option Group)} (Some (behind row)) (Some (Some g)) = both ∙ ap (option_map (λ (x : Group). Some x)) e in
          let is : behind row ≡ Some g = cc in
          by_place g (place_of row.0 s.begun) refl is

  -- and of no library
  none : (p : ℕ) → slice_get s.done p ≡ None → slice_get all p ≡ None
  none p h = by (slice_get all p) refl
    where
      both : None ≡ option_map (λ (g : Group). Some g) (slice_get all p)
      both = sym (map_at behind s.done p ∙ ap (option_map behind) h) ∙ ap (λ gs. slice_get gs p) are ∙ map_at (λ (g : Group). Some g) all p

      by : (o : Option Group) → slice_get all p ≡ o → o ≡ None
      by None e = refl
      by (Some g) e = let no = both ∙ ap (option_map (λ (x : Group). Some x)) e in absurd (cc)

  joined_many : (ps qs : List ℕ) → length (picked s.sources ps) ≡ length ps → length (picked s.sources qs) ≡ length qs → length (picked s.sources (ps ++ qs)) ≡ length (ps ++ qs)
  joined_many ps qs h k =
      ap (λ (ss : List Source). length ss) (picked_joined s.sources ps qs) ∙ length-append (picked s.sources ps) (picked s.sources qs)
      ∙ (λ i. h i + k i) ∙ sym (length-append ps qs)

  named : (p : ℕ) (row : List ℕ × Found) → slice_get s.done p ≡ Some row → group files roots row.0 ≡ group_of files roots row.1
  named p row h = ap (group files roots) (once.named p row.0 row.1 h)

  one : (p : ℕ) → picked s.sources (places_if (slice_get all p)) ≡ group_at (group_of files roots) (slice_get s.done p)
  one p = by (slice_get s.done p) refl
    where
      by : (o : Option (List ℕ × Found)) → slice_get s.done p ≡ o → picked s.sources (places_if (slice_get all p)) ≡ group_at (group_of files roots) o
      by None e = ap (λ o. picked s.sources (places_if o)) (none p e)
      by (Some row) e = own p row e ∙ named p row e

  each : (ps : List ℕ) → picked s.sources (flat_map (λ p. places_if (slice_get all p)) ps) ≡ sources_at (group_of files roots) s.done ps
  each [] = refl
  each (p ∷ ps) = picked_joined s.sources (places_if (slice_get all p)) (flat_map (λ q. places_if (slice_get all q)) ps) ∙ (λ i. one p i ++ each ps i)

  -- each of the places has a source
  one_many : (p : ℕ) → length (picked s.sources (places_if (slice_get all p))) ≡ length (places_if (slice_get all p))
  one_many p = by (slice_get s.done p) refl
    where
      by : (o : Option (List ℕ × Found)) → slice_get s.done p ≡ o → length (picked s.sources (places_if (slice_get all p))) ≡ length (places_if (slice_get all p))
      by None e = ap (λ o. length (picked s.sources (places_if o))) (none p e) ∙ sym (ap (λ o. length (places_if o)) (none p e))
      by (Some row) e = ap (λ (ss : List Source). length ss) (own p row e) ∙ sym (own_many p row e)

  each_many : (ps : List ℕ) → length (picked s.sources (flat_map (λ p. places_if (slice_get all p)) ps)) ≡ length (flat_map (λ p. places_if (slice_get all p)) ps)
  each_many [] = refl
  each_many (p ∷ ps) = joined_many (places_if (slice_get all p)) (flat_map (λ q. places_if (slice_get all q)) ps) (one_many p) (each_many ps)

  pub all_are_there : (f : Found) → map (slice_get s.sources) (chosen all f) ≡ map (λ (x : Source). Option.Some x) (picked s.sources (chosen all f))
  all_are_there f =
      all_there s.sources (chosen all f)
      (joined_many (flat_map (λ p. places_if (slice_get all p)) (needed f)) (places_if (slice_get all f.place)) (each_many (needed f)) (one_many f.place))

  pub those_of_files : (place : ℕ) (file : List ℕ) (f : Found) → IsAt s.done place file f → picked s.sources (chosen all f) ≡ all_sources (group_of files roots) s.done f
  those_of_files place file f at =
      picked_joined s.sources (flat_map (λ p. places_if (slice_get all p)) (needed f)) (places_if (slice_get all f.place))
      ∙ (λ i. each (needed f) i ++ (one f.place ∙ ap (λ n. group_at (group_of files roots) (slice_get s.done n)) (once.in_order place file f at) ∙ ap (group_at (group_of files roots)) at) i)

-- where nothing was begun, nothing is loaded
nothing_begun : (s : Loading) → s.begun ≡ [] → (groups : List Group) → AreGroups (groups_from 0 0 s.sources) s.begun s.done groups → (place : ℕ) (file : List ℕ) (f : Found) → IsAt s.done place file f → ⊥
nothing_begun s none groups are place file f at = by (slice_get groups place) both
  where
    read : List Group
    read = groups_from 0 0 s.sources

    behind : Begun → List ℕ × Found → Option Group
    behind begun row = group_behind read (place_of row.0 begun)

    both : Some None ≡ option_map (λ (g : Group). Some g) (slice_get groups place)
    both = ap (λ (b : Begun). Some (behind b (file, f))) (sym none) ∙ sym (map_at (behind s.begun) s.done place ∙ ap (option_map (behind s.begun)) at) ∙ ap (λ gs. slice_get gs place) are ∙ map_at (λ (g : Group). Some g) groups place

    by : (o : Option Group) → ◌≡◌ {A = Option (Option Group)} (Some None) (option_map (λ (g : Group). Some g) o) → ⊥
    by None e = absurd (cc)
    by (Some g) e = absurd (cc)

module _ (files : Paths) (roots : List (List ℕ)) (path : List ℕ) where
  -- with a program before the libraries
  laid_with : (program : Found) (s : Loading) → load files roots path ≡ Ok (program, s) → LaidSoFar files roots s
  laid_with program s h =
      let l = laid_all files roots path program s h in
      record { path = l.path; held = l.held; more = []; parts = l.parts ∙ ap (λ ss. held_at l.path l.held ∷ ss) (sym (append-nil (groups files roots s.begun))); whole = l.whole }

  pub there_loaded : (program : Found) (s : Loading) → load files roots path ≡ Ok (program, s) → SourcesAreThere s
  there_loaded program s h gs are place file f at =
      all_are_there files roots s (laid_with program s h) (are_loaded s (loads_all files roots path program s h).sound).once gs are f

  pub there_stopped : (s : Loading) (fault : Fault) → load files roots path ≡ Err (s, fault) → SourcesAreThere s
  there_stopped s fault h groups are place file f at = by (laid_until files roots path s fault h)
    where
      by : LaidUntil files roots s → map (slice_get s.sources) (chosen groups f) ≡ map (λ (x : Source). Option.Some x) (picked s.sources (chosen groups f))
      by (inl none) = absurd (nothing_begun s none groups are place file f at)
      by (inr l) = all_are_there files roots s l (are_loaded s (loads_until files roots path s fault h)).once groups are f

  pub of_loaded : (program : Found) (s : Loading) → load files roots path ≡ Ok (program, s) → SourcesAreThoseOfFiles files roots s
  of_loaded program s h gs are place file f at =
      those_of_files files roots s (laid_with program s h) (are_loaded s (loads_all files roots path program s h).sound).once gs are place file f at

  pub of_stopped : (s : Loading) (fault : Fault) → load files roots path ≡ Err (s, fault) → SourcesAreThoseOfFiles files roots s
  of_stopped s fault h groups are place file f at = by (laid_until files roots path s fault h)
    where
      by : LaidUntil files roots s → picked s.sources (chosen groups f) ≡ all_sources (group_of files roots) s.done f
      by (inl none) = absurd (nothing_begun s none groups are place file f at)
      by (inr l) = those_of_files files roots s l (are_loaded s (loads_until files roots path s fault h)).once groups are place file f at
