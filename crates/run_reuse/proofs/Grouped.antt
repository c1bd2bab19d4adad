-- The groups of sources, one source after another.
use Rattle.std.proofs.Common.{◌≡◌, ℕ, zero, suc, ◌+◌, ◌-◌, ◌<◌, ◌≤◌, Bool, true, false, List, [], ◌∷◌, ◌++◌, length, map, get_or, take, drop, Option, Some, None, refl, sym, subst, ap, ◌∙◌, append_assoc, append-nil, add-one, drop-cons, arith}
use Rattle.std.specs.Prelude.{is_some, slice_get, if◌then◌else◌}
use Rattle.std.specs.List.{flat_map}
use Rattle.std.proofs.lemmas.List.{drop_all, map-append, take_all, take_more}
use Rattle.std.proofs.lemmas.Option.{get_or_from_slice_get, slice_get_past, slice_get_within}
use Rattle.load_import.specs.Shared.{place_of}
use Rattle.run_library.proofs.PlaceLemmas.{no_places, places_on}
use Rattle.load_files.specs.Found.{places_from}
use Rattle.load_files.specs.declared.found.Found.{Found}
use Rattle.load_files.specs.declared.found.Source.{Source}
use Rattle.run_reuse.specs.Groups.{AreGroups, group_behind, group_of, groups_from, places_on as group_places, or_skip, picked}
use Rattle.run_reuse.specs.declared.groups.Group.{Group}

-- ---- the groups of the files that were read

module _ (sources : List Source) (place first : ℕ) (done total : List Group) (so_far : done ++ groups_from first place (drop place sources) ≡ total) where
  module _ (s : Source) (there : place < length sources) (is : s ≡ get_or sources place s) where
    here : drop place sources ≡ s ∷ drop (suc place) sources
    here = drop-cons sources place s there ∙ ap (λ x. x ∷ drop (suc place) sources) (sym is)

    abbrev group : Group
    group = record { first = first; own = place }

    abbrev left_by : (b : Bool) → List Group
    left_by b = if b then group ∷ groups_from (suc place) (suc place) (drop (suc place) sources) else groups_from first (suc place) (drop (suc place) sources)

    left : groups_from first place (drop place sources) ≡ left_by (is_some s.held)
    unfolding groups_from
    left = ap (groups_from first place) here

    by : (held : Bool) → groups_from first place (drop place sources) ≡ left_by held → (more : List Group) (next : ℕ) → more ≡ done ++ (if held then group ∷ [] else [])
        → next ≡ (if held then suc place else first) → more ++ groups_from next (suc place) (drop (suc place) sources) ≡ total
    by true e more next is on =
        ap (λ n. more ++ groups_from n (suc place) (drop (suc place) sources)) on ∙ ap (λ gs. gs ++ groups_from (suc place) (suc place) (drop (suc place) sources)) is
        ∙ append_assoc done (group ∷ []) (groups_from (suc place) (suc place) (drop (suc place) sources)) ∙ ap (λ gs. done ++ gs) (sym e) ∙ so_far
    by false e more next is on =
        ap (λ n. more ++ groups_from n (suc place) (drop (suc place) sources)) on ∙ ap (λ gs. gs ++ groups_from first (suc place) (drop (suc place) sources)) (is ∙ append-nil done)
        ∙ ap (λ gs. done ++ gs) (sym e) ∙ so_far

    pub file_on : (more : List Group) (next : ℕ) → more ≡ done ++ (if is_some s.held then group ∷ [] else []) → next ≡ (if is_some s.held then place + 1 else first)
        → more ++ groups_from next (place + 1) (drop (place + 1) sources) ≡ total
    file_on = rw add-one (by (is_some s.held) left)

  pub no_more : length sources ≤ place → done ≡ total
  unfolding groups_from
  no_more h = sym (append-nil done) ∙ ap (λ ss. done ++ groups_from first place ss) (sym (drop_all place sources h)) ∙ so_far

-- ---- the groups of libraries

-- one library more
pub groups_on : (all : List Group) (begun : List (List ℕ × Unit {0})) (rows : List (List ℕ × Found)) (groups : List Group) (i : ℕ) (row : List ℕ × Found) (g : Group)
    → slice_get rows i ≡ Some row → group_behind all (place_of row.0 begun) ≡ Some g → AreGroups all begun (take i rows) groups → AreGroups all begun (take (i + 1) rows) (groups ++ g ∷ [])
groups_on all begun rows groups i row g is has so_far =
    ap (map group_of) (take_more rows i row (slice_get_within rows i row is) ∙ ap (λ (x : List ℕ × Found). take i rows ++ x ∷ []) (get_or_from_slice_get rows i row row is))
    ∙ map-append group_of (take i rows) (row ∷ []) ∙ ap (λ gs. gs ++ group_of row ∷ []) so_far ∙ ap (λ (o : Option Group). map some groups ++ o ∷ []) has ∙ sym (map-append some groups (g ∷ []))
  where
    group_of : List ℕ × Found → Option Group
    group_of r = group_behind all (place_of r.0 begun)

    some : Group → Option Group
    some x = Some x

pub groups_more : (all known : List Group) (begun : List (List ℕ × Unit {0})) (rows : List (List ℕ × Found)) (groups : List Group) (i : ℕ) (g : Group) → all ≡ known
    → Some g ≡ group_of all begun (slice_get rows i) → AreGroups known begun (take i rows) groups → AreGroups known begun (take (i + 1) rows) (groups ++ g ∷ [])
groups_more all known begun rows groups i g is has so_far = by (slice_get rows i) refl (has ∙ ap (λ gs. group_of gs begun (slice_get rows i)) is)
  where
    by : (o : Option (List ℕ × Found)) → slice_get rows i ≡ o → Some g ≡ group_of known begun o → AreGroups known begun (take (i + 1) rows) (groups ++ g ∷ [])
    by None e h = absurd (cc)
    by (Some row) e h = groups_on known begun rows groups i row g e (sym h) so_far

-- all of them
pub groups_all : (known : List Group) (begun : List (List ℕ × Unit {0})) (rows : List (List ℕ × Found)) (groups : List Group) (i : ℕ) → length rows ≤ i
    → AreGroups known begun (take i rows) groups → AreGroups known begun rows groups
groups_all known begun rows groups i h so_far = subst (λ (rs : List (List ℕ × Found)). AreGroups known begun rs groups) (take_all i rows h) so_far

-- ---- the places of a group

module _ (end place : ℕ) (all total : List ℕ) (so_far : all ++ group_places place (end - place) ≡ total) where
  one_more : place < end → end - place ≡ suc (end - suc place)
  one_more h = omega (arith, h)

  at_place : place < end → group_places place (end - place) ≡ place ∷ group_places (suc place) (end - suc place)
  unfolding group_places
  at_place h = ap (group_places place) (one_more h)

  pub place_on : place < end → (all ++ place ∷ []) ++ group_places (place + 1) (end - (place + 1)) ≡ total
  place_on h = rw add-one (append_assoc all (place ∷ []) (group_places (suc place) (end - suc place)) ∙ ap (λ ps. all ++ ps) (sym (at_place h)) ∙ so_far)

  pub no_place : end ≤ place → all ≡ total
  unfolding group_places
  no_place h =
      let none : end - place ≡ 0 = omega (arith, h) in
      sym (append-nil all) ∙ ap (λ n. all ++ group_places place n) (sym none) ∙ so_far

-- one place more at the end
last_place : (first n : ℕ) → group_places first (suc n) ≡ group_places first n ++ (first + n) ∷ []
unfolding group_places
last_place first zero = let same : first ≡ first + 0 = omega arith in ap (λ (x : ℕ). x ∷ []) same
last_place first (suc n) =
    let same : suc first + n ≡ first + suc n = omega arith in
    ap (λ ps. first ∷ ps) (last_place (suc first) n ∙ ap (λ (x : ℕ). group_places (suc first) n ++ x ∷ []) same)

module _ (first own : ℕ) (all : List ℕ) where
  pub no_group : own < first → all ≡ all ++ group_places first (suc own - first)
  unfolding group_places
  no_group h =
      let none : suc own - first ≡ 0 = omega (arith, h) in
      sym (append-nil all) ∙ ap (λ n. all ++ group_places first n) (sym none)

  pub whole_group : (begun whole : List ℕ) → first ≤ own → begun ≡ all ++ group_places first (own - first) → whole ≡ begun ++ own ∷ [] → whole ≡ all ++ group_places first (suc own - first)
  whole_group begun whole h is on =
      let count : suc own - first ≡ suc (own - first) = omega (arith, h) in
      let last : first + (own - first) ≡ own = omega (arith, h) in
      on ∙ ap (λ ps. ps ++ own ∷ []) is ∙ append_assoc all (group_places first (own - first)) (own ∷ [])
      ∙ ap (λ ps. all ++ ps) (ap (λ (x : ℕ). group_places first (own - first) ++ x ∷ []) (sym last) ∙ sym (last_place first (own - first)) ∙ ap (group_places first) (sym count))

-- ---- the sources at places

or_skip_joined : (o : Option Source) (ss : List Source) → or_skip o ss ≡ or_skip o [] ++ ss
or_skip_joined None ss = refl
or_skip_joined (Some s) ss = refl

-- no source is there
pub nothing_at : (sources : List Source) (place : ℕ) (all : List Source) → length sources ≤ place → all ≡ all ++ or_skip (slice_get sources place) []
nothing_at sources place all h = sym (append-nil all) ∙ ap (λ (o : Option Source). all ++ or_skip o []) (sym (slice_get_past sources place h))

pub picked_more : (sources : List Source) (p : ℕ) (ps : List ℕ) → picked sources (p ∷ ps) ≡ or_skip (slice_get sources p) [] ++ picked sources ps
picked_more sources p ps = or_skip_joined (slice_get sources p) (picked sources ps)

module _ (sources : List Source) (ps : List ℕ) (i : ℕ) (done total : List Source) (so_far : done ++ picked sources (drop i ps) ≡ total) where
  pub picked_on : (p : ℕ) (more : List Source) → i < length ps → get_or ps i 0 ≡ p → more ≡ done ++ or_skip (slice_get sources p) [] → more ++ picked sources (drop (i + 1) ps) ≡ total
  picked_on p more h e is =
      ap (λ xs. xs ++ picked sources (drop (i + 1) ps)) is ∙ append_assoc done (or_skip (slice_get sources p) []) (picked sources (drop (i + 1) ps)) ∙ ap (λ xs. done ++ xs) (sym here) ∙ so_far
    where
      here : picked sources (drop i ps) ≡ or_skip (slice_get sources p) [] ++ picked sources (drop (i + 1) ps)
      here = rw add-one (ap (picked sources) (drop-cons ps i 0 h ∙ ap (λ (x : ℕ). x ∷ drop (suc i) ps) e) ∙ picked_more sources p (drop (suc i) ps))

  pub all_picked : length ps ≤ i → done ≡ total
  all_picked h = sym (append-nil done) ∙ ap (λ xs. done ++ picked sources xs) (sym (drop_all i ps h)) ∙ so_far

-- ---- the places of those that are needed

module _ (at : ℕ → List ℕ) (needs : List Bool) (i : ℕ) where
  pub chosen_on : (m : Bool) (done new total : List ℕ) → i < length needs → get_or needs i false ≡ m → new ≡ done ++ (if m then at i else [])
      → done ++ flat_map at (places_from i (drop i needs)) ≡ total → new ++ flat_map at (places_from (i + 1) (drop (i + 1) needs)) ≡ total
  chosen_on m done new total h e is so_far =
      ap (λ xs. xs ++ rest) is ∙ append_assoc done (if m then at i else []) rest ∙ ap (λ xs. done ++ xs) (by m)
      ∙ ap (λ ps. done ++ flat_map at ps) (sym (places_on needs i m h e)) ∙ so_far
    where
      rest : List ℕ
      rest = flat_map at (places_from (i + 1) (drop (i + 1) needs))

      by : (b : Bool) → (if b then at i else []) ++ rest ≡ flat_map at (if b then i ∷ places_from (i + 1) (drop (i + 1) needs) else places_from (i + 1) (drop (i + 1) needs))
      by true = refl
      by false = refl

  pub all_chosen : (done total : List ℕ) → length needs ≤ i → done ++ flat_map at (places_from i (drop i needs)) ≡ total → done ≡ total
  all_chosen done total h so_far = sym (append-nil done) ∙ ap (λ ps. done ++ flat_map at ps) (sym (no_places needs i h)) ∙ so_far
