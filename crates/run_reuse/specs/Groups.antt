-- Which sources are those of a library, among all that a run has read.
use Rattle.std.specs.Prelude.{◌≡◌, ℕ, zero, suc, ◌-◌, List, [], ◌∷◌, ◌++◌, map, Option, None, Some, is_some, slice_get, if◌then◌else◌}
use Rattle.std.specs.List.{flat_map}
use Rattle.load_import.specs.Shared.{place_of}
use Rattle.load_files.specs.Found.{needed}
use Rattle.load_files.specs.declared.found.Found.{Found}
use Rattle.load_files.specs.declared.found.Source.{Source}
use Rattle.run_reuse.specs.declared.groups.Group.{Group}

-- The files that were read, in order: the paths at which nothing stood, from the first, and then the own one. Those at
-- the end that come to no file are none's.
unfoldable pub groups_from : ℕ → ℕ → List Source → List Group
groups_from first place [] = []
groups_from first place (s ∷ ss) =
    if is_some s.held then record { first = first; own = place } ∷ groups_from (suc place) (suc place) ss else groups_from first (suc place) ss

-- the program is read first, and then each library that is begun
abbrev pub group_behind : List Group → Option ℕ → Option Group
group_behind groups None = None
group_behind groups (Some begun) = slice_get groups (suc begun)

-- that of a library that is loaded
abbrev pub group_of : List Group → List (List ℕ × Unit {0}) → Option (List ℕ × Found) → Option Group
group_of all begun None = None
group_of all begun (Some row) = group_behind all (place_of row.0 begun)

-- each of these libraries has the group of its file
abbrev pub AreGroups : List Group → List (List ℕ × Unit {0}) → List (List ℕ × Found) → List Group → Type 0
AreGroups all begun rows groups = map (λ (row : List ℕ × Found). group_behind all (place_of row.0 begun)) rows ≡ map (λ (g : Group). Some g) groups

-- so many places from one on
unfoldable pub places_on : ℕ → ℕ → List ℕ
places_on first zero = []
places_on first (suc n) = first ∷ places_on (suc first) n

-- the places of a group
abbrev pub places : Group → List ℕ
places g = places_on g.first (suc g.own - g.first)

abbrev pub places_if : Option Group → List ℕ
places_if None = []
places_if (Some g) = places g

-- the places of the sources of all that a library needs, in the order of loading, and then of its own
abbrev pub chosen : List Group → Found → List ℕ
chosen groups f = flat_map (λ p. places_if (slice_get groups p)) (needed f) ++ places_if (slice_get groups f.place)

abbrev pub or_skip : Option Source → List Source → List Source
or_skip None ss = ss
or_skip (Some s) ss = s ∷ ss

-- the sources at some places
abbrev pub picked : List Source → List ℕ → List Source
picked sources [] = []
picked sources (p ∷ ps) = or_skip (slice_get sources p) (picked sources ps)
