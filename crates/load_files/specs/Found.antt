-- What loading keeps.
use Rattle.std.specs.Prelude.{ℕ, suc, ◌+◌, ◌==◌, Bool, false, ◌||◌, List, [], ◌∷◌, ◌++◌, length, replicate, Option, Some, None, slice_get, if◌then◌else◌}
use Rattle.load_import.specs.Table.{put_first}
use Rattle.load_files.specs.declared.found.Source.{Source}
use Rattle.load_files.specs.declared.found.Opened.{Opened}
use Rattle.load_files.specs.declared.found.Found.{Found}
use Rattle.load_files.specs.declared.found.Loading.{Loading}

abbrev pub nothing_loaded : Loading
nothing_loaded = record { begun = []; done = []; sources = []; bytes = 0 }

-- ---- which libraries a library needs: those that it refers to, and those that they need

abbrev pub is_marked : Option Bool → Bool
is_marked None = false
is_marked (Some m) = m

abbrev pub is_needed_by : Found → ℕ → Bool
is_needed_by found place = place == found.place || is_marked (slice_get found.needs place)

-- marks from a place on, with those of a library and of what it needs
unfoldable pub marks_with : ℕ → List Bool → Found → List Bool
marks_with place [] found = []
marks_with place (m ∷ ms) found = (m || is_needed_by found place) ∷ marks_with (suc place) ms found

abbrev pub with_needs : List Bool → Found → List Bool
with_needs needs found = marks_with 0 needs found

-- as many libraries may be loaded
abbrev pub most_libraries : ℕ
most_libraries = 1024

unfoldable pub no_needs : List Bool
no_needs = replicate most_libraries false

-- the places of the marks from a place on, rising
unfoldable pub places_from : ℕ → List Bool → List ℕ
places_from place [] = []
places_from place (m ∷ ms) = if m then place ∷ places_from (suc place) ms else places_from (suc place) ms

-- the places of the libraries that one needs
abbrev pub needed : Found → List ℕ
needed found = places_from 0 found.needs

-- ---- what was read

abbrev pub absent_at : List ℕ → Source
absent_at path = record { path = path; held = None }

abbrev pub held_at : List ℕ → List ℕ → Source
held_at path held = record { path = path; held = Some held }

-- a file was read
abbrev pub with_source : Loading → List ℕ → List ℕ → Loading
with_source s path held = record s { sources = s.sources ++ held_at path held ∷ []; bytes = s.bytes + length held }

abbrev pub with_sources : Loading → List Source → Loading
with_sources s sources = record s { sources = sources }

-- a library was begun
abbrev pub with_begun : Loading → List ℕ → Loading
with_begun s file = record s { begun = put_first s.begun (file, tt) }

-- a library is loaded
abbrev pub with_done : Loading → List ℕ → Found → Loading
with_done s file found = record s { done = put_first s.done (file, found) }

-- all imports of a file are loaded
abbrev pub found_of : Opened → List Bool → Loading → Found
found_of opened needs s = record { opened = opened; place = length s.done; needs = needs }
