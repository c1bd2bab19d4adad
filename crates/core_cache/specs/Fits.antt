-- Whether an entry is of these roots and sources.
use Rattle.std.specs.Prelude.{ℕ, nat_eq, Bool, true, false, ◌&&◌, List, [], ◌∷◌, Option, Some, None, slice_get}
use Rattle.std.specs.Cmp.Lexicographic.{pointwise}
use Rattle.core_cache.specs.declared.entry.Entry.{Entry}
use Rattle.load_files.specs.declared.found.Source.{Source}

abbrev pub same_text : List ℕ → List ℕ → Bool
same_text = pointwise nat_eq

abbrev pub same_held : Option (List ℕ) → Option (List ℕ) → Bool
same_held None None = true
same_held None (Some b) = false
same_held (Some a) None = false
same_held (Some a) (Some b) = same_text a b

abbrev pub same_source : Source → Source → Bool
same_source a b = same_text a.path b.path && same_held a.held b.held

-- the source at a place is this one
abbrev pub is_source : Source → Option Source → Bool
is_source a None = false
is_source a (Some b) = same_source a b

-- the sources are those at the places, in their order
abbrev pub are_at : List Source → List ℕ → List Source → Bool
are_at sources [] [] = true
are_at sources [] (a ∷ kept) = false
are_at sources (i ∷ places) [] = false
are_at sources (i ∷ places) (a ∷ kept) = is_source a (slice_get sources i) && are_at sources places kept

unfoldable pub fits : Entry → List (List ℕ) → List Source → List ℕ → Bool
fits e roots sources chosen = pointwise same_text e.roots roots && are_at sources chosen e.sources
