-- An entry fits exactly where its roots and its sources are the same.
use Rattle.std.specs.Prelude.{◌≡◌, ℕ, true, List, [], ◌∷◌, map, Option, Some, None, slice_get}
use Rattle.std.proofs.Common.{refl, ap}
use Rattle.std.specs.Cmp.{unsigned_Decides}
use Rattle.std.specs.Cmp.Lexicographic.{pointwise, pointwise_decides}
use Rattle.base_bytes.specs.Laws.{both, join}
use Rattle.core_cache.specs.Fits.{same_text, same_held, same_source, is_source, are_at, fits}
use Rattle.core_cache.specs.declared.entry.Entry.{Entry}
use Rattle.load_files.specs.declared.found.Source.{Source}

abbrev there : Source → Option Source
there s = Some s

-- the roots are these, and the sources are those at the places, in their order
abbrev pub FitsExactly : Type 0
FitsExactly = (e : Entry) (roots : List (List ℕ)) (sources : List Source) (chosen : List ℕ)
    → (fits e roots sources chosen ≡ true → (e.roots ≡ roots) × (map there e.sources ≡ map (slice_get sources) chosen))
    × ((e.roots ≡ roots) × (map there e.sources ≡ map (slice_get sources) chosen) → fits e roots sources chosen ≡ true)

text_is : (a b : List ℕ) → same_text a b ≡ true → a ≡ b
text_is a b h = (pointwise_decides unsigned_Decides a b).0 h

text_same : (a : List ℕ) → same_text a a ≡ true
text_same a = (pointwise_decides unsigned_Decides a a).1 refl

roots_are : (a b : List (List ℕ)) → pointwise same_text a b ≡ true → a ≡ b
roots_are a b h = (pointwise_decides (pointwise_decides unsigned_Decides) a b).0 h

roots_same : (a : List (List ℕ)) → pointwise same_text a a ≡ true
roots_same a = (pointwise_decides (pointwise_decides unsigned_Decides) a a).1 refl

held_is : (a b : Option (List ℕ)) → same_held a b ≡ true → a ≡ b
held_is None None h = refl
held_is None (Some b) h = absurd cc
held_is (Some a) None h = absurd cc
held_is (Some a) (Some b) h = ap (λ (t : List ℕ). Option.Some t) (text_is a b h)

held_same : (a : Option (List ℕ)) → same_held a a ≡ true
held_same None = refl
held_same (Some a) = text_same a

source_is : (a b : Source) → same_source a b ≡ true → a ≡ b
source_is a b h =
    let f = both (same_text a.path b.path) (same_held a.held b.held) h in
    let p = text_is a.path b.path f.0 in
    let q = held_is a.held b.held f.1 in
    λ i. record { path = p i; held = q i }

source_same : (a : Source) → same_source a a ≡ true
source_same a = join _ _ (text_same a.path) (held_same a.held)

at_is : (a : Source) (o : Option Source) → is_source a o ≡ true → there a ≡ o
at_is a None h = absurd cc
at_is a (Some b) h = ap there (source_is a b h)

at_same : (a : Source) (o : Option Source) → there a ≡ o → is_source a o ≡ true
at_same a o e = rw (← e) (source_same a)

head_is : (a b : Option Source) (xs ys : List (Option Source)) → a ∷ xs ≡ b ∷ ys → a ≡ b
head_is a b xs ys e = cc

tail_is : (a b : Option Source) (xs ys : List (Option Source)) → a ∷ xs ≡ b ∷ ys → xs ≡ ys
tail_is a b xs ys e = cc

are : (sources : List Source) (places : List ℕ) (kept : List Source) → are_at sources places kept ≡ true → map there kept ≡ map (slice_get sources) places
are sources [] [] h = refl
are sources [] (a ∷ kept) h = absurd cc
are sources (n ∷ places) [] h = absurd cc
are sources (n ∷ places) (a ∷ kept) h =
    let f = both (is_source a (slice_get sources n)) (are_at sources places kept) h in
    let p = at_is a (slice_get sources n) f.0 in
    let q = are sources places kept f.1 in
    λ i. p i ∷ q i

same : (sources : List Source) (places : List ℕ) (kept : List Source) → map there kept ≡ map (slice_get sources) places → are_at sources places kept ≡ true
same sources [] [] e = refl
same sources [] (a ∷ kept) e = absurd cc
same sources (n ∷ places) [] e = absurd cc
same sources (n ∷ places) (a ∷ kept) e =
    join _ _ (at_same a (slice_get sources n) (head_is (there a) (slice_get sources n) (map there kept) (map (slice_get sources) places) e))
    (same sources places kept (tail_is (there a) (slice_get sources n) (map there kept) (map (slice_get sources) places) e))

pub fits_exactly : FitsExactly
unfolding fits
fits_exactly e roots sources chosen = (
  λ h. let f = both (pointwise same_text e.roots roots) (are_at sources chosen e.sources) h in (roots_are e.roots roots f.0, are sources chosen e.sources f.1),
  λ p. join _ _ (rw (← p.0) (roots_same e.roots)) (same sources chosen e.sources p.1),
)
