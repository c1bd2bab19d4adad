-- A look-up in a list of pairs, as one in the map that it means.
use Rattle.std.proofs.Common.{◌≡◌, ℕ, List, [], ◌∷◌, Bool, true, false, cond, Option, Some, None, option_map, map, refl, sym, ◌++◌, ◌≢◌, Result, Ok, Err, OnOk, Vec, String}
use Rattle.std.specs.Prelude.{find, reverse, string_bytes}
use Rattle.std.specs.Global.{Global}
use Rattle.base_outside.specs.Contents.{Paths, at_path, paths_of}
use Rattle.base_outside.specs.Store.{Sets}
use Rattle.std.specs.Str.{bytes_eq}
use Rattle.std.specs.Cmp.Lexicographic.{bytes_decides}
use Rattle.std.proofs.lemmas.List.{reverse-append}
use mathlib.Core.List.{reverse_aux}

reverse_aux-map : {X Y : Type 0} (f : X → Y) (xs done : List X) → reverse_aux (map f xs) (map f done) ≡ map f (reverse_aux xs done)
reverse_aux-map f [] done = refl
reverse_aux-map f (x ∷ xs) done = reverse_aux-map f xs (x ∷ done)

option_map-cond : {X Y : Type 0} (f : X → Y) (b : Bool) (x : X) (o : Option X) → cond b (Some (f x)) (option_map f o) ≡ option_map f (cond b (Some x) o)
option_map-cond f true x o = refl
option_map-cond f false x o = refl

find-map : {X Y : Type 0} (p : Y → Bool) (f : X → Y) (xs : List X) → find p (map f xs) ≡ option_map f (find (λ x. p (f x)) xs)
find-map p f [] = refl
find-map p f (x ∷ xs) = rw (find-map p f xs) (option_map-cond f (p (f x)) x (find (λ y. p (f y)) xs))

option_map-map : {X Y Z : Type 0} (g : Y → Z) (f : X → Y) (o : Option X) → option_map g (option_map f o) ≡ option_map (λ x. g (f x)) o
option_map-map g f None = refl
option_map-map g f (Some x) = refl

-- what the last pair with a path holds, in a list in memory
pub at_path_of : (pairs : List (String Global × Vec ℕ Global)) (path : List ℕ)
    → at_path (paths_of pairs) path ≡ option_map (λ pair. pair.1.items) (find (λ pair. bytes_eq (string_bytes pair.0) path) (reverse pairs))
at_path_of pairs path =
    let view : String Global × Vec ℕ Global → List ℕ × List ℕ = λ pair. (string_bytes pair.0, pair.1.items) in
    rw (reverse_aux-map view pairs [], find-map (λ pair. bytes_eq pair.0 path) view (reverse pairs)) (option_map-map (λ (pair : List ℕ × List ℕ). pair.1) view (find (λ pair. bytes_eq (string_bytes pair.0) path) (reverse pairs)))

-- one more pair sets its path, and no other
pub at_path-push : (files : Paths) (place piece path : List ℕ) → at_path (files ++ (place, piece) ∷ []) path ≡ cond (bytes_eq place path) (Some piece) (at_path files path)
at_path-push files place piece path =
    rw (reverse-append files ((place, piece) ∷ [])) (sym (option_map-cond (λ (pair : List ℕ × List ℕ). pair.1) (bytes_eq place path) (place, piece) (find (λ pair. bytes_eq pair.0 path) (reverse files))))

same_path : (path : List ℕ) → bytes_eq path path ≡ true
same_path path = (bytes_decides path path).1 refl

not_so : (b : Bool) → ¬ (b ≡ true) → b ≡ false
not_so true never = absurd (never refl)
not_so false never = refl

other_path : (place path : List ℕ) → path ≢ place → bytes_eq place path ≡ false
other_path place path other = not_so (bytes_eq place path) (λ same. other (sym ((bytes_decides place path).0 same)))

pub sets_pushed : (place piece : List ℕ) (before after : Paths) → after ≡ before ++ (place, piece) ∷ [] → Sets place piece before after
sets_pushed place piece before after pushed = rw pushed (record {
  held = rw (at_path-push before place piece place, same_path place) refl;
  others = λ path other. rw (at_path-push before place piece path, other_path place path other) refl;
})

-- a call that adds a pair where it succeeds sets a path there
pub sets_on_ok : {T E : Type 0} (result : Result T E) (place piece : List ℕ) (held before after : Paths) → held ≡ before → OnOk result (after ≡ held ++ (place, piece) ∷ []) → OnOk result (Sets place piece before after)
sets_on_ok (Ok done) place piece held before after same pushed = sets_pushed place piece before after (rw (← same) pushed)
sets_on_ok (Err error) place piece held before after same pushed = tt
