-- The places of a group are those of its sources.
use Rattle.std.proofs.Common.{◌≡◌, ℕ, zero, suc, ◌+◌, List, [], ◌∷◌, ◌++◌, length, Some, refl, sym, ap, ◌∙◌, append_assoc, length-append, arith}
use Rattle.std.specs.Prelude.{◌-◌, map, slice_get}
use Rattle.base_outside.specs.Contents.{Paths}
use Rattle.load_files.specs.Found.{absent_at, held_at}
use Rattle.load_files.specs.declared.found.Source.{Source}
use Rattle.run_reuse.specs.Groups.{groups_from, places_on, places, or_skip, picked}
use Rattle.run_reuse.specs.declared.groups.Group.{Group}
use Rattle.law_reuse.proofs.Laid.{Begun, IsWhole, group, groups, AllWhole}

-- ---- the places of a run of sources

get_on : {A : Type 0} (front : List A) (x : A) (rest : List A) → slice_get (front ++ x ∷ rest) (length front) ≡ Some x
get_on [] x rest = refl
get_on (y ∷ front) x rest = get_on front x rest

length_more : {A : Type 0} (front : List A) (x : A) → length (front ++ x ∷ []) ≡ suc (length front)
length_more [] x = refl
length_more (y ∷ front) x = ap suc (length_more front x)

pub run_is_picked : (front run rest : List Source) → picked (front ++ (run ++ rest)) (places_on (length front) (length run)) ≡ run
unfolding places_on
run_is_picked front [] rest = refl
run_is_picked front (x ∷ run) rest =
    ap (λ o. or_skip o (picked (front ++ (x ∷ (run ++ rest))) (places_on (suc (length front)) (length run)))) (get_on front x (run ++ rest))
    ∙ ap (λ ss. x ∷ ss)
    (ap (λ n. picked (front ++ (x ∷ (run ++ rest))) (places_on n (length run))) (sym (length_more front x))
    ∙ ap (λ ss. picked ss (places_on (length (front ++ x ∷ [])) (length run))) (sym (append_assoc front (x ∷ []) (run ++ rest)))
    ∙ run_is_picked (front ++ x ∷ []) run rest)

pub as_many_places : (first n : ℕ) → length (places_on first n) ≡ n
unfolding places_on
as_many_places first zero = refl
as_many_places first (suc n) = ap suc (as_many_places (suc first) n)

-- ---- one group, and then the others

abbrev group_at : ℕ → ℕ → Group
group_at first own = record { first = first; own = own }

absent_on : (first place : ℕ) (before : List (List ℕ)) (ss : List Source) → groups_from first place (map absent_at before ++ ss) ≡ groups_from first (length before + place) ss
unfolding groups_from
absent_on first place [] ss = let e : place ≡ 0 + place = omega arith in ap (λ n. groups_from first n ss) e
absent_on first place (p ∷ before) ss = let e : length before + suc place ≡ suc (length before) + place = omega arith in absent_on first (suc place) before ss ∙ ap (λ n. groups_from first n ss) e

whole_on : (first place : ℕ) (g rest : List Source) → (w : IsWhole g)
    → groups_from first place (g ++ rest) ≡ group_at first (length w.before + place) ∷ groups_from (suc (length w.before + place)) (suc (length w.before + place)) rest
unfolding groups_from
whole_on first place g rest w =
    ap (λ ss. groups_from first place (ss ++ rest)) w.parts ∙ ap (groups_from first place) (append_assoc (map absent_at w.before) (held_at w.path w.held ∷ []) rest)
    ∙ absent_on first place w.before (held_at w.path w.held ∷ rest)

length_map : {A B : Type 0} (f : A → B) (xs : List A) → length (map f xs) ≡ length xs
length_map f [] = refl
length_map f (x ∷ xs) = ap suc (length_map f xs)

whole_length : (g : List Source) (w : IsWhole g) → length g ≡ suc (length w.before)
whole_length g w =
    ap length w.parts ∙ length-append (map absent_at w.before) (held_at w.path w.held ∷ []) ∙ ap (λ n. n + 1) (length_map absent_at w.before)
    ∙ (let e : length w.before + 1 ≡ suc (length w.before) = omega arith in e)

module _ (files : Paths) (roots : List (List ℕ)) where
  -- a group among those of libraries, by its place
  pub record IsGroupOf (all : List Group) (sources : List Source) (k : ℕ) (file : List ℕ) : Type 0 where
    pub one : Group
    pub there : slice_get all k ≡ Some one
    pub picks : picked sources (places one) ≡ group files roots file
    pub many : length (places one) ≡ length (group files roots file)

  further : (front : List Source) (r : List ℕ × Unit {0}) (rows : Begun) (more : List Source) → AllWhole files roots (r ∷ rows) → (k : ℕ) (file : List ℕ)
      → IsGroupOf (groups_from (length (front ++ group files roots r.0)) (length (front ++ group files roots r.0)) (groups files roots rows ++ more)) ((front ++ group files roots r.0) ++ (groups files roots rows ++ more)) k file
      → IsGroupOf (groups_from (length front) (length front) (groups files roots (r ∷ rows) ++ more)) (front ++ (groups files roots (r ∷ rows) ++ more)) (suc k) file
  further front r rows more whole k file later = record {
    one = later.one;
    there =
        ap (λ gs. slice_get gs (suc k)) (ap (groups_from (length front) (length front)) (append_assoc g (groups files roots rows) more) ∙ whole_on (length front) (length front) g (groups files roots rows ++ more) whole.0)
        ∙ ap (λ n. slice_get (groups_from n n (groups files roots rows ++ more)) k) (sym far) ∙ later.there;
    picks =
        ap (λ ss. picked ss (places later.one)) (ap (λ ss. front ++ ss) (append_assoc g (groups files roots rows) more) ∙ sym (append_assoc front g (groups files roots rows ++ more)))
        ∙ later.picks;
    many = later.many;
  }
    where
      g : List Source
      g = group files roots r.0

      far : length (front ++ g) ≡ suc (length whole.0.before + length front)
      far = length-append front g ∙ (let e = whole_length g whole.0 in omega (arith, e))

  pub group_in : (front : List Source) (rows : Begun) (more : List Source) → AllWhole files roots rows → (k : ℕ) (row : List ℕ × Unit {0}) → slice_get rows k ≡ Some row
      → IsGroupOf (groups_from (length front) (length front) (groups files roots rows ++ more)) (front ++ (groups files roots rows ++ more)) k row.0
  group_in front [] more whole k row h = absurd (cc)
  group_in front (r ∷ rows) more whole zero row h = record {
    one = group_at (length front) (length whole.0.before + length front);
    there = ap (λ gs. slice_get gs zero) all;
    picks =
        ap (λ n. picked (front ++ ((g ++ groups files roots rows) ++ more)) (places_on (length front) n)) count
        ∙ ap (λ ss. picked (front ++ ss) (places_on (length front) (length g))) (append_assoc g (groups files roots rows) more)
        ∙ run_is_picked front g (groups files roots rows ++ more) ∙ ap (λ (x : List ℕ × Unit {0}). group files roots x.0) same;
    many = as_many_places (length front) (suc (length whole.0.before + length front) - length front) ∙ count ∙ ap (λ (x : List ℕ × Unit {0}). length (group files roots x.0)) same;
  }
    where
      same : r ≡ row
      same = cc

      g : List Source
      g = group files roots r.0

      all : groups_from (length front) (length front) ((g ++ groups files roots rows) ++ more)
          ≡ group_at (length front) (length whole.0.before + length front) ∷ groups_from (suc (length whole.0.before + length front)) (suc (length whole.0.before + length front)) (groups files roots rows ++ more)
      all = ap (groups_from (length front) (length front)) (append_assoc g (groups files roots rows) more) ∙ whole_on (length front) (length front) g (groups files roots rows ++ more) whole.0

      count : suc (length whole.0.before + length front) - length front ≡ length g
      count = let e = whole_length g whole.0 in omega (arith, e)
  group_in front (r ∷ rows) more whole (suc k) row h = further front r rows more whole k row.0 (group_in (front ++ group files roots r.0) rows more whole.1 k row h)
