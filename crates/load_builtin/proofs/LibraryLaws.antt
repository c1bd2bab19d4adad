-- The laws of the libraries, by computation over their lists.
use Rattle.std.proofs.Common.{◌≡◌, ℕ, Bool, true, false, List, [], ◌∷◌, refl, subst, sym}
use Rattle.std.specs.Prelude.{◌==◌, ◌&&◌, ◌||◌}
use Rattle.std.specs.List.{list_all, list_any}
use Rattle.std.proofs.lemmas.Bool.Decides.{nat_tests}
use Rattle.std.specs.Cmp.{unsigned_Decides}
use Rattle.load_builtin.specs.declared.library.Library.{Library}
use Rattle.load_builtin.specs.declared.library.Library.TheVariants as l
use Rattle.load_builtin.specs.Libraries.{library_numbers, among, once, is_on_records}

pub once_each : (library : Library) → once (library_numbers library) ≡ true
once_each l.Rnrs = refl
once_each l.Base = refl
once_each l.Lists = refl
once_each l.Control = refl
once_each l.SyntaxCase = refl
once_each l.Exceptions = refl
once_each l.IoSimple = refl
once_each l.Hashtables = refl
once_each l.Sorting = refl
once_each l.Files = refl
once_each l.Programs = refl
once_each l.RecordsProcedural = refl
once_each l.RecordsSyntactic = refl

abbrev in_rnrs : ℕ → Bool
in_rnrs n = among n (library_numbers l.Rnrs)

all_in_rnrs : (library : Library) → is_on_records library ≡ false → list_all in_rnrs (library_numbers library) ≡ true
all_in_rnrs l.Rnrs h = refl
all_in_rnrs l.Base h = refl
all_in_rnrs l.Lists h = refl
all_in_rnrs l.Control h = refl
all_in_rnrs l.SyntaxCase h = refl
all_in_rnrs l.Exceptions h = refl
all_in_rnrs l.IoSimple h = refl
all_in_rnrs l.Hashtables h = refl
all_in_rnrs l.Sorting h = refl
all_in_rnrs l.Files h = refl
all_in_rnrs l.Programs h = refl
all_in_rnrs l.RecordsProcedural h = cc
all_in_rnrs l.RecordsSyntactic h = cc

-- what holds of all of a list holds of each
of_each : (p : ℕ → Bool) (n : ℕ) (ns : List ℕ) → list_all p ns ≡ true → among n ns ≡ true → p n ≡ true
of_each p n [] h a = cc
of_each p n (m ∷ ms) h a = elim (m == n) as (λ b. m == n ≡ b → b || among n ms ≡ true → p n ≡ true) [
  | true ↦ λ e _. subst (λ (k : ℕ). p k ≡ true) ((unsigned_Decides m n).0 e) (first_so (p m) (list_all p ms) h)
  | false ↦ λ _ rest. of_each p n ms (second_so (p m) (list_all p ms) h) rest
] refl a
  where
    first_so : (a b : Bool) → a && b ≡ true → a ≡ true
    first_so true b h = refl
    first_so false b h = h

    second_so : (a b : Bool) → a && b ≡ true → b ≡ true
    second_so true b h = h
    second_so false b h = cc

pub rnrs_has : (library : Library) (n : ℕ) → is_on_records library ≡ false → among n (library_numbers library) ≡ true → among n (library_numbers l.Rnrs) ≡ true
rnrs_has library n other h = of_each in_rnrs n (library_numbers library) (all_in_rnrs library other) h
