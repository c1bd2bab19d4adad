-- The numbers of a library are numbers of names.
use Rattle.std.proofs.Common.{◌≡◌, ℕ, zero, suc, ◌+◌, ◌-◌, ◌<◌, ◌≤◌, Bool, true, false, List, [], ◌∷◌, ◌++◌, map, length, get_or, refl, sym, ap, ◌∙◌, append_assoc, arith, nat_le}
use Rattle.std.specs.Prelude.{◌&&◌}
use Rattle.std.specs.List.{list_all}
use Rattle.std.proofs.lemmas.Bool.Decides.{nat_tests}
use Rattle.base_data.specs.Op.{name_count}
use Rattle.base_data.specs.declared.imported_name.ImportedName.{ImportedName}
use Rattle.load_builtin.specs.declared.library.Library.{Library}
use Rattle.load_builtin.specs.declared.library.Library.TheVariants as l
use Rattle.load_builtin.specs.declared.library.Run.{Run}
use Rattle.load_builtin.specs.Libraries.{library_runs, in_a_row}
use Rattle.load_builtin.specs.Exports.{export}

abbrev fits : Run → Bool
fits r = nat_le r.to name_count

fits_so : (r : Run) → fits r ≡ true → r.to ≤ name_count
fits_so r h = grind (arith, nat_tests)

first_so : (a b : Bool) → a && b ≡ true → a ≡ true
first_so true b h = refl
first_so false b h = h

second_so : (a b : Bool) → a && b ≡ true → b ≡ true
second_so true b h = h
second_so false b h = cc

all_fit : (rs : List Run) (i : ℕ) (r : Run) → list_all fits rs ≡ true → i < length rs → r ≡ get_or rs i r → r.to ≤ name_count
all_fit [] i r h lt e = absurd (omega arith)
all_fit (x ∷ xs) zero r h lt e = fits_so r (ap fits e ∙ first_so (fits x) (list_all fits xs) h)
all_fit (x ∷ xs) (suc i) r h lt e = all_fit xs i r (second_so (fits x) (list_all fits xs) h) (omega arith) e

each_fits : (library : Library) → list_all fits (library_runs library) ≡ true
each_fits l.Rnrs = refl
each_fits l.Base = refl
each_fits l.Lists = refl
each_fits l.Control = refl
each_fits l.SyntaxCase = refl
each_fits l.Exceptions = refl
each_fits l.IoSimple = refl
each_fits l.Hashtables = refl
each_fits l.Sorting = refl
each_fits l.Files = refl
each_fits l.Programs = refl
each_fits l.RecordsProcedural = refl
each_fits l.RecordsSyntactic = refl

pub runs_fit : (library : Library) (rs : List Run) (i : ℕ) (r : Run) → rs ≡ library_runs library → i < length rs → r ≡ get_or rs i r → r.to ≤ name_count
runs_fit library rs i r is lt e = all_fit rs i r (ap (λ x. list_all fits x) is ∙ each_fits library) lt e

-- one more name of a run
pub row_turn : (names new whole : List ImportedName) (n to : ℕ) (x : ImportedName) → n < to → new ≡ names ++ x ∷ [] → x ≡ export n
    → names ++ map export (in_a_row n (to - n)) ≡ whole → new ++ map export (in_a_row (n + 1) (to - (n + 1))) ≡ whole
row_turn names new whole n to x h e same so_far =
    let more : to - n ≡ suc (to - (n + 1)) = omega arith in
    let cons : in_a_row n (to - n) ≡ n ∷ in_a_row (n + 1) (to - (n + 1)) = rw more refl in
    ap (λ a. a ++ map export (in_a_row (n + 1) (to - (n + 1)))) (e ∙ ap (λ y. names ++ y ∷ []) same)
    ∙ append_assoc names (export n ∷ []) (map export (in_a_row (n + 1) (to - (n + 1))))
    ∙ sym (ap (λ ns. names ++ map export ns) cons) ∙ so_far
