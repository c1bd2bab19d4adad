-- Names one after another.
use Rattle.std.proofs.Common.{◌≡◌, ℕ, zero, suc, ◌+◌, ◌-◌, ◌<◌, ◌≤◌, List, [], ◌++◌, Option, refl, sym, ap, ◌∙◌, append_assoc, append-nil, arith}
use Rattle.base_data.specs.declared.imported_name.ImportedName.{ImportedName}
use Rattle.run_derived.specs.Names.{name_at, names_from}

-- one more name
pub names_on : (ds : List (Option ℕ)) (n to : ℕ) (names new total : List ImportedName) → n < to → new ≡ names ++ name_at ds n → names ++ names_from ds n (to - n) ≡ total → new ++ names_from ds (n + 1) (to - (n + 1)) ≡ total
unfolding names_from
names_on ds n to names new total h e so_far =
    let more : to - n ≡ suc (to - (n + 1)) = omega arith in
    ap (λ es. es ++ names_from ds (n + 1) (to - (n + 1))) e
    ∙ append_assoc names (name_at ds n) (names_from ds (n + 1) (to - (n + 1)))
    ∙ ap (λ k. names ++ names_from ds n k) (sym more) ∙ so_far

pub names_done : (ds : List (Option ℕ)) (n to : ℕ) (names total : List ImportedName) → to ≤ n → names ++ names_from ds n (to - n) ≡ total → names ≡ total
unfolding names_from
names_done ds n to names total h so_far =
    let none : to - n ≡ zero = omega arith in
    sym (append-nil names) ∙ ap (λ k. names ++ names_from ds n k) (sym none) ∙ so_far
