-- Texts and files of one number after another.
use Rattle.std.proofs.Common.{◌≡◌, ℕ, zero, suc, ◌+◌, ◌-◌, ◌<◌, ◌≤◌, List, [], ◌∷◌, ◌++◌, refl, sym, ap, ◌∙◌, append_assoc, append-nil, arith}
use Rattle.run_make.specs.Made.{filled, each, library_file, libraries}

-- one more number
pub each_on : (pattern : List ℕ) (n to : ℕ) (out new total : List ℕ) → n < to → new ≡ out ++ filled n pattern → out ++ each pattern n (to - n) ≡ total → new ++ each pattern (n + 1) (to - (n + 1)) ≡ total
unfolding each
each_on pattern n to out new total h e so_far =
    let more : to - n ≡ suc (to - (n + 1)) = omega arith in
    ap (λ es. es ++ each pattern (n + 1) (to - (n + 1))) e
    ∙ append_assoc out (filled n pattern) (each pattern (n + 1) (to - (n + 1)))
    ∙ ap (λ k. out ++ each pattern n k) (sym more) ∙ so_far

pub each_done : (pattern : List ℕ) (n to : ℕ) (out total : List ℕ) → to ≤ n → out ++ each pattern n (to - n) ≡ total → out ≡ total
unfolding each
each_done pattern n to out total h so_far =
    let none : to - n ≡ zero = omega arith in
    sym (append-nil out) ∙ ap (λ k. out ++ each pattern n k) (sym none) ∙ so_far

-- one more library
pub libraries_on : (n to : ℕ) (files new total : List (List ℕ × List ℕ)) → n < to → new ≡ files ++ library_file n ∷ [] → files ++ libraries n (to - n) ≡ total → new ++ libraries (n + 1) (to - (n + 1)) ≡ total
unfolding libraries
libraries_on n to files new total h e so_far =
    let more : to - n ≡ suc (to - (n + 1)) = omega arith in
    ap (λ fs. fs ++ libraries (n + 1) (to - (n + 1))) e
    ∙ append_assoc files (library_file n ∷ []) (libraries (n + 1) (to - (n + 1)))
    ∙ ap (λ k. files ++ libraries n k) (sym more) ∙ so_far

pub libraries_done : (n to : ℕ) (files total : List (List ℕ × List ℕ)) → to ≤ n → files ++ libraries n (to - n) ≡ total → files ≡ total
unfolding libraries
libraries_done n to files total h so_far =
    let none : to - n ≡ zero = omega arith in
    sym (append-nil files) ∙ ap (λ k. files ++ libraries n k) (sym none) ∙ so_far
