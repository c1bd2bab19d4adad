use Rattle.std.proofs.Common.{◌≡◌, ℕ, List, map, length, ◌≤◌, Bool, false, nat_lt, arith, sym, ap, ◌∙◌, ◌||◌}
use Rattle.std.proofs.lemmas.List.{length-map}
use Rattle.std.proofs.lemmas.Bool.Decides.{nat_tests}
use Rattle.run_command.specs.Roots.{are_refused}
use Rattle.std.specs.Prelude.{◌==◌}
use Rattle.std.specs.Borrow.{Bor}
use Rattle.std.specs.List.{list_any}
use Rattle.clap.proofs.WalkLemmas.{list_any-map}

pub any_empty : (xs : List (Bor (List ℕ))) → list_any (λ s. length s.now == 0) xs ≡ list_any (λ p. length p == 0) (map (λ s. s.now) xs)
any_empty xs = list_any-map (λ p. length p == 0) (λ (s : Bor (List ℕ)). s.now) xs

pub few : (xs : List (Bor (List ℕ))) (t : Bool) → length xs ≤ 16 → t ≡ list_any (λ s. length s.now == 0) xs → t ≡ are_refused (map (λ s. s.now) xs)
few xs t le e =
    let ps : List (List ℕ) = map (λ s. s.now) xs in
    let not_more : nat_lt 16 (length ps) ≡ false = grind (arith, nat_tests, length-map xs (λ (s : Bor (List ℕ)). s.now)) in
    e ∙ any_empty xs ∙ sym (ap (λ b. b || list_any (λ p. length p == 0) ps) not_more)
