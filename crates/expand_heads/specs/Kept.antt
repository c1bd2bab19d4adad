-- The heads of a body that were kept, by symbol.
use Rattle.std.specs.Prelude.{ℕ, nat_eq, List, [], ◌∷◌, ◌++◌, Option, None, Some, is_some, if◌then◌else◌}
use Rattle.std.specs.Coded.{Coded, coded×, coded_ℕ, coded_list}
use Rattle.std.specs.Cmp.Lexicographic.{pointwise}
use Rattle.std.specs.Map.{lookup, set_value}
use Rattle.expand_heads.specs.contracts.taken.KeptHead as heads
use Rattle.expand_heads.specs.declared.taken.KeptHead.{KeptHead}

-- each symbol with its heads, in the order of keeping
abbrev pub Heads : Type 0
Heads = List (List ℕ × List KeptHead)

abbrev pub heads_code : Coded Heads
heads_code = coded_list (coded× (coded_list coded_ℕ) (coded_list heads.the_row.coded))

abbrev pub found : List ℕ → Heads → Option (List KeptHead)
found x hs = lookup (λ y. pointwise nat_eq x y) hs

abbrev pub or_none : Option (List KeptHead) → List KeptHead
or_none None = []
or_none (Some ks) = ks

-- the heads of a symbol
abbrev pub heads_of : List ℕ → Heads → List KeptHead
heads_of x hs = or_none (found x hs)

-- a head more, behind those of its symbol
abbrev pub with_head : Heads → KeptHead → Heads
with_head hs k = if is_some (found k.symbol hs) then set_value (λ y. pointwise nat_eq k.symbol y) hs
    (heads_of k.symbol hs ++ k ∷ []) else hs ++ (k.symbol, k ∷ []) ∷ []

-- these heads kept in their order
abbrev pub kept_all : Heads → List KeptHead → Heads
kept_all hs [] = hs
kept_all hs (k ∷ ks) = kept_all (with_head hs k) ks
