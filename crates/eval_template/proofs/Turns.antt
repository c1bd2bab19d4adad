-- The turns of a bind in memory are those that it stands for.
use Rattle.std.proofs.Common.{◌≡◌, ℕ, List, [], ◌∷◌, length, slice_get, Some, refl, ap}
use Rattle.eval_value.specs.Bind.{PlainBind, many, turns}
use Rattle.eval_template.specs.Binds.{listed, turn_of, unbound, count_of}

pub listed_turns : (bs : List PlainBind) → listed (turns bs) ≡ bs
listed_turns [] = refl
listed_turns (b ∷ bs) = ap (λ xs. b ∷ xs) (listed_turns bs)

pub turn_of_many : (bs : List PlainBind) (i : ℕ) → turn_of (many (turns bs)) i ≡ slice_get bs i
turn_of_many bs i = ap (λ xs. slice_get xs i) (listed_turns bs)

pub count_of_many : (bs : List PlainBind) → count_of unbound (Some (many (turns bs))) ≡ length bs
count_of_many bs = ap length (listed_turns bs)
