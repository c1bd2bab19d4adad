use Rattle.std.proofs.Common.{◌≡◌, ℕ, zero, suc, ◌<◌, List, [], ◌∷◌, length, get_or, refl, Bor, arith}
use Rattle.base_data.specs.Op.{text_at}
use Rattle.base_data.proofs.op.text_at.Goals as goal

now_at : (texts : List (Bor (List ℕ))) (n : ℕ) (other : Bor (List ℕ)) → n < length texts → (get_or texts n other).now ≡ text_at texts n
now_at [] n other h = absurd (omega arith)
now_at (x ∷ xs) zero other h = refl
now_at (x ∷ xs) (suc n) other h = now_at xs n other (omega arith)

pub returns : goal.returns
returns c = now_at c.args.texts.now c.args.place _ c.requires
