-- What cells cost, one after another.
use Rattle.std.proofs.Common.{◌≡◌, ℕ, suc, ◌+◌, List, Option, Some, None, drop, drop-cons, slice_get, ap, ◌∙◌, add-one, ⊎_elim}
use Rattle.std.proofs.lemmas.Option.{slice_get_within, get_or_from_slice_get, slice_get_cases}
use Rattle.std.proofs.lemmas.List.{drop_all}
use Rattle.eval_value.specs.declared.cell.Cell.{Cell}
use Rattle.eval_template.specs.Cost.{cell_cost, cost}

some_none : (o : Option Cell) (x : Cell) → o ≡ Some x → o ≡ None → ⊥
some_none o x e f = cc

pub cost_here : (cs : List Cell) (i : ℕ) (c : Cell) → slice_get cs i ≡ Some c → cost (drop i cs) ≡ cell_cost c + cost (drop (i + 1) cs)
cost_here cs i c e =
    rw add-one (ap cost (drop-cons cs i c (slice_get_within cs i c e)) ∙ ap (λ x. cell_cost x + cost (drop (suc i) cs)) (get_or_from_slice_get cs i c c e))

pub cost_end : (cs : List Cell) (i : ℕ) → slice_get cs i ≡ None → cost (drop i cs) ≡ 0
cost_end cs i e = ⊎_elim (λ p. absurd (some_none (slice_get cs i) p.0 p.2 e)) (λ q. ap cost (drop_all i cs q.0)) (slice_get_cases cs i).1
