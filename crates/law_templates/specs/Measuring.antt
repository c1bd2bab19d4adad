-- What was measured is what the cells of an instance cost, or the fault that it has.
use Rattle.std.specs.Prelude.{◌≡◌, ℕ, List, length, drop, Result, Ok, Err}
use Rattle.base_data.specs.declared.fault.Bare.{Bare}
use Rattle.eval_value.specs.declared.cell.Cell.{Cell}
use Rattle.eval_value.specs.declared.value.Value.{Value}
use Rattle.eval_template.specs.Cost.{cost}

abbrev pub Tells : List Cell → Result ℕ Bare → Result (Value × List Cell) Bare → Type 0
Tells cells (Ok n) (Ok p) = cost (drop (length cells) p.1) ≡ n
Tells cells (Ok n) (Err f) = ⊥
Tells cells (Err f) (Ok p) = ⊥
Tells cells (Err f) (Err g) = f ≡ g
