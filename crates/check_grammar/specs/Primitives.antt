-- Which texts are names of primitives in core text.
use Rattle.std.specs.Prelude.{ℕ, Bool, false, not, List, Option, None, Some}
use Rattle.base_data.specs.Op.{op_named, is_keyword}

abbrev pub is_value : Option ℕ → Bool
is_value None = false
is_value (Some o) = not (is_keyword o)

-- a name of R6RS for a procedure or another value, and none of a keyword
abbrev pub is_primitive : List ℕ → Bool
is_primitive text = is_value (op_named text)
