-- Names past the last.
use Rattle.std.proofs.Common.{◌≡◌, ◌≤◌, ℕ, []}
use Rattle.std.proofs.lemmas.List.{get_or_past}
use Rattle.base_data.specs.Op.{name_count, op_text}
use Rattle.base_data.specs.OpNames.{op_names}

pub past_last : (n : ℕ) → name_count ≤ n → op_text n ≡ []
past_last n h = get_or_past op_names n [] h
