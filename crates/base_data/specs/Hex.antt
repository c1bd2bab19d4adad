-- Numbers in hexadecimal.
use Rattle.std.specs.Prelude.{ℕ, List, true}
use Rattle.std.specs.Fmt.{digits}

-- upper case, without leading zeros
abbrev pub hex : ℕ → List ℕ
hex n = digits 16 true n
