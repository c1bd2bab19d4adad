-- How deep a form stands: the number of core forms and applications round it.
use Rattle.std.specs.Prelude.{ℕ, ◌+◌, nat_lt, if◌then◌else◌}

-- at most so many core forms and applications may stand round a form
abbrev pub most_round : ℕ
most_round = 600

-- one deeper; what is too deep already stays so
abbrev pub deeper : ℕ → ℕ
deeper depth = if nat_lt most_round depth then depth else depth + 1
