-- Which bytes of the name of a library stand in the name of its file as they are, written out.
use Rattle.std.specs.Prelude.{◌≡◌, ℕ, Bool, not, ◌&&◌, ◌||◌, ◌==◌, nat_le, codes}
use Rattle.std.specs.List.{list_any}
use Rattle.percent_encoding.specs.AsciiSet.{should_percent_encode}
use Rattle.load_file_names.specs.declared.file.TheConstants.{ESCAPED}

abbrev pub between : ℕ → ℕ → ℕ → Bool
between least most b = nat_le least b && nat_le b most

-- a digit or a letter of ASCII, or one of these six
abbrev pub is_kept : ℕ → Bool
is_kept b = between 0x30 0x39 b || between 0x41 0x5A b || between 0x61 0x7A b || list_any (λ c. c == b) (codes "-_+!?*")

-- Every other byte is escaped.
abbrev pub OthersAreEscaped : Type 0
OthersAreEscaped = (b : ℕ) → should_percent_encode ESCAPED b ≡ not (is_kept b)
