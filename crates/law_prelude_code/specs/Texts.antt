-- What the texts of the prelude come to.
use Rattle.std.specs.Prelude.{◌≡◌, Ok}
use Rattle.law_given.specs.Texts.{written, written_table}
use Rattle.run_prelude.specs.Prelude.{prelude_codes, prelude_spent, prelude_table}

-- Each text is read, and expanded to the code that is written out.
abbrev pub TextsExpand : Type 0
TextsExpand = prelude_codes ≡ Ok written

-- so the table of a run is that of these codes
abbrev pub TableIsWritten : Type 0
TableIsWritten = prelude_table ≡ Ok written_table

-- No text uses a keyword that is a macro: their expansion spends no fuel.
abbrev pub TextsSpendNothing : Type 0
TextsSpendNothing = prelude_spent ≡ 0
