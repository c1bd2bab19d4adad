-- What the words of a run ask for.
use Rattle.std.specs.Prelude.{ℕ, List, map, String, string_bytes, codes}
use Rattle.std.specs.Global.{Global}
use Rattle.run_command.specs.Words.{asked_by}
use Rattle.run_command.specs.declared.words.Words.{Words}
use Rattle.run_command.specs.declared.words.Words.TheVariants.{Expand, Make, Usage}

abbrev pub texts : List (String Global) → List (List ℕ)
texts words = map string_bytes words

-- what the words ask for
abbrev pub words_asked : List (List ℕ) → Words
words_asked words = asked_by words

-- the words read no file: they are refused, or ask for libraries that are made in memory
abbrev pub ReadNone : Words → Type 0
ReadNone (Expand job) = ⊥
ReadNone (Make count) = Unit {0}
ReadNone Usage = Unit {0}

abbrev pub usage_line : List ℕ
usage_line = codes "usage: scheme-expand [--root DIR[:DIR]...] [--cache DIR] [--report] [--write core|xref] PROGRAM | --make N\n"
