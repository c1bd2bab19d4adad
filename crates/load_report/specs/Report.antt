-- The report: a line for each library of a file.
use Rattle.std.specs.Prelude.{ℕ, List, [], ◌∷◌, ◌++◌, codes}
use Rattle.load_report.specs.Name.{name_text}
use Rattle.load_report.specs.declared.report.Fate.{Fate}
use Rattle.load_report.specs.declared.report.Fate.TheVariants.{Expanded, Reused}
use Rattle.load_report.specs.declared.report.Told.{Told}

abbrev pub fate_text : Fate → List ℕ
fate_text Expanded = codes "expanded"
fate_text Reused = codes "reused"

abbrev pub line : Told → List ℕ
line told = fate_text told.fate ++ codes " " ++ name_text told.library ++ codes "\n"

abbrev pub report_text : List Told → List ℕ
report_text [] = []
report_text (told ∷ libraries) = line told ++ report_text libraries
