-- The text of a list in memory, which has its elements and its tail apart.
use Rattle.std.specs.Prelude.{ℕ, List, [], ◌∷◌, ◌++◌, if◌then◌else◌, codes}
use Rattle.base_data.specs.Datum.{PlainDatum, is_nil}
use Rattle.check_grammar.specs.Text.{text_of}

abbrev pub tail_text : PlainDatum → List ℕ
tail_text d = if is_nil d then [] else codes " . " ++ text_of d

abbrev pub further_elements : List PlainDatum → List ℕ
further_elements [] = []
further_elements (d ∷ ds) = codes " " ++ text_of d ++ further_elements ds

abbrev pub elements_text : List PlainDatum → List ℕ
elements_text [] = []
elements_text (d ∷ ds) = text_of d ++ further_elements ds
