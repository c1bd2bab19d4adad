-- Settings in which the procedures that are given as texts have their codes.
use Rattle.std.specs.Prelude.{◌≡◌, List, [], ◌∷◌, Some}
use Rattle.base_data.specs.declared.name.CodeNo.{CodeNo}
use Rattle.base_data.specs.declared.op.names.TheConstants as names
use Rattle.core_language.specs.Core.{PlainCode}
use Rattle.eval_code.specs.Codes.{Codes, code_at, with_procedure}
use Rattle.eval_code.specs.Setting.{PlainSetting}
use Rattle.law_given.specs.Codes.{text_code, map_text, for_each_text, for_all_text, exists_text, filter_text, remp_text, find_text, memp_text, fold_left_text, fold_right_text}

-- the codes of all texts, in their order
abbrev pub written : List PlainCode
written =
    text_code names.MAP map_text ∷ text_code names.FOR_EACH for_each_text ∷ text_code names.FOR_ALL for_all_text
    ∷ text_code names.EXISTS exists_text ∷ text_code names.FILTER filter_text ∷
    text_code names.REMP remp_text ∷ text_code names.FIND find_text ∷ text_code names.MEMP memp_text
    ∷ text_code names.FOLD_LEFT fold_left_text ∷ text_code names.FOLD_RIGHT fold_right_text ∷ []

-- the table that codes make, with those inside them
abbrev pub table_of : Codes → List PlainCode → Codes
table_of table [] = table
table_of table (c ∷ cs) = table_of (with_procedure c table) cs

abbrev pub written_table : Codes
written_table = table_of [] written

-- each code of the second table is in the first, under its number
abbrev pub Includes : Codes → Codes → Type 0
Includes cs table = (number : CodeNo) (c : PlainCode) → code_at table number ≡ Some c → code_at cs number ≡ Some c

-- The texts have their codes.
abbrev pub HasTexts : PlainSetting → Type 0
HasTexts w = Includes w.codes written_table
