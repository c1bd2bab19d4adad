-- The codes of the texts are in a setting that has the texts.
use Rattle.std.proofs.Common.{◌≡◌, ℕ, List, [], ◌∷◌, Option, Some, None, true, refl}
use Rattle.base_data.specs.declared.op.names.TheConstants as names
use Rattle.core_language.specs.Core.{PlainCore}
use Rattle.eval_code.specs.Codes.{Codes, code_at, procedure_code}
use Rattle.eval_code.specs.Procedures.{text_number}
use Rattle.eval_code.specs.Setting.{PlainSetting}
use Rattle.law_given.specs.Texts.{HasTexts}
use Rattle.law_given.specs.Codes as c
use Rattle.law_given.specs.Codes.{code_no, one_case, text_code, enter_list, enter_fold}

-- the table has a text's code
abbrev pub HasText : Codes → ℕ → PlainCore → Type 0
HasText cs op text = code_at cs (text_number op) ≡ Some (text_code op text)

-- and that of a procedure of one case
abbrev pub HasCase : Codes → ℕ → List ℕ → Option ℕ → PlainCore → Type 0
HasCase cs n formals rest body = code_at cs (code_no n) ≡ Some (procedure_code (code_no n) (one_case formals rest body) true)

pub record Knows (cs : Codes) : Type 0 where
  pub map_text : HasText cs names.MAP c.map_text
  pub map_one : HasCase cs 4 (6 ∷ 7 ∷ []) None c.map_one
  pub map_many : HasCase cs 9 (11 ∷ 12 ∷ []) None c.map_many
  pub map_body : HasCase cs 15 (17 ∷ 18 ∷ []) (Some 19) c.map_body
  pub for_each_text : HasText cs names.FOR_EACH c.for_each_text
  pub for_each_body : HasCase cs 21 (23 ∷ 24 ∷ []) (Some 25) c.for_each_body
  pub for_all_text : HasText cs names.FOR_ALL c.for_all_text
  pub for_all_loop : HasCase cs 29 (31 ∷ 32 ∷ []) None c.for_all_loop
  pub for_all_body : HasCase cs 35 (37 ∷ 38 ∷ []) (Some 39) (enter_list 28 37 38 39)
  pub exists_text : HasText cs names.EXISTS c.exists_text
  pub exists_loop : HasCase cs 43 (45 ∷ 46 ∷ []) None c.exists_loop
  pub exists_next : HasCase cs 48 (50 ∷ []) None c.exists_next
  pub exists_body : HasCase cs 53 (55 ∷ 56 ∷ []) (Some 57) (enter_list 42 55 56 57)
  pub filter_text : HasText cs names.FILTER c.filter_text
  pub filter_loop : HasCase cs 61 (63 ∷ 64 ∷ []) None c.filter_loop
  pub remp_text : HasText cs names.REMP c.remp_text
  pub remp_body : HasCase cs 67 (69 ∷ 70 ∷ []) None c.remp_body
  pub remp_test : HasCase cs 72 (74 ∷ []) None c.remp_test
  pub find_text : HasText cs names.FIND c.find_text
  pub find_loop : HasCase cs 78 (80 ∷ 81 ∷ []) None c.find_loop
  pub memp_text : HasText cs names.MEMP c.memp_text
  pub memp_loop : HasCase cs 86 (88 ∷ 89 ∷ []) None c.memp_loop
  pub fold_left_text : HasText cs names.FOLD_LEFT c.fold_left_text
  pub fold_left_loop : HasCase cs 94 (96 ∷ 97 ∷ 98 ∷ []) None c.fold_left_loop
  pub fold_left_body : HasCase cs 101 (103 ∷ 104 ∷ 105 ∷ []) (Some 106) (enter_fold 93 103 104 105 106)
  pub fold_right_text : HasText cs names.FOLD_RIGHT c.fold_right_text
  pub fold_right_loop : HasCase cs 110 (112 ∷ 113 ∷ 114 ∷ []) None c.fold_right_loop
  pub fold_right_body : HasCase cs 117 (119 ∷ 120 ∷ 121 ∷ []) (Some 122) (enter_fold 109 119 120 121 122)

pub knows : (w : PlainSetting) → HasTexts w → Knows w.codes
knows w has = record {
  map_text = has (text_number names.MAP) _ refl;
  map_one = has (code_no 4) _ refl;
  map_many = has (code_no 9) _ refl;
  map_body = has (code_no 15) _ refl;
  for_each_text = has (text_number names.FOR_EACH) _ refl;
  for_each_body = has (code_no 21) _ refl;
  for_all_text = has (text_number names.FOR_ALL) _ refl;
  for_all_loop = has (code_no 29) _ refl;
  for_all_body = has (code_no 35) _ refl;
  exists_text = has (text_number names.EXISTS) _ refl;
  exists_loop = has (code_no 43) _ refl;
  exists_next = has (code_no 48) _ refl;
  exists_body = has (code_no 53) _ refl;
  filter_text = has (text_number names.FILTER) _ refl;
  filter_loop = has (code_no 61) _ refl;
  remp_text = has (text_number names.REMP) _ refl;
  remp_body = has (code_no 67) _ refl;
  remp_test = has (code_no 72) _ refl;
  find_text = has (text_number names.FIND) _ refl;
  find_loop = has (code_no 78) _ refl;
  memp_text = has (text_number names.MEMP) _ refl;
  memp_loop = has (code_no 86) _ refl;
  fold_left_text = has (text_number names.FOLD_LEFT) _ refl;
  fold_left_loop = has (code_no 94) _ refl;
  fold_left_body = has (code_no 101) _ refl;
  fold_right_text = has (text_number names.FOLD_RIGHT) _ refl;
  fold_right_loop = has (code_no 110) _ refl;
  fold_right_body = has (code_no 117) _ refl;
}
