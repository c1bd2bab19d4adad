-- What an evaluation reads has come to hold more.
use Rattle.std.specs.Prelude.{◌≡◌, Some, IsTrue}
use Rattle.std.specs.Map.{lookup}
use Rattle.base_data.specs.declared.name.CodeNo.{CodeNo}
use Rattle.base_data.specs.declared.name.Label.{Label}
use Rattle.core_language.specs.Core.{PlainCode}
use Rattle.core_language.specs.Labels.{same_label}
use Rattle.eval_value.specs.Cells.{is_found}
use Rattle.eval_code.specs.Codes.{Codes, code_at}
use Rattle.eval_code.specs.Setting.{PlainSetting}

-- No code has given its number to another one.
abbrev pub Stay : Codes → Codes → Type 0
Stay old new = (number : CodeNo) (code : PlainCode) → code_at old number ≡ Some code → code_at new number ≡ Some code

pub record Extends (w v : PlainSetting) : Type 0 where
  pub codes : Stay w.codes v.codes
  -- what was found among the variables of libraries is found there
  pub globals : (l : Label) → IsTrue (is_found (lookup (same_label l) w.globals)) → IsTrue (is_found (lookup (same_label l) v.globals))
