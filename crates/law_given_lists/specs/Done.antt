-- What a call of `map` or `for-each` on several lists did, by how it ended (R6RS 11.9).
use Rattle.std.specs.Prelude.{◌≡◌, List, Ok, Err}
use Rattle.eval_value.specs.declared.value.Value.{Value}
use Rattle.eval_value.specs.declared.value.Value.TheVariants as value
use Rattle.eval_code.specs.Setting.{PlainSetting}
use Rattle.eval_code.specs.State.{WorldState}
use Rattle.law_lists.specs.Runs.{IsList}
use Rattle.law_given.specs.Calls.{CallEnd}
use Rattle.law_given_lists.specs.RowCalls.{RowsInTurn, RowsStop}

module _ (w : PlainSetting) (f : Value) where
  -- It gave the list of the answers; or a call faulted, and that is its fault.
  abbrev pub MapDid : List (List Value) → WorldState → CallEnd → WorldState → Type 0
  MapDid rows s (Ok v) t = (answers : List Value) × RowsInTurn w f rows s answers t × IsList t.cells answers v
  MapDid rows s (Err e) t = RowsStop w f rows s e t

  -- It gave nothing of the answers.
  abbrev pub VisitDid : List (List Value) → WorldState → CallEnd → WorldState → Type 0
  VisitDid rows s (Ok v) t = (answers : List Value) × RowsInTurn w f rows s answers t × (v ≡ value.Unspecified)
  VisitDid rows s (Err e) t = RowsStop w f rows s e t
