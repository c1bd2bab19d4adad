-- A text that is a `letrec` of one procedure.
use Rattle.std.proofs.Common.{◌≡◌, ℕ, List, [], Some, None, true, false, Ok, refl, nat_eq, arith}
use Rattle.std.specs.Map.{lookup}
use Rattle.base_data.specs.declared.op.names.TheConstants as names
use Rattle.base_region.specs.declared.region.Place.{Place}
use Rattle.base_region.proofs.Laws.{slice_get-added}
use Rattle.core_language.specs.Core.{PlainCore, letrec, no_init, init}
use Rattle.core_language.specs.Labels.{same_label}
use Rattle.eval_value.specs.declared.value.Value.{Value}
use Rattle.eval_value.specs.declared.value.Value.TheVariants as value
use Rattle.eval_value.specs.declared.cell.Cell.TheVariants as cell
use Rattle.eval_code.specs.Codes.{code_at}
use Rattle.eval_code.specs.Meaning.{eval_of, procedure_called}
use Rattle.eval_code.specs.Procedures.{has_text, text_number}
use Rattle.eval_code.specs.Setting.{PlainSetting}
use Rattle.eval_code.specs.State.{WorldState, next_place, with_cell}
use Rattle.law_eval.specs.Kept.{LaterWorld}
use Rattle.law_eval.proofs.Keeping.{later_then, later_with}
use Rattle.law_given.specs.Calls.{CallEnd, Ends, call_to, CallEnds, Calls}
use Rattle.law_given.specs.Codes.{label, code_no, var, lambda, one_case, text_code}
use Rattle.law_given.proofs.Giving.{Evaluates}
use Rattle.law_given.proofs.Looking.{in_cell, variable-is}
use Rattle.law_given.proofs.Calling.{text-ends, closure-ends-back}
use Rattle.law_given.proofs.Inside.{Home, one_home, letrec-is}

abbrev pub loop_text : ℕ → ℕ → List ℕ → PlainCore → PlainCore → PlainCore
loop_text go code formals loop body = letrec false (init (label go) (lambda code formals None loop) no_init) body

module _ (w : PlainSetting) (s : WorldState) (go code : ℕ) where
  abbrev pub outside : WorldState
  outside = with_cell (cell.Scope [] None) s

  abbrev pub home_place : Place
  home_place = next_place outside

  abbrev pub ready : WorldState
  ready = with_cell (cell.Scope (one_home (label go) (code_no code) home_place) (Some (next_place s))) outside

  pub ready-home : Home ready.cells home_place (one_home (label go) (code_no code) home_place)
  ready-home = record { around = Some (next_place s); is = slice_get-added outside.cells (cell.Scope (one_home (label go) (code_no code) home_place) (Some (next_place s))) }

  pub ready-later : LaterWorld s ready
  ready-later = later_then s outside ready (later_with s (cell.Scope [] None)) (later_with outside (cell.Scope (one_home (label go) (code_no code) home_place) (Some (next_place s))))

  module _ (op : ℕ) (formals : List ℕ) (loop : PlainCore) (self : same_label (label go) (label go) ≡ true) (other : nat_eq op names.APPLY ≡ false) (yes : has_text op ≡ true) where
    -- the text gives a procedure, which is called
    pub text-by-ends : (body : PlainCore) (number : ℕ) (args : List Value) (r : CallEnd) (t : WorldState)
        → code_at w.codes (text_number op) ≡ Some (text_code op (loop_text go code formals loop body))
        → Evaluates w body home_place ready (value.Closure (code_no number) home_place) ready
        → Ends (procedure_called w (eval_of w) (code_no number) home_place args ready) r t
        → CallEnds w (call_to (value.Prim (record { 0 = op })) args) s r t
    text-by-ends body number args r t known is h =
        text-ends w (record { 0 = op }) args s ready t (text_code op (loop_text go code formals loop body)) (loop_text go code formals loop body) (code_no number) home_place r other yes known refl
        (letrec-is w (label go) self (code_no code) (one_case formals None loop) true body (next_place s) outside (value.Closure (code_no number) home_place) ready is) h

    -- the procedure of the `letrec` itself
    pub loop-by-ends : (args : List Value) (r : CallEnd) (t : WorldState)
        → code_at w.codes (text_number op) ≡ Some (text_code op (loop_text go code formals loop (var go)))
        → lookup (same_label (label go)) (one_home (label go) (code_no code) home_place) ≡ Some (Some (value.Closure (code_no code) home_place))
        → CallEnds w (call_to (value.Closure (code_no code) home_place) args) ready r t
        → CallEnds w (call_to (value.Prim (record { 0 = op })) args) s r t
    loop-by-ends args r t known found h =
        text-by-ends (var go) code args r t known
        (variable-is w (label go) home_place ready (value.Closure (code_no code) home_place) 1 (in_cell ready-home.is found) (omega arith))
        (closure-ends-back w (code_no code) home_place args ready r t h)

    pub loop-by : (args : List Value) (v : Value) (t : WorldState)
        → code_at w.codes (text_number op) ≡ Some (text_code op (loop_text go code formals loop (var go)))
        → lookup (same_label (label go)) (one_home (label go) (code_no code) home_place) ≡ Some (Some (value.Closure (code_no code) home_place))
        → Calls w (call_to (value.Closure (code_no code) home_place) args) ready v t
        → Calls w (call_to (value.Prim (record { 0 = op })) args) s v t
    loop-by args v t known found h = loop-by-ends args (Ok v) t known found h
