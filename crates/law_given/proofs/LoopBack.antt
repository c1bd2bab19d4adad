-- A loop of a text along one list that gave a value: what its parts gave.
use Rattle.std.proofs.Common.{◌≡◌, ℕ, List, [], ◌∷◌, Some, None, true, false, refl, nat_eq, arith}
use Rattle.std.specs.Map.{lookup}
use Rattle.base_data.specs.declared.op.names.TheConstants.{APPLY}
use Rattle.base_region.specs.declared.region.Place.{Place}
use Rattle.core_language.specs.Core.{PlainCore}
use Rattle.core_language.specs.Labels.{same_label}
use Rattle.eval_value.specs.declared.value.Value.{Value}
use Rattle.eval_value.specs.declared.value.Value.TheVariants as value
use Rattle.eval_prims.specs.Chains.{pair_of}
use Rattle.eval_code.specs.Codes.{code_at, procedure_code}
use Rattle.eval_code.specs.Procedures.{has_text, text_number}
use Rattle.eval_code.specs.Setting.{PlainSetting}
use Rattle.eval_code.specs.State.{WorldState, next_place}
use Rattle.eval_code.specs.Variables.{Entries}
use Rattle.law_eval.specs.Kept.{LaterWorld}
use Rattle.law_given.specs.Calls.{call_to, Calls}
use Rattle.law_given.specs.Codes.{label, code_no, var, formals, one_case, app, car, cdr, text_code}
use Rattle.law_given.proofs.Giving.{Evaluates}
use Rattle.law_given.proofs.Looking.{in_cell, variable-is}
use Rattle.law_given.proofs.Calling.{closure-called, closure-back}
use Rattle.law_given.proofs.Inside.{Home, one_home, inside-later, entered-inside, outer, letrec-is}
use Rattle.law_given.proofs.Inverting.{call-one-back, call-two-back, case-back, text-back}
use Rattle.law_given.proofs.Loop as loop
use Rattle.law_given.proofs.Loop.{Names, two_vars}
use Rattle.law_given.proofs.LoopText.{loop_text, outside, home_place, ready, ready-home}

module _ (w : PlainSetting) (code go m n : ℕ) (body : PlainCore) (known : code_at w.codes (code_no code) ≡ Some (procedure_code (code_no code) (one_case (m ∷ n ∷ []) None body) true))
    (p : Place) (home : Entries) (names : Names go m n home (value.Closure (code_no code) p)) (f l : Value) (s : WorldState) (round : Home s.cells p home) where
  abbrev at : WorldState
  at = loop.entered w code go m n body known p home names f l s round

  abbrev q : Place
  q = next_place s

  pub body-back : (v : Value) (t : WorldState) → Calls w (call_to (value.Closure (code_no code) p) (f ∷ l ∷ [])) s v t → Evaluates w body q at v t
  body-back v t h =
      case-back w (code_no code) p (f ∷ l ∷ []) s (procedure_code (code_no code) (one_case (m ∷ n ∷ []) None body) true) (formals (m ∷ n ∷ []) None) body v t known refl
      (closure-back w (code_no code) p (f ∷ l ∷ []) s v t h)

  module _ (u : WorldState) (behind : LaterWorld at u) (x d : Value) (pair : pair_of s.cells l ≡ Some (x, d)) where
    pub first-back : (y : Value) (t : WorldState) → Evaluates w (app (var m) (car (var n) ∷ [])) q u y t → Calls w (call_to f (x ∷ [])) u y t
    first-back y t h =
        call-one-back w (var m) (car (var n)) q u u u t f x y (loop.procedure-read w code go m n body known p home names f l s round u behind)
        (loop.first-read w code go m n body known p home names f l s round u behind x d pair) h

    pub again-back : (v : Value) (t : WorldState) → Evaluates w (app (var go) (var m ∷ cdr (var n) ∷ [])) q u v t → Calls w (call_to (value.Closure (code_no code) p) (f ∷ d ∷ [])) u v t
    again-back v t h =
        call-two-back w (var go) (var m) (cdr (var n)) q u u u u t (value.Closure (code_no code) p) f d v
        (outer w u q (two_vars m n f l) p home (inside-later at u behind q (two_vars m n f l) p home (entered-inside s (two_vars m n f l) p home round)) (label go) (value.Closure (code_no code) p) (names.no_loop f l) names.loop)
        (loop.procedure-read w code go m n body known p home names f l s round u behind)
        (loop.rest-read w code go m n body known p home names f l s round u behind x d pair) h

module _ (w : PlainSetting) (s : WorldState) (go code op : ℕ) (ns : List ℕ) (body : PlainCore) (self : same_label (label go) (label go) ≡ true) (other : nat_eq op APPLY ≡ false) (yes_text : has_text op ≡ true) where
  -- the procedure of the `letrec` was called
  pub loop-back : (args : List Value) (v : Value) (t : WorldState)
      → code_at w.codes (text_number op) ≡ Some (text_code op (loop_text go code ns body (var go)))
      → lookup (same_label (label go)) (one_home (label go) (code_no code) (home_place w s go code)) ≡ Some (Some (value.Closure (code_no code) (home_place w s go code)))
      → Calls w (call_to (value.Prim (record { 0 = op })) args) s v t → Calls w (call_to (value.Closure (code_no code) (home_place w s go code)) args) (ready w s go code) v t
  loop-back args v t known found h =
      closure-called w (code_no code) (home_place w s go code) args (ready w s go code) v t
      (text-back w (record { 0 = op }) args s (ready w s go code) t (text_code op (loop_text go code ns body (var go))) (loop_text go code ns body (var go)) (code_no code) (home_place w s go code) v other yes_text known refl
      (letrec-is w (label go) self (code_no code) (one_case ns None body) true (var go) (next_place s) (outside w s go code) (value.Closure (code_no code) (home_place w s go code)) (ready w s go code)
      (variable-is w (label go) (home_place w s go code) (ready w s go code) (value.Closure (code_no code) (home_place w s go code)) 1 (in_cell (ready-home w s go code).is found) (omega arith))) h)
