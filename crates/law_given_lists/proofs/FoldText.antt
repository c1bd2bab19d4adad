-- How the text of a fold begins its loop: on a procedure, a value and a list of the lists.
use Rattle.std.proofs.Common.{◌≡◌, ℕ, List, [], ◌∷◌, Some, None, true, false, length, refl, ap, nat_eq, if◌then◌else◌}
use Rattle.std.specs.Map.{lookup}
use Rattle.base_data.specs.declared.op.names.TheConstants.{APPLY}
use Rattle.base_region.specs.declared.region.Place.{Place}
use Rattle.core_language.specs.Core.{PlainCore}
use Rattle.core_language.specs.Labels.{same_label}
use Rattle.eval_value.specs.declared.value.Value.{Value}
use Rattle.eval_value.specs.declared.value.Value.TheVariants as value
use Rattle.eval_value.specs.declared.cell.Cell.TheVariants as cell
use Rattle.eval_code.specs.Codes.{procedure_code}
use Rattle.eval_code.specs.Procedures.{has_text}
use Rattle.eval_code.specs.Setting.{PlainSetting}
use Rattle.eval_code.specs.State.{WorldState, next_place, with_cell}
use Rattle.eval_code.specs.Variables.{Entries}
use Rattle.law_eval.specs.Kept.{LaterWorld}
use Rattle.law_eval.proofs.Keeping.{later_then, later_with}
use Rattle.law_lists.specs.Runs.{IsList}
use Rattle.law_given.specs.Calls.{CallEnd, call_to, CallEnds}
use Rattle.law_given.specs.Codes.{label, code_no, var, formals, one_case, lambda, cons, text_code, enter_fold}
use Rattle.law_given.proofs.Giving.{procedure-is}
use Rattle.law_given.proofs.Inside.{Inside, Home, one_home, entered-inside, own, outer, letrec-is}
use Rattle.law_given.proofs.Knows.{HasText, HasCase}
use Rattle.law_given.proofs.Later.{list-later}
use Rattle.law_given.proofs.Looking.{later-stay}
use Rattle.law_given.proofs.LoopText.{loop_text, outside, home_place, ready, ready-home, ready-later}
use Rattle.law_given.proofs.MapOne.{list-more}
use Rattle.law_given.proofs.Primitives.{next_pair, cons-is}
use Rattle.law_given_lists.proofs.RowLoop.{rest_list, with_rest, rest-later, rest-is, three-and-more}
use Rattle.law_given_lists.proofs.Splitting.{Iff, iff-then}
use Rattle.law_given_lists.proofs.Steps.{three-iff, case-iff, text-iff}

-- the variables of the procedure that the text gives
abbrev pub four_vars : ℕ → ℕ → ℕ → ℕ → Value → Value → Value → Value → Entries
four_vars a b c d f z l ls = (label a, Some f) ∷ (label b, Some z) ∷ (label c, Some l) ∷ (label d, Some ls) ∷ []

pub record FoldNames (go a b c d : ℕ) (g : Value) : Type 0 where
  pub procedure : (f z l ls : Value) → lookup (same_label (label a)) (four_vars a b c d f z l ls) ≡ Some (Some f)
  pub start : (f z l ls : Value) → lookup (same_label (label b)) (four_vars a b c d f z l ls) ≡ Some (Some z)
  pub list : (f z l ls : Value) → lookup (same_label (label c)) (four_vars a b c d f z l ls) ≡ Some (Some l)
  pub lists : (f z l ls : Value) → lookup (same_label (label d)) (four_vars a b c d f z l ls) ≡ Some (Some ls)
  pub no_loop : (f z l ls : Value) → lookup (same_label (label go)) (four_vars a b c d f z l ls) ≡ None
  pub loop : lookup (same_label (label go)) ((label go, Some g) ∷ []) ≡ Some (Some g)

module _ (w : PlainSetting) (s : WorldState) (go code : ℕ) (op k a b c d : ℕ) (m n o : ℕ) (body : PlainCore)
    (self : same_label (label go) (label go) ≡ true) (other : nat_eq op APPLY ≡ false) (yes_text : has_text op ≡ true)
    (names : FoldNames go a b c d (value.Closure (code_no code) (home_place w s go code)))
    (text : HasText w.codes op (loop_text go code (m ∷ n ∷ o ∷ []) body (lambda k (a ∷ b ∷ c ∷ []) (Some d) (enter_fold go a b c d))))
    (known : HasCase w.codes k (a ∷ b ∷ c ∷ []) (Some d) (enter_fold go a b c d)) (f z l : Value) (more : List Value) where
  abbrev home_at : Place
  home_at = home_place w s go code

  abbrev home_entries : Entries
  home_entries = one_home (label go) (code_no code) home_at

  abbrev at_ready : WorldState
  at_ready = ready w s go code

  abbrev kept : WorldState
  kept = with_rest more at_ready

  abbrev entries : Entries
  entries = four_vars a b c d f z l (rest_list more at_ready)

  abbrev inner : WorldState
  inner = with_cell (cell.Scope entries (Some home_at)) kept

  abbrev r : Place
  r = next_place kept

  -- the list of the lists, and the state in which the loop is called on it
  abbrev pub lists_value : Value
  lists_value = next_pair w inner

  abbrev pub loop_state : WorldState
  loop_state = with_cell (cell.Pair l (rest_list more at_ready)) inner

  kept-inner : LaterWorld kept inner
  kept-inner = later_with kept (cell.Scope entries (Some home_at))

  inner-loop : LaterWorld inner loop_state
  inner-loop = later_with inner (cell.Pair l (rest_list more at_ready))

  pub loop-later : LaterWorld s loop_state
  loop-later =
      later_then s at_ready loop_state (ready-later w s go code)
      (later_then at_ready kept loop_state (rest-later more at_ready) (later_then kept inner loop_state kept-inner inner-loop))

  home-kept : Home kept.cells home_at home_entries
  home-kept =
      let h = ready-home w s go code in
      record { around = h.around; is = later-stay at_ready kept (rest-later more at_ready) home_at.0 (cell.Scope home_entries h.around) h.is }

  inside : Inside inner.cells r entries home_at home_entries
  inside = entered-inside kept entries home_at home_entries home-kept

  pub loop-home : Home loop_state.cells home_at home_entries
  loop-home = record { around = inside.around; is = later-stay inner loop_state inner-loop home_at.0 (cell.Scope home_entries inside.around) inside.home }

  pub lists-are : IsList loop_state.cells (l ∷ more) lists_value
  lists-are = list-more inner.cells l (rest_list more at_ready) more (list-later kept inner kept-inner more (rest_list more at_ready) (rest-is more at_ready))

  pub entered-iff : (e : CallEnd) (t : WorldState) → Iff (CallEnds w (call_to (value.Prim (record { 0 = op })) (f ∷ z ∷ l ∷ more)) s e t) (CallEnds w (call_to (value.Closure (code_no code) home_at) (f ∷ z ∷ lists_value ∷ [])) loop_state e t)
  entered-iff e t =
      iff-then
      (text-iff w (record { 0 = op }) (f ∷ z ∷ l ∷ more) s at_ready t (text_code op (loop_text go code (m ∷ n ∷ o ∷ []) body given)) (loop_text go code (m ∷ n ∷ o ∷ []) body given) (code_no k) home_at e other yes_text text refl
      (letrec-is w (label go) self (code_no code) (one_case (m ∷ n ∷ o ∷ []) None body) true given (next_place s) (outside w s go code) (value.Closure (code_no k) home_at) at_ready
      (procedure-is w (code_no k) (one_case (a ∷ b ∷ c ∷ []) (Some d) (enter_fold go a b c d)) true home_at at_ready)))
      (iff-then
      (case-iff w (code_no k) home_at (f ∷ z ∷ l ∷ more) at_ready (procedure_code (code_no k) (one_case (a ∷ b ∷ c ∷ []) (Some d) (enter_fold go a b c d)) true) (formals (a ∷ b ∷ c ∷ []) (Some d)) (enter_fold go a b c d) e t known
      (ap (λ h. if h then Some (formals (a ∷ b ∷ c ∷ []) (Some d), enter_fold go a b c d) else None) (three-and-more (length more))))
      (three-iff w (var go) (var a) (var b) (cons (var c) (var d)) r inner inner inner inner loop_state t (value.Closure (code_no code) home_at) f z lists_value e
      (outer w inner r entries home_at home_entries inside (label go) (value.Closure (code_no code) home_at) (names.no_loop f z l (rest_list more at_ready)) names.loop)
      (own w inner r entries home_at home_entries inside (label a) f (names.procedure f z l (rest_list more at_ready)))
      (own w inner r entries home_at home_entries inside (label b) z (names.start f z l (rest_list more at_ready)))
      (cons-is w (var c) r inner inner l (own w inner r entries home_at home_entries inside (label c) l (names.list f z l (rest_list more at_ready))) (var d) (rest_list more at_ready) inner
      (own w inner r entries home_at home_entries inside (label d) (rest_list more at_ready) (names.lists f z l (rest_list more at_ready))))))
    where
      given : PlainCore
      given = lambda k (a ∷ b ∷ c ∷ []) (Some d) (enter_fold go a b c d)
