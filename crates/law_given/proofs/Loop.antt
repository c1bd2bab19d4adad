-- A loop of a text along one list: a procedure of a procedure and a list that calls itself on the rest of the list.
use Rattle.std.proofs.Common.{◌≡◌, ℕ, [], ◌∷◌, Some, None, true, false, Ok, refl, ap}
use Rattle.std.specs.Map.{lookup}
use Rattle.base_region.specs.declared.region.Place.{Place}
use Rattle.core_language.specs.Core.{PlainCore}
use Rattle.core_language.specs.Labels.{same_label}
use Rattle.eval_value.specs.declared.value.Value.{Value}
use Rattle.eval_value.specs.declared.value.Value.TheVariants as value
use Rattle.eval_value.specs.declared.cell.Cell.TheVariants as cell
use Rattle.eval_prims.specs.Answers.{truth}
use Rattle.eval_prims.specs.Chains.{pair_of, is_nil}
use Rattle.eval_prims.specs.Lists.{nil}
use Rattle.eval_code.specs.Codes.{code_at, procedure_code}
use Rattle.eval_code.specs.Setting.{PlainSetting}
use Rattle.eval_code.specs.State.{WorldState, next_place, with_cell}
use Rattle.eval_code.specs.Variables.{Entries}
use Rattle.law_eval.specs.Kept.{LaterWorld}
use Rattle.law_eval.proofs.Keeping.{later_with}
use Rattle.law_lists.proofs.RunLemmas.{pair_still}
use Rattle.law_given.specs.Calls.{CallEnd, call_to, CallEnds, Calls}
use Rattle.law_given.specs.Codes.{label, code_no, var, formals, one_case, app, car, cdr, is_null}
use Rattle.law_given.proofs.Giving.{Evaluates, ExpressionEnds, call-one-ends, call-two-ends}
use Rattle.law_given.proofs.Looking.{later-stay}
use Rattle.law_given.proofs.Calling.{closure-ends, case-ends}
use Rattle.law_given.proofs.Inside.{Inside, Home, inside-later, entered-inside, own, outer}
use Rattle.law_given.proofs.Primitives.{pair-not-nil, null-is, car-is, cdr-is}
use Rattle.law_given.proofs.MapOne.{pair-later}

-- the variables of a call: the procedure and the list
abbrev pub two_vars : ℕ → ℕ → Value → Value → Entries
two_vars m n f l = (label m, Some f) ∷ (label n, Some l) ∷ []

-- the names of a loop: each is found where it is bound
pub record Names (go m n : ℕ) (home : Entries) (g : Value) : Type 0 where
  pub procedure : (f l : Value) → lookup (same_label (label m)) (two_vars m n f l) ≡ Some (Some f)
  pub list : (f l : Value) → lookup (same_label (label n)) (two_vars m n f l) ≡ Some (Some l)
  pub no_loop : (f l : Value) → lookup (same_label (label go)) (two_vars m n f l) ≡ None
  pub loop : lookup (same_label (label go)) home ≡ Some (Some g)

module _ (w : PlainSetting) (code go m n : ℕ) (body : PlainCore) (known : code_at w.codes (code_no code) ≡ Some (procedure_code (code_no code) (one_case (m ∷ n ∷ []) None body) true))
    (p : Place) (home : Entries) (names : Names go m n home (value.Closure (code_no code) p)) (f l : Value) (s : WorldState) (round : Home s.cells p home) where
  abbrev g : Value
  g = value.Closure (code_no code) p

  -- the state in which the body is evaluated, at the place of the call's cell
  abbrev pub entered : WorldState
  entered = with_cell (cell.Scope (two_vars m n f l) (Some p)) s

  abbrev q : Place
  q = next_place s

  pub loop-ends : (r : CallEnd) (t : WorldState) → ExpressionEnds w body q entered r t → CallEnds w (call_to g (f ∷ l ∷ [])) s r t
  loop-ends r t h =
      closure-ends w (code_no code) p (f ∷ l ∷ []) s r t
      (case-ends w (code_no code) p (f ∷ l ∷ []) s (procedure_code (code_no code) (one_case (m ∷ n ∷ []) None body) true) (formals (m ∷ n ∷ []) None) body r t known refl h)

  pub loop-called : (v : Value) (t : WorldState) → Evaluates w body q entered v t → Calls w (call_to g (f ∷ l ∷ [])) s v t
  loop-called v t h = loop-ends (Ok v) t h

  pub entered-later : LaterWorld s entered
  entered-later = later_with s (cell.Scope (two_vars m n f l) (Some p))

  module _ (u : WorldState) (behind : LaterWorld entered u) where
    inside : Inside u.cells q (two_vars m n f l) p home
    inside = inside-later entered u behind q (two_vars m n f l) p home (entered-inside s (two_vars m n f l) p home round)

    pub procedure-read : Evaluates w (var m) q u f u
    procedure-read = own w u q (two_vars m n f l) p home inside (label m) f (names.procedure f l)

    pub list-read : Evaluates w (var n) q u l u
    list-read = own w u q (two_vars m n f l) p home inside (label n) l (names.list f l)

    pub is-null : l ≡ nil → Evaluates w (is_null (var n)) q u (truth true) u
    is-null e = null-is w (var n) q u u l list-read true (ap (λ x. is_nil x) e)

    module _ (x d : Value) (pair : pair_of s.cells l ≡ Some (x, d)) where
      pair-then : pair_of u.cells l ≡ Some (x, d)
      pair-then = pair_still entered.cells u.cells (later-stay entered u behind) l x d (pair-later s (cell.Scope (two_vars m n f l) (Some p)) l x d pair)

      pub not-null : Evaluates w (is_null (var n)) q u (truth false) u
      not-null = null-is w (var n) q u u l list-read false (pair-not-nil u.cells l x d pair-then)

      pub first-read : Evaluates w (car (var n)) q u x u
      first-read = car-is w (var n) q u u l list-read x d pair-then

      pub rest-read : Evaluates w (cdr (var n)) q u d u
      rest-read = cdr-is w (var n) q u u l list-read x d pair-then

      -- the call on the first element
      pub first-ends : (r : CallEnd) (t : WorldState) → CallEnds w (call_to f (x ∷ [])) u r t → ExpressionEnds w (app (var m) (car (var n) ∷ [])) q u r t
      first-ends r t h = call-one-ends w (var m) (car (var n)) q u u u t f x r procedure-read first-read h

      pub first-called : (y : Value) (t : WorldState) → Calls w (call_to f (x ∷ [])) u y t → Evaluates w (app (var m) (car (var n) ∷ [])) q u y t
      first-called y t h = first-ends (Ok y) t h

      -- the loop along the rest
      pub again-ends : (r : CallEnd) (t : WorldState) → CallEnds w (call_to g (f ∷ d ∷ [])) u r t → ExpressionEnds w (app (var go) (var m ∷ cdr (var n) ∷ [])) q u r t
      again-ends r t h =
          call-two-ends w (var go) (var m) (cdr (var n)) q u u u u t g f d r
          (outer w u q (two_vars m n f l) p home inside (label go) g (names.no_loop f l) names.loop) procedure-read rest-read h

      pub loop-again : (v : Value) (t : WorldState) → Calls w (call_to g (f ∷ d ∷ [])) u v t → Evaluates w (app (var go) (var m ∷ cdr (var n) ∷ [])) q u v t
      loop-again v t h = again-ends (Ok v) t h
