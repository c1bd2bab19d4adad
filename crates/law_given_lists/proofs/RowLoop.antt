-- A loop of a text along a list of lists: a procedure of a procedure and that list, and how its text begins it.
use Rattle.std.proofs.Common.{◌≡◌, ℕ, suc, List, [], ◌∷◌, Some, None, Bool, true, false, length, refl, ap, nat_eq, arith, if◌then◌else◌}
use Rattle.std.specs.Prelude.{nat_le}
use Rattle.std.specs.Map.{lookup}
use Rattle.std.proofs.lemmas.Bool.{le-leb}
use Rattle.base_data.specs.declared.op.names.TheConstants.{APPLY}
use Rattle.base_data.specs.declared.op.names.TheConstants as ops
use Rattle.base_region.specs.declared.region.Place.{Place}
use Rattle.core_language.specs.Core.{PlainCore}
use Rattle.core_language.specs.Labels.{same_label}
use Rattle.eval_value.specs.FromDatum.{pairs_stored}
use Rattle.eval_value.specs.declared.value.Value.{Value}
use Rattle.eval_value.specs.declared.value.Value.TheVariants as value
use Rattle.eval_value.specs.declared.cell.Cell.TheVariants as cell
use Rattle.eval_value.proofs.Stored.{pairs_keep}
use Rattle.eval_prims.specs.Answers.{truth}
use Rattle.eval_prims.specs.Chains.{pair_of, is_nil}
use Rattle.eval_prims.specs.Lists.{nil}
use Rattle.eval_code.specs.Codes.{procedure_code}
use Rattle.eval_code.specs.Procedures.{has_text}
use Rattle.eval_code.specs.Setting.{PlainSetting}
use Rattle.eval_code.specs.State.{WorldState, store, next_place, with_cell}
use Rattle.eval_code.specs.Variables.{Entries}
use Rattle.law_eval.specs.Kept.{LaterWorld}
use Rattle.law_eval.proofs.Keeping.{later_then, later_with}
use Rattle.law_lists.specs.Runs.{IsList}
use Rattle.law_lists.proofs.RunLemmas.{stored_runs}
use Rattle.law_given.specs.Calls.{CallEnd, call_to, CallEnds}
use Rattle.law_given.specs.Codes.{label, code_no, var, formals, one_case, lambda, app, car, cdr, cons, is_null, first_is_null, cdrs, on_cars, text_code}
use Rattle.law_given.proofs.Giving.{Evaluates, ExpressionEnds, procedure-is}
use Rattle.law_given.proofs.Inside.{Inside, Home, one_home, inside-later, entered-inside, own, outer, letrec-is}
use Rattle.law_given.proofs.Knows.{Knows, HasText, HasCase}
use Rattle.law_given.proofs.Later.{list-later}
use Rattle.law_given.proofs.Looking.{later-stay}
use Rattle.law_given.proofs.Loop as loop
use Rattle.law_given.proofs.Loop.{Names, two_vars}
use Rattle.law_given.proofs.LoopText.{loop_text, outside, home_place, ready, ready-home, ready-later}
use Rattle.law_given.proofs.MapOne.{list-some, list-more}
use Rattle.law_given.proofs.Primitives.{next_pair, null-is, cdr-is, cons-is}
use Rattle.law_given_lists.specs.Rows.{Pairs}
use Rattle.law_given_lists.proofs.RowLemmas.{pairs-later}
use Rattle.law_given_lists.proofs.RowParts.{Listed, cars-given, cdrs-given, cars-later, cdrs-later, cdrs-is, on-cars-iff}
use Rattle.law_given_lists.proofs.Splitting.{Iff, iff-then}
use Rattle.law_given_lists.proofs.Steps.{two-iff, closure-iff, case-iff, text-iff}

module _ (w : PlainSetting) (knows : Knows w.codes) (code go m n : ℕ) (body : PlainCore) (known : HasCase w.codes code (m ∷ n ∷ []) None body)
    (p : Place) (home : Entries) (names : Names go m n home (value.Closure (code_no code) p)) (f lv : Value) (s : WorldState) (round : Home s.cells p home) where
  abbrev q : Place
  q = next_place s

  abbrev pub at : WorldState
  at = loop.entered w code go m n body known p home names f lv s round

  -- the call of the loop, by its body
  pub body-iff : (r : CallEnd) (t : WorldState) → Iff (CallEnds w (call_to (value.Closure (code_no code) p) (f ∷ lv ∷ [])) s r t) (ExpressionEnds w body q at r t)
  body-iff r t =
      iff-then (closure-iff w (code_no code) p (f ∷ lv ∷ []) s r t)
      (case-iff w (code_no code) p (f ∷ lv ∷ []) s (procedure_code (code_no code) (one_case (m ∷ n ∷ []) None body) true) (formals (m ∷ n ∷ []) None) body r t known refl)

  module _ (l : Value) (more : List Value) (lists : IsList s.cells (l ∷ more) lv) (u : WorldState) (behind : LaterWorld at u) where
    far : LaterWorld s u
    far = later_then s at u (later_with s (cell.Scope (two_vars m n f lv) (Some p))) behind

    pub lists-then : IsList u.cells (l ∷ more) lv
    lists-then = list-later s u far (l ∷ more) lv lists

    pub first-list : Evaluates w (car (var n)) q u l u
    first-list = let c = list-some lists in loop.first-read w code go m n body known p home names f lv s round u behind l c.0 c.1

    pub first-null : (b : Bool) → is_nil l ≡ b → Evaluates w (first_is_null (var n)) q u (truth b) u
    first-null b e = null-is w (car (var n)) q u u l first-list b e

    pub rest-null : (x d : Value) → pair_of u.cells l ≡ Some (x, d) → (b : Bool) → is_nil d ≡ b → Evaluates w (is_null (cdr (car (var n)))) q u (truth b) u
    rest-null x d pair b e = null-is w (cdr (car (var n))) q u u d (cdr-is w (car (var n)) q u u l first-list x d pair) b e

    module _ (row rest : List Value) (pairs : Pairs s.cells row rest (l ∷ more)) where
      pub pairs-then : Pairs u.cells row rest (l ∷ more)
      pairs-then = pairs-later s u far pairs

      abbrev pub asked : Listed w (value.Prim (record { 0 = ops.MAP })) (value.Prim (record { 0 = ops.CAR }) ∷ lv ∷ []) u row
      asked = cars-given w knows u lv (l ∷ more) lists-then row rest pairs-then

      pub asked-later : LaterWorld u asked.state
      asked-later = cars-later w knows u lv (l ∷ more) lists-then row rest pairs-then

      abbrev pub left : Listed w (value.Prim (record { 0 = ops.MAP })) (value.Prim (record { 0 = ops.CDR }) ∷ lv ∷ []) u rest
      left = cdrs-given w knows u lv (l ∷ more) lists-then row rest pairs-then

      pub left-later : LaterWorld u left.state
      left-later = cdrs-later w knows u lv (l ∷ more) lists-then row rest pairs-then

      -- f is called on the row
      pub ask-iff : (r : CallEnd) (t : WorldState) → Iff (ExpressionEnds w (on_cars (var m) (var n)) q u r t) (CallEnds w (call_to f row) asked.state r t)
      ask-iff r t =
          on-cars-iff w knows u lv (l ∷ more) lists-then row rest pairs-then (var n) q (loop.list-read w code go m n body known p home names f lv s round u behind) (var m) f
          (loop.procedure-read w code go m n body known p home names f lv s round u behind) r t

      -- the loop goes on along the rests
      pub again-iff : (r : CallEnd) (t : WorldState) → Iff (ExpressionEnds w (app (var go) (var m ∷ cdrs (var n) ∷ [])) q u r t) (CallEnds w (call_to (value.Closure (code_no code) p) (f ∷ left.value ∷ [])) left.state r t)
      again-iff r t =
          two-iff w (var go) (var m) (cdrs (var n)) q u u u left.state t (value.Closure (code_no code) p) f left.value r
          (outer w u q (two_vars m n f lv) p home (inside-later at u behind q (two_vars m n f lv) p home (entered-inside s (two_vars m n f lv) p home round)) (label go) (value.Closure (code_no code) p) (names.no_loop f lv) names.loop)
          (loop.procedure-read w code go m n body known p home names f lv s round u behind)
          (cdrs-is w knows u lv (l ∷ more) lists-then row rest pairs-then (var n) q (loop.list-read w code go m n body known p home names f lv s round u behind))

-- the list of the arguments behind the formals, and the cells with it

abbrev pub rest_list : List Value → WorldState → Value
rest_list more s = (pairs_stored more (nil, s.cells)).0

abbrev pub with_rest : List Value → WorldState → WorldState
with_rest more s = store (pairs_stored more (nil, s.cells)).1 s.names

pub rest-later : (more : List Value) (s : WorldState) → LaterWorld s (with_rest more s)
rest-later more s = record { cells = pairs_keep more (nil, s.cells); library = refl; names = omega arith }

pub rest-is : (more : List Value) (s : WorldState) → IsList (with_rest more s).cells more (rest_list more s)
rest-is more s = stored_runs more nil s.cells

-- enough arguments for two formals and for three
pub two-and-more : (n : ℕ) → nat_le 2 (suc (suc n)) ≡ true
two-and-more n = le-leb 2 (suc (suc n)) (omega arith)

pub three-and-more : (n : ℕ) → nat_le 3 (suc (suc (suc n))) ≡ true
three-and-more n = le-leb 3 (suc (suc (suc n))) (omega arith)

-- the variables of the procedure that a text gives
abbrev pub three_vars : ℕ → ℕ → ℕ → Value → Value → Value → Entries
three_vars a b c f l ls = (label a, Some f) ∷ (label b, Some l) ∷ (label c, Some ls) ∷ []

pub record EnterNames (go a b c : ℕ) (g : Value) : Type 0 where
  pub procedure : (f l ls : Value) → lookup (same_label (label a)) (three_vars a b c f l ls) ≡ Some (Some f)
  pub list : (f l ls : Value) → lookup (same_label (label b)) (three_vars a b c f l ls) ≡ Some (Some l)
  pub lists : (f l ls : Value) → lookup (same_label (label c)) (three_vars a b c f l ls) ≡ Some (Some ls)
  pub no_loop : (f l ls : Value) → lookup (same_label (label go)) (three_vars a b c f l ls) ≡ None
  pub loop : lookup (same_label (label go)) ((label go, Some g) ∷ []) ≡ Some (Some g)

-- the text of a loop along a list of lists, called on a procedure and lists
module _ (w : PlainSetting) (s : WorldState) (go code : ℕ) (op k a b c : ℕ) (m n : ℕ) (body : PlainCore)
    (self : same_label (label go) (label go) ≡ true) (other : nat_eq op APPLY ≡ false) (yes_text : has_text op ≡ true)
    (names : EnterNames go a b c (value.Closure (code_no code) (home_place w s go code)))
    (text : HasText w.codes op (loop_text go code (m ∷ n ∷ []) body (lambda k (a ∷ b ∷ []) (Some c) (app (var go) (var a ∷ cons (var b) (var c) ∷ [])))))
    (known : HasCase w.codes k (a ∷ b ∷ []) (Some c) (app (var go) (var a ∷ cons (var b) (var c) ∷ []))) (f l : Value) (more : List Value) where
  abbrev home_at : Place
  home_at = home_place w s go code

  abbrev home_entries : Entries
  home_entries = one_home (label go) (code_no code) home_at

  abbrev at_ready : WorldState
  at_ready = ready w s go code

  abbrev kept : WorldState
  kept = with_rest more at_ready

  abbrev entries : Entries
  entries = three_vars a b c f l (rest_list more at_ready)

  abbrev inner : WorldState
  inner = with_cell (cell.Scope entries (Some home_at)) kept

  abbrev r : Place
  r = next_place kept

  -- the list of the lists, and the state in which the loop is called on it
  abbrev pub lists_value : Value
  lists_value = next_pair w inner

  abbrev pub loop_state : WorldState
  loop_state = with_cell (cell.Pair l (rest_list more at_ready)) inner

  kept-inner : LaterWorld kept inner
  kept-inner = later_with kept (cell.Scope entries (Some home_at))

  inner-loop : LaterWorld inner loop_state
  inner-loop = later_with inner (cell.Pair l (rest_list more at_ready))

  pub loop-later : LaterWorld s loop_state
  loop-later =
      later_then s at_ready loop_state (ready-later w s go code)
      (later_then at_ready kept loop_state (rest-later more at_ready) (later_then kept inner loop_state kept-inner inner-loop))

  home-kept : Home kept.cells home_at home_entries
  home-kept =
      let h = ready-home w s go code in
      record { around = h.around; is = later-stay at_ready kept (rest-later more at_ready) home_at.0 (cell.Scope home_entries h.around) h.is }

  inside : Inside inner.cells r entries home_at home_entries
  inside = entered-inside kept entries home_at home_entries home-kept

  pub loop-home : Home loop_state.cells home_at home_entries
  loop-home = record { around = inside.around; is = later-stay inner loop_state inner-loop home_at.0 (cell.Scope home_entries inside.around) inside.home }

  pub lists-are : IsList loop_state.cells (l ∷ more) lists_value
  lists-are = list-more inner.cells l (rest_list more at_ready) more (list-later kept inner kept-inner more (rest_list more at_ready) (rest-is more at_ready))

  pub entered-iff : (e : CallEnd) (t : WorldState) → Iff (CallEnds w (call_to (value.Prim (record { 0 = op })) (f ∷ l ∷ more)) s e t) (CallEnds w (call_to (value.Closure (code_no code) home_at) (f ∷ lists_value ∷ [])) loop_state e t)
  entered-iff e t =
      iff-then
      (text-iff w (record { 0 = op }) (f ∷ l ∷ more) s at_ready t (text_code op (loop_text go code (m ∷ n ∷ []) body given)) (loop_text go code (m ∷ n ∷ []) body given) (code_no k) home_at e other yes_text text refl
      (letrec-is w (label go) self (code_no code) (one_case (m ∷ n ∷ []) None body) true given (next_place s) (outside w s go code) (value.Closure (code_no k) home_at) at_ready
      (procedure-is w (code_no k) (one_case (a ∷ b ∷ []) (Some c) entering) true home_at at_ready)))
      (iff-then
      (case-iff w (code_no k) home_at (f ∷ l ∷ more) at_ready (procedure_code (code_no k) (one_case (a ∷ b ∷ []) (Some c) entering) true) (formals (a ∷ b ∷ []) (Some c)) entering e t known
      (ap (λ h. if h then Some (formals (a ∷ b ∷ []) (Some c), entering) else None) (two-and-more (length more))))
      (two-iff w (var go) (var a) (cons (var b) (var c)) r inner inner inner loop_state t (value.Closure (code_no code) home_at) f lists_value e
      (outer w inner r entries home_at home_entries inside (label go) (value.Closure (code_no code) home_at) (names.no_loop f l (rest_list more at_ready)) names.loop)
      (own w inner r entries home_at home_entries inside (label a) f (names.procedure f l (rest_list more at_ready)))
      (cons-is w (var b) r inner inner l (own w inner r entries home_at home_entries inside (label b) l (names.list f l (rest_list more at_ready))) (var c) (rest_list more at_ready) inner
      (own w inner r entries home_at home_entries inside (label c) (rest_list more at_ready) (names.lists f l (rest_list more at_ready))))))
    where
      entering : PlainCore
      entering = app (var go) (var a ∷ cons (var b) (var c) ∷ [])

      given : PlainCore
      given = lambda k (a ∷ b ∷ []) (Some c) entering
