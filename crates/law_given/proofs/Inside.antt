-- Inside a call of a procedure whose cell of variables lies in that of a `letrec`.
use Rattle.std.proofs.Common.{◌≡◌, ℕ, List, [], ◌∷◌, ◌++◌, Option, Some, None, Bool, true, false, ap, ◌∙◌, arith, slice_get, if◌then◌else◌}
use Rattle.std.specs.Map.{lookup}
use Rattle.base_data.specs.declared.name.CodeNo.{CodeNo}
use Rattle.base_data.specs.declared.name.Label.{Label}
use Rattle.base_region.specs.declared.region.Place.{Place}
use Rattle.base_region.proofs.Laws.{slice_get-added}
use Rattle.core_language.specs.Core.{PlainCore, variable, procedure, letrec, PlainCases, no_init, init}
use Rattle.core_language.specs.Labels.{same_label}
use Rattle.eval_value.specs.declared.value.Value.{Value}
use Rattle.eval_value.specs.declared.value.Value.TheVariants as value
use Rattle.eval_value.specs.declared.cell.Cell.{Cell}
use Rattle.eval_value.specs.declared.cell.Cell.TheVariants as cell
use Rattle.eval_code.specs.Meaning.{PlainLetrec, eval_of, at_once}
use Rattle.eval_code.specs.Setting.{PlainSetting}
use Rattle.eval_code.specs.State.{WorldState, store, next_place, with_cell}
use Rattle.eval_code.specs.Variables.{Entries}
use Rattle.law_eval.specs.Kept.{LaterWorld}
use Rattle.law_lists.proofs.RunLemmas.{stay_added}
use Rattle.law_given.proofs.Giving.{gives-same, gives-then, Evaluates, evaluates-step, procedure-is}
use Rattle.law_given.proofs.Looking.{get-below, later-stay, in_cell, in_parent, variable-is, assigned-last}

-- the cell of a call at q has these variables, and lies in the cell at p, which has those
pub record Inside (cells : List Cell) (q : Place) (es : Entries) (p : Place) (hs : Entries) : Type 0 where
  pub frame : slice_get cells q.0 ≡ Some (cell.Scope es (Some p))
  pub around : Option Place
  pub home : slice_get cells p.0 ≡ Some (cell.Scope hs around)

-- the cell of a `letrec`
pub record Home (cells : List Cell) (p : Place) (hs : Entries) : Type 0 where
  pub around : Option Place
  pub is : slice_get cells p.0 ≡ Some (cell.Scope hs around)

pub home-later : (s t : WorldState) → LaterWorld s t → (p : Place) (home : Entries) → Home s.cells p home → Home t.cells p home
home-later s t k p home h = record { around = h.around; is = later-stay s t k p.0 (cell.Scope home h.around) h.is }

pub inside-later : (s t : WorldState) → LaterWorld s t → (q : Place) (es : Entries) (p : Place) (home : Entries) → Inside s.cells q es p home → Inside t.cells q es p home
inside-later s t k q es p home h = record {
  frame = later-stay s t k q.0 (cell.Scope es (Some p)) h.frame;
  around = h.around;
  home = later-stay s t k p.0 (cell.Scope home h.around) h.home;
}

-- the cell of a call that begins
pub entered-inside : (s : WorldState) (es : Entries) (p : Place) (home : Entries) → Home s.cells p home → Inside (s.cells ++ cell.Scope es (Some p) ∷ []) (next_place s) es p home
entered-inside s es p home h = record {
  frame = slice_get-added s.cells (cell.Scope es (Some p));
  around = h.around;
  home = stay_added s.cells (cell.Scope es (Some p)) p.0 (cell.Scope home h.around) h.is;
}

module _ (w : PlainSetting) (s : WorldState) (q : Place) (es : Entries) (p : Place) (home : Entries) (h : Inside s.cells q es p home) where
  -- a variable of the call
  pub own : (l : Label) (v : Value) → lookup (same_label l) es ≡ Some (Some v) → Evaluates w (variable l) q s v s
  own l v e = variable-is w l q s v 1 (in_cell h.frame e) (omega arith)

  -- one of the `letrec`
  pub outer : (l : Label) (v : Value) → lookup (same_label l) es ≡ None → lookup (same_label l) home ≡ Some (Some v) → Evaluates w (variable l) q s v s
  outer l v none e =
      let some = get-below s.cells q.0 (cell.Scope es (Some p)) h.frame in
      variable-is w l q s v 2 (in_parent h.frame none (in_cell h.home e)) (omega (arith, some))

-- A `letrec` of one procedure.

abbrev pub one_home : Label → CodeNo → Place → Entries
one_home l number p = (l, Some (value.Closure number p)) ∷ []

module _ (w : PlainSetting) (l : Label) (self : same_label l l ≡ true) (number : CodeNo) (cs : PlainCases) (plain : Bool) (body : PlainCore) (scope : Place) (s : WorldState) where
  -- the place of its cell, and the state in which its body is evaluated
  abbrev pub letrec_place : Place
  letrec_place = next_place s

  abbrev pub letrec_state : WorldState
  letrec_state = with_cell (cell.Scope (one_home l number (next_place s)) (Some scope)) s

  pub letrec-is : (v : Value) (t : WorldState) → Evaluates w body (next_place s) letrec_state v t → Evaluates w (letrec false (init l (procedure number cs plain) no_init) body) scope s v t
  letrec-is v t h =
      evaluates-step w (letrec false (init l (procedure number cs plain) no_init) body) scope s v t
      (gives-then (eval_of w (procedure number cs plain) p begun) (λ x. at_once w (eval_of w) no_init here (x ∷ [])) x begun v t
      (procedure-is w number cs plain p begun)
      (gives-same (eval_of w body p letrec_state) (λ n. at_once w (eval_of w) no_init here (x ∷ []) begun n) v t by h))
    where
      p : Place
      p = next_place s

      x : Value
      x = value.Closure number p

      here : PlainLetrec
      here = record { variables = init l (procedure number cs plain) no_init; body = body; scope = p }

      begun : WorldState
      begun = with_cell (cell.Scope ((l, None) ∷ []) (Some scope)) s

      by : (n : ℕ) → at_once w (eval_of w) no_init here (x ∷ []) begun n ≡ eval_of w body p letrec_state n
      by n =
          ap (λ cells. eval_of w body p (store cells s.names) n) (assigned-last s.cells (cell.Scope ((l, None) ∷ []) (Some scope)) l x)
          ∙ ap (λ b. eval_of w body p (with_cell (cell.Scope (if b then (l, Some x) ∷ [] else (l, None) ∷ []) (Some scope)) s) n) self
