-- Why an evaluation during expansion is at fault: each cause, with the kind and the words of its fault (R6RS 5.4, 11.4 and 11.15, libraries 12.4).
use Rattle.std.specs.Prelude.{◌≡◌, ◌≤◌, ◌-◌, ℕ, suc, false, List, [], ◌∷◌, ◌++◌, length, codes, decimal, Option, None, Some, slice_get, Err}
use Rattle.base_data.specs.Op.{op_text}
use Rattle.base_data.specs.declared.atom.Atom.TheVariants as a
use Rattle.base_data.specs.declared.fault.Bare.{Bare}
use Rattle.base_data.specs.declared.fault.FaultKind.TheVariants as kind
use Rattle.base_data.specs.declared.name.CodeNo.{CodeNo}
use Rattle.base_data.specs.declared.name.Label.{Label}
use Rattle.base_data.specs.declared.op.Op.{Op}
use Rattle.base_data.specs.declared.op.names.TheConstants as names
use Rattle.base_data.specs.declared.span.Span.{Span}
use Rattle.base_region.specs.declared.region.Place.{Place}
use Rattle.stx_tree.specs.declared.frame_row.FrameRow.{FrameRow}
use Rattle.stx_frames.specs.Listed.{rows_in}
use Rattle.core_language.specs.Core.{PlainCore, variable, assignment, instance, matching, PlainCases, no_case, case, PlainClauses, no_clause, clause, fended, PlainCode}
use Rattle.core_language.specs.Pattern.{PlainPattern}
use Rattle.core_language.specs.Template.{PlainTemplate}
use Rattle.core_language.specs.declared.formals.Formals.{Formals}
use Rattle.core_language.specs.declared.record.Line.{Line}
use Rattle.eval_value.specs.Bind.{PlainBind}
use Rattle.eval_value.specs.declared.cell.Cell.{Cell}
use Rattle.eval_value.specs.declared.cell.Cell.TheVariants as cell
use Rattle.eval_value.specs.declared.value.Value.{Value}
use Rattle.eval_value.specs.declared.value.Value.TheVariants as value
use Rattle.eval_pattern.specs.declared.columns.PatternBinds.{PatternBinds}
use Rattle.eval_prims.specs.Chains.{list_elements}
use Rattle.eval_prims.specs.Cost.{cost}
use Rattle.eval_code.specs.Codes.{code_at}
use Rattle.eval_code.specs.Instances.{Binds, match_of, cost_of, gathered}
use Rattle.eval_code.specs.Lines.{lines_from}
use Rattle.eval_code.specs.Meaning.{eval_of, applied}
use Rattle.eval_code.specs.Procedures.{has_text}
use Rattle.eval_code.specs.Setting.{PlainSetting}
use Rattle.eval_code.specs.State.{WorldState, done, faulted, next_place, with_cell}
use Rattle.eval_code.specs.Variables.{Entries}
use Rattle.law_eval_faults.specs.Refusals.{IsRefusedCall}

-- Variables.

-- the words that name a variable: the symbol of its first row, where it has one
pub data AreWords (l : Label) : List FrameRow → List (List ℕ) → Type 0 where
  no_row : AreWords l [] []
  this_row : {r : FrameRow} {rs : List FrameRow} → r.label ≡ l → AreWords l (r ∷ rs) (r.symbol ∷ [])
  another_row : {r : FrameRow} {rs : List FrameRow} {words : List (List ℕ)} → (r.label ≡ l → ⊥) → AreWords l rs words → AreWords l (r ∷ rs) words

-- among the variables of a cell, the first of the label has no value
pub data HasUnset (l : Label) : Entries → Type 0 where
  this_variable : {es : Entries} → HasUnset l ((l, None) ∷ es)
  another_variable : {m : Label} {o : Option Value} {es : Entries} → (m ≡ l → ⊥) → HasUnset l es → HasUnset l ((m, o) ∷ es)

abbrev pub HasNone : Label → Entries → Type 0
HasNone l [] = Unit {0}
HasNone l (e ∷ es) = (e.0 ≡ l → ⊥) × HasNone l es

-- From a cell of variables on outwards, through at most so many, the first variable of the label has no value.
pub data IsUnset (cells : List Cell) (l : Label) : ℕ → Place → Type 0 where
  in_cell : {n : ℕ} {place : Place} {es : Entries} {parent : Option Place} → slice_get cells place.0 ≡ Some (cell.Scope es parent)
      → HasUnset l es → IsUnset cells l (suc n) place
  round_variables : {n : ℕ} {place parent : Place} {es : Entries} → slice_get cells place.0 ≡ Some (cell.Scope es (Some parent))
      → HasNone l es → IsUnset cells l n parent → IsUnset cells l (suc n) place
  round_pattern : {n : ℕ} {place parent : Place} {bs : List (Label × PlainBind)}
      → slice_get cells place.0 ≡ Some (cell.Binds bs (Some parent)) → IsUnset cells l n parent → IsUnset cells l (suc n) place

-- Calls.

abbrev pub IsProcedure : Value → Type 0
IsProcedure (value.Closure code place) = Unit {0}
IsProcedure (value.Prim op) = Unit {0}
IsProcedure _ = ⊥

-- formals take so many arguments: as many as they require, or more where a variable takes the rest
abbrev pub AreFor : Option Label → ℕ → ℕ → Type 0
AreFor None required count = required ≡ count
AreFor (Some l) required count = required ≤ count

pub data NoneTakes (count : ℕ) : PlainCases → Type 0 where
  no_more : NoneTakes count no_case
  not_this : {f : Formals} {c : PlainCore} {cs : PlainCases} → (AreFor f.rest (length f.required) count → ⊥) → NoneTakes count cs
      → NoneTakes count (case f c cs)

-- `apply` without a procedure, with nothing else, or on what is no list
pub data IsBadApply (cells : List Cell) : List Value → Bare → Type 0 where
  without_arguments : IsBadApply cells [] (record { kind = kind.Arity; words = decimal 0 ∷ [] })
  with_one : {x : Value} → IsBadApply cells (x ∷ []) (record { kind = kind.Arity; words = decimal 1 ∷ [] })
  on_no_list : {x : Value} (xs : List Value) (last : Value) → list_elements cells last ≡ None
      → IsBadApply cells (x ∷ xs ++ last ∷ []) (record { kind = kind.PrimFault; words = op_text names.APPLY ∷ [] })

-- `syntax-case`

abbrev pub with_binds : PatternBinds → Place → WorldState → WorldState
with_binds f scope s = with_cell (cell.Binds f.binds (Some scope)) s

module _ (w : PlainSetting) (v : Value) (scope : Place) where
  -- Every clause is passed over: its pattern doesn't match, or its fender gives `#f`. To try a clause costs 1, and what its ellipses take is paid for
  -- before its fender.
  pub data ArePassed : PlainClauses → WorldState → ℕ → WorldState → ℕ → Type 0 where
    none_is_left : {s : WorldState} {n : ℕ} → ArePassed no_clause s n s n
    no_match : {p : PlainPattern} {output : PlainCore} {cs : PlainClauses} {s t : WorldState} {n m : ℕ}
        → match_of w.frames s.cells p v ≡ None → ArePassed cs s n t m → ArePassed (clause p output cs) s (suc n) t m
    no_match_before : {p : PlainPattern} {fender output : PlainCore} {cs : PlainClauses} {s t : WorldState} {n m : ℕ}
        → match_of w.frames s.cells p v ≡ None → ArePassed cs s n t m
        → ArePassed (fended p fender output cs) s (suc n) t m
    false_fender : {p : PlainPattern} {fender output : PlainCore} {cs : PlainClauses} {f : PatternBinds} {s r t : WorldState}
        {n k m : ℕ} → match_of w.frames s.cells p v ≡ Some f → f.taken ≤ n
        → eval_of w fender (next_place s) (with_binds f scope s) (n - f.taken) ≡ done (value.Atom (a.Bool false)) r k
        → ArePassed cs r k t m → ArePassed (fended p fender output cs) s (suc n) t m

-- The faults that an evaluation in a setting can come to, with the state at the fault:
pub data IsEvaluationFault (w : PlainSetting) (s : WorldState) : Bare → Type 0 where
  -- something costs more fuel than there is
  spent : IsEvaluationFault w s (record { kind = kind.FuelSpent; words = [] })
  -- a variable of a `letrec` or a library is read before it has a value
  unset : {l : Label} {scope : Place} {words : List (List ℕ)} → IsUnset s.cells l (suc (length s.cells)) scope
      → AreWords l (rows_in l.0.library w.frames) words → IsEvaluationFault w s (record { kind = kind.UnsetVariable; words = words })
  -- an assignment is evaluated
  assigned : {l : Label} {words : List (List ℕ)} → AreWords l (rows_in l.0.library w.frames) words
      → IsEvaluationFault w s (record { kind = kind.SetAtExpansion; words = words })
  -- what is called is no procedure
  no_procedure : IsEvaluationFault w s (record { kind = kind.PrimFault; words = codes "call" ∷ [] })
  -- no case of a procedure takes so many arguments
  no_case_takes : {count : ℕ} {code : PlainCode} (number : CodeNo) → code_at w.codes number ≡ Some code → NoneTakes count code.cases
      → IsEvaluationFault w s (record { kind = kind.Arity; words = decimal count ∷ [] })
  -- `apply` or another primitive refuses its arguments
  bad_apply : {args : List Value} {f : Bare} → IsBadApply s.cells args f → IsEvaluationFault w s f
  refused : {op : ℕ} {args : List Value} {f : Bare} → IsRefusedCall op args s.cells w.frames f → IsEvaluationFault w s f
  -- no clause of a `syntax-case` is taken
  no_clause_taken : IsEvaluationFault w s (record { kind = kind.NoClause; words = [] })
  -- lengths differ under an ellipsis of a template
  uneven : {one other : ℕ} → (one ≡ other → ⊥) → IsEvaluationFault w s (record { kind = kind.EllipsisLength; words = decimal one ∷ decimal other ∷ [] })

-- Whatever is evaluated, it comes to no other fault.
pub record FaultsAreOfThese : Type 0 where
  pub expressions : (w : PlainSetting) (c : PlainCore) (scope : Place) (s t : WorldState) (n m : ℕ) (f : Bare)
      → eval_of w c scope s n ≡ faulted f t m → IsEvaluationFault w t f
  pub calls : (w : PlainSetting) (vs : List Value) (s t : WorldState) (n m : ℕ) (f : Bare) → applied w (eval_of w) vs s n ≡ faulted f t m
      → IsEvaluationFault w t f
  pub libraries : (w : PlainSetting) (ls : List Line) (scope : Place) (s t : WorldState) (n m : ℕ) (f : Bare)
      → lines_from (eval_of w) ls scope s n ≡ faulted f t m → IsEvaluationFault w t f

-- Where a cause is met, there is its fault.
pub record CausesAreFaults : Type 0 where
  pub fuel : (w : PlainSetting) (c : PlainCore) (scope : Place) (s : WorldState)
      → eval_of w c scope s 0 ≡ faulted (record { kind = kind.FuelSpent; words = [] }) s 0
  pub variables : (w : PlainSetting) (l : Label) (scope : Place) (s : WorldState) (n : ℕ) (words : List (List ℕ))
      → IsUnset s.cells l (suc (length s.cells)) scope → AreWords l (rows_in l.0.library w.frames) words
      → eval_of w (variable l) scope s (suc n) ≡ faulted (record { kind = kind.UnsetVariable; words = words }) s n
  pub assignments : (w : PlainSetting) (l : Label) (c : PlainCore) (scope : Place) (s : WorldState) (n : ℕ) (words : List (List ℕ))
      → AreWords l (rows_in l.0.library w.frames) words
      → eval_of w (assignment l c) scope s (suc n) ≡ faulted (record { kind = kind.SetAtExpansion; words = words }) s n
  pub no_procedures : (w : PlainSetting) (v : Value) (args : List Value) (s : WorldState) (n : ℕ) → (IsProcedure v → ⊥)
      → applied w (eval_of w) (v ∷ args) s n ≡ faulted (record { kind = kind.PrimFault; words = codes "call" ∷ [] }) s n
  pub procedures : (w : PlainSetting) (number : CodeNo) (parent : Place) (code : PlainCode) (args : List Value) (s : WorldState) (n : ℕ)
      → code_at w.codes number ≡ Some code → NoneTakes (length args) code.cases
      → applied w (eval_of w) (value.Closure number parent ∷ args) s n ≡ faulted (record { kind = kind.Arity; words = decimal (length args) ∷ [] }) s n
  pub applications : (w : PlainSetting) (args : List Value) (s : WorldState) (n : ℕ) (f : Bare) → IsBadApply s.cells args f
      → applied w (eval_of w) (value.Prim (record { 0 = names.APPLY }) ∷ args) s n ≡ faulted f s n
  pub primitives : (w : PlainSetting) (op : Op) (args : List Value) (s : WorldState) (n : ℕ) (f : Bare) → (op.0 ≡ names.APPLY → ⊥)
      → has_text op.0 ≡ false → cost op.0 args s.cells ≤ n → IsRefusedCall op.0 args s.cells w.frames f
      → applied w (eval_of w) (value.Prim op ∷ args) s n ≡ faulted f s (n - cost op.0 args s.cells)
  pub templates : (w : PlainSetting) (t : PlainTemplate) (span : Span) (scope : Place) (s : WorldState) (n : ℕ) (bs : Binds) (f : Bare)
      → gathered s.cells scope t [] ≡ Some bs → cost_of bs t ≡ Err f → eval_of w (instance t span) scope s (suc n) ≡ faulted f s n
  pub clauses : (w : PlainSetting) (c : PlainCore) (cs : PlainClauses) (span : Span) (scope : Place) (v : Value) (s r t : WorldState)
      (n k m : ℕ) → eval_of w c scope s n ≡ done v r k → ArePassed w v scope cs r k t m
      → eval_of w (matching c cs span) scope s (suc n) ≡ faulted (record { kind = kind.NoClause; words = [] }) t m
