-- What the text of an op gives, where it is a value, is a procedure.
use Rattle.std.proofs.Common.{◌≡◌, ℕ, zero, suc, List, [], ◌∷◌, ◌++◌, Option, Some, None, Bool, true, false, cond, length, refl, ap, sym, subst, ◌∙◌, arith, slice_get, slice_set}
use Rattle.std.specs.Map.{lookup}
use Rattle.base_data.specs.declared.name.CodeNo.{CodeNo}
use Rattle.base_data.specs.declared.name.Label.{Label}
use Rattle.base_region.specs.declared.region.Place.{Place}
use Rattle.base_region.proofs.Laws.{slice_get-added, slice_get-replaced}
use Rattle.stx_frames.specs.Scope.{or_else}
use Rattle.core_language.specs.Core.{PlainCore, procedure, letrec, variable, PlainInits, no_init, init, PlainCases}
use Rattle.core_language.specs.Labels.{same_label}
use Rattle.law_core.proofs.Decisions.{label_decides}
use Rattle.eval_value.specs.declared.value.Value.{Value}
use Rattle.eval_value.specs.declared.value.Value.TheVariants as value
use Rattle.eval_value.specs.declared.cell.Cell.{Cell}
use Rattle.eval_value.specs.declared.cell.Cell.TheVariants as cell
use Rattle.eval_code.specs.Meaning.{Evaluator, variable_read, variable_value, in_turn, at_once, by_letrec, evaluates}
use Rattle.eval_code.specs.Setting.{PlainSetting}
use Rattle.eval_code.specs.State.{WorldState, Outcome, done, faulted, unfit, Go, then_do, store, next_place, with_cell}
use Rattle.eval_code.specs.Variables.{entry_in, here_or_up, found, unset, cell_with, assigned_in, assigned, all_assigned}
use Rattle.law_whole.specs.WholeWorld.{GivesProcedure}
use Rattle.law_whole.proofs.Worlds.{length_added}

abbrev pub IsProcedure : Value → Type 0
IsProcedure (value.Closure number place) = Unit {0}
IsProcedure _ = ⊥

-- an outcome that is a procedure, where it is a value
abbrev pub GivesClosure : Outcome → Type 0
GivesClosure (done v s n) = IsProcedure v
GivesClosure (faulted f s n) = Unit {0}
GivesClosure unfit = Unit {0}

abbrev pub TextsGive : Evaluator → Type 0
TextsGive E = (c : PlainCore) (scope : Place) (s : WorldState) (n : ℕ) → GivesProcedure c → GivesClosure (E c scope s n)

-- Bodies of `letrec`.

gives_then : (o : Outcome) (g : Go) → ((v : Value) (s : WorldState) (n : ℕ) → GivesClosure (g v s n)) → GivesClosure (then_do o g)
gives_then (done v s n) g k = k v s n
gives_then (faulted f s n) g k = tt
gives_then unfit g k = tt

module _ (w : PlainSetting) (E : Evaluator) (body : PlainCore) (gives : (scope : Place) (s : WorldState) (n : ℕ) → GivesClosure (E body scope s n)) where
  turn_gives : (is : PlainInits) (scope : Place) (s : WorldState) (n : ℕ) → GivesClosure (in_turn w E is body scope s n)
  turn_gives no_init scope s n = gives scope s n
  turn_gives (init l c is) scope s n =
      gives_then (E c scope s n) (λ v t. in_turn w E is body scope (store (assigned t.cells scope l v) t.names)) (λ v t m. turn_gives is scope (store (assigned t.cells scope l v) t.names) m)

  once_gives : (is all : PlainInits) (scope : Place) (vs : List Value) (s : WorldState) (n : ℕ) → GivesClosure (at_once w E is (record { variables = all; body = body; scope = scope }) vs s n)
  once_gives no_init all scope vs s n = gives scope (store (all_assigned s.cells scope all vs) s.names) n
  once_gives (init l c is) all scope vs s n =
      gives_then (E c scope s n) (λ v. at_once w E is (record { variables = all; body = body; scope = scope }) (vs ++ v ∷ [])) (λ v t m. once_gives is all scope (vs ++ v ∷ []) t m)

  letrec_gives : (in_order : Bool) (is : PlainInits) (scope : Place) (s : WorldState) (n : ℕ) → GivesClosure (by_letrec w E in_order (record { variables = is; body = body; scope = scope }) s n)
  letrec_gives true is scope s n = turn_gives is scope s n
  letrec_gives false is scope s n = once_gives is is scope [] s n

-- One procedure that the body names.

-- a procedure, in the state that there was
abbrev GivesHere : WorldState → Outcome → Type 0
GivesHere s (done v t n) = IsProcedure v × (s ≡ t)
GivesHere s (faulted f t n) = Unit {0}
GivesHere s unfit = Unit {0}

here_then : (s : WorldState) (o : Outcome) (g : Go) → GivesHere s o → ((v : Value) (n : ℕ) → IsProcedure v → GivesClosure (g v s n)) → GivesClosure (then_do o g)
here_then s (done v t n) g h k = subst (λ (u : WorldState). GivesClosure (g v u n)) h.1 (k v n h.0)
here_then s (faulted f t n) g h k = tt
here_then s unfit g h k = tt

own_set : (l m : Label) (v : Value) (r : Option (Option Value)) (t : Bool) → t ≡ true
    → or_else (lookup (same_label m) (cond t ((l, Some v) ∷ []) ((l, None) ∷ []))) r ≡ or_else (cond (same_label m l) (Some (Some v)) None) r
own_set l m v r true h = refl
own_set l m v r false h = cc

own_read : (v : Value) (r : Option (Option Value)) (t : Bool) → t ≡ true → or_else (cond t (Some (Some v)) None) r ≡ Some (Some v)
own_read v r true h = refl
own_read v r false h = cc

-- the value of the variable that the cell at its place has alone
only_one : (globals : List (Label × Value)) (cells : List Cell) (scope : Place) (l m : Label) (v : Value) (n : ℕ) → l ≡ m
    → found (suc n) globals (assigned (cells ++ cell.Scope ((l, None) ∷ []) (Some scope) ∷ []) (record { 0 = length cells }) l v) m (Some (record { 0 = length cells })) ≡ Some (Some v)
only_one globals cells scope l m v n e =
    let c = cell.Scope ((l, None) ∷ []) (Some scope) in
    let old = cells ++ c ∷ [] in
    let inner : Place = record { 0 = length cells } in
    let new = slice_set old (length cells) (cell_with l v c) in
    let set : assigned old inner l v ≡ new = ap (assigned_in old inner l v) (slice_get-added cells c) in
    let there : slice_get new (length cells) ≡ Some (cell_with l v c) = slice_get-replaced old (length cells) (cell_with l v c) (omega (arith, length_added cells c)) in
    ap (λ (xs : List Cell). here_or_up (entry_in m) (found n globals xs m) (slice_get xs (length cells))) set
    ∙ ap (here_or_up (entry_in m) (found n globals new m)) there
    ∙ own_set l m v (found n globals new m (Some scope)) (same_label l l) ((label_decides l l).1 refl)
    ∙ own_read v (found n globals new m (Some scope)) (same_label m l) ((label_decides m l).1 (sym e))

read_gives : (w : PlainSetting) (l : Label) (s : WorldState) (n : ℕ) (o : Option (Option Value)) (v : Value) → IsProcedure v → o ≡ Some (Some v) → GivesClosure (variable_read w l s n o)
read_gives w l s n None v h e = tt
read_gives w l s n (Some None) v h e = tt
read_gives w l s n (Some (Some x)) v h e =
    let is : x ≡ v = cc in
    subst (λ (y : Value). IsProcedure y) (sym is) h

variable_gives : (w : PlainSetting) (m : Label) (inner : Place) (s : WorldState) (n : ℕ) (v : Value) → IsProcedure v → found (suc (length s.cells)) w.globals s.cells m (Some inner) ≡ Some (Some v)
    → GivesClosure (variable_value w m inner s n)
unfolding variable_value
variable_gives w m inner s n v h e = read_gives w m s n (found (suc (length s.cells)) w.globals s.cells m (Some inner)) v h e

module _ (w : PlainSetting) where
  procedure_here : (depth : ℕ) (number : CodeNo) (cs : PlainCases) (plain : Bool) (scope : Place) (s : WorldState) (n : ℕ) → GivesHere s (evaluates w depth (procedure number cs plain) scope s n)
  unfolding evaluates
  procedure_here zero number cs plain scope s n = tt
  procedure_here (suc depth) number cs plain scope s zero = tt
  procedure_here (suc depth) number cs plain scope s (suc n) = (tt, refl)

  named_gives : (depth : ℕ) (m : Label) (inner : Place) (s : WorldState) (n : ℕ) (v : Value) → IsProcedure v → found (suc (length s.cells)) w.globals s.cells m (Some inner) ≡ Some (Some v)
      → GivesClosure (evaluates w depth (variable m) inner s n)
  unfolding evaluates
  named_gives zero m inner s n v h e = tt
  named_gives (suc depth) m inner s zero v h e = tt
  named_gives (suc depth) m inner s (suc n) v h e = variable_gives w m inner s n v h e

  -- the one variable of a `letrec`, whose value is a procedure
  bound_gives : (depth : ℕ) (in_order : Bool) (l m : Label) (number : CodeNo) (cs : PlainCases) (plain : Bool) (scope : Place) (s : WorldState) (n : ℕ) → l ≡ m
      → GivesClosure (by_letrec w (evaluates w depth) in_order (record { variables = init l (procedure number cs plain) no_init; body = variable m; scope = next_place s }) (with_cell (cell.Scope ((l, None) ∷ []) (Some scope)) s) n)
  bound_gives depth true l m number cs plain scope s n e =
      let new = with_cell (cell.Scope ((l, None) ∷ []) (Some scope)) s in
      let inner = next_place s in
      here_then new (evaluates w depth (procedure number cs plain) inner new n)
      (λ v t. in_turn w (evaluates w depth) no_init (variable m) inner (store (assigned t.cells inner l v) t.names)) (procedure_here depth number cs plain inner new n)
      (λ v k h. named_gives depth m inner (store (assigned new.cells inner l v) new.names) k v h (only_one w.globals s.cells scope l m v (length (assigned new.cells inner l v)) e))
  bound_gives depth false l m number cs plain scope s n e =
      let new = with_cell (cell.Scope ((l, None) ∷ []) (Some scope)) s in
      let inner = next_place s in
      here_then new (evaluates w depth (procedure number cs plain) inner new n)
      (λ v. at_once w (evaluates w depth) no_init (record { variables = init l (procedure number cs plain) no_init; body = variable m; scope = inner }) (v ∷ [])) (procedure_here depth number cs plain inner new n)
      (λ v k h. named_gives depth m inner (store (assigned new.cells inner l v) new.names) k v h (only_one w.globals s.cells scope l m v (length (assigned new.cells inner l v)) e))

  pub texts_give : (depth : ℕ) → TextsGive (evaluates w depth)
  unfolding evaluates
  texts_give zero c scope s n h = tt
  texts_give (suc depth) c scope s zero h = tt
  texts_give (suc depth) (procedure number cs plain) scope s (suc n) h = tt
  texts_give (suc depth) (letrec o is (procedure number cs plain)) scope s (suc n) h =
      letrec_gives w (evaluates w depth) (procedure number cs plain) (λ place t m. texts_give depth (procedure number cs plain) place t m tt) o is (next_place s)
      (with_cell (cell.Scope (unset is) (Some scope)) s) n
  texts_give (suc depth) (letrec o (init l (procedure number cs plain) no_init) (variable m)) scope s (suc n) h = bound_gives depth o l m number cs plain scope s n h
  texts_give (suc depth) c scope s (suc n) h = absurd h
