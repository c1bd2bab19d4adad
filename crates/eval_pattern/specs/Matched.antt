-- What a pattern takes of a value (libraries report 12.4): the binds of its variables, from left to right, and how many elements
-- its ellipses took.
use Rattle.std.specs.Prelude.{◌≡◌, ℕ, suc, ◌+◌, ◌-◌, nat_le, List, [], ◌∷◌, ◌++◌, length, take, drop, Option, Some, None, Bool, true, false, Result, Ok, Err, if◌then◌else◌}
use Rattle.base_data.specs.declared.memory.Memory.{Memory}
use Rattle.base_data.specs.declared.name.Label.{Label}
use Rattle.stx_frames.specs.Scope.{Scope}
use Rattle.core_language.specs.Pattern.{PlainPattern, any, variable, literal, atom, list, vector, PlainPatterns, none, more, dots}
use Rattle.eval_value.specs.Bind.{one}
use Rattle.eval_value.specs.declared.cell.Cell.{Cell}
use Rattle.eval_value.specs.declared.value.Value.{Value}
use Rattle.eval_pattern.specs.Values.{atom_of, is_atom, is_alike, vector_of}
use Rattle.eval_pattern.specs.Front.{front}
use Rattle.eval_pattern.specs.Columns.{empty_columns, grown, closed}
use Rattle.eval_pattern.specs.declared.columns.Rows.{Rows}
use Rattle.eval_pattern.specs.declared.columns.PatternBinds.{PatternBinds}

abbrev pub nothing : ℕ → PatternBinds
nothing taken = record { binds = []; taken = taken }

abbrev pub and_then : {A B : Type 0} → Option A → (A → Option B) → Option B
and_then None k = None
and_then (Some x) k = k x

abbrev pub kept : Bool → PatternBinds → Option PatternBinds
kept b s = if b then Some s else None

abbrev pub bound : Label → Value → PatternBinds → PatternBinds
bound l v s = record s { binds = s.binds ++ (l, one v) ∷ [] }

-- how many patterns there are, that of an ellipsis aside
abbrev pub count : PlainPatterns → ℕ
count none = 0
count (more p ps) = suc (count ps)
count (dots p ps) = count ps

abbrev pub one_more : Option ℕ → Option ℕ
one_more None = None
one_more (Some n) = Some (suc n)

-- how many elements these patterns take at most: without an ellipsis one each
abbrev pub limit : PlainPatterns → Option ℕ
limit none = Some 0
limit (more p ps) = one_more (limit ps)
limit (dots p ps) = None

-- the elements of an ellipsis: each is matched alone, and adds a bind to each column
abbrev pub repeated : (Value → PatternBinds → Option PatternBinds) → Rows → List Value → Option Rows
repeated go rows [] = Some rows
repeated go rows (x ∷ xs) =
    and_then (go x (nothing (rows.taken + 1))) (λ row. repeated go (record { columns = grown [] rows.columns row.binds; taken = row.taken }) xs)

abbrev pub no_rows : PlainPattern → ℕ → Rows
no_rows p taken = record { columns = empty_columns p []; taken = taken }

abbrev pub with_rows : PatternBinds → Rows → PatternBinds
with_rows s rows = record { binds = s.binds ++ closed rows.columns; taken = rows.taken }

abbrev pub on_elements : Option (List Value) → (List Value → Option PatternBinds) → Option PatternBinds
on_elements None go = None
on_elements (Some xs) go = go xs

abbrev pub at_end : List Value → PatternBinds → Option PatternBinds
at_end [] s = Some s
at_end (x ∷ xs) s = None

abbrev pub on_first : List Value → (Value → List Value → Option PatternBinds) → Option PatternBinds
on_first [] go = None
on_first (x ∷ xs) go = go x xs

-- a list: its elements first, and then what is behind them
abbrev mutual
  pub matched : Scope → List Cell → PlainPattern → Value → PatternBinds → Option PatternBinds
  matched fs cells any v s = Some s
  matched fs cells (variable l) v s = Some (bound l v s)
  matched fs cells (literal t) v s = kept (is_alike fs t v) s
  matched fs cells (atom a) v s = kept (is_atom a (atom_of cells v)) s
  matched fs cells (list ps t) v s =
      let f = front cells (limit ps) v in
      and_then (all_matched fs cells ps f.elements s) (matched fs cells t f.rest)
  matched fs cells (vector ps) v s = on_elements (vector_of cells v) (λ xs. all_matched fs cells ps xs s)

  -- an ellipsis takes all but as many elements as there are patterns after it
  pub all_matched : Scope → List Cell → PlainPatterns → List Value → PatternBinds → Option PatternBinds
  all_matched fs cells none xs s = at_end xs s
  all_matched fs cells (more p ps) xs s = on_first xs (λ x xs. and_then (matched fs cells p x s) (all_matched fs cells ps xs))
  all_matched fs cells (dots p ps) xs s =
      let n = length xs - count ps in
      if nat_le (count ps) (length xs)
      then and_then (repeated (matched fs cells p) (no_rows p s.taken) (take n xs)) (λ rows. all_matched fs cells ps (drop n xs) (with_rows s rows))
      else None

-- What a call answers and leaves is what the definition gives, unless memory ran out.
abbrev pub Takes : Result Bool Memory → PatternBinds → Option PatternBinds → Type 0
Takes (Ok true) new given = given ≡ Some new
Takes (Ok false) new given = given ≡ None
Takes (Err e) new given = Unit {0}
