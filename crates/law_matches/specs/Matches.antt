-- Which binds a pattern has at a value, by the cases of the libraries report 12.4, and how many elements its ellipses take.
use Rattle.std.specs.Prelude.{◌≡◌, ℕ, suc, ◌+◌, true, List, [], ◌∷◌, ◌++◌, length, Option, Some, None}
use Rattle.base_data.specs.declared.atom.Atom.{Atom}
use Rattle.base_data.specs.declared.name.Label.{Label}
use Rattle.stx_tree.specs.Tree.{Tree, atom, leaf, pair, vector}
use Rattle.stx_frames.specs.Scope.{Scope}
use Rattle.core_language.specs.Pattern.{PlainPattern, any, variable, literal, list, PlainPatterns, none, more, dots}
use Rattle.core_language.specs.Pattern as pattern
use Rattle.eval_value.specs.Bind.{PlainBind, one}
use Rattle.eval_value.specs.declared.cell.Cell.{Cell}
use Rattle.eval_value.specs.declared.value.Value.{Value}
use Rattle.eval_value.specs.declared.value.Value.TheVariants as value
use Rattle.eval_pattern.specs.Values.{atom_of, is_alike, stored_pair, vector_of}
use Rattle.eval_pattern.specs.Columns.{empty_columns, grown, closed}
use Rattle.eval_pattern.specs.Matched.{count, limit}
use Rattle.eval_pattern.specs.declared.columns.Column.{Column}
use Rattle.eval_pattern.specs.declared.columns.PatternBinds.{PatternBinds}

abbrev pub MatchBinds : Type 0
MatchBinds = List (Label × PlainBind)

abbrev pub tree_pair : Tree → Option (Value × Value)
tree_pair (atom s a) = None
tree_pair (leaf s x c) = None
tree_pair (pair s a d) = Some (value.Syn a, value.Syn d)
tree_pair (vector s d) = None

-- the car and the cdr of a pair, in the store or in a syntax tree
abbrev pub pair_of : List Cell → Value → Option (Value × Value)
pair_of cells (value.Syn t) = tree_pair t
pair_of cells v = stored_pair cells v

-- a value is these elements and then a rest, the cdr behind them
pub data Begins (cells : List Cell) : List Value → Value → Value → Type 0 where
  here : {v : Value} → Begins cells [] v v
  next : {x d r v : Value} {xs : List Value} → pair_of cells v ≡ Some (x, d) → Begins cells xs r d → Begins cells (x ∷ xs) r v

-- with an ellipsis, the rest is the final cdr
abbrev pub IsLast : List Cell → Option ℕ → Value → Type 0
IsLast cells None r = pair_of cells r ≡ None
IsLast cells (Some n) r = Unit {0}

-- the binds of rows, by variable
abbrev pub stacked : List Column → List MatchBinds → List Column
stacked cols [] = cols
stacked cols (row ∷ rows) = stacked (grown [] cols row) rows

module _ (fs : Scope) (cells : List Cell) where
  mutual
    pub data Matches : PlainPattern → Value → MatchBinds → ℕ → Type 0 where
      takes_any : {v : Value} → Matches any v [] 0
      takes_variable : {l : Label} {v : Value} → Matches (variable l) v ((l, one v) ∷ []) 0
      takes_literal : {t : Tree} {v : Value} → is_alike fs t v ≡ true → Matches (literal t) v [] 0
      takes_atom : {a : Atom} {v : Value} → atom_of cells v ≡ Some a → Matches (pattern.atom a) v [] 0
      takes_list : {ps : PlainPatterns} {t : PlainPattern} {v r : Value} {xs : List Value} {bs cs : MatchBinds} {m n : ℕ}
          → Begins cells xs r v → IsLast cells (limit ps) r → Fills ps xs bs m → Matches t r cs n
          → Matches (list ps t) v (bs ++ cs) (m + n)
      takes_vector : {ps : PlainPatterns} {v : Value} {xs : List Value} {bs : MatchBinds} {n : ℕ} → vector_of cells v ≡ Some xs
          → Fills ps xs bs n → Matches (pattern.vector ps) v bs n

    -- elements by patterns: the first ones by those before an ellipsis, the last ones by those after it, the others by the
    -- repeated one
    pub data Fills : PlainPatterns → List Value → MatchBinds → ℕ → Type 0 where
      no_more : Fills none [] [] 0
      one_more : {p : PlainPattern} {ps : PlainPatterns} {x : Value} {xs : List Value} {bs cs : MatchBinds} {m n : ℕ}
          → Matches p x bs m → Fills ps xs cs n → Fills (more p ps) (x ∷ xs) (bs ++ cs) (m + n)
      all_but : {p : PlainPattern} {ps : PlainPatterns} {xs ys : List Value} {rows : List MatchBinds} {cs : MatchBinds} {m n : ℕ}
          → Repeats p xs rows m → length ys ≡ count ps → Fills ps ys cs n
          → Fills (dots p ps) (xs ++ ys) (closed (stacked (empty_columns p []) rows) ++ cs) (m + n)

    -- each element by one pattern, and 1 for each
    pub data Repeats : PlainPattern → List Value → List MatchBinds → ℕ → Type 0 where
      no_rows : {p : PlainPattern} → Repeats p [] [] 0
      one_row : {p : PlainPattern} {x : Value} {xs : List Value} {row : MatchBinds} {rows : List MatchBinds} {m n : ℕ}
          → Matches p x row m → Repeats p xs rows n → Repeats p (x ∷ xs) (row ∷ rows) (suc (m + n))

-- the binds are those of the relation, and without any there are none
abbrev pub IsRight : Scope → List Cell → PlainPattern → Value → Option PatternBinds → Type 0
IsRight fs cells p v (Some f) = Matches fs cells p v f.binds f.taken
IsRight fs cells p v None = (bs : MatchBinds) (n : ℕ) → Matches fs cells p v bs n → ⊥
