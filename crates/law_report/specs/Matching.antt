-- Which binds a pattern has at a value, by the cases of the libraries report 12.4 and without any part of the definition that the matcher has.
use Rattle.std.specs.Prelude.{◌≡◌, ℕ, suc, ◌+◌, true, List, [], ◌∷◌, ◌++◌, length, map, flat_map, drop, Option, Some, None}
use Rattle.base_data.specs.declared.atom.Atom.{Atom}
use Rattle.base_data.specs.declared.atom.Atom.TheVariants.{Str}
use Rattle.base_data.specs.declared.name.Label.{Label}
use Rattle.base_data.specs.declared.span.Span.{Span}
use Rattle.base_region.specs.declared.region.Place.{Place}
use Rattle.stx_tree.specs.Context.{LeafContext}
use Rattle.stx_tree.specs.Tree.{Tree, atom, leaf, pair, vector}
use Rattle.stx_frames.specs.Scope.{Scope}
use Rattle.stx_scope.specs.Same.{same_binding}
use Rattle.core_shapes.specs.Lists.{elements}
use Rattle.core_language.specs.Pattern.{PlainPattern, any, variable, literal, list, PlainPatterns, none, more, dots}
use Rattle.core_language.specs.Pattern as pattern
use Rattle.eval_value.specs.Bind.{PlainBind, one, many, turns}
use Rattle.eval_value.specs.Cells.{pair_at, vector_at, string_at}
use Rattle.eval_value.specs.declared.cell.Cell.{Cell}
use Rattle.eval_value.specs.declared.value.Value.{Value}
use Rattle.eval_value.specs.declared.value.Value.TheVariants as value
use Rattle.eval_pattern.specs.declared.columns.PatternBinds.{PatternBinds}
use Rattle.law_templates.specs.Repeating.{variables}

-- Values, of the store or in a syntax tree.

-- an atom; a string of the store is known by its characters
pub data IsAtom (cells : List Cell) : Atom → Value → Type 0 where
  plain_atom : {a : Atom} → IsAtom cells a (value.Atom a)
  written_atom : {span : Option Span} {a : Atom} → IsAtom cells a (value.Syn (atom span a))
  stored_string : {p : Place} {text : List ℕ} → string_at cells p.0 ≡ Some text → IsAtom cells (Str text) (value.Str p)

-- a pair, with its car and its cdr
pub data IsPairValue (cells : List Cell) : Value → Value → Value → Type 0 where
  stored_pair : {p : Place} {x d : Value} → pair_at cells p.0 ≡ Some (x, d) → IsPairValue cells x d (value.Pair p)
  written_pair : {span : Option Span} {a d : Tree} → IsPairValue cells (value.Syn a) (value.Syn d) (value.Syn (pair span a d))

-- a vector, with its elements
pub data IsVectorValue (cells : List Cell) : List Value → Value → Type 0 where
  stored_vector : {p : Place} {xs : List Value} → vector_at cells p.0 ≡ Some xs → IsVectorValue cells xs (value.Vector p)
  written_vector : {span : Option Span} {t : Tree} → IsVectorValue cells (map value.Syn (elements t)) (value.Syn (vector span t))

-- an identifier that refers to what another refers to
pub data RefersAs (fs : Scope) (t : Tree) : Value → Type 0 where
  refers : {span : Option Span} {x : List ℕ} {c : LeafContext} → same_binding fs t (leaf span x c) ≡ true → RefersAs fs t (value.Syn (leaf span x c))

-- a value is these elements and then a rest, the cdr behind them
pub data Begins (cells : List Cell) : List Value → Value → Value → Type 0 where
  here : {v : Value} → Begins cells [] v v
  next : {x d r v : Value} {xs : List Value} → IsPairValue cells x d v → Begins cells xs r d → Begins cells (x ∷ xs) r v

-- Patterns of elements.

-- with an ellipsis among the patterns, the rest is the final cdr
abbrev pub IsLast : List Cell → PlainPatterns → Value → Type 0
IsLast cells none r = Unit {0}
IsLast cells (more p ps) r = IsLast cells ps r
IsLast cells (dots p ps) r = (x d : Value) → IsPairValue cells x d r → ⊥

-- how many patterns there are, those with an ellipsis aside
abbrev pub count : PlainPatterns → ℕ
count none = 0
count (more p ps) = suc (count ps)
count (dots p ps) = count ps

abbrev pub MatchBinds : Type 0
MatchBinds = List (Label × PlainBind)

abbrev pub first_bind : MatchBinds → List PlainBind
first_bind [] = []
first_bind (b ∷ bs) = b.1 ∷ []

-- each variable with what it is bound to in each of the rows, the first variable with the first binds
abbrev pub gathered : List Label → List MatchBinds → MatchBinds
gathered [] rows = []
gathered (l ∷ ls) rows = (l, many (turns (flat_map first_bind rows))) ∷ gathered ls (map (drop 1) rows)

module _ (fs : Scope) (cells : List Cell) where
  -- A pattern matches a value with these binds; its ellipses take so many elements.
  mutual
    pub data MatchesPattern : PlainPattern → Value → MatchBinds → ℕ → Type 0 where
      -- `_` matches anything
      anything : {v : Value} → MatchesPattern any v [] 0
      -- a pattern variable matches anything, and is bound to it
      is_bound : {l : Label} {v : Value} → MatchesPattern (variable l) v ((l, one v) ∷ []) 0
      -- a literal matches an identifier that refers to the same
      same_literal : {t : Tree} {v : Value} → RefersAs fs t v → MatchesPattern (literal t) v [] 0
      -- a datum matches the same datum
      same_atom : {a : Atom} {v : Value} → IsAtom cells a v → MatchesPattern (pattern.atom a) v [] 0
      -- `(pattern ... . pattern)`, with an ellipsis or without
      fills_list : {ps : PlainPatterns} {t : PlainPattern} {v r : Value} {xs : List Value} {bs cs : MatchBinds} {m n : ℕ}
          → Begins cells xs r v → IsLast cells ps r → FillsElements ps xs bs m → MatchesPattern t r cs n
          → MatchesPattern (list ps t) v (bs ++ cs) (m + n)
      -- `#(pattern ...)`
      fills_vector : {ps : PlainPatterns} {v : Value} {xs : List Value} {bs : MatchBinds} {n : ℕ} → IsVectorValue cells xs v
          → FillsElements ps xs bs n → MatchesPattern (pattern.vector ps) v bs n

    -- elements by patterns: the last ones by those behind an ellipsis, one each, and all between by the repeated one
    pub data FillsElements : PlainPatterns → List Value → MatchBinds → ℕ → Type 0 where
      no_more : FillsElements none [] [] 0
      one_more : {p : PlainPattern} {ps : PlainPatterns} {x : Value} {xs : List Value} {bs cs : MatchBinds} {m n : ℕ}
          → MatchesPattern p x bs m → FillsElements ps xs cs n → FillsElements (more p ps) (x ∷ xs) (bs ++ cs) (m + n)
      repeated : {p : PlainPattern} {ps : PlainPatterns} {xs ys : List Value} {rows : List MatchBinds} {cs : MatchBinds} {m n : ℕ}
          → RepeatsPattern p xs rows m → length ys ≡ count ps → FillsElements ps ys cs n
          → FillsElements (dots p ps) (xs ++ ys) (gathered (variables p) rows ++ cs) (m + n)

    -- each element by one pattern, with a row of binds for each
    pub data RepeatsPattern : PlainPattern → List Value → List MatchBinds → ℕ → Type 0 where
      no_rows : {p : PlainPattern} → RepeatsPattern p [] [] 0
      one_row : {p : PlainPattern} {x : Value} {xs : List Value} {row : MatchBinds} {rows : List MatchBinds} {m n : ℕ}
          → MatchesPattern p x row m → RepeatsPattern p xs rows n → RepeatsPattern p (x ∷ xs) (row ∷ rows) (suc (m + n))

-- the binds are those of the relation, and without any there are none
abbrev pub IsRight : Scope → List Cell → PlainPattern → Value → Option PatternBinds → Type 0
IsRight fs cells p v (Some f) = MatchesPattern fs cells p v f.binds f.taken
IsRight fs cells p v None = (bs : MatchBinds) (n : ℕ) → MatchesPattern fs cells p v bs n → ⊥
