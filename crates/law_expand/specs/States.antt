-- The states of an expansion, and how they change.
use Rattle.std.specs.Prelude.{◌≡◌, ◌≤◌, ◌<◌, ◌⊎◌, ℕ, Bool, true, false, List, ◌++◌, map, Option, Some, None}
use Rattle.base_data.specs.Elements.{Each, Among, Once}
use Rattle.base_data.specs.Named.{Named}
use Rattle.base_data.specs.Op.{name_count, is_keyword}
use Rattle.base_data.specs.declared.library.LibName.{LibName}
use Rattle.base_data.specs.declared.name.FrameNo.{FrameNo}
use Rattle.base_data.specs.declared.name.Label.{Label}
use Rattle.base_data.specs.declared.name.Mark.{Mark}
use Rattle.base_data.specs.declared.op.Op.{Op}
use Rattle.stx_frames.specs.Rows.{Row}
use Rattle.stx_frames.specs.Scope.{Scope, rows_at}
use Rattle.stx_scope.specs.Stands.{row_for}
use Rattle.core_language.specs.Bindings.{bound_to}
use Rattle.core_language.specs.Core.{PlainCore}
use Rattle.core_language.specs.declared.binding.Binding.{Binding}
use Rattle.core_language.specs.declared.binding.Binding.TheVariants as binding
use Rattle.core_language.specs.declared.binding.VarInfo.{VarInfo}
use Rattle.law_core.specs.Templates.{Depths}
use Rattle.expand_quasi.specs.Inserted.{dots, ellipsis}
use Rattle.eval_stage.specs.Stage.{expression_of}
use Rattle.expand_standing.specs.State.{State, stage_of}

abbrev pub IsOwn : LibName → Named → Type 0
IsOwn own n = n.library ≡ own

abbrev pub IsForeign : LibName → Named → Type 0
IsForeign own n = n.library ≡ own → ⊥

-- A row for a label of the library, or that of the core ellipsis: a `quasisyntax` form with inserts puts an ellipsis, whose mark no
-- leaf of a program has, into a frame that is made for it, so that no binding of a program can change what stands behind splices.
abbrev pub IsOwnOrEllipsis : LibName → Row → Type 0
IsOwnOrEllipsis own r = IsOwn own r.label.0 ⊎ (r ≡ row_for dots ellipsis)

-- a label is bound
abbrev pub IsBound : State → Label → Type 0
IsBound s l = (b : Binding) × (bound_to s.bindings l ≡ Some b)

abbrev pub IsUnbound : State → Label → Type 0
IsUnbound s l = (b : Binding) → bound_to s.bindings l ≡ Some b → ⊥

-- a label is bound to a pattern variable
abbrev pub IsPattern : State → Label → ℕ → ℕ → Type 0
IsPattern s l level depth = bound_to s.bindings l ≡ Some (binding.PatternVariable level depth)

-- a keyword whose expression is kept
abbrev pub IsKept : State → Label → Type 0
IsKept s l = (c : PlainCore) × (expression_of l (stage_of s) ≡ Some c)

-- a label is bound to a keyword
abbrev pub IsMacro : State → Label → ℕ → Option PlainCore → Type 0
IsMacro s l level e = bound_to s.bindings l ≡ Some (binding.Macro level e)

-- the labels of the library that are bound were made before the next name
abbrev pub IsNumbered : LibName → State → Type 0
IsNumbered own s = (l : Label) (b : Binding) → IsOwn own l.0 → bound_to s.bindings l ≡ Some b → l.0.number < s.names.number

-- one of the names that this implementation gives, and no keyword
abbrev pub IsPrimitive : Op → Type 0
IsPrimitive o = (o.0 < name_count) × (is_keyword o.0 ≡ false)

-- Of a library with a name, behind records that define these variables.
pub record Sound (own : LibName) (given : List Label) (s : State) : Type 0 where
  pub here : s.library ≡ own
  pub next : s.names.library ≡ own
  -- a variable of the top of another library is defined
  pub defined : (l : Label) (v : VarInfo) → IsForeign own l.0 → bound_to s.bindings l ≡ Some (binding.Variable v) → v.top ≡ true → Among given l
  pub primitives : (l : Label) (o : Op) → bound_to s.bindings l ≡ Some (binding.Primitive o) → IsPrimitive o
  -- what is in scope is bound
  pub in_scope : Each (IsBound s) s.scope
  pub numbered : IsNumbered own s

-- a frame that was made before, or one of another library
abbrev pub IsOld : LibName → State → FrameNo → Type 0
IsOld own s f = IsOwn own f.0 → f.0.number < s.names.number

-- some of these rows gives the label
pub record RowsShow (rows : List Row) (l : Label) : Type 0 where
  pub row : Row
  pub there : Among rows row
  pub label : row.label ≡ l

-- What expansion binds: variables, pattern variables, and keywords, whose expressions stand on the stage.
abbrev pub IsAdded : Binding → Type 0
IsAdded (binding.Variable v) = Unit {0}
IsAdded (binding.PatternVariable level depth) = Unit {0}
IsAdded (binding.Macro level None) = Unit {0}
IsAdded (binding.Macro level (Some c)) = ⊥
IsAdded (binding.Core form) = ⊥
IsAdded (binding.Primitive o) = ⊥

-- a label is bound to a variable of the top
abbrev pub IsTop : State → Label → VarInfo → Type 0
IsTop s l v = (bound_to s.bindings l ≡ Some (binding.Variable v)) × (v.top ≡ true)

-- the variables of the library have indices below the next one, no two the same
pub record IndicesApart (own : LibName) (s : State) : Type 0 where
  pub below : (l : Label) (v : VarInfo) (i : ℕ) → IsOwn own l.0 → bound_to s.bindings l ≡ Some (binding.Variable v) → v.index ≡ Some i → i < s.index
  pub apart : (l m : Label) (v w : VarInfo) (i : ℕ) → IsOwn own l.0 → IsOwn own m.0 → bound_to s.bindings l ≡ Some (binding.Variable v)
      → bound_to s.bindings m ≡ Some (binding.Variable w)
      → v.index ≡ Some i → w.index ≡ Some i → l ≡ m

-- the symbol and the marks of a row
abbrev pub row_key : Row → List ℕ × List Mark
row_key r = (r.symbol, r.marks)

-- each frame of the library has a symbol under marks once
abbrev pub AreKeyed : LibName → Scope → Type 0
AreKeyed own fs = (f : FrameNo) → IsOwn own f.0 → Once (map row_key (rows_at f fs))

-- what rows give of the labels of the library is bound, but for what the row of the ellipsis gives
abbrev pub RowsAreBound : LibName → State → Type 0
RowsAreBound own s = (f : FrameNo) (r : Row) → Among (rows_at f s.frames) r → IsOwn own r.label.0 → IsBound s r.label ⊎ (r ≡ row_for dots ellipsis)

-- What a library adds: its frames keep their rows, labels stay bound to what they are bound to, what comes gives labels of the
-- library, but for the row of the ellipsis, and binds labels of the library, and indices that are apart stay so. Where frames have each
-- row once, and give what is bound, they stay so.
pub record Grows (own : LibName) (s t : State) : Type 0 where
  pub kept : (f : FrameNo) (r : Row) → Among (rows_at f s.frames) r → Among (rows_at f t.frames) r
  pub rows : (f : FrameNo) (r : Row) → Among (rows_at f t.frames) r → Among (rows_at f s.frames) r ⊎ IsOwnOrEllipsis own r
  pub bindings : (l : Label) (b : Binding) → bound_to t.bindings l ≡ Some b → (bound_to s.bindings l ≡ Some b) ⊎ (IsOwn own l.0 × IsAdded b)
  pub bound : (l : Label) (b : Binding) → bound_to s.bindings l ≡ Some b → bound_to t.bindings l ≡ Some b
  pub indices : IndicesApart own s → IndicesApart own t
  pub numbered : IsNumbered own s → IsNumbered own t
  pub keyed : AreKeyed own s.frames → AreKeyed own t.frames
  pub shown : RowsAreBound own s → RowsAreBound own t

module _ (own : LibName) where
  -- What comes into scope stands behind what was there, and is among these labels. So are the variables of the top of the library
  -- that come, if any may, and they are of level 0. The pattern variables that come into scope are among these, with their depths.
  -- What is in scope is bound, if it was before.
  pub record Adds (top : Bool) (ls : List Label) (ds : Depths) (s t : State) : Type 0 where
    pub more : List Label
    pub scope : t.scope ≡ s.scope ++ more
    pub new : Each (Among ls) more
    pub tops : (l : Label) (v : VarInfo) → IsOwn own l.0 → IsTop t l v → IsTop s l v ⊎ ((top ≡ true) × ((v.level ≡ 0) × Among ls l))
    pub bound : Each (IsBound s) s.scope → Each (IsBound t) t.scope
    pub numbered : IsNumbered own s → IsNumbered own t
    pub patterns : Each (IsBound s) s.scope → IsNumbered own s → (l : Label) (level depth : ℕ) → Among t.scope l → IsPattern t l level depth
        → (Among s.scope l × IsPattern s l level depth) ⊎ Among ds (l, depth)

-- Of the keywords whose labels were made, those that are kept stay kept; and each keyword of the library that comes is kept.
pub record Keeps (own : LibName) (s t : State) : Type 0 where
  pub kept : (l : Label) → l.0.number < s.names.number → IsKept s l → IsKept t l
  pub keywords : (l : Label) (level : ℕ) (e : Option PlainCore) → IsOwn own l.0 → IsMacro t l level e
      → IsMacro s l level e ⊎ (IsKept t l × (l.0.number < t.names.number))

-- From a state to a later one: frames that were there have the rows that they had, the same is in scope, there are no new
-- variables of the top, and keywords that come are kept.
pub record Later (own : LibName) (s t : State) : Type 0 where
  pub here : t.library ≡ s.library
  pub next : t.names.library ≡ own
  pub up : s.names.number ≤ t.names.number
  pub same : (f : FrameNo) → IsOld own s f → rows_at f t.frames ≡ rows_at f s.frames
  pub grows : Grows own s t
  pub scope : t.scope ≡ s.scope
  pub tops : (l : Label) (v : VarInfo) → IsOwn own l.0 → IsTop t l v → IsTop s l v
  pub keeps : Keeps own s t

-- from a state to a later one: but for one frame, those that were there have the rows that they had
pub record LaterBut (own : LibName) (g : FrameNo) (s t : State) : Type 0 where
  pub here : t.library ≡ s.library
  pub next : t.names.library ≡ own
  pub up : s.names.number ≤ t.names.number
  pub same : (f : FrameNo) → IsOld own s f → (f ≡ g → ⊥) → rows_at f t.frames ≡ rows_at f s.frames
  pub grows : Grows own s t

module _ (own : LibName) where
  -- What an expression of this level may refer to is among these labels: what is in scope, at level 0 the variables of the top of
  -- the library, which are of that level, and what other libraries define. The pattern variables in scope are among these, with their
  -- depths, and these are pattern variables. Nothing is asked of trees.
  pub record ReachOfCode (given : List Label) (vs : Depths) (level : ℕ) (s : State) (ls : List Label) : Type 0 where
    pub scope : Each (Among ls) s.scope
    pub top : (l : Label) (v : VarInfo) → IsOwn own l.0 → IsTop s l v → (v.level ≡ 0) × (level ≡ 0 → Among ls l)
    pub foreign : (l : Label) → Among given l → Among ls l
    pub depths : (l : Label) (at depth : ℕ) → Among s.scope l → IsPattern s l at depth → Among vs (l, depth)
    pub patterns : Each (λ (v : Label × ℕ). (at : ℕ) × IsPattern s v.0 at v.1) vs
