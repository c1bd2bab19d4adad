-- Which forms are patterns, and which pattern each of them is (libraries report 12.4).
use Rattle.std.specs.Prelude.{◌≡◌, ℕ, ◌+◌, true, false, List, [], ◌∷◌, ◌++◌, Option, Result, Ok, Err}
use Rattle.base_data.specs.Named.{Named}
use Rattle.base_data.specs.declared.atom.Atom.{Atom}
use Rattle.base_data.specs.declared.fault.Fault.{Fault}
use Rattle.base_data.specs.declared.fault.FaultKind.TheVariants as kind
use Rattle.base_data.specs.declared.name.Label.{Label}
use Rattle.base_data.specs.declared.span.Span.{Span}
use Rattle.stx_tree.specs.Tree.{Tree, atom, pair, vector, is_pair}
use Rattle.stx_frames.specs.Scope.{Scope}
use Rattle.stx_scope.specs.Same.{same_binder}
use Rattle.core_language.specs.Pattern.{PlainPattern, any, variable, literal, list, PlainPatterns, none, more, dots}
use Rattle.core_language.specs.Pattern as pattern
use Rattle.core_language.specs.declared.core_form.CoreForm.TheVariants as form
use Rattle.core_shapes.specs.At.{fault_at}
use Rattle.core_shapes.specs.Lists.{elements}
use Rattle.law_shapes.specs.Grammar.{IsId}
use Rattle.law_shapes.specs.Records.{IsKeywordIdentifier}
use Rattle.eval_pattern.specs.Compile.{PatternScope, compiled}
use Rattle.eval_pattern.specs.declared.compile.Compiled.{Compiled}
use Rattle.eval_pattern.specs.declared.compile.PatternVariable.{PatternVariable}

-- Identifiers.

-- an identifier that stands neither for the ellipsis nor for the underscore
pub record IsPlain (fs : Scope) (t : Tree) : Type 0 where
  pub is_id : IsId t
  pub no_ellipsis : IsKeywordIdentifier fs form.Ellipsis t → ⊥
  pub no_underscore : IsKeywordIdentifier fs form.Underscore t → ⊥

-- each literal is such an identifier
abbrev pub AreLiterals : Scope → List Tree → Type 0
AreLiterals fs [] = Unit {0}
AreLiterals fs (t ∷ ts) = IsPlain fs t × AreLiterals fs ts

-- one of the literals is the same identifier
pub data IsAmong (t : Tree) : List Tree → Type 0 where
  among_first : {l : Tree} {ls : List Tree} → same_binder l t ≡ true → IsAmong t (l ∷ ls)
  among_others : {l : Tree} {ls : List Tree} → IsAmong t ls → IsAmong t (l ∷ ls)

-- a form is these elements, and then what is no pair
pub data IsChain : List Tree → Tree → Tree → Type 0 where
  chain_ends : {r : Tree} → is_pair r ≡ false → IsChain [] r r
  chain_next : {span : Option Span} {x r rest : Tree} {xs : List Tree} → IsChain xs r rest → IsChain (x ∷ xs) r (pair span x rest)

module _ (fs : Scope) (literals : List Tree) where
  -- Forms under so many ellipses, with their variables from left to right.
  mutual
    pub data IsPattern : ℕ → Tree → List PatternVariable → PlainPattern → Type 0 where
      -- `_`
      an_underscore : {depth : ℕ} {t : Tree} → IsKeywordIdentifier fs form.Underscore t → IsPattern depth t [] any
      a_literal : {depth : ℕ} {t : Tree} → IsPlain fs t → IsAmong t literals → IsPattern depth t [] (literal t)
      -- any other identifier but the ellipsis
      a_variable : {depth : ℕ} {t : Tree} {l : Label} → IsPlain fs t → (IsAmong t literals → ⊥)
          → IsPattern depth t (record { id = t; label = l; depth = depth } ∷ []) (variable l)
      a_datum : {depth : ℕ} {span : Option Span} {a : Atom} → IsPattern depth (atom span a) [] (pattern.atom a)
      -- `(pattern ...)` and `(pattern ... . pattern)`
      a_list : {depth : ℕ} {t r x : Tree} {xs : List Tree} {us ws : List PatternVariable} {ps : PlainPatterns} {p : PlainPattern}
          → IsChain (x ∷ xs) r t → AreElements depth (x ∷ xs) us ps → IsPattern depth r ws p
          → IsPattern depth t (us ++ ws) (list ps p)
      -- `#(pattern ...)`
      a_vector : {depth : ℕ} {span : Option Span} {t : Tree} {us : List PatternVariable} {ps : PlainPatterns}
          → AreElements depth (elements t) us ps → IsPattern depth (vector span t) us (pattern.vector ps)

    -- elements, of which one may have an ellipsis behind it
    pub data AreElements : ℕ → List Tree → List PatternVariable → PlainPatterns → Type 0 where
      no_element : {depth : ℕ} → AreElements depth [] [] none
      an_element : {depth : ℕ} {x : Tree} {xs : List Tree} {us ws : List PatternVariable} {p : PlainPattern} {ps : PlainPatterns}
          → IsPattern depth x us p → AreElements depth xs ws ps → AreElements depth (x ∷ xs) (us ++ ws) (more p ps)
      an_ellipsis : {depth : ℕ} {x e : Tree} {xs : List Tree} {us ws : List PatternVariable} {p : PlainPattern} {ps : PlainPatterns}
          → IsPattern (depth + 1) x us p → IsKeywordIdentifier fs form.Ellipsis e → AreOthers depth xs ws ps
          → AreElements depth (x ∷ e ∷ xs) (us ++ ws) (dots p ps)

    -- elements without an ellipsis
    pub data AreOthers : ℕ → List Tree → List PatternVariable → PlainPatterns → Type 0 where
      no_other : {depth : ℕ} → AreOthers depth [] [] none
      an_other : {depth : ℕ} {x : Tree} {xs : List Tree} {us ws : List PatternVariable} {p : PlainPattern} {ps : PlainPatterns}
          → IsPattern depth x us p → AreOthers depth xs ws ps → AreOthers depth (x ∷ xs) (us ++ ws) (more p ps)

-- a variable is another identifier than each of these
abbrev pub IsNew : List PatternVariable → Tree → Type 0
IsNew [] t = Unit {0}
IsNew (v ∷ vs) t = (same_binder v.id t ≡ false) × IsNew vs t

-- no variable comes twice, nor again behind those before
abbrev pub AreNew : List PatternVariable → List PatternVariable → Type 0
AreNew before [] = Unit {0}
AreNew before (v ∷ vs) = IsNew before v.id × AreNew (before ++ v ∷ []) vs

abbrev pub next_name : Named → Named
next_name n = record { library = n.library; number = n.number + 1 }

-- the labels are names in order, from one to another
abbrev pub AreNumbered : Named → List PatternVariable → Named → Type 0
AreNumbered n [] m = n ≡ m
AreNumbered n (v ∷ vs) m = (v.label ≡ record { 0 = n }) × AreNumbered (next_name n) vs m

-- a form with the pattern that it is
pub record IsCompiled (c : PatternScope) (t : Tree) (n : Named) (r : Compiled × Named) : Type 0 where
  pub are_literals : AreLiterals c.frames c.literals
  pub is_pattern : IsPattern c.frames c.literals 0 t r.0.variables r.0.pattern
  pub new : AreNew [] r.0.variables
  pub numbered : AreNumbered n r.0.variables r.1

-- a form, or one inside it
pub data IsPartOfForm (u : Tree) : Tree → Type 0 where
  itself : IsPartOfForm u u
  in_first : {span : Option Span} {a d : Tree} → IsPartOfForm u a → IsPartOfForm u (pair span a d)
  in_rest : {span : Option Span} {a d : Tree} → IsPartOfForm u d → IsPartOfForm u (pair span a d)
  in_vector : {span : Option Span} {t : Tree} → IsPartOfForm u t → IsPartOfForm u (vector span t)

pub data IsIn (u : Tree) : List Tree → Type 0 where
  is_first : {ts : List Tree} → IsIn u (u ∷ ts)
  is_behind : {t : Tree} {ts : List Tree} → IsIn u ts → IsIn u (t ∷ ts)

-- BadPattern at a literal, or at a part of the form
pub data IsBadPattern (c : PatternScope) (t : Tree) : Fault → Type 0 where
  bad_literal : {u : Tree} → IsIn u c.literals → IsBadPattern c t (fault_at kind.BadPattern u c.place [])
  bad_part : {u : Tree} → IsPartOfForm u t → IsBadPattern c t (fault_at kind.BadPattern u c.place [])

-- what is a pattern is compiled to it
abbrev pub PatternsAreCompiled : Type 0
PatternsAreCompiled = (c : PatternScope) (t : Tree) (n : Named) (r : Compiled × Named) → IsCompiled c t n r → compiled c t n ≡ Ok r

-- what is compiled is a pattern, and else the fault is BadPattern
abbrev pub IsTold : PatternScope → Tree → Named → Result (Compiled × Named) Fault → Type 0
IsTold c t n (Ok r) = IsCompiled c t n r
IsTold c t n (Err f) = IsBadPattern c t f

abbrev pub OthersAreBadPatterns : Type 0
OthersAreBadPatterns = (c : PatternScope) (t : Tree) (n : Named) → IsTold c t n (compiled c t n)
