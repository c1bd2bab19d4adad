-- When a template repeats a pattern, and when a value is the same data as another.
use Rattle.std.specs.Prelude.{◌≡◌, ℕ, suc, true, false, List, [], ◌∷◌, ◌++◌, Option, Some, Result, Ok}
use Rattle.base_data.specs.Same.{same_name}
use Rattle.base_data.specs.declared.atom.Atom.{Atom}
use Rattle.base_data.specs.declared.atom.Atom.TheVariants.{Nil}
use Rattle.base_data.specs.declared.fault.Bare.{Bare}
use Rattle.base_data.specs.declared.name.Label.{Label}
use Rattle.base_data.specs.declared.span.Span.{Span}
use Rattle.stx_tree.specs.Tree as tree
use Rattle.stx_tree.specs.Tree.{Tree}
use Rattle.stx_frames.specs.Scope.{Scope}
use Rattle.core_language.specs.Pattern.{PlainPattern, any, variable, literal, atom, list, vector, PlainPatterns, none, more, dots}
use Rattle.core_language.specs.Template.{PlainTemplate, PlainItems}
use Rattle.core_language.specs.Template as template
use Rattle.core_shapes.specs.Lists.{is_leaf}
use Rattle.eval_value.specs.FromDatum.{Keeps}
use Rattle.eval_value.specs.declared.cell.Cell.{Cell}
use Rattle.eval_value.specs.declared.value.Value.{Value}
use Rattle.eval_value.specs.declared.value.Value.TheVariants as value
use Rattle.eval_pattern.specs.Values.{atom_of, is_alike, vector_of}
use Rattle.law_matches.specs.Matches.{pair_of}

-- the variables of a pattern, from left to right
abbrev mutual
  pub variables : PlainPattern → List Label
  variables any = []
  variables (variable l) = l ∷ []
  variables (literal t) = []
  variables (atom a) = []
  variables (list ps t) = all_variables ps ++ variables t
  variables (vector ps) = all_variables ps

  pub all_variables : PlainPatterns → List Label
  all_variables none = []
  all_variables (more p ps) = variables p ++ all_variables ps
  all_variables (dots p ps) = variables p ++ all_variables ps

abbrev pub Differs : Label → List Label → Type 0
Differs l [] = Unit {0}
Differs l (m ∷ ms) = (same_name l.0 m.0 ≡ false) × Differs l ms

-- no label comes again
abbrev pub Distinct : List Label → Type 0
Distinct [] = Unit {0}
Distinct (l ∷ ls) = Differs l ls × Distinct ls

abbrev pub IsSome : List Label → Type 0
IsSome [] = ⊥
IsSome (l ∷ ls) = Unit {0}

-- a form is written as a pattern without variables is
mutual
  pub data SpellsRepeats : PlainPattern → Tree → Type 0 where
    spells_literal : {t : Tree} → is_leaf t ≡ true → SpellsRepeats (literal t) t
    spells_atom : {a : Atom} {s : Option Span} → SpellsRepeats (atom a) (tree.atom s a)
    spells_list : {ps : PlainPatterns} {p : PlainPattern} {t : Tree} → SpellsAllRepeats ps p t → SpellsRepeats (list ps p) t
    spells_vector : {ps : PlainPatterns} {s : Option Span} {t : Tree} → SpellsAllRepeats ps (atom Nil) t → SpellsRepeats (vector ps) (tree.vector s t)

  -- elements, and then what ends them
  pub data SpellsAllRepeats : PlainPatterns → PlainPattern → Tree → Type 0 where
    spells_end : {p : PlainPattern} {t : Tree} → SpellsRepeats p t → SpellsAllRepeats none p t
    spells_more : {p q : PlainPattern} {ps : PlainPatterns} {s : Option Span} {t u : Tree} → SpellsRepeats p t → SpellsAllRepeats ps q u
        → SpellsAllRepeats (more p ps) q (tree.pair s t u)

-- A template repeats a pattern, under so many ellipses: each variable carries their number as its depth, a part without
-- variables may be the form itself, and an ellipsis stands behind a part with a variable. So no pattern with an underscore is
-- repeated.
mutual
  pub data IsRepeat : ℕ → PlainPattern → PlainTemplate → Type 0 where
    repeats_variable : {depth : ℕ} {l : Label} → IsRepeat depth (variable l) (template.variable l depth)
    repeats_form : {depth : ℕ} {p : PlainPattern} {t : Tree} → SpellsRepeats p t → IsRepeat depth p (template.constant t)
    repeats_list : {depth : ℕ} {ps : PlainPatterns} {p : PlainPattern} {is : PlainItems} {t : PlainTemplate} → AreRepeats depth ps is
        → IsRepeat depth p t → IsRepeat depth (list ps p) (template.list is t)
    repeats_vector : {depth : ℕ} {ps : PlainPatterns} {is : PlainItems} → AreRepeats depth ps is → IsRepeat depth (vector ps) (template.vector is)

  pub data AreRepeats : ℕ → PlainPatterns → PlainItems → Type 0 where
    repeats_none : {depth : ℕ} → AreRepeats depth none template.none
    repeats_more : {depth : ℕ} {p : PlainPattern} {ps : PlainPatterns} {t : PlainTemplate} {is : PlainItems} → IsRepeat depth p t
        → AreRepeats depth ps is → AreRepeats depth (more p ps) (template.more t 0 is)
    repeats_dots : {depth : ℕ} {p : PlainPattern} {ps : PlainPatterns} {t : PlainTemplate} {is : PlainItems} → IsSome (variables p)
        → IsRepeat (suc depth) p t → AreRepeats depth ps is → AreRepeats depth (dots p ps) (template.more t 1 is)

-- A value over new cells is the same data as one over old cells, where it is the value itself, an identifier of the same
-- binding, or the same atom, or where both are pairs or vectors and their parts are the same data. Whether a pair, a vector or
-- an atom is of the store or of a syntax tree makes no difference.
mutual
  pub data Alike (fs : Scope) (old new : List Cell) : Value → Value → Type 0 where
    itself : {v : Value} → Alike fs old new v v
    same_leaf : {t : Tree} {v : Value} → is_alike fs t v ≡ true → Alike fs old new v (value.Syn t)
    same_atom : {a : Atom} {v w : Value} → atom_of old v ≡ Some a → atom_of new w ≡ Some a → Alike fs old new v w
    same_pair : {v w x d y e : Value} → pair_of old v ≡ Some (x, d) → pair_of new w ≡ Some (y, e) → Alike fs old new x y
        → Alike fs old new d e → Alike fs old new v w
    same_vector : {v w : Value} {xs ys : List Value} → vector_of old v ≡ Some xs → vector_of new w ≡ Some ys → AreAlike fs old new xs ys → Alike fs old new v w

  pub data AreAlike (fs : Scope) (old new : List Cell) : List Value → List Value → Type 0 where
    all_alike : AreAlike fs old new [] []
    next_alike : {x y : Value} {xs ys : List Value} → Alike fs old new x y → AreAlike fs old new xs ys → AreAlike fs old new (x ∷ xs) (y ∷ ys)

-- something is made, without a fault: it is the same data as the value, and the old cells are there as they were
pub record GivesBack (fs : Scope) (old : List Cell) (v : Value) (cells : List Cell) (given : Result (Value × List Cell) Bare) : Type 0 where
  pub made : Value
  pub later : List Cell
  pub is : given ≡ Ok (made, later)
  pub kept : Keeps cells later
  pub alike : Alike fs old later v made
