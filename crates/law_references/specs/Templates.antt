-- The identifiers of a template: each of its pattern variables is an identifier of the form that stands for it, and its other identifiers are left as they are.
use Rattle.std.specs.Prelude.{◌≡◌, ◌⊎◌, ℕ, nat_eq, Bool, true, false, List, [], ◌∷◌, ◌++◌, Option, None, Some, if◌then◌else◌}
use Rattle.base_data.specs.Elements.{Each}
use Rattle.base_data.specs.declared.name.Label.{Label}
use Rattle.base_data.specs.declared.span.Span.{Span}
use Rattle.stx_tree.specs.Context.{LeafContext}
use Rattle.stx_tree.specs.Tree.{Tree, atom, leaf, pair, vector}
use Rattle.stx_scope.specs.Stands.{stands}
use Rattle.core_language.specs.Bindings.{bound_to}
use Rattle.core_language.specs.Core.{instance}
use Rattle.core_language.specs.Template as template
use Rattle.core_language.specs.Template.{PlainTemplate, PlainItems}
use Rattle.core_language.specs.declared.binding.Binding.{Binding}
use Rattle.core_language.specs.declared.binding.Binding.TheVariants as binding
use Rattle.eval_pattern.specs.Keywords.{is_ellipsis}
use Rattle.core_shapes.specs.Lists.{is_nil}
use Rattle.expand_standing.specs.State.{State}
use Rattle.eval_template.specs.Compile.{is_special}
use Rattle.law_references.specs.Changes.{FormPlace}
use Rattle.law_references.specs.Namings.{template_namings}
use Rattle.law_references.specs.Noted.{Reference, named}

-- the leaves of a tree, from left to right
abbrev pub leaves : Tree → List Tree
leaves (atom p a) = []
leaves (leaf p x c) = leaf p x c ∷ []
leaves (pair p a d) = leaves a ++ leaves d
leaves (vector p d) = leaves d

-- some of these, in the order in which they stand
pub data AreSome : List Tree → List Tree → Type 0 where
  no_more : AreSome [] []
  taken : {x : Tree} {xs ys : List Tree} → AreSome xs ys → AreSome (x ∷ xs) (x ∷ ys)
  passed : {y : Tree} {xs ys : List Tree} → AreSome xs ys → AreSome xs (y ∷ ys)

abbrev pub leaves_of : List Reference → List Tree
leaves_of [] = []
leaves_of (r ∷ rs) = r.leaf ∷ leaves_of rs

-- a leaf of this tree has the symbol and the context
abbrev pub HasIdentifier : Tree → List ℕ → LeafContext → Type 0
HasIdentifier (atom p a) x k = ⊥
HasIdentifier (leaf p y c) x k = (x ≡ y) × (k ≡ c)
HasIdentifier (pair p a d) x k = HasIdentifier a x k ⊎ HasIdentifier d x k
HasIdentifier (vector p d) x k = HasIdentifier d x k

-- so it is of the symbol and the context of each leaf
module _ (Q : List ℕ → LeafContext → Type 0) where
  abbrev pub LeavesHold : Tree → Type 0
  LeavesHold (atom p a) = Unit {0}
  LeavesHold (leaf p x c) = Q x c
  LeavesHold (pair p a d) = LeavesHold a × LeavesHold d
  LeavesHold (vector p d) = LeavesHold d

  -- of those in the constants of a template
  abbrev mutual
    pub ConstantsHold : PlainTemplate → Type 0
    ConstantsHold (template.variable l d) = Unit {0}
    ConstantsHold (template.constant t) = LeavesHold t
    ConstantsHold (template.list is t) = ItemConstantsHold is × ConstantsHold t
    ConstantsHold (template.vector is) = ItemConstantsHold is

    pub ItemConstantsHold : PlainItems → Type 0
    ItemConstantsHold template.none = Unit {0}
    ItemConstantsHold (template.more t e is) = ConstantsHold t × ItemConstantsHold is

-- a list of one element
abbrev pub is_one : Tree → Bool
is_one (atom p a) = false
is_one (leaf p x k) = false
is_one (pair p a d) = is_nil d
is_one (vector p d) = false

-- The pattern variables of a template, of a level, in the order of the leaves that stand for them, each with the template at this place that has no more than it.
module _ (s : State) (place : Span) (level : ℕ) where
  abbrev pub of_binding : Tree → Label → Option Binding → List Reference
  of_binding t l (Some (binding.PatternVariable at depth)) = if nat_eq at level then
      record { leaf = t; state = s; label = l; code = instance (template.variable l depth) place } ∷ [] else []
  of_binding t l _ = []

  abbrev pub of_label : Tree → Option Label → List Reference
  of_label t None = []
  of_label t (Some l) = of_binding t l (bound_to s.bindings l)

  -- an ellipsis is none of them, but in an escaped template it is an identifier as any other
  abbrev pub of_leaf : Bool → Tree → List Reference
  of_leaf escaped t = if is_special escaped (stands s.frames t) then [] else of_label t (stands s.frames t)

  -- `(... template)`, whose template is escaped
  abbrev pub is_escape : Bool → Tree → Tree → Bool
  is_escape escaped a d = if escaped then false else if is_one d then is_ellipsis s.frames a else false

  abbrev mutual
    pub variables_in : Bool → Tree → List Reference
    variables_in escaped (atom p a) = []
    variables_in escaped (leaf p x k) = of_leaf escaped (leaf p x k)
    variables_in escaped (pair p a d) = if is_escape escaped a d then variables_behind true d else variables_in escaped a ++ variables_behind escaped d
    variables_in escaped (vector p d) = element_variables escaped d

    -- of what stands behind an element of a list
    pub variables_behind : Bool → Tree → List Reference
    variables_behind escaped (atom p a) = []
    variables_behind escaped (leaf p x k) = of_leaf escaped (leaf p x k)
    variables_behind escaped (pair p a d) = variables_in escaped a ++ variables_behind escaped d
    variables_behind escaped (vector p d) = element_variables escaped d

    -- of the elements of a vector
    pub element_variables : Bool → Tree → List Reference
    element_variables escaped (atom p a) = []
    element_variables escaped (leaf p x k) = []
    element_variables escaped (pair p a d) = variables_in escaped a ++ element_variables escaped d
    element_variables escaped (vector p d) = []

-- A leaf that stands for a pattern variable of this level, and is the template at this place that has no more than the variable.
pub record IsPatternVariable (s : State) (place : Span) (level : ℕ) (r : Reference) : Type 0 where
  pub state : r.state ≡ s
  pub stood : stands s.frames r.leaf ≡ Some r.label
  pub depth : ℕ
  pub bound : bound_to s.bindings r.label ≡ Some (binding.PatternVariable level depth)
  pub code : r.code ≡ instance (template.variable r.label depth) place

-- A template of a form: its pattern variables are those that these leaves of the form stand for, which are all that stand for one of the level, in the order in
-- which they stand there, and all other identifiers in it are identifiers of the form as they are.
pub record IsTemplateOf (s : State) (at : FormPlace) (t : Tree) (x : PlainTemplate) (refs : List Reference) : Type 0 where
  pub are : refs ≡ variables_in s at.place at.level false t
  pub all : template_namings x ≡ named refs
  pub variables : Each (IsPatternVariable s at.place at.level) refs
  pub places : AreSome (leaves_of refs) (leaves t)
  pub constants : ConstantsHold (HasIdentifier t) x
