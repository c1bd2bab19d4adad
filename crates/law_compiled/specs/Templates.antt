-- Which forms are templates of `syntax`, and which template each of them is (libraries report 12.4).
use Rattle.std.specs.Prelude.{◌≡◌, ℕ, zero, suc, ◌+◌, ◌≤◌, Bool, true, false, List, [], ◌∷◌, Option, None, Some, Result, Ok, Err}
use Rattle.base_data.specs.declared.atom.Atom.{Atom}
use Rattle.base_data.specs.declared.fault.Fault.{Fault}
use Rattle.base_data.specs.declared.fault.FaultKind.TheVariants as kind
use Rattle.base_data.specs.declared.name.Label.{Label}
use Rattle.base_data.specs.declared.span.Span.{Span}
use Rattle.stx_tree.specs.Context.{LeafContext}
use Rattle.stx_tree.specs.Tree.{Tree, atom, leaf, pair, vector, nil, chain, unspanned}
use Rattle.stx_frames.specs.Scope.{Scope}
use Rattle.stx_scope.specs.Stands.{stands}
use Rattle.core_language.specs.Bindings.{bound_to}
use Rattle.core_language.specs.Template as template
use Rattle.core_language.specs.Template.{PlainTemplate, PlainItems}
use Rattle.core_language.specs.declared.binding.Binding.TheVariants as binding
use Rattle.core_language.specs.declared.core_form.CoreForm.TheVariants as form
use Rattle.law_core.specs.Templates.{HasDepth}
use Rattle.core_shapes.specs.At.{fault_at}
use Rattle.core_shapes.specs.Lists.{elements}
use Rattle.law_shapes.specs.Grammar.{IsId, IsList}
use Rattle.law_shapes.specs.Records.{IsKeywordIdentifier}
use Rattle.eval_template.specs.Compile.{TemplateScope, compiled}
use Rattle.law_patterns.specs.Patterns.{IsChain, IsPartOfForm}

-- Identifiers.

-- it stands for a pattern variable of this level and depth
pub record IsBoundAt (c : TemplateScope) (t : Tree) (l : Label) (level depth : ℕ) : Type 0 where
  pub label : stands c.frames t ≡ Some l
  pub bound : bound_to c.bindings l ≡ Some (binding.PatternVariable level depth)

-- an identifier that stands for no pattern variable
pub record IsOther (c : TemplateScope) (t : Tree) : Type 0 where
  pub is_id : IsId t
  pub other : (l : Label) (level depth : ℕ) → IsBoundAt c t l level depth → ⊥

-- Where an ellipsis escapes a template, the ellipses in it are identifiers as any others.
abbrev pub IsFree : Scope → Bool → Tree → Type 0
IsFree fs true t = Unit {0}
IsFree fs false t = IsKeywordIdentifier fs form.Ellipsis t → ⊥

-- Ellipses.

-- these do not begin with an ellipsis
abbrev pub AreFree : Scope → Bool → List Tree → Type 0
AreFree fs escaped [] = Unit {0}
AreFree fs escaped (t ∷ ts) = IsFree fs escaped t

-- forms are so many ellipses, and then these
pub data AreDotted (fs : Scope) (escaped : Bool) : List Tree → ℕ → List Tree → Type 0 where
  undotted : {ts : List Tree} → AreFree fs escaped ts → AreDotted fs escaped ts 0 ts
  dotted : {e : Tree} {ts rest : List Tree} {n : ℕ} → escaped ≡ false → IsKeywordIdentifier fs form.Ellipsis e
      → AreDotted fs escaped ts n rest → AreDotted fs escaped (e ∷ ts) (suc n) rest

-- for each of so many ellipses behind a template there is a variable in it that the ellipsis repeats
abbrev pub IsRepeated : ℕ → PlainTemplate → Type 0
IsRepeated zero t = Unit {0}
IsRepeated (suc n) t = HasDepth (suc n) t

-- Constants have no spans.

-- the trees of items that are all constants
abbrev pub before : Tree → Option (List Tree) → Option (List Tree)
before t None = None
before t (Some ts) = Some (t ∷ ts)

abbrev pub constants : PlainItems → Option (List Tree)
constants template.none = Some []
constants (template.more (template.variable l d) n is) = None
constants (template.more (template.constant t) n is) = before t (constants is)
constants (template.more (template.list js t) n is) = None
constants (template.more (template.vector js) n is) = None

-- a list or vector of constants is a constant
abbrev pub list_by : PlainItems → Option (List Tree) → PlainTemplate → PlainTemplate
list_by is None t = template.list is t
list_by is (Some us) (template.variable l d) = template.list is (template.variable l d)
list_by is (Some us) (template.constant u) = template.constant (chain us u)
list_by is (Some us) (template.list js t) = template.list is (template.list js t)
list_by is (Some us) (template.vector js) = template.list is (template.vector js)

abbrev pub vector_by : PlainItems → Option (List Tree) → PlainTemplate
vector_by is None = template.vector is
vector_by is (Some us) = template.constant (vector None (chain us nil))

-- Forms, escaped or not, under so many ellipses.
mutual
  pub data IsTemplate (c : TemplateScope) : Bool → ℕ → Tree → PlainTemplate → Type 0 where
    a_datum : {escaped : Bool} {under : ℕ} {span : Option Span} {a : Atom} → IsTemplate c escaped under (atom span a) (template.constant (atom None a))
    an_identifier : {escaped : Bool} {under : ℕ} {t : Tree} → IsFree c.frames escaped t → IsOther c t
        → IsTemplate c escaped under t (template.constant (unspanned t))
    -- a pattern variable of the template's level, under at least as many ellipses as its depth
    a_variable : {escaped : Bool} {under : ℕ} {t : Tree} {l : Label} {depth : ℕ}
        → IsId t → IsFree c.frames escaped t → IsBoundAt c t l c.level depth → depth ≤ under → IsTemplate c escaped under t (template.variable l depth)
    -- `(... template)` is the template, in which ellipses are plain
    an_escape : {under : ℕ} {e t u : Tree} {p : PlainTemplate} → IsKeywordIdentifier c.frames form.Ellipsis e → IsList (e ∷ u ∷ []) t
        → IsTemplate c true under u p → IsTemplate c false under t p
    -- `(subtemplate ...)` and `(subtemplate ... . template)`
    a_list : {escaped : Bool} {under : ℕ} {t r x : Tree} {xs : List Tree} {is : PlainItems} {p : PlainTemplate}
        → IsChain (x ∷ xs) r t → AreSubtemplates c escaped under (x ∷ xs) is → IsTemplate c escaped under r p
        → IsTemplate c escaped under t (list_by is (constants is) p)
    -- `#(subtemplate ...)`
    a_vector : {escaped : Bool} {under : ℕ} {span : Option Span} {t : Tree} {xs : List Tree} {is : PlainItems}
        → IsList xs t → AreSubtemplates c escaped under xs is → IsTemplate c escaped under (vector span t) (vector_by is (constants is))

  -- subtemplates: each a template with the ellipses behind it
  pub data AreSubtemplates (c : TemplateScope) : Bool → ℕ → List Tree → PlainItems → Type 0 where
    no_item : {escaped : Bool} {under : ℕ} → AreSubtemplates c escaped under [] template.none
    an_item : {escaped : Bool} {under n : ℕ} {x : Tree} {xs rest : List Tree} {p : PlainTemplate} {is : PlainItems}
        → AreDotted c.frames escaped xs n rest → IsTemplate c escaped (under + n) x p → IsRepeated n p
        → AreSubtemplates c escaped under rest is → AreSubtemplates c escaped under (x ∷ xs) (template.more p n is)

-- Faults.

-- what is at fault at a part of a template: an ellipsis that repeats nothing, a variable under too few ellipses or of another level; or
-- what is left of the part, where escapes are taken out, passes a limit of trees
pub data IsBadPart (c : TemplateScope) : Tree → Fault → Type 0 where
  a_bad_ellipsis : {t : Tree} → IsKeywordIdentifier c.frames form.Ellipsis t → IsBadPart c t (fault_at kind.BadTemplate t c.place [])
  a_shallow_variable : {t : Tree} {l : Label} {depth : ℕ} → IsBoundAt c t l c.level depth → 1 ≤ depth → IsBadPart c t (fault_at kind.BadTemplate t c.place [])
  a_distant_variable : {span : Option Span} {x : List ℕ} {k : LeafContext} {l : Label} {level depth : ℕ}
      → IsBoundAt c (leaf span x k) l level depth → (level ≡ c.level → ⊥)
      → IsBadPart c (leaf span x k) (fault_at kind.OutOfContext (leaf span x k) c.place (x ∷ []))
  too_large : {t : Tree} → IsBadPart c t (fault_at kind.TooDeep t c.place [])

pub record IsBadTemplate (c : TemplateScope) (t : Tree) (f : Fault) : Type 0 where
  pub at : Tree
  pub part : IsPartOfForm at t
  pub is : IsBadPart c at f

-- each vector in a form holds a list that ends in the empty list
abbrev pub HoldsLists : Tree → Type 0
HoldsLists (atom s a) = Unit {0}
HoldsLists (leaf s x k) = Unit {0}
HoldsLists (pair s a d) = HoldsLists a × HoldsLists d
HoldsLists (vector s d) = IsList (elements d) d × HoldsLists d

-- what is compiled is a template, and else a part of it is at fault
abbrev pub IsMade : TemplateScope → Tree → Result PlainTemplate Fault → Type 0
IsMade c t (Ok p) = IsTemplate c false 0 t p
IsMade c t (Err f) = IsBadTemplate c t f

abbrev pub OthersAreBadTemplates : Type 0
OthersAreBadTemplates = (c : TemplateScope) (t : Tree) → HoldsLists t → IsMade c t (compiled c t)

-- what is a template is compiled to it, unless what is left of a part passes a limit of trees
abbrev pub Comes : PlainTemplate → Result PlainTemplate Fault → Type 0
Comes p (Ok q) = q ≡ p
Comes p (Err f) = f.kind ≡ kind.TooDeep

abbrev pub TemplatesAreCompiled : Type 0
TemplatesAreCompiled = (c : TemplateScope) (t : Tree) (p : PlainTemplate) → HoldsLists t → IsTemplate c false 0 t p → Comes p (compiled c t)
