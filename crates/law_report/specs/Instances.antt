-- What a template gives, by the cases of the libraries report 12.4. Where lengths differ at an ellipsis, the first two that differ are told.
use Rattle.std.specs.Prelude.{◌≡◌, ℕ, suc, ◌+◌, ◌-◌, ◌<◌, ◌≤◌, List, [], ◌∷◌, ◌++◌, length, drop, decimal, Option, Some, Result, Ok, Err}
use Rattle.base_data.specs.declared.atom.Atom.TheVariants.{Nil}
use Rattle.base_data.specs.declared.fault.Bare.{Bare}
use Rattle.base_data.specs.declared.fault.FaultKind.TheVariants as kind
use Rattle.base_data.specs.declared.name.Label.{Label}
use Rattle.base_data.specs.declared.span.Span.{Span}
use Rattle.base_region.specs.declared.region.Place.{Place}
use Rattle.stx_tree.specs.Tree as tree
use Rattle.core_language.specs.Template.{PlainTemplate, variable, constant, list, vector, PlainItems, none, more}
use Rattle.eval_value.specs.Bind.{PlainBind, one, many, PlainBinds}
use Rattle.eval_value.specs.Bind as bind
use Rattle.eval_value.specs.Cells.{pair_at, vector_at}
use Rattle.eval_value.specs.FromDatum.{Keeps}
use Rattle.eval_value.specs.declared.cell.Cell.{Cell}
use Rattle.eval_value.specs.declared.value.Value.{Value}
use Rattle.eval_value.specs.declared.value.Value.TheVariants as value
use Rattle.eval_template.specs.Binds.{Binds, Absent}
use Rattle.eval_template.specs.Instance.{instance}
use Rattle.law_templates.specs.Ready.{Ready}

-- Variables.

-- what a variable is bound to: its first bind counts
pub data HasBinds (l : Label) : Binds → PlainBind → Type 0 where
  bound_first : {b : PlainBind} {bs : Binds} → HasBinds l ((l, b) ∷ bs) b
  bound_behind : {m : Label} {a b : PlainBind} {bs : Binds} → (m ≡ l → ⊥) → HasBinds l bs b → HasBinds l ((m, a) ∷ bs) b

-- the bind of a turn, counted from 0
pub data IsTurn : ℕ → PlainBinds → PlainBind → Type 0 where
  turn_first : {b : PlainBind} {bs : PlainBinds} → IsTurn 0 (bind.more b bs) b
  turn_behind : {i : ℕ} {a b : PlainBind} {bs : PlainBinds} → IsTurn i bs b → IsTurn (suc i) (bind.more a bs) b

-- the bind that is reached by turns, the outermost first
pub data IsReached : PlainBind → List ℕ → PlainBind → Type 0 where
  reached_here : {b : PlainBind} → IsReached b [] b
  reached_by : {i : ℕ} {is : List ℕ} {a b : PlainBind} {bs : PlainBinds} → IsTurn i bs a → IsReached a is b → IsReached (many bs) (i ∷ is) b

-- a variable takes its innermost turns, so many
pub data IsSeen (binds : Binds) (l : Label) (depth : ℕ) (turns : List ℕ) (b : PlainBind) : Type 0 where
  seen : {a : PlainBind} → HasBinds l binds a → IsReached a (drop (length turns - depth) turns) b → IsSeen binds l depth turns b

-- Lengths at an ellipsis inside which so many others stand, in order of place: of each variable that has a turn for it.

pub data HasLength : PlainBinds → ℕ → Type 0 where
  no_binds : HasLength bind.none 0
  one_bind : {b : PlainBind} {bs : PlainBinds} {n : ℕ} → HasLength bs n → HasLength (bind.more b bs) (suc n)

mutual
  pub data AreLengths (binds : Binds) (turns : List ℕ) : ℕ → PlainTemplate → List ℕ → Type 0 where
    long_variable : {inside depth n : ℕ} {l : Label} {bs : PlainBinds} → inside < depth
        → IsSeen binds l (depth - suc inside) turns (many bs) → HasLength bs n → AreLengths binds turns inside (variable l depth) (n ∷ [])
    short_variable : {inside depth : ℕ} {l : Label} → depth ≤ inside → AreLengths binds turns inside (variable l depth) []
    of_constant : {inside : ℕ} {t : tree.Tree} → AreLengths binds turns inside (constant t) []
    of_list : {inside : ℕ} {is : PlainItems} {t : PlainTemplate} {ms ns : List ℕ} → AreItemLengths binds turns inside is ms
        → AreLengths binds turns inside t ns → AreLengths binds turns inside (list is t) (ms ++ ns)
    of_vector : {inside : ℕ} {is : PlainItems} {ms : List ℕ} → AreItemLengths binds turns inside is ms → AreLengths binds turns inside (vector is) ms

  pub data AreItemLengths (binds : Binds) (turns : List ℕ) : ℕ → PlainItems → List ℕ → Type 0 where
    of_none : {inside : ℕ} → AreItemLengths binds turns inside none []
    of_more : {inside ellipses : ℕ} {t : PlainTemplate} {is : PlainItems} {ms ns : List ℕ}
        → AreLengths binds turns (inside + ellipses) t ms → AreItemLengths binds turns inside is ns
        → AreItemLengths binds turns inside (more t ellipses is) (ms ++ ns)

abbrev pub AllAre : ℕ → List ℕ → Type 0
AllAre n [] = Unit {0}
AllAre n (m ∷ ms) = (m ≡ n) × AllAre n ms

-- the one length that they all are; without any there is no turn
pub data IsAgreed : ℕ → List ℕ → Type 0 where
  no_lengths : IsAgreed 0 []
  same_lengths : {n : ℕ} {ns : List ℕ} → AllAre n ns → IsAgreed n (n ∷ ns)

-- Instances.

-- values in pairs of the store, and what ends them
pub data IsListed (cells : List Cell) : List Value → Value → Value → Type 0 where
  listed_none : {w : Value} → IsListed cells [] w w
  listed_pair : {p : Place} {x d w : Value} {xs : List Value} → pair_at cells p.0 ≡ Some (x, d) → IsListed cells xs w d
      → IsListed cells (x ∷ xs) w (value.Pair p)

-- the constant `()`
pub data IsNil : PlainTemplate → Type 0 where
  nil : {span : Option Span} → IsNil (constant (tree.atom span Nil))

-- so many turns, from the i-th on
pub record TurnsFrom : Type 0 where
  pub first : ℕ
  pub count : ℕ

abbrev pub turns_from : ℕ → ℕ → TurnsFrom
turns_from i n = record { first = i; count = n }

module _ (binds : Binds) (cells : List Cell) where
  mutual
    pub data IsInstance : List ℕ → PlainTemplate → Value → Type 0 where
      -- a pattern variable gives what it is bound to
      of_variable : {turns : List ℕ} {l : Label} {depth : ℕ} {v : Value} → IsSeen binds l depth turns (one v) → IsInstance turns (variable l depth) v
      -- any other form gives itself
      itself : {turns : List ℕ} {t : tree.Tree} → IsInstance turns (constant t) (value.Syn t)
      as_list : {turns : List ℕ} {is : PlainItems} {t : PlainTemplate} {xs : List Value} {w v : Value}
          → AreInstances turns is xs → IsEnd turns t w → IsListed cells xs w v → IsInstance turns (list is t) v
      as_vector : {turns : List ℕ} {is : PlainItems} {xs : List Value} {p : Place} → AreInstances turns is xs
          → vector_at cells p.0 ≡ Some xs → IsInstance turns (vector is) (value.Vector p)

    -- a list ends in the empty list itself
    pub data IsEnd : List ℕ → PlainTemplate → Value → Type 0 where
      plain_end : {turns : List ℕ} {t : PlainTemplate} → IsNil t → IsEnd turns t (value.Atom Nil)
      other_end : {turns : List ℕ} {t : PlainTemplate} {w : Value} → (IsNil t → ⊥) → IsInstance turns t w → IsEnd turns t w

    pub data AreInstances : List ℕ → PlainItems → List Value → Type 0 where
      no_instance : {turns : List ℕ} → AreInstances turns none []
      with_instances : {turns : List ℕ} {t : PlainTemplate} {ellipses : ℕ} {is : PlainItems} {xs ys : List Value}
          → AreRepeated turns t ellipses xs → AreInstances turns is ys → AreInstances turns (more t ellipses is) (xs ++ ys)

    -- a template with so many ellipses behind it: the outermost has as many turns as the variables that it repeats have binds
    pub data AreRepeated : List ℕ → PlainTemplate → ℕ → List Value → Type 0 where
      no_ellipsis : {turns : List ℕ} {t : PlainTemplate} {v : Value} → IsInstance turns t v → AreRepeated turns t 0 (v ∷ [])
      an_ellipsis : {turns : List ℕ} {t : PlainTemplate} {ellipses n : ℕ} {ns : List ℕ} {xs : List Value}
          → AreLengths binds turns ellipses t ns → IsAgreed n ns → AreTurns turns t ellipses (turns_from 0 n) xs
          → AreRepeated turns t (suc ellipses) xs

    -- these turns of a template with so many ellipses behind it
    pub data AreTurns : List ℕ → PlainTemplate → ℕ → TurnsFrom → List Value → Type 0 where
      no_turn : {turns : List ℕ} {t : PlainTemplate} {ellipses i : ℕ} → AreTurns turns t ellipses (turns_from i 0) []
      a_turn : {turns : List ℕ} {t : PlainTemplate} {ellipses n i : ℕ} {xs ys : List Value}
          → AreRepeated (turns ++ i ∷ []) t ellipses xs → AreTurns turns t ellipses (turns_from (i + 1) n) ys
          → AreTurns turns t ellipses (turns_from i (suc n)) (xs ++ ys)

-- a template with so many ellipses behind it, somewhere in another
mutual
  pub data IsWithin (u : PlainTemplate) (ellipses : ℕ) : PlainTemplate → Type 0 where
    in_items : {is : PlainItems} {t : PlainTemplate} → IsItem u ellipses is → IsWithin u ellipses (list is t)
    in_end : {is : PlainItems} {t : PlainTemplate} → IsWithin u ellipses t → IsWithin u ellipses (list is t)
    in_vector : {is : PlainItems} → IsItem u ellipses is → IsWithin u ellipses (vector is)

  pub data IsItem (u : PlainTemplate) (ellipses : ℕ) : PlainItems → Type 0 where
    this_item : {is : PlainItems} → IsItem u ellipses (more u ellipses is)
    inside_item : {t : PlainTemplate} {n : ℕ} {is : PlainItems} → IsWithin u ellipses t → IsItem u ellipses (more t n is)
    later_item : {t : PlainTemplate} {n : ℕ} {is : PlainItems} → IsItem u ellipses is → IsItem u ellipses (more t n is)

-- The first length at an ellipsis, and the first behind it that is another, are the words.
pub data AreUneven (binds : Binds) (t : PlainTemplate) (inside : ℕ) : Bare → Type 0 where
  uneven : (turns : List ℕ) (m n : ℕ) (before after : List ℕ) → AreLengths binds turns inside t (m ∷ before ++ n ∷ after) → AllAre m before → (m ≡ n → ⊥)
      → AreUneven binds t inside (record { kind = kind.EllipsisLength; words = decimal m ∷ decimal n ∷ [] })

-- They differ at one of the ellipses behind a part of the template.
pub record IsUneven (binds : Binds) (t : PlainTemplate) (f : Bare) : Type 0 where
  pub part : PlainTemplate
  pub ellipses : ℕ
  pub inside : ℕ
  pub within : IsWithin part ellipses t
  pub below : inside < ellipses
  pub differ : AreUneven binds part inside f

-- Cells are added, and the value is an instance over them; or lengths differ.
abbrev pub IsGiven : Binds → PlainTemplate → List Cell → Result (Value × List Cell) Bare → Type 0
IsGiven binds t cells (Ok r) = Keeps cells r.1 × IsInstance binds r.1 [] t r.0
IsGiven binds t cells (Err f) = IsUneven binds t f

abbrev pub InstancesAreGiven : Type 0
InstancesAreGiven = (absent : Absent) (binds : Binds) (t : PlainTemplate) (cells : List Cell) → Ready binds 0 t
    → IsGiven binds t cells (instance absent binds t [] cells)
