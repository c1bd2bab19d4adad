-- The binds that are found for a template are those of the pattern, where that has all of its variables; and a template depends on
-- nothing else.
use Rattle.std.proofs.Common.{◌≡◌, ℕ, zero, suc, ◌+◌, ◌-◌, Bool, true, false, ◌&&◌, List, [], ◌∷◌, ◌++◌, length, append_assoc, Option, None, Some, Ok, refl, sym, ap, subst, ◌∙◌, inl, inr, ◌⊎◌, slice_get}
use Rattle.std.specs.Prelude.{nat_lt, if◌then◌else◌, option_and_then}
use Rattle.std.specs.Cmp.{first_so, second_so}
use Rattle.std.specs.Map.{lookup}
use Rattle.base_data.specs.Gives.{◌>>=◌}
use Rattle.base_data.specs.Same.{same_name, same_name_cases, same_name_equiv}
use Rattle.base_data.specs.declared.name.Label.{Label}
use Rattle.base_region.specs.declared.region.Place.{Place}
use Rattle.stx_frames.specs.Scope.{or_else}
use Rattle.core_language.specs.Labels.{same_label}
use Rattle.core_language.specs.Template as template
use Rattle.core_language.specs.Template.{PlainTemplate, PlainItems}
use Rattle.eval_value.specs.Bind.{PlainBind}
use Rattle.eval_value.specs.FromDatum.{pairs_stored, vector_stored}
use Rattle.eval_value.specs.declared.cell.Cell.{Cell}
use Rattle.eval_value.specs.declared.cell.Cell.TheVariants as cell
use Rattle.eval_template.specs.Binds.{Binds, Absent, looked_up, through, innermost, value_of, count_of}
use Rattle.eval_template.specs.Lengths.{lengths, items_lengths, agree, or_none}
use Rattle.eval_template.specs.Instance.{then_add, counts, ending, instance, parts, item}
use Rattle.eval_template.specs.Measure.{plus, item_cost, measure, items_cost}
use Rattle.eval_code.specs.Instances.{gathered, gathered_items, with_bind}
use Rattle.eval_code.specs.Variables.{bind_found, bind_in, here_or_up, upwards, parent_in}
use Rattle.eval_template.specs.Trees.{is_there, all_bound, all_items_bound}

-- the same binds for the variables of a template
abbrev mutual
  pub Same : Binds → Binds → PlainTemplate → Type 0
  Same bs cs (template.variable l depth) = looked_up bs l ≡ looked_up cs l
  Same bs cs (template.constant t) = Unit {0}
  Same bs cs (template.list is t) = SameItems bs cs is × Same bs cs t
  Same bs cs (template.vector is) = SameItems bs cs is

  pub SameItems : Binds → Binds → PlainItems → Type 0
  SameItems bs cs template.none = Unit {0}
  SameItems bs cs (template.more t ellipses is) = Same bs cs t × SameItems bs cs is

module _ (a : Absent) (bs cs : Binds) where
  mutual
    lengths_same : (t : PlainTemplate) → Same bs cs t → (turns : List ℕ) (inside : ℕ) → lengths a bs turns inside t ≡ lengths a cs turns inside t
    lengths_same (template.variable l depth) h turns inside = λ i. if nat_lt inside depth then count_of a (through (h i) (innermost (depth - suc inside) turns)) ∷ [] else []
    lengths_same (template.constant t) h turns inside = refl
    lengths_same (template.list is t) h turns inside = λ i. items_lengths_same is h.0 turns inside i ++ lengths_same t h.1 turns inside i
    lengths_same (template.vector is) h turns inside = items_lengths_same is h turns inside

    items_lengths_same : (is : PlainItems) → SameItems bs cs is → (turns : List ℕ) (inside : ℕ) → items_lengths a bs turns inside is ≡ items_lengths a cs turns inside is
    items_lengths_same template.none h turns inside = refl
    items_lengths_same (template.more t ellipses is) h turns inside =
        λ i. lengths_same t h.0 turns (inside + ellipses) i ++ items_lengths_same is h.1 turns inside i

  counts_same : (t : PlainTemplate) → Same bs cs t → counts a bs t ≡ counts a cs t
  counts_same t h = λ i inside turns. lengths_same t h turns inside i

  mutual
    pub measure_same : (t : PlainTemplate) → Same bs cs t → measure a bs t ≡ measure a cs t
    measure_same (template.variable l depth) h = refl
    measure_same (template.constant t) h = refl
    measure_same (template.list is t) h = λ i turns. plus (items_cost_same is h.0 i turns) (measure_same t h.1 i turns)
    measure_same (template.vector is) h = items_cost_same is h

    items_cost_same : (is : PlainItems) → SameItems bs cs is → items_cost a bs is ≡ items_cost a cs is
    items_cost_same template.none h = refl
    items_cost_same (template.more t ellipses is) h =
        λ i turns. plus (item_cost (measure_same t h.0 i) (counts_same t h.0 i) ellipses turns) (items_cost_same is h.1 i turns)

  mutual
    pub instance_same : (t : PlainTemplate) → Same bs cs t → instance a bs t ≡ instance a cs t
    instance_same (template.variable l depth) h = λ i turns cells. Ok (value_of a (through (h i) (innermost depth turns)), cells)
    instance_same (template.constant t) h = refl
    instance_same (template.list is t) h =
        λ i turns cells. then_add (parts_same is h.0 i turns [] cells) (λ xs cells. then_add (ending t (instance_same t h.1 i turns) cells) (λ v cells. Ok (pairs_stored xs (v, cells))))
    instance_same (template.vector is) h = λ i turns cells. then_add (parts_same is h i turns [] cells) (λ xs cells. Ok (vector_stored (xs, cells)))

    parts_same : (is : PlainItems) → SameItems bs cs is → parts a bs is ≡ parts a cs is
    parts_same template.none h = refl
    parts_same (template.more t ellipses is) h =
        λ i turns done cells. then_add (item (instance_same t h.0 i) (counts_same t h.0 i) ellipses turns done cells) (parts_same is h.1 i turns)

-- Gathering.

abbrev BothSome : Binds → Binds → Label → Type 0
BothSome acc bs l = (b : PlainBind) × ((looked_up acc l ≡ Some b) × (looked_up bs l ≡ Some b))

-- what is there of a label is what the pattern took, or nothing
abbrev Agrees : Binds → Binds → Type 0
Agrees acc bs = (l : Label) → (looked_up acc l ≡ None) ⊎ BothSome acc bs l

-- what is found stays found
abbrev Extends : Binds → Binds → Type 0
Extends acc out = (l : Label) (b : PlainBind) → looked_up acc l ≡ Some b → looked_up out l ≡ Some b

abbrev mutual
  Holds : Binds → Binds → PlainTemplate → Type 0
  Holds out bs (template.variable l depth) = BothSome out bs l
  Holds out bs (template.constant t) = Unit {0}
  Holds out bs (template.list is t) = HoldsItems out bs is × Holds out bs t
  Holds out bs (template.vector is) = HoldsItems out bs is

  HoldsItems : Binds → Binds → PlainItems → Type 0
  HoldsItems out bs template.none = Unit {0}
  HoldsItems out bs (template.more t ellipses is) = Holds out bs t × HoldsItems out bs is

module _ (bs : Binds) where
  mutual
    holds_same : (out : Binds) (t : PlainTemplate) → Holds out bs t → Same out bs t
    holds_same out (template.variable l depth) h = h.1.0 ∙ sym h.1.1
    holds_same out (template.constant t) h = tt
    holds_same out (template.list is t) h = (holds_same_items out is h.0, holds_same out t h.1)
    holds_same out (template.vector is) h = holds_same_items out is h

    holds_same_items : (out : Binds) (is : PlainItems) → HoldsItems out bs is → SameItems out bs is
    holds_same_items out template.none h = tt
    holds_same_items out (template.more t ellipses is) h = (holds_same out t h.0, holds_same_items out is h.1)

  mutual
    holds_later : (acc out : Binds) → Extends acc out → (t : PlainTemplate) → Holds acc bs t → Holds out bs t
    holds_later acc out e (template.variable l depth) h = (h.0, (e l h.0 h.1.0, h.1.1))
    holds_later acc out e (template.constant t) h = tt
    holds_later acc out e (template.list is t) h = (holds_later_items acc out e is h.0, holds_later acc out e t h.1)
    holds_later acc out e (template.vector is) h = holds_later_items acc out e is h

    holds_later_items : (acc out : Binds) → Extends acc out → (is : PlainItems) → HoldsItems acc bs is → HoldsItems out bs is
    holds_later_items acc out e template.none h = tt
    holds_later_items acc out e (template.more t ellipses is) h = (holds_later acc out e t h.0, holds_later_items acc out e is h.1)

found_stays : (acc more : Binds) → Extends acc (acc ++ more)
found_stays [] more l b e = absurd (let g : ⊥ = cc in g)
found_stays (x ∷ acc) more l b e = by_name (same_name x.0.0 l.0) (found_stays acc more l b) e
  where
    by_name : (r : Bool) → (looked_up acc l ≡ Some b → looked_up (acc ++ more) l ≡ Some b)
        → (if r then Some x.1 else looked_up acc l) ≡ Some b → (if r then Some x.1 else looked_up (acc ++ more) l) ≡ Some b
    by_name true ih e = e
    by_name false ih e = ih e

not_found : (acc more : Binds) (l : Label) → looked_up acc l ≡ None → looked_up (acc ++ more) l ≡ looked_up more l
not_found [] more l e = refl
not_found (x ∷ acc) more l e = by_name (same_name x.0.0 l.0) (not_found acc more l) e
  where
    by_name : (r : Bool) → (looked_up acc l ≡ None → looked_up (acc ++ more) l ≡ looked_up more l)
        → (if r then Some x.1 else looked_up acc l) ≡ None → (if r then Some x.1 else looked_up (acc ++ more) l) ≡ looked_up more l
    by_name true ih e = absurd (let g : ⊥ = cc in g)
    by_name false ih e = ih e

label_is : (l m : Label) → same_name l.0 m.0 ≡ true → l ≡ m
label_is l m e = let n = (same_name_cases l.0 m.0).0 e in λ i. record { 0 = n i }

label_self : (l : Label) → same_name l.0 l.0 ≡ true
label_self l = (same_name_cases l.0 l.0).1 refl

-- with one more bind that is that of the pattern
added_agrees : (bs acc : Binds) (l : Label) (b : PlainBind) → looked_up bs l ≡ Some b → Agrees acc bs → Agrees (acc ++ (l, b) ∷ []) bs
added_agrees bs acc l b is h k = before (h k)
  where
    alone : (r : Bool) → same_name l.0 k.0 ≡ r → looked_up acc k ≡ None
        → (looked_up (acc ++ (l, b) ∷ []) k ≡ None) ⊎ BothSome (acc ++ (l, b) ∷ []) bs k
    alone false e none = inl (not_found acc ((l, b) ∷ []) k none ∙ ap (λ r. if r then Some b else None) e)
    alone true e none =
        inr (b, (not_found acc ((l, b) ∷ []) k none ∙ ap (λ r. if r then Some b else None) e, subst (λ m. looked_up bs m ≡ Some b) (label_is l k e) is))

    before : ((looked_up acc k ≡ None) ⊎ BothSome acc bs k) → (looked_up (acc ++ (l, b) ∷ []) k ≡ None) ⊎ BothSome (acc ++ (l, b) ∷ []) bs k
    before (inl none) = alone (same_name l.0 k.0) refl none
    before (inr s) = inr (s.0, (found_stays acc ((l, b) ∷ []) k s.0 s.1.0, s.1.1))

added_holds : (bs acc : Binds) (l : Label) (b : PlainBind) → looked_up bs l ≡ Some b → Agrees acc bs → BothSome (acc ++ (l, b) ∷ []) bs l
added_holds bs acc l b is h = before (h l)
  where
    before : ((looked_up acc l ≡ None) ⊎ BothSome acc bs l) → BothSome (acc ++ (l, b) ∷ []) bs l
    before (inl none) = (b, (not_found acc ((l, b) ∷ []) l none ∙ ap (λ r. if r then Some b else None) (label_self l), is))
    before (inr s) = (s.0, (found_stays acc ((l, b) ∷ []) l s.0 s.1.0, s.1.1))

-- the two ways to look up
looked_is : (bs : Binds) (l : Label) → lookup (same_label l) bs ≡ looked_up bs l
looked_is [] l = refl
looked_is (x ∷ bs) l = λ i. if same_name_equiv.symm l.0 x.0.0 i then Some x.1 else looked_is bs l i

has_some : (bs : Binds) (l : Label) → is_there (looked_up bs l) ≡ true → (b : PlainBind) × (looked_up bs l ≡ Some b)
has_some bs l h = by_bind (looked_up bs l) refl h
  where
    by_bind : (o : Option PlainBind) → looked_up bs l ≡ o → is_there o ≡ true → (b : PlainBind) × (looked_up bs l ≡ Some b)
    by_bind None e h = absurd (let f : ⊥ = cc in f)
    by_bind (Some b) e h = (b, e)

module _ (cells : List Cell) (scope : Place) (bs : Binds) (parent : Option Place) (here : slice_get cells scope.0 ≡ Some (cell.Binds bs parent)) where
  bind_is : (l : Label) (b : PlainBind) → looked_up bs l ≡ Some b → bind_found (suc (length cells)) cells l (Some scope) ≡ Some b
  bind_is l b e =
      ap (here_or_up (bind_in l) (bind_found (length cells) cells l)) here
      ∙ ap (λ o. or_else o (upwards (bind_found (length cells) cells l) (Some parent))) (looked_is bs l ∙ e)

  abbrev Gathered : (Binds → Type 0) → Binds → Option Binds → Type 0
  Gathered Holding acc o = (out : Binds) × ((o ≡ Some out) × (Agrees out bs × (Extends acc out × Holding out)))

  mutual
    gathered_is : (t : PlainTemplate) (acc : Binds) → Agrees acc bs → all_bound bs t ≡ true → Gathered (λ out. Holds out bs t) acc (gathered cells scope t acc)
    gathered_is (template.variable l depth) acc h e =
        let s = has_some bs l e in (
          acc ++ (l, s.0) ∷ [],
          (ap (with_bind l acc) (bind_is l s.0 s.1), (added_agrees bs acc l s.0 s.1 h, (found_stays acc ((l, s.0) ∷ []), added_holds bs acc l s.0 s.1 h))),
        )
    gathered_is (template.constant t) acc h e = (acc, (refl, (h, ((λ l b f. f), tt))))
    gathered_is (template.list is t) acc h e =
        let first = gathered_items_is is acc h (first_so (all_items_bound bs is) (all_bound bs t) e) in
        let behind = gathered_is t first.0 first.1.1.0 (second_so (all_items_bound bs is) (all_bound bs t) e) in (
          behind.0,
          (
            ap (option_and_then (gathered cells scope t)) first.1.0 ∙ behind.1.0,
            (
              behind.1.1.0,
              ((λ l b f. behind.1.1.1.0 l b (first.1.1.1.0 l b f)), (holds_later_items bs first.0 behind.0 behind.1.1.1.0 is first.1.1.1.1, behind.1.1.1.1)),
            ),
          ),
        )
    gathered_is (template.vector is) acc h e = gathered_items_is is acc h e

    gathered_items_is : (is : PlainItems) (acc : Binds) → Agrees acc bs → all_items_bound bs is ≡ true
        → Gathered (λ out. HoldsItems out bs is) acc (gathered_items cells scope is acc)
    gathered_items_is template.none acc h e = (acc, (refl, (h, ((λ l b f. f), tt))))
    gathered_items_is (template.more t ellipses is) acc h e =
        let first = gathered_is t acc h (first_so (all_bound bs t) (all_items_bound bs is) e) in
        let behind = gathered_items_is is first.0 first.1.1.0 (second_so (all_bound bs t) (all_items_bound bs is) e) in (
          behind.0,
          (
            ap (option_and_then (gathered_items cells scope is)) first.1.0 ∙ behind.1.0,
            (
              behind.1.1.0,
              ((λ l b f. behind.1.1.1.0 l b (first.1.1.1.0 l b f)), (holds_later bs first.0 behind.0 behind.1.1.1.0 t first.1.1.1.1, behind.1.1.1.1)),
            ),
          ),
        )

  -- the binds that are found for a template, and that they are the pattern's
  pub gathers : (t : PlainTemplate) → all_bound bs t ≡ true → (out : Binds) × ((gathered cells scope t [] ≡ Some out) × Same out bs t)
  gathers t e =
      let g = gathered_is t [] (λ l. inl refl) e in
      (g.0, (g.1.0, holds_same bs g.0 t g.1.1.1.1))
