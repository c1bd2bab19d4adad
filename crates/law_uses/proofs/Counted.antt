-- Uses are counted one by one.
use Rattle.std.proofs.Common.{◌≡◌, ◌+◌, ℕ, zero, suc, List, Option, None, Some, Result, Ok, Err, refl, sym, ◌∙◌, ap, subst, arith}
use Rattle.base_data.specs.Act.{after}
use Rattle.base_data.specs.declared.fault.Fault.{Fault}
use Rattle.base_data.specs.declared.imported_name.ImportedName.{ImportedName}
use Rattle.base_data.specs.declared.library.LibName.{LibName}
use Rattle.base_data.specs.declared.span.Span.{Span}
use Rattle.stx_tree.specs.Tree.{Tree}
use Rattle.core_language.specs.declared.record.CompiledLibrary.{CompiledLibrary}
use Rattle.eval_code.specs.Codes.{Codes}
use Rattle.core_shapes.specs.At.{place_of}
use Rattle.expand_standing.specs.Start.{started}
use Rattle.expand_standing.specs.State.{State, Does}
use Rattle.expand_heads.specs.declared.item.Item.{Item}
use Rattle.expand_heads.specs.declared.plan.KeywordUse.{KeywordUse}
use Rattle.expand_heads.specs.declared.plan.Plan.{Plan}
use Rattle.expand_heads.specs.declared.taken.BodyAt.{BodyAt}
use Rattle.expand_heads.specs.declared.taken.Taken.{Taken}
use Rattle.expand_forms.specs.ExpandUses.{next_form, too_many, step, linked, planned_by, expand_uses_to, expand_uses, at_use, item_step, item_by, expand_item_uses_to, expand_item_uses}
use Rattle.expand_forms.specs.declared.expand_uses.ItemOrUse.TheVariants as item_steps
use Rattle.expand_forms.specs.declared.expand_uses.PlannedForm.{PlannedForm}
use Rattle.expand_forms.specs.declared.expand_uses.PlannedItem.{PlannedItem}
use Rattle.expand_forms.specs.declared.expand_uses.PlanOrUse.{PlanOrUse}
use Rattle.expand_forms.specs.declared.expand_uses.PlanOrUse.TheVariants as steps
use Rattle.law_uses.specs.Counted.{unexpanded, unexpanded_item, Becomes, BecomesItem, UsesAreCounted, BodyUsesAreCounted}
use Rattle.law_uses.specs.Counted as counted

-- an action of which it is known what it gives
after-ok : {A B : Type 0} (r : Result (A × State) Fault) (a : A) (s : State) (k : A → Does B) → r ≡ Ok (a, s) → after r k ≡ k a s
after-ok r a s k e = ap (λ q. after q k) e

pub starts-with : (own : LibName) (records : List CompiledLibrary) (imports : List ImportedName) (codes : Codes) → (started own records imports codes).uses_left ≡ 1000000
unfolding started
starts-with own records imports codes = refl

-- Expressions.

module _ (rs : List CompiledLibrary) (level : ℕ) where
  is-counted : {n more left : ℕ} {place at : Span} {t y : Tree} {s w : State} → Becomes rs level n (unexpanded more place t s) (unexpanded left at y w) → more ≡ n + left
  is-counted counted.itself = omega arith
  is-counted (counted.used e f b) = let k = is-counted b in omega (arith, k)

  settled-now : (left : ℕ) (place : Span) (t : Tree) (s u : State) (p : Plan) → step rs place level t s ≡ Ok (steps.Plan p, u) → expand_uses_to rs left place level t s ≡ Ok (record { place = place; form = t; plan = p }, linked t p u)
  unfolding expand_uses_to
  settled-now zero place t s u p e = after-ok (step rs place level t s) (steps.Plan p) u (planned_by (λ k. too_many t place) place t) e
  settled-now (suc left) place t s u p e = after-ok (step rs place level t s) (steps.Plan p) u (planned_by (λ k s'. after (next_form rs left place t k None s') (expand_uses_to rs left (place_of t place) level)) place t) e

  -- by one use
  one-use : (more : ℕ) (place : Span) (t x : Tree) (s u v : State) (k : KeywordUse) → step rs place level t s ≡ Ok (steps.Use k, u) → next_form rs more place t k None u ≡ Ok (x, v)
      → expand_uses_to rs (suc more) place level t s ≡ expand_uses_to rs more (place_of t place) level x v
  unfolding expand_uses_to
  one-use more place t x s u v k e f =
      after-ok (step rs place level t s) (steps.Use k) u (planned_by (λ j s'. after (next_form rs more place t j None s') (expand_uses_to rs more (place_of t place) level)) place t) e
      ∙ after-ok (next_form rs more place t k None u) x v (expand_uses_to rs more (place_of t place) level) f

  is-settled : {n more left : ℕ} {place at : Span} {t y : Tree} {s w : State} (u : State) (p : Plan) → Becomes rs level n (unexpanded more place t s) (unexpanded left at y w) → step rs at level y w ≡ Ok (steps.Plan p, u)
      → expand_uses_to rs more place level t s ≡ Ok (record { place = at; form = y; plan = p }, linked y p u)
  is-settled u p (counted.itself {left} {place} {t} {s}) e = settled-now left place t s u p e
  is-settled u p (counted.used {n} {more} {left} {place} {at} {t} {x} {y} {s} {u = r} {v} {w} {k} f g b) e = one-use more place t x s r v k f g ∙ is-settled u p b e

  none-left : (place : Span) (t : Tree) (s u : State) (k : KeywordUse) → step rs place level t s ≡ Ok (steps.Use k, u) → expand_uses_to rs 0 place level t s ≡ too_many t place u
  unfolding expand_uses_to
  none-left place t s u k e = after-ok (step rs place level t s) (steps.Use k) u (planned_by (λ j. too_many t place) place t) e

  is-refused : {n more left : ℕ} {place at : Span} {t y : Tree} {s w : State} (u : State) (k : KeywordUse) → left ≡ 0 → Becomes rs level n (unexpanded more place t s) (unexpanded left at y w) → step rs at level y w ≡ Ok (steps.Use k, u)
      → expand_uses_to rs more place level t s ≡ too_many y at u
  is-refused u k z (counted.itself {left} {place} {t} {s}) e = subst (λ m. expand_uses_to rs m place level t s ≡ too_many t place u) (sym z) (none-left place t s u k e)
  is-refused u k z (counted.used {n} {more} {left} {place} {at} {t} {x} {y} {s} {u = r} {v} {w} {k = j} f g b) e = one-use more place t x s r v j f g ∙ is-refused u k z b e

  -- what expanding uses comes to
  abbrev Came : ℕ → Span → Tree → State → PlannedForm → State → Type 0
  Came more place t s d v =
      (n : ℕ) × ((left : ℕ) × ((w : State) × ((u : State) × (Becomes rs level n (unexpanded more place t s) (unexpanded left d.place d.form w) × ((step rs d.place level d.form w ≡ Ok (steps.Plan d.plan, u)) × (v ≡ linked d.form d.plan u))))))

  came-now : (left : ℕ) (place : Span) (t : Tree) (s u v : State) (p : Plan) (d : PlannedForm) → step rs place level t s ≡ Ok (steps.Plan p, u) → ◌≡◌ {A = PlannedForm × State} (record { place = place; form = t; plan = p }, linked t p u) (d, v) → Came left place t s d v
  came-now left place t s u v p d e is =
      subst (λ (q : PlannedForm × State). Came left place t s q.0 q.1) is (0, (left, (s, (u, (counted.itself, (e, refl))))))

  came : (more : ℕ) (place : Span) (t : Tree) (s v : State) (d : PlannedForm) → expand_uses_to rs more place level t s ≡ Ok (d, v) → Came more place t s d v
  unfolding expand_uses_to
  came zero place t s v d h = by (step rs place level t s) refl h
    where
      by : (r : Result (PlanOrUse × State) Fault) → step rs place level t s ≡ r → after r (planned_by (λ k. too_many t place) place t) ≡ Ok (d, v) → Came zero place t s d v
      by (Ok (steps.Plan p, u)) e is = came-now zero place t s u v p d e (let same : ◌≡◌ {A = PlannedForm × State} (record { place = place; form = t; plan = p }, linked t p u) (d, v) = cc in same)
      by (Ok (steps.Use k, u)) e is = absurd (cc)
      by (Err f) e is = absurd (cc)
  came (suc more) place t s v d h = by (λ x w i. came more (place_of t place) x w v d i) (step rs place level t s) refl h
    where
      by-form : ((x : Tree) (w : State) → expand_uses_to rs more (place_of t place) level x w ≡ Ok (d, v) → Came more (place_of t place) x w d v) → (k : KeywordUse) (u : State) → step rs place level t s ≡ Ok (steps.Use k, u)
          → (r : Result (Tree × State) Fault) → next_form rs more place t k None u ≡ r → after r (expand_uses_to rs more (place_of t place) level) ≡ Ok (d, v) → Came (suc more) place t s d v
      by-form again k u e (Ok p) f is = let c = again p.0 p.1 is in (suc c.0, (c.1.0, (c.1.1.0, (c.1.1.1.0, (counted.used e f c.1.1.1.1.0, c.1.1.1.1.1)))))
      by-form again k u e (Err x) f is = absurd (cc)

      by : ((x : Tree) (w : State) → expand_uses_to rs more (place_of t place) level x w ≡ Ok (d, v) → Came more (place_of t place) x w d v) → (r : Result (PlanOrUse × State) Fault) → step rs place level t s ≡ r
          → after r (planned_by (λ k s'. after (next_form rs more place t k None s') (expand_uses_to rs more (place_of t place) level)) place t) ≡ Ok (d, v) → Came (suc more) place t s d v
      by again (Ok (steps.Plan p, u)) e is = came-now (suc more) place t s u v p d e (let same : ◌≡◌ {A = PlannedForm × State} (record { place = place; form = t; plan = p }, linked t p u) (d, v) = cc in same)
      by again (Ok (steps.Use k, u)) e is = by-form again k u e (next_form rs more place t k None u) refl is
      by again (Err f) e is = absurd (cc)

pub uses-counted : UsesAreCounted
uses-counted = record {
  starts = starts-with;
  counted = λ rs level n more left place at t y s w b. is-counted rs level b;
  settled = λ rs level n left place at t y s w u p b e. is-settled rs level u p b e;
  refused = λ rs level n place at t y s w u k b e. is-refused rs level u k refl b e;
  only = λ rs level place t s v d h. came rs level s.uses_left place t s v d h;
}

-- Forms of bodies.

module _ (rs : List CompiledLibrary) (depth : ℕ) where
  items-counted : {n more left : ℕ} {at to : BodyAt} {done end : Taken} {t y : Tree} {s w : State} → BecomesItem rs depth n (unexpanded_item more at done t s) (unexpanded_item left to end y w) → more ≡ n + left
  items-counted counted.item_itself = omega arith
  items-counted (counted.item_used e f b) = let k = items-counted b in omega (arith, k)

  item-now : (left : ℕ) (at : BodyAt) (done taken : Taken) (t : Tree) (s u : State) (i : Item) → item_step rs at depth done t s ≡ Ok ((taken, item_steps.Item i), u)
      → expand_item_uses_to rs left at depth done t s ≡ Ok ((taken, record { at = at; form = t; item = i }), u)
  unfolding expand_item_uses_to
  item-now zero at done taken t s u i e = after-ok (item_step rs at depth done t s) (taken, item_steps.Item i) u (item_by (λ d k. too_many t at.place) at t) e
  item-now (suc left) at done taken t s u i e =
      after-ok (item_step rs at depth done t s) (taken, item_steps.Item i) u (item_by (λ d k s'. after (next_form rs left at.place t k (Some at.frame) s') (expand_item_uses_to rs left (at_use at t) depth d)) at t) e

  one-item : (more : ℕ) (at : BodyAt) (done taken : Taken) (t x : Tree) (s u v : State) (k : KeywordUse) → item_step rs at depth done t s ≡ Ok ((taken, item_steps.Use k), u) → next_form rs more at.place t k (Some at.frame) u ≡ Ok (x, v)
      → expand_item_uses_to rs (suc more) at depth done t s ≡ expand_item_uses_to rs more (at_use at t) depth taken x v
  unfolding expand_item_uses_to
  one-item more at done taken t x s u v k e f =
      after-ok (item_step rs at depth done t s) (taken, item_steps.Use k) u (item_by (λ d j s'. after (next_form rs more at.place t j (Some at.frame) s') (expand_item_uses_to rs more (at_use at t) depth d)) at t) e
      ∙ after-ok (next_form rs more at.place t k (Some at.frame) u) x v (expand_item_uses_to rs more (at_use at t) depth taken) f

  item-settled : {n more left : ℕ} {at to : BodyAt} {done end : Taken} {t y : Tree} {s w : State} (taken : Taken) (u : State) (i : Item) → BecomesItem rs depth n (unexpanded_item more at done t s) (unexpanded_item left to end y w)
      → item_step rs to depth end y w ≡ Ok ((taken, item_steps.Item i), u) → expand_item_uses_to rs more at depth done t s ≡ Ok ((taken, record { at = to; form = y; item = i }), u)
  item-settled taken u i (counted.item_itself {left} {at} {done} {t} {s}) e = item-now left at done taken t s u i e
  item-settled taken u i (counted.item_used {n} {more} {left} {at} {to} {done} {taken = next} {end} {t} {x} {y} {s} {u = r} {v} {w} {k} f g b) e = one-item more at done next t x s r v k f g ∙ item-settled taken u i b e

  no-item-left : (at : BodyAt) (done taken : Taken) (t : Tree) (s u : State) (k : KeywordUse) → item_step rs at depth done t s ≡ Ok ((taken, item_steps.Use k), u) → expand_item_uses_to rs 0 at depth done t s ≡ too_many t at.place u
  unfolding expand_item_uses_to
  no-item-left at done taken t s u k e = after-ok (item_step rs at depth done t s) (taken, item_steps.Use k) u (item_by (λ d j. too_many t at.place) at t) e

  item-refused : {n more left : ℕ} {at to : BodyAt} {done end : Taken} {t y : Tree} {s w : State} (taken : Taken) (u : State) (k : KeywordUse) → left ≡ 0 → BecomesItem rs depth n (unexpanded_item more at done t s) (unexpanded_item left to end y w)
      → item_step rs to depth end y w ≡ Ok ((taken, item_steps.Use k), u) → expand_item_uses_to rs more at depth done t s ≡ too_many y to.place u
  item-refused taken u k z (counted.item_itself {left} {at} {done} {t} {s}) e = subst (λ m. expand_item_uses_to rs m at depth done t s ≡ too_many t at.place u) (sym z) (no-item-left at done taken t s u k e)
  item-refused taken u k z (counted.item_used {n} {more} {left} {at} {to} {done} {taken = next} {end} {t} {x} {y} {s} {u = r} {v} {w} {k = j} f g b) e = one-item more at done next t x s r v j f g ∙ item-refused taken u k z b e

pub body-uses-counted : BodyUsesAreCounted
body-uses-counted = record {
  counted = λ rs depth n more left at to done end t y s w b. items-counted rs depth b;
  settled = λ rs depth n left at to done end taken t y s w u i b e. item-settled rs depth taken u i b e;
  refused = λ rs depth n at to done end taken t y s w u k b e. item-refused rs depth taken u k refl b e;
}
