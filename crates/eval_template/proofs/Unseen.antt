-- What a part costs depends on those turns round it alone that a variable in it takes.
use Rattle.std.proofs.Common.{◌≡◌, ℕ, zero, suc, ◌+◌, ◌-◌, ◌*◌, ◌^◌, ◌<◌, ◌≤◌, Bool, true, false, ◌||◌, List, [], ◌∷◌, ◌++◌, Option, None, Some, Ok, Err, length, length-append, drop, refl, ap, sym, subst, ◌∙◌, arith}
use Rattle.std.specs.Prelude.{Result, nat_lt, nat_eq, if◌then◌else◌}
use Rattle.std.proofs.lemmas.Bool.{ltb-true, ltb-false, eqb-true}
use Rattle.std.proofs.lemmas.List.{drop_all}
use Rattle.base_data.specs.Gives.{◌>>=◌}
use Rattle.base_data.specs.declared.fault.Bare.{Bare}
use Rattle.base_data.specs.declared.name.Label.{Label}
use Rattle.core_language.specs.Template.{PlainTemplate, variable, constant, list, vector, PlainItems, none, more}
use Rattle.eval_template.specs.Binds.{Binds, Absent, looked_up, through, innermost, reached, count_of}
use Rattle.eval_template.specs.Lengths.{lengths, items_lengths, agree, or_none}
use Rattle.eval_template.specs.Instance.{counts}
use Rattle.eval_template.specs.Measure.{Cost, plus, turns_cost, item_cost, measure, items_cost, sees, items_see, IsCost, Measures}
use Rattle.eval_template.proofs.Measured.{known_cost}

-- turns whose innermost, so many, are the same
abbrev pub Alike : ℕ → List ℕ → List ℕ → Type 0
Alike r xs ys = (d : ℕ) → d ≤ r → innermost d xs ≡ innermost d ys

pub drop_before : (n : ℕ) (is : List ℕ) (i : ℕ) → n ≤ length is → drop n (is ++ i ∷ []) ≡ drop n is ++ i ∷ []
drop_before zero is i h = refl
drop_before (suc n) [] i h = absurd (omega arith)
drop_before (suc n) (j ∷ is) i h = drop_before n is i (omega arith)

pub innermost_more : (m : ℕ) (turns : List ℕ) (i : ℕ) → innermost (suc m) (turns ++ i ∷ []) ≡ innermost m turns ++ i ∷ []
innermost_more m turns i =
    let e : length (turns ++ i ∷ []) - suc m ≡ length turns - m = omega (arith, length-append turns (i ∷ [])) in
    ap (λ n. drop n (turns ++ i ∷ [])) e ∙ drop_before (length turns - m) turns i (omega arith)

innermost_none : (turns : List ℕ) → innermost 0 turns ≡ []
innermost_none turns = drop_all (length turns - 0) turns (omega arith)

alike_none : (xs ys : List ℕ) → Alike 0 xs ys
alike_none xs ys zero h = innermost_none xs ∙ sym (innermost_none ys)
alike_none xs ys (suc d) h = absurd (omega arith)

alike_more : (r : ℕ) (xs ys : List ℕ) (i : ℕ) → Alike r xs ys → Alike (suc r) (xs ++ i ∷ []) (ys ++ i ∷ [])
alike_more r xs ys i h zero k = innermost_none (xs ++ i ∷ []) ∙ sym (innermost_none (ys ++ i ∷ []))
alike_more r xs ys i h (suc d) k = innermost_more d xs i ∙ ap (λ zs. zs ++ i ∷ []) (h d (omega arith)) ∙ sym (innermost_more d ys i)

-- each variable under ellipses of the part takes no more turns round it than so many
abbrev mutual
  pub Near : ℕ → ℕ → PlainTemplate → Type 0
  Near r inside (variable l depth) = 0 < inside → depth ≤ inside + r
  Near r inside (constant t) = Unit {0}
  Near r inside (list is t) = ItemsNear r inside is × Near r inside t
  Near r inside (vector is) = ItemsNear r inside is

  pub ItemsNear : ℕ → ℕ → PlainItems → Type 0
  ItemsNear r inside none = Unit {0}
  ItemsNear r inside (more t ellipses is) = Near r (inside + ellipses) t × ItemsNear r inside is

up : (inside ellipses : ℕ) → suc inside + ellipses ≡ suc (inside + ellipses)
up inside ellipses = omega arith

-- one ellipsis further in, one turn more
mutual
  near_in : (r inside : ℕ) (t : PlainTemplate) → Near r (suc inside) t → Near (suc r) inside t
  near_in r inside (variable l depth) h = λ k. let far = h (omega arith) in omega (arith, far)
  near_in r inside (constant t) h = tt
  near_in r inside (list is t) h = (items_in r inside is h.0, near_in r inside t h.1)
  near_in r inside (vector is) h = items_in r inside is h

  items_in : (r inside : ℕ) (is : PlainItems) → ItemsNear r (suc inside) is → ItemsNear (suc r) inside is
  items_in r inside none h = tt
  items_in r inside (more t ellipses is) h = (near_in r (inside + ellipses) t (subst (λ n. Near r n t) (up inside ellipses) h.0), items_in r inside is h.1)

or_false : (a b : Bool) → (a || b) ≡ false → (a ≡ false) × (b ≡ false)
or_false true b h = absurd (cc)
or_false false b h = (refl, h)

unseen_variable : (inside depth : ℕ) → (if nat_eq inside 0 then false else nat_lt inside depth) ≡ false → 0 < inside → depth ≤ inside
unseen_variable inside depth h k = go (nat_eq inside 0) refl h
  where
    go : (b : Bool) → nat_eq inside 0 ≡ b → (if b then false else nat_lt inside depth) ≡ false → depth ≤ inside
    go true e f = let none = eqb-true inside 0 e in absurd (omega (arith, none, k))
    go false e f = ltb-false inside depth f

-- what takes no turn there
mutual
  unseen_near : (inside : ℕ) (t : PlainTemplate) → sees inside t ≡ false → Near 0 inside t
  unseen_near inside (variable l depth) h = λ k. let le = unseen_variable inside depth h k in omega (arith, le)
  unseen_near inside (constant t) h = tt
  unseen_near inside (list is t) h = let p = or_false (items_see inside is) (sees inside t) h in (unseen_items inside is p.0, unseen_near inside t p.1)
  unseen_near inside (vector is) h = unseen_items inside is h

  unseen_items : (inside : ℕ) (is : PlainItems) → items_see inside is ≡ false → ItemsNear 0 inside is
  unseen_items inside none h = tt
  unseen_items inside (more t ellipses is) h = let p = or_false (sees (inside + ellipses) t) (items_see inside is) h in (unseen_near (inside + ellipses) t p.0, unseen_items inside is p.1)

module _ (a : Absent) (binds : Binds) where
  -- lengths at an ellipsis
  module _ (r : ℕ) (xs ys : List ℕ) (alike : Alike r xs ys) where
    mutual
      lengths_alike : (inside : ℕ) (t : PlainTemplate) → Near r (suc inside) t → lengths a binds xs inside t ≡ lengths a binds ys inside t
      lengths_alike inside (variable l depth) h =
          let far = h (omega arith) in
          ap (λ (is : List ℕ). if nat_lt inside depth then count_of a (through (looked_up binds l) is) ∷ [] else []) (alike (depth - suc inside) (omega (arith, far)))
      lengths_alike inside (constant t) h = refl
      lengths_alike inside (list is t) h = (λ i. items_alike inside is h.0 i ++ lengths_alike inside t h.1 i)
      lengths_alike inside (vector is) h = items_alike inside is h

      items_alike : (inside : ℕ) (is : PlainItems) → ItemsNear r (suc inside) is → items_lengths a binds xs inside is ≡ items_lengths a binds ys inside is
      items_alike inside none h = refl
      items_alike inside (more t ellipses is) h =
          (λ i. lengths_alike (inside + ellipses) t (subst (λ n. Near r n t) (up inside ellipses) h.0) i ++ items_alike inside is h.1 i)

  -- what a part costs, with so many ellipses behind it
  abbrev CostsAlike : ℕ → (List ℕ → Cost) → Type 0
  CostsAlike r go = (xs ys : List ℕ) → Alike r xs ys → go xs ≡ go ys

  turns_alike : (go : List ℕ → Cost) (r : ℕ) (xs ys : List ℕ) → Alike r xs ys → CostsAlike (suc r) go → (n i : ℕ) → turns_cost go n i xs ≡ turns_cost go n i ys
  turns_alike go r xs ys alike same zero i = refl
  turns_alike go r xs ys alike same (suc n) i =
      (λ j. plus (same (xs ++ i ∷ []) (ys ++ i ∷ []) (alike_more r xs ys i alike) j) (turns_alike go r xs ys alike same n (i + 1) j))

  item_alike : (t : PlainTemplate) → ((r : ℕ) → Near r 0 t → CostsAlike r (measure a binds t)) → (ellipses r : ℕ) → Near r ellipses t
      → CostsAlike r (item_cost (measure a binds t) (counts a binds t) ellipses)
  item_alike t same zero r h xs ys alike = ap (λ c. plus c (Ok 1)) (same r h xs ys alike)
  item_alike t same (suc ellipses) r h xs ys alike =
      ap (λ ns. agree None ns >>= λ n. turns_cost (item_cost (measure a binds t) (counts a binds t) ellipses) (or_none n) 0 xs) (lengths_alike r xs ys alike ellipses t h)
      ∙ ap (λ (f : Option ℕ → Cost). agree None (counts a binds t ellipses ys) >>= f)
      (λ j n. turns_alike (item_cost (measure a binds t) (counts a binds t) ellipses) r xs ys alike (item_alike t same ellipses (suc r) (near_in r ellipses t h)) (or_none n) 0 j)

  mutual
    cost_alike : (t : PlainTemplate) (r : ℕ) → Near r 0 t → CostsAlike r (measure a binds t)
    cost_alike (variable l depth) r h xs ys alike = refl
    cost_alike (constant t) r h xs ys alike = refl
    cost_alike (list is t) r h xs ys alike = (λ j. plus (costs_alike is r h.0 xs ys alike j) (cost_alike t r h.1 xs ys alike j))
    cost_alike (vector is) r h xs ys alike = costs_alike is r h xs ys alike

    costs_alike : (is : PlainItems) (r : ℕ) → ItemsNear r 0 is → CostsAlike r (items_cost a binds is)
    costs_alike none r h xs ys alike = refl
    costs_alike (more t ellipses is) r h xs ys alike =
        let same : 0 + ellipses ≡ ellipses = omega arith in
        (λ j. plus (item_alike t (cost_alike t) ellipses r (subst (λ n. Near r n t) same h.0) xs ys alike j) (costs_alike is r h.1 xs ys alike j))

  -- a part that takes no turn costs the same in all
  pub costs_same : (t : PlainTemplate) (inside : ℕ) → sees inside t ≡ false → (xs ys : List ℕ) → item_cost (measure a binds t) (counts a binds t) inside xs ≡ item_cost (measure a binds t) (counts a binds t) inside ys
  costs_same t inside h xs ys = item_alike t (cost_alike t) inside 0 (unseen_near inside t h) xs ys (alike_none xs ys)

-- turns that all cost the same
module _ (go : List ℕ → Cost) (xs : List ℕ) (same : (ys zs : List ℕ) → go ys ≡ go zs) where
  like_turns : (n i m : ℕ) → go xs ≡ Ok m → turns_cost go n i xs ≡ Ok (n * m)
  like_turns zero i m h = ap Ok (omega arith)
  like_turns (suc n) i m h =
      let more : m + n * m ≡ suc n * m = omega arith in
      (λ j. plus ((same (xs ++ i ∷ []) xs ∙ h) j) (like_turns n (i + 1) m h j)) ∙ ap Ok more

-- the cost of so many, from that of the first
module _ (go : List ℕ → Cost) (turns : List ℕ) (same : (ys zs : List ℕ) → go ys ≡ go zs) where
  pub all_turns : (count : ℕ) (o p : Option ℕ) → 0 < count → ((n : ℕ) → IsCost o n → 0 < count → IsCost p (count * n)) → (xs : List ℕ) → Measures (Ok o) (go xs) → Measures (Ok p) (turns_cost go count 0 turns)
  all_turns count o p some s xs h =
      let k = known_cost o (go xs) h in
      subst (Measures (Ok p)) (sym (like_turns go turns same count 0 k.0 (same turns xs ∙ k.1.0))) (s k.0 k.1.1 some)
