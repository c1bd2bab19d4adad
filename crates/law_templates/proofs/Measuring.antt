-- What is measured of a template is what its instance costs.
use Rattle.std.proofs.Common.{◌≡◌, ℕ, zero, suc, ◌+◌, Bool, true, false, List, [], ◌∷◌, ◌++◌, Option, None, Ok, Err, length, length-append, drop, append-nil, append_assoc, refl, ap, sym, subst, ◌∙◌, arith}
use Rattle.std.specs.Prelude.{Result, if◌then◌else◌}
use Rattle.std.proofs.Math.Seq.{drop-append_seam}
use Rattle.base_data.specs.Gives.{◌>>=◌}
use Rattle.base_data.specs.declared.atom.Atom.TheVariants.{Nil}
use Rattle.base_data.specs.declared.fault.Bare.{Bare}
use Rattle.core_language.specs.Template.{PlainTemplate, variable, constant, list, vector, PlainItems, none, more}
use Rattle.core_shapes.specs.Lists.{is_nil}
use Rattle.eval_value.specs.FromDatum.{pairs_stored, vector_stored}
use Rattle.eval_value.specs.declared.cell.Cell.{Cell}
use Rattle.eval_value.specs.declared.cell.Cell.TheVariants as cell
use Rattle.eval_value.specs.declared.value.Value.{Value}
use Rattle.eval_value.specs.declared.value.Value.TheVariants as value
use Rattle.eval_template.specs.Binds.{Binds, Absent}
use Rattle.eval_template.specs.Cost.{cell_cost, cost}
use Rattle.eval_template.specs.Lengths.{agree, or_none}
use Rattle.eval_template.specs.Instance.{Adds, then_add, counts, is_end, ending, instance, parts, item, turned}
use Rattle.eval_template.specs.Measure.{Cost, plus, turns_cost, item_cost, measure, items_cost}
use Rattle.law_templates.specs.Measuring.{Tells}

-- cells of this cost were added
abbrev Adding : List Cell → ℕ → List Cell → Type 0
Adding cells n after = (new : List Cell) × ((after ≡ cells ++ new) × (cost new ≡ n))

cost-append : (xs ys : List Cell) → cost (xs ++ ys) ≡ cost xs + cost ys
cost-append [] ys = omega arith
cost-append (x ∷ xs) ys = ap (λ n. cell_cost x + n) (cost-append xs ys) ∙ omega arith

adding_none : (cells : List Cell) → Adding cells 0 cells
adding_none cells = ([], (sym (append-nil cells), refl))

adding_one : (cells : List Cell) (c : Cell) (n : ℕ) → cell_cost c ≡ n → Adding cells n (cells ++ c ∷ [])
adding_one cells c n h =
    let alone : cost (c ∷ []) ≡ cell_cost c = omega arith in
    (c ∷ [], (refl, alone ∙ h))

adding_then : (a b c : List Cell) (m n : ℕ) → Adding a m b → Adding b n c → Adding a (m + n) c
adding_then a b c m n h k =
    (h.0 ++ k.0, (k.1.0 ∙ ap (λ xs. xs ++ k.0) h.1.0 ∙ append_assoc a h.0 k.0, cost-append h.0 k.0 ∙ (λ i. h.1.1 i + k.1.1 i)))

pairs_adding : (xs : List Value) (p : Value × List Cell) → Adding p.1 (length xs) (pairs_stored xs p).1
pairs_adding [] p = adding_none p.1
pairs_adding (x ∷ xs) p =
    let q = pairs_stored xs p in
    let one : length xs + 1 ≡ length (x ∷ xs) = omega arith in
    subst (λ n. Adding p.1 n (q.1 ++ cell.Pair x q.0 ∷ [])) one (adding_then p.1 q.1 (q.1 ++ cell.Pair x q.0 ∷ []) (length xs) 1 (pairs_adding xs p) (adding_one q.1 (cell.Pair x q.0) 1 refl))

-- a value that was made, at the cost that was measured
abbrev Makes : List Cell → Cost → Result (Value × List Cell) Bare → Type 0
Makes cells (Ok n) (Ok p) = Adding cells n p.1
Makes cells (Ok n) (Err f) = ⊥
Makes cells (Err f) (Ok p) = ⊥
Makes cells (Err f) (Err g) = f ≡ g

abbrev Values : Type 0
Values = Result (List Value × List Cell) Bare

-- values behind so many, each of which is 1 beside what was made of its cells
abbrev Grows : ℕ → List Cell → Cost → Values → Type 0
Grows k cells (Ok n) (Ok p) = (m : ℕ) × (Adding cells m p.1 × (m + length p.0 ≡ n + k))
Grows k cells (Ok n) (Err f) = ⊥
Grows k cells (Err f) (Ok p) = ⊥
Grows k cells (Err f) (Err g) = f ≡ g

grows_then : (k : ℕ) (cells : List Cell) (c d : Cost) (r : Values) (go : List Value → Adds (List Value)) → Grows k cells c r
    → ((xs : List Value) (after : List Cell) → Grows (length xs) after d (go xs after)) → Grows k cells (plus c d) (then_add r go)
grows_then k cells (Ok n) d (Ok p) go h next = later d (go p.0 p.1) (next p.0 p.1)
  where
    later : (e : Cost) (q : Values) → Grows (length p.0) p.1 e q → Grows k cells (plus (Ok n) e) q
    later (Ok m) (Ok q) j =
        let first = h.1.1 in
        let second = j.1.1 in
        (h.0 + j.0, (adding_then cells p.1 q.1 h.0 j.0 h.1.0 j.1.0, omega (arith, first, second)))
    later (Ok m) (Err f) j = absurd j
    later (Err f) (Ok q) j = absurd j
    later (Err f) (Err g) j = j
grows_then k cells (Ok n) d (Err f) go h next = absurd h
grows_then k cells (Err f) d (Ok p) go h next = absurd h
grows_then k cells (Err f) d (Err g) go h next = h

abbrev GrowsBy : (List ℕ → Cost) → (List ℕ → List Value → Adds (List Value)) → Type 0
GrowsBy costs go = (turns : List ℕ) (done : List Value) (cells : List Cell) → Grows (length done) cells (costs turns) (go turns done cells)

turned_grows : (costs : List ℕ → Cost) (go : List ℕ → List Value → Adds (List Value)) → GrowsBy costs go → (n i : ℕ) → GrowsBy (turns_cost costs n i) (turned go n i)
turned_grows costs go by zero i turns done cells = (0, (adding_none cells, refl))
turned_grows costs go by (suc n) i turns done cells =
    grows_then (length done) cells (costs (turns ++ i ∷ [])) (turns_cost costs n (i + 1) turns) (go (turns ++ i ∷ []) done cells) (turned go n (i + 1) turns)
    (by (turns ++ i ∷ []) done cells) (turned_grows costs go by n (i + 1) turns)

abbrev MakesBy : (List ℕ → Cost) → (List ℕ → Adds Value) → Type 0
MakesBy costs go = (turns : List ℕ) (cells : List Cell) → Makes cells (costs turns) (go turns cells)

one_more : (done : List Value) (cells : List Cell) (c : Cost) (r : Result (Value × List Cell) Bare) → Makes cells c r
    → Grows (length done) cells (plus c (Ok 1)) (then_add r (λ v after. Ok (done ++ v ∷ [], after)))
one_more done cells (Ok n) (Ok p) h =
    let many : length (done ++ p.0 ∷ []) ≡ length done + 1 = length-append done (p.0 ∷ []) in
    (n, (h, omega (arith, many)))
one_more done cells (Ok n) (Err f) h = absurd h
one_more done cells (Err f) (Ok p) h = absurd h
one_more done cells (Err f) (Err g) h = h

item_grows : (costs : List ℕ → Cost) (go : List ℕ → Adds Value) (counts : ℕ → List ℕ → List ℕ) → MakesBy costs go → (ellipses : ℕ) → GrowsBy (item_cost costs counts ellipses) (item go counts ellipses)
item_grows costs go counts by zero turns done cells = one_more done cells (costs turns) (go turns cells) (by turns cells)
item_grows costs go counts by (suc ellipses) turns done cells = by_count (item_grows costs go counts by ellipses) (agree None (counts ellipses turns))
  where
    by_count : GrowsBy (item_cost costs counts ellipses) (item go counts ellipses) → (r : Result (Option ℕ) Bare)
        → Grows (length done) cells (r >>= λ n. turns_cost (item_cost costs counts ellipses) (or_none n) 0 turns) (r >>= λ n. turned (item go counts ellipses) (or_none n) 0 turns done cells)
    by_count inner (Ok n) = turned_grows (item_cost costs counts ellipses) (item go counts ellipses) inner (or_none n) 0 turns done cells
    by_count inner (Err f) = refl

module _ (a : Absent) (binds : Binds) where
  ending_makes : (t : PlainTemplate) (turns : List ℕ) → ((cells : List Cell) → Makes cells (measure a binds t turns) (instance a binds t turns cells))
      → (cells : List Cell) → Makes cells (measure a binds t turns) (ending t (instance a binds t turns) cells)
  ending_makes (variable l depth) turns by cells = by cells
  ending_makes (constant t) turns by cells = by_test (is_nil t)
    where
      by_test : (b : Bool) → Makes cells (Ok 0) (if b then Ok (value.Atom Nil, cells) else Ok (value.Syn t, cells))
      by_test true = adding_none cells
      by_test false = adding_none cells
  ending_makes (list is t) turns by cells = by cells
  ending_makes (vector is) turns by cells = by cells

  list_makes : (cells : List Cell) (c d : Cost) (r : Values) (go : Adds Value) → Grows 0 cells c r → ((after : List Cell) → Makes after d (go after))
      → Makes cells (plus c d) (then_add r (λ xs after. then_add (go after) (λ v later. Ok (pairs_stored xs (v, later)))))
  list_makes cells (Ok n) d (Ok p) go h by = later d (go p.1) (by p.1)
    where
      later : (e : Cost) (q : Result (Value × List Cell) Bare) → Makes p.1 e q → Makes cells (plus (Ok n) e) (then_add q (λ v after. Ok (pairs_stored p.0 (v, after))))
      later (Ok m) (Ok q) j =
          let count = h.1.1 in
          let whole : h.0 + m + length p.0 ≡ n + m = omega (arith, count) in
          subst (λ k. Adding cells k (pairs_stored p.0 (q.0, q.1)).1) whole
          (adding_then cells q.1 (pairs_stored p.0 (q.0, q.1)).1 (h.0 + m) (length p.0) (adding_then cells p.1 q.1 h.0 m h.1.0 j) (pairs_adding p.0 (q.0, q.1)))
      later (Ok m) (Err f) j = absurd j
      later (Err f) (Ok q) j = absurd j
      later (Err f) (Err g) j = j
  list_makes cells (Ok n) d (Err f) go h by = absurd h
  list_makes cells (Err f) d (Ok p) go h by = absurd h
  list_makes cells (Err f) d (Err g) go h by = h

  vector_makes : (cells : List Cell) (c : Cost) (r : Values) → Grows 0 cells c r → Makes cells c (then_add r (λ xs after. Ok (vector_stored (xs, after))))
  vector_makes cells (Ok n) (Ok p) h =
      let count = h.1.1 in
      let whole : h.0 + length p.0 ≡ n = omega (arith, count) in
      subst (λ k. Adding cells k (p.1 ++ cell.Vector p.0 ∷ [])) whole (adding_then cells p.1 (p.1 ++ cell.Vector p.0 ∷ []) h.0 (length p.0) h.1.0 (adding_one p.1 (cell.Vector p.0) (length p.0) refl))
  vector_makes cells (Ok n) (Err f) h = absurd h
  vector_makes cells (Err f) (Ok p) h = absurd h
  vector_makes cells (Err f) (Err g) h = h

  mutual
    instance_makes : (t : PlainTemplate) → MakesBy (measure a binds t) (instance a binds t)
    instance_makes (variable l depth) turns cells = adding_none cells
    instance_makes (constant t) turns cells = adding_none cells
    instance_makes (list is t) turns cells =
        list_makes cells (items_cost a binds is turns) (measure a binds t turns) (parts a binds is turns [] cells) (ending t (instance a binds t turns))
        (parts_grow is turns [] cells) (ending_makes t turns (instance_makes t turns))
    instance_makes (vector is) turns cells = vector_makes cells (items_cost a binds is turns) (parts a binds is turns [] cells) (parts_grow is turns [] cells)

    parts_grow : (is : PlainItems) → GrowsBy (items_cost a binds is) (parts a binds is)
    parts_grow none turns done cells = (0, (adding_none cells, refl))
    parts_grow (more t ellipses is) turns done cells =
        grows_then (length done) cells (item_cost (measure a binds t) (counts a binds t) ellipses turns) (items_cost a binds is turns)
        (item (instance a binds t) (counts a binds t) ellipses turns done cells) (parts a binds is turns)
        (item_grows (measure a binds t) (instance a binds t) (counts a binds t) (instance_makes t) ellipses turns done cells) (parts_grow is turns)

  makes_tells : (cells : List Cell) (c : Cost) (r : Result (Value × List Cell) Bare) → Makes cells c r → Tells cells c r
  makes_tells cells (Ok n) (Ok p) h = ap (λ after. cost (drop (length cells) after)) h.1.0 ∙ ap cost (drop-append_seam cells h.0) ∙ h.1.1
  makes_tells cells (Ok n) (Err f) h = absurd h
  makes_tells cells (Err f) (Ok p) h = absurd h
  makes_tells cells (Err f) (Err g) h = h

  pub measure_tells : (t : PlainTemplate) (cells : List Cell) → Tells cells (measure a binds t []) (instance a binds t [] cells)
  measure_tells t cells = makes_tells cells (measure a binds t []) (instance a binds t [] cells) (instance_makes t [] cells)
