-- An instance of a template whose variables are bound keeps a whole world whole, and is ready.
use Rattle.std.proofs.Common.{◌≡◌, ◌+◌, ℕ, zero, suc, List, [], ◌∷◌, ◌++◌, Option, Some, None, Bool, true, false, Result, Ok, Err, length, drop, refl, slice_get, option_and_then, if◌then◌else◌}
use Rattle.std.specs.Map.{lookup}
use Rattle.base_data.proofs.ElementLemmas.{each-and}
use Rattle.base_data.specs.Elements.{Each}
use Rattle.base_data.specs.Gives.{◌>>=◌}
use Rattle.base_data.specs.Same.{same_name}
use Rattle.base_data.specs.declared.atom.Atom.TheVariants as a
use Rattle.base_data.specs.declared.fault.Bare.{Bare}
use Rattle.base_data.specs.declared.name.Label.{Label}
use Rattle.base_region.specs.declared.region.Place.{Place}
use Rattle.stx_frames.specs.Scope.{or_else}
use Rattle.core_language.specs.Labels.{same_label}
use Rattle.core_language.specs.Template as template
use Rattle.core_language.specs.Template.{PlainTemplate, PlainItems}
use Rattle.eval_value.specs.Bind.{PlainBind, one, many, PlainBinds, none, more}
use Rattle.eval_value.specs.FromDatum.{pairs_stored, vector_stored}
use Rattle.eval_value.specs.declared.value.Value.{Value}
use Rattle.eval_value.specs.declared.value.Value.TheVariants as value
use Rattle.eval_value.specs.declared.cell.Cell.{Cell}
use Rattle.eval_value.specs.declared.cell.Cell.TheVariants as cell
use Rattle.eval_template.specs.Binds.{unbound, looked_up, listed, turn_of, through, innermost, reached, value_of}
use Rattle.eval_template.specs.Instance as instances
use Rattle.eval_template.specs.Lengths.{agree, or_none}
use Rattle.eval_code.specs.Instances.{Binds, with_bind, gathered, gathered_items, instance_of, cost_of, instance_made, instance_paid, instance_with, instanced}
use Rattle.eval_code.specs.Setting.{PlainSetting}
use Rattle.eval_code.specs.State.{WorldState, done, store}
use Rattle.eval_code.specs.Variables.{bind_in, parent_in, upwards, here_or_up, bind_found}
use Rattle.law_whole.specs.Grows.{WorldGrowth}
use Rattle.law_whole.specs.PartsReady.{EndsWell}
use Rattle.law_whole.specs.Ready.{BoundTo, BoundFrom, FindsAll, FindsItems}
use Rattle.law_whole.specs.WholeWorld.{ValueReady, ValuesReady, BindReady, BindsReady, CellReady, WholeWorld}
use Rattle.law_whole.proofs.Growth.{grows_refl, grows_then}
use Rattle.law_whole.proofs.Made.{vector_good}
use Rattle.law_whole.proofs.Steady.{binds_still, values_still}
use Rattle.law_whole.proofs.Wells.{well_charged}
use Rattle.law_whole.proofs.Worlds.{Stored, pairs_good}

-- the binds of variables are ready
abbrev AreReady : PlainSetting → List Cell → Binds → Type 0
AreReady w cells bs = Each (λ (b : Label × PlainBind). BindReady w cells b.1) bs

abbrev BindOr : PlainSetting → List Cell → Option PlainBind → Type 0
BindOr w cells None = Unit {0}
BindOr w cells (Some b) = BindReady w cells b

-- What is found from a cell of variables on.

or_bind : (w : PlainSetting) (cells : List Cell) (o r : Option PlainBind) → BindOr w cells o → BindOr w cells r → BindOr w cells (or_else o r)
or_bind w cells None r h k = k
or_bind w cells (Some b) r h k = h

own_bind : (w : PlainSetting) (cells : List Cell) (l : Label) (bs : Binds) → AreReady w cells bs → BindOr w cells (lookup (same_label l) bs)
own_bind w cells l [] r = tt
own_bind w cells l (b ∷ bs) r = by_own (same_label l b.0) (own_bind w cells l bs r.1)
  where
    by_own : (t : Bool) → BindOr w cells (lookup (same_label l) bs) → BindOr w cells (if t then Some b.1 else lookup (same_label l) bs)
    by_own true k = r.0
    by_own false k = k

bind_in_ready : (w : PlainSetting) (cells : List Cell) (l : Label) (c : Cell) → CellReady w cells c → BindOr w cells (bind_in l c)
bind_in_ready w cells l (cell.Binds bs p) r = own_bind w cells l bs r
bind_in_ready w cells l (cell.Scope es p) r = tt
bind_in_ready w cells l (cell.Pair x y) r = tt
bind_in_ready w cells l (cell.Vector xs) r = tt
bind_in_ready w cells l (cell.Str text) r = tt
bind_in_ready w cells l (cell.Transformer x) r = tt

up_bind : (w : PlainSetting) (cells : List Cell) (f : Option Place → Option PlainBind) → ((o : Option Place) → BindOr w cells (f o)) → (p : Option (Option Place)) → BindOr w cells (upwards f p)
up_bind w cells f k None = tt
up_bind w cells f k (Some o) = k o

module _ (w : PlainSetting) (cells : List Cell) (world : WholeWorld w cells) where
  bind_ready : (l : Label) (n : ℕ) (o : Option Place) → BindOr w cells (bind_found n cells l o)
  bind_ready l zero o = tt
  bind_ready l (suc n) None = tt
  bind_ready l (suc n) (Some place) = by_cell (bind_ready l n) (slice_get cells place.0) refl
    where
      by_cell : ((o : Option Place) → BindOr w cells (bind_found n cells l o)) → (o : Option Cell) → slice_get cells place.0 ≡ o → BindOr w cells (here_or_up (bind_in l) (bind_found n cells l) o)
      by_cell again None e = tt
      by_cell again (Some c) e =
          or_bind w cells (bind_in l c) (upwards (bind_found n cells l) (parent_in c)) (bind_in_ready w cells l c (world.values place.0 c e))
          (up_bind w cells (bind_found n cells l) again (parent_in c))

-- all variables of a template have a bind that is ready
abbrev GatherReady : PlainSetting → List Cell → Option Binds → Type 0
GatherReady w cells None = ⊥
GatherReady w cells (Some bs) = AreReady w cells bs

one_more : (w : PlainSetting) (cells : List Cell) (bs : Binds) (l : Label) (b : PlainBind) → AreReady w cells bs → BindReady w cells b → AreReady w cells (bs ++ (l, b) ∷ [])
one_more w cells [] l b r k = (k, tt)
one_more w cells (x ∷ bs) l b r k = (r.0, one_more w cells bs l b r.1 k)

then_gather : (w : PlainSetting) (cells : List Cell) (f : Binds → Option Binds) (o : Option Binds) → GatherReady w cells o → ((bs : Binds) → AreReady w cells bs → GatherReady w cells (f bs))
    → GatherReady w cells (option_and_then f o)
then_gather w cells f None h k = absurd h
then_gather w cells f (Some bs) h k = k bs h

module _ (w : PlainSetting) (cells : List Cell) (world : WholeWorld w cells) (scope : Place) where
  mutual
    gathered_ready : (t : PlainTemplate) (bs : Binds) → FindsAll (BoundFrom cells (Some scope)) t → AreReady w cells bs → GatherReady w cells (gathered cells scope t bs)
    gathered_ready (template.variable l d) bs f r = by_bind (bind_found (suc (length cells)) cells l (Some scope)) f (bind_ready w cells world l (suc (length cells)) (Some scope))
      where
        by_bind : (o : Option PlainBind) → BoundTo d o → BindOr w cells o → GatherReady w cells (with_bind l bs o)
        by_bind None h k = absurd h
        by_bind (Some b) h k = one_more w cells bs l b r k
    gathered_ready (template.constant t) bs f r = r
    gathered_ready (template.list is t) bs f r =
        then_gather w cells (gathered cells scope t) (gathered_items cells scope is bs) (items_ready is bs f.0 r) (λ cs k. gathered_ready t cs f.1 k)
    gathered_ready (template.vector is) bs f r = items_ready is bs f r

    items_ready : (is : PlainItems) (bs : Binds) → FindsItems (BoundFrom cells (Some scope)) is → AreReady w cells bs → GatherReady w cells (gathered_items cells scope is bs)
    items_ready template.none bs f r = r
    items_ready (template.more t e is) bs f r =
        then_gather w cells (gathered_items cells scope is) (gathered cells scope t bs) (gathered_ready t bs f.0 r) (λ cs k. items_ready is cs f.1 k)

-- What a variable gives.

looked_up_ready : (w : PlainSetting) (cells : List Cell) (bs : Binds) (l : Label) → AreReady w cells bs → BindOr w cells (looked_up bs l)
looked_up_ready w cells [] l r = tt
looked_up_ready w cells (b ∷ bs) l r = by_own (same_name b.0.0 l.0) (looked_up_ready w cells bs l r.1)
  where
    by_own : (t : Bool) → BindOr w cells (looked_up bs l) → BindOr w cells (if t then Some b.1 else looked_up bs l)
    by_own true k = r.0
    by_own false k = k

turns_ready : (w : PlainSetting) (cells : List Cell) (bs : PlainBinds) (i : ℕ) → BindsReady w cells bs → BindOr w cells (slice_get (listed bs) i)
turns_ready w cells none i r = tt
turns_ready w cells (more b bs) zero r = r.0
turns_ready w cells (more b bs) (suc i) r = turns_ready w cells bs i r.1

turn_ready : (w : PlainSetting) (cells : List Cell) (b : PlainBind) (i : ℕ) → BindReady w cells b → BindOr w cells (turn_of b i)
turn_ready w cells (one v) i r = tt
turn_ready w cells (many bs) i r = turns_ready w cells bs i r

through_ready : (w : PlainSetting) (cells : List Cell) (is : List ℕ) (o : Option PlainBind) → BindOr w cells o → BindOr w cells (through o is)
through_ready w cells is None r = tt
through_ready w cells [] (Some b) r = r
through_ready w cells (i ∷ is) (Some b) r = through_ready w cells is (turn_of b i) (turn_ready w cells b i r)

value_ready : (w : PlainSetting) (cells : List Cell) (o : Option PlainBind) → BindOr w cells o → ValueReady w cells (value_of unbound o)
value_ready w cells None r = record { fits = tt; ready = tt }
value_ready w cells (Some (one v)) r = r
value_ready w cells (Some (many bs)) r = record { fits = tt; ready = tt }

-- Instances.

-- what was given, with the cells then
abbrev Given : {A : Type 0} → PlainSetting → (List Cell → A → Type 0) → List Cell → Result (A × List Cell) Bare → Type 0
Given w P cells (Ok p) = WorldGrowth cells p.1 × (WholeWorld w p.1 × P p.1 p.0)
Given w P cells (Err f) = Unit {0}

given_then : {A B : Type 0} (w : PlainSetting) (P : List Cell → A → Type 0) (Q : List Cell → B → Type 0) (cells : List Cell) (r : Result (A × List Cell) Bare) (go : A → List Cell → Result (B × List Cell) Bare)
    → Given w P cells r → ((x : A) (after : List Cell) → WorldGrowth cells after → WholeWorld w after → P after x → Given w Q after (go x after)) → Given w Q cells (instances.then_add r go)
given_then {A} {B} w P Q cells (Ok p) go h k = later (go p.0 p.1) (k p.0 p.1 h.0 h.1.0 h.1.1)
  where
    later : (q : Result (B × List Cell) Bare) → Given w Q p.1 q → Given w Q cells q
    later (Ok r) j = (grows_then cells p.1 r.1 h.0 j.0, j.1)
    later (Err f) j = tt
given_then w P Q cells (Err f) go h k = tt

stored_given : (w : PlainSetting) (cells : List Cell) (p : Value × List Cell) → Stored w cells p → Given w (ValueReady w) cells (Ok p)
stored_given w cells p it = (it.grows, (it.world, it.ready))

-- The binds stay ready as cells come.
module _ (w : PlainSetting) (bs : Binds) where
  -- values behind those that are there
  abbrev GivesValues : (List ℕ → List Value → List Cell → Result (List Value × List Cell) Bare) → Type 0
  GivesValues go = (turns : List ℕ) (xs : List Value) (cells : List Cell) → WholeWorld w cells → AreReady w cells bs → ValuesReady w cells xs → Given w (ValuesReady w) cells (go turns xs cells)

  abbrev GivesValue : (List ℕ → List Cell → Result (Value × List Cell) Bare) → Type 0
  GivesValue go = (turns : List ℕ) (cells : List Cell) → WholeWorld w cells → AreReady w cells bs → Given w (ValueReady w) cells (go turns cells)

  turned_given : (go : List ℕ → List Value → List Cell → Result (List Value × List Cell) Bare) → GivesValues go → (n i : ℕ) → GivesValues (instances.turned go n i)
  turned_given go gives zero i turns xs cells world b r = (grows_refl cells, (world, r))
  turned_given go gives (suc n) i turns xs cells world b r =
      given_then w (ValuesReady w) (ValuesReady w) cells (go (turns ++ i ∷ []) xs cells) (instances.turned go n (i + 1) turns) (gives (turns ++ i ∷ []) xs cells world b r)
      (λ ys after g whole k. turned_given go gives n (i + 1) turns ys after whole (binds_still w cells after g bs b) k)

  item_given : (go : List ℕ → List Cell → Result (Value × List Cell) Bare) (counts : ℕ → List ℕ → List ℕ) → GivesValue go → (ellipses : ℕ) → GivesValues (instances.item go counts ellipses)
  item_given go counts gives zero turns xs cells world b r =
      given_then w (ValueReady w) (ValuesReady w) cells (go turns cells) (λ v after. Ok (xs ++ v ∷ [], after)) (gives turns cells world b)
      (λ v after g whole k. (grows_refl after, (whole, each-and (ValueReady w after) xs v (values_still w cells after g xs r) k)))
  item_given go counts gives (suc ellipses) turns xs cells world b r = by_count (item_given go counts gives ellipses) (agree None (counts ellipses turns))
    where
      by_count : GivesValues (instances.item go counts ellipses) → (c : Result (Option ℕ) Bare)
          → Given w (ValuesReady w) cells (c >>= λ n. instances.turned (instances.item go counts ellipses) (or_none n) 0 turns xs cells)
      by_count inner (Ok n) = turned_given (instances.item go counts ellipses) inner (or_none n) 0 turns xs cells world b r
      by_count inner (Err f) = tt

  ending_given : (t : PlainTemplate) (go : List ℕ → List Cell → Result (Value × List Cell) Bare) → GivesValue go → (turns : List ℕ) (cells : List Cell) → WholeWorld w cells → AreReady w cells bs
      → Given w (ValueReady w) cells (instances.ending t (go turns) cells)
  ending_given t go gives turns cells world b = by_test (instances.is_end t)
    where
      by_test : (c : Bool) → Given w (ValueReady w) cells (if c then Ok (value.Atom a.Nil, cells) else go turns cells)
      by_test true = (grows_refl cells, (world, record { fits = tt; ready = tt }))
      by_test false = gives turns cells world b

  mutual
    instance_given : (t : PlainTemplate) → GivesValue (instances.instance unbound bs t)
    instance_given (template.variable l depth) turns cells world b =
        (grows_refl cells, (world, value_ready w cells (reached bs l depth turns) (through_ready w cells (innermost depth turns) (looked_up bs l) (looked_up_ready w cells bs l b))))
    instance_given (template.constant t) turns cells world b = (grows_refl cells, (world, record { fits = tt; ready = tt }))
    instance_given (template.list is t) turns cells world b =
        given_then w (ValuesReady w) (ValueReady w) cells (instances.parts unbound bs is turns [] cells)
        (λ xs after. instances.then_add (instances.ending t (instances.instance unbound bs t turns) after) (λ v later. Ok (pairs_stored xs (v, later)))) (parts_given is turns [] cells world b tt)
        (λ xs after g whole k.
        given_then w (ValueReady w) (ValueReady w) after (instances.ending t (instances.instance unbound bs t turns) after) (λ v later. Ok (pairs_stored xs (v, later)))
        (ending_given t (instances.instance unbound bs t) (instance_given t) turns after whole (binds_still w cells after g bs b))
        (λ v later h all j. stored_given w later (pairs_stored xs (v, later)) (pairs_good w xs v later all (values_still w after later h xs k) j)))
    instance_given (template.vector is) turns cells world b =
        given_then w (ValuesReady w) (ValueReady w) cells (instances.parts unbound bs is turns [] cells) (λ xs after. Ok (vector_stored (xs, after))) (parts_given is turns [] cells world b tt)
        (λ xs after g whole k. stored_given w after (vector_stored (xs, after)) (vector_good w after xs whole k))

    parts_given : (is : PlainItems) → GivesValues (instances.parts unbound bs is)
    parts_given template.none turns xs cells world b r = (grows_refl cells, (world, r))
    parts_given (template.more t ellipses is) turns xs cells world b r =
        given_then w (ValuesReady w) (ValuesReady w) cells (instances.item (instances.instance unbound bs t) (instances.counts unbound bs t) ellipses turns xs cells) (instances.parts unbound bs is turns)
        (item_given (instances.instance unbound bs t) (instances.counts unbound bs t) (instance_given t) ellipses turns xs cells world b r)
        (λ ys after g whole k. parts_given is turns ys after whole (binds_still w cells after g bs b) k)

well_made : (w : PlainSetting) (s : WorldState) (r : Result (Value × List Cell) Bare) → WholeWorld w s.cells → Given w (ValueReady w) s.cells r → (n : ℕ) → EndsWell w s.cells (instance_made s r n)
well_made w s (Ok p) world h n = h
well_made w s (Err f) world h n = (grows_refl s.cells, world)

well_paid : (w : PlainSetting) (s : WorldState) (n : ℕ) (r : Result (Value × List Cell) Bare) (c : Result ℕ Bare) → WholeWorld w s.cells → Given w (ValueReady w) s.cells r → EndsWell w s.cells (instance_paid s n r c)
well_paid w s n r (Ok cost) world h = well_charged w cost s n (instance_made s r) world (λ m e. well_made w s r world h m)
well_paid w s n r (Err f) world h = (grows_refl s.cells, world)

well_with : (w : PlainSetting) (t : PlainTemplate) (s : WorldState) (n : ℕ) (o : Option Binds) → WholeWorld w s.cells → GatherReady w s.cells o → EndsWell w s.cells (instance_with t s n o)
well_with w t s n None world h = absurd h
well_with w t s n (Some bs) world h = well_paid w s n (instance_of bs t s.cells) (cost_of bs t) world (instance_given w bs t [] s.cells world h)

pub well_instance : (w : PlainSetting) (t : PlainTemplate) (scope : Place) (s : WorldState) (n : ℕ) → WholeWorld w s.cells → FindsAll (BoundFrom s.cells (Some scope)) t → EndsWell w s.cells (instanced t scope s n)
unfolding instanced
well_instance w t scope s n world f = well_with w t s n (gathered s.cells scope t []) world (gathered_ready w s.cells world scope t [] f tt)
