-- An instance is what the report says, or lengths differ.
use Rattle.std.proofs.Common.{◌≡◌, ℕ, zero, suc, ◌+◌, ◌-◌, ◌<◌, ◌≤◌, Bool, true, false, List, [], ◌∷◌, ◌++◌, length, slice_get, Option, Some, None, Result, Ok, Err, refl, ap, sym, ◌∙◌, subst, append-nil, append_assoc, arith, inl, inr, if◌then◌else◌}
use Rattle.std.specs.Prelude.{◌⊎◌, nat_eq, nat_lt}
use Rattle.std.specs.Cmp.{unsigned_Decides}
use Rattle.std.proofs.lemmas.Bool.{eqb-true, ltb-true, ltb-false}
use Rattle.base_data.specs.Gives.{◌>>=◌}
use Rattle.base_data.specs.Same.{same_name, same_name_cases}
use Rattle.base_data.specs.declared.atom.Atom.TheVariants.{Nil}
use Rattle.base_data.specs.declared.fault.Bare.{Bare}
use Rattle.base_data.specs.declared.name.Label.{Label}
use Rattle.base_region.proofs.Laws.{slice_get-added}
use Rattle.stx_tree.specs.Tree as tree
use Rattle.core_language.specs.Template.{PlainTemplate, variable, constant, list, vector, PlainItems, none, more}
use Rattle.eval_value.specs.Bind.{PlainBind, one, many, PlainBinds}
use Rattle.eval_value.specs.Bind as bind
use Rattle.eval_value.specs.Cells.{pair_in, vector_in}
use Rattle.eval_value.specs.FromDatum.{Keeps, pairs_stored, vector_stored}
use Rattle.eval_value.specs.declared.cell.Cell.{Cell}
use Rattle.eval_value.specs.declared.cell.Cell.TheVariants as cell
use Rattle.eval_value.specs.declared.value.Value.{Value}
use Rattle.eval_value.specs.declared.value.Value.TheVariants as value
use Rattle.eval_value.proofs.Stored.{keeps_refl, keeps_then, keeps_added, pairs_keep}
use Rattle.eval_template.specs.Binds.{Binds, Absent, looked_up, listed, through, innermost, reached, value_of, count_of}
use Rattle.eval_template.specs.Lengths.{lengths, items_lengths, differing, agree, or_none}
use Rattle.eval_template.specs.Instance.{then_add, turned, item, counts, is_end, ending, instance, parts}
use Rattle.law_templates.specs.Ready.{HasDepth}
use Rattle.law_templates.proofs.Sight.{Sees, AllSeen, ItemsSeen, agreed_all, seen_next, seen_ready}
use Rattle.law_templates.proofs.Alikes.{take_get}
use Rattle.law_report.specs.Instances.{HasBinds, IsTurn, IsReached, IsSeen, HasLength, AreLengths, AreItemLengths, AllAre, IsAgreed, IsListed, IsNil, IsInstance, IsEnd, AreInstances, AreRepeated, turns_from, AreTurns, IsItem, AreUneven, IsUneven, InstancesAreGiven}
use Rattle.law_report.specs.Instances as r

-- Variables.

label-is : (a b : Label) → same_name a.0 b.0 ≡ true → a ≡ b
label-is a b h = let e = (same_name_cases a.0 b.0).0 h in λ i. record { 0 = e i }

label-self : (l : Label) → same_name l.0 l.0 ≡ true
label-self l = (same_name_cases l.0 l.0).1 refl

other-label : (m l : Label) → same_name m.0 l.0 ≡ false → m ≡ l → ⊥
other-label m l e s = let f : false ≡ true = sym e ∙ subst (λ (k : Label). same_name k.0 l.0 ≡ true) (sym s) (label-self l) in let g : ⊥ = cc in g

is-bound : (binds : Binds) (l : Label) (b : PlainBind) → looked_up binds l ≡ Some b → HasBinds l binds b
is-bound [] l b h = absurd (cc)
is-bound (x ∷ xs) l b h = by (same_name x.0.0 l.0) refl h (is-bound xs l b)
  where
    by : (c : Bool) → same_name x.0.0 l.0 ≡ c → (if c then Some x.1 else looked_up xs l) ≡ Some b → (looked_up xs l ≡ Some b → HasBinds l xs b) → HasBinds l (x ∷ xs) b
    by true e k rest =
        let same : x.1 ≡ b = cc in
        subst (λ a. HasBinds l ((x.0, x.1) ∷ xs) a) same (subst (λ m. HasBinds l ((m, x.1) ∷ xs) x.1) (sym (label-is x.0 l e)) r.bound_first)
    by false e k rest = r.bound_behind (other-label x.0 l e) (rest k)

is-turn : (bs : PlainBinds) (i : ℕ) (b : PlainBind) → slice_get (listed bs) i ≡ Some b → IsTurn i bs b
is-turn bind.none i b h = absurd (cc)
is-turn (bind.more x xs) zero b h = subst (λ a. IsTurn 0 (bind.more x xs) a) (let e : x ≡ b = cc in e) r.turn_first
is-turn (bind.more x xs) (suc i) b h = r.turn_behind (is-turn xs i b h)

is-reached : (a : PlainBind) (is : List ℕ) (b : PlainBind) → through (Some a) is ≡ Some b → IsReached a is b
is-reached a [] b h = subst (IsReached a []) (let e : a ≡ b = cc in e) r.reached_here
is-reached (one v) (i ∷ is) b h = absurd (cc)
is-reached (many bs) (i ∷ is) b h = by (slice_get (listed bs) i) refl h (λ x. is-reached x is b)
  where
    by : (o : Option PlainBind) → slice_get (listed bs) i ≡ o → through o is ≡ Some b → ((x : PlainBind) → through (Some x) is ≡ Some b → IsReached x is b) → IsReached (many bs) (i ∷ is) b
    by None e k rest = absurd (cc)
    by (Some x) e k rest = r.reached_by (is-turn bs i x e) (rest x k)

is-seen : (binds : Binds) (l : Label) (depth : ℕ) (turns : List ℕ) (b : PlainBind) → reached binds l depth turns ≡ Some b → IsSeen binds l depth turns b
is-seen binds l depth turns b h = by (looked_up binds l) refl h
  where
    by : (o : Option PlainBind) → looked_up binds l ≡ o → through o (innermost depth turns) ≡ Some b → IsSeen binds l depth turns b
    by None e k = absurd (cc)
    by (Some a) e k = r.seen (is-bound binds l a e) (is-reached a (innermost depth turns) b k)

has-length : (bs : PlainBinds) → HasLength bs (length (listed bs))
has-length bind.none = r.no_binds
has-length (bind.more b bs) = r.one_bind (has-length bs)

-- Lengths.

module _ (a : Absent) (binds : Binds) (turns : List ℕ) where
  variable-lengths : (k : ℕ) (l : Label) (d : ℕ) → Sees binds turns (suc k) l d → AreLengths binds turns k (variable l d) (lengths a binds turns k (variable l d))
  variable-lengths k l d s = go (nat_lt k d) refl
    where
      long : k < d → (b : PlainBind) → reached binds l (d - suc k) turns ≡ Some b → HasDepth (suc k) b → AreLengths binds turns k (variable l d) (count_of a (reached binds l (d - suc k) turns) ∷ [])
      long lt (one v) e deep = absurd deep
      long lt (many bs) e deep = subst (λ n. AreLengths binds turns k (variable l d) (n ∷ [])) (sym (ap (count_of a) e)) (r.long_variable lt (is-seen binds l (d - suc k) turns (many bs) e) (has-length bs))

      go : (b : Bool) → nat_lt k d ≡ b → AreLengths binds turns k (variable l d) (if b then count_of a (reached binds l (d - suc k) turns) ∷ [] else [])
      go true e =
          let lt = ltb-true k d e in
          long lt s.bound s.reach (subst (λ m. HasDepth m s.bound) (let f : d - (d - suc k) ≡ suc k = omega (arith, lt) in f) s.deep)
      go false e = r.short_variable (ltb-false k d e)

  mutual
    are-lengths : (k : ℕ) (t : PlainTemplate) → AllSeen binds turns (suc k) t → AreLengths binds turns k t (lengths a binds turns k t)
    are-lengths k (variable l d) s = variable-lengths k l d s
    are-lengths k (constant t) s = r.of_constant
    are-lengths k (list is t) s = r.of_list (are-item-lengths k is s.0) (are-lengths k t s.1)
    are-lengths k (vector is) s = r.of_vector (are-item-lengths k is s)

    are-item-lengths : (k : ℕ) (is : PlainItems) → ItemsSeen binds turns (suc k) is → AreItemLengths binds turns k is (items_lengths a binds turns k is)
    are-item-lengths k none s = r.of_none
    are-item-lengths k (more t e is) s =
        let up : suc k + e ≡ suc (k + e) = omega arith in
        r.of_more (are-lengths (k + e) t (subst (λ m. AllSeen binds turns m t) up s.0)) (are-item-lengths k is s.1)

-- lengths that agree, or the first two that differ
record Uneven (m : ℕ) (ns : List ℕ) (f : Bare) : Type 0 where
  pub before : List ℕ
  pub n : ℕ
  pub after : List ℕ
  pub is : ns ≡ before ++ n ∷ after
  pub same : AllAre m before
  pub other : m ≡ n → ⊥
  pub fault : f ≡ differing m n

abbrev Agrees : ℕ → List ℕ → Result (Option ℕ) Bare → Type 0
Agrees m ns (Ok o) = (o ≡ Some m) × AllAre m ns
Agrees m ns (Err f) = Uneven m ns f

agrees : (m : ℕ) (ns : List ℕ) → Agrees m ns (agree (Some m) ns)
agrees m [] = (refl, tt)
agrees m (n ∷ ns) = by (nat_eq m n) refl (agree (Some m) ns) (agrees m ns)
  where
    by : (b : Bool) → nat_eq m n ≡ b → (x : Result (Option ℕ) Bare) → Agrees m ns x → Agrees m (n ∷ ns) (if b then x else Err (differing m n))
    by true e (Ok o) h = (h.0, (sym (eqb-true m n e), h.1))
    by true e (Err f) h = record { before = n ∷ h.before; n = h.n; after = h.after; is = ap (λ ks. n ∷ ks) h.is; same = (sym (eqb-true m n e), h.same); other = h.other; fault = h.fault }
    by false e x h = record { before = []; n = n; after = ns; is = refl; same = tt; other = λ s. let k = sym e ∙ (unsigned_Decides m n).1 s in let f : ⊥ = cc in f; fault = refl }

-- Cells that are kept.

module _ (binds : Binds) (x y : List Cell) (k : Keeps x y) where
  kept : {A : Type 0} (look : Option Cell → Option A) (v : A) (n : ℕ) → look None ≡ None → look (slice_get x n) ≡ Some v → look (slice_get y n) ≡ Some v
  kept {A} look v n empty e = go (slice_get x n) refl e
    where
      go : (o : Option Cell) → slice_get x n ≡ o → look o ≡ Some v → look (slice_get y n) ≡ Some v
      go None f g = absurd (let h : None ≡ Some v = sym empty ∙ g in let z : ⊥ = cc in z)
      go (Some c) f g = ap look (take_get (length x) y n c (ap (λ cells. slice_get cells n) k ∙ f)) ∙ g

  still-listed : {xs : List Value} {w v : Value} → IsListed x xs w v → IsListed y xs w v
  still-listed r.listed_none = r.listed_none
  still-listed (r.listed_pair {p = p} {x = a} {d = d} e h) = r.listed_pair (kept pair_in (a, d) p.0 refl e) (still-listed h)

  mutual
    still : {turns : List ℕ} {t : PlainTemplate} {v : Value} → IsInstance binds x turns t v → IsInstance binds y turns t v
    still (r.of_variable s) = r.of_variable s
    still r.itself = r.itself
    still (r.as_list is e l) = r.as_list (all-still is) (end-still e) (still-listed l)
    still (r.as_vector {xs = xs} {p = p} is e) = r.as_vector (all-still is) (kept vector_in xs p.0 refl e)

    end-still : {turns : List ℕ} {t : PlainTemplate} {w : Value} → IsEnd binds x turns t w → IsEnd binds y turns t w
    end-still (r.plain_end n) = r.plain_end n
    end-still (r.other_end n i) = r.other_end n (still i)

    all-still : {turns : List ℕ} {is : PlainItems} {xs : List Value} → AreInstances binds x turns is xs → AreInstances binds y turns is xs
    all-still r.no_instance = r.no_instance
    all-still (r.with_instances i is) = r.with_instances (repeated-still i) (all-still is)

    repeated-still : {turns : List ℕ} {t : PlainTemplate} {e : ℕ} {xs : List Value} → AreRepeated binds x turns t e xs → AreRepeated binds y turns t e xs
    repeated-still (r.no_ellipsis i) = r.no_ellipsis (still i)
    repeated-still (r.an_ellipsis l a i) = r.an_ellipsis l a (turns-still i)

    turns-still : {turns : List ℕ} {t : PlainTemplate} {e n i : ℕ} {xs : List Value} → AreTurns binds x turns t e (turns_from i n) xs → AreTurns binds y turns t e (turns_from i n) xs
    turns-still r.no_turn = r.no_turn
    turns-still (r.a_turn i is) = r.a_turn (repeated-still i) (turns-still is)

pairs-listed : (xs : List Value) (w : Value) (cells : List Cell) → IsListed (pairs_stored xs (w, cells)).1 xs w (pairs_stored xs (w, cells)).0
pairs-listed [] w cells = r.listed_none
pairs-listed (x ∷ xs) w cells =
    let p = pairs_stored xs (w, cells) in
    let c = cell.Pair x p.0 in
    r.listed_pair (ap pair_in (slice_get-added p.1 c)) (still-listed [] p.1 (p.1 ++ c ∷ []) (keeps_added p.1 p.1 c (keeps_refl p.1)) (pairs-listed xs w cells))

-- Instances.

is-nil : (t : PlainTemplate) → is_end t ≡ true → IsNil t
is-nil (variable l d) h = absurd (cc)
is-nil (constant (tree.atom s Nil)) h = r.nil
is-nil (constant (tree.atom s _)) h = absurd (cc)
is-nil (constant (tree.leaf s x c)) h = absurd (cc)
is-nil (constant (tree.pair s a d)) h = absurd (cc)
is-nil (constant (tree.vector s d)) h = absurd (cc)
is-nil (list is t) h = absurd (cc)
is-nil (vector is) h = absurd (cc)

nil-is : (t : PlainTemplate) → IsNil t → is_end t ≡ true
nil-is _ r.nil = refl

module _ (a : Absent) (binds : Binds) where
  abbrev Given : List ℕ → PlainTemplate → List Cell → Result (Value × List Cell) Bare → Type 0
  Given turns t cells (Ok p) = Keeps cells p.1 × IsInstance binds p.1 turns t p.0
  Given turns t cells (Err f) = IsUneven binds t f

  -- values behind those that are done
  record Gave (Are : List Cell → List Value → Type 0) (done : List Value) (cells : List Cell) (p : List Value × List Cell) : Type 0 where
    pub xs : List Value
    pub is : p.0 ≡ done ++ xs
    pub keeps : Keeps cells p.1
    pub are : Are p.1 xs

  abbrev GivenAll : (List Cell → List Value → Type 0) → (Bare → Type 0) → List Value → List Cell → Result (List Value × List Cell) Bare → Type 0
  GivenAll Are Bad done cells (Ok p) = Gave Are done cells p
  GivenAll Are Bad done cells (Err f) = Bad f

  -- lengths that differ at one of the ellipses behind a template, or inside it
  abbrev UnevenAt : PlainTemplate → ℕ → Bare → Type 0
  UnevenAt t ellipses f = ((inside : ℕ) × ((inside < ellipses) × AreUneven binds t inside f)) ⊎ IsUneven binds t f

  record UnevenIn (is : PlainItems) (f : Bare) : Type 0 where
    pub part : PlainTemplate
    pub ellipses : ℕ
    pub inside : ℕ
    pub within : IsItem part ellipses is
    pub below : inside < ellipses
    pub differ : AreUneven binds part inside f

  uneven-first : (t : PlainTemplate) (e : ℕ) (is : PlainItems) (f : Bare) → UnevenAt t e f → UnevenIn (more t e is) f
  uneven-first t e is f (inl x) = record { part = t; ellipses = e; inside = x.0; within = r.this_item; below = x.1.0; differ = x.1.1 }
  uneven-first t e is f (inr x) = record { part = x.part; ellipses = x.ellipses; inside = x.inside; within = r.inside_item x.within; below = x.below; differ = x.differ }

  uneven-later : (t : PlainTemplate) (e : ℕ) (is : PlainItems) (f : Bare) → UnevenIn is f → UnevenIn (more t e is) f
  uneven-later t e is f x = record { part = x.part; ellipses = x.ellipses; inside = x.inside; within = r.later_item x.within; below = x.below; differ = x.differ }

  variable-given : (l : Label) (d : ℕ) (turns : List ℕ) (cells : List Cell) → Sees binds turns 0 l d → Given turns (variable l d) cells (Ok (value_of a (reached binds l d turns), cells))
  variable-given l d turns cells s =
      let all : d - 0 ≡ d = omega arith in
      by s.bound (ap (λ n. reached binds l n turns) (sym all) ∙ s.reach) (subst (λ m. HasDepth m s.bound) (let f : d - (d - 0) ≡ 0 = omega arith in f) s.deep)
    where
      by : (b : PlainBind) → reached binds l d turns ≡ Some b → HasDepth 0 b → Given turns (variable l d) cells (Ok (value_of a (reached binds l d turns), cells))
      by (one v) e deep = (keeps_refl cells, subst (IsInstance binds cells turns (variable l d)) (sym (ap (value_of a) e)) (r.of_variable (is-seen binds l d turns (one v) e)))
      by (many bs) e deep = absurd deep

  abbrev Turns : List ℕ → PlainTemplate → ℕ → ℕ → ℕ → List Cell → List Value → Type 0
  Turns turns t e n i cells xs = AreTurns binds cells turns t e (turns_from i n) xs

  abbrev Repeated : List ℕ → PlainTemplate → ℕ → List Cell → List Value → Type 0
  Repeated turns t e cells xs = AreRepeated binds cells turns t e xs

  -- one turn, and those behind it
  turn-on : (Bad : Bare → Type 0) (turns : List ℕ) (t : PlainTemplate) (e n i : ℕ) (done : List Value) (cells : List Cell) (p : List Value × List Cell) → Gave (Repeated (turns ++ i ∷ []) t e) done cells p → (x : Result (List Value × List Cell) Bare)
      → GivenAll (Turns turns t e n (i + 1)) Bad p.0 p.1 x → GivenAll (Turns turns t e (suc n) i) Bad done cells x
  turn-on Bad turns t e n i done cells p g (Ok q) h = record {
    xs = g.xs ++ h.xs;
    is = h.is ∙ ap (λ ys. ys ++ h.xs) g.is ∙ append_assoc done g.xs h.xs;
    keeps = keeps_then cells p.1 q.1 g.keeps h.keeps;
    are = r.a_turn (repeated-still binds p.1 q.1 h.keeps g.are) h.are;
  }
  turn-on Bad turns t e n i done cells p g (Err f) h = h

  turns-given : (Bad : Bare → Type 0) (turns : List ℕ) (t : PlainTemplate) (e count n i : ℕ) (done : List Value) (cells : List Cell) → n + i ≤ count
      → ((j : ℕ) (done : List Value) (cells : List Cell) → j < count → GivenAll (Repeated (turns ++ j ∷ []) t e) Bad done cells (item (instance a binds t) (counts a binds t) e (turns ++ j ∷ []) done cells))
      → GivenAll (Turns turns t e n i) Bad done cells (turned (item (instance a binds t) (counts a binds t) e) n i turns done cells)
  turns-given Bad turns t e count zero i done cells h k = record { xs = []; is = sym (append-nil done); keeps = keeps_refl cells; are = r.no_turn }
  turns-given Bad turns t e count (suc n) i done cells h k =
      on (λ xs cells. turns-given Bad turns t e count n (i + 1) xs cells (omega arith) k) (item (instance a binds t) (counts a binds t) e (turns ++ i ∷ []) done cells) (k i done cells (omega arith))
    where
      on : ((xs : List Value) (cells : List Cell) → GivenAll (Turns turns t e n (i + 1)) Bad xs cells (turned (item (instance a binds t) (counts a binds t) e) n (i + 1) turns xs cells))
          → (x : Result (List Value × List Cell) Bare) → GivenAll (Repeated (turns ++ i ∷ []) t e) Bad done cells x
          → GivenAll (Turns turns t e (suc n) i) Bad done cells (then_add x (turned (item (instance a binds t) (counts a binds t) e) n (i + 1) turns))
      on ih (Ok p) g = turn-on Bad turns t e n i done cells p g (turned (item (instance a binds t) (counts a binds t) e) n (i + 1) turns p.0 p.1) (ih p.0 p.1)
      on ih (Err f) g = g

  module _ (t : PlainTemplate) (k : ℕ) (ih : (turns : List ℕ) (cells : List Cell) → AllSeen binds turns 0 t → Given turns t cells (instance a binds t turns cells)) where
    one-given : (turns : List ℕ) (done : List Value) (cells : List Cell) (x : Result (Value × List Cell) Bare) → Given turns t cells x → GivenAll (Repeated turns t 0) (UnevenAt t k) done cells (then_add x (λ v cells. Ok (done ++ v ∷ [], cells)))
    one-given turns done cells (Ok p) h = record { xs = p.0 ∷ []; is = refl; keeps = h.0; are = r.no_ellipsis h.1 }
    one-given turns done cells (Err f) h = inr h

    item-given : (e : ℕ) → e ≤ k → (turns : List ℕ) (done : List Value) (cells : List Cell) → AllSeen binds turns e t → GivenAll (Repeated turns t e) (UnevenAt t k) done cells (item (instance a binds t) (counts a binds t) e turns done cells)
    item-given zero le turns done cells s = one-given turns done cells (instance a binds t turns cells) (ih turns cells s)
    item-given (suc e) le turns done cells s = by (lengths a binds turns e t) refl (are-lengths a binds turns e t s) (item-given e (omega (arith, le)))
      where
        with_turns : (n : ℕ) (ns : List ℕ) → AreLengths binds turns e t ns → IsAgreed n ns → (x : Result (List Value × List Cell) Bare) → GivenAll (Turns turns t e n 0) (UnevenAt t k) done cells x → GivenAll (Repeated turns t (suc e)) (UnevenAt t k) done cells x
        with_turns n ns l g (Ok p) h = record { xs = h.xs; is = h.is; keeps = h.keeps; are = r.an_ellipsis l g h.are }
        with_turns n ns l g (Err f) h = h

        all_turns : (n : ℕ) (ns : List ℕ) → lengths a binds turns e t ≡ ns → agree None ns ≡ Ok (Some n) → ((turns : List ℕ) (done : List Value) (cells : List Cell) → AllSeen binds turns e t → GivenAll (Repeated turns t e) (UnevenAt t k) done cells (item (instance a binds t) (counts a binds t) e turns done cells))
            → GivenAll (Turns turns t e n 0) (UnevenAt t k) done cells (turned (item (instance a binds t) (counts a binds t) e) n 0 turns done cells)
        all_turns n ns is g go = turns-given (UnevenAt t k) turns t e n n 0 done cells (omega arith)
            (λ j done cells below. go (turns ++ j ∷ []) done cells (seen_next a binds turns n j below e t s (agreed_all (lengths a binds turns e t) (Some n) (ap (agree None) is ∙ g))))

        by : (ns : List ℕ) → lengths a binds turns e t ≡ ns → AreLengths binds turns e t ns → ((turns : List ℕ) (done : List Value) (cells : List Cell) → AllSeen binds turns e t → GivenAll (Repeated turns t e) (UnevenAt t k) done cells (item (instance a binds t) (counts a binds t) e turns done cells))
            → GivenAll (Repeated turns t (suc e)) (UnevenAt t k) done cells (agree None ns >>= λ n. turned (item (instance a binds t) (counts a binds t) e) (or_none n) 0 turns done cells)
        by [] is l go = record { xs = []; is = sym (append-nil done); keeps = keeps_refl cells; are = r.an_ellipsis l r.no_lengths r.no_turn }
        by (m ∷ ns) is l go = on (agree (Some m) ns) refl (agrees m ns)
          where
            on : (x : Result (Option ℕ) Bare) → agree (Some m) ns ≡ x → Agrees m ns x → GivenAll (Repeated turns t (suc e)) (UnevenAt t k) done cells (x >>= λ n. turned (item (instance a binds t) (counts a binds t) e) (or_none n) 0 turns done cells)
            on (Ok o) g h = subst (λ q. GivenAll (Repeated turns t (suc e)) (UnevenAt t k) done cells (turned (item (instance a binds t) (counts a binds t) e) (or_none q) 0 turns done cells)) (sym h.0)
                (with_turns m (m ∷ ns) l (r.same_lengths h.1) (turned (item (instance a binds t) (counts a binds t) e) m 0 turns done cells) (all_turns m (m ∷ ns) is (g ∙ ap Ok h.0) go))
            on (Err f) g h = inl (e, ((let below : e < k = omega (arith, le) in below), subst (AreUneven binds t e) (sym h.fault) (r.uneven turns m h.n h.before h.after (subst (λ ks. AreLengths binds turns e t (m ∷ ks)) h.is l) h.same h.other)))

  abbrev Items : List ℕ → PlainItems → List Cell → List Value → Type 0
  Items turns is cells xs = AreInstances binds cells turns is xs

  items-on : (turns : List ℕ) (t : PlainTemplate) (e : ℕ) (is : PlainItems) (done : List Value) (cells : List Cell) (p : List Value × List Cell) → Gave (Repeated turns t e) done cells p → (x : Result (List Value × List Cell) Bare)
      → GivenAll (Items turns is) (UnevenIn is) p.0 p.1 x → GivenAll (Items turns (more t e is)) (UnevenIn (more t e is)) done cells x
  items-on turns t e is done cells p g (Ok q) h = record {
    xs = g.xs ++ h.xs;
    is = h.is ∙ ap (λ ys. ys ++ h.xs) g.is ∙ append_assoc done g.xs h.xs;
    keeps = keeps_then cells p.1 q.1 g.keeps h.keeps;
    are = r.with_instances (repeated-still binds p.1 q.1 h.keeps g.are) h.are;
  }
  items-on turns t e is done cells p g (Err f) h = uneven-later t e is f h

  items-then : (turns : List ℕ) (t : PlainTemplate) (e : ℕ) (is : PlainItems) (done : List Value) (cells : List Cell) → ((xs : List Value) (cells : List Cell) → GivenAll (Items turns is) (UnevenIn is) xs cells (parts a binds is turns xs cells))
      → (x : Result (List Value × List Cell) Bare) → GivenAll (Repeated turns t e) (UnevenAt t e) done cells x → GivenAll (Items turns (more t e is)) (UnevenIn (more t e is)) done cells (then_add x (parts a binds is turns))
  items-then turns t e is done cells ih (Ok p) g = items-on turns t e is done cells p g (parts a binds is turns p.0 p.1) (ih p.0 p.1)
  items-then turns t e is done cells ih (Err f) g = uneven-first t e is f g

  -- the end of a list, and its pairs
  listed-given : (turns : List ℕ) (is : PlainItems) (t : PlainTemplate) (cells : List Cell) (p : List Value × List Cell) → Gave (Items turns is) [] cells p → (q : Value × List Cell) → Keeps p.1 q.1 → IsEnd binds q.1 turns t q.0
      → Given turns (list is t) cells (Ok (pairs_stored p.0 (q.0, q.1)))
  listed-given turns is t cells p g q k e =
      let s = pairs_stored p.0 (q.0, q.1) in
      let last = pairs_keep p.0 (q.0, q.1) in (
        keeps_then cells p.1 s.1 g.keeps (keeps_then p.1 q.1 s.1 k last),
        r.as_list (all-still binds p.1 s.1 (keeps_then p.1 q.1 s.1 k last) (subst (AreInstances binds p.1 turns is) (sym g.is) g.are)) (end-still binds q.1 s.1 last e) (pairs-listed p.0 q.0 q.1),
      )

  list-given : (turns : List ℕ) (is : PlainItems) (t : PlainTemplate) (cells : List Cell) → ((cells : List Cell) → Given turns t cells (instance a binds t turns cells)) → (x : Result (List Value × List Cell) Bare) → GivenAll (Items turns is) (UnevenIn is) [] cells x
      → Given turns (list is t) cells (then_add x (λ xs cells. then_add (ending t (instance a binds t turns) cells) (λ v cells. Ok (pairs_stored xs (v, cells)))))
  list-given turns is t cells ih (Err f) g = record { part = g.part; ellipses = g.ellipses; inside = g.inside; within = r.in_items g.within; below = g.below; differ = g.differ }
  list-given turns is t cells ih (Ok p) g = by (is_end t) refl
    where
      other : is_end t ≡ false → (y : Result (Value × List Cell) Bare) → Given turns t p.1 y → Given turns (list is t) cells (then_add y (λ v cells. Ok (pairs_stored p.0 (v, cells))))
      other e (Ok q) h = listed-given turns is t cells p g q h.0 (r.other_end (λ n. let k = sym e ∙ nil-is t n in let f : ⊥ = cc in f) h.1)
      other e (Err f) h = record { part = h.part; ellipses = h.ellipses; inside = h.inside; within = r.in_end h.within; below = h.below; differ = h.differ }

      by : (b : Bool) → is_end t ≡ b → Given turns (list is t) cells (then_add (if b then Ok (value.Atom Nil, p.1) else instance a binds t turns p.1) (λ v cells. Ok (pairs_stored p.0 (v, cells))))
      by true e = listed-given turns is t cells p g (value.Atom Nil, p.1) (keeps_refl p.1) (r.plain_end (is-nil t e))
      by false e = other e (instance a binds t turns p.1) (ih p.1)

  vector-given : (turns : List ℕ) (is : PlainItems) (cells : List Cell) (x : Result (List Value × List Cell) Bare) → GivenAll (Items turns is) (UnevenIn is) [] cells x → Given turns (vector is) cells (then_add x (λ xs cells. Ok (vector_stored (xs, cells))))
  vector-given turns is cells (Err f) g = record { part = g.part; ellipses = g.ellipses; inside = g.inside; within = r.in_vector g.within; below = g.below; differ = g.differ }
  vector-given turns is cells (Ok p) g =
      let c = cell.Vector p.0 in
      let last = keeps_added p.1 p.1 c (keeps_refl p.1) in
      (keeps_then cells p.1 (p.1 ++ c ∷ []) g.keeps last, r.as_vector (all-still binds p.1 (p.1 ++ c ∷ []) last (subst (AreInstances binds p.1 turns is) (sym g.is) g.are)) (ap vector_in (slice_get-added p.1 c)))

  mutual
    given : (t : PlainTemplate) (turns : List ℕ) (cells : List Cell) → AllSeen binds turns 0 t → Given turns t cells (instance a binds t turns cells)
    given (variable l d) turns cells s = variable-given l d turns cells s
    given (constant t) turns cells s = (keeps_refl cells, r.itself)
    given (list is t) turns cells s = list-given turns is t cells (λ cells. given t turns cells s.1) (parts a binds is turns [] cells) (all-given is turns [] cells s.0)
    given (vector is) turns cells s = vector-given turns is cells (parts a binds is turns [] cells) (all-given is turns [] cells s)

    all-given : (is : PlainItems) (turns : List ℕ) (done : List Value) (cells : List Cell) → ItemsSeen binds turns 0 is → GivenAll (Items turns is) (UnevenIn is) done cells (parts a binds is turns done cells)
    all-given none turns done cells s = record { xs = []; is = sym (append-nil done); keeps = keeps_refl cells; are = r.no_instance }
    all-given (more t e is) turns done cells s =
        let same : 0 + e ≡ e = omega arith in
        items-then turns t e is done cells (λ xs cells. all-given is turns xs cells s.1) (item (instance a binds t) (counts a binds t) e turns done cells)
        (item-given t e (given t) e (omega arith) turns done cells (subst (λ m. AllSeen binds turns m t) same s.0))

pub instances-are-given : InstancesAreGiven
instances-are-given absent binds t cells h = given absent binds t [] cells (seen_ready binds 0 t h)
