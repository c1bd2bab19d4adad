-- What the variables of a template are seen to be bound to, turn by turn.
use Rattle.std.proofs.Common.{◌≡◌, ℕ, zero, suc, ◌+◌, ◌-◌, ◌<◌, ◌≤◌, Bool, true, false, List, [], ◌∷◌, ◌++◌, length, slice_get, Option, None, Some, Ok, Err, refl, ap, sym, subst, ◌∙◌, arith}
use Rattle.std.specs.Prelude.{nat_lt, nat_eq, if◌then◌else◌}
use Rattle.std.proofs.lemmas.Bool.{ltb-true, ltb-false, eqb-true}
use Rattle.std.proofs.lemmas.List.{drop_all}
use Rattle.base_data.specs.declared.name.Label.{Label}
use Rattle.core_language.specs.Template.{PlainTemplate, variable, constant, list, vector, PlainItems, none, more}
use Rattle.eval_value.specs.Bind.{PlainBind, one, many, PlainBinds}
use Rattle.eval_value.specs.Bind as bind
use Rattle.eval_template.specs.Binds.{Binds, Absent, looked_up, listed, turn_of, through, innermost, reached, count_of}
use Rattle.eval_template.specs.Lengths.{lengths, items_lengths, agree, differing, or_none}
use Rattle.eval_template.proofs.Unseen.{innermost_more}
use Rattle.law_templates.specs.Ready.{HasDepth, HaveDepth, Ready, ItemsReady}

-- what is bound is reached by the turns of all but so many ellipses, and has that many left
pub record Sees (binds : Binds) (turns : List ℕ) (left : ℕ) (l : Label) (d : ℕ) : Type 0 where
  pub bound : PlainBind
  pub reach : reached binds l (d - left) turns ≡ Some bound
  pub deep : HasDepth (d - (d - left)) bound

abbrev mutual
  pub AllSeen : Binds → List ℕ → ℕ → PlainTemplate → Type 0
  AllSeen binds turns left (variable l d) = Sees binds turns left l d
  AllSeen binds turns left (constant t) = Unit {0}
  AllSeen binds turns left (list is t) = ItemsSeen binds turns left is × AllSeen binds turns left t
  AllSeen binds turns left (vector is) = ItemsSeen binds turns left is

  pub ItemsSeen : Binds → List ℕ → ℕ → PlainItems → Type 0
  ItemsSeen binds turns left none = Unit {0}
  ItemsSeen binds turns left (more t ellipses is) = AllSeen binds turns (left + ellipses) t × ItemsSeen binds turns left is

-- at the start no turn is taken
module _ (binds : Binds) where
  mutual
    pub seen_ready : (under : ℕ) (t : PlainTemplate) → Ready binds under t → AllSeen binds [] under t
    seen_ready under (variable l d) h =
        let none : d - under ≡ 0 = omega (arith, h.0) in
        record {
          bound = h.1.bound;
          reach = ap (λ n. reached binds l n []) none ∙ ap (λ b. through b (innermost 0 [])) h.1.found;
          deep = subst (λ n. HasDepth n h.1.bound) (let e : d ≡ d - (d - under) = omega (arith, h.0) in e) h.1.deep;
        }
    seen_ready under (constant t) h = tt
    seen_ready under (list is t) h = (seen_items under is h.0, seen_ready under t h.1)
    seen_ready under (vector is) h = seen_items under is h

    seen_items : (under : ℕ) (is : PlainItems) → ItemsReady binds under is → ItemsSeen binds [] under is
    seen_items under none h = tt
    seen_items under (more t e is) h = (seen_ready (under + e) t h.0, seen_items under is h.1)

-- One turn more.
pub through-append : (o : Option PlainBind) (is js : List ℕ) → through o (is ++ js) ≡ through (through o is) js
through-append None [] js = refl
through-append None (i ∷ is) js = none_through js
  where
    none_through : (ks : List ℕ) → None ≡ through None ks
    none_through ks = refl
through-append (Some b) [] js = refl
through-append (Some b) (i ∷ is) js = through-append (turn_of b i) is js

innermost_none : (turns : List ℕ) → innermost 0 turns ≡ []
innermost_none turns = drop_all (length turns - 0) turns (omega arith)

turn_deep : (d : ℕ) (bs : PlainBinds) (i : ℕ) → HaveDepth d bs → i < length (listed bs) → (b : PlainBind) × ((slice_get (listed bs) i ≡ Some b) × HasDepth d b)
turn_deep d bind.none i h k = absurd (omega arith)
turn_deep d (bind.more b bs) zero h k = (b, (refl, h.0))
turn_deep d (bind.more b bs) (suc i) h k = turn_deep d bs i h.1 (omega arith)

abbrev pub AllAre : ℕ → List ℕ → Type 0
AllAre n [] = Unit {0}
AllAre n (m ∷ ms) = (m ≡ n) × AllAre n ms

all_then : (n : ℕ) (xs ys : List ℕ) → AllAre n (xs ++ ys) → AllAre n xs × AllAre n ys
all_then n [] ys h = (tt, h)
all_then n (x ∷ xs) ys h = let p = all_then n xs ys h.1 in ((h.0, p.0), p.1)

-- where lengths agree they are all the one
agreed_on : (n : ℕ) (ns : List ℕ) (m : Option ℕ) → agree (Some n) ns ≡ Ok m → (n ≡ or_none m) × AllAre (or_none m) ns
agreed_on n [] m h = (let e : Some n ≡ m = cc in ap or_none e, tt)
agreed_on n (k ∷ ns) m h = go (agreed_on n ns m) (nat_eq n k) refl h
  where
    go : (agree (Some n) ns ≡ Ok m → (n ≡ or_none m) × AllAre (or_none m) ns) → (b : Bool) → nat_eq n k ≡ b → (if b then agree (Some n) ns else Err (differing n k)) ≡ Ok m
        → (n ≡ or_none m) × ((k ≡ or_none m) × AllAre (or_none m) ns)
    go ih true e f = let r = ih f in (r.0, (sym (eqb-true n k e) ∙ r.0, r.1))
    go ih false e f = absurd (cc)

pub agreed_all : (ns : List ℕ) (m : Option ℕ) → agree None ns ≡ Ok m → AllAre (or_none m) ns
agreed_all [] m h = tt
agreed_all (n ∷ ns) m h = agreed_on n ns m h

module _ (a : Absent) (binds : Binds) (turns : List ℕ) (n i : ℕ) (below : i < n) where
  at_variable : (k : ℕ) (l : Label) (d : ℕ) → Sees binds turns (suc k) l d → AllAre n (lengths a binds turns k (variable l d)) → Sees binds (turns ++ i ∷ []) k l d
  at_variable k l d s h = go (nat_lt k d) refl h
    where
      deeper : k < d → count_of a (reached binds l (d - suc k) turns) ≡ n → (b : PlainBind) → reached binds l (d - suc k) turns ≡ Some b → HasDepth (suc k) b → Sees binds (turns ++ i ∷ []) k l d
      deeper lt c (one v) e deep = absurd deep
      deeper lt c (many bs) e deep =
          let count : length (listed bs) ≡ n = sym (ap (count_of a) e) ∙ c in
          let t = turn_deep k bs i deep (omega (arith, count, below)) in
          let more : d - k ≡ suc (d - suc k) = omega (arith, lt) in
          record {
            bound = t.0;
            reach = ap (λ m. reached binds l m (turns ++ i ∷ [])) more ∙ ap (through (looked_up binds l)) (innermost_more (d - suc k) turns i)
                ∙ through-append (looked_up binds l) (innermost (d - suc k) turns) (i ∷ []) ∙ ap (λ b. through b (i ∷ [])) e ∙ ends (turn_of (many bs) i) t.0 t.1.0;
            deep = subst (λ m. HasDepth m t.0) (let f : k ≡ d - (d - k) = omega (arith, lt) in f) t.1.1;
          }
        where
          ends : (o : Option PlainBind) (b : PlainBind) → o ≡ Some b → through o [] ≡ Some b
          ends None b e = absurd (cc)
          ends (Some c) b e = e

      shallow : d ≤ k → Sees binds (turns ++ i ∷ []) k l d
      shallow le =
          let none : d - suc k ≡ 0 = omega (arith, le) in
          let still : d - k ≡ 0 = omega (arith, le) in
          record {
            bound = s.bound;
            reach = ap (λ m. reached binds l m (turns ++ i ∷ [])) still ∙ ap (through (looked_up binds l)) (innermost_none (turns ++ i ∷ []) ∙ sym (innermost_none turns)) ∙ ap (λ m. reached binds l m turns) (sym none) ∙ s.reach;
            deep = subst (λ m. HasDepth m s.bound) (let f : d - (d - suc k) ≡ d - (d - k) = omega (arith, le) in f) s.deep;
          }

      go : (b : Bool) → nat_lt k d ≡ b → AllAre n (if b then count_of a (reached binds l (d - suc k) turns) ∷ [] else []) → Sees binds (turns ++ i ∷ []) k l d
      go true e f =
          let lt = ltb-true k d e in
          deeper lt f.0 s.bound s.reach (subst (λ m. HasDepth m s.bound) (let g : d - (d - suc k) ≡ suc k = omega (arith, lt) in g) s.deep)
      go false e f = shallow (ltb-false k d e)

  mutual
    pub seen_next : (k : ℕ) (t : PlainTemplate) → AllSeen binds turns (suc k) t → AllAre n (lengths a binds turns k t) → AllSeen binds (turns ++ i ∷ []) k t
    seen_next k (variable l d) s h = at_variable k l d s h
    seen_next k (constant t) s h = tt
    seen_next k (list is t) s h = let p = all_then n (items_lengths a binds turns k is) (lengths a binds turns k t) h in (items_next k is s.0 p.0, seen_next k t s.1 p.1)
    seen_next k (vector is) s h = items_next k is s h

    items_next : (k : ℕ) (is : PlainItems) → ItemsSeen binds turns (suc k) is → AllAre n (items_lengths a binds turns k is) → ItemsSeen binds (turns ++ i ∷ []) k is
    items_next k none s h = tt
    items_next k (more t e is) s h =
        let p = all_then n (lengths a binds turns (k + e) t) (items_lengths a binds turns k is) h in
        let up : suc k + e ≡ suc (k + e) = omega arith in
        (seen_next (k + e) t (subst (λ m. AllSeen binds turns m t) up s.0) p.0, items_next k is s.1 p.1)
