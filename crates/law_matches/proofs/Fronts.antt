-- In whole cells the elements that are looked at are those that a list begins with.
use Rattle.std.proofs.Common.{◌≡◌, ℕ, zero, suc, ◌+◌, ◌<◌, ◌≤◌, Bool, true, false, List, [], ◌∷◌, ◌++◌, map, length, length-append, Option, None, Some, refl, ap, sym, subst, ◌∙◌, append_assoc, arith, slice_get}
use Rattle.std.specs.Prelude.{if◌then◌else◌, IsTrue}
use Rattle.std.proofs.lemmas.Option.{slice_get_within}
use Rattle.std.proofs.lemmas.Bool.{ltb-true, ltb-false}
use Rattle.base_data.specs.Elements.{Each}
use Rattle.base_region.specs.declared.region.Place.{Place}
use Rattle.stx_tree.specs.Tree.{Tree, atom, leaf, pair, vector}
use Rattle.eval_value.specs.Cells.{pair_in, pair_at, vector_in, is_found, FitsIn, IsBelow, Lies, WholeCells}
use Rattle.eval_value.specs.declared.cell.Cell.{Cell}
use Rattle.eval_value.specs.declared.cell.Cell.TheVariants as cell
use Rattle.eval_value.specs.declared.value.Value.{Value}
use Rattle.eval_value.specs.declared.value.Value.TheVariants as value
use Rattle.core_shapes.specs.Lists.{elements}
use Rattle.eval_pattern.specs.Values.{stored_pair, vector_of}
use Rattle.eval_pattern.specs.Front.{has_room, fronted, on_pair, store_front, tree_front, further, front}
use Rattle.eval_pattern.specs.declared.front.Front.{Front}
use Rattle.law_matches.specs.Matches.{pair_of, Begins, here, next, IsLast}

-- the place of a pair of the store is below this one
abbrev PairBelow : ℕ → Value → Type 0
PairBelow n (value.Pair p) = p.0 < n
PairBelow n v = Unit {0}

pair_below : (m n : ℕ) (v : Value) → m ≤ n → IsBelow m v → PairBelow n v
pair_below m n value.Unspecified h b = tt
pair_below m n (value.Atom a) h b = tt
pair_below m n (value.Symbol s) h b = tt
pair_below m n (value.Pair p) h b = omega (arith, h, b)
pair_below m n (value.Vector p) h b = tt
pair_below m n (value.Str p) h b = tt
pair_below m n (value.Closure c p) h b = tt
pair_below m n (value.Prim o) h b = tt
pair_below m n (value.Syn t) h b = tt
pair_below m n (value.Transformer p) h b = tt

found_within : (cells : List Cell) (n : ℕ) → IsTrue (is_found (pair_at cells n)) → n < length cells
found_within cells n h = go (slice_get cells n) refl h
  where
    go : (c : Option Cell) → slice_get cells n ≡ c → IsTrue (is_found (pair_in c)) → n < length cells
    go (Some c) e f = slice_get_within cells n c e
    go None e f = absurd (cc)

fits_below : (cells : List Cell) (v : Value) → FitsIn cells v → PairBelow (length cells) v
fits_below cells value.Unspecified h = tt
fits_below cells (value.Atom a) h = tt
fits_below cells (value.Symbol s) h = tt
fits_below cells (value.Pair p) h = found_within cells p.0 h
fits_below cells (value.Vector p) h = tt
fits_below cells (value.Str p) h = tt
fits_below cells (value.Closure c p) h = tt
fits_below cells (value.Prim o) h = tt
fits_below cells (value.Syn t) h = tt
fits_below cells (value.Transformer p) h = tt

no_pair : (cells : List Cell) (v : Value) → PairBelow 0 v → stored_pair cells v ≡ None
no_pair cells value.Unspecified h = refl
no_pair cells (value.Atom a) h = refl
no_pair cells (value.Symbol s) h = refl
no_pair cells (value.Pair p) h = absurd (omega arith)
no_pair cells (value.Vector p) h = refl
no_pair cells (value.Str p) h = refl
no_pair cells (value.Closure c p) h = refl
no_pair cells (value.Prim o) h = refl
no_pair cells (value.Syn t) h = refl
no_pair cells (value.Transformer p) h = refl

-- a pair of the store is a pair
stored_is : (cells : List Cell) (v x d : Value) → stored_pair cells v ≡ Some (x, d) → pair_of cells v ≡ Some (x, d)
stored_is cells (value.Syn t) x d e = absurd (cc)
stored_is cells value.Unspecified x d e = e
stored_is cells (value.Atom a) x d e = e
stored_is cells (value.Symbol s) x d e = e
stored_is cells (value.Pair p) x d e = e
stored_is cells (value.Vector p) x d e = e
stored_is cells (value.Str p) x d e = e
stored_is cells (value.Closure c p) x d e = e
stored_is cells (value.Prim o) x d e = e
stored_is cells (value.Transformer p) x d e = e

module _ (cells : List Cell) (w : WholeCells cells) where
  pair_lies : (p : Place) (x d : Value) → pair_at cells p.0 ≡ Some (x, d) → Lies cells p.0 x × Lies cells p.0 d
  pair_lies p x d e = go (slice_get cells p.0) refl e
    where
      go : (c : Option Cell) → slice_get cells p.0 ≡ c → pair_in c ≡ Some (x, d) → Lies cells p.0 x × Lies cells p.0 d
      go (Some (cell.Pair a b)) f g =
          let is : (a, b) ≡ (x, d) = cc in
          subst (λ (q : Value × Value). Lies cells p.0 q.0 × Lies cells p.0 q.1) is (w.lies p.0 (cell.Pair a b) f)
      go (Some (cell.Vector xs)) f g = absurd (cc)
      go (Some (cell.Str s)) f g = absurd (cc)
      go (Some (cell.Scope xs q)) f g = absurd (cc)
      go (Some (cell.Binds xs q)) f g = absurd (cc)
      go (Some (cell.Transformer y)) f g = absurd (cc)
      go None f g = absurd (cc)

  -- the parts of a pair fit
  pub parts_fit : (v x d : Value) → pair_of cells v ≡ Some (x, d) → FitsIn cells x × FitsIn cells d
  parts_fit (value.Pair p) x d e = let l = pair_lies p x d e in (l.0.fits, l.1.fits)
  parts_fit (value.Syn (pair s a b)) x d e =
      let is : (value.Syn a, value.Syn b) ≡ (x, d) = cc in
      subst (λ (q : Value × Value). FitsIn cells q.0 × FitsIn cells q.1) is (tt, tt)
  parts_fit (value.Syn (atom s a)) x d e = absurd (cc)
  parts_fit (value.Syn (leaf s a b)) x d e = absurd (cc)
  parts_fit (value.Syn (vector s a)) x d e = absurd (cc)
  parts_fit value.Unspecified x d e = absurd (cc)
  parts_fit (value.Atom a) x d e = absurd (cc)
  parts_fit (value.Symbol s) x d e = absurd (cc)
  parts_fit (value.Vector p) x d e = absurd (cc)
  parts_fit (value.Str p) x d e = absurd (cc)
  parts_fit (value.Closure c p) x d e = absurd (cc)
  parts_fit (value.Prim o) x d e = absurd (cc)
  parts_fit (value.Transformer p) x d e = absurd (cc)

  -- the parts of a pair of the store lie below it
  rest_below : (n : ℕ) (v x d : Value) → PairBelow (suc n) v → stored_pair cells v ≡ Some (x, d) → PairBelow n d
  rest_below n (value.Pair p) x d h e = pair_below p.0 n d (omega (arith, h)) (pair_lies p x d e).1.below
  rest_below n (value.Syn t) x d h e = absurd (cc)
  rest_below n value.Unspecified x d h e = absurd (cc)
  rest_below n (value.Atom a) x d h e = absurd (cc)
  rest_below n (value.Symbol s) x d h e = absurd (cc)
  rest_below n (value.Vector p) x d h e = absurd (cc)
  rest_below n (value.Str p) x d h e = absurd (cc)
  rest_below n (value.Closure c p) x d h e = absurd (cc)
  rest_below n (value.Prim o) x d h e = absurd (cc)
  rest_below n (value.Transformer p) x d h e = absurd (cc)

abbrev pub Fit : List Cell → List Value → Type 0
Fit cells [] = Unit {0}
Fit cells (x ∷ xs) = FitsIn cells x × Fit cells xs

-- as many elements as the limit says
abbrev pub IsLong : Option ℕ → List Value → Type 0
IsLong None xs = Unit {0}
IsLong (Some n) xs = length xs ≡ n

-- no more elements than the limit
abbrev pub IsWithin : Option ℕ → ℕ → Type 0
IsWithin None n = Unit {0}
IsWithin (Some limit) n = n ≤ limit

room_within : (limit : Option ℕ) (n : ℕ) → has_room limit n ≡ true → IsWithin limit (n + 1)
room_within None n h = tt
room_within (Some limit) n h = omega (arith, ltb-true n limit h)

-- What taking elements comes to: the value is those that were taken and the rest, and more are taken where there is room.
pub record Took (cells : List Cell) (limit : Option ℕ) (found : Value → Option (Value × Value)) (done : List Value) (v : Value) (f : Front) : Type 0 where
  pub taken : List Value
  pub is : f.elements ≡ done ++ taken
  pub begins : Begins cells taken f.rest v
  pub ends : has_room limit (length f.elements) ≡ true → found f.rest ≡ None
  pub within : IsWithin limit (length done) → IsWithin limit (length f.elements)

append_none : {A : Type 0} (xs : List A) → xs ++ [] ≡ xs
append_none [] = refl
append_none (x ∷ xs) = ap (λ ys. x ∷ ys) (append_none xs)

module _ (cells : List Cell) (limit : Option ℕ) where
  -- nothing more is taken
  took_none : (found : Value → Option (Value × Value)) (done : List Value) (v : Value) → (has_room limit (length done) ≡ true → found v ≡ None) → Took cells limit found done v (fronted done v)
  took_none found done v h = record { taken = []; is = sym (append_none done); begins = here; ends = h; within = λ i. i }

  -- one more element is taken
  took_one : (found : Value → Option (Value × Value)) (done : List Value) (v x d : Value) (f : Front) → pair_of cells v ≡ Some (x, d) → has_room limit (length done) ≡ true
      → Took cells limit found (done ++ x ∷ []) d f → Took cells limit found done v f
  took_one found done v x d f e room t = record {
    taken = x ∷ t.taken;
    is = t.is ∙ append_assoc done (x ∷ []) t.taken;
    begins = next e t.begins;
    ends = t.ends;
    within = λ i. t.within (subst (IsWithin limit) (let k : length done + 1 ≡ length (done ++ x ∷ []) = omega (arith, length-append done (x ∷ [])) in k) (room_within limit (length done) room));
  }

  module _ (w : WholeCells cells) where
    abbrev More : ℕ → Type 0
    More n = (done : List Value) (v : Value) → PairBelow n v → Took cells limit (stored_pair cells) done v (store_front cells n limit done v)

    store_took : (n : ℕ) (done : List Value) (v : Value) → PairBelow n v → Took cells limit (stored_pair cells) done v (store_front cells n limit done v)
    store_took zero done v b = took_none (stored_pair cells) done v (λ h. no_pair cells v b)
    store_took (suc n) done v b = by_room (store_took n) (has_room limit (length done)) refl
      where
        by_pair : More n → has_room limit (length done) ≡ true → (o : Option (Value × Value)) → stored_pair cells v ≡ o
            → Took cells limit (stored_pair cells) done v (on_pair o (fronted done v) (λ x rest. store_front cells n limit (done ++ x ∷ []) rest))
        by_pair ih room None e = took_none (stored_pair cells) done v (λ h. e)
        by_pair ih room (Some (x, d)) e =
            took_one (stored_pair cells) done v x d (store_front cells n limit (done ++ x ∷ []) d) (stored_is cells v x d e) room
            (ih (done ++ x ∷ []) d (rest_below cells w n v x d b e))

        by_room : More n → (r : Bool) → has_room limit (length done) ≡ r
            → Took cells limit (stored_pair cells) done v (if r then on_pair (stored_pair cells v) (fronted done v) (λ x rest. store_front cells n limit (done ++ x ∷ []) rest) else fronted done v)
        by_room ih false e = took_none (stored_pair cells) done v (λ h. absurd (cc))
        by_room ih true e = by_pair ih e (stored_pair cells v) refl

  tree_took : (t : Tree) (done : List Value) → Took cells limit (pair_of cells) done (value.Syn t) (tree_front limit done t)
  tree_took (atom s a) done = took_none (pair_of cells) done (value.Syn (atom s a)) (λ h. refl)
  tree_took (leaf s x c) done = took_none (pair_of cells) done (value.Syn (leaf s x c)) (λ h. refl)
  tree_took (vector s d) done = took_none (pair_of cells) done (value.Syn (vector s d)) (λ h. refl)
  tree_took (pair s a d) done = by_room (has_room limit (length done)) refl (tree_took d (done ++ value.Syn a ∷ []))
    where
      by_room : (r : Bool) → has_room limit (length done) ≡ r → Took cells limit (pair_of cells) (done ++ value.Syn a ∷ []) (value.Syn d) (tree_front limit (done ++ value.Syn a ∷ []) d)
          → Took cells limit (pair_of cells) done (value.Syn (pair s a d)) (if r then tree_front limit (done ++ value.Syn a ∷ []) d else fronted done (value.Syn (pair s a d)))
      by_room false e ih = took_none (pair_of cells) done (value.Syn (pair s a d)) (λ h. absurd (cc))
      by_room true e ih = took_one (pair_of cells) done (value.Syn (pair s a d)) (value.Syn a) (value.Syn d) (tree_front limit (done ++ value.Syn a ∷ []) d) refl e ih

begins_then : (cells : List Cell) {xs ys : List Value} {r s v : Value} → Begins cells xs r v → Begins cells ys s r → Begins cells (xs ++ ys) s v
begins_then cells here b = b
begins_then cells (next e a) b = next e (begins_then cells a b)

module _ (cells : List Cell) (limit : Option ℕ) where
  took_further : (done : List Value) (v : Value) (f : Front) → Took cells limit (stored_pair cells) done v f → Took cells limit (pair_of cells) done v (further limit f.elements f.rest)
  took_further done v f t = go f.rest refl
    where
      same : (u : Value) → f.rest ≡ u → pair_of cells u ≡ stored_pair cells u → Took cells limit (pair_of cells) done v (fronted f.elements u)
      same u e k = record {
        taken = t.taken;
        is = t.is;
        begins = subst (λ r. Begins cells t.taken r v) e t.begins;
        ends = λ h. k ∙ ap (stored_pair cells) (sym e) ∙ t.ends h;
        within = t.within;
      }

      go : (u : Value) → f.rest ≡ u → Took cells limit (pair_of cells) done v (further limit f.elements u)
      go (value.Syn u) e =
          let m = tree_took cells limit u f.elements in
          record {
            taken = t.taken ++ m.taken;
            is = m.is ∙ ap (λ xs. xs ++ m.taken) t.is ∙ append_assoc done t.taken m.taken;
            begins = begins_then cells (subst (λ r. Begins cells t.taken r v) e t.begins) m.begins;
            ends = m.ends;
            within = λ i. m.within (t.within i);
          }
      go value.Unspecified e = same value.Unspecified e refl
      go (value.Atom a) e = same (value.Atom a) e refl
      go (value.Symbol s) e = same (value.Symbol s) e refl
      go (value.Pair p) e = same (value.Pair p) e refl
      go (value.Vector p) e = same (value.Vector p) e refl
      go (value.Str p) e = same (value.Str p) e refl
      go (value.Closure c p) e = same (value.Closure c p) e refl
      go (value.Prim o) e = same (value.Prim o) e refl
      go (value.Transformer p) e = same (value.Transformer p) e refl

  pub front_took : WholeCells cells → (v : Value) → FitsIn cells v → Took cells limit (pair_of cells) [] v (front cells limit v)
  front_took w v h = took_further [] v (store_front cells (length cells) limit [] v) (store_took cells limit w (length cells) [] v (fits_below cells v h))

-- A list has its elements in one way.
module _ (cells : List Cell) where
  some_same : (a b c d : Value) (o : Option (Value × Value)) → o ≡ Some (a, b) → o ≡ Some (c, d) → (a ≡ c) × (b ≡ d)
  some_same a b c d o e f =
      let is : (a, b) ≡ (c, d) = cc in
      (ap (λ (p : Value × Value). p.0) is, ap (λ (p : Value × Value). p.1) is)

  one_way : {xs ys : List Value} {r s v : Value} → Begins cells xs r v → Begins cells ys s v → length xs ≡ length ys → (xs ≡ ys) × (r ≡ s)
  one_way here here h = (refl, refl)
  one_way here (next e b) h = absurd (omega (arith, h))
  one_way (next e a) here h = absurd (omega (arith, h))
  one_way (next {x = x} {d = d} {xs = xs} e a) (next {x = y} {d = g} {r = s} {xs = ys} f b) h =
      let p = some_same x d y g _ e f in
      let more : length xs ≡ length ys = omega (arith, h) in
      let q = one_way a (subst (λ u. Begins cells ys s u) (sym p.1) b) more in
      ((λ i. p.0 i ∷ q.0 i), q.1)

  -- a list that ends there has no more elements
  no_longer : {xs ys : List Value} {r s v : Value} → Begins cells xs r v → pair_of cells r ≡ None → Begins cells ys s v → length ys ≤ length xs
  no_longer here e here = omega arith
  no_longer here e (next f b) = absurd (cc)
  no_longer (next e a) k here = omega arith
  no_longer (next {x = x} {d = d} {xs = xs} e a) k (next {x = y} {d = g} {r = s} {xs = ys} f b) =
      let p = some_same x d y g _ e f in
      omega (arith, no_longer a k (subst (λ u. Begins cells ys s u) (sym p.1) b))

-- What is taken is what a list begins with.
module _ (cells : List Cell) (w : WholeCells cells) where
  -- all elements
  pub all_taken : {xs : List Value} {r v : Value} → FitsIn cells v → Begins cells xs r v → pair_of cells r ≡ None → front cells None v ≡ fronted xs r
  all_taken {xs = xs} {r = r} {v = v} h b e =
      let t = front_took cells None w v h in
      let last = t.ends refl in
      let p = one_way cells b t.begins (omega (arith, no_longer cells b e t.begins, no_longer cells t.begins last b)) in
      λ i. record { elements = (t.is ∙ sym p.0) i; rest = sym p.1 i }

  -- so many
  pub some_taken : {xs : List Value} {r v : Value} (n : ℕ) → FitsIn cells v → Begins cells xs r v → length xs ≡ n → front cells (Some n) v ≡ fronted xs r
  some_taken {xs = xs} {r = r} {v = v} n h b e = go (has_room (Some n) (length (front cells (Some n) v).elements)) refl
    where
      t : Took cells (Some n) (pair_of cells) [] v (front cells (Some n) v)
      t = front_took cells (Some n) w v h

      same : length xs ≡ length t.taken → front cells (Some n) v ≡ fronted xs r
      same k = let p = one_way cells b t.begins k in λ i. record { elements = (t.is ∙ sym p.0) i; rest = sym p.1 i }

      most : length t.taken ≤ n
      most = omega (arith, t.within (omega arith), ap length t.is)

      go : (room : Bool) → has_room (Some n) (length (front cells (Some n) v).elements) ≡ room → front cells (Some n) v ≡ fronted xs r
      go true k = same (omega (arith, e, most, no_longer cells t.begins (t.ends k) b))
      go false k = same (omega (arith, e, most, ltb-false (length (front cells (Some n) v).elements) n k, ap length t.is))

  pub taken_by : {xs : List Value} {r v : Value} (limit : Option ℕ) → FitsIn cells v → Begins cells xs r v → IsLast cells limit r → IsLong limit xs → front cells limit v ≡ fronted xs r
  taken_by None h b e k = all_taken h b e
  taken_by (Some n) h b e k = some_taken n h b k

  pub begun_fit : {xs : List Value} {r v : Value} → FitsIn cells v → Begins cells xs r v → Fit cells xs × FitsIn cells r
  begun_fit h here = (tt, h)
  begun_fit h (next {x = x} {d = d} {v = v} e b) =
      let p = parts_fit cells w v x d e in
      let q = begun_fit p.1 b in
      ((p.0, q.0), q.1)

  -- the elements of a vector fit
  pub elements_fit : (v : Value) (xs : List Value) → vector_of cells v ≡ Some xs → Fit cells xs
  elements_fit (value.Vector p) xs e = go (slice_get cells p.0) refl e
    where
      each_fits : (ys : List Value) → Each (Lies cells p.0) ys → Fit cells ys
      each_fits [] l = tt
      each_fits (y ∷ ys) l = (l.0.fits, each_fits ys l.1)

      go : (c : Option Cell) → slice_get cells p.0 ≡ c → vector_in c ≡ Some xs → Fit cells xs
      go (Some (cell.Vector ys)) f g =
          let is : ys ≡ xs = cc in
          subst (Fit cells) is (each_fits ys (w.lies p.0 (cell.Vector ys) f))
      go (Some (cell.Pair a b)) f g = absurd (cc)
      go (Some (cell.Str s)) f g = absurd (cc)
      go (Some (cell.Scope ys q)) f g = absurd (cc)
      go (Some (cell.Binds ys q)) f g = absurd (cc)
      go (Some (cell.Transformer y)) f g = absurd (cc)
      go None f g = absurd (cc)
  elements_fit (value.Syn (vector s d)) xs e =
      let is : map value.Syn (elements d) ≡ xs = cc in
      subst (Fit cells) is (trees_fit (elements d))
    where
      trees_fit : (ts : List Tree) → Fit cells (map value.Syn ts)
      trees_fit [] = tt
      trees_fit (t ∷ ts) = (tt, trees_fit ts)
  elements_fit (value.Syn (atom s a)) xs e = absurd (cc)
  elements_fit (value.Syn (leaf s a b)) xs e = absurd (cc)
  elements_fit (value.Syn (pair s a b)) xs e = absurd (cc)
  elements_fit value.Unspecified xs e = absurd (cc)
  elements_fit (value.Atom a) xs e = absurd (cc)
  elements_fit (value.Symbol s) xs e = absurd (cc)
  elements_fit (value.Pair p) xs e = absurd (cc)
  elements_fit (value.Str p) xs e = absurd (cc)
  elements_fit (value.Closure c p) xs e = absurd (cc)
  elements_fit (value.Prim o) xs e = absurd (cc)
  elements_fit (value.Transformer p) xs e = absurd (cc)

pub fit_then : (cells : List Cell) (xs ys : List Value) → Fit cells (xs ++ ys) → Fit cells xs × Fit cells ys
fit_then cells [] ys h = (tt, h)
fit_then cells (x ∷ xs) ys h = let p = fit_then cells xs ys h.1 in ((h.0, p.0), p.1)
