-- Cells have come, and variables have got values: what was found before is found still.
use Rattle.std.proofs.Common.{◌≡◌, ◌≤◌, ◌<◌, ℕ, zero, suc, List, [], ◌∷◌, Option, Some, None, Bool, true, false, cond, length, length-take, refl, ap, sym, subst, ◌∙◌, arith, slice_get, slice_set, option_map}
use Rattle.std.specs.Prelude.{IsTrue}
use Rattle.std.specs.Map.{lookup}
use Rattle.base_data.specs.declared.name.Label.{Label}
use Rattle.base_region.specs.declared.region.Place.{Place}
use Rattle.base_region.proofs.Laws.{slice_get-released}
use Rattle.stx_frames.specs.Scope.{or_else}
use Rattle.core_language.specs.Labels.{same_label}
use Rattle.eval_value.specs.Bind.{PlainBind}
use Rattle.eval_value.specs.Cells.{pair_in, vector_in, string_in, transformer_in, has_variables, is_found, FitsIn}
use Rattle.eval_value.specs.FromDatum.{Keeps}
use Rattle.eval_value.specs.declared.value.Value.{Value}
use Rattle.eval_value.specs.declared.value.Value.TheVariants as value
use Rattle.eval_value.specs.declared.cell.Cell.{Cell}
use Rattle.eval_value.specs.declared.cell.Cell.TheVariants as cell
use Rattle.eval_code.specs.Variables.{Entries, entry_in, bind_in, parent_in, upwards, here_or_up, found, bind_found, set_entry, cell_with, assigned_in, assigned}
use Rattle.law_whole.specs.Grows.{has_value, Same, StillAt, WorldGrowth}
use Rattle.law_whole.specs.Ready.{BoundTo}

pub same_refl : (c : Cell) → Same c c
same_refl c = record { pair = refl; vector = refl; text = refl; transformer = refl; variables = refl; parent = refl; bind = λ l. refl; entry = λ l. refl; value = λ l h. h }

same_then : (c d e : Cell) → Same c d → Same d e → Same c e
same_then c d e h k = record {
  pair = h.pair ∙ k.pair;
  vector = h.vector ∙ k.vector;
  text = h.text ∙ k.text;
  transformer = h.transformer ∙ k.transformer;
  variables = h.variables ∙ k.variables;
  parent = h.parent ∙ k.parent;
  bind = λ l. h.bind l ∙ k.bind l;
  entry = λ l. h.entry l ∙ k.entry l;
  value = λ l j. k.value l (h.value l j);
}

still_then : (y z : List Cell) (n : ℕ) (c : Cell) → WorldGrowth y z → StillAt y n c → StillAt z n c
still_then y z n c k m =
    let o = k.still n m.cell m.there in
    record { cell = o.cell; there = o.there; same = same_then c m.cell o.cell m.same o.same }

pub grows_refl : (cells : List Cell) → WorldGrowth cells cells
grows_refl cells = record { longer = omega arith; still = λ n c e. record { cell = c; there = e; same = same_refl c } }

pub grows_then : (x y z : List Cell) → WorldGrowth x y → WorldGrowth y z → WorldGrowth x z
grows_then x y z h k = record { longer = omega (arith, h.longer, k.longer); still = λ n c e. still_then y z n c k (h.still n c e) }

pub below_length : (cells : List Cell) (n : ℕ) (c : Cell) → slice_get cells n ≡ Some c → n < length cells
below_length [] n c e = absurd (cc)
below_length (x ∷ cells) zero c e = omega arith
below_length (x ∷ cells) (suc n) c e = omega (arith, below_length cells n c e)

kept_at : (old new : List Cell) (n : ℕ) (c : Cell) → Keeps old new → slice_get old n ≡ Some c → slice_get new n ≡ Some c
kept_at old new n c k e =
    let same : slice_get old n ≡ slice_get new n = ap (λ cs. slice_get cs n) (sym k) ∙ slice_get-released new (length old) n (below_length old n c e) in
    sym same ∙ e

pub grows_kept : (old new : List Cell) → Keeps old new → WorldGrowth old new
grows_kept old new k = record {
  longer = omega (arith, sym (length-take (length old) new) ∙ ap length k);
  still = λ n c e. record { cell = c; there = kept_at old new n c k e; same = same_refl c };
}

-- A variable gets its value.

first_or : (t : Bool) (a b : Option Value) (r q : Option (Option Value)) → is_found r ≡ is_found q → is_found (cond t (Some a) r) ≡ is_found (cond t (Some b) q)
first_or true a b r q h = refl
first_or false a b r q h = h

set_found : (m l : Label) (v : Value) (es : Entries) → is_found (lookup (same_label m) es) ≡ is_found (lookup (same_label m) (set_entry l v es))
set_found m l v [] = refl
set_found m l v (e ∷ es) = by_own (same_label l e.0) (set_found m l v es)
  where
    by_own : (t : Bool) → is_found (lookup (same_label m) es) ≡ is_found (lookup (same_label m) (set_entry l v es))
        → is_found (lookup (same_label m) (e ∷ es)) ≡ is_found (lookup (same_label m) (cond t ((e.0, Some v) ∷ es) (e ∷ set_entry l v es)))
    by_own true h = first_or (same_label m e.0) e.1 (Some v) (lookup (same_label m) es) (lookup (same_label m) es) refl
    by_own false h = first_or (same_label m e.0) e.1 e.1 (lookup (same_label m) es) (lookup (same_label m) (set_entry l v es)) h

first_value : (t : Bool) (a b : Option Value) (r q : Option (Option Value)) → (IsTrue (has_value (Some a)) → IsTrue (has_value (Some b))) → (IsTrue (has_value r) → IsTrue (has_value q))
    → IsTrue (has_value (cond t (Some a) r)) → IsTrue (has_value (cond t (Some b) q))
first_value true a b r q k h j = k j
first_value false a b r q k h j = h j

set_value : (m l : Label) (v : Value) (es : Entries) → IsTrue (has_value (lookup (same_label m) es)) → IsTrue (has_value (lookup (same_label m) (set_entry l v es)))
set_value m l v [] h = h
set_value m l v (e ∷ es) h = by_own (same_label l e.0) (set_value m l v es) h
  where
    by_own : (t : Bool) → (IsTrue (has_value (lookup (same_label m) es)) → IsTrue (has_value (lookup (same_label m) (set_entry l v es))))
        → IsTrue (has_value (lookup (same_label m) (e ∷ es))) → IsTrue (has_value (lookup (same_label m) (cond t ((e.0, Some v) ∷ es) (e ∷ set_entry l v es))))
    by_own true again j = first_value (same_label m e.0) e.1 (Some v) (lookup (same_label m) es) (lookup (same_label m) es) (λ x. refl) (λ x. x) j
    by_own false again j = first_value (same_label m e.0) e.1 e.1 (lookup (same_label m) es) (lookup (same_label m) (set_entry l v es)) (λ x. x) again j

pub same_with : (l : Label) (v : Value) (c : Cell) → Same c (cell_with l v c)
same_with l v (cell.Scope es parent) =
    record {
      pair = refl;
      vector = refl;
      text = refl;
      transformer = refl;
      variables = refl;
      parent = refl;
      bind = λ m. refl;
      entry = λ m. set_found m l v es;
      value = λ m h. set_value m l v es h;
    }
same_with l v (cell.Pair x y) = same_refl (cell.Pair x y)
same_with l v (cell.Vector xs) = same_refl (cell.Vector xs)
same_with l v (cell.Str text) = same_refl (cell.Str text)
same_with l v (cell.Binds bs parent) = same_refl (cell.Binds bs parent)
same_with l v (cell.Transformer x) = same_refl (cell.Transformer x)

length_set : (cells : List Cell) (i : ℕ) (d : Cell) → length (slice_set cells i d) ≡ length cells
length_set [] i d = refl
length_set (x ∷ cells) zero d = refl
length_set (x ∷ cells) (suc i) d = ap suc (length_set cells i d)

still_set : (cells : List Cell) (i n : ℕ) (c d b : Cell) → slice_get cells i ≡ Some c → Same c d → slice_get cells n ≡ Some b → StillAt (slice_set cells i d) n b
still_set [] i n c d b e s f = absurd (cc)
still_set (x ∷ cells) zero zero c d b e s f =
    let is : c ≡ b = cc in
    record { cell = d; there = refl; same = subst (λ a. Same a d) is s }
still_set (x ∷ cells) zero (suc n) c d b e s f = record { cell = b; there = f; same = same_refl b }
still_set (x ∷ cells) (suc i) zero c d b e s f = record { cell = b; there = f; same = same_refl b }
still_set (x ∷ cells) (suc i) (suc n) c d b e s f =
    let r = still_set cells i n c d b e s f in
    record { cell = r.cell; there = r.there; same = r.same }

pub grows_set : (cells : List Cell) (i : ℕ) (c d : Cell) → slice_get cells i ≡ Some c → Same c d → WorldGrowth cells (slice_set cells i d)
grows_set cells i c d e s = record { longer = omega (arith, length_set cells i d); still = λ n b f. still_set cells i n c d b e s f }

pub grows_assigned : (cells : List Cell) (place : Place) (l : Label) (v : Value) → WorldGrowth cells (assigned cells place l v)
grows_assigned cells place l v = by_cell (slice_get cells place.0) refl
  where
    by_cell : (o : Option Cell) → slice_get cells place.0 ≡ o → WorldGrowth cells (assigned_in cells place l v o)
    by_cell None e = grows_refl cells
    by_cell (Some c) e = grows_set cells place.0 c (cell_with l v c) e (same_with l v c)

-- What is found from a cell of variables on.

found_or : (a b r q : Option (Option Value)) → is_found a ≡ is_found b → (IsTrue (is_found r) → IsTrue (is_found q)) → IsTrue (is_found (or_else a r)) → IsTrue (is_found (or_else b q))
found_or None None r q e k h = k h
found_or None (Some y) r q e k h = refl
found_or (Some x) None r q e k h = absurd (cc)
found_or (Some x) (Some y) r q e k h = refl

found_mapped : (a b : Option Value) → (IsTrue (is_found a) → IsTrue (is_found b)) → IsTrue (is_found (option_map (λ v. Some v) a)) → IsTrue (is_found (option_map (λ v. Some v) b))
found_mapped None b k h = absurd (cc)
found_mapped (Some x) None k h = k refl
found_mapped (Some x) (Some y) k h = refl

found_up : (f g : Option Place → Option (Option Value)) (a b : Option (Option Place)) → a ≡ b → ((o : Option Place) → IsTrue (is_found (f o)) → IsTrue (is_found (g o)))
    → IsTrue (is_found (upwards f a)) → IsTrue (is_found (upwards g b))
found_up f g a b e k h = subst (λ c. IsTrue (is_found (upwards g c))) e (here a h)
  where
    here : (c : Option (Option Place)) → IsTrue (is_found (upwards f c)) → IsTrue (is_found (upwards g c))
    here None h = absurd (cc)
    here (Some o) h = k o h

bound_or : (d : ℕ) (a r q : Option PlainBind) → (BoundTo d r → BoundTo d q) → BoundTo d (or_else a r) → BoundTo d (or_else a q)
bound_or d None r q k h = k h
bound_or d (Some b) r q k h = h

bound_up : (d : ℕ) (f g : Option Place → Option PlainBind) (a b : Option (Option Place)) → a ≡ b → ((o : Option Place) → BoundTo d (f o) → BoundTo d (g o))
    → BoundTo d (upwards f a) → BoundTo d (upwards g b)
bound_up d f g a b e k h = subst (λ c. BoundTo d (upwards g c)) e (here a h)
  where
    here : (c : Option (Option Place)) → BoundTo d (upwards f c) → BoundTo d (upwards g c)
    here None h = absurd h
    here (Some o) h = k o h

module _ (old new : List Cell) (g : WorldGrowth old new) where
  pub test_still : (test : Option Cell → Bool) → test None ≡ false → ((c d : Cell) → Same c d → test (Some c) ≡ test (Some d)) → (n : ℕ)
      → IsTrue (test (slice_get old n)) → IsTrue (test (slice_get new n))
  test_still test none same n h = by_cell (slice_get old n) refl h
    where
      by_cell : (o : Option Cell) → slice_get old n ≡ o → IsTrue (test o) → IsTrue (test (slice_get new n))
      by_cell None e k = absurd (cc)
      by_cell (Some c) e k = let s = g.still n c e in ap test s.there ∙ sym (same c s.cell s.same) ∙ k

  pub variables_still : (n : ℕ) → IsTrue (has_variables (slice_get old n)) → IsTrue (has_variables (slice_get new n))
  variables_still n h = test_still has_variables refl (λ c d s. s.variables) n h

  pub fits_still : (v : Value) → FitsIn old v → FitsIn new v
  fits_still value.Unspecified h = tt
  fits_still (value.Atom b) h = tt
  fits_still (value.Symbol s) h = tt
  fits_still (value.Pair p) h = test_still (λ o. is_found (pair_in o)) refl (λ c d s. ap is_found s.pair) p.0 h
  fits_still (value.Vector p) h = test_still (λ o. is_found (vector_in o)) refl (λ c d s. ap is_found s.vector) p.0 h
  fits_still (value.Str p) h = test_still (λ o. is_found (string_in o)) refl (λ c d s. ap is_found s.text) p.0 h
  fits_still (value.Closure code p) h = variables_still p.0 h
  fits_still (value.Prim op) h = tt
  fits_still (value.Syn t) h = tt
  fits_still (value.Transformer p) h = test_still (λ o. is_found (transformer_in o)) refl (λ c d s. ap is_found s.transformer) p.0 h

  pub found_still : (gs hs : List (Label × Value)) (l : Label) → (IsTrue (is_found (lookup (same_label l) gs)) → IsTrue (is_found (lookup (same_label l) hs))) → (n m : ℕ) (o : Option Place) → n ≤ m
      → IsTrue (is_found (found n gs old l o)) → IsTrue (is_found (found m hs new l o))
  found_still gs hs l more zero m o le h = absurd (cc)
  found_still gs hs l more (suc n) zero o le h = absurd (omega (arith, le))
  found_still gs hs l more (suc n) (suc m) None le h = found_mapped (lookup (same_label l) gs) (lookup (same_label l) hs) more h
  found_still gs hs l more (suc n) (suc m) (Some place) le h = by_cell (found_still gs hs l more n m) (slice_get old place.0) refl h
    where
      by_cell : ((o : Option Place) → n ≤ m → IsTrue (is_found (found n gs old l o)) → IsTrue (is_found (found m hs new l o)))
          → (o : Option Cell) → slice_get old place.0 ≡ o → IsTrue (is_found (here_or_up (entry_in l) (found n gs old l) o))
          → IsTrue (is_found (here_or_up (entry_in l) (found m hs new l) (slice_get new place.0)))
      by_cell again None e k = absurd (cc)
      by_cell again (Some c) e k =
          let s = g.still place.0 c e in
          ap (λ o. is_found (here_or_up (entry_in l) (found m hs new l) o)) s.there
          ∙ found_or (entry_in l c) (entry_in l s.cell) (upwards (found n gs old l) (parent_in c)) (upwards (found m hs new l) (parent_in s.cell)) (s.same.entry l)
          (found_up (found n gs old l) (found m hs new l) (parent_in c) (parent_in s.cell) s.same.parent (λ o k. again o (omega (arith, le)) k)) k

  pub bound_still : (l : Label) (d n m : ℕ) (o : Option Place) → n ≤ m → BoundTo d (bind_found n old l o) → BoundTo d (bind_found m new l o)
  bound_still l d zero m o le h = absurd h
  bound_still l d (suc n) zero o le h = absurd (omega (arith, le))
  bound_still l d (suc n) (suc m) None le h = absurd h
  bound_still l d (suc n) (suc m) (Some place) le h = by_cell (bound_still l d n m) (slice_get old place.0) refl h
    where
      by_cell : ((o : Option Place) → n ≤ m → BoundTo d (bind_found n old l o) → BoundTo d (bind_found m new l o))
          → (o : Option Cell) → slice_get old place.0 ≡ o → BoundTo d (here_or_up (bind_in l) (bind_found n old l) o)
          → BoundTo d (here_or_up (bind_in l) (bind_found m new l) (slice_get new place.0))
      by_cell again None e k = absurd k
      by_cell again (Some c) e k =
          let s = g.still place.0 c e in
          subst (λ o. BoundTo d (here_or_up (bind_in l) (bind_found m new l) o)) (sym s.there)
          (subst (λ a. BoundTo d (or_else a (upwards (bind_found m new l) (parent_in s.cell)))) (s.same.bind l)
          (bound_or d (bind_in l c) (upwards (bind_found n old l) (parent_in c)) (upwards (bind_found m new l) (parent_in s.cell))
          (bound_up d (bind_found n old l) (bind_found m new l) (parent_in c) (parent_in s.cell) s.same.parent (λ o k. again o (omega (arith, le)) k)) k))
