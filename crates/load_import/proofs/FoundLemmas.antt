-- Names by their places.
use Rattle.std.proofs.Common.{◌≡◌, ℕ, suc, ◌+◌, ◌-◌, ◌<◌, ◌≤◌, List, [], ◌∷◌, ◌++◌, Bool, true, false, cond, length, get_or, drop, map, refl, sym, ap, subst, ◌∙◌, append_assoc, true≢false, arith}
use Rattle.std.specs.Prelude.{zero, Option, None, Some, option_map, slice_get, position, not, filter, nat_eq, nat_lt, ◌||◌}
use Rattle.std.specs.List.{list_any, filter_map, position_or_len, AllByRecursion, AllPairs, IsDistinct, cons_option, dedup, dedup_from}
use Rattle.std.specs.List.Sorted.{IsStrictlyIncreasing}
use Rattle.std.specs.Map.{keys_of}
use Rattle.std.specs.Cmp.{unsigned_Decides}
use Rattle.std.proofs.lemmas.Option.{same_Some, none-some, slice_get_within, slice_get-map, get_or_from_slice_get}
use Rattle.std.proofs.lemmas.Bool.{lt-ltb}
use Rattle.std.proofs.lemmas.List.Elements.{recursion_from_All}
use Rattle.std.proofs.lemmas.List.Kept.{AllPairs-from_increasing}
use Rattle.std.proofs.lemmas.List.Quantifiers.{position-Some}
use Rattle.std.proofs.lemmas.Map.Entries.{length-keys_of}
use Rattle.base_data.specs.Same.{texts_decides}
use Rattle.base_data.specs.declared.imported_name.ImportedName.{ImportedName}
use Rattle.load_import.specs.Names.{Labelled, is_among, only}
use Rattle.load_import.specs.Shared.{IsOwn, AreOwn, place_of, place_named, places_of, among, names_at}
use Rattle.load_import.specs.Table.{same_text}
use Rattle.load_import.specs.declared.set.NameAt.{NameAt}
use Rattle.load_import.proofs.TurnLemmas.{cons_at}

-- ---- each name of a table has a place of its own

one_more : (k : ℕ) → 1 + k ≡ suc k
one_more k = omega arith

module _ {V : Type 0} where
  key_at : (rows : List (List ℕ × V)) (k : ℕ) (e : List ℕ × V) (P : List ℕ → Type 0) → AllByRecursion P (keys_of rows) → slice_get rows k ≡ Some e → P e.0
  key_at [] k e P all at = absurd (none-some e at)
  key_at (r ∷ rows) zero e P all at = subst (λ x. P x.0) (same_Some r e at) all.0
  key_at (r ∷ rows) (suc k) e P all at = key_at rows k e P all.1 at

  or_len_own : (rows : List (List ℕ × V)) (k : ℕ) (e : List ℕ × V) → IsDistinct same_text (keys_of rows) → slice_get rows k ≡ Some e → position_or_len (same_text e.0) (keys_of rows) ≡ k
  unfolding IsDistinct
  or_len_own [] k e d at = absurd (none-some e at)
  or_len_own (r ∷ rows) zero e d at =
      ap (λ b. cond (not b) (1 + position_or_len (same_text e.0) (keys_of rows)) 0) ((texts_decides e.0 r.0).1 (ap (λ x. x.0) (sym (same_Some r e at))))
  or_len_own (r ∷ rows) (suc k) e d at = by (same_text e.0 r.0) refl d.0 (or_len_own rows k e d.1 at)
    where
      by : (b : Bool) → same_text e.0 r.0 ≡ b → AllByRecursion (λ x. same_text r.0 x ≡ false) (keys_of rows) → position_or_len (same_text e.0) (keys_of rows) ≡ k → cond (not b) (1 + position_or_len (same_text e.0) (keys_of rows)) 0 ≡ suc k
      by true h differs on =
          let apart : same_text r.0 e.0 ≡ false = key_at rows k e (λ x. same_text r.0 x ≡ false) differs at in
          absurd (true≢false (sym ((texts_decides r.0 e.0).1 (sym ((texts_decides e.0 r.0).0 h))) ∙ apart))
      by false h differs on = ap (λ n. 1 + n) on ∙ one_more k

  pub place_own : (rows : List (List ℕ × V)) → IsDistinct same_text (keys_of rows) → IsOwn rows
  place_own rows d k e at =
      let within : k < length (keys_of rows) = subst (λ n. k < n) (sym (length-keys_of rows)) (slice_get_within rows k e at) in
      ap (λ n. cond {A = Option ℕ} (nat_lt n (length (keys_of rows))) (Some n) None) (or_len_own rows k e d at) ∙ ap (λ b. cond {A = Option ℕ} b (Some k) None) (lt-ltb k (length (keys_of rows)) within)

  -- the name at the place of a name
  pub same_at : (rows : List (List ℕ × V)) (name : List ℕ) (k : ℕ) (e : List ℕ × V) → place_of name rows ≡ Some k → slice_get rows k ≡ Some e → name ≡ e.0
  same_at rows name k e place at =
      let key : get_or (keys_of rows) k e.0 ≡ e.0 = get_or_from_slice_get (keys_of rows) k e.0 e.0 (slice_get-map (λ x. x.0) rows k ∙ ap (option_map (λ x. x.0)) at) in
      let p = position-Some (same_text name) (keys_of rows) k e.0 place in
      (texts_decides name e.0).0 (subst (λ x. same_text name x ≡ true) key p.1)

-- the name at the place of a name, where it has a label
same_named : (names : Labelled) (name : List ℕ) (k : ℕ) (e : ImportedName) → place_named name names ≡ Some k → slice_get names k ≡ Some e → name ≡ e.name
same_named names name k e place at =
    let key : get_or (map name_in names) k e.name ≡ e.name = get_or_from_slice_get (map name_in names) k e.name e.name (slice_get-map name_in names k ∙ ap (option_map name_in) at) in
    let p = position-Some (same_text name) (map name_in names) k e.name place in
    (texts_decides name e.name).0 (subst (λ x. same_text name x ≡ true) key p.1)
  where
    name_in : ImportedName → List ℕ
    name_in e = e.name

-- ---- which places are those of some names

abbrev option_is : ℕ → Option ℕ → Bool
option_is n None = false
option_is n (Some m) = nat_eq m n

module _ (names : Labelled) (own : AreOwn names) (j : ℕ) (e : ImportedName) (at : slice_get names j ≡ Some e) where
  is_at : (name : List ℕ) → option_is j (place_named name names) ≡ same_text e.name name
  is_at name = by (same_text e.name name) refl
    where
      other : same_text e.name name ≡ false → (o : Option ℕ) → place_named name names ≡ o → option_is j o ≡ false
      other h None is = refl
      other h (Some m) is = test (nat_eq m j) refl
        where
          test : (b : Bool) → nat_eq m j ≡ b → b ≡ false
          test false k = refl
          test true k =
              let here : place_named name names ≡ Some j = is ∙ ap Some ((unsigned_Decides m j).0 k) in
              absurd (true≢false (sym ((texts_decides e.name name).1 (sym (same_named names name j e here at))) ∙ h))

      by : (b : Bool) → same_text e.name name ≡ b → option_is j (place_named name names) ≡ b
      by true h =
          let same : e.name ≡ name = (texts_decides e.name name).0 h in
          ap (option_is j) (ap (λ n. place_named n names) (sym same) ∙ own j e at) ∙ (unsigned_Decides j j).1 refl
      by false h = other h (place_named name names) refl

  among_cons : (o : Option ℕ) (ns : List ℕ) → among j (cons_option o ns) ≡ (option_is j o || among j ns)
  among_cons None ns = refl
  among_cons (Some m) ns = refl

  pub among_places : (ids : List NameAt) → among j (places_of ids names) ≡ is_among ids e.name
  among_places [] = refl
  among_places (id ∷ ids) = among_cons (place_named id.name names) (places_of ids names) ∙ ap (λ b. b || among j (places_of ids names)) (is_at id.name) ∙ ap (λ b. same_text e.name id.name || b) (among_places ids)

-- ---- the names at places that rise

abbrev Rises : List ℕ → Type 0
Rises [] = Unit {0}
Rises (p ∷ ps) = AllByRecursion (λ q. p < q) ps × Rises ps

rises_pairs : (ps : List ℕ) → AllPairs (λ x y. x < y) ps → Rises ps
rises_pairs [] h = tt
rises_pairs (p ∷ ps) h = (
  recursion_from_All (λ q. p < q) ps (λ k d l. h 0 (suc k) d (omega arith) (omega (arith, l))),
  rises_pairs ps (λ i j d l m. h (suc i) (suc j) d (omega (arith, l)) (omega (arith, m))),
)

all_by : (P Q : ℕ → Type 0) → ((n : ℕ) → P n → Q n) → (ns : List ℕ) → AllByRecursion P ns → AllByRecursion Q ns
all_by P Q f [] h = h
all_by P Q f (n ∷ ns) h = (f n h.0, all_by P Q f ns h.1)

module _ {X : Type 0} where
  filter_map_same : (f g : ℕ → Option X) (P : ℕ → Type 0) → ((n : ℕ) → P n → f n ≡ g n) → (ns : List ℕ) → AllByRecursion P ns → filter_map f ns ≡ filter_map g ns
  filter_map_same f g P same [] h = refl
  filter_map_same f g P same (n ∷ ns) h = ap (λ o. cons_option o (filter_map f ns)) (same n h.0) ∙ ap (cons_option (g n)) (filter_map_same f g P same ns h.1)

  abbrev none_at : ℕ → Option X
  none_at n = None

  filter_map_none : (ns : List ℕ) → filter_map none_at ns ≡ []
  filter_map_none [] = refl
  filter_map_none (n ∷ ns) = filter_map_none ns

abbrev at_from : ℕ → Labelled → ℕ → Option ImportedName
at_from k es p = slice_get es (p - k)

abbrev picks : ℕ → List ℕ → Labelled → Labelled
picks k ps [] = []
picks k ps (e ∷ es) = cond (among k ps) (e ∷ picks (suc k) ps es) (picks (suc k) ps es)

picks_none : (k : ℕ) (es : Labelled) → picks k [] es ≡ []
picks_none k [] = refl
picks_none k (e ∷ es) = picks_none (suc k) es

differ : (m n : ℕ) → m < n → nat_eq m n ≡ false
differ m n h = by (nat_eq m n) refl
  where
    by : (b : Bool) → nat_eq m n ≡ b → b ≡ false
    by false k = refl
    by true k = let same : m ≡ n = (unsigned_Decides m n).0 k in absurd (omega (arith, h, same))

differ_up : (m n : ℕ) → n < m → nat_eq m n ≡ false
differ_up m n h = by (nat_eq m n) refl
  where
    by : (b : Bool) → nat_eq m n ≡ b → b ≡ false
    by false k = refl
    by true k = let same : m ≡ n = (unsigned_Decides m n).0 k in absurd (omega (arith, h, same))

-- a place below is none of those from here on
picks_low : (k p : ℕ) (ps : List ℕ) (es : Labelled) → p < k → picks k (p ∷ ps) es ≡ picks k ps es
picks_low k p ps [] h = refl
picks_low k p ps (e ∷ es) h =
    ap (λ b. cond (b || among k ps) (e ∷ picks (suc k) (p ∷ ps) es) (picks (suc k) (p ∷ ps) es)) (differ p k h)
    ∙ ap (λ x. cond (among k ps) (e ∷ x) x) (picks_low (suc k) p ps es (omega (arith, h)))

among_none : (k : ℕ) (ps : List ℕ) → AllByRecursion (λ p. k < p) ps → among k ps ≡ false
among_none k [] h = refl
among_none k (p ∷ ps) h = ap (λ b. b || among k ps) (differ_up p k h.0) ∙ among_none k ps h.1

shift : (k : ℕ) (e : ImportedName) (es : Labelled) (ps : List ℕ) → AllByRecursion (λ p. k < p) ps → filter_map (at_from k (e ∷ es)) ps ≡ filter_map (at_from (suc k) es) ps
shift k e es ps h = filter_map_same (at_from k (e ∷ es)) (at_from (suc k) es) (λ p. k < p) (λ p l. ap (slice_get (e ∷ es)) (step p l)) ps h
  where
    step : (p : ℕ) → k < p → p - k ≡ suc (p - suc k)
    step p l = omega (arith, l)

picked : (es : Labelled) (k : ℕ) (ps : List ℕ) → Rises ps → AllByRecursion (λ p. k ≤ p) ps → filter_map (at_from k es) ps ≡ picks k ps es
picked [] k ps rises low = filter_map_none ps
picked (e ∷ es) k [] rises low = sym (picks_none (suc k) es)
picked (e ∷ es) k (p ∷ ps) rises low = by (nat_eq p k) refl (picked es (suc k))
  where
    On : Type 0
    On = (qs : List ℕ) → Rises qs → AllByRecursion (λ q. suc k ≤ q) qs → filter_map (at_from (suc k) es) qs ≡ picks (suc k) qs es

    here : p ≡ k → at_from k (e ∷ es) p ≡ Some e
    here same = ap (slice_get (e ∷ es)) (zero_left same)
      where
        zero_left : p ≡ k → p - k ≡ 0
        zero_left same = omega (arith, same)

    by : (b : Bool) → nat_eq p k ≡ b → On → cons_option (at_from k (e ∷ es) p) (filter_map (at_from k (e ∷ es)) ps) ≡ cond (b || among k ps) (e ∷ picks (suc k) (p ∷ ps) es) (picks (suc k) (p ∷ ps) es)
    by true h on =
        let same : p ≡ k = (unsigned_Decides p k).0 h in
        let above : AllByRecursion (λ q. k < q) ps = subst (λ n. AllByRecursion (λ q. n < q) ps) same rises.0 in
        let low : p < suc k = omega (arith, same) in
        ap (λ o. cons_option o (filter_map (at_from k (e ∷ es)) ps)) (here same)
        ∙ ap (λ x. e ∷ x) (shift k e es ps above ∙ on ps rises.1 (all_by (λ q. k < q) (λ q. suc k ≤ q) (λ q l. omega (arith, l)) ps above) ∙ sym (picks_low (suc k) p ps es low))
    by false h on =
        let first : k < p = below h in
        let above : AllByRecursion (λ q. k < q) (p ∷ ps) = (first, all_by (λ q. p < q) (λ q. k < q) (λ q l. omega (arith, l, first)) ps rises.0) in
        shift k e es (p ∷ ps) above ∙ on (p ∷ ps) rises (all_by (λ q. k < q) (λ q. suc k ≤ q) (λ q l. omega (arith, l)) (p ∷ ps) above)
        ∙ sym (ap (λ b. cond b (e ∷ picks (suc k) (p ∷ ps) es) (picks (suc k) (p ∷ ps) es)) (among_none k ps above.1))
      where
        below : nat_eq p k ≡ false → k < p
        below h = apart (λ (same : p ≡ k). true≢false (sym ((unsigned_Decides p k).1 same) ∙ h))
          where
            apart : (p ≡ k → ⊥) → k < p
            apart n = omega (arith, low.0, n)

picks_filter : (test : ImportedName → Bool) (ps : List ℕ) (es : Labelled) (k : ℕ) → ((j : ℕ) (e : ImportedName) → slice_get es j ≡ Some e → among (j + k) ps ≡ test e) → picks k ps es ≡ filter test es
picks_filter test ps [] k h = refl
picks_filter test ps (e ∷ es) k h =
    ap (λ b. cond b (e ∷ picks (suc k) ps es) (picks (suc k) ps es)) (ap (λ n. among n ps) first ∙ h 0 e refl)
    ∙ ap (λ x. cond (test e) (e ∷ x) x) (picks_filter test ps es (suc k) (λ j f at. ap (λ n. among n ps) (later j) ∙ h (suc j) f at))
  where
    first : k ≡ 0 + k
    first = omega arith

    later : (j : ℕ) → j + suc k ≡ suc j + k
    later j = omega arith

-- the names at the places of some, each once and in order, are these names
pub found_is : (ids : List NameAt) (names : Labelled) (ps : List ℕ) → AreOwn names → IsStrictlyIncreasing ps → ((n : ℕ) → among n ps ≡ among n (places_of ids names)) → names_at names ps ≡ only ids names
found_is ids names ps own rises same =
    filter_map_same (slice_get names) (at_from 0 names) (λ p. 0 ≤ p) (λ p l. ap (slice_get names) (sym (less_none p))) ps (all_low ps)
    ∙ picked names 0 ps (rises_pairs ps (AllPairs-from_increasing ps rises)) (all_low ps)
    ∙ picks_filter (λ e. is_among ids e.name) ps names 0 (λ j e at. ap (λ n. among n ps) (more_none j) ∙ same j ∙ among_places names own j e at ids)
  where
    less_none : (p : ℕ) → p - 0 ≡ p
    less_none p = omega arith

    more_none : (j : ℕ) → j + 0 ≡ j
    more_none j = omega arith

    all_low : (ps : List ℕ) → AllByRecursion (λ p. 0 ≤ p) ps
    all_low [] = tt
    all_low (p ∷ ps) = (omega arith, all_low ps)

-- ---- each place once

among_from : (n k : ℕ) (xs : List ℕ) → among n (dedup_from nat_eq k xs) ≡ (nat_eq k n || among n xs)
among_from n k [] = refl
among_from n k (x ∷ xs) = by (nat_eq x k) refl (among_from n k xs) (among_from n x xs)
  where
    twice : (a b : Bool) → (a || b) ≡ (a || (a || b))
    twice true b = refl
    twice false b = refl

    by : (b : Bool) → nat_eq x k ≡ b → among n (dedup_from nat_eq k xs) ≡ (nat_eq k n || among n xs) → among n (dedup_from nat_eq x xs) ≡ (nat_eq x n || among n xs)
        → among n (cond b (dedup_from nat_eq k xs) (k ∷ dedup_from nat_eq x xs)) ≡ (nat_eq k n || (nat_eq x n || among n xs))
    by true h on_k on_x = on_k ∙ twice (nat_eq k n) (among n xs) ∙ ap (λ m. nat_eq k n || (nat_eq m n || among n xs)) (sym ((unsigned_Decides x k).0 h))
    by false h on_k on_x = ap (λ b. nat_eq k n || b) on_x

pub among_dedup : (n : ℕ) (xs : List ℕ) → among n (dedup nat_eq xs) ≡ among n xs
among_dedup n [] = refl
among_dedup n (x ∷ xs) = among_from n x xs

-- ---- one more of those that are there

module _ {X Y : Type 0} (f : X → Option Y) (xs : List X) (i : ℕ) (x : X) (done new whole : List Y) where
  pub collect_on : i < length xs → x ≡ get_or xs i x → new ≡ done ++ cons_option (f x) [] → done ++ filter_map f (drop i xs) ≡ whole → new ++ filter_map f (drop (i + 1) xs) ≡ whole
  collect_on h e made so_far =
      ap (λ n. n ++ filter_map f (drop (i + 1) xs)) made ∙ append_assoc done (cons_option (f x) []) (filter_map f (drop (i + 1) xs))
      ∙ ap (λ r. done ++ r) (by (f x) ∙ sym (ap (filter_map f) (cons_at xs i x h e))) ∙ so_far
    where
      by : (o : Option Y) → cons_option o [] ++ filter_map f (drop (i + 1) xs) ≡ cons_option o (filter_map f (drop (i + 1) xs))
      by None = refl
      by (Some y) = refl
