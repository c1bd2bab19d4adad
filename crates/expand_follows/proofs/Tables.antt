-- Tables of the records of a run tell what those that are needed have.
use Rattle.std.proofs.Common.{◌≡◌, ℕ, zero, suc, Bool, true, false, cond, List, [], ◌∷◌, ◌++◌, ◌+◌, ◌<◌, length, get_or, drop, Option, Some, None, Bor, Decides, refl, sym, ap, ◌∙◌, true≢false, arith}
use Rattle.std.proofs.Math.Dec.{eqb-zero-suc, eqb-suc-zero, eqb-suc-suc}
use Rattle.std.specs.Prelude.{◌||◌, nat_eq, slice_get, is_some, if◌then◌else◌}
use Rattle.std.specs.List.{flat_map, list_any}
use Rattle.std.specs.Map.{lookup}
use Rattle.std.specs.Option.{option_copied}
use Rattle.indexmap.specs.IndexMap.{insert_entry}
use Rattle.base_data.specs.Same.{same_library, same_library_decides}
use Rattle.base_data.specs.declared.library.LibName.{LibName}
use Rattle.base_data.specs.declared.name.Label.{Label}
use Rattle.core_language.specs.Labels.{same_label}
use Rattle.core_language.specs.declared.record.CompiledLibrary.{CompiledLibrary}
use Rattle.law_core.specs.Follows.{bound_labels, names_of}
use Rattle.law_core.specs.Records.{defined}
use Rattle.law_core.specs.Words.{among}
use Rattle.law_core.proofs.Decisions.{label_decides}
use Rattle.expand_standing.specs.Ready.{needed_records}
use Rattle.expand_follows.specs.Earlier.{has_name, has_bound, has_defined, has_at, is_place, Tells, ArePlaces, adds, mark_at, is_needed}
use Rattle.expand_follows.specs.declared.earlier.Places.{Places}
use Rattle.core_well_made.proofs.Lists.{left_on}
use Rattle.core_well_made.proofs.Sets.{among_joined}

-- ---- a record at the end

get_last : {A : Type 0} (xs : List A) (x : A) → slice_get (xs ++ x ∷ []) (length xs) ≡ Some x
get_last [] x = refl
get_last (y ∷ xs) x = get_last xs x

apart_below : (m n : ℕ) → nat_eq (suc m) (suc n) ≡ false → nat_eq m n ≡ false
apart_below m n h = sym (eqb-suc-suc m n) ∙ h

get_other : {A : Type 0} (xs : List A) (x : A) (n : ℕ) → nat_eq (length xs) n ≡ false → slice_get (xs ++ x ∷ []) n ≡ slice_get xs n
get_other [] x zero h = absurd (true≢false h)
get_other [] x (suc n) h = refl
get_other (y ∷ xs) x zero h = refl
get_other (y ∷ xs) x (suc n) h = get_other xs x n (apart_below (length xs) n h)

get_beyond : {A : Type 0} (xs : List A) → slice_get xs (length xs) ≡ None
get_beyond [] = refl
get_beyond (x ∷ xs) = get_beyond xs

same_nat : (m n : ℕ) → nat_eq m n ≡ true → m ≡ n
same_nat m n h = grind (arith, h)

self_nat : (n : ℕ) → nat_eq n n ≡ true
self_nat n = grind arith

zero_apart : (n : ℕ) → nat_eq 0 (suc n) ≡ false
zero_apart n = eqb-zero-suc n

suc_apart : (n : ℕ) → nat_eq (suc n) 0 ≡ false
suc_apart n = eqb-suc-zero n

suc_same : (m n : ℕ) → nat_eq (suc m) (suc n) ≡ nat_eq m n
suc_same m n = eqb-suc-suc m n

-- ---- what a table tells, with one record more

module _ {X : Type 0} (has : X → CompiledLibrary → Bool) (find grown : X → Option ℕ) (records : List CompiledLibrary) (r : CompiledLibrary) (tells : Tells has find records) where
  pub tells_more : ((x : X) → has x r ≡ true → (find x ≡ None) × (grown x ≡ Some (length records))) → ((x : X) → has x r ≡ false → grown x ≡ find x) → Tells has grown (records ++ r ∷ [])
  tells_more there elsewhere x n = by_place (nat_eq (length records) n) refl
    where
      at_end : length records ≡ n → (b : Bool) → has x r ≡ b → b ≡ is_place (grown x) n
      at_end here true h = sym (ap (λ o. is_place o n) (there x h).1 ∙ ap (nat_eq (length records)) (sym here) ∙ self_nat (length records))
      at_end here false h =
          sym (ap (λ o. is_place o n) (elsewhere x h) ∙ ap (is_place (find x)) (sym here) ∙ sym (tells x (length records)) ∙ ap (has_at (has x)) (get_beyond records))

      before : nat_eq (length records) n ≡ false → (b : Bool) → has x r ≡ b → is_place (find x) n ≡ is_place (grown x) n
      before other true h = ap (λ o. is_place o n) (there x h).0 ∙ sym (ap (λ o. is_place o n) (there x h).1 ∙ other)
      before other false h = ap (λ o. is_place o n) (sym (elsewhere x h))

      by_place : (b : Bool) → nat_eq (length records) n ≡ b → has_at (has x) (slice_get (records ++ r ∷ []) n) ≡ is_place (grown x) n
      by_place true e =
          let here = same_nat (length records) n e in
          ap (λ k. has_at (has x) (slice_get (records ++ r ∷ []) k)) (sym here) ∙ ap (has_at (has x)) (get_last records r) ∙ at_end here (has x r) refl
      by_place false e = ap (has_at (has x)) (get_other records r n e) ∙ tells x n ∙ before e (has x r) refl

-- ---- what is added to a table

none_if : {A : Type 0} (o : Option A) → is_some o ≡ false → o ≡ None
none_if None h = refl
none_if (Some x) h = absurd (true≢false h)

no_rows : {A : Type 0} {x : A} → None ≡ Some x → ⊥
no_rows h = cc

pub is_some_copied : {A : Type 0} (o : Option (Bor A)) → is_some o ≡ is_some (option_copied o)
is_some_copied None = refl
is_some_copied (Some x) = refl

pub insert_new : {K V : Type 0} (same : K → K → Bool) (rows : List (K × V)) (k : K) (v : V) → is_some (lookup (same k) rows) ≡ false → insert_entry same rows k v ≡ rows ++ (k, v) ∷ []
insert_new same [] k v h = refl
insert_new same (e ∷ es) k v h = by (same k e.0) (insert_new same es k v) h
  where
    by : (b : Bool) → (is_some (lookup (same k) es) ≡ false → insert_entry same es k v ≡ es ++ (k, v) ∷ [])
        → is_some (cond b (Some e.1) (lookup (same k) es)) ≡ false → (if b then (e.0, v) ∷ es else e ∷ insert_entry same es k v) ≡ (e ∷ es) ++ (k, v) ∷ []
    by true rest g = absurd (true≢false g)
    by false rest g = ap (λ rs. e ∷ rs) (rest g)

module _ {X : Type 0} (same : X → X → Bool) (decides : (x y : X) → Decides (same x y) (x ≡ y)) (place : ℕ) where
  -- a row at the end
  row_more : (rows : List (X × ℕ)) (y x : X) → lookup (same y) rows ≡ None → lookup (same x) (rows ++ (y, place) ∷ []) ≡ (if same x y then Some place else lookup (same x) rows)
  row_more [] y x none = refl
  row_more (e ∷ es) y x none = by (same x e.0) refl (row_more es y x)
    where
      not_it : (b : Bool) → same y e.0 ≡ b → cond b (Some e.1) (lookup (same y) es) ≡ None → same y e.0 ≡ false
      not_it true h n = absurd (cc)
      not_it false h n = h

      here : same y e.0 ≡ false
      here = not_it (same y e.0) refl none

      rest : lookup (same y) es ≡ None
      rest = ap (λ b. cond b (Some e.1) (lookup (same y) es)) (sym here) ∙ none

      apart : same x e.0 ≡ true → (b : Bool) → same x y ≡ b → b ≡ false
      apart h true k = absurd (true≢false (sym h ∙ ap (λ z. same z e.0) ((decides x y).0 k) ∙ here))
      apart h false k = refl

      by : (b : Bool) → same x e.0 ≡ b → (lookup (same y) es ≡ None → lookup (same x) (es ++ (y, place) ∷ []) ≡ (if same x y then Some place else lookup (same x) es))
          → cond b (Some e.1) (lookup (same x) (es ++ (y, place) ∷ [])) ≡ (if same x y then Some place else cond b (Some e.1) (lookup (same x) es))
      by true h on = sym (ap (λ b. if b then Some place else Some e.1) (apart h (same x y) refl))
      by false h on = on rest

  abbrev pub Found : List (X × ℕ) → List X → List (X × ℕ) → X → Type 0
  Found rows xs grown x = (among same xs x ≡ true → (lookup (same x) rows ≡ None) × (lookup (same x) grown ≡ Some place)) × (among same xs x ≡ false → lookup (same x) grown ≡ lookup (same x) rows)

  pub added : (xs : List X) (rows grown : List (X × ℕ)) → adds same rows xs place ≡ Some grown → (x : X) → Found rows xs grown x
  added [] rows grown h x = let e : rows ≡ grown = cc in ((λ k. absurd (true≢false (sym k))), λ k. ap (lookup (same x)) (sym e))
  added (y ∷ ys) rows grown h x = by_new (is_some (lookup (same y) rows)) refl (λ k. added ys (rows ++ (y, place) ∷ []) grown k x) h
    where
      by_new : (b : Bool) → is_some (lookup (same y) rows) ≡ b → (adds same (rows ++ (y, place) ∷ []) ys place ≡ Some grown → Found (rows ++ (y, place) ∷ []) ys grown x)
          → (if b then None else adds same (rows ++ (y, place) ∷ []) ys place) ≡ Some grown → Found rows (y ∷ ys) grown x
      by_new true e on k = absurd (no_rows k)
      by_new false e on k = by_same (same x y) refl (on k)
        where
          none : lookup (same y) rows ≡ None
          none = none_if (lookup (same y) rows) e

          more : lookup (same x) (rows ++ (y, place) ∷ []) ≡ (if same x y then Some place else lookup (same x) rows)
          more = row_more rows y x none

          by_same : (b : Bool) → same x y ≡ b → Found (rows ++ (y, place) ∷ []) ys grown x → (b || among same ys x ≡ true → (lookup (same x) rows ≡ None) × (lookup (same x) grown ≡ Some place)) × (b || among same ys x ≡ false → lookup (same x) grown ≡ lookup (same x) rows)
          by_same true is f = ((λ k. (ap (λ z. lookup (same z) rows) ((decides x y).0 is) ∙ none, here (among same ys x) refl f)), λ k. absurd (true≢false k))
            where
              it : lookup (same x) (rows ++ (y, place) ∷ []) ≡ Some place
              it = more ∙ ap (λ b. if b then Some place else lookup (same x) rows) is

              here : (b : Bool) → among same ys x ≡ b → Found (rows ++ (y, place) ∷ []) ys grown x → lookup (same x) grown ≡ Some place
              here true a g = (g.0 a).1
              here false a g = g.1 a ∙ it
          by_same false is f =
              let it : lookup (same x) (rows ++ (y, place) ∷ []) ≡ lookup (same x) rows = more ∙ ap (λ b. if b then Some place else lookup (same x) rows) is in
              ((λ k. (sym it ∙ (f.0 k).0, (f.0 k).1)), λ k. f.1 k ∙ it)

  -- one after another
  pub adds_joined : (xs ys : List X) (rows middle : List (X × ℕ)) → adds same rows xs place ≡ Some middle → adds same rows (xs ++ ys) place ≡ adds same middle ys place
  adds_joined [] ys rows middle h = let e : rows ≡ middle = cc in ap (λ rs. adds same rs ys place) e
  adds_joined (x ∷ xs) ys rows middle h = by (is_some (lookup (same x) rows)) (adds_joined xs ys (rows ++ (x, place) ∷ []) middle) h
    where
      by : (b : Bool) → (adds same (rows ++ (x, place) ∷ []) xs place ≡ Some middle → adds same (rows ++ (x, place) ∷ []) (xs ++ ys) place ≡ adds same middle ys place)
          → (if b then None else adds same (rows ++ (x, place) ∷ []) xs place) ≡ Some middle
          → (if b then None else adds same (rows ++ (x, place) ∷ []) (xs ++ ys) place) ≡ adds same middle ys place
      by true on k = absurd (no_rows k)
      by false on k = on k

  -- a piece of an item was added: the rest goes on from there
  module _ {T : Type 0} (f : List T → List X) (g : T → List X) (split : (x : T) (xs : List T) → f (x ∷ xs) ≡ g x ++ f xs) where
    pub adds_on : (items : List T) (i : ℕ) (item : T) (b new : List (X × ℕ)) (total : Option (List (X × ℕ))) → i < length items → item ≡ get_or items i item
        → adds same b (g item) place ≡ Some new → adds same b (f (drop i items)) place ≡ total → adds same new (f (drop (i + 1) items)) place ≡ total
    adds_on items i item b new total h e is so_far =
        sym (adds_joined (g item) (f (drop (i + 1) items)) b new is) ∙ ap (λ xs. adds same b xs place) (sym (left_on f g split items i item h e)) ∙ so_far

  -- a row more, where there was none
  pub adds_row : (rows new : List (X × ℕ)) (x y : X) → is_some (lookup (same x) rows) ≡ false → y ≡ x → new ≡ insert_entry same rows y place → adds same rows (x ∷ []) place ≡ Some new
  adds_row rows new x y none e is =
      ap (λ b. if b then None else Some (rows ++ (x, place) ∷ [])) none
      ∙ ap (λ rs. Some rs) (sym (is ∙ ap (λ z. insert_entry same rows z place) e ∙ insert_new same rows x place none))

pub library_decides : (x y : LibName) → Decides (same_library x y) (x ≡ y)
library_decides x y = same_library_decides x y

one_among : (b : Bool) → (b || false) ≡ b
one_among true = refl
one_among false = refl

-- those of no records
pub no_places : (p : Places) → p.names.entries ≡ [] → p.bound.entries ≡ [] → p.defined.entries ≡ [] → ArePlaces p []
no_places p names bound defs = record {
  names = λ x n. ap (λ rows. is_place (lookup (same_library x) rows) n) (sym names);
  bound = λ x n. ap (λ rows. is_place (lookup (same_label x) rows) n) (sym bound);
  defined = λ x n. ap (λ rows. is_place (lookup (same_label x) rows) n) (sym defs);
}

-- the tables of one record more
pub places_more : (places grown : Places) (records : List CompiledLibrary) (r : CompiledLibrary) → ArePlaces places records
    → adds same_library places.names.entries (r.name ∷ []) (length records) ≡ Some grown.names.entries
    → adds same_label places.bound.entries (bound_labels r) (length records) ≡ Some grown.bound.entries
    → adds same_label places.defined.entries (defined r) (length records) ≡ Some grown.defined.entries
    → ArePlaces grown (records ++ r ∷ [])
places_more places grown records r are names bound defs = record {
  names =
      let f = added same_library library_decides (length records) (r.name ∷ []) places.names.entries grown.names.entries names in
      tells_more has_name (λ x. lookup (same_library x) places.names.entries) (λ x. lookup (same_library x) grown.names.entries) records r are.names
      (λ x h. (f x).0 (one_among (same_library x r.name) ∙ h)) (λ x h. (f x).1 (one_among (same_library x r.name) ∙ h));
  bound =
      let f = added same_label label_decides (length records) (bound_labels r) places.bound.entries grown.bound.entries bound in
      tells_more has_bound (λ x. lookup (same_label x) places.bound.entries) (λ x. lookup (same_label x) grown.bound.entries) records r are.bound (λ x. (f x).0) (λ x. (f x).1);
  defined =
      let f = added same_label label_decides (length records) (defined r) places.defined.entries grown.defined.entries defs in
      tells_more has_defined (λ x. lookup (same_label x) places.defined.entries) (λ x. lookup (same_label x) grown.defined.entries) records r are.defined (λ x. (f x).0) (λ x. (f x).1);
}

-- ---- those that are needed

module _ (h : CompiledLibrary → Bool) where
  none_has : (ms : List Bool) (rs : List CompiledLibrary) → ((n : ℕ) → has_at h (slice_get rs n) ≡ false) → list_any h (needed_records ms rs) ≡ false
  none_has [] rs f = refl
  none_has (m ∷ ms) [] f = refl
  none_has (m ∷ ms) (r ∷ rs) f = by m (none_has ms rs (λ n. f (suc n)))
    where
      by : (b : Bool) → list_any h (needed_records ms rs) ≡ false → list_any h (if b then r ∷ needed_records ms rs else needed_records ms rs) ≡ false
      by true k = ap (λ b. b || list_any h (needed_records ms rs)) (f 0) ∙ k
      by false k = k

  one_has : (ms : List Bool) (rs : List CompiledLibrary) (p : ℕ) → ((n : ℕ) → has_at h (slice_get rs n) ≡ nat_eq p n) → list_any h (needed_records ms rs) ≡ mark_at (slice_get ms p)
  one_has [] rs p f = refl
  one_has (m ∷ ms) [] p f = absurd (true≢false (sym (self_nat p) ∙ sym (f p)))
  one_has (m ∷ ms) (r ∷ rs) zero f = by m (none_has ms rs (λ n. f (suc n) ∙ zero_apart n))
    where
      by : (b : Bool) → list_any h (needed_records ms rs) ≡ false → list_any h (if b then r ∷ needed_records ms rs else needed_records ms rs) ≡ b
      by true k = ap (λ b. b || list_any h (needed_records ms rs)) (f 0)
      by false k = k
  one_has (m ∷ ms) (r ∷ rs) (suc p) f = by m (one_has ms rs p (λ n. f (suc n) ∙ suc_same p n))
    where
      by : (b : Bool) → list_any h (needed_records ms rs) ≡ mark_at (slice_get ms p) → list_any h (if b then r ∷ needed_records ms rs else needed_records ms rs) ≡ mark_at (slice_get ms p)
      by true k = ap (λ b. b || list_any h (needed_records ms rs)) (f 0 ∙ suc_apart p) ∙ k
      by false k = k

pub needed_have : {X : Type 0} (has : X → CompiledLibrary → Bool) (find : X → Option ℕ) (records : List CompiledLibrary) → Tells has find records → (marks : List Bool) (x : X)
    → is_needed marks (find x) ≡ list_any (has x) (needed_records marks records)
needed_have has find records tells marks x = by (find x) refl
  where
    by : (o : Option ℕ) → find x ≡ o → is_needed marks o ≡ list_any (has x) (needed_records marks records)
    by None e = sym (none_has (has x) marks records (λ n. tells x n ∙ ap (λ o. is_place o n) e))
    by (Some p) e = sym (one_has (has x) marks records p (λ n. tells x n ∙ ap (λ o. is_place o n) e))

pub names_any : (rs : List CompiledLibrary) (name : LibName) → list_any (has_name name) rs ≡ among same_library (names_of rs) name
names_any [] name = refl
names_any (r ∷ rs) name = ap (λ b. same_library name r.name || b) (names_any rs name)

pub bound_any : (rs : List CompiledLibrary) (l : Label) → list_any (has_bound l) rs ≡ among same_label (flat_map bound_labels rs) l
bound_any [] l = refl
bound_any (r ∷ rs) l = ap (λ b. has_bound l r || b) (bound_any rs l) ∙ sym (among_joined (bound_labels r) (flat_map bound_labels rs) l)

pub defined_any : (rs : List CompiledLibrary) (l : Label) → list_any (has_defined l) rs ≡ among same_label (flat_map defined rs) l
defined_any [] l = refl
defined_any (r ∷ rs) l = ap (λ b. has_defined l r || b) (defined_any rs l) ∙ sym (among_joined (defined r) (flat_map defined rs) l)

-- ---- what the tables tell

module _ (places : Places) (records : List CompiledLibrary) (are : ArePlaces places records) (marks : List Bool) where
  pub name_needed : (name : LibName) → is_needed marks (lookup (same_library name) places.names.entries) ≡ among same_library (names_of (needed_records marks records)) name
  name_needed name = needed_have has_name (λ x. lookup (same_library x) places.names.entries) records are.names marks name ∙ names_any (needed_records marks records) name

  pub bound_needed : (l : Label) → is_needed marks (lookup (same_label l) places.bound.entries) ≡ among same_label (flat_map bound_labels (needed_records marks records)) l
  bound_needed l = needed_have has_bound (λ x. lookup (same_label x) places.bound.entries) records are.bound marks l ∙ bound_any (needed_records marks records) l

  pub defined_needed : (l : Label) → is_needed marks (lookup (same_label l) places.defined.entries) ≡ among same_label (flat_map defined (needed_records marks records)) l
  defined_needed l = needed_have has_defined (λ x. lookup (same_label x) places.defined.entries) records are.defined marks l ∙ defined_any (needed_records marks records) l
