-- The binding map has exactly the pairs of identifiers with what they lead to.
use Rattle.std.proofs.Common.{◌≡◌, ℕ, zero, suc, ◌+◌, ◌<◌, Bool, true, false, List, [], ◌∷◌, ◌++◌, length, get_or, arith, Option, Some, None, cond, refl, sym, ap, subst, ◌∙◌, true≢false, inl, inr}
use Rattle.std.specs.Prelude.{◌⊎◌, ◌&&◌, ◌||◌, not, is_some, map, nat_lt}
use Rattle.std.specs.Cmp.{first_so, second_so}
use Rattle.std.specs.List.{Contains, position_or_len}
use Rattle.std.specs.Map.{keys_of}
use Rattle.std.specs.Ordering.{is_eq}
use Rattle.std.specs.declared.cmp.Ordering.{Ordering}
use Rattle.std.specs.declared.cmp.Ordering.TheVariants.{Less, Equal, Greater}
use Rattle.base_data.specs.Same.{same_name_cases, texts_decides}
use Rattle.base_data.specs.declared.name.Label.{Label}
use Rattle.base_data.specs.declared.span.Span.{Span}
use Rattle.core_language.specs.Labels.{same_label}
use Rattle.core_language.specs.declared.link.Link.{Link}
use Rattle.core_language.specs.declared.link.LinkKind.{LinkKind}
use Rattle.core_language.specs.declared.link.LinkKind.TheVariants as kinds
use Rattle.core_language.specs.declared.link.Target.{Target}
use Rattle.core_language.specs.declared.link.Target.TheVariants as target
use Rattle.load_import.proofs.TableLemmas.{or_else, value-append}
use Rattle.load_import.specs.Table.{same_text, value_of, put_first}
use Rattle.run_xref.proofs.Binding.{same_is}
use Rattle.run_xref.proofs.FileLemmas.{text_is}
use Rattle.run_xref.proofs.Ranking.{tie, same_itself, among_ranked}
use Rattle.run_xref.specs.Links.{is_binder, binds, binder, target_of, leads_to, pair_of}
use Rattle.run_xref.specs.Map.{binding_map, rows_among, row_among}
use Rattle.run_xref.specs.Ranked.{ranked, row_cmp, same_row, among}
use Rattle.run_xref.specs.Relation.{IsVariable, Binds, IsBinder, LeadsTo, to_binder, to_nothing, to_primitive, Relates, MapIsExact}
use Rattle.run_xref.specs.Rows.{FileNames, with_files, files_of, number_of, or_first, file_at, at_of, aim_of, row_of, span_at, target_at, pair_at}
use Rattle.run_xref.specs.declared.pair.Pair.{Pair}
use Rattle.run_xref.specs.declared.rows.LinkRow.{LinkRow}

-- ---- elements

pub contains-later : {X : Type 0} (x y : X) (xs : List X) → Contains xs y → Contains (x ∷ xs) y
contains-later x y xs h = (suc h.0, omega (arith, h.1), h.2)

pub contains-head : {X : Type 0} (x : X) (xs : List X) → Contains (x ∷ xs) x
contains-head x xs = (zero, omega arith, refl)

pub contains-cases : {X : Type 0} (x y : X) (xs : List X) → Contains (x ∷ xs) y → (x ≡ y) ⊎ Contains xs y
contains-cases x y xs h = go h.0 h.1 h.2
  where
    go : (k : ℕ) → k < length (x ∷ xs) → get_or (x ∷ xs) k y ≡ y → (x ≡ y) ⊎ Contains xs y
    go zero l e = inl e
    go (suc k) l e = inr (k, omega arith, e)

pub contains-none : {X : Type 0} (x : X) → ¬ Contains [] x
contains-none x h = absurd (omega (arith, h.1))

-- the element of a list that a map takes to this
pub record Origin {X Y : Type 0} (f : X → Y) (xs : List X) (y : Y) : Type 0 where
  pub x : X
  pub there : Contains xs x
  pub is : f x ≡ y

pub map-origin : {X Y : Type 0} (f : X → Y) (xs : List X) (y : Y) → Contains (map f xs) y → Origin f xs y
map-origin f [] y h = absurd (omega (arith, h.1))
map-origin f (x ∷ xs) y h = by (contains-cases (f x) y (map f xs) h) (map-origin f xs y)
  where
    by : (f x ≡ y) ⊎ Contains (map f xs) y → (Contains (map f xs) y → Origin f xs y) → Origin f (x ∷ xs) y
    by (inl e) on = record { x = x; there = contains-head x xs; is = e }
    by (inr k) on = let o = on k in record { x = o.x; there = contains-later x o.x xs o.there; is = o.is }

map-has : {X Y : Type 0} (f : X → Y) (x : X) (xs : List X) → Contains xs x → Contains (map f xs) (f x)
map-has f x [] h = absurd (omega (arith, h.1))
map-has f x (z ∷ xs) h = by (contains-cases z x xs h) (map-has f x xs)
  where
    by : (z ≡ x) ⊎ Contains xs x → (Contains xs x → Contains (map f xs) (f x)) → Contains (map f (z ∷ xs)) (f x)
    by (inl e) on = subst (λ y. Contains (map f (z ∷ xs)) (f y)) e (contains-head (f z) (map f xs))
    by (inr k) on = contains-later (f z) (f x) (map f xs) (on k)

-- ---- binders

binds-so : (l : Label) (k : Link) → binds l k ≡ true → Binds l k
binds-so l k h = (kind-so k.kind (first_so (is_binder k.kind) (same_label l k.label) h), sym (same_is l k.label (second_so (is_binder k.kind) (same_label l k.label) h)))
  where
    kind-so : (kind : LinkKind) → is_binder kind ≡ true → kind ≡ kinds.Bind
    kind-so kinds.Bind h = refl
    kind-so kinds.Refer h = absurd (true≢false (sym h))
    kind-so (kinds.Prim o) h = absurd (true≢false (sym h))

binds-is : (l : Label) (k : Link) → Binds l k → binds l k ≡ true
binds-is l k h =
    ap (λ kind. is_binder kind && same_label l k.label) h.0
    ∙ ap (same_label l) h.1 ∙ (same_name_cases l.0 l.0).1 refl

-- what the search for a binder tells
abbrev Found : List Link → Label → Option Link → Type 0
Found links l None = (b : Link) → Contains links b → ¬ Binds l b
Found links l (Some b) = IsBinder links l b

found-later : (k : Link) (ks : List Link) (l : Label) → binds l k ≡ false → (o : Option Link) → Found ks l o → Found (k ∷ ks) l o
found-later k ks l other None h = λ b there is. by b is (contains-cases k b ks there)
  where
    by : (b : Link) → Binds l b → (k ≡ b) ⊎ Contains ks b → ⊥
    by b is (inl e) = true≢false (sym (binds-is l b is) ∙ ap (binds l) (sym e) ∙ other)
    by b is (inr there) = h b there is
found-later k ks l other (Some b) h =
    record { before = k ∷ h.before; behind = h.behind; there = ap (λ xs. k ∷ xs) h.there; binds = h.binds; first = λ m there is. by m is (contains-cases k m h.before there) }
  where
    by : (m : Link) → Binds l m → (k ≡ m) ⊎ Contains h.before m → ⊥
    by m is (inl e) = true≢false (sym (binds-is l m is) ∙ ap (binds l) (sym e) ∙ other)
    by m is (inr there) = h.first m there is

binder-found : (links : List Link) (l : Label) → Found links l (binder links l)
binder-found [] l = λ b there is. contains-none b there
binder-found (k ∷ ks) l = by (binds l k) refl (binder-found ks l)
  where
    by : (b : Bool) → binds l k ≡ b → Found ks l (binder ks l) → Found (k ∷ ks) l (cond b (Some k) (binder ks l))
    by true h on = record { before = []; behind = ks; there = refl; binds = binds-so l k h; first = λ m there is. contains-none m there }
    by false h on = found-later k ks l h (binder ks l) on

-- the search has one answer
none-is : (links : List Link) (l : Label) → ((b : Link) → Contains links b → ¬ Binds l b) → binder links l ≡ None
none-is links l h = by (binder links l) (binder-found links l)
  where
    by : (o : Option Link) → Found links l o → o ≡ None
    by None f = refl
    by (Some b) f = absurd (h b (subst (λ ks. Contains ks b) (sym f.there) (in-middle f.before)) f.binds)
      where
        in-middle : (before : List Link) → Contains (before ++ b ∷ f.behind) b
        in-middle [] = contains-head b f.behind
        in-middle (k ∷ ks) = contains-later k b (ks ++ b ∷ f.behind) (in-middle ks)

first-is : (before behind : List Link) (b : Link) (l : Label) → Binds l b → ((k : Link) → Contains before k → ¬ Binds l k) → binder (before ++ b ∷ behind) l ≡ Some b
first-is [] behind b l is none = ap (λ t. cond t (Some b) (binder behind l)) (binds-is l b is)
first-is (k ∷ ks) behind b l is none = by (binds l k) refl (first-is ks behind b l is (λ m there. none m (contains-later k m ks there)))
  where
    by : (t : Bool) → binds l k ≡ t → binder (ks ++ b ∷ behind) l ≡ Some b → cond t (Some k) (binder (ks ++ b ∷ behind) l) ≡ Some b
    by true h on = absurd (none k (contains-head k ks) (binds-so l k h))
    by false h on = on

-- ---- what an identifier leads to

pub leads : (links : List Link) (k : Link) → LeadsTo links k (leads_to links k.label k.kind)
leads links k = by k.kind refl
  where
    place : IsVariable k.kind → (o : Option Link) → Found links k.label o → LeadsTo links k (target_of o)
    place v None f = to_nothing v f
    place v (Some b) f = to_binder b v f

    by : (kind : LinkKind) → k.kind ≡ kind → LeadsTo links k (leads_to links k.label kind)
    by kinds.Bind e = place (subst IsVariable (sym e) tt) (binder links k.label) (binder-found links k.label)
    by kinds.Refer e = place (subst IsVariable (sym e) tt) (binder links k.label) (binder-found links k.label)
    by (kinds.Prim o) e = to_primitive o e

variable-leads : (links : List Link) (l : Label) (kind : LinkKind) → IsVariable kind → leads_to links l kind ≡ target_of (binder links l)
variable-leads links l kinds.Bind v = refl
variable-leads links l kinds.Refer v = refl
variable-leads links l (kinds.Prim o) v = absurd v

led : (links : List Link) (k : Link) (t : Target) → LeadsTo links k t → leads_to links k.label k.kind ≡ t
led links k _ (to_binder b v is) =
    variable-leads links k.label k.kind v
    ∙ ap (λ ks. target_of (binder ks k.label)) is.there ∙ ap target_of (first-is is.before is.behind b k.label is.binds is.first)
led links k _ (to_nothing v none) = variable-leads links k.label k.kind v ∙ ap target_of (none-is links k.label none)
led links k _ (to_primitive o e) = ap (leads_to links k.label) e

-- ---- files by their numbers

abbrev pub IsIn : FileNames → List ℕ → Type 0
IsIn files file = is_some (value_of file files) ≡ true

-- a file stands at a place
abbrev pub IsPlace : FileNames → List ℕ → ℕ → Type 0
IsPlace files file n = (n < length (keys_of files)) × (file_at files n ≡ file)

pub key-at : (files : FileNames) (file : List ℕ) → IsIn files file → IsPlace files file (position_or_len (same_text file) (keys_of files))
key-at [] file h = absurd (true≢false (sym h))
key-at (e ∷ es) file h = by (same_text file e.0) refl h (key-at es file)
  where
    by : (b : Bool) → same_text file e.0 ≡ b → is_some (cond b (Some e.1) (value_of file es)) ≡ true
        → (IsIn es file → IsPlace es file (position_or_len (same_text file) (keys_of es))) → IsPlace (e ∷ es) file (cond (not b) (1 + position_or_len (same_text file) (keys_of es)) 0)
    by true same h on = (omega arith, sym (text_is file e.0 same))
    by false same h on =
        let o = on h in
        let n = position_or_len (same_text file) (keys_of es) in
        (omega (arith, o.0), ap (file_at (e ∷ es)) (plus n) ∙ o.1)
      where
        plus : (n : ℕ) → 1 + n ≡ suc n
        plus n = omega arith

pub number-is : (files : FileNames) (file : List ℕ) → IsIn files file → number_of files file ≡ position_or_len (same_text file) (keys_of files)
number-is files file h =
    let n = position_or_len (same_text file) (keys_of files) in
    ap (λ b. or_first (cond b (Some n) None)) (less n (length (keys_of files)) (key-at files file h).0)
  where
    less : (n m : ℕ) → n < m → nat_lt n m ≡ true
    less n m h = grind (arith, h)

pub numbered : (files : FileNames) (file : List ℕ) → IsIn files file → file_at files (number_of files file) ≡ file
numbered files file h = ap (file_at files) (number-is files file h) ∙ (key-at files file h).1

-- ---- the files of links

or-some : {A : Type 0} (a b : Option A) → is_some a ≡ true → is_some (or_else a b) ≡ true
or-some None b h = absurd (true≢false (sym h))
or-some (Some x) b h = refl

or-last : {A : Type 0} (a b : Option A) → is_some b ≡ true → is_some (or_else a b) ≡ true
or-last None b h = h
or-last (Some x) b h = refl

pub put-stays : (files : FileNames) (row : List ℕ × Unit {0}) (file : List ℕ) → IsIn files file → IsIn (put_first files row) file
put-stays files row file h = by (is_some (value_of row.0 files))
  where
    by : (b : Bool) → IsIn (cond {A = FileNames} b files (files ++ row ∷ [])) file
    by true = h
    by false = ap is_some (value-append file files (row ∷ [])) ∙ or-some (value_of file files) (value_of file (row ∷ [])) h

pub put-in : (files : FileNames) (file : List ℕ) → IsIn (put_first files (file, tt)) file
put-in files file = by (is_some (value_of file files)) refl
  where
    by : (b : Bool) → is_some (value_of file files) ≡ b → IsIn (cond {A = FileNames} b files (files ++ (file, tt) ∷ [])) file
    by true h = h
    by false h =
        ap is_some (value-append file files ((file, tt) ∷ []))
        ∙ or-last (value_of file files) (value_of file ((file, tt) ∷ [])) (ap (λ b. is_some (cond {A = Option (Unit {0})} b (Some tt) None)) ((texts_decides file file).1 refl))

pub with-stays : (ks : List Link) (files : FileNames) (file : List ℕ) → IsIn files file → IsIn (with_files files ks) file
with-stays [] files file h = h
with-stays (k ∷ ks) files file h = with-stays ks (put_first files (k.span.file, tt)) file (put-stays files (k.span.file, tt) file h)

pub links-in : (ks : List Link) (files : FileNames) (k : Link) → Contains ks k → IsIn (with_files files ks) k.span.file
links-in [] files k h = absurd (contains-none k h)
links-in (m ∷ ks) files k h = by (contains-cases m k ks h) (links-in ks (put_first files (m.span.file, tt)) k)
  where
    by : (m ≡ k) ⊎ Contains ks k → (Contains ks k → IsIn (with_files files (m ∷ ks)) k.span.file) → IsIn (with_files files (m ∷ ks)) k.span.file
    by (inl e) on =
        subst (λ (l : Link). IsIn (with_files files (m ∷ ks)) l.span.file) e
        (with-stays ks (put_first files (m.span.file, tt)) m.span.file (put-in files m.span.file))
    by (inr there) on = on there

-- ---- pairs by numbers, and back

-- the files of a target are in a list
abbrev pub TargetIn : FileNames → Target → Type 0
TargetIn files (target.Place span) = IsIn files span.file
TargetIn files target.Nowhere = Unit {0}
TargetIn files (target.Prim o) = Unit {0}

span-back : (files : FileNames) (span : Span) → IsIn files span.file → span_at files (at_of files span) ≡ span
span-back files span h = let e = numbered files span.file h in λ i. record { file = e i; from = span.from; to = span.to }

target-back : (files : FileNames) (t : Target) → TargetIn files t → target_at files (aim_of files t) ≡ t
target-back files (target.Place span) h = ap target.Place (span-back files span h)
target-back files target.Nowhere h = refl
target-back files (target.Prim o) h = refl

pair-back : (files : FileNames) (p : Pair) → IsIn files p.span.file → TargetIn files p.target → pair_at files (row_of files p) ≡ p
pair-back files p h k =
    let e = span-back files p.span h in
    let f = target-back files p.target k in
    λ i. record { span = e i; target = f i }

pub target-in : (links : List Link) (k : Link) (t : Target) → LeadsTo links k t → TargetIn (files_of links) t
target-in links k _ (to_binder b v is) = links-in links [] b (subst (λ ks. Contains ks b) (sym is.there) (in-middle is.before))
  where
    in-middle : (before : List Link) → Contains (before ++ b ∷ is.behind) b
    in-middle [] = contains-head b is.behind
    in-middle (m ∷ ms) = contains-later m b (ms ++ b ∷ is.behind) (in-middle ms)
target-in links k _ (to_nothing v none) = tt
target-in links k _ (to_primitive o e) = tt

pub link-back : (links : List Link) (k : Link) → Contains links k → pair_at (files_of links) (row_among (files_of links) links k) ≡ pair_of links k
link-back links k there =
    pair-back (files_of links) (pair_of links k) (links-in links [] k there) (target-in links k (leads_to links k.label k.kind) (leads links k))

-- ---- rows in order are the same rows

pub row-is : (r x : LinkRow) → same_row r x ≡ true → r ≡ x
row-is r x h = tie r x (equal (row_cmp r x) h)
  where
    equal : (o : Ordering) → is_eq o ≡ true → o ≡ Equal
    equal Less h = absurd (true≢false (sym h))
    equal Equal h = refl
    equal Greater h = absurd (true≢false (sym h))

pub among-has : (r : LinkRow) (rows : List LinkRow) → Contains rows r → among r rows ≡ true
among-has r [] h = absurd (contains-none r h)
among-has r (x ∷ xs) h = by (contains-cases x r xs h) (among-has r xs)
  where
    or-true : (b : Bool) → (b || true) ≡ true
    or-true true = refl
    or-true false = refl

    by : (x ≡ r) ⊎ Contains xs r → (Contains xs r → among r xs ≡ true) → (same_row r x || among r xs) ≡ true
    by (inl e) on = ap (λ b. b || among r xs) (ap (same_row r) e ∙ same_itself r)
    by (inr there) on = ap (λ b. same_row r x || b) (on there) ∙ or-true (same_row r x)

pub has-among : (r : LinkRow) (rows : List LinkRow) → among r rows ≡ true → Contains rows r
has-among r [] h = absurd (true≢false (sym h))
has-among r (x ∷ xs) h = by (same_row r x) refl h (has-among r xs)
  where
    by : (b : Bool) → same_row r x ≡ b → (b || among r xs) ≡ true → (among r xs ≡ true → Contains xs r) → Contains (x ∷ xs) r
    by true same h on = subst (Contains (x ∷ xs)) (sym (row-is r x same)) (contains-head x xs)
    by false same h on = contains-later x r xs (on h)

-- ---- the map

-- a pair of the map is that of an identifier
pub record IsOf (links : List Link) (p : Pair) : Type 0 where
  pub link : Link
  pub there : Contains links link
  pub is : pair_of links link ≡ p

pub map-of : (links : List Link) (p : Pair) → Contains (binding_map links) p → IsOf links p
unfolding binding_map
map-of links p h =
    let files = files_of links in
    let rows = rows_among files links links in
    let row = map-origin (pair_at files) (ranked rows) p h in
    let there : Contains rows row.x = has-among row.x rows (sym (among_ranked row.x rows) ∙ among-has row.x (ranked rows) row.there) in
    let link = map-origin (row_among files links) links row.x there in
    record { link = link.x; there = link.there; is = sym (link-back links link.x link.there) ∙ ap (pair_at files) link.is ∙ row.is }

pub map-has-pair : (links : List Link) (k : Link) → Contains links k → Contains (binding_map links) (pair_of links k)
unfolding binding_map
map-has-pair links k there =
    let files = files_of links in
    let rows = rows_among files links links in
    let row = row_among files links k in
    let ranked-has : Contains (ranked rows) row = has-among row (ranked rows) (among_ranked row rows ∙ among-has row rows (map-has (row_among files links) k links there)) in
    subst (Contains (map (pair_at files) (ranked rows))) (link-back links k there) (map-has (pair_at files) row (ranked rows) ranked-has)

relates-is : (links : List Link) (p : Pair) (r : Relates links p) → pair_of links r.link ≡ p
relates-is links p r =
    let e = r.span in
    let f = led links r.link p.target r.leads in
    λ i. record { span = sym e i; target = f i }

pub map-is-exact : MapIsExact
map-is-exact links p = (sound, complete)
  where
    sound : Contains (binding_map links) p → Relates links p
    sound h =
        let o = map-of links p h in
        record { link = o.link; there = o.there; span = ap (λ (q : Pair). q.span) (sym o.is); leads = subst (LeadsTo links o.link) (ap (λ (q : Pair). q.target) o.is) (leads links o.link) }

    complete : Relates links p → Contains (binding_map links) p
    complete r = subst (Contains (binding_map links)) (relates-is links p r) (map-has-pair links r.link r.there)
