-- The pairs of the binding map stand in order, each once.
use Rattle.std.proofs.Common.{◌≡◌, ℕ, zero, suc, ◌+◌, ◌<◌, ◌≤◌, Bool, true, false, List, [], ◌∷◌, ◌++◌, length, arith, Option, Some, None, cond, refl, sym, ap, subst, ◌∙◌, true≢false, inl, inr}
use Rattle.std.specs.Prelude.{◌⊎◌, not, is_some, map, slice_get}
use Rattle.std.specs.List.{Contains, position_or_len, AllByRecursion}
use Rattle.std.specs.List.Sorted.{IsStrictlySortedBy}
use Rattle.std.specs.Map.{keys_of}
use Rattle.std.specs.Ordering.{is_eq, nat_cmp, ordering_then}
use Rattle.std.specs.declared.cmp.Ordering.{Ordering}
use Rattle.std.specs.declared.cmp.Ordering.TheVariants.{Less, Equal, Greater}
use Rattle.base_data.specs.Same.{texts_decides}
use Rattle.base_data.specs.declared.span.Span.{Span}
use Rattle.core_language.specs.declared.link.Link.{Link}
use Rattle.core_language.specs.declared.link.Target.{Target}
use Rattle.core_language.specs.declared.link.Target.TheVariants as target
use Rattle.load_import.proofs.TableLemmas.{or_else, value-append}
use Rattle.load_import.specs.Table.{same_text, value_of, put_first}
use Rattle.run_xref.proofs.FileLemmas.{text_is}
use Rattle.run_xref.proofs.Ranking.{Rising, ranked_rises, among_ranked, same_itself, at_tie}
use Rattle.run_xref.proofs.Relation.{contains-later, contains-head, contains-cases, contains-none, map-origin, IsIn, key-at, number-is, numbered, put-stays, put-in, links-in, TargetIn, target-in, leads, has-among, among-has, link-back}
use Rattle.run_xref.specs.Links.{leads_to, pair_of}
use Rattle.run_xref.specs.Map.{binding_map, rows_among, row_among}
use Rattle.run_xref.specs.Ranked.{ranked, row_cmp}
use Rattle.run_xref.specs.Relation.{ComesFirst, Precedes, by_file, by_start, by_end, ComesBefore, places, place_first, place_too, nothing_first, primitives, StandsBefore, by_place, by_target, MapIsOrdered, MapIsOnce}
use Rattle.run_xref.specs.Rows.{FileNames, with_files, files_of, number_of, file_at, at_of, aim_of, row_of, pair_at}
use Rattle.run_xref.specs.contracts.rows.AimOrd.TheImpl as aim_order
use Rattle.run_xref.specs.contracts.rows.AtOrd.TheImpl as at_order
use Rattle.run_xref.specs.declared.pair.Pair.{Pair}
use Rattle.run_xref.specs.declared.rows.Aim.{Aim}
use Rattle.run_xref.specs.declared.rows.Aim.TheVariants as aim
use Rattle.run_xref.specs.declared.rows.At.{At}
use Rattle.run_xref.specs.declared.rows.LinkRow.{LinkRow}

-- ---- the place of a file while files are added

abbrev pos : List ℕ → FileNames → ℕ
pos file files = position_or_len (same_text file) (keys_of files)

abbrev IsOut : FileNames → List ℕ → Type 0
IsOut files file = is_some (value_of file files) ≡ false

pos-grows : (file : List ℕ) (files : FileNames) (row : List ℕ × Unit {0}) → pos file files ≤ pos file (files ++ row ∷ [])
pos-grows file [] row = omega arith
pos-grows file (e ∷ es) row = by (same_text file e.0) (pos-grows file es row)
  where
    by : (b : Bool) → pos file es ≤ pos file (es ++ row ∷ []) → cond (not b) (1 + pos file es) 0 ≤ cond (not b) (1 + pos file (es ++ row ∷ [])) 0
    by true h = omega arith
    by false h = omega (arith, h)

pos-stays : (file : List ℕ) (files : FileNames) (row : List ℕ × Unit {0}) → IsIn files file → pos file (files ++ row ∷ []) ≡ pos file files
pos-stays file [] row h = absurd (true≢false (sym h))
pos-stays file (e ∷ es) row h = by (same_text file e.0) h (pos-stays file es row)
  where
    by : (b : Bool) → is_some (cond b (Some e.1) (value_of file es)) ≡ true → (IsIn es file → pos file (es ++ row ∷ []) ≡ pos file es)
        → cond (not b) (1 + pos file (es ++ row ∷ [])) 0 ≡ cond (not b) (1 + pos file es) 0
    by true h on = refl
    by false h on = ap (λ n. 1 + n) (on h)

pos-out : (file : List ℕ) (files : FileNames) → IsOut files file → pos file files ≡ length (keys_of files)
pos-out file [] h = refl
pos-out file (e ∷ es) h = by (same_text file e.0) h (pos-out file es)
  where
    by : (b : Bool) → is_some (cond b (Some e.1) (value_of file es)) ≡ false → (IsOut es file → pos file es ≡ length (keys_of es))
        → cond (not b) (1 + pos file es) 0 ≡ suc (length (keys_of es))
    by true h on = absurd (true≢false h)
    by false h on = plus (pos file es) ∙ ap suc (on h)
      where
        plus : (n : ℕ) → 1 + n ≡ suc n
        plus n = omega arith

-- a file stands before another, which may be missing
abbrev Ahead : FileNames → List ℕ → List ℕ → Type 0
Ahead files file other = IsIn files file × (pos file files < pos other files)

ahead-put : (files : FileNames) (row : List ℕ × Unit {0}) (file other : List ℕ) → Ahead files file other → Ahead (put_first files row) file other
ahead-put files row file other h = (put-stays files row file h.0, by (is_some (value_of row.0 files)))
  where
    by : (b : Bool) → pos file (cond {A = FileNames} b files (files ++ row ∷ [])) < pos other (cond {A = FileNames} b files (files ++ row ∷ []))
    by true = h.1
    by false = less (pos file files) (pos other files) (pos file (files ++ row ∷ [])) (pos other (files ++ row ∷ [])) h.1 (pos-stays file files row h.0) (pos-grows other files row)
      where
        less : (a b c d : ℕ) → a < b → c ≡ a → b ≤ d → c < d
        less a b c d h e k = omega (arith, h, e, k)

ahead-with : (ks : List Link) (files : FileNames) (file other : List ℕ) → Ahead files file other → Ahead (with_files files ks) file other
ahead-with [] files file other h = h
ahead-with (k ∷ ks) files file other h = ahead-with ks (put_first files (k.span.file, tt)) file other (ahead-put files (k.span.file, tt) file other h)

put-out : (files : FileNames) (added file : List ℕ) → same_text file added ≡ false → IsOut files file → IsOut (put_first files (added, tt)) file
put-out files added file other h = by (is_some (value_of added files))
  where
    or-none : {A : Type 0} (a : Option A) → is_some a ≡ false → is_some (or_else a None) ≡ false
    or-none None h = refl
    or-none (Some x) h = h

    by : (b : Bool) → IsOut (cond {A = FileNames} b files (files ++ (added, tt) ∷ [])) file
    by true = h
    by false =
        ap is_some (value-append file files ((added, tt) ∷ []))
        ∙ ap (λ b. is_some (or_else (value_of file files) (cond {A = Option (Unit {0})} b (Some tt) None))) other
        ∙ or-none (value_of file files) h

ahead-new : (files : FileNames) (file other : List ℕ) → same_text other file ≡ false → IsOut files other → Ahead (put_first files (file, tt)) file other
ahead-new files file other differs h =
    let more = put_first files (file, tt) in
    let there = put-in files file in
    (there, below (pos file more) (pos other more) (length (keys_of more)) (key-at more file there).0 (pos-out other more (put-out files file other differs h)))
  where
    below : (a b n : ℕ) → a < n → b ≡ n → a < b
    below a b n h e = omega (arith, h, e)

-- ---- the file of the smaller number comes first

module _ (file other : List ℕ) (differ : ¬ (file ≡ other)) where
  comes-first : (ks : List Link) (files : FileNames) → IsOut files file → IsOut files other → IsIn (with_files files ks) file
      → pos file (with_files files ks) < pos other (with_files files ks) → ComesFirst ks file other
  comes-first [] files out out2 there less = absurd (true≢false (sym there ∙ out))
  comes-first (k ∷ ks) files out out2 there less =
      by (same_text file k.span.file) refl
      (λ a b. comes-first ks (put_first files (k.span.file, tt)) (put-out files k.span.file file a out) (put-out files k.span.file other b out2) there less)
    where
      later : same_text file k.span.file ≡ false → same_text other k.span.file ≡ false → ComesFirst ks file other → ComesFirst (k ∷ ks) file other
      later a b c =
          record { before = k ∷ c.before; behind = c.behind; link = c.link; there = ap (λ xs. k ∷ xs) c.there; in_file = c.in_file; differ = differ; first = λ m h is. none m is (contains-cases k m c.before h) }
        where
          none : (m : Link) → m.span.file ≡ other → (k ≡ m) ⊎ Contains c.before m → ⊥
          none m is (inl e) = true≢false (sym ((texts_decides other k.span.file).1 (sym (ap (λ (l : Link). l.span.file) e ∙ is))) ∙ b)
          none m is (inr h) = c.first m h is

      by-other : same_text file k.span.file ≡ false → (b : Bool) → same_text other k.span.file ≡ b → (same_text file k.span.file ≡ false → same_text other k.span.file ≡ false → ComesFirst ks file other)
          → ComesFirst (k ∷ ks) file other
      by-other a true h on =
          let e : k.span.file ≡ other = sym (text_is other k.span.file h) in
          let apart : same_text file other ≡ false = ap (same_text file) (sym e) ∙ a in
          let first : Ahead (put_first files (k.span.file, tt)) other file = subst (λ f. Ahead (put_first files (f, tt)) other file) (sym e) (ahead-new files other file apart out) in
          let last = ahead-with ks (put_first files (k.span.file, tt)) other file first in
          absurd (contrary (pos file (with_files files (k ∷ ks))) (pos other (with_files files (k ∷ ks))) less last.1)
        where
          contrary : (a b : ℕ) → a < b → b < a → ⊥
          contrary a b h k = omega (arith, h, k)
      by-other a false b on = later a b (on a b)

      by : (b : Bool) → same_text file k.span.file ≡ b → (same_text file k.span.file ≡ false → same_text other k.span.file ≡ false → ComesFirst ks file other) → ComesFirst (k ∷ ks) file other
      by true h on =
          record { before = []; behind = ks; link = k; there = refl; in_file = sym (text_is file k.span.file h); differ = differ; first = λ m h is. contains-none m h }
      by false a on = by-other a (same_text other k.span.file) refl on

some-is : {X : Type 0} (x y : X) → Some x ≡ Some y → x ≡ y
some-is x y h = ap (or x) h
  where
    or : {X : Type 0} → X → Option X → X
    or x None = x
    or x (Some y) = y

-- ---- rows by their numbers

abbrev at_cmp : At → At → Ordering
at_cmp = at_order.cmp-value.it

abbrev aim_cmp : Aim → Aim → Ordering
aim_cmp = aim_order.cmp-value.it

-- what an order of numbers tells
abbrev AtBefore : At → At → Type 0
AtBefore a b = (a.file < b.file) ⊎ ((a.file ≡ b.file) × ((a.from < b.from) ⊎ ((a.from ≡ b.from) × (a.to < b.to))))

abbrev AimBefore : Aim → Aim → Type 0
AimBefore (aim.Place a) (aim.Place b) = AtBefore a b
AimBefore (aim.Place a) aim.Nowhere = Unit {0}
AimBefore (aim.Place a) (aim.Prim o) = Unit {0}
AimBefore aim.Nowhere (aim.Place b) = ⊥
AimBefore aim.Nowhere aim.Nowhere = ⊥
AimBefore aim.Nowhere (aim.Prim o) = Unit {0}
AimBefore (aim.Prim o) (aim.Place b) = ⊥
AimBefore (aim.Prim o) aim.Nowhere = ⊥
AimBefore (aim.Prim o) (aim.Prim q) = o.0 < q.0

abbrev RowBefore : LinkRow → LinkRow → Type 0
RowBefore r q = AtBefore r.at q.at ⊎ ((r.at ≡ q.at) × AimBefore r.aim q.aim)

compare-less : (a b : ℕ) → nat_cmp a b ≡ Less → a < b
compare-less a b h = grind (arith, h)

compare-equal : (a b : ℕ) → nat_cmp a b ≡ Equal → a ≡ b
compare-equal a b h = grind (arith, h)

at-less : (a b : At) → ordering_then (nat_cmp a.file b.file) (ordering_then (nat_cmp a.from b.from) (nat_cmp a.to b.to)) ≡ Less → AtBefore a b
at-less a b h = files (nat_cmp a.file b.file) refl h
  where
    ends : (c : Ordering) → nat_cmp a.from b.from ≡ c → ordering_then c (nat_cmp a.to b.to) ≡ Less → (a.from < b.from) ⊎ ((a.from ≡ b.from) × (a.to < b.to))
    ends Less e h = inl (compare-less a.from b.from e)
    ends Equal e h = inr (compare-equal a.from b.from e, compare-less a.to b.to h)
    ends Greater e h = absurd (cc)

    files : (c : Ordering) → nat_cmp a.file b.file ≡ c → ordering_then c (ordering_then (nat_cmp a.from b.from) (nat_cmp a.to b.to)) ≡ Less → AtBefore a b
    files Less e h = inl (compare-less a.file b.file e)
    files Equal e h = inr (compare-equal a.file b.file e, ends (nat_cmp a.from b.from) refl h)
    files Greater e h = absurd (cc)

-- ---- from numbers to places

module _ (links : List Link) where
  span-before : (a b : Span) → IsIn (files_of links) a.file → IsIn (files_of links) b.file → AtBefore (at_of (files_of links) a) (at_of (files_of links) b) → Precedes links a b
  span-before a b h k (inl less) =
      by_file (comes-first a.file b.file differ links [] refl refl h (less_at (number-is (files_of links) a.file h) (number-is (files_of links) b.file k) less))
    where
      differ : ¬ (a.file ≡ b.file)
      differ e = irreflexive (number_of (files_of links) b.file) (subst (λ f. number_of (files_of links) f < number_of (files_of links) b.file) e less)
        where
          irreflexive : (n : ℕ) → n < n → ⊥
          irreflexive n h = omega (arith, h)

      less_at : {m n p q : ℕ} → m ≡ p → n ≡ q → m < n → p < q
      less_at {m} {n} {p} {q} e f h = omega (arith, e, f, h)
  span-before a b h k (inr both) = by both.1
    where
      files : a.file ≡ b.file
      files = sym (numbered (files_of links) a.file h) ∙ ap (file_at (files_of links)) both.0 ∙ numbered (files_of links) b.file k

      by : (a.from < b.from) ⊎ ((a.from ≡ b.from) × (a.to < b.to)) → Precedes links a b
      by (inl less) = by_start files less
      by (inr ends) = by_end files ends.0 ends.1

  target-before : (t u : Target) → TargetIn (files_of links) t → TargetIn (files_of links) u → AimBefore (aim_of (files_of links) t) (aim_of (files_of links) u) → ComesBefore links t u
  target-before (target.Place a) (target.Place b) h k less = places a b (span-before a b h k less)
  target-before (target.Place a) target.Nowhere h k less = place_first a
  target-before (target.Place a) (target.Prim o) h k less = place_too a o
  target-before target.Nowhere (target.Place b) h k less = absurd less
  target-before target.Nowhere target.Nowhere h k less = absurd less
  target-before target.Nowhere (target.Prim o) h k less = nothing_first o
  target-before (target.Prim o) (target.Place b) h k less = absurd less
  target-before (target.Prim o) target.Nowhere h k less = absurd less
  target-before (target.Prim o) (target.Prim q) h k less = primitives o q less

  pair-before : (p q : Pair) → IsIn (files_of links) p.span.file → IsIn (files_of links) q.span.file → TargetIn (files_of links) p.target → TargetIn (files_of links) q.target
      → RowBefore (row_of (files_of links) p) (row_of (files_of links) q) → StandsBefore links p q
  pair-before p q h k t u (inl less) = by_place (span-before p.span q.span h k less)
  pair-before p q h k t u (inr e) = by_target (spans e.0) (target-before p.target q.target t u e.1)
    where
      files : p.span.file ≡ q.span.file
      files = sym (numbered (files_of links) p.span.file h) ∙ ap (λ (a : At). file_at (files_of links) a.file) e.0 ∙ numbered (files_of links) q.span.file k

      spans : at_of (files_of links) p.span ≡ at_of (files_of links) q.span → p.span ≡ q.span
      spans same = λ i. record { file = files i; from = ap (λ (a : At). a.from) same i; to = ap (λ (a : At). a.to) same i }

-- ---- what the comparison of rows tells

aim_cmp-less : (a b : Aim) → aim_cmp a b ≡ Less → AimBefore a b
aim_cmp-less (aim.Place a) (aim.Place b) h = at-less a b h
aim_cmp-less (aim.Place a) aim.Nowhere h = tt
aim_cmp-less (aim.Place a) (aim.Prim o) h = tt
aim_cmp-less aim.Nowhere (aim.Place b) h = absurd (cc)
aim_cmp-less aim.Nowhere aim.Nowhere h = absurd (cc)
aim_cmp-less aim.Nowhere (aim.Prim o) h = tt
aim_cmp-less (aim.Prim o) (aim.Place b) h = absurd (cc)
aim_cmp-less (aim.Prim o) aim.Nowhere h = absurd (cc)
aim_cmp-less (aim.Prim o) (aim.Prim q) h = compare-less o.0 q.0 h

row-less : (r q : LinkRow) → row_cmp r q ≡ Less → RowBefore r q
row-less r q h = by (at_cmp r.at q.at) refl h
  where
    by : (c : Ordering) → at_cmp r.at q.at ≡ c → ordering_then c (aim_cmp r.aim q.aim) ≡ Less → RowBefore r q
    by Less e h = inl (at-less r.at q.at e)
    by Equal e h = inr (at_tie r.at q.at e, aim_cmp-less r.aim q.aim h)
    by Greater e h = absurd (cc)

-- ---- rows that rise, place by place

above-at : (x : LinkRow) (rows : List LinkRow) (j : ℕ) (q : LinkRow) → AllByRecursion (λ y. row_cmp x y ≡ Less) rows → slice_get rows j ≡ Some q → row_cmp x q ≡ Less
above-at x [] j q a h = absurd (cc)
above-at x (y ∷ ys) zero q a h = subst (λ z. row_cmp x z ≡ Less) (some-is y q h) a.0
above-at x (y ∷ ys) (suc j) q a h = above-at x ys j q a.1 h

rising-at : (rows : List LinkRow) (i j : ℕ) (r q : LinkRow) → Rising rows → i < j → slice_get rows i ≡ Some r → slice_get rows j ≡ Some q → row_cmp r q ≡ Less
unfolding IsStrictlySortedBy
rising-at [] i j r q s l h k = absurd (cc)
rising-at (x ∷ xs) zero zero r q s l h k = absurd (omega (arith, l))
rising-at (x ∷ xs) zero (suc j) r q s l h k = subst (λ z. row_cmp z q ≡ Less) (some-is x r h) (above-at x xs j q s.0 k)
rising-at (x ∷ xs) (suc i) zero r q s l h k = absurd (omega (arith, l))
rising-at (x ∷ xs) (suc i) (suc j) r q s l h k = rising-at xs i j r q s.1 (omega (arith, l)) h k

-- the element of a list that a map takes to what stands at a place
record At_place {X Y : Type 0} (f : X → Y) (xs : List X) (i : ℕ) (y : Y) : Type 0 where
  x : X
  there : slice_get xs i ≡ Some x
  is : f x ≡ y

map-at : {X Y : Type 0} (f : X → Y) (xs : List X) (i : ℕ) (y : Y) → slice_get (map f xs) i ≡ Some y → At_place f xs i y
map-at f [] i y h = absurd (cc)
map-at f (x ∷ xs) zero y h = record { x = x; there = refl; is = some-is (f x) y h }
map-at f (x ∷ xs) (suc i) y h = let a = map-at f xs i y h in record { x = a.x; there = a.there; is = a.is }

at-contained : {X : Type 0} (xs : List X) (i : ℕ) (x : X) → slice_get xs i ≡ Some x → Contains xs x
at-contained [] i x h = absurd (cc)
at-contained (y ∷ ys) zero x h = subst (Contains (y ∷ ys)) (some-is y x h) (contains-head y ys)
at-contained (y ∷ ys) (suc i) x h = contains-later y x ys (at-contained ys i x h)

-- ---- the map

-- a place of the map: the row there, the identifier of which it is, and its pair
record Stands (links : List Link) (i : ℕ) (p : Pair) : Type 0 where
  row : LinkRow
  at : slice_get (ranked (rows_among (files_of links) links links)) i ≡ Some row
  link : Link
  there : Contains links link
  is : pair_of links link ≡ p
  row_is : row ≡ row_of (files_of links) p

stands : (links : List Link) (i : ℕ) (p : Pair) → slice_get (binding_map links) i ≡ Some p → Stands links i p
unfolding binding_map
stands links i p h =
    let files = files_of links in
    let rows = rows_among files links links in
    let a = map-at (pair_at files) (ranked rows) i p h in
    let there = has-among a.x rows (sym (among_ranked a.x rows) ∙ among-has a.x (ranked rows) (at-contained (ranked rows) i a.x a.there)) in
    let o = map-origin (row_among files links) links a.x there in
    let is = sym (link-back links o.x o.there) ∙ ap (pair_at files) o.is ∙ a.is in
    record { row = a.x; at = a.there; link = o.x; there = o.there; is = is; row_is = sym o.is ∙ ap (row_of files) is }

pub map-is-ordered : MapIsOrdered
map-is-ordered links i j p q less h k =
    let files = files_of links in
    let a = stands links i p h in
    let b = stands links j q k in
    let before = rising-at (ranked (rows_among files links links)) i j a.row b.row (ranked_rises (rows_among files links links)) less a.at b.at in
    pair-before links p q (file-in p a) (file-in q b) (targets-in p a) (targets-in q b)
    (subst (λ x. RowBefore x (row_of files q)) a.row_is (subst (RowBefore a.row) b.row_is (row-less a.row b.row before)))
  where
    file-in : {n : ℕ} (p : Pair) → Stands links n p → IsIn (files_of links) p.span.file
    file-in p a = subst (λ (x : Pair). IsIn (files_of links) x.span.file) a.is (links-in links [] a.link a.there)

    targets-in : {n : ℕ} (p : Pair) → Stands links n p → TargetIn (files_of links) p.target
    targets-in p a = subst (λ (x : Pair). TargetIn (files_of links) x.target) a.is (target-in links a.link (leads_to links a.link.label a.link.kind) (leads links a.link))

-- two places
data Two (i j : ℕ) : Type 0 where
  earlier : i < j → Two i j
  same : i ≡ j → Two i j
  later : j < i → Two i j

two : (i j : ℕ) → Two i j
two zero zero = same refl
two zero (suc j) = earlier (omega arith)
two (suc i) zero = later (omega arith)
two (suc i) (suc j) = by (two i j)
  where
    by : Two i j → Two (suc i) (suc j)
    by (earlier h) = earlier (omega (arith, h))
    by (same e) = same (ap suc e)
    by (later h) = later (omega (arith, h))

pub map-is-once : MapIsOnce
map-is-once links i j p h k = by (two i j)
  where
    apart : (m n : ℕ) → m < n → slice_get (binding_map links) m ≡ Some p → slice_get (binding_map links) n ≡ Some p → ⊥
    apart m n less h k =
        let rows = rows_among (files_of links) links links in
        let a = stands links m p h in
        let b = stands links n p k in
        let before = rising-at (ranked rows) m n a.row b.row (ranked_rises rows) less a.at b.at in
        let e : b.row ≡ a.row = b.row_is ∙ sym a.row_is in
        true≢false (sym (same_itself a.row) ∙ ap is_eq (ap (row_cmp a.row) (sym e) ∙ before))

    by : Two i j → i ≡ j
    by (earlier less) = absurd (apart i j less h k)
    by (same e) = e
    by (later less) = absurd (apart j i less k h)
