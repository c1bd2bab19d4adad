-- The binds of an ellipsis, by variable and by element.
use Rattle.std.proofs.Common.{◌≡◌, ℕ, suc, ◌+◌, List, [], ◌∷◌, ◌++◌, map, length, length-append, slice_get, Option, Some, None, refl, ap, sym, subst, ◌∙◌, append_assoc, arith}
use Rattle.std.proofs.lemmas.List.{append-nil, map-append}
use Rattle.base_data.specs.declared.name.Label.{Label}
use Rattle.stx_frames.specs.Scope.{Scope}
use Rattle.core_language.specs.Pattern.{PlainPattern, any, variable, literal, atom, list, vector, PlainPatterns, none, more, dots}
use Rattle.eval_value.specs.Bind.{PlainBind, many}
use Rattle.eval_value.specs.Bind as bind
use Rattle.eval_value.specs.declared.cell.Cell.{Cell}
use Rattle.eval_value.specs.declared.value.Value.{Value}
use Rattle.eval_pattern.specs.Columns.{empty_column, empty_columns, all_empty_columns, with_bind, grown, closed}
use Rattle.eval_pattern.specs.declared.columns.Column.{Column}
use Rattle.eval_template.specs.Binds.{Binds, looked_up, listed, turn_of, through}
use Rattle.eval_template.proofs.Turns.{listed_turns, turn_of_many}
use Rattle.law_matches.specs.Matches.{MatchBinds, stacked, Matches, takes_any, takes_variable, takes_literal, takes_atom, takes_list, takes_vector, Fills, no_more, one_more, all_but, Repeats, no_rows, one_row}
use Rattle.law_templates.specs.Repeating.{variables, all_variables}
use Rattle.law_templates.proofs.Sight.{through-append}

abbrev pub labels : MatchBinds → List Label
labels bs = map (λ (b : Label × PlainBind). b.0) bs

abbrev pub column_labels : List Column → List Label
column_labels cols = map (λ (c : Column). c.label) cols

labels-closed : (cols : List Column) → labels (closed cols) ≡ column_labels cols
labels-closed [] = refl
labels-closed (c ∷ cols) = ap (λ ls. c.label ∷ ls) (labels-closed cols)

mutual
  empty-labels : (p : PlainPattern) (cols : List Column) → column_labels (empty_columns p cols) ≡ column_labels cols ++ variables p
  empty-labels any cols = sym (append-nil (column_labels cols))
  empty-labels (variable l) cols = map-append (λ (c : Column). c.label) cols (empty_column l ∷ [])
  empty-labels (literal t) cols = sym (append-nil (column_labels cols))
  empty-labels (atom a) cols = sym (append-nil (column_labels cols))
  empty-labels (list ps t) cols =
      empty-labels t (all_empty_columns ps cols) ∙ ap (λ ls. ls ++ variables t) (all-empty-labels ps cols) ∙ append_assoc (column_labels cols) (all_variables ps) (variables t)
  empty-labels (vector ps) cols = all-empty-labels ps cols

  all-empty-labels : (ps : PlainPatterns) (cols : List Column) → column_labels (all_empty_columns ps cols) ≡ column_labels cols ++ all_variables ps
  all-empty-labels none cols = sym (append-nil (column_labels cols))
  all-empty-labels (more p ps) cols =
      all-empty-labels ps (empty_columns p cols) ∙ ap (λ ls. ls ++ all_variables ps) (empty-labels p cols) ∙ append_assoc (column_labels cols) (variables p) (all_variables ps)
  all-empty-labels (dots p ps) cols =
      all-empty-labels ps (empty_columns p cols) ∙ ap (λ ls. ls ++ all_variables ps) (empty-labels p cols) ∙ append_assoc (column_labels cols) (variables p) (all_variables ps)

pub labels_none : (p : PlainPattern) → column_labels (empty_columns p []) ≡ variables p
labels_none p = empty-labels p []

-- each column has so many binds
abbrev pub AllLong : ℕ → List Column → Type 0
AllLong n [] = Unit {0}
AllLong n (c ∷ cols) = (length c.binds ≡ n) × AllLong n cols

long_then : (n : ℕ) (xs ys : List Column) → AllLong n xs → AllLong n ys → AllLong n (xs ++ ys)
long_then n [] ys h k = k
long_then n (x ∷ xs) ys h k = (h.0, long_then n xs ys h.1 k)

mutual
  empty_long : (p : PlainPattern) (cols : List Column) → AllLong 0 cols → AllLong 0 (empty_columns p cols)
  empty_long any cols h = h
  empty_long (variable l) cols h = long_then 0 cols (empty_column l ∷ []) h (refl, tt)
  empty_long (literal t) cols h = h
  empty_long (atom a) cols h = h
  empty_long (list ps t) cols h = empty_long t (all_empty_columns ps cols) (all_empty_long ps cols h)
  empty_long (vector ps) cols h = all_empty_long ps cols h

  all_empty_long : (ps : PlainPatterns) (cols : List Column) → AllLong 0 cols → AllLong 0 (all_empty_columns ps cols)
  all_empty_long none cols h = h
  all_empty_long (more p ps) cols h = all_empty_long ps (empty_columns p cols) (empty_long p cols h)
  all_empty_long (dots p ps) cols h = all_empty_long ps (empty_columns p cols) (empty_long p cols h)

pub long_none : (p : PlainPattern) → AllLong 0 (empty_columns p [])
long_none p = empty_long p [] tt

-- one row more
abbrev pub zipped : List Column → MatchBinds → List Column
zipped [] row = []
zipped (c ∷ cols) [] = []
zipped (c ∷ cols) (b ∷ row) = with_bind c b.1 ∷ zipped cols row

pub grown-zipped : (done cols : List Column) (row : MatchBinds) → grown done cols row ≡ done ++ zipped cols row
grown-zipped done [] row = sym (append-nil done)
grown-zipped done (c ∷ cols) [] = sym (append-nil done)
grown-zipped done (c ∷ cols) (b ∷ row) = grown-zipped (done ++ with_bind c b.1 ∷ []) cols row ∙ append_assoc done (with_bind c b.1 ∷ []) (zipped cols row)

-- Columns with more binds behind those that they have.
data Grows : List Column → List Column → Type 0 where
  no_column : Grows [] []
  one_column : {c d : Column} {cs ds : List Column} (later : List PlainBind) → d.label ≡ c.label → d.binds ≡ c.binds ++ later → Grows cs ds → Grows (c ∷ cs) (d ∷ ds)

grows_refl : (cols : List Column) → Grows cols cols
grows_refl [] = no_column
grows_refl (c ∷ cols) = one_column [] refl (sym (append-nil c.binds)) (grows_refl cols)

grows_then : {a b c : List Column} → Grows a b → Grows b c → Grows a c
grows_then no_column no_column = no_column
grows_then (one_column {c = c} m l b g) (one_column n k d h) =
    one_column (m ++ n) (k ∙ l) (d ∙ ap (λ xs. xs ++ n) b ∙ append_assoc c.binds m n) (grows_then g h)

grows_labels : {a b : List Column} → Grows a b → column_labels b ≡ column_labels a
grows_labels no_column = refl
grows_labels (one_column later l b g) = λ i. l i ∷ grows_labels g i

heads_same : (x y : Label) (xs ys : List Label) → x ∷ xs ≡ y ∷ ys → x ≡ y
heads_same x y xs ys e = cc

pub tails_same : (x y : Label) (xs ys : List Label) → x ∷ xs ≡ y ∷ ys → xs ≡ ys
tails_same x y xs ys e = cc

pub none_some : (x : Label) (xs : List Label) → [] ≡ x ∷ xs → ⊥
none_some x xs e = cc

some_none : (x : Label) (xs : List Label) → x ∷ xs ≡ [] → ⊥
some_none x xs e = cc

zipped_grows : (cols : List Column) (row : MatchBinds) → labels row ≡ column_labels cols → Grows cols (zipped cols row)
zipped_grows [] row h = no_column
zipped_grows (c ∷ cols) [] h = absurd (none_some c.label (column_labels cols) h)
zipped_grows (c ∷ cols) (b ∷ row) h = one_column (b.1 ∷ []) refl refl (zipped_grows cols row (tails_same b.0 c.label (labels row) (column_labels cols) h))

zipped_long : (n : ℕ) (cols : List Column) (row : MatchBinds) → AllLong n cols → AllLong (n + 1) (zipped cols row)
zipped_long n [] row h = tt
zipped_long n (c ∷ cols) [] h = tt
zipped_long n (c ∷ cols) (b ∷ row) h =
    ((let e : length (c.binds ++ b.1 ∷ []) ≡ n + 1 = omega (arith, length-append c.binds (b.1 ∷ []), h.0) in e), zipped_long n cols row h.1)

-- each row has a bind for each of these labels
abbrev pub RowsFit : List Label → List MatchBinds → Type 0
RowsFit ls [] = Unit {0}
RowsFit ls (row ∷ rows) = (labels row ≡ ls) × RowsFit ls rows

zipped_fit : (cols : List Column) (row : MatchBinds) (rows : List MatchBinds) → RowsFit (column_labels cols) (row ∷ rows) → RowsFit (column_labels (zipped cols row)) rows
zipped_fit cols row rows h = subst (λ ls. RowsFit ls rows) (sym (grows_labels (zipped_grows cols row h.0))) h.1

stacked_grows : (cols : List Column) (rows : List MatchBinds) → RowsFit (column_labels cols) rows → Grows cols (stacked cols rows)
stacked_grows cols [] h = grows_refl cols
stacked_grows cols (row ∷ rows) h =
    grows_then (zipped_grows cols row h.0)
    (subst (λ cs. Grows (zipped cols row) (stacked cs rows)) (sym (grown-zipped [] cols row)) (stacked_grows (zipped cols row) rows (zipped_fit cols row rows h)))

pub stacked-labels : (cols : List Column) (rows : List MatchBinds) → RowsFit (column_labels cols) rows → column_labels (stacked cols rows) ≡ column_labels cols
stacked-labels cols rows h = grows_labels (stacked_grows cols rows h)

pub stacked_long : (n : ℕ) (cols : List Column) (rows : List MatchBinds) → AllLong n cols → AllLong (n + length rows) (stacked cols rows)
stacked_long n cols [] h = subst (λ m. AllLong m cols) (let e : n ≡ n + 0 = omega arith in e) h
stacked_long n cols (row ∷ rows) h =
    subst (λ m. AllLong m (stacked (grown [] cols row) rows)) (let e : n + 1 + length rows ≡ n + suc (length rows) = omega arith in e)
    (subst (λ cs. AllLong (n + 1 + length rows) (stacked cs rows)) (sym (grown-zipped [] cols row)) (stacked_long (n + 1) (zipped cols row) rows (zipped_long n cols row h)))

-- the binds of a match are those of the pattern's variables
mutual
  pub labels_are : {fs : Scope} {cells : List Cell} {p : PlainPattern} {v : Value} {bs : MatchBinds} {n : ℕ} → Matches fs cells p v bs n → labels bs ≡ variables p
  labels_are takes_any = refl
  labels_are takes_variable = refl
  labels_are (takes_literal e) = refl
  labels_are (takes_atom e) = refl
  labels_are (takes_list {bs = bs} {cs = cs} b last f m) = map-append (λ (x : Label × PlainBind). x.0) bs cs ∙ (λ i. all_labels f i ++ labels_are m i)
  labels_are (takes_vector e f) = all_labels f

  all_labels : {fs : Scope} {cells : List Cell} {ps : PlainPatterns} {xs : List Value} {bs : MatchBinds} {n : ℕ} → Fills fs cells ps xs bs n → labels bs ≡ all_variables ps
  all_labels no_more = refl
  all_labels (one_more {bs = bs} {cs = cs} r f) = map-append (λ (x : Label × PlainBind). x.0) bs cs ∙ (λ i. labels_are r i ++ all_labels f i)
  all_labels (all_but {p = p} {rows = rows} {cs = cs} r long f) =
      let cols = empty_columns p [] in
      let fit = subst (λ ls. RowsFit ls rows) (sym (labels_none p)) (rows_fit r) in
      let is = labels-closed (stacked cols rows) ∙ stacked-labels cols rows fit ∙ labels_none p in
      map-append (λ (x : Label × PlainBind). x.0) (closed (stacked cols rows)) cs ∙ (λ i. is i ++ all_labels f i)

  pub rows_fit : {fs : Scope} {cells : List Cell} {p : PlainPattern} {xs : List Value} {rows : List MatchBinds} {n : ℕ} → Repeats fs cells p xs rows n → RowsFit (variables p) rows
  rows_fit no_rows = tt
  rows_fit (one_row r rs) = (labels_are r, rows_fit rs)

-- After these turns, what is bound is what these binds say.
abbrev pub AllSee : Binds → List ℕ → MatchBinds → Type 0
AllSee binds js [] = Unit {0}
AllSee binds js (x ∷ xs) = (through (looked_up binds x.0) js ≡ Some x.1) × AllSee binds js xs

pub see_then : (binds : Binds) (js : List ℕ) (xs ys : MatchBinds) → AllSee binds js (xs ++ ys) → AllSee binds js xs × AllSee binds js ys
see_then binds js [] ys h = (tt, h)
see_then binds js (x ∷ xs) ys h = let p = see_then binds js xs ys h.1 in ((h.0, p.0), p.1)

seam : (xs : List PlainBind) (y : PlainBind) (later : List PlainBind) → slice_get ((xs ++ y ∷ []) ++ later) (length xs) ≡ Some y
seam [] y later = refl
seam (x ∷ xs) y later = seam xs y later

through_end : (o : Option PlainBind) → through o [] ≡ o
through_end None = refl
through_end (Some b) = refl

abbrev pub RowsSee : Binds → List ℕ → ℕ → List MatchBinds → Type 0
RowsSee binds js i [] = Unit {0}
RowsSee binds js i (row ∷ rows) = AllSee binds (js ++ i ∷ []) row × RowsSee binds js (i + 1) rows

module _ (binds : Binds) (js : List ℕ) where
  -- one more turn, from a column to the bind that is in it
  turn_seen : (i : ℕ) (l : Label) (xs bs later : List PlainBind) (b : PlainBind) → length xs ≡ i → bs ≡ (xs ++ b ∷ []) ++ later → through (looked_up binds l) js ≡ Some (many (bind.turns bs))
      → through (looked_up binds l) (js ++ i ∷ []) ≡ Some b
  turn_seen i l xs bs later b long is seen =
      through-append (looked_up binds l) js (i ∷ []) ∙ ap (λ o. through o (i ∷ [])) seen ∙ through_end (turn_of (many (bind.turns bs)) i)
      ∙ turn_of_many bs i ∙ ap (slice_get bs) (sym long) ∙ ap (λ ys. slice_get ys (length xs)) is ∙ seam xs b later

  row_seen : (i : ℕ) (cols : List Column) (row : MatchBinds) {ds : List Column} → labels row ≡ column_labels cols → AllLong i cols → Grows (zipped cols row) ds → AllSee binds js (closed ds) → AllSee binds (js ++ i ∷ []) row
  row_seen i [] [] h k g s = tt
  row_seen i [] (b ∷ row) h k g s = absurd (some_none b.0 (labels row) h)
  row_seen i (c ∷ cols) [] h k g s = absurd (none_some c.label (column_labels cols) h)
  row_seen i (c ∷ cols) (b ∷ row) h k (one_column {d = d} later l e g) s =
      let same : d.label ≡ b.0 = l ∙ sym (heads_same b.0 c.label (labels row) (column_labels cols) h) in
      let there : through (looked_up binds b.0) js ≡ Some (many (bind.turns d.binds)) = ap (λ m. through (looked_up binds m) js) (sym same) ∙ s.0 in (
        turn_seen i b.0 c.binds d.binds later b.1 k.0 e there,
        row_seen i cols row (tails_same b.0 c.label (labels row) (column_labels cols) h) k.1 g s.1,
      )

  pub rows_seen : (i : ℕ) (cols : List Column) (rows : List MatchBinds) → RowsFit (column_labels cols) rows → AllLong i cols → AllSee binds js (closed (stacked cols rows)) → RowsSee binds js i rows
  rows_seen i cols [] h k s = tt
  rows_seen i cols (row ∷ rows) h k s =
      let cs = zipped cols row in
      let fit = zipped_fit cols row rows h in
      let seen = subst (λ ds. AllSee binds js (closed (stacked ds rows))) (grown-zipped [] cols row) s in
      (row_seen i cols row h.0 k (stacked_grows cs rows fit) seen, rows_seen (i + 1) cs rows fit (zipped_long i cols row k) seen)

-- each of these variables has so many turns next
pub record Counts (binds : Binds) (js : List ℕ) (n : ℕ) (l : Label) : Type 0 where
  pub turns : List PlainBind
  pub bound : through (looked_up binds l) js ≡ Some (many (bind.turns turns))
  pub long : length (listed (bind.turns turns)) ≡ n

abbrev pub AllCount : Binds → List ℕ → ℕ → List Label → Type 0
AllCount binds js n [] = Unit {0}
AllCount binds js n (l ∷ ls) = Counts binds js n l × AllCount binds js n ls

pub count_then : (binds : Binds) (js : List ℕ) (n : ℕ) (xs ys : List Label) → AllCount binds js n (xs ++ ys) → AllCount binds js n xs × AllCount binds js n ys
count_then binds js n [] ys h = (tt, h)
count_then binds js n (x ∷ xs) ys h = let p = count_then binds js n xs ys h.1 in ((h.0, p.0), p.1)

pub all_count : (binds : Binds) (js : List ℕ) (n : ℕ) (cols : List Column) → AllLong n cols → AllSee binds js (closed cols) → AllCount binds js n (column_labels cols)
all_count binds js n [] h s = tt
all_count binds js n (c ∷ cols) h s = (record { turns = c.binds; bound = s.0; long = ap length (listed_turns c.binds) ∙ h.0 }, all_count binds js n cols h.1 s.1)
