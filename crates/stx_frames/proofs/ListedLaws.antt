-- The rows of a library are ordered, and complete.
use Rattle.std.specs.Prelude.{◌≡◌, ◌≢◌, ℕ, ◌+◌, ◌<◌, ◌≤◌, Bool, true, false, cond, nat_eq, List, [], ◌∷◌, ◌++◌, filter, refl}
use Rattle.std.proofs.Common.{sym, ◌∙◌, ap, subst, arith, true≢false, append-nil}
use Rattle.std.specs.BTreeMap.{insert_entry}
use Rattle.std.specs.Cmp.{ranked, unsigned_Decides}
use Rattle.std.specs.Ordering.{nat_cmp, MatchOrdering, match_ordering}
use Rattle.std.specs.declared.cmp.Ordering.{Ordering}
use Rattle.std.specs.declared.cmp.Ordering.TheVariants.{Less, Equal, Greater}
use Rattle.base_data.specs.Same.{same_library, same_library_decides}
use Rattle.base_data.specs.declared.library.LibName.{LibName}
use Rattle.base_data.specs.declared.name.FrameNo.{FrameNo}
use Rattle.stx_tree.specs.declared.frame_row.FrameRow.{FrameRow}
use Rattle.stx_frames.specs.Listed.{rows_from, placed, joined, rows_in, AreOrdered}
use Rattle.stx_frames.specs.Rows.{Row}
use Rattle.stx_frames.specs.Scope.{Scope, same_frame, rows_at}
use Rattle.stx_frames.proofs.FrameLaws.{same_frame-differs}
use Rattle.stx_frames.proofs.ScopeLemmas.{same_frame-self}

abbrev frame_at : LibName → ℕ → FrameNo
frame_at l k = record { 0 = record { library = l; number = k } }

abbrev of_frame : FrameNo → FrameRow → Bool
of_frame f r = same_frame f r.frame

-- all rows are of one frame
abbrev AllOf : FrameNo → List FrameRow → Type 0
AllOf f [] = Unit {0}
AllOf f (r ∷ rs) = (r.frame ≡ f) × AllOf f rs

-- the places rise from n, and each has rows of its own frame
abbrev ArePlaces : LibName → ℕ → List (ℕ × List FrameRow) → Type 0
ArePlaces l n [] = Unit {0}
ArePlaces l n (p ∷ ps) = (n ≤ p.0) × AllOf (frame_at l p.0) p.1 × ArePlaces l (p.0 + 1) ps

abbrev rows_of_place : ℕ → List (ℕ × List FrameRow) → List FrameRow
rows_of_place k [] = []
rows_of_place k (p ∷ ps) = cond (nat_eq k p.0) p.1 (rows_of_place k ps)

same_number : (k n : ℕ) → k ≡ n → nat_eq k n ≡ true
same_number k n e = (unsigned_Decides k n).1 e

other_number : (k n : ℕ) → (k ≡ n → ⊥) → nat_eq k n ≡ false
other_number k n d = by (nat_eq k n) refl
  where
    by : (b : Bool) → nat_eq k n ≡ b → b ≡ false
    by true h = absurd (d ((unsigned_Decides k n).0 h))
    by false h = refl

AllOf-rows_from : (f : FrameNo) (rs : List Row) → AllOf f (rows_from f rs)
AllOf-rows_from f [] = tt
AllOf-rows_from f (r ∷ rs) = (refl, AllOf-rows_from f rs)

ArePlaces-put : (l : LibName) (n : ℕ) (ps : List (ℕ × List FrameRow)) (k : ℕ) (rows : List FrameRow) → ArePlaces l n ps → n ≤ k → AllOf (frame_at l k) rows → ArePlaces l n (insert_entry nat_cmp ps k rows)
ArePlaces-put l n [] k rows a h r = (h, r, tt)
ArePlaces-put l n (p ∷ ps) k rows a h r = by (nat_cmp k p.0) (ranked k p.0 (nat_cmp k p.0) refl) (ArePlaces-put l (p.0 + 1) ps k rows a.2)
  where
    by : (o : Ordering) → MatchOrdering o (k < p.0) (k ≡ p.0) (p.0 < k) → (p.0 + 1 ≤ k → AllOf (frame_at l k) rows → ArePlaces l (p.0 + 1) (insert_entry nat_cmp ps k rows))
        → ArePlaces l n (match_ordering o ((k, rows) ∷ p ∷ ps) ((p.0, rows) ∷ ps) (p ∷ insert_entry nat_cmp ps k rows))
    by Less m f = (h, r, (omega arith, a.1, a.2))
    by Equal m f = (a.0, subst (λ j. AllOf (frame_at l j) rows) m r, a.2)
    by Greater m f = (a.0, a.1, f (omega arith) r)

rows_of_place-put : (k : ℕ) (ps : List (ℕ × List FrameRow)) (j : ℕ) (rows : List FrameRow) → rows_of_place k (insert_entry nat_cmp ps j rows) ≡ cond (nat_eq k j) rows (rows_of_place k ps)
rows_of_place-put k [] j rows = refl
rows_of_place-put k (p ∷ ps) j rows = by (nat_cmp j p.0) (ranked j p.0 (nat_cmp j p.0) refl) (rows_of_place-put k ps j rows)
  where
    rest : List FrameRow
    rest = rows_of_place k ps

    equal : j ≡ p.0 → (b : Bool) → nat_eq k p.0 ≡ b → cond (nat_eq k p.0) rows rest ≡ cond (nat_eq k j) rows (cond (nat_eq k p.0) p.1 rest)
    equal e true h = ap (λ b. cond b rows rest) h ∙ sym (ap (λ i. cond (nat_eq k i) rows (cond (nat_eq k p.0) p.1 rest)) e ∙ ap (λ b. cond b rows (cond (nat_eq k p.0) p.1 rest)) h)
    equal e false h = ap (λ b. cond b rows rest) h
        ∙ sym (ap (λ i. cond (nat_eq k i) rows (cond (nat_eq k p.0) p.1 rest)) e ∙ ap (λ b. cond b rows (cond (nat_eq k p.0) p.1 rest)) h ∙ ap (λ b. cond b p.1 rest) h)

    apart : p.0 < j → (b : Bool) → nat_eq k p.0 ≡ b → cond (nat_eq k p.0) p.1 (cond (nat_eq k j) rows rest) ≡ cond (nat_eq k j) rows (cond (nat_eq k p.0) p.1 rest)
    apart less true h =
        let here : k ≡ p.0 = (unsigned_Decides k p.0).0 h in
        let no : nat_eq k j ≡ false = other_number k j (λ e. omega (arith, less, here, e)) in
        ap (λ b. cond b p.1 (cond (nat_eq k j) rows rest)) h ∙ sym (ap (λ b. cond b rows (cond (nat_eq k p.0) p.1 rest)) no ∙ ap (λ b. cond b p.1 rest) h)
    apart less false h = ap (λ b. cond b p.1 (cond (nat_eq k j) rows rest)) h ∙ sym (ap (λ b. cond (nat_eq k j) rows (cond b p.1 rest)) h)

    by : (o : Ordering) → MatchOrdering o (j < p.0) (j ≡ p.0) (p.0 < j) → rows_of_place k (insert_entry nat_cmp ps j rows) ≡ cond (nat_eq k j) rows rest
        → rows_of_place k (match_ordering o ((j, rows) ∷ p ∷ ps) ((p.0, rows) ∷ ps) (p ∷ insert_entry nat_cmp ps j rows)) ≡ cond (nat_eq k j) rows (cond (nat_eq k p.0) p.1 rest)
    by Less m h = refl
    by Equal m h = equal m (nat_eq k p.0) refl
    by Greater m h = ap (cond (nat_eq k p.0) p.1) h ∙ apart m (nat_eq k p.0) refl

pub placed_ArePlaces : (l : LibName) (fs : Scope) → ArePlaces l 0 (placed l fs)
placed_ArePlaces l [] = tt
placed_ArePlaces l (e ∷ es) = by (same_library e.0.0.library l) refl (placed_ArePlaces l es)
  where
    by : (b : Bool) → same_library e.0.0.library l ≡ b → ArePlaces l 0 (placed l es) → ArePlaces l 0 (cond b (insert_entry nat_cmp (placed l es) e.0.0.number (rows_from e.0 e.1)) (placed l es))
    by true h a =
        let own : e.0 ≡ frame_at l e.0.0.number = ap (λ x. frame_at x e.0.0.number) ((same_library_decides e.0.0.library l).0 h) in
        ArePlaces-put l 0 (placed l es) e.0.0.number (rows_from e.0 e.1) a (omega arith) (subst (λ f. AllOf f (rows_from e.0 e.1)) own (AllOf-rows_from e.0 e.1))
    by false h a = a

-- the rows of a library's frame stand at its number
rows_of_place-placed : (f : FrameNo) (fs : Scope) → rows_of_place f.0.number (placed f.0.library fs) ≡ rows_from f (rows_at f fs)
rows_of_place-placed f [] = refl
rows_of_place-placed f (e ∷ es) = by (same_library e.0.0.library f.0.library) refl (rows_of_place-placed f es)
  where
    l : LibName
    l = f.0.library

    k : ℕ
    k = f.0.number

    inside : e.0.0.library ≡ l → (b : Bool) → nat_eq k e.0.0.number ≡ b → rows_of_place k (placed l es) ≡ rows_from f (rows_at f es)
        → cond (nat_eq k e.0.0.number) (rows_from e.0 e.1) (rows_of_place k (placed l es)) ≡ rows_from f (cond (same_frame f e.0) e.1 (rows_at f es))
    inside own true h r =
        let number : k ≡ e.0.0.number = (unsigned_Decides k e.0.0.number).0 h in
        let is : f ≡ e.0 = λ i. record { 0 = record { library = (sym own) i; number = number i } } in
        ap (λ b. cond b (rows_from e.0 e.1) (rows_of_place k (placed l es))) h
        ∙ sym (ap (λ b. rows_from f (cond b e.1 (rows_at f es))) (ap (same_frame f) (sym is) ∙ same_frame-self f) ∙ ap (λ g. rows_from g e.1) is)
    inside own false h r =
        let no : same_frame f e.0 ≡ false = same_frame-differs f e.0 (λ x. true≢false (sym (same_number k e.0.0.number (ap (λ (g : FrameNo). g.0.number) x)) ∙ h)) in
        ap (λ b. cond b (rows_from e.0 e.1) (rows_of_place k (placed l es))) h ∙ r ∙ sym (ap (λ b. rows_from f (cond b e.1 (rows_at f es))) no)

    by : (b : Bool) → same_library e.0.0.library l ≡ b → rows_of_place k (placed l es) ≡ rows_from f (rows_at f es)
        → rows_of_place k (cond b (insert_entry nat_cmp (placed l es) e.0.0.number (rows_from e.0 e.1)) (placed l es)) ≡ rows_from f (cond (same_frame f e.0) e.1 (rows_at f es))
    by true h r = rows_of_place-put k (placed l es) e.0.0.number (rows_from e.0 e.1) ∙ inside ((same_library_decides e.0.0.library l).0 h) (nat_eq k e.0.0.number) refl r
    by false h r =
        let no : same_frame f e.0 ≡ false = same_frame-differs f e.0 (λ x. true≢false (sym ((same_library_decides e.0.0.library l).1 (sym (ap (λ (g : FrameNo). g.0.library) x))) ∙ h)) in
        r ∙ sym (ap (λ b. rows_from f (cond b e.1 (rows_at f es))) no)

filter-append : (f : FrameNo) (xs ys : List FrameRow) → filter (of_frame f) (xs ++ ys) ≡ filter (of_frame f) xs ++ filter (of_frame f) ys
filter-append f [] ys = refl
filter-append f (x ∷ xs) ys = by (of_frame f x) (filter-append f xs ys)
  where
    by : (b : Bool) → filter (of_frame f) (xs ++ ys) ≡ filter (of_frame f) xs ++ filter (of_frame f) ys
        → cond b (x ∷ filter (of_frame f) (xs ++ ys)) (filter (of_frame f) (xs ++ ys)) ≡ cond b (x ∷ filter (of_frame f) xs) (filter (of_frame f) xs) ++ filter (of_frame f) ys
    by true h = ap (λ zs. x ∷ zs) h
    by false h = h

filter-own : (f : FrameNo) (xs : List FrameRow) → AllOf f xs → filter (of_frame f) xs ≡ xs
filter-own f [] a = refl
filter-own f (x ∷ xs) a = ap (λ b. cond b (x ∷ filter (of_frame f) xs) (filter (of_frame f) xs)) (ap (same_frame f) a.0 ∙ same_frame-self f) ∙ ap (λ zs. x ∷ zs) (filter-own f xs a.1)

filter-others : (f g : FrameNo) (xs : List FrameRow) → f ≢ g → AllOf g xs → filter (of_frame f) xs ≡ []
filter-others f g [] d a = refl
filter-others f g (x ∷ xs) d a = ap (λ b. cond b (x ∷ filter (of_frame f) xs) (filter (of_frame f) xs)) (ap (same_frame f) a.0 ∙ same_frame-differs f g d) ∙ filter-others f g xs d a.1

-- places above a number have no rows of its frame
filter-above : (l : LibName) (k n : ℕ) (ps : List (ℕ × List FrameRow)) → k < n → ArePlaces l n ps → filter (of_frame (frame_at l k)) (joined ps) ≡ []
filter-above l k n [] h a = refl
filter-above l k n (p ∷ ps) h a =
    let apart : frame_at l k ≢ frame_at l p.0 = λ e. omega (arith, h, a.0, ap (λ (g : FrameNo). g.0.number) e) in
    filter-append (frame_at l k) p.1 (joined ps)
    ∙ (λ i. filter-others (frame_at l k) (frame_at l p.0) p.1 apart a.1 i ++ filter-above l k (p.0 + 1) ps (omega (arith, h, a.0)) a.2 i)

filter-joined : (l : LibName) (k n : ℕ) (ps : List (ℕ × List FrameRow)) → ArePlaces l n ps → filter (of_frame (frame_at l k)) (joined ps) ≡ rows_of_place k ps
filter-joined l k n [] a = refl
filter-joined l k n (p ∷ ps) a = filter-append (frame_at l k) p.1 (joined ps) ∙ by (nat_eq k p.0) refl (filter-joined l k (p.0 + 1) ps a.2)
  where
    by : (b : Bool) → nat_eq k p.0 ≡ b → filter (of_frame (frame_at l k)) (joined ps) ≡ rows_of_place k ps
        → filter (of_frame (frame_at l k)) p.1 ++ filter (of_frame (frame_at l k)) (joined ps) ≡ cond (nat_eq k p.0) p.1 (rows_of_place k ps)
    by true h r =
        let here : k ≡ p.0 = (unsigned_Decides k p.0).0 h in
        (λ i. filter-own (frame_at l k) p.1 (subst (λ j. AllOf (frame_at l j) p.1) (sym here) a.1) i ++ filter-above l k (p.0 + 1) ps (omega (arith, here)) a.2 i)
        ∙ append-nil p.1 ∙ sym (ap (λ b. cond b p.1 (rows_of_place k ps)) h)
    by false h r =
        let apart : frame_at l k ≢ frame_at l p.0 = λ e. true≢false (sym (same_number k p.0 (ap (λ (g : FrameNo). g.0.number) e)) ∙ h) in
        (λ i. filter-others (frame_at l k) (frame_at l p.0) p.1 apart a.1 i ++ r i) ∙ sym (ap (λ b. cond b p.1 (rows_of_place k ps)) h)

pub filter-rows_in : (fs : Scope) (f : FrameNo) → filter (λ r. same_frame f r.frame) (rows_in f.0.library fs) ≡ rows_from f (rows_at f fs)
filter-rows_in fs f = filter-joined f.0.library f.0.number 0 (placed f.0.library fs) (placed_ArePlaces f.0.library fs) ∙ rows_of_place-placed f fs

ordered_lower : (l : LibName) (m n : ℕ) (rs : List FrameRow) → m ≤ n → AreOrdered l n rs → AreOrdered l m rs
ordered_lower l m n [] h a = tt
ordered_lower l m n (r ∷ rs) h a = (a.0, omega (arith, h, a.1), a.2)

ordered_append : (l : LibName) (n k : ℕ) (xs ys : List FrameRow) → n ≤ k → AllOf (frame_at l k) xs → AreOrdered l k ys → AreOrdered l n (xs ++ ys)
ordered_append l n k [] ys h a o = ordered_lower l n k ys h o
ordered_append l n k (x ∷ xs) ys h a o =
    let number : x.frame.0.number ≡ k = ap (λ (g : FrameNo). g.0.number) a.0 in
    (ap (λ (g : FrameNo). g.0.library) a.0, omega (arith, h, number), ordered_append l x.frame.0.number k xs ys (omega (arith, number)) a.1 o)

ordered_joined : (l : LibName) (n : ℕ) (ps : List (ℕ × List FrameRow)) → ArePlaces l n ps → AreOrdered l n (joined ps)
ordered_joined l n [] a = tt
ordered_joined l n (p ∷ ps) a = ordered_append l n p.0 p.1 (joined ps) a.0 a.1 (ordered_lower l p.0 (p.0 + 1) (joined ps) (omega arith) (ordered_joined l (p.0 + 1) ps a.2))

pub ordered_rows_in : (l : LibName) (fs : Scope) → AreOrdered l 0 (rows_in l fs)
ordered_rows_in l fs = ordered_joined l 0 (placed l fs) (placed_ArePlaces l fs)
