-- The frames of complete libraries before those that grow.
use Rattle.std.specs.Prelude.{◌≡◌, Bool, true, false, cond, ◌&&◌, List, [], ◌∷◌, ◌++◌, Option, None, Some, is_some, Result, Ok, Err, OnOk, OnErr, refl}
use Rattle.std.proofs.Common.{sym, ◌∙◌, ap, subst, true≢false, append-nil, append_assoc}
use Rattle.std.specs.Map.{lookup}
use Rattle.base_data.specs.Gives.{BareGives}
use Rattle.base_data.specs.Same.{same_library, same_library_decides, same_name_cases}
use Rattle.base_data.specs.declared.fault.Bare.{Bare}
use Rattle.base_data.specs.declared.fault.BareStop.{BareStop}
use Rattle.base_data.specs.declared.fault.BareStop.TheVariants as bare_stop
use Rattle.base_data.specs.declared.library.LibName.{LibName}
use Rattle.base_data.specs.declared.name.FrameNo.{FrameNo}
use Rattle.stx_tree.specs.declared.frame_row.FrameRow.{FrameRow}
use Rattle.stx_frames.specs.Rows.{Row, label_in, second_binder}
use Rattle.stx_frames.specs.Scope.{Scope, same_frame, has_frame, rows_at, label_at, with_row, bound, row_in, adopted, are_new}
use Rattle.stx_frames.specs.Listed.{placed, put_place, rows_in, joined}
use Rattle.stx_frames.specs.Given.{are_apart, are_rows_of, AreOf, AreElsewhere, Parts, flat, has_part, part_of, are_own, ArePlaced}

-- ---- libraries

same_library_flip : (a b : LibName) → same_library a b ≡ true → same_library b a ≡ true
same_library_flip a b h = (same_library_decides b a).1 (sym ((same_library_decides a b).0 h))

pub other_library : (a b : LibName) → same_library a b ≡ false → same_library b a ≡ false
other_library a b h = by (same_library b a) refl
  where
    by : (c : Bool) → same_library b a ≡ c → same_library b a ≡ false
    by true e = absurd (true≢false (sym (same_library_flip b a e) ∙ h))
    by false e = e

frame_library : (f g : FrameNo) → same_frame f g ≡ true → f.0.library ≡ g.0.library
frame_library f g h = ap (λ n. n.library) ((same_name_cases f.0 g.0).0 h)

-- ---- frames that aren't in a list of frames

frame_elsewhere : (l : LibName) (f g : FrameNo) → same_library g.0.library l ≡ false → same_library f.0.library l ≡ true → same_frame f g ≡ false
frame_elsewhere l f g h k = by (same_frame f g) refl
  where
    by : (c : Bool) → same_frame f g ≡ c → same_frame f g ≡ false
    by true e = absurd (true≢false (sym k ∙ ap (λ x. same_library x l) (frame_library f g e) ∙ h))
    by false e = e

pub absent-elsewhere : (l : LibName) (f : FrameNo) (fs : Scope) → AreElsewhere l fs → same_library f.0.library l ≡ true → has_frame f fs ≡ false
absent-elsewhere l f [] h k = refl
absent-elsewhere l f (e ∷ es) h k = ap (λ b. cond b true (has_frame f es)) (frame_elsewhere l f e.0 h.0 k) ∙ absent-elsewhere l f es h.1 k

frame_of : (l : LibName) (f g : FrameNo) → same_library g.0.library l ≡ true → same_library f.0.library l ≡ false → same_frame f g ≡ false
frame_of l f g h k = by (same_frame f g) refl
  where
    by : (c : Bool) → same_frame f g ≡ c → same_frame f g ≡ false
    by true e = absurd (true≢false (sym h ∙ ap (λ x. same_library x l) (sym (frame_library f g e)) ∙ k))
    by false e = e

pub absent-of : (l : LibName) (f : FrameNo) (fs : Scope) → AreOf l fs → same_library f.0.library l ≡ false → has_frame f fs ≡ false
absent-of l f [] h k = refl
absent-of l f (e ∷ es) h k = ap (λ b. cond b true (has_frame f es)) (frame_of l f e.0 h.0 k) ∙ absent-of l f es h.1 k

-- ---- one list of frames before another

pub has_frame-before : (f : FrameNo) (xs ys : Scope) → has_frame f xs ≡ false → has_frame f (xs ++ ys) ≡ has_frame f ys
has_frame-before f [] ys h = refl
has_frame-before f (e ∷ es) ys h = by (same_frame f e.0) h (has_frame-before f es ys)
  where
    by : (b : Bool) → cond b true (has_frame f es) ≡ false → (has_frame f es ≡ false → has_frame f (es ++ ys) ≡ has_frame f ys) → cond b true (has_frame f (es ++ ys)) ≡ has_frame f ys
    by true k i = absurd (true≢false k)
    by false k i = i k

pub has_frame-behind : (f : FrameNo) (xs ys : Scope) → has_frame f ys ≡ false → has_frame f (xs ++ ys) ≡ has_frame f xs
has_frame-behind f [] ys h = h
has_frame-behind f (e ∷ es) ys h = ap (cond (same_frame f e.0) true) (has_frame-behind f es ys h)

pub has_frame-right : (f : FrameNo) (xs ys : Scope) → has_frame f (xs ++ ys) ≡ false → has_frame f ys ≡ false
has_frame-right f [] ys h = h
has_frame-right f (e ∷ es) ys h = by (same_frame f e.0) h (has_frame-right f es ys)
  where
    by : (b : Bool) → cond b true (has_frame f (es ++ ys)) ≡ false → (has_frame f (es ++ ys) ≡ false → has_frame f ys ≡ false) → has_frame f ys ≡ false
    by true k i = absurd (true≢false k)
    by false k i = i k

pub rows_at-absent : (f : FrameNo) (fs : Scope) → has_frame f fs ≡ false → rows_at f fs ≡ []
rows_at-absent f [] h = refl
rows_at-absent f (e ∷ es) h = by (same_frame f e.0) h (rows_at-absent f es)
  where
    by : (b : Bool) → cond b true (has_frame f es) ≡ false → (has_frame f es ≡ false → rows_at f es ≡ []) → cond b e.1 (rows_at f es) ≡ []
    by true k i = absurd (true≢false k)
    by false k i = i k

pub rows_at-before : (f : FrameNo) (xs ys : Scope) → has_frame f xs ≡ false → rows_at f (xs ++ ys) ≡ rows_at f ys
rows_at-before f [] ys h = refl
rows_at-before f (e ∷ es) ys h = by (same_frame f e.0) h (rows_at-before f es ys)
  where
    by : (b : Bool) → cond b true (has_frame f es) ≡ false → (has_frame f es ≡ false → rows_at f (es ++ ys) ≡ rows_at f ys) → cond b e.1 (rows_at f (es ++ ys)) ≡ rows_at f ys
    by true k i = absurd (true≢false k)
    by false k i = i k

pub rows_at-behind : (f : FrameNo) (xs ys : Scope) → has_frame f ys ≡ false → rows_at f (xs ++ ys) ≡ rows_at f xs
rows_at-behind f [] ys h = rows_at-absent f ys h
rows_at-behind f (e ∷ es) ys h = ap (cond (same_frame f e.0) e.1) (rows_at-behind f es ys h)

pub with_row-before : (f : FrameNo) (r : Row) (xs ys : Scope) → has_frame f xs ≡ false → with_row (xs ++ ys) f r ≡ xs ++ with_row ys f r
with_row-before f r [] ys h = refl
with_row-before f r (e ∷ es) ys h = by (same_frame f e.0) h (with_row-before f r es ys)
  where
    by : (b : Bool) → cond b true (has_frame f es) ≡ false → (has_frame f es ≡ false → with_row (es ++ ys) f r ≡ es ++ with_row ys f r)
        → cond b ((e.0, e.1 ++ r ∷ []) ∷ es ++ ys) (e ∷ with_row (es ++ ys) f r) ≡ e ∷ (es ++ with_row ys f r)
    by true k i = absurd (true≢false k)
    by false k i = ap (λ xs. e ∷ xs) (i k)

-- ---- the parts of libraries

abbrev pub is_key : LibName → LibName → Bool
is_key l k = same_library l k

abbrev pub or_own : Scope → Option Scope → Scope
or_own own None = own
or_own own (Some p) = p

is_some-cond : (b : Bool) (p : Scope) (o : Option Scope) → cond b true (is_some o) ≡ is_some (cond b (Some p) o)
is_some-cond true p o = refl
is_some-cond false p o = refl

or_own-cond : (own : Scope) (b : Bool) (p : Scope) (o : Option Scope) → cond b p (or_own own o) ≡ or_own own (cond b (Some p) o)
or_own-cond own true p o = refl
or_own-cond own false p o = refl

pub has_part-lookup : (l : LibName) (ps : Parts) → has_part l ps ≡ is_some (lookup (is_key l) ps)
has_part-lookup l [] = refl
has_part-lookup l (p ∷ ps) = ap (cond (is_key l p.0) true) (has_part-lookup l ps) ∙ is_some-cond (is_key l p.0) p.1 (lookup (is_key l) ps)

pub part_of-lookup : (ps : Parts) (own : Scope) (l : LibName) → part_of ps own l ≡ or_own own (lookup (is_key l) ps)
part_of-lookup [] own l = refl
part_of-lookup (p ∷ ps) own l = ap (cond (is_key l p.0) p.1) (part_of-lookup ps own l) ∙ or_own-cond own (is_key l p.0) p.1 (lookup (is_key l) ps)

pub no_part : (l : LibName) (ps : Parts) → has_part l ps ≡ false → lookup (is_key l) ps ≡ None
no_part l ps h = by (lookup (is_key l) ps) (sym (has_part-lookup l ps) ∙ h)
  where
    by : (o : Option Scope) → is_some o ≡ false → o ≡ None
    by None e = refl
    by (Some x) e = absurd (true≢false e)

-- a library without a part is none of the parts'
pub not_first : (l : LibName) (p : LibName × Scope) (ps : Parts) → has_part l (p ∷ ps) ≡ false → (same_library l p.0 ≡ false) × (has_part l ps ≡ false)
not_first l p ps h = by (same_library l p.0) h
  where
    by : (b : Bool) → cond b true (has_part l ps) ≡ false → (b ≡ false) × (has_part l ps ≡ false)
    by true k = absurd (true≢false k)
    by false k = (refl, k)

pub absent-flat : (f : FrameNo) (ps : Parts) (own : Scope) → ArePlaced ps own → has_part f.0.library ps ≡ false → has_frame f (flat ps) ≡ false
absent-flat f [] own h k = refl
absent-flat f (p ∷ ps) own h k =
    let d = not_first f.0.library p ps k in
    has_frame-before f p.1 (flat ps) (absent-of p.0 f p.1 h.0 d.0) ∙ absent-flat f ps own h.2 d.1

pub rows_at-part : (f : FrameNo) (ps : Parts) (own : Scope) → ArePlaced ps own → rows_at f (flat ps ++ own) ≡ rows_at f (part_of ps own f.0.library)
rows_at-part f [] own h = refl
rows_at-part f (p ∷ ps) own h = ap (rows_at f) (append_assoc p.1 (flat ps) own) ∙ by (same_library f.0.library p.0) refl (rows_at-part f ps own h.2)
  where
    by : (b : Bool) → same_library f.0.library p.0 ≡ b → rows_at f (flat ps ++ own) ≡ rows_at f (part_of ps own f.0.library)
        → rows_at f (p.1 ++ (flat ps ++ own)) ≡ rows_at f (cond b p.1 (part_of ps own f.0.library))
    by true e i = rows_at-behind f p.1 (flat ps ++ own) (absent-elsewhere p.0 f (flat ps ++ own) h.1 e)
    by false e i = rows_at-before f p.1 (flat ps ++ own) (absent-of p.0 f p.1 h.0 e) ∙ i

pub has_frame-part : (f : FrameNo) (ps : Parts) (own : Scope) → ArePlaced ps own → has_frame f (flat ps ++ own) ≡ has_frame f (part_of ps own f.0.library)
has_frame-part f [] own h = refl
has_frame-part f (p ∷ ps) own h = ap (has_frame f) (append_assoc p.1 (flat ps) own) ∙ by (same_library f.0.library p.0) refl (has_frame-part f ps own h.2)
  where
    by : (b : Bool) → same_library f.0.library p.0 ≡ b → has_frame f (flat ps ++ own) ≡ has_frame f (part_of ps own f.0.library)
        → has_frame f (p.1 ++ (flat ps ++ own)) ≡ has_frame f (cond b p.1 (part_of ps own f.0.library))
    by true e i = has_frame-behind f p.1 (flat ps ++ own) (absent-elsewhere p.0 f (flat ps ++ own) h.1 e)
    by false e i = has_frame-before f p.1 (flat ps ++ own) (absent-of p.0 f p.1 h.0 e) ∙ i

-- ---- frames that grow, behind the parts

pub elsewhere-append : (l : LibName) (xs ys : Scope) → AreElsewhere l xs → AreElsewhere l ys → AreElsewhere l (xs ++ ys)
elsewhere-append l [] ys h k = k
elsewhere-append l (e ∷ es) ys h k = (h.0, elsewhere-append l es ys h.1 k)

elsewhere-parts : (l : LibName) (xs ys : Scope) → AreElsewhere l (xs ++ ys) → AreElsewhere l xs × AreElsewhere l ys
elsewhere-parts l [] ys h = (tt, h)
elsewhere-parts l (e ∷ es) ys h = let p = elsewhere-parts l es ys h.1 in ((h.0, p.0), p.1)

elsewhere-row : (l : LibName) (fs : Scope) (f : FrameNo) (r : Row) → AreElsewhere l fs → same_library f.0.library l ≡ false → AreElsewhere l (with_row fs f r)
elsewhere-row l [] f r h k = (k, tt)
elsewhere-row l (e ∷ es) f r h k = by (same_frame f e.0) (elsewhere-row l es f r h.1 k)
  where
    by : (b : Bool) → AreElsewhere l (with_row es f r) → AreElsewhere l (cond b ((e.0, e.1 ++ r ∷ []) ∷ es) (e ∷ with_row es f r))
    by true i = h
    by false i = (h.0, i)

pub placed-row : (ps : Parts) (own : Scope) (f : FrameNo) (r : Row) → ArePlaced ps own → has_part f.0.library ps ≡ false → ArePlaced ps (with_row own f r)
placed-row [] own f r h k = tt
placed-row (p ∷ ps) own f r h k =
    let d = not_first f.0.library p ps k in
    let e = elsewhere-parts p.0 (flat ps) own h.1 in
    (h.0, elsewhere-append p.0 (flat ps) (with_row own f r) e.0 (elsewhere-row p.0 own f r e.1 d.0), placed-row ps own f r h.2 d.1)

pub placed-frame : (ps : Parts) (own : Scope) (f : FrameNo) (rs : List Row) → ArePlaced ps own → has_part f.0.library ps ≡ false → ArePlaced ps (own ++ (f, rs) ∷ [])
placed-frame [] own f rs h k = tt
placed-frame (p ∷ ps) own f rs h k =
    let d = not_first f.0.library p ps k in
    let e = elsewhere-parts p.0 (flat ps) own h.1 in
    (h.0, elsewhere-append p.0 (flat ps) (own ++ (f, rs) ∷ []) e.0 (elsewhere-append p.0 own ((f, rs) ∷ []) e.1 (d.0, tt)), placed-frame ps own f rs h.2 d.1)

-- after a call that bound a row, or changed nothing
pub placed_bound : {X : Type 0} (ps : Parts) (fs gs : Scope) (f : FrameNo) (row : Row) (r : Result X BareStop)
    → BareGives (λ _. gs) r (bound fs f row) → OnErr r (gs ≡ fs) → has_part f.0.library ps ≡ false → ArePlaced ps fs → ArePlaced ps gs
placed_bound ps fs gs f row (Ok x) g u k h = by (is_some (label_at fs f row.symbol row.marks)) g
  where
    by : (b : Bool) → cond {A = Result Scope Bare} b (Err (second_binder row.symbol)) (Ok (with_row fs f row)) ≡ Ok gs → ArePlaced ps gs
    by true e = absurd (cc)
    by false e = let is : with_row fs f row ≡ gs = cc in subst (λ (x : Scope). ArePlaced ps x) is (placed-row ps fs f row h k)
placed_bound ps fs gs f row (Err x) g u k h = subst (λ (y : Scope). ArePlaced ps y) (sym u) h

pub placed_after : {X E : Type 0} (ps : Parts) (fs gs hs : Scope) (r : Result X E) → OnOk r (gs ≡ hs) → OnErr r (gs ≡ fs) → ArePlaced ps hs → ArePlaced ps fs → ArePlaced ps gs
placed_after ps fs gs hs (Ok x) e u k h = subst (λ (y : Scope). ArePlaced ps y) (sym e) k
placed_after ps fs gs hs (Err x) e u k h = subst (λ (y : Scope). ArePlaced ps y) (sym u) h

-- what is bound behind other frames
pub bound_behind : {X : Type 0} (xs ys new : Scope) (f : FrameNo) (row : Row) (r : Result X BareStop)
    → has_frame f xs ≡ false → BareGives (λ _. new) r (bound ys f row) → BareGives (λ _. xs ++ new) r (bound (xs ++ ys) f row)
bound_behind {X = X} xs ys new f row r h g = by r g
  where
    taken : Bool
    taken = is_some (label_at ys f row.symbol row.marks)

    whole : bound (xs ++ ys) f row ≡ cond {A = Result Scope Bare} taken (Err (second_binder row.symbol)) (Ok (xs ++ with_row ys f row))
    whole = λ i. cond {A = Result Scope Bare} (is_some (label_in (rows_at-before f xs ys h i) row.symbol row.marks)) (Err (second_binder row.symbol)) (Ok (with_row-before f row xs ys h i))

    fine : (b : Bool) → cond {A = Result Scope Bare} b (Err (second_binder row.symbol)) (Ok (with_row ys f row)) ≡ Ok new → cond {A = Result Scope Bare} b (Err (second_binder row.symbol)) (Ok (xs ++ with_row ys f row)) ≡ Ok (xs ++ new)
    fine true e = absurd (cc)
    fine false e = let is : with_row ys f row ≡ new = cc in ap (λ (y : Scope). Ok (xs ++ y)) is

    fault : (x : Bare) (b : Bool) → cond {A = Result Scope Bare} b (Err (second_binder row.symbol)) (Ok (with_row ys f row)) ≡ Err x → cond {A = Result Scope Bare} b (Err (second_binder row.symbol)) (Ok (xs ++ with_row ys f row)) ≡ Err x
    fault x true e = let is : second_binder row.symbol ≡ x = cc in ap Err is
    fault x false e = absurd (cc)

    by : (r : Result X BareStop) → BareGives (λ _. new) r (bound ys f row) → BareGives (λ _. xs ++ new) r (bound (xs ++ ys) f row)
    by (Ok x) g = whole ∙ fine taken g
    by (Err (bare_stop.Fault x)) g = whole ∙ fault x taken g
    by (Err bare_stop.Memory) g = tt

-- ---- rows that are adopted behind the parts

own_first : (r : FrameRow) (rs : List FrameRow) (ps : Parts) → are_own (r ∷ rs) ps ≡ true → (has_part r.frame.0.library ps ≡ false) × (are_own rs ps ≡ true)
own_first r rs ps h = by (has_part r.frame.0.library ps) h
  where
    by : (b : Bool) → cond b false (are_own rs ps) ≡ true → (b ≡ false) × (are_own rs ps ≡ true)
    by true k = absurd (true≢false (sym k))
    by false k = (refl, k)

pub placed_adopted : (ps : Parts) (own : Scope) (rs : List FrameRow) → ArePlaced ps own → are_own rs ps ≡ true → ArePlaced ps (adopted own rs)
placed_adopted ps own [] h k = h
placed_adopted ps own (r ∷ rs) h k = let d = own_first r rs ps k in placed_adopted ps (with_row own r.frame (row_in r)) rs (placed-row ps own r.frame (row_in r) h d.0) d.1

pub adopted_behind : (ps : Parts) (own : Scope) (rs : List FrameRow) → ArePlaced ps own → are_own rs ps ≡ true → flat ps ++ adopted own rs ≡ adopted (flat ps ++ own) rs
adopted_behind ps own [] h k = refl
adopted_behind ps own (r ∷ rs) h k =
    let d = own_first r rs ps k in
    adopted_behind ps (with_row own r.frame (row_in r)) rs (placed-row ps own r.frame (row_in r) h d.0) d.1
    ∙ ap (λ (y : Scope). adopted y rs) (sym (with_row-before r.frame (row_in r) (flat ps) own (absent-flat r.frame ps own h d.0)))

pub are_new-right : (rs : List FrameRow) (xs ys : Scope) → are_new rs (xs ++ ys) ≡ true → are_new rs ys ≡ true
are_new-right [] xs ys h = refl
are_new-right (r ∷ rs) xs ys h = by (has_frame r.frame (xs ++ ys)) refl h (are_new-right rs xs ys)
  where
    by : (b : Bool) → has_frame r.frame (xs ++ ys) ≡ b → cond b false (are_new rs (xs ++ ys)) ≡ true → (are_new rs (xs ++ ys) ≡ true → are_new rs ys ≡ true) → cond (has_frame r.frame ys) false (are_new rs ys) ≡ true
    by true e k i = absurd (true≢false (sym k))
    by false e k i = ap (λ b. cond b false (are_new rs ys)) (has_frame-right r.frame xs ys e) ∙ i k

-- ---- a part more

pub elsewhere-of : (l m : LibName) (fs : Scope) → AreOf l fs → same_library l m ≡ false → AreElsewhere m fs
elsewhere-of l m [] h k = tt
elsewhere-of l m (e ∷ es) h k = (ap (λ x. same_library x m) ((same_library_decides e.0.0.library l).0 h.0) ∙ k, elsewhere-of l m es h.1 k)

pub flat-more : (ps : Parts) (p : LibName × Scope) → flat (ps ++ p ∷ []) ≡ flat ps ++ p.1
flat-more [] p = append-nil p.1
flat-more (q ∷ ps) p = ap (λ (y : Scope). q.1 ++ y) (flat-more ps p) ∙ sym (append_assoc q.1 (flat ps) p.1)

pub apart-of : (l : LibName) (gs : Scope) (ps : Parts) (own : Scope) → AreOf l gs → ArePlaced ps own → has_part l ps ≡ false → are_apart gs (flat ps) ≡ true
apart-of l [] ps own h k d = refl
apart-of l (e ∷ es) ps own h k d =
    let absent = absent-flat e.0 ps own k (ap (λ x. has_part x ps) ((same_library_decides e.0.0.library l).0 h.0) ∙ d) in
    ap (λ b. cond b false (are_apart es (flat ps))) absent ∙ apart-of l es ps own h.1 k d

-- ---- the rows of a library

placed-before : (l : LibName) (xs ys : Scope) → AreElsewhere l xs → placed l (xs ++ ys) ≡ placed l ys
placed-before l [] ys h = refl
placed-before l (e ∷ es) ys h = skip (same_library e.0.0.library l) h.0 ∙ placed-before l es ys h.1
  where
    skip : (b : Bool) → same_library e.0.0.library l ≡ false → put_place l e (placed l (es ++ ys)) ≡ placed l (es ++ ys)
    skip b k = rw k refl

placed-behind : (l : LibName) (xs ys : Scope) → AreElsewhere l ys → placed l (xs ++ ys) ≡ placed l xs
placed-behind l [] ys h = ap (placed l) (sym (append-nil ys)) ∙ placed-before l ys [] h
placed-behind l (e ∷ es) ys h = ap (put_place l e) (placed-behind l es ys h)

pub rows_in-part : (l : LibName) (ps : Parts) (own : Scope) → ArePlaced ps own → rows_in l (flat ps ++ own) ≡ rows_in l (part_of ps own l)
rows_in-part l [] own h = refl
rows_in-part l (p ∷ ps) own h = ap (rows_in l) (append_assoc p.1 (flat ps) own) ∙ by (same_library l p.0) refl (rows_in-part l ps own h.2)
  where
    by : (b : Bool) → same_library l p.0 ≡ b → rows_in l (flat ps ++ own) ≡ rows_in l (part_of ps own l) → rows_in l (p.1 ++ (flat ps ++ own)) ≡ rows_in l (cond b p.1 (part_of ps own l))
    by true e i = ap joined (placed-behind l p.1 (flat ps ++ own) (subst (λ x. AreElsewhere x (flat ps ++ own)) (sym ((same_library_decides l p.0).0 e)) h.1))
    by false e i = ap joined (placed-before l p.1 (flat ps ++ own) (elsewhere-of p.0 l p.1 h.0 (other_library l p.0 e))) ∙ i

-- ---- the frames that the rows of one library make

of_row : (l : LibName) (fs : Scope) (f : FrameNo) (r : Row) → AreOf l fs → same_library f.0.library l ≡ true → AreOf l (with_row fs f r)
of_row l [] f r h k = (k, tt)
of_row l (e ∷ es) f r h k = by (same_frame f e.0) (of_row l es f r h.1 k)
  where
    by : (b : Bool) → AreOf l (with_row es f r) → AreOf l (cond b ((e.0, e.1 ++ r ∷ []) ∷ es) (e ∷ with_row es f r))
    by true i = h
    by false i = (h.0, i)

pub of_adopted : (l : LibName) (fs : Scope) (rs : List FrameRow) → AreOf l fs → are_rows_of l rs ≡ true → AreOf l (adopted fs rs)
of_adopted l fs [] h k = h
of_adopted l fs (r ∷ rs) h k = by (same_library r.frame.0.library l) refl k (of_adopted l (with_row fs r.frame (row_in r)) rs)
  where
    by : (b : Bool) → same_library r.frame.0.library l ≡ b → (b && are_rows_of l rs) ≡ true → (AreOf l (with_row fs r.frame (row_in r)) → are_rows_of l rs ≡ true → AreOf l (adopted (with_row fs r.frame (row_in r)) rs))
        → AreOf l (adopted (with_row fs r.frame (row_in r)) rs)
    by true e k i = i (of_row l fs r.frame (row_in r) h e) k
    by false e k i = absurd (true≢false (sym k))

pub none_are_there : (rs : List FrameRow) → are_new rs [] ≡ true
none_are_there [] = refl
none_are_there (r ∷ rs) = none_are_there rs
