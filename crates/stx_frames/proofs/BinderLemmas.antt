-- The index of binders stays whole while frames grow.
use Rattle.std.specs.Prelude.{◌≡◌, ℕ, Bool, true, false, cond, ◌&&◌, ◌||◌, nat_eq, List, [], ◌∷◌, ◌++◌, Option, None, Some, is_some, IfSome, Result, Ok, Err, OnOk, OnErr, refl}
use Rattle.std.proofs.Common.{suc, ◌+◌, ◌<◌, length, get_or, drop, sym, ◌∙◌, ap, subst, true≢false, add-one, drop-cons}
use Rattle.std.proofs.lemmas.List.Folds.{list_any-append}
use Rattle.std.specs.Borrow.{Bor}
use Rattle.std.specs.Cmp.Lexicographic.{pointwise}
use Rattle.std.specs.Map.{lookup, set_value}
use Rattle.indexmap.specs.IndexMap.{IndexMap, insert_entry}
use Rattle.indexmap.proofs.CallerLemmas.{insert_entry-new}
use Rattle.base_data.specs.Gives.{BareGives}
use Rattle.base_data.specs.Same.{same_library, same_library_decides, texts_decides}
use Rattle.base_data.specs.declared.fault.Bare.{Bare}
use Rattle.base_data.specs.declared.fault.BareStop.{BareStop}
use Rattle.base_data.specs.declared.library.LibName.{LibName}
use Rattle.base_data.specs.declared.name.FrameNo.{FrameNo}
use Rattle.base_data.specs.declared.name.Label.{Label}
use Rattle.base_data.specs.declared.name.Mark.{Mark}
use Rattle.stx_tree.specs.SameMarks.{same_marks}
use Rattle.stx_tree.specs.declared.frame_row.FrameRow.{FrameRow}
use Rattle.stx_frames.specs.declared.binders.Binders.{Binders}
use Rattle.stx_frames.specs.Binders.{Index, is_among, may_be, AreAll, may_be_of, binders_at, may_bind, Covers, NamesAll, AllNoted, IsIndexed, OnlyBinders, OnlyOfLibrary}
use Rattle.stx_frames.specs.Given.{Parts, flat, has_part, part_of, ArePlaced}
use Rattle.stx_frames.specs.Rows.{Row, is_of, label_in, second_binder}
use Rattle.stx_frames.specs.Scope.{Scope, same_frame, rows_at, label_at, with_row, bound, row_in, adopted}
use Rattle.stx_frames.proofs.FrameLaws.{rows_at-with_row, rows_at-other}
use Rattle.stx_frames.proofs.GivenLemmas.{rows_at-part}
use Rattle.stx_frames.proofs.MemoLemmas.{same_frame_is}
use Rattle.stx_frames.proofs.ScopeLemmas.{same_frame-self}

-- ---- the frames of one symbol

is_among-more : (f g : FrameNo) (gs : List FrameNo) → is_among f (gs ++ g ∷ []) ≡ (is_among f gs || is_among f (g ∷ []))
is_among-more f g gs = list_any-append (λ x. same_frame x f) gs (g ∷ [])

or_right : (a b : Bool) → b ≡ true → (a || b) ≡ true
or_right true b h = refl
or_right false b h = h

or_left : (a b : Bool) → (a || b) ≡ false → a ≡ false
or_left true b h = absurd (true≢false h)
or_left false b h = refl

pub is_among-new : (f : FrameNo) (gs : List FrameNo) → is_among f (gs ++ f ∷ []) ≡ true
is_among-new f gs = is_among-more f f gs ∙ or_right (is_among f gs) (is_among f (f ∷ [])) (ap (λ b. b || false) (same_frame-self f))

pub is_among-less : (f g : FrameNo) (gs : List FrameNo) → is_among f (gs ++ g ∷ []) ≡ false → is_among f gs ≡ false
is_among-less f g gs h = or_left (is_among f gs) (is_among f (g ∷ [])) (sym (is_among-more f g gs) ∙ h)

pub is_among-one : (f : FrameNo) → is_among f (f ∷ []) ≡ true
is_among-one f = ap (λ b. b || false) (same_frame-self f)

-- a frame pushed at the end, or not
pub pushed-there : {X E : Type 0} (r : Result X E) (f g : FrameNo) (many : Bool) (gs hs : List FrameNo) → g ≡ f → OnOk r (hs ≡ gs ++ g ∷ []) → OnOk r (cond many true (is_among f hs) ≡ true)
pushed-there (Ok x) f g true gs hs e h = refl
pushed-there (Ok x) f g false gs hs e h = ap (is_among f) (h ∙ ap (λ y. gs ++ y ∷ []) e) ∙ is_among-new f gs
pushed-there (Err x) f g many gs hs e h = tt

pub pushed-kept : {X E : Type 0} (r : Result X E) (g : FrameNo) (many : Bool) (gs hs : List FrameNo) → OnOk r (hs ≡ gs ++ g ∷ []) → OnErr r (hs ≡ gs)
    → (f : FrameNo) → cond many true (is_among f hs) ≡ false → cond many true (is_among f gs) ≡ false
pushed-kept r g true gs hs h u f k = k
pushed-kept (Ok x) g false gs hs h u f k = is_among-less f g gs (ap (is_among f) (sym h) ∙ k)
pushed-kept (Err x) g false gs hs h u f k = ap (is_among f) (sym u) ∙ k

-- the frames of a symbol that has few
pub few-all : (b : Binders) (gs : List FrameNo) → false ≡ b.many → gs ≡ b.frames → AreAll b gs
few-all b gs m is = record { each = λ f k. ap (λ x. cond x true (is_among f b.frames)) (sym m) ∙ ap (is_among f) (sym is) ∙ k }

pub get-found : (o : Option (Bor (List FrameNo))) (s : List ℕ) (es all : Index) (b : Binders) → Some b ≡ lookup (pointwise nat_eq s) es → es ≡ all → IfSome o (λ gs. AreAll b gs.now) → IfSome o (λ gs. NamesAll all s gs.now)
get-found None s es all b h view k = tt
get-found (Some gs) s es all b h view k =
    subst (λ (x : Index). NamesAll x s gs.now) view (record { each = λ f e. ap (may_be_of f) (sym h) ∙ k.each f e })

pub get-none : (gs : List FrameNo) (s : List ℕ) (es all : Index) → None ≡ lookup (pointwise nat_eq s) es → es ≡ all → NamesAll all s gs
get-none gs s es all h view = subst (λ (x : Index). NamesAll x s gs) view (record { each = λ f e. ap (may_be_of f) (sym h) })

-- ---- the index

pub covers_refl : (a : Index) → Covers a a
covers_refl a = record { each = λ f s h. h }

pub covers_trans : (a b c : Index) → Covers a b → Covers b c → Covers a c
covers_trans a b c p q = record { each = λ f s h. p.each f s (q.each f s h) }

true-if-not : (b : Bool) → (b ≡ false → ⊥) → b ≡ true
true-if-not true h = refl
true-if-not false h = absurd (h refl)

pub covered : (a b : Index) (f : FrameNo) (s : List ℕ) → Covers a b → may_bind f s a ≡ true → may_bind f s b ≡ true
covered a b f s c h = true-if-not (may_bind f s b) (λ e. true≢false (sym h ∙ c.each f s e))

abbrev test : List ℕ → List ℕ → Bool
test s = pointwise nat_eq s

test-self : (s : List ℕ) → test s s ≡ true
test-self s = (texts_decides s s).1 refl

lookup-set_value : (s : List ℕ) (es : Index) (b c : Binders) → lookup (test s) es ≡ Some b → lookup (test s) (set_value (test s) es c) ≡ Some c
lookup-set_value s [] b c h = absurd (cc)
lookup-set_value s (e ∷ es) b c h = by (test s e.0) refl h (lookup-set_value s es b c)
  where
    by : (t : Bool) → test s e.0 ≡ t → cond t (Some e.1) (lookup (test s) es) ≡ Some b → (lookup (test s) es ≡ Some b → lookup (test s) (set_value (test s) es c) ≡ Some c)
        → lookup (test s) (cond t ((e.0, c) ∷ es) (e ∷ set_value (test s) es c)) ≡ Some c
    by true t h k = ap (λ x. cond {A = Option Binders} x (Some c) (lookup (test s) es)) t
    by false t h k = ap (λ x. cond {A = Option Binders} x (Some e.1) (lookup (test s) (set_value (test s) es c))) t ∙ k h

less-set_value : (s : List ℕ) (es : Index) (b c : Binders) → lookup (test s) es ≡ Some b → ((f : FrameNo) → may_be f c ≡ false → may_be f b ≡ false)
    → (f : FrameNo) (x : List ℕ) → may_bind f x (set_value (test s) es c) ≡ false → may_bind f x es ≡ false
less-set_value s [] b c h less f x k = refl
less-set_value s (e ∷ es) b c h less f x k = by (test s e.0) h k (λ h. less-set_value s es b c h less f x)
  where
    rest : (t : Bool) → may_be_of f (cond t (Some e.1) (lookup (test x) (set_value (test s) es c))) ≡ false → (may_bind f x (set_value (test s) es c) ≡ false → may_bind f x es ≡ false)
        → may_be_of f (cond t (Some e.1) (lookup (test x) es)) ≡ false
    rest true k i = k
    rest false k i = i k

    here : (t : Bool) → may_be_of f (cond t (Some c) (lookup (test x) es)) ≡ false → e.1 ≡ b → may_be_of f (cond t (Some e.1) (lookup (test x) es)) ≡ false
    here true k i = ap (may_be f) i ∙ less f k
    here false k i = k

    by : (t : Bool) → cond t (Some e.1) (lookup (test s) es) ≡ Some b → may_bind f x (cond t ((e.0, c) ∷ es) (e ∷ set_value (test s) es c)) ≡ false
        → (lookup (test s) es ≡ Some b → may_bind f x (set_value (test s) es c) ≡ false → may_bind f x es ≡ false) → may_bind f x (e ∷ es) ≡ false
    by true h k i = let is : e.1 ≡ b = cc in here (test x e.0) k is
    by false h k i = rest (test x e.0) k (i h)

pub covers-set_value : (s : List ℕ) (es all fs : Index) (b c : Binders) → Some b ≡ lookup (test s) es → es ≡ all → fs ≡ set_value (test s) es c
    → ((f : FrameNo) → may_be f c ≡ false → may_be f b ≡ false) → Covers all fs
covers-set_value s es all fs b c h view is less =
    subst (λ (x : Index). Covers x fs) view (record { each = λ f x k. less-set_value s es b c (sym h) less f x (ap (may_bind f x) (sym is) ∙ k) })

pub noted-set_value : {X E : Type 0} (r : Result X E) (f : FrameNo) (s : List ℕ) (es fs : Index) (b c : Binders) → Some b ≡ lookup (test s) es → fs ≡ set_value (test s) es c
    → OnOk r (may_be f c ≡ true) → OnOk r (may_bind f s fs ≡ true)
noted-set_value (Ok x) f s es fs b c h is k = ap (may_bind f s) is ∙ ap (may_be_of f) (lookup-set_value s es b c (sym h)) ∙ k
noted-set_value (Err e) f s es fs b c h is k = tt

less-more : (s : List ℕ) (b : Binders) (es : Index) (f : FrameNo) (x : List ℕ) → may_bind f x (es ++ (s, b) ∷ []) ≡ false → may_bind f x es ≡ false
less-more s b [] f x k = refl
less-more s b (e ∷ es) f x k = by (test x e.0) k (less-more s b es f x)
  where
    by : (t : Bool) → may_be_of f (cond t (Some e.1) (lookup (test x) (es ++ (s, b) ∷ []))) ≡ false → (may_bind f x (es ++ (s, b) ∷ []) ≡ false → may_bind f x es ≡ false)
        → may_be_of f (cond t (Some e.1) (lookup (test x) es)) ≡ false
    by true k i = k
    by false k i = i k

pub covers-more : (s : List ℕ) (b : Binders) (es all fs : Index) → es ≡ all → fs ≡ es ++ (s, b) ∷ [] → Covers all fs
covers-more s b es all fs view is = subst (λ (x : Index). Covers x fs) view (record { each = λ f x k. less-more s b es f x (ap (may_bind f x) (sym is) ∙ k) })

lookup-more : (s : List ℕ) (b : Binders) (es : Index) → lookup (test s) es ≡ None → lookup (test s) (es ++ (s, b) ∷ []) ≡ Some b
lookup-more s b [] h = ap (λ t. cond {A = Option Binders} t (Some b) None) (test-self s)
lookup-more s b (e ∷ es) h = by (test s e.0) h (lookup-more s b es)
  where
    by : (t : Bool) → cond t (Some e.1) (lookup (test s) es) ≡ None → (lookup (test s) es ≡ None → lookup (test s) (es ++ (s, b) ∷ []) ≡ Some b)
        → cond t (Some e.1) (lookup (test s) (es ++ (s, b) ∷ [])) ≡ Some b
    by true h k = absurd (cc)
    by false h k = k h

pub noted-more : (f : FrameNo) (s t : List ℕ) (b : Binders) (es fs : Index) → s ≡ t → lookup (test s) es ≡ None → fs ≡ es ++ (s, b) ∷ [] → may_be f b ≡ true → may_bind f t fs ≡ true
noted-more f s t b es fs same h is k = ap (λ x. may_bind f x fs) (sym same) ∙ ap (may_bind f s) is ∙ ap (may_be_of f) (lookup-more s b es h) ∙ k

-- a symbol that wasn't there comes last
pub first_entry : {S : Type 0} (m : IndexMap (List ℕ) Binders S) (s t : List ℕ) (b : Binders) (all fs : Index) → s ≡ t → m.entries ≡ all → binders_at t all ≡ None
    → fs ≡ insert_entry (pointwise nat_eq) m.entries s b → (lookup (test s) m.entries ≡ None) × (fs ≡ m.entries ++ (s, b) ∷ [])
first_entry m s t b all fs same view none made =
    let absent : lookup (test s) m.entries ≡ None = (λ i. lookup (test (same i)) (view i)) ∙ none in
    (absent, made ∙ insert_entry-new (pointwise nat_eq) m s b absent)

-- the frames of rows, noted one after another: whatever covers what is noted so far and has the frames of the others has all
pub record NotedBy (index : Index) (left all : List FrameRow) : Type 0 where
  pub all_noted : (more : Index) → Covers index more → AllNoted left more → AllNoted all more

pub noted_first : (index : Index) (all : List FrameRow) → NotedBy index all all
noted_first index all = record { all_noted = λ more c h. h }

noted_next : (index new : Index) (r : FrameRow) (left all : List FrameRow) → Covers index new → may_bind r.frame r.symbol new ≡ true → NotedBy index (r ∷ left) all → NotedBy new left all
noted_next index new r left all c h n = record { all_noted = λ more d k. n.all_noted more (covers_trans index new more c d) (covered new more r.frame r.symbol d h, k) }

pub noted_step : (index new : Index) (rows : List FrameRow) (i : ℕ) (r : FrameRow) → i < length rows → r ≡ get_or rows i r → Covers index new → may_bind r.frame r.symbol new ≡ true
    → NotedBy index (drop i rows) rows → NotedBy new (drop (i + 1) rows) rows
noted_step index new rows i r h e c there n =
    let cons : drop i rows ≡ r ∷ drop (i + 1) rows = rw add-one (drop-cons rows i r h ∙ ap (λ x. x ∷ drop (suc i) rows) (sym e)) in
    noted_next index new r (drop (i + 1) rows) rows c there (subst (λ xs. NotedBy index xs rows) cons n)

pub noted_all : (index : Index) (left all : List FrameRow) → left ≡ [] → NotedBy index left all → AllNoted all index
noted_all index left all is n = n.all_noted index (covers_refl index) (subst (λ xs. AllNoted xs index) (sym is) tt)

-- ---- frames

pub indexed-covers : (a b : Index) (fs : Scope) → Covers a b → IsIndexed a fs → IsIndexed b fs
indexed-covers a b fs c h = record { none = λ f s ms k. h.none f s ms (c.each f s k) }

label_in-more : (rs : List Row) (r : Row) (s : List ℕ) (ms : List Mark) → label_in rs s ms ≡ None → pointwise nat_eq s r.symbol ≡ false → label_in (rs ++ r ∷ []) s ms ≡ None
label_in-more [] r s ms h k = ap (λ b. cond {A = Option Label} (b && same_marks ms r.marks) (Some r.label) None) k
label_in-more (x ∷ xs) r s ms h k = by (is_of s ms x) h (λ h. label_in-more xs r s ms h k)
  where
    by : (t : Bool) → cond t (Some x.label) (label_in xs s ms) ≡ None → (label_in xs s ms ≡ None → label_in (xs ++ r ∷ []) s ms ≡ None) → cond t (Some x.label) (label_in (xs ++ r ∷ []) s ms) ≡ None
    by true h i = absurd (cc)
    by false h i = i h

pub indexed-with_row : (index : Index) (fs : Scope) (f : FrameNo) (r : Row) → IsIndexed index fs → may_bind f r.symbol index ≡ true → IsIndexed index (with_row fs f r)
indexed-with_row index fs f r h there = record { none = λ g s ms k. at g s ms k (same_frame g f) refl }
  where
    other : (g : FrameNo) (s : List ℕ) → may_bind g s index ≡ false → g ≡ f → (t : Bool) → pointwise nat_eq s r.symbol ≡ t → t ≡ false
    other g s k e true t =
        let same : s ≡ r.symbol = (texts_decides s r.symbol).0 t in
        absurd (true≢false (sym there ∙ (λ i. may_bind (sym e i) (sym same i) index) ∙ k))
    other g s k e false t = refl

    at : (g : FrameNo) (s : List ℕ) (ms : List Mark) → may_bind g s index ≡ false → (b : Bool) → same_frame g f ≡ b → label_at (with_row fs f r) g s ms ≡ None
    at g s ms k true b =
        let is : g ≡ f = same_frame_is g f b in
        let differs : pointwise nat_eq s r.symbol ≡ false = other g s k is (pointwise nat_eq s r.symbol) refl in
        let none : label_in (rows_at f fs) s ms ≡ None = ap (λ x. label_in (rows_at x fs) s ms) (sym is) ∙ h.none g s ms k in
        ap (λ x. label_in (rows_at x (with_row fs f r)) s ms) is ∙ ap (λ rs. label_in rs s ms) (rows_at-with_row fs f r) ∙ label_in-more (rows_at f fs) r s ms none differs
    at g s ms k false b = ap (λ rs. label_in rs s ms) (rows_at-other fs f g r (λ e. true≢false (sym (same_frame-self g) ∙ ap (same_frame g) e ∙ b))) ∙ h.none g s ms k

pub indexed-adopted : (index : Index) (rs : List FrameRow) (fs : Scope) → IsIndexed index fs → AllNoted rs index → IsIndexed index (adopted fs rs)
indexed-adopted index [] fs h all = h
indexed-adopted index (r ∷ rs) fs h all = indexed-adopted index rs (with_row fs r.frame (row_in r)) (indexed-with_row index fs r.frame (row_in r) h all.0) all.1

-- a frame without rows finds nothing more
pub indexed-frame : (index : Index) (fs : Scope) (f : FrameNo) → IsIndexed index fs → IsIndexed index (fs ++ (f, []) ∷ [])
indexed-frame index fs f h = record { none = λ g s ms k. ap (λ rs. label_in rs s ms) (same_rows g fs) ∙ h.none g s ms k }
  where
    last : (b : Bool) → cond {A = List Row} b [] [] ≡ []
    last true = refl
    last false = refl

    same_rows : (g : FrameNo) (es : Scope) → rows_at g (es ++ (f, []) ∷ []) ≡ rows_at g es
    same_rows g [] = last (same_frame g f)
    same_rows g (e ∷ es) = ap (cond (same_frame g e.0) e.1) (same_rows g es)

pub indexed-empty : IsIndexed [] []
indexed-empty = record { none = λ f s ms k. refl }

-- after a call that made the frames grow, or left them
pub indexed-after : {X E : Type 0} (r : Result X E) (index : Index) (fs gs hs : Scope) → OnOk r (gs ≡ hs) → OnErr r (gs ≡ fs) → IsIndexed index hs → IsIndexed index fs → IsIndexed index gs
indexed-after (Ok x) index fs gs hs e u g h = subst (IsIndexed index) (sym e) g
indexed-after (Err x) index fs gs hs e u g h = subst (IsIndexed index) (sym u) h

pub indexed-bound : {X : Type 0} (r : Result X BareStop) (index : Index) (fs gs : Scope) (f : FrameNo) (row : Row)
    → BareGives (λ _. gs) r (bound fs f row) → OnErr r (gs ≡ fs) → IsIndexed index fs → may_bind f row.symbol index ≡ true → IsIndexed index gs
indexed-bound (Ok x) index fs gs f row e u h there = by (is_some (label_at fs f row.symbol row.marks)) e
  where
    by : (b : Bool) → cond {A = Result Scope Bare} b (Err (second_binder row.symbol)) (Ok (with_row fs f row)) ≡ Ok gs → IsIndexed index gs
    by true k = absurd (cc)
    by false k = let is : with_row fs f row ≡ gs = cc in subst (IsIndexed index) is (indexed-with_row index fs f row h there)
indexed-bound (Err x) index fs gs f row e u h there = subst (IsIndexed index) (sym u) h

pub only-named : (index : Index) (fs : Scope) (s : List ℕ) (gs : List FrameNo) → IsIndexed index fs → NamesAll index s gs → OnlyBinders fs s gs
only-named index fs s gs h n = record { none = λ f ms k. h.none f s ms (n.each f k) }

part_of-own : (ps : Parts) (own : Scope) (l : LibName) → has_part l ps ≡ false → part_of ps own l ≡ own
part_of-own [] own l h = refl
part_of-own (p ∷ ps) own l h = by (same_library l p.0) h (part_of-own ps own l)
  where
    by : (b : Bool) → cond b true (has_part l ps) ≡ false → (has_part l ps ≡ false → part_of ps own l ≡ own) → cond b p.1 (part_of ps own l) ≡ own
    by true h k = absurd (true≢false h)
    by false h k = k h

-- behind those that were given, the frames of another library bind what they bind alone
pub only-own : (ps : Parts) (own : Scope) (s : List ℕ) (l : LibName) (gs : List FrameNo) → ArePlaced ps own → has_part l ps ≡ false → OnlyBinders own s gs → OnlyOfLibrary (flat ps ++ own) s l gs
only-own ps own s l gs placed none only = record { none = at }
  where
    at : (f : FrameNo) (ms : List Mark) → same_library f.0.library l ≡ true → is_among f gs ≡ false → label_at (flat ps ++ own) f s ms ≡ None
    at f ms e k =
        let is : f.0.library ≡ l = (same_library_decides f.0.library l).0 e in
        let rows : rows_at f (flat ps ++ own) ≡ rows_at f own = rows_at-part f ps own placed ∙ ap (λ x. rows_at f (part_of ps own x)) is ∙ ap (rows_at f) (part_of-own ps own l none) in
        ap (λ rs. label_in rs s ms) rows ∙ only.none f ms k

pub some-own : (ps : Parts) (own all : Scope) (s : List ℕ) (l : LibName) (o : Option (Bor (List FrameNo))) → ArePlaced ps own → has_part l ps ≡ false → flat ps ++ own ≡ all
    → IfSome o (λ gs. OnlyBinders own s gs.now) → IfSome o (λ gs. OnlyOfLibrary all s l gs.now)
some-own ps own all s l None placed none is h = tt
some-own ps own all s l (Some gs) placed none is h = subst (λ (x : Scope). OnlyOfLibrary x s l gs.now) is (only-own ps own s l gs.now placed none h)

pub some-named : (index : Index) (fs all : Scope) (s : List ℕ) (o : Option (Bor (List FrameNo))) → IsIndexed index fs → fs ≡ all → IfSome o (λ gs. NamesAll index s gs.now) → IfSome o (λ gs. OnlyBinders all s gs.now)
some-named index fs all s None i is h = tt
some-named index fs all s (Some gs) i is h = subst (λ (x : Scope). OnlyBinders x s gs.now) is (only-named index fs s gs.now i h)
