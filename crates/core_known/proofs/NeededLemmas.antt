-- Parts of a table of a run, and those of them that are marked.
use Rattle.std.specs.Prelude.{◌≡◌, ℕ, zero, suc, Bool, true, false, cond, List, [], ◌∷◌, ◌++◌, Option, None, Some, is_some, slice_get, refl}
use Rattle.std.proofs.Common.{sym, ◌∙◌, ap, subst, true≢false, append-nil}
use Rattle.std.specs.Map.{lookup, lookup_key}
use Rattle.std.specs.declared.alloc.Global.{Global}
use Rattle.std.specs.declared.rc.Rc.{Rc}
use Rattle.base_data.specs.Same.{same_library, same_library_decides}
use Rattle.base_data.specs.declared.library.LibName.{LibName}
use Rattle.core_known.specs.Known.{LabelBindings, AreOf, AreElsewhere, Part, Parts, flat, has_part, ArePlaced}
use Rattle.core_known.specs.Needed.{parts_in, AreLibraries, if_mark, needed_parts}
use Rattle.core_known.proofs.Parts.{other_library, is_key, not_first, elsewhere-of, elsewhere-append, no_part}

abbrev pub Entries : Type 0
Entries = List (Rc LibName Global × Rc LabelBindings Global)

-- ---- the entries of a table

abbrev pub is_owned : LibName → Rc LibName Global → Bool
is_owned l k = same_library l k.value

pub has_part-entry : (l : LibName) (es : Entries) → is_some (lookup (is_owned l) es) ≡ has_part l (parts_in es)
has_part-entry l [] = refl
has_part-entry l (e ∷ es) = by (same_library l e.0.value) (has_part-entry l es)
  where
    by : (b : Bool) → is_some (lookup (is_owned l) es) ≡ has_part l (parts_in es) → is_some (cond b (Some e.1) (lookup (is_owned l) es)) ≡ cond b true (has_part l (parts_in es))
    by true i = refl
    by false i = i

pub no_entry : (l : LibName) (es : Entries) → has_part l (parts_in es) ≡ false → lookup (is_owned l) es ≡ None
no_entry l es h = by (lookup (is_owned l) es) (has_part-entry l es ∙ h)
  where
    by : (o : Option (Rc LabelBindings Global)) → is_some o ≡ false → o ≡ None
    by None e = refl
    by (Some x) e = absurd (true≢false e)

pub parts-append : (es fs : Entries) → parts_in (es ++ fs) ≡ parts_in es ++ parts_in fs
parts-append [] fs = refl
parts-append (e ∷ es) fs = ap (λ (ps : Parts). (e.0.value, e.1.value) ∷ ps) (parts-append es fs)

pub part-at : (es : Entries) (i : ℕ) (k : Rc LibName Global) (v : Rc LabelBindings Global) → slice_get es i ≡ Some (k, v) → slice_get (parts_in es) i ≡ Some (k.value, v.value)
part-at [] i k v h = absurd (cc)
part-at (e ∷ es) zero k v h = let is : e ≡ (k, v) = cc in ap (λ (x : Rc LibName Global × Rc LabelBindings Global). Some (x.0.value, x.1.value)) is
part-at (e ∷ es) (suc i) k v h = part-at es i k v h

-- a key that is found is the one that was asked for
pub key-found : (l : LibName) (es : Entries) (k : Rc LibName Global) → lookup_key (is_owned l) es ≡ Some k → k.value ≡ l
key-found l [] k h = absurd (cc)
key-found l (e ∷ es) k h = by (same_library l e.0.value) refl h (key-found l es k)
  where
    by : (b : Bool) → same_library l e.0.value ≡ b → cond b (Some e.0) (lookup_key (is_owned l) es) ≡ Some k → (lookup_key (is_owned l) es ≡ Some k → k.value ≡ l) → k.value ≡ l
    by true s p i = let is : e.0 ≡ k = cc in ap (λ (x : Rc LibName Global). x.value) (sym is) ∙ sym ((same_library_decides l e.0.value).0 s)
    by false s p i = i p

pub found : (l : LibName) (es : Entries) (now : Parts) (i : ℕ) (k : Rc LibName Global) (v : Rc LabelBindings Global) (bs : LabelBindings)
    → parts_in es ≡ now → slice_get es i ≡ Some (k, v) → Some k ≡ lookup_key (is_owned l) es → bs ≡ v.value → slice_get now i ≡ Some (l, bs)
found l es now i k v bs view at key frames =
    ap (λ (ps : Parts). slice_get ps i) (sym view) ∙ part-at es i k v at ∙ (λ j. Some (key-found l es k (sym key) j, sym frames j))

-- ---- a library more

has_part-more : (l : LibName) (ps : Parts) (p : Part) → has_part l ps ≡ false → same_library l p.0 ≡ false → has_part l (ps ++ p ∷ []) ≡ false
has_part-more l [] p h k = ap (λ b. cond b true false) k
has_part-more l (q ∷ ps) p h k = let d = not_first l q ps h in ap (λ b. cond b true (has_part l (ps ++ p ∷ []))) d.0 ∙ has_part-more l ps p d.1 k

pub libraries-more : (ps : Parts) (p : Part) → AreLibraries ps → AreOf p.0 p.1 → has_part p.0 ps ≡ false → AreLibraries (ps ++ p ∷ [])
libraries-more [] p h k d = (k, refl, tt)
libraries-more (q ∷ ps) p h k d =
    let f = not_first p.0 q ps d in
    (h.0, has_part-more q.0 ps p h.1 (other_library p.0 q.0 f.0), libraries-more ps p h.2 k f.1)

-- a table after one with a part more
module _ (es fs : Entries) (k : Rc LibName Global) (v : Rc LabelBindings Global) (p : Part)
    (more : fs ≡ es ++ (k, v) ∷ []) (key : k.value ≡ p.0) (frames : v.value ≡ p.1) where
  pub parts-more : parts_in fs ≡ parts_in es ++ p ∷ []
  parts-more = ap parts_in more ∙ parts-append es ((k, v) ∷ []) ∙ (λ i. parts_in es ++ (key i, frames i) ∷ [])

  pub shared-more : AreLibraries (parts_in es) → AreOf p.0 p.1 → has_part p.0 (parts_in es) ≡ false → AreLibraries (parts_in fs)
  shared-more h k' d = subst AreLibraries (sym parts-more) (libraries-more (parts_in es) p h k' d)

-- ---- parts that are marked

pub none-needed : (l : LibName) (ms : List Bool) (ps : Parts) → has_part l ps ≡ false → has_part l (needed_parts ms ps) ≡ false
none-needed l [] ps h = refl
none-needed l (m ∷ ms) [] h = refl
none-needed l (m ∷ ms) (p ∷ ps) h = let d = not_first l p ps h in by m d.0 (none-needed l ms ps d.1)
  where
    by : (b : Bool) → same_library l p.0 ≡ false → has_part l (needed_parts ms ps) ≡ false → has_part l (cond b (p ∷ needed_parts ms ps) (needed_parts ms ps)) ≡ false
    by true s i = ap (λ b. cond b true (has_part l (needed_parts ms ps))) s ∙ i
    by false s i = i

pub libraries-needed : (ms : List Bool) (ps : Parts) → AreLibraries ps → AreLibraries (needed_parts ms ps)
libraries-needed [] ps h = tt
libraries-needed (m ∷ ms) [] h = tt
libraries-needed (m ∷ ms) (p ∷ ps) h = by m (libraries-needed ms ps h.2)
  where
    by : (b : Bool) → AreLibraries (needed_parts ms ps) → AreLibraries (cond b (p ∷ needed_parts ms ps) (needed_parts ms ps))
    by true i = (h.0, none-needed p.0 ms ps h.1, i)
    by false i = i

pub needed-absent : (l : LibName) (ms : List Bool) (ps : Parts) → has_part l ps ≡ false → lookup (is_key l) (needed_parts ms ps) ≡ None
needed-absent l ms ps h = no_part l (needed_parts ms ps) (none-needed l ms ps h)

same-self : (l : LibName) → same_library l l ≡ true
same-self l = (same_library_decides l l).1 refl

has_part-at : (l : LibName) (ps : Parts) (i : ℕ) (v : LabelBindings) → slice_get ps i ≡ Some (l, v) → has_part l ps ≡ true
has_part-at l [] i v h = absurd (cc)
has_part-at l (p ∷ ps) zero v h =
    let is : p ≡ (l, v) = cc in
    ap (λ (x : Part). cond (same_library l x.0) true (has_part l ps)) is ∙ ap (λ b. cond b true (has_part l ps)) (same-self l)
has_part-at l (p ∷ ps) (suc i) v h = by (same_library l p.0) (has_part-at l ps i v h)
  where
    by : (b : Bool) → has_part l ps ≡ true → cond b true (has_part l ps) ≡ true
    by true k = refl
    by false k = k

-- a library behind the first is another
other-first : (l : LibName) (p : Part) (ps : Parts) (i : ℕ) (v : LabelBindings) → has_part p.0 ps ≡ false → slice_get ps i ≡ Some (l, v) → same_library l p.0 ≡ false
other-first l p ps i v h k = by (same_library l p.0) refl
  where
    by : (b : Bool) → same_library l p.0 ≡ b → same_library l p.0 ≡ false
    by true e = absurd (true≢false (sym (has_part-at l ps i v k) ∙ ap (λ x. has_part x ps) ((same_library_decides l p.0).0 e) ∙ h))
    by false e = e

pub needed-at : (l : LibName) (ms : List Bool) (ps : Parts) (i : ℕ) (v : LabelBindings) → AreLibraries ps → slice_get ps i ≡ Some (l, v)
    → lookup (is_key l) (needed_parts ms ps) ≡ if_mark (slice_get ms i) v
needed-at l [] ps i v h k = refl
needed-at l (m ∷ ms) [] i v h k = absurd (cc)
needed-at l (m ∷ ms) (p ∷ ps) zero v h k = by m
  where
    is : p ≡ (l, v)
    is = cc

    rest : has_part l ps ≡ false
    rest = ap (λ (x : Part). has_part x.0 ps) (sym is) ∙ h.1

    by : (b : Bool) → lookup (is_key l) (cond b (p ∷ needed_parts ms ps) (needed_parts ms ps)) ≡ cond b (Some v) None
    by true =
        ap (λ (x : Part). cond (same_library l x.0) (Some x.1) (lookup (is_key l) (needed_parts ms ps))) is
        ∙ ap (λ b. cond b (Some v) (lookup (is_key l) (needed_parts ms ps))) (same-self l)
    by false = needed-absent l ms ps rest
needed-at l (m ∷ ms) (p ∷ ps) (suc i) v h k = by m (needed-at l ms ps i v h.2 k)
  where
    by : (b : Bool) → lookup (is_key l) (needed_parts ms ps) ≡ if_mark (slice_get ms i) v → lookup (is_key l) (cond b (p ∷ needed_parts ms ps) (needed_parts ms ps)) ≡ if_mark (slice_get ms i) v
    by true e = ap (λ b. cond b (Some p.1) (lookup (is_key l) (needed_parts ms ps))) (other-first l p ps i v h.1 k) ∙ e
    by false e = e

-- ---- libraries are placed, and apart

pub elsewhere-flat : (l : LibName) (ps : Parts) → AreLibraries ps → has_part l ps ≡ false → AreElsewhere l (flat ps)
elsewhere-flat l [] h k = tt
elsewhere-flat l (p ∷ ps) h k =
    let d = not_first l p ps k in
    elsewhere-append l p.1 (flat ps) (elsewhere-of p.0 l p.1 h.0 (other_library l p.0 d.0)) (elsewhere-flat l ps h.2 d.1)

pub placed-libraries : (ps : Parts) → AreLibraries ps → ArePlaced ps []
placed-libraries [] h = tt
placed-libraries (p ∷ ps) h =
    (h.0, subst (λ (y : LabelBindings). AreElsewhere p.0 y) (sym (append-nil (flat ps))) (elsewhere-flat p.0 ps h.2 h.1), placed-libraries ps h.2)

-- a library without a part binds none of the marked ones' labels
pub elsewhere-needed : (l : LibName) (ms : List Bool) (ps : Parts) → AreLibraries ps → has_part l ps ≡ false → AreElsewhere l (flat (needed_parts ms ps))
elsewhere-needed l ms ps h k = elsewhere-flat l (needed_parts ms ps) (libraries-needed ms ps h) (none-needed l ms ps k)
