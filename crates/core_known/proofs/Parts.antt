-- The bindings of complete libraries before those that come later.
use Rattle.std.specs.Prelude.{◌≡◌, Bool, true, false, not, cond, [], ◌∷◌, ◌++◌, Option, None, Some, is_some, Result, Ok, Err, OnOk, OnErr, refl}
use Rattle.std.proofs.Common.{sym, ◌∙◌, ap, subst, true≢false, append_assoc}
use Rattle.std.specs.Map.{lookup}
use Rattle.base_data.specs.Named.{Named}
use Rattle.base_data.specs.Same.{same_library, same_library_decides, same_name_cases}
use Rattle.base_data.specs.declared.library.LibName.{LibName}
use Rattle.base_data.specs.declared.name.Label.{Label}
use Rattle.core_language.specs.Bindings.{bound_to}
use Rattle.core_language.specs.Labels.{same_label}
use Rattle.core_language.specs.declared.binding.Binding.{Binding}
use Rattle.core_known.specs.Known.{LabelBindings, AreOf, AreElsewhere, Parts, flat, has_part, part_of, ArePlaced}

-- ---- labels of a library

pub other_library : (a b : LibName) → same_library a b ≡ false → same_library b a ≡ false
other_library a b h = by (same_library b a) refl
  where
    by : (c : Bool) → same_library b a ≡ c → same_library b a ≡ false
    by true e = absurd (true≢false (sym ((same_library_decides a b).1 (sym ((same_library_decides b a).0 e))) ∙ h))
    by false e = e

-- libraries that were told apart
pub other_from : (r : Bool) (x a b : LibName) → x ≡ a → r ≡ not (same_library x b) → r ≡ true → same_library a b ≡ false
other_from r x a b is e h = ap (λ y. same_library y b) (sym is) ∙ by (same_library x b) (sym e ∙ h)
  where
    by : (c : Bool) → not c ≡ true → c ≡ false
    by true k = absurd (true≢false (sym k))
    by false k = refl

pub same_from : (r : Bool) (x a b : LibName) → x ≡ a → r ≡ not (same_library x b) → r ≡ false → same_library a b ≡ true
same_from r x a b is e h = ap (λ y. same_library y b) (sym is) ∙ by (same_library x b) (sym e ∙ h)
  where
    by : (c : Bool) → not c ≡ false → c ≡ true
    by true k = refl
    by false k = absurd (true≢false k)

label_library : (l m : Label) → same_label l m ≡ true → l.0.library ≡ m.0.library
label_library l m h = ap (λ (n : Named). n.library) ((same_name_cases l.0 m.0).0 h)

label_elsewhere : (k : LibName) (l m : Label) → same_library m.0.library k ≡ false → same_library l.0.library k ≡ true → same_label l m ≡ false
label_elsewhere k l m h t = by (same_label l m) refl
  where
    by : (c : Bool) → same_label l m ≡ c → same_label l m ≡ false
    by true e = absurd (true≢false (sym t ∙ ap (λ x. same_library x k) (label_library l m e) ∙ h))
    by false e = e

pub unbound-elsewhere : (k : LibName) (l : Label) (bs : LabelBindings) → AreElsewhere k bs → same_library l.0.library k ≡ true → bound_to bs l ≡ None
unbound-elsewhere k l [] h t = refl
unbound-elsewhere k l (b ∷ bs) h t = ap (λ c. cond c (Some b.1) (bound_to bs l)) (label_elsewhere k l b.0 h.0 t) ∙ unbound-elsewhere k l bs h.1 t

-- what is of one library is of no other
pub elsewhere-of : (k m : LibName) (bs : LabelBindings) → AreOf k bs → same_library k m ≡ false → AreElsewhere m bs
elsewhere-of k m [] h d = tt
elsewhere-of k m (b ∷ bs) h d = (ap (λ x. same_library x m) ((same_library_decides b.0.0.library k).0 h.0) ∙ d, elsewhere-of k m bs h.1 d)

pub unbound-of : (k : LibName) (l : Label) (bs : LabelBindings) → AreOf k bs → same_library l.0.library k ≡ false → bound_to bs l ≡ None
unbound-of k l bs h d =
    unbound-elsewhere l.0.library l bs (elsewhere-of k l.0.library bs h (other_library l.0.library k d)) ((same_library_decides l.0.library l.0.library).1 refl)

pub of-row : (k : LibName) (bs : LabelBindings) (l : Label) (v : Binding) → AreOf k bs → same_library l.0.library k ≡ true → AreOf k (bs ++ (l, v) ∷ [])
of-row k [] l v h t = (t, tt)
of-row k (b ∷ bs) l v h t = (h.0, of-row k bs l v h.1 t)

pub of_after : {X E : Type 0} (k : LibName) (old new : LabelBindings) (l : Label) (v : Binding) (r : Result X E)
    → OnOk r (new ≡ old ++ (l, v) ∷ []) → AreOf k old → same_library l.0.library k ≡ true → OnOk r (AreOf k new)
of_after k old new l v (Ok x) e h t = subst (λ (bs : LabelBindings). AreOf k bs) (sym e) (of-row k old l v h t)
of_after k old new l v (Err x) e h t = tt

-- ---- bindings before others

pub bound-behind : (l : Label) (xs ys : LabelBindings) → bound_to ys l ≡ None → bound_to (xs ++ ys) l ≡ bound_to xs l
bound-behind l [] ys h = h
bound-behind l (b ∷ bs) ys h = ap (cond (same_label l b.0) (Some b.1)) (bound-behind l bs ys h)

pub bound-before : (l : Label) (xs ys : LabelBindings) → bound_to xs l ≡ None → bound_to (xs ++ ys) l ≡ bound_to ys l
bound-before l [] ys h = refl
bound-before l (b ∷ bs) ys h = by (same_label l b.0) h (bound-before l bs ys)
  where
    by : (c : Bool) → cond c (Some b.1) (bound_to bs l) ≡ None → (bound_to bs l ≡ None → bound_to (bs ++ ys) l ≡ bound_to ys l) → cond c (Some b.1) (bound_to (bs ++ ys) l) ≡ bound_to ys l
    by true k i = absurd (cc)
    by false k i = i k

pub unbound-right : (l : Label) (xs ys : LabelBindings) → bound_to (xs ++ ys) l ≡ None → bound_to ys l ≡ None
unbound-right l [] ys h = h
unbound-right l (b ∷ bs) ys h = unbound-right l bs ys (by (same_label l b.0) h)
  where
    by : (c : Bool) → cond c (Some b.1) (bound_to (bs ++ ys) l) ≡ None → bound_to (bs ++ ys) l ≡ None
    by true k = absurd (cc)
    by false k = k

-- ---- the parts of libraries

abbrev pub is_key : LibName → LibName → Bool
is_key l k = same_library l k

abbrev pub or_own : LabelBindings → Option LabelBindings → LabelBindings
or_own own None = own
or_own own (Some p) = p

is_some-cond : (b : Bool) (p : LabelBindings) (o : Option LabelBindings) → cond b true (is_some o) ≡ is_some (cond b (Some p) o)
is_some-cond true p o = refl
is_some-cond false p o = refl

or_own-cond : (own : LabelBindings) (b : Bool) (p : LabelBindings) (o : Option LabelBindings) → cond b p (or_own own o) ≡ or_own own (cond b (Some p) o)
or_own-cond own true p o = refl
or_own-cond own false p o = refl

pub has_part-lookup : (l : LibName) (ps : Parts) → has_part l ps ≡ is_some (lookup (is_key l) ps)
has_part-lookup l [] = refl
has_part-lookup l (p ∷ ps) = ap (cond (is_key l p.0) true) (has_part-lookup l ps) ∙ is_some-cond (is_key l p.0) p.1 (lookup (is_key l) ps)

pub part_of-lookup : (ps : Parts) (own : LabelBindings) (l : LibName) → part_of ps own l ≡ or_own own (lookup (is_key l) ps)
part_of-lookup [] own l = refl
part_of-lookup (p ∷ ps) own l = ap (cond (is_key l p.0) p.1) (part_of-lookup ps own l) ∙ or_own-cond own (is_key l p.0) p.1 (lookup (is_key l) ps)

pub no_part : (l : LibName) (ps : Parts) → has_part l ps ≡ false → lookup (is_key l) ps ≡ None
no_part l ps h = by (lookup (is_key l) ps) (sym (has_part-lookup l ps) ∙ h)
  where
    by : (o : Option LabelBindings) → is_some o ≡ false → o ≡ None
    by None e = refl
    by (Some x) e = absurd (true≢false e)

-- a library without a part is none of the parts'
pub not_first : (l : LibName) (p : LibName × LabelBindings) (ps : Parts) → has_part l (p ∷ ps) ≡ false → (same_library l p.0 ≡ false) × (has_part l ps ≡ false)
not_first l p ps h = by (same_library l p.0) h
  where
    by : (b : Bool) → cond b true (has_part l ps) ≡ false → (b ≡ false) × (has_part l ps ≡ false)
    by true k = absurd (true≢false k)
    by false k = (refl, k)

pub bound-part : (l : Label) (ps : Parts) (own : LabelBindings) → ArePlaced ps own → bound_to (flat ps ++ own) l ≡ bound_to (part_of ps own l.0.library) l
bound-part l [] own h = refl
bound-part l (p ∷ ps) own h = ap (λ (bs : LabelBindings). bound_to bs l) (append_assoc p.1 (flat ps) own) ∙ by (same_library l.0.library p.0) refl (bound-part l ps own h.2)
  where
    by : (b : Bool) → same_library l.0.library p.0 ≡ b → bound_to (flat ps ++ own) l ≡ bound_to (part_of ps own l.0.library) l
        → bound_to (p.1 ++ (flat ps ++ own)) l ≡ bound_to (cond b p.1 (part_of ps own l.0.library)) l
    by true e i = bound-behind l p.1 (flat ps ++ own) (unbound-elsewhere p.0 l (flat ps ++ own) h.1 e)
    by false e i = bound-before l p.1 (flat ps ++ own) (unbound-of p.0 l p.1 h.0 e) ∙ i

-- ---- bindings that come later

pub elsewhere-append : (k : LibName) (xs ys : LabelBindings) → AreElsewhere k xs → AreElsewhere k ys → AreElsewhere k (xs ++ ys)
elsewhere-append k [] ys h t = t
elsewhere-append k (b ∷ bs) ys h t = (h.0, elsewhere-append k bs ys h.1 t)

elsewhere-parts : (k : LibName) (xs ys : LabelBindings) → AreElsewhere k (xs ++ ys) → AreElsewhere k xs × AreElsewhere k ys
elsewhere-parts k [] ys h = (tt, h)
elsewhere-parts k (b ∷ bs) ys h = let p = elsewhere-parts k bs ys h.1 in ((h.0, p.0), p.1)

pub placed-row : (ps : Parts) (own : LabelBindings) (l : Label) (v : Binding) → ArePlaced ps own → has_part l.0.library ps ≡ false → ArePlaced ps (own ++ (l, v) ∷ [])
placed-row [] own l v h k = tt
placed-row (p ∷ ps) own l v h k =
    let d = not_first l.0.library p ps k in
    let e = elsewhere-parts p.0 (flat ps) own h.1 in
    (h.0, elsewhere-append p.0 (flat ps) (own ++ (l, v) ∷ []) e.0 (elsewhere-append p.0 own ((l, v) ∷ []) e.1 (d.0, tt)), placed-row ps own l v h.2 d.1)

-- after a call that bound a label, or changed nothing
pub placed_after : {X E : Type 0} (ps : Parts) (own new : LabelBindings) (l : Label) (v : Binding) (r : Result X E)
    → OnOk r (new ≡ own ++ (l, v) ∷ []) → OnErr r (new ≡ own) → ArePlaced ps own → has_part l.0.library ps ≡ false → ArePlaced ps new
placed_after ps own new l v (Ok x) e u h d = subst (λ (y : LabelBindings). ArePlaced ps y) (sym e) (placed-row ps own l v h d)
placed_after ps own new l v (Err x) e u h d = subst (λ (y : LabelBindings). ArePlaced ps y) (sym u) h
