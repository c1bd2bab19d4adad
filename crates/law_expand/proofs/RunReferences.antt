-- The references of a record are the other libraries whose variables its lines mention, each once in order of first place; and they were
-- there before it.
use Rattle.std.proofs.Common.{◌≡◌, Bool, true, false, cond, List, [], ◌∷◌, ◌++◌, map, refl, sym, ◌∙◌, ap, subst, inl, inr, if◌then◌else◌}
use Rattle.std.specs.Prelude.{◌⊎◌, ◌||◌, not}
use Rattle.std.specs.List.{flat_map}
use Rattle.base_data.proofs.ElementLemmas.{each-at, each-of, among-first, among-second, among-parts}
use Rattle.base_data.specs.Elements.{Each, Among}
use Rattle.base_data.specs.Same.{same_library, same_library_decides}
use Rattle.base_data.specs.declared.library.LibName.{LibName}
use Rattle.base_data.specs.declared.name.Label.{Label}
use Rattle.core_language.specs.Core.{PlainCore}
use Rattle.core_language.specs.Labels.{has_label, with_label, with_labels, without}
use Rattle.core_language.specs.References.{binders, mentions, references}
use Rattle.core_language.specs.declared.record.CompiledLibrary.{CompiledLibrary}
use Rattle.core_language.specs.declared.record.Line.{Line}
use Rattle.core_language.specs.declared.record.Line.TheVariants as line
use Rattle.law_core.specs.Follows.{names_of, keywords, line_cores, library_of, mentioned, joined, others, run_references, IsOwn, all_binders}
use Rattle.law_core.specs.Following.{AllFollow}
use Rattle.law_core.specs.Records.{defined, line_core, line_labels, line_binders, run_binders}
use Rattle.law_core.specs.Scope.{Closed}
use Rattle.law_core.specs.Words.{among}
use Rattle.law_core.proofs.GivenLemmas.{references_given}
use Rattle.law_core.proofs.LabelLemmas.{label-put, label-kept, label-there}
use Rattle.eval_stage.specs.Libraries.{has_library, with_library}
use Rattle.expand_forms.specs.Top.{with_label_of, with_labels_of, code_of, with_lines_of, refs_of}

module _ (own : LibName) where
  labels-append : (done : List LibName) (xs ys : List Label) → with_labels_of own done (xs ++ ys) ≡ with_labels_of own (with_labels_of own done xs) ys
  labels-append done [] ys = refl
  labels-append done (x ∷ xs) ys = labels-append (with_label_of own done x) xs ys

  -- a label whose library is the record's own or is there already adds nothing
  abbrev PlannedForm : List LibName → Label → Type 0
  PlannedForm done l = (same_library l.0.library own ≡ true) ⊎ (has_library done l.0.library ≡ true)

  settled-is : (done : List LibName) (l : Label) → PlannedForm done l → with_label_of own done l ≡ done
  settled-is done l (inl e) = ap (λ (b : Bool). if b then done else with_library done l.0.library) e
  settled-is done l (inr e) = by (same_library l.0.library own)
    where
      there : with_library done l.0.library ≡ done
      there = ap (λ (b : Bool). if b then done else done ++ l.0.library ∷ []) e

      by : (b : Bool) → (if b then done else with_library done l.0.library) ≡ done
      by true = refl
      by false = there

  has-more : (ks js : List LibName) (k : LibName) → has_library ks k ≡ true → has_library (ks ++ js) k ≡ true
  has-more [] js k e = absurd (cc)
  has-more (x ∷ ks) js k e = by (same_library k x) e (has-more ks js k)
    where
      by : (b : Bool) → (b || has_library ks k) ≡ true → (has_library ks k ≡ true → has_library (ks ++ js) k ≡ true) → (b || has_library (ks ++ js) k) ≡ true
      by true d rest = refl
      by false d rest = rest d

  has-last : (ks : List LibName) (k : LibName) → has_library (ks ++ k ∷ []) k ≡ true
  has-last [] k = ap (λ (b : Bool). b || false) ((same_library_decides k k).1 refl)
  has-last (x ∷ ks) k = by (same_library k x) (has-last ks k)
    where
      by : (b : Bool) → has_library (ks ++ k ∷ []) k ≡ true → (b || has_library (ks ++ k ∷ []) k) ≡ true
      by true d = refl
      by false d = d

  has-put : (done : List LibName) (k : LibName) → has_library (with_library done k) k ≡ true
  has-put done k = by (has_library done k) refl
    where
      by : (b : Bool) → has_library done k ≡ b → has_library (if b then done else done ++ k ∷ []) k ≡ true
      by true e = e
      by false e = has-last done k

  has-kept : (done : List LibName) (j k : LibName) → has_library done k ≡ true → has_library (with_library done j) k ≡ true
  has-kept done j k h = by (has_library done j)
    where
      by : (b : Bool) → has_library (if b then done else done ++ j ∷ []) k ≡ true
      by true = h
      by false = has-more done (j ∷ []) k h

  settled-put : (done : List LibName) (l : Label) → PlannedForm (with_label_of own done l) l
  settled-put done l = by (same_library l.0.library own) refl
    where
      by : (b : Bool) → same_library l.0.library own ≡ b → (same_library l.0.library own ≡ true) ⊎ (has_library (if b then done else with_library done l.0.library) l.0.library ≡ true)
      by true e = inl e
      by false e = inr (has-put done l.0.library)

  settled-kept : (done : List LibName) (m l : Label) → PlannedForm done l → PlannedForm (with_label_of own done m) l
  settled-kept done m l (inl e) = inl e
  settled-kept done m l (inr e) = inr (by (same_library m.0.library own))
    where
      by : (b : Bool) → has_library (if b then done else with_library done m.0.library) l.0.library ≡ true
      by true = e
      by false = has-kept done m.0.library l.0.library e

  settled-all : (done : List LibName) (ls : List Label) (l : Label) → PlannedForm done l → PlannedForm (with_labels_of own done ls) l
  settled-all done [] l h = h
  settled-all done (m ∷ ls) l h = settled-all (with_label_of own done m) ls l (settled-kept done m l h)

  settled-among : (done : List LibName) (ls : List Label) (l : Label) → Among ls l → PlannedForm (with_labels_of own done ls) l
  settled-among done [] l a = elim a [ ]
  settled-among done (m ∷ ls) l (inl e) = settled-all (with_label_of own done m) ls l (subst (PlannedForm (with_label_of own done m)) (sym e) (settled-put done m))
  settled-among done (m ∷ ls) l (inr a) = settled-among (with_label_of own done m) ls l a

  -- a label that came before adds nothing
  one-more : (done : List LibName) (ls : List Label) (m : Label) → with_labels_of own done (with_label ls m) ≡ with_label_of own (with_labels_of own done ls) m
  one-more done ls m = by (has_label ls m) (label-there ls m)
    where
      by : (b : Bool) → (b ≡ true → Among ls m) → with_labels_of own done (if b then ls else ls ++ m ∷ []) ≡ with_label_of own (with_labels_of own done ls) m
      by true there = sym (settled-is (with_labels_of own done ls) m (settled-among done ls m (there refl)))
      by false there = labels-append done ls (m ∷ [])

  each-once : (done : List LibName) (ls ms : List Label) → with_labels_of own done (with_labels ls ms) ≡ with_labels_of own (with_labels_of own done ls) ms
  each-once done ls [] = refl
  each-once done ls (m ∷ ms) = each-once done (with_label ls m) ms ∙ ap (λ (ks : List LibName). with_labels_of own ks ms) (one-more done ls m)

  -- nor does one of the library itself
  left-out : (done : List LibName) (bs ms : List Label) → ((l : Label) → Among bs l → l.0.library ≡ own) → with_labels_of own done (without bs ms) ≡ with_labels_of own done ms
  left-out done bs [] mine = refl
  left-out done bs (m ∷ ms) mine = by (has_label bs m) (label-there bs m) (λ ks. left-out ks bs ms mine)
    where
      by : (b : Bool) → (b ≡ true → Among bs m) → ((ks : List LibName) → with_labels_of own ks (without bs ms) ≡ with_labels_of own ks ms)
          → with_labels_of own done (cond (not b) (m ∷ without bs ms) (without bs ms)) ≡ with_labels_of own (with_label_of own done m) ms
      by true there rest = rest done ∙ ap (λ (ks : List LibName). with_labels_of own ks ms) (sym (settled-is done m (inl ((same_library_decides m.0.library own).1 (mine m (there refl))))))
      by false there rest = rest (with_label_of own done m)

  of-references : (done : List LibName) (c : PlainCore) → ((l : Label) → Among (binders c) l → l.0.library ≡ own) → with_labels_of own done (references c) ≡ with_labels_of own done (mentions c)
  of-references done c mine = left-out done (binders c) (with_labels [] (mentions c)) mine ∙ each-once done [] (mentions c)

  code-binders : (x : Line) (l : Label) → Among (binders (code_of x)) l → Among (line_binders x) l
  code-binders (line.Define m c) l a = inr a
  code-binders (line.Expr c) l a = a

  one-code : (x : Line) → line_core x ≡ code_of x
  one-code (line.Define l c) = refl
  one-code (line.Expr c) = refl

  of-lines : (done : List LibName) (xs : List Line) → ((l : Label) → Among (flat_map line_binders xs) l → l.0.library ≡ own) → with_lines_of own done xs ≡ with_labels_of own done (flat_map mentions (map line_core xs))
  of-lines done [] mine = refl
  of-lines done (x ∷ xs) mine =
      of-lines (with_labels_of own done (references (code_of x))) xs (λ l a. mine l (among-second (line_binders x) (flat_map line_binders xs) l a))
      ∙ ap (λ (ks : List LibName). with_labels_of own ks (flat_map mentions (map line_core xs)))
      (of-references done (code_of x) (λ l a. mine l (among-first (line_binders x) (flat_map line_binders xs) l (code-binders x l a)))
      ∙ ap (λ (c : PlainCore). with_labels_of own done (mentions c)) (sym (one-code x)))
      ∙ sym (labels-append done (mentions (line_core x)) (flat_map mentions (map line_core xs)))

  has-among : (ks : List LibName) (k : LibName) → has_library ks k ≡ among same_library ks k
  has-among [] k = refl
  has-among (x ∷ ks) k = ap (λ (b : Bool). same_library k x || b) (has-among ks k)

  of-mentions : (done : List LibName) (ms : List Label) → with_labels_of own done ms ≡ joined done (others own (map library_of ms))
  of-mentions done [] = refl
  of-mentions done (m ∷ ms) = by (same_library m.0.library own) (λ ks. of-mentions ks ms)
    where
      k : LibName
      k = m.0.library

      put : (b : Bool) → ((ks : List LibName) → with_labels_of own ks ms ≡ joined ks (others own (map library_of ms)))
          → with_labels_of own (if b then done else done ++ k ∷ []) ms ≡ (if b then joined done (others own (map library_of ms)) else joined (done ++ k ∷ []) (others own (map library_of ms)))
      put true rest = rest done
      put false rest = rest (done ++ k ∷ [])

      by : (b : Bool) → ((ks : List LibName) → with_labels_of own ks ms ≡ joined ks (others own (map library_of ms)))
          → with_labels_of own (if b then done else with_library done k) ms ≡ joined done (if b then others own (map library_of ms) else k ∷ others own (map library_of ms))
      by true rest = rest done
      by false rest =
          put (has_library done k) rest
          ∙ ap (λ (b : Bool). if b then joined done (others own (map library_of ms)) else joined (done ++ k ∷ []) (others own (map library_of ms))) (has-among done k)

-- the references that a record has are those that it owes
pub references-owed : (r : CompiledLibrary) → ((l : Label) → Among (run_binders r) l → l.0.library ≡ r.name) → refs_of r.name r.run ≡ run_references r
references-owed r mine = of-lines r.name [] r.run mine ∙ of-mentions r.name [] (flat_map mentions (line_cores r))

-- They are those of earlier records.

joined-among : (found ks : List LibName) (k : LibName) → Among (joined found ks) k → Among found k ⊎ Among ks k
joined-among found [] k a = inl a
joined-among found (j ∷ ks) k a = by (among same_library found j) a (joined-among found ks k) (joined-among (found ++ j ∷ []) ks k)
  where
    behind : Among found k ⊎ Among ks k → Among found k ⊎ Among (j ∷ ks) k
    behind (inl b) = inl b
    behind (inr b) = inr (inr b)

    last : Among found k ⊎ Among (j ∷ []) k → Among found k ⊎ Among (j ∷ ks) k
    last (inl b) = inl b
    last (inr (inl e)) = inr (inl e)
    last (inr (inr b)) = elim b [ ]

    wider : Among (found ++ j ∷ []) k ⊎ Among ks k → Among found k ⊎ Among (j ∷ ks) k
    wider (inl b) = last (among-parts found (j ∷ []) k b)
    wider (inr b) = inr (inr b)

    by : (b : Bool) → Among (if b then joined found ks else joined (found ++ j ∷ []) ks) k → (Among (joined found ks) k → Among found k ⊎ Among ks k)
        → (Among (joined (found ++ j ∷ []) ks) k → Among (found ++ j ∷ []) k ⊎ Among ks k) → Among found k ⊎ Among (j ∷ ks) k
    by true c same more = behind (same c)
    by false c same more = wider (more c)

others-among : (own : LibName) (ks : List LibName) (k : LibName) → Among (others own ks) k → Among ks k × (k ≡ own → ⊥)
others-among own [] k a = elim a [ ]
others-among own (j ∷ ks) k a = by (same_library j own) refl a (others-among own ks k)
  where
    by : (b : Bool) → same_library j own ≡ b → Among (if b then others own ks else j ∷ others own ks) k → (Among (others own ks) k → Among ks k × (k ≡ own → ⊥)) → Among (j ∷ ks) k × (k ≡ own → ⊥)
    by true e c rest = let r = rest c in (inr r.0, r.1)
    by false e (inl is) rest = (inl is, (λ o. let same = (same_library_decides j own).1 (sym is ∙ o) in let bad : false ≡ true = sym e ∙ same in absurd (cc)))
    by false e (inr c) rest = let r = rest c in (inr r.0, r.1)

map-among : {A B : Type 0} (g : A → B) (xs : List A) (y : B) → Among (map g xs) y → (x : A) × (Among xs x × (y ≡ g x))
map-among g [] y a = elim a [ ]
map-among g (x ∷ xs) y (inl e) = (x, (inl refl, e))
map-among g (x ∷ xs) y (inr a) = let k = map-among g xs y a in (k.0, (inr k.1.0, k.1.1))

flat-among : {A B : Type 0} (g : A → List B) (xs : List A) (y : B) → Among (flat_map g xs) y → (x : A) × (Among xs x × Among (g x) y)
flat-among g [] y a = elim a [ ]
flat-among {A} {B} g (x ∷ xs) y a = by (among-parts (g x) (flat_map g xs) y a) (flat-among g xs y)
  where
    by : Among (g x) y ⊎ Among (flat_map g xs) y → (Among (flat_map g xs) y → (z : A) × (Among xs z × Among (g z) y)) → (z : A) × (Among (x ∷ xs) z × Among (g z) y)
    by (inl b) rest = (x, (inl refl, b))
    by (inr b) rest = let k = rest b in (k.0, (inr k.1.0, k.1.1))

with-kept : (ls ms : List Label) (l : Label) → Among ls l → Among (with_labels ls ms) l
with-kept ls [] l a = a
with-kept ls (m ∷ ms) l a = with-kept (with_label ls m) ms l (label-kept ls m l a)

with-there : (ls ms : List Label) (l : Label) → Among ms l → Among (with_labels ls ms) l
with-there ls [] l a = elim a [ ]
with-there ls (m ∷ ms) l (inl e) = subst (Among (with_labels (with_label ls m) ms)) (sym e) (with-kept (with_label ls m) ms m (label-put ls m))
with-there ls (m ∷ ms) l (inr a) = with-there (with_label ls m) ms l a

left-over : (bs ms : List Label) (l : Label) → (Among bs l → ⊥) → Among ms l → Among (without bs ms) l
left-over bs [] l free a = elim a [ ]
left-over bs (m ∷ ms) l free (inl e) = by (has_label bs m) (label-there bs m)
  where
    by : (b : Bool) → (b ≡ true → Among bs m) → Among (cond (not b) (m ∷ without bs ms) (without bs ms)) l
    by true is = absurd (free (subst (Among bs) (sym e) (is refl)))
    by false is = inl e
left-over bs (m ∷ ms) l free (inr a) = by (has_label bs m) (left-over bs ms l free a)
  where
    by : (b : Bool) → Among (without bs ms) l → Among (cond (not b) (m ∷ without bs ms) (without bs ms)) l
    by true k = k
    by false k = inr k

pub free-referenced : (c : PlainCore) (l : Label) → (Among (binders c) l → ⊥) → Among (mentions c) l → Among (references c) l
free-referenced c l free a = left-over (binders c) (with_labels [] (mentions c)) l free (with-there [] (mentions c) l a)

-- what a line defines is among the binders
label-bound : (xs : List Line) (l : Label) → Among (flat_map line_labels xs) l → Among (flat_map line_binders xs) l
label-bound [] l b = elim b [ ]
label-bound (x ∷ xs) l b = one (among-parts (line_labels x) (flat_map line_labels xs) l b) (label-bound xs l)
  where
    one : Among (line_labels x) l ⊎ Among (flat_map line_labels xs) l → (Among (flat_map line_labels xs) l → Among (flat_map line_binders xs) l) → Among (line_binders x ++ flat_map line_binders xs) l
    one (inl c) rest = among-first (line_binders x) (flat_map line_binders xs) l (among-first (line_labels x) (binders (line_core x)) l c)
    one (inr c) rest = among-second (line_binders x) (flat_map line_binders xs) l (rest c)

-- what a record that follows defines is named by it
follower-names : (earlier rs : List CompiledLibrary) → AllFollow earlier rs → (l : Label) → Among (flat_map defined rs) l → Among (names_of rs) l.0.library
follower-names earlier [] h l a = elim a [ ]
follower-names earlier (r ∷ rs) h l a = by (among-parts (defined r) (flat_map defined rs) l a) (follower-names (earlier ++ r ∷ []) rs h.1 l)
  where
    by : Among (defined r) l ⊎ Among (flat_map defined rs) l → (Among (flat_map defined rs) l → Among (names_of rs) l.0.library) → Among (names_of (r ∷ rs)) l.0.library
    by (inl b) rest = inl (each-at (λ (m : Label). IsOwn r m.0) (all_binders r) l h.0.own.own_binders (among-first (run_binders r) (flat_map binders (keywords r)) l (label-bound r.run l b)))
    by (inr b) rest = inr (rest b)

pub references-known : (r : CompiledLibrary) (records : List CompiledLibrary) → AllFollow [] records → ((l : Label) → Among (run_binders r) l → l.0.library ≡ r.name)
    → Each (λ c. Closed (flat_map defined records ++ defined r) c) (line_cores r) → Each (Among (names_of records)) (run_references r)
references-known r records follow mine closed = each-of (Among (names_of records)) (run_references r) known
  where
    line-bound : (xs : List Line) (c : PlainCore) (l : Label) → Among (map line_core xs) c → Among (binders c) l → Among (flat_map line_binders xs) l
    line-bound [] c l a b = elim a [ ]
    line-bound (x ∷ xs) c l (inl e) b = among-first (line_binders x) (flat_map line_binders xs) l (among-second (line_labels x) (binders (line_core x)) l (subst (λ (d : PlainCore). Among (binders d) l) e b))
    line-bound (x ∷ xs) c l (inr a) b = among-second (line_binders x) (flat_map line_binders xs) l (line-bound xs c l a b)

    given-known : (l : Label) → (l.0.library ≡ r.name → ⊥) → Among (flat_map defined records) l ⊎ Among (defined r) l → Among (names_of records) l.0.library
    given-known l foreign (inl a) = follower-names [] records follow l a
    given-known l foreign (inr a) = absurd (foreign (mine l (label-bound r.run l a)))

    of-label : (l : Label) → (l.0.library ≡ r.name → ⊥) → Among (flat_map mentions (line_cores r)) l → Among (names_of records) l.0.library
    of-label l foreign a =
        let found = flat-among mentions (line_cores r) l a in
        let c = found.0 in
        let free : Among (binders c) l → ⊥ = λ b. foreign (mine l (line-bound r.run c l found.1.0 b)) in
        let ls = flat_map defined records ++ defined r in
        let given = each-at (Among ls) (references c) l (references_given ls c (each-at (λ d. Closed ls d) (line_cores r) c closed found.1.0)) (free-referenced c l free found.1.1) in
        given-known l foreign (among-parts (flat_map defined records) (defined r) l given)

    from-others : (k : LibName) → Among [] k ⊎ Among (others r.name (mentioned r)) k → Among (names_of records) k
    from-others k (inl a) = elim a [ ]
    from-others k (inr a) =
        let o = others-among r.name (mentioned r) k a in
        let found = map-among library_of (flat_map mentions (line_cores r)) k o.0 in
        subst (Among (names_of records)) (sym found.1.1) (of-label found.0 (λ e. o.1 (found.1.1 ∙ e)) found.1.0)

    known : (k : LibName) → Among (run_references r) k → Among (names_of records) k
    known k a = from-others k (joined-among [] (others r.name (mentioned r)) k a)
