-- Import sets as finite maps.
use Rattle.std.proofs.Common.{◌≡◌, ◌∙◌, sym, ap, true≢false, ℕ, cond, append_assoc, subst}
use Rattle.std.proofs.lemmas.List.{append-nil}
use Rattle.std.specs.Prelude.{Bool, true, false, List, [], ◌∷◌, ◌++◌, ◌&&◌, Option, None, Some, Result, Ok, Err, is_some, refl, filter, not, if◌then◌else◌}
use Rattle.std.specs.Cmp.{unsigned_Decides}
use Rattle.base_data.specs.Gives.{◌>>=◌}
use Rattle.base_data.specs.Same.{texts_decides, same_name_cases}
use Rattle.base_data.specs.declared.fault.Fault.{Fault}
use Rattle.base_data.specs.declared.imported_name.ImportedName.{ImportedName}
use Rattle.base_data.specs.declared.name.Label.{Label}
use Rattle.base_data.specs.declared.span.Span.{Span}
use Rattle.law_imports.specs.Algebra.{or_else, IsOnce, Has, Conflicts}
use Rattle.load_import.specs.Names.{Labelled, label_named, only, except, prefixed, is_among, join_by, join_one, joined, same_label, conflict}
use Rattle.load_import.specs.Table.{same_text}
use Rattle.load_import.specs.Turns.{turns}
use Rattle.load_import.specs.declared.set.NameAt.{NameAt}

pub same_of : (a b : List ℕ) → same_text a b ≡ true → a ≡ b
same_of a b h = (texts_decides a b).0 h

pub same_self : (a : List ℕ) → same_text a a ≡ true
same_self a = (texts_decides a a).1 refl

-- names that pass a test
pub value-filter : (keep : List ℕ → Bool) (names : Labelled) (n : List ℕ) → label_named n (filter (λ e. keep e.name) names) ≡ (if keep n then label_named n names else None)
value-filter keep [] n = none (keep n)
  where
    none : (b : Bool) → ◌≡◌ {A = Option Label} None (if b then None else None)
    none true = refl
    none false = refl
value-filter keep (e ∷ es) n = by (keep e.name) refl (value-filter keep es n)
  where
    hit : keep e.name ≡ true → label_named n (filter (λ e. keep e.name) es) ≡ (if keep n then label_named n es else None)
        → (s : Bool) → same_text n e.name ≡ s → cond s (Some e.label) (label_named n (filter (λ e. keep e.name) es)) ≡ (if keep n then cond s (Some e.label) (label_named n es) else None)
    hit k ih true h = sym (ap (λ b. cond b (Some e.label) None) (ap keep (same_of n e.name h) ∙ k))
    hit k ih false h = ih

    miss : keep e.name ≡ false → label_named n (filter (λ e. keep e.name) es) ≡ (if keep n then label_named n es else None)
        → (s : Bool) → same_text n e.name ≡ s → label_named n (filter (λ e. keep e.name) es) ≡ (if keep n then cond s (Some e.label) (label_named n es) else None)
    miss k ih true h =
        let out = ap keep (same_of n e.name h) ∙ k in
        ih ∙ ap (λ b. cond b (label_named n es) None) out ∙ sym (ap (λ b. cond b (Some e.label) None) out)
    miss k ih false h = ih

    by : (k : Bool) → keep e.name ≡ k → label_named n (filter (λ e. keep e.name) es) ≡ (if keep n then label_named n es else None)
        → label_named n (cond k (e ∷ filter (λ e. keep e.name) es) (filter (λ e. keep e.name) es)) ≡ (if keep n then cond (same_text n e.name) (Some e.label) (label_named n es) else None)
    by true k ih = hit k ih (same_text n e.name) refl
    by false k ih = miss k ih (same_text n e.name) refl

pub value-only : (ids : List NameAt) (names : Labelled) (n : List ℕ) → label_named n (only ids names) ≡ (if is_among ids n then label_named n names else None)
value-only ids names n = value-filter (is_among ids) names n

pub value-except : (ids : List NameAt) (names : Labelled) (n : List ℕ) → label_named n (except ids names) ≡ (if is_among ids n then None else label_named n names)
value-except ids names n = value-filter (λ m. not (is_among ids m)) names n ∙ by (is_among ids n)
  where
    by : (b : Bool) → (if not b then label_named n names else None) ≡ (if b then None else label_named n names)
    by true = refl
    by false = refl

-- a prefix moves each name
same_behind : (p a b : List ℕ) → same_text (p ++ a) (p ++ b) ≡ same_text a b
same_behind [] a b = refl
same_behind (x ∷ p) a b = ap (λ s. s && same_text (p ++ a) (p ++ b)) ((unsigned_Decides x x).1 refl) ∙ same_behind p a b

pub value-prefixed : (p : List ℕ) (names : Labelled) (n : List ℕ) → label_named (p ++ n) (prefixed p names) ≡ label_named n names
value-prefixed p [] n = refl
value-prefixed p (e ∷ es) n =
    ap (λ s. cond s (Some e.label) (label_named (p ++ n) (prefixed p es))) (same_behind p n e.name) ∙ ap (λ o. cond (same_text n e.name) (Some e.label) o) (value-prefixed p es n)

-- the joined names
or_else-none : {A : Type 0} (a : Option A) → or_else a None ≡ a
or_else-none None = refl
or_else-none (Some a) = refl

or_else-assoc : {A : Type 0} (a b c : Option A) → or_else (or_else a b) c ≡ or_else a (or_else b c)
or_else-assoc None b c = refl
or_else-assoc (Some a) b c = refl

pub value-append : (n : List ℕ) (es fs : Labelled) → label_named n (es ++ fs) ≡ or_else (label_named n es) (label_named n fs)
value-append n [] fs = refl
value-append n (e ∷ es) fs = by (same_text n e.name) (value-append n es fs)
  where
    by : (b : Bool) → label_named n (es ++ fs) ≡ or_else (label_named n es) (label_named n fs) → cond b (Some e.label) (label_named n (es ++ fs)) ≡ or_else (cond b (Some e.label) (label_named n es)) (label_named n fs)
    by true h = refl
    by false h = h

-- what is there already adds nothing
covered : (n : List ℕ) (all : Labelled) (e : ImportedName) (l : Label) (es : Labelled) → label_named e.name all ≡ Some l → or_else (label_named n all) (label_named n es) ≡ or_else (label_named n all) (label_named n (e ∷ es))
covered n all e l es h = by (same_text n e.name) refl
  where
    by : (s : Bool) → same_text n e.name ≡ s → or_else (label_named n all) (label_named n es) ≡ or_else (label_named n all) (cond s (Some e.label) (label_named n es))
    by true same =
        let there : label_named n all ≡ Some l = ap (λ m. label_named m all) (same_of n e.name same) ∙ h in
        ap (λ o. or_else o (label_named n es)) there ∙ sym (ap (λ o. or_else o (Some e.label)) there)
    by false same = refl

added : (n : List ℕ) (all : Labelled) (e : ImportedName) (es : Labelled) → or_else (label_named n (all ++ e ∷ [])) (label_named n es) ≡ or_else (label_named n all) (label_named n (e ∷ es))
added n all e es =
    ap (λ o. or_else o (label_named n es)) (value-append n all (e ∷ [])) ∙ or_else-assoc (label_named n all) (label_named n (e ∷ [])) (label_named n es)
    ∙ ap (or_else (label_named n all)) (sym (value-append n (e ∷ []) es))

-- a value and a fault are two things
pub no_value : {A : Type 0} (f : Fault) (a : A) → ◌≡◌ {A = Result A Fault} (Err f) (Ok a) → ⊥
no_value f a h = cc

no_fault : {A : Type 0} (f : Fault) (a : A) → ◌≡◌ {A = Result A Fault} (Ok a) (Err f) → ⊥
no_fault f a h = cc

same_fault : {A : Type 0} (f g : Fault) → ◌≡◌ {A = Result A Fault} (Err f) (Err g) → f ≡ g
same_fault f g h = cc

pub same_value : {A : Type 0} (a b : A) → ◌≡◌ {A = Result A Fault} (Ok a) (Ok b) → a ≡ b
same_value a b h = cc

-- what one step of joining is
module _ (span : Span) where
  abbrev ahead : Labelled → Labelled → Result Labelled Fault → Result Labelled Fault
  ahead all es o = o >>= (λ t. turns (join_one span) t es)

  pub value-joined : (all more r : Labelled) → joined span all more ≡ Ok r → (n : List ℕ) → label_named n r ≡ or_else (label_named n all) (label_named n more)
  value-joined all [] r h n = let same : all ≡ r = same_value all r h in ap (label_named n) (sym same) ∙ sym (or_else-none (label_named n all))
  value-joined all (e ∷ es) r h n = by (λ t k. value-joined t es r k n) (label_named e.name all) refl h
    where
      Rest : Type 0
      Rest = (t : Labelled) → joined span t es ≡ Ok r → label_named n r ≡ or_else (label_named n t) (label_named n es)

      again : Rest → (l : Label) (b : Bool) → label_named e.name all ≡ Some l → ahead all es (if b then Ok all else Err (conflict span e.name)) ≡ Ok r → label_named n r ≡ or_else (label_named n all) (label_named n (e ∷ es))
      again rest l true there h = rest all h ∙ covered n all e l es there
      again rest l false there h = absurd (no_value (conflict span e.name) r h)

      by : Rest → (o : Option Label) → label_named e.name all ≡ o → ahead all es (join_by span all e o) ≡ Ok r → label_named n r ≡ or_else (label_named n all) (label_named n (e ∷ es))
      by rest None there h = rest (all ++ e ∷ []) h ∙ added n all e es
      by rest (Some l) there h = again rest l (same_label l e.label) there h

  -- each name stands for its label
  pub has-joined : (all more r : Labelled) → joined span all more ≡ Ok r → Has r more
  has-joined all [] r h = tt
  has-joined all (e ∷ es) r h = by (λ t k. has-joined t es r k) (label_named e.name all) refl h
    where
      Rest : Type 0
      Rest = (t : Labelled) → joined span t es ≡ Ok r → Has r es

      kept : Rest → (t : Labelled) → label_named e.name t ≡ Some e.label → joined span t es ≡ Ok r → Has r (e ∷ es)
      kept rest t there h = (value-joined t es r h e.name ∙ ap (λ o. or_else o (label_named e.name es)) there, rest t h)

      again : Rest → (l : Label) (b : Bool) → same_label l e.label ≡ b → label_named e.name all ≡ Some l → ahead all es (if b then Ok all else Err (conflict span e.name)) ≡ Ok r → Has r (e ∷ es)
      again rest l true same there h =
          let one : l.0 ≡ e.label.0 = (same_name_cases l.0 e.label.0).0 same in
          let label : l ≡ e.label = λ i. record { 0 = one i } in
          kept rest all (there ∙ ap Some label) h
      again rest l false same there h = absurd (no_value (conflict span e.name) r h)

      by : Rest → (o : Option Label) → label_named e.name all ≡ o → ahead all es (join_by span all e o) ≡ Ok r → Has r (e ∷ es)
      by rest None there h = kept rest (all ++ e ∷ []) (value-append e.name all (e ∷ []) ∙ ap (λ o. or_else o (label_named e.name (e ∷ []))) there ∙ ap (λ b. cond b (Some e.label) None) (same_self e.name)) h
      by rest (Some l) there h = again rest l (same_label l e.label) refl there h

  -- no name comes to stand twice
  once-end : (all : Labelled) (e : ImportedName) → IsOnce all → label_named e.name all ≡ None → IsOnce (all ++ e ∷ [])
  once-end [] e o h = (refl, tt)
  once-end (a ∷ rs) e o h = by (once-end rs e o.1) (same_text e.name a.name) refl h
    where
      by : (label_named e.name rs ≡ None → IsOnce (rs ++ e ∷ [])) → (s : Bool) → same_text e.name a.name ≡ s → cond s (Some a.label) (label_named e.name rs) ≡ None → IsOnce (a ∷ rs ++ e ∷ [])
      by rest true same h = cc
      by rest false same h = (ap is_some (value-append a.name rs (e ∷ [])) ∙ other (label_named a.name rs) (same_text a.name e.name) o.0 refl, rest h)
        where
          other : (v : Option Label) (t : Bool) → is_some v ≡ false → same_text a.name e.name ≡ t → is_some (or_else v (cond t (Some e.label) None)) ≡ false
          other (Some l) t h g = h
          other None false h g = refl
          other None true h g = let back : same_text e.name a.name ≡ true = ap (λ x. same_text e.name x) (same_of a.name e.name g) ∙ same_self e.name in absurd (true≢false (sym back ∙ same))

  pub once-joined : (all more r : Labelled) → IsOnce all → joined span all more ≡ Ok r → IsOnce r
  once-joined all [] r o h = let same : all ≡ r = same_value all r h in subst IsOnce same o
  once-joined all (e ∷ es) r o h = by (λ t p k. once-joined t es r p k) (label_named e.name all) refl h
    where
      Rest : Type 0
      Rest = (t : Labelled) → IsOnce t → joined span t es ≡ Ok r → IsOnce r

      again : Rest → (b : Bool) → ahead all es (if b then Ok all else Err (conflict span e.name)) ≡ Ok r → IsOnce r
      again rest true h = rest all o h
      again rest false h = absurd (no_value (conflict span e.name) r h)

      by : Rest → (v : Option Label) → label_named e.name all ≡ v → ahead all es (join_by span all e v) ≡ Ok r → IsOnce r
      by rest None there h = rest (all ++ e ∷ []) (once-end all e o there) h
      by rest (Some l) there h = again rest (same_label l e.label) h

  -- a fault is a name that stood for another label
  pub conflict-joined : (all more : Labelled) (f : Fault) → joined span all more ≡ Err f → Conflicts span all more f
  conflict-joined all [] f h = absurd (no_fault f all h)
  conflict-joined all (e ∷ es) f h = by (λ t k. conflict-joined t es f k) (label_named e.name all) refl h
    where
      further : (t : Labelled) → ((x : List ℕ) (bs : Labelled) → label_named x (t ++ bs) ≡ label_named x (all ++ e ∷ bs)) → Conflicts span t es f → Conflicts span all (e ∷ es) f
      further t same k = (e ∷ k.0, k.1, k.2, k.3, ap (λ xs. e ∷ xs) k.4, sym (same k.2.name k.0) ∙ k.5, k.6, k.7)

      Rest : Type 0
      Rest = (t : Labelled) → joined span t es ≡ Err f → Conflicts span t es f

      again : Rest → (l : Label) (b : Bool) → same_label l e.label ≡ b → label_named e.name all ≡ Some l → ahead all es (if b then Ok all else Err (conflict span e.name)) ≡ Err f → Conflicts span all (e ∷ es) f
      again rest l true same there h =
          further all (λ x bs. value-append x all bs ∙ covered x all e l bs there ∙ sym (value-append x all (e ∷ bs))) (rest all h)
      again rest l false same there h =
          let fault : conflict span e.name ≡ f = same_fault {A = Labelled} (conflict span e.name) f h in
          let differ : l ≡ e.label → ⊥ = λ q. true≢false (sym ((same_name_cases l.0 e.label.0).1 (ap (λ (x : Label). x.0) q)) ∙ same) in
          ([], es, e, l, refl, ap (label_named e.name) (append-nil all) ∙ there, differ, sym fault)

      by : Rest → (o : Option Label) → label_named e.name all ≡ o → ahead all es (join_by span all e o) ≡ Err f → Conflicts span all (e ∷ es) f
      by rest None there h = further (all ++ e ∷ []) (λ x bs. ap (label_named x) (append_assoc all (e ∷ []) bs)) (rest (all ++ e ∷ []) h)
      by rest (Some l) there h = again rest l (same_label l e.label) refl there h
