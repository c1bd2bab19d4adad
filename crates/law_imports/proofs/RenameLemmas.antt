-- What `prefix` and `rename` give.
use Rattle.std.proofs.Common.{◌≡◌, ◌∙◌, sym, ap, refl, true≢false, ℕ, zero, suc, cond, append_assoc, subst}
use Rattle.std.proofs.lemmas.List.{append-nil}
use Rattle.std.specs.Prelude.{Bool, true, false, List, [], ◌∷◌, ◌++◌, Option, None, Some, Result, Ok, Err, is_some, filter, not, if◌then◌else◌}
use Rattle.std.specs.List.{find}
use Rattle.base_data.specs.Gives.{◌>>=◌}
use Rattle.base_data.specs.declared.fault.Fault.{Fault}
use Rattle.base_data.specs.declared.imported_name.ImportedName.{ImportedName}
use Rattle.base_data.specs.declared.name.Label.{Label}
use Rattle.base_data.specs.declared.span.Span.{Span}
use Rattle.load_import.specs.Names.{Labelled, label_named, put_each, only, except, prefixed, renamed, new_name, is_among, has_name, missing_at, need, need_by, sources, join_by, join_one, joined, same_label, conflict, step_names}
use Rattle.load_import.specs.Table.{same_text}
use Rattle.load_import.specs.Turns.{turns}
use Rattle.load_import.specs.declared.set.NameAt.{NameAt}
use Rattle.load_import.specs.declared.set.Renaming.{Renaming}
use Rattle.load_import.specs.declared.set.ImportStep.{ImportStep}
use Rattle.load_import.specs.declared.set.ImportStep.TheVariants as step
use Rattle.law_imports.specs.Algebra.{or_else, IsOnce, Has}
use Rattle.law_imports.specs.Renames.{PrefixMovesEachInPlace, PrefixLeavesNoneWithout, PrefixKeepsNamesOnce, RenameGivesEachOnce, RenameKeepsLabels, RenameKeepsOrder, RenameKeepsLabelsApart, RenameIsOneToOne, ImportsGiveEachOnce}
use Rattle.law_imports.proofs.AlgebraLemmas.{same_of, same_self, value-append, value-filter, value-prefixed, value-joined, has-joined, once-joined, no_value, same_value}

-- ---- prefix

pub prefix_in_place : PrefixMovesEachInPlace
prefix_in_place p [] i = refl
prefix_in_place p (e ∷ es) zero = refl
prefix_in_place p (e ∷ es) (suc i) = prefix_in_place p es i

pub prefix_of : PrefixLeavesNoneWithout
prefix_of p names m l h = found names h
  where
    Found : Labelled → Type 0
    Found names = (n : List ℕ) × (p ++ n ≡ m)

    search : (names : Labelled) → label_named m (prefixed p names) ≡ Some l → Found names
    search [] h = cc
    search (e ∷ es) h = by (same_text m (p ++ e.name)) refl h (search es)
      where
        by : (b : Bool) → same_text m (p ++ e.name) ≡ b → cond b (Some e.label) (label_named m (prefixed p es)) ≡ Some l → (label_named m (prefixed p es) ≡ Some l → Found es) → Found (e ∷ es)
        by true s h rest = (e.name, sym (same_of m (p ++ e.name) s))
        by false s h rest = rest h

    found : (names : Labelled) → label_named m (prefixed p names) ≡ Some l → (n : List ℕ) × (p ++ n ≡ m) × (label_named n names ≡ Some l)
    found names h =
        let f = search names h in
        (f.0, f.1, sym (value-prefixed p names f.0) ∙ ap (λ x. label_named x (prefixed p names)) f.1 ∙ h)

pub once-prefixed : PrefixKeepsNamesOnce
once-prefixed p [] o = tt
once-prefixed p (e ∷ es) o = (ap is_some (value-prefixed p es e.name) ∙ o.0, once-prefixed p es o.1)

-- ---- rename

pub rename_once : RenameGivesEachOnce
rename_once rs names r h = once-joined h.0 [] (renamed rs names) r tt h.1

-- an entry with this label whose name becomes this one
module _ (rs : List Renaming) (m : List ℕ) (l : Label) where
  abbrev Comes : Labelled → Type 0
  Comes names = (n : List ℕ) × (new_name rs n ≡ m) × (label_named n names ≡ Some l)

  comes_first : (e : ImportedName) (es : Labelled) → new_name rs e.name ≡ m → e.label ≡ l → Comes (e ∷ es)
  comes_first e es name label = (e.name, name, ap (λ b. cond b (Some e.label) (label_named e.name es)) (same_self e.name) ∙ ap Some label)

  comes_later : (e : ImportedName) (es : Labelled) → IsOnce (e ∷ es) → Comes es → Comes (e ∷ es)
  comes_later e es o c = (c.0, c.1, by (same_text c.0 e.name) refl)
    where
      by : (b : Bool) → same_text c.0 e.name ≡ b → cond b (Some e.label) (label_named c.0 es) ≡ Some l
      by false s = c.2
      by true s =
          let there : label_named e.name es ≡ Some l = ap (λ n. label_named n es) (sym (same_of c.0 e.name s)) ∙ c.2 in
          absurd (true≢false (sym (ap is_some there) ∙ o.0))

  comes : (names : Labelled) → IsOnce names → label_named m (renamed rs names) ≡ Some l → Comes names
  comes [] o h = cc
  comes (e ∷ es) o h = by (same_text m (new_name rs e.name)) refl h (comes es o.1)
    where
      by : (b : Bool) → same_text m (new_name rs e.name) ≡ b → cond b (Some e.label) (label_named m (renamed rs es)) ≡ Some l → (label_named m (renamed rs es) ≡ Some l → Comes es) → Comes (e ∷ es)
      by true s h rest = let label : e.label ≡ l = cc in comes_first e es (sym (same_of m (new_name rs e.name) s)) label
      by false s h rest = comes_later e es o (rest h)

-- each name stands for its label under its new name
goes : (rs : List Renaming) (names r : Labelled) → Has r (renamed rs names) → (n : List ℕ) (l : Label) → label_named n names ≡ Some l → label_named (new_name rs n) r ≡ Some l
goes rs [] r has n l h = cc
goes rs (e ∷ es) r has n l h = by (same_text n e.name) refl h (goes rs es r has.1 n l)
  where
    by : (b : Bool) → same_text n e.name ≡ b → cond b (Some e.label) (label_named n es) ≡ Some l → (label_named n es ≡ Some l → label_named (new_name rs n) r ≡ Some l) → label_named (new_name rs n) r ≡ Some l
    by true s h rest = ap (λ x. label_named (new_name rs x) r) (same_of n e.name s) ∙ has.0 ∙ h
    by false s h rest = rest h

pub rename_labels : RenameKeepsLabels
rename_labels rs names r o h m l = (
  λ k. comes rs m l names o (sym (value-joined h.0 [] (renamed rs names) r h.1 m) ∙ k),
  λ k. ap (λ x. label_named x r) (sym k.1) ∙ goes rs names r (has-joined h.0 [] (renamed rs names) r h.1) k.0 l k.2,
)

pub rename_apart : RenameKeepsLabelsApart
rename_apart rs names r h n m l k a b same =
    let has = has-joined h.0 [] (renamed rs names) r h.1 in
    let one : ◌≡◌ {A = Option Label} (Some l) (Some k) = sym (goes rs names r has n l a) ∙ ap (λ x. label_named x r) same ∙ goes rs names r has m k b in
    cc

-- joined names stand in their order
module _ (span : Span) where
  abbrev ahead : Labelled → Labelled → Result Labelled Fault → Result Labelled Fault
  ahead all es o = o >>= (λ t. turns (join_one span) t es)

  put-joined : (all more r : Labelled) → joined span all more ≡ Ok r → r ≡ put_each all more
  put-joined all [] r h = sym (same_value all r h)
  put-joined all (e ∷ es) r h = by (λ t k. put-joined t es r k) (label_named e.name all) refl h
    where
      Rest : Type 0
      Rest = (t : Labelled) → joined span t es ≡ Ok r → r ≡ put_each t es

      as_put : (b : Bool) → is_some (label_named e.name all) ≡ b → put_each (if b then all else all ++ e ∷ []) es ≡ put_each all (e ∷ es)
      as_put b h = ap (λ c. put_each (if c then all else all ++ e ∷ []) es) (sym h)

      again : Rest → (l : Label) (b : Bool) → label_named e.name all ≡ Some l → ahead all es (if b then Ok all else Err (conflict span e.name)) ≡ Ok r → r ≡ put_each all (e ∷ es)
      again rest l true there h = rest all h ∙ as_put true (ap is_some there)
      again rest l false there h = absurd (no_value (conflict span e.name) r h)

      by : Rest → (o : Option Label) → label_named e.name all ≡ o → ahead all es (join_by span all e o) ≡ Ok r → r ≡ put_each all (e ∷ es)
      by rest None there h = rest (all ++ e ∷ []) h ∙ as_put false (ap is_some there)
      by rest (Some l) there h = again rest l (same_label l e.label) there h

  -- names that are all new join as they are
  AreNew : Labelled → Labelled → Type 0
  AreNew all [] = Unit {0}
  AreNew all (e ∷ es) = (label_named e.name all ≡ None) × AreNew all es

  new_still : (all : Labelled) (e : ImportedName) (es : Labelled) → is_some (label_named e.name es) ≡ false → AreNew all es → AreNew (all ++ e ∷ []) es
  unfolding AreNew
  new_still all e [] h n = tt
  new_still all e (f ∷ fs) h n = by (same_text e.name f.name) refl h (new_still all e fs)
    where
      other : (b : Bool) → same_text f.name e.name ≡ b → same_text e.name f.name ≡ false → cond b (Some e.label) None ≡ None
      other false s k = refl
      other true s k = absurd (true≢false (sym (same_self e.name) ∙ ap (same_text e.name) (sym (same_of f.name e.name s)) ∙ k))

      by : (b : Bool) → same_text e.name f.name ≡ b → is_some (cond b (Some f.label) (label_named e.name fs)) ≡ false → (is_some (label_named e.name fs) ≡ false → AreNew all fs → AreNew (all ++ e ∷ []) fs)
          → (label_named f.name (all ++ e ∷ []) ≡ None) × AreNew (all ++ e ∷ []) fs
      by true s h rest = cc
      by false s h rest = (value-append f.name all (e ∷ []) ∙ ap (λ o. or_else o (label_named f.name (e ∷ []))) n.0 ∙ other (same_text f.name e.name) refl s, rest h n.1)

  new_at_first : (es : Labelled) → AreNew [] es
  unfolding AreNew
  new_at_first [] = tt
  new_at_first (e ∷ es) = (refl, new_at_first es)

  joined-new : (all more : Labelled) → IsOnce more → AreNew all more → joined span all more ≡ Ok (all ++ more)
  unfolding AreNew
  joined-new all [] o n = ap Ok (sym (append-nil all))
  joined-new all (e ∷ es) o n =
      ap (λ x. ahead all es (join_by span all e x)) n.0 ∙ joined-new (all ++ e ∷ []) es o.1 (new_still all e es o.0 n.1) ∙ ap Ok (append_assoc all (e ∷ []) es)

pub rename_order : RenameKeepsOrder
rename_order rs names r h = put-joined h.0 [] (renamed rs names) r h.1

pub rename_one_to_one : RenameIsOneToOne
rename_one_to_one span rs names o = joined-new span [] (renamed rs names) o (new_at_first span (renamed rs names))

-- ---- a whole import set

once-filter : (keep : List ℕ → Bool) (names : Labelled) → IsOnce names → IsOnce (filter (λ e. keep e.name) names)
once-filter keep [] o = tt
once-filter keep (e ∷ es) o = by (keep e.name) (once-filter keep es o.1)
  where
    none : (b : Bool) → is_some (if b then label_named e.name es else None) ≡ false
    none true = o.0
    none false = refl

    by : (k : Bool) → IsOnce (filter (λ e. keep e.name) es) → IsOnce (cond k (e ∷ filter (λ e. keep e.name) es) (filter (λ e. keep e.name) es))
    by true h = (ap is_some (value-filter keep es e.name) ∙ none (keep e.name), h)
    by false h = h

needed : (names : Labelled) (ids : List NameAt) (x : Result Labelled Fault) (r : Labelled) → need names ids x ≡ Ok r → x ≡ Ok r
needed names ids x r h = by (find (λ id. not (has_name names id.name)) ids) h
  where
    by : (o : Option NameAt) → need_by o x ≡ Ok r → x ≡ Ok r
    by None h = h
    by (Some id) h = absurd (no_value (missing_at id) r h)

once-step : (span : Span) (names : Labelled) (s : ImportStep) (r : Labelled) → IsOnce names → step_names span names s ≡ Ok r → IsOnce r
once-step span names (step.Only ids) r o h = subst IsOnce (same_value (only ids names) r (needed names ids (Ok (only ids names)) r h)) (once-filter (is_among ids) names o)
once-step span names (step.Except ids) r o h =
    subst IsOnce (same_value (except ids names) r (needed names ids (Ok (except ids names)) r h)) (once-filter (λ n. not (is_among ids n)) names o)
once-step span names (step.Prefix symbol) r o h = subst IsOnce (same_value (prefixed symbol names) r h) (once-prefixed symbol names o)
once-step span names (step.Rename rs) r o h = once-joined span [] (renamed rs names) r tt (needed names (sources rs) (joined span [] (renamed rs names)) r h)

once-steps : (span : Span) (names : Labelled) (steps : List ImportStep) (r : Labelled) → IsOnce names → turns (step_names span) names steps ≡ Ok r → IsOnce r
once-steps span names [] r o h = subst IsOnce (same_value names r h) o
once-steps span names (s ∷ ss) r o h = by (step_names span names s) refl h (λ t p k. once-steps span t ss r p k)
  where
    by : (a : Result Labelled Fault) → step_names span names s ≡ a → (a >>= (λ t. turns (step_names span) t ss)) ≡ Ok r → ((t : Labelled) → IsOnce t → turns (step_names span) t ss ≡ Ok r → IsOnce r) → IsOnce r
    by (Ok t) e h rest = rest t (once-step span names s t o e) h
    by (Err f) e h rest = absurd (no_value f r h)

pub once-imported : ImportsGiveEachOnce
once-imported set span exports names h = by (joined span [] exports) refl h
  where
    by : (a : Result Labelled Fault) → joined span [] exports ≡ a → (a >>= (λ t. turns (step_names span) t set.steps)) ≡ Ok names → IsOnce names
    by (Ok t) e h = once-steps span t set.steps names (once-joined span [] exports t tt e) h
    by (Err f) e h = absurd (no_value f names h)
