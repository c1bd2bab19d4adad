-- Each label that a form imports is one that a library exports.
use Rattle.std.proofs.Common.{◌≡◌, ℕ, Bool, true, false, List, [], ◌∷◌, ◌++◌, Result, Ok, Err, Option, Some, None, refl, sym, subst, cond, inl, inr}
use Rattle.std.specs.Prelude.{map, filter, not, option_map, if◌then◌else◌}
use Rattle.std.specs.List.{find}
use Rattle.base_data.proofs.ElementLemmas.{each-append}
use Rattle.base_data.specs.Elements.{Each, Among}
use Rattle.base_data.specs.Gives.{◌>>=◌}
use Rattle.base_data.specs.Same.{same_library}
use Rattle.base_data.specs.declared.fault.Fault.{Fault}
use Rattle.base_data.specs.declared.imported_name.ImportedName.{ImportedName}
use Rattle.base_data.specs.declared.library.LibName.{LibName}
use Rattle.base_data.specs.declared.library.LibName.TheVariants as library
use Rattle.base_data.specs.declared.name.Label.{Label}
use Rattle.base_data.specs.declared.span.Span.{Span}
use Rattle.load_builtin.specs.Exports.{exports, export, library_exports, core_unless, derived_place}
use Rattle.load_builtin.specs.Libraries.{library_named, library_numbers}
use Rattle.load_builtin.specs.declared.library.Library.{Library}
use Rattle.core_language.specs.declared.record.CompiledLibrary.{CompiledLibrary}
use Rattle.law_expand.proofs.Fresh.{each-map}
use Rattle.load_forms.specs.declared.set.Import.{Import}
use Rattle.load_import.specs.Names.{Labelled, label_named, same_label, conflict, join_by, join_one, joined, has_name, need_by, need, is_among, only, except, prefixed, new_name, renamed, sources, step_names, import_names}
use Rattle.load_import.specs.Table.{same_text}
use Rattle.load_import.specs.Turns.{turns}
use Rattle.load_import.specs.declared.set.NameAt.{NameAt}
use Rattle.load_import.specs.declared.set.ImportStep.{ImportStep}
use Rattle.load_import.specs.declared.set.ImportStep.TheVariants.{Only, Except, Prefix, Rename}
use Rattle.run_derived.specs.Derived.{label_or, relabelled_in}
use Rattle.run_library.specs.Imports.{named, refer, record_exports, given_names, exported_by, exported, import_into, form_names}
use Rattle.law_expand.specs.Serves.{IsOfImplementation, IsThere, AllServe}
use Rattle.law_run.proofs.NameLemmas.{exports_there}

-- each imported label is of a library that is there
abbrev pub ImportsAreThere : List CompiledLibrary → Labelled → Type 0
ImportsAreThere records imports = Each (λ (e : ImportedName). IsThere records e.label.0.library) imports

-- what each step keeps holds at the end
pub turns_keep : {S X : Type 0} (step : S → X → Result S Fault) (P : S → Type 0) (Q : X → Type 0) → ((s t : S) (x : X) → P s → Q x → step s x ≡ Ok t → P t)
    → (xs : List X) (s t : S) → Each Q xs → P s → turns step s xs ≡ Ok t → P t
turns_keep step P Q one [] s t q h e = let same : s ≡ t = cc in subst P same h
turns_keep {S} {X} step P Q one (x ∷ xs) s t q h e = by (λ u g f. turns_keep step P Q one xs u t q.1 g f) (step s x) refl e
  where
    by : ((u : S) → P u → turns step u xs ≡ Ok t → P t) → (r : Result S Fault) → step s x ≡ r → (r >>= (λ u. turns step u xs)) ≡ Ok t → P t
    by rest (Ok u) g e = rest u (one s u x h q.0 g) e
    by rest (Err f) g e = absurd (cc)

-- steps on anything
abbrev Any : {X : Type 0} → X → Type 0
Any x = Unit {0}

each_any : {X : Type 0} (xs : List X) → Each Any xs
each_any [] = tt
each_any (x ∷ xs) = (tt, each_any xs)

each_filter : {A : Type 0} (P : A → Type 0) (keep : A → Bool) (xs : List A) → Each P xs → Each P (filter keep xs)
each_filter P keep [] h = tt
each_filter P keep (x ∷ xs) h = by (keep x) (each_filter P keep xs h.1)
  where
    by : (b : Bool) → Each P (filter keep xs) → Each P (if b then x ∷ filter keep xs else filter keep xs)
    by true rest = (h.0, rest)
    by false rest = rest

pub found_among : {A : Type 0} (p : A → Bool) (xs : List A) (x : A) → find p xs ≡ Some x → Among xs x
found_among p [] x h = absurd (cc)
found_among {A} p (y ∷ ys) x h = by (p y) (found_among p ys x) h
  where
    by : (b : Bool) → (find p ys ≡ Some x → Among ys x) → (if b then Some y else find p ys) ≡ Some x → Among (y ∷ ys) x
    by true rest h = let same : y ≡ x = cc in inl (sym same)
    by false rest h = inr (rest h)

-- ---- import sets give labels that they are given

module _ (P : Label → Type 0) where
  abbrev pub LabelIs : ImportedName → Type 0
  LabelIs e = P e.label

  abbrev pub LabelsAre : Labelled → Type 0
  LabelsAre names = Each LabelIs names

  one_joined : (span : Span) (names r : Labelled) (e : ImportedName) → LabelsAre names → P e.label → join_one span names e ≡ Ok r → LabelsAre r
  one_joined span names r e h p k = by (label_named e.name names) k
    where
      again : (b : Bool) → ◌≡◌ {A = Result Labelled Fault} (if b then Ok names else Err (conflict span e.name)) (Ok r) → LabelsAre r
      again true k = let same : names ≡ r = cc in subst LabelsAre same h
      again false k = absurd (cc)

      by : (o : Option Label) → join_by span names e o ≡ Ok r → LabelsAre r
      by None k = let same : names ++ e ∷ [] ≡ r = cc in subst LabelsAre same (each-append LabelIs names (e ∷ []) h (p, tt))
      by (Some l) k = again (same_label l e.label) k

  all_joined : (span : Span) (names more r : Labelled) → LabelsAre names → LabelsAre more → joined span names more ≡ Ok r → LabelsAre r
  all_joined span names more r h k e = turns_keep (join_one span) LabelsAre LabelIs (λ s t x g p f. one_joined span s t x g p f) more names r k h e

  -- names are changed, and labels stay
  moved : (f : ImportedName → List ℕ) (names : Labelled) → LabelsAre names → LabelsAre (map (λ (e : ImportedName). record { name = f e; label = e.label }) names)
  moved f [] h = tt
  moved f (e ∷ es) h = (h.0, moved f es h.1)

  needed_is : (names : Labelled) (ids : List NameAt) (x : Result Labelled Fault) (r : Labelled) → need names ids x ≡ Ok r → x ≡ Ok r
  needed_is names ids x r h = by (find (λ (id : NameAt). not (has_name names id.name)) ids) h
    where
      by : (o : Option NameAt) → need_by o x ≡ Ok r → x ≡ Ok r
      by None h = h
      by (Some id) h = absurd (cc)

  step_keeps : (span : Span) (names r : Labelled) (step : ImportStep) → LabelsAre names → step_names span names step ≡ Ok r → LabelsAre r
  step_keeps span names r (Only ids) h e =
      let k = needed_is names ids (Ok (only ids names)) r e in
      let same : only ids names ≡ r = cc in
      subst LabelsAre same (each_filter LabelIs (λ (x : ImportedName). is_among ids x.name) names h)
  step_keeps span names r (Except ids) h e =
      let k = needed_is names ids (Ok (except ids names)) r e in
      let same : except ids names ≡ r = cc in
      subst LabelsAre same (each_filter LabelIs (λ (x : ImportedName). not (is_among ids x.name)) names h)
  step_keeps span names r (Prefix symbol) h e =
      let same : prefixed symbol names ≡ r = cc in
      subst LabelsAre same (moved (λ (x : ImportedName). symbol ++ x.name) names h)
  step_keeps span names r (Rename renamings) h e =
      all_joined span [] (renamed renamings names) r tt (moved (λ (x : ImportedName). new_name renamings x.name) names h)
      (needed_is names (sources renamings) (joined span [] (renamed renamings names)) r e)

  set_gives : (import : Import) (given r : Labelled) → LabelsAre given → import_names import.set import.span given ≡ Ok r → LabelsAre r
  set_gives import given r h e = by (joined import.span [] given) refl e
    where
      by : (x : Result Labelled Fault) → joined import.span [] given ≡ x → (x >>= (λ names. turns (step_names import.span) names import.set.steps)) ≡ Ok r → LabelsAre r
      by (Ok names) g e =
          turns_keep (step_names import.span) LabelsAre Any (λ s t x k a f. step_keeps import.span s t x k f) import.set.steps names r (each_any import.set.steps)
          (all_joined import.span [] given names tt h g) e
      by (Err f) g e = absurd (cc)

  -- where each library exports such labels, a form imports such labels
  module _ (records : List CompiledLibrary) (all : (l : LibName) → LabelsAre (exported records l)) where
    import_keeps : (names r : Labelled) (import : Import) → LabelsAre names → import_into records names import ≡ Ok r → LabelsAre r
    import_keeps names r import h e = by (import_names import.set import.span (exported records import.set.library)) refl e
      where
        by : (x : Result Labelled Fault) → import_names import.set import.span (exported records import.set.library) ≡ x → (x >>= (λ more. joined import.span names more)) ≡ Ok r → LabelsAre r
        by (Ok more) g e = all_joined import.span names more r h (set_gives import (exported records import.set.library) more (all import.set.library) g) e
        by (Err f) g e = absurd (cc)

    pub form_gives : (imports : List Import) (r : Labelled) → form_names records imports ≡ Ok r → LabelsAre r
    unfolding form_names
    form_gives imports r e = by (turns (refer records) tt imports) e
      where
        by : (x : Result (Unit {0}) Fault) → (x >>= (λ done. turns (import_into records) [] imports)) ≡ Ok r → LabelsAre r
        by (Ok done) e = turns_keep (import_into records) LabelsAre Any (λ s t i h a f. import_keeps s t i h f) imports [] r (each_any imports) tt e
        by (Err f) e = absurd (cc)

-- ---- what libraries export

abbrev IsGivenLabel : ImportedName → Type 0
IsGivenLabel e = IsOfImplementation e.label.0.library

label_given : (n : ℕ) (o : Option ℕ) → IsOfImplementation (core_unless n o).0.library
label_given n None = inl refl
label_given n (Some place) = inr refl

all_given : (ns : List ℕ) → Each IsGivenLabel (map export ns)
all_given [] = tt
all_given (n ∷ ns) = (label_given n (derived_place n), all_given ns)

-- the implementation exports labels of its own
given_labels : (l : LibName) (names : Labelled) → exports l ≡ Some names → Each IsGivenLabel names
given_labels library.Core names h = absurd (cc)
given_labels library.Derived names h = absurd (cc)
given_labels library.Prelude names h = absurd (cc)
given_labels library.Program names h = absurd (cc)
given_labels (library.User parts) names h = by (library_named parts) h
  where
    by : (o : Option Library) → option_map library_exports o ≡ Some names → Each IsGivenLabel names
    by None h = absurd (cc)
    by (Some l) h = let same : library_exports l ≡ names = cc in subst (λ (es : Labelled). Each IsGivenLabel es) same (all_given (library_numbers l))

pub each_label : (P : Label → Type 0) (es : Labelled) → Each P (map (λ (e : ImportedName). e.label) es) → LabelsAre P es
each_label P [] h = tt
each_label P (e ∷ es) h = (h.0, each_label P es h.1)

module _ (records : List CompiledLibrary) (serve : AllServe [] records) where
  abbrev There : Label → Type 0
  There l = IsThere records l.0.library

  record_gives : (l : LibName) (o : Option CompiledLibrary) → named l records ≡ o → LabelsAre There (record_exports o)
  record_gives l None e = tt
  record_gives l (Some r) e = each_label There r.exports (exports_there [] records serve r (found_among (λ (x : CompiledLibrary). same_library x.name l) records r e))

  -- a derived name stands for what the derived record exports
  module _ (r : CompiledLibrary) (gives : LabelsAre There r.exports) where
    looked_up : (name : List ℕ) (rows : Labelled) (l : Label) → LabelsAre There rows → label_named name rows ≡ Some l → There l
    looked_up name [] l h e = absurd (cc)
    looked_up name (row ∷ rows) l h e = by (same_text name row.name) (looked_up name rows l h.1) e
      where
        by : (b : Bool) → (label_named name rows ≡ Some l → There l) → (if b then Some row.label else label_named name rows) ≡ Some l → There l
        by true rest e = let same : row.label ≡ l = cc in subst There same h.0
        by false rest e = rest e

    one_there : (x : ImportedName) → There x.label → There (relabelled_in r x).label
    one_there x h = by (same_library x.label.0.library library.Derived)
      where
        found : (o : Option Label) → label_named x.name r.exports ≡ o → There (label_or x.label o)
        found None e = h
        found (Some l) e = looked_up x.name r.exports l gives e

        by : (b : Bool) → There (cond {A = ImportedName} b (record { name = x.name; label = label_or x.label (label_named x.name r.exports) }) x).label
        by true = found (label_named x.name r.exports) refl
        by false = h

    all_there : (names : Labelled) → LabelsAre There names → LabelsAre There (map (λ (e : ImportedName). relabelled_in r e) names)
    all_there [] h = tt
    all_there (x ∷ xs) h = (one_there x h.0, all_there xs h.1)

  given_there : (o : Option CompiledLibrary) → named library.Derived records ≡ o → (names : Labelled) → LabelsAre There names → LabelsAre There (given_names o names)
  given_there None e names h = h
  given_there (Some r) e names h = all_there r (record_gives library.Derived (Some r) e) names h

  library_gives : (l : LibName) → LabelsAre There (exported records l)
  library_gives l = by (exports l) refl
    where
      by : (o : Option Labelled) → exports l ≡ o → LabelsAre There (exported_by (named library.Derived records) (named l records) o)
      by None e = record_gives l (named l records) refl
      by (Some names) e = given_there (named library.Derived records) refl names (each-map IsGivenLabel (LabelIs There) names (given_labels l names e) (λ x h. inr h))

  -- what a form imports is there, where the records that it stands behind serve
  pub imports_there : (imports : List Import) (names : Labelled) → form_names records imports ≡ Ok names → ImportsAreThere records names
  imports_there imports names e = form_gives There records library_gives imports names e
