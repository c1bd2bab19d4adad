-- What a form imports is known before it, where the records that it stands behind follow one another and that of the derived library is the
-- first of them.
use Rattle.std.proofs.Common.{◌≡◌, ℕ, zero, suc, ◌+◌, ◌-◌, ◌<◌, ◌≤◌, Bool, true, false, List, [], ◌∷◌, ◌++◌, Ok, Option, Some, None, refl, sym, ap, subst, cond, inl, inr, arith, if◌then◌else◌}
use Rattle.std.specs.Prelude.{◌⊎◌, map, option_map}
use Rattle.std.specs.List.{flat_map}
use Rattle.base_data.proofs.ElementLemmas.{each-append, among-parts}
use Rattle.base_data.specs.Elements.{Each, Among}
use Rattle.base_data.specs.Op.{name_count, op_text}
use Rattle.base_data.specs.Same.{same_library, same_library_decides}
use Rattle.base_data.specs.declared.imported_name.ImportedName.{ImportedName}
use Rattle.base_data.specs.declared.library.LibName.{LibName}
use Rattle.base_data.specs.declared.library.LibName.TheVariants as library
use Rattle.base_data.specs.declared.name.Label.{Label}
use Rattle.load_builtin.specs.Exports.{derived_place, core_unless, export, library_exports}
use Rattle.load_builtin.specs.Libraries.{in_a_row, run_numbers, library_runs, library_numbers, library_named}
use Rattle.load_builtin.specs.declared.library.Library.{Library}
use Rattle.load_builtin.specs.declared.library.Library.TheVariants as l
use Rattle.load_builtin.specs.declared.library.Run.{Run}
use Rattle.core_language.specs.declared.record.CompiledLibrary.{CompiledLibrary}
use Rattle.law_core.specs.Following.{AllFollow}
use Rattle.law_core.specs.Follows.{export_labels, bound_labels, IsKnown}
use Rattle.run_derived.specs.Derived.{label_or, relabelled_in}
use Rattle.law_expand.specs.Behind.{IsKnownBefore}
use Rattle.law_expand.proofs.Fresh.{each-map}
use Rattle.load_forms.specs.declared.set.Import.{Import}
use Rattle.load_import.specs.Names.{Labelled, label_named}
use Rattle.load_import.specs.Table.{same_text}
use Rattle.run_library.specs.Imports.{named, record_exports, given_names, exported_by, exported, form_names}
use Rattle.law_run.proofs.ImportLemmas.{LabelsAre, form_gives, found_among, each_label}
use Rattle.law_run.proofs.DerivedLemmas.{ExportsTheDerived}
use Rattle.law_run.proofs.ExportLemmas.{has_label_named}
use Rattle.law_run.proofs.WiderLemmas.{AreAmong, among_all, all_wider}

-- ---- records that follow one another export what is known

-- what a record knows, all know that it and those before it are among
pub known_among : (all earlier : List CompiledLibrary) (r : CompiledLibrary) → AreAmong earlier all → Among all r → (l : Label) → IsKnown r earlier l → IsKnownBefore all l
known_among all earlier r w here l (inl a) = inl (by (among-parts (bound_labels r) (flat_map bound_labels earlier) l a))
  where
    by : Among (bound_labels r) l ⊎ Among (flat_map bound_labels earlier) l → Among (flat_map bound_labels all) l
    by (inl b) = among_all bound_labels all r l here b
    by (inr b) = all_wider bound_labels earlier all l w b
known_among all earlier r w here l (inr g) = inr g

pub one_more : (all earlier : List CompiledLibrary) (r : CompiledLibrary) → AreAmong earlier all → Among all r → AreAmong (earlier ++ r ∷ []) all
one_more all earlier r w here q a = by (among-parts earlier (r ∷ []) q a)
  where
    by : Among earlier q ⊎ Among (r ∷ []) q → Among all q
    by (inl b) = w q b
    by (inr (inl e)) = subst (Among all) (sym e) here
    by (inr (inr b)) = elim b [ ]

exports_known : (all earlier rs : List CompiledLibrary) → AllFollow earlier rs → AreAmong earlier all → AreAmong rs all → (r : CompiledLibrary) → Among rs r → Each (IsKnownBefore all) (export_labels r)
exports_known all earlier [] h before these r a = elim a [ ]
exports_known all earlier (x ∷ rs) h before these r (inl e) =
    subst (λ (y : CompiledLibrary). Each (IsKnownBefore all) (export_labels y)) (sym e)
    (each-map (IsKnown x earlier) (IsKnownBefore all) (export_labels x) h.0.labels.exports (known_among all earlier x before (these x (inl refl))))
exports_known all earlier (x ∷ rs) h before these r (inr a) =
    exports_known all (earlier ++ x ∷ []) rs h.1 (one_more all earlier x before (these x (inl refl))) (λ q b. these q (inr b)) r a

-- ---- the numbers of a library are numbers of names

abbrev IsNumber : ℕ → Type 0
IsNumber n = n < name_count

row_numbers : (n k : ℕ) → n + k ≤ name_count → Each IsNumber (in_a_row n k)
row_numbers n zero low = tt
row_numbers n (suc k) low = (omega (arith, low), row_numbers (n + 1) k (omega (arith, low)))

abbrev Fits : Run → Type 0
Fits r = r.from + (r.to - r.from) ≤ name_count

runs_numbers : (rs : List Run) → Each Fits rs → Each IsNumber (flat_map run_numbers rs)
runs_numbers [] h = tt
runs_numbers (r ∷ rs) h = each-append IsNumber (run_numbers r) (flat_map run_numbers rs) (row_numbers r.from (r.to - r.from) h.0) (runs_numbers rs h.1)

runs_fit : (library : Library) → Each Fits (library_runs library)
runs_fit l.Rnrs = (omega arith, tt)
runs_fit l.Base = (omega arith, tt)
runs_fit l.Lists = (omega arith, tt)
runs_fit l.Control = (omega arith, tt)
runs_fit l.SyntaxCase = (omega arith, (omega arith, tt))
runs_fit l.Exceptions = (omega arith, tt)
runs_fit l.IoSimple = (omega arith, tt)
runs_fit l.Hashtables = (omega arith, tt)
runs_fit l.Sorting = (omega arith, tt)
runs_fit l.Files = (omega arith, tt)
runs_fit l.Programs = (omega arith, tt)
runs_fit l.RecordsProcedural = (omega arith, tt)
runs_fit l.RecordsSyntactic = (omega arith, tt)

-- ---- what libraries export

-- a name that stands there has the label of one of the rows
looked_up : (P : Label → Type 0) (name : List ℕ) (rows : Labelled) (x : Label) → LabelsAre P rows → label_named name rows ≡ Some x → P x
looked_up P name [] x h e = absurd (cc)
looked_up P name (row ∷ rows) x h e = by (same_text name row.name) (looked_up P name rows x h.1) e
  where
    by : (b : Bool) → (label_named name rows ≡ Some x → P x) → (if b then Some row.label else label_named name rows) ≡ Some x → P x
    by true rest e = let same : row.label ≡ x = cc in subst P same h.0
    by false rest e = rest e

module _ (d : CompiledLibrary) (rest : List CompiledLibrary) (follow : AllFollow [] (d ∷ rest)) (is_derived : d.name ≡ library.Derived) (derives : ExportsTheDerived d) where
  abbrev Known : Label → Type 0
  Known x = IsKnownBefore (d ∷ rest) x

  record_known : (r : CompiledLibrary) → Among (d ∷ rest) r → LabelsAre Known r.exports
  record_known r a = each_label Known r.exports (exports_known (d ∷ rest) [] (d ∷ rest) follow (λ q b. elim b [ ]) (λ q b. b) r a)

  named_known : (n : LibName) (o : Option CompiledLibrary) → named n (d ∷ rest) ≡ o → LabelsAre Known (record_exports o)
  named_known n None e = tt
  named_known n (Some r) e = record_known r (found_among (λ (x : CompiledLibrary). same_library x.name n) (d ∷ rest) r e)

  -- a name of the implementation has a given label, or that under which the derived record exports it
  given_known : (n : ℕ) → n < name_count → (o : Option ℕ) → derived_place n ≡ o → Known (relabelled_in d (record { name = op_text n; label = core_unless n o })).label
  given_known n less None e = inr (refl, (less, e))
  given_known n less (Some place) e = by (label_named (op_text n) d.exports) refl
    where
      by : (o : Option Label) → label_named (op_text n) d.exports ≡ o → Known (label_or (core_unless n (Some place)) o)
      by None none = absurd (has_label_named (op_text n) d.exports (derives n place e) none)
      by (Some x) there = looked_up Known (op_text n) d.exports x (record_known d (inl refl)) there

  numbers_known : (ns : List ℕ) → Each IsNumber ns → LabelsAre Known (map (λ (e : ImportedName). relabelled_in d e) (map export ns))
  numbers_known [] h = tt
  numbers_known (n ∷ ns) h = (given_known n h.0 (derived_place n) refl, numbers_known ns h.1)

  -- the record of the derived library is found
  derived_found : named library.Derived (d ∷ rest) ≡ Some d
  derived_found = ap (λ (b : Bool). cond b (Some d) (named library.Derived rest)) ((same_library_decides d.name library.Derived).1 is_derived)

  library_known : (n : LibName) → LabelsAre Known (exported (d ∷ rest) n)
  library_known library.Core = named_known library.Core (named library.Core (d ∷ rest)) refl
  library_known library.Derived = named_known library.Derived (named library.Derived (d ∷ rest)) refl
  library_known library.Prelude = named_known library.Prelude (named library.Prelude (d ∷ rest)) refl
  library_known library.Program = named_known library.Program (named library.Program (d ∷ rest)) refl
  library_known (library.User parts) = by (library_named parts)
    where
      by : (o : Option Library) → LabelsAre Known (exported_by (named library.Derived (d ∷ rest)) (named (library.User parts) (d ∷ rest)) (option_map library_exports o))
      by None = named_known (library.User parts) (named (library.User parts) (d ∷ rest)) refl
      by (Some x) =
          subst (λ (o : Option CompiledLibrary). LabelsAre Known (given_names o (library_exports x))) (sym derived_found)
          (numbers_known (library_numbers x) (runs_numbers (library_runs x) (runs_fit x)))

  pub imports_known : (imports : List Import) (names : Labelled) → form_names (d ∷ rest) imports ≡ Ok names → LabelsAre Known names
  imports_known imports names e = form_gives Known (d ∷ rest) library_known imports names e
