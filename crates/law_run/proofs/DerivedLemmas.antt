-- The derived library: it imports what is given, each name once, and exports each name that the implementation leaves to it.
use Rattle.std.proofs.Common.{◌≡◌, ℕ, zero, suc, ◌+◌, ◌<◌, ◌≤◌, Bool, true, false, List, [], ◌∷◌, Result, Ok, Err, Option, Some, None, refl, sym, ap, subst, inl, inr, arith, if◌then◌else◌}
use Rattle.std.specs.Cmp.{unsigned_Decides}
use Rattle.std.specs.Prelude.{map, is_some}
use Rattle.base_data.proofs.ElementLemmas.{each-append}
use Rattle.base_data.specs.Elements.{Each, Among, Once}
use Rattle.base_data.specs.Gives.{◌>>=◌}
use Rattle.base_data.specs.Op.{name_count, op_text}
use Rattle.base_data.specs.declared.fault.Fault.{Fault}
use Rattle.base_data.specs.declared.imported_name.ImportedName.{ImportedName}
use Rattle.base_data.specs.declared.library.LibName.TheVariants as library
use Rattle.base_data.specs.declared.name.Label.{Label}
use Rattle.load_builtin.specs.Exports.{derived, is_number, definition_from, derived_place}
use Rattle.load_builtin.specs.declared.derived.TheConstants.{DERIVED_SOURCE}
use Rattle.core_language.specs.declared.record.CompiledLibrary.{CompiledLibrary}
use Rattle.law_core.specs.Follows.{export_names, Follows}
use Rattle.law_core.proofs.Decisions.{once_decides, text_decides}
use Rattle.run_derived.specs.Derived.{forms_of, record_of, derived_record, derived_body}
use Rattle.run_derived.specs.Names.{is_defined, core_name, name_at, names_from, names, exports_of}
use Rattle.eval_code.specs.Codes.{Codes}
use Rattle.law_expand.specs.Behind.{IsKnownBefore, IsFollower}
use Rattle.law_expand.proofs.Behind.{asked, record-named, records-follow}
use Rattle.load_import.specs.Names.{Labelled, label_named}
use Rattle.load_import.specs.Table.{same_text}
use Rattle.law_imports.specs.Algebra.{IsOnce}
use Rattle.law_run.proofs.Derived.{derived-names-once}
use Rattle.stx_tree.specs.Tree.{Tree}
use Rattle.law_run.proofs.ExportLemmas.{imported_names, has_label_named}

-- ---- what it imports

-- names that stand once by their values stand once
pub once_by_name : (names : Labelled) → IsOnce names → Once (imported_names names)
once_by_name [] h = tt
once_by_name (e ∷ es) h = ((λ a. by (label_named e.name es) refl h.0 a), once_by_name es h.1)
  where
    by : (o : Option Label) → label_named e.name es ≡ o → is_some o ≡ false → Among (imported_names es) e.name → ⊥
    by None none h a = has_label_named e.name es a none
    by (Some l) there h a = absurd (cc)

not_placed : (n place : ℕ) (ds : List (Option ℕ)) → is_defined n ds ≡ false → definition_from place n ds ≡ None
not_placed n place [] h = refl
not_placed n place (d ∷ ds) h = by (is_number n d) h (not_placed n (place + 1) ds)
  where
    by : (b : Bool) → (if b then true else is_defined n ds) ≡ false → (is_defined n ds ≡ false → definition_from (place + 1) n ds ≡ None) → (if b then Some place else definition_from (place + 1) n ds) ≡ None
    by true h rest = absurd (cc)
    by false h rest = rest h

abbrev IsLeft : List (Option ℕ) → ImportedName → Type 0
IsLeft ds e = (e.label.0.library ≡ library.Core) × ((e.label.0.number < name_count) × (definition_from 0 e.label.0.number ds ≡ None))

names_left : (ds : List (Option ℕ)) (n count : ℕ) → n + count ≤ name_count → Each (IsLeft ds) (names_from ds n count)
unfolding names_from
names_left ds n zero low = tt
names_left ds n (suc count) low = each-append (IsLeft ds) (name_at ds n) (names_from ds (n + 1) count) (by (is_defined n ds) refl) (names_left ds (n + 1) count (omega (arith, low)))
  where
    by : (b : Bool) → is_defined n ds ≡ b → Each (IsLeft ds) (if b then [] else core_name n ∷ [])
    by true e = tt
    by false e = ((refl, (omega (arith, low), not_placed n 0 ds e)), tt)

left_known : (es : Labelled) → Each (IsLeft derived) es → Each (λ (e : ImportedName). IsKnownBefore [] e.label) es
left_known [] h = tt
left_known (e ∷ es) h = (inr h.0, left_known es h.1)

-- ---- what it exports

number_is : (n m : ℕ) → is_number n (Some m) ≡ true → m ≡ n
number_is n m h = (unsigned_Decides m n).0 h

defined_exported : (ds : List (Option ℕ)) (place n at : ℕ) → definition_from place n ds ≡ Some at → Among (map asked (exports_of ds)) (op_text n)
unfolding exports_of
defined_exported [] place n at h = absurd (cc)
defined_exported (None ∷ ds) place n at h = defined_exported ds (place + 1) n at h
defined_exported (Some m ∷ ds) place n at h = by (is_number n (Some m)) refl h (defined_exported ds (place + 1) n at)
  where
    by : (b : Bool) → is_number n (Some m) ≡ b → (if b then Some place else definition_from (place + 1) n ds) ≡ Some at → (definition_from (place + 1) n ds ≡ Some at → Among (map asked (exports_of ds)) (op_text n))
        → Among (op_text m ∷ map asked (exports_of ds)) (op_text n)
    by true e h rest = inl (ap op_text (sym (number_is n m e)))
    by false e h rest = inr (rest h)

exports_once : Once (map asked (exports_of derived))
unfolding exports_of
exports_once = (once_decides same_text text_decides (map asked (exports_of derived))).0 refl

-- ---- its record

-- a record exports each name that the derived library is to define
abbrev pub ExportsTheDerived : CompiledLibrary → Type 0
ExportsTheDerived d = (n place : ℕ) → derived_place n ≡ Some place → Among (export_names d) (op_text n)

pub record IsDerived (d : CompiledLibrary) : Type 0 where
  pub follows : Follows d []
  pub exports : ExportsTheDerived d

module _ (d : CompiledLibrary) where
  forms_follow : (codes : Codes) (forms : List Tree) → record_of codes forms ≡ Ok d → IsDerived d
  unfolding record_of
  forms_follow codes forms h =
      let follower : IsFollower library.Derived [] names (exports_of derived) =
      record {
        earlier = tt;
        new = λ a. elim a [ ];
        no_core = λ e. absurd (cc);
        no_prelude = λ e. absurd (cc);
        known = left_known names (names_left derived 0 name_count (omega arith));
        imported_once = once_by_name names derived-names-once;
        exported_once = exports_once;
      } in
      record {
        follows = records-follow library.Derived [] names (derived_body forms) codes d follower h;
        exports = λ n place at. subst (λ (ns : List (List ℕ)). Among ns (op_text n)) (sym (record-named library.Derived [] names (derived_body forms) codes d h)) (defined_exported derived 0 n place at);
      }

  pub derived_follows : (prelude : Result Codes Fault) → derived_record prelude ≡ Ok d → IsDerived d
  unfolding derived_record
  derived_follows prelude h = by_forms (forms_of DERIVED_SOURCE.now) h
    where
      by_codes : (forms : List Tree) (x : Result Codes Fault) → (x >>= (λ codes. record_of codes forms)) ≡ Ok d → IsDerived d
      by_codes forms (Ok codes) h = forms_follow codes forms h
      by_codes forms (Err f) h = absurd (cc)

      by_forms : (x : Result (List Tree) Fault) → (x >>= (λ forms. prelude >>= (λ codes. record_of codes forms))) ≡ Ok d → IsDerived d
      by_forms (Ok forms) h = by_codes forms prelude h
      by_forms (Err f) h = absurd (cc)
