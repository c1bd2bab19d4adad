-- A table of binders has for each label the first identifier that binds it.
use Rattle.std.proofs.Common.{◌≡◌, Bool, true, false, List, [], ◌∷◌, ◌++◌, Option, Some, None, cond, refl, sym, ap, ◌∙◌, true≢false}
use Rattle.std.specs.Prelude.{◌&&◌, is_some, map, if◌then◌else◌}
use Rattle.std.specs.Option.{option_map}
use Rattle.indexmap.specs.IndexMap.{IndexMap, insert_entry}
use Rattle.indexmap.proofs.CallerLemmas.{insert_entry-new}
use Rattle.base_data.specs.Named.{Named}
use Rattle.base_data.specs.Same.{same_name_cases}
use Rattle.base_data.specs.declared.name.Label.{Label}
use Rattle.core_language.specs.Labels.{same_label}
use Rattle.core_language.specs.declared.link.Link.{Link}
use Rattle.core_language.specs.declared.link.LinkKind.{LinkKind}
use Rattle.core_language.specs.declared.link.LinkKind.TheVariants as kinds
use Rattle.load_import.proofs.TableLemmas.{or_else}
use Rattle.run_xref.specs.Binders.{BinderPlaces, bound_at, with_place, with_binder, with_binders, place_or_nowhere, aim_by, row_by}
use Rattle.run_xref.specs.Links.{is_binder, binds, binder, target_of, leads_to}
use Rattle.run_xref.specs.Map.{row_among, rows_among}
use Rattle.run_xref.specs.Rows.{FileNames, at_of, aim_of}
use Rattle.run_xref.specs.declared.rows.At.{At}

-- ---- a table grows at its end

none_if : {A : Type 0} (o : Option A) → is_some o ≡ false → o ≡ None
none_if None h = refl
none_if (Some x) h = absurd (true≢false h)

pub put_new : {S : Type 0} (m : IndexMap Label At S) (l : Label) (at : At) → is_some (bound_at m.entries l) ≡ false
    → insert_entry same_label m.entries l at ≡ with_place m.entries l at
put_new m l at h =
    insert_entry-new same_label m l at (none_if (bound_at m.entries l) h)
    ∙ sym (ap (λ b. cond {A = BinderPlaces} b m.entries (m.entries ++ (l, at) ∷ [])) h)

-- ---- what is found in it

pub same_is : (a b : Label) → same_label a b ≡ true → a ≡ b
same_is a b h = ap (λ (n : Named). let x : Label = record { 0 = n } in x) ((same_name_cases a.0 b.0).0 h)

abbrev place_if : Bool → At → Option At
place_if b at = if b then Some at else None

append_place : (bs : BinderPlaces) (l m : Label) (at : At) → bound_at (bs ++ (m, at) ∷ []) l ≡ or_else (bound_at bs l) (place_if (same_label l m) at)
append_place [] l m at = refl
append_place (e ∷ es) l m at = by (same_label l e.0) (append_place es l m at)
  where
    by : (b : Bool) → bound_at (es ++ (m, at) ∷ []) l ≡ or_else (bound_at es l) (place_if (same_label l m) at)
        → cond b (Some e.1) (bound_at (es ++ (m, at) ∷ []) l) ≡ or_else (cond b (Some e.1) (bound_at es l)) (place_if (same_label l m) at)
    by true h = refl
    by false h = h

or_nothing : (a : Option At) → or_else a None ≡ a
or_nothing None = refl
or_nothing (Some at) = refl

or_something : (a b : Option At) → is_some a ≡ true → or_else a b ≡ a
or_something None b h = absurd (true≢false (sym h))
or_something (Some at) b h = refl

one_place : (bs : BinderPlaces) (l m : Label) (at : At) → bound_at (with_place bs m at) l ≡ or_else (bound_at bs l) (place_if (same_label l m) at)
one_place bs l m at = by (is_some (bound_at bs m)) refl
  where
    kept : (b : Bool) → same_label l m ≡ b → is_some (bound_at bs m) ≡ true → bound_at bs l ≡ or_else (bound_at bs l) (place_if b at)
    kept true e h = sym (or_something (bound_at bs l) (Some at) (ap (λ k. is_some (bound_at bs k)) (same_is l m e) ∙ h))
    kept false e h = sym (or_nothing (bound_at bs l))

    by : (b : Bool) → is_some (bound_at bs m) ≡ b → bound_at (cond b bs (bs ++ (m, at) ∷ [])) l ≡ or_else (bound_at bs l) (place_if (same_label l m) at)
    by true h = kept (same_label l m) refl h ∙ refl
    by false h = append_place bs l m at

one_binder : (files : FileNames) (bs : BinderPlaces) (k : Link) (l : Label) → bound_at (with_binder files bs k) l ≡ or_else (bound_at bs l) (place_if (binds l k) (at_of files k.span))
one_binder files bs k l = by (is_binder k.kind)
  where
    by : (b : Bool) → bound_at (cond b (with_place bs k.label (at_of files k.span)) bs) l ≡ or_else (bound_at bs l) (place_if (b && same_label l k.label) (at_of files k.span))
    by true = one_place bs l k.label (at_of files k.span)
    by false = sym (or_nothing (bound_at bs l))

abbrev found_at : FileNames → Option Link → Option At
found_at files o = option_map (λ (k : Link). at_of files k.span) o

pub all_binders : (files : FileNames) (ks : List Link) (bs : BinderPlaces) (l : Label) → bound_at (with_binders files bs ks) l ≡ or_else (bound_at bs l) (found_at files (binder ks l))
all_binders files [] bs l = sym (or_nothing (bound_at bs l))
all_binders files (k ∷ ks) bs l =
    all_binders files ks (with_binder files bs k) l
    ∙ ap (λ o. or_else o (found_at files (binder ks l))) (one_binder files bs k l)
    ∙ by (bound_at bs l) (binds l k)
  where
    by : (a : Option At) (b : Bool) → or_else (or_else a (place_if b (at_of files k.span))) (found_at files (binder ks l)) ≡ or_else a (found_at files (cond b (Some k) (binder ks l)))
    by (Some at) b = refl
    by None true = refl
    by None false = refl

-- ---- the rows of links

found_aim : (files : FileNames) (o : Option Link) → place_or_nowhere (found_at files o) ≡ aim_of files (target_of o)
found_aim files None = refl
found_aim files (Some k) = refl

one_aim : (files : FileNames) (links : List Link) (l : Label) (kind : LinkKind) → aim_by (with_binders files [] links) l kind ≡ aim_of files (leads_to links l kind)
one_aim files links l kinds.Bind = ap place_or_nowhere (all_binders files links [] l) ∙ found_aim files (binder links l)
one_aim files links l kinds.Refer = ap place_or_nowhere (all_binders files links [] l) ∙ found_aim files (binder links l)
one_aim files links l (kinds.Prim o) = refl

one_row : (files : FileNames) (links : List Link) (k : Link) → row_by files (with_binders files [] links) k ≡ row_among files links k
one_row files links k = let e = one_aim files links k.label k.kind in λ i. record { at = at_of files k.span; aim = e i }

pub all_rows : (files : FileNames) (links some : List Link) → map (row_by files (with_binders files [] links)) some ≡ rows_among files links some
all_rows files links [] = refl
all_rows files links (k ∷ ks) =
    let e = one_row files links k in
    let es = all_rows files links ks in
    λ i. e i ∷ es i
