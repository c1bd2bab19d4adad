-- The text of a run is closed, and bound once.
use Rattle.std.proofs.Common.{◌≡◌, ℕ, zero, suc, List, [], ◌∷◌, ◌++◌, Option, Some, None, refl, sym, subst, inl, inr}
use Rattle.std.specs.Prelude.{slice_get}
use Rattle.base_data.specs.Elements.{Each, Among, Once}
use Rattle.base_data.specs.declared.library.LibName.{LibName}
use Rattle.base_data.specs.declared.library.LibName.TheVariants as library
use Rattle.core_language.specs.declared.record.CompiledLibrary.{CompiledLibrary}
use Rattle.law_core.specs.Follows.{names_of, line_cores}
use Rattle.law_core.specs.Templates.{TemplatesSuit}
use Rattle.law_core.specs.WellMade.{IsWellMade}
use Rattle.law_expand.proofs.Fresh.{each-map}
use Rattle.load_files.specs.Found.{needed}
use Rattle.load_files.specs.declared.found.Found.{Found}
use Rattle.load_files.specs.declared.found.Loading.{Loading}
use Rattle.expand_standing.specs.Start.{or_skip, records_at}
use Rattle.law_text.specs.Standing.{IsStanding, AreStanding}
use Rattle.law_text.proofs.Text.{text-is-closed-once}
use Rattle.law_text.proofs.Names.{got-among}
use Rattle.law_run.specs.Run.{Stands, AllStand, RunsAreClosedOnce}
use Rattle.law_run.proofs.RunLemmas.{all_records_stand}
use Rattle.law_local.proofs.Part.{same_place}

-- ---- lists

-- the records at some places are among them
at_among : (rs : List CompiledLibrary) (ps : List ℕ) → Each (Among rs) (records_at rs ps)
at_among rs [] = tt
at_among rs (p ∷ ps) = by (slice_get rs p) refl (at_among rs ps)
  where
    by : (o : Option CompiledLibrary) → slice_get rs p ≡ o → Each (Among rs) (records_at rs ps) → Each (Among rs) (or_skip o (records_at rs ps))
    by None e rest = rest
    by (Some r) e rest = (got-among rs p r e, rest)

pub each_place : (P : CompiledLibrary → Type 0) (rs : List CompiledLibrary) → ((i : ℕ) (r : CompiledLibrary) → slice_get rs i ≡ Some r → P r) → Each P rs
each_place P [] h = tt
each_place P (r ∷ rs) h = (h zero r refl, each_place P rs (λ i x e. h (suc i) x e))

-- ---- records that stand

-- all that is asked of a record before the text is made
standing : (records earlier : List CompiledLibrary) → Each (Among records) earlier → (name : LibName) (r : CompiledLibrary) → Stands earlier name r → IsStanding records r
standing records earlier loaded name r h = record {
  earlier = earlier;
  loaded = loaded;
  closed = h.good.closed;
  suited = each-map (IsWellMade []) (TemplatesSuit []) (line_cores r) h.good.well_made (λ c w. w.templates);
  bound_once = h.good.bound_once;
  bound_here = h.good.bound_here;
  indexed_once = h.good.indexed_once;
  named_here = h.serves.own_bindings;
  referred = h.good.references;
}

pub all_standing : (found : Found) (s : Loading) (records : List CompiledLibrary) (program : CompiledLibrary) → AllStand found s records program → AreStanding records program
all_standing found s records program h = subst (λ (rs : List CompiledLibrary). AreStanding rs program) (sym h.parts) (record {
  named_once = subst (λ (rs : List CompiledLibrary). Once (names_of (rs ++ program ∷ []))) h.parts h.once;
  libraries = (standing (h.derived ∷ h.others) [] tt library.Derived h.derived h.first, each_place (IsStanding (h.derived ∷ h.others)) h.others here);
  program = standing (h.derived ∷ h.others) (h.derived ∷ records_at h.others (needed found)) (behind found) library.Program program h.last;
})
  where
    -- the records that a library stands behind are among all
    behind : (f : Found) → Each (Among (h.derived ∷ h.others)) (h.derived ∷ records_at h.others (needed f))
    behind f = (inl refl, each-map (Among h.others) (Among (h.derived ∷ h.others)) (records_at h.others (needed f)) (at_among h.others (needed f)) (λ r a. inr a))

    here : (i : ℕ) (r : CompiledLibrary) → slice_get h.others i ≡ Some r → IsStanding (h.derived ∷ h.others) r
    here i r e =
        let x = same_place h.others s.done i r h.as_many e in
        standing (h.derived ∷ h.others) (h.derived ∷ records_at h.others (needed x.0.1)) (behind x.0.1) x.0.1.opened.form.name r (h.each i x.0.0 x.0.1 r x.1 e)

pub runs_are_closed_once : RunsAreClosedOnce
runs_are_closed_once prelude files roots path found s records program run =
    text-is-closed-once records program (all_standing found s records program (all_records_stand prelude files roots path found s records program run))
