-- The text of a run is closed.
use Rattle.std.proofs.Common.{◌≡◌, ℕ, Bool, true, false, List, [], ◌∷◌, ◌++◌, Some, refl, sym, ◌∙◌, subst, inl, inr}
use Rattle.std.specs.Prelude.{◌⊎◌}
use Rattle.std.specs.List.{flat_map, Contains}
use Rattle.std.proofs.lemmas.List.{map-append}
use Rattle.base_data.proofs.ElementLemmas.{each-at, each-of, among-first, among-second, among-parts, among-map, among-flat, once-first}
use Rattle.base_data.specs.Elements.{Among, Once}
use Rattle.base_data.specs.Same.{same_library, same_library_decides}
use Rattle.base_data.specs.declared.library.LibName.{LibName}
use Rattle.base_data.specs.declared.name.Label.{Label}
use Rattle.core_language.specs.References.{binders, mentions}
use Rattle.core_language.specs.declared.record.CompiledLibrary.{CompiledLibrary}
use Rattle.core_language.specs.declared.record.Line.{Line}
use Rattle.law_core.specs.Scope.{Closed}
use Rattle.law_core.specs.Templates.{TemplatesSuit}
use Rattle.law_core.specs.Records.{line_core, line_labels, line_binders, defined, run_binders, LinesClosed, AreClosed}
use Rattle.law_core.specs.Follows.{names_of, line_cores, IsOwn}
use Rattle.core_plan.specs.Places.{place_of}
use Rattle.core_plan.specs.Plan.{mentioned, further}
use Rattle.core_plan.proofs.PlanLemmas.{is_plan}
use Rattle.core_plan.specs.Planned.{plan_of}
use Rattle.expand_standing.specs.Start.{records_at}
use Rattle.law_text.specs.Standing.{IsStanding, AreStanding}
use Rattle.law_text.specs.Text.{text_of}
use Rattle.law_text.proofs.Words.{flat-among, contained}
use Rattle.law_text.proofs.Refers.{mention-referred}
use Rattle.law_text.proofs.Mentions.{Keeps, kept-closed}
use Rattle.law_text.proofs.Names.{name_of, same-record, got-among, placed}
use Rattle.law_text.proofs.Planned.{at-there, there-at}

-- what the lines of a record define, and what is bound in a line, is among its binders
defined-bound : (r : CompiledLibrary) (l : Label) → Among (defined r) l → Among (run_binders r) l
defined-bound r l a =
    let found = flat-among line_labels r.run l a in
    among-flat line_binders r.run found.0 l found.1 (among-first (line_labels found.0) (binders (line_core found.0)) l found.2)

line-bound : (r : CompiledLibrary) (x : Line) (l : Label) → Among r.run x → Among (binders (line_core x)) l → Among (run_binders r) l
line-bound r x l a b = among-flat line_binders r.run x l a (among-second (line_labels x) (binders (line_core x)) l b)

module _ (rs : List CompiledLibrary) (p : CompiledLibrary) (h : AreStanding rs p) where
  abbrev planned : List CompiledLibrary
  planned = records_at rs (plan_of rs p)

  pub libraries-once : Once (names_of rs)
  libraries-once = once-first (names_of rs) (names_of (p ∷ [])) (subst Once (map-append name_of rs (p ∷ [])) h.named_once)

  pub planned-loaded : (r : CompiledLibrary) → Among planned r → Among rs r
  planned-loaded r a = let at = there-at rs (plan_of rs p) r a in got-among rs at.0 r at.2

  -- ---- the records of the text

  pub text-standing : (r : CompiledLibrary) → Among (text_of rs p) r → IsStanding rs r
  text-standing r a = by (among-parts planned (p ∷ []) r a)
    where
      by : Among planned r ⊎ Among (p ∷ []) r → IsStanding rs r
      by (inl b) = each-at (IsStanding rs) rs r h.libraries (planned-loaded r b)
      by (inr (inl e)) = subst (IsStanding rs) (sym e) h.program
      by (inr (inr b)) = elim b [ ]

  pub text-known : (r : CompiledLibrary) → Among (text_of rs p) r → Among (rs ++ p ∷ []) r
  text-known r a = by (among-parts planned (p ∷ []) r a)
    where
      by : Among planned r ⊎ Among (p ∷ []) r → Among (rs ++ p ∷ []) r
      by (inl b) = among-first rs (p ∷ []) r (planned-loaded r b)
      by (inr b) = among-second rs (p ∷ []) r b

  -- what a record of the text refers to is planned
  reference-planned : (r : CompiledLibrary) → Among (text_of rs p) r → (name : LibName) (place : ℕ) → Contains r.refs name → place_of rs name ≡ Some place → Contains (plan_of rs p) place
  reference-planned r a name place c e = by (among-parts planned (p ∷ []) r a)
    where
      by : Among planned r ⊎ Among (p ∷ []) r → Contains (plan_of rs p) place
      by (inl b) =
          let at = there-at rs (plan_of rs p) r b in
          let plan = is_plan rs p in
          (plan.exact place).1 (further at.0 r name place ((plan.exact at.0).0 at.1) at.2 c e)
      by (inr (inl d)) = ((is_plan rs p).exact place).1 (mentioned name place (subst (λ (q : CompiledLibrary). Contains q.refs name) d c) e)
      by (inr (inr b)) = elim b [ ]

  referred-there : (r : CompiledLibrary) → Among (text_of rs p) r → (q : CompiledLibrary) → Among rs q → Among r.refs q.name → Among (text_of rs p) q
  referred-there r a q b c =
      let at = placed rs libraries-once q b in
      let there = reference-planned r a q.name at.0 (contained r.refs q.name c) at.1 in
      among-first planned (p ∷ []) q (at-there rs (plan_of rs p) at.0 q there at.2)

  -- ---- a line of one of them

  module _ (r : CompiledLibrary) (a : Among (text_of rs p) r) (s : IsStanding rs r) (x : Line) (there : Among r.run x) where
    -- what a line mentions of what another library defines makes that a reference
    other-there : (q : CompiledLibrary) (l : Label) → Among rs q → Among (defined q) l → (q.name ≡ r.name → ⊥) → Among (mentions (line_core x)) l → Among (text_of rs p) q
    other-there q l b d apart m =
        let of : l.0.library ≡ q.name = each-at (λ k. IsOwn q k.0) (run_binders q) l (each-at (IsStanding rs) rs q h.libraries b).bound_here (defined-bound q l d) in
        let foreign : l.0.library ≡ r.name → ⊥ = λ e. apart (sym of ∙ e) in
        let free : Among (binders (line_core x)) l → ⊥ = λ e. foreign (each-at (λ k. IsOwn r k.0) (run_binders r) l s.bound_here (line-bound r x l there e)) in
        let named = mention-referred r.name r.run x l foreign free there m in
        referred-there r a q b (subst (Among r.refs) of (subst (λ (ks : List LibName). Among ks l.0.library) (sym s.referred) named))

    definer-there : (q : CompiledLibrary) (l : Label) → Among rs q → Among (defined q) l → Among (mentions (line_core x)) l → Among (text_of rs p) q
    definer-there q l b d m = by (same_library q.name r.name) refl
      where
        by : (t : Bool) → same_library q.name r.name ≡ t → Among (text_of rs p) q
        by true e =
            let same = same-record (rs ++ p ∷ []) h.named_once r q (text-known r a) (among-first rs (p ∷ []) q b) (sym ((same_library_decides q.name r.name).0 e)) in
            subst (Among (text_of rs p)) same a
        by false e = other-there q l b d (λ k. let is = (same_library_decides q.name r.name).1 k in let both : false ≡ true = sym e ∙ is in absurd (cc)) m

    line-keeps : Keeps (flat_map defined s.earlier ++ defined r) (flat_map defined (text_of rs p)) (mentions (line_core x))
    line-keeps l m given = by (among-parts (flat_map defined s.earlier) (defined r) l given)
      where
        by : Among (flat_map defined s.earlier) l ⊎ Among (defined r) l → Among (flat_map defined (text_of rs p)) l
        by (inl b) =
            let found = flat-among defined s.earlier l b in
            let loaded = each-at (Among rs) s.earlier found.0 s.loaded found.1 in
            among-flat defined (text_of rs p) found.0 l (definer-there found.0 l loaded found.2 m) found.2
        by (inr b) = among-flat defined (text_of rs p) r l a b

    line-closed : Closed (flat_map defined (text_of rs p)) (line_core x)
    line-closed =
        let ls : List Label = flat_map defined s.earlier ++ defined r in
        let suited = each-at (TemplatesSuit []) (line_cores r) (line_core x) s.suited (among-map line_core r.run x there) in
        kept-closed ls (flat_map defined (text_of rs p)) [] (line_core x) line-keeps (λ v b. elim b [ ]) suited
        (each-at (λ (y : Line). Closed ls (line_core y)) r.run x s.closed there)

  record-closed : (r : CompiledLibrary) → Among (text_of rs p) r → LinesClosed (flat_map defined (text_of rs p)) r
  record-closed r a = each-of (λ (x : Line). Closed (flat_map defined (text_of rs p)) (line_core x)) r.run (λ x b. line-closed r a (text-standing r a) x b)

  pub text-closed : AreClosed (text_of rs p)
  text-closed = each-of (LinesClosed (flat_map defined (text_of rs p))) (text_of rs p) record-closed
