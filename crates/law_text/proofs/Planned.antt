-- What the plan of a program names.
use Rattle.std.proofs.Common.{◌≡◌, ℕ, suc, ◌<◌, List, [], ◌∷◌, Option, None, Some, arith, refl, sym, ap, ◌∙◌, subst, inl, inr}
use Rattle.std.specs.Prelude.{◌⊎◌, slice_get}
use Rattle.std.specs.List.{Contains}
use Rattle.base_data.specs.Elements.{Among, Once}
use Rattle.core_language.specs.declared.record.CompiledLibrary.{CompiledLibrary}
use Rattle.law_core.specs.Follows.{names_of}
use Rattle.core_plan.specs.Plan.{RisesFrom}
use Rattle.core_plan.proofs.MarkLemmas.{contains_later, contains_cases}
use Rattle.core_plan.proofs.PlanLemmas.{rises_above}
use Rattle.expand_standing.specs.Start.{or_skip, records_at}
use Rattle.law_text.proofs.Words.{map-among}
use Rattle.law_text.proofs.Names.{name_of, one-place}

-- ---- the records at places

in-skip : (o : Option CompiledLibrary) (rs : List CompiledLibrary) (r : CompiledLibrary) → Among rs r → Among (or_skip o rs) r
in-skip None rs r a = a
in-skip (Some q) rs r a = inr a

pub at-there : (rs : List CompiledLibrary) (plan : List ℕ) (i : ℕ) (r : CompiledLibrary) → Contains plan i → slice_get rs i ≡ Some r → Among (records_at rs plan) r
at-there rs [] i r c e = absurd (let none : c.0 < 0 = c.1 in omega arith)
at-there rs (j ∷ js) i r c e = by (contains_cases j i js c) (at-there rs js i r)
  where
    by : (j ≡ i) ⊎ Contains js i → (Contains js i → slice_get rs i ≡ Some r → Among (records_at rs js) r) → Among (or_skip (slice_get rs j) (records_at rs js)) r
    by (inl d) rest = subst (λ (o : Option CompiledLibrary). Among (or_skip o (records_at rs js)) r) (sym (ap (slice_get rs) d ∙ e)) (inl refl)
    by (inr d) rest = in-skip (slice_get rs j) (records_at rs js) r (rest d e)

-- a record at one of the places
abbrev pub At : List CompiledLibrary → List ℕ → CompiledLibrary → Type 0
At rs plan r = (i : ℕ) × Contains plan i × (slice_get rs i ≡ Some r)

pub there-at : (rs : List CompiledLibrary) (plan : List ℕ) (r : CompiledLibrary) → Among (records_at rs plan) r → At rs plan r
there-at rs [] r a = elim a [ ]
there-at rs (j ∷ js) r a = by (slice_get rs j) refl a (there-at rs js r)
  where
    later : At rs js r → At rs (j ∷ js) r
    later found = (found.0, contains_later j found.0 js found.1, found.2)

    by : (o : Option CompiledLibrary) → slice_get rs j ≡ o → Among (or_skip o (records_at rs js)) r → (Among (records_at rs js) r → At rs js r) → At rs (j ∷ js) r
    by None e b rest = later (rest b)
    by (Some q) e (inl d) rest = (j, (0, omega arith, refl), e ∙ ap Some (sym d))
    by (Some q) e (inr b) rest = later (rest b)

-- ---- their names stand once, as the places rise

pub planned-once : (rs : List CompiledLibrary) → Once (names_of rs) → (low : ℕ) (plan : List ℕ) → RisesFrom low plan → Once (names_of (records_at rs plan))
planned-once rs h low [] k = tt
planned-once rs h low (i ∷ is) k = by (slice_get rs i) refl (planned-once rs h (suc i) is k.1)
  where
    later : (r : CompiledLibrary) → slice_get rs i ≡ Some r → (q : CompiledLibrary) × Among (records_at rs is) q × (r.name ≡ q.name) → ⊥
    later r e found =
        let at = there-at rs is found.0 found.1 in
        let above = rises_above (suc i) at.0 is k.1 at.1 in
        let same = one-place rs h i at.0 r found.0 e at.2 found.2 in
        omega (arith, above, same)

    by : (o : Option CompiledLibrary) → slice_get rs i ≡ o → Once (names_of (records_at rs is)) → Once (names_of (or_skip o (records_at rs is)))
    by None e rest = rest
    by (Some r) e rest = ((λ a. later r e (map-among name_of (records_at rs is) r.name a)), rest)
