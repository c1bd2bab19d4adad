-- The text of a run is bound once.
use Rattle.std.proofs.Common.{◌≡◌, ℕ, Bool, true, false, List, [], ◌∷◌, ◌++◌, Option, None, Some, refl, sym, ap, ◌∙◌, subst, inl, inr}
use Rattle.std.specs.Prelude.{◌==◌, if◌then◌else◌}
use Rattle.std.specs.List.{flat_map}
use Rattle.std.proofs.lemmas.List.{map-append}
use Rattle.base_data.proofs.ElementLemmas.{each-at, among-map, among-flat, once-second}
use Rattle.base_data.specs.Elements.{Among, Once}
use Rattle.base_data.specs.declared.library.LibName.{LibName}
use Rattle.base_data.specs.declared.name.Label.{Label}
use Rattle.core_language.specs.declared.binding.Binding.{Binding}
use Rattle.core_language.specs.declared.binding.Binding.TheVariants as binding
use Rattle.core_language.specs.declared.record.CompiledLibrary.{CompiledLibrary}
use Rattle.law_core.specs.Records.{run_binders}
use Rattle.law_core.specs.Follows.{names_of, bound_labels, IsOwn}
use Rattle.law_expand.specs.Indices.{there, bound_index}
use Rattle.law_expand.proofs.Fresh.{once-append}
use Rattle.law_expand.proofs.BoundVariables.{once-apart}
use Rattle.core_plan.proofs.PlanLemmas.{is_plan}
use Rattle.core_plan.specs.Planned.{plan_of}
use Rattle.expand_standing.specs.Start.{records_at}
use Rattle.law_text.specs.Indices.{indexed, named_variable, named_variables}
use Rattle.law_text.specs.Standing.{AreStanding}
use Rattle.law_text.specs.Text.{text_of}
use Rattle.law_text.proofs.Words.{map-among, flat-among, once-one}
use Rattle.law_text.proofs.Names.{name_of, name-among}
use Rattle.law_text.proofs.Planned.{planned-once}
use Rattle.law_text.proofs.Closed.{libraries-once, planned-loaded, text-standing}

-- ---- records of different names, each of which gives what is its own, and each of that once

owned-once : {A : Type 0} (give : CompiledLibrary → List A) (owner : A → LibName) (rs : List CompiledLibrary) → ((r : CompiledLibrary) → Among rs r → Once (give r))
    → ((r : CompiledLibrary) → Among rs r → (x : A) → Among (give r) x → owner x ≡ r.name) → Once (names_of rs) → Once (flat_map give rs)
owned-once give owner [] once own names = tt
owned-once {A} give owner (r ∷ rs) once own names =
    once-append (give r) (flat_map give rs) (once r (inl refl)) (owned-once give owner rs (λ q a. once q (inr a)) (λ q a. own q (inr a)) names.1) apart
  where
    apart : (x : A) → Among (give r) x → Among (flat_map give rs) x → ⊥
    apart x a b =
        let found = flat-among give rs x b in
        let same : found.0.name ≡ r.name = sym (own found.0 (inr found.1) x found.2) ∙ own r (inl refl) x a in
        names.0 (subst (Among (names_of rs)) same (name-among rs found.0 found.1))

-- ---- the variables of a record

own-name : (l : Label) (o : Option ℕ) (v : LibName × ℕ) → Among (indexed l o) v → v.0 ≡ l.0.library
own-name l None v a = elim a [ ]
own-name l (Some n) v (inl e) = ap (λ (w : LibName × ℕ). w.0) e
own-name l (Some n) v (inr a) = elim a [ ]

own-index : (l : Label) (o : Option ℕ) (v : LibName × ℕ) → Among (indexed l o) v → Among (there o) v.1
own-index l None v a = elim a [ ]
own-index l (Some n) v (inl e) = inl (ap (λ (w : LibName × ℕ). w.1) e)
own-index l (Some n) v (inr a) = elim a [ ]

-- what names one variable, by its binding
variable-name : (b : Label × Binding) (v : LibName × ℕ) → Among (named_variable b) v → v.0 ≡ b.0.0.library
variable-name (l, binding.Variable w) v a = by (w.level == 0) a
  where
    by : (t : Bool) → Among (if t then indexed l w.index else []) v → v.0 ≡ l.0.library
    by true d = own-name l w.index v d
    by false d = elim d [ ]
variable-name (l, binding.PatternVariable level depth) v a = elim a [ ]
variable-name (l, binding.Macro level expression) v a = elim a [ ]
variable-name (l, binding.Core form) v a = elim a [ ]
variable-name (l, binding.Primitive o) v a = elim a [ ]

variable-index : (b : Label × Binding) (v : LibName × ℕ) → Among (named_variable b) v → Among (bound_index b) v.1
variable-index (l, binding.Variable w) v a = by (w.level == 0) a
  where
    by : (t : Bool) → Among (if t then indexed l w.index else []) v → Among (there w.index) v.1
    by true d = own-index l w.index v d
    by false d = elim d [ ]
variable-index (l, binding.PatternVariable level depth) v a = elim a [ ]
variable-index (l, binding.Macro level expression) v a = elim a [ ]
variable-index (l, binding.Core form) v a = elim a [ ]
variable-index (l, binding.Primitive o) v a = elim a [ ]

variable-once : (b : Label × Binding) → Once (named_variable b)
variable-once (l, binding.Variable w) = by (w.level == 0) w.index
  where
    by : (t : Bool) (o : Option ℕ) → Once (if t then indexed l o else [])
    by true None = tt
    by true (Some n) = once-one {A = LibName × ℕ} (l.0.library, n)
    by false o = tt
variable-once (l, binding.PatternVariable level depth) = tt
variable-once (l, binding.Macro level expression) = tt
variable-once (l, binding.Core form) = tt
variable-once (l, binding.Primitive o) = tt

variables-indexed : (bs : List (Label × Binding)) (v : LibName × ℕ) → Among (flat_map named_variable bs) v → Among (flat_map bound_index bs) v.1
variables-indexed bs v a =
    let found = flat-among named_variable bs v a in
    among-flat bound_index bs found.0 v.1 found.1 (variable-index found.0 v found.2)

-- where no index stands twice, no variable does
variables-once : (bs : List (Label × Binding)) → Once (flat_map bound_index bs) → Once (flat_map named_variable bs)
variables-once [] h = tt
variables-once (b ∷ bs) h =
    once-append (named_variable b) (flat_map named_variable bs) (variable-once b) (variables-once bs (once-second (bound_index b) (flat_map bound_index bs) h))
    (λ v x y. once-apart (bound_index b) (flat_map bound_index bs) h v.1 (variable-index b v x) (variables-indexed bs v y))

module _ (rs : List CompiledLibrary) (p : CompiledLibrary) (h : AreStanding rs p) where
  abbrev planned : List CompiledLibrary
  planned = records_at rs (plan_of rs p)

  pub text-names-once : Once (names_of (text_of rs p))
  text-names-once = subst Once (sym (map-append name_of planned (p ∷ [])))
      (once-append (names_of planned) (names_of (p ∷ [])) (planned-once rs (libraries-once rs p h) 0 (plan_of rs p) (is_plan rs p).rising) (once-one p.name) apart)
    where
      split : Once (names_of rs ++ names_of (p ∷ []))
      split = subst Once (map-append name_of rs (p ∷ [])) h.named_once

      apart : (n : LibName) → Among (names_of planned) n → Among (names_of (p ∷ [])) n → ⊥
      apart n a b =
          let found = map-among name_of planned n a in
          let loaded = name-among rs found.0 (planned-loaded rs p h found.0 found.1) in
          once-apart (names_of rs) (names_of (p ∷ [])) split n (subst (Among (names_of rs)) (sym found.2) loaded) b

  pub binders-once : Once (flat_map run_binders (text_of rs p))
  binders-once = owned-once run_binders (λ (l : Label). l.0.library) (text_of rs p)
      (λ r a. (text-standing rs p h r a).bound_once)
      (λ r a l b. each-at (λ k. IsOwn r k.0) (run_binders r) l (text-standing rs p h r a).bound_here b)
      text-names-once

  variable-owned : (r : CompiledLibrary) → Among (text_of rs p) r → (v : LibName × ℕ) → Among (named_variables r) v → v.0 ≡ r.name
  variable-owned r a v b =
      let found = flat-among named_variable r.bindings v b in
      let label = among-map (λ (x : Label × Binding). x.0) r.bindings found.0 found.1 in
      variable-name found.0 v found.2 ∙ each-at (λ k. IsOwn r k.0) (bound_labels r) found.0.0 (text-standing rs p h r a).named_here label

  pub names-once : Once (flat_map named_variables (text_of rs p))
  names-once = owned-once named_variables (λ (v : LibName × ℕ). v.0) (text_of rs p)
      (λ r a. variables-once r.bindings (text-standing rs p h r a).indexed_once) variable-owned text-names-once
