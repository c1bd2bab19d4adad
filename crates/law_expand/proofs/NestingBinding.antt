-- The variables that formals, a `letrec` and definitions bind are of the level of the form.
use Rattle.std.proofs.Common.{◌≡◌, ℕ, Bool, true, false, List, [], ◌∷◌, ◌++◌, map, Option, None, Some, Ok, Err, refl, sym, ◌∙◌, ap, subst, arith, inl, inr, if◌then◌else◌}
use Rattle.std.specs.Prelude.{◌⊎◌, is_some, nat_eq}
use Rattle.std.proofs.lemmas.Bool.Decides.{nat_tests}
use Rattle.base_data.proofs.ElementLemmas.{each-append}
use Rattle.base_data.specs.Act.{after, give, each}
use Rattle.base_data.specs.Elements.{Each}
use Rattle.base_data.specs.declared.fault.FaultKind.TheVariants as kind
use Rattle.base_data.specs.declared.library.LibName.{LibName}
use Rattle.base_data.specs.declared.name.FrameNo.{FrameNo}
use Rattle.base_data.specs.declared.name.Label.{Label}
use Rattle.base_data.specs.declared.span.Span.{Span}
use Rattle.stx_tree.specs.Tree.{Tree, span_of}
use Rattle.stx_frames.specs.Rows.{second_binder}
use Rattle.stx_frames.specs.Scope.{with_row, label_at}
use Rattle.stx_scope.specs.Stands.{row_for, symbol_of}
use Rattle.core_language.specs.Bindings.{bound_to}
use Rattle.core_language.specs.References.{rest_labels, formals_labels}
use Rattle.core_language.specs.declared.binding.Binding.{Binding}
use Rattle.core_language.specs.declared.binding.Binding.TheVariants as binding
use Rattle.core_language.specs.declared.link.LinkKind.TheVariants as kinds
use Rattle.law_core.specs.Follows.{IsThere}
use Rattle.core_shapes.specs.Lists.{is_leaf}
use Rattle.core_shapes.specs.declared.shape.BindingSpec.{BindingSpec}
use Rattle.core_shapes.specs.declared.shape.FormalIds.{FormalIds}
use Rattle.expand_standing.specs.Binders.{bind_variable, bind_as, row_put, put_variable, variable_for, index_at, bind_all, bind_rest, bind_spec, bind_specs, bind_formals}
use Rattle.expand_standing.specs.State.{State, Does, fresh, fault_form, note}
use Rattle.expand_standing.proofs.Noted.{noted-keeps}
use Rattle.law_expand.specs.States.{IsNumbered, Later, LaterBut}
use Rattle.law_expand.proofs.Acts.{Gave, gave-after, gave-both, gave-each, gave-if, gave-less, each-nil, each-cons}
use Rattle.law_expand.proofs.Binding.{BindsAll, spec_label, binds-formals, binds-specs}
use Rattle.law_expand.proofs.Good.{Bindings, Extends}
use Rattle.law_expand.proofs.Later.{bound-more, bound-last, later-self, later-then}
use Rattle.law_expand.proofs.Naming.{as_label, counted, counted-later, new-unbound, with_variable, Binds, binds}
use Rattle.law_expand.proofs.Nesting.{IsDefined, IsLeveled, leveled-grown, labels-grown}

-- names that come are those of the library, and its labels that are bound were made before
abbrev pub Here : LibName → State → Type 0
Here own s = (s.names.library ≡ own) × IsNumbered own s

pub here-later : (own : LibName) (s t : State) → Here own s → Later own s t → Here own t
here-later own s t h l = (l.next, l.grows.numbered h.1)

pub here-but : (own : LibName) (f : FrameNo) (s t : State) → Here own s → LaterBut own f s t → Here own t
here-but own f s t h l = (l.next, l.grows.numbered h.1)

pub here-counted : (own : LibName) (s : State) → Here own s → Here own (counted s)
here-counted own s h = here-later own s (counted s) h (counted-later own s h.0)

-- One action behind another, over a list.

abbrev pub Pairs : {X A : Type 0} → (X → A → Type 0) → List X → List A → Type 0
Pairs P [] [] = Unit {0}
Pairs P [] (a ∷ ys) = ⊥
Pairs P (x ∷ xs) [] = ⊥
Pairs P (x ∷ xs) (a ∷ ys) = P x a × Pairs P xs ys

pub pairs-map : {X A : Type 0} (P Q : X → A → Type 0) → ((x : X) (a : A) → P x a → Q x a) → (xs : List X) (ys : List A) → Pairs P xs ys → Pairs Q xs ys
pairs-map P Q h [] [] k = tt
pairs-map P Q h [] (a ∷ ys) k = k
pairs-map P Q h (x ∷ xs) [] k = k
pairs-map P Q h (x ∷ xs) (a ∷ ys) k = (h x a k.0, pairs-map P Q h xs ys k.1)

pub pairs-each : {X A : Type 0} (P : X → A → Type 0) (Q : A → Type 0) → ((x : X) (a : A) → P x a → Q a) → (xs : List X) (ys : List A) → Pairs P xs ys → Each Q ys
pairs-each P Q h [] [] k = tt
pairs-each P Q h [] (a ∷ ys) k = elim k [ ]
pairs-each P Q h (x ∷ xs) [] k = tt
pairs-each P Q h (x ∷ xs) (a ∷ ys) k = (h x a k.0, pairs-each P Q h xs ys k.1)

-- each gives what is so of it, also with more bindings
pub gave-pairs : {X A : Type 0} (own : LibName) (step : X → Does A) (Q : X → Type 0) (P : Bindings → X → A → Type 0) → ((bs cs : Bindings) → Extends bs cs → (x : X) (a : A) → P bs x a → P cs x a)
    → ((x : X) (s : State) → Q x → Here own s → Gave (λ a t. Later own s t × P t.bindings x a) (step x s))
    → (xs : List X) (s : State) → Each Q xs → Here own s → Gave (λ ys t. Later own s t × Pairs (P t.bindings) xs ys) (each step [] xs s)
gave-pairs {X} {A} own step Q P grown one [] s q h = subst (λ r. Gave (λ ys t. Later own s t × Pairs (P t.bindings) [] ys) r) (sym (each-nil step s)) (later-self own s h.0, tt)
gave-pairs {X} {A} own step Q P grown one (x ∷ xs) s q h =
    subst (λ r. Gave (λ ys t. Later own s t × Pairs (P t.bindings) (x ∷ xs) ys) r) (sym (each-cons step x xs s))
    (gave-after (λ a t. Later own s t × P t.bindings x a) (λ ys t. Later own s t × Pairs (P t.bindings) (x ∷ xs) ys) (step x s) (λ a t. after (each step [] xs t) (λ ys. give (a ∷ ys))) (one x s q.0 h)
    (λ a t k. gave-after (λ ys u. Later own t u × Pairs (P u.bindings) xs ys) (λ ys u. Later own s u × Pairs (P u.bindings) (x ∷ xs) ys) (each step [] xs t) (λ ys. give (a ∷ ys))
    (gave-pairs own step Q P grown one xs t q.1 (here-later own s t h k.0))
    (λ ys u j. (later-then own s t u k.0 j.0, (grown t.bindings u.bindings j.0.grows.bound x a k.1, j.1)))))

pub nothing-asked : {X : Type 0} (xs : List X) → Each (λ (x : X). Unit {0}) xs
nothing-asked [] = tt
nothing-asked (x ∷ xs) = (tt, nothing-asked xs)

-- Binders.

index-there : (level n : ℕ) → level ≡ 0 → IsThere (index_at level n)
index-there level n e = by (nat_eq level 0) refl
  where
    by : (b : Bool) → nat_eq level 0 ≡ b → IsThere (if b then Some n else None)
    by true d = tt
    by false d = absurd (grind (arith, nat_tests))

no-top : (level : ℕ) → false ≡ true → level ≡ 0
no-top level e = absurd (cc)

module _ (own : LibName) (f : FrameNo) (place : Span) (level : ℕ) where
  new-defined : (top : Bool) (id : Tree) (s : State) → Here own s → IsDefined (s.bindings ++ (as_label s.names, binding.Variable (variable_for id level top s.index)) ∷ []) level top (as_label s.names)
  new-defined top id s h =
      let v = variable_for id level top s.index in
      let l = as_label s.names in
      let last = bound-last s.bindings l (binding.Variable v) in
      record { variable = v; bound = by last.0 last.1 (bound-more s.bindings l l (binding.Variable v) last.0 last.1); at_top = refl; indexed = index-there level s.index }
    where
      by : (b : Binding) → bound_to (s.bindings ++ (as_label s.names, binding.Variable (variable_for id level top s.index)) ∷ []) (as_label s.names) ≡ Some b
          → (bound_to s.bindings (as_label s.names) ≡ Some b) ⊎ ((as_label s.names ≡ as_label s.names) × (binding.Variable (variable_for id level top s.index) ≡ b))
          → bound_to (s.bindings ++ (as_label s.names, binding.Variable (variable_for id level top s.index)) ∷ []) (as_label s.names) ≡ Some (binding.Variable (variable_for id level top s.index))
      by b e (inl old) = absurd (new-unbound own s (as_label s.names) h.1 h.0 (omega arith) b old)
      by b e (inr p) = e ∙ ap Some (sym p.1)

  defines-leveled : (top : Bool) (id : Tree) (s : State) → Here own s → Gave (λ l t. IsDefined t.bindings level top l) (bind_variable f place level top id s)
  unfolding bind_variable fresh
  defines-leveled top id s h =
      gave-if (λ l t. IsDefined t.bindings level top l) (is_leaf id) (after (fresh s) (bind_as f place level id top)) (fault_form kind.BadForm id place s) (λ e. by_row (is_some (label_at s.frames f (row_for id (as_label s.names)).symbol (row_for id (as_label s.names)).marks))) (λ e. tt)
    where
      by_row : (b : Bool)
          → Gave (λ l t. IsDefined t.bindings level top l) (after (row_put id place (counted s) (if b then Err (second_binder (symbol_of id)) else Ok (with_row s.frames f (row_for id (as_label s.names))))) (λ _ t. after (put_variable (as_label s.names) (variable_for id level top (counted s).index) t) (λ _. note (as_label s.names) (span_of id) (as_label s.names) kinds.Bind)))
      by_row true = tt
      by_row false = noted-keeps (λ t. IsDefined t.bindings level top (as_label s.names)) (span_of id) (as_label s.names) kinds.Bind
          (with_variable f id (as_label s.names) (variable_for id level top s.index) (counted s)) (λ ls. new-defined top id s h)

  -- a binder, and the label that it binds
  abbrev pub BindsLeveled : Bool → State → Label → State → Type 0
  BindsLeveled top s l t = Binds own f top s l t × IsDefined t.bindings level top l

  pub binds-leveled : (top : Bool) (id : Tree) (s : State) → (top ≡ true → level ≡ 0) → Here own s → Gave (BindsLeveled top s) (bind_variable f place level top id s)
  binds-leveled top id s low h = gave-both (Binds own f top s) (λ l t. IsDefined t.bindings level top l) (bind_variable f place level top id s) (binds own f place level top id s low h.0) (defines-leveled top id s h)

  abbrev Leveled : List Label → State → Type 0
  Leveled ls t = Each (IsLeveled t.bindings level) ls

  formals-leveled : (ids : List Tree) (s : State) → Here own s → Gave (λ ls t. Here own t × (Extends s.bindings t.bindings × Leveled ls t)) (bind_all f place level ids s)
  formals-leveled ids s h =
      gave-each (bind_variable f place level false) (λ id t l u. BindsLeveled false t l u) (λ xs t ls u. Here own u × (Extends t.bindings u.bindings × Leveled ls u)) (Here own)
      (λ t k. (k, ((λ l b e. e), tt)))
      (λ id t k. binds-leveled false id t (no-top level) k)
      (λ id t u l k b. here-but own f t u k b.0.later)
      (λ id xs t u v l ls k b a. (a.0, ((λ m x e. a.1.0 m x (b.0.later.grows.bound m x e)), (leveled-grown u.bindings v.bindings a.1.0 level l (false, b.1), a.1.1))))
      ids s h

  rest-leveled : (o : Option Tree) (s : State) → Here own s → Gave (λ r t. Extends s.bindings t.bindings × Leveled (rest_labels r) t) (bind_rest f place level o s)
  rest-leveled None s h = ((λ l b e. e), tt)
  rest-leveled (Some id) s h =
      gave-after (BindsLeveled false s) (λ r t. Extends s.bindings t.bindings × Leveled (rest_labels r) t) (bind_variable f place level false id s) (λ l. give (Some l)) (binds-leveled false id s (no-top level) h)
      (λ l t b. (b.0.later.grows.bound, ((false, b.1), tt)))

  all-formals-leveled : (ids : FormalIds) (s : State) → Here own s → Gave (λ x t. Leveled (formals_labels x) t) (bind_formals f place level ids s)
  unfolding bind_formals
  all-formals-leveled ids s h =
      gave-after (λ ls t. Here own t × (Extends s.bindings t.bindings × Leveled ls t)) (λ x t. Leveled (formals_labels x) t) (bind_all f place level ids.required s)
      (λ ls t. after (bind_rest f place level ids.rest t) (λ r. give (record { required = ls; rest = r }))) (formals-leveled ids.required s h)
      (λ ls t k. gave-after (λ r u. Extends t.bindings u.bindings × Leveled (rest_labels r) u) (λ x u. Leveled (formals_labels x) u) (bind_rest f place level ids.rest t) (λ r. give (record { required = ls; rest = r }))
      (rest-leveled ids.rest t k.0)
      (λ r u j. each-append (IsLeveled u.bindings level) ls (rest_labels r) (labels-grown t.bindings u.bindings j.0 level ls k.1.1) j.1))

  pub binds-formals-leveled : (ids : FormalIds) (s : State) → Here own s → Gave (λ x t. BindsAll own f s (formals_labels x) t × Each (IsLeveled t.bindings level) (formals_labels x)) (bind_formals f place level ids s)
  binds-formals-leveled ids s h = gave-both (λ x t. BindsAll own f s (formals_labels x) t) (λ x t. Leveled (formals_labels x) t) (bind_formals f place level ids s) (binds-formals own f place level ids s h.0) (all-formals-leveled ids s h)

  spec-leveled : (b : BindingSpec) (s : State) → Here own s → Gave (λ x t. BindsLeveled false s x.label t) (bind_spec f place level b s)
  unfolding bind_spec
  spec-leveled b s h =
      gave-after (BindsLeveled false s) (λ x t. BindsLeveled false s x.label t) (bind_variable f place level false b.id s) (λ l. give (record { label = l; init = b.init })) (binds-leveled false b.id s (no-top level) h) (λ l t k. k)

  specs-leveled : (bs : List BindingSpec) (s : State) → Here own s → Gave (λ xs t. Extends s.bindings t.bindings × Leveled (map spec_label xs) t) (bind_specs f place level bs s)
  specs-leveled bs s h =
      gave-each (bind_spec f place level) (λ b t x u. BindsLeveled false t x.label u) (λ xs t ys u. Extends t.bindings u.bindings × Leveled (map spec_label ys) u) (Here own)
      (λ t k. ((λ l b e. e), tt))
      (λ b t k. spec-leveled b t k)
      (λ b t u x k j. here-but own f t u k j.0.later)
      (λ b xs t u v x ys k j a. ((λ m y e. a.0 m y (j.0.later.grows.bound m y e)), (leveled-grown u.bindings v.bindings a.0 level x.label (false, j.1), a.1)))
      bs s h

  pub binds-specs-leveled : (bs : List BindingSpec) (s : State) → Here own s → Gave (λ xs t. BindsAll own f s (map spec_label xs) t × Each (IsLeveled t.bindings level) (map spec_label xs)) (bind_specs f place level bs s)
  binds-specs-leveled bs s h =
      gave-both (λ xs t. BindsAll own f s (map spec_label xs) t) (λ xs t. Leveled (map spec_label xs) t) (bind_specs f place level bs s) (binds-specs own f place level bs s h.0)
      (gave-less (λ xs t. Extends s.bindings t.bindings × Leveled (map spec_label xs) t) (λ xs t. Leveled (map spec_label xs) t) (bind_specs f place level bs s) (specs-leveled bs s h) (λ xs t k. k.1))
