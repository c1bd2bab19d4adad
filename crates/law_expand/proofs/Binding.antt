-- The binding of formals and of the variables of a `letrec` in a frame.
use Rattle.std.proofs.Common.{◌≡◌, ℕ, true, false, List, [], ◌∷◌, map, Option, None, Some, sym, subst}
use Rattle.base_data.specs.Act.{after, give}
use Rattle.base_data.specs.declared.library.LibName.{LibName}
use Rattle.base_data.specs.declared.name.FrameNo.{FrameNo}
use Rattle.base_data.specs.declared.name.Label.{Label}
use Rattle.base_data.specs.declared.span.Span.{Span}
use Rattle.stx_tree.specs.Tree.{Tree}
use Rattle.core_language.specs.References.{rest_labels, formals_labels}
use Rattle.core_shapes.specs.declared.shape.BindingSpec.{BindingSpec}
use Rattle.core_shapes.specs.declared.shape.FormalIds.{FormalIds}
use Rattle.expand_standing.specs.Binders.{bind_variable, bind_all, bind_rest, bind_spec, bind_specs, bind_formals}
use Rattle.expand_standing.specs.State.{State}
use Rattle.expand_standing.specs.declared.binders.BoundSpec.{BoundSpec}
use Rattle.law_expand.specs.States.{Keeps, Adds, LaterBut}
use Rattle.law_expand.proofs.Acts.{Gave, gave-after, gave-each}
use Rattle.law_expand.proofs.Fresh.{Made, FreshLabels, label_name, fresh-none, fresh-one, fresh-append}
use Rattle.law_expand.proofs.Scope.{adds-self, adds-then}
use Rattle.law_expand.proofs.Later.{keeps-self, keeps-then, but-self, but-then}
use Rattle.law_expand.proofs.Naming.{Binds, binds, next-made}

-- labels that were bound in a frame, from a state to another, and no others came into scope
pub record BindsAll (own : LibName) (f : FrameNo) (s : State) (ls : List Label) (t : State) : Type 0 where
  pub later : LaterBut own f s t
  pub labels : FreshLabels own s.names.number t.names.number ls
  pub adds : Adds own false ls [] s t
  pub keeps : Keeps own s t

abbrev pub spec_label : BoundSpec → Label
spec_label b = b.label

no-top : (level : ℕ) → false ≡ true → level ≡ 0
no-top level e = absurd (cc)

module _ (own : LibName) (f : FrameNo) where
  bound-none : (s : State) → s.names.library ≡ own → BindsAll own f s [] s
  bound-none s h = record { later = but-self own f s h; labels = fresh-none label_name own s.names.number s.names.number; adds = adds-self own false s; keeps = keeps-self own s }

  label-made : (s t : State) (l : Label) → s.names.library ≡ own → Binds own f false s l t → Made own s.names.number t.names.number l.0
  label-made s t l h b = subst (λ (m : Label). Made own s.names.number t.names.number m.0) (sym b.label) (subst (λ n. Made own s.names.number n s.names) (sym b.up) (next-made own s h))

  bound-more-labels : (s t u : State) (l : Label) (ls : List Label) → s.names.library ≡ own → Binds own f false s l t → BindsAll own f t ls u → BindsAll own f s (l ∷ ls) u
  bound-more-labels s t u l ls h b k = record {
    later = but-then own f s t u b.later k.later;
    labels = fresh-append label_name own s.names.number t.names.number u.names.number (l ∷ []) ls b.later.up k.later.up (fresh-one label_name own s.names.number t.names.number l (label-made s t l h b)) k.labels;
    adds = adds-then own false (l ∷ []) ls [] [] s t u b.adds k.adds;
    keeps = keeps-then own s t u b.later.up k.later.up b.keeps k.keeps;
  }

  binds-all : (place : Span) (level : ℕ) (ids : List Tree) (s : State) → s.names.library ≡ own → Gave (BindsAll own f s) (bind_all f place level ids s)
  binds-all place level ids s h =
      gave-each (bind_variable f place level false) (λ id t l u. Binds own f false t l u) (λ xs t ls u. BindsAll own f t ls u) (λ t. t.names.library ≡ own)
      (λ t k. bound-none t k)
      (λ id t k. binds own f place level false id t (no-top level) k)
      (λ id t u l k b. b.later.next)
      (λ id xs t u v l ls k b a. bound-more-labels t u v l ls k b a)
      ids s h

  -- with the one that takes the rest
  binds-rest : (place : Span) (level : ℕ) (o : Option Tree) (s : State) → s.names.library ≡ own → Gave (λ r t. BindsAll own f s (rest_labels r) t) (bind_rest f place level o s)
  binds-rest place level None s h = bound-none s h
  binds-rest place level (Some id) s h =
      gave-after (Binds own f false s) (λ r t. BindsAll own f s (rest_labels r) t) (bind_variable f place level false id s) (λ l. give (Some l)) (binds own f place level false id s (no-top level) h)
      (λ l t b. bound-more-labels s t t l [] h b (bound-none t b.later.next))

  pub binds-formals : (place : Span) (level : ℕ) (ids : FormalIds) (s : State) → s.names.library ≡ own → Gave (λ x t. BindsAll own f s (formals_labels x) t) (bind_formals f place level ids s)
  unfolding bind_formals
  binds-formals place level ids s h =
      gave-after (BindsAll own f s) (λ x t. BindsAll own f s (formals_labels x) t) (bind_all f place level ids.required s)
      (λ ls t. after (bind_rest f place level ids.rest t) (λ r. give (record { required = ls; rest = r }))) (binds-all place level ids.required s h)
      (λ ls t b. gave-after (λ r u. BindsAll own f t (rest_labels r) u) (λ x u. BindsAll own f s (formals_labels x) u) (bind_rest f place level ids.rest t) (λ r. give (record { required = ls; rest = r }))
      (binds-rest place level ids.rest t b.later.next)
      (λ r u c. record {
        later = but-then own f s t u b.later c.later;
        labels = fresh-append label_name own s.names.number t.names.number u.names.number ls (rest_labels r) b.later.up c.later.up b.labels c.labels;
        adds = adds-then own false ls (rest_labels r) [] [] s t u b.adds c.adds;
        keeps = keeps-then own s t u b.later.up c.later.up b.keeps c.keeps;
      }))

  -- the variables of a `letrec`
  binds-spec : (place : Span) (level : ℕ) (b : BindingSpec) (s : State) → s.names.library ≡ own → Gave (λ x t. Binds own f false s x.label t) (bind_spec f place level b s)
  unfolding bind_spec
  binds-spec place level b s h =
      gave-after (Binds own f false s) (λ x t. Binds own f false s x.label t) (bind_variable f place level false b.id s) (λ l. give (record { label = l; init = b.init })) (binds own f place level false b.id s (no-top level) h)
      (λ l t k. k)

  pub binds-specs : (place : Span) (level : ℕ) (bs : List BindingSpec) (s : State) → s.names.library ≡ own → Gave (λ xs t. BindsAll own f s (map spec_label xs) t) (bind_specs f place level bs s)
  binds-specs place level bs s h =
      gave-each (bind_spec f place level) (λ b t x u. Binds own f false t x.label u) (λ xs t ys u. BindsAll own f t (map spec_label ys) u) (λ t. t.names.library ≡ own)
      (λ t k. bound-none t k)
      (λ b t k. binds-spec place level b t k)
      (λ b t u x k j. j.later.next)
      (λ b xs t u v x ys k j a. bound-more-labels t u v x.label (map spec_label ys) k j a)
      bs s h
