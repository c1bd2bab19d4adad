-- A record binds no label twice.
use Rattle.std.proofs.Common.{◌≡◌, ℕ, zero, suc, ◌<◌, List, [], ◌∷◌, ◌++◌, map, Option, None, Some, refl, sym, ap, subst, arith}
use Rattle.base_data.proofs.ElementLemmas.{each-at, each-append}
use Rattle.base_data.specs.Elements.{Each, Once}
use Rattle.base_data.specs.declared.name.Label.{Label}
use Rattle.core_language.specs.Bindings.{bound_to}
use Rattle.core_language.specs.declared.binding.Binding.{Binding}
use Rattle.expand_standing.specs.Own.{row_at, own_label, own_row, own_below, own_bindings}
use Rattle.expand_standing.specs.State.{State}
use Rattle.law_expand.proofs.Fresh.{each-map, once-append}

abbrev labels : List (Label × Binding) → List Label
labels bs = map (λ (b : Label × Binding). b.0) bs

labels-append : (xs ys : List (Label × Binding)) → labels (xs ++ ys) ≡ labels xs ++ labels ys
labels-append [] ys = refl
labels-append (x ∷ xs) ys = ap (λ ls. x.0 ∷ ls) (labels-append xs ys)

module _ (s : State) where
  row-label : (n : ℕ) (o : Option Binding) → Each (λ (l : Label). l.0.number ≡ n) (labels (row_at s (own_label s n) o))
  row-label n None = tt
  row-label n (Some b) = (refl, tt)

  row-once : (n : ℕ) (o : Option Binding) → Once (labels (row_at s (own_label s n) o))
  row-once n None = tt
  row-once n (Some b) = ((λ a. elim a [ ]), tt)

  below : (n : ℕ) → Each (λ (l : Label). l.0.number < n) (labels (own_below s n))
  below zero = tt
  below (suc n) = subst (Each (λ (l : Label). l.0.number < suc n)) (sym (labels-append (own_below s n) (own_row s n)))
      (each-append (λ (l : Label). l.0.number < suc n) (labels (own_below s n)) (labels (own_row s n))
      (each-map (λ (l : Label). l.0.number < n) (λ (l : Label). l.0.number < suc n) (labels (own_below s n)) (below n) (λ l h. omega (arith, h)))
      (each-map (λ (l : Label). l.0.number ≡ n) (λ (l : Label). l.0.number < suc n) (labels (own_row s n)) (row-label n (bound_to s.bindings (own_label s n))) (λ l h. omega (arith, h))))

  below-once : (n : ℕ) → Once (labels (own_below s n))
  below-once zero = tt
  below-once (suc n) = subst (λ (ls : List Label). Once ls) (sym (labels-append (own_below s n) (own_row s n)))
      (once-append (labels (own_below s n)) (labels (own_row s n)) (below-once n) (row-once n (bound_to s.bindings (own_label s n)))
      (λ l a b.
      let low = each-at (λ (x : Label). x.0.number < n) (labels (own_below s n)) l (below n) a in
      let at = each-at (λ (x : Label). x.0.number ≡ n) (labels (own_row s n)) l (row-label n (bound_to s.bindings (own_label s n))) b in
      omega (arith, low, at)))

  pub labels-once : Once (labels (own_bindings s))
  unfolding own_bindings
  labels-once = below-once s.names.number
