-- Each variable that is bound has a name.
use Rattle.std.proofs.Common.{◌≡◌, ℕ, Bool, true, false, List, [], ◌∷◌, refl, sym, ap, subst, Option, Some, None}
use Rattle.std.proofs.Common.{inl, inr}
use Rattle.std.specs.Prelude.{◌⊎◌, if◌then◌else◌}
use Rattle.std.specs.List.{flat_map}
use Rattle.std.specs.Map.{lookup}
use Rattle.indexmap.specs.IndexMap.{insert_entry}
use Rattle.base_data.proofs.ElementLemmas.{among-parts}
use Rattle.base_data.specs.Elements.{Among}
use Rattle.base_data.specs.declared.name.Label.{Label}
use Rattle.core_language.specs.Labels.{same_label}
use Rattle.core_language.specs.declared.binding.Binding.{Binding}
use Rattle.core_language.specs.declared.binding.Binding.TheVariants as binding
use Rattle.law_core.proofs.Decisions.{label_decides}
use Rattle.core_output.specs.CoreText.{VariableNames}
use Rattle.core_output.specs.Naming.{with_index, with_name, with_names}
use Rattle.core_naming.specs.Generated.{generated_name}
use Rattle.law_core_grammar.specs.Spellable.{HasName}
use Rattle.law_core_grammar.specs.Bound.{Bound, bound_by, bound_in, all_bindings, BoundHaveNames}
use Rattle.law_core_grammar.proofs.Bound.{all_names_are}

-- a name is found
abbrev Found : Option (List ℕ) → Type 0
Found o = (x : List ℕ) × (o ≡ Some x)

first_found : (b : Bool) (y : List ℕ) (o : Option (List ℕ)) → b ≡ true → Found (if b then Some y else o)
first_found true y o e = (y, refl)
first_found false y o e = absurd (cc)

either_found : (b : Bool) (y : List ℕ) (o : Option (List ℕ)) → Found o → Found (if b then Some y else o)
either_found true y o h = (y, refl)
either_found false y o h = h

-- whatever stands first, if the others give what they gave
still_found : (b : Bool) (y z : List ℕ) (o p : Option (List ℕ)) → (Found o → Found p) → Found (if b then Some y else o) → Found (if b then Some z else p)
still_found true y z o p f h = (z, refl)
still_found false y z o p f h = f h

insert_has : (names : VariableNames) (k : Label) (y : List ℕ) → HasName (insert_entry same_label names k y) k
insert_has [] k y = first_found (same_label k k) y None ((label_decides k k).1 refl)
insert_has (r ∷ rs) k y = by_row (same_label k r.0) refl (insert_has rs k y) where
  by_row : (b : Bool) → same_label k r.0 ≡ b → HasName (insert_entry same_label rs k y) k → HasName (if b then (r.0, y) ∷ rs else r ∷ insert_entry same_label rs k y) k
  by_row true e h = first_found (same_label k r.0) y (lookup (same_label k) rs) e
  by_row false e h = either_found (same_label k r.0) r.1 (lookup (same_label k) (insert_entry same_label rs k y)) h

insert_keeps : (names : VariableNames) (k : Label) (y : List ℕ) (l : Label) → HasName names l → HasName (insert_entry same_label names k y) l
insert_keeps [] k y l h = either_found (same_label l k) y None h
insert_keeps (r ∷ rs) k y l h = by_row (same_label k r.0) (λ g. insert_keeps rs k y l g) where
  by_row : (b : Bool) → (HasName rs l → HasName (insert_entry same_label rs k y) l) → HasName (if b then (r.0, y) ∷ rs else r ∷ insert_entry same_label rs k y) l
  by_row true f = still_found (same_label l r.0) r.1 y (lookup (same_label l) rs) (lookup (same_label l) rs) (λ g. g) h
  by_row false f = still_found (same_label l r.0) r.1 r.1 (lookup (same_label l) rs) (lookup (same_label l) (insert_entry same_label rs k y)) f h

index_keeps : (names : VariableNames) (k : Label) (symbol : List ℕ) (index : Option ℕ) (l : Label) → HasName names l → HasName (with_index names k symbol index) l
index_keeps names k symbol None l h = h
index_keeps names k symbol (Some n) l h = insert_keeps names k (generated_name k.0.library symbol n) l h

name_keeps : (names : VariableNames) (k : Label) (c : Binding) (l : Label) → HasName names l → HasName (with_name names k c) l
name_keeps names k (binding.Variable v) l h = index_keeps names k v.symbol v.index l h
name_keeps names k (binding.PatternVariable level depth) l h = h
name_keeps names k (binding.Macro level expression) l h = h
name_keeps names k (binding.Core form) l h = h
name_keeps names k (binding.Primitive o) l h = h

names_keep : (cs : List (Label × Binding)) (names : VariableNames) (l : Label) → HasName names l → HasName (with_names names cs) l
names_keep [] names l h = h
names_keep (c ∷ cs) names l h = names_keep cs (with_name names c.0 c.1) l (name_keeps names c.0 c.1 l h)

index_has : (names : VariableNames) (k : Label) (symbol : List ℕ) (index : Option ℕ) (b : Bound) → Among (bound_by k symbol index) b → HasName (with_index names k symbol index) b.label
index_has names k symbol None b a = elim a [ ]
index_has names k symbol (Some n) b (inl e) =
    let label : b.label ≡ k = ap (λ (c : Bound). c.label) e in
    subst (λ (l : Label). HasName (with_index names k symbol (Some n)) l) (sym label) (insert_has names k (generated_name k.0.library symbol n))
index_has names k symbol (Some n) b (inr a) = elim a [ ]

name_has : (names : VariableNames) (k : Label) (c : Binding) (b : Bound) → Among (bound_in (k, c)) b → HasName (with_name names k c) b.label
name_has names k (binding.Variable v) b a = index_has names k v.symbol v.index b a
name_has names k (binding.PatternVariable level depth) b a = elim a [ ]
name_has names k (binding.Macro level expression) b a = elim a [ ]
name_has names k (binding.Core form) b a = elim a [ ]
name_has names k (binding.Primitive o) b a = elim a [ ]

names_have : (cs : List (Label × Binding)) (names : VariableNames) (b : Bound) → Among (flat_map bound_in cs) b → HasName (with_names names cs) b.label
names_have [] names b a = elim a [ ]
names_have (c ∷ cs) names b a = by_part (among-parts (bound_in c) (flat_map bound_in cs) b a) (λ g. names_have cs (with_name names c.0 c.1) b g) where
  by_part : Among (bound_in c) b ⊎ Among (flat_map bound_in cs) b → (Among (flat_map bound_in cs) b → HasName (with_names (with_name names c.0 c.1) cs) b.label)
      → HasName (with_names (with_name names c.0 c.1) cs) b.label
  by_part (inl h) f = names_keep cs (with_name names c.0 c.1) b.label (name_has names c.0 c.1 b h)
  by_part (inr g) f = f g

pub bound_have_names : BoundHaveNames
bound_have_names records plan program b a =
    subst (λ (ns : VariableNames). HasName ns b.label) (sym (all_names_are records plan program [])) (names_have (all_bindings records plan program) [] b a)
