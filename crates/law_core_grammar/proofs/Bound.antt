-- The names of a program's variables are generated ones, and tell them apart.
use Rattle.std.proofs.Common.{◌≡◌, ℕ, Bool, true, false, List, [], ◌∷◌, ◌++◌, map, refl, sym, ap, ◌∙◌, subst, Option, Some, None}
use Rattle.std.proofs.Common.{inl, inr}
use Rattle.std.specs.Prelude.{◌⊎◌, slice_get, if◌then◌else◌}
use Rattle.std.specs.List.{flat_map}
use Rattle.std.specs.Map.{lookup}
use Rattle.indexmap.specs.IndexMap.{insert_entry}
use Rattle.base_data.proofs.ElementLemmas.{each-at, among-map}
use Rattle.base_data.specs.Elements.{Each, Among, Once}
use Rattle.base_data.specs.declared.name.Label.{Label}
use Rattle.core_language.specs.Labels.{same_label}
use Rattle.core_language.specs.declared.binding.Binding.{Binding}
use Rattle.core_language.specs.declared.binding.Binding.TheVariants as binding
use Rattle.core_language.specs.declared.record.CompiledLibrary.{CompiledLibrary}
use Rattle.law_core.proofs.Decisions.{label_decides}
use Rattle.core_output.specs.CoreText.{VariableNames}
use Rattle.core_output.specs.Naming.{with_index, with_name, with_names}
use Rattle.core_output.specs.Whole.{named_by, plan_names}
use Rattle.law_names.specs.Variable.{NamedVariable}
use Rattle.law_names.specs.Variable as variables
use Rattle.law_names.proofs.AnyName.{place_told}
use Rattle.law_core_grammar.specs.Names.{IsCalled, IsGenerated, AreGenerated, TellApart}
use Rattle.law_core_grammar.specs.Bound.{Bound, bound_by, bound_in, record_bindings, all_bindings, place, IsTold, NamesAreGenerated, NamesTellApart}

-- one list of bindings after the other
names_append : (names : VariableNames) (bs cs : List (Label × Binding)) → with_names names (bs ++ cs) ≡ with_names (with_names names bs) cs
names_append names [] cs = refl
names_append names (b ∷ bs) cs = names_append (with_name names b.0 b.1) bs cs

named_by_is : (names : VariableNames) (r : Option CompiledLibrary) → named_by names r ≡ with_names names (record_bindings r)
named_by_is names None = refl
named_by_is names (Some r) = refl

pub all_names_are : (records : List CompiledLibrary) (plan : List ℕ) (program : CompiledLibrary) (names : VariableNames)
    → with_names (plan_names records names plan) program.bindings ≡ with_names names (all_bindings records plan program)
all_names_are records [] program names = refl
all_names_are records (p ∷ ps) program names =
    all_names_are records ps program (named_by names (slice_get records p))
    ∙ ap (λ (ns : VariableNames). with_names ns (all_bindings records ps program)) (named_by_is names (slice_get records p))
    ∙ sym (names_append names (record_bindings (slice_get records p)) (all_bindings records ps program))

-- the name of a label is one that it was given
record IsGiven (b : Bound) (l : Label) (x : List ℕ) : Type 0 where
  label : b.label ≡ l
  name : variables.name_of b.variable ≡ x

-- one of these gave it
abbrev Given : List Bound → Label → List ℕ → Type 0
Given bs l x = (b : Bound) × (Among bs b × IsGiven b l x)

some_same : (y x : List ℕ) → ◌≡◌ {A = Option (List ℕ)} (Some y) (Some x) → y ≡ x
some_same y x e = cc

no_name : (x : List ℕ) → ◌≡◌ {A = Option (List ℕ)} None (Some x) → ⊥
no_name x e = cc

-- what an inserted name changes
inserted : (names : VariableNames) (k : Label) (y : List ℕ) (l : Label) (x : List ℕ) → lookup (same_label l) (insert_entry same_label names k y) ≡ Some x
    → ((k ≡ l) × (y ≡ x)) ⊎ (lookup (same_label l) names ≡ Some x)
inserted [] k y l x e = by_same (same_label l k) refl e where
  by_same : (b : Bool) → same_label l k ≡ b → (if b then Some y else None) ≡ Some x → ((k ≡ l) × (y ≡ x)) ⊎ (None ≡ Some x)
  by_same true same f = inl (sym ((label_decides l k).0 same), some_same y x f)
  by_same false same f = absurd (no_name x f)
inserted (r ∷ rs) k y l x e = by_row (same_label k r.0) refl (λ f. inserted rs k y l x f) e where
  behind : (b : Bool) → same_label l r.0 ≡ b → k ≡ r.0 → (if b then Some y else lookup (same_label l) rs) ≡ Some x
      → ((k ≡ l) × (y ≡ x)) ⊎ ((if b then Some r.1 else lookup (same_label l) rs) ≡ Some x)
  behind true same is f = inl (is ∙ sym ((label_decides l r.0).0 same), some_same y x f)
  behind false same is f = inr f

  beside : (b : Bool) → (lookup (same_label l) (insert_entry same_label rs k y) ≡ Some x → ((k ≡ l) × (y ≡ x)) ⊎ (lookup (same_label l) rs ≡ Some x))
      → (if b then Some r.1 else lookup (same_label l) (insert_entry same_label rs k y)) ≡ Some x → ((k ≡ l) × (y ≡ x)) ⊎ ((if b then Some r.1 else lookup (same_label l) rs) ≡ Some x)
  beside true others f = inr f
  beside false others f = others f

  by_row : (b : Bool) → same_label k r.0 ≡ b → (lookup (same_label l) (insert_entry same_label rs k y) ≡ Some x → ((k ≡ l) × (y ≡ x)) ⊎ (lookup (same_label l) rs ≡ Some x))
      → lookup (same_label l) (if b then (r.0, y) ∷ rs else r ∷ insert_entry same_label rs k y) ≡ Some x
      → ((k ≡ l) × (y ≡ x)) ⊎ (lookup (same_label l) (r ∷ rs) ≡ Some x)
  by_row true same others f = behind (same_label l r.0) refl ((label_decides k r.0).0 same) f
  by_row false same others f = beside (same_label l r.0) others f

-- further ones
further : (b : Bound) (bs : List Bound) (l : Label) (x : List ℕ) → Given bs l x → Given (b ∷ bs) l x
further b bs l x g = (g.0, (inr g.1.0, g.1.1))

behind_all : (cs bs : List Bound) (l : Label) (x : List ℕ) → Given bs l x → Given (cs ++ bs) l x
behind_all [] bs l x g = g
behind_all (c ∷ cs) bs l x g = further c (cs ++ bs) l x (behind_all cs bs l x g)

-- a name after a binding is of this binding, or was there
by_index : (names : VariableNames) (k : Label) (symbol : List ℕ) (index : Option ℕ) (bs : List Bound) (l : Label) (x : List ℕ)
    → lookup (same_label l) (with_index names k symbol index) ≡ Some x → Given (bound_by k symbol index ++ bs) l x ⊎ (lookup (same_label l) names ≡ Some x)
by_index names k symbol None bs l x e = inr e
by_index names k symbol (Some n) bs l x e = by_part (inserted names k (variables.name_of (record { library = k.0.library; symbol = symbol; number = n })) l x e) where
  by_part : ((k ≡ l) × (variables.name_of (record { library = k.0.library; symbol = symbol; number = n }) ≡ x)) ⊎ (lookup (same_label l) names ≡ Some x)
      → Given (bound_by k symbol (Some n) ++ bs) l x ⊎ (lookup (same_label l) names ≡ Some x)
  by_part (inl p) = inl (record { label = k; variable = record { library = k.0.library; symbol = symbol; number = n } }, (inl refl, record { label = p.0; name = p.1 }))
  by_part (inr f) = inr f

by_binding : (names : VariableNames) (k : Label) (c : Binding) (bs : List Bound) (l : Label) (x : List ℕ)
    → lookup (same_label l) (with_name names k c) ≡ Some x → Given (bound_in (k, c) ++ bs) l x ⊎ (lookup (same_label l) names ≡ Some x)
by_binding names k (binding.Variable v) bs l x e = by_index names k v.symbol v.index bs l x e
by_binding names k (binding.PatternVariable level depth) bs l x e = inr e
by_binding names k (binding.Macro level expression) bs l x e = inr e
by_binding names k (binding.Core form) bs l x e = inr e
by_binding names k (binding.Primitive o) bs l x e = inr e

given_by : (cs : List (Label × Binding)) (names : VariableNames) (l : Label) (x : List ℕ) → lookup (same_label l) (with_names names cs) ≡ Some x
    → Given (flat_map bound_in cs) l x ⊎ (lookup (same_label l) names ≡ Some x)
given_by [] names l x e = inr e
given_by (c ∷ cs) names l x e = by_part (given_by cs (with_name names c.0 c.1) l x e) where
  by_part : Given (flat_map bound_in cs) l x ⊎ (lookup (same_label l) (with_name names c.0 c.1) ≡ Some x) → Given (bound_in c ++ flat_map bound_in cs) l x ⊎ (lookup (same_label l) names ≡ Some x)
  by_part (inl g) = inl (behind_all (bound_in c) (flat_map bound_in cs) l x g)
  by_part (inr f) = by_binding names c.0 c.1 (flat_map bound_in cs) l x f

given_in : (cs : List (Label × Binding)) (l : Label) (x : List ℕ) → IsCalled (with_names [] cs) l x → Given (flat_map bound_in cs) l x
given_in cs l x e = by_part (given_by cs [] l x e) where
  by_part : Given (flat_map bound_in cs) l x ⊎ (None ≡ Some x) → Given (flat_map bound_in cs) l x
  by_part (inl g) = g
  by_part (inr f) = absurd (no_name x f)

once_same : {A B : Type 0} (f : A → B) (xs : List A) (x y : A) → Once (map f xs) → Among xs x → Among xs y → f x ≡ f y → x ≡ y
once_same f [] x y h a b e = elim a [ ]
once_same f (z ∷ zs) x y h (inl a) (inl b) e = a ∙ sym b
once_same f (z ∷ zs) x y h (inl a) (inr b) e = absurd (h.0 (subst (λ w. Among (map f zs) w) (sym e ∙ ap f a) (among-map f zs y b)))
once_same f (z ∷ zs) x y h (inr a) (inl b) e = absurd (h.0 (subst (λ w. Among (map f zs) w) (e ∙ ap f b) (among-map f zs x a)))
once_same f (z ∷ zs) x y h (inr a) (inr b) e = once_same f zs x y h.1 a b e

-- each row has a generated name
insert_generated : (names : VariableNames) (k : Label) (y : List ℕ) → IsGenerated y → AreGenerated names → AreGenerated (insert_entry same_label names k y)
insert_generated [] k y g h = (g, tt)
insert_generated (r ∷ rs) k y g h = by_row (same_label k r.0) (insert_generated rs k y g h.1) where
  by_row : (b : Bool) → AreGenerated (insert_entry same_label rs k y) → AreGenerated (if b then (r.0, y) ∷ rs else r ∷ insert_entry same_label rs k y)
  by_row true others = (g, h.1)
  by_row false others = (h.0, others)

index_generated : (names : VariableNames) (k : Label) (symbol : List ℕ) (index : Option ℕ) → AreGenerated names → AreGenerated (with_index names k symbol index)
index_generated names k symbol None good = good
index_generated names k symbol (Some n) good =
    insert_generated names k (variables.name_of (record { library = k.0.library; symbol = symbol; number = n }))
    (record { of = record { library = k.0.library; symbol = symbol; number = n }; same = refl }) good

binding_generated : (names : VariableNames) (k : Label) (c : Binding) → AreGenerated names → AreGenerated (with_name names k c)
binding_generated names k (binding.Variable v) good = index_generated names k v.symbol v.index good
binding_generated names k (binding.PatternVariable level depth) good = good
binding_generated names k (binding.Macro level expression) good = good
binding_generated names k (binding.Core form) good = good
binding_generated names k (binding.Primitive o) good = good

names_generated : (names : VariableNames) (cs : List (Label × Binding)) → AreGenerated names → AreGenerated (with_names names cs)
names_generated names [] good = good
names_generated names (c ∷ cs) good = names_generated (with_name names c.0 c.1) cs (binding_generated names c.0 c.1 good)

pub names_are_generated : NamesAreGenerated
names_are_generated records plan program = subst AreGenerated (sym (all_names_are records plan program [])) (names_generated [] (all_bindings records plan program) tt)

apart : (cs : List (Label × Binding)) → Each IsTold (flat_map bound_in cs) → Once (map place (flat_map bound_in cs)) → TellApart (with_names [] cs)
apart cs h once l m x e f =
    let a = given_in cs l x e in
    let b = given_in cs m x f in
    let bs : List Bound = flat_map bound_in cs in
    let v = a.0.variable in
    let w = b.0.variable in
    let is : IsTold a.0 = each-at IsTold bs a.0 h a.1.0 in
    let was : IsTold b.0 = each-at IsTold bs b.0 h b.1.0 in
    let told = place_told v.library w.library v.symbol w.symbol v.number w.number is was (a.1.1.name ∙ sym b.1.1.name) in
    let same : a.0 ≡ b.0 = once_same place bs a.0 b.0 once a.1.0 b.1.0 (λ i. (told.0 i, told.1 i)) in
    sym a.1.1.label ∙ ap (λ (c : Bound). c.label) same ∙ b.1.1.label

pub names_tell_apart : NamesTellApart
names_tell_apart records plan program h once =
    subst TellApart (sym (all_names_are records plan program [])) (apart (all_bindings records plan program) h once)
