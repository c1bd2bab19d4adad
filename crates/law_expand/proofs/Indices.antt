-- No two variables of a library have one index.
use Rattle.std.proofs.Common.{◌≡◌, ℕ, zero, suc, ◌<◌, List, [], ◌++◌, Option, None, Some, refl, sym, ap, subst, arith, inl, inr}
use Rattle.std.specs.Prelude.{◌⊎◌}
use Rattle.std.specs.List.{flat_map}
use Rattle.std.proofs.lemmas.Grind.{flat_map-append}
use Rattle.base_data.proofs.ElementLemmas.{among-parts}
use Rattle.base_data.specs.Elements.{Among, Once}
use Rattle.base_data.specs.declared.library.LibName.{LibName}
use Rattle.base_data.specs.declared.name.Label.{Label}
use Rattle.core_language.specs.Bindings.{bound_to}
use Rattle.core_language.specs.declared.binding.Binding.TheVariants as binding
use Rattle.core_language.specs.declared.binding.Binding.{Binding}
use Rattle.core_language.specs.declared.binding.VarInfo.{VarInfo}
use Rattle.expand_standing.specs.Own.{row_at, own_label, own_row, own_below, own_bindings}
use Rattle.expand_standing.specs.State.{State}
use Rattle.law_expand.specs.Indices.{there, bound_index}
use Rattle.law_expand.specs.States.{IndicesApart}
use Rattle.law_expand.proofs.Fresh.{once-append}

module _ (own : LibName) (s : State) (next : s.names.library ≡ own) (indices : IndicesApart own s) where
  -- the variable of a number has this index
  record HasIndex (n i : ℕ) : Type 0 where
    pub variable : VarInfo
    pub bound : bound_to s.bindings (own_label s n) ≡ Some (binding.Variable variable)
    pub index : variable.index ≡ Some i

  there-is : (o : Option ℕ) (i : ℕ) → Among (there o) i → o ≡ Some i
  there-is None i a = elim a [ ]
  there-is (Some n) i (inl e) = ap Some (sym e)
  there-is (Some n) i (inr a) = elim a [ ]

  there-once : (o : Option ℕ) → Once (there o ++ [])
  there-once None = tt
  there-once (Some n) = ((λ a. a), tt)

  in-row : (n i : ℕ) (o : Option Binding) → bound_to s.bindings (own_label s n) ≡ o → Among (flat_map bound_index (row_at s (own_label s n) o)) i → HasIndex n i
  in-row n i None e h = elim h [ ]
  in-row n i (Some (binding.Variable v)) e h = by (among-parts (there v.index) [] i h)
    where
      by : Among (there v.index) i ⊎ Among [] i → HasIndex n i
      by (inl x) = record { variable = v; bound = e; index = there-is v.index i x }
      by (inr x) = elim x [ ]
  in-row n i (Some (binding.PatternVariable level depth)) e h = elim h [ ]
  in-row n i (Some (binding.Macro level expression)) e h = elim h [ ]
  in-row n i (Some (binding.Core f)) e h = elim h [ ]
  in-row n i (Some (binding.Primitive o)) e h = elim h [ ]

  row-once : (l : Label) (o : Option Binding) → Once (flat_map bound_index (row_at s l o))
  row-once l None = tt
  row-once l (Some (binding.Variable v)) = there-once v.index
  row-once l (Some (binding.PatternVariable level depth)) = tt
  row-once l (Some (binding.Macro level expression)) = tt
  row-once l (Some (binding.Core f)) = tt
  row-once l (Some (binding.Primitive o)) = tt

  -- an index below a number is that of a variable there
  record Below (n i : ℕ) : Type 0 where
    pub number : ℕ
    pub less : number < n
    pub has : HasIndex number i

  in-below : (n i : ℕ) → Among (flat_map bound_index (own_below s n)) i → Below n i
  in-below zero i h = elim h [ ]
  in-below (suc n) i h = by (in-below n i) (among-parts (flat_map bound_index (own_below s n)) (flat_map bound_index (own_row s n)) i
      (subst (λ (xs : List ℕ). Among xs i) (flat_map-append bound_index (own_below s n) (own_row s n)) h))
    where
      by : (Among (flat_map bound_index (own_below s n)) i → Below n i) → Among (flat_map bound_index (own_below s n)) i ⊎ Among (flat_map bound_index (own_row s n)) i → Below (suc n) i
      by before (inl a) = let b = before a in record { number = b.number; less = let lt = b.less in omega (arith, lt); has = b.has }
      by before (inr a) = record { number = n; less = omega arith; has = in-row n i (bound_to s.bindings (own_label s n)) refl a }

  same-number : (m n i : ℕ) → HasIndex m i → HasIndex n i → m ≡ n
  same-number m n i h k = ap (λ (l : Label). l.0.number) (indices.apart (own_label s m) (own_label s n) h.variable k.variable i next next h.bound k.bound h.index k.index)

  below-once : (n : ℕ) → Once (flat_map bound_index (own_below s n))
  below-once zero = tt
  below-once (suc n) = subst (λ (xs : List ℕ). Once xs) (sym (flat_map-append bound_index (own_below s n) (own_row s n)))
      (once-append (flat_map bound_index (own_below s n)) (flat_map bound_index (own_row s n)) (below-once n)
      (row-once (own_label s n) (bound_to s.bindings (own_label s n)))
      (λ i a b. let x = in-below n i a in
      let is = same-number x.number n i x.has (in-row n i (bound_to s.bindings (own_label s n)) refl b) in
      let lt = x.less in omega (arith, is, lt)))

  pub indices-once : Once (flat_map bound_index (own_bindings s))
  unfolding own_bindings
  indices-once = below-once s.names.number
