-- The fuel of turns, one after another.
use Rattle.std.proofs.Common.{◌≡◌, ℕ, ◌+◌, Bool, List, [], ◌∷◌, ◌++◌, Result, refl, sym, ap, ◌∙◌, arith, append_assoc, append-nil}
use Rattle.base_data.specs.declared.fault.Fault.{Fault}
use Rattle.core_language.specs.declared.record.CompiledLibrary.{CompiledLibrary}
use Rattle.run_derived.specs.Derived.{derived_spent}
use Rattle.eval_code.specs.Codes.{Codes}
use Rattle.load_files.specs.declared.found.Found.{Found}
use Rattle.run_reuse.specs.Fuel.{turn_spent, turns_spent, behind_first, progress_spent, TurnSpends, TurnsSpend}
use Rattle.run_reuse.specs.Progress.{ReuseProgress, begun}

module _ (prelude : Result Codes Fault) where
  -- what the first turn spends, and those behind it
  first_turn : (records : List CompiledLibrary) (f : Found) (fs : List Found) (r : CompiledLibrary) (rs : List CompiledLibrary) (b : Bool) (bs : List Bool)
      → turns_spent prelude records (f ∷ fs) (r ∷ rs) (b ∷ bs) ≡ turn_spent prelude records f b + turns_spent prelude (records ++ r ∷ []) fs rs bs
  unfolding turns_spent
  first_turn records f fs r rs b bs = refl

  no_turns : (records rs : List CompiledLibrary) (bs : List Bool) → turns_spent prelude records [] rs bs ≡ 0
  unfolding turns_spent
  no_turns records rs bs = refl

  both : (records : List CompiledLibrary) (fs : List Found) (rs others : List CompiledLibrary) (bs flags : List Bool) → rs ≡ others → bs ≡ flags → turns_spent prelude records fs rs bs ≡ turns_spent prelude records fs others flags
  both records fs rs others bs flags p q = λ i. turns_spent prelude records fs (p i) (q i)

  first_both : (fs : List Found) (rs others : List CompiledLibrary) (bs flags : List Bool) → rs ≡ others → bs ≡ flags → behind_first prelude fs rs bs ≡ behind_first prelude fs others flags
  first_both fs rs others bs flags p q = λ i. behind_first prelude fs (p i) (q i)

  -- ---- the loop over the libraries

  -- what the rest of the libraries spends, all of them spend behind what was spent so far
  pub record FuelGoesOn (first : ReuseProgress) (all : List Found) (fuel_first : ℕ) (p : ReuseProgress) (left : List Found) (fuel : ℕ) : Type 0 where
    pub libraries : List CompiledLibrary
    pub reused : List Bool
    pub records_are : p.records ≡ first.records ++ libraries
    pub reused_are : p.reused ≡ first.reused ++ reused
    pub on : (rs : List CompiledLibrary) (bs : List Bool) → fuel_first + turns_spent prelude first.records all (libraries ++ rs) (reused ++ bs) ≡ fuel + turns_spent prelude p.records left rs bs

  pub fuel_first : (p : ReuseProgress) (all left : List Found) (fuel : ℕ) → left ≡ all → FuelGoesOn p all fuel p left fuel
  fuel_first p all left fuel is = record {
    libraries = [];
    reused = [];
    records_are = sym (append-nil p.records);
    reused_are = sym (append-nil p.reused);
    on = λ rs bs. ap (λ fs. fuel + turns_spent prelude p.records fs rs bs) (sym is);
  }

  pub fuel_on : (first p q : ReuseProgress) (all left others : List Found) (f : Found) (start before after : ℕ) → left ≡ f ∷ others → TurnSpends prelude p f q before after
      → FuelGoesOn first all start p left before → FuelGoesOn first all start q others after
  fuel_on first p q all left others f start before after is turn g = record {
    libraries = g.libraries ++ turn.library ∷ [];
    reused = g.reused ++ turn.reused ∷ [];
    records_are = ap (λ (x : ReuseProgress). x.records) turn.is ∙ ap (λ rs. rs ++ turn.library ∷ []) g.records_are ∙ append_assoc first.records g.libraries (turn.library ∷ []);
    reused_are = ap (λ (x : ReuseProgress). x.reused) turn.is ∙ ap (λ bs. bs ++ turn.reused ∷ []) g.reused_are ∙ append_assoc first.reused g.reused (turn.reused ∷ []);
    on = λ rs bs.
        let a : turns_spent prelude first.records all ((g.libraries ++ turn.library ∷ []) ++ rs) ((g.reused ++ turn.reused ∷ []) ++ bs) ≡ turns_spent prelude first.records all (g.libraries ++ turn.library ∷ rs) (g.reused ++ turn.reused ∷ bs)
        = both first.records all _ _ _ _ (append_assoc g.libraries (turn.library ∷ []) rs) (append_assoc g.reused (turn.reused ∷ []) bs) in
        let b = g.on (turn.library ∷ rs) (turn.reused ∷ bs) in
        let d : turns_spent prelude p.records left (turn.library ∷ rs) (turn.reused ∷ bs) ≡ turn_spent prelude p.records f turn.reused + turns_spent prelude (p.records ++ turn.library ∷ []) others rs bs
        = ap (λ fs. turns_spent prelude p.records fs (turn.library ∷ rs) (turn.reused ∷ bs)) is ∙ first_turn p.records f others turn.library rs turn.reused bs in
        let e : turns_spent prelude q.records others rs bs ≡ turns_spent prelude (p.records ++ turn.library ∷ []) others rs bs = ap (λ (x : ReuseProgress). turns_spent prelude x.records others rs bs) turn.is in
        omega (arith, a, b, d, e, turn.rose);
  }

  pub fuel_end : (first p : ReuseProgress) (all left : List Found) (start fuel : ℕ) → left ≡ [] → FuelGoesOn first all start p left fuel → TurnsSpend prelude first all p start fuel
  fuel_end first p all left start fuel none g = record {
    libraries = g.libraries;
    reused = g.reused;
    records_are = g.records_are;
    reused_are = g.reused_are;
    rose =
        let a : turns_spent prelude first.records all (g.libraries ++ []) (g.reused ++ []) ≡ turns_spent prelude first.records all g.libraries g.reused = both first.records all _ _ _ _ (append-nil g.libraries) (append-nil g.reused) in
        let b = g.on [] [] in
        let d : turns_spent prelude p.records left [] [] ≡ 0 = ap (λ fs. turns_spent prelude p.records fs [] []) none ∙ no_turns p.records [] [] in
        omega (arith, a, b, d);
  }

  -- ---- behind the derived library

  pub derived_then : (derived : CompiledLibrary) (p q : ReuseProgress) (fs : List Found) (start middle after : ℕ) → p ≡ begun derived → middle ≡ start + derived_spent prelude → TurnsSpend prelude p fs q middle after
      → after ≡ start + progress_spent prelude fs q
  derived_then derived p q fs start middle after is first turns =
      let a : q.records ≡ derived ∷ turns.libraries = turns.records_are ∙ ap (λ (x : ReuseProgress). x.records ++ turns.libraries) is in
      let b : q.reused ≡ turns.reused = turns.reused_are ∙ ap (λ (x : ReuseProgress). x.reused ++ turns.reused) is in
      let d : progress_spent prelude fs q ≡ derived_spent prelude + turns_spent prelude (derived ∷ []) fs turns.libraries turns.reused = first_both fs q.records (derived ∷ turns.libraries) q.reused turns.reused a b in
      let e : turns_spent prelude p.records fs turns.libraries turns.reused ≡ turns_spent prelude (derived ∷ []) fs turns.libraries turns.reused = ap (λ (x : ReuseProgress). turns_spent prelude x.records fs turns.libraries turns.reused) is in
      omega (arith, d, e, first, turns.rose)
