-- Whatever stands for a variable that isn't bound, an instance is the same.
use Rattle.std.proofs.Common.{◌≡◌, ℕ, zero, suc, ◌+◌, ◌-◌, ◌<◌, ◌≤◌, Bool, true, false, List, [], ◌∷◌, ◌++◌, Option, None, Some, Ok, Err, refl, ap, sym, subst, ◌∙◌, arith}
use Rattle.std.specs.Prelude.{Result, nat_lt, if◌then◌else◌}
use Rattle.std.proofs.lemmas.Bool.{ltb-true}
use Rattle.base_data.specs.Gives.{◌>>=◌}
use Rattle.base_data.specs.declared.fault.Bare.{Bare}
use Rattle.base_data.specs.declared.name.Label.{Label}
use Rattle.core_language.specs.Template.{PlainTemplate, variable, constant, list, vector, PlainItems, none, more}
use Rattle.eval_value.specs.Bind.{PlainBind, one, many}
use Rattle.eval_value.specs.FromDatum.{pairs_stored, vector_stored}
use Rattle.eval_value.specs.declared.cell.Cell.{Cell}
use Rattle.eval_value.specs.declared.value.Value.{Value}
use Rattle.eval_value.specs.declared.value.Value.TheVariants as value
use Rattle.base_data.specs.declared.atom.Atom.TheVariants.{Nil}
use Rattle.eval_template.specs.Binds.{Binds, Absent, reached, count_of, value_of}
use Rattle.eval_template.specs.Lengths.{lengths, items_lengths, agree, or_none}
use Rattle.eval_template.specs.Instance.{Adds, then_add, counts, is_end, ending, instance, parts, item, turned}
use Rattle.law_templates.specs.Ready.{HasDepth, Ready}
use Rattle.law_templates.proofs.Sight.{Sees, AllSeen, ItemsSeen, agreed_all, seen_next, seen_ready}

abbrev Added : Type 0
Added = Result (List Value × List Cell) Bare

module _ (a b : Absent) (binds : Binds) where
  -- lengths
  counted : (turns : List ℕ) (k : ℕ) (l : Label) (d : ℕ) → Sees binds turns (suc k) l d → lengths a binds turns k (variable l d) ≡ lengths b binds turns k (variable l d)
  counted turns k l d s = go (nat_lt k d) refl
    where
      same : (c : PlainBind) → reached binds l (d - suc k) turns ≡ Some c → HasDepth (suc k) c → count_of a (reached binds l (d - suc k) turns) ≡ count_of b (reached binds l (d - suc k) turns)
      same (one v) e deep = absurd deep
      same (many bs) e deep = ap (count_of a) e ∙ sym (ap (count_of b) e)

      go : (r : Bool) → nat_lt k d ≡ r → (if r then count_of a (reached binds l (d - suc k) turns) ∷ [] else []) ≡ (if r then count_of b (reached binds l (d - suc k) turns) ∷ [] else [])
      go true e = ap (λ n. n ∷ []) (same s.bound s.reach (subst (λ m. HasDepth m s.bound) (let f : d - (d - suc k) ≡ suc k = omega (arith, ltb-true k d e) in f) s.deep))
      go false e = refl

  mutual
    same_lengths : (turns : List ℕ) (k : ℕ) (t : PlainTemplate) → AllSeen binds turns (suc k) t → lengths a binds turns k t ≡ lengths b binds turns k t
    same_lengths turns k (variable l d) s = counted turns k l d s
    same_lengths turns k (constant t) s = refl
    same_lengths turns k (list is t) s = λ i. same_item_lengths turns k is s.0 i ++ same_lengths turns k t s.1 i
    same_lengths turns k (vector is) s = same_item_lengths turns k is s

    same_item_lengths : (turns : List ℕ) (k : ℕ) (is : PlainItems) → ItemsSeen binds turns (suc k) is → items_lengths a binds turns k is ≡ items_lengths b binds turns k is
    same_item_lengths turns k none s = refl
    same_item_lengths turns k (more t e is) s =
        let up : suc k + e ≡ suc (k + e) = omega arith in
        λ i. same_lengths turns (k + e) t (subst (λ m. AllSeen binds turns m t) up s.0) i ++ same_item_lengths turns k is s.1 i

  -- turns from the i-th on
  same_turned : (go to : List ℕ → List Value → Adds (List Value)) (turns : List ℕ) (count n i : ℕ) (done : List Value) (cells : List Cell) → n + i ≤ count
      → ((j : ℕ) (done : List Value) (cells : List Cell) → j < count → go (turns ++ j ∷ []) done cells ≡ to (turns ++ j ∷ []) done cells)
      → turned go n i turns done cells ≡ turned to n i turns done cells
  same_turned go to turns count zero i done cells h k = refl
  same_turned go to turns count (suc n) i done cells h k =
      ap (λ r. then_add r (turned go n (i + 1) turns)) (k i done cells (omega arith))
      ∙ on (λ xs cells. same_turned go to turns count n (i + 1) xs cells (omega arith) k) (to (turns ++ i ∷ []) done cells)
    where
      on : ((xs : List Value) (cells : List Cell) → turned go n (i + 1) turns xs cells ≡ turned to n (i + 1) turns xs cells)
          → (r : Added) → then_add r (turned go n (i + 1) turns) ≡ then_add r (turned to n (i + 1) turns)
      on ih (Ok p) = ih p.0 p.1
      on ih (Err f) = refl

  module _ (t : PlainTemplate) (ih : (turns : List ℕ) (cells : List Cell) → AllSeen binds turns 0 t → instance a binds t turns cells ≡ instance b binds t turns cells) where
    same_item : (e : ℕ) (turns : List ℕ) (done : List Value) (cells : List Cell) → AllSeen binds turns e t
        → item (instance a binds t) (counts a binds t) e turns done cells ≡ item (instance b binds t) (counts b binds t) e turns done cells
    same_item zero turns done cells s = ap (λ r. then_add r (λ v cells. Ok (done ++ v ∷ [], cells))) (ih turns cells s)
    same_item (suc e) turns done cells s =
        ap (λ ns. agree None ns >>= λ n. turned (item (instance a binds t) (counts a binds t) e) (or_none n) 0 turns done cells) (same_lengths turns e t s)
        ∙ on (same_item e) (agree None (lengths b binds turns e t)) refl
      where
        on : ((turns : List ℕ) (done : List Value) (cells : List Cell) → AllSeen binds turns e t → item (instance a binds t) (counts a binds t) e turns done cells ≡ item (instance b binds t) (counts b binds t) e turns done cells)
            → (r : Result (Option ℕ) Bare) → agree None (lengths b binds turns e t) ≡ r
            → (r >>= λ n. turned (item (instance a binds t) (counts a binds t) e) (or_none n) 0 turns done cells) ≡ (r >>= λ n. turned (item (instance b binds t) (counts b binds t) e) (or_none n) 0 turns done cells)
        on go (Err f) h = refl
        on go (Ok m) h =
            same_turned (item (instance a binds t) (counts a binds t) e) (item (instance b binds t) (counts b binds t) e) turns (or_none m) (or_none m) 0 done cells (omega arith)
            (λ j done cells below. go (turns ++ j ∷ []) done cells (seen_next b binds turns (or_none m) j below e t s (agreed_all (lengths b binds turns e t) m h)))

  -- values
  valued : (l : Label) (d : ℕ) (turns : List ℕ) → Sees binds turns 0 l d → value_of a (reached binds l d turns) ≡ value_of b (reached binds l d turns)
  valued l d turns s =
      let all : d - 0 ≡ d = omega arith in
      same s.bound (ap (λ n. reached binds l n turns) (sym all) ∙ s.reach) (subst (λ m. HasDepth m s.bound) (let f : d - (d - 0) ≡ 0 = omega arith in f) s.deep)
    where
      same : (c : PlainBind) → reached binds l d turns ≡ Some c → HasDepth 0 c → value_of a (reached binds l d turns) ≡ value_of b (reached binds l d turns)
      same (one v) e deep = ap (value_of a) e ∙ sym (ap (value_of b) e)
      same (many bs) e deep = absurd deep

  joined : (t : PlainTemplate) (x y : Adds Value) → ((cells : List Cell) → x cells ≡ y cells) → (r : Added)
      → then_add r (λ xs cells. then_add (ending t x cells) (λ v cells. Ok (pairs_stored xs (v, cells)))) ≡ then_add r (λ xs cells. then_add (ending t y cells) (λ v cells. Ok (pairs_stored xs (v, cells))))
  joined t x y same (Err f) = refl
  joined t x y same (Ok p) = ap (λ r. then_add r (λ v cells. Ok (pairs_stored p.0 (v, cells)))) (ended (is_end t))
    where
      ended : (r : Bool) → (if r then Ok (value.Atom Nil, p.1) else x p.1) ≡ (if r then Ok (value.Atom Nil, p.1) else y p.1)
      ended true = refl
      ended false = same p.1

  then_parts : (x y : List Value → Adds (List Value)) → ((xs : List Value) (cells : List Cell) → x xs cells ≡ y xs cells) → (r : Added) → then_add r x ≡ then_add r y
  then_parts x y same (Err f) = refl
  then_parts x y same (Ok p) = same p.0 p.1

  mutual
    pub same_instance : (t : PlainTemplate) (turns : List ℕ) (cells : List Cell) → AllSeen binds turns 0 t → instance a binds t turns cells ≡ instance b binds t turns cells
    same_instance (variable l d) turns cells s = ap (λ v. Ok (v, cells)) (valued l d turns s)
    same_instance (constant t) turns cells s = refl
    same_instance (list is t) turns cells s =
        ap (λ r. then_add r (λ xs cells. then_add (ending t (instance a binds t turns) cells) (λ v cells. Ok (pairs_stored xs (v, cells))))) (same_parts is turns [] cells s.0)
        ∙ joined t (instance a binds t turns) (instance b binds t turns) (λ cells. same_instance t turns cells s.1) (parts b binds is turns [] cells)
    same_instance (vector is) turns cells s = ap (λ r. then_add r (λ xs cells. Ok (vector_stored (xs, cells)))) (same_parts is turns [] cells s)

    same_parts : (is : PlainItems) (turns : List ℕ) (done : List Value) (cells : List Cell) → ItemsSeen binds turns 0 is → parts a binds is turns done cells ≡ parts b binds is turns done cells
    same_parts none turns done cells s = refl
    same_parts (more t e is) turns done cells s =
        let same : 0 + e ≡ e = omega arith in
        ap (λ r. then_add r (parts a binds is turns)) (same_item t (same_instance t) e turns done cells (subst (λ m. AllSeen binds turns m t) same s.0))
        ∙ then_parts (parts a binds is turns) (parts b binds is turns) (λ xs cells. same_parts is turns xs cells s.1) (item (instance b binds t) (counts b binds t) e turns done cells)

  pub nothing_missing : (t : PlainTemplate) (cells : List Cell) → Ready binds 0 t → instance a binds t [] cells ≡ instance b binds t [] cells
  nothing_missing t cells h = same_instance t [] cells (seen_ready binds 0 t h)
